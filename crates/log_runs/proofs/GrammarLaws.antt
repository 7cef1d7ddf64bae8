-- What is spelled is read, and what is read is spelled so.
use Rattle.std.proofs.Common.{◌≡◌, ℕ, Bool, true, false, if◌then◌else◌, List, ◌++◌, drop, Some, option_map, refl, sym, ap, ◌∙◌, subst, rules}
use Rattle.std.specs.Prelude.{nat_eq}
use Rattle.std.specs.List.{starts_with}
use Rattle.std.proofs.lemmas.Bool.Decides.{Decides-eqb}
use Rattle.std.proofs.lemmas.Slice.Eq.{starts_is}
use Rattle.line_forms.specs.Forms.{value_in, text_of, AreParts}
use Rattle.line_forms.specs.Laws.{IsRow, IsMade, IsTable}
use Rattle.line_forms.proofs.FormLaws.{whole-words, words-whole, option_map_some}
use Rattle.line_forms.proofs.TokenLaws.{kinds}
use Rattle.root_log.specs.Grammar.{call_in}
use Rattle.root_log.proofs.GrammarLaws.{call_in-call_text, call_text-call_in}
use Rattle.log_runs.specs.declared.archive_line.ArchiveAsk.{ArchiveAsk}
use Rattle.log_runs.specs.declared.archive_line.ArchiveAskName.{ArchiveAskName}
use Rattle.log_runs.specs.declared.archive_line.ArchiveLine.{ArchiveLine}
use Rattle.log_runs.specs.Grammar.{asks, ask_parts, event_mark, IsArchiveLine, archive_line_text, archive_line_in}

-- ---- the table

ask-row : (name : ArchiveAskName) → IsRow false asks ask_parts name
ask-row ArchiveAskName.Put = search kinds
ask-row _ = search kinds

ask-made : (ask : ArchiveAsk) → IsMade asks ask_parts ask
ask-made (ArchiveAsk.Put coin block opening) = refl
ask-made _ = refl

ask_table : IsTable false ArchiveAskName ArchiveAsk asks ask_parts
ask_table = record { names = search rules; rows = ask-row; made_of = ask-made }

ask_in-text : (ask : ArchiveAsk) → AreParts asks (ask_parts ask)
    → value_in asks (text_of asks (ask_parts ask)) ≡ Some ask
unfolding value_in text_of
ask_in-text = whole-words asks ask_parts ask_table

ask_text-in : (bytes : List ℕ) (ask : ArchiveAsk) → value_in asks bytes ≡ Some ask
    → (bytes ≡ text_of asks (ask_parts ask)) × AreParts asks (ask_parts ask)
unfolding value_in text_of
ask_text-in = words-whole asks ask_parts ask_table

-- ---- its lines

-- no first word of the table begins like that of a call
ask-other : (ask : ArchiveAsk) → starts_with nat_eq (text_of asks (ask_parts ask)) event_mark ≡ false
unfolding text_of
ask-other (ArchiveAsk.Put coin block opening) = refl
ask-other (ArchiveAsk.Tip coin) = refl
ask-other (ArchiveAsk.Broken coin) = refl
ask-other (ArchiveAsk.Bundle coin tip) = refl

pub archive_line_in-text : (line : ArchiveLine) → IsArchiveLine line
    → archive_line_in (archive_line_text line) ≡ Some line
unfolding archive_line_in archive_line_text
archive_line_in-text (ArchiveLine.Event call) is = ap (option_map ArchiveLine.Event) (call_in-call_text call is)
archive_line_in-text (ArchiveLine.Ask ask) is =
    rw (ask-other ask) (ap (option_map ArchiveLine.Ask) (ask_in-text ask is))

pub archive_line_text-in : (bytes : List ℕ) (line : ArchiveLine) → archive_line_in bytes ≡ Some line
    → (bytes ≡ archive_line_text line) × IsArchiveLine line
unfolding archive_line_in archive_line_text
archive_line_text-in bytes line is = by (starts_with nat_eq bytes event_mark) refl is
  where
    by : (event : Bool) → starts_with nat_eq bytes event_mark ≡ event
        → (if event then option_map ArchiveLine.Event (call_in (drop 6 bytes))
        else option_map ArchiveLine.Ask (value_in asks bytes)) ≡ Some line
        → (bytes ≡ archive_line_text line) × IsArchiveLine line
    by true marked is =
        let p = option_map_some ArchiveLine.Event (call_in (drop 6 bytes)) line is in
        let q = call_text-call_in (drop 6 bytes) p.0 p.1 in
        let front : bytes ≡ event_mark ++ drop 6 bytes =
        (starts_is Decides-eqb bytes event_mark true (sym marked)).0 refl in
        subst (λ (line : ArchiveLine). (bytes ≡ archive_line_text line) × IsArchiveLine line) p.2
        (front ∙ ap (λ rest. event_mark ++ rest) q.0, q.1)
    by false other is =
        let p = option_map_some ArchiveLine.Ask (value_in asks bytes) line is in
        let q = ask_text-in bytes p.0 p.1 in
        subst (λ (line : ArchiveLine). (bytes ≡ archive_line_text line) × IsArchiveLine line) p.2 (q.0, q.1)
