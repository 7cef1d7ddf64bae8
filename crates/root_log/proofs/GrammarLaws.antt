-- What is printed is read, and what is read is printed so.
use Rattle.std.proofs.Common.{◌≡◌, ℕ, false, List, [], Some, refl, subst, ap, ◌∙◌, rules}
use Rattle.std.specs.Option.{option_and_then}
use Rattle.line_forms.specs.Forms.{value_in, text_of}
use Rattle.line_forms.specs.Laws.{IsRow, IsMade, IsTable}
use Rattle.line_forms.proofs.FormLaws.{whole-words, words-whole, and_then_some, option_map_some}
use Rattle.line_forms.proofs.TokenLaws.{kinds}
use Rattle.plasma_tx.specs.Chain.{Chain, with_log}
use Rattle.plasma_tx.specs.declared.call.RootCall.{RootCall}
use Rattle.schedule_text.specs.Grammar.{IsLine, line_text, line_in}
use Rattle.schedule_text.proofs.GrammarLaws.{line_in-line_text, line_text-line_in}
use Rattle.root_log.specs.declared.first_line.FirstLine.{FirstLine}
use Rattle.root_log.specs.declared.first_line.FirstName.{FirstName}
use Rattle.root_log.specs.Calls.{call_of_line, line_of}
use Rattle.root_log.specs.Grammar.{IsLogCall, call_text, call_in, first_lines, first_parts, first_of, chain_of, IsLogChain, chain_text, chain_in}
use Rattle.root_log.proofs.CallLaws.{call_of_line-line_of, line_of-call_of_line}

-- ---- calls

pub call_in-call_text : (call : RootCall) → IsLogCall call → call_in (call_text call) ≡ Some call
unfolding call_in call_text
call_in-call_text call h =
    ap (option_and_then call_of_line) (line_in-line_text (line_of call) h) ∙ call_of_line-line_of call

pub call_text-call_in : (bytes : List ℕ) (call : RootCall) → call_in bytes ≡ Some call
    → (bytes ≡ call_text call) × IsLogCall call
unfolding call_in call_text
call_text-call_in bytes call h =
    let p = and_then_some call_of_line (line_in bytes) call h in
    let q = line_text-line_in bytes p.0 p.1 in
    let same = line_of-call_of_line p.0 call p.2 in
    (q.0 ∙ ap line_text same, subst IsLine same q.1)

-- ---- the first line

first-row : (name : FirstName) → IsRow false first_lines first_parts name
first-row FirstName.Chain = search kinds

first-made : (first : FirstLine) → IsMade first_lines first_parts first
first-made first = refl

pub first_table : IsTable false FirstName FirstLine first_lines first_parts
first_table = record { names = search rules; rows = first-row; made_of = first-made }

pub chain_in-chain_text : (chain : Chain) → IsLogChain chain → chain_in (chain_text chain) ≡ Some (with_log chain [])
unfolding chain_in chain_text value_in text_of
chain_in-chain_text chain h =
    rw (whole-words first_lines first_parts first_table (first_of chain) h) refl

pub chain_text-chain_in : (bytes : List ℕ) (chain : Chain) → chain_in bytes ≡ Some chain
    → (bytes ≡ chain_text chain) × IsLogChain chain × (chain.log ≡ [])
unfolding chain_in chain_text value_in text_of
chain_text-chain_in bytes chain h =
    let p = option_map_some chain_of (value_in first_lines bytes) chain h in
    let q = words-whole first_lines first_parts first_table bytes p.0 p.1 in
    subst (λ (chain : Chain). (bytes ≡ chain_text chain) × IsLogChain chain × (chain.log ≡ [])) p.2 (q.0, q.1, refl)
