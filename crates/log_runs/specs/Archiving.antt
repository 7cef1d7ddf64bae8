-- What a run of an archive does behind the lines of its log.
use Rattle.std.specs.Prelude.{ℕ, true, List, [], ◌∷◌, ◌++◌, codes, Option, Some, None, Result, Ok, Err}
use Rattle.plasma_base.specs.HexText.{hex_text}
use Rattle.plasma_tx.specs.declared.opening.RawOpening.{RawOpening}
use Rattle.plasma_tx.specs.Chain.{with_log}
use Rattle.coin_history.specs.declared.bundle.Bundle.{Bundle}
use Rattle.coin_history.specs.Bundles.{bundle_text}
use Rattle.proof_archive.specs.declared.refusal.ArchiveRefusal.{ArchiveRefusal}
use Rattle.proof_archive.specs.declared.refusal.ArchiveRefusal.TheVariants.{NoCoin, UnknownBlock, HaveBlock, Gap, BadOpening, NotTip, NoMemory}
use Rattle.proof_archive.specs.Archives.{put_answer, tip_answer, broken_answer, bundle_answer}
use Rattle.proof_archive.specs.Laws.{Follow, Put, Holding, held_with}
use Rattle.streamed_lines.specs.declared.ending.Stop.TheVariants.{BadLine, Ends}
use Rattle.log_runs.specs.declared.archive_line.ArchiveAsk.{ArchiveAsk}
use Rattle.log_runs.specs.declared.archive_line.ArchiveLine.{ArchiveLine}
use Rattle.log_runs.specs.Following.{Following, OrStop}
use Rattle.log_runs.specs.Texts.{with_number, told}
use Rattle.log_runs.specs.Grammar.{archive_line_in}

-- ---- texts

-- what an archive refuses for; that memory ran out is no answer of it
abbrev pub archive_cause : ArchiveRefusal → List ℕ
archive_cause NoCoin = codes "no-coin"
archive_cause (UnknownBlock n) = with_number (codes "unknown-block") n
archive_cause (HaveBlock n) = with_number (codes "have-block") n
archive_cause (Gap n) = with_number (codes "gap") n
archive_cause (BadOpening n) = with_number (codes "bad-opening") n
archive_cause (NotTip tip) = with_number (codes "not-tip") tip
archive_cause NoMemory = codes "no-memory"

-- a coin's broken block; 10 is the line feed
abbrev pub broken_text : Option ℕ → List ℕ
broken_text None = codes "whole" ++ 10 ∷ []
broken_text (Some n) = told (codes "broken") n

-- a bundle: its tip, and its bytes as a hex on a line of its own
abbrev pub bundled_text : Bundle → List ℕ
bundled_text bundle = told (codes "bundled") bundle.tip ++ (hex_text (bundle_text bundle) ++ 10 ∷ [])

-- ---- what is asked

-- this text of an answer, where it isn't refused
abbrev pub in_text : {T : Type 0} → (T → List ℕ) → Result T ArchiveRefusal → Result (List ℕ) ArchiveRefusal
in_text text (Ok value) = Ok (text value)
in_text text (Err why) = Err why

-- the opening of a block
abbrev pub opening_at : ℕ → List ℕ → RawOpening
opening_at block bytes = record { block = block; bytes = bytes }

-- what is answered to one that holds this, by a scan of all that is held of the coin
unfoldable pub answer_to : (List ℕ → List ℕ) → Holding → ArchiveAsk → Result (List ℕ) ArchiveRefusal
answer_to dig held (ArchiveAsk.Put coin block bytes) =
    in_text (told (codes "kept")) (put_answer dig held.chain (held.kept coin) coin (opening_at block bytes))
answer_to dig held (ArchiveAsk.Tip coin) =
    in_text (told (codes "tip")) (tip_answer dig held.chain (held.kept coin) coin)
answer_to dig held (ArchiveAsk.Broken coin) = Ok (broken_text (broken_answer dig held.chain (held.kept coin) coin))
answer_to dig held (ArchiveAsk.Bundle coin tip) =
    in_text bundled_text (bundle_answer dig held.chain (held.kept coin) coin tip)

-- and what is held then
unfoldable pub held_behind : (List ℕ → List ℕ) → Holding → ArchiveAsk → Holding
held_behind dig held (ArchiveAsk.Put coin block bytes) = held_with dig held (Put coin (opening_at block bytes))
held_behind dig held ask = held

-- ---- lines

-- a line that is answered so and leaves this, or is refused
abbrev pub said : Holding → Result (List ℕ) ArchiveRefusal → OrStop (Holding × List ℕ)
said held (Ok text) = Ok (held, text)
said held (Err why) = Err (Ends (archive_cause why))

-- what a line comes to: a call joins the log, and an ask is answered
abbrev pub archive_does : (List ℕ → List ℕ) → Holding → ArchiveLine → OrStop (Holding × List ℕ)
archive_does dig held (ArchiveLine.Event call) = Ok (held_with dig held (Follow call), codes "followed" ++ 10 ∷ [])
archive_does dig held (ArchiveLine.Ask ask) = said (held_behind dig held ask) (answer_to dig held ask)

abbrev pub archive_line : (List ℕ → List ℕ) → Holding → Option ArchiveLine → OrStop (Holding × List ℕ)
archive_line dig held None = Err BadLine
archive_line dig held (Some line) = archive_does dig held line

-- a run of an archive, under a digest: it holds nothing of the chain at first, and its input may end behind any line
abbrev pub archiving : (List ℕ → List ℕ) → Following Holding
archiving dig = record {
  begin = λ chain. record { chain = with_log chain []; kept = λ coin. [] };
  follow = λ call held. held_with dig held (Follow call);
  command = λ held line. archive_line dig held (archive_line_in line);
  may_end = λ held. true;
}
