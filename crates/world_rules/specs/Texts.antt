-- The texts of a trace, of verdicts, of the exhibit and of counts.
use Rattle.std.specs.Prelude.{ℕ, ◌+◌, Bool, true, false, List, [], ◌∷◌, ◌++◌, length, codes}
use Rattle.plasma_base.specs.HexText.{hex_text}
use Rattle.line_forms.specs.Tokens.{number_text}
use Rattle.node_replies.specs.{declared.reply.Reply.{Reply}, Causes.{phrase}, Texts.{reply_text}}
use Rattle.world_rules.specs.{declared.verdict.Verdict.{Verdict}, declared.verdict.VerdictKind.{VerdictKind}, declared.verdict.Exhibit.{Exhibit}, Steps.{TraceEntry}, declared.verdict.Counts.{Counts}}

-- what stands before the answer of a command in a `cut` which ended first
abbrev pub done_text : Bool → List ℕ
done_text false = []
done_text true = codes "done "

-- a line of a trace: its number, a blank, the answer and a line feed; 10 is the line feed
unfoldable pub trace_line_text : ℕ → Bool → Reply → List ℕ
trace_line_text line done reply = number_text line ++ 32 ∷ done_text done ++ reply_text reply ++ 10 ∷ []

-- the lines of a trace, the newest first, in their order
unfoldable pub entries_text : List TraceEntry → List ℕ
entries_text [] = []
entries_text (entry ∷ entries) =
    entries_text entries ++ trace_line_text (length entries + 1) entry.done entry.reply

-- a verdict: the wallet's name, the coin, and the kind
abbrev pub verdict_kind_text : VerdictKind → List ℕ
verdict_kind_text VerdictKind.Held = codes "held"
verdict_kind_text VerdictKind.Paid = codes "paid"
verdict_kind_text VerdictKind.Away = codes "away"
verdict_kind_text VerdictKind.Lost = codes "lost"
verdict_kind_text (VerdictKind.Unattended line) = phrase (codes "unattended") (line ∷ [])

unfoldable pub verdict_text : Verdict → List ℕ
verdict_text verdict =
    phrase verdict.wallet (verdict.coin ∷ []) ++ 32 ∷ verdict_kind_text verdict.kind ++ 10 ∷ []

-- the exhibit
abbrev pub exhibit_words : Exhibit → List ℕ
exhibit_words Exhibit.Nothing = codes "no exhibit"
exhibit_words (Exhibit.Collision first second) = codes "collision " ++ hex_text first ++ 32 ∷ hex_text second
exhibit_words (Exhibit.Forgery line) = phrase (codes "forgery") (line ∷ [])

unfoldable pub exhibit_text : Exhibit → List ℕ
exhibit_text exhibit = exhibit_words exhibit ++ 10 ∷ []

-- a count: its name, and the number after a blank
abbrev pub count_text : List ℕ → ℕ → List ℕ
count_text name number = phrase name (number ∷ []) ++ 10 ∷ []

-- how many lines, and what they made
abbrev pub line_counts_text : Counts → List ℕ
line_counts_text counts =
    count_text (codes "lines") counts.lines
    ++ count_text (codes "accepted") counts.accepted
    ++ count_text (codes "refused") counts.refused
    ++ count_text (codes "blocks") counts.blocks
    ++ count_text (codes "coins") counts.coins

-- how many verdicts of each kind
abbrev pub verdict_counts_text : Counts → List ℕ
verdict_counts_text counts =
    count_text (codes "held") counts.held
    ++ count_text (codes "paid") counts.paid
    ++ count_text (codes "away") counts.away
    ++ count_text (codes "lost") counts.lost
    ++ count_text (codes "unattended") counts.unattended

unfoldable pub counts_text : Counts → List ℕ
counts_text counts = line_counts_text counts ++ verdict_counts_text counts
