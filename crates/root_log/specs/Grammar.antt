-- The lines of a log: the one spelling of the first line and of each call, and what bytes spell.
use Rattle.std.specs.Prelude.{◌≡◌, ◌⊎◌, ℕ, Bool, true, List, [], ◌∷◌, map, codes, Option, IsSome, option_map, option_and_then}
use Rattle.line_forms.specs.Forms.{Form, named, Table, Parts, of, ends, ◌▸◌, AreParts, begins_as, text_of, value_in}
use Rattle.line_forms.specs.Words.{words_of}
use Rattle.line_forms.specs.Tokens.{number, number_within, hex_of}
use Rattle.plasma_tx.specs.declared.call.RootCall.{RootCall}
use Rattle.plasma_tx.specs.Chain.{Chain, with_log}
use Rattle.schedule_text.specs.Grammar.{IsLine, begins_with_bytes, line_text, line_in}
use Rattle.root_log.specs.declared.first_line.FirstLine.{FirstLine}
use Rattle.root_log.specs.declared.first_line.FirstName.{FirstName}
use Rattle.root_log.specs.declared.first_line.TheConstants.{FIRST_NAMES, TAG_BYTES, MOST_BLOCKS}
use Rattle.root_log.specs.Calls.{call_of_line, line_of}

-- ---- calls: the lines of a schedule that are calls

-- whether the line of a call is in the grammar: each number has 64 bits, a key 56 bytes, and a root 32
abbrev pub IsLogCall : RootCall → Type 0
IsLogCall call = IsLine (line_of call)

-- the one spelling of a call
unfoldable pub call_text : RootCall → List ℕ
call_text call = line_text (line_of call)

-- the call that bytes spell, if they spell one
unfoldable pub call_in : List ℕ → Option RootCall
call_in bytes = option_and_then call_of_line (line_in bytes)

-- the chain with the call that bytes spell as its newest
abbrev pub appended : Chain → List ℕ → Option Chain
appended chain bytes = option_map (λ call. with_log chain (call ∷ chain.log)) (call_in bytes)

-- a line that takes memory to be read into a log: its first word begins a form that may have a name or bytes, or it
-- spells a call
abbrev pub TakesMemory : List ℕ → Type 0
TakesMemory bytes = (begins_with_bytes bytes ≡ true) ⊎ IsSome (call_in bytes)

-- ---- the first line

-- `chain`, the tag, the operator's account, and the most blocks
abbrev pub first_form : FirstName → Form FirstLine
first_form FirstName.Chain =
    named (codes "chain") (hex_of TAG_BYTES ▸ number ▸ number_within 1 MOST_BLOCKS ▸ ends)
    (λ tag operator most. record { tag = tag; operator = operator; most = most })

-- the table of the first line
abbrev pub first_lines : Table FirstName FirstLine
first_lines = record { names = map (λ row. (row.0.now, row.1)) FIRST_NAMES; row = first_form }

-- a first line as a row of the table, and its tokens
abbrev pub first_parts : FirstLine → Parts FirstName FirstLine first_lines
first_parts first = of first_lines FirstName.Chain first.tag first.operator first.most

-- which first lines are in the grammar
abbrev pub IsFirstLine : FirstLine → Type 0
IsFirstLine first = AreParts first_lines (first_parts first)

-- the first line of a chain's log
abbrev pub first_of : Chain → FirstLine
first_of chain = record { tag = chain.tag; operator = chain.operator; most = chain.most_blocks }

-- the chain that a first line names, without calls
abbrev pub chain_of : FirstLine → Chain
chain_of first = record { tag = first.tag; operator = first.operator; most_blocks = first.most; log = [] }

-- whether the first line of a chain's log is in the grammar
abbrev pub IsLogChain : Chain → Type 0
IsLogChain chain = IsFirstLine (first_of chain)

-- the one spelling of a first line
unfoldable pub chain_text : Chain → List ℕ
chain_text chain = text_of first_lines (first_parts (first_of chain))

-- the chain without calls that bytes spell as a first line, if they spell one
unfoldable pub chain_in : List ℕ → Option Chain
chain_in bytes = option_map chain_of (value_in first_lines bytes)

-- whether the first word of a line is `chain`
abbrev pub begins_as_chain : List ℕ → Bool
begins_as_chain bytes = begins_as first_lines (λ _. true) (words_of bytes)
