-- The lines of an archive behind the log: the one spelling of each, and the line that bytes spell.
use Rattle.std.specs.Prelude.{◌≡◌, ◌⊎◌, ℕ, nat_eq, Bool, true, false, if◌then◌else◌, List, ◌++◌, drop, map, codes, Option, IsSome, option_map}
use Rattle.std.specs.List.{starts_with}
use Rattle.line_forms.specs.Forms.{Form, named, Table, Parts, of, ends, ◌▸◌, AreParts, begins_as, text_of, value_in}
use Rattle.line_forms.specs.Words.{words_of}
use Rattle.line_forms.specs.Tokens.{number, hex}
use Rattle.schedule_text.specs.Grammar.{begins_with_bytes}
use Rattle.root_log.specs.Grammar.{IsLogCall, call_text, call_in}
use Rattle.log_runs.specs.declared.archive_line.ArchiveAsk.{ArchiveAsk}
use Rattle.log_runs.specs.declared.archive_line.ArchiveAskName.{ArchiveAskName}
use Rattle.log_runs.specs.declared.archive_line.ArchiveLine.{ArchiveLine}
use Rattle.log_runs.specs.declared.archive_line.TheConstants.{ARCHIVE_ASK_NAMES}

-- ---- what an archive is asked

-- each: its first word, and the kinds of its tokens
abbrev pub ask_form : ArchiveAskName → Form ArchiveAsk
ask_form ArchiveAskName.Put = named (codes "put") (number ▸ number ▸ hex ▸ ends) ArchiveAsk.Put
ask_form ArchiveAskName.Tip = named (codes "tip") (number ▸ ends) ArchiveAsk.Tip
ask_form ArchiveAskName.Broken = named (codes "broken") (number ▸ ends) ArchiveAsk.Broken
ask_form ArchiveAskName.Bundle = named (codes "bundle") (number ▸ number ▸ ends) ArchiveAsk.Bundle

-- the table of these
abbrev pub asks : Table ArchiveAskName ArchiveAsk
asks = record { names = map (λ row. (row.0.now, row.1)) ARCHIVE_ASK_NAMES; row = ask_form }

-- one as a row of the table, and its tokens
abbrev pub ask_parts : ArchiveAsk → Parts ArchiveAskName ArchiveAsk asks
ask_parts (ArchiveAsk.Put coin block opening) = of asks ArchiveAskName.Put coin block opening
ask_parts (ArchiveAsk.Tip coin) = of asks ArchiveAskName.Tip coin
ask_parts (ArchiveAsk.Broken coin) = of asks ArchiveAskName.Broken coin
ask_parts (ArchiveAsk.Bundle coin tip) = of asks ArchiveAskName.Bundle coin tip

-- ---- its lines

-- what stands before a call
abbrev pub event_mark : List ℕ
event_mark = codes "event "

-- which lines are in the grammar: `event ` and a line of a log, or one of the above
abbrev pub IsArchiveLine : ArchiveLine → Type 0
IsArchiveLine (ArchiveLine.Event call) = IsLogCall call
IsArchiveLine (ArchiveLine.Ask ask) = AreParts asks (ask_parts ask)

-- the one spelling of a line
unfoldable pub archive_line_text : ArchiveLine → List ℕ
archive_line_text (ArchiveLine.Event call) = event_mark ++ call_text call
archive_line_text (ArchiveLine.Ask ask) = text_of asks (ask_parts ask)

-- the line that bytes spell, if they spell one
unfoldable pub archive_line_in : List ℕ → Option ArchiveLine
archive_line_in bytes =
    if starts_with nat_eq bytes event_mark then option_map ArchiveLine.Event (call_in (drop 6 bytes))
    else option_map ArchiveLine.Ask (value_in asks bytes)

-- ---- memory

-- what is asked so has bytes, which take memory to be read
abbrev pub ask_has_bytes : ArchiveAskName → Bool
ask_has_bytes ArchiveAskName.Put = true
ask_has_bytes _ = false

-- whether a line begins one that may have bytes
abbrev pub archive_begins_with_bytes : List ℕ → Bool
archive_begins_with_bytes bytes =
    if starts_with nat_eq bytes event_mark then begins_with_bytes (drop 6 bytes)
    else begins_as asks ask_has_bytes (words_of bytes)

-- a line may take memory where it begins so, and where it is one, to be answered
abbrev pub archive_takes_memory : List ℕ → Type 0
archive_takes_memory bytes = (archive_begins_with_bytes bytes ≡ true) ⊎ IsSome (archive_line_in bytes)
