-- The refusal of a log's line by that of a line.
use Rattle.line_forms.specs.declared.refusal.LineRefusal.{LineRefusal}
use Rattle.root_log.specs.declared.refusal.LogRefusal.{LogRefusal}

-- a line that isn't in the grammar is a bad event; want of memory stays that
abbrev pub refusal_of : LineRefusal → LogRefusal
refusal_of LineRefusal.BadLine = LogRefusal.BadEvent
refusal_of LineRefusal.NoMemory = LogRefusal.NoMemory
