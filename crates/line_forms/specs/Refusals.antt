-- What words are refused for that aren't a hex.
use Rattle.plasma_base.specs.declared.hex_text.HexRefusal.{HexRefusal}
use Rattle.line_forms.specs.declared.refusal.LineRefusal.{LineRefusal}

-- a bad hex is a bad line, and want of memory is want of memory
abbrev pub line_refusal : HexRefusal → LineRefusal
line_refusal HexRefusal.BadHex = LineRefusal.BadLine
line_refusal HexRefusal.NoMemory = LineRefusal.NoMemory
