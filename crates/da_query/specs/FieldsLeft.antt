-- The fields of a line that were not read yet.
use Rattle.std.specs.Prelude.{List, [], Option, Some, None}
use Rattle.da_base.specs.Words.{Bytes}
use Rattle.da_tabline.specs.Escapes.{line_fields}

-- none, or those of what is left of the line
abbrev pub fields_left : Option Bytes → List Bytes
fields_left None = []
fields_left (Some rest) = line_fields rest
