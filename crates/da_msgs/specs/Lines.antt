-- Lines of the protocol.
use Rattle.std.specs.Prelude.{Bool, true, false, ◌&&◌, not, List, [], ◌∷◌, length, Option, Some, None, nat_le, ◌==◌}
use Rattle.std.specs.List.{list_any}
use Rattle.da_base.specs.Words.{Bytes}
use Rattle.da_fields.specs.FieldList.{field_text}

-- at most 8,192 bytes, and no LF
abbrev pub fits_a_line : Bytes → Bool
fits_a_line line = nat_le (length line) 8192 && not (list_any (λ c. c == 10) line)

-- the field, where there is a value
abbrev pub optional_field : Bytes → Option Bytes → List Bytes
optional_field key None = []
optional_field key (Some value) = field_text (key, value) ∷ []

-- the word, where it holds
abbrev pub flag : Bool → Bytes → List Bytes
flag true word = word ∷ []
flag false word = []
