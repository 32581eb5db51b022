-- User names.
use Rattle.std.specs.Prelude.{ℕ, Bool, ◌&&◌, not, map, length, Option, Some, None, option_map, if◌then◌else◌, nat_le, ◌==◌}
use Rattle.std.specs.List.{list_any, list_all}
use Rattle.std.specs.Char.{to_ascii_lowercase}
use Rattle.da_base.specs.Words.{Bytes, before_byte, after_byte, is_empty}

-- a name of 1 to 255 bytes, each of the characters that names may have
abbrev pub is_name : Bytes → Bytes → Bool
is_name chars name = not (is_empty name) && nat_le (length name) 255 && list_all (λ c. list_any (λ d. d == c) chars) name

-- the name made normal, where it is a valid user name
abbrev pub normal : Bytes → Bool → Bytes → Option Bytes
normal chars lowered name = if is_name chars name then Some (if lowered then map to_ascii_lowercase name else name) else None

-- the parts before and after the first separator
abbrev pub split_name : ℕ → Bytes → Option (Bytes × Bytes)
split_name separator name = option_map (λ after. (before_byte separator name, after)) (after_byte separator name)
