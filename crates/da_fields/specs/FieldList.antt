-- Fields: pairs of a key and a value, with distinct keys.
use Rattle.std.specs.Prelude.{◌≡◌, ℕ, ◌+◌, ◌<◌, take, Bool, false, ◌&&◌, ◌||◌, not, List, [], ◌∷◌, ◌++◌, length, drop, map, filter, Option, Some, None, if◌then◌else◌, nat_lt, bytes_eq, codes, is_some}
use Rattle.da_base.specs.Words.{Bytes, begins_with, before_byte, after_byte, option_or_else, is_empty}

abbrev pub Pairs : Type 0
Pairs = List (Bytes × Bytes)

-- the value of a key
abbrev pub field : Bytes → Pairs → Option Bytes
field key [] = None
field key (p ∷ pairs) = if bytes_eq key p.0 then Some p.1 else field key pairs

-- the value in its key's place, or the pair last where the key isn't there
abbrev pub with_field : Bytes → Bytes → Pairs → Pairs
with_field key value [] = (key, value) ∷ []
with_field key value (p ∷ pairs) = if bytes_eq key p.0 then (key, value) ∷ pairs else (p ∷ with_field key value pairs)

abbrev pub with_fields : Pairs → Pairs → Pairs
with_fields pairs [] = pairs
with_fields pairs (p ∷ more) = with_fields (with_field p.0 p.1 pairs) more

-- each pair whose key isn't there yet
abbrev pub with_defaults : Pairs → Pairs → Pairs
with_defaults pairs [] = pairs
with_defaults pairs (p ∷ more) = with_defaults (if is_some (field p.0 pairs) then pairs else (pairs ++ p ∷ [])) more

-- defaults that aren't there yet, then the fields found, then the overrides
abbrev pub merge : Pairs → Pairs → Pairs → Pairs → Pairs
merge before defaults found overrides = with_fields (with_fields (with_defaults before defaults) found) overrides

abbrev pub is_userdb_key : Bytes → Bool
is_userdb_key key = begins_with (codes "userdb_") key && nat_lt 7 (length key)

abbrev pub is_hidden : Bytes → Bool
is_hidden key =
    is_userdb_key key || bytes_eq key (codes "allow_nets") || bytes_eq key (codes "nodelay") || bytes_eq key (codes "password")
    || bytes_eq key (codes "user") || bytes_eq key (codes "reason") || bytes_eq key (codes "resp") || bytes_eq key (codes "expired")

-- the fields that a client is told
abbrev pub visible : Pairs → Pairs
visible pairs = filter (λ p. not (is_hidden p.0)) pairs

-- the fields that begin with the prefix of the user databases, without it
abbrev pub userdb_part : Pairs → Pairs
userdb_part pairs = map (λ p. (drop 7 p.0, p.1)) (filter (λ p. is_userdb_key p.0) pairs)

-- ---- fields as texts

-- a key and its value with an equals sign between them; one with an empty value is its key alone
abbrev pub field_text : Bytes × Bytes → Bytes
field_text p = if is_empty p.1 then p.0 else (p.0 ++ (61 ∷ p.1))

-- the key of a text: what stands before the first equals sign, or the whole text
abbrev pub text_key : Bytes → Bytes
text_key text = before_byte 61 text

-- its value: what stands after that sign, or nothing
abbrev pub text_value : Bytes → Bytes
text_value text = option_or_else (after_byte 61 text) [] (λ value. value)

-- ---- distinct keys

-- no pair has this key
abbrev pub LacksKey : Bytes → Pairs → Type 0
LacksKey key [] = Unit {0}
LacksKey key (p ∷ pairs) = (bytes_eq key p.0 ≡ false) × LacksKey key pairs

-- no two pairs have the same key
abbrev pub AreDistinct : Pairs → Type 0
AreDistinct [] = Unit {0}
AreDistinct (p ∷ pairs) = LacksKey p.0 pairs × AreDistinct pairs

-- the first pair of this key stands at this index
pub record IsPlaceOf (key : Bytes) (pairs : Pairs) (at : ℕ) : Type 0 where
  pub within : at < length pairs
  pub before : LacksKey key (take at pairs)
  pub value : Bytes
  pub here : pairs ≡ take at pairs ++ (key, value) ∷ drop (at + 1) pairs
