-- Addresses as they are written (RFC 4291, section 2.2, without dotted tails and zones).
use Rattle.std.specs.Prelude.{ℕ, ◌+◌, ◌-◌, ◌*◌, Bool, ◌&&◌, List, [], ◌∷◌, ◌++◌, length, replicate, Option, Some, None, option_map, option_and_then, if◌then◌else◌, nat_le, ◌==◌}
use Rattle.std.specs.List.{list_any}
use Rattle.da_base.specs.Words.{Bytes, pieces, is_empty, number_of}
use Rattle.da_nets.specs.declared.address.Ip.{Ip}
use Rattle.da_nets.specs.declared.address.Ip.TheVariants.{V4, V6}

-- the number that digits of a base spell, the first the highest
abbrev pub number_in : ℕ → List ℕ → ℕ → ℕ
number_in base [] value = value
number_in base (digit ∷ digits) value = number_in base digits (base * value + digit)

-- what each text is read as, where each can be read
abbrev pub read_each : (Bytes → Option ℕ) → List Bytes → Option (List ℕ)
read_each read [] = Some []
read_each read (text ∷ texts) = option_and_then (λ x. option_map (λ xs. x ∷ xs) (read_each read texts)) (read text)

-- ---- the fourth version: four numbers up to 255 with dots between them

abbrev pub is_four : List ℕ → Bool
is_four bytes = length bytes == 4

abbrev pub v4_of : List ℕ → Option Ip
v4_of bytes = if is_four bytes then Some (V4 (number_in 256 bytes 0)) else None

abbrev pub ip4 : Bytes → Option Ip
ip4 text = option_and_then v4_of (read_each (number_of 255) (pieces 46 text))

-- ---- the sixth version: eight groups with colons between them

abbrev pub hex_value : ℕ → Option ℕ
hex_value c =
    if nat_le 48 c && nat_le c 57 then Some (c - 48)
    else if nat_le 97 c && nat_le c 102 then Some (c - 87)
    else if nat_le 65 c && nat_le c 70 then Some (c - 55)
    else None

abbrev pub hex_values : Bytes → Option (List ℕ)
hex_values [] = Some []
hex_values (c ∷ cs) = option_and_then (λ x. option_map (λ xs. x ∷ xs) (hex_values cs)) (hex_value c)

-- a group: one to four hexadecimal digits of either case
abbrev pub group : Bytes → Option ℕ
group text =
    if nat_le 1 (length text) && nat_le (length text) 4
    then option_map (λ digits. number_in 16 digits 0) (hex_values text)
    else None

-- groups with colons between them; the empty text has none
abbrev pub groups : Bytes → Option (List ℕ)
groups text = if is_empty text then Some [] else read_each group (pieces 58 text)

abbrev pub put_first : ℕ → Bytes × Bytes → Bytes × Bytes
put_first c parts = (c ∷ parts.0, parts.1)

-- what stands before and after the first two colons in a row
abbrev pub around_run : Bytes → Option (Bytes × Bytes)
around_run [] = None
around_run (c ∷ []) = None
around_run (c ∷ d ∷ rest) = if (c == 58) && (d == 58) then Some ([], rest) else option_map (put_first c) (around_run (d ∷ rest))

abbrev pub v6_of : List ℕ → Option Ip
v6_of parts = if length parts == 8 then Some (V6 (number_in 65536 parts 0)) else None

-- one run of one or more groups of zero is written as two colons
abbrev pub with_run : List ℕ → List ℕ → Option Ip
with_run front back =
    if nat_le (length front + length back) 7
    then v6_of (front ++ replicate (8 - (length front + length back)) 0 ++ back)
    else None

abbrev pub ip6_around : Bytes → Option (Bytes × Bytes) → Option Ip
ip6_around text None = option_and_then v6_of (groups text)
ip6_around text (Some parts) = option_and_then (λ front. option_and_then (λ back. with_run front back) (groups parts.1)) (groups parts.0)

abbrev pub ip6 : Bytes → Option Ip
ip6 text = ip6_around text (around_run text)

-- ---- either version

-- how many bits an address has
abbrev pub width : Ip → ℕ
width (V4 value) = 32
width (V6 value) = 128

abbrev pub has_colon : Bytes → Bool
has_colon text = list_any (λ c. c == 58) text

-- the address that a text spells
unfoldable pub address : Bytes → Option Ip
address text = if has_colon text then ip6 text else ip4 text
