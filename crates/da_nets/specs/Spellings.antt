-- What it is that a text spells an address (RFC 4291, section 2.2).
use Rattle.std.specs.Prelude.{◌≡◌, ℕ, ◌+◌, ◌-◌, ◌≤◌, List, ◌∷◌, ◌++◌, length, replicate, Option, Some, ◌⊎◌}
use Rattle.std.specs.List.{join_with_byte}
use Rattle.da_base.specs.Words.{Bytes, number_of}
use Rattle.da_nets.specs.Addresses.{number_in, read_each, group}
use Rattle.da_nets.specs.declared.address.Ip.{Ip}
use Rattle.da_nets.specs.declared.address.Ip.TheVariants.{V4, V6}

-- texts with this byte between each two of them, and the numbers that they are read as
pub record IsJoined (byte : ℕ) (read : Bytes → Option ℕ) (text : Bytes) (numbers : List ℕ) : Type 0 where
  pub texts : List Bytes
  pub spelled : text ≡ join_with_byte byte texts
  pub read_as : read_each read texts ≡ Some numbers

-- four numbers up to 255, with dots between them
pub record IsDotted (text : Bytes) (value : ℕ) : Type 0 where
  pub numbers : List ℕ
  pub joined : IsJoined 46 (number_of 255) text numbers
  pub four : length numbers ≡ 4
  pub value_is : value ≡ number_in 256 numbers 0

-- eight groups, with colons between them
pub record IsWhole (text : Bytes) (value : ℕ) : Type 0 where
  pub numbers : List ℕ
  pub joined : IsJoined 58 group text numbers
  pub eight : length numbers ≡ 8
  pub value_is : value ≡ number_in 65536 numbers 0

-- two colons for one run of groups of zero, at least one, which make eight groups with those before and after
pub record IsShortened (text : Bytes) (value : ℕ) : Type 0 where
  pub front : Bytes
  pub back : Bytes
  pub front_numbers : List ℕ
  pub back_numbers : List ℕ
  pub spelled : text ≡ front ++ 58 ∷ 58 ∷ back
  pub front_joined : IsJoined 58 group front front_numbers
  pub back_joined : IsJoined 58 group back back_numbers
  pub few : length front_numbers + length back_numbers ≤ 7
  pub value_is : value ≡ number_in 65536 (front_numbers ++ replicate (8 - (length front_numbers + length back_numbers)) 0 ++ back_numbers) 0

abbrev pub Spells : Bytes → Ip → Type 0
Spells text (V4 value) = IsDotted text value
Spells text (V6 value) = IsWhole text value ⊎ IsShortened text value
