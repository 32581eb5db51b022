-- The two forms in which the parts of an address are written.
use Rattle.std.specs.Prelude.{ℕ, ◌+◌, ◌-◌, ◌*◌, ◌^◌, List, length, Option, Some, None, option_map, if◌then◌else◌, nat_le}
use Rattle.da_base.specs.Words.{Bytes, number_of}
use Rattle.da_nets.specs.Addresses.{group, number_in}
use Rattle.da_nets.specs.declared.address.Ip.{Ip}
use Rattle.da_nets.specs.declared.address.Ip.TheVariants.{V4, V6}
use Rattle.da_nets.specs.declared.parts.Form.{Form}
use Rattle.da_nets.specs.declared.parts.Form.TheVariants.{Dotted, Grouped}
use Rattle.da_nets.specs.declared.parts.Parts.{Parts}

abbrev pub separator : Form → ℕ
separator Dotted = 46
separator Grouped = 58

abbrev pub base : Form → ℕ
base Dotted = 256
base Grouped = 65536

-- how many parts an address has
abbrev pub most : Form → ℕ
most Dotted = 4
most Grouped = 8

abbrev pub part : Form → Bytes → Option ℕ
part Dotted = number_of 255
part Grouped = group

-- the parts together, where an address has as many
abbrev pub few : Form → List ℕ → Option Parts
few form parts = if nat_le (length parts) (most form) then Some (record { value = number_in (base form) parts 0; count = length parts }) else None

-- the parts of both, where at least one group of zero stands between them
abbrev pub joined : Parts → Parts → Option ℕ
joined front back = if nat_le (front.count + back.count) 7 then Some (front.value * 65536 ^ (8 - front.count) + back.value) else None

abbrev pub some_v4 : Option ℕ → Option Ip
some_v4 value = option_map (λ n. V4 n) value

abbrev pub some_v6 : Option ℕ → Option Ip
some_v6 value = option_map (λ n. V6 n) value
