-- Networks: the addresses that share some leading bits.
use Rattle.std.specs.Prelude.{ℕ, ◌-◌, ◌/◌, ◌^◌, Bool, false, Option, Some, None, option_map, ◌==◌}
use Rattle.std.specs.List.{list_any}
use Rattle.da_base.specs.Words.{Bytes, pieces, before_byte, after_byte, number_of, passes_option}
use Rattle.da_nets.specs.Addresses.{address, width}
use Rattle.da_nets.specs.declared.address.Ip.{Ip}
use Rattle.da_nets.specs.declared.address.Ip.TheVariants.{V4, V6}

-- an address, and how many leading bits count
pub record Network : Type 0 where
  pub ip : Ip
  pub bits : ℕ

abbrev pub network_with : Option Ip → Option Bytes → Option Network
network_with None bits = None
network_with (Some ip) None = Some (record { ip = ip; bits = width ip })
network_with (Some ip) (Some bits) = option_map (λ n. record { ip = ip; bits = n }) (number_of (width ip) bits)

-- the network that a text spells: an address, and possibly a slash and the number of leading bits that count
unfoldable pub network : Bytes → Option Network
network text = network_with (address (before_byte 47 text)) (after_byte 47 text)

-- the first bits of a number of this width
abbrev pub leading : ℕ → ℕ → ℕ → ℕ
leading width bits value = value / 2 ^ (width - bits)

abbrev pub has_address : ℕ → Ip → Ip → Bool
has_address bits (V4 own) (V4 other) = leading 32 bits own == leading 32 bits other
has_address bits (V6 own) (V6 other) = leading 128 bits own == leading 128 bits other
has_address bits _ _ = false

-- the addresses of the network's kind whose leading bits are its own
abbrev pub has : Network → Ip → Bool
has net ip = has_address net.bits net.ip ip

abbrev pub entry_has : Ip → Bytes → Bool
entry_has ip entry = passes_option (λ net. has net ip) (network entry)

abbrev pub some_entry_has : Bytes → Option Ip → Bool
some_entry_has nets None = false
some_entry_has nets (Some ip) = list_any (entry_has ip) (pieces 44 nets)

-- some entry of the comma list is a network that has the address
unfoldable pub allowed : Bytes → Bytes → Bool
allowed nets ip = some_entry_has nets (address ip)
