use Rattle.std.proofs.Common.{◌≡◌, ◌^◌, ◌<◌, drop}
use Rattle.std.specs.Prelude.{option_map}
use Rattle.da_nets.specs.Addresses.{number_in, hex_values}
use Rattle.da_nets.proofs.parts.read_group.Given as goal

abbrev pub invariant-loop-byte : goal.invariant-loop-byte
invariant-loop-byte l = record {
  value : option_map (λ digits. number_in 16 digits l.value) (hex_values (drop l.byte-index l.text)) ≡ option_map (λ digits. number_in 16 digits 0) (hex_values l.text);
  small : l.value < 16 ^ l.byte-index;
}
