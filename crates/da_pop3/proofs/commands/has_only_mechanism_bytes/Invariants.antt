use Rattle.std.proofs.Common.{◌≡◌, drop}
use Rattle.std.specs.List.{list_all}
use Rattle.da_pop3.specs.Commands.{is_mechanism_byte}
use Rattle.da_pop3.proofs.commands.has_only_mechanism_bytes.Given as goal

abbrev pub invariant-loop-byte : goal.invariant-loop-byte
invariant-loop-byte l = list_all is_mechanism_byte (drop l.byte-index l.name) ≡ list_all is_mechanism_byte l.name
