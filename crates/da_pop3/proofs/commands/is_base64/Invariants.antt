use Rattle.std.proofs.Common.{◌≡◌, drop}
use Rattle.da_pop3.specs.Commands.{is_base64}
use Rattle.da_pop3.proofs.commands.is_base64.Given as goal

abbrev pub invariant-loop-byte : goal.invariant-loop-byte
invariant-loop-byte l = is_base64 (drop l.byte-index l.text) ≡ is_base64 l.text
