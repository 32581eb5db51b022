use Rattle.std.proofs.Common.{◌≡◌, ◌++◌, take, drop}
use Rattle.da_schemes.specs.Hmac.{xor_each}
use Rattle.da_schemes.proofs.hmac.xor_each.Given as goal

abbrev pub invariant-loop-byte : goal.invariant-loop-byte
invariant-loop-byte l = l.byte-items ≡ xor_each (take l.byte-index l.block) l.pad ++ drop l.byte-index l.block
