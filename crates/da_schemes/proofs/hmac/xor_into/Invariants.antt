use Rattle.std.proofs.Common.{◌≡◌, ◌++◌, take, drop}
use Rattle.da_schemes.specs.Hmac.{xor_bytes}
use Rattle.da_schemes.proofs.hmac.xor_into.Given as goal

abbrev pub invariant-loop-i : goal.invariant-loop-i
invariant-loop-i l = l.sum ≡ xor_bytes (take l.i l.fn.sum) (take l.i l.bytes) ++ drop l.i l.fn.sum
