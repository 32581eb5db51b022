use Rattle.std.proofs.Common.{arith}
use Rattle.da_schemes.proofs.Xor.{padded_front-more}
use Rattle.da_schemes.proofs.hmac.xor_each.Goals as goal

pub loop-byte-preserved : goal.loop-byte-preserved
loop-byte-preserved c = padded_front-more _ _ _ _ c.loop-byte.invariant (omega arith)
