use Rattle.std.proofs.Common.{arith}
use Rattle.da_schemes.proofs.Xor.{xor_front-more}
use Rattle.da_schemes.proofs.hmac.xor_into.Goals as goal

pub loop-i-preserved : goal.loop-i-preserved
loop-i-preserved c = xor_front-more _ _ _ _ c.loop-i.invariant (omega arith) (omega arith)
