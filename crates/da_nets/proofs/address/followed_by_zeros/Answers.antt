use Rattle.std.proofs.Common.{◌*◌, ap, ◌∙◌, arith}
use Rattle.da_nets.proofs.Digits.{zeros_fit, zeros_more}
use Rattle.da_nets.proofs.address.followed_by_zeros.Goals as goal

pub overflow_mul-longer : goal.overflow_mul-longer
overflow_mul-longer c = omega (arith, ap (λ n. n * 65536) c.loop-added.invariant, zeros_fit c.args.value c.loop-added._added c.args.groups c.requires (omega arith))

pub loop-added-preserved : goal.loop-added-preserved
loop-added-preserved c = ap (λ n. n * 65536) c.loop-added.invariant ∙ zeros_more c.args.value c.loop-added._added
