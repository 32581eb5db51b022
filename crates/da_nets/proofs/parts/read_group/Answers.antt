use Rattle.std.proofs.Common.{arith}
use Rattle.da_nets.proofs.Digits.{digit_fits_in}
use Rattle.da_nets.proofs.parts.read_group.Goals as goal

pub overflow_mul-value : goal.overflow_mul-value
overflow_mul-value c = omega (arith, digit_fits_in 16 c.loop-byte.value 0 c.loop-byte.byte-index 4 c.loop-byte.invariant.small (omega arith) (omega arith))

pub overflow_add-value : goal.overflow_add-value
overflow_add-value c = omega (arith, digit_fits_in 16 c.loop-byte.value c.in_ok-digit.digit c.loop-byte.byte-index 4 c.loop-byte.invariant.small (omega arith) c.in_ok-digit.ensures.small)
