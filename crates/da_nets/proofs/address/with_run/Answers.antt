use Rattle.std.proofs.Common.{arith}
use Rattle.da_nets.proofs.Digits.{front_alone_fits, both_fit}
use Rattle.da_nets.proofs.address.with_run.Goals as goal

pub followed_by_zeros-requires : goal.followed_by_zeros-requires
followed_by_zeros-requires c = front_alone_fits c.args.front.value c.args.front.count c.requires.front c.requires.front_count

pub overflow_add-result : goal.overflow_add-result
overflow_add-result c = omega (arith, c.followed_by_zeros.ensures, both_fit c.args.front.value c.args.front.count c.args.back.value c.args.back.count c.requires.front c.requires.back (omega arith))
