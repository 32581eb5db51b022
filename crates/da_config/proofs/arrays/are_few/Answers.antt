use Rattle.std.proofs.Common.{arith}
use Rattle.std.proofs.lemmas.Grind.{common_steps}
use Rattle.std.proofs.lemmas.Bool.Decides.{nat_tests}
use Rattle.da_config.proofs.Counting.{count-items_view}
use Rattle.da_config.proofs.arrays.are_few.Goals as goal

pub returns-then-low-array-clause-test : goal.returns-then-low-array-clause-test
returns-then-low-array-clause-test c =
    rw (count-items_view c.args.array.now) (grind (arith, nat_tests, common_steps))

pub returns-else-low-array-clause-test : goal.returns-else-low-array-clause-test
returns-else-low-array-clause-test c =
    rw (count-items_view c.args.array.now) (grind (arith, nat_tests, common_steps))
