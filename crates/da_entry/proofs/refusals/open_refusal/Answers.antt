use Rattle.std.proofs.Common.{arith}
use Rattle.da_tables.proofs.RowChanges.{count_few}
use Rattle.da_entry.proofs.refusals.open_refusal.Goals as goal

pub overflow_cast-count : goal.overflow_cast-count
overflow_cast-count c =
    let few = count_few (λ c. c.is_open) c.args.tables.now.connections in
    omega (arith, few, c.requires, c.open_count-count.ensures)
