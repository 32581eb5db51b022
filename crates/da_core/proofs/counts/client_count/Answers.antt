use Rattle.std.proofs.Common.{rules}
use Rattle.da_tables.proofs.RowChanges.{count_where_is}
use Rattle.da_core.proofs.counts.client_count.Goals as goal

pub returns : goal.returns
returns c = rw count_where_is (search rules)
