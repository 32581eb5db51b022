use Rattle.da_query.proofs.QueryReading.{query_of-spells, query_of-from}
use Rattle.da_query.proofs.laws.a_query_line_is_read_as_it_spells.Goals as goal

pub returns-clause-read : goal.returns-clause-read
returns-clause-read c = query_of-spells

pub returns-clause-spelled : goal.returns-clause-spelled
returns-clause-spelled c = query_of-from
