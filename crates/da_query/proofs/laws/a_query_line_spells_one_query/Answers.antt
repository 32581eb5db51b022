use Rattle.da_query.proofs.QueryReading.{one_query}
use Rattle.da_query.proofs.laws.a_query_line_spells_one_query.Goals as goal

pub returns : goal.returns
returns c = one_query
