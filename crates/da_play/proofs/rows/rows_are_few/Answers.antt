use Rattle.da_play.proofs.FewRows.{few_rows}
use Rattle.da_play.proofs.rows.rows_are_few.Goals as goal

pub returns-clause-connections : goal.returns-clause-connections
returns-clause-connections c = λ settings h. (few_rows settings h).connections

pub returns-clause-requests : goal.returns-clause-requests
returns-clause-requests c = λ settings h. (few_rows settings h).requests

pub returns-clause-queries : goal.returns-clause-queries
returns-clause-queries c = λ settings h. (few_rows settings h).queries
