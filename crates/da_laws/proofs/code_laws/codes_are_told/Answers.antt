use Rattle.da_laws.proofs.CodeLaw.{codes_are_told, others_see_no_code}
use Rattle.da_laws.proofs.code_laws.codes_are_told.Goals as goal

pub returns-clause-knowing : goal.returns-clause-knowing
returns-clause-knowing c = codes_are_told

pub returns-clause-others : goal.returns-clause-others
returns-clause-others c = others_see_no_code
