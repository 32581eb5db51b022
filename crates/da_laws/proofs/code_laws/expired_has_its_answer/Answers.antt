use Rattle.da_laws.proofs.TableLaw.{expired_has_its_answer}
use Rattle.da_laws.proofs.code_laws.expired_has_its_answer.Goals as goal

pub returns : goal.returns
returns c = expired_has_its_answer
