use Rattle.da_laws.proofs.TableLaw.{codes_are_of_the_table}
use Rattle.da_laws.proofs.code_laws.codes_are_of_the_table.Goals as goal

pub returns : goal.returns
returns c = codes_are_of_the_table
