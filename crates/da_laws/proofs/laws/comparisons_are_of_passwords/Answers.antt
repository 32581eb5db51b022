use Rattle.da_laws.proofs.ComparisonLaw.{comparisons_are_of_passwords}
use Rattle.da_laws.proofs.laws.comparisons_are_of_passwords.Goals as goal

pub returns : goal.returns
returns c = comparisons_are_of_passwords
