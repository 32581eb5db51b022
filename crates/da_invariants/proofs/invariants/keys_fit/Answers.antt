use Rattle.da_invariants.proofs.KeysLaw.{keys_fit}
use Rattle.da_invariants.proofs.invariants.keys_fit.Goals as goal

pub returns : goal.returns
returns c = keys_fit
