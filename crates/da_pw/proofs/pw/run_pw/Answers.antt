use Rattle.da_pw.proofs.PwLemmas.{runs_off, runs_pw}
use Rattle.da_pw.proofs.pw.run_pw.Goals as goal

pub returns-in-Some : goal.returns-in-Some
returns-in-Some g c = runs_pw _ c.in-Some.scheme _ _ c.store_under.result c.in-Some.ensures c.store_under.ensures

pub returns-in-None : goal.returns-in-None
returns-in-None g c = runs_off _ _ c.in-None.ensures
