use Rattle.da_config.proofs.Numbering.{valid_passdbs}
use Rattle.da_config.proofs.databases.passdbs.Goals as goal

pub returns-in_ok-read_databases-in-Some-clause-fit : goal.returns-in_ok-read_databases-in-Some-clause-fit
returns-in_ok-read_databases-in-Some-clause-fit c =
    let dbs = c.in_ok-read_databases-in-Some in
    rw c.new.ensures (valid_passdbs 1 dbs.field-0.items dbs.ensures.fit)
