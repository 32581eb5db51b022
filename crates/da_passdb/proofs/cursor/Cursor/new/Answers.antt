use Rattle.std.proofs.Common.{refl}
use Rattle.da_passdb.proofs.Standings.{all_valid, starts}
use Rattle.da_passdb.proofs.cursor.Cursor.new.Goals as goal

pub walk-requires : goal.walk-requires
walk-requires c = all_valid 1 c.args.dbs.now c.requires

pub returns : goal.returns
returns c =
    record {
      valid = c.requires;
      login_is = refl;
      stand =
          starts c.args.dbs.now c.args.login c.first-part.result c.new-progress.result c.in_ok-stand.stand c.first-part.ensures c.new-progress.ensures
          c.in_ok-stand.ensures.rest c.in_ok-stand.ensures.is_there;
    }
