use Rattle.std.proofs.Common.{refl}
use Rattle.da_userdb.specs.UserPlaces.{lookup_of, lookup_for}
use Rattle.da_userdb.proofs.UserStandings.{all_valid, starts}
use Rattle.da_userdb.proofs.cursor.UserCursor.new.Goals as goal

pub walk-requires : goal.walk-requires
walk-requires c = all_valid 1 c.args.dbs.now c.requires

pub returns : goal.returns
returns c =
    record {
      valid = c.requires;
      lookup_is = refl;
      place =
          starts c.args.dbs.now (lookup_of c.subject.result) (lookup_for c.args.user c.args.passdb_fields c.args.vars) c.in_ok-place.place c.new-progress.result
          c.walk.new.progress c.subject.ensures c.new-progress.ensures c.in_ok-place.ensures.rest c.in_ok-place.ensures.is_there;
    }
