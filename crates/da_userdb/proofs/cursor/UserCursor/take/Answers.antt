use Rattle.std.proofs.Common.{refl}
use Rattle.da_userdb.specs.UserPlaces.{lookup_of}
use Rattle.da_userdb.specs.declared.walk.UserPlace.TheVariants.{Before}
use Rattle.da_userdb.proofs.UserStandings.{no_ask_at_end, asking_valid, asking_stands, stands_within, takes}
use Rattle.da_userdb.proofs.cursor.UserCursor.take.Goals as goal

pub unreachable-requires : goal.unreachable-requires
unreachable-requires c = no_ask_at_end c.args.dbs.now c.args.self.now c.requires c.in_default.is

pub walk_answered-requires-clause-valid : goal.walk_answered-requires-clause-valid
walk_answered-requires-clause-valid c = asking_valid c.args.dbs.now c.args.self.now c.requires

pub walk_answered-requires-clause-within : goal.walk_answered-requires-clause-within
walk_answered-requires-clause-within c =
    stands_within (Before c.in-Before.index) c.args.dbs.now c.args.self.now.lookup _ c.args.self.now.progress
    (asking_stands c.args.dbs.now c.args.self.now c.in-Before.index c.requires c.in-Before.is)

pub returns-clause-ok : goal.returns-clause-ok
returns-clause-ok c =
    takes c.args.dbs.now c.args.answer c.args.self.now (
    record { alloc = c.args.self.now.alloc; lookup = c.args.self.now.lookup; place = c.in_ok-place.place; progress = c.walk_answered.new.progress }
    )
    c.in-Before.index (lookup_of c.subject-subject.result) c.in_ok-progress.progress c.in-Before.is c.subject-subject.ensures
    (c.in_ok-progress.ensures {u = tt}) refl c.in_ok-place.ensures.rest c.in_ok-place.ensures.is_there c.in_ok-place.ensures.from
