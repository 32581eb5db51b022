use Rattle.std.proofs.Common.{refl}
use Rattle.da_passdb.specs.declared.walk.Place.TheVariants.{Before}
use Rattle.da_passdb.proofs.Standings.{no_ask_at_end, asking_valid, asking_stands, stands_within, takes}
use Rattle.da_passdb.proofs.cursor.Cursor.take.Goals as goal

pub unreachable-requires : goal.unreachable-requires
unreachable-requires c = no_ask_at_end c.args.dbs.now c.args.self.now c.requires c.in_default.not-Before

pub walk_answered-requires-clause-valid : goal.walk_answered-requires-clause-valid
walk_answered-requires-clause-valid c = asking_valid c.args.dbs.now c.args.self.now c.requires

pub walk_answered-requires-clause-within : goal.walk_answered-requires-clause-within
walk_answered-requires-clause-within c =
    stands_within c.args.self.now.stand.part (Before c.in-Before.index) c.args.dbs.now c.args.self.now.login _ c.args.self.now.stand.progress
    (asking_stands c.args.dbs.now c.args.self.now c.in-Before.index c.requires c.in-Before.is)

pub returns-clause-ok : goal.returns-clause-ok
returns-clause-ok c =
    takes c.args.dbs.now c.args.answer c.args.self.now (
    record { alloc = c.args.self.now.alloc; login = c.args.self.now.login; stand = c.in_ok-after.after }
    )
    c.in-Before.index c.in_ok-before.before c.in-Before.is (c.in_ok-before.ensures {u = tt}) refl c.in_ok-after.ensures.rest c.in_ok-after.ensures.is_there
    c.in_ok-after.ensures.further
