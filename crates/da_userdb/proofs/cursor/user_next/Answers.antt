use Rattle.std.proofs.Common.{◌∙◌}
use Rattle.std.proofs.lemmas.Result.{IfOk-weaker}
use Rattle.da_userdb.specs.UserPlaces.{lookup_for}
use Rattle.da_userdb.proofs.UserStandings.{all_valid, stands_within, chain_told}
use Rattle.da_userdb.proofs.cursor.user_next.Goals as goal

pub walk-requires : goal.walk-requires
walk-requires c = all_valid 1 c.args.dbs.now c.requires

pub tell-requires : goal.tell-requires
tell-requires c = stands_within c.in_ok-place.place c.args.dbs.now _ _ c.walk.new.progress c.in_ok-place.ensures.is_there

pub returns : goal.returns
returns c =
    IfOk-weaker c.tell.result _ _ (λ chain is.
    is
    ∙ chain_told c.args.dbs.now (lookup_for c.args.user.now c.args.passdb_fields.now c.args.vars.now) c.args.answers.now c.in_ok-place.place
    c.new-progress.result c.walk.new.progress c.new-progress.ensures c.in_ok-place.ensures.rest c.in_ok-place.ensures.is_there)
    c.tell.ensures
