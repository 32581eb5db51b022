use Rattle.std.proofs.Common.{◌∙◌}
use Rattle.std.proofs.lemmas.Result.{IfOk-weaker}
use Rattle.da_passdb.proofs.Standings.{all_valid, stands_within, chain_told}
use Rattle.da_passdb.proofs.cursor.next.Goals as goal

pub walk-requires : goal.walk-requires
walk-requires c = all_valid 1 c.args.dbs.now c.requires

pub tell-requires : goal.tell-requires
tell-requires c =
    stands_within c.in_ok-stand.stand.part c.in_ok-stand.stand.place c.args.dbs.now c.args.login.now c.args.answers.now c.in_ok-stand.stand.progress
    c.in_ok-stand.ensures.is_there

pub returns : goal.returns
returns c =
    IfOk-weaker c.tell.result _ _ (λ chain is.
    is
    ∙ chain_told c.args.dbs.now c.args.login.now c.args.answers.now c.first-part.result c.new-progress.result c.in_ok-stand.stand c.first-part.ensures
    c.new-progress.ensures c.in_ok-stand.ensures.rest c.in_ok-stand.ensures.is_there)
    c.tell.ensures
