use Rattle.std.proofs.Common.{Some, None, sym, ap, ◌∙◌}
use Rattle.da_nets.specs.Forms.{some_v6}
use Rattle.da_nets.proofs.Reading.{v6_from-yes, v6_from-no, ip6-whole, ip6-run}
use Rattle.da_nets.proofs.address.read_v6.Goals as goal

pub returns-in_err-groups-in-None : goal.returns-in_err-groups-in-None
returns-in_err-groups-in-None c = rw c.from_residual.ensures (ip6-whole c.args.text.now None c.in-None.ensures c.in_err-groups-in-None.ensures.value)

pub returns-in_err-back-in-Some : goal.returns-in_err-back-in-Some
returns-in_err-back-in-Some c =
    rw c.from_residual-in_err-back-in-Some.ensures
    (ip6-run c.args.text.now c.in-Some.front.now c.in-Some.back.now (Some c.in_ok-front-in-Some.front) None c.in-Some.ensures c.in_ok-front-in-Some.ensures.value c.in_err-back-in-Some.ensures.value)

pub returns-then-groups-eq8 : goal.returns-then-groups-eq8
returns-then-groups-eq8 c =
    sym (v6_from-yes c.in_ok-groups-in-None.groups c.if-groups-eq8.true) ∙ ip6-whole c.args.text.now (Some c.in_ok-groups-in-None.groups) c.in-None.ensures c.in_ok-groups-in-None.ensures.value

pub returns-else-groups-eq8 : goal.returns-else-groups-eq8
returns-else-groups-eq8 c =
    sym (v6_from-no c.in_ok-groups-in-None.groups c.if-groups-eq8.false) ∙ ip6-whole c.args.text.now (Some c.in_ok-groups-in-None.groups) c.in-None.ensures c.in_ok-groups-in-None.ensures.value

pub returns-in_ok-back-in-Some : goal.returns-in_ok-back-in-Some
returns-in_ok-back-in-Some c =
    ap some_v6 c.with_run.ensures
    ∙ ip6-run c.args.text.now c.in-Some.front.now c.in-Some.back.now (Some c.in_ok-front-in-Some.front) (Some c.in_ok-back-in-Some.back) c.in-Some.ensures c.in_ok-front-in-Some.ensures.value c.in_ok-back-in-Some.ensures.value
