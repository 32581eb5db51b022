use Rattle.std.proofs.Common.{◌≡◌, ◌+◌, drop, Some, sym, ap, ◌∙◌, arith}
use Rattle.da_config.specs.Choices.{mechanism_called}
use Rattle.da_config.specs.Mechanisms.{mechanisms_called}
use Rattle.da_config.proofs.Prepending.{prepended}
use Rattle.da_config.proofs.Steps.{drop-item, mechanisms_called-next}
use Rattle.da_config.proofs.mechanisms.called.Goals as goal

pub loop-name-preserved : goal.loop-name-preserved
loop-name-preserved c =
    let names = c.args.names.now in
    let i = c.loop-name.name-index in
    let name = c.name-item.result in
    let front = c.loop-name.mechs.items in
    let rest = drop (i + 1) names in
    let here = drop-item names i name (omega arith) c.name-item.is in
    let is : mechanism_called name ≡ Some c.in-Some.mech = sym (rw c.bytes.ensures at c.in-Some.ensures) in
    let next = ap (λ ns. prepended front (mechanisms_called ns)) here ∙ mechanisms_called-next front name c.in-Some.mech rest is in
    ap (λ mechs. prepended mechs (mechanisms_called rest)) c.in_ok-push.ensures.items ∙ sym next ∙ c.loop-name.invariant
