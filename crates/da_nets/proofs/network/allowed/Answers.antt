use Rattle.std.proofs.Common.{eqb, ap, ◌∙◌, rules, tests}
use Rattle.std.proofs.lemmas.Iterator.Search.{any_from_yields_List}
use Rattle.std.proofs.lemmas.Iterator.Splits.{YieldsList-from_slice_split}
use Rattle.da_nets.specs.Networks.{allowed, entry_has, some_entry_has}
use Rattle.da_nets.proofs.network.allowed.Goals as goal

pub returns-in_default : goal.returns-in_default
unfolding allowed
returns-in_default c = ap (some_entry_has c.args.nets.now) c.in_default.ensures

pub returns : goal.returns
unfolding allowed
returns c =
    any_from_yields_List (entry_has c.in-Some.ip) _ _ _ c.any.ensures.ran (YieldsList-from_slice_split _ (λ b. eqb b 44) c.args.nets.now (cc) (cc) (cc) (λ x b q k. search (rules, tests))) (λ x b q k. search (rules, tests))
    ∙ ap (some_entry_has c.args.nets.now) c.in-Some.ensures
