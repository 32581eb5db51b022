use Rattle.std.proofs.Common.{◌∙◌, eqb, rules, tests}
use Rattle.std.proofs.lemmas.Iterator.Consumers.{YieldsList-end}
use Rattle.std.proofs.lemmas.Iterator.Splits.{YieldsList-from_slice_split}
use Rattle.da_tabline.proofs.pieces.fields.Goals as goal

pub returns : goal.returns
returns c =
    c.loop-piece.invariant
    ∙ (YieldsList-end (YieldsList-from_slice_split _ (λ b. eqb b 9) c.args.line.now (cc) (cc) (cc) (λ x b q k. search (rules, tests)))
    c.loop-piece.yielded _ c.loop-piece.yielded_by _ _ c.in-None.is c.next.ensures.steps).0
