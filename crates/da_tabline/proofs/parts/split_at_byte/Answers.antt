use Rattle.std.proofs.Common.{◌≡◌, ◌+◌, false, eqb, arith}
use Rattle.std.proofs.lemmas.Bool.{ne_eqb}
use Rattle.std.proofs.lemmas.List.{take_rest, take_all}
use Rattle.std.proofs.lemmas.List.Elements.{All-more}
use Rattle.da_tabline.proofs.PartLemmas.{splits_at, cut_from_split, cut_from_Lacks}
use Rattle.da_tabline.proofs.parts.split_at_byte.Goals as goal

pub returns-then-other-byte-clause-parts : goal.returns-then-other-byte-clause-parts
returns-then-other-byte-clause-parts c =
    rw (take_rest c.args.text.now (c.loop-at.at + 1)) (cut_from_split _ _ _ _ (splits_at c.args.byte c.args.text.now c.loop-at.at (omega arith) c.loop-at.invariant c.if-other-byte.true))

pub loop-at-preserved : goal.loop-at-preserved
loop-at-preserved c = All-more (λ x. eqb x c.args.byte ≡ false) c.args.text.now c.loop-at.at 0 (omega arith) c.loop-at.invariant (ne_eqb _ _ c.if-other-byte.false)

pub returns-clause-parts : goal.returns-clause-parts
returns-clause-parts c =
    let lacks = rw (take_all c.loop-at.at c.args.text.now (omega arith)) at c.loop-at.invariant in
    cut_from_Lacks c.args.byte c.args.text.now lacks

pub returns-clause-split : goal.returns-clause-split
returns-clause-split c = rw (take_all c.loop-at.at c.args.text.now (omega arith)) at c.loop-at.invariant
