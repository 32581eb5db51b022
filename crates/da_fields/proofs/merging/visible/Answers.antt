use Rattle.std.proofs.Common.{arith, refl, sym, ap, ◌∙◌, subst, not}
use Rattle.da_fields.specs.FieldList.{AreDistinct, visible, is_hidden}
use Rattle.da_fields.proofs.FieldLemmas.{AreDistinct-filter, all_shown}
use Rattle.da_fields.proofs.merging.visible.Goals as goal

pub of_distinct-requires : goal.of_distinct-requires
of_distinct-requires c =
    let all = all_shown c.loop-key.reported.items c.pairs-key-items.result.now c.loop-key.key-index visible c.loop-key.invariant (omega arith) refl in
    subst AreDistinct (sym (all ∙ ap visible c.pairs-key-items.ensures.pairs)) (AreDistinct-filter (λ p. not (is_hidden p.0)) c.args.fields.now c.pairs-key-items.ensures.distinct)
