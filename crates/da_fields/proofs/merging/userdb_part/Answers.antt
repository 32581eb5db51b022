use Rattle.std.proofs.Common.{arith, refl, sym, ap, ◌∙◌, subst}
use Rattle.da_fields.specs.FieldList.{AreDistinct, userdb_part}
use Rattle.da_fields.proofs.FieldLemmas.{AreDistinct-userdb_part, all_shown}
use Rattle.da_fields.proofs.merging.userdb_part.Goals as goal

pub of_distinct-requires : goal.of_distinct-requires
of_distinct-requires c =
    let all = all_shown c.loop-key.part.items c.pairs-key-items.result.now c.loop-key.key-index userdb_part c.loop-key.invariant (omega arith) refl in
    subst AreDistinct (sym (all ∙ ap userdb_part c.pairs-key-items.ensures.pairs)) (AreDistinct-userdb_part c.args.fields.now c.pairs-key-items.ensures.distinct)
