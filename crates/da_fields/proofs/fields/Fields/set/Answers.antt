use Rattle.std.proofs.Common.{sym, ap, ◌∙◌}
use Rattle.da_fields.specs.FieldList.{IsPlaceOf, LacksKey, with_field}
use Rattle.da_fields.proofs.FieldLemmas.{set_is_with_field, with_field_none, AreDistinct-with_field}
use Rattle.da_fields.proofs.fields.Fields.set.Goals as goal

pub invariant_of-self : goal.invariant_of-self
invariant_of-self c =
    let place : IsPlaceOf c.args.key c.self.inside.pairs.items c.in-Some.at = rw (← c.deref.ensures.value, ← c.bytes.ensures) c.in-Some.ensures in
    rw (set_is_with_field c.args.key c.args.value c.self.inside.pairs.items c.in-Some.at c.index_mut-pair.result.now place c.index_mut-pair.ensures.value)
    (AreDistinct-with_field c.args.key c.args.value c.self.inside.pairs.items c.self.invariant)

pub returns-in-Some-clause-ok : goal.returns-in-Some-clause-ok
returns-in-Some-clause-ok c =
    let place : IsPlaceOf c.args.key c.self.inside.pairs.items c.in-Some.at = rw (← c.deref.ensures.value, ← c.bytes.ensures) c.in-Some.ensures in
    set_is_with_field c.args.key c.args.value c.self.inside.pairs.items c.in-Some.at c.index_mut-pair.result.now place c.index_mut-pair.ensures.value
    ∙ ap (with_field c.args.key c.args.value) c.self.view_is

pub invariant_of-self-in-Continue-1 : goal.invariant_of-self-in-Continue-1
invariant_of-self-in-Continue-1 c =
    let lacks : LacksKey c.args.key c.self.inside.pairs.items = rw (← c.deref.ensures.value, ← c.bytes.ensures) c.in-None.ensures in
    rw (c.in_ok-push-in-None.ensures.items, ← with_field_none c.args.key c.args.value c.self.inside.pairs.items lacks)
    (AreDistinct-with_field c.args.key c.args.value c.self.inside.pairs.items c.self.invariant)

pub returns-in_ok-push-in-None-clause-ok : goal.returns-in_ok-push-in-None-clause-ok
returns-in_ok-push-in-None-clause-ok c =
    let lacks : LacksKey c.args.key c.self.inside.pairs.items = rw (← c.deref.ensures.value, ← c.bytes.ensures) c.in-None.ensures in
    c.in_ok-push-in-None.ensures.items ∙ sym (with_field_none c.args.key c.args.value c.self.inside.pairs.items lacks)
    ∙ ap (with_field c.args.key c.args.value) c.self.view_is
