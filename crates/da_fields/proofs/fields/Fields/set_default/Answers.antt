use Rattle.std.proofs.Common.{sym, ap, ◌∙◌}
use Rattle.std.proofs.lemmas.Result.{IfOk-equal}
use Rattle.da_fields.specs.FieldList.{field}
use Rattle.da_fields.proofs.FieldLemmas.{default_is_set}
use Rattle.da_fields.proofs.fields.Fields.set_default.Goals as goal

pub returns : goal.returns
returns c =
    IfOk-equal c.set.result _ _ _ c.set.ensures.ok
    (default_is_set c.args.key.now c.args.value.now c.in_ok-copy.field-0 c.in_ok-copy-2.field-0 c.args.self.now c.get.result
    (sym c.is_some.ensures ∙ c.if-is_some.false) (c.get.ensures ∙ ap (λ k. field k c.args.self.now) c.bytes.ensures) c.in_ok-copy.ensures c.in_ok-copy-2.ensures)
