use Rattle.std.proofs.Common.{◌≡◌, ◌+◌, false, ◌∷◌, drop, sym, ap, ◌∙◌, arith}
use Rattle.std.specs.Prelude.{is_some}
use Rattle.da_fields.specs.FieldList.{field}
use Rattle.da_config.specs.Databases.{IsFieldOf, fields_after}
use Rattle.da_config.proofs.Steps.{drop-item, fields_after-next}
use Rattle.da_config.proofs.TemplateFields.{template_fields-with}
use Rattle.da_config.proofs.fields.fields_in.Goals as goal

pub loop-text-preserved : goal.loop-text-preserved
loop-text-preserved c =
    let texts = c.args.texts.now in
    let i = c.loop-text.text-index in
    let text = c.text-item.result in
    let here : drop i texts ≡ text ∷ drop (i + 1) texts = drop-item texts i text (omega arith) c.text-item.is in
    let spelled : IsFieldOf text c.in-Some.key.now c.in-Some.value.now = rw c.bytes.ensures at c.in-Some.ensures in
    let lacks : is_some (field c.in-Some.key.now c.loop-text.fields) ≡ false = sym c.has.ensures ∙ c.if-has.false in
    let next = ap (fields_after c.loop-text.fields) here ∙ fields_after-next c.loop-text.fields text c.in-Some.key.now c.in-Some.value.now (drop (i + 1) texts) spelled lacks in
    record {
      read = ap (λ fields. fields_after fields (drop (i + 1) texts)) c.in_ok-put.ensures ∙ sym next ∙ c.loop-text.invariant.read;
      fit = rw c.in_ok-put.ensures (template_fields-with _ _ c.loop-text.fields c.loop-text.invariant.fit spelled.is_field);
    }
