use Rattle.std.proofs.Common.{sym, ap, ◌∙◌}
use Rattle.da_query.specs.AnswerLines.{new_field}
use Rattle.da_query.proofs.FieldTexts.{none_read, all_read}
use Rattle.da_query.proofs.answers.fields_of.Goals as goal

pub returns-in-None : goal.returns-in-None
returns-in-None c =
    let none = sym (c.in_ok-key.ensures {u = tt} ∙ ap (new_field c.loop-fields.fields) c.bytes.ensures) ∙ c.in-None.is in
    none_read c.loop-fields.fields _ _ c.args.left.now _ (rw c.in-Some.is at c.in_ok-text.ensures) none c.loop-fields.invariant

pub returns : goal.returns
returns c = all_read c.loop-fields.fields _ c.args.left.now (rw c.in_default.is at c.in_ok-text.ensures) c.loop-fields.invariant
