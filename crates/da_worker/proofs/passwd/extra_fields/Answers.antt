use Rattle.std.proofs.Common.{sym, ap, ◌∙◌}
use Rattle.da_base.specs.Words.{pieces}
use Rattle.da_fields.specs.FieldList.{Pairs}
use Rattle.da_worker.specs.Passwd.{with_items}
use Rattle.da_worker.proofs.PieceLemmas.{pieces_at, pieces_none}
use Rattle.da_worker.proofs.passwd.extra_fields.Goals as goal

pub items-preserved : goal.items-preserved
items-preserved c =
    ap (λ (fields : Pairs). with_items fields (pieces 32 c.in-Some.more.now)) (c.in_ok-put_item.ensures {u = tt})
    ∙ sym (ap (with_items c.items.fields) (pieces_at 32 c.items.rest.now c.in-Some.item.now c.in-Some.more.now c.in-Some.ensures.split))
    ∙ c.items.invariant

pub returns : goal.returns
returns c =
    c.in_ok-put_item-2.ensures {u = tt}
    ∙ sym (ap (with_items c.items.fields) (pieces_none 32 c.items.rest.now c.in_default.ensures.split))
    ∙ c.items.invariant
