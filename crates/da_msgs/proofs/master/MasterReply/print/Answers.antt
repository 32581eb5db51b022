use Rattle.std.proofs.Common.{ap, sym, ◌∙◌, ◌∷◌, [], map}
use Rattle.std.specs.Prelude.{codes, decimal}
use Rattle.da_fields.specs.FieldList.{field_text}
use Rattle.da_tabline.specs.Escapes.{spelled}
use Rattle.da_msgs.specs.Replies.{master_reply_line}
use Rattle.da_msgs.proofs.LineSpelling.{next}
use Rattle.da_msgs.proofs.master.MasterReply.print.Goals as goal

pub returns-in_ok-push_pairs-in-User : goal.returns-in_ok-push_pairs-in-User
unfolding master_reply_line
returns-in_ok-push_pairs-in-User c =
    let id = decimal c.in-User.id in
    let fields = map field_text c.in-User.fields in
    let one = next (codes "USER") (id ∷ []) (c.bytes.result.now ∷ []) _ _ (c.in_ok-line-in-User.ensures {u = tt}) (c.in_ok-push_field-in-User.ensures {u = tt}) in
    next (codes "USER") (id ∷ c.bytes.result.now ∷ []) fields _ _ one (c.in_ok-push_pairs-in-User.ensures {u = tt})
    ∙ ap (λ user. spelled (codes "USER" ∷ id ∷ user ∷ fields)) c.bytes.ensures
    ∙ ap master_reply_line (sym c.in-User.is)
