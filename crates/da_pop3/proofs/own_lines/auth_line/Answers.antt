use Rattle.std.proofs.Common.{◌∷◌, []}
use Rattle.std.specs.Prelude.{codes, decimal}
use Rattle.da_msgs.proofs.LineSpelling.{next}
use Rattle.da_pop3.proofs.own_lines.auth_line.Goals as goal

pub returns : goal.returns
returns c =
    let id = decimal c.args.id in
    let mechanism = c.args.mechanism.now in
    let one = next (codes "AUTH") (id ∷ []) (mechanism ∷ []) _ _ (c.in_ok-line.ensures {u = tt}) (c.in_ok-push_field.ensures {u = tt}) in
    next (codes "AUTH") (id ∷ mechanism ∷ []) (codes "service=pop3" ∷ []) _ _ one (c.in_ok-push_field-2.ensures {u = tt})
