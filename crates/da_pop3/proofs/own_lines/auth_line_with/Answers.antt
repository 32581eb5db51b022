use Rattle.std.proofs.Common.{◌∷◌, [], ◌++◌}
use Rattle.std.specs.Prelude.{codes, decimal}
use Rattle.da_msgs.proofs.LineSpelling.{next}
use Rattle.da_pop3.proofs.own_lines.auth_line_with.Goals as goal

pub returns : goal.returns
returns c =
    let first = decimal c.args.id ∷ c.args.mechanism.now ∷ codes "service=pop3" ∷ [] in
    let message = (codes "resp=" ++ c.args.text.now) ∷ [] in
    next (codes "AUTH") first message _ _ (c.in_ok-line.ensures {u = tt}) (c.in_ok-push_message.ensures {u = tt})
