use Rattle.std.proofs.Common.{◌≡◌, ◌∷◌, take, map}
use Rattle.da_msgs.specs.Replies.{version_line, mechanism_line}
use Rattle.da_msgs.specs.declared.kinds.ConnKind.TheVariants.{Client}
use Rattle.da_msgs.proofs.greetings.client_lines.Given as goal

abbrev pub invariant-loop-mech : goal.invariant-loop-mech
invariant-loop-mech l = l.lines.items ≡ version_line Client ∷ map mechanism_line (take l.mech-index l.mechs)
