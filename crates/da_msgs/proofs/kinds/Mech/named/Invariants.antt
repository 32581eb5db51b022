use Rattle.std.proofs.Common.{◌≡◌, drop}
use Rattle.da_msgs.specs.Replies as words
use Rattle.da_msgs.proofs.kinds.Mech.named.Given as goal

abbrev pub invariant-loop-mech : goal.invariant-loop-mech
invariant-loop-mech l = words.mechanism_named l.name (drop l.mech-index l.mechs) ≡ words.mechanism_named l.name l.mechs
