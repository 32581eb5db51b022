use Rattle.std.proofs.Common.{◌≡◌, drop, []}
use Rattle.da_msgs.specs.ClientMessages.{parameters_of}
use Rattle.da_msgs.proofs.parameters.parameters_of.Given as goal

abbrev pub invariant-loop-field : goal.invariant-loop-field
invariant-loop-field l = parameters_of (drop l.field-index l.fields) l.params ≡ parameters_of l.fields []
