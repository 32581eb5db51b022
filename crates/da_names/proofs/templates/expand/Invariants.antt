use Rattle.std.proofs.Common.{◌≡◌, ◌++◌, drop}
use Rattle.da_names.specs.Templates.{expanded, expand}
use Rattle.da_names.proofs.templates.expand.Given as goal

abbrev pub invariant-loop-byte : goal.invariant-loop-byte
invariant-loop-byte l = l.text.items ++ expanded l.vars l.percent (drop l.byte-index l.template) ≡ expand l.vars l.template
