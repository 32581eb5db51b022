use Rattle.std.proofs.Common.{◌≡◌, drop, []}
use Rattle.da_pop3.specs.ServiceLines.{pairs_from}
use Rattle.da_pop3.proofs.service.pairs_of.Given as goal

abbrev pub invariant-loop-text : goal.invariant-loop-text
invariant-loop-text l = pairs_from (drop l.text-index l.texts) l.pairs ≡ pairs_from l.texts []
