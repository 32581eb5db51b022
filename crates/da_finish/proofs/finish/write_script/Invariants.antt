use Rattle.std.proofs.Common.{take, reverse}
use Rattle.da_finish.proofs.PrintLemmas.{Printing}
use Rattle.da_finish.proofs.finish.write_script.Given as goal

abbrev pub invariant-loop-entry : goal.invariant-loop-entry
invariant-loop-entry g l = Printing (reverse (take l.entry-index l.entries)) l.text.items (g.K.Sink.state l.fn.output) (g.K.Sink.state l.output)
