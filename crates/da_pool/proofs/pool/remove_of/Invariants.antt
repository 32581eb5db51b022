use Rattle.da_pool.specs.Queues.{running_of}
use Rattle.da_pool.proofs.Steps.{Dropped}
use Rattle.da_pool.proofs.pool.remove_of.Given as goal

abbrev pub invariant-loop-place : goal.invariant-loop-place
invariant-loop-place l = Dropped (running_of l.fn.queue) l.waiting.items l.request l.place l.queue
