use Rattle.std.proofs.Common.{◌∙◌, ap, sym}
use Rattle.da_pool.specs.Pools.{taken}
use Rattle.da_pool.specs.Queues.{running_of}
use Rattle.da_pool.proofs.Queued.{kept, runs}
use Rattle.da_pool.proofs.Steps.{took}
use Rattle.da_pool.proofs.pool.Pool.take.Goals as goal

pub invariant_of-self-2 : goal.invariant_of-self-2
invariant_of-self-2 c = kept _ _ _ (took _ _ _ _ _ _ _ c.self.invariant c.in_ok-number.ensures.items c.mark.ensures.apart c.mark.ensures.marked)

pub returns-clause-taken : goal.returns-clause-taken
returns-clause-taken c =
    let after = took _ _ _ _ _ _ _ c.self.invariant c.in_ok-number.ensures.items c.mark.ensures.apart c.mark.ensures.marked in
    ap (λ rs. record { waiting = c.pop_front.new.self.items; running = rs }) (runs _ _ _ after)
    ∙ ap (λ ws. taken c.args.moment ws (running_of c.self.inside.queue)) (sym c.in_ok-number.ensures.items)
    ∙ ap (λ p. taken c.args.moment p.waiting p.running) c.self.view_is
