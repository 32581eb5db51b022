use Rattle.std.proofs.Common.{◌∙◌, ◌++◌, ◌∷◌, [], ap}
use Rattle.da_pool.specs.Pools.{has_query}
use Rattle.da_pool.specs.Queues.{running_of}
use Rattle.da_pool.proofs.Queued.{kept, runs}
use Rattle.da_pool.proofs.Steps.{is_absent, added}
use Rattle.da_pool.proofs.pool.Pool.add.Goals as goal

pub push-requires : goal.push-requires
push-requires c = is_absent _ c.self.inside.queue _ _ c.self.invariant (ap (has_query c.args.number) c.self.view_is ∙ c.requires)

pub invariant_of-self-2 : goal.invariant_of-self-2
invariant_of-self-2 c = kept _ _ _ (added _ _ _ _ _ _ c.self.invariant (c.put_last.ensures ∙ ap (λ ws. ws ++ (c.args.number, c.args.request) ∷ []) c.in_ok-reserve.ensures.items) c.in_ok-push.ensures.ok)

pub returns-clause-added : goal.returns-clause-added
returns-clause-added c =
    let more = c.put_last.ensures ∙ ap (λ ws. ws ++ (c.args.number, c.args.request) ∷ []) c.in_ok-reserve.ensures.items in
    let after = added _ _ _ _ _ _ c.self.invariant more c.in_ok-push.ensures.ok in
    ap (λ ws. record { waiting = ws; running = running_of c.push.new.self }) more
    ∙ ap (λ rs. record { waiting = c.self.inside.waiting.items ++ (c.args.number, c.args.request) ∷ []; running = rs }) (runs _ _ _ after)
    ∙ ap (λ p. record { waiting = p.waiting ++ (c.args.number, c.args.request) ∷ []; running = p.running }) c.self.view_is
