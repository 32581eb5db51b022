use Rattle.std.proofs.Common.{rules, ◌≡◌, ◌∙◌, ap, sym}
use Rattle.std.proofs.lemmas.Fn.{filter_same}
use Rattle.da_pool.specs.Pools.{without_request}
use Rattle.da_pool.specs.Queues.{queue_of, running_of}
use Rattle.da_pool.proofs.Queued.{kept, runs}
use Rattle.da_pool.proofs.pool.Pool.drop_of.Goals as goal

pub invariant_of-self : goal.invariant_of-self
invariant_of-self c =
    let rest : c.retain.new.self.items ≡ without_request c.args.request c.self.inside.waiting.items = filter_same _ _ _ (λ x b f' k. search rules) _ _ c.retain.ensures.filtered in
    kept _ _ _ (c.remove_of.ensures ∙ ap (queue_of (running_of c.self.inside.queue)) (sym rest))

pub returns : goal.returns
returns c =
    let rest : c.retain.new.self.items ≡ without_request c.args.request c.self.inside.waiting.items = filter_same _ _ _ (λ x b f' k. search rules) _ _ c.retain.ensures.filtered in
    ap (λ ws. record { waiting = ws; running = running_of c.remove_of.new.queue }) rest
    ∙ ap (λ rs. record { waiting = without_request c.args.request c.self.inside.waiting.items; running = rs }) (runs _ _ _ c.remove_of.ensures)
    ∙ ap (λ p. record { waiting = without_request c.args.request p.waiting; running = p.running }) c.self.view_is
