use Rattle.std.proofs.Common.{◌∙◌, ap, sym}
use Rattle.da_pool.specs.Pools.{is_running, without_number}
use Rattle.da_pool.proofs.Queued.{kept, runs}
use Rattle.da_pool.proofs.Steps.{tells, ended, stays}
use Rattle.da_pool.proofs.pool.Pool.end.Goals as goal

pub invariant_of-self : goal.invariant_of-self
invariant_of-self c = kept _ _ _ (ended _ _ _ _ c.self.invariant c.remove.ensures.apart (sym c.is_taken-runs.ensures ∙ c.if-runs.true) c.remove.ensures.gone)

pub returns-then-runs-clause-ran : goal.returns-then-runs-clause-ran
returns-then-runs-clause-ran c = c.is_taken-runs.ensures ∙ tells _ c.self.inside.queue _ _ c.self.invariant ∙ ap (λ p. is_running c.args.number p.running) c.self.view_is

pub returns-then-runs-clause-gone : goal.returns-then-runs-clause-gone
returns-then-runs-clause-gone c =
    let after = ended _ _ _ _ c.self.invariant c.remove.ensures.apart (sym c.is_taken-runs.ensures ∙ c.if-runs.true) c.remove.ensures.gone in
    ap (λ rs. record { waiting = c.self.inside.waiting.items; running = rs }) (runs _ _ _ after)
    ∙ ap (λ p. record { waiting = p.waiting; running = without_number c.args.number p.running }) c.self.view_is

pub returns-else-runs-clause-ran : goal.returns-else-runs-clause-ran
returns-else-runs-clause-ran c = c.is_taken-runs.ensures ∙ tells _ c.self.inside.queue _ _ c.self.invariant ∙ ap (λ p. is_running c.args.number p.running) c.self.view_is

pub returns-else-runs-clause-gone : goal.returns-else-runs-clause-gone
returns-else-runs-clause-gone c =
    let same = stays _ c.self.inside.queue _ _ c.self.invariant (sym c.is_taken-runs.ensures ∙ c.if-runs.false) in
    sym c.self.view_is
    ∙ ap (λ rs. record { waiting = c.self.inside.waiting.items; running = rs }) (sym same)
    ∙ ap (λ p. record { waiting = p.waiting; running = without_number c.args.number p.running }) c.self.view_is
