-- Which decisions are those of a stage.
use Rattle.std.proofs.Common.{◌≡◌, refl, sym, ◌∙◌, ap, Bool, true, false, Some, if◌then◌else◌, true≢false}
use Rattle.std.proofs.lemmas.Option.{same_Some}
use Rattle.da_request.specs.Requests.{decision, decision_in, is_failure, request_stage, timed_failure}
use Rattle.da_request.specs.declared.request.Request.{Request}
use Rattle.da_request.specs.declared.stages.Decision.{Decision}
use Rattle.da_settings.specs.declared.settings.Settings.{Settings}

-- a limit decides failures alone
pub by_stage_alone : (settings : Settings) (r : Request) (d : Decision) → is_failure d ≡ false → decision settings r ≡ Some d → decision_in (request_stage settings r) ≡ Some d
unfolding decision
by_stage_alone settings r d f e = go r.is_timed_out refl
  where
    go : (b : Bool) → r.is_timed_out ≡ b → decision_in (request_stage settings r) ≡ Some d
    go true t = absurd (true≢false (ap is_failure (same_Some (timed_failure settings r) d (sym (ap (λ (b : Bool). if b then Some (timed_failure settings r) else decision_in (request_stage settings r)) t) ∙ e)) ∙ f))
    go false t = sym (ap (λ (b : Bool). if b then Some (timed_failure settings r) else decision_in (request_stage settings r)) t) ∙ e
