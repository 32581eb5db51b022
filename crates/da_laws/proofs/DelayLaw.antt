-- How long final replies are held back, from the laws on what is due.
use Rattle.std.proofs.Common.{◌≡◌, ◌⊎◌, inl, inr, refl, sym, ◌∙◌, ap, ap₂, subst, Option, Some, None, List, ◌∷◌, ℕ, ◌≤◌, Bool, true, false, cond, not, ◌&&◌, nat_le, option_map, is_some, true≢false, arith}
use Rattle.da_msgs.specs.declared.code.Code.{Code}
use Rattle.std.proofs.lemmas.Option.{same_Some}
use Rattle.da_base.specs.Words.{Bytes, later, nth, passes_option}
use Rattle.da_settings.specs.declared.settings.Settings.{Settings}
use Rattle.da_request.specs.declared.stages.Decision.TheVariants.{Failure}
use Rattle.da_request.specs.declared.request.Request.{Request}
use Rattle.da_request.specs.Requests.{decision, due_from, has_nodelay, is_failure, reply_delay, due_moment, is_held, is_due}
use Rattle.da_laws.specs.DelayLaws.{FailuresWait, NoneWaitsLonger, OthersAreToldAtOnce}
use Rattle.da_invariants.proofs.Marks.{history_marked}
use Rattle.da_tables.proofs.Cases.{and_false, at_most, by_test, is_at_most}
use Rattle.da_laws.proofs.DueLaw.{all_rest, due_after}
use Rattle.da_laws.proofs.ReplyDue.{replies_are_due}
use Rattle.da_play.specs.History.{tables_of}
use Rattle.da_play.specs.declared.input.Entry.{Entry}

-- ---- the delay of a request

failure_delays : (settings : Settings) (r : Request) (user : Option Bytes) (authz temp disabled : Bool) (code : Code) (reason : Option Bytes) →
    decision settings r ≡ Some (Failure user authz temp disabled code reason) → has_nodelay r.answers ≡ false → reply_delay settings r ≡ settings.failure_delay
unfolding reply_delay
failure_delays settings r user authz temp disabled code reason failed delays =
    ap (λ d. cond (passes_option is_failure d && not (has_nodelay r.answers)) settings.failure_delay 0) failed
    ∙ ap (λ b. cond (not b) settings.failure_delay 0) delays

within_delay : (settings : Settings) (r : Request) → reply_delay settings r ≤ settings.failure_delay
unfolding reply_delay
within_delay settings r =
    by_test (λ (span : ℕ). span ≤ settings.failure_delay) (passes_option is_failure (decision settings r) && not (has_nodelay r.answers)) settings.failure_delay 0
    (λ e. omega (arith)) (λ e. omega (arith))

others_rush : (settings : Settings) (r : Request) → (passes_option is_failure (decision settings r) ≡ false) ⊎ (has_nodelay r.answers ≡ true) → reply_delay settings r ≡ 0
unfolding reply_delay
others_rush settings r (inl e) = ap (λ b. cond (b && not (has_nodelay r.answers)) settings.failure_delay 0) e
others_rush settings r (inr e) =
    ap (λ b. cond (passes_option is_failure (decision settings r) && not b) settings.failure_delay 0) e
    ∙ ap (λ b. cond b settings.failure_delay 0) (and_false (passes_option is_failure (decision settings r)))

-- ---- a reply in time

decided_in_time : (settings : Settings) (moment : ℕ) (r : Request) → r.is_timed_out ≡ false → (o : Option ℕ) → passes_option (λ m. nat_le m moment) (option_map (due_from settings r) o) ≡ true →
    (decided : ℕ) × (o ≡ Some decided) × (later decided (reply_delay settings r) ≤ moment)
decided_in_time settings moment r t None e = absurd (true≢false (sym e))
decided_in_time settings moment r t (Some decided) e =
    (decided, refl, subst (λ (due : ℕ). due ≤ moment) (due_after settings r decided t) (at_most (due_from settings r decided) moment e))

pub failures_wait : FailuresWait
failures_wait settings e g n r user authz temp disabled code reason reported here failed delays unlimited =
    let due = replies_are_due settings e g n reported in
    let same : due.0 ≡ r = same_Some due.0 r (sym due.1 ∙ here) in
    let in_time = decided_in_time settings e.moment r unlimited r.decided
    (subst (λ (s : Request). passes_option (λ m. nat_le m e.moment) (due_moment settings s) ≡ true) same due.4) in
    (in_time.0, in_time.1, subst (λ span. later in_time.0 span ≤ e.moment) (failure_delays settings r user authz temp disabled code reason failed delays) in_time.2)

-- ---- nothing is left

-- a request that isn't due, though its moment has come, has its reply
was_told : (settings : Settings) (moment decided : ℕ) (r : Request) → is_due settings moment r ≡ false → r.decided ≡ Some decided → r.is_cancelled ≡ false → r.is_timed_out ≡ false →
    later decided (reply_delay settings r) ≤ moment → is_some r.replied ≡ true
unfolding is_due
was_told settings moment decided r rests at stays unlimited in_time = go (is_some r.replied) refl
  where
    go : (b : Bool) → is_some r.replied ≡ b → is_some r.replied ≡ true
    go true e = e
    go false e = absurd (true≢false (sym held_and_due ∙ rests))
      where
        held : is_held r ≡ true
        held =
            ap (λ o. is_some o && not r.is_cancelled && not (is_some r.replied)) at
            ∙ ap₂ (λ x y. not x && not y) stays e

        held_and_due : (is_held r && passes_option (λ m. nat_le m moment) (due_moment settings r)) ≡ true
        held_and_due =
            ap₂ (λ x y. x && y) held
            (ap (λ o. passes_option (λ m. nat_le m moment) (option_map (due_from settings r) o)) at
            ∙ ap (λ (due : ℕ). nat_le due moment) (due_after settings r decided unlimited) ∙ is_at_most (later decided (reply_delay settings r)) moment in_time)

-- one that was timed out has it already
told_by : (settings : Settings) (e : Entry) (g : List Entry) (n decided : ℕ) (r : Request) → nth (tables_of settings (e ∷ g)).requests n ≡ Some r → r.decided ≡ Some decided → r.is_cancelled ≡ false →
    (r.is_timed_out ≡ false → later decided (reply_delay settings r) ≤ e.moment) → is_some r.replied ≡ true
told_by settings e g n decided r here at stays in_time = go r.is_timed_out refl
  where
    go : (b : Bool) → r.is_timed_out ≡ b → is_some r.replied ≡ true
    go true t = (history_marked settings (e ∷ g) n r here).replied t
    go false t = was_told settings e.moment decided r (all_rest settings e g n r here) at stays t (in_time t)

later_within : (decided a b moment : ℕ) → a ≤ b → later decided b ≤ moment → later decided a ≤ moment
later_within decided a b moment h k = omega (arith, h, k)

later_none : (decided moment : ℕ) → decided ≤ moment → later decided 0 ≤ moment
later_none decided moment h = omega (arith, h)

pub none_waits_longer : NoneWaitsLonger
none_waits_longer settings e g n decided r here at stays in_time =
    told_by settings e g n decided r here at stays
    (λ t. later_within decided (reply_delay settings r) settings.failure_delay e.moment (within_delay settings r) in_time)

pub others_are_told_at_once : OthersAreToldAtOnce
others_are_told_at_once settings e g n decided r here at stays rushes by = told_by settings e g n decided r here at stays (λ t. in_time t rushes)
  where
    at_once : (passes_option is_failure (decision settings r) ≡ false) ⊎ (has_nodelay r.answers ≡ true) → later decided (reply_delay settings r) ≤ e.moment
    at_once rush = subst (λ span. later decided span ≤ e.moment) (sym (others_rush settings r rush)) (later_none decided e.moment by)

    in_time : r.is_timed_out ≡ false → (passes_option is_failure (decision settings r) ≡ false) ⊎ ((has_nodelay r.answers ≡ true) ⊎ (r.is_timed_out ≡ true)) → later decided (reply_delay settings r) ≤ e.moment
    in_time t (inl x) = at_once (inl x)
    in_time t (inr (inl x)) = at_once (inr x)
    in_time t (inr (inr x)) = absurd (true≢false (sym x ∙ t))
