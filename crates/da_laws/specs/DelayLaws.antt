-- Laws on how long final replies are held back. They speak of moments, and not of what is called due.
use Rattle.std.specs.Prelude.{◌≡◌, ◌⊎◌, ◌≤◌, ℕ, Bool, true, false, List, ◌∷◌, Option, Some, ◌==◌, is_some}
use Rattle.std.specs.List.{list_any}
use Rattle.da_base.specs.Words.{Bytes, later, nth, passes_option}
use Rattle.da_msgs.specs.declared.code.Code.{Code}
use Rattle.da_play.specs.Effects.{effects, final_replies}
use Rattle.da_play.specs.History.{tables_of}
use Rattle.da_play.specs.declared.input.Entry.{Entry}
use Rattle.da_request.specs.Requests.{decision, has_nodelay, is_failure}
use Rattle.da_request.specs.declared.request.Request.{Request}
use Rattle.da_request.specs.declared.stages.Decision.TheVariants.{Failure}
use Rattle.da_settings.specs.declared.settings.Settings.{Settings}

-- a client is told of a failure no sooner than the delay after it was decided, unless an answer asks for no delay or its
-- request was timed out
abbrev pub FailuresWait : Type 0
FailuresWait =
    (settings : Settings) (e : Entry) (g : List Entry) (n : ℕ) (r : Request) (user : Option Bytes) (authz temp disabled : Bool) (code : Code)
    (reason : Option Bytes) →
    list_any (λ m. m == n) (final_replies (effects settings (tables_of settings g) e)) ≡ true →
    nth (tables_of settings (e ∷ g)).requests n ≡ Some r →
    decision settings r ≡ Some (Failure user authz temp disabled code reason) → has_nodelay r.answers ≡ false → r.is_timed_out ≡ false →
    (decided : ℕ) × (r.decided ≡ Some decided) × (later decided settings.failure_delay ≤ e.moment)

-- once the delay has passed since it was decided, no request is left without its reply, unless it is cancelled
abbrev pub NoneWaitsLonger : Type 0
NoneWaitsLonger =
    (settings : Settings) (e : Entry) (g : List Entry) (n decided : ℕ) (r : Request) →
    nth (tables_of settings (e ∷ g)).requests n ≡ Some r → r.decided ≡ Some decided → r.is_cancelled ≡ false →
    later decided settings.failure_delay ≤ e.moment → is_some r.replied ≡ true

-- what isn't a failure of a login, or is one whose answer asks for no delay or whose request was timed out, is replied by
-- the time at which it is decided
abbrev pub OthersAreToldAtOnce : Type 0
OthersAreToldAtOnce =
    (settings : Settings) (e : Entry) (g : List Entry) (n decided : ℕ) (r : Request) →
    nth (tables_of settings (e ∷ g)).requests n ≡ Some r → r.decided ≡ Some decided → r.is_cancelled ≡ false →
    (passes_option is_failure (decision settings r) ≡ false) ⊎ ((has_nodelay r.answers ≡ true) ⊎ (r.is_timed_out ≡ true)) →
    decided ≤ e.moment → is_some r.replied ≡ true
