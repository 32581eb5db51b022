-- Laws on the limit of clients' requests.
use Rattle.std.specs.Prelude.{◌≡◌, ◌<◌, ℕ, true, false, List, ◌∷◌, ◌++◌, Some, codes, option_map, option_to_list, ◌==◌}
use Rattle.std.specs.List.{list_any}
use Rattle.da_base.specs.Words.{nth, count_where}
use Rattle.da_msgs.specs.declared.code.Code.TheVariants.{Timeout}
use Rattle.da_play.specs.Effects.{effects, final_replies}
use Rattle.da_play.specs.History.{tables_of}
use Rattle.da_play.specs.declared.effects.Effects.{Effects}
use Rattle.da_play.specs.declared.input.Entry.{Entry}
use Rattle.da_play.specs.declared.input.Input.TheVariants.{Take}
use Rattle.da_request.specs.Requests.{decision, has_limit, is_over_limit, limit_moment, login_of}
use Rattle.da_request.specs.declared.request.Request.{Request}
use Rattle.da_request.specs.declared.stages.Decision.TheVariants.{Failure}
use Rattle.da_settings.specs.declared.settings.Settings.{Settings}
use Rattle.da_tables.specs.Queries.{first_waiting}

-- the requests that an entry sends a line for: a final reply, or a challenge
abbrev pub told : Effects → List ℕ
told f = final_replies f ++ option_to_list f.challenged

-- after an entry no client's request that was there before it is undecided at its limit or beyond
abbrev pub NoLimitIsPassed : Type 0
NoLimitIsPassed =
    (settings : Settings) (e : Entry) (g : List Entry) (n : ℕ) (q r : Request) →
    nth (tables_of settings g).requests n ≡ Some q → nth (tables_of settings (e ∷ g)).requests n ≡ Some r →
    has_limit r ≡ true → e.moment < limit_moment settings r

-- an entry times a request out: before all else it is told so, and the entry tells nothing else of it
pub record IsTimedOut (settings : Settings) (e : Entry) (g : List Entry) (n : ℕ) : Type 0 where
  pub request : Request
  pub is_there : nth (tables_of settings (e ∷ g)).requests n ≡ Some request
  pub is_timed_out : request.is_timed_out ≡ true
  pub is_decided : request.decided ≡ Some e.moment
  pub is_replied : request.replied ≡ Some e.moment
  pub is_due : list_any (λ m. m == n) (effects settings (tables_of settings g) e).due ≡ true
  pub once : count_where (λ m. m == n) (told (effects settings (tables_of settings g) e)) ≡ 1

-- the first entry that finds a client's request undecided at its limit or beyond times it out, whatever its input
abbrev pub LimitsTimeOut : Type 0
LimitsTimeOut =
    (settings : Settings) (e : Entry) (g : List Entry) (n : ℕ) (r : Request) →
    nth (tables_of settings g).requests n ≡ Some r → is_over_limit settings e.moment r ≡ true → IsTimedOut settings e g n

-- of a request that was timed out before, no entry tells anything more
abbrev pub TimedOutIsSilent : Type 0
TimedOutIsSilent =
    (settings : Settings) (e : Entry) (g : List Entry) (n : ℕ) (r : Request) →
    nth (tables_of settings g).requests n ≡ Some r → r.is_timed_out ≡ true →
    list_any (λ m. m == n) (told (effects settings (tables_of settings g) e)) ≡ false

-- what it is told: that it took too long, for the user of the login alone
abbrev pub TimedOutIsTold : Type 0
TimedOutIsTold =
    (settings : Settings) (r : Request) → r.is_timed_out ≡ true →
    decision settings r ≡ Some (Failure (option_map (λ l. l.user) (login_of settings r)) false false false Timeout (Some (codes "Timed out")))

-- a Take hands out the first query that waited before it, also where its entry times that query's request out
abbrev pub TakesTheFirst : Type 0
TakesTheFirst =
    (settings : Settings) (e : Entry) (g : List Entry) → e.input ≡ Take →
    (effects settings (tables_of settings g) e).handed_out ≡ Some (first_waiting (tables_of settings g))
