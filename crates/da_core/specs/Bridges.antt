-- Bridges: what a server keeps beside its history, and what comes next. Only the code cites them.
use Rattle.std.specs.Prelude.{◌≡◌, ◌<◌, ◌^◌, ◌-◌, ℕ, Bool, length, List, ◌∷◌, map, nat_le, Option, Some, None, if◌then◌else◌}
use Rattle.da_base.specs.Words.{Bytes, passes_option}
use Rattle.da_entry.specs.Bridges.{IsReplayed}
use Rattle.da_entry.specs.declared.replayed.Entered.{Entered}
use Rattle.da_entry.specs.declared.replayed.Replayed.{Replayed}
use Rattle.da_outbox.specs.Outboxes.{outbox}
use Rattle.da_play.specs.Effects.{wire}
use Rattle.da_play.specs.Play.{outputs}
use Rattle.da_play.specs.Served.{Served}
use Rattle.da_play.specs.declared.input.Entry.{Entry}
use Rattle.da_request.specs.Requests.{due_moment, has_limit, is_pending, limit_moment}
use Rattle.da_request.specs.declared.request.Request.{Request}
use Rattle.da_settings.specs.declared.settings.Settings.{Settings}

-- when the reply to a request is due as time passes: at its limit where it isn't decided, and when its reply was held back,
-- at the end of the delay
abbrev pub next_due : Settings → Request → Option ℕ
next_due settings r = if has_limit r then Some (limit_moment settings r) else if is_pending r then due_moment settings r else None

abbrev pub is_reached : ℕ → Option ℕ → Bool
is_reached moment due = passes_option (λ m. nat_le m moment) due

-- what is kept is that of the history
pub record IsKept (settings : Settings) (h : List Entry) (reached : Replayed) (moments : List (Option ℕ)) (boxes : List Bytes) : Type 0 where
  pub replayed : IsReplayed settings h reached
  pub few : length h < 2 ^ 32 - 1
  pub dues : moments ≡ map (next_due settings) reached.tables.requests
  pub sent : (conn : ℕ) → outbox boxes conn ≡ wire settings h conn

-- what comes of one entry more
pub record IsNextOf (served : Served) (entered : Entered) (moments : List (Option ℕ)) : Type 0 where
  pub gives : entered.outputs ≡ outputs served.settings served.history entered.entry
  pub replayed : IsReplayed served.settings (entered.entry ∷ served.history) entered.replayed
  pub few : length (entered.entry ∷ served.history) < 2 ^ 32 - 1
  pub dues : moments ≡ map (next_due served.settings) entered.replayed.tables.requests
