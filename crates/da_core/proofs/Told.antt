-- What is told of a history is what was kept beside it.
use Rattle.std.proofs.Common.{◌≡◌, ◌∙◌, ap, ap₂, subst, List, ℕ, Bool, ◌||◌, Option, is_some, reverse}
use Rattle.std.specs.List.{list_any}
use Rattle.da_base.specs.Words.{Bytes}
use Rattle.da_core.proofs.NextDues.{one_is_told, one_is_awaited}
use Rattle.da_core.specs.Bridges.{IsKept, is_reached}
use Rattle.da_core.specs.Clock.{due_at, due_in, first_late, needs_clock, needs_clock_in}
use Rattle.da_core.specs.declared.clock.Due.{Due}
use Rattle.da_entry.specs.declared.replayed.Replayed.{Replayed}
use Rattle.da_play.specs.Legal.{entry_moment}
use Rattle.da_play.specs.Served.{Served}
use Rattle.da_play.specs.declared.input.Entry.{Entry}
use Rattle.da_settings.specs.declared.settings.Goal.{Goal}
use Rattle.da_settings.specs.declared.settings.Settings.{Settings}
use Rattle.da_tables.specs.Queries.{is_running}

abbrev as_due : Bool → Option ℕ → Due
as_due reply query = record { reply = reply; query = query }

module _ (settings : Settings) (goal : Option Goal) (items : List Entry) (served : Served) (replayed : Replayed) (dues : List (Option ℕ)) (boxes : List Bytes)
    (view : record { settings = settings; goal = goal; history = reverse items } ≡ served) (kept : IsKept settings (reverse items) replayed dues boxes) where
  pub due_is : (m moment : ℕ) (reply : Bool) (query : Option ℕ) → moment ≡ entry_moment (reverse items) m → reply ≡ list_any (is_reached moment) dues →
      query ≡ first_late settings moment replayed.tables.queries → record { reply = reply; query = query } ≡ due_at served m
  due_is m moment reply query at reply_is query_is =
      subst (λ s. as_due reply query ≡ due_at s m) view
      (ap₂ as_due (reply_is ∙ ap (list_any (is_reached moment)) kept.dues ∙ one_is_told settings moment replayed.tables.requests) query_is
      ∙ ap₂ (due_in settings) at kept.replayed.tables)

  pub clock_is : (runs held : Bool) → runs ≡ list_any is_running replayed.tables.queries → held ≡ list_any is_some dues → (runs || held) ≡ needs_clock served.settings served.history
  clock_is runs held runs_is held_is =
      subst (λ (s : Served). (runs || held) ≡ needs_clock s.settings s.history) view
      (ap₂ (λ (a b : Bool). a || b) runs_is (held_is ∙ ap (list_any is_some) kept.dues ∙ one_is_awaited settings replayed.tables.requests)
      ∙ ap needs_clock_in kept.replayed.tables)
