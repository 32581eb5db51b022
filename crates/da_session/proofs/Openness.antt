-- When a connection isn't open: after a refusal, and after a line that was too long.
use Rattle.std.proofs.Common.{◌≡◌, ◌⊎◌, inl, inr, refl, sym, ◌∙◌, ap, ℕ, Bool, true, false, cond, not, ◌&&◌, List, ◌∷◌, Option, Some, Err, eq-eqb}
use Rattle.std.proofs.lemmas.Option.{none-some, same_Some}
use Rattle.da_play.specs.Effects.{effects}
use Rattle.da_play.specs.History.{after_input, tables_of}
use Rattle.da_play.specs.Legal.{entry_moment, is_full}
use Rattle.da_play.specs.Play.{input_refusal, next_entry, refusal, reply, unless}
use Rattle.da_play.specs.declared.input.Entry.{Entry}
use Rattle.da_play.specs.declared.input.Input.{Input}
use Rattle.da_play.specs.declared.input.Input.TheVariants.{Broken}
use Rattle.da_play.specs.declared.outputs.Refused.{Refused}
use Rattle.da_play.specs.declared.outputs.Refused.TheVariants.{ConnLimit, HistoryFull, NoConn, NoMemory, NotLate, NotTaken, NothingWaits}
use Rattle.da_port.proofs.Causes.{full_where_told, refused_replies}
use Rattle.da_port.specs.Calls.{PortSeat, Refuses}
use Rattle.da_port.specs.declared.terms.Terms.{Terms}
use Rattle.da_steps.proofs.OpenSteps.{open_step}
use Rattle.da_session.specs.Reading.{IsNotOpen}
use Rattle.da_session.specs.Bridges.{IsRecorded, TakesStep, step_after}
use Rattle.da_settings.specs.declared.settings.Settings.{Settings}
use Rattle.da_tables.proofs.Cases.{and_false}
use Rattle.da_tables.specs.Tables.{is_open_in}
use Rattle.da_turn.specs.Seats.{seen}

-- the input is one of a connection: it is refused where that isn't open
abbrev pub IsOfConnection : Settings → List Entry → ℕ → ℕ → Input → Type 0
IsOfConnection settings h m conn input = input_refusal settings (tables_of settings h) (entry_moment h m) input ≡ unless (is_open_in (tables_of settings h) conn) (NoConn conn)

full_or_closed : (full is_open : Bool) (conn : ℕ) (refused : Refused) → cond full (Some HistoryFull) (unless is_open (NoConn conn)) ≡ Some refused → (refused ≡ HistoryFull) ⊎ (is_open ≡ false)
full_or_closed true is_open conn refused e = inl (sym (same_Some HistoryFull refused e))
full_or_closed false true conn refused e = absurd (none-some refused e)
full_or_closed false false conn refused e = inr refl

refused_so : (settings : Settings) (h : List Entry) (m conn : ℕ) (input : Input) (refused : Refused) → IsOfConnection settings h m conn input → reply settings h m input ≡ Err refused
    → (refused ≡ HistoryFull) ⊎ (is_open_in (tables_of settings h) conn ≡ false)
unfolding refusal
refused_so settings h m conn input refused is e =
    full_or_closed (is_full settings h) (is_open_in (tables_of settings h) conn) conn refused
    (sym (ap (λ (o : Option Refused). cond (is_full settings h) (Some HistoryFull) o) is) ∙ refused_replies settings h m input refused e)

module _ (terms : Terms) (may_tell : ℕ → Type 0) (conn : ℕ) (s t : PortSeat) (moment : ℕ) (input : Input) (is : IsOfConnection terms.settings (seen t) moment conn input) where
  other : (refused : Refused) → (refused ≡ HistoryFull → ⊥) → reply terms.settings (seen t) moment input ≡ Err refused → IsNotOpen terms conn t
  other refused isnt e =
      elim (refused_so terms.settings (seen t) moment conn input refused is e) [
        | inl full ↦ absurd (isnt full)
        | inr closed ↦ closed
      ]

  -- the step where it is refused
  pub refused_takes : (refused : Refused) → Refuses terms s t moment input refused → TakesStep terms may_tell conn s t input (step_after refused)
  refused_takes HistoryFull r = (r.0, full_where_told terms.settings (seen t) moment input r.1)
  refused_takes NoMemory r = r.0
  refused_takes (ConnLimit count) r = (r.0, other (ConnLimit count) (λ e. cc) r.1)
  refused_takes (NoConn told) r = (r.0, other (NoConn told) (λ e. cc) r.1)
  refused_takes NothingWaits r = (r.0, other NothingWaits (λ e. cc) r.1)
  refused_takes (NotTaken query) r = (r.0, other (NotTaken query) (λ e. cc) r.1)
  refused_takes (NotLate query due) r = (r.0, other (NotLate query due) (λ e. cc) r.1)

closed_by_broken : (settings : Settings) (h : List Entry) (m conn : ℕ) → is_open_in (tables_of settings (next_entry settings h m (Broken conn) ∷ h)) conn ≡ false
unfolding effects next_entry after_input
closed_by_broken settings h m conn =
    open_step settings (next_entry settings h m (Broken conn)) h conn
    ∙ ap (λ (b : Bool). is_open_in (tables_of settings h) conn && not b) (eq-eqb conn conn refl) ∙ and_false (is_open_in (tables_of settings h) conn)

-- Broken closes the connection
pub broken_closes : (terms : Terms) (may_tell : ℕ → Type 0) (conn : ℕ) (s t : PortSeat) → IsRecorded terms may_tell s t (Broken conn) → IsNotOpen terms conn t
broken_closes terms may_tell conn s t r =
    ap (λ (h : List Entry). is_open_in (tables_of terms.settings h) conn) r.records.sees ∙ closed_by_broken terms.settings r.records.before r.moment conn
