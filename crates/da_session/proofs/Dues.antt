-- Entries that were due, and more of them.
use Rattle.std.proofs.Common.{ℕ, List, [], ◌∷◌, ◌++◌, sym, ap, ◌∙◌, append-nil, append_assoc}
use Rattle.std.specs.Prelude.{⊤, Result, Ok, Err, IfOk, IfErr}
use Rattle.da_core.specs.Clock.{due_at}
use Rattle.da_play.specs.declared.input.Entry.{Entry}
use Rattle.da_play.specs.declared.input.Input.{Input}
use Rattle.da_play.specs.declared.outputs.Outputs.{Outputs}
use Rattle.da_play.specs.declared.outputs.Refused.{Refused}
use Rattle.da_port.specs.Calls.{Answers, Looks, PortSeat, Records, Refuses}
use Rattle.da_port.specs.Terms.{served_on}
use Rattle.da_port.specs.declared.terms.Terms.{Terms}
use Rattle.da_session.proofs.Entering.{entry_of, made_later, recorded_gains, recorded_later, recorded_made}
use Rattle.da_session.proofs.Histories.{later_self, later_trans}
use Rattle.da_session.specs.Bridges.{IsRecorded}
use Rattle.da_session.specs.Ticking.{AreDue, IsDueEntry, IsDueInput, RecordsDue}
use Rattle.da_turn.specs.Entries.{IsLater}
use Rattle.da_turn.specs.Seats.{made, seen}

module _ (terms : Terms) (may_tell : ℕ → Type 0) where
  -- a due entry stays so, of an older and a newer history
  abbrev due_later : (older old now newer : List Entry) (x : ℕ × Entry) → IsLater older old → IsLater now newer → IsDueEntry terms may_tell old now x → IsDueEntry terms may_tell older newer x
  due_later older old now newer x back on i =
      record {
        looked = i.looked;
        later = later_trans older old i.looked back i.later;
        input = i.input;
        made = made_later terms may_tell i.looked i.looked now newer i.input x (later_self i.looked) on i.made;
        due = i.due;
      }

  are_due_back : (older old seen : List Entry) (entries : List (ℕ × Entry)) → IsLater older old → AreDue terms may_tell old seen entries → AreDue terms may_tell older seen entries
  are_due_back older old seen [] back are = tt
  are_due_back older old seen (x ∷ entries) back are = (due_later older old seen seen x back (later_self seen) are.0, are.1)

  -- each further one is due after those before it
  due_joined : (old mid newer : List Entry) (entries others : List (ℕ × Entry)) → IsLater old mid → IsLater mid newer
      → AreDue terms may_tell old mid entries → AreDue terms may_tell mid newer others → AreDue terms may_tell old newer (entries ++ others)
  due_joined old mid newer [] others back on are further = are_due_back old mid newer others back further
  due_joined old mid newer (x ∷ entries) others back on are further = (
    due_later old old mid newer x (later_self old) on are.0,
    due_joined (x.1 ∷ are.0.made.before) mid newer entries others are.0.made.stands on are.1 further,
  )

  pub dues_joined : (s m t : PortSeat) → RecordsDue terms may_tell s m → RecordsDue terms may_tell m t → RecordsDue terms may_tell s t
  dues_joined s m t first further =
      record {
        later = later_trans (seen s) (seen m) (seen t) first.later further.later;
        entries = first.entries ++ further.entries;
        gains = further.gains ∙ ap (λ l. l ++ further.entries) first.gains ∙ append_assoc (made s) first.entries further.entries;
        each = due_joined (seen s) (seen m) (seen t) first.entries further.entries first.later further.later first.each further.each;
      }

  pub dues_none : (s t : PortSeat) → Looks s t → RecordsDue terms may_tell s t
  dues_none s t look = record { later = look.0; entries = []; gains = look.1 ∙ sym (append-nil (made s)); each = tt }

  -- an entry that was due at a look
  due_recorded : (s m t : PortSeat) (moment : ℕ) (input : Input) (out : Outputs) → Looks s m → may_tell moment → IsDueInput (due_at (served_on terms (seen m)) moment) input
      → Records terms m t moment input out → RecordsDue terms may_tell s t
  due_recorded s m t moment input out look told due records =
      let r : IsRecorded terms may_tell m t input = record { moment = moment; told = told; out = out; records = records } in
      record {
        later = later_trans (seen s) (seen m) (seen t) look.0 (recorded_later terms may_tell m t input r);
        entries = entry_of terms may_tell m t input r ∷ [];
        gains = recorded_gains terms may_tell m t input r ∙ ap (λ l. l ++ entry_of terms may_tell m t input r ∷ []) look.1;
        each = (
          record {
            looked = seen m;
            later = look.0;
            input = input;
            made = recorded_made terms may_tell m t input r;
            due = due;
          },
          tt,
        );
      }

  -- by what came of it
  pub due_made : (s m t : PortSeat) (moment : ℕ) (input : Input) (result : Result (Unit {0}) Refused) → Looks s m → may_tell moment → IsDueInput (due_at (served_on terms (seen m)) moment) input
      → IfOk result (λ _. Answers terms m t moment input (λ _. ⊤)) → IfErr result (λ refused. Refuses terms m t moment input refused) → RecordsDue terms may_tell s t
  due_made s m t moment input (Ok done) look told due ok err = due_recorded s m t moment input ok.0 look told due ok.1
  due_made s m t moment input (Err refused) look told due ok err =
      dues_none s t (later_trans (seen s) (seen m) (seen t) look.0 err.0.0, err.0.1 ∙ look.1)
