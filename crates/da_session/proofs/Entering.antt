-- One entry, as a call of the port makes it, among those that a seat made.
use Rattle.std.proofs.Common.{◌≡◌, ℕ, List, [], ◌∷◌, ◌++◌, length, refl, ap, ◌∙◌}
use Rattle.da_play.specs.Play.{next_entry}
use Rattle.da_play.specs.declared.input.Entry.{Entry}
use Rattle.da_play.specs.declared.input.Input.{Input}
use Rattle.da_port.specs.Calls.{Looks, PortSeat}
use Rattle.da_port.specs.declared.terms.Terms.{Terms}
use Rattle.da_session.proofs.Histories.{later_self, later_trans}
use Rattle.da_session.specs.Made.{IsMade}
use Rattle.da_session.specs.Bridges.{IsRecorded}
use Rattle.da_turn.specs.Entries.{IsLater}
use Rattle.da_turn.specs.Seats.{made, seen}

module _ (terms : Terms) (may_tell : ℕ → Type 0) where
  -- what was made goes on being so, of an older and a newer history
  abbrev pub made_later : (older old now newer : List Entry) (input : Input) (x : ℕ × Entry) → IsLater older old → IsLater now newer → IsMade terms may_tell old now input x → IsMade terms may_tell older newer input x
  made_later older old now newer input x back on m =
      record {
        before = m.before;
        moment = m.moment;
        told = m.told;
        later = later_trans older old m.before back m.later;
        stands = later_trans (x.1 ∷ m.before) now newer m.stands on;
        number = m.number;
        is_entry = m.is_entry;
      }

  -- the entry, with its number
  abbrev pub entry_of : (s t : PortSeat) (input : Input) → IsRecorded terms may_tell s t input → ℕ × Entry
  entry_of s t input r = (length (seen t), next_entry terms.settings r.records.before r.moment input)

  abbrev pub recorded_made : (s t : PortSeat) (input : Input) (r : IsRecorded terms may_tell s t input) → IsMade terms may_tell (seen s) (seen t) input (entry_of s t input r)
  recorded_made s t input r =
      record {
        before = r.records.before;
        moment = r.moment;
        told = r.told;
        later = r.records.later;
        stands = ([], r.records.sees);
        number = ap (λ (h : List Entry). length h) r.records.sees;
        is_entry = refl;
      }

  pub recorded_later : (s t : PortSeat) (input : Input) → IsRecorded terms may_tell s t input → IsLater (seen s) (seen t)
  recorded_later s t input r =
      later_trans (seen s) r.records.before (seen t) r.records.later (next_entry terms.settings r.records.before r.moment input ∷ [], r.records.sees)

  pub recorded_gains : (s t : PortSeat) (input : Input) (r : IsRecorded terms may_tell s t input) → made t ≡ made s ++ entry_of s t input r ∷ []
  recorded_gains s t input r = r.records.gains

  -- a look before it
  pub recorded_after_look : (s m t : PortSeat) (input : Input) → Looks s m → IsRecorded terms may_tell m t input → IsRecorded terms may_tell s t input
  recorded_after_look s m t input look r =
      record {
        moment = r.moment;
        told = r.told;
        out = r.out;
        records = record {
          before = r.records.before;
          later = later_trans (seen s) (seen m) r.records.before look.0 r.records.later;
          sees = r.records.sees;
          legal = r.records.legal;
          gains = r.records.gains ∙ ap (λ (l : List (ℕ × Entry)). l ++ (length (seen t), next_entry terms.settings r.records.before r.moment input) ∷ []) look.1;
          replies = r.records.replies;
        };
      }

pub look_self : (s : PortSeat) → Looks s s
look_self s = (later_self (seen s), refl)

pub look_on : (s m t : PortSeat) → Looks s m → Looks m t → Looks s t
look_on s m t a b = (later_trans (seen s) (seen m) (seen t) a.0 b.0, b.1 ∙ a.1)
