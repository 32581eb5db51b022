-- What a turn with one step of the core comes to for its seat.
use Rattle.std.proofs.Common.{◌≡◌, sym, ◌∙◌, ap, subst, ℕ, Bool, true, List, [], ◌∷◌, ◌++◌, length, Result, Ok, Err, IfOk}
use Rattle.da_play.specs.Legal.{IsLegal}
use Rattle.da_play.specs.Play.{next_entry}
use Rattle.da_play.specs.Served.{Served}
use Rattle.da_play.specs.Steps.{IsEntered, Steps}
use Rattle.da_play.specs.declared.input.Entry.{Entry}
use Rattle.da_play.specs.declared.input.Input.{Input}
use Rattle.da_play.specs.declared.outputs.Outputs.{Outputs}
use Rattle.da_play.specs.declared.outputs.Refused.{Refused}
use Rattle.da_port.proofs.Causes.{given_replies}
use Rattle.da_port.specs.Calls.{PortSeat, Records}
use Rattle.da_port.specs.Terms.{terms_of}
use Rattle.da_port.specs.declared.terms.Terms.{Terms}
use Rattle.da_turn.specs.Entries.{IsLater}
use Rattle.da_turn.specs.Seats.{Gains, made, seen}

module _ (before after : Served) (moment : ℕ) (input : Input) where
  abbrev entry : Entry
  entry = next_entry before.settings before.history moment input

  -- the entry that a step adds
  pub entry_added : (out : Outputs) → IsEntered before after moment input out → after.history ≡ entry ∷ before.history
  entry_added out is = ap (λ (s : Served). s.history) is.goes_on ∙ (given_replies before.settings before.history moment input out is.replies).grows

  pub entry_of : (result : Result Outputs Refused) (out : Outputs) → result ≡ Ok out → Steps before after moment input result → IsEntered before after moment input out
  entry_of result out is steps = subst (λ (r : Result Outputs Refused). Steps before after moment input r) is steps

  module _ (s t : PortSeat) (at : List Entry) (had : List (ℕ × Entry)) (added : Bool) where
    on_its_terms : (out : Outputs) → IsEntered before after moment input out → IsLegal after.settings after.history → IsLater (seen s) before.history → seen t ≡ after.history →
        at ≡ before.history → had ≡ made s → added ≡ true → Gains added at after.history had (made t) → Records (terms_of before) s t moment input out
    on_its_terms out is legal later sees got has adds gains =
        let grows : after.history ≡ entry ∷ before.history = entry_added out is in
        let gained : made t ≡ had ++ (length after.history, entry) ∷ [] = subst (λ (b : Bool). Gains b at after.history had (made t)) adds gains entry (grows ∙ ap (λ (h : List Entry). entry ∷ h) (sym got)) in
        record {
          before = before.history;
          later = later;
          sees = sees ∙ grows;
          legal = subst (λ (h : List Entry). IsLegal before.settings h) (sym sees) (subst (λ (v : Served). IsLegal v.settings after.history) is.goes_on legal);
          gains = gained ∙ ap (λ (m : List (ℕ × Entry)). m ++ (length after.history, entry) ∷ []) has ∙ ap (λ (h : List Entry). made s ++ (length h, entry) ∷ []) (sym sees);
          replies = is.replies;
        }

    pub turn_records : (terms : Terms) (result : Result Outputs Refused) → Steps before after moment input result → terms_of before ≡ terms → IsLegal after.settings after.history → IsLater (seen s) before.history →
        seen t ≡ after.history → at ≡ before.history → had ≡ made s → IfOk result (λ _. added ≡ true) → Gains added at after.history had (made t) → IfOk result (λ out. Records terms s t moment input out)
    turn_records terms (Ok out) steps on legal later sees got has adds gains = subst (λ (x : Terms). Records x s t moment input out) on (on_its_terms out steps legal later sees got has adds gains)
    turn_records terms (Err refused) steps on legal later sees got has adds gains = tt
