-- Rests and rounds, one after another.
use Rattle.std.proofs.Common.{refl, sym, ◌∙◌, ap, ℕ, zero, suc, List, [], ◌++◌, append_assoc}
use Rattle.da_play.specs.declared.input.Entry.{Entry}
use Rattle.da_port.specs.Calls.{Looks, PortSeat}
use Rattle.da_turn.specs.Entries.{IsLater}
use Rattle.da_turn.specs.Seats.{seen}
use Rattle.da_workers.specs.Working.{Rests, Rounds, Standing}

IsLater-refl : (h : List Entry) → IsLater h h
IsLater-refl h = ([], refl)

IsLater-trans : (a b c : List Entry) → IsLater a b → IsLater b c → IsLater a c
IsLater-trans a b c one two = (two.0 ++ one.0, two.1 ∙ ap (λ (h : List Entry). two.0 ++ h) one.1 ∙ sym (append_assoc two.0 one.0 a))

pub Looks-refl : (s : PortSeat) → Looks s s
Looks-refl s = (IsLater-refl (seen s), refl)

pub Looks-trans : (s t u : PortSeat) → Looks s t → Looks t u → Looks s u
Looks-trans s t u one two = (IsLater-trans (seen s) (seen t) (seen u) one.0 two.0, two.1 ∙ one.1)

module _ {L : Type 0} where
  pub Rests-refl : (s : Standing L) → Rests s s
  Rests-refl s = (Looks-refl s.seat, refl)

  Rests-trans : (s t u : Standing L) → Rests s t → Rests t u → Rests s u
  Rests-trans s t u one two = (Looks-trans s.seat t.seat u.seat one.0 two.0, two.1 ∙ one.1)

  module _ (Round : Standing L → Standing L → Type 0) where
    pub then_rests : (n : ℕ) (s t u : Standing L) → Rounds Round n s t → Rests t u → Rounds Round n s u
    then_rests zero s t u rounds rests = Rests-trans s t u rounds rests
    then_rests (suc n) s t u rounds rests = (rounds.0, rounds.1, rounds.2, rounds.3, Rests-trans rounds.1 t u rounds.4 rests)

    pub one_more : (n : ℕ) (s t u : Standing L) → Rounds Round n s t → Round t u → Rounds Round (suc n) s u
    one_more n s t u rounds round = (t, u, rounds, round, Rests-refl u)
