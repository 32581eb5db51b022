-- Histories that go on from one another.
use Rattle.std.proofs.Common.{List, [], ◌++◌, refl, sym, ap, ◌∙◌, append_assoc}
use Rattle.da_turn.specs.Entries.{IsLater}

module _ {E : Type 0} where
  pub later_self : (h : List E) → IsLater h h
  later_self h = ([], refl)

  pub later_trans : (a b c : List E) → IsLater a b → IsLater b c → IsLater a c
  later_trans a b c p q = (q.0 ++ p.0, q.1 ∙ ap (λ l. q.0 ++ l) p.1 ∙ sym (append_assoc q.0 p.0 a))
