-- The stages of seats, and what a view that knows no more keeps.
use Rattle.std.proofs.Common.{◌≡◌, ◌≢◌, ⊎_elim, inl, inr, ℕ, zero, suc, List, [], ◌∷◌, set, refl, sym, ap, ◌∙◌, Option, Some}
use mathlib.Core.Option.{none, some, some-ne-none, some-injective}
use mathlib.Core.Option as maybe
use lib.ListN.{get_elem?}
use Rattle.atomic_table.proofs.Lists.{set_else}
use Rattle.da_turn.specs.declared.view.View.{View}
use Rattle.da_turn.specs.declared.view.LockStage.{LockStage}
use Rattle.da_turn.specs.declared.view.LockStage.TheVariants.{Free, Drew, Due, Has}
use Rattle.da_turn.specs.Law.{Owns, EntriesDiffer, Fits, History, Out, NoneHas, staged, Slot}
use Rattle.da_turn.proofs.Views.{each_set, pairs_set}

module _ {E : Type 0} where
  pub not_has : (n m : ℕ) (at : List E) → Drew n ≡ Has m at → ⊥
  not_has n m at e = absurd cc

  pub due_not_has : (n m : ℕ) (at : List E) → Due n ≡ Has m at → ⊥
  due_not_has n m at e = absurd cc

  pub free_not_has : (m : ℕ) (at : List E) → Free ≡ Has m at → ⊥
  free_not_has m at e = absurd cc

  pub has_same : (n m : ℕ) (l k : List E) → Has n l ≡ Has m k → (n ≡ m) × (l ≡ k)
  has_same n m l k e = (cc e, cc e)

  pub drew_same : (n m : ℕ) → ◌≡◌ {A = LockStage E} (Drew n) (Drew m) → n ≡ m
  drew_same n m e = cc e

  pub due_same : (n m : ℕ) → ◌≡◌ {A = LockStage E} (Due n) (Due m) → n ≡ m
  due_same n m e = cc e

module _ {A : Type 0} where
  pub set_swap : (l : List A) (i j : ℕ) (a b : A) → i ≢ j → set (set l i a) j b ≡ set (set l j b) i a
  set_swap [] i j a b ne = refl
  set_swap (x ∷ xs) zero zero a b ne = absurd (ne refl)
  set_swap (x ∷ xs) zero (suc j) a b ne = refl
  set_swap (x ∷ xs) (suc i) zero a b ne = refl
  set_swap (x ∷ xs) (suc i) (suc j) a b ne = ap (λ (l : List A). x ∷ l) (set_swap xs i j a b (λ e. ne (ap suc e)))

module _ {E F : Type 0} where
  pub apart_turned : (v w : View E F) → EntriesDiffer v w → EntriesDiffer w v
  apart_turned v w h k a b = h k b a

  -- a view that knows no more of the list and owns no more
  pub knows_same : (log : List E) (f : F) (views : List (View E F)) (me : ℕ) (v w : View E F) → History log f views → get_elem? views me ≡ some v → Fits log f w → ((k : ℕ) → Owns w k → Owns v k)
      → History log f (set views me w)
  knows_same log f views me v w h at fits owns = record {
    fits = each_set (Fits log f) views me w fits (λ j u ne e. h.fits j u e);
    differ = pairs_set EntriesDiffer views me w apart_turned h.differ (λ j u ne e k a b. h.differ me j v u (λ (m : me ≡ j). ne (sym m)) at e k (owns k a) b);
  }

  -- another stage that has no value
  pub fits_staged : (log : List E) (f : F) (v : View E F) (st : LockStage E) → Fits log f v → ((n : ℕ) (at : List E) → st ≡ Has n at → at ≡ log) → Fits log f (staged st v)
  fits_staged log f v st h has = record { seen = h.seen; guest_seen = h.guest_seen; sound = h.sound; guest_sound = h.guest_sound; apart = h.apart; fixed = h.fixed; has = has }

module _ {K E F : Type 0} where
  -- the seat had no value, and has none
  pub slot_stays : (entries : K → List E) (fixed : K → F) (log : List E) (f : F) (views : List (View E F)) (home : maybe.Option (Option K)) (me : ℕ) (v w : View E F)
      → get_elem? views me ≡ some v → ((n : ℕ) (at : List E) → v.stage ≡ Has n at → ⊥) → ((n : ℕ) (at : List E) → w.stage ≡ Has n at → ⊥)
      → Slot entries fixed log f views home → Slot entries fixed log f (set views me w) home
  slot_stays entries fixed log f views home me v w at before after slot = ⊎_elim
      (λ (t : (x : K) × (home ≡ some (Some x)) × (entries x ≡ log) × (fixed x ≡ f) × NoneHas views). inl (
        t.0,
        t.1,
        t.2,
        t.3,
        λ j u n l e has. each_set (λ (u : View E F). (n : ℕ) (l : List E) → u.stage ≡ Has n l → ⊥) views me w after (λ j u ne e n l. t.4 j u n l e) j u e n l has,
      ))
      (λ (t : (home ≡ none) × Out views). let o = t.1 in inr (
        t.0,
        record {
          seat = o.seat;
          view = o.view;
          number = o.number;
          at = o.at;
          has = o.has;
          sits = set_else views me o.seat w (λ (m : o.seat ≡ me). before o.number o.at (ap (λ (u : View E F). u.stage) (some-injective v o.view (sym at ∙ (ap (λ (i : ℕ). get_elem? views i) (sym m) ∙ o.sits))) ∙ o.has)) ∙ o.sits;
        },
      ))
      slot
