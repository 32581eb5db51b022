-- The first of the pairs in order is due where any is.
use Rattle.std.proofs.Common.{◌≡◌, refl, sym, ◌∙◌, ap, List, [], ◌∷◌, ℕ, ◌<◌, ◌≤◌, Bool, true, false, ◌||◌, Some, slice_get, arith}
use Rattle.std.specs.Cmp.{nat_cmp_is}
use Rattle.std.specs.List.{AllByRecursion, list_any}
use Rattle.std.specs.List.Sorted.{IsStrictlySortedBy}
use Rattle.std.specs.Ordering.{ordering_then, nat_cmp}
use Rattle.std.specs.declared.cmp.Ordering.TheVariants.{Less, Greater}
use Rattle.std.proofs.lemmas.Bool.Decides.{leb_tells, nat_tests}
use Rattle.da_delay.specs.Delays.{pair_cmp, IsInOrder, is_due}

earlier : (moment a b : ℕ) → is_due moment (a, 0) ≡ false → is_due moment (b, 0) ≡ true → b < a
earlier moment a b not_yet is = grind (arith, nat_tests, leb_tells a moment, leb_tells b moment, not_yet, is)

later : (moment : ℕ) (p q : ℕ × ℕ) → is_due moment p ≡ false → pair_cmp p q ≡ Less → is_due moment q ≡ false
later moment p q not_yet less = go (is_due moment q) refl
  where
    go : (b : Bool) → is_due moment q ≡ b → is_due moment q ≡ false
    go false e = e
    go true e =
        let greater : pair_cmp p q ≡ Greater = ap (λ o. ordering_then o (nat_cmp p.1 q.1)) (sym (nat_cmp_is p.0 q.0 Greater (earlier moment p.0 q.0 not_yet e))) in
        let clash : Less ≡ Greater = sym less ∙ greater in
        cc

none_later : (moment : ℕ) (p : ℕ × ℕ) (qs : List (ℕ × ℕ)) → is_due moment p ≡ false → AllByRecursion (λ q. pair_cmp p q ≡ Less) qs → list_any (is_due moment) qs ≡ false
none_later moment p [] not_yet above = refl
none_later moment p (q ∷ qs) not_yet above = ap (λ b. b || list_any (is_due moment) qs) (later moment p q not_yet above.0) ∙ none_later moment p qs not_yet above.1

-- the first pair is due, so some pair is
pub first_is_due : (moment : ℕ) (pairs : List (ℕ × ℕ)) (p : ℕ × ℕ) → slice_get pairs 0 ≡ Some p → p.0 ≤ moment → true ≡ list_any (is_due moment) pairs
first_is_due moment [] p first reached = cc
first_is_due moment (q ∷ qs) p first reached =
    let same : q ≡ p = cc in
    let now : is_due moment p ≡ true = grind (arith, nat_tests, leb_tells p.0 moment, reached) in
    ap (λ c. c || list_any (is_due moment) qs) (sym (ap (is_due moment) same ∙ now))

-- the first pair isn't due, so none is
pub first_is_later : (moment : ℕ) (pairs : List (ℕ × ℕ)) (p : ℕ × ℕ) → IsInOrder pairs → slice_get pairs 0 ≡ Some p → moment < p.0 → false ≡ list_any (is_due moment) pairs
unfolding IsStrictlySortedBy
first_is_later moment [] p order first ahead = cc
first_is_later moment (q ∷ qs) p order first ahead =
    let same : q ≡ p = cc in
    let later : is_due moment p ≡ false = grind (arith, nat_tests, leb_tells p.0 moment, ahead) in
    let not_yet = ap (is_due moment) same ∙ later in
    sym (ap (λ c. c || list_any (is_due moment) qs) not_yet ∙ none_later moment q qs not_yet order.0)
