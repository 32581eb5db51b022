-- Lemmas on lists of databases that are numbered in order.
use Rattle.std.proofs.Common.{◌≡◌, ℕ, zero, suc, ◌+◌, Bool, true, false, ◌&&◌, List, [], ◌∷◌, Some, eqb, refl, sym, ap, arith}
use Rattle.std.specs.Prelude.{slice_get}
use Rattle.std.specs.List.{list_all}
use Rattle.std.proofs.lemmas.Bool.{eqb-true}
use Rattle.std.proofs.lemmas.Option.{same_Some}
use Rattle.da_chain.specs.Numbering.{are_numbered}

three_parts : (a b c : Bool) → (a && b && c) ≡ true → (a ≡ true) × (b ≡ true) × (c ≡ true)
three_parts true true true is = (refl, refl, refl)
three_parts true true false is = absurd (cc)
three_parts true false c is = absurd (cc)
three_parts false b c is = absurd (cc)

both_true : (a b : Bool) → a ≡ true → b ≡ true → (a && b) ≡ true
both_true true true first second = refl
both_true true false first second = second
both_true false b first second = first

module _ {D : Type 0} (number : D → ℕ) (passes : D → Bool) where
  -- each of them passes
  pub all_pass : (n : ℕ) (dbs : List D) → are_numbered number passes n dbs ≡ true → list_all passes dbs ≡ true
  all_pass n [] valid = refl
  all_pass n (db ∷ dbs) valid =
      let parts = three_parts (eqb (number db) n) (passes db) (are_numbered number passes (suc n) dbs) valid in
      both_true (passes db) (list_all passes dbs) parts.1 (all_pass (suc n) dbs parts.2)

  -- the number of each tells its place
  pub number_at : (n : ℕ) (dbs : List D) (index : ℕ) (db : D) → are_numbered number passes n dbs ≡ true → slice_get dbs index ≡ Some db → number db ≡ n + index
  number_at n [] index db valid here = absurd (cc)
  number_at n (first ∷ dbs) zero db valid here =
      let parts = three_parts (eqb (number first) n) (passes first) (are_numbered number passes (suc n) dbs) valid in
      let is : number first ≡ n = eqb-true (number first) n parts.0 in
      let same : number db ≡ number first = ap number (sym (same_Some first db here)) in
      omega (arith, is, same)
  number_at n (first ∷ dbs) (suc index) db valid here =
      let parts = three_parts (eqb (number first) n) (passes first) (are_numbered number passes (suc n) dbs) valid in
      let is : number db ≡ suc n + index = number_at (suc n) dbs index db parts.2 here in
      omega (arith, is)
