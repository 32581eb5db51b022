-- Databases by their numbers: each that valid settings have is valid.
use Rattle.std.proofs.Common.{◌≡◌, refl, ℕ, zero, suc, Bool, true, false, ◌&&◌, List, [], ◌∷◌, Some, subst, eqb}
use Rattle.std.specs.Prelude.{slice_get}
use Rattle.std.proofs.lemmas.Option.{none-some, same_Some}
use Rattle.da_base.specs.Words.{nth}
use Rattle.da_passdb.specs.LoginChain.{are_valid_from, is_valid_passdb}
use Rattle.da_passdb.specs.declared.database.Passdb.{Passdb}

later_parts : (a b c : Bool) → (a && b && c) ≡ true → (b ≡ true) × (c ≡ true)
later_parts true true true is = (refl, refl)
later_parts true true false is = absurd (cc)
later_parts true false c is = absurd (cc)
later_parts false b c is = absurd (cc)

valid_from : (n : ℕ) (dbs : List Passdb) (index : ℕ) (db : Passdb) → are_valid_from n dbs ≡ true → slice_get dbs index ≡ Some db → is_valid_passdb db ≡ true
valid_from n [] index db valid here = absurd (none-some db here)
valid_from n (first ∷ dbs) zero db valid here =
    subst (λ d. is_valid_passdb d ≡ true) (same_Some first db here) (later_parts (eqb first.number n) (is_valid_passdb first) (are_valid_from (suc n) dbs) valid).0
valid_from n (first ∷ dbs) (suc index) db valid here =
    valid_from (suc n) dbs index db (later_parts (eqb first.number n) (is_valid_passdb first) (are_valid_from (suc n) dbs) valid).1 here

pub valid_at : (dbs : List Passdb) (number : ℕ) (db : Passdb) → are_valid_from 1 dbs ≡ true → nth dbs number ≡ Some db → is_valid_passdb db ≡ true
valid_at dbs zero db valid here = absurd (none-some db here)
valid_at dbs (suc index) db valid here = valid_from 1 dbs index db valid here
