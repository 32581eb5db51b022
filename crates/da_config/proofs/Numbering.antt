-- Databases that are read one after another.
use Rattle.std.proofs.Common.{◌≡◌, ℕ, ◌+◌, suc, true, List, [], ◌∷◌, ◌++◌, length, Some, Result, Ok, Err, ap, sym, subst, refl, ◌∙◌, append_assoc, arith}
use Rattle.std.proofs.lemmas.List.{length_push}
use Rattle.std.proofs.lemmas.Bool.{and_parts, eq-eqb}
use Rattle.std.specs.Prelude.{is_some}
use Rattle.toml.specs.Data.{Data, Items, item, Members, as_table}
use Rattle.da_passdb.specs.LoginChain as passdbs
use Rattle.da_passdb.specs.declared.database.Passdb.{Passdb}
use Rattle.da_userdb.specs.UserChain as userdbs
use Rattle.da_userdb.specs.declared.database.Userdb.{Userdb}
use Rattle.da_config.specs.declared.fault.Fault.{Fault}
use Rattle.da_config.specs.Reading.{◌>>=◌}
use Rattle.da_config.specs.Parts.{are_tables, tables_in}
use Rattle.da_config.specs.Databases.{Fit, FitsPassdb, FitsUserdb, databases_from}

-- these databases, and those that come after them
abbrev pub after : {A : Type 0} → List A → Result (List A) Fault → Result (List A) Fault
after dbs more = more >>= (λ rest. Ok (dbs ++ rest))

-- one database taken from those that come
pub after-cons : {A : Type 0} (dbs : List A) (db : A) (more : Result (List A) Fault) → after dbs (more >>= (λ rest. Ok (db ∷ rest))) ≡ after (dbs ++ db ∷ []) more
after-cons dbs db (Ok rest) = ap Ok (sym (append_assoc dbs (db ∷ []) rest))
after-cons dbs db (Err fault) = refl

-- the next table is read as this database
pub databases_from-next : {A : Type 0} (one : ℕ → Members → Result A Fault) (dbs : List A) (db : A) (table : Members) (tables : List Members)
    → one (length dbs + 1) table ≡ Ok db
    → after dbs (databases_from one (length dbs + 1) (table ∷ tables)) ≡ after (dbs ++ db ∷ []) (databases_from one (length (dbs ++ db ∷ []) + 1) tables)
databases_from-next one dbs db table tables read =
    rw read (after-cons dbs db (databases_from one (suc (length dbs + 1)) tables)
    ∙ ap (λ n. after (dbs ++ db ∷ []) (databases_from one n tables)) (omega (arith, length_push dbs db)))

-- the tables among items that are all tables
pub tables_in-next : (d : Data) (items : Items) (table : Members) → as_table d ≡ Some table → tables_in (item d items) ≡ table ∷ tables_in items
tables_in-next d items table is = rw is

pub are_tables-rest : (d : Data) (items : Items) → are_tables (item d items) ≡ true → are_tables items ≡ true
are_tables-rest d items all = (and_parts (is_some (as_table d)) (are_tables items) all).1

-- a database read under its number
pub read-at : {A : Type 0} (one : ℕ → Members → Result A Fault) (n m : ℕ) (table : Members) (db : A) → n ≡ m → one n table ≡ Ok db → one m table ≡ Ok db
read-at one n m table db same read = subst (λ (k : ℕ). one k table ≡ Ok db) same read

-- one database more at the end of those that fit
pub Fit-push : {A : Type 0} (fits : ℕ → A → Type 0) (n : ℕ) (dbs : List A) (db : A) → Fit fits n dbs → fits (n + length dbs) db → Fit fits n (dbs ++ db ∷ [])
Fit-push fits n [] db so fit =
    let place : n + 0 ≡ n = omega arith in
    (subst (λ (k : ℕ). fits k db) place fit, tt)
Fit-push fits n (x ∷ dbs) db so fit =
    let place : n + length (x ∷ dbs) ≡ suc n + length dbs = omega arith in
    (so.0, Fit-push fits (suc n) dbs db so.1 (subst (λ (k : ℕ). fits k db) place fit))

-- databases that fit are valid
pub valid_passdbs : (n : ℕ) (dbs : List Passdb) → Fit FitsPassdb n dbs → passdbs.are_valid_from n dbs ≡ true
valid_passdbs n [] fit = refl
valid_passdbs n (db ∷ dbs) fit = rw (eq-eqb db.number n fit.0.0, fit.0.1, valid_passdbs (suc n) dbs fit.1)

pub valid_userdbs : (n : ℕ) (dbs : List Userdb) → Fit FitsUserdb n dbs → userdbs.are_valid_from n dbs ≡ true
valid_userdbs n [] fit = refl
valid_userdbs n (db ∷ dbs) fit = rw (eq-eqb db.number n fit.0.0, fit.0.1, valid_userdbs (suc n) dbs fit.1)
