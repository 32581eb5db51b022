-- Cursors of the chains of logins: which answers a cursor has taken.
use Rattle.std.specs.Prelude.{◌≡◌, ℕ, ◌+◌, ◌<◌, true, List, [], ◌∷◌, ◌++◌, Some, None, slice_get, IsTrue}
use Rattle.da_fields.specs.Answers.{Answers, answer_from}
use Rattle.da_fields.specs.declared.answer.Answer.{Answer}
use Rattle.da_passdb.specs.LoginChain.{are_valid_passdbs, login_chain}
use Rattle.da_passdb.specs.Places.{chain_of_stand, Stands}
use Rattle.da_passdb.specs.declared.chain.Chain.{Chain}
use Rattle.da_passdb.specs.declared.chain.Chain.TheVariants.{Ask, Done}
use Rattle.da_passdb.specs.declared.cursor.Cursor.{Cursor}
use Rattle.da_passdb.specs.declared.database.Passdb.{Passdb}
use Rattle.da_passdb.specs.declared.login.Login.{Login}
use Rattle.da_passdb.specs.declared.part.Part.{Part}
use Rattle.da_passdb.specs.declared.part.Part.TheVariants.{Ordinary, Masters, AfterMasters}
use Rattle.da_passdb.specs.declared.walk.Place.{Place}
use Rattle.da_passdb.specs.declared.walk.Place.TheVariants.{Before, End}
use Rattle.da_passdb.specs.declared.walk.Stand.{Stand}

-- the number is that of a database that authenticates masters
pub record IsMaster (dbs : List Passdb) (n : ℕ) : Type 0 where
  pub index : ℕ
  pub db : Passdb
  pub number : n ≡ 1 + index
  pub here : slice_get dbs index ≡ Some db
  pub master : db.master ≡ true

-- the chain may still come to a database of this number, from behind an index in a part
abbrev pub IsAhead : Part → ℕ → List Passdb → ℕ → Type 0
IsAhead Ordinary index dbs n = index < n
IsAhead Masters index dbs n = IsMaster dbs n → index < n
IsAhead AfterMasters index dbs n = (index < n) × (IsMaster dbs n → ⊥)

-- no database that the chain may still come to has an answer
abbrev pub IsFresh : Part → Place → List Passdb → Answers → Type 0
IsFresh part (Before index) dbs answers = (n : ℕ) → IsAhead part index dbs n → answer_from n answers ≡ None
IsFresh part (End how) dbs answers = Unit {0}

-- the place and the state of a chain that has taken these answers
pub record IsStandAfter (dbs : List Passdb) (login : Login) (answers : Answers) (s : Stand) : Type 0 where
  -- whatever is answered later, the chain from the start goes on as it does from here
  pub rest : (more : Answers) → chain_of_stand s dbs login (answers ++ more) ≡ login_chain dbs login (answers ++ more)
  pub is_there : Stands s dbs login answers
  pub fresh : IsFresh s.part s.place dbs answers

-- the cursor has taken these answers, in the chain of this login along these databases
pub record StandsAfter (dbs : List Passdb) (login : Login) (answers : Answers) (cursor : Cursor) : Type 0 where
  pub valid : IsTrue (are_valid_passdbs dbs)
  pub login_is : cursor.login ≡ login
  pub stand : IsStandAfter dbs login answers cursor.stand

-- the cursor is one of a chain along these databases
abbrev pub IsAlong : List Passdb → Cursor → Type 0
IsAlong dbs cursor = (login : Login) × (answers : Answers) × StandsAfter dbs login answers cursor

-- what the chain from the start tells, whichever answers the cursor has taken
abbrev pub TellsChain : List Passdb → Cursor → Chain → Type 0
TellsChain dbs cursor chain = (login : Login) (answers : Answers) → StandsAfter dbs login answers cursor → chain ≡ login_chain dbs login answers

abbrev pub IsAsk : Chain → Type 0
IsAsk (Ask db kind user checked) = Unit {0}
IsAsk (Done verdict) = ⊥

-- the cursor is one of a chain along these databases, and asks one of them
abbrev pub IsAsking : List Passdb → Cursor → Type 0
IsAsking dbs cursor = (login : Login) × (answers : Answers) × StandsAfter dbs login answers cursor × IsAsk (login_chain dbs login answers)

-- the answers with that of the database that the chain asks
abbrev pub with_answer_to : Chain → Answer → Answers → Answers
with_answer_to (Ask db kind user checked) answer answers = answers ++ (db, answer) ∷ []
with_answer_to (Done verdict) answer answers = answers

-- the answers that the cursor has taken are those before, and that of the database that it asked
abbrev pub TakesAnswer : List Passdb → Answer → Cursor → Cursor → Type 0
TakesAnswer dbs answer before after =
    (login : Login) (answers : Answers) → StandsAfter dbs login answers before
    → StandsAfter dbs login (with_answer_to (login_chain dbs login answers) answer answers) after
