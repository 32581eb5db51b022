-- Cursors of chains of user databases: which answers a cursor has taken.
use Rattle.std.specs.Prelude.{◌≡◌, ℕ, ◌<◌, List, [], ◌∷◌, ◌++◌, None, IsTrue}
use Rattle.da_fields.specs.Answers.{Answers, answer_from}
use Rattle.da_fields.specs.declared.answer.Answer.{Answer}
use Rattle.da_userdb.specs.UserChain.{are_valid_userdbs, user_chain}
use Rattle.da_userdb.specs.UserPlaces.{walk_from, Stands}
use Rattle.da_userdb.specs.declared.cursor.UserCursor.{UserCursor}
use Rattle.da_userdb.specs.declared.database.Lookup.{Lookup}
use Rattle.da_userdb.specs.declared.database.Userdb.{Userdb}
use Rattle.da_userdb.specs.declared.database.UserChain.{UserChain}
use Rattle.da_userdb.specs.declared.database.UserChain.TheVariants.{Ask}
use Rattle.da_userdb.specs.declared.progress.UserProgress.{UserProgress}
use Rattle.da_userdb.specs.declared.walk.UserPlace.{UserPlace}
use Rattle.da_userdb.specs.declared.walk.UserPlace.TheVariants.{Before, End}

-- no database behind the place has an answer
abbrev pub IsFresh : UserPlace → Answers → Type 0
IsFresh (Before index) answers = (n : ℕ) → index < n → answer_from n answers ≡ None
IsFresh End answers = Unit {0}

-- the place and the state of a chain that has taken these answers
pub record IsPlaceAfter (dbs : List Userdb) (lookup : Lookup) (answers : Answers) (place : UserPlace) (progress : UserProgress) : Type 0 where
  -- whatever is answered later, the chain from the start goes on as it does from here
  pub rest : (more : Answers) → walk_from place dbs lookup (answers ++ more) progress ≡ user_chain dbs lookup (answers ++ more)
  pub is_there : Stands place dbs lookup answers progress
  pub fresh : IsFresh place answers

-- the cursor has taken these answers, in a chain of this lookup along these databases
pub record UserStandsAfter (dbs : List Userdb) (lookup : Lookup) (answers : Answers) (cursor : UserCursor) : Type 0 where
  pub valid : IsTrue (are_valid_userdbs dbs)
  pub lookup_is : cursor.lookup ≡ lookup
  pub place : IsPlaceAfter dbs lookup answers cursor.place cursor.progress

-- the cursor is one of a chain along these databases
abbrev pub IsAlong : List Userdb → UserCursor → Type 0
IsAlong dbs cursor = (lookup : Lookup) × (answers : Answers) × UserStandsAfter dbs lookup answers cursor

-- what the chain from the start tells, whichever answers the cursor has taken
abbrev pub TellsChain : List Userdb → UserCursor → UserChain → Type 0
TellsChain dbs cursor chain = (lookup : Lookup) (answers : Answers) → UserStandsAfter dbs lookup answers cursor → chain ≡ user_chain dbs lookup answers

abbrev pub IsAsk : UserChain → Type 0
IsAsk (Ask db) = Unit {0}
IsAsk _ = ⊥

-- the cursor is one of a chain along these databases, and asks one of them
abbrev pub IsAsking : List Userdb → UserCursor → Type 0
IsAsking dbs cursor = (lookup : Lookup) × (answers : Answers) × UserStandsAfter dbs lookup answers cursor × IsAsk (user_chain dbs lookup answers)

-- the answers with that of the database that the chain asks
abbrev pub with_answer_to : UserChain → Answer → Answers → Answers
with_answer_to (Ask db) answer answers = answers ++ (db, answer) ∷ []
with_answer_to _ answer answers = answers

-- the answers that the cursor has taken are those before, and that of the database that it asked
abbrev pub TakesAnswer : List Userdb → Answer → UserCursor → UserCursor → Type 0
TakesAnswer dbs answer before after =
    (lookup : Lookup) (answers : Answers) → UserStandsAfter dbs lookup answers before
    → UserStandsAfter dbs lookup (with_answer_to (user_chain dbs lookup answers) answer answers) after
