-- A place in a chain of user databases, and the rest of the chain from there.
use Rattle.std.specs.Prelude.{◌≡◌, ℕ, ◌<◌, ◌≤◌, List, length, Option, Some, None, drop, slice_get}
use Rattle.da_base.specs.Words.{Bytes, option_or_else}
use Rattle.da_fields.specs.Answers.{Answers, answer_from}
use Rattle.da_fields.specs.FieldList.{Pairs}
use Rattle.da_fields.specs.declared.answer.Answer.{Answer}
use Rattle.da_names.specs.declared.variables.Vars.{Vars}
use Rattle.da_userdb.specs.declared.database.Lookup.{Lookup}
use Rattle.da_userdb.specs.declared.database.Userdb.{Userdb}
use Rattle.da_userdb.specs.declared.database.UserChain.{UserChain}
use Rattle.da_userdb.specs.declared.database.UserChain.TheVariants.{Ask, NotFound}
use Rattle.da_userdb.specs.declared.progress.Course.{Course}
use Rattle.da_userdb.specs.declared.progress.Course.TheVariants.{GoesOn, Ends}
use Rattle.da_userdb.specs.declared.progress.UserProgress.{UserProgress}
use Rattle.da_userdb.specs.declared.step.ChainStep.{ChainStep}
use Rattle.da_userdb.specs.declared.step.ChainStep.TheVariants.{GoesOn as StepsOn, Asks, Ends as StepsOut}
use Rattle.da_userdb.specs.declared.step.Subject.{Subject}
use Rattle.da_userdb.specs.declared.walk.UserPlace.{UserPlace}
use Rattle.da_userdb.specs.declared.walk.UserPlace.TheVariants.{Before, End}
use Rattle.da_userdb.specs.UserChain.{UserMove, UserGoOn, UserStop, user_end, user_move, user_walk}

abbrev pub lookup_for : Bytes → Pairs → Vars → Lookup
lookup_for user passdb_fields vars = record { user = user; passdb_fields = passdb_fields; vars = vars }

-- the lookup behind references
abbrev pub lookup_of : Subject → Lookup
lookup_of s = lookup_for s.user.now s.passdb_fields.now s.vars.now

-- ---- steps

-- what a database does, where it leaves this state
abbrev pub course_move : Course → UserProgress → UserMove
course_move GoesOn p = UserGoOn p
course_move Ends p = UserStop (user_end p)

-- the same for a database of this number that may be asked
abbrev pub step_move : ChainStep → ℕ → UserProgress → UserMove
step_move StepsOn db p = UserGoOn p
step_move Asks db p = UserStop (Ask db)
step_move StepsOut db p = UserStop (user_end p)

-- a database without an answer may be asked, and then nothing changes
abbrev pub AsksUnchanged : ChainStep → Option Answer → UserProgress → UserProgress → Type 0
AsksUnchanged Asks answer before after = (answer ≡ None) × (after ≡ before)
AsksUnchanged _ answer before after = Unit {0}

-- ---- places

-- the rest of the chain from a place, with the answers so far
abbrev pub walk_from : UserPlace → List Userdb → Lookup → Answers → UserProgress → UserChain
walk_from (Before index) dbs lookup answers p = user_walk (drop index dbs) lookup answers p
walk_from End dbs lookup answers p = user_end p

-- what a chain tells at a place: there it asks, or has ended
abbrev pub told_at : UserPlace → List Userdb → UserProgress → UserChain
told_at (Before index) dbs p = option_or_else (slice_get dbs index) NotFound (λ db. Ask db.number)
told_at End dbs p = user_end p

-- a database that is asked, where these answers are so far
pub record IsAsked (db : Userdb) (lookup : Lookup) (answers : Answers) (p : UserProgress) : Type 0 where
  pub asks : user_move db lookup p None ≡ UserStop (Ask db.number)
  pub is_open : answer_from db.number answers ≡ None

-- the place is before a database that is asked, or at the end
abbrev pub Stands : UserPlace → List Userdb → Lookup → Answers → UserProgress → Type 0
Stands (Before index) dbs lookup answers p = (db : Userdb) × (slice_get dbs index ≡ Some db) × IsAsked db lookup answers p
Stands End dbs lookup answers p = Unit {0}

-- the place is at this index or behind it
abbrev pub IsFrom : ℕ → UserPlace → Type 0
IsFrom from (Before index) = from ≤ index
IsFrom from End = Unit {0}

abbrev pub IsWithin : UserPlace → List Userdb → Type 0
IsWithin (Before index) dbs = index < length dbs
IsWithin End dbs = Unit {0}

-- with this answer of the database at the index, whatever else is answered, the chain goes on from the new place
abbrev pub GoesOnWith : ℕ → Answer → List Userdb → Lookup → UserProgress → UserPlace → UserProgress → Type 0
GoesOnWith index answer dbs lookup before place after =
    (db : Userdb) (answers : Answers) → slice_get dbs index ≡ Some db → answer_from db.number answers ≡ Some answer
    → walk_from place dbs lookup answers after ≡ user_walk (drop index dbs) lookup answers before
