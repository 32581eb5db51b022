-- A place in a login's chain, and the rest of the chain from there.
use Rattle.std.specs.Prelude.{◌≡◌, ℕ, ◌<◌, ◌≤◌, Bool, true, false, not, List, Option, Some, None, length, drop, slice_get, if◌then◌else◌, IsTrue}
use Rattle.da_base.specs.Words.{Bytes, option_or_else}
use Rattle.da_fields.specs.Answers.{Answers, answer_from}
use Rattle.da_fields.specs.declared.answer.Answer.{Answer}
use Rattle.da_fields.specs.declared.outcome.Outcome.TheVariants.{Success}
use Rattle.da_passdb.specs.declared.chain.Chain.{Chain}
use Rattle.da_passdb.specs.declared.chain.Chain.TheVariants.{Ask, Done}
use Rattle.da_passdb.specs.declared.chain.VerdictKind.TheVariants.{Fail as IsFail}
use Rattle.da_passdb.specs.declared.database.Passdb.{Passdb}
use Rattle.da_passdb.specs.declared.login.Login.{Login}
use Rattle.da_passdb.specs.declared.outcome.Judged.{Judged}
use Rattle.da_passdb.specs.declared.part.Part.{Part}
use Rattle.da_passdb.specs.declared.part.Part.TheVariants.{Ordinary, Masters, AfterMasters}
use Rattle.da_passdb.specs.declared.progress.Course.{Course}
use Rattle.da_passdb.specs.declared.progress.Course.TheVariants.{GoesOn, Ends, Jumps}
use Rattle.da_passdb.specs.declared.progress.Progress.{Progress}
use Rattle.da_passdb.specs.declared.step.ChainStep.{ChainStep}
use Rattle.da_passdb.specs.declared.step.ChainStep.TheVariants.{GoesOn as StepsOn, Asks, Ends as StepsOut, Jumps as StepsOver}
use Rattle.da_passdb.specs.declared.walk.Place.{Place}
use Rattle.da_passdb.specs.declared.walk.Place.TheVariants.{Before, End}
use Rattle.da_passdb.specs.declared.walk.Stand.{Stand}
use Rattle.da_passdb.specs.LoginChain.{Walk, Ended, Jumped, Move, GoOn, Stop, asking, answer_credentials, deny_move, answer_move, move, walk, verdict, chain_of, master_databases, user_databases, after_masters}
use Rattle.da_passdb.specs.Outcomes.{is_plaintext_proof, query_kind, outcome}

-- ---- parts

abbrev pub part_for : Option Bytes → Part
part_for None = Ordinary
part_for (Some master) = Masters

-- where the chain of a login begins
abbrev pub first_part : Login → Part
first_part login = part_for login.master

abbrev pub are_masters : Part → Bool
are_masters Masters = true
are_masters _ = false

-- whether the part walks along this database
abbrev pub is_of : Part → Passdb → Bool
is_of Masters db = db.master
is_of _ db = not db.master

abbrev pub databases_of : Part → List Passdb → List Passdb
databases_of Masters dbs = master_databases dbs
databases_of _ dbs = user_databases dbs

-- the name for which the databases of the part are asked
abbrev pub asked_name : Part → Login → Bytes
asked_name Masters login = option_or_else login.master login.user (λ master. master)
asked_name _ login = login.user

-- whether an end in the part tells that the master of a plaintext login was authenticated
abbrev pub has_authz : Part → Login → Bool
has_authz AfterMasters login = is_plaintext_proof login.proof
has_authz _ login = false

-- ---- outcomes

-- a success without a password that was checked before has the answer's stored password
abbrev pub HasCredentials : Passdb → Bool → Answer → Judged → Type 0
HasCredentials db checked answer judged = judged.outcome ≡ Success → checked ≡ false → judged.stored ≡ answer_credentials db answer

pub record IsJudged (db : Passdb) (login : Login) (checked : Bool) (answer : Answer) (judged : Judged) : Type 0 where
  pub outcome : judged.outcome ≡ outcome db login checked answer
  pub credentials : HasCredentials db checked answer judged

-- ---- moves

-- what a database that is asked does
abbrev pub asked_move : Part → Passdb → Login → Progress → Option Answer → Move
asked_move part db login p answer =
    if db.deny then deny_move db (asked_name part login) p answer else answer_move (are_masters part) db (asked_name part login) login p answer

-- what any database does in a part: one of another part does nothing
abbrev pub part_move : Part → Passdb → Login → Progress → Option Answer → Move
part_move part db login p answer = if is_of part db then move (are_masters part) db (asked_name part login) login p answer else GoOn p

-- what a database does, where it leaves this state
abbrev pub course_move : Course → Progress → Move
course_move GoesOn p = GoOn p
course_move (Ends how) p = Stop (Ended how p)
course_move Jumps p = Stop (Jumped p)

-- the same for a database that may be asked
abbrev pub step_move : ChainStep → Passdb → Bytes → Progress → Move
step_move StepsOn db name p = GoOn p
step_move Asks db name p = asking db name p
step_move (StepsOut how) db name p = Stop (Ended how p)
step_move StepsOver db name p = Stop (Jumped p)

-- only the databases of masters jump
abbrev pub JumpsFrom : Part → Course → Type 0
JumpsFrom part Jumps = IsTrue (are_masters part)
JumpsFrom part _ = Unit {0}

abbrev pub StepsFrom : Part → ChainStep → Type 0
StepsFrom part StepsOver = IsTrue (are_masters part)
StepsFrom part _ = Unit {0}

-- a database without an answer may be asked, and then nothing changes
abbrev pub AsksUnchanged : ChainStep → Option Answer → Progress → Progress → Type 0
AsksUnchanged Asks answer before after = (answer ≡ None) × (after ≡ before)
AsksUnchanged _ answer before after = Unit {0}

-- ---- places

-- how a chain ends with the walk of a part
abbrev pub finish : Part → List Passdb → Login → Answers → Walk → Chain
finish Masters dbs login answers w = after_masters dbs login answers w
finish part dbs login answers w = chain_of login (has_authz part login) w

-- the chain from the databases of a part that stand at an index or behind it
abbrev pub chain_from : Part → ℕ → List Passdb → Login → Answers → Progress → Chain
chain_from part index dbs login answers p =
    finish part dbs login answers (walk (are_masters part) (databases_of part (drop index dbs)) (asked_name part login) login answers p)

-- the rest of the chain from a place, with the answers so far
abbrev pub chain_at : Part → Place → List Passdb → Login → Answers → Progress → Chain
chain_at part (Before index) dbs login answers p = chain_from part index dbs login answers p
chain_at part (End how) dbs login answers p = Done (verdict how login (has_authz part login) p)

abbrev pub chain_of_stand : Stand → List Passdb → Login → Answers → Chain
chain_of_stand s dbs login answers = chain_at s.part s.place dbs login answers s.progress

-- what a chain tells at a place: there it asks, or has ended
abbrev pub told_at : Part → Place → List Passdb → Login → Progress → Chain
told_at part (Before index) dbs login p =
    option_or_else (slice_get dbs index) (Done (verdict IsFail login false p)) (λ db. Ask db.number (query_kind db) (asked_name part login) p.checked)
told_at part (End how) dbs login p = Done (verdict how login (has_authz part login) p)

-- a database that is asked, where these answers are so far
pub record IsAsked (part : Part) (db : Passdb) (login : Login) (answers : Answers) (p : Progress) : Type 0 where
  pub asks : part_move part db login p None ≡ asking db (asked_name part login) p
  pub is_open : answer_from db.number answers ≡ None

-- the place is before a database that is asked, or at the end
abbrev pub StandsAt : Part → Place → List Passdb → Login → Answers → Progress → Type 0
StandsAt part (Before index) dbs login answers p = (db : Passdb) × (slice_get dbs index ≡ Some db) × IsAsked part db login answers p
StandsAt part (End how) dbs login answers p = Unit {0}

abbrev pub Stands : Stand → List Passdb → Login → Answers → Type 0
Stands s dbs login answers = StandsAt s.part s.place dbs login answers s.progress

abbrev pub IsWithin : Place → List Passdb → Type 0
IsWithin (Before index) dbs = index < length dbs
IsWithin (End how) dbs = Unit {0}

-- a place in the same part, at this index or behind it
abbrev pub IsFrom : ℕ → Place → Type 0
IsFrom from (Before index) = from ≤ index
IsFrom from (End how) = Unit {0}

-- a later part may have any place
abbrev pub IsFurther : Part → ℕ → Part → Place → Type 0
IsFurther Ordinary from Ordinary place = IsFrom from place
IsFurther Ordinary from _ place = ⊥
IsFurther Masters from Masters place = IsFrom from place
IsFurther Masters from AfterMasters place = Unit {0}
IsFurther Masters from Ordinary place = ⊥
IsFurther AfterMasters from AfterMasters place = IsFrom from place
IsFurther AfterMasters from _ place = ⊥

-- with this answer of the database at the index, whatever else is answered, the chain goes on from the new place
abbrev pub GoesOnWith : Part → ℕ → Answer → List Passdb → Login → Progress → Stand → Type 0
GoesOnWith part index answer dbs login before after =
    (db : Passdb) (answers : Answers) → slice_get dbs index ≡ Some db → answer_from db.number answers ≡ Some answer
    → chain_of_stand after dbs login answers ≡ chain_from part index dbs login answers before
