-- What a cursor of a login's chain keeps.
use Rattle.std.proofs.Common.{◌≡◌, ◌≢◌, ℕ, ◌+◌, ◌<◌, Bool, true, false, not, List, [], ◌∷◌, ◌++◌, Option, Some, None, drop, refl, sym, ap, subst, ◌∙◌, append_assoc, append-nil, arith}
use Rattle.std.specs.Prelude.{IsTrue, slice_get, Result, Ok, Err, IfOk}
use Rattle.std.specs.List.{list_all}
use Rattle.std.proofs.lemmas.Option.{slice_get_within, same_Some}
use Rattle.da_base.specs.Words.{Bytes, option_or_else}
use Rattle.da_chain.proofs.Given.{answer_from-given, answer_from-still}
use Rattle.da_chain.proofs.Numbers.{all_pass, number_at}
use Rattle.da_fields.specs.Answers.{Answers}
use Rattle.da_fields.specs.declared.answer.Answer.{Answer}
use Rattle.da_fields.specs.declared.answer.QueryKind.{QueryKind}
use Rattle.da_passdb.specs.Cursors.{IsMaster, IsAhead, IsFresh, IsStandAfter, IsAlong, TellsChain, IsAsk, IsAsking, with_answer_to, TakesAnswer}
use Rattle.da_passdb.specs.LoginChain.{are_valid_from, are_valid_passdbs, is_valid_passdb, no_progress, Asking, continued, walk, verdict, master_databases, after_masters, chain_for, login_chain}
use Rattle.da_passdb.specs.Outcomes.{query_kind}
use Rattle.da_passdb.specs.Places.{part_for, first_part, are_masters, is_of, databases_of, asked_name, part_move, finish, chain_from, chain_at, chain_of_stand, told_at, StandsAt, Stands, IsWithin, IsFurther, GoesOnWith}
use Rattle.da_passdb.specs.declared.chain.Chain.{Chain}
use Rattle.da_passdb.specs.declared.chain.Chain.TheVariants.{Ask, Done}
use Rattle.da_passdb.specs.declared.chain.VerdictKind.TheVariants.{Fail as IsFail}
use Rattle.da_passdb.specs.declared.cursor.Cursor.{Cursor}
use Rattle.da_passdb.specs.declared.database.Passdb.{Passdb}
use Rattle.da_passdb.specs.declared.login.Login.{Login}
use Rattle.da_passdb.specs.declared.part.Part.{Part}
use Rattle.da_passdb.specs.declared.part.Part.TheVariants.{Ordinary, Masters, AfterMasters}
use Rattle.da_passdb.specs.declared.progress.Progress.{Progress}
use Rattle.da_passdb.specs.declared.walk.Place.{Place}
use Rattle.da_passdb.specs.declared.walk.Place.TheVariants.{Before, End}
use Rattle.da_passdb.specs.declared.walk.Stand.{Stand}
use Rattle.da_passdb.proofs.Moves.{asked_is_of}
use Rattle.da_passdb.proofs.Walks.{from_database, at_database}

-- ---- valid lists

pub all_valid : (n : ℕ) (dbs : List Passdb) → are_valid_from n dbs ≡ true → list_all is_valid_passdb dbs ≡ true
all_valid n dbs valid = all_pass (λ db. db.number) is_valid_passdb n dbs valid

-- ---- what a place tells

pub stands_within : (part : Part) (place : Place) (dbs : List Passdb) (login : Login) (answers : Answers) (p : Progress)
    → StandsAt part place dbs login answers p → IsWithin place dbs
stands_within part (Before index) dbs login answers p s = slice_get_within dbs index s.0 s.1
stands_within part (End how) dbs login answers p s = tt

finish_asking : (part : Part) (dbs : List Passdb) (login : Login) (answers : Answers) (db : ℕ) (kind : QueryKind) (name : Bytes) (checked : Bool)
    → finish part dbs login answers (Asking db kind name checked) ≡ Ask db kind name checked
finish_asking Ordinary dbs login answers db kind name checked = refl
finish_asking Masters dbs login answers db kind name checked = refl
finish_asking AfterMasters dbs login answers db kind name checked = refl

tells : (part : Part) (place : Place) (dbs : List Passdb) (login : Login) (answers : Answers) (p : Progress) → StandsAt part place dbs login answers p
    → told_at part place dbs login p ≡ chain_at part place dbs login answers p
tells part (Before index) dbs login answers p s =
    ap (λ (o : Option Passdb). option_or_else o (Done (verdict IsFail login false p)) (λ db. Ask db.number (query_kind db) (asked_name part login) p.checked)) s.1
    ∙ sym (
    from_database part dbs login index s.0 answers p (at_database part dbs login index s.0 s.1)
    ∙ ap (λ o. finish part dbs login answers (
    continued (part_move part s.0 login p o) (walk (are_masters part) (databases_of part (drop (index + 1) dbs)) (asked_name part login) login answers)))
    s.2.is_open
    ∙ ap (λ m. finish part dbs login answers (
    continued m (walk (are_masters part) (databases_of part (drop (index + 1) dbs)) (asked_name part login) login answers)))
    s.2.asks
    ∙ finish_asking part dbs login answers s.0.number (query_kind s.0) (asked_name part login) p.checked
    )
tells part (End how) dbs login answers p s = refl

-- ---- from the start

start_of : (o : Option Bytes) (dbs : List Passdb) (login : Login) (answers : Answers) → login.master ≡ o
    → chain_from (part_for o) 0 dbs login answers no_progress ≡ chain_for o dbs login answers
start_of None dbs login answers is = refl
start_of (Some master) dbs login answers is =
    ap (λ (o : Option Bytes). after_masters dbs login answers (
    walk true (master_databases dbs) (option_or_else o login.user (λ name. name)) login answers no_progress))
    is

from_start : (dbs : List Passdb) (login : Login) (answers : Answers) (part : Part) (start : Progress) → part ≡ first_part login → start ≡ no_progress
    → chain_from part 0 dbs login answers start ≡ login_chain dbs login answers
unfolding login_chain
from_start dbs login answers part start first is =
    ap (λ x. chain_from x 0 dbs login answers start) first ∙ ap (chain_from (first_part login) 0 dbs login answers) is
    ∙ start_of login.master dbs login answers refl

fresh_start : (part : Part) (place : Place) (dbs : List Passdb) → IsFresh part place dbs []
fresh_start part (Before index) dbs = λ n ahead. refl
fresh_start part (End how) dbs = tt

pub starts : (dbs : List Passdb) (login : Login) (part : Part) (start : Progress) (s : Stand) → part ≡ first_part login → start ≡ no_progress
    → ((more : Answers) → chain_of_stand s dbs login more ≡ chain_from part 0 dbs login more start) → Stands s dbs login [] → IsStandAfter dbs login [] s
starts dbs login part start s first is rest is_there =
    record {
      rest = λ more. rest more ∙ from_start dbs login more part start first is;
      is_there = is_there;
      fresh = fresh_start s.part s.place dbs;
    }

pub chain_told : (dbs : List Passdb) (login : Login) (answers : Answers) (part : Part) (start : Progress) (s : Stand) → part ≡ first_part login → start ≡ no_progress
    → ((more : Answers) → chain_of_stand s dbs login (answers ++ more) ≡ chain_from part 0 dbs login (answers ++ more) start)
    → Stands s dbs login answers → told_at s.part s.place dbs login s.progress ≡ login_chain dbs login answers
chain_told dbs login answers part start s first is rest is_there =
    tells s.part s.place dbs login answers s.progress is_there
    ∙ subst (λ l. chain_of_stand s dbs login l ≡ chain_from part 0 dbs login l start) (append-nil answers) (rest [])
    ∙ from_start dbs login answers part start first is

-- ---- what a cursor tells

stand_told : (dbs : List Passdb) (login : Login) (answers : Answers) (s : Stand) → IsStandAfter dbs login answers s
    → told_at s.part s.place dbs login s.progress ≡ login_chain dbs login answers
stand_told dbs login answers s after =
    tells s.part s.place dbs login answers s.progress after.is_there
    ∙ subst (λ l. chain_of_stand s dbs login l ≡ login_chain dbs login l) (append-nil answers) (after.rest [])

pub cursor_tells : {E : Type 0} (r : Result Chain E) (dbs : List Passdb) (cursor : Cursor)
    → IfOk r (λ chain. chain ≡ told_at cursor.stand.part cursor.stand.place dbs cursor.login cursor.stand.progress) → IfOk r (λ chain. TellsChain dbs cursor chain)
cursor_tells (Ok chain) dbs cursor is = λ login answers s.
    is ∙ ap (λ l. told_at cursor.stand.part cursor.stand.place dbs l cursor.stand.progress) s.login_is ∙ stand_told dbs login answers cursor.stand s.stand
cursor_tells (Err e) dbs cursor is = tt

-- ---- what a cursor that asks knows

end_asks_nothing : (part : Part) (place : Place) (dbs : List Passdb) (login : Login) (p : Progress) → ((index : ℕ) → place ≡ Before index → ⊥)
    → IsAsk (told_at part place dbs login p) → ⊥
end_asks_nothing part (Before index) dbs login p isnt ask = isnt index refl
end_asks_nothing part (End how) dbs login p isnt ask = ask

pub no_ask_at_end : (dbs : List Passdb) (cursor : Cursor) → IsAsking dbs cursor → ((index : ℕ) → cursor.stand.place ≡ Before index → ⊥) → ⊥
no_ask_at_end dbs cursor a isnt =
    end_asks_nothing cursor.stand.part cursor.stand.place dbs a.0 cursor.stand.progress isnt
    (subst IsAsk (sym (stand_told dbs a.0 a.1 cursor.stand a.2.stand)) a.3)

pub asking_valid : (dbs : List Passdb) (cursor : Cursor) → IsAsking dbs cursor → list_all is_valid_passdb dbs ≡ true
asking_valid dbs cursor a = all_valid 1 dbs a.2.valid

pub asking_stands : (dbs : List Passdb) (cursor : Cursor) (index : ℕ) → IsAsking dbs cursor → cursor.stand.place ≡ Before index
    → StandsAt cursor.stand.part (Before index) dbs cursor.login [] cursor.stand.progress
asking_stands dbs cursor index a is =
    let s : StandsAt cursor.stand.part (Before index) dbs a.0 a.1 cursor.stand.progress =
    subst (λ x. StandsAt cursor.stand.part x dbs a.0 a.1 cursor.stand.progress) is a.2.stand.is_there
    in
    subst (λ l. StandsAt cursor.stand.part (Before index) dbs l [] cursor.stand.progress) (sym a.2.login_is) (
      s.0,
      s.1,
      record { asks = s.2.asks; is_open = refl },
    )

-- ---- an answer is taken

module _ (dbs : List Passdb) (answers : Answers) (index number : ℕ) (db : Passdb) (a : Answer) (is : number ≡ 1 + index) (here : slice_get dbs index ≡ Some db) where
  master_here : (n : ℕ) → number ≡ n → db.master ≡ true → IsMaster dbs n
  master_here n same master = record { index = index; db = db; number = sym same ∙ is; here = here; master = master }

  fresh_after : (first part : Part) (place : Place) → is_of first db ≡ true → IsFurther first (index + 1) part place → IsFresh first (Before index) dbs answers
      → IsFresh part place dbs (answers ++ (number, a) ∷ [])
  fresh_after first part (End how) ours further fresh = tt
  fresh_after Ordinary Ordinary (Before next) ours further fresh = λ n ahead.
      let differ : number ≢ n = λ (e : number ≡ n). absurd (omega arith) in
      answer_from-still n number answers a (fresh n (omega arith)) differ
  fresh_after Ordinary Masters (Before next) ours further fresh = absurd further
  fresh_after Ordinary AfterMasters (Before next) ours further fresh = absurd further
  fresh_after Masters Masters (Before next) ours further fresh = λ n ahead.
      let behind : IsMaster dbs n → index < n = λ m. let later : next < n = ahead m in omega arith in
      let differ : number ≢ n = λ (e : number ≡ n). let later : next < n = ahead (master_here n e ours) in absurd (omega arith) in
      answer_from-still n number answers a (fresh n behind) differ
  fresh_after Masters AfterMasters (Before next) ours further fresh = λ n ahead.
      answer_from-still n number answers a (fresh n (λ m. absurd (ahead.1 m))) (λ (e : number ≡ n). ahead.1 (master_here n e ours))
  fresh_after Masters Ordinary (Before next) ours further fresh = absurd further
  fresh_after AfterMasters AfterMasters (Before next) ours further fresh = λ n ahead.
      let later : next < n = ahead.0 in
      let differ : number ≢ n = λ (e : number ≡ n). absurd (omega arith) in
      let behind : index < n = omega arith in
      answer_from-still n number answers a (fresh n (behind, ahead.1)) differ
  fresh_after AfterMasters Ordinary (Before next) ours further fresh = absurd further
  fresh_after AfterMasters Masters (Before next) ours further fresh = absurd further

both_masters : (b : Bool) → b ≡ true → not b ≡ true → ⊥
both_masters true is isnt = absurd (cc)
both_masters false is isnt = absurd (cc)

no_master_here : (dbs : List Passdb) (index : ℕ) (db : Passdb) → db.number ≡ 1 + index → slice_get dbs index ≡ Some db → not db.master ≡ true → IsMaster dbs db.number → ⊥
no_master_here dbs index db number here user m =
    let place : m.index ≡ index = let e : db.number ≡ 1 + m.index = m.number in omega arith in
    let same : m.db ≡ db = same_Some m.db db (sym m.here ∙ ap (slice_get dbs) place ∙ here) in
    both_masters db.master (ap (λ d. d.master) (sym same) ∙ m.master) user

ahead_here : (part : Part) (dbs : List Passdb) (index : ℕ) (db : Passdb) → db.number ≡ 1 + index → slice_get dbs index ≡ Some db → is_of part db ≡ true
    → IsAhead part index dbs db.number
ahead_here Ordinary dbs index db number here ours = omega arith
ahead_here Masters dbs index db number here ours = λ m. omega arith
ahead_here AfterMasters dbs index db number here ours = (omega arith, no_master_here dbs index db number here ours)

stands_after : (part : Part) (place : Place) (dbs : List Passdb) (login : Login) (answers : Answers) (p : Progress) → IsTrue (are_valid_passdbs dbs)
    → IsFresh part place dbs answers → StandsAt part place dbs login [] p → StandsAt part place dbs login answers p
stands_after part (Before index) dbs login answers p valid fresh s =
    let ours : is_of part s.0 ≡ true = asked_is_of part s.0 login p s.2.asks in
    (s.0, s.1, record { asks = s.2.asks; is_open = fresh s.0.number (ahead_here part dbs index s.0 (number_at (λ d. d.number) is_valid_passdb 1 dbs index s.0 valid s.1) s.1 ours) })
stands_after part (End how) dbs login answers p valid fresh s = tt

takes_at : (dbs : List Passdb) (login : Login) (answers : Answers) (part : Part) (index : ℕ) (p : Progress) (a : Answer) (after : Stand)
    → IsTrue (are_valid_passdbs dbs) → ((more : Answers) → chain_from part index dbs login (answers ++ more) p ≡ login_chain dbs login (answers ++ more))
    → (s : StandsAt part (Before index) dbs login answers p) → IsFresh part (Before index) dbs answers → GoesOnWith part index a dbs login p after
    → Stands after dbs login [] → IsFurther part (index + 1) after.part after.place → IsStandAfter dbs login (answers ++ (s.0.number, a) ∷ []) after
takes_at dbs login answers part index p a after valid rest s fresh goes is_there further =
    let one = (s.0.number, a) ∷ [] in
    let number : s.0.number ≡ 1 + index = number_at (λ d. d.number) is_valid_passdb 1 dbs index s.0 valid s.1 in
    let later : IsFresh after.part after.place dbs (answers ++ one) =
    fresh_after dbs answers index s.0.number s.0 a number s.1 part after.part after.place (asked_is_of part s.0 login p s.2.asks) further fresh
    in
    record {
      rest = λ more.
          let given = answer_from-given s.0.number answers more a s.2.is_open in
          goes s.0 ((answers ++ one) ++ more) s.1 given
          ∙ subst (λ l. chain_from part index dbs login l p ≡ login_chain dbs login l) (sym (append_assoc answers one more)) (rest (one ++ more));
      is_there = stands_after after.part after.place dbs login (answers ++ one) after.progress valid later is_there;
      fresh = later;
    }

-- a stand whose place is before this index
record IsBefore (dbs : List Passdb) (login : Login) (answers : Answers) (part : Part) (index : ℕ) (p : Progress) : Type 0 where
  before_rest : (more : Answers) → chain_from part index dbs login (answers ++ more) p ≡ login_chain dbs login (answers ++ more)
  before_stands : StandsAt part (Before index) dbs login answers p
  before_fresh : IsFresh part (Before index) dbs answers

before_of : (dbs : List Passdb) (login : Login) (answers : Answers) (part : Part) (place : Place) (index : ℕ) (p : Progress) → place ≡ Before index
    → ((more : Answers) → chain_at part place dbs login (answers ++ more) p ≡ login_chain dbs login (answers ++ more)) → StandsAt part place dbs login answers p
    → IsFresh part place dbs answers → IsBefore dbs login answers part index p
before_of dbs login answers part place index p at rest is_there fresh =
    record {
      before_rest = subst (λ x. (more : Answers) → chain_at part x dbs login (answers ++ more) p ≡ login_chain dbs login (answers ++ more)) at rest;
      before_stands = subst (λ x. StandsAt part x dbs login answers p) at is_there;
      before_fresh = subst (λ x. IsFresh part x dbs answers) at fresh;
    }

pub takes : (dbs : List Passdb) (a : Answer) (before after : Cursor) (index : ℕ) (copied : Stand) → before.stand.place ≡ Before index → copied ≡ before.stand
    → after.login ≡ before.login → GoesOnWith copied.part index a dbs before.login copied.progress after.stand → Stands after.stand dbs before.login []
    → IsFurther copied.part (index + 1) after.stand.part after.stand.place → TakesAnswer dbs a before after
takes dbs a before after index copied at equal kept goes is_there further = λ login answers s.
    let stand : IsStandAfter dbs login answers copied = subst (IsStandAfter dbs login answers) (sym equal) s.stand in
    let place : copied.place ≡ Before index = ap (λ x. x.place) equal ∙ at in
    let here : IsBefore dbs login answers copied.part index copied.progress =
    before_of dbs login answers copied.part copied.place index copied.progress place stand.rest stand.is_there stand.fresh
    in
    let reported : login_chain dbs login answers ≡ Ask here.before_stands.0.number (query_kind here.before_stands.0) (asked_name copied.part login) copied.progress.checked =
    sym (
    tells copied.part (Before index) dbs login answers copied.progress here.before_stands
    ∙ subst (λ l. chain_from copied.part index dbs login l copied.progress ≡ login_chain dbs login l) (append-nil answers) (here.before_rest [])
    )
    ∙ ap (λ (o : Option Passdb).
    option_or_else o (Done (verdict IsFail login false copied.progress))
    (λ db. Ask db.number (query_kind db) (asked_name copied.part login) copied.progress.checked))
    here.before_stands.1
    in
    let taken : IsStandAfter dbs login (answers ++ (here.before_stands.0.number, a) ∷ []) after.stand =
    takes_at dbs login answers copied.part index copied.progress a after.stand s.valid here.before_rest here.before_stands here.before_fresh
    (subst (λ l. GoesOnWith copied.part index a dbs l copied.progress after.stand) s.login_is goes)
    (subst (λ l. Stands after.stand dbs l []) s.login_is is_there) further
    in
    record {
      valid = s.valid;
      login_is = kept ∙ s.login_is;
      stand = subst (λ l. IsStandAfter dbs login l after.stand) (sym (ap (λ chain. with_answer_to chain a answers) reported)) taken;
    }

-- ---- one answer after the other

-- a cursor that tells a question asks
pub asks_as_told : (dbs : List Passdb) (cursor : Cursor) (chain : Chain) → IsAlong dbs cursor → TellsChain dbs cursor chain → IsAsk chain → IsAsking dbs cursor
asks_as_told dbs cursor chain a reported ask = (a.0, a.1, a.2, subst IsAsk (reported a.0 a.1 a.2) ask)

-- it stays one of the chain
pub along_after : (dbs : List Passdb) (a : Answer) (before after : Cursor) → IsAlong dbs before → TakesAnswer dbs a before after → IsAlong dbs after
along_after dbs a before after s takes = (s.0, with_answer_to (login_chain dbs s.0 s.1) a s.1, takes s.0 s.1 s.2)
