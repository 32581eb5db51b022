-- What a cursor of user databases keeps.
use Rattle.std.proofs.Common.{◌≡◌, ◌≢◌, ℕ, ◌+◌, Bool, true, false, List, [], ◌∷◌, ◌++◌, Option, drop, cond, refl, sym, ap, subst, ◌∙◌, append_assoc, append-nil, arith}
use Rattle.std.specs.Prelude.{IsTrue, Result, Ok, Err, IfOk}
use Rattle.std.specs.List.{list_all}
use Rattle.std.proofs.lemmas.Option.{slice_get_within}
use Rattle.da_base.specs.Words.{option_or_else}
use Rattle.da_fields.specs.Answers.{Answers}
use Rattle.da_fields.specs.FieldList.{Pairs}
use Rattle.da_fields.specs.declared.answer.Answer.{Answer}
use Rattle.da_chain.proofs.Given.{answer_from-given, answer_from-still}
use Rattle.da_chain.proofs.Numbers.{all_pass, number_at}
use Rattle.da_userdb.specs.UserChain.{are_valid_from, are_valid_userdbs, is_valid_userdb, no_user_progress, user_end, user_move, user_continued, user_walk, user_chain}
use Rattle.da_userdb.specs.UserPlaces.{walk_from, told_at, Stands, IsFrom, IsWithin, GoesOnWith}
use Rattle.da_userdb.specs.UserCursors.{IsFresh, IsPlaceAfter, IsAlong, TellsChain, IsAsk, IsAsking, with_answer_to, TakesAnswer}
use Rattle.da_userdb.specs.declared.cursor.UserCursor.{UserCursor}
use Rattle.da_userdb.specs.declared.database.Lookup.{Lookup}
use Rattle.da_userdb.specs.declared.database.Userdb.{Userdb}
use Rattle.da_userdb.specs.declared.database.UserChain.{UserChain}
use Rattle.da_userdb.specs.declared.database.UserChain.TheVariants.{Ask, Found, NotFound, Temp}
use Rattle.da_userdb.specs.declared.progress.UserProgress.{UserProgress}
use Rattle.da_userdb.specs.declared.walk.UserPlace.{UserPlace}
use Rattle.da_userdb.specs.declared.walk.UserPlace.TheVariants.{Before, End}
use Rattle.da_userdb.proofs.UserWalks.{at_database}

-- ---- valid lists

pub all_valid : (n : ℕ) (dbs : List Userdb) → are_valid_from n dbs ≡ true → list_all is_valid_userdb dbs ≡ true
all_valid n dbs valid = all_pass (λ db. db.number) is_valid_userdb n dbs valid

-- ---- what a place tells

pub stands_within : (place : UserPlace) (dbs : List Userdb) (lookup : Lookup) (answers : Answers) (p : UserProgress) → Stands place dbs lookup answers p → IsWithin place dbs
stands_within (Before index) dbs lookup answers p s = slice_get_within dbs index s.0 s.1
stands_within End dbs lookup answers p s = tt

tells : (place : UserPlace) (dbs : List Userdb) (lookup : Lookup) (answers : Answers) (p : UserProgress) → Stands place dbs lookup answers p
    → told_at place dbs p ≡ walk_from place dbs lookup answers p
tells (Before index) dbs lookup answers p s =
    ap (λ (o : Option Userdb). option_or_else o NotFound (λ d. Ask d.number)) s.1
    ∙ sym (
    ap (λ l. user_walk l lookup answers p) (at_database dbs index s.0 s.1)
    ∙ ap (λ o. user_continued (user_move s.0 lookup p o) (user_walk (drop (index + 1) dbs) lookup answers)) s.2.is_open
    ∙ ap (λ m. user_continued m (user_walk (drop (index + 1) dbs) lookup answers)) s.2.asks
    )
tells End dbs lookup answers p s = refl

-- ---- from the start

from_start : (dbs : List Userdb) (lookup : Lookup) (answers : Answers) (start : UserProgress) → start ≡ no_user_progress
    → user_walk (drop 0 dbs) lookup answers start ≡ user_chain dbs lookup answers
unfolding user_chain
from_start dbs lookup answers start is = ap (user_walk dbs lookup answers) is

fresh_start : (place : UserPlace) → IsFresh place []
fresh_start (Before index) = λ n later. refl
fresh_start End = tt

pub chain_told : (dbs : List Userdb) (lookup : Lookup) (answers : Answers) (place : UserPlace) (start p : UserProgress) → start ≡ no_user_progress
    → ((more : Answers) → walk_from place dbs lookup (answers ++ more) p ≡ user_walk (drop 0 dbs) lookup (answers ++ more) start)
    → Stands place dbs lookup answers p → told_at place dbs p ≡ user_chain dbs lookup answers
chain_told dbs lookup answers place start p is rest is_there =
    tells place dbs lookup answers p is_there
    ∙ subst (λ l. walk_from place dbs lookup l p ≡ user_walk (drop 0 dbs) lookup l start) (append-nil answers) (rest [])
    ∙ from_start dbs lookup answers start is

pub starts : (dbs : List Userdb) (given lookup : Lookup) (place : UserPlace) (start p : UserProgress) → given ≡ lookup → start ≡ no_user_progress
    → ((more : Answers) → walk_from place dbs given more p ≡ user_walk (drop 0 dbs) given more start)
    → Stands place dbs given [] p → IsPlaceAfter dbs lookup [] place p
starts dbs given lookup place start p same is rest is_there =
    subst (λ l. IsPlaceAfter dbs l [] place p) same (
    record {
      rest = λ more. rest more ∙ from_start dbs given more start is;
      is_there = is_there;
      fresh = fresh_start place;
    }
    )

-- ---- what a cursor tells

place_told : (dbs : List Userdb) (lookup : Lookup) (answers : Answers) (place : UserPlace) (p : UserProgress) → IsPlaceAfter dbs lookup answers place p
    → told_at place dbs p ≡ user_chain dbs lookup answers
place_told dbs lookup answers place p s =
    tells place dbs lookup answers p s.is_there
    ∙ subst (λ l. walk_from place dbs lookup l p ≡ user_chain dbs lookup l) (append-nil answers) (s.rest [])

pub cursor_tells : {E : Type 0} (r : Result UserChain E) (dbs : List Userdb) (cursor : UserCursor) → IfOk r (λ chain. chain ≡ told_at cursor.place dbs cursor.progress)
    → IfOk r (λ chain. TellsChain dbs cursor chain)
cursor_tells (Ok chain) dbs cursor is = λ lookup answers s. is ∙ place_told dbs lookup answers cursor.place cursor.progress s.place
cursor_tells (Err e) dbs cursor is = tt

-- ---- what a cursor that asks knows

end_is_no_ask : (found internal : Bool) (fields : Pairs) → IsAsk (cond found (Found fields) (cond internal Temp NotFound)) → ⊥
end_is_no_ask true internal fields ask = ask
end_is_no_ask false true fields ask = ask
end_is_no_ask false false fields ask = ask

pub no_ask_at_end : (dbs : List Userdb) (cursor : UserCursor) → IsAsking dbs cursor → cursor.place ≡ End → ⊥
no_ask_at_end dbs cursor a is =
    let reported : told_at cursor.place dbs cursor.progress ≡ user_chain dbs a.0 a.1 = place_told dbs a.0 a.1 cursor.place cursor.progress a.2.place in
    let ended : told_at cursor.place dbs cursor.progress ≡ user_end cursor.progress = ap (λ x. told_at x dbs cursor.progress) is in
    end_is_no_ask cursor.progress.found cursor.progress.internal cursor.progress.fields (subst IsAsk (sym reported ∙ ended) a.3)

pub asking_valid : (dbs : List Userdb) (cursor : UserCursor) → IsAsking dbs cursor → list_all is_valid_userdb dbs ≡ true
asking_valid dbs cursor a = all_valid 1 dbs a.2.valid

pub asking_stands : (dbs : List Userdb) (cursor : UserCursor) (index : ℕ) → IsAsking dbs cursor → cursor.place ≡ Before index
    → Stands (Before index) dbs cursor.lookup [] cursor.progress
asking_stands dbs cursor index a is =
    let s : Stands (Before index) dbs a.0 a.1 cursor.progress = subst (λ x. Stands x dbs a.0 a.1 cursor.progress) is a.2.place.is_there in
    subst (λ l. Stands (Before index) dbs l [] cursor.progress) (sym a.2.lookup_is) (s.0, s.1, record { asks = s.2.asks; is_open = refl })

-- ---- an answer is taken

fresh_after : (place : UserPlace) (answers : Answers) (index number : ℕ) (a : Answer) → IsFrom (index + 1) place → number ≡ 1 + index → IsFresh (Before index) answers
    → IsFresh place (answers ++ (number, a) ∷ [])
fresh_after (Before next) answers index number a from is fresh = λ n later.
    let differ : number ≢ n = λ (e : number ≡ n). absurd (omega arith) in
    answer_from-still n number answers a (fresh n (omega arith)) differ
fresh_after End answers index number a from is fresh = tt

stands_after : (place : UserPlace) (dbs : List Userdb) (lookup : Lookup) (answers : Answers) (p : UserProgress) → IsTrue (are_valid_userdbs dbs) → IsFresh place answers
    → Stands place dbs lookup [] p → Stands place dbs lookup answers p
stands_after (Before index) dbs lookup answers p valid fresh s =
    let number : s.0.number ≡ 1 + index = number_at (λ d. d.number) is_valid_userdb 1 dbs index s.0 valid s.1 in
    (s.0, s.1, record { asks = s.2.asks; is_open = fresh s.0.number (omega arith) })
stands_after End dbs lookup answers p valid fresh s = tt

takes_at : (dbs : List Userdb) (lookup : Lookup) (answers : Answers) (index : ℕ) (p : UserProgress) (a : Answer) (place : UserPlace) (q : UserProgress)
    → IsTrue (are_valid_userdbs dbs) → (s : IsPlaceAfter dbs lookup answers (Before index) p) → GoesOnWith index a dbs lookup p place q
    → Stands place dbs lookup [] q → IsFrom (index + 1) place
    → IsPlaceAfter dbs lookup (answers ++ (s.is_there.0.number, a) ∷ []) place q
takes_at dbs lookup answers index p a place q valid s goes is_there from =
    let db = s.is_there.0 in
    let one = (db.number, a) ∷ [] in
    let fresh : IsFresh place (answers ++ one) = fresh_after place answers index db.number a from (number_at (λ d. d.number) is_valid_userdb 1 dbs index db valid s.is_there.1) s.fresh in
    record {
      rest = λ more.
          let given = answer_from-given db.number answers more a s.is_there.2.is_open in
          goes db ((answers ++ one) ++ more) s.is_there.1 given
          ∙ subst (λ l. user_walk (drop index dbs) lookup l p ≡ user_chain dbs lookup l) (sym (append_assoc answers one more)) (s.rest (one ++ more));
      is_there = stands_after place dbs lookup (answers ++ one) q valid fresh is_there;
      fresh = fresh;
    }

pub takes : (dbs : List Userdb) (a : Answer) (before after : UserCursor) (index : ℕ) (given : Lookup) (copied : UserProgress) → before.place ≡ Before index
    → given ≡ before.lookup → copied ≡ before.progress → after.lookup ≡ before.lookup → GoesOnWith index a dbs given copied after.place after.progress
    → Stands after.place dbs given [] after.progress → IsFrom (index + 1) after.place → TakesAnswer dbs a before after
takes dbs a before after index given copied at same equal kept goes is_there from = λ lookup answers s.
    let place : IsPlaceAfter dbs lookup answers (Before index) copied =
    subst (λ q. IsPlaceAfter dbs lookup answers (Before index) q) (sym equal) (subst (λ x. IsPlaceAfter dbs lookup answers x before.progress) at s.place)
    in
    let reported : user_chain dbs lookup answers ≡ Ask place.is_there.0.number =
    sym (place_told dbs lookup answers (Before index) copied place) ∙ ap (λ (o : Option Userdb). option_or_else o NotFound (λ d. Ask d.number)) place.is_there.1
    in
    let taken : IsPlaceAfter dbs lookup (answers ++ (place.is_there.0.number, a) ∷ []) after.place after.progress =
    takes_at dbs lookup answers index copied a after.place after.progress s.valid place
    (subst (λ l. GoesOnWith index a dbs l copied after.place after.progress) (same ∙ s.lookup_is) goes)
    (subst (λ l. Stands after.place dbs l [] after.progress) (same ∙ s.lookup_is) is_there) from
    in
    record {
      valid = s.valid;
      lookup_is = kept ∙ s.lookup_is;
      place = subst (λ l. IsPlaceAfter dbs lookup l after.place after.progress) (sym (ap (λ chain. with_answer_to chain a answers) reported)) taken;
    }

-- ---- one answer after the other

-- a cursor that tells a question asks
pub asks_as_told : (dbs : List Userdb) (cursor : UserCursor) (chain : UserChain) → IsAlong dbs cursor → TellsChain dbs cursor chain → IsAsk chain → IsAsking dbs cursor
asks_as_told dbs cursor chain a reported ask = (a.0, a.1, a.2, subst IsAsk (reported a.0 a.1 a.2) ask)

-- it stays one of the chain
pub along_after : (dbs : List Userdb) (a : Answer) (before after : UserCursor) → IsAlong dbs before → TakesAnswer dbs a before after → IsAlong dbs after
along_after dbs a before after s takes = (s.0, with_answer_to (user_chain dbs s.0 s.1) a s.1, takes s.0 s.1 s.2)
