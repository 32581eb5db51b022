-- A walk along the user databases, step by step.
use Rattle.std.proofs.Common.{◌≡◌, ℕ, ◌+◌, ◌<◌, ◌≤◌, Bool, true, false, List, [], ◌∷◌, ◌++◌, Option, Some, None, length, drop, get_or, cond, refl, sym, ap, subst, ◌∙◌}
use Rattle.std.specs.Prelude.{slice_get}
use Rattle.std.proofs.lemmas.List.{drop_more, drop_all}
use Rattle.std.proofs.lemmas.Option.{slice_get_within, get_or_from_slice_get, same_Some}
use Rattle.da_base.specs.Words.{is_empty}
use Rattle.da_fields.specs.Answers.{Answers, answer_from}
use Rattle.da_fields.specs.declared.answer.Answer.{Answer}
use Rattle.da_fields.specs.FieldList.{Pairs, userdb_part}
use Rattle.da_fields.specs.declared.outcome.Outcome.TheVariants.{Success, Unknown}
use Rattle.da_fields.specs.declared.outcome.Rule.{Rule}
use Rattle.da_fields.specs.declared.outcome.Rule.TheVariants.{ReturnOk, ReturnFail, Return, ContinueOk, ContinueFail, Continue}
use Rattle.da_chain.proofs.Given.{answer_from-some}
use Rattle.da_userdb.specs.UserChain.{UserMove, UserGoOn, UserStop, user_end, is_user_skipped, is_prefetch, prefetch_move, user_answer_move, by_user_rule, with_user_outcome, after_user_outcome, user_move, user_continued, user_walk}
use Rattle.da_userdb.specs.declared.database.Lookup.{Lookup}
use Rattle.da_userdb.specs.declared.database.Userdb.{Userdb}
use Rattle.da_userdb.specs.declared.database.UserChain.TheVariants.{Ask, Found, NotFound, Temp}
use Rattle.da_userdb.specs.declared.progress.UserProgress.{UserProgress}
use Rattle.da_userdb.specs.declared.walk.UserPlace.TheVariants.{Before}
use Rattle.da_userdb.specs.UserPlaces.{Stands}

-- ---- moves that ask nothing

abbrev AsksNothing : UserMove → Type 0
AsksNothing (UserGoOn p) = Unit {0}
AsksNothing (UserStop (Ask db)) = ⊥
AsksNothing (UserStop _) = Unit {0}

end_asks_nothing : (found internal : Bool) (fields : Pairs) → AsksNothing (UserStop (cond found (Found fields) (cond internal Temp NotFound)))
end_asks_nothing true internal fields = tt
end_asks_nothing false true fields = tt
end_asks_nothing false false fields = tt

same_choice : (skipped prefetched : Bool) (on fetched asked answered m : UserMove) → cond skipped on (cond prefetched fetched asked) ≡ m → (asked ≡ m → answered ≡ m)
    → cond skipped on (cond prefetched fetched answered) ≡ m
same_choice true prefetched on fetched asked answered m is same = is
same_choice false true on fetched asked answered m is same = is
same_choice false false on fetched asked answered m is same = same is

not_asked : {A : Type 0} (m : UserMove) (n : ℕ) → AsksNothing m → UserStop (Ask n) ≡ m → A
not_asked m n nothing e = absurd (subst AsksNothing (sym e) nothing)

-- what is done without an answer is done with any
unasked : (db : Userdb) (lookup : Lookup) (p : UserProgress) (o : Option Answer) (m : UserMove) → user_move db lookup p None ≡ m → AsksNothing m
    → user_move db lookup p o ≡ m
unfolding user_move
unasked db lookup p o m is nothing =
    same_choice (is_user_skipped db.skip p.found) (is_prefetch db.driver) (UserGoOn p) (prefetch_move db lookup p) (UserStop (Ask db.number))
    (user_answer_move db lookup p o) m is (not_asked m db.number nothing)

-- later answers change no move that is made already
still : (db : Userdb) (lookup : Lookup) (answers more : Answers) (p : UserProgress) (m : UserMove) (o : Option Answer) → answer_from db.number answers ≡ o
    → user_move db lookup p o ≡ m → AsksNothing m → user_move db lookup p (answer_from db.number (answers ++ more)) ≡ m
still db lookup answers more p m None given is nothing = unasked db lookup p (answer_from db.number (answers ++ more)) m is nothing
still db lookup answers more p m (Some a) given is nothing = ap (user_move db lookup p) (answer_from-some db.number answers more a given) ∙ is

-- ---- moves with an answer

rule_asks_nothing : (rule : Rule) (p : UserProgress) → AsksNothing (by_user_rule rule p)
rule_asks_nothing ReturnOk p = tt
rule_asks_nothing ReturnFail p = end_asks_nothing false p.internal p.fields
rule_asks_nothing Return p = end_asks_nothing p.found p.internal p.fields
rule_asks_nothing ContinueOk p = tt
rule_asks_nothing ContinueFail p = tt
rule_asks_nothing Continue p = tt

either_asks_nothing : (b : Bool) (x y : UserMove) → AsksNothing x → AsksNothing y → AsksNothing (cond b x y)
either_asks_nothing true x y first second = first
either_asks_nothing false x y first second = second

prefetch_asks_nothing : (db : Userdb) (lookup : Lookup) (p : UserProgress) → AsksNothing (prefetch_move db lookup p)
prefetch_asks_nothing db lookup p =
    either_asks_nothing (is_empty (userdb_part lookup.passdb_fields)) (after_user_outcome db lookup.vars Unknown [] p)
    (after_user_outcome db lookup.vars Success (userdb_part lookup.passdb_fields) p)
    (rule_asks_nothing db.result_failure p)
    (rule_asks_nothing db.result_success (with_user_outcome db lookup.vars Success (userdb_part lookup.passdb_fields) p))

only_asked : (skipped prefetched : Bool) (p : UserProgress) (fetched answered : UserMove) (n : ℕ) → AsksNothing fetched
    → cond skipped (UserGoOn p) (cond prefetched fetched (UserStop (Ask n))) ≡ UserStop (Ask n) → cond skipped (UserGoOn p) (cond prefetched fetched answered) ≡ answered
only_asked true prefetched p fetched answered n nothing is = absurd (cc)
only_asked false true p fetched answered n nothing is = not_asked fetched n nothing (sym is)
only_asked false false p fetched answered n nothing is = refl

-- the answer of a database that is asked settles its move
pub asked_answer : (db : Userdb) (lookup : Lookup) (p : UserProgress) (a : Answer) → user_move db lookup p None ≡ UserStop (Ask db.number)
    → user_move db lookup p (Some a) ≡ user_answer_move db lookup p (Some a)
unfolding user_move
asked_answer db lookup p a asks =
    only_asked (is_user_skipped db.skip p.found) (is_prefetch db.driver) p (prefetch_move db lookup p) (user_answer_move db lookup p (Some a)) db.number
    (prefetch_asks_nothing db lookup p) asks

-- ---- one step of a walk

pub at_database : (dbs : List Userdb) (index : ℕ) (db : Userdb) → slice_get dbs index ≡ Some db → drop index dbs ≡ db ∷ drop (index + 1) dbs
at_database dbs index db here =
    drop_more dbs index db (slice_get_within dbs index db here) ∙ ap (λ d. d ∷ drop (index + 1) dbs) (get_or_from_slice_get dbs index db db here)

module _ (dbs : List Userdb) (index : ℕ) (db : Userdb) (lookup : Lookup) (answers more : Answers) (p : UserProgress) where
  moves : (m : UserMove) → index < length dbs → db ≡ get_or dbs index db → m ≡ user_move db lookup p (answer_from db.number answers) → AsksNothing m
      → user_walk (drop index dbs) lookup (answers ++ more) p ≡ user_continued m (user_walk (drop (index + 1) dbs) lookup (answers ++ more))
  moves m within here is nothing =
      ap (λ l. user_walk l lookup (answers ++ more) p) (drop_more dbs index db within ∙ ap (λ d. d ∷ drop (index + 1) dbs) (sym here))
      ∙ ap (λ x. user_continued x (user_walk (drop (index + 1) dbs) lookup (answers ++ more)))
      (still db lookup answers more p m (answer_from db.number answers) refl (sym is) nothing)

  pub walk_goes_on : (q : UserProgress) → index < length dbs → db ≡ get_or dbs index db → UserGoOn q ≡ user_move db lookup p (answer_from db.number answers)
      → user_walk (drop (index + 1) dbs) lookup (answers ++ more) q ≡ user_walk (drop index dbs) lookup (answers ++ more) p
  walk_goes_on q within here is = sym (moves (UserGoOn q) within here is tt)

  pub walk_ends : (q : UserProgress) → index < length dbs → db ≡ get_or dbs index db → UserStop (user_end q) ≡ user_move db lookup p (answer_from db.number answers)
      → user_end q ≡ user_walk (drop index dbs) lookup (answers ++ more) p
  walk_ends q within here is = sym (moves (UserStop (user_end q)) within here is (end_asks_nothing q.found q.internal q.fields))

-- behind the last database
pub walk_done : (dbs : List Userdb) (index : ℕ) (lookup : Lookup) (answers : Answers) (p : UserProgress) → length dbs ≤ index
    → user_end p ≡ user_walk (drop index dbs) lookup answers p
walk_done dbs index lookup answers p past = sym (ap (λ l. user_walk l lookup answers p) (drop_all index dbs past))

-- the answer of the database that is asked
pub walk_answered : (dbs : List Userdb) (index : ℕ) (lookup : Lookup) (p : UserProgress) (a : Answer) (r : Userdb) (m : UserMove) → r ≡ get_or dbs index r
    → Stands (Before index) dbs lookup [] p → m ≡ user_answer_move r lookup p (Some a) → (db : Userdb) (answers : Answers) → slice_get dbs index ≡ Some db
    → answer_from db.number answers ≡ Some a
    → user_walk (drop index dbs) lookup answers p ≡ user_continued m (user_walk (drop (index + 1) dbs) lookup answers)
walk_answered dbs index lookup p a r m read s is db answers here given =
    let first : s.0 ≡ db = same_Some s.0 db (sym s.1 ∙ here) in
    let asks : user_move db lookup p None ≡ UserStop (Ask db.number) = subst (λ d. user_move d lookup p None ≡ UserStop (Ask d.number)) first s.2.asks in
    let same : r ≡ db = read ∙ get_or_from_slice_get dbs index db r here in
    ap (λ l. user_walk l lookup answers p) (at_database dbs index db here)
    ∙ ap (λ o. user_continued (user_move db lookup p o) (user_walk (drop (index + 1) dbs) lookup answers)) given
    ∙ ap (λ x. user_continued x (user_walk (drop (index + 1) dbs) lookup answers))
    (asked_answer db lookup p a asks ∙ ap (λ d. user_answer_move d lookup p (Some a)) (sym same) ∙ sym is)
