-- A walk along the databases of a login's chain, step by step.
use Rattle.std.proofs.Common.{◌≡◌, ℕ, ◌+◌, ◌-◌, ◌<◌, ◌≤◌, Bool, true, false, List, [], ◌∷◌, ◌++◌, Some, None, length, drop, get_or, cond, refl, sym, ap, subst, ◌∙◌, arith}
use Rattle.std.specs.Prelude.{IsTrue, slice_get}
use Rattle.std.proofs.lemmas.List.{drop_more, drop_all}
use Rattle.std.proofs.lemmas.Option.{slice_get_within, get_or_from_slice_get, same_Some}
use Rattle.da_fields.specs.Answers.{Answers, answer_from}
use Rattle.da_fields.specs.declared.answer.Answer.{Answer}
use Rattle.da_passdb.specs.LoginChain.{Ended, Jumped, Move, GoOn, Stop, ended, asking, continued, move, walk, verdict}
use Rattle.da_passdb.specs.Places.{are_masters, is_of, databases_of, asked_name, has_authz, asked_move, part_move, finish, chain_from, StandsAt, IsFurther}
use Rattle.da_passdb.specs.declared.chain.Chain.TheVariants.{Done}
use Rattle.da_passdb.specs.declared.chain.VerdictKind.{VerdictKind}
use Rattle.da_passdb.specs.declared.database.Passdb.{Passdb}
use Rattle.da_passdb.specs.declared.login.Login.{Login}
use Rattle.da_passdb.specs.declared.part.Part.{Part}
use Rattle.da_passdb.specs.declared.part.Part.TheVariants.{Ordinary, Masters, AfterMasters}
use Rattle.da_passdb.specs.declared.progress.Progress.{Progress}
use Rattle.da_passdb.specs.declared.walk.Place.TheVariants.{Before, End}
use Rattle.da_passdb.proofs.Moves.{AsksNothing, still, asked_answer}

-- ---- the databases of a part

of_part : (part : Part) (db : Passdb) (rest : List Passdb) → is_of part db ≡ true → databases_of part (db ∷ rest) ≡ db ∷ databases_of part rest
of_part Ordinary db rest e = ap (λ (b : Bool). cond b (db ∷ databases_of Ordinary rest) (databases_of Ordinary rest)) e
of_part Masters db rest e = ap (λ (b : Bool). cond b (db ∷ databases_of Masters rest) (databases_of Masters rest)) e
of_part AfterMasters db rest e = ap (λ (b : Bool). cond b (db ∷ databases_of AfterMasters rest) (databases_of AfterMasters rest)) e

of_another : (part : Part) (db : Passdb) (rest : List Passdb) → is_of part db ≡ false → databases_of part (db ∷ rest) ≡ databases_of part rest
of_another Ordinary db rest e = ap (λ (b : Bool). cond b (db ∷ databases_of Ordinary rest) (databases_of Ordinary rest)) e
of_another Masters db rest e = ap (λ (b : Bool). cond b (db ∷ databases_of Masters rest) (databases_of Masters rest)) e
of_another AfterMasters db rest e = ap (λ (b : Bool). cond b (db ∷ databases_of AfterMasters rest) (databases_of AfterMasters rest)) e

none_of : (part : Part) → databases_of part [] ≡ []
none_of Ordinary = refl
none_of Masters = refl
none_of AfterMasters = refl

-- ---- the ends of a part

finish_ended : (part : Part) (dbs : List Passdb) (login : Login) (answers : Answers) (how : VerdictKind) (p : Progress)
    → finish part dbs login answers (Ended how p) ≡ Done (verdict how login (has_authz part login) p)
finish_ended Ordinary dbs login answers how p = refl
finish_ended Masters dbs login answers how p = refl
finish_ended AfterMasters dbs login answers how p = refl

finish_jumped : (part : Part) (dbs : List Passdb) (login : Login) (answers : Answers) (p : Progress) → IsTrue (are_masters part)
    → finish part dbs login answers (Jumped p) ≡ chain_from AfterMasters 0 dbs login answers p
finish_jumped Ordinary dbs login answers p masters = absurd (cc)
finish_jumped Masters dbs login answers p masters = refl
finish_jumped AfterMasters dbs login answers p masters = absurd (cc)

-- ---- one step of a walk

module _ (part : Part) (dbs : List Passdb) (login : Login) where
  by_part : (b : Bool) (db : Passdb) (rest : List Passdb) (answers : Answers) (p : Progress) → is_of part db ≡ b
      → walk (are_masters part) (databases_of part (db ∷ rest)) (asked_name part login) login answers p
      ≡ continued (cond b (move (are_masters part) db (asked_name part login) login p (answer_from db.number answers)) (GoOn p))
      (walk (are_masters part) (databases_of part rest) (asked_name part login) login answers)
  by_part true db rest answers p e = ap (λ l. walk (are_masters part) l (asked_name part login) login answers p) (of_part part db rest e)
  by_part false db rest answers p e = ap (λ l. walk (are_masters part) l (asked_name part login) login answers p) (of_another part db rest e)

  pub from_database : (index : ℕ) (db : Passdb) (answers : Answers) (p : Progress) → drop index dbs ≡ db ∷ drop (index + 1) dbs
      → chain_from part index dbs login answers p
      ≡ finish part dbs login answers (
      continued (part_move part db login p (answer_from db.number answers))
      (walk (are_masters part) (databases_of part (drop (index + 1) dbs)) (asked_name part login) login answers)
      )
  from_database index db answers p here =
      ap (λ l. finish part dbs login answers (walk (are_masters part) (databases_of part l) (asked_name part login) login answers p)) here
      ∙ ap (finish part dbs login answers) (by_part (is_of part db) db (drop (index + 1) dbs) answers p refl)

  at_read : (index : ℕ) (db : Passdb) → index < length dbs → db ≡ get_or dbs index db → drop index dbs ≡ db ∷ drop (index + 1) dbs
  at_read index db within read = drop_more dbs index db within ∙ ap (λ d. d ∷ drop (index + 1) dbs) (sym read)

  moves : (index : ℕ) (db : Passdb) (answers more : Answers) (p : Progress) (m : Move) → index < length dbs → db ≡ get_or dbs index db
      → m ≡ part_move part db login p (answer_from db.number answers) → AsksNothing m
      → chain_from part index dbs login (answers ++ more) p
      ≡ finish part dbs login (answers ++ more) (
      continued m (walk (are_masters part) (databases_of part (drop (index + 1) dbs)) (asked_name part login) login (answers ++ more))
      )
  moves index db answers more p m within read is nothing =
      from_database index db (answers ++ more) p (at_read index db within read)
      ∙ ap (λ x. finish part dbs login (answers ++ more) (
      continued x (walk (are_masters part) (databases_of part (drop (index + 1) dbs)) (asked_name part login) login (answers ++ more))))
      (still part db login p answers more m (sym is) nothing)

  pub walk_goes_on : (index : ℕ) (db : Passdb) (answers more : Answers) (p q : Progress) → index < length dbs → db ≡ get_or dbs index db
      → GoOn q ≡ part_move part db login p (answer_from db.number answers)
      → chain_from part (index + 1) dbs login (answers ++ more) q ≡ chain_from part index dbs login (answers ++ more) p
  walk_goes_on index db answers more p q within read is = sym (moves index db answers more p (GoOn q) within read is tt)

  pub walk_ends : (index : ℕ) (db : Passdb) (answers more : Answers) (p q : Progress) (how : VerdictKind) → index < length dbs → db ≡ get_or dbs index db
      → Stop (Ended how q) ≡ part_move part db login p (answer_from db.number answers)
      → Done (verdict how login (has_authz part login) q) ≡ chain_from part index dbs login (answers ++ more) p
  walk_ends index db answers more p q how within read is =
      sym (moves index db answers more p (Stop (Ended how q)) within read is tt ∙ finish_ended part dbs login (answers ++ more) how q)

  pub walk_jumps : (index : ℕ) (db : Passdb) (answers more : Answers) (p q : Progress) → index < length dbs → db ≡ get_or dbs index db
      → Stop (Jumped q) ≡ part_move part db login p (answer_from db.number answers) → IsTrue (are_masters part)
      → chain_from AfterMasters 0 dbs login (answers ++ more) q ≡ chain_from part index dbs login (answers ++ more) p
  walk_jumps index db answers more p q within read is masters =
      sym (moves index db answers more p (Stop (Jumped q)) within read is tt ∙ finish_jumped part dbs login (answers ++ more) q masters)

  -- behind the last database
  pub walk_done : (index : ℕ) (answers : Answers) (p : Progress) (how : VerdictKind) → length dbs ≤ index → Ended how p ≡ ended p
      → Done (verdict how login (has_authz part login) p) ≡ chain_from part index dbs login answers p
  walk_done index answers p how past is =
      sym (
      ap (λ l. finish part dbs login answers (walk (are_masters part) (databases_of part l) (asked_name part login) login answers p)) (drop_all index dbs past)
      ∙ ap (λ l. finish part dbs login answers (walk (are_masters part) l (asked_name part login) login answers p)) (none_of part)
      ∙ ap (finish part dbs login answers) (sym is)
      ∙ finish_ended part dbs login answers how p
      )

  pub at_database : (index : ℕ) (db : Passdb) → slice_get dbs index ≡ Some db → drop index dbs ≡ db ∷ drop (index + 1) dbs
  at_database index db here =
      drop_more dbs index db (slice_get_within dbs index db here) ∙ ap (λ d. d ∷ drop (index + 1) dbs) (get_or_from_slice_get dbs index db db here)

  -- the answer of the database that is asked
  pub answered : (index : ℕ) (p : Progress) (a : Answer) (r : Passdb) (m : Move) → r ≡ get_or dbs index r → StandsAt part (Before index) dbs login [] p
      → m ≡ asked_move part r login p (Some a) → (db : Passdb) (answers : Answers) → slice_get dbs index ≡ Some db → answer_from db.number answers ≡ Some a
      → chain_from part index dbs login answers p
      ≡ finish part dbs login answers (
      continued m (walk (are_masters part) (databases_of part (drop (index + 1) dbs)) (asked_name part login) login answers)
      )
  answered index p a r m read s is db answers here given =
      let first : s.0 ≡ db = same_Some s.0 db (sym s.1 ∙ here) in
      let asks : part_move part db login p None ≡ asking db (asked_name part login) p =
      subst (λ d. part_move part d login p None ≡ asking d (asked_name part login) p) first s.2.asks
      in
      let same : r ≡ db = read ∙ get_or_from_slice_get dbs index db r here in
      from_database index db answers p (at_database index db here)
      ∙ ap (λ x. finish part dbs login answers (
      continued x (walk (are_masters part) (databases_of part (drop (index + 1) dbs)) (asked_name part login) login answers)))
      (
      ap (part_move part db login p) given ∙ asked_answer part db login p a asks ∙ ap (λ d. asked_move part d login p (Some a)) (sym same) ∙ sym is
      )

  pub answered_ends : (index : ℕ) (p q : Progress) (how : VerdictKind) (a : Answer) (r : Passdb) → r ≡ get_or dbs index r
      → StandsAt part (Before index) dbs login [] p → Stop (Ended how q) ≡ asked_move part r login p (Some a) → (db : Passdb) (answers : Answers)
      → slice_get dbs index ≡ Some db → answer_from db.number answers ≡ Some a
      → Done (verdict how login (has_authz part login) q) ≡ chain_from part index dbs login answers p
  answered_ends index p q how a r read s is db answers here given =
      sym (answered index p a r (Stop (Ended how q)) read s is db answers here given ∙ finish_ended part dbs login answers how q)

  pub answered_goes_on : (index : ℕ) (p q : Progress) (a : Answer) (r : Passdb) → r ≡ get_or dbs index r
      → StandsAt part (Before index) dbs login [] p → GoOn q ≡ asked_move part r login p (Some a) → (db : Passdb) (answers : Answers)
      → slice_get dbs index ≡ Some db → answer_from db.number answers ≡ Some a
      → chain_from part (index + 1) dbs login answers q ≡ chain_from part index dbs login answers p
  answered_goes_on index p q a r read s is db answers here given = sym (answered index p a r (GoOn q) read s is db answers here given)

  pub answered_jumps : (index : ℕ) (p q : Progress) (a : Answer) (r : Passdb) → r ≡ get_or dbs index r
      → StandsAt part (Before index) dbs login [] p → Stop (Jumped q) ≡ asked_move part r login p (Some a) → IsTrue (are_masters part)
      → (db : Passdb) (answers : Answers) → slice_get dbs index ≡ Some db → answer_from db.number answers ≡ Some a
      → chain_from AfterMasters 0 dbs login answers q ≡ chain_from part index dbs login answers p
  answered_jumps index p q a r read s is masters db answers here given =
      sym (answered index p a r (Stop (Jumped q)) read s is db answers here given ∙ finish_jumped part dbs login answers q masters)

-- ---- how far a walk has come

pub record IsReached (dbs : List Passdb) (login : Login) (answers : Answers) (from_part : Part) (from : ℕ) (before : Progress) (part : Part) (index : ℕ) (p : Progress) : Type 0 where
  pub rest : (more : Answers) → chain_from part index dbs login (answers ++ more) p ≡ chain_from from_part from dbs login (answers ++ more) before
  pub further : IsFurther from_part from part (Before index)

pub further_start : (part : Part) (from : ℕ) → IsFurther part from part (Before from)
further_start Ordinary from = omega arith
further_start Masters from = omega arith
further_start AfterMasters from = omega arith

pub further_on : (first : Part) (from : ℕ) (part : Part) (index : ℕ) → IsFurther first from part (Before index) → IsFurther first from part (Before (index + 1))
further_on Ordinary from Ordinary index f = omega arith
further_on Ordinary from Masters index f = f
further_on Ordinary from AfterMasters index f = f
further_on Masters from Ordinary index f = f
further_on Masters from Masters index f = omega arith
further_on Masters from AfterMasters index f = tt
further_on AfterMasters from Ordinary index f = f
further_on AfterMasters from Masters index f = f
further_on AfterMasters from AfterMasters index f = omega arith

pub further_jump : (first : Part) (from : ℕ) (part : Part) (index : ℕ) → IsTrue (are_masters part) → IsFurther first from part (Before index)
    → IsFurther first from AfterMasters (Before 0)
further_jump first from Ordinary index masters f = absurd (cc)
further_jump first from AfterMasters index masters f = absurd (cc)
further_jump Ordinary from Masters index masters f = absurd f
further_jump Masters from Masters index masters f = tt
further_jump AfterMasters from Masters index masters f = absurd f

pub further_end : (first : Part) (from : ℕ) (part : Part) (index : ℕ) (how : VerdictKind) → IsFurther first from part (Before index)
    → IsFurther first from part (End how)
further_end Ordinary from Ordinary index how f = tt
further_end Ordinary from Masters index how f = f
further_end Ordinary from AfterMasters index how f = f
further_end Masters from Ordinary index how f = f
further_end Masters from Masters index how f = tt
further_end Masters from AfterMasters index how f = tt
further_end AfterMasters from Ordinary index how f = f
further_end AfterMasters from Masters index how f = f
further_end AfterMasters from AfterMasters index how f = tt

-- how many steps are left at most
abbrev pub steps_left : Part → ℕ → ℕ → ℕ
steps_left Masters index size = size + 1 + (size - index)
steps_left _ index size = size - index

pub fewer_on : (part : Part) (index size : ℕ) → index < size → steps_left part (index + 1) size < steps_left part index size
fewer_on Ordinary index size within = omega arith
fewer_on Masters index size within = omega arith
fewer_on AfterMasters index size within = omega arith

pub fewer_over : (part : Part) (index size : ℕ) → IsTrue (are_masters part) → steps_left AfterMasters 0 size < steps_left part index size
fewer_over Ordinary index size masters = absurd (cc)
fewer_over Masters index size masters = omega arith
fewer_over AfterMasters index size masters = absurd (cc)
