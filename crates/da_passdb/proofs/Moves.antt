-- What a database does to the state of a login, in its cases.
use Rattle.std.proofs.Common.{◌≡◌, Bool, true, false, ◌++◌, Option, Some, None, cond, refl, sym, ap, subst, ◌∙◌}
use Rattle.std.specs.Prelude.{◌||◌, option_and_then}
use Rattle.da_base.specs.Words.{Bytes}
use Rattle.da_chain.proofs.Given.{answer_from-some}
use Rattle.da_fields.specs.Answers.{Answers, answer_from}
use Rattle.da_fields.specs.declared.answer.Answer.{Answer}
use Rattle.da_fields.specs.declared.answer.Answer.TheVariants.{Passed, Mismatch as Mismatched}
use Rattle.da_fields.specs.FieldList.{Pairs}
use Rattle.da_fields.specs.declared.outcome.Outcome.{Outcome}
use Rattle.da_fields.specs.declared.outcome.Outcome.TheVariants.{NoScheme}
use Rattle.da_fields.specs.declared.outcome.Rule.{Rule}
use Rattle.da_fields.specs.declared.outcome.Rule.TheVariants.{ReturnOk, ReturnFail, Return, ContinueOk, ContinueFail, Continue}
use Rattle.da_passdb.specs.LoginChain.{Asking, Move, GoOn, Stop, going_on, by_rule, asking, is_passed_over, deny_move, is_unaskable, after_outcome, answer_move, move}
use Rattle.da_passdb.specs.Outcomes.{outcome}
use Rattle.da_passdb.specs.Places.{IsJudged, IsAsked, are_masters, is_of, asked_name, asked_move, part_move}
use Rattle.da_passdb.specs.declared.database.Passdb.{Passdb}
use Rattle.da_passdb.specs.declared.login.Login.{Login}
use Rattle.da_passdb.specs.declared.outcome.Judged.{Judged}
use Rattle.da_passdb.specs.declared.part.Part.{Part}
use Rattle.da_passdb.specs.declared.progress.Progress.{Progress}
use Rattle.da_schemes.specs.Scheme.{label_of}
use Rattle.da_schemes.specs.Stored.{stored_under, stored_password}
use Rattle.da_schemes.specs.declared.scheme.Scheme.{Scheme}

-- a text whose braces name no scheme can't be read
pub unreadable : (default : Scheme) (text : Bytes) → label_of default text ≡ None → None ≡ stored_password default text
unfolding stored_password
unreadable default text none = sym (ap (option_and_then (λ labelled. stored_under labelled.0 labelled.1)) none)

-- where a password was checked, none is stored
pub judged_passed : (db : Passdb) (login : Login) (checked : Bool) (fields : Pairs) (answer : Answer) (judged : Judged) (o : Outcome) → answer ≡ Passed fields
    → judged ≡ record { outcome = o; stored = None } → ((checked : Bool) → o ≡ outcome db login checked (Passed fields)) → IsJudged db login checked answer judged
judged_passed db login checked fields answer judged o is made reported =
    subst (λ a. IsJudged db login checked a judged) (sym is) (
    record {
      outcome = ap (λ j. j.outcome) made ∙ reported checked;
      credentials = λ success unchecked. ap (λ j. j.stored) made;
    }
    )

-- a move in its four cases
pub move_is : (jumps : Bool) (db : Passdb) (name : Bytes) (login : Login) (p : Progress) (o : Option Answer)
    → move jumps db name login p o
    ≡ cond (is_passed_over db name p) (GoOn p) (
    cond db.deny (deny_move db name p o) (
    cond (is_unaskable db login p) (after_outcome jumps db login.vars NoScheme Mismatched p) (answer_move jumps db name login p o)
    )
    )
unfolding move
move_is jumps db name login p o = refl

-- ---- moves that ask nothing

abbrev pub AsksNothing : Move → Type 0
AsksNothing (GoOn p) = Unit {0}
AsksNothing (Stop (Asking db kind name checked)) = ⊥
AsksNothing (Stop _) = Unit {0}

same_choice : (ours over denies unaskable : Bool) (on unasked asked denied answered m : Move)
    → cond ours (cond over on (cond denies asked (cond unaskable unasked asked))) on ≡ m → ((x : Move) → asked ≡ m → x ≡ m)
    → cond ours (cond over on (cond denies denied (cond unaskable unasked answered))) on ≡ m
same_choice false over denies unaskable on unasked asked denied answered m is none = is
same_choice true true denies unaskable on unasked asked denied answered m is none = is
same_choice true false true unaskable on unasked asked denied answered m is none = none denied is
same_choice true false false true on unasked asked denied answered m is none = is
same_choice true false false false on unasked asked denied answered m is none = none answered is

not_asked : {A : Type 0} (db : Passdb) (name : Bytes) (p : Progress) (m : Move) → AsksNothing m → asking db name p ≡ m → A
not_asked db name p m nothing e = absurd (subst AsksNothing (sym e) nothing)

module _ (part : Part) (db : Passdb) (login : Login) (p : Progress) where
  -- what is done without an answer is done with any
  unasked : (o : Option Answer) (m : Move) → part_move part db login p None ≡ m → AsksNothing m → part_move part db login p o ≡ m
  unasked o m is nothing =
      ap (λ x. cond (is_of part db) x (GoOn p)) (move_is (are_masters part) db (asked_name part login) login p o)
      ∙ same_choice (is_of part db) (is_passed_over db (asked_name part login) p) db.deny (is_unaskable db login p) (GoOn p)
      (after_outcome (are_masters part) db login.vars NoScheme Mismatched p) (asking db (asked_name part login) p) (deny_move db (asked_name part login) p o)
      (answer_move (are_masters part) db (asked_name part login) login p o) m
      (ap (λ x. cond (is_of part db) x (GoOn p)) (sym (move_is (are_masters part) db (asked_name part login) login p None)) ∙ is)
      (λ x e. not_asked db (asked_name part login) p m nothing e)

  by_answer : (answers more : Answers) (m : Move) (o : Option Answer) → answer_from db.number answers ≡ o → part_move part db login p o ≡ m → AsksNothing m
      → part_move part db login p (answer_from db.number (answers ++ more)) ≡ m
  by_answer answers more m None given is nothing = unasked (answer_from db.number (answers ++ more)) m is nothing
  by_answer answers more m (Some a) given is nothing = ap (part_move part db login p) (answer_from-some db.number answers more a given) ∙ is

  -- later answers change no move that is made already
  pub still : (answers more : Answers) (m : Move) → part_move part db login p (answer_from db.number answers) ≡ m → AsksNothing m
      → part_move part db login p (answer_from db.number (answers ++ more)) ≡ m
  still answers more m is nothing = by_answer answers more m (answer_from db.number answers) refl is nothing

-- ---- the answer of a database that is asked

going_on_asks_nothing : (jump : Bool) (p : Progress) → AsksNothing (going_on jump p)
going_on_asks_nothing true p = tt
going_on_asks_nothing false p = tt

rule_asks_nothing : (rule : Rule) (succeeded jumps : Bool) (p : Progress) → AsksNothing (by_rule rule succeeded jumps p)
rule_asks_nothing ReturnOk succeeded jumps p = tt
rule_asks_nothing ReturnFail succeeded jumps p = tt
rule_asks_nothing Return succeeded jumps p = tt
rule_asks_nothing ContinueOk false jumps p = tt
rule_asks_nothing ContinueOk true jumps p = going_on_asks_nothing jumps (record p { success = true; checked = true })
rule_asks_nothing ContinueFail false jumps p = tt
rule_asks_nothing ContinueFail true jumps p = going_on_asks_nothing jumps (record p { success = false; checked = false })
rule_asks_nothing Continue false jumps p = tt
rule_asks_nothing Continue true jumps p = going_on_asks_nothing jumps (record p { checked = p.checked || true })

only_asked : (ours over denies unaskable : Bool) (p : Progress) (unasked asked denied answered : Move) → (GoOn p ≡ asked → ⊥) → (unasked ≡ asked → ⊥)
    → cond ours (cond over (GoOn p) (cond denies asked (cond unaskable unasked asked))) (GoOn p) ≡ asked
    → cond ours (cond over (GoOn p) (cond denies denied (cond unaskable unasked answered))) (GoOn p) ≡ cond denies denied answered
only_asked false over denies unaskable p unasked asked denied answered on un is = absurd (on is)
only_asked true true denies unaskable p unasked asked denied answered on un is = absurd (on is)
only_asked true false true unaskable p unasked asked denied answered on un is = refl
only_asked true false false true p unasked asked denied answered on un is = absurd (un is)
only_asked true false false false p unasked asked denied answered on un is = refl

pub asked_denied : (part : Part) (db : Passdb) (login : Login) (p : Progress) (o : Option Answer) → db.deny ≡ true
    → deny_move db (asked_name part login) p o ≡ asked_move part db login p o
asked_denied part db login p o denies =
    sym (ap (λ (b : Bool). cond b (deny_move db (asked_name part login) p o) (answer_move (are_masters part) db (asked_name part login) login p o)) denies)

pub asked_others : (part : Part) (db : Passdb) (login : Login) (p : Progress) (o : Option Answer) → db.deny ≡ false
    → answer_move (are_masters part) db (asked_name part login) login p o ≡ asked_move part db login p o
asked_others part db login p o denies =
    sym (ap (λ (b : Bool). cond b (deny_move db (asked_name part login) p o) (answer_move (are_masters part) db (asked_name part login) login p o)) denies)

-- a database that is asked, by what comes of visiting it without an answer
pub asked_here : (part : Part) (db : Passdb) (login : Login) (answers : Answers) (p q : Progress) (o : Option Answer)
    → asking db (asked_name part login) q ≡ part_move part db login p o → (o ≡ None) × (q ≡ p) → o ≡ answer_from db.number answers
    → IsAsked part db login answers q
asked_here part db login answers p q o moves asks given =
    record {
      asks = ap (λ x. part_move part db login x None) asks.1 ∙ ap (part_move part db login p) (sym asks.0) ∙ sym moves;
      is_open = sym given ∙ asks.0;
    }

asked_choice : (ours : Bool) (m : Move) (db : Passdb) (name : Bytes) (p : Progress) → cond ours m (GoOn p) ≡ asking db name p → ours ≡ true
asked_choice true m db name p is = refl
asked_choice false m db name p is = not_asked db name p (GoOn p) tt (sym is)

-- it is one of the part
pub asked_is_of : (part : Part) (db : Passdb) (login : Login) (p : Progress) → part_move part db login p None ≡ asking db (asked_name part login) p
    → is_of part db ≡ true
asked_is_of part db login p asks =
    asked_choice (is_of part db) (move (are_masters part) db (asked_name part login) login p None) db (asked_name part login) p asks

-- its answer settles the move
pub asked_answer : (part : Part) (db : Passdb) (login : Login) (p : Progress) (a : Answer) → part_move part db login p None ≡ asking db (asked_name part login) p
    → part_move part db login p (Some a) ≡ asked_move part db login p (Some a)
asked_answer part db login p a asks =
    ap (λ x. cond (is_of part db) x (GoOn p)) (move_is (are_masters part) db (asked_name part login) login p (Some a))
    ∙ only_asked (is_of part db) (is_passed_over db (asked_name part login) p) db.deny (is_unaskable db login p) p
    (after_outcome (are_masters part) db login.vars NoScheme Mismatched p) (asking db (asked_name part login) p)
    (deny_move db (asked_name part login) p (Some a)) (answer_move (are_masters part) db (asked_name part login) login p (Some a))
    (λ e. not_asked db (asked_name part login) p (GoOn p) tt (sym e))
    (λ e. not_asked db (asked_name part login) p (after_outcome (are_masters part) db login.vars NoScheme Mismatched p)
    (rule_asks_nothing db.result_failure false (are_masters part) p) (sym e))
    (ap (λ x. cond (is_of part db) x (GoOn p)) (sym (move_is (are_masters part) db (asked_name part login) login p None)) ∙ asks)
