-- A login that ends well has a recorded answer that is a success.
use Rattle.std.proofs.Common.{◌≡◌, refl, sym, ◌∙◌, ap, Option, Some, None, List, [], ◌∷◌, Bool, true, false, cond, not, ◌&&◌, ◌||◌, filter, true≢false, ◌⊎◌, inl, inr}
use Rattle.da_request.specs.Attempts.{has_success}
use Rattle.da_tables.proofs.Cases.{by_test}
use Rattle.da_base.specs.Words.{Bytes}
use Rattle.da_fields.specs.Answers.{Answers, answer_from, is_success, rule_for}
use Rattle.da_fields.specs.declared.answer.Answer.{Answer}
use Rattle.da_fields.specs.declared.answer.Answer.TheVariants.{Found, Passed, Mismatch, Unknown, Internal}
use Rattle.da_fields.specs.declared.outcome.Outcome.{Outcome}
use Rattle.da_fields.specs.declared.outcome.Outcome.TheVariants.{Success as Succeeds, Mismatch as Mismatches, Unknown as IsUnknown, NoScheme as HasNoScheme, Internal as IsInternal}
use Rattle.da_fields.specs.declared.outcome.Rule.{Rule}
use Rattle.da_fields.specs.declared.outcome.Rule.TheVariants.{ReturnOk, ReturnFail, Return, ContinueOk, ContinueFail, Continue}
use Rattle.da_laws.specs.SuccessLaws.{lets_in, IsStrict, AllStrict, IsAmong, HasSuccess}
use Rattle.da_names.specs.declared.variables.Vars.{Vars}
use Rattle.da_passdb.specs.LoginChain.{no_progress, Walk, Asking, Ended, Jumped, Move, GoOn, Stop, ended, going_on, by_rule, with_outcome, after_outcome, deny_move, answer_move, move, is_passed_over, is_unaskable, continued, walk, chain_of, users_part, after_masters, chain_for, login_chain, is_expired}
use Rattle.da_passdb.specs.declared.progress.Progress.{Progress}
use Rattle.da_passdb.specs.Outcomes.{outcome, is_plaintext_proof}
use Rattle.da_passdb.specs.declared.chain.Chain.{Chain}
use Rattle.da_passdb.specs.declared.chain.Chain.TheVariants.{Ask, Done}
use Rattle.da_passdb.specs.declared.chain.Verdict.{Verdict}
use Rattle.da_passdb.specs.declared.chain.VerdictKind.{VerdictKind}
use Rattle.da_passdb.specs.declared.chain.VerdictKind.TheVariants.{Ok as IsOkay, Fail as IsFail, Temp as IsTemp, Expired as IsExpired}
use Rattle.da_passdb.specs.declared.database.Passdb.{Passdb}
use Rattle.da_passdb.specs.declared.login.Login.{Login}

-- P holds where progress or an end is a success, Ok or Expired
abbrev OnProgress : Type 0 → Progress → Type 0
OnProgress P p = (p.success ≡ true → P) × (p.checked ≡ true → P)

abbrev OnWalk : Type 0 → Walk → Type 0
OnWalk P (Asking db kind name checked) = Unit {0}
OnWalk P (Ended kind p) = has_success kind ≡ true → P
OnWalk P (Jumped p) = OnProgress P p

abbrev OnMove : Type 0 → Move → Type 0
OnMove P (GoOn p) = OnProgress P p
OnMove P (Stop w) = OnWalk P w

on_ended : (P : Type 0) (p : Progress) → OnProgress P p → OnWalk P (ended p)
on_ended P p h = go p.success h.0
  where
    go : (b : Bool) → (b ≡ true → P) → has_success (cond b (cond (is_expired p) IsExpired IsOkay) (cond p.internal IsTemp IsFail)) ≡ true → P
    go true h e = h refl
    go false h e = absurd (true≢false (sym e ∙ by_test (λ k. has_success k ≡ false) p.internal IsTemp IsFail (λ x. refl) (λ x. refl)))

on_going : (P : Type 0) (b : Bool) (p : Progress) → OnProgress P p → OnMove P (going_on b p)
on_going P true p h = h
on_going P false p h = h

-- a rule that doesn't let in keeps what holds; one that does wants P
either_true : (P : Type 0) (a b : Bool) → (a ≡ true → P) → (b ≡ true → P) → (a || b) ≡ true → P
either_true P true b f g e = f refl
either_true P false b f g e = g e

no_true : (P : Type 0) → false ≡ true → P
no_true P e = absurd (true≢false (sym e))

on_rule : (P : Type 0) (rule : Rule) (succeeded jumps : Bool) (p : Progress) → (lets_in rule ≡ true → P) → (succeeded ≡ true → P) → OnProgress P p → OnMove P (by_rule rule succeeded jumps p)
on_rule P ReturnOk succeeded jumps p k s h = on_ended P (record p { success = true }) ((λ e. k refl), h.1)
on_rule P ReturnFail succeeded jumps p k s h = on_ended P (record p { success = false }) (no_true P, h.1)
on_rule P Return succeeded jumps p k s h = on_ended P p h
on_rule P ContinueOk succeeded jumps p k s h = on_going P (succeeded && jumps) (record p { success = true; checked = true }) ((λ e. k refl), (λ e. k refl))
on_rule P ContinueFail succeeded jumps p k s h = on_going P (succeeded && jumps) (record p { success = false; checked = false }) (no_true P, no_true P)
on_rule P Continue succeeded jumps p k s h = on_going P (succeeded && jumps) (record p { checked = p.checked || succeeded }) (h.0, either_true P p.checked succeeded h.1 s)

same_success : (db : Passdb) (v : Vars) (o : Outcome) (answer : Answer) (p : Progress) → (with_outcome db v o answer p).success ≡ p.success
same_success db v Succeeds answer p = refl
same_success db v Mismatches answer p = refl
same_success db v IsUnknown answer p = refl
same_success db v HasNoScheme answer p = refl
same_success db v IsInternal answer p = refl

same_checked : (db : Passdb) (v : Vars) (o : Outcome) (answer : Answer) (p : Progress) → (with_outcome db v o answer p).checked ≡ p.checked
same_checked db v Succeeds answer p = refl
same_checked db v Mismatches answer p = refl
same_checked db v IsUnknown answer p = refl
same_checked db v HasNoScheme answer p = refl
same_checked db v IsInternal answer p = refl

success_is : (o : Outcome) → is_success o ≡ true → o ≡ Succeeds
success_is Succeeds e = refl
success_is Mismatches e = absurd (true≢false (sym e))
success_is IsUnknown e = absurd (true≢false (sym e))
success_is HasNoScheme e = absurd (true≢false (sym e))
success_is IsInternal e = absurd (true≢false (sym e))

fresh : (P : Type 0) (b : Bool) (db : Passdb) (login : Login) (answer : Answer) → (b ≡ true → P) → (outcome db login false answer ≡ Succeeds → P) → outcome db login b answer ≡ Succeeds → P
fresh P true db login answer f g e = f refl
fresh P false db login answer f g e = g e

strict_rule : (P : Type 0) (db : Passdb) → IsStrict db → (o : Outcome) → (o ≡ Succeeds → P) → lets_in (rule_for db.result_success db.result_failure db.result_internalfail o) ≡ true → P
strict_rule P db s Succeeds h e = h refl
strict_rule P db s Mismatches h e = absurd (true≢false (sym e ∙ s.failure))
strict_rule P db s IsUnknown h e = absurd (true≢false (sym e ∙ s.failure))
strict_rule P db s HasNoScheme h e = absurd (true≢false (sym e ∙ s.failure))
strict_rule P db s IsInternal h e = absurd (true≢false (sym e ∙ s.internal))

on_outcome : (P : Type 0) (jumps : Bool) (db : Passdb) (v : Vars) (o : Outcome) (answer : Answer) (p : Progress) → IsStrict db → (o ≡ Succeeds → P) → OnProgress P p → OnMove P (after_outcome jumps db v o answer p)
on_outcome P jumps db v o answer p s k h = on_rule P (rule_for db.result_success db.result_failure db.result_internalfail o) (is_success o) jumps (with_outcome db v o answer p) (strict_rule P db s o k) (λ e. k (success_is o e)) ((λ e. h.0 (sym (same_success db v o answer p) ∙ e)), (λ e. h.1 (sym (same_checked db v o answer p) ∙ e)))

on_deny : (P : Type 0) (db : Passdb) (name : Bytes) (p : Progress) (o : Option Answer) → OnProgress P p → OnMove P (deny_move db name p o)
on_deny P db name p None h = tt
on_deny P db name p (Some Unknown) h = h
on_deny P db name p (Some (Internal why)) h = λ e. absurd (true≢false (sym e))
on_deny P db name p (Some (Found stored fields)) h = λ e. absurd (true≢false (sym e))
on_deny P db name p (Some (Passed fields)) h = λ e. absurd (true≢false (sym e))
on_deny P db name p (Some Mismatch) h = λ e. absurd (true≢false (sym e))

on_answer : (P : Type 0) (jumps : Bool) (db : Passdb) (name : Bytes) (login : Login) (p : Progress) (o : Option Answer) → IsStrict db →
    ((answer : Answer) → o ≡ Some answer → outcome db login false answer ≡ Succeeds → P) → OnProgress P p → OnMove P (answer_move jumps db name login p o)
on_answer P jumps db name login p None s k h = tt
on_answer P jumps db name login p (Some answer) s k h = on_outcome P jumps db login.vars (outcome db login p.checked answer) answer p s (fresh P p.checked db login answer h.1 (k answer refl)) h

no_scheme : (P : Type 0) → HasNoScheme ≡ Succeeds → P
no_scheme P e = absurd (true≢false (sym (ap is_success e)))

on_move : (P : Type 0) (jumps : Bool) (db : Passdb) (name : Bytes) (login : Login) (p : Progress) (o : Option Answer) → IsStrict db →
    (db.deny ≡ false → (answer : Answer) → o ≡ Some answer → outcome db login false answer ≡ Succeeds → P) → OnProgress P p → OnMove P (move jumps db name login p o)
unfolding move
on_move P jumps db name login p o s k h =
    by_test (λ m. OnMove P m) (is_passed_over db name p) (GoOn p) _ (λ e. h) (λ e.
    by_test (λ m. OnMove P m) db.deny (deny_move db name p o) _ (λ d. on_deny P db name p o h) (λ d.
    by_test (λ m. OnMove P m) (is_unaskable db login p) _ _
    (λ u. on_outcome P jumps db login.vars HasNoScheme Mismatch p s (no_scheme P) h)
    (λ u. on_answer P jumps db name login p o s (k d) h)))

on_continued : (P : Type 0) (m : Move) (go_on : Progress → Walk) → OnMove P m → ((p : Progress) → OnProgress P p → OnWalk P (go_on p)) → OnWalk P (continued m go_on)
on_continued P (GoOn p) go_on h k = k p h
on_continued P (Stop w) go_on h k = h

-- a walk that ends well has a success among its databases, or began with one
on_walk : (P : Type 0) (jumps : Bool) (dbs : List Passdb) (name : Bytes) (login : Login) (answers : Answers) (p : Progress) → AllStrict dbs →
    ((db : Passdb) → IsAmong db dbs → db.deny ≡ false → (answer : Answer) → answer_from db.number answers ≡ Some answer → outcome db login false answer ≡ Succeeds → P) →
    OnProgress P p → OnWalk P (walk jumps dbs name login answers p)
on_walk P jumps [] name login answers p s k h = on_ended P p h
on_walk P jumps (db ∷ dbs) name login answers p s k h =
    on_continued P (move jumps db name login p (answer_from db.number answers)) (walk jumps dbs name login answers)
    (on_move P jumps db name login p (answer_from db.number answers) s.0 (λ d answer e o. k db (inl refl) d answer e o) h)
    (λ q g. on_walk P jumps dbs name login answers q s.1 (λ d i n answer e o. k d (inr i) n answer e o) g)

-- ---- a whole login

strict_part : (holds : Passdb → Bool) (dbs : List Passdb) → AllStrict dbs → AllStrict (filter holds dbs)
strict_part holds [] s = tt
strict_part holds (db ∷ dbs) s = by_test (λ ds. AllStrict ds) (holds db) (db ∷ filter holds dbs) (filter holds dbs) (λ e. (s.0, strict_part holds dbs s.1)) (λ e. strict_part holds dbs s.1)

among_part : (holds : Passdb → Bool) (db : Passdb) (dbs : List Passdb) → IsAmong db (filter holds dbs) → IsAmong db dbs
among_part holds db [] i = i
among_part holds db (d ∷ dbs) i = go (holds d) (among_part holds db dbs) i
  where
    go : (b : Bool) → (IsAmong db (filter holds dbs) → IsAmong db dbs) → IsAmong db (cond b (d ∷ filter holds dbs) (filter holds dbs)) → (d ≡ db) ⊎ IsAmong db dbs
    go true rest (inl e) = inl e
    go true rest (inr j) = inr (rest j)
    go false rest j = inr (rest j)

is_done : Chain → Bool
is_done (Ask db kind user checked) = false
is_done (Done v) = true

done_kind : VerdictKind → Chain → VerdictKind
done_kind k (Ask db kind user checked) = k
done_kind k (Done v) = v.kind

chain_success : (P : Type 0) (login : Login) (authz : Bool) (w : Walk) (v : Verdict) → OnWalk P w → chain_of login authz w ≡ Done v → has_success v.kind ≡ true → P
unfolding is_done done_kind
chain_success P login authz (Asking db kind name checked) v h e k = absurd (true≢false (sym (ap is_done e)))
chain_success P login authz (Ended kind p) v h e k = h (ap (λ c. has_success (done_kind IsFail c)) e ∙ k)
chain_success P login authz (Jumped p) v h e k = absurd (true≢false (sym k ∙ sym (ap (λ c. has_success (done_kind IsOkay c)) e)))

part_success : (jumps : Bool) (holds : Passdb → Bool) (dbs : List Passdb) (name : Bytes) (login : Login) (answers : Answers) (p : Progress) → AllStrict dbs →
    OnProgress (HasSuccess dbs login answers) p → OnWalk (HasSuccess dbs login answers) (walk jumps (filter holds dbs) name login answers p)
part_success jumps holds dbs name login answers p s h =
    on_walk (HasSuccess dbs login answers) jumps (filter holds dbs) name login answers p (strict_part holds dbs s)
    (λ db i d answer e o. record { db = db; is_there = among_part holds db dbs i; is_no_deny = d; answer = answer; recorded = e; succeeds = o }) h

masters_success : (dbs : List Passdb) (login : Login) (answers : Answers) (w : Walk) (v : Verdict) → AllStrict dbs → OnWalk (HasSuccess dbs login answers) w → after_masters dbs login answers w ≡ Done v → has_success v.kind ≡ true → HasSuccess dbs login answers
masters_success dbs login answers (Asking db kind name checked) v s h e k = chain_success _ login false (Asking db kind name checked) v h e k
masters_success dbs login answers (Ended kind p) v s h e k = chain_success _ login false (Ended kind p) v h e k
masters_success dbs login answers (Jumped p) v s h e k =
    chain_success _ login (is_plaintext_proof login.proof) (users_part dbs login answers p) v (part_success false (λ db. not db.master) dbs login.user login answers p s h) e k

nothing_yet : (P : Type 0) → OnProgress P no_progress
nothing_yet P = (no_true P, no_true P)

for_success : (master : Option Bytes) (dbs : List Passdb) (login : Login) (answers : Answers) (v : Verdict) → AllStrict dbs → chain_for master dbs login answers ≡ Done v → has_success v.kind ≡ true → HasSuccess dbs login answers
for_success None dbs login answers v s e k =
    chain_success _ login false (users_part dbs login answers no_progress) v (part_success false (λ db. not db.master) dbs login.user login answers no_progress s (nothing_yet _)) e k
for_success (Some master) dbs login answers v s e k =
    masters_success dbs login answers _ v s (part_success true (λ db. db.master) dbs master login answers no_progress s (nothing_yet _)) e k

-- a login that ends well has a recorded answer that is a success
pub success_has_its_answer : (dbs : List Passdb) (login : Login) (answers : Answers) (v : Verdict) → AllStrict dbs → login_chain dbs login answers ≡ Done v → has_success v.kind ≡ true → HasSuccess dbs login answers
unfolding login_chain
success_has_its_answer dbs login answers v s e k = for_success login.master dbs login answers v s e k
