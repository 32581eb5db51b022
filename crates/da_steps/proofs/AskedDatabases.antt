-- A request asks a database of its own that has no answer yet.
use Rattle.std.proofs.Common.{◌≡◌, refl, sym, ◌∙◌, ap, subst, Option, Some, None, List, [], ◌∷◌, ◌++◌, ℕ, ◌+◌, ◌≤◌, Bool, true, false, cond, not, ◌&&◌, map, filter, is_some, true≢false, arith, eq-eqb, ◌==◌, ◌⊎◌, inl, inr, if◌then◌else◌}
use Rattle.std.proofs.lemmas.Option.{none-some, same_Some}
use Rattle.da_tables.proofs.Cases.{by_test}
use Rattle.da_base.specs.Words.{Bytes, is_empty, count_where}
use Rattle.da_fields.specs.Answers.{Answers, answer_from, rule_for, is_success}
use Rattle.da_fields.specs.FieldList.{userdb_part}
use Rattle.da_fields.specs.declared.answer.Answer.{Answer}
use Rattle.da_fields.specs.declared.answer.Answer.TheVariants.{Found, Passed, Mismatch, Unknown, Internal}
use Rattle.da_fields.specs.declared.outcome.Outcome.TheVariants.{NoScheme as HasNoScheme, Unknown as IsUnknown, Success as Succeeds}
use Rattle.da_fields.specs.declared.outcome.Rule.{Rule}
use Rattle.da_fields.specs.declared.outcome.Rule.TheVariants.{ReturnOk, ReturnFail, Return, ContinueOk, ContinueFail, Continue}
use Rattle.da_fields.specs.declared.said.Said.{Said}
use Rattle.da_fields.specs.declared.said.Said.TheVariants.{Challenge, Need, Proof as Proven, Bad}
use Rattle.da_request.specs.Attempts.{Attempt, mechanism_says, names, opening, opening_named, opening_said, opening_by, stage_from, after_proof, with_credentials, after_verdict, after_chain, attempt_stage, decided_by, has_proof, has_success}
use Rattle.da_request.specs.declared.openings.Opening.{Opening}
use Rattle.da_request.specs.declared.openings.Opening.TheVariants.{Immediate, LogsIn}
use Rattle.da_request.specs.Requests.{lookup_stage, body_stage, request_stage, question_in}
use Rattle.da_passdb.specs.declared.login.Login.{Login}
use Rattle.da_settings.specs.declared.settings.Settings.{Settings}
use Rattle.da_request.specs.declared.request.Body.{Body}
use Rattle.da_request.specs.declared.request.Body.TheVariants.{Authenticates, LooksUp}
use Rattle.da_request.specs.declared.stages.Question.{Question}
use Rattle.da_request.specs.declared.request.Request.{Request}
use Rattle.da_request.specs.declared.stages.Stage.{Stage}
use Rattle.da_request.specs.declared.stages.Stage.TheVariants.{Awaits, Asks, Decided}
use Rattle.da_msgs.specs.Replies.{mechanism_named}
use Rattle.da_msgs.specs.declared.kinds.Mech.{Mech}
use Rattle.da_passdb.specs.LoginChain.{no_progress, Walk, Asking, Ended, Jumped, Move, GoOn, Stop, going_on, by_rule, deny_move, answer_move, move, is_passed_over, is_unaskable, continued, walk, chain_of, users_part, after_masters, chain_for, login_chain}
use Rattle.da_passdb.specs.declared.progress.Progress.{Progress}
use Rattle.da_passdb.specs.Outcomes.{is_plaintext_proof, outcome}
use Rattle.da_passdb.specs.declared.chain.Chain.{Chain}
use Rattle.da_passdb.specs.declared.chain.Chain.TheVariants.{Ask, Done}
use Rattle.da_passdb.specs.declared.chain.Verdict.{Verdict}
use Rattle.da_passdb.specs.declared.chain.VerdictKind.{VerdictKind}
use Rattle.da_passdb.specs.declared.chain.VerdictKind.TheVariants.{Ok as IsOkay, Fail as IsFail, Temp as IsTemp, Disabled as IsDisabled, Expired as IsExpired}
use Rattle.da_passdb.specs.declared.database.Passdb.{Passdb}
use Rattle.da_schemes.specs.Stored.{StoredPassword}
use Rattle.da_userdb.specs.UserChain.{UserMove, UserGoOn, UserStop, user_end, by_user_rule, with_user_outcome, after_user_outcome, user_answer_move, prefetch_move, user_move, is_user_skipped, is_prefetch, user_continued, user_walk, user_chain, user_outcome}
use Rattle.da_userdb.specs.declared.progress.UserProgress.{UserProgress}
use Rattle.da_userdb.specs.declared.database.Lookup.{Lookup}
use Rattle.da_userdb.specs.declared.database.UserChain.{UserChain}
use Rattle.da_userdb.specs.declared.database.UserChain.TheVariants.{Ask as AskUser, Found as UserFound, NotFound as UserNotFound, Temp as UserFailed}
use Rattle.da_userdb.specs.declared.database.Userdb.{Userdb}
use Rattle.da_request.specs.Requests.{attempt_by}

-- ---- numbers that have no answer yet

abbrev pub is_open : Answers → ℕ → Bool
is_open answers d = not (is_some (answer_from d answers))

abbrev pub IsIn : ℕ → List ℕ → Type 0
IsIn d [] = ⊥
IsIn d (n ∷ ns) = (n ≡ d) ⊎ IsIn d ns

-- d is one of the numbers, and has no answer
pub HasOpen : Answers → ℕ → List ℕ → Type 0
HasOpen answers d ns = IsIn d ns × (answer_from d answers ≡ None)

unfoldable pub with_one : Answers → ℕ → Answer → Answers
with_one answers d a = answers ++ (d, a) ∷ []

pub one_more : (answers : Answers) (d : ℕ) (a : Answer) (n : ℕ) → is_open answers n ≡ false → is_open (with_one answers d a) n ≡ false
unfolding with_one
one_more [] d a n e = absurd (true≢false e)
one_more (p ∷ answers) d a n e = go (p.0 == n) e (one_more answers d a n)
  where
    go : (b : Bool) → not (is_some (cond b (Some p.1) (answer_from n answers))) ≡ false → (is_open answers n ≡ false → is_open (answers ++ (d, a) ∷ []) n ≡ false) → not (is_some (cond b (Some p.1) (answer_from n (answers ++ (d, a) ∷ [])))) ≡ false
    go true e rest = refl
    go false e rest = rest e

pub own_answered : (answers : Answers) (d : ℕ) (a : Answer) → is_open (with_one answers d a) d ≡ false
unfolding with_one
own_answered [] d a = ap (λ b. not (is_some (cond b (Some a) None))) (eq-eqb d d refl)
own_answered (p ∷ answers) d a = by_test (λ o. not (is_some o) ≡ false) (p.0 == d) (Some p.1) (answer_from d (answers ++ (d, a) ∷ [])) (λ e. refl) (λ e. own_answered answers d a)

abbrev pub open_count : Answers → List ℕ → ℕ
open_count answers = count_where (is_open answers)

pub at_most : (b c : Bool) → (c ≡ false → b ≡ false) → cond b 1 0 ≤ cond c 1 0
at_most true true h = omega arith
at_most true false h = absurd (true≢false (h refl))
at_most false true h = omega arith
at_most false false h = omega arith

pub fewer_or_same : (answers : Answers) (d : ℕ) (a : Answer) (ns : List ℕ) → open_count (with_one answers d a) ns ≤ open_count answers ns
fewer_or_same answers d a [] = omega arith
fewer_or_same answers d a (n ∷ ns) =
    let first : cond (is_open (with_one answers d a) n) 1 0 ≤ cond (is_open answers n) 1 0 = at_most _ _ (one_more answers d a n) in
    let rest : open_count (with_one answers d a) ns ≤ open_count answers ns = fewer_or_same answers d a ns in
    omega (arith, first, rest)

-- an answer to a number without one leaves fewer
pub fewer : (answers : Answers) (d : ℕ) (a : Answer) (ns : List ℕ) → HasOpen answers d ns → open_count (with_one answers d a) ns + 1 ≤ open_count answers ns
unfolding HasOpen
fewer answers d a [] h = absurd h.0
fewer answers d a (n ∷ ns) h = go h.0 (λ i. fewer answers d a ns (i, h.1))
  where
    go : (n ≡ d) ⊎ IsIn d ns → (IsIn d ns → open_count (with_one answers d a) ns + 1 ≤ open_count answers ns) → open_count (with_one answers d a) (n ∷ ns) + 1 ≤ open_count answers (n ∷ ns)
    go (inl e) more =
        let now : cond (is_open (with_one answers d a) n) 1 0 ≡ 0 = ap (λ b. let k : ℕ = cond b 1 0 in k) (subst (λ m. is_open (with_one answers d a) m ≡ false) (sym e) (own_answered answers d a)) in
        let was : cond (is_open answers n) 1 0 ≡ 1 = ap (λ o. let k : ℕ = cond (not (is_some o)) 1 0 in k) (ap (λ m. answer_from m answers) e ∙ h.1) in
        let rest : open_count (with_one answers d a) ns ≤ open_count answers ns = fewer_or_same answers d a ns in
        omega (arith, now, was, rest)
    go (inr i) more =
        let first : cond (is_open (with_one answers d a) n) 1 0 ≤ cond (is_open answers n) 1 0 = at_most _ _ (one_more answers d a n) in
        let rest : open_count (with_one answers d a) ns + 1 ≤ open_count answers ns = more i in
        omega (arith, first, rest)

-- ---- a chain asks a database that has no answer

pub asked_db : Walk → Option ℕ
asked_db (Asking db kind name checked) = Some db
asked_db (Ended kind p) = None
asked_db (Jumped p) = None

pub asked_move : Move → Option ℕ
asked_move (GoOn p) = None
asked_move (Stop (Asking db kind name checked)) = Some db
asked_move (Stop (Ended kind p)) = None
asked_move (Stop (Jumped p)) = None

pub going_quiet : (b : Bool) (p : Progress) → asked_move (going_on b p) ≡ None
unfolding asked_move
going_quiet true p = refl
going_quiet false p = refl

pub rule_quiet : (rule : Rule) (succeeded jumps : Bool) (p : Progress) → asked_move (by_rule rule succeeded jumps p) ≡ None
unfolding asked_move
rule_quiet ReturnOk succeeded jumps p = refl
rule_quiet ReturnFail succeeded jumps p = refl
rule_quiet Return succeeded jumps p = refl
rule_quiet ContinueOk succeeded jumps p = going_quiet (succeeded && jumps) _
rule_quiet ContinueFail succeeded jumps p = going_quiet (succeeded && jumps) _
rule_quiet Continue succeeded jumps p = going_quiet (succeeded && jumps) _

pub Finds : Passdb → Option Answer → ℕ → Type 0
Finds db o d = (db.number ≡ d) × (o ≡ None)

pub quiet_finds : (P : Type 0) (d : ℕ) (o : Option ℕ) → o ≡ None → o ≡ Some d → P
quiet_finds P d o e f = absurd (none-some d (sym e ∙ f))

pub deny_finds : (db : Passdb) (name : Bytes) (p : Progress) (o : Option Answer) (d : ℕ) → asked_move (deny_move db name p o) ≡ Some d → Finds db o d
unfolding asked_move Finds
deny_finds db name p None d e = (same_Some _ d e, refl)
deny_finds db name p (Some Unknown) d e = absurd (none-some d e)
deny_finds db name p (Some (Internal why)) d e = absurd (none-some d e)
deny_finds db name p (Some (Found stored fields)) d e = absurd (none-some d e)
deny_finds db name p (Some (Passed fields)) d e = absurd (none-some d e)
deny_finds db name p (Some Mismatch) d e = absurd (none-some d e)

pub answer_finds : (jumps : Bool) (db : Passdb) (name : Bytes) (login : Login) (p : Progress) (o : Option Answer) (d : ℕ) → asked_move (answer_move jumps db name login p o) ≡ Some d → Finds db o d
unfolding asked_move Finds
answer_finds jumps db name login p None d e = (same_Some _ d e, refl)
answer_finds jumps db name login p (Some answer) d e =
    quiet_finds _ d (asked_move (answer_move jumps db name login p (Some answer))) (rule_quiet (rule_for db.result_success db.result_failure db.result_internalfail (outcome db login p.checked answer)) (is_success (outcome db login p.checked answer)) jumps _) e

pub move_finds : (jumps : Bool) (db : Passdb) (name : Bytes) (login : Login) (p : Progress) (o : Option Answer) (d : ℕ) → asked_move (move jumps db name login p o) ≡ Some d → Finds db o d
unfolding move asked_move
move_finds jumps db name login p o d =
    by_test (λ m. asked_move m ≡ Some d → Finds db o d) (is_passed_over db name p) (GoOn p) _ (λ t. go_on_finds) (λ t.
    by_test (λ m. asked_move m ≡ Some d → Finds db o d) db.deny (deny_move db name p o) _ (λ u. deny_finds db name p o d) (λ u.
    by_test (λ m. asked_move m ≡ Some d → Finds db o d) (is_unaskable db login p) _ _
    (λ v e. quiet_finds _ d _ (rule_quiet (rule_for db.result_success db.result_failure db.result_internalfail HasNoScheme) (is_success HasNoScheme) jumps _) e)
    (λ v. answer_finds jumps db name login p o d)))
  where
    go_on_finds : asked_move (GoOn p) ≡ Some d → Finds db o d
    go_on_finds e = absurd (none-some d e)

abbrev pub numbers : List Passdb → List ℕ
numbers dbs = map (λ (db : Passdb). db.number) dbs

pub continued_asks : (P : Type 0) (m : Move) (k : Progress → Walk) (d : ℕ) → (asked_move m ≡ Some d → P) → ((p : Progress) → asked_db (k p) ≡ Some d → P) → asked_db (continued m k) ≡ Some d → P
unfolding asked_move asked_db
continued_asks P (GoOn p) k d here later e = later p e
continued_asks P (Stop (Asking db kind name checked)) k d here later e = here e
continued_asks P (Stop (Ended kind p)) k d here later e = absurd (none-some d e)
continued_asks P (Stop (Jumped p)) k d here later e = absurd (none-some d e)

pub walk_asks : (jumps : Bool) (dbs : List Passdb) (name : Bytes) (login : Login) (answers : Answers) (p : Progress) (d : ℕ) → asked_db (walk jumps dbs name login answers p) ≡ Some d → HasOpen answers d (numbers dbs)
unfolding asked_db HasOpen Finds
walk_asks jumps [] name login answers p d e = absurd (none-some d e)
walk_asks jumps (db ∷ dbs) name login answers p d e =
    continued_asks (IsIn d (numbers (db ∷ dbs)) × (answer_from d answers ≡ None)) (move jumps db name login p (answer_from db.number answers)) (walk jumps dbs name login answers) d
    (λ f. let found : (db.number ≡ d) × (answer_from db.number answers ≡ None) = move_finds jumps db name login p (answer_from db.number answers) d f in
    (inl found.0, sym (ap (λ n. answer_from n answers) found.0) ∙ found.1))
    (λ q f. let rest : IsIn d (numbers dbs) × (answer_from d answers ≡ None) = walk_asks jumps dbs name login answers q d f in (inr rest.0, rest.1))
    e

pub part_in : (holds : Passdb → Bool) (dbs : List Passdb) (d : ℕ) → IsIn d (numbers (filter holds dbs)) → IsIn d (numbers dbs)
part_in holds [] d i = i
part_in holds (db ∷ dbs) d i = go (holds db) (part_in holds dbs d) i
  where
    go : (b : Bool) → (IsIn d (numbers (filter holds dbs)) → IsIn d (numbers dbs)) → IsIn d (numbers (cond b (db ∷ filter holds dbs) (filter holds dbs))) → (db.number ≡ d) ⊎ IsIn d (numbers dbs)
    go true rest (inl e) = inl e
    go true rest (inr j) = inr (rest j)
    go false rest j = inr (rest j)

pub part_asks : (jumps : Bool) (holds : Passdb → Bool) (dbs : List Passdb) (name : Bytes) (login : Login) (answers : Answers) (p : Progress) (d : ℕ) → asked_db (walk jumps (filter holds dbs) name login answers p) ≡ Some d → HasOpen answers d (numbers dbs)
unfolding HasOpen
part_asks jumps holds dbs name login answers p d e =
    let found : IsIn d (numbers (filter holds dbs)) × (answer_from d answers ≡ None) = walk_asks jumps (filter holds dbs) name login answers p d e in
    (part_in holds dbs d found.0, found.1)

pub asked_chain : Chain → Option ℕ
asked_chain (Ask db kind user checked) = Some db
asked_chain (Done v) = None

pub chain_asks : (login : Login) (authz : Bool) (w : Walk) → asked_chain (chain_of login authz w) ≡ asked_db w
unfolding asked_chain asked_db
chain_asks login authz (Asking db kind name checked) = refl
chain_asks login authz (Ended kind p) = refl
chain_asks login authz (Jumped p) = refl

pub masters_asks : (dbs : List Passdb) (login : Login) (answers : Answers) (w : Walk) (d : ℕ) → (asked_db w ≡ Some d → HasOpen answers d (numbers dbs)) → asked_chain (after_masters dbs login answers w) ≡ Some d → HasOpen answers d (numbers dbs)
masters_asks dbs login answers (Asking db kind name checked) d h e = h (sym (chain_asks login false (Asking db kind name checked)) ∙ e)
masters_asks dbs login answers (Ended kind p) d h e = h (sym (chain_asks login false (Ended kind p)) ∙ e)
masters_asks dbs login answers (Jumped p) d h e =
    part_asks false (λ db. not db.master) dbs login.user login answers p d (sym (chain_asks login (is_plaintext_proof login.proof) (users_part dbs login answers p)) ∙ e)

pub for_asks : (master : Option Bytes) (dbs : List Passdb) (login : Login) (answers : Answers) (d : ℕ) → asked_chain (chain_for master dbs login answers) ≡ Some d → HasOpen answers d (numbers dbs)
for_asks None dbs login answers d e = part_asks false (λ db. not db.master) dbs login.user login answers no_progress d (sym (chain_asks login false (users_part dbs login answers no_progress)) ∙ e)
for_asks (Some master) dbs login answers d e = masters_asks dbs login answers _ d (part_asks true (λ db. db.master) dbs master login answers no_progress d) e

pub login_asks : (dbs : List Passdb) (login : Login) (answers : Answers) (d : ℕ) → asked_chain (login_chain dbs login answers) ≡ Some d → HasOpen answers d (numbers dbs)
unfolding login_chain
login_asks dbs login answers d e = for_asks login.master dbs login answers d e

-- ---- so does a lookup

pub user_asked : UserChain → Option ℕ
user_asked (AskUser d) = Some d
user_asked (UserFound fields) = None
user_asked UserNotFound = None
user_asked UserFailed = None

pub user_asked_move : UserMove → Option ℕ
user_asked_move (UserGoOn p) = None
user_asked_move (UserStop (AskUser d)) = Some d
user_asked_move (UserStop (UserFound fields)) = None
user_asked_move (UserStop UserNotFound) = None
user_asked_move (UserStop UserFailed) = None

pub user_end_quiet : (p : UserProgress) → user_asked_move (UserStop (user_end p)) ≡ None
unfolding user_asked_move
user_end_quiet p = by_test (λ c. user_asked_move (UserStop c) ≡ None) p.found (UserFound p.fields) _ (λ e. refl)
    (λ e. by_test (λ c. user_asked_move (UserStop c) ≡ None) p.internal UserFailed UserNotFound (λ f. refl) (λ f. refl))

pub user_rule_quiet : (rule : Rule) (p : UserProgress) → user_asked_move (by_user_rule rule p) ≡ None
unfolding user_asked_move
user_rule_quiet ReturnOk p = refl
user_rule_quiet ReturnFail p = user_end_quiet (record p { found = false })
user_rule_quiet Return p = user_end_quiet p
user_rule_quiet ContinueOk p = refl
user_rule_quiet ContinueFail p = refl
user_rule_quiet Continue p = refl

pub UserFinds : Userdb → Option Answer → ℕ → Type 0
UserFinds db o d = (db.number ≡ d) × (o ≡ None)

pub user_answer_finds : (db : Userdb) (subject : Lookup) (p : UserProgress) (o : Option Answer) (d : ℕ) → user_asked_move (user_answer_move db subject p o) ≡ Some d → UserFinds db o d
unfolding user_asked_move UserFinds
user_answer_finds db subject p None d e = (same_Some _ d e, refl)
user_answer_finds db subject p (Some answer) d e =
    quiet_finds _ d (user_asked_move (user_answer_move db subject p (Some answer))) (user_rule_quiet (rule_for db.result_success db.result_failure db.result_internalfail (user_outcome answer)) _) e

pub prefetch_quiet : (db : Userdb) (subject : Lookup) (p : UserProgress) → user_asked_move (prefetch_move db subject p) ≡ None
prefetch_quiet db subject p = by_test (λ m. user_asked_move m ≡ None) (is_empty (userdb_part subject.passdb_fields))
    (after_user_outcome db subject.vars IsUnknown [] p) (after_user_outcome db subject.vars Succeeds (userdb_part subject.passdb_fields) p)
    (λ e. user_rule_quiet (rule_for db.result_success db.result_failure db.result_internalfail IsUnknown) (with_user_outcome db subject.vars IsUnknown [] p))
    (λ e. user_rule_quiet (rule_for db.result_success db.result_failure db.result_internalfail Succeeds) (with_user_outcome db subject.vars Succeeds (userdb_part subject.passdb_fields) p))

pub user_move_finds : (db : Userdb) (subject : Lookup) (p : UserProgress) (o : Option Answer) (d : ℕ) → user_asked_move (user_move db subject p o) ≡ Some d → UserFinds db o d
unfolding user_move user_asked_move
user_move_finds db subject p o d =
    by_test (λ m. user_asked_move m ≡ Some d → UserFinds db o d) (is_user_skipped db.skip p.found) (UserGoOn p) _ (λ t e. absurd (none-some d e)) (λ t.
    by_test (λ m. user_asked_move m ≡ Some d → UserFinds db o d) (is_prefetch db.driver) (prefetch_move db subject p) _
    (λ u e. quiet_finds _ d _ (prefetch_quiet db subject p) e)
    (λ u. user_answer_finds db subject p o d))

abbrev pub user_numbers : List Userdb → List ℕ
user_numbers dbs = map (λ (db : Userdb). db.number) dbs

pub user_continued_asks : (P : Type 0) (m : UserMove) (k : UserProgress → UserChain) (d : ℕ) → (user_asked_move m ≡ Some d → P) → ((p : UserProgress) → user_asked (k p) ≡ Some d → P) → user_asked (user_continued m k) ≡ Some d → P
unfolding user_asked_move user_asked
user_continued_asks P (UserGoOn p) k d here later e = later p e
user_continued_asks P (UserStop (AskUser n)) k d here later e = here e
user_continued_asks P (UserStop (UserFound fields)) k d here later e = absurd (none-some d e)
user_continued_asks P (UserStop UserNotFound) k d here later e = absurd (none-some d e)
user_continued_asks P (UserStop UserFailed) k d here later e = absurd (none-some d e)

pub user_ended : (p : UserProgress) → user_asked (user_end p) ≡ None
unfolding user_asked
user_ended p = by_test (λ c. user_asked c ≡ None) p.found (UserFound p.fields) _ (λ e. refl)
    (λ e. by_test (λ c. user_asked c ≡ None) p.internal UserFailed UserNotFound (λ f. refl) (λ f. refl))

pub user_walk_asks : (dbs : List Userdb) (subject : Lookup) (answers : Answers) (p : UserProgress) (d : ℕ) → user_asked (user_walk dbs subject answers p) ≡ Some d → HasOpen answers d (user_numbers dbs)
unfolding HasOpen UserFinds
user_walk_asks [] subject answers p d e = quiet_finds _ d _ (user_ended p) e
user_walk_asks (db ∷ dbs) subject answers p d e =
    user_continued_asks (IsIn d (user_numbers (db ∷ dbs)) × (answer_from d answers ≡ None)) (user_move db subject p (answer_from db.number answers)) (user_walk dbs subject answers) d
    (λ f. let found : (db.number ≡ d) × (answer_from db.number answers ≡ None) = user_move_finds db subject p (answer_from db.number answers) d f in
    (inl found.0, sym (ap (λ n. answer_from n answers) found.0) ∙ found.1))
    (λ q f. let rest : IsIn d (user_numbers dbs) × (answer_from d answers ≡ None) = user_walk_asks dbs subject answers q d f in (inr rest.0, rest.1))
    e

pub user_asks : (dbs : List Userdb) (subject : Lookup) (answers : Answers) (d : ℕ) → user_asked (user_chain dbs subject answers) ≡ Some d → HasOpen answers d (user_numbers dbs)
unfolding user_chain
user_asks dbs subject answers d e = user_walk_asks dbs subject answers _ d e

-- ---- a request asks a database of its own that has no answer

abbrev pub body_numbers : Settings → Body → List ℕ
body_numbers settings (Authenticates mechanism parameters resp texts) = numbers settings.passdb
body_numbers settings (LooksUp grant) = user_numbers settings.userdb

pub asked_stage : Stage → Option ℕ
asked_stage (Asks q) = Some q.db
asked_stage (Awaits text) = None
asked_stage (Decided d) = None

pub asked_question : (s : Stage) (q : Question) → question_in s ≡ Some q → asked_stage s ≡ Some q.db
unfolding asked_stage
asked_question (Asks p) q e = ap (λ (x : Question). Some x.db) (same_Some p q e)
asked_question (Awaits text) q e = absurd (none-some q e)
asked_question (Decided d) q e = absurd (none-some q e)

pub decided_quiet : (k : VerdictKind) (v : Verdict) (last : Option Bytes) → asked_stage (decided_by k v last) ≡ None
unfolding asked_stage
decided_quiet IsOkay v last = refl
decided_quiet IsFail v last = refl
decided_quiet IsTemp v last = refl
decided_quiet IsDisabled v last = refl
decided_quiet IsExpired v last = refl

pub proof_quiet : (v : Verdict) (s : Said) → asked_stage (after_proof v s) ≡ None
unfolding asked_stage
proof_quiet v (Challenge text) = refl
proof_quiet v (Need name authzid password) = refl
proof_quiet v (Proven true last) = decided_quiet v.kind v last
proof_quiet v (Proven false last) = refl
proof_quiet v Bad = refl

pub credentials_quiet : (m : Mech) (settings : Settings) (a : Attempt) (v : Verdict) (o : Option StoredPassword) → asked_stage (with_credentials m settings a v o) ≡ None
unfolding asked_stage
credentials_quiet m settings a v None = refl
credentials_quiet m settings a v (Some stored) = proof_quiet v (mechanism_says m settings a a.messages (Some stored))

pub verdict_quiet : (k : VerdictKind) (m : Mech) (settings : Settings) (a : Attempt) (v : Verdict) → asked_stage (after_verdict k m settings a v) ≡ None
verdict_quiet k m settings a v = go (has_success k && has_proof m)
  where
    go : (b : Bool) → asked_stage (if b then with_credentials m settings a v v.credentials else decided_by k v None) ≡ None
    go true = credentials_quiet m settings a v v.credentials
    go false = decided_quiet k v None

pub after_chain_asks : (m : Mech) (settings : Settings) (a : Attempt) (c : Chain) → asked_stage (after_chain m settings a c) ≡ asked_chain c
unfolding asked_stage asked_chain
after_chain_asks m settings a (Ask db kind user checked) = refl
after_chain_asks m settings a (Done v) = verdict_quiet v.kind m settings a v

-- before the databases nothing is asked
pub NoAsk : Opening → Type 0
NoAsk (Immediate s) = asked_stage s ≡ None
NoAsk (LogsIn m login) = Unit {0}

pub named_no : (m : Mech) (a : Attempt) (password : Option Bytes) (n : Option (Bytes × Option Bytes)) → NoAsk (opening_named m a password n)
unfolding NoAsk asked_stage
named_no m a password None = refl
named_no m a password (Some n) = tt

pub said_no : (m : Mech) (settings : Settings) (a : Attempt) (s : Said) → NoAsk (opening_said m settings a s)
unfolding NoAsk asked_stage
said_no m settings a (Challenge text) = refl
said_no m settings a (Need name authzid password) = named_no m a password (names settings name authzid)
said_no m settings a (Proven right last) = refl
said_no m settings a Bad = refl

pub by_no : (o : Option Mech) (settings : Settings) (a : Attempt) → NoAsk (opening_by o settings a)
unfolding NoAsk asked_stage
by_no None settings a = refl
by_no (Some m) settings a = said_no m settings a (mechanism_says m settings a a.messages None)

pub from_asks : (settings : Settings) (a : Attempt) (o : Opening) (d : ℕ) → NoAsk o → asked_stage (stage_from settings a o) ≡ Some d → HasOpen a.answers d (numbers settings.passdb)
unfolding NoAsk
from_asks settings a (Immediate s) d n e = quiet_finds _ d _ n e
from_asks settings a (LogsIn m login) d n e = login_asks settings.passdb login a.answers d (sym (after_chain_asks m settings a (login_chain settings.passdb login a.answers)) ∙ e)

pub attempt_asks : (settings : Settings) (a : Attempt) (d : ℕ) → asked_stage (attempt_stage settings a) ≡ Some d → HasOpen a.answers d (numbers settings.passdb)
unfolding attempt_stage opening
attempt_asks settings a d e = from_asks settings a (opening settings a) d (by_no a.mech settings a) e

pub lookup_asks : (subject : Lookup) (c : UserChain) → asked_stage (lookup_stage subject c) ≡ user_asked c
unfolding asked_stage user_asked
lookup_asks subject (AskUser d) = refl
lookup_asks subject (UserFound fields) = refl
lookup_asks subject UserNotFound = refl
lookup_asks subject UserFailed = refl

pub body_asks : (settings : Settings) (r : Request) (b : Body) (d : ℕ) → asked_stage (body_stage settings r b) ≡ Some d → HasOpen r.answers d (body_numbers settings b)
unfolding asked_stage
body_asks settings r (Authenticates mechanism parameters resp texts) d e = attempt_asks settings (attempt_by (mechanism_named mechanism settings.mechanisms) r parameters resp texts) d e
body_asks settings r (LooksUp None) d e = absurd (none-some d e)
body_asks settings r (LooksUp (Some grant)) d e =
    user_asks settings.userdb grant.lookup r.answers d (sym (lookup_asks grant.lookup (user_chain settings.userdb grant.lookup r.answers)) ∙ e)

pub request_asks : (settings : Settings) (r : Request) (q : Question) → question_in (request_stage settings r) ≡ Some q → HasOpen r.answers q.db (body_numbers settings r.body)
unfolding request_stage
request_asks settings r q e = body_asks settings r r.body q.db (asked_question (body_stage settings r r.body) q e)
