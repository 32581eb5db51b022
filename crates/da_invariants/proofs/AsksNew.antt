-- What a request asks is a database that it has no answer of.
use Rattle.std.proofs.Common.{◌≡◌, refl, subst, Option, Some, None, List, [], ◌∷◌, Bool, true, false, ◌&&◌, if◌then◌else◌}
use Rattle.std.proofs.lemmas.Option.{none-some, same_Some}
use Rattle.da_tables.proofs.Cases.{by_test}
use Rattle.da_base.specs.Words.{Bytes, is_empty}
use Rattle.da_fields.specs.FieldList.{userdb_part}
use Rattle.da_fields.specs.Answers.{Answers, answer_from, is_success, rule_for}
use Rattle.da_fields.specs.declared.answer.Answer.{Answer}
use Rattle.da_fields.specs.declared.answer.Answer.TheVariants.{Found, Passed, Mismatch as Mismatched, Unknown as NotKnown, Internal as Failed}
use Rattle.da_fields.specs.declared.outcome.Outcome.{Outcome}
use Rattle.da_fields.specs.declared.outcome.Outcome.TheVariants.{Unknown, NoScheme, Success}
use Rattle.da_fields.specs.declared.outcome.Rule.{Rule}
use Rattle.da_fields.specs.declared.outcome.Rule.TheVariants.{ReturnOk, ReturnFail, Return, ContinueOk, ContinueFail, Continue}
use Rattle.da_fields.specs.declared.said.Said.{Said}
use Rattle.da_fields.specs.declared.said.Said.TheVariants.{Challenge, Need, Proof as Proves, Bad}
use Rattle.da_names.specs.declared.variables.Vars.{Vars}
use Rattle.da_schemes.specs.Stored.{StoredPassword}
use Rattle.da_msgs.specs.declared.kinds.Mech.{Mech}
use Rattle.da_passdb.specs.LoginChain.{Walk, Move, Asking, Ended, Jumped, GoOn, Stop, move, by_rule, going_on, after_outcome, with_outcome, deny_move, answer_move, is_passed_over, is_unaskable, walk, continued, chain_of, chain_for, after_masters, login_chain, users_part, master_databases, user_databases, no_progress}
use Rattle.da_passdb.specs.declared.progress.Progress.{Progress}
use Rattle.da_passdb.specs.Outcomes.{outcome, is_plaintext_proof}
use Rattle.da_passdb.specs.declared.chain.Chain.{Chain}
use Rattle.da_passdb.specs.declared.chain.Chain.TheVariants.{Ask, Done}
use Rattle.da_passdb.specs.declared.chain.Verdict.{Verdict}
use Rattle.da_passdb.specs.declared.chain.VerdictKind.{VerdictKind}
use Rattle.da_passdb.specs.declared.chain.VerdictKind.TheVariants.{Ok as IsOkay, Fail as IsFail, Temp as IsTemp, Disabled as IsDisabled, Expired as IsExpired}
use Rattle.da_passdb.specs.declared.database.Passdb.{Passdb}
use Rattle.da_passdb.specs.declared.login.Login.{Login}
use Rattle.da_userdb.specs.UserChain.{UserMove, UserGoOn, UserStop, user_end, user_move, prefetch_move, user_answer_move, after_user_outcome, by_user_rule, with_user_outcome, user_outcome, is_user_skipped, is_prefetch, user_walk, user_continued, user_chain, no_user_progress}
use Rattle.da_userdb.specs.declared.progress.UserProgress.{UserProgress}
use Rattle.da_userdb.specs.declared.database.Lookup.{Lookup}
use Rattle.da_userdb.specs.declared.database.UserChain.{UserChain}
use Rattle.da_userdb.specs.declared.database.UserChain.TheVariants.{Ask as AskUser, Found as UserFound, NotFound as UserNotFound, Temp as UserFailed}
use Rattle.da_userdb.specs.declared.database.Userdb.{Userdb}
use Rattle.da_request.specs.Attempts.{Attempt, opening, opening_by, opening_said, opening_named, mechanism_says, names, attempt_stage, stage_from, after_chain, after_verdict, with_credentials, after_proof, decided_by, has_proof, has_success}
use Rattle.da_request.specs.declared.openings.Opening.{Opening}
use Rattle.da_request.specs.declared.openings.Opening.TheVariants.{Immediate, LogsIn}
use Rattle.da_request.specs.Requests.{request_stage, body_stage, question_in, lookup_stage}
use Rattle.da_settings.specs.declared.settings.Settings.{Settings}
use Rattle.da_request.specs.declared.request.Body.{Body}
use Rattle.da_request.specs.declared.request.Body.TheVariants.{Authenticates, LooksUp}
use Rattle.da_request.specs.declared.stages.Question.{Question}
use Rattle.da_request.specs.declared.request.Request.{Request}
use Rattle.da_request.specs.declared.stages.Stage.{Stage}
use Rattle.da_request.specs.declared.stages.Stage.TheVariants.{Awaits, Asks, Decided}

-- ---- password databases

-- a walk that asks, asks a database without an answer
abbrev WalkIsNew : Answers → Walk → Type 0
WalkIsNew answers (Asking db kind name checked) = answer_from db answers ≡ None
WalkIsNew answers (Ended kind p) = Unit {0}
WalkIsNew answers (Jumped p) = Unit {0}

abbrev MoveIsNew : Answers → Move → Type 0
MoveIsNew answers (GoOn p) = Unit {0}
MoveIsNew answers (Stop w) = WalkIsNew answers w

module _ (answers : Answers) where
  going_on_new : (b : Bool) (p : Progress) → MoveIsNew answers (going_on b p)
  going_on_new true p = tt
  going_on_new false p = tt

  rule_new : (rule : Rule) (succeeded jumps : Bool) (p : Progress) → MoveIsNew answers (by_rule rule succeeded jumps p)
  rule_new ReturnOk succeeded jumps p = tt
  rule_new ReturnFail succeeded jumps p = tt
  rule_new Return succeeded jumps p = tt
  rule_new ContinueOk succeeded jumps p = going_on_new _ _
  rule_new ContinueFail succeeded jumps p = going_on_new _ _
  rule_new Continue succeeded jumps p = going_on_new _ _

  outcome_new : (jumps : Bool) (db : Passdb) (v : Vars) (o : Outcome) (answer : Answer) (p : Progress) → MoveIsNew answers (after_outcome jumps db v o answer p)
  outcome_new jumps db v o answer p = rule_new (rule_for db.result_success db.result_failure db.result_internalfail o) (is_success o) jumps (with_outcome db v o answer p)

  deny_new : (db : Passdb) (name : Bytes) (p : Progress) (o : Option Answer) → answer_from db.number answers ≡ o → MoveIsNew answers (deny_move db name p o)
  deny_new db name p None e = e
  deny_new db name p (Some NotKnown) e = tt
  deny_new db name p (Some (Failed why)) e = tt
  deny_new db name p (Some (Found stored fields)) e = tt
  deny_new db name p (Some (Passed fields)) e = tt
  deny_new db name p (Some Mismatched) e = tt

  answered_new : (jumps : Bool) (db : Passdb) (name : Bytes) (login : Login) (p : Progress) (o : Option Answer) → answer_from db.number answers ≡ o → MoveIsNew answers (answer_move jumps db name login p o)
  answered_new jumps db name login p None e = e
  answered_new jumps db name login p (Some answer) e = outcome_new jumps db login.vars (outcome db login p.checked answer) answer p

  move_new : (jumps : Bool) (db : Passdb) (name : Bytes) (login : Login) (p : Progress) → MoveIsNew answers (move jumps db name login p (answer_from db.number answers))
  unfolding move
  move_new jumps db name login p =
      by_test (MoveIsNew answers) (is_passed_over db name p) (GoOn p) _ (λ e. tt) (λ e.
      by_test (MoveIsNew answers) db.deny (deny_move db name p (answer_from db.number answers)) _ (λ d. deny_new db name p (answer_from db.number answers) refl) (λ d.
      by_test (MoveIsNew answers) (is_unaskable db login p) (after_outcome jumps db login.vars NoScheme Mismatched p) (answer_move jumps db name login p (answer_from db.number answers))
      (λ u. outcome_new jumps db login.vars NoScheme Mismatched p) (λ u. answered_new jumps db name login p (answer_from db.number answers) refl)))

  walk_new : (jumps : Bool) (dbs : List Passdb) (name : Bytes) (login : Login) (p : Progress) → WalkIsNew answers (walk jumps dbs name login answers p)
  walk_new jumps [] name login p = tt
  walk_new jumps (db ∷ dbs) name login p = go (move jumps db name login p (answer_from db.number answers)) (move_new jumps db name login p) (walk_new jumps dbs name login)
    where
      go : (m : Move) → MoveIsNew answers m → ((q : Progress) → WalkIsNew answers (walk jumps dbs name login answers q)) → WalkIsNew answers (continued m (walk jumps dbs name login answers))
      go (GoOn q) new rest = rest q
      go (Stop w) new rest = new

  abbrev ChainIsNew : Chain → Type 0
  ChainIsNew (Ask db kind user checked) = answer_from db answers ≡ None
  ChainIsNew (Done v) = Unit {0}

  chain_new : (login : Login) (authz : Bool) (w : Walk) → WalkIsNew answers w → ChainIsNew (chain_of login authz w)
  chain_new login authz (Asking db kind name checked) new = new
  chain_new login authz (Ended kind p) new = tt
  chain_new login authz (Jumped p) new = tt

  users_new : (dbs : List Passdb) (login : Login) (p : Progress) → WalkIsNew answers (users_part dbs login answers p)
  users_new dbs login p = walk_new false (user_databases dbs) login.user login p

  masters_new : (dbs : List Passdb) (login : Login) (w : Walk) → WalkIsNew answers w → ChainIsNew (after_masters dbs login answers w)
  masters_new dbs login (Asking db kind name checked) new = new
  masters_new dbs login (Ended kind p) new = tt
  masters_new dbs login (Jumped p) new = chain_new login (is_plaintext_proof login.proof) (users_part dbs login answers p) (users_new dbs login p)

  for_new : (dbs : List Passdb) (login : Login) (o : Option Bytes) → ChainIsNew (chain_for o dbs login answers)
  for_new dbs login None = chain_new login false (users_part dbs login answers no_progress) (users_new dbs login no_progress)
  for_new dbs login (Some master) = masters_new dbs login (walk true (master_databases dbs) master login answers no_progress) (walk_new true (master_databases dbs) master login no_progress)

  login_new : (dbs : List Passdb) (login : Login) → ChainIsNew (login_chain dbs login answers)
  unfolding login_chain
  login_new dbs login = for_new dbs login login.master

-- ---- user databases

abbrev UserIsNew : Answers → UserChain → Type 0
UserIsNew answers (AskUser db) = answer_from db answers ≡ None
UserIsNew answers _ = Unit {0}

abbrev UserMoveIsNew : Answers → UserMove → Type 0
UserMoveIsNew answers (UserGoOn p) = Unit {0}
UserMoveIsNew answers (UserStop c) = UserIsNew answers c

module _ (answers : Answers) where
  end_new : (p : UserProgress) → UserIsNew answers (user_end p)
  end_new p = by_test (UserIsNew answers) p.found (UserFound p.fields) _ (λ e. tt) (λ e. by_test (UserIsNew answers) p.internal UserFailed UserNotFound (λ d. tt) (λ d. tt))

  user_rule_new : (rule : Rule) (p : UserProgress) → UserMoveIsNew answers (by_user_rule rule p)
  user_rule_new ReturnOk p = end_new (record p { found = true })
  user_rule_new ReturnFail p = end_new (record p { found = false })
  user_rule_new Return p = end_new p
  user_rule_new ContinueOk p = tt
  user_rule_new ContinueFail p = tt
  user_rule_new Continue p = tt

  user_outcome_new : (db : Userdb) (v : Vars) (o : Outcome) (fields : List (Bytes × Bytes)) (p : UserProgress) → UserMoveIsNew answers (after_user_outcome db v o fields p)
  user_outcome_new db v o fields p = user_rule_new (rule_for db.result_success db.result_failure db.result_internalfail o) (with_user_outcome db v o fields p)

  user_answer_new : (db : Userdb) (lookup : Lookup) (p : UserProgress) (o : Option Answer) → answer_from db.number answers ≡ o → UserMoveIsNew answers (user_answer_move db lookup p o)
  user_answer_new db lookup p None e = e
  user_answer_new db lookup p (Some answer) e = user_outcome_new db lookup.vars (user_outcome answer) _ p

  prefetch_new : (db : Userdb) (lookup : Lookup) (p : UserProgress) → UserMoveIsNew answers (prefetch_move db lookup p)
  prefetch_new db lookup p = by_test (UserMoveIsNew answers) (is_empty (userdb_part lookup.passdb_fields)) (after_user_outcome db lookup.vars Unknown [] p) (after_user_outcome db lookup.vars Success (userdb_part lookup.passdb_fields) p)
      (λ e. user_outcome_new db lookup.vars Unknown [] p) (λ e. user_outcome_new db lookup.vars Success (userdb_part lookup.passdb_fields) p)

  user_move_new : (db : Userdb) (lookup : Lookup) (p : UserProgress) → UserMoveIsNew answers (user_move db lookup p (answer_from db.number answers))
  unfolding user_move
  user_move_new db lookup p =
      by_test (UserMoveIsNew answers) (is_user_skipped db.skip p.found) (UserGoOn p) _ (λ e. tt) (λ e.
      by_test (UserMoveIsNew answers) (is_prefetch db.driver) (prefetch_move db lookup p) (user_answer_move db lookup p (answer_from db.number answers))
      (λ d. prefetch_new db lookup p) (λ d. user_answer_new db lookup p (answer_from db.number answers) refl))

  user_walk_new : (dbs : List Userdb) (lookup : Lookup) (p : UserProgress) → UserIsNew answers (user_walk dbs lookup answers p)
  user_walk_new [] lookup p = end_new p
  user_walk_new (db ∷ dbs) lookup p = go (user_move db lookup p (answer_from db.number answers)) (user_move_new db lookup p) (user_walk_new dbs lookup)
    where
      go : (m : UserMove) → UserMoveIsNew answers m → ((q : UserProgress) → UserIsNew answers (user_walk dbs lookup answers q)) → UserIsNew answers (user_continued m (user_walk dbs lookup answers))
      go (UserGoOn q) new rest = rest q
      go (UserStop c) new rest = new

  user_new : (dbs : List Userdb) (lookup : Lookup) → UserIsNew answers (user_chain dbs lookup answers)
  unfolding user_chain
  user_new dbs lookup = user_walk_new dbs lookup no_user_progress

-- ---- stages

abbrev StageIsNew : Answers → Stage → Type 0
StageIsNew answers (Awaits text) = Unit {0}
StageIsNew answers (Asks q) = answer_from q.db answers ≡ None
StageIsNew answers (Decided d) = Unit {0}

abbrev OpeningIsNew : Answers → Opening → Type 0
OpeningIsNew answers (Immediate s) = StageIsNew answers s
OpeningIsNew answers (LogsIn mech login) = Unit {0}

module _ (settings : Settings) where
  said_new : (answers : Answers) (mech : Mech) (a : Attempt) (s : Said) → OpeningIsNew answers (opening_said mech settings a s)
  said_new answers mech a (Challenge text) = tt
  said_new answers mech a (Need name authzid password) = named (names settings name authzid)
    where
      named : (o : Option (Bytes × Option Bytes)) → OpeningIsNew answers (opening_named mech a password o)
      named None = tt
      named (Some n) = tt
  said_new answers mech a (Proves right last) = tt
  said_new answers mech a Bad = tt

  opening_new : (answers : Answers) (o : Option Mech) (a : Attempt) → OpeningIsNew answers (opening_by o settings a)
  opening_new answers None a = tt
  opening_new answers (Some mech) a = said_new answers mech a (mechanism_says mech settings a a.messages None)

  decided_new : (answers : Answers) (k : VerdictKind) (v : Verdict) (last : Option Bytes) → StageIsNew answers (decided_by k v last)
  decided_new answers IsOkay v last = tt
  decided_new answers IsFail v last = tt
  decided_new answers IsTemp v last = tt
  decided_new answers IsDisabled v last = tt
  decided_new answers IsExpired v last = tt

  proof_new : (answers : Answers) (v : Verdict) (s : Said) → StageIsNew answers (after_proof v s)
  proof_new answers v (Challenge text) = tt
  proof_new answers v (Need name authzid password) = tt
  proof_new answers v (Proves true last) = decided_new answers v.kind v last
  proof_new answers v (Proves false last) = tt
  proof_new answers v Bad = tt

  credentials_new : (answers : Answers) (mech : Mech) (a : Attempt) (v : Verdict) (o : Option StoredPassword) → StageIsNew answers (with_credentials mech settings a v o)
  credentials_new answers mech a v None = tt
  credentials_new answers mech a v (Some stored) = proof_new answers v (mechanism_says mech settings a a.messages (Some stored))

  verdict_new : (answers : Answers) (k : VerdictKind) (mech : Mech) (a : Attempt) (v : Verdict) → StageIsNew answers (after_verdict k mech settings a v)
  verdict_new answers k mech a v = go (has_success k && has_proof mech)
    where
      go : (b : Bool) → StageIsNew answers (if b then with_credentials mech settings a v v.credentials else decided_by k v None)
      go true = credentials_new answers mech a v v.credentials
      go false = decided_new answers k v None

  attempt_new : (a : Attempt) → StageIsNew a.answers (attempt_stage settings a)
  unfolding attempt_stage opening
  attempt_new a = go (opening_by a.mech settings a) (opening_new a.answers a.mech a)
    where
      chain : (mech : Mech) (c : Chain) → ChainIsNew a.answers c → StageIsNew a.answers (after_chain mech settings a c)
      chain mech (Ask db kind user checked) new = new
      chain mech (Done v) new = verdict_new a.answers v.kind mech a v

      go : (o : Opening) → OpeningIsNew a.answers o → StageIsNew a.answers (stage_from settings a o)
      go (Immediate s) new = new
      go (LogsIn mech login) new = chain mech (login_chain settings.passdb login a.answers) (login_new a.answers settings.passdb login)

  body_new : (r : Request) (b : Body) → StageIsNew r.answers (body_stage settings r b)
  body_new r (Authenticates mech params resp texts) = attempt_new _
  body_new r (LooksUp None) = tt
  body_new r (LooksUp (Some grant)) = go (user_chain settings.userdb grant.lookup r.answers) (user_new r.answers settings.userdb grant.lookup)
    where
      go : (c : UserChain) → UserIsNew r.answers c → StageIsNew r.answers (lookup_stage grant.lookup c)
      go (AskUser db) new = new
      go (UserFound fields) new = tt
      go UserNotFound new = tt
      go UserFailed new = tt

  -- what a request asks, it has no answer of
  pub asks_new : (r : Request) (q : Question) → question_in (request_stage settings r) ≡ Some q → answer_from q.db r.answers ≡ None
  unfolding request_stage
  asks_new r q e = go (body_stage settings r r.body) (body_new r r.body) e
    where
      go : (s : Stage) → StageIsNew r.answers s → question_in s ≡ Some q → answer_from q.db r.answers ≡ None
      go (Awaits text) new d = absurd (none-some q d)
      go (Asks p) new d = subst (λ (x : Question). answer_from x.db r.answers ≡ None) (same_Some p q d) new
      go (Decided x) new d = absurd (none-some q d)
