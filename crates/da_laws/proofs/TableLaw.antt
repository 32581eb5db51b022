-- The code of a failure is that of the first line of the table that applies.
use Rattle.std.proofs.Common.{◌≡◌, ◌⊎◌, inl, inr, refl, sym, ◌∙◌, ap, ap₂, subst, Option, Some, None, List, [], ◌∷◌, Bool, true, false, if◌then◌else◌, ◌&&◌, true≢false}
use Rattle.std.proofs.lemmas.Option.{none-some, same_Some}
use Rattle.std.specs.Prelude.{option_and_then}
use Rattle.da_base.specs.Words.{Bytes}
use Rattle.da_fields.specs.Answers.{Answers}
use Rattle.da_fields.specs.declared.said.Said.{Said}
use Rattle.da_fields.specs.declared.said.Said.TheVariants.{Challenge, Need, Proof as Proves, Bad}
use Rattle.da_laws.proofs.StageLaw.{stage_is_attempt's}
use Rattle.da_laws.proofs.SuccessLaw.{success_has_its_answer}
use Rattle.da_laws.specs.SuccessLaws.{HasSuccess}
use Rattle.da_laws.specs.CodeLaws.{Applies, CodesAreOfTheTable, EndsWith, ExpiredHasItsAnswer, IsBadWithStored, IsFirst, IsToldExpired, MakesNoLogin, SaysWith, is_message, table}
use Rattle.da_msgs.specs.declared.code.Code.{Code}
use Rattle.da_msgs.specs.declared.code.Code.TheVariants.{Temp, Disabled, Expired, Timeout, Protocol}
use Rattle.da_msgs.specs.declared.kinds.Mech.{Mech}
use Rattle.da_passdb.specs.LoginChain.{login_chain}
use Rattle.da_passdb.specs.declared.chain.Chain.{Chain}
use Rattle.da_passdb.specs.declared.chain.Chain.TheVariants.{Ask, Done}
use Rattle.da_passdb.specs.declared.chain.Verdict.{Verdict}
use Rattle.da_passdb.specs.declared.chain.VerdictKind.{VerdictKind}
use Rattle.da_passdb.specs.declared.chain.VerdictKind.TheVariants.{Ok as IsOkay, Fail as IsFail, Temp as IsTemp, Disabled as IsDisabled, Expired as IsExpired}
use Rattle.da_passdb.specs.declared.login.Login.{Login}
use Rattle.da_request.specs.Attempts.{Attempt, after_chain, after_proof, after_verdict, attempt_stage, decided_by, failed, failure, has_proof, has_success, login_in, mechanism_says, names, opening, opening_by, opening_named, opening_said, stage_from, with_credentials}
use Rattle.da_request.specs.Requests.{attempt_in, attempt_of, body_stage, decision, decision_in, login_of, lookup_stage, request_stage, timed_failure}
use Rattle.da_request.specs.declared.openings.Opening.{Opening}
use Rattle.da_request.specs.declared.openings.Opening.TheVariants.{Immediate, LogsIn}
use Rattle.da_request.specs.declared.request.Body.{Body}
use Rattle.da_request.specs.declared.request.Body.TheVariants.{Authenticates, LooksUp}
use Rattle.da_request.specs.declared.request.Request.{Request}
use Rattle.da_request.specs.declared.stages.Decision.{Decision}
use Rattle.da_request.specs.declared.stages.Decision.TheVariants.{Failure}
use Rattle.da_request.specs.declared.stages.Stage.{Stage}
use Rattle.da_request.specs.declared.stages.Stage.TheVariants.{Asks, Awaits, Decided}
use Rattle.da_schemes.specs.Stored.{StoredPassword}
use Rattle.da_settings.specs.declared.settings.Settings.{Settings}
use Rattle.da_userdb.specs.UserChain.{user_chain}
use Rattle.da_userdb.specs.declared.database.Lookup.{Lookup}
use Rattle.da_userdb.specs.declared.database.UserChain.{UserChain}
use Rattle.da_userdb.specs.declared.database.UserChain.TheVariants.{Ask as AskUser, Found as UserFound, NotFound as UserNotFound, Temp as UserFailed}

no : false ≡ true → ⊥
no e = true≢false (sym e)

abbrev FirstOf : Settings → Request → Bool → Bool → Bool → Code → Type 0
FirstOf settings r authz temp disabled code = IsFirst (Applies settings r authz temp disabled) table code

-- a stage that fails has the code of the first line
OnFailure : Settings → Request → Stage → Type 0
OnFailure settings r (Decided (Failure user authz temp disabled code reason)) = FirstOf settings r authz temp disabled code
OnFailure settings r _ = Unit {0}

-- ---- each line, where none before it applies

module _ (settings : Settings) (r : Request) where
  temp_first : (authz disabled : Bool) → FirstOf settings r authz true disabled Temp
  temp_first authz disabled = inl (refl, refl)

  disabled_first : (authz : Bool) → FirstOf settings r authz false true Disabled
  disabled_first authz = inr (no, inl (refl, refl))

  expired_first : (authz : Bool) → IsToldExpired settings r → FirstOf settings r authz false false Expired
  expired_first authz told = inr (no, inr (no, inl (refl, told)))

  timeout_first : r.is_timed_out ≡ true → FirstOf settings r false false false Timeout
  timeout_first over = inr (no, inr (no, inr ((λ told. true≢false (sym over ∙ told.is_in_time)), inl (refl, over))))

  module _ (in_time : r.is_timed_out ≡ false) (not_expired : IsToldExpired settings r → ⊥) where
    not_over : r.is_timed_out ≡ true → ⊥
    not_over over = true≢false (sym over ∙ in_time)

    protocol_first : (authz : Bool) → MakesNoLogin settings r ⊎ IsBadWithStored settings r → FirstOf settings r authz false false Protocol
    protocol_first authz off = inr (no, inr (no, inr (not_expired, inr (not_over, inl (refl, off)))))

    -- a failure that tells of nothing but a wrong login
    plain_first : (MakesNoLogin settings r ⊎ IsBadWithStored settings r → ⊥) → (v : Verdict) (authz : Bool) →
        OnFailure settings r (failure (record v { kind = IsFail; authz = authz }))
    unfolding OnFailure
    plain_first on v true = inr (no, inr (no, inr (not_expired, inr (not_over, inr (on, inl (refl, refl))))))
    plain_first on v false = inr (no, inr (no, inr (not_expired, inr (not_over, inr (on, inr (no, inl (refl, tt)))))))

-- ---- a login whose chain has ended

logs_in : Opening → Bool
logs_in (Immediate s) = false
logs_in (LogsIn mech login) = true

mech_in : Mech → Opening → Mech
mech_in mech (Immediate s) = mech
mech_in mech (LogsIn other login) = other

verdict_in : Verdict → Chain → Verdict
verdict_in v (Ask db kind user checked) = v
verdict_in v (Done w) = w

is_right : Said → Bool
is_right (Proves true last) = true
is_right _ = false

is_expired_kind : VerdictKind → Bool
is_expired_kind IsExpired = true
is_expired_kind _ = false

same_attempt : (settings : Settings) (r : Request) (a b : Attempt) → attempt_of settings r ≡ Some a → attempt_of settings r ≡ Some b → b ≡ a
same_attempt settings r a b at other = same_Some b a (sym other ∙ at)

module _ (settings : Settings) (r : Request) (in_time : r.is_timed_out ≡ false) (a : Attempt) (at : attempt_of settings r ≡ Some a)
    (mech : Mech) (login : Login) (opens : opening settings a ≡ LogsIn mech login) (v : Verdict) (ends : login_chain settings.passdb login a.answers ≡ Done v) where
  ended : EndsWith settings r mech v
  ended = record { attempt = a; attempts = at; login = login; opens = opens; ends = ends }

  says : (stored : StoredPassword) (said : Said) → v.credentials ≡ Some stored → mechanism_says mech settings a a.messages (Some stored) ≡ said → SaysWith settings r mech v said
  says stored said is told = record { attempt = a; attempts = at; stored = stored; is_stored = is; says = told }

  -- it has ended with one verdict alone
  same_end : (m : Mech) (w : Verdict) → EndsWith settings r m w → (m ≡ mech) × (w ≡ v)
  unfolding mech_in verdict_in
  same_end m w x =
      let here : x.attempt ≡ a = same_attempt settings r a x.attempt at x.attempts in
      let both : LogsIn m x.login ≡ LogsIn mech login = sym x.opens ∙ ap (opening settings) here ∙ opens in
      let login_is : x.login ≡ login = same_Some x.login login (ap login_in both) in
      let done : Done w ≡ Done v = sym x.ends ∙ ap₂ (λ (l : Login) (b : Attempt). login_chain settings.passdb l b.answers) login_is here ∙ ends in
      (ap (mech_in mech) both, ap (verdict_in v) done)

  same_says : (m : Mech) (w : Verdict) (said : Said) → m ≡ mech → w ≡ v → SaysWith settings r m w said →
      (stored : StoredPassword) × (v.credentials ≡ Some stored) × (mechanism_says mech settings a a.messages (Some stored) ≡ said)
  same_says m w said m_is w_is x =
      let here : x.attempt ≡ a = same_attempt settings r a x.attempt at x.attempts in (
        x.stored,
        ap (λ (u : Verdict). u.credentials) (sym w_is) ∙ x.is_stored,
        ap₂ (λ (n : Mech) (b : Attempt). mechanism_says n settings b b.messages (Some x.stored)) (sym m_is) (sym here) ∙ x.says,
      )

  told_kind : IsToldExpired settings r → v.kind ≡ IsExpired
  told_kind x = ap (λ (u : Verdict). u.kind) (sym (same_end x.mech x.verdict x.ends).1) ∙ x.is_expired

  told_proof : IsToldExpired settings r → has_proof mech ≡ true →
      (last : Option Bytes) × (stored : StoredPassword) × (v.credentials ≡ Some stored) × (mechanism_says mech settings a a.messages (Some stored) ≡ Proves true last)
  told_proof x h =
      let same : (x.mech ≡ mech) × (x.verdict ≡ v) = same_end x.mech x.verdict x.ends in
      let proven : (last : Option Bytes) × SaysWith settings r x.mech x.verdict (Proves true last) = x.is_proven (ap has_proof same.0 ∙ h) in
      let read : (stored : StoredPassword) × (v.credentials ≡ Some stored) × (mechanism_says mech settings a a.messages (Some stored) ≡ Proves true proven.0) =
      same_says x.mech x.verdict (Proves true proven.0) same.0 same.1 proven.1 in
      (proven.0, read.0, read.1, read.2)

  bad_proof : IsBadWithStored settings r →
      (has_success v.kind ≡ true) × (has_proof mech ≡ true) × (said : Said) × (is_message said ≡ false) × (stored : StoredPassword) × (v.credentials ≡ Some stored)
      × (mechanism_says mech settings a a.messages (Some stored) ≡ said)
  bad_proof x =
      let same : (x.mech ≡ mech) × (x.verdict ≡ v) = same_end x.mech x.verdict x.ends in
      let read : (stored : StoredPassword) × (v.credentials ≡ Some stored) × (mechanism_says mech settings a a.messages (Some stored) ≡ x.said) =
      same_says x.mech x.verdict x.said same.0 same.1 x.says in (
        ap (λ (u : Verdict). has_success u.kind) (sym same.1) ∙ x.is_success,
        ap has_proof (sym same.0) ∙ x.is_by_proof,
        x.said,
        x.is_bad,
        read.0,
        read.1,
        read.2,
      )

  makes_login : MakesNoLogin settings r → ⊥
  unfolding logs_in
  makes_login (b, s, other, immediate) =
      true≢false (sym (ap logs_in opens) ∙ ap (λ c. logs_in (opening settings c)) (sym (same_attempt settings r a b at other)) ∙ ap logs_in immediate)

  on_protocol : (IsBadWithStored settings r → ⊥) → MakesNoLogin settings r ⊎ IsBadWithStored settings r → ⊥
  on_protocol h (inl x) = makes_login x
  on_protocol h (inr x) = h x

  -- ---- decided by the verdict

  -- a failure of this kind, where the verdict is told as it is
  by_kind : (k : VerdictKind) → v.kind ≡ k → (k ≡ IsExpired → IsToldExpired settings r) → (k ≡ IsFail → IsBadWithStored settings r → ⊥) → (last : Option Bytes) →
      OnFailure settings r (decided_by k v last)
  unfolding OnFailure is_expired_kind
  by_kind IsOkay is told good last = tt
  by_kind IsFail is told good last =
      subst (λ (k : VerdictKind). OnFailure settings r (failure (record v { kind = k }))) (sym is)
      (plain_first settings r in_time (λ x. true≢false (sym (ap is_expired_kind (told_kind x)) ∙ ap is_expired_kind is)) (on_protocol (good refl)) v v.authz)
  by_kind IsTemp is told good last =
      subst (λ (k : VerdictKind). OnFailure settings r (failure (record v { kind = k }))) (sym is) (temp_first settings r v.authz false)
  by_kind IsDisabled is told good last =
      subst (λ (k : VerdictKind). OnFailure settings r (failure (record v { kind = k }))) (sym is) (disabled_first settings r v.authz)
  by_kind IsExpired is told good last =
      subst (λ (k : VerdictKind). OnFailure settings r (failure (record v { kind = k }))) (sym is) (expired_first settings r v.authz (told refl))

  -- no proof is read: the verdict isn't a success, or the mechanism has none
  unread : (has_success v.kind && has_proof mech) ≡ false → OnFailure settings r (decided_by v.kind v None)
  unread g = by_kind v.kind refl (λ expired. record { mech = mech; verdict = v; ends = ended; is_expired = expired; is_in_time = in_time; is_proven = λ h. absurd (both expired h) }) (λ failed x. bad failed x) None
    where
      both : v.kind ≡ IsExpired → has_proof mech ≡ true → ⊥
      both expired h = true≢false (sym (ap₂ (λ (p q : Bool). p && q) (ap has_success expired) h) ∙ g)

      bad : v.kind ≡ IsFail → IsBadWithStored settings r → ⊥
      bad failed x = true≢false (sym (bad_proof x).0 ∙ ap has_success failed)

  -- ---- decided by a proof

  module _ (success : has_success v.kind ≡ true) (by_proof : has_proof mech ≡ true) where
    without : v.credentials ≡ None → OnFailure settings r (with_credentials mech settings a v None)
    unfolding OnFailure
    without none =
        plain_first settings r in_time
        (λ x. (let p = told_proof x by_proof in none-some p.1 (sym none ∙ p.2)))
        (on_protocol (λ x. (let p = bad_proof x in none-some p.4 (sym none ∙ p.5)))) v v.authz

    module _ (stored : StoredPassword) (here : v.credentials ≡ Some stored) where
      same_said : (other : StoredPassword) (said : Said) → v.credentials ≡ Some other → mechanism_says mech settings a a.messages (Some other) ≡ said → mechanism_says mech settings a a.messages (Some stored) ≡ said
      same_said other said is told =
          ap (λ (s : StoredPassword). mechanism_says mech settings a a.messages (Some s)) (same_Some stored other (sym here ∙ is)) ∙ told

      not_right : (said : Said) → mechanism_says mech settings a a.messages (Some stored) ≡ said → is_right said ≡ false → IsToldExpired settings r → ⊥
      unfolding is_right
      not_right said told wrong x =
          let p = told_proof x by_proof in
          true≢false (sym (ap is_right (same_said p.1 (Proves true p.0) p.2 p.3)) ∙ ap is_right told ∙ wrong)

      not_bad : (said : Said) → mechanism_says mech settings a a.messages (Some stored) ≡ said → is_message said ≡ true → IsBadWithStored settings r → ⊥
      not_bad said told good x =
          let p = bad_proof x in
          true≢false (sym good ∙ sym (ap is_message told) ∙ ap is_message (same_said p.4 p.2 p.5 p.6) ∙ p.3)

      off : (said : Said) → mechanism_says mech settings a a.messages (Some stored) ≡ said → is_message said ≡ false → IsBadWithStored settings r
      off said told bad = record { mech = mech; verdict = v; ends = ended; is_success = success; is_by_proof = by_proof; said = said; says = says stored said here told; is_bad = bad }

      proven : (said : Said) → mechanism_says mech settings a a.messages (Some stored) ≡ said → OnFailure settings r (after_proof v said)
      unfolding OnFailure is_right
      proven (Challenge text) told = tt
      proven (Need name authzid password) told =
          protocol_first settings r in_time (not_right (Need name authzid password) told refl) v.authz (inr (off (Need name authzid password) told refl))
      proven (Proves true last) told =
          by_kind v.kind refl
          (λ expired. record { mech = mech; verdict = v; ends = ended; is_expired = expired; is_in_time = in_time; is_proven = λ h. (last, says stored (Proves true last) here told) })
          (λ failed x. true≢false (sym success ∙ ap has_success failed)) last
      proven (Proves false last) told =
          plain_first settings r in_time (not_right (Proves false last) told refl) (on_protocol (not_bad (Proves false last) told refl)) v v.authz
      proven Bad told = protocol_first settings r in_time (not_right Bad told refl) v.authz (inr (off Bad told refl))

    read : (o : Option StoredPassword) → v.credentials ≡ o → OnFailure settings r (with_credentials mech settings a v o)
    read None is = without is
    read (Some stored) is = proven stored is (mechanism_says mech settings a a.messages (Some stored)) refl

  both_true : (p q : Bool) → (p && q) ≡ true → (p ≡ true) × (q ≡ true)
  both_true true q e = (refl, e)
  both_true false q e = absurd (true≢false (sym e))

  verdict_first : OnFailure settings r (after_verdict v.kind mech settings a v)
  verdict_first = go (has_success v.kind && has_proof mech) refl
    where
      go : (b : Bool) → (has_success v.kind && has_proof mech) ≡ b → OnFailure settings r (if b then with_credentials mech settings a v v.credentials else decided_by v.kind v None)
      go true g = (let both = both_true (has_success v.kind) (has_proof mech) g in read both.0 both.1 v.credentials refl)
      go false g = unread g

-- ---- an attempt

module _ (settings : Settings) (r : Request) (in_time : r.is_timed_out ≡ false) (a : Attempt) (at : attempt_of settings r ≡ Some a) where
  -- what was said makes no login, and so no other line before that applies
  no_login : (s : Stage) → opening settings a ≡ Immediate s → FirstOf settings r false false false Protocol
  unfolding logs_in
  no_login s immediate =
      protocol_first settings r in_time
      (λ x. true≢false (sym (ap logs_in x.ends.opens) ∙ ap (λ c. logs_in (opening settings c)) (same_attempt settings r a x.ends.attempt at x.ends.attempts) ∙ ap logs_in immediate))
      false (inl (a, s, at, immediate))

  OnOpening : Opening → Type 0
  OnOpening (Immediate s) = opening settings a ≡ Immediate s → OnFailure settings r s
  OnOpening (LogsIn mech login) = Unit {0}

  named_first : (mech : Mech) (password : Option Bytes) (n : Option (Bytes × Option Bytes)) → OnOpening (opening_named mech a password n)
  unfolding OnOpening OnFailure
  named_first mech password None = λ is. no_login _ is
  named_first mech password (Some n) = tt

  said_first : (mech : Mech) (s : Said) → OnOpening (opening_said mech settings a s)
  unfolding OnOpening OnFailure
  said_first mech (Challenge text) = λ is. tt
  said_first mech (Need name authzid password) = named_first mech password (names settings name authzid)
  said_first mech (Proves right last) = λ is. no_login _ is
  said_first mech Bad = λ is. no_login _ is

  opening_first : (o : Option Mech) → OnOpening (opening_by o settings a)
  unfolding OnOpening OnFailure
  opening_first None = λ is. no_login _ is
  opening_first (Some mech) = said_first mech (mechanism_says mech settings a a.messages None)

  chain_first : (mech : Mech) (login : Login) → opening settings a ≡ LogsIn mech login → (c : Chain) → login_chain settings.passdb login a.answers ≡ c → OnFailure settings r (after_chain mech settings a c)
  unfolding OnFailure
  chain_first mech login opens (Ask db kind user checked) ends = tt
  chain_first mech login opens (Done v) ends = verdict_first settings r in_time a at mech login opens v ends

  from_first : (o : Opening) → opening settings a ≡ o → OnOpening o → OnFailure settings r (stage_from settings a o)
  unfolding OnOpening
  from_first (Immediate s) is h = h is
  from_first (LogsIn mech login) is h = chain_first mech login is (login_chain settings.passdb login a.answers) refl

  attempt_first : OnFailure settings r (attempt_stage settings a)
  unfolding attempt_stage opening
  attempt_first = from_first (opening_by a.mech settings a) refl (opening_first a.mech)

-- ---- a request

lookup_first : (settings : Settings) (r : Request) (subject : Lookup) (c : UserChain) → OnFailure settings r (lookup_stage subject c)
unfolding OnFailure
lookup_first settings r subject (AskUser db) = tt
lookup_first settings r subject (UserFound fields) = tt
lookup_first settings r subject UserNotFound = tt
lookup_first settings r subject UserFailed = tt

stage_first : (settings : Settings) (r : Request) → r.is_timed_out ≡ false → (b : Body) → r.body ≡ b → OnFailure settings r (request_stage settings r)
unfolding request_stage OnFailure
stage_first settings r in_time (Authenticates mech params resp texts) is = go _ (ap (attempt_in settings r) is)
  where
    go : (a : Attempt) → attempt_of settings r ≡ Some a → OnFailure settings r (body_stage settings r r.body)
    go a at = subst (λ (s : Stage). OnFailure settings r s) (sym (stage_is_attempt's settings r a at)) (attempt_first settings r in_time a at)
stage_first settings r in_time (LooksUp None) is = subst (λ (b : Body). OnFailure settings r (body_stage settings r b)) (sym is) tt
stage_first settings r in_time (LooksUp (Some grant)) is =
    subst (λ (b : Body). OnFailure settings r (body_stage settings r b)) (sym is) (lookup_first settings r grant.lookup (user_chain settings.userdb grant.lookup r.answers))

-- a decision of a stage
decision_first : (settings : Settings) (r : Request) (s : Stage) (user : Option Bytes) (authz temp disabled : Bool) (code : Code) (reason : Option Bytes) →
    OnFailure settings r s → decision_in s ≡ Some (Failure user authz temp disabled code reason) → FirstOf settings r authz temp disabled code
unfolding OnFailure
decision_first settings r (Awaits text) user authz temp disabled code reason h e = absurd (none-some _ e)
decision_first settings r (Asks q) user authz temp disabled code reason h e = absurd (none-some _ e)
decision_first settings r (Decided d) user authz temp disabled code reason h e = subst (λ (x : Decision). OnFailure settings r (Decided x)) (same_Some d _ e) h

pub codes_are_of_the_table : CodesAreOfTheTable
unfolding decision OnFailure
codes_are_of_the_table settings r user authz temp disabled code reason e = go r.is_timed_out refl e
  where
    go : (b : Bool) → r.is_timed_out ≡ b → (if b then Some (timed_failure settings r) else decision_in (request_stage settings r)) ≡ Some (Failure user authz temp disabled code reason) →
        FirstOf settings r authz temp disabled code
    go true over d = subst (λ (x : Decision). OnFailure settings r (Decided x)) (same_Some (timed_failure settings r) _ d) (timeout_first settings r over)
    go false in_time d = decision_first settings r (request_stage settings r) user authz temp disabled code reason (stage_first settings r in_time r.body refl) d

-- ---- who is told that a password is expired

first_applies : (applies : Code → Type 0) (cs : List Code) (code : Code) → IsFirst applies cs code → applies code
first_applies applies [] code h = absurd h
first_applies applies (c ∷ cs) code (inl (is, x)) = subst applies is x
first_applies applies (c ∷ cs) code (inr (none, rest)) = first_applies applies cs code rest

own_answers : (settings : Settings) (r : Request) (b : Body) (a : Attempt) → attempt_in settings r b ≡ Some a → a.answers ≡ r.answers
own_answers settings r (Authenticates mech params resp texts) a e = ap (λ (x : Attempt). x.answers) (sym (same_Some _ a e))
own_answers settings r (LooksUp grant) a e = absurd (none-some _ e)

pub expired_has_its_answer : ExpiredHasItsAnswer
unfolding login_of
expired_has_its_answer settings r user authz temp disabled reason strict e =
    let told : IsToldExpired settings r =
    first_applies (Applies settings r authz temp disabled) table Expired (codes_are_of_the_table settings r user authz temp disabled Expired reason e) in
    let ends : EndsWith settings r told.mech told.verdict = told.ends in (
      ends.login,
      ap (option_and_then (λ a. login_in (opening settings a))) ends.attempts ∙ ap login_in ends.opens,
      subst (λ (answers : Answers). HasSuccess settings.passdb ends.login answers) (own_answers settings r r.body ends.attempt ends.attempts)
          (success_has_its_answer settings.passdb ends.login ends.attempt.answers told.verdict strict ends.ends (ap has_success told.is_expired)),
      told,
    )
