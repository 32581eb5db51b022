-- The stage of an attempt depends on the attempt alone, and on its answers by their databases.
use Rattle.std.proofs.Common.{◌≡◌, refl, sym, ◌∙◌, ap, Option, Some, None, List, [], ◌∷◌, ℕ, Bool, true, false, ◌&&◌, if◌then◌else◌}
use Rattle.std.proofs.lemmas.Option.{none-some, same_Some}
use Rattle.da_base.specs.Words.{Bytes}
use Rattle.da_fields.specs.Answers.{Answers, answer_from}
use Rattle.da_passdb.specs.LoginChain.{no_progress, Walk, Asking, Ended, Jumped, Move, GoOn, Stop, move, continued, walk, chain_of, user_databases, master_databases, after_masters, chain_for, login_chain}
use Rattle.da_passdb.specs.declared.progress.Progress.{Progress}
use Rattle.da_passdb.specs.Outcomes.{is_plaintext_proof}
use Rattle.da_passdb.specs.declared.chain.Chain.{Chain}
use Rattle.da_passdb.specs.declared.database.Passdb.{Passdb}
use Rattle.da_passdb.specs.declared.login.Login.{Login}
use Rattle.da_fields.specs.declared.said.Said.{Said}
use Rattle.da_fields.specs.declared.said.Said.TheVariants.{Challenge, Need, Proof as Proves, Bad}
use Rattle.da_msgs.specs.declared.kinds.Mech.{Mech}
use Rattle.da_msgs.specs.declared.kinds.Mech.TheVariants.{Plain, Login as LoginMech, CramMd5, ScramSha256}
use Rattle.da_fields.specs.FieldList.{Pairs}
use Rattle.da_schemes.specs.Stored.{StoredPassword}
use Rattle.da_passdb.specs.declared.chain.Chain.TheVariants.{Ask, Done}
use Rattle.da_passdb.specs.declared.chain.Verdict.{Verdict}
use Rattle.da_passdb.specs.declared.chain.VerdictKind.{VerdictKind}
use Rattle.da_request.specs.Attempts.{Attempt, mechanism_says, names, opening, opening_by, opening_said, opening_named, stage_from, after_proof, with_credentials, after_verdict, after_chain, attempt_stage, decided_by, has_proof, has_success}
use Rattle.da_request.specs.declared.openings.Opening.{Opening}
use Rattle.da_request.specs.declared.openings.Opening.TheVariants.{Immediate, LogsIn}
use Rattle.da_request.specs.Requests.{request_stage, body_stage, attempt_of, attempt_in}
use Rattle.da_laws.specs.StageLaws.{SameAnswers, AreAlike, StageIsOwn}
use Rattle.da_settings.specs.declared.settings.Settings.{Settings}
use Rattle.da_request.specs.declared.request.Body.{Body}
use Rattle.da_request.specs.declared.request.Body.TheVariants.{Authenticates, LooksUp}
use Rattle.da_request.specs.declared.request.Request.{Request}

-- ---- a walk looks answers up by their database

continued_same : (m : Move) (f g : Progress → Walk) → ((p : Progress) → f p ≡ g p) → continued m f ≡ continued m g
continued_same (GoOn p) f g h = h p
continued_same (Stop w) f g h = refl

walk_same : (jumps : Bool) (dbs : List Passdb) (name : Bytes) (login : Login) (xs ys : Answers) → SameAnswers xs ys → (p : Progress) → walk jumps dbs name login xs p ≡ walk jumps dbs name login ys p
walk_same jumps [] name login xs ys s p = refl
walk_same jumps (db ∷ dbs) name login xs ys s p =
    ap (λ (o : Option _). continued (move jumps db name login p o) (walk jumps dbs name login xs)) (s db.number)
    ∙ continued_same (move jumps db name login p (answer_from db.number ys)) (walk jumps dbs name login xs) (walk jumps dbs name login ys) (walk_same jumps dbs name login xs ys s)

masters_same : (dbs : List Passdb) (login : Login) (xs ys : Answers) → SameAnswers xs ys → (w : Walk) → after_masters dbs login xs w ≡ after_masters dbs login ys w
masters_same dbs login xs ys s (Asking db kind name checked) = refl
masters_same dbs login xs ys s (Ended kind p) = refl
masters_same dbs login xs ys s (Jumped p) = ap (chain_of login (is_plaintext_proof login.proof)) (walk_same _ (user_databases dbs) login.user login xs ys s p)

for_same : (master : Option Bytes) (dbs : List Passdb) (login : Login) (xs ys : Answers) → SameAnswers xs ys → chain_for master dbs login xs ≡ chain_for master dbs login ys
for_same None dbs login xs ys s = ap (chain_of login _) (walk_same _ (user_databases dbs) login.user login xs ys s no_progress)
for_same (Some master) dbs login xs ys s =
    ap (after_masters dbs login xs) (walk_same _ (master_databases dbs) master login xs ys s no_progress)
    ∙ masters_same dbs login xs ys s (walk _ (master_databases dbs) master login ys no_progress)

chain_same : (dbs : List Passdb) (login : Login) (xs ys : Answers) → SameAnswers xs ys → login_chain dbs login xs ≡ login_chain dbs login ys
unfolding login_chain
chain_same dbs login xs ys s = for_same login.master dbs login xs ys s

-- ---- the rest of an attempt doesn't look at answers

abbrev with_answers : Attempt → Answers → Attempt
with_answers a answers = record a { answers = answers }

says_same : (m : Mech) (settings : Settings) (a : Attempt) (ys : Answers) (messages : Option (List Bytes)) (credentials : Option _) →
    mechanism_says m settings (with_answers a ys) messages credentials ≡ mechanism_says m settings a messages credentials
says_same m settings a ys None credentials = refl
says_same Plain settings a ys (Some messages) credentials = refl
says_same LoginMech settings a ys (Some messages) credentials = refl
says_same CramMd5 settings a ys (Some messages) credentials = refl
says_same ScramSha256 settings a ys (Some messages) credentials = refl

credentials_same : (m : Mech) (settings : Settings) (a : Attempt) (ys : Answers) (v : Verdict) (o : Option StoredPassword) →
    with_credentials m settings (with_answers a ys) v o ≡ with_credentials m settings a v o
credentials_same m settings a ys v None = refl
credentials_same m settings a ys v (Some stored) = ap (after_proof v) (says_same m settings a ys a.messages (Some stored))

verdict_same : (k : VerdictKind) (m : Mech) (settings : Settings) (a : Attempt) (ys : Answers) (v : Verdict) →
    after_verdict k m settings (with_answers a ys) v ≡ after_verdict k m settings a v
verdict_same k m settings a ys v = go (has_success k && has_proof m)
  where
    go : (b : Bool) → (if b then with_credentials m settings (with_answers a ys) v v.credentials else decided_by k v None)
        ≡ (if b then with_credentials m settings a v v.credentials else decided_by k v None)
    go true = credentials_same m settings a ys v v.credentials
    go false = refl

after_same : (m : Mech) (settings : Settings) (a : Attempt) (ys : Answers) (c : Chain) → after_chain m settings (with_answers a ys) c ≡ after_chain m settings a c
after_same m settings a ys (Ask db kind user checked) = refl
after_same m settings a ys (Done v) = verdict_same v.kind m settings a ys v

named_same : (m : Mech) (a : Attempt) (ys : Answers) (password : Option Bytes) (n : Option (Bytes × Option Bytes)) → opening_named m (with_answers a ys) password n ≡ opening_named m a password n
named_same m a ys password None = refl
named_same m a ys password (Some n) = refl

said_same : (m : Mech) (settings : Settings) (a : Attempt) (ys : Answers) (s : Said) → opening_said m settings (with_answers a ys) s ≡ opening_said m settings a s
said_same m settings a ys (Challenge text) = refl
said_same m settings a ys (Need name authzid password) = named_same m a ys password (names settings name authzid)
said_same m settings a ys (Proves right last) = refl
said_same m settings a ys Bad = refl

by_same : (o : Option Mech) (settings : Settings) (a : Attempt) (ys : Answers) → opening_by o settings (with_answers a ys) ≡ opening_by o settings a
by_same None settings a ys = refl
by_same (Some m) settings a ys =
    ap (opening_said m settings (with_answers a ys)) (says_same m settings a ys a.messages None)
    ∙ said_same m settings a ys (mechanism_says m settings a a.messages None)

from_same : (settings : Settings) (a : Attempt) (ys : Answers) → SameAnswers a.answers ys → (o : Opening) → stage_from settings (with_answers a ys) o ≡ stage_from settings a o
from_same settings a ys s (Immediate stage) = refl
from_same settings a ys s (LogsIn m login) =
    after_same m settings a ys (login_chain settings.passdb login ys)
    ∙ ap (after_chain m settings a) (sym (chain_same settings.passdb login a.answers ys s))

answers_same : (settings : Settings) (a : Attempt) (ys : Answers) → SameAnswers a.answers ys → attempt_stage settings (with_answers a ys) ≡ attempt_stage settings a
unfolding attempt_stage opening
answers_same settings a ys s =
    ap (stage_from settings (with_answers a ys)) (by_same a.mech settings a ys) ∙ from_same settings a ys s (opening_by a.mech settings a)

-- ---- attempts that are alike

abbrev attempt : Option Mech → Pairs → Option (List Bytes) → Bytes → ℕ → Answers → Attempt
attempt mech params messages random start answers = record { mech = mech; params = params; messages = messages; random = random; start = start; answers = answers }

alike : (a b : Attempt) → AreAlike a b → with_answers a b.answers ≡ b
alike a b s =
    ap (λ x. attempt x a.params a.messages a.random a.start b.answers) s.mech
    ∙ ap (λ x. attempt b.mech x a.messages a.random a.start b.answers) s.params
    ∙ ap (λ x. attempt b.mech b.params x a.random a.start b.answers) s.messages
    ∙ ap (λ x. attempt b.mech b.params b.messages x a.start b.answers) s.random
    ∙ ap (λ x. attempt b.mech b.params b.messages b.random x b.answers) s.start

alike_same : (settings : Settings) (a b : Attempt) → AreAlike a b → attempt_stage settings a ≡ attempt_stage settings b
alike_same settings a b s = sym (answers_same settings a b.answers s.answers) ∙ ap (attempt_stage settings) (alike a b s)

body_stage_is : (settings : Settings) (r : Request) (body : Body) (a : Attempt) → attempt_in settings r body ≡ Some a → body_stage settings r body ≡ attempt_stage settings a
body_stage_is settings r (Authenticates mech params resp texts) a e = ap (attempt_stage settings) (same_Some _ _ e)
body_stage_is settings r (LooksUp grant) a e = absurd (none-some _ e)

-- a request that is an attempt has the attempt's stage
pub stage_is_attempt's : (settings : Settings) (r : Request) (a : Attempt) → attempt_of settings r ≡ Some a → request_stage settings r ≡ attempt_stage settings a
unfolding request_stage
stage_is_attempt's settings r a e = body_stage_is settings r r.body a e

pub stage_is_own : StageIsOwn
stage_is_own settings h k m n r q a b x y s = stage_is_attempt's settings r a x.attempts ∙ alike_same settings a b s ∙ sym (stage_is_attempt's settings q b y.attempts)
