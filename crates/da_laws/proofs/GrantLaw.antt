-- A user is given to a request that an entry has granted.
use Rattle.std.proofs.Common.{◌≡◌, ◌⊎◌, inl, inr, refl, sym, ap, subst, Option, Some, None, List, [], ◌∷◌, ℕ, Bool, true, false, cond, not, ◌&&◌, is_some, true≢false}
use Rattle.std.proofs.lemmas.Option.{none-some, same_Some}
use Rattle.da_tables.proofs.Cases.{by_test}
use Rattle.da_play.proofs.EntryParts.{IsMade, MadeLogin, MadeLookup}
use Rattle.da_play.proofs.RequestParts.{BeforeEach, EachKeeps, EachRow, each_before, each_later, no_rows}
use Rattle.da_laws.proofs.Decisions.{by_stage_alone}
use Rattle.da_laws.proofs.OkLaw.{user_is_granted}
use Rattle.da_base.specs.Words.{Bytes}
use Rattle.da_fields.specs.FieldList.{Pairs}
use Rattle.da_laws.specs.GrantLaws.{WasGranted, UserWasGranted}
use Rattle.da_lines.specs.Grants.{granted}
use Rattle.da_play.specs.History.{before_input, tables_of}
use Rattle.da_request.specs.Requests.{is_over_limit, replied, timed_out}
use Rattle.da_request.specs.Requests.{body_with_text}
use Rattle.da_request.specs.Requests.{with_answer}
use Rattle.da_request.specs.Requests.{is_due, decision_in, lookup_stage, body_stage, request_stage}
use Rattle.da_play.specs.declared.input.Entry.{Entry}
use Rattle.da_settings.specs.declared.settings.Settings.{Settings}
use Rattle.da_request.specs.declared.request.Body.{Body}
use Rattle.da_request.specs.declared.request.Body.TheVariants.{Authenticates, LooksUp}
use Rattle.da_request.specs.declared.stages.Decision.{Decision}
use Rattle.da_request.specs.declared.stages.Decision.TheVariants.{UserGiven, UserUnknown, UserFailure}
use Rattle.da_request.specs.declared.request.Grant.{Grant}
use Rattle.da_request.specs.declared.request.Request.{Request}
use Rattle.da_tables.specs.declared.tables.Tables.{Tables}
use Rattle.da_userdb.specs.UserChain.{user_chain}
use Rattle.da_userdb.specs.declared.database.Lookup.{Lookup}
use Rattle.da_userdb.specs.declared.database.UserChain.{UserChain}
use Rattle.da_userdb.specs.declared.database.UserChain.TheVariants.{Ask as AskUser, Found as UserFound, NotFound as UserNotFound, Temp as UserFailed}

-- P holds of the grant of each request
abbrev Made : Type 1
Made = ℕ → ℕ → Bytes → Grant → Type 0

abbrev OnBody : (Grant → Type 0) → Body → Type 0
OnBody P (Authenticates mechanism parameters resp texts) = Unit {0}
OnBody P (LooksUp None) = Unit {0}
OnBody P (LooksUp (Some grant)) = P grant

abbrev OnGrant : Made → Request → Type 0
OnGrant P r = OnBody (P r.conn r.id r.random) r.body

text_keeps : (R : Grant → Type 0) (text : Bytes) (b : Body) → OnBody R b → OnBody R (body_with_text text b)
text_keeps R text (Authenticates mechanism parameters resp texts) p = tt
text_keeps R text (LooksUp None) p = tt
text_keeps R text (LooksUp (Some grant)) p = p

weaker : (R S : Grant → Type 0) → ((grant : Grant) → R grant → S grant) → (b : Body) → OnBody R b → OnBody S b
weaker R S h (Authenticates mechanism parameters resp texts) p = tt
weaker R S h (LooksUp None) p = tt
weaker R S h (LooksUp (Some grant)) p = h grant p

one_entry_later : (settings : Settings) (e : Entry) (g : List Entry) (conn id : ℕ) (random : Bytes) (grant : Grant) → WasGranted settings g conn id random grant → WasGranted settings (e ∷ g) conn id random grant
one_entry_later settings e g conn id random grant w =
    record { newer = e ∷ w.newer; entry = w.entry; older = w.older; is_there = ap (λ x. e ∷ x) w.is_there; text = w.text; is_line = w.is_line; pid = w.pid; client = w.client; cookie = w.cookie; spells = w.spells; is_granted = w.is_granted }

module _ (settings : Settings) (e : Entry) (g : List Entry) where
  abbrev before : Tables
  before = before_input settings e.moment e.input (tables_of settings g)

  abbrev P : ℕ → Request → Type 0
  P n = OnGrant (WasGranted settings (e ∷ g))

  either_keeps : (b : Bool) (r s : Request) → OnGrant (WasGranted settings (e ∷ g)) r → OnGrant (WasGranted settings (e ∷ g)) s → OnGrant (WasGranted settings (e ∷ g)) (cond b r s)
  either_keeps b r s p q = by_test (OnGrant (WasGranted settings (e ∷ g))) b r s (λ d. p) (λ d. q)

  made : (conn id : ℕ) (random : Bytes) (body : Body) → IsMade settings e.moment before e.input conn id random body → OnBody (WasGranted settings (e ∷ g) conn id random) body
  made conn id random body m = go m.made
    where
      go : MadeLogin before e.input conn id random body ⊎ MadeLookup settings e.moment before e.input conn id random body → OnBody (WasGranted settings (e ∷ g) conn id random) body
      go (inl (mech, params, resp, m, is)) = subst (OnBody (WasGranted settings (e ∷ g) conn id random)) (sym is) tt
      go (inr (pid, client, cookie, m, is)) = subst (OnBody (WasGranted settings (e ∷ g) conn id random)) (sym is) (by_grant (granted settings e.moment before pid client cookie) refl)
        where
          by_grant : (o : Option Grant) → granted settings e.moment before pid client cookie ≡ o → OnBody (WasGranted settings (e ∷ g) conn id random) (LooksUp o)
          by_grant None d = tt
          by_grant (Some grant) d = record { newer = []; entry = e; older = g; is_there = refl; text = m.text; is_line = m.is_line; pid = pid; client = client; cookie = cookie; spells = m.spells; is_granted = d }

  keeps_before : BeforeEach settings e.moment P P P
  keeps_before = record {
    times_out = λ n r p. either_keeps (is_over_limit settings e.moment r) (timed_out e.moment r) r p p;
    replies = λ n r p. either_keeps (is_due settings e.moment r) (replied e.moment r) r p p;
  }

  keeps : EachKeeps settings e.moment before e.input P
  keeps = record {
    text = λ n text r u p. text_keeps (WasGranted settings (e ∷ g) r.conn r.id r.random) text r.body p;
    answer = λ n db answer r u p. p;
    late = λ n db answer r u p. either_keeps (is_some r.decided && not r.is_timed_out) r (with_answer db answer r) p p;
    cancel = λ n r p. p;
    make = made;
    decide = λ n r d u is p. keeps_before.replies n (record r { decided = Some e.moment }) p;
  }

all_granted : (settings : Settings) (h : List Entry) → EachRow (λ n. OnGrant (WasGranted settings h)) (tables_of settings h).requests
all_granted settings [] = no_rows (λ n. OnGrant (WasGranted settings []))
all_granted settings (e ∷ g) =
    each_later settings (tables_of settings g) e (λ n. OnGrant (WasGranted settings (e ∷ g))) (keeps settings e g)
    (each_before settings e.moment _ _ _ (keeps_before settings e g) e.input (tables_of settings g)
    (λ n r is. weaker _ _ (one_entry_later settings e g r.conn r.id r.random) r.body (all_granted settings g n r is)))

is_given : Decision → Bool
is_given (UserGiven user fields) = true
is_given _ = false

given_user : Decision → Bytes
given_user (UserGiven user fields) = user
given_user _ = []

-- the user that a lookup gives is its subject's
same_user : (subject : Lookup) (c : UserChain) (user : Bytes) (fields : Pairs) → decision_in (lookup_stage subject c) ≡ Some (UserGiven user fields) → subject.user ≡ user
unfolding is_given given_user
same_user subject (AskUser d) user fields e = absurd (none-some _ e)
same_user subject (UserFound fs) user fields e = ap given_user (same_Some (UserGiven subject.user fs) (UserGiven user fields) e)
same_user subject UserNotFound user fields e = absurd (true≢false (sym (ap is_given (same_Some UserUnknown (UserGiven user fields) e))))
same_user subject UserFailed user fields e = absurd (true≢false (sym (ap is_given (same_Some UserFailure (UserGiven user fields) e))))

pub user_was_granted : UserWasGranted
unfolding request_stage
user_was_granted settings h n r user fields here e =
    let found : (grant : Grant) × (r.body ≡ LooksUp (Some grant)) = user_is_granted settings r user fields e in (
      found.0,
      found.1,
      same_user found.0.lookup (user_chain settings.userdb found.0.lookup r.answers) user fields (subst (λ b. decision_in (body_stage settings r b) ≡ Some (UserGiven user fields)) found.1 (by_stage_alone settings r (UserGiven user fields) refl e)),
      subst (OnBody (WasGranted settings h r.conn r.id r.random)) found.1 (all_granted settings h n r here),
    )
