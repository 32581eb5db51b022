-- At most one request of a master is granted for one request of a client.
use Rattle.std.proofs.Common.{◌≡◌, ◌⊎◌, inl, inr, refl, sym, ◌∙◌, ap, subst, Option, Some, None, List, [], ◌∷◌, ◌++◌, ℕ, zero, suc, ◌+◌, ◌≤◌, Bool, true, false, cond, not, ◌&&◌, ◌||◌, map, is_some, arith, true≢false, zero-add}
use Rattle.std.specs.List.{list_any}
use Rattle.std.proofs.lemmas.Bool.{eqb-true}
use Rattle.da_tables.proofs.Cases.{by_test}
use Rattle.da_play.proofs.EntryParts.{ContinuedParts, InputParts, IsMade, MadeLogin, MadeLookup, an_entry_gives, before_gives}
use Rattle.da_laws.proofs.GrantStands.{grants_stand}
use Rattle.da_base.specs.Words.{Bytes, changed_at, changed_nth, count_where}
use Rattle.da_fields.specs.declared.answer.Answer.{Answer}
use Rattle.da_laws.specs.GrantLaws.{GrantedAtMostOnce}
use Rattle.da_lines.specs.Grants.{granted}
use Rattle.da_play.specs.History.{before_input, tables_of}
use Rattle.da_play.specs.declared.input.Input.{Input}
use Rattle.da_request.specs.Requests.{as_cancelled_of, body_with_text, cancelled, is_due, is_granted_for, is_of, is_over_limit, new_request, timed_out, timed_out_if_over, with_answer, with_decision, with_late_answer, with_text}
use Rattle.da_request.specs.declared.request.Body.{Body}
use Rattle.da_request.specs.declared.request.Body.TheVariants.{Authenticates, LooksUp}
use Rattle.da_request.specs.declared.request.Grant.{Grant}
use Rattle.da_request.specs.declared.request.Request.{Request}
use Rattle.da_settings.specs.declared.settings.Settings.{Settings}
use Rattle.da_tables.specs.Connections.{is_used}
use Rattle.da_tables.specs.Tables.{with_due_replied, with_end, with_timed_out}
use Rattle.da_tables.specs.declared.tables.Tables.{Tables}

-- how many requests are granted for request c
abbrev uses : ℕ → List Request → ℕ
uses c = count_where (λ r. is_granted_for c r.body)

uses-append : (c : ℕ) (rs ss : List Request) → uses c (rs ++ ss) ≡ uses c rs + uses c ss
uses-append c [] ss = sym (zero-add (uses c ss))
uses-append c (r ∷ rs) ss = let rest : uses c (rs ++ ss) ≡ uses c rs + uses c ss = uses-append c rs ss in omega (arith, rest)

neither : (a b : Bool) → (a || b) ≡ false → (a ≡ false) × (b ≡ false)
neither true b e = absurd (true≢false e)
neither false b e = (refl, e)

uses-unused : (c : ℕ) (rs : List Request) → list_any (λ r. is_granted_for c r.body) rs ≡ false → uses c rs ≡ 0
uses-unused c [] e = refl
uses-unused c (r ∷ rs) e =
    let parts : (is_granted_for c r.body ≡ false) × (list_any (λ r. is_granted_for c r.body) rs ≡ false) = neither _ _ e in
    ap (λ b. cond b 1 0 + uses c rs) parts.0 ∙ zero-add _ ∙ uses-unused c rs parts.1

abbrev KeepsGrants : (Request → Request) → Type 0
KeepsGrants f = (c : ℕ) (r : Request) → is_granted_for c (f r).body ≡ is_granted_for c r.body

uses-map : (c : ℕ) (f : Request → Request) → KeepsGrants f → (rs : List Request) → uses c (map f rs) ≡ uses c rs
uses-map c f h [] = refl
uses-map c f h (r ∷ rs) = ap (λ b. cond b 1 0 + uses c (map f rs)) (h c r) ∙ ap (λ x. cond (is_granted_for c r.body) 1 0 + x) (uses-map c f h rs)

uses-changed_at : (c : ℕ) (f : Request → Request) → KeepsGrants f → (rs : List Request) (n : ℕ) → uses c (changed_at f rs n) ≡ uses c rs
uses-changed_at c f h [] n = refl
uses-changed_at c f h (r ∷ rs) zero = ap (λ b. cond b 1 0 + uses c rs) (h c r)
uses-changed_at c f h (r ∷ rs) (suc n) = ap (λ x. cond (is_granted_for c r.body) 1 0 + x) (uses-changed_at c f h rs n)

uses-changed : (c : ℕ) (f : Request → Request) → KeepsGrants f → (rs : List Request) (n : ℕ) → uses c (changed_nth f rs n) ≡ uses c rs
uses-changed c f h rs zero = refl
uses-changed c f h rs (suc n) = uses-changed_at c f h rs n

-- a new request is granted only for what no other is granted for
unused_grant : (tables : Tables) (o : Option Grant) → ((g : Grant) → o ≡ Some g → is_used tables g.request ≡ false) → (c : ℕ) → is_granted_for c (LooksUp o) ≡ true → is_used tables c ≡ false
unused_grant tables None h c e = absurd (true≢false (sym e))
unused_grant tables (Some g) h c e = subst (λ m. is_used tables m ≡ false) (eqb-true _ _ e) (h g refl)

made_unused : (settings : Settings) (moment : ℕ) (before : Tables) (entered : Input) (conn id : ℕ) (random : Bytes) (body : Body) → IsMade settings moment before entered conn id random body →
    (c : ℕ) → is_granted_for c body ≡ true → is_used before c ≡ false
made_unused settings moment before entered conn id random body m c e = go m.made
  where
    go : MadeLogin before entered conn id random body ⊎ MadeLookup settings moment before entered conn id random body → is_used before c ≡ false
    go (inl (mech, params, resp, m, is)) = absurd (true≢false (sym e ∙ ap (is_granted_for c) is))
    go (inr (pid, client, cookie, m, is)) =
        unused_grant before (granted settings moment before pid client cookie) (λ g d. (grants_stand settings moment before pid client cookie g d).is_unused) c (sym (ap (is_granted_for c) is) ∙ e)

uses-made : (c : ℕ) (rs : List Request) (r : Request) → (is_granted_for c r.body ≡ true → list_any (λ q. is_granted_for c q.body) rs ≡ false) → uses c rs ≤ 1 → uses c (rs ++ r ∷ []) ≤ 1
uses-made c rs r h few = subst (λ x. x ≤ 1) (sym (uses-append c rs (r ∷ []))) (go (is_granted_for c r.body) h)
  where
    go : (b : Bool) → (b ≡ true → list_any (λ q. is_granted_for c q.body) rs ≡ false) → uses c rs + (cond b 1 0 + 0) ≤ 1
    go true k = let none : uses c rs ≡ 0 = uses-unused c rs (k refl) in omega (arith, none)
    go false k = omega (arith, few)

-- ---- one entry

uses-due : (c : ℕ) (settings : Settings) (moment : ℕ) (tables : Tables) → uses c (with_due_replied settings moment tables).requests ≡ uses c tables.requests
unfolding with_due_replied
uses-due c settings moment tables = uses-map c (λ r. cond (is_due settings moment r) (record r { replied = Some moment }) r)
    (λ d r. by_test (λ (s : Request). is_granted_for d s.body ≡ is_granted_for d r.body) (is_due settings moment r) _ r (λ e. refl) (λ e. refl)) tables.requests

uses-timed : (c : ℕ) (settings : Settings) (moment : ℕ) (tables : Tables) → uses c (with_timed_out settings moment tables).requests ≡ uses c tables.requests
unfolding with_timed_out
uses-timed c settings moment tables = uses-map c (timed_out_if_over settings moment)
    (λ d r. by_test (λ (s : Request). is_granted_for d s.body ≡ is_granted_for d r.body) (is_over_limit settings moment r) (timed_out moment r) r (λ e. refl) (λ e. refl)) tables.requests

uses-before : (c : ℕ) (settings : Settings) (moment : ℕ) (input : Input) (tables : Tables) → uses c (before_input settings moment input tables).requests ≡ uses c tables.requests
uses-before c settings moment input tables =
    before_gives settings moment tables input (λ t. uses c t.requests ≡ uses c tables.requests) (λ t. uses c t.requests ≡ uses c tables.requests) (λ t. uses c t.requests ≡ uses c tables.requests)
    (record { takes = λ is. refl; stays = refl; times_out = λ t q. uses-timed c settings moment t ∙ q; replies = λ t q. uses-due c settings moment t ∙ q })

decided_grants : (settings : Settings) (moment : ℕ) → KeepsGrants (with_decision settings moment)
decided_grants settings moment c r = by_test (λ (s : Request). is_granted_for c s.body ≡ is_granted_for c r.body) (is_due settings moment (record r { decided = Some moment })) _ _ (λ e. refl) (λ e. refl)

late_grants : (db : ℕ) (answer : Answer) → KeepsGrants (with_late_answer db answer)
late_grants db answer c r = by_test (λ (s : Request). is_granted_for c s.body ≡ is_granted_for c r.body) (is_some r.decided && not r.is_timed_out) r (with_answer db answer r) (λ e. refl) (λ e. refl)

text_grants : (text : Bytes) → KeepsGrants (with_text text)
text_grants text c r = go r.body
  where
    go : (b : Body) → is_granted_for c (body_with_text text b) ≡ is_granted_for c b
    go (Authenticates mech params resp texts) = refl
    go (LooksUp grant) = refl

module _ (c : ℕ) (settings : Settings) (moment : ℕ) (before : Tables) (entered : Input) (hits : List ℕ) where
  -- at most one request is granted for request c
  abbrev few_now : Tables → Option ℕ → List ℕ → Type 0
  few_now tables m done = uses c tables.requests ≤ 1

  abbrev few_after : Tables → Option ℕ → Type 0
  few_after tables m = uses c tables.requests ≤ 1

  few_changed : (f : Request → Request) → KeepsGrants f → (rs : List Request) (n : ℕ) → uses c rs ≤ 1 → uses c (changed_nth f rs n) ≤ 1
  few_changed f h rs n few = subst (λ x. x ≤ 1) (sym (uses-changed c f h rs n)) few

  few_ended : (conn : ℕ) → uses c before.requests ≤ 1 → uses c (with_end conn before).requests ≤ 1
  unfolding with_end
  few_ended conn few = subst (λ x. x ≤ 1) (sym (uses-map c (as_cancelled_of conn)
      (λ d r. by_test (λ (s : Request). is_granted_for d s.body ≡ is_granted_for d r.body) (is_of conn r) (cancelled r) r (λ e. refl) (λ e. refl)) before.requests)) few

  input_few : InputParts settings moment before entered (λ tables m. uses c tables.requests ≤ 1)
  input_few = record {
    opens = λ kind random l p. p;
    tells = λ conn change h told p. p;
    ends = λ conn e p. few_ended conn p;
    cancels = λ n e p. few_changed cancelled (λ d r. refl) before.requests n p;
    texts = λ conn id random text m r is w p. few_changed (with_text text) (text_grants text) before.requests _ p;
    makes = λ conn id random body m p. uses-made c before.requests (new_request moment conn id random body) (made_unused settings moment before entered conn id random body m c) p;
    loses = λ query given a g is run lost u p. p;
    loses_late = λ query given a g is run lost u p. p;
    answers = λ query given a g is run counts u p. few_changed (with_answer a.question.db _) (λ d r. refl) before.requests a.request p;
    lates = λ query given a g is run counts u p. few_changed (with_late_answer a.question.db _) (late_grants a.question.db _) before.requests a.request p;
  }

  continued_few : ContinuedParts settings moment before entered hits few_now few_after
  continued_few = record {
    hit = λ tables continued number done rest a p is e w u q. few_changed (with_answer a.question.db p.0) (λ d r. refl) tables.requests continued q;
    misses = λ tables continued number done rest e w q. q;
    rests = λ tables q. q;
    awaits = λ tables n r text is u e q. q;
    asks = λ tables n r question is u e q. q;
    decides = λ tables n r d is u e q. few_changed (with_decision settings moment) (decided_grants settings moment) tables.requests n q;
    kept = λ tables m query given a l run is k q. q;
  }

pub granted_at_most_once : GrantedAtMostOnce
granted_at_most_once settings [] n = omega arith
granted_at_most_once settings (e ∷ g) n =
    let before : Tables = before_input settings e.moment e.input (tables_of settings g) in
    an_entry_gives settings (tables_of settings g) e (few_now n settings e.moment before e.input e.hits) (few_after n settings e.moment before e.input e.hits)
    (input_few n settings e.moment before e.input e.hits) (continued_few n settings e.moment before e.input e.hits)
    (subst (λ x. x ≤ 1) (sym (uses-before n settings e.moment e.input (tables_of settings g))) (granted_at_most_once settings g n))
