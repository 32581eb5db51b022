-- A fact on each request that each change of a request keeps, an entry keeps.
use Rattle.std.proofs.Common.{◌≡◌, ◌⊎◌, inl, inr, refl, sym, ◌∙◌, ap, ap₂, subst, Some, List, [], ◌∷◌, ◌++◌, Option, ℕ, zero, suc, Bool, true, false, map, length, ◌||◌}
use Rattle.std.specs.List.{list_any}
use Rattle.std.proofs.lemmas.Option.{none-some, same_Some}
use Rattle.da_tables.proofs.Cases.{by_test, and_first}
use Rattle.da_tables.proofs.Rows.{of_appended, of_changed, of_mapped}
use Rattle.da_play.proofs.EntryParts.{ContinuedParts, InputParts, IsMade, an_entry_gives, before_gives}
use Rattle.da_base.specs.Words.{Bytes, nth, changed_nth, passes_option}
use Rattle.da_fields.specs.declared.answer.Answer.{Answer}
use Rattle.da_play.specs.History.{after, before_input}
use Rattle.da_play.specs.declared.input.Entry.{Entry}
use Rattle.da_play.specs.declared.input.Input.{Input}
use Rattle.da_request.specs.Requests.{as_cancelled_of, cancelled, is_of, is_undecided, new_request, replied_if_due, request_stage, timed_out_if_over, with_answer, with_decision, with_late_answer, with_text}
use Rattle.da_request.specs.declared.request.Body.{Body}
use Rattle.da_request.specs.declared.request.Request.{Request}
use Rattle.da_request.specs.declared.stages.Decision.{Decision}
use Rattle.da_request.specs.declared.stages.Stage.TheVariants.{Decided}
use Rattle.da_settings.specs.declared.settings.Settings.{Settings}
use Rattle.da_tables.specs.Tables.{with_due_replied, with_end, with_timed_out}
use Rattle.da_tables.specs.declared.tables.Tables.{Tables}

-- ---- rows

-- each row has what its number asks of it
abbrev pub EachRow : {A : Type 0} → (ℕ → A → Type 0) → List A → Type 0
EachRow {A} P xs = (n : ℕ) (x : A) → nth xs n ≡ Some x → P n x

pub no_rows : {A : Type 0} (P : ℕ → A → Type 0) → EachRow P []
no_rows P zero x e = absurd (none-some x e)
no_rows P (suc n) x e = absurd (none-some x e)

pub each_mapped : {A : Type 0} (P Q : ℕ → A → Type 0) (f : A → A) → ((n : ℕ) (x : A) → P n x → Q n (f x)) → (xs : List A) → EachRow P xs → EachRow Q (map f xs)
each_mapped {A} P Q f h xs p n x e =
    let was : (y : A) × (nth xs n ≡ Some y) × (x ≡ f y) = of_mapped f xs n x e in
    subst (Q n) (sym was.2) (h n was.0 (p n was.0 was.1))

pub each_changed : {A : Type 0} (P : ℕ → A → Type 0) (f : A → A) (xs : List A) (m : ℕ) → ((x : A) → nth xs m ≡ Some x → P m x → P m (f x)) → EachRow P xs → EachRow P (changed_nth f xs m)
each_changed {A} P f xs m h p n x e = go (of_changed f xs m n x e)
  where
    go : ((n ≡ m) × (y : A) × (nth xs m ≡ Some y) × (x ≡ f y)) ⊎ ((n ≡ m → ⊥) × (nth xs n ≡ Some x)) → P n x
    go (inl (d, y, is, w)) = subst (λ (k : ℕ). P k x) (sym d) (subst (P m) (sym w) (h y is (p m y is)))
    go (inr (d, is)) = p n x is

pub each_appended : {A : Type 0} (P : ℕ → A → Type 0) (xs : List A) (x : A) → P (suc (length xs)) x → EachRow P xs → EachRow P (xs ++ x ∷ [])
each_appended {A} P xs x new p n y e = go (of_appended xs x y n e)
  where
    go : ((n ≡ suc (length xs)) × (y ≡ x)) ⊎ (nth xs n ≡ Some y) → P n y
    go (inl (d, w)) = subst (λ (k : ℕ). P k y) (sym d) (subst (P (suc (length xs))) (sym w) new)
    go (inr is) = p n y is

-- no row passes a test that each row fails
pub no_row_passes : {A : Type 0} (holds : A → Bool) (xs : List A) → EachRow (λ n x. holds x ≡ false) xs → list_any holds xs ≡ false
no_row_passes holds [] h = refl
no_row_passes {A} holds (x ∷ xs) h = ap₂ (λ a b. a || b) (h 1 x refl) (no_row_passes holds xs (λ n y e. h (suc n) y (further n y e)))
  where
    further : (n : ℕ) (y : A) → nth xs n ≡ Some y → nth (x ∷ xs) (suc n) ≡ Some y
    further zero y e = absurd (none-some y e)
    further (suc n) y e = e

-- ---- the parts

-- what comes before an input's own effect: each request is timed out where it is over its limit, and then replied where that is due
pub record BeforeEach (settings : Settings) (moment : ℕ) (P Q R : ℕ → Request → Type 0) : Type 0 where
  pub times_out : (n : ℕ) (r : Request) → P n r → Q n (timed_out_if_over settings moment r)
  pub replies : (n : ℕ) (r : Request) → Q n r → R n (replied_if_due settings moment r)

module _ (settings : Settings) (moment : ℕ) (P Q R : ℕ → Request → Type 0) (k : BeforeEach settings moment P Q R) where
  each_timed : (tables : Tables) → EachRow P tables.requests → EachRow Q (with_timed_out settings moment tables).requests
  unfolding with_timed_out
  each_timed tables p = each_mapped P Q (timed_out_if_over settings moment) k.times_out tables.requests p

  each_replied : (tables : Tables) → EachRow Q tables.requests → EachRow R (with_due_replied settings moment tables).requests
  unfolding with_due_replied
  each_replied tables p = each_mapped Q R (replied_if_due settings moment) k.replies tables.requests p

  pub each_before : (input : Input) (tables : Tables) → EachRow P tables.requests → EachRow R (before_input settings moment input tables).requests
  each_before input tables p =
      before_gives settings moment tables input (λ t. EachRow P t.requests) (λ t. EachRow Q t.requests) (λ t. EachRow R t.requests)
      (record { takes = λ is. p; stays = p; times_out = each_timed; replies = each_replied })

-- what an input, and what follows, do to one request
pub record EachKeeps (settings : Settings) (moment : ℕ) (before : Tables) (entered : Input) (P : ℕ → Request → Type 0) : Type 0 where
  pub text : (n : ℕ) (text : Bytes) (r : Request) → is_undecided r ≡ true → P n r → P n (with_text text r)
  pub answer : (n db : ℕ) (answer : Answer) (r : Request) → is_undecided r ≡ true → P n r → P n (with_answer db answer r)
  pub late : (n db : ℕ) (answer : Answer) (r : Request) → is_undecided r ≡ false → P n r → P n (with_late_answer db answer r)
  pub cancel : (n : ℕ) (r : Request) → P n r → P n (cancelled r)
  pub make : (conn id : ℕ) (random : Bytes) (body : Body) → IsMade settings moment before entered conn id random body → P (suc (length before.requests)) (new_request moment conn id random body)
  pub decide : (n : ℕ) (r : Request) (d : Decision) → is_undecided r ≡ true → request_stage settings r ≡ Decided d → P n r → P n (with_decision settings moment r)

module _ (settings : Settings) (moment : ℕ) (before : Tables) (entered : Input) (hits : List ℕ) (P : ℕ → Request → Type 0) (k : EachKeeps settings moment before entered P) where
  abbrev pub each_now : Tables → Option ℕ → List ℕ → Type 0
  each_now tables m done = EachRow P tables.requests

  abbrev pub each_after : Tables → Option ℕ → Type 0
  each_after tables m = EachRow P tables.requests

  -- what a test says of the row is what it says of its request
  of_row : (b : Bool) (rs : List Request) (n : ℕ) (r : Request) → passes_option is_undecided (nth rs n) ≡ b → nth rs n ≡ Some r → is_undecided r ≡ b
  of_row b rs n r u e = sym (ap (passes_option is_undecided) e) ∙ u

  each_ended : (conn : ℕ) → EachRow P before.requests → EachRow P (with_end conn before).requests
  unfolding with_end
  each_ended conn p = each_mapped P P (as_cancelled_of conn) (λ n r q. by_test (P n) (is_of conn r) (cancelled r) r (λ e. k.cancel n r q) (λ e. q)) before.requests p

  pub each_input : InputParts settings moment before entered (λ tables m. EachRow P tables.requests)
  each_input = record {
    opens = λ kind random l p. p;
    tells = λ conn change h told p. p;
    ends = λ conn e p. each_ended conn p;
    cancels = λ n e p. each_changed P cancelled before.requests n (λ r at q. k.cancel n r q) p;
    texts = λ conn id random text m r is w p. each_changed P (with_text text) before.requests _
        (λ s at q. k.text _ text s (subst (λ (x : Request). is_undecided x ≡ true) (same_Some r s (sym is ∙ at)) (and_first (is_undecided r) _ w)) q) p;
    makes = λ conn id random body m p. each_appended P before.requests _ (k.make conn id random body m) p;
    loses = λ query given a g is run lost u p. p;
    loses_late = λ query given a g is run lost u p. p;
    answers = λ query given a g is run counts u p. each_changed P (with_answer a.question.db _) before.requests a.request
        (λ r at q. k.answer a.request a.question.db _ r (of_row true before.requests a.request r u at) q) p;
    lates = λ query given a g is run counts u p. each_changed P (with_late_answer a.question.db _) before.requests a.request
        (λ r at q. k.late a.request a.question.db _ r (of_row false before.requests a.request r u at) q) p;
  }

  pub each_continued : ContinuedParts settings moment before entered hits each_now each_after
  each_continued = record {
    hit = λ tables continued number done rest a p is e w u q. each_changed P (with_answer a.question.db p.0) tables.requests continued
        (λ r at x. k.answer continued a.question.db p.0 r (of_row true tables.requests continued r u at) x) q;
    misses = λ tables continued number done rest e w q. q;
    rests = λ tables q. q;
    awaits = λ tables n r text is u e q. q;
    asks = λ tables n r question is u e q. q;
    decides = λ tables n r d is u e q. each_changed P (with_decision settings moment) tables.requests n
        (λ s at x. subst (λ (y : Request). P n y → P n (with_decision settings moment y)) (same_Some r s (sym is ∙ at)) (k.decide n r d u e) x) q;
    kept = λ tables m query given a l run is k q. q;
  }

-- from the input's own effect to the end of the entry
pub each_later : (settings : Settings) (origin : Tables) (e : Entry) (P : ℕ → Request → Type 0) → EachKeeps settings e.moment (before_input settings e.moment e.input origin) e.input P →
    EachRow P (before_input settings e.moment e.input origin).requests → EachRow P (after settings origin e).requests
each_later settings origin e P k p =
    let before : Tables = before_input settings e.moment e.input origin in
    an_entry_gives settings origin e (each_now settings e.moment before e.input e.hits P k) (each_after settings e.moment before e.input e.hits P k)
    (each_input settings e.moment before e.input e.hits P k) (each_continued settings e.moment before e.input e.hits P k) p
