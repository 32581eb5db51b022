-- A request that is timed out is decided, and was replied by the entry that timed it out.
use Rattle.std.proofs.Common.{◌≡◌, ◌⊎◌, inl, inr, refl, sym, ◌∙◌, ap₂, Some, List, [], ◌∷◌, ℕ, Bool, true, false, is_some, not, ◌&&◌, nat_le, true≢false}
use Rattle.da_fields.specs.declared.answer.Answer.{Answer}
use Rattle.da_play.proofs.RequestParts.{BeforeEach, EachKeeps, EachRow, each_before, each_later, no_rows}
use Rattle.da_play.specs.History.{before_input, tables_of}
use Rattle.da_play.specs.declared.input.Entry.{Entry}
use Rattle.da_play.specs.declared.input.Input.{Input}
use Rattle.da_request.specs.Requests.{has_limit, is_authentication, is_due, is_held, is_over_limit, is_pending, is_undecided, limit_moment, replied_if_due, timed_out, timed_out_if_over, with_answer, with_decision}
use Rattle.da_request.specs.declared.request.Request.{Request}
use Rattle.da_settings.specs.declared.settings.Settings.{Settings}
use Rattle.da_tables.proofs.Cases.{by_test, and_first, and_second}
use Rattle.da_tables.specs.declared.tables.Tables.{Tables}

pub record IsMarked (r : Request) : Type 0 where
  pub decided : r.is_timed_out ≡ true → is_some r.decided ≡ true
  pub replied : r.is_timed_out ≡ true → is_some r.replied ≡ true

abbrev pub AllMarked : List Request → Type 0
AllMarked rs = EachRow (λ n. IsMarked) rs

-- the same before the replies that are due are given
record IsTimed (settings : Settings) (moment : ℕ) (r : Request) : Type 0 where
  pub decided : r.is_timed_out ≡ true → is_some r.decided ≡ true
  pub replied : r.is_timed_out ≡ true → (is_some r.replied ≡ true) ⊎ (is_due settings moment r ≡ true)

-- ---- changes of one request

answer_marked : (db : ℕ) (answer : Answer) (r : Request) → IsMarked r → IsMarked (with_answer db answer r)
answer_marked db answer r p = record { decided = p.decided; replied = p.replied }

replied_marked : (settings : Settings) (moment : ℕ) (r : Request) → IsMarked r → IsMarked (replied_if_due settings moment r)
replied_marked settings moment r p = by_test IsMarked (is_due settings moment r) (record r { replied = Some moment }) r (λ e. record { decided = p.decided; replied = λ t. refl }) (λ e. p)

decision_marked : (settings : Settings) (moment : ℕ) (r : Request) → IsMarked r → IsMarked (with_decision settings moment r)
decision_marked settings moment r p = replied_marked settings moment (record r { decided = Some moment }) (record { decided = λ t. refl; replied = p.replied })

-- ---- what comes before an input's own effect

-- a request that is timed out now is due
over_is_due : (settings : Settings) (moment : ℕ) (r : Request) → is_over_limit settings moment r ≡ true → is_due settings moment (timed_out moment r) ≡ true
unfolding is_due is_over_limit
over_is_due settings moment r e = ap₂ (λ (a b : Bool). a && b) held (and_second (has_limit r) (nat_le (limit_moment settings r) moment) e)
  where
    open_now : is_pending r ≡ true
    open_now = and_first (is_pending r) _ (and_second (is_authentication r.body) (is_undecided r) (and_first (has_limit r) _ e))

    held : is_held (timed_out moment r) ≡ true
    held = open_now

timed_now : (settings : Settings) (moment : ℕ) (r : Request) → IsMarked r → IsTimed settings moment (timed_out_if_over settings moment r)
timed_now settings moment r p = by_test (IsTimed settings moment) (is_over_limit settings moment r) (timed_out moment r) r
    (λ e. record { decided = λ t. refl; replied = λ t. inr (over_is_due settings moment r e) })
    (λ e. record { decided = p.decided; replied = λ t. inl (p.replied t) })

replied_now : (settings : Settings) (moment : ℕ) (r : Request) → IsTimed settings moment r → IsMarked (replied_if_due settings moment r)
replied_now settings moment r p = by_test IsMarked (is_due settings moment r) (record r { replied = Some moment }) r
    (λ e. record { decided = p.decided; replied = λ t. refl })
    (λ e. record { decided = p.decided; replied = λ t. told (p.replied t) e })
  where
    told : (is_some r.replied ≡ true) ⊎ (is_due settings moment r ≡ true) → is_due settings moment r ≡ false → is_some r.replied ≡ true
    told (inl x) e = x
    told (inr x) e = absurd (true≢false (sym x ∙ e))

marked_before : (settings : Settings) (moment : ℕ) → BeforeEach settings moment (λ n. IsMarked) (λ n. IsTimed settings moment) (λ n. IsMarked)
marked_before settings moment = record { times_out = λ n. timed_now settings moment; replies = λ n. replied_now settings moment }

pub before_marked : (settings : Settings) (moment : ℕ) (input : Input) (tables : Tables) → AllMarked tables.requests → AllMarked (before_input settings moment input tables).requests
before_marked settings moment input tables p = each_before settings moment (λ n. IsMarked) (λ n. IsTimed settings moment) (λ n. IsMarked) (marked_before settings moment) input tables p

-- ---- the parts of an entry

pub keeps_marked : (settings : Settings) (moment : ℕ) (before : Tables) (entered : Input) → EachKeeps settings moment before entered (λ n. IsMarked)
keeps_marked settings moment before entered = record {
  text = λ n text r u p. record { decided = p.decided; replied = p.replied };
  answer = λ n db answer r u p. answer_marked db answer r p;
  late = λ n db answer r u p. by_test IsMarked (is_some r.decided && not r.is_timed_out) r (with_answer db answer r) (λ e. p) (λ e. answer_marked db answer r p);
  cancel = λ n r p. record { decided = p.decided; replied = p.replied };
  make = λ conn id random body m. record { decided = λ t. absurd (true≢false (sym t)); replied = λ t. absurd (true≢false (sym t)) };
  decide = λ n r d u e p. decision_marked settings moment r p;
}

pub history_marked : (settings : Settings) (h : List Entry) → AllMarked (tables_of settings h).requests
history_marked settings [] = no_rows (λ n. IsMarked)
history_marked settings (e ∷ g) =
    each_later settings (tables_of settings g) e (λ n. IsMarked) (keeps_marked settings e.moment (before_input settings e.moment e.input (tables_of settings g)) e.input)
    (before_marked settings e.moment e.input (tables_of settings g) (history_marked settings g))
