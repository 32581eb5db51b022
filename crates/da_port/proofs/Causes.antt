-- What a refusal says of the history that it comes after, and what an entry says of the one before it.
use Rattle.std.proofs.Common.{◌≡◌, ◌⊎◌, inl, inr, refl, sym, ◌∙◌, ap, ℕ, zero, suc, Bool, true, false, cond, nat_lt, nat_le, List, [], ◌∷◌, Option, Some, None, Result, Ok, Err, true≢false, arith}
use Rattle.std.proofs.lemmas.Bool.Decides.{nat_tests}
use Rattle.std.proofs.lemmas.Option.{none-some, same_Some}
use Rattle.std.specs.Result.{is_ok, result_unwrap_or}
use Rattle.da_base.specs.Words.{number_where, numbers_where, one_further, option_or_else}
use Rattle.da_fields.specs.declared.answer.Answer.{Answer}
use Rattle.da_play.specs.History.{tables_of}
use Rattle.da_play.specs.Legal.{entry_moment, is_full, late_from}
use Rattle.da_play.specs.Play.{history_after, input_refusal, late_refusal, next_entry, outputs, refusal, reply, unless}
use Rattle.da_play.specs.declared.input.Entry.{Entry}
use Rattle.da_play.specs.declared.input.Input.{Input}
use Rattle.da_play.specs.declared.input.Input.TheVariants.{Answered, Broken, Gone, Late, Line, Opened, Take, Tick}
use Rattle.da_play.specs.declared.outputs.Outputs.{Outputs}
use Rattle.da_play.specs.declared.outputs.Refused.{Refused}
use Rattle.da_play.specs.declared.outputs.Refused.TheVariants.{ConnLimit, HistoryFull, NoConn, NoMemory, NotLate, NotTaken, NothingWaits}
use Rattle.da_settings.specs.declared.settings.Settings.{Settings}
use Rattle.da_tables.specs.Queries.{first_waiting, is_running_in, is_waiting, waiting}
use Rattle.da_tables.specs.Tables.{is_open_in}
use Rattle.da_tables.specs.declared.tables.Tables.{Tables}

-- ---- a reply is an entry or a refusal

not_refused : {P : Type 0} (refused : Refused) (out : Outputs) → ◌≡◌ {A = Result Outputs Refused} (Err refused) (Ok out) → P
not_refused refused out e = absurd (true≢false (sym (ap (λ (r : Result Outputs Refused). is_ok r) e)))

not_given : {P : Type 0} (out : Outputs) (refused : Refused) → ◌≡◌ {A = Result Outputs Refused} (Ok out) (Err refused) → P
not_given out refused e = absurd (true≢false (ap (λ (r : Result Outputs Refused). is_ok r) e))

same_outputs : (given out : Outputs) → ◌≡◌ {A = Result Outputs Refused} (Ok given) (Ok out) → given ≡ out
same_outputs given out e = ap (λ (r : Result Outputs Refused). result_unwrap_or r given) e

abbrev refusal_in : Refused → Result Outputs Refused → Refused
refusal_in otherwise (Ok out) = otherwise
refusal_in otherwise (Err refused) = refused

same_refusal : (q r : Refused) → ◌≡◌ {A = Result Outputs Refused} (Err q) (Err r) → q ≡ r
same_refusal q r e = ap (refusal_in q) e

-- where the reply isn't a refusal, nothing refuses the input, and the history grows by its entry
pub record IsGiven (settings : Settings) (h : List Entry) (m : ℕ) (input : Input) (out : Outputs) : Type 0 where
  pub allowed : refusal settings h (entry_moment h m) input ≡ None
  pub gives : out ≡ outputs settings h (next_entry settings h m input)
  pub grows : history_after settings h m input ≡ next_entry settings h m input ∷ h

pub given_replies : (settings : Settings) (h : List Entry) (m : ℕ) (input : Input) (out : Outputs) → reply settings h m input ≡ Ok out → IsGiven settings h m input out
given_replies settings h m input out e = record { allowed = (go (refusal settings h (entry_moment h m) input) e).0; gives = (go (refusal settings h (entry_moment h m) input) e).1; grows = (go (refusal settings h (entry_moment h m) input) e).2 }
  where
    go : (o : Option Refused) → option_or_else o (Ok (outputs settings h (next_entry settings h m input))) (λ r. Err r) ≡ Ok out →
        (o ≡ None) × (out ≡ outputs settings h (next_entry settings h m input)) × (option_or_else o (next_entry settings h m input ∷ h) (λ r. h) ≡ next_entry settings h m input ∷ h)
    go None d = (refl, sym (same_outputs _ out d), refl)
    go (Some r) d = not_refused r out d

pub refused_replies : (settings : Settings) (h : List Entry) (m : ℕ) (input : Input) (refused : Refused) → reply settings h m input ≡ Err refused → refusal settings h (entry_moment h m) input ≡ Some refused
refused_replies settings h m input refused e = go (refusal settings h (entry_moment h m) input) e
  where
    go : (o : Option Refused) → option_or_else o (Ok (outputs settings h (next_entry settings h m input))) (λ r. Err r) ≡ Err refused → o ≡ Some refused
    go None d = not_given _ refused d
    go (Some r) d = ap (λ (q : Refused). Some q) (same_refusal r refused d)

-- ---- a full history comes before all other reasons

-- the history is full, and that is the reason, or it isn't and the input has this reason
abbrev FullOrNot : Settings → List Entry → ℕ → Input → Option Refused → Type 0
FullOrNot settings h moment input o =
    ((is_full settings h ≡ true) × (o ≡ Some HistoryFull)) ⊎ ((is_full settings h ≡ false) × (input_refusal settings (tables_of settings h) moment input ≡ o))

full_or_not : (settings : Settings) (h : List Entry) (moment : ℕ) (input : Input) (o : Option Refused) → refusal settings h moment input ≡ o → FullOrNot settings h moment input o
unfolding refusal
full_or_not settings h moment input o e = go (is_full settings h) refl e
  where
    go : (b : Bool) → is_full settings h ≡ b → cond b (Some HistoryFull) (input_refusal settings (tables_of settings h) moment input) ≡ o → FullOrNot settings h moment input o
    go true is d = inl (is, sym d)
    go false is d = inr (is, d)

unless_gives : (b : Bool) (r q : Refused) → unless b r ≡ Some q → (b ≡ false) × (r ≡ q)
unless_gives true r q e = absurd (none-some q e)
unless_gives false r q e = (refl, same_Some r q e)

unless_none : (b : Bool) (r : Refused) → unless b r ≡ None → b ≡ true
unless_none true r d = refl
unless_none false r d = absurd (none-some r (sym d))

-- ---- which refusals an input may have

abbrev pub is_history_full : Refused → Bool
is_history_full HistoryFull = true
is_history_full (ConnLimit count) = false
is_history_full (NoConn conn) = false
is_history_full NothingWaits = false
is_history_full (NotTaken query) = false
is_history_full (NotLate query due) = false
is_history_full NoMemory = false

late_is_other : (moment query : ℕ) (o : Option ℕ) (q : Refused) → late_refusal moment query o ≡ Some q → is_history_full q ≡ false
late_is_other moment query None q e = absurd (none-some q e)
late_is_other moment query (Some due) q e = sym (ap is_history_full (unless_gives (nat_le due moment) (NotLate query due) q e).1)

input_is_other : (settings : Settings) (tables : Tables) (moment : ℕ) (input : Input) (q : Refused) → input_refusal settings tables moment input ≡ Some q → is_history_full q ≡ false
input_is_other settings tables moment (Opened kind random) q e = sym (ap is_history_full (unless_gives _ _ q e).1)
input_is_other settings tables moment (Line conn text random) q e = sym (ap is_history_full (unless_gives _ _ q e).1)
input_is_other settings tables moment (Broken conn) q e = sym (ap is_history_full (unless_gives _ _ q e).1)
input_is_other settings tables moment (Gone conn) q e = sym (ap is_history_full (unless_gives _ _ q e).1)
input_is_other settings tables moment Take q e = sym (ap is_history_full (unless_gives _ _ q e).1)
input_is_other settings tables moment (Answered query answer) q e = sym (ap is_history_full (unless_gives _ _ q e).1)
input_is_other settings tables moment (Late query) q e = go (is_running_in tables query) e
  where
    go : (b : Bool) → cond b (late_refusal moment query (late_from settings tables query)) (Some (NotTaken query)) ≡ Some q → is_history_full q ≡ false
    go true d = late_is_other moment query (late_from settings tables query) q d
    go false d = sym (ap is_history_full (same_Some (NotTaken query) q d))
input_is_other settings tables moment Tick q e = absurd (none-some q e)

-- a call is refused by a full history exactly where it is full
pub full_where_told : (settings : Settings) (h : List Entry) (m : ℕ) (input : Input) → reply settings h m input ≡ Err HistoryFull → is_full settings h ≡ true
full_where_told settings h m input e = go (full_or_not settings h (entry_moment h m) input (Some HistoryFull) (refused_replies settings h m input HistoryFull e))
  where
    go : FullOrNot settings h (entry_moment h m) input (Some HistoryFull) → is_full settings h ≡ true
    go (inl (is, d)) = is
    go (inr (is, d)) = absurd (true≢false (input_is_other settings (tables_of settings h) (entry_moment h m) input HistoryFull d))

-- another refusal comes only where it isn't full, and is the input's own
pub own_refusal : (settings : Settings) (h : List Entry) (m : ℕ) (input : Input) (refused : Refused) → reply settings h m input ≡ Err refused → is_history_full refused ≡ false →
    (is_full settings h ≡ false) × (input_refusal settings (tables_of settings h) (entry_moment h m) input ≡ Some refused)
own_refusal settings h m input refused e other = go (full_or_not settings h (entry_moment h m) input (Some refused) (refused_replies settings h m input refused e))
  where
    go : FullOrNot settings h (entry_moment h m) input (Some refused) → (is_full settings h ≡ false) × (input_refusal settings (tables_of settings h) (entry_moment h m) input ≡ Some refused)
    go (inl (is, d)) = absurd (true≢false (sym (ap is_history_full (same_Some refused HistoryFull d)) ∙ other))
    go (inr both) = both

-- an entry comes only after a history that isn't full
pub not_full_before : (settings : Settings) (h : List Entry) (m : ℕ) (input : Input) (out : Outputs) → reply settings h m input ≡ Ok out → is_full settings h ≡ false
not_full_before settings h m input out e = go (full_or_not settings h (entry_moment h m) input None (given_replies settings h m input out e).allowed)
  where
    go : FullOrNot settings h (entry_moment h m) input None → is_full settings h ≡ false
    go (inl (is, d)) = absurd (none-some HistoryFull d)
    go (inr (is, d)) = is

-- ---- connections

abbrev conn_in : Refused → Option ℕ
conn_in (NoConn conn) = Some conn
conn_in HistoryFull = None
conn_in (ConnLimit count) = None
conn_in NothingWaits = None
conn_in (NotTaken query) = None
conn_in (NotLate query due) = None
conn_in NoMemory = None

-- a line, a broken line or an end is refused so only where the connection isn't open
closed_by : (settings : Settings) (h : List Entry) (m : ℕ) (input : Input) (conn told : ℕ) → input_refusal settings (tables_of settings h) (entry_moment h m) input ≡ unless (is_open_in (tables_of settings h) conn) (NoConn conn) →
    reply settings h m input ≡ Err (NoConn told) → (told ≡ conn) × (is_open_in (tables_of settings h) conn ≡ false)
closed_by settings h m input conn told is e =
    let own = own_refusal settings h m input (NoConn told) e refl in
    let gives = unless_gives (is_open_in (tables_of settings h) conn) (NoConn conn) (NoConn told) (sym is ∙ own.1) in
    (sym (same_Some conn told (ap conn_in gives.1)), gives.0)

pub not_open_for_line : (settings : Settings) (h : List Entry) (m conn : ℕ) (text random : List ℕ) (told : ℕ) → reply settings h m (Line conn text random) ≡ Err (NoConn told) → (told ≡ conn) × (is_open_in (tables_of settings h) conn ≡ false)
not_open_for_line settings h m conn text random told e = closed_by settings h m (Line conn text random) conn told refl e

pub not_open_for_broken : (settings : Settings) (h : List Entry) (m conn told : ℕ) → reply settings h m (Broken conn) ≡ Err (NoConn told) → (told ≡ conn) × (is_open_in (tables_of settings h) conn ≡ false)
not_open_for_broken settings h m conn told e = closed_by settings h m (Broken conn) conn told refl e

pub not_open_for_gone : (settings : Settings) (h : List Entry) (m conn told : ℕ) → reply settings h m (Gone conn) ≡ Err (NoConn told) → (told ≡ conn) × (is_open_in (tables_of settings h) conn ≡ false)
not_open_for_gone settings h m conn told e = closed_by settings h m (Gone conn) conn told refl e

-- ---- queries

abbrev query_in : Refused → Option ℕ
query_in (NotTaken query) = Some query
query_in HistoryFull = None
query_in (ConnLimit count) = None
query_in (NoConn conn) = None
query_in NothingWaits = None
query_in (NotLate query due) = None
query_in NoMemory = None

-- an answer is refused so only where the query doesn't run
pub not_running_for_answer : (settings : Settings) (h : List Entry) (m query : ℕ) (answer : Answer) (told : ℕ) → reply settings h m (Answered query answer) ≡ Err (NotTaken told) → (told ≡ query) × (is_running_in (tables_of settings h) query ≡ false)
not_running_for_answer settings h m query answer told e =
    let gives = unless_gives (is_running_in (tables_of settings h) query) (NotTaken query) (NotTaken told) (own_refusal settings h m (Answered query answer) (NotTaken told) e refl).1 in
    (sym (same_Some query told (ap query_in gives.1)), gives.0)

-- the reasons for which a Take is refused
abbrev pub is_take_refusal : Refused → Bool
is_take_refusal HistoryFull = true
is_take_refusal NothingWaits = true
is_take_refusal (ConnLimit count) = false
is_take_refusal (NoConn conn) = false
is_take_refusal (NotTaken query) = false
is_take_refusal (NotLate query due) = false
is_take_refusal NoMemory = false

pub take_refusal : (settings : Settings) (h : List Entry) (m : ℕ) (refused : Refused) → reply settings h m Take ≡ Err refused → is_take_refusal refused ≡ true
take_refusal settings h m refused e = go (full_or_not settings h (entry_moment h m) Take (Some refused) (refused_replies settings h m Take refused e))
  where
    go : FullOrNot settings h (entry_moment h m) Take (Some refused) → is_take_refusal refused ≡ true
    go (inl (is, d)) = ap is_take_refusal (same_Some refused HistoryFull d)
    go (inr (is, d)) = sym (ap is_take_refusal (unless_gives (nat_lt 0 (first_waiting (tables_of settings h))) NothingWaits refused d).1)

none_listed : {A : Type 0} (test : A → Bool) (k : ℕ) (xs : List A) → nat_lt 0 (number_where test xs) ≡ false → numbers_where test k xs ≡ []
none_listed test k [] e = refl
none_listed {A} test k (x ∷ xs) e = go (test x) (none_listed test (suc k) xs) e
  where
    no_further : (n : ℕ) → nat_lt 0 (one_further n) ≡ false → nat_lt 0 n ≡ false
    no_further zero d = d
    no_further (suc n) d = grind (arith, nat_tests, d)

    go : (b : Bool) → (nat_lt 0 (number_where test xs) ≡ false → numbers_where test (suc k) xs ≡ []) → nat_lt 0 (cond b 1 (one_further (number_where test xs))) ≡ false → cond b (k ∷ numbers_where test (suc k) xs) (numbers_where test (suc k) xs) ≡ []
    go true rest d = absurd (true≢false d)
    go false rest d = rest (no_further (number_where test xs) d)

-- a Take is refused so only where the history isn't full and no query waits
pub nothing_waits : (settings : Settings) (h : List Entry) (m : ℕ) → reply settings h m Take ≡ Err NothingWaits → (is_full settings h ≡ false) × (waiting (tables_of settings h) ≡ [])
nothing_waits settings h m e =
    let own = own_refusal settings h m Take NothingWaits e refl in
    (own.0, none_listed (is_waiting (tables_of settings h)) 1 (tables_of settings h).queries (unless_gives (nat_lt 0 (first_waiting (tables_of settings h))) NothingWaits NothingWaits own.1).0)

-- a Take that is recorded finds a query that waits
pub something_waits : (settings : Settings) (h : List Entry) (m : ℕ) → refusal settings h m Take ≡ None → nat_lt 0 (first_waiting (tables_of settings h)) ≡ true
something_waits settings h m e = go (full_or_not settings h m Take None e)
  where
    go : FullOrNot settings h m Take None → nat_lt 0 (first_waiting (tables_of settings h)) ≡ true
    go (inl (is, d)) = absurd (none-some HistoryFull d)
    go (inr (is, d)) = unless_none _ NothingWaits d

-- ---- what an entry says of the history before it

-- a line that is recorded finds its connection open
pub open_for_line : (settings : Settings) (h : List Entry) (m conn : ℕ) (text random : List ℕ) → refusal settings h m (Line conn text random) ≡ None → is_open_in (tables_of settings h) conn ≡ true
open_for_line settings h m conn text random e = go (full_or_not settings h m (Line conn text random) None e)
  where
    go : FullOrNot settings h m (Line conn text random) None → is_open_in (tables_of settings h) conn ≡ true
    go (inl (is, d)) = absurd (none-some HistoryFull d)
    go (inr (is, d)) = unless_none (is_open_in (tables_of settings h) conn) (NoConn conn) d
