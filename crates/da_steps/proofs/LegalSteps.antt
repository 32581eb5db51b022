-- A step of play keeps a history legal.
use Rattle.std.proofs.Common.{◌≡◌, refl, sym, ◌∙◌, ap, Option, Some, None, List, [], ◌∷◌, ℕ, Bool, true, false, cond, not, ◌&&◌, is_some, nat_lt, nat_le, option_map, option_and_then, true≢false, arith}
use Rattle.std.proofs.lemmas.Option.{none-some}
use Rattle.da_tables.proofs.Cases.{both_true}
use Rattle.da_base.specs.Words.{nth, passes_option, option_or_else, later}
use Rattle.da_play.specs.History.{tables_of}
use Rattle.da_play.specs.Legal.{IsLegal, IsNext, is_full, is_allowed, late_from, entry_moment}
use Rattle.da_tables.specs.Connections.{open_count}
use Rattle.da_play.specs.Play.{hits, unless, late_refusal, input_refusal, refusal, next_entry, history_after}
use Rattle.da_tables.specs.Queries.{is_running, first_waiting, is_running_in}
use Rattle.da_tables.specs.Tables.{is_open_in}
use Rattle.da_play.specs.declared.input.Entry.{Entry}
use Rattle.da_play.specs.declared.input.Input.{Input}
use Rattle.da_play.specs.declared.input.Input.TheVariants.{Opened, Line, Broken, Gone, Take, Answered, Late, Tick}
use Rattle.da_play.specs.declared.outputs.Refused.{Refused}
use Rattle.da_play.specs.declared.outputs.Refused.TheVariants.{ConnLimit, NoConn, NothingWaits, NotTaken, NotLate}
use Rattle.da_settings.specs.declared.settings.Settings.{Settings}
use Rattle.da_tables.specs.declared.queries.QueryRow.{QueryRow}
use Rattle.da_tables.specs.declared.tables.Tables.{Tables}
use Rattle.da_play.specs.Legal.{ContinuedHits, EntryHits}
use Rattle.da_tables.specs.Hits.{hits_from, database_count}
use Rattle.da_play.specs.History.{after_input, before_input}
use Rattle.da_tables.specs.Tables.{AfterInput}
use Rattle.da_request.specs.declared.request.Request.{Request}
use Rattle.da_steps.proofs.HitsMade.{hits_are_hits}

some-none : {A : Type 0} (x : A) → Some x ≡ None → ⊥
some-none x e = none-some x (sym e)

unless_none : (b : Bool) (r : Refused) → unless b r ≡ None → b ≡ true
unless_none true r e = refl
unless_none false r e = absurd (some-none r e)

cond_none : (b : Bool) (r : Refused) (o : Option Refused) → cond b (Some r) o ≡ None → (b ≡ false) × (o ≡ None)
cond_none true r o e = absurd (some-none r e)
cond_none false r o e = (refl, e)

else_none : (b : Bool) (r : Refused) (o : Option Refused) → cond b o (Some r) ≡ None → (b ≡ true) × (o ≡ None)
else_none true r o e = (refl, e)
else_none false r o e = absurd (some-none r e)

late_passes : (moment query : ℕ) (o : Option ℕ) → is_some o ≡ true → late_refusal moment query o ≡ None → passes_option (λ late. nat_le late moment) o ≡ true
late_passes moment query None s e = absurd (true≢false (sym s))
late_passes moment query (Some due) s e = unless_none (nat_le due moment) (NotLate query due) e

taken_has_limit : (settings : Settings) (o : Option QueryRow) → passes_option is_running o ≡ true → is_some (option_and_then (λ a. option_map (λ taken. later taken settings.query_limit) a.taken) o) ≡ true
taken_has_limit settings None e = e
taken_has_limit settings (Some a) e = go a.taken e
  where
    go : (o : Option ℕ) → (is_some o && not (is_some a.answer)) ≡ true → is_some (option_map (λ taken. later taken settings.query_limit) o) ≡ true
    go None e = e
    go (Some t) e = refl

allowed_input : (settings : Settings) (tables : Tables) (moment : ℕ) (input : Input) → input_refusal settings tables moment input ≡ None → is_allowed settings tables moment input ≡ true
allowed_input settings tables moment (Opened kind random) e = unless_none (nat_lt (open_count tables) settings.connections) (ConnLimit (open_count tables)) e
allowed_input settings tables moment (Line conn text random) e = unless_none (is_open_in tables conn) (NoConn conn) e
allowed_input settings tables moment (Broken conn) e = unless_none (is_open_in tables conn) (NoConn conn) e
allowed_input settings tables moment (Gone conn) e = unless_none (is_open_in tables conn) (NoConn conn) e
allowed_input settings tables moment Take e = unless_none (nat_lt 0 (first_waiting tables)) NothingWaits e
allowed_input settings tables moment (Answered query answer) e = unless_none (is_running_in tables query) (NotTaken query) e
allowed_input settings tables moment (Late query) e =
    let both : (is_running_in tables query ≡ true) × (late_refusal moment query (late_from settings tables query) ≡ None) = else_none _ _ _ e in
    both_true (is_running_in tables query) _ both.0 (late_passes moment query (late_from settings tables query) (taken_has_limit settings (nth tables.queries query) both.0) both.1)
allowed_input settings tables moment Tick e = refl

made_for : (settings : Settings) (moment : ℕ) (tables : Tables) (o : Option Request) → ContinuedHits settings moment tables o (option_or_else o [] (hits_from (database_count settings) settings moment tables))
made_for settings moment tables None = refl
made_for settings moment tables (Some r) = hits_are_hits settings moment tables r

-- the hits that an entry is given are its hits
pub made_hits : (settings : Settings) (h : List Entry) (moment : ℕ) (input : Input) → EntryHits settings h moment input (hits settings h moment input)
unfolding hits
made_hits settings h moment input =
    let there : AfterInput = after_input settings moment input (before_input settings moment input (tables_of settings h)) in
    made_for settings moment (tables_of settings h) (option_and_then (nth there.tables.requests) there.continued)

next_is_next : (settings : Settings) (h : List Entry) (m : ℕ) (input : Input) → refusal settings h (entry_moment h m) input ≡ None → IsNext settings h (next_entry settings h m input)
unfolding refusal next_entry
next_is_next settings h m input e =
    let both : (is_full settings h ≡ false) × (input_refusal settings (tables_of settings h) (entry_moment h m) input ≡ None) = cond_none _ _ _ e in
    record { later_or_same = omega arith; has_room = both.0; is_allowed = allowed_input settings (tables_of settings h) (entry_moment h m) input both.1; hits = made_hits settings h (entry_moment h m) input }

pub legal_after : (settings : Settings) (h : List Entry) (m : ℕ) (input : Input) → IsLegal settings h → IsLegal settings (history_after settings h m input)
legal_after settings h m input l = go (refusal settings h (entry_moment h m) input) refl
  where
    go : (o : Option Refused) → refusal settings h (entry_moment h m) input ≡ o → IsLegal settings (option_or_else o (next_entry settings h m input ∷ h) (λ r. h))
    go None e = (l, next_is_next settings h m input e)
    go (Some r) e = l
