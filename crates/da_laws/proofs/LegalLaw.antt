-- What is played is legal.
use Rattle.std.proofs.Common.{◌≡◌, refl, sym, ◌∙◌, ap, Option, Some, None, List, [], ◌∷◌, ◌++◌, map, reverse, ℕ, ◌≤◌, Bool, true, false, cond, nat_lt, nat_le, option_and_then, arith}
use Rattle.std.proofs.lemmas.List.{reverse-append, map-append}
use Rattle.da_laws.proofs.HitsLaw.{hits_are_unique}
use Rattle.da_tables.proofs.Cases.{and_first, and_second}
use Rattle.da_base.specs.Words.{nth, passes_option, option_or_else}
use Rattle.da_play.specs.History.{before_input, tables_of}
use Rattle.da_play.specs.Legal.{IsLegal, IsNext, is_full, is_allowed, late_from, last_moment, entry_moment}
use Rattle.da_tables.specs.Connections.{open_count}
use Rattle.da_play.specs.Play.{Event, hits, unless, late_refusal, input_refusal, refusal, next_entry, history_after, played}
use Rattle.da_laws.specs.PlayLaws.{PlaysAreLegal, LegalIsPlayed}
use Rattle.da_play.specs.Play.{event_of, events_of}
use Rattle.da_tables.specs.Queries.{first_waiting, is_running_in}
use Rattle.da_tables.specs.Tables.{is_open_in}
use Rattle.da_play.specs.declared.input.Entry.{Entry}
use Rattle.da_play.specs.declared.input.Input.{Input}
use Rattle.da_play.specs.declared.input.Input.TheVariants.{Opened, Line, Broken, Gone, Take, Answered, Late, Tick}
use Rattle.da_play.specs.declared.outputs.Refused.{Refused}
use Rattle.da_play.specs.declared.outputs.Refused.TheVariants.{HistoryFull, ConnLimit, NoConn, NothingWaits, NotTaken, NotLate}
use Rattle.da_settings.specs.declared.settings.Settings.{Settings}
use Rattle.da_tables.specs.declared.tables.Tables.{Tables}
use Rattle.da_play.specs.Legal.{ContinuedHits}
use Rattle.da_play.specs.History.{after_input}
use Rattle.da_tables.specs.Tables.{AfterInput}
use Rattle.da_request.specs.declared.request.Request.{Request}
use Rattle.da_steps.proofs.LegalSteps.{made_hits, legal_after}

legal_played : (settings : Settings) (events : List (ℕ × Input)) (h : List Entry) → IsLegal settings h → IsLegal settings (played settings h events)
legal_played settings [] h l = l
legal_played settings (event ∷ events) h l = legal_played settings events (history_after settings h event.0 event.1) (legal_after settings h event.0 event.1 l)

pub plays_are_legal : PlaysAreLegal
plays_are_legal settings events = legal_played settings events [] tt

-- ---- a legal history is the one that its own events play

entry_of : ℕ → Input → List ℕ → Entry
entry_of moment input ns = record { moment = moment; input = input; hits = ns }

played_more : (settings : Settings) (xs ys : List Event) (h : List Entry) → played settings h (xs ++ ys) ≡ played settings (played settings h xs) ys
played_more settings [] ys h = refl
played_more settings (x ∷ xs) ys h = played_more settings xs ys (history_after settings h x.0 x.1)

events_more : (e : Entry) (g : List Entry) → events_of (e ∷ g) ≡ events_of g ++ (e.moment, e.input) ∷ []
events_more e g = ap (map event_of) (reverse-append (e ∷ []) g) ∙ map-append event_of (reverse g) (e ∷ [])

same_hits : (settings : Settings) (moment : ℕ) (tables : Tables) (o : Option Request) (ms ns : List ℕ) → ContinuedHits settings moment tables o ms → ContinuedHits settings moment tables o ns → ms ≡ ns
same_hits settings moment tables None ms ns a b = a ∙ sym b
same_hits settings moment tables (Some r) ms ns a b = hits_are_unique settings moment tables r ms ns a b

unless_true : (b : Bool) (r : Refused) → b ≡ true → unless b r ≡ None
unless_true b r e = ap (λ x. unless x r) e

late_none : (moment query : ℕ) (o : Option ℕ) → passes_option (λ late. nat_le late moment) o ≡ true → late_refusal moment query o ≡ None
late_none moment query None e = refl
late_none moment query (Some due) e = unless_true (nat_le due moment) (NotLate query due) e

input_allowed : (settings : Settings) (tables : Tables) (moment : ℕ) (input : Input) → is_allowed settings tables moment input ≡ true → input_refusal settings tables moment input ≡ None
input_allowed settings tables moment (Opened kind random) e = unless_true (nat_lt (open_count tables) settings.connections) (ConnLimit (open_count tables)) e
input_allowed settings tables moment (Line conn text random) e = unless_true (is_open_in tables conn) (NoConn conn) e
input_allowed settings tables moment (Broken conn) e = unless_true (is_open_in tables conn) (NoConn conn) e
input_allowed settings tables moment (Gone conn) e = unless_true (is_open_in tables conn) (NoConn conn) e
input_allowed settings tables moment Take e = unless_true (nat_lt 0 (first_waiting tables)) NothingWaits e
input_allowed settings tables moment (Answered query answer) e = unless_true (is_running_in tables query) (NotTaken query) e
input_allowed settings tables moment (Late query) e =
    ap (λ b. cond b (late_refusal moment query (late_from settings tables query)) (Some (NotTaken query))) (and_first (is_running_in tables query) _ e)
    ∙ late_none moment query (late_from settings tables query) (and_second (is_running_in tables query) _ e)
input_allowed settings tables moment Tick e = refl

none_refused : (settings : Settings) (g : List Entry) (moment : ℕ) (input : Input) → is_full settings g ≡ false → is_allowed settings (tables_of settings g) moment input ≡ true → refusal settings g moment input ≡ None
unfolding refusal
none_refused settings g moment input room allowed =
    ap (λ b. cond b (Some HistoryFull) (input_refusal settings (tables_of settings g) moment input)) room
    ∙ input_allowed settings (tables_of settings g) moment input allowed

same_moment : (g : List Entry) (m : ℕ) → last_moment g ≤ m → entry_moment g m ≡ m
same_moment g m h = omega (arith, h)

same_entry : (settings : Settings) (g : List Entry) (e : Entry) → IsNext settings g e → next_entry settings g e.moment e.input ≡ e
unfolding next_entry entry_of
same_entry settings g e n =
    let there : AfterInput = after_input settings e.moment e.input (before_input settings e.moment e.input (tables_of settings g)) in
    ap (λ m. entry_of m e.input (hits settings g m e.input)) (same_moment g e.moment n.later_or_same)
    ∙ ap (entry_of e.moment e.input)
    (same_hits settings e.moment (tables_of settings g) (option_and_then (nth there.tables.requests) there.continued) (hits settings g e.moment e.input) e.hits
    (made_hits settings g e.moment e.input) n.hits)

one_more : (settings : Settings) (g : List Entry) (e : Entry) → IsNext settings g e → history_after settings g e.moment e.input ≡ e ∷ g
one_more settings g e n =
    ap (λ o. option_or_else o (next_entry settings g e.moment e.input ∷ g) (λ r. g))
    (ap (λ m. refusal settings g m e.input) (same_moment g e.moment n.later_or_same) ∙ none_refused settings g e.moment e.input n.has_room n.is_allowed)
    ∙ ap (λ x. x ∷ g) (same_entry settings g e n)

pub legal_is_played : LegalIsPlayed
legal_is_played settings [] l = refl
legal_is_played settings (e ∷ g) l =
    ap (played settings []) (events_more e g)
    ∙ played_more settings (events_of g) ((e.moment, e.input) ∷ []) []
    ∙ ap (λ k. history_after settings k e.moment e.input) (legal_is_played settings g l.0)
    ∙ one_more settings g e l.1
