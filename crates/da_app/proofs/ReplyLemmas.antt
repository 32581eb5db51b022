-- Lemmas on the reply to an event, by what a step of the server answers.
use Rattle.std.proofs.Common.{◌≡◌, ℕ, Bool, true, false, List, ◌∷◌, cond, Option, Some, None, Result, Ok, Err, refl, sym, ap, ◌∙◌, subst, inl, inr}
use Rattle.std.proofs.lemmas.Bool.{cases_Bool}
use Rattle.std.proofs.lemmas.Option.{same_Some}
use Rattle.da_base.specs.Words.{Bytes, option_or_else}
use Rattle.da_play.specs.declared.input.Entry.{Entry}
use Rattle.da_play.specs.declared.input.Input.{Input}
use Rattle.da_play.specs.declared.input.Input.TheVariants.{Opened, Line, Broken, Gone, Take, Answered, Late, Tick}
use Rattle.da_play.specs.declared.outputs.Outputs.{Outputs}
use Rattle.da_play.specs.declared.outputs.Refused.{Refused}
use Rattle.da_play.specs.declared.outputs.Refused.TheVariants.{HistoryFull, ConnLimit, NoConn, NothingWaits, NotTaken, NotLate, NoMemory}
use Rattle.da_settings.specs.declared.settings.Settings.{Settings}
use Rattle.da_tables.specs.declared.tables.Tables.{Tables}
use Rattle.da_play.specs.History.{tables_of}
use Rattle.da_play.specs.Legal.{is_full, entry_moment, late_from}
use Rattle.da_tables.specs.Connections.{open_count}
use Rattle.da_tables.specs.Queries.{is_running_in}
use Rattle.da_play.specs.Play.{Event, unless, late_refusal, input_refusal, refusal, next_entry, outputs, reply, history_after}
use Rattle.da_play.specs.Steps.{IsRefused, IsEntered, Steps}
use Rattle.da_script.specs.Events.{event_of}
use Rattle.da_script.specs.Replies.{reply_text, outputs_text, refused_text}
use Rattle.da_app.specs.declared.play.LineStop.{LineStop}
use Rattle.da_app.specs.declared.play.LineStop.TheVariants.{NotEvent, Full as LineFull, WriteFault as LineWriteFault, NoMemory as LineNoMemory}
use Rattle.da_app.specs.Play.{Plays, Stage, StopsAtEvent, WritesReply, ending}

-- ---- a full history is told where the history is full, and nowhere else

full_refuses : (s : Settings) (h : List Entry) (m : ℕ) (input : Input) → is_full s h ≡ true → reply s h m input ≡ Err HistoryFull
unfolding refusal
full_refuses s h m input full =
    ap (λ (b : Bool). option_or_else {A = Refused} {B = Result Outputs Refused} (cond b (Some HistoryFull) (input_refusal s (tables_of s h) (entry_moment h m) input)) (Ok (outputs s h (next_entry s h m input))) (λ r. Err r)) full

abbrev is_other : Result Outputs Refused → Type 0
is_other (Ok out) = Unit {0}
is_other (Err HistoryFull) = ⊥
is_other (Err (ConnLimit count)) = Unit {0}
is_other (Err (NoConn conn)) = Unit {0}
is_other (Err NothingWaits) = Unit {0}
is_other (Err (NotTaken query)) = Unit {0}
is_other (Err (NotLate query due)) = Unit {0}
is_other (Err NoMemory) = Unit {0}

-- another reply was given
other_has_room : (s : Settings) (h : List Entry) (m : ℕ) (input : Input) (given : Result Outputs Refused) → is_other given
    → reply s h m input ≡ given → is_full s h ≡ false
other_has_room s h m input given other e =
    elim (cases_Bool (is_full s h)) [
      | inl full ↦ absurd (subst is_other (sym (sym (full_refuses s h m input full) ∙ e)) other)
      | inr room ↦ room
    ]

unless_not_full : (fine : Bool) (refused : Refused) → is_other (Err refused) → unless fine refused ≡ Some HistoryFull → ⊥
unless_not_full true refused other e = cc
unless_not_full false refused other e =
    let same : refused ≡ HistoryFull = cc in
    subst (λ (r : Refused). is_other (Err r)) same other

late_not_full : (moment query : ℕ) (due : Option ℕ) → late_refusal moment query due ≡ Some HistoryFull → ⊥
late_not_full moment query None e = cc
late_not_full moment query (Some due) e = unless_not_full _ (NotLate query due) tt e

late_query_not_full : (b : Bool) (moment query : ℕ) (due : Option ℕ) → cond b (late_refusal moment query due) (Some (NotTaken query)) ≡ Some HistoryFull → ⊥
late_query_not_full true moment query due e = late_not_full moment query due e
late_query_not_full false moment query due e = cc

input_not_full : (s : Settings) (st : Tables) (m : ℕ) (input : Input) → input_refusal s st m input ≡ Some HistoryFull → ⊥
input_not_full s st m (Opened kind random) e = unless_not_full _ (ConnLimit (open_count st)) tt e
input_not_full s st m (Line conn text random) e = unless_not_full _ (NoConn conn) tt e
input_not_full s st m (Broken conn) e = unless_not_full _ (NoConn conn) tt e
input_not_full s st m (Gone conn) e = unless_not_full _ (NoConn conn) tt e
input_not_full s st m Take e = unless_not_full _ NothingWaits tt e
input_not_full s st m (Answered query answer) e = unless_not_full _ (NotTaken query) tt e
input_not_full s st m (Late query) e = late_query_not_full (is_running_in st query) m query (late_from s st query) e
input_not_full s st m Tick e = cc

refusal_is : (o : Option Refused) (out : Outputs) (refused : Refused)
    → option_or_else {A = Refused} {B = Result Outputs Refused} o (Ok out) (λ r. Err r) ≡ Err refused → o ≡ Some refused
refusal_is None out refused e = cc
refusal_is (Some r) out refused e = cc

-- a full history was told
pub told_full : (s : Settings) (h : List Entry) (m : ℕ) (input : Input) → reply s h m input ≡ Err HistoryFull → is_full s h ≡ true
unfolding refusal
told_full s h m input e =
    elim (cases_Bool (is_full s h)) [
      | inl full ↦ full
      | inr room ↦
          let refuses : refusal s h (entry_moment h m) input ≡ Some HistoryFull =
          refusal_is (refusal s h (entry_moment h m) input) (outputs s h (next_entry s h m input)) HistoryFull e in
          let same : refusal s h (entry_moment h m) input ≡ input_refusal s (tables_of s h) (entry_moment h m) input =
          ap (λ (b : Bool). cond b (Some HistoryFull) (input_refusal s (tables_of s h) (entry_moment h m) input)) room in
          absurd (input_not_full s (tables_of s h) (entry_moment h m) input (sym same ∙ refuses))
    ]

-- ---- where the history stays

kept_by : (o : Option Refused) (out : Outputs) (new h : List Entry) (refused : Refused)
    → option_or_else {A = Refused} {B = Result Outputs Refused} o (Ok out) (λ r. Err r) ≡ Err refused → option_or_else o new (λ r. h) ≡ h
kept_by None out new h refused e = cc
kept_by (Some r) out new h refused e = refl

-- a refused event leaves the history as it was
refused_keeps : (s : Settings) (h : List Entry) (m : ℕ) (input : Input) (refused : Refused) → reply s h m input ≡ Err refused → history_after s h m input ≡ h
refused_keeps s h m input refused e =
    kept_by (refusal s h (entry_moment h m) input) (outputs s h (next_entry s h m input)) (next_entry s h m input ∷ h) h refused e

-- ---- the play of a line

module _ (n : ℕ) (line : Bytes) (event : Event) (old new : Stage) (spelled : event_of line ≡ Some event) where
  abbrev s : Settings
  s = old.server.settings

  abbrev h : List Entry
  h = old.server.history

  written_plays : (result : Result (Unit {0}) LineStop) → is_full s h ≡ false → new.server ≡ record old.server { history = history_after s h event.0 event.1 }
      → WritesReply (reply_text n (reply s h event.0 event.1)) old.output new.output result → Plays n line old new result
  written_plays (Ok done) room goes_on writes = record { event = event; spelled = spelled; has_room = room; writes = writes; goes_on = goes_on }
  written_plays (Err NotEvent) room goes_on writes = absurd writes
  written_plays (Err LineFull) room goes_on writes = absurd writes
  written_plays (Err LineWriteFault) room goes_on writes = record { event = event; spelled = spelled; front = writes }
  written_plays (Err LineNoMemory) room goes_on writes = writes

  -- an event that is an entry
  pub entered_plays : (result : Result (Unit {0}) LineStop) (out : Outputs) → IsEntered old.server new.server event.0 event.1 out
      → WritesReply (outputs_text n out) old.output new.output result → Plays n line old new result
  entered_plays result out enters writes =
      written_plays result (other_has_room s h event.0 event.1 (Ok out) tt enters.replies) enters.goes_on
      (subst (λ r. WritesReply (reply_text n r) old.output new.output result) (sym enters.replies) writes)

  -- an event that is refused, and the refusal is printed
  told_plays : (result : Result (Unit {0}) LineStop) (refused : Refused) → is_other (Err refused) → IsRefused old.server new.server event.0 event.1 refused
      → WritesReply (refused_text n refused) old.output new.output result → Plays n line old new result
  told_plays result refused other reported writes =
      written_plays result (other_has_room s h event.0 event.1 (Err refused) other reported.refuses)
      (reported.stays ∙ ap (λ (g : List Entry). record old.server { history = g }) (sym (refused_keeps s h event.0 event.1 refused reported.refuses)))
      (subst (λ r. WritesReply (reply_text n r) old.output new.output result) (sym reported.refuses) writes)

  pub refused_plays : (result : Result (Unit {0}) LineStop) (refused : Refused) → ending refused ≡ None → Steps old.server new.server event.0 event.1 (Err refused)
      → WritesReply (refused_text n refused) old.output new.output result → Plays n line old new result
  refused_plays result HistoryFull goes reported writes = cc
  refused_plays result (ConnLimit count) goes reported writes = told_plays result (ConnLimit count) tt reported writes
  refused_plays result (NoConn conn) goes reported writes = told_plays result (NoConn conn) tt reported writes
  refused_plays result NothingWaits goes reported writes = told_plays result NothingWaits tt reported writes
  refused_plays result (NotTaken query) goes reported writes = told_plays result (NotTaken query) tt reported writes
  refused_plays result (NotLate query due) goes reported writes = told_plays result (NotLate query due) tt reported writes
  refused_plays result NoMemory goes reported writes = cc

  -- an event that ends the play at once
  pub ended_plays : (stop : LineStop) (refused : Refused) → ending refused ≡ Some stop → Steps old.server new.server event.0 event.1 (Err refused)
      → new.output ≡ old.output → StopsAtEvent n line old new stop
  ended_plays stop HistoryFull ends reported same =
      subst (λ (t : LineStop). StopsAtEvent n line old new t) (same_Some _ _ ends)
      (record { event = event; spelled = spelled; full = told_full s h event.0 event.1 reported.refuses; unwritten = same })
  ended_plays stop (ConnLimit count) ends reported same = cc
  ended_plays stop (NoConn conn) ends reported same = cc
  ended_plays stop NothingWaits ends reported same = cc
  ended_plays stop (NotTaken query) ends reported same = cc
  ended_plays stop (NotLate query due) ends reported same = cc
  ended_plays stop NoMemory ends reported same = subst (λ (t : LineStop). StopsAtEvent n line old new t) (same_Some _ _ ends) same
