-- The play of several lines, and of a script.
use Rattle.std.proofs.Common.{◌≡◌, ℕ, suc, ◌+◌, ◌-◌, ◌^◌, ◌≤◌, true, false, List, [], ◌∷◌, ◌++◌, length, take, cond, Option, Some, None, refl, sym, ap, ◌∙◌, subst, inl, inr, arith, append-nil, append_assoc}
use Rattle.std.specs.Prelude.{is_some}
use Rattle.std.specs.List.{AllByRecursion}
use Rattle.std.specs.Io.KnownBytes.{Appends, Consumes}
use Rattle.std.proofs.KnownBytes.{Appends-nil, Appends-trans}
use Rattle.std.proofs.lemmas.List.{take_at}
use Rattle.da_base.specs.Words.{Bytes}
use Rattle.da_outside.specs.Sink.{SinkState}
use Rattle.da_outside.specs.Source.{SourceState}
use Rattle.da_tabline.specs.Lines.{line_cut}
use Rattle.da_stream.specs.declared.lines.LinesEnd.{LinesEnd}
use Rattle.da_stream.specs.declared.lines.LinesEnd.TheVariants.{Done as LinesDone, Cut, TooLong, LongInput, ReadFault as LinesReadFault, NoMemory as LinesNoMemory, Stopped}
use Rattle.da_stream.specs.BadLines.{first_bad}
use Rattle.da_stream.specs.LineRuns.{TakesLines, RunsOver, StopsAt}
use Rattle.da_stream.specs.Output.{Begins}
use Rattle.da_stream.proofs.BadLineLemmas.{none_at_end, none_yet, bad_cut, bad_long, bad_at}
use Rattle.da_settings.specs.declared.settings.Settings.{Settings}
use Rattle.da_play.specs.Legal.{is_full}
use Rattle.da_play.specs.Play.{Event, reply, history_after, play}
use Rattle.da_play.specs.Served.{Served}
use Rattle.da_script.specs.Events.{event_of}
use Rattle.da_script.specs.Replies.{reply_text, replies_text}
use Rattle.da_script.specs.Scripts.{with_event, events_from, events}
use Rattle.da_app.specs.declared.play.LineStop.{LineStop}
use Rattle.da_app.specs.declared.play.LineStop.TheVariants.{NotEvent, Full as LineFull, WriteFault as LineWriteFault, NoMemory as LineNoMemory}
use Rattle.da_command.specs.declared.status.Status.{Status}
use Rattle.da_command.specs.declared.status.Status.TheVariants.{Done, BadScript, LongScript, NoMemory, ReadFault, Full}
use Rattle.da_app.specs.Script.{is_event, full_from, first_full, output_of, output}
use Rattle.da_app.specs.Play.{Stage, PlaysEvent, StopsAtEvent, PlaysAll, Ends, IsLength, Ran, status_of_end, status_of_stop}

-- a line as the run over lines takes it
abbrev pub takes : ℕ → Bytes → Stage → Stage → Type 0
takes n line old new = PlaysEvent n line old new

abbrev pub stops : ℕ → Bytes → Stage → Stage → LineStop → Type 0
stops n line old new stop = StopsAtEvent n line old new stop

-- ---- the definitions at one more line

events_from-event : (line : Bytes) (more : List Bytes) (event : Event) → event_of line ≡ Some event → events_from (line ∷ more) ≡ event ∷ events_from more
events_from-event line more event e = ap (λ o. with_event o (events_from more)) e

events_from-none : (line : Bytes) (more : List Bytes) → event_of line ≡ None → events_from (line ∷ more) ≡ []
events_from-none line more e = ap (λ o. with_event o (events_from more)) e

is_event-some : (line : Bytes) (event : Event) → event_of line ≡ Some event → is_event line ≡ true
is_event-some line event e = ap (λ (o : Option Event). is_some o) e

is_event-none : (line : Bytes) → event_of line ≡ None → is_event line ≡ false
is_event-none line e = ap (λ (o : Option Event). is_some o) e

-- ---- several lines

-- the events of these lines were played, the first of them with the number n: what was written, and what any further
-- events will add
pub record PlayedLines (s : Settings) (n : ℕ) (lines : List Bytes) (old new : Stage) : Type 0 where
  pub known : List Event
  pub written : Bytes
  pub events : (more : List Bytes) → events_from (lines ++ more) ≡ known ++ events_from more
  pub as_many : length known ≡ length lines
  pub right : AllByRecursion (λ line. is_event line ≡ true) lines
  pub writes : Appends old.output.contents new.output.contents written
  pub later : old.output.faults ≤ new.output.faults
  pub output : (more : List Event) → replies_text n (play s old.server.history (known ++ more)) ≡ written ++ replies_text (n + length lines) (play s new.server.history more)
  pub full : (more : List Event) → full_from s old.server.history n (known ++ more) ≡ full_from s new.server.history (n + length lines) more
  pub settings : new.server.settings ≡ s

none_played : (s : Settings) (n : ℕ) (old : Stage) → old.server.settings ≡ s → PlayedLines s n [] old old
none_played s n old same =
    let at : n ≡ n + 0 = omega arith in
    record {
      known = [];
      written = [];
      events = λ more. refl;
      as_many = refl;
      right = tt;
      writes = Appends-nil old.output.contents;
      later = omega arith;
      output = λ more. ap (λ m. replies_text m (play s old.server.history more)) at;
      full = λ more. ap (λ m. full_from s old.server.history m more) at;
      settings = same;
    }

-- the settings and the history after an event
after_event : (s : Settings) (n : ℕ) (line : Bytes) (old mid : Stage) → old.server.settings ≡ s → (first : PlaysEvent n line old mid)
    → (mid.server.settings ≡ s) × (mid.server.history ≡ history_after s old.server.history first.event.0 first.event.1) × (is_full s old.server.history ≡ false)
after_event s n line old mid same first = (
  ap (λ (v : Served). v.settings) first.goes_on ∙ same,
  ap (λ (v : Served). v.history) first.goes_on ∙ ap (λ t. history_after t old.server.history first.event.0 first.event.1) same,
  subst (λ t. is_full t old.server.history ≡ false) same first.has_room,
)

one_played : (s : Settings) (n : ℕ) (line : Bytes) (lines : List Bytes) (old mid new : Stage) → old.server.settings ≡ s → PlaysEvent n line old mid
    → PlayedLines s (suc n) lines mid new → PlayedLines s n (line ∷ lines) old new
one_played s n line lines old mid new same first rest =
    let event = first.event in
    let h = old.server.history in
    let text = reply_text n (reply s h event.0 event.1) in
    let after = after_event s n line old mid same first in
    let at : suc n + length lines ≡ n + suc (length lines) = omega arith in
    record {
      known = event ∷ rest.known;
      written = text ++ rest.written;
      events = λ more. events_from-event line (lines ++ more) event first.spelled ∙ ap (λ es. event ∷ es) (rest.events more);
      as_many = ap (λ (k : ℕ). suc k) rest.as_many;
      right = (is_event-some line event first.spelled, rest.right);
      writes =
          Appends-trans old.output.contents mid.output.contents new.output.contents text rest.written
          (subst (λ t. Appends old.output.contents mid.output.contents (reply_text n (reply t h event.0 event.1))) same first.writes.writes) rest.writes;
      later = let one = first.writes.later in let two = rest.later in omega arith;
      output = λ more.
          ap (λ g. text ++ replies_text (suc n) (play s g (rest.known ++ more))) (sym after.1) ∙ ap (λ t. text ++ t) (rest.output more)
          ∙ sym (append_assoc text rest.written (replies_text (suc n + length lines) (play s new.server.history more)))
          ∙ ap (λ m. (text ++ rest.written) ++ replies_text m (play s new.server.history more)) at;
      full = λ more.
          ap (λ b. cond b (Some n) (full_from s (history_after s h event.0 event.1) (suc n) (rest.known ++ more))) after.2
          ∙ ap (λ g. full_from s g (suc n) (rest.known ++ more)) (sym after.1) ∙ rest.full more ∙ ap (λ m. full_from s new.server.history m more) at;
      settings = rest.settings;
    }

played_lines : (s : Settings) (n : ℕ) (lines : List Bytes) (old new : Stage) → old.server.settings ≡ s → TakesLines takes n lines old new → PlayedLines s n lines old new
played_lines s n [] old new same all = subst (λ (v : Stage). PlayedLines s n [] old v) (sym all) (none_played s n old same)
played_lines s n (line ∷ lines) old new same all =
    one_played s n line lines old all.0 new same all.1
    (played_lines s (suc n) lines all.0 new (after_event s n line old all.0 same all.1).0 all.2)

-- ---- the ends of a script

module _ (s : Settings) (input input_after : SourceState) (old new : Stage) (same : old.server.settings ≡ s) (empty : old.server.history ≡ []) where
  -- the first of the lines of these bytes were played
  module _ (read : Bytes) (taken others : List Bytes) (are_lines : (line_cut 16384 read).lines ≡ taken ++ others) (mid : Stage) (run : PlayedLines s 1 taken old mid) where
    events_are : events read ≡ run.known ++ events_from others
    events_are = ap events_from are_lines ∙ run.events others

    output_is : output s read ≡ run.written ++ replies_text (1 + length taken) (play s mid.server.history (events_from others))
    output_is = ap (output_of s) events_are ∙ ap (λ h. replies_text 1 (play s h (run.known ++ events_from others))) (sym empty) ∙ run.output (events_from others)

    full_is : first_full s read ≡ full_from s mid.server.history (1 + length taken) (events_from others)
    full_is = ap (full_from s [] 1) events_are ∙ ap (λ h. full_from s h 1 (run.known ++ events_from others)) (sym empty) ∙ run.full (events_from others)

    -- and no event comes after them
    all_played : events_from others ≡ [] → PlaysAll s read run.written
    all_played none =
        record {
          has_room = full_is ∙ ap (full_from s mid.server.history (1 + length taken)) none;
          writes =
              sym (output_is ∙ ap (λ es. run.written ++ replies_text (1 + length taken) (play s mid.server.history es)) none ∙ append-nil run.written);
        }

    begins : Begins run.written (output s read)
    begins = record { rest = replies_text (1 + length taken) (play s mid.server.history (events_from others)); is_whole = output_is }

  -- all whole lines of these bytes were played
  ran_all : (read cut : Bytes) (status : Status) (run : PlayedLines s 1 (line_cut 16384 cut).lines old new) → Consumes input.left input_after.left read → IsLength (length read) status
      → (PlaysAll s cut run.written → Ends s input input_after old.output new.output read run.written status) → Ran s input input_after old.output new.output status
  ran_all read cut status run reads few ends =
      record {
        read = read;
        written = run.written;
        reads = reads;
        few = few;
        writes = run.writes;
        ends = ends (all_played cut (line_cut 16384 cut).lines [] (sym (append-nil (line_cut 16384 cut).lines)) new run refl);
      }

  -- the first of the lines read were played, and nothing more was written
  ran_first : (read : Bytes) (taken : List Bytes) (status : Status) (mid : Stage) (run : PlayedLines s 1 taken old mid) → new.output ≡ mid.output
      → Consumes input.left input_after.left read → IsLength (length read) status → Ends s input input_after old.output new.output read run.written status
      → Ran s input input_after old.output new.output status
  ran_first read taken status mid run unwritten reads few ends =
      record {
        read = read;
        written = run.written;
        reads = reads;
        few = few;
        writes = subst (λ (o : SinkState). Appends old.output.contents o.contents run.written) (sym unwritten) run.writes;
        ends = ends;
      }

  module _ (read : Bytes) (number : ℕ) (reads : Consumes input.left input_after.left read) (few : length read ≤ 2 ^ 30) where
    -- the handler ended the run
    ran_stopped : (stop : LineStop) → StopsAt takes stops 16384 read old new number stop → Ran s input input_after old.output new.output (status_of_stop number stop)
    ran_stopped NotEvent how =
        let run = played_lines s 1 how.taken old how.mid same how.took in
        let bad : first_bad is_event 16384 read ≡ Some number =
        bad_at is_event 16384 read how.taken how.line how.others how.are_lines run.right (is_event-none how.line how.stopped.0)
        ∙ ap (λ (m : ℕ). Some m) (sym how.is_number) in
        ran_first read how.taken (BadScript number) how.mid run how.stopped.1 reads few
        (inl bad, all_played read how.taken (how.line ∷ how.others) how.are_lines how.mid run (events_from-none how.line how.others how.stopped.0))
    ran_stopped LineFull how =
        let run = played_lines s 1 how.taken old how.mid same how.took in
        let meets = how.stopped in
        let others = how.line ∷ how.others in
        let next : events_from others ≡ meets.event ∷ events_from how.others = events_from-event how.line how.others meets.event meets.spelled in
        let full : is_full s how.mid.server.history ≡ true = subst (λ t. is_full t how.mid.server.history ≡ true) run.settings meets.full in
        let many = run.as_many in
        let before_it : take (1 + length how.taken - 1) (events read) ≡ run.known =
        ap (take (1 + length how.taken - 1)) (events_are read how.taken others how.are_lines how.mid run)
        ∙ take_at run.known (events_from others) (1 + length how.taken - 1) (omega arith) in
        ran_first read how.taken Full how.mid run meets.unwritten reads few
        (record {
          line = 1 + length how.taken;
          meets =
              full_is read how.taken others how.are_lines how.mid run ∙ ap (full_from s how.mid.server.history (1 + length how.taken)) next
              ∙ ap (λ b. cond b (Some (1 + length how.taken)) (full_from s (history_after s how.mid.server.history meets.event.0 meets.event.1) (suc (1 + length how.taken)) (events_from how.others))) full;
          writes =
              sym (ap (output_of s) (before_it ∙ sym (append-nil run.known)) ∙ ap (λ h. replies_text 1 (play s h (run.known ++ []))) (sym empty) ∙ run.output []
              ∙ append-nil run.written);
        })
    ran_stopped LineWriteFault how =
        let run = played_lines s 1 how.taken old how.mid same how.took in
        let plays = how.stopped in
        let event = plays.event in
        let h = how.mid.server.history in
        let others = how.line ∷ how.others in
        let text = reply_text number (reply s h event.0 event.1) in
        let front = plays.front.front in
        let more = replies_text (suc number) (play s (history_after s h event.0 event.1) (events_from how.others)) in
        let next : events_from others ≡ event ∷ events_from how.others = events_from-event how.line how.others event plays.spelled in
        let at : 1 + length how.taken ≡ number = let is = how.is_number in omega arith in
        let whole : text ≡ front ++ plays.front.begins.rest =
        ap (λ t. reply_text number (reply t h event.0 event.1)) (sym run.settings) ∙ plays.front.begins.is_whole in
        record {
          read = read;
          written = run.written ++ front;
          reads = reads;
          few = few;
          writes = Appends-trans old.output.contents how.mid.output.contents new.output.contents run.written front run.writes plays.front.writes;
          ends = (
            let later = run.later in let rose = plays.front.rose in omega arith,
            record {
              rest = plays.front.begins.rest ++ more;
              is_whole =
                  output_is read how.taken others how.are_lines how.mid run ∙ ap (λ m. run.written ++ replies_text m (play s h (events_from others))) at
                  ∙ ap (λ es. run.written ++ replies_text number (play s h es)) next ∙ ap (λ t. run.written ++ (t ++ more)) whole
                  ∙ ap (λ t. run.written ++ t) (append_assoc front plays.front.begins.rest more)
                  ∙ sym (append_assoc run.written front (plays.front.begins.rest ++ more));
            },
          );
        }
    ran_stopped LineNoMemory how =
        let run = played_lines s 1 how.taken old how.mid same how.took in
        ran_first read how.taken NoMemory how.mid run how.stopped reads few (begins read how.taken (how.line ∷ how.others) how.are_lines how.mid run)

  pub ran : (end : LinesEnd LineStop) → RunsOver takes stops 16384 input input_after old new end → Ran s input input_after old.output new.output (status_of_end end)
  ran LinesDone run =
      let played = played_lines s 1 (line_cut 16384 run.read).lines old new same run.ends.0.took in
      ran_all run.read run.read Done played run.reads run.few
      (λ all. (run.ends.0.ended, none_at_end is_event 16384 run.read played.right run.ends.0.fits run.ends.1, all))
  ran (Cut line) run =
      let played = played_lines s 1 (line_cut 16384 run.read).lines old new same run.ends.0.took in
      let bad = bad_cut is_event 16384 run.read played.right run.ends.1 ∙ ap (λ (m : ℕ). Some m) (sym run.ends.2) in
      ran_all run.read run.read (BadScript line) played run.reads run.few (λ all. (inr (run.ends.0.ended, bad), all))
  ran (TooLong line) run =
      let played = played_lines s 1 (line_cut 16384 run.read).lines old new same run.ends.0 in
      let bad = bad_long is_event 16384 run.read played.right run.ends.1 ∙ ap (λ (m : ℕ). Some m) (sym run.ends.2) in
      ran_all run.read run.read (BadScript line) played run.reads run.few (λ all. (inl bad, all))
  ran LongInput run =
      let cut = take (2 ^ 30) run.read in
      let played = played_lines s 1 (line_cut 16384 cut).lines old new same run.ends.0 in
      ran_all run.read cut LongScript played run.reads run.few (λ all. (none_yet is_event 16384 cut played.right run.ends.1, all))
  ran LinesReadFault run =
      let played = played_lines s 1 (line_cut 16384 run.read).lines old new same run.ends.0 in
      ran_all run.read run.read ReadFault played run.reads run.few (λ all. (run.ends.2, none_yet is_event 16384 run.read played.right run.ends.1, all))
  ran LinesNoMemory run =
      let played = played_lines s 1 run.ends.taken old new same run.ends.took in
      ran_first run.read run.ends.taken NoMemory new played refl run.reads run.few
      (begins run.read run.ends.taken run.ends.others run.ends.are_lines new played)
  ran (Stopped line stop) run = ran_stopped run.read line run.reads run.few stop run.ends
