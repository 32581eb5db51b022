-- A run with a good file, a good input and no fault is done, or wants memory.
use Rattle.std.proofs.Common.{◌≡◌, ℕ, suc, ◌^◌, List, [], ◌∷◌, ◌++◌, Option, Some, None, cond, sym, ap, ◌∙◌, subst, inl, inr, arith}
use Rattle.std.specs.Io.KnownBytes.{Consumes}
use Rattle.std.proofs.lemmas.Bool.{cases_Bool}
use Rattle.da_base.specs.Words.{Bytes}
use Rattle.da_outside.specs.Outside.{Outside}
use Rattle.da_tabline.specs.Lines.{line_cut}
use Rattle.da_stream.proofs.BadLineLemmas.{cut_again, cut_no_more, no_bad_line, not_longer}
use Rattle.da_settings.specs.declared.settings.Settings.{Settings}
use Rattle.da_play.specs.declared.input.Entry.{Entry}
use Rattle.da_play.specs.Legal.{is_full}
use Rattle.da_play.specs.Play.{Event, history_after}
use Rattle.da_script.specs.Events.{event_of}
use Rattle.da_script.specs.Scripts.{with_event, events_from}
use Rattle.da_command.specs.declared.status.Status.{Status}
use Rattle.da_command.specs.declared.status.Status.TheVariants.{Done, Usage, BadScript, LongScript, BadInput, NoSettings, NoListen, NoMemory, ReadFault, WriteFault, Full, BadSettings}
use Rattle.da_command.specs.Statuses.{IsDone}
use Rattle.da_command.proofs.SettingsFileLemmas.{no_fault, same_settings}
use Rattle.da_app.specs.Script.{is_event, full_from, first_full}
use Rattle.da_app.specs.Drive.{Drives, IsGood}

-- ---- an event that meets a full history does so, whatever follows

full_with : (s : Settings) (h : List Entry) (n : ℕ) (o : Option Event) (lines more : List Bytes) (line : ℕ)
    → ((after : List Entry) → full_from s after (suc n) (events_from lines) ≡ Some line → full_from s after (suc n) (events_from (lines ++ more)) ≡ Some line)
    → full_from s h n (with_event o (events_from lines)) ≡ Some line → full_from s h n (with_event o (events_from (lines ++ more))) ≡ Some line
full_with s h n None lines more line goes_on f = cc
full_with s h n (Some event) lines more line goes_on f =
    elim (cases_Bool (is_full s h)) [
      | inl full ↦ ap (λ b. cond b (Some n) (full_from s (history_after s h event.0 event.1) (suc n) (events_from (lines ++ more)))) full
          ∙ sym (ap (λ b. cond b (Some n) (full_from s (history_after s h event.0 event.1) (suc n) (events_from lines))) full) ∙ f
      | inr room ↦ ap (λ b. cond b (Some n) (full_from s (history_after s h event.0 event.1) (suc n) (events_from (lines ++ more)))) room
          ∙ goes_on (history_after s h event.0 event.1)
          (sym (ap (λ b. cond b (Some n) (full_from s (history_after s h event.0 event.1) (suc n) (events_from lines))) room) ∙ f)
    ]

full_from-append : (s : Settings) (h : List Entry) (n : ℕ) (lines more : List Bytes) (line : ℕ)
    → full_from s h n (events_from lines) ≡ Some line → full_from s h n (events_from (lines ++ more)) ≡ Some line
full_from-append s h n [] more line f = cc
full_from-append s h n (text ∷ lines) more line f =
    full_with s h n (event_of text) lines more line (λ after. full_from-append s after (suc n) lines more line) f

first_full-append : (s : Settings) (read rest : Bytes) (line : ℕ) → first_full s read ≡ Some line → first_full s (read ++ rest) ≡ Some line
first_full-append s read rest line f =
    elim (cases_Bool (line_cut 16384 read).is_long) [
      | inl long ↦ ap (λ ls. full_from s [] 1 (events_from ls)) (cut_no_more 16384 read rest long).0 ∙ f
      | inr short ↦
          ap (λ ls. full_from s [] 1 (events_from ls)) (cut_again 16384 read rest short)
          ∙ full_from-append s [] 1 (line_cut 16384 read).lines (line_cut 16384 ((line_cut 16384 read).rest ++ rest)).lines line f
    ]

meets_no_full : (s : Settings) (input read : Bytes) (left : Option Bytes) (line : ℕ) → Consumes (Some input) left read → first_full s input ≡ None
    → first_full s read ≡ Some line → ⊥
meets_no_full s input read None line reads room f = reads
meets_no_full s input read (Some rest) line reads room f =
    let clash = sym room ∙ ap (first_full s) reads ∙ first_full-append s read rest line f in cc

-- ---- the run

-- what was read is of the good input
of_input : (path : Bytes) (before after : Outside) (good : IsGood path before after) (read : Bytes) → Consumes before.input.left after.input.left read
    → Consumes (Some good.input) after.input.left read
of_input path before after good read reads = subst (λ (l : Option Bytes). Consumes l after.input.left read) good.left reads

pub completes : (path : Bytes) (before after : Outside) (status : Status) → Drives (Some path) before after status → IsGood path before after → IsDone status
completes path before after Done how good = tt
completes path before after Usage how good = how
completes path before after (BadScript line) how good =
    no_bad_line is_event 16384 good.input how.ran.read after.input line (of_input path before after good how.ran.read how.ran.reads) good.events how.ran.ends.0
completes path before after LongScript how good =
    not_longer good.input how.ran.read after.input.left (2 ^ 30) (of_input path before after good how.ran.read how.ran.reads) good.short
    (let few = how.ran.few in omega arith)
completes path before after BadInput how good = how.ran.ends
completes path before after NoSettings how good = good.files_sound how.0.rose
completes path before after NoListen how good = how.ran.ends
completes path before after NoMemory how good = tt
completes path before after ReadFault how good = good.input_sound how.ran.ends.0
completes path before after WriteFault how good = good.output_sound how.ran.ends.0
completes path before after Full how good =
    meets_no_full good.settings good.input how.ran.read after.input.left how.ran.ends.line (of_input path before after good how.ran.read how.ran.reads) good.has_room
    (subst (λ s. first_full s how.ran.read ≡ Some how.ran.ends.line)
    (same_settings path before.files after.files good.files good.settings good.held good.is_settings how.settings how.holds) how.ran.ends.meets)
completes path before after (BadSettings fault) how good = no_fault path before.files after.files good.files good.settings good.held good.is_settings fault how.0
