-- The answers to several lines, and to an input.
use Rattle.std.proofs.Common.{◌≡◌, ℕ, suc, ◌+◌, ◌^◌, ◌≤◌, true, false, List, [], ◌∷◌, ◌++◌, length, map, take, Option, Some, None, refl, sym, ap, ◌∙◌, subst, inl, inr, arith, append-nil, append_assoc}
use Rattle.std.specs.Prelude.{option_to_list, is_some}
use Rattle.std.specs.List.{AllByRecursion}
use Rattle.std.specs.Io.KnownBytes.{Appends, Consumes}
use Rattle.std.proofs.KnownBytes.{Appends-nil, Appends-trans}
use Rattle.std.proofs.lemmas.List.{map-append}
use Rattle.std.proofs.lemmas.List.Concat.{flat_map-append}
use Rattle.da_base.specs.Words.{Bytes}
use Rattle.da_outside.specs.FileReads.{ReadsFiles}
use Rattle.da_outside.specs.Files.{FilesState}
use Rattle.da_outside.specs.Outside.{Outside}
use Rattle.da_outside.specs.Sink.{SinkState}
use Rattle.da_outside.specs.Source.{SourceState}
use Rattle.da_outside.proofs.FileReadLemmas.{ReadsFiles-nil, ReadsFiles-trans, ReadsFiles-kept}
use Rattle.da_tabline.specs.Lines.{line_cut}
use Rattle.da_stream.specs.declared.lines.LinesEnd.{LinesEnd}
use Rattle.da_stream.specs.declared.lines.LinesEnd.TheVariants.{Done as LinesDone, Cut, TooLong, LongInput as LongLines, ReadFault as LinesReadFault, NoMemory as LinesNoMemory, Stopped}
use Rattle.da_stream.specs.LineRuns.{TakesLines, RunsOver, StopsAt}
use Rattle.da_stream.specs.Output.{Begins}
use Rattle.da_stream.proofs.BadLineLemmas.{none_at_end, none_yet, bad_cut, bad_long, bad_at}
use Rattle.da_fields.specs.declared.answer.Query.{Query}
use Rattle.da_query.specs.Queries.{query_of}
use Rattle.da_worker.specs.declared.answering.LineStop.{LineStop}
use Rattle.da_worker.specs.declared.answering.LineStop.TheVariants.{NotQuery, WriteFault as LineWriteFault, NoMemory as LineNoMemory}
use Rattle.da_worker.specs.declared.worker.WorkerStatus.{WorkerStatus}
use Rattle.da_worker.specs.declared.worker.WorkerStatus.TheVariants.{Done, BadInput, LongInput, ReadFault, NoMemory}
use Rattle.da_worker.specs.AnsweredQueries.{AnsweredQuery, IsAnsweredQuery, answered_text, path_of, queries_of, reads_of, texts}
use Rattle.da_worker.specs.Answering.{Workplace, AnswersLine, StopsAtLine, ReadsIts}
use Rattle.da_stream.specs.BadLines.{first_bad}
use Rattle.da_worker.specs.Run.{is_query, with_query, queries_from, queries, AnswersAll, AnswersFirst, Ends, IsLength, Ran}
use Rattle.da_worker.specs.Statuses.{status_of_end, status_of_stop}

-- a line as the run over lines takes it
abbrev pub takes : ℕ → Bytes → Workplace → Workplace → Type 0
takes n line before after = AnswersLine line before after

abbrev pub stops : ℕ → Bytes → Workplace → Workplace → LineStop → Type 0
stops n line before after stop = StopsAtLine line before after stop

-- ---- the definitions at one more line

queries_from-query : (line : Bytes) (more : List Bytes) (query : Query) → query_of line ≡ Some query → queries_from (line ∷ more) ≡ query ∷ queries_from more
queries_from-query line more query e = ap (λ o. with_query o (queries_from more)) e

queries_from-none : (line : Bytes) (more : List Bytes) → query_of line ≡ None → queries_from (line ∷ more) ≡ []
queries_from-none line more e = ap (λ o. with_query o (queries_from more)) e

is_query-some : (line : Bytes) (query : Query) → query_of line ≡ Some query → is_query line ≡ true
is_query-some line query e = ap (λ (o : Option Query). is_some o) e

is_query-none : (line : Bytes) → query_of line ≡ None → is_query line ≡ false
is_query-none line e = ap (λ (o : Option Query). is_some o) e

texts-append : (one two : List AnsweredQuery) → texts (one ++ two) ≡ texts one ++ texts two
texts-append one two = flat_map-append answered_text one two

queries_of-append : (one two : List AnsweredQuery) → queries_of (one ++ two) ≡ queries_of one ++ queries_of two
queries_of-append one two = map-append (λ (t : AnsweredQuery). t.query) one two

reads_of-append : (one two : List AnsweredQuery) → reads_of (one ++ two) ≡ reads_of one ++ reads_of two
reads_of-append one two = flat_map-append (λ (t : AnsweredQuery). option_to_list t.read) one two

texts-one : (one : AnsweredQuery) → texts (one ∷ []) ≡ answered_text one
texts-one one = append-nil (answered_text one)

reads_of-one : (one : AnsweredQuery) → reads_of (one ∷ []) ≡ option_to_list one.read
reads_of-one one = append-nil (option_to_list one.read)

AllByRecursion-append : {A : Type 0} (P : A → Type 0) (one two : List A) → AllByRecursion P one → AllByRecursion P two → AllByRecursion P (one ++ two)
AllByRecursion-append P [] two a b = b
AllByRecursion-append P (x ∷ one) two a b = (a.0, AllByRecursion-append P one two a.1 b)

-- ---- several lines

-- the queries of these lines were answered
pub record AnsweredLines (lines : List Bytes) (before after : Workplace) : Type 0 where
  pub answered : List AnsweredQuery
  pub asked : (more : List Bytes) → queries_from (lines ++ more) ≡ queries_of answered ++ queries_from more
  pub right : AllByRecursion (λ line. is_query line ≡ true) lines
  pub writes : Appends before.output.contents after.output.contents (texts answered)
  pub later : before.output.faults ≤ after.output.faults
  pub are_answered : AllByRecursion (IsAnsweredQuery before.pass before.users before.files.held) answered
  pub files : ReadsFiles before.files after.files (reads_of answered)
  pub pass : after.pass ≡ before.pass
  pub users : after.users ≡ before.users

none_answered : (before : Workplace) → AnsweredLines [] before before
none_answered before =
    record {
      answered = [];
      asked = λ more. refl;
      right = tt;
      writes = Appends-nil before.output.contents;
      later = omega arith;
      are_answered = tt;
      files = ReadsFiles-nil before.files;
      pass = refl;
      users = refl;
    }

-- what is answered from a later moment on was so by the same paths and files
same_answered : (before mid : Workplace) (answered : List AnsweredQuery) → mid.pass ≡ before.pass → mid.users ≡ before.users → mid.files.held ≡ before.files.held
    → AllByRecursion (IsAnsweredQuery mid.pass mid.users mid.files.held) answered → AllByRecursion (IsAnsweredQuery before.pass before.users before.files.held) answered
same_answered before mid answered pass users held all =
    subst (λ h. AllByRecursion (IsAnsweredQuery before.pass before.users h) answered) held
    (subst (λ u. AllByRecursion (IsAnsweredQuery before.pass u mid.files.held) answered) users
    (subst (λ p. AllByRecursion (IsAnsweredQuery p mid.users mid.files.held) answered) pass all))

one_answered : (line : Bytes) (lines : List Bytes) (before mid after : Workplace) → AnswersLine line before mid → AnsweredLines lines mid after
    → AnsweredLines (line ∷ lines) before after
one_answered line lines before mid after first rest =
    let one : AnsweredQuery = record { query = first.query; read = first.answers.reads.read } in
    let held = first.answers.reads.files.held in
    record {
      answered = one ∷ rest.answered;
      asked = λ more. queries_from-query line (lines ++ more) first.query first.spelled ∙ ap (λ qs. first.query ∷ qs) (rest.asked more);
      right = (is_query-some line first.query first.spelled, rest.right);
      writes =
          Appends-trans before.output.contents mid.output.contents after.output.contents (answered_text one) (texts rest.answered) first.answers.writes.writes rest.writes;
      later = let a = first.answers.writes.later in let b = rest.later in omega arith;
      are_answered = (first.answers.reads.is_its, same_answered before mid rest.answered first.paths.pass first.paths.users held rest.are_answered);
      files =
          ReadsFiles-trans before.files mid.files after.files (option_to_list one.read) (reads_of rest.answered) first.answers.reads.files rest.files;
      pass = rest.pass ∙ first.paths.pass;
      users = rest.users ∙ first.paths.users;
    }

answered_lines : (n : ℕ) (lines : List Bytes) (before after : Workplace) → TakesLines takes n lines before after → AnsweredLines lines before after
answered_lines n [] before after all = subst (λ (w : Workplace). AnsweredLines [] before w) (sym all) (none_answered before)
answered_lines n (line ∷ lines) before after all =
    one_answered line lines before all.0 after all.1 (answered_lines (suc n) lines all.0 after all.2)

-- ---- the ends of a run

-- the outside of a workplace and an input
abbrev pub outside_of : Workplace → SourceState → Outside
outside_of place input = record { files = place.files; input = input; output = place.output }

module _ (input input_after : SourceState) (old new : Workplace) where
  abbrev before : Outside
  before = outside_of old input

  abbrev after : Outside
  after = outside_of new input_after

  -- all lines of these bytes were taken
  all_answered : (read : Bytes) (run : AnsweredLines (line_cut 8192 read).lines old new) → AnswersAll read (texts run.answered) run.answered
  all_answered read run =
      let all : queries read ≡ queries_of run.answered =
      ap queries_from (sym (append-nil (line_cut 8192 read).lines)) ∙ run.asked [] ∙ append-nil (queries_of run.answered) in
      record { asked = sym all; answers = refl }

  -- the lines of these bytes before this line were answered, and the output stands as it was then
  module _ (read : Bytes) (taken : List Bytes) (line : Bytes) (others : List Bytes) (are_lines : (line_cut 8192 read).lines ≡ taken ++ line ∷ others)
      (mid : Workplace) (run : AnsweredLines taken old mid) where
    asked_before : queries read ≡ queries_of run.answered ++ queries_from (line ∷ others)
    asked_before = ap queries_from are_lines ∙ run.asked (line ∷ others)

    -- the line is no query
    at_none : query_of line ≡ None → AnswersAll read (texts run.answered) run.answered
    at_none none =
        record {
          asked = sym (asked_before ∙ ap (λ qs. queries_of run.answered ++ qs) (queries_from-none line others none) ∙ append-nil (queries_of run.answered));
          answers = refl;
        }

    -- and the query of this line
    asked_to : (one : AnsweredQuery) → query_of line ≡ Some one.query → Begins (queries_of (run.answered ++ one ∷ [])) (queries read)
    asked_to one spelled =
        record {
          rest = queries_from others;
          is_whole =
              asked_before ∙ ap (λ qs. queries_of run.answered ++ qs) (queries_from-query line others one.query spelled)
              ∙ sym (append_assoc (queries_of run.answered) (one.query ∷ []) (queries_from others))
              ∙ ap (λ qs. qs ++ queries_from others) (sym (queries_of-append run.answered (one ∷ [])));
        }

    texts_to : (one : AnsweredQuery) → texts (run.answered ++ one ∷ []) ≡ texts run.answered ++ answered_text one
    texts_to one = texts-append run.answered (one ∷ []) ∙ ap (λ t. texts run.answered ++ t) (texts-one one)

    -- what was read for the query of this line
    module _ (query : Query) (reads : ReadsIts (path_of mid.pass mid.users query) query mid.files after.files) where
      abbrev this_one : AnsweredQuery
      this_one = record { query = query; read = reads.read }

      answered_to : AllByRecursion (IsAnsweredQuery old.pass old.users before.files.held) (run.answered ++ this_one ∷ [])
      answered_to =
          AllByRecursion-append (IsAnsweredQuery old.pass old.users before.files.held) run.answered (this_one ∷ []) run.are_answered
          (same_answered old mid (this_one ∷ []) run.pass run.users run.files.held (reads.is_its, tt))

      reads_to : ReadsFiles before.files after.files (reads_of (run.answered ++ this_one ∷ []))
      reads_to =
          subst (ReadsFiles before.files after.files)
          (sym (reads_of-append run.answered (this_one ∷ []) ∙ ap (λ rs. reads_of run.answered ++ rs) (reads_of-one this_one)))
          (ReadsFiles-trans before.files mid.files after.files (reads_of run.answered) (option_to_list reads.read) run.files reads.files)

  -- ---- by the end

  -- all whole lines of these bytes were taken
  ran_all : (read cut : Bytes) (status : WorkerStatus) (lines : AnsweredLines (line_cut 8192 cut).lines old new)
      → Consumes before.input.left after.input.left read → IsLength (length read) status
      → (AnswersAll cut (texts lines.answered) lines.answered → Ends before after read (texts lines.answered) lines.answered status)
      → Ran old.pass old.users before after status
  ran_all read cut status lines reads few ends =
      record {
        read = read;
        answered = lines.answered;
        written = texts lines.answered;
        reads = reads;
        few = few;
        writes = lines.writes;
        are_answered = lines.are_answered;
        files = lines.files;
        ends = ends (all_answered cut lines);
      }

  -- the first of the lines read were answered, and nothing more was read of the files or written
  ran_first : (read : Bytes) (taken : List Bytes) (status : WorkerStatus) (mid : Workplace) (lines : AnsweredLines taken old mid)
      → ReadsFiles mid.files after.files [] → after.output ≡ mid.output
      → Consumes before.input.left after.input.left read → IsLength (length read) status
      → Ends before after read (texts lines.answered) lines.answered status → Ran old.pass old.users before after status
  ran_first read taken status mid lines files output reads few ends =
      record {
        read = read;
        answered = lines.answered;
        written = texts lines.answered;
        reads = reads;
        few = few;
        writes = subst (λ (o : SinkState). Appends before.output.contents o.contents (texts lines.answered)) (sym output) lines.writes;
        are_answered = lines.are_answered;
        files = ReadsFiles-kept before.files mid.files after.files (reads_of lines.answered) lines.files files;
        ends = ends;
      }

  idle_files : (mid : Workplace) → after.files ≡ mid.files → ReadsFiles mid.files after.files []
  idle_files mid same = subst (λ (f : FilesState). ReadsFiles mid.files f []) (sym same) (ReadsFiles-nil mid.files)

  -- the answers to some of the queries of these bytes
  first_of : (read : Bytes) (taken others : List Bytes) (mid : Workplace) (lines : AnsweredLines taken old mid)
      → (line_cut 8192 read).lines ≡ taken ++ others → AnswersFirst read (texts lines.answered) lines.answered
  first_of read taken others mid lines are =
      record {
        asked = record { rest = queries_from others; is_whole = ap queries_from are ∙ lines.asked others };
        answers = record { rest = []; is_whole = sym (append-nil (texts lines.answered)) };
      }

  module _ (read : Bytes) (number : ℕ) (reads : Consumes before.input.left after.input.left read) (few : length read ≤ 2 ^ 30) where
    -- the handler ended the run
    ran_stopped : (stop : LineStop) → StopsAt takes stops 8192 read old new number stop → Ran old.pass old.users before after (status_of_stop number stop)
    ran_stopped NotQuery how =
        let lines = answered_lines 1 how.taken old how.mid how.took in
        let bad : first_bad is_query 8192 read ≡ Some number =
        bad_at is_query 8192 read how.taken how.line how.others how.are_lines lines.right (is_query-none how.line how.stopped.0)
        ∙ ap (λ (m : ℕ). Some m) (sym how.is_number) in
        ran_first read how.taken (BadInput number) how.mid lines (idle_files how.mid how.stopped.1.files) how.stopped.1.output reads few
        (inl bad, at_none read how.taken how.line how.others how.are_lines how.mid lines how.stopped.0)
    ran_stopped LineWriteFault how =
        let lines = answered_lines 1 how.taken old how.mid how.took in
        let fails = how.stopped in
        let one : AnsweredQuery = record { query = fails.query; read = fails.answers.reads.read } in
        let front = fails.answers.writes.front in
        record {
          read = read;
          answered = lines.answered ++ one ∷ [];
          written = texts lines.answered ++ front;
          reads = reads;
          few = few;
          writes =
              Appends-trans before.output.contents how.mid.output.contents after.output.contents (texts lines.answered) front lines.writes fails.answers.writes.writes;
          are_answered = answered_to read how.taken how.line how.others how.are_lines how.mid lines fails.query fails.answers.reads;
          files = reads_to read how.taken how.line how.others how.are_lines how.mid lines fails.query fails.answers.reads;
          ends = (
            let later = lines.later in let rose = fails.answers.writes.rose in omega arith,
            record {
              asked = asked_to read how.taken how.line how.others how.are_lines how.mid lines one fails.spelled;
              answers = record {
                rest = fails.answers.writes.begins.rest;
                is_whole =
                    texts_to read how.taken how.line how.others how.are_lines how.mid lines one ∙ ap (λ text. texts lines.answered ++ text) fails.answers.writes.begins.is_whole
                    ∙ sym (append_assoc (texts lines.answered) front fails.answers.writes.begins.rest);
              };
            },
          );
        }
    ran_stopped LineNoMemory how =
        let lines = answered_lines 1 how.taken old how.mid how.took in
        elim how.stopped [
          | inl idle ↦
              ran_first read how.taken NoMemory how.mid lines (idle_files how.mid idle.files) idle.output reads few
              (first_of read how.taken (how.line ∷ how.others) how.mid lines how.are_lines)
          | inr wants ↦
              elim wants.answers.reads [
                | inl none ↦
                    ran_first read how.taken NoMemory how.mid lines none wants.answers.unwritten reads few
                    (first_of read how.taken (how.line ∷ how.others) how.mid lines how.are_lines)
                | inr its ↦
                    let one : AnsweredQuery = record { query = wants.query; read = its.read } in
                    record {
                      read = read;
                      answered = lines.answered ++ one ∷ [];
                      written = texts lines.answered;
                      reads = reads;
                      few = few;
                      writes = subst (λ (o : SinkState). Appends before.output.contents o.contents (texts lines.answered)) (sym wants.answers.unwritten) lines.writes;
                      are_answered = answered_to read how.taken how.line how.others how.are_lines how.mid lines wants.query its;
                      files = reads_to read how.taken how.line how.others how.are_lines how.mid lines wants.query its;
                      ends = record {
                        asked = asked_to read how.taken how.line how.others how.are_lines how.mid lines one wants.spelled;
                        answers = record { rest = answered_text one; is_whole = texts_to read how.taken how.line how.others how.are_lines how.mid lines one };
                      };
                    }
              ]
        ]

  pub ran : (end : LinesEnd LineStop) → RunsOver takes stops 8192 input input_after old new end → Ran old.pass old.users before after (status_of_end end)
  ran LinesDone run =
      let lines = answered_lines 1 (line_cut 8192 run.read).lines old new run.ends.0.took in
      ran_all run.read run.read Done lines run.reads run.few
      (λ all. (run.ends.0.ended, none_at_end is_query 8192 run.read lines.right run.ends.0.fits run.ends.1, all))
  ran (Cut line) run =
      let lines = answered_lines 1 (line_cut 8192 run.read).lines old new run.ends.0.took in
      let bad = bad_cut is_query 8192 run.read lines.right run.ends.1 ∙ ap (λ (m : ℕ). Some m) (sym run.ends.2) in
      ran_all run.read run.read (BadInput line) lines run.reads run.few (λ all. (inr (run.ends.0.ended, bad), all))
  ran (TooLong line) run =
      let lines = answered_lines 1 (line_cut 8192 run.read).lines old new run.ends.0 in
      let bad = bad_long is_query 8192 run.read lines.right run.ends.1 ∙ ap (λ (m : ℕ). Some m) (sym run.ends.2) in
      ran_all run.read run.read (BadInput line) lines run.reads run.few (λ all. (inl bad, all))
  ran LongLines run =
      let cut = take (2 ^ 30) run.read in
      let lines = answered_lines 1 (line_cut 8192 cut).lines old new run.ends.0 in
      ran_all run.read cut LongInput lines run.reads run.few (λ all. (none_yet is_query 8192 cut lines.right run.ends.1, all))
  ran LinesReadFault run =
      let lines = answered_lines 1 (line_cut 8192 run.read).lines old new run.ends.0 in
      ran_all run.read run.read ReadFault lines run.reads run.few (λ all. (run.ends.2, none_yet is_query 8192 run.read lines.right run.ends.1, all))
  ran LinesNoMemory run =
      let lines = answered_lines 1 run.ends.taken old new run.ends.took in
      ran_first run.read run.ends.taken NoMemory new lines (ReadsFiles-nil after.files) refl run.reads run.few
      (first_of run.read run.ends.taken run.ends.others new lines run.ends.are_lines)
  ran (Stopped line stop) run = ran_stopped run.read line run.reads run.few stop run.ends
