-- What a worker does with an input: its queries, and how its run may end.
use Rattle.std.specs.Prelude.{◌≡◌, ◌≤◌, ℕ, ◌+◌, ◌^◌, ⊤, Bool, List, [], ◌∷◌, length, take, Option, Some, None, is_some}
use Rattle.std.specs.List.{AllByRecursion}
use Rattle.std.specs.Io.KnownBytes.{Consumes, Appends, IsAtEnd}
use Rattle.da_base.specs.Words.{Bytes}
use Rattle.da_tabline.specs.Lines.{line_cut}
use Rattle.da_outside.specs.Causes.{Rose}
use Rattle.da_outside.specs.FileReads.{ReadsFiles}
use Rattle.da_outside.specs.Outside.{Outside}
use Rattle.da_stream.specs.BadLines.{IsFirstBad, first_bad, first_bad_at_end}
use Rattle.da_stream.specs.Output.{Begins}
use Rattle.da_fields.specs.declared.answer.Query.{Query}
use Rattle.da_query.specs.Queries.{query_of}
use Rattle.da_worker.specs.declared.worker.WorkerStatus.{WorkerStatus}
use Rattle.da_worker.specs.declared.worker.WorkerStatus.TheVariants.{Done, BadInput, LongInput, ReadFault, WriteFault, NoMemory}
use Rattle.da_worker.specs.AnsweredQueries.{AnsweredQuery, IsAnsweredQuery, texts, queries_of, reads_of}

-- ---- the input

-- a line that is right spells a query
abbrev pub is_query : Bytes → Bool
is_query line = is_some (query_of line)

abbrev pub with_query : Option Query → List Query → List Query
with_query None queries = []
with_query (Some query) queries = query ∷ queries

-- the queries of lines, up to the first line that is none
abbrev pub queries_from : List Bytes → List Query
queries_from [] = []
queries_from (line ∷ lines) = with_query (query_of line) (queries_from lines)

-- the queries of an input, whose lines have at most 8,192 bytes
abbrev pub queries : Bytes → List Query
queries bytes = queries_from (line_cut 8192 bytes).lines

-- ---- the run

-- all queries of these bytes were answered
pub record AnswersAll (read written : Bytes) (answered : List AnsweredQuery) : Type 0 where
  pub asked : queries_of answered ≡ queries read
  pub answers : written ≡ texts answered

-- the first of the queries of these bytes were answered, the last of them perhaps in part
pub record AnswersFirst (read written : Bytes) (answered : List AnsweredQuery) : Type 0 where
  pub asked : Begins (queries_of answered) (queries read)
  pub answers : Begins written (texts answered)

-- By the status: what was read, which queries were answered, what was written, and what caused the end.
--   Done: the whole input was read, each of its lines is a query and ended by LF, and each was answered.
--   BadInput: the line of this number is the first that is no query, whatever follows, or the input ends with it, or
--   within it; and the queries before it were answered.
--   LongInput: 1,073,741,825 bytes were read, and the queries of all but the last were answered.
--   ReadFault: the source failed, and the queries of what was read were answered.
--   WriteFault: the sink failed, and a front of the answers to the first queries of what was read was written.
--   NoMemory: a front of the answers to the first queries of what was read was written.
-- In the first four, all lines read before the end are queries.
abbrev pub Ends : Outside → Outside → Bytes → Bytes → List AnsweredQuery → WorkerStatus → Type 0
Ends before after read written answered Done =
    IsAtEnd after.input.left × (first_bad_at_end is_query 8192 read ≡ None) × AnswersAll read written answered
Ends before after read written answered (BadInput line) =
    IsFirstBad is_query 8192 after.input read line × AnswersAll read written answered
Ends before after read written answered LongInput =
    (first_bad is_query 8192 (take (2 ^ 30) read) ≡ None) × AnswersAll (take (2 ^ 30) read) written answered
Ends before after read written answered ReadFault =
    Rose before.input.faults after.input.faults × (first_bad is_query 8192 read ≡ None) × AnswersAll read written answered
Ends before after read written answered WriteFault =
    Rose before.output.faults after.output.faults × AnswersFirst read written answered
Ends before after read written answered NoMemory = AnswersFirst read written answered

-- how many bytes were read: one more than 1,073,741,824, or at most so many
abbrev pub IsLength : ℕ → WorkerStatus → Type 0
IsLength n Done = n ≤ 2 ^ 30
IsLength n (BadInput line) = n ≤ 2 ^ 30
IsLength n LongInput = n ≡ 2 ^ 30 + 1
IsLength n ReadFault = n ≤ 2 ^ 30
IsLength n WriteFault = n ≤ 2 ^ 30
IsLength n NoMemory = n ≤ 2 ^ 30

-- The run of a worker: what it read, the queries that it took, what it wrote, and how it ended. What was read for a query
-- is told by the files, which failed at least as often as those reads did.
pub record Ran (pass users : List Bytes) (before after : Outside) (status : WorkerStatus) : Type 0 where
  pub read : Bytes
  pub answered : List AnsweredQuery
  pub written : Bytes
  pub reads : Consumes before.input.left after.input.left read
  pub few : IsLength (length read) status
  pub writes : Appends before.output.contents after.output.contents written
  pub are_answered : AllByRecursion (IsAnsweredQuery pass users before.files.held) answered
  pub files : ReadsFiles before.files after.files (reads_of answered)
  pub ends : Ends before after read written answered status

-- ---- a run without a fault

-- each line of the input is a query and ended by LF, it isn't too long, and neither the input nor the output failed
pub record IsGood (before after : Outside) : Type 0 where
  pub input : Bytes
  pub left : before.input.left ≡ Some input
  pub are_queries : first_bad_at_end is_query 8192 input ≡ None
  pub short : length input ≤ 2 ^ 30
  pub input_sound : Rose before.input.faults after.input.faults → ⊥
  pub output_sound : Rose before.output.faults after.output.faults → ⊥

-- the whole input was answered, or memory was wanted
abbrev pub IsAnswered : WorkerStatus → Type 0
IsAnswered Done = ⊤
IsAnswered NoMemory = ⊤
IsAnswered _ = ⊥
