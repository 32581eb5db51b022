-- How the answer to one line of input may end.
use Rattle.std.specs.Prelude.{◌≡◌, [], ◌⊎◌, List, Option, Some, None, option_to_list, Result, Ok, Err, codes}
use Rattle.std.specs.declared.alloc.AllocError.{AllocError}
use Rattle.da_base.specs.Words.{Bytes}
use Rattle.da_outside.specs.FileReads.{ReadsFile, ReadsFiles}
use Rattle.da_outside.specs.Files.{FilesState}
use Rattle.da_outside.specs.Sink.{SinkState}
use Rattle.da_outside.specs.declared.faults.Got.{Got}
use Rattle.da_outside.specs.declared.faults.Got.TheVariants.{Given as GotGiven, TooLong, Fault}
use Rattle.da_outside.specs.declared.files.FileRead.{FileRead}
use Rattle.da_stream.specs.Output.{WrittenFront, WrittenWhole}
use Rattle.da_fields.specs.declared.answer.Query.{Query}
use Rattle.da_query.specs.Queries.{query_of}
use Rattle.da_query.specs.AnswerLines.{answer_line}
use Rattle.da_worker.specs.declared.answering.Reading.{Reading}
use Rattle.da_worker.specs.declared.answering.Reading.TheVariants.{NoFile, Given, Long, Failed}
use Rattle.da_worker.specs.declared.answering.LineStop.{LineStop}
use Rattle.da_worker.specs.declared.answering.LineStop.TheVariants.{NotQuery, WriteFault, NoMemory}
use Rattle.da_worker.specs.Passwd.{row}
use Rattle.da_worker.specs.AnsweredQueries.{GotGives, IsReadOf, fail_line, answered_text, path_of}

-- ---- the read of a file

-- the file of this path was read, and gave this
pub record ReadsAt (path : Option Bytes) (before after : FilesState) (got : Got) : Type 0 where
  pub its_path : Bytes
  pub is : path ≡ Some its_path
  pub gives : GotGives before.held its_path got
  pub made : ReadsFile its_path before after got

-- nothing is read where there is no path; where memory is wanted, no read was made
abbrev pub ReadsFor : Option Bytes → FilesState → FilesState → Result Reading AllocError → Type 0
ReadsFor path before after (Ok NoFile) = (path ≡ None) × ReadsFiles before after []
ReadsFor path before after (Ok (Given bytes)) = ReadsAt path before after (GotGiven bytes.items)
ReadsFor path before after (Ok Long) = ReadsAt path before after TooLong
ReadsFor path before after (Ok Failed) = ReadsAt path before after Fault
ReadsFor path before after (Err wanted) = ReadsFiles before after []

-- the line for it
abbrev pub reading_line : Query → Reading → Bytes
reading_line query NoFile = fail_line query.number (codes "driver")
reading_line query (Given bytes) = answer_line query.number (row bytes.items query)
reading_line query Long = fail_line query.number (codes "long")
reading_line query Failed = fail_line query.number (codes "file")

-- ---- one query

-- the read of the query's file, where it has one, and no other
pub record ReadsIts (path : Option Bytes) (query : Query) (before after : FilesState) : Type 0 where
  pub read : Option FileRead
  pub is_its : IsReadOf before.held path read
  pub files : ReadsFiles before after (option_to_list read)

-- the text of the query's answer, by what was read for it
abbrev pub text_of : {path : Option Bytes} {query : Query} {before after : FilesState} → ReadsIts path query before after → Bytes
text_of {path} {query} reads = answered_text (record { query = query; read = reads.read })

-- the whole answer was written
pub record AnswersWhole (path : Option Bytes) (query : Query) (files files_after : FilesState) (output output_after : SinkState) : Type 0 where
  pub reads : ReadsIts path query files files_after
  pub writes : WrittenWhole (text_of reads) output output_after

-- a front of the answer was written before a fault
pub record AnswersFront (path : Option Bytes) (query : Query) (files files_after : FilesState) (output output_after : SinkState) : Type 0 where
  pub reads : ReadsIts path query files files_after
  pub writes : WrittenFront (text_of reads) output output_after

-- memory was wanted, before the read or after it, and nothing was written
pub record AnswersNot (path : Option Bytes) (query : Query) (files files_after : FilesState) (output output_after : SinkState) : Type 0 where
  pub reads : ReadsFiles files files_after [] ⊎ ReadsIts path query files files_after
  pub unwritten : output_after ≡ output

abbrev pub Answers : Option Bytes → Query → FilesState → FilesState → SinkState → SinkState → Result (Unit {0}) LineStop → Type 0
Answers path query files files_after output output_after (Ok done) = AnswersWhole path query files files_after output output_after
Answers path query files files_after output output_after (Err NotQuery) = ⊥
Answers path query files files_after output output_after (Err WriteFault) = AnswersFront path query files files_after output output_after
Answers path query files files_after output output_after (Err NoMemory) = AnswersNot path query files files_after output output_after

-- ---- one line

-- what a worker answers by and works on: the paths of the password and user databases, the files, and the output
pub record Workplace : Type 0 where
  pub pass : List Bytes
  pub users : List Bytes
  pub files : FilesState
  pub output : SinkState

-- the paths stay
pub record SamePaths (before after : Workplace) : Type 0 where
  pub pass : after.pass ≡ before.pass
  pub users : after.users ≡ before.users

-- the line spells a query, and the whole answer to it was written
pub record AnswersLine (line : Bytes) (before after : Workplace) : Type 0 where
  pub query : Query
  pub spelled : query_of line ≡ Some query
  pub answers : AnswersWhole (path_of before.pass before.users query) query before.files after.files before.output after.output
  pub paths : SamePaths before after

-- the line spells a query, and a front of the answer to it was written before a fault
pub record FailsAtLine (line : Bytes) (before after : Workplace) : Type 0 where
  pub query : Query
  pub spelled : query_of line ≡ Some query
  pub answers : AnswersFront (path_of before.pass before.users query) query before.files after.files before.output after.output

-- the line spells a query, and memory was wanted for its answer
pub record WantsAtLine (line : Bytes) (before after : Workplace) : Type 0 where
  pub query : Query
  pub spelled : query_of line ≡ Some query
  pub answers : AnswersNot (path_of before.pass before.users query) query before.files after.files before.output after.output

-- nothing was read or written
pub record IsIdle (before after : Workplace) : Type 0 where
  pub files : after.files ≡ before.files
  pub output : after.output ≡ before.output

abbrev pub StopsAtLine : Bytes → Workplace → Workplace → LineStop → Type 0
StopsAtLine line before after NotQuery = (query_of line ≡ None) × IsIdle before after
StopsAtLine line before after WriteFault = FailsAtLine line before after
StopsAtLine line before after NoMemory = IsIdle before after ⊎ WantsAtLine line before after
