-- An answered query of a worker: a query, what was read for it, and the line that it is answered with.
use Rattle.std.specs.Prelude.{◌≡◌, ◌<◌, ◌≤◌, ⊤, ℕ, ◌+◌, ◌-◌, List, [], ◌∷◌, ◌++◌, length, map, Option, Some, None, option_to_list, IfSome, if◌then◌else◌, codes, decimal}
use Rattle.std.specs.List.{flat_map}
use Rattle.da_base.specs.Words.{Bytes, is_empty, nth}
use Rattle.da_outside.specs.Files.{File, bytes_at}
use Rattle.da_outside.specs.declared.faults.Got.{Got}
use Rattle.da_outside.specs.declared.faults.Got.TheVariants.{Given, TooLong, Fault}
use Rattle.da_outside.specs.declared.files.FileRead.{FileRead}
use Rattle.da_tabline.specs.Escapes.{spelled}
use Rattle.da_fields.specs.declared.answer.Query.{Query}
use Rattle.da_fields.specs.declared.answer.QueryKind.{QueryKind}
use Rattle.da_fields.specs.declared.answer.QueryKind.TheVariants.{Pass, Check, User}
use Rattle.da_query.specs.AnswerLines.{answer_line}
use Rattle.da_worker.specs.Passwd.{row}

-- ---- the file of a query

-- the empty text is no path
abbrev pub path_in : Option Bytes → Option Bytes
path_in None = None
path_in (Some text) = if is_empty text then None else Some text

abbrev pub path_for : List Bytes → List Bytes → QueryKind → ℕ → Option Bytes
path_for pass users Pass db = path_in (nth pass db)
path_for pass users User db = path_in (nth users db)
path_for pass users Check db = None

-- the path of the query's database, where it is there and has a file; a Check has none
abbrev pub path_of : List Bytes → List Bytes → Query → Option Bytes
path_of pass users query = path_for pass users query.kind query.db

-- ---- an answered query

-- a query, and the read of its file, where it has one
pub record AnsweredQuery : Type 0 where
  pub query : Query
  pub read : Option FileRead

-- a line that tells a failure, and why
abbrev pub fail_line : ℕ → Bytes → Bytes
fail_line n reason = spelled (codes "FAIL" ∷ decimal n ∷ reason ∷ [])

-- by what the read of the file gave
abbrev pub line_by : Query → Got → Bytes
line_by query (Given bytes) = answer_line query.number (row bytes query)
line_by query TooLong = fail_line query.number (codes "long")
line_by query Fault = fail_line query.number (codes "file")

abbrev pub line_by_read : Query → Option FileRead → Bytes
line_by_read query None = fail_line query.number (codes "driver")
line_by_read query (Some read) = line_by query read.got

-- the line of the answer, with its LF
unfoldable pub answered_text : AnsweredQuery → Bytes
answered_text one = line_by_read one.query one.read ++ 10 ∷ []

-- the lines of the answers, what was asked, and what was read for it
abbrev pub texts : List AnsweredQuery → Bytes
texts answered = flat_map answered_text answered

abbrev pub queries_of : List AnsweredQuery → List Query
queries_of answered = map (λ one. one.query) answered

abbrev pub reads_of : List AnsweredQuery → List FileRead
reads_of answered = flat_map (λ one. option_to_list one.read) answered

-- ---- what was read for it

-- where the files are told, the bytes at the path, or that these are more than 4,194,304
abbrev pub GotGives : Option (List File) → Bytes → Got → Type 0
GotGives held path (Given bytes) = (length bytes ≤ 4194304) × IfSome held (λ files. bytes ≡ bytes_at files path)
GotGives held path TooLong = IfSome held (λ files. 4194304 < length (bytes_at files path))
GotGives held path Fault = ⊤

-- nothing is read where there is no path, and else the file of this path
abbrev pub IsReadOf : Option (List File) → Option Bytes → Option FileRead → Type 0
IsReadOf held None None = ⊤
IsReadOf held None (Some read) = ⊥
IsReadOf held (Some path) None = ⊥
IsReadOf held (Some path) (Some read) = (read.path ≡ path) × GotGives held path read.got

abbrev pub IsAnsweredQuery : List Bytes → List Bytes → Option (List File) → AnsweredQuery → Type 0
IsAnsweredQuery pass users held one = IsReadOf held (path_of pass users one.query) one.read
