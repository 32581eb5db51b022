-- Query lines: what a worker is asked.
use Rattle.std.specs.Prelude.{ℕ, List, [], ◌∷◌, Option, Some, None, option_to_list, if◌then◌else◌, bytes_eq, codes, decimal}
use Rattle.da_base.specs.Words.{Bytes, number}
use Rattle.da_tabline.specs.Escapes.{line_fields, spelled}
use Rattle.da_fields.specs.declared.answer.Query.{Query}
use Rattle.da_fields.specs.declared.answer.QueryKind.{QueryKind}
use Rattle.da_fields.specs.declared.answer.QueryKind.TheVariants.{Pass, Check, User}

abbrev pub kind_word : QueryKind → Bytes
kind_word Pass = codes "PASS"
kind_word Check = codes "CHECK"
kind_word User = codes "USER"

-- the line of a query
unfoldable pub query_line : Query → Bytes
query_line q = spelled (kind_word q.kind ∷ decimal q.number ∷ decimal q.db ∷ q.user ∷ option_to_list q.password)

abbrev pub query_with : QueryKind → Option ℕ → Option ℕ → Bytes → Option Bytes → Option Query
query_with kind (Some n) (Some db) user password = Some (record { number = n; kind = kind; db = db; user = user; password = password })
query_with kind _ _ user password = None

-- a number, a database and a user
abbrev pub user_query : QueryKind → List Bytes → Option Query
user_query kind (n ∷ db ∷ user ∷ []) = query_with kind (number n) (number db) user None
user_query kind _ = None

-- the same, and a password
abbrev pub check_query : List Bytes → Option Query
check_query (n ∷ db ∷ user ∷ password ∷ []) = query_with Check (number n) (number db) user (Some password)
check_query _ = None

abbrev pub query_of_fields : List Bytes → Option Query
query_of_fields [] = None
query_of_fields (word ∷ rest) =
    if bytes_eq word (codes "PASS") then user_query Pass rest
    else if bytes_eq word (codes "USER") then user_query User rest
    else if bytes_eq word (codes "CHECK") then check_query rest
    else None

-- the query that a line spells
unfoldable pub query_of : Bytes → Option Query
query_of line = query_of_fields (line_fields line)
