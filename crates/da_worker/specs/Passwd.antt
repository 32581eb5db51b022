-- A passwd-file: its lines, their columns, and what it answers to a query.
use Rattle.std.specs.Prelude.{ℕ, zero, suc, Bool, true, ◌&&◌, not, List, [], ◌∷◌, Option, Some, None, if◌then◌else◌, ◌==◌, bytes_eq, codes}
use Rattle.da_base.specs.Words.{Bytes, is_empty, before_byte, after_byte, option_or_else, pieces}
use Rattle.da_fields.specs.FieldList.{Pairs, with_field, with_fields, text_key, text_value, userdb_part}
use Rattle.da_fields.specs.declared.answer.Answer.{Answer}
use Rattle.da_fields.specs.declared.answer.Answer.TheVariants.{Found, Unknown, Internal}
use Rattle.da_fields.specs.declared.answer.Why.TheVariants.{Said}
use Rattle.da_fields.specs.declared.answer.Query.{Query}
use Rattle.da_fields.specs.declared.answer.QueryKind.{QueryKind}
use Rattle.da_fields.specs.declared.answer.QueryKind.TheVariants.{Pass, Check, User}

-- ---- a line: user:password:uid:gid:gecos:home:shell:extra

-- what stands behind the first colon, nothing where there is none
abbrev pub behind_colon : Bytes → Bytes
behind_colon text = option_or_else (after_byte 58 text) [] (λ rest. rest)

-- what stands behind the n-th colon
abbrev pub behind : ℕ → Bytes → Bytes
behind zero line = line
behind (suc n) line = behind n (behind_colon line)

-- the column behind the n-th colon, up to the next one; it is empty where the line ends before it
abbrev pub column : ℕ → Bytes → Bytes
column n line = before_byte 58 (behind n line)

abbrev pub user_column : Bytes → Bytes
user_column line = column 0 line

abbrev pub password_column : Bytes → Bytes
password_column line = column 1 line

abbrev pub uid_column : Bytes → Bytes
uid_column line = column 2 line

abbrev pub gid_column : Bytes → Bytes
gid_column line = column 3 line

abbrev pub home_column : Bytes → Bytes
home_column line = column 5 line

-- all that stands behind the seventh colon
abbrev pub extra_column : Bytes → Bytes
extra_column line = behind 7 line

-- ---- the line of a user

-- empty lines and lines that begin with # are passed over
abbrev pub is_passed_over : Bytes → Bool
is_passed_over [] = true
is_passed_over (c ∷ cs) = c == 35

abbrev pub is_line_of : Bytes → Bytes → Bool
is_line_of user line = not (is_passed_over line) && bytes_eq (user_column line) user

-- the first line of the user
abbrev pub first_line_of : Bytes → List Bytes → Option Bytes
first_line_of user [] = None
first_line_of user (line ∷ lines) = if is_line_of user line then Some line else first_line_of user lines

-- the lines of a file are the pieces between its LFs; behind a last LF there is an empty one
abbrev pub user_line : Bytes → Bytes → Option Bytes
user_line user file = first_line_of user (pieces 10 file)

-- ---- its fields

-- one more item, of which the last of equal keys holds in the first one's place, and one with an empty key is dropped
abbrev pub with_item : Bytes → Pairs → Pairs
with_item item fields = if is_empty (text_key item) then fields else with_field (text_key item) (text_value item) fields

abbrev pub with_items : Pairs → List Bytes → Pairs
with_items fields [] = fields
with_items fields (item ∷ items) = with_items (with_item item fields) items

-- the extra fields, which stand between spaces
abbrev pub extra_fields : Bytes → Pairs
extra_fields extra = with_items [] (pieces 32 extra)

-- a column under its key, where it isn't empty
abbrev pub with_filled : Bytes → Bytes → Pairs → Pairs
with_filled key value fields = if is_empty value then fields else with_field key value fields

abbrev pub account_fields : Bytes → Pairs
account_fields line =
    with_filled (codes "home") (home_column line) (with_filled (codes "gid") (gid_column line) (with_filled (codes "uid") (uid_column line) []))

-- what a user database tells of a line: the columns uid, gid and home, and the extra fields for user databases, which may
-- set these anew in their places
abbrev pub user_fields : Bytes → Pairs
user_fields line = with_fields (account_fields line) (userdb_part (extra_fields (extra_column line)))

-- ---- the answer

-- for a password database the second column and the extra fields; no password is checked by a passwd-file
abbrev pub line_answer : QueryKind → Bytes → Answer
line_answer Pass line = Found (password_column line) (extra_fields (extra_column line))
line_answer User line = Found [] (user_fields line)
line_answer Check line = Internal Said

abbrev pub answer_of_line : QueryKind → Option Bytes → Answer
answer_of_line kind None = Unknown
answer_of_line kind (Some line) = line_answer kind line

-- what the file answers to the query
unfoldable pub row : Bytes → Query → Answer
row file query = answer_of_line query.kind (user_line query.user file)
