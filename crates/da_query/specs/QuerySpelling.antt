-- The lines that spell a query.
use Rattle.std.specs.Prelude.{◌≡◌, Bool, true, false, ◌∷◌, Some, option_to_list, is_some}
use Rattle.da_base.specs.Words.{Bytes, number}
use Rattle.da_tabline.specs.Escapes.{line_fields}
use Rattle.da_fields.specs.declared.answer.Query.{Query}
use Rattle.da_fields.specs.declared.answer.QueryKind.{QueryKind}
use Rattle.da_fields.specs.declared.answer.QueryKind.TheVariants.{Pass, Check, User}
use Rattle.da_query.specs.Queries.{kind_word}

abbrev pub has_password : QueryKind → Bool
has_password Check = true
has_password Pass = false
has_password User = false

-- it has a password exactly where its kind is Check
abbrev pub HasItsPassword : Query → Type 0
HasItsPassword q = is_some q.password ≡ has_password q.kind

-- the line spells the query: its fields are the word of its kind, its number, its database, the user, and the password
-- that a Check alone has
pub record SpellsQuery (line : Bytes) (q : Query) : Type 0 where
  pub number_field : Bytes
  pub db_field : Bytes
  pub fields : line_fields line ≡ kind_word q.kind ∷ number_field ∷ db_field ∷ q.user ∷ option_to_list q.password
  pub its_number : number number_field ≡ Some q.number
  pub its_db : number db_field ≡ Some q.db
  pub its_password : HasItsPassword q
