-- A line is read as a query exactly where it spells it.
use Rattle.std.proofs.Common.{◌≡◌, ℕ, ◌<◌, ◌-◌, ◌^◌, true, false, List, [], ◌∷◌, Option, Some, None, refl, sym, ap, ◌∙◌, inl, inr, arith}
use Rattle.std.specs.Prelude.{bytes_eq, codes, decimal, is_some, option_to_list}
use Rattle.std.proofs.lemmas.Bool.{cases_Bool}
use Rattle.std.proofs.lemmas.Option.{same_Some}
use Rattle.std.proofs.lemmas.Slice.Eq.{bytes_eq-Decides}
use Rattle.da_base.specs.Words.{Bytes, number}
use Rattle.da_tabline.specs.Escapes.{line_fields}
use Rattle.da_tabline.proofs.NumberLemmas.{number_of_decimal}
use Rattle.da_tabline.proofs.SpellingLemmas.{line_fields-spelled}
use Rattle.da_fields.specs.declared.answer.Query.{Query}
use Rattle.da_fields.specs.declared.answer.QueryKind.{QueryKind}
use Rattle.da_fields.specs.declared.answer.QueryKind.TheVariants.{Pass, Check, User}
use Rattle.da_query.specs.Queries.{kind_word, query_line, query_with, user_query, check_query, query_of_fields, query_of}
use Rattle.da_query.specs.QuerySpelling.{has_password, HasItsPassword, SpellsQuery}

-- the fields behind the word of a kind that spell a query
record SpellsRest (kind : QueryKind) (rest : List Bytes) (q : Query) : Type 0 where
  pub number_field : Bytes
  pub db_field : Bytes
  pub fields : rest ≡ number_field ∷ db_field ∷ q.user ∷ option_to_list q.password
  pub its_number : number number_field ≡ Some q.number
  pub its_db : number db_field ≡ Some q.db
  pub its_kind : q.kind ≡ kind
  pub its_password : is_some q.password ≡ has_password kind

with_parts : (kind : QueryKind) (a b user : Bytes) (password : Option Bytes) (n db : Option ℕ) (q : Query) → number a ≡ n → number b ≡ db
    → is_some password ≡ has_password kind → query_with kind n db user password ≡ Some q → SpellsRest kind (a ∷ b ∷ user ∷ option_to_list password) q
with_parts kind a b user password (Some n) (Some db) q a_is b_is its h =
    let e = same_Some (record { number = n; kind = kind; db = db; user = user; password = password }) q h in
    record {
      number_field = a;
      db_field = b;
      fields = ap (λ (p : Query). a ∷ b ∷ p.user ∷ option_to_list p.password) e;
      its_number = a_is ∙ ap (λ (p : Query). Some p.number) e;
      its_db = b_is ∙ ap (λ (p : Query). Some p.db) e;
      its_kind = sym (ap (λ (p : Query). p.kind) e);
      its_password = sym (ap (λ (p : Query). is_some p.password) e) ∙ its;
    }
with_parts kind a b user password None db q a_is b_is its h = cc
with_parts kind a b user password (Some n) None q a_is b_is its h = cc

user_parts : (kind : QueryKind) (rest : List Bytes) (q : Query) → has_password kind ≡ false → user_query kind rest ≡ Some q → SpellsRest kind rest q
user_parts kind [] q its h = cc
user_parts kind (a ∷ []) q its h = cc
user_parts kind (a ∷ b ∷ []) q its h = cc
user_parts kind (a ∷ b ∷ user ∷ []) q its h = with_parts kind a b user None (number a) (number b) q refl refl (sym its) h
user_parts kind (a ∷ b ∷ user ∷ more ∷ rest) q its h = cc

check_parts : (rest : List Bytes) (q : Query) → check_query rest ≡ Some q → SpellsRest Check rest q
check_parts [] q h = cc
check_parts (a ∷ []) q h = cc
check_parts (a ∷ b ∷ []) q h = cc
check_parts (a ∷ b ∷ user ∷ []) q h = cc
check_parts (a ∷ b ∷ user ∷ password ∷ []) q h = with_parts Check a b user (Some password) (number a) (number b) q refl refl refl h
check_parts (a ∷ b ∷ user ∷ password ∷ more ∷ rest) q h = cc

from_rest : (line word : Bytes) (rest : List Bytes) (kind : QueryKind) (q : Query) → line_fields line ≡ word ∷ rest → word ≡ kind_word kind
    → SpellsRest kind rest q → SpellsQuery line q
from_rest line word rest kind q is word_is s =
    record {
      number_field = s.number_field;
      db_field = s.db_field;
      fields = is ∙ ap (λ w. w ∷ rest) (word_is ∙ ap kind_word (sym s.its_kind)) ∙ ap (λ l. kind_word q.kind ∷ l) s.fields;
      its_number = s.its_number;
      its_db = s.its_db;
      its_password = s.its_password ∙ ap has_password (sym s.its_kind);
    }

word_is : (word other : Bytes) → bytes_eq word other ≡ true → word ≡ other
word_is word other = (bytes_eq-Decides word other).0

fields_parts : (line : Bytes) (fields : List Bytes) (q : Query) → line_fields line ≡ fields → query_of_fields fields ≡ Some q → SpellsQuery line q
fields_parts line [] q is h = cc
fields_parts line (word ∷ rest) q is h =
    elim (cases_Bool (bytes_eq word (codes "PASS"))) [
      | inl e ↦ from_rest line word rest Pass q is (word_is word _ e) (user_parts Pass rest q refl (rw e at h))
      | inr no_pass ↦
          elim (cases_Bool (bytes_eq word (codes "USER"))) [
            | inl e ↦ from_rest line word rest User q is (word_is word _ e) (user_parts User rest q refl (rw (no_pass, e) at h))
            | inr no_user ↦
                elim (cases_Bool (bytes_eq word (codes "CHECK"))) [
                  | inl e ↦ from_rest line word rest Check q is (word_is word _ e) (check_parts rest q (rw (no_pass, no_user, e) at h))
                  | inr no_check ↦ let never : ◌≡◌ {A = Option Query} None (Some q) = rw (no_pass, no_user, no_check) at h in cc
                ]
          ]
    ]

pub query_of-spells : (line : Bytes) (q : Query) → query_of line ≡ Some q → SpellsQuery line q
unfolding query_of
query_of-spells line q h = fields_parts line (line_fields line) q refl h

fields_from : (kind : QueryKind) (n db : ℕ) (a b user : Bytes) (password : Option Bytes) → number a ≡ Some n → number b ≡ Some db
    → is_some password ≡ has_password kind
    → query_of_fields (kind_word kind ∷ a ∷ b ∷ user ∷ option_to_list password) ≡ Some (record { number = n; kind = kind; db = db; user = user; password = password })
fields_from Pass n db a b user None a_is b_is its = rw (a_is, b_is) refl
fields_from Pass n db a b user (Some password) a_is b_is its = cc
fields_from User n db a b user None a_is b_is its = rw (a_is, b_is) refl
fields_from User n db a b user (Some password) a_is b_is its = cc
fields_from Check n db a b user None a_is b_is its = cc
fields_from Check n db a b user (Some password) a_is b_is its = rw (a_is, b_is) refl

pub query_of-from : (line : Bytes) (q : Query) → SpellsQuery line q → query_of line ≡ Some q
unfolding query_of
query_of-from line q s =
    ap query_of_fields s.fields ∙ fields_from q.kind q.number q.db s.number_field s.db_field q.user q.password s.its_number s.its_db s.its_password

pub one_query : (line : Bytes) (q p : Query) → SpellsQuery line q → SpellsQuery line p → q ≡ p
one_query line q p s t = same_Some q p (sym (query_of-from line q s) ∙ query_of-from line p t)

-- ---- what is printed

pub number_again : (n : ℕ) → n < 2 ^ 32 → number (decimal n) ≡ Some n
number_again n small = number_of_decimal (2 ^ 32 - 1) n (omega (arith, small)) (omega (arith, small))

pub query_line-spells : (q : Query) → q.number < 2 ^ 32 → q.db < 2 ^ 32 → HasItsPassword q → SpellsQuery (query_line q) q
unfolding query_line
query_line-spells q number_small db_small its =
    record {
      number_field = decimal q.number;
      db_field = decimal q.db;
      fields = line_fields-spelled (kind_word q.kind) (decimal q.number ∷ decimal q.db ∷ q.user ∷ option_to_list q.password);
      its_number = number_again q.number number_small;
      its_db = number_again q.db db_small;
      its_password = its;
    }

-- a line that is the printed query is read as it
pub query_again : (line : Bytes) (q : Query) → line ≡ query_line q → (q.number < 2 ^ 32) × (q.db < 2 ^ 32) → HasItsPassword q → query_of line ≡ Some q
query_again line q is small its = ap query_of is ∙ query_of-from (query_line q) q (query_line-spells q small.0 small.1 its)
