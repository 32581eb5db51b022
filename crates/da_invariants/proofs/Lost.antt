-- A query that is lost stays lost, and one that isn't stays so: the first query of a request to a database is the same in later tables.
use Rattle.std.proofs.Common.{◌≡◌, refl, sym, ◌∙◌, ap, ap₂, Some, None, List, [], ◌∷◌, ℕ, zero, suc, Bool, true, false, cond, ◌&&◌, ◌==◌, eq-eqb, true≢false, option_map}
use Rattle.std.proofs.lemmas.Option.{none-some, same_Some}
use Rattle.da_base.specs.Words.{nth, changed_nth, number_where, one_further, passes_option}
use Rattle.da_fields.specs.declared.answer.Answer.{Answer}
use Rattle.da_tables.specs.RecordedAnswers.{asks_same, is_death, is_kept_kind, is_lost, is_lost_in}
use Rattle.da_invariants.proofs.Names.{none_passes}
use Rattle.da_tables.proofs.Rows.{nth-changed}
use Rattle.da_steps.proofs.Standing.{RowsStand, changed_rows}
use Rattle.da_steps.specs.Standing.{QueryStands}
use Rattle.da_tables.specs.declared.queries.QueryRow.{QueryRow}
use Rattle.da_request.specs.declared.stages.Question.{Question}

is_zero : ℕ → Bool
is_zero zero = true
is_zero (suc n) = false

-- where each row of a table is in another and passes its test alike, the first that passes is the same
first_alike : {A : Type 0} (p q : A → Bool) (xs ys : List A) → ((n : ℕ) (x : A) → nth xs n ≡ Some x → (y : A) × (nth ys n ≡ Some y) × (q y ≡ p x)) →
    (m : ℕ) → number_where p xs ≡ suc m → number_where q ys ≡ suc m
unfolding is_zero
first_alike p q [] ys h m e = absurd (true≢false (ap is_zero e))
first_alike {A} p q (x ∷ xs) [] h m e = absurd (nowhere (h 1 x refl))
  where
    nowhere : (y : A) × (None ≡ Some y) × (q y ≡ p x) → ⊥
    nowhere (y, at, w) = none-some y at
first_alike {A} p q (x ∷ xs) (y ∷ ys) h m e = go (p x) refl (first_alike p q xs ys rest)
  where
    head : q y ≡ p x
    head = of_row (h 1 x refl)
      where
        of_row : (z : A) × (Some y ≡ Some z) × (q z ≡ p x) → q y ≡ p x
        of_row (z, at, w) = ap q (same_Some y z at) ∙ w

    rest : (n : ℕ) (z : A) → nth xs n ≡ Some z → (w : A) × (nth ys n ≡ Some w) × (q w ≡ p z)
    rest zero z at = absurd (none-some z at)
    rest (suc n) z at = h (suc (suc n)) z at

    further : (k : ℕ) → ((j : ℕ) → number_where p xs ≡ suc j → number_where q ys ≡ suc j) → number_where p xs ≡ k → one_further k ≡ suc m → one_further (number_where q ys) ≡ suc m
    further zero later d w = absurd (true≢false (ap is_zero w))
    further (suc k) later d w = ap one_further (later k d) ∙ w

    go : (b : Bool) → p x ≡ b → ((j : ℕ) → number_where p xs ≡ suc j → number_where q ys ≡ suc j) → number_where q (y ∷ ys) ≡ suc m
    go true d later = ap (λ (c : Bool). cond c 1 (one_further (number_where q ys))) (head ∙ d) ∙ sym (ap (λ (c : Bool). cond c 1 (one_further (number_where p xs))) d) ∙ e
    go false d later = ap (λ (c : Bool). cond c 1 (one_further (number_where q ys))) (head ∙ d)
        ∙ further (number_where p xs) later refl (sym (ap (λ (c : Bool). cond c 1 (one_further (number_where p xs))) d) ∙ e)

-- a row that passes is found, or one before it
found : {A : Type 0} (p : A → Bool) (xs : List A) (k : ℕ) (x : A) → nth xs k ≡ Some x → p x ≡ true → (m : ℕ) × (number_where p xs ≡ suc m)
found p xs k x is e = go (number_where p xs) refl
  where
    go : (n : ℕ) → number_where p xs ≡ n → (m : ℕ) × (number_where p xs ≡ suc m)
    go zero d = absurd (true≢false (sym e ∙ none_passes p xs k x d is))
    go (suc m) d = (m, d)

-- a query keeps its request and its question
pub record SameQuery (a b : QueryRow) : Type 0 where
  pub request : b.request ≡ a.request
  pub question : b.question ≡ a.question

pub stand_same : (a b : QueryRow) → QueryStands a b → SameQuery a b
stand_same a b s = record { request = s.request; question = s.question }

pub rows_stand_same : (qs ss : List QueryRow) → RowsStand QueryStands qs ss → RowsStand SameQuery qs ss
rows_stand_same qs ss rows n a is = let row : (b : QueryRow) × (nth ss n ≡ Some b) × QueryStands a b = rows n a is in (row.0, row.1, stand_same a row.0 row.2)

-- whether an answer loses its query is the same in later tables
pub lost_stays : (qs ss : List QueryRow) → RowsStand SameQuery qs ss → (k : ℕ) (a b : QueryRow) (answer : Answer) → nth qs k ≡ Some a → SameQuery a b → is_lost ss k b answer ≡ is_lost qs k a answer
lost_stays qs ss rows k a b answer is s = ap₂ (λ (x : Question) (n : ℕ). is_death answer && is_kept_kind x.kind && (n == k)) s.question same_first
  where
    alike : (n : ℕ) (x : QueryRow) → nth qs n ≡ Some x → (y : QueryRow) × (nth ss n ≡ Some y) × (asks_same b y ≡ asks_same a x)
    alike n x at =
        let row : (y : QueryRow) × (nth ss n ≡ Some y) × SameQuery x y = rows n x at in (
          row.0,
          row.1,
          ap₂ (λ (c d : Bool). c && d) (ap₂ (λ (u v : ℕ). u == v) row.2.request s.request) (ap₂ (λ (u v : Question). u.db == v.db) row.2.question s.question),
        )

    same_first : number_where (asks_same b) ss ≡ number_where (asks_same a) qs
    same_first = go (found (asks_same a) qs k a is (ap₂ (λ (c d : Bool). c && d) (eq-eqb a.request a.request refl) (eq-eqb a.question.db a.question.db refl)))
      where
        go : (m : ℕ) × (number_where (asks_same a) qs ≡ suc m) → number_where (asks_same b) ss ≡ number_where (asks_same a) qs
        go (m, w) = first_alike (asks_same a) (asks_same b) qs ss alike m w ∙ sym w

-- the query of this number, which has this answer, is lost where its answer lost it
pub lost_in : (qs : List QueryRow) (k : ℕ) (a : QueryRow) (p : Answer × ℕ) → nth qs k ≡ Some a → a.answer ≡ Some p → is_lost_in qs k ≡ is_lost qs k a p.0
lost_in qs k a p is e = ap (passes_option (λ (x : QueryRow). passes_option (λ (y : Answer × ℕ). is_lost qs k x y.0) x.answer)) is ∙ ap (passes_option (λ (y : Answer × ℕ). is_lost qs k a y.0)) e

-- once its answer is recorded, a query is lost exactly where that answer loses it
pub lost_once_told : (f : QueryRow → QueryRow) → ((a : QueryRow) → SameQuery a (f a)) → (qs : List QueryRow) (k : ℕ) (a : QueryRow) (p : Answer × ℕ) → nth qs k ≡ Some a → (f a).answer ≡ Some p →
    is_lost_in (changed_nth f qs k) k ≡ is_lost qs k a p.0
lost_once_told f keeps qs k a p is e =
    lost_in (changed_nth f qs k) k (f a) p (nth-changed f qs k ∙ ap (option_map f) is) e
    ∙ lost_stays qs (changed_nth f qs k) (changed_rows SameQuery (λ x. record { request = refl; question = refl }) (λ x y z s t. record { request = t.request ∙ s.request; question = t.question ∙ s.question }) f qs k (λ x at. keeps x)) k a (f a) p.0 is (keeps a)

-- and stays so
pub lost_later : (qs ss : List QueryRow) → RowsStand QueryStands qs ss → (k : ℕ) (a : QueryRow) (p : Answer × ℕ) → nth qs k ≡ Some a → a.answer ≡ Some p → is_lost_in ss k ≡ is_lost_in qs k
lost_later qs ss rows k a p is e = go (rows k a is)
  where
    go : (b : QueryRow) × (nth ss k ≡ Some b) × QueryStands a b → is_lost_in ss k ≡ is_lost_in qs k
    go (b, at, s) = lost_in ss k b p at (s.answer p e) ∙ lost_stays qs ss (rows_stand_same qs ss rows) k a b p.0 is (stand_same a b s) ∙ sym (lost_in qs k a p is e)
