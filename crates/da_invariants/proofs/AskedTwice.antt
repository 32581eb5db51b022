-- A request asks a database again only where its first query was lost, and twice at most.
use Rattle.std.proofs.Common.{◌≡◌, ◌⊎◌, inl, inr, refl, sym, ◌∙◌, ap, Some, List, [], ◌∷◌, ℕ, suc, ◌+◌, ◌<◌, ◌≤◌, Bool, true, false, cond, ◌&&◌, ◌==◌, slice_get, true≢false, arith}
use Rattle.std.proofs.lemmas.Bool.{eqb-true}
use Rattle.da_base.specs.Words.{count_where, number_where}
use Rattle.da_fields.specs.declared.answer.Answer.{Answer}
use Rattle.da_fields.specs.declared.answer.Answer.TheVariants.{Found, Passed, Mismatch, Unknown, Internal}
use Rattle.da_fields.specs.declared.answer.Why.{Why}
use Rattle.da_fields.specs.declared.answer.Why.TheVariants.{Died, Malformed, Said, Late as WasLate, Exit}
use Rattle.da_tables.specs.RecordedAnswers.{asks_same, is_death, is_kept_kind, is_lost, is_lost_in}
use Rattle.da_invariants.specs.RepeatLaws.{AskedAgainWhereLost, AskedTwiceAtMost, IsRepeat}
use Rattle.da_play.specs.History.{tables_of}
use Rattle.da_tables.proofs.Cases.{and_first, and_second}
use Rattle.da_tables.specs.declared.queries.QueryRow.{QueryRow}
use Rattle.da_invariants.proofs.Accounted.{lost_row, one_is_lost}
use Rattle.da_invariants.proofs.Repeats.{history_repeats}

-- ---- the laws

death_is : (answer : Answer) → is_death answer ≡ true → answer ≡ Internal Died
death_is (Found stored fields) e = absurd (true≢false (sym e))
death_is (Passed fields) e = absurd (true≢false (sym e))
death_is Mismatch e = absurd (true≢false (sym e))
death_is Unknown e = absurd (true≢false (sym e))
death_is (Internal why) e = go why e
  where
    go : (w : Why) → is_death (Internal w) ≡ true → Internal w ≡ Internal Died
    go Died d = refl
    go Malformed d = absurd (true≢false (sym d))
    go Said d = absurd (true≢false (sym d))
    go WasLate d = absurd (true≢false (sym d))
    go (Exit status) d = absurd (true≢false (sym d))

-- two queries that ask the same
same_request : (a b : QueryRow) → asks_same a b ≡ true → b.request ≡ a.request
same_request a b e = eqb-true b.request a.request (and_first (b.request == a.request) (b.question.db == a.question.db) e)

same_database : (a b : QueryRow) → asks_same a b ≡ true → b.question.db ≡ a.question.db
same_database a b e = eqb-true b.question.db a.question.db (and_second (b.request == a.request) (b.question.db == a.question.db) e)

pub asked_again_where_lost : AskedAgainWhereLost
asked_again_where_lost settings h legal k m a b x y l e = go (lost_row (tables_of settings h).queries k a x found.0)
  where
    found : (is_lost_in (tables_of settings h).queries k ≡ true) × (b.question ≡ a.question)
    found = (history_repeats settings h legal).repeats k m a b x y l (same_request a b e) (same_database a b e)

    go : (p : Answer × ℕ) × (a.answer ≡ Some p) × (is_lost (tables_of settings h).queries k a p.0 ≡ true) → IsRepeat settings h k a b
    go (p, told, lost) =
        let both : (is_death p.0 && is_kept_kind a.question.kind) ≡ true = and_first (is_death p.0 && is_kept_kind a.question.kind) (number_where (asks_same a) (tables_of settings h).queries == k) lost in
        record {
          is_lost = found.0;
          may_be_repeated = and_second (is_death p.0) (is_kept_kind a.question.kind) both;
          moment = p.1;
          died = told ∙ ap (λ (x : Answer). Some (x, p.1)) (death_is p.0 (and_first (is_death p.0) (is_kept_kind a.question.kind) both));
          same_question = found.1;
        }

-- ---- three rows

module _ {A : Type 0} (p : A → Bool) where
  -- a row from place i on that passes
  record Passes (xs : List A) : Type 0 where
    pub place : ℕ
    pub row : A
    pub is_there : slice_get xs place ≡ Some row
    pub passes : p row ≡ true

  record PassesTwice (xs : List A) : Type 0 where
    pub first : Passes xs
    pub second : Passes xs
    pub are_apart : first.place < second.place

  record PassesThrice (xs : List A) : Type 0 where
    pub first : Passes xs
    pub second : Passes xs
    pub third : Passes xs
    pub are_apart : first.place < second.place
    pub are_apart_too : second.place < third.place

  abbrev further : (x : A) (xs : List A) → Passes xs → Passes (x ∷ xs)
  further x xs q = record { place = suc q.place; row = q.row; is_there = q.is_there; passes = q.passes }

  abbrev here : (x : A) (xs : List A) → p x ≡ true → Passes (x ∷ xs)
  here x xs e = record { place = 0; row = x; is_there = refl; passes = e }

  one_or_none : (xs : List A) → (count_where p xs ≤ 0) ⊎ Passes xs
  one_or_none [] = inl (omega arith)
  one_or_none (x ∷ xs) = go (p x) refl (one_or_none xs)
    where
      go : (b : Bool) → p x ≡ b → (count_where p xs ≤ 0) ⊎ Passes xs → (cond (p x) 1 0 + count_where p xs ≤ 0) ⊎ Passes (x ∷ xs)
      go true e rest = inr (here x xs e)
      go false e (inl l) = let now : cond (p x) 1 0 ≡ 0 = ap (λ (b : Bool). let n : ℕ = cond b 1 0 in n) e in inl (omega (arith, l, now))
      go false e (inr q) = inr (further x xs q)

  two_or_one : (xs : List A) → (count_where p xs ≤ 1) ⊎ PassesTwice xs
  two_or_one [] = inl (omega arith)
  two_or_one (x ∷ xs) = go (p x) refl (one_or_none xs) (two_or_one xs)
    where
      go : (b : Bool) → p x ≡ b → (count_where p xs ≤ 0) ⊎ Passes xs → (count_where p xs ≤ 1) ⊎ PassesTwice xs → (cond (p x) 1 0 + count_where p xs ≤ 1) ⊎ PassesTwice (x ∷ xs)
      go true e (inl l) rest = let now : cond (p x) 1 0 ≡ 1 = ap (λ (b : Bool). let n : ℕ = cond b 1 0 in n) e in inl (omega (arith, l, now))
      go true e (inr q) rest = inr (record { first = here x xs e; second = further x xs q; are_apart = omega arith })
      go false e one (inl l) = let now : cond (p x) 1 0 ≡ 0 = ap (λ (b : Bool). let n : ℕ = cond b 1 0 in n) e in inl (omega (arith, l, now))
      go false e one (inr q) = let l : q.first.place < q.second.place = q.are_apart in inr (record { first = further x xs q.first; second = further x xs q.second; are_apart = omega (arith, l) })

  three_or_two : (xs : List A) → (count_where p xs ≤ 2) ⊎ PassesThrice xs
  three_or_two [] = inl (omega arith)
  three_or_two (x ∷ xs) = go (p x) refl (two_or_one xs) (three_or_two xs)
    where
      go : (b : Bool) → p x ≡ b → (count_where p xs ≤ 1) ⊎ PassesTwice xs → (count_where p xs ≤ 2) ⊎ PassesThrice xs → (cond (p x) 1 0 + count_where p xs ≤ 2) ⊎ PassesThrice (x ∷ xs)
      go true e (inl l) rest = let now : cond (p x) 1 0 ≡ 1 = ap (λ (b : Bool). let n : ℕ = cond b 1 0 in n) e in inl (omega (arith, l, now))
      go true e (inr q) rest =
          let l : q.first.place < q.second.place = q.are_apart in
          inr (record { first = here x xs e; second = further x xs q.first; third = further x xs q.second; are_apart = omega arith; are_apart_too = omega (arith, l) })
      go false e two (inl l) = let now : cond (p x) 1 0 ≡ 0 = ap (λ (b : Bool). let n : ℕ = cond b 1 0 in n) e in inl (omega (arith, l, now))
      go false e two (inr q) =
          let l : q.first.place < q.second.place = q.are_apart in
          let m : q.second.place < q.third.place = q.are_apart_too in
          inr (record { first = further x xs q.first; second = further x xs q.second; third = further x xs q.third; are_apart = omega (arith, l); are_apart_too = omega (arith, m) })

-- of three queries of a request to a database two would be lost
pub asked_twice_at_most : AskedTwiceAtMost
asked_twice_at_most settings h legal a = go (three_or_two (asks_same a) (tables_of settings h).queries)
  where
    lost : (q r : Passes (asks_same a) (tables_of settings h).queries) → q.place < r.place → is_lost_in (tables_of settings h).queries (suc q.place) ≡ true
    lost q r l =
        let found : (is_lost_in (tables_of settings h).queries (suc q.place) ≡ true) × (r.row.question ≡ q.row.question) =
        (history_repeats settings h legal).repeats (suc q.place) (suc r.place) q.row r.row q.is_there r.is_there (omega (arith, l))
        (same_request a r.row r.passes ∙ sym (same_request a q.row q.passes)) (same_database a r.row r.passes ∙ sym (same_database a q.row q.passes)) in
        found.0

    go : (count_where (asks_same a) (tables_of settings h).queries ≤ 2) ⊎ PassesThrice (asks_same a) (tables_of settings h).queries → count_where (asks_same a) (tables_of settings h).queries ≤ 2
    go (inl l) = l
    go (inr t) =
        let equal : suc t.first.place ≡ suc t.second.place =
        one_is_lost (tables_of settings h).queries (suc t.first.place) (suc t.second.place) t.first.row t.second.row t.first.is_there t.second.is_there
        (same_request a t.second.row t.second.passes ∙ sym (same_request a t.first.row t.first.passes)) (same_database a t.second.row t.second.passes ∙ sym (same_database a t.first.row t.first.passes))
        (lost t.first t.second t.are_apart) (lost t.second t.third t.are_apart_too) in
        let l : t.first.place < t.second.place = t.are_apart in
        let bad : ⊥ = omega (arith, equal, l) in absurd bad
