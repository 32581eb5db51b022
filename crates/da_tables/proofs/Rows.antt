-- Rows of tables, counted from 1: what a changed, mapped or longer table has at a place.
use Rattle.std.proofs.Common.{◌≡◌, ◌≢◌, ◌⊎◌, inl, inr, refl, sym, ◌∙◌, ap, subst, Option, Some, None, List, [], ◌∷◌, ◌++◌, ℕ, zero, suc, Bool, true, false, map, length, get_or, set, slice_get, option_map, ◌||◌, ◌<◌, ◌+◌, ne_eqb, arith, cond, ◌==◌, eq-eqb, true≢false}
use Rattle.std.specs.List.{list_any}
use Rattle.std.proofs.lemmas.Bool.{eqb-true}
use Rattle.std.proofs.lemmas.Option.{none-some, same_Some, slice_get_read}
use Rattle.da_base.specs.Words.{nth, changed_at, changed_nth, passes_option, number_where, numbers_where, one_further, option_or_else}

-- equal or not
pub same_or_not : (m n : ℕ) → (m ≡ n) ⊎ (m ≢ n)
same_or_not m n = go (m == n) refl
  where
    go : (b : Bool) → (m == n) ≡ b → (m ≡ n) ⊎ (m ≢ n)
    go true e = inl (eqb-true m n e)
    go false e = inr (λ d. true≢false (sym (eq-eqb m n d) ∙ e))

-- what passes a test is there
pub passing : {A : Type 0} (holds : A → Bool) (o : Option A) → passes_option holds o ≡ true → (x : A) × (o ≡ Some x) × (holds x ≡ true)
passing holds None e = absurd (true≢false (sym e))
passing holds (Some x) e = (x, refl, e)

pub mapped_value : {A B : Type 0} (f : A → B) (o : Option A) (y : B) → option_map f o ≡ Some y → (x : A) × (o ≡ Some x) × (y ≡ f x)
mapped_value f None y e = absurd (none-some y e)
mapped_value f (Some x) y e = (x, refl, sym (same_Some (f x) y e))

slice-map : {A B : Type 0} (f : A → B) (xs : List A) (n : ℕ) → slice_get (map f xs) n ≡ option_map f (slice_get xs n)
slice-map f [] n = refl
slice-map f (x ∷ xs) zero = refl
slice-map f (x ∷ xs) (suc n) = slice-map f xs n

pub nth-map : {A B : Type 0} (f : A → B) (xs : List A) (n : ℕ) → nth (map f xs) n ≡ option_map f (nth xs n)
nth-map f xs zero = refl
nth-map f xs (suc n) = slice-map f xs n

changed_at-length : {A : Type 0} (f : A → A) (xs : List A) (n : ℕ) → length (changed_at f xs n) ≡ length xs
changed_at-length f [] n = refl
changed_at-length f (x ∷ xs) zero = refl
changed_at-length f (x ∷ xs) (suc n) = ap suc (changed_at-length f xs n)

pub changed-length : {A : Type 0} (f : A → A) (xs : List A) (n : ℕ) → length (changed_nth f xs n) ≡ length xs
changed-length f xs zero = refl
changed-length f xs (suc n) = changed_at-length f xs n

slice-changed : {A : Type 0} (f : A → A) (xs : List A) (n : ℕ) → slice_get (changed_at f xs n) n ≡ option_map f (slice_get xs n)
slice-changed f [] n = refl
slice-changed f (x ∷ xs) zero = refl
slice-changed f (x ∷ xs) (suc n) = slice-changed f xs n

pub nth-changed : {A : Type 0} (f : A → A) (xs : List A) (n : ℕ) → nth (changed_nth f xs n) n ≡ option_map f (nth xs n)
nth-changed f xs zero = refl
nth-changed f xs (suc n) = slice-changed f xs n

slice-other : {A : Type 0} (f : A → A) (xs : List A) (m n : ℕ) → n ≢ m → slice_get (changed_at f xs m) n ≡ slice_get xs n
slice-other f [] m n h = refl
slice-other f (x ∷ xs) zero zero h = absurd (h refl)
slice-other f (x ∷ xs) zero (suc n) h = refl
slice-other f (x ∷ xs) (suc m) zero h = refl
slice-other f (x ∷ xs) (suc m) (suc n) h = slice-other f xs m n (λ e. h (ap suc e))

pub nth-unchanged : {A : Type 0} (f : A → A) (xs : List A) (m n : ℕ) → n ≢ m → nth (changed_nth f xs m) n ≡ nth xs n
nth-unchanged f xs zero n h = refl
nth-unchanged f xs (suc m) zero h = refl
nth-unchanged f xs (suc m) (suc n) h = slice-other f xs m n (λ e. h (ap suc e))

slice-appended : {A : Type 0} (xs : List A) (x y : A) (n : ℕ) → slice_get (xs ++ x ∷ []) n ≡ Some y → ((n ≡ length xs) × (y ≡ x)) ⊎ (slice_get xs n ≡ Some y)
slice-appended [] x y zero e = inl (refl, sym (same_Some x y e))
slice-appended [] x y (suc n) e = absurd (none-some y e)
slice-appended (z ∷ xs) x y zero e = inr e
slice-appended (z ∷ xs) x y (suc n) e = go (slice-appended xs x y n e)
  where
    go : ((n ≡ length xs) × (y ≡ x)) ⊎ (slice_get xs n ≡ Some y) → ((suc n ≡ suc (length xs)) × (y ≡ x)) ⊎ (slice_get xs n ≡ Some y)
    go (inl (e, d)) = inl (ap suc e, d)
    go (inr e) = inr e

-- a row of a table with one row more is the new one or one of the old
pub of_appended : {A : Type 0} (xs : List A) (x y : A) (n : ℕ) → nth (xs ++ x ∷ []) n ≡ Some y → ((n ≡ suc (length xs)) × (y ≡ x)) ⊎ (nth xs n ≡ Some y)
of_appended xs x y zero e = absurd (none-some y e)
of_appended xs x y (suc n) e = go (slice-appended xs x y n e)
  where
    go : ((n ≡ length xs) × (y ≡ x)) ⊎ (slice_get xs n ≡ Some y) → ((suc n ≡ suc (length xs)) × (y ≡ x)) ⊎ (slice_get xs n ≡ Some y)
    go (inl (e, d)) = inl (ap suc e, d)
    go (inr e) = inr e

slice-last : {A : Type 0} (xs : List A) (x : A) → slice_get (xs ++ x ∷ []) (length xs) ≡ Some x
slice-last [] x = refl
slice-last (y ∷ xs) x = slice-last xs x

pub nth-last : {A : Type 0} (xs : List A) (x : A) → nth (xs ++ x ∷ []) (suc (length xs)) ≡ Some x
nth-last xs x = slice-last xs x

slice-beside : {A : Type 0} (xs : List A) (x : A) (n : ℕ) → (n ≡ length xs → ⊥) → slice_get (xs ++ x ∷ []) n ≡ slice_get xs n
slice-beside [] x zero h = absurd (h refl)
slice-beside [] x (suc n) h = refl
slice-beside (y ∷ xs) x zero h = refl
slice-beside (y ∷ xs) x (suc n) h = slice-beside xs x n (λ e. h (ap suc e))

-- but for the new row a longer table is as it was
pub nth-other : {A : Type 0} (xs : List A) (x : A) (n : ℕ) → (n ≡ suc (length xs) → ⊥) → nth (xs ++ x ∷ []) n ≡ nth xs n
nth-other xs x zero h = refl
nth-other xs x (suc n) h = slice-beside xs x n (λ e. h (ap suc e))

slice-before : {A : Type 0} (xs ys : List A) (y : A) (n : ℕ) → slice_get xs n ≡ Some y → slice_get (xs ++ ys) n ≡ Some y
slice-before [] ys y n e = absurd (none-some y e)
slice-before (x ∷ xs) ys y zero e = e
slice-before (x ∷ xs) ys y (suc n) e = slice-before xs ys y n e

-- a row stays where it is when a table gets longer
pub nth-before : {A : Type 0} (xs ys : List A) (y : A) (n : ℕ) → nth xs n ≡ Some y → nth (xs ++ ys) n ≡ Some y
nth-before xs ys y zero e = absurd (none-some y e)
nth-before xs ys y (suc n) e = slice-before xs ys y n e

-- a row of a changed table is the changed one or another
pub of_changed : {A : Type 0} (f : A → A) (xs : List A) (m n : ℕ) (y : A) → nth (changed_nth f xs m) n ≡ Some y →
    ((n ≡ m) × (x : A) × (nth xs m ≡ Some x) × (y ≡ f x)) ⊎ ((n ≢ m) × (nth xs n ≡ Some y))
of_changed f xs m n y e = go (same_or_not n m)
  where
    go : (n ≡ m) ⊎ (n ≢ m) → ((n ≡ m) × (x : _) × (nth xs m ≡ Some x) × (y ≡ f x)) ⊎ ((n ≢ m) × (nth xs n ≡ Some y))
    go (inl d) =
        let found : (x : _) × (nth xs m ≡ Some x) × (y ≡ f x) = mapped_value f (nth xs m) y (sym (nth-changed f xs m) ∙ subst (λ k. nth (changed_nth f xs m) k ≡ Some y) d e) in
        inl (d, found.0, found.1, found.2)
    go (inr d) = inr (d, sym (nth-unchanged f xs m n d) ∙ e)

-- a row of a mapped table
pub of_mapped : {A B : Type 0} (f : A → B) (xs : List A) (n : ℕ) (y : B) → nth (map f xs) n ≡ Some y → (x : A) × (nth xs n ≡ Some x) × (y ≡ f x)
of_mapped f xs n y e = mapped_value f (nth xs n) y (sym (nth-map f xs n) ∙ e)

slice-past : {A : Type 0} (xs : List A) (y : A) → slice_get xs (length xs) ≡ Some y → ⊥
slice-past [] y e = none-some y e
slice-past (x ∷ xs) y e = slice-past xs y e

-- a table has no row past its end
pub nth-past : {A : Type 0} (xs : List A) (y : A) → nth xs (suc (length xs)) ≡ Some y → ⊥
nth-past xs y e = slice-past xs y e

-- the first row that passes a test passes it
pub first_passes : {A : Type 0} (holds : A → Bool) (xs : List A) (x : A) → nth xs (number_where holds xs) ≡ Some x → holds x ≡ true
first_passes holds [] x e = absurd (none-some x e)
first_passes {A} holds (y ∷ xs) x e = go (first_passes holds xs x) (holds y) refl
  where
    later : (n : ℕ) → nth (y ∷ xs) (one_further n) ≡ Some x → nth xs n ≡ Some x
    later zero d = absurd (none-some x d)
    later (suc n) d = d

    go : (nth xs (number_where holds xs) ≡ Some x → holds x ≡ true) → (b : Bool) → holds y ≡ b → holds x ≡ true
    go further true d = subst (λ z. holds z ≡ true) (same_Some y x (sym (ap (λ (b : Bool). nth (y ∷ xs) (cond b 1 (one_further (number_where holds xs)))) d) ∙ e)) d
    go further false d = further (later (number_where holds xs) (sym (ap (λ (b : Bool). nth (y ∷ xs) (cond b 1 (one_further (number_where holds xs)))) d) ∙ e))

-- the number of the first row that passes is that of a row
pub number_found : {A : Type 0} (holds : A → Bool) (xs : List A) (n : ℕ) → number_where holds xs ≡ suc n → (x : A) × (nth xs (suc n) ≡ Some x)
number_found holds [] n e = absurd (zero-not-suc n e)
  where
    is_zero : ℕ → Bool
    is_zero zero = true
    is_zero (suc n) = false

    zero-not-suc : (n : ℕ) → zero ≡ suc n → ⊥
    zero-not-suc n e = true≢false (ap is_zero e)
number_found {A} holds (y ∷ xs) n e = go (number_found holds xs) (holds y) refl
  where
    less : ℕ → ℕ
    less zero = zero
    less (suc n) = n

    is_zero : ℕ → Bool
    is_zero zero = true
    is_zero (suc n) = false

    further : ((k : ℕ) → number_where holds xs ≡ suc k → (x : A) × (nth xs (suc k) ≡ Some x)) → (m : ℕ) → number_where holds xs ≡ m → one_further m ≡ suc n → (x : A) × (nth (y ∷ xs) (suc n) ≡ Some x)
    further rest zero d w = absurd (true≢false (ap is_zero w))
    further rest (suc k) d w = subst (λ (j : ℕ). (x : A) × (nth (y ∷ xs) (suc j) ≡ Some x)) (ap less w) (rest k d)

    go : ((k : ℕ) → number_where holds xs ≡ suc k → (x : A) × (nth xs (suc k) ≡ Some x)) → (b : Bool) → holds y ≡ b → (x : A) × (nth (y ∷ xs) (suc n) ≡ Some x)
    go rest true d = subst (λ (j : ℕ). (x : A) × (nth (y ∷ xs) (suc j) ≡ Some x)) (ap less (sym (ap (λ (b : Bool). cond b 1 (one_further (number_where holds xs))) d) ∙ e)) (y, refl)
    go rest false d = further rest (number_where holds xs) refl (sym (ap (λ (b : Bool). cond b 1 (one_further (number_where holds xs))) d) ∙ e)

-- ---- the numbers of the rows that pass

none_before : {A : Type 0} (holds : A → Bool) (k m : ℕ) (xs : List A) → k < m → list_any (λ n. n == k) (numbers_where holds m xs) ≡ false
none_before holds k m [] l = refl
none_before holds k m (x ∷ xs) l = by_pass (none_before holds k (suc m) xs (omega (arith, l))) (holds x)
  where
    by_pass : list_any (λ n. n == k) (numbers_where holds (suc m) xs) ≡ false → (b : Bool) → list_any (λ n. n == k) (cond b (m ∷ numbers_where holds (suc m) xs) (numbers_where holds (suc m) xs)) ≡ false
    by_pass rest true = ap (λ (b : Bool). b || list_any (λ n. n == k) (numbers_where holds (suc m) xs)) (ne_eqb m k (λ d. let bad : ⊥ = omega (arith, d, l) in bad)) ∙ rest
    by_pass rest false = rest

numbered : {A : Type 0} (holds : A → Bool) (n m : ℕ) (xs : List A) → list_any (λ j. j == n + m) (numbers_where holds m xs) ≡ passes_option holds (slice_get xs n)
numbered holds n m [] = refl
numbered holds zero m (x ∷ xs) = by_pass (holds x)
  where
    by_pass : (b : Bool) → list_any (λ j. j == 0 + m) (cond b (m ∷ numbers_where holds (suc m) xs) (numbers_where holds (suc m) xs)) ≡ b
    by_pass true = ap (λ (b : Bool). b || list_any (λ j. j == 0 + m) (numbers_where holds (suc m) xs)) (eq-eqb m (0 + m) (omega arith))
    by_pass false = none_before holds (0 + m) (suc m) xs (omega arith)
numbered holds (suc n) m (x ∷ xs) = by_pass (numbered holds n (suc m) xs) (holds x)
  where
    shift : suc n + m ≡ n + suc m
    shift = omega arith

    by_pass : list_any (λ j. j == n + suc m) (numbers_where holds (suc m) xs) ≡ passes_option holds (slice_get xs n) → (b : Bool) →
        list_any (λ j. j == suc n + m) (cond b (m ∷ numbers_where holds (suc m) xs) (numbers_where holds (suc m) xs)) ≡ passes_option holds (slice_get xs n)
    by_pass rest true = ap (λ (b : Bool). b || list_any (λ j. j == suc n + m) (numbers_where holds (suc m) xs)) (ne_eqb m (suc n + m) (λ d. let bad : ⊥ = omega (arith, d) in bad))
        ∙ ap (λ (k : ℕ). list_any (λ j. j == k) (numbers_where holds (suc m) xs)) shift ∙ rest
    by_pass rest false = ap (λ (k : ℕ). list_any (λ j. j == k) (numbers_where holds (suc m) xs)) shift ∙ rest

-- a number is listed exactly where its row passes
pub is_listed : {A : Type 0} (holds : A → Bool) (n : ℕ) (xs : List A) → list_any (λ j. j == n) (numbers_where holds 1 xs) ≡ passes_option holds (nth xs n)
is_listed holds zero xs = none_before holds 0 1 xs (omega arith)
is_listed holds (suc n) xs = ap (λ (k : ℕ). list_any (λ j. j == k) (numbers_where holds 1 xs)) one_more ∙ numbered holds n 1 xs
  where
    one_more : suc n ≡ n + 1
    one_more = omega arith

-- ---- a list that each row has

abbrev pub listed : {A B : Type 0} → (A → List B) → Option A → List B
listed value o = option_or_else o [] value

-- the list of row n, empty where there is none
abbrev pub listed_at : {A B : Type 0} → (A → List B) → List A → ℕ → List B
listed_at value xs n = listed value (nth xs n)

module _ {A B : Type 0} (value : A → List B) where
  mapped_listed : (f : A → A) → ((x : A) → value (f x) ≡ value x) → (o : Option A) → listed value (option_map f o) ≡ listed value o
  mapped_listed f h None = refl
  mapped_listed f h (Some x) = h x

  pub changed_listed : (f : A → A) → ((x : A) → value (f x) ≡ value x) → (xs : List A) (m n : ℕ) → listed_at value (changed_nth f xs m) n ≡ listed_at value xs n
  changed_listed f h xs m n = go (same_or_not n m)
    where
      go : (n ≡ m) ⊎ (n ≢ m) → listed_at value (changed_nth f xs m) n ≡ listed_at value xs n
      go (inl d) = ap (listed_at value (changed_nth f xs m)) d ∙ ap (listed value) (nth-changed f xs m) ∙ mapped_listed f h (nth xs m) ∙ ap (listed_at value xs) (sym d)
      go (inr d) = ap (listed value) (nth-unchanged f xs m n d)

  pub map_listed : (f : A → A) → ((x : A) → value (f x) ≡ value x) → (xs : List A) (n : ℕ) → listed_at value (map f xs) n ≡ listed_at value xs n
  map_listed f h xs n = ap (listed value) (nth-map f xs n) ∙ mapped_listed f h (nth xs n)

  -- a new row whose list is empty
  pub new_listed : (xs : List A) (x : A) (n : ℕ) → value x ≡ [] → listed_at value (xs ++ x ∷ []) n ≡ listed_at value xs n
  new_listed xs x n none = go (same_or_not n (suc (length xs)))
    where
      nothing : (o : Option A) → ((y : A) → o ≡ Some y → ⊥) → [] ≡ listed value o
      nothing None h = refl
      nothing (Some y) h = absurd (h y refl)

      go : (n ≡ suc (length xs)) ⊎ (n ≢ suc (length xs)) → listed_at value (xs ++ x ∷ []) n ≡ listed_at value xs n
      go (inl d) = ap (listed_at value (xs ++ x ∷ [])) d ∙ ap (listed value) (nth-last xs x) ∙ none ∙ nothing (nth xs n) (λ y e. nth-past xs y (ap (nth xs) (sym d) ∙ e))
      go (inr d) = ap (listed value) (nth-other xs x n d)

-- ---- the first row that passes, found row by row

-- a number that is n further, where it isn't 0
abbrev pub further_by : ℕ → ℕ → ℕ
further_by n zero = zero
further_by n (suc k) = suc (n + k)

-- ---- a row that is changed in place

-- a table without the row stays as it is
pub changed-missing : {A : Type 0} (f : A → A) (xs : List A) (n : ℕ) → nth xs n ≡ None → xs ≡ changed_nth f xs n
changed-missing f xs zero e = refl
changed-missing {A} f xs (suc n) e = go xs n e
  where
    go : (xs : List A) (n : ℕ) → slice_get xs n ≡ None → xs ≡ changed_at f xs n
    go [] n e = refl
    go (x ∷ xs) zero e = absurd (none-some x (sym e))
    go (x ∷ xs) (suc n) e = ap (λ ys. x ∷ ys) (go xs n e)

-- what is written in the place of a row changes that row
pub changed-set : {A : Type 0} (f : A → A) (xs : List A) (n i : ℕ) (x y : A) → n ≡ i + 1 → i < length xs → x ≡ get_or xs i x → y ≡ f x →
    set xs i y ≡ changed_nth f xs n
changed-set {A} f xs n i x y numbered within is changes =
    go xs i (slice_get_read xs (length xs) i x refl within is) ∙ ap (λ (k : ℕ). changed_nth f xs k) (sym one_more)
  where
    go : (xs : List A) (i : ℕ) → slice_get xs i ≡ Some x → set xs i y ≡ changed_at f xs i
    go [] i e = absurd (none-some x e)
    go (z ∷ xs) zero e = ap (λ w. w ∷ xs) (changes ∙ ap f (sym (same_Some z x e)))
    go (z ∷ xs) (suc i) e = ap (λ ys. z ∷ ys) (go xs i e)

    one_more : n ≡ suc i
    one_more = omega (arith, numbered)

-- changes that agree on the row
pub changed-alike : {A : Type 0} (f g : A → A) (xs : List A) (n : ℕ) (x : A) → nth xs n ≡ Some x → f x ≡ g x → changed_nth f xs n ≡ changed_nth g xs n
changed-alike f g xs zero x e same = refl
changed-alike {A} f g xs (suc n) x e same = go xs n e
  where
    go : (xs : List A) (n : ℕ) → slice_get xs n ≡ Some x → changed_at f xs n ≡ changed_at g xs n
    go [] n e = refl
    go (y ∷ ys) zero e = ap (λ w. w ∷ ys) (ap f (same_Some y x e) ∙ same ∙ ap g (sym (same_Some y x e)))
    go (y ∷ ys) (suc n) e = ap (λ ws. y ∷ ws) (go ys n e)

-- the same for a table with a name of its own
pub changed-set-of : {A : Type 0} (f : A → A) (xs ys : List A) (n i : ℕ) (x y : A) → xs ≡ ys → n ≡ i + 1 → i < length xs → x ≡ get_or xs i x → y ≡ f x →
    set xs i y ≡ changed_nth f ys n
changed-set-of f xs ys n i x y same numbered within is changes = changed-set f xs n i x y numbered within is changes ∙ ap (λ zs. changed_nth f zs n) same
