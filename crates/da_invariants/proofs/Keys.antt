-- Lists of keys: what a key that is put first or taken out leaves.
use Rattle.std.proofs.Common.{◌≡◌, ◌⊎◌, inl, inr, refl, sym, ◌∙◌, ap, ap₂, subst, List, [], ◌∷◌, ℕ, zero, suc, ◌+◌, ◌≤◌, Bool, true, false, cond, not, ◌&&◌, ◌||◌, length, take, ◌==◌, bytes_eq, true≢false, eq-eqb, arith}
use Rattle.std.proofs.lemmas.Bool.{eqb-true}
use Rattle.std.proofs.lemmas.Slice.Eq.{bytes_eq-Decides}
use Rattle.da_tables.proofs.Cases.{and_first, and_second, or_true}
use Rattle.da_base.specs.Words.{count_where}
use Rattle.da_keys.specs.Keys.{same_kind, same_key, has_key, without_key, key_first}
use Rattle.da_keys.specs.declared.key.Key.{Key}
use Rattle.da_fields.specs.declared.answer.QueryKind.{QueryKind}
use Rattle.da_fields.specs.declared.answer.QueryKind.TheVariants.{Pass, Check, User}

-- ---- equal keys

kinds_equal : (a b : QueryKind) → same_kind a b ≡ true → a ≡ b
kinds_equal Pass Pass e = refl
kinds_equal Pass Check e = absurd (true≢false (sym e))
kinds_equal Pass User e = absurd (true≢false (sym e))
kinds_equal Check Pass e = absurd (true≢false (sym e))
kinds_equal Check Check e = refl
kinds_equal Check User e = absurd (true≢false (sym e))
kinds_equal User Pass e = absurd (true≢false (sym e))
kinds_equal User Check e = absurd (true≢false (sym e))
kinds_equal User User e = refl

kind_is : (a : QueryKind) → same_kind a a ≡ true
kind_is Pass = refl
kind_is Check = refl
kind_is User = refl

bytes_equal : (xs ys : List ℕ) → bytes_eq xs ys ≡ true → xs ≡ ys
bytes_equal xs ys e = (bytes_eq-Decides xs ys).0 e

bytes_are : (xs : List ℕ) → bytes_eq xs xs ≡ true
bytes_are xs = (bytes_eq-Decides xs xs).1 refl

pub keys_equal : (a b : Key) → same_key a b ≡ true → a ≡ b
keys_equal a b e =
    let kinds : same_kind a.kind b.kind ≡ true = and_first (same_kind a.kind b.kind) _ (and_first (same_kind a.kind b.kind && (a.db == b.db)) _ e) in
    let dbs : (a.db == b.db) ≡ true = and_second (same_kind a.kind b.kind) _ (and_first (same_kind a.kind b.kind && (a.db == b.db)) _ e) in
    let users : bytes_eq a.user b.user ≡ true = and_second (same_kind a.kind b.kind && (a.db == b.db)) _ e in
    ap (λ (x : QueryKind). record a { kind = x }) (kinds_equal a.kind b.kind kinds)
    ∙ ap (λ (x : ℕ). record a { kind = b.kind; db = x }) (eqb-true a.db b.db dbs)
    ∙ ap (λ (x : List ℕ). record a { kind = b.kind; db = b.db; user = x }) (bytes_equal a.user b.user users)

pub key_is : (a : Key) → same_key a a ≡ true
key_is a = ap₂ (λ x y. x && y) (ap₂ (λ x y. x && y) (kind_is a.kind) (eq-eqb a.db a.db refl)) (bytes_are a.user)

-- ---- a key taken out

or_first : (a b : Bool) → a ≡ true → (a || b) ≡ true
or_first a b e = ap (λ x. x || b) e

or_second : (a b : Bool) → b ≡ true → (a || b) ≡ true
or_second true b e = refl
or_second false b e = e

abbrev without : Bool → Key → List Key → List Key
without b x xs = cond (not b) (x ∷ xs) xs

count_without : (k j : Key) (keys : List Key) → count_where (same_key k) (without_key j keys) ≤ count_where (same_key k) keys
count_without k j [] = omega arith
count_without k j (x ∷ keys) = go (same_key j x) (count_without k j keys)
  where
    go : (b : Bool) → count_where (same_key k) (without_key j keys) ≤ count_where (same_key k) keys →
        count_where (same_key k) (without b x (without_key j keys)) ≤ cond (same_key k x) 1 0 + count_where (same_key k) keys
    go true rest = omega (arith, rest)
    go false rest = omega (arith, rest)

none_without : (j : Key) (keys : List Key) → count_where (same_key j) (without_key j keys) ≡ 0
none_without j [] = refl
none_without j (x ∷ keys) = go (same_key j x) refl (none_without j keys)
  where
    go : (b : Bool) → same_key j x ≡ b → count_where (same_key j) (without_key j keys) ≡ 0 → count_where (same_key j) (without b x (without_key j keys)) ≡ 0
    go true e rest = rest
    go false e rest = ap₂ (λ (c : Bool) (n : ℕ). cond c 1 0 + n) e rest

pub not_without : (j : Key) (keys : List Key) → has_key j (without_key j keys) ≡ false
not_without j [] = refl
not_without j (x ∷ keys) = go (same_key j x) refl (not_without j keys)
  where
    go : (b : Bool) → same_key j x ≡ b → has_key j (without_key j keys) ≡ false → has_key j (without b x (without_key j keys)) ≡ false
    go true e rest = rest
    go false e rest = ap₂ (λ c d. c || d) e rest

pub without_has : (k j : Key) (keys : List Key) → has_key k (without_key j keys) ≡ true → has_key k keys ≡ true
without_has k j [] e = e
without_has k j (x ∷ keys) e = go (same_key j x) (without_has k j keys) e
  where
    go : (b : Bool) → (has_key k (without_key j keys) ≡ true → has_key k keys ≡ true) → has_key k (without b x (without_key j keys)) ≡ true → (same_key k x || has_key k keys) ≡ true
    go true rest d = or_second (same_key k x) _ (rest d)
    go false rest d = ors (or_true (same_key k x) _ d)
      where
        ors : (same_key k x ≡ true) ⊎ (has_key k (without_key j keys) ≡ true) → (same_key k x || has_key k keys) ≡ true
        ors (inl y) = or_first (same_key k x) _ y
        ors (inr y) = or_second (same_key k x) _ (rest y)

length_without : (j : Key) (keys : List Key) → length (without_key j keys) ≤ length keys
length_without j [] = omega arith
length_without j (x ∷ keys) = go (same_key j x) (length_without j keys)
  where
    go : (b : Bool) → length (without_key j keys) ≤ length keys → length (without b x (without_key j keys)) ≤ suc (length keys)
    go true rest = omega (arith, rest)
    go false rest = omega (arith, rest)

fewer_without : (j : Key) (keys : List Key) → has_key j keys ≡ true → suc (length (without_key j keys)) ≤ length keys
fewer_without j [] e = absurd (true≢false (sym e))
fewer_without j (x ∷ keys) e = go (same_key j x) e (length_without j keys) (fewer_without j keys)
  where
    go : (b : Bool) → (b || has_key j keys) ≡ true → length (without_key j keys) ≤ length keys → (has_key j keys ≡ true → suc (length (without_key j keys)) ≤ length keys) →
        suc (length (without b x (without_key j keys))) ≤ suc (length keys)
    go true d all rest = omega (arith, all)
    go false d all rest = let fewer : suc (length (without_key j keys)) ≤ length keys = rest d in omega (arith, fewer)

-- ---- a key put first

pub first_distinct : (k j : Key) (keys : List Key) → count_where (same_key k) keys ≤ 1 → count_where (same_key k) (key_first j keys) ≤ 1
first_distinct k j keys l = go (same_key k j) refl
  where
    go : (b : Bool) → same_key k j ≡ b → cond b 1 0 + count_where (same_key k) (without_key j keys) ≤ 1
    go true e = let none : count_where (same_key k) (without_key j keys) ≡ 0 = subst (λ (x : Key). count_where (same_key x) (without_key j keys) ≡ 0) (sym (keys_equal k j e)) (none_without j keys) in omega (arith, none)
    go false e = let less : count_where (same_key k) (without_key j keys) ≤ count_where (same_key k) keys = count_without k j keys in omega (arith, less, l)

pub without_distinct : (k j : Key) (keys : List Key) → count_where (same_key k) keys ≤ 1 → count_where (same_key k) (without_key j keys) ≤ 1
without_distinct k j keys l = let less : count_where (same_key k) (without_key j keys) ≤ count_where (same_key k) keys = count_without k j keys in omega (arith, less, l)

pub first_has : (k j : Key) (keys : List Key) → has_key k (key_first j keys) ≡ true → (k ≡ j) ⊎ (has_key k keys ≡ true)
first_has k j keys e = go (or_true (same_key k j) _ e)
  where
    go : (same_key k j ≡ true) ⊎ (has_key k (without_key j keys) ≡ true) → (k ≡ j) ⊎ (has_key k keys ≡ true)
    go (inl d) = inl (keys_equal k j d)
    go (inr d) = inr (without_has k j keys d)

pub has_first : (k j : Key) (keys : List Key) → has_key k keys ≡ true → has_key k (key_first j keys) ≡ true
has_first k j keys e = go (same_key k j) refl
  where
    kept : (keys : List Key) → same_key k j ≡ false → has_key k keys ≡ true → has_key k (without_key j keys) ≡ true
    kept [] f e = e
    kept (x ∷ keys) f e = there (same_key j x) refl (or_true (same_key k x) _ e) (kept keys f)
      where
        there : (b : Bool) → same_key j x ≡ b → (same_key k x ≡ true) ⊎ (has_key k keys ≡ true) → (has_key k keys ≡ true → has_key k (without_key j keys) ≡ true) → has_key k (without b x (without_key j keys)) ≡ true
        there true d (inl y) rest = absurd (true≢false (sym (ap₂ (λ (p q : Key). same_key p q) (keys_equal k x y) (keys_equal j x d) ∙ key_is x) ∙ f))
        there true d (inr y) rest = rest y
        there false d (inl y) rest = or_first (same_key k x) _ y
        there false d (inr y) rest = or_second (same_key k x) _ (rest y)

    go : (b : Bool) → same_key k j ≡ b → (b || has_key k (without_key j keys)) ≡ true
    go true d = refl
    go false d = kept keys d e

pub first_fits : (j : Key) (keys : List Key) (size : ℕ) → has_key j keys ≡ true → length keys ≤ size → length (key_first j keys) ≤ size
first_fits j keys size e l = let fewer : suc (length (without_key j keys)) ≤ length keys = fewer_without j keys e in omega (arith, fewer, l)

pub without_fits : (j : Key) (keys : List Key) (size : ℕ) → length keys ≤ size → length (without_key j keys) ≤ size
without_fits j keys size l = let less : length (without_key j keys) ≤ length keys = length_without j keys in omega (arith, less, l)

-- ---- the first keys

pub take_fits : (keys : List Key) (size : ℕ) → length (take size keys) ≤ size
take_fits keys zero = omega arith
take_fits [] (suc size) = omega arith
take_fits (x ∷ keys) (suc size) = let rest : length (take size keys) ≤ size = take_fits keys size in omega (arith, rest)

pub take_count : (k : Key) (keys : List Key) (size : ℕ) → count_where (same_key k) (take size keys) ≤ count_where (same_key k) keys
take_count k keys zero = omega arith
take_count k [] (suc size) = omega arith
take_count k (x ∷ keys) (suc size) = let rest : count_where (same_key k) (take size keys) ≤ count_where (same_key k) keys = take_count k keys size in omega (arith, rest)

pub take_has : (k : Key) (keys : List Key) (size : ℕ) → has_key k (take size keys) ≡ true → has_key k keys ≡ true
take_has k keys zero e = absurd (true≢false (sym e))
take_has k [] (suc size) e = e
take_has k (x ∷ keys) (suc size) e = go (or_true (same_key k x) _ e) (take_has k keys size)
  where
    go : (same_key k x ≡ true) ⊎ (has_key k (take size keys) ≡ true) → (has_key k (take size keys) ≡ true → has_key k keys ≡ true) → (same_key k x || has_key k keys) ≡ true
    go (inl d) rest = or_first (same_key k x) _ d
    go (inr d) rest = or_second (same_key k x) _ (rest d)
