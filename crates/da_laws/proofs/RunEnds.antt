-- What holds at the ends of connections and of runs.
use Rattle.std.proofs.Common.{◌≡◌, refl, sym, ◌∙◌, ap, Option, Some, None, List, [], ◌∷◌, ◌++◌, ℕ, zero, suc, ◌+◌, ◌≤◌, Bool, true, false, cond, not, ◌||◌, length, map, filter, flat_map, sum_by, nat_le, ◌==◌, append-nil, true≢false, arith}
use Rattle.std.specs.List.{list_any}
use Rattle.std.proofs.lemmas.Bool.Decides.{nat_tests}
use Rattle.da_tables.proofs.Cases.{and_second, not_true}
use Rattle.da_laws.proofs.Silent.{ended_is_silent}
use Rattle.da_invariants.proofs.Standing.{row_any}
use Rattle.da_base.specs.Words.{Bytes, nth, passes_option}
use Rattle.da_play.specs.Effects.{all_lines, entry_lines}
use Rattle.da_laws.specs.EndLaws.{WireIsClosed, FullStaysFull, OverIsClosed}
use Rattle.da_play.specs.History.{tables_of}
use Rattle.da_play.specs.Legal.{size, input_size}
use Rattle.da_tables.specs.declared.connections.Connection.{Connection}

-- ---- connections

filter-append : {A : Type 0} (comparison : A → Bool) (xs ys : List A) → filter comparison (xs ++ ys) ≡ filter comparison xs ++ filter comparison ys
filter-append comparison [] ys = refl
filter-append comparison (x ∷ xs) ys = go (comparison x) (filter-append comparison xs ys)
  where
    go : (b : Bool) → filter comparison (xs ++ ys) ≡ filter comparison xs ++ filter comparison ys → cond b (x ∷ filter comparison (xs ++ ys)) (filter comparison (xs ++ ys)) ≡ cond b (x ∷ filter comparison xs) (filter comparison xs) ++ filter comparison ys
    go true e = ap (λ zs. x ∷ zs) e
    go false e = e

none_pass : {A : Type 0} (comparison : A → Bool) (xs : List A) → list_any comparison xs ≡ false → filter comparison xs ≡ []
none_pass comparison [] e = refl
none_pass comparison (x ∷ xs) e = go (comparison x) e (none_pass comparison xs)
  where
    go : (b : Bool) → (b || list_any comparison xs) ≡ false → (list_any comparison xs ≡ false → filter comparison xs ≡ []) → cond b (x ∷ filter comparison xs) (filter comparison xs) ≡ []
    go true d rest = absurd (true≢false d)
    go false d rest = rest d

pub wire_is_closed : WireIsClosed
wire_is_closed settings e g conn c is ended =
    ap (λ (ls : List (ℕ × Bytes)). flat_map (λ l. l ++ 10 ∷ []) (map (λ l. l.1) ls))
    (filter-append (λ l. l.0 == conn) (all_lines settings g) (entry_lines settings e g)
    ∙ ap (λ (ls : List (ℕ × Bytes)). filter (λ l. l.0 == conn) (all_lines settings g) ++ ls) (none_pass (λ l. l.0 == conn) (entry_lines settings e g) (ended_is_silent settings e g conn c is ended))
    ∙ append-nil (filter (λ l. l.0 == conn) (all_lines settings g)))

-- ---- runs

further : (m n k : ℕ) → n ≤ k → nat_le m n ≡ true → nat_le m k ≡ true
further m n k l e = grind (arith, nat_tests, e, l)

either : (a b c d : Bool) → (a ≡ true → c ≡ true) → (b ≡ true → d ≡ true) → (a || b) ≡ true → (c || d) ≡ true
either true b c d p q e = ap (λ x. x || d) (p refl)
either false b true d p q e = refl
either false b false d p q e = q e

grows : (a b c : ℕ) → a ≤ a + 64 + b + c
grows a b c = omega arith

one_longer : (n : ℕ) → n ≤ suc n
one_longer n = omega arith

pub full_stays_full : FullStaysFull
full_stays_full settings e g full =
    either (nat_le settings.history_entries (length g)) (nat_le settings.history_bytes (size settings g)) (nat_le settings.history_entries (length (e ∷ g))) (nat_le settings.history_bytes (size settings (e ∷ g)))
    (further settings.history_entries (length g) (length (e ∷ g)) (one_longer (length g)))
    (further settings.history_bytes (size settings g) (size settings (e ∷ g)) (grows (size settings g) (input_size e.input) (sum_by (λ l. length l.1) (entry_lines settings e g)))) full

none_open : (cs : List Connection) → list_any (λ c. c.is_open) cs ≡ false → (conn : ℕ) → passes_option (λ c. c.is_open) (nth cs conn) ≡ false
none_open cs none zero = refl
none_open cs none (suc n) = go (nth cs (suc n)) refl
  where
    go : (o : Option Connection) → nth cs (suc n) ≡ o → passes_option (λ c. c.is_open) o ≡ false
    go None e = refl
    go (Some c) e = by_open c.is_open refl
      where
        by_open : (b : Bool) → c.is_open ≡ b → b ≡ false
        by_open true d = absurd (true≢false (sym (row_any (λ c. c.is_open) cs n c e d) ∙ none))
        by_open false d = refl

pub over_is_closed : OverIsClosed
over_is_closed settings None h over = absurd (true≢false (sym over))
over_is_closed settings (Some goal) h over = none_open (tables_of settings h).connections (not_true (list_any (λ c. c.is_open) (tables_of settings h).connections) (and_second _ (not (list_any (λ c. c.is_open) (tables_of settings h).connections)) over))
