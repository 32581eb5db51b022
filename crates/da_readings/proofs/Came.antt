-- Where a value of a row comes from: it was there before, or it is new.
use Rattle.std.proofs.Common.{◌≡◌, ◌⊎◌, inl, inr, sym, ◌∙◌, ap, subst, Option, Some, None, List, [], ◌∷◌, ◌++◌, ℕ, suc, length}
use Rattle.std.proofs.lemmas.Option.{none-some}
use Rattle.da_tables.proofs.Rows.{of_changed, of_appended}
use Rattle.da_base.specs.Words.{nth, changed_nth}

-- F is a value that a row may have, Same says what of a row doesn't change, and New says which values are new
module _ {A X : Type 0} (F : A → Option X) (Same : A → A → Type 0) (New : ℕ → A → X → Type 0) (origin : List A) where
  pub record WasThere (n : ℕ) (a : A) (x : X) : Type 0 where
    pub row : A
    pub stood : nth origin n ≡ Some row
    pub had : F row ≡ Some x
    pub same : Same a row

  abbrev pub AllCame : List A → Type 0
  AllCame xs = (n : ℕ) (a : A) (x : X) → nth xs n ≡ Some a → F a ≡ Some x → WasThere n a x ⊎ New n a x

  module _ (refl_same : (a : A) → Same a a) (trans_same : (a b c : A) → Same a b → Same b c → Same a c) (moves : (n : ℕ) (a b : A) (x : X) → Same b a → New n a x → New n b x) where
    pub came_same : AllCame origin
    came_same n a x is e = inl (record { row = a; stood = is; had = e; same = refl_same a })

    after_continued : (n : ℕ) (a b : A) (x : X) → Same a b → WasThere n b x ⊎ New n b x → WasThere n a x ⊎ New n a x
    after_continued n a b x q (inl w) = inl (record { row = w.row; stood = w.stood; had = w.had; same = trans_same a b w.row q w.same })
    after_continued n a b x q (inr w) = inr (moves n b a x q w)

    -- a change that keeps what doesn't change, and gives no value but a new one
    pub came_changed : (f : A → A) (xs : List A) (m : ℕ) → ((a : A) → Same (f a) a) → ((a : A) (x : X) → nth xs m ≡ Some a → F (f a) ≡ Some x → (F a ≡ Some x) ⊎ New m (f a) x) → AllCame xs → AllCame (changed_nth f xs m)
    came_changed f xs m keeps h p n a x is e = go (of_changed f xs m n a is)
      where
        go : ((n ≡ m) × (b : A) × (nth xs m ≡ Some b) × (a ≡ f b)) ⊎ ((n ≡ m → ⊥) × (nth xs n ≡ Some a)) → WasThere n a x ⊎ New n a x
        go (inr (d, at)) = p n a x at e
        go (inl (d, b, at, w)) = which (h b x at (sym (ap F w) ∙ e))
          where
            which : (F b ≡ Some x) ⊎ New m (f b) x → WasThere n a x ⊎ New n a x
            which (inl y) = after_continued n a b x (subst (λ (z : A). Same z b) (sym w) (keeps b)) (p n b x (ap (nth xs) d ∙ at) y)
            which (inr y) = inr (subst (λ (z : A). New n z x) (sym w) (subst (λ (k : ℕ). New k (f b) x) (sym d) y))

    -- a new row without a value
    pub came_longer : (xs : List A) (new : A) → F new ≡ None → AllCame xs → AllCame (xs ++ new ∷ [])
    came_longer xs new none p n a x is e = go (of_appended xs new a n is)
      where
        go : ((n ≡ suc (length xs)) × (a ≡ new)) ⊎ (nth xs n ≡ Some a) → WasThere n a x ⊎ New n a x
        go (inl (d, w)) = absurd (none-some x (sym none ∙ sym (ap F w) ∙ e))
        go (inr at) = p n a x at e
