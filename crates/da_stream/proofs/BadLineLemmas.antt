-- The first line that isn't right, by the lines before it; and that it stays the first, whatever follows.
use Rattle.std.proofs.Common.{◌≡◌, ℕ, suc, ◌+◌, ◌<◌, ◌≤◌, ◌⊎◌, Bool, true, false, List, [], ◌∷◌, ◌++◌, length, eqb, cond, Option, Some, None, refl, sym, ap, ◌∙◌, inl, inr, arith, append-nil, add-one}
use Rattle.std.specs.Prelude.{◌||◌, not}
use Rattle.std.specs.List.{AllByRecursion}
use Rattle.std.specs.Io.KnownBytes.{Consumes, IsAtEnd}
use Rattle.std.proofs.lemmas.Bool.{cases_Bool, or_right}
use Rattle.std.proofs.lemmas.List.{length-append}
use Rattle.std.proofs.lemmas.List.Elements.{All-nil}
use Rattle.da_base.specs.Words.{Bytes, is_empty}
use Rattle.da_outside.specs.Source.{SourceState}
use Rattle.da_tabline.specs.Lines.{Cutter, line_cut, new_cutter, after_feed}
use Rattle.da_tabline.proofs.StreamLemmas.{after_feed-append}
use Rattle.da_stream.specs.BadLines.{bad_from, or_bad, first_bad, first_bad_at_end, IsFirstBad}

-- ---- the cut of more bytes

module _ (max : ℕ) (read rest : Bytes) where
  abbrev fed_before : Cutter
  fed_before = after_feed (new_cutter max) read

  whole : after_feed (new_cutter max) (read ++ rest) ≡ after_feed fed_before rest
  whole = sym (after_feed-append (new_cutter max) read rest (All-nil (λ x. eqb x 10 ≡ false)))

  fed_again : (c : Cutter) → c.is_long ≡ false → (after_feed c rest).ready ≡ c.ready ++ (line_cut c.max (c.rest ++ rest)).lines
  fed_again c short = rw short

  fed_no_more : (c : Cutter) → c.is_long ≡ true → after_feed c rest ≡ c
  fed_no_more c long = rw long

  -- no line comes after one that is too long
  pub cut_no_more : (line_cut max read).is_long ≡ true
      → ((line_cut max (read ++ rest)).lines ≡ (line_cut max read).lines) × ((line_cut max (read ++ rest)).is_long ≡ (line_cut max read).is_long)
  cut_no_more long =
      let same = whole ∙ fed_no_more fed_before long in
      (ap (λ (d : Cutter). d.ready) same, ap (λ (d : Cutter). d.is_long) same)

  -- the lines stay, and those of what follows come after them
  pub cut_again : (line_cut max read).is_long ≡ false → (line_cut max (read ++ rest)).lines ≡ (line_cut max read).lines ++ (line_cut max ((line_cut max read).rest ++ rest)).lines
  cut_again short = ap (λ (d : Cutter). d.ready) whole ∙ fed_again fed_before short

-- ---- lines that are right

module _ (right : Bytes → Bool) where
  -- lines that are right, all of them
  abbrev pub AreRight : List Bytes → Type 0
  AreRight lines = AllByRecursion (λ line. right line ≡ true) lines

  bad_from-right : (n : ℕ) (lines more : List Bytes) → AreRight lines → bad_from right n (lines ++ more) ≡ bad_from right (n + length lines) more
  bad_from-right n [] more all = ap (λ m. bad_from right m more) (omega arith)
  bad_from-right n (line ∷ lines) more all =
      ap (λ b. cond b (bad_from right (suc n) (lines ++ more)) (Some n)) all.0 ∙ bad_from-right (suc n) lines more all.1
      ∙ ap (λ m. bad_from right m more) (omega arith)

  bad_from-all : (n : ℕ) (lines : List Bytes) → AreRight lines → bad_from right n lines ≡ None
  bad_from-all n lines all = ap (bad_from right n) (sym (append-nil lines)) ∙ bad_from-right n lines [] all

  bad_from-at : (n : ℕ) (taken : List Bytes) (line : Bytes) (others : List Bytes) → AreRight taken → right line ≡ false
      → bad_from right n (taken ++ line ∷ others) ≡ Some (n + length taken)
  bad_from-at n taken line others all bad =
      bad_from-right n taken (line ∷ others) all ∙ ap (λ b. cond b (bad_from right (suc (n + length taken)) others) (Some (n + length taken))) bad

  or_bad_all : (n : ℕ) (lines : List Bytes) (b : Bool) (next : ℕ) → AreRight lines → or_bad (bad_from right n lines) b next ≡ cond b (Some next) None
  or_bad_all n lines b next all = ap (λ o. or_bad o b next) (bad_from-all n lines all)

  not_empty : (bytes : Bytes) → 0 < length bytes → not (is_empty bytes) ≡ true
  not_empty [] some = absurd (omega arith)
  not_empty (b ∷ bytes) some = refl

  -- ---- by the lines that are right

  module _ (max : ℕ) (read : Bytes) where
    pub none_at_end : AreRight (line_cut max read).lines → (line_cut max read).is_long ≡ false → (line_cut max read).rest ≡ [] → first_bad_at_end right max read ≡ None
    none_at_end all short none =
        let no_more : (line_cut max read).is_long || not (is_empty (line_cut max read).rest) ≡ false =
        rw short (ap (λ (t : Bytes). not (is_empty t)) {y = []} none) in
        or_bad_all 1 (line_cut max read).lines _ _ all
        ∙ ap (λ b. cond b (Some (suc (length (line_cut max read).lines))) None) no_more

    pub none_yet : AreRight (line_cut max read).lines → (line_cut max read).is_long ≡ false → first_bad right max read ≡ None
    none_yet all short =
        or_bad_all 1 (line_cut max read).lines _ _ all ∙ ap (λ b. cond b (Some (suc (length (line_cut max read).lines))) None) short

    pub bad_cut : AreRight (line_cut max read).lines → 0 < length (line_cut max read).rest → first_bad_at_end right max read ≡ Some (length (line_cut max read).lines + 1)
    bad_cut all open_yet =
        or_bad_all 1 (line_cut max read).lines _ _ all
        ∙ ap (λ b. cond b (Some (suc (length (line_cut max read).lines))) None)
        (or_right (line_cut max read).is_long (not (is_empty (line_cut max read).rest)) (not_empty (line_cut max read).rest open_yet))
        ∙ ap (λ (m : ℕ). Some m) (sym (add-one (length (line_cut max read).lines)))

    pub bad_long : AreRight (line_cut max read).lines → (line_cut max read).is_long ≡ true → first_bad right max read ≡ Some (length (line_cut max read).lines + 1)
    bad_long all long =
        or_bad_all 1 (line_cut max read).lines _ _ all ∙ ap (λ b. cond b (Some (suc (length (line_cut max read).lines))) None) long
        ∙ ap (λ (m : ℕ). Some m) (sym (add-one (length (line_cut max read).lines)))

    pub bad_at : (taken : List Bytes) (line : Bytes) (others : List Bytes) → (line_cut max read).lines ≡ taken ++ line ∷ others → AreRight taken → right line ≡ false
        → first_bad right max read ≡ Some (length taken + 1)
    bad_at taken line others are all bad =
        ap (λ o. or_bad o (line_cut max read).is_long (suc (length (line_cut max read).lines)))
        (ap (bad_from right 1) are ∙ bad_from-at 1 taken line others all bad)
        ∙ ap (λ (m : ℕ). Some m) (omega arith)

  -- ---- whatever follows

  bad_from-append : (n : ℕ) (lines more : List Bytes) (bad : ℕ) → bad_from right n lines ≡ Some bad → bad_from right n (lines ++ more) ≡ Some bad
  bad_from-append n [] more bad b = cc
  bad_from-append n (line ∷ lines) more bad b =
      elim (cases_Bool (right line)) [
        | inl e ↦ rw e (bad_from-append (suc n) lines more bad (rw e at b))
        | inr e ↦ rw e (rw e at b)
      ]

  from_or_bad : (o : Option ℕ) (next bad : ℕ) → or_bad o false next ≡ Some bad → o ≡ Some bad
  from_or_bad None next bad b = cc
  from_or_bad (Some n) next bad b = b

  long_stays : (lines lines' : List Bytes) (l l' : Bool) (rest' : Bytes) (bad : ℕ) → lines' ≡ lines → l' ≡ true → l ≡ true
      → or_bad (bad_from right 1 lines) l (suc (length lines)) ≡ Some bad
      → or_bad (bad_from right 1 lines') (l' || not (is_empty rest')) (suc (length lines')) ≡ Some bad
  long_stays lines lines' l l' rest' bad same long' long b = rw (same, long') (rw long at b)

  front_stays : (lines more lines' : List Bytes) (l l' : Bool) (rest' : Bytes) (bad : ℕ) → lines' ≡ lines ++ more → l ≡ false
      → or_bad (bad_from right 1 lines) l (suc (length lines)) ≡ Some bad
      → or_bad (bad_from right 1 lines') (l' || not (is_empty rest')) (suc (length lines')) ≡ Some bad
  front_stays lines more lines' l l' rest' bad same short b =
      let first = from_or_bad (bad_from right 1 lines) (suc (length lines)) bad (rw short at b) in
      ap (λ ls. or_bad (bad_from right 1 ls) (l' || not (is_empty rest')) (suc (length ls))) same
      ∙ ap (λ o. or_bad o (l' || not (is_empty rest')) (suc (length (lines ++ more)))) (bad_from-append 1 lines more bad first)

  -- a line that isn't right stays the first, whatever follows
  first_bad-append : (max : ℕ) (read rest : Bytes) (bad : ℕ) → first_bad right max read ≡ Some bad → first_bad_at_end right max (read ++ rest) ≡ Some bad
  first_bad-append max read rest bad b =
      elim (cases_Bool (line_cut max read).is_long) [
        | inl long ↦
            let same = cut_no_more max read rest long in
            long_stays (line_cut max read).lines (line_cut max (read ++ rest)).lines (line_cut max read).is_long (line_cut max (read ++ rest)).is_long (line_cut max (read ++ rest)).rest bad
            same.0 (same.1 ∙ long) long b
        | inr short ↦
            front_stays (line_cut max read).lines (line_cut max ((line_cut max read).rest ++ rest)).lines (line_cut max (read ++ rest)).lines (line_cut max read).is_long (line_cut max (read ++ rest)).is_long (line_cut max (read ++ rest)).rest bad
            (cut_again max read rest short) short b
      ]

  no_bad_left : (max : ℕ) (input read : Bytes) (left : Option Bytes) (bad : ℕ) → Consumes (Some input) left read → first_bad_at_end right max input ≡ None
      → (first_bad right max read ≡ Some bad) ⊎ (IsAtEnd left × (first_bad_at_end right max read ≡ Some bad)) → ⊥
  no_bad_left max input read None bad reads good which = reads
  no_bad_left max input read (Some rest) bad reads good (inl b) =
      let clash = sym good ∙ ap (first_bad_at_end right max) reads ∙ first_bad-append max read rest bad b in cc
  no_bad_left max input read (Some rest) bad reads good (inr b) =
      let whole : input ≡ read = reads ∙ ap (λ r. read ++ r) b.0 ∙ append-nil read in
      let clash = sym good ∙ ap (first_bad_at_end right max) whole ∙ b.1 in cc

  -- an input without a bad line
  pub no_bad_line : (max : ℕ) (input read : Bytes) (after : SourceState) (bad : ℕ) → Consumes (Some input) after.left read → first_bad_at_end right max input ≡ None
      → IsFirstBad right max after read bad → ⊥
  no_bad_line max input read after bad reads good which = no_bad_left max input read after.left bad reads good which

-- more bytes than the input has aren't read
pub not_longer : (input read : Bytes) (left : Option Bytes) (max : ℕ) → Consumes (Some input) left read → length input ≤ max → max < length read → ⊥
not_longer input read None max reads short long = reads
not_longer input read (Some rest) max reads short long =
    let whole = ap (λ (bytes : Bytes). length bytes) reads in omega (arith, whole, length-append read rest)
