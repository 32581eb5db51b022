-- Lemmas on the parts of a text.
use Rattle.std.proofs.Common.{Bor, ◌≡◌, ℕ, ◌+◌, ◌<◌, false, [], ◌∷◌, ◌++◌, length, get_or, take, drop, Some, None, Option, eqb, ◌≢◌, refl, sym, ap, ◌∙◌, inl, inr}
use Rattle.std.specs.Prelude.{MatchOption, option_copied}
use Rattle.std.proofs.lemmas.Bool.{cases_Bool, eqb-true, eq-eqb}
use Rattle.std.proofs.lemmas.List.{take-append-drop, drop_more}
use Rattle.std.proofs.lemmas.Option.{same_Some}
use Rattle.std.proofs.lemmas.List.Elements.{All-head, All-tail}
use Rattle.std.proofs.lemmas.List.Splits.{slice_split_none, slice_split_at}
use Rattle.da_base.specs.Words.{Bytes, before_byte, after_byte, after_front, pieces}
use Rattle.da_tabline.specs.Parts.{Lacks, SplitsAt, IsCutAt}

-- a text without the byte stands before it whole
pub before_byte-Lacks : (byte : ℕ) (text : Bytes) → Lacks byte text → before_byte byte text ≡ text
before_byte-Lacks byte [] lacks = refl
before_byte-Lacks byte (c ∷ cs) lacks =
    rw (All-head (λ x. eqb x byte ≡ false) c cs lacks) (ap (λ l. c ∷ l) (before_byte-Lacks byte cs (All-tail (λ x. eqb x byte ≡ false) c cs lacks)))

pub after_byte-Lacks : (byte : ℕ) (text : Bytes) → Lacks byte text → after_byte byte text ≡ None
after_byte-Lacks byte [] lacks = refl
after_byte-Lacks byte (c ∷ cs) lacks =
    rw (All-head (λ x. eqb x byte ≡ false) c cs lacks) (after_byte-Lacks byte cs (All-tail (λ x. eqb x byte ≡ false) c cs lacks))

pub before_byte_at : (byte : ℕ) (front back : Bytes) → Lacks byte front → before_byte byte (front ++ byte ∷ back) ≡ front
before_byte_at byte [] back lacks = rw (eq-eqb byte byte refl)
before_byte_at byte (c ∷ cs) back lacks =
    rw (All-head (λ x. eqb x byte ≡ false) c cs lacks) (ap (λ l. c ∷ l) (before_byte_at byte cs back (All-tail (λ x. eqb x byte ≡ false) c cs lacks)))

pub after_byte_at : (byte : ℕ) (front back : Bytes) → Lacks byte front → after_byte byte (front ++ byte ∷ back) ≡ Some back
after_byte_at byte [] back lacks = rw (eq-eqb byte byte refl)
after_byte_at byte (c ∷ cs) back lacks =
    rw (All-head (λ x. eqb x byte ≡ false) c cs lacks) (after_byte_at byte cs back (All-tail (λ x. eqb x byte ≡ false) c cs lacks))

none_from : {A : Type 0} (o : Option A) → ((x : A) → o ≡ Some x → ⊥) → o ≡ None
none_from None h = refl
none_from (Some x) h = absurd (h x refl)

-- the place of the byte in a text splits it there
pub splits_at : (byte : ℕ) (text : Bytes) (at : ℕ) → at < length text → Lacks byte (take at text) → get_or text at 0 ≡ byte → SplitsAt byte text (take at text) (drop (at + 1) text)
splits_at byte text at within lacks here =
    record {
      whole = sym (take-append-drop at text) ∙ ap (λ l. take at text ++ l) (drop_more text at 0 within ∙ ap (λ x. x ∷ drop (at + 1) text) here);
      first = lacks;
    }

-- what stands after a front is the text without it
pub after_front_at : (front back : Bytes) → after_front front (front ++ back) ≡ Some back
after_front_at [] back = refl
after_front_at (c ∷ cs) back = rw (eq-eqb c c refl) (after_front_at cs back)

-- what stands after a front makes the text with it
pub after_front_some : (front text back : Bytes) → after_front front text ≡ Some back → text ≡ front ++ back
after_front_some [] text back h = same_Some text back h
after_front_some (c ∷ cs) [] back h = cc
after_front_some (c ∷ cs) (x ∷ xs) back h =
    elim (cases_Bool (eqb c x)) [
      | inl e ↦ ap (λ l. x ∷ l) (after_front_some cs xs back (rw e at h)) ∙ ap (λ y. y ∷ (cs ++ back)) (sym (eqb-true c x e))
      | inr e ↦ let none : ◌≡◌ {A = Option Bytes} None (Some back) = rw e at h in cc
    ]

pub after_front_none : (front text : Bytes) → ((back : Bytes) → text ≡ front ++ back → ⊥) → after_front front text ≡ None
after_front_none front text no_back = none_from (after_front front text) (λ back h. no_back back (after_front_some front text back h))

pub strips_front : (front text : Bytes) (r : Option (Bor Bytes))
    → MatchOption r ((back : Bytes) → text ≢ front ++ back) (λ back. text ≡ front ++ back.now) → option_copied r ≡ after_front front text
strips_front front text None h = sym (after_front_none front text h)
strips_front front text (Some back) h = sym (ap (after_front front) h ∙ after_front_at front back.now)

-- a text that is split at a byte is cut there
pub cut_from_split : (byte : ℕ) (text front back : Bytes) → SplitsAt byte text front back → IsCutAt byte text front (Some back)
cut_from_split byte text front back s =
    record {
      before = ap (before_byte byte) s.whole ∙ before_byte_at byte front back s.first;
      after = ap (after_byte byte) s.whole ∙ after_byte_at byte front back s.first;
    }

pub cut_from_Lacks : (byte : ℕ) (text : Bytes) → Lacks byte text → IsCutAt byte text text None
cut_from_Lacks byte text lacks = record { before = before_byte-Lacks byte text lacks; after = after_byte-Lacks byte text lacks }

-- the pieces of a text, cut at its first separator
pub pieces-Lacks : (separator : ℕ) (text : Bytes) → Lacks separator text → pieces separator text ≡ text ∷ []
pieces-Lacks separator text lacks = slice_split_none (λ c. eqb c separator) text lacks

pub pieces-SplitsAt : (separator : ℕ) (text front back : Bytes) → SplitsAt separator text front back
    → pieces separator text ≡ front ∷ pieces separator back
pieces-SplitsAt separator text front back cut =
    rw cut.whole (slice_split_at (λ c. eqb c separator) front separator back cut.first (eq-eqb separator separator refl))
