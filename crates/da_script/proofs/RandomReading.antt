-- A text that is read as random bytes is the one that is printed for them.
use Rattle.std.proofs.Common.{◌≡◌, ℕ, zero, suc, ◌+◌, ◌-◌, ◌*◌, ◌/◌, ◌%◌, ◌<◌, ◌≤◌, Bool, true, false, ◌&&◌, List, [], ◌∷◌, length, slice_index, Option, Some, None, Result, Ok, Err, cond, leb, eqb, refl, sym, ap, ◌∙◌, subst, inl, inr, arith}
use Rattle.std.specs.Prelude.{bytes_eq, codes}
use Rattle.std.specs.Char.{is_ascii_uppercase}
use Rattle.std.specs.List.{list_any}
use Rattle.std.specs.Result.{result_ok, result_unwrap_or}
use Rattle.std.proofs.lemmas.Bool.{cases_Bool, cases_lt, and_parts, eqb-true, leb-true, leb-false}
use Rattle.std.proofs.lemmas.Bool.Decides.{nat_tests}
use Rattle.std.proofs.lemmas.Option.{same_Some, option_and_then_some}
use Rattle.std.proofs.lemmas.Slice.Eq.{bytes_eq-Decides}
use Rattle.hex.specs.Hex.{decode_pairs, decode_sized, decode_of, digit_or_error, encode_lower, encode_with, hex_digit_value, lower_digits, pair_value, ◌>>=◌}
use Rattle.hex.specs.declared.error.FromHexError.{FromHexError}
use Rattle.hex.proofs.HexLemmas.{decode_of-even, decode_of-ok, decode_sized-ok, decode_sized-twice}
use Rattle.da_base.specs.Words.{Bytes}
use Rattle.da_script.specs.Random.{AreRandom, no_random, random_of, random_text, unless_zero}
use Rattle.da_script.proofs.RandomTexts.{index_fails}

-- ---- one digit

abbrev spelling : ℕ → ℕ
spelling d = cond (leb d 9) (d + 48) (d + 87)

abbrev spelled_below : ℕ → Bool
spelled_below zero = true
spelled_below (suc n) = eqb (slice_index lower_digits n) (spelling n) && spelled_below n

spelled_at : (n k : ℕ) → spelled_below n ≡ true → k < n → slice_index lower_digits k ≡ spelling k
spelled_at zero k h lt = absurd (omega arith)
spelled_at (suc n) k h lt =
    let parts = and_parts (eqb (slice_index lower_digits n) (spelling n)) (spelled_below n) h in
    elim (cases_lt k n) [
      | inl below ↦ spelled_at n k parts.1 below
      | inr top ↦
          let e : k ≡ n = omega arith in
          rw e (eqb-true (slice_index lower_digits n) (spelling n) parts.0)
    ]

no_capital : (c : ℕ) → (leb 65 c && leb c 70) ≡ true → is_ascii_uppercase c ≡ false → ⊥
no_capital c h lower = grind (arith, nat_tests)

letter_back : (c v : ℕ) → 97 ≤ c → c ≤ 102 → c - 87 ≡ v → (slice_index lower_digits v ≡ c) × (v < 16)
letter_back c v low high e =
    let small : v < 16 = omega (arith, e, low, high) in
    let large : leb v 9 ≡ false = grind (arith, nat_tests) in
    let sum : v + 87 ≡ c = omega (arith, e, low, high) in
    (spelled_at 16 v refl small ∙ rw large sum, small)

digit_back : (c v : ℕ) → 48 ≤ c → c ≤ 57 → c - 48 ≡ v → (slice_index lower_digits v ≡ c) × (v < 16)
digit_back c v low high e =
    let small : v < 16 = omega (arith, e, low, high) in
    let few : leb v 9 ≡ true = grind (arith, nat_tests) in
    let sum : v + 48 ≡ c = omega (arith, e, low, high) in
    (spelled_at 16 v refl small ∙ rw few sum, small)

value_back : (c v : ℕ) → hex_digit_value c ≡ Some v → is_ascii_uppercase c ≡ false → (slice_index lower_digits v ≡ c) × (v < 16)
value_back c v h lower =
    elim (cases_Bool (leb 65 c && leb c 70)) [
      | inl e ↦ absurd (no_capital c e lower)
      | inr no_upper ↦
          elim (cases_Bool (leb 97 c && leb c 102)) [
            | inl e ↦
                let parts = and_parts (leb 97 c) (leb c 102) e in
                letter_back c v (leb-true 97 c parts.0) (leb-true c 102 parts.1) (same_Some (c - 87) v (rw (no_upper, e) at h))
            | inr no_lower ↦
                elim (cases_Bool (leb 48 c && leb c 57)) [
                  | inl e ↦
                      let parts = and_parts (leb 48 c) (leb c 57) e in
                      digit_back c v (leb-true 48 c parts.0) (leb-true c 57 parts.1) (same_Some (c - 48) v (rw (no_upper, no_lower, e) at h))
                  | inr no_digit ↦ let never : ◌≡◌ {A = Option ℕ} None (Some v) = rw (no_upper, no_lower, no_digit) at h in cc
                ]
          ]
    ]

-- ---- pairs of digits

same_Ok : {T : Type 0} (x y : T) → ◌≡◌ {A = Result T FromHexError} (Ok x) (Ok y) → x ≡ y
same_Ok x y h = ap (λ (r : Result _ FromHexError). result_unwrap_or r x) h

pair_parts : (a b i : ℕ) (high low : Option ℕ) (v : ℕ) → (digit_or_error a i high >>= (λ h. digit_or_error b (i + 1) low >>= (λ l. Ok (h * 16 + l)))) ≡ Ok v
    → (h l : ℕ) × (high ≡ Some h) × (low ≡ Some l) × (h * 16 + l ≡ v)
pair_parts a b i (Some h) (Some l) v e = (h, l, refl, refl, same_Ok (h * 16 + l) v e)
pair_parts a b i (Some h) None v e = cc
pair_parts a b i None low v e = cc

pairs_parts : (byte : Result ℕ FromHexError) (more : Result Bytes FromHexError) (bytes : Bytes)
    → (byte >>= (λ v. more >>= (λ rest. Ok (v ∷ rest)))) ≡ Ok bytes → (v : ℕ) × (rest : Bytes) × (byte ≡ Ok v) × (more ≡ Ok rest) × (v ∷ rest ≡ bytes)
pairs_parts (Ok v) (Ok rest) bytes e = (v, rest, refl, refl, same_Ok (v ∷ rest) bytes e)
pairs_parts (Ok v) (Err fault) bytes e = cc
pairs_parts (Err fault) more bytes e = cc

none_of_two : (test : ℕ → Bool) (x : ℕ) (xs : List ℕ) → list_any test (x ∷ xs) ≡ false → (test x ≡ false) × (list_any test xs ≡ false)
none_of_two test x xs h =
    elim (cases_Bool (test x)) [
      | inl e ↦ let never : true ≡ false = rw e at h in cc
      | inr e ↦ (e, rw e at h)
    ]

encoded_back : (i : ℕ) (text bytes : Bytes) → decode_pairs i text ≡ Ok bytes → list_any is_ascii_uppercase text ≡ false → encode_lower bytes ≡ text
unfolding decode_pairs encode_with
encoded_back i [] bytes h lower = ap encode_lower (sym (same_Ok [] bytes h))
encoded_back i (a ∷ []) bytes h lower = cc
encoded_back i (a ∷ b ∷ text) bytes h lower =
    let two = pairs_parts (pair_value a b i) (decode_pairs (i + 2) text) bytes h in
    let pair = pair_parts a b i (hex_digit_value a) (hex_digit_value b) two.0 two.2 in
    let first = none_of_two is_ascii_uppercase a (b ∷ text) lower in
    let second = none_of_two is_ascii_uppercase b text first.1 in
    let high = value_back a pair.0 pair.2 first.0 in
    let low = value_back b pair.1 pair.3 second.0 in
    let over : two.0 / 16 ≡ pair.0 = omega (arith, pair.4, low.1) in
    let under : two.0 % 16 ≡ pair.1 = omega (arith, pair.4, low.1) in
    ap encode_lower (sym two.4)
    ∙ ap (λ d. slice_index lower_digits d ∷ slice_index lower_digits (two.0 % 16) ∷ encode_lower two.1) over
    ∙ ap (λ d. slice_index lower_digits pair.0 ∷ slice_index lower_digits d ∷ encode_lower two.1) under
    ∙ ap (λ c. c ∷ slice_index lower_digits pair.1 ∷ encode_lower two.1) high.0
    ∙ ap (λ c. a ∷ c ∷ encode_lower two.1) low.0
    ∙ ap (λ l. a ∷ b ∷ l) (encoded_back (i + 2) text two.1 two.3 second.1)

-- ---- sixteen bytes

zeros_are_random : AreRandom no_random
zeros_are_random = (refl, λ i. leb-false 256 (slice_index no_random i) (index_fails (λ b. leb 256 b) no_random i refl))

result_of_ok : {T : Type 0} (r : Result T FromHexError) (x : T) → result_ok r ≡ Some x → r ≡ Ok x
result_of_ok (Ok y) x h = ap Ok (same_Some y x h)
result_of_ok (Err fault) x h = cc

unless_zero_parts : (bytes random : Bytes) → unless_zero bytes ≡ Some random → (bytes_eq bytes no_random ≡ false) × (bytes ≡ random)
unless_zero_parts bytes random h =
    elim (cases_Bool (bytes_eq bytes no_random)) [
      | inl e ↦ let never : ◌≡◌ {A = Option Bytes} None (Some random) = rw e at h in cc
      | inr e ↦ (e, same_Some bytes random (rw e at h))
    ]

decoded_random : (text bytes random : Bytes) → list_any is_ascii_uppercase text ≡ false → decode_sized text 16 ≡ Ok bytes → unless_zero bytes ≡ Some random
    → (text ≡ random_text random) × AreRandom random
decoded_random text bytes random lower decoded nonzero =
    let size = decode_sized-ok text 16 bytes decoded in
    let plain : decode_of text ≡ Ok bytes = sym (decode_sized-twice text 16 size) ∙ decoded in
    let facts = decode_of-ok text bytes plain in
    let pairs : decode_pairs 0 text ≡ Ok bytes = sym (decode_of-even text facts.0) ∙ plain in
    let parts = unless_zero_parts bytes random nonzero in
    let written : random_text bytes ≡ text = rw parts.0 (encoded_back 0 text bytes pairs lower) in
    let sixteen : length bytes ≡ 16 = omega (arith, size, facts.2) in
    (sym written ∙ ap random_text parts.1, subst AreRandom parts.1 (sixteen, facts.3))

pub random_of-text : (text random : Bytes) → random_of text ≡ Some random → (text ≡ random_text random) × AreRandom random
random_of-text text random h =
    elim (cases_Bool (bytes_eq text (codes "-"))) [
      | inl e ↦
          let zero_bytes : no_random ≡ random = same_Some no_random random (rw e at h) in
          ((bytes_eq-Decides text (codes "-")).0 e ∙ ap random_text zero_bytes, subst AreRandom zero_bytes zeros_are_random)
      | inr no_dash ↦
          elim (cases_Bool (list_any is_ascii_uppercase text)) [
            | inl e ↦ let never : ◌≡◌ {A = Option Bytes} None (Some random) = rw (no_dash, e) at h in cc
            | inr lower ↦
                option_and_then_some unless_zero (result_ok (decode_sized text 16)) random (rw (no_dash, lower) at h)
                (λ bytes decoded nonzero. decoded_random text bytes random lower (result_of_ok (decode_sized text 16) bytes decoded) nonzero)
          ]
    ]
