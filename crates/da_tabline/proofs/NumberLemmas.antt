-- Lemmas on numbers in decimal.
use Rattle.std.proofs.Common.{◌≡◌, ℕ, ◌+◌, ◌*◌, ◌^◌, ◌<◌, ◌≤◌, true, false, not, ◌&&◌, List, [], ◌∷◌, length, get_or, Some, leb, ltb, drop, ◌-◌, refl, sym, ap, ◌∙◌, inl, inr, arith}
use Rattle.std.specs.Char.{is_ascii_digit, digit_value}
use Rattle.std.specs.Fmt.{decimal}
use Rattle.std.specs.Str.{all_ascii_digits}
use Rattle.std.specs.Str.Parse.{digits_value, digits_value_after}
use Rattle.std.proofs.lemmas.Bool.{and_parts, and_from, cases_order, le-leb, ne_eqb, not-true, eqb-false, le-ltb}
use Rattle.std.proofs.lemmas.Bool.Decides.{nat_tests}
use Rattle.std.proofs.lemmas.Fmt.{decimal_digit, first_decimal, digits_decimal, digits_value-decimal, decimal-digits_value}
use Rattle.std.proofs.lemmas.List.{drop_more}
use Rattle.std.proofs.lemmas.Option.{cond_some}
use Rattle.std.proofs.lemmas.Str.Parse.{IsNumeralModel, numerals_by_value, tells_all_ascii_digits}
use Rattle.da_base.specs.Words.{is_numeral, number_of}

-- more digits don't make a number smaller
pub digits_value_after-le : (n : ℕ) (ds : List ℕ) → n ≤ digits_value_after 10 n ds
digits_value_after-le n [] = omega arith
digits_value_after-le n (c ∷ cs) = omega (arith, digits_value_after-le (n * 10 + digit_value c) cs)

digit_value_is : (c : ℕ) → is_ascii_digit c ≡ true → digit_value c ≡ c - 48
digit_value_is c h = grind (arith, nat_tests)

-- a number that has passed 64 bits stays past them
pub past_64_bits : (n c : ℕ) (cs : List ℕ) → 2 ^ 64 ≤ n * 10 + digit_value c → ltb (digits_value_after 10 n (c ∷ cs)) (2 ^ 64) ≡ false
past_64_bits n c cs past = le-ltb _ _ (omega (arith, digits_value_after-le (n * 10 + digit_value c) cs))

-- the same at the i-th digit of a text
pub past_64_bits_at : (n : ℕ) (ds : List ℕ) (i : ℕ) → i < length ds → all_ascii_digits (drop i ds) ≡ true → digits_value_after 10 n (drop i ds) ≡ digits_value 10 ds
    → 2 ^ 64 ≤ n * 10 + (get_or ds i 0 - 48) → ltb (digits_value 10 ds) (2 ^ 64) ≡ false
past_64_bits_at n ds i within digits value past =
    let here = drop_more ds i 0 within in
    let digit : is_ascii_digit (get_or ds i 0) ≡ true = (and_parts _ _ (rw here at digits)).0 in
    let more : 2 ^ 64 ≤ n * 10 + digit_value (get_or ds i 0) = omega (arith, digit_value_is (get_or ds i 0) digit) in
    ap (λ v. ltb v (2 ^ 64)) (sym value ∙ ap (digits_value_after 10 n) here) ∙ past_64_bits n (get_or ds i 0) (drop (i + 1) ds) more

own : IsNumeralModel (λ ds. all_ascii_digits ds ≡ true) (digits_value 10)
own = numerals_by_value _ tells_all_ascii_digits

is_numeral_from : (text : List ℕ) → all_ascii_digits text ≡ true → 48 < get_or text 0 0 → is_numeral text ≡ true
is_numeral_from [] digits first = absurd (omega arith)
is_numeral_from (c ∷ []) digits first = (and_parts _ _ digits).0
is_numeral_from (c ∷ d ∷ cs) digits first = and_from _ _ (ap not (ne_eqb c 48 (λ e. omega arith))) digits

is_numeral_decimal : (n : ℕ) → n < 2 ^ 64 → is_numeral (decimal n) ≡ true
is_numeral_decimal n small =
    elim (cases_order n 0) [
      | inl e ↦ ap (λ m. is_numeral (decimal m)) e ∙ ap is_numeral (decimal_digit 0 (omega arith))
      | inr rest ↦ is_numeral_from (decimal n) (digits_decimal own n small) (first_decimal n (elim rest [ inl h ↦ absurd (omega arith) | inr h ↦ h ]) small)
    ]

pub number_of_decimal : (max n : ℕ) → n ≤ max → n < 2 ^ 64 → number_of max (decimal n) ≡ Some n
number_of_decimal max n within small =
    rw (is_numeral_decimal n small, digits_value-decimal own n small, le-leb n max within)

digits_of_numeral : (text : List ℕ) → is_numeral text ≡ true → all_ascii_digits text ≡ true
digits_of_numeral [] h = cc
digits_of_numeral (c ∷ []) h = and_from _ _ h refl
digits_of_numeral (c ∷ d ∷ cs) h = (and_parts _ _ h).1

length_of_numeral : (text : List ℕ) → is_numeral text ≡ true → 0 < length text
length_of_numeral [] h = cc
length_of_numeral (c ∷ cs) h = omega arith

zero_of_numeral : (text : List ℕ) → is_numeral text ≡ true → get_or text 0 0 ≡ 48 → length text ≡ 1
zero_of_numeral [] h first = cc
zero_of_numeral (c ∷ []) h first = refl
zero_of_numeral (c ∷ d ∷ cs) h first = absurd (eqb-false c 48 (not-true _ (and_parts _ _ h).0) first)

pub decimal_from_number_of : (max n : ℕ) (text : List ℕ) → n < 2 ^ 64 → number_of max text ≡ Some n → text ≡ decimal n
decimal_from_number_of max n text small h =
    let parts = cond_some (is_numeral text && leb (digits_value 10 text) max) (digits_value 10 text) n h in
    let numeral : is_numeral text ≡ true = (and_parts _ _ parts.0).0 in
    let value : digits_value 10 text < 2 ^ 64 = omega (arith, parts.1) in
    sym (decimal-digits_value own text (digits_of_numeral text numeral) (length_of_numeral text numeral) (zero_of_numeral text numeral) value) ∙ ap decimal parts.1
