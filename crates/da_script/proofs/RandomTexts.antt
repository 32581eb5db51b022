-- Random bytes that were printed are read again.
use Rattle.std.proofs.Common.{◌≡◌, ℕ, zero, suc, ◌*◌, ◌/◌, ◌%◌, Bool, true, false, not, ◌&&◌, List, [], ◌∷◌, length, slice_index, Some, Ok, eqb, refl, sym, ap, ◌∙◌, inl, inr, arith}
use Rattle.std.specs.Prelude.{bytes_eq, codes}
use Rattle.std.specs.Char.{is_ascii_uppercase}
use Rattle.std.specs.List.{All}
use Rattle.std.proofs.lemmas.Bool.{cases_Bool, and_parts, not-true}
use Rattle.std.proofs.lemmas.List.Elements.{All-nil, All-cons, All-from_recursion}
use Rattle.std.proofs.lemmas.List.Folds.{list_any_none}
use Rattle.std.proofs.lemmas.Slice.Eq.{bytes_eq-Decides}
use Rattle.hex.specs.Hex.{decode_sized, encode_lower, encode_with, lower_digits}
use Rattle.hex.proofs.HexLemmas.{length-encode_with, decode_of-encode_lower, decode_sized-twice}
use Rattle.da_base.specs.Words.{Bytes}
use Rattle.da_script.specs.Random.{AreRandom, no_random, digits_of, random_of, random_text, unless_zero}

-- ---- no digit passes a test

abbrev pub none_passes : (ℕ → Bool) → List ℕ → Bool
none_passes test [] = not (test 0)
none_passes test (x ∷ xs) = not (test x) && none_passes test xs

pub index_fails : (test : ℕ → Bool) (xs : List ℕ) (i : ℕ) → none_passes test xs ≡ true → test (slice_index xs i) ≡ false
index_fails test [] i h = not-true (test 0) h
index_fails test (x ∷ xs) zero h = not-true (test x) (and_parts (not (test x)) (none_passes test xs) h).0
index_fails test (x ∷ xs) (suc i) h = index_fails test xs i (and_parts (not (test x)) (none_passes test xs) h).1

digits_fail : (test : ℕ → Bool) → none_passes test lower_digits ≡ true → (bytes : Bytes) → All (λ c. test c ≡ false) (encode_lower bytes)
unfolding encode_with
digits_fail test h [] = All-nil (λ c. test c ≡ false)
digits_fail test h (b ∷ bytes) =
    All-cons (λ c. test c ≡ false) (slice_index lower_digits (b / 16)) (slice_index lower_digits (b % 16) ∷ encode_lower bytes)
    (index_fails test lower_digits (b / 16) h)
    (All-cons (λ c. test c ≡ false) (slice_index lower_digits (b % 16)) (encode_lower bytes) (index_fails test lower_digits (b % 16) h) (digits_fail test h bytes))

-- ---- random bytes

same_bytes : (a b : Bytes) → bytes_eq a b ≡ true → a ≡ b
same_bytes a b = (bytes_eq-Decides a b).0

length-digits : (random : Bytes) → length random ≡ 16 → length (encode_lower random) ≡ 2 * 16
length-digits random sixteen = length-encode_with lower_digits random ∙ ap (λ n. 2 * n) sixteen

digits_are_no_dash : (random : Bytes) → length random ≡ 16 → bytes_eq (encode_lower random) (codes "-") ≡ false
digits_are_no_dash random sixteen =
    elim (cases_Bool (bytes_eq (encode_lower random) (codes "-"))) [
      | inl e ↦
          let one : length (encode_lower random) ≡ 1 = ap length (same_bytes (encode_lower random) (codes "-") e) in
          absurd (omega (arith, one, length-digits random sixteen))
      | inr e ↦ e
    ]

digits_again : (random : Bytes) → AreRandom random → digits_of (encode_lower random) ≡ unless_zero random
digits_again random are =
    let small = list_any_none is_ascii_uppercase (encode_lower random) (digits_fail is_ascii_uppercase refl random) in
    let read : decode_sized (encode_lower random) 16 ≡ Ok random =
    decode_sized-twice (encode_lower random) 16 (length-digits random are.0) ∙ decode_of-encode_lower random are.1 in
    rw (small, read) refl

pub random_again : (random : Bytes) → AreRandom random → random_of (random_text random) ≡ Some random
random_again random are =
    elim (cases_Bool (bytes_eq random no_random)) [
      | inl e ↦
          let text : random_text random ≡ codes "-" = rw e refl in
          ap random_of text ∙ ap Some (sym (same_bytes random no_random e))
      | inr e ↦
          let text : random_text random ≡ encode_lower random = rw e refl in
          let read : unless_zero random ≡ Some random = rw e refl in
          ap random_of text ∙ rw (digits_are_no_dash random are.0) (digits_again random are) ∙ read
    ]

-- neither a space nor an LF stands in their text
random_fails : (test : ℕ → Bool) → none_passes test lower_digits ≡ true → All (λ c. test c ≡ false) (codes "-") → (random : Bytes)
    → All (λ c. test c ≡ false) (random_text random)
random_fails test h dash random =
    elim (cases_Bool (bytes_eq random no_random)) [
      | inl e ↦ rw e dash
      | inr e ↦ rw e (digits_fail test h random)
    ]

pub random_text-Lacks_space : (random : Bytes) → All (λ c. eqb c 32 ≡ false) (random_text random)
random_text-Lacks_space random =
    random_fails (λ c. eqb c 32) refl (All-from_recursion (λ c. eqb c 32 ≡ false) (codes "-") (refl, tt)) random

pub random_text-Lacks_end : (random : Bytes) → All (λ c. eqb c 10 ≡ false) (random_text random)
random_text-Lacks_end random =
    random_fails (λ c. eqb c 10) refl (All-from_recursion (λ c. eqb c 10 ≡ false) (codes "-") (refl, tt)) random
