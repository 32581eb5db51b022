-- The two spellings of hexadecimal digits are one.
use Rattle.std.proofs.Common.{◌≡◌, ℕ, suc, ◌<◌, ◌/◌, ◌%◌, true, List, [], ◌∷◌, refl, ap, ◌∙◌, eqb, arith}
use Rattle.std.specs.Prelude.{slice_index}
use Rattle.std.proofs.lemmas.Bool.{eqb-true, agree_below_at}
use Rattle.hex.specs.Hex.{encode_with, encode_lower, lower_digits}
use Rattle.da_base.specs.Words.{hex, hex_digit}

digit_same : (n : ℕ) → n < 16 → slice_index lower_digits n ≡ hex_digit n
digit_same n low = eqb-true _ _ (agree_below_at (λ k. eqb (slice_index lower_digits k) (hex_digit k)) (λ k. true) 16 n refl low)

pub encode_lower-hex : (bytes : List ℕ) → ((i : ℕ) → slice_index bytes i < 256) → encode_lower bytes ≡ hex bytes
unfolding encode_with
encode_lower-hex [] all = refl
encode_lower-hex (b ∷ bs) all =
    let fits : b < 256 = all 0 in
    ap (λ d. d ∷ slice_index lower_digits (b % 16) ∷ encode_lower bs) (digit_same (b / 16) (omega arith))
    ∙ ap (λ d. hex_digit (b / 16) ∷ d ∷ encode_lower bs) (digit_same (b % 16) (omega arith))
    ∙ ap (λ l. hex_digit (b / 16) ∷ hex_digit (b % 16) ∷ l) (encode_lower-hex bs (λ i. all (suc i)))
