-- Lemmas on escapes.
use Rattle.std.proofs.Common.{◌≡◌, ℕ, false, [], ◌∷◌, ◌++◌, refl, ap, ◌∙◌, inl, inr}
use Rattle.std.proofs.lemmas.Bool.{cases_eq, ne_eqb}
use Rattle.da_base.specs.Words.{Bytes}
use Rattle.da_tabline.specs.Escapes.{escape, escaped_byte, unescape, unescaped}

-- one byte that was escaped is read as itself
read_one : (c : ℕ) (rest : Bytes) → unescaped false (escaped_byte c ++ rest) ≡ c ∷ unescaped false rest
read_one c rest =
    elim (cases_eq c 0) [
      | inl e ↦ rw e refl
      | inr not_0 ↦
          elim (cases_eq c 1) [
            | inl e ↦ rw e refl
            | inr not_1 ↦
                elim (cases_eq c 9) [
                  | inl e ↦ rw e refl
                  | inr not_9 ↦
                      elim (cases_eq c 13) [
                        | inl e ↦ rw e refl
                        | inr not_13 ↦
                            elim (cases_eq c 10) [
                              | inl e ↦ rw e refl
                              | inr not_10 ↦ rw (ne_eqb c 0 not_0, ne_eqb c 1 not_1, ne_eqb c 9 not_9, ne_eqb c 13 not_13, ne_eqb c 10 not_10, ne_eqb c 1 not_1)
                            ]
                      ]
                ]
          ]
    ]

pub unescape-escape : (text : Bytes) → unescape (escape text) ≡ text
unescape-escape [] = refl
unescape-escape (c ∷ cs) = read_one c (escape cs) ∙ ap (λ l. c ∷ l) (unescape-escape cs)
