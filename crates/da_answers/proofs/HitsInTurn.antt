-- The hits of a request, one after the other.
use Rattle.std.proofs.Common.{◌≡◌, sym, ◌∙◌, ap, ℕ, zero, suc, ◌-◌, ◌<◌, List, [], ◌∷◌, ◌++◌, Option, Some, None, append_assoc, arith}
use Rattle.std.specs.Prelude.{option_and_then, option_map}
use Rattle.std.proofs.lemmas.Option.{none-some, same_Some}
use Rattle.da_base.specs.Words.{option_or_else}
use Rattle.da_answers.specs.declared.hits.Hit.{Hit}
use Rattle.da_settings.specs.declared.settings.Settings.{Settings}
use Rattle.da_request.specs.declared.stages.Question.{Question}
use Rattle.da_request.specs.declared.request.Request.{Request}
use Rattle.da_tables.specs.declared.tables.Tables.{Tables}
use Rattle.da_request.specs.Requests.{request_stage, question_in}
use Rattle.da_tables.specs.Hits.{hit_for, hits_from, with_hit}
use Rattle.da_answers.specs.Bridges.{hit_with_number, next_hit}

module _ (h : Hit) (rest : Question → ℕ → List ℕ) where
  number_first : (q : Question) (o : Option ℕ) → option_map (hit_with_number q) o ≡ Some h →
      option_or_else o [] (λ (n : ℕ). n ∷ rest q n) ≡ h.number ∷ rest h.question h.number
  number_first q None e = absurd (none-some h e)
  number_first q (Some n) e = ap (λ (g : Hit). g.number ∷ rest g.question g.number) (same_Some (hit_with_number q n) h e)

  hit_first : (f : Question → Option ℕ) (o : Option Question) → option_and_then (λ (q : Question). option_map (hit_with_number q) (f q)) o ≡ Some h →
      option_or_else o [] (λ (q : Question). option_or_else (f q) [] (λ (n : ℕ). n ∷ rest q n)) ≡ h.number ∷ rest h.question h.number
  hit_first f None e = absurd (none-some h e)
  hit_first f (Some q) e = number_first q (f q) e

-- the first hit stands before those that come after it
pub more_hits : (databases : ℕ) (settings : Settings) (moment : ℕ) (tables : Tables) (r : Request) (h : Hit) → 0 < databases →
    next_hit settings moment tables r ≡ Some h →
    hits_from databases settings moment tables r ≡ h.number ∷ hits_from (databases - 1) settings moment tables (with_hit tables h.question h.number r)
more_hits zero settings moment tables r h some e = let bad : ⊥ = omega (arith, some) in absurd bad
more_hits (suc n) settings moment tables r h some e =
    hit_first h (λ q number. hits_from n settings moment tables (with_hit tables q number r)) (hit_for settings moment tables r) (question_in (request_stage settings r)) e
    ∙ ap (λ (k : ℕ). h.number ∷ hits_from k settings moment tables (with_hit tables h.question h.number r)) one_less
  where
    one_less : n ≡ suc n - 1
    one_less = omega arith

-- a hit that is put last
pub goes_on : (before after rest more all : List ℕ) (number : ℕ) → after ≡ before ++ number ∷ [] → rest ≡ number ∷ more → before ++ rest ≡ all → after ++ more ≡ all
goes_on before after rest more all number pushed first total =
    ap (λ (xs : List ℕ). xs ++ more) pushed ∙ append_assoc before (number ∷ []) more ∙ ap (λ (xs : List ℕ). before ++ xs) (sym first) ∙ total
