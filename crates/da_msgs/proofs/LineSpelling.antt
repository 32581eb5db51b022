-- Lemmas on lines that are written field by field.
use Rattle.std.proofs.Common.{◌≡◌, List, ◌∷◌, ◌++◌, ap, ◌∙◌}
use Rattle.da_base.specs.Words.{Bytes}
use Rattle.da_tabline.specs.Escapes.{spelled}
use Rattle.da_tabline.specs.Spelling.{more_fields}
use Rattle.da_tabline.proofs.SpellingLemmas.{spelled_more}

-- a line that goes on
pub next : (first : Bytes) (fields more : List Bytes) (old new : Bytes) → old ≡ spelled (first ∷ fields) → new ≡ old ++ more_fields more
    → new ≡ spelled (first ∷ (fields ++ more))
next first fields more old new begun goes_on = goes_on ∙ ap (λ l. l ++ more_fields more) begun ∙ spelled_more first fields more
