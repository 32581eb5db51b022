-- Texts of more than four pieces spell no keys.
use Rattle.std.proofs.Common.{◌≡◌, ℕ, ◌<◌, List, [], ◌∷◌, None, length, refl, eqb, arith}
use Rattle.std.proofs.lemmas.List.Splits.{length-slice_split}
use Rattle.da_base.specs.Words.{pieces}
use Rattle.da_schemes.specs.Keys.{keys_in_pieces}

more_than_four : (rounds salt stored server : List ℕ) (more : List (List ℕ)) → 0 < length more
    → keys_in_pieces (rounds ∷ salt ∷ stored ∷ server ∷ more) ≡ None
more_than_four rounds salt stored server [] some = absurd (omega arith)
more_than_four rounds salt stored server (piece ∷ more) some = refl

pub keys_in_pieces-more : (rounds salt stored server rest : List ℕ) → keys_in_pieces (rounds ∷ salt ∷ stored ∷ server ∷ pieces 44 rest) ≡ None
keys_in_pieces-more rounds salt stored server rest =
    let long = length-slice_split (λ c. eqb c 44) rest in
    more_than_four rounds salt stored server (pieces 44 rest) (omega (arith, long))
