-- What holds of each of some items holds of those behind the first.
use Rattle.std.proofs.Common.{◌≡◌, List, ◌∷◌, subst, suc, arith}
use Rattle.std.specs.Prelude.{All}

pub All_rest : {X : Type 0} (P : X → Type 0) (items : List X) (first : X) (rest : List X) → items ≡ first ∷ rest → All P items → All P rest
All_rest P items first rest is all k d below =
    let whole : All P (first ∷ rest) = subst (λ xs. All P xs) is all in
    whole (suc k) d (omega arith)
