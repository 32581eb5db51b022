-- Which moments a clock with a list of moments tells.
use Rattle.std.specs.Prelude.{ℕ, ◌≡◌, List, [], ◌∷◌, Contains}

-- a moment of the list, or 0 where it is empty
abbrev pub TellsOneOf : List ℕ → ℕ → Type 0
TellsOneOf [] moment = moment ≡ 0
TellsOneOf (first ∷ moments) moment = Contains (first ∷ moments) moment
