-- The parts of a text.
use Rattle.std.specs.Prelude.{◌≡◌, ℕ, false, List, [], ◌∷◌, ◌++◌, Option, Some, None, ◌==◌}
use Rattle.std.specs.List.{All}
use Rattle.da_base.specs.Words.{Bytes, before_byte, after_byte, pieces}

-- the byte isn't in the text
abbrev pub Lacks : ℕ → Bytes → Type 0
Lacks byte text = All (λ c. (c == byte) ≡ false) text

-- the text is front, the byte and back, and the byte isn't in front
pub record SplitsAt (byte : ℕ) (text front back : Bytes) : Type 0 where
  pub whole : text ≡ front ++ byte ∷ back
  pub first : Lacks byte front

-- front is what stands before the first such byte, and back what stands after it, if it is there
pub record IsCutAt (byte : ℕ) (text front : Bytes) (back : Option Bytes) : Type 0 where
  pub before : before_byte byte text ≡ front
  pub after : after_byte byte text ≡ back

-- the pieces of what follows a separator, where one is there
abbrev pub more_pieces : ℕ → Option Bytes → List Bytes
more_pieces separator None = []
more_pieces separator (Some text) = pieces separator text

-- the first four pieces of the text, what follows its second separator, and what follows its fourth, where one is there
pub record IsCutInFour (separator : ℕ) (text first second after_second third fourth : Bytes) (more : Option Bytes) : Type 0 where
  pub cut : pieces separator text ≡ first ∷ second ∷ third ∷ fourth ∷ more_pieces separator more
  pub whole : text ≡ first ++ separator ∷ (second ++ separator ∷ after_second)
