-- What is told has printing bytes alone.
use Rattle.std.proofs.Common.{◌≡◌, refl, ℕ, Bool, true, false, cond, ◌&&◌, nat_le, List, [], ◌∷◌, map, All, arith}
use Rattle.std.proofs.lemmas.Bool.{leb-true}
use Rattle.std.proofs.lemmas.List.Elements.{All-nil, All-cons}
use Rattle.da_unix.specs.Shown.{IsShown, shown_byte}

shown_is : (byte : ℕ) → IsShown (shown_byte byte)
shown_is byte = go (nat_le 32 byte) (nat_le byte 126) refl refl
  where
    go : (a b : Bool) → nat_le 32 byte ≡ a → nat_le byte 126 ≡ b → IsShown (cond (a && b) byte 63)
    go true true p q = record { low = leb-true 32 byte p; high = leb-true byte 126 q }
    go true false p q = record { low = omega arith; high = omega arith }
    go false b p q = record { low = omega arith; high = omega arith }

pub all_shown : (text : List ℕ) → All IsShown (map shown_byte text)
all_shown [] = All-nil {X = ℕ} IsShown
all_shown (x ∷ xs) = All-cons {X = ℕ} IsShown (shown_byte x) (map shown_byte xs) (shown_is x) (all_shown xs)
