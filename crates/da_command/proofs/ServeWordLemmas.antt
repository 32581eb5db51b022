-- The words of `serve`.
use Rattle.std.proofs.Common.{◌≡◌, List, [], ◌∷◌, length, map, None, refl}
use Rattle.da_base.specs.Words.{Bytes}
use Rattle.da_command.specs.ServeWords.{serve_task}

-- there are two words, or four
pub off_forms : {A : Type 0} (f : A → Bytes) (words : List A) → (length words ≡ 2 → ⊥) → (length words ≡ 4 → ⊥) → None ≡ serve_task (map f words)
off_forms f [] two four = refl
off_forms f (a ∷ []) two four = refl
off_forms f (a ∷ b ∷ []) two four = absurd (two refl)
off_forms f (a ∷ b ∷ c ∷ []) two four = refl
off_forms f (a ∷ b ∷ c ∷ d ∷ []) two four = absurd (four refl)
off_forms f (a ∷ b ∷ c ∷ d ∷ e ∷ more) two four = refl
