-- The test for UTF-8.
use Rattle.std.proofs.Common.{◌≡◌, ℕ, false, List, inl, inr}
use Rattle.std.proofs.lemmas.Bool.{cases_Bool}
use Rattle.std.proofs.lemmas.Str.{IsUtf8-from_is_utf8}
use Rattle.std.specs.Str.{IsUtf8, is_utf8}

pub is_utf8-not : (text : List ℕ) → (IsUtf8 text → ⊥) → is_utf8 text ≡ false
is_utf8-not text isnt = elim (cases_Bool (is_utf8 text)) [
  | inl is ↦ absurd (isnt (IsUtf8-from_is_utf8 text is))
  | inr other ↦ other
]
