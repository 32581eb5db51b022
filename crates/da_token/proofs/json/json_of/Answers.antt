use Rattle.std.proofs.Common.{◌≡◌, ℕ, false, List, sym, inl, inr}
use Rattle.std.proofs.lemmas.Bool.{cases_Bool}
use Rattle.std.proofs.lemmas.Str.{is_utf8-from_IsUtf8, IsUtf8-from_is_utf8}
use Rattle.std.specs.Str.{IsUtf8, is_utf8}
use Rattle.da_token.proofs.json.json_of.Goals as goal

is_utf8-not : (text : List ℕ) → (IsUtf8 text → ⊥) → is_utf8 text ≡ false
is_utf8-not text isnt = elim (cases_Bool (is_utf8 text)) [
  | inl is ↦ absurd (isnt (IsUtf8-from_is_utf8 text is))
  | inr other ↦ other
]

pub returns-in_default : goal.returns-in_default
returns-in_default c = rw (is_utf8-not c.args.text.now c.in_default.ensures.cases.0)

pub returns-in-Ok-from_str : goal.returns-in-Ok-from_str
returns-in-Ok-from_str c =
    let read = c.in-Ok.ensures.cases in
    rw (is_utf8-from_IsUtf8 c.args.text.now read.1, ← read.0) (sym c.in-Ok-from_str.ensures.ok)
