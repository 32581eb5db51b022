-- Base64 of bytes: it is read again, and has no comma.
use Rattle.std.proofs.Common.{◌≡◌, ℕ, zero, suc, ◌+◌, ◌*◌, ◌/◌, ◌%◌, Bool, true, false, cond, List, [], ◌∷◌, eqb, Some, refl, ap, replicate, length, inl, inr}
use Rattle.std.specs.Prelude.{slice_index}
use Rattle.std.specs.Result.{result_ok}
use Rattle.std.proofs.lemmas.Bool.{cases_Bool}
use Rattle.std.proofs.lemmas.List.Elements.{All-nil, All-cons, All-append}
use Rattle.base64.specs.Engines.{standard}
use Rattle.base64.specs.Rfc4648.{encode_symbols, encode_group, padding_len}
use Rattle.base64.specs.GeneralPurpose.{IsBytes}
use Rattle.base64.proofs.EngineFacts.{decode_of-encode_of}
use Rattle.da_base.specs.Words.{to_base64, from_base64}
use Rattle.da_tabline.specs.Parts.{Lacks}

pub from_base64-to_base64 : (bytes : List ℕ) → IsBytes bytes → from_base64 (to_base64 bytes) ≡ Some bytes
from_base64-to_base64 bytes all = ap result_ok (decode_of-encode_of standard bytes refl all)

-- ---- no comma

abbrev lacks_comma : List ℕ → Bool
lacks_comma [] = true
lacks_comma (c ∷ cs) = cond (eqb c 44) false (lacks_comma cs)

no_comma_at : (table : List ℕ) → lacks_comma table ≡ true → (i : ℕ) → eqb (slice_index table i) 44 ≡ false
no_comma_at [] lacks i = refl
no_comma_at (c ∷ cs) lacks zero = elim (cases_Bool (eqb c 44)) [ inl is ↦ absurd (cc (rw is at lacks)) | inr isnt ↦ isnt ]
no_comma_at (c ∷ cs) lacks (suc i) =
    elim (cases_Bool (eqb c 44)) [ inl is ↦ absurd (cc (rw is at lacks)) | inr isnt ↦ no_comma_at cs (rw isnt at lacks) i ]

abbrev IsNoComma : ℕ → Type 0
IsNoComma c = eqb c 44 ≡ false

lacks_two : (a b : ℕ) → IsNoComma a → IsNoComma b → Lacks 44 (a ∷ b ∷ [])
lacks_two a b first second = All-cons IsNoComma a (b ∷ []) first (All-cons IsNoComma b [] second (All-nil IsNoComma))

lacks_three : (a b c : ℕ) → IsNoComma a → IsNoComma b → IsNoComma c → Lacks 44 (a ∷ b ∷ c ∷ [])
lacks_three a b c first second third = All-cons IsNoComma a (b ∷ c ∷ []) first (lacks_two b c second third)

lacks_four : (a b c d : ℕ) → IsNoComma a → IsNoComma b → IsNoComma c → IsNoComma d → Lacks 44 (a ∷ b ∷ c ∷ d ∷ [])
lacks_four a b c d first second third fourth = All-cons IsNoComma a (b ∷ c ∷ d ∷ []) first (lacks_three b c d second third fourth)

Lacks-encode_symbols : (table bytes : List ℕ) → lacks_comma table ≡ true → Lacks 44 (encode_symbols table bytes)
unfolding encode_symbols
Lacks-encode_symbols t [] h = All-nil IsNoComma
Lacks-encode_symbols t (a ∷ []) h = lacks_two (slice_index t (a / 4)) (slice_index t (a % 4 * 16)) (no_comma_at t h (a / 4)) (no_comma_at t h (a % 4 * 16))
Lacks-encode_symbols t (a ∷ b ∷ []) h =
    lacks_three (slice_index t (a / 4)) (slice_index t (a % 4 * 16 + b / 16)) (slice_index t (b % 16 * 4)) (no_comma_at t h (a / 4)) (no_comma_at t h (a % 4 * 16 + b / 16)) (no_comma_at t h (b % 16 * 4))
Lacks-encode_symbols t (a ∷ b ∷ c ∷ rest) h =
    All-append IsNoComma (encode_group t a b c) (encode_symbols t rest)
    (lacks_four (slice_index t (a / 4)) (slice_index t (a % 4 * 16 + b / 16)) (slice_index t (b % 16 * 4 + c / 64)) (slice_index t (c % 64))
    (no_comma_at t h (a / 4)) (no_comma_at t h (a % 4 * 16 + b / 16)) (no_comma_at t h (b % 16 * 4 + c / 64)) (no_comma_at t h (c % 64)))
    (Lacks-encode_symbols t rest h)

Lacks-equals_signs : (n : ℕ) → Lacks 44 (replicate n 61)
Lacks-equals_signs zero = All-nil IsNoComma
Lacks-equals_signs (suc n) = All-cons IsNoComma 61 (replicate n 61) refl (Lacks-equals_signs n)

pub Lacks-to_base64 : (bytes : List ℕ) → Lacks 44 (to_base64 bytes)
Lacks-to_base64 bytes =
    All-append IsNoComma (encode_symbols standard.encode_table bytes) (replicate (padding_len (length bytes)) 61)
    (Lacks-encode_symbols standard.encode_table bytes refl) (Lacks-equals_signs (padding_len (length bytes)))
