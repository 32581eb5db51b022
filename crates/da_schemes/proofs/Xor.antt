-- Loops that take a byte, or the bytes of another list, into each byte of a list by XOR.
use Rattle.std.proofs.Common.{◌≡◌, ℕ, zero, suc, ◌+◌, ◌<◌, List, [], ◌∷◌, ◌++◌, length, take, drop, get_or, set, refl, ap, arith, add-one}
use Rattle.std.specs.Prelude.{bit_xor}
use Rattle.da_schemes.specs.Hmac.{xor_bytes, xor_each}

-- the list after so many bytes
abbrev pub xor_front : List ℕ → List ℕ → ℕ → List ℕ
xor_front xs ys i = xor_bytes (take i xs) (take i ys) ++ drop i xs

set-xor_front : (xs ys : List ℕ) (i : ℕ) → i < length xs → i < length ys
    → set (xor_front xs ys i) i (bit_xor (get_or (xor_front xs ys i) i 0) (get_or ys i 0)) ≡ xor_front xs ys (suc i)
set-xor_front [] ys i h k = absurd (omega arith)
set-xor_front (x ∷ xs) [] i h k = absurd (omega arith)
set-xor_front (x ∷ xs) (y ∷ ys) zero h k = refl
set-xor_front (x ∷ xs) (y ∷ ys) (suc i) h k = ap (λ rest. bit_xor x y ∷ rest) (set-xor_front xs ys i (omega arith) (omega arith))

pub xor_front-more : (xs ys zs : List ℕ) (i : ℕ) → zs ≡ xor_front xs ys i → i < length xs → i < length ys
    → set zs i (bit_xor (get_or zs i 0) (get_or ys i 0)) ≡ xor_front xs ys (i + 1)
xor_front-more xs ys zs i e h k = rw (e, add-one) (set-xor_front xs ys i h k)

-- the list with the pad taken into so many bytes
abbrev pub padded_front : ℕ → List ℕ → ℕ → List ℕ
padded_front pad xs i = xor_each (take i xs) pad ++ drop i xs

set-padded_front : (pad : ℕ) (xs : List ℕ) (i : ℕ) → i < length xs
    → set (padded_front pad xs i) i (bit_xor (get_or (padded_front pad xs i) i 0) pad) ≡ padded_front pad xs (suc i)
set-padded_front pad [] i h = absurd (omega arith)
set-padded_front pad (x ∷ xs) zero h = refl
set-padded_front pad (x ∷ xs) (suc i) h = ap (λ rest. bit_xor x pad ∷ rest) (set-padded_front pad xs i (omega arith))

pub padded_front-more : (pad : ℕ) (xs ys : List ℕ) (i : ℕ) → ys ≡ padded_front pad xs i → i < length xs
    → set ys i (bit_xor (get_or ys i 0) pad) ≡ padded_front pad xs (i + 1)
padded_front-more pad xs ys i e h = rw (e, add-one) (set-padded_front pad xs i h)
