-- What several reads took together.
use Rattle.std.proofs.Common.{◌≡◌, ℕ, zero, suc, ◌-◌, min, List, [], ◌∷◌, ◌++◌, length, take, drop, Option, refl, sym, ap, ◌∙◌, append_assoc, arith, take-append-drop}
use Rattle.std.proofs.KnownBytes.{Appends-trans, Consumes-trans}
use Rattle.std.proofs.Math.Seq.{take-length}
use Rattle.std.proofs.lemmas.List.{length-drop}
use Rattle.std.specs.Io.KnownBytes.{Appends, Consumes}
use Rattle.da_unix.specs.Reads.{IsFrontOfAll}

-- the front of more is the front, and what of the rest still fits
front_more : (n : ℕ) (all piece : List ℕ) → take n (all ++ piece) ≡ take n all ++ take (n - length (take n all)) piece
front_more zero all piece = refl
front_more (suc n) [] piece =
    let whole : suc n ≡ suc n - 0 = omega arith in
    ap (λ (k : ℕ). take k piece) whole
front_more (suc n) (x ∷ all) piece =
    let left : suc n - suc (length (take n all)) ≡ n - length (take n all) = omega arith in
    rw left (ap (λ l. x ∷ l) (front_more n all piece))

-- a front of a front
take_of_take : (i j k : ℕ) (xs : List ℕ) → k ≡ min i j → take i (take j xs) ≡ take k xs
take_of_take zero j k xs is =
    let none : k ≡ 0 = omega (arith, is) in
    sym (ap (λ (n : ℕ). take n xs) none)
take_of_take (suc i) zero k xs is =
    let none : k ≡ 0 = omega (arith, is) in
    sym (ap (λ (n : ℕ). take n xs) none)
take_of_take (suc i) (suc j) zero [] is = refl
take_of_take (suc i) (suc j) (suc k) [] is = refl
take_of_take (suc i) (suc j) zero (x ∷ xs) is =
    let bad : ⊥ = omega (arith, is) in absurd bad
take_of_take (suc i) (suc j) (suc k) (x ∷ xs) is = ap (λ l. x ∷ l) (take_of_take i j k xs (omega (arith, is)))

pub front_of_all : (a b c : Option (List ℕ)) (reply chunk now : List ℕ) (count kept n : ℕ) → IsFrontOfAll a b reply → Consumes b c (take count chunk)
    → n ≡ length reply → kept ≡ min count (8194 - n) → now ≡ reply ++ take kept chunk → IsFrontOfAll a c now
front_of_all a b c reply chunk now count kept n so_far taken long kept_is is =
    let piece = take count chunk in
    let room = 8194 - length reply in
    let cut : take room piece ≡ take kept chunk = take_of_take room count kept chunk (omega (arith, long, kept_is)) in
    let front : take 8194 (so_far.all ++ piece) ≡ reply ++ take room piece =
    front_more 8194 so_far.all piece ∙ ap (λ l. l ++ take (8194 - length l) piece) (sym so_far.front) in
    record { all = so_far.all ++ piece; taken = Consumes-trans a b c so_far.all piece so_far.taken taken; front = is ∙ ap (λ l. reply ++ l) (sym cut) ∙ sym front }

-- a front of the rest was written, after a front of the whole
pub front_written : (a b c : Option (List ℕ)) (input front rest : List ℕ) (count : ℕ) → input ≡ front ++ rest → Appends a b front → Appends b c (take count rest)
    → (x : List ℕ) × (input ≡ x ++ take (length rest - count) (drop count rest)) × Appends a c x
front_written a b c input front rest count is before now =
    let left : take (length rest - count) (drop count rest) ≡ drop count rest = ap (λ (k : ℕ). take k (drop count rest)) (sym (length-drop count rest)) ∙ take-length (drop count rest) in
    let parts : take count rest ++ take (length rest - count) (drop count rest) ≡ rest = ap (λ (l : List ℕ). take count rest ++ l) left ∙ take-append-drop count rest in
    (front ++ take count rest, is ∙ ap (λ (l : List ℕ). front ++ l) (sym parts) ∙ sym (append_assoc front (take count rest) (take (length rest - count) (drop count rest))), Appends-trans a b c front (take count rest) before now)
