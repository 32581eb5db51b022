-- Lines in outboxes: one after another, and taken back.
use Rattle.std.proofs.Common.{◌≡◌, refl, sym, ◌∙◌, ap, List, [], ◌∷◌, ◌++◌, ℕ, ◌+◌, ◌-◌, ◌<◌, Bool, true, false, cond, map, filter, flat_map, length, take, get_or, ◌==◌, arith, append_assoc}
use Rattle.std.proofs.lemmas.List.{map-append, take_more, length-append, append-nil}
use Rattle.std.proofs.Math.Seq.{take-append_seam}
use Rattle.std.proofs.lemmas.List.Elements.{filter-append}
use Rattle.std.proofs.lemmas.Grind.{flat_map-append}
use Rattle.da_base.specs.Words.{Bytes}
use Rattle.da_outbox.specs.Outboxes.{bytes_to}

-- the bytes of a line, where it is to the connection
abbrev pub line_to : ℕ → ℕ × Bytes → Bytes
line_to c l = cond (l.0 == c) (l.1 ++ 10 ∷ []) []

pub bytes_to-append : (c : ℕ) (xs ys : List (ℕ × Bytes)) → bytes_to c (xs ++ ys) ≡ bytes_to c xs ++ bytes_to c ys
bytes_to-append c xs ys =
    ap (λ ls. flat_map (λ l. l ++ 10 ∷ []) (map (λ (l : ℕ × Bytes). l.1) ls)) (filter-append (λ (l : ℕ × Bytes). l.0 == c) xs ys)
    ∙ ap (flat_map (λ l. l ++ 10 ∷ [])) (map-append (λ (l : ℕ × Bytes). l.1) (filter (λ l. l.0 == c) xs) (filter (λ l. l.0 == c) ys))
    ∙ flat_map-append (λ l. l ++ 10 ∷ []) (map (λ l. l.1) (filter (λ l. l.0 == c) xs)) (map (λ l. l.1) (filter (λ l. l.0 == c) ys))

by_case : (b : Bool) (l : ℕ × Bytes) → flat_map (λ l. l ++ 10 ∷ []) (map (λ (l : ℕ × Bytes). l.1) (cond b (l ∷ []) [])) ≡ cond b (l.1 ++ 10 ∷ []) []
by_case true l = append-nil (l.1 ++ 10 ∷ [])
by_case false l = refl

pub bytes_to-one : (c : ℕ) (l : ℕ × Bytes) → bytes_to c (l ∷ []) ≡ line_to c l
bytes_to-one c l = by_case (l.0 == c) l

-- one line further
pub bytes_to-more : (c : ℕ) (lines : List (ℕ × Bytes)) (i : ℕ) (d : ℕ × Bytes) → i < length lines → bytes_to c (take (i + 1) lines) ≡ bytes_to c (take i lines) ++ line_to c (get_or lines i d)
bytes_to-more c lines i d l =
    ap (bytes_to c) (take_more lines i d l) ∙ bytes_to-append c (take i lines) (get_or lines i d ∷ []) ∙ ap (λ x. bytes_to c (take i lines) ++ x) (bytes_to-one c (get_or lines i d))

shorter : (a p : Bytes) (n : ℕ) → n ≡ length p → take (length (a ++ p) - n) (a ++ p) ≡ a
shorter a p n e =
    let seam : length (a ++ p) - n ≡ length a = omega (arith, length-append a p, e) in
    ap (λ k. take k (a ++ p)) seam ∙ take-append_seam a p

line_length : (text : Bytes) → length text + 1 ≡ length (text ++ 10 ∷ [])
line_length text = omega (arith, length-append text (10 ∷ []))

by_seam : (is : Bool) (a text : Bytes) → cond is (take (length (a ++ cond is (text ++ 10 ∷ []) []) - (length text + 1)) (a ++ cond is (text ++ 10 ∷ []) [])) (a ++ cond is (text ++ 10 ∷ []) []) ≡ a
by_seam true a text = shorter a (text ++ 10 ∷ []) (length text + 1) (line_length text)
by_seam false a text = append-nil a

-- what stood before the last line is left
pub taken_back : (is : Bool) (front before text b now : Bytes) → b ≡ front ++ (before ++ cond is (text ++ 10 ∷ []) []) → now ≡ cond is (take (length b - (length text + 1)) b) b → now ≡ front ++ before
taken_back is front before text b now e n =
    n ∙ ap (λ x. cond is (take (length x - (length text + 1)) x) x) (e ∙ sym (append_assoc front before (cond is (text ++ 10 ∷ []) []))) ∙ by_seam is (front ++ before) text
