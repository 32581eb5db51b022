-- The first two colons in a row.
use Rattle.std.proofs.Common.{◌≡◌, ℕ, ◌+◌, ◌<◌, ◌≤◌, true, false, ◌&&◌, [], ◌∷◌, ◌++◌, length, get_or, take, drop, eqb, Option, Some, None, refl, sym, ap, ◌∙◌, append_assoc, arith, length-drop}
use Rattle.std.specs.Prelude.{option_map}
use Rattle.std.proofs.lemmas.List.{drop_more, take_more, append-nil}
use Rattle.da_base.specs.Words.{Bytes}
use Rattle.da_nets.specs.Addresses.{around_run, put_first}

-- the parts, the first after this front
abbrev pub behind : Bytes → Bytes × Bytes → Bytes × Bytes
behind front parts = (front ++ parts.0, parts.1)

pub behind-nil : (parts : Option (Bytes × Bytes)) → option_map (behind []) parts ≡ parts
behind-nil None = refl
behind-nil (Some parts) = refl

behind-put_first : (front : Bytes) (c : ℕ) (parts : Option (Bytes × Bytes)) → option_map (behind front) (option_map (put_first c) parts) ≡ option_map (behind (front ++ c ∷ [])) parts
behind-put_first front c None = refl
behind-put_first front c (Some parts) = ap (λ whole. Some (whole, parts.1)) (sym (append_assoc front (c ∷ []) parts.0))

pub around_run-start : (text : Bytes) → option_map (behind (take 0 text)) (around_run (drop 0 text)) ≡ around_run text
around_run-start text = behind-nil (around_run text)

two_at : (text : Bytes) (i at : ℕ) → i + 1 ≡ at → at < length text → drop i text ≡ get_or text i 0 ∷ get_or text at 0 ∷ drop (at + 1) text
two_at text i at next within =
    drop_more text i 0 (omega arith) ∙ ap (λ rest. get_or text i 0 ∷ rest) (ap (λ n. drop n text) next ∙ drop_more text at 0 within)

pub around_run-more : (text : Bytes) (i at : ℕ) → i + 1 ≡ at → at < length text → (eqb (get_or text i 0) 58 && eqb (get_or text at 0) 58) ≡ false
    → option_map (behind (take at text)) (around_run (drop at text)) ≡ option_map (behind (take i text)) (around_run (drop i text))
around_run-more text i at next within isnt =
    let whole = two_at text i at next within in
    let behind_first : around_run (drop i text) ≡ option_map (put_first (get_or text i 0)) (around_run (drop at text)) =
    ap around_run whole ∙ (rw isnt refl) ∙ ap (λ rest. option_map (put_first (get_or text i 0)) (around_run rest)) (sym (drop_more text at 0 within)) in
    let front : take at text ≡ take i text ++ get_or text i 0 ∷ [] = ap (λ n. take n text) (sym next) ∙ take_more text i 0 (omega arith) in
    ap (λ f. option_map (behind f) (around_run (drop at text))) front ∙ sym (behind-put_first (take i text) (get_or text i 0) (around_run (drop at text))) ∙ sym (ap (option_map (behind (take i text))) behind_first)

pub around_run-here : (text : Bytes) (i at : ℕ) → i + 1 ≡ at → at < length text → (eqb (get_or text i 0) 58 && eqb (get_or text at 0) 58) ≡ true
    → option_map (behind (take i text)) (around_run (drop i text)) ≡ Some (take i text, drop (at + 1) text)
around_run-here text i at next within is =
    let here : around_run (drop i text) ≡ Some ([], drop (at + 1) text) = ap around_run (two_at text i at next within) ∙ (rw is refl) in
    ap (option_map (behind (take i text))) here ∙ ap (λ front. Some (front, drop (at + 1) text)) (append-nil (take i text))

around_run-short : (text : Bytes) → length text ≤ 1 → around_run text ≡ None
around_run-short [] short = refl
around_run-short (c ∷ []) short = refl
around_run-short (c ∷ d ∷ rest) short = absurd (omega (arith, short))

pub around_run-end : (text : Bytes) (i : ℕ) → length text ≤ i + 1 → option_map (behind (take i text)) (around_run (drop i text)) ≡ None
around_run-end text i short =
    ap (option_map (behind (take i text))) (around_run-short (drop i text) (rw (length-drop i text) (omega arith)))
