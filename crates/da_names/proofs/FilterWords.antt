-- What the words of a filter that are left make of the name, after those before them.
use Rattle.std.proofs.Common.{◌≡◌, ℕ, Bool, true, false, ◌&&◌, ◌||◌, not, List, [], ◌∷◌, filter, eqb, refl, sym, ap, ◌∙◌, length, drop, get_or, ◌+◌, ◌<◌, arith}
use Rattle.std.proofs.lemmas.Bool.{ne_eqb}
use Rattle.std.proofs.lemmas.List.{at_drop_more, at_drop_all}
use Rattle.std.specs.List.{list_any}
use Rattle.da_base.specs.Words.{Bytes, is_empty, pieces}
use Rattle.da_names.specs.Filters.{is_negative, is_word_against, is_word_for, pattern_matches, filter_matches}

-- wanted: no positive word stood before; found: a positive word before matched
abbrev pub takes : Bool → Bool → Bytes → List Bytes → Bool
takes wanted found name words =
    let some = filter (λ w. not (is_empty w)) words in
    let positive = filter (λ w. not (is_negative w)) some in
    not (list_any (is_word_against name) some) && ((wanted && is_empty positive) || (found || list_any (is_word_for name) positive))

pub takes-start : (text name : Bytes) → takes true false name (pieces 32 text) ≡ filter_matches text name
unfolding filter_matches
takes-start text name = refl

pub takes-empty : (wanted found : Bool) (name : Bytes) (word : Bytes) (words : List Bytes) → length word ≡ 0 → takes wanted found name (word ∷ words) ≡ takes wanted found name words
takes-empty wanted found name [] words e = refl
takes-empty wanted found name (c ∷ cs) words e = absurd (omega (arith, e))

-- a negative word that matches settles the filter
pub takes-against : (wanted found : Bool) (name : Bytes) (word : Bytes) (first : ℕ) (pattern : Bytes) (words : List Bytes) → word ≡ first ∷ pattern → first ≡ 33 → pattern_matches pattern name ≡ true → takes wanted found name (word ∷ words) ≡ false
takes-against wanted found name word first pattern words is negative e = rw (is, negative, e) refl

pub takes-negative : (wanted found : Bool) (name : Bytes) (word : Bytes) (first : ℕ) (pattern : Bytes) (words : List Bytes) → word ≡ first ∷ pattern → first ≡ 33 → pattern_matches pattern name ≡ false → takes wanted found name (word ∷ words) ≡ takes wanted found name words
takes-negative wanted found name word first pattern words is negative e = rw (is, negative, e) refl

and_false : (a : Bool) → (a && false) ≡ false
and_false true = refl
and_false false = refl

or_assoc : (a b c : Bool) → (a || (b || c)) ≡ ((a || b) || c)
or_assoc true b c = refl
or_assoc false b c = refl

positive_more : (first : ℕ) (wanted found : Bool) (name cs : Bytes) (words : List Bytes) → eqb first 33 ≡ false → takes wanted found name ((first ∷ cs) ∷ words) ≡ takes false (found || pattern_matches (first ∷ cs) name) name words
positive_more first wanted found name cs words e =
    let some = filter (λ w. not (is_empty w)) words in
    let positive = filter (λ w. not (is_negative w)) some in
    rw (e, and_false wanted) (ap (λ b. not (list_any (is_word_against name) some) && b) (or_assoc found (pattern_matches (first ∷ cs) name) (list_any (is_word_for name) positive)))

takes-positive : (wanted found : Bool) (name : Bytes) (word : Bytes) (first : ℕ) (cs : Bytes) (words : List Bytes) → word ≡ first ∷ cs → (first ≡ 33 → ⊥) → takes wanted found name (word ∷ words) ≡ takes false (found || pattern_matches word name) name words
takes-positive wanted found name word first cs words is isnt =
    rw is (positive_more first wanted found name cs words (ne_eqb first 33 isnt))

pub or_true : (a b : Bool) → a ≡ true → (a || b) ≡ a
or_true a b e = rw e refl

pub or_false : (a b : Bool) → a ≡ false → (a || b) ≡ b
or_false a b e = rw e refl

pub takes-found : (wanted found : Bool) (name : Bytes) (word : Bytes) (first : ℕ) (cs : Bytes) (words : List Bytes) → word ≡ first ∷ cs → (first ≡ 33 → ⊥) → found ≡ true → takes wanted found name (word ∷ words) ≡ takes false found name words
takes-found wanted found name word first cs words is isnt e =
    takes-positive wanted found name word first cs words is isnt ∙ ap (λ b. takes false b name words) (or_true found _ e)

pub takes-sought : (wanted found : Bool) (name : Bytes) (word : Bytes) (first : ℕ) (cs : Bytes) (words : List Bytes) (matched : Bool) → word ≡ first ∷ cs → (first ≡ 33 → ⊥) → found ≡ false → matched ≡ pattern_matches word name → takes wanted found name (word ∷ words) ≡ takes false matched name words
takes-sought wanted found name word first cs words matched is isnt e m =
    takes-positive wanted found name word first cs words is isnt ∙ ap (λ b. takes false b name words) (or_false found _ e ∙ sym m)

pub takes-end : (wanted found : Bool) (name : Bytes) → takes wanted found name [] ≡ (wanted || found)
takes-end true true name = refl
takes-end true false name = refl
takes-end false true name = refl
takes-end false false name = refl

-- the next word, at its place among the words
pub takes-next : (wanted found : Bool) (name : Bytes) (words : List Bytes) (n : ℕ) (word : Bytes) (total : Bool) → takes wanted found name (drop n words) ≡ total → (n < length words) × (word ≡ get_or words n word) → takes wanted found name (word ∷ drop (n + 1) words) ≡ total
takes-next wanted found name words n word total e at =
    ap (λ w. takes wanted found name (w ∷ drop (n + 1) words)) at.1 ∙ sym (at_drop_more (takes wanted found name) words n word at.0) ∙ e

pub takes-last : (wanted found : Bool) (name : Bytes) (words : List Bytes) (n : ℕ) (total : Bool) → takes wanted found name (drop n words) ≡ total → n ≡ length words → (wanted || found) ≡ total
takes-last wanted found name words n total e at =
    sym (takes-end wanted found name) ∙ sym (at_drop_all (takes wanted found name) words n (omega arith)) ∙ e
