-- Filters of user names: words with wildcards, some of them negative.
use Rattle.std.specs.Prelude.{ℕ, Bool, false, ◌&&◌, ◌||◌, not, List, [], ◌∷◌, filter, if◌then◌else◌, ◌==◌}
use Rattle.std.specs.List.{list_any}
use Rattle.da_base.specs.Words.{Bytes, pieces, is_empty}

-- the endings of a text, itself first
abbrev pub endings : Bytes → List Bytes
endings [] = [] ∷ []
endings (x ∷ xs) = (x ∷ xs) ∷ endings xs

-- a question mark stands for any one byte, another byte for itself
abbrev pub fits_byte : ℕ → ℕ → Bool
fits_byte p x = (p == 63) || (p == x)

abbrev pub first_matches : ℕ → (Bytes → Bool) → Bytes → Bool
first_matches p rest [] = false
first_matches p rest (x ∷ xs) = fits_byte p x && rest xs

-- a star stands for any bytes, also none
abbrev pub pattern_matches : Bytes → Bytes → Bool
pattern_matches [] = λ name. is_empty name
pattern_matches (p ∷ ps) = λ name. if p == 42 then list_any (pattern_matches ps) (endings name) else first_matches p (pattern_matches ps) name

-- a word that begins with an exclamation mark is negative, and the rest is its pattern
abbrev pub is_negative : Bytes → Bool
is_negative [] = false
is_negative (c ∷ cs) = c == 33

abbrev pub without_first : Bytes → Bytes
without_first [] = []
without_first (c ∷ cs) = cs

-- the words of a filter, with one or more spaces between them
abbrev pub filter_words : Bytes → List Bytes
filter_words text = filter (λ w. not (is_empty w)) (pieces 32 text)

abbrev pub is_word_for : Bytes → Bytes → Bool
is_word_for name w = pattern_matches w name

abbrev pub is_word_against : Bytes → Bytes → Bool
is_word_against name w = is_negative w && pattern_matches (without_first w) name

-- no negative word matches, and either there is no positive word or some positive word matches
unfoldable pub filter_matches : Bytes → Bytes → Bool
filter_matches text name =
    let positive = filter (λ w. not (is_negative w)) (filter_words text) in
    not (list_any (is_word_against name) (filter_words text)) && (is_empty positive || list_any (is_word_for name) positive)
