-- Lemmas on the fields of a line that were not read yet.
use Rattle.std.proofs.Common.{◌≡◌, ◌<◌, false, List, [], ◌∷◌, length, map, eqb, refl, sym, ap, ◌∙◌, arith}
use Rattle.std.proofs.lemmas.List.Splits.{slice_split_none, slice_split_at, length-slice_split}
use Rattle.da_base.specs.Words.{Bytes, is_empty, pieces}
use Rattle.da_tabline.specs.Escapes.{line_fields, unescape}
use Rattle.da_tabline.specs.Parts.{Lacks, SplitsAt}

-- the first field of a line stands before its first TAB
pub first_field : (rest front back text : Bytes) → SplitsAt 9 rest front back → text ≡ unescape front → line_fields rest ≡ text ∷ line_fields back
first_field rest front back text s is =
    ap line_fields s.whole ∙ ap (map unescape) (slice_split_at (λ c. eqb c 9) front 9 back s.first refl) ∙ ap (λ t. t ∷ line_fields back) (sym is)

-- a line without TAB is one field
pub only_field : (rest text : Bytes) → Lacks 9 rest → text ≡ unescape rest → line_fields rest ≡ text ∷ []
only_field rest text lacks is = ap (map unescape) (slice_split_none (λ c. eqb c 9) rest lacks) ∙ ap (λ t. t ∷ []) (sym is)

is_empty-map : {A B : Type 0} (f : A → B) (xs : List A) → 0 < length xs → is_empty (map f xs) ≡ false
is_empty-map f [] some = absurd (omega arith)
is_empty-map f (x ∷ xs) some = refl

-- a line has a field
pub is_empty-line_fields : (line : Bytes) → is_empty (line_fields line) ≡ false
is_empty-line_fields line = is_empty-map unescape (pieces 9 line) (omega (arith, length-slice_split (λ c. eqb c 9) line))
