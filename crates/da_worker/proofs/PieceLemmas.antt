-- Lemmas on the pieces of a text, and on the line of a user.
use Rattle.std.proofs.Common.{◌≡◌, ℕ, true, false, [], ◌∷◌, Some, None, cond, eqb, refl, ap, ◌∙◌}
use Rattle.std.proofs.lemmas.Bool.{eq-eqb}
use Rattle.std.proofs.lemmas.List.Splits.{slice_split_none, slice_split_at}
use Rattle.da_base.specs.Words.{Bytes, pieces}
use Rattle.da_tabline.specs.Parts.{Lacks, SplitsAt}
use Rattle.da_worker.specs.Passwd.{is_line_of, first_line_of, user_line}

pub pieces_at : (byte : ℕ) (text front back : Bytes) → SplitsAt byte text front back → pieces byte text ≡ front ∷ pieces byte back
pieces_at byte text front back split =
    ap (pieces byte) split.whole ∙ slice_split_at (λ c. eqb c byte) front byte back split.first (eq-eqb byte byte refl)

pub pieces_none : (byte : ℕ) (text : Bytes) → Lacks byte text → pieces byte text ≡ text ∷ []
pieces_none byte text lacks = slice_split_none (λ c. eqb c byte) text lacks

-- the first line is the user's
pub user_line_found : (user file line more : Bytes) → SplitsAt 10 file line more → is_line_of user line ≡ true → user_line user file ≡ Some line
user_line_found user file line more split e =
    ap (first_line_of user) (pieces_at 10 file line more split) ∙ ap (λ b. cond b (Some line) (first_line_of user (pieces 10 more))) e

-- the first line is another user's
pub user_line_passed : (user file line more : Bytes) → SplitsAt 10 file line more → is_line_of user line ≡ false → user_line user file ≡ user_line user more
user_line_passed user file line more split e =
    ap (first_line_of user) (pieces_at 10 file line more split) ∙ ap (λ b. cond b (Some line) (first_line_of user (pieces 10 more))) e

-- there is one line alone
pub user_line_last : (user line : Bytes) → Lacks 10 line → user_line user line ≡ cond (is_line_of user line) (Some line) None
user_line_last user line lacks = ap (first_line_of user) (pieces_none 10 line lacks)
