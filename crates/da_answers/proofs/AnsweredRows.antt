-- Queries that are answered in place.
use Rattle.std.proofs.Common.{◌≡◌, ◌∙◌, ap, subst, ℕ, Bool, List, Option, Some}
use Rattle.std.proofs.lemmas.Option.{same_Some}
use Rattle.da_base.specs.Words.{nth}
use Rattle.da_fields.specs.declared.answer.Answer.{Answer}
use Rattle.da_settings.specs.declared.settings.Settings.{Settings}
use Rattle.da_tables.specs.declared.queries.QueryRow.{QueryRow}
use Rattle.da_request.specs.declared.request.Request.{Request}
use Rattle.da_tables.specs.Bridges.{answered_with}
use Rattle.da_tables.specs.RecordedAnswers.{answered_by, compared_by}
use Rattle.da_tables.specs.Queries.{with_comparison}

abbrev pub IsOwnTest : Settings → List Request → Answer → Option Bool → QueryRow → Type 0
IsOwnTest settings rs answer comparison a = (comparisons : List Bool) → with_comparison comparison comparisons ≡ compared_by settings (nth rs a.request) a.question answer comparisons

-- a query with what its own use found
pub answered-alike : (settings : Settings) (moment : ℕ) (answer : Answer) (comparison : Option Bool) (rs : List Request) (qs : List QueryRow) (number : ℕ) (a b : QueryRow) →
    Some b ≡ nth qs number → nth qs number ≡ Some a → IsOwnTest settings rs answer comparison b →
    answered_with moment comparison answer a ≡ answered_by settings moment (nth rs a.request) answer a
answered-alike settings moment answer comparison rs qs number a b there here own =
    ap with_tests (subst (λ (q : QueryRow). IsOwnTest settings rs answer comparison q) (same_Some b a (there ∙ here)) own a.comparisons)
  where
    with_tests : List Bool → QueryRow
    with_tests comparisons = record a { answer = Some (answer, moment); comparisons = comparisons }
