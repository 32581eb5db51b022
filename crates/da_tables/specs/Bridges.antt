-- Bridges: words for the functions that change the tables in place. Only the code cites them.
use Rattle.std.specs.Prelude.{ℕ, Bool, Option, Some}
use Rattle.da_fields.specs.declared.answer.Answer.{Answer}
use Rattle.da_tables.specs.Queries.{with_comparison}
use Rattle.da_tables.specs.Tables.{AfterInput}
use Rattle.da_tables.specs.declared.input_effect.InputEffect.{InputEffect}
use Rattle.da_tables.specs.declared.queries.QueryRow.{QueryRow}
use Rattle.da_tables.specs.declared.tables.Tables.{Tables}

-- what an input did, with the tables after it
abbrev pub with_effect : Tables → InputEffect → AfterInput
with_effect tables reported = record { tables = tables; continued = reported.continued; closed = reported.closed }

-- the answer stands with its query, and so does what its use found
abbrev pub answered_with : ℕ → Option Bool → Answer → QueryRow → QueryRow
answered_with moment comparison answer a = record a { answer = Some (answer, moment); comparisons = with_comparison comparison a.comparisons }
