use Rattle.std.proofs.Common.{◌≡◌, drop}
use Rattle.da_tables.specs.RecordedAnswers.{asks_same}
use Rattle.da_base.specs.Words.{number_where}
use Rattle.da_tables.proofs.Rows.{further_by}
use Rattle.da_answers.proofs.lost.first_asked.Given as goal

abbrev pub invariant-loop-other : goal.invariant-loop-other
invariant-loop-other l = record {
  number : number_where (asks_same l.query_row) l.queries ≡ further_by l.other-index (number_where (asks_same l.query_row) (drop l.other-index l.queries));
  counted : l.before ≡ l.other-index;
}
