use Rattle.std.proofs.Common.{◌≡◌, drop}
use Rattle.da_tables.specs.Hits.{newest}
use Rattle.da_tables.specs.Hits.{newest_among}
use Rattle.da_tables.specs.RecordedAnswers.{key_of}
use Rattle.da_answers.proofs.hits.newest.Given as goal

abbrev pub invariant-loop-number : goal.invariant-loop-number
invariant-loop-number l = newest_among l.tables (key_of l.question) (drop l.number-index l.tables.cacheable) ≡ newest l.tables (key_of l.question)
