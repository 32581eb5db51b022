use Rattle.std.proofs.Common.{◌≡◌, length, drop}
use Rattle.da_base.specs.Words.{pieces}
use Rattle.da_names.specs.Filters.{filter_matches}
use Rattle.da_names.proofs.FilterWords.{takes}
use Rattle.da_names.proofs.filters.filter_matches.Given as goal

abbrev pub invariant-loop-word : goal.invariant-loop-word
invariant-loop-word l = takes l.is_wanted l.is_found l.name (drop (length l.yielded) (pieces 32 l.filter)) ≡ filter_matches l.filter l.name
