-- The calls that were made on a form in memory, and those of them that failed.
use Rattle.std.specs.Prelude.{ℕ, ◌+◌, ◌-◌, ◌^◌, min, Bool, List, if◌then◌else◌, ◌==◌}
use Rattle.std.specs.List.{list_any}

-- How many calls were made, the numbers of those that fail, counted from 1, and how many failed.
pub record Counts : Type 0 where
  pub made : ℕ
  pub fail : List ℕ
  pub faults : ℕ

-- one more, up to the last value
abbrev pub one_more : ℕ → ℕ
one_more n = min (n + 1) (2 ^ 64 - 1)

-- no call was made
abbrev pub no_calls : List ℕ → Counts
no_calls fail = record { made = 0; fail = fail; faults = 0 }

-- whether the next call is one of those that fail
abbrev pub fails_next : Counts → Bool
fails_next calls = list_any (λ number. number == one_more calls.made) calls.fail

-- one more call was made, and it failed or not
abbrev pub called : Counts → Bool → Counts
called calls failed = record { made = one_more calls.made; fail = calls.fail; faults = if failed then one_more calls.faults else calls.faults }

-- a fault came
abbrev pub faulted : Counts → Counts
faulted calls = record { made = calls.made; fail = calls.fail; faults = one_more calls.faults }
