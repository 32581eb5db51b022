-- How many answers say that a worker died, against the faults that were counted.
use Rattle.std.specs.Prelude.{◌≤◌, ◌⊎◌, ℕ, ◌+◌, ◌-◌, ◌^◌, Bool, true, false, List}
use Rattle.da_base.specs.Words.{count_where}
use Rattle.da_fields.specs.declared.answer.Answer.{Answer}
use Rattle.da_fields.specs.declared.answer.Answer.TheVariants.{Found, Passed, Mismatch, Unknown, Internal}
use Rattle.da_fields.specs.declared.answer.Why.TheVariants.{Died, Malformed, Said, Late, Exit}
use Rattle.da_play.specs.declared.input.Entry.{Entry}
use Rattle.da_play.specs.declared.input.Input.{Input}
use Rattle.da_play.specs.declared.input.Input.TheVariants.{Answered, Broken, Gone, Late as LateInput, Line, Opened, Take, Tick}

-- the answer says that the worker, or the program, died
abbrev pub is_death : Answer → Bool
is_death (Internal Died) = true
is_death (Internal Malformed) = false
is_death (Internal Said) = false
is_death (Internal Late) = false
is_death (Internal (Exit status)) = false
is_death (Found stored fields) = false
is_death (Passed fields) = false
is_death Mismatch = false
is_death Unknown = false

abbrev pub records_death : Input → Bool
records_death (Answered query answer) = is_death answer
records_death (Opened kind random) = false
records_death (Line conn text random) = false
records_death (Broken conn) = false
records_death (Gone conn) = false
records_death Take = false
records_death (LateInput query) = false
records_death Tick = false

-- how many of these entries record such an answer
abbrev pub deaths : List (ℕ × Entry) → ℕ
deaths entries = count_where (λ numbered. records_death numbered.1.input) entries

-- a count of faults stands at its last value, so that further faults aren't seen in it
abbrev pub IsAtLast : ℕ → Type 0
IsAtLast faults = 2 ^ 64 - 1 ≤ faults

-- Where the deaths rise from d to d', one spawner's faults from s to s' and one runner's from r to r', the deaths rise by at
-- most as much as the faults together, unless a count of faults stands at its last value.
abbrev pub AreDeathsFew : ℕ → ℕ → ℕ → ℕ → ℕ → ℕ → Type 0
AreDeathsFew d d' s s' r r' = (d' + s + r ≤ d + s' + r') ⊎ IsAtLast s' ⊎ IsAtLast r'
