-- What a runner tells, and what it keeps of its runs.
use Rattle.std.specs.Prelude.{ℕ, ◌≡◌, List, [], ◌∷◌, take, Option, None, Some, Result, Ok, Err, option_map}
use Rattle.da_outside.specs.declared.faults.GetFault.{GetFault}
use Rattle.da_outside.specs.declared.faults.GetFault.TheVariants.{Failed, Long, NoMemory}
use Rattle.da_outside.specs.declared.runner.Exit.{Exit}
use Rattle.da_outside.specs.declared.runner.Run.{Run}
use Rattle.da_outside.specs.Calls.{Counts}

-- at one moment: the exits to come, its runs, oldest first, where it tells these, and how often it failed
pub record RunnerState : Type 0 where
  pub left : Option (List Exit)
  pub past : Option (List Run)
  pub faults : ℕ

-- how a run ended, with no exit where it failed; nothing where the call wanted memory
abbrev pub ended : Result Exit GetFault → Option (Option Exit)
ended (Ok exit) = Some (Some exit)
ended (Err Failed) = Some None
ended (Err Long) = None
ended (Err NoMemory) = None

-- what the past keeps of a run
abbrev pub run_kept : List ℕ → List ℕ → Result Exit GetFault → Option Run
run_kept program input result = option_map (λ exit. record { program = program; input = input; exit = exit }) (ended result)

-- ---- runners in memory

-- an exit whose reply is cut
abbrev pub cut_exit : Exit → Exit
cut_exit exit = record { status = exit.status; reply = take 8194 exit.reply }

-- the exits to come, the runs made, and the calls
pub record MemRunnerState : Type 0 where
  pub left : List Exit
  pub past : List Run
  pub calls : Counts

-- what such a runner tells
abbrev pub mem_runner : MemRunnerState → RunnerState
mem_runner runner = record { left = Some runner.left; past = Some runner.past; faults = runner.calls.faults }

-- The first exit is given, cut. Where none is left the status is 0 and the reply empty.
abbrev pub SoundRuns : List Exit → List Exit → Exit → Type 0
SoundRuns [] now exit = (exit ≡ record { status = 0; reply = [] }) × (now ≡ [])
SoundRuns (first ∷ rest) now exit = (exit ≡ cut_exit first) × (now ≡ rest)
