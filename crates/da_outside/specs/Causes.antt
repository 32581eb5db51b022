-- When a call to the outside may answer that it failed.
use Rattle.std.specs.Prelude.{◌≡◌, ℕ, ◌+◌, ◌-◌, ◌^◌, ◌≤◌, min, Result, OnErr, IsErrOf}
use Rattle.da_outside.specs.declared.faults.GetFault.{GetFault}
use Rattle.da_outside.specs.declared.faults.GetFault.TheVariants.{Failed, NoMemory}

-- a count of faults went up, or stands at its last value
abbrev pub Rose : ℕ → ℕ → Type 0
Rose before now = min (before + 1) (2 ^ 64 - 1) ≤ now

-- the count never falls, and an error is told only where it rose
pub record HasCause {T E : Type 0} (before now : ℕ) (result : Result T E) : Type 0 where
  pub later : before ≤ now
  pub failed : OnErr result (Rose before now)

-- the count never falls, `Failed` is told only where it rose, and want of memory leaves it
pub record HasGetCause {T : Type 0} (before now : ℕ) (result : Result T GetFault) : Type 0 where
  pub later : before ≤ now
  pub failed : IsErrOf result Failed → Rose before now
  pub wanted : IsErrOf result NoMemory → now ≡ before
