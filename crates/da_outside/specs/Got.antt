-- What is kept of a call that gives bytes.
use Rattle.std.specs.Prelude.{ℕ, List, length, Bool, true, false, nat_le, if◌then◌else◌, Option, None, Some, Result, Ok, Err, Vec}
use Rattle.std.specs.declared.alloc.Global.{Global}
use Rattle.da_outside.specs.declared.faults.GetFault.{GetFault}
use Rattle.da_outside.specs.declared.faults.GetFault.TheVariants.{Failed, Long, NoMemory}
use Rattle.da_outside.specs.declared.faults.Got.{Got}
use Rattle.da_outside.specs.declared.faults.Got.TheVariants.{Given, TooLong, Fault}

-- the answer, or nothing where the call wanted memory
abbrev pub got_of : Result (Vec ℕ Global) GetFault → Option Got
got_of (Ok bytes) = Some (Given bytes.items)
got_of (Err Long) = Some TooLong
got_of (Err Failed) = Some Fault
got_of (Err NoMemory) = None

-- these bytes, if they are at most max
abbrev pub got_within : ℕ → List ℕ → Got
got_within max bytes = if nat_le (length bytes) max then Given bytes else TooLong

abbrev pub is_fault : Got → Bool
is_fault (Given bytes) = false
is_fault TooLong = false
is_fault Fault = true
