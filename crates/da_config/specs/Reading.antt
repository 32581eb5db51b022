-- What a reader of settings finds: a value, or the first fault.
use Rattle.std.specs.Prelude.{◌≡◌, ⊤, Bool, Option, Some, None, Result, Ok, Err, if◌then◌else◌}
use Rattle.da_base.specs.Words.{Bytes}
use Rattle.da_config.specs.declared.fault.Fault.{Fault}
use Rattle.da_config.specs.declared.fault.FaultKind.{FaultKind}
use Rattle.da_config.specs.declared.fault.FaultKind.TheVariants.{Range}
use Rattle.da_config.specs.declared.fault.ConfigFault.{ConfigFault}
use Rattle.da_config.specs.declared.fault.ConfigFault.TheVariants.{Bad, NoMemory}

abbrev pub fault_at : Bytes → FaultKind → Fault
fault_at place what = record { place = place; kind = what }

-- what is found after this was found; a fault that comes first is told
infixl 10 ◌>>=◌
abbrev pub ◌>>=◌ : {A B : Type 0} → Result A Fault → (A → Result B Fault) → Result B Fault
Ok x >>= f = f x
Err fault >>= f = Err fault

-- the value, or a range fault where there is none
abbrev pub in_range : {A : Type 0} → Bytes → Option A → Result A Fault
in_range place (Some x) = Ok x
in_range place None = Err (fault_at place Range)

-- the value, where it passes
abbrev pub passing : {A : Type 0} → Bytes → Bool → A → Result A Fault
passing place passes x = if passes then Ok x else Err (fault_at place Range)

-- a reader answers what is found, where `view` is what its value stands for; want of memory may stand in its place
abbrev pub IsReadBy : {A C : Type 0} → (C → A) → Result A Fault → Result C ConfigFault → Type 0
IsReadBy view found (Ok value) = found ≡ Ok (view value)
IsReadBy view found (Err (Bad fault)) = found ≡ Err fault
IsReadBy view found (Err NoMemory) = ⊤

abbrev pub IsRead : {A : Type 0} → Result A Fault → Result A ConfigFault → Type 0
IsRead found (Ok value) = found ≡ Ok value
IsRead found (Err (Bad fault)) = found ≡ Err fault
IsRead found (Err NoMemory) = ⊤

-- a fault that is told; want of memory may stand in its place
abbrev pub IsTold : Fault → ConfigFault → Type 0
IsTold fault (Bad reported) = reported ≡ fault
IsTold fault NoMemory = ⊤
