-- What a spawner tells, and what it keeps of its starts and of the links that are handed back.
use Rattle.std.specs.Prelude.{ℕ, ◌≤◌, ◌≡◌, ◌≢◌, ⊤, List, [], ◌∷◌, ◌++◌, Option, None, Some, Result, Ok, Err, IfSome}
use Rattle.da_outside.specs.declared.faults.GetFault.{GetFault}
use Rattle.da_outside.specs.declared.faults.GetFault.TheVariants.{Failed, Long, NoMemory}
use Rattle.da_outside.specs.declared.link.Spoken.{Spoken}
use Rattle.da_outside.specs.declared.spawner.Spawned.{Spawned}
use Rattle.da_outside.specs.declared.spawner.Spawned.TheVariants.{FailedStart, HandedBack}
use Rattle.da_outside.specs.Calls.{Counts}
use Rattle.da_outside.specs.Causes.{Rose}
use Rattle.da_outside.specs.Link.{LinkState, MemLinkState, mem_link}

-- At one moment: the links to come, its failed starts and the talks of the links that came back, oldest first, where it
-- tells these, and how often it failed, or a link came back that had failed.
pub record SpawnerState (Link : Type 0) : Type 0 where
  pub left : Option (List Link)
  pub past : Option (List Spawned)
  pub faults : ℕ

-- a link without a fault or a talk so far
pub record IsFresh (link : LinkState) : Type 0 where
  pub sound : link.faults ≡ 0
  pub silent : IfSome link.talk (λ spoken. spoken ≡ [])

-- what the past keeps of a start
abbrev pub start_kept : {L : Type 0} → Result L GetFault → Option Spawned
start_kept (Ok link) = None
start_kept (Err Failed) = Some FailedStart
start_kept (Err Long) = None
start_kept (Err NoMemory) = None

-- the past, where it is told, gains the talk of the link
abbrev pub HandsBack : Option (List Spawned) → Option (List Spawned) → Option (List Spoken) → Type 0
HandsBack None now talk = ⊤
HandsBack (Some before) None talk = ⊥
HandsBack (Some before) (Some now) None = ⊥
HandsBack (Some before) (Some now) (Some talk) = now ≡ before ++ HandedBack talk ∷ []

-- the count never falls, and it rises where the link's isn't 0
pub record TakesOver (before now link : ℕ) : Type 0 where
  pub later : before ≤ now
  pub raised : link ≢ 0 → Rose before now

-- ---- spawners in memory

-- the links to come, the past, and the calls
pub record MemSpawnerState : Type 0 where
  pub left : List MemLinkState
  pub past : List Spawned
  pub calls : Counts

-- what such a spawner tells
abbrev pub mem_spawner : MemSpawnerState → SpawnerState MemLinkState
mem_spawner spawner = record { left = Some spawner.left; past = Some spawner.past; faults = spawner.calls.faults }

-- a link in memory without a fault or a talk so far
abbrev pub IsUnused : MemLinkState → Type 0
IsUnused link = IsFresh (mem_link link)

-- The first link is started. Where none is left it is one without bytes.
abbrev pub SoundStarts : List (List ℕ) → List (List ℕ) → List ℕ → Type 0
SoundStarts [] now link = (link ≡ []) × (now ≡ [])
SoundStarts (first ∷ rest) now link = (link ≡ first) × (now ≡ rest)
