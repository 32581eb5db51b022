-- Reads of files, one after another.
use Rattle.std.specs.Prelude.{◌≡◌, ◌≤◌, ℕ, ◌+◌, ◌-◌, ◌^◌, ◌⊎◌, min, List, [], ◌∷◌, length}
use Rattle.std.specs.List.{filter}
use Rattle.da_outside.specs.declared.faults.Got.{Got}
use Rattle.da_outside.specs.declared.files.FileRead.{FileRead}
use Rattle.da_outside.specs.Files.{FilesState}
use Rattle.da_outside.specs.Got.{is_fault}
use Rattle.da_outside.specs.Past.{Gains}

-- a count of faults went up by so many, or stands at its last value
abbrev pub RoseBy : ℕ → ℕ → ℕ → Type 0
RoseBy before now n = min (before + n) (2 ^ 64 - 1) ≤ now

-- those of the reads that failed
abbrev pub failed_reads : List FileRead → List FileRead
failed_reads reads = filter (λ read. is_fault read.got) reads

-- these reads were made, in order, and the count rose by at least as many as failed
pub record ReadsFiles (before now : FilesState) (reads : List FileRead) : Type 0 where
  pub held : now.held ≡ before.held
  pub past : Gains before.past now.past reads
  pub faults : RoseBy before.faults now.faults (length (failed_reads reads))

-- the file at this path was read once, and gave this
abbrev pub ReadsFile : List ℕ → FilesState → FilesState → Got → Type 0
ReadsFile path before now got = ReadsFiles before now (record { path = path; got = got } ∷ [])

-- no file was read but the one at this path, and that at most once
abbrev pub ReadsNoOther : List ℕ → FilesState → FilesState → Type 0
ReadsNoOther path before now = ReadsFiles before now [] ⊎ ((got : Got) × ReadsFile path before now got)
