-- What files hold and tell, and what a read of one gives.
use Rattle.std.specs.Prelude.{ℕ, ◌<◌, ◌≤◌, ◌≡◌, ⊤, List, [], ◌∷◌, ◌++◌, map, length, Option, None, Some, Result, Ok, Err, IfSome, Vec, option_map, unwrap_or, bytes_eq, if◌then◌else◌}
use Rattle.std.specs.declared.alloc.Global.{Global}
use Rattle.da_outside.specs.declared.faults.GetFault.{GetFault}
use Rattle.da_outside.specs.declared.faults.GetFault.TheVariants.{Failed, Long, NoMemory}
use Rattle.da_outside.specs.declared.files.FileRead.{FileRead}
use Rattle.std.specs.Option.{option_map_or}
use Rattle.da_outside.specs.declared.faults.Got.{Got}
use Rattle.da_outside.specs.declared.faults.Got.TheVariants.{Fault}
use Rattle.da_outside.specs.Calls.{Counts, called, fails_next}
use Rattle.da_outside.specs.Got.{got_of, got_within, is_fault}

-- a file is its path and its bytes
abbrev pub File : Type 0
File = List ℕ × List ℕ

-- the bytes of the first file of this path
abbrev pub file_at : List File → List ℕ → Option (List ℕ)
file_at [] path = None
file_at (file ∷ files) path = if bytes_eq file.0 path then Some file.1 else file_at files path

-- the bytes at this path, none where no file has it
abbrev pub bytes_at : List File → List ℕ → List ℕ
bytes_at files path = unwrap_or (file_at files path) []

-- Where the files are told, a read gives the bytes at its path, or `Long` where they are more than max.
abbrev pub ReadGives : Option (List File) → List ℕ → ℕ → Result (Vec ℕ Global) GetFault → Type 0
ReadGives held path max (Ok bytes) = (length bytes.items ≤ max) × IfSome held (λ files. bytes.items ≡ bytes_at files path)
ReadGives held path max (Err Long) = IfSome held (λ files. max < length (bytes_at files path))
ReadGives held path max (Err Failed) = ⊤
ReadGives held path max (Err NoMemory) = ⊤

-- What files tell at one moment: the files that they hold, of equal paths the first, the reads made, oldest first, where
-- they tell these, and how often they failed.
pub record FilesState : Type 0 where
  pub held : Option (List File)
  pub past : Option (List FileRead)
  pub faults : ℕ

-- what the past keeps of a read
abbrev pub file_read : List ℕ → Result (Vec ℕ Global) GetFault → Option FileRead
file_read path result = option_map (λ got. record { path = path; got = got }) (got_of result)

-- ---- files in memory

-- the paths and the bytes of a list of files
abbrev pub files_of : List (Vec ℕ Global × Vec ℕ Global) → List File
files_of files = map (λ file. (file.0.items, file.1.items)) files

-- the files that are held, the reads made, and their calls
pub record MemFilesState : Type 0 where
  pub held : List File
  pub past : List FileRead
  pub calls : Counts

-- what such files tell
abbrev pub mem_files : MemFilesState → FilesState
mem_files files = record { held = Some files.held; past = Some files.past; faults = files.calls.faults }

-- what the next read gives: a fault where the call is one of those that fail, and where no file has the path
abbrev pub mem_read : MemFilesState → List ℕ → ℕ → Got
mem_read files path max = if fails_next files.calls then Fault else option_map_or (got_within max) (file_at files.held path) Fault

-- the files after a read that gave this
abbrev pub after_read : MemFilesState → List ℕ → Got → MemFilesState
after_read files path got = record { held = files.held; past = files.past ++ record { path = path; got = got } ∷ []; calls = called files.calls (is_fault got) }
