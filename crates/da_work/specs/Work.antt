-- What `run_worker` does, by its words, its file and its input.
use Rattle.std.specs.Prelude.{◌≡◌, ⊤, ◌⊎◌, List, [], map, Option, Some, None, Ok}
use Rattle.da_base.specs.Words.{Bytes}
use Rattle.da_outside.specs.Files.{File, FilesState, bytes_at}
use Rattle.da_outside.specs.Outside.{Outside}
use Rattle.da_passdb.specs.declared.database.Passdb.{Passdb}
use Rattle.da_passdb.specs.declared.database.Driver.{Driver}
use Rattle.da_passdb.specs.declared.database.Driver.TheVariants.{PasswdFile, Worker, Checkpassword}
use Rattle.da_userdb.specs.declared.database.Userdb.{Userdb}
use Rattle.da_userdb.specs.declared.database.UserDriver.{UserDriver}
use Rattle.da_userdb.specs.declared.database.UserDriver.TheVariants.{PasswdFile as UserPasswdFile, Worker as UserWorker, Prefetch}
use Rattle.da_settings.specs.declared.settings.Settings.{Settings}
use Rattle.da_config.specs.SettingsText.{settings_of}
use Rattle.da_worker.specs.declared.worker.WorkerStatus.{WorkerStatus}
use Rattle.da_worker.specs.declared.worker.WorkerStatus.TheVariants.{Done as WorkDone, BadInput as BadLine, LongInput, ReadFault as WorkReadFault, WriteFault as WorkWriteFault, NoMemory as WorkNoMemory}
use Rattle.da_worker.specs.Run.{Ran, IsGood}
use Rattle.da_command.specs.declared.status.Status.{Status}
use Rattle.da_command.specs.declared.status.Status.TheVariants.{Done, LongScript, BadInput, NoMemory, ReadFault, WriteFault}
use Rattle.da_command.specs.SettingsFile.{HoldsSettings, PathFails}
use Rattle.da_command.specs.Statuses.{IsDone}
use Rattle.da_command.specs.Words.{worker_path}
use Rattle.da_command.specs.CommandRuns.{RunsAtPath}

-- ---- the databases' files

-- the path of a passwd-file; a database of another driver has none
abbrev pub pass_path_of : Driver → Bytes → Bytes
pass_path_of PasswdFile args = args
pass_path_of Worker args = []
pass_path_of Checkpassword args = []

abbrev pub user_path_of : UserDriver → Bytes → Bytes
user_path_of UserPasswdFile args = args
user_path_of UserWorker args = []
user_path_of Prefetch args = []

abbrev pub pass_path : Passdb → Bytes
pass_path db = pass_path_of db.driver db.args

abbrev pub user_path : Userdb → Bytes
user_path db = user_path_of db.driver db.args

-- one text for each password database, in order
abbrev pub pass_paths : Settings → List Bytes
pass_paths settings = map pass_path settings.passdb

-- one text for each user database, in order
abbrev pub user_paths : Settings → List Bytes
user_paths settings = map user_path settings.userdb

-- ---- the run

-- the status of a command whose worker ended so
abbrev pub status_of_end : WorkerStatus → Status
status_of_end WorkDone = Done
status_of_end (BadLine line) = BadInput
status_of_end LongInput = LongScript
status_of_end WorkReadFault = ReadFault
status_of_end WorkWriteFault = WriteFault
status_of_end WorkNoMemory = NoMemory

-- A worker ran over the passwd-files of these settings, and the status tells its end; or memory was wanted before, and
-- nothing was read or written.
pub record RanOver (settings : Settings) (before after : Outside) (status : Status) : Type 0 where
  pub end : WorkerStatus
  pub is_status : status ≡ status_of_end end
  pub ran : Ran (pass_paths settings) (user_paths settings) before after end

abbrev pub WorksOver : Settings → Outside → Outside → Status → Type 0
WorksOver settings before after status = RanOver settings before after status ⊎ ((status ≡ NoMemory) × (after ≡ before))

-- the file at PATH was read and its text is settings, and then a worker ran over their passwd-files
pub record WorksWith (path : Bytes) (before after : Outside) (status : Status) : Type 0 where
  pub settings : Settings
  pub files : FilesState
  pub holds : HoldsSettings path before.files files settings
  pub ran : RanOver settings (record before { files = files }) after status

-- the whole of it, by the path; none where the words are off their form
abbrev pub Works : Option Bytes → Outside → Outside → Status → Type 0
Works path before after status = RunsAtPath WorksWith path before after status

-- ---- completeness

-- a file with settings that can be read, an input whose lines are all queries, and no fault of source or sink; a
-- passwd-file may fail
pub record IsGoodWork (path : Bytes) (before after : Outside) : Type 0 where
  pub files : List File
  pub held : before.files.held ≡ Some files
  pub settings : Settings
  pub is_settings : settings_of (bytes_at files path) ≡ Ok settings
  pub is_good : IsGood before after
  pub path_sound : PathFails path before.files after.files → ⊥

-- then the run is done, or wants memory
abbrev pub CompletesWork : Option Bytes → Outside → Outside → Status → Type 0
CompletesWork None before after status = ⊤
CompletesWork (Some path) before after status = IsGoodWork path before after → IsDone status

-- the whole of it, by the words
pub record RunsWorker (words : List Bytes) (before after : Outside) (status : Status) : Type 0 where
  pub works : Works (worker_path words) before after status
  pub complete : CompletesWork (worker_path words) before after status
