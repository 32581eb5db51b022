-- What `run_serve` does, by its words, its file and its sockets.
use Rattle.std.specs.Prelude.{◌≡◌, ◌⊎◌, ⊤, List, Option, Some, None, Ok}
use Rattle.da_base.specs.Words.{Bytes}
use Rattle.da_command.specs.ServeWords.{serve_task}
use Rattle.da_command.specs.SettingsFile.{HoldsFault, HoldsSettings, PathFails}
use Rattle.da_command.specs.declared.status.Status.{Status}
use Rattle.da_command.specs.declared.status.Status.TheVariants.{Done, Usage, NoListen, NoMemory, NoSettings, BadSettings, Full}
use Rattle.da_config.specs.SettingsText.{settings_of}
use Rattle.da_outside.specs.Causes.{Rose}
use Rattle.da_outside.specs.FileReads.{ReadsNoOther}
use Rattle.da_outside.specs.Files.{File, FilesState, bytes_at}
use Rattle.da_outside.specs.Listen.{ListenState}
use Rattle.da_outside.specs.Past.{Stays}
use Rattle.da_outside.specs.Sink.{SinkState}
use Rattle.da_play.specs.Legal.{IsLegal}
use Rattle.da_play.specs.declared.input.Entry.{Entry}
use Rattle.da_port.specs.declared.terms.Terms.{Terms}
use Rattle.da_finish.specs.Printed.{HasEnded, Prints}
use Rattle.da_settings.specs.declared.settings.Goal.{Goal}
use Rattle.da_settings.specs.declared.settings.Settings.{Settings}

-- the outside at one moment: the files that it may read, the sockets of clients and masters, and the output
pub record ServeOutside (Connection : Type 0) : Type 0 where
  pub files : FilesState
  pub clients : ListenState Connection
  pub masters : ListenState Connection
  pub output : SinkState

-- ---- a service with settings

-- a history was served and printed: it is legal under the settings, and full, or its goal was met
pub record ServesHistory (terms : Terms) (before after : SinkState) (status : Status) : Type 0 where
  pub history : List Entry
  pub legal : IsLegal terms.settings history
  pub ended : HasEnded terms history
  pub prints : Prints terms history before after status

-- A new history was served, or memory was wanted before there was one.
abbrev pub ServesNew : Settings → Option Goal → SinkState → SinkState → Status → Type 0
ServesNew settings goal before after NoMemory =
    (after ≡ before) ⊎ ServesHistory (record { settings = settings; goal = goal }) before after NoMemory
ServesNew settings goal before after status = ServesHistory (record { settings = settings; goal = goal }) before after status

module _ {C : Type 0} where
  -- ---- the sockets

  -- a bind failed: that of the clients' socket, or else that of the masters'; no connection was accepted
  abbrev pub BindFails : ListenState C → ListenState C → ListenState C → ListenState C → Type 0
  BindFails clients clients_after masters masters_after =
      Stays clients.left clients_after.left × Stays masters.left masters_after.left
      × (Rose clients.faults clients_after.faults ⊎ Rose masters.faults masters_after.faults)

  -- ---- under settings

  -- By the status.
  --   NoListen: a socket couldn't be bound, and nothing was written.
  --   NoMemory: nothing was written, or a front of the script of a history as that of Done and Full.
  --   Done, Full, WriteFault: a history was served, and its script was written, or a front of it.
  abbrev pub ServesUnder : Settings → Option Goal → ListenState C → ListenState C → ListenState C → ListenState C → SinkState → SinkState → Status → Type 0
  ServesUnder settings goal clients clients_after masters masters_after before after NoListen =
      BindFails clients clients_after masters masters_after × (after ≡ before)
  ServesUnder settings goal clients clients_after masters masters_after before after status = ServesNew settings goal before after status

  -- the file's text is settings, and the service ran under them
  pub record ServesWith (path : Bytes) (goal : Option Goal) (before after : ServeOutside C) (status : Status) : Type 0 where
    pub settings : Settings
    pub holds : HoldsSettings path before.files after.files settings
    pub serves : ServesUnder settings goal before.clients after.clients before.masters after.masters before.output after.output status

  -- no connection was accepted, no socket was bound, and nothing was written
  pub record IsUnserved (before after : ServeOutside C) : Type 0 where
    pub clients : after.clients ≡ before.clients
    pub masters : after.masters ≡ before.masters
    pub output : after.output ≡ before.output

  -- ---- the command

  -- By the words and the status. Nothing else comes.
  --   Usage: exactly where the words are off their forms; nothing is read, bound or written.
  --   NoSettings: the read of PATH failed; nothing is bound or written.
  --   BadSettings: the file's text has this fault; nothing is bound or written.
  --   NoMemory: nothing is written; or as the service says.
  --   The rest: as the service says.
  -- No file is read but the one at PATH, and that at most once.
  abbrev pub Serves : Option (Bytes × Option Goal) → ServeOutside C → ServeOutside C → Status → Type 0
  Serves None before after Usage = after ≡ before
  Serves None before after _ = ⊥
  Serves (Some task) before after Usage = ⊥
  Serves (Some task) before after NoSettings = PathFails task.0 before.files after.files × IsUnserved before after
  Serves (Some task) before after (BadSettings fault) = HoldsFault task.0 before.files after.files fault × IsUnserved before after
  Serves (Some task) before after NoMemory =
      (ReadsNoOther task.0 before.files after.files × IsUnserved before after) ⊎ ServesWith task.0 task.1 before after NoMemory
  Serves (Some task) before after status = ServesWith task.0 task.1 before after status

  -- ---- completeness

  -- a file with settings, and no fault of the files and of the output
  pub record IsGoodService (path : Bytes) (before after : ServeOutside C) : Type 0 where
    pub files : List File
    pub held : before.files.held ≡ Some files
    pub settings : Settings
    pub is_settings : settings_of (bytes_at files path) ≡ Ok settings
    pub files_sound : Rose before.files.faults after.files.faults → ⊥
    pub output_sound : Rose before.output.faults after.output.faults → ⊥

  -- the service has run to its end, or wants memory, or a bind failed
  abbrev pub IsServed : ServeOutside C → ServeOutside C → Status → Type 0
  IsServed before after Done = ⊤
  IsServed before after Full = ⊤
  IsServed before after NoMemory = ⊤
  IsServed before after NoListen = BindFails before.clients after.clients before.masters after.masters
  IsServed before after _ = ⊥

  abbrev pub CompletesServe : Option (Bytes × Option Goal) → ServeOutside C → ServeOutside C → Status → Type 0
  CompletesServe None before after status = ⊤
  CompletesServe (Some task) before after status = IsGoodService task.0 before after → IsServed before after status

  -- the whole of it, by the words
  pub record RunsServe (words : List Bytes) (before after : ServeOutside C) (status : Status) : Type 0 where
    pub serves : Serves (serve_task words) before after status
    pub complete : CompletesServe (serve_task words) before after status
