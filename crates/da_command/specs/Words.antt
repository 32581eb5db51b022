-- The words of a command line, after the program's name.
use Rattle.std.specs.Prelude.{Bool, false, ◌&&◌, not, List, [], ◌∷◌, Option, Some, None, if◌then◌else◌, ◌==◌, bytes_eq, codes}
use Rattle.da_base.specs.Words.{Bytes}

-- a word may be a value: it isn't empty, and doesn't begin with `-`
abbrev pub is_value : Bytes → Bool
is_value [] = false
is_value (c ∷ cs) = not (c == 45)

-- PATH, where this is the command's name and PATH may be a value
abbrev pub path_of : Bytes → Bytes → Bytes → Option Bytes
path_of name command path = if bytes_eq command name && is_value path then Some path else None

-- PATH, where the words are the command's name and PATH
abbrev pub command_path : Bytes → List Bytes → Option Bytes
command_path name (command ∷ path ∷ []) = path_of name command path
command_path name _ = None

abbrev pub drive_path : List Bytes → Option Bytes
drive_path = command_path (codes "drive")

abbrev pub check_path : List Bytes → Option Bytes
check_path = command_path (codes "check")

abbrev pub worker_path : List Bytes → Option Bytes
worker_path = command_path (codes "worker")
