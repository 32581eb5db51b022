-- The commands by name.
use Rattle.std.specs.Prelude.{List, [], ◌∷◌, find, Option, None, bytes_eq, codes}
use Rattle.da_base.specs.Words.{Bytes}
use Rattle.da_command.specs.declared.commands.Command.{Command}
use Rattle.da_command.specs.declared.commands.Command.TheVariants.{Drive, Check, Worker, Pw, Serve}

abbrev pub command_name : Command → Bytes
command_name Drive = codes "drive"
command_name Check = codes "check"
command_name Worker = codes "worker"
command_name Pw = codes "pw"
command_name Serve = codes "serve"

abbrev pub commands : List Command
commands = Drive ∷ Check ∷ Worker ∷ Pw ∷ Serve ∷ []

-- the command of a name; None exactly where none has that name
abbrev pub command_named : Bytes → Option Command
command_named name = find (λ command. bytes_eq name (command_name command)) commands

-- the command that the first word names
abbrev pub command_of : List Bytes → Option Command
command_of [] = None
command_of (name ∷ values) = command_named name
