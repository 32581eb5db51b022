-- A command that runs under the settings at a path, by its status.
use Rattle.std.proofs.Common.{Some, Err, inl}
use Rattle.da_base.specs.Words.{Bytes}
use Rattle.da_outside.specs.Outside.{Outside, IsUntouched}
use Rattle.da_command.specs.declared.status.Status.{Status}
use Rattle.da_command.specs.declared.status.Status.TheVariants.{Done, Usage, BadScript, LongScript, BadInput, NoSettings, NoListen, NoMemory, ReadFault, WriteFault, Full, BadSettings}
use Rattle.da_command.specs.SettingsFile.{ReadsSettings}
use Rattle.da_command.specs.CommandRuns.{RunsAtPath}

-- no settings were read, and nothing of the input was read and nothing written
pub unread : (Runs : Bytes → Outside → Outside → Status → Type 0) (path : Bytes) (before after : Outside) (status : Status)
    → ReadsSettings path before.files after.files (Err status) → IsUntouched before after → RunsAtPath Runs (Some path) before after status
unread Runs path before after NoSettings read same = (read, same)
unread Runs path before after (BadSettings fault) read same = (read, same)
unread Runs path before after NoMemory read same = inl (read, same)
unread Runs path before after Done read same = absurd read
unread Runs path before after Usage read same = absurd read
unread Runs path before after (BadScript line) read same = absurd read
unread Runs path before after LongScript read same = absurd read
unread Runs path before after BadInput read same = absurd read
unread Runs path before after NoListen read same = absurd read
unread Runs path before after ReadFault read same = absurd read
unread Runs path before after WriteFault read same = absurd read
unread Runs path before after Full read same = absurd read
