-- Bridges: what the code makes of a line before it changes the tables. Only the code cites them.
use Rattle.std.specs.Prelude.{ℕ}
use Rattle.da_base.specs.Words.{Bytes}
use Rattle.da_lines.specs.Lines.{after_client_message, after_master_message}
use Rattle.da_lines.specs.declared.lines.LineMeaning.{LineMeaning}
use Rattle.da_lines.specs.declared.lines.LineMeaning.TheVariants.{Client as ClientMessage, Closes, Master as MasterMessage, Ignored}
use Rattle.da_settings.specs.declared.settings.Settings.{Settings}
use Rattle.da_tables.specs.Tables.{AfterInput, closing, continuing_none}
use Rattle.da_tables.specs.declared.tables.Tables.{Tables}

-- what a line does, once it is known what that is
abbrev pub after_meaning : Settings → ℕ → ℕ → Bytes → LineMeaning → Tables → AfterInput
after_meaning settings moment conn random Ignored tables = continuing_none tables
after_meaning settings moment conn random Closes tables = closing conn tables
after_meaning settings moment conn random (ClientMessage message) tables = after_client_message settings moment conn random message tables
after_meaning settings moment conn random (MasterMessage message) tables = after_master_message settings moment conn random message tables
