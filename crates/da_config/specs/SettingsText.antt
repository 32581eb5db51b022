-- The settings that a text stands for (TOML, version 1.1), or its first fault.
use Rattle.std.specs.Prelude.{[], Option, Some, None, Result, Err, length, if◌then◌else◌, nat_lt, codes}
use Rattle.std.specs.Str.{is_utf8}
use Rattle.da_base.specs.Words.{Bytes}
use Rattle.da_settings.specs.declared.settings.Settings.{Settings}
use Rattle.toml.specs.Data.{Members}
use Rattle.toml.specs.Parse.{parse_document}
use Rattle.da_config.specs.declared.fault.Fault.{Fault}
use Rattle.da_config.specs.declared.fault.FaultKind.{FaultKind}
use Rattle.da_config.specs.declared.fault.FaultKind.TheVariants.{NotToml, Range}
use Rattle.da_config.specs.Reading.{fault_at}
use Rattle.da_config.specs.Servers.{settings_in}

-- a fault of the text as a whole
abbrev pub fault_at_all : FaultKind → Fault
fault_at_all what = fault_at (codes "settings") what

-- the table that a text stands for
abbrev pub document_of : Bytes → Option Members
document_of text = if is_utf8 text then parse_document text else None

abbrev pub settings_in_document : Option Members → Result Settings Fault
settings_in_document None = Err (fault_at_all NotToml)
settings_in_document (Some members) = settings_in (record { front = []; members = members })

-- a text of more than 1,048,576 bytes is out of range, before any look into it
unfoldable pub settings_of : Bytes → Result Settings Fault
settings_of text = if nat_lt 1048576 (length text) then Err (fault_at_all Range) else settings_in_document (document_of text)
