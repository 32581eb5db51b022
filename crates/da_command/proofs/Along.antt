-- Small facts on options that every command's proof wants.
use Rattle.std.proofs.Common.{◌≡◌, List, Option, Some, None, Result, Ok}
use Rattle.std.specs.Prelude.{IfSome}
use Rattle.da_config.specs.declared.fault.Fault.{Fault}
use Rattle.da_outside.specs.Files.{File}
use Rattle.da_settings.specs.declared.settings.Settings.{Settings}

pub IfSome-map : (o : Option (List File)) (P Q : List File → Type 0) → ((files : List File) → P files → Q files) → IfSome o P → IfSome o Q
IfSome-map None P Q f some = tt
IfSome-map (Some files) P Q f some = f files some

pub ok_same : (s t : Settings) → ◌≡◌ {A = Result Settings Fault} (Ok s) (Ok t) → s ≡ t
ok_same s t e = cc
