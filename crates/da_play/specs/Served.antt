-- What a server stands for: its settings, its goal, and its history, the newest entry first.
use Rattle.std.specs.Prelude.{List, Option}
use Rattle.da_play.specs.declared.input.Entry.{Entry}
use Rattle.da_settings.specs.declared.settings.Goal.{Goal}
use Rattle.da_settings.specs.declared.settings.Settings.{Settings}

pub record Served : Type 0 where
  pub settings : Settings
  pub goal : Option Goal
  pub history : List Entry
