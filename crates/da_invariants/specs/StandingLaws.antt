-- Laws on what stays as it is, whatever comes later.
use Rattle.std.specs.Prelude.{◌≡◌, ℕ, true, List, ◌++◌, Some, is_some}
use Rattle.da_base.specs.Words.{nth}
use Rattle.da_play.specs.History.{tables_of}
use Rattle.da_play.specs.declared.input.Entry.{Entry}
use Rattle.da_request.specs.Requests.{decision}
use Rattle.da_request.specs.declared.request.Request.{Request}
use Rattle.da_settings.specs.declared.settings.Settings.{Settings}
use Rattle.da_tables.specs.Connections.{is_used}
use Rattle.da_steps.specs.Standing.{TablesStand}

-- what is ended, cancelled, decided, replied, granted, taken or answered stays so
abbrev pub WhatIsDoneStands : Type 0
WhatIsDoneStands = (settings : Settings) (newer h : List Entry) → TablesStand (tables_of settings h) (tables_of settings (newer ++ h))

-- a login that served a request of a master is used for ever
abbrev pub UsedStaysUsed : Type 0
UsedStaysUsed = (settings : Settings) (newer h : List Entry) (n : ℕ) → is_used (tables_of settings h) n ≡ true → is_used (tables_of settings (newer ++ h)) n ≡ true

-- the decision of a request that is decided doesn't change
abbrev pub DecisionsStand : Type 0
DecisionsStand =
    (settings : Settings) (newer h : List Entry) (n : ℕ) (r : Request) → nth (tables_of settings h).requests n ≡ Some r → is_some r.decided ≡ true →
    (s : Request) × (nth (tables_of settings (newer ++ h)).requests n ≡ Some s) × (decision settings s ≡ decision settings r)
