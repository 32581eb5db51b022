-- Laws on plays.
use Rattle.std.specs.Prelude.{◌≡◌, List, []}
use Rattle.da_play.specs.Legal.{IsLegal}
use Rattle.da_play.specs.Play.{Event, events_of, played}
use Rattle.da_play.specs.declared.input.Entry.{Entry}
use Rattle.da_settings.specs.declared.settings.Settings.{Settings}

-- the history that a play makes is legal
abbrev pub PlaysAreLegal : Type 0
PlaysAreLegal = (settings : Settings) (events : List Event) → IsLegal settings (played settings [] events)

-- a legal history is the one that its own events play
abbrev pub LegalIsPlayed : Type 0
LegalIsPlayed = (settings : Settings) (h : List Entry) → IsLegal settings h → played settings [] (events_of h) ≡ h
