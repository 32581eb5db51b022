-- The mechanisms of a server, by their names.
use Rattle.std.specs.Prelude.{◌&&◌, List, [], ◌∷◌, length, Option, Some, None, option_map, option_and_then, Result, if◌then◌else◌, nat_le, codes}
use Rattle.da_base.specs.Words.{Bytes}
use Rattle.da_settings.specs.SettingsRanges.{are_distinct}
use Rattle.da_msgs.specs.declared.kinds.Mech.{Mech}
use Rattle.da_config.specs.declared.fault.Fault.{Fault}
use Rattle.da_config.specs.Reading.{◌>>=◌, in_range}
use Rattle.da_config.specs.Parts.{TomlTable, place, texts_of}
use Rattle.da_config.specs.Choices.{mechanism_called}

abbrev pub mechanisms_with : Option Mech → Option (List Mech) → Option (List Mech)
mechanisms_with None mechs = None
mechanisms_with (Some mech) mechs = option_map (λ more. mech ∷ more) mechs

-- the mechanisms of these names, where each is the name of one
abbrev pub mechanisms_called : List Bytes → Option (List Mech)
mechanisms_called [] = Some []
mechanisms_called (name ∷ names) = mechanisms_with (mechanism_called name) (mechanisms_called names)

-- at least one, and none twice
abbrev pub distinct_mechanisms : List Mech → Option (List Mech)
distinct_mechanisms mechs = if nat_le 1 (length mechs) && are_distinct mechs then Some mechs else None

abbrev pub mechanisms_of : TomlTable → Result (List Mech) Fault
mechanisms_of part =
    texts_of part (codes "mechanisms") (codes "PLAIN" ∷ [])
    >>= (λ names. in_range (place part (codes "mechanisms")) (option_and_then distinct_mechanisms (mechanisms_called names)))
