-- Which message a line of a master spells.
use Rattle.std.specs.Prelude.{ℕ, List, [], ◌∷◌, Option, Some, None, option_map, if◌then◌else◌, bytes_eq, codes}
use Rattle.da_base.specs.Words.{Bytes, number}
use Rattle.da_tabline.specs.Escapes.{line_fields}
use Rattle.da_msgs.specs.Lines.{fits_a_line}
use Rattle.da_msgs.specs.ClientMessages.{version_of}
use Rattle.da_msgs.specs.declared.master.MasterMsg.{MasterMsg}
use Rattle.da_msgs.specs.declared.master.MasterMsg.TheVariants.{Version, Request, Other}

abbrev pub request_with : Bytes → Option ℕ → Option ℕ → Option ℕ → Option MasterMsg
request_with cookie (Some id) (Some pid) (Some client) = Some (Request id pid client cookie)
request_with cookie _ _ _ = None

-- three numbers, a cookie, and whatever follows them
abbrev pub request_of : List Bytes → Option MasterMsg
request_of (id ∷ pid ∷ client ∷ cookie ∷ rest) = request_with cookie (number id) (number pid) (number client)
request_of _ = None

abbrev pub master_message_of : List Bytes → Option MasterMsg
master_message_of [] = None
master_message_of (word ∷ rest) =
    if bytes_eq word (codes "VERSION") then option_map (λ v. Version v.0 v.1) (version_of rest)
    else if bytes_eq word (codes "REQUEST") then request_of rest
    else Some Other

-- the message that a master's line spells
unfoldable pub master_message : Bytes → Option MasterMsg
master_message line = if fits_a_line line then master_message_of (line_fields line) else None
