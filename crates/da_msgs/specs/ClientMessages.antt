-- Which message a line of a client spells.
use Rattle.std.specs.Prelude.{ℕ, ◌&&◌, not, List, [], ◌∷◌, Option, Some, None, option_map, option_and_then, if◌then◌else◌, bytes_eq, codes, is_some}
use Rattle.da_base.specs.Words.{Bytes, after_front, is_empty, number, option_or_else}
use Rattle.da_tabline.specs.Escapes.{line_fields}
use Rattle.da_fields.specs.FieldList.{Pairs, field, with_field, text_key, text_value}
use Rattle.da_msgs.specs.Lines.{fits_a_line}
use Rattle.da_msgs.specs.declared.client.ClientMsg.{ClientMsg}
use Rattle.da_msgs.specs.declared.client.ClientMsg.TheVariants.{Version, Pid, Auth, Cont, Cancel, Other}

-- two numbers, and whatever follows them
abbrev pub version_of : List Bytes → Option (ℕ × ℕ)
version_of (major ∷ minor ∷ rest) = option_and_then (λ a. option_map (λ b. (a, b)) (number minor)) (number major)
version_of _ = None

abbrev pub one_number : List Bytes → Option ℕ
one_number (n ∷ []) = number n
one_number _ = None

-- what the parameters give after those found so far: them, of equal names the last, and the text of resp=, which ends them
abbrev pub parameters_of : List Bytes → Pairs → Option (Pairs × Option Bytes)
parameters_of [] found = Some (found, None)
parameters_of (p ∷ ps) found =
    let rest = parameters_of ps (with_field (text_key p) (text_value p) found) in
    option_or_else (after_front (codes "resp=") p) (if is_empty (text_key p) then None else rest) (λ text. Some (found, Some text))

abbrev pub auth_with : ℕ → Bytes → Option (Pairs × Option Bytes) → Option ClientMsg
auth_with id mechanism None = None
auth_with id mechanism (Some found) =
    if is_some (field (codes "service") found.0) && not (is_empty mechanism) then Some (Auth id mechanism found.0 found.1) else None

abbrev pub auth_of : List Bytes → Option ClientMsg
auth_of (id ∷ mechanism ∷ parameters) = option_and_then (λ n. auth_with n mechanism (parameters_of parameters [])) (number id)
auth_of _ = None

abbrev pub cont_of : List Bytes → Option ClientMsg
cont_of (id ∷ text ∷ []) = option_map (λ n. Cont n text) (number id)
cont_of _ = None

abbrev pub client_message_of : List Bytes → Option ClientMsg
client_message_of [] = None
client_message_of (word ∷ rest) =
    if bytes_eq word (codes "VERSION") then option_map (λ v. Version v.0 v.1) (version_of rest)
    else if bytes_eq word (codes "CPID") then option_map (λ n. Pid n) (one_number rest)
    else if bytes_eq word (codes "AUTH") then auth_of rest
    else if bytes_eq word (codes "CONT") then cont_of rest
    else if bytes_eq word (codes "CANCEL") then option_map (λ n. Cancel n) (one_number rest)
    else Some Other

-- the message that a client's line spells
unfoldable pub client_message : Bytes → Option ClientMsg
client_message line = if fits_a_line line then client_message_of (line_fields line) else None
