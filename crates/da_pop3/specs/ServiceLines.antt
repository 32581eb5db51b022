-- The lines that the auth service and its master side send, cut at TAB and unescaped.
use Rattle.std.specs.Prelude.{ℕ, Bool, false, ◌&&◌, ◌||◌, List, [], ◌∷◌, length, Option, None, option_map, if◌then◌else◌, ◌==◌, nat_le, bytes_eq, codes, is_some}
use Rattle.std.specs.Char.{is_ascii_digit}
use Rattle.std.specs.List.{list_all}
use Rattle.da_base.specs.Words.{Bytes, is_empty, number}
use Rattle.da_fields.specs.FieldList.{Pairs, field, with_field, text_key, text_value}
use Rattle.da_pop3.specs.declared.service.Opening.{Opening}
use Rattle.da_pop3.specs.declared.service.Opening.TheVariants.{Cookie, Mechanism, Done, Other}
use Rattle.da_pop3.specs.declared.service.Reply.{Reply}
use Rattle.da_pop3.specs.declared.service.Reply.TheVariants.{Challenge, Success, Refusal}
use Rattle.da_pop3.specs.declared.service.Failure.{Failure}
use Rattle.da_pop3.specs.declared.service.Failure.TheVariants.{Credentials, Temporary}
use Rattle.da_pop3.specs.declared.service.Lookup.{Lookup}
use Rattle.da_pop3.specs.declared.service.Lookup.TheVariants.{Found, Missing}

-- ---- on opening

-- `VERSION`, 1 and a number
abbrev pub is_version : List Bytes → Bool
is_version (word ∷ major ∷ minor ∷ []) = bytes_eq word (codes "VERSION") && bytes_eq major (codes "1") && is_some (number minor)
is_version _ = false

-- `SPID` and a number
abbrev pub is_server : List Bytes → Bool
is_server (word ∷ pid ∷ []) = bytes_eq word (codes "SPID") && is_some (number pid)
is_server _ = false

-- a lower-case hexadecimal digit
abbrev pub is_cookie_digit : ℕ → Bool
is_cookie_digit c = is_ascii_digit c || (nat_le 97 c && nat_le c 102)

abbrev pub is_cookie : Bytes → Bool
is_cookie digits = (length digits == 32) && list_all is_cookie_digit digits

abbrev pub cookie_of : List Bytes → Opening
cookie_of (digits ∷ []) = if is_cookie digits then Cookie digits else Other
cookie_of _ = Other

-- a name, and whatever follows it
abbrev pub mechanism_of : List Bytes → Opening
mechanism_of [] = Other
mechanism_of (name ∷ rest) = if is_empty name then Other else Mechanism name

abbrev pub done_of : List Bytes → Opening
done_of [] = Done
done_of (more ∷ rest) = Other

-- what a line of the auth service's opening says
abbrev pub opening_of : List Bytes → Opening
opening_of [] = Other
opening_of (word ∷ rest) =
    if bytes_eq word (codes "COOKIE") then cookie_of rest
    else if bytes_eq word (codes "MECH") then mechanism_of rest
    else if bytes_eq word (codes "DONE") then done_of rest
    else Other

-- ---- replies of the auth service

-- what these fields give after those found so far: each is `key` or `key=value`, and of equal keys the last holds
abbrev pub pairs_from : List Bytes → Pairs → Pairs
pairs_from [] found = found
pairs_from (text ∷ texts) found = pairs_from texts (with_field (text_key text) (text_value text) found)

abbrev pub pairs_of : List Bytes → Pairs
pairs_of texts = pairs_from texts []

-- a failure that is no fault of the client's has the field `temp`
abbrev pub failure_in : Pairs → Failure
failure_in pairs = if is_some (field (codes "temp") pairs) then Temporary else Credentials

abbrev pub challenge_of : List Bytes → Option Reply
challenge_of (id ∷ text ∷ []) = option_map (λ n. Challenge n text) (number id)
challenge_of _ = None

-- an id and fields, the last message in `resp` among them
abbrev pub success_of : List Bytes → Option Reply
success_of [] = None
success_of (id ∷ rest) = option_map (λ n. Success n (field (codes "resp") (pairs_of rest))) (number id)

abbrev pub refusal_of : List Bytes → Option Reply
refusal_of [] = None
refusal_of (id ∷ rest) = option_map (λ n. Refusal n (failure_in (pairs_of rest))) (number id)

-- what a line of the auth service says of a request
abbrev pub reply_of : List Bytes → Option Reply
reply_of [] = None
reply_of (word ∷ rest) =
    if bytes_eq word (codes "CONT") then challenge_of rest
    else if bytes_eq word (codes "OK") then success_of rest
    else if bytes_eq word (codes "FAIL") then refusal_of rest
    else None

-- ---- replies of the master side

-- an id, a user and the user's fields
abbrev pub found_of : List Bytes → Option Lookup
found_of (id ∷ user ∷ rest) = option_map (λ n. Found n user (pairs_of rest)) (number id)
found_of _ = None

-- an id, and whatever follows it
abbrev pub missing_of : List Bytes → Option Lookup
missing_of [] = None
missing_of (id ∷ rest) = option_map (λ n. Missing n) (number id)

-- what a line of the master side says of a request
abbrev pub lookup_of : List Bytes → Option Lookup
lookup_of [] = None
lookup_of (word ∷ rest) =
    if bytes_eq word (codes "USER") then found_of rest
    else if bytes_eq word (codes "NOTFOUND") || bytes_eq word (codes "FAIL") then missing_of rest
    else None
