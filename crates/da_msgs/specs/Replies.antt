-- The lines that the service sends.
use Rattle.std.specs.Prelude.{ℕ, List, [], ◌∷◌, ◌++◌, map, Option, Some, None, option_map, bytes_eq, codes, decimal, if◌then◌else◌}
use Rattle.da_base.specs.Words.{Bytes, upper}
use Rattle.da_fields.specs.FieldList.{visible, field_text}
use Rattle.da_tabline.specs.Escapes.{spelled}
use Rattle.da_msgs.specs.Lines.{optional_field, flag}
use Rattle.da_msgs.specs.declared.code.Code.{Code}
use Rattle.da_msgs.specs.declared.code.Code.TheVariants.{Temp, Disabled, Expired, Timeout, Protocol, Authz, Credentials}
use Rattle.da_msgs.specs.declared.kinds.ConnKind.{ConnKind}
use Rattle.da_msgs.specs.declared.kinds.ConnKind.TheVariants.{Client, Master}
use Rattle.da_msgs.specs.declared.kinds.Mech.{Mech}
use Rattle.da_msgs.specs.declared.kinds.Mech.TheVariants.{Plain, Login, CramMd5, ScramSha256}
use Rattle.da_msgs.specs.declared.client.Reply.{Reply}
use Rattle.da_msgs.specs.declared.client.Reply.TheVariants.{Cont, Ok as Okay, Fail as Failed}
use Rattle.da_msgs.specs.declared.master.MasterReply.{MasterReply}
use Rattle.da_msgs.specs.declared.master.MasterReply.TheVariants.{User, NotFound, Fail as LookupFailed}

-- ---- mechanisms

abbrev pub mechanism_name : Mech → Bytes
mechanism_name Plain = codes "PLAIN"
mechanism_name Login = codes "LOGIN"
mechanism_name CramMd5 = codes "CRAM-MD5"
mechanism_name ScramSha256 = codes "SCRAM-SHA-256"

abbrev pub mechanism_flags : Mech → List Bytes
mechanism_flags Plain = codes "plaintext" ∷ []
mechanism_flags Login = codes "plaintext" ∷ []
mechanism_flags CramMd5 = codes "dictionary" ∷ codes "active" ∷ []
mechanism_flags ScramSha256 = codes "mutual-auth" ∷ []

-- the first mechanism of this name, without regard to case
abbrev pub mechanism_named : Bytes → List Mech → Option Mech
mechanism_named name [] = None
mechanism_named name (m ∷ ms) = if bytes_eq (map upper name) (mechanism_name m) then Some m else mechanism_named name ms

-- ---- on opening

abbrev pub mechanism_line : Mech → Bytes
mechanism_line m = spelled (codes "MECH" ∷ mechanism_name m ∷ mechanism_flags m)

-- the minor version: that to a client has the codes of failures
abbrev pub minor_version : ConnKind → Bytes
minor_version Client = codes "2"
minor_version Master = codes "1"

abbrev pub version_line : ConnKind → Bytes
version_line kind = spelled (codes "VERSION" ∷ codes "1" ∷ minor_version kind ∷ [])

abbrev pub server_line : ℕ → Bytes
server_line pid = spelled (codes "SPID" ∷ decimal pid ∷ [])

-- the lines that open a connection: its number, and its cookie in hexadecimal digits
unfoldable pub greeting : ConnKind → List Mech → ℕ → ℕ → Bytes → List Bytes
greeting Client mechanisms pid number cookie =
    version_line Client ∷ (map mechanism_line mechanisms
    ++ (server_line pid ∷ spelled (codes "CUID" ∷ decimal number ∷ []) ∷ spelled (codes "COOKIE" ∷ cookie ∷ []) ∷ codes "DONE" ∷ []))
greeting Master mechanisms pid number cookie = version_line Master ∷ server_line pid ∷ []

-- ---- replies

-- the word of a failure's code
abbrev pub code_word : Code → Bytes
code_word Temp = codes "temp"
code_word Disabled = codes "disabled"
code_word Expired = codes "expired"
code_word Timeout = codes "timeout"
code_word Protocol = codes "protocol"
code_word Authz = codes "authz"
code_word Credentials = codes "credentials"

-- the line of a reply to a client
unfoldable pub reply_line : Reply → Bytes
reply_line (Cont id text) = spelled (codes "CONT" ∷ decimal id ∷ text ∷ [])
reply_line (Okay id user fields last) =
    spelled (codes "OK" ∷ decimal id ∷ field_text (codes "user", user) ∷ (map field_text (visible fields) ++ optional_field (codes "resp") last))
reply_line (Failed id user authz temp disabled code reason) =
    spelled (codes "FAIL" ∷ decimal id
    ∷ (optional_field (codes "user") user ++ flag authz (codes "authz") ++ flag temp (codes "temp") ++ flag disabled (codes "user_disabled")
    ++ optional_field (codes "code") (option_map code_word code) ++ optional_field (codes "reason") reason))

-- the line of a reply to a master
unfoldable pub master_reply_line : MasterReply → Bytes
master_reply_line (User id user fields) = spelled (codes "USER" ∷ decimal id ∷ user ∷ map field_text fields)
master_reply_line (NotFound id) = spelled (codes "NOTFOUND" ∷ decimal id ∷ [])
master_reply_line (LookupFailed id) = spelled (codes "FAIL" ∷ decimal id ∷ codes "temp" ∷ [])
