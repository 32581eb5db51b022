-- The lines that a session sends to the auth service and to its master side.
use Rattle.std.specs.Prelude.{ℕ, [], ◌∷◌, ◌++◌, codes, decimal}
use Rattle.da_base.specs.Words.{Bytes}
use Rattle.da_tabline.specs.Escapes.{spelled}

-- a session knows no codes of failures: it says the minor version 1, to the auth service and to its master side
abbrev pub version_line : Bytes
version_line = spelled (codes "VERSION" ∷ codes "1" ∷ codes "1" ∷ [])

abbrev pub pid_line : ℕ → Bytes
pid_line pid = spelled (codes "CPID" ∷ decimal pid ∷ [])

-- an AUTH without a first message
abbrev pub auth_line : ℕ → Bytes → Bytes
auth_line id mechanism = spelled (codes "AUTH" ∷ decimal id ∷ mechanism ∷ codes "service=pop3" ∷ [])

-- an AUTH whose first message is this text in base64
abbrev pub auth_line_with : ℕ → Bytes → Bytes → Bytes
auth_line_with id mechanism text =
    spelled (codes "AUTH" ∷ decimal id ∷ mechanism ∷ codes "service=pop3" ∷ (codes "resp=" ++ text) ∷ [])

abbrev pub cont_line : ℕ → Bytes → Bytes
cont_line id text = spelled (codes "CONT" ∷ decimal id ∷ text ∷ [])

abbrev pub cancel_line : ℕ → Bytes
cancel_line id = spelled (codes "CANCEL" ∷ decimal id ∷ [])

-- asks the master side for the user of the login of this id, which this process authenticated on the connection of the cookie
abbrev pub request_line : ℕ → ℕ → Bytes → Bytes
request_line id pid cookie = spelled (codes "REQUEST" ∷ decimal id ∷ decimal pid ∷ decimal id ∷ cookie ∷ [])

-- the message of PLAIN (RFC 4616, section 2), without an authorization identity
abbrev pub plain_message : Bytes → Bytes → Bytes
plain_message name password = 0 ∷ name ++ 0 ∷ password
