-- How worked runs are written: the events that are handed in, and the replies to them.
use Rattle.std.specs.Prelude.{ℕ, List, [], ◌∷◌, ◌++◌, replicate, Some, None, Result, Ok, codes, decimal}
use Rattle.da_base.specs.Words.{Bytes}
use Rattle.da_fields.specs.declared.answer.Answer.{Answer}
use Rattle.da_fields.specs.declared.answer.QueryKind.TheVariants.{Pass, User}
use Rattle.da_msgs.specs.declared.kinds.ConnKind.{ConnKind}
use Rattle.da_msgs.specs.declared.kinds.ConnKind.TheVariants.{Client}
use Rattle.da_play.specs.Play.{Event}
use Rattle.da_play.specs.declared.input.Input.TheVariants.{Answered, Line, Opened}
use Rattle.da_play.specs.declared.outputs.Outputs.{Outputs}
use Rattle.da_play.specs.declared.outputs.Refused.{Refused}

-- ---- events, each with its moment; all random bytes are zeros

abbrev pub zeros : Bytes
zeros = replicate 16 0

-- a connection of this kind is opened
abbrev pub opened : ℕ → ConnKind → Event
opened moment kind = (moment, Opened kind zeros)

-- the connection of this number sends a line
abbrev pub line : ℕ → ℕ → Bytes → Event
line moment conn text = (moment, Line conn text zeros)

-- the query of this number is answered
abbrev pub answer : ℕ → ℕ → Answer → Event
answer moment query answered = (moment, Answered query answered)

-- the first connection is a client's, which tells its version and its process number
abbrev pub introduced : ℕ → ℕ → ℕ → List Event
introduced first second third =
    opened first Client ∷ line second 1 (codes "VERSION\t1\t1") ∷ line third 1 (codes "CPID\t4711") ∷ []

-- the first connection is that of a client that knows the codes of failures
abbrev pub introduced_with_codes : ℕ → ℕ → ℕ → List Event
introduced_with_codes first second third =
    opened first Client ∷ line second 1 (codes "VERSION\t1\t2") ∷ line third 1 (codes "CPID\t4711") ∷ []

-- a client asks for a login by the mechanism PLAIN: this is the number of its request, and the message in base64
abbrev pub plain_login : ℕ → Bytes → Bytes
plain_login id message = codes "AUTH\t" ++ decimal id ++ codes "\tPLAIN\tservice=imap\tresp=" ++ message

-- the user alice with the password pw
abbrev pub alice : Bytes
alice = codes "AGFsaWNlAHB3"

-- the user alice with the password no
abbrev pub alice_with_no : Bytes
alice_with_no = codes "AGFsaWNlAG5v"

-- the user bob with the password pw
abbrev pub bob : Bytes
bob = codes "AGJvYgBwdw=="

-- ---- replies, each with the number of its entry

abbrev pub Reply : Type 0
Reply = Result Outputs Refused

abbrev pub nothing_of : ℕ → Outputs
nothing_of entry = record { entry = entry; conn = None; query = None; hits = []; due_lines = []; lines = []; closed = None }

-- nothing is sent, handed out or closed
abbrev pub silence : ℕ → Reply
silence entry = Ok (nothing_of entry)

-- a line is sent to this connection
abbrev pub sent : ℕ → ℕ → Bytes → Reply
sent entry conn text = Ok (record (nothing_of entry) { lines = (conn, text) ∷ [] })

-- these replies were due, each to its connection
abbrev pub due : ℕ → List (ℕ × Bytes) → Reply
due entry lines = Ok (record (nothing_of entry) { due_lines = lines })

-- the answer to a query is used again, and a line is sent to this connection
abbrev pub by_hit : ℕ → ℕ → ℕ → Bytes → Reply
by_hit entry query conn text = Ok (record (nothing_of entry) { hits = query ∷ []; lines = (conn, text) ∷ [] })

-- the server closes this connection
abbrev pub closes : ℕ → ℕ → Reply
closes entry conn = Ok (record (nothing_of entry) { closed = Some conn })

-- a query of this number is handed out: this password database is asked for a user's stored password
abbrev pub asks_password : ℕ → ℕ → ℕ → Bytes → Reply
asks_password entry number db user =
    Ok (record (nothing_of entry) { query = Some (record { number = number; kind = Pass; db = db; user = user; password = None }) })

-- a query of this number is handed out: this user database is asked for a user's fields
abbrev pub asks_user : ℕ → ℕ → ℕ → Bytes → Reply
asks_user entry number db user =
    Ok (record (nothing_of entry) { query = Some (record { number = number; kind = User; db = db; user = user; password = None }) })

-- a client's connection of this number is greeted, with one mechanism
abbrev pub greets : ℕ → ℕ → Bytes → Reply
greets entry conn mechanism =
    Ok (record (nothing_of entry) {
      conn = Some conn;
      lines =
          (conn, codes "VERSION\t1\t2") ∷ (conn, codes "MECH\t" ++ mechanism) ∷ (conn, codes "SPID\t1")
          ∷ (conn, codes "CUID\t" ++ decimal conn) ∷ (conn, codes "COOKIE\t00000000000000000000000000000000") ∷ (conn, codes "DONE") ∷ [];
    })

-- a client is greeted with the mechanism PLAIN
abbrev pub greets_client : ℕ → ℕ → Reply
greets_client entry conn = greets entry conn (codes "PLAIN\tplaintext")

-- a master's connection of this number is greeted
abbrev pub greets_master : ℕ → ℕ → Reply
greets_master entry conn =
    Ok (record (nothing_of entry) { conn = Some conn; lines = (conn, codes "VERSION\t1\t1") ∷ (conn, codes "SPID\t1") ∷ [] })

-- what a client's introduction is answered
abbrev pub introductions : List Reply
introductions = greets_client 1 1 ∷ silence 2 ∷ silence 3 ∷ []
