-- What of each row of the tables stays as it is.
use Rattle.std.specs.Prelude.{◌≡◌, ℕ, true, false, Some, is_some}
use Rattle.da_base.specs.Words.{nth}
use Rattle.da_fields.specs.declared.answer.Answer.{Answer}
use Rattle.da_request.specs.Requests.{is_authentication, is_granted_for}
use Rattle.da_request.specs.declared.request.Request.{Request}
use Rattle.da_tables.specs.declared.connections.Connection.{Connection}
use Rattle.da_tables.specs.declared.queries.QueryRow.{QueryRow}
use Rattle.da_tables.specs.declared.tables.Tables.{Tables}

-- a connection keeps its kind, its cookie and the version that it sent, and is never opened again
pub record ConnectionStands (c d : Connection) : Type 0 where
  pub kind : d.kind ≡ c.kind
  pub cookie : d.cookie ≡ c.cookie
  pub minor : (m : ℕ) → c.minor ≡ Some m → d.minor ≡ Some m
  pub is_ended : d.is_open ≡ true → c.is_open ≡ true

-- a request keeps its connection, its id, whether it is a client's, and its grant; what is cancelled, decided or replied stays so, and what was
-- decided stays the decision: by its limit, or by what was said and answered
pub record RequestStands (r s : Request) : Type 0 where
  pub conn : s.conn ≡ r.conn
  pub id : s.id ≡ r.id
  pub random : s.random ≡ r.random
  pub start : s.start ≡ r.start
  pub is_client : is_authentication s.body ≡ is_authentication r.body
  pub grant : (n : ℕ) → is_granted_for n s.body ≡ is_granted_for n r.body
  pub cancelled : r.is_cancelled ≡ true → s.is_cancelled ≡ true
  pub decided : (m : ℕ) → r.decided ≡ Some m → s.decided ≡ Some m
  pub replied : (m : ℕ) → r.replied ≡ Some m → s.replied ≡ Some m
  pub body : is_some r.decided ≡ true → s.body ≡ r.body
  pub timed_out : is_some r.decided ≡ true → s.is_timed_out ≡ r.is_timed_out
  pub answers : is_some r.decided ≡ true → r.is_timed_out ≡ false → s.answers ≡ r.answers

-- a query keeps its request, its question and its password; what was taken or answered stays so
pub record QueryStands (a b : QueryRow) : Type 0 where
  pub request : b.request ≡ a.request
  pub question : b.question ≡ a.question
  pub password : b.password ≡ a.password
  pub taken : (m : ℕ) → a.taken ≡ Some m → b.taken ≡ Some m
  pub answer : (p : Answer × ℕ) → a.answer ≡ Some p → b.answer ≡ Some p

-- the later tables have each row of the earlier ones, and it stands
pub record TablesStand (tables later : Tables) : Type 0 where
  pub connections : (n : ℕ) (c : Connection) → nth tables.connections n ≡ Some c → (d : Connection) × (nth later.connections n ≡ Some d) × ConnectionStands c d
  pub requests : (n : ℕ) (r : Request) → nth tables.requests n ≡ Some r → (s : Request) × (nth later.requests n ≡ Some s) × RequestStands r s
  pub queries : (n : ℕ) (a : QueryRow) → nth tables.queries n ≡ Some a → (b : QueryRow) × (nth later.queries n ≡ Some b) × QueryStands a b
