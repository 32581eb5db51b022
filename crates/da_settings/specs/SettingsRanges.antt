-- The settings of a server, and which of them a server may have.
use Rattle.std.specs.Prelude.{◌≡◌, ℕ, ◌<◌, ◌≤◌, ◌^◌, Bool, true, false, ◌&&◌, ◌||◌, not, List, [], ◌∷◌, length, Option, Some, None, IfSome, if◌then◌else◌, nat_le, nat_lt, ◌==◌, bytes_eq}
use Rattle.std.specs.List.{list_all}
use Rattle.da_base.specs.Words.{Bytes}
use Rattle.da_msgs.specs.declared.kinds.Mech.{Mech}
use Rattle.da_msgs.specs.Replies.{mechanism_name}
use Rattle.da_passdb.specs.declared.database.Driver.{Driver}
use Rattle.da_passdb.specs.declared.database.Driver.TheVariants.{PasswdFile, Worker, Checkpassword}
use Rattle.da_passdb.specs.declared.database.Passdb.{Passdb}
use Rattle.da_passdb.specs.LoginChain.{are_valid_passdbs}
use Rattle.da_userdb.specs.declared.database.Userdb.{Userdb}
use Rattle.da_userdb.specs.UserChain.{are_valid_userdbs}

-- what settings say: spans are in milliseconds, and a separator is a character's number
pub record SettingValues : Type 0 where
  pub server_pid : ℕ
  pub host : Bytes
  pub mechanisms : List Mech
  pub username_chars : Bytes
  pub username_lower : Bool
  pub master_separator : Option ℕ
  pub failure_delay : ℕ
  pub cache_size : ℕ
  pub cache_ttl : ℕ
  pub cache_negative_ttl : ℕ
  pub query_limit : ℕ
  pub request_limit : ℕ
  pub workers : ℕ
  pub worker_command : List Bytes
  pub client_socket : Bytes
  pub master_socket : Bytes
  pub history_entries : ℕ
  pub history_bytes : ℕ
  pub connections : ℕ
  pub passdb : List Passdb
  pub userdb : List Userdb

-- ---- texts and lists

-- printable ASCII without the blank, the angle brackets and the at sign
abbrev pub is_host_character : ℕ → Bool
is_host_character c = nat_le 33 c && nat_le c 126 && not (c == 60) && not (c == 62) && not (c == 64)

-- the name of a host: 1 to 255 such characters
abbrev pub is_host : Bytes → Bool
is_host text = nat_le 1 (length text) && nat_le (length text) 255 && list_all is_host_character text

abbrev pub is_ascii : ℕ → Bool
is_ascii c = nat_lt c 128

-- 1 to 255 ASCII characters
abbrev pub are_name_characters : Bytes → Bool
are_name_characters text = nat_le 1 (length text) && nat_le (length text) 255 && list_all is_ascii text

-- the mechanism is among these
abbrev pub has_mechanism : Mech → List Mech → Bool
has_mechanism mech [] = false
has_mechanism mech (m ∷ mechs) = bytes_eq (mechanism_name mech) (mechanism_name m) || has_mechanism mech mechs

-- none comes twice
abbrev pub are_distinct : List Mech → Bool
are_distinct [] = true
are_distinct (m ∷ mechs) = not (has_mechanism m mechs) && are_distinct mechs

-- ---- conflicts

abbrev pub is_checkpassword : Driver → Bool
is_checkpassword PasswdFile = false
is_checkpassword Worker = false
is_checkpassword Checkpassword = true

-- a database that refuses whom it knows authenticates no masters, and must be able to tell whom it knows without a
-- password
abbrev pub has_conflict : Passdb → Bool
has_conflict db = db.deny && (db.master || is_checkpassword db.driver)

-- the first database whose values conflict
abbrev pub first_conflict : List Passdb → Option Passdb
first_conflict [] = None
first_conflict (db ∷ dbs) = if has_conflict db then Some db else first_conflict dbs

-- ---- ranges

-- each value is in its range, the lists of databases are valid, and no two values conflict
pub record AreInRange (s : SettingValues) : Type 0 where
  pub server_pid : s.server_pid < 2 ^ 32
  pub host : is_host s.host ≡ true
  pub mechanisms : (1 ≤ length s.mechanisms) × (are_distinct s.mechanisms ≡ true)
  pub username_chars : are_name_characters s.username_chars ≡ true
  pub master_separator : IfSome s.master_separator (λ c. is_ascii c ≡ true)
  pub failure_delay : s.failure_delay ≤ 60000
  pub cache_size : s.cache_size ≤ 100000
  pub cache_ttl : s.cache_ttl ≤ 86400000
  pub cache_negative_ttl : s.cache_negative_ttl ≤ 86400000
  pub query_limit : (1 ≤ s.query_limit) × (s.query_limit ≤ 600000)
  pub request_limit : (1 ≤ s.request_limit) × (s.request_limit ≤ 600000)
  pub workers : (1 ≤ s.workers) × (s.workers ≤ 64)
  pub worker_command : length s.worker_command ≤ 16
  pub history_entries : (1 ≤ s.history_entries) × (s.history_entries ≤ 500000)
  pub history_bytes : (1 ≤ s.history_bytes) × (s.history_bytes ≤ 268435456)
  pub connections : (1 ≤ s.connections) × (s.connections ≤ 1000)
  pub passdb : (1 ≤ length s.passdb) × (length s.passdb ≤ 16)
  pub passdb_valid : are_valid_passdbs s.passdb ≡ true
  pub passdb_free : first_conflict s.passdb ≡ None
  pub userdb : length s.userdb ≤ 16
  pub userdb_valid : are_valid_userdbs s.userdb ≡ true
