-- The table of the whole document: its keys in their order, each with its range and what stands where it is missing.
use Rattle.std.specs.Prelude.{◌≡◌, ℕ, ◌<◌, ◌≤◌, ◌^◌, true, List, [], ◌∷◌, length, Option, Some, None, Result, Ok, if◌then◌else◌, IfSome, nat_le, codes}
use Rattle.da_base.specs.Words.{Bytes}
use Rattle.da_settings.specs.SettingsRanges.{is_host, are_name_characters, is_ascii, are_distinct, first_conflict}
use Rattle.da_settings.specs.DefaultSettings.{default_username_chars}
use Rattle.da_settings.specs.declared.settings.Settings.{Settings}
use Rattle.da_passdb.specs.LoginChain.{are_valid_passdbs}
use Rattle.da_userdb.specs.UserChain.{are_valid_userdbs}
use Rattle.da_config.specs.declared.fault.Fault.{Fault}
use Rattle.da_config.specs.declared.groups.NameSettings.{NameSettings}
use Rattle.da_config.specs.declared.groups.Durations.{Durations}
use Rattle.da_config.specs.declared.groups.Workers.{Workers}
use Rattle.da_config.specs.declared.groups.Limits.{Limits}
use Rattle.da_config.specs.declared.groups.Databases.{Databases}
use Rattle.da_config.specs.Reading.{◌>>=◌, in_range, passing}
use Rattle.da_config.specs.Parts.{TomlTable, place, known_of, number_of, flag_of, text_of, texts_of, tables_of}
use Rattle.da_config.specs.Mechanisms.{mechanisms_of}
use Rattle.da_config.specs.Databases.{passdbs_of, userdbs_of, unconflicted}

abbrev pub server_keys : List Bytes
server_keys =
    codes "server_pid" ∷ codes "host" ∷ codes "mechanisms" ∷ codes "username_chars" ∷ codes "username_lower"
    ∷ codes "master_separator" ∷ codes "failure_delay" ∷ codes "cache_size" ∷ codes "cache_ttl"
    ∷ codes "cache_negative_ttl" ∷ codes "query_limit" ∷ codes "request_limit" ∷ codes "workers"
    ∷ codes "worker_command" ∷ codes "client_socket" ∷ codes "master_socket" ∷ codes "history_entries" ∷ codes "history_bytes"
    ∷ codes "connections" ∷ codes "passdb" ∷ codes "userdb" ∷ []

-- ---- names

abbrev pub host_of : TomlTable → Result Bytes Fault
host_of part =
    text_of part (codes "host") (codes "localhost") >>= (λ text. passing (place part (codes "host")) (is_host text) text)

abbrev pub username_chars_of : TomlTable → Result Bytes Fault
username_chars_of part =
    text_of part (codes "username_chars") default_username_chars
    >>= (λ text. passing (place part (codes "username_chars")) (are_name_characters text) text)

-- no separator for an empty text, and else its one ASCII character
abbrev pub separator_in : Bytes → Option (Option ℕ)
separator_in [] = Some None
separator_in (c ∷ []) = if is_ascii c then Some (Some c) else None
separator_in (c ∷ d ∷ cs) = None

abbrev pub separator_of : TomlTable → Result (Option ℕ) Fault
separator_of part =
    text_of part (codes "master_separator") [] >>= (λ text. in_range (place part (codes "master_separator")) (separator_in text))

abbrev pub names_of : TomlTable → Result NameSettings Fault
names_of part =
    number_of part (codes "server_pid") 0 4294967295 1 >>= (λ server_pid.
    host_of part >>= (λ host.
    mechanisms_of part >>= (λ mechanisms.
    username_chars_of part >>= (λ username_chars.
    flag_of part (codes "username_lower") true >>= (λ username_lower.
    separator_of part >>= (λ master_separator.
    Ok (record {
      server_pid = server_pid;
      host = host;
      mechanisms = mechanisms;
      username_chars = username_chars;
      username_lower = username_lower;
      master_separator = master_separator;
    })))))))

pub record NamesFit (n : NameSettings) : Type 0 where
  pub server_pid : n.server_pid < 2 ^ 32
  pub host : is_host n.host ≡ true
  pub mechanisms : (1 ≤ length n.mechanisms) × (are_distinct n.mechanisms ≡ true)
  pub username_chars : are_name_characters n.username_chars ≡ true
  pub master_separator : IfSome n.master_separator (λ c. is_ascii c ≡ true)

-- ---- spans of time, and the cache

abbrev pub spans_of : TomlTable → Result Durations Fault
spans_of part =
    number_of part (codes "failure_delay") 0 60000 2000 >>= (λ failure_delay.
    number_of part (codes "cache_size") 0 100000 0 >>= (λ cache_size.
    number_of part (codes "cache_ttl") 0 86400000 3600000 >>= (λ cache_ttl.
    number_of part (codes "cache_negative_ttl") 0 86400000 3600000 >>= (λ cache_negative_ttl.
    number_of part (codes "query_limit") 1 600000 60000 >>= (λ query_limit.
    number_of part (codes "request_limit") 1 600000 150000 >>= (λ request_limit.
    Ok (record {
      failure_delay = failure_delay;
      cache_size = cache_size;
      cache_ttl = cache_ttl;
      cache_negative_ttl = cache_negative_ttl;
      query_limit = query_limit;
      request_limit = request_limit;
    })))))))

pub record SpansFit (s : Durations) : Type 0 where
  pub failure_delay : s.failure_delay ≤ 60000
  pub cache_size : s.cache_size ≤ 100000
  pub cache_ttl : s.cache_ttl ≤ 86400000
  pub cache_negative_ttl : s.cache_negative_ttl ≤ 86400000
  pub query_limit : (1 ≤ s.query_limit) × (s.query_limit ≤ 600000)
  pub request_limit : (1 ≤ s.request_limit) × (s.request_limit ≤ 600000)

-- ---- workers and sockets

abbrev pub command_of : TomlTable → Result (List Bytes) Fault
command_of part =
    texts_of part (codes "worker_command") []
    >>= (λ texts. passing (place part (codes "worker_command")) (nat_le (length texts) 16) texts)

abbrev pub workers_of : TomlTable → Result Workers Fault
workers_of part =
    number_of part (codes "workers") 1 64 2 >>= (λ workers.
    command_of part >>= (λ worker_command.
    text_of part (codes "client_socket") (codes "client.sock") >>= (λ client_socket.
    text_of part (codes "master_socket") (codes "master.sock") >>= (λ master_socket.
    Ok (record {
      workers = workers;
      worker_command = worker_command;
      client_socket = client_socket;
      master_socket = master_socket;
    })))))

pub record WorkersFit (w : Workers) : Type 0 where
  pub workers : (1 ≤ w.workers) × (w.workers ≤ 64)
  pub worker_command : length w.worker_command ≤ 16

-- ---- limits

abbrev pub limits_of : TomlTable → Result Limits Fault
limits_of part =
    number_of part (codes "history_entries") 1 500000 500000 >>= (λ history_entries.
    number_of part (codes "history_bytes") 1 268435456 268435456 >>= (λ history_bytes.
    number_of part (codes "connections") 1 1000 1000 >>= (λ connections.
    Ok (record { history_entries = history_entries; history_bytes = history_bytes; connections = connections }))))

pub record LimitsFit (l : Limits) : Type 0 where
  pub history_entries : (1 ≤ l.history_entries) × (l.history_entries ≤ 500000)
  pub history_bytes : (1 ≤ l.history_bytes) × (l.history_bytes ≤ 268435456)
  pub connections : (1 ≤ l.connections) × (l.connections ≤ 1000)

-- ---- databases

-- the tables are looked at only once both keys have the right kind and number of them, and conflicts come last
abbrev pub databases_of : TomlTable → Result Databases Fault
databases_of part =
    tables_of part (codes "passdb") 1 >>= (λ password_tables.
    tables_of part (codes "userdb") 0 >>= (λ user_tables.
    passdbs_of password_tables >>= (λ passdb.
    userdbs_of user_tables >>= (λ userdb.
    unconflicted passdb >>= (λ free.
    Ok (record { passdb = passdb; userdb = userdb }))))))

pub record DatabasesFit (d : Databases) : Type 0 where
  pub passdb : (1 ≤ length d.passdb) × (length d.passdb ≤ 16)
  pub passdb_valid : are_valid_passdbs d.passdb ≡ true
  pub passdb_free : first_conflict d.passdb ≡ None
  pub userdb : length d.userdb ≤ 16
  pub userdb_valid : are_valid_userdbs d.userdb ≡ true

-- ---- the whole table

abbrev pub settings_in : TomlTable → Result Settings Fault
settings_in part =
    known_of part server_keys >>= (λ known.
    names_of part >>= (λ names.
    spans_of part >>= (λ spans.
    workers_of part >>= (λ workers.
    limits_of part >>= (λ limits.
    databases_of part >>= (λ databases.
    Ok (record {
      server_pid = names.server_pid;
      host = names.host;
      mechanisms = names.mechanisms;
      username_chars = names.username_chars;
      username_lower = names.username_lower;
      master_separator = names.master_separator;
      failure_delay = spans.failure_delay;
      cache_size = spans.cache_size;
      cache_ttl = spans.cache_ttl;
      cache_negative_ttl = spans.cache_negative_ttl;
      query_limit = spans.query_limit;
      request_limit = spans.request_limit;
      workers = workers.workers;
      worker_command = workers.worker_command;
      client_socket = workers.client_socket;
      master_socket = workers.master_socket;
      history_entries = limits.history_entries;
      history_bytes = limits.history_bytes;
      connections = limits.connections;
      passdb = databases.passdb;
      userdb = databases.userdb;
    })))))))
