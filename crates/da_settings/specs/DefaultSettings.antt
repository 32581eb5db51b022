-- The settings of a server whose operator sets nothing but how long failures are held back.
use Rattle.std.specs.Prelude.{ℕ, true, false, [], ◌∷◌, None, codes}
use Rattle.da_base.specs.Words.{Bytes}
use Rattle.da_fields.specs.declared.outcome.Rule.TheVariants.{ReturnOk, Continue}
use Rattle.da_msgs.specs.declared.kinds.Mech.TheVariants.{Plain}
use Rattle.da_passdb.specs.declared.database.Passdb.{Passdb}
use Rattle.da_passdb.specs.declared.database.Driver.TheVariants.{Worker}
use Rattle.da_passdb.specs.declared.database.Skip.TheVariants.{Never}
use Rattle.da_schemes.specs.declared.scheme.Scheme.TheVariants.{Plain as PlainScheme}
use Rattle.da_settings.specs.declared.settings.Settings.{Settings}

-- letters, digits, the dot, the dash, the underscore and the at sign
abbrev pub default_username_chars : Bytes
default_username_chars = codes "abcdefghijklmnopqrstuvwxyzABCDEFGHIJKLMNOPQRSTUVWXYZ0123456789.-_@"

-- a password database that workers answer for
abbrev pub default_passdb : ℕ → Passdb
default_passdb number =
    record {
      number = number;
      driver = Worker;
      args = [];
      deny = false;
      master = false;
      skip = Never;
      result_success = ReturnOk;
      result_failure = Continue;
      result_internalfail = Continue;
      default_scheme = PlainScheme;
      username_filter = [];
      default_fields = [];
      override_fields = [];
    }

unfoldable pub default_settings : ℕ → Settings
default_settings failure_delay =
    record {
      server_pid = 1;
      host = codes "localhost";
      mechanisms = Plain ∷ [];
      username_chars = default_username_chars;
      username_lower = true;
      master_separator = None;
      failure_delay = failure_delay;
      cache_size = 0;
      cache_ttl = 3600000;
      cache_negative_ttl = 3600000;
      query_limit = 60000;
      request_limit = 150000;
      workers = 2;
      worker_command = [];
      client_socket = codes "client.sock";
      master_socket = codes "master.sock";
      history_entries = 500000;
      history_bytes = 268435456;
      connections = 1000;
      passdb = default_passdb 1 ∷ [];
      userdb = [];
    }
