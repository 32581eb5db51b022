-- The databases of a server, each a table of its own.
use Rattle.std.specs.Prelude.{◌≡◌, ⊤, ℕ, suc, Bool, true, false, ◌&&◌, List, [], ◌∷◌, ◌++◌, Option, Some, None, Result, Ok, Err, if◌then◌else◌, is_none, is_some, codes, decimal}
use Rattle.da_base.specs.Words.{Bytes, after_byte}
use Rattle.da_fields.specs.FieldList.{Pairs, field, with_field, text_key, text_value}
use Rattle.da_fields.specs.declared.outcome.Rule.{Rule}
use Rattle.da_settings.specs.SettingsRanges.{first_conflict}
use Rattle.da_settings.specs.DefaultSettings.{default_passdb}
use Rattle.da_names.specs.Templates.{is_template_field}
use Rattle.da_passdb.specs.LoginChain.{is_valid_passdb}
use Rattle.da_passdb.specs.declared.database.Driver.{Driver}
use Rattle.da_passdb.specs.declared.database.Passdb.{Passdb}
use Rattle.da_passdb.specs.declared.database.Skip.{Skip}
use Rattle.da_schemes.specs.Scheme.{scheme_named}
use Rattle.da_schemes.specs.declared.scheme.Scheme.{Scheme}
use Rattle.da_userdb.specs.UserChain.{is_valid_userdb}
use Rattle.da_userdb.specs.declared.database.UserDriver.{UserDriver}
use Rattle.da_userdb.specs.declared.database.UserSkip.{UserSkip}
use Rattle.da_userdb.specs.declared.database.Userdb.{Userdb}
use Rattle.toml.specs.Data.{Items, Members}
use Rattle.da_config.specs.declared.fault.Fault.{Fault}
use Rattle.da_config.specs.declared.fault.FaultKind.TheVariants.{Conflict}
use Rattle.da_config.specs.declared.fields.AddedFields.{AddedFields}
use Rattle.da_config.specs.declared.rules.Rules.{Rules}
use Rattle.da_config.specs.Reading.{◌>>=◌, fault_at, in_range}
use Rattle.da_config.specs.Parts.{TomlTable, place, known_of, flag_of, text_of, needed_of, texts_of, tables_in}
use Rattle.da_config.specs.Choices.{rule_called, driver_called, skip_called, user_driver_called, user_skip_called}

-- how the places in a database's table begin: the name of the array, and the number of the table, counted from 1
abbrev pub front : Bytes → ℕ → Bytes
front array number = array ++ codes "[" ++ decimal number ++ codes "]."

-- the databases of these tables, numbered from here on, each as `one` says
abbrev pub databases_from : {A : Type 0} → (ℕ → Members → Result A Fault) → ℕ → List Members → Result (List A) Fault
databases_from one number [] = Ok []
databases_from one number (members ∷ tables) =
    one number members >>= (λ db. databases_from one (suc number) tables >>= (λ dbs. Ok (db ∷ dbs)))

-- the databases, of which each fits its number, from this number on
abbrev pub Fit : {A : Type 0} → (ℕ → A → Type 0) → ℕ → List A → Type 0
Fit fits number [] = ⊤
Fit fits number (db ∷ dbs) = fits number db × Fit fits (suc number) dbs

-- ---- fields, each written as a key, an equals sign and a template

-- there is an equals sign, and what stands around it is a key that isn't empty and a template
abbrev pub is_field_text : Bytes → Bool
is_field_text text = is_some (after_byte 61 text) && is_template_field (text_key text, text_value text)

-- the key and the template of such a text
pub record IsFieldOf (text key value : Bytes) : Type 0 where
  pub is_text : is_field_text text ≡ true
  pub key_is : text_key text ≡ key
  pub value_is : text_value text ≡ value
  pub is_field : is_template_field (key, value) ≡ true

-- the fields with those that the texts write, each under a key that isn't there yet
abbrev pub fields_after : Pairs → List Bytes → Option Pairs
fields_after fields [] = Some fields
fields_after fields (text ∷ texts) =
    if is_field_text text && is_none (field (text_key text) fields)
    then fields_after (with_field (text_key text) (text_value text) fields) texts else None

abbrev pub fields_of : TomlTable → Bytes → Result Pairs Fault
fields_of part key = texts_of part key [] >>= (λ texts. in_range (place part key) (fields_after [] texts))

-- the fields that a database adds
abbrev pub added_fields_of : TomlTable → Result AddedFields Fault
added_fields_of part =
    fields_of part (codes "default_fields") >>= (λ defaults.
    fields_of part (codes "override_fields") >>= (λ overrides.
    Ok (record { defaults = defaults; overrides = overrides })))

-- ---- choices

abbrev pub rule_of : TomlTable → Bytes → Bytes → Result Rule Fault
rule_of part key default = text_of part key default >>= (λ text. in_range (place part key) (rule_called text))

-- the rules of a database
abbrev pub rules_of : TomlTable → Result Rules Fault
rules_of part =
    rule_of part (codes "result_success") (codes "return-ok") >>= (λ success.
    rule_of part (codes "result_failure") (codes "continue") >>= (λ failure.
    rule_of part (codes "result_internalfail") (codes "continue") >>= (λ internalfail.
    Ok (record { success = success; failure = failure; internalfail = internalfail }))))

abbrev pub driver_of : TomlTable → Result Driver Fault
driver_of part = needed_of part (codes "driver") >>= (λ text. in_range (place part (codes "driver")) (driver_called text))

abbrev pub skip_of : TomlTable → Result Skip Fault
skip_of part = text_of part (codes "skip") (codes "never") >>= (λ text. in_range (place part (codes "skip")) (skip_called text))

abbrev pub scheme_of : TomlTable → Result Scheme Fault
scheme_of part =
    text_of part (codes "default_scheme") (codes "PLAIN")
    >>= (λ text. in_range (place part (codes "default_scheme")) (scheme_named text))

abbrev pub user_driver_of : TomlTable → Result UserDriver Fault
user_driver_of part =
    needed_of part (codes "driver") >>= (λ text. in_range (place part (codes "driver")) (user_driver_called text))

abbrev pub user_skip_of : TomlTable → Result UserSkip Fault
user_skip_of part =
    text_of part (codes "skip") (codes "never") >>= (λ text. in_range (place part (codes "skip")) (user_skip_called text))

-- ---- password databases

abbrev pub passdb_keys : List Bytes
passdb_keys =
    codes "driver" ∷ codes "args" ∷ codes "deny" ∷ codes "master" ∷ codes "skip" ∷ codes "result_success"
    ∷ codes "result_failure" ∷ codes "result_internalfail" ∷ codes "default_scheme" ∷ codes "username_filter"
    ∷ codes "default_fields" ∷ codes "override_fields" ∷ []

-- the database of this number
abbrev pub passdb_of : ℕ → TomlTable → Result Passdb Fault
passdb_of number part =
    known_of part passdb_keys >>= (λ known.
    driver_of part >>= (λ driver.
    text_of part (codes "args") [] >>= (λ args.
    flag_of part (codes "deny") false >>= (λ deny.
    flag_of part (codes "master") false >>= (λ master.
    skip_of part >>= (λ skip.
    rules_of part >>= (λ rules.
    scheme_of part >>= (λ scheme.
    text_of part (codes "username_filter") [] >>= (λ filter.
    added_fields_of part >>= (λ fields.
    Ok (record {
      number = number;
      driver = driver;
      args = args;
      deny = deny;
      master = master;
      skip = skip;
      result_success = rules.success;
      result_failure = rules.failure;
      result_internalfail = rules.internalfail;
      default_scheme = scheme;
      username_filter = filter;
      default_fields = fields.defaults;
      override_fields = fields.overrides;
    })))))))))))

abbrev pub passdb_in : ℕ → Members → Result Passdb Fault
passdb_in number members = passdb_of number (record { front = front (codes "passdb") number; members = members })

-- it has this number, and keys and templates that fit
abbrev pub FitsPassdb : ℕ → Passdb → Type 0
FitsPassdb number db = (db.number ≡ number) × (is_valid_passdb db ≡ true)

-- without a table, workers answer
abbrev pub passdbs_of : Option Items → Result (List Passdb) Fault
passdbs_of None = Ok (default_passdb 1 ∷ [])
passdbs_of (Some items) = databases_from passdb_in 1 (tables_in items)

abbrev pub conflict_at : ℕ → Fault
conflict_at number = fault_at (front (codes "passdb") number ++ codes "deny") Conflict

abbrev pub without_conflict : List Passdb → Option Passdb → Result (List Passdb) Fault
without_conflict dbs None = Ok dbs
without_conflict dbs (Some db) = Err (conflict_at db.number)

-- the databases, where no two values of one conflict
abbrev pub unconflicted : List Passdb → Result (List Passdb) Fault
unconflicted dbs = without_conflict dbs (first_conflict dbs)

-- ---- user databases

abbrev pub userdb_keys : List Bytes
userdb_keys =
    codes "driver" ∷ codes "args" ∷ codes "skip" ∷ codes "result_success" ∷ codes "result_failure"
    ∷ codes "result_internalfail" ∷ codes "default_fields" ∷ codes "override_fields" ∷ []

-- the database of this number
abbrev pub userdb_of : ℕ → TomlTable → Result Userdb Fault
userdb_of number part =
    known_of part userdb_keys >>= (λ known.
    user_driver_of part >>= (λ driver.
    text_of part (codes "args") [] >>= (λ args.
    user_skip_of part >>= (λ skip.
    rules_of part >>= (λ rules.
    added_fields_of part >>= (λ fields.
    Ok (record {
      number = number;
      driver = driver;
      args = args;
      skip = skip;
      result_success = rules.success;
      result_failure = rules.failure;
      result_internalfail = rules.internalfail;
      default_fields = fields.defaults;
      override_fields = fields.overrides;
    })))))))

abbrev pub userdb_in : ℕ → Members → Result Userdb Fault
userdb_in number members = userdb_of number (record { front = front (codes "userdb") number; members = members })

-- it has this number, and keys and templates that fit
abbrev pub FitsUserdb : ℕ → Userdb → Type 0
FitsUserdb number db = (db.number ≡ number) × (is_valid_userdb db ≡ true)

abbrev pub userdbs_of : Option Items → Result (List Userdb) Fault
userdbs_of None = Ok []
userdbs_of (Some items) = databases_from userdb_in 1 (tables_in items)
