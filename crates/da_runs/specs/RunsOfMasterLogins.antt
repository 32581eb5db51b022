-- Worked runs: root logs in as bob, with root's own password.
use Rattle.std.specs.Prelude.{true, List, [], ◌∷◌, ◌++◌, Some, codes}
use Rattle.da_fields.specs.declared.answer.Answer.TheVariants.{Found, Unknown}
use Rattle.da_fields.specs.declared.outcome.Rule.TheVariants.{Continue}
use Rattle.da_play.specs.Play.{Event}
use Rattle.da_play.specs.declared.input.Input.TheVariants.{Take}
use Rattle.da_runs.specs.RunWords.{Reply, answer, asks_password, introduced, introductions, line, plain_login, sent, silence}
use Rattle.da_settings.specs.DefaultSettings.{default_passdb, default_settings}
use Rattle.da_settings.specs.declared.settings.Settings.{Settings}

-- an asterisk stands between user and master, the first database has the masters' passwords, and the second the users
abbrev pub with_masters : Settings
with_masters =
    record (default_settings 0) {
      -- *
      master_separator = Some 42;
      passdb = record (default_passdb 1) { master = true; result_success = Continue } ∷ default_passdb 2 ∷ [];
    }

-- root's password is right, and then bob is looked up
abbrev pub root_asks_for_bob : List Event
root_asks_for_bob =
    introduced 1000 1001 1002
    -- bob*root with the password pw
    ++ (line 1003 1 (plain_login 1 (codes "AGJvYipyb290AHB3"))
    ∷ (1004, Take)
    ∷ answer 1005 1 (Found (codes "{PLAIN}pw") [])
    ∷ (1006, Take)
    ∷ [])

abbrev pub bob_is_looked_up : List Reply
bob_is_looked_up =
    introductions ++ (silence 4 ∷ asks_password 5 1 1 (codes "root") ∷ silence 6 ∷ asks_password 7 2 2 (codes "bob") ∷ [])

-- ---- bob isn't there

abbrev pub bob_is_unknown : List Event
bob_is_unknown = root_asks_for_bob ++ (answer 1007 2 Unknown ∷ [])

abbrev pub bob_is_unknown_replies : List Reply
bob_is_unknown_replies = bob_is_looked_up ++ (sent 8 1 (codes "FAIL\t1\tuser=bob\tauthz") ∷ [])

-- ---- bob is there, whatever his own password is

abbrev pub bob_is_there : List Event
bob_is_there = root_asks_for_bob ++ (answer 1007 2 (Found (codes "{PLAIN}other") []) ∷ [])

abbrev pub bob_is_there_replies : List Reply
bob_is_there_replies = bob_is_looked_up ++ (sent 8 1 (codes "OK\t1\tuser=bob") ∷ [])
