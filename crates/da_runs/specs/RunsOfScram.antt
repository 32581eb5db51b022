-- Worked runs: SCRAM-SHA-256 as far as the stored password is told (RFC 5802, section 5).
use Rattle.std.specs.Prelude.{List, [], ◌∷◌, ◌++◌, codes}
use Rattle.da_base.specs.Words.{Bytes}
use Rattle.da_fields.specs.declared.answer.Answer.TheVariants.{Found}
use Rattle.da_msgs.specs.declared.kinds.Mech.TheVariants.{ScramSha256}
use Rattle.da_play.specs.Play.{Event}
use Rattle.da_play.specs.declared.input.Input.TheVariants.{Take}
use Rattle.da_runs.specs.RunWords.{Reply, answer, asks_password, greets, introduced, line, sent, silence}
use Rattle.da_settings.specs.DefaultSettings.{default_settings}
use Rattle.da_settings.specs.declared.settings.Settings.{Settings}

abbrev pub scram_settings : Settings
scram_settings = record (default_settings 0) { mechanisms = ScramSha256 ∷ [] }

-- the client's first message is n,,n=user,r=rOprNGfwEbeRWgbNEkqO
abbrev pub user_asks : List Event
user_asks =
    introduced 1000 1001 1002
    ++ (line 1003 1 (codes "AUTH\t1\tSCRAM-SHA-256\tservice=imap\tresp=biwsbj11c2VyLHI9ck9wck5HZndFYmVSV2diTkVrcU8=") ∷ (1004, Take) ∷ [])

abbrev pub user_is_looked_up : List Reply
user_is_looked_up =
    greets 1 1 (codes "SCRAM-SHA-256\tmutual-auth") ∷ silence 2 ∷ silence 3 ∷ silence 4 ∷ asks_password 5 1 1 (codes "user") ∷ []

-- ---- keys are stored: the server's first message is
-- r=rOprNGfwEbeRWgbNEkqO00000000000000000000000000000000,s=W22ZaJ0SNY7soEsUEjb6gQ==,i=4096

abbrev pub zero_key : Bytes
zero_key = codes "AAAAAAAAAAAAAAAAAAAAAAAAAAAAAAAAAAAAAAAAAAA="

abbrev pub keys_told : List Event
keys_told =
    user_asks
    ++ (answer 1005 1 (Found (codes "{SCRAM-SHA-256}4096,W22ZaJ0SNY7soEsUEjb6gQ==," ++ zero_key ++ codes "," ++ zero_key) []) ∷ [])

abbrev pub keys_told_replies : List Reply
keys_told_replies =
    user_is_looked_up
    ++ (sent 6 1 (codes "CONT\t1\tcj1yT3ByTkdmd0ViZVJXZ2JORWtxTzAwMDAwMDAwMDAwMDAwMDAwMDAwMDAwMDAwMDAwMDAwLHM9VzIyWmFKMFNOWTdzb0VzVUVqYjZnUT09LGk9NDA5Ng==") ∷ [])

-- ---- a digest is stored, which gives no keys

abbrev pub digest_told : List Event
digest_told = user_asks ++ (answer 1005 1 (Found (codes "{SHA}qZk+NkcGgWq6PiVxeFDCbJzQ2J0=") []) ∷ [])

abbrev pub digest_told_replies : List Reply
digest_told_replies = user_is_looked_up ++ (sent 6 1 (codes "FAIL\t1\tuser=user") ∷ [])
