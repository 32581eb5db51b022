-- The words that name a choice.
use Rattle.std.specs.Prelude.{List, [], ◌∷◌, find, Option, Some, None, if◌then◌else◌, bytes_eq, codes}
use Rattle.da_base.specs.Words.{Bytes}
use Rattle.da_fields.specs.declared.outcome.Rule.{Rule}
use Rattle.da_fields.specs.declared.outcome.Rule.TheVariants.{ReturnOk, ReturnFail, Return, ContinueOk, ContinueFail, Continue}
use Rattle.da_msgs.specs.Replies.{mechanism_name}
use Rattle.da_msgs.specs.declared.kinds.Mech.{Mech}
use Rattle.da_msgs.specs.declared.kinds.Mech.TheVariants.{Plain, Login, CramMd5, ScramSha256}
use Rattle.da_passdb.specs.declared.database.Driver.{Driver}
use Rattle.da_passdb.specs.declared.database.Driver.TheVariants.{PasswdFile, Worker, Checkpassword}
use Rattle.da_passdb.specs.declared.database.Skip.{Skip}
use Rattle.da_passdb.specs.declared.database.Skip.TheVariants.{Never, Authenticated, Unauthenticated}
use Rattle.da_userdb.specs.declared.database.UserDriver.{UserDriver}
use Rattle.da_userdb.specs.declared.database.UserDriver.TheVariants.{PasswdFile as UserPasswdFile, Worker as UserWorker, Prefetch}
use Rattle.da_userdb.specs.declared.database.UserSkip.{UserSkip}
use Rattle.da_userdb.specs.declared.database.UserSkip.TheVariants.{Never as UserNever, Found, NotFound}

abbrev pub mechanism_called : Bytes → Option Mech
mechanism_called text = find (λ mech. bytes_eq text (mechanism_name mech)) (Plain ∷ Login ∷ CramMd5 ∷ ScramSha256 ∷ [])

-- the choice of this name, where each has one
abbrev pub named : {A : Type 0} → List (A × Bytes) → Bytes → Option A
named [] text = None
named (choice ∷ choices) text = if bytes_eq text choice.1 then Some choice.0 else named choices text

abbrev pub rule_called : Bytes → Option Rule
rule_called =
    named ((ReturnOk, codes "return-ok") ∷ (ReturnFail, codes "return-fail") ∷ (Return, codes "return")
    ∷ (ContinueOk, codes "continue-ok") ∷ (ContinueFail, codes "continue-fail") ∷ (Continue, codes "continue") ∷ [])

abbrev pub driver_called : Bytes → Option Driver
driver_called =
    named ((PasswdFile, codes "passwd-file") ∷ (Worker, codes "worker") ∷ (Checkpassword, codes "checkpassword") ∷ [])

abbrev pub skip_called : Bytes → Option Skip
skip_called =
    named ((Never, codes "never") ∷ (Authenticated, codes "authenticated") ∷ (Unauthenticated, codes "unauthenticated") ∷ [])

abbrev pub user_driver_called : Bytes → Option UserDriver
user_driver_called =
    named ((UserPasswdFile, codes "passwd-file") ∷ (UserWorker, codes "worker") ∷ (Prefetch, codes "prefetch") ∷ [])

abbrev pub user_skip_called : Bytes → Option UserSkip
user_skip_called = named ((UserNever, codes "never") ∷ (Found, codes "found") ∷ (NotFound, codes "notfound") ∷ [])
