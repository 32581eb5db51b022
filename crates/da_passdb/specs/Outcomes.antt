-- What comes of a password database's answer.
use Rattle.std.specs.Prelude.{Bool, true, false, ◌&&◌, ◌||◌, not, [], Option, Some, None, if◌then◌else◌, codes}
use Rattle.da_base.specs.Words.{Bytes, option_or_else}
use Rattle.da_fields.specs.FieldList.{Pairs, field, merge}
use Rattle.da_fields.specs.Answers.{fits, is_success}
use Rattle.da_names.specs.Templates.{expand_fields}
use Rattle.da_nets.specs.Networks.{allowed}
use Rattle.da_schemes.specs.Scheme.{is_plaintext_scheme, is_scram_scheme}
use Rattle.da_schemes.specs.Stored.{StoredPassword, stored_password, matches}
use Rattle.da_fields.specs.declared.answer.Answer.{Answer}
use Rattle.da_fields.specs.declared.answer.Answer.TheVariants.{Found, Passed, Mismatch as Mismatched, Unknown as NotKnown, Internal as Failed}
use Rattle.da_fields.specs.declared.answer.QueryKind.{QueryKind}
use Rattle.da_fields.specs.declared.answer.QueryKind.TheVariants.{Pass, Check}
use Rattle.da_fields.specs.declared.outcome.Outcome.{Outcome}
use Rattle.da_fields.specs.declared.outcome.Outcome.TheVariants.{Success, Mismatch, Unknown, NoScheme, Internal}
use Rattle.da_names.specs.declared.variables.Vars.{Vars}
use Rattle.da_passdb.specs.declared.database.Passdb.{Passdb}
use Rattle.da_passdb.specs.declared.database.Driver.{Driver}
use Rattle.da_passdb.specs.declared.database.Driver.TheVariants.{Checkpassword}
use Rattle.da_passdb.specs.declared.login.Login.{Login}
use Rattle.da_passdb.specs.declared.login.Proof.{Proof}
use Rattle.da_passdb.specs.declared.login.Proof.TheVariants.{Plain, Cram, Scram}

abbrev pub is_plaintext_proof : Proof → Bool
is_plaintext_proof (Plain password) = true
is_plaintext_proof _ = false

abbrev pub proof_password : Proof → Option Bytes
proof_password (Plain password) = Some password
proof_password _ = None

abbrev pub driver_kind : Driver → QueryKind
driver_kind Checkpassword = Check
driver_kind _ = Pass

-- what a database is asked: to check a password, or for the stored one
abbrev pub query_kind : Passdb → QueryKind
query_kind db = driver_kind db.driver

-- the fields of an answer with this database's defaults and overrides, without the chain's earlier fields
abbrev pub own_fields : Passdb → Vars → Pairs → Pairs
own_fields db v found = merge [] (expand_fields v db.default_fields) found (expand_fields v db.override_fields)

-- whether these fields let the client's address in: they name no networks, or one that has it; an address that isn't
-- known is in none
abbrev pub is_let_in : Passdb → Vars → Pairs → Bool
is_let_in db v found = option_or_else (field (codes "allow_nets") (own_fields db v found)) true (λ nets. allowed nets v.rip)

-- what a stored password gives, where it can be read
abbrev pub password_outcome : Proof → Option StoredPassword → Outcome
password_outcome proof None = NoScheme
password_outcome (Plain password) (Some stored) = if matches stored password then Success else Mismatch
password_outcome Cram (Some stored) = if is_plaintext_scheme stored.scheme then Success else NoScheme
password_outcome Scram (Some stored) = if is_plaintext_scheme stored.scheme || is_scram_scheme stored.scheme then Success else NoScheme

-- the outcome of an answer that fits; the first row that applies decides
abbrev pub fitting_outcome : Passdb → Login → Bool → Answer → Outcome
fitting_outcome db login checked (Found stored fields) =
    if not (is_let_in db login.vars fields) then Mismatch
    else if checked then Success
    else password_outcome login.proof (stored_password db.default_scheme stored)
fitting_outcome db login checked (Passed fields) = if is_let_in db login.vars fields then Success else Mismatch
fitting_outcome db login checked Mismatched = Mismatch
fitting_outcome db login checked NotKnown = Unknown
fitting_outcome db login checked (Failed why) = Internal

-- the outcome of an answer; `checked` says whether a password has been checked before
unfoldable pub outcome : Passdb → Login → Bool → Answer → Outcome
outcome db login checked answer = if fits (query_kind db) answer then fitting_outcome db login checked answer else Internal

-- whether a plaintext password decides the outcome of a stored password with fields. A deny database's answer has no outcome.
abbrev pub is_decided_by_password : Passdb → Login → Bool → Bytes → Pairs → Bool
is_decided_by_password db login checked stored fields =
    fits (query_kind db) (Found stored fields) && is_plaintext_proof login.proof && not db.deny && not checked && is_let_in db login.vars fields

-- whether a plaintext password decides the outcome, and then whether it matches
unfoldable pub password_comparison : Passdb → Login → Bool → Answer → Option Bool
password_comparison db login checked (Found stored fields) =
    if is_decided_by_password db login checked stored fields
    then Some (is_success (outcome db login checked (Found stored fields)))
    else None
password_comparison db login checked _ = None

-- what is compared where a plaintext password decides the outcome and the stored password can be read
abbrev pub compared_with : Proof → Option StoredPassword → Option (StoredPassword × Bytes)
compared_with (Plain password) (Some stored) = Some (stored, password)
compared_with _ _ = None

unfoldable pub password_compared : Passdb → Login → Bool → Answer → Option (StoredPassword × Bytes)
password_compared db login checked (Found stored fields) =
    if is_decided_by_password db login checked stored fields
    then compared_with login.proof (stored_password db.default_scheme stored)
    else None
password_compared db login checked _ = None
