-- Answers of databases: which query an answer fits, and what is known of a chain's databases.
use Rattle.std.specs.Prelude.{ℕ, Bool, true, false, List, [], ◌∷◌, Option, Some, None, if◌then◌else◌, ◌==◌}
use Rattle.da_base.specs.Words.{is_empty}
use Rattle.da_fields.specs.FieldList.{Pairs}
use Rattle.da_fields.specs.declared.answer.Answer.{Answer}
use Rattle.da_fields.specs.declared.answer.Answer.TheVariants.{Found, Passed, Mismatch, Unknown, Internal}
use Rattle.da_fields.specs.declared.answer.QueryKind.{QueryKind}
use Rattle.da_fields.specs.declared.answer.QueryKind.TheVariants.{Pass, Check, User}
use Rattle.da_fields.specs.declared.outcome.Outcome.{Outcome}
use Rattle.da_fields.specs.declared.outcome.Outcome.TheVariants.{Success, Internal as IsInternal}
use Rattle.da_fields.specs.declared.outcome.Rule.{Rule}

-- whether an answer is of a kind that answers this query
abbrev pub fits : QueryKind → Answer → Bool
fits Pass (Found stored fields) = true
fits Pass (Passed fields) = false
fits Pass Mismatch = false
fits Check (Found stored fields) = false
fits Check (Passed fields) = true
fits Check Mismatch = true
fits User (Found stored fields) = is_empty stored
fits User (Passed fields) = false
fits User Mismatch = false
fits _ Unknown = true
fits _ (Internal why) = true

abbrev pub answer_fields : Answer → Pairs
answer_fields (Found stored fields) = fields
answer_fields (Passed fields) = fields
answer_fields _ = []

-- the answers so far, each under its database's number
abbrev pub Answers : Type 0
Answers = List (ℕ × Answer)

abbrev pub answer_from : ℕ → Answers → Option Answer
answer_from db [] = None
answer_from db (p ∷ answers) = if p.0 == db then Some p.1 else answer_from db answers

abbrev pub is_success : Outcome → Bool
is_success Success = true
is_success _ = false

-- the rule for an outcome: that for success, for an internal failure, and for every other failure
abbrev pub rule_for : Rule → Rule → Rule → Outcome → Rule
rule_for success failure internal Success = success
rule_for success failure internal IsInternal = internal
rule_for success failure internal _ = failure
