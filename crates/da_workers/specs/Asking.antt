-- What is said over a link for one query, and what that comes to.
use Rattle.std.specs.Prelude.{◌≡◌, ◌⊎◌, Bool, [], ◌∷◌, Some, None, Result, Ok, Err, if◌then◌else◌}
use Rattle.std.specs.declared.alloc.AllocError.{AllocError}
use Rattle.da_fields.specs.declared.answer.Answer.{Answer}
use Rattle.da_fields.specs.declared.answer.Answer.TheVariants.{Internal}
use Rattle.da_fields.specs.declared.answer.Query.{Query}
use Rattle.da_fields.specs.declared.answer.Why.TheVariants.{Died, Malformed}
use Rattle.da_outside.specs.Causes.{Rose}
use Rattle.da_outside.specs.Link.{LinkState}
use Rattle.da_outside.specs.Past.{Gains, Recalls, Stays}
use Rattle.da_outside.specs.declared.faults.Got.{Got}
use Rattle.da_outside.specs.declared.faults.Got.TheVariants.{Given, TooLong, Fault}
use Rattle.da_outside.specs.declared.link.Spoken.TheVariants.{Received, SendFault, Sent}
use Rattle.da_query.specs.AnswerLines.{answer_to}
use Rattle.da_query.specs.Queries.{query_line}

-- The answer to a query by what the link then gave: what its line spells, or that the line is too long, or that none came.
abbrev pub answer_by : Query → Got → Answer
answer_by query (Given line) = answer_to query line
answer_by query TooLong = Internal Malformed
answer_by query Fault = Internal Died

-- The printed query was sent, alone, and then this was received, or the receive failed.
pub record IsAnswered (query : Query) (before after : LinkState) (answer : Answer) : Type 0 where
  pub got : Got
  pub talk : Gains before.talk after.talk (Sent (query_line query) ∷ Received got ∷ [])
  pub means : answer ≡ answer_by query got
  pub failed : got ≡ Fault → Rose before.faults after.faults

-- The printed query was not sent, since the send failed. One that failed for want of memory isn't kept in the talk.
pub record IsUnsent (before after : LinkState) (answer : Answer) : Type 0 where
  pub kept : Bool
  pub talk : Recalls before.talk after.talk (if kept then Some SendFault else None)
  pub means : answer ≡ Internal Died
  pub failed : Rose before.faults after.faults

-- Memory was wanted before the send, at the receive, or where the line was read.
abbrev pub IsCutOff : Query → LinkState → LinkState → Type 0
IsCutOff query before after =
    Stays before.talk after.talk
    ⊎ Gains before.talk after.talk (Sent (query_line query) ∷ [])
    ⊎ ((got : Got) × Gains before.talk after.talk (Sent (query_line query) ∷ Received got ∷ []))

-- One query is asked over a link.
abbrev pub Asks : Query → LinkState → LinkState → Result Answer AllocError → Type 0
Asks query before after (Ok answer) = IsAnswered query before after answer ⊎ IsUnsent before after answer
Asks query before after (Err wanted) = IsCutOff query before after
