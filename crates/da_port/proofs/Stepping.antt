-- What one step of a server keeps, and what it adds.
use Rattle.std.proofs.Common.{◌≡◌, sym, subst, ℕ, Result, Ok, Err}
use Rattle.da_steps.proofs.LegalSteps.{legal_after}
use Rattle.da_play.specs.Legal.{IsLegal}
use Rattle.da_play.specs.Play.{history_after}
use Rattle.da_play.specs.Served.{Served}
use Rattle.da_play.specs.Steps.{Steps}
use Rattle.da_play.specs.declared.input.Input.{Input}
use Rattle.da_play.specs.declared.outputs.Outputs.{Outputs}
use Rattle.da_play.specs.declared.outputs.Refused.{Refused}
use Rattle.da_play.specs.declared.outputs.Refused.TheVariants.{ConnLimit, HistoryFull, NoConn, NoMemory, NotLate, NotTaken, NothingWaits}

-- a server that is as it was has a legal history, if it had
same_legal : (before after : Served) → after ≡ before → IsLegal before.settings before.history → IsLegal after.settings after.history
same_legal before after e legal = subst (λ (s : Served). IsLegal s.settings s.history) (sym e) legal

pub legal_step : (before after : Served) (moment : ℕ) (input : Input) (result : Result Outputs Refused) → Steps before after moment input result → IsLegal before.settings before.history → IsLegal after.settings after.history
legal_step before after moment input (Ok out) steps legal = same_legal (record before { history = history_after before.settings before.history moment input }) after steps.goes_on (legal_after before.settings before.history moment input legal)
legal_step before after moment input (Err HistoryFull) steps legal = same_legal before after steps.stays legal
legal_step before after moment input (Err (ConnLimit count)) steps legal = same_legal before after steps.stays legal
legal_step before after moment input (Err (NoConn conn)) steps legal = same_legal before after steps.stays legal
legal_step before after moment input (Err NothingWaits) steps legal = same_legal before after steps.stays legal
legal_step before after moment input (Err (NotTaken query)) steps legal = same_legal before after steps.stays legal
legal_step before after moment input (Err (NotLate query due)) steps legal = same_legal before after steps.stays legal
legal_step before after moment input (Err NoMemory) steps legal = same_legal before after steps legal
