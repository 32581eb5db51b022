-- One step of a server: what it answers, and what it then stands for.
use Rattle.std.specs.Prelude.{◌≡◌, ℕ, Result, Ok, Err}
use Rattle.da_play.specs.Play.{history_after, reply}
use Rattle.da_play.specs.Served.{Served}
use Rattle.da_play.specs.declared.input.Input.{Input}
use Rattle.da_play.specs.declared.outputs.Outputs.{Outputs}
use Rattle.da_play.specs.declared.outputs.Refused.{Refused}
use Rattle.da_play.specs.declared.outputs.Refused.TheVariants.{ConnLimit, HistoryFull, NoConn, NoMemory, NotLate, NotTaken, NothingWaits}

-- the input is refused as the sequential server refuses it, and the server is as it was
pub record IsRefused (before after : Served) (moment : ℕ) (input : Input) (refused : Refused) : Type 0 where
  pub refuses : reply before.settings before.history moment input ≡ Err refused
  pub stays : after ≡ before

-- the input is an entry, and what is given out is what the sequential server gives out
pub record IsEntered (before after : Served) (moment : ℕ) (input : Input) (out : Outputs) : Type 0 where
  pub replies : reply before.settings before.history moment input ≡ Ok out
  pub goes_on : after ≡ record before { history = history_after before.settings before.history moment input }

-- By the answer. Want of memory may stand in place of any other answer, and the server is then as it was.
abbrev pub Steps : Served → Served → ℕ → Input → Result Outputs Refused → Type 0
Steps before after moment input (Ok out) = IsEntered before after moment input out
Steps before after moment input (Err HistoryFull) = IsRefused before after moment input HistoryFull
Steps before after moment input (Err (ConnLimit count)) = IsRefused before after moment input (ConnLimit count)
Steps before after moment input (Err (NoConn conn)) = IsRefused before after moment input (NoConn conn)
Steps before after moment input (Err NothingWaits) = IsRefused before after moment input NothingWaits
Steps before after moment input (Err (NotTaken query)) = IsRefused before after moment input (NotTaken query)
Steps before after moment input (Err (NotLate query due)) = IsRefused before after moment input (NotLate query due)
Steps before after moment input (Err NoMemory) = after ≡ before
