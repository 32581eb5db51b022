-- Bridges: what the calls work with. Only the code cites them.
use Rattle.std.specs.Prelude.{Option, None, Result, Ok, Err}
use Rattle.da_fields.specs.declared.answer.Query.{Query}
use Rattle.da_play.specs.declared.outputs.Refused.{Refused}
use Rattle.da_play.specs.declared.outputs.Refused.TheVariants.{ConnLimit, HistoryFull, NoConn, NoMemory, NotLate, NotTaken, NothingWaits}

-- where nothing waits there is no query, and other refusals are handed on
abbrev pub no_query : Refused → Result (Option Query) Refused
no_query NothingWaits = Ok None
no_query HistoryFull = Err HistoryFull
no_query (ConnLimit count) = Err (ConnLimit count)
no_query (NoConn conn) = Err (NoConn conn)
no_query (NotTaken query) = Err (NotTaken query)
no_query (NotLate query due) = Err (NotLate query due)
no_query NoMemory = Err NoMemory
