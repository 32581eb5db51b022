-- The printed replies of the server. Each line begins with the number of its event.
use Rattle.std.specs.Prelude.{ℕ, suc, List, [], ◌∷◌, ◌++◌, Option, Some, None, Result, Ok, Err, codes, decimal}
use Rattle.std.specs.List.{flat_map}
use Rattle.da_base.specs.Words.{Bytes}
use Rattle.da_fields.specs.declared.answer.Query.{Query}
use Rattle.da_query.specs.Queries.{query_line}
use Rattle.da_play.specs.declared.outputs.Outputs.{Outputs}
use Rattle.da_play.specs.declared.outputs.Refused.{Refused}
use Rattle.da_play.specs.declared.outputs.Refused.TheVariants.{HistoryFull, ConnLimit, NoConn, NothingWaits, NotTaken, NotLate, NoMemory}

-- a line that is sent to a connection
abbrev pub sent_text : ℕ → ℕ × Bytes → Bytes
sent_text n sent = decimal n ++ codes " > " ++ decimal sent.0 ++ codes " " ++ sent.1 ++ codes "\n"

-- a query whose answer is used again
abbrev pub hit_text : ℕ → ℕ → Bytes
hit_text n query = decimal n ++ codes " hit " ++ decimal query ++ codes "\n"

-- a query that is handed out
abbrev pub taken_text : ℕ → Option Query → Bytes
taken_text n None = []
taken_text n (Some query) = decimal n ++ codes " take " ++ query_line query ++ codes "\n"

-- a connection that the server closes
abbrev pub closed_text : ℕ → Option ℕ → Bytes
closed_text n None = []
closed_text n (Some conn) = decimal n ++ codes " close " ++ decimal conn ++ codes "\n"

-- what an entry gives out: the due replies, the hits, the query, the further lines, and the connection that is closed
unfoldable pub outputs_text : ℕ → Outputs → Bytes
outputs_text n out =
    flat_map (sent_text n) out.due_lines ++ flat_map (hit_text n) out.hits ++ taken_text n out.query
    ++ flat_map (sent_text n) out.lines ++ closed_text n out.closed

abbrev pub refused_words : Refused → Bytes
refused_words HistoryFull = []
refused_words (ConnLimit count) = codes "ConnLimit " ++ decimal count
refused_words (NoConn conn) = codes "NoConn " ++ decimal conn
refused_words NothingWaits = codes "NothingWaits"
refused_words (NotTaken query) = codes "NotTaken " ++ decimal query
refused_words (NotLate query due) = codes "NotLate " ++ decimal query ++ codes " " ++ decimal due
refused_words NoMemory = []

abbrev pub refused_line : ℕ → Bytes → Bytes
refused_line n [] = []
refused_line n (c ∷ cs) = decimal n ++ codes " refused " ++ (c ∷ cs) ++ codes "\n"

-- the line of a refused event; a full history and want of memory give none
unfoldable pub refused_text : ℕ → Refused → Bytes
refused_text n refused = refused_line n (refused_words refused)

-- ---- replies

abbrev pub reply_text : ℕ → Result Outputs Refused → Bytes
reply_text n (Ok out) = outputs_text n out
reply_text n (Err refused) = refused_text n refused

-- the printed replies, from event number n on
abbrev pub replies_text : ℕ → List (Result Outputs Refused) → Bytes
replies_text n [] = []
replies_text n (reply ∷ replies) = reply_text n reply ++ replies_text (suc n) replies
