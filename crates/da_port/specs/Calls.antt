-- What a call of the port says of the seat that it steps with: s is the seat before the call, and t the seat after it.
use Rattle.std.specs.Prelude.{◌≡◌, ℕ, false, List, [], ◌∷◌, ◌++◌, length, Option, Some, None, Result, Ok, Err}
use Rattle.da_turn.specs.Entries.{IsLater}
use Rattle.da_turn.specs.Seats.{Sitting, seen, made, parted, fixed_of, IsFree, IsSame, IsSound}
use Rattle.da_fields.specs.declared.answer.Query.{Query}
use Rattle.da_play.specs.History.{tables_of}
use Rattle.da_play.specs.Legal.{IsLegal, is_full}
use Rattle.da_play.specs.Play.{next_entry, reply}
use Rattle.da_play.specs.Served.{Served}
use Rattle.da_play.specs.declared.input.Entry.{Entry}
use Rattle.da_play.specs.declared.input.Input.{Input}
use Rattle.da_play.specs.declared.input.Input.TheVariants.{Take}
use Rattle.da_play.specs.declared.outputs.Outputs.{Outputs}
use Rattle.da_play.specs.declared.outputs.Refused.{Refused}
use Rattle.da_play.specs.declared.outputs.Refused.TheVariants.{ConnLimit, HistoryFull, NoConn, NoMemory, NotLate, NotTaken, NothingWaits}
use Rattle.da_port.specs.declared.terms.Terms.{Terms}
use Rattle.da_tables.specs.Queries.{first_waiting, waiting}

abbrev pub PortSeat : Type 0
PortSeat = Sitting Served Entry Terms

-- it is the same seat, on the same terms and without a turn, and no seat was split from it
abbrev pub Stays : PortSeat → PortSeat → Type 0
Stays s t = IsSame s t × IsFree t × (fixed_of t ≡ fixed_of s) × (parted t ≡ parted s) × IsSound t

-- The call made one entry of the input, and gave out what the sequential server gives out for it: the entry comes after a
-- history that goes on from what the seat had seen, at the moment handed in or at the last entry's, with its hits.
pub record Records (terms : Terms) (s t : PortSeat) (moment : ℕ) (input : Input) (out : Outputs) : Type 0 where
  pub before : List Entry
  pub later : IsLater (seen s) before
  pub sees : seen t ≡ next_entry terms.settings before moment input ∷ before
  pub legal : IsLegal terms.settings (seen t)
  pub gains : made t ≡ made s ++ (length (seen t), next_entry terms.settings before moment input) ∷ []
  pub replies : reply terms.settings before moment input ≡ Ok out

-- the call made one entry of the input, and answers a part of what is given out for it
abbrev pub Answers : Terms → PortSeat → PortSeat → ℕ → Input → (Outputs → Type 0) → Type 0
Answers terms s t moment input IsPart = (out : Outputs) × Records terms s t moment input out × IsPart out

-- The sequential server refuses the input so after this history. Want of memory is told by no history.
abbrev pub IsRefusedAfter : Terms → List Entry → ℕ → Input → Refused → Type 0
IsRefusedAfter terms h moment input HistoryFull = reply terms.settings h moment input ≡ Err HistoryFull
IsRefusedAfter terms h moment input (ConnLimit count) = reply terms.settings h moment input ≡ Err (ConnLimit count)
IsRefusedAfter terms h moment input (NoConn conn) = reply terms.settings h moment input ≡ Err (NoConn conn)
IsRefusedAfter terms h moment input NothingWaits = reply terms.settings h moment input ≡ Err NothingWaits
IsRefusedAfter terms h moment input (NotTaken query) = reply terms.settings h moment input ≡ Err (NotTaken query)
IsRefusedAfter terms h moment input (NotLate query due) = reply terms.settings h moment input ≡ Err (NotLate query due)
IsRefusedAfter terms h moment input NoMemory = Unit {0}

-- the call made no entry, and saw a history that goes on from what the seat had seen
abbrev pub Looks : PortSeat → PortSeat → Type 0
Looks s t = IsLater (seen s) (seen t) × (made t ≡ made s)

-- the call made no entry, since the input is refused so after the history that it saw
abbrev pub Refuses : Terms → PortSeat → PortSeat → ℕ → Input → Refused → Type 0
Refuses terms s t moment input refused = Looks s t × IsRefusedAfter terms (seen t) moment input refused

-- ---- a query that is taken

-- the call made a Take, and answers the query that it hands out, which was the first that waited
pub record HandsOut (terms : Terms) (s t : PortSeat) (moment : ℕ) (query : Query) : Type 0 where
  pub out : Outputs
  pub records : Records terms s t moment Take out
  pub is_given : out.query ≡ Some query
  pub is_first : query.number ≡ first_waiting (tables_of terms.settings records.before)

-- By the answer. Where no query waits and the history isn't full there is none, and no entry is made.
abbrev pub TakesQuery : Terms → PortSeat → PortSeat → ℕ → Result (Option Query) Refused → Type 0
TakesQuery terms s t moment (Ok (Some query)) = HandsOut terms s t moment query
TakesQuery terms s t moment (Ok None) = Looks s t × (is_full terms.settings (seen t) ≡ false) × (waiting (tables_of terms.settings (seen t)) ≡ [])
TakesQuery terms s t moment (Err HistoryFull) = Refuses terms s t moment Take HistoryFull
TakesQuery terms s t moment (Err NoMemory) = Refuses terms s t moment Take NoMemory
TakesQuery terms s t moment (Err NothingWaits) = ⊥
TakesQuery terms s t moment (Err (ConnLimit count)) = ⊥
TakesQuery terms s t moment (Err (NoConn conn)) = ⊥
TakesQuery terms s t moment (Err (NotTaken query)) = ⊥
TakesQuery terms s t moment (Err (NotLate query due)) = ⊥
