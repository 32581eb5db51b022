-- What a session of a connection records: lines, and then an end. s is its seat before, and t the seat after it.
use Rattle.std.specs.Prelude.{◌≡◌, ℕ, suc, ⊤, List, [], ◌∷◌, ◌++◌, Option, Some, None}
use Rattle.da_turn.specs.Entries.{IsLater}
use Rattle.da_turn.specs.Seats.{seen, made}
use Rattle.da_base.specs.Words.{Bytes}
use Rattle.da_play.specs.declared.input.Entry.{Entry}
use Rattle.da_play.specs.declared.input.Input.{Input}
use Rattle.da_play.specs.declared.input.Input.TheVariants.{Line}
use Rattle.da_port.specs.Calls.{PortSeat}
use Rattle.da_port.specs.declared.terms.Terms.{Terms}
use Rattle.da_session.specs.Made.{IsMade}

-- these are the random bytes of the k-th draw, where the draws are told
abbrev pub IsDraw : Option (ℕ → Bytes) → ℕ → Bytes → Type 0
IsDraw None k random = ⊤
IsDraw (Some draws) k random = random ≡ draws k

-- the entry is this line of the connection, with the random bytes of the k-th draw
pub record IsLineEntry (terms : Terms) (may_tell : ℕ → Type 0) (draws : Option (ℕ → Bytes)) (conn : ℕ) (old seen : List Entry) (k : ℕ) (line : Bytes) (numbered : ℕ × Entry) : Type 0 where
  pub random : Bytes
  pub drawn : IsDraw draws k random
  pub made : IsMade terms may_tell old seen (Line conn line random) numbered

-- The entries are these lines of the connection, in order, the first of them with the k-th draw and each further one with
-- the next, and then the end, if there is one.
abbrev pub AreLinesThen : Terms → (ℕ → Type 0) → Option (ℕ → Bytes) → ℕ → List Entry → List Entry → ℕ → List Bytes → Option Input → List (ℕ × Entry) → Type 0
AreLinesThen terms may_tell draws conn old seen k (line ∷ lines) end (numbered ∷ entries) =
    IsLineEntry terms may_tell draws conn old seen k line numbered × AreLinesThen terms may_tell draws conn old seen (suc k) lines end entries
AreLinesThen terms may_tell draws conn old seen k (line ∷ lines) end [] = ⊥
AreLinesThen terms may_tell draws conn old seen k [] (Some end) (numbered ∷ []) = IsMade terms may_tell old seen end numbered
AreLinesThen terms may_tell draws conn old seen k [] (Some end) (numbered ∷ other ∷ entries) = ⊥
AreLinesThen terms may_tell draws conn old seen k [] (Some end) [] = ⊥
AreLinesThen terms may_tell draws conn old seen k [] None [] = ⊤
AreLinesThen terms may_tell draws conn old seen k [] None (numbered ∷ entries) = ⊥

-- the seat made just these entries: the lines of the connection, in order, each with the next draw, and then the end
pub record RecordsLinesThen (terms : Terms) (may_tell : ℕ → Type 0) (draws : Option (ℕ → Bytes)) (conn : ℕ) (s t : PortSeat) (lines : List Bytes) (end : Option Input) : Type 0 where
  pub later : IsLater (seen s) (seen t)
  pub entries : List (ℕ × Entry)
  pub gains : made t ≡ made s ++ entries
  pub each : AreLinesThen terms may_tell draws conn (seen s) (seen t) 0 lines end entries
