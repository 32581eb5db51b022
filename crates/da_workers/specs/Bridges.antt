-- A seat amid a call, and what a worker found to do. Only the code and its proofs cite it.
use Rattle.std.specs.Prelude.{◌≡◌, ℕ}
use Rattle.da_port.specs.Calls.{Looks, PortSeat}
use Rattle.da_port.specs.Ends.{EndsLoop}
use Rattle.da_port.specs.declared.terms.Terms.{Terms}
use Rattle.da_turn.specs.Seats.{IsFree, IsSame, fixed_of, parted, seen}
use Rattle.da_workers.specs.Working.{TakesAt}
use Rattle.da_workers.specs.declared.next.Next.{Next}
use Rattle.da_workers.specs.declared.next.Next.TheVariants.{Query, End, Nothing}

-- It is the same seat, on the same terms and without a turn, and no seat was split from it.
abbrev pub Sits : PortSeat → PortSeat → Type 0
Sits s t = IsSame s t × IsFree t × (fixed_of t ≡ fixed_of s) × (parted t ≡ parted s)

-- a query was taken, or no entry was made and the service ends, or not
abbrev pub FindsNext : Terms → (ℕ → Type 0) → PortSeat → PortSeat → Next → Type 0
FindsNext terms may_tell s t (Query query) = TakesAt terms may_tell s t query
FindsNext terms may_tell s t (End end) = Looks s t × EndsLoop terms (seen t) end
FindsNext terms may_tell s t Nothing = Looks s t
