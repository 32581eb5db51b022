-- A seat over one call after another.
use Rattle.std.proofs.Common.{refl, ◌∙◌}
use Rattle.da_port.specs.Calls.{PortSeat, Stays}
use Rattle.da_port.specs.declared.terms.Terms.{Terms}
use Rattle.da_turn.specs.Seats.{IsFree, IsOf, Place}
use Rattle.da_workers.specs.Bridges.{Sits}

pub Sits-refl : (s : PortSeat) → IsFree s → Sits s s
Sits-refl s free = ((refl, refl), free, refl, refl)

pub Sits-trans : (s t u : PortSeat) → Sits s t → Sits t u → Sits s u
Sits-trans s t u one two = ((two.0.0 ∙ one.0.0, two.0.1 ∙ one.0.1), two.1, two.2 ∙ one.2, two.3 ∙ one.3)

pub stays_sits : (s t : PortSeat) → Stays s t → Sits s t
stays_sits s t stays = (stays.0, stays.1, stays.2, stays.3)

pub sits_stays : (s t u : PortSeat) → Sits s t → Stays t u → Stays s u
sits_stays s t u one two = ((two.0.0 ∙ one.0.0, two.0.1 ∙ one.0.1), two.1, two.2 ∙ one.2, two.3 ∙ one.3, two.4)

pub of_after : (place : Place Terms) (s t : PortSeat) → IsOf place s → Sits s t → IsOf place t
of_after place s t is sits = (sits.0.0 ∙ is.0, sits.2 ∙ is.1)
