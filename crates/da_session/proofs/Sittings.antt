-- A seat that goes on from call to call.
use Rattle.std.proofs.Common.{refl, ◌∙◌}
use Rattle.da_port.specs.Calls.{PortSeat, Stays}
use Rattle.da_port.specs.declared.terms.Terms.{Terms}
use Rattle.da_session.specs.Bridges.{Sits}
use Rattle.da_turn.specs.Seats.{IsFree, IsOf, IsSound, Place}

pub sits_self : (s : PortSeat) → IsFree s → Sits s s
sits_self s free = ((refl, refl), free, refl, refl)

pub sits_on : (s m t : PortSeat) → Sits s m → Sits m t → Sits s t
sits_on s m t a b = ((b.0.0 ∙ a.0.0, b.0.1 ∙ a.0.1), b.1, b.2 ∙ a.2, b.3 ∙ a.3)

pub sits_of : (s t : PortSeat) → Stays s t → Sits s t
sits_of s t a = (a.0, a.1, a.2, a.3)

pub sits_after : (s m t : PortSeat) → Sits s m → Stays m t → Sits s t
sits_after s m t a b = sits_on s m t a (sits_of m t b)

pub stays_of : (s t : PortSeat) → Sits s t → IsSound t → Stays s t
stays_of s t a sound = (a.0, a.1, a.2, a.3, sound)

pub stays_after : (s m t : PortSeat) → Sits s m → Stays m t → Stays s t
stays_after s m t a b = stays_of s t (sits_after s m t a b) b.4

pub own_after : (port : Place Terms) (s t : PortSeat) → IsOf port s × IsFree s → Sits s t → IsOf port t × IsFree t
own_after port s t own a = ((a.0.0 ∙ own.0.0, a.2 ∙ own.0.1), a.1)
