-- What a call on a session gives: its acts and what the session then knows, or a fault, and then nothing has changed.
use Rattle.std.specs.Prelude.{◌≡◌, [], Option, Some, None, Result, Ok, Err, Vec}
use Rattle.std.specs.declared.alloc.AllocError.{AllocError}
use Rattle.std.specs.declared.alloc.Global.{Global}
use Rattle.da_base.specs.Words.{Bytes}
use Rattle.da_pop3.specs.State.{State}
use Rattle.da_pop3.specs.Table.{Turn, step}
use Rattle.da_pop3.specs.declared.event.Event.{Event}
use Rattle.da_pop3.specs.declared.event.Event.TheVariants.{Auth, Master}
use Rattle.da_pop3.specs.declared.event.Act.{Act}
use Rattle.da_pop3.specs.declared.event.StepFault.{StepFault}
use Rattle.da_pop3.specs.declared.event.StepFault.TheVariants.{BadPeer, NoMemory}

-- the acts and the session are the turn's
abbrev pub Gives : Turn → State → Result (Vec Act Global) AllocError → State → Type 0
Gives turn old (Ok acts) new = turn ≡ (acts.items, new)
Gives turn old (Err fault) new = new ≡ old

-- likewise, where there is a turn; there is none exactly where there are no acts
abbrev pub MayGive : Option Turn → State → Result (Option (Vec Act Global)) AllocError → State → Type 0
MayGive turn old (Ok (Some acts)) new = turn ≡ Some (acts.items, new)
MayGive turn old (Ok None) new = (turn ≡ None) × (new ≡ old)
MayGive turn old (Err fault) new = new ≡ old

-- likewise, where no memory is wanted
abbrev pub MayTake : Option Turn → State → Option (Vec Act Global) → State → Type 0
MayTake turn old (Some acts) new = turn ≡ Some (acts.items, new)
MayTake turn old None new = (turn ≡ None) × (new ≡ old)

-- the line of a link
abbrev pub link_line : Event → Bytes
link_line (Auth line) = line
link_line (Master line) = line
link_line _ = []

-- the event is this line of a link
abbrev pub IsLinkLine : Event → Bytes → Type 0
IsLinkLine (Auth line) text = text ≡ line
IsLinkLine (Master line) text = text ≡ line
IsLinkLine _ text = ⊥

-- what a step gives: the acts and the session that the table says; or the line of a link that fits no row, exactly there
abbrev pub StepGives : State → Event → Result (Vec Act Global) StepFault → State → Type 0
StepGives old event (Ok acts) new = step old event ≡ Some (acts.items, new)
StepGives old event (Err (BadPeer line)) new = (step old event ≡ None) × IsLinkLine event line × (new ≡ old)
StepGives old event (Err NoMemory) new = new ≡ old
