-- The lines at hand, as they are recorded one after another.
use Rattle.std.proofs.Common.{◌≡◌, ℕ, List, [], ◌∷◌, ◌++◌, length, drop, Option, Some, None, refl, sym, ap, ◌∙◌, subst, append-nil, append_assoc}
use Rattle.std.proofs.lemmas.List.{length_push}
use Rattle.da_base.specs.Words.{Bytes}
use Rattle.da_outside.specs.Rand.{Draws}
use Rattle.da_play.specs.declared.input.Input.TheVariants.{Line}
use Rattle.da_port.specs.Calls.{Looks, PortSeat}
use Rattle.da_port.specs.declared.terms.Terms.{Terms}
use Rattle.da_session.proofs.Entering.{look_self}
use Rattle.da_session.proofs.Sessions.{drawn_on, drawn_one, drawn_self, joined, line_recorded, nothing_recorded, then_look}
use Rattle.da_session.specs.Sessions.{RecordsLinesThen}
use Rattle.da_session.specs.Bridges.{HasDrawn, IsRecorded, RecordsSome, StopsLines, TakesStep}
use Rattle.da_session.specs.declared.lines.Stop.TheVariants.{Closed as StopClosed, Full as StopFull, NoMemory as StopNoMemory}
use Rattle.da_session.specs.declared.steps.Step.TheVariants.{Closed, NotOpen, Full, NoMemory}
use Rattle.da_tabline.specs.Lines.{Cutter, after_take}
use Rattle.da_turn.specs.Seats.{IsSound}

-- these lines of the cutter were recorded, and the others are left
pub record Recording (terms : Terms) (may_tell : ℕ → Type 0) (draws now : Option (ℕ → Bytes)) (conn : ℕ) (s t : PortSeat) (all left : Cutter) : Type 0 where
  pub taken : List Bytes
  pub are_lines : all.ready ≡ taken ++ left.ready
  pub same : left ≡ record all { ready = left.ready }
  pub drawn : HasDrawn draws now (length taken)
  pub records : RecordsLinesThen terms may_tell draws conn s t taken None

pub recording_none : (terms : Terms) (may_tell : ℕ → Type 0) (draws : Option (ℕ → Bytes)) (conn : ℕ) (s : PortSeat) (all : Cutter) → Recording terms may_tell draws draws conn s s all all
recording_none terms may_tell draws conn s all =
    record { taken = []; are_lines = refl; same = refl; drawn = drawn_self draws; records = nothing_recorded terms may_tell conn draws s s (look_self s) }

module _ {terms : Terms} {may_tell : ℕ → Type 0} {draws now : Option (ℕ → Bytes)} {conn : ℕ} {s t : PortSeat} {all left : Cutter}
    (r : Recording terms may_tell draws now conn s t all left) where
  -- the next line was handed in, with the next draw
  module _ (new : Option (ℕ → Bytes)) (random : Bytes) (draw : Draws now new random) (u : PortSeat) (next : Cutter) (line : Bytes) (first : left.ready ≡ line ∷ next.ready) where
    more_lines : all.ready ≡ (r.taken ++ line ∷ []) ++ next.ready
    more_lines = r.are_lines ∙ ap (λ l. r.taken ++ l) first ∙ sym (append_assoc r.taken (line ∷ []) next.ready)

    more_recorded : IsRecorded terms may_tell t u (Line conn line random) → RecordsLinesThen terms may_tell draws conn s u (r.taken ++ line ∷ []) None
    more_recorded is =
        joined terms may_tell conn draws now s t u r.taken (line ∷ []) None r.drawn r.records
        (line_recorded terms may_tell conn now t u line random (drawn_one now new random draw).1 is)

    pub recording_more : next ≡ after_take left → IsRecorded terms may_tell t u (Line conn line random) → Recording terms may_tell draws new conn s u all next
    recording_more taken is =
        record {
          taken = r.taken ++ line ∷ [];
          are_lines = more_lines;
          same = taken ∙ ap (λ (c : Cutter). record c { ready = drop 1 left.ready }) r.same ∙ ap (λ (l : List Bytes). record all { ready = l }) (sym (ap (λ (c : Cutter). c.ready) taken));
          drawn =
              subst (HasDrawn draws new) (sym (length_push r.taken line))
              (drawn_on draws now new (length r.taken) 1 r.drawn (drawn_one now new random draw).0);
          records = more_recorded is;
        }

    not_recorded : Looks t u → RecordsSome terms may_tell draws conn s u all.ready
    not_recorded look = record { lines = r.taken; others = left.ready; are_lines = r.are_lines; records = then_look terms may_tell conn draws s t u r.taken r.records look }

    pub stops_closed : IsSound u → TakesStep terms may_tell conn t u (Line conn line random) Closed → StopsLines terms may_tell draws new conn s u all.ready (Some StopClosed)
    stops_closed sound takes = (record { lines = r.taken ++ line ∷ []; others = next.ready; are_lines = more_lines; records = more_recorded takes.0 }, (takes.1, sound))

    pub stops_not_open : IsSound u → TakesStep terms may_tell conn t u (Line conn line random) NotOpen → StopsLines terms may_tell draws new conn s u all.ready (Some StopClosed)
    stops_not_open sound takes = (not_recorded takes.0, (takes.1, sound))

    pub stops_full : IsSound u → TakesStep terms may_tell conn t u (Line conn line random) Full → StopsLines terms may_tell draws new conn s u all.ready (Some StopFull)
    stops_full sound takes = (not_recorded takes.0, (takes.1, sound))

    pub stops_unmade : TakesStep terms may_tell conn t u (Line conn line random) NoMemory → StopsLines terms may_tell draws new conn s u all.ready (Some StopNoMemory)
    stops_unmade takes = (not_recorded takes, tt)

  -- no line is left
  module _ (next : Cutter) (none : left.ready ≡ []) (taken : next ≡ after_take left) where
    all_taken : r.taken ≡ all.ready
    all_taken = sym (append-nil r.taken) ∙ ap (λ l. r.taken ++ l) (sym none) ∙ sym r.are_lines

    pub stops_none : StopsLines terms may_tell draws now conn s t all.ready None
    stops_none = (
      subst (λ (l : List Bytes). RecordsLinesThen terms may_tell draws conn s t l None) all_taken r.records,
      subst (λ (l : List Bytes). HasDrawn draws now (length l)) all_taken r.drawn,
    )

    pub left_none : next ≡ record all { ready = [] }
    left_none =
        taken ∙ ap (λ (l : List Bytes). record left { ready = drop 1 l }) none
        ∙ ap (λ (c : Cutter). record c { ready = [] }) r.same
