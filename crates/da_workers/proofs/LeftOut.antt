-- Why an answer isn't recorded.
use Rattle.std.proofs.Common.{◌≡◌, refl, subst, ℕ, Bool, true, false, cond, List, Some, Result, Ok, Err, IfOk, IfErr, inl, inr, ◌⊎◌}
use Rattle.std.specs.Prelude.{⊤}
use Rattle.std.proofs.lemmas.Option.{none-some, same_Some}
use Rattle.da_fields.specs.declared.answer.Answer.{Answer}
use Rattle.da_play.specs.History.{tables_of}
use Rattle.da_play.specs.Legal.{entry_moment, is_full}
use Rattle.da_play.specs.Play.{refusal, unless}
use Rattle.da_play.specs.declared.input.Entry.{Entry}
use Rattle.da_play.specs.declared.input.Input.TheVariants.{Answered}
use Rattle.da_play.specs.declared.outputs.Refused.{Refused}
use Rattle.da_play.specs.declared.outputs.Refused.TheVariants.{ConnLimit, HistoryFull, NoConn, NoMemory, NotLate, NotTaken, NothingWaits}
use Rattle.da_port.proofs.Causes.{refused_replies}
use Rattle.da_port.specs.Calls.{Answers, IsRefusedAfter, Looks, PortSeat, Refuses, TakesQuery}
use Rattle.da_port.specs.declared.terms.Terms.{Terms}
use Rattle.da_tables.specs.Queries.{is_running_in}
use Rattle.da_turn.specs.Seats.{seen}
use Rattle.da_workers.specs.Working.{LeavesOut, MayBeLeftOut, RecordsAnswer}

module _ (terms : Terms) (h : List Entry) (m number : ℕ) (answer : Answer) where
  by_refusal : (refused : Refused) → refusal terms.settings h (entry_moment h m) (Answered number answer) ≡ Some refused → MayBeLeftOut terms h number refused
  unfolding refusal
  by_refusal refused e = go (is_full terms.settings h) refl (is_running_in (tables_of terms.settings h) number) refl e
    where
      go : (full : Bool) → is_full terms.settings h ≡ full → (running : Bool) → is_running_in (tables_of terms.settings h) number ≡ running → cond full (Some HistoryFull) (unless running (NotTaken number)) ≡ Some refused → MayBeLeftOut terms h number refused
      go true is running runs d = subst (λ (r : Refused). MayBeLeftOut terms h number r) (same_Some HistoryFull refused d) is
      go false is true runs d = absurd (none-some refused d)
      go false is false runs d = subst (λ (r : Refused). MayBeLeftOut terms h number r) (same_Some (NotTaken number) refused d) runs

  left_out : (refused : Refused) → IsRefusedAfter terms h m (Answered number answer) refused → MayBeLeftOut terms h number refused
  left_out HistoryFull e = by_refusal HistoryFull (refused_replies terms.settings h m (Answered number answer) HistoryFull e)
  left_out (ConnLimit count) e = by_refusal (ConnLimit count) (refused_replies terms.settings h m (Answered number answer) (ConnLimit count) e)
  left_out (NoConn conn) e = by_refusal (NoConn conn) (refused_replies terms.settings h m (Answered number answer) (NoConn conn) e)
  left_out NothingWaits e = by_refusal NothingWaits (refused_replies terms.settings h m (Answered number answer) NothingWaits e)
  left_out (NotTaken query) e = by_refusal (NotTaken query) (refused_replies terms.settings h m (Answered number answer) (NotTaken query) e)
  left_out (NotLate query due) e = by_refusal (NotLate query due) (refused_replies terms.settings h m (Answered number answer) (NotLate query due) e)
  left_out NoMemory e = tt

-- by the port's reply to the answer
pub gives_answer : {T : Type 0} (terms : Terms) (may_tell : ℕ → Type 0) (s t : PortSeat) (number : ℕ) (answer : Answer) (moment : ℕ) → may_tell moment → (result : Result T Refused) →
    IfOk result (λ _. Answers terms s t moment (Answered number answer) (λ _. ⊤)) → IfErr result (λ refused. Refuses terms s t moment (Answered number answer) refused) →
    RecordsAnswer terms may_tell s t number answer ⊎ LeavesOut terms s t number
gives_answer terms may_tell s t number answer moment told (Ok done) ok err = inl (record { moment = moment; told = told; records = ok })
gives_answer terms may_tell s t number answer moment told (Err refused) ok err = inr (record { looks = err.0; refused = refused; reason = left_out terms (seen t) moment number answer refused err.1 })

-- a refused Take makes no entry
pub refused_take : (terms : Terms) (s t : PortSeat) (moment : ℕ) (refused : Refused) → TakesQuery terms s t moment (Err refused) → Looks s t
refused_take terms s t moment HistoryFull takes = takes.0
refused_take terms s t moment NoMemory takes = takes.0
refused_take terms s t moment NothingWaits takes = absurd takes
refused_take terms s t moment (ConnLimit count) takes = absurd takes
refused_take terms s t moment (NoConn conn) takes = absurd takes
refused_take terms s t moment (NotTaken query) takes = absurd takes
refused_take terms s t moment (NotLate query due) takes = absurd takes
