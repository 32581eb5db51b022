-- What the calls answer beside what they record.
use Rattle.std.proofs.Common.{◌≡◌, refl, sym, ◌∙◌, ap, subst, ℕ, false, List, Option, None, Ok, Err, is_none, true≢false}
use Rattle.std.proofs.lemmas.Option.{none-some}
use Rattle.da_base.specs.Words.{Bytes}
use Rattle.da_fields.specs.declared.answer.Query.{Query}
use Rattle.da_msgs.specs.declared.kinds.ConnKind.{ConnKind}
use Rattle.da_play.specs.History.{tables_of}
use Rattle.da_play.specs.Play.{reply}
use Rattle.da_play.specs.declared.input.Entry.{Entry}
use Rattle.da_play.specs.declared.input.Input.TheVariants.{Line, Opened, Take}
use Rattle.da_play.specs.declared.outputs.Outputs.{Outputs}
use Rattle.da_play.specs.declared.outputs.Refused.{Refused}
use Rattle.da_play.specs.declared.outputs.Refused.TheVariants.{ConnLimit, HistoryFull, NoConn, NoMemory, NotLate, NotTaken, NothingWaits}
use Rattle.da_port.proofs.Causes.{is_take_refusal, nothing_waits, take_refusal}
use Rattle.da_port.proofs.HandedOut.{opened_connection, take_hands_out}
use Rattle.da_port.proofs.Openness.{line_leaves_open}
use Rattle.da_port.specs.Bridges.{no_query}
use Rattle.da_port.specs.Calls.{PortSeat, Records, Refuses, TakesQuery}
use Rattle.da_port.specs.declared.terms.Terms.{Terms}
use Rattle.da_tables.specs.Tables.{is_open_in}
use Rattle.da_turn.specs.Seats.{seen}

module _ (terms : Terms) (s t : PortSeat) (moment : ℕ) where
  pub connection_is_named : (kind : ConnKind) (random : Bytes) (out : Outputs) → Records terms s t moment (Opened kind random) out → out.conn ≡ None → ⊥
  connection_is_named kind random out records none =
      let opened = opened_connection terms.settings records.before moment kind random out records.replies in
      none-some opened.0 (sym none ∙ opened.1)

  pub is_open_after : (conn : ℕ) (text random : Bytes) (out : Outputs) → Records terms s t moment (Line conn text random) out → is_none out.closed ≡ is_open_in (tables_of terms.settings (seen t)) conn
  is_open_after conn text random out records =
      line_leaves_open terms.settings records.before moment conn text random out records.replies
      ∙ ap (λ (h : List Entry). is_open_in (tables_of terms.settings h) conn) (sym records.sees)

  pub query_is_taken : (out : Outputs) → Records terms s t moment Take out → TakesQuery terms s t moment (Ok out.query)
  query_is_taken out records =
      let handed = take_hands_out terms.settings records.before moment out records.replies in
      subst (λ (o : Option Query). TakesQuery terms s t moment (Ok o)) (sym handed.is_given) (record { out = out; records = records; is_given = handed.is_given; is_first = handed.is_first })

  no_reason : {P : Type 0} (refused : Refused) → is_take_refusal refused ≡ false → reply terms.settings (seen t) moment Take ≡ Err refused → P
  no_reason refused other e = absurd (true≢false (sym (take_refusal terms.settings (seen t) moment refused e) ∙ other))

  pub no_query_is_taken : (refused : Refused) → Refuses terms s t moment Take refused → TakesQuery terms s t moment (no_query refused)
  no_query_is_taken NothingWaits refuses =
      let none = nothing_waits terms.settings (seen t) moment refuses.1 in
      (refuses.0, none.0, none.1)
  no_query_is_taken HistoryFull refuses = refuses
  no_query_is_taken NoMemory refuses = refuses
  no_query_is_taken (ConnLimit count) refuses = no_reason (ConnLimit count) refl refuses.1
  no_query_is_taken (NoConn conn) refuses = no_reason (NoConn conn) refl refuses.1
  no_query_is_taken (NotTaken query) refuses = no_reason (NotTaken query) refl refuses.1
  no_query_is_taken (NotLate query due) refuses = no_reason (NotLate query due) refl refuses.1
