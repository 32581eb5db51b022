-- Laws on final replies.
use Rattle.std.specs.Prelude.{◌≡◌, ◌≤◌, ℕ, true, false, List, [], ◌∷◌, Some, ◌==◌, nat_le, is_some}
use Rattle.std.specs.List.{list_any}
use Rattle.da_base.specs.Words.{nth, passes_option, count_where}
use Rattle.da_play.specs.Effects.{all_final_replies, effects, entry_lines, final_replies, reply_lines}
use Rattle.da_play.specs.History.{tables_of}
use Rattle.da_play.specs.declared.input.Entry.{Entry}
use Rattle.da_request.specs.Requests.{decision, due_moment, final_line, is_due}
use Rattle.da_request.specs.declared.request.Request.{Request}
use Rattle.da_request.specs.declared.stages.Decision.{Decision}
use Rattle.da_settings.specs.declared.settings.Settings.{Settings}
use Rattle.da_tables.specs.Connections.{knows_codes_in}
use Rattle.da_tables.specs.declared.connections.Connection.{Connection}
use Rattle.da_tables.specs.declared.tables.Tables.{Tables}

-- a request has at most one final reply
abbrev pub RepliesAtMostOnce : Type 0
RepliesAtMostOnce = (settings : Settings) (h : List Entry) (n : ℕ) → count_where (λ m. m == n) (all_final_replies settings h) ≤ 1

-- after an entry no reply is left that is due at its moment
abbrev pub NothingDueIsLeft : Type 0
NothingDueIsLeft = (settings : Settings) (e : Entry) (g : List Entry) → list_any (is_due settings e.moment) (tables_of settings (e ∷ g)).requests ≡ false

-- a final reply is one of a request that is decided, by its stage or by its limit, and whose reply is due
abbrev pub RepliesAreDue : Type 0
RepliesAreDue =
    (settings : Settings) (e : Entry) (g : List Entry) (n : ℕ) →
    list_any (λ m. m == n) (final_replies (effects settings (tables_of settings g) e)) ≡ true →
    (r : Request) × (nth (tables_of settings (e ∷ g)).requests n ≡ Some r) × (is_some (decision settings r) ≡ true)
    × (r.replied ≡ Some e.moment) × (passes_option (λ due. nat_le due e.moment) (due_moment settings r) ≡ true)

-- what is decided, by its stage or by its limit, is noted as decided, unless it is cancelled
abbrev pub DecisionsAreNoted : Type 0
DecisionsAreNoted =
    (settings : Settings) (h : List Entry) (n : ℕ) (r : Request) → nth (tables_of settings h).requests n ≡ Some r →
    is_some (decision settings r) ≡ true → r.is_cancelled ≡ false → is_some r.decided ≡ true

-- a connection that has ended gets no line
abbrev pub EndedIsSilent : Type 0
EndedIsSilent =
    (settings : Settings) (e : Entry) (g : List Entry) (conn : ℕ) (c : Connection) → nth (tables_of settings g).connections conn ≡ Some c → c.is_open ≡ false →
    list_any (λ l. l.0 == conn) (entry_lines settings e g) ≡ false

-- a final reply is one line, to the connection of its request
abbrev pub RepliesAreLines : Type 0
RepliesAreLines =
    (settings : Settings) (tables : Tables) (n : ℕ) (r : Request) (d : Decision) →
    nth tables.requests n ≡ Some r → decision settings r ≡ Some d → reply_lines settings tables n ≡ (r.conn, final_line (knows_codes_in tables r.conn) r.id d) ∷ []
