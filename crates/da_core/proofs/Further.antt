-- What is kept beside a history with one entry more.
use Rattle.std.proofs.Common.{◌≡◌, sym, ◌∙◌, ap, ap₂, reverse, Option, List, [], ◌∷◌, ◌++◌, ℕ, ◌≤◌, ◌<◌, length, map, arith, subst}
use Rattle.std.proofs.lemmas.List.{reverse-append, length-reverse}
use Rattle.da_base.specs.Words.{Bytes}
use Rattle.da_core.specs.Bridges.{IsKept, IsNextOf, next_due}
use Rattle.da_entry.specs.Bridges.{IsReplayed}
use Rattle.da_entry.specs.declared.replayed.Entered.{Entered}
use Rattle.da_entry.specs.declared.replayed.Replayed.{Replayed}
use Rattle.da_outbox.proofs.Lines.{bytes_to-append}
use Rattle.da_outbox.specs.Outboxes.{outbox, bytes_to}
use Rattle.da_play.proofs.FewRows.{RowsFit, Few, few_rows}
use Rattle.da_play.specs.Effects.{wire, all_lines, entry_lines}
use Rattle.da_play.specs.History.{tables_of}
use Rattle.da_play.specs.Play.{outputs}
use Rattle.da_play.specs.Served.{Served}
use Rattle.da_play.specs.declared.input.Entry.{Entry}
use Rattle.da_play.specs.declared.outputs.Outputs.{Outputs}
use Rattle.da_settings.specs.declared.settings.Goal.{Goal}
use Rattle.da_settings.specs.declared.settings.Settings.{Settings}

sent_more : (settings : Settings) (g : List Entry) (e : Entry) (out : Outputs) (conn : ℕ) → out ≡ outputs settings g e →
    wire settings (e ∷ g) conn ≡ wire settings g conn ++ bytes_to conn (out.due_lines ++ out.lines)
unfolding outputs
sent_more settings g e out conn is =
    bytes_to-append conn (all_lines settings g) (entry_lines settings e g) ∙ ap (λ (o : Outputs). wire settings g conn ++ bytes_to conn (o.due_lines ++ o.lines)) (sym is)

below : (m k n : ℕ) → m ≤ k → k < n → m < n
below m k n l h = omega (arith, l, h)

-- there are at most as many rows as entries
pub rows_of : (settings : Settings) (h : List Entry) (replayed : Replayed) (n : ℕ) → IsReplayed settings h replayed → length h < n → RowsFit n replayed.tables
rows_of settings h replayed n is few =
    let rows : Few (length h) (length h) (length h) (tables_of settings h) = few_rows settings h in
    subst (RowsFit n) (sym is.tables) (record {
      connections = below (length (tables_of settings h).connections) (length h) n rows.connections few;
      requests = below (length (tables_of settings h).requests) (length h) n rows.requests few;
      queries = below (length (tables_of settings h).queries) (length h) n rows.queries few;
    })

-- what comes next, as it was computed from the fields
pub is_next : (settings : Settings) (goal : Option Goal) (entries items : List Entry) (served : Served) (entered : Entered) (dues : List (Option ℕ)) → entries ≡ items → record { settings = settings; goal = goal; history = reverse items } ≡ served →
    entered.outputs ≡ outputs settings (reverse entries) entered.entry → IsReplayed settings (entered.entry ∷ reverse entries) entered.replayed → length entries < 4294967294 →
    dues ≡ map (next_due settings) entered.replayed.tables.requests → IsNextOf served entered dues
is_next settings goal entries items served entered dues e view gives is few due =
    let short : length (entered.entry ∷ reverse entries) < 4294967295 = omega (arith, few, length-reverse entries) in
    subst (λ s. IsNextOf s entered dues) view
    (subst (λ (xs : List Entry). IsNextOf (record { settings = settings; goal = goal; history = reverse xs }) entered dues) e
    (record { gives = gives; replayed = is; few = short; dues = due }))

-- what is kept with one entry more
pub kept_more : (settings : Settings) (goal : Option Goal) (items now : List Entry) (served : Served) (entered : Entered) (dues : List (Option ℕ)) (old boxes : List Bytes) (due own : List (ℕ × Bytes)) →
    record { settings = settings; goal = goal; history = reverse items } ≡ served → IsNextOf served entered dues → ((conn : ℕ) → outbox old conn ≡ wire settings (reverse items) conn) →
    ((conn : ℕ) → outbox boxes conn ≡ outbox old conn ++ bytes_to conn (due ++ own)) → due ≡ entered.outputs.due_lines → own ≡ entered.outputs.lines → now ≡ items ++ entered.entry ∷ [] →
    IsKept settings (reverse now) entered.replayed dues boxes
kept_more settings goal items now served entered dues old boxes due own view next sent put due_is own_is last =
    let is : IsNextOf (record { settings = settings; goal = goal; history = reverse items }) entered dues = subst (λ s. IsNextOf s entered dues) (sym view) next in
    let turned : reverse now ≡ entered.entry ∷ reverse items = ap reverse last ∙ reverse-append items (entered.entry ∷ []) in
    subst (λ g. IsKept settings g entered.replayed dues boxes) (sym turned) (record {
      replayed = is.replayed;
      few = is.few;
      dues = is.dues;
      sent = λ conn. put conn ∙ ap₂ (λ (x y : Bytes). x ++ y) (sent conn) (ap₂ (λ (d o : List (ℕ × Bytes)). bytes_to conn (d ++ o)) due_is own_is) ∙ sym (sent_more settings (reverse items) entered.entry entered.outputs conn is.gives);
    })
