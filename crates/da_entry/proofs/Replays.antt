-- A history with one entry more comes to what that entry leads to.
use Rattle.std.proofs.Common.{◌≡◌, ◌∙◌, ap, List, ◌∷◌, ℕ, ◌+◌, ◌-◌, length, sum_by, arith}
use Rattle.da_entry.specs.Bridges.{IsReplayed, PassesTo}
use Rattle.da_entry.specs.declared.replayed.Replayed.{Replayed}
use Rattle.da_play.specs.Effects.{effects, entry_lines, lines}
use Rattle.da_play.specs.History.{after}
use Rattle.da_play.specs.Legal.{input_size, size}
use Rattle.da_play.specs.declared.input.Entry.{Entry}
use Rattle.da_settings.specs.declared.settings.Settings.{Settings}
use Rattle.da_tables.specs.declared.tables.Tables.{Tables}

left_over : (bytes before texts sent counted left rest : ℕ) → left ≡ bytes - before → rest ≡ left - (64 + texts + counted) → counted ≡ sent → rest ≡ bytes - (before + 64 + texts + sent)
left_over bytes before texts sent counted left rest l r c = omega (arith, l, r, c)

pub passes_on : (settings : Settings) (g : List Entry) (e : Entry) (before now : Replayed) → IsReplayed settings g before → PassesTo settings e before now → IsReplayed settings (e ∷ g) now
passes_on settings g e before now is passes = record {
  tables = passes.tables ∙ ap (λ (s : Tables). after settings s e) is.tables;
  room = left_over settings.history_bytes (size settings g) (input_size e.input) (sum_by (λ l. length l.1) (entry_lines settings e g))
      (sum_by (λ l. length l.1) (lines settings (after settings before.tables e) (effects settings before.tables e))) before.bytes_left now.bytes_left is.room passes.room
      (ap (λ (s : Tables). sum_by (λ l. length l.1) (lines settings (after settings s e) (effects settings s e))) is.tables);
}
