-- Bridges: what a history comes to when it is replayed. Only the code of servers cites them.
use Rattle.std.specs.Prelude.{◌≡◌, ◌+◌, ◌-◌, List, length, sum_by}
use Rattle.da_entry.specs.declared.replayed.Replayed.{Replayed}
use Rattle.da_play.specs.Effects.{effects, lines}
use Rattle.da_play.specs.History.{after, tables_of}
use Rattle.da_play.specs.Legal.{input_size, size}
use Rattle.da_play.specs.declared.input.Entry.{Entry}
use Rattle.da_settings.specs.declared.settings.Settings.{Settings}

-- the history comes to this: the tables at its end, and how many bytes it may still grow by
pub record IsReplayed (settings : Settings) (h : List Entry) (replayed : Replayed) : Type 0 where
  pub tables : replayed.tables ≡ tables_of settings h
  pub room : replayed.bytes_left ≡ settings.history_bytes - size settings h

-- an entry more leads from the one to the other
pub record PassesTo (settings : Settings) (e : Entry) (before now : Replayed) : Type 0 where
  pub tables : now.tables ≡ after settings before.tables e
  pub room : now.bytes_left ≡ before.bytes_left - (64 + input_size e.input + sum_by (λ l. length l.1) (lines settings (after settings before.tables e) (effects settings before.tables e)))
