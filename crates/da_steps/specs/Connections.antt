-- Which connection a number names, and which an entry ends.
use Rattle.std.specs.Prelude.{ℕ, Bool, List, Option, ◌==◌}
use Rattle.da_base.specs.Words.{passes_option}
use Rattle.da_play.specs.Effects.{effects}
use Rattle.da_play.specs.History.{tables_of}
use Rattle.da_play.specs.declared.input.Entry.{Entry}
use Rattle.da_play.specs.declared.input.Input.{Input}
use Rattle.da_play.specs.declared.input.Input.TheVariants.{Gone}
use Rattle.da_settings.specs.declared.settings.Settings.{Settings}

-- the number, where there is one, is that of this connection
abbrev pub names : ℕ → Option ℕ → Bool
names conn o = passes_option (λ n. n == conn) o

-- the input, with the connection that the server closes at it, ends this connection
abbrev pub ends_by : Input → Option ℕ → ℕ → Bool
ends_by (Gone c) closed conn = c == conn
ends_by _ closed conn = passes_option (λ n. n == conn) closed

-- the entry ends this connection: it is told, or a line is sent that may not stand there
abbrev pub ends : Settings → List Entry → Entry → ℕ → Bool
ends settings g e conn = ends_by e.input (effects settings (tables_of settings g) e).closed conn
