-- A board of marks as clauses see it.
use Rattle.std.specs.Prelude.{ℕ, List}
use Rattle.da_turn_bench.specs.declared.mark.Mark.{Mark}

-- how many marks fit, and the marks, the newest first
pub record Marks : Type 0 where
  pub limit : ℕ
  pub marks : List Mark
