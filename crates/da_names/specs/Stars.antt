-- Patterns followed as far as their first star.
use Rattle.std.specs.Prelude.{◌≡◌, ◌<◌, ◌≤◌, Bool, true, false, length}
use Rattle.std.specs.List.{list_any}
use Rattle.da_base.specs.Words.{Bytes}
use Rattle.da_names.specs.Filters.{pattern_matches, endings}
use Rattle.da_names.specs.declared.filters.Reached.{Reached}
use Rattle.da_names.specs.declared.filters.Reached.TheVariants.{End, Mismatch, Star}

-- some ending of the name matches
abbrev pub some_ending_matches : Bytes → Bytes → Bool
some_ending_matches pattern name = list_any (pattern_matches pattern) (endings name)

-- the pattern behind the star, and what is left of the name
pub record ReachesStar (pattern name after left : Bytes) : Type 0 where
  pub here : pattern_matches pattern name ≡ some_ending_matches after left
  -- no later place in the name gives the star more
  pub later : some_ending_matches pattern name ≡ true → some_ending_matches after left ≡ true
  pub shorter : length after < length pattern
  pub within : length left ≤ length name

abbrev pub Reaches : Bytes → Bytes → Reached → Type 0
Reaches pattern name End = pattern_matches pattern name ≡ true
Reaches pattern name Mismatch = pattern_matches pattern name ≡ false
Reaches pattern name (Star after left) = ReachesStar pattern name after.now left.now
