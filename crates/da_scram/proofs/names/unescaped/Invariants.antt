use Rattle.std.proofs.Common.{◌≡◌, ◌++◌, drop}
use Rattle.std.specs.Prelude.{option_map}
use Rattle.da_scram.specs.Reading.{name_from}
use Rattle.da_scram.specs.declared.names.Escaping.TheVariants.{Plainly}
use Rattle.da_scram.proofs.names.unescaped.Given as goal

abbrev pub invariant-loop-letter : goal.invariant-loop-letter
invariant-loop-letter l = option_map (λ letters. l.name.items ++ letters) (name_from l.escaping (drop l.letter-index l.text)) ≡ name_from Plainly l.text
