use Rattle.std.proofs.Common.{◌≡◌, ◌++◌, ◌∷◌, take}
use Rattle.std.specs.Prelude.{codes}
use Rattle.std.specs.List.{flat_map}
use Rattle.da_pop3.proofs.own_lines.sasl_text.Given as goal

abbrev pub invariant-loop-name : goal.invariant-loop-name
invariant-loop-name l = l.text.items ≡ codes "SASL" ++ flat_map (λ name. 32 ∷ name) (take l.name-index l.mechanisms)
