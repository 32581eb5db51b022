use Rattle.std.proofs.Common.{◌≡◌, map, drop}
use Rattle.da_config.specs.Choices.{named}
use Rattle.da_config.proofs.choices.named.Given as goal

abbrev pub invariant-loop-choice : goal.invariant-loop-choice
invariant-loop-choice g l =
    named (map (λ choice. (choice.0, choice.1.now)) (drop l.choice-index l.choices)) l.text
    ≡ named (map (λ choice. (choice.0, choice.1.now)) l.choices) l.text
