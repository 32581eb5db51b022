use Rattle.std.proofs.Common.{◌≡◌, map, drop, bytes_eq}
use Rattle.std.specs.List.{list_any}
use Rattle.da_config.proofs.part.is_known.Given as goal

abbrev pub invariant-loop-other : goal.invariant-loop-other
invariant-loop-other l =
    list_any (bytes_eq l.key) (map (λ key. key.now) (drop l.other-index l.known)) ≡ list_any (bytes_eq l.key) (map (λ key. key.now) l.known)
