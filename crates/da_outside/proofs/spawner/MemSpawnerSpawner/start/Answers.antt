use Rattle.da_outside.proofs.Starts.{All_rest}
use Rattle.da_outside.specs.Spawner.{IsUnused}
use Rattle.da_outside.proofs.spawner.MemSpawnerSpawner.start.Goals as goal

pub invariant_of-self : goal.invariant_of-self
invariant_of-self c = All_rest IsUnused c.self.inside.links.items c.in-Some.link c.take_first.new.items.items c.in-Some.ensures c.self.invariant
