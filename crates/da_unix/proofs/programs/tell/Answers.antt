use Rattle.da_unix.proofs.ReadLemmas.{front_written}
use Rattle.da_unix.proofs.programs.tell.Goals as goal

pub loop-rest-preserved : goal.loop-rest-preserved
loop-rest-preserved g c =
    front_written (g.W.Write.contents c.args.to.now) (g.W.Write.contents c.loop-rest.to) (g.W.Write.contents c.write.new.self) c.args.input.now
    c.loop-rest.invariant.0 c.loop-rest.rest.now c.in-Ok.count c.loop-rest.invariant.1 c.loop-rest.invariant.2 c.in-Ok.ensures.bytes
