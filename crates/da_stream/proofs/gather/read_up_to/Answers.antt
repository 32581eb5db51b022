use Rattle.std.proofs.Common.{◌++◌, take, length-append, length-take, arith}
use Rattle.std.proofs.KnownBytes.{Consumes-trans}
use Rattle.da_stream.proofs.gather.read_up_to.Goals as goal

pub returns-then-is_err : goal.returns-then-is_err
returns-then-is_err g c =
    let more = take c.in-Ok.count c.read-in-read.new.buf in
    record {
      bytes = c.read.bytes.items ++ more;
      reads = Consumes-trans _ _ _ c.read.bytes.items more c.read.invariant.reads c.in-Ok.ensures.bytes.0;
      few = simp (length-append, length-take) (omega (arith, c.len.ensures, c.read-test.true, c.read-in-read.auto.buf));
    }
