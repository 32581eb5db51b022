use Rattle.std.proofs.Common.{length, refl, sym, arith, length-take}
use Rattle.std.proofs.lemmas.List.{append-nil}
use Rattle.da_unix.proofs.ReadLemmas.{front_of_all}
use Rattle.da_unix.proofs.programs.hear.Goals as goal

pub returns-in-Ok-eq0-clause-bytes : goal.returns-in-Ok-eq0-clause-bytes
returns-in-Ok-eq0-clause-bytes g c =
    front_of_all (g.R.Read.remaining c.args.from.now) (g.R.Read.remaining c.loop.from) (g.R.Read.remaining c.read_on.new.from) c.loop.reply.items c.read_on.new.buf c.loop.reply.items
    c.in-Ok-eq0.field-0 0 (length c.loop.reply.items) c.loop.invariant.bytes c.in-Ok-eq0.ensures.bytes.0 refl (omega (arith, c.in-Ok-eq0.field-0-test)) (sym (append-nil c.loop.reply.items))

pub loop-preserved : goal.loop-preserved
loop-preserved g c = record {
  short = omega (arith, c.in_ok-extend_from_slice-in-Ok.ensures.len, c.min-kept.ensures, c.len.ensures, c.loop.invariant.short, length-take c.min-kept.result c.read_on.new.buf);
  bytes = front_of_all (g.R.Read.remaining c.args.from.now) (g.R.Read.remaining c.loop.from) (g.R.Read.remaining c.read_on.new.from) c.loop.reply.items c.read_on.new.buf c.extend_from_slice.new.self.items
      c.in-Ok.count c.min-kept.result c.len.result c.loop.invariant.bytes c.in-Ok.ensures.bytes.0 (omega (arith, c.len.ensures, c.loop.reply.ok.0)) c.min-kept.ensures c.in_ok-extend_from_slice-in-Ok.ensures.items;
}
