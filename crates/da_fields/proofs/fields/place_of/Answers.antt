use Rattle.std.proofs.Common.{arith, sym, ◌≡◌, true, false}
use Rattle.std.specs.Prelude.{bytes_eq}
use Rattle.da_fields.proofs.FieldLemmas.{lacks_more, place_found}
use Rattle.da_fields.proofs.fields.place_of.Goals as goal

pub returns-then-eq : goal.returns-then-eq
returns-then-eq c =
    let same : bytes_eq c.args.key.now c.index-pairs-at.result.0 ≡ true = rw (← c.bytes.ensures) (sym c.if-eq.ensures) in
    place_found c.args.key.now c.args.pairs.now c.loop-at.at c.index-pairs-at.result (omega arith) c.index-pairs-at.is same c.loop-at.invariant

pub loop-at-preserved : goal.loop-at-preserved
loop-at-preserved c =
    let differ : bytes_eq c.args.key.now c.index-pairs-at.result.0 ≡ false = rw (← c.bytes.ensures) (sym c.if-eq.ensures) in
    lacks_more c.args.key.now c.args.pairs.now c.loop-at.at c.index-pairs-at.result (omega arith) c.index-pairs-at.is differ c.loop-at.invariant
