use Rattle.std.proofs.Common.{subst, sym, ◌<◌, length, eq-eqb, ne_eqb, arith}
use Rattle.da_pool.proofs.Steps.{Dropped, one_kept, one_removed}
use Rattle.da_pool.proofs.pool.remove_of.Goals as goal
use Rattle.da_pool.proofs.pool.remove_of.Goals.{then-request-asker, else-request-asker}

pub loop-place-preserved : goal.loop-place-preserved
loop-place-preserved c =
    let within : c.loop-place.place < length c.args.waiting.now.items = omega (arith, c.loop-place-test.true, c.loop-place.auto.place-end, c.len-place-end.ensures, c.args.waiting.now.ok.0) in
    elim c.if-request-asker.branch [
      | then-request-asker w ↦ subst (Dropped _ _ _ _) (sym w.queue-is)
          (one_removed _ _ _ _ _ _ within c.index.ensures _ c.loop-place.invariant (eq-eqb _ _ w.if-request-asker.true) w.remove.ensures.apart w.remove.ensures.gone)
      | else-request-asker w ↦ subst (Dropped _ _ _ _) (sym w.queue-is)
          (one_kept _ _ _ _ _ _ within c.index.ensures c.loop-place.invariant (ne_eqb _ _ w.if-request-asker.false))
    ]
