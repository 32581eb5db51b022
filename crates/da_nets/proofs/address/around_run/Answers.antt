use Rattle.std.proofs.Common.{◌≡◌, ◌+◌, ◌-◌, sym, ◌∙◌, get_or, eqb, ◌&&◌, false, arith}
use Rattle.std.proofs.lemmas.Bool.{ne_eqb, and_left, and_right}
use Rattle.da_nets.proofs.Runs.{around_run-more, around_run-end}
use Rattle.da_nets.proofs.address.around_run.Goals as goal
use Rattle.da_nets.proofs.address.around_run.Goals.{else-text-at-eq58-via-then-text-at-eq58+else-text-at-eq58-2, else-text-at-eq58-via-else-text-at-eq58}

pub loop-at-preserved : goal.loop-at-preserved
loop-at-preserved c =
    let isnt : (eqb (get_or c.args.text.now (c.loop-at.at - 1) 0) 58 && eqb (get_or c.args.text.now c.loop-at.at 0) 58) ≡ false =
    elim c.else-text-at-eq58.branch [
      | else-text-at-eq58-via-then-text-at-eq58+else-text-at-eq58-2 w ↦ and_right (eqb (get_or c.args.text.now (c.loop-at.at - 1) 0) 58) (eqb (get_or c.args.text.now c.loop-at.at 0) 58) (ne_eqb (get_or c.args.text.now c.loop-at.at 0) 58 w.if-text-at-eq58-2.false)
      | else-text-at-eq58-via-else-text-at-eq58 w ↦ and_left (eqb (get_or c.args.text.now (c.loop-at.at - 1) 0) 58) (eqb (get_or c.args.text.now c.loop-at.at 0) 58) (ne_eqb (get_or c.args.text.now (c.loop-at.at - 1) 0) 58 w.if-text-at-eq58.false)
    ] in
    let next : c.loop-at.at + 1 - 1 ≡ c.loop-at.at = omega arith in
    rw next (around_run-more c.args.text.now (c.loop-at.at - 1) c.loop-at.at (omega arith) (omega arith) isnt ∙ c.loop-at.invariant)

pub returns : goal.returns
returns c = sym (around_run-end c.args.text.now (c.loop-at.at - 1) (omega arith)) ∙ c.loop-at.invariant
