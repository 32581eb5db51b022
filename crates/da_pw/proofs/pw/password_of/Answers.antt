use Rattle.da_pw.proofs.PwLemmas.{no_password, no_one_line}
use Rattle.da_pw.proofs.pw.password_of.Goals.{else-is_empty-via-then-is_empty+else-fits, else-is_empty-via-else-is_empty}
use Rattle.da_pw.proofs.pw.password_of.Goals as goal

pub returns-else-is_empty : goal.returns-else-is_empty
returns-else-is_empty c =
    elim c.else-is_empty.branch [
      | else-is_empty-via-then-is_empty+else-fits w ↦
          no_password c.args.bytes.now c.in_ok-plain.plain.now c.in_ok-plain.rest.now c.in_ok-plain.ensures.split w.if-fits.ensures
      | else-is_empty-via-else-is_empty w ↦
          no_one_line c.args.bytes.now c.in_ok-plain.plain.now c.in_ok-plain.rest.now c.in_ok-plain.ensures.split w.if-is_empty.ensures
    ]
