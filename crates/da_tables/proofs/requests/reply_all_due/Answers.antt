use Rattle.std.proofs.Common.{arith}
use Rattle.da_request.specs.Requests.{replied_if_due}
use Rattle.da_tables.proofs.RowChanges.{changed_so_far}
use Rattle.da_tables.proofs.requests.reply_all_due.Goals as goal

pub loop-request-preserved : goal.loop-request-preserved
loop-request-preserved c = changed_so_far (replied_if_due c.args.settings.now c.args.moment) c.args.requests.now c.loop-request.requests c.loop-request.request-index _ c.reply_if_due.new.self (omega (arith, c.loop-request-test.true)) (omega (arith, c.loop-request-test.true, c.loop-request.auto.requests)) c.loop-request.invariant c.in_ok-reply_if_due.ensures
