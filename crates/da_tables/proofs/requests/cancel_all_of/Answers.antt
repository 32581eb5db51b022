use Rattle.std.proofs.Common.{arith}
use Rattle.da_request.specs.Requests.{as_cancelled_of}
use Rattle.da_tables.proofs.RowChanges.{changed_so_far}
use Rattle.da_tables.proofs.requests.cancel_all_of.Goals as goal

pub loop-request-preserved : goal.loop-request-preserved
loop-request-preserved c = changed_so_far (as_cancelled_of c.args.conn) c.args.requests.now c.loop-request.requests c.loop-request.request-index _ c.cancel_of.new.request (omega (arith, c.loop-request-test.true)) (omega (arith, c.loop-request-test.true, c.loop-request.auto.requests)) c.loop-request.invariant c.cancel_of.ensures
