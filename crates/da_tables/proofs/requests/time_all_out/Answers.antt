use Rattle.std.proofs.Common.{arith}
use Rattle.da_request.specs.Requests.{timed_out_if_over}
use Rattle.da_tables.proofs.RowChanges.{changed_so_far}
use Rattle.da_tables.proofs.requests.time_all_out.Goals as goal

pub loop-request-preserved : goal.loop-request-preserved
loop-request-preserved c = changed_so_far (timed_out_if_over c.args.settings.now c.args.moment) c.args.requests.now c.loop-request.requests c.loop-request.request-index _ c.time_out_if_over.new.self (omega (arith, c.loop-request-test.true)) (omega (arith, c.loop-request-test.true, c.loop-request.auto.requests)) c.loop-request.invariant c.time_out_if_over.ensures
