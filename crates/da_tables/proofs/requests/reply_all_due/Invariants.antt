use Rattle.std.proofs.Common.{◌≡◌, map, take, drop, ◌++◌}
use Rattle.da_request.specs.Requests.{replied_if_due}
use Rattle.da_tables.proofs.requests.reply_all_due.Given as goal

-- the requests so far are replied where that is due, and the others are as they were
abbrev pub invariant-loop-request : goal.invariant-loop-request
invariant-loop-request l = l.requests ≡ map (replied_if_due l.settings l.moment) (take l.request-index l.fn.requests) ++ drop l.request-index l.fn.requests
