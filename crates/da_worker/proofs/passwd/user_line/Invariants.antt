use Rattle.std.proofs.Common.{◌≡◌, length}
use Rattle.da_worker.specs.Passwd.{user_line}
use Rattle.da_worker.proofs.passwd.user_line.Given as goal

abbrev pub invariant-lines : goal.invariant-lines
invariant-lines l = user_line l.user l.rest ≡ user_line l.user l.file

abbrev pub decreases-lines : goal.decreases-lines
decreases-lines l = length l.rest
