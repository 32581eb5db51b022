use Rattle.std.proofs.Common.{◌≤◌, vec_len}
use Rattle.da_unix.specs.Reads.{IsFrontOfAll}
use Rattle.da_unix.proofs.programs.hear.Given as goal

abbrev pub invariant-loop : goal.invariant-loop
invariant-loop g l = record {
  short : vec_len l.reply ≤ 8194;
  bytes : IsFrontOfAll (g.R.Read.remaining l.fn.from) (g.R.Read.remaining l.from) l.reply.items;
}
