use Rattle.std.proofs.Common.{◌≡◌}
use Rattle.da_cache.proofs.Users.{without_first}
use Rattle.da_cache.proofs.answers.take_out_user.Given as goal

abbrev pub invariant-loop-db : goal.invariant-loop-db
invariant-loop-db l = record {
  entries : l.answers.entries ≡ without_first l.fn.user l.db l.fn.answers.entries;
  cap : l.answers.cap ≡ l.fn.answers.cap;
  user : l.key.user ≡ l.fn.user;
}
