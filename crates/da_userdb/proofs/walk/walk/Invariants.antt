use Rattle.std.proofs.Common.{◌≡◌, ◌++◌, drop}
use Rattle.da_fields.specs.Answers.{Answers}
use Rattle.da_userdb.specs.UserChain.{user_walk}
use Rattle.da_userdb.specs.UserPlaces.{lookup_of}
use Rattle.da_userdb.proofs.walk.walk.Given as goal

abbrev pub invariant-loop-index : goal.invariant-loop-index
invariant-loop-index l =
    (more : Answers) → user_walk (drop l.index l.dbs) (lookup_of l.subject) (l.answers ++ more) l.progress ≡ user_walk (drop l.fn.from l.dbs) (lookup_of l.subject) (l.answers ++ more) l.fn.progress
