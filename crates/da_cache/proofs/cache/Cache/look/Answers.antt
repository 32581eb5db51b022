use Rattle.std.proofs.Common.{◌≡◌, ◌∙◌, ap, is_some, rules}
use Rattle.da_cache.specs.Pairs.{number_at}
use Rattle.da_cache.proofs.PairLists.{found_is_there}
use Rattle.da_cache.proofs.cache.Cache.look.Goals as goal

pub returns-clause-exact : goal.returns-clause-exact
returns-clause-exact c =
    let number : c.copied.result ≡ number_at c.args.key.now c.args.self.now.pairs = search rules in
    ap is_some number ∙ found_is_there c.args.key.now c.args.self.now.pairs
