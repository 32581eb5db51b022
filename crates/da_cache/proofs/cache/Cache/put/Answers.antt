use Rattle.std.proofs.Common.{◌∙◌, ap, is_some}
use Rattle.std.specs.Map.{keys_of}
use Rattle.da_keys.specs.Keys.{has_key}
use Rattle.da_cache.specs.Pairs.{number_at, put_pair, key_put}
use Rattle.da_cache.proofs.PairLists.{found_is_there, found_still, few_taken, kept_put, keys_put}
use Rattle.da_cache.proofs.Standing.{standing, all_of_put}
use Rattle.da_cache.proofs.cache.Cache.put.Goals as goal

pub returns-in_default-clause-there : goal.returns-in_default-clause-there
returns-in_default-clause-there c = λ is_there.
    c.in_default.ensures.there (found_is_there c.args.key c.self.inside.answers.entries ∙ ap (λ s. has_key c.args.key (keys_of s.pairs)) c.self.view_is ∙ is_there)

pub write_first-requires : goal.write_first-requires
write_first-requires c =
    ap (λ x. is_some (number_at c.args.key x.entries)) c.bring_all_first.ensures
    ∙ found_still c.args.key c.args.hits.now c.hold.new.answers.entries c.in-Ok.ensures.held.there

pub invariant_of-self-2 : goal.invariant_of-self-2
invariant_of-self-2 c =
    let done = all_of_put c.self.inside.size c.args.number c.args.hits.now c.args.key c.self.inside.answers c.hold.new.answers c.bring_all_first.new.answers c.write_first.new.answers c.cut.new.answers
    c.in-Ok.ensures.held c.in-Ok.ensures.cap c.bring_all_first.ensures c.write_first.ensures c.cut.ensures in
    standing c.self.inside.size c.self.inside.answers _ _ done c.self.invariant.0 (few_taken c.self.inside.size _)
    (kept_put c.self.inside.size c.args.hits.now c.args.key c.args.number c.self.inside.answers.entries c.requires c.self.invariant.2)

pub returns-clause-pairs : goal.returns-clause-pairs
returns-clause-pairs c =
    let done = all_of_put c.self.inside.size c.args.number c.args.hits.now c.args.key c.self.inside.answers c.hold.new.answers c.bring_all_first.new.answers c.write_first.new.answers c.cut.new.answers
    c.in-Ok.ensures.held c.in-Ok.ensures.cap c.bring_all_first.ensures c.write_first.ensures c.cut.ensures in
    ap (λ x. record { size = c.self.inside.size; pairs = x.entries }) done
    ∙ ap (λ s. record { size = s.size; pairs = put_pair s.size c.args.hits.now c.args.key c.args.number s.pairs }) c.self.view_is

pub returns-clause-keys : goal.returns-clause-keys
returns-clause-keys c =
    let done = all_of_put c.self.inside.size c.args.number c.args.hits.now c.args.key c.self.inside.answers c.hold.new.answers c.bring_all_first.new.answers c.write_first.new.answers c.cut.new.answers
    c.in-Ok.ensures.held c.in-Ok.ensures.cap c.bring_all_first.ensures c.write_first.ensures c.cut.ensures in
    ap (λ x. keys_of x.entries) done
    ∙ keys_put c.self.inside.size c.args.hits.now c.args.key c.args.number c.self.inside.answers.entries
    ∙ ap (λ s. key_put s.size c.args.hits.now c.args.key (keys_of s.pairs)) c.self.view_is
