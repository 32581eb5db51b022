use Rattle.std.proofs.Common.{◌≡◌, ◌+◌, ◌∙◌, ap, ap₂, refl, arith}
use Rattle.lru.specs.LruCache.{lru_cache}
use Rattle.da_fields.specs.declared.answer.QueryKind.TheVariants.{Pass, User}
use Rattle.da_cache.specs.Pairs.{without_pair}
use Rattle.da_cache.proofs.Users.{key_of, without_first, no_database, next_database, all_databases}
use Rattle.da_cache.proofs.answers.take_out_user.Goals as goal

pub loop-db-init : goal.loop-db-init
loop-db-init c = record { entries = no_database c.args.user c.args.answers.now.entries c.requires; cap = refl; user = refl }

pub loop-db-preserved : goal.loop-db-preserved
loop-db-preserved c = record {
  entries =
      ap (λ x. x.entries) c.take_out-in-loop-db.ensures
      ∙ ap (λ x. without_pair (key_of User (c.loop-db.db + 1) c.loop-db.key.user) x.entries) c.take_out.ensures
      ∙ ap (λ u. without_pair (key_of User (c.loop-db.db + 1) u) (without_pair (key_of Pass (c.loop-db.db + 1) u) c.loop-db.answers.entries)) c.loop-db.invariant.user
      ∙ ap (λ es. without_pair (key_of User (c.loop-db.db + 1) c.args.user) (without_pair (key_of Pass (c.loop-db.db + 1) c.args.user) es)) c.loop-db.invariant.entries
      ∙ next_database c.args.user c.loop-db.db c.args.answers.now.entries c.requires;
  cap = ap (λ x. x.cap) c.take_out-in-loop-db.ensures ∙ ap (λ x. x.cap) c.take_out.ensures ∙ c.loop-db.invariant.cap;
  user = c.loop-db.invariant.user;
}

pub returns : goal.returns
returns c =
    let at_end : c.loop-db.db ≡ 16 = omega (arith, c.loop-db-test.false, c.loop-db.auto.db-end) in
    ap₂ lru_cache (c.loop-db.invariant.entries ∙ ap (λ n. without_first c.args.user n c.args.answers.now.entries) at_end ∙ all_databases c.args.user c.args.answers.now.entries c.requires) c.loop-db.invariant.cap
