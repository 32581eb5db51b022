-- A cache stands as it must after a change of its pairs.
use Rattle.std.proofs.Common.{◌≡◌, sym, ◌∙◌, ap, subst, List, ◌∷◌, ℕ, ◌+◌, ◌≤◌, length, take}
use Rattle.lru.specs.LruCache.{LruCache, lru_cache}
use Rattle.da_keys.specs.declared.key.Key.{Key}
use Rattle.da_cache.specs.Pairs.{pair_first, all_touched, put_pair, Holds, AllMayBeKept}
use Rattle.da_cache.proofs.PairLists.{others_agree}

abbrev pub Stands : ℕ → LruCache Key ℕ → Type 0
Stands size c = (c.cap ≡ size + 1) × (length c.entries ≤ size) × AllMayBeKept c.entries

pub standing : (size : ℕ) (c now : LruCache Key ℕ) (es : List (Key × ℕ)) → now ≡ lru_cache es c.cap → c.cap ≡ size + 1 → length es ≤ size → AllMayBeKept es → Stands size now
standing size c now es e cap few all = subst (Stands size) (sym e) (cap, few, all)

-- what a put does: the key is held, the hits come first, the key is written first, and the last falls off
pub all_of_put : (size number : ℕ) (hits : List Key) (k : Key) (old held hit first now : LruCache Key ℕ) → Holds k old.entries held.entries → held.cap ≡ old.cap
    → hit ≡ lru_cache (all_touched hits held.entries) held.cap → first ≡ lru_cache (pair_first k number hit.entries) hit.cap → now ≡ lru_cache (take size first.entries) first.cap
    → now ≡ lru_cache (put_pair size hits k number old.entries) old.cap
all_of_put size number hits k old held hit first now holds cap e f g =
    g ∙ ap (λ c. lru_cache (take size c.entries) c.cap) (f ∙ ap (λ c. lru_cache (pair_first k number c.entries) c.cap) e)
    ∙ ap (λ es. lru_cache (take size ((k, number) ∷ es)) held.cap) (others_agree k hits held.entries old.entries holds.others)
    ∙ ap (lru_cache (put_pair size hits k number old.entries)) cap
