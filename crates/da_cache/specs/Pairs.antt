-- Keys, each with the number of the query whose answer is kept, the most recent first.
use Rattle.std.specs.Prelude.{◌≡◌, ℕ, ◌≤◌, true, false, not, is_some, List, [], ◌∷◌, Option, take, filter, if◌then◌else◌, bytes_eq}
use Rattle.std.specs.List.{AllByRecursion}
use Rattle.std.specs.Map.{keys_of, lookup}
use Rattle.std.specs.Option.{option_map_or}
use Rattle.da_fields.specs.declared.answer.QueryKind.TheVariants.{Check}
use Rattle.da_keys.specs.Keys.{same_kind, same_key, has_key, key_first}
use Rattle.da_keys.specs.declared.key.Key.{Key}

pub record Kept : Type 0 where
  -- how many pairs there may be
  pub size : ℕ
  pub pairs : List (Key × ℕ)

abbrev pub keys : Kept → List Key
keys kept = keys_of kept.pairs

-- the number that is kept under a key
abbrev pub number_at : Key → List (Key × ℕ) → Option ℕ
number_at k pairs = lookup (same_key k) pairs

abbrev pub without_pair : Key → List (Key × ℕ) → List (Key × ℕ)
without_pair k pairs = filter (λ p. not (same_key k p.0)) pairs

abbrev pub pair_first : Key → ℕ → List (Key × ℕ) → List (Key × ℕ)
pair_first k number pairs = (k, number) ∷ without_pair k pairs

-- a key that is there comes first, with its number
abbrev pub touched : Key → List (Key × ℕ) → List (Key × ℕ)
touched k pairs = option_map_or (λ number. pair_first k number pairs) (number_at k pairs) pairs

-- each in turn
abbrev pub all_touched : List Key → List (Key × ℕ) → List (Key × ℕ)
all_touched [] pairs = pairs
all_touched (k ∷ ks) pairs = all_touched ks (touched k pairs)

-- first the hits come first, and then the key with its number; the last falls off a list that is too long
abbrev pub put_pair : ℕ → List Key → Key → ℕ → List (Key × ℕ) → List (Key × ℕ)
put_pair size hits k number pairs = take size (pair_first k number (all_touched hits pairs))

abbrev pub put_in : List Key → Key → ℕ → Kept → Kept
put_in hits k number kept = record kept { pairs = put_pair kept.size hits k number kept.pairs }

abbrev pub without_user : List ℕ → List (Key × ℕ) → List (Key × ℕ)
without_user user pairs = filter (λ p. not (bytes_eq user p.0.user)) pairs

-- the key is there now, and of the others none has changed
pub record Holds (k : Key) (old now : List (Key × ℕ)) : Type 0 where
  pub there : is_some (number_at k now) ≡ true
  pub others : without_pair k now ≡ without_pair k old

-- ---- the same of the keys alone

abbrev pub key_touched : Key → List Key → List Key
key_touched k keys = if has_key k keys then key_first k keys else keys

abbrev pub all_keys_touched : List Key → List Key → List Key
all_keys_touched [] keys = keys
all_keys_touched (k ∷ ks) keys = all_keys_touched ks (key_touched k keys)

abbrev pub key_put : ℕ → List Key → Key → List Key → List Key
key_put size hits k keys = take size (key_first k (all_keys_touched hits keys))

-- ---- what may be kept

-- the key of an answer of the 16 databases that there may be of either kind
pub record MayBeKept (k : Key) : Type 0 where
  pub kind : same_kind k.kind Check ≡ false
  pub first : 1 ≤ k.db
  pub last : k.db ≤ 16

abbrev pub AllMayBeKept : List (Key × ℕ) → Type 0
AllMayBeKept pairs = AllByRecursion (λ p. MayBeKept p.0) pairs
