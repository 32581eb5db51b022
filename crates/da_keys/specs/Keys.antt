-- The keys of the cache, the most recent first.
use Rattle.std.specs.Prelude.{ℕ, Bool, true, false, ◌&&◌, not, List, ◌∷◌, take, filter, if◌then◌else◌, ◌==◌, bytes_eq}
use Rattle.std.specs.List.{list_any}
use Rattle.da_fields.specs.declared.answer.QueryKind.{QueryKind}
use Rattle.da_fields.specs.declared.answer.QueryKind.TheVariants.{Pass, Check, User}
use Rattle.da_keys.specs.declared.key.Key.{Key}

abbrev pub same_kind : QueryKind → QueryKind → Bool
same_kind Pass Pass = true
same_kind Check Check = true
same_kind User User = true
same_kind _ _ = false

-- a number for each kind, by which keys are hashed
abbrev pub kind_number : QueryKind → ℕ
kind_number Pass = 0
kind_number Check = 1
kind_number User = 2

abbrev pub same_key : Key → Key → Bool
same_key a b = same_kind a.kind b.kind && (a.db == b.db) && bytes_eq a.user b.user

abbrev pub has_key : Key → List Key → Bool
has_key k keys = list_any (same_key k) keys

abbrev pub without_key : Key → List Key → List Key
without_key k keys = filter (λ x. not (same_key k x)) keys

-- a hit brings its key first
abbrev pub key_first : Key → List Key → List Key
key_first k keys = k ∷ without_key k keys

-- an answer puts its key first, and the last key falls off a list that is too long; a ttl of 0 takes the key out
abbrev pub with_key : ℕ → ℕ → Key → List Key → List Key
with_key size ttl k keys = if ttl == 0 then without_key k keys else take size (key_first k keys)
