-- Keys are the same exactly where they are equal, and are hashed by what they hold.
use Rattle.std.proofs.Common.{◌≡◌, refl, sym, ◌∙◌, ap, ap₂, subst, ℕ, List, Bool, true, false, ◌&&◌, ◌==◌, ◌++◌}
use Rattle.std.specs.Cmp.{IsEquivalence}
use Rattle.std.specs.Hash as fed
use Rattle.std.specs.Str.{bytes_eq}
use Rattle.std.proofs.lemmas.Bool.Decides.{Decides-eqb}
use Rattle.std.proofs.lemmas.Slice.Eq.{bytes_eq-Decides}
use Rattle.da_fields.specs.declared.answer.QueryKind.{QueryKind}
use Rattle.da_fields.specs.declared.answer.QueryKind.TheVariants.{Pass, Check, User}
use Rattle.da_keys.specs.Keys.{same_kind, same_key, kind_number}
use Rattle.da_keys.specs.declared.key.Key.{Key}

-- false is not true
abbrev IsTrueBit : Bool → Type 0
IsTrueBit true = Unit {0}
IsTrueBit false = ⊥

never : {X : Type 0} → false ≡ true → X
never e = absurd (subst IsTrueBit (sym e) tt)

same_kinds : (a b : QueryKind) → same_kind a b ≡ true → a ≡ b
same_kinds Pass Pass e = refl
same_kinds Pass Check e = never e
same_kinds Pass User e = never e
same_kinds Check Pass e = never e
same_kinds Check Check e = refl
same_kinds Check User e = never e
same_kinds User Pass e = never e
same_kinds User Check e = never e
same_kinds User User e = refl

kind_itself : (a : QueryKind) → same_kind a a ≡ true
kind_itself Pass = refl
kind_itself Check = refl
kind_itself User = refl

both : (a b : Bool) → (a && b) ≡ true → (a ≡ true) × (b ≡ true)
both true true e = (refl, refl)
both true false e = never e
both false b e = never e

pub same_is_equal : (a b : Key) → same_key a b ≡ true → a ≡ b
same_is_equal a b e =
    let first = both (same_kind a.kind b.kind && (a.db == b.db)) (bytes_eq a.user b.user) e in
    let two = both (same_kind a.kind b.kind) (a.db == b.db) first.0 in
    let kinds : a.kind ≡ b.kind = same_kinds a.kind b.kind two.0 in
    let numbers : a.db ≡ b.db = (Decides-eqb a.db b.db).0 two.1 in
    let users : a.user ≡ b.user = (bytes_eq-Decides a.user b.user).0 first.1 in
    ap (λ k. record { kind = k; db = a.db; user = a.user }) kinds ∙ ap₂ (λ (n : ℕ) (u : List ℕ). record { kind = b.kind; db = n; user = u }) numbers users

pub same_as_itself : (a : Key) → same_key a a ≡ true
same_as_itself a =
    ap₂ (λ (x y : Bool). x && y) (ap₂ (λ (x y : Bool). x && y) (kind_itself a.kind) ((Decides-eqb a.db a.db).1 refl)) ((bytes_eq-Decides a.user a.user).1 refl)

either_way : (a b : Key) (x y : Bool) → same_key a b ≡ x → same_key b a ≡ y → x ≡ y
either_way a b true y e f = sym (subst (λ k. same_key k a ≡ true) (same_is_equal a b e) (same_as_itself a)) ∙ f
either_way a b false true e f = sym e ∙ subst (λ k. same_key k b ≡ true) (same_is_equal b a f) (same_as_itself b)
either_way a b false false e f = refl

pub same_key_equiv : IsEquivalence same_key
same_key_equiv = record {
  refl = same_as_itself;
  symm = λ a b. either_way a b (same_key a b) (same_key b a) refl refl;
  congr = λ a b c e. ap (λ k. same_key k c) (same_is_equal a b e);
}

abbrev pub key_writes : Key → fed.HashWrites
key_writes k = fed.u8 (kind_number k.kind) ++ fed.u32 k.db ++ fed.slice fed.u8 k.user

pub same_writes : (a b : Key) → same_key a b ≡ true → key_writes a ≡ key_writes b
same_writes a b e = ap key_writes (same_is_equal a b e)
