-- The keys of a user are taken out database by database.
use Rattle.std.proofs.Common.{◌≡◌, refl, sym, ◌∙◌, ap, List, [], ◌∷◌, ℕ, ◌+◌, ◌≤◌, Bool, true, false, not, cond, ◌&&◌, ◌||◌, ◌==◌, filter, arith}
use Rattle.std.specs.Str.{bytes_eq}
use Rattle.std.proofs.Math.Dec.{leb}
use Rattle.std.proofs.lemmas.Bool.Decides.{leb_tells, nat_tests}
use Rattle.da_fields.specs.declared.answer.QueryKind.{QueryKind}
use Rattle.da_fields.specs.declared.answer.QueryKind.TheVariants.{Pass, Check, User}
use Rattle.da_keys.specs.Keys.{same_kind, same_key}
use Rattle.da_keys.specs.declared.key.Key.{Key}
use Rattle.da_cache.specs.Pairs.{without_pair, without_user, MayBeKept, AllMayBeKept}

-- it isn't of the first databases of this user
abbrev pub stays : List ℕ → ℕ → Key × ℕ → Bool
stays user n p = not (bytes_eq user p.0.user && leb p.0.db n)

abbrev pub without_first : List ℕ → ℕ → List (Key × ℕ) → List (Key × ℕ)
without_first user n pairs = filter (stays user n) pairs

abbrev pub key_of : QueryKind → ℕ → List ℕ → Key
key_of kind db user = record { kind = kind; db = db; user = user }

up_to_next : (d n : ℕ) → leb d (n + 1) ≡ (((n + 1) == d) || leb d n)
up_to_next d n = go ((n + 1) == d) (leb d n) refl refl
  where
    go : (a b : Bool) → ((n + 1) == d) ≡ a → leb d n ≡ b → leb d (n + 1) ≡ (a || b)
    go true b e f = grind (arith, nat_tests, leb_tells d (n + 1), leb_tells d n, e, f)
    go false true e f = grind (arith, nat_tests, leb_tells d (n + 1), leb_tells d n, e, f)
    go false false e f = grind (arith, nat_tests, leb_tells d (n + 1), leb_tells d n, e, f)

not_among : (d n : ℕ) → n + 1 ≤ d → leb d n ≡ false
not_among d n h = grind (arith, nat_tests, leb_tells d n, h)

among : (d n : ℕ) → d ≤ n → leb d n ≡ true
among d n h = grind (arith, nat_tests, leb_tells d n, h)

-- one test in place of three
module _ (user : List ℕ) (n : ℕ) where
  merged_pass : (a x y : Bool) → x ≡ (a || y) → (b : Bool) → (not (a && b) && not (b && y)) ≡ not (b && x)
  merged_pass true x y e true = ap not (sym e)
  merged_pass true x y e false = refl
  merged_pass false x y e true = ap not (sym e)
  merged_pass false x y e false = refl

  merged_user : (a x y : Bool) → x ≡ (a || y) → (b : Bool) → (not (a && b) && (true && not (b && y))) ≡ not (b && x)
  merged_user true x y e true = ap not (sym e)
  merged_user true x y e false = refl
  merged_user false x y e true = ap not (sym e)
  merged_user false x y e false = refl

  tested : (kind : QueryKind) (d : ℕ) (u : List ℕ) (v : ℕ) → same_kind kind Check ≡ false
      → (not (same_key (key_of User (n + 1) user) (key_of kind d u)) && (not (same_key (key_of Pass (n + 1) user) (key_of kind d u)) && stays user n (key_of kind d u, v))) ≡ stays user (n + 1) (key_of kind d u, v)
  tested Pass d u v may = merged_pass ((n + 1) == d) (leb d (n + 1)) (leb d n) (up_to_next d n) (bytes_eq user u)
  tested User d u v may = merged_user ((n + 1) == d) (leb d (n + 1)) (leb d n) (up_to_next d n) (bytes_eq user u)
  tested Check d u v may = cc

  one_test : (p : Key × ℕ) → MayBeKept p.0 → (not (same_key (key_of User (n + 1) user) p.0) && (not (same_key (key_of Pass (n + 1) user) p.0) && stays user n p)) ≡ stays user (n + 1) p
  one_test p may = tested p.0.kind p.0.db p.0.user p.1 may.kind

  three_filters : (es : List (Key × ℕ)) → AllMayBeKept es → without_pair (key_of User (n + 1) user) (without_pair (key_of Pass (n + 1) user) (without_first user n es)) ≡ without_first user (n + 1) es
  three_filters [] all = refl
  three_filters (e ∷ es) all =
      go (not (same_key (key_of User (n + 1) user) e.0)) (not (same_key (key_of Pass (n + 1) user) e.0)) (stays user n e) refl refl (one_test e all.0) (three_filters es all.1)
    where
      f : Key × ℕ → Bool
      f p = not (same_key (key_of User (n + 1) user) p.0)

      g : Key × ℕ → Bool
      g p = not (same_key (key_of Pass (n + 1) user) p.0)

      rest : List (Key × ℕ)
      rest = filter f (filter g (without_first user n es))

      next : List (Key × ℕ)
      next = without_first user (n + 1) es

      go : (a b c : Bool) → f e ≡ a → g e ≡ b → (f e && (g e && c)) ≡ stays user (n + 1) e → rest ≡ next → filter f (filter g (cond c (e ∷ without_first user n es) (without_first user n es))) ≡ cond (stays user (n + 1) e) (e ∷ next) next
      go a b false p q same agree = agree ∙ ap (λ x. cond x (e ∷ next) next) (sym (never_kept (f e) (g e)) ∙ same)
        where
          never_kept : (x y : Bool) → (x && (y && false)) ≡ false
          never_kept true true = refl
          never_kept true false = refl
          never_kept false y = refl
      go a true true p q same agree =
          ap (λ x. filter f (cond x (e ∷ filter g (without_first user n es)) (filter g (without_first user n es)))) q
          ∙ last a p (sym (ap (λ y. f e && (y && true)) q ∙ and_true (f e)) ∙ same)
        where
          and_true : (x : Bool) → (x && true) ≡ x
          and_true true = refl
          and_true false = refl

          last : (a : Bool) → f e ≡ a → f e ≡ stays user (n + 1) e → cond (f e) (e ∷ rest) rest ≡ cond (stays user (n + 1) e) (e ∷ next) next
          last a p same = ap (λ x. cond x (e ∷ rest) rest) same ∙ ap (λ es. cond (stays user (n + 1) e) (e ∷ es) es) agree
      go a false true p q same agree =
          ap (λ x. filter f (cond x (e ∷ filter g (without_first user n es)) (filter g (without_first user n es)))) q
          ∙ agree ∙ ap (λ x. cond x (e ∷ next) next) (sym (ap (λ y. f e && (y && true)) q ∙ and_false (f e)) ∙ same)
        where
          and_false : (x : Bool) → (x && false) ≡ false
          and_false true = refl
          and_false false = refl

pub next_database : (user : List ℕ) (n : ℕ) (es : List (Key × ℕ)) → AllMayBeKept es → without_pair (key_of User (n + 1) user) (without_pair (key_of Pass (n + 1) user) (without_first user n es)) ≡ without_first user (n + 1) es
next_database = three_filters

and_never : (b : Bool) → (b && false) ≡ false
and_never true = refl
and_never false = refl

and_itself : (b : Bool) → (b && true) ≡ b
and_itself true = refl
and_itself false = refl

pub no_database : (user : List ℕ) (es : List (Key × ℕ)) → AllMayBeKept es → es ≡ without_first user 0 es
no_database user [] all = refl
no_database user (e ∷ es) all =
    ap (λ es. e ∷ es) (no_database user es all.1)
    ∙ sym (ap (λ b. cond (not (bytes_eq user e.0.user && b)) (e ∷ without_first user 0 es) (without_first user 0 es)) (not_among e.0.db 0 all.0.first)
    ∙ ap (λ b. cond (not b) (e ∷ without_first user 0 es) (without_first user 0 es)) (and_never (bytes_eq user e.0.user)))

pub all_databases : (user : List ℕ) (es : List (Key × ℕ)) → AllMayBeKept es → without_first user 16 es ≡ without_user user es
all_databases user [] all = refl
all_databases user (e ∷ es) all =
    ap (λ b. cond (not (bytes_eq user e.0.user && b)) (e ∷ without_first user 16 es) (without_first user 16 es)) (among e.0.db 16 all.0.last)
    ∙ ap (λ b. cond (not b) (e ∷ without_first user 16 es) (without_first user 16 es)) (and_itself (bytes_eq user e.0.user))
    ∙ ap (λ es. cond (not (bytes_eq user e.0.user)) (e ∷ es) es) (all_databases user es all.1)

pub kept_without_user : (user : List ℕ) (es : List (Key × ℕ)) → AllMayBeKept es → AllMayBeKept (without_user user es)
kept_without_user user [] all = tt
kept_without_user user (e ∷ es) all = go (bytes_eq user e.0.user) (kept_without_user user es all.1)
  where
    go : (b : Bool) → AllMayBeKept (without_user user es) → AllMayBeKept (cond (not b) (e ∷ without_user user es) (without_user user es))
    go true rest = rest
    go false rest = (all.0, rest)
