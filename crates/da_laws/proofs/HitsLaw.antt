-- There is one list of hits at most.
use Rattle.std.proofs.Common.{◌≡◌, refl, sym, ◌∙◌, ap₂, subst, [], ◌∷◌}
use Rattle.std.proofs.lemmas.Option.{same_Some}
use Rattle.da_laws.specs.HitLaws.{HitsAreUnique}
use Rattle.da_tables.specs.Hits.{AreHits, IsUsable, with_hit}

pub hits_are_unique : HitsAreUnique
hits_are_unique settings moment tables r [] [] a b = refl
hits_are_unique settings moment tables r [] (n ∷ ns) a b = absurd (a b.0 b.1 n b.2)
hits_are_unique settings moment tables r (m ∷ ms) [] a b = absurd (b a.0 a.1 m a.2)
hits_are_unique settings moment tables r (m ∷ ms) (n ∷ ns) a b =
    let same_question : b.0 ≡ a.0 = same_Some b.0 a.0 (sym b.1 ∙ a.1) in
    let usable : IsUsable settings moment tables r a.0 n = subst (λ q. IsUsable settings moment tables r q n) same_question b.2 in
    let same_number : n ≡ m = same_Some n m (sym usable.is_newest ∙ a.2.is_newest) in
    let rest : AreHits settings moment tables (with_hit tables a.0 n r) ns = subst (λ q. AreHits settings moment tables (with_hit tables q n r) ns) same_question b.3 in
    ap₂ (λ x xs. x ∷ xs) (sym same_number)
    (hits_are_unique settings moment tables (with_hit tables a.0 m r) ms ns a.3 (subst (λ k. AreHits settings moment tables (with_hit tables a.0 k r) ns) same_number rest))
