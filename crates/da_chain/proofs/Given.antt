-- Lemmas on the answers so far.
use Rattle.std.proofs.Common.{◌≡◌, ◌≢◌, ℕ, Bool, [], ◌∷◌, ◌++◌, Option, Some, None, refl, ap, ◌∙◌, append_assoc, inl, inr, cond, eqb, ne_eqb, eq-eqb}
use Rattle.std.proofs.lemmas.Bool.{cases_Bool}
use Rattle.da_fields.specs.Answers.{Answers, answer_from}
use Rattle.da_fields.specs.declared.answer.Answer.{Answer}

-- an answer stays, whatever is answered later
pub answer_from-some : (n : ℕ) (answers more : Answers) (a : Answer) → answer_from n answers ≡ Some a → answer_from n (answers ++ more) ≡ Some a
answer_from-some n [] more a is = cc
answer_from-some n (p ∷ answers) more a is =
    elim (cases_Bool (eqb p.0 n)) [
      | inl e ↦ rw e (rw e at is)
      | inr e ↦ rw e (answer_from-some n answers more a (rw e at is))
    ]

-- where there is none, later answers count
answer_from-none : (n : ℕ) (answers more : Answers) → answer_from n answers ≡ None → answer_from n (answers ++ more) ≡ answer_from n more
answer_from-none n [] more none = refl
answer_from-none n (p ∷ answers) more none =
    elim (cases_Bool (eqb p.0 n)) [
      | inl e ↦ let some : ◌≡◌ {A = Option Answer} (Some p.1) None = rw e at none in absurd (cc)
      | inr e ↦ rw e (answer_from-none n answers more (rw e at none))
    ]

-- one answer is that of its own database alone
answer_from-own : (n : ℕ) (a : Answer) (more : Answers) → answer_from n ((n, a) ∷ more) ≡ Some a
answer_from-own n a more = ap (λ (b : Bool). cond b (Some a) (answer_from n more)) (eq-eqb n n refl)

answer_from-other : (n m : ℕ) (a : Answer) (more : Answers) → m ≢ n → answer_from n ((m, a) ∷ more) ≡ answer_from n more
answer_from-other n m a more differ = ap (λ (b : Bool). cond b (Some a) (answer_from n more)) (ne_eqb m n differ)

-- a database that had no answer has the one that it is given, whatever is answered later
pub answer_from-given : (n : ℕ) (answers more : Answers) (a : Answer) → answer_from n answers ≡ None → answer_from n ((answers ++ (n, a) ∷ []) ++ more) ≡ Some a
answer_from-given n answers more a none =
    ap (answer_from n) (append_assoc answers ((n, a) ∷ []) more) ∙ answer_from-none n answers ((n, a) ∷ more) none ∙ answer_from-own n a more

-- and another has none still
pub answer_from-still : (n m : ℕ) (answers : Answers) (a : Answer) → answer_from n answers ≡ None → m ≢ n → answer_from n (answers ++ (m, a) ∷ []) ≡ None
answer_from-still n m answers a none differ = answer_from-none n answers ((m, a) ∷ []) none ∙ answer_from-other n m a [] differ
