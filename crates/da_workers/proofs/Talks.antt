-- What a send and a receive, one after the other, come to.
use Rattle.std.proofs.Common.{◌≡◌, ◌≤◌, inl, inr, refl, sym, ◌∙◌, ap, subst, ℕ, false, List, [], ◌∷◌, Option, Some, None, Result, Ok, Err, IfOk, true≢false, arith}
use Rattle.std.specs.declared.alloc.AllocError.{AllocError}
use Rattle.da_fields.specs.declared.answer.Answer.{Answer}
use Rattle.da_fields.specs.declared.answer.Answer.TheVariants.{Internal}
use Rattle.da_fields.specs.declared.answer.Query.{Query}
use Rattle.da_fields.specs.declared.answer.Why.TheVariants.{Died, Malformed}
use Rattle.da_outside.proofs.FileReadLemmas.{Gains-trans}
use Rattle.da_outside.specs.Causes.{Rose}
use Rattle.da_outside.specs.Got.{is_fault}
use Rattle.da_outside.specs.Link.{LinkState}
use Rattle.da_outside.specs.Past.{Gains, Stays}
use Rattle.da_outside.specs.declared.faults.Got.{Got}
use Rattle.da_outside.specs.declared.faults.Got.TheVariants.{Given, TooLong, Fault}
use Rattle.da_outside.specs.declared.link.Spoken.TheVariants.{Received, Sent}
use Rattle.da_query.specs.AnswerLines.{answer_to}
use Rattle.da_query.specs.Queries.{query_line}
use Rattle.da_workers.specs.Asking.{Asks}

pub Stays-refl : {A : Type 0} (past : Option (List A)) → Stays past past
Stays-refl None = tt
Stays-refl (Some past) = refl

Gains-stays : {A : Type 0} (a b c : Option (List A)) (xs : List A) → Gains a b xs → Stays b c → Gains a c xs
Gains-stays None b c xs one two = tt
Gains-stays (Some a) None c xs one two = absurd one
Gains-stays (Some a) (Some b) None xs one two = absurd two
Gains-stays (Some a) (Some b) (Some c) xs one two = two ∙ one

-- a fault that comes later is one since the beginning
pub Rose-since : (a b c : ℕ) → a ≤ b → Rose b c → Rose a c
Rose-since a b c later rose = omega (arith, later, rose)

not_fault : (got : Got) {P : Type 0} → is_fault got ≡ false → got ≡ Fault → P
not_fault got sound fault = absurd (true≢false (sym (ap (λ (g : Got). is_fault g) fault) ∙ sound))

module _ (query : Query) (before sent after : LinkState) (line : List ℕ) where
  -- the printed query was sent
  abbrev pub IsSent : Type 0
  IsSent = (line ≡ query_line query) × Gains before.talk sent.talk (Sent line ∷ [])

  said : IsSent → (got : Got) → Gains sent.talk after.talk (Received got ∷ []) → Gains before.talk after.talk (Sent (query_line query) ∷ Received got ∷ [])
  said is got hears = subst (λ (text : List ℕ). Gains before.talk after.talk (Sent text ∷ Received got ∷ [])) is.0 (Gains-trans before.talk sent.talk after.talk (Sent line ∷ []) (Received got ∷ []) is.1 hears)

  pub asks_line : IsSent → (bytes : List ℕ) → Gains sent.talk after.talk (Received (Given bytes) ∷ []) → (answer : Result Answer AllocError) → IfOk answer (λ a. a ≡ answer_to query bytes) → Asks query before after answer
  asks_line is bytes hears (Ok answer) reads = inl (record { got = Given bytes; talk = said is (Given bytes) hears; means = reads; failed = not_fault (Given bytes) refl })
  asks_line is bytes hears (Err wanted) reads = inr (inr (Given bytes, said is (Given bytes) hears))

  pub asks_long : IsSent → Gains sent.talk after.talk (Received TooLong ∷ []) → Asks query before after (Ok (Internal Malformed))
  asks_long is hears = inl (record { got = TooLong; talk = said is TooLong hears; means = refl; failed = not_fault TooLong refl })

  pub asks_fault : IsSent → before.faults ≤ sent.faults → Gains sent.talk after.talk (Received Fault ∷ []) → Rose sent.faults after.faults → Asks query before after (Ok (Internal Died))
  asks_fault is later hears rose = inl (record { got = Fault; talk = said is Fault hears; means = refl; failed = λ _. Rose-since before.faults sent.faults after.faults later rose })

  pub asks_nothing : IsSent → Stays sent.talk after.talk → (wanted : AllocError) → Asks query before after (Err wanted)
  asks_nothing is stays wanted = inr (inl (subst (λ (text : List ℕ). Gains before.talk after.talk (Sent text ∷ [])) is.0 (Gains-stays before.talk sent.talk after.talk (Sent line ∷ []) is.1 stays)))
