-- What becomes of a query that is answered: its request has the answer, or it is lost and the same is asked again.
use Rattle.std.proofs.Common.{◌≡◌, ◌⊎◌, inl, inr, refl, sym, ◌∙◌, ap, ap₂, subst, Option, Some, None, List, [], ◌∷◌, ◌++◌, ℕ, zero, suc, ◌<◌, Bool, true, false, cond, not, ◌&&◌, length, map, is_some, ◌==◌, true≢false, arith, eq-eqb}
use Rattle.std.proofs.lemmas.Bool.{eqb-true}
use Rattle.std.proofs.lemmas.Option.{none-some, same_Some}
use Rattle.da_base.specs.Words.{Bytes, nth, changed_nth, number_where, passes_option}
use Rattle.da_fields.specs.Answers.{Answers, answer_from}
use Rattle.da_fields.specs.declared.answer.Answer.{Answer}
use Rattle.da_tables.specs.RecordedAnswers.{asks_same, is_death, is_kept_kind, is_lost, is_lost_in}
use Rattle.da_invariants.proofs.Lost.{SameQuery, lost_in, lost_stays}
use Rattle.da_request.specs.Requests.{as_cancelled_of, cancelled, is_due, is_of, is_over_limit, is_pending, is_undecided, question_in, replied, replied_if_due, request_stage, timed_out, timed_out_if_over, with_answer, with_decision, with_late_answer, with_text}
use Rattle.da_request.specs.declared.request.Request.{Request}
use Rattle.da_request.specs.declared.stages.Question.{Question}
use Rattle.da_settings.specs.declared.settings.Settings.{Settings}
use Rattle.da_steps.proofs.Standing.{RowsStand, changed_rows, longer_rows, mapped_rows, same_rows}
use Rattle.da_tables.proofs.Cases.{and_first, and_second, by_test}
use Rattle.da_tables.proofs.Rows.{of_changed, passing}
use Rattle.da_tables.specs.declared.queries.QueryRow.{QueryRow}

-- ---- rows of queries

-- a query keeps its request, its question and its answer
pub record KeepsAnswer (a b : QueryRow) : Type 0 where
  pub request : b.request ≡ a.request
  pub question : b.question ≡ a.question
  pub answer : (p : Answer × ℕ) → a.answer ≡ Some p → b.answer ≡ Some p

pub keeps_own : (a : QueryRow) → KeepsAnswer a a
keeps_own a = record { request = refl; question = refl; answer = λ p e. e }

keeps_later : (a b c : QueryRow) → KeepsAnswer a b → KeepsAnswer b c → KeepsAnswer a c
keeps_later a b c f g = record { request = g.request ∙ f.request; question = g.question ∙ f.question; answer = λ p e. g.answer p (f.answer p e) }

-- each row was there before
abbrev pub WereThere : List QueryRow → List QueryRow → Type 0
WereThere qs ts = (k : ℕ) (b : QueryRow) → nth ts k ≡ Some b → (a : QueryRow) × (nth qs k ≡ Some a)

-- and each answer
abbrev pub WereTold : List QueryRow → List QueryRow → Type 0
WereTold qs ts = (k : ℕ) (b : QueryRow) (p : Answer × ℕ) → nth ts k ≡ Some b → b.answer ≡ Some p → (a : QueryRow) × (nth qs k ≡ Some a) × (a.answer ≡ Some p)

pub changed_kept : (f : QueryRow → QueryRow) (qs : List QueryRow) (m : ℕ) → ((a : QueryRow) → nth qs m ≡ Some a → KeepsAnswer a (f a)) → RowsStand KeepsAnswer qs (changed_nth f qs m)
changed_kept f qs m h = changed_rows KeepsAnswer keeps_own keeps_later f qs m h

pub longer_kept : (qs ts : List QueryRow) → RowsStand KeepsAnswer qs (qs ++ ts)
longer_kept qs ts = longer_rows KeepsAnswer keeps_own keeps_later qs ts

pub same_kept : (qs : List QueryRow) → RowsStand KeepsAnswer qs qs
same_kept qs = same_rows KeepsAnswer keeps_own keeps_later qs

pub changed_there : (f : QueryRow → QueryRow) (qs : List QueryRow) (m : ℕ) → WereThere qs (changed_nth f qs m)
changed_there f qs m k b e = go (of_changed f qs m k b e)
  where
    go : ((k ≡ m) × (a : QueryRow) × (nth qs m ≡ Some a) × (b ≡ f a)) ⊎ ((k ≡ m → ⊥) × (nth qs k ≡ Some b)) → (a : QueryRow) × (nth qs k ≡ Some a)
    go (inl (d, a, is, w)) = (a, ap (nth qs) d ∙ is)
    go (inr (d, is)) = (b, is)

-- a change that leaves the answer
pub changed_told : (f : QueryRow → QueryRow) → ((a : QueryRow) → (f a).answer ≡ a.answer) → (qs : List QueryRow) (m : ℕ) → WereTold qs (changed_nth f qs m)
changed_told f h qs m k b p e t = go (of_changed f qs m k b e)
  where
    go : ((k ≡ m) × (a : QueryRow) × (nth qs m ≡ Some a) × (b ≡ f a)) ⊎ ((k ≡ m → ⊥) × (nth qs k ≡ Some b)) → (a : QueryRow) × (nth qs k ≡ Some a) × (a.answer ≡ Some p)
    go (inl (d, a, is, w)) = (a, ap (nth qs) d ∙ is, sym (h a) ∙ sym (ap (λ (x : QueryRow). x.answer) w) ∙ t)
    go (inr (d, is)) = (b, is, t)

-- ---- queries that are lost

-- a lost query has an answer, which lost it
pub lost_row : (qs : List QueryRow) (k : ℕ) (a : QueryRow) → nth qs k ≡ Some a → is_lost_in qs k ≡ true → (p : Answer × ℕ) × (a.answer ≡ Some p) × (is_lost qs k a p.0 ≡ true)
lost_row qs k a is e = passing (λ (p : Answer × ℕ). is_lost qs k a p.0) a.answer (sym (ap (passes_option (λ (x : QueryRow). passes_option (λ (p : Answer × ℕ). is_lost qs k x p.0) x.answer)) is) ∙ e)

keep_same : (qs ts : List QueryRow) → RowsStand KeepsAnswer qs ts → RowsStand SameQuery qs ts
keep_same qs ts rows n a is = let row : (b : QueryRow) × (nth ts n ≡ Some b) × KeepsAnswer a b = rows n a is in (row.0, row.1, record { request = row.2.request; question = row.2.question })

-- what is lost stays lost
pub lost_kept : (qs ts : List QueryRow) → RowsStand KeepsAnswer qs ts → (k : ℕ) (a : QueryRow) → nth qs k ≡ Some a → is_lost_in qs k ≡ true → is_lost_in ts k ≡ true
lost_kept qs ts rows k a is e = go (rows k a is) (lost_row qs k a is e)
  where
    go : (b : QueryRow) × (nth ts k ≡ Some b) × KeepsAnswer a b → (p : Answer × ℕ) × (a.answer ≡ Some p) × (is_lost qs k a p.0 ≡ true) → is_lost_in ts k ≡ true
    go (b, at, s) (p, told, lost) =
        lost_in ts k b p at (s.answer p told)
        ∙ lost_stays qs ts (keep_same qs ts rows) k a b p.0 is (record { request = s.request; question = s.question }) ∙ lost

-- a lost query is the first of its request to its database
lost_first : (qs : List QueryRow) (k : ℕ) (a : QueryRow) → nth qs k ≡ Some a → is_lost_in qs k ≡ true → number_where (asks_same a) qs ≡ k
lost_first qs k a is e = go (lost_row qs k a is e)
  where
    go : (p : Answer × ℕ) × (a.answer ≡ Some p) × (is_lost qs k a p.0 ≡ true) → number_where (asks_same a) qs ≡ k
    go (p, told, lost) = eqb-true (number_where (asks_same a) qs) k (and_second (is_death p.0 && is_kept_kind a.question.kind) (number_where (asks_same a) qs == k) lost)

-- so of two queries of a request to a database one is lost at most
pub one_is_lost : (qs : List QueryRow) (k m : ℕ) (a b : QueryRow) → nth qs k ≡ Some a → nth qs m ≡ Some b → b.request ≡ a.request → b.question.db ≡ a.question.db →
    is_lost_in qs k ≡ true → is_lost_in qs m ≡ true → k ≡ m
one_is_lost qs k m a b x y r d v w =
    sym (lost_first qs k a x v)
    ∙ ap₂ (λ (i j : ℕ). number_where (λ (z : QueryRow). (z.request == i) && (z.question.db == j)) qs) (sym r) (sym d)
    ∙ lost_first qs m b y w

-- ---- the answers that a request has

abbrev pub has_answer : ℕ → Request → Bool
has_answer db r = is_some (answer_from db r.answers)

answer_stays : (answers more : Answers) (db : ℕ) → is_some (answer_from db answers) ≡ true → is_some (answer_from db (answers ++ more)) ≡ true
answer_stays [] more db e = absurd (true≢false (sym e))
answer_stays (p ∷ answers) more db e = go (p.0 == db) (answer_stays answers more db) e
  where
    go : (b : Bool) → (is_some (answer_from db answers) ≡ true → is_some (answer_from db (answers ++ more)) ≡ true) → is_some (cond b (Some p.1) (answer_from db answers)) ≡ true → is_some (cond b (Some p.1) (answer_from db (answers ++ more))) ≡ true
    go true rest d = refl
    go false rest d = rest d

pub last_answer : (answers : Answers) (new db : ℕ) (answer : Answer) → new ≡ db → is_some (answer_from db (answers ++ (new, answer) ∷ [])) ≡ true
last_answer [] new db answer e = ap (λ (b : Bool). is_some (cond b (Some answer) None)) (eq-eqb new db e)
last_answer (p ∷ answers) new db answer e = go (p.0 == db) (last_answer answers new db answer e)
  where
    go : (b : Bool) → is_some (answer_from db (answers ++ (new, answer) ∷ [])) ≡ true → is_some (cond b (Some p.1) (answer_from db (answers ++ (new, answer) ∷ []))) ≡ true
    go true rest = refl
    go false rest = rest

-- a request keeps its answers, and is undecided only where it was
pub record KeepsAnswers (r s : Request) : Type 0 where
  pub undecided : is_undecided s ≡ true → is_undecided r ≡ true
  pub answers : (db : ℕ) → has_answer db r ≡ true → has_answer db s ≡ true

own_answers : (r : Request) → KeepsAnswers r r
own_answers r = record { undecided = λ u. u; answers = λ db h. h }

later_answers : (a b c : Request) → KeepsAnswers a b → KeepsAnswers b c → KeepsAnswers a c
later_answers a b c f g = record { undecided = λ u. f.undecided (g.undecided u); answers = λ db h. g.answers db (f.answers db h) }

cancelled_isn't : (r : Request) → is_undecided (cancelled r) ≡ true → ⊥
cancelled_isn't r u = true≢false (sym u)

replied_isn't : (moment : ℕ) (r : Request) → is_undecided (replied moment r) ≡ true → ⊥
replied_isn't moment r u = true≢false (sym (and_second (not r.is_cancelled) false (and_first (not r.is_cancelled && false) _ u)))

timed_out_isn't : (moment : ℕ) (r : Request) → is_undecided (timed_out moment r) ≡ true → ⊥
timed_out_isn't moment r u = true≢false (sym (and_second (is_pending r) false u))

pub cancelled_keeps_answers : (r : Request) → KeepsAnswers r (cancelled r)
cancelled_keeps_answers r = record { undecided = λ u. absurd (cancelled_isn't r u); answers = λ db h. h }

pub cancelled_of_keeps_answers : (conn : ℕ) (r : Request) → KeepsAnswers r (as_cancelled_of conn r)
cancelled_of_keeps_answers conn r = by_test (KeepsAnswers r) (is_of conn r) (cancelled r) r (λ e. cancelled_keeps_answers r) (λ e. own_answers r)

pub text_keeps_answers : (text : Bytes) (r : Request) → KeepsAnswers r (with_text text r)
text_keeps_answers text r = record { undecided = λ u. u; answers = λ db h. h }

pub answer_keeps_answers : (db : ℕ) (answer : Answer) (r : Request) → KeepsAnswers r (with_answer db answer r)
answer_keeps_answers db answer r = record { undecided = λ u. u; answers = λ other h. answer_stays r.answers ((db, answer) ∷ []) other h }

pub late_keeps_answers : (db : ℕ) (answer : Answer) (r : Request) → KeepsAnswers r (with_late_answer db answer r)
late_keeps_answers db answer r = by_test (KeepsAnswers r) (is_some r.decided && not r.is_timed_out) r (with_answer db answer r) (λ e. own_answers r) (λ e. answer_keeps_answers db answer r)

pub replied_keeps_answers : (settings : Settings) (moment : ℕ) (r : Request) → KeepsAnswers r (replied_if_due settings moment r)
replied_keeps_answers settings moment r = by_test (KeepsAnswers r) (is_due settings moment r) (replied moment r) r
    (λ e. record { undecided = λ u. absurd (replied_isn't moment r u); answers = λ db h. h })
    (λ e. own_answers r)

pub timed_out_keeps_answers : (settings : Settings) (moment : ℕ) (r : Request) → KeepsAnswers r (timed_out_if_over settings moment r)
timed_out_keeps_answers settings moment r = by_test (KeepsAnswers r) (is_over_limit settings moment r) (timed_out moment r) r
    (λ e. record { undecided = λ u. absurd (timed_out_isn't moment r u); answers = λ db h. h })
    (λ e. own_answers r)

pub decided_isn't : (settings : Settings) (moment : ℕ) (r : Request) → is_undecided (with_decision settings moment r) ≡ true → ⊥
decided_isn't settings moment r u =
    true≢false (sym (and_second (is_pending r) false ((replied_keeps_answers settings moment (record r { decided = Some moment })).undecided u)))

pub decision_keeps_answers : (settings : Settings) (moment : ℕ) (r : Request) → KeepsAnswers r (with_decision settings moment r)
decision_keeps_answers settings moment r = record {
  undecided = λ u. absurd (decided_isn't settings moment r u);
  answers = λ db h. (replied_keeps_answers settings moment (record r { decided = Some moment })).answers db h;
}

pub changed_keep_answers : (f : Request → Request) → ((r : Request) → KeepsAnswers r (f r)) → (rs : List Request) (n : ℕ) → RowsStand KeepsAnswers rs (changed_nth f rs n)
changed_keep_answers f h rs n = changed_rows KeepsAnswers own_answers later_answers f rs n (λ r is. h r)

pub mapped_keep_answers : (f : Request → Request) → ((r : Request) → KeepsAnswers r (f r)) → (rs : List Request) → RowsStand KeepsAnswers rs (map f rs)
mapped_keep_answers f h rs = mapped_rows KeepsAnswers own_answers later_answers f h rs

pub longer_keep_answers : (rs ss : List Request) → RowsStand KeepsAnswers rs (rs ++ ss)
longer_keep_answers rs ss = longer_rows KeepsAnswers own_answers later_answers rs ss

pub same_keep_answers : (rs : List Request) → RowsStand KeepsAnswers rs rs
same_keep_answers rs = same_rows KeepsAnswers own_answers later_answers rs

-- ---- answered queries

-- a later query asks the same database for the same request
pub record IsAskedAgain (qs : List QueryRow) (k : ℕ) (a : QueryRow) : Type 0 where
  pub number : ℕ
  pub is_later : k < number
  pub row : QueryRow
  pub is_there : nth qs number ≡ Some row
  pub request : row.request ≡ a.request
  pub db : row.question.db ≡ a.question.db

abbrev pub HasRequests : List Request → List QueryRow → Type 0
HasRequests rs qs = (k : ℕ) (a : QueryRow) → nth qs k ≡ Some a → (r : Request) × (nth rs a.request ≡ Some r)

-- of two queries of a request to one database the first is lost, and both ask the same
abbrev pub AllRepeat : List QueryRow → Type 0
AllRepeat qs = (k m : ℕ) (a b : QueryRow) → nth qs k ≡ Some a → nth qs m ≡ Some b → k < m → b.request ≡ a.request → b.question.db ≡ a.question.db →
    (is_lost_in qs k ≡ true) × (b.question ≡ a.question)

pub has_requests_kept : (rs ss : List Request) (qs ts : List QueryRow) → RowsStand KeepsAnswers rs ss → RowsStand KeepsAnswer qs ts → WereThere qs ts → HasRequests rs qs → HasRequests ss ts
has_requests_kept rs ss qs ts requests queries were p k b e = go (were k b e)
  where
    go : (a : QueryRow) × (nth qs k ≡ Some a) → (s : Request) × (nth ss b.request ≡ Some s)
    go (a, is) =
        let row : (c : QueryRow) × (nth ts k ≡ Some c) × KeepsAnswer a c = queries k a is in
        let request : (r : Request) × (nth rs a.request ≡ Some r) = p k a is in
        let later : (s : Request) × (nth ss a.request ≡ Some s) × KeepsAnswers request.0 s = requests a.request request.0 request.1 in (
          later.0,
          ap (nth ss) (ap (λ (x : QueryRow). x.request) (same_Some b row.0 (sym e ∙ row.1)) ∙ row.2.request) ∙ later.1,
        )

pub repeats_kept : (qs ts : List QueryRow) → RowsStand KeepsAnswer qs ts → WereThere qs ts → AllRepeat qs → AllRepeat ts
repeats_kept qs ts rows were p k m c d x y l r w = go (were k c x) (were m d y)
  where
    go : (a : QueryRow) × (nth qs k ≡ Some a) → (b : QueryRow) × (nth qs m ≡ Some b) → (is_lost_in ts k ≡ true) × (d.question ≡ c.question)
    go (a, is) (b, at) =
        let first : (e : QueryRow) × (nth ts k ≡ Some e) × KeepsAnswer a e = rows k a is in
        let second : (e : QueryRow) × (nth ts m ≡ Some e) × KeepsAnswer b e = rows m b at in
        let c_is : c ≡ first.0 = same_Some c first.0 (sym x ∙ first.1) in
        let d_is : d ≡ second.0 = same_Some d second.0 (sym y ∙ second.1) in
        let request_a : c.request ≡ a.request = ap (λ (z : QueryRow). z.request) c_is ∙ first.2.request in
        let request_b : d.request ≡ b.request = ap (λ (z : QueryRow). z.request) d_is ∙ second.2.request in
        let question_a : c.question ≡ a.question = ap (λ (z : QueryRow). z.question) c_is ∙ first.2.question in
        let question_b : d.question ≡ b.question = ap (λ (z : QueryRow). z.question) d_is ∙ second.2.question in
        let both : (is_lost_in qs k ≡ true) × (b.question ≡ a.question) = p k m a b is at l (sym request_b ∙ r ∙ request_a)
        (ap (λ (z : Question). z.db) (sym question_b) ∙ w ∙ ap (λ (z : Question). z.db) question_a) in
        (lost_kept qs ts rows k a is both.0, question_b ∙ both.1 ∙ sym question_a)

module _ (settings : Settings) where
  -- the request of the query is the one that continues, and still asks this question
  pub record StillAsks (m : Option ℕ) (r : Request) (a : QueryRow) : Type 0 where
    pub continues : m ≡ Some a.request
    pub asks : question_in (request_stage settings r) ≡ Some a.question

  -- the undecided request of an answered query has its answer; or the query is lost, and then the same is asked again, or is to be
  abbrev pub IsAccounted : List QueryRow → Option ℕ → ℕ → QueryRow → Request → Type 0
  IsAccounted qs m k a r = (has_answer a.question.db r ≡ true) ⊎ ((is_lost_in qs k ≡ true) × (IsAskedAgain qs k a ⊎ StillAsks m r a))

  abbrev pub AllAccounted : List Request → List QueryRow → Option ℕ → Type 0
  AllAccounted rs qs m = (k : ℕ) (a : QueryRow) (p : Answer × ℕ) (r : Request) → nth qs k ≡ Some a → a.answer ≡ Some p → nth rs a.request ≡ Some r → is_undecided r ≡ true → IsAccounted qs m k a r

  pub record AreRepeated (rs : List Request) (qs : List QueryRow) (m : Option ℕ) : Type 0 where
    pub requests : HasRequests rs qs
    pub accounted : AllAccounted rs qs m
    pub repeats : AllRepeat qs

  -- what becomes of a query that its request still asks, where requests and queries change
  abbrev pub Continue : List Request → List Request → List QueryRow → List QueryRow → Option ℕ → Option ℕ → Type 0
  Continue rs ss qs ts m o = (k : ℕ) (a : QueryRow) (r s : Request) → nth qs k ≡ Some a → nth rs a.request ≡ Some r → nth ss a.request ≡ Some s → is_undecided s ≡ true → StillAsks m r a →
      (has_answer a.question.db s ≡ true) ⊎ (IsAskedAgain ts k a ⊎ StillAsks o s a)

  pub none_continues : (rs ss : List Request) (qs ts : List QueryRow) (o : Option ℕ) → Continue rs ss qs ts None o
  none_continues rs ss qs ts o k a r s x y z u c = absurd (none-some a.request c.continues)

  module _ (rs ss : List Request) (qs ts : List QueryRow) (m o : Option ℕ) (requests : RowsStand KeepsAnswers rs ss) (queries : RowsStand KeepsAnswer qs ts) (further : Continue rs ss qs ts m o) where
    again_kept : (k : ℕ) (a b : QueryRow) → KeepsAnswer a b → IsAskedAgain qs k a → IsAskedAgain ts k b
    again_kept k a b s g =
        let row : (c : QueryRow) × (nth ts g.number ≡ Some c) × KeepsAnswer g.row c = queries g.number g.row g.is_there in
        record {
          number = g.number;
          is_later = g.is_later;
          row = row.0;
          is_there = row.1;
          request = row.2.request ∙ g.request ∙ sym s.request;
          db = ap (λ (z : Question). z.db) row.2.question ∙ g.db ∙ ap (λ (z : Question). z.db) (sym s.question);
        }

    -- a query that was accounted for stays so
    pub accounted_kept : HasRequests rs qs → AllAccounted rs qs m → (k : ℕ) (a b : QueryRow) (p : Answer × ℕ) (s : Request) → nth qs k ≡ Some a → a.answer ≡ Some p → KeepsAnswer a b → nth ss b.request ≡ Some s → is_undecided s ≡ true → IsAccounted ts o k b s
    accounted_kept has all k a b p s is told keep at u = go (has k a is)
      where
        same_db : a.question.db ≡ b.question.db
        same_db = ap (λ (z : Question). z.db) (sym keep.question)

        now_at : nth ss a.request ≡ Some s
        now_at = ap (nth ss) (sym keep.request) ∙ at

        go : (r : Request) × (nth rs a.request ≡ Some r) → IsAccounted ts o k b s
        go (r, was) =
            let later : (t : Request) × (nth ss a.request ≡ Some t) × KeepsAnswers r t = requests a.request r was in
            by_answers r was (subst (λ (x : Request). KeepsAnswers r x) (same_Some later.0 s (sym later.1 ∙ now_at)) later.2)
          where
            by_answers : (r : Request) → nth rs a.request ≡ Some r → KeepsAnswers r s → IsAccounted ts o k b s
            by_answers r was h = by_account (all k a p r is told was (h.undecided u))
              where
                still : (has_answer a.question.db s ≡ true) ⊎ (IsAskedAgain ts k a ⊎ StillAsks o s a) → is_lost_in ts k ≡ true → IsAccounted ts o k b s
                still (inl x) l = inl (subst (λ (d : ℕ). has_answer d s ≡ true) same_db x)
                still (inr (inl g)) l = inr (
                  l,
                  inl (record {
                    number = g.number;
                    is_later = g.is_later;
                    row = g.row;
                    is_there = g.is_there;
                    request = g.request ∙ sym keep.request;
                    db = g.db ∙ same_db;
                  }),
                )
                still (inr (inr c)) l = inr (l, inr (record { continues = c.continues ∙ ap (λ (n : ℕ). Some n) (sym keep.request); asks = c.asks ∙ ap (λ (q : Question). Some q) (sym keep.question) }))

                by_account : IsAccounted qs m k a r → IsAccounted ts o k b s
                by_account (inl x) = inl (subst (λ (d : ℕ). has_answer d s ≡ true) same_db (h.answers a.question.db x))
                by_account (inr (l, inl g)) = inr (lost_kept qs ts queries k a is l, inl (again_kept k a b keep g))
                by_account (inr (l, inr c)) = still (further k a r s is was now_at u c) (lost_kept qs ts queries k a is l)

    pub all_accounted_kept : WereTold qs ts → HasRequests rs qs → AllAccounted rs qs m → AllAccounted ss ts o
    all_accounted_kept told has all k b p s is t at u = go (told k b p is t)
      where
        go : (a : QueryRow) × (nth qs k ≡ Some a) × (a.answer ≡ Some p) → IsAccounted ts o k b s
        go (a, was, answered) =
            let row : (c : QueryRow) × (nth ts k ≡ Some c) × KeepsAnswer a c = queries k a was in
            accounted_kept has all k a b p s was answered (subst (λ (x : QueryRow). KeepsAnswer a x) (same_Some row.0 b (sym row.1 ∙ is)) row.2) at u

    pub all_kept : WereThere qs ts → WereTold qs ts → AreRepeated rs qs m → AreRepeated ss ts o
    all_kept there told p = record {
      requests = has_requests_kept rs ss qs ts requests queries there p.requests;
      accounted = all_accounted_kept told p.requests p.accounted;
      repeats = repeats_kept qs ts queries there p.repeats;
    }

-- a row's number comes before that of a new row
pub next_is_later : {A : Type 0} (xs : List A) (n : ℕ) (x : A) → nth xs n ≡ Some x → n < suc (length xs)
next_is_later xs zero x e = absurd (none-some x e)
next_is_later [] (suc n) x e = absurd (none-some x e)
next_is_later (y ∷ xs) (suc zero) x e = omega arith
next_is_later (y ∷ xs) (suc (suc n)) x e = let l : suc n < suc (length xs) = next_is_later xs (suc n) x e in omega (arith, l)
