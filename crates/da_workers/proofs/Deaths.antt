-- An answer that says that a worker died comes with a fault.
use Rattle.std.proofs.Common.{◌≡◌, ◌≤◌, ◌⊎◌, inl, inr, refl, sym, ◌∙◌, ap, subst, length, ℕ, zero, suc, ◌+◌, ◌-◌, ◌^◌, Bool, true, false, List, [], ◌∷◌, ◌++◌, Option, Some, None, Result, Ok, Err, IfOk, ◌≢◌, if◌then◌else◌, true≢false, arith}
use Rattle.std.proofs.lemmas.Bool.{cases_eq, cases_lt}
use Rattle.std.specs.declared.alloc.AllocError.{AllocError}
use Rattle.da_base.specs.Words.{Bytes, count_where}
use Rattle.da_child.specs.Child.{Checks, EndMeans, ExitMeans, RanOnce, ReplyMeans, can_be_told, child_input}
use Rattle.da_fields.specs.declared.answer.Answer.{Answer}
use Rattle.da_fields.specs.declared.answer.Query.{Query}
use Rattle.da_fields.specs.declared.answer.QueryKind.{QueryKind}
use Rattle.da_fields.specs.declared.answer.QueryKind.TheVariants.{Pass, Check, User}
use Rattle.da_outside.specs.Causes.{Rose}
use Rattle.da_outside.specs.Link.{LinkState}
use Rattle.da_outside.specs.Runner.{RunnerState}
use Rattle.da_outside.specs.Spawner.{SpawnerState}
use Rattle.da_outside.specs.declared.faults.Got.{Got}
use Rattle.da_outside.specs.declared.faults.Got.TheVariants.{Given, TooLong, Fault}
use Rattle.da_outside.specs.declared.runner.Exit.{Exit}
use Rattle.da_play.specs.Play.{next_entry}
use Rattle.da_play.specs.declared.input.Entry.{Entry}
use Rattle.da_play.specs.declared.input.Input.{Input}
use Rattle.da_play.specs.declared.input.Input.TheVariants.{Answered, Take}
use Rattle.da_play.specs.declared.outputs.Outputs.{Outputs}
use Rattle.da_port.specs.Calls.{PortSeat, Records}
use Rattle.da_port.specs.declared.terms.Terms.{Terms}
use Rattle.da_query.specs.AnswerLines.{answer_to}
use Rattle.da_settings.specs.declared.settings.Settings.{Settings}
use Rattle.da_turn.specs.Seats.{made, seen}
use Rattle.da_workers.proofs.WorkerLines.{death_is, no_line_is_a_death}
use Rattle.da_workers.specs.Asking.{Asks, answer_by}
use Rattle.da_workers.specs.Deaths.{AreDeathsFew, deaths, is_death, records_death}
use Rattle.da_workers.specs.Exchanges.{AsksOver, AsksProgram, AsksWorker, ExchangesBy, IsAtHand, IsPutAway, Links, Tools, is_spoilt, password_of, program_of}
use Rattle.da_workers.specs.Working.{GivesAnswer, HandsIn, Rests, Rounds, Serves, ServesSoundly, Standing, Works, WorksSoundly}

-- ---- which answers are deaths

not_death : {P : Type 0} (answer : Answer) → is_death answer ≡ true → is_death answer ≡ false → P
not_death answer is isnt = absurd (true≢false (sym is ∙ isnt))

-- ---- over a link

-- such an answer is told only where the link failed
asked_death : (query : Query) (before after : LinkState) (answer : Answer) → Asks query before after (Ok answer) → is_death answer ≡ true → Rose before.faults after.faults
asked_death query before after answer (inr unsent) is = unsent.failed
asked_death query before after answer (inl answered) is = go answered.got refl
  where
    dies : is_death (answer_by query answered.got) ≡ true
    dies = sym (ap (λ (a : Answer). is_death a) answered.means) ∙ is

    go : (got : Got) → answered.got ≡ got → Rose before.faults after.faults
    go (Given line) e = not_death (answer_to query line) (subst (λ (g : Got). is_death (answer_by query g) ≡ true) e dies) (no_line_is_a_death query line)
    go TooLong e = absurd (true≢false (sym (subst (λ (g : Got). is_death (answer_by query g) ≡ true) e dies)))
    go Fault e = answered.failed e

-- a count that rose isn't 0
rose_above : (before now : ℕ) → Rose before now → now ≢ 0
rose_above before now rose e = omega (arith, rose, e)

-- a fault of a part is one of the whole
in_part : (a b c d : ℕ) → a ≤ b → c ≤ d → Rose b c → Rose a d
in_part a b c d first last rose = omega (arith, first, last, rose)

module _ {L : Type 0} where
  put_later : (spoilt : Bool) (link : LinkState) (before after : SpawnerState L) (kept : Option LinkState) → IsPutAway spoilt link before after kept → before.faults ≤ after.faults
  put_later true link before after kept put = put.faults.later
  put_later false link before after kept put = subst (λ (s : SpawnerState L). before.faults ≤ s.faults) (sym put.1) (omega arith)

  at_hand_later : (had : Option LinkState) (before started : SpawnerState L) (link : LinkState) → IsAtHand had before started link → before.faults ≤ started.faults
  at_hand_later None before started link is = is.2
  at_hand_later (Some kept) before started link is = subst (λ (s : SpawnerState L). before.faults ≤ s.faults) (sym is.1) (omega arith)

  over_death : (query : Query) (link : LinkState) (started : SpawnerState L) (after : Links L) (answer : Answer) → AsksOver query link started after (Ok answer) → is_death answer ≡ true → Rose started.faults after.spawner.faults
  over_death query link started after answer over is =
      let handed : IsPutAway true over.asked started after.spawner after.link = subst (λ (a : Answer). IsPutAway (is_spoilt (Ok a)) over.asked started after.spawner after.link) (death_is answer is) over.put_away in
      handed.faults.raised (rose_above link.faults over.asked.faults (asked_death query link over.asked answer over.asks is))

  worker_later : (query : Query) (before after : Links L) (answer : Result Answer AllocError) → AsksWorker query before after answer → before.spawner.faults ≤ after.spawner.faults
  worker_later query before after answer (inr none) = none.later
  worker_later query before after answer (inl at_hand) =
      omega (
        arith,
        at_hand_later before.link before.spawner at_hand.started at_hand.link at_hand.at_hand,
        put_later (is_spoilt answer) at_hand.asks.asked at_hand.started after.spawner after.link at_hand.asks.put_away,
      )

  worker_death : (query : Query) (before after : Links L) (answer : Answer) → AsksWorker query before after (Ok answer) → is_death answer ≡ true → Rose before.spawner.faults after.spawner.faults
  worker_death query before after answer (inr none) is = none.start.2
  worker_death query before after answer (inl at_hand) is =
      in_part before.spawner.faults at_hand.started.faults after.spawner.faults after.spawner.faults
      (at_hand_later before.link before.spawner at_hand.started at_hand.link at_hand.at_hand) (omega arith)
      (over_death query at_hand.link at_hand.started after answer at_hand.asks is)

-- ---- by a program

exit_death : {P : Type 0} (exit : Exit) (answer : Answer) → ExitMeans exit answer → is_death answer ≡ true → P
exit_death exit answer means is =
    elim (cases_eq exit.status 0) [
      | inl zero_is ↦ absurd (subst (λ (a : Answer). ReplyMeans exit.reply a) (death_is answer is) (means.right zero_is))
      | inr not_0 ↦ elim (cases_eq exit.status 1) [
        | inl one_is ↦ not_death answer is (ap (λ (a : Answer). is_death a) (means.wrong one_is))
        | inr not_1 ↦ elim (cases_eq exit.status 3) [
          | inl three_is ↦ not_death answer is (ap (λ (a : Answer). is_death a) (means.unknown three_is))
          | inr not_3 ↦ not_death answer is (ap (λ (a : Answer). is_death a) (means.other not_0 not_1 not_3))
        ]
      ]
    ]

ran_death : (program input : Bytes) (before after : RunnerState) (answer : Answer) → RanOnce program input before after answer → is_death answer ≡ true → Rose before.faults after.faults
ran_death program input before after answer ran is = go ran.end refl
  where
    go : (end : Option Exit) → ran.end ≡ end → Rose before.faults after.faults
    go None e = ran.failed e
    go (Some exit) e = exit_death exit answer (subst (λ (o : Option Exit). EndMeans o answer) e ran.means) is

check_death : (program user password : Bytes) (before after : RunnerState) (answer : Answer) → Checks program user password before after answer → is_death answer ≡ true → Rose before.faults after.faults
check_death program user password before after answer checks is = go (can_be_told user password) refl
  where
    go : (told : Bool) → can_be_told user password ≡ told → Rose before.faults after.faults
    go true e = ran_death program (child_input user password) before after answer (checks.1 e) is
    go false e = not_death answer is (ap (λ (a : Answer). is_death a) (checks.0 e).0)

-- ---- an exchange

-- the faults before and after, and that one is counted where the answer says that a worker died
pub record Costs (s s' r r' : ℕ) (answer : Result Answer AllocError) : Type 0 where
  pub spawner : s ≤ s'
  pub runner : r ≤ r'
  pub death : IfOk answer (λ a. is_death a ≡ true → Rose s s' ⊎ Rose r r')

module _ {L : Type 0} (settings : Settings) (query : Query) (before after : Tools L) where
  CostsFaults : Result Answer AllocError → Type 0
  CostsFaults answer = Costs before.links.spawner.faults after.links.spawner.faults before.runner.faults after.runner.faults answer

  same_runner : after.runner ≡ before.runner → before.runner.faults ≤ after.runner.faults
  same_runner e = subst (λ (r : RunnerState). before.runner.faults ≤ r.faults) (sym e) (omega arith)

  same_links : after.links ≡ before.links → before.links.spawner.faults ≤ after.links.spawner.faults
  same_links e = subst (λ (l : Links L). before.links.spawner.faults ≤ l.spawner.faults) (sym e) (omega arith)

  by_worker : (answer : Result Answer AllocError) → AsksWorker query before.links after.links answer → after.runner ≡ before.runner → CostsFaults answer
  unfolding CostsFaults
  by_worker (Ok answer) asks same = record { spawner = worker_later query before.links after.links (Ok answer) asks; runner = same_runner same; death = λ is. inl (worker_death query before.links after.links answer asks is) }
  by_worker (Err wanted) asks same = record { spawner = worker_later query before.links after.links (Err wanted) asks; runner = same_runner same; death = tt }

  by_program : (answer : Result Answer AllocError) → AsksProgram settings query before.runner after.runner answer → after.links ≡ before.links → CostsFaults answer
  unfolding CostsFaults
  by_program (Ok answer) asks same = record { spawner = same_links same; runner = asks.later; death = λ is. inr (check_death (program_of settings query.db) query.user (password_of query) before.runner after.runner answer asks.checks is) }
  by_program (Err wanted) asks same = record { spawner = same_links same; runner = asks.later; death = tt }

  exchange_costs : (kind : QueryKind) (answer : Result Answer AllocError) → ExchangesBy kind settings query before after answer → CostsFaults answer
  exchange_costs Pass answer exchange = by_worker answer exchange.0 exchange.1
  exchange_costs User answer exchange = by_worker answer exchange.0 exchange.1
  exchange_costs Check answer exchange = by_program answer exchange.0 exchange.1

-- ---- the entries of one query

count_where-append : {A : Type 0} (test : A → Bool) (xs ys : List A) → count_where test (xs ++ ys) ≡ count_where test xs + count_where test ys
count_where-append test [] ys = omega arith
count_where-append test (x ∷ xs) ys = omega (arith, count_where-append test xs ys)

one_more : (n : ℕ) (e : Entry) → deaths ((n, e) ∷ []) ≡ (if records_death e.input then 1 else 0)
one_more n e = omega arith

records_more : (terms : Terms) (s t : PortSeat) (moment : ℕ) (input : Input) (out : Outputs) → Records terms s t moment input out → deaths (made t) ≡ deaths (made s) + (if records_death input then 1 else 0)
unfolding next_entry
records_more terms s t moment input out records =
    ap deaths records.gains ∙ count_where-append _ (made s) _ ∙ ap (λ (n : ℕ). deaths (made s) + n) (one_more (length (seen t)) (next_entry terms.settings records.before moment input))

-- ---- over many queries

-- the deaths and the faults before and after
pub record Keeps (d d' s s' r r' : ℕ) : Type 0 where
  pub died : d ≤ d'
  pub spawner : s ≤ s'
  pub runner : r ≤ r'
  pub few : AreDeathsFew d d' s s' r r'

Keeps-refl : (d s r : ℕ) → Keeps d d s s r r
Keeps-refl d s r = record { died = omega arith; spawner = omega arith; runner = omega arith; few = inl (omega arith) }

Keeps-trans : (d d' d'' s s' s'' r r' r'' : ℕ) → Keeps d d' s s' r r' → Keeps d' d'' s' s'' r' r'' → Keeps d d'' s s'' r r''
Keeps-trans d d' d'' s s' s'' r r' r'' one two =
    record {
      died = omega (arith, one.died, two.died);
      spawner = omega (arith, one.spawner, two.spawner);
      runner = omega (arith, one.runner, two.runner);
      few = go one.few two.few;
    }
  where
    go : AreDeathsFew d d' s s' r r' → AreDeathsFew d' d'' s' s'' r' r'' → AreDeathsFew d d'' s s'' r r''
    go (inl a) (inl b) = inl (omega (arith, a, b))
    go (inr (inl last)) b = inr (inl (omega (arith, last, two.spawner)))
    go (inr (inr last)) b = inr (inr (omega (arith, last, two.runner)))
    go (inl a) (inr b) = inr b

plus_none : (d : ℕ) → d + 0 ≡ d
plus_none d = omega arith

-- no death is told
keeps_none : (d s s' r r' : ℕ) → s ≤ s' → r ≤ r' → Keeps d d s s' r r'
keeps_none d s s' r r' spawner runner = record { died = omega arith; spawner = spawner; runner = runner; few = inl (omega (arith, spawner, runner)) }

-- one is, with a fault
keeps_one : (d s s' r r' : ℕ) → s ≤ s' → r ≤ r' → Rose s s' ⊎ Rose r r' → Keeps d (d + 1) s s' r r'
keeps_one d s s' r r' spawner runner rose = record { died = omega arith; spawner = spawner; runner = runner; few = go rose }
  where
    go : Rose s s' ⊎ Rose r r' → AreDeathsFew d (d + 1) s s' r r'
    go (inl up) = elim (cases_lt s' (2 ^ 64 - 1)) [ inl below ↦ inl (omega (arith, up, below, runner)) | inr last ↦ inr (inl last) ]
    go (inr up) = elim (cases_lt r' (2 ^ 64 - 1)) [ inl below ↦ inl (omega (arith, up, below, spawner)) | inr last ↦ inr (inr last) ]

module _ (terms : Terms) (may_tell : ℕ → Type 0) where
  -- by what was recorded of the answer
  counts_given : (d : ℕ) (taken t : PortSeat) (number s s' r r' : ℕ) (answer : Result Answer AllocError) → deaths (made taken) ≡ d →
      Costs s s' r r' answer → GivesAnswer terms may_tell taken t number answer → Keeps d (deaths (made t)) s s' r r'
  counts_given d taken t number s s' r r' (Ok answer) is costs (inl recorded) = go (is_death answer) refl
    where
      counted : deaths (made t) ≡ d + (if is_death answer then 1 else 0)
      counted = records_more terms taken t recorded.moment (Answered number answer) recorded.records.0 recorded.records.1 ∙ ap (λ (n : ℕ). n + (if is_death answer then 1 else 0)) is

      go : (dies : Bool) → is_death answer ≡ dies → Keeps d (deaths (made t)) s s' r r'
      go true e = subst (λ (n : ℕ). Keeps d n s s' r r') (sym (counted ∙ ap (λ (b : Bool). d + (if b then 1 else 0)) e)) (keeps_one d s s' r r' costs.spawner costs.runner (costs.death e))
      go false e = subst (λ (n : ℕ). Keeps d n s s' r r') (sym (counted ∙ ap (λ (b : Bool). d + (if b then 1 else 0)) e ∙ plus_none d)) (keeps_none d s s' r r' costs.spawner costs.runner)
  counts_given d taken t number s s' r r' (Ok answer) is costs (inr left_out) =
      subst (λ (n : ℕ). Keeps d n s s' r r') (sym (ap deaths left_out.looks.1 ∙ is)) (keeps_none d s s' r r' costs.spawner costs.runner)
  counts_given d taken t number s s' r r' (Err wanted) is costs same =
      subst (λ (n : ℕ). Keeps d n s s' r r') (sym (ap (λ (seat : PortSeat). deaths (made seat)) same ∙ is)) (keeps_none d s s' r r' costs.spawner costs.runner)

module _ {L : Type 0} where
  KeepsCounts : Standing L → Standing L → Type 0
  KeepsCounts s t = Keeps (deaths (made s.seat)) (deaths (made t.seat)) s.tools.links.spawner.faults t.tools.links.spawner.faults s.tools.runner.faults t.tools.runner.faults

  counts-trans : (s t u : Standing L) → KeepsCounts s t → KeepsCounts t u → KeepsCounts s u
  unfolding KeepsCounts
  counts-trans s t u one two = Keeps-trans _ _ _ _ _ _ _ _ _ one two

  counts_rest : (s t : Standing L) → Rests s t → KeepsCounts s t
  unfolding KeepsCounts
  counts_rest s t rests =
      subst (λ (d : ℕ). Keeps (deaths (made s.seat)) d s.tools.links.spawner.faults t.tools.links.spawner.faults s.tools.runner.faults t.tools.runner.faults) (sym (ap deaths rests.0.1))
      (subst (λ (tools : Tools L). Keeps (deaths (made s.seat)) (deaths (made s.seat)) s.tools.links.spawner.faults tools.links.spawner.faults s.tools.runner.faults tools.runner.faults) (sym rests.1)
      (Keeps-refl (deaths (made s.seat)) s.tools.links.spawner.faults s.tools.runner.faults))

  module _ (terms : Terms) (may_tell : ℕ → Type 0) where
    counts_one : (s t : Standing L) → Serves terms may_tell s t → KeepsCounts s t
    unfolding KeepsCounts CostsFaults
    counts_one s t serves =
        counts_given terms may_tell (deaths (made s.seat)) serves.taken t.seat serves.query.number _ _ _ _ serves.answers.answer
        (records_more terms s.seat serves.taken serves.takes.moment Take serves.takes.takes.out serves.takes.takes.records ∙ plus_none (deaths (made s.seat)))
        (exchange_costs terms.settings serves.query s.tools t.tools serves.query.kind serves.answers.answer serves.answers.exchange)
        serves.answers.gives

    counts_many : (n : ℕ) (s t : Standing L) → Rounds (Serves terms may_tell) n s t → KeepsCounts s t
    counts_many zero s t rests = counts_rest s t rests
    counts_many (suc n) s t many =
        counts-trans s many.1 t (counts-trans s many.0 many.1 (counts_many n s many.0 many.2) (counts_one many.0 many.1 many.3)) (counts_rest many.1 t many.4)

    handed_later : (link : Option LinkState) (before after : SpawnerState L) → HandsIn link before after → before.faults ≤ after.faults
    handed_later None before after same = subst (λ (s : SpawnerState L). before.faults ≤ s.faults) (sym same) (omega arith)
    handed_later (Some link) before after handed = handed.faults.later

    counts_call : (s t : Standing L) → Works terms may_tell s t → KeepsCounts s t
    unfolding KeepsCounts
    counts_call s t works =
        counts-trans s works.last t (counts_many works.count s works.last works.rounds)
        (subst (λ (d : ℕ). Keeps (deaths (made works.last.seat)) d works.last.tools.links.spawner.faults t.tools.links.spawner.faults works.last.tools.runner.faults t.tools.runner.faults) (sym (ap (λ (seat : PortSeat). deaths (made seat)) works.seat))
        (keeps_none (deaths (made works.last.seat)) works.last.tools.links.spawner.faults t.tools.links.spawner.faults works.last.tools.runner.faults t.tools.runner.faults
        (handed_later works.last.tools.links.link works.last.tools.links.spawner t.tools.links.spawner works.hands_in)
        (subst (λ (r : RunnerState). works.last.tools.runner.faults ≤ r.faults) (sym works.runner) (omega arith))))

    pub deaths_are_few : (s t : Standing L) → Works terms may_tell s t →
        AreDeathsFew (deaths (made s.seat)) (deaths (made t.seat)) s.tools.links.spawner.faults t.tools.links.spawner.faults s.tools.runner.faults t.tools.runner.faults
    unfolding KeepsCounts
    deaths_are_few s t works = (counts_call s t works).few

    -- a query that is served without a fault is answered by what came
    served_soundly : (s t : Standing L) → (Rose s.tools.links.spawner.faults t.tools.links.spawner.faults → ⊥) → (Rose s.tools.runner.faults t.tools.runner.faults → ⊥) → Serves terms may_tell s t → ServesSoundly terms may_tell s t
    unfolding CostsFaults
    served_soundly s t spawner runner serves =
        (serves, lives serves.answers.answer (exchange_costs terms.settings serves.query s.tools t.tools serves.query.kind serves.answers.answer serves.answers.exchange))
      where
        lives : (answer : Result Answer AllocError) → Costs s.tools.links.spawner.faults t.tools.links.spawner.faults s.tools.runner.faults t.tools.runner.faults answer → IfOk answer (λ a. is_death a ≡ false)
        lives (Ok answer) costs = go (is_death answer) refl
          where
            either : Rose s.tools.links.spawner.faults t.tools.links.spawner.faults ⊎ Rose s.tools.runner.faults t.tools.runner.faults → is_death answer ≡ false
            either (inl rose) = absurd (spawner rose)
            either (inr rose) = absurd (runner rose)

            go : (dies : Bool) → is_death answer ≡ dies → is_death answer ≡ false
            go true e = either (costs.death e)
            go false e = e
        lives (Err wanted) costs = tt

    soundly_many : (n : ℕ) (s t : Standing L) → (Rose s.tools.links.spawner.faults t.tools.links.spawner.faults → ⊥) → (Rose s.tools.runner.faults t.tools.runner.faults → ⊥) → Rounds (Serves terms may_tell) n s t → Rounds (ServesSoundly terms may_tell) n s t
    unfolding KeepsCounts
    soundly_many zero s t spawner runner rests = rests
    soundly_many (suc n) s t spawner runner rounds =
        let first : KeepsCounts s rounds.0 = counts_many n s rounds.0 rounds.2 in
        let round : KeepsCounts rounds.0 rounds.1 = counts_one rounds.0 rounds.1 rounds.3 in
        let rest : KeepsCounts rounds.1 t = counts_rest rounds.1 t rounds.4 in (
          rounds.0,
          rounds.1,
          soundly_many n s rounds.0
              (λ rose. spawner (in_part _ _ _ _ (omega arith) (omega (arith, round.spawner, rest.spawner)) rose))
              (λ rose. runner (in_part _ _ _ _ (omega arith) (omega (arith, round.runner, rest.runner)) rose)) rounds.2,
          served_soundly rounds.0 rounds.1
              (λ rose. spawner (in_part _ _ _ _ first.spawner rest.spawner rose))
              (λ rose. runner (in_part _ _ _ _ first.runner rest.runner rose)) rounds.3,
          rounds.4,
        )

    pub works_soundly : (s t : Standing L) → Works terms may_tell s t → WorksSoundly terms may_tell s t
    works_soundly s t works spawner runner = record {
      count = works.count;
      last = works.last;
      rounds =
          soundly_many works.count s works.last
          (λ rose. spawner (in_part _ _ _ _ (omega arith) (handed_later works.last.tools.links.link works.last.tools.links.spawner t.tools.links.spawner works.hands_in) rose))
          (λ rose. runner (subst (λ (r : RunnerState). Rose s.tools.runner.faults r.faults) (sym works.runner) rose)) works.rounds;
      seat = works.seat;
      hands_in = works.hands_in;
      none = works.none;
      runner = works.runner;
    }
