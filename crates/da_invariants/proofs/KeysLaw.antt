-- The keys fit the cache, and each has an answer that may be repeated for some time.
use Rattle.std.proofs.Common.{◌≡◌, ◌⊎◌, inl, inr, refl, sym, ◌∙◌, ap, ap₂, subst, Option, Some, None, List, [], ◌∷◌, ◌++◌, ℕ, ◌≤◌, ◌<◌, Bool, true, false, cond, length, take, is_some, option_map, option_and_then, le_trans, true≢false, zero-le, arith, ◌==◌}
use Rattle.std.proofs.lemmas.Bool.Decides.{nat_tests}
use Rattle.std.proofs.lemmas.Option.{none-some, same_Some}
use Rattle.da_tables.proofs.Cases.{by_test}
use Rattle.da_play.proofs.EntryParts.{InputParts, ContinuedParts, IsSound, sound_input, before_gives, continued_gives, with_kept}
use Rattle.da_invariants.proofs.Keys.{keys_equal, key_is, not_without, without_has, first_distinct, without_distinct, first_has, has_first, first_fits, without_fits, take_fits, take_count, take_has}
use Rattle.da_tables.proofs.Rows.{passing, nth-changed}
use Rattle.da_steps.proofs.Standing.{input_stands, continued_stands, before_stands, tables_later, all_same}
use Rattle.da_base.specs.Words.{nth, changed_nth, passes_option, count_where}
use Rattle.da_keys.specs.Keys.{same_key, has_key, without_key, key_first, with_key}
use Rattle.da_keys.specs.declared.key.Key.{Key}
use Rattle.da_fields.specs.declared.answer.Answer.{Answer}
use Rattle.da_play.specs.History.{tables_of, after, after_input, before_input}
use Rattle.da_tables.specs.Tables.{with_due_replied, with_timed_out}
use Rattle.da_tables.specs.Hits.{AreHits, IsUsable, newest_among, with_hit, hit_with}
use Rattle.da_invariants.specs.KeyLaws.{HasAnswer, KeysAreFit, KeysFit}
use Rattle.da_play.specs.Legal.{IsLegal, ContinuedHits}
use Rattle.da_tables.specs.RecordedAnswers.{key_of, ttl_of, recorded_answer, answered_by, after_answer, after_answer_for, is_lost}
use Rattle.da_tables.specs.Queries.{is_running, is_running_in}
use Rattle.da_play.specs.History.{Tells}
use Rattle.da_request.specs.Requests.{is_undecided}
use Rattle.da_steps.specs.Standing.{TablesStand, QueryStands}
use Rattle.da_tables.specs.Tables.{AfterInput, with_end, continuing_none}
use Rattle.da_play.specs.declared.input.Entry.{Entry}
use Rattle.da_play.specs.declared.input.Input.{Input}
use Rattle.da_play.specs.declared.input.Input.TheVariants.{Opened, Line, Broken, Gone, Take, Answered, Late, Tick}
use Rattle.da_settings.specs.declared.settings.Settings.{Settings}
use Rattle.da_tables.specs.declared.queries.QueryRow.{QueryRow}
use Rattle.da_request.specs.declared.stages.Question.{Question}
use Rattle.da_request.specs.declared.request.Request.{Request}
use Rattle.da_tables.specs.declared.tables.Tables.{Tables}

-- ---- the newest answers

-- each of these queries has an answer
abbrev pub AllRecorded : List QueryRow → List ℕ → Type 0
AllRecorded qs [] = Unit {0}
AllRecorded qs (n ∷ ns) = ((a : QueryRow) × (nth qs n ≡ Some a) × (is_some a.answer ≡ true)) × AllRecorded qs ns

-- each query of the earlier table stands in the later
abbrev pub QueriesStand : List QueryRow → List QueryRow → Type 0
QueriesStand qs rs = (n : ℕ) (a : QueryRow) → nth qs n ≡ Some a → (b : QueryRow) × (nth rs n ≡ Some b) × QueryStands a b

recorded_later : (qs rs : List QueryRow) → QueriesStand qs rs → (ns : List ℕ) → AllRecorded qs ns → AllRecorded rs ns
recorded_later qs rs h [] all = tt
recorded_later qs rs h (n ∷ ns) all = (go (h n all.0.0 all.0.1), recorded_later qs rs h ns all.1)
  where
    there : (o : Option (Answer × ℕ)) → is_some o ≡ true → (p : Answer × ℕ) × (o ≡ Some p)
    there None e = absurd (true≢false (sym e))
    there (Some p) e = (p, refl)

    go : (b : QueryRow) × (nth rs n ≡ Some b) × QueryStands all.0.0 b → (a : QueryRow) × (nth rs n ≡ Some a) × (is_some a.answer ≡ true)
    go (b, is, k) = let p : (p : Answer × ℕ) × (all.0.0.answer ≡ Some p) = there all.0.0.answer all.0.2 in (b, is, ap is_some (k.answer p.0 p.1))

-- the newest answer to a key is the same as long as nothing is recorded
newest_later : (tables later : Tables) (k : Key) → QueriesStand tables.queries later.queries → (ns : List ℕ) → AllRecorded tables.queries ns → newest_among later k ns ≡ newest_among tables k ns
newest_later tables later k h [] all = refl
newest_later tables later k h (n ∷ ns) all = go (h n all.0.0 all.0.1) (newest_later tables later k h ns all.1)
  where
    go : (b : QueryRow) × (nth later.queries n ≡ Some b) × QueryStands all.0.0 b → newest_among later k ns ≡ newest_among tables k ns → newest_among later k (n ∷ ns) ≡ newest_among tables k (n ∷ ns)
    go (b, is, s) rest = ap₂ (λ (c : Bool) (o : Option ℕ). cond c (Some n) o)
        (ap (passes_option (λ a. same_key k (key_of a.question))) is ∙ ap (λ q. same_key k (key_of q)) s.question ∙ sym (ap (passes_option (λ a. same_key k (key_of a.question))) all.0.1)) rest

answer_later : (settings : Settings) (tables later : Tables) (k : Key) → QueriesStand tables.queries later.queries → later.cacheable ≡ tables.cacheable → AllRecorded tables.queries tables.cacheable →
    HasAnswer settings tables k → HasAnswer settings later k
answer_later settings tables later k h same all a = go (h a.number a.query a.is_there)
  where
    go : (b : QueryRow) × (nth later.queries a.number ≡ Some b) × QueryStands a.query b → HasAnswer settings later k
    go (b, is, s) = record {
      number = a.number;
      is_newest = ap (newest_among later k) same ∙ newest_later tables later k h tables.cacheable all ∙ a.is_newest;
      query = b;
      is_there = is;
      answer = a.answer;
      moment = a.moment;
      is_answer_recorded = s.answer (a.answer, a.moment) a.is_answer_recorded;
      has_ttl = a.has_ttl;
    }

-- ---- the keys that fit, with the answers behind them

pub record IsFit (settings : Settings) (tables : Tables) : Type 0 where
  pub keys : KeysAreFit settings tables
  pub recorded : AllRecorded tables.queries tables.cacheable

fit_later : (settings : Settings) (tables later : Tables) → QueriesStand tables.queries later.queries → later.cacheable ≡ tables.cacheable →
    (length later.keys ≤ settings.cache_size) → ((k : Key) → count_where (same_key k) later.keys ≤ 1) → ((k : Key) → has_key k later.keys ≡ true → has_key k tables.keys ≡ true) →
    IsFit settings tables → IsFit settings later
fit_later settings tables later h same fit distinct within f = record {
  keys = record { fit = fit; are_distinct = distinct; have_answers = λ k e. answer_later settings tables later k h same f.recorded (f.keys.have_answers k (within k e)) };
  recorded = subst (AllRecorded later.queries) (sym same) (recorded_later tables.queries later.queries h tables.cacheable f.recorded);
}

same_fit : (settings : Settings) (tables later : Tables) → QueriesStand tables.queries later.queries → later.cacheable ≡ tables.cacheable → later.keys ≡ tables.keys → IsFit settings tables → IsFit settings later
same_fit settings tables later h r k f = fit_later settings tables later h r
    (subst (λ ks. length ks ≤ settings.cache_size) (sym k) f.keys.fit) (λ x. subst (λ ks. count_where (same_key x) ks ≤ 1) (sym k) (f.keys.are_distinct x))
    (λ x e. ap (has_key x) (sym k) ∙ e) f

-- ---- hits are cached

abbrev pub IsCached : Tables → ℕ → Type 0
IsCached tables n = (a : QueryRow) × (nth tables.queries n ≡ Some a) × (has_key (key_of a.question) tables.keys ≡ true)

abbrev pub AllCached : Tables → List ℕ → Type 0
AllCached tables [] = Unit {0}
AllCached tables (n ∷ ns) = IsCached tables n × AllCached tables ns

-- the newest answer to a key has this key
pub newest_has : (tables : Tables) (k : Key) (ns : List ℕ) (n : ℕ) → newest_among tables k ns ≡ Some n → (a : QueryRow) × (nth tables.queries n ≡ Some a) × (same_key k (key_of a.question) ≡ true)
newest_has tables k [] n e = absurd (none-some n e)
newest_has tables k (m ∷ ns) n e = go (passes_option (λ a. same_key k (key_of a.question)) (nth tables.queries m)) refl e (newest_has tables k ns n)
  where
    go : (b : Bool) → passes_option (λ a. same_key k (key_of a.question)) (nth tables.queries m) ≡ b → cond b (Some m) (newest_among tables k ns) ≡ Some n →
        (newest_among tables k ns ≡ Some n → (a : QueryRow) × (nth tables.queries n ≡ Some a) × (same_key k (key_of a.question) ≡ true)) → (a : QueryRow) × (nth tables.queries n ≡ Some a) × (same_key k (key_of a.question) ≡ true)
    go true d x rest = subst (λ (j : ℕ). (a : QueryRow) × (nth tables.queries j ≡ Some a) × (same_key k (key_of a.question) ≡ true)) (same_Some m n x) (passing (λ a. same_key k (key_of a.question)) (nth tables.queries m) d)
    go false d x rest = rest x

usable_cached : (settings : Settings) (moment : ℕ) (tables : Tables) (r : Request) (q : Question) (n : ℕ) → IsUsable settings moment tables r q n → IsCached tables n
usable_cached settings moment tables r q n u = go (newest_has tables (key_of q) tables.cacheable n u.is_newest)
  where
    go : (a : QueryRow) × (nth tables.queries n ≡ Some a) × (same_key (key_of q) (key_of a.question) ≡ true) → IsCached tables n
    go (a, is, e) = (a, is, subst (λ (k : Key). has_key k tables.keys ≡ true) (keys_equal (key_of q) (key_of a.question) e) u.is_cached)

hits_cached : (settings : Settings) (moment : ℕ) (tables : Tables) (r : Request) (ns : List ℕ) → AreHits settings moment tables r ns → AllCached tables ns
hits_cached settings moment tables r [] h = tt
hits_cached settings moment tables r (n ∷ ns) h = (usable_cached settings moment tables r h.0 n h.2, hits_cached settings moment tables (with_hit tables h.0 n r) ns h.3)

continued_cached : (settings : Settings) (moment : ℕ) (tables : Tables) (o : Option Request) (ns : List ℕ) → ContinuedHits settings moment tables o ns → AllCached tables ns
continued_cached settings moment tables None ns h = subst (AllCached tables) (sym h) tt
continued_cached settings moment tables (Some r) ns h = hits_cached settings moment tables r ns h

one_cached : (tables : Tables) (done rest : List ℕ) (n : ℕ) → AllCached tables (done ++ n ∷ rest) → IsCached tables n
one_cached tables [] rest n all = all.0
one_cached tables (m ∷ done) rest n all = one_cached tables done rest n all.1

cached_later : (tables later : Tables) → QueriesStand tables.queries later.queries → later.keys ≡ tables.keys → (ns : List ℕ) → AllCached tables ns → AllCached later ns
cached_later tables later h same [] all = tt
cached_later tables later h same (n ∷ ns) all = (go all.0, cached_later tables later h same ns all.1)
  where
    go : IsCached tables n → IsCached later n
    go (a, is, e) = there (h n a is)
      where
        there : (b : QueryRow) × (nth later.queries n ≡ Some b) × QueryStands a b → IsCached later n
        there (b, at, s) = (b, at, ap₂ (λ (k : Key) (ks : List Key). has_key k ks) (ap key_of s.question) same ∙ e)

-- ---- what an input does to the cache, and what it records

-- the keys and the cacheable answers are as they were
record SameCache (tables later : Tables) : Type 0 where
  pub cacheable : later.cacheable ≡ tables.cacheable
  pub keys : later.keys ≡ tables.keys

module _ (settings : Settings) (moment : ℕ) (before : Tables) (entered : Input) where
  untouched : SameCache before before
  untouched = record { cacheable = refl; keys = refl }

  end_cache : (conn : ℕ) → SameCache before (with_end conn before)
  unfolding with_end
  end_cache conn = record { cacheable = refl; keys = refl }

  input_cache : InputParts settings moment before entered (λ tables m. SameCache before tables)
  input_cache = record {
    opens = λ kind random l p. record { cacheable = refl; keys = refl };
    tells = λ conn change h told p. record { cacheable = refl; keys = refl };
    ends = λ conn e p. end_cache conn;
    cancels = λ n e p. record { cacheable = refl; keys = refl };
    texts = λ conn id random text m r is w p. record { cacheable = refl; keys = refl };
    makes = λ conn id random body m p. record { cacheable = refl; keys = refl };
    loses = λ query given a g is run lost u p. record { cacheable = refl; keys = refl };
    loses_late = λ query given a g is run lost u p. record { cacheable = refl; keys = refl };
    answers = λ query given a g is run counts u p. record { cacheable = refl; keys = refl };
    lates = λ query given a g is run counts u p. record { cacheable = refl; keys = refl };
  }

-- the answer to a running query is recorded with it
pub record IsRecorded (queries : List QueryRow) (query : ℕ) (a : QueryRow) (answer : Answer) (moment : ℕ) : Type 0 where
  pub row : QueryRow
  pub is_there : nth queries query ≡ Some row
  pub question : row.question ≡ a.question
  pub is_answer_recorded : row.answer ≡ Some (answer, moment)

module _ (settings : Settings) (moment query : ℕ) (given : Answer) (before : Tables) (a : QueryRow) (is : nth before.queries query ≡ Some a) (run : is_running a ≡ true) where
  abbrev answer : Answer
  answer = recorded_answer a.question.kind given

  abbrev change : QueryRow → QueryRow
  change = answered_by settings moment (nth before.requests a.request) answer

  recorded_row : IsRecorded (changed_nth change before.queries query) query a answer moment
  recorded_row = record { row = change a; is_there = nth-changed change before.queries query ∙ ap (option_map change) is; question = refl; is_answer_recorded = refl }

  records_it : IsRecorded (after_answer settings moment query given (nth before.queries query) before).tables.queries query a answer moment
  records_it = subst (λ (o : Option QueryRow). IsRecorded (after_answer settings moment query given o before).tables.queries query a answer moment) (sym is)
      (subst (λ (b : Bool). IsRecorded (cond b (after_answer_for settings moment query a answer before) (continuing_none before)).tables.queries query a answer moment) (sym run)
      (by_test (λ (h : AfterInput). IsRecorded h.tables.queries query a answer moment) (is_lost before.queries query a answer) _ _
      (λ lost. by_test (λ (h : AfterInput). IsRecorded h.tables.queries query a answer moment) (passes_option is_undecided (nth before.requests a.request)) _ _ (λ e. recorded_row) (λ e. recorded_row))
      (λ counts. by_test (λ (h : AfterInput). IsRecorded h.tables.queries query a answer moment) (passes_option is_undecided (nth before.requests a.request)) _ _ (λ e. recorded_row) (λ e. recorded_row))))

-- the answer that an input tells of a running query is recorded with it
pub told_is_recorded : (settings : Settings) (moment query : ℕ) (given : Answer) (before : Tables) (a : QueryRow) → nth before.queries query ≡ Some a → is_running a ≡ true → (input : Input) → Tells input query given →
    IsRecorded (after_input settings moment input before).tables.queries query a (recorded_answer a.question.kind given) moment
unfolding after_input
told_is_recorded settings moment query given before a is run (Opened kind random) t = absurd t
told_is_recorded settings moment query given before a is run (Line conn text random) t = absurd t
told_is_recorded settings moment query given before a is run (Broken conn) t = absurd t
told_is_recorded settings moment query given before a is run (Gone conn) t = absurd t
told_is_recorded settings moment query given before a is run Take t = absurd t
told_is_recorded settings moment query given before a is run (Answered n reported) t =
    subst (λ (i : Answer). IsRecorded (after_answer settings moment n i (nth before.queries n) before).tables.queries query a (recorded_answer a.question.kind given) moment) (sym t.1)
    (subst (λ (k : ℕ). IsRecorded (after_answer settings moment k given (nth before.queries k) before).tables.queries query a (recorded_answer a.question.kind given) moment) (sym t.0) (records_it settings moment query given before a is run))
told_is_recorded settings moment query given before a is run (Late n) t =
    subst (λ (i : Answer). IsRecorded (after_answer settings moment n i (nth before.queries n) before).tables.queries query a (recorded_answer a.question.kind given) moment) (sym t.1)
    (subst (λ (k : ℕ). IsRecorded (after_answer settings moment k given (nth before.queries k) before).tables.queries query a (recorded_answer a.question.kind given) moment) (sym t.0) (records_it settings moment query given before a is run))
told_is_recorded settings moment query given before a is run Tick t = absurd t

-- ---- the parts of an entry

module _ (settings : Settings) (moment : ℕ) (before hs : Tables) (entered : Input) (hits : List ℕ) (fits : IsFit settings hs) (cached : AllCached hs hits)
    (rec : (query : ℕ) (given : Answer) (a : QueryRow) → entered ≡ Answered query given → nth before.queries query ≡ Some a → is_running a ≡ true → IsRecorded hs.queries query a (recorded_answer a.question.kind given) moment) where
  record CacheNow (these : Tables) : Type 0 where
    pub tables : TablesStand hs these
    pub cacheable : these.cacheable ≡ hs.cacheable
    pub fit : length these.keys ≤ settings.cache_size
    pub distinct : (k : Key) → count_where (same_key k) these.keys ≤ 1
    pub within : (k : Key) → has_key k these.keys ≡ true → has_key k hs.keys ≡ true
    pub all : (k : Key) → has_key k hs.keys ≡ true → has_key k these.keys ≡ true

  record FitNow (these : Tables) : Type 0 where
    pub tables : TablesStand hs these
    pub fit : IsFit settings these

  abbrev cache_now : Tables → Option ℕ → List ℕ → Type 0
  cache_now tables m done = CacheNow tables

  abbrev fit_now : Tables → Option ℕ → Type 0
  fit_now tables m = FitNow tables

  fit_from : (tables later : Tables) → CacheNow tables → TablesStand hs later → later.cacheable ≡ tables.cacheable → later.keys ≡ tables.keys → FitNow later
  fit_from tables later c t r k = record {
    tables = t;
    fit = fit_later settings hs later t.queries (r ∙ c.cacheable) (subst (λ ks. length ks ≤ settings.cache_size) (sym k) c.fit)
        (λ x. subst (λ ks. count_where (same_key x) ks ≤ 1) (sym k) (c.distinct x)) (λ x e. c.within x (ap (has_key x) (sym k) ∙ e)) fits;
  }

  -- a hit brings its key first
  hit_keys : (tables : Tables) (n : ℕ) (a : QueryRow) → nth tables.queries n ≡ Some a → IsCached hs n → CacheNow tables → has_key (key_of a.question) tables.keys ≡ true
  hit_keys tables n a is (b, at, e) c = go (c.tables.queries n b at)
    where
      go : (d : QueryRow) × (nth tables.queries n ≡ Some d) × QueryStands b d → has_key (key_of a.question) tables.keys ≡ true
      go (d, x, s) = subst (λ (q : Question). has_key (key_of q) tables.keys ≡ true) (sym s.question ∙ ap (λ (y : QueryRow). y.question) (same_Some d a (sym x ∙ is))) (c.all (key_of b.question) e)

  continued_stand : ContinuedParts settings moment before entered hits (λ tables m done. TablesStand hs tables) (λ tables m. TablesStand hs tables)
  continued_stand = continued_stands settings moment hs before entered hits

  hit_cache : (tables : Tables) (continued n : ℕ) (done rest : List ℕ) (a : QueryRow) (p : Answer × ℕ) → nth tables.queries n ≡ Some a → TablesStand hs (hit_with settings continued n a p.0 tables) →
      done ++ n ∷ rest ≡ hits → CacheNow tables → CacheNow (hit_with settings continued n a p.0 tables)
  hit_cache tables continued n done rest a p is t w c =
      let there : has_key (key_of a.question) tables.keys ≡ true = hit_keys tables n a is (one_cached hs done rest n (subst (AllCached hs) (sym w) cached)) c in
      record {
        tables = t;
        cacheable = c.cacheable;
        fit = first_fits (key_of a.question) tables.keys settings.cache_size there c.fit;
        distinct = λ k. first_distinct k (key_of a.question) tables.keys (c.distinct k);
        within = λ k e. c.within k (brought k e (first_has k (key_of a.question) tables.keys e));
        all = λ k e. has_first k (key_of a.question) tables.keys (c.all k e);
      }
    where
      brought : (k : Key) → has_key k (key_first (key_of a.question) tables.keys) ≡ true → (k ≡ key_of a.question) ⊎ (has_key k tables.keys ≡ true) → has_key k tables.keys ≡ true
      brought k e (inl d) = subst (λ (x : Key). has_key x tables.keys ≡ true) (sym d) (hit_keys tables n a is (one_cached hs done rest n (subst (AllCached hs) (sym w) cached)) c)
      brought k e (inr d) = d

  -- ---- what is kept of the answer

  module _ (tables : Tables) (query : ℕ) (a : QueryRow) (answer : Answer) (is : nth tables.queries query ≡ Some a) (recorded : a.answer ≡ Some (answer, moment)) (f : IsFit settings tables) where
    abbrev kept : Tables
    kept = with_kept settings query a.question answer tables

    new_cacheable : AllRecorded kept.queries kept.cacheable
    new_cacheable = ((a, is, ap is_some recorded), f.recorded)

    old_answer : (k : Key) → (same_key k (key_of a.question) ≡ true → ⊥) → has_key k tables.keys ≡ true → HasAnswer settings kept k
    old_answer k other e =
        let old : HasAnswer settings tables k = f.keys.have_answers k e in
        record {
          number = old.number;
          is_newest = ap (λ (b : Bool). cond b (Some query) (newest_among tables k tables.cacheable)) (differs (same_key k (key_of a.question)) refl) ∙ old.is_newest;
          query = old.query;
          is_there = old.is_there;
          answer = old.answer;
          moment = old.moment;
          is_answer_recorded = old.is_answer_recorded;
          has_ttl = old.has_ttl;
        }
      where
        differs : (b : Bool) → same_key k (key_of a.question) ≡ b → passes_option (λ (x : QueryRow). same_key k (key_of x.question)) (nth tables.queries query) ≡ false
        differs true d = absurd (other d)
        differs false d = ap (passes_option (λ (x : QueryRow). same_key k (key_of x.question))) is ∙ d

    new_answer : 0 < ttl_of settings answer → HasAnswer settings kept (key_of a.question)
    new_answer l = record {
      number = query;
      is_newest = ap (λ (b : Bool). cond b (Some query) (newest_among tables (key_of a.question) tables.cacheable))
          (ap (passes_option (λ (x : QueryRow). same_key (key_of a.question) (key_of x.question))) is ∙ key_is (key_of a.question));
      query = a;
      is_there = is;
      answer = answer;
      moment = moment;
      is_answer_recorded = recorded;
      has_ttl = l;
    }

    zero_ttl : length (without_key (key_of a.question) tables.keys) ≤ settings.cache_size
    zero_ttl = without_fits (key_of a.question) tables.keys settings.cache_size f.keys.fit

    is_apart : (k : Key) → has_key k (without_key (key_of a.question) tables.keys) ≡ true → same_key k (key_of a.question) ≡ true → ⊥
    is_apart k e d = true≢false (sym (subst (λ (x : Key). has_key x (without_key (key_of a.question) tables.keys) ≡ true) (keys_equal k (key_of a.question) d) e) ∙ not_without (key_of a.question) tables.keys)

    -- the keys with or without the new one
    record AreKept (ks : List Key) : Type 0 where
      pub fit : length ks ≤ settings.cache_size
      pub distinct : (k : Key) → count_where (same_key k) ks ≤ 1
      pub answers : (k : Key) → has_key k ks ≡ true → HasAnswer settings kept k

    taken_out : AreKept (without_key (key_of a.question) tables.keys)
    taken_out = record {
      fit = zero_ttl;
      distinct = λ k. without_distinct k (key_of a.question) tables.keys (f.keys.are_distinct k);
      answers = λ k e. old_answer k (is_apart k e) (without_has k (key_of a.question) tables.keys e);
    }

    put_first : 0 < ttl_of settings answer → AreKept (take settings.cache_size (key_first (key_of a.question) tables.keys))
    put_first l = record {
      fit = take_fits (key_first (key_of a.question) tables.keys) settings.cache_size;
      distinct = λ k. let fewer : _ = take_count k (key_first (key_of a.question) tables.keys) settings.cache_size in le_trans fewer (first_distinct k (key_of a.question) tables.keys (f.keys.are_distinct k));
      answers = λ k e. which k (take_has k (key_first (key_of a.question) tables.keys) settings.cache_size e) (same_key k (key_of a.question)) refl;
    }
      where
        which : (k : Key) → has_key k (key_first (key_of a.question) tables.keys) ≡ true → (b : Bool) → same_key k (key_of a.question) ≡ b → HasAnswer settings kept k
        which k e true d = subst (HasAnswer settings kept) (sym (keys_equal k (key_of a.question) d)) (new_answer l)
        which k e false d = old_answer k (λ x. true≢false (sym x ∙ d)) (old_key (first_has k (key_of a.question) tables.keys e))
          where
            old_key : (k ≡ key_of a.question) ⊎ (has_key k tables.keys ≡ true) → has_key k tables.keys ≡ true
            old_key (inl x) = absurd (true≢false (sym (ap (λ (y : Key). same_key y (key_of a.question)) x ∙ key_is (key_of a.question)) ∙ d))
            old_key (inr x) = x

    kept_fit : IsFit settings kept
    kept_fit =
        let ks : AreKept (with_key settings.cache_size (ttl_of settings answer) (key_of a.question) tables.keys) = by_test AreKept (ttl_of settings answer == 0) _ _ (λ e. taken_out) (λ e. put_first (not_zero (ttl_of settings answer) e)) in
        record { keys = record { fit = ks.fit; are_distinct = ks.distinct; have_answers = ks.answers }; recorded = new_cacheable }
      where
        not_zero : (n : ℕ) → (n == 0) ≡ false → 0 < n
        not_zero n e = grind (arith, nat_tests, e)

  kept_now : (tables : Tables) (query : ℕ) (given : Answer) (a : QueryRow) → entered ≡ Answered query given → is_running_in before query ≡ true → nth tables.queries query ≡ Some a → FitNow tables →
      FitNow (with_kept settings query a.question (recorded_answer a.question.kind given) tables)
  kept_now tables query given a l run is r = go (passing is_running (nth before.queries query) run)
    where
      go : (b : QueryRow) × (nth before.queries query ≡ Some b) × (is_running b ≡ true) → FitNow (with_kept settings query a.question (recorded_answer a.question.kind given) tables)
      go (b, at, w) = there (rec query given b l at w)
        where
          there : IsRecorded hs.queries query b (recorded_answer b.question.kind given) moment → FitNow (with_kept settings query a.question (recorded_answer a.question.kind given) tables)
          there i = last (r.tables.queries query i.row i.is_there)
            where
              last : (c : QueryRow) × (nth tables.queries query ≡ Some c) × QueryStands i.row c → FitNow (with_kept settings query a.question (recorded_answer a.question.kind given) tables)
              last (c, x, s) =
                  let same : c ≡ a = same_Some c a (sym x ∙ is) in
                  let question : a.question ≡ b.question = sym (ap (λ (y : QueryRow). y.question) same) ∙ s.question ∙ i.question in
                  let recorded : a.answer ≡ Some (recorded_answer a.question.kind given, moment) =
                  sym (ap (λ (y : QueryRow). y.answer) same) ∙ s.answer _ i.is_answer_recorded ∙ ap (λ (q : Question). Some (recorded_answer q.kind given, moment)) (sym question) in
                  record {
                    tables = record { connections = r.tables.connections; requests = r.tables.requests; queries = r.tables.queries };
                    fit = kept_fit tables query a (recorded_answer a.question.kind given) is recorded r.fit;
                  }

  continued_cache : ContinuedParts settings moment before entered hits cache_now fit_now
  continued_cache = record {
    hit = λ tables continued number done rest a p is e w u c. hit_cache tables continued number done rest a p is (continued_stand.hit tables continued number done rest a p is e w u c.tables) w c;
    misses = λ tables continued number done rest e w c. c;
    rests = λ tables c. fit_from tables tables c c.tables refl refl;
    awaits = λ tables n r text is u e c. fit_from tables tables c c.tables refl refl;
    asks = λ tables n r question is u e c. fit_from tables _ c (continued_stand.asks tables n r question is u e c.tables) refl refl;
    decides = λ tables n r d is u e c. fit_from tables _ c (continued_stand.decides tables n r d is u e c.tables) refl refl;
    kept = λ tables m query given a l run is k r. kept_now tables query given a l run is r;
  }

-- ---- one entry, and a legal history

-- what comes before an input's own effect leaves the cache as it is
before_cache : (settings : Settings) (moment : ℕ) (input : Input) (tables : Tables) → SameCache tables (before_input settings moment input tables)
unfolding with_due_replied with_timed_out
before_cache settings moment input tables =
    before_gives settings moment tables input (SameCache tables) (SameCache tables) (SameCache tables)
    (record { takes = λ is. record { cacheable = refl; keys = refl }; stays = record { cacheable = refl; keys = refl }; times_out = λ t p. record { cacheable = p.cacheable; keys = p.keys }; replies = λ t p. record { cacheable = p.cacheable; keys = p.keys } })

entry_fit : (settings : Settings) (tables : Tables) (e : Entry) →
    ContinuedHits settings e.moment tables (option_and_then (nth (after_input settings e.moment e.input (before_input settings e.moment e.input tables)).tables.requests) (after_input settings e.moment e.input (before_input settings e.moment e.input tables)).continued) e.hits →
    IsFit settings tables → IsFit settings (after settings tables e)
unfolding after
entry_fit settings tables e hits f =
    let before : Tables = before_input settings e.moment e.input tables in
    let h : AfterInput = after_input settings e.moment e.input before in
    let s : IsSound settings e.moment before e.input (λ x m. TablesStand before x) _ h =
    sound_input settings e.moment before e.input (λ x m. TablesStand before x) (input_stands settings e.moment before before e.input e.hits) e.input refl (all_same before) in
    let c : IsSound settings e.moment before e.input (λ x m. SameCache before x) _ h =
    sound_input settings e.moment before e.input (λ x m. SameCache before x) (input_cache settings e.moment before e.input) e.input refl (untouched settings e.moment before e.input) in
    let b : SameCache tables before = before_cache settings e.moment e.input tables in
    let t : TablesStand tables h.tables = tables_later tables before h.tables (before_stands settings e.moment e.input tables) s.fact in
    let fit : IsFit settings h.tables = same_fit settings tables h.tables t.queries (c.fact.cacheable ∙ b.cacheable) (c.fact.keys ∙ b.keys) f in
    let cached : AllCached h.tables e.hits = cached_later tables h.tables t.queries (c.fact.keys ∙ b.keys) e.hits (continued_cached settings e.moment tables _ e.hits hits) in
    let now : CacheNow settings e.moment before h.tables e.input e.hits fit cached _ h.tables = record {
      tables = all_same h.tables;
      cacheable = refl;
      fit = fit.keys.fit;
      distinct = fit.keys.are_distinct;
      within = λ k x. x;
      all = λ k x. x;
    } in
    (continued_gives settings e.moment before e.input e.hits _ _
    (continued_cache settings e.moment before h.tables e.input e.hits fit cached
    (λ query given a l is run. subst (λ (i : Input). IsRecorded (after_input settings e.moment i before).tables.queries query a (recorded_answer a.question.kind given) e.moment) (sym l)
    (told_is_recorded settings e.moment query given before a is run (Answered query given) (refl, refl))))
    h now s.continued).fit

start_fit : (settings : Settings) → IsFit settings (tables_of settings [])
start_fit settings = record {
  keys = record { fit = zero-le; are_distinct = λ k. zero-le; have_answers = λ k e. absurd (true≢false (sym e)) };
  recorded = tt;
}

history_fit : (settings : Settings) (h : List Entry) → IsLegal settings h → IsFit settings (tables_of settings h)
history_fit settings [] legal = start_fit settings
history_fit settings (e ∷ g) legal = entry_fit settings (tables_of settings g) e legal.1.hits (history_fit settings g legal.0)

pub keys_fit : KeysFit
keys_fit settings h legal = (history_fit settings h legal).keys
