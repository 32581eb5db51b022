-- A run over an input that goes on, and its ends.
use Rattle.std.proofs.Common.{◌≡◌, ℕ, suc, ◌+◌, ◌-◌, ◌^◌, ◌<◌, ◌≤◌, Bool, true, false, List, [], ◌∷◌, ◌++◌, length, take, drop, eqb, leb, refl, sym, ap, ◌∙◌, subst, inl, inr, arith, append-nil, append_assoc}
use Rattle.std.specs.Io.KnownBytes.{Consumes}
use Rattle.std.proofs.KnownBytes.{Consumes-nil, Consumes-trans, Consumes-kept}
use Rattle.std.proofs.lemmas.Bool.{cases_Bool, le-leb}
use Rattle.std.proofs.lemmas.List.{length-append, length_push, take_at}
use Rattle.std.proofs.lemmas.List.Elements.{All-nil}
use Rattle.da_base.specs.Words.{Bytes}
use Rattle.da_outside.specs.Source.{SourceState}
use Rattle.da_tabline.specs.Lines.{Cutter, line_cut, new_cutter, after_feed, after_take}
use Rattle.da_tabline.proofs.LineLemmas.{cut_from, line_cut-append}
use Rattle.da_tabline.proofs.StreamLemmas.{after_feed-append}
use Rattle.da_stream.specs.declared.lines.LinesEnd.TheVariants.{Done, Cut, TooLong, LongInput, ReadFault, NoMemory, Stopped}
use Rattle.da_stream.specs.Fill.{FeedsBytes, FindsEnd, FindsFault, ReadsSome, ReadsOne}
use Rattle.da_stream.specs.LineRuns.{TakesLines, TakesAll, RunsOver, next_line}

-- the run so far: what was read, the lines that the handler took, and what the cutter holds of the rest
pub record Running {H : Type 0} (takes : ℕ → Bytes → H → H → Type 0) (max : ℕ) (before now : SourceState) (old new : H) (cutter : Cutter) (number budget : ℕ) : Type 0 where
  pub read : Bytes
  pub taken : List Bytes
  pub reads : Consumes before.left now.left read
  pub later : before.faults ≤ now.faults
  pub fed : record cutter { ready = taken ++ cutter.ready } ≡ after_feed (new_cutter max) read
  pub took : TakesLines takes 1 taken old new
  pub count : number ≡ length taken + 1
  pub bytes : length read + budget ≡ 2 ^ 30

-- ---- there are at most as many lines as bytes

cut_from-few : (max : ℕ) (begun bytes : Bytes) → length (cut_from max begun bytes).lines ≤ length bytes
cut_from-few max begun [] =
    elim (cases_Bool (leb (length begun) max)) [
      | inl e ↦ rw e (omega arith)
      | inr e ↦ rw e (omega arith)
    ]
cut_from-few max begun (c ∷ cs) =
    elim (cases_Bool (eqb c 10)) [
      | inl e ↦
          elim (cases_Bool (leb (length begun) max)) [
            | inl f ↦ let few = cut_from-few max [] cs in rw (e, f) (omega arith)
            | inr f ↦ rw (e, f) (omega arith)
          ]
      | inr e ↦ let few = cut_from-few max (begun ++ c ∷ []) cs in rw e (omega arith)
    ]

line_cut-few : (max : ℕ) (bytes : Bytes) → length (line_cut max bytes).lines ≤ length bytes
line_cut-few max bytes = rw (line_cut-append max [] bytes (All-nil (λ x. eqb x 10 ≡ false))) (cut_from-few max [] bytes)

-- ---- the run goes on

-- one line more was taken
TakesLines-push : {H : Type 0} (takes : ℕ → Bytes → H → H → Type 0) (n m : ℕ) (lines : List Bytes) (line : Bytes) (old mid new : H)
    → TakesLines takes n lines old mid → m ≡ n + length lines → takes m line mid new → TakesLines takes n (lines ++ line ∷ []) old new
TakesLines-push takes n m [] line old mid new all is one =
    let at : m ≡ n = omega (arith, is) in
    (new, subst (λ h. takes n line h new) all (subst (λ k. takes k line mid new) at one), refl)
TakesLines-push takes n m (first ∷ lines) line old mid new all is one =
    (all.0, all.1, TakesLines-push takes (suc n) m lines line all.0 mid new all.2 (omega (arith, is)) one)

-- before the first byte
started_new : {H : Type 0} (takes : ℕ → Bytes → H → H → Type 0) (max : ℕ) (state : SourceState) (handler : H)
    → Running takes max state state handler handler (new_cutter max) 1 (2 ^ 30)
started_new takes max state handler =
    record {
      read = [];
      taken = [];
      reads = Consumes-nil state.left;
      later = omega arith;
      fed = rw (le-leb 0 max (omega arith)) refl;
      took = refl;
      count = refl;
      bytes = refl;
    }

pub started : {H : Type 0} (takes : ℕ → Bytes → H → H → Type 0) (max : ℕ) (state : SourceState) (handler : H) (cutter : Cutter) → cutter ≡ new_cutter max
    → Running takes max state state handler handler cutter 1 (2 ^ 30)
started takes max state handler cutter new =
    subst (λ (c : Cutter). Running takes max state state handler handler c 1 (2 ^ 30)) (sym new) (started_new takes max state handler)

front_fed : (front : List Bytes) (c : Cutter) (bytes : Bytes)
    → record (after_feed c bytes) { ready = front ++ (after_feed c bytes).ready } ≡ after_feed (record c { ready = front ++ c.ready }) bytes
front_fed front c bytes =
    elim (cases_Bool c.is_long) [
      | inl e ↦ rw e
      | inr e ↦ rw (e, append_assoc front c.ready (line_cut c.max (c.rest ++ bytes)).lines)
    ]

-- what more bytes make of a cutter, some of whose lines were taken
more_fed : (max : ℕ) (taken : List Bytes) (cutter : Cutter) (read bytes : Bytes) → record cutter { ready = taken ++ cutter.ready } ≡ after_feed (new_cutter max) read
    → record (after_feed cutter bytes) { ready = taken ++ (after_feed cutter bytes).ready } ≡ after_feed (new_cutter max) (read ++ bytes)
more_fed max taken cutter read bytes fed =
    front_fed taken cutter bytes ∙ ap (λ c. after_feed c bytes) fed
    ∙ after_feed-append (new_cutter max) read bytes (All-nil (λ x. eqb x 10 ≡ false))

module _ {H : Type 0} {takes : ℕ → Bytes → H → H → Type 0} {max : ℕ} {before now : SourceState} {old new : H} {cutter : Cutter} {number budget : ℕ}
    (run : Running takes max before now old new cutter number budget) where
  -- more bytes were read and fed
  pub running_fed : (later : SourceState) (fed : Cutter) (count : ℕ) (is_long : Bool) → FeedsBytes now later cutter fed budget count is_long
      → Running takes max before later old new fed number (budget - count)
  running_fed later fed count is_long feeds =
      record {
        read = run.read ++ feeds.bytes;
        taken = run.taken;
        reads = Consumes-trans before.left now.left later.left run.read feeds.bytes run.reads feeds.reads;
        later = let one = run.later in let two = feeds.later in omega arith;
        fed = ap (λ (c : Cutter). record c { ready = run.taken ++ c.ready }) feeds.fed ∙ more_fed max run.taken cutter run.read feeds.bytes run.fed;
        took = run.took;
        count = run.count;
        bytes =
            let total = run.bytes in
            let counted = feeds.counted in
            let within = feeds.within in
            omega (arith, length-append run.read feeds.bytes);
      }

  -- one more line was taken
  pub running_taken : (newer : H) (left : Cutter) (line : Bytes) → cutter.ready ≡ line ∷ left.ready → left ≡ after_take cutter → takes number line new newer
      → Running takes max before now old newer left (number + 1) budget
  running_taken newer left line first taken takes_it =
      record {
        read = run.read;
        taken = run.taken ++ line ∷ [];
        reads = run.reads;
        later = run.later;
        fed =
            ap (λ (c : Cutter). record c { ready = (run.taken ++ line ∷ []) ++ left.ready }) taken
            ∙ ap (λ ready. record cutter { ready = ready }) (append_assoc run.taken (line ∷ []) left.ready ∙ ap (λ ready. run.taken ++ ready) (sym first))
            ∙ run.fed;
        took = TakesLines-push takes 1 number run.taken line old new newer run.took (let count = run.count in omega arith) takes_it;
        count = let count = run.count in omega (arith, length_push run.taken line);
        bytes = run.bytes;
      }

  -- no line was left to take
  pub idle : (left : Cutter) → cutter.ready ≡ [] → left ≡ after_take cutter
      → Running takes max before now old new left number budget × (left.ready ≡ []) × (left.is_long ≡ cutter.is_long)
  idle left none taken =
      let same : left ≡ cutter = taken ∙ ap (λ (ready : List Bytes). record cutter { ready = ready }) (ap (λ (ready : List Bytes). drop 1 ready) none ∙ sym none) in (
        subst (λ (c : Cutter). Running takes max before now old new c number budget) (sym same) run,
        ap (λ (c : Cutter). c.ready) same ∙ none,
        ap (λ (c : Cutter). c.is_long) same,
      )

  -- ---- what the run so far says of the bytes read

  lines_are : (line_cut max run.read).lines ≡ run.taken ++ cutter.ready
  lines_are = ap (λ (c : Cutter). c.ready) (sym run.fed)

  rest_is : (line_cut max run.read).rest ≡ cutter.rest
  rest_is = ap (λ (c : Cutter). c.rest) (sym run.fed)

  long_is : (line_cut max run.read).is_long ≡ cutter.is_long
  long_is = ap (λ (c : Cutter). c.is_long) (sym run.fed)

  within : length run.read ≤ 2 ^ 30
  within = let total = run.bytes in omega arith

  -- no line has a number past the most bytes
  pub few : number ≤ 2 ^ 30 + 1
  few =
      let count = run.count in
      let short = within in
      let lines = ap (λ (ls : List Bytes). length ls) lines_are in
      omega (arith, lines, length-append run.taken cutter.ready, line_cut-few max run.read)

  -- where no line is left
  all_taken : cutter.ready ≡ [] → (line_cut max run.read).lines ≡ run.taken
  all_taken none = lines_are ∙ ap (λ ready. run.taken ++ ready) none ∙ append-nil run.taken

  took_all : cutter.ready ≡ [] → TakesAll takes max run.read old new
  took_all none = subst (λ (ls : List Bytes). TakesLines takes 1 ls old new) (sym (all_taken none)) run.took

  next_is : cutter.ready ≡ [] → number ≡ next_line max run.read
  next_is none = run.count ∙ ap (λ (ls : List Bytes). length ls + 1) (sym (all_taken none))

  -- ---- the ends

  module _ {E : Type 0} (stops : ℕ → Bytes → H → H → E → Type 0) where
    pub ends_done : (after : SourceState) → cutter.ready ≡ [] → cutter.is_long ≡ false → FindsEnd now after → cutter.rest ≡ []
        → RunsOver takes stops max before after old new Done
    ends_done after none short end whole =
        record {
          read = run.read;
          reads = Consumes-kept before.left now.left after.left run.read run.reads end.keeps;
          few = within;
          ends = (record { ended = end.ended; fits = long_is ∙ short; took = took_all none }, rest_is ∙ whole);
        }

    pub ends_cut : (after : SourceState) → cutter.ready ≡ [] → cutter.is_long ≡ false → FindsEnd now after → 0 < length cutter.rest
        → RunsOver takes stops max before after old new (Cut number)
    ends_cut after none short end open_yet =
        record {
          read = run.read;
          reads = Consumes-kept before.left now.left after.left run.read run.reads end.keeps;
          few = within;
          ends = (
            record { ended = end.ended; fits = long_is ∙ short; took = took_all none },
            subst (λ (rest : Bytes). 0 < length rest) (sym rest_is) open_yet,
            next_is none,
          );
        }

    pub ends_long : cutter.ready ≡ [] → cutter.is_long ≡ true → RunsOver takes stops max before now old new (TooLong number)
    ends_long none long =
        record { read = run.read; reads = run.reads; few = within; ends = (took_all none, long_is ∙ long, next_is none) }

    pub ends_much : (after : SourceState) → cutter.ready ≡ [] → cutter.is_long ≡ false → ReadsOne now after → budget ≡ 0
        → RunsOver takes stops max before after old new LongInput
    ends_much after none short one spent =
        let total = run.bytes in
        let full : length run.read ≡ 2 ^ 30 = omega arith in
        let front : take (2 ^ 30) (run.read ++ one.byte ∷ []) ≡ run.read = take_at run.read (one.byte ∷ []) (2 ^ 30) full in
        record {
          read = run.read ++ one.byte ∷ [];
          reads = Consumes-trans before.left now.left after.left run.read (one.byte ∷ []) run.reads one.reads;
          few = omega (arith, length_push run.read one.byte);
          ends = (
            subst (λ (bytes : Bytes). TakesAll takes max bytes old new) (sym front) (took_all none),
            ap (λ (bytes : Bytes). (line_cut max bytes).is_long) front ∙ long_is ∙ short,
          );
        }

    pub ends_read : (after : SourceState) → cutter.ready ≡ [] → cutter.is_long ≡ false → FindsFault now after → RunsOver takes stops max before after old new ReadFault
    ends_read after none short fault =
        record {
          read = run.read;
          reads = Consumes-kept before.left now.left after.left run.read run.reads fault.keeps;
          few = within;
          ends = (took_all none, long_is ∙ short, let one = run.later in let two = fault.rose in omega arith);
        }

    -- some bytes were read and not fed
    pub ends_unfed : (after : SourceState) → ReadsSome budget now after → RunsOver takes stops max before after old new NoMemory
    ends_unfed after some =
        record {
          read = run.read ++ some.bytes;
          reads = Consumes-trans before.left now.left after.left run.read some.bytes run.reads some.reads;
          few = let total = run.bytes in let few = some.few in omega (arith, length-append run.read some.bytes);
          ends = record {
            taken = run.taken;
            others = (after_feed cutter some.bytes).ready;
            are_lines = ap (λ (c : Cutter). c.ready) (sym (more_fed max run.taken cutter run.read some.bytes run.fed));
            took = run.took;
          };
        }

    -- the handler ended the run at the first line that is left
    pub ends_stopped : (newer : H) (line : Bytes) (others : List Bytes) (stop : E) → cutter.ready ≡ line ∷ others → stops number line new newer stop
        → RunsOver takes stops max before now old newer (Stopped number stop)
    ends_stopped newer line others stop first stopped =
        record {
          read = run.read;
          reads = run.reads;
          few = within;
          ends = record {
            taken = run.taken;
            line = line;
            others = others;
            are_lines = lines_are ∙ ap (λ ready. run.taken ++ ready) first;
            mid = new;
            took = run.took;
            is_number = run.count;
            stopped = stopped;
          };
        }
