-- What a reader has ahead where some of its bytes are held already.
use Rattle.std.proofs.Common.{◌≡◌, ◌≢◌, ℕ, ◌+◌, ◌<◌, ◌≤◌, List, [], ◌∷◌, ◌++◌, length, take, drop, false, ◌==◌, None, Some, Option, Result, Ok, Err, Vec, Global, eq-eqb, true≢false, refl, sym, ap, ◌∙◌, subst, append_assoc, arith, take-append-drop, length-take, length-append}
use Rattle.std.proofs.lemmas.List.{take-append-le, drop_at, get_or_at}
use Rattle.std.proofs.lemmas.List.Elements.{All-take, All-weaker}
use Rattle.std.specs.Io.KnownBytes.{Consumes, Keeps, prepend_known}
use Rattle.da_outside.specs.declared.faults.GetFault.{GetFault}
use Rattle.da_outside.specs.declared.faults.GetFault.TheVariants.{Failed, Long, NoMemory}
use Rattle.da_outside.specs.Link.{IsLine, Receives, TooLongTaken}
use Rattle.da_outside.specs.Rest.{LacksEnd}
use Rattle.da_tabline.specs.Parts.{Lacks, SplitsAt}

-- ---- reads

pub held_kept : (a b : Option (List ℕ)) (held : List ℕ) → Keeps a b → Keeps (prepend_known held a) (prepend_known held b)
held_kept None b held kept = tt
held_kept (Some x) None held kept = absurd kept
held_kept (Some x) (Some y) held kept = ap (λ l. held ++ l) kept

pub held_none : (a b : Option (List ℕ)) (held : List ℕ) → Consumes a b [] → Keeps (prepend_known held a) (prepend_known held b)
held_none None b held taken = tt
held_none (Some x) None held taken = absurd taken
held_none (Some x) (Some y) held taken = ap (λ l. held ++ l) (sym taken)

pub held_more : (a b : Option (List ℕ)) (held piece : List ℕ) → Consumes a b piece → Keeps (prepend_known held a) (prepend_known (held ++ piece) b)
held_more None b held piece taken = tt
held_more (Some x) None held piece taken = absurd taken
held_more (Some x) (Some y) held piece taken = append_assoc held piece y ∙ ap (λ l. held ++ l) (sym taken)

-- ---- what is taken of the held bytes

taken_ahead : (a b : Option (List ℕ)) (before now front : List ℕ) → Keeps a (prepend_known before b) → before ≡ front ++ now → Consumes a (prepend_known now b) front
taken_ahead None b before now front kept is = tt
taken_ahead (Some x) None before now front kept is = absurd kept
taken_ahead (Some x) (Some y) before now front kept is = sym kept ∙ ap (λ l. l ++ y) is ∙ append_assoc front now y

kept_ahead : (a b : Option (List ℕ)) (before now : List ℕ) → Keeps a (prepend_known before b) → now ≡ before → Keeps a (prepend_known now b)
kept_ahead None b before now kept is = tt
kept_ahead (Some x) None before now kept is = absurd kept
kept_ahead (Some x) (Some y) before now kept is = ap (λ l. l ++ y) is ∙ kept

pub received_ahead : (a b : Option (List ℕ)) (before now : List ℕ) (result : Result (Vec ℕ Global) GetFault) → Keeps a (prepend_known before b) → Receives (Some before) (Some now) result → Receives a (prepend_known now b) result
received_ahead a b before now (Ok line) kept is = (is.0, taken_ahead a b before now (line.items ++ 10 ∷ []) kept is.1)
received_ahead a b before now (Err Long) kept is = record { front = is.front; long = is.long; no_end = is.no_end; taken = taken_ahead a b before now is.front kept is.taken }
received_ahead a b before now (Err Failed) kept is = kept_ahead a b before now kept is
received_ahead a b before now (Err NoMemory) kept is = kept_ahead a b before now kept is

pub not_filled : (a b : Option (List ℕ)) (fault : GetFault) → (fault ≡ Long → ⊥) → Keeps a b → Receives a b (Err fault)
not_filled a b Failed isnt kept = kept
not_filled a b NoMemory isnt kept = kept
not_filled a b Long isnt kept = absurd (isnt refl)

-- ---- the first line

differs : (c : ℕ) → (c == 10) ≡ false → c ≢ 10
differs c differ same = true≢false (sym (eq-eqb c 10 same) ∙ differ)

lacks_end : (xs : List ℕ) → Lacks 10 xs → LacksEnd xs
lacks_end xs lacks = All-weaker {X = ℕ} (λ c. (c == 10) ≡ false) (λ c. c ≢ 10) differs xs lacks

pub line_taken : (bytes line rest : List ℕ) → SplitsAt 10 bytes line rest → length line ≤ 8192 → IsLine line × (bytes ≡ (line ++ 10 ∷ []) ++ drop (length line + 1) bytes)
line_taken bytes line rest splits short =
    let whole : bytes ≡ (line ++ 10 ∷ []) ++ rest = splits.whole ∙ sym (append_assoc line (10 ∷ []) rest) in
    let after : drop (length line + 1) bytes ≡ rest = ap (drop (length line + 1)) whole ∙ drop_at (line ++ 10 ∷ []) rest (length line + 1) (length-append line (10 ∷ [])) in
    (record { short = short; ends_after = lacks_end line splits.first }, whole ∙ ap (λ l. (line ++ 10 ∷ []) ++ l) (sym after))

long_taken : (bytes : List ℕ) → 8192 < length bytes → LacksEnd (take 8193 bytes) → TooLongTaken (Some bytes) (Some (drop 8193 bytes))
long_taken bytes long no_end = record { front = take 8193 bytes; long = simp length-take (omega (arith, long)); no_end = no_end; taken = sym (take-append-drop 8193 bytes) }

pub long_without_end : (bytes : List ℕ) → Lacks 10 bytes → 8192 < length bytes → TooLongTaken (Some bytes) (Some (drop 8193 bytes))
long_without_end bytes lacks long = long_taken bytes long (All-take {X = ℕ} (λ c. c ≢ 10) 8193 bytes (lacks_end bytes lacks))

pub long_before_end : (bytes line rest : List ℕ) → SplitsAt 10 bytes line rest → 8192 < length line → TooLongTaken (Some bytes) (Some (drop 8193 bytes))
long_before_end bytes line rest splits long =
    let front : take 8193 bytes ≡ take 8193 line = ap (take 8193) splits.whole ∙ take-append-le 8193 line (10 ∷ rest) long in
    let P : List ℕ → Type 0 = LacksEnd in
    let all : length bytes ≡ length line + length (10 ∷ rest) = ap length splits.whole ∙ length-append line (10 ∷ rest) in
    long_taken bytes (omega (arith, all, long)) (subst P (sym front) (All-take {X = ℕ} (λ c. c ≢ 10) 8193 line (lacks_end line splits.first)))

pub not_lacking : (bytes line rest : List ℕ) → SplitsAt 10 bytes line rest → LacksEnd bytes → ⊥
not_lacking bytes line rest splits lacks =
    let all : length bytes ≡ length line + length (10 ∷ rest) = ap length splits.whole ∙ length-append line (10 ∷ rest) in
    let P : List ℕ → Type 0 = λ xs. LacksEnd xs in
    subst P splits.whole lacks (length line) 0 (omega (arith, length-append line (10 ∷ rest))) (get_or_at line 10 rest 0 (length line) refl)

-- ---- the same, of the texts that calls hand back

pub line_given : (bytes text line rest kept now : List ℕ) (n : ℕ) → text ≡ bytes → SplitsAt 10 text line rest → length line ≤ 8192 → kept ≡ line → n ≡ length kept → now ≡ drop (n + 1) bytes
    → IsLine kept × (bytes ≡ (kept ++ 10 ∷ []) ++ now)
line_given bytes text line rest kept now n is splits short same long left =
    let taken : IsLine line × (bytes ≡ (line ++ 10 ∷ []) ++ drop (length line + 1) bytes) =
    line_taken bytes line rest (subst (λ (xs : List ℕ). SplitsAt 10 xs line rest) is splits) short in
    let after : drop (length line + 1) bytes ≡ now = ap (λ (xs : List ℕ). drop (length xs + 1) bytes) (sym same) ∙ ap (λ (k : ℕ). drop (k + 1) bytes) (sym long) ∙ sym left in
    subst (λ (xs : List ℕ). IsLine xs × (bytes ≡ (xs ++ 10 ∷ []) ++ now)) (sym same) (taken.0, taken.1 ∙ ap (λ (l : List ℕ). (line ++ 10 ∷ []) ++ l) after)

pub cut_before_end : (bytes text line rest held now : List ℕ) → text ≡ bytes → held ≡ bytes → SplitsAt 10 text line rest → 8192 < length line → now ≡ drop 8193 held → TooLongTaken (Some bytes) (Some now)
cut_before_end bytes text line rest held now is kept splits long left =
    let after : drop 8193 bytes ≡ now = ap (drop 8193) (sym kept) ∙ sym left in
    subst (λ (xs : List ℕ). TooLongTaken (Some bytes) (Some xs)) after (long_before_end bytes line rest (subst (λ (xs : List ℕ). SplitsAt 10 xs line rest) is splits) long)

pub cut_without_end : (bytes text held now : List ℕ) → text ≡ bytes → held ≡ bytes → Lacks 10 text → (LacksEnd bytes → 8192 < length bytes) → now ≡ drop 8193 held → TooLongTaken (Some bytes) (Some now)
cut_without_end bytes text held now is kept lacks shows left =
    let none : Lacks 10 bytes = subst (λ (xs : List ℕ). Lacks 10 xs) is lacks in
    let after : drop 8193 bytes ≡ now = ap (drop 8193) (sym kept) ∙ sym left in
    subst (λ (xs : List ℕ). TooLongTaken (Some bytes) (Some xs)) after (long_without_end bytes none (shows (lacks_end bytes none)))
