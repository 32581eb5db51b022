-- Lemmas on a password's line, and on the run of `pw` by its status.
use Rattle.std.proofs.Common.{◌≡◌, ◌≤◌, ℕ, Bool, true, false, List, [], ◌∷◌, ◌++◌, length, Option, Some, None, refl, sym, ap, ◌∙◌, subst, inl, inr, arith, append-nil, eqb}
use Rattle.std.specs.Prelude.{◌&&◌, nat_le}
use Rattle.std.specs.List.{list_all}
use Rattle.std.specs.Io.KnownBytes.{Consumes, IsAtEnd}
use Rattle.std.proofs.lemmas.List.{length-append}
use Rattle.std.proofs.lemmas.Option.{same_Some}
use Rattle.da_base.specs.Words.{Bytes, before_byte, after_byte}
use Rattle.da_tabline.specs.Parts.{SplitsAt}
use Rattle.da_tabline.proofs.PartLemmas.{before_byte_at, after_byte_at}
use Rattle.da_schemes.specs.declared.scheme.Scheme.{Scheme}
use Rattle.da_command.specs.declared.status.Status.{Status}
use Rattle.da_command.specs.declared.status.Status.TheVariants.{Done, Usage, BadScript, LongScript, BadInput, NoSettings, NoListen, NoMemory, ReadFault, WriteFault, Full, BadSettings}
use Rattle.da_command.specs.Statuses.{IsDone}
use Rattle.da_outside.specs.Source.{SourceState}
use Rattle.base64.specs.GeneralPurpose.{IsBytes}
use Rattle.da_outside.specs.Rand.{Draws}
use Rattle.da_stream.specs.Gather.{ReadsAll}
use Rattle.da_stream.proofs.BadLineLemmas.{not_longer}
use Rattle.da_pw.specs.Pw.{is_no_nul, is_password, IsPasswordLine, IsNoPasswordLine, PwOutside, IsUnwritten, IsOff, WasGiven, Pws, IsSound, CompletesPw, RunsPw, pw_scheme}

-- ---- the line of a password

line_split : (input plain : Bytes) → IsPasswordLine input plain → SplitsAt 10 input plain []
line_split input plain is = record { whole = is.line; first = is.one }

-- an input is split at its first LF in one way
pub front_is : (input front back plain : Bytes) → SplitsAt 10 input front back → IsPasswordLine input plain → front ≡ plain
front_is input front back plain split is =
    sym (ap (before_byte 10) split.whole ∙ before_byte_at 10 front back split.first)
    ∙ ap (before_byte 10) is.line ∙ before_byte_at 10 plain [] is.one

pub back_is : (input front back plain : Bytes) → SplitsAt 10 input front back → IsPasswordLine input plain → back ≡ []
back_is input front back plain split is =
    same_Some back []
    (sym (ap (after_byte 10) split.whole ∙ after_byte_at 10 front back split.first) ∙ ap (after_byte 10) is.line ∙ after_byte_at 10 plain [] is.one)

-- where what stands before the first LF is no password, the input is no password's line
pub no_password : (input front back : Bytes) → SplitsAt 10 input front back → false ≡ is_password front → IsNoPasswordLine input
no_password input front back split isnt plain is =
    let clash = isnt ∙ ap is_password (front_is input front back plain split is) ∙ is.password in cc

-- where more stands after the first LF, the input is no password's line
pub no_one_line : (input front back : Bytes) → SplitsAt 10 input front back → false ≡ eqb (length back) 0 → IsNoPasswordLine input
no_one_line input front back split more plain is =
    let clash = more ∙ ap (λ (bytes : Bytes). eqb (length bytes) 0) (back_is input front back plain split is) in cc

short_from : (a b c : Bool) → (a && b && c) ≡ true → b ≡ true
short_from true true c h = refl
short_from true false c h = cc
short_from false b c h = cc

le_from : (m n : ℕ) → nat_le m n ≡ true → m ≤ n
le_from m n h = grind (arith)

-- a password's line has at most 513 bytes
line_short : (input plain : Bytes) → IsPasswordLine input plain → length input ≤ 513
line_short input plain is =
    let whole = ap (λ (bytes : Bytes). length bytes) is.line in
    let short = le_from (length plain) 512 (short_from (nat_le 1 (length plain)) (nat_le (length plain) 512) (list_all is_no_nul plain) is.password) in
    omega (arith, whole, length-append plain (10 ∷ []), short)

-- an input that was read to its end was read whole
read_whole : (input read : Bytes) (left : Option Bytes) → Consumes (Some input) left read → IsAtEnd left → input ≡ read
read_whole input read None reads ended = absurd reads
read_whole input read (Some rest) reads ended = reads ∙ ap (λ r. read ++ r) ended ∙ append-nil read

-- ---- the run

pub unwritten : (before after : PwOutside) → after.output ≡ before.output → after.draws ≡ before.draws → IsUnwritten before after
unwritten before after output draws = record { undrawn = draws; unwritten = output }

-- the input that was read, as it was shown to its reader
abbrev pub was_given : (before after : PwOutside) (input shown plain salt : Bytes) → shown ≡ input → IsPasswordLine shown plain → ReadsAll 513 before.input after.input input
    → Draws before.draws after.draws salt → length salt ≡ 16 → IsBytes salt → WasGiven before after
was_given before after input shown plain salt same is reads draws sixteen bytes =
    record {
      input = input;
      plain = plain;
      salt = salt;
      reads = reads;
      is_line = subst (λ (b : Bytes). IsPasswordLine b plain) same is;
      draws = draws;
      sixteen = sixteen;
      bytes = bytes;
    }

-- a password's line isn't off its form
no_fault_of_form : (input plain : Bytes) (before after : SourceState) → before.left ≡ Some input → IsPasswordLine input plain → IsOff before after → ⊥
no_fault_of_form input plain before after left is off =
    elim off [
      | inl more ↦
          not_longer input more.bytes after.left 513 (subst (λ (l : Option Bytes). Consumes l after.left more.bytes) left more.reads)
          (line_short input plain is) more.many
      | inr all ↦
          let whole = read_whole input all.0 after.left (subst (λ (l : Option Bytes). Consumes l after.left all.0) left all.1.reads) all.1.ended in
          all.2 plain (subst (λ (i : Bytes). IsPasswordLine i plain) whole is)
    ]

completes : (scheme : Scheme) (before after : PwOutside) (status : Status) → Pws (Some scheme) before after status → IsSound before after → IsDone status
completes scheme before after Done how sound = tt
completes scheme before after Usage how sound = how
completes scheme before after (BadScript line) how sound = how
completes scheme before after LongScript how sound = how
completes scheme before after BadInput how sound = no_fault_of_form sound.input sound.plain before.input after.input sound.left sound.is_line how.0
completes scheme before after NoSettings how sound = how
completes scheme before after NoListen how sound = how
completes scheme before after NoMemory how sound = tt
completes scheme before after ReadFault how sound = sound.input_sound how.0.rose
completes scheme before after WriteFault how sound = sound.output_sound how.front.rose
completes scheme before after Full how sound = how
completes scheme before after (BadSettings fault) how sound = how

pub runs_pw : (words : List Bytes) (scheme : Scheme) (before after : PwOutside) (status : Status) → Some scheme ≡ pw_scheme words → Pws (Some scheme) before after status
    → RunsPw words before after status
runs_pw words scheme before after status same how =
    record {
      stores = subst (λ (w : Option Scheme). Pws w before after status) same how;
      complete = subst (λ (w : Option Scheme). CompletesPw w before after status) same (completes scheme before after status how);
    }

-- the words are off their form
pub runs_off : (words : List Bytes) (before : PwOutside) → None ≡ pw_scheme words → RunsPw words before before Usage
runs_off words before same =
    record {
      stores = subst (λ (w : Option Scheme). Pws w before before Usage) same refl;
      complete = subst (λ (w : Option Scheme). CompletesPw w before before Usage) same tt;
    }
