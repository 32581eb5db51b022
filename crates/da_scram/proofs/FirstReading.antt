-- The client's first message is read as it is spelled.
use Rattle.std.proofs.Common.{◌≡◌, ℕ, ◌-◌, ◌<◌, Bool, true, false, cond, ◌&&◌, ◌||◌, List, [], ◌∷◌, ◌++◌, length, take, is_some, Option, Some, None, option_map, option_and_then, eqb, codes, refl, sym, ap, ◌∙◌, subst, inl, inr, append_assoc, arith}
use Rattle.std.specs.List.{list_all, join_with_byte}
use Rattle.std.proofs.lemmas.Bool.{cases_Bool, eqb-true, and_parts, and_from}
use Rattle.std.proofs.lemmas.List.{length-append, append_cancel_left}
use Rattle.std.proofs.lemmas.Option.{same_Some, cond_some, option_and_then_some}
use Rattle.std.proofs.Math.Seq.{take-append_seam}
use Rattle.da_base.specs.Words.{Bytes, pieces, after_front}
use Rattle.da_tabline.specs.Parts.{Lacks, IsCutInFour, more_pieces}
use Rattle.da_tabline.proofs.PartLemmas.{after_front_some}
use Rattle.da_scram.specs.Messages.{FirstMessage, IsFirst, header, first_bare, is_name, is_authzid, is_nonce, is_extension, is_first_message, written, written_authzid, listed}
use Rattle.da_scram.specs.Reading.{flag_read, authzid_read, name_read, right_nonce, nonce_read, first_named, first_with, first_in_pieces, first_message}
use Rattle.da_scram.specs.Cuts.{IsFirstCut, AreNames, ReadsFirst}
use Rattle.da_scram.proofs.Commas.{EachLacks, Lacks-nil, Lacks-cons, pieces-listed, joined-listed, joined-pieces, Lacks-written, Lacks-written_authzid, Lacks-nonce, EachLacks-extensions}
use Rattle.da_scram.proofs.NameReading.{name_read-some, name_read_written, authzid_some, authzid_from}

-- ---- the whole text

bare_grouped : (name nonce more : Bytes) → (codes "n=" ++ name) ++ 44 ∷ ((codes "r=" ++ nonce) ++ more) ≡ codes "n=" ++ name ++ codes ",r=" ++ nonce ++ more
bare_grouped name nonce more =
    sym (append_assoc (codes "n=" ++ name ++ codes ",r=") nonce more ∙ append_assoc (codes "n=" ++ name) (codes ",r=") (nonce ++ more))

-- the pieces of a first message, joined, are its header and the rest
first_text : (flag : ℕ) (authzid name nonce : Bytes) (extensions : List Bytes)
    → join_with_byte 44 ((flag ∷ []) ∷ authzid ∷ (codes "n=" ++ name) ∷ (codes "r=" ++ nonce) ∷ extensions)
    ≡ (flag ∷ (codes "," ++ authzid ++ codes ",")) ++ (codes "n=" ++ name ++ codes ",r=" ++ nonce ++ listed extensions)
first_text flag authzid name nonce extensions =
    ap (λ text. flag ∷ 44 ∷ (authzid ++ 44 ∷ ((codes "n=" ++ name) ++ 44 ∷ text))) (joined-listed (codes "r=" ++ nonce) extensions)
    ∙ ap (λ text. flag ∷ 44 ∷ (authzid ++ 44 ∷ text)) (bare_grouped name nonce (listed extensions))
    ∙ ap (λ text. flag ∷ 44 ∷ text) (sym (append_assoc authzid (44 ∷ []) (codes "n=" ++ name ++ codes ",r=" ++ nonce ++ listed extensions)))

-- ---- the parts of what was read

cond_option : {A : Type 0} (b : Bool) (o : Option A) (x : A) → cond b o None ≡ Some x → (b ≡ true) × (o ≡ Some x)
cond_option true o x h = (refl, h)
cond_option false o x h = cc

flag_some : (text : Bytes) (flag : ℕ) → flag_read text ≡ Some flag → (text ≡ flag ∷ []) × (((eqb flag 110) || (eqb flag 121)) ≡ true)
flag_some [] flag h = cc
flag_some (c ∷ []) flag h =
    let parts = cond_some ((eqb c 110) || (eqb c 121)) c flag h in
    (ap (λ x. x ∷ []) parts.1, ap (λ x. (eqb x 110) || (eqb x 121)) (sym parts.1) ∙ parts.0)
flag_some (c ∷ d ∷ cs) flag h = cc

nonce_some : (text nonce : Bytes) → nonce_read text ≡ Some nonce → (is_nonce nonce ≡ true) × (text ≡ codes "r=" ++ nonce)
nonce_some text nonce h =
    option_and_then_some right_nonce (after_front (codes "r=") text) nonce h
    (λ read read_is more.
    let parts = cond_some (is_nonce read) read nonce more in
    (ap is_nonce (sym parts.1) ∙ parts.0, after_front_some (codes "r=") text read read_is ∙ ap (λ l. codes "r=" ++ l) parts.1))

-- what a first message is read from
record FirstRead (flag : Option ℕ) (authzid : Bytes) (name nonce : Option Bytes) (extensions : List Bytes) (m : FirstMessage) : Type 0 where
  written_name : Bytes
  flag_is : flag ≡ Some m.flag
  name_is : name ≡ Some written_name
  nonce_is : nonce ≡ Some m.nonce
  extensions_are : extensions ≡ m.extensions
  are_right : list_all is_extension m.extensions ≡ true
  authzid_is : authzid_read authzid ≡ Some m.authzid
  user_is : name_read written_name ≡ Some m.name

record NamesRead (flag : ℕ) (authzid name : Option Bytes) (nonce : Bytes) (extensions : List Bytes) (m : FirstMessage) : Type 0 where
  flag_is : flag ≡ m.flag
  authzid_is : authzid ≡ Some m.authzid
  name_is : name ≡ Some m.name
  nonce_is : nonce ≡ m.nonce
  extensions_are : extensions ≡ m.extensions

names_read : (flag : ℕ) (authzid name : Option Bytes) (nonce : Bytes) (extensions : List Bytes) (m : FirstMessage) → first_named flag authzid name nonce extensions ≡ Some m
    → NamesRead flag authzid name nonce extensions m
names_read flag (Some authzid) (Some name) nonce extensions m h =
    let same = same_Some (record { flag = flag; authzid = authzid; name = name; nonce = nonce; extensions = extensions }) m h in
    record {
      flag_is = ap (λ (x : FirstMessage). x.flag) same;
      authzid_is = ap (λ (x : FirstMessage). Some x.authzid) same;
      name_is = ap (λ (x : FirstMessage). Some x.name) same;
      nonce_is = ap (λ (x : FirstMessage). x.nonce) same;
      extensions_are = ap (λ (x : FirstMessage). x.extensions) same;
    }
names_read flag (Some authzid) None nonce extensions m h = cc
names_read flag None name nonce extensions m h = cc

first_read : (flag : Option ℕ) (authzid : Bytes) (name nonce : Option Bytes) (extensions : List Bytes) (m : FirstMessage) → first_with flag authzid name nonce extensions ≡ Some m
    → FirstRead flag authzid name nonce extensions m
first_read (Some flag) authzid (Some name) (Some nonce) extensions m h =
    let parts = cond_option (list_all is_extension extensions) (first_named flag (authzid_read authzid) (name_read name) nonce extensions) m h in
    let names = names_read flag (authzid_read authzid) (name_read name) nonce extensions m parts.1 in
    record {
      written_name = name;
      flag_is = ap (λ x. Some x) names.flag_is;
      name_is = refl;
      nonce_is = ap (λ x. Some x) names.nonce_is;
      extensions_are = names.extensions_are;
      are_right = ap (list_all is_extension) (sym names.extensions_are) ∙ parts.0;
      authzid_is = names.authzid_is;
      user_is = names.name_is;
    }
first_read (Some flag) authzid (Some name) None extensions m h = cc
first_read (Some flag) authzid None _ extensions m h = cc
first_read None authzid name _ extensions m h = cc

-- ---- read, so spelled

first_of_pieces : (text : Bytes) (ps : List Bytes) (m : FirstMessage) → pieces 44 text ≡ ps → first_in_pieces ps ≡ Some m → IsFirst text m
first_of_pieces text [] m e h = cc
first_of_pieces text (flag ∷ []) m e h = cc
first_of_pieces text (flag ∷ authzid ∷ []) m e h = cc
first_of_pieces text (flag ∷ authzid ∷ name ∷ []) m e h = cc
first_of_pieces text (flag ∷ authzid ∷ name ∷ nonce ∷ extensions) m e h =
    let read = first_read (flag_read flag) authzid (after_front (codes "n=") name) (nonce_read nonce) extensions m h in
    let flag_is = flag_some flag m.flag read.flag_is in
    let authzid_is = authzid_some authzid m.authzid read.authzid_is in
    let user_is = name_read-some read.written_name m.name read.user_is in
    let name_is : name ≡ codes "n=" ++ written m.name = after_front_some (codes "n=") name read.written_name read.name_is ∙ ap (λ l. codes "n=" ++ l) user_is.1 in
    let nonce_is = nonce_some nonce m.nonce read.nonce_is in
    let same : flag ∷ authzid ∷ name ∷ nonce ∷ extensions
    ≡ (m.flag ∷ []) ∷ written_authzid m.authzid ∷ (codes "n=" ++ written m.name) ∷ (codes "r=" ++ m.nonce) ∷ m.extensions =
    ap (λ x. x ∷ authzid ∷ name ∷ nonce ∷ extensions) flag_is.0
    ∙ ap (λ x. (m.flag ∷ []) ∷ x ∷ name ∷ nonce ∷ extensions) authzid_is.1
    ∙ ap (λ x. (m.flag ∷ []) ∷ written_authzid m.authzid ∷ x ∷ nonce ∷ extensions) name_is
    ∙ ap (λ x. (m.flag ∷ []) ∷ written_authzid m.authzid ∷ (codes "n=" ++ written m.name) ∷ x ∷ extensions) nonce_is.1
    ∙ ap (λ x. (m.flag ∷ []) ∷ written_authzid m.authzid ∷ (codes "n=" ++ written m.name) ∷ (codes "r=" ++ m.nonce) ∷ x) read.extensions_are in
    record {
      spelled = joined-pieces text _ (e ∙ same) ∙ first_text m.flag (written_authzid m.authzid) (written m.name) m.nonce m.extensions;
      is_right = and_from _ _ (and_from _ _ (and_from _ _ (and_from _ _ flag_is.1 authzid_is.0) user_is.0) nonce_is.0) read.are_right;
    }

pub first_message-is : (text : Bytes) (m : FirstMessage) → first_message text ≡ Some m → IsFirst text m
unfolding first_message
first_message-is text m h = first_of_pieces text (pieces 44 text) m refl h

-- ---- spelled, so read

record IsRight (m : FirstMessage) : Type 0 where
  flag : ((eqb m.flag 110) || (eqb m.flag 121)) ≡ true
  authzid : is_authzid m.authzid ≡ true
  name : is_name m.name ≡ true
  nonce : is_nonce m.nonce ≡ true
  extensions : list_all is_extension m.extensions ≡ true

right_parts : (m : FirstMessage) → is_first_message m ≡ true → IsRight m
right_parts m h =
    let last = and_parts _ (list_all is_extension m.extensions) h in
    let before = and_parts _ (is_nonce m.nonce) last.0 in
    let names = and_parts _ (is_name m.name) before.0 in
    let front = and_parts ((eqb m.flag 110) || (eqb m.flag 121)) (is_authzid m.authzid) names.0 in
    record { flag = front.0; authzid = front.1; name = names.1; nonce = before.1; extensions = last.1 }

no_comma_flag : (flag : ℕ) → ((eqb flag 110) || (eqb flag 121)) ≡ true → eqb flag 44 ≡ false
no_comma_flag flag h =
    elim (cases_Bool (eqb flag 44)) [
      | inl e ↦ let same : ((eqb flag 110) || (eqb flag 121)) ≡ false = ap (λ x. (eqb x 110) || (eqb x 121)) (eqb-true flag 44 e) in cc
      | inr e ↦ e
    ]

pieces-first : (m : FirstMessage) → IsRight m
    → pieces 44 (header m ++ first_bare m) ≡ (m.flag ∷ []) ∷ written_authzid m.authzid ∷ (codes "n=" ++ written m.name) ∷ (codes "r=" ++ m.nonce) ∷ m.extensions
pieces-first m right =
    let flag = Lacks-cons m.flag [] (no_comma_flag m.flag right.flag) Lacks-nil in
    let name = Lacks-cons 110 (61 ∷ written m.name) refl (Lacks-cons 61 (written m.name) refl (Lacks-written m.name)) in
    let nonce = Lacks-cons 114 (61 ∷ m.nonce) refl (Lacks-cons 61 m.nonce refl (Lacks-nonce m.nonce right.nonce)) in
    let more = written_authzid m.authzid ∷ (codes "n=" ++ written m.name) ∷ (codes "r=" ++ m.nonce) ∷ m.extensions in
    ap (pieces 44) (sym (first_text m.flag (written_authzid m.authzid) (written m.name) m.nonce m.extensions) ∙ joined-listed (m.flag ∷ []) more)
    ∙ pieces-listed (m.flag ∷ []) more flag (Lacks-written_authzid m.authzid, (name, (nonce, EachLacks-extensions m.extensions right.extensions)))

first_with_from : (m : FirstMessage) → IsRight m
    → first_with (flag_read (m.flag ∷ [])) (written_authzid m.authzid) (Some (written m.name)) (nonce_read (codes "r=" ++ m.nonce)) m.extensions ≡ Some m
first_with_from m right =
    let flag : flag_read (m.flag ∷ []) ≡ Some m.flag = rw right.flag in
    let nonce : nonce_read (codes "r=" ++ m.nonce) ≡ Some m.nonce = rw right.nonce in
    ap (λ o. first_with o (written_authzid m.authzid) (Some (written m.name)) (nonce_read (codes "r=" ++ m.nonce)) m.extensions) flag
    ∙ ap (λ o. first_with (Some m.flag) (written_authzid m.authzid) (Some (written m.name)) o m.extensions) nonce
    ∙ ap (λ b. cond b (first_named m.flag (authzid_read (written_authzid m.authzid)) (name_read (written m.name)) m.nonce m.extensions) None) right.extensions
    ∙ ap (λ o. first_named m.flag o (name_read (written m.name)) m.nonce m.extensions) (authzid_from m.authzid right.authzid)
    ∙ ap (λ o. first_named m.flag (Some m.authzid) o m.nonce m.extensions) (name_read_written m.name right.name)

pub first_message_from : (text : Bytes) (m : FirstMessage) → IsFirst text m → first_message text ≡ Some m
unfolding first_message
first_message_from text m is =
    let right = right_parts m is.is_right in
    ap (λ t. first_in_pieces (pieces 44 t)) is.spelled ∙ ap first_in_pieces (pieces-first m right) ∙ first_with_from m right

-- ---- the cuts of the code

pub none_of_is_some : {A : Type 0} (o : Option A) → is_some o ≡ false → o ≡ None
none_of_is_some None h = refl
none_of_is_some (Some x) h = cc

pub some_of_is_some : {A : Type 0} (o : Option A) → is_some o ≡ true → (x : A) × (o ≡ Some x)
some_of_is_some None h = cc
some_of_is_some (Some x) h = (x, refl)

-- fewer than four pieces are no first message
first_in_pieces-few : (texts : List Bytes) → length texts < 4 → first_in_pieces texts ≡ None
first_in_pieces-few [] few = refl
first_in_pieces-few (flag ∷ []) few = refl
first_in_pieces-few (flag ∷ authzid ∷ []) few = refl
first_in_pieces-few (flag ∷ authzid ∷ name ∷ []) few = refl
first_in_pieces-few (flag ∷ authzid ∷ name ∷ nonce ∷ extensions) few = absurd (omega arith)

pub too_few : (text : Bytes) → length (pieces 44 text) < 4 → first_message text ≡ None
unfolding first_message
too_few text few = first_in_pieces-few (pieces 44 text) few

module _ (text flag authzid bare name nonce : Bytes) (extensions : Option Bytes) (cut : IsCutInFour 44 text flag authzid bare name nonce extensions) where
  cut_read : first_message text ≡ first_with (flag_read flag) authzid (after_front (codes "n=") name) (nonce_read nonce) (more_pieces 44 extensions)
  unfolding first_message
  cut_read = ap first_in_pieces cut.cut

  pub no_flag : flag_read flag ≡ None → first_message text ≡ None
  no_flag e = cut_read ∙ ap (λ o. first_with o authzid (after_front (codes "n=") name) (nonce_read nonce) (more_pieces 44 extensions)) e

first_with-no_name : (flag : Option ℕ) (authzid : Bytes) (nonce : Option Bytes) (extensions : List Bytes) → first_with flag authzid None nonce extensions ≡ None
first_with-no_name None authzid _ extensions = refl
first_with-no_name (Some flag) authzid _ extensions = refl

first_with-no_nonce : (flag : Option ℕ) (authzid : Bytes) (name : Option Bytes) (extensions : List Bytes) → first_with flag authzid name None extensions ≡ None
first_with-no_nonce None authzid name extensions = refl
first_with-no_nonce (Some flag) authzid None extensions = refl
first_with-no_nonce (Some flag) authzid (Some name) extensions = refl

first_with-wrong : (flag : Option ℕ) (authzid : Bytes) (name nonce : Option Bytes) (extensions : List Bytes) → list_all is_extension extensions ≡ false
    → first_with flag authzid name nonce extensions ≡ None
first_with-wrong None authzid name _ extensions e = refl
first_with-wrong (Some flag) authzid None _ extensions e = refl
first_with-wrong (Some flag) authzid (Some name) None extensions e = refl
first_with-wrong (Some flag) authzid (Some name) (Some nonce) extensions e = rw e

pub taken_front : (text front back : Bytes) → text ≡ front ++ back → take (length text - length back) text ≡ front
taken_front text front back e =
    let size : length text - length back ≡ length front = omega (arith, ap length e, length-append front back) in
    ap (λ n. take n text) size ∙ ap (take (length front)) e ∙ take-append_seam front back

module _ (text flag authzid bare name nonce : Bytes) (extensions : Option Bytes) (cut : IsCutInFour 44 text flag authzid bare name nonce extensions) where
  pub no_name : after_front (codes "n=") name ≡ None → first_message text ≡ None
  no_name e =
      cut_read text flag authzid bare name nonce extensions cut ∙ ap (λ o. first_with (flag_read flag) authzid o (nonce_read nonce) (more_pieces 44 extensions)) e
      ∙ first_with-no_name (flag_read flag) authzid (nonce_read nonce) (more_pieces 44 extensions)

  pub no_nonce : nonce_read nonce ≡ None → first_message text ≡ None
  no_nonce e =
      cut_read text flag authzid bare name nonce extensions cut
      ∙ ap (λ o. first_with (flag_read flag) authzid (after_front (codes "n=") name) o (more_pieces 44 extensions)) e
      ∙ first_with-no_nonce (flag_read flag) authzid (after_front (codes "n=") name) (more_pieces 44 extensions)

  pub wrong_extensions : list_all is_extension (more_pieces 44 extensions) ≡ false → first_message text ≡ None
  wrong_extensions e =
      cut_read text flag authzid bare name nonce extensions cut
      ∙ first_with-wrong (flag_read flag) authzid (after_front (codes "n=") name) (nonce_read nonce) (more_pieces 44 extensions) e

  bare_text : bare ≡ name ++ 44 ∷ (nonce ++ listed (more_pieces 44 extensions))
  bare_text =
      let whole : flag ++ 44 ∷ (authzid ++ 44 ∷ bare) ≡ flag ++ 44 ∷ (authzid ++ 44 ∷ (name ++ 44 ∷ join_with_byte 44 (nonce ∷ more_pieces 44 extensions))) =
      sym cut.whole ∙ joined-pieces text _ cut.cut in
      let after_flag = append_cancel_left flag _ _ whole in
      let after_comma : authzid ++ 44 ∷ bare ≡ authzid ++ 44 ∷ (name ++ 44 ∷ join_with_byte 44 (nonce ∷ more_pieces 44 extensions)) = cc in
      let after_authzid = append_cancel_left authzid _ _ after_comma in
      let rest : bare ≡ name ++ 44 ∷ join_with_byte 44 (nonce ∷ more_pieces 44 extensions) = cc in
      rest ∙ ap (λ l. name ++ 44 ∷ l) (joined-listed nonce (more_pieces 44 extensions))

  pub first_cut : (f : ℕ) (user_text nonce_text : Bytes) → flag_read flag ≡ Some f → after_front (codes "n=") name ≡ Some user_text → nonce_read nonce ≡ Some nonce_text
      → list_all is_extension (more_pieces 44 extensions) ≡ true → IsFirstCut text (take (length text - length bare) text) bare authzid user_text nonce_text
  first_cut f user_text nonce_text flag_is name_is nonce_is right =
      let flag_text = (flag_some flag f flag_is).0 in
      let name_text = after_front_some (codes "n=") name user_text name_is in
      let nonce_whole = (nonce_some nonce nonce_text nonce_is).1 in
      record {
        flag = f;
        extensions = more_pieces 44 extensions;
        read =
            cut_read text flag authzid bare name nonce extensions cut
            ∙ ap (λ o. first_with o authzid (after_front (codes "n=") name) (nonce_read nonce) (more_pieces 44 extensions)) flag_is
            ∙ ap (λ o. first_with (Some f) authzid o (nonce_read nonce) (more_pieces 44 extensions)) name_is
            ∙ ap (λ o. first_with (Some f) authzid (Some user_text) o (more_pieces 44 extensions)) nonce_is
            ∙ ap (λ b. cond b (first_named f (authzid_read authzid) (name_read user_text) nonce_text (more_pieces 44 extensions)) None) right;
        header_is =
            taken_front text (f ∷ 44 ∷ (authzid ++ 44 ∷ [])) bare
            (cut.whole ∙ ap (λ l. l ++ 44 ∷ (authzid ++ 44 ∷ bare)) flag_text ∙ ap (λ l. f ∷ 44 ∷ l) (sym (append_assoc authzid (44 ∷ []) bare)));
        bare_is =
            bare_text ∙ ap (λ l. l ++ 44 ∷ (nonce ++ listed (more_pieces 44 extensions))) name_text
            ∙ ap (λ l. (codes "n=" ++ user_text) ++ 44 ∷ (l ++ listed (more_pieces 44 extensions))) nonce_whole
            ∙ bare_grouped user_text nonce_text (listed (more_pieces 44 extensions));
      }

-- ---- with its names

pub names_missing : (text gs2_header bare authzid name nonce : Bytes) → IsFirstCut text gs2_header bare authzid name nonce → AreNames authzid name None → first_message text ≡ None
names_missing text gs2_header bare authzid name nonce cut none = cut.read ∙ none cut.flag nonce cut.extensions

pub named : (text gs2_header bare authzid name nonce user_authzid user : Bytes) (cut : IsFirstCut text gs2_header bare authzid name nonce) → authzid_read authzid ≡ Some user_authzid
    → name_read name ≡ Some user → first_message text ≡ Some (record { flag = cut.flag; authzid = user_authzid; name = user; nonce = nonce; extensions = cut.extensions })
named text gs2_header bare authzid name nonce user_authzid user cut a n =
    cut.read ∙ ap (λ o. first_named cut.flag o (name_read name) nonce cut.extensions) a ∙ ap (λ o. first_named cut.flag (Some user_authzid) o nonce cut.extensions) n

pub reads_first : (text gs2_header bare authzid name nonce user_authzid user : Bytes) → IsFirstCut text gs2_header bare authzid name nonce → authzid_read authzid ≡ Some user_authzid
    → name_read name ≡ Some user → ReadsFirst text gs2_header bare nonce
reads_first text gs2_header bare authzid name nonce user_authzid user cut a n =
    let authzid_is = (authzid_some authzid user_authzid a).1 in
    let name_is = (name_read-some name user n).1 in
    record {
      message = record { flag = cut.flag; authzid = user_authzid; name = user; nonce = nonce; extensions = cut.extensions };
      read = named text gs2_header bare authzid name nonce user_authzid user cut a n;
      same_header = ap (λ l. cut.flag ∷ 44 ∷ (l ++ 44 ∷ [])) (sym authzid_is) ∙ sym cut.header_is;
      same_bare = ap (λ l. codes "n=" ++ l ++ codes ",r=" ++ nonce ++ listed cut.extensions) (sym name_is) ∙ sym cut.bare_is;
      same_nonce = refl;
    }
