-- A message of PLAIN is read as it is spelled, and one thing comes of it.
use Rattle.std.proofs.Common.{◌≡◌, ℕ, ◌<◌, Bool, true, false, cond, ◌||◌, List, [], ◌∷◌, ◌++◌, length, Some, None, Result, Ok, Err, eqb, refl, sym, ap, ◌∙◌, subst, inl, inr, arith}
use Rattle.std.specs.Prelude.{IfOk}
use Rattle.std.specs.declared.alloc.AllocError.{AllocError}
use Rattle.std.specs.List.{onto_first, join_with_byte}
use Rattle.std.proofs.lemmas.Bool.{cases_Bool, or_parts, or_from}
use Rattle.std.proofs.lemmas.List.Elements.{All-nil, All-cons}
use Rattle.std.proofs.lemmas.List.Splits.{slice_split_none, slice_split_at, length-slice_split, join_with_byte-slice_split}
use Rattle.da_base.specs.Words.{Bytes, pieces, is_empty}
use Rattle.da_tabline.specs.Parts.{Lacks, SplitsAt}
use Rattle.da_fields.specs.declared.said.Said.{Said}
use Rattle.da_fields.specs.declared.said.Said.TheVariants.{Challenge, Need, Proof, Bad}
use Rattle.da_plain.specs.Plain.{IsPlainMessage, PlainMessageSays, PlainSays, plain_parts, plain_says}

-- ---- pieces

pub pieces-Lacks : (separator : ℕ) (text : Bytes) → Lacks separator text → pieces separator text ≡ text ∷ []
pieces-Lacks separator text lacks = slice_split_none (λ c. eqb c separator) text lacks

pub pieces-SplitsAt : (text front back : Bytes) → SplitsAt 0 text front back → pieces 0 text ≡ front ∷ pieces 0 back
pieces-SplitsAt text front back cut = ap (pieces 0) cut.whole ∙ slice_split_at (λ c. eqb c 0) front 0 back cut.first refl

abbrev EachLacks : ℕ → List Bytes → Type 0
EachLacks byte [] = Unit {0}
EachLacks byte (p ∷ ps) = Lacks byte p × EachLacks byte ps

EachLacks-step : (byte c : ℕ) (is : Bool) (ps : List Bytes) → eqb c byte ≡ is → EachLacks byte ps → EachLacks byte (cond is ([] ∷ ps) (onto_first c ps))
EachLacks-step byte c true ps e each = (All-nil (λ x. eqb x byte ≡ false), each)
EachLacks-step byte c false [] e each = (All-cons (λ x. eqb x byte ≡ false) c [] e (All-nil (λ x. eqb x byte ≡ false)), tt)
EachLacks-step byte c false (p ∷ ps) e each = (All-cons (λ x. eqb x byte ≡ false) c p e each.0, each.1)

-- no piece has the byte at which a text was cut
EachLacks-pieces : (byte : ℕ) (text : Bytes) → EachLacks byte (pieces byte text)
EachLacks-pieces byte [] = (All-nil (λ x. eqb x byte ≡ false), tt)
EachLacks-pieces byte (c ∷ cs) = EachLacks-step byte c (eqb c byte) (pieces byte cs) refl (EachLacks-pieces byte cs)

more_than_three : (authzid name password : Bytes) (more : List Bytes) → 0 < length more → plain_parts (authzid ∷ name ∷ password ∷ more) ≡ Bad
more_than_three authzid name password [] some = absurd (omega arith)
more_than_three authzid name password (piece ∷ more) some = refl

-- four pieces or more are no message
pub plain_parts-more : (authzid name password rest : Bytes) → plain_parts (authzid ∷ name ∷ password ∷ pieces 0 rest) ≡ Bad
plain_parts-more authzid name password rest =
    let many = length-slice_split (λ c. eqb c 0) rest in
    more_than_three authzid name password (pieces 0 rest) (omega (arith, many))

-- ---- messages

pub pieces-message : (message authzid name password : Bytes) → IsPlainMessage message authzid name password → pieces 0 message ≡ authzid ∷ name ∷ password ∷ []
pieces-message message authzid name password m =
    ap (pieces 0) m.spelled
    ∙ slice_split_at (λ c. eqb c 0) authzid 0 (name ++ 0 ∷ password) m.authzid_lacks_nul refl
    ∙ ap (λ ps. authzid ∷ ps) (slice_split_at (λ c. eqb c 0) name 0 password m.name_lacks_nul refl ∙ ap (λ ps. name ∷ ps) (pieces-Lacks 0 password m.password_lacks_nul))

message_of_pieces : (message authzid name password : Bytes) → pieces 0 message ≡ authzid ∷ name ∷ password ∷ [] → (is_empty name || is_empty password) ≡ false
    → IsPlainMessage message authzid name password
message_of_pieces message authzid name password e full =
    let lacks = subst (EachLacks 0) e (EachLacks-pieces 0 message) in
    let parts = or_parts (is_empty name) (is_empty password) full in
    record {
      spelled = sym (join_with_byte-slice_split 0 message) ∙ ap (join_with_byte 0) e;
      authzid_lacks_nul = lacks.0;
      name_lacks_nul = lacks.1.0;
      password_lacks_nul = lacks.1.1.0;
      has_name = parts.0;
      has_password = parts.1;
    }

none_in : (message : Bytes) (ps : List Bytes) → pieces 0 message ≡ ps → ((authzid name password : Bytes) → ps ≡ authzid ∷ name ∷ password ∷ [] → ⊥) → PlainMessageSays message Bad
none_in message ps e none authzid name password m = none authzid name password (sym e ∙ pieces-message message authzid name password m)

-- ---- what comes of a message

empty_in : (message authzid name password : Bytes) → pieces 0 message ≡ authzid ∷ name ∷ password ∷ [] → (is_empty name || is_empty password) ≡ true → PlainMessageSays message Bad
empty_in message authzid name password e empty other_authzid other_name other_password m =
    let same : authzid ∷ name ∷ password ∷ [] ≡ other_authzid ∷ other_name ∷ other_password ∷ [] = sym e ∙ pieces-message message _ _ _ m in
    let same_name : name ≡ other_name = cc in
    let same_password : password ≡ other_password = cc in
    let full : (is_empty name || is_empty password) ≡ false = or_from _ _ (ap is_empty same_name ∙ m.has_name) (ap is_empty same_password ∙ m.has_password) in
    cc

says_pieces : (message : Bytes) (ps : List Bytes) → pieces 0 message ≡ ps → PlainMessageSays message (plain_parts ps)
says_pieces message [] e = none_in message [] e (λ a n p h. cc)
says_pieces message (authzid ∷ []) e = none_in message _ e (λ a n p h. cc)
says_pieces message (authzid ∷ name ∷ []) e = none_in message _ e (λ a n p h. cc)
says_pieces message (authzid ∷ name ∷ password ∷ []) e =
    elim (cases_Bool (is_empty name || is_empty password)) [
      | inl empty ↦ rw empty (empty_in message authzid name password e empty)
      | inr full ↦ rw full (message_of_pieces message authzid name password e full)
    ]
says_pieces message (authzid ∷ name ∷ password ∷ more ∷ rest) e = none_in message _ e (λ a n p h. cc)

pub says-plain_says : (messages : List Bytes) → PlainSays messages (plain_says messages)
unfolding plain_says
says-plain_says [] = refl
says-plain_says (message ∷ []) = says_pieces message (pieces 0 message) refl
says-plain_says (message ∷ more ∷ rest) = refl

-- two things that come of one message are equal
one_of_message : (message : Bytes) (what other : Said) → PlainMessageSays message what → PlainMessageSays message other → what ≡ other
one_of_message message (Need name authzid (Some password)) (Need other_name other_authzid (Some other_password)) s t =
    let same : authzid ∷ name ∷ password ∷ [] ≡ other_authzid ∷ other_name ∷ other_password ∷ [] = sym (pieces-message message _ _ _ s) ∙ pieces-message message _ _ _ t in
    cc
one_of_message message (Need name authzid (Some password)) Bad s t = absurd (t authzid name password s)
one_of_message message Bad (Need name authzid (Some password)) s t = absurd (s authzid name password t)
one_of_message message Bad Bad s t = refl
one_of_message message (Need name authzid None) other s t = absurd s
one_of_message message (Challenge text) other s t = absurd s
one_of_message message (Proof right last) other s t = absurd s
one_of_message message what (Need name authzid None) s t = absurd t
one_of_message message what (Challenge text) s t = absurd t
one_of_message message what (Proof right last) s t = absurd t

pub one_of_plain : (messages : List Bytes) (what : Said) → PlainSays messages what → what ≡ plain_says messages
unfolding plain_says
one_of_plain [] what s = s
one_of_plain (message ∷ []) what s = one_of_message message what _ s (says-plain_says (message ∷ []))
one_of_plain (message ∷ more ∷ rest) what s = s

pub says_from : (messages : List Bytes) (r : Result Said AllocError) → IfOk r (λ said. said ≡ plain_says messages) → IfOk r (λ said. PlainSays messages said)
says_from messages (Ok said) e = subst (PlainSays messages) (sym e) (says-plain_says messages)
says_from messages (Err fault) e = tt
