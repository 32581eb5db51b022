-- A response is read as it is spelled, and one thing comes of the messages.
use Rattle.std.proofs.Common.{◌≡◌, ℕ, ◌+◌, ◌-◌, ◌<◌, true, false, List, [], ◌∷◌, ◌++◌, length, take, drop, Option, Some, None, Result, Ok, Err, refl, sym, ap, ◌∙◌, subst, inl, inr, arith}
use Rattle.std.specs.Prelude.{IfOk, nat_lt, ◌==◌, slice_index}
use Rattle.std.specs.List.{list_all}
use Rattle.std.specs.declared.alloc.AllocError.{AllocError}
use Rattle.std.proofs.lemmas.Bool.{cases_Bool, and_parts, and_from, eqb-true, ltb-true, lt-ltb}
use Rattle.std.proofs.lemmas.List.{length-append, length-drop, length-take-le, take-append-drop, drop_more}
use Rattle.std.proofs.Math.Seq.{take-append_seam, drop-append-add, get_or-append_seam}
use Rattle.da_base.specs.Words.{Bytes, is_empty}
use Rattle.da_schemes.specs.Stored.{StoredPassword, plaintext_of}
use Rattle.da_fields.specs.declared.said.Said.{Said}
use Rattle.da_fields.specs.declared.said.Said.TheVariants.{Challenge, Need, Proof, Bad}
use Rattle.da_cram.specs.Cram.{IsResponse, ResponseSays, MessagesSay, CredentialsSay, CramSays, is_lower_hex, is_response, response_name, response_digits, response_says, message_says, messages_say, credentials_say, cram_says}

-- ---- the form of a response

has_items : (xs : Bytes) → 0 < length xs → is_empty xs ≡ false
has_items [] some = absurd (omega arith)
has_items (x ∷ xs) some = refl

items_in : (xs : Bytes) → is_empty xs ≡ false → 0 < length xs
items_in [] some = cc
items_in (x ∷ xs) some = omega arith

-- what a text is, where this byte stands in it
at_byte : (byte : ℕ) (text : Bytes) (at : ℕ) → at < length text → slice_index text at ≡ byte → text ≡ take at text ++ byte ∷ drop (at + 1) text
at_byte byte text at within here =
    sym (take-append-drop at text) ∙ ap (λ l. take at text ++ l) (drop_more text at 0 within ∙ ap (λ x. x ∷ drop (at + 1) text) here)

response_parts : (message : Bytes) → is_response message ≡ true → IsResponse message (response_name message) (response_digits message)
response_parts message h =
    let tests = and_parts _ _ h in
    let front = and_parts (nat_lt 33 (length message)) (slice_index message (length message - 33) == 32) tests.0 in
    let long : 33 < length message = ltb-true _ _ front.0 in
    let next : length message - 33 + 1 ≡ length message - 32 = omega arith in
    record {
      spelled =
          at_byte 32 message (length message - 33) (omega arith) (eqb-true _ _ front.1)
          ∙ ap (λ n. take (length message - 33) message ++ 32 ∷ drop n message) next;
      has_name = has_items _ (omega (arith, length-take-le (length message - 33) message (omega arith)));
      size = length-drop (length message - 32) message ∙ omega arith;
      are_digits = tests.1;
    }

record IsRead (message name digits : Bytes) : Type 0 where
  read : is_response message ≡ true
  same_name : response_name message ≡ name
  same_digits : response_digits message ≡ digits

read_spelled : (name digits : Bytes) → is_empty name ≡ false → length digits ≡ 32 → list_all is_lower_hex digits ≡ true → IsRead (name ++ 32 ∷ digits) name digits
read_spelled name digits full size are_digits =
    let whole = length-append name (32 ∷ digits) in
    let some = items_in name full in
    let at : length (name ++ 32 ∷ digits) - 33 ≡ length name = omega arith in
    let after : length (name ++ 32 ∷ digits) - 32 ≡ length name + 1 = omega arith in
    let same_digits : response_digits (name ++ 32 ∷ digits) ≡ digits = ap (λ n. drop n (name ++ 32 ∷ digits)) after ∙ drop-append-add name (32 ∷ digits) 1 in
    record {
      read =
          and_from _ _
          (and_from _ _ (lt-ltb _ _ (omega arith)) (ap (λ n. slice_index (name ++ 32 ∷ digits) n == 32) at ∙ ap (λ c. c == 32) (get_or-append_seam name 32 digits 0)))
          (ap (list_all is_lower_hex) same_digits ∙ are_digits);
      same_name = ap (λ n. take n (name ++ 32 ∷ digits)) at ∙ take-append_seam name (32 ∷ digits);
      same_digits = same_digits;
    }

is_read : (message name digits : Bytes) → IsResponse message name digits → IsRead message name digits
is_read message name digits r = subst (λ m. IsRead m name digits) (sym r.spelled) (read_spelled name digits r.has_name r.size r.are_digits)

no_response : (message : Bytes) → is_response message ≡ false → (name digits : Bytes) → IsResponse message name digits → ⊥
no_response message h name digits r = let read = (is_read message name digits r).read in cc

-- ---- what comes of one message

says_of_response : (challenge message : Bytes) (plain : Option Bytes) → is_response message ≡ true → ResponseSays challenge message plain (response_says challenge message plain)
says_of_response challenge message None h = (response_digits message, response_parts message h, refl, refl)
says_of_response challenge message (Some plain) h = (response_name message, response_digits message, response_parts message h, refl, refl)

bad_message : (challenge message : Bytes) (plain : Option Bytes) → is_response message ≡ false → ResponseSays challenge message plain Bad
bad_message challenge message None h = no_response message h
bad_message challenge message (Some plain) h = no_response message h

says_of_message : (challenge message : Bytes) (plain : Option Bytes) → ResponseSays challenge message plain (message_says challenge message plain)
says_of_message challenge message plain =
    elim (cases_Bool (is_response message)) [
      | inl e ↦ rw e (says_of_response challenge message plain e)
      | inr e ↦ rw e (bad_message challenge message plain e)
    ]

not_bad : (message : Bytes) → ((name digits : Bytes) → IsResponse message name digits → ⊥) → is_response message ≡ false
not_bad message none =
    elim (cases_Bool (is_response message)) [
      | inl e ↦ absurd (none _ _ (response_parts message e))
      | inr e ↦ e
    ]

one_of_message : (challenge message : Bytes) (plain : Option Bytes) (what : Said) → ResponseSays challenge message plain what → what ≡ message_says challenge message plain
one_of_message challenge message None (Need name authzid password) s =
    let read = is_read message name s.0 s.1 in
    rw (read.read, read.same_name, s.2, s.3)
one_of_message challenge message (Some plain) (Proof right last) s =
    let read = is_read message s.0 s.1 s.2 in
    rw (read.read, read.same_digits, s.3, s.4)
one_of_message challenge message None Bad s = rw (not_bad message s)
one_of_message challenge message (Some plain) Bad s = rw (not_bad message s)
one_of_message challenge message None (Challenge text) s = absurd s
one_of_message challenge message None (Proof right last) s = absurd s
one_of_message challenge message (Some plain) (Challenge text) s = absurd s
one_of_message challenge message (Some plain) (Need name authzid password) s = absurd s

-- ---- what comes of all

says_of_messages : (challenge : Bytes) (messages : List Bytes) (plain : Option Bytes) → MessagesSay challenge messages plain (messages_say challenge messages plain)
says_of_messages challenge [] plain = refl
says_of_messages challenge (message ∷ []) plain = says_of_message challenge message plain
says_of_messages challenge (message ∷ more ∷ rest) plain = refl

one_of_messages : (challenge : Bytes) (messages : List Bytes) (plain : Option Bytes) (what : Said) → MessagesSay challenge messages plain what → what ≡ messages_say challenge messages plain
one_of_messages challenge [] plain what s = s
one_of_messages challenge (message ∷ []) plain what s = one_of_message challenge message plain what s
one_of_messages challenge (message ∷ more ∷ rest) plain what s = s

says_of_credentials : (challenge : Bytes) (messages : List Bytes) (plain : Option Bytes) → CredentialsSay challenge messages plain (credentials_say challenge messages plain)
says_of_credentials challenge messages None = refl
says_of_credentials challenge messages (Some plain) = says_of_messages challenge messages (Some plain)

one_of_credentials : (challenge : Bytes) (messages : List Bytes) (plain : Option Bytes) (what : Said) → CredentialsSay challenge messages plain what → what ≡ credentials_say challenge messages plain
one_of_credentials challenge messages None what s = s
one_of_credentials challenge messages (Some plain) what s = one_of_messages challenge messages (Some plain) what s

pub says-cram_says : (challenge : Bytes) (messages : List Bytes) (stored : Option StoredPassword) → CramSays challenge messages stored (cram_says challenge messages stored)
unfolding cram_says
says-cram_says challenge messages None = says_of_messages challenge messages None
says-cram_says challenge messages (Some stored) = says_of_credentials challenge messages (plaintext_of stored)

pub cram_says-alone : (challenge : Bytes) (messages : List Bytes) (stored : Option StoredPassword) (what : Said) → CramSays challenge messages stored what → what ≡ cram_says challenge messages stored
unfolding cram_says
cram_says-alone challenge messages None what s = one_of_messages challenge messages None what s
cram_says-alone challenge messages (Some stored) what s = one_of_credentials challenge messages (plaintext_of stored) what s

pub cram_says_from : (challenge : Bytes) (messages : List Bytes) (stored : Option StoredPassword) (r : Result Said AllocError) → IfOk r (λ said. said ≡ cram_says challenge messages stored)
    → IfOk r (λ said. CramSays challenge messages stored said)
cram_says_from challenge messages stored (Ok said) e = subst (CramSays challenge messages stored) (sym e) (says-cram_says challenge messages stored)
cram_says_from challenge messages stored (Err fault) e = tt
