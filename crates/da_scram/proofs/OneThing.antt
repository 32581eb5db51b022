-- One thing comes of a client's messages.
use Rattle.std.proofs.Common.{◌≡◌, ℕ, Bool, true, false, List, [], ◌∷◌, Option, Some, None, Result, Ok, Err, refl, sym, ap, ◌∙◌, subst}
use Rattle.std.specs.Prelude.{IfOk}
use Rattle.std.specs.declared.alloc.AllocError.{AllocError}
use Rattle.std.proofs.lemmas.Option.{same_Some, none-some}
use Rattle.da_base.specs.Words.{Bytes}
use Rattle.da_schemes.specs.Stored.{StoredPassword, scram_keys}
use Rattle.da_schemes.specs.declared.keys.ScramKeys.{ScramKeys}
use Rattle.da_fields.specs.declared.said.Said.{Said}
use Rattle.da_fields.specs.declared.said.Said.TheVariants.{Challenge, Need, Proof, Bad}
use Rattle.da_scram.specs.Messages.{FirstMessage, FinalMessage, IsFirst, IsFinal, header, first_bare}
use Rattle.da_scram.specs.Scram.{server_first, auth_message, is_right_proof, server_final, proof_says, FinalSays, FurtherSays, FirstSays, BeginsWith, MessagesSay, KeysSay, ScramSays}
use Rattle.da_scram.specs.Reading.{final_says, further_says, first_says, keys_say, first_need, messages_need, first_message, final_message, scram_says}
use Rattle.da_scram.proofs.FirstReading.{first_message-is, first_message_from}
use Rattle.da_scram.proofs.FinalReading.{final_message-is, final_message_from}

none_from : {A : Type 0} (o : Option A) → ((x : A) → o ≡ Some x → ⊥) → o ≡ None
none_from None h = refl
none_from (Some x) h = absurd (h x refl)

-- ---- after a first message

proof_says_from : (first : FirstMessage) (server_nonce : Bytes) (keys : ScramKeys) (text : Bytes) (m : FinalMessage) (right : Bool) → IsFinal first server_nonce text m
    → is_right_proof keys (auth_message first server_nonce keys m) m.proof ≡ right → FinalSays first server_nonce keys text (proof_says keys (auth_message first server_nonce keys m) m.proof)
proof_says_from first server_nonce keys text m true is e = rw e (m, is, rw e)
proof_says_from first server_nonce keys text m false is e = rw e (m, is, rw e)

final_comes : (first : FirstMessage) (server_nonce : Bytes) (keys : ScramKeys) (text : Bytes) (read : Option FinalMessage) → final_message (header first) first.nonce server_nonce text ≡ read
    → FinalSays first server_nonce keys text (final_says first server_nonce keys read)
final_comes first server_nonce keys text None e = λ m is. none-some m (sym e ∙ final_message_from first server_nonce text m is)
final_comes first server_nonce keys text (Some m) e = proof_says_from first server_nonce keys text m _ (final_message-is first server_nonce text m e) refl

further_comes : (first : FirstMessage) (server_nonce : Bytes) (keys : ScramKeys) (more : List Bytes) → FurtherSays first server_nonce keys more (further_says first server_nonce keys more)
further_comes first server_nonce keys [] = refl
further_comes first server_nonce keys (text ∷ []) = final_comes first server_nonce keys text (final_message (header first) first.nonce server_nonce text) refl
further_comes first server_nonce keys (text ∷ more ∷ rest) = refl

final_alone : (first : FirstMessage) (server_nonce : Bytes) (keys : ScramKeys) (text : Bytes) (what : Said) → FinalSays first server_nonce keys text what
    → what ≡ final_says first server_nonce keys (final_message (header first) first.nonce server_nonce text)
final_alone first server_nonce keys text (Proof right last) s =
    sym s.2 ∙ ap (final_says first server_nonce keys) (sym (final_message_from first server_nonce text s.0 s.1))
final_alone first server_nonce keys text Bad s = ap (final_says first server_nonce keys) (sym (none_from _ (λ m e. s m (final_message-is first server_nonce text m e))))
final_alone first server_nonce keys text (Challenge challenge) s = absurd s
final_alone first server_nonce keys text (Need name authzid password) s = absurd s

further_alone : (first : FirstMessage) (server_nonce : Bytes) (keys : ScramKeys) (more : List Bytes) (what : Said) → FurtherSays first server_nonce keys more what
    → what ≡ further_says first server_nonce keys more
further_alone first server_nonce keys [] what s = s
further_alone first server_nonce keys (text ∷ []) what s = final_alone first server_nonce keys text what s
further_alone first server_nonce keys (text ∷ more ∷ rest) what s = s

-- ---- what comes of a first message that was read, with keys and without

abbrev first_gives : Bytes → Option ScramKeys → List Bytes → Option FirstMessage → Said
first_gives server_nonce None more read = first_need read
first_gives server_nonce (Some keys) more read = first_says server_nonce keys more read

one_comes : (first : FirstMessage) (server_nonce : Bytes) (keys : Option ScramKeys) (more : List Bytes) → FirstSays first server_nonce keys more (first_gives server_nonce keys more (Some first))
one_comes first server_nonce None more = refl
one_comes first server_nonce (Some keys) more = further_comes first server_nonce keys more

one_alone : (first : FirstMessage) (server_nonce : Bytes) (keys : Option ScramKeys) (more : List Bytes) (what : Said) → FirstSays first server_nonce keys more what
    → what ≡ first_gives server_nonce keys more (Some first)
one_alone first server_nonce None more what s = s
one_alone first server_nonce (Some keys) more what s = further_alone first server_nonce keys more what s

gives_bad : (server_nonce : Bytes) (keys : Option ScramKeys) (more : List Bytes) → first_gives server_nonce keys more None ≡ Bad
gives_bad server_nonce None more = refl
gives_bad server_nonce (Some keys) more = refl

begins_bad : (text : Bytes) (more : List Bytes) (server_nonce : Bytes) (keys : Option ScramKeys) → first_message text ≡ None → BeginsWith text more server_nonce keys Bad
begins_bad text more server_nonce keys none first is = absurd (none-some first (sym none ∙ first_message_from text first is))

-- one message was read, and this comes of it
begins_with : (text : Bytes) (more : List Bytes) (server_nonce : Bytes) (keys : Option ScramKeys) (first : FirstMessage) (what : Said) → first_message text ≡ Some first
    → FirstSays first server_nonce keys more what → BeginsWith text more server_nonce keys what
begins_with text more server_nonce keys first (Challenge challenge) read s = (first, first_message-is text first read, s)
begins_with text more server_nonce keys first (Need name authzid password) read s = (first, first_message-is text first read, s)
begins_with text more server_nonce keys first (Proof right last) read s = (first, first_message-is text first read, s)
begins_with text more server_nonce keys first Bad read s = λ other is.
    let same : first ≡ other = same_Some first other (sym read ∙ first_message_from text other is) in
    subst (λ f. FirstSays f server_nonce keys more Bad) same s

begin_comes : (text : Bytes) (more : List Bytes) (server_nonce : Bytes) (keys : Option ScramKeys) (read : Option FirstMessage) → first_message text ≡ read
    → BeginsWith text more server_nonce keys (first_gives server_nonce keys more read)
begin_comes text more server_nonce keys None e = subst (BeginsWith text more server_nonce keys) (sym (gives_bad server_nonce keys more)) (begins_bad text more server_nonce keys e)
begin_comes text more server_nonce keys (Some first) e = begins_with text more server_nonce keys first _ e (one_comes first server_nonce keys more)

from_spelled : (text : Bytes) (more : List Bytes) (server_nonce : Bytes) (keys : Option ScramKeys) (first : FirstMessage) (what : Said) → IsFirst text first
    → FirstSays first server_nonce keys more what → what ≡ first_gives server_nonce keys more (first_message text)
from_spelled text more server_nonce keys first what is s =
    one_alone first server_nonce keys more what s ∙ ap (first_gives server_nonce keys more) (sym (first_message_from text first is))

bad_alone : (text : Bytes) (more : List Bytes) (server_nonce : Bytes) (keys : Option ScramKeys) (read : Option FirstMessage) → first_message text ≡ read
    → ((first : FirstMessage) → IsFirst text first → FirstSays first server_nonce keys more Bad) → Bad ≡ first_gives server_nonce keys more read
bad_alone text more server_nonce keys None e s = sym (gives_bad server_nonce keys more)
bad_alone text more server_nonce keys (Some first) e s = one_alone first server_nonce keys more Bad (s first (first_message-is text first e))

begin_alone : (text : Bytes) (more : List Bytes) (server_nonce : Bytes) (keys : Option ScramKeys) (what : Said) → BeginsWith text more server_nonce keys what
    → what ≡ first_gives server_nonce keys more (first_message text)
begin_alone text more server_nonce keys (Challenge challenge) s = from_spelled text more server_nonce keys s.0 _ s.1 s.2
begin_alone text more server_nonce keys (Need name authzid password) s = from_spelled text more server_nonce keys s.0 _ s.1 s.2
begin_alone text more server_nonce keys (Proof right last) s = from_spelled text more server_nonce keys s.0 _ s.1 s.2
begin_alone text more server_nonce keys Bad s = bad_alone text more server_nonce keys (first_message text) refl s

-- ---- what comes of all

need_comes : (server_nonce : Bytes) (messages : List Bytes) → MessagesSay server_nonce None messages (messages_need messages)
need_comes server_nonce [] = refl
need_comes server_nonce (text ∷ more) = begin_comes text more server_nonce None (first_message text) refl

need_alone : (server_nonce : Bytes) (messages : List Bytes) (what : Said) → MessagesSay server_nonce None messages what → what ≡ messages_need messages
need_alone server_nonce [] what s = s
need_alone server_nonce (text ∷ more) what s = begin_alone text more server_nonce None what s

keys_come : (server_nonce : Bytes) (keys : Option ScramKeys) (messages : List Bytes) → KeysSay server_nonce keys messages (keys_say server_nonce keys messages)
keys_come server_nonce None messages = refl
keys_come server_nonce (Some keys) [] = refl
keys_come server_nonce (Some keys) (text ∷ more) = begin_comes text more server_nonce (Some keys) (first_message text) refl

keys_alone : (server_nonce : Bytes) (keys : Option ScramKeys) (messages : List Bytes) (what : Said) → KeysSay server_nonce keys messages what → what ≡ keys_say server_nonce keys messages
keys_alone server_nonce None messages what s = s
keys_alone server_nonce (Some keys) [] what s = s
keys_alone server_nonce (Some keys) (text ∷ more) what s = begin_alone text more server_nonce (Some keys) what s

pub scram_says-comes : (server_nonce salt : Bytes) (messages : List Bytes) (stored : Option StoredPassword) → ScramSays server_nonce salt messages stored (scram_says server_nonce salt messages stored)
unfolding scram_says
scram_says-comes server_nonce salt messages None = need_comes server_nonce messages
scram_says-comes server_nonce salt messages (Some stored) = keys_come server_nonce (scram_keys salt stored) messages

pub scram_says-alone : (server_nonce salt : Bytes) (messages : List Bytes) (stored : Option StoredPassword) (what : Said) → ScramSays server_nonce salt messages stored what
    → what ≡ scram_says server_nonce salt messages stored
unfolding scram_says
scram_says-alone server_nonce salt messages None what s = need_alone server_nonce messages what s
scram_says-alone server_nonce salt messages (Some stored) what s = keys_alone server_nonce (scram_keys salt stored) messages what s

pub scram_says_from : (server_nonce salt : Bytes) (messages : List Bytes) (stored : Option StoredPassword) (r : Result Said AllocError)
    → IfOk r (λ said. said ≡ scram_says server_nonce salt messages stored) → IfOk r (λ said. ScramSays server_nonce salt messages stored said)
scram_says_from server_nonce salt messages stored (Ok said) e =
    subst (ScramSays server_nonce salt messages stored) (sym e) (scram_says-comes server_nonce salt messages stored)
scram_says_from server_nonce salt messages stored (Err fault) e = tt
