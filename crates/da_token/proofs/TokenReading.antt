-- Tokens are read as they are written.
use Rattle.std.proofs.Common.{◌≡◌, ℕ, ◌≤◌, true, false, cond, not, ◌&&◌, List, [], ◌∷◌, length, Option, Some, None, option_and_then, is_some, eqb, codes, ◌+◌, count_by, refl, sym, ap, ◌∙◌, subst, arith}
use Rattle.std.specs.Prelude.{nat_le}
use Rattle.std.proofs.lemmas.Bool.{eqb-true, eq-eqb, and_parts, leb-true, le-leb}
use Rattle.std.proofs.lemmas.List.Splits.{length-slice_split}
use Rattle.std.proofs.lemmas.Slice.Eq.{bytes_eq-Decides}
use Rattle.da_tabline.specs.Parts.{Lacks, SplitsAt}
use Rattle.std.proofs.lemmas.Option.{same_Some, none-some, cond_some, option_and_then_some}
use Rattle.serde_json.specs.Data.{Data, null, boolean, number, string, array, object, unsigned, negative, float}
use Rattle.serde_json.specs.Find.{get_member, as_str}
use Rattle.da_base.specs.Words.{Bytes, pieces, is_empty}
use Rattle.da_tabline.proofs.PartLemmas.{pieces-Lacks, pieces-SplitsAt}
use Rattle.da_token.specs.declared.token.Claims.{Claims}
use Rattle.da_token.specs.declared.token.Token.{Token}
use Rattle.da_token.specs.Json.{from_base64url, json_in, last_second, IsTextOr, IsSeconds, IsSecondsOr, text_or, second_within, seconds_of, seconds_or}
use Rattle.da_token.specs.Token.{IsHeader, IsClaims, IsToken, signing_input}
use Rattle.da_token.specs.Reading.{is_hs256, key_id_in, header_read, right_subject, subject_in, claims_with, claims_in, claims_read, right_signature, signature_read, token_with, token_in_pieces, token_read}
use Rattle.da_token.proofs.Options.{cond_option}

-- ---- values

as_str-is : (value : Data) (text : Bytes) → as_str value ≡ Some text → value ≡ string text
as_str-is null text h = absurd (none-some text h)
as_str-is (boolean b) text h = absurd (none-some text h)
as_str-is (number n) text h = absurd (none-some text h)
as_str-is (string s) text h = ap string (same_Some s text h)
as_str-is (array ds) text h = absurd (none-some text h)
as_str-is (object ms) text h = absurd (none-some text h)

text_or-is : (default : Bytes) (member : Option Data) (text : Bytes) → text_or default member ≡ Some text → IsTextOr default member text
text_or-is default None text h = sym (same_Some default text h)
text_or-is default (Some value) text h = as_str-is value text h

text_or_from : (default : Bytes) (member : Option Data) (text : Bytes) → IsTextOr default member text → text_or default member ≡ Some text
text_or_from default None text h = ap Some (sym h)
text_or_from default (Some value) text h = ap as_str h

within-is : (n seconds : ℕ) → second_within n ≡ Some seconds → (n ≡ seconds) × (seconds ≤ last_second)
within-is n seconds h = let parts = cond_some (nat_le n last_second) n seconds h in (parts.1, subst (λ m. m ≤ last_second) parts.1 (leb-true n last_second parts.0))

seconds_of-is : (value : Data) (seconds : ℕ) → seconds_of value ≡ Some seconds → IsSeconds value seconds
seconds_of-is null seconds h = absurd (none-some seconds h)
seconds_of-is (boolean b) seconds h = absurd (none-some seconds h)
seconds_of-is (number (unsigned n)) seconds h = let parts = within-is n seconds h in (ap (λ m. number (unsigned m)) parts.0, parts.1)
seconds_of-is (number (negative z)) seconds h = absurd (none-some seconds h)
seconds_of-is (number (float x)) seconds h = absurd (none-some seconds h)
seconds_of-is (string s) seconds h = absurd (none-some seconds h)
seconds_of-is (array ds) seconds h = absurd (none-some seconds h)
seconds_of-is (object ms) seconds h = absurd (none-some seconds h)

within_from : (seconds : ℕ) → seconds ≤ last_second → second_within seconds ≡ Some seconds
within_from seconds h = rw (le-leb seconds last_second h)

seconds_of_from : (value : Data) (seconds : ℕ) → IsSeconds value seconds → seconds_of value ≡ Some seconds
seconds_of_from value seconds h = ap seconds_of h.0 ∙ within_from seconds h.1

seconds_or-is : (default : ℕ) (member : Option Data) (seconds : ℕ) → seconds_or default member ≡ Some seconds → IsSecondsOr default member seconds
seconds_or-is default None seconds h = sym (same_Some default seconds h)
seconds_or-is default (Some value) seconds h = seconds_of-is value seconds h

seconds_or_from : (default : ℕ) (member : Option Data) (seconds : ℕ) → IsSecondsOr default member seconds → seconds_or default member ≡ Some seconds
seconds_or_from default None seconds h = ap Some (sym h)
seconds_or_from default (Some value) seconds h = seconds_of_from value seconds h

-- ---- the header

is_hs256-is : (member : Option Data) → is_hs256 (option_and_then as_str member) ≡ true → member ≡ Some (string (codes "HS256"))
is_hs256-is None h = cc
is_hs256-is (Some null) h = cc
is_hs256-is (Some (boolean b)) h = cc
is_hs256-is (Some (number n)) h = cc
is_hs256-is (Some (string s)) h = ap (λ t. Some (string t)) ((bytes_eq-Decides s (codes "HS256")).0 h)
is_hs256-is (Some (array ds)) h = cc
is_hs256-is (Some (object ms)) h = cc

none-is : {A : Type 0} (o : Option A) → not (is_some o) ≡ true → o ≡ None
none-is None h = refl
none-is (Some x) h = cc

-- the tests of a header, for each value that it may be
header_in-is : (part key_id : Bytes) (value : Data) → json_in part ≡ Some value → key_id_in value ≡ Some key_id → IsHeader part key_id
header_in-is part key_id null read h = cc
header_in-is part key_id (boolean b) read h = cc
header_in-is part key_id (number n) read h = cc
header_in-is part key_id (string s) read h = cc
header_in-is part key_id (array ds) read h = cc
header_in-is part key_id (object ms) read h =
    let tests = cond_option (is_hs256 (option_and_then as_str (get_member (codes "alg") ms)) && not (is_some (get_member (codes "crit") ms)))
    (text_or [] (get_member (codes "kid") ms)) key_id h in
    let both = and_parts (is_hs256 (option_and_then as_str (get_member (codes "alg") ms))) (not (is_some (get_member (codes "crit") ms))) tests.0 in
    record {
      members = ms;
      read = read;
      algorithm = is_hs256-is (get_member (codes "alg") ms) both.0;
      not_critical = none-is (get_member (codes "crit") ms) both.1;
      names_key = text_or-is [] (get_member (codes "kid") ms) key_id tests.1;
    }

header_read-is : (part key_id : Bytes) → header_read part ≡ Some key_id → IsHeader part key_id
header_read-is part key_id h = option_and_then_some key_id_in (json_in part) key_id h (λ value read more. header_in-is part key_id value read more)

header_tests : (algorithm critical key : Option Data) (key_id : Bytes) → algorithm ≡ Some (string (codes "HS256")) → critical ≡ None → IsTextOr [] key key_id
    → cond (is_hs256 (option_and_then as_str algorithm) && not (is_some critical)) (text_or [] key) None ≡ Some key_id
header_tests algorithm critical key key_id a c k = rw (a, c) (text_or_from [] key key_id k)

header_read_from : (part key_id : Bytes) → IsHeader part key_id → header_read part ≡ Some key_id
header_read_from part key_id is =
    ap (option_and_then key_id_in) is.read
    ∙ header_tests (get_member (codes "alg") is.members) (get_member (codes "crit") is.members) (get_member (codes "kid") is.members) key_id
    is.algorithm is.not_critical is.names_key

-- ---- the claims

claims_with-some : (subject : Option Bytes) (expires not_before : Option ℕ) (issuer : Option Bytes) (claims : Claims) → claims_with subject expires not_before issuer ≡ Some claims
    → (subject ≡ Some claims.subject) × (expires ≡ Some claims.expires) × (not_before ≡ Some claims.not_before) × (issuer ≡ Some claims.issuer)
claims_with-some (Some s) (Some e) (Some n) (Some i) claims h = let same = same_Some _ claims h in (
  ap (λ (c : Claims). Some c.subject) same,
  ap (λ (c : Claims). Some c.expires) same,
  ap (λ (c : Claims). Some c.not_before) same,
  ap (λ (c : Claims). Some c.issuer) same,
)
claims_with-some None _ _ _ claims h = cc
claims_with-some (Some s) None _ _ claims h = cc
claims_with-some (Some s) (Some e) None _ claims h = cc
claims_with-some (Some s) (Some e) (Some n) None claims h = cc

right_subject-is : (text subject : Bytes) → right_subject text ≡ Some subject → (text ≡ subject) × (is_empty subject ≡ false)
right_subject-is [] subject h = cc
right_subject-is (c ∷ cs) subject h = let e = same_Some (c ∷ cs) subject h in (e, ap is_empty (sym e))

right_subject_from : (subject : Bytes) → is_empty subject ≡ false → right_subject subject ≡ Some subject
right_subject_from subject h = rw h

text-is : (member : Option Data) (text : Bytes) → option_and_then as_str member ≡ Some text → member ≡ Some (string text)
text-is member text h = option_and_then_some as_str member text h (λ value is more. is ∙ ap Some (as_str-is value text more))

abbrev HasSubject : Option Data → Bytes → Type 0
HasSubject member subject = (member ≡ Some (string subject)) × (is_empty subject ≡ false)

subject-is : (member : Option Data) (subject : Bytes) → option_and_then right_subject (option_and_then as_str member) ≡ Some subject → HasSubject member subject
subject-is member subject h =
    option_and_then_some right_subject (option_and_then as_str member) subject h
    (λ text is more. let right = right_subject-is text subject more in (text-is member text is ∙ ap (λ t. Some (string t)) right.0, right.1))

abbrev HasSeconds : Option Data → ℕ → Type 0
HasSeconds member seconds = (value : Data) × (member ≡ Some value) × IsSeconds value seconds

expires-is : (member : Option Data) (seconds : ℕ) → option_and_then seconds_of member ≡ Some seconds → HasSeconds member seconds
expires-is member seconds h = option_and_then_some seconds_of member seconds h (λ value is more. (value, is, seconds_of-is value seconds more))

claims_in-is : (part : Bytes) (claims : Claims) (value : Data) → json_in part ≡ Some value → claims_in value ≡ Some claims → IsClaims part claims
claims_in-is part claims null read h = cc
claims_in-is part claims (boolean b) read h = cc
claims_in-is part claims (number n) read h = cc
claims_in-is part claims (string s) read h = cc
claims_in-is part claims (array ds) read h = cc
claims_in-is part claims (object ms) read h =
    let parts = claims_with-some (subject_in (object ms)) (option_and_then seconds_of (get_member (codes "exp") ms)) (seconds_or 0 (get_member (codes "nbf") ms))
    (text_or [] (get_member (codes "iss") ms)) claims h in
    let subject = subject-is (get_member (codes "sub") ms) claims.subject parts.0 in
    let expires = expires-is (get_member (codes "exp") ms) claims.expires parts.1 in
    record {
      members = ms;
      read = read;
      subject = subject.0;
      has_subject = subject.1;
      ending = expires.0;
      expires = expires.1;
      ends = expires.2;
      not_before = seconds_or-is 0 (get_member (codes "nbf") ms) claims.not_before parts.2;
      issuer = text_or-is [] (get_member (codes "iss") ms) claims.issuer parts.3;
    }

claims_read-is : (part : Bytes) (claims : Claims) → claims_read part ≡ Some claims → IsClaims part claims
claims_read-is part claims h = option_and_then_some claims_in (json_in part) claims h (λ value read more. claims_in-is part claims value read more)

claims_with_from : (claims : Claims) (subject : Option Bytes) (expires not_before : Option ℕ) (issuer : Option Bytes)
    → subject ≡ Some claims.subject → expires ≡ Some claims.expires → not_before ≡ Some claims.not_before → issuer ≡ Some claims.issuer
    → claims_with subject expires not_before issuer ≡ Some claims
claims_with_from claims subject expires not_before issuer s e n i = rw (s, e, n, i)

claims_read_from : (part : Bytes) (claims : Claims) → IsClaims part claims → claims_read part ≡ Some claims
claims_read_from part claims is =
    let text : option_and_then as_str (get_member (codes "sub") is.members) ≡ Some claims.subject = ap (option_and_then as_str) is.subject in
    ap (option_and_then claims_in) is.read
    ∙ claims_with_from claims (subject_in (object is.members)) (option_and_then seconds_of (get_member (codes "exp") is.members))
    (seconds_or 0 (get_member (codes "nbf") is.members)) (text_or [] (get_member (codes "iss") is.members))
    (ap (option_and_then right_subject) text ∙ right_subject_from claims.subject is.has_subject)
    (ap (option_and_then seconds_of) is.expires ∙ seconds_of_from is.ending claims.expires is.ends)
    (seconds_or_from 0 (get_member (codes "nbf") is.members) claims.not_before is.not_before)
    (text_or_from [] (get_member (codes "iss") is.members) claims.issuer is.issuer)

-- ---- the signature

abbrev IsSignature : Bytes → Bytes → Type 0
IsSignature part signature = (from_base64url part ≡ Some signature) × (length signature ≡ 32)

right_signature-is : (bytes signature : Bytes) → right_signature bytes ≡ Some signature → (bytes ≡ signature) × (length signature ≡ 32)
right_signature-is bytes signature h =
    let parts = cond_some (eqb (length bytes) 32) bytes signature h in
    (parts.1, ap length (sym parts.1) ∙ eqb-true (length bytes) 32 parts.0)

signature_read-is : (part signature : Bytes) → signature_read part ≡ Some signature → IsSignature part signature
signature_read-is part signature h =
    option_and_then_some right_signature (from_base64url part) signature h
    (λ bytes is more. let right = right_signature-is bytes signature more in (is ∙ ap Some right.0, right.1))

right_signature_from : (signature : Bytes) → length signature ≡ 32 → right_signature signature ≡ Some signature
right_signature_from signature h = rw (eq-eqb (length signature) 32 h)

signature_read_from : (part signature : Bytes) → from_base64url part ≡ Some signature → length signature ≡ 32 → signature_read part ≡ Some signature
signature_read_from part signature is long = ap (option_and_then right_signature) is ∙ right_signature_from signature long

-- ---- the token

abbrev AreParts : Bytes → Option Bytes → Option Claims → Option Bytes → Token → Type 0
AreParts signed key_id claims signature token =
    (token.signed ≡ signed) × (key_id ≡ Some token.key_id) × (claims ≡ Some token.claims) × (signature ≡ Some token.signature)

token_with-some : (signed : Bytes) (key_id : Option Bytes) (claims : Option Claims) (signature : Option Bytes) (token : Token)
    → token_with signed key_id claims signature ≡ Some token → AreParts signed key_id claims signature token
token_with-some signed (Some k) (Some c) (Some s) token h =
    let same = same_Some _ token h in
    (ap (λ (t : Token). t.signed) (sym same), ap (λ (t : Token). Some t.key_id) same, ap (λ (t : Token). Some t.claims) same, ap (λ (t : Token). Some t.signature) same)
token_with-some signed None _ _ token h = cc
token_with-some signed (Some k) None _ token h = cc
token_with-some signed (Some k) (Some c) None token h = cc

token_with_from : (signed : Bytes) (key_id : Option Bytes) (claims : Option Claims) (signature : Option Bytes) (token : Token)
    → AreParts signed key_id claims signature token → token_with signed key_id claims signature ≡ Some token
token_with_from signed key_id claims signature token are = rw (are.1, are.2, are.3, sym are.0)

token_in-is : (text : Bytes) (token : Token) (ps : List Bytes) → pieces 46 text ≡ ps → token_in_pieces ps ≡ Some token → IsToken text token
token_in-is text token [] e h = cc
token_in-is text token (a ∷ []) e h = cc
token_in-is text token (a ∷ b ∷ []) e h = cc
token_in-is text token (header ∷ claims ∷ signature ∷ []) e h =
    let are = token_with-some (signing_input header claims) (header_read header) (claims_read claims) (signature_read signature) token h in
    let is_signature = signature_read-is signature token.signature are.3 in
    record {
      header = header;
      claims = claims;
      signature = signature;
      parts = e;
      is_header = header_read-is header token.key_id are.1;
      is_claims = claims_read-is claims token.claims are.2;
      is_signature = is_signature.0;
      signature_length = is_signature.1;
      signed = are.0;
    }
token_in-is text token (a ∷ b ∷ c ∷ d ∷ more) e h = cc

pub token_read-is : (text : Bytes) (token : Token) → token_read text ≡ Some token → IsToken text token
unfolding token_read
token_read-is text token h = token_in-is text token (pieces 46 text) refl h

pub token_read_from : (text : Bytes) (token : Token) → IsToken text token → token_read text ≡ Some token
unfolding token_read
token_read_from text token is =
    ap token_in_pieces is.parts
    ∙ token_with_from (signing_input is.header is.claims) (header_read is.header) (claims_read is.claims) (signature_read is.signature) token (
      is.signed,
      header_read_from is.header token.key_id is.is_header,
      claims_read_from is.claims token.claims is.is_claims,
      signature_read_from is.signature token.signature is.is_signature is.signature_length,
    )

-- ---- a text in parts

one_more-none : (a b c : Bytes) (more : List Bytes) (n : ℕ) → length more ≡ n + 1 → token_in_pieces (a ∷ b ∷ c ∷ more) ≡ None
one_more-none a b c [] n size = absurd (omega arith)
one_more-none a b c (d ∷ more) n size = refl

pub no_dot : (text : Bytes) → Lacks 46 text → token_read text ≡ None
unfolding token_read
no_dot text lacks = ap token_in_pieces (pieces-Lacks 46 text lacks)

pub one_dot : (text header rest : Bytes) → SplitsAt 46 text header rest → Lacks 46 rest → token_read text ≡ None
unfolding token_read
one_dot text header rest cut lacks = ap token_in_pieces (pieces-SplitsAt 46 text header rest cut) ∙ ap (λ ps. token_in_pieces (header ∷ ps)) (pieces-Lacks 46 rest lacks)

two_cuts : (text header rest claims signature : Bytes) → SplitsAt 46 text header rest → SplitsAt 46 rest claims signature
    → token_in_pieces (pieces 46 text) ≡ token_in_pieces (header ∷ claims ∷ pieces 46 signature)
two_cuts text header rest claims signature cut next =
    ap token_in_pieces (pieces-SplitsAt 46 text header rest cut) ∙ ap (λ ps. token_in_pieces (header ∷ ps)) (pieces-SplitsAt 46 rest claims signature next)

pub two_dots : (text header rest claims signature : Bytes) → SplitsAt 46 text header rest → SplitsAt 46 rest claims signature → Lacks 46 signature
    → token_read text ≡ token_with (signing_input header claims) (header_read header) (claims_read claims) (signature_read signature)
unfolding token_read
two_dots text header rest claims signature cut next lacks =
    two_cuts text header rest claims signature cut next ∙ ap (λ ps. token_in_pieces (header ∷ claims ∷ ps)) (pieces-Lacks 46 signature lacks)

pub three_dots : (text header rest claims signature front back : Bytes) → SplitsAt 46 text header rest → SplitsAt 46 rest claims signature → SplitsAt 46 signature front back
    → token_read text ≡ None
unfolding token_read
three_dots text header rest claims signature front back cut next further =
    two_cuts text header rest claims signature cut next
    ∙ ap (λ ps. token_in_pieces (header ∷ claims ∷ ps)) (pieces-SplitsAt 46 signature front back further)
    ∙ one_more-none header claims front (pieces 46 back) (count_by (λ c. eqb c 46) back) (length-slice_split (λ c. eqb c 46) back)
