-- A made text is read as its scheme, and its password matches.
use Rattle.std.proofs.Common.{◌≡◌, ℕ, ◌≤◌, true, ◌&&◌, [], ◌∷◌, ◌++◌, Option, Some, None, length, take, refl, ap, ◌∙◌, arith, codes, length-append}
use Rattle.std.specs.Prelude.{bytes_eq, nat_le, option_map, option_and_then}
use Rattle.std.specs.Result.{result_ok}
use Rattle.std.proofs.lemmas.Bool.{eq-eqb, le-leb}
use Rattle.std.proofs.lemmas.List.{append-nil, append_assoc, take_at, drop_at}
use Rattle.base64.specs.GeneralPurpose.{IsBytes}
use Rattle.hex.specs.Hex.{decode_of, encode_lower}
use Rattle.hex.proofs.HexLemmas.{decode_of-encode_lower}
use Rattle.md5.specs.Md5.{md5}
use Rattle.md5.proofs.StandardFacts.{length-md5}
use Rattle.sha1.specs.Sha1.{sha1}
use Rattle.sha2.specs.Sha256.{sha256}
use Rattle.sha2.specs.Sha512.{sha512}
use Rattle.sha2.proofs.Facts256.{length-sha256}
use Rattle.sha2.proofs.Facts512.{length-sha512}
use Rattle.da_base.specs.Words.{Bytes, pieces, to_base64, from_base64}
use Rattle.da_tabline.specs.Parts.{Lacks}
use Rattle.da_tabline.proofs.PartLemmas.{pieces-Lacks, pieces-SplitsAt}
use Rattle.da_schemes.specs.Hmac.{hi, hmac_sha256}
use Rattle.da_schemes.specs.Keys.{stored_key, keys_of, bytes_spelled, keys_in_pieces}
use Rattle.da_schemes.specs.Made.{keys_text, text_made, made, IsMade}
use Rattle.da_schemes.specs.Scheme.{scheme_name, kind_of, label_of}
use Rattle.da_schemes.specs.Stored.{digest_by, secret_of_bytes, secret_written, stored_password, secret_matches, matches}
use Rattle.da_schemes.specs.declared.scheme.Kind.TheVariants.{Hashed, Salted}
use Rattle.da_schemes.specs.declared.scheme.Label.{Label}
use Rattle.da_schemes.specs.declared.scheme.Scheme.{Scheme}
use Rattle.da_schemes.specs.declared.scheme.Scheme.TheVariants.{Plain, Clear, Cleartext, PlainMd5, LdapMd5, Sha, Sha256, Sha512, Smd5, Ssha, Ssha256, Ssha512, ScramSha256}
use Rattle.da_schemes.specs.declared.secret.Secret.{Secret}
use Rattle.da_schemes.specs.declared.secret.Secret.TheVariants.{Plaintext, Digest, Keys}
use Rattle.da_schemes.proofs.Base64.{from_base64-to_base64, Lacks-to_base64}
use Rattle.da_schemes.proofs.Bytes.{IsBytes-append, IsBytes-take, IsBytes-md5, IsBytes-sha1, IsBytes-sha256, IsBytes-sha512, length-sha1}

-- ---- the braces

abbrev label : Scheme → Label
label scheme = record { scheme = scheme; encoding = None }

label_of-made : (default scheme : Scheme) (text : Bytes)
    → label_of default (codes "{" ++ scheme_name scheme ++ codes "}" ++ text) ≡ Some (label scheme, text)
label_of-made default Plain text = refl
label_of-made default Clear text = refl
label_of-made default Cleartext text = refl
label_of-made default PlainMd5 text = refl
label_of-made default LdapMd5 text = refl
label_of-made default Sha text = refl
label_of-made default Sha256 text = refl
label_of-made default Sha512 text = refl
label_of-made default Smd5 text = refl
label_of-made default Ssha text = refl
label_of-made default Ssha256 text = refl
label_of-made default Ssha512 text = refl
label_of-made default ScramSha256 text = refl

-- ---- what is stored

-- the text is read as a secret that the plaintext matches
record IsKept (scheme : Scheme) (plain text : Bytes) : Type 0 where
  secret : Secret
  read : secret_written (label scheme) text ≡ Some secret
  matched : secret_matches scheme secret plain ≡ true

bytes_eq-same : (xs : Bytes) → bytes_eq xs xs ≡ true
bytes_eq-same [] = refl
bytes_eq-same (x ∷ xs) = rw (eq-eqb x x refl) (bytes_eq-same xs)

hashed : (size : ℕ) (written : Option Bytes) (digest : Bytes) → written ≡ Some digest → length digest ≡ size
    → option_and_then (secret_of_bytes Hashed size) written ≡ Some (Digest digest [])
hashed size written digest read long = rw (read, eq-eqb _ _ long) refl

salted : (size : ℕ) (written : Option Bytes) (digest salt : Bytes) → written ≡ Some (digest ++ salt) → length digest ≡ size
    → option_and_then (secret_of_bytes Salted size) written ≡ Some (Digest digest salt)
salted size written digest salt read long =
    let fits : size ≤ length (digest ++ salt) = omega (arith, length-append digest salt, long) in
    rw (read, le-leb _ _ fits, take_at digest salt size long, drop_at digest salt size long) refl

-- ---- keys

bytes_spelled-to_base64 : (least most n : ℕ) (bytes : Bytes) → IsBytes bytes → length bytes ≡ n → (nat_le least n && nat_le n most) ≡ true
    → bytes_spelled least most (to_base64 bytes) ≡ Some bytes
bytes_spelled-to_base64 least most n bytes all long fits = rw (from_base64-to_base64 bytes all, long, fits) refl

pieces-front : (front text : Bytes) → Lacks 44 front → pieces 44 (front ++ 44 ∷ text) ≡ front ∷ pieces 44 text
pieces-front front text lacks = pieces-SplitsAt 44 (front ++ 44 ∷ text) front text (record { whole = refl; first = lacks })

four_pieces : (salt stored server : Bytes) → Lacks 44 salt → Lacks 44 stored → Lacks 44 server
    → pieces 44 (codes "4096," ++ salt ++ codes "," ++ stored ++ codes "," ++ server) ≡ codes "4096" ∷ salt ∷ stored ∷ server ∷ []
four_pieces salt stored server in_salt in_stored in_server =
    let cut : salt ++ codes "," ++ stored ++ codes "," ++ server ≡ salt ++ 44 ∷ (stored ++ 44 ∷ server) = simp append_assoc in
    let parts : pieces 44 (salt ++ codes "," ++ stored ++ codes "," ++ server) ≡ salt ∷ stored ∷ server ∷ [] =
    rw (cut, pieces-front salt _ in_salt, pieces-front stored server in_stored, pieces-Lacks 44 server in_server) refl in
    rw parts refl

keys_in_pieces-made : (salt stored server : Bytes) → length salt ≡ 16 → IsBytes salt → length stored ≡ 32 → IsBytes stored → length server ≡ 32 → IsBytes server
    → keys_in_pieces (codes "4096" ∷ to_base64 salt ∷ to_base64 stored ∷ to_base64 server ∷ [])
    ≡ Some (record { rounds = 4096; salt = salt; stored = stored; server = server })
keys_in_pieces-made salt stored server l0 b0 l1 b1 l2 b2 =
    rw (bytes_spelled-to_base64 1 64 16 salt b0 l0 refl, bytes_spelled-to_base64 32 32 32 stored b1 l1 refl, bytes_spelled-to_base64 32 32 32 server b2 l2 refl) refl

length-hmac_sha256 : (key text : Bytes) → length (hmac_sha256 key text) ≡ 32
unfolding hmac_sha256
length-hmac_sha256 key text = length-sha256 _

IsBytes-hmac_sha256 : (key text : Bytes) → IsBytes (hmac_sha256 key text)
unfolding hmac_sha256
IsBytes-hmac_sha256 key text = IsBytes-sha256 _

secret_written-keys : (plain salt : Bytes) → length salt ≡ 16 → IsBytes salt
    → secret_written (label ScramSha256) (keys_text (keys_of plain salt 4096)) ≡ Some (Keys (keys_of plain salt 4096))
secret_written-keys plain salt long bytes =
    let keys = keys_of plain salt 4096 in
    let parts = four_pieces (to_base64 keys.salt) (to_base64 keys.stored) (to_base64 keys.server)
    (Lacks-to_base64 keys.salt) (Lacks-to_base64 keys.stored) (Lacks-to_base64 keys.server) in
    let read = keys_in_pieces-made salt keys.stored keys.server long bytes (length-sha256 _) (IsBytes-sha256 _) (length-hmac_sha256 _ _) (IsBytes-hmac_sha256 _ _) in
    ap (option_map Keys) (ap keys_in_pieces parts ∙ read)

-- ---- every scheme

plaintext_kept : (scheme : Scheme) (plain : Bytes) → secret_written (label scheme) plain ≡ Some (Plaintext plain) → IsKept scheme plain plain
plaintext_kept scheme plain read = record { secret = Plaintext plain; read = read; matched = bytes_eq-same plain }

digest_kept : (scheme : Scheme) (plain text : Bytes)
    → secret_written (label scheme) text ≡ Some (Digest (digest_by scheme plain) []) → IsKept scheme plain text
digest_kept scheme plain text read = record {
  secret = Digest (digest_by scheme plain) [];
  read = read;
  matched = rw append-nil (bytes_eq-same (digest_by scheme plain));
}

salted_kept : (scheme : Scheme) (plain salt text : Bytes)
    → secret_written (label scheme) text ≡ Some (Digest (digest_by scheme (plain ++ salt)) salt) → IsKept scheme plain text
salted_kept scheme plain salt text read = record {
  secret = Digest (digest_by scheme (plain ++ salt)) salt;
  read = read;
  matched = bytes_eq-same (digest_by scheme (plain ++ salt));
}

hashed_base64 : (size : ℕ) (digest : Bytes) → IsBytes digest → length digest ≡ size
    → option_and_then (secret_of_bytes Hashed size) (from_base64 (to_base64 digest)) ≡ Some (Digest digest [])
hashed_base64 size digest all long = hashed size (from_base64 (to_base64 digest)) digest (from_base64-to_base64 digest all) long

salted_base64 : (size : ℕ) (digest salt : Bytes) → IsBytes digest → IsBytes salt → length digest ≡ size
    → option_and_then (secret_of_bytes Salted size) (from_base64 (to_base64 (digest ++ salt))) ≡ Some (Digest digest salt)
salted_base64 size digest salt all bytes long =
    salted size (from_base64 (to_base64 (digest ++ salt))) digest salt (from_base64-to_base64 (digest ++ salt) (IsBytes-append digest salt all bytes)) long

kept : (scheme : Scheme) (plain salt : Bytes) → length salt ≡ 16 → IsBytes salt → IsKept scheme plain (text_made (kind_of scheme) scheme plain salt)
kept Plain plain salt long bytes = plaintext_kept Plain plain refl
kept Clear plain salt long bytes = plaintext_kept Clear plain refl
kept Cleartext plain salt long bytes = plaintext_kept Cleartext plain refl
kept PlainMd5 plain salt long bytes =
    digest_kept PlainMd5 plain (encode_lower (md5 plain))
    (hashed 16 (result_ok (decode_of (encode_lower (md5 plain)))) (md5 plain) (ap result_ok (decode_of-encode_lower (md5 plain) (IsBytes-md5 plain))) (length-md5 plain))
kept LdapMd5 plain salt long bytes = digest_kept LdapMd5 plain (to_base64 (md5 plain)) (hashed_base64 16 (md5 plain) (IsBytes-md5 plain) (length-md5 plain))
kept Sha plain salt long bytes = digest_kept Sha plain (to_base64 (sha1 plain)) (hashed_base64 20 (sha1 plain) (IsBytes-sha1 plain) (length-sha1 plain))
kept Sha256 plain salt long bytes = digest_kept Sha256 plain (to_base64 (sha256 plain)) (hashed_base64 32 (sha256 plain) (IsBytes-sha256 plain) (length-sha256 plain))
kept Sha512 plain salt long bytes = digest_kept Sha512 plain (to_base64 (sha512 plain)) (hashed_base64 64 (sha512 plain) (IsBytes-sha512 plain) (length-sha512 plain))
kept Smd5 plain salt long bytes =
    let s = take 8 salt in
    salted_kept Smd5 plain s (to_base64 (md5 (plain ++ s) ++ s)) (salted_base64 16 (md5 (plain ++ s)) s (IsBytes-md5 _) (IsBytes-take 8 salt bytes) (length-md5 _))
kept Ssha plain salt long bytes =
    let s = take 8 salt in
    salted_kept Ssha plain s (to_base64 (sha1 (plain ++ s) ++ s)) (salted_base64 20 (sha1 (plain ++ s)) s (IsBytes-sha1 _) (IsBytes-take 8 salt bytes) (length-sha1 _))
kept Ssha256 plain salt long bytes =
    let s = take 8 salt in
    salted_kept Ssha256 plain s (to_base64 (sha256 (plain ++ s) ++ s)) (salted_base64 32 (sha256 (plain ++ s)) s (IsBytes-sha256 _) (IsBytes-take 8 salt bytes) (length-sha256 _))
kept Ssha512 plain salt long bytes =
    let s = take 8 salt in
    salted_kept Ssha512 plain s (to_base64 (sha512 (plain ++ s) ++ s)) (salted_base64 64 (sha512 (plain ++ s)) s (IsBytes-sha512 _) (IsBytes-take 8 salt bytes) (length-sha512 _))
kept ScramSha256 plain salt long bytes = record {
  secret = Keys (keys_of plain salt 4096);
  read = secret_written-keys plain salt long bytes;
  matched = bytes_eq-same (stored_key (hi plain salt 4096));
}

-- what is read of a text with a label, where what follows the label is kept
made_of-kept : (default scheme : Scheme) (plain text : Bytes) → IsKept scheme plain text
    → IsMade default scheme plain (codes "{" ++ scheme_name scheme ++ codes "}" ++ text)
unfolding stored_password matches
made_of-kept default scheme plain text k = record {
  stored = record { scheme = scheme; secret = k.secret };
  read = rw (label_of-made default scheme text, k.read) refl;
  same_scheme = refl;
  matched = k.matched;
}

pub IsMade-made : (default scheme : Scheme) (plain salt : Bytes) → length salt ≡ 16 → IsBytes salt → IsMade default scheme plain (made scheme plain salt)
IsMade-made default scheme plain salt long bytes = made_of-kept default scheme plain _ (kept scheme plain salt long bytes)
