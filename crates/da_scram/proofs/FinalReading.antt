-- The client's last message is read as it is spelled.
use Rattle.std.proofs.Common.{Bor, MatchOption, ◌≢◌, option_copied, count_by, ◌≡◌, ℕ, zero, suc, ◌+◌, ◌-◌, ◌<◌, ◌≤◌, Bool, true, false, cond, ◌&&◌, List, [], ◌∷◌, ◌++◌, length, take, Option, Some, None, option_map, option_and_then, eqb, codes, refl, sym, ap, ◌∙◌, subst, inl, inr, append_assoc, arith}
use Rattle.std.specs.Prelude.{bytes_eq, nat_lt, slice_index}
use Rattle.std.specs.List.{list_all, join_with_byte, onto_first}
use Rattle.std.proofs.lemmas.Bool.{cases_Bool, eqb-true, ne_eqb, and_parts, and_from, ltb-true, lt-ltb}
use Rattle.std.proofs.lemmas.List.{length-append}
use Rattle.std.proofs.lemmas.List.Splits.{length-slice_split}
use Rattle.std.proofs.lemmas.Option.{same_Some, cond_some, option_and_then_some}
use Rattle.std.proofs.lemmas.Slice.Eq.{bytes_eq-Decides}
use Rattle.std.proofs.Math.Seq.{take-append_seam}
use Rattle.base64.specs.GeneralPurpose.{IsBytes}
use Rattle.da_base.specs.Words.{Bytes, pieces, after_front, from_base64, to_base64}
use Rattle.da_tabline.specs.Parts.{Lacks, SplitsAt}
use Rattle.da_tabline.proofs.PartLemmas.{after_front_some, after_front_at, pieces-Lacks, pieces-SplitsAt}
use Rattle.da_schemes.proofs.Base64.{from_base64-to_base64, Lacks-to_base64}
use Rattle.da_scram.specs.Messages.{FirstMessage, FinalMessage, IsFinal, header, is_extension, is_proof, final_front, listed}
use Rattle.da_scram.specs.Reading.{FinalParts, last_part, with_extension, parts_read, parts_after, right_proof, proof_read, final_of, final_with, final_after, final_message}
use Rattle.da_scram.specs.Cuts.{HasProof, ReadsFinal}
use Rattle.da_scram.proofs.Commas.{EachLacks, Lacks-nil, Lacks-cons, EachLacks-append, pieces-listed, joined-listed, joined-pieces, listed-last, EachLacks-extensions}

-- ---- extensions, and last the proof

map_some : {A B : Type 0} (f : A → B) (o : Option A) (y : B) → option_map f o ≡ Some y → (x : A) × (o ≡ Some x) × (f x ≡ y)
map_some f None y h = cc
map_some f (Some x) y h = (x, refl, same_Some (f x) y h)

-- these pieces are these extensions and the proof that is written so
abbrev AreParts : List Bytes → FinalParts → Type 0
AreParts ps parts = (ps ≡ parts.extensions ++ (codes "p=" ++ parts.written) ∷ []) × (list_all is_extension parts.extensions ≡ true)

more_parts : (extension : Bytes) (ps : List Bytes) (parts : FinalParts) → is_extension extension ≡ true → AreParts ps parts → AreParts (extension ∷ ps) (with_extension extension parts)
more_parts extension ps parts right are = (ap (λ l. extension ∷ l) are.0, and_from (is_extension extension) _ right are.1)

parts_some : (ps : List Bytes) (parts : FinalParts) → parts_read ps ≡ Some parts → AreParts ps parts
parts_some [] parts h = cc
parts_some (last ∷ []) parts h =
    let read = map_some last_part (after_front (codes "p=") last) parts h in
    subst (AreParts (last ∷ [])) read.2 (ap (λ x. x ∷ []) (after_front_some (codes "p=") last read.0 read.1), refl)
parts_some (extension ∷ next ∷ more) parts h =
    elim (cases_Bool (is_extension extension)) [
      | inl right ↦
          let read = map_some (with_extension extension) (parts_read (next ∷ more)) parts (rw right at h) in
          subst (AreParts (extension ∷ next ∷ more)) read.2 (more_parts extension (next ∷ more) read.0 right (parts_some (next ∷ more) read.0 read.1))
      | inr wrong ↦ let never : ◌≡◌ {A = Option FinalParts} None (Some parts) = rw wrong at h in cc
    ]

abbrev parts_of : List Bytes → Bytes → FinalParts
parts_of extensions written = record { extensions = extensions; written = written }

parts_from : (extensions : List Bytes) (written : Bytes) → list_all is_extension extensions ≡ true → parts_read (extensions ++ (codes "p=" ++ written) ∷ []) ≡ Some (parts_of extensions written)
parts_from [] written h = refl
parts_from (e ∷ []) written h = rw (and_parts (is_extension e) true h).0
parts_from (e ∷ next ∷ more) written h =
    let tests = and_parts (is_extension e) (list_all is_extension (next ∷ more)) h in
    let rest = parts_from (next ∷ more) written tests.1 in
    ap (λ b. cond b (option_map (with_extension e) (parts_read ((next ∷ more) ++ (codes "p=" ++ written) ∷ []))) None) tests.0 ∙ ap (option_map (with_extension e)) rest

-- ---- what follows the nonces

rest_some_at : (rest : Bytes) (ps : List Bytes) (parts : FinalParts) → pieces 44 rest ≡ ps → parts_after ps ≡ Some parts
    → (rest ≡ listed parts.extensions ++ 44 ∷ (codes "p=" ++ parts.written)) × (list_all is_extension parts.extensions ≡ true)
rest_some_at rest [] parts e h = cc
rest_some_at rest ((c ∷ cs) ∷ ps) parts e h = cc
rest_some_at rest ([] ∷ ps) parts e h =
    let are = parts_some ps parts h in (
      joined-pieces rest ([] ∷ ps) e ∙ joined-listed [] ps ∙ ap listed are.0 ∙ listed-last parts.extensions (codes "p=" ++ parts.written),
      are.1,
    )

rest_some : (rest : Bytes) (parts : FinalParts) → parts_after (pieces 44 rest) ≡ Some parts
    → (rest ≡ listed parts.extensions ++ 44 ∷ (codes "p=" ++ parts.written)) × (list_all is_extension parts.extensions ≡ true)
rest_some rest parts h = rest_some_at rest (pieces 44 rest) parts refl h

rest_from : (extensions : List Bytes) (written : Bytes) → list_all is_extension extensions ≡ true → Lacks 44 written
    → parts_after (pieces 44 (listed extensions ++ 44 ∷ (codes "p=" ++ written))) ≡ Some (parts_of extensions written)
rest_from extensions written right lacks =
    let last = Lacks-cons 112 (61 ∷ written) refl (Lacks-cons 61 written refl lacks) in
    let more = extensions ++ (codes "p=" ++ written) ∷ [] in
    ap (λ t. parts_after (pieces 44 t)) (sym (listed-last extensions (codes "p=" ++ written)))
    ∙ ap parts_after (pieces-listed [] more Lacks-nil (EachLacks-append extensions ((codes "p=" ++ written) ∷ []) (EachLacks-extensions extensions right) (last, tt)))
    ∙ parts_from extensions written right

-- ---- the proof

bytes_of_all : (bs : Bytes) → list_all (λ byte. nat_lt byte 256) bs ≡ true → IsBytes bs
bytes_of_all [] h i = omega arith
bytes_of_all (b ∷ bs) h zero = ltb-true b 256 (and_parts (nat_lt b 256) (list_all (λ byte. nat_lt byte 256) bs) h).0
bytes_of_all (b ∷ bs) h (suc i) = bytes_of_all bs (and_parts (nat_lt b 256) (list_all (λ byte. nat_lt byte 256) bs) h).1 i

all_of_bytes : (bs : Bytes) → IsBytes bs → list_all (λ byte. nat_lt byte 256) bs ≡ true
all_of_bytes [] all = refl
all_of_bytes (b ∷ bs) all = and_from (nat_lt b 256) _ (lt-ltb b 256 (all 0)) (all_of_bytes bs (λ i. all (suc i)))

same_bytes_eq : (a b : Bytes) → a ≡ b → bytes_eq a b ≡ true
same_bytes_eq a b e = (bytes_eq-Decides a b).1 e

proof_some : (text proof : Bytes) → proof_read text ≡ Some proof → (is_proof proof ≡ true) × (to_base64 proof ≡ text)
proof_some text proof h =
    option_and_then_some (right_proof text) (from_base64 text) proof h
    (λ read read_is more.
    let parts = cond_some (is_proof read && bytes_eq (to_base64 read) text) read proof more in
    let tests = and_parts (is_proof read) (bytes_eq (to_base64 read) text) parts.0 in (
      ap is_proof (sym parts.1) ∙ tests.0,
      ap to_base64 (sym parts.1) ∙ (bytes_eq-Decides (to_base64 read) text).0 tests.1,
    ))

proof_from : (proof : Bytes) → is_proof proof ≡ true → proof_read (to_base64 proof) ≡ Some proof
proof_from proof right =
    let all = bytes_of_all proof (and_parts (eqb (length proof) 32) (list_all (λ byte. nat_lt byte 256) proof) right).1 in
    let same = and_from (is_proof proof) _ right (same_bytes_eq (to_base64 proof) (to_base64 proof) refl) in
    ap (option_and_then (right_proof (to_base64 proof))) (from_base64-to_base64 proof all) ∙ ap (λ b. cond b (Some proof) None) same

-- 32 bytes that a text in base64 stands for are its proof
proof_decoded : (text bytes : Bytes) → from_base64 text ≡ Some bytes → IsBytes bytes → text ≡ to_base64 bytes → length bytes ≡ 32 → proof_read text ≡ Some bytes
proof_decoded text bytes decoded all exact size =
    let right : is_proof bytes ≡ true = and_from (eqb (length bytes) 32) _ (ap (λ n. eqb n 32) size) (all_of_bytes bytes all) in
    let same = and_from (is_proof bytes) _ right (same_bytes_eq (to_base64 bytes) text (sym exact)) in
    ap (option_and_then (right_proof text)) decoded ∙ ap (λ b. cond b (Some bytes) None) same

-- the bytes that a text in base64 stands for are its proof where there are 32 of them, and otherwise it has none
pub proof_decided : (text bytes : Bytes) (r : Option Bytes) → from_base64 text ≡ Some bytes → IsBytes bytes → text ≡ to_base64 bytes
    → MatchOption r (length bytes ≢ 32) (λ proof. (proof ≡ bytes) × (length bytes ≡ 32)) → r ≡ proof_read text
proof_decided text bytes None decoded all exact other = sym (ap (option_and_then (right_proof text)) decoded ∙ rw (ne_eqb (length bytes) 32 other))
proof_decided text bytes (Some proof) decoded all exact is = ap (λ x. Some x) is.0 ∙ sym (proof_decoded text bytes decoded all exact is.1)

-- ---- read, so spelled

record AreFinal (rest : Bytes) (m : FinalMessage) : Type 0 where
  spelled : rest ≡ listed m.extensions ++ 44 ∷ (codes "p=" ++ to_base64 m.proof)
  extensions : list_all is_extension m.extensions ≡ true
  proof : is_proof m.proof ≡ true

final_parts : (rest : Bytes) (parts : Option FinalParts) (m : FinalMessage) → parts_after (pieces 44 rest) ≡ parts → final_with parts ≡ Some m → AreFinal rest m
final_parts rest None m e h = cc
final_parts rest (Some parts) m e h =
    let read = map_some (final_of parts.extensions) (proof_read parts.written) m h in
    let proof = proof_some parts.written read.0 read.1 in
    let front = rest_some rest parts e in
    subst (AreFinal rest) read.2
    (record { spelled = front.0 ∙ ap (λ l. listed parts.extensions ++ 44 ∷ (codes "p=" ++ l)) (sym proof.1); extensions = front.1; proof = proof.0 })

final_rest : (rest : Option Bytes) (m : FinalMessage) → final_after rest ≡ Some m → (text : Bytes) × (rest ≡ Some text) × AreFinal text m
final_rest None m h = cc
final_rest (Some text) m h = (text, refl, final_parts text (parts_after (pieces 44 text)) m refl h)

regrouped : (front extensions written : Bytes) → front ++ (extensions ++ 44 ∷ (codes "p=" ++ written)) ≡ front ++ extensions ++ codes ",p=" ++ written
regrouped front extensions written = simp append_assoc

pub final_message-is : (first : FirstMessage) (server_nonce text : Bytes) (m : FinalMessage) → final_message (header first) first.nonce server_nonce text ≡ Some m → IsFinal first server_nonce text m
unfolding final_message
final_message-is first server_nonce text m h =
    let front = final_front (header first) first.nonce server_nonce in
    let read = final_rest (after_front front text) m h in
    let are = read.2 in
    record {
      spelled = after_front_some front text read.0 read.1 ∙ ap (λ l. front ++ l) are.spelled ∙ regrouped front (listed m.extensions) (to_base64 m.proof);
      is_right = and_from (list_all is_extension m.extensions) _ are.extensions are.proof;
    }

-- ---- spelled, so read

pub final_read_from : (gs2_header nonce server_nonce text rest : Bytes) (extensions : List Bytes) (written proof : Bytes)
    → after_front (final_front gs2_header nonce server_nonce) text ≡ Some rest → parts_after (pieces 44 rest) ≡ Some (parts_of extensions written) → proof_read written ≡ Some proof
    → final_message gs2_header nonce server_nonce text ≡ Some (record { extensions = extensions; proof = proof })
unfolding final_message
final_read_from gs2_header nonce server_nonce text rest extensions written proof front parts is =
    ap final_after front ∙ ap final_with parts ∙ ap (option_map (final_of extensions)) is

pub final_message_from : (first : FirstMessage) (server_nonce text : Bytes) (m : FinalMessage) → IsFinal first server_nonce text m → final_message (header first) first.nonce server_nonce text ≡ Some m
final_message_from first server_nonce text m is =
    let front = final_front (header first) first.nonce server_nonce in
    let tests = and_parts (list_all is_extension m.extensions) (is_proof m.proof) is.is_right in
    let rest = listed m.extensions ++ 44 ∷ (codes "p=" ++ to_base64 m.proof) in
    let whole : text ≡ front ++ rest = is.spelled ∙ sym (regrouped front (listed m.extensions) (to_base64 m.proof)) in
    final_read_from (header first) first.nonce server_nonce text rest m.extensions (to_base64 m.proof) m.proof
    (ap (after_front front) whole ∙ after_front_at front rest)
    (rest_from m.extensions (to_base64 m.proof) tests.0 (Lacks-to_base64 m.proof))
    (proof_from m.proof tests.1)

-- ---- the cuts of the code

pub no_front : (gs2_header nonce server_nonce text : Bytes) → after_front (final_front gs2_header nonce server_nonce) text ≡ None → final_message gs2_header nonce server_nonce text ≡ None
unfolding final_message
no_front gs2_header nonce server_nonce text none = ap final_after none

pub no_parts : (gs2_header nonce server_nonce text rest : Bytes) → after_front (final_front gs2_header nonce server_nonce) text ≡ Some rest → parts_after (pieces 44 rest) ≡ None
    → final_message gs2_header nonce server_nonce text ≡ None
unfolding final_message
no_parts gs2_header nonce server_nonce text rest front none = ap final_after front ∙ ap final_with none

pub no_proof : (gs2_header nonce server_nonce text rest written : Bytes) → after_front (final_front gs2_header nonce server_nonce) text ≡ Some rest
    → HasProof (parts_after (pieces 44 rest)) written → proof_read written ≡ None → final_message gs2_header nonce server_nonce text ≡ None
unfolding final_message
no_proof gs2_header nonce server_nonce text rest written front has none =
    ap final_after front ∙ ap final_with has.read ∙ ap (option_map (final_of has.extensions)) none

-- the proof ends the text, after `,p=`
pub proof_at_end : (front text rest written : Bytes) → after_front front text ≡ Some rest → (has : HasProof (parts_after (pieces 44 rest)) written)
    → text ≡ (front ++ listed has.extensions) ++ (codes ",p=" ++ written)
proof_at_end front text rest written is has =
    after_front_some front text rest is ∙ ap (λ l. front ++ l) (rest_some rest (parts_of has.extensions written) has.read).0 ∙ simp append_assoc

pub proof_fits : (front text rest written : Bytes) → after_front front text ≡ Some rest → HasProof (parts_after (pieces 44 rest)) written → length written + 3 ≤ length text
proof_fits front text rest written is has =
    let whole = ap length (proof_at_end front text rest written is has) in
    let parts = length-append (front ++ listed has.extensions) (codes ",p=" ++ written) in
    let last : length (codes ",p=" ++ written) ≡ length written + 3 = omega arith in
    omega (arith, whole, parts, last)

pub reads_final : (gs2_header nonce server_nonce text rest written proof : Bytes) → after_front (final_front gs2_header nonce server_nonce) text ≡ Some rest
    → HasProof (parts_after (pieces 44 rest)) written → proof_read written ≡ Some proof
    → ReadsFinal gs2_header nonce server_nonce text (take (length text - length written - 3) text) proof
reads_final gs2_header nonce server_nonce text rest written proof front has is =
    let before = final_front gs2_header nonce server_nonce ++ listed has.extensions in
    let whole = proof_at_end (final_front gs2_header nonce server_nonce) text rest written front has in
    let parts = length-append before (codes ",p=" ++ written) in
    let last : length (codes ",p=" ++ written) ≡ length written + 3 = omega arith in
    let size : length text - length written - 3 ≡ length before = omega (arith, ap length whole, parts, last) in
    record {
      message = record { extensions = has.extensions; proof = proof };
      read = final_read_from gs2_header nonce server_nonce text rest has.extensions written proof front has.read is;
      same_front = sym (ap (λ n. take n text) size ∙ ap (take (length before)) whole ∙ take-append_seam before (codes ",p=" ++ written));
      same_proof = refl;
    }

-- ---- piece by piece

-- what is read of the rest of the pieces is read of them all
pub record Skipping (all rest : List Bytes) : Type 0 where
  pub none : parts_read rest ≡ None → parts_read all ≡ None
  pub some : (written : Bytes) → HasProof (parts_read rest) written → HasProof (parts_read all) written

pub skips_none : (all : List Bytes) → Skipping all all
skips_none all = record { none = λ h. h; some = λ written h. h }

parts_more : (extension : Bytes) (ps : List Bytes) (n : ℕ) → length ps ≡ n + 1 → is_extension extension ≡ true → parts_read (extension ∷ ps) ≡ option_map (with_extension extension) (parts_read ps)
parts_more extension [] n size right = absurd (omega arith)
parts_more extension (p ∷ ps) n size right = rw right

parts_wrong : (extension : Bytes) (ps : List Bytes) (n : ℕ) → length ps ≡ n + 1 → is_extension extension ≡ false → parts_read (extension ∷ ps) ≡ None
parts_wrong extension [] n size wrong = absurd (omega arith)
parts_wrong extension (p ∷ ps) n size wrong = rw wrong

some_pieces : (text : Bytes) → (n : ℕ) × (length (pieces 44 text) ≡ n + 1)
some_pieces text = (count_by (λ c. eqb c 44) text, length-slice_split (λ c. eqb c 44) text)

pub skips_wrong : (all : List Bytes) (rest extension more : Bytes) → Skipping all (pieces 44 rest) → SplitsAt 44 rest extension more → is_extension extension ≡ false
    → parts_read all ≡ None
skips_wrong all rest extension more skipping cut wrong =
    let size = some_pieces more in
    skipping.none (ap parts_read (pieces-SplitsAt 44 rest extension more cut) ∙ parts_wrong extension (pieces 44 more) size.0 size.1 wrong)

pub skips_one : (all : List Bytes) (rest extension more : Bytes) → Skipping all (pieces 44 rest) → SplitsAt 44 rest extension more → is_extension extension ≡ true
    → Skipping all (pieces 44 more)
skips_one all rest extension more skipping cut right =
    let size = some_pieces more in
    let step = ap parts_read (pieces-SplitsAt 44 rest extension more cut) ∙ parts_more extension (pieces 44 more) size.0 size.1 right in
    record {
      none = λ h. skipping.none (step ∙ ap (option_map (with_extension extension)) h);
      some = λ written has. skipping.some written (record { extensions = extension ∷ has.extensions; read = step ∙ ap (option_map (with_extension extension)) has.read });
    }

pub ends_in_proof : (all : List Bytes) (rest : Bytes) (r : Option (Bor Bytes)) → Skipping all (pieces 44 rest) → Lacks 44 rest → option_copied r ≡ after_front (codes "p=") rest
    → MatchOption r (parts_read all ≡ None) (λ written. HasProof (parts_read all) written.now)
ends_in_proof all rest None skipping lacks is = skipping.none (ap parts_read (pieces-Lacks 44 rest lacks) ∙ ap (option_map last_part) (sym is))
ends_in_proof all rest (Some written) skipping lacks is =
    skipping.some written.now (record { extensions = []; read = ap parts_read (pieces-Lacks 44 rest lacks) ∙ ap (option_map last_part) (sym is) })

-- what follows a comma
pub after_comma : (rest more : Bytes) → rest ≡ 44 ∷ more → parts_after (pieces 44 rest) ≡ parts_read (pieces 44 more)
after_comma rest more e = ap (λ t. parts_after (pieces 44 t)) e

onto_first-none : (c : ℕ) (ps : List Bytes) (n : ℕ) → length ps ≡ n + 1 → parts_after (onto_first c ps) ≡ None
onto_first-none c [] n size = absurd (omega arith)
onto_first-none c (p ∷ ps) n size = refl

first_piece : (c : ℕ) (cs : Bytes) → eqb c 44 ≡ false → parts_after (pieces 44 (c ∷ cs)) ≡ None
first_piece c cs other =
    let size = some_pieces cs in rw other (onto_first-none c (pieces 44 cs) size.0 size.1)

pub no_comma_after : (rest : Bytes) → ((more : Bytes) → rest ≡ 44 ∷ more → ⊥) → parts_after (pieces 44 rest) ≡ None
no_comma_after [] none = refl
no_comma_after (c ∷ cs) none =
    elim (cases_Bool (eqb c 44)) [
      | inl e ↦ absurd (none cs (ap (λ x. x ∷ cs) (eqb-true c 44 e)))
      | inr e ↦ first_piece c cs e
    ]
