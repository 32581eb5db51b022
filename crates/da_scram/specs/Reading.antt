-- The messages of SCRAM, computed from their texts.
use Rattle.std.specs.Prelude.{ℕ, ◌&&◌, ◌||◌, List, [], ◌∷◌, ◌++◌, Option, Some, None, option_map, option_and_then, if◌then◌else◌, ◌==◌, bytes_eq, codes}
use Rattle.std.specs.List.{list_all}
use Rattle.da_base.specs.Words.{Bytes, pieces, after_front, from_base64, to_base64}
use Rattle.da_schemes.specs.Stored.{StoredPassword, scram_keys}
use Rattle.da_schemes.specs.declared.keys.ScramKeys.{ScramKeys}
use Rattle.da_fields.specs.declared.said.Said.{Said}
use Rattle.da_fields.specs.declared.said.Said.TheVariants.{Challenge, Need, Bad}
use Rattle.da_scram.specs.declared.names.Escaping.{Escaping}
use Rattle.da_scram.specs.declared.names.Escaping.TheVariants.{Plainly, AfterEquals, AfterTwo, AfterThree}
use Rattle.da_scram.specs.declared.names.LetterRead.{LetterRead}
use Rattle.da_scram.specs.declared.names.LetterRead.TheVariants.{Nothing, Letter, Wrong}
use Rattle.da_scram.specs.Messages.{FirstMessage, FinalMessage, header, is_name, is_nonce, is_extension, is_proof, final_front}
use Rattle.da_scram.specs.Scram.{server_first, auth_message, proof_says}

-- ---- names

-- how far an escape has come: none, after its equals sign, and after that and a 2 or a 3
abbrev pub next_escaping : Escaping → ℕ → Escaping
next_escaping Plainly c = if c == 61 then AfterEquals else Plainly
next_escaping AfterEquals c = if c == 50 then AfterTwo else AfterThree
next_escaping _ c = Plainly

-- what a letter gives there: nothing yet, a letter of the name, or it may not stand there
abbrev pub letter_read : Escaping → ℕ → LetterRead
letter_read Plainly c = if c == 61 then Nothing else if c == 44 then Wrong else Letter c
letter_read AfterEquals c = if (c == 50) || (c == 51) then Nothing else Wrong
letter_read AfterTwo c = if c == 67 then Letter 44 else Wrong
letter_read AfterThree c = if c == 68 then Letter 61 else Wrong

-- the letters that it gives
abbrev pub letters_of : LetterRead → Bytes
letters_of (Letter c) = c ∷ []
letters_of _ = []

abbrev pub with_letter : LetterRead → Option Bytes → Option Bytes
with_letter Wrong name = None
with_letter read name = option_map (λ letters. letters_of read ++ letters) name

abbrev pub name_from : Escaping → Bytes → Option Bytes
name_from Plainly [] = Some []
name_from _ [] = None
name_from escaping (c ∷ cs) = with_letter (letter_read escaping c) (name_from (next_escaping escaping c) cs)

abbrev pub right_name : Bytes → Option Bytes
right_name name = if is_name name then Some name else None

-- the name that is written so
abbrev pub name_read : Bytes → Option Bytes
name_read text = option_and_then right_name (name_from Plainly text)

-- ---- the first message

abbrev pub flag_read : Bytes → Option ℕ
flag_read (c ∷ []) = if (c == 110) || (c == 121) then Some c else None
flag_read _ = None

-- the authorization identity: an empty piece has none, and one that is written isn't empty
abbrev pub authzid_read : Bytes → Option Bytes
authzid_read [] = Some []
authzid_read (c ∷ cs) = option_and_then name_read (after_front (codes "a=") (c ∷ cs))

abbrev pub right_nonce : Bytes → Option Bytes
right_nonce nonce = if is_nonce nonce then Some nonce else None

abbrev pub nonce_read : Bytes → Option Bytes
nonce_read text = option_and_then right_nonce (after_front (codes "r=") text)

abbrev pub first_named : ℕ → Option Bytes → Option Bytes → Bytes → List Bytes → Option FirstMessage
first_named flag (Some authzid) (Some name) nonce extensions =
    Some (record { flag = flag; authzid = authzid; name = name; nonce = nonce; extensions = extensions })
first_named flag _ _ nonce extensions = None

-- the message of these parts, where the name and the authorization identity are still written
abbrev pub first_with : Option ℕ → Bytes → Option Bytes → Option Bytes → List Bytes → Option FirstMessage
first_with (Some flag) authzid (Some name) (Some nonce) extensions =
    if list_all is_extension extensions then first_named flag (authzid_read authzid) (name_read name) nonce extensions else None
first_with _ authzid _ _ extensions = None

abbrev pub first_in_pieces : List Bytes → Option FirstMessage
first_in_pieces (flag ∷ authzid ∷ name ∷ nonce ∷ extensions) =
    first_with (flag_read flag) authzid (after_front (codes "n=") name) (nonce_read nonce) extensions
first_in_pieces _ = None

-- the first message of a text
unfoldable pub first_message : Bytes → Option FirstMessage
first_message text = first_in_pieces (pieces 44 text)

-- ---- the last message

-- the extensions of the last message, and its proof as it is written
pub record FinalParts : Type 0 where
  pub extensions : List Bytes
  pub written : Bytes

abbrev pub last_part : Bytes → FinalParts
last_part written = record { extensions = []; written = written }

abbrev pub with_extension : Bytes → FinalParts → FinalParts
with_extension extension parts = record { extensions = extension ∷ parts.extensions; written = parts.written }

-- the parts that follow the nonces: extensions, and last the proof
abbrev pub parts_read : List Bytes → Option FinalParts
parts_read [] = None
parts_read (last ∷ []) = option_map last_part (after_front (codes "p=") last)
parts_read (extension ∷ next ∷ more) =
    if is_extension extension then option_map (with_extension extension) (parts_read (next ∷ more)) else None

-- each part has a comma before it
abbrev pub parts_after : List Bytes → Option FinalParts
parts_after ([] ∷ parts) = parts_read parts
parts_after _ = None

abbrev pub right_proof : Bytes → Bytes → Option Bytes
right_proof text proof = if is_proof proof && bytes_eq (to_base64 proof) text then Some proof else None

-- the proof that is written so
abbrev pub proof_read : Bytes → Option Bytes
proof_read text = option_and_then (right_proof text) (from_base64 text)

abbrev pub final_of : List Bytes → Bytes → FinalMessage
final_of extensions proof = record { extensions = extensions; proof = proof }

abbrev pub final_with : Option FinalParts → Option FinalMessage
final_with None = None
final_with (Some parts) = option_map (final_of parts.extensions) (proof_read parts.written)

abbrev pub final_after : Option Bytes → Option FinalMessage
final_after None = None
final_after (Some rest) = final_with (parts_after (pieces 44 rest))

-- the last message of a text, after this header of the first one and under these nonces of client and server
unfoldable pub final_message : Bytes → Bytes → Bytes → Bytes → Option FinalMessage
final_message gs2_header nonce server_nonce text = final_after (after_front (final_front gs2_header nonce server_nonce) text)

-- ---- what comes of the messages

abbrev pub final_says : FirstMessage → Bytes → ScramKeys → Option FinalMessage → Said
final_says first server_nonce keys None = Bad
final_says first server_nonce keys (Some m) = proof_says keys (auth_message first server_nonce keys m) m.proof

abbrev pub further_says : FirstMessage → Bytes → ScramKeys → List Bytes → Said
further_says first server_nonce keys [] = Challenge (server_first first.nonce server_nonce keys.salt keys.rounds)
further_says first server_nonce keys (text ∷ []) = final_says first server_nonce keys (final_message (header first) first.nonce server_nonce text)
further_says first server_nonce keys (text ∷ more ∷ rest) = Bad

abbrev pub first_says : Bytes → ScramKeys → List Bytes → Option FirstMessage → Said
first_says server_nonce keys more None = Bad
first_says server_nonce keys more (Some first) = further_says first server_nonce keys more

-- what comes of the messages under keys
abbrev pub keys_say : Bytes → Option ScramKeys → List Bytes → Said
keys_say server_nonce None messages = Bad
keys_say server_nonce (Some keys) [] = Challenge []
keys_say server_nonce (Some keys) (text ∷ more) = first_says server_nonce keys more (first_message text)

-- the user whom a first message names
abbrev pub first_need : Option FirstMessage → Said
first_need None = Bad
first_need (Some first) = Need first.name first.authzid None

-- what comes of the messages before there are keys: only the first one is looked at
abbrev pub messages_need : List Bytes → Said
messages_need [] = Challenge []
messages_need (text ∷ more) = first_need (first_message text)

unfoldable pub scram_says : Bytes → Bytes → List Bytes → Option StoredPassword → Said
scram_says server_nonce salt messages None = messages_need messages
scram_says server_nonce salt messages (Some stored) = keys_say server_nonce (scram_keys salt stored) messages
