-- A line of a client is read as a message exactly where it spells it.
use Rattle.std.proofs.Common.{◌≡◌, ℕ, not, ◌&&◌, List, [], ◌∷◌, Option, Some, None, refl, sym, ap, ◌∙◌, subst, inl, inr}
use Rattle.std.specs.Prelude.{bytes_eq, codes, is_some, option_map, option_and_then}
use Rattle.std.proofs.lemmas.Bool.{cases_Bool, and_parts, and_from, not-true}
use Rattle.std.proofs.lemmas.Option.{same_Some, cond_some, option_and_then_some}
use Rattle.da_base.specs.Words.{Bytes, is_empty, number}
use Rattle.da_tabline.specs.Escapes.{line_fields}
use Rattle.da_fields.specs.FieldList.{Pairs, field}
use Rattle.da_msgs.specs.ClientMessages.{client_message, client_message_of, version_of, one_number, auth_of, auth_with, cont_of, parameters_of}
use Rattle.da_msgs.specs.ClientSpelling.{FieldsSpell, SpellsClient}
use Rattle.da_msgs.specs.declared.client.ClientMsg.{ClientMsg}
use Rattle.da_msgs.specs.declared.client.ClientMsg.TheVariants.{Version, Pid, Auth, Cont, Cancel, Other}
use Rattle.da_msgs.proofs.FieldSpelling.{line_read, fits_from, with_word, word_is, some_of_map, version_spelled, version_from, one_number_parts, parameters_parts, parameters_from}

version_case : (word : Bytes) (rest : List Bytes) (m : ClientMsg) → word ≡ codes "VERSION" → option_map (λ v. Version v.0 v.1) (version_of rest) ≡ Some m
    → FieldsSpell (word ∷ rest) m
version_case word rest m is h =
    let s = version_spelled (λ major minor. Version major minor) word rest m is h in
    subst (FieldsSpell (word ∷ rest)) s.1 (s.2, s.3, s.4, s.5, s.6, s.7)

pid_case : (word : Bytes) (rest : List Bytes) (m : ClientMsg) → word ≡ codes "CPID" → option_map (λ n. Pid n) (one_number rest) ≡ Some m → FieldsSpell (word ∷ rest) m
pid_case word rest m is h =
    let n = some_of_map (λ (n : ℕ). Pid n) (one_number rest) m h in
    let parts = one_number_parts rest n.0 n.1 in
    subst (FieldsSpell (word ∷ rest)) n.2 (parts.0, with_word word (codes "CPID") rest _ is parts.1, parts.2)

cancel_case : (word : Bytes) (rest : List Bytes) (m : ClientMsg) → word ≡ codes "CANCEL" → option_map (λ n. Cancel n) (one_number rest) ≡ Some m → FieldsSpell (word ∷ rest) m
cancel_case word rest m is h =
    let n = some_of_map (λ (n : ℕ). Cancel n) (one_number rest) m h in
    let parts = one_number_parts rest n.0 n.1 in
    subst (FieldsSpell (word ∷ rest)) n.2 (parts.0, with_word word (codes "CANCEL") rest _ is parts.1, parts.2)

cont_case : (word : Bytes) (rest : List Bytes) (m : ClientMsg) → word ≡ codes "CONT" → cont_of rest ≡ Some m → FieldsSpell (word ∷ rest) m
cont_case word [] m is h = cc
cont_case word (id ∷ []) m is h = cc
cont_case word (id ∷ text ∷ []) m is h =
    let n = some_of_map (λ (n : ℕ). Cont n text) (number id) m h in
    subst (FieldsSpell (word ∷ id ∷ text ∷ [])) n.2 (id, ap (λ w. w ∷ id ∷ text ∷ []) is, n.1)
cont_case word (id ∷ text ∷ more ∷ rest) m is h = cc

auth_with_case : (word id mech : Bytes) (rest : List Bytes) (m : ClientMsg) (n : ℕ) (found : Option (Pairs × Option Bytes)) → word ≡ codes "AUTH" → number id ≡ Some n
    → parameters_of rest [] ≡ found → auth_with n mech found ≡ Some m → FieldsSpell (word ∷ id ∷ mech ∷ rest) m
auth_with_case word id mech rest m n None is n_is found_is h = cc
auth_with_case word id mech rest m n (Some found) is n_is found_is h =
    let parts = cond_some (is_some (field (codes "service") found.0) && not (is_empty mech)) (Auth n mech found.0 found.1) m h in
    let tests = and_parts (is_some (field (codes "service") found.0)) (not (is_empty mech)) parts.0 in
    subst (FieldsSpell (word ∷ id ∷ mech ∷ rest)) parts.1
    (id, rest, ap (λ w. w ∷ id ∷ mech ∷ rest) is, n_is, parameters_parts rest [] found.0 found.1 found_is, tests.0, not-true _ tests.1)

auth_case : (word : Bytes) (rest : List Bytes) (m : ClientMsg) → word ≡ codes "AUTH" → auth_of rest ≡ Some m → FieldsSpell (word ∷ rest) m
auth_case word [] m is h = cc
auth_case word (id ∷ []) m is h = cc
auth_case word (id ∷ mech ∷ rest) m is h =
    option_and_then_some (λ n. auth_with n mech (parameters_of rest [])) (number id) m h
    (λ n n_is more. auth_with_case word id mech rest m n (parameters_of rest []) is n_is refl more)

message_parts : (fields : List Bytes) (m : ClientMsg) → client_message_of fields ≡ Some m → FieldsSpell fields m
message_parts [] m h = cc
message_parts (word ∷ rest) m h =
    elim (cases_Bool (bytes_eq word (codes "VERSION"))) [
      | inl e ↦ version_case word rest m (word_is word _ e) (rw e at h)
      | inr no_version ↦
          elim (cases_Bool (bytes_eq word (codes "CPID"))) [
            | inl e ↦ pid_case word rest m (word_is word _ e) (rw (no_version, e) at h)
            | inr no_pid ↦
                elim (cases_Bool (bytes_eq word (codes "AUTH"))) [
                  | inl e ↦ auth_case word rest m (word_is word _ e) (rw (no_version, no_pid, e) at h)
                  | inr no_auth ↦
                      elim (cases_Bool (bytes_eq word (codes "CONT"))) [
                        | inl e ↦ cont_case word rest m (word_is word _ e) (rw (no_version, no_pid, no_auth, e) at h)
                        | inr no_cont ↦
                            elim (cases_Bool (bytes_eq word (codes "CANCEL"))) [
                              | inl e ↦ cancel_case word rest m (word_is word _ e) (rw (no_version, no_pid, no_auth, no_cont, e) at h)
                              | inr no_cancel ↦
                                  subst (FieldsSpell (word ∷ rest)) (same_Some Other m (rw (no_version, no_pid, no_auth, no_cont, no_cancel) at h))
                                  (word, rest, refl, (no_version, no_pid, no_auth, no_cont, no_cancel))
                            ]
                      ]
                ]
          ]
    ]

message_from : (fields : List Bytes) (m : ClientMsg) → FieldsSpell fields m → client_message_of fields ≡ Some m
message_from fields (Version major minor) s =
    ap client_message_of s.3 ∙ ap (option_map (λ v. Version v.0 v.1)) (version_from s.0 s.1 s.2 major minor s.4 s.5)
message_from fields (Pid pid) s = ap client_message_of s.1 ∙ ap (option_map (λ n. Pid n)) s.2
message_from fields (Auth id mech params resp) s =
    ap client_message_of s.2 ∙ ap (option_and_then (λ n. auth_with n mech (parameters_of s.1 []))) s.3
    ∙ ap (auth_with id mech) (parameters_from s.1 [] params resp s.4) ∙ rw (and_from _ _ s.5 (ap not s.6))
message_from fields (Cont id text) s = ap client_message_of s.1 ∙ ap (option_map (λ n. Cont n text)) s.2
message_from fields (Cancel id) s = ap client_message_of s.1 ∙ ap (option_map (λ n. Cancel n)) s.2
message_from fields Other s = ap client_message_of s.2 ∙ rw (s.3.0, s.3.1, s.3.2, s.3.3, s.3.4)

pub client_message-spells : (line : Bytes) (m : ClientMsg) → client_message line ≡ Some m → SpellsClient line m
unfolding client_message
client_message-spells line m h =
    let parts = line_read line (client_message_of (line_fields line)) m h in
    record { short = parts.0; no_end = parts.1; fields = message_parts (line_fields line) m parts.2 }

pub client_message_from : (line : Bytes) (m : ClientMsg) → SpellsClient line m → client_message line ≡ Some m
unfolding client_message
client_message_from line m s = rw (fits_from line s.short s.no_end) (message_from (line_fields line) m s.fields)

pub one_client_message : (line : Bytes) (m n : ClientMsg) → SpellsClient line m → SpellsClient line n → m ≡ n
one_client_message line m n s t = same_Some m n (sym (client_message_from line m s) ∙ client_message_from line n t)
