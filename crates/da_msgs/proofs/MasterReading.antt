-- A line of a master is read as a message exactly where it spells it.
use Rattle.std.proofs.Common.{◌≡◌, ℕ, List, [], ◌∷◌, Option, Some, None, refl, sym, ap, ◌∙◌, subst, inl, inr}
use Rattle.std.specs.Prelude.{bytes_eq, codes, option_map}
use Rattle.std.proofs.lemmas.Bool.{cases_Bool}
use Rattle.std.proofs.lemmas.Option.{same_Some}
use Rattle.da_base.specs.Words.{Bytes, number}
use Rattle.da_tabline.specs.Escapes.{line_fields}
use Rattle.da_msgs.specs.ClientMessages.{version_of}
use Rattle.da_msgs.specs.MasterMessages.{master_message, master_message_of, request_of, request_with}
use Rattle.da_msgs.specs.MasterSpelling.{MasterFieldsSpell, SpellsMaster}
use Rattle.da_msgs.specs.declared.master.MasterMsg.{MasterMsg}
use Rattle.da_msgs.specs.declared.master.MasterMsg.TheVariants.{Version, Request, Other}
use Rattle.da_msgs.proofs.FieldSpelling.{line_read, fits_from, word_is, version_spelled, version_from}

version_case : (word : Bytes) (rest : List Bytes) (m : MasterMsg) → word ≡ codes "VERSION" → option_map (λ v. Version v.0 v.1) (version_of rest) ≡ Some m
    → MasterFieldsSpell (word ∷ rest) m
version_case word rest m is h =
    let s = version_spelled (λ major minor. Version major minor) word rest m is h in
    subst (MasterFieldsSpell (word ∷ rest)) s.1 (s.2, s.3, s.4, s.5, s.6, s.7)

request_with_case : (word a b c cookie : Bytes) (rest : List Bytes) (m : MasterMsg) (id pid client : Option ℕ) → word ≡ codes "REQUEST"
    → number a ≡ id → number b ≡ pid → number c ≡ client → request_with cookie id pid client ≡ Some m → MasterFieldsSpell (word ∷ a ∷ b ∷ c ∷ cookie ∷ rest) m
request_with_case word a b c cookie rest m (Some id) (Some pid) (Some client) is one two three h =
    subst (MasterFieldsSpell (word ∷ a ∷ b ∷ c ∷ cookie ∷ rest)) (same_Some _ m h)
    (a, b, c, rest, ap (λ w. w ∷ a ∷ b ∷ c ∷ cookie ∷ rest) is, one, two, three)
request_with_case word a b c cookie rest m None pid client is one two three h = cc
request_with_case word a b c cookie rest m (Some id) None client is one two three h = cc
request_with_case word a b c cookie rest m (Some id) (Some pid) None is one two three h = cc

request_case : (word : Bytes) (rest : List Bytes) (m : MasterMsg) → word ≡ codes "REQUEST" → request_of rest ≡ Some m → MasterFieldsSpell (word ∷ rest) m
request_case word [] m is h = cc
request_case word (a ∷ []) m is h = cc
request_case word (a ∷ b ∷ []) m is h = cc
request_case word (a ∷ b ∷ c ∷ []) m is h = cc
request_case word (a ∷ b ∷ c ∷ cookie ∷ rest) m is h = request_with_case word a b c cookie rest m (number a) (number b) (number c) is refl refl refl h

message_parts : (fields : List Bytes) (m : MasterMsg) → master_message_of fields ≡ Some m → MasterFieldsSpell fields m
message_parts [] m h = cc
message_parts (word ∷ rest) m h =
    elim (cases_Bool (bytes_eq word (codes "VERSION"))) [
      | inl e ↦ version_case word rest m (word_is word _ e) (rw e at h)
      | inr no_version ↦
          elim (cases_Bool (bytes_eq word (codes "REQUEST"))) [
            | inl e ↦ request_case word rest m (word_is word _ e) (rw (no_version, e) at h)
            | inr no_request ↦
                subst (MasterFieldsSpell (word ∷ rest)) (same_Some Other m (rw (no_version, no_request) at h)) (word, rest, refl, no_version, no_request)
          ]
    ]

message_from : (fields : List Bytes) (m : MasterMsg) → MasterFieldsSpell fields m → master_message_of fields ≡ Some m
message_from fields (Version major minor) s =
    ap master_message_of s.3 ∙ ap (option_map (λ v. Version v.0 v.1)) (version_from s.0 s.1 s.2 major minor s.4 s.5)
message_from fields (Request id pid client cookie) s = ap master_message_of s.4 ∙ rw (s.5, s.6, s.7)
message_from fields Other s = ap master_message_of s.2 ∙ rw (s.3, s.4)

pub master_message-spells : (line : Bytes) (m : MasterMsg) → master_message line ≡ Some m → SpellsMaster line m
unfolding master_message
master_message-spells line m h =
    let parts = line_read line (master_message_of (line_fields line)) m h in
    record { short = parts.0; no_end = parts.1; fields = message_parts (line_fields line) m parts.2 }

pub master_message_from : (line : Bytes) (m : MasterMsg) → SpellsMaster line m → master_message line ≡ Some m
unfolding master_message
master_message_from line m s = rw (fits_from line s.short s.no_end) (message_from (line_fields line) m s.fields)

pub one_master_message : (line : Bytes) (m n : MasterMsg) → SpellsMaster line m → SpellsMaster line n → m ≡ n
one_master_message line m n s t = same_Some m n (sym (master_message_from line m s) ∙ master_message_from line n t)
