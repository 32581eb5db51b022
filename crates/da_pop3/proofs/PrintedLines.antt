-- The lines that the service prints spell for a session what they were printed for.
use Rattle.std.proofs.Common.{◌≡◌, ℕ, ◌<◌, ◌-◌, ◌^◌, false, [], ◌∷◌, ◌++◌, map, Option, Some, sym, ap, ◌∙◌, subst, arith, append_assoc, append-nil, inl, inr}
use Rattle.std.specs.Prelude.{bytes_eq, codes, decimal}
use Rattle.std.proofs.lemmas.Bool.{cases_Bool, both_ways}
use Rattle.std.proofs.lemmas.Slice.Eq.{bytes_eq-Decides}
use Rattle.da_base.specs.Words.{Bytes, number, option_or_else}
use Rattle.da_tabline.specs.Parts.{Lacks}
use Rattle.da_tabline.proofs.SpellingLemmas.{line_fields-spelled}
use Rattle.da_tabline.proofs.NumberLemmas.{number_of_decimal}
use Rattle.da_tabline.proofs.PartLemmas.{before_byte-Lacks, after_byte-Lacks, before_byte_at, after_byte_at}
use Rattle.da_fields.specs.FieldList.{Pairs, with_field, field_text, text_key, text_value, visible, LacksKey, AreDistinct}
use Rattle.da_fields.proofs.FieldLemmas.{with_field_none}
use Rattle.da_msgs.specs.Lines.{optional_field}
use Rattle.da_msgs.specs.Replies.{reply_line, master_reply_line}
use Rattle.da_msgs.specs.declared.client.Reply.TheVariants.{Ok as Okay}
use Rattle.da_msgs.specs.declared.master.MasterReply.TheVariants.{User}
use Rattle.da_pop3.specs.ServiceLines.{pairs_from}
use Rattle.da_pop3.specs.SessionLaws.{SpellsOk, SpellsUser, ArePlain}

number_printed : (id : ℕ) → id < 2 ^ 32 → number (decimal id) ≡ Some id
number_printed id small = number_of_decimal (2 ^ 32 - 1) id (omega arith) (omega arith)

-- ---- OK

pub okay-spelled : (id : ℕ) (user : Bytes) (fields : Pairs) (last : Option Bytes) → id < 2 ^ 32 → SpellsOk (reply_line (Okay id user fields last)) id
unfolding reply_line
okay-spelled id user fields last small =
    let more = field_text (codes "user", user) ∷ (map field_text (visible fields) ++ optional_field (codes "resp") last) in
    record { numeral = decimal id; more = more; words = line_fields-spelled (codes "OK") (decimal id ∷ more); number_is = number_printed id small }

-- ---- USER

key-field_text : (key value : Bytes) → Lacks 61 key → text_key (field_text (key, value)) ≡ key
key-field_text key [] plain = before_byte-Lacks 61 key plain
key-field_text key (c ∷ value) plain = before_byte_at 61 key (c ∷ value) plain

value-field_text : (key value : Bytes) → Lacks 61 key → text_value (field_text (key, value)) ≡ value
value-field_text key [] plain = ap (λ o. option_or_else o [] (λ v. v)) (after_byte-Lacks 61 key plain)
value-field_text key (c ∷ value) plain = ap (λ o. option_or_else o [] (λ v. v)) (after_byte_at 61 key (c ∷ value) plain)

other_way : (a b : Bytes) → bytes_eq a b ≡ false → bytes_eq b a ≡ false
other_way a b other =
    elim (cases_Bool (bytes_eq b a)) [
      | inl e ↦ absurd (both_ways (bytes_eq a b) other ((bytes_eq-Decides a b).1 (sym ((bytes_eq-Decides b a).0 e))))
      | inr e ↦ e
    ]

lacks_at : (key : Bytes) (front back : Pairs) (p : Bytes × Bytes) → LacksKey key (front ++ p ∷ back) → bytes_eq key p.0 ≡ false
lacks_at key [] back p lacks = lacks.0
lacks_at key (q ∷ front) back p lacks = lacks_at key front back p lacks.1

-- the key in the middle stands nowhere before
lacks_before : (front back : Pairs) (p : Bytes × Bytes) → AreDistinct (front ++ p ∷ back) → LacksKey p.0 front
lacks_before [] back p distinct = tt
lacks_before (q ∷ front) back p distinct =
    (other_way q.0 p.0 (lacks_at q.0 front back p distinct.0), lacks_before front back p distinct.1)

pairs-from : (pairs found : Pairs) → ArePlain pairs → AreDistinct (found ++ pairs) → pairs_from (map field_text pairs) found ≡ found ++ pairs
pairs-from [] found plain distinct = sym (append-nil found)
pairs-from (p ∷ pairs) found plain distinct =
    let lacks = lacks_before found pairs p distinct in
    let assoc = append_assoc found (p ∷ []) pairs in
    let rest = pairs-from pairs (found ++ p ∷ []) plain.1 (subst AreDistinct (sym assoc) distinct) in
    ap (λ key. pairs_from (map field_text pairs) (with_field key (text_value (field_text p)) found)) (key-field_text p.0 p.1 plain.0)
    ∙ ap (λ value. pairs_from (map field_text pairs) (with_field p.0 value found)) (value-field_text p.0 p.1 plain.0)
    ∙ ap (λ found. pairs_from (map field_text pairs) found) (with_field_none p.0 p.1 found lacks) ∙ rest ∙ assoc

pub user-spelled : (id : ℕ) (user : Bytes) (fields : Pairs) → id < 2 ^ 32 → ArePlain fields → AreDistinct fields
    → SpellsUser (master_reply_line (User id user fields)) id user fields
unfolding master_reply_line
user-spelled id user fields small plain distinct =
    let more = map field_text fields in
    record {
      numeral = decimal id;
      more = more;
      words = line_fields-spelled (codes "USER") (decimal id ∷ user ∷ more);
      number_is = number_printed id small;
      pairs = pairs-from fields [] plain distinct;
    }
