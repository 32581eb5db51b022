-- A hit is a usable answer, and a usable answer is the hit.
use Rattle.std.proofs.Common.{◌≡◌, refl, sym, ◌∙◌, ap, subst, Option, Some, None, ℕ, ◌-◌, ◌<◌, ◌≤◌, Bool, true, false, cond, not, ◌&&◌, nat_le, ◌==◌, option_and_then, true≢false, arith}
use Rattle.std.proofs.lemmas.Option.{none-some, same_Some}
use Rattle.std.proofs.lemmas.Bool.Decides.{nat_tests}
use Rattle.da_tables.proofs.Cases.{and_first, and_second, at_most, both_true, is_at_most}
use Rattle.da_tables.proofs.Rows.{passing}
use Rattle.da_base.specs.Words.{nth, passes_option}
use Rattle.da_keys.specs.Keys.{has_key}
use Rattle.da_fields.specs.declared.answer.Answer.{Answer}
use Rattle.da_tables.specs.Hits.{IsUsable, hit_for, is_usable, is_usable_answer, may_use, newest}
use Rattle.da_tables.specs.RecordedAnswers.{key_of, ttl_of}
use Rattle.da_request.specs.Requests.{use_comparison}
use Rattle.da_settings.specs.declared.settings.Settings.{Settings}
use Rattle.da_tables.specs.declared.queries.QueryRow.{QueryRow}
use Rattle.da_request.specs.declared.stages.Question.{Question}
use Rattle.da_request.specs.declared.request.Request.{Request}
use Rattle.da_tables.specs.declared.tables.Tables.{Tables}

not_zero : (n : ℕ) → not (n == 0) ≡ true → 0 < n
not_zero n e = grind (arith, nat_tests, e)

zero_not : (n : ℕ) → 0 < n → not (n == 0) ≡ true
zero_not n h = grind (arith, nat_tests, h)

three : (a b c : Bool) → (a && b && c) ≡ true → (a ≡ true) × (b ≡ true) × (c ≡ true)
three true true c e = (refl, refl, e)
three true false c e = absurd (true≢false (sym e))
three false b c e = absurd (true≢false (sym e))

chosen : (b : Bool) (x n : ℕ) → cond b (Some x) None ≡ Some n → (b ≡ true) × (x ≡ n)
chosen true x n e = (refl, same_Some x n e)
chosen false x n e = absurd (none-some n e)

module _ (settings : Settings) (moment : ℕ) (tables : Tables) (r : Request) (q : Question) where
  pub hit_is_usable : (n : ℕ) → hit_for settings moment tables r q ≡ Some n → IsUsable settings moment tables r q n
  unfolding is_usable
  hit_is_usable n e = go (newest tables (key_of q)) refl e
    where
      from : (x : ℕ) → newest tables (key_of q) ≡ Some x → (has_key (key_of q) tables.keys && is_usable settings moment tables r q x) ≡ true → IsUsable settings moment tables r q x
      from x is t =
          let a : (a : QueryRow) × (nth tables.queries x ≡ Some a) × (passes_option (is_usable_answer settings moment r q a) a.answer ≡ true) =
          passing (λ (a : QueryRow). passes_option (is_usable_answer settings moment r q a) a.answer) (nth tables.queries x) (and_second (has_key (key_of q) tables.keys) (is_usable settings moment tables r q x) t) in
          let p : (p : Answer × ℕ) × (a.0.answer ≡ Some p) × (is_usable_answer settings moment r q a.0 p ≡ true) =
          passing (is_usable_answer settings moment r q a.0) a.0.answer a.2 in
          let all : (not (ttl_of settings p.0.0 == 0) ≡ true) × (nat_le (moment - p.0.1) (ttl_of settings p.0.0) ≡ true) × (may_use (use_comparison settings r q p.0.0) a.0.comparisons ≡ true) =
          three (not (ttl_of settings p.0.0 == 0)) (nat_le (moment - p.0.1) (ttl_of settings p.0.0)) (may_use (use_comparison settings r q p.0.0) a.0.comparisons) p.2 in
          record {
            is_cached = and_first (has_key (key_of q) tables.keys) (is_usable settings moment tables r q x) t;
            is_newest = is;
            query = a.0;
            is_there = a.1;
            answer = p.0.0;
            recorded = p.0.1;
            is_answer_recorded = p.1;
            has_ttl = not_zero (ttl_of settings p.0.0) all.0;
            in_time = at_most (moment - p.0.1) (ttl_of settings p.0.0) all.1;
            may = all.2;
          }

      go : (o : Option ℕ) → newest tables (key_of q) ≡ o → option_and_then (λ number. cond (has_key (key_of q) tables.keys && is_usable settings moment tables r q number) (Some number) None) o ≡ Some n → IsUsable settings moment tables r q n
      go None is e = absurd (none-some n e)
      go (Some x) is e =
          let both : ((has_key (key_of q) tables.keys && is_usable settings moment tables r q x) ≡ true) × (x ≡ n) = chosen (has_key (key_of q) tables.keys && is_usable settings moment tables r q x) x n e in
          subst (λ m. IsUsable settings moment tables r q m) both.1 (from x is both.0)

  pub usable_is_hit : (n : ℕ) → IsUsable settings moment tables r q n → hit_for settings moment tables r q ≡ Some n
  unfolding is_usable
  usable_is_hit n u =
      ap (option_and_then (λ number. cond (has_key (key_of q) tables.keys && is_usable settings moment tables r q number) (Some number) None)) u.is_newest
      ∙ ap (λ b. cond b (Some n) None) (both_true (has_key (key_of q) tables.keys) (is_usable settings moment tables r q n) u.is_cached usable)
    where
      answered : is_usable_answer settings moment r q u.query (u.answer, u.recorded) ≡ true
      answered =
          both_true (not (ttl_of settings u.answer == 0) && nat_le (moment - u.recorded) (ttl_of settings u.answer)) (may_use (use_comparison settings r q u.answer) u.query.comparisons)
          (both_true (not (ttl_of settings u.answer == 0)) (nat_le (moment - u.recorded) (ttl_of settings u.answer)) (zero_not (ttl_of settings u.answer) u.has_ttl)
          (is_at_most (moment - u.recorded) (ttl_of settings u.answer) u.in_time)) u.may

      usable : is_usable settings moment tables r q n ≡ true
      usable = ap (passes_option (λ (a : QueryRow). passes_option (is_usable_answer settings moment r q a) a.answer)) u.is_there
          ∙ ap (passes_option (is_usable_answer settings moment r q u.query)) u.is_answer_recorded ∙ answered
