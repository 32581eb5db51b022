-- Replies that come due as time passes, by the moments at which they do.
use Rattle.std.proofs.Common.{◌≡◌, refl, ap₂, List, [], ◌∷◌, ℕ, Bool, true, false, not, ◌&&◌, ◌||◌, Option, Some, None, is_some, option_map, nat_le, map, if◌then◌else◌}
use Rattle.std.specs.List.{list_any}
use Rattle.da_base.specs.Words.{passes_option}
use Rattle.da_core.specs.Bridges.{is_reached, next_due}
use Rattle.da_core.specs.Clock.{awaits_time, is_told}
use Rattle.da_request.specs.Requests.{due_from, is_authentication, is_due, is_over_limit, limit_moment}
use Rattle.da_request.specs.declared.request.Request.{Request}
use Rattle.da_settings.specs.declared.settings.Settings.{Settings}

list_any-map : {X Y : Type 0} (p : Y → Bool) (q : X → Bool) (f : X → Y) → ((x : X) → p (f x) ≡ q x) → (xs : List X) → list_any p (map f xs) ≡ list_any q xs
list_any-map p q f same [] = refl
list_any-map p q f same (x ∷ xs) = ap₂ (λ (a b : Bool). a || b) (same x) (list_any-map p q f same xs)

or-false : (b : Bool) → b ≡ (b || false)
or-false true = refl
or-false false = refl

-- by whether it is a client's, when it was decided, whether it is cancelled, when it was replied, when its reply is due, and
-- its limit
by_parts : (client : Bool) (decided : Option ℕ) (cancelled : Bool) (replied : Option ℕ) (due : ℕ → ℕ) (limit moment : ℕ) →
    passes_option (λ m. nat_le m moment)
    (if client && (not cancelled && not (is_some replied) && not (is_some decided)) then Some limit else if not cancelled && not (is_some replied) then option_map due decided else None)
    ≡ ((is_some decided && not cancelled && not (is_some replied) && passes_option (λ m. nat_le m moment) (option_map due decided))
    || ((client && (not cancelled && not (is_some replied) && not (is_some decided))) && nat_le limit moment))
by_parts true None true replied due limit moment = refl
by_parts true None false None due limit moment = refl
by_parts true None false (Some m) due limit moment = refl
by_parts true (Some d) true replied due limit moment = refl
by_parts true (Some d) false None due limit moment = or-false (nat_le (due d) moment)
by_parts true (Some d) false (Some m) due limit moment = refl
by_parts false None true replied due limit moment = refl
by_parts false None false None due limit moment = refl
by_parts false None false (Some m) due limit moment = refl
by_parts false (Some d) true replied due limit moment = refl
by_parts false (Some d) false None due limit moment = or-false (nat_le (due d) moment)
by_parts false (Some d) false (Some m) due limit moment = refl

set_by_parts : (client : Bool) (decided : Option ℕ) (cancelled : Bool) (replied : Option ℕ) (due : ℕ → ℕ) (limit : ℕ) →
    is_some (if client && (not cancelled && not (is_some replied) && not (is_some decided)) then Some limit else if not cancelled && not (is_some replied) then option_map due decided else None)
    ≡ ((is_some decided && not cancelled && not (is_some replied)) || (client && (not cancelled && not (is_some replied) && not (is_some decided))))
set_by_parts true None true replied due limit = refl
set_by_parts true None false None due limit = refl
set_by_parts true None false (Some m) due limit = refl
set_by_parts true (Some d) true replied due limit = refl
set_by_parts true (Some d) false None due limit = refl
set_by_parts true (Some d) false (Some m) due limit = refl
set_by_parts false None true replied due limit = refl
set_by_parts false None false None due limit = refl
set_by_parts false None false (Some m) due limit = refl
set_by_parts false (Some d) true replied due limit = refl
set_by_parts false (Some d) false None due limit = refl
set_by_parts false (Some d) false (Some m) due limit = refl

reached_is_told : (settings : Settings) (moment : ℕ) (r : Request) → is_reached moment (next_due settings r) ≡ is_told settings moment r
unfolding is_due is_over_limit
reached_is_told settings moment r = by_parts (is_authentication r.body) r.decided r.is_cancelled r.replied (due_from settings r) (limit_moment settings r) moment

set_is_awaited : (settings : Settings) (r : Request) → is_some (next_due settings r) ≡ awaits_time r
set_is_awaited settings r = set_by_parts (is_authentication r.body) r.decided r.is_cancelled r.replied (due_from settings r) (limit_moment settings r)

-- one of the moments is reached where an entry then replies
pub one_is_told : (settings : Settings) (moment : ℕ) (rs : List Request) → list_any (is_reached moment) (map (next_due settings) rs) ≡ list_any (is_told settings moment) rs
one_is_told settings moment rs = list_any-map (is_reached moment) (is_told settings moment) (next_due settings) (reached_is_told settings moment) rs

-- there is a moment where a reply is held back, or a limit still to come
pub one_is_awaited : (settings : Settings) (rs : List Request) → list_any is_some (map (next_due settings) rs) ≡ list_any awaits_time rs
one_is_awaited settings rs = list_any-map is_some awaits_time (next_due settings) (set_is_awaited settings) rs
