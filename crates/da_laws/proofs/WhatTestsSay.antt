-- What chains of options and the test on late answers say.
use Rattle.std.proofs.Common.{◌≡◌, refl, sym, ◌∙◌, ap, Option, Some, None, Bool, true, false, not, ◌&&◌, is_some, option_and_then, true≢false}
use Rattle.std.proofs.lemmas.Option.{none-some}
use Rattle.da_request.specs.declared.request.Request.{Request}

-- what a chain of options gives, each of them gives
pub chained : {A B : Type 0} (f : A → Option B) (o : Option A) (y : B) → option_and_then f o ≡ Some y → (x : A) × (o ≡ Some x) × (f x ≡ Some y)
chained f None y e = absurd (none-some y e)
chained f (Some x) y e = (x, refl, e)

-- a request that has its late answer, and wasn't timed out, isn't decided
pub late_undecided : (r : Request) → r.is_timed_out ≡ false → (is_some r.decided && not r.is_timed_out) ≡ false → is_some r.decided ≡ false
late_undecided r t = go (is_some r.decided)
  where
    go : (b : Bool) → (b && not r.is_timed_out) ≡ false → b ≡ false
    go true w = absurd (true≢false (sym (ap not t) ∙ w))
    go false w = refl
