-- What a receive takes from the bytes of a link in memory.
use Rattle.std.proofs.Common.{◌≡◌, ℕ, ◌+◌, ◌-◌, ◌<◌, ◌≤◌, min, List, [], ◌∷◌, ◌++◌, length, take, drop, refl, sym, subst, arith, length-take, length-drop, Some, Ok, Err, IfSome}
use Rattle.std.proofs.lemmas.List.{take_all, take-append-drop}
use Rattle.std.specs.Prelude.{Result, Vec}
use Rattle.std.specs.declared.alloc.Global.{Global}
use Rattle.da_outside.specs.declared.faults.GetFault.{GetFault}
use Rattle.da_outside.specs.declared.faults.GetFault.TheVariants.{Failed, Long as TooMany, NoMemory}
use Rattle.da_outside.specs.declared.faults.Got.{Got}
use Rattle.da_outside.specs.declared.faults.Got.TheVariants.{Given}
use Rattle.da_outside.specs.declared.rest.Ahead.{Ahead}
use Rattle.da_outside.specs.declared.rest.Ahead.TheVariants.{Line, Long, End}
use Rattle.da_outside.specs.Got.{got_of}
use Rattle.da_outside.specs.Link.{IsLine, Receives, TooLongTaken}
use Rattle.da_outside.specs.Rest.{BeginsWithLine, IsCutLine, LacksEnd, Shows, got_ahead, taken_ahead}

-- a loop over the first m bytes found no LF
module _ (bytes : List ℕ) (m at : ℕ) (near : m ≡ min (length bytes) 8193) (past : length (take m bytes) ≤ at) (no_end : LacksEnd (take at (take m bytes))) where
  length_near : length (take m bytes) ≡ m
  length_near = simp length-take (omega arith)

  none_near : LacksEnd (take m bytes)
  none_near = let P : List ℕ → Type 0 = LacksEnd in subst P (take_all at (take m bytes) past) no_end

  pub shows_long : 8192 < length (take m bytes) → Shows bytes Long
  shows_long more =
      let m_is : m ≡ 8193 = omega (arith, length_near) in
      let P : ℕ → Type 0 = λ n. LacksEnd (take n bytes) in
      (omega (arith, length_near), subst P m_is none_near)

  pub cut_line : length (take m bytes) ≤ 8192 → IsCutLine bytes
  cut_line few =
      let all : length bytes ≤ m = omega (arith, length_near) in
      let P : List ℕ → Type 0 = LacksEnd in
      record { short = omega (arith, length_near); no_end = subst P (take_all m bytes all) none_near }

-- bytes that stand for a line give it
line_taken : (bytes : List ℕ) (n : ℕ) (line : List ℕ) → BeginsWithLine bytes n → line ≡ take n bytes → IsLine line × (bytes ≡ (line ++ 10 ∷ []) ++ drop (n + 1) bytes)
line_taken bytes n line begins is =
    let P : List ℕ → Type 0 = λ xs. IsLine xs × (bytes ≡ (xs ++ 10 ∷ []) ++ drop (n + 1) bytes) in
    subst P (sym is) (record { short = simp length-take (omega (arith, begins.short)); ends_after = begins.no_end }, begins.cut)

given_is : (xs ys : List ℕ) → Given xs ≡ Given ys → xs ≡ ys
given_is xs ys is = cc

pub long_taken : (bytes now : List ℕ) → Shows bytes Long → now ≡ drop 8193 bytes → TooLongTaken (Some bytes) (Some now)
long_taken bytes now shows is = record { front = take 8193 bytes; long = simp length-take (omega (arith, shows.0)); no_end = shows.1; taken = rw is (sym (take-append-drop 8193 bytes)) }

-- what is given and what is taken belong together
pub receives_shown : (bytes : List ℕ) (ahead : Ahead) (result : Result (Vec ℕ Global) GetFault) (got : Got) → Shows bytes ahead → got_of result ≡ Some got → IfSome (got_of result) (λ given. given ≡ got_ahead bytes ahead) → Receives (Some bytes) (Some (drop (taken_ahead ahead) bytes)) result
receives_shown bytes (Line n) (Ok line) got shows is given = line_taken bytes n line.items shows (given_is line.items (take n bytes) given)
receives_shown bytes (Line n) (Err TooMany) got shows is given = absurd (cc)
receives_shown bytes (Line n) (Err Failed) got shows is given = absurd (cc)
receives_shown bytes (Line n) (Err NoMemory) got shows is given = absurd (cc)
receives_shown bytes Long (Ok line) got shows is given = absurd (cc)
receives_shown bytes Long (Err TooMany) got shows is given = long_taken bytes (drop 8193 bytes) shows refl
receives_shown bytes Long (Err Failed) got shows is given = absurd (cc)
receives_shown bytes Long (Err NoMemory) got shows is given = absurd (cc)
receives_shown bytes End (Ok line) got shows is given = absurd (cc)
receives_shown bytes End (Err TooMany) got shows is given = absurd (cc)
receives_shown bytes End (Err Failed) got shows is given = refl
receives_shown bytes End (Err NoMemory) got shows is given = absurd (cc)

-- the slice behind an index
pub left_slice : (xs : List ℕ) (at : ℕ) → take (length xs - at) (drop at xs) ≡ drop at xs
left_slice xs at = take_all (length xs - at) (drop at xs) (omega (arith, length-drop at xs))
