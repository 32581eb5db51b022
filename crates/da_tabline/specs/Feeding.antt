-- What a feed of a cutter does.
use Rattle.std.specs.Prelude.{◌≡◌, Bool, true, false, List, [], ◌∷◌, ◌++◌, Result, Ok, Err}
use Rattle.da_base.specs.Words.{Bytes}
use Rattle.da_tabline.specs.Lines.{Cutter, after_feed}
use Rattle.da_tabline.specs.declared.cutter.LineFault.{LineFault}
use Rattle.da_tabline.specs.declared.cutter.LineFault.TheVariants.{TooLong, NoMemory}

-- the bytes are taken in, and the answer tells whether too long a line came, now or earlier; where memory is wanted
-- nothing changes
abbrev pub Feeds : Cutter → Bytes → Cutter → Result (Unit {0}) LineFault → Type 0
Feeds old bytes new (Ok done) = (new ≡ after_feed old bytes) × (new.is_long ≡ false)
Feeds old bytes new (Err TooLong) = (new ≡ after_feed old bytes) × (new.is_long ≡ true)
Feeds old bytes new (Err NoMemory) = new ≡ old

-- the open line ends as whole, and then these lines come, and this open line
abbrev pub Keeps : Cutter → Bytes → List Bytes → Bytes → Bool → Cutter → Result (Unit {0}) LineFault → Type 0
Keeps old whole lines rest is_long new (Ok done) =
    (new ≡ record { max = old.max; ready = (old.ready ++ whole ∷ []) ++ lines; rest = rest; is_long = is_long }) × (is_long ≡ false)
Keeps old whole lines rest is_long new (Err TooLong) =
    (new ≡ record { max = old.max; ready = (old.ready ++ whole ∷ []) ++ lines; rest = rest; is_long = is_long }) × (is_long ≡ true)
Keeps old whole lines rest is_long new (Err NoMemory) = new ≡ old
