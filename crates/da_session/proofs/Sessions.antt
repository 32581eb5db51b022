-- Lines that are recorded, and more after them.
use Rattle.std.proofs.Common.{◌≡◌, ℕ, suc, ◌+◌, List, [], ◌∷◌, ◌++◌, length, Option, Some, None, refl, sym, ap, ◌∙◌, subst, append-nil, append_assoc, arith}
use Rattle.da_base.specs.Words.{Bytes}
use Rattle.da_outside.specs.Rand.{Draws}
use Rattle.da_play.specs.declared.input.Entry.{Entry}
use Rattle.da_play.specs.declared.input.Input.{Input}
use Rattle.da_play.specs.declared.input.Input.TheVariants.{Line}
use Rattle.da_port.specs.Calls.{Looks, PortSeat}
use Rattle.da_port.specs.declared.terms.Terms.{Terms}
use Rattle.da_session.proofs.Entering.{entry_of, made_later, recorded_gains, recorded_later, recorded_made}
use Rattle.da_session.proofs.Histories.{later_self, later_trans}
use Rattle.da_session.specs.Sessions.{AreLinesThen, IsDraw, IsLineEntry, RecordsLinesThen}
use Rattle.da_session.specs.Bridges.{HasDrawn, IsRecorded}
use Rattle.da_turn.specs.Entries.{IsLater}
use Rattle.da_turn.specs.Seats.{made, seen}

-- ---- draws

same_draw : (f : ℕ → Bytes) (i j : ℕ) → i ≡ j → f i ≡ f j
same_draw f i j e = ap f e

pub drawn_self : (draws : Option (ℕ → Bytes)) → HasDrawn draws draws 0
drawn_self None = tt
drawn_self (Some f) = λ k. same_draw f k (0 + k) (omega arith)

pub drawn_on : (draws mid now : Option (ℕ → Bytes)) (n m : ℕ) → HasDrawn draws mid n → HasDrawn mid now m → HasDrawn draws now (n + m)
drawn_on None mid now n m a b = tt
drawn_on (Some f) None now n m a b = absurd a
drawn_on (Some f) (Some g) None n m a b = absurd b
drawn_on (Some f) (Some g) (Some h) n m a b = λ k. b k ∙ a (m + k) ∙ same_draw f (n + (m + k)) (n + m + k) (omega arith)

pub drawn_one : (draws now : Option (ℕ → Bytes)) (random : Bytes) → Draws draws now random → HasDrawn draws now 1 × IsDraw draws 0 random
drawn_one None now random d = (tt, tt)
drawn_one (Some f) None random d = absurd d
drawn_one (Some f) (Some g) random d = (λ k. d.1 k ∙ same_draw f (suc k) (1 + k) (omega arith), d.0)

-- a draw of those to come is a draw of all
draw_of_all : (draws now : Option (ℕ → Bytes)) (n k all : ℕ) (random : Bytes) → HasDrawn draws now n → n + k ≡ all → IsDraw now k random → IsDraw draws all random
draw_of_all None now n k all random d e i = tt
draw_of_all (Some f) None n k all random d e i = absurd d
draw_of_all (Some f) (Some g) n k all random d e i = i ∙ d k ∙ ap f e

-- those to come after n of them
rest_of : Option (ℕ → Bytes) → ℕ → Option (ℕ → Bytes)
rest_of None n = None
rest_of (Some f) n = Some (λ k. f (n + k))

rest_drawn : (draws : Option (ℕ → Bytes)) (n : ℕ) → HasDrawn draws (rest_of draws n) n
unfolding rest_of
rest_drawn None n = tt
rest_drawn (Some f) n = λ k. refl

-- ---- entries

module _ (terms : Terms) (may_tell : ℕ → Type 0) (conn : ℕ) where
  line_shifted : (draws now : Option (ℕ → Bytes)) (older old seen newer : List Entry) (n k all : ℕ) (line : Bytes) (x : ℕ × Entry)
      → HasDrawn draws now n → n + k ≡ all → IsLater older old → IsLater seen newer
      → IsLineEntry terms may_tell now conn old seen k line x → IsLineEntry terms may_tell draws conn older newer all line x
  line_shifted draws now older old seen newer n k all line x d e back on i =
      record {
        random = i.random;
        drawn = draw_of_all draws now n k all i.random d e i.drawn;
        made = made_later terms may_tell older old seen newer (Line conn line i.random) x back on i.made;
      }

  module _ (draws now : Option (ℕ → Bytes)) (older old seen newer : List Entry) (n : ℕ) (d : HasDrawn draws now n) (back : IsLater older old) (on : IsLater seen newer) where
    shifted : (k all : ℕ) (lines : List Bytes) (end : Option Input) (entries : List (ℕ × Entry)) → n + k ≡ all
        → AreLinesThen terms may_tell now conn old seen k lines end entries → AreLinesThen terms may_tell draws conn older newer all lines end entries
    shifted k all (line ∷ lines) end (x ∷ entries) e are =
        (line_shifted draws now older old seen newer n k all line x d e back on are.0, shifted (suc k) (suc all) lines end entries (omega (arith, e)) are.1)
    shifted k all (line ∷ lines) end [] e are = absurd are
    shifted k all [] (Some end) (x ∷ []) e are = made_later terms may_tell older old seen newer end x back on are
    shifted k all [] (Some end) (x ∷ other ∷ entries) e are = absurd are
    shifted k all [] (Some end) [] e are = absurd are
    shifted k all [] None [] e are = tt
    shifted k all [] None (x ∷ entries) e are = absurd are

  module _ (draws now : Option (ℕ → Bytes)) (old mid newer : List Entry) (n : ℕ) (d : HasDrawn draws now n) (back : IsLater old mid) (on : IsLater mid newer) where
    entries_joined : (k m : ℕ) (lines : List Bytes) (entries : List (ℕ × Entry)) (more : List Bytes) (end : Option Input) (others : List (ℕ × Entry)) → n + m ≡ k + length lines
        → AreLinesThen terms may_tell draws conn old mid k lines None entries → AreLinesThen terms may_tell now conn mid newer m more end others
        → AreLinesThen terms may_tell draws conn old newer k (lines ++ more) end (entries ++ others)
    entries_joined k m (line ∷ lines) (x ∷ entries) more end others e are further = (
      line_shifted draws draws old old mid newer 0 k k line x (drawn_self draws) (omega arith) (later_self old) on are.0,
      entries_joined (suc k) m lines entries more end others (omega (arith, e)) are.1 further,
    )
    entries_joined k m (line ∷ lines) [] more end others e are further = absurd are
    entries_joined k m [] [] more end others e are further =
        shifted draws now old mid newer newer n d back (later_self newer) m k more end others (omega (arith, e)) further
    entries_joined k m [] (x ∷ entries) more end others e are further = absurd are

  -- ---- calls of a seat, one after another

  pub joined : (draws now : Option (ℕ → Bytes)) (s m t : PortSeat) (lines more : List Bytes) (end : Option Input) → HasDrawn draws now (length lines)
      → RecordsLinesThen terms may_tell draws conn s m lines None → RecordsLinesThen terms may_tell now conn m t more end
      → RecordsLinesThen terms may_tell draws conn s t (lines ++ more) end
  joined draws now s m t lines more end d first further =
      record {
        later = later_trans (seen s) (seen m) (seen t) first.later further.later;
        entries = first.entries ++ further.entries;
        gains = further.gains ∙ ap (λ l. l ++ further.entries) first.gains ∙ append_assoc (made s) first.entries further.entries;
        each = entries_joined draws now (seen s) (seen m) (seen t) (length lines) d first.later further.later 0 0 lines first.entries more end further.entries (omega arith) first.each further.each;
      }

  pub nothing_recorded : (draws : Option (ℕ → Bytes)) (s t : PortSeat) → Looks s t → RecordsLinesThen terms may_tell draws conn s t [] None
  nothing_recorded draws s t look = record { later = look.0; entries = []; gains = look.1 ∙ sym (append-nil (made s)); each = tt }

  pub line_recorded : (draws : Option (ℕ → Bytes)) (s t : PortSeat) (line random : Bytes) → IsDraw draws 0 random → IsRecorded terms may_tell s t (Line conn line random)
      → RecordsLinesThen terms may_tell draws conn s t (line ∷ []) None
  line_recorded draws s t line random d r =
      let input = Line conn line random in
      record {
        later = recorded_later terms may_tell s t input r;
        entries = entry_of terms may_tell s t input r ∷ [];
        gains = recorded_gains terms may_tell s t input r;
        each = (record { random = random; drawn = d; made = recorded_made terms may_tell s t input r }, tt);
      }

  end_recorded : (draws : Option (ℕ → Bytes)) (s t : PortSeat) (end : Input) → IsRecorded terms may_tell s t end → RecordsLinesThen terms may_tell draws conn s t [] (Some end)
  end_recorded draws s t end r =
      record {
        later = recorded_later terms may_tell s t end r;
        entries = entry_of terms may_tell s t end r ∷ [];
        gains = recorded_gains terms may_tell s t end r;
        each = recorded_made terms may_tell s t end r;
      }

  -- lines, and then no more
  no_more : (draws now : Option (ℕ → Bytes)) (s m t : PortSeat) (lines : List Bytes) (end : Option Input) → HasDrawn draws now (length lines)
      → RecordsLinesThen terms may_tell draws conn s m lines None → RecordsLinesThen terms may_tell now conn m t [] end
      → RecordsLinesThen terms may_tell draws conn s t lines end
  no_more draws now s m t lines end d first further =
      subst (λ (l : List Bytes). RecordsLinesThen terms may_tell draws conn s t l end) (append-nil lines) (joined draws now s m t lines [] end d first further)

  pub then_look : (draws : Option (ℕ → Bytes)) (s m t : PortSeat) (lines : List Bytes) → RecordsLinesThen terms may_tell draws conn s m lines None → Looks m t
      → RecordsLinesThen terms may_tell draws conn s t lines None
  then_look draws s m t lines first look =
      no_more draws (rest_of draws (length lines)) s m t lines None (rest_drawn draws (length lines)) first (nothing_recorded (rest_of draws (length lines)) m t look)

  pub then_end : (draws : Option (ℕ → Bytes)) (s m t : PortSeat) (lines : List Bytes) (end : Input) → RecordsLinesThen terms may_tell draws conn s m lines None → IsRecorded terms may_tell m t end
      → RecordsLinesThen terms may_tell draws conn s t lines (Some end)
  then_end draws s m t lines end first r =
      no_more draws (rest_of draws (length lines)) s m t lines (Some end) (rest_drawn draws (length lines)) first (end_recorded (rest_of draws (length lines)) m t end r)
