-- A history that has ended has ended however it goes on.
use Rattle.std.proofs.Common.{◌≡◌, ℕ, ◌≤◌, true, ◌||◌, nat_le, List, [], ◌∷◌, ◌++◌, length, sym, ap, ◌∙◌, subst, inl, inr, append_assoc, arith}
use Rattle.std.proofs.lemmas.Bool.Decides.{nat_tests}
use Rattle.da_play.specs.Legal.{is_full, size}
use Rattle.da_play.specs.declared.input.Entry.{Entry}
use Rattle.da_port.specs.declared.terms.Terms.{Terms}
use Rattle.da_settings.specs.declared.settings.Settings.{Settings}
use Rattle.da_turn.specs.Entries.{IsLater}
use Rattle.da_finish.specs.Printed.{HasEnded}

later_trans : (f g h : List Entry) → IsLater f g → IsLater g h → IsLater f h
later_trans f g h p q = (q.0 ++ p.0, q.1 ∙ ap (λ l. q.0 ++ l) p.1 ∙ sym (append_assoc q.0 p.0 f))

-- ---- a history that goes on

length_grows : (more h : List Entry) → length h ≤ length (more ++ h)
length_grows [] h = omega arith
length_grows (e ∷ more) h = let shorter = length_grows more h in omega arith

size_grows : (settings : Settings) (more h : List Entry) → size settings h ≤ size settings (more ++ h)
size_grows settings [] h = omega arith
size_grows settings (e ∷ more) h = let smaller = size_grows settings more h in omega arith

limits_stay : (a b n m p q : ℕ) → n ≤ p → m ≤ q → (nat_le a n || nat_le b m) ≡ true → (nat_le a p || nat_le b q) ≡ true
limits_stay a b n m p q longer larger full = grind (arith, nat_tests, longer, larger, full)

full_grows : (settings : Settings) (more h : List Entry) → is_full settings h ≡ true → is_full settings (more ++ h) ≡ true
full_grows settings more h full =
    limits_stay settings.history_entries settings.history_bytes (length h) (size settings h) (length (more ++ h)) (size settings (more ++ h))
    (length_grows more h) (size_grows settings more h) full

full_stays : (settings : Settings) (g h : List Entry) → IsLater g h → is_full settings g ≡ true → is_full settings h ≡ true
full_stays settings g h later full = subst (λ xs. is_full settings xs ≡ true) (sym later.1) (full_grows settings later.0 g full)

pub ended_stays : (terms : Terms) (g h : List Entry) → IsLater g h → HasEnded terms g → HasEnded terms h
ended_stays terms g h later (inl full) = inl (full_stays terms.settings g h later full)
ended_stays terms g h later (inr was) = inr (record { before = was.before; later = later_trans was.before g h was.later later; over = was.over })
