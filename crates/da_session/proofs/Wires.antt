-- The bytes to a connection stay, and more come after them.
use Rattle.std.proofs.Common.{◌≡◌, ℕ, ◌≤◌, List, [], ◌∷◌, ◌++◌, length, take, sym, ap, ◌∙◌, append-nil, append_assoc, arith}
use Rattle.std.proofs.lemmas.List.{length-append, take-append-le}
use Rattle.da_base.specs.Words.{Bytes}
use Rattle.da_outbox.specs.Outboxes.{bytes_to}
use Rattle.da_outbox.proofs.Lines.{bytes_to-append}
use Rattle.da_play.specs.Effects.{all_lines, entry_lines, wire}
use Rattle.da_play.specs.declared.input.Entry.{Entry}
use Rattle.da_settings.specs.declared.settings.Settings.{Settings}
use Rattle.da_turn.specs.Entries.{IsLater}

module _ (settings : Settings) (conn : ℕ) where
  after_more : (more h : List Entry) → (rest : Bytes) × (wire settings (more ++ h) conn ≡ wire settings h conn ++ rest)
  after_more [] h = ([], sym (append-nil (wire settings h conn)))
  after_more (e ∷ more) h =
      let earlier = after_more more h in
      let rest = bytes_to conn (entry_lines settings e (more ++ h)) in (
        earlier.0 ++ rest,
        bytes_to-append conn (all_lines settings (more ++ h)) (entry_lines settings e (more ++ h))
            ∙ ap (λ (b : Bytes). b ++ rest) earlier.1 ∙ append_assoc (wire settings h conn) earlier.0 rest,
      )

  pub wire_later : (h g : List Entry) → IsLater h g → (rest : Bytes) × (wire settings g conn ≡ wire settings h conn ++ rest)
  wire_later h g l =
      let more = after_more l.0 h in
      (more.0, ap (λ (x : List Entry). wire settings x conn) l.1 ∙ more.1)

  -- what stands before a place stays there
  pub front_later : (h g : List Entry) (n : ℕ) → IsLater h g → n ≤ length (wire settings h conn) → (take n (wire settings g conn) ≡ take n (wire settings h conn)) × (n ≤ length (wire settings g conn))
  front_later h g n l within =
      let more = wire_later h g l in (
        ap (take n) more.1 ∙ take-append-le n (wire settings h conn) more.0 within,
        omega (arith, within, ap (λ (b : Bytes). length b) more.1, length-append (wire settings h conn) more.0),
      )
