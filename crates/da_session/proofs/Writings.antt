-- Writing that goes on, and its ends.
use Rattle.std.proofs.Common.{◌≡◌, ℕ, ◌+◌, ◌≤◌, true, ◌++◌, length, take, drop, nat_le, sym, ap, ◌∙◌, subst, append_assoc, arith, take-append-drop}
use Rattle.std.specs.Io.KnownBytes.{Appends}
use Rattle.std.proofs.KnownBytes.{Appends-nil, Appends-trans}
use Rattle.std.proofs.lemmas.List.{length-drop, length-take-le, take_all}
use Rattle.std.proofs.Math.Seq.{take-append-add, take-append_seam}
use Rattle.std.proofs.lemmas.Bool.{leb-true}
use Rattle.da_base.specs.Words.{Bytes}
use Rattle.da_core.specs.Outgoing.{TakesLines, has_ended}
use Rattle.da_core.specs.declared.outgoing.Taken.{Taken}
use Rattle.da_outside.specs.Sink.{SinkState}
use Rattle.da_port.specs.Calls.{Looks, PortSeat}
use Rattle.da_port.specs.Terms.{served_on}
use Rattle.da_port.specs.declared.terms.Terms.{Terms}
use Rattle.da_session.proofs.Entering.{look_on, look_self}
use Rattle.da_session.proofs.Readings.{rose_later}
use Rattle.da_session.proofs.Wires.{front_later}
use Rattle.da_session.specs.Writing.{WritesConn, wire_seen}
use Rattle.da_session.specs.declared.ends.WriteEnd.TheVariants.{Cut, Ended}
use Rattle.da_stream.specs.Output.{WrittenFront, WrittenWhole}
use Rattle.da_tables.proofs.Cases.{and_first, and_second}
use Rattle.da_turn.specs.Seats.{seen}

-- the sink took the connection's bytes before this place
pub record Writing (terms : Terms) (conn : ℕ) (before at : SinkState) (s t : PortSeat) (place : ℕ) : Type 0 where
  pub looks : Looks s t
  pub within : place ≤ length (wire_seen terms conn t)
  pub written : Appends before.contents at.contents (take place (wire_seen terms conn t))
  pub later : before.faults ≤ at.faults

pub writing_none : (terms : Terms) (conn : ℕ) (at : SinkState) (s : PortSeat) → Writing terms conn at at s s 0
writing_none terms conn at s = record { looks = look_self s; within = omega arith; written = Appends-nil at.contents; later = omega arith }

-- the bytes before a place, and n from it on
seam : (n place : ℕ) (bytes : Bytes) → place ≤ length bytes → take place bytes ++ take n (drop place bytes) ≡ take (place + n) bytes
seam n place bytes within =
    sym (take-append-add (take place bytes) (drop place bytes) n)
    ∙ ap (λ k. take (k + n) (take place bytes ++ drop place bytes)) (length-take-le place bytes within)
    ∙ ap (take (place + n)) (take-append-drop place bytes)

-- a front of the bytes from a place on
split_at_front : (place count : ℕ) (bytes front rest : Bytes) → take count (drop place bytes) ≡ front ++ rest → bytes ≡ (take place bytes ++ front) ++ (rest ++ drop count (drop place bytes))
split_at_front place count bytes front rest e =
    sym (take-append-drop place bytes)
    ∙ ap (λ l. take place bytes ++ l) (sym (take-append-drop count (drop place bytes)) ∙ ap (λ l. l ++ drop count (drop place bytes)) e ∙ append_assoc front rest (drop count (drop place bytes)))
    ∙ sym (append_assoc (take place bytes) front (rest ++ drop count (drop place bytes)))

module _ {terms : Terms} {conn : ℕ} {before at : SinkState} {s t : PortSeat} {place : ℕ} (w : Writing terms conn before at s t place)
    (u : PortSeat) (look : Looks t u) (old buf : Bytes) (taken : Taken) (takes : TakesLines (served_on terms (seen u)) conn place old buf taken) where
  abbrev bytes : Bytes
  bytes = wire_seen terms conn u

  place_within : place ≤ length bytes
  place_within = (front_later terms.settings conn (seen t) (seen u) place look.0 w.within).1

  count_within : taken.count ≤ length (drop place bytes)
  count_within = omega (arith, takes.count, length-drop place bytes)

  -- what is in the front of the buffer
  piece : take taken.count buf ≡ take taken.count (drop place bytes)
  piece =
      let copied = take taken.count (drop place bytes) in
      ap (λ k. take k buf) (sym (length-take-le taken.count (drop place bytes) count_within)) ∙ ap (take (length copied)) takes.copied
      ∙ take-append_seam copied (drop taken.count old)

  before_it : Appends before.contents at.contents (take place bytes)
  before_it = subst (Appends before.contents at.contents) (sym (front_later terms.settings conn (seen t) (seen u) place look.0 w.within).0) w.written

  written_on : (after : SinkState) → WrittenWhole (take taken.count buf) at after → Appends before.contents after.contents (take (place + taken.count) bytes)
  written_on after whole =
      subst (Appends before.contents after.contents) (ap (λ l. take place bytes ++ l) piece ∙ seam taken.count place bytes place_within)
      (Appends-trans before.contents at.contents after.contents (take place bytes) (take taken.count buf) before_it whole.writes)

  pub writing_more : (after : SinkState) → WrittenWhole (take taken.count buf) at after → Writing terms conn before after s u (place + taken.count)
  writing_more after whole =
      record {
        looks = look_on s t u w.looks look;
        within = omega (arith, place_within, takes.count);
        written = written_on after whole;
        later = let one = w.later in let two = whole.later in omega arith;
      }

  pub writes_ended : (after : SinkState) → WrittenWhole (take taken.count buf) at after → taken.ended ≡ true → WritesConn terms conn before after s u Ended
  writes_ended after whole ended =
      let both = sym takes.ended ∙ ended in
      let all : length bytes ≤ place + taken.count = leb-true (length bytes) (place + taken.count) (and_second (has_ended (served_on terms (seen u)) conn) (nat_le (length bytes) (place + taken.count)) both) in (
        look_on s t u w.looks look,
        and_first (has_ended (served_on terms (seen u)) conn) (nat_le (length bytes) (place + taken.count)) both,
        subst (Appends before.contents after.contents) (take_all (place + taken.count) bytes all) (written_on after whole),
      )

  pub writes_cut : (after : SinkState) → WrittenFront (take taken.count buf) at after → WritesConn terms conn before after s u Cut
  writes_cut after cut = (
    look_on s t u w.looks look,
    record {
      front = take place bytes ++ cut.front;
      rest = cut.begins.rest ++ drop taken.count (drop place bytes);
      is_front = split_at_front place taken.count bytes cut.front cut.begins.rest (sym piece ∙ cut.begins.is_whole);
      written = Appends-trans before.contents at.contents after.contents (take place bytes) cut.front before_it cut.writes;
    },
    rose_later before.faults at.faults after.faults w.later cut.rose,
  )
