-- Reading that goes on, and why it stops.
use Rattle.std.proofs.Common.{◌≡◌, ℕ, ◌≤◌, Bool, true, false, List, [], ◌++◌, length, Option, Some, None, refl, sym, ap, ◌∙◌, subst, append_assoc, arith}
use Rattle.std.specs.Io.KnownBytes.{Consumes}
use Rattle.std.proofs.KnownBytes.{Consumes-kept, Consumes-nil, Consumes-trans}
use Rattle.std.proofs.lemmas.List.{length-append}
use Rattle.da_base.specs.Words.{Bytes}
use Rattle.da_outside.specs.Causes.{Rose}
use Rattle.da_outside.specs.Source.{SourceState}
use Rattle.da_port.specs.Calls.{PortSeat}
use Rattle.da_port.specs.declared.terms.Terms.{Terms}
use Rattle.da_session.proofs.Cuts.{fed_idle, fed_long, fed_ready, idle_cutter, idle_new, nothing_cut, nothing_long}
use Rattle.da_session.proofs.Entering.{look_self}
use Rattle.da_session.proofs.Sessions.{drawn_on, drawn_self, joined, nothing_recorded}
use Rattle.da_session.specs.Reading.{RecordsFirst}
use Rattle.da_session.specs.Sessions.{RecordsLinesThen}
use Rattle.da_session.specs.Bridges.{HasDrawn, RecordsSome, StopsLines, StopsReading}
use Rattle.da_session.specs.declared.lines.Stop.{Stop}
use Rattle.da_session.specs.declared.lines.Stop.TheVariants.{Closed, End, Fault, Full, NoMemory, TooLong}
use Rattle.da_stream.specs.Fill.{FeedsBytes, FindsEnd, FindsFault, ReadsSome}
use Rattle.da_tabline.specs.Lines.{Cutter, after_feed, line_cut, new_cutter}

-- the whole lines of the bytes given so far are recorded, and the cutter holds the open line
pub record Reading (terms : Terms) (may_tell : ℕ → Type 0) (draws now : Option (ℕ → Bytes)) (conn : ℕ) (before at : SourceState) (s t : PortSeat) (cutter : Cutter) : Type 0 where
  pub bytes : Bytes
  pub gives : Consumes before.left at.left bytes
  pub later : before.faults ≤ at.faults
  pub short : (line_cut 8192 bytes).is_long ≡ false
  pub holds : cutter ≡ idle_cutter 8192 bytes
  pub drawn : HasDrawn draws now (length (line_cut 8192 bytes).lines)
  pub records : RecordsLinesThen terms may_tell draws conn s t (line_cut 8192 bytes).lines None

pub reading_none : (terms : Terms) (may_tell : ℕ → Type 0) (draws : Option (ℕ → Bytes)) (conn : ℕ) (at : SourceState) (s : PortSeat) (cutter : Cutter) → cutter ≡ new_cutter 8192
    → Reading terms may_tell draws draws conn at at s s cutter
reading_none terms may_tell draws conn at s cutter new =
    record {
      bytes = [];
      gives = Consumes-nil at.left;
      later = omega arith;
      short = nothing_long 8192;
      holds = new ∙ sym (idle_new 8192);
      drawn = subst (λ (l : List Bytes). HasDrawn draws draws (length l)) (sym (nothing_cut 8192)) (drawn_self draws);
      records = subst (λ (l : List Bytes). RecordsLinesThen terms may_tell draws conn s s l None) (sym (nothing_cut 8192)) (nothing_recorded terms may_tell conn draws s s (look_self s));
    }

pub rose_later : (a b c : ℕ) → a ≤ b → Rose b c → Rose a c
rose_later a b c l r = omega (arith, l, r)

module _ {terms : Terms} {may_tell : ℕ → Type 0} {draws now : Option (ℕ → Bytes)} {conn : ℕ} {before at : SourceState} {s t : PortSeat} {cutter : Cutter}
    (r : Reading terms may_tell draws now conn before at s t cutter) where
  pub going : cutter.is_long ≡ false
  going = ap (λ (c : Cutter). c.is_long) r.holds ∙ r.short

  -- ---- nothing more was read

  pub stops_end : (after : SourceState) → FindsEnd at after → StopsReading terms may_tell draws conn before after s t End
  stops_end after finds =
      (record { bytes = r.bytes; gives = Consumes-kept before.left at.left after.left r.bytes r.gives finds.keeps; is_so_long = r.short; records = r.records }, finds.ended)

  pub stops_fault : (after : SourceState) → FindsFault at after → StopsReading terms may_tell draws conn before after s t Fault
  stops_fault after finds = (
    record { bytes = r.bytes; gives = Consumes-kept before.left at.left after.left r.bytes r.gives finds.keeps; is_so_long = r.short; records = r.records },
    rose_later before.faults at.faults after.faults r.later finds.rose,
  )

  -- the lines of more bytes begin with those recorded
  more_cut : (more : Bytes) → (line_cut 8192 (r.bytes ++ more)).lines ≡ (line_cut 8192 r.bytes).lines ++ (after_feed (idle_cutter 8192 r.bytes) more).ready
  more_cut more = fed_ready 8192 r.bytes more r.short (after_feed (idle_cutter 8192 r.bytes) more) refl

  pub stops_unfed : (after : SourceState) (budget : ℕ) → ReadsSome budget at after → StopsReading terms may_tell draws conn before after s t NoMemory
  stops_unfed after budget some =
      record {
        bytes = r.bytes ++ some.bytes;
        gives = Consumes-trans before.left at.left after.left r.bytes some.bytes r.gives some.reads;
        lines = (line_cut 8192 r.bytes).lines;
        others = (after_feed (idle_cutter 8192 r.bytes) some.bytes).ready;
        are_lines = more_cut some.bytes;
        records = r.records;
      }

  -- ---- more was read and fed, and lines were recorded

  module _ (after : SourceState) (fed : Cutter) (budget count : ℕ) (is_long : Bool) (feeds : FeedsBytes at after cutter fed budget count is_long) (new : Option (ℕ → Bytes)) (u : PortSeat) where
    fed_so : fed ≡ after_feed (idle_cutter 8192 r.bytes) feeds.bytes
    fed_so = feeds.fed ∙ ap (λ (c : Cutter). after_feed c feeds.bytes) r.holds

    gives_more : Consumes before.left after.left (r.bytes ++ feeds.bytes)
    gives_more = Consumes-trans before.left at.left after.left r.bytes feeds.bytes r.gives feeds.reads

    lines_more : (line_cut 8192 (r.bytes ++ feeds.bytes)).lines ≡ (line_cut 8192 r.bytes).lines ++ fed.ready
    lines_more = fed_ready 8192 r.bytes feeds.bytes r.short fed fed_so

    first_of : RecordsSome terms may_tell now conn t u fed.ready → RecordsFirst terms may_tell draws conn before after s u None
    first_of some =
        record {
          bytes = r.bytes ++ feeds.bytes;
          gives = gives_more;
          lines = (line_cut 8192 r.bytes).lines ++ some.lines;
          others = some.others;
          are_lines = lines_more ∙ ap (λ l. (line_cut 8192 r.bytes).lines ++ l) some.are_lines ∙ sym (append_assoc (line_cut 8192 r.bytes).lines some.lines some.others);
          records = joined terms may_tell conn draws now s t u (line_cut 8192 r.bytes).lines some.lines None r.drawn r.records some.records;
        }

    pub stops_at : (stop : Stop) → StopsLines terms may_tell now new conn t u fed.ready (Some stop) → StopsReading terms may_tell draws conn before after s u stop
    stops_at Closed stops = (first_of stops.0, stops.1.0, stops.1.1)
    stops_at Full stops = (first_of stops.0, stops.1.0, stops.1.1)
    stops_at NoMemory stops = first_of stops.0
    stops_at TooLong stops = absurd stops.1
    stops_at End stops = absurd stops.1
    stops_at Fault stops = absurd stops.1

    all_recorded : StopsLines terms may_tell now new conn t u fed.ready None → RecordsLinesThen terms may_tell draws conn s u (line_cut 8192 (r.bytes ++ feeds.bytes)).lines None
    all_recorded all =
        subst (λ (l : List Bytes). RecordsLinesThen terms may_tell draws conn s u l None) (sym lines_more)
        (joined terms may_tell conn draws now s t u (line_cut 8192 r.bytes).lines fed.ready None r.drawn r.records all.0)

    long_so : is_long ≡ (line_cut 8192 (r.bytes ++ feeds.bytes)).is_long
    long_so = feeds.long ∙ fed_long 8192 r.bytes feeds.bytes r.short fed fed_so

    pub stops_long : is_long ≡ true → StopsLines terms may_tell now new conn t u fed.ready None → StopsReading terms may_tell draws conn before after s u TooLong
    stops_long long all = record { bytes = r.bytes ++ feeds.bytes; gives = gives_more; is_so_long = sym long_so ∙ long; records = all_recorded all }

    pub reading_more : is_long ≡ false → StopsLines terms may_tell now new conn t u fed.ready None → (left : Cutter) → left ≡ record fed { ready = [] }
        → Reading terms may_tell draws new conn before after s u left
    reading_more short all left taken =
        record {
          bytes = r.bytes ++ feeds.bytes;
          gives = gives_more;
          later = let one = r.later in let two = feeds.later in omega arith;
          short = sym long_so ∙ short;
          holds = fed_idle 8192 r.bytes feeds.bytes r.short fed left fed_so taken;
          drawn =
              subst (λ (l : List Bytes). HasDrawn draws new (length l)) (sym lines_more)
              (subst (HasDrawn draws new) (sym (length-append (line_cut 8192 r.bytes).lines fed.ready))
              (drawn_on draws now new (length (line_cut 8192 r.bytes).lines) (length fed.ready) r.drawn all.1));
          records = all_recorded all;
        }
