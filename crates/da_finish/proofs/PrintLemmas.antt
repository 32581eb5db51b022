-- The print of a history, piece by piece.
use Rattle.std.proofs.Common.{◌≡◌, ℕ, ◌<◌, ◌≤◌, ◌+◌, get_or, length, List, [], ◌∷◌, ◌++◌, take, drop, reverse, sym, ap, ◌∙◌, subst, append-nil, append_assoc, arith}
use Rattle.std.proofs.lemmas.List.{reverse-append, take-append-drop, take_more}
use Rattle.std.specs.Io.KnownBytes.{Appends}
use Rattle.std.proofs.KnownBytes.{Appends-trans}
use Rattle.da_base.specs.Words.{Bytes}
use Rattle.da_command.specs.declared.status.Status.{Status}
use Rattle.da_outside.specs.Sink.{SinkState}
use Rattle.da_play.specs.declared.input.Entry.{Entry}
use Rattle.da_play.specs.Legal.{IsLegal}
use Rattle.da_play.specs.Served.{Served}
use Rattle.da_port.specs.Terms.{terms_of}
use Rattle.da_port.specs.declared.terms.Terms.{Terms}
use Rattle.da_script.specs.Scripts.{script}
use Rattle.da_stream.specs.Output.{Begins, WrittenFront, WrittenWhole}
use Rattle.da_finish.specs.declared.finish.Written.{Written}
use Rattle.da_finish.specs.declared.finish.Written.TheVariants.{Whole, Fault, NoMemory as WantsMemory}
use Rattle.da_finish.specs.Bridges.{WritesScript, entry_line}
use Rattle.da_finish.specs.Printed.{Finishes, HasEnded, Prints, WrittenPart}
use Rattle.da_finish.proofs.Ends.{ended_stays}
use Rattle.da_turn.specs.Entries.{IsLater}

-- So far: of the script of some entries a front was written, and the rest is held.
pub record Printing (h : List Entry) (held : Bytes) (before now : SinkState) : Type 0 where
  pub front : Bytes
  pub is_script : script h ≡ front ++ held
  pub writes : Appends before.contents now.contents front
  pub later : before.faults ≤ now.faults

-- one entry further, the newest first
pub front_further : (entries : List Entry) (i : ℕ) (e : Entry) → i < length entries → get_or entries i e ≡ e
    → reverse (take (i + 1) entries) ≡ e ∷ reverse (take i entries)
front_further entries i e more here =
    ap reverse (take_more entries i e more) ∙ reverse-append (take i entries) (get_or entries i e ∷ []) ∙ ap (λ x. x ∷ reverse (take i entries)) here

-- ---- a script goes on

script_goes_on : (more h : List Entry) → Begins (script h) (script (more ++ h))
script_goes_on [] h = record { rest = []; is_whole = sym (append-nil (script h)) }
script_goes_on (e ∷ more) h =
    let front = script_goes_on more h in
    record { rest = front.rest ++ entry_line e; is_whole = ap (λ t. t ++ entry_line e) front.is_whole ∙ append_assoc (script h) front.rest (entry_line e) }

pub script_of_front : (entries : List Entry) (i : ℕ) → Begins (script (reverse (take i entries))) (script (reverse entries))
script_of_front entries i =
    subst (λ all. Begins (script (reverse (take i entries))) (script all))
    (sym (reverse-append (take i entries) (drop i entries)) ∙ ap reverse (take-append-drop i entries))
    (script_goes_on (reverse (drop i entries)) (reverse (take i entries)))

begins_further : (a b c : Bytes) → Begins a b → Begins b c → Begins a c
begins_further a b c first second =
    record { rest = first.rest ++ second.rest; is_whole = second.is_whole ∙ ap (λ t. t ++ second.rest) first.is_whole ∙ append_assoc a first.rest second.rest }

-- ---- one entry more, and the ends

module _ (before : SinkState) (h : List Entry) (held : Bytes) (now : SinkState) (run : Printing h held before now) where
  -- the script with one entry more
  more_is : (e : Entry) (text : Bytes) → text ≡ held ++ entry_line e → script (e ∷ h) ≡ run.front ++ text
  more_is e text same =
      ap (λ t. t ++ entry_line e) run.is_script ∙ append_assoc run.front held (entry_line e) ∙ ap (λ t. run.front ++ t) (sym same)

  pub printing_more : (e : Entry) (text rest front : Bytes) (new : SinkState) → text ≡ held ++ entry_line e → text ≡ front ++ rest
      → WrittenWhole front now new → Printing (e ∷ h) rest before new
  printing_more e text rest front new same cut writes =
      record {
        front = run.front ++ front;
        is_script = more_is e text same ∙ ap (λ t. run.front ++ t) cut ∙ sym (append_assoc run.front front rest);
        writes = Appends-trans before.contents now.contents new.contents run.front front run.writes writes.writes;
        later = let one = run.later in let two = writes.later in omega arith;
      }

  pub printing_fault : (e : Entry) (text : Bytes) (all : Bytes) (new : SinkState) → text ≡ held ++ entry_line e → Begins (script (e ∷ h)) all
      → WrittenFront text now new → WrittenFront all before new
  printing_fault e text all new same begins writes =
      record {
        front = run.front ++ writes.front;
        begins = begins_further (run.front ++ writes.front) (script (e ∷ h)) all
            (record {
              rest = writes.begins.rest;
              is_whole = more_is e text same ∙ ap (λ t. run.front ++ t) writes.begins.is_whole
                  ∙ sym (append_assoc run.front writes.front writes.begins.rest);
            })
            begins;
        writes = Appends-trans before.contents now.contents new.contents run.front writes.front run.writes writes.writes;
        rose = let one = run.later in let two = writes.rose in omega arith;
      }

  pub printing_part : (all : Bytes) → Begins (script h) all → WrittenPart all before now
  printing_part all begins =
      record {
        front = run.front;
        begins = begins_further run.front (script h) all (record { rest = held; is_whole = run.is_script }) begins;
        writes = run.writes;
        later = run.later;
      }

  pub printing_ends : (new : SinkState) (written : Written) → WritesScript held now new written → WritesScript (script h) before new written
  printing_ends new Whole writes =
      record {
        writes = subst (λ t. Appends before.contents new.contents t) (sym run.is_script)
            (Appends-trans before.contents now.contents new.contents run.front held run.writes writes.writes);
        later = let one = run.later in let two = writes.later in omega arith;
      }
  printing_ends new Fault writes =
      record {
        front = run.front ++ writes.front;
        begins = record {
          rest = writes.begins.rest;
          is_whole = run.is_script ∙ ap (λ t. run.front ++ t) writes.begins.is_whole ∙ sym (append_assoc run.front writes.front writes.begins.rest);
        };
        writes = Appends-trans before.contents now.contents new.contents run.front writes.front run.writes writes.writes;
        rose = let one = run.later in let two = writes.rose in omega arith;
      }
  printing_ends new WantsMemory writes =
      record {
        front = run.front ++ writes.front;
        begins = record {
          rest = writes.begins.rest;
          is_whole = run.is_script ∙ ap (λ t. run.front ++ t) writes.begins.is_whole ∙ sym (append_assoc run.front writes.front writes.begins.rest);
        };
        writes = Appends-trans before.contents now.contents new.contents run.front writes.front run.writes writes.writes;
        later = let one = run.later in let two = writes.later in omega arith;
      }

-- ---- the core that was closed

module _ (terms : Terms) (served : Served) (seen : List Entry) (same : terms_of served ≡ terms) (later : IsLater seen served.history) where
  pub closed_ended : HasEnded terms seen → HasEnded (terms_of served) served.history
  closed_ended ended = subst (λ t. HasEnded t served.history) (sym same) (ended_stays terms seen served.history later ended)

  pub closed_finishes : (before after : SinkState) (status : Status) → IsLegal served.settings served.history → HasEnded terms seen
      → Prints (terms_of served) served.history before after status → Finishes terms seen before after status
  closed_finishes before after status legal ended prints =
      record {
        history = served.history;
        later = later;
        legal = subst (λ t. IsLegal t.settings served.history) same legal;
        ended = ended_stays terms seen served.history later ended;
        prints = subst (λ t. Prints t served.history before after status) same prints;
      }
