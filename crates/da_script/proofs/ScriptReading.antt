-- The script of a history is read as the events of its entries.
use Rattle.std.proofs.Common.{◌≡◌, List, [], ◌∷◌, ◌++◌, length, map, reverse, refl, sym, ap, ◌∙◌, append_assoc, append-nil}
use Rattle.std.proofs.lemmas.Bool.{le-leb}
use Rattle.std.proofs.lemmas.List.{reverse-append}
use Rattle.da_base.specs.Words.{Bytes}
use Rattle.da_tabline.proofs.LineLemmas.{line_cut_at}
use Rattle.da_play.specs.declared.input.Entry.{Entry}
use Rattle.da_play.specs.Play.{event_of as own_event, events_of}
use Rattle.da_script.specs.Events.{event_line}
use Rattle.da_script.specs.Scripts.{AreScripted, IsScripted, events, events_from, script}
use Rattle.da_script.proofs.PrintedEvents.{event_again, event_line-Lacks_end}

-- an entry's line stands before further lines
events_at : (e : Entry) (more : Bytes) → IsScripted e → events (event_line e.moment e.input ++ 10 ∷ more) ≡ own_event e ∷ events more
events_at e more is =
    let text = event_line e.moment e.input in
    let cut = line_cut_at 16384 text more (event_line-Lacks_end e.moment e.input is.moment is.held is.plain) in
    ap (λ c. events_from c.lines) cut
    ∙ rw (le-leb (length text) 16384 is.short, event_again text e.moment e.input refl is.moment is.held is.plain is.short) refl

map-append : {A B : Type 0} (f : A → B) (xs ys : List A) → map f (xs ++ ys) ≡ map f xs ++ map f ys
map-append f [] ys = refl
map-append f (x ∷ xs) ys = ap (λ l. f x ∷ l) (map-append f xs ys)

-- the entry comes last
map-reverse-cons : {A B : Type 0} (f : A → B) (x : A) (xs : List A) → map f (reverse (x ∷ xs)) ≡ map f (reverse xs) ++ f x ∷ []
map-reverse-cons f x xs = ap (map f) (reverse-append (x ∷ []) xs) ∙ map-append f (reverse xs) (x ∷ [])

script_before : (h : List Entry) (more : Bytes) → AreScripted h → events (script h ++ more) ≡ map own_event (reverse h) ++ events more
script_before [] more are = refl
script_before (e ∷ g) more are =
    let text = event_line e.moment e.input in
    ap events (append_assoc (script g) (text ++ 10 ∷ []) more ∙ ap (λ l. script g ++ l) (append_assoc text (10 ∷ []) more))
    ∙ script_before g (text ++ 10 ∷ more) are.1
    ∙ ap (λ l. map own_event (reverse g) ++ l) (events_at e more are.0)
    ∙ sym (append_assoc (map own_event (reverse g)) (own_event e ∷ []) (events more))
    ∙ ap (λ l. l ++ events more) (sym (map-reverse-cons own_event e g))

pub events-script : (h : List Entry) → AreScripted h → events (script h) ≡ events_of h
events-script h are =
    ap events (sym (append-nil (script h))) ∙ script_before h [] are ∙ append-nil (map own_event (reverse h))
