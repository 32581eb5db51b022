use Rattle.std.proofs.Common.{◌≡◌, Bool, false, List, ◌+◌, [], ◌∷◌, ◌++◌, ◌||◌, length, drop, eqb, sym, ◌∙◌, rules, tests}
use Rattle.std.proofs.lemmas.List.{length_push}
use Rattle.std.proofs.lemmas.Iterator.Splits.{YieldsList-from_slice_split}
use Rattle.std.proofs.lemmas.Iterator.Consumers.{YieldsList-turn, YieldsList-end}
use Rattle.da_base.specs.Words.{Bytes, pieces}
use Rattle.da_names.specs.Filters.{filter_matches}
use Rattle.da_names.proofs.FilterWords.{takes, takes-start, takes-next, takes-last, takes-empty, takes-against, takes-negative, takes-found, takes-sought, or_true, or_false}
use Rattle.da_names.proofs.filters.filter_matches.Goals as goal
use Rattle.da_names.proofs.filters.filter_matches.Goals.{In-Some, In-None}

abbrev words_behind : (c : In-Some) → List Bytes
words_behind c = drop (length c.loop-word.yielded + 1) (pieces 32 c.args.filter.now)

next_word : (c : In-Some) → takes c.loop-word.is_wanted c.loop-word.is_found c.args.name.now (c.in-Some.word.now ∷ words_behind c) ≡ filter_matches c.args.filter.now c.args.name.now
next_word c =
    takes-next _ _ _ _ _ _ _ c.loop-word.invariant (YieldsList-turn (YieldsList-from_slice_split _ (λ b. eqb b 32) c.args.filter.now (cc) (cc) (cc) (λ x b q k. search (rules, tests)))
    c.loop-word.yielded _ c.loop-word.yielded_by _ _ c.in-Some.word c.in-Some.is c.next.ensures.steps)

-- the words after the next, where the next one turned the two tests into these
kept : (c : In-Some) (wanted found : Bool) → takes c.loop-word.is_wanted c.loop-word.is_found c.args.name.now (c.in-Some.word.now ∷ words_behind c) ≡ takes wanted found c.args.name.now (words_behind c)
    → takes wanted found c.args.name.now (drop (length (c.loop-word.yielded ++ c.in-Some.word ∷ [])) (pieces 32 c.args.filter.now)) ≡ filter_matches c.args.filter.now c.args.name.now
kept c wanted found e = rw (length_push c.loop-word.yielded c.in-Some.word) (sym e ∙ next_word c)

pub loop-word-init : goal.loop-word-init
loop-word-init c = takes-start c.args.filter.now c.args.name.now

pub loop-word-preserved-in_default : goal.loop-word-preserved-in_default
loop-word-preserved-in_default c =
    kept (goal.at.loop-word-preserved-in_default c).In-Some c.loop-word.is_wanted c.loop-word.is_found
    (takes-empty c.loop-word.is_wanted c.loop-word.is_found c.args.name.now c.in-Some.word.now (words_behind (goal.at.loop-word-preserved-in_default c).In-Some) c.in_default.ensures.cases)

pub returns-then-pattern_matches : goal.returns-then-pattern_matches
returns-then-pattern_matches c =
    sym (takes-against c.loop-word.is_wanted c.loop-word.is_found c.args.name.now c.in-Some.word.now _ _ (drop (length c.loop-word.yielded + 1) (pieces 32 c.args.filter.now)) c.in-Some-split_first.ensures.cases.0 c.if-first-eq33.true (sym c.pattern_matches.ensures ∙ c.if-pattern_matches.true))
    ∙ next_word (goal.at.returns-then-pattern_matches c).In-Some

pub loop-word-preserved-else-pattern_matches : goal.loop-word-preserved-else-pattern_matches
loop-word-preserved-else-pattern_matches c =
    kept (goal.at.loop-word-preserved-else-pattern_matches c).In-Some c.loop-word.is_wanted c.loop-word.is_found
    (takes-negative c.loop-word.is_wanted c.loop-word.is_found c.args.name.now c.in-Some.word.now _ _ (words_behind (goal.at.loop-word-preserved-else-pattern_matches c).In-Some) c.in-Some-split_first.ensures.cases.0 c.if-first-eq33.true (sym c.pattern_matches.ensures ∙ c.if-pattern_matches.false))

pub loop-word-preserved-then-is_found : goal.loop-word-preserved-then-is_found
loop-word-preserved-then-is_found c =
    kept (goal.at.loop-word-preserved-then-is_found c).In-Some false c.loop-word.is_found
    (takes-found c.loop-word.is_wanted c.loop-word.is_found c.args.name.now c.in-Some.word.now _ _ (words_behind (goal.at.loop-word-preserved-then-is_found c).In-Some) c.in-Some-split_first.ensures.cases.0 c.if-first-eq33.false c.if-is_found.true)

pub loop-word-preserved : goal.loop-word-preserved
loop-word-preserved c =
    kept (goal.at.loop-word-preserved c).In-Some false c.pattern_matches-is_found.result
    (takes-sought c.loop-word.is_wanted c.loop-word.is_found c.args.name.now c.in-Some.word.now _ _ (words_behind (goal.at.loop-word-preserved c).In-Some) _ c.in-Some-split_first.ensures.cases.0 c.if-first-eq33.false c.if-is_found.false c.pattern_matches-is_found.ensures)

last_word : (c : In-None) → (c.loop-word.is_wanted || c.loop-word.is_found) ≡ filter_matches c.args.filter.now c.args.name.now
last_word c =
    takes-last c.loop-word.is_wanted c.loop-word.is_found c.args.name.now _ _ _ c.loop-word.invariant
    (YieldsList-end (YieldsList-from_slice_split _ (λ b. eqb b 32) c.args.filter.now (cc) (cc) (cc) (λ x b q k. search (rules, tests))) c.loop-word.yielded _ c.loop-word.yielded_by _ _ c.in-None.is c.next.ensures.steps).1

pub returns-then-is_wanted : goal.returns-then-is_wanted
returns-then-is_wanted c =
    sym (or_true c.loop-word.is_wanted c.loop-word.is_found c.if-is_wanted.true) ∙ last_word (goal.at.returns-then-is_wanted c).In-None

pub returns-else-is_wanted : goal.returns-else-is_wanted
returns-else-is_wanted c =
    sym (or_false c.loop-word.is_wanted c.loop-word.is_found c.if-is_wanted.false) ∙ last_word (goal.at.returns-else-is_wanted c).In-None
