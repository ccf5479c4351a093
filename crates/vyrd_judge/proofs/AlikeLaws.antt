-- The words at the commits that wait, by the writes that act as the effects there.
use Rattle.vyrd_judge.proofs.Prelude
use Prelude.{◌≡◌, ℕ, suc, ◌<◌, Bool, true, false, cond, List, [], ◌∷◌, ◌++◌, length, map, Option}
use Prelude.{refl, ap, subst, ◌∙◌, sym, arith, append_assoc, ◌==◌, option_or, Header, Entry}
use Prelude.{StartWord, first_answer, newest_first_onto, effects_at, words_with, is_commit}
use Prelude.{first_answer-append, with_writes, or_none, with_part, first_with, effect_parts}
use Prelude.{with_effects, cut_if, ActAlike, AllActAlike, HasParts}
use Rattle.vyrd_base.specs.Words.{given_to}
use Rattle.vyrd_base.proofs.EffectWords.{one_write}
use Rattle.vyrd_words.specs.Effects.{given_last}
use Rattle.vyrd_words.proofs.CutLaws.{with_part_none}

writes_onto : (h : Header) (starting : List StartWord) (effects writes : List (ℕ × ℕ))
    → with_writes (words_with h starting effects) writes ≡ words_with h starting
    (newest_first_onto effects writes)
writes_onto h starting effects [] = refl
writes_onto h starting effects ((w, v) ∷ writes) =
    cc (one_write h starting effects w v, writes_onto h starting ((w, v) ∷ effects) writes)

or_assoc : {A : Type 0} (a b c : Option A) → option_or a (option_or b c)
    ≡ option_or (option_or a b) c
or_assoc a b c = search arith

last_onto : (w : ℕ) (effects writes : List (ℕ × ℕ))
    → first_answer (given_to w) (newest_first_onto effects writes) ≡ option_or (given_last w writes)
    (first_answer (given_to w) effects)
last_onto w effects [] = refl
last_onto w effects (write ∷ writes) =
    last_onto w (write ∷ effects) writes ∙ or_assoc (given_last w writes) (given_to w write)
    (first_answer (given_to w) effects)

map_alike : (f g : ℕ → ℕ) → ((q : ℕ) → f q ≡ g q) → (xs : List ℕ) → map f xs ≡ map g xs
map_alike f g same xs = search arith

-- Writes that act as some effects give the words that these effects give.
pub words_alike : (h : Header) (starting : List StartWord) (before effects writes : List (ℕ × ℕ))
    → ActAlike writes effects
    → with_writes (words_with h starting before) writes ≡ words_with h starting (effects ++ before)
words_alike h starting before effects writes alike =
    grind (arith, starting, alike, writes_onto, map_alike, last_onto, first_answer-append)

-- so do two lists of writes one after the other
last-append : (w : ℕ) (xs ys : List (ℕ × ℕ)) → given_last w (xs ++ ys) ≡ option_or (given_last w ys)
    (given_last w xs)
last-append w [] ys = sym (or_none (given_last w ys))
last-append w (x ∷ xs) ys =
    cc (last-append w xs ys, or_assoc (given_last w ys) (given_last w xs) (given_to w x))

pub alike-append : (xs effects ys more : List (ℕ × ℕ)) → ActAlike xs effects → ActAlike ys more
    → ActAlike (xs ++ ys) (more ++ effects)
alike-append xs effects ys more first last = grind (arith, more, last-append, first_answer-append)

-- as many lists of writes as there are parts
pub alike_count : (since parts : List (List (ℕ × ℕ))) → AllActAlike since parts → length since
    ≡ length parts
alike_count [] [] all = refl
alike_count [] (part ∷ parts) all = absurd all
alike_count (writes ∷ since) [] all = absurd all
alike_count (writes ∷ since) (part ∷ parts) all = ap suc (alike_count since parts all.1)

-- further writes in one of them
alike_more : (behind : ℕ) (writes effects : List (ℕ × ℕ)) (since parts : List (List (ℕ × ℕ)))
    → ActAlike writes effects → AllActAlike since parts
    → AllActAlike (with_part behind writes since) (with_effects behind effects parts)
alike_more behind writes effects [] [] alike all = tt
alike_more behind writes effects [] (part ∷ parts) alike all = absurd all
alike_more behind writes effects (old ∷ since) [] alike all = absurd all
alike_more behind writes effects (old ∷ since) (part ∷ parts) alike all =
    rw (← alike_count since parts all.1)
    (by_test (length since == behind) (alike_more behind writes effects since parts alike all.1))
  where
    by_test : (b : Bool) → AllActAlike (with_part behind writes since)
        (with_effects behind effects parts)
        → AllActAlike (cond b ((old ++ writes) ∷ since) (old ∷ with_part behind writes since))
        (cond b ((effects ++ part) ∷ parts) (part ∷ with_effects behind effects parts))
    by_test true rest = (alike-append old _ _ effects all.0 alike, all.1)
    by_test false rest = (all.0, rest)

-- a new part
alike_cut : (b : Bool) (since parts : List (List (ℕ × ℕ))) → AllActAlike since parts
    → AllActAlike (cut_if b since) (cut_if b parts)
alike_cut false since parts all = all
alike_cut true since parts all = pushed since parts all
  where
    pushed : (xs ys : List (List (ℕ × ℕ))) → AllActAlike xs ys → AllActAlike (xs ++ [] ∷ [])
        (ys ++ [] ∷ [])
    pushed [] [] a = (λ w. refl, tt)
    pushed [] (y ∷ ys) a = absurd a
    pushed (x ∷ xs) [] a = absurd a
    pushed (x ∷ xs) (y ∷ ys) a = (a.0, pushed xs ys a.1)

-- The words and the writes since go on as the parts do.
pub has_parts_more : (h : Header) (starting : List StartWord) (first : List ℕ)
    (since parts : List (List (ℕ × ℕ))) (behind : ℕ)
    (writes effects : List (ℕ × ℕ)) (b : Bool) → ActAlike writes effects
    → HasParts h starting first since parts
    → HasParts h starting (first_with behind writes first since)
    (cut_if b (with_part behind writes since)) (cut_if b (with_effects behind effects parts))
has_parts_more h starting first since [] behind writes effects b alike has = absurd has
has_parts_more h starting first since (part ∷ parts) behind writes effects b alike has =
    cut b (first_with behind writes first since) (with_part behind writes since)
    (with_effects behind effects (part ∷ parts))
    (rw (← count)
    (by_test (length since == behind) refl))
  where
    count : length since ≡ length parts
    count = alike_count since parts has.1

    by_test : (t : Bool) → (length since == behind) ≡ t
        → HasParts h starting (cond t (with_writes first writes) first)
        (with_part behind writes since)
        (cond t ((effects ++ part) ∷ parts) (part ∷ with_effects behind effects parts))
    by_test true here = search (words_alike, starting, alike, with_part_none, behind, here, arith)
    by_test false apart = (has.0, alike_more behind writes effects since parts alike has.1)

    cut : (t : Bool) (ws : List ℕ) (xs ys : List (List (ℕ × ℕ))) → HasParts h starting ws xs ys
        → HasParts h starting ws (cut_if t xs) (cut_if t ys)
    cut t ws xs [] all = absurd all
    cut false ws xs (y ∷ ys) all = all
    cut true ws xs (y ∷ ys) all = (all.0, alike_cut true xs ys all.1)

-- effects before the first part
abbrev onto_first : List (ℕ × ℕ) → List (List (ℕ × ℕ)) → List (List (ℕ × ℕ))
onto_first before [] = []
onto_first before (part ∷ parts) = (part ++ before) ∷ parts

parts_before : (a b : List (ℕ × ℕ)) (earlier later : List Entry)
    → effect_parts (a ++ b) earlier later ≡ onto_first b (effect_parts a earlier later)
parts_before a b earlier [] = refl
parts_before a b earlier (e ∷ later) = by_test (is_commit e.kind)
    (parts_before (effects_at earlier e.caller e.kind later ++ a) b (e ∷ earlier) later)
  where
    now : List (ℕ × ℕ)
    now = effects_at earlier e.caller e.kind later

    joined : now ++ (a ++ b) ≡ (now ++ a) ++ b
    joined = sym (append_assoc now a b)

    by_test : (t : Bool) → effect_parts ((now ++ a) ++ b) (e ∷ earlier) later
        ≡ onto_first b (effect_parts (now ++ a) (e ∷ earlier) later)
        → cond t ((now ++ (a ++ b)) ∷ effect_parts [] (e ∷ earlier) later)
        (effect_parts (now ++ (a ++ b)) (e ∷ earlier) later)
        ≡ onto_first b
        (cond t ((now ++ a) ∷ effect_parts [] (e ∷ earlier) later)
        (effect_parts (now ++ a) (e ∷ earlier) later))
    by_test t rest = search (joined, arith)

-- After the commit that waits first the words go on to the next one.
pub record Split (h : Header) (starting : List StartWord) (first : List ℕ)
    (since parts : List (List (ℕ × ℕ))) : Type 0 where
  pub part : List (ℕ × ℕ)
  pub rest : List (List (ℕ × ℕ))
  pub is : since ≡ part ∷ rest
  pub has : HasParts h starting (with_writes first part) rest parts

pub has_parts_next : (h : Header) (starting : List StartWord) (first : List ℕ)
    (since : List (List (ℕ × ℕ))) (before : List (ℕ × ℕ))
    (earlier later : List Entry) → first ≡ words_with h starting before
    → AllActAlike since (effect_parts [] earlier later)
    → Split h starting first since (effect_parts before earlier later)
has_parts_next h starting first since before earlier later is all =
    subst (Split h starting first since) (sym (parts_before [] before earlier later))
    (by_parts since (effect_parts [] earlier later) (some earlier later []) all)
  where
    some : (xs ys : List Entry) (ws : List (ℕ × ℕ)) → 0 < length (effect_parts ws xs ys)
    some xs [] ws = omega arith
    some xs (y ∷ ys) ws = by_test (is_commit y.kind)
        (some (y ∷ xs) ys (effects_at xs y.caller y.kind ys ++ ws))
      where
        by_test : (t : Bool)
            → 0 < length (effect_parts (effects_at xs y.caller y.kind ys ++ ws) (y ∷ xs) ys)
            → 0 < length
            (cond t ((effects_at xs y.caller y.kind ys ++ ws) ∷ effect_parts [] (y ∷ xs) ys)
            (effect_parts (effects_at xs y.caller y.kind ys ++ ws) (y ∷ xs) ys))
        by_test t low = search arith

    by_parts : (xs parts : List (List (ℕ × ℕ))) → 0 < length parts → AllActAlike xs parts
        → Split h starting first xs (onto_first before parts)
    by_parts xs [] low a = absurd (omega (arith, low))
    by_parts [] (p ∷ ps) low a = absurd a
    by_parts (x ∷ xs) (p ∷ ps) low a = grind (arith, words_alike h starting before p x a.0, a.1)
