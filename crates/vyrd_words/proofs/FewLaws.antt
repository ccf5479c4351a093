-- How many writes are kept for the commits that wait: no more than the effects that they stand for.
use Rattle.vyrd_words.proofs.Prelude
use Prelude.{◌≡◌, ℕ, suc, ◌+◌, ◌<◌, ◌≤◌, List, [], ◌∷◌, ◌++◌, length, refl, ap, ◌∙◌, sym, arith}
use Prelude.{length-append, append-nil, append_assoc, Bool, true, false, cond, take-append-le}
use Prelude.{take-length, ◌==◌, ◌-◌, Result, OnOk, list_any, is_same, lower_isnt, same_of}
use Prelude.{first_written, words_of, just, total, split_at, since_of, begun_of, begun_with}
use Prelude.{with_part, with_effects, cut_if, AllFew, AreFew}
use Rattle.vyrd_words.proofs.CutLaws.{sum-cons, late_at, length-split_at, never_same, cons_first}
use Rattle.vyrd_words.proofs.CutLaws.{with_part_none}

-- one more commit waits
pub begun_push : (ks : List (ℕ × List (ℕ × ℕ))) (t : ℕ) (ws : List (ℕ × ℕ))
    → total ks + t ≡ length ws → begun_of (ks ++ just t ∷ []) ws ≡ begun_of ks ws
begun_push [] t ws counted = grind (arith, take-length ws, append-nil ws)
begun_push (k ∷ ks) t ws counted = refl

-- the first commit no longer waits
pub begun_next : (ks : List (ℕ × List (ℕ × ℕ))) (ws part : List (ℕ × ℕ))
    (rest : List (List (ℕ × ℕ))) → split_at ks ws ≡ part ∷ rest → begun_of ks ws ≡ length part
begun_next ks ws part rest is = search (cons_first, arith)

-- further writes after the last commit
pub begun_more : (ks : List (ℕ × List (ℕ × ℕ))) (ws more : List (ℕ × ℕ)) → total ks ≤ length ws
    → 0 < length ks → begun_of ks (ws ++ more) ≡ begun_of ks ws
begun_more ks ws more within some = grind (arith, more, within, take-append-le, sum-cons)

-- further late writes of a commit
pub begun_late : (ks : List (ℕ × List (ℕ × ℕ))) (i : ℕ) (new ws : List (ℕ × ℕ)) → i < length ks
    → begun_of (late_at ks i new) ws
    ≡ begun_with (length ks - i) new (begun_of ks ws) (since_of ks ws)
begun_late ks i new ws low =
    grind (arith, append_assoc, length-append, is_same, split_at, length-split_at, never_same)

-- no commit that waits has that many after it
pub begun_far : (behind : ℕ) (new : List (ℕ × ℕ)) (begun : ℕ) (since : List (List (ℕ × ℕ)))
    → length since < behind → begun ≡ begun_with behind new begun since
begun_far behind new begun since far = cc (lower_isnt (length since) behind far)

-- further writes make them no fewer
pub begun_grows : (behind : ℕ) (new : List (ℕ × ℕ)) (begun : ℕ) (since : List (List (ℕ × ℕ)))
    → begun ≤ begun_with behind new begun since
begun_grows behind new begun since = grind arith

-- none are kept
pub begun_none : {T E : Type 0} (r : Result T E) (now most : ℕ) → OnOk r (now ≡ 0)
    → OnOk r (now ≤ most)
begun_none r now most none = search arith

-- writes in two steps
pub begun_twice : (behind : ℕ) (xs ys : List (ℕ × ℕ)) (begun between now : ℕ)
    (since then : List (List (ℕ × ℕ))) → between ≤ begun_with behind xs begun since
    → length then ≡ length since → now ≤ begun_with behind ys between then
    → now ≤ begun_with behind (xs ++ ys) begun since
begun_twice behind xs ys begun between now since then first long last =
    by_test (length _ == behind) first (rw (← long) last)
  where
    by_test : (b : Bool) → between ≤ cond b (begun + length xs) begun
        → now ≤ cond b (between + length ys) between
        → now ≤ cond b (begun + length (xs ++ ys)) begun
    by_test b few more = search (few, more, length-append, arith)

-- no more words than writes
pub first_few : (writes : List (ℕ × ℕ)) → length (first_written writes) ≤ length writes
first_few [] = omega arith
first_few ((word, value) ∷ writes) =
    by_test (list_any (λ other. word == other) (first_written writes)) (first_few writes)
  where
    by_test : (b : Bool) → length (first_written writes) ≤ length writes
        → length (cond b (first_written writes) (first_written writes ++ word ∷ []))
        ≤ suc (length writes)
    by_test b rest = search (length-append, arith)

pub length-words_of : (ws : List (ℕ × ℕ)) → length (words_of ws) ≡ length ws
length-words_of [] = refl
length-words_of (x ∷ ws) = ap suc (length-words_of ws)

-- as many lists as parts
pub few_count : (since parts : List (List (ℕ × ℕ))) → AllFew since parts
    → length since ≡ length parts
few_count [] [] all = refl
few_count [] (part ∷ parts) all = absurd all
few_count (writes ∷ since) [] all = absurd all
few_count (writes ∷ since) (part ∷ parts) all = ap suc (few_count since parts all.1)

-- further effects in a part that isn't there
effects_none : (behind : ℕ) (effects : List (ℕ × ℕ)) (parts : List (List (ℕ × ℕ)))
    → length parts ≤ behind → with_effects behind effects parts ≡ parts
effects_none behind effects [] past = refl
effects_none behind effects (part ∷ parts) past =
    ap (λ b. cond b ((effects ++ part) ∷ parts) (part ∷ with_effects behind effects parts))
    (lower_isnt (length parts) behind (omega (arith, past)))
    ∙ ap (λ rest. part ∷ rest) (effects_none behind effects parts (omega (arith, past)))

-- further effects leave the last parts where they stand
effects_behind : (behind : ℕ) (effects : List (ℕ × ℕ)) (judged left : List (List (ℕ × ℕ)))
    → (more : List (List (ℕ × ℕ)))
    × (with_effects behind effects (judged ++ left) ≡ more ++ with_effects behind effects left)
effects_behind behind effects [] left = ([], refl)
effects_behind behind effects (part ∷ judged) left =
    by_test (length _ == behind) refl (effects_behind behind effects judged left)
  where
    by_test : (b : Bool) → (length (judged ++ left) == behind) ≡ b
        → (more : List (List (ℕ × ℕ)))
        × (with_effects behind effects (judged ++ left) ≡ more ++ with_effects behind effects left)
        → (more : List (List (ℕ × ℕ)))
        × (cond b ((effects ++ part) ∷ (judged ++ left))
        (part ∷ with_effects behind effects (judged ++ left))
        ≡ more ++ with_effects behind effects left)
    by_test true here rest =
        let same = same_of _ _ here in
        let past : length left ≤ behind = omega (arith, same, length-append judged left) in
        ((effects ++ part) ∷ judged, cc (effects_none behind effects left past))
    by_test false apart rest = (part ∷ rest.0, cc (rest.1))

-- further writes in one of the lists
all_few_more : (behind : ℕ) (writes effects : List (ℕ × ℕ)) (since parts : List (List (ℕ × ℕ)))
    → length writes ≤ length effects → AllFew since parts
    → AllFew (with_part behind writes since) (with_effects behind effects parts)
all_few_more behind writes effects [] [] few all = tt
all_few_more behind writes effects [] (part ∷ parts) few all = absurd all
all_few_more behind writes effects (old ∷ since) [] few all = absurd all
all_few_more behind writes effects (old ∷ since) (part ∷ parts) few all =
    grind (
      arith,
      few_count since parts all.1,
      by_test (length since == behind) (all_few_more behind
          writes effects since parts few all.1),
    )
  where
    by_test : (b : Bool)
        → AllFew (with_part behind writes since) (with_effects behind effects parts)
        → AllFew (cond b ((old ++ writes) ∷ since) (old ∷ with_part behind writes since))
        (cond b ((effects ++ part) ∷ parts) (part ∷ with_effects behind effects parts))
    by_test b rest = search (few, length-append, arith)

-- the last parts, with a new part
cut_behind : (cuts : Bool) (judged : List (List (ℕ × ℕ))) (part : List (ℕ × ℕ))
    (further : List (List (ℕ × ℕ)))
    → cut_if cuts (judged ++ part ∷ further) ≡ judged ++ part ∷ cut_if cuts further
cut_behind cuts judged part further = search (append_assoc, arith)

all_few_cut : (cuts : Bool) (since parts : List (List (ℕ × ℕ))) → AllFew since parts
    → AllFew (cut_if cuts since) (cut_if cuts parts)
all_few_cut false since parts all = all
all_few_cut true since parts all = pushed since parts all
  where
    pushed : (xs ys : List (List (ℕ × ℕ))) → AllFew xs ys → AllFew (xs ++ [] ∷ []) (ys ++ [] ∷ [])
    pushed [] [] a = (omega arith, tt)
    pushed [] (y ∷ ys) a = absurd a
    pushed (x ∷ xs) [] a = absurd a
    pushed (x ∷ xs) (y ∷ ys) a = (a.0, pushed xs ys a.1)

-- What is kept goes on with one more entry as the parts do.
pub few_more : (behind : ℕ) (writes effects : List (ℕ × ℕ)) (cuts : Bool) (old new : ℕ)
    (since parts : List (List (ℕ × ℕ))) → length writes ≤ length effects
    → new ≤ begun_with behind writes old since → AreFew old since parts
    → AreFew new (cut_if cuts (with_part behind writes since))
    (cut_if cuts (with_effects behind effects parts))
few_more behind writes effects cuts old new since parts few begun are =
    by_test (length since == behind) refl begun
  where
    count : length since ≡ length are.further
    count = few_count since are.further are.since_few

    more : (more : List (List (ℕ × ℕ))) × (with_effects behind effects
        (are.judged ++ are.part ∷ are.further)
        ≡ more ++ with_effects behind effects (are.part ∷ are.further))
    more = effects_behind behind effects are.judged (are.part ∷ are.further)

    whole : {b : Bool} → (length since == behind) ≡ b
        → cut_if cuts (with_effects behind effects parts)
        ≡ cut_if cuts (more.0 ++ cond b ((effects ++ are.part) ∷ are.further)
        (are.part ∷ with_effects behind effects are.further))
    whole {b} is = ap (λ ps. cut_if cuts (with_effects behind effects ps)) are.whole
        ∙ ap (cut_if cuts) more.1
        ∙ ap (λ n. cut_if cuts (more.0 ++ cond (n == behind) ((effects ++ are.part) ∷ are.further)
        (are.part ∷ with_effects behind effects are.further))) (sym count)
        ∙ ap (λ t. cut_if cuts (more.0 ++ cond t ((effects ++ are.part) ∷ are.further)
        (are.part ∷ with_effects behind effects are.further))) is

    by_test : (b : Bool) → (length since == behind) ≡ b → new ≤ cond b (old + length writes) old
        → AreFew new (cut_if cuts (with_part behind writes since))
        (cut_if cuts (with_effects behind effects parts))
    by_test true here low = record {
      judged = more.0;
      part = effects ++ are.part;
      further = cut_if cuts are.further;
      whole = whole here ∙ cut_behind cuts more.0 (effects ++ are.part) are.further;
      first_few = omega (arith, low, few, are.first_few, length-append effects are.part);
      since_few = rw (with_part_none behind writes since (at_most here))
          (all_few_cut cuts since are.further are.since_few);
    }
      where
        at_most : (length since == behind) ≡ true → length since ≤ behind
        at_most e = let same = same_of (length since) behind e in omega (arith, same)
    by_test false apart low = record {
      judged = more.0;
      part = are.part;
      further = cut_if cuts (with_effects behind effects are.further);
      whole = whole apart
          ∙ cut_behind cuts more.0 are.part (with_effects behind effects are.further);
      first_few = omega (arith, low, are.first_few);
      since_few = all_few_cut cuts (with_part behind writes since)
          (with_effects behind effects are.further)
          (all_few_more behind writes effects since are.further few are.since_few);
    }

-- What is kept goes on to the next commit.
pub few_next : (old new : ℕ) (part : List (ℕ × ℕ)) (rest parts : List (List (ℕ × ℕ)))
    → new ≡ length part → AreFew old (part ∷ rest) parts → AreFew new rest parts
few_next old new part rest parts is are = by_further are.further are.whole are.since_few
  where
    by_further : (further : List (List (ℕ × ℕ))) → parts ≡ are.judged ++ are.part ∷ further
        → AllFew (part ∷ rest) further → AreFew new rest parts
    by_further [] whole all = absurd all
    by_further (next ∷ further) whole all = record {
      judged = are.judged ++ are.part ∷ [];
      part = next;
      further = further;
      whole = whole ∙ sym (append_assoc are.judged (are.part ∷ []) (next ∷ further));
      first_few = omega (arith, is, all.0);
      since_few = all.1;
    }

-- the same of an answer
pub few_answered : {T E : Type 0} (r : Result T E) (old new : ℕ) (part : List (ℕ × ℕ))
    (rest before after parts : List (List (ℕ × ℕ))) → before ≡ part ∷ rest
    → OnOk r (after ≡ rest) → OnOk r (new ≡ length part) → AreFew old before parts
    → OnOk r (AreFew new after parts)
few_answered r old new part rest before after parts waits goes is are = search (few_next, arith)
