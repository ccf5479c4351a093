-- The writes that are kept for the commits that wait are at most the effects behind the last commit
-- that is judged.
use Rattle.vyrd_judge.proofs.Prelude
use Prelude.{◌≡◌, ℕ, zero, suc, ◌+◌, ◌*◌, ◌<◌, ◌≤◌, Bool, true, false, cond, List, [], ◌∷◌, ◌++◌}
use Prelude.{length, Option, None, refl, ap, subst, ◌∙◌, sym, arith, length-append, is_some, sum_by}
use Prelude.{cons_option, sum_by-cons, Header, Entry, StartWord, is_commit, commit_count, place_of}
use Prelude.{newest_first, newest_first_onto, numbers_from, rules_by, broken_rule, plain_words}
use Prelude.{effects, effects_at, break_after, commit_count-cons, both_none, length-mapped}
use Prelude.{answers_left, callers_of, effect_parts, AreFew, HasParts, HasWords, Waiting, JudgeView}
use Prelude.{HasFollowed, IsFaultless, Judged, AwaitsReturn, most_shown, waiting_at, waiting_after}
use Rattle.vyrd_base.specs.Words.{words_after}
use Rattle.vyrd_shadow.specs.Following.{ShadowKept, kept_writes}
use Rattle.vyrd_words.specs.Costs.{kept_back, all_kept_back}
use Rattle.vyrd_words.specs.Effects.{AllFew}
use Rattle.vyrd_words.proofs.CutLaws.{cons_first}
use Rattle.vyrd_words.proofs.FewLaws.{few_count, first_few, length-words_of}
use Rattle.vyrd_judge.specs.Keeping.{effects_in, next_has_returned, effects_left, count_all}
use Rattle.vyrd_judge.specs.Keeping.{writes_kept, blocks_keep}
use Rattle.vyrd_judge.specs.LittleKept.{KeepsLittle}
use Rattle.vyrd_judge.proofs.AlikeLaws.{alike_count}
use Rattle.vyrd_judge.proofs.WaitingLaws.{uncommitted}
use Rattle.vyrd_judge.proofs.AnswersLeft.{seen_few_all}
use Rattle.vyrd_judge.proofs.ShownLaws.{few_shown}
use Rattle.vyrd_judge.proofs.KeepingLaws.{left_open, log_parts, waits_behind_open}

-- the effects of all parts
sum_parts : (before : List (ℕ × ℕ)) (earlier later : List Entry)
    → count_all (effect_parts before earlier later) ≡ length before + effects_in earlier later
sum_parts before earlier [] = omega arith
sum_parts before earlier (e ∷ later) = by_test (is_commit _) (sum_parts [] (e ∷ earlier) later)
    (sum_parts (now ++ before) (e ∷ earlier) later)
  where
    now : List (ℕ × ℕ)
    now = effects_at earlier e.caller e.kind later

    by_test : (b : Bool)
        → count_all (effect_parts [] (e ∷ earlier) later) ≡ 0 + effects_in (e ∷ earlier) later
        → count_all (effect_parts (now ++ before) (e ∷ earlier) later)
        ≡ length (now ++ before) + effects_in (e ∷ earlier) later
        → count_all (cond b ((now ++ before) ∷ effect_parts [] (e ∷ earlier) later)
        (effect_parts (now ++ before) (e ∷ earlier) later))
        ≡ length before + (length now + effects_in (e ∷ earlier) later)
    by_test b alone joined = search (alone, joined, length-append, arith)

-- how many parts there are
length-parts : (before : List (ℕ × ℕ)) (earlier later : List Entry)
    → length (effect_parts before earlier later) ≡ suc (commit_count later)
length-parts before earlier [] = refl
length-parts before earlier (e ∷ later) =
    by_test (is_commit e.kind) (length-parts [] (e ∷ earlier) later)
    (length-parts (now ++ before) (e ∷ earlier) later)
    ∙ ap suc (sym (commit_count-cons e later))
  where
    now : List (ℕ × ℕ)
    now = effects_at earlier e.caller e.kind later

    by_test : (b : Bool) → length (effect_parts [] (e ∷ earlier) later) ≡ suc (commit_count later)
        → length (effect_parts (now ++ before) (e ∷ earlier) later) ≡ suc (commit_count later)
        → length (cond b ((now ++ before) ∷ effect_parts [] (e ∷ earlier) later)
        (effect_parts (now ++ before) (e ∷ earlier) later))
        ≡ suc (cond b 1 0 + commit_count later)
    by_test b alone joined = search (alone, joined, arith)

rest_of : {A : Type 0} {x y : A} {xs ys : List A} → x ∷ xs ≡ y ∷ ys → xs ≡ ys
rest_of e = cc

-- the first part has the effects before
first_long : (before : List (ℕ × ℕ)) (earlier later : List Entry) (part : List (ℕ × ℕ))
    (parts : List (List (ℕ × ℕ))) → effect_parts before earlier later ≡ part ∷ parts
    → length before ≤ length part
first_long before earlier [] part parts is = grind (arith, cons_first is)
first_long before earlier (e ∷ later) part parts is =
    by_test (is_commit e.kind) (first_long (now ++ before) (e ∷ earlier) later part parts) is
  where
    now : List (ℕ × ℕ)
    now = effects_at earlier e.caller e.kind later

    by_test : (b : Bool)
        → (effect_parts (now ++ before) (e ∷ earlier) later ≡ part ∷ parts
        → length (now ++ before) ≤ length part)
        → cond b ((now ++ before) ∷ effect_parts [] (e ∷ earlier) later)
        (effect_parts (now ++ before) (e ∷ earlier) later) ≡ part ∷ parts
        → length before ≤ length part
    by_test b rest same = search (cons_first, length-append, arith)

-- the effects before a place, if the first part there is among the last
abbrev extra : List (List (ℕ × ℕ)) → List (ℕ × ℕ) → ℕ
extra [] before = length before
extra (part ∷ judged) before = 0

no_extra : (judged : List (List (ℕ × ℕ))) → extra judged [] ≡ 0
no_extra judged = search arith

count_all-append : (xs ys : List (List (ℕ × ℕ)))
    → count_all (xs ++ ys) ≡ count_all xs + count_all ys
count_all-append [] ys = omega arith
count_all-append (x ∷ xs) ys = let rest = count_all-append xs ys in omega (arith, rest)

-- the last parts have no more effects than all of them
last_in : (before : List (ℕ × ℕ)) (earlier later : List Entry)
    (judged left : List (List (ℕ × ℕ))) → effect_parts before earlier later ≡ judged ++ left
    → count_all left ≤ extra judged before + effects_in earlier later
last_in before earlier later [] left is = search (sum_parts, arith)
last_in before earlier later (part ∷ judged) left is =
    let all = sum_parts before earlier later in
    let same = ap count_all is in
    let long = first_long before earlier later part (judged ++ left) is in
    omega (arith, all, same, long, count_all-append judged left)

-- From a place on, the last parts, which are those of so many commits and one more, have no more
-- effects than are left.
abbrev IsBound : ℕ → List Entry → List Entry → Type 0
IsBound n earlier later = (before : List (ℕ × ℕ)) (judged left : List (List (ℕ × ℕ)))
    → effect_parts before earlier later ≡ judged ++ left → length left ≡ suc n
    → count_all left ≤ extra judged before + effects_left earlier later

-- where the next commit is left open, or there is none
all_left : (earlier later : List Entry) → next_has_returned later ≡ false
    → effects_left earlier later ≡ effects_in earlier later
all_left earlier [] none = refl
all_left earlier (e ∷ later) none = cc

bound_here : (n : ℕ) (earlier later : List Entry) → next_has_returned later ≡ false
    → IsBound n earlier later
bound_here n earlier later none = search (last_in, all_left, arith)

-- Some commits are among these entries, and if the next one has returned, one more.
record HasMore (n : ℕ) (later : List Entry) : Type 0 where
  some : n ≤ commit_count later
  more : next_has_returned later ≡ true → n < commit_count later

has_more : (n : ℕ) (e : Entry) (later : List Entry) → HasMore n later → HasMore n (e ∷ later)
has_more n e later has = grind (arith, has.some, commit_count-cons e later)

-- one entry before
bound_before : (n : ℕ) (e : Entry) (earlier later : List Entry) → HasMore n (e ∷ later)
    → IsBound n (e ∷ earlier) later → IsBound n earlier (e ∷ later)
bound_before n e earlier later has bound = by_next (next_has_returned (e ∷ later)) refl
  where
    now : List (ℕ × ℕ)
    now = effects_at earlier e.caller e.kind later

    by_judged : (before : List (ℕ × ℕ)) (judged left : List (List (ℕ × ℕ)))
        → n < commit_count (e ∷ later) → effect_parts before earlier (e ∷ later) ≡ judged ++ left
        → length left ≡ suc n
        → count_all left ≤ extra judged before + effects_left (e ∷ earlier) later
    by_judged before [] left low is long = absurd (
        let all = length-parts before earlier (e ∷ later) in
        let same = ap length is in omega (arith, low, all, same, long))
    by_judged before (part ∷ judged) left low is long = by_test (is_commit e.kind) is
      where
        by_test : (b : Bool)
            → cond b ((now ++ before) ∷ effect_parts [] (e ∷ earlier) later)
            (effect_parts (now ++ before) (e ∷ earlier) later) ≡ part ∷ (judged ++ left)
            → count_all left ≤ 0 + effects_left (e ∷ earlier) later
        by_test true same = grind (arith, bound [] judged left (rest_of same) long, no_extra judged)
        by_test false same = bound (now ++ before) (part ∷ judged) left same long

    by_next : (b : Bool) → next_has_returned (e ∷ later) ≡ b → IsBound n earlier (e ∷ later)
    by_next false none = bound_here n earlier (e ∷ later) none
    by_next true returns = λ before judged left is long. grind
        (arith, by_judged before judged left (has.more returns) is long)

-- all entries before
bound_all : (n : ℕ) (earlier later : List Entry) → HasMore n later → IsBound n earlier later
    → IsBound n [] (newest_first_onto later earlier)
bound_all n [] later has bound = bound
bound_all n (e ∷ earlier) later has bound = bound_all n earlier (e ∷ later)
    (has_more n e later has) (bound_before n e earlier later (has_more n e later has) bound)

-- the next commit is left open, where nothing that waits can be judged
next_open : (h : Header) (earlier later : List Entry) → break_after h earlier later ≡ None
    → AwaitsReturn (waiting_after earlier later) → next_has_returned later ≡ false
next_open h earlier [] kept awaits = refl
next_open h earlier (e ∷ later) kept awaits =
    by_waiting (waiting_at (place_of e _ _)) refl (next_open h (e ∷ earlier) later both.1) awaits
  where
    both : (broken_rule h earlier e ≡ None) × (break_after h (e ∷ earlier) later ≡ None)
    both = both_none _ _ kept

    by_waiting : (o : Option Waiting) → waiting_at (place_of e earlier later) ≡ o
        → (AwaitsReturn (waiting_after (e ∷ earlier) later) → next_has_returned later ≡ false)
        → AwaitsReturn (cons_option o (waiting_after (e ∷ earlier) later))
        → next_has_returned (e ∷ later) ≡ false
    by_waiting o is rest going = search (uncommitted, left_open, arith)

-- no more writes than effects in all
few_in_all : (since parts : List (List (ℕ × ℕ))) → AllFew since parts
    → count_all since ≤ count_all parts
few_in_all [] [] all = omega arith
few_in_all [] (part ∷ parts) all = absurd all
few_in_all (writes ∷ since) [] all = absurd all
few_in_all (writes ∷ since) (part ∷ parts) all = grind (arith, all.0, few_in_all since parts all.1)

-- as many lists of writes as commits
since_count : (h : Header) (starting : List StartWord) (first : List ℕ)
    (since parts : List (List (ℕ × ℕ))) → HasParts h starting first since parts
    → suc (length since) ≡ length parts
since_count h starting first since parts has = search (alike_count, arith)

-- a judge without a verdict
faultless : (j : JudgeView) (starting : List StartWord) (log : List Entry)
    → HasFollowed j starting log → j.so_far ≡ None → IsFaultless j.kept starting log
faultless j starting log followed undecided = grind (arith, followed.follows)

-- the writes that it keeps for the commits that wait
writes_few : (j : JudgeView) (starting : List StartWord) (log : List Entry)
    → HasFollowed j starting log → j.so_far ≡ None
    → writes_kept j.kept.views ≤ effects_left [] log
writes_few j starting log followed undecided =
    let parts = length-parts (effects judged.earlier judged.later) judged.earlier judged.later in
    let since = since_count (rules_by j.kept.charter).header starting j.kept.views.first
    j.kept.views.since (effect_parts (effects judged.earlier judged.later) judged.earlier
    judged.later) judged.parts in
    let long : length (few.part ∷ few.further) ≡ suc n = omega (
      arith,
      few_count j.kept.views.since few.further few.since_few,
      parts,
      since,
    ) in
    let last = bound [] few.judged (few.part ∷ few.further) few.whole long in
    let rest = few_in_all j.kept.views.since few.further few.since_few in
    omega (arith, last, rest, few.first_few, no_extra few.judged)
  where
    going : IsFaultless j.kept starting log
    going = faultless j starting log followed undecided

    judged : Judged (rules_by j.kept.charter) starting log j.kept.state j.kept.made j.kept.watches
        j.kept.waiting j.kept.views.first j.kept.views.since
    judged = going.taken_in.judged

    few : AreFew j.kept.views.begun j.kept.views.since (effect_parts [] [] log)
    few = going.taken_in.few_writes

    n : ℕ
    n = commit_count judged.later

    none : next_has_returned judged.later ≡ false
    none = next_open (rules_by j.kept.charter).header judged.earlier judged.later judged.kept
        (subst AwaitsReturn judged.queued going.awaits)

    apart : false ≡ true → ⊥
    apart p = cc

    bound : IsBound n [] log
    bound = subst (IsBound n []) (sym (log_parts judged.earlier judged.later log judged.whole))
        (bound_all n judged.earlier judged.later
        (record { some = omega arith; more = λ returns. absurd (apart (sym none ∙ returns)) })
        (bound_here n judged.earlier judged.later none))

-- an open block keeps no more writes than it has made
block_few : (shadow : ShadowKept) (inner : List ℕ) (starting : List StartWord)
    (earlier : List Entry) (c : ℕ) → HasWords shadow inner starting earlier
    → c < shadow.header.callers → length (kept_writes shadow c) ≤ kept_back earlier c
block_few shadow inner starting earlier c has low =
    grind (arith, starting, is_some, length-words_of, first_few)

blocks_from : (shadow : ShadowKept) (inner : List ℕ) (starting : List StartWord)
    (earlier : List Entry) → HasWords shadow inner starting earlier
    → (k n : ℕ) → k + n ≤ shadow.header.callers
    → sum_by (λ c. length (kept_writes shadow c)) (numbers_from k n)
    ≤ sum_by (kept_back earlier) (numbers_from k n)
blocks_from shadow inner starting earlier has k zero low = omega arith
blocks_from shadow inner starting earlier has k (suc n) low =
    let rest = blocks_from shadow inner starting earlier has (k + 1) n (omega (arith, low)) in
    let here = block_few shadow inner starting earlier k has (omega (arith, low)) in
    omega (
      arith,
      rest,
      here,
      sum_by-cons (λ c. length (kept_writes shadow c)) k (numbers_from (k + 1) n),
      sum_by-cons (kept_back earlier) k (numbers_from (k + 1) n),
    )

-- the writes that the open blocks keep
blocks_few : (j : JudgeView) (starting : List StartWord) (log : List Entry)
    → HasFollowed j starting log → j.so_far ≡ None
    → blocks_keep j.kept.shadow ≤ all_kept_back (callers_of j.kept) (newest_first log)
blocks_few j starting log followed undecided =
    let going = faultless j starting log followed undecided in
    subst (λ (h : Header). blocks_keep j.kept.shadow
    ≤ all_kept_back h.callers (newest_first log)) going.taken_in.shadow_header
    (blocks_from j.kept.shadow j.kept.inner starting (newest_first log) going.taken_in.words 0
    j.kept.shadow.header.callers (omega arith))

-- the answers that it keeps
answers_few : (j : JudgeView) (starting : List StartWord) (log : List Entry)
    → HasFollowed j starting log → j.so_far ≡ None
    → j.kept.answers ≤ 2 * answers_left (callers_of j.kept) log
answers_few j starting log followed undecided =
    let all = seen_few_all (callers_of j.kept) j.kept.watches judged.earlier judged.later log
    (rules_by j.kept.charter).header judged.whole judged.kept
    (subst AwaitsReturn judged.queued going.awaits) judged.returned judged.seen_few
    going.taken_in.watched in omega (arith, going.taken_in.few_answers, all)
  where
    going : IsFaultless j.kept starting log
    going = faultless j starting log followed undecided

    judged : Judged (rules_by j.kept.charter) starting log j.kept.state j.kept.made j.kept.watches
        j.kept.waiting j.kept.views.first j.kept.views.since
    judged = going.taken_in.judged

-- the words that it keeps
words_few : (j : JudgeView) (starting : List StartWord) (log : List Entry)
    → HasFollowed j starting log → j.so_far ≡ None
    → length j.kept.shadow.words ≡ plain_words (rules_by j.kept.charter).header
unfolding words_after
words_few j starting log followed undecided = search (faultless, length-mapped, arith)

-- the keys that its state shows
keys_few : (j : JudgeView) (starting : List StartWord) (log : List Entry)
    → HasFollowed j starting log → j.so_far ≡ None
    → length ((rules_by j.kept.charter).shown j.kept.state) ≤ most_shown j.kept.charter
keys_few j starting log followed undecided =
    few_shown j.kept.charter starting j.kept.state going.taken_in.judged.shows
  where
    going : IsFaultless j.kept starting log
    going = faultless j starting log followed undecided

-- the comparison has the same keys
compared_few : (j : JudgeView) (starting : List StartWord) (log : List Entry)
    → HasFollowed j starting log → j.so_far ≡ None
    → length j.kept.views.specified ≤ most_shown j.kept.charter
compared_few j starting log followed undecided =
    let same = ap length (faultless j starting log followed undecided).taken_in.specified in
    omega (arith, same, keys_few j starting log followed undecided)

-- a judge with no verdict keeps little of the log that it has followed
pub keeps_little : (j : JudgeView) (starting : List StartWord) (log : List Entry)
    → HasFollowed j starting log → j.so_far ≡ None → KeepsLittle j log
keeps_little j starting log followed nothing = record {
  entries = waits_behind_open j starting log followed nothing;
  writes = writes_few j starting log followed nothing;
  blocks = blocks_few j starting log followed nothing;
  answers = answers_few j starting log followed nothing;
  words = words_few j starting log followed nothing;
  keys = keys_few j starting log followed nothing;
  compared = compared_few j starting log followed nothing;
}
