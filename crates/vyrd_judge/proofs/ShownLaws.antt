-- A state shows no more keys than the words did at the commit before, and these no more than the
-- charter says.
use Rattle.vyrd_judge.proofs.Prelude
use Prelude.{◌≡◌, ℕ, ◌≤◌, List, [], length, Some, None, ap, sym, arith, StartWord, Method, Args}
use Prelude.{IsAmounts, first_difference, Rules, Charter, rules_by, words_at_start, state_at_start}
use Prelude.{State, words_with, same_amounts, first_difference_none, length-mapped, most_shown}
use Prelude.{AreFormed, StartsFew, starts_few, few_view, ShowsFew}

-- the state at the start shows no more than the words that the log begins with
pub start_shows : (c : Charter) (starting : List StartWord) (state : State)
    → state_at_start (rules_by c) starting ≡ Some state → ShowsFew (rules_by c) starting state
unfolding state_at_start
start_shows c starting state begins =
    record { writes = []; few = starts.few; formed = starts.formed }
  where
    starts : StartsFew (rules_by c) (words_at_start (rules_by c).header starting) state
    starts = search (starts_few, length-mapped, arith)

-- so does the state after a commit that is right
pub commit_shows : {r : Rules} {starting : List StartWord} {before after : State} (first : List ℕ)
    (writes : List (ℕ × ℕ)) (method : Method) (args : Args) (reply : ℕ) → AreFormed r
    → first ≡ words_with r.header starting writes → r.next method args reply before ≡ Some after
    → first_difference (r.view first) (r.shown after) ≡ None → ShowsFew r starting before
    → ShowsFew r starting after
commit_shows {r} {starting} {before} {after} first writes method args reply rules are next none
    shows = record {
      writes = writes;
      few = let long = ap length (sym same) in
          let there = ap (λ ws. length (r.view ws)) are in omega (arith, long, there);
      formed = formed;
    }
  where
    formed : IsAmounts after.shown
    formed = rules.next _ _ _ _ _ shows.formed next

    same : r.view first ≡ r.shown after
    same = search (same_amounts, after, formed, first_difference_none, arith)

-- a state shows no more keys than the charter says
pub few_shown : (c : Charter) (starting : List StartWord) (state : State)
    → ShowsFew (rules_by c) starting state → length ((rules_by c).shown state) ≤ most_shown c
few_shown c starting state shows = grind (arith, starting, few_view, length-mapped)
