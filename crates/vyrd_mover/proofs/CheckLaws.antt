-- If no block is broken, each block can be gathered.
use Rattle.vyrd_mover.proofs.Prelude
use Prelude.{◌≡◌, ℕ, Bool, true, List, [], ◌∷◌, ◌++◌, Option, Some, None, refl, ap, ◌∙◌, sym}
use Prelude.{option_map, option_and_then, is_none, Stamped, Place, places, places_after}
use Prelude.{newest_first, newest_first_onto, first_answer, Cells, is_legal, Reducible}
use Prelude.{is_race_free, has_cut, break_line, Surveyed, HasSurveyed, EachIsGathered}
use Rattle.vyrd_base.proofs.ListLaws.{both_none}
use Rattle.vyrd_mover.specs.Blocks.{up_to_end, block_at, broken_at, first_broken, blocks_ended}
use Rattle.vyrd_mover.specs.Blocks.{said_of, is_block_open, events_of, broken_lines, blocks_of}
use Rattle.vyrd_mover.proofs.BreakLaws.{broken_lines_is, lines_from, has_cut_is_none}
use Rattle.vyrd_mover.proofs.GatherLaws.{reducible_is_gathered}

-- the survey of a whole history has the answer
pub answer_is : (cells : Cells) (history : List Stamped) (s : Surveyed)
    → HasSurveyed (is_race_free cells history) history s
    → said_of s.broken s.blocks ≡ blocks_of cells history
unfolding blocks_of
answer_is cells history s is = λ i. said_of (is.broken [] i) (is.blocks [] i)

-- no answer at any place
none_at : {B : Type 0} (f : Place Stamped → Option B) (earlier before : List Stamped) (x : Stamped)
    (later : List Stamped)
    → first_answer f (places_after earlier (before ++ x ∷ later)) ≡ None
    → f (record { earlier = newest_first_onto earlier before; here = x; later = later }) ≡ None
none_at f earlier [] x later e =
    let both = both_none _ _ e in both.0
none_at f earlier (y ∷ before) x later e =
    let both = both_none _ _ e in
    none_at f (y ∷ earlier) before x later both.1

said_reducible : (o : Option (ℕ × ℕ)) (count n : ℕ) → said_of o count ≡ Reducible n → o ≡ None
said_reducible None count n e = refl
said_reducible (Some lines) count n e = cc

no_lines : (opening : Stamped) (o : Option ℕ) → option_map (lines_from opening) o ≡ None → o ≡ None
no_lines opening None e = refl
no_lines opening (Some line) e = cc

-- a block that isn't broken has a cut
unbroken_has_cut : (free : ℕ → Bool) (opening : Stamped) (es : List Stamped)
    → broken_lines free opening es ≡ None → has_cut free es ≡ true
unbroken_has_cut free opening es e =
    has_cut_is_none free es
    ∙ ap is_none (no_lines opening (break_line free es) (sym (broken_lines_is free opening es) ∙ e))

-- the block that is opened at a place
block_there : (earlier rest after : List Stamped) (opening : Stamped) → is_block_open opening.did
    ≡ true → up_to_end opening.caller (rest ++ after) ≡ Some rest
    → block_at (record { earlier = earlier; here = opening; later = rest ++ after })
    ≡ Some (events_of opening.caller rest)
block_there earlier rest after opening opens ends = cc

pub each_is_gathered : (cells : Cells) (history : List Stamped) (n : ℕ) → is_legal cells history
    ≡ true → blocks_of cells history ≡ Reducible n
    → EachIsGathered cells history
unfolding blocks_of
each_is_gathered cells history n legal e before rest after opening block =
    reducible_is_gathered cells history before rest after opening legal block
    (unbroken_has_cut (is_race_free cells history) opening (events_of opening.caller rest) unbroken)
  where
    none : first_answer (broken_at (is_race_free cells history))
        (places (before ++ opening ∷ (rest ++ after))) ≡ None
    none = ap (λ h. first_answer (broken_at (is_race_free cells history)) (places h))
        (sym block.stands)
        ∙ said_reducible (first_broken (is_race_free cells history) history) (blocks_ended history)
        n e

    unbroken : broken_lines (is_race_free cells history) opening (events_of opening.caller rest)
        ≡ None
    unbroken = ap (option_and_then (broken_lines (is_race_free cells history) opening))
        (sym (block_there (newest_first before) rest after opening block.opens block.ends))
        ∙ none_at (broken_at (is_race_free cells history)) [] before opening (rest ++ after) none
