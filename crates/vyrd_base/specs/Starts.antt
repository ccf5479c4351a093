-- The starting words of a log: the plain words that aren't 0 at its beginning, in the order of
-- their numbers. The specification starts in the state for which they stand.
use Rattle.std.specs.Prelude.{ℕ, Bool, true, false, not, ◌&&◌, ◌||◌, ◌==◌, ◌^◌, nat_le, List, []}
use Rattle.std.specs.Prelude.{◌∷◌, Option, Some, None}
use Rattle.std.specs.Option.{option_map_or}
use Rattle.vyrd_base.specs.declared.header.Header.{Header}
use Rattle.vyrd_base.specs.declared.log.StartWord.{StartWord}
use Rattle.vyrd_base.specs.declared.verdict.Rule.{Rule}
use Rattle.vyrd_base.specs.declared.verdict.Rule.TheVariants.{StartRange, StartOrder}
use Rattle.vyrd_base.specs.Layout.{plain_words}
use Rattle.vyrd_base.specs.Shape.{◌breaks◌, first_broken}
use Rattle.vyrd_base.specs.States.{State}
use Rattle.vyrd_base.specs.Words.{words_with}
use Rattle.vyrd_base.specs.Rules.{Rules}

-- whether the word isn't below the number of plain words, or the value isn't from 1 to below 2^63
abbrev pub is_out_of_range : Header → StartWord → Bool
is_out_of_range h s = nat_le (plain_words h) s.word || s.value == 0 || nat_le (2 ^ 63) s.value

-- whether the word isn't greater than the last one, if there is one
abbrev pub is_out_of_order : Option StartWord → StartWord → Bool
is_out_of_order last s = option_map_or (λ l. nat_le s.word l.word) last false

-- the first rule that a starting word breaks, after the last one
abbrev pub start_rule : Header → Option StartWord → StartWord → Option Rule
start_rule h last s = first_broken ((is_out_of_range h s breaks StartRange)
    ∷ (is_out_of_order last s breaks StartOrder) ∷ [])

-- whether starting words that follow the last one keep both rules
abbrev pub do_follow : Header → Option StartWord → List StartWord → Bool
do_follow h last [] = true
do_follow h last (s ∷ starting) =
    not (is_out_of_range h s || is_out_of_order last s) && do_follow h (Some s) starting

-- Whether a log may begin with these words: they keep both rules, and in version 1 there are none.
abbrev pub may_start : Header → List StartWord → Bool
may_start h [] = true
may_start h (s ∷ starting) = h.version == 2 && do_follow h None (s ∷ starting)

-- the plain words at the start
abbrev pub words_at_start : Header → List StartWord → List ℕ
words_at_start h starting = words_with h starting []

-- the state for which the starting words stand, if they stand for one
unfoldable pub state_at_start : Rules → List StartWord → Option State
state_at_start r starting = r.start (words_at_start r.header starting)
