-- The words at the start, one starting word more at the front.
use Rattle.vyrd_witness.proofs.Prelude
use Prelude.{◌≡◌, ℕ, ◌+◌, ◌-◌, ◌<◌, ◌≤◌, List, [], ◌∷◌, length, drop, get_or, set, ap, ◌∙◌, sym}
use Prelude.{arith, replicate, drop_more, drop_all, set_past, Header, StartWord, plain_words}
use Prelude.{words_at_start, value_after, one_write, words_at_start-none, map_alike, length_below}

abbrev pub no_start : StartWord
no_start = record { word = 0; value = 0 }

-- the first value of a word counts
value_more : (s : StartWord) (starting : List StartWord) (word : ℕ)
    → value_after starting ((s.word, s.value) ∷ []) word ≡ value_after (s ∷ starting) [] word
value_more s starting word = grind (arith, starting)

more_start : (h : Header) (s : StartWord) (starting : List StartWord)
    → set (words_at_start h starting) s.word s.value ≡ words_at_start h (s ∷ starting)
more_start h s starting = grind (arith, starting, one_write, map_alike, value_more)

pub length_start : (h : Header) (starting : List StartWord)
    → length (words_at_start h starting) ≡ plain_words h
length_start h starting = length_below (value_after starting []) (plain_words h)

-- before the last one
pub start_none : (h : Header) (starting : List StartWord)
    → replicate (plain_words h) 0 ≡ words_at_start h (drop (length starting - 0) starting)
start_none h starting = sym (words_at_start-none h)
    ∙ ap (words_at_start h) (sym (drop_all (length starting - 0) starting (omega arith)))

-- one starting word more, from the last one on
pub start_next : (h : Header) (starting : List StartWord) (i : ℕ) (words after : List ℕ)
    → i < length starting → words ≡ words_at_start h (drop (length starting - i) starting)
    → after ≡ set words (get_or starting (length starting - 1 - i) no_start).word
    (get_or starting (length starting - 1 - i) no_start).value
    → after ≡ words_at_start h (drop (length starting - (i + 1)) starting)
start_next h starting i words after low before next =
    grind (
      arith,
      more_start h (get_or starting (length starting - 1 - i) no_start)
          (drop ((length starting - 1 - i) + 1) starting),
      drop_more starting (length starting - 1 - i) no_start (omega (arith, low)),
    )

-- a word that isn't there
pub start_passed : (h : Header) (starting : List StartWord) (i : ℕ) (words : List ℕ)
    → i < length starting → words ≡ words_at_start h (drop (length starting - i) starting)
    → length words ≤ (get_or starting (length starting - 1 - i) no_start).word
    → words ≡ words_at_start h (drop (length starting - (i + 1)) starting)
start_passed h starting i words low before past =
    start_next h _ i words _ low before (sym (set_past _ _ _ past))
