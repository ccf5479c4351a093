-- The words at the start are small, so that a specification can start from them.
use Rattle.vyrd_states.proofs.Prelude.{◌≡◌, ℕ, zero, suc, ◌+◌, ◌<◌, ◌^◌, Bool, true, false, cond}
use Rattle.vyrd_states.proofs.Prelude.{List, [], ◌∷◌, ◌++◌, map, Option, Some, None, ap, arith}
use Rattle.vyrd_states.proofs.Prelude.{◌==◌, All, option_or, Header, StartWord, numbers_from}
use Rattle.vyrd_states.proofs.Prelude.{first_answer, rules_of, state_at_start}
use Rattle.std.specs.Prelude.{unwrap_or, option_map, replicate}
use Rattle.std.proofs.lemmas.List.Elements.{All-nil, All-cons}
use Rattle.vyrd_base.specs.Layout.{lock_words}
use Rattle.vyrd_base.specs.Starts.{is_out_of_range, do_follow, may_start, words_at_start}
use Rattle.vyrd_base.specs.States.{showing}
use Rattle.vyrd_base.specs.Represented.{state_of_words}
use Rattle.vyrd_base.specs.Words.{given_to, value_at_start}
use Rattle.vyrd_base.proofs.TestLaws.{above_of, first_true, second_true, neither_true}

value_small : (h : Header) (last : Option StartWord) (starting : List StartWord) (w : ℕ)
    → do_follow h last starting ≡ true → value_at_start starting w < 2 ^ 63
value_small h last [] w e = omega arith
value_small h last (s ∷ starting) w e =
    by_word (s.word == w) (value_small h (Some s) starting w (second_true _ _ e))
  where
    in_range : is_out_of_range h s ≡ false
    in_range = search (neither_true, first_true, starting, arith)

    value : s.value < 2 ^ 63
    value = search (above_of, neither_true, in_range, arith)

    by_word : (b : Bool) → value_at_start starting w < 2 ^ 63
        → unwrap_or (option_or (cond b (Some s.value) None)
        (first_answer (λ t. given_to w (t.word, t.value)) starting)) 0 < 2 ^ 63
    by_word b rest = search arith

start_small : (h : Header) (starting : List StartWord) (w : ℕ) → may_start h starting ≡ true
    → value_at_start starting w < 2 ^ 63
start_small h starting w may = grind (arith, starting, value_small, second_true)

all_small : (f : ℕ → ℕ) (k n : ℕ) → ((w : ℕ) → f w < 2 ^ 63)
    → All (λ value. value < 2 ^ 63) (map f (numbers_from k n))
all_small f k zero small = All-nil _
all_small f k (suc n) small =
    All-cons (λ value. value < 2 ^ 63) (f k) _ (small k) (all_small f (k + 1) n small)

pub words_small : (h : Header) (starting : List StartWord) → may_start h starting ≡ true
    → All (λ value. value < 2 ^ 63) (words_at_start h starting)
words_small h starting may = search (all_small, starting, start_small, arith)

-- the state at the start of a structure that is built in
pub begins_so : (h : Header) (starting : List StartWord) (words : List ℕ)
    → words ≡ words_at_start h starting
    → option_map showing (state_of_words h (words ++ replicate (lock_words h) 0))
    ≡ state_at_start (rules_of h) starting
unfolding state_at_start
begins_so h starting words same = ap (rules_of h).start same
