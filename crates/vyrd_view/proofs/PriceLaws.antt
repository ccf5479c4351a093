-- What changed words cost at most, summed word by word.
use Rattle.vyrd_view.proofs.Prelude.{◌≡◌, ℕ, suc, ◌+◌, ◌*◌, ◌%◌, ◌≤◌, Bool, not, cond, ◌||◌, List}
use Rattle.vyrd_view.proofs.Prelude.{[], ◌∷◌, length, get_or, arith, ◌==◌, sum_by-cons, Tree}
use Rattle.vyrd_view.proofs.Prelude.{has_link, differing}
use Rattle.std.specs.List.{sum_by}
use Rattle.vyrd_base.specs.declared.subject.Subject.{Subject}
use Rattle.vyrd_base.specs.declared.subject.Subject.TheVariants.{Multiset, Cache, Buffers, Own}
use Rattle.vyrd_view.specs.Comparing.{keys_of_part, nodes_led_to, nodes_looked_at, parts_looked_at}

-- one price for all words
pub same_price : (price : ℕ) (words : List ℕ) → sum_by (λ w. price) words ≡ length words * price
same_price price [] = omega arith
same_price price (w ∷ words) =
    omega (arith, sum_by-cons (λ (w : ℕ). price) w words, same_price price words)

-- one word more
one_more : (f : ℕ → ℕ) (w : ℕ) (words : List ℕ) → sum_by f (w ∷ words) ≡ f w + sum_by f words
one_more f w words = sum_by-cons f w words

-- the nodes that changed words of a tree lead to are at most those that each of them leads to
pub nodes_price : (size : ℕ) (words : List ℕ)
    → nodes_looked_at size words * 9 ≤ sum_by (λ w. 9 * (1 + nodes_led_to Tree size w)) words
nodes_price size [] = omega arith
nodes_price size (w ∷ words) =
    by_tests (w % 12 == 3) (has_link words) (nodes_price size words)
    (one_more (λ w. 9 * (1 + nodes_led_to Tree size w)) w words)
  where
    by_tests : (here rest : Bool)
        → (length words + cond rest size 0) * 9
        ≤ sum_by (λ w. 9 * (1 + nodes_led_to Tree size w)) words
        → sum_by (λ w. 9 * (1 + nodes_led_to Tree size w)) (w ∷ words)
        ≡ 9 * (1 + cond here size 0) + sum_by (λ w. 9 * (1 + nodes_led_to Tree size w)) words
        → (suc (length words) + cond (here || rest) size 0) * 9
        ≤ sum_by (λ w. 9 * (1 + nodes_led_to Tree size w)) (w ∷ words)
    by_tests here rest more all = search (more, arith)

-- some of the words cost no more than all of them
pub fewer_price : (f : ℕ → ℕ) (before words changed : List ℕ)
    → sum_by f (differing before words changed) ≤ sum_by f changed
fewer_price f before words [] = omega arith
fewer_price f before words (w ∷ changed) =
    by_test (get_or words w 0 == get_or before w 0) (fewer_price f before words changed)
  where
    by_test : (same : Bool) → sum_by f (differing before words changed) ≤ sum_by f changed
        → sum_by f (cond (not same) (w ∷ differing before words changed)
        (differing before words changed)) ≤ sum_by f (w ∷ changed)
    by_test same more = search (more, one_more, changed, arith)

-- the parts that are looked at cost no more than the changed words
pub parts_price : (subject : Subject) (size : ℕ) (before words changed : List ℕ)
    → parts_looked_at subject size before words changed * (1 + 2 * keys_of_part subject)
    ≤ sum_by (λ w. (1 + 2 * keys_of_part subject) * (1 + nodes_led_to subject size w)) changed
parts_price Multiset size before words changed = omega (arith, same_price 3 changed)
parts_price Cache size before words changed = omega (arith, same_price 5 changed)
parts_price Tree size before words changed = search (nodes_price, changed, fewer_price, arith)
parts_price Buffers size before words changed = omega (arith, same_price 3 changed)
parts_price Own size before words changed = omega (arith, same_price 1 changed)
