-- One more entry in a node.
use Rattle.vyrd_tree.proofs.Prelude
use Prelude.{◌≡◌, ℕ, zero, suc, ◌+◌, ◌<◌, ◌≤◌, List, [], ◌∷◌, length, take, drop, refl, ap, ◌∙◌}
use Prelude.{sym, arith, cond, insert, Option, None, length-take-le, Header, Kind, BlockOpen}
use Prelude.{is_below, isnt_below, isnt_at_most, Store, Mark, Script, perform, returns, Task}
use Prelude.{Ascent, Errand, Visit, arrived_at, count_cell, unlock_node, Arrived, with_unused}
use Prelude.{write_entries, place_below, with_entry, add_entry, split, first_key, upper_half}
use Prelude.{add_child, insert_in, length_insert}
use Rattle.vyrd_tree.specs.declared.visit.Errand.TheVariants as errand
use Rattle.vyrd_tree.specs.Rests.Errands.{add_rest, next_round, after_split, close_for, unsplit}

-- the first entries with one more among them
insert_in_take : (slots : List (ℕ × ℕ)) (place count : ℕ) (e : ℕ × ℕ) → place ≤ count
    → count ≤ length slots
    → insert (take count slots) place e ≡ take (suc count) (insert slots place e)
insert_in_take slots zero count e le fits = refl
insert_in_take [] (suc p) count e le fits = absurd (omega (arith, le, fits))
insert_in_take (x ∷ xs) (suc p) zero e le fits = absurd (omega (arith, le))
insert_in_take (x ∷ xs) (suc p) (suc n) e le fits = ap (λ es. x ∷ es)
    (insert_in_take xs p n e (omega arith) (omega arith))

pub take_4 : (n : ℕ) (xs : List (ℕ × ℕ)) → n ≤ 4 → take n (take 4 xs) ≡ take n xs
take_4 n xs few = again 4 n xs few
  where
    again : (m n : ℕ) (xs : List (ℕ × ℕ)) → n ≤ m → take n (take m xs) ≡ take n xs
    again m zero xs le = refl
    again zero (suc n) xs le = absurd (omega (arith, le))
    again (suc m) (suc n) [] le = refl
    again (suc m) (suc n) (x ∷ xs) le = ap (λ es. x ∷ es) (again m n xs (omega arith))

-- the rewriting of a node, with this many entries
abbrev rewriting : Header → ℕ → ℕ → List (ℕ × ℕ) → ℕ → Kind → Script → Script
rewriting h node place entries count close later =
    perform (Mark BlockOpen) (write_entries node place (drop place entries)
    (perform (Store (count_cell node) count) (perform (Mark close) (unlock_node h node later))))

-- the node of a visit, with this many entries
abbrev visited : Visit → ℕ → Arrived
visited v count = arrived_at v (take count v.entries.slots)

-- a new entry in the node of a visit
abbrev adds : Header → Task → Visit → ℕ → ℕ → ℕ → Script
adds h task v count key value = add_rest h task v.errand (visited v count) key value

pub added : (h : Header) (task : Task) (v : Visit) (count place key value : ℕ)
    (five four : List (ℕ × ℕ)) (close : Kind) → count < 4
    → length v.entries.slots ≡ 4 → place ≡ place_below key (take count v.entries.slots)
    → place ≤ count
    → five ≡ insert v.entries.slots place (key, value) → four ≡ take 4 five
    → close ≡ close_for v.errand
    → rewriting h v.node.number place (take (count + 1) four) (count + 1) close (returns 1)
    ≡ adds h task v count key value
added h task v count place key value five four close low len at le is first closes =
    let slots : List (ℕ × ℕ) = v.entries.slots in
    let node : ℕ = v.node.number in
    let fits : length (take count slots) ≡ count = length-take-le _ _ (omega (arith, len, low)) in
    let next : count + 1 ≡ suc count = omega arith in
    let shorter : take (count + 1) four ≡ insert (take count slots) place (key, value) =
    cc (
      take_4 (count + 1) five (omega (arith, low)),
      insert_in_take slots place count
          (key, value) le (omega (arith, len, low)),
    ) in
    let count_is : count + 1 ≡ length (insert (take count slots) place (key, value)) = next
    ∙ ap suc (sym fits) ∙ sym (length_insert _ _ _) in
    cc (is_below (length (take count slots)) 4 (omega (arith, fits, low)))

-- the node of a visit, with these five entries, is split
abbrev opened : Header → Task → Visit → List (ℕ × ℕ) → ℕ → Script
opened h task v five place = with_unused h (unsplit h v.errand v.node.number) (λ new.
    perform (Mark BlockOpen) (split (arrived_at v []) place five new
    (perform (Mark (close_for v.errand))
    (unlock_node h v.node.number (after_split h task v.errand (first_key (upper_half five)) new)))))

take_all : (xs : List (ℕ × ℕ)) → take (length xs) xs ≡ xs
take_all [] = refl
take_all (x ∷ xs) = ap (λ es. x ∷ es) (take_all xs)

-- a node that is full
pub overflows : (h : Header) (task : Task) (v : Visit) (count place key value : ℕ)
    (five : List (ℕ × ℕ)) → 4 ≤ count → count ≤ 4
    → length v.entries.slots ≡ 4 → place ≡ place_below key (take count v.entries.slots)
    → five ≡ insert v.entries.slots place (key, value)
    → opened h task v five place ≡ adds h task v count key value
overflows h task v count place key value five high few len at is =
    let slots : List (ℕ × ℕ) = v.entries.slots in
    let count_is : count ≡ length slots = omega (arith, len, high, few) in
    let whole : take count slots ≡ slots = cc (take_all slots) in
    let fits : length (take count slots) ≡ 4 = ap length whole ∙ len in
    ap (λ es. opened h task v es place) (is ∙ ap (λ xs. insert xs place (key, value)) (sym whole))
    ∙ ap (λ p. opened h task v (insert (take count slots) p (key, value)) p) at
    ∙ ap (λ b. cond b (add_entry h (visited v count) key value (close_for v.errand) (returns 1))
    (opened h task v (with_entry (take count slots) key value)
    (place_below key (take count slots)))) (sym (isnt_below _ 4 (omega (arith, fits))))

pub added_child : (h : Header) (task : Task) (e : Errand) (a : Ascent) (at : Arrived)
    (key value : ℕ) → e ≡ errand.Ascent a
    → a.level < at.level → key ≡ a.key
    → value ≡ a.node.number → add_rest h task e at key value
    ≡ add_child h a.level a.key a.node.number at (returns 1) (next_round h task a)
added_child h task e a at key value is above is_key is_value =
    ap (λ x. add_rest h task x at key value) is
    ∙ ap (λ k. add_rest h task (errand.Ascent a) at k value) is_key
    ∙ ap (add_rest h task (errand.Ascent a) at a.key) is_value
    ∙ ap (λ b. cond b (unlock_node h at.node (returns 1))
    (add_rest h task (errand.Ascent a) at a.key a.node.number))
    (sym (isnt_at_most at.level a.level above))

pub inserted_new : (h : Header) (task : Task) (e : Errand) (at : Arrived) (place : Option ℕ)
    (key value : ℕ) → e ≡ errand.Operation → place ≡ None
    → key ≡ task.key → value ≡ task.value → add_rest h task e at key value
    ≡ insert_in h task.variant task.key task.value at place
inserted_new h task e at place key value is none is_key is_value =
    ap (λ x. add_rest h task x at key value) is
    ∙ ap (λ k. add_rest h task errand.Operation at k value) is_key
    ∙ ap (add_rest h task errand.Operation at _) is_value ∙ ap (insert_in h _ _ _ _) (sym none)
