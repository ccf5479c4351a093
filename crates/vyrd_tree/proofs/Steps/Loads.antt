-- The loads of a node's keys and values, one after the other.
use Rattle.vyrd_tree.proofs.Prelude.{◌≡◌, ℕ, suc, ◌+◌, ◌<◌, ◌≤◌, List, [], ◌∷◌, length, take, drop}
use Rattle.vyrd_tree.proofs.Prelude.{ap, ◌∙◌, sym, arith, get_or-take, length-take-le, Header, Load}
use Rattle.vyrd_tree.proofs.Prelude.{Script, step, after_answer, Slot, Task, Visit, value_cell}
use Rattle.vyrd_tree.proofs.Prelude.{arrived_at, loading}
use Rattle.std.proofs.Common.{◌++◌}
use Rattle.std.proofs.lemmas.List.{append-nil, append_assoc, take_more_set, drop-set-lt}
use Rattle.std.proofs.Math.Seq.{drop-cons, take-set-lt}
use Rattle.std.proofs.Math.ListN.{set, drop_of_length-le}
use Rattle.std.specs.Prelude.{slice_set}
use Rattle.vyrd_tree.specs.declared.node.Word.TheVariants.{Value}
use Rattle.vyrd_tree.specs.Procedures.Walk.{load_values}
use Rattle.vyrd_tree.specs.Rests.Written.{key_at}
use Rattle.vyrd_tree.specs.Rests.Errands.{arrived_for}
use Rattle.vyrd_tree.specs.Rests.Visits.{keys_of, keys_from_rest, values_from_rest, with_keys}

one_more : (n : ℕ) → n + 1 ≡ suc n
one_more n = omega arith

pub keys_came : (h : Header) (task : Task) (v : Visit) (place count : ℕ) → place ≤ count
    → count ≤ place
    → with_keys h task v count (keys_of (take count v.entries.slots))
    ≡ keys_from_rest h task v place count
keys_came h task v place count le ge =
    grind (arith, append-nil (keys_of (take place v.entries.slots)))

-- the first of the values that are left
value_first : (slots : List (ℕ × ℕ)) (place count node : ℕ) (loaded : List (ℕ × ℕ) → Script)
    → place < count → count ≤ length slots
    → load_values (keys_of (drop place (take count slots))) node place loaded
    ≡ step (Load (value_cell node place))
    (λ value. load_values (keys_of (drop (place + 1) (take count slots))) node (place + 1)
    (λ entries.
    loaded ((key_at slots place, value) ∷ entries)))
value_first slots place count node loaded low fits =
    let len : length (take count slots) ≡ count = length-take-le _ _ fits in
    ap (λ es. load_values (keys_of es) node place loaded)
    (drop-cons (take count slots) place (0, 0) (omega (arith, len)))
    ∙ ap (λ e. step (Load (value_cell node place))
    (λ value. load_values (keys_of (drop (suc place) (take count slots))) node (place + 1)
    (λ entries. loaded ((e.0, value) ∷ entries)))) (get_or-take count slots place (0, 0) low)
    ∙ ap (λ n. step (Load (value_cell node place))
    (λ value. load_values (keys_of (drop n (take count slots))) node (place + 1)
    (λ entries. loaded ((key_at slots place, value) ∷ entries)))) (sym (one_more place))

pub value_comes : (h : Header) (task : Task) (v : Visit) (slot : Slot) (place count : ℕ)
    → slot.place ≡ place → slot.of ≡ count
    → count ≤ length v.entries.slots
    → loading h task v (Value slot) ≡ values_from_rest h task v place count
value_comes h task v slot place count at among fits = grind (arith, count, fits, value_first)

pub values_came : (h : Header) (task : Task) (v : Visit) (place count : ℕ) → place ≤ count
    → count ≤ place → count ≤ length v.entries.slots
    → arrived_for h task v.errand (arrived_at v (take count v.entries.slots))
    ≡ values_from_rest h task v place count
values_came h task v place count le ge fits =
    let same : count ≡ place = omega arith in
    let len : length (take count v.entries.slots) ≡ count = length-take-le count v.entries.slots
    fits in
    ap (λ es. arrived_for h task v.errand (arrived_at v es))
    (ap (λ n. take n v.entries.slots) same ∙ sym (append-nil (take place v.entries.slots)))
    ∙ ap (λ es. load_values (keys_of es) v.node.number place
    (λ entries. arrived_for h task v.errand (arrived_at v (take place v.entries.slots ++ entries))))
    (sym (drop_of_length-le (take count v.entries.slots) (omega (arith, len))))

-- a value was loaded: it stands beside its key, and those after it are left
pub value_kept : (h : Header) (task : Task) (v : Visit) (slot : Slot) (value : ℕ)
    (slots : List (ℕ × ℕ))
    → slots ≡ slice_set v.entries.slots slot.place (key_at v.entries.slots slot.place, value)
    → slot.place < length v.entries.slots
    → load_values (keys_of (drop (slot.place + 1) (take slot.of slots))) v.node.number
    (slot.place + 1) (λ entries.
    arrived_for h task v.errand (arrived_at v (take (slot.place + 1) slots ++ entries)))
    ≡ after_answer (loading h task v (Value slot)) value
value_kept h task v slot value slots is low =
    ap (λ s. load_values (keys_of (drop (p + 1) (take slot.of s))) v.node.number (p + 1)
    (λ entries. next (take (p + 1) s ++ entries))) is
    ∙ ap (λ front. load_values (keys_of (drop (p + 1) (take slot.of (set before p e))))
    v.node.number (p + 1) (λ entries. next (front ++ entries))) (take_more_set before p e low)
    ∙ ap (λ left. load_values (keys_of left) v.node.number (p + 1)
    (λ entries. next ((take p before ++ e ∷ []) ++ entries)))
    (ap (drop (p + 1)) (take-set-lt slot.of before p e slot.within)
    ∙ drop-set-lt (p + 1) (take _ _) p e (omega arith))
    ∙ (λ i. load_values (keys_of (drop (p + 1) (take slot.of before))) v.node.number (p + 1)
    (λ entries. next (append_assoc (take p before) (e ∷ []) entries i)))
  where
    p : ℕ
    p = slot.place

    before : List (ℕ × ℕ)
    before = v.entries.slots

    e : ℕ × ℕ
    e = (key_at before p, value)

    next : List (ℕ × ℕ) → Script
    next entries = arrived_for h task v.errand (arrived_at v entries)
