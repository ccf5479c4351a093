-- Proofs of laws that an impl in src/ names: no contract says what is defined here.
-- How the parts of the procedures are played alone: loads, and stores in a row.
use Rattle.std.proofs.Common.{◌≡◌, ◌≢◌, ℕ, zero, suc, ◌+◌, ◌*◌, ◌<◌, ◌≤◌, Bool, true, false, cond}
use Rattle.std.proofs.Common.{◌||◌}
use Rattle.std.proofs.Common.{List, [], ◌∷◌, ◌++◌, map, Option, refl, ap, ◌∙◌, sym}
use Rattle.std.proofs.Common.{subst, arith}
use Rattle.std.specs.Prelude.{nat_le, length}
use Rattle.std.specs.List.{list_any, AllByRecursion as Each}
use Rattle.std.proofs.Math.Path.{fun_ext}
use Rattle.std.proofs.lemmas.Bool.Decides.{nat_tests}
use Rattle.vyrd_base.specs.Places.{numbers_from}
use Rattle.vyrd_memory.specs.Scripts.{Script}
use Rattle.vyrd_memory.specs.Alone.{Memory, with_cell, Outcome, alone}
use Rattle.vyrd_memory.proofs.Memories.{changed_cell, other_cell}
use Rattle.vyrd_memory.proofs.AloneLaws.{given_back}
use Rattle.vyrd_tree.specs.Contents.{key_at, value_at, BeginsAt, entries_from, Entries}
use Rattle.vyrd_tree.specs.Laws.Alone.Changes.{entries_alike}
use Rattle.vyrd_tree.specs.Procedures.Walk.{load_keys, load_values, child_place}
use Rattle.vyrd_tree.specs.Procedures.Split.{write_entries}

-- A lock that was free is taken and given back: it goes on from the memory that it was.
pub unlocked : (c : ℕ) (later : Script) (m : Memory) (lock v : ℕ) (Q : Option Outcome → Type 0)
    → m lock ≡ 0 → Q (alone c later m)
    → Q (alone c later (with_cell (with_cell m lock v) lock 0))
unlocked c later m lock v Q free e = subst (λ m. Q (alone c later m)) (sym same) e
  where
    same : with_cell (with_cell m lock v) lock 0 ≡ m
    same = fun_ext (λ cell. given_back m (with_cell m lock v) lock cell free
        (λ apart. other_cell m lock v cell apart))

-- a node's keys are loaded, and then its values
pub keys_loaded : (c : ℕ) (m : Memory) (many node place : ℕ) (loaded : List ℕ → Script)
    → alone c (load_keys many node place loaded) m
    ≡ alone c (loaded (map (key_at m node) (numbers_from place many))) m
keys_loaded c m zero node place loaded = refl
keys_loaded c m (suc many) node place loaded =
    keys_loaded c m many node (place + 1) (λ keys. loaded (key_at m node place ∷ keys))

pub values_loaded : (c : ℕ) (m : Memory) (many node place : ℕ) (loaded : Entries → Script)
    → alone c (load_values (map (key_at m node) (numbers_from place many)) node place loaded) m
    ≡ alone c (loaded (entries_from m node place many)) m
values_loaded c m zero node place loaded = refl
values_loaded c m (suc many) node place loaded =
    values_loaded c m many node (place + 1)
    (λ entries. loaded ((key_at m node place, value_at m node place) ∷ entries))

-- the place of the last key that is at most this one
pub child_is : (key : ℕ → ℕ) (k place many : ℕ)
    → list_any (λ other. nat_le other k) (map key (numbers_from place many)) ≡ true
    → (child_place k (map key (numbers_from place many)) < many)
    × (key (place + child_place k (map key (numbers_from place many))) ≤ k)
child_is key k place zero e = cc
child_is key k place (suc many) e =
    by_rest (list_any (λ other. nat_le other k) (map key (numbers_from (place + 1) many))) refl e
    (child_is key k (place + 1) many)
  where
    rest : ℕ
    rest = child_place k (map key (numbers_from (place + 1) many))

    says : (a : ℕ) → (nat_le a k || false) ≡ true → a ≤ k
    says a e = grind (arith, nat_tests)

    by_rest : (b : Bool)
        → list_any (λ other. nat_le other k) (map key (numbers_from (place + 1) many)) ≡ b
        → (nat_le (key place) k
        || list_any (λ other. nat_le other k) (map key (numbers_from (place + 1) many)))
        ≡ true
        → (list_any (λ other. nat_le other k) (map key (numbers_from (place + 1) many)) ≡ true
        → (rest < many) × (key (place + 1 + rest) ≤ k))
        → (cond (list_any (λ other. nat_le other k) (map key (numbers_from (place + 1) many)))
        (rest + 1) 0
        < suc many)
        × (key (place + cond
        (list_any (λ other. nat_le other k) (map key (numbers_from (place + 1) many))) (rest + 1) 0)
        ≤ k)
    by_rest true some e later =
        let there = later some in
        let at : place + 1 + rest ≡ place + (rest + 1) = omega arith in
        subst (λ b. (cond b (rest + 1) 0 < suc many) × (key (place + cond b (rest + 1) 0) ≤ k))
        (sym some)
        ((let low = there.0 in omega arith), subst (λ i. key i ≤ k) at there.1)
    by_rest false none e later =
        let at : place ≡ place + 0 = omega arith in
        subst (λ b. (cond b (rest + 1) 0 < suc many) × (key (place + cond b (rest + 1) 0) ≤ k))
        (sym none) (
          omega arith,
          subst (λ i. key i ≤ k) at
              (says (key place) (sym (ap (λ b. nat_le (key place) k || b) none) ∙ e)),
        )

-- the first key is at most the low of the node
pub any_from : (key : ℕ → ℕ) (k place many : ℕ) → 1 ≤ many → key place ≤ k
    → list_any (λ other. nat_le other k) (map key (numbers_from place many)) ≡ true
any_from key k place zero some le = absurd (omega (arith, some))
any_from key k place (suc many) some le =
    ap (λ b. b || list_any (λ other. nat_le other k) (map key (numbers_from (place + 1) many)))
    (is_le (key place) k le)
  where
    is_le : (a b : ℕ) → a ≤ b → nat_le a b ≡ true
    is_le a b le = grind (arith, nat_tests)

pub begins_at : (key value : ℕ → ℕ) (from place many : ℕ)
    → BeginsAt from (map (λ j. (key j, value j)) (numbers_from place many)) → key place ≡ from
begins_at key value from place zero e = absurd e
begins_at key value from place (suc many) e = e

-- what holds of each entry holds of the one at a place
pub each_number : (P : ℕ × ℕ → Type 0) (f : ℕ → ℕ × ℕ) (place many i : ℕ)
    → Each P (map f (numbers_from place many)) → i < many → P (f (place + i))
each_number P f place zero i all low = absurd (omega (arith, low))
each_number P f place (suc many) zero all low =
    let at : place ≡ place + 0 = omega arith in subst (λ j. P (f j)) at all.0
each_number P f place (suc many) (suc i) all low =
    let at : place + 1 + i ≡ place + suc i = omega arith in
    subst (λ j. P (f j)) at (each_number P f (place + 1) many i all.1 (omega arith))

-- entries that stand in a node from this place on, and no other cell has changed
pub record Written (m m' : Memory) (node place : ℕ) (xs : Entries) : Type 0 where
  pub stand : entries_from m' node place (length xs) ≡ xs
  pub others : (cell : ℕ) → ((j : ℕ) → place ≤ j → j < place + length xs
      → (cell ≢ 12 * node + (4 + j)) × (cell ≢ 12 * node + (8 + j))) → m' cell ≡ m cell

-- entries are written from a place on
pub entries_written : (c : ℕ) (m : Memory) (Q : Option Outcome → Type 0) (node place : ℕ)
    (xs : Entries) (later : Script)
    → place + length xs ≤ 4 → ((m' : Memory) → Written m m' node place xs → Q (alone c later m'))
    → Q (alone c (write_entries node place xs later) m)
entries_written c m Q node place [] later fits goes_on =
    goes_on m (record { stand = refl; others = λ cell off. refl })
entries_written c m Q node place ((key, value) ∷ xs) later fits goes_on =
    entries_written c m₂ Q node (place + 1) xs later (omega (arith, fits))
    (λ m' w. goes_on m' (record {
      stand = front m' w;
      others =
          λ cell off. w.others cell (λ j from to. off j (omega (arith, from)) (omega (arith, to)))
          ∙ other_cell m₁ (12 * node + (8 + place)) value cell
          (off place (omega arith) (omega arith)).1
          ∙ other_cell m (12 * node + (4 + place)) key cell
          (off place (omega arith) (omega arith)).0;
    }))
  where
    m₁ : Memory
    m₁ = with_cell m (12 * node + (4 + place)) key

    m₂ : Memory
    m₂ = with_cell m₁ (12 * node + (8 + place)) value

    cons_same : (a b a' b' : ℕ) (xs ys : Entries) → a' ≡ a → b' ≡ b → xs ≡ ys
        → (a', b') ∷ xs ≡ (a, b) ∷ ys
    cons_same a b a' b' xs ys e f g =
        ap (λ x. (x, b') ∷ xs) e ∙ ap (λ y. (a, y) ∷ xs) f ∙ ap (λ zs. (a, b) ∷ zs) g

    front : (m' : Memory) → Written m₂ m' node (place + 1) xs
        → entries_from m' node place (suc (length xs)) ≡ (key, value) ∷ xs
    front m' w =
        cons_same key value (key_at m' node place) (value_at m' node place)
        (entries_from m' node (place + 1) (length xs)) xs
        (w.others (12 * node + (4 + place))
        (λ j from to. (omega (arith, from, to), omega (arith, from, to, fits)))
        ∙ other_cell m₁ (12 * node + (8 + place)) value (12 * node + (4 + place)) (omega arith)
        ∙ changed_cell m (12 * node + (4 + place)) key)
        (w.others (12 * node + (8 + place))
        (λ j from to. (omega (arith, from, to, fits), omega (arith, from, to)))
        ∙ changed_cell m₁ (12 * node + (8 + place)) value) w.stand

-- two runs of entries side by side
pub entries_join : (m : Memory) (node place a b : ℕ)
    → entries_from m node place (a + b)
    ≡ entries_from m node place a ++ entries_from m node (place + a) b
entries_join m node place zero b =
    let e : 0 + b ≡ b = omega arith in
    let f : place ≡ place + 0 = omega arith in ap (entries_from m node place) e
    ∙ ap (λ p. entries_from m node p b) f
entries_join m node place (suc a) b =
    let e : suc a + b ≡ suc (a + b) = omega arith in
    let f : place + 1 + a ≡ place + suc a = omega arith in
    ap (entries_from m node place) e ∙ ap (λ xs. (key_at m node place, value_at m node place) ∷ xs)
    (entries_join m node (place + 1) a b)
    ∙ ap (λ p. entries_from m node place (suc a) ++ entries_from m node p b) f

-- the front of a run
pub entries_front : (m : Memory) (node place many : ℕ) (xs ys : Entries)
    → entries_from m node place many ≡ xs ++ ys
    → entries_from m node place (length xs) ≡ xs
entries_front m node place many [] ys e = refl
entries_front m node place zero (x ∷ xs) ys e = cc
entries_front m node place (suc many) (x ∷ xs) ys e =
    head_and_tail (key_at m node place, value_at m node place) x
    (entries_from m node (place + 1) many) (xs ++ ys) e
    (entries_front m node (place + 1) many xs ys)
  where
    head_and_tail : (a b : ℕ × ℕ) (zs ws : Entries) → a ∷ zs ≡ b ∷ ws
        → (zs ≡ ws → entries_from m node (place + 1) (length xs) ≡ xs)
        → a ∷ entries_from m node (place + 1) (length xs) ≡ b ∷ xs
    head_and_tail a b zs ws e later =
        let head : a ≡ b = cc in
        let tail : zs ≡ ws = cc in
        ap (λ z. z ∷ entries_from m node (place + 1) (length xs)) head
        ∙ ap (λ us. b ∷ us) (later tail)

-- entries that stood before the place stand there still
pub front_stands : (m m' : Memory) (node : ℕ) (many : ℕ) (front back xs : Entries)
    → entries_from m node 0 many ≡ front ++ back → Written m m' node (length front) xs
    → length front + length xs ≤ 4
    → entries_from m' node 0 (length front + length xs) ≡ front ++ xs
front_stands m m' node many front back xs e w fits =
    entries_join m' node 0 (length front) (length xs)
    ∙ ap (λ ys. ys ++ entries_from m' node (0 + length front) (length xs))
    (entries_alike m m' node 0 (length front) (λ j from to. (
      w.others (12 * node + (4 + j))
          (λ i from' to'. (omega (arith, from', to), omega (arith, from', to', fits))),
      w.others (12 * node + (8 + j))
          (λ i from' to'. (omega (arith, from', to', to, fits), omega (arith, from', to))),
    )) ∙ entries_front m node 0 many front back e)
    ∙ ap (λ p. front ++ entries_from m' node p (length xs))
    (let f : 0 + length front ≡ length front = omega arith in f)
    ∙ ap (λ ys. front ++ ys) w.stand
