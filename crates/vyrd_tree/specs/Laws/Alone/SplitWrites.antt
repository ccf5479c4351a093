-- Proofs of laws that an impl in src/ names: no contract says what is defined here.
-- The stores of a split and of a new root, played alone.
use Rattle.std.proofs.Common.{◌≡◌, ◌≢◌, ℕ, ◌+◌, ◌*◌, ◌<◌, ◌≤◌, ◌⊎◌, inl, inr, [], ◌∷◌, ◌++◌, length}
use Rattle.std.proofs.Common.{Option, refl, ap, ◌∙◌, sym, subst, arith}
use Rattle.std.specs.Prelude.{drop}
use Rattle.vyrd_base.specs.declared.header.Header.{Header}
use Rattle.vyrd_base.specs.declared.log.Kind.{Kind}
use Rattle.vyrd_memory.specs.declared.act.Act.TheVariants.{Store, Mark}
use Rattle.vyrd_memory.specs.Scripts.{Script, perform}
use Rattle.vyrd_memory.specs.Alone.{Memory, with_cell, Outcome, alone}
use Rattle.vyrd_memory.proofs.Memories.{changed_cell, other_cell}
use Rattle.vyrd_tree.specs.Contents.{level_at, count_at, bound_at, right_at, last_in, root_in}
use Rattle.vyrd_tree.specs.Contents.{entries_at, entries_from, Entries}
use Rattle.vyrd_tree.specs.Laws.Alone.EntriesStaySound.{length_join}
use Rattle.vyrd_tree.specs.Laws.Alone.Changes.{entries_alike}
use Rattle.vyrd_tree.specs.Laws.Alone.Played.{Written, entries_written, front_stands}
use Rattle.vyrd_tree.specs.Laws.Alone.WalkArrives.{loaded_at}
use Rattle.vyrd_tree.specs.Laws.Alone.SplitKeepsTree.{IsSplit}
use Rattle.vyrd_tree.specs.Laws.Alone.RootKeepsTree.{IsGrown}
use Rattle.vyrd_tree.specs.Laws.Alone.BlocksPlayed.{SameLocks, GoesOn}
use Rattle.vyrd_tree.specs.Cells.{count_cell, bound_cell, right_cell, root_cell, used_cell, lock_of}
use Rattle.vyrd_tree.specs.Cells.{unlock_node}
use Rattle.vyrd_tree.specs.Procedures.Split.{write_entries, write_node, lower_half, upper_half}
use Rattle.vyrd_tree.specs.Procedures.Split.{first_key, split}
use Rattle.vyrd_tree.specs.Laws.Alone.Tested.{length-entries}

-- a node with these words and two entries, and no other cell has changed
pub record NodeWritten (m m' : Memory) (node level bound right : ℕ) (xs : Entries) : Type 0 where
  pub level_is : level_at m' node ≡ level
  pub count_is : count_at m' node ≡ 2
  pub bound_is : bound_at m' node ≡ bound
  pub right_is : right_at m' node ≡ right
  pub entries : entries_at m' node ≡ xs
  pub others : (cell : ℕ) → (cell < 12 * node) ⊎ (12 * node + 12 ≤ cell) → m' cell ≡ m cell

pub node_written : (c : ℕ) (m : Memory) (Q : Option Outcome → Type 0) (node level bound right : ℕ)
    (xs : Entries) (later : Script)
    → length xs ≡ 2
    → ((m' : Memory) → NodeWritten m m' node level bound right xs → Q (alone c later m'))
    → Q (alone c (write_node node level bound right xs later) m)
node_written c m Q node level bound right xs later two goes_on =
    entries_written c m₄ Q node 0 xs later (omega (arith, two)) (λ m' w. goes_on m' (record {
      level_is = head m' w 0 (omega arith)
          ∙ other_cell m₃ (12 * node + 3) right (12 * node + 0) (omega arith)
          ∙ other_cell m₂ (12 * node + 2) bound (12 * node + 0) (omega arith)
          ∙ other_cell m₁ (12 * node + 1) 2 (12 * node + 0) (omega arith)
          ∙ changed_cell m (12 * node + 0) level;
      count_is = count m' w;
      bound_is = head m' w 2 (omega arith)
          ∙ other_cell m₃ (12 * node + 3) right (12 * node + 2) (omega arith)
          ∙ changed_cell m₂ (12 * node + 2) bound;
      right_is = head m' w 3 (omega arith) ∙ changed_cell m₃ (12 * node + 3) right;
      entries = ap (entries_from m' node 0) (count m' w ∙ sym two) ∙ w.stand;
      others = λ cell off. w.others cell (λ j from to. apart cell off j (omega (arith, to, two)))
          ∙ other_cell m₃ (12 * node + 3) right cell (not_at cell off 3 (omega arith))
          ∙ other_cell m₂ (12 * node + 2) bound cell (not_at cell off 2 (omega arith))
          ∙ other_cell m₁ (12 * node + 1) 2 cell (not_at cell off 1 (omega arith))
          ∙ other_cell m (12 * node + 0) level cell (not_at cell off 0 (omega arith));
    }))
  where
    m₁ : Memory
    m₁ = with_cell m (12 * node + 0) level

    m₂ : Memory
    m₂ = with_cell m₁ (12 * node + 1) 2

    m₃ : Memory
    m₃ = with_cell m₂ (12 * node + 2) bound

    m₄ : Memory
    m₄ = with_cell m₃ (12 * node + 3) right

    head : (m' : Memory) → Written m₄ m' node 0 xs → (i : ℕ) → i < 4
        → m' (12 * node + i) ≡ m₄ (12 * node + i)
    head m' w i low =
        w.others (12 * node + i) (λ j from to. (omega (arith, low), omega (arith, low)))

    count : (m' : Memory) → Written m₄ m' node 0 xs → count_at m' node ≡ 2
    count m' w = head m' w 1 (omega arith)
        ∙ other_cell m₃ (12 * node + 3) right (12 * node + 1) (omega arith)
        ∙ other_cell m₂ (12 * node + 2) bound (12 * node + 1) (omega arith)
        ∙ changed_cell m₁ (12 * node + 1) 2

    not_at : (cell : ℕ) → (cell < 12 * node) ⊎ (12 * node + 12 ≤ cell) → (i : ℕ) → i < 12
        → cell ≢ 12 * node + i
    not_at cell (inl lt) i low = omega (arith, lt)
    not_at cell (inr le) i low = omega (arith, le, low)

    apart : (cell : ℕ) → (cell < 12 * node) ⊎ (12 * node + 12 ≤ cell) → (j : ℕ) → j < 4
        → (cell ≢ 12 * node + (4 + j)) × (cell ≢ 12 * node + (8 + j))
    apart cell off j low =
        (not_at cell off (4 + j) (omega (arith, low)), not_at cell off (8 + j) (omega (arith, low)))

-- Of the three entries that stay, those before the new one's place stand already.
pub record IsLower (front back : Entries) (entry : ℕ × ℕ) (pre rest : Entries) : Type 0 where
  pub stood : front ++ back ≡ pre ++ rest
  pub lower : lower_half (front ++ entry ∷ back)
      ≡ pre ++ drop (length front) (lower_half (front ++ entry ∷ back))
  pub place : (length pre ≡ length front)
      ⊎ (drop (length front) (lower_half (front ++ entry ∷ back)) ≡ [])

pub lower_stood : (front back : Entries) (entry : ℕ × ℕ) → length front + length back ≡ 4
    → (pre : Entries) × (rest : Entries) × IsLower front back entry pre rest
lower_stood [] back entry four = ([], back, record { stood = refl; lower = refl; place = inl refl })
lower_stood (a ∷ []) back entry four =
    (a ∷ [], back, record { stood = refl; lower = refl; place = inl refl })
lower_stood (a ∷ b ∷ []) back entry four =
    (a ∷ b ∷ [], back, record { stood = refl; lower = refl; place = inl refl })
lower_stood (a ∷ b ∷ d ∷ []) back entry four =
    (a ∷ b ∷ d ∷ [], back, record { stood = refl; lower = refl; place = inl refl })
lower_stood (a ∷ b ∷ d ∷ e ∷ []) back entry four =
    (a ∷ b ∷ d ∷ [], e ∷ back, record { stood = refl; lower = refl; place = inr refl })
lower_stood (a ∷ b ∷ d ∷ e ∷ f ∷ more) back entry four = absurd (omega (arith, four))

-- nothing is written anywhere
pub written_nowhere : (m m' : Memory) (node place place' : ℕ) (xs : Entries) → xs ≡ []
    → Written m m' node place xs
    → Written m m' node place' xs
written_nowhere m m' node place place' xs none w = record {
  stand = none_stand xs none;
  others = λ cell off. w.others cell
      (λ j from to. absurd (let e = ap length none in omega (arith, from, to, e)));
}
  where
    none_stand : (xs : Entries) → xs ≡ [] → entries_from m' node place' (length xs) ≡ xs
    none_stand [] e = refl
    none_stand (x ∷ xs) e = cc

pub written_at : (m m' : Memory) (node place place' : ℕ) (xs : Entries) → place' ≡ place
    → Written m m' node place xs
    → Written m m' node place' xs
written_at m m' node place place' xs e w = subst (λ place. Written m m' node place xs) (sym e) w

-- The stores of a split, from where the new node was got on.
pub split_played : (h : Header) (c : ℕ) (m : Memory) (Q : Option Outcome → Type 0) (n : ℕ)
    (front back : Entries) (entry : ℕ × ℕ) (close : Kind) (later : Script)
    → GoesOn close → n ≤ last_in h.size m → last_in h.size m + 1 < h.size → count_at m n ≡ 4
    → entries_at m n ≡ front ++ back → length (lower_half (front ++ entry ∷ back)) ≡ 3
    → length (upper_half (front ++ entry ∷ back)) ≡ 2
    → ((m' : Memory)
    → IsSplit h.size m m' n (lower_half (front ++ entry ∷ back))
    (upper_half (front ++ entry ∷ back)) (first_key (upper_half (front ++ entry ∷ back)))
    → SameLocks h m m' → Q (alone c later (with_cell m' (lock_of h n) 0)))
    → Q (alone c
    (split (loaded_at m n) (length front) (front ++ entry ∷ back) (last_in h.size m + 1)
    (perform (Mark close) (unlock_node h n later)))
    (with_cell m (used_cell h) (last_in h.size m + 1)))
split_played h c m Q n front back entry close later closes used room full before three two goes_on =
    node_written c m₁ Q u (level_at m n) (bound_at m n) (right_at m n) upper at_n two
    (λ m₂ w. entries_written c m₂ Q n (length front) kept ended fits (λ m₃ w'. done m₂ m₃ w w'))
  where
    five : Entries
    five = front ++ entry ∷ back

    lower : Entries
    lower = lower_half (front ++ entry ∷ back)

    upper : Entries
    upper = upper_half (front ++ entry ∷ back)

    u : ℕ
    u = last_in h.size m + 1

    key : ℕ
    key = first_key (upper_half (front ++ entry ∷ back))

    kept : Entries
    kept = drop (length front) (lower_half (front ++ entry ∷ back))

    m₁ : Memory
    m₁ = with_cell m (used_cell h) (last_in h.size m + 1)

    ended : Script
    ended = perform (Store (count_cell n) 3)
        (perform (Store (bound_cell n) key)
        (perform (Store (right_cell n) u) (perform (Mark close) (unlock_node h n later))))

    at_n : Script
    at_n = write_entries n (length front) kept ended

    four : length front + length back ≡ 4
    four = sym (length_join front back) ∙ sym (ap length before)
        ∙ length-entries m n 0 (count_at m n) ∙ full

    stood : (pre : Entries) × (rest : Entries) × IsLower front back entry pre rest
    stood = lower_stood front back entry four

    pre : Entries
    pre = stood.0

    three_of : length pre + length kept ≡ 3
    three_of = sym (length_join pre kept) ∙ sym (ap length stood.2.lower) ∙ three

    fits : length front + length kept ≤ 4
    fits = by_place stood.2.place
      where
        by_place : (length pre ≡ length front) ⊎ (kept ≡ []) → length front + length kept ≤ 4
        by_place (inl same) = omega (arith, same, three_of)
        by_place (inr none) = let e : length kept ≡ 0 = ap length none in omega (arith, e, four)

    done : (m₂ m₃ : Memory) → NodeWritten m₁ m₂ u (level_at m n) (bound_at m n) (right_at m n) upper
        → Written m₂ m₃ n (length front) kept → Q (alone c ended m₃)
    done m₂ m₃ w w' =
        subst Q (sym (closes end (alone c (unlock_node h n later) end)))
        (goes_on end (record {
          room = room;
          last_is = last_is;
          others = others;
          bound_is = other_cell e₂ (12 * n + 3) u (12 * n + 2) (omega arith)
              ∙ changed_cell e₁ (12 * n + 2) key;
          right_is = changed_cell e₂ (12 * n + 3) u;
          few = (let e = count_n in omega (arith, e));
          entries = ap (entries_from end n 0) (count_n ∙ sym three_of)
              ∙ entries_alike m₃ end n 0 (length pre + length kept)
              (λ j from to. (
                end_same (12 * n + (4 + j)) (λ i low. omega (arith, low)),
                end_same (12 * n + (8 + j)) (λ i low. omega (arith, low)),
              )) ∙ represents
              ∙ sym stood.2.lower;
          new_level = at_u 0 (omega arith) ∙ w.level_is;
          new_bound = at_u 2 (omega arith) ∙ w.bound_is;
          new_right = at_u 3 (omega arith) ∙ w.right_is;
          new_few = (let e = at_u 1 (omega arith) ∙ w.count_is in omega (arith, e));
          new_entries = ap (entries_from end u 0) (at_u 1 (omega arith))
              ∙ entries_alike m₂ end u 0 (count_at m₂ u)
              (λ j from to. (let few = w.count_is in
              (at_u (4 + j) (omega (arith, to, few)), at_u (8 + j) (omega (arith, to, few)))))
              ∙ w.entries;
        })
        locks)
      where
        e₁ : Memory
        e₁ = with_cell m₃ (12 * n + 1) 3

        e₂ : Memory
        e₂ = with_cell e₁ (12 * n + 2) key

        end : Memory
        end = with_cell e₂ (12 * n + 3) u

        end_same : (cell : ℕ) → ((i : ℕ) → i < 4 → cell ≢ 12 * n + i) → end cell ≡ m₃ cell
        end_same cell off = other_cell e₂ (12 * n + 3) u cell (off 3 (omega arith))
            ∙ other_cell e₁ (12 * n + 2) key cell (off 2 (omega arith))
            ∙ other_cell m₃ (12 * n + 1) 3 cell (off 1 (omega arith))

        count_n : count_at end n ≡ 3
        count_n = other_cell e₂ (12 * n + 3) u (12 * n + 1) (omega arith)
            ∙ other_cell e₁ (12 * n + 2) key (12 * n + 1) (omega arith)
            ∙ changed_cell m₃ (12 * n + 1) 3

        -- cells that are none of the node's
        off_n : (cell : ℕ) → (cell < 12 * n + 1) ⊎ (12 * n + 12 ≤ cell) → end cell ≡ m₂ cell
        off_n cell (inl lt) =
            other_cell e₂ (12 * n + 3) u cell (omega (arith, lt))
            ∙ other_cell e₁ (12 * n + 2) key cell (omega (arith, lt))
            ∙ other_cell m₃ (12 * n + 1) 3 cell (omega (arith, lt))
            ∙ w'.others cell (λ j from to. (omega (arith, lt), omega (arith, lt)))
        off_n cell (inr le) =
            end_same cell (λ i low. omega (arith, le, low))
            ∙ w'.others cell
            (λ j from to. (omega (arith, le, to, fits), omega (arith, le, to, fits)))

        at_u : (i : ℕ) → i < 12 → end (12 * u + i) ≡ m₂ (12 * u + i)
        at_u i low = off_n (12 * u + i) (inr (omega (arith, used)))

        others : (cell : ℕ) → cell < 12 * h.size + 2 → cell ≢ 12 * h.size + 1
            → (cell < 12 * n + 1) ⊎ (12 * n + 12 ≤ cell)
            → (cell < 12 * (last_in h.size m + 1)) ⊎ (12 * (last_in h.size m + 1) + 12 ≤ cell)
            → end cell ≡ m cell
        others cell small apart off off' = off_n cell off ∙ w.others cell off'
            ∙ other_cell m (12 * h.size + 1) (last_in h.size m + 1) cell apart

        last_is : last_in h.size end ≡ u
        last_is = off_n (12 * h.size + 1) (inr (omega (arith, used, room)))
            ∙ w.others (12 * h.size + 1) (inr (omega (arith, room)))
            ∙ changed_cell m (12 * h.size + 1) (last_in h.size m + 1)

        locks : SameLocks h m end
        locks cell high =
            off_n cell (inr (omega (arith, used, room, high)))
            ∙ w.others cell (inr (omega (arith, room, high)))
            ∙ other_cell m (12 * h.size + 1) (last_in h.size m + 1) cell (omega (arith, high))

        -- the node's entries before the split
        old_stand : entries_from m₂ n 0 4 ≡ pre ++ stood.1
        old_stand =
            entries_alike m m₂ n 0 4
            (λ j from to. (old (4 + j) (omega (arith, to)), old (8 + j) (omega (arith, to))))
            ∙ ap (entries_from m n 0) (sym full) ∙ before
            ∙ stood.2.stood
          where
            old : (i : ℕ) → i < 12 → m₂ (12 * n + i) ≡ m (12 * n + i)
            old i low = w.others (12 * n + i) (inl (omega (arith, used, low)))
                ∙ other_cell m (12 * h.size + 1) (last_in h.size m + 1) (12 * n + i)
                (omega (arith, used, room, low))

        written_pre : (length pre ≡ length front) ⊎ (kept ≡ []) → Written m₂ m₃ n (length pre) kept
        written_pre (inl same) = written_at m₂ m₃ n (length front) (length pre) kept same w'
        written_pre (inr none) = written_nowhere m₂ m₃ n (length front) (length pre) kept none w'

        represents : entries_from m₃ n 0 (length pre + length kept) ≡ pre ++ kept
        represents = front_stands m₂ m₃ n 4 pre stood.1 kept old_stand (written_pre stood.2.place)
            (omega (arith, three_of))

-- The stores of a new root, from where its node was got on.
pub grow_played : (h : Header) (c : ℕ) (m : Memory) (Q : Option Outcome → Type 0)
    (level key child root : ℕ) (close : Kind) (later : Script)
    → GoesOn close → last_in h.size m + 1 < h.size → level ≡ level_at m (root_in h.size m)
    → root ≡ root_in h.size m
    → ((m' : Memory) → IsGrown h.size m m' key child → SameLocks h m m' → Q (alone c later m'))
    → Q (alone c (write_node (last_in h.size m + 1) (level + 1) 0 0 ((0, root) ∷ (key, child) ∷ [])
    (perform (Store (root_cell h) (last_in h.size m + 1))
    (perform (Mark close) later))) (with_cell m (used_cell h) (last_in h.size m + 1)))
grow_played h c m Q level key child root close later closes room level_is root_is goes_on =
    node_written c m₁ Q u (level + 1) 0 0 ((0, root) ∷ (key, child) ∷ []) ended refl done
  where
    u : ℕ
    u = last_in h.size m + 1

    m₁ : Memory
    m₁ = with_cell m (used_cell h) (last_in h.size m + 1)

    ended : Script
    ended = perform (Store (root_cell h) (last_in h.size m + 1)) (perform (Mark close) later)

    done : (m₂ : Memory) → NodeWritten m₁ m₂ u (level + 1) 0 0 ((0, root) ∷ (key, child) ∷ [])
        → Q (alone c ended m₂)
    done m₂ w =
        subst Q (sym (closes end (alone c later end)))
        (goes_on end (record {
          room = room;
          last_is = other_cell m₂ (12 * h.size) u (12 * h.size + 1) (omega arith)
              ∙ w.others (12 * h.size + 1) (inr (omega (arith, room)))
              ∙ changed_cell m (12 * h.size + 1) (last_in h.size m + 1);
          root_is = changed_cell m₂ (12 * h.size) u;
          others = λ cell small off. other_cell m₂ (12 * h.size) u cell (omega (arith, small))
              ∙ w.others cell off
              ∙ other_cell m (12 * h.size + 1) (last_in h.size m + 1) cell (omega (arith, small));
          new_level = at_u 0 (omega arith) ∙ w.level_is ∙ ap (λ n. n + 1) level_is;
          new_bound = at_u 2 (omega arith) ∙ w.bound_is;
          new_right = at_u 3 (omega arith) ∙ w.right_is;
          new_few = (let e = at_u 1 (omega arith) ∙ w.count_is in omega (arith, e));
          new_entries = ap (entries_from end u 0) (at_u 1 (omega arith))
              ∙ entries_alike m₂ end u 0 (count_at m₂ u)
              (λ j from to. (let few = w.count_is in
              (at_u (4 + j) (omega (arith, to, few)), at_u (8 + j) (omega (arith, to, few)))))
              ∙ w.entries
              ∙ ap (λ root. (0, root) ∷ (key, child) ∷ []) root_is;
        }) (λ cell high. other_cell m₂ (12 * h.size) u cell (omega (arith, high))
        ∙ w.others cell (inr (omega (arith, room, high)))
        ∙ other_cell m (12 * h.size + 1) (last_in h.size m + 1) cell (omega (arith, high))))
      where
        end : Memory
        end = with_cell m₂ (12 * h.size) u

        at_u : (i : ℕ) → i < 12 → end (12 * u + i) ≡ m₂ (12 * u + i)
        at_u i low = other_cell m₂ (12 * h.size) u (12 * u + i) (omega (arith, room, low))
