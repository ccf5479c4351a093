-- What the log shows has the leaves that callers see. So the state that the tree shows is the view
-- of the log's words.
use Rattle.vyrd_every.proofs.Prelude
use Prelude.{◌≡◌, ◌≢◌, ℕ, zero, suc, ◌+◌, ◌*◌, ◌<◌, ◌⊎◌, inl, inr, Bool, true, false, List, [], ◌∷◌}
use Prelude.{◌++◌, map, refl, ap, ◌∙◌, sym, subst, arith, ◌==◌, ◌&&◌, ◌||◌, nat_le, slice_index}
use Prelude.{is_some, list_any, map_alike_from, Header, Tree, Entry, Stamped, numbers_below}
use Prelude.{has_block, plain_words, plain_words_of, Amounts, amount_of, collected, given}
use Prelude.{ended_effects, ended_value, ended_words, view_of_words, parts_of, right_of, node_parts}
use Prelude.{damage, chain_parts_from, chain_parts, wrote, wrote_is, Memory, Script, part_of}
use Prelude.{AreSoundScripts, situation_after, agrees, IsRun, run_keeps, element_below}
use Prelude.{collected-is, root_cell, zero_or, level_at, last_in, root_in, after_few, shown_by}
use Prelude.{log_in, Shape, IsLinked, ShowsState, TreeLocals, IsWordOf, MayHold, NoneOut, OneOut}
use Prelude.{TreeInvariant, never}
use Rattle.vyrd_every.proofs.Trees.Kept.{linked_low}
use Rattle.vyrd_every.proofs.Trees.Unused.{SameNodes, nodes_linked, nodes_state}
use Rattle.vyrd_every.proofs.Trees.Written.{given_by, not_written}
use Rattle.vyrd_every.proofs.Trees.Views.{OnChain, next_on_chain, covered_in, leaf_gives}

-- the same words in each linked leaf
abbrev SameLeaves : Shape → List ℕ → List ℕ → Type 0
SameLeaves g words others = (n i : ℕ) → g.linked n ≡ true → level_at (slice_index words) n ≡ 0
    → i < 12
    → slice_index others (12 * n + i) ≡ slice_index words (12 * n + i)

same_parts : (words others : List ℕ) (n : ℕ)
    → ((i : ℕ) → i < 12 → slice_index others (12 * n + i) ≡ slice_index words (12 * n + i))
    → node_parts others n ≡ node_parts words n
same_parts words others n same = search (map_alike_from, arith)

-- what the chain shows after a node
abbrev ended : ℕ → List ℕ → ℕ → ℕ → List (ℕ × ℕ) → List (ℕ × ℕ)
ended size seen n r rest = elim (r == 0) [
  | true ↦ []
  | false ↦ elim (nat_le size r || list_any (λ y. y == r) (n ∷ seen)) [
    | true ↦ damage
    | false ↦ rest
  ]
]

abbrev tail : ℕ → ℕ → List ℕ → ℕ → List ℕ → ℕ → List (ℕ × ℕ)
tail size left seen n ws r = ended size seen n r (chain_parts_from size ws left (n ∷ seen) r)

-- so the same chain
same_chain : (size : ℕ) (g : Shape) (words others : List ℕ) → IsLinked size g (slice_index words)
    → SameLeaves g words others → (left : ℕ) (seen : List ℕ) (n : ℕ)
    → OnChain size g (slice_index words) left seen n → chain_parts_from size others left seen n
    ≡ chain_parts_from size words left seen n
same_chain size g words others t same zero seen n here = refl
same_chain size g words others t same (suc left) seen n here =
    ap (λ parts. parts ++ tail size left seen n others (right_of others n))
    (same_parts words others n (λ i low. same n i here.linked here.leaf low))
    ∙ ap (λ r. node_parts words n ++ tail size left seen n others r)
    (same n 3 here.linked here.leaf (omega arith)) ∙ ap (λ rest. node_parts words n ++ rest)
    (by_right (zero_or (right_of words n))
    (λ next. same_chain size g words others t same left (n ∷ seen) (right_of words n) next))
  where
    by_right : (right_of words n ≡ 0) ⊎ (right_of words n ≢ 0)
        → (OnChain size g (slice_index words) left (n ∷ seen) (right_of words n)
        → chain_parts_from size others left (n ∷ seen) (right_of words n)
        ≡ chain_parts_from size words left (n ∷ seen) (right_of words n))
        → tail size left seen n others (right_of words n) ≡ tail size left seen n words
        (right_of words n)
    by_right (inl none) later = search arith
    by_right (inr on) later =
        cc (later (next_on_chain size g (slice_index words) t left seen n here
        (t.link n here.linked on)))

-- the view of the words that the log leaves, where its leaves are those of the tree
pub view_from : (h : Header) (g : Shape) (m : Memory) (log : List Entry) (state : Amounts)
    → h.subject ≡ Tree → IsLinked h.size g m → ShowsState g m state
    → ((n i : ℕ) → g.linked n ≡ true → level_at m n ≡ 0 → i < 12 → shown_by log (12 * n + i)
    ≡ m (12 * n + i))
    → view_of_words h (ended_words h log) ≡ state
unfolding view_of_words ended_words
view_from h g m log state is t st leaves =
    ap (λ s. collected (parts_of s h.size shown)) is ∙ collected-is (chain_parts h.size shown) state
    st.formed given_is
  where
    shown : List ℕ
    shown = map (ended_value (ended_effects log)) (numbers_below (plain_words h))

    words : List ℕ
    words = map m (numbers_below (plain_words h))

    plain : (cell : ℕ) → cell < 12 * h.size + 2 → cell < plain_words h
    plain cell low = subst (λ s. cell < plain_words_of s h.size) (sym is) low

    shown_word : (cell : ℕ) → cell < 12 * h.size + 2 → slice_index shown cell ≡ shown_by log cell
    shown_word cell low = element_below (ended_value (ended_effects log)) (plain_words h) cell
        (plain cell low)

    word : (cell : ℕ) → cell < 12 * h.size + 2 → slice_index words cell ≡ m cell
    word cell low = element_below m (plain_words h) cell (plain cell low)

    same : SameNodes h.size m (slice_index words)
    same = record {
      words = λ cell low. word cell (omega (arith, low));
      more = (let last = word (12 * h.size + 1) (omega arith) in omega arith);
      fits = (let last = word (12 * h.size + 1) (omega arith) in let fits = t.last_low in
          omega arith);
    }

    linked : IsLinked h.size g (slice_index words)
    linked = nodes_linked h.size g m (slice_index words) t same

    shows : ShowsState g (slice_index words) state
    shows = nodes_state h.size g m (slice_index words) t same state st

    same_leaves : SameLeaves g words shown
    same_leaves n i of_n leaf low =
        let fits : n < h.size = linked_low h.size g m t n of_n in
        let cell : 12 * n + i < 12 * h.size + 2 = omega (arith, fits, low) in
        let level : 12 * n + 0 < 12 * h.size + 2 = omega (arith, fits) in
        shown_word (12 * n + i) cell ∙ leaves n i of_n (sym (word (12 * n + 0) level) ∙ leaf) low
        ∙ sym (word (12 * n + i) cell)

    begins : OnChain h.size g (slice_index words) h.size [] 0
    begins =
        let few = after_few (last_in h.size (slice_index words)) (slice_index words) g.low 0
        (omega arith) in
        let fits = linked.last_low in
        record {
          linked = linked.zero_linked;
          leaf = linked.zero_leaf;
          more = omega arith;
          unseen = λ x used le. refl;
        }

    given_is : (q : ℕ) → given q (chain_parts h.size shown) ≡ amount_of state q
    given_is q =
        let c = covered_in h.size g (slice_index words) linked q in
        ap (given q) (same_chain h.size g words shown linked same_leaves h.size [] 0 begins)
        ∙ leaf_gives h.size g words linked q c.node c.linked c.level_is c.covers
        ∙ sym (shows.shows q c.node c.linked c.level_is c.covers)

-- between any two events the state is the view of the log's words
pub view_between : (h : Header) (scripts : List Script) (earlier : List Stamped)
    (locals : ℕ → TreeLocals) (g : Shape) (m : Memory) (passed : List Amounts)
    (state : Amounts) → h.subject ≡ Tree → AreSoundScripts h scripts → IsRun h scripts earlier
    → TreeInvariant h scripts earlier locals g m passed state
    → view_of_words h (ended_words h (log_in earlier)) ≡ state
view_between h scripts earlier locals g m passed state is sound run inv =
    view_from h g m (log_in earlier) state is inv.tree inv.shows
    (λ n i of_n leaf low. by_ties n i of_n leaf low inv.ties)
  where
    by_ties : (n i : ℕ) → g.linked n ≡ true → level_at m n ≡ 0 → i < 12
        → NoneOut h locals g m (shown_by (log_in earlier))
        ⊎ OneOut h locals m (shown_by (log_in earlier))
        → shown_by (log_in earlier) (12 * n + i) ≡ m (12 * n + i)
    by_ties n i of_n leaf low (inl none) = sym (ap (λ f. f (12 * n + i)) none.same)
    by_ties n i of_n leaf low (inr o) =
        sym (ap (λ f. f (12 * n + i)) o.same
        ∙ not_written (locals o.who).pending (shown_by (log_in earlier)) (12 * n + i)
        (by_given (is_some (given_by (12 * n + i) (locals o.who).pending)) refl))
      where
        inside : has_block o.who (log_in earlier) ≡ true
        inside = (agrees h o.who earlier
            (run_keeps h scripts earlier o.who sound run o.low)).in_block
            ∙ ((inv.each o.who o.low).alone o.out).1

        not_held : MayHold h (situation_after (part_of o.who earlier)) (locals o.who) g m
            (12 * n + i) → ⊥
        not_held (inl quiet) = never quiet.0 o.out
        not_held (inr out) = by_word out.1
          where
            by_word : (12 * n + i ≡ root_cell h) ⊎ IsWordOf (root_in h.size m) (12 * n + i) → ⊥
            by_word (inl root) =
                let fits : n < h.size = linked_low h.size g m inv.tree n of_n in
                let at : 12 * n + i ≡ 12 * h.size = root in
                omega (arith, fits, at, low)
            by_word (inr word) =
                let at : 12 * n + i ≡ 12 * root_in h.size m + word.place = word.is in
                let small : word.place < 12 = word.low in
                let same : n ≡ root_in h.size m = omega (arith, at, small, low) in
                let above : g.top < level_at m (root_in h.size m) = (inv.each o.who o.low).ahead
                o.out in
                let level : level_at m n ≡ level_at m (root_in h.size m) = ap (level_at m) same in
                omega (arith, above, level, leaf)

        by_given : (b : Bool) → is_some (given_by (12 * n + i) (locals o.who).pending) ≡ b
            → b ≡ false
        by_given false f = refl
        by_given true f = absurd (not_held ((inv.each o.who o.low).covers (12 * n + i)
            (ap (λ b. b && wrote o.who (12 * n + i) (log_in earlier)) inside
            ∙ wrote_is o.who (12 * n + i) (log_in earlier) inside
            ∙ sym (ap (λ ws. is_some (given_by (12 * n + i) ws)) (inv.each o.who o.low).pending)
            ∙ f)))
