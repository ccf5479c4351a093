-- Words for which a state stands where all locks are 0, and that zeroed words are the start.
use Rattle.vyrd_base.proofs.Prelude
use Prelude.{◌≡◌, ℕ, zero, suc, ◌+◌, ◌*◌, ◌≤◌, Bool, true, not, ◌&&◌, ◌||◌, List, [], ◌∷◌, ◌++◌}
use Prelude.{length, map, Some, refl, ap, ◌∙◌, sym, arith, length-append, ◌==◌, nat_lt, nat_le}
use Prelude.{drop, flat_map, find, is_none, replicate, slice_index, then_some, list_all, Header}
use Prelude.{Subject, Multiset, Cache, Tree, Buffers, Own, numbers_from, plain_words, lock_words}
use Prelude.{plus_amount, collected, entry_parts, node_parts, chain_parts_from, buffer_at}
use Prelude.{is_buffer, slot_parts, view_of_words, state_of_words, is_built_in, is_same, is_below}
use Rattle.std.proofs.Math.Seq.{drop-append_seam}
use Rattle.std.proofs.lemmas.List.{length-replicate, replicate-append-replicate}
use Rattle.vyrd_base.specs.Tree.{entries_of, nodes, left_of, low_of, is_linked, is_bounded, rises}
use Rattle.vyrd_base.specs.Tree.{keys_at, has_sound_keys, is_leaf_entry, begins_with}
use Rattle.vyrd_base.specs.Tree.{has_sound_entries, is_only_first, is_sound_node, is_tree}
use Rattle.vyrd_base.specs.Buffers.{buffer_parts}
use Rattle.vyrd_base.specs.Multiset.{is_sound_slot}
use Rattle.vyrd_base.specs.Cache.{chunk_at, chunk_parts, is_sound_chunk}
use Rattle.vyrd_base.specs.Views.{parts_of}
use Rattle.vyrd_base.specs.Represented.{is_sound}
use Rattle.vyrd_base.proofs.ListLaws.{zeros}
use Rattle.vyrd_base.proofs.HeaderLaws.{some_size}

-- two lists of words that have the same word in each place, and 0 past their ends
abbrev pub SameWords : List ℕ → List ℕ → Type 0
SameWords v w = (i : ℕ) → slice_index v i ≡ slice_index w i

-- zeros after words change none of them
pub padded : (words : List ℕ) (k : ℕ) → SameWords (words ++ replicate k 0) words
padded [] k i = zeros k i
padded (word ∷ words) k zero = refl
padded (word ∷ words) k (suc i) = padded words k i

-- Each definition reads words one by one, so it tells the same of both lists.
chunk_same : (v w : List ℕ) → SameWords v w → (h : ℕ) → chunk_at v h ≡ chunk_at w h
chunk_same v w same h = grind arith

buffer_same : (v w : List ℕ) → SameWords v w → (b : ℕ) → buffer_at v b ≡ buffer_at w b
buffer_same v w same b = search arith

entries_same : (v w : List ℕ) → SameWords v w → (n : ℕ) → entries_of v n ≡ entries_of w n
entries_same v w same n = grind arith

keys_same : (v w : List ℕ) → SameWords v w → (n : ℕ) → keys_at v n ≡ keys_at w n
keys_same v w same n = ap (map (λ entry. entry.0)) (entries_same v w same n)

left_same : (v w : List ℕ) → SameWords v w → (last n : ℕ) → left_of last v n ≡ left_of last w n
left_same v w same last n = λ i. find (λ m. same (12 * m + 3) i == n && not (n == 0)) (nodes last)

low_same : (v w : List ℕ) → SameWords v w → (last n : ℕ) → low_of last v n ≡ low_of last w n
low_same v w same last n = search (left_same, arith)

linked_same : (v w : List ℕ) → SameWords v w → (last n : ℕ) → is_linked last v n
    ≡ is_linked last w n
linked_same v w same last n = search arith

bounded_same : (v w : List ℕ) → SameWords v w → (last n : ℕ) → is_bounded last v n
    ≡ is_bounded last w n
bounded_same v w same last n = grind (arith, low_same)

sound_keys_same : (v w : List ℕ) → SameWords v w → (last n : ℕ) → has_sound_keys last v n
    ≡ has_sound_keys last w n
sound_keys_same v w same last n = grind (arith, rises, keys_same, low_same)

sound_entries_same : (v w : List ℕ) → SameWords v w → (last n : ℕ) → has_sound_entries last v n
    ≡ has_sound_entries last w n
sound_entries_same v w same last n = λ i.
    (same (12 * n + 0) i == 0 && list_all is_leaf_entry (entries_same v w same n i))
    || (nat_lt 0 (same (12 * n + 0) i) && nat_le 2 (same (12 * n + 1) i)
    && begins_with (low_same v w same last n i) (keys_same v w same n i)
    && list_all (λ entry. nat_le entry.1 last && same (12 * entry.1 + 0) i
    + 1 == same (12 * n + 0) i
    && low_same v w same last entry.1 i == entry.0) (entries_same v w same n i))

only_first_same : (v w : List ℕ) → SameWords v w → (last n : ℕ) → is_only_first last v n
    ≡ is_only_first last w n
only_first_same v w same last n = grind (arith, is_none, left_same)

sound_node_same : (v w : List ℕ) → SameWords v w → (last n : ℕ) → is_sound_node last v n
    ≡ is_sound_node last w n
sound_node_same v w same last n = λ i.
    linked_same v w same last n i && bounded_same v w same last n i
    && sound_keys_same v w same last n i
    && sound_entries_same v w same last n i && only_first_same v w same last n i

tree_same : (v w : List ℕ) → SameWords v w → (size : ℕ) → is_tree size v ≡ is_tree size w
tree_same v w same size = λ i.
    let last = same (12 * size + 1) i in
    let root = same (12 * size) i in
    nat_lt last size && nat_le root last && same (12 * 0 + 0) i == 0
    && is_none (left_same v w same last root i)
    && list_all (λ n. nat_le (same (12 * n + 0) i) (same (12 * root + 0) i)
    && sound_node_same v w same last n i) (nodes last)

-- words that have the same word in each place are sound together
pub sound_same : (v w : List ℕ) → SameWords v w → (subject : Subject) (size : ℕ)
    → is_sound subject size v ≡ is_sound subject size w
sound_same v w same subject size = grind (arith, chunk_same, tree_same, buffer_same)

-- They show the same too.
node_parts_same : (v w : List ℕ) → SameWords v w → (n : ℕ) → node_parts v n ≡ node_parts w n
node_parts_same v w same n = ap (flat_map entry_parts) (entries_same v w same n)

chain_same : (v w : List ℕ) → SameWords v w → (size left : ℕ) (seen : List ℕ) (n : ℕ)
    → chain_parts_from size v left seen n ≡ chain_parts_from size w left seen n
chain_same v w same size left seen n = search (node_parts_same, arith)

pub parts_same : (v w : List ℕ) → SameWords v w → (subject : Subject) (size : ℕ)
    → parts_of subject size v ≡ parts_of subject size w
parts_same v w same subject size = grind (arith, chunk_same, chain_same, buffer_same)

pub view_same : (h : Header) (v w : List ℕ) → SameWords v w → view_of_words h v ≡ view_of_words h w
unfolding view_of_words
view_same h v w same = ap collected (parts_same v w same h.subject h.size)

free : (k : ℕ) → list_all (λ lock. lock == 0) (replicate k 0) ≡ true
free zero = refl
free (suc k) = free k

all_of : (a b c : Bool) → a ≡ true → c ≡ true → (a && (b && c)) ≡ b
all_of a b c e f = grind arith

-- If all locks are 0, the state is told by the plain words alone.
pub with_free_locks : (h : Header) (words : List ℕ) → length words ≡ plain_words h
    → state_of_words h (words ++ replicate (lock_words h) 0)
    ≡ then_some (is_sound h.subject h.size words) (view_of_words h words)
unfolding state_of_words
with_free_locks h words many =
    ap (λ b. then_some b (view_of_words h all))
    (all_of _ (is_sound h.subject h.size all) _ right_length locks)
    ∙ ap (λ b. then_some b (view_of_words h all))
    (sound_same all words (padded words (lock_words h)) h.subject h.size)
    ∙ ap (then_some (is_sound h.subject h.size words))
    (view_same h all words (padded words (lock_words h)))
  where
    all : List ℕ
    all = words ++ replicate (lock_words h) 0

    right_length : (length all == plain_words h + lock_words h) ≡ true
    right_length = is_same (length all) (plain_words h + lock_words h)
        (let sum = length-append words (replicate (lock_words h) 0) in
        let zeros' = length-replicate {A = ℕ} (lock_words h) 0 in omega (arith, sum, zeros', many))

    locks : list_all (λ lock. lock == 0) (drop (plain_words h) all) ≡ true
    locks = ap (λ n. list_all (λ lock. lock == 0) (drop n all)) (sym many)
        ∙ ap (list_all (λ lock. lock == 0)) (drop-append_seam words (replicate (lock_words h) 0))
        ∙ free (lock_words h)

-- No words at all read as zeros do. They are sound, and show nothing.
free_slots : (size k n : ℕ) → list_all (is_sound_slot size []) (numbers_from k n) ≡ true
free_slots size k zero = refl
free_slots size k (suc n) = free_slots size (k + 1) n

free_chunks : (k n : ℕ) → list_all (λ h. is_sound_chunk (chunk_at [] h)) (numbers_from k n) ≡ true
free_chunks k zero = refl
free_chunks k (suc n) = free_chunks (k + 1) n

free_buffers : (k n : ℕ) → list_all (λ b. is_buffer (buffer_at [] b)) (numbers_from k n) ≡ true
free_buffers k zero = refl
free_buffers k (suc n) = free_buffers (k + 1) n

no_words_sound : (subject : Subject) (size : ℕ) → (is_built_in subject ≡ true → 1 ≤ size)
    → is_sound subject size [] ≡ true
no_words_sound Multiset size some = free_slots size 0 (4 * size)
no_words_sound Cache size some = free_chunks 0 size
no_words_sound Buffers size some = free_buffers 0 size
no_words_sound Own size some = refl
no_words_sound Tree zero some = absurd (omega (arith, some refl))
no_words_sound Tree (suc size) some = cc (is_below 0 (suc size) (omega arith))

no_slots : (k n : ℕ) → flat_map (slot_parts []) (numbers_from k n) ≡ []
no_slots k zero = refl
no_slots k (suc n) = no_slots (k + 1) n

no_chunks : (size k n : ℕ)
    → collected (flat_map (λ h. chunk_parts size h (chunk_at [] h)) (numbers_from k n)) ≡ []
no_chunks size k zero = refl
no_chunks size k (suc n) = ap (λ s. plus_amount s k 0) (no_chunks size (k + 1) n)

no_buffers : (size k n : ℕ)
    → collected (flat_map (λ b. buffer_parts size b (buffer_at [] b)) (numbers_from k n)) ≡ []
no_buffers size k zero = refl
no_buffers size k (suc n) = ap (λ s. plus_amount s k 0) (no_buffers size (k + 1) n)

no_words_empty : (subject : Subject) (size : ℕ) → (is_built_in subject ≡ true → 1 ≤ size)
    → collected (parts_of subject size []) ≡ []
no_words_empty Multiset size some = ap collected (no_slots 0 (4 * size))
no_words_empty Cache size some = no_chunks size 0 size
no_words_empty Buffers size some = no_buffers size 0 size
no_words_empty Own size some = refl
no_words_empty Tree zero some = absurd (omega (arith, some refl))
no_words_empty Tree (suc size) some = refl

zeros_show_nothing : (h : Header) (k : ℕ) → view_of_words h (replicate k 0) ≡ []
unfolding view_of_words
zeros_show_nothing h k =
    ap collected (parts_same (replicate k 0) [] (zeros k) h.subject h.size)
    ∙ no_words_empty h.subject h.size (some_size h)

-- zeroed words stand for the empty state
pub zeroed_words : (h : Header) → state_of_words h (replicate (plain_words h + lock_words h) 0)
    ≡ Some []
zeroed_words h =
    ap (state_of_words h) (sym (replicate-append-replicate (plain_words h) (lock_words h) 0))
    ∙ with_free_locks h (replicate (plain_words h) 0) (length-replicate (plain_words h) 0)
    ∙ ap (λ b. then_some b (view_of_words h (replicate (plain_words h) 0)))
    (sound_same (replicate (plain_words h) 0) [] (zeros (plain_words h)) h.subject h.size
    ∙ no_words_sound h.subject h.size (some_size h))
    ∙ ap Some (zeros_show_nothing h (plain_words h))

pub ruleset start_laws = (zeroed_words)
