-- By any rules that a charter names what is shown is amounts; a state shows at the start no more
-- keys
-- than the words for which it stands; and words show no more than the charter says.
use Rattle.vyrd_spec.proofs.Prelude
use Prelude.{◌≡◌, ℕ, zero, suc, ◌+◌, ◌*◌, ◌/◌, ◌≤◌, Bool, true, false, cond, List, [], ◌∷◌, ◌++◌}
use Prelude.{map, length, Some, None, refl, ap, subst, ◌∙◌, sym, arith, length-append, ◌==◌, ◌||◌}
use Prelude.{not, nat_le, filter, flat_map, option_map, T, then_some, list_any, nat_cmp, put}
use Prelude.{is_sorted, length-put, div-le_self, nat_cmp_total, count_by-le-length, length-filter}
use Prelude.{mul-le, same_Some, Header, Method, Args, Subject, Multiset, Cache, Tree, Buffers, Own}
use Prelude.{Amounts, IsAmounts, amount_of, collected, with_amount, Buffer, buffer_at, buffer_parts}
use Prelude.{Chunk, chunk_at, chunk_parts, plain_words, plain_words_of, slot_parts, own_view}
use Prelude.{own_shown, own_start, Written, written_in, numbers_from, numbers_below, is_sound}
use Prelude.{State, showing, right_of, entry_parts, node_parts, damage, chain_parts_from, parts_of}
use Prelude.{view_of_words, no_amounts, length-mapped, IsAmounts-collected, most_shown}
use Rattle.vyrd_base.specs.Own.Steps.{part_gives, part_words, view_of}
use Rattle.vyrd_base.specs.Rules.{Rules, Charter, built_in, own, rules_by}
use Rattle.vyrd_base.proofs.StartLaws.{with_free_locks}
use Rattle.vyrd_spec.proofs.FormedLaws.{formed_next}

-- What holds of the rules that a charter names: steps leave amounts, and what is shown is amounts.
pub record AreFormed (r : Rules) : Type 0 where
  pub next : (method : Method) (args : Args) (reply : ℕ) (before after : State)
      → IsAmounts before.shown → r.next method args reply before ≡ Some after
      → IsAmounts after.shown
  pub shown : (s : State) → IsAmounts s.shown → IsAmounts (r.shown s)
  pub view : (words : List ℕ) → IsAmounts (r.view words)

unless_formed : (b : Bool) (s : Amounts) → IsAmounts s → IsAmounts (cond b [] s)
unless_formed b s is = search (no_amounts, arith)

own_view_formed : (w : Written) (words : List ℕ) → IsAmounts (own_view w words)
unfolding view_of
own_view_formed w words = search (unless_formed, IsAmounts-collected, arith)

view_formed : (c : Charter) (words : List ℕ) → IsAmounts ((rules_by c).view words)
unfolding view_of_words
view_formed (built_in h) words = IsAmounts-collected (parts_of h.subject h.size words)
view_formed (own h lines) words = own_view_formed (written_in lines) words

shown_formed : (c : Charter) (s : State) → IsAmounts s.shown → IsAmounts ((rules_by c).shown s)
shown_formed c s is = grind (arith, unless_formed, own_shown)

pub formed_rules : (c : Charter) → AreFormed (rules_by c)
formed_rules c = record { next = formed_next c; shown = shown_formed c; view = view_formed c }

-- What a state at the start tells: it shows no more keys than the words for which it stands, and
-- what it shows is amounts.
pub record StartsFew (r : Rules) (words : List ℕ) (state : State) : Type 0 where
  pub few : length (r.shown state) ≤ length (r.view words)
  pub formed : IsAmounts state.shown

unless_few : (b : Bool) (s t : Amounts) → s ≡ t → length (cond b [] s) ≤ length t
unless_few b s t same = search arith

built_starts : (h : Header) (words : List ℕ) (state : State) (b : Bool)
    → option_map showing (then_some b (view_of_words h words)) ≡ Some state
    → StartsFew (rules_by (built_in h)) words state
built_starts h words state true begins =
    grind (arith, same_Some _ _ begins, view_formed (built_in h) words)
built_starts h words state false begins = cc

own_starts : (h : Header) (lines : List (List ℕ)) (words : List ℕ) (state : State) (b : Bool)
    → cond b (Some (own_start (written_in lines) words)) None ≡ Some state
    → StartsFew (rules_by (own h lines)) words state
own_starts h lines words state true begins =
    subst (StartsFew (rules_by (own h lines)) words) (same_Some _ _ begins) (record {
      few = unless_few (h.size == 0) _ _ (by_parts ((written_in lines).words == 0) _);
      formed = own_view_formed (written_in lines) words;
    })
  where
    by_parts : (b : Bool) (s : Amounts) → cond b [] (cond b [] s) ≡ cond b [] s
    by_parts b s = search arith
own_starts h lines words state false begins = cc

pub starts_few : (c : Charter) (words : List ℕ) (state : State)
    → length words ≡ plain_words (rules_by c).header → (rules_by c).start words ≡ Some state
    → StartsFew (rules_by c) words state
starts_few (built_in h) words state many begins = built_starts h _ _
    (is_sound h.subject h.size words) (ap (option_map _) (sym (with_free_locks h _ many)) ∙ begins)
starts_few (own h lines) words state many begins = search (own_starts, begins, arith)

-- each part shows one key at most
few_put : (k a : ℕ) (s : Amounts) → T (is_sorted nat_cmp s)
    → length (put nat_cmp k a s) ≤ suc (length s)
few_put k a s rising = by_test _ (length-put nat_cmp nat_cmp_total k a s rising)
  where
    by_test : (b : Bool) → length (put nat_cmp k a s) ≡ cond b (length s) (length s + 1)
        → length (put nat_cmp k a s) ≤ suc (length s)
    by_test b is = search arith

few_with : (s : Amounts) (k a : ℕ) → IsAmounts s → length (with_amount s k a) ≤ suc (length s)
few_with s k a is = by_zero (a == 0)
  where
    others : ℕ × ℕ → Bool
    others entry = not (entry.0 == k)

    by_zero : (b : Bool)
        → length (cond b (filter others s) (put nat_cmp k a s)) ≤ suc (length s)
    by_zero true = omega (arith, length-filter others s, count_by-le-length others s)
    by_zero false = few_put k a s is.rising

few_collected : (parts : List (ℕ × ℕ)) → length (collected parts) ≤ length parts
few_collected [] = omega arith
few_collected (part ∷ parts) = grind (
  arith,
  few_collected parts,
  few_with (collected parts) part.0
      (amount_of (collected parts) part.0 + part.1) (IsAmounts-collected parts),
)

-- lists of so many elements at most, one after the other
few_flat : {A : Type 0} (f : ℕ → List A) (most : ℕ) → ((i : ℕ) → length (f i) ≤ most)
    → (k n : ℕ) → length (flat_map f (numbers_from k n)) ≤ n * most
few_flat f most each k zero = omega arith
few_flat f most each k (suc n) = omega (
  arith,
  length-append (f k)
      (flat_map f (numbers_from (k + 1) n)),
  each k,
  few_flat f most each (k + 1) n,
)

few_slot : (words : List ℕ) (i : ℕ) → length (slot_parts words i) ≤ 1
few_slot words i = grind arith

few_chunk : (size h : ℕ) (c : Chunk) → length (chunk_parts size h c) ≤ 2
few_chunk size h c = grind arith

few_buffer : (size b : ℕ) (buffer : Buffer) → length (buffer_parts size b buffer) ≤ 1
few_buffer size b buffer = grind arith

few_entry : (entry : ℕ × ℕ) → length (entry_parts entry) ≤ 1
few_entry entry = grind arith

few_entries : (entries : List (ℕ × ℕ)) → length (flat_map entry_parts entries) ≤ length entries
few_entries [] = omega arith
few_entries (entry ∷ entries) = omega (
  arith,
  length-append (entry_parts entry)
      (flat_map entry_parts entries),
  few_entry entry,
  few_entries entries,
)

few_node : (words : List ℕ) (n : ℕ) → length (node_parts words n) ≤ 4
few_node words n = grind (arith, length-mapped, few_entries)

-- a chain shows four keys for each node, and damage at its end
few_chain : (size : ℕ) (words : List ℕ) (left : ℕ) (seen : List ℕ) (n : ℕ)
    → length (chain_parts_from size words left seen n) ≤ left * 5
few_chain size words zero seen n = omega arith
few_chain size words (suc left) seen n =
    by_end (few_chain size words left (n ∷ seen) (right_of words n)) (right_of words n == 0)
    (nat_le size (right_of words n) || list_any (λ m. m == right_of words n) (n ∷ seen))
  where
    by_end : length (chain_parts_from size words left (n ∷ seen) (right_of words n)) ≤ left * 5
        → (ends back : Bool) → length (node_parts words n ++ elim ends [
          | true ↦ []
          | false ↦ elim back [
            | true ↦ damage
            | false ↦ chain_parts_from size words left (n ∷ seen) (right_of words n)
          ]
        ]) ≤ suc left * 5
    by_end rest ends back = search (back, length-append, few_node, left, arith)

few_parts : (subject : Subject) (size : ℕ) (words : List ℕ)
    → length (parts_of subject size words) ≤ plain_words_of subject size
few_parts Multiset size words =
    omega (arith, few_flat (slot_parts words) 1 (few_slot words) 0 (4 * size))
few_parts Cache size words = omega (
  arith,
  few_flat (λ h. chunk_parts size h (chunk_at words h)) 2
      (λ h. few_chunk size h (chunk_at words h)) 0 size,
)
few_parts Tree size words = omega (arith, few_chain size words size [] 0)
few_parts Buffers size words = omega (
  arith,
  few_flat
      (λ b. buffer_parts size b (buffer_at words b)) 1
      (λ b. few_buffer size b (buffer_at words b)) 0 size,
)
few_parts Own size words = omega arith

-- a part shows no more keys than there are lines that say what it shows
length-map : {A B : Type 0} (f : A → B) (xs : List A) → length (map f xs) ≡ length xs
length-map f [] = refl
length-map f (x ∷ xs) = ap suc (length-map f xs)

few_given : (w : Written) (i : ℕ) (words : List ℕ)
    → length (part_gives w i words) ≤ length w.shows
unfolding part_gives
few_given w i words = search (length-map, arith)

few_own : (w : Written) (words : List ℕ) → length (own_view w words) ≤ length words * length w.shows
unfolding view_of
few_own w words = by_parts (w.words == 0)
  where
    gives : ℕ → List (ℕ × ℕ)
    gives i = part_gives w i (part_words w words i)

    by_parts : (b : Bool)
        → length (cond b [] (collected (flat_map gives (numbers_below (length words / w.words)))))
        ≤ length words * length w.shows
    by_parts true = omega arith
    by_parts false =
        let kept = few_collected (flat_map gives (numbers_below (length words / w.words))) in
        let each = few_flat gives (length w.shows) (λ i. few_given w i (part_words w words i))
        0 (length words / w.words) in
        let all = mul-le (length words / w.words) (length w.shows) (length words) (length w.shows)
        (div-le_self (length words) w.words) (omega arith) in omega (arith, kept, each, all)

-- words show no more keys than the charter says
pub few_view : (c : Charter) (words : List ℕ) → length words ≡ plain_words (rules_by c).header
    → length ((rules_by c).view words) ≤ most_shown c
unfolding view_of_words
few_view c words many = search (few_collected, parts_of, few_parts, own, few_own, arith)
