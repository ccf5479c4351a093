-- Keys whose amounts turn to others, one after the other.
use Rattle.vyrd_follow.proofs.Prelude
use Prelude.{◌≡◌, ℕ, ◌<◌, Bool, true, false, cond, not, ◌+◌, List, [], ◌∷◌, ◌++◌, map, length, drop}
use Prelude.{get_or, set, Option, Some, set-set, get_or_default, set-get_or, refl, ap, ◌∙◌, sym}
use Prelude.{arith, append_assoc, append-nil, ◌==◌, ◌≢◌, filter, slice_index, IfSome}
use Prelude.{slice_get-get_or, Header, Rules, parts_of, view_of_words, IsAmounts-collected, Amounts}
use Prelude.{IsAmounts, amount_of, with_amount, amount_of-with_amount, IsAmounts-with_amount, is_in}
use Prelude.{same_of, is_same, apart_of, neither_true, Item, Changed, Wrote, differ_at, differences}
use Prelude.{or_item, write_items, turned_to, turns, turn_item, turn_items}
use Rattle.vyrd_witness.specs.declared.effect.Effect.{Effect}
use Rattle.vyrd_follow.proofs.DifferenceLaws.{differences_left, no_differences, true_false}
use Rattle.vyrd_follow.proofs.DifferenceLaws.{differences_of, no_differences_from_itself}
use Rattle.vyrd_follow.proofs.DifferenceLaws.{among_differences, first_among}
use Rattle.vyrd_follow.proofs.DifferingLaws.{behind_is}

-- Amounts on their way from some to others, as a write of a word that had this value turns them:
-- what is left to turn, and what has been said and is to be said of it.
pub record IsTurning (e : Effect) (was : ℕ) (from to now : Amounts) (left : List (ℕ × ℕ))
    (said all : List Item) : Type 0 where
  pub turning : left ≡ turns now to
  pub formed : IsAmounts now
  pub kept : (q : ℕ) → differ_at now to q ≡ true → amount_of now q ≡ amount_of from q
  pub saying : said ++ map (turn_item e was from to) (differences now to) ≡ all

module _ (e : Effect) (was : ℕ) where
  -- what is left of a list of keys, if it has a first
  first_left : (to : Amounts) (k a : ℕ) (rest : List (ℕ × ℕ)) (ks : List ℕ)
      → (k, a) ∷ rest ≡ map (turned_to to) ks
      → (ls : List ℕ) × (ks ≡ k ∷ ls) × (a ≡ amount_of to k) × (rest ≡ map (turned_to to) ls)
  first_left to k a rest [] is = cc
  first_left to k a rest (l ∷ ls) is = grind arith

  -- a key that still differs once the first has turned is another one, and differed before
  module _ (now to : Amounts) (k q : ℕ)
      (differ : differ_at (with_amount now k (amount_of to k)) to q ≡ true) where
    pub still_differs : (q == k) ≡ false
    still_differs = by_test (q == k) refl
      where
        by_test : (b : Bool) → (q == k) ≡ b → (q == k) ≡ false
        by_test true here = true_false (differ_at (with_amount now k (amount_of to k)) to q) differ
            (ap not (is_same (amount_of (with_amount now k (amount_of to k)) q) (amount_of to q)
            (amount_of-with_amount now k (amount_of to k) q
            ∙ ap (λ b. cond b (amount_of to k) (amount_of now q)) here
            ∙ ap (amount_of to) (sym (same_of q k here)))))
        by_test false other = other

    pub still_has : amount_of (with_amount now k (amount_of to k)) q ≡ amount_of now q
    still_has = amount_of-with_amount now k (amount_of to k) q
        ∙ ap (λ b. cond b (amount_of to k) (amount_of now q)) still_differs

    pub differed : differ_at now to q ≡ true
    differed = ap (λ n. not (n == amount_of to q)) (sym still_has) ∙ differ

  -- the first of what is left turns
  pub turned : (from to now : Amounts) (k a : ℕ) (rest : List (ℕ × ℕ)) (said all : List Item)
      → IsTurning e was from to now ((k, a) ∷ rest) said all
      → IsTurning e was from to (with_amount now k a) rest
      (said ++ Changed k
      (record { effect = e; was = was; before = amount_of now k; after = a }) ∷ [])
      all
  turned from to now k a rest said all is =
      let first = first_left to k a _ _ is.turning in
      let ls : List ℕ = first.0 in
      let tail : differences (with_amount now k (amount_of to k)) to
      ≡ ls = differences_left now to k _ first.1 in
      let here : differ_at now to k ≡ true = sym (among_differences _ _ k) ∙ ap (is_in k) first.1
      ∙ first_among k _ in
      let had : amount_of now k ≡ amount_of from k = is.kept k here in
      rw first.2 (record {
        turning = first.3 ∙ ap (map _) (sym tail);
        formed = IsAmounts-with_amount now k (amount_of _ k) is.formed;
        kept = λ q differ. still_has _ to k q differ ∙ is.kept q (differed _ _ k q differ);
        saying = cc (
          append_assoc said (turn_item e was from to k ∷ [])
              (map (turn_item e was from to) ls),
          first.1,
          is.saying,
        );
      })

  -- the same of what stands in a list from a place on
  pub turned_at : (from to now next : Amounts) (left : List (ℕ × ℕ)) (i : ℕ) (d : ℕ × ℕ)
      (before after : ℕ) (said told all : List Item) → i < length left
      → IsTurning e was from to now (drop i left) said all
      → next ≡ with_amount now (get_or left i d).0 (get_or left i d).1
      → before ≡ amount_of now (get_or left i d).0 → after ≡ (get_or left i d).1
      → told ≡ said ++ Changed (get_or left i d).0 (record {
        effect = e;
        was = was;
        before = before;
        after = after;
      }) ∷ []
      → IsTurning e was from to next (drop (i + 1) left) told all
  turned_at from to now next left i d before after said told all within is then had has tells =
      let k = (get_or left i d).0 in
      let a = (get_or left i d).1 in
      let rest = drop (i + 1) left in
      let here = behind_is left i (get_or left i d) (slice_get-get_or left i d within) in
      let one = turned from to now k a rest said all (rw (← here) is) in
      let said_is = tells
      ∙ ap (λ n. said ++ Changed (get_or left i d).0
      (record { effect = e; was = was; before = n; after = after }) ∷ []) had
      ∙ ap (λ n. said ++ Changed (get_or left i d).0
      (record { effect = e; was = was; before = amount_of now (get_or left i d).0; after = n })
      ∷ []) has in
      rw said_is (rw then one)

  -- nothing is left
  none_left : (to : Amounts) (ks : List ℕ) → [] ≡ map (turned_to to) ks → ks ≡ []
  none_left to [] is = refl
  none_left to (k ∷ ks) is = cc

  pub all_turned : (from to now : Amounts) (left : List (ℕ × ℕ)) (said all : List Item)
      → IsTurning e was from to now left said all → left ≡ [] → IsAmounts to → now ≡ to
  all_turned from to now left said all is none formed = search (no_differences, none_left, arith)

  pub all_said : (from to now : Amounts) (left : List (ℕ × ℕ)) (said all : List Item)
      → IsTurning e was from to now left said all → left ≡ [] → said ≡ all
  all_said from to now left said all is none =
      cc (append-nil said, none_left to (differences now to) (sym none ∙ is.turning), is.saying)

  -- no key has turned yet: none turns, and the write alone has been told
  pub nothing_turns : (from to : Amounts) (left : List (ℕ × ℕ)) (other : Item)
      (old said : List Item) → IsAmounts from → left ≡ turns from to → left ≡ []
      → said ≡ old ++ other ∷ []
      → IsTurning e was from to from left said (old ++ or_item other (turn_items e was from to))
  nothing_turns from to left other old said formed is empty told =
      let none = none_left to (differences from to) (sym empty ∙ is) in
      record {
        turning = is;
        formed = formed;
        kept = λ q differ. refl;
        saying = cc (append-nil said);
      }

  -- or some turn
  or_some : (from to : Amounts) (left : List (ℕ × ℕ)) (ks : List ℕ) (other : Item)
      → left ≡ map (turned_to to) ks → left ≢ []
      → map (turn_item e was from to) ks ≡ or_item other (map (turn_item e was from to) ks)
  or_some from to left [] other is some = absurd (some is)
  or_some from to left (k ∷ ks) other is some = refl

  pub something_turns : (from to : Amounts) (left : List (ℕ × ℕ)) (other : Item)
      (old said : List Item) → IsAmounts from → left ≡ turns from to → left ≢ [] → said ≡ old
      → IsTurning e was from to from left said (old ++ or_item other (turn_items e was from to))
  something_turns from to left other old said formed is some told = search (or_some, arith)

-- ---- the turns of two keys

two_kept : (p : ℕ → Bool) (f : ℕ → ℕ × ℕ) (low high : ℕ)
    → map f (filter p (low ∷ [])) ++ map f (filter p (high ∷ []))
    ≡ map f (filter p (low ∷ high ∷ []))
two_kept p f low high = grind arith

module _ (from to : Amounts) (low high : ℕ) (none one all : List (ℕ × ℕ))
    (others : (q : ℕ) → q ≢ low → q ≢ high → amount_of from q ≡ amount_of to q)
    (begin : none ≡ [])
    (first : one ≡ none ++ map (turned_to to) (filter (differ_at from to) (low ∷ []))) where
  pub turns_of_two : all ≡ one ++ map (turned_to to) (filter (differ_at from to) (high ∷ []))
      → low < high → all ≡ turns from to
  turns_of_two second order =
      cc (
        two_kept (differ_at from to) (turned_to to) low high,
        differences_of from to
            (low ∷ high ∷ []) ((order, tt), (tt, tt)) outside,
      )
    where
      outside : (q : ℕ) → is_in q (low ∷ high ∷ []) ≡ false → amount_of from q ≡ amount_of to q
      outside q isnt = search (neither_true, apart_of, arith)

  pub turns_of_one : all ≡ one → low ≡ high → all ≡ turns from to
  turns_of_one same key = cc (differences_of from to (low ∷ []) (tt, tt) outside)
    where
      outside : (q : ℕ) → is_in q (low ∷ []) ≡ false → amount_of from q ≡ amount_of to q
      outside q isnt = grind arith

-- ---- views

pub view_formed : (h : Header) (words : List ℕ) → IsAmounts (view_of_words h words)
unfolding view_of_words
view_formed h words = IsAmounts-collected (parts_of h.subject h.size words)

-- ---- a write

-- one that gives its word the value that it has changes nothing
pub nothing_written : (r : Rules) (words : List ℕ) (e : Effect) (was : ℕ)
    → was ≡ slice_index words e.word → was ≡ e.value → write_items r words e ≡ Wrote e was ∷ []
nothing_written r words e was here same =
    cc (set-get_or words e.word 0, no_differences_from_itself (r.view words))

-- the words before it, once it is undone
pub written_back : (words after : List ℕ) (w v was : ℕ) → after ≡ set words w v
    → was ≡ slice_index words w → words ≡ set after w was
written_back words after w v was is here = cc (set-get_or words w 0, set-set words w v was)

-- a word that was read
pub word_read : (words now : List ℕ) (i was : ℕ) → words ≡ now → i < length now
    → was ≡ get_or words i was → was ≡ slice_index words i
word_read words now i was same within here =
    here ∙ get_or_default words i was 0 (omega (arith, within, ap length same))

-- the amounts that are kept, if they are
pub kept_shown : (kept : Option Amounts) (is shown : Amounts)
    → IfSome kept (λ amounts. amounts ≡ is)
    → Some shown ≡ kept → shown ≡ is
kept_shown kept is shown each here = search arith
