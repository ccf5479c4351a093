-- Pairs that set amounts, and what is added and taken back.
use Rattle.vyrd_own.proofs.Prelude
use Prelude.{◌≡◌, ℕ, Bool, true, false, cond, List, [], ◌∷◌, ◌++◌, refl, ap, ◌∙◌, sym, subst, arith}
use Prelude.{◌<◌, ◌+◌, length, drop, inl, inr, zero, suc, add-one, drop-cons, ◌≢◌, ◌==◌, ◌||◌}
use Prelude.{slice_index_or, ◌⊎◌, Amounts, IsAmounts, amount_of, with_amount, amount_of-with_amount}
use Prelude.{IsAmounts-with_amount, hidden_with, amount_after, AreAdded, HasKeys}
use Rattle.vyrd_base.proofs.AmountLaws.{same_amounts}
use Rattle.vyrd_base.proofs.TestLaws.{same_of, is_same}
use Rattle.vyrd_own.specs.Sets.{is_set, is_among}

-- a test is true or false
pub decided : (b : Bool) → (b ≡ true) ⊎ (b ≡ false)
decided b = search arith

-- what pairs make of amounts
pub amount_of-set : (s : Amounts) (pairs : List (ℕ × ℕ)) (q : ℕ)
    → amount_of (hidden_with s pairs) q ≡ amount_after pairs q (amount_of s q)
amount_of-set s [] q = refl
amount_of-set s (p ∷ pairs) q =
    cc (amount_of-set (with_amount s p.0 p.1) pairs q, amount_of-with_amount s p.0 p.1 q)

pub formed_set : (s : Amounts) (pairs : List (ℕ × ℕ)) → IsAmounts s
    → IsAmounts (hidden_with s pairs)
formed_set s [] is = is
formed_set s (p ∷ pairs) is = formed_set (with_amount s _ _) pairs (IsAmounts-with_amount s _ _ is)

-- one pair more
pub set_more : (s : Amounts) (pairs : List (ℕ × ℕ)) (k a : ℕ)
    → hidden_with s (pairs ++ (k, a) ∷ []) ≡ with_amount (hidden_with s pairs) k a
set_more s [] k a = refl
set_more s (p ∷ pairs) k a = set_more (with_amount s p.0 p.1) pairs k a

-- the amount of a key that is set doesn't depend on the one before, and that of any other key is it
named_by : (pairs : List (ℕ × ℕ)) (q x : ℕ) (b : Bool) → is_set pairs q ≡ b
    → amount_after pairs q x ≡ cond b (amount_after pairs q 0) x
named_by [] q x true e = cc
named_by [] q x false e = refl
named_by (p ∷ pairs) q x b e = by_head (λ c. named_by pairs q x c) (q == p.0) b e
  where
    by_head : ((c : Bool) → is_set pairs q ≡ c → amount_after pairs q x
        ≡ cond c (amount_after pairs q 0) x)
        → (h : Bool) → (b : Bool) → (h || is_set pairs q) ≡ b
        → amount_after pairs q (cond h p.1 x) ≡ cond b (amount_after pairs q (cond h p.1 0)) x
    by_head rest true true e = refl
    by_head rest true false e = cc
    by_head rest false b e = rest b e

pub named : (pairs : List (ℕ × ℕ)) (q x : ℕ)
    → amount_after pairs q x ≡ cond (is_set pairs q) (amount_after pairs q 0) x
named pairs q x = named_by pairs q x (is_set pairs q) refl

pub named_same : (pairs : List (ℕ × ℕ)) (q x y : ℕ) → is_set pairs q ≡ true
    → amount_after pairs q x ≡ amount_after pairs q y
named_same pairs q x y e = named_by pairs q x true e ∙ sym (named_by pairs q y true e)

-- a key that is to have an amount is set
pub set_of_some : (pairs : List (ℕ × ℕ)) (q : ℕ) → amount_after pairs q 0 ≢ 0 → is_set pairs q
    ≡ true
set_of_some pairs q some =
    elim (decided _) [ inl here ↦ here | inr away ↦ absurd (some (named_by pairs q 0 false away)) ]

-- each pair with the amount that its key has in the end
abbrev pub finals : List (ℕ × ℕ) → List (ℕ × ℕ) → List (ℕ × ℕ)
finals all [] = []
finals all (p ∷ pairs) = (p.0, amount_after all p.0 0) ∷ finals all pairs

cond_alike : (b : Bool) (x : ℕ) → cond b x x ≡ x
cond_alike b x = search arith

finals_named : (all pairs : List (ℕ × ℕ)) (q x : ℕ)
    → amount_after (finals all pairs) q x ≡ cond (is_set pairs q) (amount_after all q 0) x
finals_named all [] q x = refl
finals_named all (p ∷ pairs) q x = by_head (λ y. finals_named all pairs q y) (q == p.0) refl
  where
    by_head : ((y : ℕ) → amount_after (finals all pairs) q y ≡ cond (is_set pairs q)
        (amount_after all q 0) y)
        → (h : Bool) → (q == p.0) ≡ h → amount_after (finals all pairs) q
        (cond h (amount_after all p.0 0) x)
        ≡ cond (h || is_set pairs q) (amount_after all q 0) x
    by_head rest true he = search (same_of, cond_alike, arith)
    by_head rest false he = rest x

-- once all are set, the amounts are those that the pairs make of the amounts before keys were added
pub all_set : (before after : Amounts) (added : List ℕ) (pairs : List (ℕ × ℕ)) → IsAmounts before
    → AreAdded before after added pairs → hidden_with after (finals pairs pairs)
    ≡ hidden_with before pairs
all_set before after added pairs is a =
    same_amounts _ _ (formed_set after (finals pairs pairs) a.formed) (formed_set before pairs is)
    (λ q. amount_of-set after (finals pairs pairs) q ∙ finals_named pairs pairs q (amount_of _ q)
    ∙ sym (named pairs q (amount_of _ q)) ∙ a.same q ∙ sym (amount_of-set before pairs q))

-- keys stay there that are to have an amount
pub keys_kept : (s : Amounts) (pairs : List (ℕ × ℕ)) (k : ℕ) → HasKeys s pairs
    → HasKeys (with_amount s k (amount_after pairs k 0)) pairs
keys_kept s pairs k has = search (amount_of-with_amount, same_of, arith)

-- the keys taken out
abbrev pub zeros : List ℕ → List (ℕ × ℕ)
zeros [] = []
zeros (k ∷ keys) = (k, 0) ∷ zeros keys

zeros_named : (keys : List ℕ) (q x : ℕ) → amount_after (zeros keys) q x ≡ cond (is_among keys q) 0 x
zeros_named [] q x = refl
zeros_named (k ∷ keys) q x = by_head (λ y. zeros_named keys q y) (q == k)
  where
    by_head : ((y : ℕ) → amount_after (zeros keys) q y ≡ cond (is_among keys q) 0 y) → (h : Bool)
        → amount_after (zeros keys) q (cond h 0 x) ≡ cond (h || is_among keys q) 0 x
    by_head rest true = rest 0 ∙ cond_alike (is_among keys q) 0
    by_head rest false = rest x

-- what was added is taken back
pub all_back : (before after : Amounts) (added : List ℕ) (pairs : List (ℕ × ℕ)) → IsAmounts before
    → AreAdded before after added pairs → hidden_with after (zeros added) ≡ before
all_back before after added pairs is a = same_amounts _ _ (formed_set after (zeros added) a.formed)
    is (λ q. amount_of-set after (zeros added) q ∙ zeros_named added q (amount_of _ q)
    ∙ by_key q (is_among _ q) refl)
  where
    by_key : (q : ℕ) (h : Bool) → is_among added q ≡ h → cond h 0 (amount_of after q)
        ≡ amount_of before q
    by_key q true e = sym (a.absent q e)
    by_key q false e = a.others q e

-- nothing was added yet
pub none_added : (s : Amounts) (pairs : List (ℕ × ℕ)) → IsAmounts s → AreAdded s s [] pairs
none_added s pairs is = search arith

or_split : (a b : Bool) → (a || b) ≡ true → (a ≡ true) ⊎ (b ≡ true)
or_split a b e = search arith

among_more : (keys : List ℕ) (k q : ℕ) → is_among (keys ++ k ∷ []) q ≡ (is_among keys q || (q == k))
among_more [] k q = by_test (q == k)
  where
    by_test : (b : Bool) → (b || false) ≡ b
    by_test true = refl
    by_test false = refl
among_more (x ∷ keys) k q = by_head (among_more keys k q) (q == x)
  where
    by_head : is_among (keys ++ k ∷ []) q ≡ (is_among keys q || (q == k)) → (h : Bool)
        → (h || is_among (keys ++ k ∷ []) q) ≡ ((h || is_among keys q) || (q == k))
    by_head rest true = refl
    by_head rest false = rest

left_false : (a b : Bool) → (a || b) ≡ false → a ≡ false
left_false a b e = search arith

-- a key that isn't there is named as one that is added
pub named_too : (before after : Amounts) (added : List ℕ) (pairs : List (ℕ × ℕ)) (k : ℕ)
    → AreAdded before after added pairs → amount_of after k ≡ 0
    → AreAdded before after (added ++ k ∷ []) pairs
named_too before after added pairs k a none = search
    (left_false, among_more, or_split, same_of, decided, arith)

-- the key is there now
pub set_too : (before after : Amounts) (added : List ℕ) (pairs : List (ℕ × ℕ)) (k x : ℕ)
    → AreAdded before after added pairs → is_among added k ≡ true → is_set pairs k ≡ true
    → AreAdded before (with_amount after k x) added pairs
set_too before after added pairs k x a among set = record {
  formed = IsAmounts-with_amount after k x a.formed;
  others = λ q e. cc (amount_of-with_amount after k x q, apart q e (q == k) refl, a.others q e);
  absent = a.absent;
  same = λ q. by_key q (q == k) refl;
}
  where
    apart : (q : ℕ) → is_among added q ≡ false → (h : Bool) → (q == k) ≡ h → h ≡ false
    apart q e true he = sym among ∙ ap (is_among added) (sym (same_of q k he)) ∙ e
    apart q e false he = refl

    by_key : (q : ℕ) (h : Bool) → (q == k) ≡ h
        → amount_after pairs q (amount_of (with_amount after k x) q) ≡ amount_after pairs q
        (amount_of before q)
    by_key q true he = search (named_same, same_of, arith)
    by_key q false he = cc (amount_of-with_amount after k x q, a.same q)

-- a key that was named last is among those named
pub among_last : (keys : List ℕ) (k : ℕ) → is_among (keys ++ k ∷ []) k ≡ true
among_last keys k = search (among_more, is_same, arith)

-- a pair's key is set
pub set_at : (pairs : List (ℕ × ℕ)) (i : ℕ) (d : ℕ × ℕ) → i < length pairs
    → is_set pairs (slice_index_or pairs i d).0 ≡ true
set_at [] i d low = absurd (omega arith)
set_at (p ∷ pairs) zero d low = cc (is_same p.0 p.0 refl)
set_at (p ∷ pairs) (suc i) d low =
    cc (set_at pairs i d (omega arith), or_true ((slice_index_or pairs i d).0 == p.0))
  where
    or_true : (a : Bool) → (a || true) ≡ true
    or_true true = refl
    or_true false = refl

-- the keys of the pairs that were gone through are there, if they are to have an amount
abbrev pub HaveRoomTo : Amounts → List (ℕ × ℕ) → ℕ → Type 0
HaveRoomTo s pairs i =
    (q : ℕ) → amount_after pairs q 0 ≢ 0 → is_set (drop i pairs) q ≡ false → amount_of s q ≢ 0

pub room_more : (s t : Amounts) (pairs : List (ℕ × ℕ)) (i : ℕ) (d : ℕ × ℕ) → i < length pairs
    → HaveRoomTo s pairs i
    → ((q : ℕ) → (q == (slice_index_or pairs i d).0) ≡ false → amount_of t q ≡ amount_of s q)
    → (amount_after pairs (slice_index_or pairs i d).0 0 ≢ 0
    → amount_of t (slice_index_or pairs i d).0 ≢ 0)
    → HaveRoomTo t pairs (i + 1)
room_more s t pairs i d low room others here = λ q some away. by_key q some away
    (q == (slice_index_or pairs i d).0) refl
  where
    by_key : (q : ℕ) → amount_after pairs q 0 ≢ 0 → is_set (drop (i + 1) pairs) q ≡ false
        → (h : Bool)
        → (q == (slice_index_or pairs i d).0) ≡ h → amount_of t q ≢ 0
    by_key q some away true he = search (same_of, arith)
    by_key q some away false he = λ none. room q some (cc (drop-cons pairs i d low, add-one i))
        (sym (others q he) ∙ none)

-- no key was gone through, and all were
pub no_room_yet : (s : Amounts) (pairs : List (ℕ × ℕ)) → HaveRoomTo s pairs 0
no_room_yet s pairs = search (set_of_some, arith)

-- the key of a pair
abbrev pub key_at : List (ℕ × ℕ) → ℕ → ℕ
key_at pairs i = (slice_index_or pairs i (0, 0)).0

-- one pair more was gone through, whose key is there or needn't be
pub step_kept : (before s t : Amounts) (added keys : List ℕ) (pairs : List (ℕ × ℕ)) (i : ℕ)
    → i < length pairs
    → (AreAdded before s added pairs × HaveRoomTo s pairs i) → t ≡ s → keys ≡ added
    → (amount_after pairs (key_at pairs i) 0 ≢ 0 → amount_of s (key_at pairs i) ≢ 0)
    → AreAdded before t keys pairs × HaveRoomTo t pairs (i + 1)
step_kept before s t added keys pairs i low was same_s same_keys there = search (room_more, arith)

-- one pair more was gone through, whose key was added
pub step_added : (before s t : Amounts) (added keys : List ℕ) (pairs : List (ℕ × ℕ)) (i x : ℕ)
    → i < length pairs
    → (AreAdded before s added pairs × HaveRoomTo s pairs i) → amount_of s (key_at pairs i) ≡ 0
    → x ≢ 0
    → t ≡ with_amount s (key_at pairs i) x → keys ≡ added ++ key_at pairs i ∷ []
    → AreAdded before t keys pairs × HaveRoomTo t pairs (i + 1)
step_added before s t added keys pairs i x low was none some is_t is_keys = (
  rw is_t (rw is_keys (set_too _ s _ _ k x (named_too _ s _ _ k was.0 none) (among_last _ k)
      (set_at pairs i (0, 0) low))),
  rw is_t (room_more s _ pairs i (0, 0) low was.1 (λ q e. cc (amount_of-with_amount s k x q))
      (λ _. λ zero'. some (sym (cc (amount_of-with_amount s k x k, is_same k k refl)) ∙ zero'))),
)
  where
    k : ℕ
    k = key_at pairs i

-- one key more is set
pub set_step : (s t : Amounts) (pairs : List (ℕ × ℕ)) (i : ℕ) (end : Amounts) → i < length pairs
    → ((hidden_with s (finals pairs (drop i pairs)) ≡ end) × HasKeys s pairs)
    → t ≡ with_amount s (key_at pairs i) (amount_after pairs (key_at pairs i) 0)
    → (hidden_with t (finals pairs (drop (i + 1) pairs)) ≡ end) × HasKeys t pairs
set_step s t pairs i end low was is_t = (
  ap (λ y. hidden_with y (finals pairs (drop (i + 1) pairs))) is_t
      ∙ ap (λ n. hidden_with
      (with_amount s (key_at pairs i) (amount_after pairs (key_at pairs i) 0))
      (finals pairs (drop n pairs))) (add-one i)
      ∙ ap (λ ps. hidden_with s (finals pairs ps)) (sym (drop-cons pairs i (0, 0) low)) ∙ was.0,
  subst (λ y. HasKeys y pairs) (sym is_t) (keys_kept s pairs (key_at pairs i) was.1),
)

-- a key that wasn't there, set and taken out
pub taken_back : (s : Amounts) (k a : ℕ) → IsAmounts s → amount_of s k ≡ 0
    → with_amount (with_amount s k a) k 0 ≡ s
taken_back s k a is none = same_amounts _ s
    (IsAmounts-with_amount (with_amount s k a) k 0 (IsAmounts-with_amount s k a is)) is
    (λ q. amount_of-with_amount _ k 0 q ∙ ap (cond (q == k) 0) (amount_of-with_amount s k a q)
    ∙ by_key q (q == k) refl)
  where
    by_key : (q : ℕ) (h : Bool) → (q == k) ≡ h → cond h 0 (cond h a (amount_of s q)) ≡ amount_of s q
    by_key q true e = sym (ap (amount_of s) (same_of q k e) ∙ none)
    by_key q false e = refl
