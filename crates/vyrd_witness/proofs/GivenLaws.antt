-- Which parts give something to a key, and that together they give what is shown.
use Rattle.vyrd_witness.proofs.Prelude
use Prelude.{◌≡◌, ◌≢◌, ℕ, zero, suc, ◌+◌, ◌-◌, ◌*◌, ◌<◌, ◌≤◌, ◌^◌, Bool, true, false, cond, List}
use Prelude.{[], ◌∷◌, ◌++◌, refl, ap, ◌∙◌, sym, arith, ◌==◌, nat_lt, flat_map, sum_by, append-nil}
use Prelude.{append_assoc, flat_map-map, sum_by-append, Header, Subject, Multiset, Cache, Tree}
use Prelude.{Buffers, Own, amount_of, collected, given, buffer_at, buffer_parts, chunk_at}
use Prelude.{chunk_parts, own_view, Written, view_of, numbers_from, numbers_below, Charter}
use Prelude.{built_in, own, rules_by, rules_of, parts_of, view_of_words, parts-push}
use Prelude.{size_in_32_bits, slots_at_most, same_of, chunk_gives, buffer_gives, pairs_by}
use Prelude.{buffers_fit, buffers_show, chunks_fit, chunks_show, pairs_given, amount_shown}
use Prelude.{numbered, parts_of_subject, parts_of_own, parts_by_number, told, given_parts}
use Rattle.vyrd_base.proofs.SumLaws.{amount_of-collected, given-append, other_part}
use Rattle.vyrd_witness.proofs.NodeLaws.{chain_is, chain_fits}

-- ---- parts in a row

-- the parts of n in a row that give something
pub given_numbered : (q : ℕ) (gives : ℕ → List (ℕ × ℕ)) (n : ℕ)
    → given_parts q (numbered gives n)
    ≡ flat_map (λ i. told i (given q (gives i))) (numbers_below n)
given_numbered q gives n =
    flat_map-map {B = ℕ × List (ℕ × ℕ)} (λ part. told _ _) (λ i. (i, gives i)) (numbers_below n)

-- one part more
pub one_more : (f : ℕ → List (ℕ × ℕ)) (n : ℕ) (old before now more : List (ℕ × ℕ))
    → before ≡ old ++ flat_map f (numbers_below n) → now ≡ before ++ more → more ≡ f n
    → now ≡ old ++ flat_map f (numbers_below (n + 1))
one_more f n old before now more so_far put gives =
    cc (append_assoc old (flat_map f (numbers_below n)) more, parts-push f n)

module _ (f : ℕ → List (ℕ × ℕ)) where
  -- none of these numbers gives anything
  none_of : (k n : ℕ) → ((i : ℕ) → k ≤ i → i < k + n → f i ≡ [])
      → flat_map f (numbers_from k n) ≡ []
  none_of k zero each = refl
  none_of k (suc n) each =
      ap (λ xs. xs ++ flat_map f (numbers_from (k + 1) n)) (each k (omega arith) (omega arith))
      ∙ none_of (k + 1) n (λ i from to. each i (omega (arith, from)) (omega (arith, to)))

  -- one of them alone may give something
  one_of : (p k n : ℕ) → k ≤ p → p < k + n → ((i : ℕ) → i < k + n → i ≢ p → f i ≡ [])
      → flat_map f (numbers_from k n) ≡ f p
  one_of p k zero from to others = absurd (omega (arith, from, to))
  one_of p k (suc n) from to others = by_test (k == p) refl
      (λ above. one_of p (k + 1) n above (omega (arith, to))
      (λ i below. others i (omega (arith, below))))
    where
      rest : List (ℕ × ℕ)
      rest = flat_map f (numbers_from (k + 1) n)

      by_test : (b : Bool) → (k == p) ≡ b → (k + 1 ≤ p → rest ≡ f p)
          → flat_map f (numbers_from k (suc n)) ≡ f p
      by_test true e more =
          let here : k ≡ p = same_of k p e in
          ap (λ xs. f k ++ xs) (none_of (k + 1) n (λ i above below.
          others i (omega (arith, below)) (λ same. absurd (omega (arith, same, here, above)))))
          ∙ append-nil (f k) ∙ ap f here
      by_test false e more =
          grind arith

-- ---- parts that give to two keys alone

-- the number whose part alone can give to the key
abbrev pub home_of : ℕ → ℕ → ℕ
home_of size q = cond (nat_lt q size) q (q - size)

apart_from_home : (size q i : ℕ) → i < size → i ≢ home_of size q → (q ≢ i) × (q ≢ size + i)
apart_from_home size q i low e4 = search arith

module _ (size q : ℕ) (gives : ℕ → List (ℕ × ℕ))
    (none : (i : ℕ) → q ≢ i → q ≢ size + i → given q (gives i) ≡ 0) where
  nothing : (i : ℕ) → i < size → i ≢ home_of size q → told i (given q (gives i)) ≡ []
  nothing i low other = search (apart_from_home, told, arith)

  -- the part at home
  pub at_home : (p : ℕ) → p ≡ home_of size q → p < size
      → told p (given q (gives p)) ≡ given_parts q (numbered gives size)
  at_home p is low = sym (given_numbered q gives size
      ∙ one_of (λ i. told i (given q (gives i))) p 0 size (omega arith) (omega (arith, low))
      (λ i below other. nothing i (omega (arith, below)) (λ same. other (same ∙ sym is))))

  -- and if there is none
  pub no_home : (p : ℕ) → p ≡ home_of size q → size ≤ p → [] ≡ given_parts q (numbered gives size)
  no_home p is high = search (given_numbered, none_of, told, given, nothing, arith)

-- a chunk whose keys are others
pub chunk_elsewhere : (size q : ℕ) (words : List ℕ) (i : ℕ) → q ≢ i → q ≢ size + i
    → given q (chunk_parts size i (chunk_at words i)) ≡ 0
chunk_elsewhere size q words i other past = grind (arith, past, other_part, given)

-- a buffer whose keys are others
pub buffer_elsewhere : (size q : ℕ) (words : List ℕ) (i : ℕ) → q ≢ i → q ≢ size + i
    → given q (buffer_parts size i (buffer_at words i)) ≡ 0
buffer_elsewhere size q words i other past = grind (arith, past, given, other_part)

-- ---- what parts give together

-- what all parts give
abbrev pub all_given : List (ℕ × List (ℕ × ℕ)) → List (ℕ × ℕ)
all_given parts = flat_map (λ part. part.1) parts

all_numbered : (gives : ℕ → List (ℕ × ℕ)) (n : ℕ)
    → all_given (numbered gives n) ≡ flat_map gives (numbers_below n)
all_numbered gives n =
    flat_map-map {B = ℕ × List (ℕ × ℕ)} (λ part. part.1) (λ i. (i, gives i)) (numbers_below n)

-- the parts of a subject, without their numbers
parts_are : (s : Subject) (size : ℕ) (words : List ℕ)
    → all_given (parts_of_subject s size words) ≡ parts_of s size words
parts_are s size words = grind (arith, all_numbered, chain_is)

own_parts_give : (w : Written) (words : List ℕ) (q : ℕ)
    → given q (all_given (parts_of_own w words)) ≡ amount_of (own_view w words) q
unfolding view_of
own_parts_give w words q = search
    (given, numbered, collected, all_numbered, amount_of-collected, arith)

-- together the parts give what is shown
pub parts_give : (c : Charter) (words : List ℕ) (q : ℕ)
    → given q (all_given (parts_by_number c words)) ≡ amount_of ((rules_by c).view words) q
unfolding view_of_words
parts_give c words q = search
    (given, parts_are, amount_of-collected, parts_of, own, own_parts_give, arith)

-- ---- the sum of what they give

sum_told : (part amount : ℕ) → sum_by (λ p. p.1) (told part amount) ≡ amount
sum_told part amount = grind (arith, same_of)

-- those that give something give all of it
pub sum_given : (q : ℕ) (parts : List (ℕ × List (ℕ × ℕ)))
    → sum_by (λ p. p.1) (given_parts q parts) ≡ given q (all_given parts)
sum_given q [] = refl
sum_given q (part ∷ parts) =
    omega (
      arith,
      sum_by-append (λ (p : ℕ × ℕ). p.1) (told part.0 (given q part.1)) (given_parts q parts),
      sum_told part.0 (given q part.1),
      sum_given q parts,
      given-append q part.1 (all_given parts),
    )

-- and so what is shown
pub told_give : (c : Charter) (words : List ℕ) (q : ℕ)
    → sum_by (λ p. p.1) (given_parts q (parts_by_number c words))
    ≡ amount_of ((rules_by c).view words) q
told_give c words q = sum_given q (parts_by_number c words) ∙ parts_give c words q

-- what the words of a built-in subject show fits 128 bits
fits : (s : Subject) (size : ℕ) (words : List ℕ) (q : ℕ) → size < 2 ^ 32
    → amount_of (collected (parts_of s size words)) q < 2 ^ 128
fits Multiset size words q small = omega (arith, slots_at_most words (4 * size) q, small)
fits Cache size words q small =
    let pairs : List (ℕ × ℕ) = pairs_by 5 2 size (chunk_gives size) words in
    let is = ap (λ a. amount_of a q) (sym (chunks_show size words)) ∙ amount_of-collected pairs q in
    omega (arith, is, chunks_fit size pairs q (pairs_given 5 2 size (chunk_gives size) words))
fits Tree size words q small =
    grind (
      arith,
      amount_of-collected (parts_of Tree size words) q,
      chain_fits size words q size
          [] 0,
    )
fits Buffers size words q small =
    let pairs : List (ℕ × ℕ) = pairs_by 8 1 size (buffer_gives size) words in
    let is = ap (λ a. amount_of a q) (sym (buffers_show size words))
    ∙ amount_of-collected pairs q in
    omega (arith, is, buffers_fit size pairs q (pairs_given 8 1 size (buffer_gives size) words))
fits Own size words q small = omega arith

module _ (h : Header) (words : List ℕ) (q : ℕ) (old new parts : List (ℕ × ℕ)) (none : old ≡ [])
    (put : new ≡ old ++ given_parts q (parts_by_number (built_in h) words))
    (same : parts ≡ new) where
  -- parts that were put into an empty list
  are : parts ≡ given_parts q (parts_by_number (built_in h) words)
  are = same ∙ put ∙ ap (λ xs. xs ++ given_parts q (parts_by_number (built_in h) words)) none

  -- what the parts that give something give together is what is shown
  pub sum_shown : sum_by (λ p. p.1) parts ≡ amount_shown (rules_of h) words q
  sum_shown = ap (sum_by (λ p. p.1)) are ∙ told_give (built_in h) words q

  -- and that fits
  pub sum_fits : sum_by (λ p. p.1) parts < 2 ^ 128
  unfolding view_of_words
  sum_fits = omega (arith, sum_shown, fits h.subject h.size words q (size_in_32_bits h))
