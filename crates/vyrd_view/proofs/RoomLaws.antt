-- Words of which the last ones have no room of their own, since they are 0.
use Rattle.vyrd_view.proofs.Prelude
use Prelude.{◌≡◌, ℕ, zero, suc, ◌+◌, ◌-◌, ◌*◌, ◌/◌, ◌%◌, ◌<◌, ◌≤◌, Bool, true, false, List, [], ◌∷◌}
use Prelude.{◌++◌, length, map, get_or, take, drop, replicate, refl, ap, ◌∙◌, sym, subst, arith}
use Prelude.{◌==◌, ◌≢◌, nat_lt, slice_index, list_any, ext_get_or, length-replicate, length-take}
use Prelude.{drop_all, get_or_past, get_or-replicate, div-mul-add, numbers_below, collected, given}
use Prelude.{same_amounts, element_below, length_below, amount_of-collected, IsAmounts-collected}
use Prelude.{part_at_most, below_of, not_below_of, isnt_same, AgreeElsewhere, Gives, HaveRoom}
use Prelude.{words_of, pair_at, pairs_by, padded, is_touched, own_word, given_map_push, mapped-push}
use Rattle.std.proofs.Common.{All}
use Rattle.std.proofs.lemmas.List.{length-append, append_assoc, append-nil, take_all}
use Rattle.std.proofs.lemmas.List.{get_or_append_left, get_or-append_right, get_or-take}
use Rattle.std.proofs.lemmas.List.Elements.{All-head, All-tail}
use Rattle.std.proofs.lemmas.Nat.{mod-mul-add}
use Rattle.std.proofs.Math.Nat.{le-div_iff_mul-le, mul-le-mul_right}
use Rattle.vyrd_view.proofs.DecodedLaws.{own_length, part_of_within, part_within, is_place}
use Rattle.vyrd_view.proofs.DecodedLaws.{kept_others}
use Rattle.vyrd_view.proofs.PlacedLaws.{mapped}

-- a word past some zeroes, or among them
zeroed : (k w : ℕ) → ◌≡◌ {A = ℕ} (slice_index (replicate k 0) w) 0
zeroed k w = by_place (nat_lt w k) refl
  where
    by_place : (b : Bool) → nat_lt w k ≡ b → ◌≡◌ {A = ℕ} (get_or (replicate k 0) w 0) 0
    by_place true e = get_or-replicate k w 0 0 (below_of w k e)
    by_place false e = get_or_past (replicate k 0) w 0
        (omega (arith, length-replicate {A = ℕ} k 0, not_below_of w k e))

-- each word is the same with the zeroes that follow
pub padded_index : (count : ℕ) (words : List ℕ) (w : ℕ)
    → slice_index (padded count words) w ≡ slice_index words w
padded_index count words w = by_place (nat_lt w (length words)) refl
  where
    more : ℕ
    more = count - length words

    by_place : (b : Bool) → nat_lt w (length words) ≡ b
        → slice_index (padded count words) w ≡ slice_index words w
    by_place true e = get_or_append_left words (replicate more 0) 0 w
        (below_of w (length words) e)
    by_place false e =
        let past : length words ≤ w = not_below_of w (length words) e in
        get_or-append_right words (replicate more 0) (length words) w 0 refl past
        ∙ zeroed more (w - length words) ∙ sym (get_or_past words w 0 past)

pub padded_length : (count : ℕ) (words : List ℕ) → length words ≤ count
    → length (padded count words) ≡ count
padded_length count words few = grind (arith, count, few, length-append, length-replicate)

-- the zeroes may come at once or one after another
pub padded_again : (n count : ℕ) (words : List ℕ) → length words ≤ n → n ≤ count
    → padded count (padded n words) ≡ padded count words
padded_again n count words few less =
    let inner : length (padded n words) ≡ n = padded_length n _ few in
    ext_get_or 0 _ _ (padded_length _ (padded n _) (omega (arith, inner, less))
    ∙ sym (padded_length _ words (omega (arith, few, less))))
    (λ w low. padded_index count (padded n _) w ∙ padded_index n words w
    ∙ sym (padded_index count words w))

-- zeroes alone
pub padded_nothing : (n : ℕ) → padded n [] ≡ replicate n 0
padded_nothing n = grind arith

-- a word lies before the end of its part
pub in_its_part : (w width : ℕ) → 1 ≤ width → w < (w / width + 1) * width
in_its_part w width some = grind (arith, is_place)

-- one word more that lies in some parts
pub one_more_within : (changed : List ℕ) (index few more width : ℕ)
    → ((i : ℕ) → i < index → get_or changed i 0 < few * width) → few * width ≤ more * width
    → get_or changed index 0 < more * width → (i : ℕ) → i < index + 1
    → get_or changed i 0 < more * width
one_more_within changed index few more width before up here i low = grind arith

-- ---- the places of parts of zeroed words

-- one place more
pub quiet_more : (given : ℕ → ℕ × ℕ) (first s t : List (ℕ × ℕ)) (place : ℕ) (pair : ℕ × ℕ)
    → s ≡ first ++ map given (numbers_below place) → t ≡ s ++ pair ∷ [] → pair ≡ given place
    → t ≡ first ++ map given (numbers_below (place + 1))
quiet_more given first s t place pair before now is =
    grind (arith, given, append_assoc, mapped-push)

-- one part more
module _ (width places part : ℕ) (gives : Gives) (first s t : List (ℕ × ℕ)) (some : 1 ≤ places)
    (count : length s ≡ part * places)
    (now : t ≡ s ++ map (gives part (replicate width 0)) (numbers_below places)) where
  abbrev own : ℕ → ℕ × ℕ
  own = gives part (replicate width 0)

  pub quiet_count : length t ≡ part * places + places
  quiet_count = cc (length-append s (map own (numbers_below places)), length_below own places)

  pub quiet_old : (m : ℕ) → m < length s → get_or t m (0, 0) ≡ get_or s m (0, 0)
  quiet_old m low = cc (get_or_append_left s (map own (numbers_below places)) (0, 0) m low)

  pub quiet_new : ((m : ℕ) → length first ≤ m → m < length s
      → get_or s m (0, 0) ≡ gives (m / places) (replicate width 0) (m % places))
      → (m : ℕ) → length first ≤ m → m < length t
      → get_or t m (0, 0) ≡ gives (m / places) (replicate width 0) (m % places)
  quiet_new before m past low = by_place (nat_lt m (length s)) refl
    where
      by_place : (b : Bool) → nat_lt m (length s) ≡ b
          → get_or t m (0, 0) ≡ gives (m / places) (replicate width 0) (m % places)
      by_place true e = search (below_of, quiet_old, arith)
      by_place false e =
          let high : length s ≤ m = not_below_of m (length s) e in
          let j : ℕ = m - length s in
          let inside : j < places = omega (arith, low, high, quiet_count, count) in
          let at : m ≡ part * places + j = omega (arith, high, count) in
          let quotient : m / places ≡ part = cc (div-mul-add part places j inside) in
          let remainder : m % places ≡ j = cc (mod-mul-add part places j inside) in
          cc (
            get_or-append_right s (map own (numbers_below places)) (length s) m
                (0, 0) refl high,
            element_below own places j (0, 0) inside,
          )

-- ---- words that change

-- a word that none of the changed words can be
not_among : (n w : ℕ) (changed : List ℕ) → All (λ x. x < n) changed → n ≤ w
    → list_any (λ x. x == w) changed ≡ false
not_among n w [] low high = refl
not_among n w (x ∷ xs) low high =
    let apart : x ≢ w = λ same. absurd
    (omega (arith, same, All-head (λ y. y < n) x xs low, high)) in
    cc (isnt_same x w apart, not_among n w xs (All-tail (λ y. y < n) x xs low) high)

module _ (count : ℕ) (before words changed : List ℕ) (all : length words ≡ count)
    (few : length before ≤ count)
    (elsewhere : AgreeElsewhere (padded count before) words changed) where
  pub front_length : length (take (length before) words) ≡ length before
  front_length = length-take (length before) words ∙ omega (arith, all, few)

  -- the words that have room agree too, elsewhere
  pub front_agrees : AgreeElsewhere before (take (length before) words) changed
  front_agrees w other = by_place (nat_lt w _) refl
    where
      by_place : (b : Bool) → nat_lt w (length before) ≡ b
          → slice_index (take (length before) words) w ≡ slice_index before w
      by_place true e = get_or-take _ _ w 0 (below_of w _ e) ∙ elsewhere w other
          ∙ padded_index _ _ w
      by_place false e =
          let past : length before ≤ w = not_below_of w _ e in
          get_or_past _ w 0 (omega (arith, past, front_length)) ∙ sym (get_or_past _ w 0 past)

  -- and are all words, if no other one has changed
  pub front_is_all : All (λ w. w < length before) changed
      → padded count (take (length before) words) ≡ words
  front_is_all within =
      ext_get_or 0 (padded count (take (length before) words)) words
      (padded_length count (take (length before) words) (omega (arith, front_length, few))
      ∙ sym all)
      (λ w low. padded_index count (take (length before) words) w
      ∙ by_place w (nat_lt w (length before)) refl)
    where
      by_place : (w : ℕ) (b : Bool) → nat_lt w (length before) ≡ b
          → slice_index (take (length before) words) w ≡ slice_index words w
      by_place w true e = get_or-take (length before) words w 0 (below_of w (length before) e)
      by_place w false e =
          let past : length before ≤ w = not_below_of w (length before) e in
          get_or_past (take (length before) words) w 0 (omega (arith, past, front_length))
          ∙ sym (get_or_past before w 0 past) ∙ sym (padded_index count before w)
          ∙ sym (elsewhere w (not_among (length before) w changed within past))

-- ---- parts without room

-- a part all of whose words are past those that have room
pub own_padded : (width part parts held : ℕ) (words : List ℕ) → part < parts → held ≤ part
    → length words ≡ held * width
    → words_of width part (padded (parts * width) words) ≡ replicate width 0
own_padded width part parts held words low past count =
    let before : held * width ≤ part * width = mul-le-mul_right _ past in
    let inside : part * width + width ≤ parts * width = part_within _ _ _ low in
    let all : length (padded (parts * width) words) ≡ parts * width = padded_length _ _
    (omega (arith, before, inside, count)) in
    let own : length (words_of width part (padded (parts * width) words))
    ≡ width = own_length _ _ parts _ low all in
    ext_get_or 0 _ _ (own ∙ sym (length-replicate _ 0))
    (λ i inner. own_word width part (padded (parts * width) words) i (omega (arith, inner, own))
    ∙ padded_index (parts * width) words (part * width + i) ∙ get_or_past words (part * width + i) 0
    (omega (arith, before, count)) ∙ sym (zeroed _ i))

module _ (width places parts held : ℕ) (gives : Gives) (words : List ℕ) (some : 1 ≤ places)
    (few : held ≤ parts) (quiet : (part j : ℕ) → (gives part (replicate width 0) j).1 ≡ 0)
    (zeros : (part : ℕ) → part < parts → held ≤ part
    → words_of width part words ≡ replicate width 0) where
  -- a place of a part of zeroed words
  zero_place : (m : ℕ) → held * places ≤ m → m < parts * places
      → (pair_at width places gives words m).1 ≡ 0
  zero_place m past low = grind arith

  given_more : (q k : ℕ) → held * places + k ≤ parts * places
      → given q (map (pair_at width places gives words) (numbers_below (held * places + k)))
      ≡ given q (pairs_by width places held gives words)
  given_more q zero low =
      grind arith
  given_more q (suc k) low =
      let f : ℕ → ℕ × ℕ = pair_at width places gives words in
      let m : ℕ = held * places + k in
      let next : held * places + suc k ≡ m + 1 = omega arith in
      ap (λ n. given q (map f (numbers_below n))) next
      ∙ omega (
        arith,
        given_map_push q f m,
        part_at_most q (f m).0 (f m).1,
        zero_place m (omega arith) (omega (arith, low)),
        given_more q k (omega (arith, low)),
      )

  -- the first parts show what all do
  pub held_shows : collected (pairs_by width places held gives words)
      ≡ collected (pairs_by width places parts gives words)
  held_shows =
      let first : List (ℕ × ℕ) = pairs_by width places held gives words in
      let all : List (ℕ × ℕ) = pairs_by width places parts gives words in
      let less : held * places ≤ parts * places = mul-le-mul_right places few in
      let whole : held * places + (parts * places - held * places) ≡ parts * places =
      omega (arith, less) in
      same_amounts (collected first) (collected all) (IsAmounts-collected first)
      (IsAmounts-collected all)
      (λ q. amount_of-collected first q
      ∙ sym (given_more q (parts * places - held * places) (omega (arith, less)))
      ∙ ap (λ n. given q (map (pair_at width places gives words) (numbers_below n))) whole
      ∙ sym (amount_of-collected all q))

-- the pairs of the parts that had room, and of those that get it
pub room_pairs : (width places parts held more : ℕ) (gives : Gives) (words : List ℕ)
    (before now : List (ℕ × ℕ)) → 1 ≤ places → more ≤ parts
    → ((part : ℕ) → part < parts → held ≤ part → words_of width part words ≡ replicate width 0)
    → before ≡ pairs_by width places held gives words → length now ≡ more * places
    → ((m : ℕ) → m < length before → get_or now m (0, 0) ≡ get_or before m (0, 0))
    → ((m : ℕ) → length before ≤ m → m < length now
    → get_or now m (0, 0) ≡ gives (m / places) (replicate width 0) (m % places))
    → now ≡ pairs_by width places more gives words
room_pairs width places parts held more gives words before now some few zeros are count old new =
    mapped f now (more * places) count (λ m low. by_place m low (nat_lt m (length before)) refl)
  where
    f : ℕ → ℕ × ℕ
    f = pair_at width places gives words

    length_is : length before ≡ held * places
    length_is = ap length are ∙ length_below f (held * places)

    by_place : (m : ℕ) → m < more * places → (b : Bool) → nat_lt m (length before) ≡ b
        → get_or now m (0, 0) ≡ f m
    by_place m low true e =
        let inside : m < length before = below_of m (length before) e in
        old m inside ∙ ap (λ s. get_or s m (0, 0)) are
        ∙ element_below f (held * places) m (0, 0) (omega (arith, inside, length_is))
    by_place m low false e =
        let past : length before ≤ m = not_below_of m (length before) e in
        let part : m / places < more = part_of_within m more places low in
        let high : held ≤ m / places =
        (le-div_iff_mul-le (omega (arith, some))).1 (omega (arith, past, length_is)) in
        new m past (omega (arith, low, count))
        ∙ ap (λ own. gives (m / places) own (m % places))
        (sym (zeros (m / places) (omega (arith, part, few)) high))

-- ---- room for more parts

module _ (width places parts : ℕ) (gives : Gives) (some : 1 ≤ places) where
  -- no part has room
  pub no_room : HaveRoom width places parts 0 gives [] []
  no_room = search (given, padded, arith)

  -- more parts get it, with zeroed words
  pub more_room : (held more : ℕ) (before words : List ℕ) (pairs now : List (ℕ × ℕ))
      → HaveRoom width places parts held gives before pairs → held ≤ more → more ≤ parts
      → words ≡ padded (more * width) before → length now ≡ more * places
      → ((m : ℕ) → m < length pairs → get_or now m (0, 0) ≡ get_or pairs m (0, 0))
      → ((m : ℕ) → length pairs ≤ m → m < length now
      → get_or now m (0, 0) ≡ gives (m / places) (replicate width 0) (m % places))
      → (padded (parts * width) words ≡ padded (parts * width) before)
      × HaveRoom width places parts more gives words now
  more_room held more before words pairs now room up few are count old new = (
    same,
    record {
      few = few;
      count = ap length are ∙ padded_length _ _ less;
      given =
          room_pairs width _ parts held _ gives (padded (parts * width) before) pairs _ some few
          (λ part low past. own_padded width part parts held before low past room.count) room.given
          count old new ∙ ap (pairs_by width _ _ gives) (sym same);
    },
  )
    where
      less : length before ≤ more * width
      less = omega (arith, mul-le-mul_right width up, room.count)

      same : padded (parts * width) words ≡ padded (parts * width) before
      same = cc (padded_again (more * width) (parts * width) before less
          (mul-le-mul_right width few))

-- ---- changed words of parts that have room

module _ (width places parts held : ℕ) (gives : Gives) (before words changed : List ℕ)
    (pairs : List (ℕ × ℕ)) (room : HaveRoom width places parts held gives before pairs)
    (all : length words ≡ parts * width)
    (elsewhere : AgreeElsewhere (padded (parts * width) before) words changed)
    (within : All (λ w. w < held * width) changed) where
  less : length before ≤ parts * width
  less = omega (arith, room.count, mul-le-mul_right width room.few)

  inner : All (λ w. w < length before) changed
  inner = subst (λ n. All (λ w. w < n) changed) (sym room.count) within

  pub room_agrees : AgreeElsewhere before (take (length before) words) changed
  room_agrees = front_agrees (parts * width) before words changed all less elsewhere

  pub room_others : (m : ℕ) → m < length pairs → is_touched width (m / places) changed ≡ false
      → get_or pairs m (0, 0) ≡ pair_at width places gives words m
  room_others = search (kept_others, padded, padded_length, less, arith)

  -- what they have room for is up to date again
  pub room_whole : padded (parts * width) (take (length before) words) ≡ words
  room_whole = front_is_all (parts * width) before words changed all less elsewhere inner

  pub room_stays : (now : List (ℕ × ℕ)) → now ≡ pairs_by width places held gives words
      → HaveRoom width places parts held gives (take (length before) words) now
  room_stays now are = record {
    few = room.few;
    count = length-take (length before) words ∙ omega (arith, all, less, room.count);
    given = are ∙ ap (pairs_by width places held gives) (sym room_whole);
  }

-- all words that there are
pub room_length : (width places parts held : ℕ) (gives : Gives) (words : List ℕ)
    (pairs : List (ℕ × ℕ)) → HaveRoom width places parts held gives words pairs
    → length (padded (parts * width) words) ≡ parts * width
room_length width places parts held gives words pairs room = search (padded_length, parts, arith)

-- what a call leaves that changes all words of a list
pub written_back : (n : ℕ) (xs ys : List ℕ) → n ≡ length ys → length xs ≡ length ys
    → take n (xs ++ drop (length xs) ys) ≡ xs
written_back n xs ys all same =
    ap (λ rest. take n (xs ++ rest)) (drop_all (length xs) ys (omega (arith, same)))
    ∙ ap (take n) (append-nil xs) ∙ take_all n xs (omega (arith, all, same))

-- what the parts with room give is what all words show
pub room_shows : (width places parts held : ℕ) (gives : Gives) (words : List ℕ)
    (pairs : List (ℕ × ℕ)) → HaveRoom width places parts held gives words pairs → 1 ≤ places
    → ((part j : ℕ) → (gives part (replicate width 0) j).1 ≡ 0)
    → collected pairs ≡ collected (pairs_by width places parts gives (padded (parts * width) words))
room_shows width places parts held gives words pairs room some quiet =
    search (collected, held_shows, padded, own_padded, arith)
