-- What stays true of the words, the blocks and the changed words.
use Rattle.vyrd_shadow.proofs.Prelude
use Prelude.{◌≡◌, ℕ, ◌+◌, ◌^◌, ◌<◌, ◌≤◌, ◌-◌, List, [], length, length-append, Option, Some, None}
use Prelude.{◌∙◌, sym, subst, arith, get_or, set, get_or-set_other, get_or-set_same, length-set}
use Prelude.{take, drop, ◌++◌, unwrap_or, All, keys_of, take-append_seam, length-map, All-append}
use Prelude.{Header, plain_words, by_same, with_writes, with_kept, AreInRange, kept_count, IsSound}
use Rattle.std.proofs.lemmas.List.Sums.{sum_by-set}
use Rattle.vyrd_shadow.proofs.KeptWrites.{differs, in_range_kept, length-with_writes, below_with}
use Rattle.vyrd_shadow.proofs.KeptWrites.{keys_below}

-- what is known of the rest when a block is replaced
record Rest (h : Header) (words changed : List ℕ) (count capacity : ℕ) : Type 0 where
  all_words : length words ≡ plain_words h
  values : (w : ℕ) → get_or words w 0 < 2 ^ 63
  changed_words : All (λ w. w < plain_words h) changed
  room : length changed + count ≤ capacity

sound_set : (h : Header) (words : List ℕ) (blocks : List (Option (List (ℕ × ℕ)))) (changed : List ℕ)
    (count capacity : ℕ)
    → IsSound h words blocks changed count capacity
    → (c : ℕ) (block : Option (List (ℕ × ℕ))) → c < h.callers → AreInRange (plain_words h)
    (unwrap_or block [])
    → (words' changed' : List ℕ) (count' capacity' : ℕ)
    → count' + length (unwrap_or (get_or blocks c None) []) ≡ count + length (unwrap_or block [])
    → Rest h words' changed' count' capacity' → IsSound h words' (set blocks c block) changed'
    count' capacity'
sound_set h words blocks changed count capacity sound c block low in_range words' changed' count'
    capacity' counts rest = record {
      all_words = rest.all_words;
      all_blocks = length-set _ c _ ∙ sound.all_blocks;
      values = rest.values;
      writes = λ d. by_same c d
          (λ same. subst
          (λ x. AreInRange (plain_words h) (unwrap_or (get_or (set blocks c block) x None) [])) same
          (rw (get_or-set_same blocks c block None (omega (arith, sound.all_blocks))) in_range))
          (λ other. rw (get_or-set_other blocks c d block None (differs c d other))
          (sound.writes d));
      changed_words = rest.changed_words;
      counted =
          let sums : kept_count (set blocks c block) + length (unwrap_or (get_or blocks c None) [])
          ≡ kept_count blocks + length (unwrap_or block []) = sum_by-set _ _ c _ _
          (omega (arith, sound.all_blocks)) in
          omega (arith, sums, sound.counted);
      room = rest.room;
    }

-- a block keeps no more than all do
kept_at_most : (blocks : List (Option (List (ℕ × ℕ)))) (c : ℕ) → c < length blocks
    → length (unwrap_or (get_or blocks c None) []) ≤ kept_count blocks
kept_at_most blocks c low =
    let sums : kept_count (set blocks c None) + length (unwrap_or (get_or blocks c None) [])
    ≡ kept_count blocks + 0 = sum_by-set _ _ c _ _ low in
    omega (arith, sums)

-- one more write is kept back
pub sound_kept : (h : Header) (words : List ℕ) (blocks : List (Option (List (ℕ × ℕ))))
    (changed : List ℕ) (count capacity : ℕ)
    → IsSound h words blocks changed count capacity
    → (c word value : ℕ) (read block : Option (List (ℕ × ℕ))) → c < h.callers → word < plain_words h
    → value < 2 ^ 63
    → read ≡ get_or blocks c None → block ≡ Some (with_kept (unwrap_or read []) word value)
    → (changed' : List ℕ) (more count' capacity' : ℕ) → changed' ≡ changed
    → length (unwrap_or block []) ≡ length (unwrap_or read []) + more → count' ≡ count + more
    → length changed' + count' ≤ capacity'
    → IsSound h words (set blocks c block) changed' count' capacity'
sound_kept h words blocks changed count capacity sound c word value read block low low_w small is
    new changed' more count' capacity' same longer counts room =
    let size : length (unwrap_or read []) ≡ length (unwrap_or (get_or blocks c None) []) = cc in
    let in_range : AreInRange (plain_words h) (unwrap_or read []) = rw is (sound.writes c) in
    let more_in_range = in_range_kept (plain_words h) word value (unwrap_or read []) low_w small
    in_range in
    sound_set h words _ changed count capacity sound c _ low (rw new more_in_range) _ _ _ _
    (omega arith)
    (record {
      all_words = sound.all_words;
      values = sound.values;
      changed_words = subst (All (λ w. w < plain_words h)) (sym same) sound.changed_words;
      room = room;
    })

-- a block's writes take effect
pub sound_closed : (h : Header) (words : List ℕ) (blocks : List (Option (List (ℕ × ℕ))))
    (changed : List ℕ) (count capacity : ℕ)
    → IsSound h words blocks changed count capacity
    → (c : ℕ) → c < h.callers → (count' capacity' : ℕ) → count' ≡ count
    - length (unwrap_or (get_or blocks c None) []) → capacity ≤ capacity'
    → IsSound h (with_writes words (unwrap_or (get_or blocks c None) [])) (set blocks c None)
    (changed ++ keys_of (unwrap_or (get_or blocks c None) [])) count' capacity'
sound_closed h words blocks changed count capacity sound c low count' capacity' counts more =
    let writes = unwrap_or (get_or blocks c None) [] in
    let few = kept_at_most blocks c (omega (arith, low, sound.all_blocks)) in
    sound_set h words blocks changed count capacity sound c None low tt
    (with_writes words writes) (changed ++ keys_of writes) count' capacity'
    (omega (arith, few, sound.counted))
    (record {
      all_words = length-with_writes words writes ∙ sound.all_words;
      values = below_with words (plain_words h) writes sound.values (sound.writes c);
      changed_words = All-append (λ w. w < plain_words h) changed
          (keys_of writes) sound.changed_words
          (keys_below (plain_words h) writes (sound.writes c));
      room = omega (
        arith,
        few,
        sound.counted,
        sound.room,
        length-append changed
            (keys_of writes),
        length-map writes (λ e. e.0),
      );
    })

-- words that were lent whole have the writes of the block
pub effect_is : (n : ℕ) (new lent words : List ℕ) (writes : List (ℕ × ℕ)) → n ≡ length words
    → lent ≡ words → new ≡ with_writes lent writes
    → take n (new ++ drop (length new) words) ≡ with_writes words writes
effect_is n new lent words writes size same effect =
    cc (length-with_writes words writes, take-append_seam new (drop (length new) words))
