-- Proofs of laws that an impl in src/ names: no contract says what is defined here.
-- Each procedure of string buffers is sound.
use Rattle.std.proofs.Common.{◌≡◌, ℕ, zero, suc, ◌+◌, ◌*◌, ◌^◌, ◌<◌, ◌≤◌, min, max, Bool, true}
use Rattle.std.proofs.Common.{false, cond, not, List, [], ◌∷◌, ◌++◌, length, refl, ap, ◌∙◌}
use Rattle.std.proofs.Common.{sym, subst, arith}
use Rattle.std.specs.Prelude.{◌==◌, ◌&&◌, ◌||◌, nat_lt, nat_le, is_some}
use Rattle.std.proofs.lemmas.List.{length_push}
use Rattle.vyrd_base.specs.declared.header.Header.{Header}
use Rattle.vyrd_base.specs.declared.subject.Subject.TheVariants.{Buffers}
use Rattle.vyrd_base.specs.declared.subject.Method.{Method}
use Rattle.vyrd_base.specs.declared.subject.Method.TheVariants.{Multiset as OfMultiset}
use Rattle.vyrd_base.specs.declared.subject.Method.TheVariants.{Cache as OfCache, Tree as OfTree}
use Rattle.vyrd_base.specs.declared.subject.Method.TheVariants.{Buffers as OfBuffers}
use Rattle.vyrd_base.specs.declared.subject.Method.TheVariants.{OwnNever, OwnAtMostOnce, OwnOnce}
use Rattle.vyrd_base.specs.declared.buffers.BuffersMethod.TheVariants.{Append, AppendFrom, Cut}
use Rattle.vyrd_base.specs.declared.buffers.BuffersMethod.TheVariants.{Length, Read}
use Rattle.vyrd_base.specs.declared.subject.Args.{Args}
use Rattle.vyrd_base.specs.declared.log.Kind.TheVariants.{Commit, BlockCommit}
use Rattle.vyrd_base.specs.Subjects.{subject_of, is_observer, are_args}
use Rattle.vyrd_base.specs.Layout.{plain_words_of, lock_words_of}
use Rattle.vyrd_base.specs.Histories.{cells_of, is_plain, is_lock}
use Rattle.vyrd_base.proofs.TestLaws.{both_true, first_true, second_true, same_number, is_below}
use Rattle.vyrd_base.proofs.TestLaws.{below_of, is_at_most, at_most_of, above_of}
use Rattle.vyrd_memory.specs.declared.act.Act.TheVariants.{Load, Mark}
use Rattle.vyrd_memory.specs.declared.op.Variant.{Variant}
use Rattle.vyrd_memory.specs.declared.op.Variant.TheVariants.{Correct, Broken}
use Rattle.vyrd_memory.specs.Arguments.{are_small}
use Rattle.vyrd_memory.specs.Scripts.{Script, step, perform, returns}
use Rattle.vyrd_memory.specs.Soundness.{Situation, IsSound, just_called}
use Rattle.vyrd_memory.proofs.Small.{small_b}
use Rattle.vyrd_memory.proofs.SoundActs.{holding, in_block, store_sound, either, gone, held_first}
use Rattle.vyrd_memory.proofs.SoundActs.{other_lock}
use Rattle.vyrd_buffers.specs.Cells.{count_cell, character_cell, lock_of, lock, unlock, lock_other}
use Rattle.vyrd_buffers.specs.Procedures.{procedure_of, commit_count, append_at, append, load_from}
use Rattle.vyrd_buffers.specs.Procedures.{store_from}
use Rattle.vyrd_buffers.specs.Procedures.{unlock_both, append_held, append_all, append_from, cut_at}
use Rattle.vyrd_buffers.specs.Procedures.{cut, length_of}
use Rattle.vyrd_buffers.specs.Procedures.{read_from, read}

plain_cell : (h : Header) (cell : ℕ) → h.subject ≡ Buffers → cell < 8 * h.size
    → is_plain (cells_of h) cell ≡ true
plain_cell h cell is low =
    ap (λ s. nat_lt cell (plain_words_of s h.size)) is ∙ is_below cell (8 * h.size) low

count_plain : (h : Header) (b : ℕ) → h.subject ≡ Buffers → b < h.size
    → is_plain (cells_of h) (count_cell b) ≡ true
count_plain h b is low = plain_cell h (count_cell b) is (omega arith)

character_plain : (h : Header) (b i : ℕ) → h.subject ≡ Buffers → b < h.size → i < 7
    → is_plain (cells_of h) (character_cell b i) ≡ true
character_plain h b i is low few = plain_cell h (character_cell b i) is (omega arith)

pub lock_cell : (h : Header) (b : ℕ) → h.subject ≡ Buffers → b < h.size
    → is_lock (cells_of h) (lock_of h b) ≡ true
lock_cell h b is low =
    ap (λ s. nat_le (plain_words_of s h.size) (lock_of h b)
    && nat_lt (lock_of h b) (plain_words_of s h.size + lock_words_of s h.size)) is
    ∙ both_true _ _ (is_at_most (8 * h.size) (8 * h.size + b) (omega arith))
    (is_below (8 * h.size + b) (8 * h.size + h.size) (omega arith))

-- the one lock is taken, and given back
taken : (h : Header) (b : ℕ) (method : Method) (committed : Bool) (later : Script)
    → h.subject ≡ Buffers → b < h.size
    → IsSound h (holding (lock_of h b ∷ []) method committed) later
    → IsSound h (holding [] method committed) (lock h b later)
taken h b method committed later is low sound =
    (both_true _ _ (lock_cell h b is low) refl, λ answer none. sound)

given : (h : Header) (b : ℕ) (method : Method) (committed : Bool) (later : Script)
    → h.subject ≡ Buffers → b < h.size → IsSound h (holding [] method committed) later
    → IsSound h (holding (lock_of h b ∷ []) method committed) (unlock h b later)
given h b method committed later is low sound = (
  both_true _ _ (lock_cell h b is low) (held_first (lock_of h b) [] method committed),
  λ answer none. subst (λ locks. IsSound h (holding locks method committed) later)
      (sym (gone (lock_of h b) [])) sound,
)

-- the return, after which the caller is at rest
returned : (h : Header) (method : Method) (committed : Bool) (reply : ℕ)
    → (is_observer method || committed) ≡ true
    → IsSound h (holding [] method committed) (returns reply)
returned h method committed reply may =
    (both_true _ _ (both_true _ _ refl may) refl, λ answer none. refl)

leave : (h : Header) (b : ℕ) (method : Method) (committed : Bool) (reply : ℕ) → h.subject ≡ Buffers
    → b < h.size
    → (is_observer method || committed) ≡ true
    → IsSound h (holding (lock_of h b ∷ []) method committed) (unlock h b (returns reply))
leave h b method committed reply is low may =
    given h b method committed (returns reply) is low (returned h method committed reply may)

-- a commit outside a block
lone_commit : (h : Header) (locks : List ℕ) (method : Method) (later : Script)
    → is_observer method ≡ false → IsSound h (holding locks method true) later
    → IsSound h (holding locks method false) (perform (Mark Commit) later)
lone_commit h locks method later mutates sound = (simp mutates, λ answer none. sound)

-- the end of a block that gives a buffer its count
counted : (h : Header) (locks : List ℕ) (method : Method) (b count : ℕ) (later : Script)
    → h.subject ≡ Buffers → is_observer method ≡ false → b < h.size → count < 2 ^ 63
    → IsSound h (holding locks method true) later
    → IsSound h (in_block locks method) (commit_count b count later)
counted h locks method b count later is mutates low small sound =
    store_sound h (in_block locks method) (count_cell b) count (perform (Mark BlockCommit) later)
    (count_plain h b is low) small refl
    (simp mutates, λ answer none. sound)

-- a look at the count of one buffer, with its lock held
looked : (h : Header) (b : ℕ) (method : Method) (rest : ℕ → Script) → h.subject ≡ Buffers
    → b < h.size
    → ((count : ℕ) → count < 2 ^ 63
    → IsSound h (holding (lock_of h b ∷ []) method false) (rest count))
    → IsSound h (just_called method) (lock h b (step (Load (count_cell b)) rest))
looked h b method rest is low sound =
    taken h b method false (step (Load (count_cell b)) rest) is low (count_plain h b is low, sound)

sound_append_at : (h : Header) (b x count : ℕ) → h.subject ≡ Buffers → b < h.size → x < 2 ^ 32
    → IsSound h (holding (lock_of h b ∷ []) (OfBuffers Append) false) (append_at h b x count)
sound_append_at h b x count is low small = either h _ (nat_le 7 count) _ _
    (λ full. lone_commit h (lock_of h b ∷ []) (OfBuffers Append) (unlock h b (returns 0)) refl
    (leave h b (OfBuffers Append) true 0 is low refl))
    (λ room. (
      refl,
      λ answer none. store_sound h (in_block (lock_of h b ∷ []) (OfBuffers Append))
          (character_cell b count) x
          (commit_count b (count + 1) (unlock h b (returns 1)))
          (character_plain h b count is low (above_of 7 count room)) (omega (arith, small)) refl
          (counted h (lock_of h b ∷ []) (OfBuffers Append) b (count + 1) (unlock h b (returns 1)) is
          refl low
          (omega (arith, above_of 7 count room)) (leave h b (OfBuffers Append) true 1 is low refl)),
    ))

sound_cut_at : (h : Header) (b n count : ℕ) → h.subject ≡ Buffers → b < h.size → n < 2 ^ 32
    → IsSound h (holding (lock_of h b ∷ []) (OfBuffers Cut) false) (cut_at h b n count)
sound_cut_at h b n count is low small = either h _ (nat_le count n) _ _
    (λ short. lone_commit h (lock_of h b ∷ []) (OfBuffers Cut) (unlock h b (returns 1)) refl
    (leave h b (OfBuffers Cut) true 1 is low refl))
    (λ long. (
      refl,
      λ answer none. counted h (lock_of h b ∷ []) (OfBuffers Cut) b n (unlock h b (returns 1)) is
          refl low
          (omega (arith, small)) (leave h b (OfBuffers Cut) true 1 is low refl),
    ))

-- reading a buffer
sound_read_from : (h : Header) (left b i text : ℕ) → h.subject ≡ Buffers → b < h.size → i + left ≤ 7
    → IsSound h (holding (lock_of h b ∷ []) (OfBuffers Read) false) (read_from h left b i text)
sound_read_from h zero b i text is low few = leave h b (OfBuffers Read) false text is low refl
sound_read_from h (suc left) b i text is low few = (
  character_plain h b i is low (omega (arith, few)),
  λ character small. sound_read_from h left b (i + 1) _ is low (omega (arith, few)),
)

-- whether all of these may be store_sound
abbrev are_low : List ℕ → Bool
are_low [] = true
are_low (character ∷ characters) = nat_lt character (2 ^ 63) && are_low characters

one_more_low : (characters : List ℕ) (character : ℕ) → are_low characters ≡ true
    → character < 2 ^ 63
    → are_low (characters ++ character ∷ []) ≡ true
one_more_low [] character all low = both_true _ _ (is_below character (2 ^ 63) low) refl
one_more_low (first ∷ characters) character all low =
    both_true _ _ (first_true _ _ all) (one_more_low characters character
    (second_true (nat_lt first (2 ^ 63)) (are_low characters) all) low)

-- loading characters is sound if what follows is, for whatever was loaded
sound_load_from : (h : Header) (s : Situation) (left b i : ℕ) (held : List ℕ)
    (loaded : List ℕ → Script)
    → h.subject ≡ Buffers → b < h.size → i + left ≤ 7 → are_low held ≡ true
    → ((all : List ℕ) → are_low all ≡ true → length all ≡ length held + left
    → IsSound h s (loaded all))
    → IsSound h s (load_from left b i held loaded)
sound_load_from h s zero b i held loaded is low few small sound = sound held small (omega arith)
sound_load_from h s (suc left) b i held loaded is low few small sound = (
  character_plain h b i is low (omega (arith, few)),
  λ character below.
      sound_load_from h s left b (i + 1) (held ++ character ∷ []) loaded is low (omega (arith, few))
      (one_more_low held character small below)
      (λ all are_all long. sound all are_all (omega (arith, long, length_push held character))),
)

sound_store_from : (h : Header) (s : Situation) (characters : List ℕ) (b i : ℕ) (later : Script)
    → h.subject ≡ Buffers → b < h.size → is_some s.called ≡ true → i + length characters ≤ 7
    → are_low characters ≡ true → IsSound h s later
    → IsSound h s (store_from characters b i later)
sound_store_from h s [] b i later is low called few small sound = sound
sound_store_from h s (character ∷ characters) b i later is low called few small sound =
    store_sound h s (character_cell b i) character (store_from characters b (i + 1) later)
    (character_plain h b i is low (omega (arith, few)))
    (below_of character (2 ^ 63) (first_true _ _ small)) called
    (sound_store_from h s characters b (i + 1) later is low called (omega (arith, few))
    (second_true (nat_lt character (2 ^ 63)) (are_low characters) small) sound)

sound_append_held : (h : Header) (locks : List ℕ) (first second b count more : ℕ) (held : List ℕ)
    → h.subject ≡ Buffers → b < h.size → length held ≡ more → count + more ≤ 7 → are_low held ≡ true
    → IsSound h (holding locks (OfBuffers AppendFrom) true) (unlock_both h first second (returns 1))
    → IsSound h (holding locks (OfBuffers AppendFrom) false)
    (append_held h first second b count more held)
sound_append_held h locks first second b count more held is low long few small sound = (
  refl,
  λ answer none.
      sound_store_from h (in_block locks (OfBuffers AppendFrom)) held b count
      (commit_count b (count + more) (unlock_both h first second (returns 1))) is low refl
      (omega (arith, long, few)) small
      (counted h locks (OfBuffers AppendFrom) b (count + more)
      (unlock_both h first second (returns 1)) is
      refl low (omega (arith, few)) sound),
)

-- with the counts known it is sound under locks that are then given back
sound_append_all : (h : Header) (locks : List ℕ) (first second b s count more : ℕ)
    → h.subject ≡ Buffers → b < h.size → s < h.size
    → ((reply : ℕ)
    → IsSound h (holding locks (OfBuffers AppendFrom) true)
    (unlock_both h first second (returns reply)))
    → IsSound h (holding locks (OfBuffers AppendFrom) false)
    (append_all h first second b s count more)
sound_append_all h locks first second b s count more is low_b low_s sound =
    either h _ (nat_le (count + more) 7) _ _
    (λ room. sound_load_from h (holding locks (OfBuffers AppendFrom) false) more s 0 []
    (append_held h first second b count more) is low_s
    (omega (arith, at_most_of (count + more) 7 room)) refl
    (λ all small long. sound_append_held h locks first second b count more all is low_b
    (omega (arith, long)) (at_most_of (count + more) 7 room) small (sound 1)))
    (λ full. lone_commit h locks (OfBuffers AppendFrom) (unlock_both h first second (returns 0))
    refl
    (sound 0))

-- both locks are given back
given_one : (h : Header) (first second reply : ℕ) → h.subject ≡ Buffers → first < h.size
    → (first == second) ≡ true
    → IsSound h (holding (lock_of h first ∷ []) (OfBuffers AppendFrom) true)
    (unlock_both h first second (returns reply))
given_one h first second reply is low same =
    subst
    (λ b. IsSound h (holding (lock_of h first ∷ []) (OfBuffers AppendFrom) true)
    (cond b (unlock h first (returns reply)) (unlock h second (unlock h first (returns reply)))))
    (sym same) (leave h first (OfBuffers AppendFrom) true reply is low refl)

given_both : (h : Header) (first second reply : ℕ) → h.subject ≡ Buffers → first < h.size
    → second < h.size
    → (first == second) ≡ false
    → IsSound h (holding (lock_of h second ∷ lock_of h first ∷ []) (OfBuffers AppendFrom) true)
    (unlock_both h first second (returns reply))
given_both h first second reply is low_first low_second apart =
    subst (λ b. IsSound h
    (holding (lock_of h second ∷ lock_of h first ∷ []) (OfBuffers AppendFrom) true)
    (cond b (unlock h first (returns reply))
    (unlock h second (unlock h first (returns reply))))) (sym apart) (
      both_true _ _ (lock_cell h second is low_second)
          (held_first (lock_of h second) (lock_of h first ∷ []) (OfBuffers AppendFrom) true),
      λ answer none.
          subst
          (λ locks. IsSound h (holding locks (OfBuffers AppendFrom) true)
          (unlock h first (returns reply)))
          (sym (gone (lock_of h second) (lock_of h first ∷ [])
          ∙ ap (λ b. cond (not b) (lock_of h first ∷ []) [])
          (other_lock (8 * h.size) first second apart)))
          (leave h first (OfBuffers AppendFrom) true reply is low_first refl),
    )

-- the counts of both buffers are loaded
both_counts : (h : Header) (locks : List ℕ) (b s : ℕ) (rest : ℕ → ℕ → Script) → h.subject ≡ Buffers
    → b < h.size → s < h.size
    → ((count more : ℕ) → IsSound h (holding locks (OfBuffers AppendFrom) false) (rest count more))
    → IsSound h (holding locks (OfBuffers AppendFrom) false)
    (step (Load (count_cell b)) (λ count. step (Load (count_cell s)) (rest count)))
both_counts h locks b s rest is low_b low_s sound = (
  count_plain h b is low_b,
  λ count small. (count_plain h s is low_s, λ more low. sound count more),
)

-- under both locks
under_both : (h : Header) (first second b s : ℕ) → h.subject ≡ Buffers → first < h.size
    → second < h.size → b < h.size → s < h.size
    → IsSound h (holding [] (OfBuffers AppendFrom) false) (lock h first
    (lock_other h first second (step (Load (count_cell b)) (λ count. step (Load (count_cell s))
    (λ more. append_all h first second b s (min count 7) (min more 7))))))
under_both h first second b s is low_first low_second low_b low_s =
    taken h first (OfBuffers AppendFrom) false (lock_other h first second both) is low_first
    (either h _ (first == second) _ _
    (λ same. counts (lock_of h first ∷ [])
    (λ reply. given_one h first second reply is low_first same))
    (λ apart. (
      both_true _ _ (lock_cell h second is low_second)
          (ap (λ b. not (b || false)) (other_lock (8 * h.size) first second apart)),
      λ answer none. counts (lock_of h second ∷ lock_of h first ∷ [])
          (λ reply. given_both h first second reply is low_first low_second apart),
    )))
  where
    both : Script
    both = step (Load (count_cell b)) (λ count. step (Load (count_cell s))
        (λ more. append_all h first second b s (min count 7) (min more 7)))

    counts : (locks : List ℕ)
        → ((reply : ℕ)
        → IsSound h (holding locks (OfBuffers AppendFrom) true)
        (unlock_both h first second (returns reply)))
        → IsSound h (holding locks (OfBuffers AppendFrom) false) both
    counts locks sound = both_counts h locks b s
        (λ count more. append_all h first second b s (min count 7) (min more 7)) is low_b low_s
        (λ count more. sound_append_all h locks first second b s (min count 7) (min more 7) is low_b
        low_s sound)

sound_append_from : (h : Header) (variant : Variant) (b s : ℕ) → h.subject ≡ Buffers → b < h.size
    → s < h.size
    → IsSound h (just_called (OfBuffers AppendFrom)) (append_from h variant b s)
sound_append_from h Correct b s is low_b low_s =
    under_both h (min b s) (max b s) b s is (omega (arith, low_b, low_s))
    (omega (arith, low_b, low_s)) low_b low_s
sound_append_from h Broken b s is low_b low_s =
    looked h s (OfBuffers AppendFrom) (λ more. unlock h s (alone more)) is low_s (λ more small.
    given h s (OfBuffers AppendFrom) false (alone more) is low_s (looked h b (OfBuffers AppendFrom)
    (λ count. append_all h b b b s (min count 7) (min more 7)) is low_b
    (λ count low. sound_append_all h (lock_of h b ∷ []) b b b s (min count 7) (min more 7) is low_b
    low_s (λ reply. given_one h b b reply is low_b (same_number b)))))
  where
    alone : ℕ → Script
    alone more = lock h b
        (step (Load (count_cell b)) (λ count. append_all h b b b s (min count 7) (min more 7)))

sound_append : (h : Header) (b x : ℕ) → h.subject ≡ Buffers → b < h.size → x < 2 ^ 32
    → IsSound h (just_called (OfBuffers Append)) (append h b x)
sound_append h b x is low small = looked h b (OfBuffers Append) (append_at h b x) is low
    (λ count below. sound_append_at h b x count is low small)

sound_cut : (h : Header) (b n : ℕ) → h.subject ≡ Buffers → b < h.size → n < 2 ^ 32
    → IsSound h (just_called (OfBuffers Cut)) (cut h b n)
sound_cut h b n is low small =
    looked h b (OfBuffers Cut) (cut_at h b n) is low
    (λ count below. sound_cut_at h b n count is low small)

sound_length_of : (h : Header) (b : ℕ) → h.subject ≡ Buffers → b < h.size
    → IsSound h (just_called (OfBuffers Length)) (length_of h b)
sound_length_of h b is low =
    looked h b (OfBuffers Length) (λ count. unlock h b (returns (min count 7))) is low
    (λ count below. leave h b (OfBuffers Length) false (min count 7) is low refl)

sound_read : (h : Header) (b : ℕ) → h.subject ≡ Buffers → b < h.size
    → IsSound h (just_called (OfBuffers Read)) (read h b)
sound_read h b is low = looked h b (OfBuffers Read) (λ count. read_from h (min count 7) b 0 0) is
    low
    (λ count below. sound_read_from h (min count 7) b 0 0 is low (omega arith))

-- the arguments name a buffer, and those of append_from another
first_below : (size : ℕ) (method : Method) (args : Args) → subject_of method ≡ Buffers
    → are_args size method args ≡ true → args.a < size
first_below size method args of_buffers fit = by_method method of_buffers fit
  where
    alone : (padded : Bool) → (padded && nat_lt args.a size) ≡ true → args.a < size
    alone padded e = below_of args.a size (second_true padded (nat_lt args.a size) e)

    with_more : (padded more : Bool) → (padded && (nat_lt args.a size && more)) ≡ true
        → args.a < size
    with_more padded more e = below_of args.a size
        (first_true (nat_lt args.a size) more (second_true padded (nat_lt args.a size && more) e))

    by_method : (method : Method) → subject_of method ≡ Buffers → are_args size method args ≡ true
        → args.a < size
    by_method (OfBuffers Append) of_buffers fit = with_more _ _ fit
    by_method (OfBuffers AppendFrom) of_buffers fit = with_more _ _ fit
    by_method (OfBuffers Cut) of_buffers fit = alone _ fit
    by_method (OfBuffers Length) of_buffers fit = alone _ fit
    by_method (OfBuffers Read) of_buffers fit = alone _ fit
    by_method (OfMultiset other) of_buffers fit = cc
    by_method (OfCache other) of_buffers fit = cc
    by_method (OfTree other) of_buffers fit = cc
    by_method (OwnNever i) of_buffers fit = cc
    by_method (OwnAtMostOnce i) of_buffers fit = cc
    by_method (OwnOnce i) of_buffers fit = cc

second_below : (size : ℕ) (args : Args) → are_args size (OfBuffers AppendFrom) args ≡ true
    → args.b < size
second_below size args fit = with_more _ fit
  where
    with_more : (padded : Bool) → (padded && (nat_lt args.a size && nat_lt args.b size)) ≡ true
        → args.b < size
    with_more padded e =
        below_of args.b size (second_true (nat_lt args.a size) (nat_lt args.b size)
        (second_true padded (nat_lt args.a size && nat_lt args.b size) e))

pub procedure_sound : (h : Header) (variant : Variant) (method : Method) (args : Args)
    → h.subject ≡ Buffers → subject_of method ≡ Buffers → are_args h.size method args ≡ true
    → are_small args ≡ true
    → IsSound h (just_called method) (procedure_of h variant method args)
procedure_sound h variant method args is of_buffers fit small =
    by_method method of_buffers fit (first_below h.size method args of_buffers fit)
  where
    by_method : (method : Method) → subject_of method ≡ Buffers → are_args h.size method args ≡ true
        → args.a < h.size
        → IsSound h (just_called method) (procedure_of h variant method args)
    by_method (OfBuffers Append) of_buffers fit low = sound_append h args.a args.b is low
        (small_b args small)
    by_method (OfBuffers AppendFrom) of_buffers fit low =
        sound_append_from h variant args.a args.b is low (second_below h.size args fit)
    by_method (OfBuffers Cut) of_buffers fit low = sound_cut h args.a args.b is low
        (small_b args small)
    by_method (OfBuffers Length) of_buffers fit low = sound_length_of h args.a is low
    by_method (OfBuffers Read) of_buffers fit low = sound_read h args.a is low
    by_method (OfMultiset other) of_buffers fit low = cc
    by_method (OfCache other) of_buffers fit low = cc
    by_method (OfTree other) of_buffers fit low = cc
    by_method (OwnNever i) of_buffers fit low = cc
    by_method (OwnAtMostOnce i) of_buffers fit low = cc
    by_method (OwnOnce i) of_buffers fit low = cc
