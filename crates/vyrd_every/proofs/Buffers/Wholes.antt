-- Each procedure of the correct string buffers does right: all of it happens under the locks of its
-- buffers.
use Rattle.vyrd_every.proofs.Prelude
use Prelude.{◌≡◌, ℕ, ◌+◌, ◌*◌, ◌%◌, ◌<◌, ◌≤◌, Bool, true, false, cond, not, min, max, List, [], ◌∷◌}
use Prelude.{Some, refl, ap, ◌∙◌, sym, arith, nat_le, slice_index, Header, Buffers, Method}
use Prelude.{OwnNever, OwnAtMostOnce, OwnOnce, AppendFrom, Args, Commit, BlockOpen, Called}
use Prelude.{subject_of, Amounts, amount_of, with_amount, first_true, second_true, below_of}
use Prelude.{at_most_of, above_of, is_below, text_same, Load, Mark, Op, Correct, is_callable}
use Prelude.{callable_method, Memory, Represents, Script, step, perform, returns, just_called}
use Prelude.{load_from, store_from, unlock_both, read_from, buffers_procedure, buffer_of, sound_at}
use Prelude.{shown_at, Locals, DoesRight, IsRight, buffers, at, answer_right}
use Rattle.vyrd_base.specs.declared.subject.Method.TheVariants.{Multiset as OfMultiset}
use Rattle.vyrd_base.specs.declared.subject.Method.TheVariants.{Cache as OfCache, Tree as OfTree}
use Rattle.vyrd_base.specs.declared.subject.Method.TheVariants.{Buffers as OfBuffers}
use Rattle.vyrd_base.specs.declared.buffers.BuffersMethod.TheVariants.{Append, Cut, Length, Read}
use Rattle.vyrd_base.specs.Subjects.{are_ranged, are_args}
use Rattle.vyrd_base.specs.Buffers.{text_of, has_room, joined, cut_to, are_characters, is_buffer}
use Rattle.vyrd_base.proofs.TextLaws.{characters_same}
use Rattle.vyrd_memory.specs.Laws.Player.{callable_args}
use Rattle.vyrd_buffers.specs.Cells.{count_cell, character_cell, lock_of, unlock}
use Rattle.vyrd_buffers.specs.Procedures.{append_at, append, append_held, append_all, append_from}
use Rattle.vyrd_buffers.specs.Procedures.{commit_count, cut_at, cut, length_of, read, procedure_of}
use Rattle.vyrd_buffers.specs.Laws.Alone.Changes.{count_at_most}
use Rattle.vyrd_buffers.specs.Laws.Alone.Texts.{characters_in, character_in, one_text}
use Rattle.vyrd_buffers.specs.Laws.Alone.Stores.{loaded, loaded-length, loaded-at}
use Rattle.vyrd_buffers.specs.Laws.Alone.Done.{full_allowed, room_allowed}
use Rattle.vyrd_every.proofs.Buffers.Texts.{IsHeld, Stays, stays_same, stays_more, stays_count}
use Rattle.vyrd_every.proofs.Buffers.Texts.{stays_character, after_block, appended_represents}
use Rattle.vyrd_every.proofs.Buffers.Texts.{cut_represents, uncut_represents, length_at}
use Rattle.vyrd_every.proofs.Buffers.Texts.{room_for_one_at, room_at}
use Rattle.vyrd_every.proofs.Buffers.Parts.{word_right, load_from_right, read_from_right, Finishes}
use Rattle.vyrd_every.proofs.Buffers.Parts.{LeadsTo, only_commit_right, block_right, unlock_right}
use Rattle.vyrd_every.proofs.Buffers.Parts.{lock_right, lock_both_right}

-- an append of one character
append_right : (h : Header) (k : Locals) (before : Memory) (args : Args) → h.subject ≡ Buffers
    → args.a < h.size → args.b < 255 → ((i : ℕ) → k.owned i ≡ false)
    → k.called ≡ Some (record { method = OfBuffers Append; args = args })
    → DoesRight (buffers h) (at [] false false (record { method = OfBuffers Append; args = args }))
    k before (append h args.a args.b)
append_right h k before args is low small none called_is =
    lock_right h called k before args.a
    (step (Load (count_cell args.a)) (append_at h args.a args.b)) low
    (λ m0 held.
    word_right h locks called k m0 args.a (count_cell args.a) (append_at h args.a args.b) held
    (omega arith) (omega arith)
    (λ now stays. by_count now held (nat_le 7 (now (8 * args.a))) refl))
  where
    called : Called
    called = record { method = OfBuffers Append; args = args }

    locks : List ℕ
    locks = lock_of h args.a ∷ []

    ends : ℕ → Script
    ends reply = unlock h args.a (returns reply)

    by_count : (now : Memory) → IsHeld h locks args.a → (full : Bool) → nat_le 7 (now (8 * args.a))
        ≡ full
        → DoesRight (buffers h) (at locks false false called) k now (cond full
        (perform (Mark Commit) (ends 0))
        (perform (Mark BlockOpen)
        (store_from (args.b ∷ []) args.a (now (8 * args.a))
        (commit_count args.a (now (8 * args.a) + 1) (ends 1)))))
    by_count now held true e =
        only_commit_right h locks called k now 0 (ends 0) none called_is
        (unlock_right h called args.a 0 refl)
        (λ state s. (
          state,
          full_allowed state args.a (args.b + 1)
              (room_for_one_at h now state args.a args.b is s low small ∙ ap not e),
          s,
        ))
    by_count now held false e =
        let few = above_of 7 (now (8 * args.a)) e in
        block_right h locks called k now (args.b ∷ []) args.a (now (8 * args.a))
        (now (8 * args.a) + 1) 1 (ends 1) held (omega (arith, few)) called_is
        (unlock_right h called args.a 1 refl)
        (λ then_ stays state s.
        let same = stays_count h locks now then_ args.a stays held in (
          with_amount state args.a (joined (amount_of state args.a) (args.b + 1)),
          room_allowed state args.a (args.b + 1)
              (cc (room_for_one_at h then_ state args.a args.b is s low small)),
          appended_represents h then_ state args.a (now (8 * args.a)) 1 (args.b + 1)
              (args.b ∷ []) is s low same refl (omega (arith, few))
              (is_below args.b 255 small) (one_text args.b),
        ))

-- the locks of two buffers, of which the lower one was taken first
both_held : (h : Header) (locks : List ℕ) (a b : ℕ) → IsHeld h locks (min a b)
    → IsHeld h locks (max a b) → IsHeld h locks a × IsHeld h locks b
both_held h locks a b lower higher = grind (arith, lower, at_most_of, above_of)

-- a count that is at most 7 is the lesser of it and 7
lesser : (n m : ℕ) → m ≡ n → m ≤ 7 → m ≡ min n 7
lesser n m e few = omega (arith, e, few)

-- the count of a buffer whose lock is held, where the memory represents a state
count_now : (h : Header) (locks : List ℕ) (before now : Memory) (state : Amounts) (b : ℕ)
    → h.subject ≡ Buffers → Stays h locks before now → IsHeld h locks b
    → Represents h now state → now (8 * b) ≡ min (before (8 * b)) 7
count_now h locks before now state b is stays held s =
    lesser (before (8 * b)) (now (8 * b)) (stays_count h locks before now b stays held)
    (count_at_most (buffer_of now b) (sound_at h now state b is s held.low))

-- an append of another buffer's characters, with the locks of both
append_all_right : (h : Header) (locks : List ℕ) (k : Locals) (now : Memory) (args : Args)
    (first second : ℕ) → h.subject ≡ Buffers
    → IsHeld h locks args.a → IsHeld h locks args.b → ((i : ℕ) → k.owned i ≡ false) → k.called
    ≡ Some (record { method = OfBuffers AppendFrom; args = args })
    → ((reply : ℕ) → Finishes h locks (record { method = OfBuffers AppendFrom; args = args }) reply
    (unlock_both h first second (returns reply)))
    → DoesRight (buffers h)
    (at locks false false (record { method = OfBuffers AppendFrom; args = args })) k now
    (append_all h first second args.a args.b (min (now (8 * args.a)) 7) (min (now (8 * args.b)) 7))
append_all_right h locks k now args first second is held_a held_b none called_is finishes = by_room
    (nat_le (count + more) 7) refl
  where
    called : Called
    called = record { method = OfBuffers AppendFrom; args = args }

    count : ℕ
    count = min (now (8 * args.a)) 7

    more : ℕ
    more = min (now (8 * args.b)) 7

    few : more ≤ 7
    few = omega arith

    room_is : (then_ : Memory) (state : Amounts) → Stays h locks now then_
        → Represents h then_ state
        → has_room (amount_of state args.a) (amount_of state args.b) ≡ nat_le (count + more) 7
    room_is then_ state stays s = search (room_at, count_now, stays, count, arith)

    -- the characters that were loaded are still there
    loaded_is : (last then_ : Memory) → Stays h locks last then_ → (j : ℕ) → j < more
        → slice_index (loaded last args.b more 0) j ≡ then_ (8 * args.b + (1 + j))
    loaded_is last then_ stays j low = search (loaded-at, more, stays_character, stays, few, arith)

    leads : (last then_ : Memory) → Stays h locks now last → Stays h locks last then_
        → nat_le (count + more) 7 ≡ true
        → LeadsTo h called 1 then_
        (after_block (loaded last args.b more 0) args.a count (count + more) then_)
    leads last then_ before stays e state s =
        let all : Stays h locks now then_ = stays_more h locks now last then_ before stays in
        let sound : is_buffer (buffer_of then_ args.b) ≡ true = sound_at h then_ state args.b is s
        held_b.low in
        let more_is : then_ (8 * args.b) ≡ more = count_now h locks now then_ state args.b is all
        held_b s in (
          with_amount state args.a (joined (amount_of state args.a) (amount_of state args.b)),
          room_allowed state args.a (amount_of state args.b) (room_is then_ state all s ∙ e),
          appended_represents h then_ state args.a count more (amount_of state args.b)
              (loaded last args.b more 0) is s held_a.low
              (count_now h locks now then_ state args.a is all held_a s)
              (loaded-length last args.b more 0) (at_most_of (count + more) 7 e)
              (characters_same (slice_index (loaded last args.b more 0))
              (buffer_of then_ args.b).character more (loaded_is last then_ stays)
              ∙ ap (are_characters (buffer_of then_ args.b).character) (sym more_is)
              ∙ characters_in (buffer_of then_ args.b) sound)
              (text_same (slice_index (loaded last args.b more 0))
              (buffer_of then_ args.b).character more (loaded_is last then_ stays)
              ∙ ap (text_of (buffer_of then_ args.b).character) (sym more_is)
              ∙ sym (shown_at h then_ state args.b is s held_b.low)),
        )

    by_room : (room : Bool) → nat_le (count + more) 7 ≡ room
        → DoesRight (buffers h) (at locks false false called) k now (cond room
        (load_from more args.b 0 [] (append_held h first second args.a count more))
        (perform (Mark Commit) (unlock_both h first second (returns 0))))
    by_room true e =
        let most = at_most_of (count + more) 7 e in
        load_from_right h locks called k now args.b more 0 []
        (append_held h first second args.a count more) held_b (omega (arith, few))
        (λ last before.
        block_right h locks called k last (loaded last args.b more 0) args.a count (count + more) 1
        (unlock_both h first second (returns 1)) held_a
        (omega (arith, loaded-length last args.b more 0, most)) called_is (finishes 1)
        (λ then_ stays. leads last then_ before stays e))
    by_room false e =
        only_commit_right h locks called k now 0 (unlock_both h first second (returns 0)) none
        called_is (finishes 0)
        (λ state s. (
          state,
          full_allowed state args.a (amount_of state args.b)
              (room_is now state (stays_same h locks now) s ∙ e),
          s,
        ))

append_from_right : (h : Header) (k : Locals) (before : Memory) (args : Args) → h.subject ≡ Buffers
    → args.a < h.size → args.b < h.size
    → ((i : ℕ) → k.owned i ≡ false) → k.called
    ≡ Some (record { method = OfBuffers AppendFrom; args = args })
    → DoesRight (buffers h)
    (at [] false false (record { method = OfBuffers AppendFrom; args = args })) k before
    (append_from h Correct args.a args.b)
append_from_right h k before args is low_a low_b none called_is = lock_both_right h called k _ _ _ _
    (omega arith) (omega (arith, low_a, low_b)) refl (λ locks m0 lower higher finishes.
    let both = both_held h locks args.a args.b lower higher in
    word_right h _ called k _ args.a _ (λ count. step (Load (count_cell args.b)) (rest count))
    both.0 (omega arith) (omega arith)
    (λ m1 stays_a. word_right h _ called k _ args.b (count_cell args.b) (rest (m1 (8 * args.a)))
    both.1 (omega arith) (omega arith)
    (λ now stays_b. rw (← stays_count h locks m1 now args.a stays_b both.0)
    (append_all_right h locks k now args first second is both.0 both.1 none called_is finishes))))
  where
    called : Called
    called = record { method = OfBuffers AppendFrom; args = args }

    first : ℕ
    first = min args.a args.b

    second : ℕ
    second = max args.a args.b

    rest : ℕ → ℕ → Script
    rest count more = append_all h first second args.a args.b (min count 7) (min more 7)

-- a cut
cut_right : (h : Header) (k : Locals) (before : Memory) (args : Args) → h.subject ≡ Buffers
    → args.a < h.size → ((i : ℕ) → k.owned i ≡ false)
    → k.called ≡ Some (record { method = OfBuffers Cut; args = args })
    → DoesRight (buffers h) (at [] false false (record { method = OfBuffers Cut; args = args })) k
    before (cut h args.a args.b)
cut_right h k before args is low none called_is =
    lock_right h called k before args.a (step (Load (count_cell args.a)) (cut_at h args.a args.b))
    low
    (λ m0 held.
    word_right h locks called k m0 args.a (count_cell args.a) (cut_at h args.a args.b) held
    (omega arith) (omega arith)
    (λ now stays. by_count now held (nat_le (now (8 * args.a)) args.b) refl))
  where
    called : Called
    called = record { method = OfBuffers Cut; args = args }

    locks : List ℕ
    locks = lock_of h args.a ∷ []

    ends : Script
    ends = unlock h args.a (returns 1)

    by_count : (now : Memory) → IsHeld h locks args.a → (short : Bool)
        → nat_le (now (8 * args.a)) args.b ≡ short
        → DoesRight (buffers h) (at locks false false called) k now (cond short
        (perform (Mark Commit) ends)
        (perform (Mark BlockOpen) (store_from [] args.a 0 (commit_count args.a args.b ends))))
    by_count now held true e =
        only_commit_right h locks called k now 1 ends none called_is
        (unlock_right h called args.a 1 refl)
        (λ state s. (
          with_amount state args.a (cut_to args.b (amount_of state args.a)),
          refl,
          uncut_represents h now state args.a args.b is s low
              (at_most_of (now (8 * args.a)) args.b e),
        ))
    by_count now held false e =
        block_right h locks called k now [] args.a 0 args.b 1 ends held (omega arith) called_is
        (unlock_right h called args.a 1 refl)
        (λ then_ stays state s.
        let same = stays_count h locks now then_ args.a stays held in
        let less = above_of (now (8 * args.a)) args.b e in (
          with_amount state args.a (cut_to args.b (amount_of state args.a)),
          refl,
          cut_represents h then_ state args.a args.b is s low (omega (arith, same, less)),
        ))

-- a length, and a read, have their answers when they give the lock back
length_right : (h : Header) (k : Locals) (before : Memory) (args : Args) → h.subject ≡ Buffers
    → args.a < h.size → ((i : ℕ) → k.owned i ≡ false)
    → k.called ≡ Some (record { method = OfBuffers Length; args = args })
    → DoesRight (buffers h) (at [] false false (record { method = OfBuffers Length; args = args }))
    k before (length_of h args.a)
length_right h k before args is low none called_is = lock_right h called k _ _ _ low
    (λ m0 held. word_right h _ called k _ args.a _
    (λ count. unlock h args.a (returns (min count 7))) held (omega arith) (omega arith)
    (λ now stays. answer_right _ k _ _ called (min (now (8 * args.a)) 7) none called_is
    (λ state s. length_at h now state args.a is s low
    ∙ count_now h (lock_of h args.a ∷ []) now now state args.a is
    (stays_same h (lock_of h args.a ∷ []) now) held s)))
  where
    called : Called
    called = record { method = OfBuffers Length; args = args }

read_right : (h : Header) (k : Locals) (before : Memory) (args : Args) → h.subject ≡ Buffers
    → args.a < h.size → ((i : ℕ) → k.owned i ≡ false)
    → k.called ≡ Some (record { method = OfBuffers Read; args = args })
    → DoesRight (buffers h) (at [] false false (record { method = OfBuffers Read; args = args })) k
    before (read h args.a)
read_right h k before args is low none called_is =
    lock_right h called k before args.a
    (step (Load (count_cell args.a)) (λ count. read_from h (min count 7) args.a 0 0)) low
    (λ m0 held.
    word_right h locks called k m0 args.a (count_cell args.a)
    (λ count. read_from h (min count 7) args.a 0 0) held (omega arith) (omega arith)
    (λ now stays.
    read_from_right h locks called k now args.a (min (now (8 * args.a)) 7) 0
    (min (now (8 * args.a)) 7) 0 held (omega arith) (omega arith) refl
    (λ last then_.
    answer_right (buffers h) k last (lock_of h args.a) called
    (text_of (λ j. last (character_cell args.a j) % 255) (min (now (8 * args.a)) 7)) none called_is
    (λ state s. answer now last held then_ state s))))
  where
    called : Called
    called = record { method = OfBuffers Read; args = args }

    locks : List ℕ
    locks = lock_of h args.a ∷ []

    within : (x : ℕ) → x < 255 → x ≡ x % 255
    within x small = omega (arith, small)

    answer : (now last : Memory) → IsHeld h locks args.a → Stays h locks now last
        → (state : Amounts) → Represents h last state
        → amount_of state args.a ≡ text_of (λ j. last (character_cell args.a j) % 255)
        (min (now (8 * args.a)) 7)
    answer now last held stays state s =
        shown_at h last state args.a is s low
        ∙ text_same (buffer_of last args.a).character (λ j. last (character_cell args.a j) % 255)
        (last (8 * args.a))
        (λ j below. within (last (character_cell args.a j))
        (character_in (buffer_of last args.a) (sound_at h last state args.a is s low) j below))
        ∙ ap (text_of (λ j. last (character_cell args.a j) % 255))
        (count_now h locks now last state args.a is stays held s)

-- the procedure of each operation
procedure_right : (h : Header) (k : Locals) (before : Memory) (method : Method) (args : Args)
    → h.subject ≡ Buffers → subject_of method ≡ Buffers
    → are_args h.size method args ≡ true → ((i : ℕ) → k.owned i ≡ false)
    → k.called ≡ Some (record { method = method; args = args })
    → DoesRight (buffers h) (just_called method) k before (procedure_of h Correct method args)
procedure_right h k before method args is of fit none called_is = by_method method of
    (ranged method fit) called_is
  where
    ranged : (method : Method) → are_args h.size method args ≡ true → are_ranged h.size method args
        ≡ true
    ranged method fit = search (second_true, arith)

    by_method : (method : Method) → subject_of method ≡ Buffers → are_ranged h.size method args
        ≡ true → k.called ≡ Some (record { method = method; args = args })
        → DoesRight (buffers h) (just_called method) k before (procedure_of h Correct method args)
    by_method (OfBuffers Append) of fit called_is =
        search (append_right, below_of, first_true, second_true, arith)
    by_method (OfBuffers AppendFrom) of fit called_is =
        search (append_from_right, below_of, first_true, second_true, arith)
    by_method (OfBuffers Cut) of fit called_is = search (cut_right, below_of, called_is, arith)
    by_method (OfBuffers Length) of fit called_is = search (length_right, below_of, arith)
    by_method (OfBuffers Read) of fit called_is = search (read_right, below_of, called_is, arith)
    by_method (OfMultiset other) of fit called_is = cc
    by_method (OfCache other) of fit called_is = cc
    by_method (OfTree other) of fit called_is = cc
    by_method (OwnNever i) of fit called_is = cc
    by_method (OwnAtMostOnce i) of fit called_is = cc
    by_method (OwnOnce i) of fit called_is = cc

-- so each operation that may be called does right
pub buffers_right : (h : Header) (op : Op) → h.subject ≡ Buffers → is_callable h op ≡ true
    → IsRight (buffers h) (buffers_procedure h Correct) op
buffers_right h op is callable = search (procedure_right, callable_method, callable_args, arith)
