-- Proofs of laws that an impl in src/ names: no contract says what is defined here.
-- Each correct procedure of string buffers, played alone, does what the specification says.
pub mod Changes
pub mod Texts
pub mod Stores
pub mod Played
pub mod Done
use Rattle.std.proofs.Common.{◌≡◌, ℕ, ◌+◌, ◌<◌, ◌≤◌, min, max, Bool, true, false, not, List}
use Rattle.std.proofs.Common.{[], ◌∷◌, Some, refl, ap, ◌∙◌, sym, arith}
use Rattle.std.specs.Prelude.{◌&&◌, nat_lt, nat_le, slice_index}
use Rattle.vyrd_base.specs.declared.header.Header.{Header}
use Rattle.vyrd_base.specs.declared.subject.Subject.TheVariants.{Buffers}
use Rattle.vyrd_base.specs.declared.subject.Method.{Method}
use Rattle.vyrd_base.specs.declared.subject.Method.TheVariants.{Multiset as OfMultiset}
use Rattle.vyrd_base.specs.declared.subject.Method.TheVariants.{Cache as OfCache, Tree as OfTree}
use Rattle.vyrd_base.specs.declared.subject.Method.TheVariants.{Buffers as OfBuffers}
use Rattle.vyrd_base.specs.declared.subject.Method.TheVariants.{OwnNever, OwnAtMostOnce, OwnOnce}
use Rattle.vyrd_base.specs.declared.multiset.MultisetMethod.TheVariants.{Insert as MsInsert}
use Rattle.vyrd_base.specs.declared.multiset.MultisetMethod.TheVariants.{InsertPair}
use Rattle.vyrd_base.specs.declared.multiset.MultisetMethod.TheVariants.{Delete as MsDelete}
use Rattle.vyrd_base.specs.declared.multiset.MultisetMethod.TheVariants.{Lookup as MsLookup}
use Rattle.vyrd_base.specs.declared.cache.CacheMethod.TheVariants.{Write, Flush, Evict}
use Rattle.vyrd_base.specs.declared.cache.CacheMethod.TheVariants.{Read as CaRead}
use Rattle.vyrd_base.specs.declared.tree.TreeMethod.TheVariants.{Insert as TrInsert}
use Rattle.vyrd_base.specs.declared.tree.TreeMethod.TheVariants.{Delete as TrDelete}
use Rattle.vyrd_base.specs.declared.tree.TreeMethod.TheVariants.{Lookup as TrLookup}
use Rattle.vyrd_base.specs.declared.buffers.BuffersMethod.TheVariants.{Append, AppendFrom}
use Rattle.vyrd_base.specs.declared.buffers.BuffersMethod.TheVariants.{Cut as BuCut, Length}
use Rattle.vyrd_base.specs.declared.buffers.BuffersMethod.TheVariants.{Read as BuRead}
use Rattle.vyrd_base.specs.declared.subject.Args.{Args}
use Rattle.vyrd_base.specs.Subjects.{subject_of, arity_of, are_padded, are_ranged, are_args}
use Rattle.vyrd_base.specs.Amounts.{Amounts, amount_of, with_amount}
use Rattle.vyrd_base.specs.Buffers.{text_of, text_length, has_room, joined, cut_to, is_buffer}
use Rattle.vyrd_base.proofs.TestLaws.{first_true, second_true, below_of, is_below, at_most_of}
use Rattle.vyrd_base.proofs.TestLaws.{above_of}
use Rattle.vyrd_base.proofs.TextLaws.{text_same, characters_same}
use Rattle.vyrd_memory.specs.declared.act.Act.TheVariants.{Load}
use Rattle.vyrd_memory.specs.declared.op.Op.{Op}
use Rattle.vyrd_memory.specs.declared.op.Variant.TheVariants.{Correct}
use Rattle.vyrd_memory.specs.Arguments.{are_small}
use Rattle.vyrd_memory.specs.Scripts.{step, returns}
use Rattle.vyrd_memory.specs.Alone.{Memory, with_cell, alone, MeetsSpecification, IsRightAlone}
use Rattle.vyrd_memory.proofs.Memories.{Represents, represents, other_cell}
use Rattle.vyrd_memory.proofs.AloneLaws.{given_back, met}
use Rattle.vyrd_buffers.specs.Cells.{count_cell, character_cell, lock_of, unlock}
use Rattle.vyrd_buffers.specs.Procedures.{commit_count, append_at, append, load_from, unlock_both}
use Rattle.vyrd_buffers.specs.Procedures.{append_held, append_all, append_from}
use Rattle.vyrd_buffers.specs.Procedures.{cut_at, cut, length_of, read_from, read, procedure_of}
use Rattle.vyrd_buffers.specs.Contents.{buffer_of, shown}
use Rattle.vyrd_buffers.specs.Laws.Alone.Changes.{sound_at, shown_at, Leaves, same_cells}
use Rattle.vyrd_buffers.specs.Laws.Alone.Changes.{count_at_most}
use Rattle.vyrd_buffers.specs.Laws.Alone.Texts.{characters_in, character_in, count_is, length_shown}
use Rattle.vyrd_buffers.specs.Laws.Alone.Texts.{room_for, room_for_one}
use Rattle.vyrd_buffers.specs.Laws.Alone.Texts.{one_text, Cut, cut_sound, cut_shown, uncut_shown}
use Rattle.vyrd_buffers.specs.Laws.Alone.Stores.{SameWords, held, lock_changed, both_held}
use Rattle.vyrd_buffers.specs.Laws.Alone.Stores.{both_held-other, both_held-words}
use Rattle.vyrd_buffers.specs.Laws.Alone.Stores.{both_given, both_given-words, both_given-back}
use Rattle.vyrd_buffers.specs.Laws.Alone.Stores.{loaded, loaded-length, loaded-at}
use Rattle.vyrd_buffers.specs.Laws.Alone.Stores.{with_appended, with_appended-other}
use Rattle.vyrd_buffers.specs.Laws.Alone.Stores.{with_count-other, with_count-is}
use Rattle.vyrd_buffers.specs.Laws.Alone.Played.{run_lock_both, run_unlock_both, run_load}
use Rattle.vyrd_buffers.specs.Laws.Alone.Played.{run_store, run_read, run_look}
use Rattle.vyrd_buffers.specs.Laws.Alone.Done.{full_allowed, room_allowed, free_lock, held_sound}
use Rattle.vyrd_buffers.specs.Laws.Alone.Done.{held_shown, unlocked, changed, appended, Appends}
use Rattle.vyrd_buffers.specs.Laws.Alone.Done.{Cuts, answer_alone}

-- an append of one character
pub append_alone : (h : Header) (op : Op) (c b x : ℕ) (memory : Memory) (state : Amounts)
    → h.subject ≡ Buffers → Represents h memory state → b < h.size → x < 255
    → Appends op state b (x + 1)
    → MeetsSpecification h op (append h b x) c memory state
append_alone h op c b x memory state is s low small says = by_count (nat_le 7 count) refl
  where
    count : ℕ
    count = memory (count_cell b)

    free : memory (lock_of h b) ≡ 0
    free = free_lock h memory state b is s low

    now : Memory
    now = held c (lock_of h b) memory

    run : alone c (append h b x) memory ≡ alone c (append_at h b x count) now
    run = run_look h c b memory (append_at h b x) low free

    room : has_room (amount_of state b) (x + 1) ≡ not (nat_le 7 count)
    room =
        ap (λ text. has_room text (x + 1)) (shown_at h memory state b is s low)
        ∙ room_for_one (buffer_of memory b) x (sound_at h memory state b is s low) small

    after : Memory
    after = with_appended (x ∷ []) b count 1 now

    leaves : count < 7 → Leaves memory (with_cell after (lock_of h b) 0) b
    leaves fewer cell apart = given_back memory after (lock_of h b) cell free (λ off.
        with_appended-other (x ∷ []) b count 1 now cell refl (omega (arith, fewer)) apart
        ∙ other_cell memory (lock_of h b) (c + 1) cell off)

    by_count : (full : Bool) → nat_le 7 count ≡ full
        → MeetsSpecification h op (append h b x) c memory state
    by_count true full =
        let rest : alone c (append_at h b x count) now
        ≡ Some (record { reply = 0; memory = with_cell now (lock_of h b) 0 }) =
        rw full in
        met h op (append h b x) c memory (with_cell now (lock_of h b) 0) state state 0 (run ∙ rest)
        (same_cells h memory (with_cell now (lock_of h b) 0) state b is s low
        (unlocked h c b memory free))
        (says 0 ∙ full_allowed state b (x + 1) (room ∙ ap not full))
    by_count false full =
        let fewer : count < 7 = above_of 7 count full in
        let rest : alone c (append_at h b x count) now
        ≡ Some (record { reply = 1; memory = with_cell after (lock_of h b) 0 }) =
        rw full in
        met h op (append h b x) c memory (with_cell after (lock_of h b) 0) state
        (with_amount state b (joined (amount_of state b) (x + 1))) 1 (run ∙ rest)
        (appended h memory now (with_cell after (lock_of h b) 0) state b count 1 (x + 1) (x ∷ []) is
        s low (lock_changed h b (c + 1) memory)
        (lock_changed h b (c + 1) memory (count_cell b) (omega arith)) refl (omega (arith, fewer))
        (is_below x 255 small) (one_text x) (leaves fewer) (lock_changed h b 0 after))
        (says 1 ∙ room_allowed state b (x + 1) (room ∙ ap not full))

-- an append of the text of a buffer, which may be the same one
pub append_from_alone : (h : Header) (op : Op) (c b s : ℕ) (memory : Memory) (state : Amounts)
    → h.subject ≡ Buffers → Represents h memory state → b < h.size → s < h.size
    → Appends op state b (amount_of state s)
    → MeetsSpecification h op (append_from h Correct b s) c memory state
append_from_alone h op c b s memory state is st low low_s says =
    by_room (nat_le (count + more) 7) refl
  where
    first : ℕ
    first = min b s

    second : ℕ
    second = max b s

    count : ℕ
    count = memory (count_cell b)

    more : ℕ
    more = memory (count_cell s)

    free : memory (lock_of h first) ≡ 0
    free = free_lock h memory state first is st (omega (arith, low, low_s))

    free_other : memory (lock_of h second) ≡ 0
    free_other = free_lock h memory state second is st (omega (arith, low, low_s))

    sound : is_buffer (buffer_of memory b) ≡ true
    sound = sound_at h memory state b is st low

    sound_s : is_buffer (buffer_of memory s) ≡ true
    sound_s = sound_at h memory state s is st low_s

    now : Memory
    now = both_held h c first second memory

    words : SameWords h.size memory now
    words = both_held-words h c first second memory

    run : alone c (append_from h Correct b s) memory
        ≡ alone c (append_all h first second b s count more) now
    run = run_lock_both h c first second memory
        (step (Load (count_cell b)) (λ n. step (Load (count_cell s))
        (λ m. append_all h first second b s (min n 7) (min m 7)))) free free_other
        ∙ ap (λ n. alone c (append_all h first second b s n (min (now (count_cell s)) 7)) now)
        (ap (λ n. min n 7) (words (count_cell b) (omega (arith, low)))
        ∙ count_is (buffer_of memory b) sound)
        ∙ ap (λ m. alone c (append_all h first second b s count m) now)
        (ap (λ m. min m 7) (words (count_cell s) (omega (arith, low_s)))
        ∙ count_is (buffer_of memory s) sound_s)

    room : has_room (amount_of state b) (amount_of state s) ≡ nat_le (count + more) 7
    room =
        ap (λ text. has_room text (amount_of state s)) (shown_at h memory state b is st low)
        ∙ ap (has_room (shown (buffer_of memory b))) (shown_at h memory state s is st low_s)
        ∙ room_for (buffer_of memory b) (buffer_of memory s) sound sound_s

    characters : List ℕ
    characters = loaded now s more 0

    each : (i : ℕ) → i < more → slice_index characters i ≡ memory (character_cell s i)
    each i under =
        let most = count_at_most (buffer_of memory s) sound_s in
        let e : 0 + i ≡ i = omega arith in
        loaded-at now s more 0 i under ∙ ap (λ n. now (character_cell s n)) e
        ∙ words (character_cell s i) (omega (arith, low_s, under, most))

    after : Memory
    after = with_appended characters b count more now

    leaves : count + more ≤ 7 → Leaves memory (both_given h first second after) b
    leaves few cell apart =
        both_given-back h first second memory after cell free free_other (λ off other.
        with_appended-other characters b count more now cell (loaded-length now s more 0) few apart
        ∙ both_held-other h c first second memory cell off other)

    by_room : (fits : Bool) → nat_le (count + more) 7 ≡ fits
        → MeetsSpecification h op (append_from h Correct b s) c memory state
    by_room false fits =
        let given : Memory = both_given h first second now in
        let rest : alone c (append_all h first second b s count more) now
        ≡ alone c (unlock_both h first second (returns 0)) now =
        rw fits in
        met h op (append_from h Correct b s) c memory given state state 0
        (run ∙ rest ∙ run_unlock_both h c first second now (returns 0))
        (same_cells h memory given state b is st low (λ cell. both_given-back h first second memory
        now cell free free_other
        (λ off other. both_held-other h c first second memory cell off other)))
        (says 0 ∙ full_allowed state b (amount_of state s) (room ∙ fits))
    by_room true fits =
        let few : count + more ≤ 7 = at_most_of (count + more) 7 fits in
        let rest : alone c (append_all h first second b s count more) now
        ≡ alone c (load_from more s 0 [] (append_held h first second b count more)) now = rw fits in
        met h op (append_from h Correct b s) c memory (both_given h first second after) state
        (with_amount state b (joined (amount_of state b) (amount_of state s))) 1
        (run ∙ rest ∙ run_load c now more s 0 [] (append_held h first second b count more)
        ∙ run_store c characters b count now
        (commit_count b (count + more) (unlock_both h first second (returns 1)))
        ∙ run_unlock_both h c first second after (returns 1))
        (appended h memory now (both_given h first second after) state b count more
        (amount_of state s) characters is st low words (words (count_cell b) (omega (arith, low)))
        (loaded-length now s more 0) few
        (characters_same (slice_index characters) (buffer_of memory s).character more each
        ∙ characters_in (buffer_of memory s) sound_s)
        (text_same (slice_index characters) (buffer_of memory s).character more each
        ∙ sym (shown_at h memory state s is st low_s)) (leaves few)
        (both_given-words h first second after))
        (says 1 ∙ room_allowed state b (amount_of state s) (room ∙ fits))

-- a cut
pub cut_alone : (h : Header) (op : Op) (c b n : ℕ) (memory : Memory) (state : Amounts)
    → h.subject ≡ Buffers → Represents h memory state → b < h.size → Cuts op state b n
    → MeetsSpecification h op (cut h b n) c memory state
cut_alone h op c b n memory state is s low says = by_count (nat_le count n) refl
  where
    count : ℕ
    count = memory (count_cell b)

    free : memory (lock_of h b) ≡ 0
    free = free_lock h memory state b is s low

    now : Memory
    now = held c (lock_of h b) memory

    words : SameWords h.size memory now
    words = lock_changed h b (c + 1) memory

    sound : is_buffer (buffer_of now b) ≡ true
    sound = held_sound h memory now state b is s low words

    shows : shown (buffer_of now b) ≡ amount_of state b
    shows = held_shown h memory now state b is s low words

    same_count : now (count_cell b) ≡ count
    same_count = words (count_cell b) (omega arith)

    run : alone c (cut h b n) memory ≡ alone c (cut_at h b n count) now
    run = run_look h c b memory (cut_at h b n) low free

    after : Memory
    after = with_cell now (count_cell b) n

    by_count : (few : Bool) → nat_le count n ≡ few
        → MeetsSpecification h op (cut h b n) c memory state
    by_count true few =
        let most : count ≤ n = at_most_of count n few in
        let new : Memory = with_cell now (lock_of h b) 0 in
        let rest : alone c (cut_at h b n count) now
        ≡ Some (record { reply = 1; memory = with_cell now (lock_of h b) 0 }) =
        rw few in
        met h op (cut h b n) c memory new state (with_amount state b (cut_to n (amount_of state b)))
        1 (run ∙ rest)
        (changed h memory now new state b (cut_to n (amount_of state b)) is s low
        (λ cell apart. unlocked h c b memory free cell) (lock_changed h b 0 now) sound
        (sym (uncut_shown (buffer_of now b) n sound (omega (arith, same_count, most)))
        ∙ ap (cut_to n) shows)) says
    by_count false few =
        let fewer : n < count = above_of count n few in
        let new : Memory = with_cell after (lock_of h b) 0 in
        let done : Cut (buffer_of now b) (buffer_of after b) n = with_count-is b n now in
        let rest : alone c (cut_at h b n count) now
        ≡ Some (record { reply = 1; memory = with_cell after (lock_of h b) 0 }) =
        rw few in
        met h op (cut h b n) c memory new state (with_amount state b (cut_to n (amount_of state b)))
        1 (run ∙ rest)
        (changed h memory after new state b (cut_to n (amount_of state b)) is s low
        (λ cell apart. given_back memory after (lock_of h b) cell free (λ off.
        with_count-other b n now cell apart ∙ other_cell memory (lock_of h b) (c + 1) cell off))
        (lock_changed h b 0 after)
        (cut_sound (buffer_of now b) (buffer_of after b) n done sound
        (omega (arith, same_count, fewer)))
        (cut_shown (buffer_of now b) (buffer_of after b) n done sound
        (omega (arith, same_count, fewer))
        ∙ ap (cut_to n) shows)) says

-- a length
length_alone : (h : Header) (args : Args) (c : ℕ) (memory : Memory) (state : Amounts)
    → h.subject ≡ Buffers → Represents h memory state → args.a < h.size
    → MeetsSpecification h (record { method = OfBuffers Length; args = args }) (length_of h args.a)
    c memory
    state
length_alone h args c memory state is s low =
    answer_alone h (record { method = OfBuffers Length; args = args }) (length_of h args.a) c args.a
    (min (memory (count_cell args.a)) 7) memory state is s low refl
    (run_look h c args.a memory (λ count. unlock h args.a (returns (min count 7))) low
    (free_lock h memory state args.a is s low))
    (count_is (buffer_of memory args.a) sound ∙ sym (length_shown (buffer_of memory args.a) sound)
    ∙ ap text_length (sym (shown_at h memory state args.a is s low)))
  where
    sound : is_buffer (buffer_of memory args.a) ≡ true
    sound = sound_at h memory state args.a is s low

-- a read
read_alone : (h : Header) (args : Args) (c : ℕ) (memory : Memory) (state : Amounts)
    → h.subject ≡ Buffers → Represents h memory state → args.a < h.size
    → MeetsSpecification h (record { method = OfBuffers BuRead; args = args })
    (read h args.a) c memory state
read_alone h args c memory state is s low =
    answer_alone h (record { method = OfBuffers BuRead; args = args }) (read h args.a) c args.a
    (text_of (buffer_of now args.a).character (0 + memory (count_cell args.a))) memory state is s
    low refl
    (run_look h c args.a memory (λ count. read_from h (min count 7) args.a 0 0) low
    (free_lock h memory state args.a is s low)
    ∙ ap (λ n. alone c (read_from h n args.a 0 0) now)
    (count_is (buffer_of memory args.a) (sound_at h memory state args.a is s low))
    ∙ run_read h c now (memory (count_cell args.a)) args.a 0
    (λ j under. character_in (buffer_of now args.a) sound j (omega (arith, under, same_count))))
    (ap (text_of (buffer_of now args.a).character) whole
    ∙ held_shown h memory now state args.a is s low words)
  where
    now : Memory
    now = held c (lock_of h args.a) memory

    words : SameWords h.size memory now
    words = lock_changed h args.a (c + 1) memory

    sound : is_buffer (buffer_of now args.a) ≡ true
    sound = held_sound h memory now state args.a is s low words

    same_count : now (count_cell args.a) ≡ memory (count_cell args.a)
    same_count = words (count_cell args.a) (omega arith)

    whole : 0 + memory (count_cell args.a) ≡ now (count_cell args.a)
    whole = omega (arith, same_count)

-- what the arguments of a call are
ranged : (size : ℕ) (method : Method) (args : Args) → are_args size method args ≡ true
    → are_ranged size method args ≡ true
ranged size method args fit = second_true (are_padded (arity_of method) args) _ fit

first_below : (size : ℕ) (args : Args) (other : Bool) → (nat_lt args.a size && other) ≡ true
    → args.a < size
first_below size args other fit = below_of args.a size (first_true (nat_lt args.a size) other fit)

second_below : (size limit : ℕ) (args : Args) → (nat_lt args.a size && nat_lt args.b limit) ≡ true
    → args.b < limit
second_below size limit args fit =
    below_of args.b limit (second_true (nat_lt args.a size) (nat_lt args.b limit) fit)

by_method_right : (h : Header) (method : Method) (args : Args) → h.subject ≡ Buffers
    → subject_of method ≡ Buffers → are_ranged h.size method args ≡ true
    → (c : ℕ) (memory : Memory) (state : Amounts) → Represents h memory state
    → MeetsSpecification h (record { method = method; args = args })
    (procedure_of h Correct method args) c memory state
by_method_right h (OfBuffers Append) args is of fit c memory state s =
    append_alone h (record { method = OfBuffers Append; args = args }) c args.a args.b memory state
    is s
    (first_below h.size args (nat_lt args.b 255) fit)
    (second_below h.size 255 args fit) (λ reply. refl)
by_method_right h (OfBuffers AppendFrom) args is of fit c memory state s =
    append_from_alone h (record { method = OfBuffers AppendFrom; args = args }) c args.a args.b
    memory state
    is s
    (first_below h.size args (nat_lt args.b h.size) fit) (second_below h.size h.size args fit)
    (λ reply. refl)
by_method_right h (OfBuffers BuCut) args is of fit c memory state s =
    cut_alone h (record { method = OfBuffers BuCut; args = args }) c args.a args.b memory state is s
    (below_of args.a h.size fit) refl
by_method_right h (OfBuffers Length) args is of fit c memory state s =
    length_alone h args c memory state is s (below_of args.a h.size fit)
by_method_right h (OfBuffers BuRead) args is of fit c memory state s =
    read_alone h args c memory state is s (below_of args.a h.size fit)
by_method_right h (OfMultiset MsInsert) args is of fit c memory state s = absurd (cc)
by_method_right h (OfMultiset InsertPair) args is of fit c memory state s = absurd (cc)
by_method_right h (OfMultiset MsDelete) args is of fit c memory state s = absurd (cc)
by_method_right h (OfMultiset MsLookup) args is of fit c memory state s = absurd (cc)
by_method_right h (OfCache Write) args is of fit c memory state s = absurd (cc)
by_method_right h (OfCache Flush) args is of fit c memory state s = absurd (cc)
by_method_right h (OfCache Evict) args is of fit c memory state s = absurd (cc)
by_method_right h (OfCache CaRead) args is of fit c memory state s = absurd (cc)
by_method_right h (OfTree TrInsert) args is of fit c memory state s = absurd (cc)
by_method_right h (OfTree TrDelete) args is of fit c memory state s = absurd (cc)
by_method_right h (OfTree TrLookup) args is of fit c memory state s = absurd (cc)
by_method_right h (OwnNever i) args is of fit c memory state s = cc
by_method_right h (OwnAtMostOnce i) args is of fit c memory state s = cc
by_method_right h (OwnOnce i) args is of fit c memory state s = cc

pub procedure_right_alone : (h : Header) (method : Method) (args : Args) → h.subject ≡ Buffers
    → subject_of method ≡ Buffers → are_args h.size method args ≡ true → are_small args ≡ true
    → IsRightAlone h (record { method = method; args = args }) (procedure_of h Correct method args)
procedure_right_alone h method args is of fit small = λ c memory state e.
    by_method_right h method args is of (ranged h.size method args fit) c memory state
    (represents h memory state e)
