-- Proofs of laws that an impl in src/ names: no contract says what is defined here.
-- What an operation has done when it is over, and what the specification says of that.
use Rattle.std.proofs.Common.{◌≡◌, ℕ, ◌+◌, ◌*◌, ◌<◌, ◌≤◌, true, false, cond, not, List, length}
use Rattle.std.proofs.Common.{Some, None, ap, ◌∙◌, sym, subst, arith}
use Rattle.std.specs.Prelude.{◌==◌, slice_index}
use Rattle.std.specs.Bool.{then_some}
use Rattle.vyrd_base.specs.declared.header.Header.{Header}
use Rattle.vyrd_base.specs.declared.subject.Subject.TheVariants.{Buffers}
use Rattle.vyrd_base.specs.Subjects.{is_observer}
use Rattle.vyrd_base.specs.Layout.{plain_words, lock_words, plain_words_of, lock_words_of}
use Rattle.vyrd_base.specs.Amounts.{Amounts, amount_of, with_amount}
use Rattle.vyrd_base.specs.Buffers.{text_of, has_room, joined, cut_to, are_characters, is_buffer}
use Rattle.vyrd_base.specs.Buffers.{after_append}
use Rattle.vyrd_base.specs.Specification.{answer_in}
use Rattle.vyrd_base.proofs.TestLaws.{same_number}
use Rattle.vyrd_memory.specs.declared.op.Op.{Op}
use Rattle.vyrd_memory.specs.Scripts.{Script}
use Rattle.vyrd_memory.specs.Alone.{Memory, with_cell, alone, state_after, MeetsSpecification}
use Rattle.vyrd_memory.proofs.Memories.{Represents, other_cell}
use Rattle.vyrd_memory.proofs.AloneLaws.{given_back, met}
use Rattle.vyrd_buffers.specs.Cells.{count_cell, lock_of}
use Rattle.vyrd_buffers.specs.Contents.{buffer_of, shown}
use Rattle.vyrd_buffers.specs.Laws.Alone.Changes.{Alike, sound_alike, shown_alike, sound_at}
use Rattle.vyrd_buffers.specs.Laws.Alone.Changes.{shown_at, Leaves, changed_buffer, same_cells}
use Rattle.vyrd_buffers.specs.Laws.Alone.Texts.{Appended}
use Rattle.vyrd_buffers.specs.Laws.Alone.Texts.{appended_sound, appended_shown}
use Rattle.vyrd_buffers.specs.Laws.Alone.Stores.{SameWords, same_buffer, held}
use Rattle.vyrd_buffers.specs.Laws.Alone.Stores.{with_appended, with_appended-is}

-- what the specification allows: an append to a full buffer, one to a buffer with room, and an
-- answer
pub full_allowed : (state : Amounts) (b more : ℕ) → has_room (amount_of state b) more ≡ false
    → after_append 0 state b more ≡ Some state
full_allowed state b more full = ap (λ room. then_some (not room) state) full

pub room_allowed : (state : Amounts) (b more : ℕ) → has_room (amount_of state b) more ≡ true
    → after_append 1 state b more ≡ Some (with_amount state b (joined (amount_of state b) more))
room_allowed state b more room =
    ap (λ r. then_some r (with_amount state b (joined (amount_of state b) more))) room

answer_allowed : (op : Op) (reply : ℕ) (state : Amounts) → reply ≡ answer_in state op.method op.args
    → state_after true op reply state ≡ Some state
answer_allowed op reply state is =
    ap (λ n. cond (n == answer_in state op.method op.args) (Some state) None) is
    ∙ ap (λ same. cond same (Some state) None) (same_number (answer_in state op.method op.args))

-- a lock is free at the beginning
pub free_lock : (h : Header) (memory : Memory) (state : Amounts) (b : ℕ) → h.subject ≡ Buffers
    → Represents h memory state → b < h.size
    → memory (lock_of h b) ≡ 0
free_lock h memory state b is s low =
    let plain : plain_words h ≡ 8 * h.size = ap (λ t. plain_words_of t h.size) is in
    let locks : lock_words h ≡ h.size = ap (λ t. lock_words_of t h.size) is in
    s.free (lock_of h b) (omega arith) (omega arith)

-- with locks held each buffer is sound, and shows its amount
pub held_sound : (h : Header) (memory now : Memory) (state : Amounts) (b : ℕ) → h.subject ≡ Buffers
    → Represents h memory state → b < h.size → SameWords h.size memory now
    → is_buffer (buffer_of now b) ≡ true
held_sound h memory now state b is s low words =
    sound_alike (buffer_of now b) (buffer_of memory b) (same_buffer h.size memory now b words low)
    ∙ sound_at h memory state b is s low

pub held_shown : (h : Header) (memory now : Memory) (state : Amounts) (b : ℕ) → h.subject ≡ Buffers
    → Represents h memory state → b < h.size → SameWords h.size memory now
    → shown (buffer_of now b) ≡ amount_of state b
held_shown h memory now state b is s low words =
    shown_alike (buffer_of now b) (buffer_of memory b) (same_buffer h.size memory now b words low)
    (sound_at h memory state b is s low)
    ∙ sym (shown_at h memory state b is s low)

-- The words of buffer b alone were stored into, after which the locks were given back: the memory
-- represents the state with the text that the buffer shows.
pub changed : (h : Header) (old after new : Memory) (state : Amounts) (b text : ℕ)
    → h.subject ≡ Buffers → Represents h old state → b < h.size → Leaves old new b
    → SameWords h.size after new → is_buffer (buffer_of after b) ≡ true
    → shown (buffer_of after b) ≡ text
    → Represents h new (with_amount state b text)
changed h old after new state b text is s low leaves words sound shows =
    let alike : Alike (buffer_of new b) (buffer_of after b) =
    same_buffer h.size after new b words low in
    subst (λ t. Represents h new (with_amount state b t))
    (shown_alike (buffer_of new b) (buffer_of after b) alike sound ∙ shows)
    (changed_buffer h old new state b is s low leaves
    (sound_alike (buffer_of new b) (buffer_of after b) alike ∙ sound))

-- a lock was taken and given back
pub unlocked : (h : Header) (c b : ℕ) (memory : Memory) → memory (lock_of h b) ≡ 0 → (cell : ℕ)
    → with_cell (held c (lock_of h b) memory) (lock_of h b) 0 cell ≡ memory cell
unlocked h c b memory free cell =
    given_back memory (held c (lock_of h b) memory) (lock_of h b) cell free
    (λ apart. other_cell memory (lock_of h b) (c + 1) cell apart)

-- These characters were appended to buffer b with locks held, which were given back: the memory
-- represents the state with the joined text.
pub appended : (h : Header) (old now new : Memory) (state : Amounts) (b count more text : ℕ)
    (characters : List ℕ)
    → h.subject ≡ Buffers → Represents h old state → b < h.size → SameWords h.size old now
    → now (count_cell b) ≡ count → length characters ≡ more → count + more ≤ 7
    → are_characters (slice_index characters) more ≡ true
    → text_of (slice_index characters) more ≡ text → Leaves old new b
    → SameWords h.size (with_appended characters b count more now) new
    → Represents h new (with_amount state b (joined (amount_of state b) text))
appended h old now new state b count more text characters is s low words e many few small shows
    leaves given =
    changed h old after new state b (joined (amount_of state b) text) is s low leaves given
    (appended_sound (buffer_of now b) (buffer_of after b) (slice_index characters) more done sound
    small (omega (arith, e, few)))
    (appended_shown (buffer_of now b) (buffer_of after b) (slice_index characters) more done sound
    ∙ ap (λ t. joined t (text_of (slice_index characters) more))
    (held_shown h old now state b is s low words)
    ∙ ap (joined (amount_of state b)) shows)
  where
    after : Memory
    after = with_appended characters b count more now

    done : Appended (buffer_of now b) (buffer_of (with_appended characters b count more now) b)
        (slice_index characters) more
    done = with_appended-is characters b count more now e many

    sound : is_buffer (buffer_of now b) ≡ true
    sound = held_sound h old now state b is s low words

-- the operation is an append of this text to buffer b
abbrev pub Appends : Op → Amounts → ℕ → ℕ → Type 0
Appends op state b more = (reply : ℕ)
    → state_after (is_observer op.method) op reply state ≡ after_append reply state b more

-- and it is a cut of b to n characters
abbrev pub Cuts : Op → Amounts → ℕ → ℕ → Type 0
Cuts op state b n = state_after (is_observer op.method) op 1 state
    ≡ Some (with_amount state b (cut_to n (amount_of state b)))

-- an observer, after which all is as it was
pub answer_alone : (h : Header) (op : Op) (script : Script) (c b reply : ℕ) (memory : Memory)
    (state : Amounts)
    → h.subject ≡ Buffers → Represents h memory state → b < h.size → is_observer op.method ≡ true
    → alone c script memory ≡ Some
    (record { reply = reply; memory = with_cell (held c (lock_of h b) memory) (lock_of h b) 0 })
    → reply ≡ answer_in state op.method op.args
    → MeetsSpecification h op script c memory state
answer_alone h op script c b reply memory state is s low looks run answer =
    met h op script c memory (with_cell (held c (lock_of h b) memory) (lock_of h b) 0) state state
    reply run
    (same_cells h memory (with_cell (held c (lock_of h b) memory) (lock_of h b) 0) state b is s low
    (unlocked h c b memory (free_lock h memory state b is s low)))
    (ap (λ observer. state_after observer op reply state) looks
    ∙ answer_allowed op reply state answer)
