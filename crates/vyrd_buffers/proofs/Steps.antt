-- What a step needs: what holds at a place, cells that are below 2^32, and what is left after a
-- character.
use Rattle.std.proofs.Common.{◌≡◌, ℕ, suc, ◌+◌, ◌-◌, ◌*◌, ◌%◌, ◌^◌, ◌<◌, ◌≤◌, true, List, [], ◌∷◌}
use Rattle.std.proofs.Common.{◌++◌, subst, arith}
use Rattle.std.specs.Prelude.{◌&&◌, nat_lt, nat_le, drop}
use Rattle.std.proofs.Math.Logic.{∥∥₁_elim}
use Rattle.std.proofs.Math.Bool.{Bool-set}
use Rattle.std.proofs.Math.Nat.{pow-le-pow_right, mul-le-mul}
use Rattle.vyrd_base.specs.declared.header.Header.{Header}
use Rattle.vyrd_base.specs.declared.subject.Subject.TheVariants.{Buffers}
use Rattle.vyrd_base.specs.Layout.{plain_words_of, lock_words_of}
use Rattle.vyrd_base.proofs.HeaderLaws.{most_size}
use Rattle.vyrd_base.proofs.TestLaws.{first_true, second_true, is_below, below_of}
use Rattle.vyrd_memory.specs.declared.act.Act.{Act}
use Rattle.vyrd_memory.specs.declared.act.Act.TheVariants.{Load, Store, Take, Give}
use Rattle.vyrd_memory.specs.Scripts.{Script, step, next_act, after_answer}
use Rattle.vyrd_memory.specs.Soundness.{Situation, IsSound, IsSoundSomewhere, may_act}
use Rattle.vyrd_buffers.specs.declared.held.Held.{Held}
use Rattle.vyrd_buffers.specs.declared.text.Text.{Text}
use Rattle.vyrd_buffers.specs.declared.place.Place.{Place}
use Rattle.vyrd_buffers.specs.declared.place.Joining.TheVariants as joining
use Rattle.vyrd_buffers.specs.declared.task.Task.{Task}
use Rattle.vyrd_buffers.specs.Cells.{count_cell, character_cell, lock_of}
use Rattle.vyrd_buffers.specs.Rests.Loaded.{held_of}
use Rattle.vyrd_buffers.specs.Rests.{reading_rest, joining_rest, rest_at}

-- what is sound at a place is sound at the same place
pub sound_at : (h : Header) (task : Task) (p q : Place) → p ≡ q
    → IsSoundSomewhere h (rest_at h task p) → IsSoundSomewhere h (rest_at h task q)
sound_at h task p q e sound = subst (λ place. IsSoundSomewhere h (rest_at h task place)) e sound

-- the cell of an act, which has to be there
abbrev pub cell_in : Act → ℕ
cell_in (Load cell) = cell
cell_in (Store cell value) = cell
cell_in (Take lock) = lock
cell_in (Give lock) = lock
cell_in _ = 0

-- the cell of a sound act is below 2^32
plain_low : (h : Header) (cell : ℕ) → h.subject ≡ Buffers
    → nat_lt cell (plain_words_of h.subject h.size) ≡ true → nat_lt cell (2 ^ 32) ≡ true
plain_low h cell is plain = grind (arith, plain, below_of, is_below, most_size)

lock_low : (h : Header) (lock : ℕ) → h.subject ≡ Buffers
    → (nat_le (plain_words_of h.subject h.size) lock
    && nat_lt lock (plain_words_of h.subject h.size + lock_words_of h.subject h.size)) ≡ true
    → nat_lt lock (2 ^ 32) ≡ true
lock_low h lock is within = grind (arith, within, second_true, below_of, is_below, most_size)

cell_there : (h : Header) (s : Situation) (act : Act) → h.subject ≡ Buffers → may_act h s act ≡ true
    → nat_lt (cell_in act) (2 ^ 32) ≡ true
cell_there h s act is may = grind (arith, plain_low, first_true, lock_low)

next_there : (h : Header) (script : Script) → h.subject ≡ Buffers → (s : Situation)
    × IsSound h s script
    → nat_lt (cell_in (next_act script)) (2 ^ 32) ≡ true
next_there h script is sound = search (step, cell_there, arith)

pub next_low : (h : Header) (script : Script) (act : Act) → h.subject ≡ Buffers
    → IsSoundSomewhere h script → next_act script ≡ act
    → cell_in act < 2 ^ 32
next_low h script act is sound next =
    below_of _ _ (rw (← next) (∥∥₁_elim sound (Bool-set _ _) (next_there h _ is)))

-- one character fewer is left
one_fewer : (of done : ℕ) → done < of → of - done ≡ suc (of - (done + 1))
one_fewer of done some = omega arith

-- what comes next while characters are left to be loaded
pub next_read : (h : Header) (b : ℕ) (text : Text) → text.read < text.of
    → next_act (reading_rest h b text) ≡ Load (character_cell b text.read)
next_read h b text some = cc (one_fewer text.of text.read some)

pub next_load : (h : Header) (task : Task) (count : ℕ) (held : Held) → held.loaded < held.of
    → next_act (joining_rest h task (joining.Load count held))
    ≡ Load (character_cell task.x held.loaded)
next_load h task count held some = cc (one_fewer held.of held.loaded some)

-- and when none is left
pub next_after_read : (h : Header) (b : ℕ) (text : Text) → text.read ≡ text.of
    → next_act (reading_rest h b text) ≡ Give (lock_of h b)
next_after_read h b text all = grind arith

-- what comes next of storing characters
pub next_store : (h : Header) (task : Task) (count : ℕ) (held : Held) (stored character : ℕ)
    (left : List ℕ)
    → drop stored (held_of held) ≡ character ∷ left
    → next_act (joining_rest h task (joining.Store count held stored))
    ≡ Store (character_cell task.b (count + stored)) character
next_store h task count held stored character left e = grind (arith, count, held, left)

pub next_count : (h : Header) (task : Task) (count : ℕ) (held : Held) (stored : ℕ)
    → drop stored (held_of held) ≡ []
    → next_act (joining_rest h task (joining.Store count held stored)) ≡ Store (count_cell task.b)
    (count + held.of)
next_count h task count held stored e = grind (arith, count, held)

-- what is left after one more character was read
pub read_next : (h : Header) (b : ℕ) (text next : Text) (character : ℕ) → text.read < text.of
    → next.number ≡ text.number + (character % 255 + 1) * 256 ^ text.read → next.read ≡ text.read
    + 1 → next.of ≡ text.of
    → reading_rest h b next ≡ after_answer (reading_rest h b text) character
read_next h b text next character some number read of = cc (one_fewer text.of text.read some)

-- what is left after one more character was loaded
pub load_next : (h : Header) (task : Task) (count : ℕ) (held next : Held) (character : ℕ)
    → held.loaded < held.of
    → held_of next ≡ held_of held ++ character ∷ [] → next.loaded ≡ held.loaded + 1
    → next.of ≡ held.of
    → joining_rest h task (joining.Load count next)
    ≡ after_answer (joining_rest h task (joining.Load count held)) character
load_next h task count held next character some holds loaded of = search (one_fewer, arith)

-- powers of 256 that are below 2^64
pub low_power : (read of : ℕ) → read < of → of ≤ 7 → 256 ^ read ≤ 256 ^ 6
low_power read of some few =
    let low : read ≤ 6 = omega (arith, some, few) in
    pow-le-pow_right (omega arith) low

pub digit_fits : (digit power : ℕ) → digit ≤ 255 → power ≤ 256 ^ 6 → digit * power ≤ 255 * 256 ^ 6
digit_fits digit power few low = mul-le-mul few low
