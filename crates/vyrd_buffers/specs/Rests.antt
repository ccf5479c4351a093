-- What is left of a procedure at each place: a part of the procedure, with what follows.
pub mod Loaded
use Rattle.std.specs.Prelude.{ℕ, ◌+◌, ◌-◌, min, max, drop}
use Rattle.vyrd_base.specs.declared.header.Header.{Header}
use Rattle.vyrd_base.specs.declared.log.Kind.TheVariants.{Commit as LoneCommit, BlockOpen}
use Rattle.vyrd_base.specs.declared.log.Kind.TheVariants.{BlockCommit}
use Rattle.vyrd_memory.specs.declared.act.Act.TheVariants.{Load, Store, Mark}
use Rattle.vyrd_memory.specs.declared.op.Variant.{Variant}
use Rattle.vyrd_memory.specs.declared.op.Variant.TheVariants.{Correct, Broken}
use Rattle.vyrd_memory.specs.Scripts.{Script, stop, step, perform, returns}
use Rattle.vyrd_buffers.specs.declared.text.Text.{Text}
use Rattle.vyrd_buffers.specs.declared.place.Place.{Place}
use Rattle.vyrd_buffers.specs.declared.place.Place.TheVariants.{Look, Append, Change, Read, Count}
use Rattle.vyrd_buffers.specs.declared.place.Place.TheVariants.{Join, Commit, Unlock, Return, Over}
use Rattle.vyrd_buffers.specs.declared.place.Purpose.{Purpose}
use Rattle.vyrd_buffers.specs.declared.place.Purpose.TheVariants as purpose
use Rattle.vyrd_buffers.specs.declared.place.Looking.{Looking}
use Rattle.vyrd_buffers.specs.declared.place.Looking.TheVariants as looking
use Rattle.vyrd_buffers.specs.declared.place.Appending.{Appending}
use Rattle.vyrd_buffers.specs.declared.place.Appending.TheVariants as appending
use Rattle.vyrd_buffers.specs.declared.place.Changing.{Changing}
use Rattle.vyrd_buffers.specs.declared.place.Changing.TheVariants as changing
use Rattle.vyrd_buffers.specs.declared.place.Counting.{Counting}
use Rattle.vyrd_buffers.specs.declared.place.Counting.TheVariants as counting
use Rattle.vyrd_buffers.specs.declared.place.Joining.{Joining}
use Rattle.vyrd_buffers.specs.declared.place.Joining.TheVariants as joining
use Rattle.vyrd_buffers.specs.declared.task.Task.{Task}
use Rattle.vyrd_buffers.specs.declared.progress.BufferProgress.{BufferProgress}
use Rattle.vyrd_buffers.specs.Cells.{count_cell, character_cell, lock, unlock, lock_other}
use Rattle.vyrd_buffers.specs.Procedures.{commit_count, append_at, load_from, store_from}
use Rattle.vyrd_buffers.specs.Procedures.{unlock_both}
use Rattle.vyrd_buffers.specs.Procedures.{append_held, append_all, cut_at, read_from}
use Rattle.vyrd_buffers.specs.Rests.Loaded.{held_of}

-- what is done with the count of the one buffer of an operation
abbrev pub counted_for : Header → Task → Purpose → ℕ → Script
counted_for h task purpose.Append count = append_at h task.b task.x count
counted_for h task purpose.Cut count = cut_at h task.b task.x count
counted_for h task purpose.Length count = unlock h task.b (returns (min count 7))
counted_for h task purpose.Read count = read_from h (min count 7) task.b 0 0

-- what is left of looking at the count of a buffer
abbrev pub looking_rest : Header → ℕ → (ℕ → Script) → Looking → Script
looking_rest h b counted looking.Lock = lock h b (step (Load (count_cell b)) counted)
looking_rest h b counted looking.Load = step (Load (count_cell b)) counted

-- what is left of appending a character to this many
abbrev pub appending_rest : Header → Task → ℕ → Appending → Script
appending_rest h task count appending.Open =
    perform (Mark BlockOpen)
    (perform (Store (character_cell task.b count) task.x)
    (commit_count task.b (count + 1) (unlock h task.b (returns 1))))
appending_rest h task count appending.Store =
    perform (Store (character_cell task.b count) task.x)
    (commit_count task.b (count + 1) (unlock h task.b (returns 1)))

-- what is left of giving a buffer its count
abbrev pub changing_rest : Header → ℕ → ℕ → Changing → Script
changing_rest h b count changing.Open =
    perform (Mark BlockOpen) (commit_count b count (unlock h b (returns 1)))
changing_rest h b count changing.Store = commit_count b count (unlock h b (returns 1))
changing_rest h b count changing.Close = perform (Mark BlockCommit) (unlock h b (returns 1))

-- what is left of reading a buffer
abbrev pub reading_rest : Header → ℕ → Text → Script
reading_rest h b text = read_from h (text.of - text.read) b text.read text.number

-- Of the two buffers of an operation the one that is locked first, and the one that is locked
-- second, if it is another. In the broken variant one lock is held while the characters are loaded
-- and stored.
abbrev pub first_in : Variant → ℕ → ℕ → ℕ
first_in Correct b s = min b s
first_in Broken b s = b

abbrev pub second_in : Variant → ℕ → ℕ → ℕ
second_in Correct b s = max b s
second_in Broken b s = b

abbrev pub first_of : Task → ℕ
first_of task = first_in task.variant task.b task.x

abbrev pub second_of : Task → ℕ
second_of task = second_in task.variant task.b task.x

-- what is done with the counts of both buffers
abbrev pub joined_with : Header → Task → ℕ → ℕ → Script
joined_with h task count more =
    append_all h (first_of task) (second_of task) task.b task.x (min count 7) (min more 7)

-- what is left of looking at the counts of both buffers
abbrev pub counting_rest : Header → Task → Counting → Script
counting_rest h task counting.LockFirst =
    lock h (first_of task) (lock_other h (first_of task) (second_of task) (step (Load
    (count_cell task.b)) (λ count. step (Load (count_cell task.x)) (joined_with h task count))))
counting_rest h task counting.LockOther = lock h (second_of task)
    (step (Load (count_cell task.b))
    (λ count. step (Load (count_cell task.x)) (joined_with h task count)))
counting_rest h task counting.LoadCount = step (Load (count_cell task.b))
    (λ count. step (Load (count_cell task.x)) (joined_with h task count))
counting_rest h task (counting.LoadMore count) =
    step (Load (count_cell task.x)) (joined_with h task count)
counting_rest h task counting.LockMore =
    lock h task.x (step (Load (count_cell task.x)) (λ more. unlock h task.x
    (lock h task.b (step (Load (count_cell task.b)) (λ count. joined_with h task count more)))))
counting_rest h task counting.LoadMoreAlone =
    step (Load (count_cell task.x)) (λ more. unlock h task.x
    (lock h task.b (step (Load (count_cell task.b)) (λ count. joined_with h task count more))))
counting_rest h task (counting.UnlockMore more) = unlock h task.x
    (lock h task.b (step (Load (count_cell task.b)) (λ count. joined_with h task count more)))
counting_rest h task (counting.LockCount more) =
    lock h task.b (step (Load (count_cell task.b)) (λ count. joined_with h task count more))
counting_rest h task (counting.LoadCountAlone more) =
    step (Load (count_cell task.b)) (λ count. joined_with h task count more)

-- what is left of appending the characters of the other buffer
abbrev pub joining_rest : Header → Task → Joining → Script
joining_rest h task (joining.Load count held) =
    load_from (held.of - held.loaded) task.x held.loaded (held_of held)
    (append_held h (first_of task) (second_of task) task.b count held.of)
joining_rest h task (joining.Store count held stored) =
    store_from (drop stored (held_of held)) task.b (count + stored)
    (commit_count task.b (count + held.of)
    (unlock_both h (first_of task) (second_of task) (returns 1)))
joining_rest h task joining.Close =
    perform (Mark BlockCommit) (unlock_both h (first_of task) (second_of task) (returns 1))
joining_rest h task joining.Refuse =
    perform (Mark LoneCommit) (unlock_both h (first_of task) (second_of task) (returns 0))
joining_rest h task (joining.UnlockOther reply) =
    unlock h (second_of task) (unlock h (first_of task) (returns reply))
joining_rest h task (joining.Unlock reply) = unlock h (first_of task) (returns reply)

-- what is left at a place
abbrev pub rest_at : Header → Task → Place → Script
rest_at h task (Look purpose place) = looking_rest h task.b (counted_for h task purpose) place
rest_at h task (Append count place) = appending_rest h task count place
rest_at h task (Change count place) = changing_rest h task.b count place
rest_at h task (Read text) = reading_rest h task.b text
rest_at h task (Count place) = counting_rest h task place
rest_at h task (Join place) = joining_rest h task place
rest_at h task (Commit reply) = perform (Mark LoneCommit) (unlock h task.b (returns reply))
rest_at h task (Unlock reply) = unlock h task.b (returns reply)
rest_at h task (Return reply) = returns reply
rest_at h task Over = stop

-- what is left of an operation
abbrev pub rest_of : Header → BufferProgress → Script
rest_of h progress = rest_at h progress.task progress.place
