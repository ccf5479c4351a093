-- The procedures of string buffers, from after the mark of the call to the mark of the return.
use Rattle.std.specs.Prelude.{ℕ, zero, suc, ◌+◌, ◌*◌, ◌^◌, ◌%◌, nat_le, min, max, List, [], ◌∷◌}
use Rattle.std.specs.Prelude.{◌++◌, if◌then◌else◌}
use Rattle.vyrd_base.specs.declared.header.Header.{Header}
use Rattle.vyrd_base.specs.declared.log.Kind.TheVariants.{Commit, BlockOpen, BlockCommit}
use Rattle.vyrd_base.specs.declared.subject.Method.{Method}
use Rattle.vyrd_base.specs.declared.subject.Method.TheVariants.{Buffers as OfBuffers}
use Rattle.vyrd_base.specs.declared.buffers.BuffersMethod.TheVariants.{Append, AppendFrom, Cut}
use Rattle.vyrd_base.specs.declared.buffers.BuffersMethod.TheVariants.{Length, Read}
use Rattle.vyrd_base.specs.declared.subject.Args.{Args}
use Rattle.vyrd_memory.specs.declared.act.Act.TheVariants.{Load, Store, Mark}
use Rattle.vyrd_memory.specs.declared.op.Op.{Op}
use Rattle.vyrd_memory.specs.declared.op.Variant.{Variant}
use Rattle.vyrd_memory.specs.declared.op.Variant.TheVariants.{Correct, Broken}
use Rattle.vyrd_memory.specs.Scripts.{Script, stop, step, perform, returns}
use Rattle.vyrd_buffers.specs.Cells.{count_cell, character_cell, lock, unlock, lock_other}
use Rattle.vyrd_buffers.specs.Cells.{unlock_other}

-- in a block that commits and is already open give the buffer its count, and go on
abbrev pub commit_count : ℕ → ℕ → Script → Script
commit_count b count later = perform (Store (count_cell b) count) (perform (Mark BlockCommit) later)

-- append the character x to buffer b, once its count is loaded
abbrev pub append_at : Header → ℕ → ℕ → ℕ → Script
append_at h b x count = if nat_le 7 count
    then perform (Mark Commit) (unlock h b (returns 0))
    else perform (Mark BlockOpen) (perform (Store (character_cell b count) x)
    (commit_count b (count + 1) (unlock h b (returns 1))))

-- append x to b
abbrev pub append : Header → ℕ → ℕ → Script
append h b x = lock h b (step (Load (count_cell b)) (append_at h b x))

-- load that many characters of a buffer that are left, from character i on, and go on with them and
-- those that are held
abbrev pub load_from : ℕ → ℕ → ℕ → List ℕ → (List ℕ → Script) → Script
load_from zero s i held loaded = loaded held
load_from (suc left) s i held loaded =
    step (Load (character_cell s i))
    (λ character. load_from left s (i + 1) (held ++ character ∷ []) loaded)

-- store these as the characters of a buffer, from character i on, and go on
abbrev pub store_from : List ℕ → ℕ → ℕ → Script → Script
store_from [] b i later = later
store_from (character ∷ characters) b i later =
    perform (Store (character_cell b i) character) (store_from characters b (i + 1) later)

-- unlock both buffers in the reverse order
abbrev pub unlock_both : Header → ℕ → ℕ → Script → Script
unlock_both h first second later = unlock_other h first second (unlock h first later)

-- with these two locked, append the characters that were loaded to buffer b, whose count is this
abbrev pub append_held : Header → ℕ → ℕ → ℕ → ℕ → ℕ → List ℕ → Script
append_held h first second b count more held = perform (Mark BlockOpen)
    (store_from held b count
    (commit_count b (count + more) (unlock_both h first second (returns 1))))

-- with these two locked, append the first characters of s to b, if b has room for them
abbrev pub append_all : Header → ℕ → ℕ → ℕ → ℕ → ℕ → ℕ → Script
append_all h first second b s count more = if nat_le (count + more) 7
    then load_from more s 0 [] (append_held h first second b count more)
    else perform (Mark Commit) (unlock_both h first second (returns 0))

-- Append the characters of s to b. The lower of the two buffers is locked first. The mistake: the
-- buffer s is locked only while its count is loaded, and its characters are loaded with b locked
-- alone.
abbrev pub append_from : Header → Variant → ℕ → ℕ → Script
append_from h Correct b s = lock h (min b s) (lock_other h (min b s) (max b s)
    (step (Load (count_cell b)) (λ count. step (Load (count_cell s)) (λ more.
    append_all h (min b s) (max b s) b s (min count 7) (min more 7)))))
append_from h Broken b s = lock h s (step (Load (count_cell s)) (λ more. unlock h s
    (lock h b (step (Load (count_cell b)) (λ count.
    append_all h b b b s (min count 7) (min more 7))))))

-- keep the first n characters of buffer b, once its count is loaded
abbrev pub cut_at : Header → ℕ → ℕ → ℕ → Script
cut_at h b n count = if nat_le count n
    then perform (Mark Commit) (unlock h b (returns 1))
    else perform (Mark BlockOpen) (commit_count b n (unlock h b (returns 1)))

-- cut b to n
abbrev pub cut : Header → ℕ → ℕ → Script
cut h b n = lock h b (step (Load (count_cell b)) (cut_at h b n))

-- the length of b
abbrev pub length_of : Header → ℕ → Script
length_of h b = lock h b (step (Load (count_cell b)) (λ count. unlock h b (returns (min count 7))))

-- load that many characters of buffer b that are left, from character i on, and return the text
-- that they make after this one
abbrev pub read_from : Header → ℕ → ℕ → ℕ → ℕ → Script
read_from h zero b i text = unlock h b (returns text)
read_from h (suc left) b i text = step (Load (character_cell b i)) (λ character.
    read_from h left b (i + 1) (text + (character % 255 + 1) * 256 ^ i))

-- read b
abbrev pub read : Header → ℕ → Script
read h b = lock h b (step (Load (count_cell b)) (λ count. read_from h (min count 7) b 0 0))

-- the procedure of a method's call with these arguments; that of another subject's method is empty
abbrev pub procedure_of : Header → Variant → Method → Args → Script
procedure_of h variant (OfBuffers Append) args = append h args.a args.b
procedure_of h variant (OfBuffers AppendFrom) args = append_from h variant args.a args.b
procedure_of h variant (OfBuffers Cut) args = cut h args.a args.b
procedure_of h variant (OfBuffers Length) args = length_of h args.a
procedure_of h variant (OfBuffers Read) args = read h args.a
procedure_of h variant _ args = stop

-- the procedure of an operation
abbrev pub buffers_procedure : Header → Variant → Op → Script
buffers_procedure h variant op = procedure_of h variant op.method op.args
