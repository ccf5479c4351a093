-- Proofs of laws that an impl in src/ names: no contract says what is defined here.
-- Each procedure of string buffers comes to its return in time.
use Rattle.std.proofs.Common.{◌≡◌, ℕ, zero, suc, ◌+◌, ◌-◌, ◌*◌, ◌%◌, ◌^◌, ◌≤◌, min, max, List, []}
use Rattle.std.proofs.Common.{◌∷◌, ◌++◌, length, refl, sym, subst, arith}
use Rattle.std.specs.Prelude.{◌==◌, nat_le}
use Rattle.std.proofs.lemmas.List.{length_push}
use Rattle.vyrd_base.specs.declared.header.Header.{Header}
use Rattle.vyrd_base.specs.declared.subject.Subject.TheVariants.{Buffers}
use Rattle.vyrd_base.specs.declared.subject.Method.{Method}
use Rattle.vyrd_base.specs.declared.subject.Method.TheVariants.{Multiset as OfMultiset}
use Rattle.vyrd_base.specs.declared.subject.Method.TheVariants.{Cache as OfCache, Tree as OfTree}
use Rattle.vyrd_base.specs.declared.subject.Method.TheVariants.{Buffers as OfBuffers}
use Rattle.vyrd_base.specs.declared.subject.Method.TheVariants.{OwnNever, OwnAtMostOnce, OwnOnce}
use Rattle.vyrd_base.specs.declared.buffers.BuffersMethod.TheVariants.{Append, AppendFrom, Cut}
use Rattle.vyrd_base.specs.declared.buffers.BuffersMethod.TheVariants.{Length, Read}
use Rattle.vyrd_base.specs.declared.subject.Args.{Args}
use Rattle.vyrd_base.specs.declared.log.Kind.TheVariants.{Commit, BlockOpen, BlockCommit}
use Rattle.vyrd_base.specs.Subjects.{subject_of}
use Rattle.vyrd_memory.specs.declared.act.Act.TheVariants.{Load, Store, Take, Give, Mark}
use Rattle.vyrd_memory.specs.declared.op.Variant.{Variant}
use Rattle.vyrd_memory.specs.declared.op.Variant.TheVariants.{Correct, Broken}
use Rattle.vyrd_memory.specs.Scripts.{Script, step, perform, returns}
use Rattle.vyrd_memory.specs.Bounds.{bound_in, bound_of, EndsByReturn}
use Rattle.vyrd_memory.proofs.TimedActs.{in_more, loads_in, acts_in, either_in, returns_in}
use Rattle.vyrd_buffers.specs.Cells.{count_cell, character_cell, lock_of, lock, unlock, lock_other}
use Rattle.vyrd_buffers.specs.Procedures.{procedure_of, commit_count, append_at, append, load_from}
use Rattle.vyrd_buffers.specs.Procedures.{store_from}
use Rattle.vyrd_buffers.specs.Procedures.{unlock_both, append_held, append_all, append_from, cut_at}
use Rattle.vyrd_buffers.specs.Procedures.{cut, length_of}
use Rattle.vyrd_buffers.specs.Procedures.{read_from, read}

-- the buffer is unlocked, and the reply returned
ends_leave : (h : Header) (b reply : ℕ) → EndsByReturn 2 (unlock h b (returns reply))
ends_leave h b reply = acts_in 1 (Give (lock_of h b)) (returns reply) refl (returns_in reply)

-- nothing is changed
ends_commit : (h : Header) (b reply n : ℕ) → 3 ≤ n
    → EndsByReturn n (perform (Mark Commit) (unlock h b (returns reply)))
ends_commit h b reply n some =
    in_more 3 n (perform (Mark Commit) (unlock h b (returns reply))) some
    (acts_in 2 (Mark Commit) (unlock h b (returns reply)) refl (ends_leave h b reply))

-- the end of a block that gives a buffer its count
ends_commit_count : (n b count : ℕ) (later : Script) → EndsByReturn n later
    → EndsByReturn (n + 1 + 1) (commit_count b count later)
ends_commit_count n b count later ends =
    acts_in (n + 1) (Store (count_cell b) count) (perform (Mark BlockCommit) later) refl
    (acts_in n (Mark BlockCommit) later refl ends)

-- a look at the count of one buffer
ends_look : (n : ℕ) (h : Header) (b : ℕ) (rest : ℕ → Script)
    → ((count : ℕ) → EndsByReturn n (rest count))
    → EndsByReturn (n + 1 + 1) (lock h b (step (Load (count_cell b)) rest))
ends_look n h b rest ends =
    acts_in (n + 1) (Take (lock_of h b)) (step (Load (count_cell b)) rest) refl
    (loads_in n (count_cell b) rest ends)

ends_append_at : (h : Header) (b x count : ℕ) → EndsByReturn 6 (append_at h b x count)
ends_append_at h b x count =
    either_in 6 (nat_le 7 count) _ _ (ends_commit h b 0 6 (omega arith)) (acts_in 5 (Mark BlockOpen)
    (perform (Store (character_cell b count) x)
    (commit_count b (count + 1) (unlock h b (returns 1)))) refl
    (acts_in 4 (Store (character_cell b count) x)
    (commit_count b (count + 1) (unlock h b (returns 1))) refl
    (ends_commit_count 2 b (count + 1) (unlock h b (returns 1)) (ends_leave h b 1))))

ends_cut_at : (h : Header) (b n count : ℕ) → EndsByReturn 5 (cut_at h b n count)
ends_cut_at h b n count = either_in 5 (nat_le count n) _ _ (ends_commit h b 1 5 (omega arith))
    (acts_in 4 (Mark BlockOpen) (commit_count b n (unlock h b (returns 1))) refl
    (ends_commit_count 2 b n (unlock h b (returns 1)) (ends_leave h b 1)))

-- reading takes a load for each character
ends_read_from : (h : Header) (left b i text : ℕ)
    → EndsByReturn (2 + left) (read_from h left b i text)
ends_read_from h zero b i text = ends_leave h b text
ends_read_from h (suc left) b i text =
    in_more (2 + left + 1) (2 + suc left) (read_from h (suc left) b i text) (omega arith)
    (loads_in (2 + left) (character_cell b i)
    (λ character. read_from h left b (i + 1) (text + (character % 255 + 1) * 256 ^ i))
    (λ character. ends_read_from h left b (i + 1) (text + (character % 255 + 1) * 256 ^ i)))

-- loading takes an act for each character, and storing too
ends_load_from : (n left b i : ℕ) (held : List ℕ) (loaded : List ℕ → Script)
    → ((all : List ℕ) → length all ≡ length held + left → EndsByReturn n (loaded all))
    → EndsByReturn (n + left) (load_from left b i held loaded)
ends_load_from n zero b i held loaded ends =
    in_more n (n + 0) (loaded held) (omega arith) (ends held (omega arith))
ends_load_from n (suc left) b i held loaded ends =
    in_more (n + left + 1) (n + suc left) (load_from (suc left) b i held loaded) (omega arith)
    (loads_in (n + left) (character_cell b i)
    (λ character. load_from left b (i + 1) (held ++ character ∷ []) loaded)
    (λ character. ends_load_from n left b (i + 1) (held ++ character ∷ []) loaded
    (λ all long. ends all (omega (arith, long, length_push held character)))))

ends_store_from : (n : ℕ) (characters : List ℕ) (b i : ℕ) (later : Script) → EndsByReturn n later
    → EndsByReturn (n + length characters) (store_from characters b i later)
ends_store_from n [] b i later ends = in_more n (n + 0) later (omega arith) ends
ends_store_from n (character ∷ characters) b i later ends =
    in_more (n + length characters + 1) (n + length (character ∷ characters))
    (store_from (character ∷ characters) b i later) (omega arith)
    (acts_in (n + length characters) (Store (character_cell b i) character) (store_from characters b
    (i + 1) later) refl (ends_store_from n characters b (i + 1) later ends))

ends_unlock_both : (h : Header) (first second reply : ℕ)
    → EndsByReturn 3 (unlock_both h first second (returns reply))
ends_unlock_both h first second reply = either_in 3 (first == second) _ _
    (in_more 2 3 (unlock h first (returns reply)) (omega arith) (ends_leave h first reply))
    (acts_in 2 (Give (lock_of h second)) (unlock h first (returns reply)) refl
    (ends_leave h first reply))

ends_append_held : (h : Header) (first second b count more : ℕ) (held : List ℕ) → length held ≤ 7
    → EndsByReturn 13 (append_held h first second b count more held)
ends_append_held h first second b count more held few =
    in_more (5 + length held + 1) 13 (append_held h first second b count more held) (omega arith)
    (acts_in (5 + length held) (Mark BlockOpen) _ refl (ends_store_from 5 held b count
    (commit_count b (count + more) (unlock_both h first second (returns 1)))
    (ends_commit_count 3 b (count + more) (unlock_both h first second (returns 1))
    (ends_unlock_both h first second 1))))

ends_append_all : (h : Header) (first second b s count more : ℕ) → more ≤ 7
    → EndsByReturn 20 (append_all h first second b s count more)
ends_append_all h first second b s count more few = either_in 20 (nat_le (count + more) 7) _ _
    (in_more (13 + more) 20 (load_from more s 0 [] (append_held h first second b count more))
    (omega arith)
    (ends_load_from 13 more s 0 [] (append_held h first second b count more)
    (λ all long. ends_append_held h first second b count more all (omega (arith, long, few)))))
    (in_more 4 20 (perform (Mark Commit) (unlock_both h first second (returns 0))) (omega arith)
    (acts_in 3 (Mark Commit) (unlock_both h first second (returns 0)) refl
    (ends_unlock_both h first second 0)))

ends_both_counts : (h : Header) (first second b s : ℕ)
    → EndsByReturn 22 (step (Load (count_cell b)) (λ count. step (Load (count_cell s))
    (λ more. append_all h first second b s (min count 7) (min more 7))))
ends_both_counts h first second b s =
    loads_in 21 (count_cell b)
    (λ count. step (Load (count_cell s))
    (λ more. append_all h first second b s (min count 7) (min more 7)))
    (λ count. loads_in 20 (count_cell s) (λ more. append_all h first second b s (min count 7) (min
    more 7)) (λ more. ends_append_all h first second b s (min count 7) (min more 7) (omega arith)))

ends_under_both : (h : Header) (first second : ℕ) (both : Script) → EndsByReturn 22 both
    → EndsByReturn 24 (lock h first (lock_other h first second both))
ends_under_both h first second both ends =
    acts_in 23 (Take (lock_of h first)) (lock_other h first second both) refl (either_in 23
    (first == second) both (lock h second both) (in_more 22 23 both (omega arith) ends)
    (acts_in 22 (Take (lock_of h second)) both refl ends))

ends_append_from : (h : Header) (variant : Variant) (b s : ℕ)
    → EndsByReturn 31 (append_from h variant b s)
ends_append_from h Correct b s =
    in_more 24 31 (append_from h Correct b s) (omega arith) (ends_under_both h (min b s) (max b s)
    (step (Load (count_cell b)) (λ count. step (Load (count_cell s))
    (λ more. append_all h (min b s) (max b s) b s (min count 7) (min more 7))))
    (ends_both_counts h (min b s) (max b s) b s))
ends_append_from h Broken b s =
    in_more 25 31 (append_from h Broken b s) (omega arith) (ends_look 23 h s
    (λ more. unlock h s (alone more))
    (λ more. acts_in 22 (Give (lock_of h s)) (alone more) refl (ends_look 20 h b
    (λ count. append_all h b b b s (min count 7) (min more 7))
    (λ count. ends_append_all h b b b s (min count 7) (min more 7) (omega arith)))))
  where
    alone : ℕ → Script
    alone more = lock h b
        (step (Load (count_cell b)) (λ count. append_all h b b b s (min count 7) (min more 7)))

ends_append : (h : Header) (b x : ℕ) → EndsByReturn 31 (append h b x)
ends_append h b x = in_more 8 31 (append h b x) (omega arith)
    (ends_look 6 h b (append_at h b x) (ends_append_at h b x))

ends_cut : (h : Header) (b n : ℕ) → EndsByReturn 31 (cut h b n)
ends_cut h b n =
    in_more 7 31 (cut h b n) (omega arith) (ends_look 5 h b (cut_at h b n) (ends_cut_at h b n))

ends_length_of : (h : Header) (b : ℕ) → EndsByReturn 31 (length_of h b)
ends_length_of h b = in_more 4 31 (length_of h b) (omega arith)
    (ends_look 2 h b (λ count. unlock h b (returns (min count 7)))
    (λ count. ends_leave h b (min count 7)))

ends_read : (h : Header) (b : ℕ) → EndsByReturn 31 (read h b)
ends_read h b = in_more 11 31 (read h b) (omega arith)
    (ends_look 9 h b (λ count. read_from h (min count 7) b 0 0) (λ count. in_more (2 + min count 7)
    9 (read_from h (min count 7) b 0 0) (omega arith) (ends_read_from h (min count 7) b 0 0)))

pub procedure_ends : (h : Header) (variant : Variant) (method : Method) (args : Args)
    → h.subject ≡ Buffers
    → subject_of method ≡ Buffers
    → EndsByReturn (bound_of h method - 1) (procedure_of h variant method args)
procedure_ends h variant method args is of_buffers =
    subst (λ subject. EndsByReturn (bound_in subject h.size method - 1)
    (procedure_of h variant method args)) (sym is) (by_method method of_buffers)
  where
    by_method : (method : Method) → subject_of method ≡ Buffers
        → EndsByReturn 31 (procedure_of h variant method args)
    by_method (OfBuffers Append) of_buffers = ends_append h args.a args.b
    by_method (OfBuffers AppendFrom) of_buffers = ends_append_from h variant args.a args.b
    by_method (OfBuffers Cut) of_buffers = ends_cut h args.a args.b
    by_method (OfBuffers Length) of_buffers = ends_length_of h args.a
    by_method (OfBuffers Read) of_buffers = ends_read h args.a
    by_method (OfMultiset other) of_buffers = cc
    by_method (OfCache other) of_buffers = cc
    by_method (OfTree other) of_buffers = cc
    by_method (OwnNever i) of_buffers = cc
    by_method (OwnAtMostOnce i) of_buffers = cc
    by_method (OwnOnce i) of_buffers = cc
