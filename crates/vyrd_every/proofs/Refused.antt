-- Steps that don't do right.
use Rattle.vyrd_every.proofs.Prelude
use Prelude.{◌≡◌, ◌≢◌, ℕ, ◌+◌, ◌*◌, ◌/◌, ◌<◌, ◌≤◌, true, false, [], ◌∷◌, Some, refl, ap, ◌∙◌, arith}
use Prelude.{None, ◌==◌, ◌||◌, list_any, Header, Args, Method, AppendFrom, isnt_same, Load, Store}
use Prelude.{Take, Give, Memory, Script, step, perform, Situation, holds, just_called, after_act}
use Prelude.{gone, multiset_procedure, cache_procedure, buffers_procedure, multiset, cache, buffers}
use Prelude.{Locals, DoesRight, IsRight, Shape, TreeLocals, TreeRight, never}
use Rattle.vyrd_base.specs.declared.subject.Method.TheVariants.{Multiset as OfMultiset}
use Rattle.vyrd_base.specs.declared.subject.Method.TheVariants.{Cache as OfCache}
use Rattle.vyrd_base.specs.declared.subject.Method.TheVariants.{Buffers as OfBuffers}
use Rattle.vyrd_base.specs.declared.multiset.MultisetMethod.TheVariants.{Insert}
use Rattle.vyrd_base.specs.declared.cache.CacheMethod.TheVariants.{Write}
use Rattle.vyrd_memory.specs.declared.op.Variant.TheVariants.{Broken}
use Rattle.vyrd_cache.specs.Cells.{lock_of}
use Rattle.vyrd_buffers.specs.Cells as texts
use Rattle.vyrd_tree.specs.Cells as cells
use Rattle.vyrd_tree.specs.Cells.{node_cell, root_cell, root_lock}
use Rattle.vyrd_every.proofs.Relies.{rely_same}

-- the locals of a caller that has just called
abbrev calling : Method → Args → Locals
calling method args =
    record {
      owned = λ slot. false;
      pending = [];
      called = Some (record { method = method; args = args });
      answered = None;
    }

pub no_lock : (h : Header) (args : Args) → IsRight (multiset h) (multiset_procedure h Broken)
    (record { method = OfMultiset Insert; args = args }) → ⊥
no_lock h args right = never refl
    (right (calling (OfMultiset Insert) args) (λ w. 0) (λ slot. refl) refl).1.reaches.0.held

-- the memory in which all chunks are dirty
abbrev all_dirty : Memory
all_dirty = λ w. 2

-- lock, load, unlock, and then the store
pub lock_too_early : (h : Header) (args : Args) → IsRight (cache h) (cache_procedure h Broken)
    (record { method = OfCache Write; args = args }) → ⊥
lock_too_early h args right =
    let begun = right (calling (OfCache Write) args) all_dirty (λ slot. refl) refl in
    let taken = begun.2 all_dirty (rely_same (cache h) locked begun.0 all_dirty) in
    let loaded = taken.2 all_dirty (rely_same (cache h) locked taken.0 all_dirty) in
    let given = loaded.2 all_dirty
    (rely_same (cache h) (after_act locked (Give (lock_of h args.a))) loaded.0 all_dirty) in
    never (cc (gone (lock_of h args.a) [])) given.1.reaches.held
  where
    locked : Situation
    locked = after_act (just_called (OfCache Write)) (Take (lock_of h args.a))

-- the memory in which all buffers have one character
abbrev all_short : Memory
all_short = λ w. 1

-- the first lock was given back when the characters are loaded
pub no_source_lock : (h : Header) (args : Args) → args.a ≢ args.b
    → IsRight (buffers h) (buffers_procedure h Broken)
    (record { method = OfBuffers AppendFrom; args = args }) → ⊥
no_source_lock h args apart right =
    let begun = right (calling (OfBuffers AppendFrom) args) all_short (λ slot. refl) refl in
    let taken = begun.2 all_short (rely_same (buffers h) first begun.0 all_short) in
    let counted = taken.2 all_short (rely_same (buffers h) first taken.0 all_short) in
    let given = counted.2 all_short (rely_same (buffers h) between counted.0 all_short) in
    let taken_too = given.2 all_short (rely_same (buffers h) second given.0 all_short) in
    let counted_too = taken_too.2 all_short (rely_same (buffers h) second taken_too.0 all_short) in
    never (ap (λ locks. list_any (λ held. held == source) (texts.lock_of h args.a ∷ locks))
    (gone (texts.lock_of h args.b) [])
    ∙ ap (λ b. b || false)
    (isnt_same (texts.lock_of h args.a) source (λ same. apart (omega (arith, same)))))
    counted_too.1.reaches.0.held
  where
    -- the lock of the buffer whose first character is loaded
    source : ℕ
    source = texts.lock_of h ((8 * args.b + (1 + 0)) / 8)

    first : Situation
    first = after_act (just_called (OfBuffers AppendFrom)) (Take (texts.lock_of h args.b))

    between : Situation
    between = after_act first (Give (texts.lock_of h args.b))

    second : Situation
    second = after_act between (Take (texts.lock_of h args.a))

-- a lock that isn't above one that is held
pub not_above : (h : Header) (s : Situation) (k : Locals) (shown : Memory) (lock held : ℕ)
    (later : Script) → holds s held ≡ true → lock ≤ held
    → DoesRight (multiset h) s k shown (perform (Take lock) later) → ⊥
not_above h s k shown lock held later is low right = grind (arith, right.1.reaches held is)

-- Words of different nodes, and of nodes and others, have different numbers. So the node is the one
-- whose word is loaded, and
-- its lock isn't held.
pub no_node_lock : (h : Header) (s : Situation) (k : TreeLocals) (g : Shape) (m : Memory)
    (node place : ℕ) (rest : ℕ → Script) → node < h.size
    → place < 12 → place ≢ 0 → holds s (cells.lock_of h node) ≡ false
    → TreeRight h s k g m (step (Load (node_cell node place)) rest) → ⊥
no_node_lock h s k g m node place rest fits low some free right = search arith

-- the root's word isn't a node's, and not the count of nodes in use
pub no_root_lock : (h : Header) (s : Situation) (k : TreeLocals) (g : Shape) (m : Memory) (root : ℕ)
    (later : Script) → k.fresh ≡ None
    → holds s (root_lock h) ≡ false → TreeRight h s k g m (perform (Store (root_cell h) root) later)
    → ⊥
no_root_lock h s k g m root later none free right = search arith
