-- Each part of a procedure of string buffers does right, if what follows it does.
use Rattle.vyrd_every.proofs.Prelude
use Prelude.{◌≡◌, ℕ, zero, suc, ◌+◌, ◌*◌, ◌%◌, ◌^◌, ◌<◌, ◌≤◌, Bool, true, false, cond, not, List}
use Prelude.{[], ◌∷◌, ◌++◌, length, Some, refl, ap, ◌∙◌, sym, subst, append-nil, append_assoc}
use Prelude.{add-one, arith, ◌==◌, ◌||◌, Header, Commit, BlockOpen, BlockCommit, Called}
use Prelude.{is_observer, Amounts, next_state, same_number, same_of, isnt_same, apart_of, text_same}
use Prelude.{Load, Mark, Memory, Represents, Script, step, perform, returns, gone, load_from}
use Prelude.{store_from, read_from, unlock_both, Locals, written, Guarantee, WillReturn, DoesRight}
use Prelude.{buffers, never, at, without_slots, load_right, take_right, give_right, returns_right}
use Prelude.{mutates, lone_commit_right, open_right, block_store_right, commit_right, writing}
use Rattle.vyrd_base.specs.Buffers.{text_of}
use Rattle.vyrd_buffers.specs.Cells.{character_cell, lock_of, lock, unlock, lock_other}
use Rattle.vyrd_buffers.specs.Procedures.{commit_count}
use Rattle.vyrd_buffers.specs.Laws.Alone.Stores.{loaded}
use Rattle.vyrd_every.proofs.Buffers.Texts.{IsHeld, word_access, Stays, stays_so, stays_same}
use Rattle.vyrd_every.proofs.Buffers.Texts.{stays_more, stays_character, writes_of, written_is}
use Rattle.vyrd_every.proofs.Buffers.Texts.{after_block, block_leaves}

-- the last lock that was taken is held, and those before it
held_last : (h : Header) (locks : List ℕ) (b : ℕ) → b < h.size → IsHeld h (lock_of h b ∷ locks) b
held_last h locks b low = grind (arith, same_number (lock_of h b))

held_still : (h : Header) (locks : List ℕ) (lock b : ℕ) → IsHeld h locks b
    → IsHeld h (lock ∷ locks) b
held_still h locks lock b held = grind (arith, held, lock_of)

-- a word of a buffer is loaded, and has afterwards what was found
pub word_right : (h : Header) (locks : List ℕ) (called : Called) (k : Locals) (before : Memory)
    (b cell : ℕ) (rest : ℕ → Script)
    → IsHeld h locks b → 8 * b ≤ cell → cell < 8 * b + 8
    → ((now : Memory) → Stays h locks before now
    → DoesRight (buffers h) (at locks false false called) k now (rest (now cell)))
    → DoesRight (buffers h) (at locks false false called) k before (step (Load cell) rest)
word_right h locks called k before b cell rest held from to later =
    load_right (buffers h) (at locks false false called) k before cell rest
    (word_access h locks false false called b cell held from to) refl
    (λ now rely.
    let stays : Stays h locks before now = stays_so h locks false false called k before now rely in
    rw (← stays.word b cell held from to) (later now stays))

-- so are characters of a buffer
pub load_from_right : (h : Header) (locks : List ℕ) (called : Called) (k : Locals) (before : Memory)
    (b left i : ℕ) (found : List ℕ) (later : List ℕ → Script)
    → IsHeld h locks b → i + left ≤ 7
    → ((now : Memory) → Stays h locks before now
    → DoesRight (buffers h) (at locks false false called) k now
    (later (found ++ loaded now b left i)))
    → DoesRight (buffers h) (at locks false false called) k before (load_from left b i found later)
load_from_right h locks called k before b zero i found later held few rest =
    grind (arith, append-nil found, rest before (stays_same h locks before))
load_from_right h locks called k before b (suc left) i found later held few rest =
    word_right h locks called k before b (character_cell b i)
    (λ character. load_from left b (i + 1) (found ++ character ∷ []) later) held (omega arith)
    (omega (arith, few))
    (λ mid first.
    load_from_right h locks called k mid b left (i + 1) (found ++ mid (character_cell b i) ∷ [])
    later held (omega (arith, few))
    (λ now second.
    rw (← ap (λ c. found ++ c ∷ loaded now b left (i + 1)) (stays_character h locks mid now b i
    second held (omega (arith, few))) ∙ sym (append_assoc found (mid (character_cell b i) ∷ [])
    (loaded now b left (i + 1))))
    (rest now (stays_more h locks before mid now first second))))

-- A read loads the characters that are left, and returns the text that they make after those that
-- it has.
pub read_from_right : (h : Header) (locks : List ℕ) (called : Called) (k : Locals) (before : Memory)
    (b left i n text : ℕ) → IsHeld h locks b
    → i + left ≡ n → n ≤ 7 → text ≡ text_of (λ j. before (character_cell b j) % 255) i
    → ((now : Memory) → Stays h locks before now
    → DoesRight (buffers h) (at locks false false called) k now
    (unlock h b (returns (text_of (λ j. now (character_cell b j) % 255) n))))
    → DoesRight (buffers h) (at locks false false called) k before (read_from h left b i text)
read_from_right h locks called k before b zero i n text held all few is later =
    grind (arith, later before (stays_same h locks before))
read_from_right h locks called k before b (suc left) i n text held all few is later =
    word_right h _ called k _ b _
    (λ character. read_from h left b (i + 1) (text + (character % 255 + 1) * 256 ^ i)) held
    (omega arith) (omega (arith, all, few))
    (λ mid first. read_from_right h locks called k mid b left (i + 1) n
    (text + (mid _ % 255 + 1) * 256 ^ i) held (omega (arith, all)) few (one_more mid first)
    (λ now second. later _ (stays_more h _ _ mid _ first second)))
  where
    one_more : (mid : Memory) → Stays h locks before mid
        → text + (mid (character_cell b i) % 255 + 1) * 256 ^ i
        ≡ text_of (λ j. mid (character_cell b j) % 255) (i + 1)
    one_more mid first = search (text_same, stays_character, held, few, add-one, arith)

-- what is stored as characters of a buffer in a block shows when the block ends
store_from_right : (h : Header) (locks : List ℕ) (called : Called) (k : Locals) (before : Memory)
    (characters : List ℕ) (b i : ℕ) (later : Script)
    → IsHeld h locks b → i + length characters ≤ 7
    → ((now : Memory) → Stays h locks before now
    → DoesRight (buffers h) (at locks false true called)
    (writing k (writes_of characters b i k.pending)) now later)
    → DoesRight (buffers h) (at locks false true called) k before (store_from characters b i later)
store_from_right h locks called k before [] b i later held few rest = search (stays_same, arith)
store_from_right h locks called k before (character ∷ characters) b i later held few rest =
    block_store_right _ _ k _ called _ _ _
    (word_access h _ _ _ called b _ held (omega arith) (omega (arith, few)))
    (λ mid rely. store_from_right h locks called (writing k _) mid characters b (i + 1) later held
    (omega (arith, few))
    (λ now stays. rest _
    (stays_more h _ _ mid _
    (stays_so h _ false true called (writing k ((character_cell b i, character) ∷ k.pending)) _ _
    rely) stays)))

-- what follows a commit with this reply: it returns that, and gives the locks back before
pub record Finishes (h : Header) (locks : List ℕ) (called : Called) (reply : ℕ)
    (later : Script) : Type 0 where
  pub will : WillReturn reply later
  pub ends : (k : Locals) (now : Memory) → ((i : ℕ) → k.owned i ≡ false) → k.called ≡ Some called
      → DoesRight (buffers h) (at locks true false called) k now later

-- what a commit with this reply has to lead to
abbrev pub LeadsTo : Header → Called → ℕ → Memory → Memory → Type 0
LeadsTo h called reply now after = (before : Amounts) → Represents h now before
    → (next : Amounts) × (next_state called.method called.args reply before ≡ Some next)
    × Represents h after next

-- a commit that changes nothing
pub only_commit_right : (h : Header) (locks : List ℕ) (called : Called) (k : Locals) (now : Memory)
    (reply : ℕ) (later : Script)
    → ((i : ℕ) → k.owned i ≡ false) → k.called ≡ Some called → Finishes h locks called reply later
    → LeadsTo h called reply now now
    → DoesRight (buffers h) (at locks false false called) k now (perform (Mark Commit) later)
only_commit_right h locks called k now reply later none is finishes leads =
    lone_commit_right _ _ k _ called _ (λ state s.
    let end = leads _ s in
    record {
      called = called;
      is_called = is;
      reply = reply;
      returns = finishes.will;
      next = end.0;
      allowed = end.1;
      means = end.2;
    }) (λ last rely. finishes.ends k _ none is)

-- A block that commits stores characters of a buffer from character i on, and then its count.
pub block_right : (h : Header) (locks : List ℕ) (called : Called) (k : Locals) (before : Memory)
    (characters : List ℕ) (b i count reply : ℕ) (later : Script)
    → IsHeld h locks b → i + length characters ≤ 7 → k.called ≡ Some called
    → Finishes h locks called reply later
    → ((now : Memory) → Stays h locks before now → LeadsTo h called reply now
    (after_block characters b i count now))
    → DoesRight (buffers h) (at locks false false called) k before
    (perform (Mark BlockOpen) (store_from characters b i (commit_count b count later)))
block_right h locks called k before characters b i count reply later held few is finishes leads =
    open_right (buffers h) locks k before called
    (store_from characters b i (commit_count b count later))
    (λ m0 r0. store_from_right h locks called (writing k []) m0 characters b i
    (commit_count b count later) held few
    (λ m1 s1. block_store_right (buffers h) locks (writing k (writes_of characters b i [])) m1
    called (8 * b) count (perform (Mark BlockCommit) later)
    (word_access h locks false true called b (8 * b) held (omega arith) (omega arith)) (λ m2 r2.
    let stays : Stays h locks before m2 = stays_more h locks before m0 m2
    (stays_so h locks false true called (writing k []) before m0 r0)
    (stays_more h locks m0 m1 m2 s1
    (stays_so h locks false true called (writing k pending) m1 m2 r2)) in
    commit_right (buffers h) locks (writing k pending) m2 called later
    (subst (Guarantee (buffers h) (at locks false true called) (writing k pending) m2)
    (sym (shows m2)) (guarantee m2)) (λ state s.
    let end = leads m2 stays state s in
    record {
      called = called;
      is_called = is;
      reply = reply;
      returns = finishes.will;
      next = end.0;
      allowed = end.1;
      means = rw (shows m2) end.2;
    }) (λ last rely. finishes.ends (without_slots (writing k pending) pending) last
    (λ slot. refl) is))))
  where
    pending : List (ℕ × ℕ)
    pending = (8 * b, count) ∷ writes_of characters b i []

    shows : (memory : Memory) → written pending memory ≡ after_block characters b i count memory
    shows memory = cc (written_is characters b i [] memory)

    guarantee : (memory : Memory) → Guarantee (buffers h) (at locks false true called)
        (writing k pending) memory (after_block characters b i count memory)
    guarantee memory = search (block_leaves, never, arith)

-- one lock is given back
pub unlock_right : (h : Header) (called : Called) (b reply : ℕ) → is_observer called.method ≡ false
    → Finishes h (lock_of h b ∷ []) called reply (unlock h b (returns reply))
unlock_right h called b reply mutator =
    record {
      will = λ answer is. refl;
      ends = λ k now none is. give_right _ _ k _ _ _ refl
          (λ last rely. rw (gone (lock_of h b) [])
          (returns_right (buffers h) k last true called reply none
          (mutates k called reply is mutator)));
    }

-- two locks are given back, the last one first
unlock_two_right : (h : Header) (called : Called) (first second reply : ℕ)
    → is_observer called.method ≡ false
    → (lock_of h first == lock_of h second) ≡ false
    → Finishes h (lock_of h second ∷ lock_of h first ∷ []) called reply
    (unlock h second (unlock h first (returns reply)))
unlock_two_right h called first second reply mutator apart =
    record {
      will = λ answer is answer' is'. refl;
      ends = λ k now none is. give_right _ _ k _ _ _
          refl (λ last rely. rw (gone (lock_of h second) (lock_of h first ∷ [])
          ∙ ap (λ b. cond (not b) (lock_of h first ∷ []) []) apart)
          ((unlock_right h called first reply mutator).ends k last none is));
    }

-- one lock is taken
pub lock_right : (h : Header) (called : Called) (k : Locals) (before : Memory) (b : ℕ)
    (later : Script) → b < h.size
    → ((now : Memory) → IsHeld h (lock_of h b ∷ []) b
    → DoesRight (buffers h) (at (lock_of h b ∷ []) false false called) k now later)
    → DoesRight (buffers h) (at [] false false called) k before (lock h b later)
lock_right h called k before b later low rest =
    take_right _ _ k _ _ _ (λ held e. cc) (λ now rely. rest _ (held_last h [] b low))

-- Both are taken, the lower one first, if they are two. What follows does right with the locks that
-- are held then.
pub lock_both_right : (h : Header) (called : Called) (k : Locals) (before : Memory)
    (first second : ℕ) (later : Script) → first ≤ second → second < h.size
    → is_observer called.method ≡ false
    → ((locks : List ℕ) (now : Memory) → IsHeld h locks first → IsHeld h locks second
    → ((reply : ℕ) → Finishes h locks called reply (unlock_both h first second (returns reply)))
    → DoesRight (buffers h) (at locks false false called) k now later)
    → DoesRight (buffers h) (at [] false false called) k before
    (lock h first (lock_other h first second later))
lock_both_right h called k before first second later order low mutator rest =
    lock_right h called k before first (lock_other h first second later) (omega (arith, order, low))
    (λ now held. by_test now held (first == second) refl)
  where
    above_first : (first == second) ≡ false → (held : ℕ) → (b : Bool) → (lock_of h first == held)
        ≡ b → (b || false) ≡ true → held < lock_of h second
    above_first e held b f g = search (held, lock_of, same_of, arith)

    by_test : (now : Memory) → IsHeld h (lock_of h first ∷ []) first → (b : Bool)
        → (first == second) ≡ b
        → DoesRight (buffers h) (at (lock_of h first ∷ []) false false called) k now
        (cond b later (lock h second later))
    by_test now held true e =
        rest (lock_of h first ∷ []) now held
        (subst (IsHeld h (lock_of h first ∷ [])) (same_of first second e) held)
        (λ reply. rw e
        (unlock_right h called first reply mutator))
    by_test now held false e =
        take_right (buffers h) (at (lock_of h first ∷ []) false false called) k now
        (lock_of h second) later
        (λ lock f. above_first e lock (lock_of h first == lock) refl f)
        (λ last rely.
        rest (lock_of h second ∷ lock_of h first ∷ []) last
        (held_still h (lock_of h first ∷ []) (lock_of h second) first held)
        (held_last h (lock_of h first ∷ []) second low)
        (λ reply. rw e
        (unlock_two_right h called first second reply mutator
        (isnt_same (lock_of h first) (lock_of h second)
        (λ same. apart_of first second e (omega (arith, same)))))))
