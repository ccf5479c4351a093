-- What each procedure does at its end does right: blocks that commit, giving up, and returns.
use Rattle.vyrd_every.proofs.Prelude
use Prelude.{◌≡◌, ◌≢◌, ℕ, ◌+◌, ◌*◌, ◌/◌, ◌<◌, inl, true, false, List, [], ◌∷◌, Some, refl, ◌∙◌, sym}
use Prelude.{arith, Header, InsertPair, Args, BlockCommit, Called, is_observer, Amounts}
use Prelude.{plus_amount, next_state, Store, Mark, Memory, with_cell, changed_cell, other_cell}
use Prelude.{Script, perform, returns, gives_up, Situation, holds, validate_both, IsMultiset}
use Prelude.{left_invalid, made_valid, Locals, Access, Guarantee, WillReturn, DoesRight, multiset}
use Prelude.{never, lone_commit_right, at, holds_first, without_slots, returns_right, mutates}
use Prelude.{open_right, block_store_right, commit_right}
use Rattle.vyrd_base.specs.declared.subject.Method.TheVariants.{Multiset as OfMultiset}
use Rattle.vyrd_multiset.specs.Cells.{bucket_of, lock_of, unlock}
use Rattle.vyrd_multiset.specs.Procedures.{commit_state, undo, unlock_both}
use Rattle.vyrd_every.proofs.Multisets.Parts.{one_two, state_access, value_access, take_right}
use Rattle.vyrd_every.proofs.Multisets.Parts.{give_last, store_right, Keeps, keeps_rely}

-- commit and return 0
pub gives_up_right : (h : Header) (k : Locals) (shown : Memory) (called : Called)
    → ((i : ℕ) → k.owned i ≡ false) → k.called ≡ Some called
    → is_observer called.method ≡ false
    → ((state : Amounts) → next_state called.method called.args 0 state ≡ Some state)
    → DoesRight (multiset h) (at [] false false called) k shown gives_up
gives_up_right h k shown called none is mutator stays = lone_commit_right _ [] k _ called _
    (λ state m. record {
      called = called;
      is_called = is;
      reply = 0;
      returns = refl;
      next = state;
      allowed = stays _;
      means = m;
    }) (λ now rely. returns_right _ k _ _ called 0 none (mutates k called 0 is mutator))

-- a change of one slot's state leaves alone what it has to
changes_one : (h : Header) (s : Situation) (k : Locals) (shown : Memory) (slot state : ℕ)
    → Access (multiset h) s (2 * slot) → (shown (2 * slot) ≡ 1 → k.owned slot ≡ true)
    → Guarantee (multiset h) s k shown (with_cell shown (2 * slot) state)
changes_one h s k shown slot state access mine = grind arith

-- in a block that commits a slot gets its state
pub commit_state_right : (h : Header) (k : Locals) (shown : Memory) (called : Called)
    (bucket slot state : ℕ) → slot < 4 * h.size → slot / 4 ≡ bucket
    → k.called ≡ Some called → is_observer called.method ≡ false
    → (shown (2 * slot) ≡ 1 → k.owned slot ≡ true)
    → ((now : Memory) → now (2 * slot) ≡ shown (2 * slot) → now (2 * slot + 1)
    ≡ shown (2 * slot + 1) → (before : Amounts) → IsMultiset h now before
    → (after : Amounts) × (next_state called.method called.args 1 before ≡ Some after)
    × IsMultiset h (with_cell now (2 * slot) state) after)
    → DoesRight (multiset h) (at (lock_of h bucket ∷ []) false false called) k shown
    (commit_state h bucket slot state)
commit_state_right h k shown called bucket slot state low of is mutator mine leads =
    open_right (multiset h) (lock_of h bucket ∷ []) k shown called
    (perform (Store (2 * slot) state) (perform (Mark BlockCommit) (unlock h bucket (returns 1))))
    (λ a rely_a.
    block_store_right (multiset h) (lock_of h bucket ∷ []) (without k []) a called (2 * slot) state
    (perform (Mark BlockCommit) (unlock h bucket (returns 1))) access
    (λ b rely_b.
    let state_is : b (2 * slot) ≡ shown (2 * slot) = rely_b.held (2 * slot) access
    ∙ rely_a.held (2 * slot) access in
    let value_is : b (2 * slot + 1) ≡ shown (2 * slot + 1) = rely_b.held (2 * slot + 1) access_value
    ∙ rely_a.held (2 * slot + 1) access_value in
    commit_right (multiset h) (lock_of h bucket ∷ []) (without k ((2 * slot, state) ∷ [])) b called
    (unlock h bucket (returns 1))
    (changes_one h inside (without k ((2 * slot, state) ∷ [])) b slot state access
    (λ one. mine (sym state_is ∙ one)))
    (λ before m.
    let end = leads b state_is value_is before m in
    record {
      called = called;
      is_called = is;
      reply = 1;
      returns = λ answer is'. refl;
      next = end.0;
      allowed = end.1;
      means = end.2;
    })
    (λ c rely_c. give_last h (without_slots k ((2 * slot, state) ∷ [])) c bucket true called
    (returns 1)
    (λ d keeps. returns_right (multiset h) (without_slots k ((2 * slot, state) ∷ [])) d true called
    1 (λ i. refl)
    (mutates (without_slots k ((2 * slot, state) ∷ [])) called 1 is mutator)))))
  where
    without : Locals → List (ℕ × ℕ) → Locals
    without k pending = record k { pending = pending }

    inside : Situation
    inside = at (lock_of h bucket ∷ []) false true called

    held : holds inside (lock_of h (slot / 4)) ≡ true
    held = cc (holds_first (lock_of h bucket) [] false true called)

    access : Access (multiset h) inside (2 * slot)
    access = state_access h inside slot low held

    access_value : Access (multiset h) inside (2 * slot + 1)
    access_value = value_access h inside slot low held

-- the slot that was reserved is freed, and the insert gives up
pub undo_right : (h : Header) (k : Locals) (shown : Memory) (called : Called) (x slot : ℕ)
    → slot < 4 * h.size → slot / 4 ≡ bucket_of h x
    → k.owned slot ≡ true → shown (2 * slot) ≡ 1 → k.called ≡ Some called
    → is_observer called.method ≡ false
    → ((state : Amounts) → next_state called.method called.args 0 state ≡ Some state)
    → DoesRight (multiset h) (at [] false false called) k shown (undo h x slot)
undo_right h k shown called x slot low of mine one is mutator stays =
    take_right h (at [] false false called) k shown (bucket_of h x)
    (perform (Store (2 * slot) 0) (unlock h (bucket_of h x) gives_up)) (λ held e. cc)
    (λ now rely.
    let here : now (2 * slot) ≡ 1 = (rely.owned slot mine).0 ∙ one in
    store_right h inside k freed now (2 * slot) 0 slot (unlock h (bucket_of h x) gives_up) refl
    access (inl refl) (λ same. mine)
    (λ i mine' was one'. cc) (λ i mine' wasnt. cc)
    (λ state m. left_invalid h now (with_cell now (2 * slot) 0) state slot m low
    (λ cell not_state not_value. other_cell now (2 * slot) 0 cell not_state)
    (λ two. one_two (now (2 * slot)) here two)
    (λ two. zero_two (with_cell now (2 * slot) 0 (2 * slot)) (changed_cell now (2 * slot) 0) two))
    refl refl refl
    (λ then_ rely'. give_last h freed then_ (bucket_of h x) false called gives_up
    (λ last keeps. gives_up_right h freed last called (λ i. refl) is mutator stays)))
  where
    freed : Locals
    freed = without_slots k ((2 * slot, 0) ∷ k.pending)

    inside : Situation
    inside = at (lock_of h (bucket_of h x) ∷ []) false false called

    access : Access (multiset h) inside (2 * slot)
    access = search (state_access, lock_of, holds_first, arith)

    zero_two : (n : ℕ) → n ≡ 0 → n ≡ 2 → ⊥
    zero_two n e f = omega (arith, e, f)

-- two slots that were reserved for the values of a pair
pub record AreReserved (h : Header) (k : Locals) (shown : Memory) (args : Args)
    (slot_x slot_y : ℕ) : Type 0 where
  pub low_x : slot_x < 4 * h.size
  pub low_y : slot_y < 4 * h.size
  pub of_x : slot_x / 4 ≡ bucket_of h args.a
  pub of_y : slot_y / 4 ≡ bucket_of h args.b
  pub mine_x : k.owned slot_x ≡ true
  pub mine_y : k.owned slot_y ≡ true
  pub one_x : shown (2 * slot_x) ≡ 1
  pub one_y : shown (2 * slot_y) ≡ 1
  pub has_x : shown (2 * slot_x + 1) ≡ args.a
  pub has_y : shown (2 * slot_y + 1) ≡ args.b
  pub apart : slot_x ≢ slot_y

-- they are so still, whatever others do
pub still_reserved : (h : Header) (k k' : Locals) (shown now : Memory) (args : Args)
    (slot_x slot_y : ℕ) → AreReserved h k shown args slot_x slot_y
    → k'.owned ≡ k.owned → Keeps k shown now → AreReserved h k' now args slot_x slot_y
still_reserved h k k' shown now args slot_x slot_y r same keeps = search arith

-- the call of a pair
abbrev pub pair_of : Args → Called
pair_of args = record { method = OfMultiset InsertPair; args = args }

-- both slots become valid in a block that commits
pair_leads : (h : Header) (k : Locals) (shown : Memory) (args : Args) (slot_x slot_y : ℕ)
    (before : Amounts) → AreReserved h k shown args slot_x slot_y
    → IsMultiset h shown before
    → IsMultiset h (with_cell (with_cell shown (2 * slot_x) 2) (2 * slot_y) 2)
    (plus_amount (plus_amount before args.a 1) args.b 1)
pair_leads h k shown args slot_x slot_y before r m =
    made_valid h mid (with_cell mid (2 * slot_y) 2) (plus_amount before args.a 1) slot_y args.b
    first r.low_y
    (λ cell not_state not_value. other_cell mid (2 * slot_y) 2 cell not_state)
    (λ two. one_two (mid (2 * slot_y))
    (other_cell shown (2 * slot_x) 2 (2 * slot_y) (λ e. r.apart (omega (arith, e))) ∙ r.one_y) two)
    (changed_cell mid (2 * slot_y) 2)
    (other_cell mid (2 * slot_y) 2 (2 * slot_y + 1) (λ e. omega (arith, e))
    ∙ other_cell shown (2 * slot_x) 2 (2 * slot_y + 1) (λ e. omega (arith, e)) ∙ r.has_y)
    r.of_y
  where
    mid : Memory
    mid = with_cell shown (2 * slot_x) 2

    first : IsMultiset h mid (plus_amount before args.a 1)
    first = made_valid h shown mid before slot_x args.a m r.low_x
        (λ cell not_state not_value. other_cell shown (2 * slot_x) 2 cell not_state)
        (λ two. one_two (shown (2 * slot_x)) r.one_x two)
        (changed_cell shown (2 * slot_x) 2)
        (other_cell shown (2 * slot_x) 2 (2 * slot_x + 1) (λ e. omega (arith, e)) ∙ r.has_x)
        r.of_x

pair_leaves : (h : Header) (s : Situation) (k : Locals) (shown : Memory) (slot_x slot_y : ℕ)
    → Access (multiset h) s (2 * slot_x) → Access (multiset h) s (2 * slot_y)
    → k.owned slot_x ≡ true → k.owned slot_y ≡ true
    → Guarantee (multiset h) s k shown (with_cell (with_cell shown (2 * slot_x) 2) (2 * slot_y) 2)
pair_leaves h s k shown slot_x slot_y access_x access_y mine_x mine_y = search
    (other_cell, never, lock_of, arith)

pub validate_both_right : (h : Header) (locks : List ℕ) (k : Locals) (shown : Memory) (args : Args)
    (first second slot_x slot_y : ℕ)
    → AreReserved h k shown args slot_x slot_y → k.called ≡ Some (pair_of args)
    → Access (multiset h) (at locks false true (pair_of args)) (2 * slot_x)
    → Access (multiset h) (at locks false true (pair_of args)) (2 * slot_y)
    → WillReturn 1 (unlock_both h first second)
    → ((now : Memory) → DoesRight (multiset h) (at locks true false (pair_of args))
    (without_slots k ((2 * slot_y, 2) ∷ (2 * slot_x, 2) ∷ [])) now (unlock_both h first second))
    → DoesRight (multiset h) (at locks false false (pair_of args)) k shown
    (validate_both h first second slot_x slot_y)
validate_both_right h locks k shown args first second slot_x slot_y r is access_x access_y
    returns_one rest =
    open_right (multiset h) locks k shown (pair_of args)
    (perform (Store (2 * slot_x) 2) (perform (Store (2 * slot_y) 2) later))
    (λ a rely_a.
    block_store_right (multiset h) locks (with_writes []) a (pair_of args) (2 * slot_x) 2
    (perform (Store (2 * slot_y) 2) later) access_x
    (λ b rely_b.
    block_store_right (multiset h) locks (with_writes ((2 * slot_x, 2) ∷ [])) b (pair_of args)
    (2 * slot_y) 2 later access_y
    (λ c rely_c.
    let at_a : AreReserved h (with_writes []) a args slot_x slot_y =
    still_reserved h k (with_writes []) shown a args slot_x slot_y r refl
    (keeps_own k (with_writes []) shown a refl
    (keeps_rely h inside (with_writes []) shown a rely_a)) in
    let at_b : AreReserved h (with_writes ((2 * slot_x, 2) ∷ [])) b args slot_x slot_y =
    still_reserved h (with_writes []) (with_writes ((2 * slot_x, 2) ∷ [])) a b args slot_x slot_y
    at_a refl
    (keeps_own (with_writes []) (with_writes ((2 * slot_x, 2) ∷ [])) a b refl
    (keeps_rely h inside (with_writes ((2 * slot_x, 2) ∷ [])) a b rely_b)) in
    let at_c : AreReserved h (with_writes both) c args slot_x slot_y =
    still_reserved h (with_writes ((2 * slot_x, 2) ∷ [])) (with_writes both) b c args slot_x slot_y
    at_b refl
    (keeps_own (with_writes ((2 * slot_x, 2) ∷ [])) (with_writes both) b c refl
    (keeps_rely h inside (with_writes both) b c rely_c)) in
    commit_right (multiset h) locks (with_writes both) c (pair_of args) (unlock_both h first second)
    (pair_leaves h inside (with_writes both) c slot_x slot_y access_x access_y r.mine_x r.mine_y)
    (λ before m. record {
      called = pair_of args;
      is_called = is;
      reply = 1;
      returns = returns_one;
      next = plus_amount (plus_amount before args.a 1) args.b 1;
      allowed = refl;
      means = pair_leads h (with_writes both) c args slot_x slot_y before at_c m;
    })
    (λ d rely_d. rest d))))
  where
    both : List (ℕ × ℕ)
    both = (2 * slot_y, 2) ∷ (2 * slot_x, 2) ∷ []

    later : Script
    later = perform (Mark BlockCommit) (unlock_both h first second)

    with_writes : List (ℕ × ℕ) → Locals
    with_writes pending = record k { pending = pending }

    inside : Situation
    inside = at locks false true (pair_of args)

    keeps_own : (k k' : Locals) (shown now : Memory) → k'.owned ≡ k.owned → Keeps k' shown now
        → Keeps k shown now
    keeps_own k k' shown now same keeps = search arith
