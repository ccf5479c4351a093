-- When an insert and an insert_pair give up, by what they have done.
use Rattle.std.proofs.Common.{◌≡◌, ℕ, inl, inr, false, Some, arith}
use Rattle.vyrd_base.specs.declared.header.Header.{Header}
use Rattle.vyrd_base.specs.declared.subject.Subject.TheVariants.{Multiset}
use Rattle.vyrd_base.specs.Amounts.{Amounts}
use Rattle.vyrd_memory.specs.declared.op.Variant.TheVariants.{Correct}
use Rattle.vyrd_memory.specs.Alone.{Memory, state_in, alone, GivesUpWhere}
use Rattle.vyrd_memory.proofs.AloneLaws.{gives_up}
use Rattle.vyrd_multiset.specs.Procedures.{insert, insert_pair}
use Rattle.vyrd_multiset.specs.Room.{free_slots_for, has_room_for_both}
use Rattle.vyrd_multiset.specs.Laws.Alone.Changes.{is_multiset}
use Rattle.vyrd_multiset.specs.Laws.Alone.Done.{InsertDone, insert_done, PairDone, pair_done}

pub insert_gives_up : (h : Header) (memory : Memory) (state : Amounts) (c x : ℕ) → h.subject
    ≡ Multiset → state_in h memory ≡ Some state
    → GivesUpWhere (free_slots_for h memory x ≡ 0) (alone c (insert h Correct x) memory)
insert_gives_up h memory state c x is e =
    gives_up (free_slots_for h memory x ≡ 0) (InsertDone h memory state x)
    (alone c (insert h Correct x) memory)
    (insert_done h is c memory state x (is_multiset h memory state is e)) says
  where
    says : (reply : ℕ) (after : Memory) → InsertDone h memory state x reply after
        → (reply ≡ 0 → free_slots_for h memory x ≡ 0) ×
        (free_slots_for h memory x ≡ 0 → reply ≡ 0)
    says reply after e2 = search (after, arith)

pub insert_pair_gives_up : (h : Header) (memory : Memory) (state : Amounts) (c x y : ℕ) → h.subject
    ≡ Multiset → state_in h memory ≡ Some state
    → GivesUpWhere (has_room_for_both h memory x y ≡ false)
    (alone c (insert_pair h Correct x y) memory)
insert_pair_gives_up h memory state c x y is e =
    gives_up (has_room_for_both h memory x y ≡ false) (PairDone h memory state x y)
    (alone c (insert_pair h Correct x y) memory)
    (pair_done h is c memory state x y (is_multiset h memory state is e)) says
  where
    says : (reply : ℕ) (after : Memory) → PairDone h memory state x y reply after
        → (reply ≡ 0 → has_room_for_both h memory x y ≡ false) ×
        (has_room_for_both h memory x y ≡ false → reply ≡ 0)
    says reply after (inl d) = grind arith
    says reply after (inr d) = (λ none. d.2, λ full. d.0)
