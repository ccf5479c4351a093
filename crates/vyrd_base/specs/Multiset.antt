-- The multiset: how many times each value is in it. It has buckets of 4 slots, as many as its size,
-- and a value belongs to the bucket of its remainder by the size. The amount of a value is its
-- multiplicity.
use Rattle.std.specs.Prelude.{ℕ, Bool, true, not, ◌+◌, ◌-◌, ◌*◌, ◌/◌, ◌%◌, ◌==◌, ◌||◌, List, []}
use Rattle.std.specs.Prelude.{◌∷◌}
use Rattle.std.specs.Prelude.{slice_index, flat_map, codes, Option, Some, None, if◌then◌else◌}
use Rattle.std.specs.Bool.{then_some}
use Rattle.std.specs.List.{list_all}
use Rattle.vyrd_base.specs.declared.multiset.MultisetMethod.{MultisetMethod}
use Rattle.vyrd_base.specs.declared.multiset.MultisetMethod.TheVariants.{Insert, InsertPair, Delete}
use Rattle.vyrd_base.specs.declared.multiset.MultisetMethod.TheVariants.{Lookup}
use Rattle.vyrd_base.specs.declared.subject.Args.{Args}
use Rattle.vyrd_base.specs.declared.subject.Commits.{Commits}
use Rattle.vyrd_base.specs.declared.subject.Commits.TheVariants.{Never, Once}
use Rattle.vyrd_base.specs.Limits.{is_within}
use Rattle.vyrd_base.specs.Amounts.{Amounts, amount_of, is_present, with_amount, plus_amount}
use Rattle.vyrd_base.specs.Places.{numbers_below}
use Rattle.vyrd_base.specs.Structures.{Structure, by_reply}

abbrev pub called : MultisetMethod → List ℕ
called Insert = codes "insert"
called InsertPair = codes "insert_pair"
called Delete = codes "delete"
called Lookup = codes "lookup"

abbrev pub arity : MultisetMethod → ℕ
arity Insert = 1
arity InsertPair = 2
arity Delete = 1
arity Lookup = 1

-- any number of 32 bits is a value
abbrev pub takes : ℕ → MultisetMethod → Args → Bool
takes size Insert args = true
takes size InsertPair args = true
takes size Delete args = true
takes size Lookup args = true

abbrev pub commits : MultisetMethod → Commits
commits Insert = Once
commits InsertPair = Once
commits Delete = Once
commits Lookup = Never

-- An insert may always give up, with the reply 0, and change nothing.
abbrev pub next : MultisetMethod → Args → ℕ → Amounts → Option Amounts
next Insert args reply state =
    by_reply reply (Some state) (Some (plus_amount state args.a 1)) None
next InsertPair args reply state =
    by_reply reply (Some state) (Some (plus_amount (plus_amount state args.a 1) args.b 1)) None
next Delete args reply state = by_reply reply
    (then_some (not (is_present state args.a)) state)
    (then_some (is_present state args.a) (with_amount state args.a (amount_of state args.a - 1)))
    None
next Lookup args reply state = None

-- A lookup answers whether the value is there.
abbrev pub answer : Amounts → MultisetMethod → Args → ℕ
answer state Insert args = 0
answer state InsertPair args = 0
answer state Delete args = 0
answer state Lookup args = if is_present state args.a then 1 else 0

-- Slot i has its state (0 free, 1 reserved, 2 valid) in word 2i and its value in word 2i + 1. If it
-- is valid, it gives 1 to its value, and otherwise it gives nothing.
abbrev pub slot_parts : List ℕ → ℕ → List (ℕ × ℕ)
slot_parts words i =
    if slice_index words (2 * i) == 2 then (slice_index words (2 * i + 1), 1) ∷ [] else []

-- A valid slot has a value of its bucket: slot i is in bucket i / 4, where the values with that
-- remainder by the size belong.
abbrev pub is_sound_slot : ℕ → List ℕ → ℕ → Bool
is_sound_slot size words i =
    not (slice_index words (2 * i) == 2) || slice_index words (2 * i + 1) % size == i / 4

-- A bucket has 4 slots of 2 words, and a lock.
abbrev pub multiset : Structure MultisetMethod
multiset = record {
  name = codes "multiset";
  limits = is_within;
  methods = Insert ∷ InsertPair ∷ Delete ∷ Lookup ∷ [];
  called = called;
  arity = arity;
  takes = takes;
  commits = commits;
  next = next;
  answer = answer;
  plain_words = λ size. 8 * size;
  locks = λ size. size;
  parts = λ size words. flat_map (slot_parts words) (numbers_below (4 * size));
  is_sound = λ size words. list_all (is_sound_slot size words) (numbers_below (4 * size));
}
