-- A node is split, and the round that follows.
use Rattle.vyrd_tree.proofs.Prelude.{◌≡◌, ℕ, suc, ◌+◌, ◌-◌, ◌<◌, List, take, drop, arith, Header}
use Rattle.vyrd_tree.proofs.Prelude.{Kind, BlockOpen, Store, Mark, Script, perform, Task, Ascent}
use Rattle.vyrd_tree.proofs.Prelude.{Errand, count_cell, bound_cell, right_cell, unlock_node}
use Rattle.vyrd_tree.proofs.Prelude.{write_entries, write_node, first_key}
use Rattle.vyrd_tree.specs.declared.node.Node.{Node}
use Rattle.vyrd_tree.specs.declared.visit.Errand.TheVariants as errand
use Rattle.vyrd_tree.specs.declared.place.Full.{Full}
use Rattle.vyrd_tree.specs.declared.place.Need.TheVariants as need
use Rattle.vyrd_tree.specs.Rests.Errands.{round, after_split, close_for}
use Rattle.vyrd_tree.specs.Rests.Unused.{found_for}
use Rattle.vyrd_tree.proofs.Steps.Entry.{take_4}

-- the block of a split
abbrev parting : Header → Full → ℕ → List (ℕ × ℕ) → List (ℕ × ℕ) → ℕ → ℕ → Kind → Script → Script
parting h full new upper lower key word close later = perform (Mark BlockOpen)
    (write_node new full.level full.bound full.right upper
    (write_entries full.node.number full.place (drop full.place lower)
    (perform (Store (count_cell full.node.number) 3)
    (perform (Store (bound_cell full.node.number) key)
    (perform (Store (right_cell full.node.number) word)
    (perform (Mark close) (unlock_node h full.node.number later)))))))

pub parted : (h : Header) (task : Task) (full : Full) (new : ℕ) (upper lower : List (ℕ × ℕ))
    (key word : ℕ) (close : Kind) (later : Script)
    → take 2 upper ≡ drop 3 full.five → lower ≡ take 4 full.five
    → key ≡ first_key (drop 3 full.five) → word ≡ new → close ≡ close_for full.errand
    → later ≡ after_split h task full.errand key new
    → parting h full new (take 2 upper) (take 3 lower) key word close later ≡ found_for h task
    (need.Split full) new
parted h task full new upper lower key word close later is_upper is_lower is_key is_word closes
    follows = cc (take_4 3 full.five (omega arith))

pub next_up : (h : Header) (task : Task) (e : Errand) (a : Ascent) (key : ℕ) (new : Node)
    → e ≡ errand.Ascent a → a.level < 15
    → round h task (record { level = a.level + 1; key = key; node = new })
    ≡ after_split h task e key new.number
next_up h task e a key new is low =
    let left : 15 - a.level ≡ suc (15 - (a.level + 1)) = omega arith in
    cc
