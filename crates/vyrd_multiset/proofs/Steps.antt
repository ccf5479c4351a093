-- What a step needs: what holds at a place, and the next slot that is looked at.
use Rattle.std.proofs.Common.{◌≡◌, ◌≢◌, ℕ, suc, ◌+◌, ◌-◌, Option, subst, arith}
use Rattle.vyrd_base.specs.declared.header.Header.{Header}
use Rattle.vyrd_base.proofs.TestLaws.{isnt_same}
use Rattle.vyrd_memory.specs.declared.op.Variant.{Variant}
use Rattle.vyrd_memory.specs.Scripts.{Script, after_answer}
use Rattle.vyrd_memory.specs.Soundness.{IsSoundSomewhere}
use Rattle.vyrd_multiset.specs.declared.place.Place.{Place}
use Rattle.vyrd_multiset.specs.declared.place.Cursor.{Cursor}
use Rattle.vyrd_multiset.specs.declared.place.Finding.{Finding}
use Rattle.vyrd_multiset.specs.declared.place.Finding.TheVariants as finding
use Rattle.vyrd_multiset.specs.declared.task.Task.{Task}
use Rattle.vyrd_multiset.specs.Cells.{bucket_of}
use Rattle.vyrd_multiset.specs.Procedures.{find_from, find_unlock, search_from}
use Rattle.vyrd_multiset.specs.Rests.{finding_rest, rest_at}

-- what is sound at a place is sound at the same place
pub sound_at : (h : Header) (task : Task) (p q : Place) → p ≡ q
    → IsSoundSomewhere h (rest_at h task p) → IsSoundSomewhere h (rest_at h task q)
sound_at h task p q e sound = subst (λ place. IsSoundSomewhere h (rest_at h task place)) e sound

one_fewer : (a b : ℕ) → b ≢ 0 → a ≡ b - 1 → suc a ≡ b
one_fewer a b some e = omega arith

-- the search goes on at the next slot
pub search_next : (cursor : Cursor) (a s x : ℕ) (ended : Option ℕ → Script) → cursor.after ≢ 0
    → a ≡ cursor.after - 1 → s ≡ cursor.slot + 1
    → search_from (suc a) s x ended ≡ search_from cursor.after (cursor.slot + 1) x ended
search_next cursor a s x ended some fewer next = grind (arith, ended, fewer, one_fewer)

-- where the slot isn't free, it is looked at the next one
pub find_next : (h : Header) (variant : Variant) (value : ℕ) (found : Option ℕ → Script)
    (place : Finding) (cursor : Cursor) (a s answer : ℕ)
    → place ≡ finding.Load cursor → answer ≢ 0 → cursor.after ≢ 0 → a ≡ cursor.after - 1
    → s ≡ cursor.slot + 1
    → find_from (suc a) s value (λ slot. find_unlock h variant (bucket_of h value) (found slot))
    ≡ after_answer (finding_rest h variant value found place) answer
find_next h variant value found place cursor a s answer at taken some fewer next =
    grind (arith, found, taken, fewer, one_fewer, isnt_same)
