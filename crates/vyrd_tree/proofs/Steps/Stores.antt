-- The stores of entries: what is left from a slot on.
use Rattle.vyrd_tree.proofs.Prelude.{get_or-take, length-take-le, Script, Slot, write_entries}
use Rattle.std.proofs.Common.{◌≡◌, ℕ, ◌+◌, ◌<◌, ◌≤◌, ◌∷◌, length, take, drop, ap, ◌∙◌, sym, arith}
use Rattle.std.specs.Prelude.{slice_index_or}
use Rattle.std.proofs.lemmas.List.{drop_more}
use Rattle.vyrd_tree.specs.declared.written.Written.{Written}
use Rattle.vyrd_tree.specs.Rests.Stores.{entries_from, key_from}

-- from a slot on, its entry comes first
pub from_slot : (w : Written) (slot : Slot) (place : ℕ) (later : Script) → length w.entries ≡ 4
    → slot.place ≡ place → slot.of ≡ w.count
    → key_from w slot later ≡ entries_from w place later
from_slot w slot place later long at of =
    ap (λ entries. write_entries w.node.number slot.place entries later) (sym first)
    ∙ ap (λ p. entries_from w p later) at
  where
    first : drop slot.place (take w.count w.entries)
        ≡ slice_index_or w.entries slot.place (0, 0) ∷ drop (slot.place + 1)
        (take w.count w.entries)
    first =
        let few : w.count ≤ 4 = w.few in
        let low : slot.place < w.count = omega (arith, slot.within, of) in
        let fits : slot.place < length (take w.count w.entries) =
        omega (arith, low, length-take-le w.count w.entries (omega (arith, few, long))) in
        drop_more (take w.count w.entries) slot.place (0, 0) fits
        ∙ ap (λ entry. entry ∷ drop (slot.place + 1) (take w.count w.entries))
        (get_or-take w.count w.entries slot.place (0, 0) low)
