-- What is left of a procedure at each place: a part of the procedure, with what follows.
use Rattle.std.specs.Prelude.{ℕ, suc, ◌+◌, Option, Some}
use Rattle.vyrd_base.specs.declared.header.Header.{Header}
use Rattle.vyrd_base.specs.declared.log.Kind.TheVariants.{Commit, BlockCommit}
use Rattle.vyrd_memory.specs.declared.act.Act.TheVariants.{Store, Mark}
use Rattle.vyrd_memory.specs.declared.op.Variant.{Variant}
use Rattle.vyrd_memory.specs.Scripts.{Script, stop, perform, returns, gives_up}
use Rattle.vyrd_multiset.specs.declared.place.Place.{Place}
use Rattle.vyrd_multiset.specs.declared.place.Place.TheVariants.{Find, Search, Insert, Change, Both}
use Rattle.vyrd_multiset.specs.declared.place.Place.TheVariants.{Undo, Absent, GiveUp, Unlock}
use Rattle.vyrd_multiset.specs.declared.place.Place.TheVariants.{Return, Over}
use Rattle.vyrd_multiset.specs.declared.place.Want.{Want}
use Rattle.vyrd_multiset.specs.declared.place.Want.TheVariants.{Only, First, Second}
use Rattle.vyrd_multiset.specs.declared.place.Query.{Query}
use Rattle.vyrd_multiset.specs.declared.place.Query.TheVariants.{Delete, Lookup}
use Rattle.vyrd_multiset.specs.declared.place.Finding.{Finding}
use Rattle.vyrd_multiset.specs.declared.place.Finding.TheVariants as finding
use Rattle.vyrd_multiset.specs.declared.place.Searching.{Searching}
use Rattle.vyrd_multiset.specs.declared.place.Searching.TheVariants as searching
use Rattle.vyrd_multiset.specs.declared.place.Changing.{Changing}
use Rattle.vyrd_multiset.specs.declared.place.Changing.TheVariants as changing
use Rattle.vyrd_multiset.specs.declared.place.Pairing.{Pairing}
use Rattle.vyrd_multiset.specs.declared.place.Pairing.TheVariants as pairing
use Rattle.vyrd_multiset.specs.declared.place.Undoing.{Undoing}
use Rattle.vyrd_multiset.specs.declared.place.Undoing.TheVariants as undoing
use Rattle.vyrd_multiset.specs.declared.task.Task.{Task}
use Rattle.vyrd_multiset.specs.declared.progress.MultisetProgress.{MultisetProgress}
use Rattle.vyrd_multiset.specs.Cells.{bucket_of, first_slot, state_cell, lock, unlock}
use Rattle.vyrd_multiset.specs.Procedures.{reserve, find_from, find_unlock, commit_state, inserted}
use Rattle.vyrd_multiset.specs.Procedures.{first_bucket, second_bucket, unlock_both, validate_both}
use Rattle.vyrd_multiset.specs.Procedures.{commit_both, undo, second_found, first_found, compare}
use Rattle.vyrd_multiset.specs.Procedures.{search_from, search_in, deleted, looked_up}

-- the value for which a slot is wanted
abbrev pub wanted : Task → Want → ℕ
wanted task Only = task.x
wanted task First = task.x
wanted task (Second slot) = task.y

-- what is done with the slot that was found
abbrev pub found_for : Header → Task → Want → Option ℕ → Script
found_for h task Only = inserted h task.x
found_for h task First = first_found h task.variant task.x task.y
found_for h task (Second slot) = second_found h task.variant task.x task.y slot

-- what is done with the slot at which a search ended
abbrev pub ended_for : Header → Task → Query → Option ℕ → Script
ended_for h task Delete slot = deleted h task.x slot
ended_for h task Lookup slot = looked_up h task.x slot

-- what is left of finding a slot for a value
abbrev pub finding_rest : Header → Variant → ℕ → (Option ℕ → Script) → Finding → Script
finding_rest h variant value found finding.Lock = lock h (bucket_of h value)
    (find_from 4 (first_slot (bucket_of h value)) value
    (λ slot. find_unlock h variant (bucket_of h value) (found slot)))
finding_rest h variant value found (finding.Load cursor) =
    find_from (suc cursor.after) cursor.slot value
    (λ slot. find_unlock h variant (bucket_of h value) (found slot))
finding_rest h variant value found (finding.StoreValue slot) =
    reserve slot value (find_unlock h variant (bucket_of h value) (found (Some slot)))
finding_rest h variant value found (finding.StoreState slot) =
    perform (Store (state_cell slot) 1)
    (find_unlock h variant (bucket_of h value) (found (Some slot)))
finding_rest h variant value found (finding.Unlock slot) = unlock h (bucket_of h value) (found slot)

-- what is left of a search
abbrev pub searching_rest : Header → ℕ → (Option ℕ → Script) → Searching → Script
searching_rest h x ended searching.Lock = search_in h x ended
searching_rest h x ended (searching.LoadState cursor) =
    search_from (suc cursor.after) cursor.slot x ended
searching_rest h x ended (searching.LoadValue cursor) = compare cursor.slot x
    (ended (Some cursor.slot)) (search_from cursor.after (cursor.slot + 1) x ended)

-- what is left of changing a slot
abbrev pub changing_rest : Header → ℕ → ℕ → ℕ → Changing → Script
changing_rest h bucket slot state changing.Open = commit_state h bucket slot state
changing_rest h bucket slot state changing.Store =
    perform (Store (state_cell slot) state)
    (perform (Mark BlockCommit) (unlock h bucket (returns 1)))
changing_rest h bucket slot state changing.Close =
    perform (Mark BlockCommit) (unlock h bucket (returns 1))

-- what is left of making two slots valid, under the locks of two buckets
abbrev pub pairing_rest : Header → ℕ → ℕ → ℕ → ℕ → Pairing → Script
pairing_rest h first second slot_x slot_y pairing.Lock = commit_both h first second slot_x slot_y
pairing_rest h first second slot_x slot_y pairing.LockOther =
    lock h second (validate_both h first second slot_x slot_y)
pairing_rest h first second slot_x slot_y pairing.Open = validate_both h first second slot_x slot_y
pairing_rest h first second slot_x slot_y pairing.StoreFirst =
    perform (Store (state_cell slot_x) 2)
    (perform (Store (state_cell slot_y) 2)
    (perform (Mark BlockCommit) (unlock_both h first second)))
pairing_rest h first second slot_x slot_y pairing.StoreSecond =
    perform (Store (state_cell slot_y) 2) (perform (Mark BlockCommit) (unlock_both h first second))
pairing_rest h first second slot_x slot_y pairing.Close =
    perform (Mark BlockCommit) (unlock_both h first second)
pairing_rest h first second slot_x slot_y pairing.UnlockOther =
    unlock h second (unlock h first (returns 1))
pairing_rest h first second slot_x slot_y pairing.Unlock = unlock h first (returns 1)

-- what is left of freeing a reserved slot
abbrev pub undoing_rest : Header → ℕ → ℕ → Undoing → Script
undoing_rest h x slot undoing.Lock = undo h x slot
undoing_rest h x slot undoing.Store =
    perform (Store (state_cell slot) 0) (unlock h (bucket_of h x) gives_up)
undoing_rest h x slot undoing.Unlock = unlock h (bucket_of h x) gives_up

-- the bucket that is locked first for a pair
abbrev pub first_of : Header → Task → ℕ
first_of h task = first_bucket task.variant (bucket_of h task.x) (bucket_of h task.y)

-- the bucket that is locked second, if it is another one
abbrev pub second_of : Header → Task → ℕ
second_of h task = second_bucket task.variant (bucket_of h task.x) (bucket_of h task.y)

-- what is left at a place
abbrev pub rest_at : Header → Task → Place → Script
rest_at h task (Find want place) =
    finding_rest h task.variant (wanted task want) (found_for h task want) place
rest_at h task (Search query place) = searching_rest h task.x (ended_for h task query) place
rest_at h task (Insert slot) = inserted h task.x (Some slot)
rest_at h task (Change slot state place) = changing_rest h (bucket_of h task.x) slot state place
rest_at h task (Both slot_x slot_y place) =
    pairing_rest h (first_of h task) (second_of h task) slot_x slot_y place
rest_at h task (Undo slot place) = undoing_rest h task.x slot place
rest_at h task Absent = perform (Mark Commit) (unlock h (bucket_of h task.x) (returns 0))
rest_at h task GiveUp = gives_up
rest_at h task (Unlock reply) = unlock h (bucket_of h task.x) (returns reply)
rest_at h task (Return reply) = returns reply
rest_at h task Over = stop

-- what is left of an operation
abbrev pub rest_of : Header → MultisetProgress → Script
rest_of h progress = rest_at h progress.task progress.place
