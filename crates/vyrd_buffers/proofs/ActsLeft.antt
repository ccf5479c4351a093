-- At each place but the last an act is left.
use Rattle.std.proofs.Common.{◌≡◌, ℕ, zero, suc, ◌-◌, false, List, [], ◌∷◌, refl}
use Rattle.std.specs.Prelude.{◌≢◌}
use Rattle.vyrd_base.specs.declared.header.Header.{Header}
use Rattle.vyrd_memory.specs.Scripts.{Script, next_act}
use Rattle.vyrd_memory.specs.Turns.{is_done}
use Rattle.vyrd_buffers.specs.declared.place.Place.{Place}
use Rattle.vyrd_buffers.specs.declared.place.Place.TheVariants.{Look, Append, Change, Read, Count}
use Rattle.vyrd_buffers.specs.declared.place.Place.TheVariants.{Join, Commit, Unlock, Return, Over}
use Rattle.vyrd_buffers.specs.declared.place.Looking.{Looking}
use Rattle.vyrd_buffers.specs.declared.place.Looking.TheVariants as looking
use Rattle.vyrd_buffers.specs.declared.place.Appending.{Appending}
use Rattle.vyrd_buffers.specs.declared.place.Appending.TheVariants as appending
use Rattle.vyrd_buffers.specs.declared.place.Changing.{Changing}
use Rattle.vyrd_buffers.specs.declared.place.Changing.TheVariants as changing
use Rattle.vyrd_buffers.specs.declared.place.Counting.{Counting}
use Rattle.vyrd_buffers.specs.declared.place.Counting.TheVariants as counting
use Rattle.vyrd_buffers.specs.declared.place.Joining.{Joining}
use Rattle.vyrd_buffers.specs.declared.place.Joining.TheVariants as joining
use Rattle.vyrd_buffers.specs.declared.task.Task.{Task}
use Rattle.vyrd_buffers.specs.Procedures.{load_from, store_from, read_from}
use Rattle.vyrd_buffers.specs.Rests.{looking_rest, appending_rest, changing_rest}
use Rattle.vyrd_buffers.specs.Rests.{counting_rest, joining_rest, rest_at}

-- with no character left to read the buffer is unlocked
reading : (h : Header) (left b i text : ℕ) → is_done (next_act (read_from h left b i text)) ≡ false
reading h zero b i text = refl
reading h (suc left) b i text = refl

-- where an act follows the characters, one is left before them
loading : (left s i : ℕ) (held : List ℕ) (loaded : List ℕ → Script)
    → ((all : List ℕ) → is_done (next_act (loaded all)) ≡ false)
    → is_done (next_act (load_from left s i held loaded)) ≡ false
loading zero s i held loaded follows = follows held
loading (suc left) s i held loaded follows = refl

storing : (characters : List ℕ) (b i : ℕ) (later : Script) → is_done (next_act later) ≡ false
    → is_done (next_act (store_from characters b i later)) ≡ false
storing [] b i later follows = follows
storing (character ∷ characters) b i later follows = refl

at_looking : (h : Header) (b : ℕ) (counted : ℕ → Script) (place : Looking)
    → is_done (next_act (looking_rest h b counted place)) ≡ false
at_looking h b counted looking.Lock = refl
at_looking h b counted looking.Load = refl

at_appending : (h : Header) (task : Task) (count : ℕ) (place : Appending)
    → is_done (next_act (appending_rest h task count place)) ≡ false
at_appending h task count appending.Open = refl
at_appending h task count appending.Store = refl

at_changing : (h : Header) (b count : ℕ) (place : Changing)
    → is_done (next_act (changing_rest h b count place)) ≡ false
at_changing h b count changing.Open = refl
at_changing h b count changing.Store = refl
at_changing h b count changing.Close = refl

at_counting : (h : Header) (task : Task) (place : Counting)
    → is_done (next_act (counting_rest h task place)) ≡ false
at_counting h task counting.LockFirst = refl
at_counting h task counting.LockOther = refl
at_counting h task counting.LoadCount = refl
at_counting h task (counting.LoadMore count) = refl
at_counting h task counting.LockMore = refl
at_counting h task counting.LoadMoreAlone = refl
at_counting h task (counting.UnlockMore more) = refl
at_counting h task (counting.LockCount more) = refl
at_counting h task (counting.LoadCountAlone more) = refl

at_joining : (h : Header) (task : Task) (place : Joining)
    → is_done (next_act (joining_rest h task place)) ≡ false
at_joining h task (joining.Load count held) = simp (loading, held, count)
at_joining h task (joining.Store count held stored) = simp (storing, held, count)
at_joining h task joining.Close = refl
at_joining h task joining.Refuse = refl
at_joining h task (joining.UnlockOther reply) = refl
at_joining h task (joining.Unlock reply) = refl

pub act_is_left : (h : Header) (task : Task) (place : Place) → place ≢ Over
    → is_done (next_act (rest_at h task place)) ≡ false
act_is_left h task (Look purpose place) isnt = simp (at_looking)
act_is_left h task (Append count place) isnt = at_appending h task count place
act_is_left h task (Change count place) isnt = at_changing h task.b count place
act_is_left h task (Read text) isnt = reading h (text.of - text.read) task.b text.read text.number
act_is_left h task (Count place) isnt = at_counting h task place
act_is_left h task (Join place) isnt = at_joining h task place
act_is_left h task (Commit reply) isnt = refl
act_is_left h task (Unlock reply) isnt = refl
act_is_left h task (Return reply) isnt = refl
act_is_left h task Over isnt = absurd (isnt refl)
