-- When words stand for a state, and for which, of each subject.
use Rattle.vyrd_spec.proofs.Prelude.{◌≡◌, ℕ, ◌+◌, ◌≤◌, true, false, ◌++◌, List, length, Some, None}
use Rattle.vyrd_spec.proofs.Prelude.{ap, arith, replicate, option_map, is_built_in, Header, Subject}
use Rattle.vyrd_spec.proofs.Prelude.{plain_words, lock_words, Amounts, collected, showing, parts_of}
use Rattle.vyrd_spec.proofs.Prelude.{view_of_words, is_sound, state_of_words, start, low_size}
use Rattle.vyrd_base.proofs.StartLaws.{with_free_locks, zeroed_words}

-- words that aren't sound stand for no state
pub no_state : (h : Header) (subject : Subject) (words : List ℕ) → h.subject ≡ subject
    → length words ≡ plain_words h
    → is_sound subject h.size words ≡ false → None ≡ option_map showing
    (state_of_words h (words ++ replicate (lock_words h) 0))
no_state h subject words of many unsound = grind (arith, with_free_locks)

-- what the words of a subject show
shown : (h : Header) (subject : Subject) (words : List ℕ) → h.subject ≡ subject
    → view_of_words h words ≡ collected (parts_of subject h.size words)
unfolding view_of_words
shown h subject words of = ap (λ x. collected (parts_of x h.size words)) of

-- sound words stand for the state that they show
pub a_state : (h : Header) (subject : Subject) (words : List ℕ) (s : Amounts) → h.subject ≡ subject
    → length words ≡ plain_words h
    → is_sound subject h.size words ≡ true → s ≡ collected (parts_of subject h.size words)
    → Some (showing s) ≡ option_map showing (state_of_words h (words ++ replicate (lock_words h) 0))
a_state h subject words s of many sound is = grind (arith, with_free_locks, shown)

-- zeroed words, with all locks free, stand for the empty state
pub zeros_start : (h : Header)
    → option_map showing (state_of_words h (replicate (plain_words h + lock_words h) 0))
    ≡ Some start
zeros_start h = ap (option_map showing) (zeroed_words h)

-- a built-in subject's size is at most 1,024
pub few_parts : (h : Header) (size : ℕ) → size ≡ h.size → is_built_in h.subject ≡ true → size ≤ 1024
few_parts h size is built = omega (arith, is, low_size h built)
