-- The writes of a caller's block in the numbered log, entry by entry, back from a position and
-- ahead of it.
use Rattle.vyrd_witness.proofs.Prelude
use Prelude.{◌≡◌, ℕ, ◌+◌, ◌-◌, ◌<◌, ◌≤◌, true, cond, List, [], ◌∷◌, ◌++◌, length, map, Option, Some}
use Prelude.{None, slice_get, ap, ◌∙◌, sym, arith, append-nil, append_assoc, ◌⊎◌, ◌==◌, ◌≢◌}
use Prelude.{option_map, Kind, Return, Write, BlockOpen, BlockClose, BlockCommit, Entry}
use Prelude.{newest_first, with_write, block_writes, ahead_at, writes_ahead, other_writes}
use Prelude.{newest_first-push, is_same, isnt_same, Effect, numbered_kind, value_of, effect_of}
use Rattle.vyrd_witness.proofs.NumberedLaws.{behind, ahead, behind_next, ahead_here, ahead_end}
use Rattle.vyrd_witness.proofs.NumberedLaws.{value_here}

-- the writes of the block that the caller made before a position
abbrev pub back : List Entry → ℕ → ℕ → ℕ → List Effect
back log at c n = map (effect_of log at c) (block_writes c (behind log n))

-- those found so far, and those before a position
abbrev pub LooksBack : List Entry → ℕ → ℕ → List Effect → ℕ → Type 0
LooksBack log at c found n = back log at c at ≡ found ++ back log at c n

back_here : (log : List Entry) (at c n : ℕ) (e : Entry) → slice_get log n ≡ Some e
    → back log at c (n + 1) ≡ map (effect_of log at c)
    (with_write (e.caller == c) (numbered_kind n e.kind) (block_writes c (behind log n)))
back_here log at c n e here = cc (behind_next log n e here)

-- an entry further back
looks_back : (log : List Entry) (at c i n : ℕ) (found more own : List Effect) → i < at
    → n ≡ at - 1 - i → back log at c (n + 1) ≡ own ++ back log at c n → more ≡ found ++ own
    → LooksBack log at c found (at - i) → LooksBack log at c more (at - (i + 1))
looks_back log at c i n found more own low place step push so = search (append_assoc, arith)

pub back_write : (log : List Entry) (at c i n word value : ℕ) (e : Entry)
    (found more : List Effect) → i < at → n ≡ at - 1 - i → slice_get log n ≡ Some e
    → e.caller ≡ c → e.kind ≡ Write word value
    → more ≡ found ++ record { written = n; at = at; caller = c; word = word; value = value } ∷ []
    → LooksBack log at c found (at - i) → LooksBack log at c more (at - (i + 1))
back_write log at c i n word value e found more low place here same is push so =
    looks_back log at c i n found more
    (record { written = n; at = at; caller = c; word = word; value = value } ∷ []) low place
    (back_here log at c n e here
    ∙ (λ j. map (effect_of log at c) (with_write (is_same e.caller c same j)
    (numbered_kind n (is j)) (block_writes c (behind log n))))
    ∙ ap (λ v. record { written = n; at = at; caller = c; word = word; value = v }
    ∷ back log at c n) (value_here log n e here ∙ ap value_of is)) push so

pub back_other : (log : List Entry) (at c i n : ℕ) (e : Entry) (found more : List Effect)
    → i < at → n ≡ at - 1 - i → slice_get log n ≡ Some e → e.caller ≢ c → more ≡ found
    → LooksBack log at c found (at - i) → LooksBack log at c more (at - (i + 1))
back_other log at c i n e found more low place here other push so =
    looks_back log at c i n found more [] low place
    (ap (λ es. map (effect_of log at c) (block_writes c es)) (behind_next log n e here)
    ∙ ap (map (effect_of log at c)) (other_writes c e.caller (numbered_kind n e.kind)
    (behind log n) (isnt_same e.caller c other))) (push ∙ sym (append-nil found)) so

quiet_with : (n : ℕ) (kind : Kind) (ws : List (ℕ × ℕ))
    → ((word value : ℕ) → kind ≡ Write word value → ⊥) → (kind ≡ BlockOpen → ⊥)
    → with_write true (numbered_kind n kind) ws ≡ ws
quiet_with n kind ws write opens = grind (arith, opens)

pub back_quiet : (log : List Entry) (at c i n : ℕ) (e : Entry) (found more : List Effect)
    → i < at → n ≡ at - 1 - i → slice_get log n ≡ Some e → e.caller ≡ c
    → ((word value : ℕ) → e.kind ≡ Write word value → ⊥) → (e.kind ≡ BlockOpen → ⊥)
    → more ≡ found → LooksBack log at c found (at - i) → LooksBack log at c more (at - (i + 1))
back_quiet log at c i n e found more low place here same write opens push so =
    looks_back log at c i n found more [] low place (back_here log at c n e here
    ∙ ap (λ b. map (effect_of log at c)
    (with_write b (numbered_kind n e.kind) (block_writes c (behind log n))))
    (is_same e.caller c same)
    ∙ ap (map (effect_of log at c)) (quiet_with n e.kind (block_writes c (behind log n))
    write opens)) (push ∙ sym (append-nil found)) so

-- at the open there are no more
pub back_open : (log : List Entry) (at c i n : ℕ) (e : Entry) (found : List Effect) → i < at
    → n ≡ at - 1 - i → slice_get log n ≡ Some e → e.caller ≡ c → e.kind ≡ BlockOpen
    → LooksBack log at c found (at - i) → found ≡ back log at c at
back_open log at c i n e found low place here same is so =
    grind (arith, back_here log at c n e here, append-nil found)

-- those found, with those that come from a position on, if the block ends
abbrev pub found_ahead : List Entry → ℕ → ℕ → List Effect → ℕ → Option (List Effect)
found_ahead log at c found n =
    option_map (λ ws. found ++ map (effect_of log at c) (newest_first ws))
    (writes_ahead c (ahead log n))

ahead_with : (log : List Entry) (at c n : ℕ) (e : Entry) (found : List Effect)
    → slice_get log n ≡ Some e
    → found_ahead log at c found n
    ≡ option_map (λ ws. found ++ map (effect_of log at c) (newest_first ws))
    (cond (e.caller == c) (ahead_at (numbered_kind n e.kind) (writes_ahead c (ahead log (n + 1))))
    (writes_ahead c (ahead log (n + 1))))
ahead_with log at c n e found here = grind (arith, found, here, ahead_here)

pub ahead_other : (log : List Entry) (at c n : ℕ) (e : Entry) (found more : List Effect)
    → slice_get log n ≡ Some e → e.caller ≢ c → more ≡ found
    → found_ahead log at c found n ≡ found_ahead log at c more (n + 1)
ahead_other log at c n e found more here other push =
    grind (arith, ahead_with log at c n e found here, isnt_same e.caller c other)

-- the caller's own entry
ahead_own : (log : List Entry) (at c n : ℕ) (e : Entry) (found : List Effect)
    → slice_get log n ≡ Some e → e.caller ≡ c
    → found_ahead log at c found n
    ≡ option_map (λ ws. found ++ map (effect_of log at c) (newest_first ws))
    (ahead_at (numbered_kind n e.kind) (writes_ahead c (ahead log (n + 1))))
ahead_own log at c n e found here same =
    cc (ahead_with log at c n e found here, is_same e.caller c same)

quiet_ahead : (n : ℕ) (kind : Kind) (o : Option (List (ℕ × ℕ)))
    → ((word value : ℕ) → kind ≡ Write word value → ⊥) → ((reply : ℕ) → kind ≡ Return reply → ⊥)
    → (kind ≡ BlockClose → ⊥) → (kind ≡ BlockCommit → ⊥)
    → ahead_at (numbered_kind n kind) o ≡ o
quiet_ahead n kind o write returns closes commits = grind arith

pub ahead_quiet : (log : List Entry) (at c n : ℕ) (e : Entry) (found more : List Effect)
    → slice_get log n ≡ Some e → e.caller ≡ c
    → ((word value : ℕ) → e.kind ≡ Write word value → ⊥)
    → ((reply : ℕ) → e.kind ≡ Return reply → ⊥) → (e.kind ≡ BlockClose → ⊥)
    → (e.kind ≡ BlockCommit → ⊥) → more ≡ found
    → found_ahead log at c found n ≡ found_ahead log at c more (n + 1)
ahead_quiet log at c n e found more here same write returns closes commits push =
    ahead_own log at c n e found here same
    ∙ ap (option_map (λ ws. found ++ map (effect_of log at c) (newest_first ws)))
    (quiet_ahead n e.kind (writes_ahead c (ahead log (n + 1))) write returns closes commits)
    ∙ ap (λ found. found_ahead log at c found (n + 1)) (sym push)

one_ahead : (log : List Entry) (at c n word : ℕ) (found : List Effect)
    (o : Option (List (ℕ × ℕ)))
    → option_map (λ ws. found ++ map (effect_of log at c) (newest_first ws))
    (option_map (λ ws. ws ++ (word, n) ∷ []) o)
    ≡ option_map (λ ws. (found ++ effect_of log at c (word, n) ∷ [])
    ++ map (effect_of log at c) (newest_first ws)) o
one_ahead log at c n word found o = grind (arith, found, newest_first-push, append_assoc)

pub ahead_write : (log : List Entry) (at c n word value : ℕ) (e : Entry)
    (found more : List Effect) → slice_get log n ≡ Some e → e.caller ≡ c
    → e.kind ≡ Write word value
    → more ≡ found ++ record { written = n; at = at; caller = c; word = word; value = value } ∷ []
    → found_ahead log at c found n ≡ found_ahead log at c more (n + 1)
ahead_write log at c n word value e found more here same is push =
    grind (
      arith,
      ahead_own log at c n e found here same,
      one_ahead log at c n word found
          (writes_ahead c (ahead log (n + 1))),
      value_here log n e here,
    )

-- the end of the block, and what leaves it open
pub ahead_done : (log : List Entry) (at c n : ℕ) (e : Entry) (found : List Effect)
    → slice_get log n ≡ Some e → e.caller ≡ c → (e.kind ≡ BlockClose) ⊎ (e.kind ≡ BlockCommit)
    → found_ahead log at c found n ≡ Some found
ahead_done log at c n e found here same ends =
    cc (ahead_own log at c n e found here same, by_kind ends, append-nil found)
  where
    by_kind : (e.kind ≡ BlockClose) ⊎ (e.kind ≡ BlockCommit)
        → ahead_at (numbered_kind n e.kind) (writes_ahead c (ahead log (n + 1))) ≡ Some []
    by_kind e0 = search arith

none_of : {A B : Type 0} (f : A → B) (o : Option A) → option_map f o ≡ None → o ≡ None
none_of f o is = search arith

pub ahead_returns : (log : List Entry) (at c n reply : ℕ) (e : Entry) (old found : List Effect)
    → slice_get log n ≡ Some e → e.caller ≡ c → e.kind ≡ Return reply
    → found_ahead log at c old (at + 1) ≡ found_ahead log at c found n
    → writes_ahead c (ahead log (at + 1)) ≡ None
ahead_returns log at c n reply e old found here same is so =
    none_of (λ ws. old ++ map (effect_of log at c) (newest_first ws))
    (writes_ahead c (ahead log (at + 1)))
    (cc (ahead_own log at c n e found here same))

pub ahead_past : (log : List Entry) (at c n : ℕ) (old found : List Effect) → length log ≤ n
    → found_ahead log at c old (at + 1) ≡ found_ahead log at c found n
    → writes_ahead c (ahead log (at + 1)) ≡ None
ahead_past log at c n old found past so = grind (arith, found, past, none_of, ahead_end)
