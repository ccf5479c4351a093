-- How many starting words may come in further bytes.
use Rattle.vyrd_text.proofs.Prelude
use Prelude.{◌≡◌, ℕ, ◌+◌, ◌≤◌, Bool, true, cond, List, [], ◌∷◌, ◌++◌, Option, Some, None, refl, ap}
use Prelude.{◌∙◌, arith, ◌==◌, slice_split, Header, StartWord, start_in, TextFault, cut, lacks}
use Prelude.{split_at, split_whole, start_in_sound, Longer, split_longer, first_true, second_true}
use Rattle.std.specs.List.{onto_first}
use Rattle.std.proofs.lemmas.Bool.{not-true}
use Rattle.vyrd_text.specs.Ahead.{begins_start, front_starts, after_first, starts_in_lines}

-- a text has at least one part
pub parts_of : (xs : List ℕ) → (next : List ℕ) × (lines : List (List ℕ))
    × (slice_split (λ b. b == 10) xs ≡ next ∷ lines)
parts_of xs = by_parts (slice_split (λ b. b == 10) xs) refl (split_longer (λ b. b == 10) [] xs)
  where
    by_parts : (ps : List (List ℕ)) → slice_split (λ b. b == 10) xs ≡ ps → Longer ([] ∷ []) ps
        → (next : List ℕ) × (lines : List (List ℕ)) × (slice_split (λ b. b == 10) xs ≡ next ∷ lines)
    by_parts ps e h = search arith

-- one line more, which counts where it begins as a starting line
pub front_step : (line more : List ℕ) → lacks 10 line ≡ true
    → front_starts (cut (line ++ 10 ∷ more)) ≡ cond (begins_start line)
    (1 + front_starts (cut more)) 0
front_step line more lack = cc (split_at 10 line more lack, (parts_of more).2)

-- a starting line begins with its first letter, and so it counts
pub one_start_more : (line more : List ℕ) (s : StartWord) → lacks 10 line ≡ true → start_in line
    ≡ Some s
    → front_starts (cut (line ++ 10 ∷ more)) ≡ 1 + front_starts (cut more)
one_start_more line more s lack is = cc (front_step line more lack, (start_in_sound line s is).0)

-- an unfinished line doesn't count
pub front_last : (text : List ℕ) → lacks 10 text ≡ true → front_starts (cut text) ≡ 0
front_last text lack = ap front_starts (split_whole 10 text lack)

-- the lines after the first
pub later_step : (line more : List ℕ) → lacks 10 line ≡ true
    → front_starts (after_first (cut (line ++ 10 ∷ more))) ≡ front_starts (cut more)
later_step line more lack = ap (λ ps. front_starts (after_first ps)) (split_at 10 line more lack)

pub later_last : (text : List ℕ) → lacks 10 text ≡ true → front_starts (after_first (cut text)) ≡ 0
later_last text lack = ap (λ ps. front_starts (after_first ps)) (split_whole 10 text lack)

after_onto : (x : ℕ) (ps : List (List ℕ)) → after_first (onto_first x ps) ≡ after_first ps
after_onto x ps = search arith

-- they are the same, whatever more stands in the first line
after_same : (xs text : List ℕ) → lacks 10 xs ≡ true → after_first (cut (xs ++ text))
    ≡ after_first (cut text)
after_same [] text lack = refl
after_same (x ∷ xs) text lack =
    ap (λ b. after_first (cond b ([] ∷ cut (xs ++ text)) (onto_first x (cut (xs ++ text)))))
    (not-true (x == 10) (first_true _ _ lack))
    ∙ after_onto x (cut (xs ++ text)) ∙ after_same xs text (second_true _ _ lack)

-- the first line counts for one at most
front_cap : (lines : List (List ℕ)) → front_starts lines ≤ 1 + front_starts (after_first lines)
front_cap lines = grind arith

pub ahead_first : (fault : Option TextFault) (o : Option Header) (starting : Bool)
    (xs text : List ℕ) → o ≡ None → lacks 10 xs ≡ true
    → starts_in_lines fault o starting (cut (xs ++ text)) ≤ front_starts (after_first (cut text))
ahead_first fault o starting xs text e lack = grind (arith, starting, after_same)

-- how many may come in lines, where some may come
ahead_some : (fault : Option TextFault) (o : Option Header) (h : Header) (starting : Bool)
    (lines : List (List ℕ)) → o ≡ Some h
    → starts_in_lines fault o starting lines ≤ front_starts lines
ahead_some fault o h starting lines e = grind (arith, starting)

pub ahead_begun : (fault : Option TextFault) (o : Option Header) (h : Header) (starting : Bool)
    (xs text : List ℕ) → o ≡ Some h → lacks 10 xs ≡ true
    → starts_in_lines fault o starting (cut (xs ++ text)) ≤ 1 + front_starts
    (after_first (cut text))
ahead_begun fault o h starting xs text e lack = search (after_same, ahead_some, front_cap, arith)
