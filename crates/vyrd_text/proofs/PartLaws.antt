-- A line has one reading: its parts are what stands between its spaces.
use Rattle.vyrd_text.proofs.Prelude
use Prelude.{◌≡◌, ℕ, ◌<◌, ◌^◌, true, List, ◌∷◌, ◌++◌, Option, Some, None, refl, ap, sym, ◌∙◌, arith}
use Prelude.{◌==◌, codes, decimal, slice_split, append_cancel_left, decimal_injective, Subject}
use Prelude.{Entry, entry_line, is_entry_of, entry_in, split_at, no_space, entry_in-entry_line}
use Prelude.{both_true, first_true, second_true, below_of, is_below}
use Rattle.vyrd_base.specs.declared.log.Kind.{Kind}
use Rattle.vyrd_base.proofs.SplitLaws.{decimal_lacks}
use Rattle.vyrd_base.proofs.ReadingSound.{entry_in_sound}
use Rattle.vyrd_text.specs.Spelled.{kind_text, AreArgsRead, IsCallRead, IsKindRead}

-- the number before a space and what follows the space are one
pub one_before_space : (m n : ℕ) (r s : List ℕ) → m < 2 ^ 64 → n < 2 ^ 64 → decimal m ++ 32 ∷ r
    ≡ decimal n ++ 32 ∷ s → (m ≡ n) × (r ≡ s)
one_before_space m n r s low small e =
    let parts : decimal m ∷ slice_split (λ b. b == 32) r ≡ decimal n ∷ slice_split
    (λ b. b == 32) s = sym (split_at _ _ r (decimal_lacks _ m no_space low)) ∙ ap (slice_split _) e
    ∙ split_at _ _ s (decimal_lacks _ n no_space small) in
    let same : decimal m ≡ decimal n = cc in
    let tails : 32 ∷ r ≡ 32 ∷ s = append_cancel_left (decimal m) _ _ (cc) in
    (decimal_injective m n low small same, cc)

-- a word before a space that no value follows isn't a write
pub no_value : (text : List ℕ) (w : ℕ) (r : List ℕ) → w < 2 ^ 64 → text ≡ decimal w ++ 32 ∷ r
    → ((n : ℕ) → n < 2 ^ 64 → r ≡ decimal n → ⊥)
    → (subject : Subject) → IsKindRead subject (codes "write " ++ text) None
no_value text w r low e none subject = search
    (below_of, first_true, second_true, one_before_space, arith)

-- nor is a word before what no call spells a call
pub no_call : (subject : Subject) (text : List ℕ) → IsCallRead subject text None
    → IsKindRead subject (codes "call " ++ text) None
no_call subject text none = grind (arith, first_true, second_true, below_of)

-- one number before a space and no number after it are not two arguments
pub no_second : (text : List ℕ) (m : ℕ) (r : List ℕ) → m < 2 ^ 64 → text ≡ decimal m ++ 32 ∷ r
    → ((n : ℕ) → n < 2 ^ 32 → r ≡ decimal n → ⊥) → AreArgsRead 2 text None
no_second text m r low e none args padded a b c f = search (one_before_space, arith)

-- nor three
pub no_middle : (text : List ℕ) (m : ℕ) (r : List ℕ) → m < 2 ^ 64 → text ≡ decimal m ++ 32 ∷ r
    → ((n : ℕ) (s : List ℕ) → n < 2 ^ 32 → r ≡ decimal n ++ 32 ∷ s → ⊥) → AreArgsRead 3 text None
no_middle text m r low e none args padded a b c f = search (one_before_space, arith)

pub no_third : (text : List ℕ) (m n : ℕ) (r s : List ℕ) → m < 2 ^ 64 → n < 2 ^ 64 → text ≡ decimal m
    ++ 32 ∷ r
    → r ≡ decimal n ++ 32 ∷ s → ((k : ℕ) → k < 2 ^ 32 → s ≡ decimal k → ⊥) → AreArgsRead 3 text None
no_third text m n r s low small e f none = search (one_before_space, arith)

-- an entry's line is its caller, a space and what it says
pub entry_line_is : (caller : ℕ) (kind : Kind)
    → entry_line (record { caller = caller; kind = kind }) ≡ decimal caller ++ 32 ∷ kind_text kind
entry_line_is caller kind = grind arith

-- a line that isn't an entry's
pub no_entry : (subject : Subject) (line : List ℕ)
    → ((e : Entry) → is_entry_of subject e ≡ true → line ≡ entry_line e → ⊥)
    → None ≡ entry_in subject line
no_entry subject line none = by_answer (entry_in subject line) refl
  where
    by_answer : (o : Option Entry) → entry_in subject line ≡ o → None ≡ o
    by_answer None e = refl
    by_answer (Some x) e = let is = entry_in_sound subject line x e in absurd (none x is.1 is.0)

-- a line without a number before a space
pub no_caller : (subject : Subject) (line : List ℕ)
    → ((n : ℕ) (rest : List ℕ) → n < 2 ^ 32 → line ≡ decimal n ++ 32 ∷ rest → ⊥)
    → None ≡ entry_in subject line
no_caller subject line none = grind (arith, no_entry, below_of, first_true, entry_line_is)

-- a line that says nothing after its caller
pub no_kind : (subject : Subject) (line : List ℕ) (caller : ℕ) (rest : List ℕ) → caller < 2 ^ 64
    → line ≡ decimal caller ++ 32 ∷ rest → IsKindRead subject rest None
    → None ≡ entry_in subject line
no_kind subject line caller rest low is none = search
    (no_entry, below_of, first_true, one_before_space, entry_line_is, second_true, arith)

-- a line that is an entry's
pub entry_read : (subject : Subject) (line : List ℕ) (caller : ℕ) (kind : Kind) (rest : List ℕ)
    → caller < 2 ^ 32
    → line ≡ decimal caller ++ 32 ∷ rest → IsKindRead subject rest (Some kind)
    → Some (record { caller = caller; kind = kind }) ≡ entry_in subject line
entry_read subject line caller kind rest low is read =
    let entry : Entry = record { caller = caller; kind = kind } in
    let same : line ≡ entry_line entry = cc (read.1, entry_line_is caller kind) in
    sym (ap (entry_in _) same ∙ entry_in-entry_line _ _ (both_true _ _ (is_below _ _ low) read.0))
