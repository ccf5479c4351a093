-- The last commit before a position, one entry further.
use Rattle.vyrd_witness.proofs.Prelude.{◌≡◌, ℕ, ◌+◌, ◌<◌, ◌≤◌, true, false, List, length, take}
use Rattle.vyrd_witness.proofs.Prelude.{Option, Some, slice_get, ◌∙◌, sym, arith, IfSome}
use Rattle.vyrd_witness.proofs.Prelude.{length-take-le, slice_get_within, Entry, is_commit}
use Rattle.vyrd_witness.proofs.Prelude.{newest_first, length-newest_first, up_to, commit_before}
use Rattle.vyrd_witness.proofs.PhaseLaws.{newest_at}

pub commit_here : (log : List Entry) (i : ℕ) (e : Entry) → slice_get log i ≡ Some e
    → is_commit e.kind ≡ true → Some i ≡ commit_before log (i + 1)
commit_here log i e here commits =
    let within = slice_get_within log i e here in
    let long : length (newest_first (take i log)) ≡ i =
    length-newest_first _ ∙ length-take-le i _ (omega (arith, within)) in
    sym (cc (newest_at log i e here))

pub no_commit_here : (log : List Entry) (i : ℕ) (e : Entry) → slice_get log i ≡ Some e
    → is_commit e.kind ≡ false → commit_before log i ≡ commit_before log (i + 1)
no_commit_here log i e here quiet = cc (newest_at log i e here)

pub still_before : (i : ℕ) (o : Option ℕ) → IfSome o (λ p. p < i) → IfSome o (λ p. p < i + 1)
still_before i o low = search arith

pub up_to_low : (at : ℕ) (o : Option ℕ) → IfSome o (λ p. p < at) → up_to o ≤ at
up_to_low at o low = search arith
