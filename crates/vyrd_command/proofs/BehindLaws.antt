-- What a source gives is put after the bytes that were taken before.
use Rattle.vyrd_command.proofs.Prelude.{◌≡◌, ℕ, ◌+◌, ◌≤◌, List, ◌++◌, length, take, drop, ap, subst}
use Rattle.vyrd_command.proofs.Prelude.{sym, ◌∙◌, arith, take_all, take-add, take-append_seam}
use Rattle.vyrd_command.proofs.Prelude.{SourceKnown, Gives, IsTaken, taken_more}

pub taken_behind : (before between after : SourceKnown) (count n : ℕ) (old new : List ℕ)
    → IsTaken before.rest (take count old) between.rest
    → take count new ≡ take count old → Gives between n (drop count new) after
    → IsTaken before.rest (take (count + n) new) after.rest
taken_behind before between after count n old new told front gives =
    subst (λ bytes. IsTaken before.rest bytes after.rest)
    (ap (λ bytes. bytes ++ take n (drop count new)) (sym front) ∙ sym (take-add count n new))
    (taken_more before.rest between.rest after.rest (take count old) (take n (drop count new)) told
    gives.bytes)

-- bytes that were put after others leave these at the front
pub front_kept : (old new more : List ℕ) (count many : ℕ) → length old ≡ count → count ≤ many
    → new ≡ take many old ++ more → take count new ≡ old
front_kept old new more count many whole within grown =
    cc (take_all many old (omega (arith, whole, within)), take-append_seam old more)
