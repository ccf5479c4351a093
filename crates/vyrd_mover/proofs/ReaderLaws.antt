-- A reader of a history's text takes in a line, bytes without a line feed, and a piece.
use Rattle.vyrd_mover.proofs.Prelude.{◌≡◌, ℕ, ◌≤◌, true, List, [], ◌∷◌, ◌++◌, length, Ok, refl, ap}
use Rattle.vyrd_mover.proofs.Prelude.{sym, ◌∙◌, subst, arith, append_assoc, append-nil, cells_of}
use Rattle.vyrd_mover.proofs.Prelude.{lacks, lacks-append, Reducible, Lines, EachIsGathered}
use Rattle.vyrd_mover.proofs.Prelude.{Recorded, history_reading, AreBlocksOf, IsAt, ReaderState}
use Rattle.vyrd_mover.proofs.Prelude.{HasRead, IsFedTo}
use Rattle.vyrd_mover.proofs.CheckLaws.{each_is_gathered}
use Rattle.vyrd_mover.proofs.TextLaws.{reading_sound}

-- all bytes were taken in, and none is unfinished
pub nothing_unfinished : (l : Lines) (s : ReaderState) (before more : List ℕ)
    → (read : HasRead s before) → IsAt l (read.whole ++ (s.unfinished ++ more))
    → HasRead (record { lines = l; unfinished = [] }) (before ++ more)
nothing_unfinished l s before more read at =
    record {
      whole = before ++ more;
      parted = sym (append-nil _);
      at = subst (IsAt l) (cc (append_assoc read.whole s.unfinished more, read.parted)) at;
      one_line = refl;
      short = omega arith;
    }

-- the same after a whole line that is taken in where nothing was unfinished
pub whole_line : (l : Lines) (s : ReaderState) (before line : List ℕ) → (read : HasRead s before)
    → s.unfinished ≡ [] → IsAt l (read.whole ++ line)
    → HasRead (record { lines = l; unfinished = [] }) (before ++ line)
whole_line l s before line read none at = nothing_unfinished l s before line read (rw none at)

-- more of the unfinished line
pub more_unfinished : (s : ReaderState) (unfinished before more : List ℕ) → HasRead s before
    → unfinished ≡ s.unfinished ++ more → lacks 10 more ≡ true
    → length unfinished ≤ 64 → HasRead (record { lines = s.lines; unfinished = unfinished })
    (before ++ more)
more_unfinished s unfinished before more read is lack short =
    record {
      whole = read.whole;
      parted = cc (read.parted, append_assoc read.whole s.unfinished more);
      at = read.at;
      one_line = ap (lacks _) is ∙ lacks-append 10 s.unfinished more read.one_line lack;
      short = short;
    }

-- how far a piece was taken in
pub fed_nothing : (s : ReaderState) (bytes piece : List ℕ) → HasRead s bytes
    → IsFedTo s bytes piece piece
fed_nothing s bytes piece read = grind (arith, append-nil bytes)

pub fed_line : (s new : ReaderState) (bytes piece rest line next : List ℕ)
    → (fed : IsFedTo s bytes piece rest) → rest ≡ line ++ 10 ∷ next
    → HasRead new ((bytes ++ fed.front) ++ (line ++ 10 ∷ [])) → IsFedTo new bytes piece next
fed_line s new bytes piece rest line next fed is read = search (append_assoc, arith)

pub fed_all : (s new : ReaderState) (bytes piece rest : List ℕ) → (fed : IsFedTo s bytes piece rest)
    → HasRead new ((bytes ++ fed.front) ++ rest)
    → HasRead new (bytes ++ piece)
fed_all s new bytes piece rest fed read = grind (arith, fed, read, append_assoc)

-- if all blocks of the history are reducible, each can be gathered
pub gathered_of : (bytes : List ℕ) (r : Recorded) (n : ℕ) → history_reading bytes ≡ Ok r
    → AreBlocksOf (history_reading bytes) (Reducible n)
    → EachIsGathered (cells_of r.header) r.history
gathered_of bytes r n read are = each_is_gathered _ _ n ((reading_sound bytes r read).limits.legal)
    (sym (subst (λ reading. AreBlocksOf reading (Reducible n)) read are))
