-- What is known of an entry that breaks no rule.
use Rattle.vyrd_shape.proofs.Prelude.{◌≡◌, ℕ, ◌<◌, Bool, true, false, not, ◌&&◌, List, None, refl}
use Rattle.vyrd_shape.proofs.Prelude.{arith, ◌==◌, list_any, Header, Write, Entry, numbers_below}
use Rattle.vyrd_shape.proofs.Prelude.{holds_word, checks_at, broken_rule, is_held_by_other}
use Rattle.vyrd_shape.proofs.Prelude.{is_passed, entry, neither_true, all_kept, held_false}
use Rattle.vyrd_shape.proofs.ChainLaws.{any_number}

no_such_number : (p : ℕ → Bool) (n d : ℕ) → list_any p (numbers_below n) ≡ false → d < n
    → p d ≡ false
no_such_number p n d none low = by_value (p d) refl
  where
    by_value : (b : Bool) → p d ≡ b → p d ≡ false
    by_value true e = let some = any_number p 0 n d e (omega arith) (omega arith) in cc
    by_value false e = e

-- no other caller holds a word that is written
pub not_held : (h : Header) (c word value : ℕ) (earlier : List Entry)
    → broken_rule h earlier (entry c (Write word value)) ≡ None
    → (d : ℕ) → d < h.callers → (d == c) ≡ false → holds_word d word earlier ≡ false
not_held h c word value earlier e d low other =
    let kept = (all_kept (checks_at h earlier (entry c (Write word value))) e).1 in
    let held = is_held_by_other h c word earlier in
    let free = (neither_true held (is_passed c word earlier) kept.1.1.1.0).0 in
    held_false (d == c) (holds_word d word earlier)
    (no_such_number (λ x. not (x == c) && holds_word x word earlier) h.callers d free low) other
