-- What the fields of a reader say of its state.
use Rattle.vyrd_text.proofs.Prelude.{◌≡◌, ℕ, Bool, true, false, cond, List, [], ◌∷◌, Option, Some}
use Rattle.vyrd_text.proofs.Prelude.{None, refl, is_some, option_map, Header, NoLineFeed, NoEnd}
use Rattle.vyrd_text.proofs.Prelude.{TextFault, has_any, LineFault, fault_of, LineState, IsSteady}

pub fault_none : (o : Option LineFault) → is_some o ≡ false → option_map fault_of o ≡ None
fault_none None e = refl
fault_none (Some f) e = cc

pub fault_some : (o : Option LineFault) → is_some o ≡ true → (f : TextFault)
    × (option_map fault_of o ≡ Some f)
fault_some None e = cc
fault_some (Some f) e = (fault_of f, refl)

-- `end` is read after a header
pub header_of_ended : (r : LineState) → IsSteady r → r.ended ≡ true → (h : Header)
    × (r.header ≡ Some h)
header_of_ended r steady done = by_header r.header refl
  where
    by_header : (o : Option Header) → r.header ≡ o → (h : Header) × (o ≡ Some h)
    by_header None e = absurd (clash r.ended done (steady.first e).1)
      where
        clash : (b : Bool) → b ≡ true → b ≡ false → ⊥
        clash true t f = cc
        clash false t f = cc
    by_header (Some h) e = (h, refl)

pub rule_none : (xs : List ℕ) → xs ≡ [] → cond (has_any xs) NoLineFeed NoEnd ≡ NoEnd
rule_none [] e = refl
rule_none (x ∷ xs) e = cc

pub rule_some : (xs : List ℕ) → ¬ (xs ≡ []) → cond (has_any xs) NoLineFeed NoEnd ≡ NoLineFeed
rule_some [] h = absurd (h refl)
rule_some (x ∷ xs) h = refl
