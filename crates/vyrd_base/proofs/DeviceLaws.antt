-- What a read of a source in memory gives; and what reads and writes do that come one after the
-- other.
use Rattle.vyrd_base.proofs.Prelude.{◌≡◌, ℕ, ◌+◌, ◌≤◌, Bool, false, List, [], ◌∷◌, ◌++◌, length}
use Rattle.vyrd_base.proofs.Prelude.{take, drop, Some, refl, ap, ◌∙◌, sym, subst, arith}
use Rattle.vyrd_base.proofs.Prelude.{length-append, ◌==◌, option_map, take-append-drop}
use Rattle.vyrd_base.proofs.Prelude.{take-append-le, drop-drop, length-take, ne_eqb, take-length}
use Rattle.std.specs.Prelude.{IfSome}
use Rattle.vyrd_base.specs.Devices.{Gives, SourceKnown, AfterReads, SinkKnown, AfterWrites}

-- as many bytes as are copied to the front of the buffer are gone from the rest
given_bytes : (g n : ℕ) (bytes front tail : List ℕ) → front ≡ take n (drop g bytes)
    → n ≤ length (drop g bytes)
    → drop g bytes ≡ take n (front ++ tail) ++ drop (g + n) bytes
given_bytes g n bytes front tail copied fits =
    let long : length front ≡ n = ap length copied ∙ length-take n (drop g bytes) ∙ omega arith in
    let start : take n (front ++ tail) ≡ front = take-append-le n front tail (omega arith)
    ∙ sym (cc) ∙ take-length front in
    cc (take-append-drop n (drop g bytes), drop-drop n g bytes)

-- a list with no entries is empty
none_left : (xs : List ℕ) → length xs ≡ 0 → xs ≡ []
none_left [] e = refl
none_left (x ∷ xs) e = absurd (omega (arith, e))

-- A read gives those bytes. It says the end if it gives none, as none is left then.
pub given_next : (before after : SourceKnown) (g n : ℕ) (bytes front tail : List ℕ) → before.rest
    ≡ Some (drop g bytes) → after.rest ≡ Some (drop (g + n) bytes)
    → after.ended ≡ (n == 0) → front ≡ take n (drop g bytes) → n ≤ length (drop g bytes)
    → (n ≡ 0 → length (drop g bytes) ≡ 0)
    → Gives before n (front ++ tail) after
given_next before after g n bytes front tail old new ended copied fits empty = record {
  within = omega (
    arith,
    ap length copied,
    length-take n (drop g bytes),
    fits,
    length-append front
        tail,
  );
  bytes = old ∙ ap Some (given_bytes g n bytes front tail copied fits)
      ∙ sym (ap (option_map (λ rest. take n (front ++ tail) ++ rest)) new);
  at_end = λ none. record {
    said = ended ∙ ap (λ k. k == 0) none;
    none = subst (λ rest. IfSome rest (λ bytes. bytes ≡ [])) (sym new)
        (ap (λ k. drop k bytes) (omega (arith, none)) ∙ none_left (drop g bytes) (empty none));
  };
  goes_on = λ some. ended ∙ ne_eqb n 0 (λ none. omega (arith, some, none));
}

-- what no read has done, and what two reads do of which the first didn't fail
pub no_read : (source : SourceKnown) → AfterReads false source source
no_read source = grind arith

pub reads_in_row : (failed : Bool) (before between after : SourceKnown)
    → AfterReads false before between
    → AfterReads failed between after → AfterReads failed before after
reads_in_row failed before between after first then = grind (arith, between, after)

-- The same for writes. What the second one is to write fits if all does.
pub no_write : (fits : Type 0) (sink : SinkKnown) → AfterWrites false fits sink sink
no_write fits sink = record { counted = refl; stopped = refl; never = λ sure. refl }

pub writes_in_row : (failed : Bool) (all rest : Type 0) (before between after : SinkKnown)
    → (all → rest) → AfterWrites false all before between
    → AfterWrites failed rest between after → AfterWrites failed all before after
writes_in_row failed all rest before between after fits first then = search arith
