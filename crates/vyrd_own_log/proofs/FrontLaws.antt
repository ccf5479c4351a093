-- What a reader makes of entries that are read where they lie: what it makes of their lines.
use Rattle.vyrd_own_log.proofs.Prelude
use Prelude.{◌≡◌, ℕ, ◌+◌, ◌<◌, ◌≤◌, ◌^◌, Bool, true, false, not, List, [], ◌∷◌, ◌++◌, length, None}
use Prelude.{refl, ap, sym, ◌∙◌, arith, append_assoc, length-append, ◌==◌, decimal, is_some}
use Prelude.{bytes_eq, and-false, not-true, append-nil, bytes_eq-Decides, Header, end_line}
use Prelude.{own_entry_line, is_note, lacks, decimal_lacks, first_true, second_true, below_of}
use Prelude.{isnt_below, Found, own_kind_text, IsOwnEntryAtFront, LineState, next, broken, own_step}
use Prelude.{OwnReaderKept, IsSafe, IsSound, IsFed, IsFedFront}
use Rattle.vyrd_base.specs.declared.log.Entry as entries
use Rattle.vyrd_own_log.specs.declared.stage.Stage.TheVariants as stages
use Rattle.vyrd_own_log.specs.declared.stage.Found.TheVariants as found
use Rattle.vyrd_own_log.proofs.EntryLaws.{AllCallable, own_line_is, entry_complete, entry_one_line}
use Rattle.vyrd_own_log.proofs.EntryLaws.{below_64}
use Rattle.vyrd_own_log.proofs.ReadLaws.{nothing_fed, fed_then, line_fed, line_kept}

-- a line that begins with a caller is neither a note nor the end
not_note : (digits rest : List ℕ) → lacks 35 digits ≡ true → is_note (digits ++ 32 ∷ rest) ≡ false
not_note [] rest lack = refl
not_note (d ∷ digits) rest lack = cc (not-true (d == 35) (first_true _ _ lack))

has_space : (digits rest : List ℕ) → lacks 32 (digits ++ 32 ∷ rest) ≡ false
has_space [] rest = refl
has_space (d ∷ digits) rest = cc (has_space digits rest, and-false (not (d == 32)))

not_end : (digits rest : List ℕ) → bytes_eq (digits ++ 32 ∷ rest) end_line ≡ false
not_end digits rest = by_test (bytes_eq (digits ++ 32 ∷ rest) end_line) refl
  where
    by_test : (b : Bool) → bytes_eq (digits ++ 32 ∷ rest) end_line ≡ b → b ≡ false
    by_test false e = refl
    by_test true e =
        cc ((bytes_eq-Decides (digits ++ 32 ∷ rest) end_line).0 e, has_space digits rest)

-- the step over an entry's line
module _ (r : LineState) (h : Header) (e : entries.Entry) (text rest : List ℕ)
    (all : AllCallable r.said.specification) (fine : r.fault ≡ None)
    (stage : r.stage ≡ stages.Entries h) (within : r.line ≤ r.max_lines)
    (at : IsOwnEntryAtFront r.said.specification text e rest) where
  abbrev line : List ℕ
  line = own_entry_line r.said.specification e

  line_is : line ≡ decimal e.caller ++ 32 ∷ own_kind_text r.said.specification e.kind
  line_is = own_line_is r.said.specification e.caller e.kind all at.of

  caller : e.caller < 2 ^ 64
  caller = below_64 e.caller (below_of e.caller (2 ^ 32) (first_true _ _ at.ranged))

  note : is_note line ≡ false
  note = search (line_is, not_note, decimal_lacks, caller, arith)

  end : bytes_eq line end_line ≡ false
  end = ap (λ t. bytes_eq t end_line) line_is ∙ not_end (decimal e.caller) _

  pub entry_step_is : own_step r line ≡ (next r (stages.Entries h), found.Entry e)
  entry_step_is = search (is_some, broken, isnt_below, note, end, entry_complete, arith)

-- a reader whose next line has this number
abbrev pub at_line : OwnReaderKept → ℕ → OwnReaderKept
at_line k n = record k { lines = record k.lines { line = n } }

pub all_callable : (k : OwnReaderKept) → IsSafe k → AllCallable k.lines.said.specification
all_callable k safe = second_true _ _ safe.steady.callable

-- one more entry was read where it lies
pub one_more_fed : (k : OwnReaderKept) (h : Header) (n : ℕ) (e : entries.Entry)
    (piece rest after : List ℕ)
    (es fs gs : List entries.Entry) (ms ns os : List ℕ)
    → IsSafe k → k.unfinished ≡ [] → k.lines.fault ≡ None → k.lines.stage ≡ stages.Entries h
    → n ≤ k.lines.max_lines
    → IsOwnEntryAtFront k.lines.said.specification rest e after → gs ≡ fs ++ e ∷ [] → os ≡ ns
    ++ n ∷ []
    → IsFedFront k piece rest es fs ms ns (at_line k n) → IsFedFront k piece after es gs ms os
    (at_line k (n + 1))
one_more_fed k h n e piece rest after es fs gs ms ns os safe empty fine stage within at grown
    counted front =
    let all = all_callable k safe in
    let r = record k.lines { line = n } in
    let line = own_entry_line k.lines.said.specification e in
    let one = entry_one_line k.lines.said.specification e all at.ranged at.of in
    let stays : ◌≡◌ {A = LineState × Found} (record k.lines { line = n + 1 }, found.Entry e)
    (next r (stages.Entries h), found.Entry e) =
    λ i. (record k.lines { line = n + 1; stage = stage i }, found.Entry e) in
    let step : ◌≡◌ {A = LineState × Found} (record k.lines { line = n + 1 }, found.Entry e)
    (own_step r (k.unfinished ++ line)) =
    stays ∙ sym (entry_step_is r h e rest after all fine stage within at)
    ∙ ap (λ u. own_step r (u ++ line)) (sym empty) in
    record {
      read = front.read ++ (line ++ 10 ∷ []);
      parted = front.parted ∙ ap (λ t. front.read ++ t)
          (at.spelled ∙ sym (append_assoc line (10 ∷ []) after))
          ∙ sym (append_assoc front.read (line ++ 10 ∷ []) after);
      fed = fed_then k (at_line k n) (at_line k (n + 1)) front.read (line ++ 10 ∷ []) es fs gs ms ns
          os front.fed
          (line_fed (at_line k n) (at_line k (n + 1)) line (found.Entry e) fs gs ns os front.sound
          one step empty
          (sym (append-nil k.specified)) (sym (append-nil k.start)) grown counted);
      sound = line_kept (at_line k n) (at_line k (n + 1)) line (found.Entry e) front.sound one step
          empty;
    }

-- what stands behind an entry is shorter
pub behind_shorter : (k : OwnReaderKept) (e : entries.Entry) (rest after : List ℕ)
    → IsOwnEntryAtFront k.lines.said.specification rest e after
    → length after < length rest
behind_shorter k e rest after at = grind (arith, after, length-append)

-- nothing was read
pub nothing_front : (k : OwnReaderKept) (piece : List ℕ) (es : List entries.Entry) (ns : List ℕ)
    → IsSound k
    → IsFedFront k piece piece es es ns ns k
nothing_front k piece es ns sound = grind (arith, nothing_fed k es ns)

-- the front of a piece, and then the front of what stands behind it
pub front_then : (k m n : OwnReaderKept) (piece rest after : List ℕ) (es fs gs : List entries.Entry)
    (ms ns os : List ℕ)
    → IsFedFront k piece rest es fs ms ns m → IsFedFront m rest after fs gs ns os n
    → IsFedFront k piece after es gs ms os n
front_then k m n piece rest after es fs gs ms ns os first second = record {
  read = first.read ++ second.read;
  parted = cc (first.parted, second.parted, append_assoc first.read second.read after);
  fed = fed_then k m n first.read second.read _ fs _ _ ns _ first.fed second.fed;
  sound = second.sound;
}

-- a whole line at the front
pub line_front : (k n : OwnReaderKept) (line piece after : List ℕ) (es fs : List entries.Entry)
    (ms ns : List ℕ) → piece ≡ line ++ 10 ∷ after
    → IsFed k (line ++ 10 ∷ []) es fs ms ns n → IsSound n → IsFedFront k piece after es fs ms ns n
line_front k n line piece after es fs ms ns is fed sound = search (append_assoc, arith)
