-- What longer bytes say to a reader.
use Rattle.vyrd_text.proofs.Prelude.{◌≡◌, ℕ, ◌≤◌, ◌||◌, true, false, List, [], ◌++◌, Option, Some}
use Rattle.vyrd_text.proofs.Prelude.{None, refl, ap, ◌∙◌, append-nil, Entry, StartWord, Header}
use Rattle.vyrd_text.proofs.Prelude.{Reading, TextFault, has_any, reading, TextGrown, reading_grows}
use Rattle.vyrd_text.proofs.Prelude.{ReaderState, lines_of, HasRead, so_far, whole}
use Rattle.vyrd_text.proofs.ReadLaws.{faulty_fed, fed_read}

module _ (r : ReaderState) (bytes more : List ℕ) (low : 1 ≤ r.max_lines) where
  abbrev old : Reading
  old = reading (so_far r) bytes

  abbrev new : Reading
  new = reading (so_far r) (bytes ++ more)

  grown : TextGrown old new
  grown = reading_grows r.max_lines false bytes more low

  pub header_lasts : (h : Header) → old.header ≡ Some h → new.header ≡ Some h
  header_lasts h e = grown.header h e

  pub fault_lasts : (f : TextFault) → old.fault ≡ Some f → new ≡ old
  fault_lasts f e = grown.grown.fault f e

  pub fault_lasts_whole : (f : TextFault) → old.fault ≡ Some f → reading (whole r) (bytes ++ more)
      ≡ old
  fault_lasts_whole f e = (reading_grows r.max_lines true bytes more low).grown.fault f e

  pub entries_last : (found : List Entry) × (new.entries ≡ old.entries ++ found)
  entries_last = by_fault old.fault refl
    where
      by_fault : (o : Option TextFault) → old.fault ≡ o → (found : List Entry)
          × (new.entries ≡ old.entries ++ found)
      by_fault None e = grown.grown.entries e
      by_fault (Some f) e = ([], cc (grown.grown.fault f e, append-nil old.entries))

  pub starts_last : (found : List StartWord) × (new.starting ≡ old.starting ++ found)
  starts_last = by_fault old.fault refl
    where
      by_fault : (o : Option TextFault) → old.fault ≡ o → (found : List StartWord)
          × (new.starting ≡ old.starting ++ found)
      by_fault None e = grown.grown.starting e
      by_fault (Some f) e = ([], cc (grown.grown.fault f e, append-nil old.starting))

  pub starts_stay : (has_any old.entries || old.ended) ≡ true → new.starting ≡ old.starting
  starts_stay begun = by_fault old.fault refl
    where
      by_fault : (o : Option TextFault) → old.fault ≡ o → new.starting ≡ old.starting
      by_fault None e = grown.grown.begun e begun
      by_fault (Some f) e = ap (λ read. read.starting) (grown.grown.fault f e)

  pub end_lasts : old.ended ≡ true → new.ended ≡ true
  end_lasts is = by_fault old.fault refl
    where
      by_fault : (o : Option TextFault) → old.fault ≡ o → new.ended ≡ true
      by_fault None e = (grown.grown.ended e is).1
      by_fault (Some f) e = ap (λ read. read.ended) (grown.grown.fault f e) ∙ is

  pub still_read : (f : TextFault) → r.fault ≡ Some f → HasRead r bytes → HasRead r (bytes ++ more)
  still_read f e has = fed_read r r bytes more [] [] has
      (faulty_fed (lines_of r) f more r.start [] low e)
