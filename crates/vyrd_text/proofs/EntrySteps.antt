-- What a reader makes of entries that lie whole in a piece.
use Rattle.vyrd_text.proofs.Prelude.{◌≡◌, ℕ, suc, ◌+◌, ◌≤◌, true, false, List, [], ◌∷◌, ◌++◌}
use Rattle.vyrd_text.proofs.Prelude.{length, Option, Some, None, refl, arith, append_assoc, is_some}
use Rattle.vyrd_text.proofs.Prelude.{option_map, list_all, append-nil, Header, Entry, StartWord}
use Rattle.vyrd_text.proofs.Prelude.{entry_line, is_entry_of, entry_in-entry_line, isnt_below}
use Rattle.vyrd_text.proofs.Prelude.{first_true, second_true, LineState, IsTaken, IsFed}
use Rattle.vyrd_base.proofs.LineLaws.{entry_line_whole, entry_line_isnt_end}
use Rattle.vyrd_text.specs.Steps.{IsFedFront}
use Rattle.vyrd_text.specs.Quick.{entries_text, AreEntriesAtFront}
use Rattle.vyrd_text.proofs.ReaderLaws.{taken_then, line_at_once}
use Rattle.vyrd_text.proofs.LineSteps.{entry_read}

-- nothing taken in
pub nothing_taken : (r : LineState) → IsTaken r [] [] [] r
nothing_taken r = record {
  max_lines = refl;
  follows = λ ss es before f. rw (append-nil ss)
      (rw (append-nil es)
      (rw (append-nil before) f));
  noticed = λ n. n;
  room = λ after. omega arith;
}

-- nothing of a piece was taken in
pub nothing_fed : (r : LineState) (piece : List ℕ) (entries : List Entry)
    → IsFedFront r piece entries entries r piece
nothing_fed r piece entries = grind (arith, append-nil entries, nothing_taken r)

-- entries that fit are taken in one by one
entries_taken : (h : Header) (es : List Entry) (r : LineState) → r.header ≡ Some h → r.fault ≡ None
    → r.starting ≡ false → r.ended ≡ false
    → r.unfinished ≡ [] → 1 ≤ r.max_lines → r.line + length es ≤ r.max_lines + 1
    → list_all (is_entry_of h.subject) es ≡ true
    → IsTaken r (entries_text es) [] es
    (record r { line = r.line + length es; starting = false; unfinished = [] })
entries_taken h [] r has fine plain not_ended empty low fits all = grind (arith, nothing_taken r)
entries_taken h (e ∷ es) r has fine plain not_ended empty low fits all =
    let is = first_true _ _ all in
    let line = entry_line e in
    let next : LineState = record r { line = r.line + 1; starting = false; unfinished = [] } in
    let last : ℕ → LineState = λ n. record r { line = n; starting = false; unfinished = [] } in
    let one : IsTaken r (line ++ 10 ∷ []) [] (e ∷ []) next = line_at_once r _ _ [] _ empty
    (entry_read r _ (entry_line_whole h.subject e is) fine low h has (isnt_below _ _ (omega arith))
    not_ended (cc) (entry_line_isnt_end e) e (entry_in-entry_line _ e is)) in
    let more = entries_taken h es next has fine refl not_ended refl low (omega arith)
    (second_true (is_entry_of _ e) _ all) in
    let both = taken_then r next _ (line ++ 10 ∷ []) (entries_text _) [] [] (e ∷ []) es one more in
    let same : r.line + 1 + length es ≡ r.line + suc (length es) = omega arith in
    rw (← append_assoc line (10 ∷ []) (entries_text es)) (rw (← same) both)

-- entries at the front of a piece were taken in
pub entries_fed : (h : Header) (r : LineState) (piece rest : List ℕ) (before after : List Entry)
    (count : ℕ) → r.header ≡ Some h → r.fault ≡ None
    → r.starting ≡ false → r.ended ≡ false → r.unfinished ≡ [] → 1 ≤ r.max_lines → r.line + count
    ≤ r.max_lines + 1
    → AreEntriesAtFront h.subject piece before after rest count
    → IsFedFront r piece before after (record r { line = r.line + count }) rest
entries_fed h r piece rest before after count has fine plain not_ended empty low fits are =
    grind (
      arith,
      entries_text are.found,
      are.spelled,
      are.found,
      are.grown,
      entries_taken h
          are.found r has fine plain not_ended empty low (omega (arith, are.counted)) are.of_subject,
    )

-- entries at the front of what was left of a piece were taken in
pub fed_on : (a b c : LineState) (xs piece rest : List ℕ) (start start_new : List StartWord)
    (before middle after : List Entry)
    → IsFed a xs start start_new before middle b
    → (front : IsFedFront b piece middle after c rest)
    → IsFed a (xs ++ front.read) start start_new before after c
fed_on a b c xs piece rest start start_new before middle after fed front = record {
  starts = fed.starts;
  start_grown = fed.start_grown;
  found = fed.found ++ front.found;
  grown = cc (front.grown, fed.grown, append_assoc before fed.found front.found);
  taken = rw (← append-nil fed.starts)
      (taken_then a b c xs front.read fed.starts [] fed.found front.found fed.taken front.taken);
}

-- what isn't there is nothing in any view of it
pub none_mapped : {A B : Type 0} (f : A → B) (o : Option A) → is_some o ≡ false → option_map f o
    ≡ None
none_mapped f o e = search arith
