use Rattle.vyrd_mover.proofs.Prelude.{◌∙◌, ◌++◌, ◌∷◌, [], append_assoc, ap, sym, subst, lacks}
use Rattle.vyrd_mover.proofs.Prelude.{HasRead, ReaderState, IsAt}
use Rattle.vyrd_mover.proofs.ReaderLaws.{nothing_unfinished, whole_line}
use Rattle.vyrd_mover.proofs.reader.HistoryReader.end_line.Goals as goal

pub take_line-requires : goal.take_line-requires
take_line-requires c =
    let had = c.self.invariant.read in
    record { one_line = c.requires; somewhere = record { bytes = had.whole; at = had.at } }

pub returns-then-is_empty : goal.returns-then-is_empty
returns-then-is_empty c = λ bytes read.
    let here = c.self.inside in
    let line = c.args.line.now ++ 10 ∷ [] in
    let s : ReaderState = record { lines = here.lines; unfinished = here.unfinished } in
    let had : HasRead s bytes = rw c.self.view_is read in
    let none = c.is_empty.ensures.0 c.if-is_empty.true in
    rw none
    (whole_line c.take_line.new.self s bytes line had none (c.take_line.ensures had.whole had.at))

pub take_line-requires-2-clause-one_line : goal.take_line-requires-2-clause-one_line
take_line-requires-2-clause-one_line c =
    let had = c.self-2.invariant.read in
    ap (lacks 10) (c.as_slice.ensures.bytes ∙ c.replace-whole.ensures.value) ∙ had.one_line

pub take_line-requires-2-clause-somewhere : goal.take_line-requires-2-clause-somewhere
take_line-requires-2-clause-somewhere c =
    let had = c.self-2.invariant.read in
    record { bytes = had.whole; at = had.at }

pub returns : goal.returns
returns c = λ bytes read.
    let here = c.self-2.inside in
    let line = c.args.line.now in
    let l = c.take_line-2.new.self in
    let s : ReaderState = record { lines = here.lines; unfinished = here.unfinished } in
    let had : HasRead s (bytes ++ line) = rw c.self-2.view_is (c.put.ensures bytes read) in
    let at = subst (λ xs. IsAt l (had.whole ++ (xs ++ 10 ∷ [])))
    (c.as_slice.ensures.bytes ∙ c.replace-whole.ensures.value)
    (c.take_line-2.ensures had.whole had.at) in
    rw (c.replace-whole.ensures.after ∙ c.new.ensures)
    (subst (HasRead (record { lines = l; unfinished = [] })) (append_assoc bytes line (10 ∷ []))
    (nothing_unfinished l s (bytes ++ line) (10 ∷ []) had at))

pub invariant_of-self : goal.invariant_of-self
invariant_of-self c =
    let here = c.self.inside in
    let line = c.args.line.now ++ 10 ∷ [] in
    let s : ReaderState = record { lines = here.lines; unfinished = here.unfinished } in
    let had : HasRead s c.self.invariant.bytes = c.self.invariant.read in
    let none = c.is_empty.ensures.0 c.if-is_empty.true in
    record {
      bytes = c.self.invariant.bytes ++ line;
      read = rw none
          (whole_line c.take_line.new.self s c.self.invariant.bytes line had none
          (c.take_line.ensures had.whole had.at));
    }

pub invariant_of-self-2 : goal.invariant_of-self-2
invariant_of-self-2 c =
    let here = c.self-2.inside in
    let l = c.take_line-2.new.self in
    let s : ReaderState = record { lines = here.lines; unfinished = here.unfinished } in
    let had : HasRead s c.self-2.invariant.bytes = c.self-2.invariant.read in
    let at = subst (λ xs. IsAt l (had.whole ++ (xs ++ 10 ∷ [])))
    (c.as_slice.ensures.bytes ∙ c.replace-whole.ensures.value)
    (c.take_line-2.ensures had.whole had.at) in
    record {
      bytes = c.self-2.invariant.bytes ++ 10 ∷ [];
      read = subst
          (λ xs. HasRead (record { lines = l; unfinished = xs })
          (c.self-2.invariant.bytes ++ 10 ∷ []))
          (sym (c.replace-whole.ensures.after ∙ c.new.ensures))
          (nothing_unfinished l s c.self-2.invariant.bytes (10 ∷ []) had at);
    }
