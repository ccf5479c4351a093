use Rattle.vyrd_text.proofs.Prelude.{[], ◌∷◌, ◌++◌, arith, refl, ap, sym, ◌∙◌, subst, append_assoc}
use Rattle.vyrd_text.proofs.Prelude.{◌==◌, count_by, append-nil, starts_ahead, IsFed, starts_of}
use Rattle.vyrd_text.proofs.Prelude.{entries_of}
use Rattle.vyrd_text.proofs.PieceLaws.{count_line}
use Rattle.vyrd_text.proofs.ReadLaws.{fed_then}
use Rattle.vyrd_text.proofs.EntrySteps.{nothing_taken, fed_on}
use Rattle.vyrd_text.proofs.line_reader.LineReader.take_piece.Goals as goal

pub loop-line-init : goal.loop-line-init
loop-line-init c = record {
  read = [];
  parted = refl;
  fed = record {
    starts = [];
    start_grown = sym (append-nil c.args.start.now.items);
    found = [];
    grown = sym (append-nil c.args.out.now.items);
    taken = nothing_taken c.args.self.now;
  };
  start_room = c.requires.starts;
  room = c.requires.entries;
}

pub loop-line-preserved : goal.loop-line-preserved
loop-line-preserved c =
    let read = c.loop-line.invariant.read in
    let line = c.in-Some.line.now in
    let after = c.in-Some.after.now in
    let parts = c.in-Some.ensures.1 in
    let found = c.take_line-found.result in
    let one = fed_then c.args.self.now c.loop-line.self c.take_line-found.new.self read
    (line ++ 10 ∷ []) c.args.start.now.items c.loop-line.start.items c.put.new.start.items
    (starts_of found)
    c.args.out.now.items c.loop-line.out.items c.put.new.out.items (entries_of found)
    c.loop-line.invariant.fed c.take_line-found.ensures c.put.ensures.starts c.put.ensures.items in
    let whole = c.take_whole_entries-rest.ensures.fed in
    let rest = c.take_whole_entries-rest.result.now in
    let line_room = c.take_line-found.ensures.room after in
    let here = ap (starts_ahead c.loop-line.self)
    (parts ∙ sym (append_assoc line (10 ∷ []) after)) in
    let whole_room = whole.taken.room rest in
    let there = ap (starts_ahead c.take_line-found.new.self) whole.parted in
    record {
      read = (read ++ (line ++ 10 ∷ [])) ++ whole.read;
      parted = c.loop-line.invariant.parted
          ∙ ap (λ t. read ++ t) (parts ∙ sym (append_assoc line (10 ∷ []) after))
          ∙ sym (append_assoc read (line ++ 10 ∷ []) after)
          ∙ ap (λ t. (read ++ (line ++ 10 ∷ [])) ++ t) whole.parted
          ∙ sym (append_assoc (read ++ (line ++ 10 ∷ [])) whole.read rest);
      fed = fed_on c.args.self.now c.take_line-found.new.self c.take_whole_entries-rest.new.self
          (read ++ (line ++ 10 ∷ [])) after
          rest c.args.start.now.items c.put.new.start.items c.args.out.now.items c.put.new.out.items
          c.take_whole_entries-rest.new.out.items one whole;
      start_room =
          omega (
            arith,
            c.loop-line.invariant.start_room,
            c.put.ensures.starts_len,
            c.put.ensures.starts_capacity,
            line_room,
            here,
            whole_room,
            there,
          );
      room = c.take_whole_entries-rest.ensures.room;
    }

pub put-requires-clause-start : goal.put-requires-clause-start
put-requires-clause-start c =
    let line = c.in-Some.line.now in
    let after = c.in-Some.after.now in
    let line_room = c.take_line-found.ensures.room after in
    let here = ap (starts_ahead c.loop-line.self)
    (c.in-Some.ensures.1 ∙ sym (append_assoc line (10 ∷ []) after)) in
    omega (arith, c.loop-line.invariant.start_room, line_room, here)

pub put-requires-clause-entry : goal.put-requires-clause-entry
put-requires-clause-entry c =
    omega (
      arith,
      count_line c.in-Some.line.now c.in-Some.after.now,
      c.loop-line.invariant.room,
      ap (λ t. count_by (λ b. b == 10) t) c.in-Some.ensures.1,
    )

pub take_whole_entries-rest-requires : goal.take_whole_entries-rest-requires
take_whole_entries-rest-requires c =
    omega (
      arith,
      count_line c.in-Some.line.now c.in-Some.after.now,
      c.loop-line.invariant.room,
      c.put.ensures.len,
      c.put.ensures.capacity,
      ap (λ t. count_by (λ b. b == 10) t) c.in-Some.ensures.1,
    )

pub returns : goal.returns
returns c =
    subst (λ t. IsFed c.args.self.now t c.args.start.now.items c.loop-line.start.items
    c.args.out.now.items c.loop-line.out.items c.take_unfinished.new.self)
    (sym c.loop-line.invariant.parted)
    (fed_then c.args.self.now c.loop-line.self c.take_unfinished.new.self c.loop-line.invariant.read
    c.loop-line.rest.now
    c.args.start.now.items c.loop-line.start.items c.loop-line.start.items [] c.args.out.now.items
    c.loop-line.out.items c.loop-line.out.items []
    c.loop-line.invariant.fed c.take_unfinished.ensures (sym (append-nil c.loop-line.start.items))
    (sym (append-nil c.loop-line.out.items)))
