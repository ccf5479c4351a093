use Rattle.vyrd_command.proofs.Prelude.{◌≡◌, ◌+◌, ◌≤◌, ◌++◌, length, take, drop, ap, ◌∙◌, arith}
use Rattle.vyrd_command.proofs.Prelude.{length-take, length-drop, take-add}
use Rattle.vyrd_command.proofs.BehindLaws.{front_kept}
use Rattle.vyrd_command.proofs.read_input.read_more.Goals as goal

pub returns-clause-more : goal.returns-clause-more
returns-clause-more g c =
    let old = c.args.bytes.now.items in
    let count = c.len-count.result in
    let n = c.in_ok-n.n in
    let mid = c.read_behind.new.bytes.items in
    let piece = take n (drop count mid) in
    let gives = c.in_ok-n.ensures.given in
    let within : n ≤ length (drop count mid) = gives.within in
    let whole : length old ≡ count = omega (arith, c.len-count.ensures) in
    record {
      piece = piece;
      told = gives.bytes;
      grown = c.truncate.ensures.items ∙ take-add count n mid
          ∙ ap (λ front. front ++ piece)
          (c.in_ok-n.ensures.front ∙ front_kept old c.resize.new.self.items _ count
          (count + c.min.result)
          whole (omega arith) c.in_ok-resize.ensures.items);
      many = omega (arith, length-take n (drop count mid), within);
      few = omega (
        arith,
        within,
        length-drop count
            mid,
        c.in_ok-n.ensures.len,
        c.in_ok-resize.ensures.len,
        c.min.ensures,
      );
      short = omega (
        arith,
        within,
        length-drop count mid,
        c.in_ok-n.ensures.len,
        c.in_ok-resize.ensures.len,
        c.min.ensures,
      );
      at_end = gives.at_end;
      goes_on = gives.goes_on;
    }
