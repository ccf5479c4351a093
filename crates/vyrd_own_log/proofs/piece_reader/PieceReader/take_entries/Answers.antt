use Rattle.vyrd_own_log.proofs.Prelude.{◌≡◌, ◌≤◌, [], rules, refl, sym, arith, kept_of}
use Rattle.vyrd_own_log.proofs.ReadLaws.{no_fault}
use Rattle.vyrd_own_log.proofs.FrontLaws.{nothing_front, one_more_fed, behind_shorter}
use Rattle.vyrd_own_log.proofs.piece_reader.PieceReader.take_entries.Goals as goal

pub returns-then-not-is_empty-clause-fed : goal.returns-then-not-is_empty-clause-fed
returns-then-not-is_empty-clause-fed c =
    nothing_front (kept_of c.args.self.now) c.args.piece.now c.args.out.now.items
    c.args.numbers.now.items

pub returns-in_default : goal.returns-in_default
returns-in_default c = record {
  fed = nothing_front (kept_of c.args.self.now) c.args.piece.now c.args.out.now.items
      c.args.numbers.now.items;
  shorter = omega arith;
  safe = c.requires;
  limit = refl;
}

pub loop-line-init : goal.loop-line-init
loop-line-init c = record {
  counted = c.requires.steady.counted;
  shorter = omega arith;
  fed = nothing_front (kept_of c.args.self.now) c.args.piece.now c.args.out.now.items
      c.args.numbers.now.items;
}

pub loop-line-preserved : goal.loop-line-preserved
loop-line-preserved c =
    let k = kept_of c.args.self.now in
    let front = c.in-Some.ensures in
    let shorter = behind_shorter k c.in-Some.entry c.loop-line.rest.now c.in-Some.after.now front in
    let begun : k.unfinished ≡ [] = search rules in
    let within : c.loop-line.line ≤ k.lines.max_lines = omega arith in
    record {
      counted = omega arith;
      shorter = omega (arith, shorter, c.loop-line.invariant.shorter);
      fed = λ sound. one_more_fed k c.in-Entries.field-0 c.loop-line.line c.in-Some.entry
          c.args.piece.now c.loop-line.rest.now
          c.in-Some.after.now _ _ _ _ _ _ c.requires begun
          (no_fault c.args.self.now.lines.fault (sym c.if-is_some.ensures))
          c.in-Entries.is within front c.in_ok-push.ensures.items c.in_ok-push-2.ensures.items
          (c.loop-line.invariant.fed sound);
    }
