use Rattle.std.proofs.Common.{arith, refl}
use Rattle.vyrd_text.proofs.ReaderLaws.{no_none}
use Rattle.vyrd_text.proofs.line_reader.LineReader.next_line.Goals as goal

pub invariant_of-self : goal.invariant_of-self
invariant_of-self c = rw c.clear.ensures (record {
  low = c.self.invariant.low;
  high = c.self.invariant.high;
  counted = let h = rw (← c.self.view_is) at c.requires.room in omega (arith, h);
  short = omega arith;
  one_line = refl;
  first = λ none. let h = rw (← c.self.view_is) at c.requires.later in absurd
      (no_none c.self.inside.header h none);
})
