use Rattle.std.proofs.Common.{◌≡◌, take}
use Rattle.vyrd_words.proofs.views.tell_amounts.Given as goal

abbrev pub invariant-loop-key : goal.invariant-loop-key
invariant-loop-key g l = record {
  told : g.C.Compare.known l.compared
      ≡ record (g.C.Compare.known l.initial.compared) { specified = take l.key-index l.state };
}
