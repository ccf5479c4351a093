use Rattle.vyrd_words.proofs.Prelude.{◌≡◌, ◌≤◌, ◌+◌, ◌*◌, false, take, sum_by, first_with}
use Rattle.vyrd_words.proofs.Prelude.{with_part, begun_with, written}
use Rattle.vyrd_words.proofs.words.give.Given as goal

abbrev pub invariant-loop-word : goal.invariant-loop-word
invariant-loop-word g l = record {
  first : l.views.first ≡ first_with 0 (written l.words (take l.word-index l.changed))
      l.initial.views.first l.initial.views.since;
  since : l.views.since ≡ with_part 0 (written l.words (take l.word-index l.changed))
      l.initial.views.since;
  begun : l.views.begun ≤ begun_with 0 (written l.words (take l.word-index l.changed))
      l.initial.views.begun l.initial.views.since;
  specified : l.views.specified ≡ l.initial.views.specified;
  sound : l.views.refused ≡ false;
  header : l.views.header ≡ l.initial.views.header;
  shows : l.views.shows ≡ l.initial.views.shows;
  steps : l.steps + l.views.pending ≤ l.initial.steps + l.initial.views.pending
      + sum_by (g.C.Compare.price l.initial.views.shows) (take l.word-index l.changed) + 4
      * l.word-index;
}
