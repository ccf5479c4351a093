use Rattle.std.proofs.Common.{◌≡◌, false, length}
use Rattle.vyrd_base.specs.Layout.{plain_words}
use Rattle.vyrd_log_tests.proofs.view.write_all.Given as goal

abbrev pub invariant-loop-word : goal.invariant-loop-word
invariant-loop-word g l = record {
  sound : l.compared.refused ≡ false;
  same : l.compared.words ≡ l.words.items;
  count : length l.words.items ≡ plain_words l.compared.header;
}
