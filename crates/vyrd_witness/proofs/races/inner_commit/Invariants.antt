use Rattle.vyrd_witness.proofs.Prelude.{◌≡◌, ◌<◌, take, cond, None, IfSome, has_block, newest_first}
use Rattle.vyrd_witness.proofs.Prelude.{is_lone_commit, committed_since_open, last_of}
use Rattle.vyrd_witness.proofs.races.inner_commit.Given as goal

abbrev pub invariant-loop-at : goal.invariant-loop-at
invariant-loop-at l = record {
  block : l.in_block ≡ has_block l.fn.caller (newest_first (take l.at l.front));
  commit : l.commit ≡ cond (committed_since_open l.fn.caller (newest_first (take l.at l.front)))
      (last_of l.fn.caller is_lone_commit (newest_first (take l.at l.front))) None;
  within : IfSome l.commit (λ at. at < l.at);
}
