use Rattle.vyrd_own_states.proofs.Prelude.{◌≡◌, ◌*◌, ◌≤◌, ◌^◌, given, pairs_in}
use Rattle.vyrd_own_states.proofs.own_amount.given_in.Given as goal

abbrev pub invariant-loop-place : goal.invariant-loop-place
invariant-loop-place l = record {
  given : l.amount ≡ given l.key (pairs_in l.place l.pairs);
  low : l.amount ≤ l.place * 2 ^ 64;
}
