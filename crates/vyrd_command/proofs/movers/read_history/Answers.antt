use Rattle.vyrd_command.proofs.Prelude.{◌-◌, ◌++◌, subst, arith, false, no_read, reads_in_row}
use Rattle.vyrd_command.proofs.Prelude.{HasRead, longest_history, IsMoreRead}
use Rattle.vyrd_command.proofs.MoversLaws.{nothing_read, piece_read}
use Rattle.vyrd_command.proofs.movers.read_history.Goals as goal

pub loop-count-init : goal.loop-count-init
loop-count-init g c = record {
  few = omega arith;
  read = nothing_read (g.S.Source.known c.args.source.now) c.args.reader.now c.requires.fresh;
  unended = c.requires.unended;
  source = no_read (g.S.Source.known c.args.source.now);
}

pub loop-count-preserved : goal.loop-count-preserved
loop-count-preserved g c =
    let before = g.S.Source.known c.args.source.now in
    let between = g.S.Source.known c.loop-count.source in
    let after = g.S.Source.known c.read_more.new.source in
    let most = longest_history - c.loop-count.count in
    let piece = c.read_more.new.bytes.items in
    let n = c.in_ok-n.n in
    let so_far = c.loop-count.invariant.read in
    let more = subst (λ old. IsMoreRead most between after old piece n) c.clear.ensures.items
    c.in_ok-n.ensures.more in
    let fed = subst (λ bytes. HasRead c.feed.new.self (so_far.taken ++ bytes)) c.deref.ensures.value
    (c.feed.ensures so_far.taken so_far.read) in
    record {
      few = omega (arith, more.few, c.loop-count-test.true);
      read = piece_read before between after c.loop-count.reader c.feed.new.self c.loop-count.count
          most n piece so_far more fed;
      unended = more.goes_on (omega (arith, c.if-n-eq0.false));
      source = reads_in_row false before between after c.loop-count.invariant.source
          c.in_ok-n.ensures.source;
    }
