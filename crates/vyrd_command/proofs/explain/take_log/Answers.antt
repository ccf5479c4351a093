use Rattle.vyrd_command.proofs.Prelude.{arith, false, no_read, reads_in_row}
use Rattle.vyrd_command.proofs.ExplainLaws.{nothing_taken, same_no_further, few_more}
use Rattle.vyrd_command.proofs.ExplainLaws.{read_no_further, piece_taken, piece_settles}
use Rattle.vyrd_command.proofs.ExplainLaws.{longest_settled}
use Rattle.vyrd_command.proofs.explain.take_log.Goals as goal

pub loop-count-init : goal.loop-count-init
loop-count-init g c = record {
  few = omega arith;
  taken = nothing_taken c.args.max_lines (g.S.Source.known c.args.source.now) c.args.explainer.now
      c.requires.limit c.requires.fresh;
  unended = c.requires.unended;
  source = no_read (g.S.Source.known c.args.source.now);
}

pub returns-in_err-n-clause-no_further : goal.returns-in_err-n-clause-no_further
returns-in_err-n-clause-no_further g c =
    same_no_further c.args.max_lines (g.S.Source.known c.args.source.now)
    (g.S.Source.known c.loop-count.source) (g.S.Source.known c.read_more.new.source)
    c.loop-count.explainer c.loop-count.count
    (record { low = c.requires.low; high = c.requires.high }) c.loop-count.invariant.taken
    c.loop-count.invariant.few
    c.in_err-n.ensures.kept.bytes

pub returns-then-n-eq0-clause-no_further : goal.returns-then-n-eq0-clause-no_further
returns-then-n-eq0-clause-no_further g c =
    read_no_further c.args.max_lines (g.S.Source.known c.args.source.now)
    (g.S.Source.known c.loop-count.source) (g.S.Source.known c.read_more.new.source)
    c.loop-count.explainer c.loop-count.count
    (record { low = c.requires.low; high = c.requires.high }) c.loop-count.invariant.taken
    c.loop-count.invariant.few
    c.longest_explained-most.result c.in_ok-n.n c.clear.new.self.items c.read_more.new.bytes.items
    c.longest_explained-most.ensures c.clear.ensures.items
    c.in_ok-n.ensures.more

pub returns-in_err-is_settled-clause-no_further : goal.returns-in_err-is_settled-clause-no_further
returns-in_err-is_settled-clause-no_further g c =
    read_no_further c.args.max_lines (g.S.Source.known c.args.source.now)
    (g.S.Source.known c.loop-count.source) (g.S.Source.known c.read_more.new.source)
    c.loop-count.explainer c.loop-count.count
    (record { low = c.requires.low; high = c.requires.high }) c.loop-count.invariant.taken
    c.loop-count.invariant.few
    c.longest_explained-most.result c.in_ok-n.n c.clear.new.self.items c.read_more.new.bytes.items
    c.longest_explained-most.ensures c.clear.ensures.items
    c.in_ok-n.ensures.more

pub returns-then-is_settled-clause-no_further : goal.returns-then-is_settled-clause-no_further
returns-then-is_settled-clause-no_further g c =
    read_no_further c.args.max_lines (g.S.Source.known c.args.source.now)
    (g.S.Source.known c.loop-count.source) (g.S.Source.known c.read_more.new.source)
    c.loop-count.explainer c.loop-count.count
    (record { low = c.requires.low; high = c.requires.high }) c.loop-count.invariant.taken
    c.loop-count.invariant.few
    c.longest_explained-most.result c.in_ok-n.n c.clear.new.self.items c.read_more.new.bytes.items
    c.longest_explained-most.ensures c.clear.ensures.items
    c.in_ok-n.ensures.more

pub returns-then-is_settled-clause-taken : goal.returns-then-is_settled-clause-taken
returns-then-is_settled-clause-taken g c =
    piece_settles c.args.max_lines (g.S.Source.known c.args.source.now)
    (g.S.Source.known c.loop-count.source) (g.S.Source.known c.read_more.new.source)
    c.loop-count.explainer c.loop-count.count
    (record { low = c.requires.low; high = c.requires.high }) c.loop-count.invariant.taken
    c.loop-count.invariant.few
    c.longest_explained-most.result c.in_ok-n.n c.clear.new.self.items c.read_more.new.bytes.items
    c.longest_explained-most.ensures c.clear.ensures.items
    c.in_ok-n.ensures.more
    c.feed.new.self c.deref.result.now c.in_ok-is_settled.is_settled c.deref.ensures.value
    c.in_ok-is_settled.ensures.limit
    c.in_ok-is_settled.ensures.taken c.in_ok-is_settled.ensures.settled c.if-is_settled.true

pub loop-count-preserved : goal.loop-count-preserved
loop-count-preserved g c = record {
  few = few_more c.args.max_lines (g.S.Source.known c.args.source.now)
      (g.S.Source.known c.loop-count.source) (g.S.Source.known c.read_more.new.source)
      c.loop-count.explainer c.loop-count.count
      (record { low = c.requires.low; high = c.requires.high }) c.loop-count.invariant.taken
      c.loop-count.invariant.few
      c.longest_explained-most.result c.in_ok-n.n c.clear.new.self.items c.read_more.new.bytes.items
      c.longest_explained-most.ensures c.clear.ensures.items
      c.in_ok-n.ensures.more;
  taken = piece_taken c.args.max_lines (g.S.Source.known c.args.source.now)
      (g.S.Source.known c.loop-count.source) (g.S.Source.known c.read_more.new.source)
      c.loop-count.explainer c.loop-count.count
      (record { low = c.requires.low; high = c.requires.high }) c.loop-count.invariant.taken
      c.loop-count.invariant.few
      c.longest_explained-most.result c.in_ok-n.n c.clear.new.self.items c.read_more.new.bytes.items
      c.longest_explained-most.ensures c.clear.ensures.items
      c.in_ok-n.ensures.more
      c.feed.new.self c.deref.result.now c.in_ok-is_settled.is_settled c.deref.ensures.value
      c.in_ok-is_settled.ensures.limit
      c.in_ok-is_settled.ensures.taken c.in_ok-is_settled.ensures.settled c.if-is_settled.false;
  unended = c.in_ok-n.ensures.more.goes_on (omega (arith, c.if-n-eq0.false));
  source = reads_in_row false (g.S.Source.known c.args.source.now)
      (g.S.Source.known c.loop-count.source) (g.S.Source.known c.read_more.new.source)
      c.loop-count.invariant.source c.in_ok-n.ensures.source;
}

-- The loop never ends by its count.
pub returns-clause-taken : goal.returns-clause-taken
returns-clause-taken g c =
    longest_settled c.args.max_lines (g.S.Source.known c.args.source.now)
    (g.S.Source.known c.loop-count.source) c.loop-count.explainer c.loop-count.count
    c.requires.low c.loop-count.invariant.taken
    (omega (arith, c.loop-count-test.false, c.longest_explained-most.ensures))

pub returns-clause-no_further : goal.returns-clause-no_further
returns-clause-no_further g c =
    longest_settled c.args.max_lines (g.S.Source.known c.args.source.now)
    (g.S.Source.known c.loop-count.source) c.loop-count.explainer c.loop-count.count
    c.requires.low c.loop-count.invariant.taken
    (omega (arith, c.loop-count-test.false, c.longest_explained-most.ensures))
