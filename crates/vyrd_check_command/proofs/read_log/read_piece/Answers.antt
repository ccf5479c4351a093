use Rattle.std.proofs.Common.{◌++◌, subst, arith}
use Rattle.vyrd_base.specs.Devices.{Gives}
use Rattle.vyrd_log_check.specs.Checking.{HasChecked}
use Rattle.vyrd_check_command.proofs.PieceLaws.{fed_goes_on, fed_reached, end_reached}
use Rattle.vyrd_check_command.proofs.PieceLaws.{read_no_further, same_no_further}
use Rattle.vyrd_check_command.proofs.CountedLaws.{fed_counting, fed_counted, end_counted}
use Rattle.vyrd_check_command.proofs.read_log.read_piece.Goals as goal

pub returns-in-Err-clause-no_further : goal.returns-in-Err-clause-no_further
returns-in-Err-clause-no_further g c = λ max before rounds within r.
    same_no_further max before (g.S.Source.known c.args.source.now)
    (g.S.Source.known c.read.new.self) c.args.checker.now rounds within r
    c.in-Err.ensures.kept.bytes

pub returns-in_err-finish_counted-clause-no_further :
    goal.returns-in_err-finish_counted-clause-no_further
returns-in_err-finish_counted-clause-no_further g c = λ max before rounds within r.
    read_no_further max before (g.S.Source.known c.args.source.now)
    (g.S.Source.known c.read.new.self) c.args.checker.now c.read.new.buf c.in-Ok.n rounds within r
    c.in-Ok.ensures.given (omega (arith, c.requires.short, c.read.auto.buf))

pub returns-then-n-eq0-clause-no_further : goal.returns-then-n-eq0-clause-no_further
returns-then-n-eq0-clause-no_further g c = λ max before rounds within r.
    read_no_further max before (g.S.Source.known c.args.source.now)
    (g.S.Source.known c.read.new.self) c.args.checker.now c.read.new.buf c.in-Ok.n rounds within r
    c.in-Ok.ensures.given (omega (arith, c.requires.short, c.read.auto.buf))

pub returns-in_err-feed_counted-clause-no_further :
    goal.returns-in_err-feed_counted-clause-no_further
returns-in_err-feed_counted-clause-no_further g c = λ max before rounds within r.
    read_no_further max before (g.S.Source.known c.args.source.now)
    (g.S.Source.known c.read.new.self) c.args.checker.now c.read.new.buf c.in-Ok.n rounds within r
    c.in-Ok.ensures.given (omega (arith, c.requires.short, c.read.auto.buf))

pub returns-clause-no_further : goal.returns-clause-no_further
returns-clause-no_further g c = λ max before rounds within r.
    read_no_further max before (g.S.Source.known c.args.source.now)
    (g.S.Source.known c.read.new.self) c.args.checker.now c.read.new.buf c.in-Ok.n rounds within r
    c.in-Ok.ensures.given (omega (arith, c.requires.short, c.read.auto.buf))

pub returns-then-n-eq0-clause-reached : goal.returns-then-n-eq0-clause-reached
returns-then-n-eq0-clause-reached g c = λ max before rounds within r.
    let now = g.S.Source.known c.args.source.now in
    let after = g.S.Source.known c.read.new.self in
    end_reached max before now after c.args.checker.now c.read.new.buf rounds
    c.in_ok-finish_counted.field-0 r
    (subst (λ n. Gives now n c.read.new.buf after) c.if-n-eq0.true c.in-Ok.ensures.given)
    (c.in_ok-finish_counted.ensures.verdict r.taken r.checked)

pub returns-clause-goes_on : goal.returns-clause-goes_on
returns-clause-goes_on g c = λ max before rounds within r.
    fed_goes_on max before (g.S.Source.known c.args.source.now) (g.S.Source.known c.read.new.self)
    c.args.checker.now c.feed_counted.new.self c.read.new.buf
    c.in-Ok.n rounds c.in_ok-feed_counted.field-0 r c.in-Ok.ensures.given
    (omega (arith, c.if-n-eq0.false)) c.in_ok-feed_counted.ensures.limit
    (subst (λ piece. HasChecked c.feed_counted.new.self (r.taken ++ piece)) c.split_at.ensures.front
    (c.in_ok-feed_counted.ensures.checked r.taken r.checked))
    (rw c.split_at.ensures.front at (c.in_ok-feed_counted.ensures.answer r.taken r.checked))

pub returns-clause-reached : goal.returns-clause-reached
returns-clause-reached g c = λ max before rounds within r.
    fed_reached max before (g.S.Source.known c.args.source.now) (g.S.Source.known c.read.new.self)
    c.args.checker.now c.read.new.buf
    c.in-Ok.n rounds c.in_ok-feed_counted.field-0 r c.in-Ok.ensures.given
    (rw c.split_at.ensures.front at (c.in_ok-feed_counted.ensures.answer r.taken r.checked))

pub returns-then-n-eq0-clause-counted : goal.returns-then-n-eq0-clause-counted
returns-then-n-eq0-clause-counted g c = λ max before rounds first within r.
    let now = g.S.Source.known c.args.source.now in
    let after = g.S.Source.known c.read.new.self in
    end_counted max before now after c.args.checker.now c.read.new.buf c.in-Ok.n rounds first
    c.args.steps.now r c.finish_counted.new.steps
    (subst (λ n. Gives now n c.read.new.buf after) c.if-n-eq0.true c.in-Ok.ensures.given)
    (c.finish_counted.ensures.steps r.checking.taken r.checking.checked)

pub returns-clause-counting : goal.returns-clause-counting
returns-clause-counting g c = λ max before rounds first within r.
    let now = g.S.Source.known c.args.source.now in
    let after = g.S.Source.known c.read.new.self in
    let taken = r.checking.taken in
    fed_counting max before now after c.args.checker.now c.read.new.buf c.in-Ok.n rounds first
    c.args.steps.now r c.feed_counted.new.self c.feed_counted.new.steps c.in-Ok.ensures.given
    (rw c.split_at.ensures.front at (c.in_ok-feed_counted.ensures.steps taken r.checking.checked))
    c.in_ok-feed_counted.field-0 (omega (arith, c.if-n-eq0.false))
    c.in_ok-feed_counted.ensures.limit
    (rw c.split_at.ensures.front at
    (c.in_ok-feed_counted.ensures.checked taken r.checking.checked))
    (rw c.split_at.ensures.front at (c.in_ok-feed_counted.ensures.answer taken r.checking.checked))

pub returns-clause-counted : goal.returns-clause-counted
returns-clause-counted g c = λ max before rounds first within r.
    let now = g.S.Source.known c.args.source.now in
    let after = g.S.Source.known c.read.new.self in
    fed_counted max before now after c.args.checker.now c.read.new.buf c.in-Ok.n rounds first
    c.args.steps.now r c.feed_counted.new.self c.feed_counted.new.steps c.in-Ok.ensures.given
    (rw c.split_at.ensures.front at
    (c.in_ok-feed_counted.ensures.steps r.checking.taken r.checking.checked))
    c.in_ok-feed_counted.field-0
