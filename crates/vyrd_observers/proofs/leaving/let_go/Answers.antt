use Rattle.vyrd_observers.proofs.Prelude.{◌≡◌, length, set, get_or, ap, ◌∙◌, arith, length-set}
use Rattle.vyrd_observers.proofs.Prelude.{Asked}
use Rattle.vyrd_observers.proofs.TrailLaws.{stay_then}
use Rattle.vyrd_observers.proofs.CallersSee.{read_is}
use Rattle.vyrd_observers.proofs.CostLaws.{kept_at}
use Rattle.vyrd_observers.proofs.AskerLaws.{leaves_at, counts_some, used_left, some_left}
use Rattle.vyrd_observers.proofs.leaving.let_go.Goals as goal

pub leave-requires : goal.leave-requires
leave-requires g c = search (counts_some, arith)

pub forget_some-requires : goal.forget_some-requires
forget_some-requires g c =
    let trails = c.args.trails.now in
    let watches = c.args.watches.now.items in
    let i = c.args.trail in
    let u = c.leave.new.self in
    let now = set trails i u in
    let so = leaves_at trails watches i c.index-trails-trail.result u c.requires.trail
    c.leave.ensures.left
    c.requires.on c.requires.used c.requires.counted in
    let read = c.index-trails-trail-2 in
    let it : u ≡ get_or now i read.result = read_is now i u read.result so.there read.is
    ∙ read.is in
    let long = ap (λ (t : Asked). length t.others) it in
    record {
      trail = omega (arith, c.requires.trail, length-set trails i u);
      some = some_left i trails now watches u so
          (omega (arith, c.if-len-gt0.true, c.len.ensures, long));
      on = so.on;
      used = so.others;
    }

pub returns-then-len-gt0 : goal.returns-then-len-gt0
returns-then-len-gt0 g c =
    let trails = c.args.trails.now in
    let i = c.args.trail in
    let u = c.leave.new.self in
    let so = leaves_at trails c.args.watches.now.items i c.index-trails-trail.result u
    c.requires.trail c.leave.ensures.left c.requires.on c.requires.used c.requires.counted in
    let then = c.forget_some.ensures in
    record {
      seen = then.seen ∙ so.seen;
      on = then.on;
      asking = λ h all. then.asking h (so.asking h all);
      used = then.used;
      counted = then.counted so.counted;
      stay = stay_then trails (set trails i u) c.forget_some.new.trails so.stay then.stay;
      closed = then.closed;
      steps = omega (
        arith,
        then.steps,
        c.leave.ensures.steps,
        kept_at trails i c.index-trails-trail.result u c.requires.trail,
      );
    }

pub returns-else-len-gt0 : goal.returns-else-len-gt0
returns-else-len-gt0 g c =
    let trails = c.args.trails.now in
    let watches = c.args.watches.now.items in
    let i = c.args.trail in
    let u = c.leave.new.self in
    let now = set trails i u in
    let so = leaves_at trails watches i c.index-trails-trail.result u c.requires.trail
    c.leave.ensures.left
    c.requires.on c.requires.used c.requires.counted in
    let read = c.index-trails-trail-2 in
    let it : u ≡ get_or now i read.result = read_is now i u read.result so.there read.is
    ∙ read.is in
    let long = ap (λ (t : Asked). length t.others) it in
    record {
      seen = so.seen;
      on = so.on;
      asking = so.asking;
      used = used_left i trails now watches u so
          (omega (arith, c.if-len-gt0.false, c.len.ensures, long));
      counted = so.counted;
      stay = so.stay;
      closed = λ d here. here;
      steps = omega (
        arith,
        c.leave.ensures.steps,
        kept_at trails i c.index-trails-trail.result u c.requires.trail,
      );
    }
