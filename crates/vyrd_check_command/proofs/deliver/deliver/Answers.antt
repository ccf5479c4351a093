use Rattle.std.proofs.Common.{◌≤◌, false, length, arith}
use Rattle.vyrd_base.proofs.DeviceLaws.{writes_in_row}
use Rattle.vyrd_check_command.proofs.WriteLaws.{appends_next}
use Rattle.vyrd_check_command.proofs.deliver.deliver.Goals as goal

pub loop-written-preserved : goal.loop-written-preserved
loop-written-preserved g c =
    let before = g.K.Sink.known c.args.sink.now in
    let between = g.K.Sink.known c.loop-written.sink in
    let after = g.K.Sink.known c.write.new.self in
    let takes = rw c.split_at.ensures.back at c.in_ok-written.ensures.taken in
    let fits : length c.args.text.now ≤ before.sure_room → length c.split_at.result.1.now
    ≤ between.sure_room =
    λ e. omega (arith, e, c.loop-written.invariant.room, c.split_at.ensures.back_len) in
    record {
      within = omega (arith, c.in_ok-written.ensures.taken.within, c.split_at.ensures.back_len);
      taken = appends_next before.taken between after c.args.text.now c.loop-written.written
          c.in_ok-written.field-0 c.loop-written.invariant.taken takes;
      room = omega (arith, c.loop-written.invariant.room, c.in_ok-written.ensures.taken.room);
      sink = writes_in_row false (length c.args.text.now ≤ before.sure_room)
          (length c.split_at.result.1.now ≤ between.sure_room) before between after
          fits c.loop-written.invariant.sink c.in_ok-written.ensures.sink;
    }
