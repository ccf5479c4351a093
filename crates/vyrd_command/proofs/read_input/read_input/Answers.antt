use Rattle.vyrd_command.proofs.Prelude.{◌∙◌, arith, length-drop, false, reads_in_row}
use Rattle.vyrd_command.proofs.BehindLaws.{taken_behind}
use Rattle.vyrd_command.proofs.read_input.read_input.Goals as goal

pub loop-count-preserved : goal.loop-count-preserved
loop-count-preserved g c =
    let gives = c.in_ok-n.ensures.given in
    let within = gives.within in
    let behind = length-drop c.loop-count.count c.read_behind.new.bytes.items in
    let before = g.S.Source.known c.args.source.now in
    let between = g.S.Source.known c.loop-count.source in
    let after = g.S.Source.known c.read_behind.new.source in
    let told = taken_behind before between after
    c.loop-count.count c.in_ok-n.n c.loop-count.bytes.items c.read_behind.new.bytes.items
    c.loop-count.invariant.told
    (c.in_ok-n.ensures.front ∙ c.in_ok-make_room.ensures.front) gives in
    record {
      within = omega (arith, within, behind, c.in_ok-make_room.ensures.room, c.in_ok-n.ensures.len);
      few = omega (
        arith,
        within,
        behind,
        c.in_ok-make_room.ensures.room,
        c.in_ok-make_room.ensures.high,
        c.in_ok-n.ensures.len,
      );
      high = omega (arith, c.in_ok-make_room.ensures.high, c.in_ok-n.ensures.len);
      short = omega (arith, c.in_ok-make_room.ensures.short, c.in_ok-n.ensures.len);
      told = told;
      unended = gives.goes_on (omega (arith, c.if-n-eq0.false));
      source = reads_in_row false before between after c.loop-count.invariant.source
          c.in_ok-n.ensures.source;
    }
