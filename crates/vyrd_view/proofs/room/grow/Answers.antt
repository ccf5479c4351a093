use Rattle.std.proofs.Common.{◌≡◌, ◌+◌, ◌*◌, length, ◌∙◌, arith}
use Rattle.vyrd_view.proofs.RoomLaws.{quiet_count, quiet_old, quiet_new}
use Rattle.vyrd_view.proofs.room.grow.Goals as goal

pub loop-part-preserved : goal.loop-part-preserved
loop-part-preserved g c =
    let d = g.D.Decode in
    let decoder = c.args.decoder.now in
    let part = c.loop-part.part in
    let first = c.args.parts.now.pairs in
    let pairs = c.loop-part.parts.pairs in
    let now = c.push_quiet.new.parts.pairs in
    let before = c.loop-part.invariant in
    let ok = c.in_ok-push_quiet.ensures in
    let some = (g.met.D.Decode.narrow decoder).2 in
    let count : length now ≡ part * d.places decoder + d.places decoder =
    quiet_count (d.width decoder) (d.places decoder) part (d.gives decoder) first pairs now some
    before.places ok.pairs in
    record {
      sound = ok.sound;
      specified = ok.specified ∙ before.specified;
      places = omega (arith, count);
      grown = omega (arith, count, before.places, before.grown);
      old = λ m low.
          quiet_old (d.width decoder) (d.places decoder) part (d.gives decoder) first pairs now some
          before.places ok.pairs m (omega (arith, low, before.grown))
          ∙ before.old m low;
      new = quiet_new (d.width decoder) (d.places decoder) part (d.gives decoder) first pairs now
          some before.places ok.pairs before.new;
    }
