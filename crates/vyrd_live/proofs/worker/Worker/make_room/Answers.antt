-- The room that is made is the bound of the next operation.
use Rattle.vyrd_live.proofs.Prelude.{Result, with_spare}
use Rattle.std.proofs.Common.{Ok, ◌≡◌, ◌+◌, ◌<◌, max, length, Err, ap, ◌∙◌, sym, subst}
use Rattle.vyrd_trace.specs.declared.hand.Reserve.{Reserve}
use Rattle.vyrd_trace.specs.declared.hand.Reserve.TheVariants as reserve
use Rattle.vyrd_live.proofs.RoomLaws.{room_made}
use Rattle.vyrd_live.proofs.worker.Worker.make_room.Goals as goal

isnt_spent : (u : Unit {0}) (r : Result (Unit {0}) Reserve) → r ≡ Ok u → r ≡ Err reserve.Spent → ⊥
isnt_spent u r ok err = cc

pub returns-in_ok-reserve-clause-room : goal.returns-in_ok-reserve-clause-room
returns-in_ok-reserve-clause-room g c =
    let m = c.args.self.now.machine in
    room_made (g.M.Machine.header_of m) (g.M.Machine.script m) c.args.self.now.hand
    c.reserve.new.self (g.M.Machine.op_ahead m)
    (g.met.M.Machine.ends_in_time m)
    (g.met.M.Machine.next_bound m)
    (c.in_ok-reserve.ensures.ready
    ∙ ap (λ n. with_spare c.args.self.now.hand (max c.args.self.now.hand.spare n))
    c.op_left.ensures)
    (λ over. isnt_spent c.in_ok-reserve.field-0 c.reserve.result c.in_ok-reserve.was
    (c.reserve.ensures.spent.0
    (subst (λ n. c.args.self.now.hand.limit < length c.args.self.now.hand.lane + n)
    (sym c.op_left.ensures) over)))
