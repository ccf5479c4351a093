use Rattle.vyrd_follow.proofs.Prelude.{◌<◌, ap, ◌∙◌, arith, view_of_words}
use Rattle.vyrd_follow.proofs.TurnLaws.{turns_of_two, turns_of_one}
use Rattle.vyrd_follow.proofs.turns.turns_of.Goals as goal
use Rattle.vyrd_follow.proofs.turns.turns_of.Goals.{then-low-high+in_ok-put_turn-2, else-low-high}

pub returns : goal.returns
returns c =
    let from = c.args.shown.now in
    let to = view_of_words c.args.header c.args.words.now in
    let low = c.args.low in
    let high = c.args.high in
    let none = c.new-found.result.items in
    let one = c.put_turn.new.found.items in
    let all = c.if-low-high.found.items in
    elim c.if-low-high.branch [
      | then-low-high+in_ok-put_turn-2 w ↦
          let order : c.args.low < c.args.high =
          omega (arith, c.requires.order, w.if-low-high.true) in
          turns_of_two from to low high none one all c.requires.others c.new-found.ensures.items
          c.in_ok-put_turn.ensures (ap (λ v. v.items) w.found-is ∙ w.in_ok-put_turn-2.ensures)
          order
      | else-low-high w ↦
          turns_of_one from to low high none one all c.requires.others c.new-found.ensures.items
          c.in_ok-put_turn.ensures (ap (λ v. v.items) w.found-is) w.if-low-high.false
    ]
