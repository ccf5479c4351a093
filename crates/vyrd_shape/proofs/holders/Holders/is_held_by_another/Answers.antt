use Rattle.vyrd_shape.proofs.Prelude.{◌≡◌, ◌<◌, ◌≤◌, ◌-◌, ◌∙◌, ap, sym, arith, length, get_or, not}
use Rattle.vyrd_shape.proofs.Prelude.{true, ◌==◌, get_or_read, nat_tests}
use Rattle.vyrd_shape.proofs.ChainLaws.{another_none, another_is}
use Rattle.vyrd_shape.proofs.holders.Holders.is_held_by_another.Goals as goal

pub returns-then-holder-ne0 : goal.returns-then-holder-ne0
returns-then-holder-ne0 c =
    let s = c.self.inside in
    let low : c.args.word < length s.by_word.items = rw (← c.self.view_is) at c.requires in
    let read : c.index-holder.result.now ≡ get_or s.by_word.items c.args.word 0 =
    get_or_read s.by_word.items _ _ low c.index-holder.ensures 0 in
    let high : get_or s.by_word.items c.args.word 0 ≤ length s.firsts.items =
    c.self.invariant.holders c.args.word in
    rw (← c.self.view_is) (sym (another_is (record {
      callers = length s.firsts.items;
      by_word = s.by_word.items;
    }) c.args.caller c.args.word (c.index-holder.result.now - 1) (omega arith) (omega arith)))

pub returns-else-holder-ne0 : goal.returns-else-holder-ne0
returns-else-holder-ne0 c =
    let s = c.self.inside in
    let low : c.args.word < length s.by_word.items = rw (← c.self.view_is) at c.requires in
    let read : c.index-holder.result.now ≡ get_or s.by_word.items c.args.word 0 =
    get_or_read s.by_word.items _ _ low c.index-holder.ensures 0 in
    let none : (c.index-holder.result.now == 0) ≡ true = grind (arith, nat_tests) in
    rw (← c.self.view_is) (ap not none
    ∙ sym (another_none (record { callers = length s.firsts.items; by_word = s.by_word.items })
    c.args.caller c.args.word (omega arith)))
