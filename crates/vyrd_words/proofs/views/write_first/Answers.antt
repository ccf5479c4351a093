use Rattle.std.proofs.Common.{◌≡◌, ◌+◌, ◌-◌, ◌∷◌, ◌++◌, [], suc, vec_len, map, take, sym, ap, ◌∙◌}
use Rattle.std.proofs.Common.{arith, append-nil}
use Rattle.vyrd_words.proofs.CutLaws.{caught_up, dropped, range_left, one_taken, changed_more}
use Rattle.vyrd_words.proofs.views.write_first.Goals as goal
use Rattle.vyrd_words.proofs.views.write_first.Goals.{in-Some, in_default}

pub loop-preserved : goal.loop-preserved
loop-preserved g c =
    let more : c.args.count - c.loop.counter ≡ suc (c.args.count - (c.loop.counter + 1)) =
    omega (arith, c.loop-test.true) in
    elim c.match-pop_front.branch [
      | in-Some w ↦ record {
        left = one_taken c.loop.writes.items c.pop_front.new.self.items w.in-Some.write.0
            w.in-Some.write.1 (c.args.count - c.loop.counter)
            (c.args.count - (c.loop.counter + 1)) more w.in-Some.ensures.items
            c.loop.invariant.left;
        in_range = range_left (vec_len c.args.words.now) c.loop.writes.items
            c.pop_front.new.self.items w.in-Some.write.0 w.in-Some.write.1
            w.in-Some.ensures.items c.loop.invariant.in_range;
        words = rw (w.words-is, w.word-word.ensures, w.value.ensures)
            (sym (caught_up c.loop.words.items c.loop.writes.items c.pop_front.new.self.items
            w.in-Some.write.0 w.in-Some.write.1 (c.args.count - c.loop.counter)
            (c.args.count - (c.loop.counter + 1)) more w.in-Some.ensures.items)
            ∙ c.loop.invariant.words);
        changed = rw w.changed-is
            (ap (λ xs. xs ++ map (λ write. write.0)
            (take (c.args.count - (c.loop.counter + 1)) c.pop_front.new.self.items))
            (w.note.ensures.items ∙ ap (λ word. c.loop.changed.items ++ word ∷ [])
            w.word-word.ensures)
            ∙ sym (changed_more c.loop.writes.items c.pop_front.new.self.items c.loop.changed.items
            w.in-Some.write.0 w.in-Some.write.1 (c.args.count - c.loop.counter)
            (c.args.count - (c.loop.counter + 1)) more w.in-Some.ensures.items)
            ∙ c.loop.invariant.changed);
        writes = sym
            (dropped c.loop.writes.items c.pop_front.new.self.items w.in-Some.write.0
            w.in-Some.write.1 (c.args.count - c.loop.counter)
            (c.args.count - (c.loop.counter + 1)) more w.in-Some.ensures.items)
            ∙ c.loop.invariant.writes;
        all = rw w.words-is c.loop.invariant.all;
        room = rw w.changed-is
            (omega (
              arith,
              more,
              w.note.ensures.len,
              w.note.ensures.capacity,
              c.loop.invariant.room,
            ));
        steps = omega (arith, c.tick.ensures, c.loop.invariant.steps);
        capacity = rw w.changed-is
            (omega (arith, w.note.ensures.capacity, c.loop.invariant.capacity));
      }
      | in_default w ↦ absurd
          (omega (
            arith,
            more,
            c.loop.invariant.left,
            w.in_default.ensures.cases.0,
            c.loop.writes.ok.0,
          ))
    ]

pub returns-clause-changed : goal.returns-clause-changed
returns-clause-changed g c =
    grind (arith, append-nil c.loop.changed.items, c.loop-test.false, c.loop.invariant.changed)
