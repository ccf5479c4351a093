use Rattle.vyrd_shadow.proofs.Prelude.{◌<◌, ◌+◌, Some, None, cond, ap, ◌∙◌, arith, get_or, length}
use Rattle.vyrd_shadow.proofs.Prelude.{refl, plain_words, kept_by, with_kept}
use Rattle.vyrd_shadow.proofs.SoundLaws.{sound_kept}
use Rattle.vyrd_shadow.proofs.shadow.Shadow.keep.Goals as goal

pub invariant_of-self-then-is_new : goal.invariant_of-self-then-is_new
invariant_of-self-then-is_new c = let s = c.self.inside in
    let low : c.args.caller < s.header.callers = rw (← c.self.view_is) at c.requires.caller in
    let low_w : c.args.word < plain_words s.header = rw (← c.self.view_is) at c.requires.word in
    let more = c.in_ok-is_new.ensures.more
    ∙ ap (λ b. length (kept_by s.blocks c.args.caller) + cond b 1 0) c.if-is_new.true in
    rw (c.in_ok-is_new.ensures.ok)
    (sound_kept s.header s.words.items s.blocks s.changed.items s.count _ c.self.invariant
    c.args.caller c.args.word c.args.value
    (get_or s.blocks c.args.caller None)
    (Some (with_kept (kept_by s.blocks c.args.caller) c.args.word c.args.value))
    low low_w c.requires.value refl refl c.reserve.new.self.items 1
    (s.count + 1) _ c.reserve.ensures.items more (omega arith)
    (omega (arith, c.in_ok-reserve.ensures.ok)))

pub invariant_of-self-else-is_new : goal.invariant_of-self-else-is_new
invariant_of-self-else-is_new c = let s = c.self.inside in
    let low : c.args.caller < s.header.callers = rw (← c.self.view_is) at c.requires.caller in
    let low_w : c.args.word < plain_words s.header = rw (← c.self.view_is) at c.requires.word in
    let more = c.in_ok-is_new.ensures.more
    ∙ ap (λ b. length (kept_by s.blocks c.args.caller) + cond b 1 0) c.if-is_new.false in
    rw (c.in_ok-is_new.ensures.ok)
    (sound_kept s.header s.words.items s.blocks s.changed.items s.count _ c.self.invariant
    c.args.caller c.args.word c.args.value
    (get_or s.blocks c.args.caller None)
    (Some (with_kept (kept_by s.blocks c.args.caller) c.args.word c.args.value))
    low low_w c.requires.value refl refl c.reserve.new.self.items 0 s.count _
    c.reserve.ensures.items more
    (omega arith) (omega (arith, c.in_ok-reserve.ensures.ok)))
