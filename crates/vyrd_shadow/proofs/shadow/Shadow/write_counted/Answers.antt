use Rattle.vyrd_shadow.proofs.Prelude.{◌≡◌, ◌<◌, ◌∷◌, ◌++◌, [], sym, subst, arith, true, false}
use Rattle.vyrd_shadow.proofs.Prelude.{length, on_ok_weaker, Write, entry, HasFollowed, is_open}
use Rattle.vyrd_shadow.proofs.FollowLaws.{followed_through, followed_kept}
use Rattle.vyrd_shadow.proofs.PlacedLaws.{free_by_rules}
use Rattle.vyrd_shadow.proofs.shadow.Shadow.write_counted.Goals as goal

pub returns-then-is_open-clause-followed : goal.returns-then-is_open-clause-followed
returns-then-is_open-clause-followed g c = λ starting earlier followed keeps. let s =
    c.self.inside in let now = c.args.self.now in
    let low : c.args.caller < s.header.callers = rw (← c.self.view_is) at c.requires.caller in
    let low_here : c.args.caller < length s.blocks =
    omega (arith, low, c.self.invariant.all_blocks) in
    let low' : c.args.caller < length now.blocks = rw (← c.self.view_is) low_here in
    let size : length now.blocks ≡ now.header.callers =
    rw (← c.self.view_is) c.self.invariant.all_blocks in
    let opened : is_open now c.args.caller ≡ true = rw (← c.self.view_is)
    (sym c.if-is_open.ensures) in
    on_ok_weaker c.keep.result
    (λ is. subst
    (λ kept. HasFollowed kept starting (entry c.args.caller (Write c.args.word c.args.value)
    ∷ earlier)) (sym is)
    (followed_kept now starting earlier c.args.caller c.args.word c.args.value c.requires.caller
    low' opened followed keeps))
    (c.keep.ensures.ok
    (free_by_rules now starting earlier c.args.caller c.args.word c.args.value size followed keeps))

pub returns-else-is_open-clause-followed : goal.returns-else-is_open-clause-followed
returns-else-is_open-clause-followed g c = λ starting earlier followed keeps. let now =
    c.args.self.now in
    let closed : is_open now c.args.caller ≡ false = rw (← c.self.view_is)
    (sym c.if-is_open.ensures) in
    on_ok_weaker c.write_through.result
    (λ is. subst
    (λ kept. HasFollowed kept starting (entry c.args.caller (Write c.args.word c.args.value)
    ∷ earlier)) (sym is)
    (followed_through now starting earlier c.args.caller c.args.word c.args.value
    (now.changed ++ c.args.word ∷ []) c.requires.caller c.requires.word closed followed keeps))
    c.write_through.ensures.ok
