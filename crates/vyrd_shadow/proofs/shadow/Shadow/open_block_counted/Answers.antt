use Rattle.vyrd_shadow.proofs.Prelude.{◌≡◌, ◌<◌, None, subst, sym, arith, BlockOpen, broken_rule}
use Rattle.vyrd_shadow.proofs.Prelude.{entry, ShadowKept, HasFollowed}
use Rattle.vyrd_shadow.proofs.FollowLaws.{followed_open}
use Rattle.vyrd_shadow.proofs.shadow.Shadow.open_block_counted.Goals as goal

pub returns-clause-followed : goal.returns-clause-followed
returns-clause-followed g c = λ starting earlier followed keeps. let s = c.self.inside in
    let low : c.args.caller < s.header.callers = rw (← c.self.view_is) at c.requires.caller in
    let inside : HasFollowed (record {
      header = s.header;
      words = s.words.items;
      blocks = s.blocks;
      changed = s.changed.items;
    }) starting earlier = rw c.self.view_is followed in
    rw c.open.ensures (followed_open (record {
      header = s.header;
      words = s.words.items;
      blocks = s.blocks;
      changed = s.changed.items;
    }) starting earlier c.args.caller (omega (arith, low, c.self.invariant.all_blocks)) inside
    (subst (λ (k : ShadowKept). broken_rule k.header earlier (entry c.args.caller BlockOpen) ≡ None)
    (sym c.self.view_is) keeps))
