use Rattle.vyrd_shadow.proofs.Prelude.{◌≡◌, ◌<◌, ◌-◌, true, length, None, ap, sym, subst, arith}
use Rattle.vyrd_shadow.proofs.Prelude.{BlockClose, BlockCommit, broken_rule, entry, kept_by}
use Rattle.vyrd_shadow.proofs.Prelude.{ShadowKept, HasFollowed, is_open}
use Rattle.vyrd_shadow.proofs.SoundLaws.{sound_closed, effect_is}
use Rattle.vyrd_shadow.proofs.FollowLaws.{followed_close, followed_commit}
use Rattle.vyrd_shadow.proofs.shadow.Shadow.close_block_counted.Goals as goal

pub invariant_of-self : goal.invariant_of-self
invariant_of-self g c = let s = c.self.inside in
    let low : c.args.caller < s.header.callers = rw (← c.self.view_is) at c.requires.caller in
    let effect = effect_is s.words.len c.end.new.words c.deref_mut.result.now s.words.items
    (kept_by s.blocks c.args.caller)
    (omega arith) c.deref_mut.ensures.value c.end.ensures.words in
    let counts : s.count - c.len_of.result ≡ s.count - length (kept_by s.blocks c.args.caller) =
    ap (λ n. s.count - n) c.len_of.ensures in
    rw (effect, c.end.ensures.closed, c.end.ensures.changed)
    (sound_closed s.header s.words.items s.blocks s.changed.items s.count _ c.self.invariant
    c.args.caller low
    (s.count - c.len_of.result) _ counts c.end.ensures.capacity)

pub returns-clause-closed : goal.returns-clause-closed
returns-clause-closed g c = λ starting earlier followed keeps. let s = c.self.inside in
    let kept : ShadowKept =
    record {
      header = s.header;
      words = s.words.items;
      blocks = s.blocks;
      changed = s.changed.items;
    } in
    let inside : HasFollowed kept starting earlier = rw c.self.view_is followed in
    let low : c.args.caller < s.header.callers = rw (← c.self.view_is) at c.requires.caller in
    let low_here : c.args.caller < length s.blocks =
    omega (arith, low, c.self.invariant.all_blocks) in
    let opened = subst (λ (k : ShadowKept). is_open k c.args.caller ≡ true) (sym c.self.view_is)
    c.requires.opened in
    let effect = effect_is s.words.len c.end.new.words c.deref_mut.result.now s.words.items
    (kept_by s.blocks c.args.caller)
    (omega arith) c.deref_mut.ensures.value c.end.ensures.words in
    rw (effect, c.end.ensures.closed)
    (followed_close kept starting earlier c.args.caller c.end.new.changed.items low low_here
    c.self.invariant.all_words opened inside
    (subst (λ (k : ShadowKept). broken_rule k.header earlier (entry c.args.caller BlockClose)
    ≡ None)
    (sym c.self.view_is) keeps))

pub returns-clause-committed : goal.returns-clause-committed
returns-clause-committed g c = λ starting earlier followed keeps. let s = c.self.inside in
    let kept : ShadowKept =
    record {
      header = s.header;
      words = s.words.items;
      blocks = s.blocks;
      changed = s.changed.items;
    } in
    let inside : HasFollowed kept starting earlier = rw c.self.view_is followed in
    let low : c.args.caller < s.header.callers = rw (← c.self.view_is) at c.requires.caller in
    let low_here : c.args.caller < length s.blocks =
    omega (arith, low, c.self.invariant.all_blocks) in
    let opened = subst (λ (k : ShadowKept). is_open k c.args.caller ≡ true) (sym c.self.view_is)
    c.requires.opened in
    let effect = effect_is s.words.len c.end.new.words c.deref_mut.result.now s.words.items
    (kept_by s.blocks c.args.caller)
    (omega arith) c.deref_mut.ensures.value c.end.ensures.words in
    rw (effect, c.end.ensures.closed)
    (followed_commit kept starting earlier c.args.caller c.end.new.changed.items low low_here
    c.self.invariant.all_words opened inside
    (subst (λ (k : ShadowKept). broken_rule k.header earlier (entry c.args.caller BlockCommit)
    ≡ None)
    (sym c.self.view_is) keeps))
