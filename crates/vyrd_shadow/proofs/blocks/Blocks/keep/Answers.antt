use Rattle.vyrd_shadow.proofs.Prelude.{◌≡◌, ◌∙◌, Some, None, ap, sym, true, false, set, get_or_read}
use Rattle.vyrd_shadow.proofs.Prelude.{kept_by, with_kept, is_at}
use Rattle.vyrd_shadow.proofs.PlacedLaws.{place_is, replaced_in, replaced_length, pushed_in}
use Rattle.vyrd_shadow.proofs.PlacedLaws.{pushed_length}
use Rattle.vyrd_shadow.proofs.blocks.Blocks.keep.Goals as goal

pub returns-then-has_at-clause-ok : goal.returns-then-has_at-clause-ok
returns-then-has_at-clause-ok c = let s = c.self.inside in let blocks = s.blocks.items in
    let place = place_is s.holders.items c.deref.result.now c.args.word c.holder_of-place.result
    c.holder_of-place.ensures c.deref.ensures.value in
    let here : is_at c.holder_of-place.result.1 c.args.word (kept_by blocks c.args.caller) ≡ true =
    ap (λ bs. is_at c.holder_of-place.result.1 c.args.word (kept_by bs c.args.caller))
    (sym c.deref-2.ensures.value) ∙ sym c.if-has_at.ensures in
    let read = get_or_read blocks c.args.caller c.index_mut.result.now
    (rw (← c.self.view_is) at c.requires.caller) c.index_mut.ensures.value None in
    replaced_in blocks s.holders.items c.args.caller c.args.word c.args.value
    c.holder_of-place.result.1 c.index_mut.result.now c.replace.new.self
    c.self.invariant place here read c.replace.ensures
    ∙ ap (λ bs. set bs c.args.caller
    (Some (with_kept (kept_by bs c.args.caller) c.args.word c.args.value))) c.self.view_is

pub returns-then-has_at-clause-more : goal.returns-then-has_at-clause-more
returns-then-has_at-clause-more c = let s = c.self.inside in let blocks = s.blocks.items in
    let place = place_is s.holders.items c.deref.result.now c.args.word c.holder_of-place.result
    c.holder_of-place.ensures c.deref.ensures.value in
    let here : is_at c.holder_of-place.result.1 c.args.word (kept_by blocks c.args.caller) ≡ true =
    ap (λ bs. is_at c.holder_of-place.result.1 c.args.word (kept_by bs c.args.caller))
    (sym c.deref-2.ensures.value) ∙ sym c.if-has_at.ensures in
    rw (← c.self.view_is)
    (replaced_length blocks s.holders.items c.args.caller c.args.word c.args.value
    c.holder_of-place.result.1
    c.self.invariant place here)

pub returns-clause-ok : goal.returns-clause-ok
returns-clause-ok c = let s = c.self.inside in let blocks = s.blocks.items in
    let place = place_is s.holders.items c.deref.result.now c.args.word c.holder_of-place.result
    c.holder_of-place.ensures c.deref.ensures.value in
    let nowhere : is_at c.holder_of-place.result.1 c.args.word (kept_by blocks c.args.caller)
    ≡ false =
    ap (λ bs. is_at c.holder_of-place.result.1 c.args.word (kept_by bs c.args.caller))
    (sym c.deref-2.ensures.value) ∙ sym c.if-has_at.ensures in
    let last = pushed_in blocks s.holders.items c.args.caller c.args.word c.args.value
    c.holder_of-place.result.1 c.self.invariant place nowhere in
    c.in_ok-push.ensures.ok ∙ ap (λ ws. set c.args.self.now c.args.caller (Some ws))
    (rw (← c.self.view_is) last)

pub returns-clause-more : goal.returns-clause-more
returns-clause-more c = let s = c.self.inside in let blocks = s.blocks.items in
    let place = place_is s.holders.items c.deref.result.now c.args.word c.holder_of-place.result
    c.holder_of-place.ensures c.deref.ensures.value in
    let nowhere : is_at c.holder_of-place.result.1 c.args.word (kept_by blocks c.args.caller)
    ≡ false =
    ap (λ bs. is_at c.holder_of-place.result.1 c.args.word (kept_by bs c.args.caller))
    (sym c.deref-2.ensures.value) ∙ sym c.if-has_at.ensures in
    rw (← c.self.view_is)
    (pushed_length blocks s.holders.items c.args.caller c.args.word c.args.value
    c.holder_of-place.result.1
    c.self.invariant place nowhere)
