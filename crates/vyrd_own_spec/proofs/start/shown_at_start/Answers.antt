use Rattle.vyrd_own_spec.proofs.Prelude.{◌≡◌, ℕ, true, false, not, length, Ok, ap, sym, ◌∙◌, subst}
use Rattle.vyrd_own_spec.proofs.Prelude.{List, arc_value, Amounts, own_view, written_in, are_low}
use Rattle.vyrd_own_spec.proofs.StartLaws.{shown_summed, shown_beyond, count_is, not_low}
use Rattle.vyrd_own_spec.proofs.start.shown_at_start.Goals as goal

pub returns-then-not-branch-clause-fits : goal.returns-then-not-branch-clause-fits
returns-then-not-branch-clause-fits c =
    let d = c.in_ok-decoder.decoder in
    let says : arc_value d.specification ≡ arc_value c.args.specification.now =
    c.in_ok-decoder.ensures.lines ∙ c.in_ok-try_clone.ensures in
    sym (ap not (subst
    (λ (lines : List (List ℕ)). are_low (own_view (written_in lines) c.args.words.now) ≡ false) says
    (not_low (own_view (written_in (arc_value d.specification)) c.args.words.now)
    (shown_beyond (written_in (arc_value d.specification)) d.width d.places d.parts c.args.words.now
    d.width_is d.few
    (count_is c.args.header.size (length c.args.words.now) d.width d.parts
    (written_in (arc_value c.args.specification.now))
    (written_in (arc_value d.specification)) c.requires.count c.requires.whole (ap written_in says)
    d.width_is c.in_ok-decoder.ensures.parts)
    (c.in_ok-add_parts.ensures.beyond (ap Ok c.if-not-branch.true))))))

pub returns-clause-shown : goal.returns-clause-shown
returns-clause-shown c =
    let d = c.in_ok-decoder.decoder in
    let says : arc_value d.specification ≡ arc_value c.args.specification.now =
    c.in_ok-decoder.ensures.lines ∙ c.in_ok-try_clone.ensures in
    subst (λ (lines : List (List ℕ)). c.add_parts.new.shown
    ≡ own_view (written_in lines) c.args.words.now) says
    (shown_summed (written_in (arc_value d.specification)) d.width d.places d.parts c.args.words.now
    c.add_parts.new.shown d.width_is d.few
    (count_is c.args.header.size (length c.args.words.now) d.width d.parts
    (written_in (arc_value c.args.specification.now))
    (written_in (arc_value d.specification)) c.requires.count c.requires.whole (ap written_in says)
    d.width_is c.in_ok-decoder.ensures.parts)
    (c.in_ok-add_parts.ensures.fits (ap Ok c.if-not-branch.false)))

pub returns-clause-fits : goal.returns-clause-fits
returns-clause-fits c =
    let d = c.in_ok-decoder.decoder in
    let says : arc_value d.specification ≡ arc_value c.args.specification.now =
    c.in_ok-decoder.ensures.lines ∙ c.in_ok-try_clone.ensures in
    let sums = c.in_ok-add_parts.ensures.fits (ap Ok c.if-not-branch.false) in
    let shown = shown_summed (written_in (arc_value d.specification)) d.width d.places d.parts
    c.args.words.now c.add_parts.new.shown d.width_is d.few
    (count_is c.args.header.size (length c.args.words.now) d.width d.parts
    (written_in (arc_value c.args.specification.now))
    (written_in (arc_value d.specification)) c.requires.count c.requires.whole (ap written_in says)
    d.width_is c.in_ok-decoder.ensures.parts) sums in
    sym (ap not (subst
    (λ (lines : List (List ℕ)). are_low (own_view (written_in lines) c.args.words.now) ≡ true) says
    (subst (λ (s : Amounts). are_low s ≡ true) shown sums.low)))
