use Rattle.vyrd_follow.proofs.Prelude.{◌≡◌, ◌*◌, ◌/◌, length, take, ap, ◌∙◌, sym, arith, arc_value}
use Rattle.vyrd_follow.proofs.Prelude.{length-take, Own, own_view, written_in}
use Rattle.vyrd_follow.proofs.OwnWordLaws.{start_count, whole_within, whole_shows}
use Rattle.vyrd_follow.proofs.own_words.OwnWords.new.Goals as goal

module _ (c : goal.After-deref) where
  count : length c.in_ok-words.words.items ≡ c.args.header.size
  count = start_count c.args.header c.args.starting.now c.in_ok-words.words.items
      c.requires.subject c.in_ok-words.ensures

  same : c.parts.result * c.width.result ≡ c.in_ok-parts.parts.parts * c.in_ok-parts.parts.width
  same = ap (λ k. k * c.width.result) c.parts.ensures
      ∙ ap (λ k. c.in_ok-parts.parts.parts * k) c.width.ensures

  taken : length (take (c.parts.result * c.width.result) c.deref.result.now)
      ≡ c.parts.result * c.width.result
  taken = omega (
    arith,
    length-take (c.parts.result * c.width.result) c.deref.result.now,
    ap length c.deref.ensures.value,
    same,
    whole_within c.args.header.size c.in_ok-parts.parts.width c.in_ok-parts.parts.parts
        (length c.in_ok-words.words.items) count c.in_ok-parts.ensures.parts,
  )

pub slice_bounds-sums_of-end : goal.slice_bounds-sums_of-end
slice_bounds-sums_of-end c = sym (taken c)

pub sums_of-requires : goal.sums_of-requires
sums_of-requires c = record { count = taken c ∙ same c }

pub invariant_of-result : goal.invariant_of-result
invariant_of-result c =
    let parts = c.in_ok-parts.parts in
    let made = c.in_ok-parts.ensures in
    let words = c.in_ok-words.words.items in
    let w = written_in (arc_value parts.specification) in
    let subject : parts.header.subject ≡ Own =
    ap (λ h. h.subject) made.header ∙ c.requires.subject in
    let many : parts.parts ≡ parts.header.size / parts.width =
    made.parts ∙ ap (λ h. h.size / parts.width) (sym made.header) in
    let count : length words ≡ parts.header.size =
    start_count c.args.header c.args.starting.now words c.requires.subject c.in_ok-words.ensures
    ∙ ap (λ h. h.size) (sym made.header) in
    let same : c.parts.result * c.width.result ≡ parts.parts * parts.width =
    ap (λ k. k * c.width.result) c.parts.ensures ∙ ap (λ k. parts.parts * k) c.width.ensures in (
      subject,
      many,
      count,
      λ sound. c.in_ok-shown.ensures
          ∙ ap (λ n. own_view w (take n c.deref.result.now)) same
          ∙ ap (λ all. own_view w (take (parts.parts * parts.width) all)) c.deref.ensures.value
          ∙ whole_shows parts.header (arc_value parts.specification) parts.width parts.parts
          subject parts.width_is many words count,
    )
