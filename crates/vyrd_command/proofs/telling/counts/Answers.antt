use Rattle.vyrd_command.proofs.Prelude.{◌++◌, [], ◌∷◌, ap, ◌∙◌, sym, append_assoc, codes, decimal}
use Rattle.vyrd_command.proofs.telling.counts.Goals as goal

pub returns : goal.returns
returns c =
    let n = c.args.count in
    let first = c.push.ensures.bytes
    ∙ ap (λ line. line ++ codes "generated: ") c.new-line.ensures in
    let second = c.push_number.ensures.bytes ∙ ap (λ line. line ++ decimal c.from.result) first
    ∙ ap (λ n. codes "generated: " ++ decimal n) c.from.ensures in
    let third = c.push-2.ensures.bytes ∙ ap (λ line. line ++ codes " operations, ") second in
    let fourth = c.push_number-2.ensures.bytes ∙ ap (λ line. line ++ decimal c.args.events) third in
    let fifth = c.push-3.ensures.bytes ∙ ap (λ line. line ++ codes " events\n") fourth in
    c.in_ok-extend_from_slice.ensures.items ∙ ap (λ items. items ++ c.as_slice.result.now)
    c.new-text.ensures.items ∙ c.as_slice.ensures.bytes ∙ fifth
    ∙ sym (append_assoc (((codes "generated: " ++ decimal n) ++ codes " operations, ")
    ++ decimal c.args.events) (codes " events") (10 ∷ []))
