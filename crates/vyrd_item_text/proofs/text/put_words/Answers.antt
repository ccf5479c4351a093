use Rattle.std.proofs.Common.{ap, sym, ◌∙◌, ◌++◌}
use Rattle.std.proofs.lemmas.Result.{on_ok_weaker}
use Rattle.vyrd_item_text.specs.ItemText.{item_words}
use Rattle.vyrd_item_text.proofs.text.put_words.Goals as goal

pub returns-in-Agreed : goal.returns-in-Agreed
returns-in-Agreed g c =
    let s = g.L.Lines.line c.args.lines.now in
    on_ok_weaker c.put_amount_at.result
    (λ last. last ∙ ap (λ item. c.args.text.now.items ++ item_words s item) (sym c.in-Agreed.is))
    c.put_amount_at.ensures

pub returns-in-Before : goal.returns-in-Before
returns-in-Before g c =
    let s = g.L.Lines.line c.args.lines.now in
    on_ok_weaker c.put_state_at.result
    (λ last. last ∙ ap (λ item. c.args.text.now.items ++ item_words s item) (sym c.in-Before.is))
    c.put_state_at.ensures

pub returns-in-After : goal.returns-in-After
returns-in-After g c =
    let s = g.L.Lines.line c.args.lines.now in
    on_ok_weaker c.put_state_at-in-After.result
    (λ last. last ∙ ap (λ item. c.args.text.now.items ++ item_words s item) (sym c.in-After.is))
    c.put_state_at-in-After.ensures

pub returns-in-Allowed : goal.returns-in-Allowed
returns-in-Allowed g c =
    let s = g.L.Lines.line c.args.lines.now in
    on_ok_weaker c.put_reply.result
    (λ last. last ∙ ap (λ item. c.args.text.now.items ++ item_words s item) (sym c.in-Allowed.is))
    c.put_reply.ensures

pub returns-in-Held : goal.returns-in-Held
returns-in-Held g c =
    let s = g.L.Lines.line c.args.lines.now in
    on_ok_weaker c.put_line-in-Held.result
    (λ last. last ∙ ap (λ item. c.args.text.now.items ++ item_words s item) (sym c.in-Held.is))
    c.put_line-in-Held.ensures
