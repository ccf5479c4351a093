use Rattle.std.proofs.Common.{◌≡◌, ℕ, ◌+◌, List, length, slice_index, ap, sym, ◌∙◌}
use Rattle.std.proofs.lemmas.Result.{IfOk-weaker}
use Rattle.std.specs.Arc.{arc_value}
use Rattle.vyrd_base.specs.Front.{front}
use Rattle.vyrd_base.specs.Rules.{own}
use Rattle.vyrd_item_text.specs.ItemText.{items_text}
use Rattle.vyrd_follow.specs.Following.{followed_items}
use Rattle.vyrd_explain.specs.Explained.{own_read_as, own_line_of, own_items_said}
use Rattle.vyrd_explain.specs.Explaining.{own_limit}
use Rattle.vyrd_explain.specs.Verdicts.{verdict_items}
use Rattle.vyrd_explain.proofs.own_text.own_said_text.Goals as goal

pub returns-in_ok-items-in-Fault : goal.returns-in_ok-items-in-Fault
returns-in_ok-items-in-Fault c = λ bytes read entries numbers.
    let all = own_read_as (own_limit c.args.reader.now) bytes in
    let starting = c.start.ensures.read bytes read in
    let line : ℕ → ℕ = λ at. slice_index c.new-lines.result.of_entries.now at in
    let lines : line ≡ own_line_of all = λ i at. (c.new-lines.ensures at
    ∙ (λ k. slice_index (numbers k) (length (starting k) + at))) i in
    let charter : c.in_ok-shown-in-Fault.shown ≡ own c.args.header all.lines =
    c.in_ok-shown-in-Fault.ensures
    ∙ ap (λ (spelled : List (List ℕ)). own c.args.header spelled)
    (c.in_ok-specification.ensures.ok ∙ c.in_ok-read_specification.ensures
    ∙ c.lines.ensures.read bytes read) in
    IfOk-weaker c.text_of.result _ _ (λ text e. e
    ∙ ap (items_text line) (c.deref.ensures.value ∙ c.in_ok-items-in-Fault.ensures)
    ∙ (λ i. items_text (lines i) (verdict_items (charter i) (lines i)
    (c.start-starting.ensures.read bytes read i) (entries i) c.args.verdict))
    ∙ ap (λ about. own_items_said about all c.args.verdict c.args.header) (sym c.in-Fault.is))
    c.text_of.ensures

pub returns-in-Changes : goal.returns-in-Changes
returns-in-Changes c = λ bytes read entries numbers.
    let all = own_read_as (own_limit c.args.reader.now) bytes in
    let starting = c.start.ensures.read bytes read in
    let line : ℕ → ℕ = λ at. slice_index c.new-lines.result.of_entries.now at in
    let lines : line ≡ own_line_of all = λ i at. (c.new-lines.ensures at
    ∙ (λ k. slice_index (numbers k) (length (starting k) + at))) i in
    let spelled : arc_value c.in_ok-specification.specification ≡ all.lines =
    c.in_ok-specification.ensures.ok ∙ c.in_ok-read_specification.ensures
    ∙ c.lines.ensures.read bytes read in
    IfOk-weaker c.own_changes_text.result _ _ (λ text e. e
    ∙ (λ i. items_text (lines i) (followed_items (own c.args.header (spelled i))
    (c.start-starting.ensures.read bytes read i) (front c.args.header (entries i))))
    ∙ ap (λ about. own_items_said about all c.args.verdict c.args.header) (sym c.in-Changes.is))
    c.own_changes_text.ensures
