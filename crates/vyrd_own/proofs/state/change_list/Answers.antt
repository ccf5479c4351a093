use Rattle.vyrd_own.proofs.Prelude.{ap, sym, ◌∙◌, ◌∷◌, ◌++◌, [], arith, lists_with}
use Rattle.vyrd_base.specs.Own.Steps.{without_first, without_last}
use Rattle.vyrd_own.proofs.QueueLaws.{all_items, items_changed}
use Rattle.vyrd_own.proofs.state.change_list.Goals as goal

pub returns-in-PutLast-clause-items : goal.returns-in-PutLast-clause-items
returns-in-PutLast-clause-items c =
    items_changed c.args.lists.now.items c.in-PutLast.i c.index_mut.result.now c.append.new.self
    (λ items. items ++ c.in-PutLast.new ∷ []) (omega arith)
    c.index_mut.ensures.value c.append.ensures.items
    ∙ ap (lists_with (all_items c.args.lists.now.items)) (sym c.in-PutLast.is)

pub returns-in-PutFirst-clause-items : goal.returns-in-PutFirst-clause-items
returns-in-PutFirst-clause-items c =
    items_changed c.args.lists.now.items c.in-PutFirst.i c.index_mut-in-PutFirst.result.now
    c.prepend.new.self (λ items. c.in-PutFirst.new ∷ items) (omega arith)
    c.index_mut-in-PutFirst.ensures.value c.prepend.ensures.items
    ∙ ap (lists_with (all_items c.args.lists.now.items)) (sym c.in-PutFirst.is)

pub returns-in-TakeFirst-clause-items : goal.returns-in-TakeFirst-clause-items
returns-in-TakeFirst-clause-items c =
    items_changed c.args.lists.now.items c.in-TakeFirst.i c.index_mut-in-TakeFirst.result.now
    c.drop_first.new.self (without_first) (omega arith)
    c.index_mut-in-TakeFirst.ensures.value c.drop_first.ensures.items
    ∙ ap (lists_with (all_items c.args.lists.now.items)) (sym c.in-TakeFirst.is)

pub returns-in-TakeLast-clause-items : goal.returns-in-TakeLast-clause-items
returns-in-TakeLast-clause-items c =
    items_changed c.args.lists.now.items c.in-TakeLast.i c.index_mut-in-TakeLast.result.now
    c.drop_last.new.self (without_last) (omega arith)
    c.index_mut-in-TakeLast.ensures.value c.drop_last.ensures.items
    ∙ ap (lists_with (all_items c.args.lists.now.items)) (sym c.in-TakeLast.is)

pub returns-in-Empty-clause-items : goal.returns-in-Empty-clause-items
returns-in-Empty-clause-items c =
    items_changed c.args.lists.now.items c.in-Empty.i c.index_mut-in-Empty.result.now
    c.clear.new.self (λ items. []) (omega arith)
    c.index_mut-in-Empty.ensures.value c.clear.ensures.items
    ∙ ap (lists_with (all_items c.args.lists.now.items)) (sym c.in-Empty.is)
