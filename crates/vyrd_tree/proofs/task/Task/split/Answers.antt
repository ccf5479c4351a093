use Rattle.vyrd_tree.specs.Rests.{after_rest}
use Rattle.vyrd_tree.proofs.Steps.Split.{parted}
use Rattle.vyrd_tree.proofs.task.Task.split.Goals as goal

pub returns : goal.returns
returns c = λ h.
    parted h c.args.self c.args.full c.args.new.number c.last_two.result c.first_four.result
    c.split_key-key.result c.to_word.result c.close.result
    (after_rest h c.args.self c.after_split.result) c.last_two.ensures c.first_four.ensures
    c.split_key-key.ensures c.to_word.ensures c.close.ensures
    (c.after_split.ensures h)
