use Rattle.std.proofs.Common.{◌+◌, ◌<◌, ◌^◌, ap, ◌∙◌, sym, arith}
use Rattle.vyrd_memory.specs.declared.act.Act.TheVariants.{Load, Store, Give}
use Rattle.vyrd_memory.specs.Scripts.{next_act}
use Rattle.vyrd_buffers.specs.Cells.{count_cell, character_cell, lock_of}
use Rattle.vyrd_buffers.specs.Rests.{joining_rest}
use Rattle.vyrd_buffers.proofs.Steps.{next_low, next_load, next_store, next_count}
use Rattle.vyrd_buffers.proofs.task.Task.joining_wants.Goals as goal

pub character_cell-requires : goal.character_cell-requires
character_cell-requires c =
    let h = c.args.header.now in
    next_low h (joining_rest h c.args.self c.args.place)
    (Load (character_cell c.args.self.x c.in-Some.number)) c.requires.subject c.requires.sound
    (ap (λ place. next_act (joining_rest h c.args.self place)) c.in-Load.is
    ∙ next_load h c.args.self c.in-Load.field-0 c.in-Load.held c.in-Some.ensures.1
    ∙ ap (λ number. Load (character_cell c.args.self.x number)) (sym c.in-Some.ensures.0))

pub overflow_add-count : goal.overflow_add-count
overflow_add-count c =
    let h = c.args.header.now in
    let low : character_cell c.args.self.b (c.in-Store.count + c.in-Store.stored) < 2 ^ 32 =
    next_low h (joining_rest h c.args.self c.args.place)
    (Store (character_cell c.args.self.b (c.in-Store.count + c.in-Store.stored))
    c.in-Some-character.character) c.requires.subject c.requires.sound
    (ap (λ place. next_act (joining_rest h c.args.self place)) c.in-Store.is
    ∙ next_store h c.args.self c.in-Store.count c.in-Store.held c.in-Store.stored
    c.in-Some-character.character _ c.in-Some-character.ensures) in
    omega (arith, low)

pub character_cell-requires-in-Some-character : goal.character_cell-requires-in-Some-character
character_cell-requires-in-Some-character c =
    let h = c.args.header.now in
    next_low h (joining_rest h c.args.self c.args.place)
    (Store (character_cell c.args.self.b (c.in-Store.count + c.in-Store.stored))
    c.in-Some-character.character) c.requires.subject c.requires.sound
    (ap (λ place. next_act (joining_rest h c.args.self place)) c.in-Store.is
    ∙ next_store h c.args.self c.in-Store.count c.in-Store.held c.in-Store.stored
    c.in-Some-character.character _ c.in-Some-character.ensures)

pub count_cell-requires : goal.count_cell-requires
count_cell-requires c =
    let h = c.args.header.now in
    next_low h (joining_rest h c.args.self c.args.place)
    (Store (count_cell c.args.self.b) (c.in-Store.count + c.in-Store.held.of))
    c.requires.subject c.requires.sound
    (ap (λ place. next_act (joining_rest h c.args.self place)) c.in-Store.is
    ∙ next_count h c.args.self c.in-Store.count c.in-Store.held c.in-Store.stored
    c.in-None-character.ensures)

pub lock_of-requires : goal.lock_of-requires
lock_of-requires c =
    let h = c.args.header.now in
    next_low h (joining_rest h c.args.self c.args.place) (Give (lock_of h c.second.result))
    c.requires.subject c.requires.sound
    (ap (λ place. next_act (joining_rest h c.args.self place)) c.in-UnlockOther.is
    ∙ ap (λ b. Give (lock_of h b)) (sym c.second.ensures))

pub lock_of-requires-in-Unlock : goal.lock_of-requires-in-Unlock
lock_of-requires-in-Unlock c =
    let h = c.args.header.now in
    next_low h (joining_rest h c.args.self c.args.place) (Give (lock_of h c.first.result))
    c.requires.subject c.requires.sound
    (ap (λ place. next_act (joining_rest h c.args.self place)) c.in-Unlock.is
    ∙ ap (λ b. Give (lock_of h b)) (sym c.first.ensures))
