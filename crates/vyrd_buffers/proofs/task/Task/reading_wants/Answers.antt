use Rattle.std.proofs.Common.{ap, ◌∙◌, sym}
use Rattle.vyrd_memory.specs.declared.act.Act.TheVariants.{Load, Give}
use Rattle.vyrd_buffers.specs.Cells.{character_cell, lock_of}
use Rattle.vyrd_buffers.specs.Rests.{reading_rest}
use Rattle.vyrd_buffers.proofs.Steps.{next_low, next_read, next_after_read}
use Rattle.vyrd_buffers.proofs.task.Task.reading_wants.Goals as goal

pub character_cell-requires : goal.character_cell-requires
character_cell-requires c =
    next_low c.args.header.now (reading_rest c.args.header.now c.args.self.b c.args.text)
    (Load (character_cell c.args.self.b c.in-Some.number))
    c.requires.subject c.requires.sound
    (next_read c.args.header.now c.args.self.b c.args.text c.in-Some.ensures.1
    ∙ ap (λ number. Load (character_cell c.args.self.b number)) (sym c.in-Some.ensures.0))

pub lock_of-requires : goal.lock_of-requires
lock_of-requires c =
    next_low c.args.header.now (reading_rest c.args.header.now c.args.self.b c.args.text)
    (Give (lock_of c.args.header.now c.args.self.b))
    c.requires.subject c.requires.sound
    (next_after_read c.args.header.now c.args.self.b c.args.text c.in-None.ensures)
