-- What is answered to words of a form is what the form's own call answers.
use Rattle.std.proofs.Common.{sym, subst, refl, Some}
use Rattle.vyrd_command.specs.declared.form.Form.TheVariants as asked
use Rattle.vyrd_command.specs.Commands.{IsStatus, IsAnswerStatus, IsAnswer, IsEnough, IsNoFurther}
use Rattle.vyrd_command.proofs.CommandLaws.{read_status, made_status, reads_on}
use Rattle.vyrd_command.proofs.command.carry_out.Goals as goal

pub returns-in-Step-clause-statuses : goal.returns-in-Step-clause-statuses
returns-in-Step-clause-statuses g c = subst (λ form. IsStatus (Some form) c.step.result.status)
    (sym c.in-Step.is)
    (read_status (asked.Step c.in-Step.show) c.step.result.status refl c.step.ensures.statuses)

pub returns-in-Step-clause-answer : goal.returns-in-Step-clause-answer
returns-in-Step-clause-answer g c =
    subst (λ form. IsAnswerStatus (Some form) c.step.result.status
    → IsAnswer (Some form) (g.S.Source.known c.args.source.now).rest c.step.result.status
    c.step.result.text.items)
    (sym c.in-Step.is) c.step.ensures.answers

pub returns-in-Step-clause-consumed : goal.returns-in-Step-clause-consumed
returns-in-Step-clause-consumed g c =
    subst (λ form. IsAnswerStatus (Some form) c.step.result.status
    → IsEnough (Some form) c.step.result.status (g.S.Source.known c.args.source.now)
    (g.S.Source.known c.step.new.source))
    (sym c.in-Step.is) c.step.ensures.consumed

pub returns-in-Step-clause-no_further : goal.returns-in-Step-clause-no_further
returns-in-Step-clause-no_further g c =
    subst (λ form. IsNoFurther (Some form) (g.S.Source.known c.args.source.now)
    (g.S.Source.known c.step.new.source)) (sym c.in-Step.is) c.step.ensures.few

pub returns-in-Step-clause-untouched : goal.returns-in-Step-clause-untouched
returns-in-Step-clause-untouched g c = λ isnt. absurd
    (reads_on c.args.form (asked.Step c.in-Step.show) c.in-Step.is refl isnt)

pub returns-in-Run-clause-statuses : goal.returns-in-Run-clause-statuses
returns-in-Run-clause-statuses g c = subst (λ form. IsStatus (Some form) c.run.result.status)
    (sym c.in-Run.is)
    (read_status (asked.Run c.in-Run.show) c.run.result.status refl c.run.ensures.statuses)

pub returns-in-Run-clause-answer : goal.returns-in-Run-clause-answer
returns-in-Run-clause-answer g c =
    subst (λ form. IsAnswerStatus (Some form) c.run.result.status
    → IsAnswer (Some form) (g.S.Source.known c.args.source.now).rest c.run.result.status
    c.run.result.text.items)
    (sym c.in-Run.is) c.run.ensures.answers

pub returns-in-Run-clause-consumed : goal.returns-in-Run-clause-consumed
returns-in-Run-clause-consumed g c =
    subst (λ form. IsAnswerStatus (Some form) c.run.result.status
    → IsEnough (Some form) c.run.result.status (g.S.Source.known c.args.source.now)
    (g.S.Source.known c.run.new.source))
    (sym c.in-Run.is) c.run.ensures.consumed

pub returns-in-Run-clause-no_further : goal.returns-in-Run-clause-no_further
returns-in-Run-clause-no_further g c =
    subst (λ form. IsNoFurther (Some form) (g.S.Source.known c.args.source.now)
    (g.S.Source.known c.run.new.source)) (sym c.in-Run.is) c.run.ensures.few

pub returns-in-Run-clause-untouched : goal.returns-in-Run-clause-untouched
returns-in-Run-clause-untouched g c = λ isnt. absurd
    (reads_on c.args.form (asked.Run c.in-Run.show) c.in-Run.is refl isnt)

pub returns-in-Gen-clause-statuses : goal.returns-in-Gen-clause-statuses
returns-in-Gen-clause-statuses g c =
    subst (λ form. IsStatus (Some form) c.answer_generated.result.status) (sym c.in-Gen.is)
    (made_status (asked.Gen c.in-Gen.count) c.answer_generated.result.status
    c.answer_generated.ensures.statuses)

pub returns-in-Gen-clause-answer : goal.returns-in-Gen-clause-answer
returns-in-Gen-clause-answer g c =
    subst (λ form. IsAnswerStatus (Some form) c.answer_generated.result.status
    → IsAnswer (Some form) (g.S.Source.known c.args.source.now).rest
    c.answer_generated.result.status c.answer_generated.result.text.items)
    (sym c.in-Gen.is) c.answer_generated.ensures.answer

pub returns-in-Gen-clause-consumed : goal.returns-in-Gen-clause-consumed
returns-in-Gen-clause-consumed g c = λ answered. subst
    (λ form. IsEnough (Some form) c.answer_generated.result.status
    (g.S.Source.known c.args.source.now) (g.S.Source.known c.args.source.now)) (sym c.in-Gen.is) tt

pub returns-in-Gen-clause-no_further : goal.returns-in-Gen-clause-no_further
returns-in-Gen-clause-no_further g c =
    subst (λ form. IsNoFurther (Some form) (g.S.Source.known c.args.source.now)
    (g.S.Source.known c.args.source.now)) (sym c.in-Gen.is) tt

pub returns-in-Movers-clause-statuses : goal.returns-in-Movers-clause-statuses
returns-in-Movers-clause-statuses g c = subst (λ form. IsStatus (Some form) c.movers.result.status)
    (sym c.in-Movers.is)
    (read_status asked.Movers c.movers.result.status refl c.movers.ensures.statuses)

pub returns-in-Movers-clause-answer : goal.returns-in-Movers-clause-answer
returns-in-Movers-clause-answer g c =
    subst (λ form. IsAnswerStatus (Some form) c.movers.result.status
    → IsAnswer (Some form) (g.S.Source.known c.args.source.now).rest c.movers.result.status
    c.movers.result.text.items)
    (sym c.in-Movers.is) c.movers.ensures.answers

pub returns-in-Movers-clause-consumed : goal.returns-in-Movers-clause-consumed
returns-in-Movers-clause-consumed g c =
    subst (λ form. IsAnswerStatus (Some form) c.movers.result.status
    → IsEnough (Some form) c.movers.result.status (g.S.Source.known c.args.source.now)
    (g.S.Source.known c.movers.new.source))
    (sym c.in-Movers.is) c.movers.ensures.consumed

pub returns-in-Movers-clause-no_further : goal.returns-in-Movers-clause-no_further
returns-in-Movers-clause-no_further g c =
    subst (λ form. IsNoFurther (Some form) (g.S.Source.known c.args.source.now)
    (g.S.Source.known c.movers.new.source)) (sym c.in-Movers.is) c.movers.ensures.few

pub returns-in-Movers-clause-untouched : goal.returns-in-Movers-clause-untouched
returns-in-Movers-clause-untouched g c = λ isnt. absurd
    (reads_on c.args.form asked.Movers c.in-Movers.is refl isnt)

pub returns-in-Batch-clause-statuses : goal.returns-in-Batch-clause-statuses
returns-in-Batch-clause-statuses g c = subst (λ form. IsStatus (Some form) c.batch.result.status)
    (sym c.in-Batch.is)
    (read_status asked.Batch c.batch.result.status refl c.batch.ensures.statuses)

pub returns-in-Batch-clause-answer : goal.returns-in-Batch-clause-answer
returns-in-Batch-clause-answer g c =
    subst (λ form. IsAnswerStatus (Some form) c.batch.result.status
    → IsAnswer (Some form) (g.S.Source.known c.args.source.now).rest c.batch.result.status
    c.batch.result.text.items)
    (sym c.in-Batch.is) c.batch.ensures.answers

pub returns-in-Batch-clause-consumed : goal.returns-in-Batch-clause-consumed
returns-in-Batch-clause-consumed g c =
    subst (λ form. IsAnswerStatus (Some form) c.batch.result.status
    → IsEnough (Some form) c.batch.result.status (g.S.Source.known c.args.source.now)
    (g.S.Source.known c.batch.new.source))
    (sym c.in-Batch.is) c.batch.ensures.consumed

pub returns-in-Batch-clause-no_further : goal.returns-in-Batch-clause-no_further
returns-in-Batch-clause-no_further g c =
    subst (λ form. IsNoFurther (Some form) (g.S.Source.known c.args.source.now)
    (g.S.Source.known c.batch.new.source)) (sym c.in-Batch.is) c.batch.ensures.few

pub returns-in-Batch-clause-untouched : goal.returns-in-Batch-clause-untouched
returns-in-Batch-clause-untouched g c = λ isnt. absurd
    (reads_on c.args.form asked.Batch c.in-Batch.is refl isnt)

pub returns-in-Tell-clause-statuses : goal.returns-in-Tell-clause-statuses
returns-in-Tell-clause-statuses g c =
    subst (λ form. IsStatus (Some form) c.answer_explained.result.status) (sym c.in-Tell.is)
    (read_status (asked.Tell c.in-Tell.about) c.answer_explained.result.status refl
    c.answer_explained.ensures.statuses)

pub returns-in-Tell-clause-answer : goal.returns-in-Tell-clause-answer
returns-in-Tell-clause-answer g c =
    subst (λ form. IsAnswerStatus (Some form) c.answer_explained.result.status
    → IsAnswer (Some form) (g.S.Source.known c.args.source.now).rest
    c.answer_explained.result.status c.answer_explained.result.text.items)
    (sym c.in-Tell.is) c.answer_explained.ensures.answers

pub returns-in-Tell-clause-consumed : goal.returns-in-Tell-clause-consumed
returns-in-Tell-clause-consumed g c =
    subst (λ form. IsAnswerStatus (Some form) c.answer_explained.result.status
    → IsEnough (Some form) c.answer_explained.result.status (g.S.Source.known c.args.source.now)
    (g.S.Source.known c.answer_explained.new.source))
    (sym c.in-Tell.is) c.answer_explained.ensures.consumed

pub returns-in-Tell-clause-no_further : goal.returns-in-Tell-clause-no_further
returns-in-Tell-clause-no_further g c =
    subst (λ form. IsNoFurther (Some form) (g.S.Source.known c.args.source.now)
    (g.S.Source.known c.answer_explained.new.source))
    (sym c.in-Tell.is) c.answer_explained.ensures.no_further

pub returns-in-Tell-clause-untouched : goal.returns-in-Tell-clause-untouched
returns-in-Tell-clause-untouched g c = λ isnt. absurd
    (reads_on c.args.form (asked.Tell c.in-Tell.about) c.in-Tell.is refl isnt)
