use Rattle.vyrd_witness.proofs.GivenLaws.{parts_give, told_give}
use Rattle.vyrd_witness.proofs.laws.parts_give_what_is_shown.Goals as goal

pub returns-clause-all : goal.returns-clause-all
returns-clause-all c = parts_give

pub returns-clause-told : goal.returns-clause-told
returns-clause-told c = told_give
