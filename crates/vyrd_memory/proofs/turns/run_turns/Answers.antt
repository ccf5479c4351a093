use Rattle.std.proofs.Common.{rules}
use Rattle.vyrd_memory.proofs.turns.run_turns.Goals as goal

pub returns-in_err-words-clause-stuck : goal.returns-in_err-words-clause-stuck
returns-in_err-words-clause-stuck g c = λ e. c.in_err-words.ensures.stuck (search (rules, e))
