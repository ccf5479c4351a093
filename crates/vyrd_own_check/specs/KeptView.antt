-- What the fields of a reader and its judge stand for.
use Rattle.vyrd_own_log.specs.ReaderView.{state_in}
use Rattle.vyrd_own_check.specs.declared.text_judge.OwnTextJudge.{OwnTextJudge}
use Rattle.vyrd_own_check.specs.Checking.{OwnCheckerKept}

abbrev pub kept_in : OwnTextJudge → OwnCheckerKept
kept_in t = record { reader = state_in t.reader; judge = t.judge; numbers = t.numbers }
