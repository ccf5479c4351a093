-- The laws that the contracts of `laws` state, a list for each function.
use Rattle.vyrd_base.proofs.Fronts.{front-push}
use Rattle.vyrd_base.proofs.VerdictLaws.{verdict_lasts, verdict_lasts_whole}
use Rattle.vyrd_base.proofs.VersionLaws.{old_so_far, old_whole}
use Rattle.vyrd_base.proofs.NoStart.{state_at_start-none}
use Rattle.vyrd_base.proofs.StructureLaws.{once_or_never}
use Rattle.vyrd_base.proofs.CommittedLaws.{lacks_commit, returns_observed, fault_by_method}
use Rattle.vyrd_base.proofs.ReadingLaws.{reading-log_text, text_verdict-log_text}
use Rattle.vyrd_base.proofs.TextLasts.{text_verdict_lasts, text_verdict_stands}
use Rattle.vyrd_base.proofs.WordLaws.{words_after-write}
use Rattle.vyrd_base.proofs.AmountLaws.{amount_of-with_amount, same_amounts}
use Rattle.vyrd_base.proofs.HistoryLaws.{words-log_of}
use Rattle.vyrd_base.proofs.StopLaws.{text_verdict-by_stop, text_verdict-no_header}

pub ruleset front_laws = (front-push)

pub ruleset verdict_laws = (verdict_lasts, verdict_lasts_whole)

pub ruleset first_version_laws = (old_so_far, old_whole)

pub ruleset commit_laws = (once_or_never, lacks_commit, returns_observed, fault_by_method)

pub ruleset start_laws = (state_at_start-none)

pub ruleset word_laws = (words_after-write)

pub ruleset text_laws = (reading-log_text, text_verdict-log_text)

pub ruleset byte_laws = (text_verdict_lasts, text_verdict_stands)

pub ruleset history_laws = (words-log_of)

pub ruleset amount_laws = (amount_of-with_amount, same_amounts)

pub ruleset stop_laws = (text_verdict-by_stop, text_verdict-no_header)
