use Rattle.vyrd_log_check.proofs.checker.LogChecker.feed.Given as goal

abbrev pub ghosts-feed_alone : goal.ghosts-feed_alone
ghosts-feed_alone a = record { name = a.blank.name; parts = a.blank.parts }
