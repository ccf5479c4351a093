use Rattle.vyrd_own_check.proofs.checker.OwnChecker.feed.Given as goal

abbrev pub ghosts-feed_alone : goal.ghosts-feed_alone
ghosts-feed_alone a = record { name = a.blank.name; parts = a.blank.parts }
