use Rattle.vyrd_check.proofs.checker.Checker.feed.Given as goal

abbrev pub ghosts-feed_alone : goal.ghosts-feed_alone
ghosts-feed_alone a = record { name = a.blank.name; parts = a.blank.parts }
