use Rattle.vyrd_judge.proofs.online.Judge.feed.Given as goal

abbrev pub ghosts-feed_alone : goal.ghosts-feed_alone
ghosts-feed_alone g a = record { name = a.blank.name; parts = a.blank.parts }
