use Rattle.vyrd_relay.proofs.relay.Relay.new.Given as goal

abbrev pub ghosts-deal_all : goal.ghosts-deal_all
ghosts-deal_all a = record { senders = a.senders }
