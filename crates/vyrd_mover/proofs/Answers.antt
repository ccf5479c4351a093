-- The laws that the contracts of `laws` state, a list for each function.
use Rattle.vyrd_mover.proofs.ExchangeLaws.{exchanged_is_legal, exchanged_is_free}

pub ruleset exchange_laws = (exchanged_is_legal, exchanged_is_free)
