-- One name whose unfolding opens the definitions of a verdict about the bytes of any log, so that
-- worked cases compute.
use Rattle.vyrd_log_check.proofs.Prelude.{ℕ, own_entry_in, own_text_verdict}
use Rattle.vyrd_log_check.proofs.Prelude.{own_text_verdict_so_far, log_verdict, log_verdict_so_far}
use Rattle.vyrd_base.specs.Own.Log.{own_header_in, own_reading}
use Rattle.vyrd_base.proofs.Opened.{opened_text}
use Rattle.vyrd_base.proofs.OpenedOwn.{opened_reading}

unfoldable pub opened_log : ℕ
unfolding opened_text opened_reading own_header_in own_reading own_entry_in own_text_verdict
    own_text_verdict_so_far log_verdict log_verdict_so_far
opened_log = 0
