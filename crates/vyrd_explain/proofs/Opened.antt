-- One name whose unfolding opens the definitions of what is answered about bytes, so that worked
-- cases compute.
use Rattle.std.specs.Prelude.{ℕ}
use Rattle.vyrd_base.proofs.Opened.{opened_text}
use Rattle.vyrd_log_check.proofs.Opened.{opened_log}
use Rattle.vyrd_item_text.specs.ItemText.{reply_words, word_words}
use Rattle.vyrd_item_text.proofs.Opened.{opened as opened_items}
use Rattle.vyrd_explain.specs.Explained.{explained}

unfoldable pub opened_answer : ℕ
unfolding opened_text opened_log opened_items reply_words word_words explained
opened_answer = 0
