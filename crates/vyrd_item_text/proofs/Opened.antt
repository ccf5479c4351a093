-- One name whose unfolding opens the definitions of the text of items, so that a text computes.
use Rattle.std.specs.Prelude.{ℕ}
use Rattle.vyrd_item_text.specs.ItemText.{line_words, amount_words, value_words, shown_words}
use Rattle.vyrd_item_text.specs.ItemText.{value_said, register_words, elements_words, hidden_words}
use Rattle.vyrd_item_text.specs.ItemText.{part_words, list_words, added_words, reply_words}

unfoldable pub opened : ℕ
unfolding line_words amount_words value_words shown_words
    value_said register_words elements_words hidden_words
    part_words list_words added_words reply_words
opened = 0
