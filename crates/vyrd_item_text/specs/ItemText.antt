-- The one line that each item is written as. It is words and numbers alone, and names entries by
-- their lines: `line` gives the line of the entry at a position.
use Rattle.std.specs.Prelude.{ℕ, ◌++◌, ◌==◌, List, flat_map, codes, decimal, if◌then◌else◌}
use Rattle.vyrd_base.specs.declared.own.effect.Effect.{Effect as Doing}
use Rattle.vyrd_base.specs.declared.own.effect.Effect.TheVariants.{SetShown, SetHidden, SetRegister}
use Rattle.vyrd_base.specs.declared.own.effect.Effect.TheVariants.{PutLast, PutFirst, TakeFirst}
use Rattle.vyrd_base.specs.declared.own.effect.Effect.TheVariants.{TakeLast, Empty, EmptyShown}
use Rattle.vyrd_base.specs.Own.Expressions.{most}
use Rattle.vyrd_base.specs.Spelling.{ended_line}
use Rattle.vyrd_witness.specs.declared.change.Change.{Change}
use Rattle.vyrd_witness.specs.declared.effect.Effect.{Effect}
use Rattle.vyrd_witness.specs.declared.item.Item.{Item}
use Rattle.vyrd_witness.specs.declared.item.Item.TheVariants.{Called, Replied, Agreed}
use Rattle.vyrd_witness.specs.declared.item.Item.TheVariants.{AgreedAtStart, Shown, Given, Changed}
use Rattle.vyrd_witness.specs.declared.item.Item.TheVariants.{Before, Register, Elements, Hidden}
use Rattle.vyrd_witness.specs.declared.item.Item.TheVariants.{After, Allowed, Answered, Unanswered}
use Rattle.vyrd_witness.specs.declared.item.Item.TheVariants.{OpenCall, OpenBlock, Held, Passed}
use Rattle.vyrd_witness.specs.declared.item.Item.TheVariants.{Wrote, Stepped, LastStepped}

-- words, and the line of the entry at a position behind them
unfoldable pub line_words : (ℕ → ℕ) → List ℕ → ℕ → List ℕ
line_words line words at = words ++ decimal (line at)

-- what is said of an amount of a key
unfoldable pub amount_words : ℕ → ℕ → List ℕ
amount_words key amount = codes ": key " ++ decimal key ++ codes " amount " ++ decimal amount

-- a value of an expression: the greatest number of 64 bits is `none`
unfoldable pub value_said : ℕ → List ℕ
value_said value = if value == most then codes "none" else decimal value

-- what is said of a register
unfoldable pub register_words : ℕ → ℕ → List ℕ
register_words number value =
    codes ": register " ++ decimal number ++ codes " value " ++ value_said value

-- what is said of a list
unfoldable pub elements_words : ℕ → ℕ → ℕ → ℕ → List ℕ
elements_words number size first last = codes ": list " ++ decimal number
    ++ codes " size " ++ decimal size ++ codes " first " ++ value_said first
    ++ codes " last " ++ value_said last

-- what is said of a hidden amount of a key
unfoldable pub hidden_words : ℕ → ℕ → List ℕ
hidden_words key amount = codes ": hidden key " ++ decimal key ++ codes " amount " ++ decimal amount

-- which part of what the words show
unfoldable pub part_words : ℕ → List ℕ
part_words part = codes "part " ++ decimal part

-- a list, and what is done to it
unfoldable pub list_words : ℕ → List ℕ → List ℕ
list_words number words = codes ": list " ++ decimal number ++ words

-- a list that gets one more value, and at which end
unfoldable pub added_words : ℕ → List ℕ → ℕ → List ℕ
added_words number words value = codes ": list " ++ decimal number ++ words ++ value_said value

-- what a step of a specification does
abbrev pub doing_words : Doing → List ℕ
doing_words (SetShown key amount) = amount_words key amount
doing_words (SetHidden key amount) = hidden_words key amount
doing_words (SetRegister number value) = register_words number value
doing_words (PutLast number value) = added_words number (codes " append ") value
doing_words (PutFirst number value) = added_words number (codes " prepend ") value
doing_words (TakeFirst number) = list_words number (codes " drop first")
doing_words (TakeLast number) = list_words number (codes " drop last")
doing_words (Empty number) = list_words number (codes " clear")
doing_words EmptyShown = codes ": clear"

-- what is said of a reply
unfoldable pub reply_words : List ℕ → ℕ → List ℕ
reply_words words reply = words ++ decimal reply

-- which word an effect is on
unfoldable pub word_words : Effect → List ℕ
word_words effect = codes ": word " ++ decimal effect.word

-- what the write of an effect made of its word, which was this before
unfoldable pub value_words : Effect → ℕ → List ℕ
value_words effect was = codes ": word " ++ decimal effect.word ++ codes " from " ++ decimal was
    ++ codes " to " ++ decimal effect.value

-- what the words showed of the key before and after it
unfoldable pub shown_words : ℕ → Change → List ℕ
shown_words key c = codes ", key " ++ decimal key ++ codes " amount " ++ decimal c.before
    ++ codes " to " ++ decimal c.after

-- an item, without its line feed
abbrev pub item_words : (ℕ → ℕ) → Item → List ℕ
item_words line (Called at) = line_words line (codes "call at line ") at
item_words line (Replied at) = line_words line (codes "reply at line ") at
item_words line (AgreedAtStart key amount) =
    codes "agreed at the start" ++ amount_words key amount
item_words line (Agreed at key amount) =
    line_words line (codes "agreed at line ") at ++ amount_words key amount
item_words line (Shown at key amount) =
    line_words line (codes "words after line ") at ++ amount_words key amount
item_words line (Given at part key amount) =
    part_words part ++ line_words line (codes " after line ") at ++ amount_words key amount
item_words line (Changed key c) =
    line_words line (codes "change at line ") c.effect.written ++ value_words c.effect c.was
    ++ line_words line (codes ", in effect at line ") c.effect.at ++ shown_words key c
item_words line (Before at key amount) =
    line_words line (codes "state before line ") at ++ amount_words key amount
item_words line (Register at number value) =
    line_words line (codes "state before line ") at ++ register_words number value
item_words line (Elements at number size first last) =
    line_words line (codes "state before line ") at ++ elements_words number size first last
item_words line (Hidden at key amount) =
    line_words line (codes "state before line ") at ++ hidden_words key amount
item_words line (After at key amount) =
    line_words line (codes "state after line ") at ++ amount_words key amount
item_words line (Allowed reply) = reply_words (codes "allowed reply ") reply
item_words line (Answered at reply) =
    line_words line (codes "answer from line ") at ++ reply_words (codes ": ") reply
item_words line (Unanswered at) = line_words line (codes "answer from line ") at ++ codes ": none"
item_words line (OpenCall at) = line_words line (codes "open call at line ") at
item_words line (OpenBlock at) = line_words line (codes "open block at line ") at
item_words line (Held at) = line_words line (codes "held by line ") at
item_words line (Passed effect) =
    line_words line (codes "passed at line ") effect.written ++ word_words effect
    ++ line_words line (codes ", in effect at line ") effect.at
item_words line (Wrote effect was) =
    line_words line (codes "write at line ") effect.written ++ value_words effect was
    ++ line_words line (codes ", in effect at line ") effect.at
item_words line (Stepped at doing) =
    line_words line (codes "step at line ") at ++ doing_words doing
item_words line (LastStepped at doing) =
    line_words line (codes "last step at line ") at ++ doing_words doing

-- the line of an item, with its line feed
abbrev pub item_text : (ℕ → ℕ) → Item → List ℕ
item_text line item = ended_line (item_words line item)

-- the lines of items
abbrev pub items_text : (ℕ → ℕ) → List Item → List ℕ
items_text line items = flat_map (item_text line) items
