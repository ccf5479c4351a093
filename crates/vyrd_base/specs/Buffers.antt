-- String buffers, as many as the size, of at most 7 characters each: what they do, what the words
-- of
-- one hold, and its text as one number. Character i of a text, from 0 on, counts (character + 1) *
-- 256^i. So to the base 256 the digits of a text are its characters, each plus 1; none of them is
-- 0,
-- and the empty text is 0. The amount of a buffer is its text, so that an empty buffer isn't there.
use Rattle.std.specs.Prelude.{ℕ, zero, suc, ◌+◌, ◌*◌, ◌^◌, ◌%◌, Bool, true, not, ◌&&◌, nat_le}
use Rattle.std.specs.Prelude.{nat_lt}
use Rattle.std.specs.Prelude.{List, [], ◌∷◌, slice_index, flat_map, codes, Option, Some, None}
use Rattle.std.specs.Prelude.{if◌then◌else◌}
use Rattle.std.specs.Bool.{then_some}
use Rattle.std.specs.List.{list_all}
use Rattle.vyrd_base.specs.declared.buffers.BuffersMethod.{BuffersMethod}
use Rattle.vyrd_base.specs.declared.buffers.BuffersMethod.TheVariants.{Append, AppendFrom, Cut}
use Rattle.vyrd_base.specs.declared.buffers.BuffersMethod.TheVariants.{Length, Read}
use Rattle.vyrd_base.specs.declared.subject.Args.{Args}
use Rattle.vyrd_base.specs.declared.subject.Commits.{Commits}
use Rattle.vyrd_base.specs.declared.subject.Commits.TheVariants.{Never, Once}
use Rattle.vyrd_base.specs.Limits.{is_within}
use Rattle.vyrd_base.specs.Amounts.{Amounts, amount_of, with_amount}
use Rattle.vyrd_base.specs.Places.{numbers_below}
use Rattle.vyrd_base.specs.Structures.{Structure, by_reply}

abbrev pub called : BuffersMethod → List ℕ
called Append = codes "append"
called AppendFrom = codes "append_from"
called Cut = codes "cut"
called Length = codes "length"
called Read = codes "read"

abbrev pub arity : BuffersMethod → ℕ
arity Append = 2
arity AppendFrom = 2
arity Cut = 2
arity Length = 1
arity Read = 1

-- The number of a buffer is below the size, and a character is below 255.
abbrev pub takes : ℕ → BuffersMethod → Args → Bool
takes size Append args = nat_lt args.a size && nat_lt args.b 255
takes size AppendFrom args = nat_lt args.a size && nat_lt args.b size
takes size Cut args = nat_lt args.a size
takes size Length args = nat_lt args.a size
takes size Read args = nat_lt args.a size

abbrev pub commits : BuffersMethod → Commits
commits Append = Once
commits AppendFrom = Once
commits Cut = Once
commits Length = Never
commits Read = Never

-- the text of the first n characters
abbrev pub text_of : (ℕ → ℕ) → ℕ → ℕ
text_of character zero = 0
text_of character (suc n) = text_of character n + (character n + 1) * 256 ^ n

-- how many of the powers 256^0, 256^1 and so on, up to 256^(n - 1), are at most the text
abbrev pub powers_within : ℕ → ℕ → ℕ
powers_within zero text = 0
powers_within (suc n) text = powers_within n text + (if nat_le (256 ^ n) text then 1 else 0)

-- how many characters a text has: 7 at most
unfoldable pub text_length : ℕ → ℕ
text_length text = powers_within 7 text

-- whether a buffer with this text has room for more
abbrev pub has_room : ℕ → ℕ → Bool
has_room text more = nat_le (text_length text + text_length more) 7

-- a text, and another one after it
abbrev pub joined : ℕ → ℕ → ℕ
joined text more = text + more * 256 ^ text_length text

-- the first n characters of a text, or all if it has no more
abbrev pub cut_to : ℕ → ℕ → ℕ
cut_to n text = if nat_lt n (text_length text) then text % 256 ^ n else text

-- The state after a text was appended to buffer b with this reply: 1 if the buffer has room for it,
-- and 0 if it hasn't.
abbrev pub after_append : ℕ → Amounts → ℕ → ℕ → Option Amounts
after_append reply state b more = by_reply reply
    (then_some (not (has_room (amount_of state b) more)) state)
    (then_some (has_room (amount_of state b) more)
    (with_amount state b (joined (amount_of state b) more)))
    None

abbrev pub next : BuffersMethod → Args → ℕ → Amounts → Option Amounts
next Append args reply state = after_append reply state args.a (args.b + 1)
next AppendFrom args reply state = after_append reply state args.a (amount_of state args.b)
next Cut args reply state = by_reply reply None
    (Some (with_amount state args.a (cut_to args.b (amount_of state args.a)))) None
next Length args reply state = None
next Read args reply state = None

-- how many characters the buffer has, and its text
abbrev pub answer : Amounts → BuffersMethod → Args → ℕ
answer state Append args = 0
answer state AppendFrom args = 0
answer state Cut args = 0
answer state Length args = text_length (amount_of state args.a)
answer state Read args = amount_of state args.a

-- what the words of a buffer hold: the count of its characters, and the characters, of which only
-- those below the count matter
pub record Buffer : Type 0 where
  pub count : ℕ
  pub character : ℕ → ℕ

-- the buffer of that number: its count is in word 8b, and its 7 characters are in the words from 8b
-- + 1 on
abbrev pub buffer_at : List ℕ → ℕ → Buffer
buffer_at words b = record {
  count = slice_index words (8 * b);
  character = λ i. slice_index words (8 * b + (1 + i));
}

-- whether the first n characters are below 255
abbrev pub are_characters : (ℕ → ℕ) → ℕ → Bool
are_characters character zero = true
are_characters character (suc n) = are_characters character n && nat_lt (character n) 255

-- whether the count is at most 7, and the characters below it are below 255
abbrev pub is_buffer : Buffer → Bool
is_buffer buffer = nat_le buffer.count 7 && are_characters buffer.character buffer.count

-- the text that a buffer shows, and none if its words aren't a buffer
abbrev pub shown_text : Buffer → Option ℕ
shown_text buffer = then_some (is_buffer buffer) (text_of buffer.character buffer.count)

-- Buffer b of this many gives the key b its text. Words that aren't a buffer give 1 to the key size
-- + b, which stands for damage, and nothing else.
abbrev pub buffer_parts : ℕ → ℕ → Buffer → List (ℕ × ℕ)
buffer_parts size b buffer =
    if is_buffer buffer then (b, text_of buffer.character buffer.count) ∷ [] else (size + b, 1) ∷ []

-- A buffer has 8 words, and a lock.
abbrev pub buffers : Structure BuffersMethod
buffers = record {
  name = codes "buffers";
  limits = is_within;
  methods = Append ∷ AppendFrom ∷ Cut ∷ Length ∷ Read ∷ [];
  called = called;
  arity = arity;
  takes = takes;
  commits = commits;
  next = next;
  answer = answer;
  plain_words = λ size. 8 * size;
  locks = λ size. size;
  parts = λ size words.
      flat_map (λ b. buffer_parts size b (buffer_at words b)) (numbers_below size);
  is_sound = λ size words. list_all (λ b. is_buffer (buffer_at words b)) (numbers_below size);
}
