-- How an expression is read: from the left, each part by how it begins. What isn't read has a rule
-- that is broken, and the text from there on.
use Rattle.std.specs.Prelude.{ℕ, zero, suc, ◌+◌, ◌==◌, Bool, false, ◌&&◌, ◌||◌, nat_lt, nat_le}
use Rattle.std.specs.Prelude.{List}
use Rattle.std.specs.Prelude.{[], ◌∷◌, codes, decimal, Option, Some, None, Result, Ok, Err}
use Rattle.std.specs.Prelude.{if◌then◌else◌}
use Rattle.std.specs.Str.{bytes_eq}
use Rattle.std.specs.Str.Parse.{digits_value}
use Rattle.vyrd_base.specs.declared.own.op.Op.{Op}
use Rattle.vyrd_base.specs.declared.own.op.Op.TheVariants.{Plus, Minus, Times, Over, Rest, Equal}
use Rattle.vyrd_base.specs.declared.own.op.Op.TheVariants.{Unequal}
use Rattle.vyrd_base.specs.declared.own.op.Op.TheVariants.{Below, AtMost, Above, AtLeast, And, Or}
use Rattle.vyrd_base.specs.Own.Expressions.{Expr, number, at, count, shown, hidden, least, greatest}
use Rattle.vyrd_base.specs.Own.Expressions.{first}
use Rattle.vyrd_base.specs.Own.Expressions.{last, size, negation, infix_of, choice, most}
use Rattle.vyrd_base.specs.declared.own.rule.SpecificationRule.{SpecificationRule}
use Rattle.vyrd_base.specs.declared.own.rule.SpecificationRule.TheVariants.{BadLine, UnknownName}
use Rattle.vyrd_base.specs.declared.own.rule.SpecificationRule.TheVariants.{TooDeep, StateIsRead}
use Rattle.vyrd_base.specs.Own.Spelling.{op_word, Scope}

-- what is read; or the rule that is broken, and the text from there on
abbrev pub Taken : Type 0 → Type 0
Taken A = Result A (SpecificationRule × List ℕ)

-- what is read from the front of a text, and the text after it
abbrev pub Found : Type 0 → Type 0
Found A = Taken (A × List ℕ)

-- what is read next
abbrev pub and_then : {A B : Type 0} → (A → List ℕ → Taken B) → Found A → Taken B
and_then next (Ok found) = next found.0 found.1
and_then next (Err stop) = Err stop

-- something made of what was read
abbrev pub made : {A B : Type 0} → (A → B) → Found A → Found B
made make (Ok found) = Ok (make found.0, found.1)
made make (Err stop) = Err stop

-- what stands after a word, if the text begins with it
unfoldable pub after : List ℕ → List ℕ → Option (List ℕ)
after [] text = Some text
after (c ∷ word) [] = None
after (c ∷ word) (b ∷ text) = if c == b then after word text else None

-- what was read, where a word follows it or doesn't
abbrev pub found_after : {A : Type 0} → A → List ℕ → Option (List ℕ) → Found A
found_after found text (Some rest) = Ok (found, rest)
found_after found text None = Err (BadLine, text)

-- what was read, if this word follows it
abbrev pub ended_by : {A : Type 0} → List ℕ → Found A → Found A
ended_by word found = and_then (λ x text. found_after x text (after word text)) found

-- whether a byte may stand in a name or a number
abbrev pub is_word_byte : ℕ → Bool
is_word_byte b = (nat_le 97 b && nat_le b 122) || (nat_le 48 b && nat_le b 57) || b == 95

-- the letters, digits and `_` at the front, and what follows them
abbrev pub word_of : List ℕ → List ℕ
word_of [] = []
word_of (b ∷ text) = if is_word_byte b then b ∷ word_of text else []

abbrev pub after_word : List ℕ → List ℕ
after_word [] = []
after_word (b ∷ text) = if is_word_byte b then after_word text else b ∷ text

-- the number below 2^64 - 1 that a word spells
unfoldable pub number_in : List ℕ → Option ℕ
number_in word =
    if nat_lt (digits_value 10 word) most && bytes_eq (decimal (digits_value 10 word)) word
    then Some (digits_value 10 word) else None

-- the place of a name among names that begin at place i
abbrev pub place_from : ℕ → List (List ℕ) → List ℕ → Option ℕ
place_from i [] word = None
place_from i (name ∷ names) word =
    if bytes_eq name word then Some i else place_from (i + 1) names word

abbrev pub place_in : List (List ℕ) → List ℕ → Option ℕ
place_in names word = place_from 0 names word

-- whether a word begins with a letter, as names do
abbrev pub is_lettered : List ℕ → Bool
is_lettered [] = false
is_lettered (b ∷ word) = nat_le 97 b && nat_le b 122

-- the rule that a text breaks where a name should stand
abbrev pub unknown : {A : Type 0} → List ℕ → Found A
unknown text = if is_lettered text then Err (UnknownName, text) else Err (BadLine, text)

-- what reads the state, where that may be read
abbrev pub of_state : {A : Type 0} → Scope → List ℕ → Found A → Found A
of_state s text found = if s.reads then found else Err (StateIsRead, text)

-- a name
abbrev pub placed : List ℕ → List ℕ → Option ℕ → Found ℕ
placed text rest (Some i) = Ok (i, rest)
placed text rest None = unknown text

abbrev pub name_read : List (List ℕ) → List ℕ → Found ℕ
name_read names text = placed text (after_word text) (place_in names (word_of text))

-- `none`, `count`, a number or a name
abbrev pub number_or : Scope → List ℕ → Option ℕ → Found Expr
number_or s text (Some n) = Ok (number n, after_word text)
number_or s text None = made at (name_read s.names text)

unfoldable pub atom_read : Scope → List ℕ → Found Expr
atom_read s text =
    if bytes_eq (word_of text) (codes "none") then Ok (number most, after_word text)
    else (if bytes_eq (word_of text) (codes "count")
    then of_state s text (Ok (count, after_word text))
    else number_or s text (number_in (word_of text)))

-- the operations, in the order in which they are looked for
abbrev pub all_ops : List Op
all_ops = Plus ∷ Minus ∷ Times ∷ Over ∷ Rest ∷ Equal ∷ Unequal ∷ Below ∷ AtMost ∷ Above ∷ AtLeast
    ∷ And ∷ Or ∷ []

abbrev pub op_among : List Op → List ℕ → Found Op
op_among [] text = Err (BadLine, text)
op_among (op ∷ ops) text = elim (after (op_word op) text) [
  | Some rest ↦ Ok (op, rest)
  | None ↦ op_among ops text
]

unfoldable pub op_read : List ℕ → Found Op
op_read text = op_among all_ops text

-- one expression and the bracket that closes it; `inner` reads an expression within
abbrev pub one_read : (List ℕ → Found Expr) → (Expr → Expr) → List ℕ → List ℕ → Found Expr
one_read inner make close text = made make (ended_by close (inner text))

-- a list's name and the bracket that closes
abbrev pub list_read : List (List ℕ) → (ℕ → Expr) → List ℕ → Found Expr
list_read lists make text = made make (ended_by (codes ")") (name_read lists text))

-- two expressions with an operation between them
abbrev pub second_read : (List ℕ → Found Expr) → Expr → Op → List ℕ → Found Expr
second_read inner a op text = made (infix_of op a) (ended_by (codes ")") (inner text))

abbrev pub infix_read : (List ℕ → Found Expr) → List ℕ → Found Expr
infix_read inner text =
    and_then (λ a rest. and_then (second_read inner a) (op_read rest)) (inner text)

-- the three expressions of a choice
abbrev pub else_read : (List ℕ → Found Expr) → Expr → Expr → List ℕ → Found Expr
else_read inner test a text = made (choice test a) (ended_by (codes ")") (inner text))

abbrev pub then_read : (List ℕ → Found Expr) → Expr → List ℕ → Found Expr
then_read inner test text = and_then (else_read inner test) (ended_by (codes " else ") (inner text))

abbrev pub choice_read : (List ℕ → Found Expr) → List ℕ → Found Expr
choice_read inner text = and_then (then_read inner) (ended_by (codes " then ") (inner text))

-- what is read after a word, where it stood there, and otherwise something else
abbrev pub if_after : {A : Type 0} → Option (List ℕ) → (List ℕ → A) → A → A
if_after (Some rest) there otherwise = there rest
if_after None there otherwise = otherwise

-- what stands after `(`
unfoldable pub round_read : (List ℕ → Found Expr) → Scope → List ℕ → Found Expr
round_read inner s text =
    if_after (after (codes "if ") text) (choice_read inner)
    (if_after (after (codes "not ") text) (one_read inner negation (codes ")"))
    (if_after (after (codes "least ") text)
    (λ rest. of_state s text (one_read inner least (codes ")") rest))
    (if_after (after (codes "greatest ") text)
    (λ rest. of_state s text (one_read inner greatest (codes ")") rest))
    (if_after (after (codes "first ") text) (λ rest. of_state s text (list_read s.lists first rest))
    (if_after (after (codes "last ") text) (λ rest. of_state s text (list_read s.lists last rest))
    (if_after (after (codes "length ") text) (λ rest. of_state s text (list_read s.lists size rest))
    (infix_read inner text)))))))

-- an expression, by how it begins
unfoldable pub whole_read : (List ℕ → Found Expr) → Scope → List ℕ → Found Expr
whole_read inner s text =
    if_after (after (codes "(") text) (round_read inner s)
    (if_after (after (codes "[") text)
    (λ rest. of_state s text (one_read inner shown (codes "]") rest))
    (if_after (after (codes "{") text)
    (λ rest. of_state s text (one_read inner hidden (codes "}") rest))
    (atom_read s text)))

-- an expression that is nested less deep than `depth`
abbrev pub expr_read : Scope → ℕ → List ℕ → Found Expr
expr_read s zero text = Err (TooDeep, text)
expr_read s (suc depth) text = whole_read (expr_read s depth) s text
