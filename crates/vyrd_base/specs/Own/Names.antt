-- Names: which words are some, and which are taken.
use Rattle.std.specs.Prelude.{if◌then◌else◌}
use Rattle.std.specs.Prelude.{ℕ, Bool, not, ◌&&◌, ◌||◌, nat_le, List, [], ◌∷◌, length, codes, Ok}
use Rattle.std.specs.Prelude.{Err}
use Rattle.std.specs.Option.{is_some}
use Rattle.std.specs.List.{list_any}
use Rattle.std.specs.Str.{bytes_eq}
use Rattle.vyrd_base.specs.Own.Reading.{Found, word_of, after_word, place_in, is_lettered}
use Rattle.vyrd_base.specs.Own.Programs.{Written}
use Rattle.vyrd_base.specs.declared.own.rule.SpecificationRule.TheVariants as rules

-- the words of the language, which are no names
unfoldable pub words_of_parts : List (List ℕ)
words_of_parts = codes "w0" ∷ codes "w1" ∷ codes "w2" ∷ codes "w3" ∷ codes "w4" ∷ codes "w5"
    ∷ codes "w6" ∷ codes "w7" ∷ codes "w8" ∷ codes "w9" ∷ codes "w10" ∷ codes "w11" ∷ codes "w12"
    ∷ codes "w13" ∷ codes "w14" ∷ codes "w15" ∷ []

abbrev pub reserved : List (List ℕ)
reserved = codes "none" ∷ codes "count" ∷ codes "if" ∷ codes "then" ∷ codes "else" ∷ codes "not"
    ∷ codes "least" ∷ codes "greatest" ∷ codes "first" ∷ codes "last" ∷ codes "length" ∷ codes "and"
    ∷ codes "or" ∷ codes "reply" ∷ codes "part" ∷ codes "log" ∷ []

abbrev pub is_among : List ℕ → List (List ℕ) → Bool
is_among word names = is_some (place_in names word)

-- a name: a letter, and then letters, digits and `_`, at most 32 bytes in all, and no such word
unfoldable pub is_name : List ℕ → Bool
is_name word = is_lettered word && nat_le (length word) 32
    && not (list_any (bytes_eq word) reserved) && not (list_any (bytes_eq word) words_of_parts)

-- whether a constant, a register or a list has the name
abbrev pub is_known : Written → List ℕ → Bool
is_known w word =
    is_among word w.constant_names || is_among word w.register_names || is_among word w.list_names

-- a name that is new, where `taken` says whether the word at the front isn't
abbrev pub new_name : Bool → List ℕ → Found (List ℕ)
new_name taken text =
    if is_name (word_of text)
    then (if taken then Err (rules.NameTaken, text) else Ok (word_of text, after_word text))
    else Err (rules.BadLine, text)
