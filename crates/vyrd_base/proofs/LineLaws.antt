-- What a line spells is read back from it.
use Rattle.vyrd_base.proofs.Prelude
use Prelude.{◌≡◌, ℕ, suc, zero, ◌<◌, ◌≤◌, ◌^◌, Bool, true, false, cond, not, ◌&&◌, ◌||◌, List, []}
use Prelude.{◌∷◌, ◌++◌, map, take, Option, Some, None, refl, ap, ◌∙◌, sym, arith, ◌==◌, nat_lt}
use Prelude.{codes, decimal, option_and_then, list_all, bytes_eq, nat_tests, bytes_eq-Decides}
use Prelude.{Subject, Method, Args, Kind, Call, Return, Write, Commit, BlockOpen, BlockClose}
use Prelude.{BlockCommit, Entry, StartWord, arity_of, is_named, kind_fields, start_line, entry_line}
use Prelude.{end_line, is_kind_of, is_entry_of, fields_of, number_of, guessed_entry, entry_in}
use Prelude.{start_in, is_plain_field, lacks, split-join, lacks-join, number_of_decimal, bytes_same}
use Prelude.{both_true, first_true, second_true, same_of, is_same}
use Rattle.std.specs.Option.{option_map}
use Rattle.std.specs.Char.{digit_value}
use Rattle.std.proofs.lemmas.Bool.{and_right}
use Rattle.vyrd_base.specs.Subjects.{are_padded}
use Rattle.vyrd_base.specs.Spelling.{spaced, arg_fields}
use Rattle.vyrd_base.specs.Lines.{args_from, guessed_kind, guessed_start}
use Rattle.vyrd_base.proofs.SubjectLaws.{named_built_in}
use Rattle.vyrd_base.proofs.StructureLaws.{plain_method, some_arguments, few_arguments}
use Rattle.vyrd_base.proofs.StructureLaws.{method_found}
use Rattle.vyrd_base.proofs.SplitLaws.{all_lack, decimal_lacks, no_space, no_line_feed}

pub below_32 : (n : ℕ) → nat_lt n (2 ^ 32) ≡ true → n < 2 ^ 64
below_32 n e = grind (arith, nat_tests)

below_64 : (n : ℕ) → nat_lt n (2 ^ 64) ≡ true → n < 2 ^ 64
below_64 n e = grind (arith, nat_tests)

or_false : (a b : Bool) → (a || b) ≡ true → b ≡ false → a ≡ true
or_false a b e f = search arith

-- the numbers of a call, in their ranges
record Small (args : Args) : Type 0 where
  a : args.a < 2 ^ 64
  b : args.b < 2 ^ 64
  c : args.c < 2 ^ 64

args_1 : (args : Args) → are_padded 1 args ≡ true → Small args → args_from (decimal args.a ∷ [])
    ≡ args
args_1 args e small = search (same_of, or_false, first_true, second_true, number_of_decimal, arith)

args_2 : (args : Args) → are_padded 2 args ≡ true → Small args
    → args_from (decimal args.a ∷ decimal args.b ∷ []) ≡ args
args_2 args e small = grind (arith, small, same_of, or_false, second_true, number_of_decimal)

args_3 : (args : Args) → Small args
    → args_from (decimal args.a ∷ decimal args.b ∷ decimal args.c ∷ []) ≡ args
args_3 args small = grind (arith, small, number_of_decimal)

-- what the range test of a call says
module _ (same padded : Bool) (args : Args)
    (e : (same && padded && nat_lt args.a (2 ^ 32) && nat_lt args.b (2 ^ 32) && nat_lt args.c
    (2 ^ 32)) ≡ true) where
  small_of : Small args
  small_of = search (below_32, second_true, first_true, arith)

  padded_of : padded ≡ true
  padded_of = second_true same _ (first_true _ _ (first_true _ _ (first_true _ _ e)))

-- as many arguments as there are, read from their fields
args_guess : (n : ℕ) (args : Args) → 1 ≤ n → n ≤ 3 → are_padded n args ≡ true → Small args
    → args_from (map decimal (take n (args.a ∷ args.b ∷ args.c ∷ []))) ≡ args
args_guess n args some few e small = search (few, small, args_1, args_2, args_3, arith)

-- a call is guessed right
pub call_guess : (subject : Subject) (method : Method) (args : Args)
    → is_kind_of subject (Call method args) ≡ true
    → guessed_kind subject (kind_fields (Call method args)) ≡ Some (Call method args)
call_guess subject method args e =
    let named : is_named method subject ≡ true = first_true _ _
    (first_true _ _ (first_true _ _ (first_true _ _ e))) in
    let read : args_from (arg_fields method args) ≡ args = args_guess (arity_of method) args
    (some_arguments method (named_built_in method subject named))
    (few_arguments method (named_built_in method subject named))
    (padded_of (is_named method subject) _ args e)
    (small_of (is_named method subject) (are_padded (arity_of method) args) args e) in
    cc (method_found subject method named)

kind_guess : (subject : Subject) (kind : Kind) → is_kind_of subject kind ≡ true
    → guessed_kind subject (kind_fields kind) ≡ Some kind
kind_guess subject kind e =
    search (call_guess, number_of_decimal, below_64, below_32, first_true, second_true, arith)

pub plain_number : (n : ℕ) → n < 2 ^ 64 → is_plain_field (decimal n) ≡ true
plain_number n small = search (both_true, decimal_lacks, no_space, small, no_line_feed, arith)

pub plain_spaces : (fields : List (List ℕ)) → list_all is_plain_field fields ≡ true
    → all_lack 32 fields ≡ true
plain_spaces [] e = refl
plain_spaces (field ∷ fields) e = both_true _ _ (first_true _ _ (first_true _ _ e))
    (plain_spaces fields (second_true (is_plain_field field) _ e))

pub plain_line_feeds : (fields : List (List ℕ)) → list_all is_plain_field fields ≡ true
    → all_lack 10 fields ≡ true
plain_line_feeds [] e = refl
plain_line_feeds (field ∷ fields) e =
    both_true _ _ (second_true (lacks 32 field) _ (first_true _ _ e))
    (plain_line_feeds fields (second_true (is_plain_field field) _ e))

plain_take : (n : ℕ) (numbers : List ℕ) → list_all is_plain_field (map decimal numbers) ≡ true
    → list_all is_plain_field (map decimal (take n numbers)) ≡ true
plain_take zero numbers e = refl
plain_take (suc n) [] e = refl
plain_take (suc n) (x ∷ numbers) e = both_true _ _ (first_true _ _ e)
    (plain_take n numbers (second_true (is_plain_field (decimal x)) _ e))

plain_args : (method : Method) (args : Args) → Small args
    → list_all is_plain_field (arg_fields method args) ≡ true
plain_args method args small = grind (arith, small, plain_take, both_true, plain_number)

plain_kind : (subject : Subject) (kind : Kind) → is_kind_of subject kind ≡ true
    → list_all is_plain_field (kind_fields kind) ≡ true
plain_kind subject kind e = search (
  both_true,
  plain_method,
  plain_args,
  plain_number,
  below_64,
  below_32,
  first_true,
  second_true,
  arith,
)

pub plain_entry : (subject : Subject) (e : Entry) → is_entry_of subject e ≡ true
    → list_all is_plain_field (decimal e.caller ∷ kind_fields e.kind) ≡ true
plain_entry subject e is =
    grind (arith, both_true, plain_number, below_32, first_true, plain_kind, second_true)

-- an entry's line is one line
pub entry_line_whole : (subject : Subject) (e : Entry) → is_entry_of subject e ≡ true
    → lacks 10 (entry_line e) ≡ true
entry_line_whole subject e is = search (lacks-join, plain_line_feeds, plain_entry, arith)

-- an entry is read back from its line
pub entry_in-entry_line : (subject : Subject) (e : Entry) → is_entry_of subject e ≡ true
    → entry_in subject (entry_line e) ≡ Some e
unfolding entry_in
entry_in-entry_line subject e is =
    let fields : fields_of (entry_line e) ≡ decimal e.caller ∷ kind_fields e.kind =
    split-join 32 (decimal e.caller) (kind_fields e.kind)
    (plain_spaces (decimal e.caller ∷ kind_fields e.kind) (plain_entry subject e is)) in
    let guess : guessed_entry subject (fields_of (entry_line e)) ≡ Some e =
    ap (guessed_entry subject) fields
    ∙ ap (option_map (λ kind. record { caller = number_of (decimal e.caller); kind = kind }))
    (kind_guess subject e.kind (second_true (nat_lt e.caller (2 ^ 32)) _ is))
    ∙ ap (λ c. Some (record { caller = c; kind = e.kind }))
    (number_of_decimal e.caller (below_32 e.caller (first_true _ _ is))) in
    cc (both_true _ _ is (bytes_same (entry_line e)))

-- a list with a space isn't the line `end`
pub spaced_isnt_end : (xs ys : List ℕ) → lacks 32 (xs ++ 32 ∷ ys) ≡ false
spaced_isnt_end [] ys = refl
spaced_isnt_end (x ∷ xs) ys = and_right (not (x == 32)) _ (spaced_isnt_end xs ys)

kind_spaced : (start : List ℕ) (kind : Kind) → (rest : List ℕ)
    × (spaced (start ∷ kind_fields kind) ≡ start ++ 32 ∷ rest)
kind_spaced start (Call method args) = (_, refl)
kind_spaced start (Return reply) = (_, refl)
kind_spaced start (Write word value) = (_, refl)
kind_spaced start Commit = (_, refl)
kind_spaced start BlockOpen = (_, refl)
kind_spaced start BlockClose = (_, refl)
kind_spaced start BlockCommit = (_, refl)

pub entry_line_isnt_end : (e : Entry) → bytes_eq (entry_line e) end_line ≡ false
entry_line_isnt_end e = by_test (bytes_eq (entry_line e) end_line) refl
  where
    by_test : (b : Bool) → bytes_eq (entry_line e) end_line ≡ b → b ≡ false
    by_test true same =
        let line = kind_spaced (decimal e.caller) e.kind in
        ap (lacks 32) (sym ((bytes_eq-Decides (entry_line e) end_line).0 same))
        ∙ ap (lacks 32) line.1 ∙ spaced_isnt_end (decimal e.caller) line.0
    by_test false same = refl

-- whether the numbers of a starting word are in the text's ranges
abbrev pub is_start : StartWord → Bool
is_start s = nat_lt s.word (2 ^ 32) && nat_lt s.value (2 ^ 64)

-- the fields of its line after the first
abbrev pub start_numbers : StartWord → List (List ℕ)
start_numbers s = decimal s.word ∷ decimal s.value ∷ []

pub plain_start : (s : StartWord) → is_start s ≡ true
    → list_all is_plain_field (codes "start" ∷ start_numbers s) ≡ true
plain_start s is =
    grind (arith, both_true, plain_number, below_32, first_true, below_64, second_true)

-- a starting word's line is one line
pub start_line_whole : (s : StartWord) → is_start s ≡ true → lacks 10 (start_line s) ≡ true
start_line_whole s is = search (lacks-join, plain_line_feeds, plain_start, arith)

-- a starting word is read back from its line
pub start_in-start_line : (s : StartWord) → is_start s ≡ true → start_in (start_line s) ≡ Some s
unfolding start_in
start_in-start_line s is =
    let fields : fields_of (start_line s) ≡ codes "start" ∷ start_numbers s =
    split-join 32 (codes "start") (start_numbers s)
    (plain_spaces (codes "start" ∷ start_numbers s) (plain_start s is)) in
    let guess : guessed_start (fields_of (start_line s)) ≡ Some s =
    ap guessed_start fields
    ∙ (λ i. Some (record {
      word = number_of_decimal s.word (below_32 s.word (first_true _ _ is)) i;
      value = number_of_decimal s.value
          (below_64 s.value (second_true (nat_lt s.word (2 ^ 32)) _ is)) i;
    })) in
    cc (both_true _ _ is (bytes_same (start_line s)))

-- a starting word that is read is spelled by the line, and its numbers are in the text's ranges
pub start_in_sound : (line : List ℕ) (s : StartWord) → start_in line ≡ Some s
    → (line ≡ start_line s) × (is_start s ≡ true)
unfolding start_in
start_in_sound line s found = by_guess (guessed_start (fields_of line)) found
  where
    checked : (x : StartWord) (b : Bool) → (is_start x && bytes_eq (start_line x) line) ≡ b
        → cond b (Some x) None ≡ Some s
        → (line ≡ start_line s) × (is_start s ≡ true)
    checked x false t f = cc
    checked x true t f =
        let same : x ≡ s = cc in
        let spelled = (bytes_eq-Decides (start_line x) line).0 (second_true (is_start x) _ t) in
        (sym spelled ∙ ap start_line same, ap is_start (sym same) ∙ first_true _ _ t)

    by_guess : (o : Option StartWord)
        → option_and_then (λ x. cond (is_start x && bytes_eq (start_line x) line) (Some x) None) o
        ≡ Some s
        → (line ≡ start_line s) × (is_start s ≡ true)
    by_guess None f = cc
    by_guess (Some x) f = checked x (is_start x && bytes_eq (start_line x) line) refl f

-- what begins with a number doesn't begin with the letter s
number_first : (digits rest more : List ℕ) → lacks 115 digits ≡ true → digits ++ 32 ∷ rest ≡ 115
    ∷ more → ⊥
number_first [] rest more e same = grind arith
number_first (x ∷ digits) rest more e same = search (is_same, first_true, arith)

no_letter : ¬ (digit_value 115 < 10)
no_letter = λ h. omega arith

-- an entry's line spells no starting word
pub start_in-entry_line : (subject : Subject) (e : Entry) → is_entry_of subject e ≡ true
    → start_in (entry_line e) ≡ None
start_in-entry_line subject e is = by_found (start_in (entry_line e)) refl
  where
    by_found : (o : Option StartWord) → start_in (entry_line e) ≡ o → o ≡ None
    by_found None found = refl
    by_found (Some s) found =
        let line = kind_spaced (decimal e.caller) e.kind in
        absurd (number_first (decimal e.caller) line.0 _
        (decimal_lacks 115 e.caller no_letter (below_32 e.caller (first_true _ _ is)))
        (sym line.1 ∙ (start_in_sound (entry_line e) s found).0))

-- nor does the line `end`
pub start_in-end_line : start_in end_line ≡ None
unfolding start_in
start_in-end_line = refl
