-- A later line has one reading.
use Rattle.vyrd_work.proofs.Prelude
use Prelude.{◌≡◌, ℕ, ◌<◌, ◌^◌, Bool, true, false, cond, ◌&&◌, List, ◌∷◌, ◌++◌, get_or, Option, Some}
use Prelude.{None, refl, ap, sym, ◌∙◌, arith, nat_lt, nat_le, codes, decimal, option_map}
use Prelude.{option_and_then, list_all, bytes_eq, append_cancel_left, nat_tests, bytes_eq-Decides}
use Prelude.{decimal_injective, Subject, Method, Args, Call, Entry, arity_of, are_padded, is_named}
use Prelude.{method_name, arg_fields, end_line, is_kind_of, fields_of, method_called, args_from}
use Prelude.{lacks, split-join, lacks-join, number_of_decimal, bytes_same, is_plain_field}
use Prelude.{plain_number, plain_spaces, plain_line_feeds, call_guess, plain_entry, below_32}
use Prelude.{both_true, first_true, second_true, below_of, Turn, call_text, IsCallRead}
use Prelude.{one_before_space, WorkOp, Item, item_fields, item_line, most_turns, are_small}
use Prelude.{is_item_of, guessed_item, item_in, IsItemRead}
use Rattle.vyrd_work.specs.declared.line.Item.TheVariants as item

-- what is read is spelled by the line, and its numbers are in range
pub item_in_sound : (subject : Subject) (line : List ℕ) (x : Item) → item_in subject line ≡ Some x
    → (line ≡ item_line x) × (is_item_of subject x ≡ true)
unfolding item_in
item_in_sound subject line x found = by_guess (guessed_item subject (fields_of line)) found
  where
    checked : (y : Item) (b : Bool) → (is_item_of subject y && bytes_eq (item_line y) line) ≡ b
        → cond b (Some y) None ≡ Some x
        → (line ≡ item_line x) × (is_item_of subject x ≡ true)
    checked y false t f = cc
    checked y true t f =
        let same : y ≡ x = cc in
        let spelled = (bytes_eq-Decides _ _).0 (second_true _ _ t) in
        (sym spelled ∙ ap item_line same, ap (is_item_of _) (sym same) ∙ first_true _ _ t)

    by_guess : (o : Option Item)
        → option_and_then (λ y. cond (is_item_of subject y && bytes_eq (item_line y) line)
        (Some y) None) o ≡ Some x
        → (line ≡ item_line x) × (is_item_of subject x ≡ true)
    by_guess None f = cc
    by_guess (Some y) f = checked y (is_item_of _ y && bytes_eq (item_line y) _) refl f

pub turn_count_fits : (n : ℕ) → nat_le n most_turns ≡ true → n < 2 ^ 32
turn_count_fits n e = grind (arith, nat_tests)

few_turns : (n : ℕ) → nat_le n most_turns ≡ true → n < 2 ^ 64
few_turns n e = grind (arith, nat_tests)

-- the entry of a log that calls what the operation calls
abbrev pub call_of : WorkOp → Entry
call_of o = record { caller = o.caller; kind = Call o.op.method o.op.args }

-- the tests of an operation
module _ (subject : Subject) (o : WorkOp) (is : is_item_of subject (item.Op o) ≡ true) where
  pub op_caller : nat_lt o.caller (2 ^ 32) ≡ true
  op_caller = first_true _ _ is

  op_rest : (is_named o.op.method subject && are_padded (arity_of o.op.method) o.op.args
      && are_small o.op.args) ≡ true
  op_rest = second_true (nat_lt o.caller (2 ^ 32)) _ is

  pub op_named : is_named o.op.method subject ≡ true
  op_named = first_true _ _ (first_true _ _ op_rest)

  pub op_padded : are_padded (arity_of o.op.method) o.op.args ≡ true
  op_padded = second_true (is_named o.op.method subject) _ (first_true _ _ op_rest)

  pub op_small : are_small o.op.args ≡ true
  op_small = search (second_true, op_rest, arith)

  pub op_a : nat_lt o.op.args.a (2 ^ 32) ≡ true
  op_a = first_true _ _ (first_true _ _ op_small)

  pub op_b : nat_lt o.op.args.b (2 ^ 32) ≡ true
  op_b = second_true (nat_lt o.op.args.a (2 ^ 32)) _ (first_true _ _ op_small)

  pub op_c : nat_lt o.op.args.c (2 ^ 32) ≡ true
  op_c = second_true (nat_lt o.op.args.a (2 ^ 32) && nat_lt o.op.args.b (2 ^ 32)) _ op_small

  -- it can be called in a log
  pub op_call : is_kind_of subject (Call o.op.method o.op.args) ≡ true
  op_call = search (both_true, op_named, op_padded, op_a, op_b, op_c, arith)

  op_fields_plain : list_all is_plain_field (item_fields (item.Op o)) ≡ true
  op_fields_plain =
      let plain = plain_entry subject (call_of o) (both_true _ _ op_caller op_call) in
      both_true _ _ refl
      (both_true _ _ (first_true _ _ plain)
      (second_true (is_plain_field (codes "call")) _
      (second_true (is_plain_field (decimal o.caller)) _ plain)))

turns_fields_plain : (subject : Subject) (t : Turn) → is_item_of subject (item.Turns t) ≡ true
    → list_all is_plain_field (item_fields (item.Turns t)) ≡ true
turns_fields_plain subject t is =
    search (below_32, first_true, few_turns, second_true, both_true, plain_number, arith)

-- a later line is one line
pub item_line_whole : (subject : Subject) (x : Item) → is_item_of subject x ≡ true
    → lacks 10 (item_line x) ≡ true
item_line_whole subject (item.Op o) is = search
    (lacks-join, plain_line_feeds, op_fields_plain, arith)
item_line_whole subject (item.Turns t) is = simp (lacks-join, plain_line_feeds, turns_fields_plain)

-- a guess at a call says what is called
guess_is : (o : Option Method) (fields : List (List ℕ)) (method : Method) (args : Args)
    → option_map (λ m. Call m (args_from fields)) o ≡ Some (Call method args)
    → (o ≡ Some method) × (args_from fields ≡ args)
guess_is o fields method args e = grind arith

item_guess : (subject : Subject) (x : Item) → is_item_of subject x ≡ true
    → guessed_item subject (item_fields x) ≡ Some x
item_guess subject (item.Op o) is =
    let guess = guess_is (method_called subject (method_name _)) (arg_fields o.op.method o.op.args)
    o.op.method o.op.args (call_guess subject _ _ (op_call _ o is)) in
    let caller = number_of_decimal o.caller (below_32 _ (op_caller subject o is)) in
    λ i. option_map
    (λ method. item.Op
    (record { caller = caller i; op = record { method = method; args = guess.1 i } })) (guess.0 i)
item_guess subject (item.Turns t) is =
    search (number_of_decimal, below_32, first_true, few_turns, second_true, arith)

item_line_fields : (subject : Subject) (x : Item) → is_item_of subject x ≡ true
    → fields_of (item_line x) ≡ item_fields x
item_line_fields subject (item.Op o) is = search (split-join, plain_spaces, op_fields_plain, arith)
item_line_fields subject (item.Turns t) is = simp (split-join, plain_spaces, turns_fields_plain)

-- what a later line says is read back from it
pub item_in-item_line : (subject : Subject) (x : Item) → is_item_of subject x ≡ true
    → item_in subject (item_line x) ≡ Some x
unfolding item_in
item_in-item_line subject x is = grind (arith, item_line_fields, item_guess, both_true, bytes_same)

-- and it isn't `end`
pub item_line_isnt_end : (x : Item) → bytes_eq (item_line x) end_line ≡ false
item_line_isnt_end x = search arith

-- what was found is what the line says
pub item_is : (subject : Subject) (line : List ℕ) (o : Option Item) → IsItemRead subject line o
    → o ≡ item_in subject line
item_is subject line None none = by_answer (item_in subject line) refl
  where
    by_answer : (o : Option Item) → item_in subject line ≡ o → None ≡ o
    by_answer None e = refl
    by_answer (Some x) e = let is = item_in_sound subject line x e in absurd (none x is.1 is.0)
item_is subject line (Some x) read = cc (read.1, item_in-item_line subject x read.0)

-- a caller that no call follows is no operation's
pub no_call : (subject : Subject) (text : List ℕ) (n : ℕ) (r : List ℕ) → n < 2 ^ 64
    → text ≡ decimal n ++ 32 ∷ r → IsCallRead subject r None
    → IsItemRead subject (codes "op " ++ text) None
no_call subject text n r low e none (item.Op o) ok f =
    let caller : o.caller < 2 ^ 64 = below_32 _ (op_caller subject o ok) in
    let after = append_cancel_left (codes "op ") text (decimal _ ++ 32 ∷ call_text _ _) f in
    let is = one_before_space n o.caller r (call_text _ _) low caller (sym e ∙ after) in
    none o.op.method o.op.args (op_named _ o ok) (op_padded subject o ok)
    (below_of _ _ (op_a subject o ok)) (below_of _ _ (op_b subject o ok))
    (below_of _ _ (op_c subject o ok)) is.1
no_call subject text n r low e none (item.Turns t) ok f = grind arith

-- a caller that no count follows is no turns'
module _ (text : List ℕ) (n : ℕ) (r : List ℕ) (low : n < 2 ^ 64) (e : text ≡ decimal n ++ 32 ∷ r)
  where
    after_caller : (subject : Subject) (t : Turn) → is_item_of subject (item.Turns t) ≡ true
        → codes "turn " ++ text ≡ item_line (item.Turns t) → r ≡ decimal t.count
    after_caller subject t ok f =
        let after = append_cancel_left (codes "turn ") text
        (decimal t.caller ++ 32 ∷ decimal t.count)
        f in
        (one_before_space n t.caller r (decimal t.count) low (below_32 t.caller (first_true _ _ ok))
        (sym e ∙ after)).1

    count_fits : (subject : Subject) (t : Turn) → is_item_of subject (item.Turns t) ≡ true
        → (nat_le 1 t.count && nat_le t.count most_turns) ≡ true
    count_fits subject t ok = second_true (nat_lt t.caller (2 ^ 32)) _ ok

    pub no_count : ((m : ℕ) → m < 2 ^ 32 → r ≡ decimal m → ⊥) → (subject : Subject)
        → IsItemRead subject (codes "turn " ++ text) None
    no_count none subject (item.Op o) ok f = absurd
        (let h : 116 ≡ 111 = ap (λ t. get_or t 0 0) f in omega (arith, h))
    no_count none subject (item.Turns t) ok f =
        none t.count
        (turn_count_fits t.count (second_true (nat_le 1 t.count) _ (count_fits subject t ok)))
        (after_caller subject t ok f)

    pub bad_count : (m : ℕ) → m < 2 ^ 64 → r ≡ decimal m → (nat_le 1 m && nat_le m most_turns)
        ≡ false
        → (subject : Subject) → IsItemRead subject (codes "turn " ++ text) None
    bad_count m small g bad subject (item.Op o) ok f = absurd
        (let h : 116 ≡ 111 = ap (λ t. get_or t 0 0) f in omega (arith, h))
    bad_count m small g bad subject (item.Turns t) ok f =
        let few : t.count < 2 ^ 64 = few_turns t.count
        (second_true (nat_le 1 t.count) _ (count_fits subject t ok)) in
        let same : m ≡ t.count = decimal_injective m t.count small few
        (sym g ∙ after_caller subject t ok f) in
        let both : true ≡ false = sym (count_fits subject t ok)
        ∙ (λ i. nat_le 1 (sym same i) && nat_le (sym same i) most_turns) ∙ bad in
        cc
