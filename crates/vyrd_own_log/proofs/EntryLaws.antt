-- An entry's line has one reading, by a specification whose methods can be called.
use Rattle.vyrd_own_log.proofs.Prelude
use Prelude.{◌≡◌, ℕ, suc, zero, ◌<◌, ◌≤◌, ◌^◌, Bool, true, false, cond, ◌&&◌, List, [], ◌∷◌, ◌++◌}
use Prelude.{map, take, get_or, Option, Some, None, refl, ap, sym, ◌∙◌, subst, arith, zero-add}
use Prelude.{nat_lt, codes, decimal, option_map, option_and_then, list_all, digit_value, bytes_eq}
use Prelude.{append-nil, append_cancel_left, bytes_eq-Decides, OwnMethod, Commits, Args, Kind, Call}
use Prelude.{Return, Write, Commit, BlockOpen, BlockClose, BlockCommit, Entry, own_numbered}
use Prelude.{own_call, own_number, are_padded, spaced, fields_of, number_of, args_from, most}
use Prelude.{Written, own_arity, own_name, named_from, own_fields, own_entry_line, is_own_kind}
use Prelude.{is_own_entry, guessed_own_kind, guessed_own_entry, own_entry_in, lacks, all_lack}
use Prelude.{split-join, lacks-join, decimal_lacks, no_space, no_line_feed, number_of_decimal}
use Prelude.{bytes_same, both_true, first_true, second_true, same_of, below_of, is_below}
use Prelude.{after_field, one_before_space, is_callable, own_kind_text, own_args, IsCalled, IsOf}
use Prelude.{HasNoOther, IsOwnKindRead, AreOwnArgsRead}
use Rattle.vyrd_base.specs.declared.subject.Method.{Method}
use Rattle.vyrd_own_log.proofs.NameLaws.{name_in, arity_in, named_is, one_field}

-- the methods can be called
abbrev pub AllCallable : Written → Type 0
AllCallable w = list_all is_callable w.methods ≡ true

-- what a line says that is read as an entry's
pub record IsEntryLine (w : Written) (line : List ℕ) (e : Entry) : Type 0 where
  pub spelled : line ≡ own_entry_line w e
  pub ranged : is_own_entry w e ≡ true
  pub of : IsOf w e.kind

-- a guess at a kind names a method that there is
kind_of : (w : Written) (fields : List (List ℕ)) (kind : Kind) → AllCallable w
    → guessed_own_kind w fields ≡ Some kind → IsOf w kind
kind_of w [] kind all e = cc
kind_of w (word ∷ []) kind all e = search arith
kind_of w (word ∷ x ∷ more) kind all e = by_tests (bytes_eq word (codes "call"))
    (bytes_eq word (codes "return")) (bytes_eq word (codes "write")) e
  where
    by_name : (o : Option OwnMethod) → named_from 0 w.methods x ≡ o
        → option_map (λ m. Call (own_call m) (args_from more)) o ≡ Some kind → IsOf w kind
    by_name None is f = cc
    by_name (Some m) is f =
        grind (
          arith,
          (named_is 0 w.methods x m all is).number,
          zero-add
              (named_is 0 w.methods x m all is).place,
          (named_is 0 w.methods x m all is).called,
        )

    by_tests : (a b c : Bool)
        → cond a (option_map (λ m. Call (own_call m) (args_from more)) (named_from 0 w.methods x))
        (cond b (Some (Return (number_of x)))
        (cond c (Some (Write (number_of x) (args_from more).a)) (Some BlockCommit))) ≡ Some kind
        → IsOf w kind
    by_tests true b c f = by_name (named_from 0 _ x) refl f
    by_tests false true c f = let same : Return (number_of x) ≡ kind = cc in subst (IsOf w) same tt
    by_tests false false true f = grind arith
    by_tests false false false f = let same : BlockCommit ≡ kind = cc in subst (IsOf w) same tt

entry_of : (w : Written) (fields : List (List ℕ)) (e : Entry) → AllCallable w
    → guessed_own_entry w fields ≡ Some e → IsOf w e.kind
entry_of w fields e all f = grind (arith, kind_of)

-- an entry that is read is spelled by the line
pub entry_sound : (w : Written) (line : List ℕ) (e : Entry) → AllCallable w → own_entry_in w line
    ≡ Some e → IsEntryLine w line e
unfolding own_entry_in
entry_sound w line e all found = by_guess (guessed_own_entry w (fields_of line)) refl found
  where
    checked : (x : Entry) → IsOf w x.kind → (b : Bool)
        → (is_own_entry w x && bytes_eq (own_entry_line w x) line) ≡ b
        → cond b (Some x) None ≡ Some e → IsEntryLine w line e
    checked x of false t f = cc
    checked x of true t f =
        let same : x ≡ e = cc in
        let spelled = (bytes_eq-Decides (own_entry_line w x) line).0
        (second_true (is_own_entry w x) _ t) in
        record {
          spelled = sym spelled ∙ ap (own_entry_line w) same;
          ranged = ap (is_own_entry w) (sym same) ∙ first_true _ _ t;
          of = subst (λ y. IsOf w y.kind) same of;
        }

    by_guess : (o : Option Entry) → guessed_own_entry w (fields_of line) ≡ o
        → option_and_then (λ x. cond (is_own_entry w x && bytes_eq (own_entry_line w x) line)
        (Some x) None) o ≡ Some e → IsEntryLine w line e
    by_guess None is f = cc
    by_guess (Some x) is f = checked x (entry_of w (fields_of line) x all is)
        (is_own_entry w x && bytes_eq (own_entry_line w x) line) refl f

-- the numbers of a call, in their ranges
record AreSmall (args : Args) : Type 0 where
  a : args.a < 2 ^ 32
  b : args.b < 2 ^ 32
  c : args.c < 2 ^ 32

module _ (padded : Bool) (args : Args)
    (e : (padded && nat_lt args.a (2 ^ 32) && nat_lt args.b (2 ^ 32) && nat_lt args.c (2 ^ 32))
    ≡ true) where
  are_small : AreSmall args
  are_small = search (below_of, second_true, first_true, arith)

  is_padded : padded ≡ true
  is_padded = first_true _ _ (first_true _ _ (first_true _ _ e))

-- the test of a call's numbers
pub ranged_call : (padded : Bool) (args : Args) → padded ≡ true → args.a < 2 ^ 32 → args.b < 2 ^ 32
    → args.c < 2 ^ 32
    → (padded && nat_lt args.a (2 ^ 32) && nat_lt args.b (2 ^ 32) && nat_lt args.c (2 ^ 32)) ≡ true
ranged_call padded args p a b c = grind (arith, padded, both_true, is_below)

-- the number of a method that is called
numbered_is : (i : ℕ) (commits : Commits) → own_number (own_numbered i commits) ≡ Some i
numbered_is i commits = grind arith

module _ (w : Written) (all : AllCallable w) (method : Method) (of : IsCalled w method) where
  called_number : own_number method ≡ Some of.named.number
  called_number = ap own_number (sym of.is) ∙ numbered_is of.named.number of.named.commits

  called_arity : own_arity w of.named.number ≡ of.named.arity
  called_arity =
      let n = named_is 0 w.methods (own_name w of.named.number) of.named all of.found in
      ap (arity_in w.methods) (n.number ∙ zero-add n.place) ∙ n.arity

  -- its fields, and the test of its numbers
  pub called_fields : (args : Args) → own_fields w (Call method args)
      ≡ codes "call" ∷ own_name w of.named.number ∷ map decimal
      (take of.named.arity (args.a ∷ args.b ∷ args.c ∷ []))
  called_fields args = search (called_number, called_arity, arith)

  pub called_test : (args : Args) → is_own_kind w (Call method args)
      ≡ (are_padded of.named.arity args && nat_lt args.a (2 ^ 32) && nat_lt args.b (2 ^ 32)
      && nat_lt args.c (2 ^ 32))
  called_test args = search (called_number, called_arity, arith)

pub below_64 : (n : ℕ) → n < 2 ^ 32 → n < 2 ^ 64
below_64 n low = omega arith

-- as many arguments as there are, read from their fields
b_is_0 : (n : ℕ) (args : Args) → are_padded n args ≡ true → nat_lt 1 n ≡ false → args.b ≡ 0
b_is_0 n args e few = grind (arith, few, first_true, same_of)

c_is_0 : (n : ℕ) (args : Args) → are_padded n args ≡ true → nat_lt 2 n ≡ false → args.c ≡ 0
c_is_0 n args e few = grind (arith, few, second_true, same_of)

args_guess : (n : ℕ) (args : Args) → n ≤ 3 → (n ≡ 0 → args.a ≡ 0) → are_padded n args ≡ true
    → AreSmall args
    → args_from (map decimal (take n (args.a ∷ args.b ∷ args.c ∷ []))) ≡ args
args_guess n args few other e small = search (b_is_0, c_is_0, number_of_decimal, below_64, arith)

pub below_most : (n : ℕ) → nat_lt n most ≡ true → n < 2 ^ 64
below_most n e = let h = below_of n most e in omega (arith, h)

-- a kind is guessed right
kind_guess : (w : Written) (kind : Kind) → AllCallable w → is_own_kind w kind ≡ true → IsOf w kind
    → HasNoOther w kind
    → guessed_own_kind w (own_fields w kind) ≡ Some kind
kind_guess w (Call method args) all e of other =
    let m = of.named in
    let n = named_is 0 w.methods (own_name w _) m all of.found in
    let ranged = sym (called_test w all method of args) ∙ e in
    let none : m.arity ≡ 0 → args.a ≡ 0 = λ z. other m.number (called_number w all _ of)
    (called_arity w all method of ∙ z) in
    let read = args_guess m.arity args n.few none (is_padded _ args ranged)
    (are_small (are_padded m.arity args) _ ranged) in
    ap (guessed_own_kind w) (called_fields w all _ of _) ∙ ap (option_map _) of.found
    ∙ (λ i. Some (Call (of.is i) (read i)))
kind_guess w (Return reply) all e of other = cc (number_of_decimal reply (below_most reply e))
kind_guess w (Write word value) all e of other =
    grind (arith, number_of_decimal, below_64, below_of, first_true, second_true)
kind_guess w Commit all e of other = refl
kind_guess w BlockOpen all e of other = refl
kind_guess w BlockClose all e of other = refl
kind_guess w BlockCommit all e of other = refl

-- a byte that is no digit, and in no word and no method's name: so it is in no field
record IsNoField (b : ℕ) (w : Written) : Type 0 where
  digits : ¬ (digit_value b < 10)
  called : lacks b (codes "call") ≡ true
  returned : lacks b (codes "return") ≡ true
  written : lacks b (codes "write") ≡ true
  committed : lacks b (codes "commit") ≡ true
  opened : lacks b (codes "open") ≡ true
  closed : lacks b (codes "close") ≡ true
  names : (name : List ℕ) (m : OwnMethod) → named_from 0 w.methods name ≡ Some m → lacks b name
      ≡ true

space_no_field : (w : Written) → AllCallable w → IsNoField 32 w
space_no_field w all = record {
  digits = no_space;
  called = refl;
  returned = refl;
  written = refl;
  committed = refl;
  opened = refl;
  closed = refl;
  names = λ name m found. (named_is 0 w.methods name m all found).one_word;
}

line_feed_no_field : (w : Written) → AllCallable w → IsNoField 10 w
line_feed_no_field w all = record {
  digits = no_line_feed;
  called = refl;
  returned = refl;
  written = refl;
  committed = refl;
  opened = refl;
  closed = refl;
  names = λ name m found. (named_is 0 w.methods name m all found).one_line;
}

module _ (b : ℕ) (w : Written) (all : AllCallable w) (out : IsNoField b w) where
  lack_number : (n : ℕ) → n < 2 ^ 64 → lacks b (decimal n) ≡ true
  lack_number n small = decimal_lacks b n out.digits small

  lack_take : (n : ℕ) (numbers : List ℕ) → all_lack b (map decimal numbers) ≡ true
      → all_lack b (map decimal (take n numbers)) ≡ true
  lack_take zero numbers e = refl
  lack_take (suc n) [] e = refl
  lack_take (suc n) (x ∷ numbers) e = both_true _ _ (first_true _ _ e)
      (lack_take n numbers (second_true (lacks b (decimal x)) _ e))

  lack_kind : (kind : Kind) → is_own_kind w kind ≡ true → IsOf w kind
      → all_lack b (own_fields w kind) ≡ true
  lack_kind (Call method args) e of = search
      (are_small, called_test, called_fields, both_true, lack_take, lack_number, below_64, arith)
  lack_kind (Return reply) e of = search (both_true, lack_number, below_most, arith)
  lack_kind (Write word value) e of = search
      (both_true, lack_number, below_64, below_of, first_true, second_true, arith)
  lack_kind Commit e of = both_true _ _ out.committed refl
  lack_kind BlockOpen e of = both_true _ _ out.opened refl
  lack_kind BlockClose e of = both_true _ _ out.closed refl
  lack_kind BlockCommit e of = both_true _ _ out.closed (both_true _ _ out.committed refl)

  lack_fields : (e : Entry) → is_own_entry w e ≡ true → IsOf w e.kind
      → all_lack b (decimal e.caller ∷ own_fields w e.kind) ≡ true
  lack_fields e ranged of =
      search (below_of, first_true, both_true, lack_number, below_64, lack_kind, second_true, arith)

-- an entry's line has no line feed
pub entry_one_line : (w : Written) (e : Entry) → AllCallable w → is_own_entry w e ≡ true
    → IsOf w e.kind → lacks 10 (own_entry_line w e) ≡ true
entry_one_line w e all ranged of = search (lacks-join, lack_fields, line_feed_no_field, arith)

-- a spelled entry is read back
pub entry_complete : (w : Written) (e : Entry) → AllCallable w → is_own_entry w e ≡ true
    → IsOf w e.kind → HasNoOther w e.kind
    → own_entry_in w (own_entry_line w e) ≡ Some e
unfolding own_entry_in
entry_complete w e all ranged of other =
    ap (λ fields. option_and_then
    (λ x. cond (is_own_entry w x && bytes_eq (own_entry_line w x) (own_entry_line w e))
    (Some x) None) (guessed_own_entry w fields))
    (split-join 32 (decimal e.caller) (own_fields w e.kind)
    (lack_fields 32 w all (space_no_field w all) e ranged of))
    ∙ ap (option_and_then
    (λ x. cond (is_own_entry w x && bytes_eq (own_entry_line w x) (own_entry_line w e))
    (Some x) None)) guess
    ∙ ap (λ b. cond b (Some e) None) (both_true _ _ ranged (bytes_same (own_entry_line w e)))
  where
    kind : is_own_kind w e.kind ≡ true
    kind = second_true (nat_lt e.caller (2 ^ 32)) _ ranged

    guess : guessed_own_entry w (decimal e.caller ∷ own_fields w e.kind) ≡ Some e
    guess = search (number_of_decimal, below_64, kind_guess, arith)

-- an entry's line is its caller, a space and what it says
pub own_line_is : (w : Written) (caller : ℕ) (kind : Kind) → AllCallable w → IsOf w kind
    → own_entry_line w (record { caller = caller; kind = kind }) ≡ decimal caller
    ++ 32 ∷ own_kind_text w kind
own_line_is w caller kind all of = grind arith

module _ (w : Written) (line : List ℕ) (all : AllCallable w) where
  -- a line that isn't an entry's
  pub no_entry : ((e : Entry) → is_own_entry w e ≡ true → IsOf w e.kind → line ≡ own_entry_line w e
      → ⊥) → None ≡ own_entry_in w line
  no_entry none = by_answer (own_entry_in w line) refl
    where
      by_answer : (o : Option Entry) → own_entry_in w line ≡ o → None ≡ o
      by_answer None e = refl
      by_answer (Some x) e = let is = entry_sound w line x all e in absurd
          (none x is.ranged is.of is.spelled)

  -- a line without a number before a space
  pub no_caller : ((n : ℕ) (rest : List ℕ) → n < 2 ^ 32 → line ≡ decimal n ++ 32 ∷ rest → ⊥)
      → None ≡ own_entry_in w line
  no_caller none = search (no_entry, below_of, first_true, own_line_is, arith)

  -- a line that says nothing after its caller
  pub no_kind : (caller : ℕ) (rest : List ℕ) → caller < 2 ^ 64 → line ≡ decimal caller ++ 32 ∷ rest
      → IsOwnKindRead w rest None → None ≡ own_entry_in w line
  no_kind caller rest low is none = search
      (no_entry, below_of, first_true, one_before_space, own_line_is, second_true, arith)

  -- a line that is an entry's
  pub entry_read : (caller : ℕ) (kind : Kind) (rest : List ℕ) → caller < 2 ^ 32
      → line ≡ decimal caller ++ 32 ∷ rest
      → IsOwnKindRead w rest (Some kind) → Some (record { caller = caller; kind = kind })
      ≡ own_entry_in w line
  entry_read caller kind rest low is read =
      let entry : Entry = record { caller = caller; kind = kind } in
      let same : line ≡ own_entry_line w entry = is ∙ ap (λ t. decimal caller ++ 32 ∷ t) read.3
      ∙ sym (own_line_is w caller kind all read.1) in
      sym (ap (own_entry_in w) same ∙ entry_complete w entry all
      (both_true _ _ (is_below caller (2 ^ 32) low) read.0) read.1 read.2)

-- a call's text is its method's name, and behind it its arguments
pub call_text_is : (w : Written) (all : AllCallable w) (method : Method) (args : Args)
    (of : IsCalled w method)
    → own_kind_text w (Call method args) ≡ codes "call "
    ++ (own_name w of.named.number ++ after_field (own_args of.named.arity args))
call_text_is w all method args of = cc (called_fields w all method of args, by_arity of.named.arity)
  where
    by_arity : (n : ℕ)
        → spaced (codes "call" ∷ own_name w of.named.number ∷ map decimal
        (take n (args.a ∷ args.b ∷ args.c ∷ [])))
        ≡ codes "call " ++ (own_name w of.named.number ++ after_field (own_args n args))
    by_arity zero = cc (append-nil (own_name w of.named.number))
    by_arity (suc n) = refl

-- a call's text begins with a c, whatever its method
call_begins : (w : Written) (method : Method) (args : Args) → is_own_kind w (Call method args)
    ≡ true
    → get_or (own_kind_text w (Call method args)) 0 0 ≡ 99
call_begins w method args e = search arith

-- a word before a space that no value follows isn't a write
pub no_value : (text : List ℕ) (n : ℕ) (r : List ℕ) → n < 2 ^ 64 → text ≡ decimal n ++ 32 ∷ r
    → ((v : ℕ) → v < 2 ^ 64 → r ≡ decimal v → ⊥)
    → (w : Written) → IsOwnKindRead w (codes "write " ++ text) None
no_value text n r low e none w = search
    (below_of, first_true, second_true, one_before_space, call_begins, arith)

-- the greatest number isn't a reply
pub no_reply : (text : List ℕ) (n : ℕ) → n < 2 ^ 64 → n ≡ most → text ≡ decimal n → (w : Written)
    → IsOwnKindRead w (codes "return " ++ text) None
no_reply text n low is e w (Return reply) ok of f =
    grind (
      arith,
      number_of_decimal n low,
      append_cancel_left (codes "return ") text (decimal reply)
          f,
      number_of_decimal reply (below_most reply ok),
      below_of reply most ok,
    )
no_reply text n low is e w (Call method args) ok of f = grind (arith, call_begins w method args ok)
no_reply text n low is e w (Write word value) ok of f = grind arith
no_reply text n low is e w Commit ok of f = grind arith
no_reply text n low is e w BlockOpen ok of f = grind arith
no_reply text n low is e w BlockClose ok of f = grind arith
no_reply text n low is e w BlockCommit ok of f = grind arith

-- a call: its name and what follows it are those of the text
module _ (w : Written) (all : AllCallable w) (text name : List ℕ) (rest : Option (List ℕ))
    (parts : text ≡ name ++ after_field rest)
    (one_word : lacks 32 name ≡ true) where
  called : (method : Method) (args : Args) (of : IsCalled w method) → codes "call " ++ text
      ≡ own_kind_text w (Call method args)
      → (named_from 0 w.methods name ≡ Some of.named) × (rest ≡ own_args of.named.arity args)
  called method args of f =
      let m = of.named in
      let n = named_is 0 w.methods (own_name w _) m all of.found in
      let same : text ≡ own_name w m.number ++ after_field (own_args m.arity args) =
      append_cancel_left (codes "call ") _ _ (f ∙ call_text_is w all _ _ of) in
      let one = one_field name (own_name w _) _ _ one_word n.one_word (sym parts ∙ same) in
      (ap (named_from 0 w.methods) one.0 ∙ of.found, one.1)

  only_call : ((method : Method) (args : Args) → is_own_kind w (Call method args) ≡ true
      → IsCalled w method
      → codes "call " ++ text ≡ own_kind_text w (Call method args) → ⊥)
      → IsOwnKindRead w (codes "call " ++ text) None
  only_call none = search arith

  -- a name that no method has
  pub no_method : named_from 0 w.methods name ≡ None → IsOwnKindRead w (codes "call " ++ text) None
  no_method none = only_call (λ method args ok of f.
      let is : named_from 0 w.methods name ≡ Some of.named = (called method args of f).0 in
      cc)

  -- arguments that the method doesn't have
  pub no_arguments : (m : OwnMethod) → named_from 0 w.methods name ≡ Some m
      → AreOwnArgsRead m.arity rest None
      → IsOwnKindRead w (codes "call " ++ text) None
  no_arguments m found none = only_call (λ method args ok of f.
      let x = of.named in
      let is = called _ _ of f in
      let same : m ≡ x = let two : Some m ≡ Some x = sym found ∙ is.0 in cc in
      let ranged = sym (called_test w all method of args) ∙ ok in
      let small = are_small (are_padded x.arity args) args ranged in
      none args (cc (is_padded (are_padded x.arity args) args ranged)) small.a small.b small.c
      (cc is.1))

  -- a call that was read
  pub call_read : (m : OwnMethod) (args : Args) → named_from 0 w.methods name ≡ Some m
      → AreOwnArgsRead m.arity rest (Some args)
      → args.a < 2 ^ 32 → args.b < 2 ^ 32 → args.c < 2 ^ 32
      → IsOwnKindRead w (codes "call " ++ text) (Some (Call (own_call m) args))
  call_read m args found read a b c =
      let n = named_is 0 _ _ m all found in
      let name_is : own_name w m.number ≡ name = ap (name_in _)
      (n.number ∙ zero-add _) ∙ n.called in
      let of : IsCalled w (own_call m) =
      record { named = m; is = refl; found = ap (named_from 0 _) name_is ∙ found } in
      let arity : (i : ℕ) → own_number (own_call m) ≡ Some i → own_arity w i ≡ m.arity = λ i is.
      let same : Some m.number ≡ Some i = sym (called_number w all _ of) ∙ is in
      let number : m.number ≡ i = cc in
      ap (own_arity w) (sym number) ∙ called_arity w all (own_call m) of in (
        called_test w all (own_call m) of args ∙ ranged_call (are_padded m.arity args) _ read.0 a
            b c,
        of,
        λ i is zero. read.1 (sym (arity i is) ∙ zero),
        cc (call_text_is w all (own_call m) args of),
      )
