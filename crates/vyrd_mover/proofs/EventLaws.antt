-- A later line of a history has one reading.
use Rattle.vyrd_mover.proofs.Prelude
use Prelude.{◌≡◌, ℕ, ◌<◌, ◌^◌, Bool, true, false, cond, not, ◌&&◌, List, [], ◌∷◌, ◌++◌, Option}
use Prelude.{Some, None, refl, ap, sym, ◌∙◌, arith, nat_lt, decimal, list_all, bytes_eq}
use Prelude.{bytes_eq-Decides, not-true, Subject, Kind, Did, Read, Wrote, Took, Gave, Marked}
use Prelude.{Stamped, is_kind_of, fields_of, entry_in, is_write, split-join, number_of_decimal}
use Prelude.{bytes_same, is_plain_field, both_true, first_true, second_true, below_of, is_below}
use Prelude.{one_before_space, entry_line_is, did_line, event_line, is_did_of, is_event_of}
use Prelude.{act_from, mark_or, event_in}
use Rattle.vyrd_base.specs.declared.log.Entry.{Entry}
use Rattle.vyrd_base.specs.Spelling.{entry_line, is_entry_of}
use Rattle.vyrd_base.proofs.LineLaws.{plain_number, plain_spaces, below_32, entry_in-entry_line}
use Rattle.vyrd_base.proofs.ReadingSound.{entry_in_sound}
use Rattle.vyrd_text.specs.Spelled.{kind_text}
use Rattle.vyrd_mover.specs.HistoryLines.{event_if}
use Rattle.vyrd_mover.specs.HistorySpelled.{is_act, act_text, IsPairRead, IsActRead, IsStampedRead}

-- an event of this number and caller
abbrev stamped : ℕ → ℕ → Did → Stamped
stamped number caller did = record { number = number; caller = caller; did = did }

-- the line of an act is its caller, a space and what it does
pub act_line_is : (caller : ℕ) (did : Did) → is_act did ≡ true → did_line caller did
    ≡ decimal caller ++ 32 ∷ act_text did
act_line_is caller did e = grind arith

-- an act is an event of any subject
act_is_event : (subject : Subject) (number caller : ℕ) (did : Did) → nat_lt caller (2 ^ 32) ≡ true
    → is_act did ≡ true
    → is_event_of subject (stamped number caller did) ≡ true
act_is_event subject number caller did low e = grind (arith, both_true)

-- what is read as an act
record IsAct (number : ℕ) (line : List ℕ) (e : Stamped) : Type 0 where
  numbered : e.number ≡ number
  caller : nat_lt e.caller (2 ^ 32) ≡ true
  act : is_act e.did ≡ true
  line_is : line ≡ event_line e

-- the tests of a guess at an act
checked : (subject : Subject) (line : List ℕ) (number caller : ℕ) (did : Did) (e : Stamped)
    → is_did_of subject did ≡ is_act did → (b : Bool)
    → (is_event_of subject (stamped number caller did) && bytes_eq (did_line caller did) line) ≡ b
    → cond b (Some (stamped number caller did)) None ≡ Some e → IsAct number line e
checked subject line number caller did e acts false t f = cc
checked subject line number caller did e acts true t f =
    let same : stamped number caller did ≡ e = cc in
    let event : is_event_of subject (stamped number caller did) ≡ true = first_true _ _ t in
    record {
      numbered = cc;
      caller = ap (λ x. nat_lt x.caller (2 ^ 32)) (sym same)
          ∙ first_true _ _ event;
      act = cc (second_true (nat_lt caller (2 ^ 32)) _ event);
      line_is = sym ((bytes_eq-Decides _ _).0 (second_true _ _ t)) ∙ ap event_line same;
    }

act_from_sound : (subject : Subject) (line : List ℕ) (number : ℕ) (parts : List (List ℕ))
    (e : Stamped) → act_from subject line number parts ≡ Some e
    → IsAct number line e
act_from_sound subject line number parts e f = search (checked, arith)

-- the fields of an access, and of a take or a give
module _ (caller : ℕ) (word : List ℕ) (cell value : ℕ) (w : is_plain_field word ≡ true)
    (lc : caller < 2 ^ 64) (lx : cell < 2 ^ 64) (lv : value < 2 ^ 64) where
  plain_pair : list_all is_plain_field (decimal caller ∷ word ∷ decimal cell ∷ decimal value ∷ [])
      ≡ true
  plain_pair = search (both_true, plain_number, arith)

  plain_one : list_all is_plain_field (decimal caller ∷ word ∷ decimal cell ∷ []) ≡ true
  plain_one = search (both_true, plain_number, arith)

-- an act is read back from the fields of its line
guess_back : (subject : Subject) (line : List ℕ) (number caller : ℕ) (did : Did) → caller < 2 ^ 64
    → is_act did ≡ true
    → act_from subject line number (fields_of (did_line caller did))
    ≡ event_if subject line number caller did
guess_back subject line number caller (Read cell value) low e = search (
  below_32,
  first_true,
  below_of,
  second_true,
  split-join,
  plain_spaces,
  plain_pair,
  number_of_decimal,
  arith,
)
guess_back subject line number caller (Wrote cell value) low e = search (
  below_32,
  first_true,
  below_of,
  second_true,
  split-join,
  plain_spaces,
  plain_pair,
  number_of_decimal,
  arith,
)
guess_back subject line number caller (Took lock) low e = search
    (below_32, split-join, plain_spaces, plain_one, number_of_decimal, arith)
guess_back subject line number caller (Gave lock) low e = search
    (below_32, split-join, plain_spaces, plain_one, number_of_decimal, arith)
guess_back subject line number caller (Marked kind) low e = cc

act_back : (subject : Subject) (number caller : ℕ) (did : Did) → nat_lt caller (2 ^ 32) ≡ true
    → is_act did ≡ true
    → act_from subject (did_line caller did) number (fields_of (did_line caller did))
    ≡ Some (stamped number caller did)
act_back subject number caller did low e =
    grind (arith, guess_back, below_32, both_true, act_is_event, bytes_same)

-- what was found is the act that the line spells
pub stamped_is : (subject : Subject) (number : ℕ) (line : List ℕ) (o : Option Stamped)
    → IsStampedRead number line o
    → o ≡ act_from subject line number (fields_of line)
stamped_is subject number line None none = by_answer (act_from subject line number (fields_of line))
    refl
  where
    by_answer : (o : Option Stamped) → act_from subject line number (fields_of line) ≡ o → None ≡ o
    by_answer None e = refl
    by_answer (Some x) e =
        let is = act_from_sound subject line number (fields_of line) x e in
        absurd (none x (below_of x.caller (2 ^ 32) is.caller) is.act is.line_is)
stamped_is subject number line (Some e) is = search (act_back, is_below, arith)

-- a caller that no act follows
pub no_did : (number : ℕ) (line : List ℕ) (n : ℕ) (r : List ℕ) → n < 2 ^ 64 → line ≡ decimal n
    ++ 32 ∷ r → IsActRead r None → IsStampedRead number line None
no_did number line n r low e none x small act f = search (one_before_space, act_line_is, arith)

-- a cell that no value follows
pub no_value : (text : List ℕ) (m : ℕ) (r : List ℕ) → m < 2 ^ 64 → text ≡ decimal m ++ 32 ∷ r
    → ((n : ℕ) → n < 2 ^ 64 → r ≡ decimal n → ⊥) → IsPairRead text None
no_value text m r low e none = grind (arith, one_before_space)

-- no act is spelled as an entry
no_entry_text : (did : Did) (kind : Kind) → is_act did ≡ true → act_text did ≡ kind_text kind → ⊥
no_entry_text did kind act e = grind arith

no_entry : (subject : Subject) (caller : ℕ) (did : Did) → nat_lt caller (2 ^ 32) ≡ true → is_act did
    ≡ true → entry_in subject (did_line caller did) ≡ None
no_entry subject caller did low act = by_answer (entry_in subject (did_line caller did)) refl
  where
    by_answer : (o : Option Entry) → entry_in subject (did_line caller did) ≡ o → o ≡ None
    by_answer None e = refl
    by_answer (Some y) e =
        let is = entry_in_sound subject (did_line caller did) y e in
        let same = one_before_space caller y.caller (act_text did) (kind_text y.kind)
        (below_32 caller low) (below_32 y.caller (first_true _ _ is.1))
        (sym (act_line_is caller did act) ∙ is.0 ∙ entry_line_is y.caller y.kind) in
        absurd (no_entry_text did y.kind act same.1)

-- what is read is spelled by the line, has the number, and can be said by a line
pub record IsSpelled (subject : Subject) (number : ℕ) (line : List ℕ) (e : Stamped) : Type 0 where
  pub numbered : e.number ≡ number
  pub line_is : line ≡ event_line e
  pub is : is_event_of subject e ≡ true

act_spelled : (subject : Subject) (number : ℕ) (line : List ℕ) (e : Stamped) → IsAct number line e
    → IsSpelled subject number line e
act_spelled subject number line e is = search (act_is_event, arith)

mark_spelled : (subject : Subject) (number : ℕ) (line : List ℕ) (y : Entry) (e : Stamped)
    → line ≡ entry_line y → is_entry_of subject y ≡ true
    → (b : Bool) → is_write y.kind ≡ b
    → cond b None (Some (stamped number y.caller (Marked y.kind))) ≡ Some e
    → IsSpelled subject number line e
mark_spelled subject number line y e spelled is b w f = search
    (both_true, first_true, second_true, arith)

pub event_in_sound : (subject : Subject) (number : ℕ) (line : List ℕ) (e : Stamped)
    → event_in subject number line ≡ Some e → IsSpelled subject number line e
unfolding event_in
event_in_sound subject number line e f = by_entry (entry_in _ _) refl f
  where
    by_entry : (o : Option Entry) → entry_in subject line ≡ o
        → mark_or number o (act_from subject line number (fields_of line)) ≡ Some e
        → IsSpelled subject number line e
    by_entry None found f = search (act_spelled, act_from_sound, arith)
    by_entry (Some y) found f =
        let is = entry_in_sound _ _ y found in
        mark_spelled _ _ _ y e is.0 is.1 _ refl f

-- an event is read back from its line
act_read : (subject : Subject) (number caller : ℕ) (did : Did) → nat_lt caller (2 ^ 32) ≡ true
    → is_act did ≡ true
    → event_in subject number (did_line caller did) ≡ Some (stamped number caller did)
unfolding event_in
act_read subject number caller did low act = search (no_entry, act_back, arith)

did_back : (subject : Subject) (number caller : ℕ) (did : Did)
    → is_event_of subject (stamped number caller did) ≡ true
    → event_in subject number (did_line caller did) ≡ Some (stamped number caller did)
unfolding event_in
did_back subject number caller (Read cell value) is = search
    (act_read, first_true, second_true, arith)
did_back subject number caller (Wrote cell value) is = search
    (act_read, first_true, second_true, arith)
did_back subject number caller (Took lock) is = search (act_read, first_true, second_true, arith)
did_back subject number caller (Gave lock) is = search (act_read, first_true, second_true, arith)
did_back subject number caller (Marked kind) is =
    let kind_is : (is_kind_of subject kind && not (is_write kind)) ≡ true = second_true
    (nat_lt _ _) _ is in
    let low : nat_lt caller (2 ^ 32) ≡ true = first_true _ (is_did_of subject (Marked kind)) is in
    let entry : is_entry_of subject (record { caller = caller; kind = kind }) ≡ true = both_true
    (nat_lt _ _) (is_kind_of subject kind) low (first_true _ (not _) kind_is) in
    let line = did_line caller (Marked kind) in
    ap (λ o. mark_or number o (act_from subject line number (fields_of line)))
    (entry_in-entry_line _ _ entry)
    ∙ ap (λ b. cond b None (Some (stamped number caller (Marked kind))))
    (not-true _ (second_true (is_kind_of subject kind) _ kind_is))

pub event_in-event_line : (subject : Subject) (e : Stamped) → is_event_of subject e ≡ true
    → event_in subject e.number (event_line e) ≡ Some e
event_in-event_line subject e is = did_back subject e.number e.caller e.did is
