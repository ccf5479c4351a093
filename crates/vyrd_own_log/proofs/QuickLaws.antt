-- Entries that are read where they lie, by a specification whose methods can be called.
use Rattle.vyrd_own_log.proofs.Prelude
use Prelude.{◌≡◌, ℕ, ◌+◌, ◌<◌, ◌^◌, Bool, true, false, cond, List, ◌∷◌, ◌++◌, get_or, Option, Some}
use Prelude.{None, refl, ap, sym, ◌∙◌, append_assoc, codes, decimal, IfSome, bytes_eq}
use Prelude.{bytes_eq-Decides, OwnMethod, Args, Own, Kind, Call, Return, Write, Commit, BlockOpen}
use Prelude.{BlockClose, BlockCommit, own_call, Method, Written, own_method, named_from, bytes_same}
use Prelude.{both_true, is_below, after_field, own_kind_text, own_args, IsOwnEntryAtFront}
use denote.Ref.{Bor}
use Rattle.vyrd_base.specs.declared.subject.Subject.{Subject}
use Rattle.vyrd_text.specs.Quick.{IsKindAtFront}
use Rattle.vyrd_own_log.specs.Quick.{AreOwnArgsAtFront, IsOwnKindAtFront}
use Rattle.vyrd_own_log.proofs.NameLaws.{named_is}
use Rattle.vyrd_own_log.proofs.EntryLaws.{AllCallable, own_line_is, call_read}

-- a kind that any subject has at the front, and that isn't a return, isn't a call
pub plain_kind : (w : Written) (text : List ℕ) (kind : Kind) (rest : List ℕ)
    → (get_or text 1 0 ≡ 101 → ⊥)
    → ((subject : Subject) → IsKindAtFront subject text kind rest)
    → IsOwnKindAtFront w text kind rest
plain_kind w text (Call method args) rest other is = let never : false ≡ true = (is Own).0 in cc
plain_kind w text (Return reply) rest other is = absurd (other (ap (λ t. get_or t 1 0) (is Own).1))
plain_kind w text (Write word value) rest other is = ((is Own).0, tt, tt, (is Own).1)
plain_kind w text Commit rest other is = (refl, tt, tt, (is Own).1)
plain_kind w text BlockOpen rest other is = (refl, tt, tt, (is Own).1)
plain_kind w text BlockClose rest other is = (refl, tt, tt, (is Own).1)
plain_kind w text BlockCommit rest other is = (refl, tt, tt, (is Own).1)

pub plain_read : (w : Written) (text : List ℕ) (read : Option (Kind × Bor (List ℕ)))
    → (get_or text 1 0 ≡ 101 → ⊥)
    → ((subject : Subject) → IfSome read (λ r. IsKindAtFront subject text r.0 r.1.now))
    → IfSome read (λ r. IsOwnKindAtFront w text r.0 r.1.now)
plain_read w text None other is = tt
plain_read w text (Some r) other is = plain_kind w text r.0 r.1.now other is

-- a name that isn't at the front finds no method there
pub name_skipped : (i : ℕ) (m : Method) (methods : List Method) (name text rest : List ℕ)
    → (text ≡ m.name ++ rest → ⊥) → text ≡ name ++ rest
    → named_from i (m ∷ methods) name ≡ named_from (i + 1) methods name
name_skipped i m methods name text rest none is = by_test (bytes_eq m.name name) refl
  where
    by_test : (b : Bool) → bytes_eq m.name name ≡ b
        → cond b (Some (own_method i m)) (named_from (i + 1) methods name)
        ≡ named_from (i + 1) methods name
    by_test false e = refl
    by_test true e = absurd (none (cc ((bytes_eq-Decides m.name name).0 e)))

-- the first method of a name is the one that the name finds
pub name_found : (i : ℕ) (m : Method) (methods : List Method) → named_from i (m ∷ methods) m.name
    ≡ Some (own_method i m)
name_found i m methods = cc (bytes_same m.name)

-- a call: its method's name, and behind it its arguments
pub called_kind : (w : Written) (all : AllCallable w) (text name behind rest : List ℕ)
    (m : OwnMethod) (args : Args)
    → named_from 0 w.methods name ≡ Some m → text ≡ name ++ behind
    → AreOwnArgsAtFront m.arity behind args rest
    → args.a < 2 ^ 32 → args.b < 2 ^ 32 → args.c < 2 ^ 32
    → IsOwnKindAtFront w (codes "call " ++ text) (Call (own_call m) args) rest
called_kind w all text name behind rest m args found parted are a b c =
    let field = after_field (own_args _ _) in
    let read = call_read w all (name ++ field) _ (own_args _ _) refl
    (named_is 0 w.methods name m all found).one_word m args found (are.0, are.1, refl) a b c in
    (read.0, read.1, read.2, cc (are.2, append_assoc name field (10 ∷ rest), read.3))

-- a caller and what it did
pub entry_at_front : (w : Written) (all : AllCallable w) (text rest after : List ℕ) (caller : ℕ)
    (kind : Kind) → caller < 2 ^ 32
    → text ≡ decimal caller ++ 32 ∷ rest → IsOwnKindAtFront w rest kind after
    → IsOwnEntryAtFront w text (record { caller = caller; kind = kind }) after
entry_at_front w all text rest after caller kind low is k = record {
  ranged = both_true _ _ (is_below caller (2 ^ 32) low) k.0;
  of = k.1;
  no_other = k.2;
  spelled = is ∙ ap (λ t. decimal caller ++ 32 ∷ t) k.3
      ∙ sym (append_assoc (decimal caller) (32 ∷ own_kind_text w kind) (10 ∷ after))
      ∙ ap (λ t. t ++ 10 ∷ after) (sym (own_line_is w caller kind all k.1));
}
