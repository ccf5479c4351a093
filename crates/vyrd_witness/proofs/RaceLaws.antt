-- There is an item where there is a race: of a word that another caller holds.
use Rattle.vyrd_witness.proofs.Prelude
use Prelude.{◌≡◌, ◌↔◌, ℕ, Bool, true, false, not, cond, ◌&&◌, ◌||◌, List, [], ◌∷◌, ◌++◌, length}
use Prelude.{Option, Some, None, is_some, refl, flat_map, ◌==◌, unwrap_or, list_any, option_or}
use Prelude.{option_map_or, Header, Kind, Call, Return, Write, Commit, BlockOpen, BlockClose}
use Prelude.{BlockCommit, Entry, by_caller, has_block, holds_word, write_or_open, first_answer}
use Prelude.{newest_first, numbers_below, wrote, Held, is_write_to, last_of, held_by, held_items}
use Rattle.vyrd_base.specs.Shape.{is_held_by_other}

-- Where an entry says that something was done since the open, there is a last entry that did it.
write_step : (w n : ℕ) (own : Bool) (kind : Kind) (since : Option Bool) (last : Option ℕ)
    → (unwrap_or since false ≡ true → is_some last ≡ true)
    → unwrap_or (option_or (cond own (write_or_open w kind) None) since) false ≡ true
    → is_some (cond (own && is_write_to w kind) (Some n) last) ≡ true
write_step w n false kind since last so done = so done
write_step w n true (Write word value) since last so done = by_word (word == w) done
  where
    by_word : (b : Bool)
        → unwrap_or (option_or (cond b (Some true) None) since) false ≡ true
        → is_some (cond b (Some n) last) ≡ true
    by_word true did = refl
    by_word false did = so did
write_step w n true (Call method args) since last so done = so done
write_step w n true (Return reply) since last so done = so done
write_step w n true Commit since last so done = so done
write_step w n true BlockOpen since last so done = cc
write_step w n true BlockClose since last so done = so done
write_step w n true BlockCommit since last so done = so done

last_write : (d w : ℕ) (earlier : List Entry) → wrote d w earlier ≡ true
    → is_some (last_of d (is_write_to w) earlier) ≡ true
last_write d w [] done = cc
last_write d w (e ∷ earlier) done = write_step w (length _) (e.caller == d) e.kind
    (first_answer (by_caller d _) earlier) (last_of d _ _) (last_write d w earlier) done

-- So there is none exactly where the test is false.
none_if : (other block done : Bool) (last : Option ℕ) → (done ≡ true → is_some last ≡ true)
    → (cond (other && (block && done)) (option_map_or (λ at. Held at ∷ []) last []) [] ≡ [])
    ↔ ((other && (block && done)) ≡ false)
none_if false block done last so = (λ e. refl, λ e. refl)
none_if true false done last so = (λ e. refl, λ e. refl)
none_if true true false last so = (λ e. refl, λ e. refl)
none_if true true true (Some at) so = (λ e. cc, λ e. cc)
none_if true true true None so = let found : false ≡ true = so refl in (λ e. cc, λ e. cc)

pub both_none : {A : Type 0} (xs ys : List A) (a b : Bool) → ((xs ≡ []) ↔ (a ≡ false))
    → ((ys ≡ []) ↔ (b ≡ false)) → (xs ++ ys ≡ []) ↔ ((a || b) ≡ false)
both_none [] ys true b first rest = let none : true ≡ false = first.0 refl in (λ e. cc, λ e. cc)
both_none [] ys false b first rest = rest
both_none (x ∷ xs) ys true b first rest = (λ e. cc, λ e. cc)
both_none (x ∷ xs) ys false b first rest =
    let none : x ∷ xs ≡ [] = first.1 refl in (λ e. cc, λ e. cc)

none_of_all : {A B : Type 0} (f : A → List B) (test : A → Bool)
    → ((x : A) → (f x ≡ []) ↔ (test x ≡ false))
    → (xs : List A) → (flat_map f xs ≡ []) ↔ (list_any test xs ≡ false)
none_of_all f test each [] = (λ e. refl, λ e. refl)
none_of_all f test each (x ∷ xs) =
    both_none (f x) (flat_map f _) (test x) (list_any test xs) (each x) (none_of_all f test each xs)

pub held_shown : (h : Header) (front : List Entry) (c w : ℕ)
    → (held_items h front c w ≡ []) ↔ (is_held_by_other h c w (newest_first front) ≡ false)
held_shown h front c w = none_of_all (held_by c w _) (λ d. not _ && holds_word d w _)
    (λ d. none_if (not _) (has_block d _) (wrote d w _) (last_of d _ _) (last_write d w _))
    (numbers_below _)
