-- The left neighbours of nodes, found one right link after another.
use Rattle.vyrd_spec.proofs.Prelude
use Prelude.{◌≡◌, ℕ, ◌+◌, ◌<◌, ◌≤◌, Bool, true, false, cond, not, ◌&&◌, ◌||◌, List, length, map}
use Prelude.{get_or, set, length-set, get_or-set_same, get_or-set_other, Option, Some, None, refl}
use Prelude.{ap, ◌∙◌, sym, arith, ◌==◌, nat_lt, nat_le, find, count_by, is_some, option_or}
use Prelude.{ext_get_or, get_or_past, numbers_below, right_of, nodes, leads_to, left_of, same_of}
use Prelude.{is_same, first_true, second_true, neither_true, is_at_most, isnt_at_most, below_of}
use Prelude.{not_below_of, element_below, length_below, have_one_left, has_left, with_left}
use Rattle.vyrd_spec.proofs.RowLaws.{one_fails, all_pass, count-push, count_grows, find-push}
use Rattle.vyrd_spec.proofs.RowLaws.{none_found, some_found}

-- what n nodes have told: the first of them that leads to each node, and that no other does
pub record HaveTold (last : ℕ) (words : List ℕ) (n : ℕ) (lefts : List (Option ℕ)) : Type 0 where
  pub many : length lefts ≡ last + 1
  pub left : (q : ℕ) → q ≤ last → get_or lefts q None ≡ find (leads_to words q) (numbers_below n)
  pub one : (q : ℕ) → q ≤ last → count_by (leads_to words q) (numbers_below n) ≤ 1

-- one node more
pub told_more : (last : ℕ) (words : List ℕ) (n : ℕ) (lefts new : List (Option ℕ))
    → has_left lefts (right_of words n) ≡ false
    → new ≡ with_left lefts (right_of words n) n → HaveTold last words n lefts
    → HaveTold last words (n + 1) new
told_more last words n lefts new free put told = record {
  many = ap length put ∙ kept (right == 0 || nat_le (length lefts) right) ∙ told.many;
  left = λ q low. cc (found q low (leads_to words q n) refl, find-push (leads_to words q) n);
  one = λ q low. counted q low (leads_to words q n) refl;
}
  where
    right : ℕ
    right = right_of words n

    kept : (b : Bool) → length (cond b lefts (set lefts right (Some n))) ≡ length lefts
    kept b = search (length-set, arith)

    or_none : (o : Option ℕ) → o ≡ option_or o None
    or_none o = search arith

    -- a node to which the link leads
    is_led : (q : ℕ) → leads_to words q n ≡ true → (right ≡ q) × ((right == 0) ≡ false)
    is_led q e = search (same_of, first_true, second_true, arith)

    nothing_there : (q : ℕ) → right ≡ q → (right == 0) ≡ false → get_or lefts q None ≡ None
    nothing_there q same some = search arith

    before : (q : ℕ) → q ≤ last → leads_to words q n ≡ true
        → find (leads_to words q) (numbers_below n) ≡ None
    before q low e = let led = is_led q e in sym (told.left q low) ∙ nothing_there q led.0 led.1

    found : (q : ℕ) → q ≤ last → (b : Bool) → leads_to words q n ≡ b
        → get_or (with_left lefts right n) q None
        ≡ option_or (find (leads_to words q) (numbers_below n))
        (cond (leads_to words q n) (Some n) None)
    found q low true e =
        let led = is_led q e in
        let within : q < length lefts = omega (arith, low, told.many) in
        let in_use : (right == 0 || nat_le (length lefts) right) ≡ false =
        cc (led.1, isnt_at_most (length lefts) right (omega (arith, within, led.0))) in
        cc (led.0, get_or-set_same lefts q (Some n) None within, before q low e)
    found q low false e =
        cc (
          by_use (right == 0 || nat_le (length lefts) right) refl,
          told.left q low,
          or_none (find
              (leads_to words q) (numbers_below n)),
        )
      where
        by_use : (b : Bool) → (right == 0 || nat_le (length lefts) right) ≡ b
            → get_or (cond b lefts (set lefts right (Some n))) q None ≡ get_or lefts q None
        by_use b u = search (get_or-set_other, neither_true, arith)

    counted : (q : ℕ) → q ≤ last → (b : Bool) → leads_to words q n ≡ b → count_by (leads_to words q)
        (numbers_below (n + 1)) ≤ 1
    counted q low true e =
        grind (
          arith,
          count-push (leads_to words q) n,
          none_found (leads_to words q) n (before q low
              e),
        )
    counted q low false e = grind (arith, count-push (leads_to words q) n, told.one q low)

-- one node more that leads to where another does
pub told_twice : (last : ℕ) (words : List ℕ) (n : ℕ) (lefts : List (Option ℕ)) → n < last + 1
    → has_left lefts (right_of words n) ≡ true
    → HaveTold last words n lefts → have_one_left last words ≡ false
told_twice last words n lefts in_use taken told =
    one_fails (λ q. nat_le (count_by (leads_to words q) (nodes last)) 1) (last + 1) right
    (omega (arith, low))
    (isnt_at_most (count_by (leads_to words right) (nodes last)) 1
    (omega (
      arith,
      some_found (leads_to words right) n (ap is_some (sym (told.left right low)) ∙ there),
      count-push (leads_to words right) n,
      ap (λ b. cond {A = ℕ} b 1 0) leads,
      count_grows (leads_to words right) (n + 1) (last + 1) (omega (arith, in_use)),
    )))
  where
    right : ℕ
    right = right_of words n

    some : not (right == 0) ≡ true
    some = first_true (not (right == 0)) (is_some (get_or lefts right None)) taken

    there : is_some (get_or lefts right None) ≡ true
    there = second_true (not (right == 0)) (is_some (get_or lefts right None)) taken

    leads : leads_to words right n ≡ true
    leads = ap (λ b. b && not (right == 0)) (is_same right right refl) ∙ some

    low : right ≤ last
    low = by_place (nat_lt right (length lefts)) refl
      where
        by_place : (b : Bool) → nat_lt right (length lefts) ≡ b → right ≤ last
        by_place true e = omega (arith, below_of right (length lefts) e, told.many)
        by_place false e =
            let none : is_some (get_or lefts right None) ≡ false = ap is_some
            (get_or_past lefts right None (not_below_of right (length lefts) e)) in
            let no : false ≡ true = sym none ∙ there in cc

-- all nodes
pub told_all : (last : ℕ) (words : List ℕ) (n : ℕ) (lefts : List (Option ℕ)) → n ≡ last + 1
    → HaveTold last words n lefts
    → (have_one_left last words ≡ true) × (lefts ≡ map (left_of last words) (nodes last))
told_all last words n lefts all told = (
  all_pass (λ q. nat_le (count_by (leads_to words q) (nodes last)) 1) (last + 1)
      (λ q low. is_at_most (count_by (leads_to words q) (nodes last)) 1
      (omega (
        arith,
        told.one q (omega (arith, low)),
        ap
            (λ m. count_by (leads_to words q) (numbers_below m)) all,
      ))),
  ext_get_or None lefts (map (left_of last words) (nodes last))
      (told.many ∙ sym (length_below (left_of last words) (last + 1)))
      (λ q low. told.left q (omega (arith, low, told.many))
      ∙ ap (λ m. find (leads_to words q) (numbers_below m)) all
      ∙ sym (element_below (left_of last words) (last + 1) q None (omega (arith, low, told.many)))),
)
