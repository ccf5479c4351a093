-- The block law over the definitions.
use Rattle.vyrd_mover.proofs.Prelude
use Prelude.{◌≡◌, ℕ, ◌+◌, Bool, true, cond, List, [], ◌∷◌, ◌++◌, length, Some, None, refl, ap, ◌∙◌}
use Prelude.{sym, subst, arith, append_assoc, append-nil, ◌==◌, list_all, cons_option, Did, Stamped}
use Prelude.{newest_first, newest_first_onto, Cells, is_legal, both_true, is_race_free, has_cut}
use Prelude.{is_mark, is_block_open, events_of, numbered_from, done_by}
use Rattle.std.proofs.lemmas.List.Elements.{filter_map-append}
use Rattle.vyrd_mover.specs.Gathering.{IsBlock, IsGathered, CanBeGathered}
use Rattle.vyrd_mover.proofs.Running.{legal_runs, runs_legal}
use Rattle.vyrd_mover.proofs.FreeCells.{free_of}
use Rattle.vyrd_mover.proofs.CutLaws.{cuts, has_cut-cuts}
use Rattle.vyrd_mover.proofs.Gathers.{Good, Foreign, own, behind, ComesApart, gather}

onto_onto : (xs ys earlier : List Stamped) → newest_first_onto ys (newest_first_onto earlier xs)
    ≡ newest_first_onto (xs ++ ys) earlier
onto_onto [] ys earlier = refl
onto_onto (x ∷ xs) ys earlier = onto_onto xs ys (x ∷ earlier)

-- what stands after a list turned twice stands after it
behind_before : (before es : List Stamped) → behind (newest_first before) es ≡ before ++ es
behind_before before es = onto_onto before es []

numbered-append : (k : ℕ) (xs ys : List Stamped) → numbered_from k (xs ++ ys) ≡ numbered_from k xs
    ++ numbered_from (k + length xs) ys
numbered-append k [] ys = let e : k + 0 ≡ k = omega arith in cc
numbered-append k (x ∷ xs) ys = grind (arith, numbered-append (k + 1) xs ys)

done-numbered : (c k : ℕ) (xs : List Stamped) → done_by c (numbered_from k xs) ≡ done_by c xs
done-numbered c k [] = refl
done-numbered c k (x ∷ xs) = cc (done-numbered c (k + 1) xs)

own_alone : (c k : ℕ) (xs : List Stamped) → list_all (λ e. e.caller == c)
    (numbered_from k (own c xs)) ≡ true
own_alone c k [] = refl
own_alone c k (x ∷ xs) = go (x.caller == c) refl (λ k. own_alone c k xs)
  where
    go : (b : Bool) → (x.caller == c) ≡ b
        → ((k : ℕ) → list_all (λ e. e.caller == c) (numbered_from k (own c xs)) ≡ true)
        → list_all (λ e. e.caller == c) (numbered_from k (cond b (x ∷ own c xs) (own c xs))) ≡ true
    go b its rest = search (both_true, arith)

done-own : (c : ℕ) (xs : List Stamped) → done_by c (own c xs) ≡ done_by c xs
done-own c [] = refl
done-own c (x ∷ xs) = go (x.caller == c) refl (done-own c xs)
  where
    go : (b : Bool) → (x.caller == c) ≡ b → done_by c (own c xs) ≡ done_by c xs
        → done_by c (cond b (x ∷ own c xs) (own c xs)) ≡ cons_option (cond b (Some x.did) None)
        (done_by c xs)
    go b its rest = search arith

done-foreign : (c : ℕ) (xs : List Stamped) → Foreign c xs → done_by c xs ≡ []
done-foreign c [] foreign = refl
done-foreign c (x ∷ xs) foreign = cc (foreign.0, done-foreign c xs foreign.1)

open_is_mark : (did : Did) → is_block_open did ≡ true → is_mark did ≡ true
open_is_mark did e = grind arith

open_is_no_event : (c : ℕ) (opening : Stamped) (rest : List Stamped) → is_block_open opening.did
    ≡ true → events_of c (opening ∷ rest) ≡ events_of c rest
open_is_no_event c opening rest e = grind (arith, open_is_mark)

-- the events with those of others that came before the block's, the block's own, and the rest,
-- renumbered
split : (k : ℕ) (xs ys zs : List Stamped)
    → numbered_from k (xs ++ (ys ++ zs)) ≡ numbered_from k xs
    ++ (numbered_from (k + length xs) ys ++ numbered_from (k + length xs + length ys) zs)
split k xs ys zs = cc (numbered-append k xs (ys ++ zs), numbered-append (k + length xs) ys zs)

numbered_apart : (cells : Cells) (free : ℕ → Bool) (c : ℕ)
    (before block after front back : List Stamped) → Foreign c front
    → Good cells free (before ++ (block ++ after))
    ((before ++ front) ++ (own c block ++ (back ++ after)))
    → IsGathered cells c before block after (numbered_from 0 (before ++ front))
    (numbered_from (0 + length (before ++ front)) (own c block))
    (numbered_from (0 + length (before ++ front) + length (own c block)) (back ++ after))
numbered_apart cells free c before block after front back foreign good =
    let all = (before ++ front) ++ (own c block ++ (back ++ after)) in
    let parts = split 0 (before ++ front) (own c block) (back ++ after) in
    record {
      legal = subst (λ h. is_legal cells h ≡ true) parts (runs_legal cells all good.runs);
      same = λ caller. ap (done_by caller) (sym parts) ∙ done-numbered caller 0 all
          ∙ good.same caller;
      side_by_side = own_alone c (0 + length (before ++ front)) block;
      whole = done-numbered c (0 + length (before ++ front)) (own c block) ∙ done-own c block;
      in_place = done-numbered c 0 (before ++ front) ∙ filter_map-append _ before front
          ∙ ap (λ ds. done_by c before ++ ds) (done-foreign c front foreign)
          ∙ append-nil (done_by c before);
    }

gathered : (cells : Cells) (free : ℕ → Bool) (c : ℕ) (before block after : List Stamped)
    → ComesApart cells free (before ++ (block ++ after)) c (newest_first before) (own c block) after
    → CanBeGathered cells c before block after
gathered cells free c before block after found =
    let front = found.0 in
    let back = found.1 in
    let order = behind_before before (front ++ (own c block ++ (back ++ after)))
    ∙ sym (append_assoc before front (own c block ++ (back ++ after))) in (
      numbered_from 0 (before ++ front),
      numbered_from (0 + length (before ++ front)) (own c block),
      numbered_from (0 + length (before ++ front) + length (own c block)) (back ++ after),
      numbered_apart cells free c before block after front back found.2.front_foreign
          (subst (Good cells free (before ++ (block ++ after))) order found.2.good),
    )

block_gathered : (cells : Cells) (before rest after : List Stamped) (opening : Stamped)
    → is_legal cells (before ++ opening ∷ (rest ++ after)) ≡ true
    → is_block_open opening.did ≡ true
    → has_cut (is_race_free cells (before ++ opening ∷ (rest ++ after)))
    (events_of opening.caller rest) ≡ true
    → CanBeGathered cells opening.caller before (opening ∷ rest) after
block_gathered cells before rest after opening legal opens cut =
    let free = is_race_free cells (before ++ opening ∷ (rest ++ after)) in
    let c = opening.caller in
    gathered _ free c _ _ _
    (gather _ _ _ c _ (opening ∷ rest) _ (ap (cuts _) (open_is_no_event c _ _ opens)
    ∙ sym (has_cut-cuts _ _)
    ∙ cut) (subst (Good _ _ _) (sym (behind_before before (opening ∷ rest ++ after)))
    (record {
      runs = legal_runs cells _ legal;
      frees = λ cell e. free_of _ _ _ e;
      same = λ caller. refl;
    })))

-- each reducible block of a legal history can be gathered
pub reducible_is_gathered : (cells : Cells) (history before rest after : List Stamped)
    (opening : Stamped) → is_legal cells history ≡ true
    → IsBlock history before opening rest after → has_cut (is_race_free cells history)
    (events_of opening.caller rest) ≡ true
    → CanBeGathered cells opening.caller before (opening ∷ rest) after
reducible_is_gathered cells history before rest after opening legal block cut =
    grind (arith, after, block_gathered)
