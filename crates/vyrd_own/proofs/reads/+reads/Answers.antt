use Rattle.vyrd_own.proofs.Prelude.{[], ◌++◌, refl, sym, number, expr_of, exprs_of, counted}
use Rattle.std.proofs.Common.{append-nil}
use Rattle.std.proofs.lemmas.Result.{on_ok_weaker}
use Rattle.vyrd_own.proofs.NodeLaws.{expr_last, expr_none, length_zero}
use Rattle.vyrd_own.proofs.ReadLaws.{with_itself, two_parts, same_parts, of_no_part, of_one_part}
use Rattle.vyrd_own.proofs.ReadLaws.{of_infix, of_choice}
use Rattle.vyrd_own.proofs.reads.+reads.Goals as goal

pub put_inner-returns-in_default : goal.put_inner-returns-in_default
put_inner-returns-in_default t c =
    let s = c.args.state.now in
    let values = c.args.values.now in
    let e = expr_of c.args.nodes.now in
    let before = c.args.found.now.items in
    let empty = length_zero c.args.nodes.now c.in_default.ensures.cases in
    with_itself s values e [] before before
    (same_parts s values e (number 0) [] (expr_none c.args.nodes.now empty) refl)
    (sym (append-nil before))

pub put_inner-returns-in_default-last : goal.put_inner-returns-in_default-last
put_inner-returns-in_default-last t c =
    let s = c.args.state.now in
    let values = c.args.values.now in
    let front = c.in-Some.front.now in
    let node = c.in-Some.last.now in
    let e = expr_of c.args.nodes.now in
    let before = c.args.found.now.items in
    let is = expr_last front c.args.nodes.now node c.in-Some.ensures.cases.0 in
    with_itself s values e [] before before
    (of_no_part s values (exprs_of front) e node is (record {
      no-shown = c.in_default-last.not-Shown;
      no-hidden = c.in_default-last.not-Hidden;
      no-least = c.in_default-last.not-Least;
      no-greatest = c.in_default-last.not-Greatest;
      no-not = c.in_default-last.not-Not;
      no-infix = c.in_default-last.not-Infix;
      no-choice = c.in_default-last.not-Choice;
    }))
    (sym (append-nil before))

pub put_inner-returns-in-Shown : goal.put_inner-returns-in-Shown
put_inner-returns-in-Shown t c =
    let s = c.args.state.now in
    let values = c.args.values.now in
    let front = c.in-Some.front.now in
    let node = c.in-Some.last.now in
    let e = expr_of c.args.nodes.now in
    let part = expr_of c.upto-in-Shown.result.now in
    let is = expr_last front c.args.nodes.now node c.in-Some.ensures.cases.0 in
    on_ok_weaker c.put_counted-in-Shown.result
    (with_itself s values e (counted s values part) c.args.found.now.items
    c.put_counted-in-Shown.new.found.items
    (of_one_part s values (exprs_of front) e part node c.in-Shown.a is c.upto-in-Shown.ensures.is
    c.in-Shown.is))
    c.put_counted-in-Shown.ensures

pub put_inner-returns-in_ok-put_counted-in-Infix
    : goal.put_inner-returns-in_ok-put_counted-in-Infix
put_inner-returns-in_ok-put_counted-in-Infix t c =
    let s = c.args.state.now in
    let values = c.args.values.now in
    let front = c.in-Some.front.now in
    let node = c.in-Some.last.now in
    let e = expr_of c.args.nodes.now in
    let a = expr_of c.upto.result.now in
    let b = expr_of c.upto-in-Infix.result.now in
    let is = expr_last front c.args.nodes.now node c.in-Some.ensures.cases.0 in
    on_ok_weaker c.put_counted-in-Infix.result
    (λ put. with_itself s values e (counted s values a ++ counted s values b)
    c.args.found.now.items c.put_counted-in-Infix.new.found.items
    (of_infix s values (exprs_of front) e a b node c.in-Infix.field-0 c.in-Infix.a c.in-Infix.b is
    c.upto.ensures.is c.upto-in-Infix.ensures.is c.in-Infix.is)
    (two_parts s values a b c.args.found.now.items c.put_counted.new.found.items
    c.put_counted-in-Infix.new.found.items c.in_ok-put_counted-in-Infix.ensures put))
    c.put_counted-in-Infix.ensures

pub put_inner-returns-in_ok-put_counted-in-Choice
    : goal.put_inner-returns-in_ok-put_counted-in-Choice
put_inner-returns-in_ok-put_counted-in-Choice t c =
    let s = c.args.state.now in
    let values = c.args.values.now in
    let front = c.in-Some.front.now in
    let node = c.in-Some.last.now in
    let e = expr_of c.args.nodes.now in
    let test = expr_of c.upto-test.result.now in
    let part = expr_of c.upto-in-Choice.result.now in
    let is = expr_last front c.args.nodes.now node c.in-Some.ensures.cases.0 in
    on_ok_weaker c.put_counted-in-Choice-2.result
    (λ put. with_itself s values e (counted s values test ++ counted s values part)
    c.args.found.now.items c.put_counted-in-Choice-2.new.found.items
    (of_choice s values (exprs_of front) e test part node c.in-Choice.test c.in-Choice.a
    c.in-Choice.b c.chosen-chosen.result is c.upto-test.ensures.is c.upto-in-Choice.ensures.is
    c.chosen-chosen.ensures c.in-Choice.is)
    (two_parts s values test part c.args.found.now.items c.put_counted-in-Choice.new.found.items
    c.put_counted-in-Choice-2.new.found.items c.in_ok-put_counted-in-Choice.ensures put))
    c.put_counted-in-Choice-2.ensures
