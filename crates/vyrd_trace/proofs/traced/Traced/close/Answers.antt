use Rattle.vyrd_trace.proofs.Prelude.{◌≡◌, ◌++◌, true, take, drop, List, length, sym, ap, ◌∙◌}
use Rattle.vyrd_trace.proofs.Prelude.{subst, sum_by, Stamped, is_legal, cells_in, last_values}
use Rattle.vyrd_trace.proofs.Prelude.{HandView, HasHistory, IsMerge, lanes_of}
use Rattle.vyrd_trace.proofs.Closings.{is_merge, size, back, AreParts}
use Rattle.vyrd_trace.proofs.traced.Traced.close.Goals as goal

-- the merged list is the history, as it is written back
module _ (c : goal.In_ok-words) where
  one : HasHistory c.args.self.plan c.args.hands.items c.in_ok-words.words.items
  one = c.in_ok-words.ensures.history

  written : take c.in-Ok.history.len
      (c.merge.new.history ++ drop (length c.merge.new.history) c.in-Ok.history.items) ≡ one.history
  written =
      let room = c.in-Ok.history.items in
      let all = c.requires.all in
      let merge = is_merge c.args.self.plan c.in_ok-words.words.items c.args.hands.items all.0
      (λ i d l. (all.1 i d l).1) one in
      let total = c.count_all-total.ensures ∙ ap (sum_by size) c.as_slice.ensures.value in
      let long : length one.history ≡ length room = merge.1 ∙ sym total ∙ sym c.in-Ok.ensures.len
      ∙ c.in-Ok.history.ok.0 in
      let is = c.merge.ensures one.history
      (subst (λ (hs : List HandView). IsMerge one.history (lanes_of hs))
      (sym c.as_slice-2.ensures.value) merge.0)
      (long ∙ sym (ap (λ (l : List Stamped). length l) c.as_mut_slice.ensures.value)) in
      back c.in-Ok.history.len c.merge.new.history room (ap (λ (l : List Stamped). length l) is
      ∙ long) c.in-Ok.history.ok.0 ∙ is

pub returns-clause-legal : goal.returns-clause-legal
returns-clause-legal c = subst (λ (h : List Stamped). is_legal (cells_in c.args.self.plan) h ≡ true)
    (sym (written c)) (one c).legal

pub returns-clause-parts : goal.returns-clause-parts
returns-clause-parts c = subst (λ (h : List Stamped). AreParts h c.args.hands.items)
    (sym (written c)) (one c).parts

pub returns-clause-words : goal.returns-clause-words
returns-clause-words c = subst (λ (h : List Stamped). c.in_ok-words.words.items
    ≡ last_values c.args.self.plan h) (sym (written c)) (one c).words_are
