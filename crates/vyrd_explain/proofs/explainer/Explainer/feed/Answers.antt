use Rattle.std.proofs.Common.{◌≡◌, ◌≤◌, false, ◌++◌, ap, subst, sym, ◌∙◌}
use Rattle.std.specs.Prelude.{◌&&◌, is_some}
use Rattle.std.proofs.Math.Logic.{∥∥₁_map}
use Rattle.vyrd_base.specs.Limits.{most_lines}
use Rattle.vyrd_explain.specs.ExplainerView.{explainer_in}
use Rattle.vyrd_explain.specs.Explained.{is_settled}
use Rattle.vyrd_explain.specs.Explaining.{ExplainerState, HasTaken, own_limit}
use Rattle.vyrd_explain.proofs.TakenLaws.{Fed, fed_taken, settled_is}
use Rattle.vyrd_explain.proofs.explainer.Explainer.feed.Goals as goal
use Rattle.vyrd_explain.proofs.explainer.Explainer.feed.Goals.{then-is_some, else-is_some}
use Rattle.vyrd_explain.proofs.explainer.Explainer.feed.Goals.{then-stops, else-stops}

pub invariant_of-self-2 : goal.invariant_of-self-2
invariant_of-self-2 c =
    let old = explainer_in c.self.inside in
    let new : ExplainerState = record {
      checker = c.feed.new.self;
      reader = c.read_on.new.reader;
      entries = c.read_on.new.entries.items;
      own = c.own_read_on.new.reader;
      own_entries = c.own_read_on.new.entries.items;
      numbers = c.own_read_on.new.numbers.items;
      has_failed = false;
    } in
    let fed : Fed old new c.args.piece.now = record {
      limit = c.in_ok-stops.ensures.limit;
      own = c.in_ok-own_stops.ensures.limit;
      checked = c.in_ok-verdict.ensures.checked;
      read = c.in_ok-stops.ensures.read;
      entries = c.in_ok-stops.ensures.entries;
      own_read = c.in_ok-own_stops.ensures.read;
      own_entries = c.in_ok-own_stops.ensures.entries;
      numbers = c.in_ok-own_stops.ensures.numbers;
    } in
    record {
      limit = c.in_ok-stops.ensures.limit ∙ c.self.invariant.limit
          ∙ sym c.in_ok-verdict.ensures.limit;
      own = c.in_ok-own_stops.ensures.limit ∙ c.self.invariant.own
          ∙ sym c.in_ok-verdict.ensures.limit;
      low = subst (λ m. 1 ≤ m) (sym c.in_ok-verdict.ensures.limit) c.self.invariant.low;
      high = subst (λ m. m ≤ most_lines) (sym c.in_ok-verdict.ensures.limit)
          c.self.invariant.high;
      somewhere = λ works. ∥∥₁_map (c.self.invariant.somewhere c.if-self.false)
          (λ s. (s.0 ++ c.args.piece.now, fed_taken old new c.args.piece.now fed s.0 s.1));
    }

pub returns-clause-taken : goal.returns-clause-taken
returns-clause-taken c = λ bytes t.
    let old = explainer_in c.self.inside in
    let new : ExplainerState = record {
      checker = c.feed.new.self;
      reader = c.read_on.new.reader;
      entries = c.read_on.new.entries.items;
      own = c.own_read_on.new.reader;
      own_entries = c.own_read_on.new.entries.items;
      numbers = c.own_read_on.new.numbers.items;
      has_failed = false;
    } in
    let fed : Fed old new c.args.piece.now = record {
      limit = c.in_ok-stops.ensures.limit;
      own = c.in_ok-own_stops.ensures.limit;
      checked = c.in_ok-verdict.ensures.checked;
      read = c.in_ok-stops.ensures.read;
      entries = c.in_ok-stops.ensures.entries;
      own_read = c.in_ok-own_stops.ensures.read;
      own_entries = c.in_ok-own_stops.ensures.entries;
      numbers = c.in_ok-own_stops.ensures.numbers;
    } in
    fed_taken old new c.args.piece.now fed bytes
    (subst (λ e. HasTaken e bytes) (sym c.self.view_is) t)

pub returns-clause-settled : goal.returns-clause-settled
returns-clause-settled c = λ bytes given.
    let t : HasTaken (explainer_in c.self.inside) bytes =
    subst (λ e. HasTaken e bytes) (sym c.self.view_is) given in
    let inside = c.self.inside in
    let all = bytes ++ c.args.piece.now in
    let max = inside.checker.max_lines in
    let settled : (is_some c.in_ok-verdict.verdict
    && (c.in_ok-stops.stops && c.in_ok-own_stops.own_stops))
    ≡ is_settled max all =
    settled_is max inside.reader.max_lines (own_limit inside.own) all c.in_ok-verdict.verdict
    c.in_ok-stops.stops c.in_ok-own_stops.own_stops c.self.invariant.limit c.self.invariant.own
    (c.in_ok-verdict.ensures.answer bytes t.checked)
    (c.in_ok-stops.ensures.stops bytes t.read)
    (c.in_ok-own_stops.ensures.stops bytes t.own_read) in
    answered ∙ ap (λ b. is_some c.in_ok-verdict.verdict && b) both ∙ settled
    ∙ ap (λ (e : ExplainerState). is_settled e.checker.max_lines all) c.self.view_is
  where
    both : c.if-stops.both_stop ≡ (c.in_ok-stops.stops && c.in_ok-own_stops.own_stops)
    both = elim c.if-stops.branch [
      | then-stops w ↦ w.both_stop-is
          ∙ ap (λ b. b && c.in_ok-own_stops.own_stops) (sym w.if-stops.true)
      | else-stops w ↦ w.both_stop-is ∙ w.if-stops.false
          ∙ ap (λ b. b && c.in_ok-own_stops.own_stops) (sym w.if-stops.false)
    ]

    answered : c.if-is_some.result ≡ (is_some c.in_ok-verdict.verdict && c.if-stops.both_stop)
    answered = elim c.if-is_some.branch [
      | then-is_some w ↦ w.result-is
          ∙ ap (λ b. b && c.if-stops.both_stop) (sym w.if-is_some.true ∙ c.is_some.ensures)
      | else-is_some w ↦ w.result-is ∙ w.if-is_some.false
          ∙ ap (λ b. b && c.if-stops.both_stop) (sym w.if-is_some.false ∙ c.is_some.ensures)
    ]
