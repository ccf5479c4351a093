use Rattle.vyrd_judge.proofs.Prelude.{◌≡◌, ℕ, ◌<◌, ◌^◌, List, length, Option, ap, subst, sym, ◌∙◌}
use Rattle.vyrd_judge.proofs.Prelude.{is_none, All, Header, StartWord, State, rules_of, rules_by}
use Rattle.vyrd_judge.proofs.Prelude.{words_at_start, state_at_start, may_follow}
use Rattle.vyrd_judge.proofs.Prelude.{length-words_at_start, small_at_start}
use Rattle.std.specs.Option.{option_map}
use Rattle.vyrd_judge.proofs.online.Judge.start_from.Goals as goal

-- the state at the start is that of the specification that was found
state_found : (h : Header) (starting : List StartWord) (words : List ℕ) (o : Option State)
    → words ≡ words_at_start h starting → o ≡ (rules_of h).start words
    → state_at_start (rules_of h) starting ≡ o
unfolding state_at_start
state_found h starting words o same found = ap (rules_of h).start (sym same) ∙ sym found

pub words_at_start-requires : goal.words_at_start-requires
words_at_start-requires g c = may_follow c.args.header c.args.start.now c.requires.may_start

pub begin-requires-clause-follows : goal.begin-requires-clause-follows
begin-requires-clause-follows g c = may_follow c.args.header c.args.start.now c.requires.may_start

pub start_from-requires-clause-count : goal.start_from-requires-clause-count
start_from-requires-clause-count g c =
    ap length (c.deref.ensures.value ∙ c.in_ok-words.ensures)
    ∙ length-words_at_start c.args.header c.args.start.now

pub start_from-requires-clause-small : goal.start_from-requires-clause-small
start_from-requires-clause-small g c =
    subst (All (λ value. value < 2 ^ 63)) (sym (c.deref.ensures.value ∙ c.in_ok-words.ensures))
    (small_at_start c.args.header c.args.start.now
    (may_follow c.args.header c.args.start.now c.requires.may_start))

pub returns-in_default-clause-none : goal.returns-in_default-clause-none
returns-in_default-clause-none g c =
    sym (ap is_none (state_found c.args.header c.args.start.now c.deref.result.now _
    (c.deref.ensures.value ∙ c.in_ok-words.ensures)
    c.in_ok-spec.ensures.state ∙ ap (option_map g.S.Spec.state) c.in_default.is))

pub begin-requires-clause-spec_header : goal.begin-requires-clause-spec_header
begin-requires-clause-spec_header g c = ap (λ l. (rules_by l).header)
    (rw c.in-Some.is at c.in_ok-spec.ensures.charter)

pub begin-requires-clause-state : goal.begin-requires-clause-state
begin-requires-clause-state g c =
    ap (λ l. state_at_start (rules_by l) c.args.start.now)
    (rw c.in-Some.is at c.in_ok-spec.ensures.charter)
    ∙ state_found c.args.header c.args.start.now c.deref.result.now _
    (c.deref.ensures.value ∙ c.in_ok-words.ensures)
    c.in_ok-spec.ensures.state ∙ ap (option_map g.S.Spec.state) c.in-Some.is

pub returns-clause-none : goal.returns-clause-none
returns-clause-none g c =
    sym (ap is_none (state_found c.args.header c.args.start.now c.deref.result.now _
    (c.deref.ensures.value ∙ c.in_ok-words.ensures)
    c.in_ok-spec.ensures.state ∙ ap (option_map g.S.Spec.state) c.in-Some.is))

pub returns-clause-charter : goal.returns-clause-charter
returns-clause-charter g c = c.in_ok-begin.ensures.charter
    ∙ (rw c.in-Some.is at c.in_ok-spec.ensures.charter)
