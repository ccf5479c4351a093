-- The state for which the words at the start stand, by the rules of a specification.
use Rattle.vyrd_own_spec.proofs.Prelude.{◌≡◌, ℕ, Bool, true, false, not, List, Option, Some, None}
use Rattle.vyrd_own_spec.proofs.Prelude.{refl, ap, ◌∙◌, sym, Header, State, written_in}
use Rattle.std.specs.Prelude.{is_none, IfSome, if◌then◌else◌}
use Rattle.vyrd_base.specs.declared.subject.Subject.{Subject}
use Rattle.vyrd_base.specs.declared.subject.Subject.TheVariants.{Own}
use Rattle.vyrd_base.specs.declared.log.StartWord.{StartWord}
use Rattle.vyrd_base.specs.Layout.{plain_words, plain_words_of}
use Rattle.vyrd_base.specs.Starts.{words_at_start, state_at_start}
use Rattle.vyrd_base.specs.Rules.{own, rules_by}
use Rattle.vyrd_base.specs.Own.OwnRules.{own_start, may_stand}

-- all words of a header of the user's own are plain, and there are as many as its size
pub own_plain : (h : Header) → h.subject ≡ Own → plain_words h ≡ h.size
own_plain h is = ap (λ (s : Subject). plain_words_of s h.size) is

module _ (h : Header) (lines : List (List ℕ)) (starting : List StartWord) (words : List ℕ)
    (same : words ≡ words_at_start h starting) where
  state_is : state_at_start (rules_by (own h lines)) starting
      ≡ (if may_stand (written_in lines) words then Some (own_start (written_in lines) words) else
      None)
  unfolding state_at_start
  state_is = ap (rules_by (own h lines)).start (sym same)

  -- words that may not stand for a state stand for none
  pub stands_for_none : true ≡ not (may_stand (written_in lines) words)
      → is_none (state_at_start (rules_by (own h lines)) starting) ≡ true
  stands_for_none e = ap is_none state_is ∙ by_test (may_stand (written_in lines) words) e
    where
      by_test : (b : Bool) → true ≡ not b
          → is_none (if b then Some (own_start (written_in lines) words) else None) ≡ true
      by_test true f = cc
      by_test false f = refl

  pub stands_for : false ≡ not (may_stand (written_in lines) words)
      → state_at_start (rules_by (own h lines)) starting ≡ Some (own_start (written_in lines) words)
  stands_for e = state_is ∙ by_test (may_stand (written_in lines) words) e
    where
      by_test : (b : Bool) → false ≡ not b
          → ◌≡◌ {A = Option State} (if b then Some (own_start (written_in lines) words) else None)
          (Some (own_start (written_in lines) words))
      by_test true f = refl
      by_test false f = cc

  -- what is found, if there is a state exactly for such words, and that is the one for which they
  -- stand
  pub stands_so : (o : Option State) → is_none o ≡ not (may_stand (written_in lines) words)
      → IfSome o (λ s. s ≡ own_start (written_in lines) words)
      → o ≡ state_at_start (rules_by (own h lines)) starting
  stands_so None none some = by_test (may_stand (written_in lines) words) none ∙ sym state_is
    where
      by_test : (b : Bool) → true ≡ not b
          → ◌≡◌ {A = Option State} None
          (if b then Some (own_start (written_in lines) words) else None)
      by_test true f = cc
      by_test false f = refl
  stands_so (Some s) none some = ap Some some ∙ sym (stands_for none)
