-- Turns whose events a sink has taken, one after the other.
use Rattle.vyrd_memory.proofs.Prelude.{◌≡◌, ℕ, ◌+◌, ◌*◌, ◌≤◌, List, [], ◌∷◌, ◌++◌, map, refl, ◌∙◌}
use Rattle.vyrd_memory.proofs.Prelude.{sym, arith, length, true, false, list_all, Header, Stamped}
use Rattle.vyrd_memory.proofs.Prelude.{numbers_below, Turn, Script, next_act, most_ahead, turns_of}
use Rattle.vyrd_memory.proofs.Prelude.{is_done, AreStuckThere, rounds_over, scene, total, IsPlaying}
use Rattle.vyrd_memory.specs.Showing.{ComesToRest, HasRun, Stage, HasShown}
use Rattle.vyrd_memory.proofs.PlayedLaws.{played_more, rounds_more, come_to_rest}
use Rattle.vyrd_memory.proofs.RunLaws.{runs_to, stuck_there}

-- further turns
pub shown_more : {M S : Type 0} (h : Header) (header_of : M → Header) (script : M → Script)
    (has_taken : S → List Stamped → Type 0)
    (xs ys zs : List ℕ) (a b c : Stage M S)
    → HasShown h header_of script has_taken xs a b → HasShown h header_of script has_taken ys b c
    → zs ≡ xs ++ ys
    → HasShown h header_of script has_taken zs a c
shown_more h header_of script has_taken xs ys zs a b c first second e = record {
  ready = second.ready;
  count = second.count ∙ first.count;
  shown = λ history taken.
      let before = first.shown history taken in
      let now = second.shown before.later before.taken in
      record {
        later = now.later;
        taken = now.taken;
        played = played_more h header_of script xs ys zs (scene a.machines a.words history)
            (scene b.machines b.words before.later)
            (scene c.machines c.words now.later) before.played now.played e;
      };
}

-- one round more
pub one_round_more : {M S : Type 0} (h : Header) (header_of : M → Header) (script : M → Script)
    (has_taken : S → List Stamped → Type 0)
    (a b c : Stage M S) (rounds : ℕ)
    → HasShown h header_of script has_taken (rounds_over (length a.machines) rounds) a b
    → HasShown h header_of script has_taken (numbers_below (length b.machines)) b c
    → HasShown h header_of script has_taken (rounds_over (length a.machines) (rounds + 1)) a c
one_round_more h header_of script has_taken a b c rounds first second =
    shown_more h header_of script has_taken (rounds_over (length a.machines) rounds)
    (numbers_below (length b.machines))
    (rounds_over (length a.machines) (rounds + 1)) a b c first second
    (cc (rounds_more (length a.machines) rounds, first.count))

-- a round without an event is the last
pub rest_shown : {M S : Type 0} (h : Header) (header_of : M → Header) (script : M → Script)
    (has_taken : S → List Stamped → Type 0)
    (count : S → ℕ)
    → ((s : S) (history : List Stamped) → has_taken s history → count s ≡ length history)
    → (a b c : Stage M S) (rounds : ℕ)
    → HasShown h header_of script has_taken (rounds_over (length a.machines) rounds) a b
    → HasShown h header_of script has_taken (numbers_below (length b.machines)) b c
    → count c.sink ≡ count b.sink
    → (history : List Stamped) → has_taken a.sink history
    → ComesToRest h header_of script has_taken a c history
rest_shown h header_of script has_taken count counted a b c rounds first second same history taken =
    let before = first.shown history taken in
    let now = second.shown before.later before.taken in
    record {
      later = now.later;
      taken = now.taken;
      rest = come_to_rest h _ _ _
          (scene _ _ _) _ rounds before.played now.played (sym (counted _ _ now.taken) ∙ same
          ∙ counted _ _ before.taken);
    }

-- what several machines have ahead
pub total_few : {M : Type 0} (ahead : M → ℕ) → ((m : M) → ahead m ≤ most_ahead)
    → (machines : List M)
    → total ahead machines ≤ length machines * most_ahead
total_few ahead few [] = omega arith
total_few ahead few (m ∷ machines) = omega (arith, few m, total_few ahead few machines)

-- the run ends, or gets stuck
pub has_run : {M S : Type 0} (h : Header) (header_of : M → Header) (script : M → Script)
    (has_taken : S → List Stamped → Type 0)
    (turns : List Turn) (a b c : Stage M S)
    → IsPlaying h script (map script a.machines) a.machines a.words [] → has_taken a.sink []
    → HasShown h header_of script has_taken (turns_of turns) a b
    → ((history : List Stamped) → has_taken b.sink history
    → ComesToRest h header_of script has_taken b c history)
    → list_all (λ m. is_done (next_act (script m))) c.machines ≡ true
    → HasRun (map script a.machines) turns h has_taken c.sink c.words
has_run h header_of script has_taken turns a b c start none first rest done =
    let before = first.shown [] none in
    let now = rest before.later before.taken in
    let run = runs_to h header_of _ _ (scene _ _ []) (scene _ _ _) (scene _ _ _) start refl
    before.played now.rest done in
    record { history = now.later; taken = now.taken; runs = run.0; words_are = run.1 }

pub are_stuck_there : {M S : Type 0} (h : Header) (header_of : M → Header) (script : M → Script)
    (has_taken : S → List Stamped → Type 0)
    (turns : List Turn) (a b c : Stage M S)
    → IsPlaying h script (map script a.machines) a.machines a.words [] → has_taken a.sink []
    → HasShown h header_of script has_taken (turns_of turns) a b
    → ((history : List Stamped) → has_taken b.sink history
    → ComesToRest h header_of script has_taken b c history)
    → list_all (λ m. is_done (next_act (script m))) c.machines ≡ false
    → AreStuckThere script (map script a.machines) turns c.machines
are_stuck_there h header_of script has_taken turns a b c start none first rest undone =
    let before = first.shown [] none in
    let now = rest before.later before.taken in
    stuck_there h header_of _ _ (scene _ _ []) (scene _ _ _) (scene _ _ _) start refl before.played
    now.rest undone
