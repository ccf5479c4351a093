-- One more event keeps the invariant of the tree.
use Rattle.vyrd_every.proofs.Prelude
use Prelude.{◌≡◌, ℕ, ◌<◌, ◌≤◌, ◌⊎◌, inl, inr, Bool, true, false, cond, List, [], ◌∷◌, ◌++◌, length}
use Prelude.{refl, ap, ◌∙◌, sym, subst, same_Some, ◌==◌, ◌&&◌, is_some, unwrap_or, cons_option}
use Prelude.{Header, Kind, Call, Return, Write, Commit, BlockOpen, BlockClose, BlockCommit, Entry}
use Prelude.{Did, Read, Wrote, Took, Gave, Marked, Stamped, open_call, has_block, holds_word}
use Prelude.{entries_before_call, Amounts, answer_in, commit_count, plain_words, cells_of, value_in}
use Prelude.{may_do, is_plain, logged, WellFormed, by_same, wrote, wrote_is, last_is_value}
use Prelude.{well_formed_sound, first_true, second_true, same_of, same_number, below_of}
use Prelude.{commits_before_call, Mark, Memory, Script, after_answer, answer_of, left_after, Plays}
use Prelude.{Situation, holds, may_act, after_act, part_of, script_of, AreSoundScripts}
use Prelude.{act_of_event, situation_after, KeepsTo, AreLegal, caller_low, does, Agrees, agrees}
use Prelude.{write_kept, mark_kept, IsRun, run_keeps, root_lock, level_at, root_in, shown_by}
use Prelude.{Locals, written, answer_at, called_after, log_in, has_answer, Shape, ShowsState}
use Prelude.{TreeLocals, AreApart, MayLoad, MayStore, seen_after, TreeRely, TreeReaches}
use Prelude.{TreeCommits, TreeDoes, MayHold, OfTreeCaller, NoneOut, OneOut, TreeInvariant, never}
use Rattle.vyrd_base.proofs.TestLaws.{flipped}
use Rattle.vyrd_every.specs.Trees.RightScripts.{TreeSees, TreeAnswers}
use Rattle.vyrd_every.proofs.Logs.{held_by_none, write_unraced, IsNoWrite, mark_unraced}
use Rattle.vyrd_every.proofs.Raw.{legal_too}
use Rattle.vyrd_every.proofs.Answered.{commits_now, passed_after, passed_step, answer_more}
use Rattle.vyrd_every.proofs.Answered.{answer_last}
use Rattle.vyrd_every.proofs.NextEvent.{Committing, Leading, Returning, part_own, part_other}
use Rattle.vyrd_every.proofs.NextEvent.{run_before, path_grows, SeenBy, same_called, no_reply}
use Rattle.vyrd_every.proofs.NextEvent.{seen_quiet, seen_other}
use Rattle.vyrd_every.proofs.Trees.Others.{others_rely, still_apart_from}
use Rattle.vyrd_every.proofs.Trees.Written.{given_by, written_at, not_written, shown_more}
use Rattle.vyrd_every.proofs.Trees.Clashes.{AreTwo, no_clash, no_clash_load}
use Rattle.vyrd_every.proofs.Trees.Locks.{held_by_one}
use Rattle.vyrd_every.proofs.Trees.Ones.{TreeOwnStep, tree_own_step, tree_other_step}
use Rattle.vyrd_every.proofs.Trees.Ties.{may_store, with_locals, unseen_own, unseen_other}
use Rattle.vyrd_every.proofs.Trees.Ties.{ties_step}

-- a word that no open block has written, and one that a block has written
free_value : (h : Header) (earlier : List Stamped) (w : ℕ) → AreLegal (cells_of h) earlier
    → WellFormed h (log_in earlier) → w < plain_words h
    → ((d : ℕ) → d < h.callers → holds_word d w (log_in earlier) ≡ false) → value_in earlier w
    ≡ shown_by (log_in earlier) w
free_value h earlier w legal kept low free =
    sym ((well_formed_sound h w (log_in earlier) kept).free free
    ∙ last_is_value (cells_of h) w earlier low (legal_too (cells_of h) earlier legal))

held_value : (h : Header) (earlier : List Stamped) (w c : ℕ) (pending : List (ℕ × ℕ))
    → AreLegal (cells_of h) earlier → WellFormed h (log_in earlier)
    → w < plain_words h → c < h.callers → holds_word c w (log_in earlier) ≡ true
    → pending ≡ Rattle.vyrd_base.specs.Words.block_writes c (log_in earlier) → value_in earlier w
    ≡ written pending (shown_by (log_in earlier)) w
held_value h earlier w c pending legal kept low low_c holding is =
    sym (written_at pending (shown_by (log_in earlier)) w
    ∙ ap (λ ws. unwrap_or (given_by w ws) (shown_by (log_in earlier) w)) is
    ∙ ap (λ o. unwrap_or o (shown_by (log_in earlier) w))
    ((well_formed_sound h w (log_in earlier) kept).held c low_c holding)
    ∙ last_is_value (cells_of h) w earlier low (legal_too (cells_of h) earlier legal))

-- the caller's locals, as the log sees them
abbrev plain : TreeLocals → Locals
plain k = record {
  owned = λ slot. false;
  pending = k.pending;
  called = k.called;
  answered = k.answered;
}

-- what is left to show of one more event
commit_leads : (k : TreeLocals) (c : ℕ) (log : List Entry) (rest : Script) (g : Shape) (m : Memory)
    (state : Amounts) → k.called ≡ open_call c log
    → TreeCommits k rest g m state → (next : Amounts) × ShowsState g m next
    × Committing c log rest state next
commit_leads k c log rest g m state called commits = (
  commits.next,
  commits.means,
  record {
    called = commits.called;
    is_called = sym called ∙ commits.is_called;
    reply = commits.reply;
    returns = commits.returns;
    allowed = commits.allowed;
  },
)

event_leads : (h : Header) (s : Situation) (k next : TreeLocals) (c : ℕ) (did : Did)
    (log : List Entry) (g : Shape) (m : Memory) (g' : Shape) (rest : Script)
    (state : Amounts) → k.called ≡ open_call c log → TreeDoes h s k g m (act_of_event did) rest next
    g' → ShowsState g m state
    → (after : Amounts) × ShowsState g' (seen_after h s k m (act_of_event did)) after
    × Leading c did log rest state after
event_leads h s k next c (Read cell value) log g m g' rest state called does shows =
    (state, does.leads state shows, refl)
event_leads h s k next c (Wrote cell value) log g m g' rest state called does shows =
    (state, does.leads state shows, refl)
event_leads h s k next c (Took lock) log g m g' rest state called does shows =
    (state, does.leads state shows, refl)
event_leads h s k next c (Gave lock) log g m g' rest state called does shows =
    (state, does.leads state shows, refl)
event_leads h s k next c (Marked (Call method args)) log g m g' rest state called does shows =
    (state, does.leads state shows, refl)
event_leads h s k next c (Marked (Return reply)) log g m g' rest state called does shows =
    (state, does.leads state shows, refl)
event_leads h s k next c (Marked (Write word value)) log g m g' rest state called does shows =
    (state, does.leads state shows, refl)
event_leads h s k next c (Marked Commit) log g m g' rest state called does shows =
    commit_leads k c log rest g' m state called (does.leads state shows)
event_leads h s k next c (Marked BlockOpen) log g m g' rest state called does shows =
    (state, does.leads state shows, refl)
event_leads h s k next c (Marked BlockClose) log g m g' rest state called does shows =
    (state, does.leads state shows, refl)
event_leads h s k next c (Marked BlockCommit) log g m g' rest state called does shows =
    commit_leads k c log rest g' (seen_after h s k m (Mark BlockCommit)) state called
    (does.leads state shows)

seen_own : (c : ℕ) (did : Did) (k next : TreeLocals) (log : List Entry) (g : Shape) (m : Memory)
    (passed more : List Amounts) (state : Amounts)
    → TreeAnswers k g m (act_of_event did) next → next.called
    ≡ called_after (act_of_event did) k.called → ShowsState g m state
    → length passed ≡ commit_count log → SeenBy (plain k) c log (passed ++ state ∷ [])
    → SeenBy (plain next) c (cons_option (logged c did) log) ((passed ++ state ∷ []) ++ more)
seen_own c (Read cell value) k next log g m passed more state answers called shows count seen =
    seen_quiet c (Read cell value) (plain k) (plain next) log (passed ++ state ∷ []) more refl
    called answers seen
seen_own c (Wrote cell value) k next log g m passed more state answers called shows count seen =
    seen_quiet c (Wrote cell value) (plain k) (plain next) log (passed ++ state ∷ []) more refl
    called answers seen
seen_own c (Took lock) k next log g m passed more state answers called shows count seen =
    seen_quiet c (Took lock) (plain k) (plain next) log (passed ++ state ∷ []) more refl called
    answers seen
seen_own c (Gave lock) k next log g m passed more state answers called shows count seen =
    by_answer answers
  where
    by_answer : (next.answered ≡ k.answered) ⊎ TreeSees k next g m → SeenBy (plain next) c log
        ((passed ++ state ∷ []) ++ more)
    by_answer (inl same) = seen_quiet c (Gave lock) (plain k) (plain next) log
        (passed ++ state ∷ []) more refl called same seen
    by_answer (inr sees) = λ its is reply answer.
        let call : sees.called ≡ its = same_called sees.called its
        (sym (called ∙ sees.is_called) ∙ is) in
        let one : sees.reply ≡ reply = same_Some sees.reply reply (sym sees.answer ∙ answer) in
        answer_more (passed ++ state ∷ []) more (commit_count (entries_before_call c log)) its reply
        (answer_last passed state (commit_count (entries_before_call c log)) its reply
        (subst (λ n. commit_count (entries_before_call c log) ≤ n) (sym count)
        (commits_before_call c log))
        (subst (λ x. answer_in state x.method x.args ≡ reply) call (sees.seen state shows ∙ one)))
seen_own c (Marked (Call method args)) k next log g m passed more state answers called shows count
    seen =
    λ its is reply answer. absurd (no_reply next.answered reply answers answer)
seen_own c (Marked (Return other)) k next log g m passed more state answers called shows count
    seen =
    λ its is reply answer. absurd (no_reply next.answered reply answers.0 answer)
seen_own c (Marked (Write word value)) k next log g m passed more state answers called shows count
    seen =
    seen_quiet c (Marked (Write word value)) (plain k) (plain next) log (passed ++ state ∷ []) more
    refl called answers seen
seen_own c (Marked Commit) k next log g m passed more state answers called shows count seen =
    seen_quiet c (Marked Commit) (plain k) (plain next) log (passed ++ state ∷ []) more refl called
    answers seen
seen_own c (Marked BlockOpen) k next log g m passed more state answers called shows count seen =
    seen_quiet c (Marked BlockOpen) (plain k) (plain next) log (passed ++ state ∷ []) more refl
    called answers seen
seen_own c (Marked BlockClose) k next log g m passed more state answers called shows count seen =
    seen_quiet c (Marked BlockClose) (plain k) (plain next) log (passed ++ state ∷ []) more refl
    called answers seen
seen_own c (Marked BlockCommit) k next log g m passed more state answers called shows count seen =
    seen_quiet c (Marked BlockCommit) (plain k) (plain next) log (passed ++ state ∷ []) more refl
    called answers seen

event_returns : (c : ℕ) (did : Did) (k next : TreeLocals) (log : List Entry) (g : Shape)
    (m : Memory) (passed : List Amounts) (state : Amounts)
    → TreeAnswers k g m (act_of_event did) next → k.called ≡ open_call c log
    → SeenBy (plain k) c log (passed ++ state ∷ [])
    → Returning c did log passed state
event_returns c (Marked (Return reply)) k next log g m passed state answers called seen =
    λ its is observes.
    seen its (called ∙ is) reply (answers.1 its (called ∙ is) observes)
event_returns c (Read cell value) k next log g m passed state answers called seen = tt
event_returns c (Wrote cell value) k next log g m passed state answers called seen = tt
event_returns c (Took lock) k next log g m passed state answers called seen = tt
event_returns c (Gave lock) k next log g m passed state answers called seen = tt
event_returns c (Marked (Call method args)) k next log g m passed state answers called seen = tt
event_returns c (Marked (Write word value)) k next log g m passed state answers called seen = tt
event_returns c (Marked Commit) k next log g m passed state answers called seen = tt
event_returns c (Marked BlockOpen) k next log g m passed state answers called seen = tt
event_returns c (Marked BlockClose) k next log g m passed state answers called seen = tt
event_returns c (Marked BlockCommit) k next log g m passed state answers called seen = tt

no_write : (h : Header) (s : Situation) (k : TreeLocals) (g : Shape) (m : Memory) (kind : Kind)
    → TreeReaches h s k g m (Mark kind) → IsNoWrite kind
no_write h s k g m (Call method args) reaches = tt
no_write h s k g m (Return reply) reaches = tt
no_write h s k g m (Write word value) reaches = reaches
no_write h s k g m Commit reaches = tt
no_write h s k g m BlockOpen reaches = tt
no_write h s k g m BlockClose reaches = tt
no_write h s k g m BlockCommit reaches = tt

-- what one more event makes of it all
pub record TreeNext (h : Header) (scripts : List Script) (earlier : List Stamped) (number c : ℕ)
    (did : Did) (passed : List Amounts) (state : Amounts)
    : Type 0 where
  pub locals : ℕ → TreeLocals
  pub g : Shape
  pub m : Memory
  pub next : Amounts
  pub holds : TreeInvariant h scripts (record { number = number; caller = c; did = did } ∷ earlier)
      locals g m (passed_after did passed state) next
  pub leading : Leading c did (log_in earlier)
      (after_answer (left_after (script_of scripts c) (part_of c earlier)) 0) state next
  pub returning : Returning c did (log_in earlier) passed state

-- a caller that holds the root's lock sees the root that the log shows, except the one whose block
-- is seen
pub tree_calm : (h : Header) (scripts : List Script) (earlier : List Stamped)
    (locals : ℕ → TreeLocals) (g : Shape) (m : Memory) (passed : List Amounts)
    (state : Amounts) → AreSoundScripts h scripts → IsRun h scripts earlier
    → TreeInvariant h scripts earlier locals g m passed state
    → (d : ℕ) → d < h.callers → holds (situation_after (part_of d earlier)) (root_lock h) ≡ true
    → (locals d).out ≡ false
    → g.top ≡ level_at m (root_in h.size m)
tree_calm h scripts earlier locals g m passed state sound run inv d low_d held quiet =
    by_ties inv.ties
  where
    by_ties : NoneOut h locals g m (shown_by (log_in earlier))
        ⊎ OneOut h locals m (shown_by (log_in earlier)) → g.top ≡ level_at m (root_in h.size m)
    by_ties (inl n) = n.calm
    by_ties (inr o) = by_same o.who d
        (λ same. absurd (never quiet (subst (λ x. (locals x).out ≡ true) same o.out)))
        (λ other. absurd
        (never (held_by_one h o.who d earlier (root_lock h) run.legal
        (run_keeps h scripts earlier o.who sound run o.low)
        (run_keeps h scripts earlier d sound run low_d) other held)
        ((inv.each o.who o.low).alone o.out).0))

-- one more event, of caller c
module _ (h : Header) (scripts : List Script) (earlier : List Stamped) (number c : ℕ) (did : Did)
    (locals : ℕ → TreeLocals) (g : Shape) (m : Memory)
    (passed : List Amounts) (state : Amounts) (version : h.version ≡ 1)
    (sound : AreSoundScripts h scripts)
    (run : IsRun h scripts (record { number = number; caller = c; did = did } ∷ earlier))
    (inv : TreeInvariant h scripts earlier locals g m passed state) where
  abbrev e : Stamped
  e = record { number = number; caller = c; did = did }

  abbrev log : List Entry
  log = cons_option (logged c did) (log_in earlier)

  abbrev situation : ℕ → Situation
  situation d = situation_after (part_of d earlier)

  abbrev left : Script
  left = after_answer (left_after (script_of scripts c) (part_of c earlier)) 0

  before : IsRun h scripts earlier
  before = run_before h scripts e earlier run

  low : c < h.callers
  low = caller_low (cells_of h) earlier e run.legal.0

  keeps : KeepsTo h (did ∷ part_of c earlier)
  keeps = subst (KeepsTo h) (part_own number c did earlier)
      (run_keeps h scripts (e ∷ earlier) c sound run low)

  may : may_act h (situation c) (act_of_event did) ≡ true
  may = keeps.0

  agree : (d : ℕ) → d < h.callers → Agrees d (situation d) (log_in earlier)
  agree d low_d = agrees h d earlier (run_keeps h scripts earlier d sound before low_d)

  agree_now : Agrees c (after_act (situation c) (act_of_event did)) log
  agree_now = subst (λ p. Agrees c (situation_after p) log) (part_own number c did earlier)
      (agrees h c (e ∷ earlier) (run_keeps h scripts (e ∷ earlier) c sound run low))

  plays : Plays (script_of scripts c) (did ∷ part_of c earlier)
  plays = subst (Plays (script_of scripts c)) (part_own number c did earlier) (run.plays c)

  locks : (a d lock : ℕ) → a < h.callers → d < h.callers → (a == d) ≡ false
      → holds (situation d) lock ≡ true → holds (situation a) lock ≡ false
  locks a d lock low_a low_d other held =
      held_by_one h a d earlier lock before.legal (run_keeps h scripts earlier a sound before low_a)
      (run_keeps h scripts earlier d sound before low_d) other held

  two : (d : ℕ) → d < h.callers → (c == d) ≡ false → AreTwo h (situation c) (situation d) (locals c)
      (locals d) g m
  two d low_d other = record {
    tree = inv.tree;
    own = (inv.each c low).owns;
    its_own = (inv.each d low_d).owns;
    apart = inv.apart c d low low_d other;
    locks = λ lock held. locks c d lock low low_d other held;
    its_root = λ out. ((inv.each d low_d).alone out).0;
    ahead = (inv.each d low_d).ahead;
  }

  calm : (d : ℕ) → d < h.callers → holds (situation d) (root_lock h) ≡ true → (locals d).out ≡ false
      → g.top ≡ level_at m (root_in h.size m)
  calm d low_d = tree_calm h scripts earlier locals g m passed state sound before inv d low_d

  -- a load finds what callers see
  found_word : (cell : ℕ) → cell < plain_words h → MayLoad h (situation c) g cell
      → (situation c).in_block ≡ false → value_in earlier cell ≡ m cell
  found_word cell fits may outside = by_ties inv.ties
    where
      own_free : holds_word c cell (log_in earlier) ≡ false
      own_free = ap (λ b. b && wrote c cell (log_in earlier)) ((agree c low).in_block ∙ outside)

      free : (d : ℕ) → d < h.callers → (locals d).out ≡ false → holds_word d cell (log_in earlier)
          ≡ false
      free d low_d quiet = by_same c d
          (λ same. subst (λ x. holds_word x cell (log_in earlier) ≡ false) same own_free)
          (λ other. by_test other (holds_word d cell (log_in earlier)) refl)
        where
          by_hold : (c == d) ≡ false → MayHold h (situation d) (locals d) g m cell → ⊥
          by_hold other (inl hold) = no_clash_load h (situation c) (situation d) (locals c)
              (locals d) g m cell (two d low_d other) may hold.1
          by_hold other (inr out) = never quiet out.0

          by_test : (c == d) ≡ false → (b : Bool) → holds_word d cell (log_in earlier) ≡ b
              → b ≡ false
          by_test other false f = refl
          by_test other true f = absurd (by_hold other ((inv.each d low_d).covers cell f))

      by_held : (o : OneOut h locals m (shown_by (log_in earlier))) → (b : Bool)
          → holds_word o.who cell (log_in earlier) ≡ b
          → value_in earlier cell ≡ written (locals o.who).pending (shown_by (log_in earlier)) cell
      by_held o true f = held_value h earlier cell o.who (locals o.who).pending before.legal
          inv.kept fits o.low f (inv.each o.who o.low).pending
      by_held o false f =
          free_value h earlier cell before.legal inv.kept fits
          (λ d low_d. by_same o.who d
          (λ same. subst (λ x. holds_word x cell (log_in earlier) ≡ false) same f)
          (λ other. free d low_d (o.others d low_d other)))
          ∙ sym (not_written (locals o.who).pending (shown_by (log_in earlier)) cell
          (ap (λ ws. is_some (given_by cell ws)) (inv.each o.who o.low).pending
          ∙ sym (wrote_is o.who cell (log_in earlier) inside)
          ∙ sym (ap (λ b. b && wrote o.who cell (log_in earlier)) inside) ∙ f))
        where
          inside : has_block o.who (log_in earlier) ≡ true
          inside = (agree o.who o.low).in_block ∙ ((inv.each o.who o.low).alone o.out).1

      by_ties : NoneOut h locals g m (shown_by (log_in earlier))
          ⊎ OneOut h locals m (shown_by (log_in earlier)) → value_in earlier cell ≡ m cell
      by_ties (inl n) = free_value h earlier cell before.legal inv.kept fits
          (λ d low_d. free d low_d (n.quiet d low_d)) ∙ sym (ap (λ f. f cell) n.same)
      by_ties (inr o) = by_held o (holds_word o.who cell (log_in earlier)) refl
          ∙ sym (ap (λ f. f cell) o.same)

  found : TreeReaches h (situation c) (locals c) g m (act_of_event did) → answer_of did
      ≡ answer_at m (act_of_event did)
  found = by_did did (does (cells_of h) earlier e run.legal.0)
    where
      by_did : (x : Did) → may_do (cells_of h) earlier c x ≡ true → TreeReaches h (situation c)
          (locals c) g m (act_of_event x)
          → answer_of x ≡ answer_at m (act_of_event x)
      by_did (Read cell value) allowed reaches =
          same_of value (value_in earlier cell)
          (second_true (is_plain (cells_of h) cell) (value == value_in earlier cell) allowed)
          ∙ found_word cell
          (below_of cell (plain_words h)
          (first_true (is_plain (cells_of h) cell) (value == value_in earlier cell) allowed))
          reaches.0 reaches.1
      by_did (Wrote cell value) allowed reaches = refl
      by_did (Took lock) allowed reaches = refl
      by_did (Gave lock) allowed reaches = refl
      by_did (Marked kind) allowed reaches = refl

  -- the log stays well formed
  kept_now : TreeReaches h (situation c) (locals c) g m (act_of_event did) → WellFormed h log
  kept_now = by_did did may
    where
      free : (cell d : ℕ) → MayStore h (situation c) (locals c) g m cell → d < h.callers → (d == c)
          ≡ false → holds_word d cell (log_in earlier) ≡ false
      free cell d stores low_d other = by_test (holds_word d cell (log_in earlier)) refl
        where
          by_test : (b : Bool) → holds_word d cell (log_in earlier) ≡ b → b ≡ false
          by_test false f = refl
          by_test true f = absurd
              (no_clash h (situation c) (situation d) (locals c) (locals d) g m cell
              (two d low_d (flipped d c other)) stores
              ((inv.each d low_d).covers cell f))

      by_did : (x : Did) → may_act h (situation c) (act_of_event x) ≡ true
          → TreeReaches h (situation c) (locals c) g m (act_of_event x)
          → WellFormed h (cons_option (logged c x) (log_in earlier))
      by_did (Read cell value) allowed reaches = inv.kept
      by_did (Took lock) allowed reaches = inv.kept
      by_did (Gave lock) allowed reaches = inv.kept
      by_did (Wrote cell value) allowed reaches = (
        write_unraced h c cell value (log_in earlier) version inv.kept
            (held_by_none h c cell (log_in earlier)
            (λ d low_d other. free cell d reaches low_d other))
            (write_kept h c cell value (situation c) (log_in earlier) low allowed (agree c low)),
        inv.kept,
      )
      by_did (Marked kind) allowed reaches = (
        mark_unraced h c kind (log_in earlier)
            (no_write h (situation c) (locals c) g m kind reaches)
            (mark_kept h c kind (situation c) (log_in earlier) low allowed (agree c low)),
        inv.kept,
      )

  -- the caller's own act
  own : TreeOwnStep h (script_of scripts c) (part_of c earlier) (log_in earlier) c did
      (locals c) g m
  own = tree_own_step h (script_of scripts c) (part_of c earlier) (log_in earlier) c did
      (locals c) g m (inv.each c low) inv.tree (calm c low) (agree c low)
      agree_now may plays.0 found

  abbrev m' : Memory
  m' = seen_after h (situation c) (locals c) m (act_of_event did)

  abbrev now_locals : ℕ → TreeLocals
  now_locals = with_locals locals c own.next

  after : (next : Amounts) × ShowsState own.grown m' next
      × Leading c did (log_in earlier) left state next
  after = event_leads h (situation c) (locals c) own.next c did (log_in earlier) g m own.grown left
      state (inv.each c low).called own.does inv.shows

  -- it is within what each other caller relies on
  rely_of : (d : ℕ) → d < h.callers → (c == d) ≡ false → TreeRely h (situation d)
      (locals d) g m own.grown m'
  rely_of d low_d other =
      others_rely h (situation c) (situation d) (locals c) (locals d) g m (act_of_event did) left
      own.next own.grown inv.tree own.does (inv.each d low_d).owns
      (inv.apart c d low low_d other) (λ lock held. locks c d lock low low_d other held)
      (calm d low_d)

  own_now : OfTreeCaller h (script_of scripts c) (part_of c (e ∷ earlier)) log c
      (now_locals c) own.grown m'
  own_now = rw (part_own number c did earlier) (rw (unseen_own locals c own.next) own.one)

  each_now : (d : ℕ) → d < h.callers → OfTreeCaller h (script_of scripts d)
      (part_of d (e ∷ earlier)) log d (now_locals d) own.grown m'
  each_now d low_d = by_same c d
      (λ same. subst (λ x. OfTreeCaller h (script_of scripts x) (part_of x (e ∷ earlier)) log x
      (now_locals x) own.grown m') same own_now)
      (λ other. subst
      (λ p. OfTreeCaller h (script_of scripts d) p log d (now_locals d) own.grown m')
      (sym (part_other number c d did earlier other))
      (subst (λ k. OfTreeCaller h (script_of scripts d) (part_of d earlier) log d k own.grown m')
      (sym (unseen_other locals c d own.next other))
      (tree_other_step h (script_of scripts d) (part_of d earlier) (log_in earlier) c d did
      (locals d) g m own.grown m' (inv.each d low_d) inv.tree other
      (rely_of d low_d other))))

  apart_now : (a b : ℕ) → a < h.callers → b < h.callers → (a == b) ≡ false
      → AreApart (now_locals a) (now_locals b)
  apart_now a b low_a low_b other = by_tests (c == a) refl (c == b) refl
    where
      flip : (k its : TreeLocals) → AreApart k its → AreApart its k
      flip k its apart = record {
        fresh = λ n mine theirs. apart.fresh n theirs mine;
        hanging = λ n mine theirs. apart.hanging n theirs mine;
      }

      from : (d : ℕ) → d < h.callers → (c == d) ≡ false → AreApart own.next (locals d)
      from d low_d apart = still_apart_from h (situation c) (locals c) (locals d) g m
          (act_of_event did) left own.next own.grown own.does (inv.each d low_d).owns
          (inv.apart c d low low_d apart)

      by_tests : (x : Bool) → (c == a) ≡ x → (y : Bool) → (c == b) ≡ y
          → AreApart (cond x own.next (locals a)) (cond y own.next (locals b))
      by_tests true f true k = absurd
          (never other (subst (λ z. (a == z) ≡ true) (sym (same_of c a f) ∙ same_of c b k)
          (same_number a)))
      by_tests true f false k = from b low_b k
      by_tests false f true k = flip own.next (locals a) (from a low_a f)
      by_tests false f false k = inv.apart a b low_a low_b other

  -- a word that an open block has written
  held_of : (d w : ℕ) → d < h.callers → (situation d).in_block ≡ true
      → is_some (given_by w (locals d).pending) ≡ true → MayHold h (situation d) (locals d) g m w
  held_of d w low_d inside given =
      let open_ : has_block d (log_in earlier) ≡ true = (agree d low_d).in_block ∙ inside in
      (inv.each d low_d).covers w
      (cc (wrote_is d w (log_in earlier) open_, (inv.each d low_d).pending))

  stored : (w : ℕ) → (locals c).out ≡ false → (situation c).in_block ≡ true
      → is_some (given_by w (locals c).pending) ≡ true
      → MayStore h (situation c) (locals c) g m w
  stored w quiet inside given = by_hold (held_of c w low inside given)
    where
      by_hold : MayHold h (situation c) (locals c) g m w → MayStore h (situation c) (locals c) g m w
      by_hold (inl hold) = inl (inside, quiet, inl hold.1)
      by_hold (inr out) = absurd (never quiet out.0)

  ties_now : NoneOut h now_locals own.grown m' (shown_by log) ⊎ OneOut h now_locals m'
      (shown_by log)
  ties_now =
      ties_step h c (situation c) locals g m (act_of_event did) left own.next own.grown
      (shown_by (log_in earlier)) (shown_by log) low own.does may
      (shown_more h (situation c) (locals c) g m c did (log_in earlier) (agree c low).in_block
      (inv.each c low).pending own.does.reaches)
      (λ out. ((inv.each c low).alone out).1)
      (λ d low_d other out. locks c d (root_lock h) low low_d (flipped d c other)
      ((inv.each d low_d).alone out).0)
      (λ d w low_d other out quiet given_c given_d.
      no_clash h (situation c) (situation d) (locals c) (locals d) g m w
      (two d low_d (flipped d c other))
      (may_store h (situation c) (locals c) g m (act_of_event did) w own.does.reaches may
      (stored w quiet) given_c)
      (held_of d w low_d ((inv.each d low_d).alone out).1 given_d))
      inv.ties

  grown_by : List Amounts
  grown_by = cond (commits_now did) (after.0 ∷ []) []

  seen_by : (d : ℕ) → d < h.callers → (x : Bool) → (c == d) ≡ x
      → SeenBy (plain (cond x own.next (locals d))) d log ((passed ++ state ∷ []) ++ grown_by)
  seen_by d low_d true f =
      subst (λ z. SeenBy (plain own.next) z log ((passed ++ state ∷ []) ++ grown_by))
      (same_of c d f)
      (seen_own c did (locals c) own.next (log_in earlier) g m passed grown_by state
      own.does.answers own.does.called inv.shows inv.count (inv.seen c low))
  seen_by d low_d false f = seen_other c d did (plain (locals d)) (log_in earlier)
      (passed ++ state ∷ []) grown_by f (inv.seen d low_d)

  pub tree_next_event : TreeNext h scripts earlier number c did passed state
  unfolding grown_by
  tree_next_event = record {
    locals = now_locals;
    g = own.grown;
    m = m';
    next = after.0;
    holds = record {
      kept = kept_now own.does.reaches;
      tree = own.does.tree;
      each = each_now;
      apart = apart_now;
      ties = ties_now;
      shows = after.1;
      count = passed_step c did (log_in earlier) passed state inv.count;
      seen = λ d low_d called is_called reply answer. subst
          (λ states. has_answer states (commit_count (entries_before_call d log)) called reply
          ≡ true)
          (sym (path_grows c did (log_in earlier) left passed state after.0 after.2))
          (seen_by d low_d (c == d) refl called is_called reply answer);
    };
    leading = after.2;
    returning = event_returns c did (locals c) own.next (log_in earlier) g m passed state
        own.does.answers (inv.each c low).called (inv.seen c low);
  }
