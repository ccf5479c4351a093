-- In a well-formed log a word that no open block has written has the value that was logged last for
-- it.
use Rattle.vyrd_base.proofs.Prelude
use Prelude.{◌≡◌, ℕ, suc, zero, ◌+◌, ◌<◌, ◌≤◌, Bool, true, false, cond, not, ◌&&◌, ◌||◌, List, []}
use Prelude.{◌∷◌, ◌++◌, Option, Some, None, refl, ap, subst, ◌∙◌, sym, arith, ◌==◌, is_some}
use Prelude.{is_none, unwrap_or, option_or, list_any, nat_tests, Header, Kind, Call, Return, Write}
use Prelude.{Commit, BlockOpen, BlockClose, BlockCommit, Entry, first_answer, numbers_from}
use Prelude.{newest_first_onto, newest_first, open_or_close, has_block, write_or_open, holds_word}
use Prelude.{open_call, Check, first_broken, checks_at, broken_rule, first_break, WellFormed}
use Prelude.{with_write, block_writes, given_to, is_passed, ended_effects_at, ended_effects}
use Prelude.{ended_value, is_call_open, above_of, same_number}
use Rattle.vyrd_base.proofs.PlaceLaws.{first_answer-append}
use Rattle.vyrd_base.proofs.Fronts.{break_after}
use Rattle.vyrd_base.proofs.BlockLaws.{entry, by_same, own_answer, other_answer, no_answer, wrote}
use Rattle.vyrd_base.proofs.BlockLaws.{block_value, own_value, own_wrote, other_writes, wrote_is}
use Rattle.vyrd_base.proofs.BlockLaws.{open_call-quiet}
use Rattle.vyrd_base.proofs.ListLaws.{both_none, isnt_some}

pub well_formed_after : (h : Header) (earlier xs : List Entry) → WellFormed h earlier
    → break_after h earlier xs ≡ None
    → WellFormed h (newest_first_onto earlier xs)
well_formed_after h earlier [] wf e = wf
well_formed_after h earlier (x ∷ xs) wf e =
    let parts = both_none (broken_rule h earlier x) (break_after h (x ∷ earlier) xs) e in
    well_formed_after h (x ∷ earlier) xs (parts.0, wf) parts.1

pub well_formed-first_break : (h : Header) (es : List Entry) → first_break h es ≡ None
    → WellFormed h (newest_first es)
unfolding first_break
well_formed-first_break h es e = well_formed_after h [] es tt e

-- none of the checks is broken
abbrev pub AllKept : List Check → Type 0
AllKept [] = Unit {0}
AllKept (check ∷ checks) = (check.broken ≡ false) × AllKept checks

pub all_kept : (checks : List Check) → first_broken checks ≡ None → AllKept checks
all_kept [] e = tt
all_kept (check ∷ checks) e =
    let parts = split check.broken e in
    (parts.0, all_kept checks parts.1)
  where
    split : (b : Bool) → cond b (Some check.rule) (first_broken checks) ≡ None → (b ≡ false)
        × (first_broken checks ≡ None)
    split true f = cc
    split false f = (refl, f)

or_false_left : (a b : Bool) → (a || b) ≡ false → a ≡ false
or_false_left a b e = search arith

pub or_false_right : (a b : Bool) → (a || b) ≡ false → b ≡ false
or_false_right a b e = search arith

apart : (k d : ℕ) → (k == d) ≡ false → k ≤ d → k + 1 ≤ d
apart k d e low = grind (arith, nat_tests)

none_of : (p : ℕ → Bool) (k n d : ℕ) → list_any p (numbers_from k n) ≡ false → k ≤ d → d < k + n
    → p d ≡ false
none_of p k zero d e low high = absurd (omega arith)
none_of p k (suc n) d e low high = by_same k d (λ same. ap p (sym same) ∙ or_false_left _ _ e)
    (λ other. none_of p (k + 1) n d (or_false_right _ _ e) (apart k d other low) (omega arith))

pub held_false : (same held : Bool) → (not same && held) ≡ false → same ≡ false → held ≡ false
held_false same held e f = search arith

-- what the rules say of a write, of an open and of a close
pub record WriteKept (h : Header) (c word : ℕ) (earlier : List Entry) : Type 0 where
  pub caller : c < h.callers
  pub free : (d : ℕ) → d < h.callers → (d == c) ≡ false → holds_word d word earlier ≡ false

pub write_kept : (h : Header) (c word value : ℕ) (earlier : List Entry)
    → broken_rule h earlier (entry c (Write word value)) ≡ None
    → WriteKept h c word earlier
write_kept h c word value earlier e =
    let kept = all_kept (checks_at h earlier (entry c (Write _ _))) e in
    record {
      caller = above_of _ c kept.0;
      free = λ d low other. held_false (d == c) _
          (none_of (λ x. not (x == c) && holds_word x word earlier) 0 h.callers d
          (or_false_left _ (is_passed c _ _) kept.1.1.1.1.0) (omega arith) (omega arith)) other;
    }

pub open_kept : (h : Header) (c : ℕ) (earlier : List Entry)
    → broken_rule h earlier (entry c BlockOpen) ≡ None → has_block c earlier ≡ false
open_kept h c earlier e = (all_kept (checks_at h earlier (entry c BlockOpen)) e).1.1.0

pub close_kept : (h : Header) (c : ℕ) (earlier : List Entry)
    → broken_rule h earlier (entry c BlockClose) ≡ None → has_block c earlier ≡ true
close_kept h c earlier e = search (all_kept, arith)

pub block_commit_kept : (h : Header) (c : ℕ) (earlier : List Entry)
    → broken_rule h earlier (entry c BlockCommit) ≡ None → has_block c earlier ≡ true
block_commit_kept h c earlier e = search (all_kept, arith)

-- the last value that was logged for the word, in a block or not
abbrev pub logged_value : ℕ → Kind → Option ℕ
logged_value w (Write word value) = given_to w (word, value)
logged_value w _ = None

abbrev pub last_logged : ℕ → List Entry → ℕ
last_logged w earlier = unwrap_or (first_answer (λ e. logged_value w e.kind) earlier) 0

-- A word that no open block has written has the value logged last, and in a block that has written
-- it that value stands last.
pub record Sound (h : Header) (w : ℕ) (earlier : List Entry) : Type 0 where
  pub free : ((d : ℕ) → d < h.callers → holds_word d w earlier ≡ false)
      → ended_value (ended_effects earlier) w ≡ last_logged w earlier
  pub held : (d : ℕ) → d < h.callers → holds_word d w earlier ≡ true → block_value d w earlier
      ≡ Some (last_logged w earlier)

-- another caller's entry leaves alone what this caller holds and has written
pub holds_other : (d c w : ℕ) (kind : Kind) (earlier : List Entry) → (c == d) ≡ false
    → holds_word d w (entry c kind ∷ earlier) ≡ holds_word d w earlier
holds_other d c w kind earlier other = grind (arith, other_answer)

value_other : (d c w : ℕ) (kind : Kind) (earlier : List Entry) → (c == d) ≡ false
    → block_value d w (entry c kind ∷ earlier) ≡ block_value d w earlier
value_other d c w kind earlier other = cc (other_writes d c kind earlier other)

-- an entry that touches no block and no word
record Quiet (w c : ℕ) (kind : Kind) (earlier : List Entry) : Type 0 where
  edge : open_or_close kind ≡ None
  word : write_or_open w kind ≡ None
  writes : with_write true kind (block_writes c earlier) ≡ block_writes c earlier
  effect : ended_effects_at earlier c kind ≡ []
  logged : logged_value w kind ≡ None

quiet_sound : (h : Header) (w c : ℕ) (kind : Kind) (earlier : List Entry) → Quiet w c kind earlier
    → Sound h w earlier
    → Sound h w (entry c kind ∷ earlier)
quiet_sound h w c kind earlier quiet sound = record {
  free = λ none. ap (λ ws. ended_value (ws ++ ended_effects earlier) w) quiet.effect
      ∙ sound.free (λ d low. sym (holds d) ∙ none d low) ∙ sym last;
  held = λ d low holding. value d ∙ sound.held d low (sym (holds d) ∙ holding) ∙ ap Some (sym last);
}
  where
    holds : (d : ℕ) → holds_word d w (entry c kind ∷ earlier) ≡ holds_word d w earlier
    holds d =
        let block = no_answer d c open_or_close kind earlier quiet.edge in
        let word = no_answer d c (write_or_open w) kind earlier quiet.word in
        λ i. unwrap_or (block i) false && unwrap_or (word i) false

    value : (d : ℕ) → block_value d w (entry c kind ∷ earlier) ≡ block_value d w earlier
    value d = by_same c d
        (λ same. subst (λ x. block_value x w (entry c kind ∷ earlier) ≡ block_value x w earlier)
        same
        (own_value c w kind earlier ∙ ap (first_answer (given_to w)) quiet.writes))
        (value_other d c w kind earlier)

    last : last_logged w (entry c kind ∷ earlier) ≡ last_logged w earlier
    last = cc (quiet.logged)

outside_holds : (a b : Bool) → a ≡ false → (a && b) ≡ false
outside_holds a b e = search arith

-- after its own open or close a caller holds no word
pub own_edge : (c w : ℕ) (kind : Kind) (earlier : List Entry) (opens : Bool) → open_or_close kind
    ≡ Some opens
    → (opens ≡ true → write_or_open w kind ≡ Some false) → holds_word c w (entry c kind ∷ earlier)
    ≡ false
own_edge c w kind earlier opens edge word = grind (arith, own_answer, own_wrote)

never : {b : Bool} → b ≡ false → b ≡ true → ⊥
never e f = cc

-- a block's open
open_sound : (h : Header) (w c : ℕ) (earlier : List Entry) → has_block c earlier ≡ false
    → Sound h w earlier → Sound h w (entry c BlockOpen ∷ earlier)
open_sound h w c earlier outside sound = record {
  free = λ none. sound.free (λ d low. by_same c d
      (λ same. subst (λ x. holds_word x w earlier ≡ false) same
      (outside_holds (has_block c earlier) (wrote c w earlier) outside))
      (λ other. sym (holds_other d c w BlockOpen earlier other) ∙ none d low));
  held = λ d low holding. by_same c d
      (λ same. absurd (never (subst (λ x. holds_word x w (entry c BlockOpen ∷ earlier)
      ≡ false) same (own_edge c w BlockOpen earlier true refl (λ _. refl))) holding))
      (λ other. value_other d c w BlockOpen earlier other
      ∙ sound.held d low (sym (holds_other d c w BlockOpen earlier other) ∙ holding));
}

record Closes (w c : ℕ) (kind : Kind) (earlier : List Entry) : Type 0 where
  edge : open_or_close kind ≡ Some false
  effect : ended_effects_at earlier c kind ≡ block_writes c earlier
  logged : logged_value w kind ≡ None

-- the end of a block
close_sound : (h : Header) (w c : ℕ) (kind : Kind) (earlier : List Entry) → c < h.callers
    → has_block c earlier ≡ true
    → Closes w c kind earlier → Sound h w earlier → Sound h w (entry c kind ∷ earlier)
close_sound h w c kind earlier low_c inside closes sound = record {
  free = λ none. new_value ∙ by_held none (holds_word c w earlier) refl ∙ sym last;
  held = λ d low holding. by_same c d
      (λ same. absurd
      (never (subst (λ x. holds_word x w (entry c kind ∷ earlier) ≡ false) same no_more) holding))
      (λ other. value_other d c w kind earlier other
      ∙ sound.held d low (sym (holds_other d c w kind earlier other) ∙ holding)
      ∙ ap Some (sym last));
}
  where
    no_more : holds_word c w (entry c kind ∷ earlier) ≡ false
    no_more = own_edge c w kind earlier false closes.edge (λ e. cc)

    last : last_logged w (entry c kind ∷ earlier) ≡ last_logged w earlier
    last = cc (closes.logged)

    new_value : ended_value (ended_effects (entry c kind ∷ earlier)) w
        ≡ unwrap_or (option_or (block_value c w earlier)
        (first_answer (given_to w) (ended_effects earlier))) 0
    new_value = search (first_answer-append, arith)

    -- as the block is open, a word is held where the block has a value for it
    is_held : holds_word c w earlier ≡ is_some (block_value c w earlier)
    is_held = ap (λ b. b && wrote c w earlier) inside ∙ wrote_is c w earlier inside

    by_held : ((d : ℕ) → d < h.callers → holds_word d w (entry c kind ∷ earlier) ≡ false)
        → (b : Bool) → holds_word c w earlier ≡ b
        → unwrap_or (option_or (block_value c w earlier)
        (first_answer (given_to w) (ended_effects earlier))) 0 ≡ last_logged w earlier
    by_held none true holding = cc (sound.held c low_c holding)
    by_held none false free_c =
        ap (λ o. unwrap_or (option_or o (first_answer (given_to w) (ended_effects earlier))) 0)
        (isnt_some (block_value c w earlier) (sym is_held ∙ free_c))
        ∙ sound.free (λ d low. by_same c d
        (λ same. subst (λ x. holds_word x w earlier ≡ false) same free_c)
        (λ other. sym (holds_other d c w kind earlier other) ∙ none d low))

-- what a write of another word leaves alone
pub other_write : (d c w word value : ℕ) (earlier : List Entry) → (word == w) ≡ false
    → holds_word d w (entry c (Write word value) ∷ earlier) ≡ holds_word d w earlier
other_write d c w word value earlier other = grind (arith, no_answer)

other_value : (d c w word value : ℕ) (earlier : List Entry) → (word == w) ≡ false
    → block_value d w (entry c (Write word value) ∷ earlier) ≡ block_value d w earlier
other_value d c w word value earlier other = grind (arith, by_same, own_value, value_other)

skipped : (w word value : ℕ) (writes : List (ℕ × ℕ)) → (word == w) ≡ false
    → ended_value ((word, value) ∷ writes) w ≡ ended_value writes w
skipped w word value writes other = grind arith

-- a write of another word
write_other_sound : (h : Header) (w c word value : ℕ) (earlier : List Entry) → (word == w) ≡ false
    → Sound h w earlier
    → Sound h w (entry c (Write word value) ∷ earlier)
write_other_sound h w c word value earlier other sound = record {
  free = λ none. effect (has_block c earlier)
      ∙ sound.free (λ d low. sym (other_write d c w word value earlier other) ∙ none d low)
      ∙ sym last;
  held = λ d low holding. other_value d c w word value earlier other
      ∙ sound.held d low (sym (other_write d c w word value earlier other) ∙ holding)
      ∙ ap Some (sym last);
}
  where
    last : last_logged w (entry c (Write word value) ∷ earlier) ≡ last_logged w earlier
    last = cc

    effect : (b : Bool) → ended_value (cond b [] ((word, value) ∷ []) ++ ended_effects earlier) w
        ≡ ended_value (ended_effects earlier) w
    effect true = refl
    effect false = skipped w word value (ended_effects earlier) other

-- a write of the word, in a block or not
write_own_sound : (h : Header) (w c value : ℕ) (earlier : List Entry) → WriteKept h c w earlier
    → Sound h w (entry c (Write w value) ∷ earlier)
write_own_sound h w c value earlier kept = by_block (has_block c earlier) refl
  where
    by_block : (b : Bool) → has_block c earlier ≡ b → Sound h w (entry c (Write w value) ∷ earlier)
    by_block true inside = search (never, by_same, own_value, same_number, arith)
    by_block false outside = search (same_number, by_same, never, arith)

-- the range that the rules give each caller
pub caller_kept : (h : Header) (earlier : List Entry) (e : Entry) → broken_rule h earlier e ≡ None
    → e.caller < h.callers
caller_kept h earlier e kept = above_of h.callers e.caller (all_kept (checks_at h earlier e) kept).0

step_sound : (h : Header) (w c : ℕ) (kind : Kind) (earlier : List Entry)
    → broken_rule h earlier (entry c kind) ≡ None
    → Sound h w earlier → Sound h w (entry c kind ∷ earlier)
step_sound h w c (Call method args) earlier kept sound = search (quiet_sound, arith)
step_sound h w c (Return reply) earlier kept sound = search (quiet_sound, arith)
step_sound h w c Commit earlier kept sound = search (quiet_sound, arith)
step_sound h w c BlockOpen earlier kept sound = search (open_sound, open_kept, kept, arith)
step_sound h w c BlockClose earlier kept sound =
    search (close_sound, caller_kept, kept, close_kept, arith)
step_sound h w c BlockCommit earlier kept sound =
    search (close_sound, caller_kept, kept, block_commit_kept, arith)
step_sound h w c (Write word value) earlier kept sound =
    search (by_same, write_own_sound, write_kept, kept, write_other_sound, arith)

-- in a well-formed log each word is so
pub well_formed_sound : (h : Header) (w : ℕ) (earlier : List Entry) → WellFormed h earlier
    → Sound h w earlier
well_formed_sound h w [] wf = record { free = λ none. refl; held = λ d low holding. cc }
well_formed_sound h w (e ∷ earlier) wf = step_sound h w e.caller e.kind earlier wf.0
    (well_formed_sound h w earlier wf.1)

-- an open block stands in an open call
abbrev pub BlockInCall : ℕ → List Entry → Type 0
BlockInCall c earlier = has_block c earlier ≡ true → is_some (open_call c earlier) ≡ true

is_some_of : {A : Type 0} (o : Option A) → is_none o ≡ false → is_some o ≡ true
is_some_of o e = search arith

-- an open block stands in a call, with one more entry of its caller
own_in_call : (h : Header) (c : ℕ) (kind : Kind) (earlier : List Entry)
    → broken_rule h earlier (entry c kind) ≡ None
    → BlockInCall c earlier → BlockInCall c (entry c kind ∷ earlier)
own_in_call h c kind earlier kept so = search
    (is_some, own_answer, never, all_kept, no_answer, open_call-quiet, is_some_of, arith)

pub block_in_call : (h : Header) (c : ℕ) (earlier : List Entry) → WellFormed h earlier
    → BlockInCall c earlier
block_in_call h c [] wf = λ inside. cc
block_in_call h c (e ∷ earlier) wf = step (block_in_call h c earlier wf.1)
  where
    step : BlockInCall c earlier → BlockInCall c (e ∷ earlier)
    step so = search (by_same, own_in_call, is_some, other_answer, arith)

-- with no call open, each word has the value logged last
pub words_at_rest : (h : Header) (w : ℕ) (earlier : List Entry) → WellFormed h earlier
    → is_call_open h earlier ≡ false
    → ended_value (ended_effects earlier) w ≡ last_logged w earlier
words_at_rest h w earlier wf rest = (well_formed_sound h w earlier wf).free (λ d low.
    outside_holds (has_block d earlier) (wrote d w earlier)
    (no_block d (has_block d earlier) refl
    (none_of (λ c. is_some (open_call c earlier)) 0 h.callers d rest (omega arith) (omega arith))))
  where
    no_block : (d : ℕ) (b : Bool) → has_block d earlier ≡ b → is_some (open_call d earlier) ≡ false
        → has_block d earlier ≡ false
    no_block d true e none = absurd (never none (block_in_call h d earlier wf e))
    no_block d false e none = e
