-- The verdict by its parts: a fault in the front, a break of shape, an open call at `end`, the
-- text, and acceptance. The starting words stand for a state, so that nothing is wrong with them.
use Rattle.vyrd_base.proofs.Prelude
use Prelude.{◌≡◌, ℕ, ◌+◌, Bool, true, false, cond, List, [], length, Option, Some, None, refl, ap}
use Prelude.{◌∙◌, sym, arith, ◌==◌, option_map, unwrap_or, option_or, then_some, Entry, StartWord}
use Prelude.{Rule, CallOpen, End, Text, Verdict, Malformed, newest_first, State, state_at_start}
use Prelude.{front, first_break, line_of, first_fault, shape_verdict, start_verdict, begun_verdict}
use Prelude.{verdict_so_far, is_call_open, end_verdict, accepted, verdict, verdict_at, Rules}
use Rattle.vyrd_base.specs.declared.verdict.Stop.{Stop}
use Rattle.vyrd_base.proofs.FrontLaws.{front_whole}

-- starting words that stand for a state aren't a fault
pub sound_start : (r : Rules) (starting : List StartWord) (state : State)
    → state_at_start r starting ≡ Some state
    → start_verdict r starting ≡ None
sound_start r starting state stands = cc

sound_begun : (r : Rules) (starting : List StartWord) (entries : List Entry)
    → start_verdict r starting ≡ None
    → begun_verdict r starting entries ≡ None
sound_begun r starting entries sound = search arith

-- without starting words the lines are counted from 2
pub line_without : (n : ℕ) → line_of [] n ≡ n + 2
line_without n = omega arith

-- a verdict that stands is the verdict wherever the text stops
pub verdict_standing : (r : Rules) (starting : List StartWord) (entries : List Entry) (stop : Stop)
    (v : Verdict)
    → verdict_so_far r starting entries ≡ Some v → v ≡ verdict_at r starting entries stop
unfolding verdict_at verdict
verdict_standing r starting entries stop v stands = search arith

-- what stands so far, by a fault in the front and a break of shape
so_far_by : (r : Rules) (starting : List StartWord) (entries kept : List Entry)
    → start_verdict r starting ≡ None → kept ≡ front r.header entries
    → verdict_so_far r starting entries
    ≡ option_or (first_fault r starting kept) (shape_verdict r.header starting entries)
unfolding verdict_so_far
so_far_by r starting entries kept sound is_front = search (front, sound_begun, arith)

-- of entries that keep all rules
pub so_far_kept : (r : Rules) (starting : List StartWord) (entries : List Entry)
    → start_verdict r starting ≡ None → first_break r.header entries ≡ None
    → verdict_so_far r starting entries ≡ first_fault r starting entries
unfolding shape_verdict
so_far_kept r starting entries sound kept =
    so_far_by r starting entries entries sound (sym (front_whole r.header entries kept))
    ∙ ap (λ o. option_or (first_fault r starting entries)
    (option_map (Malformed (line_of starting (length (front r.header entries)))) o)) kept
    ∙ or_none (first_fault r starting entries)
  where
    or_none : (o : Option Verdict) → option_or o None ≡ o
    or_none None = refl
    or_none (Some v) = refl

-- a log without entries has no fault
pub no_first_fault : (r : Rules) (starting : List StartWord) → first_fault r starting [] ≡ None
unfolding first_fault
no_first_fault r starting = refl

pub so_far_fault : (r : Rules) (starting : List StartWord) (entries kept : List Entry)
    (v : Verdict) → start_verdict r starting ≡ None
    → kept ≡ front r.header entries → first_fault r starting kept ≡ Some v
    → verdict_so_far r starting entries ≡ Some v
so_far_fault r starting entries kept v sound is_front fault =
    cc (so_far_by r starting entries kept sound is_front)

pub so_far_break : (r : Rules) (starting : List StartWord) (entries kept : List Entry) (n : ℕ)
    (rule : Rule) → start_verdict r starting ≡ None
    → kept ≡ front r.header entries → length kept ≡ n → first_fault r starting kept ≡ None
    → first_break r.header entries ≡ Some rule
    → verdict_so_far r starting entries ≡ Some (Malformed (line_of starting n) rule)
unfolding shape_verdict
so_far_break r starting entries kept n rule sound is_front long none broken =
    cc (so_far_by r starting entries kept sound is_front)

pub so_far_none : (r : Rules) (starting : List StartWord) (entries kept : List Entry)
    → start_verdict r starting ≡ None
    → kept ≡ front r.header entries → first_fault r starting kept ≡ None
    → first_break r.header entries ≡ None → verdict_so_far r starting entries ≡ None
unfolding shape_verdict
so_far_none r starting entries kept sound is_front none kept_all =
    cc (so_far_by r starting entries kept sound is_front)

-- what `end` would say, by whether a call is open
abbrev open_fault : List StartWord → List Entry → Bool → Option Verdict
open_fault starting entries is_open =
    then_some is_open (Malformed (line_of starting (length entries)) CallOpen)

end_by : (r : Rules) (starting : List StartWord) (entries : List Entry) (is_open : Bool)
    → start_verdict r starting ≡ None
    → is_call_open r.header (newest_first entries) ≡ is_open
    → end_verdict r starting entries ≡ open_fault starting entries is_open
unfolding end_verdict
end_by r starting entries is_open sound opened = search arith

-- the verdict at `end`, by what stands so far and whether a call is open
abbrev end_answer : List StartWord → List Entry → Option Verdict → Bool → Verdict
end_answer starting entries so_far is_open =
    unwrap_or (option_or so_far (open_fault starting entries is_open)) (accepted entries)

at_end : (r : Rules) (starting : List StartWord) (entries : List Entry) (is_open : Bool)
    → start_verdict r starting ≡ None
    → verdict_so_far r starting entries ≡ None → is_call_open r.header (newest_first entries)
    ≡ is_open
    → end_answer starting entries None is_open ≡ verdict_at r starting entries End
unfolding verdict_at verdict
at_end r starting entries is_open sound none opened = search (end_by, arith)

pub at_end_open : (r : Rules) (starting : List StartWord) (entries : List Entry)
    → start_verdict r starting ≡ None
    → verdict_so_far r starting entries ≡ None → is_call_open r.header (newest_first entries) ≡ true
    → Malformed (line_of starting (length entries)) CallOpen ≡ verdict_at r starting entries End
at_end_open r starting entries sound none is_open = at_end r _ _ true sound none is_open

pub at_end_accepted : (r : Rules) (starting : List StartWord) (entries : List Entry)
    → start_verdict r starting ≡ None
    → verdict_so_far r starting entries ≡ None → is_call_open r.header (newest_first entries)
    ≡ false
    → accepted entries ≡ verdict_at r starting entries End
at_end_accepted r starting entries sound none closed = at_end r _ _ false sound none closed

-- the verdict at a fault of text, by what stands so far, whether it comes after an `end`, and
-- whether a call is open
abbrev text_answer : List StartWord → List Entry → ℕ → Rule → Option Verdict → Bool → Bool → Verdict
text_answer starting entries line rule so_far behind is_open =
    unwrap_or (option_or so_far (cond behind (open_fault starting entries is_open) None))
    (Malformed line rule)

at_text : (r : Rules) (starting : List StartWord) (entries : List Entry) (line : ℕ) (rule : Rule)
    (behind is_open : Bool)
    → start_verdict r starting ≡ None → verdict_so_far r starting entries ≡ None
    → (line == line_of starting (length entries) + 1) ≡ behind
    → is_call_open r.header (newest_first entries) ≡ is_open
    → text_answer starting entries line rule None behind is_open
    ≡ verdict_at r starting entries (Text line rule)
unfolding verdict_at
at_text r starting entries line rule behind is_open sound none there opened = grind (arith, end_by)

pub at_text_open : (r : Rules) (starting : List StartWord) (entries : List Entry) (line : ℕ)
    (rule : Rule) → start_verdict r starting ≡ None
    → verdict_so_far r starting entries ≡ None
    → is_call_open r.header (newest_first entries) ≡ true
    → (line == line_of starting (length entries) + 1) ≡ true
    → Malformed (line_of starting (length entries)) CallOpen
    ≡ verdict_at r starting entries (Text line rule)
at_text_open r starting entries line rule sound none is_open behind =
    at_text r starting entries line rule true true sound none behind is_open

pub at_text_before : (r : Rules) (starting : List StartWord) (entries : List Entry) (line : ℕ)
    (rule : Rule) → start_verdict r starting ≡ None
    → verdict_so_far r starting entries ≡ None
    → (line == line_of starting (length entries) + 1) ≡ false
    → Malformed line rule ≡ verdict_at r starting entries (Text line rule)
at_text_before r starting entries line rule sound none before = at_text r _ _ _ _ false
    (is_call_open r.header (newest_first entries)) sound none before refl

pub at_text_closed : (r : Rules) (starting : List StartWord) (entries : List Entry) (line : ℕ)
    (rule : Rule) → start_verdict r starting ≡ None
    → verdict_so_far r starting entries ≡ None
    → is_call_open r.header (newest_first entries) ≡ false
    → Malformed line rule ≡ verdict_at r starting entries (Text line rule)
at_text_closed r starting entries line rule sound none closed = either
    (line == line_of starting (length _) + 1) ∙ at_text r _ _ _ _ _ false sound none refl closed
  where
    either : (b : Bool) → Malformed line rule ≡ text_answer starting entries line rule None b false
    either b = search arith
