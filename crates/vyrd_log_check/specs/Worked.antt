-- Specifications of the worked cases, as lines, and what stands behind them in a log.
use Rattle.std.specs.Prelude.{ℕ, List, [], ◌∷◌, ◌++◌, codes, replicate}
use Rattle.vyrd_base.specs.LogVerdicts.{log_answer}
use Rattle.vyrd_base.specs.Limits.{most_lines}

-- the text of these lines
abbrev pub text_of : List (List ℕ) → List ℕ
text_of [] = []
text_of (line ∷ lines) = line ++ 10 ∷ text_of lines

-- what is answered about these lines
abbrev pub answer_about : List (List ℕ) → List ℕ
answer_about lines = log_answer most_lines (text_of lines)

-- A queue whose elements stand in slots: the first word of a slot says whether it counts, and the
-- second is its element. What is logged behind it begins on line 15.
abbrev pub in_slots : List (List ℕ)
in_slots = codes "vyrd 3 own 4 2"
    ∷ codes "part 2"
    ∷ codes "  shows w1 (if (w0 == 1) then 1 else 0)"
    ∷ codes "list waiting"
    ∷ codes "method enqueue x"
    ∷ codes "  allow (reply == 1)"
    ∷ codes "    append waiting x"
    ∷ codes "    set [x] ([x] + 1)"
    ∷ codes "method dequeue"
    ∷ codes "  answer (if ((length waiting) == 0) then 0 else none)"
    ∷ codes "  allow (((length waiting) > 0) and (reply == ((first waiting) + 1)))"
    ∷ codes "    drop first waiting"
    ∷ codes "    set [(reply - 1)] ([(reply - 1)] - 1)"
    ∷ codes "log"
    ∷ []

-- 5 comes into the first slot and is seen by its first word
abbrev pub five_comes : List (List ℕ)
five_comes = codes "0 call enqueue 5"
    ∷ codes "0 write 1 5"
    ∷ codes "0 write 0 1"
    ∷ codes "0 commit"
    ∷ codes "0 return 1"
    ∷ []

-- somebody finds nothing there, and commits nothing
abbrev pub finds_nothing : List (List ℕ)
finds_nothing = codes "1 call dequeue" ∷ codes "1 return 0" ∷ []

-- 7 comes into the second slot by a block with its commit in the middle
abbrev pub seven_comes_in_a_block : List (List ℕ)
seven_comes_in_a_block = codes "1 call enqueue 7"
    ∷ codes "1 open"
    ∷ codes "1 write 2 1"
    ∷ codes "1 commit"
    ∷ codes "1 write 3 7"
    ∷ codes "1 close"
    ∷ codes "1 return 1"
    ∷ []

-- 5 leaves the first slot, with this reply
abbrev pub five_goes : List ℕ → List (List ℕ)
five_goes reply = codes "1 call dequeue"
    ∷ codes "# the slot is free from here on"
    ∷ codes "1 write 0 0"
    ∷ codes "1 commit"
    ∷ reply
    ∷ []

-- A counter in one word, with compare-and-set. What is logged behind it begins on line 10.
abbrev pub counter : List (List ℕ)
counter = codes "vyrd 3 own 1 2"
    ∷ codes "part 1"
    ∷ codes "  shows 0 w0"
    ∷ codes "method compare_and_set old new"
    ∷ codes "  answer (if ([0] == old) then none else 0)"
    ∷ codes "  allow (([0] == old) and (reply == 1))"
    ∷ codes "    set [0] new"
    ∷ codes "# the start is 5"
    ∷ codes "log"
    ∷ codes "start 0 5"
    ∷ []

-- A set of numbers whose replies alone are judged, with its least and its greatest element. What is
-- logged behind it begins on line 15.
abbrev pub ordered : List (List ℕ)
ordered = codes "vyrd 3 own 0 2"
    ∷ codes "let top 1000"
    ∷ codes "method add x"
    ∷ codes "  allow (reply == (1 - [x]))"
    ∷ codes "    set [x] 1"
    ∷ codes "method lowest"
    ∷ codes "  answer (least 0)"
    ∷ codes "method highest"
    ∷ codes "  answer (greatest top)"
    ∷ codes "method remove_all"
    ∷ codes "  allow (reply == count)"
    ∷ codes "    clear"
    ∷ codes "#"
    ∷ codes "log"
    ∷ []

-- 3 and 8 come
abbrev pub two_come : List (List ℕ)
two_come = codes "0 call add 8"
    ∷ codes "0 commit"
    ∷ codes "0 return 1"
    ∷ codes "0 call add 3"
    ∷ codes "0 commit"
    ∷ codes "0 return 1"
    ∷ []

-- a call, its commit and a return
abbrev pub committed : List ℕ → List ℕ → List (List ℕ)
committed call reply = call ∷ codes "0 commit" ∷ reply ∷ []

-- a call and a return without a commit
abbrev pub answered : List ℕ → List ℕ → List (List ℕ)
answered call reply = call ∷ reply ∷ []

abbrev pub end : List (List ℕ)
end = codes "end" ∷ []

-- a log whose specification begins with these lines
abbrev pub specified : List (List ℕ) → List (List ℕ)
specified lines = codes "vyrd 3 own 4 2" ∷ lines ++ end

-- a method whose answer is a number in so many brackets
abbrev pub nested : ℕ → List (List ℕ)
nested n = codes "method m"
    ∷ (codes "  answer " ++ replicate n 91 ++ codes "1" ++ replicate n 93)
    ∷ []
