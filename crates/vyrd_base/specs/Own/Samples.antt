-- A queue whose order is checked, as a text and as it is written, and states of it.
use Rattle.std.specs.Prelude.{ℕ, List, [], ◌∷◌, codes, Some, None}
use Rattle.vyrd_base.specs.Amounts.{Amounts}
use Rattle.vyrd_base.specs.States.{State}
use Rattle.vyrd_base.specs.declared.own.op.Op.TheVariants.{Plus, Minus, Equal, Above, And}
use Rattle.vyrd_base.specs.Own.Expressions.{Expr, number, at, shown, first, size}
use Rattle.vyrd_base.specs.Own.Expressions.{infix_of, choice, most}
use Rattle.vyrd_base.specs.Own.Programs.{of_shown, append, drop_first, Method, Written}

-- a queue whose elements stand in slots
abbrev pub queue_text : List (List ℕ)
queue_text = codes "# elements stand in slots"
    ∷ codes "part 2"
    ∷ codes "  shows w1 (if (w0 == 1) then 1 else 0)"
    ∷ codes "list waiting"
    ∷ codes ""
    ∷ codes "method enqueue x"
    ∷ codes "  allow (reply == 1)"
    ∷ codes "    append waiting x"
    ∷ codes "    set [x] ([x] + 1)"
    ∷ codes "method dequeue"
    ∷ codes "  let front (first waiting)"
    ∷ codes "  answer (if ((length waiting) == 0) then 0 else none)"
    ∷ codes "  allow (((length waiting) > 0) and (reply == (front + 1)))"
    ∷ codes "    drop first waiting"
    ∷ codes "    set [front] ([front] - 1)"
    ∷ []

-- a specification with these lists, whose parts have two words
abbrev pub with_methods : List (List ℕ) → List (Expr × Expr) → List Method → Written
with_methods lists shows methods = record {
  constant_names = [];
  constants = [];
  register_names = [];
  registers = [];
  list_names = lists;
  lists = [] ∷ [];
  hidden = [];
  words = 2;
  shows = shows;
  methods = methods;
}

-- `(a == b)`
abbrev pub same : Expr → Expr → Expr
same a b = infix_of Equal a b

-- `method enqueue x`
--   `allow (reply == 1)`
--     `append waiting x`
--     `set [x] ([x] + 1)`
abbrev pub enqueue : Method
enqueue = record {
  name = codes "enqueue";
  names = codes "x" ∷ [];
  arity = 1;
  lets = [];
  answer = None;
  cases = record {
    allow = same (at 1) (number 1);
    changes = append 0 (at 0) ∷ of_shown (at 0) (infix_of Plus (shown (at 0)) (number 1)) ∷ [];
  }
      ∷ [];
}

-- `method dequeue`
--   `let front (first waiting)`
--   `answer (if ((length waiting) == 0) then 0 else none)`
--   `allow (((length waiting) > 0) and (reply == (front + 1)))`
--     `drop first waiting`
--     `set [front] ([front] - 1)`
abbrev pub dequeue : Method
dequeue = record {
  name = codes "dequeue";
  names = codes "front" ∷ [];
  arity = 0;
  lets = first 0 ∷ [];
  answer = Some (choice (same (size 0) (number 0)) (number 0) (number most));
  cases = record {
    allow = infix_of And (infix_of Above (size 0) (number 0))
        (same (at 1) (infix_of Plus (at 0) (number 1)));
    changes = drop_first 0 ∷ of_shown (at 0) (infix_of Minus (shown (at 0)) (number 1)) ∷ [];
  }
      ∷ [];
}

-- `shows w1 (if (w0 == 1) then 1 else 0)`
abbrev pub queue : Written
queue = with_methods (codes "waiting" ∷ [])
    ((at 2, choice (same (at 1) (number 1)) (number 1) (number 0)) ∷ []) (enqueue ∷ dequeue ∷ [])

-- a queue that shows these amounts and has these elements
abbrev pub queued : Amounts → List ℕ → State
queued amounts elements =
    record { shown = amounts; hidden = []; registers = []; lists = elements ∷ [] }
