-- What counts for an expression, by what counts for its parts.
use Rattle.vyrd_own.proofs.Prelude.{◌≡◌, ◌≢◌, ℕ, Bool, true, false, List, [], ◌∷◌, ◌++◌, map, refl}
use Rattle.vyrd_own.proofs.Prelude.{ap, ◌∙◌, sym, ◌⊎◌, inl, inr, if◌then◌else◌, map-append}
use Rattle.vyrd_own.proofs.Prelude.{append_assoc, State, Op, Expr, shown, hidden, least, greatest}
use Rattle.vyrd_own.proofs.Prelude.{negation, infix_of, choice, holds, value, Node, Worth, earlier}
use Rattle.vyrd_own.proofs.Prelude.{expr_at, counted, reads_of, worth_of, worths_in}
use Rattle.vyrd_own.specs.declared.node.Node.TheVariants as nodes
use Rattle.vyrd_own.specs.declared.reads.Reads.TheVariants as reads

-- what an expression is worth stands behind what its parts are worth
pub with_itself : (s : State) (values : List ℕ) (e : Expr) (parts : List Expr)
    (before found : List Worth) → counted s values e ≡ parts ++ e ∷ []
    → found ≡ before ++ map (worth_of s values) parts
    → found ++ worth_of s values e ∷ [] ≡ before ++ worths_in s values e
with_itself s values e parts before found all put =
    ap (λ xs. xs ++ worth_of s values e ∷ []) put
    ∙ append_assoc before (map (worth_of s values) parts) (worth_of s values e ∷ [])
    ∙ ap (λ xs. before ++ xs)
    (sym (map-append (worth_of s values) parts (e ∷ [])) ∙ ap (map (worth_of s values)) (sym all))

-- what two parts are worth, one behind the other
pub two_parts : (s : State) (values : List ℕ) (a b : Expr) (before middle found : List Worth)
    → middle ≡ before ++ worths_in s values a → found ≡ middle ++ worths_in s values b
    → found ≡ before ++ map (worth_of s values) (counted s values a ++ counted s values b)
two_parts s values a b before middle found first second =
    second
    ∙ ap (λ xs. xs ++ worths_in s values b) first
    ∙ append_assoc before (worths_in s values a) (worths_in s values b)
    ∙ ap (λ xs. before ++ xs)
    (sym (map-append (worth_of s values) (counted s values a) (counted s values b)))

-- the parts of the same expression
pub same_parts : (s : State) (values : List ℕ) (e same : Expr) (parts : List Expr) → e ≡ same
    → counted s values same ≡ parts ++ same ∷ [] → counted s values e ≡ parts ++ e ∷ []
same_parts s values e same parts is all = cc

-- a node that is no amount
pub reads_nothing : (s : State) (values : List ℕ) (exprs : List Expr) (node : Node)
    → ((a : ℕ) → node ≢ nodes.Shown a) → ((a : ℕ) → node ≢ nodes.Hidden a)
    → reads_of s values (expr_at exprs node) ≡ reads.Nothing
reads_nothing s values exprs (nodes.Number n) no-shown no-hidden = refl
reads_nothing s values exprs (nodes.At i) no-shown no-hidden = refl
reads_nothing s values exprs nodes.Count no-shown no-hidden = refl
reads_nothing s values exprs (nodes.Shown a) no-shown no-hidden = absurd (no-shown a refl)
reads_nothing s values exprs (nodes.Hidden a) no-shown no-hidden = absurd (no-hidden a refl)
reads_nothing s values exprs (nodes.Least a) no-shown no-hidden = refl
reads_nothing s values exprs (nodes.Greatest a) no-shown no-hidden = refl
reads_nothing s values exprs (nodes.First i) no-shown no-hidden = refl
reads_nothing s values exprs (nodes.Last i) no-shown no-hidden = refl
reads_nothing s values exprs (nodes.Size i) no-shown no-hidden = refl
reads_nothing s values exprs (nodes.Not a) no-shown no-hidden = refl
reads_nothing s values exprs (nodes.Infix op a b) no-shown no-hidden = refl
reads_nothing s values exprs (nodes.Choice test a b) no-shown no-hidden = refl

-- a node that has one part
abbrev pub HasPart : Node → ℕ → Type 0
HasPart node a = (node ≡ nodes.Shown a) ⊎ ((node ≡ nodes.Hidden a) ⊎ ((node ≡ nodes.Least a)
    ⊎ ((node ≡ nodes.Greatest a) ⊎ (node ≡ nodes.Not a))))

-- a node that has none
pub record HasNoPart (node : Node) : Type 0 where
  pub no-shown : (a : ℕ) → node ≢ nodes.Shown a
  pub no-hidden : (a : ℕ) → node ≢ nodes.Hidden a
  pub no-least : (a : ℕ) → node ≢ nodes.Least a
  pub no-greatest : (a : ℕ) → node ≢ nodes.Greatest a
  pub no-not : (a : ℕ) → node ≢ nodes.Not a
  pub no-infix : (op : Op) (a b : ℕ) → node ≢ nodes.Infix op a b
  pub no-choice : (test a b : ℕ) → node ≢ nodes.Choice test a b

-- what counts for the expression of a node
module _ (s : State) (values : List ℕ) (exprs : List Expr) where
  alone : (node : Node) → HasNoPart node
      → counted s values (expr_at exprs node) ≡ expr_at exprs node ∷ []
  alone (nodes.Number n) has = refl
  alone (nodes.At i) has = refl
  alone nodes.Count has = refl
  alone (nodes.Shown a) has = absurd (has.no-shown a refl)
  alone (nodes.Hidden a) has = absurd (has.no-hidden a refl)
  alone (nodes.Least a) has = absurd (has.no-least a refl)
  alone (nodes.Greatest a) has = absurd (has.no-greatest a refl)
  alone (nodes.First i) has = refl
  alone (nodes.Last i) has = refl
  alone (nodes.Size i) has = refl
  alone (nodes.Not a) has = absurd (has.no-not a refl)
  alone (nodes.Infix op a b) has = absurd (has.no-infix op a b refl)
  alone (nodes.Choice test a b) has = absurd (has.no-choice test a b refl)

  pub of_no_part : (e : Expr) (node : Node) → e ≡ expr_at exprs node → HasNoPart node
      → counted s values e ≡ e ∷ []
  of_no_part e node is has = same_parts s values e (expr_at exprs node) [] is (alone node has)

  pub of_one_part : (e part : Expr) (node : Node) (a : ℕ) → e ≡ expr_at exprs node
      → part ≡ earlier exprs a → HasPart node a
      → counted s values e ≡ counted s values part ++ e ∷ []
  of_one_part e part node a is there has = same_parts s values e (expr_at exprs node)
      (counted s values part) is (by_node has)
    where
      to : (f : Expr → Expr) → expr_at exprs node ≡ f (earlier exprs a)
          → counted s values (f (earlier exprs a))
          ≡ counted s values (earlier exprs a) ++ f (earlier exprs a) ∷ []
          → counted s values (expr_at exprs node)
          ≡ counted s values part ++ expr_at exprs node ∷ []
      to f same all = cc (same_parts s values _ _ (counted s values (earlier exprs a)) same all)

      by_node : HasPart node a
          → counted s values (expr_at exprs node)
          ≡ counted s values part ++ expr_at exprs node ∷ []
      by_node (inl n) = to shown (ap (expr_at exprs) n) refl
      by_node (inr (inl n)) = to hidden (ap (expr_at exprs) n) refl
      by_node (inr (inr (inl n))) = to least (ap (expr_at exprs) n) refl
      by_node (inr (inr (inr (inl n)))) = to greatest (ap (expr_at exprs) n) refl
      by_node (inr (inr (inr (inr n)))) = to negation (ap (expr_at exprs) n) refl

  pub of_infix : (e left right : Expr) (node : Node) (op : Op) (a b : ℕ)
      → e ≡ expr_at exprs node → left ≡ earlier exprs a → right ≡ earlier exprs b
      → node ≡ nodes.Infix op a b
      → counted s values e ≡ counted s values left ++ counted s values right ++ e ∷ []
  of_infix e left right node op a b is there also node-is = same_parts s values e
      (infix_of op left right) (counted s values left ++ counted s values right) (cc) refl

  -- a choice, with the part that its test leads to
  pub of_choice : (e asked part : Expr) (node : Node) (test a b chosen : ℕ)
      → e ≡ expr_at exprs node → asked ≡ earlier exprs test → part ≡ earlier exprs chosen
      → chosen ≡ (if holds (value s values asked) then a else b) → node ≡ nodes.Choice test a b
      → counted s values e ≡ counted s values asked ++ counted s values part ++ e ∷ []
  of_choice e asked part node test a b chosen is there also leads node-is = same_parts s values e
      (choice asked (earlier exprs a) (earlier exprs b))
      (counted s values asked ++ counted s values part) (cc)
      (cc (rest (holds (value s values asked))))
    where
      rest : (says : Bool) → (if says then counted s values (earlier exprs a)
          else counted s values (earlier exprs b))
          ≡ counted s values (earlier exprs (if says then a else b))
      rest true = refl
      rest false = refl
