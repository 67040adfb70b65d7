-- What the rows of statements leave is covered and stacked.
use Rattle.std.proofs.Common.{◌≡◌, inl, inr, ℕ, zero, suc, ◌==◌, Bool, true, false, cond, List, [], ◌∷◌, ◌++◌, drop, length, find, Option, Some, None, Result, Ok, Err, slice_get, refl, sym, ap, subst}
use Rattle.core_tree.specs.declared.node.Node.{Node}
use Rattle.core_tree.specs.Rows.{Has}
use Rattle.core_tree.specs.Typed.{CoreTrees, ValueNode, sort_of}
use Rattle.ref_cells.specs.declared.cells.Reason.{Reason}
use Rattle.ref_cells.specs.declared.cells.Reason.TheVariants.{Unset as UnsetUse, Mismatch}
use Rattle.ref_cells.specs.declared.cells.Cell.{Cell}
use Rattle.ref_cells.specs.declared.cells.Value.{Value}
use Rattle.ref_cells.specs.declared.instance.Instance.{Instance}
use Rattle.ref_elements.specs.Runs.{◌>>=◌}
use Rattle.ref_state.specs.declared.items.Item.{Item}
use Rattle.ref_state.specs.declared.items.Item.TheVariants.{Do, Wait, Library, Result as Returned}
use Rattle.ref_state.specs.declared.frames.Frame.{Frame}
use Rattle.ref_state.specs.Changes.{Blocks, Change}
use Rattle.ref_state.specs.Items.{replaced}
use Rattle.ref_state.specs.Values.{cell_of, value_in}
use Rattle.ref_values.specs.Values.{is_true, lacks}
use Rattle.ref_blocks.specs.declared.block.Block.TheVariants.{Own, Part}
use Rattle.ref_blocks.specs.Ways.{kind_at, children_at}
use Rattle.ref_blocks.specs.Blocks.{entered, left}
use Rattle.ref_statements.specs.Rows.{Move, goes_on, is_done}
use Rattle.ref_statements.specs.Statements.{waits, does_part, is_over, does_branch, branch, parts_left, if_row, turns, turns_by, asks, while_row, do_while_row, for_asked, for_part, for_row, returns, return_row, opened}
use Rattle.covering_laws.specs.covered_memory.Covered.{MemoryIn, Leaves}
use Rattle.covering_laws.specs.covered_state.World.{World, trees_of, sets_of}
use Rattle.covering_laws.specs.covered_state.Items.{Each, IsOwned, ReturnedIn, ItemIn}
use Rattle.covering_laws.proofs.covered_state.Stays.{each_append}
use Rattle.covered_runs.proofs.covered_steps.covered_values.Operands.{ok_one, err_ok, went}
use Rattle.covered_runs.specs.covered_steps.Steps.{NoneBare}
use Rattle.covered_runs.proofs.covered_steps.Steps.{each_drop}
use Rattle.covered_runs.specs.covered_steps.covered_statements.Stacked.{IsBranch, GivesTo, GivesBelow, NodeStands, PendingOn, Stacked}
use Rattle.covered_runs.specs.covered_steps.covered_statements.Runnable.{IsRunnable}
use Rattle.covered_runs.proofs.covered_steps.covered_statements.Plain.{is_plain, plain_above}
use Rattle.covered_runs.proofs.covered_steps.covered_statements.Ways.{child_owned, children_owned}
use Rattle.covered_runs.proofs.covered_steps.covered_statements.Stacking.{choose_plain, convert_plain, plain_wait, plain_gives}
use Rattle.covered_runs.proofs.covered_steps.covered_statements.Kept.{Keeps, keeps_same, keeps_then, keeps_left, keeps_entered, keeps_parts_left}

-- a node whose item is on top of these items
pub record IsHere (world : World) (memory : List Instance) (f : Frame) (n : ℕ) (items : List Item) : Type 0 where
  pub bare : NoneBare world memory
  pub covered : MemoryIn (sets_of world) memory
  pub rest_is : drop 1 f.items ≡ items
  pub owned : IsOwned world f.function n
  pub own : Each (ItemIn world memory f.function) f.items
  pub below : Each (ItemIn world memory f.function) items
  pub stands : NodeStands (trees_of world).nodes n items
  pub whole : Stacked (trees_of world).nodes (PendingOn world memory) f.items
  pub under : Stacked (trees_of world).nodes (PendingOn world memory) items

-- a change leaves the memory covered, and items that are covered and stacked
pub record Fits (world : World) (memory : List Instance) (f : Frame) (change : Change) : Type 0 where
  pub leaves : Leaves (sets_of world) memory change.blocks.memory
  pub bare : NoneBare world change.blocks.memory
  pub items : Each (ItemIn world memory f.function) (replaced change.off change.on f.items)
  pub stacked : Stacked (trees_of world).nodes (PendingOn world memory) (replaced change.off change.on f.items)

abbrev pub Moves : World → List Instance → Frame → Move → Type 0
Moves world memory f move = (change : Change) → move ≡ Ok change → Fits world memory f change

pub stacked_drop : (nodes : List Node) (pend : ℕ → ℕ → List Value → List Item → Type 0) (k : ℕ) (items : List Item) → Stacked nodes pend items → Stacked nodes pend (drop k items)
stacked_drop nodes pend zero items h = h
stacked_drop nodes pend (suc k) [] h = tt
stacked_drop nodes pend (suc k) (item ∷ rest) h = stacked_drop nodes pend k rest h.2

-- a branch is a child
branch_has : (children : List ℕ) (x : ℕ) → IsBranch children x → Has children x
branch_has (c ∷ a ∷ b ∷ []) x (inl first) = (1, ap (λ (k : ℕ). Some k) (sym first))
branch_has (c ∷ a ∷ b ∷ []) x (inr second) = (2, ap (λ (k : ℕ). Some k) (sym second))
branch_has [] x h = absurd h
branch_has (c ∷ []) x h = absurd h
branch_has (c ∷ a ∷ []) x h = absurd h
branch_has (c ∷ a ∷ b ∷ d ∷ more) x h = absurd h

each_branch : (P : ℕ → Type 0) (b : Bool) (cs : List ℕ) → Each P cs → Each P (branch b cs)
each_branch P true (s ∷ rest) h = (h.0, tt)
each_branch P false (s ∷ o ∷ rest) h = (h.1.0, tt)
each_branch P true [] h = tt
each_branch P false [] h = tt
each_branch P false (s ∷ []) h = tt

module _ (world : World) (runs : IsRunnable world) (memory : List Instance) (f : Frame) (n : ℕ) (items : List Item) (here : IsHere world memory f n items) where
  abbrev u : CoreTrees
  u = trees_of world

  abbrev IsChildOf : ℕ → Type 0
  IsChildOf c = Has (children_at (trees_of world).nodes n) c

  pub fails : (reason : Reason) → Moves world memory f (Err reason)
  fails reason change is = absurd (err_ok is)

  pub then_moves : {A : Type 0} (r : Result A Reason) (k : A → Move) → ((x : A) → Moves world memory f (k x)) → Moves world memory f (r >>= k)
  then_moves r k each change is = let w = went r k change is in each w.0 change w.2

  -- the top item goes, and others come
  pub goes : (s : Blocks) (on : List Item) → Keeps world memory s.memory → Each (ItemIn world memory f.function) on → Stacked u.nodes (PendingOn world memory) (on ++ items) → Moves world memory f (goes_on s on)
  goes s on keeps h g change is =
      subst (Fits world memory f) (ok_one is)
      (record {
        leaves = (keeps here.covered).0;
        bare = (keeps here.covered).1 here.bare;
        items = subst (λ (xs : List Item). Each (ItemIn world memory f.function) (on ++ xs)) (sym here.rest_is) (each_append (ItemIn world memory f.function) on items h here.below);
        stacked = subst (λ (xs : List Item). Stacked u.nodes (PendingOn world memory) (on ++ xs)) (sym here.rest_is) g;
      })

  pub ends : (s : Blocks) → Keeps world memory s.memory → Moves world memory f (is_done s)
  ends s keeps = goes s [] keeps tt here.under

  -- all of the frame's items give way to a value
  pub gives_back : (s : Blocks) (value : Value) → Keeps world memory s.memory → ReturnedIn world memory f.function value → Moves world memory f (returns f.items s value)
  gives_back s value keeps h change is =
      subst (Fits world memory f) (ok_one is)
      (record {
        leaves = (keeps here.covered).0;
        bare = (keeps here.covered).1 here.bare;
        items = (h, each_drop (ItemIn world memory f.function) (length f.items) f.items here.own);
        stacked = (tt, tt, stacked_drop u.nodes (PendingOn world memory) (length f.items) f.items here.whole);
      })

  pub returned : (children : List ℕ) (values : List (ℕ × Value)) (s : Blocks) → Keeps world memory s.memory → ((v : ℕ) → children ≡ v ∷ [] → ReturnedIn world memory f.function (value_in values v))
      → Moves world memory f (return_row u f.items s children values)
  returned (v ∷ []) values s keeps h change is = by (lacks u values (v ∷ [])) is
    where
      by : (b : Bool) → (let m : Move = cond b (Err UnsetUse) (returns f.items s (value_in values v)) in m ≡ Ok change) → Fits world memory f change
      by true e = absurd (err_ok e)
      by false e = gives_back s (value_in values v) keeps (h v refl) change e
  returned [] values s keeps h change is = absurd (err_ok is)
  returned (v ∷ w ∷ more) values s keeps h change is = absurd (err_ok is)

  module _ (plain : is_plain (kind_at u.nodes n) ≡ true) where
    pub over : (s : Blocks) → Keeps world memory s.memory → Moves world memory f (is_over u s n)
    over s keeps = ends (left u (Own n) s) (keeps_then world memory s.memory (left u (Own n) s).memory keeps (keeps_left world runs (Own n) s))

    pub waiting : (s : Blocks) (ops : List ℕ) → Keeps world memory s.memory → Each IsChildOf ops → Moves world memory f (goes_on s (waits n ops ∷ []))
    waiting s ops keeps h =
        goes s (Wait n ops [] ∷ []) keeps ((here.owned, children_owned world runs f.function n here.owned ops h, tt), tt)
        (plain_wait u.nodes n ops [] plain h, here.stands, here.under)

    -- a child is done next, in a block of its own
    pub part : (s : Blocks) (ops : List ℕ) (p : ℕ) → Keeps world memory s.memory → Each IsChildOf ops → IsChildOf p → Moves world memory f (does_part u s n ops p)
    part s ops p keeps h has =
        goes (entered u (Part p) s) (Do p ∷ Wait n ops [] ∷ []) (keeps_then world memory s.memory (entered u (Part p) s).memory keeps (keeps_entered world runs (Part p) s))
        (child_owned world runs f.function n p here.owned has, ((here.owned, children_owned world runs f.function n here.owned ops h, tt), tt))
        (tt, record { gives = plain_gives u.nodes n ops [] p plain; parent = λ value. has }, (plain_wait u.nodes n ops [] plain h, here.stands, here.under))

    -- what a label stands before is done in its place
    pub labelled : (s : Blocks) (p : ℕ) → Keeps world memory s.memory → IsChildOf p → (sort_of (kind_at u.nodes p) ≡ ValueNode → ⊥) → Moves world memory f (goes_on s (Do p ∷ []))
    labelled s p keeps has statement =
        goes s (Do p ∷ []) keeps (child_owned world runs f.function n p here.owned has, tt)
        (tt, record { gives = gives items here.stands.gives; parent = λ value. absurd (statement value) }, here.under)
      where
        of_plain : (m : ℕ) (left : List ℕ) (values : List (ℕ × Value)) → GivesTo u.nodes m left values n → GivesTo u.nodes m left values p
        of_plain m left values g = record {
          choice = λ is none. absurd (choose_plain u.nodes m (plain_above u runs.stands.rows m n plain (branch_has (children_at u.nodes m) n (g.choice is none))) is);
          conversion = λ is. absurd (convert_plain u.nodes m (plain_above u runs.stands.rows m n plain (0, ap (λ (cs : List ℕ). slice_get cs 0) (g.conversion is).0)) is);
        }

        gives : (below : List Item) → GivesBelow u.nodes n below → GivesBelow u.nodes p below
        gives [] g = tt
        gives (Do m ∷ rest) g = tt
        gives (Wait m left values ∷ rest) g = of_plain m left values g
        gives (Library m function arguments ∷ rest) g = tt
        gives (Returned v ∷ rest) g = tt

    -- If

    does_one : (s : Blocks) (parts : List ℕ) → Keeps world memory s.memory → Each IsChildOf parts → Moves world memory f (does_branch u s n parts)
    does_one s [] keeps h = over s keeps
    does_one s (p ∷ rest) keeps h = part s [] p keeps tt h.0

    pub if_moves : (s : Blocks) (children : List ℕ) (values : List (ℕ × Value)) → Keeps world memory s.memory → Each IsChildOf children → Moves world memory f (if_row u s n children values)
    if_moves s (c ∷ branches) [] keeps h =
        over (parts_left u branches s) (keeps_then world memory s.memory (parts_left u branches s).memory keeps (keeps_parts_left world runs branches s))
    if_moves s (c ∷ branches) (v ∷ values) keeps h =
        then_moves (is_true (cell_of v.1)) (λ b. does_branch u s n (branch b branches))
        (λ b. does_one s (branch b branches) keeps (each_branch IsChildOf b branches h.1))
    if_moves s [] values keeps h = fails Mismatch

    -- loops

    turn : (s : Blocks) (ops : List ℕ) (p : ℕ) → Keeps world memory s.memory → Each IsChildOf ops → IsChildOf p → (b : Bool) → Moves world memory f (turns u s n ops p b)
    turn s ops p keeps h has true = part s ops p keeps h has
    turn s ops p keeps h has false = over s keeps

    turn_by : (s : Blocks) (ops : List ℕ) (p : ℕ) (cell : Cell) → Keeps world memory s.memory → Each IsChildOf ops → IsChildOf p → Moves world memory f (turns_by u s n ops p cell)
    turn_by s ops p cell keeps h has = then_moves (is_true cell) (λ b. turns u s n ops p b) (turn s ops p keeps h has)

    asks_for : (s : Blocks) (p c : ℕ) → Keeps world memory s.memory → IsChildOf c → Moves world memory f (asks u s n p c)
    asks_for s p c keeps has = waiting (left u (Part p) s) (c ∷ []) (keeps_then world memory s.memory (left u (Part p) s).memory keeps (keeps_left world runs (Part p) s)) (has, tt)

    pub while_moves : (s : Blocks) (children : List ℕ) (values : List (ℕ × Value)) → Keeps world memory s.memory → Each IsChildOf children → Moves world memory f (while_row u s n children values)
    while_moves s (c ∷ p ∷ []) [] keeps h = asks_for s p c keeps h.0
    while_moves s (c ∷ p ∷ []) (v ∷ values) keeps h = turn_by s [] p (cell_of v.1) keeps tt h.1.0
    while_moves s children values keeps h = fails Mismatch

    pub do_while_moves : (s : Blocks) (children : List ℕ) (values : List (ℕ × Value)) → Keeps world memory s.memory → Each IsChildOf children → Moves world memory f (do_while_row u s n children values)
    do_while_moves s (p ∷ c ∷ []) (v ∷ values) keeps h = turn_by s (c ∷ []) p (cell_of v.1) keeps (h.1.0, tt) h.0
    do_while_moves s children values keeps h = fails Mismatch

    asked : (s : Blocks) (c : ℕ) (after : List ℕ) (p : ℕ) (o : Option (ℕ × Value)) → Keeps world memory s.memory → IsChildOf c → Each IsChildOf after → IsChildOf p → Moves world memory f (for_asked u s n c after p o)
    asked s c after p None keeps first h has = asks_for s p c keeps first
    asked s c after p (Some v) keeps first h has = turn_by s after p (cell_of v.1) keeps h has

    part_moves : (s : Blocks) (condition after : List ℕ) (p : ℕ) (values : List (ℕ × Value)) → Keeps world memory s.memory → Each IsChildOf condition → Each IsChildOf after → IsChildOf p
        → Moves world memory f (for_part u s n condition after p values)
    part_moves s [] after p values keeps first h has = part (left u (Part p) s) after p (keeps_then world memory s.memory (left u (Part p) s).memory keeps (keeps_left world runs (Part p) s)) h has
    part_moves s (c ∷ rest) after p values keeps first h has = asked s c after p (find (λ v. v.0 == c) values) keeps first.0 h has

    pub for_moves : (s : Blocks) (condition after body : List ℕ) (values : List (ℕ × Value)) → Keeps world memory s.memory → Each IsChildOf condition → Each IsChildOf after → Each IsChildOf body
        → Moves world memory f (for_row u s n condition after body values)
    for_moves s condition after (p ∷ []) values keeps first h own = part_moves s condition after p values keeps first h own.0
    for_moves s condition after [] values keeps first h own = fails Mismatch
    for_moves s condition after (p ∷ q ∷ more) values keeps first h own = fails Mismatch

    pub opened_keeps : (b : Bool) (s : Blocks) → Keeps world s.memory (opened u n b s).memory
    opened_keeps true s = keeps_entered world runs (Own n) s
    opened_keeps false s = keeps_same world s.memory
