-- What stands under the operands of a node stands under the node.
use Rattle.std.proofs.Common.{◌≡◌, ℕ, zero, suc, List, Option, Some, None, slice_get, refl, subst}
use Rattle.c_types.specs.Table.{Table, type_of}
use Rattle.core_tree.specs.declared.node.Node.{Node}
use Rattle.core_tree.specs.Typed.{CoreTrees}
use Rattle.core_tree.specs.Rows.{RowOf}
use Rattle.core_tree.specs.Range.{IsChild, Under, here, below, child_in}
use Rattle.c_consts.specs.Nodes.{AreRows, AreRowsUnder, RowsUnder, IsConstantKind, bare}
use Rattle.c_consts.specs.Answer.{form_of}
use Rattle.c_consts.specs.Spine.{first_in, first_operand, Leads, HasTwo, HasThree}
use Rattle.c_consts.proofs.Climb.{operand_child}

-- one step further up
pub under_child : (u : CoreTrees) (i j n : ℕ) → IsChild u i j → Under u j n → Under u i n
under_child u i j n child here = below here child
under_child u i j n child (below up last) = below (under_child u i j _ child up) last

-- under which node another one stands is said by the nodes alone
pub under_between : (u v : CoreTrees) → u.nodes ≡ v.nodes → (i n : ℕ) → Under u i n → Under v i n
under_between u v same i n here = here
under_between u v same i n (below {parent = p} up last) =
    below (under_between u v same i p up) (last.0, subst (λ (nodes : List Node). child_in (slice_get nodes p) last.0 ≡ Some n) same last.1)

-- the rows of the nodes under one of a unit
pub rows_of : (u : CoreTrees) (i : ℕ) → ((j : ℕ) (m : Node) → Under u i j → slice_get u.nodes j ≡ Some m → IsConstantKind m.kind → RowOf (bare u.types u.nodes) m.kind (type_of u.types m.ty.0) m.children) → RowsUnder u.types u.nodes i
rows_of u i rows = λ n node up at of. rows n node (under_between (bare u.types u.nodes) u refl i n up) at of

module _ (types : Table) (nodes : List Node) where
  -- where all nodes stand in their rows, those under one do
  pub rows_all : (i : ℕ) → AreRows types nodes → AreRowsUnder types nodes i
  rows_all i rows = record { order = rows.order; rows = λ n node up at of. rows.rows n node at of }

  pub rows_child : (i j : ℕ) → IsChild (bare types nodes) i j → AreRowsUnder types nodes i → AreRowsUnder types nodes j
  rows_child i j child rows = record {
    order = rows.order;
    rows = λ n node up at of. rows.rows n node (under_child (bare types nodes) i j n child up) at of;
  }

  child_here : (i k c : ℕ) (n : Node) → slice_get nodes i ≡ Some n → slice_get n.children k ≡ Some c → IsChild (bare types nodes) i c
  child_here i k c n at e = (k, rw at e)

  first_child_in : (i a : ℕ) (o : Option Node) → slice_get nodes i ≡ o → first_in types o ≡ Some a → IsChild (bare types nodes) i a
  first_child_in i a None at e = cc
  first_child_in i a (Some n) at e =
      let (more, children) = operand_child (form_of n.kind (type_of types n.ty.0)) n.children a e in
      child_here i 0 a n at (rw children refl)

  pub rows_first : (i a : ℕ) → first_operand types nodes i ≡ Some a → AreRowsUnder types nodes i → AreRowsUnder types nodes a
  rows_first i a e rows = rows_child i a (first_child_in i a (slice_get nodes i) refl e) rows

  pub rows_leads : (k i j : ℕ) → Leads types nodes i k j → AreRowsUnder types nodes i → AreRowsUnder types nodes j
  rows_leads zero i j e rows = subst (λ (q : ℕ). AreRowsUnder types nodes q) e rows
  rows_leads (suc k) i j (m, first, rest) rows = rows_leads k m j rest (rows_first i m first rows)

  pub rows_two : (i b : ℕ) → HasTwo nodes i b → AreRowsUnder types nodes i → AreRowsUnder types nodes b
  rows_two i b h rows = rows_child i b (child_here i 1 b h.node h.at (rw h.children refl)) rows

  pub rows_three : (i a b : ℕ) → HasThree nodes i a b → AreRowsUnder types nodes i → AreRowsUnder types nodes a × AreRowsUnder types nodes b
  rows_three i a b h rows = (rows_child i a (child_here i 1 a h.node h.at (rw h.children refl)) rows, rows_child i b (child_here i 2 b h.node h.at (rw h.children refl)) rows)
