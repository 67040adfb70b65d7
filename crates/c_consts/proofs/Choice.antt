-- A choice over what is found at its branches.
use Rattle.std.proofs.Common.{◌≡◌, ℕ, ℤ, Bool, true, false, not, ◌&&◌, if◌then◌else◌, List, [], ◌∷◌, Ok, Err, refl, sym, ap, subst}
use Rattle.c_types.specs.Table.{Table, type_of}
use Rattle.core_tree.specs.declared.node.Node.{Node}
use Rattle.core_tree.specs.declared.node.NodeKind.TheVariants.{Choose}
use Rattle.core_tree.specs.Typed.{IsInteger}
use Rattle.c_consts.specs.declared.fault.ConstFault.{ConstFault}
use Rattle.c_consts.specs.Nodes.{AreRowsUnder}
use Rattle.c_consts.specs.Answer.{Chosen, is_zero}
use Rattle.c_consts.specs.Spine.{HeldAt, StartsWith, HasThree, IsOfKind, IsAnswer, IsRest}
use Rattle.c_consts.proofs.Rest.{rest_choice, rest_choice_fails, rest_choice_other_fails}
use Rattle.c_consts.proofs.Rows.{branch_held}
use Rattle.c_consts.proofs.Finish.{integer_here, three_are}

module _ (types : Table) (nodes : List Node) (i a b : ℕ) (x : ℤ) (live first second : Bool) (rows : AreRowsUnder types nodes i) (kind : IsOfKind nodes i Choose) (start : StartsWith types nodes i x) (three : HasThree nodes i a b) (one_is : first ≡ (live && not (is_zero x))) (other_is : second ≡ (live && is_zero x)) where
  integer : IsInteger (type_of types kind.node.ty.0)
  integer = integer_here types nodes i kind.node kind.at Choose Chosen x kind (λ t. refl) start

  children : kind.node.children ≡ three.first ∷ a ∷ b ∷ []
  children = three_are types nodes i kind.node kind.at a b three

  pub choice_fails : (f : ConstFault) → IsAnswer types nodes a first (Err f) → IsRest types nodes i live x (Err f)
  choice_fails f one =
      rest_choice_fails types nodes i kind.node kind.at live x f three.first a b kind.is integer children (subst (λ (l : Bool). IsAnswer types nodes a l (Err f)) one_is one)

  pub choice_other_fails : (f : ConstFault) (y : ℤ) → IsAnswer types nodes a first (Ok y) → IsAnswer types nodes b second (Err f) → IsRest types nodes i live x (Err f)
  choice_other_fails f y one other =
      rest_choice_other_fails types nodes i kind.node kind.at live x f three.first a b y kind.is integer children (subst (λ (l : Bool). IsAnswer types nodes a l (Ok y)) one_is one) (subst (λ (l : Bool). IsAnswer types nodes b l (Err f)) other_is other)

  pub choice_chosen : (y z v : ℤ) → IsAnswer types nodes a first (Ok y) → IsAnswer types nodes b second (Ok z) → v ≡ (if is_zero x then z else y) → IsRest types nodes i live x (Ok v)
  choice_chosen y z v one other is =
      rest_choice types nodes i kind.node kind.at live x (Ok v) three.first a b y z kind.is integer children (subst (λ (l : Bool). IsAnswer types nodes a l (Ok y)) one_is one) (subst (λ (l : Bool). IsAnswer types nodes b l (Ok z)) other_is other) (ap Ok is)

  chosen_either : (t : Bool) (y z v : ℤ) → HeldAt types nodes i y → HeldAt types nodes i z → v ≡ (if t then z else y) → HeldAt types nodes i v
  chosen_either true y z v h k is = subst (λ (q : ℤ). HeldAt types nodes i q) (sym is) k
  chosen_either false y z v h k is = subst (λ (q : ℤ). HeldAt types nodes i q) (sym is) h

  pub choice_held : (y z v : ℤ) → HeldAt types nodes a y → HeldAt types nodes b z → v ≡ (if is_zero x then z else y) → HeldAt types nodes i v
  choice_held y z v h k is =
      let both = branch_held types nodes i three.first a b kind.node rows kind.at kind.is children in
      chosen_either (is_zero x) y z v (both.0 y h) (both.1 z k) is
