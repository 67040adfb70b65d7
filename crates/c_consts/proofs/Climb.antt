-- From the value of a node up to those of which it is a first operand.
use Rattle.std.proofs.Common.{arith, ◌≡◌, ℕ, zero, suc, ◌<◌, ◌+◌, ℤ, Bool, List, [], ◌∷◌, Option, Some, None, Result, Ok, Err, slice_get, slice_index, length, refl, sym, ap, ◌∙◌, subst}
use Rattle.c_types.specs.Trees.{Ctype, BoolType, IntegerType}
use Rattle.c_types.specs.Table.{Table, type_of}
use Rattle.core_tree.specs.declared.node.Node.{Node}
use Rattle.core_tree.specs.declared.node.NodeKind.{NodeKind}
use Rattle.core_tree.specs.declared.node.NodeKind.TheVariants.{Number, Choose, Convert, Arith}
use Rattle.c_consts.specs.declared.fault.ConstFault.{ConstFault}
use Rattle.c_consts.specs.Core.{Core, Cores, Of, NoCores, MoreCores, Stands, StandAll, InOrder}
use Rattle.c_consts.specs.Operators.{NoForm}
use Rattle.c_consts.specs.Answer.{Found, Value, Fails, Form, Written, Operated, Chosen, Converted, Formless, after, form_of, of_integer, rest_of, answer_of, answer, answers, located}
use Rattle.c_consts.specs.Spine.{operand_of, first_in, first_operand, Leads, last_in, last_by, IsAnswer, IsRest, IsClimbed}
use Rattle.c_consts.proofs.Trees.{stands_once, tree_of}
use Rattle.c_consts.proofs.Spine.{leads_below, leads_rest}
use Rattle.c_consts.proofs.Rest.{after_fails}

-- a node with a first operand is that operand and then the rest
after_first : (form : Form) (type : Ctype) (children : List ℕ) (a : ℕ) (d : Core) (cs : Cores) (live : Bool) → operand_of form children ≡ Some a → answer_of form type live (answer d ∷ answers cs) ≡ after 0 (answer d live) (λ x. rest_of form type live x (answers cs))
after_first (Written n) type children a d cs live e = cc
after_first Formless type children a d cs live e = cc
after_first (Operated op) type children a d cs live e = refl
after_first Chosen type children a d cs live e = refl
after_first Converted type children a d cs live e = refl

-- it has a child
pub operand_child : (form : Form) (children : List ℕ) (a : ℕ) → operand_of form children ≡ Some a → (more : List ℕ) × (children ≡ a ∷ more)
operand_child (Written n) children a e = cc
operand_child Formless children a e = cc
operand_child (Operated op) [] a e = cc
operand_child Chosen [] a e = cc
operand_child Converted [] a e = cc
operand_child (Operated op) (b ∷ more) a e = (more, let same : b ≡ a = cc in ap (λ (q : ℕ). q ∷ more) same)
operand_child Chosen (b ∷ more) a e = (more, let same : b ≡ a = cc in ap (λ (q : ℕ). q ∷ more) same)
operand_child Converted (b ∷ more) a e = (more, let same : b ≡ a = cc in ap (λ (q : ℕ). q ∷ more) same)

-- a node without a first operand is a number, or none of a constant's form
abbrev unformed : Form → Found
unformed (Written n) = Value n
unformed form = Fails NoForm []

answer_unformed : (form : Form) (type : Ctype) (live : Bool) (children : List ℕ) (os : List (Bool → Found)) → (children ≡ [] → os ≡ []) → operand_of form children ≡ None → answer_of form type live os ≡ unformed form
answer_unformed (Written n) type live children os none e = refl
answer_unformed Formless type live children os none e = refl
answer_unformed (Operated op) type live [] os none e = rw (none refl) refl
answer_unformed Chosen type live [] os none e = rw (none refl) refl
answer_unformed Converted type live [] os none e = rw (none refl) refl
answer_unformed (Operated op) type live (a ∷ more) os none e = cc
answer_unformed Chosen type live (a ∷ more) os none e = cc
answer_unformed Converted type live (a ∷ more) os none e = cc

unformed_integer : (form : Form) (type : Ctype) → unformed form ≡ Fails NoForm [] → unformed (of_integer type form) ≡ Fails NoForm []
unformed_integer form BoolType e = e
unformed_integer form (IntegerType size rank signed) e = e
unformed_integer form type e = refl

located_unformed : (nodes : List Node) (i : ℕ) (kind : NodeKind) (type : Ctype) → located nodes i (unformed (form_of kind type)) ≡ last_by i kind
located_unformed nodes i (Number n) type = refl
located_unformed nodes i (Arith op) type = ap (λ (f : Found). located nodes i f) (unformed_integer (Operated op) type refl)
located_unformed nodes i Choose type = ap (λ (f : Found). located nodes i f) (unformed_integer Chosen type refl)
located_unformed nodes i Convert type = ap (λ (f : Found). located nodes i f) (unformed_integer Converted type refl)
located_unformed nodes i kind type = refl

-- the parts of a tree whose node has a first operand
record Parts (types : Table) (nodes : List Node) (i a : ℕ) (live : Bool) (c : Core) : Type 0 where
  n : Node
  at : slice_get nodes i ≡ Some n
  more : List ℕ
  children : n.children ≡ a ∷ more
  d : Core
  first : Stands types nodes a d
  cs : Cores
  others : StandAll types nodes more cs
  is : answer c live ≡ after 0 (answer d live) (λ x. rest_of (form_of n.kind (type_of types n.ty.0)) (type_of types n.ty.0) live x (answers cs))

module _ (types : Table) (nodes : List Node) where
  none_under : (cs : Cores) (is : List ℕ) → StandAll types nodes is cs → is ≡ [] → answers cs ≡ []
  none_under NoCores is all e = refl
  none_under (MoreCores c cs) is (j, more, f, s, all) e = cc

  parts_is : (n : Node) (kind : NodeKind) (type : Ctype) → n.kind ≡ kind → type_of types n.ty.0 ≡ type → (os : List (Bool → Found)) (live : Bool) → answer_of (form_of kind type) type live os ≡ answer_of (form_of n.kind (type_of types n.ty.0)) (type_of types n.ty.0) live os
  parts_is n kind type k t os live =
      sym (ap (λ (g : NodeKind). answer_of (form_of g (type_of types n.ty.0)) (type_of types n.ty.0) live os) k ∙ ap (λ (g : Ctype). answer_of (form_of kind g) g live os) t)

  parts_of : (i a : ℕ) (live : Bool) (c : Core) → first_operand types nodes i ≡ Some a → Stands types nodes i c → Parts types nodes i a live c
  parts_of i a live (Of kind place type NoCores) first (n, at, k, p, t, all) =
      let has : operand_of (form_of n.kind (type_of types n.ty.0)) n.children ≡ Some a = subst (λ (o : Option Node). first_in types o ≡ Some a) at first in
      let (more, child) = operand_child (form_of n.kind (type_of types n.ty.0)) n.children a has in
      let none : [] ≡ a ∷ more = sym all ∙ child in
      absurd (let no : ⊥ = cc in no)
  parts_of i a live (Of kind place type (MoreCores d cs)) first (n, at, k, p, t, (j, more, e, s, all)) =
      let has : operand_of (form_of n.kind (type_of types n.ty.0)) n.children ≡ Some a = subst (λ (o : Option Node). first_in types o ≡ Some a) at first in
      let (rest, child) = operand_child (form_of n.kind (type_of types n.ty.0)) n.children a has in
      let same : j ≡ a = cc in
      record {
        n = n;
        at = at;
        more = more;
        children = e ∙ ap (λ (q : ℕ). q ∷ more) same;
        d = d;
        first = subst (λ (q : ℕ). Stands types nodes q d) same s;
        cs = cs;
        others = all;
        is = parts_is n kind type k t (answer d ∷ answers cs) live ∙ after_first (form_of n.kind (type_of types n.ty.0)) (type_of types n.ty.0) n.children a d cs live has;
      }

  -- what is wrong below is wrong here
  fails_up : (k i m : ℕ) (live : Bool) (e c : Core) (f : ConstFault) → Leads types nodes i k m → Stands types nodes m e → Stands types nodes i c → Err f ≡ located nodes m (answer e live) → Err f ≡ located nodes i (answer c live)
  fails_up zero i m live e c f leads low high is =
      let same : e ≡ c = stands_once types nodes e c i (subst (λ (q : ℕ). Stands types nodes q e) (sym leads) low) high in
      rw leads (rw (sym same) is)
  fails_up (suc k) i m live e c f (a, first, leads) low high is =
      let parts = parts_of i a live c first high in
      let below = fails_up k a m live e parts.d f leads low parts.first is in
      let child : slice_index parts.n.children 0 ≡ a = rw parts.children refl in
      after_fails types nodes i parts.n parts.at 0 a (answer parts.d live) (λ x. rest_of (form_of parts.n.kind (type_of types parts.n.ty.0)) (type_of types parts.n.ty.0) live x (answers parts.cs)) f child below
      ∙ ap (λ (q : Found). located nodes i q) (sym parts.is)

  -- the last node of a spine
  pub last_answer : (j : ℕ) (live : Bool) (d : Core) → first_operand types nodes j ≡ None → Stands types nodes j d → located nodes j (answer d live) ≡ last_in j (slice_get nodes j)
  last_answer j live (Of kind place type under) none (n, at, k, p, t, all) =
      let has : operand_of (form_of n.kind (type_of types n.ty.0)) n.children ≡ None = subst (λ (o : Option Node). first_in types o ≡ None) at none in
      let is = answer_unformed (form_of n.kind (type_of types n.ty.0)) (type_of types n.ty.0) live n.children (answers under) (none_under under n.children all) has in
      ap (λ (q : Found). located nodes j q) (parts_is n kind type k t (answers under) live ∙ is) ∙ located_unformed nodes j n.kind (type_of types n.ty.0) ∙ rw at refl

  located_value : (i : ℕ) (found : Found) (v : ℤ) → Ok v ≡ located nodes i found → found ≡ Value v
  located_value i (Value u) v e = let same : u ≡ v = cc in ap Value same
  located_value i (Fails w path) v e = cc

  pub climbed_none : (i k : ℕ) (live : Bool) (x : ℤ) → k ≡ 0 → IsClimbed types nodes i k live x (Ok x)
  climbed_none i k live x none = record {
    tree = λ j d c leads low is high.
        let here : Leads types nodes i 0 j = subst (λ (q : ℕ). Leads types nodes i q j) none leads in
        let same = stands_once types nodes d c i (subst (λ (q : ℕ). Stands types nodes q d) (sym here) low) high in
        let value : answer c live ≡ Value x = ap (λ (q : Core). answer q live) (sym same) ∙ is in
        ap (λ (q : Found). located nodes i q) (sym value);
  }

  pub climbed_rest : (i k : ℕ) (live : Bool) (x : ℤ) (result : Result ℤ ConstFault) → k ≡ 1 → IsRest types nodes i live x result → IsClimbed types nodes i k live x result
  climbed_rest i k live x result one rest = record {
    tree = λ j d c leads low is high.
        let here : Leads types nodes i (suc zero) j = subst (λ (q : ℕ). Leads types nodes i q j) one leads in
        let (m, first, e) = here in
        let parts = parts_of i m live c first high in
        let same = stands_once types nodes d parts.d m (subst (λ (q : ℕ). Stands types nodes q d) (sym e) low) parts.first in
        let value : answer parts.d live ≡ Value x = ap (λ (q : Core). answer q live) (sym same) ∙ is in
        let whole : answer c live ≡ rest_of (form_of parts.n.kind (type_of types parts.n.ty.0)) (type_of types parts.n.ty.0) live x (answers parts.cs) =
        parts.is ∙ ap (λ (q : Found). after 0 q (λ y. rest_of (form_of parts.n.kind (type_of types parts.n.ty.0)) (type_of types parts.n.ty.0) live y (answers parts.cs))) value in
        rest.tree parts.n m parts.more parts.cs parts.at parts.children parts.others ∙ ap (λ (q : Found). located nodes i q) (sym whole);
  }

  module _ (order : InOrder types nodes) (i half low depth m : ℕ) (live : Bool) (x : ℤ) (within : i < length nodes) (leads : Leads types nodes i half m) (split : half + low ≡ depth) where
    middle_within : m < length nodes
    middle_within = let below = leads_below types nodes order half i m leads in omega arith

    pub climbed_fails : (f : ConstFault) → IsClimbed types nodes m low live x (Err f) → IsClimbed types nodes i depth live x (Err f)
    climbed_fails f lower = record {
      tree = λ j d c long down is high.
          let (e, stands) = tree_of types nodes order m middle_within in
          let short = leads_rest types nodes half low i m j leads (subst (λ (q : ℕ). Leads types nodes i q j) (sym split) long) in
          fails_up half i m live e c f leads stands high (lower.tree j d e short down is stands);
    }

    pub climbed_twice : (v : ℤ) (result : Result ℤ ConstFault) → IsClimbed types nodes m low live x (Ok v) → IsClimbed types nodes i half live v result → IsClimbed types nodes i depth live x result
    climbed_twice v result lower upper = record {
      tree = λ j d c long down is high.
          let (e, stands) = tree_of types nodes order m middle_within in
          let short = leads_rest types nodes half low i m j leads (subst (λ (q : ℕ). Leads types nodes i q j) (sym split) long) in
          upper.tree m e c leads stands (located_value m (answer e live) v (lower.tree j d e short down is stands)) high;
    }

  module _ (order : InOrder types nodes) (i k j : ℕ) (live : Bool) (within : i < length nodes) (leads : Leads types nodes i k j) (none : first_operand types nodes j ≡ None) where
    last_within : j < length nodes
    last_within = let below = leads_below types nodes order k i j leads in omega arith

    pub answered_fails : (f : ConstFault) → last_in j (slice_get nodes j) ≡ Err f → IsAnswer types nodes i live (Err f)
    answered_fails f is = record {
      tree = λ c high.
          let (d, stands) = tree_of types nodes order j last_within in
          fails_up k i j live d c f leads stands high (sym (last_answer j live d none stands ∙ is));
    }

    pub answered : (x : ℤ) (result : Result ℤ ConstFault) → last_in j (slice_get nodes j) ≡ Ok x → IsClimbed types nodes i k live x result → IsAnswer types nodes i live result
    answered x result is climbed = record {
      tree = λ c high.
          let (d, stands) = tree_of types nodes order j last_within in
          climbed.tree j d c leads stands (located_value j (answer d live) x (sym (last_answer j live d none stands ∙ is))) high;
    }
