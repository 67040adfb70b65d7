-- From sound trees to the rows of nodes.
use Rattle.std.proofs.Common.{arith, ◌≡◌, ◌≢◌, ℕ, ◌<◌, ℤ, List, [], ◌∷◌, Option, Some, slice_get, length, get_or, sym, ap, ◌∙◌, subst, All}
use Rattle.std.proofs.lemmas.Option.{slice_get-get_or}
use Rattle.std.proofs.lemmas.List.Elements.{All-head, All-tail, All-weaker}
use Rattle.c_types.specs.Trees.{Ctype}
use Rattle.c_types.specs.Table.{Table, type_of}
use Rattle.c_conversions.specs.passed.core_tree.declared.node.Node.{Node}
use Rattle.c_conversions.specs.passed.core_tree.declared.node.Unit.{Unit}
use Rattle.c_conversions.specs.passed.core_tree.declared.node.Op.{Op}
use Rattle.c_conversions.specs.passed.core_tree.declared.node.NodeKind.{NodeKind}
use Rattle.c_conversions.specs.passed.core_tree.declared.node.NodeKind.TheVariants.{Number, Choose, Convert, Arith}
use Rattle.c_conversions.specs.passed.core_tree.Typed.{CoreTrees, sort_at, type_at, sort_in, type_in, ValueNode, Sort, IsInteger, IsScalar}
use Rattle.c_conversions.specs.passed.core_tree.Rows.{RowOf, Unary, Binary, Converts, IsCondition, IsNumeral}
use Rattle.c_conversions.specs.passed.core_tree.Typed.{IsValue}
use Rattle.c_senses.specs.passed.c_consts.Core.{Core, Cores, Of, ctype_of, core_sort}
use Rattle.c_senses.specs.passed.c_consts.Nodes.{IsConstantKind}
use Rattle.c_senses.specs.World.{World}
use Rattle.c_conversions.specs.passed.core_nodes.Standing.{core_at, cores_at, IsReady}
use Rattle.c_conversions.proofs.passed.core_nodes.Reading.{core_is, sort_is, type_is}
use Rattle.parsed_tree_laws.specs.sense_laws.Sound.{Sound, list_of, RowOver, IsValueCore, IsConditionCore, IsNumeralCore}

pub row_in : (w : World) (entities : ℕ → Option Ctype) (c : Core) (kind : NodeKind) (t : Ctype) (under : Cores) → ((place : _) × (c ≡ Of kind place t under)) → Sound w entities c → RowOver w entities kind t (list_of under)
row_in w entities c kind t under at h = (subst (λ (x : Core). Sound w entities x) at.1 h).0

pub head_in : (u : Unit) (i : ℕ) (is : List ℕ) → All (λ c. c < length u.nodes.items) (i ∷ is) → i < length u.nodes.items
head_in u i is h = All-head (λ c. c < length u.nodes.items) i is h

pub tail_in : (u : Unit) (i : ℕ) (is : List ℕ) → All (λ c. c < length u.nodes.items) (i ∷ is) → All (λ c. c < length u.nodes.items) is
tail_in u i is h = All-tail (λ c. c < length u.nodes.items) i is h

-- nodes with the trees of a unit
module _ (u : Unit) (ready : IsReady u) (x : CoreTrees) (types : x.types ≡ u.types) (nodes : x.nodes ≡ u.nodes.items) where
  pub child_sort : (c : ℕ) → c < length u.nodes.items → (s : Sort) → core_sort (core_at u c) ≡ s → sort_at x c ≡ s
  child_sort c lt s e =
      let stands : slice_get u.nodes.items c ≡ Some (get_or u.nodes.items c (record { kind = Choose; place = record { unit = 0; line = 0; column = 0 }; ty = record { 0 = 0 }; children = [] })) = slice_get-get_or u.nodes.items c _ lt in
      ap (λ (ns : List Node). sort_in (slice_get ns c)) nodes ∙ (ap sort_in stands ∙ (sort_is u ready c _ stands ∙ e))

  pub child_type : (c : ℕ) → c < length u.nodes.items → type_at x c ≡ ctype_of (core_at u c)
  child_type c lt =
      let stands : slice_get u.nodes.items c ≡ Some (get_or u.nodes.items c (record { kind = Choose; place = record { unit = 0; line = 0; column = 0 }; ty = record { 0 = 0 }; children = [] })) = slice_get-get_or u.nodes.items c _ lt in
      ap (λ (ns : List Node). type_in x.types (slice_get ns c)) nodes ∙ (ap (λ (t : Table). type_in t (slice_get u.nodes.items c)) types ∙ (ap (type_in u.types) stands ∙ type_is u ready c _ stands))

  pub of_type : (P : Ctype → Type 0) (c : ℕ) → c < length u.nodes.items → P (ctype_of (core_at u c)) → P (type_at x c)
  of_type P c lt h = subst P (sym (child_type c lt)) h

  pub value_at : (t : Ctype) (c : ℕ) → c < length u.nodes.items → IsValueCore (core_at u c) t → IsValue x c t
  value_at t c lt h = (child_sort c lt ValueNode h.0, child_type c lt ∙ h.1)

  pub condition_at : (c : ℕ) → c < length u.nodes.items → IsConditionCore (core_at u c) → IsCondition x c
  condition_at c lt h = (child_sort c lt ValueNode h.0, of_type IsScalar c lt h.1)

  pub numeral_at : (c : ℕ) → c < length u.nodes.items → IsNumeralCore (core_at u c) → IsNumeral x c
  numeral_at c lt h = (child_sort c lt ValueNode h.0, of_type IsInteger c lt h.1)

  module _ (w : World) (entities : ℕ → Option Ctype) where
    number_row : (n : ℤ) (t : Ctype) (is : List ℕ) → RowOver w entities (Number n) t (list_of (cores_at u is)) → RowOf x (Number n) t is
    number_row n t [] h = h
    number_row n t (i ∷ is) h = absurd h

    arith_row : (op : Op) (t : Ctype) (is : List ℕ) → All (λ c. c < length u.nodes.items) is → RowOver w entities (Arith op) t (list_of (cores_at u is)) → RowOf x (Arith op) t is
    arith_row op t [] lt h = absurd h
    arith_row op t (a ∷ []) lt h = (child_sort a (head_in u a [] lt) ValueNode h.0, of_type (λ (q : Ctype). Unary op q t) a (head_in u a [] lt) h.1)
    arith_row op t (a ∷ b ∷ []) lt h =
        let la : a < length u.nodes.items = head_in u a (b ∷ []) lt in
        let lb : b < length u.nodes.items = head_in u b [] (tail_in u a (b ∷ []) lt) in
        (child_sort a la ValueNode h.0, child_sort b lb ValueNode h.1, of_type (λ (q : Ctype). Binary op q (type_at x b) t) a la (of_type (λ (q : Ctype). Binary op (ctype_of (core_at u a)) q t) b lb h.2))
    arith_row op t (a ∷ b ∷ c ∷ is) lt h = absurd h

    choose_row : (t : Ctype) (is : List ℕ) → All (λ c. c < length u.nodes.items) is → RowOver w entities Choose t (list_of (cores_at u is)) → RowOf x Choose t is
    choose_row t (c ∷ a ∷ b ∷ []) lt h =
        let more : All (λ c. c < length u.nodes.items) (a ∷ b ∷ []) = tail_in u c (a ∷ b ∷ []) lt in
        (condition_at c (head_in u c (a ∷ b ∷ []) lt) h.0, value_at t a (head_in u a (b ∷ []) more) h.1, value_at t b (head_in u b [] (tail_in u a (b ∷ []) more)) h.2)
    choose_row t [] lt h = absurd h
    choose_row t (a ∷ []) lt h = absurd h
    choose_row t (a ∷ b ∷ []) lt h = absurd h
    choose_row t (a ∷ b ∷ c ∷ d ∷ is) lt h = absurd h

    convert_row : (t : Ctype) (is : List ℕ) → All (λ c. c < length u.nodes.items) is → RowOver w entities Convert t (list_of (cores_at u is)) → RowOf x Convert t is
    convert_row t [] lt h = absurd h
    convert_row t (v ∷ []) lt h =
        let lv : v < length u.nodes.items = head_in u v [] lt in
        (child_sort v lv ValueNode h.0, of_type (λ (q : Ctype). q ≢ t) v lv h.1, of_type (λ (q : Ctype). Converts q t) v lv h.2)
    convert_row t (v ∷ i ∷ is) lt h = absurd h

    -- the four kinds of which constants are made
    pub constant_row : (kind : NodeKind) (t : Ctype) (is : List ℕ) → All (λ c. c < length u.nodes.items) is → IsConstantKind kind → RowOver w entities kind t (list_of (cores_at u is)) → RowOf x kind t is
    constant_row (Number n) t is lt k h = number_row n t is h
    constant_row (Arith op) t is lt k h = arith_row op t is lt h
    constant_row Choose t is lt k h = choose_row t is lt h
    constant_row Convert t is lt k h = convert_row t is lt h
    constant_row kind t is lt k h = absurd k

-- where all trees are sound
module _ (w : World) (entities : ℕ → Option Ctype) (u : Unit) (ready : IsReady u) where
  pub below_all : (i : ℕ) (n : Node) → slice_get u.nodes.items i ≡ Some n → i < length u.nodes.items → All (λ c. c < length u.nodes.items) n.children
  below_all i n at lt = All-weaker (λ c. c < i) (λ c. c < length u.nodes.items) (λ c h. omega arith) n.children (ready.children i n at)

  pub stands_over : (i : ℕ) (n : Node) → slice_get u.nodes.items i ≡ Some n → Sound w entities (core_at u i) → RowOver w entities n.kind (type_of u.types n.ty.0) (list_of (cores_at u n.children))
  stands_over i n at h = row_in w entities (core_at u i) n.kind (type_of u.types n.ty.0) (cores_at u n.children) (n.place, core_is u ready i n at) h
