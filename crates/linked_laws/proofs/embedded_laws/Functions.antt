-- Labels, returns and cases in the program.
use Rattle.std.proofs.Common.{arith, ◌≡◌, ◌∙◌, ℕ, ◌<◌, ℤ, List, [], ◌∷◌, length, map, Option, Some, None, refl, sym, ap, subst}
use Rattle.std.specs.Prelude.{IfSome}
use Rattle.std.specs.List.{slice_get}
use Rattle.std.specs.Option.{option_map}
use Rattle.std.proofs.lemmas.Option.{slice_get_within}
use Rattle.c_types.specs.Trees.{Ctype, FunctionFrom}
use Rattle.c_types.specs.Table.{type_of}
use Rattle.type_rules.specs.Conversions.{result_of}
use Rattle.core_tree.specs.declared.node.Unit.{Unit}
use Rattle.core_tree.specs.declared.node.Program.{Program}
use Rattle.core_tree.specs.declared.node.Node.{Node}
use Rattle.core_tree.specs.declared.node.Entity.{Entity}
use Rattle.core_tree.specs.declared.node.Storage.TheVariants.{FunctionBody}
use Rattle.core_tree.specs.declared.node.NodeKind.{NodeKind}
use Rattle.core_tree.specs.declared.node.NodeKind.TheVariants.{Named, FunctionName, Literal, Block, For, Case, Default, Goto, Return, Initialise}
use Rattle.core_tree.specs.Typed.{trees_in, trees_of}
use Rattle.core_tree.specs.Range.{Under}
use Rattle.core_tree.specs.Valid.{Valid, IsLabel, IsLabelOf, OnlyLabel, LabelOnce, ReturnsRight, FitsBody, FitsFunction, FitsFunctions, InFunctions, IsSwitch, IsCaseOf, IsCase, OnlyCase, DiffersIn, DiffersInAll, CaseDiffers, DistinctCases}
use Rattle.link_model.specs.Renamed.{renamed}
use Rattle.link_model.specs.Merged.{moved}
use Rattle.unit_link.specs.Linked.{LinkedAt}
use Rattle.unit_link.specs.Needs.{AreLinkable}
use Rattle.unit_link.specs.Places.{node_place, kind_renamed}
use Rattle.linked_laws.proofs.node_laws.Children.{child_type}
use Rattle.linked_laws.proofs.embedded_laws.Lists.{all_at}
use Rattle.linked_laws.proofs.embedded_laws.Renaming.{switch_to, switch_back, label_to, label_back, case_back}
use Rattle.linked_laws.proofs.embedded_laws.Nodes.{same_unit, each_node, under_to, one_unit}
use Rattle.linked_laws.proofs.embedded_laws.Entities.{IsEntityOfUnit, each_moved, keeps_type}
use Rattle.linked_laws.proofs.embedded_laws.Trees.{body_within}

result_renamed : (f : ℕ → ℕ) (t : Ctype) → renamed f (result_of t) ≡ result_of (renamed f t)
result_renamed f (FunctionFrom r ps form) = refl
result_renamed f t = refl

module _ {names : List (List ℕ)} (units : List Unit) (p : Program) (linkable : AreLinkable units) (h : LinkedAt names units p) where
  valid : (u : ℕ) (of : Unit) → slice_get units u ≡ Some of → Valid (trees_of of)
  valid u of is = (linkable.valid u of is).trees

  module _ (u : ℕ) (of : Unit) (is : slice_get units u ≡ Some of) where
    -- the labels of a body
    only_label_to : (b : ℕ) (name : List ℕ) (n : ℕ) → b < length of.nodes.items → OnlyLabel (trees_of of) b name n → OnlyLabel (trees_in p) (node_place units u b) name (node_place units u n)
    only_label_to b name n lb only = record {
      each = each_node units p linkable h (λ k node. IsLabelOf (trees_in p) (node_place units u b) name k node.kind → node_place units u n ≡ k) (λ v j other z m there z_at m_at moves (label, up).
          let o = one_unit units p linkable h v other there u of is b j lb (slice_get_within other.nodes.items j z z_at) up in
          let same = same_unit units v u other of there is o.unit in
          let own = label_back (h.entity_numbers v) name z.kind (subst (IsLabel name) moves.kind label) in
          let one = only.each j z (subst (λ (w : Unit). slice_get w.nodes.items j ≡ Some z) same z_at) (own, subst (λ (w : Unit). Under (trees_of w) b j) same o.under) in
          ap (node_place units u) one ∙ sym (ap (λ (k : ℕ). node_place units k j) o.unit));
    }

    label_once_to : (b : ℕ) (name : List ℕ) → b < length of.nodes.items → LabelOnce (trees_of of) b name → LabelOnce (trees_in p) (node_place units u b) name
    label_once_to b name lb once =
        let (n, z, at, its) = once.some in
        let m = h.nodes.each u n of z is at in
        record {
          some = (
            node_place units u n,
            m.node,
            m.node_is,
            (
              (subst (IsLabel name) (sym m.moved.kind) (label_to (h.entity_numbers u) name z.kind its.0.0), under_to units p linkable h u of is its.0.1),
              only_label_to b name n lb its.1,
            ),
          );
        }

    returns_to : (e : ℕ) (z w : Entity) → IsEntityOfUnit units p linkable h u e of z w → (children : List ℕ) → ((k c : ℕ) → slice_get children k ≡ Some c → c < length of.nodes.items) → ReturnsRight (trees_of of) z children
        → ReturnsRight (trees_in p) w (map (node_place units u) children)
    returns_to e z w m [] within fits = tt
    returns_to e z w m (c ∷ []) within fits =
        child_type units p h u of is c (within 0 c refl) ∙ (ap (moved h.numbers u) fits ∙ (result_renamed (h.numbers.tag u) (type_of of.types z.ty.0) ∙ (keeps_type units p linkable h u e of z w is m.at m.there).result))
    returns_to e z w m (c ∷ a ∷ rest) within fits = tt

    fits_to : (e : ℕ) (z w : Entity) → IsEntityOfUnit units p linkable h u e of z w → (b : ℕ) → b < length of.nodes.items → (kind : NodeKind) (children : List ℕ) → ((k c : ℕ) → slice_get children k ≡ Some c → c < length of.nodes.items)
        → FitsBody (trees_of of) z b kind children → FitsBody (trees_in p) w (node_place units u b) (kind_renamed (h.entity_numbers u) kind) (map (node_place units u) children)
    fits_to e z w m b lb (Goto name) children within fits = label_once_to b name lb fits
    fits_to e z w m b lb Return children within fits = returns_to e z w m children within fits
    fits_to e z w m b lb (Named o) children within fits = tt
    fits_to e z w m b lb (FunctionName o) children within fits = tt
    fits_to e z w m b lb (Literal o) children within fits = tt
    fits_to e z w m b lb (Block es) children within fits = tt
    fits_to e z w m b lb (For es c a) children within fits = tt
    fits_to e z w m b lb (Initialise o paths) children within fits = tt
    fits_to e z w m b lb kind children within fits = tt

    children_within : (i : ℕ) (x : Node) → slice_get of.nodes.items i ≡ Some x → (k c : ℕ) → slice_get x.children k ≡ Some c → c < length of.nodes.items
    children_within i x at k c there =
        let lt = slice_get_within of.nodes.items i x at in
        let less = all_at (λ d. d < i) x.children k c ((valid u of is).in_range.children i x at) there in
        omega arith

    module _ (i : ℕ) (x m : Node) (x_at : slice_get of.nodes.items i ≡ Some x) (kind : m.kind ≡ kind_renamed (h.entity_numbers u) x.kind) (children : m.children ≡ map (node_place units u) x.children)
        (v e : ℕ) (other : Unit) (z w : Entity) (mz : IsEntityOfUnit units p linkable h v e other z w) (storage : w.storage ≡ FunctionBody) where
      fits_unit : (b : ℕ) → z.body ≡ Some b → Under (trees_in p) (node_place units v b) (node_place units u i) → FitsBody (trees_in p) w (node_place units v b) m.kind m.children
      fits_unit b body up =
          let lb = body_within units p linkable h v e other z b mz.of_is mz.at body in
          let o = one_unit units p linkable h u of is v other mz.of_is b i lb (slice_get_within of.nodes.items i x x_at) up in
          let same = same_unit units v u other of mz.of_is is (sym o.unit) in
          let own : IsEntityOfUnit units p linkable h u e of z w =
          subst (λ (k : ℕ). IsEntityOfUnit units p linkable h k e of z w) (sym o.unit) (subst (λ (y : Unit). IsEntityOfUnit units p linkable h v e y z w) same mz) in
          let fits = subst (λ (a : Option ℕ). IfSome a (λ c. Under (trees_of of) c i → FitsBody (trees_of of) z c x.kind x.children)) body
          ((((valid u of is).functions i x x_at).each e z own.at).fits (sym own.moves.storage ∙ storage)) in
          let there = fits_to e z w own b (subst (λ (y : Unit). b < length y.nodes.items) same lb) x.kind x.children (children_within i x x_at) (fits o.under) in
          subst (λ (k : ℕ). FitsBody (trees_in p) w (node_place units k b) m.kind m.children) o.unit
          (subst (λ (k : NodeKind). FitsBody (trees_in p) w (node_place units u b) k m.children) (sym kind)
          (subst (λ (l : List ℕ). FitsBody (trees_in p) w (node_place units u b) (kind_renamed (h.entity_numbers u) x.kind) l) (sym children) there))

      fits_body : (o : Option ℕ) → z.body ≡ o → IfSome (option_map (node_place units v) o) (λ b. Under (trees_in p) b (node_place units u i) → FitsBody (trees_in p) w b m.kind m.children)
      fits_body None body = tt
      fits_body (Some b) body = fits_unit b body

  pub functions : InFunctions (trees_in p)
  functions = each_node units p linkable h (λ n node. FitsFunctions (trees_in p) n node) (λ u i of x m is x_at m_at moves. record {
    each = each_moved units p linkable h (λ e w. FitsFunction (trees_in p) (node_place units u i) m w) (λ v e other z w mz. record {
      fits = λ storage. subst (λ (o : Option ℕ). IfSome o (λ b. Under (trees_in p) b (node_place units u i) → FitsBody (trees_in p) w b m.kind m.children)) (sym mz.moves.body)
          (fits_body u of is i x m x_at moves.kind moves.children v e other z w mz storage z.body refl);
    });
  })

  -- cases
  module _ (u : ℕ) (of : Unit) (is : slice_get units u ≡ Some of) where
    case_of_back : (t i : ℕ) → Under (trees_of of) t i → IsCaseOf (trees_in p) (node_place units u t) (node_place units u i) → IsCaseOf (trees_of of) t i
    case_of_back t i up case = record {
      under = up;
      innermost = record {
        each = λ n z z_at. record {
          same = λ switch below_t above_i.
              let m = h.nodes.each u n of z is z_at in
              let e = (case.innermost.each (node_place units u n) m.node m.node_is).same (subst IsSwitch (sym m.moved.kind) (switch_to (h.entity_numbers u) z.kind switch)) (under_to units p linkable h u of is below_t) (under_to units p linkable h u of is above_i) in
              omega arith;
        };
      };
    }

    only_case : (i t : ℕ) (x : Option ℤ) → t < length of.nodes.items → OnlyCase (trees_of of) t i x → OnlyCase (trees_in p) (node_place units u t) (node_place units u i) x
    only_case i t x lt only = record {
      each = each_node units p linkable h (λ b other. IsCase x other.kind → IsCaseOf (trees_in p) (node_place units u t) b → node_place units u i ≡ b) (λ v b other z m there z_at m_at moves is_case case.
          let o = one_unit units p linkable h v other there u of is t b lt (slice_get_within other.nodes.items b z z_at) case.under in
          let same = same_unit units v u other of there is o.unit in
          let own = case_of_back t b (subst (λ (w : Unit). Under (trees_of w) t b) same o.under) (subst (λ (k : ℕ). IsCaseOf (trees_in p) (node_place units u t) (node_place units k b)) o.unit case) in
          let one = only.each b z (subst (λ (w : Unit). slice_get w.nodes.items b ≡ Some z) same z_at) (case_back (h.entity_numbers v) x z.kind (subst (IsCase x) moves.kind is_case)) own in
          ap (node_place units u) one ∙ sym (ap (λ (k : ℕ). node_place units k b) o.unit));
    }

    differs_in : (i : ℕ) (x : Option ℤ) → i < length of.nodes.items → DiffersInAll (trees_of of) i x → (v t : ℕ) (other : Unit) (z m : Node) → slice_get units v ≡ Some other → slice_get other.nodes.items t ≡ Some z
        → m.kind ≡ kind_renamed (h.entity_numbers v) z.kind → DiffersIn (trees_in p) (node_place units u i) x (node_place units v t) m.kind
    unfolding DiffersIn
    differs_in i x li all v t other z m there z_at kind = λ switch case.
        let o = one_unit units p linkable h u of is v other there t i (slice_get_within other.nodes.items t z z_at) li case.under in
        let same = same_unit units v u other of there is (sym o.unit) in
        let own_at = subst (λ (w : Unit). slice_get w.nodes.items t ≡ Some z) same z_at in
        let own = case_of_back t i o.under (subst (λ (k : ℕ). IsCaseOf (trees_in p) (node_place units k t) (node_place units u i)) (sym o.unit) case) in
        let only = all.each t z own_at (switch_back (h.entity_numbers v) z.kind (subst IsSwitch kind switch)) own in
        subst (λ (k : ℕ). OnlyCase (trees_in p) (node_place units k t) (node_place units u i) x) o.unit (only_case i t x (slice_get_within of.nodes.items t z own_at) only)

    differs_to : (i : ℕ) (x : Option ℤ) → i < length of.nodes.items → DiffersInAll (trees_of of) i x → DiffersInAll (trees_in p) (node_place units u i) x
    differs_to i x li all = record {
      each = each_node units p linkable h (λ s node. DiffersIn (trees_in p) (node_place units u i) x s node.kind) (λ v t other z m there z_at m_at moves.
          differs_in i x li all v t other z m there z_at moves.kind);
    }

    case_to : (i : ℕ) (kind : NodeKind) → i < length of.nodes.items → CaseDiffers (trees_of of) i kind → CaseDiffers (trees_in p) (node_place units u i) (kind_renamed (h.entity_numbers u) kind)
    case_to i (Case x) li own = differs_to i (Some x) li own
    case_to i Default li own = differs_to i None li own
    case_to i (Named o) li own = tt
    case_to i (FunctionName o) li own = tt
    case_to i (Literal o) li own = tt
    case_to i (Block es) li own = tt
    case_to i (For es c a) li own = tt
    case_to i (Initialise o paths) li own = tt
    case_to i kind li own = tt

  pub cases : DistinctCases (trees_in p)
  cases = each_node units p linkable h (λ n node. CaseDiffers (trees_in p) n node.kind) (λ u i of x m is x_at m_at moves.
      subst (λ (k : NodeKind). CaseDiffers (trees_in p) (node_place units u i) k) (sym moves.kind)
      (case_to u of is i x.kind (slice_get_within of.nodes.items i x x_at) ((valid u of is).cases i x x_at)))
