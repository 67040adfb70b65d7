-- What initialisers hold in a linked program.
use Rattle.std.proofs.Common.{arith, ◌≡◌, ◌∙◌, ◌⊎◌, ℕ, zero, suc, ◌<◌, List, [], ◌∷◌, length, map, Option, Some, None, refl, sym, ap, subst, inl, inr}
use Rattle.std.specs.Prelude.{IfSome}
use Rattle.std.specs.List.{slice_get, slice_index_or, All}
use Rattle.std.proofs.lemmas.Option.{slice_get_within, slice_get-get_or}
use Rattle.c_types.specs.declared.term.PathStep.{PathStep}
use Rattle.c_types.specs.Trees.{Ctype, ArrayOf, FunctionFrom}
use Rattle.c_types.specs.Table.{Table, type_of}
use Rattle.c_types.specs.Paths.{part_type, type_at_path}
use Rattle.core_tree.specs.declared.node.Unit.{Unit}
use Rattle.core_tree.specs.declared.node.Program.{Program}
use Rattle.core_tree.specs.declared.node.Entity.{Entity}
use Rattle.core_tree.specs.declared.node.NodeKind.{NodeKind}
use Rattle.core_tree.specs.declared.node.NodeKind.TheVariants.{Named, FunctionName, Literal, Block, For, Initialise}
use Rattle.core_tree.specs.Typed.{type_at, trees_in, trees_of}
use Rattle.core_tree.specs.Range.{named_by}
use Rattle.core_tree.specs.Rows.{RowOf, InitialValues, entity_type}
use Rattle.link_model.specs.Units.{item}
use Rattle.link_model.specs.Renamed.{renamed}
use Rattle.link_model.specs.Merged.{moved}
use Rattle.link_names.specs.Externals.{entities_if}
use Rattle.unit_link.specs.Linked.{LinkedAt}
use Rattle.unit_link.specs.Needs.{AreLinkable}
use Rattle.unit_link.specs.Places.{node_place, kind_renamed}
use Rattle.linked_laws.proofs.Origins.{node_from}
use Rattle.linked_laws.specs.merged_laws.Merged.{AreTables}
use Rattle.linked_laws.proofs.node_laws.Children.{child_sort, child_type}
use Rattle.linked_laws.specs.alike_laws.Alike.{IsClosed, Keeps}
use Rattle.linked_laws.proofs.alike_laws.Entities.{entity_types}
use Rattle.linked_laws.proofs.alike_laws.Origins.{own_type}
use Rattle.linked_laws.specs.initial_laws.Initials.{Fills, AllFill, HasInitials}
use Rattle.linked_laws.proofs.initial_laws.Paths.{path_none, part_closed, path_moved}

some_one : {X : Type 0} → {x y : X} → ◌≡◌ {A = Option X} (Some x) (Some y) → x ≡ y
some_one h = cc

none_some : {X : Type 0} → {x : X} → ◌≡◌ {A = Option X} None (Some x) → ⊥
none_some h = cc

-- a kind that is an initialiser there is one here
record IsOwn (f : ℕ → ℕ) (kind : NodeKind) (e : ℕ) (paths : List (List PathStep)) : Type 0 where
  entity : ℕ
  kind_is : kind ≡ Initialise entity paths
  number : f entity ≡ e

own_kind : (f : ℕ → ℕ) (kind : NodeKind) (e : ℕ) (paths : List (List PathStep)) → kind_renamed f kind ≡ Initialise e paths → IsOwn f kind e paths
own_kind f (Named d) e paths h = absurd (let bad : ⊥ = cc in bad)
own_kind f (FunctionName d) e paths h = absurd (let bad : ⊥ = cc in bad)
own_kind f (Literal d) e paths h = absurd (let bad : ⊥ = cc in bad)
own_kind f (Block ds) e paths h = absurd (let bad : ⊥ = cc in bad)
own_kind f (For ds c a) e paths h = absurd (let bad : ⊥ = cc in bad)
own_kind f (Initialise d ways) e paths h = record { entity = d; kind_is = (let q : ways ≡ paths = cc in ap (λ (l : List (List PathStep)). Initialise d l) q); number = (let q : f d ≡ e = cc in q) }
own_kind f kind e paths h = absurd (let bad : ⊥ = cc in bad)

-- whether a type is closed
closed_or : (t : Ctype) → IsClosed t ⊎ (IsClosed t → ⊥)
closed_or (FunctionFrom r ps f) = inr (λ c. c)
closed_or (ArrayOf of None) = inr (λ c. c)
closed_or (ArrayOf of (Some n)) = inl tt
closed_or t = inl tt

closed_back : (f : ℕ → ℕ) (t : Ctype) → IsClosed (renamed f t) → IsClosed t
closed_back f (FunctionFrom r ps form) c = c
closed_back f (ArrayOf of None) c = c
closed_back f (ArrayOf of (Some n)) c = tt
closed_back f t c = tt

closed_on : (f : ℕ → ℕ) (t : Ctype) → IsClosed t → IsClosed (renamed f t)
closed_on f (FunctionFrom r ps form) c = c
closed_on f (ArrayOf of None) c = c
closed_on f (ArrayOf of (Some n)) c = tt
closed_on f t c = tt

-- the type at a path from one that isn't closed
open_path : (table : Table) (t : Ctype) (path : List PathStep) (s : Ctype) → (IsClosed t → ⊥) → type_at_path table (Some t) path ≡ Some s → t ≡ s
open_path table t [] s loose e = some_one e
open_path table t (step ∷ rest) s loose e = by (part_type table t step) refl e
  where
    by : (o : Option Ctype) → part_type table t step ≡ o → type_at_path table o rest ≡ Some s → t ≡ s
    by None part h = absurd (path_none table rest s h)
    by (Some q) part h = absurd (loose (part_closed table t step q part))

module _ {names : List (List ℕ)} (units : List Unit) (p : Program) (linkable : AreLinkable units) (tables : AreTables units) (h : LinkedAt names units p) (u : ℕ) (of : Unit) (is : slice_get units u ≡ Some of) where
  -- one value
  fills_there : (t now : Ctype) (path : List PathStep) (c : ℕ) → c < length of.nodes.items → Keeps (moved h.numbers u t) now → type_at_path of.types (Some t) path ≡ Some (type_at (trees_of of) c) → Fills (trees_in p) now path (node_place units u c)
  fills_there t now path c lt keeps e =
      let type = child_type units p h u of is c lt in
      elim (closed_or t) [
        | inl closed ↦
            let same = keeps.closed (closed_on (h.numbers.tag u) t closed) in
            inl
            (ap (λ (s : Ctype). type_at_path p.types (Some s) path) (sym same)
            ∙ (path_moved units h.numbers p.types tables h.types u of is path t (type_at (trees_of of) c) e ∙ ap (λ (s : Ctype). Some s) (sym type)))
        | inr loose ↦
            let same = open_path of.types t path (type_at (trees_of of) c) loose e in
            inr (λ closed. loose (subst IsClosed (sym same) (closed_back (h.numbers.tag u) (type_at (trees_of of) c) (subst IsClosed type closed))))
      ]

  all_there : (t now : Ctype) → Keeps (moved h.numbers u t) now → (paths : List (List PathStep)) (values : List ℕ) → ((k c : ℕ) → slice_get values k ≡ Some c → c < length of.nodes.items)
      → InitialValues (trees_of of) (Some t) paths values → AllFill (trees_in p) now paths (map (node_place units u) values)
  all_there t now keeps [] values lt row = tt
  all_there t now keeps (path ∷ paths) [] lt row = tt
  all_there t now keeps (path ∷ paths) (c ∷ values) lt row = (
    child_sort units p h u of is c (lt 0 c refl) ∙ row.0,
    fills_there t now path c (lt 0 c refl) keeps row.1,
    all_there t now keeps paths values (λ k d at. lt (suc k) d at) row.2,
  )

all_at : (P : ℕ → Type 0) (xs : List ℕ) (k c : ℕ) → All P xs → slice_get xs k ≡ Some c → P c
all_at P xs k c h at =
    let lt = slice_get_within xs k c at in
    let same : slice_index_or xs k c ≡ c = some_one (sym (slice_get-get_or xs k c lt) ∙ at) in
    subst P same (h k c lt)

present : (xs : List Entity) (k : ℕ) → k < length xs → (x : Entity) × (slice_get xs k ≡ Some x)
present [] k lt = absurd (omega arith)
present (x ∷ xs) zero lt = (x, refl)
present (x ∷ xs) (suc k) lt = present xs k (omega arith)

pub linked_initials : {names : List (List ℕ)} (units : List Unit) (p : Program) → AreLinkable units → AreTables units → LinkedAt names units p → HasInitials p
linked_initials units p linkable tables h = record {
  each = λ n node e paths entity at kind there.
      let f = node_from units p h n node at in
      let of = f.of in
      let valid = linkable.valid f.unit of f.of_is in
      let own = own_kind (h.entity_numbers f.unit) f.own.kind e paths (sym f.moved.kind ∙ kind) in
      let range = subst (λ (k : NodeKind). IfSome (named_by k) (λ d. d < length of.entities.items)) own.kind_is (valid.trees.in_range.entities f.number f.own f.own_is) in
      let (x, x_at) = present of.entities.items own.entity range in
      let keeps = entity_types units p h (item f.unit own.entity) x entity (ap (λ (o : Option Unit). slice_get (entities_if o) own.entity) f.of_is ∙ x_at) (ap (slice_get p.entities.items) own.number ∙ there) in
      let now = type_of p.types entity.ty.0 in
      let t = type_of of.types x.ty.0 in
      let own_keeps : Keeps (moved h.numbers f.unit t) now = subst (λ (s : Ctype). Keeps s now) (own_type units p linkable h f.unit of own.entity x f.of_is x_at) keeps in
      let row = subst (λ (k : NodeKind). RowOf (trees_of of) k (type_of of.types f.own.ty.0) f.own.children) own.kind_is (valid.trees.rows f.number f.own f.own_is) in
      let values : InitialValues (trees_of of) (Some t) paths f.own.children = subst (λ (o : Option Entity). InitialValues (trees_of of) (entity_type (trees_of of) o) paths f.own.children) x_at row in
      let within = slice_get_within of.nodes.items f.number f.own f.own_is in
      subst (λ (l : List ℕ). AllFill (trees_in p) now paths l) (sym f.moved.children)
      (all_there units p linkable tables h f.unit of f.of_is t now own_keeps paths f.own.children
      (λ k c child. let less = all_at (λ b. b < f.number) f.own.children k c (valid.trees.in_range.children f.number f.own f.own_is) child in omega arith) values);
}
