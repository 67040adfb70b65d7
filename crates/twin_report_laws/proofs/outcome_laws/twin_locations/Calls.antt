-- What string literals and direct calls of allocating functions make in programs that are one.
use Rattle.std.proofs.Common.{◌≡◌, ◌∙◌, ℕ, zero, suc, Bool, true, false, List, [], ◌∷◌, Option, Some, None, refl, sym, ap, inl, inr}
use Rattle.std.specs.Prelude.{if◌then◌else◌}
use Rattle.std.specs.List.{slice_get}
use Rattle.std.specs.Option.{option_map, option_and_then}
use Rattle.std.proofs.lemmas.Bool.{cases_Bool, false≢true}
use Rattle.c_types.specs.declared.term.TypeId.{TypeId}
use Rattle.c_types.specs.Trees.{Ctype}
use Rattle.c_types.specs.Table.{Table, type_of}
use Rattle.core_tree.specs.declared.node.Node.{Node}
use Rattle.core_tree.specs.declared.node.NodeKind.{NodeKind}
use Rattle.core_tree.specs.declared.node.NodeKind.TheVariants.{Convert}
use Rattle.core_tree.specs.declared.node.Entity.{Entity}
use Rattle.core_tree.specs.declared.node.Program.{Program}
use Rattle.core_tree.specs.Typed.{trees_in}
use Rattle.core_tree.specs.Range.{child_in, ChildOnce}
use Rattle.link_model.specs.Renamed.{renamed}
use Rattle.obj_made.specs.Uses.{function_entity, direct_callee}
use Rattle.obj_made.specs.Made.{converts_kind, converts, conversion_above, entity_by, called_entity}
use Rattle.twin_report_laws.specs.outcome_laws.twin_programs.One.{Numbers, SameEntity, SameNode, LeadsTo}
use Rattle.twin_report_laws.proofs.outcome_laws.twin_locations.Options.{some_one, none_some, and_then_some, and_then_is, number_is, is_the_number}
use Rattle.twin_report_laws.proofs.outcome_laws.twin_locations.Uses.{direct_view, direct_is, direct_there, function_kind, child_there, kind_there}

-- the type under a number, where there is one
abbrev pub type_under : Table → Option TypeId → Option Ctype
type_under table o = option_map (λ id. type_of table id.0) o

-- the conversion above a value
convert_view : (kind : NodeKind) (child : Option ℕ) (n : ℕ) → converts_kind kind child n ≡ true → (kind ≡ Convert) × (child ≡ Some n)
convert_view Convert child n h = (refl, number_is n child h)
convert_view kind child n h = absurd (false≢true h)

convert_is : (x : Node) (n : ℕ) → x.kind ≡ Convert → slice_get x.children 0 ≡ Some n → converts x n ≡ true
convert_is x n kind at = ap (λ (k : NodeKind). converts_kind k (slice_get x.children 0) n) kind ∙ is_the_number n (slice_get x.children 0) at

above_one : (nodes : List Node) (n : ℕ) (id : TypeId) → conversion_above nodes n ≡ Some id → (m : ℕ) × (x : Node) × (slice_get nodes m ≡ Some x) × (converts x n ≡ true) × (x.ty ≡ id)
above_one [] n id h = absurd (none_some h)
above_one (x ∷ rest) n id h = elim (cases_Bool (converts x n)) [
  | inl its ↦ (0, x, refl, its, some_one (sym (ap (λ b. if b then Some x.ty else conversion_above rest n) its) ∙ h))
  | inr isnt ↦
      let (m, y, at, is, same) = above_one rest n id (sym (ap (λ b. if b then Some x.ty else conversion_above rest n) isnt) ∙ h) in
      (suc m, y, at, is, same)
]

above_some : (nodes : List Node) (n m : ℕ) (x : Node) → slice_get nodes m ≡ Some x → converts x n ≡ true → (id : TypeId) × (conversion_above nodes n ≡ Some id)
above_some [] n m x at h = absurd (none_some at)
above_some (y ∷ rest) n zero x at h = (y.ty, ap (λ b. if b then Some y.ty else conversion_above rest n) (ap (λ (z : Node). converts z n) (some_one at) ∙ h))
above_some (y ∷ rest) n (suc m) x at h = (let (id, more) = above_some rest n m x at h in by (converts y n) id more)
  where
    by : (b : Bool) (id : TypeId) → conversion_above rest n ≡ Some id → (one : TypeId) × ((if b then Some y.ty else conversion_above rest n) ≡ Some one)
    by true id more = (y.ty, refl)
    by false id more = (id, more)

module _ (p q : Program) (to back : Numbers) (l : LeadsTo p q to back) where
  -- the function that a call calls directly
  pub called_there : (x y : Node) (entity : Entity) → SameNode p.types q.types to x y → called_entity p.nodes.items p.entities.items x ≡ Some entity
      → (other : Entity) × (called_entity q.nodes.items q.entities.items y ≡ Some other) × SameEntity p.types q.types to entity other
  called_there x y entity same entity_is =
      let (n, n_is, by_name) = and_then_some (entity_by p.nodes.items p.entities.items) (direct_callee p.nodes.items x) entity entity_is in
      let (name, name_is, of) = and_then_some (λ (callee : Node). option_and_then (slice_get p.entities.items) (function_entity callee.kind)) (slice_get p.nodes.items n) entity by_name in
      let (e, e_is, at) = and_then_some (slice_get p.entities.items) (function_entity name.kind) entity of in
      let d = direct_there p q to back l x y n same (direct_view p.nodes.items x n n_is) in
      let (name_too, name_there, name_same) = l.nodes n name name_is in
      let (entity_too, there, entity_same) = l.entities e entity at in
      let function : function_entity name_too.kind ≡ Some (to.entity e) = ap function_entity name_same.kind ∙ function_kind to.entity name.kind e e_is in (
        entity_too,
        and_then_is (entity_by q.nodes.items q.entities.items) (direct_callee q.nodes.items y) (to.node n) entity_too (direct_is q.nodes.items y (to.node n) d)
            (and_then_is (λ (callee : Node). option_and_then (slice_get q.entities.items) (function_entity callee.kind)) (slice_get q.nodes.items (to.node n)) name_too entity_too name_there
            (and_then_is (slice_get q.entities.items) (function_entity name_too.kind) (to.entity e) entity_too function there)),
        entity_same,
      )

  -- the type of the conversion above a value
  type_there : ChildOnce (trees_in q) → (n : ℕ) (t : Ctype) → type_under p.types (conversion_above p.nodes.items n) ≡ Some t
      → type_under q.types (conversion_above q.nodes.items (to.node n)) ≡ Some (renamed to.tag t)
  type_there other_once n t h = by (conversion_above p.nodes.items n) refl h
    where
      found : (id : TypeId) → conversion_above p.nodes.items n ≡ Some id → type_of p.types id.0 ≡ t → type_under q.types (conversion_above q.nodes.items (to.node n)) ≡ Some (renamed to.tag t)
      found id e type =
          let (m, x, at, is, same) = above_one p.nodes.items n id e in
          let (kind, child) = convert_view x.kind (slice_get x.children 0) n is in
          let (y, there, alike) = l.nodes m x at in
          let other : converts y (to.node n) ≡ true = convert_is y (to.node n) (kind_there p q to back l Convert x y (λ f. refl) alike kind) (child_there p q to back l x y 0 n alike child) in
          let (one, above) = above_some q.nodes.items (to.node n) (to.node m) y there other in
          let (c, z, z_at, z_is, z_ty) = above_one q.nodes.items (to.node n) one above in
          let (z_kind, z_child) = convert_view z.kind (slice_get z.children 0) (to.node n) z_is in
          let once = other_once c (to.node m) 0 0 (to.node n) (ap (λ (o : Option Node). child_in o 0) z_at ∙ z_child)
          (ap (λ (o : Option Node). child_in o 0) there ∙ child_there p q to back l x y 0 n alike child) in
          let node : z ≡ y = some_one (sym z_at ∙ (ap (slice_get q.nodes.items) once.0 ∙ there)) in
          let types : type_of q.types one.0 ≡ renamed to.tag t =
          ap (λ (i : TypeId). type_of q.types i.0) (sym z_ty) ∙ (ap (λ (w : Node). type_of q.types w.ty.0) node ∙ (alike.type ∙ ap (renamed to.tag) (ap (λ (i : TypeId). type_of p.types i.0) same ∙ type))) in
          ap (type_under q.types) above ∙ ap Some types

      by : (o : Option TypeId) → conversion_above p.nodes.items n ≡ o → type_under p.types o ≡ Some t → type_under q.types (conversion_above q.nodes.items (to.node n)) ≡ Some (renamed to.tag t)
      by None e f = absurd (none_some f)
      by (Some id) e f = found id e (some_one f)

module _ (p q : Program) (to back : Numbers) (l : LeadsTo p q to back) (r : LeadsTo q p back to) where
  -- types of conversions in both
  pub types_same : (n : ℕ) → back.node (to.node n) ≡ n → type_under q.types (conversion_above q.nodes.items (to.node n)) ≡ option_map (renamed to.tag) (type_under p.types (conversion_above p.nodes.items n))
  types_same n round = by (type_under p.types (conversion_above p.nodes.items n)) refl
    where
      by : (o : Option Ctype) → type_under p.types (conversion_above p.nodes.items n) ≡ o → type_under q.types (conversion_above q.nodes.items (to.node n)) ≡ option_map (renamed to.tag) o
      by (Some t) e = type_there p q to back l r.child_once n t e
      by None e = nothing (type_under q.types (conversion_above q.nodes.items (to.node n))) refl
        where
          nothing : (o : Option Ctype) → type_under q.types (conversion_above q.nodes.items (to.node n)) ≡ o → type_under q.types (conversion_above q.nodes.items (to.node n)) ≡ None
          nothing None f = f
          nothing (Some t) f =
              let there = type_there q p back to r l.child_once (to.node n) t f in
              absurd (none_some (sym e ∙ (ap (λ (m : ℕ). type_under p.types (conversion_above p.nodes.items m)) (sym round) ∙ there)))
