-- What string literals and direct calls of allocating functions take in programs that are one.
use Rattle.std.proofs.Common.{arith, ◌≡◌, ◌∙◌, ℕ, zero, suc, Bool, true, false, List, [], ◌∷◌, length, Option, Some, None, is_some, refl, sym, ap, subst, inl, inr}
use Rattle.std.specs.Prelude.{if◌then◌else◌, nat_eq}
use Rattle.std.specs.List.{slice_get}
use Rattle.std.specs.Option.{option_map, option_and_then}
use Rattle.std.proofs.lemmas.Bool.{cases_Bool, false≢true}
use Rattle.std.proofs.lemmas.List.{get_or_past}
use Rattle.std.proofs.lemmas.Option.{slice_get_cases}
use Rattle.c_types.specs.declared.key.ObjectKey.TheVariants.{Call as CallKey}
use Rattle.c_types.specs.declared.term.Term.{Term}
use Rattle.c_types.specs.declared.term.Term.TheVariants.{Void, Bool as BoolTerm, Integer, Floating, VaList, Pointer, Array, Function as FunctionTerm, Structure, Union}
use Rattle.c_types.specs.declared.term.TypeId.{TypeId}
use Rattle.c_types.specs.Trees.{Ctype, VoidType, PointerTo}
use Rattle.c_types.specs.Table.{Table, types_of, type_of, extent_in}
use Rattle.c_types.specs.Made.{AreNamed}
use Rattle.c_types.proofs.Grow.{grown_length}
use Rattle.core_tree.specs.declared.node.Node.{Node}
use Rattle.core_tree.specs.declared.node.NodeKind.{NodeKind}
use Rattle.core_tree.specs.declared.node.NodeKind.TheVariants.{Named, FunctionName, Literal, VarArgs, Block, For, Initialise, Text, Convert, CallNode}
use Rattle.core_tree.specs.declared.node.Entity.{Entity}
use Rattle.core_tree.specs.declared.node.Program.{Program}
use Rattle.core_tree.specs.Typed.{trees_in}
use Rattle.core_tree.specs.Range.{child_in, ChildOnce}
use Rattle.link_model.specs.Renamed.{renamed}
use Rattle.link_model.specs.Partition.{HasTags}
use Rattle.link_merge.proofs.Own.{type_tags}
use Rattle.link_merge.proofs.Terms.{type_is}
use Rattle.unit_link.specs.Places.{kind_renamed}
use Rattle.obj_made.specs.declared.object.Content.{Content}
use Rattle.obj_made.specs.declared.object.Content.TheVariants.{Function, Blob, Scalar, Scalars, Typed, Elements}
use Rattle.obj_made.specs.declared.object.Object.{Object}
use Rattle.obj_made.specs.Spelling.{placed_name}
use Rattle.obj_made.specs.Uses.{entity_number, function_entity, direct_callee, is_allocator}
use Rattle.obj_made.specs.Made.{pointed_in, complete_in, converts_kind, converts, conversion_above, typed_by, elements_or_blob, allocated_content, called_object, object_of_call, entity_by, called_entity, object_of_kind, node_object}
use Rattle.obj_space.specs.Parts.{parts_of}
use Rattle.twin_report_laws.specs.outcome_laws.twin_programs.One.{Numbers, SameNode, LeadsTo}
use Rattle.twin_report_laws.specs.outcome_laws.twin_words.Words.{IsSound}
use Rattle.twin_report_laws.proofs.outcome_laws.twin_words.Sums.{some_one, none_some}
use Rattle.twin_report_laws.proofs.outcome_laws.twin_words.Options.{and_then_some, and_then_is, same_option, number_is, is_the_number}
use Rattle.twin_report_laws.proofs.outcome_laws.twin_words.Uses.{direct_view, direct_is, direct_there, function_kind, number_same, child_there, kind_there}
use Rattle.twin_report_laws.proofs.outcome_laws.twin_words.Tables.{parts_there, parts_alike, complete_alike}

-- how many locations an object has, by what it is made of
abbrev pub content_size : Table → Content → ℕ
content_size table Function = 1
content_size table Blob = 1
content_size table (Scalar number) = 1
content_size table (Scalars number) = 1
content_size table (Typed id) = length (parts_of table (type_of table id.0))
content_size table (Elements id) = length (parts_of table (type_of table id.0))

abbrev pub object_size : Table → Option Object → ℕ
object_size table None = 0
object_size table (Some object) = content_size table object.content

-- what an allocated object has by the type of the conversion above its call
abbrev pointed : Table → Ctype → ℕ
pointed table (PointerTo to) = if is_some (extent_in table to) then length (parts_of table to) else 1
pointed table t = 1

abbrev by_type : Table → Option Ctype → ℕ
by_type table None = 1
by_type table (Some t) = pointed table t

abbrev type_under : Table → Option TypeId → Option Ctype
type_under table o = option_map (λ id. type_of table id.0) o

size_completed : (table : Table) (to : TypeId) → content_size table (elements_or_blob (complete_in table to)) ≡ (if is_some (extent_in table (type_of table to.0)) then length (parts_of table (type_of table to.0)) else 1)
size_completed table to = by (is_some (extent_in table (type_of table to.0)))
  where
    by : (b : Bool) → content_size table (elements_or_blob (if b then Some to else None)) ≡ (if b then length (parts_of table (type_of table to.0)) else 1)
    by true = refl
    by false = refl

module _ (table : Table) (named : AreNamed table) where
  by_term : (id : TypeId) (o : Option Term) → slice_get table.terms id.0 ≡ o → content_size table (elements_or_blob (option_and_then (complete_in table) (pointed_in o))) ≡ pointed table (type_of table id.0)
  by_term id None e = elim (slice_get_cases table.terms id.0).1 [
    | inl known ↦ absurd (none_some (sym e ∙ known.2))
    | inr past ↦
        let long = grown_length [] table.terms in
        let far = past.0 in
        let void : type_of table id.0 ≡ VoidType = get_or_past (types_of table) id.0 VoidType (omega arith) in
        ap (pointed table) (sym void)
  ]
  by_term id (Some (Pointer to)) e = size_completed table to ∙ ap (pointed table) (sym (type_is table id.0 (Pointer to) named e))
  by_term id (Some Void) e = ap (pointed table) (sym (type_is table id.0 Void named e))
  by_term id (Some BoolTerm) e = ap (pointed table) (sym (type_is table id.0 BoolTerm named e))
  by_term id (Some (Integer size rank signed)) e = ap (pointed table) (sym (type_is table id.0 (Integer size rank signed) named e))
  by_term id (Some Floating) e = ap (pointed table) (sym (type_is table id.0 Floating named e))
  by_term id (Some VaList) e = ap (pointed table) (sym (type_is table id.0 VaList named e))
  by_term id (Some (Array of n)) e = ap (pointed table) (sym (type_is table id.0 (Array of n) named e))
  by_term id (Some (FunctionTerm result parameters form)) e = ap (pointed table) (sym (type_is table id.0 (FunctionTerm result parameters form) named e))
  by_term id (Some (Structure tag)) e = ap (pointed table) (sym (type_is table id.0 (Structure tag) named e))
  by_term id (Some (Union tag)) e = ap (pointed table) (sym (type_is table id.0 (Union tag) named e))

  size_typed : (o : Option TypeId) → content_size table (elements_or_blob (typed_by table o)) ≡ by_type table (type_under table o)
  size_typed None = refl
  size_typed (Some id) = by_term id (slice_get table.terms id.0) refl

-- the conversion above a value
convert_view : (kind : NodeKind) (child : Option ℕ) (n : ℕ) → converts_kind kind child n ≡ true → (kind ≡ Convert) × (child ≡ Some n)
convert_view Convert child n h = (refl, number_is n child h)
convert_view kind child n h = absurd (false≢true h)

convert_is : (x : Node) (n : ℕ) → x.kind ≡ Convert → slice_get x.children 0 ≡ Some n → converts x n ≡ true
convert_is x n kind at = ap (λ (k : NodeKind). converts_kind k (slice_get x.children 0) n) kind ∙ is_the_number n (slice_get x.children 0) at

above_one : (nodes : List Node) (n : ℕ) (id : TypeId) → conversion_above nodes n ≡ Some id → (m : ℕ) × (x : Node) × (slice_get nodes m ≡ Some x) × (converts x n ≡ true) × (x.ty ≡ id)
above_one [] n id h = absurd (none_some h)
above_one (x ∷ rest) n id h = elim (cases_Bool (converts x n)) [
  | inl its ↦ (0, x, refl, its, some_one (sym (ap (λ b. if b then Some x.ty else conversion_above rest n) its) ∙ h))
  | inr isnt ↦
      let (m, y, at, is, same) = above_one rest n id (sym (ap (λ b. if b then Some x.ty else conversion_above rest n) isnt) ∙ h) in
      (suc m, y, at, is, same)
]

above_some : (nodes : List Node) (n m : ℕ) (x : Node) → slice_get nodes m ≡ Some x → converts x n ≡ true → (id : TypeId) × (conversion_above nodes n ≡ Some id)
above_some [] n m x at h = absurd (none_some at)
above_some (y ∷ rest) n zero x at h = (y.ty, ap (λ b. if b then Some y.ty else conversion_above rest n) (ap (λ (z : Node). converts z n) (some_one at) ∙ h))
above_some (y ∷ rest) n (suc m) x at h = (let (id, more) = above_some rest n m x at h in by (converts y n) id more)
  where
    by : (b : Bool) (id : TypeId) → conversion_above rest n ≡ Some id → (one : TypeId) × ((if b then Some y.ty else conversion_above rest n) ≡ Some one)
    by true id more = (y.ty, refl)
    by false id more = (id, more)

-- the library number of a direct call
abbrev call_number : List Node → List Entity → Node → Option ℕ
call_number nodes entities x = option_and_then entity_number (called_entity nodes entities x)

abbrev number_size : Program → ℕ → Option ℕ → ℕ
number_size p n None = 0
number_size p n (Some k) = if is_allocator k then (if nat_eq k 21 then 1 else content_size p.types (elements_or_blob (typed_by p.types (conversion_above p.nodes.items n)))) else 0

if_size : (table : Table) (b : Bool) (o : Object) → object_size table (if b then Some o else None) ≡ (if b then content_size table o.content else 0)
if_size table true o = refl
if_size table false o = refl

content_if : (table : Table) (b : Bool) (c : Content) → content_size table (if b then Scalars 0 else c) ≡ (if b then 1 else content_size table c)
content_if table true c = refl
content_if table false c = refl

called_size : (p : Program) (n : ℕ) (x : Node) (e : Entity) (o : Option ℕ) → object_size p.types (called_object p n x e o) ≡ number_size p n o
called_size p n x e None = refl
called_size p n x e (Some k) =
    let content = elements_or_blob (typed_by p.types (conversion_above p.nodes.items n)) in
    let object : Object = record { key = CallKey n; name = placed_name p.names.items e.name x.place; content = allocated_content k (typed_by p.types (conversion_above p.nodes.items n)) } in
    if_size p.types (is_allocator k) object ∙ ap (λ m. if is_allocator k then m else 0) (content_if p.types (nat_eq k 21) content)

call_size : (p : Program) (n : ℕ) (x : Node) (o : Option Entity) → object_size p.types (object_of_call p n x o) ≡ number_size p n (option_and_then entity_number o)
call_size p n x None = refl
call_size p n x (Some e) = called_size p n x e (entity_number e)

module _ (p q : Program) (to back : Numbers) (l : LeadsTo p q to back) where
  number_there : (x y : Node) (k : ℕ) → SameNode p.types q.types to x y → call_number p.nodes.items p.entities.items x ≡ Some k → call_number q.nodes.items q.entities.items y ≡ Some k
  number_there x y k same h =
      let (entity, entity_is, number) = and_then_some entity_number (called_entity p.nodes.items p.entities.items x) k h in
      let (n, n_is, by_name) = and_then_some (entity_by p.nodes.items p.entities.items) (direct_callee p.nodes.items x) entity entity_is in
      let (name, name_is, of) = and_then_some (λ (callee : Node). option_and_then (slice_get p.entities.items) (function_entity callee.kind)) (slice_get p.nodes.items n) entity by_name in
      let (e, e_is, at) = and_then_some (slice_get p.entities.items) (function_entity name.kind) entity of in
      let d = direct_there p q to back l x y n same (direct_view p.nodes.items x n n_is) in
      let (name_too, name_there, name_same) = l.nodes n name name_is in
      let (entity_too, there, entity_same) = l.entities e entity at in
      let function : function_entity name_too.kind ≡ Some (to.entity e) = ap function_entity name_same.kind ∙ function_kind to.entity name.kind e e_is in
      and_then_is entity_number (called_entity q.nodes.items q.entities.items y) entity_too k
      (and_then_is (entity_by q.nodes.items q.entities.items) (direct_callee q.nodes.items y) (to.node n) entity_too (direct_is q.nodes.items y (to.node n) d)
      (and_then_is (λ (callee : Node). option_and_then (slice_get q.entities.items) (function_entity callee.kind)) (slice_get q.nodes.items (to.node n)) name_too entity_too name_there
      (and_then_is (slice_get q.entities.items) (function_entity name_too.kind) (to.entity e) entity_too function there)))
      (number_same p q to back l entity entity_too entity_same ∙ number)

  -- the type of the conversion above a value
  type_there : ChildOnce (trees_in q) → (n : ℕ) (t : Ctype) → type_under p.types (conversion_above p.nodes.items n) ≡ Some t
      → type_under q.types (conversion_above q.nodes.items (to.node n)) ≡ Some (renamed to.tag t)
  type_there other_once n t h = by (conversion_above p.nodes.items n) refl h
    where
      found : (id : TypeId) → conversion_above p.nodes.items n ≡ Some id → type_of p.types id.0 ≡ t → type_under q.types (conversion_above q.nodes.items (to.node n)) ≡ Some (renamed to.tag t)
      found id e type =
          let (m, x, at, is, same) = above_one p.nodes.items n id e in
          let (kind, child) = convert_view x.kind (slice_get x.children 0) n is in
          let (y, there, alike) = l.nodes m x at in
          let other : converts y (to.node n) ≡ true = convert_is y (to.node n) (kind_there p q to back l Convert x y (λ f. refl) alike kind) (child_there p q to back l x y 0 n alike child) in
          let (one, above) = above_some q.nodes.items (to.node n) (to.node m) y there other in
          let (c, z, z_at, z_is, z_ty) = above_one q.nodes.items (to.node n) one above in
          let (z_kind, z_child) = convert_view z.kind (slice_get z.children 0) (to.node n) z_is in
          let once = other_once c (to.node m) 0 0 (to.node n) (ap (λ (o : Option Node). child_in o 0) z_at ∙ z_child)
          (ap (λ (o : Option Node). child_in o 0) there ∙ child_there p q to back l x y 0 n alike child) in
          let node : z ≡ y = some_one (sym z_at ∙ (ap (slice_get q.nodes.items) once.0 ∙ there)) in
          let types : type_of q.types one.0 ≡ renamed to.tag t =
          ap (λ (i : TypeId). type_of q.types i.0) (sym z_ty) ∙ (ap (λ (w : Node). type_of q.types w.ty.0) node ∙ (alike.type ∙ ap (renamed to.tag) (ap (λ (i : TypeId). type_of p.types i.0) same ∙ type))) in
          ap (type_under q.types) above ∙ ap Some types

      by : (o : Option TypeId) → conversion_above p.nodes.items n ≡ o → type_under p.types o ≡ Some t → type_under q.types (conversion_above q.nodes.items (to.node n)) ≡ Some (renamed to.tag t)
      by None e f = absurd (none_some f)
      by (Some id) e f = found id e (some_one f)

module _ (p q : Program) (to back : Numbers) (l : LeadsTo p q to back) (r : LeadsTo q p back to) (sound : IsSound p) (other_sound : IsSound q) where
  -- a node of the first program is that of its node in the other one
  node_back : (n : ℕ) (x y : Node) → slice_get p.nodes.items n ≡ Some x → slice_get q.nodes.items (to.node n) ≡ Some y → back.node (to.node n) ≡ n → SameNode q.types p.types back y x
  node_back n x y at there round =
      let (z, z_at, same) = r.nodes (to.node n) y there in
      subst (λ (w : Node). SameNode q.types p.types back y w) (some_one (sym z_at ∙ (ap (slice_get p.nodes.items) round ∙ at))) same

  numbers_same : (n : ℕ) (x y : Node) → slice_get p.nodes.items n ≡ Some x → slice_get q.nodes.items (to.node n) ≡ Some y → back.node (to.node n) ≡ n → SameNode p.types q.types to x y
      → call_number q.nodes.items q.entities.items y ≡ call_number p.nodes.items p.entities.items x
  numbers_same n x y at there round same =
      same_option (call_number p.nodes.items p.entities.items x) (call_number q.nodes.items q.entities.items y) (λ k h. number_there p q to back l x y k same h)
      (λ k h. number_there q p back to r y x k (node_back n x y at there round) h)

  -- types of conversions in both
  types_same : (n : ℕ) → back.node (to.node n) ≡ n → type_under q.types (conversion_above q.nodes.items (to.node n)) ≡ option_map (renamed to.tag) (type_under p.types (conversion_above p.nodes.items n))
  types_same n round = by (type_under p.types (conversion_above p.nodes.items n)) refl
    where
      by : (o : Option Ctype) → type_under p.types (conversion_above p.nodes.items n) ≡ o → type_under q.types (conversion_above q.nodes.items (to.node n)) ≡ option_map (renamed to.tag) o
      by (Some t) e = type_there p q to back l r.child_once n t e
      by None e = nothing (type_under q.types (conversion_above q.nodes.items (to.node n))) refl
        where
          nothing : (o : Option Ctype) → type_under q.types (conversion_above q.nodes.items (to.node n)) ≡ o → type_under q.types (conversion_above q.nodes.items (to.node n)) ≡ None
          nothing None f = f
          nothing (Some t) f =
              let there = type_there q p back to r l.child_once (to.node n) t f in
              absurd (none_some (sym e ∙ (ap (λ (m : ℕ). type_under p.types (conversion_above p.nodes.items m)) (sym round) ∙ there)))

  pointed_same : (t : Ctype) → HasTags p.types.tags t → pointed q.types (renamed to.tag t) ≡ pointed p.types t
  pointed_same (PointerTo s) has =
      ap (λ b. if b then length (parts_of q.types (renamed to.tag s)) else 1) (complete_alike p q to back l r sound other_sound s has)
      ∙ ap (λ m. if is_some (extent_in p.types s) then m else 1) (parts_alike p q to back l r sound other_sound s has)
  pointed_same t has = refl

  sizes_same : (o : Option TypeId) → by_type q.types (option_map (renamed to.tag) (type_under p.types o)) ≡ by_type p.types (type_under p.types o)
  sizes_same None = refl
  sizes_same (Some id) = pointed_same (type_of p.types id.0) (type_tags p.types id.0 sound.named)

  allocated_same : (n : ℕ) → back.node (to.node n) ≡ n
      → content_size q.types (elements_or_blob (typed_by q.types (conversion_above q.nodes.items (to.node n)))) ≡ content_size p.types (elements_or_blob (typed_by p.types (conversion_above p.nodes.items n)))
  allocated_same n round =
      size_typed q.types other_sound.named (conversion_above q.nodes.items (to.node n))
      ∙ (ap (by_type q.types) (types_same n round) ∙ (sizes_same (conversion_above p.nodes.items n) ∙ sym (size_typed p.types sound.named (conversion_above p.nodes.items n))))

  number_sizes : (n : ℕ) (o : Option ℕ) → back.node (to.node n) ≡ n → number_size q (to.node n) o ≡ number_size p n o
  number_sizes n None round = refl
  number_sizes n (Some k) round = ap (λ m. if is_allocator k then (if nat_eq k 21 then 1 else m) else 0) (allocated_same n round)

  kinds_same : (n : ℕ) (x y : Node) (kind : NodeKind) → slice_get p.nodes.items n ≡ Some x → slice_get q.nodes.items (to.node n) ≡ Some y → back.node (to.node n) ≡ n → SameNode p.types q.types to x y
      → object_size q.types (object_of_kind q (to.node n) y (kind_renamed to.entity kind)) ≡ object_size p.types (object_of_kind p n x kind)
  kinds_same n x y (Text bytes) at there round same = parts_there p q to back l r sound other_sound x.ty.0 y.ty.0 same.type
  kinds_same n x y CallNode at there round same =
      call_size q (to.node n) y (called_entity q.nodes.items q.entities.items y)
      ∙ (ap (number_size q (to.node n)) (numbers_same n x y at there round same)
      ∙ (number_sizes n (call_number p.nodes.items p.entities.items x) round ∙ sym (call_size p n x (called_entity p.nodes.items p.entities.items x))))
  kinds_same n x y (Named e) at there round same = refl
  kinds_same n x y (FunctionName e) at there round same = refl
  kinds_same n x y (Literal e) at there round same = refl
  kinds_same n x y (VarArgs e) at there round same = refl
  kinds_same n x y (Block es) at there round same = refl
  kinds_same n x y (For es c a) at there round same = refl
  kinds_same n x y (Initialise e paths) at there round same = refl
  kinds_same n x y kind at there round same = refl

  -- what a node makes has as many locations
  pub node_size_same : (n : ℕ) (x y : Node) → slice_get p.nodes.items n ≡ Some x → slice_get q.nodes.items (to.node n) ≡ Some y → back.node (to.node n) ≡ n → SameNode p.types q.types to x y
      → object_size q.types (node_object q (to.node n) y) ≡ object_size p.types (node_object p n x)
  node_size_same n x y at there round same =
      ap (λ (k : NodeKind). object_size q.types (object_of_kind q (to.node n) y k)) same.kind ∙ kinds_same n x y x.kind at there round same
