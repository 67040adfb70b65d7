-- A world over a valid program with more types runs.
use Rattle.std.proofs.Common.{arith, ◌≡◌, ◌∙◌, inl, inr, ℕ, ◌+◌, ◌<◌, Bool, true, false, cond, All, Contains, List, [], ◌∷◌, ◌++◌, length, length-append, Option, Some, None, IsSome, slice_get, refl, sym, ap, subst}
use Rattle.std.specs.Option.{option_map}
use Rattle.std.specs.List.{list_all, filter_map, cons_option, enumerate_from}
use Rattle.std.proofs.lemmas.Bool.{false≢true}
use Rattle.std.proofs.lemmas.List.Elements.{All-head, All-tail, All-contains}
use Rattle.c_types.specs.declared.key.ObjectKey.{ObjectKey}
use Rattle.c_types.specs.declared.key.ObjectKey.TheVariants.{Entity as EntityKey, Varargs as VarargsKey}
use Rattle.c_types.specs.declared.term.Term.{Term}
use Rattle.c_types.specs.declared.term.TypeId.{TypeId}
use Rattle.c_types.specs.declared.term.Term.TheVariants.{Union}
use Rattle.c_types.specs.Trees.{Ctype, VoidType, BoolType, IntegerType, FloatingType, VaListType, PointerTo, ArrayOf, FunctionFrom, StructureOf, UnionOf}
use Rattle.c_types.specs.Layout.{Extent}
use Rattle.c_types.specs.Table.{Table, type_of, size_below, extent_in}
use Rattle.c_types.specs.Made.{IsMade, AreNamed}
use Rattle.type_rules.specs.Kinds.{LacksLength}
use Rattle.type_rules.specs.Sizes.{HasSize, with_one}
use Rattle.type_rules.specs.Conversions.{result_of}
use Rattle.core_tree.specs.declared.node.Entity.{Entity}
use Rattle.core_tree.specs.declared.node.Linkage.{Linkage}
use Rattle.core_tree.specs.declared.node.Linkage.TheVariants.{External, Internal, Local}
use Rattle.core_tree.specs.declared.node.Node.{Node}
use Rattle.core_tree.specs.declared.node.NodeKind.{NodeKind}
use Rattle.core_tree.specs.declared.node.NodeKind.TheVariants.{Literal}
use Rattle.core_tree.specs.declared.node.Program.{Program}
use Rattle.core_tree.specs.declared.node.Storage.{Storage}
use Rattle.core_tree.specs.declared.node.Storage.TheVariants.{Static, Automatic, FunctionBody, Parameter, Declared}
use Rattle.core_tree.specs.Range.{child_in, Under, here, below, listed_by, InRange, ChildOnce}
use Rattle.core_tree.specs.Typed.{CoreTrees, IsValue, trees_in, type_at}
use Rattle.core_tree.specs.Valid.{ValidProgram, HasBody, IsBlockIn, IsEntryAt, UnderBody, IsListable, IsListableIn, Sized}
use Rattle.obj_made.specs.Made.{entity_content}
use Rattle.obj_space.specs.declared.location.Location.{Location}
use Rattle.obj_space.specs.Space.{locations_in}
use Rattle.obj_space.specs.Spots.{type_made}
use Rattle.obj_space.specs.View.{first_from}
use Rattle.row_numbers.specs.Functions.{type_or_void}
use Rattle.row_numbers.specs.Objects.{is_open}
use Rattle.row_numbers.specs.Setting.{takes_further}
use Rattle.normal_form.specs.Assignments.{given_type}
use Rattle.ref_blocks.specs.declared.block.Block.{Block}
use Rattle.ref_blocks.specs.declared.block.Block.TheVariants.{Own, Part}
use Rattle.ref_blocks.specs.Ways.{kind_in, kind_at}
use Rattle.ref_blocks.specs.Order.{is_before, put_in_order, put_all}
use Rattle.ref_blocks.specs.Around.{is_innermost, lives_with_block, is_automatic, literal_of, literal_within, literals_of, listed_of, blocks_around, objects_of}
use Rattle.covering_laws.specs.covered_types.Whole.{IsFew, IsHeld}
use Rattle.covering_laws.specs.covered_types.Returns.{HasResults}
use Rattle.covering_laws.proofs.covered_types.Returns.{returns_held}
use Rattle.covering_laws.proofs.covered_memory.Few.{structures_few}
use Rattle.covering_laws.proofs.covered_memory.Firsts.{is_first}
use Rattle.covering_laws.specs.object_contents.Contents.{IsMadeOf}
use Rattle.covering_laws.proofs.object_contents.Contents.{contents_known}
use Rattle.covering_laws.specs.grown_programs.Grown.{with_terms, MayFollow, IsKept, with_types}
use Rattle.covering_laws.proofs.grown_programs.Numbers.{type_same}
use Rattle.covering_laws.specs.covered_state.World.{World, trees_of, setting_in}
use Rattle.covering_laws.specs.covered_state.Items.{Each}
use Rattle.covering_laws.proofs.covered_state.Stays.{each_change, each_append}
use Rattle.covered_runs.specs.covered_steps.covered_values.Met.{HasFit, IsOver}
use Rattle.covered_runs.specs.covered_steps.covered_values.Values.{HasFirst}
use Rattle.covered_runs.proofs.covered_steps.covered_values.Places.{closed_key}
use Rattle.covered_runs.proofs.covered_steps.covered_values.Rows.{held_same}
use Rattle.covered_runs.proofs.covered_steps.covered_values.Standing.{kept, nodes_known, entities_known, fit_more, stands_met}
use Rattle.covered_runs.proofs.covered_steps.covered_values.Above.{above_met}
use Rattle.covered_runs.specs.covered_steps.Placed.{IsPlaced}
use Rattle.covered_runs.specs.covered_steps.Made.{HasPlace}
use Rattle.covered_runs.specs.covered_steps.Owned.{AreTops, AreSingle}
use Rattle.covered_runs.proofs.covered_steps.Placed.{entities_placed}
use Rattle.covered_runs.proofs.covered_steps.Owned.{owner_is}
use Rattle.covered_runs.specs.covered_steps.covered_statements.Runnable.{ReturnsFit, ResultsHeld, ObjectsOwn, FurtherPlaced, BodiesBlocks}
use Rattle.covered_runs.specs.covered_steps.covered_statements.Founded.{AutomaticObjects, RunnableMet}
use Rattle.covered_runs.proofs.covered_steps.covered_statements.Further.{further_placed}

some_one : {X : Type 0} → {x y : X} → ◌≡◌ {A = Option X} (Some x) (Some y) → x ≡ y
some_one h = cc

none_some : {X : Type 0} → {x : X} → ◌≡◌ {A = Option X} None (Some x) → ⊥
none_some h = cc

-- what isn't only declared is no name of the library
closed_storage : (l : Linkage) (s : Storage) → (s ≡ Declared → ⊥) → is_open l s ≡ false
closed_storage External Static h = refl
closed_storage External Automatic h = refl
closed_storage External FunctionBody h = refl
closed_storage External Parameter h = refl
closed_storage l Declared h = absurd (h refl)
closed_storage Internal s h = refl
closed_storage Local s h = refl

-- a node stands under another one, by the nodes alone
under_same : (u v : CoreTrees) → u.nodes ≡ v.nodes → (top n : ℕ) → Under u top n → Under v top n
under_same u v same top n here = here
under_same u v same top n (below {parent = parent} up child) =
    below (under_same u v same top parent up) (child.0, subst (λ (ns : List Node). child_in (slice_get ns parent) child.0 ≡ Some n) same child.1)

body_same : (u v : CoreTrees) → u.nodes ≡ v.nodes → (b : Option ℕ) (n : ℕ) → UnderBody u b n → UnderBody v b n
body_same u v same None n h = absurd h
body_same u v same (Some b) n h = under_same u v same b n h

-- The objects of a block are automatic.

abbrev IsAutomatic : List Entity → ℕ → Type 0
IsAutomatic entities e = (x : Entity) × (slice_get entities e ≡ Some x) × (x.storage ≡ Automatic)

each_all : {X : Type 0} (P : X → Type 0) (xs : List X) → All P xs → Each P xs
each_all P [] h = tt
each_all P (x ∷ xs) h = (All-head P x xs h, each_all P xs (All-tail P x xs h))

each_put : (P : ℕ → Type 0) (entities : List Entity) (e : ℕ) (xs : List ℕ) → P e → Each P xs → Each P (put_in_order entities e xs)
each_put P entities e [] h all = (h, tt)
each_put P entities e (x ∷ rest) h all = by (list_all (is_before entities e) (x ∷ rest)) (each_put P entities e rest h all.1)
  where
    by : (b : Bool) → Each P (put_in_order entities e rest) → Each P (cond b (e ∷ x ∷ rest) (x ∷ put_in_order entities e rest))
    by true more = (h, all)
    by false more = (all.0, more)

each_put_all : (P : ℕ → Type 0) (entities : List Entity) (list xs : List ℕ) → Each P list → Each P xs → Each P (put_all entities list xs)
each_put_all P entities list [] h all = h
each_put_all P entities list (e ∷ rest) h all = each_put_all P entities (put_in_order entities e list) rest (each_put P entities e list all.0 h) all.1

each_kept : {X : Type 0} (P : ℕ → Type 0) (f : X → Option ℕ) (xs : List X) → ((x : X) (e : ℕ) → f x ≡ Some e → P e) → Each P (filter_map f xs)
each_kept P f [] h = tt
each_kept P f (x ∷ xs) h = by (f x) refl (each_kept P f xs h)
  where
    by : (o : Option ℕ) → f x ≡ o → Each P (filter_map f xs) → Each P (cons_option o (filter_map f xs))
    by None is more = more
    by (Some e) is more = (h x e is, more)

living : (s : Storage) → lives_with_block s ≡ true → s ≡ Automatic
living Automatic h = refl
living s h = absurd (false≢true h)

automatic_there : (entities : List Entity) (e : ℕ) (o : Option Entity) → slice_get entities e ≡ o → is_automatic o ≡ true → IsAutomatic entities e
automatic_there entities e None is h = absurd (false≢true h)
automatic_there entities e (Some x) is h = (x, is, living x.storage h)

literal_automatic : (u : CoreTrees) (kind : NodeKind) (e : ℕ) → literal_of u kind ≡ Some e → IsAutomatic u.entities e
literal_automatic u (Literal o) e h = by (is_automatic (slice_get u.entities o)) refl h
  where
    by : (b : Bool) → is_automatic (slice_get u.entities o) ≡ b → cond b (Some o) None ≡ Some e → IsAutomatic u.entities e
    by true is k = subst (IsAutomatic u.entities) (some_one k) (automatic_there u.entities o (slice_get u.entities o) refl is)
    by false is k = absurd (none_some k)
literal_automatic u kind e h = absurd (none_some h)

within_automatic : (u : CoreTrees) (b : Block) (entry : ℕ × Node) (e : ℕ) → literal_within u b entry ≡ Some e → IsAutomatic u.entities e
within_automatic u b entry e h = by (is_innermost b (blocks_around u entry.0)) h
  where
    by : (t : Bool) → cond t (literal_of u entry.1.kind) None ≡ Some e → IsAutomatic u.entities e
    by true k = literal_automatic u entry.1.kind e k
    by false k = absurd (none_some k)

-- a size, so a layout
size_complete : (o : Option Extent) → IsSome (size_below o) → IsSome o
size_complete None h = h
size_complete (Some e) h = refl

same_with_one : (t : Ctype) → (LacksLength t → ⊥) → with_one t ≡ t
same_with_one (ArrayOf of None) h = absurd (h tt)
same_with_one (ArrayOf of (Some n)) h = refl
same_with_one VoidType h = refl
same_with_one BoolType h = refl
same_with_one (IntegerType size rank signed) h = refl
same_with_one FloatingType h = refl
same_with_one VaListType h = refl
same_with_one (PointerTo to) h = refl
same_with_one (FunctionFrom r ps f) h = refl
same_with_one (StructureOf tag) h = refl
same_with_one (UnionOf tag) h = refl

-- what is no function is made of its type
made_typed : (s : Storage) (ty : TypeId) → (s ≡ FunctionBody → ⊥) → type_made (entity_content s ty) ≡ Some ty
made_typed FunctionBody ty h = absurd (h refl)
made_typed Static ty h = refl
made_typed Automatic ty h = refl
made_typed Parameter ty h = refl
made_typed Declared ty h = refl

automatic_declared : Automatic ≡ Declared → ⊥
automatic_declared h = cc

body_declared : FunctionBody ≡ Declared → ⊥
body_declared h = cc

module _ (p : Program) (more : List Term) (world : World) (valid : ValidProgram p) (made : IsMade p.types) (named : AreNamed p.types) (fit : HasFit p.types) (follow : MayFollow (length p.types.terms) more) (over : IsOver p more world)
    (objects_only : AutomaticObjects (trees_in p)) where
  abbrev new : Table
  new = with_terms p.types more

  same : IsKept p.types (with_terms p.types more)
  same = kept p more valid made named fit follow

  nodes_are : (trees_of world).nodes ≡ p.nodes.items
  nodes_are = ap (λ (q : Program). q.nodes.items) over.program

  entities_are : (trees_of world).entities ≡ p.entities.items
  entities_are = ap (λ (q : Program). q.entities.items) over.program

  node_of_p : (n : ℕ) (node : Node) → slice_get (trees_of world).nodes n ≡ Some node → slice_get p.nodes.items n ≡ Some node
  node_of_p n node at = subst (λ (ns : List Node). slice_get ns n ≡ Some node) nodes_are at

  entity_of_p : (e : ℕ) (x : Entity) → slice_get (trees_of world).entities e ≡ Some x → slice_get p.entities.items e ≡ Some x
  entity_of_p e x at = subst (λ (xs : List Entity). slice_get xs e ≡ Some x) entities_are at

  entity_of_world : (e : ℕ) (x : Entity) → slice_get p.entities.items e ≡ Some x → slice_get (trees_of world).entities e ≡ Some x
  entity_of_world e x at = subst (λ (xs : List Entity). slice_get xs e ≡ Some x) (sym entities_are) at

  type_kept : (id : ℕ) → id < length p.types.terms → type_of world.program.types id ≡ type_of p.types id
  type_kept id lt = ap (λ (q : Program). type_of q.types id) over.program ∙ same.types id lt

  more_terms : (n : ℕ) → n < length p.types.terms → n < length (p.types.terms ++ more)
  more_terms n lt = (let all : length (p.types.terms ++ more) ≡ length p.types.terms + length more = length-append p.types.terms more in omega arith)

  range_more : InRange (trees_in (with_types p more))
  range_more = record {
    types = λ n node at. more_terms node.ty.0 (valid.trees.in_range.types n node at);
    children = valid.trees.in_range.children;
    entities = valid.trees.in_range.entities;
    lists = valid.trees.in_range.lists;
    entity_types = λ e x at. more_terms x.ty.0 (valid.trees.in_range.entity_types e x at);
    owners = valid.trees.in_range.owners;
    bodies = valid.trees.in_range.bodies;
  }

  tops_met : AreTops (trees_in (with_types p more))
  tops_met e function at b storage body =
      elim (subst (HasBody (trees_in p) e function) body (valid.trees.bodied e function at)).0 [ inl own ↦ own.top | inr other ↦ absurd (other.storage storage) ]

  single_met : AreSingle (trees_in (with_types p more))
  single_met e function at b body = (subst (HasBody (trees_in p) e function) body (valid.trees.bodied e function at)).1

  results : HasResults p
  results = returns_held p valid

  returns_met : ReturnsFit world
  returns_met n node at v g kind children owned =
      value_type ∙ (returned.1 ∙ sym function_type)
    where
      owner : (function : Entity) × (slice_get (trees_of world).entities g ≡ Some function) × ((function.storage ≡ FunctionBody) × UnderBody (trees_of world) function.body n)
      owner = owner_is world g n owned

      there : slice_get p.entities.items g ≡ Some owner.0
      there = entity_of_p g owner.0 owner.1

      returned : IsValue (trees_in p) v (result_of (type_of p.types owner.0.ty.0))
      returned =
          results.returned n node v g owner.0 (node_of_p n node at) kind children there
          (owner.2.0, body_same (trees_of world) (trees_in p) nodes_are owner.0.body n owner.2.1)

      value_type : type_at (trees_of world) v ≡ type_at (trees_in p) v
      value_type =
          ap (λ (q : Program). type_at (trees_in q) v) over.program
          ∙ type_same p more made follow same (nodes_known p more valid made named fit follow) (entities_known p more valid made named fit follow) v

      function_type : given_type (setting_in world) g ≡ result_of (type_of p.types owner.0.ty.0)
      function_type =
          ap (λ (o : Option Entity). result_of (type_or_void world.program.types (option_map (λ (x : Entity). x.ty) o))) owner.1
          ∙ ap result_of (type_kept owner.0.ty.0 (entities_known p more valid made named fit follow g owner.0 there))

  results_met : ResultsHeld world
  results_met f function at storage =
      let there = entity_of_p f function at in
      let lt = entities_known p more valid made named fit follow f function there in
      subst (λ (t : Table). IsHeld t (result_of (type_of world.program.types function.ty.0))) (sym (ap (λ (q : Program). q.types) over.program))
      (subst (λ (t : Ctype). IsHeld (with_terms p.types more) (result_of t)) (sym (type_kept function.ty.0 lt))
      (held_same p more made follow same (nodes_known p more valid made named fit follow) (entities_known p more valid made named fit follow) (result_of (type_of p.types function.ty.0)) (results.given f function there storage)))

  -- what is complete there is so here
  complete_more : (ty : TypeId) → ty.0 < length p.types.terms → IsSome (extent_in p.types (type_of p.types ty.0)) → IsSome (extent_in world.program.types (type_of world.program.types ty.0))
  complete_more ty lt complete =
      subst (λ (q : Program). IsSome (extent_in q.types (type_of world.program.types ty.0))) (sym over.program)
      (subst (λ (t : Ctype). IsSome (extent_in (with_terms p.types more) t)) (sym (type_kept ty.0 lt)) (subst (λ (o : Option Extent). IsSome o) (sym (same.extents (type_of p.types ty.0))) complete))

  -- an automatic object has its place
  placed : (e : ℕ) → IsAutomatic p.entities.items e → HasPlace world e
  placed e a = by (entities_placed p e a.0 made a.1 (λ is. automatic_declared (sym a.2 ∙ is)) (λ other. complete))
    where
      complete : IsSome (extent_in p.types (type_of p.types a.0.ty.0))
      complete = elim (valid.trees.measured.objects e a.0 a.1) [
        | inl function ↦ absurd (objects_only e a.0 a.1 a.2 function)
        | inr sized ↦ sized_complete sized
      ]
        where
          sized_complete : Sized (trees_in p) a.0 → IsSome (extent_in p.types (type_of p.types a.0.ty.0))
          sized_complete sized = elim sized.measured [
            | inl size ↦ size_complete (extent_in p.types (type_of p.types a.0.ty.0))
                (subst (λ (t : Ctype). HasSize p.types t) (same_with_one (type_of p.types a.0.ty.0) (valid.lengths e a.0 a.1 (inr a.2))) size).0
            | inr only ↦ absurd (automatic_declared (sym a.2 ∙ only.0))
          ]

      by : IsPlaced p (EntityKey e) (entity_content a.0.storage a.0.ty) → HasPlace world e
      by h = record {
        entity = a.0;
        entity_is = entity_of_world e a.0 a.1;
        first = h.first;
        location = h.location;
        first_is = subst (λ (ls : List Location). first_from 0 ls (EntityKey e) ≡ Some h.first) (sym over.space) h.first_is;
        location_is = subst (λ (ls : List Location). slice_get ls h.first ≡ Some h.location) (sym over.space) h.location_is;
        content_is = h.content_is ∙ ap (λ (s : Storage). entity_content s a.0.ty) a.2;
        complete = complete_more a.0.ty (entities_known p more valid made named fit follow e a.0 a.1) complete;
      }

  listed_met : (n : ℕ) → Each (IsAutomatic p.entities.items) (listed_by (kind_at p.nodes.items n))
  listed_met n = by (slice_get p.nodes.items n) refl
    where
      of_entity : (e : ℕ) (o : Option Entity) → slice_get p.entities.items e ≡ o → IsListableIn (trees_in p) n e o → IsAutomatic p.entities.items e
      of_entity e None is h = absurd h
      of_entity e (Some x) is h = (x, is, h.0)

      by : (o : Option Node) → slice_get p.nodes.items n ≡ o → Each (IsAutomatic p.entities.items) (listed_by (kind_in o))
      by None is = tt
      by (Some node) is =
          each_change (IsListable (trees_in p) n) (IsAutomatic p.entities.items) (λ e h. of_entity e (slice_get p.entities.items e) refl h) (listed_by node.kind)
          (each_all (IsListable (trees_in p) n) (listed_by node.kind) (valid.trees.lists n node is))

  block_listed : (b : Block) → Each (IsAutomatic p.entities.items) (listed_of (trees_in (with_types p more)) b)
  block_listed (Own n) = listed_met n
  block_listed (Part n) = tt

  automatic_met : (b : Block) → Each (IsAutomatic p.entities.items) (objects_of (trees_in (with_types p more)) b)
  unfolding objects_of
  automatic_met b =
      each_put_all (IsAutomatic p.entities.items) p.entities.items [] (listed_of (trees_in (with_types p more)) b ++ literals_of (trees_in (with_types p more)) b) tt
      (each_append (IsAutomatic p.entities.items) (listed_of (trees_in (with_types p more)) b) (literals_of (trees_in (with_types p more)) b) (block_listed b)
      (each_kept (IsAutomatic p.entities.items) (literal_within (trees_in (with_types p more)) b) (enumerate_from 0 p.nodes.items) (within_automatic (trees_in (with_types p more)) b)))

  places_met : (b : Block) → Each (HasPlace world) (objects_of (trees_of world) b)
  places_met b =
      subst (λ (q : Program). Each (HasPlace world) (objects_of (trees_in q) b)) (sym over.program)
      (each_change (IsAutomatic p.entities.items) (HasPlace world) placed (objects_of (trees_in (with_types p more)) b) (automatic_met b))

  objects_met : ObjectsOwn world
  objects_met e l x first at =
      let first_p = subst (λ (ls : List Location). first_from 0 ls (EntityKey e) ≡ Some l) over.space first in
      let at_p = subst (λ (ls : List Location). slice_get ls l ≡ Some x) over.space at in
      let begin = (is_first (locations_in p) (EntityKey e) l first_p).here in
      let key : x.key ≡ EntityKey e = ap (λ (y : Location). y.key) (some_one (sym at_p ∙ begin.1)) ∙ begin.2 in
      let own = subst (λ (k : ObjectKey). IsMadeOf p k x.content) key (contents_known p l x made at_p).0 in (
        own.0,
        entity_of_world e own.0 own.1,
        own.2,
        closed_key e own.0 (closed_storage own.0.linkage own.0.storage own.3),
        λ object.
            complete_more own.0.ty (entities_known p more valid made named fit follow e own.0 own.1)
            ((contents_known p l x made at_p).1 own.0.ty (ap type_made own.2 ∙ made_typed own.0.storage own.0.ty object)),
      )

  further_met : FurtherPlaced world
  further_met f function at storage further =
      let own = entity_of_p f function at in
      let type = type_kept function.ty.0 (entities_known p more valid made named fit follow f function own) in
      let h = further_placed p f function made own storage (ap takes_further (sym type) ∙ further) in
      record {
        first = h.first;
        location = h.location;
        first_is = subst (λ (ls : List Location). first_from 0 ls (VarargsKey f) ≡ Some h.first) (sym over.space) h.first_is;
        location_is = subst (λ (ls : List Location). slice_get ls h.first ≡ Some h.location) (sym over.space) h.location_is;
        content_is = h.content_is;
      }

  blocks_met : BodiesBlocks world
  blocks_met f function at b storage body =
      subst (λ (ns : List Node). IsBlockIn (slice_get ns b)) (sym nodes_are)
      (elim (subst (HasBody (trees_in p) f function) body (valid.trees.bodied f function (entity_of_p f function at))).0 [ inl own ↦ own.block | inr other ↦ absurd (other.storage storage) ])

  -- a function at which the program is entered has a body, so a location
  entries_found : (e : ℕ) → Contains p.entries.items e → HasFirst world e
  entries_found e at =
      let entry = All-contains (λ (n : ℕ). IsEntryAt (trees_in p) n) p.entries.items e valid.entries at in
      let placed_there = entities_placed p e entry.0 made entry.1 (λ is. body_declared (sym entry.2.storage ∙ is)) (λ other. absurd (other entry.2.storage)) in
      (placed_there.first, subst (λ (ls : List Location). first_from 0 ls (EntityKey e) ≡ Some placed_there.first) (sym over.space) placed_there.first_is)

pub runnable_met : RunnableMet
runnable_met p more world valid made named fit follow over grounds closed found objects_only = record {
  stands = stands_met p more world valid made named fit follow over grounds closed found (entries_found p more world valid made named fit follow over objects_only);
  typed = above_met p more world valid made over;
  range = subst (λ (q : Program). InRange (trees_in q)) (sym over.program) (range_more p more world valid made named fit follow over objects_only);
  once = subst (λ (q : Program). ChildOnce (trees_in q)) (sym over.program) valid.trees.child_once;
  tops = subst (λ (q : Program). AreTops (trees_in q)) (sym over.program) (tops_met p more world valid made named fit follow over objects_only);
  single = subst (λ (q : Program). AreSingle (trees_in q)) (sym over.program) (single_met p more world valid made named fit follow over objects_only);
  returns = returns_met p more world valid made named fit follow over objects_only;
  results = results_met p more world valid made named fit follow over objects_only;
  places = places_met p more world valid made named fit follow over objects_only;
  objects = objects_met p more world valid made named fit follow over objects_only;
  further = further_met p more world valid made named fit follow over objects_only;
  blocks = blocks_met p more world valid made named fit follow over objects_only;
  fit = subst (λ (q : Program). (tag : ℕ) → ((i : ℕ) → slice_get q.types.terms i ≡ Some (Union tag) → ⊥) → IsFew q.types (StructureOf tag)) (sym over.program)
      (structures_few (with_terms p.types more) (kept p more valid made named fit follow).made (kept p more valid made named fit follow).named
      (fit_more p more valid made named fit follow));
}
