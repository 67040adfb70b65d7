-- What a world over a linked program has of the library.
use Rattle.std.proofs.Common.{arith, ◌≡◌, ◌∙◌, ◌⊎◌, inl, inr, ℕ, zero, suc, ◌+◌, ◌<◌, Bool, true, false, cond, nat_eq, List, [], ◌∷◌, length, map, filter_map, Option, Some, None, IsSome, slice_get, Contains, refl, sym, ap, subst}
use Rattle.std.specs.List.{cons_option, enumerate_from, range_with_len}
use Rattle.std.specs.Option.{option_map}
use Rattle.std.proofs.lemmas.Bool.{false≢true}
use Rattle.std.proofs.lemmas.Bool.Decides.{eqb_tells}
use Rattle.std.proofs.lemmas.List.Elements.{Contains-append_left, Contains-append_right}
use Rattle.c_types.specs.declared.key.ObjectKey.{ObjectKey}
use Rattle.c_types.specs.declared.key.ObjectKey.TheVariants.{Entity as EntityKey, Text as TextKey, Call as CallKey, Library as LibraryKey, Star as StarKey, Function as FunctionKey, Varargs as VarargsKey, Outside as OutsideKey}
use Rattle.c_types.specs.declared.term.Form.TheVariants.{Fixed, Variadic, Unspecified}
use Rattle.c_types.specs.declared.term.Term.{Term}
use Rattle.c_types.specs.declared.term.TypeId.{TypeId}
use Rattle.c_types.specs.Layout.{Extent}
use Rattle.c_types.specs.Trees.{Ctype, FunctionFrom, IntegerType, StructureOf}
use Rattle.c_types.specs.Table.{type_of, extent_in}
use Rattle.c_types.specs.Made.{IsMade, AreNamed}
use Rattle.type_rules.specs.Kinds.{IsFunction}
use Rattle.core_tree.specs.declared.node.Entity.{Entity}
use Rattle.core_tree.specs.declared.node.Linkage.{Linkage}
use Rattle.core_tree.specs.declared.node.Linkage.TheVariants.{External}
use Rattle.core_tree.specs.declared.node.Node.{Node}
use Rattle.core_tree.specs.declared.node.NodeKind.{NodeKind}
use Rattle.core_tree.specs.declared.node.NodeKind.TheVariants.{Convert}
use Rattle.core_tree.specs.declared.node.Program.{Program}
use Rattle.core_tree.specs.declared.node.Unit.{Unit}
use Rattle.core_tree.specs.declared.node.Storage.{Storage}
use Rattle.core_tree.specs.declared.node.Storage.TheVariants.{Static, Automatic, FunctionBody, Parameter, Declared}
use Rattle.core_tree.specs.Rows.{RowOf, ConvertRow}
use Rattle.core_tree.specs.Typed.{trees_in}
use Rattle.core_tree.specs.Valid.{ValidProgram, HasBody}
use Rattle.sol_model.specs.Solutions.{IsLeast}
use Rattle.sol_model.specs.Systems.{IsValid}
use Rattle.lib_summaries.specs.Table.{Numbered, summary_of}
use Rattle.obj_made.specs.declared.object.Content.{Content}
use Rattle.obj_made.specs.declared.object.Content.TheVariants.{Blob, Scalars, Elements}
use Rattle.obj_made.specs.Made.{entity_content, allocated_content, typed_by, converts, converts_kind, conversion_above}
use Rattle.obj_made.specs.Uses.{is_allocator, is_named, is_starred}
use Rattle.obj_space.specs.declared.location.Location.{Location}
use Rattle.obj_space.specs.Parts.{nodes_of as tree_nodes}
use Rattle.obj_space.specs.Space.{locations_in, HasTrees}
use Rattle.obj_space.specs.Spots.{type_made}
use Rattle.obj_space.specs.View.{first_from}
use Rattle.link_model.specs.filled_units.Filled.{AreFilled}
use Rattle.link_names.specs.Shape.{HasShape, is_function_shape}
use Rattle.link_names.specs.Together.{is_listed}
use Rattle.unit_link.specs.Linked.{LinkedAt}
use Rattle.unit_link.specs.Needs.{AreLinkable}
use Rattle.row_numbers.specs.declared.functions.Role.TheVariants.{Defined}
use Rattle.row_numbers.specs.Objects.{is_open, library_number}
use Rattle.row_numbers.specs.Kept.{nodes_of, kept_at}
use Rattle.row_numbers.specs.Functions.{has_body, key_if, keys_in, function_keys, key_id, type_or_void, key_type, parameters_of}
use Rattle.call_sites.specs.Signatures.{called_type}
use Rattle.call_sites.specs.Calls.{named_library}
use Rattle.linked_laws.proofs.main_laws.Mains.{start_body}
use Rattle.linked_laws.proofs.system_laws.fact_laws.Facts.{nodes_known}
use Rattle.ref_calls.specs.Calls.{is_function, signature_of}
use Rattle.covered_runs.specs.covered_programs.library_names.Names.{IsTypedBy}
use Rattle.covered_runs.proofs.covered_programs.library_names.Numbers.{numbers_known}
use Rattle.covered_runs.proofs.covered_programs.library_names.Naming.{names_shaped}
use Rattle.covered_runs.proofs.covered_programs.library_names.Typed.{library_typed}
use Rattle.covered_runs.specs.covered_programs.allocation_laws.Spread.{IsRight, AreSpaced}
use Rattle.covered_runs.proofs.covered_programs.allocation_laws.Spaced.{objects_spaced}
use Rattle.covered_runs.proofs.covered_programs.allocation_laws.Spreading.{allocators_spread}
use Rattle.covering_laws.specs.object_contents.Contents.{IsMadeOf, IsCallMade, IsMadeWhole}
use Rattle.covering_laws.proofs.object_contents.Contents.{contents_known}
use Rattle.covering_laws.specs.grown_programs.Grown.{with_terms, with_types, MayFollow, IsKept}
use Rattle.covering_laws.proofs.grown_programs.Tables.{tables_grow}
use Rattle.covering_laws.proofs.covered_memory.Firsts.{is_first}
use Rattle.covering_laws.proofs.covered_needs.Named.{library_made}
use Rattle.covering_laws.proofs.covered_needs.Fresh.{calls_are_made}
use Rattle.covering_laws.specs.covered_state.World.{World, trees_of, view_in, IsTargetAt}
use Rattle.covering_laws.specs.covered_state.Items.{IsOwned}
use Rattle.covered_runs.specs.covered_steps.covered_values.Met.{HasFit, IsOver}
use Rattle.covered_runs.specs.covered_steps.covered_values.Values.{Stands}
use Rattle.covered_runs.proofs.covered_steps.covered_values.Standing.{fit_more}
use Rattle.covered_runs.specs.covered_steps.Made.{HasPlace}
use Rattle.covered_runs.specs.covered_steps.covered_statements.Runnable.{IsRunnable}
use Rattle.covered_runs.proofs.covered_steps.covered_statements.Calling.{has_place, body_owned}
use Rattle.covered_runs.proofs.covered_steps.covered_statements.Keys.{parameter_there}
use Rattle.covered_runs.specs.covered_steps.covered_effects.Served.{solved, IsOfShape, IsStarObject, is_starred_in, IsConverted, IsServed}
use Rattle.covered_runs.specs.covered_programs.served_worlds.Serving.{WorldsServed}
use Rattle.covered_runs.proofs.covered_programs.served_worlds.Stars.{allocator_number, star_located}

some_one : {X : Type 0} → {x y : X} → ◌≡◌ {A = Option X} (Some x) (Some y) → x ≡ y
some_one h = cc

none_some : {X : Type 0} → {x : X} → ◌≡◌ {A = Option X} None (Some x) → ⊥
none_some h = cc

elements_scalars : {a : TypeId} → {k : ℕ} → Elements a ≡ Scalars k → ⊥
elements_scalars h = cc

elements_blob : {a : TypeId} → Elements a ≡ Blob → ⊥
elements_blob h = cc

is_function_type : (t : Ctype) → is_function (called_type t) ≡ true → IsFunction t
is_function_type (FunctionFrom r ps Fixed) e = tt
is_function_type (FunctionFrom r ps Variadic) e = tt
is_function_type (FunctionFrom r ps Unspecified) e = tt
is_function_type t e = absurd (false≢true e)

-- the conversion above a call
record IsAbove (nodes : List Node) (n : ℕ) : Type 0 where
  at : ℕ
  node : Node
  there : slice_get nodes at ≡ Some node
  is : converts node n ≡ true

above : (nodes : List Node) (n : ℕ) (ty : TypeId) → conversion_above nodes n ≡ Some ty → IsAbove nodes n
above [] n ty h = absurd (none_some h)
above (node ∷ rest) n ty h = by (converts node n) refl h (above rest n ty)
  where
    by : (b : Bool) → converts node n ≡ b → cond b (Some node.ty) (conversion_above rest n) ≡ Some ty → (conversion_above rest n ≡ Some ty → IsAbove rest n) → IsAbove (node ∷ rest) n
    by true is g f = record { at = 0; node = node; there = refl; is = is }
    by false is g f = (let r = f g in record { at = suc r.at; node = r.node; there = r.there; is = r.is })

converts_is : (kind : NodeKind) (child : Option ℕ) (n : ℕ) → converts_kind kind child n ≡ true → (kind ≡ Convert) × (child ≡ Some n)
converts_is Convert None n e = absurd (false≢true e)
converts_is Convert (Some m) n e = elim (eqb_tells m n) [ inl same ↦ (refl, ap (λ (k : ℕ). Some k) same.1) | inr other ↦ absurd (false≢true (sym other.0 ∙ e)) ]
converts_is kind child n e = absurd (false≢true e)

-- a shape of more than one letter is a function's
shape_function : (t : Ctype) (shape : List ℕ) → HasShape t shape → is_function_shape shape ≡ true → IsFunction t
shape_function (FunctionFrom r ps f) shape h many = tt
shape_function t [] h many = absurd (false≢true many)
shape_function t (letter ∷ []) h many = absurd (false≢true many)
shape_function t (c ∷ d ∷ rest) h many = absurd h

open_external : (l : Linkage) (s : Storage) → is_open l s ≡ true → (l ≡ External) × (s ≡ Declared)
open_external External Declared h = (refl, refl)
open_external l s h = absurd (false≢true h)

-- an entity that is the library's name of a number
record IsLibraryName (x : Entity) (k : ℕ) : Type 0 where
  linkage : x.linkage ≡ External
  storage : x.storage ≡ Declared
  found : Numbered
  found_is : summary_of x.name ≡ Some found
  number : found.number ≡ k

library_name : (x : Entity) (k : ℕ) → library_number x ≡ Some k → IsLibraryName x k
library_name x k h = by (is_open x.linkage x.storage) refl h
  where
    of_name : (x.linkage ≡ External) × (x.storage ≡ Declared) → (o : Option Numbered) → summary_of x.name ≡ o → option_map (λ found. found.number) o ≡ Some k → IsLibraryName x k
    of_name own None is g = absurd (none_some g)
    of_name own (Some found) is g = record { linkage = own.0; storage = own.1; found = found; found_is = is; number = some_one g }

    by : (b : Bool) → is_open x.linkage x.storage ≡ b → cond b (option_map (λ found. found.number) (summary_of x.name)) None ≡ Some k → IsLibraryName x k
    by true is g = of_name (open_external x.linkage x.storage is) (summary_of x.name) refl g
    by false is g = absurd (none_some g)

kept_within : (nodes : List Ctype) (i : ℕ) → kept_at (slice_get nodes i) ≡ true → i < length nodes
kept_within [] i h = absurd (false≢true h)
kept_within (x ∷ nodes) zero h = omega arith
kept_within (x ∷ nodes) (suc i) h = (let lt = kept_within nodes i h in omega arith)

parameter_body : Parameter ≡ FunctionBody → ⊥
parameter_body h = cc

-- a function with a body is one of the program's functions
entity_listed : (i e : ℕ) (xs : List Entity) (j : ℕ) (x : Entity) → slice_get xs j ≡ Some x → i + j ≡ e → x.storage ≡ FunctionBody → Contains (filter_map (λ entry. key_if Defined entry.0 entry.1) (enumerate_from i xs)) (EntityKey e)
entity_listed i e [] j x at is storage = absurd (none_some at)
entity_listed i e (y ∷ rest) zero x at is storage =
    let same : y.storage ≡ FunctionBody = ap (λ (z : Entity). z.storage) (some_one at) ∙ storage in
    let number : i ≡ e = omega arith in
    let kept : key_if Defined i y ≡ Some (EntityKey e) = ap (λ (s : Storage). cond (has_body s) (Some (EntityKey i)) None) same ∙ ap (λ (k : ℕ). let o : Option ObjectKey = Some (EntityKey k) in o) number in
    subst (λ (o : Option ObjectKey). Contains (cons_option o (filter_map (λ entry. key_if Defined entry.0 entry.1) (enumerate_from (i + 1) rest))) (EntityKey e)) (sym kept) (0, omega arith, refl)
entity_listed i e (y ∷ rest) (suc j) x at is storage = by (key_if Defined i y) (entity_listed (i + 1) e rest j x at (omega arith) storage)
  where
    by : (o : Option ObjectKey) → Contains (filter_map (λ entry. key_if Defined entry.0 entry.1) (enumerate_from (i + 1) rest)) (EntityKey e)
        → Contains (cons_option o (filter_map (λ entry. key_if Defined entry.0 entry.1) (enumerate_from (i + 1) rest))) (EntityKey e)
    by None h = h
    by (Some key) (m, lt, own) = (suc m, omega arith, own)

library_listed : (a n k : ℕ) → k < n → Contains (map (λ (j : ℕ). FunctionKey j) (range_with_len a n)) (FunctionKey (a + k))
library_listed a zero k lt = absurd (omega arith)
library_listed a (suc n) zero lt = (0, omega arith, ap (λ (j : ℕ). FunctionKey j) (let e : a ≡ a + 0 = omega arith in e))
library_listed a (suc n) (suc k) lt =
    let (m, within, own) = library_listed (a + 1) n k (omega arith) in
    let same : (a + 1) + k ≡ a + suc k = omega arith in
    subst (λ (j : ℕ). Contains (map (λ (j : ℕ). FunctionKey j) (range_with_len a (suc n))) (FunctionKey j)) same (suc m, omega arith, own)

module _ (entered : List (List ℕ)) (units : List Unit) (p : Program) (more : List Term) (world : World) (characters : TypeId) (linkable : AreLinkable units) (filled : AreFilled units) (linked : LinkedAt entered units p) (valid : ValidProgram p) (made : IsMade p.types)
    (named : AreNamed p.types) (fit : HasFit p.types) (follow : MayFollow (length p.types.terms) more) (over : IsOver p more world) (runs : IsRunnable world) (system_valid : IsValid world.system) (least : IsLeast world.system world.family)
    (characters_are : type_of world.program.types characters.0 ≡ IntegerType 1 1 true) where
  abbrev stands : Stands world
  stands = runs.stands

  typed : (k : ℕ) → is_named p.entities.items p.nodes.items k ≡ true → IsTypedBy (trees_in p) k
  typed = library_typed units p linkable filled linked valid

  kept : IsKept p.types (with_terms p.types more)
  kept = tables_grow p.types more made named follow

  -- what is at the first location of an object
  record IsLocated (key : ObjectKey) (l : ℕ) : Type 0 where
    location : Location
    here : slice_get (locations_in p) l ≡ Some location
    key_is : location.key ≡ key
    of : IsMadeOf p key location.content
    whole : IsMadeWhole p.types location.content

  located : (key : ObjectKey) (l : ℕ) → first_from 0 world.space key ≡ Some l → IsLocated key l
  located key l first =
      let x = (is_first world.space key l first).here in
      let here : slice_get (locations_in p) l ≡ Some x.0 = ap (λ (s : List Location). slice_get s l) (sym over.space) ∙ x.1 in
      let known = contents_known p l x.0 made here in
      record { location = x.0; here = here; key_is = x.2; of = subst (λ (k : ObjectKey). IsMadeOf p k x.0.content) x.2 known.0; whole = known.1 }

  -- the location that is there is that one
  content_is : (key : ObjectKey) (l : ℕ) (first : first_from 0 world.space key ≡ Some l) (x : Location) → slice_get world.space l ≡ Some x → (located key l first).location.content ≡ x.content
  content_is key l first x at = ap (λ (y : Location). y.content) (some_one (sym (located key l first).here ∙ (ap (λ (s : List Location). slice_get s l) (sym over.space) ∙ at)))

  shapes : (k l : ℕ) → k < 55 → first_from 0 world.space (FunctionKey k) ≡ Some l → IsOfShape (trees_of world) k
  shapes k l lt first =
      let t = typed k (located (FunctionKey k) l first).of.1 in
      let same : key_type (trees_in (with_types p more)) (FunctionKey k) ≡ type_of p.types t.id.0 = ap (type_or_void (with_terms p.types more)) t.id_is ∙ kept.types t.id.0 t.within in
      subst (λ (q : Program). IsOfShape (trees_in q) k) (sym over.program) (record {
        row = t.row;
        row_is = t.row_is;
        shape = subst (λ (s : Ctype). HasShape s t.row.shape) (sym same) t.shape;
        listed = ap is_listed same ∙ t.listed lt;
      })

  sized : (t : Ctype) → IsFunction t → IsSome (extent_in p.types t) → ⊥
  sized (FunctionFrom r ps f) h some = false≢true some
  sized t h some = h

  -- a function that is an object has a body
  bodied : (s : Storage) (x : Entity) (content : Content) → x.storage ≡ s → content ≡ entity_content x.storage x.ty → IsFunction (type_of p.types x.ty.0) → IsMadeWhole p.types content → x.storage ≡ FunctionBody
  bodied FunctionBody x content is made_of own whole = is
  bodied Static x content is made_of own whole = absurd (sized (type_of p.types x.ty.0) own (whole x.ty (ap type_made made_of ∙ ap (λ (s : Storage). type_made (entity_content s x.ty)) is)))
  bodied Automatic x content is made_of own whole = absurd (sized (type_of p.types x.ty.0) own (whole x.ty (ap type_made made_of ∙ ap (λ (s : Storage). type_made (entity_content s x.ty)) is)))
  bodied Parameter x content is made_of own whole = absurd (sized (type_of p.types x.ty.0) own (whole x.ty (ap type_made made_of ∙ ap (λ (s : Storage). type_made (entity_content s x.ty)) is)))
  bodied Declared x content is made_of own whole = absurd (sized (type_of p.types x.ty.0) own (whole x.ty (ap type_made made_of ∙ ap (λ (s : Storage). type_made (entity_content s x.ty)) is)))

  function_by : (key : ObjectKey) (l : ℕ) → first_from 0 world.space key ≡ Some l → is_function (signature_of (trees_in (with_types p more)) key) ≡ true → Contains (function_keys (trees_in (with_types p more))) key
  function_by (FunctionKey k) l first function =
      let t = typed k (located (FunctionKey k) l first).of.1 in
      let same : key_type (trees_in (with_types p more)) (FunctionKey k) ≡ type_of p.types t.id.0 = ap (type_or_void (with_terms p.types more)) t.id_is ∙ kept.types t.id.0 t.within in
      let lt = t.function (is_function_type (type_of p.types t.id.0) (ap (λ (s : Ctype). is_function (called_type s)) (sym same) ∙ function)) in
      Contains-append_right (keys_in Defined p.entities.items) (map (λ (j : ℕ). FunctionKey j) (range_with_len 0 55)) (FunctionKey k)
      (subst (λ (j : ℕ). Contains (map (λ (j : ℕ). FunctionKey j) (range_with_len 0 55)) (FunctionKey j)) (let e : 0 + k ≡ k = omega arith in e) (library_listed 0 55 k lt))
  function_by (EntityKey e) l first function =
      let at = located (EntityKey e) l first in
      let x = at.of.0 in
      let id : key_id (trees_in (with_types p more)) (EntityKey e) ≡ Some x.ty = ap (option_map (λ (y : Entity). y.ty)) at.of.1 in
      let same : key_type (trees_in (with_types p more)) (EntityKey e) ≡ type_of p.types x.ty.0 = ap (type_or_void (with_terms p.types more)) id ∙ kept.types x.ty.0 (valid.trees.in_range.entity_types e x at.of.1) in
      let own : IsFunction (type_of p.types x.ty.0) = is_function_type (type_of p.types x.ty.0) (ap (λ (s : Ctype). is_function (called_type s)) (sym same) ∙ function) in
      Contains-append_left (keys_in Defined p.entities.items) (map (λ (j : ℕ). FunctionKey j) (range_with_len 0 55)) (EntityKey e)
      (entity_listed 0 e p.entities.items e x at.of.1 (omega arith) (bodied x.storage x at.location.content refl at.of.2 own at.whole))
  function_by (TextKey m) l first function = absurd (false≢true function)
  function_by (CallKey m) l first function = absurd (false≢true function)
  function_by (LibraryKey m) l first function = absurd (false≢true function)
  function_by (StarKey m) l first function = absurd (false≢true function)
  function_by (VarargsKey m) l first function = absurd (false≢true function)
  function_by OutsideKey l first function = absurd (false≢true function)

  -- a conversion over a call alone
  converted_by : (node : Node) (n : ℕ) (kind : node.kind ≡ Convert) (children : List ℕ) → node.children ≡ children → ConvertRow (trees_in p) (type_of p.types node.ty.0) children → slice_get children 0 ≡ Some n → node.children ≡ n ∷ []
  converted_by node n kind (v ∷ []) is row first = is ∙ ap (λ (k : ℕ). k ∷ []) (some_one first)
  converted_by node n kind [] is row first = absurd row
  converted_by node n kind (v ∷ w ∷ rest) is row first = absurd row

  conversion_is : (n : ℕ) (o : Option TypeId) (number : ℕ) (id : TypeId) → Elements id ≡ allocated_content number (typed_by p.types o) → (ty : TypeId) × (o ≡ Some ty)
  conversion_is n (Some ty) number id e = (ty, refl)
  conversion_is n None number id e = absurd (by (nat_eq number 21) e)
    where
      by : (b : Bool) → Elements id ≡ (let c : Content = cond b (Scalars 0) Blob in c) → ⊥
      by true g = elements_scalars g
      by false g = elements_blob g

  conversions : (n first : ℕ) (location : Location) (id : TypeId) → first_from 0 world.space (CallKey n) ≡ Some first → slice_get world.space first ≡ Some location → location.content ≡ Elements id → IsConverted world n
  conversions n first location id first_is at content =
      let x = located (CallKey n) first first_is in
      let call : IsCallMade p n x.location.content = x.of in
      let own : Elements id ≡ allocated_content call.number (typed_by p.types (conversion_above p.nodes.items n)) = sym content ∙ (sym (content_is (CallKey n) first first_is location at) ∙ call.content_is) in
      let ty = conversion_is n (conversion_above p.nodes.items n) call.number id own in
      let a = above p.nodes.items n ty.0 ty.1 in
      let two = converts_is a.node.kind (slice_get a.node.children 0) n a.is in
      let row : ConvertRow (trees_in p) (type_of p.types a.node.ty.0) a.node.children = subst (λ (k : NodeKind). RowOf (trees_in p) k (type_of p.types a.node.ty.0) a.node.children) two.0 (valid.trees.rows a.at a.node a.there) in
      record {
        at = a.at;
        node = a.node;
        there = ap (λ (q : Program). slice_get q.nodes.items a.at) over.program ∙ a.there;
        kind = two.0;
        child = converted_by a.node n two.0 a.node.children refl row two.1;
      }

  entity_of_p : (e : ℕ) (x : Entity) → slice_get (trees_of world).entities e ≡ Some x → slice_get p.entities.items e ≡ Some x
  entity_of_p e x at = sym (ap (λ (q : Program). slice_get q.entities.items e) over.program) ∙ at

  type_kept : (id : TypeId) → id.0 < length p.types.terms → type_of world.program.types id.0 ≡ type_of p.types id.0
  type_kept id lt = ap (λ (q : Program). type_of q.types id.0) over.program ∙ kept.types id.0 lt

  -- what is called as an allocating function is a function
  shaped : (e : ℕ) (x : Entity) → slice_get (trees_of world).entities e ≡ Some x → (k : ℕ) → library_number x ≡ Some k → is_allocator k ≡ true → IsFunction (type_of world.program.types x.ty.0)
  shaped e x at k number allocates =
      let own = library_name x k number in
      let at_p = entity_of_p e x at in
      let shape = names_shaped units p linkable filled linked e x own.found at_p own.linkage own.storage own.found_is in
      let few : own.found.number < 55 = small k own.found.number own.number (allocator_number k allocates) in
      let many = (numbers_known x.name own.found own.found_is).function few in
      subst IsFunction (sym (type_kept x.ty (valid.trees.in_range.entity_types e x at_p))) (shape_function (type_of p.types x.ty.0) own.found.row.shape shape.shape many)
    where
      small : (k n : ℕ) → n ≡ k → (k < 3) ⊎ (k ≡ 21) → n < 55
      small k n same h = elim h [ inl few ↦ omega arith | inr one ↦ omega arith ]

  right : IsRight world.program
  right = record {
    made = stands.grounds.made;
    named = stands.grounds.named;
    fit = record { each = subst (λ (q : Program). HasFit q.types) (sym over.program) (fit_more p more valid made named fit follow) };
    rows = stands.rows;
    once = runs.once;
    literals = stands.literals;
    shaped = shaped;
  }

  spaced_base : AreSpaced p (locations_in p)
  spaced_base = (let start = start_body units p linkable linked in objects_spaced p start.0 start.1 made start.2 start.3)

  trees_more : HasTrees (with_terms p.types more) (locations_in p)
  trees_more l tag i x t at apart number node = spaced_base.trees l tag i x t at apart number (ap (λ (o : Option Extent). slice_get (tree_nodes o) i) (sym (kept.extents (StructureOf tag))) ∙ node)

  spaced_more : AreSpaced (with_types p more) (locations_in p)
  spaced_more = record { trees = trees_more; functions = spaced_base.functions; after = spaced_base.after }

  spaced : AreSpaced world.program world.space
  spaced = subst (λ (q : Program). AreSpaced q world.space) (sym over.program) (subst (AreSpaced (with_types p more)) (sym over.space) spaced_more)

  spread : (n k : ℕ) (node : Node) → slice_get (trees_of world).nodes n ≡ Some node → IsTargetAt world n (FunctionKey k) → is_allocator k ≡ true → (named_library (trees_of world) node ≡ Some k) ⊎ is_starred_in world k
  spread n k node there target allocates =
      allocators_spread world.program world.space world.system world.is_system world.family n k target.call target.function node right runs.returns spaced system_valid least there target.call_is target.function_is target.target allocates

  stars : (k : ℕ) → is_allocator k ≡ true → is_starred_in world k → IsStarObject world k
  stars k allocates starred =
      let l = star_located p k allocates (subst (λ (q : Program). is_starred q.entities.items q.nodes.items k ≡ true) over.program starred) in
      let first : first_from 0 world.space (StarKey k) ≡ Some l.0 = subst (λ (s : List Location). first_from 0 s (StarKey k) ≡ Some l.0) (sym over.space) l.1 in
      let x = located (StarKey k) l.0 first in
      record {
        first = l.0;
        location = x.location;
        first_is = first;
        location_is = ap (λ (s : List Location). slice_get s l.0) over.space ∙ x.here;
        content_is = x.of.0;
      }

  parameters : (f k : ℕ) (key : ObjectKey) → slice_get (parameters_of (trees_of world) (view_in world) f) k ≡ Some key → (e : ℕ) × (key ≡ EntityKey e) × HasPlace world e
  parameters f k key at =
      let own = parameter_there (trees_of world) (view_in world) f k key at in (
        own.e,
        own.key_is,
        has_place world runs own.e own.first own.entity own.there (λ is. parameter_body (sym own.storage ∙ is)) (subst (λ (q : ObjectKey). first_from 0 world.space q ≡ Some own.first) own.key_is own.first_is),
      )

  -- a function's body is its own
  body_storage : (e : ℕ) (x : Entity) (b : ℕ) → slice_get p.entities.items e ≡ Some x → x.body ≡ Some b → IsFunction (type_of p.types x.ty.0) → x.storage ≡ FunctionBody
  body_storage e x b at body function = elim (subst (HasBody (trees_in p) e x) body (valid.trees.bodied e x at)).0 [ inl own ↦ own.storage | inr other ↦ absurd (other.object function) ]

  bodies : (e : ℕ) (x : Entity) (b : ℕ) → slice_get (trees_of world).entities e ≡ Some x → x.body ≡ Some b → is_function (signature_of (trees_of world) (EntityKey e)) ≡ true → IsOwned world (EntityKey e) b
  bodies e x b at body function =
      let at_p = entity_of_p e x at in
      let id : key_id (trees_of world) (EntityKey e) ≡ Some x.ty = ap (option_map (λ (y : Entity). y.ty)) at in
      let same : key_type (trees_of world) (EntityKey e) ≡ type_of p.types x.ty.0 = ap (type_or_void world.program.types) id ∙ type_kept x.ty (valid.trees.in_range.entity_types e x at_p) in
      let own : IsFunction (type_of p.types x.ty.0) = is_function_type (type_of p.types x.ty.0) (ap (λ (s : Ctype). is_function (called_type s)) (sym same) ∙ function) in
      body_owned world runs e b x at (body_storage e x b at_p body own) body

  served : IsServed world runs.stands characters
  served = record {
    shapes = shapes;
    objects = λ l x k at key. library_made p l x k made (ap (λ (s : List Location). slice_get s l) (sym over.space) ∙ at) key;
    calls = calls_are_made p more (solved world runs.stands) made named follow over.program over.space;
    stars = stars;
    spread = spread;
    star_contents = λ k first location first_is at. sym (content_is (StarKey k) first first_is location at) ∙ (located (StarKey k) first first_is).of.0;
    functions = λ key l first function.
        subst (λ (q : Program). Contains (function_keys (trees_in q)) key) (sym over.program) (function_by key l first (subst (λ (q : Program). is_function (signature_of (trees_in q) key) ≡ true) over.program function));
    conversions = conversions;
    parameters = parameters;
    bodies = bodies;
    counted = λ id i kept_node. (nodes_known world.program.types stands.grounds.made stands.grounds.named world.system world.is_system.types id.0 i (kept_within (nodes_of world.program.types (type_of world.program.types id.0)) i kept_node)).within;
    characters_are = characters_are;
  }

pub worlds_served : WorldsServed
worlds_served entered units p more world characters linkable filled linked valid made named fit follow over runs system_valid least characters_are =
    served entered units p more world characters linkable filled linked valid made named fit follow over runs system_valid least characters_are
