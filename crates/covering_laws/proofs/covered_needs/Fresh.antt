-- What a direct call of an allocating function makes is the call's own object.
use Rattle.std.proofs.Common.{arith, ◌≡◌, ◌∙◌, inl, ℕ, zero, suc, ◌+◌, Bool, true, false, cond, nat_eq, List, [], ◌∷◌, length, Option, Some, None, IsSome, slice_get, Contains, refl, sym, ap, subst, eq-eqb}
use Rattle.std.specs.Prelude.{⊤}
use Rattle.std.specs.Option.{option_map, option_and_then}
use Rattle.c_types.specs.declared.key.ObjectKey.{ObjectKey}
use Rattle.c_types.specs.declared.key.ObjectKey.TheVariants.{Call as CallKey, Star as StarKey}
use Rattle.c_types.specs.declared.term.Term.{Term}
use Rattle.c_types.specs.declared.term.TypeId.{TypeId}
use Rattle.c_types.specs.Trees.{IntegerType}
use Rattle.c_types.specs.Layout.{Extent}
use Rattle.c_types.specs.Table.{Table, type_of, extent_in}
use Rattle.c_types.specs.Made.{IsMade, AreNamed}
use Rattle.type_rules.specs.Kinds.{IsScalar}
use Rattle.core_tree.specs.declared.node.Entity.{Entity}
use Rattle.core_tree.specs.declared.node.Node.{Node}
use Rattle.core_tree.specs.declared.node.NodeKind.{NodeKind}
use Rattle.core_tree.specs.declared.node.NodeKind.TheVariants.{FunctionName, Decay, CallNode}
use Rattle.core_tree.specs.declared.node.Linkage.{Linkage}
use Rattle.core_tree.specs.declared.node.Linkage.TheVariants.{External, Internal, Local}
use Rattle.core_tree.specs.declared.node.Storage.{Storage}
use Rattle.core_tree.specs.declared.node.Storage.TheVariants.{Static, Automatic, FunctionBody, Parameter, Declared}
use Rattle.core_tree.specs.declared.node.Program.{Program}
use Rattle.core_tree.specs.Typed.{CoreTrees, trees_in}
use Rattle.lib_summaries.specs.Table.{summary_of}
use Rattle.sol_model.specs.declared.system.CallSite.{CallSite}
use Rattle.sol_model.specs.declared.system.Function.{Function}
use Rattle.obj_made.specs.declared.object.Content.{Content}
use Rattle.obj_made.specs.declared.object.Content.TheVariants.{Scalars}
use Rattle.obj_made.specs.Made.{allocated_content, elements_or_blob, typed_by, conversion_above, called_entity, entity_by}
use Rattle.obj_made.specs.Uses.{number_in, entity_number, is_allocator, function_entity, function_node, decayed_in, callee_at, callee_in, direct_callee}
use Rattle.obj_space.specs.declared.location.Location.{Location}
use Rattle.obj_space.specs.Parts.{type_number}
use Rattle.obj_space.specs.Space.{locations_in}
use Rattle.obj_space.specs.Spots.{type_made}
use Rattle.obj_space.specs.View.{first_from, view_of}
use Rattle.row_numbers.specs.Objects.{is_open, library_number}
use Rattle.call_sites.specs.Calls.{head_of, name_of, name_at, under_decay, decayed_at, named_callee, named_library, is_named}
use Rattle.ref_lib.specs.declared.rows.Making.TheVariants.{Malloc, Calloc, Realloc}
use Rattle.ref_lib.specs.declared.rows.Row.{Row}
use Rattle.ref_lib.specs.declared.rows.Row.TheVariants.{Makes, Writes}
use Rattle.ref_lib.specs.declared.rows.Texts.TheVariants.{Duplicate}
use Rattle.ref_lib.specs.Effects.{rows}
use Rattle.covering_laws.specs.object_contents.Contents.{IsMadeOf}
use Rattle.covering_laws.proofs.object_contents.Contents.{contents_known}
use Rattle.covering_laws.proofs.object_contents.Made.{calls_made}
use Rattle.covering_laws.specs.grown_programs.Grown.{with_terms, MayFollow, IsKept, with_types}
use Rattle.covering_laws.proofs.grown_programs.Tables.{tables_grow}
use Rattle.covering_laws.specs.covered_memory.Covered.{HasShape}
use Rattle.covering_laws.specs.covered_rows.Laws.{Solved, sets_in}
use Rattle.covering_laws.specs.covered_library.Calls.{IsFresh, IsScalars}
use Rattle.covering_laws.specs.covered_library.Laws.{IsLibraryCall}
use Rattle.covering_laws.proofs.covered_memory.Firsts.{is_first}
use Rattle.covering_laws.specs.covered_needs.Needs.{IsCallObject, HasCalls, IsDirectCall, MakesBare, FreshIsMet, TextIsMet, CallsAreMade}
use Rattle.covering_laws.proofs.covered_needs.Grounded.{complete_known}
use Rattle.covering_laws.proofs.covered_needs.Named.{row_finds, row_gives, got}

none_some : {X : Type 0} → {x : X} → ◌≡◌ {A = Option X} None (Some x) → ⊥
none_some h = cc

some_one : {X : Type 0} → {x y : X} → ◌≡◌ {A = Option X} (Some x) (Some y) → x ≡ y
some_one h = cc

-- the function that a call names is the one that it calls directly
module _ (u : CoreTrees) (node : Node) (kind : node.kind ≡ CallNode) (callee : slice_get node.children 0 ≡ Some (head_of node.children)) where
  numbers_same : (linkage : Linkage) (storage : Storage) (name : List ℕ) → cond (is_open linkage storage) (option_map (λ found. found.number) (summary_of name)) None ≡ number_in linkage storage name
  numbers_same External Static name = refl
  numbers_same External Automatic name = refl
  numbers_same External FunctionBody name = refl
  numbers_same External Parameter name = refl
  numbers_same External Declared name = refl
  numbers_same Internal storage name = refl
  numbers_same Local storage name = refl

  number_by : (o : Option Entity) (k : ℕ) → option_and_then library_number o ≡ Some k → (x : Entity) × (o ≡ Some x) × (entity_number x ≡ Some k)
  number_by None k h = absurd (none_some h)
  number_by (Some x) k h = (x, refl, sym (numbers_same x.linkage x.storage x.name) ∙ h)

  abbrev IsEntityBy : ℕ → ℕ → Type 0
  IsEntityBy q e = entity_by u.nodes u.entities q ≡ slice_get u.entities e

  name_kind : (q e : ℕ) (f : Node) (k : NodeKind) → slice_get u.nodes q ≡ Some f → f.kind ≡ k → name_of k ≡ Some e → (function_node u.nodes q ≡ Some q) × IsEntityBy q e
  name_kind q e f (FunctionName d) at is h = (
    ap (option_and_then (λ (x : Node). option_map (λ (y : ℕ). q) (function_entity x.kind))) at ∙ ap (λ (j : NodeKind). option_map (λ (y : ℕ). q) (function_entity j)) is,
    ap (option_and_then (λ (x : Node). option_and_then (slice_get u.entities) (function_entity x.kind))) at
        ∙ (ap (λ (j : NodeKind). option_and_then (slice_get u.entities) (function_entity j)) is ∙ ap (slice_get u.entities) (some_one h)),
  )
  name_kind q e f k at is h = absurd (none_some h)

  name_by : (q e : ℕ) (o : Option Node) → slice_get u.nodes q ≡ o → option_and_then (λ (x : Node). name_of x.kind) o ≡ Some e → (function_node u.nodes q ≡ Some q) × IsEntityBy q e
  name_by q e None at h = absurd (none_some h)
  name_by q e (Some f) at h = name_kind q e f f.kind at refl h

  decay_by : (d : Node) (k : NodeKind) (children : List ℕ) (q : ℕ) → d.kind ≡ k → d.children ≡ children → under_decay k children ≡ Some q → decayed_in u.nodes d.kind d.children ≡ function_node u.nodes q
  decay_by d Decay (r ∷ []) q is list h =
      ap (λ (j : NodeKind). decayed_in u.nodes j d.children) is ∙ (ap (λ (l : List ℕ). decayed_in u.nodes Decay l) list ∙ ap (function_node u.nodes) (some_one h))
  decay_by d k children q is list h = absurd (none_some h)

  callee_by : (o : Option Node) (q : ℕ) → slice_get u.nodes (head_of node.children) ≡ o → option_and_then (λ (x : Node). under_decay x.kind x.children) o ≡ Some q → callee_at u.nodes (head_of node.children) ≡ function_node u.nodes q
  callee_by None q at h = absurd (none_some h)
  callee_by (Some d) q at h = ap (option_and_then (λ (x : Node). decayed_in u.nodes x.kind x.children)) at ∙ decay_by d d.kind d.children q refl refl h

  direct_is : direct_callee u.nodes node ≡ callee_at u.nodes (head_of node.children)
  direct_is = ap (λ (k : NodeKind). callee_in u.nodes k node.children) kind ∙ ap (option_and_then (callee_at u.nodes)) callee

  callee_named : (o : Option ℕ) (e : ℕ) → decayed_at u.nodes (head_of node.children) ≡ o → option_and_then (name_at u.nodes) o ≡ Some e → called_entity u.nodes u.entities node ≡ slice_get u.entities e
  callee_named None e at h = absurd (none_some h)
  callee_named (Some q) e at h =
      let named = name_by q e (slice_get u.nodes q) refl h in
      let direct : direct_callee u.nodes node ≡ Some q = direct_is ∙ (callee_by (slice_get u.nodes (head_of node.children)) q refl at ∙ named.0) in
      ap (option_and_then (entity_by u.nodes u.entities)) direct ∙ named.1

  library_by : (o : Option ℕ) (k : ℕ) → named_callee u node ≡ o → option_and_then (λ (e : ℕ). option_and_then library_number (slice_get u.entities e)) o ≡ Some k
      → (x : Entity) × (called_entity u.nodes u.entities node ≡ Some x) × (entity_number x ≡ Some k)
  library_by None k is h = absurd (none_some h)
  library_by (Some e) k is h =
      let x = number_by (slice_get u.entities e) k h in
      (x.0, callee_named (decayed_at u.nodes (head_of node.children)) e refl is ∙ x.1, x.2)

  pub called_by_name : (k : ℕ) → named_library u node ≡ Some k → (x : Entity) × (called_entity u.nodes u.entities node ≡ Some x) × (entity_number x ≡ Some k)
  called_by_name k h = library_by (named_callee u node) k refl h

-- the numbers of the functions that make an object without a type
abbrev IsBareNumber : ℕ → Type 0
IsBareNumber k = (is_allocator k ≡ true) × (nat_eq k 21 ≡ false)

abbrev MakesText : Row → Type 0
MakesText (Writes Duplicate) = ⊤
MakesText row = ⊥

abbrev IsTextNumber : ℕ → Type 0
IsTextNumber k = (is_allocator k ≡ true) × (nat_eq k 21 ≡ true)

abbrev IsBareAt : List Row → ℕ → Type 0
IsBareAt [] n = Unit {0}
IsBareAt (row ∷ rest) n = (MakesBare row → IsBareNumber n) × IsBareAt rest (suc n)

bare_at : (list : List Row) (n k : ℕ) (row : Row) → IsBareAt list n → slice_get list k ≡ Some row → MakesBare row → IsBareNumber (n + k)
bare_at [] n k row h at bare = absurd (none_some at)
bare_at (r ∷ rest) n zero row h at bare = subst IsBareNumber (let e : n ≡ n + 0 = omega arith in e) (h.0 (subst MakesBare (sym (some_one at)) bare))
bare_at (r ∷ rest) n (suc k) row h at bare = subst IsBareNumber (let e : suc n + k ≡ n + suc k = omega arith in e) (bare_at rest (suc n) k row h.1 at bare)

infixr 10 ◌&◌
◌&◌ : {A B : Type 0} → A → B → A × B
a & b = (a, b)

bare_all : IsBareAt rows 0
unfolding rows
bare_all =
    (λ b. (refl, refl)) & (λ b. (refl, refl)) & (λ b. (refl, refl)) & (λ b. absurd b) & (λ b. absurd b) & (λ b. absurd b) & (λ b. absurd b) & (λ b. absurd b)
    & (λ b. absurd b) & (λ b. absurd b) & (λ b. absurd b) & (λ b. absurd b) & (λ b. absurd b) & (λ b. absurd b) & (λ b. absurd b) & (λ b. absurd b)
    & (λ b. absurd b) & (λ b. absurd b) & (λ b. absurd b) & (λ b. absurd b) & (λ b. absurd b) & (λ b. absurd b) & (λ b. absurd b) & (λ b. absurd b)
    & (λ b. absurd b) & (λ b. absurd b) & (λ b. absurd b) & (λ b. absurd b) & (λ b. absurd b) & (λ b. absurd b) & (λ b. absurd b) & (λ b. absurd b)
    & (λ b. absurd b) & (λ b. absurd b) & (λ b. absurd b) & (λ b. absurd b) & (λ b. absurd b) & (λ b. absurd b) & (λ b. absurd b) & (λ b. absurd b)
    & (λ b. absurd b) & (λ b. absurd b) & (λ b. absurd b) & (λ b. absurd b) & (λ b. absurd b) & (λ b. absurd b) & (λ b. absurd b) & (λ b. absurd b)
    & (λ b. absurd b) & (λ b. absurd b) & (λ b. absurd b) & (λ b. absurd b) & (λ b. absurd b) & (λ b. absurd b) & (λ b. absurd b) & tt

bare_number : (k : ℕ) (row : Row) → slice_get rows k ≡ Some row → MakesBare row → IsBareNumber k
bare_number k row at bare = subst IsBareNumber (let e : 0 + k ≡ k = omega arith in e) (bare_at rows 0 k row bare_all at bare)

abbrev IsTextAt : List Row → ℕ → Type 0
IsTextAt [] n = Unit {0}
IsTextAt (row ∷ rest) n = (MakesText row → IsTextNumber n) × IsTextAt rest (suc n)

text_at : (list : List Row) (n k : ℕ) (row : Row) → IsTextAt list n → slice_get list k ≡ Some row → MakesText row → IsTextNumber (n + k)
text_at [] n k row h at bare = absurd (none_some at)
text_at (r ∷ rest) n zero row h at bare = subst IsTextNumber (let e : n ≡ n + 0 = omega arith in e) (h.0 (subst MakesText (sym (some_one at)) bare))
text_at (r ∷ rest) n (suc k) row h at bare = subst IsTextNumber (let e : suc n + k ≡ n + suc k = omega arith in e) (text_at rest (suc n) k row h.1 at bare)

text_all : IsTextAt rows 0
unfolding rows
text_all =
    (λ b. absurd b) & (λ b. absurd b) & (λ b. absurd b) & (λ b. absurd b) & (λ b. absurd b) & (λ b. absurd b) & (λ b. absurd b) & (λ b. absurd b)
    & (λ b. absurd b) & (λ b. absurd b) & (λ b. absurd b) & (λ b. absurd b) & (λ b. absurd b) & (λ b. absurd b) & (λ b. absurd b) & (λ b. absurd b)
    & (λ b. absurd b) & (λ b. absurd b) & (λ b. absurd b) & (λ b. absurd b) & (λ b. absurd b) & (λ b. (refl, refl)) & (λ b. absurd b) & (λ b. absurd b)
    & (λ b. absurd b) & (λ b. absurd b) & (λ b. absurd b) & (λ b. absurd b) & (λ b. absurd b) & (λ b. absurd b) & (λ b. absurd b) & (λ b. absurd b)
    & (λ b. absurd b) & (λ b. absurd b) & (λ b. absurd b) & (λ b. absurd b) & (λ b. absurd b) & (λ b. absurd b) & (λ b. absurd b) & (λ b. absurd b)
    & (λ b. absurd b) & (λ b. absurd b) & (λ b. absurd b) & (λ b. absurd b) & (λ b. absurd b) & (λ b. absurd b) & (λ b. absurd b) & (λ b. absurd b)
    & (λ b. absurd b) & (λ b. absurd b) & (λ b. absurd b) & (λ b. absurd b) & (λ b. absurd b) & (λ b. absurd b) & (λ b. absurd b) & tt

text_number : (k : ℕ) → slice_get rows k ≡ Some (Writes Duplicate) → IsTextNumber k
text_number k at = subst IsTextNumber (let e : 0 + k ≡ k = omega arith in e) (text_at rows 0 k (Writes Duplicate) text_all at tt)

-- what an allocated object is made of, where it isn't characters
bare_shape : (table : Table) (o : Option TypeId) → ((id : TypeId) → type_made (elements_or_blob o) ≡ Some id → IsSome (extent_in table (type_of table id.0))) → HasShape table (elements_or_blob o) None
bare_shape table None whole = inl refl
bare_shape table (Some id) whole = (inl refl, whole id refl)

bare_content : (k : ℕ) (o : Option TypeId) → nat_eq k 21 ≡ false → allocated_content k o ≡ elements_or_blob o
bare_content k o is = ap (λ (b : Bool). let c : Content = cond b (Scalars 0) (elements_or_blob o) in c) is

same_named : (k : ℕ) → is_named (Some k) k ≡ true
same_named k = eq-eqb k k refl

-- the object of a direct call
module _ (s : Solved) (n : ℕ) (node : Node) (site : CallSite) (target : ℕ) (function : Function) (library : ℕ) (call : IsLibraryCall s n node site target function library) (direct : IsDirectCall s n node library)
    (has : HasCalls s) (allocates : is_allocator library ≡ true) where
  own : (x : Entity) × (called_entity s.program.nodes.items s.program.entities.items node ≡ Some x) × (entity_number x ≡ Some library)
  own = called_by_name (trees_in s.program) node direct.kind direct.callee library direct.named

  first : (l : ℕ) × (first_from 0 s.space (CallKey n) ≡ Some l)
  first = has.there n node own.0 library direct.there direct.kind own.1 own.2 allocates

  location : (x : Location) × (slice_get s.space first.0 ≡ Some x) × (x.key ≡ CallKey n)
  location = (is_first s.space (CallKey n) first.0 first.1).here

  object : IsCallObject s n location.0.content
  object = has.made first.0 location.0 n location.1 location.2

  content_by : location.0.content ≡ allocated_content library object.elements
  content_by =
      let node_is : object.node ≡ node = some_one (sym object.there ∙ direct.there) in
      let function_is : object.function ≡ own.0 = some_one (sym object.called ∙ (ap (called_entity s.program.nodes.items s.program.entities.items) node_is ∙ own.1)) in
      let number_is : object.number ≡ library = some_one (sym object.numbered ∙ (ap entity_number function_is ∙ own.2)) in
      object.content_is ∙ ap (λ (k : ℕ). allocated_content k object.elements) number_is

  chosen : cond (is_named (named_library (trees_in s.program) node) library) ((view_of s.space).first (CallKey n)) ((view_of s.space).first (StarKey library)) ≡ Some first.0
  chosen =
      ap (λ (b : Bool). cond b ((view_of s.space).first (CallKey n)) ((view_of s.space).first (StarKey library))) (ap (λ (o : Option ℕ). is_named o library) direct.named ∙ same_named library) ∙ first.1

  fresh : nat_eq library 21 ≡ false → IsFresh (sets_in s) (CallKey n)
  fresh bare =
      let content_is = content_by ∙ bare_content library object.elements bare in
      record {
        first = first.0;
        location = location.0;
        first_is = first.1;
        location_is = location.1;
        shape = subst (λ (c : Content). HasShape s.program.types c None) (sym content_is) (bare_shape s.program.types object.elements (λ id h. object.whole id (ap type_made content_is ∙ h)));
        allocated = refl;
      }

  scalars : nat_eq library 21 ≡ true → (id : TypeId) → type_of s.program.types id.0 ≡ IntegerType 1 1 true → IsScalars (sets_in s) (CallKey n) id
  scalars text id is = record {
    first = first.0;
    location = location.0;
    first_is = first.1;
    location_is = location.1;
    scalar = 0;
    content_is = content_by ∙ ap (λ (b : Bool). let c : Content = cond b (Scalars 0) (elements_or_blob object.elements) in c) text;
    is_scalar = subst IsScalar (sym is) (inl tt);
    scalar_is = ap type_number is;
    allocated = refl;
  }

  by_row : (r : Row) → slice_get rows library ≡ Some r → MakesBare r → Contains {X = ℕ × ℕ} site.fresh (target, first.0)
  by_row (Makes Malloc) is b =
      got s n node site target function library call first.0 (row_gives library (Makes Malloc) is)
      (row_finds library (Makes Malloc) is (view_of s.space) n (named_library (trees_in s.program) node) library ∙ chosen)
  by_row (Makes Calloc) is b =
      got s n node site target function library call first.0 (row_gives library (Makes Calloc) is)
      (row_finds library (Makes Calloc) is (view_of s.space) n (named_library (trees_in s.program) node) library ∙ chosen)
  by_row (Makes Realloc) is b =
      got s n node site target function library call first.0 (row_gives library (Makes Realloc) is)
      (row_finds library (Makes Realloc) is (view_of s.space) n (named_library (trees_in s.program) node) library ∙ chosen)
  by_row r is b = absurd b

  text_row : slice_get rows library ≡ Some (Writes Duplicate) → Contains {X = ℕ × ℕ} site.fresh (target, first.0)
  text_row is =
      got s n node site target function library call first.0 (row_gives library (Writes Duplicate) is)
      (row_finds library (Writes Duplicate) is (view_of s.space) n (named_library (trees_in s.program) node) library ∙ chosen)

pub fresh_met : FreshIsMet
unfolding fresh first
fresh_met s n node site target function library row call direct has at bare =
    let number = bare_number library row at bare in
    (fresh s n node site target function library call direct has number.0 number.1, by_row s n node site target function library call direct has number.0 row at bare)

pub text_met : TextIsMet
unfolding scalars first
text_met s n node site target function library call direct has at id is =
    let number = text_number library at in
    (scalars s n node site target function library call direct has number.0 number.1 id is, text_row s n node site target function library call direct has number.0 at)

-- the call objects of a program, as the program with more types has them
module _ (p : Program) (more : List Term) (made : IsMade p.types) (named : AreNamed p.types) (follow : MayFollow (length p.types.terms) more) where
  kept : IsKept p.types (with_terms p.types more)
  kept = tables_grow p.types more made named follow

  whole_more : (id : TypeId) → IsSome (extent_in p.types (type_of p.types id.0)) → IsSome (extent_in (with_terms p.types more) (type_of (with_terms p.types more) id.0))
  whole_more id h =
      subst (λ (o : Option Extent). IsSome o) (sym (ap (extent_in (with_terms p.types more)) (kept.types id.0 (complete_known p.types id.0 h)) ∙ kept.extents (type_of p.types id.0))) h

  made_by : (s : Solved) → s.program ≡ with_types p more → s.space ≡ locations_in p → HasCalls s
  made_by s program space = record {
    made = λ l x n at key.
        let known = contents_known p l x made (ap (λ (ls : List Location). slice_get ls l) (sym space) ∙ at) in
        let own = subst (λ (k : ObjectKey). IsMadeOf p k x.content) key known.0 in
        record {
          node = own.node;
          there = ap (λ (q : Program). slice_get q.nodes.items n) program ∙ own.there;
          function = own.function;
          called = ap (λ (q : Program). called_entity q.nodes.items q.entities.items own.node) program ∙ own.called;
          number = own.number;
          numbered = own.numbered;
          elements = typed_by p.types (conversion_above p.nodes.items n);
          content_is = own.content_is;
          whole = λ id is. subst (λ (q : Program). IsSome (extent_in q.types (type_of q.types id.0))) (sym program) (whole_more id (known.1 id is));
        };
    there = λ n node function number at kind called numbered allocates.
        subst (λ (ls : List Location). (l : ℕ) × (first_from 0 ls (CallKey n) ≡ Some l)) (sym space)
        (calls_made p n node function number made (sym (ap (λ (q : Program). slice_get q.nodes.items n) program) ∙ at) kind (sym (ap (λ (q : Program). called_entity q.nodes.items q.entities.items node) program) ∙ called) numbered allocates);
  }

pub calls_are_made : CallsAreMade
calls_are_made p more s made named follow program space = made_by p more made named follow s program space
