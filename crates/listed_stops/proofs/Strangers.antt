-- A call of what is no function of the call's type has a stranger among what it may call.
use Rattle.std.proofs.Common.{arith, ◌≡◌, ◌∙◌, ◌⊎◌, inl, inr, ℕ, zero, suc, ◌+◌, ◌&&◌, Bool, true, false, cond, ℤ, List, [], ◌∷◌, ◌++◌, Option, Some, None, Result, Ok, Err, IsSome, slice_get, unwrap_or, refl, sym, ap, subst}
use Rattle.std.specs.List.{enumerate_from}
use Rattle.std.specs.Option.{option_map}
use Rattle.std.proofs.lemmas.Bool.{false≢true}
use Rattle.c_types.specs.declared.key.ObjectKey.{ObjectKey}
use Rattle.c_types.specs.declared.key.ObjectKey.TheVariants.{Entity as EntityKey, Function as FunctionKey, Outside as OutsideKey}
use Rattle.c_types.specs.declared.term.PathStep.{PathStep}
use Rattle.c_types.specs.declared.term.PathStep.TheVariants.{Index, Member}
use Rattle.c_types.specs.declared.term.Form.{Form}
use Rattle.c_types.specs.declared.term.Form.TheVariants.{Fixed, Variadic, Unspecified}
use Rattle.c_types.specs.declared.term.TypeId.{TypeId}
use Rattle.c_types.specs.Trees.{Ctype, Ctypes, PointerTo, FunctionFrom, UnionOf, trees_at}
use Rattle.c_types.specs.Table.{types_of, type_of, extent_in}
use Rattle.core_tree.specs.declared.node.Entity.{Entity}
use Rattle.core_tree.specs.declared.node.Node.{Node}
use Rattle.core_tree.specs.declared.node.NodeKind.TheVariants.{CallNode}
use Rattle.core_tree.specs.declared.node.Program.{Program}
use Rattle.core_tree.specs.declared.node.Storage.{Storage}
use Rattle.core_tree.specs.declared.node.Storage.TheVariants.{FunctionBody}
use Rattle.core_tree.specs.Valid.{ValidProgram}
use Rattle.sol_model.specs.declared.system.System.{System}
use Rattle.sol_model.specs.declared.system.Function.{Function}
use Rattle.sol_model.specs.Families.{Family, Has}
use Rattle.call_graph.specs.Graph.{IsFunctionAt as StandsAt}
use Rattle.obj_made.specs.declared.object.Content.{Content}
use Rattle.obj_made.specs.declared.object.Content.TheVariants.{Function as FunctionContent, Blob, Scalar, Scalars, Typed, Elements}
use Rattle.obj_made.specs.Made.{entity_content}
use Rattle.obj_space.specs.declared.location.Location.{Location}
use Rattle.obj_space.specs.Spots.{Reached, reached, part_at, no_step, one_index, node_in, type_made, whole_reached}
use Rattle.obj_space.specs.View.{first_from}
use Rattle.row_numbers.specs.Functions.{functions_of, key_type}
use Rattle.call_sites.specs.Signatures.{called_type, calling_type}
use Rattle.call_sites.specs.Calls.{head_of, rest_of, ids_of, IsCallSite}
use Rattle.normal_form.specs.Assignments.{row_in}
use Rattle.normal_form.specs.Facts.{IsFunctionFact}
use Rattle.linked_laws.proofs.system_laws.Compact.{zip_right}
use Rattle.ref_cells.specs.declared.cells.Reason.{Reason}
use Rattle.ref_cells.specs.declared.cells.Reason.TheVariants.{BadCall}
use Rattle.ref_cells.specs.declared.cells.Cell.{Cell}
use Rattle.ref_cells.specs.declared.cells.Cell.TheVariants.{Unset, Number, Null, Pointer, Function as FunctionCell}
use Rattle.ref_cells.specs.declared.cells.Value.{Value}
use Rattle.ref_cells.specs.declared.instance.Instance.{Instance}
use Rattle.ref_cells.specs.Wholes.{whole_of}
use Rattle.ref_elements.specs.Types.{same_type}
use Rattle.ref_elements.proofs.SameTypes.{type_refl}
use Rattle.ref_state.specs.Values.{cell_in}
use Rattle.ref_calls.specs.Calls.{is_function, signature_of, fits, callee_of}
use Rattle.ref_calls.specs.Calls.{call_type as call_type_of}
use Rattle.covering_laws.specs.object_contents.Contents.{IsMadeOf}
use Rattle.covering_laws.proofs.object_contents.Contents.{contents_known}
use Rattle.covering_laws.specs.covered_types.Calls.{call_type}
use Rattle.covering_laws.proofs.covered_types.Calls.{calls_fit}
use Rattle.covering_laws.specs.covered_memory.Spots.{spot_at, spot_from, spot}
use Rattle.covering_laws.specs.covered_memory.Covered.{Lands, CellIn, HasShape, InstanceIn, MemoryIn, PointsIn}
use Rattle.covering_laws.proofs.covered_memory.Filled.{nowhere}
use Rattle.covering_laws.proofs.covered_memory.Firsts.{is_first}
use Rattle.covering_laws.proofs.covered_memory.Parts.{enters, first_node, path_complete, stripped, union_complete}
use Rattle.covering_laws.proofs.covered_rows.Places.{start_spot, held_cell}
use Rattle.covering_laws.proofs.grown_programs.Listed.{IsFunctionKey, function_there}
use Rattle.covering_laws.specs.covered_state.World.{World, trees_of, view_in, sets_of, setting_in, IsFunctionAt}
use Rattle.covering_laws.specs.covered_state.Items.{Each, NodeIn}
use Rattle.covered_runs.specs.covered_steps.covered_effects.Served.{IsServed}
use Rattle.covered_runs.proofs.covered_steps.covered_effects.Needs.{function_first}
use Rattle.covered_runs.proofs.covered_steps.covered_effects.Reaching.{IsSiteOf, site_of, held_head}
use Rattle.covered_runs.specs.covered_steps.covered_statements.Runnable.{IsRunnable}
use Rattle.covered_runs.proofs.covered_steps.covered_statements.Keys.{function_body}
use Rattle.covered_runs.specs.machine_sound.covered_start.Objects.{IsSolved}
use Rattle.covered_runs.specs.machine_sound.covered_start.Start.{machine_world}
use Rattle.listed_stops.specs.Listed.{TellsTypes}
use Rattle.listed_stops.proofs.Ends.{IsBadAt, bad_at}
use Rattle.listed_stops.proofs.Types.{called_id, same_types}

some_one : {X : Type 0} → {x y : X} → ◌≡◌ {A = Option X} (Some x) (Some y) → x ≡ y
some_one h = cc

none_some : {X : Type 0} → {x : X} → ◌≡◌ {A = Option X} None (Some x) → ⊥
none_some h = cc

ok_bad : {X : Type 0} → {x : X} → ◌≡◌ {A = Result X Reason} (Ok x) (Err BadCall) → ⊥
ok_bad h = cc

-- a list whose elements have their numbers
un_numbered : {X : Type 0} (m : ℕ) (xs : List X) (i j : ℕ) (x : X) → slice_get (enumerate_from m xs) i ≡ Some (j, x) → (slice_get xs i ≡ Some x) × (m + i ≡ j)
un_numbered m [] i j x e = absurd (none_some e)
un_numbered {X = X} m (y ∷ ys) zero j x e =
    let same : (let r : ℕ × X = (m, y) in r) ≡ (j, x) = some_one e in
    let number : m ≡ j = ap (λ (r : ℕ × X). r.0) same in
    (ap (λ (r : ℕ × X). Some r.1) same, (omega (arith, number)))
un_numbered m (y ∷ ys) (suc i) j x e = (let r = un_numbered (m + 1) ys i j x e in let n = r.1 in (r.0, (omega (arith, n))))

-- one object begins at a location
one_key : (space : List Location) (l : ℕ) (a b : ObjectKey) → first_from 0 space a ≡ Some l → first_from 0 space b ≡ Some l → a ≡ b
one_key space l a b x y =
    let p = (is_first space a l x).here in
    let q = (is_first space b l y).here in
    sym p.2 ∙ (ap (λ (z : Location). z.key) (some_one (sym p.1 ∙ q.1)) ∙ q.2)

-- what calls through a pointer to a function is of a function's type
calling_function : (r : Ctype) (ps : Ctypes) (form : Form) (arguments : Ctypes) → is_function (calling_type (PointerTo (FunctionFrom r ps form)) arguments) ≡ true
calling_function r ps Fixed arguments = refl
calling_function r ps Variadic arguments = refl
calling_function r ps Unspecified arguments = refl

module _ (p : Program) (system : System) (family : Family) (valid : ValidProgram p) (told : TellsTypes p) (s : IsSolved p system family) (runs : IsRunnable (machine_world p system family s)) (characters : TypeId)
    (served : IsServed (machine_world p system family s) runs.stands characters) where
  abbrev world : World
  world = machine_world p system family s

  -- ---- the locations of an object's parts are those of the object
  abbrev IsOwnAt : ObjectKey → ℕ → Type 0
  IsOwnAt key l = (y : Location) × (slice_get world.space l ≡ Some y) × (y.key ≡ key)

  module _ (key : ObjectKey) (first : ℕ) (x : Location) (first_is : first_from 0 world.space key ≡ Some first) (x_is : slice_get world.space first ≡ Some x) where
    key_is : x.key ≡ key
    key_is = (let h = (is_first world.space key first first_is).here in ap (λ (z : Location). z.key) (some_one (sym x_is ∙ h.1)) ∙ h.2)

    own_first : (l : ℕ) → first + 0 ≡ l → IsOwnAt key l
    own_first l same = (x, subst (λ (k : ℕ). slice_get world.space k ≡ Some x) (let z = same in let e : first ≡ l = omega (arith, z) in e) x_is, key_is)

    -- a part of an object that is made of a type
    own_part : (id : TypeId) (lead : List PathStep) → type_made x.content ≡ Some id → IsSome (extent_in world.program.types (type_of world.program.types id.0))
        → ((q : List PathStep) (r : Reached) → part_at world.program.types (Some (reached (type_of world.program.types id.0) 0 false)) q ≡ Some r → part_at world.program.types (whole_reached world.program.types x.content) (lead ++ q) ≡ Some r)
        → (path : List PathStep) (r : Reached) → part_at world.program.types (Some (reached (type_of world.program.types id.0) 0 false)) path ≡ Some r → IsOwnAt key (first + r.node)
    own_part id lead made complete goes path r e = by r.inside refl
      where
        by : (b : Bool) → r.inside ≡ b → IsOwnAt key (first + r.node)
        by false out =
            let c = path_complete world.program.types runs.stands.grounds.made (type_of world.program.types id.0) 0 false path r complete e in
            let y = runs.stands.grounds.reaches key first x id (lead ++ path) r (stripped r.ty) (is_first world.space key first first_is) x_is made complete (goes path r e) out (first_node world.program.types runs.stands.grounds.made r.ty c) in
            (y.0, y.1, y.2.0 ∙ key_is)
        by true i =
            let u = enters world.program.types (type_of world.program.types id.0) 0 path r e i in
            let q : Reached = reached (UnionOf u.tag) r.node false in
            let y = runs.stands.grounds.reaches key first x id (lead ++ u.front) q (UnionOf u.tag) (is_first world.space key first first_is) x_is made complete (goes u.front q u.there) refl
            (first_node world.program.types runs.stands.grounds.made (UnionOf u.tag) (union_complete world.program.types runs.stands.grounds.made u.tag u.members u.members_are)) in
            (y.0, y.1, y.2.0 ∙ key_is)

    abbrev at_node : Option ℕ → Option ℕ
    at_node o = option_map (λ (n : ℕ). first + n) o

    -- the location at a path of the object
    own_spot : (whole : Option Ctype) → HasShape world.program.types x.content whole → (path : List PathStep) (l : ℕ) → spot world.program.types world.space key path ≡ Some l → IsOwnAt key l
    own_spot whole shape path l lands =
        by x.content refl shape (sym (ap (λ (o : Option ℕ). spot_from world.program.types world.space o path) first_is ∙ ap (λ (o : Option Location). spot_at world.program.types first o path) x_is) ∙ lands)
      where
        lone : (q : List PathStep) → at_node (no_step q) ≡ Some l → IsOwnAt key l
        lone [] h = own_first l (some_one h)
        lone (step ∷ rest) h = absurd (none_some h)

        indexed : (q : List PathStep) → at_node (one_index q) ≡ Some l → IsOwnAt key l
        indexed [] h = own_first l (some_one h)
        indexed (Index i ∷ rest) h = lone rest h
        indexed (Member k ∷ rest) h = absurd (none_some h)

        along : (id : TypeId) (lead : List PathStep) → type_made x.content ≡ Some id → IsSome (extent_in world.program.types (type_of world.program.types id.0))
            → ((q : List PathStep) (r : Reached) → part_at world.program.types (Some (reached (type_of world.program.types id.0) 0 false)) q ≡ Some r → part_at world.program.types (whole_reached world.program.types x.content) (lead ++ q) ≡ Some r)
            → (q : List PathStep) (o : Option Reached) → part_at world.program.types (Some (reached (type_of world.program.types id.0) 0 false)) q ≡ o → at_node (option_map (λ (r : Reached). r.node) o) ≡ Some l → IsOwnAt key l
        along id lead made complete goes q None is h = absurd (none_some h)
        along id lead made complete goes q (Some r) is h = subst (IsOwnAt key) (some_one h) (own_part id lead made complete goes q r is)

        elements : (id : TypeId) → x.content ≡ Elements id → IsSome (extent_in world.program.types (type_of world.program.types id.0)) → (q : List PathStep) → at_node (node_in world.program.types (Elements id) q) ≡ Some l → IsOwnAt key l
        elements id is complete [] h = own_first l (some_one h)
        elements id is complete (Index i ∷ rest) h =
            along id (Index i ∷ []) (ap type_made is) complete (λ q r f. ap (λ (c : Content). part_at world.program.types (whole_reached world.program.types c) (Index i ∷ q)) is ∙ f) rest
            (part_at world.program.types (Some (reached (type_of world.program.types id.0) 0 false)) rest) refl h
        elements id is complete (Member k ∷ rest) h = absurd (none_some (sym (ap (λ (o : Option Reached). at_node (option_map (λ (r : Reached). r.node) o)) (nowhere world.program.types rest)) ∙ h))

        by : (content : Content) → x.content ≡ content → HasShape world.program.types content whole → at_node (node_in world.program.types content path) ≡ Some l → IsOwnAt key l
        by FunctionContent is own h = absurd own
        by Blob is own h = own_first l (some_one h)
        by (Scalar number) is own h = lone path h
        by (Scalars number) is own h = indexed path h
        by (Typed id) is own h =
            along id [] (ap type_made is) own.1 (λ q r f. ap (λ (c : Content). part_at world.program.types (whole_reached world.program.types c) q) is ∙ f) path
            (part_at world.program.types (Some (reached (type_of world.program.types id.0) 0 false)) path) refl h
        by (Elements id) is own h = elements id is own.1 path h

  -- ---- functions
  -- a function is made of nothing else
  function_content : (number : ℕ) (key : ObjectKey) (l : ℕ) (x : Location) → IsFunctionAt world number key → slice_get world.space l ≡ Some x → x.key ≡ key → x.content ≡ FunctionContent
  function_content number key l x at x_is same =
      by key refl (subst (λ (k : ObjectKey). IsMadeOf p k x.content) same (contents_known p l x s.made x_is).0)
    where
      by_storage : (st : Storage) (ty : TypeId) → st ≡ FunctionBody → entity_content st ty ≡ FunctionContent
      by_storage st ty is = ap (λ (z : Storage). entity_content z ty) is

      by : (own : ObjectKey) → key ≡ own → IsMadeOf p own x.content → x.content ≡ FunctionContent
      by (EntityKey e) is made =
          let h = function_body (trees_of world) (view_in world) number (EntityKey e) (subst (IsFunctionAt world number) is at) in
          made.2 ∙ by_storage made.0.storage made.0.ty (ap (λ (z : Entity). z.storage) (some_one (sym made.1 ∙ h.1)) ∙ h.2)
      by (FunctionKey k) is made = made.0
      by own is made = absurd (subst IsFunctionKey is (function_there (trees_of world) (view_in world) number key at).0)

  -- the function of a number
  record IsFunctionOf (number : ℕ) (function : Function) : Type 0 where
    key : ObjectKey
    at : IsFunctionAt world number key
    fact : IsFunctionFact (trees_of world) (view_in world) number key function

  function_of : (number : ℕ) (function : Function) → slice_get system.functions number ≡ Some function → IsFunctionOf number function
  function_of number function known =
      let z = zip_right (λ (entry : ℕ × ObjectKey) (f : Function). IsFunctionFact (trees_of world) (view_in world) entry.0 entry.1 f) (enumerate_from 0 (functions_of (trees_of world) (view_in world))) system.functions number function world.is_system.functions known in
      let r = un_numbered 0 (functions_of (trees_of world) (view_in world)) number z.0.0 z.0.1 z.1 in
      let n = r.1 in
      let same : z.0.0 ≡ number = omega (arith, n) in
      record { key = z.0.1; at = r.0; fact = subst (λ (k : ℕ). IsFunctionFact (trees_of world) (view_in world) k z.0.1 function) same z.2 }

  -- ---- a call
  module _ (n : ℕ) (node : Node) (there : slice_get (trees_of world).nodes n ≡ Some node) (kind : node.kind ≡ CallNode) where
    site : IsSiteOf world n
    site = site_of world n node there kind

    own_site : IsCallSite (setting_in world) n node site.site
    own_site = subst (λ (x : Node). IsCallSite (setting_in world) n x site.site) (some_one (sym site.right.there ∙ there)) site.right.right

    -- a location of the callee's row at which no function of the call's type begins
    stranger_at : (l : ℕ) → Has family site.site.callee l
        → ((number : ℕ) (key : ObjectKey) → IsFunctionAt world number key → first_from 0 world.space key ≡ Some l → called_type (key_type (trees_of world) key) ≡ call_type (trees_of world) node → ⊥)
        → IsBadAt world n
    stranger_at l has none =
        bad_at world n site.number site.call_is site.site site.at
        (inl (record {
          location = l;
          has = has;
          other = other;
        }))
      where
        other : (number : ℕ) (function : Function) → StandsAt system l site.site.signature number function → ⊥
        other number function h =
            let f = function_of number function h.known in
            let first = function_first (trees_of world) (view_in world) number f.key f.at in
            let same : first.0 ≡ l = sym (ap (λ (o : Option ℕ). unwrap_or o 0) first.1) ∙ (sym f.fact.location ∙ h.stands) in
            none number f.key f.at (first.1 ∙ ap (λ (k : ℕ). Some k) same)
            (same_types p system family valid told s (called_type (key_type (trees_of world) f.key)) (call_type (trees_of world) node) function.signature site.site.signature
            (called_id p system family valid told s runs characters served number f.key f.at) h.agrees f.fact.signature own_site.signature)

    module _ (memory : List Instance) (covered : MemoryIn (sets_of world) memory) (values : List (ℕ × Value)) (each : Each (λ v. NodeIn world memory v.0 v.1) values) where
      abbrev head : ℕ
      head = head_of node.children

      cell_in_row : CellIn (sets_of world) memory (Some (row_in (setting_in world) head)) (cell_in values head)
      cell_in_row =
          let called = (calls_fit world.program runs.stands.rows).called n node there kind in
          held_cell world.program world.space world.system world.is_system world.family runs.stands.closed runs.stands.grounds head (FunctionFrom called.result called.parameters called.form) memory (cell_in values head) called.callee.1
          (held_head world runs.stands characters served memory n node values (record { key = OutsideKey; arguments = [] }) there kind each)

      -- what is called is a function of another type
      function_bad : (key : ObjectKey) → cell_in values head ≡ FunctionCell key → (called_type (key_type (trees_of world) key) ≡ call_type (trees_of world) node → ⊥) → IsBadAt world n
      function_bad key cell differs =
          let lands : Lands family (Some (row_in (setting_in world) head)) (spot world.program.types world.space key []) = subst (λ (c : Cell). CellIn (sets_of world) memory (Some (row_in (setting_in world) head)) c) cell cell_in_row in
          stranger_at lands.location (subst (λ (r : ℕ). Has family r lands.location) (some_one (sym lands.row_is) ∙ sym own_site.callee) lands.has)
          (λ number other at first same. differs (subst (λ (k : ObjectKey). called_type (key_type (trees_of world) k) ≡ call_type (trees_of world) node) (one_key world.space lands.location other key first (first_at key lands.location lands.found_is)) same))
        where
          first_at : (own : ObjectKey) (l : ℕ) → spot world.program.types world.space own [] ≡ Some l → first_from 0 world.space own ≡ Some l
          first_at own l found = by (first_from 0 world.space own) refl
            where
              by : (o : Option ℕ) → first_from 0 world.space own ≡ o → o ≡ Some l
              by None is = absurd (none_some (sym (ap (λ (o : Option ℕ). spot_from world.program.types world.space o []) is) ∙ found))
              by (Some k) is = sym (start_spot world.program.types world.space own k is) ∙ found

      -- what is called is an object of memory
      pointer_bad : (i : ℕ) (path : List PathStep) (past : Bool) → cell_in values head ≡ Pointer i path past → IsBadAt world n
      pointer_bad i path past cell =
          let points : PointsIn (sets_of world) memory (Some (row_in (setting_in world) head)) i path = subst (λ (c : Cell). CellIn (sets_of world) memory (Some (row_in (setting_in world) head)) c) cell cell_in_row in
          let inside : InstanceIn (sets_of world) memory points.inst = covered i points.inst points.inst_is in
          stranger_at points.lands.location (subst (λ (r : ℕ). Has family r points.lands.location) (some_one (sym points.lands.row_is) ∙ sym own_site.callee) points.lands.has)
          (λ number key at first same. none inside points.lands.location points.lands.found_is number key at first)
        where
          none : {inst : Instance} (inside : InstanceIn (sets_of world) memory inst) (l : ℕ) → spot world.program.types world.space inst.key path ≡ Some l
              → (number : ℕ) (key : ObjectKey) → IsFunctionAt world number key → first_from 0 world.space key ≡ Some l → ⊥
          none {inst = inst} inside l found number key at first =
              let own = own_spot inst.key inside.first inside.location inside.first_is inside.location_is (whole_of world.program.types inst) inside.shape path l found in
              let here = (is_first world.space key l first).here in
              let same : inst.key ≡ key = sym own.2 ∙ (ap (λ (z : Location). z.key) (some_one (sym own.1 ∙ here.1)) ∙ here.2) in
              let content : inside.location.content ≡ FunctionContent = function_content number key inside.first inside.location at inside.location_is (key_is inst.key inside.first inside.location inside.first_is inside.location_is ∙ same) in
              subst (λ (c : Content). HasShape world.program.types c (whole_of world.program.types inst)) content inside.shape

      -- what is called is a function of another type, an object or a number
      pub callee_bad : (c : ℕ) (arguments : List ℕ) → node.children ≡ c ∷ arguments → callee_of (trees_of world) c arguments (cell_in values c) ≡ Err BadCall
          → IsBadAt world n ⊎ ((number : ℤ) × (cell_in values c ≡ Number number))
      callee_bad c arguments children h = by (cell_in values c) refl h
        where
          at_head : (cell : Cell) → cell_in values c ≡ cell → cell_in values head ≡ cell
          at_head cell is = ap (λ (cs : List ℕ). cell_in values (head_of cs)) children ∙ is

          differs : (key : ObjectKey) → fits (trees_of world) key c arguments ≡ false → called_type (key_type (trees_of world) key) ≡ call_type (trees_of world) node → ⊥
          differs key unfit same =
              let called = (calls_fit world.program runs.stands.rows).called n node there kind in
              let type : signature_of (trees_of world) key ≡ call_type_of (trees_of world) c arguments = same ∙ ap (λ (cs : List ℕ). call_type_of (trees_of world) (head_of cs) (rest_of cs)) children in
              let function : is_function (call_type (trees_of world) node) ≡ true =
              ap (λ (t : Ctype). is_function (calling_type t (trees_at (types_of world.program.types) (ids_of (trees_of world).nodes (rest_of node.children))))) called.callee.1
              ∙ calling_function called.result called.parameters called.form (trees_at (types_of world.program.types) (ids_of (trees_of world).nodes (rest_of node.children))) in
              false≢true
              (sym unfit
              ∙ (ap (λ (b : Bool). b && same_type (signature_of (trees_of world) key) (call_type_of (trees_of world) c arguments)) (ap is_function same ∙ function)
              ∙ (ap (λ (t : Ctype). same_type t (call_type_of (trees_of world) c arguments)) type ∙ type_refl (call_type_of (trees_of world) c arguments))))

          by : (cell : Cell) → cell_in values c ≡ cell → callee_of (trees_of world) c arguments cell ≡ Err BadCall → IsBadAt world n ⊎ ((number : ℤ) × (cell_in values c ≡ Number number))
          by (FunctionCell key) is e = by_fit (fits (trees_of world) key c arguments) refl e
            where
              by_fit : (b : Bool) → fits (trees_of world) key c arguments ≡ b → (let r : Result ObjectKey Reason = cond b (Ok key) (Err BadCall) in r) ≡ Err BadCall → IsBadAt world n ⊎ ((number : ℤ) × (cell_in values c ≡ Number number))
              by_fit true fit g = absurd (ok_bad g)
              by_fit false fit g = inl (function_bad key (at_head (FunctionCell key) is) (differs key fit))
          by (Pointer i path past) is e = inl (pointer_bad i path past (at_head (Pointer i path past) is))
          by (Number m) is e = inr (m, is)
          by Null is e = absurd (let bad : ◌≡◌ {A = Result ObjectKey Reason} (callee_of (trees_of world) c arguments Null) (Err BadCall) = e in cc)
          by Unset is e = absurd (let bad : ◌≡◌ {A = Result ObjectKey Reason} (callee_of (trees_of world) c arguments Unset) (Err BadCall) = e in cc)
