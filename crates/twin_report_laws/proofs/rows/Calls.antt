-- The calls of two programs that are one, but for numbers.
use Rattle.std.proofs.Common.{arith, ◌≡◌, ◌∙◌, ◌+◌, ◌<◌, ℕ, zero, suc, Bool, true, false, List, [], ◌∷◌, ◌++◌, map, take, length, Option, Some, None, is_some, Contains, refl, sym, ap, subst, inl, inr}
use Rattle.std.specs.Prelude.{if◌then◌else◌}
use Rattle.std.specs.List.{slice_get, filter_map, cons_option, enumerate_from, range_with_len, All, AllZip}
use Rattle.std.specs.Option.{option_map, option_map_or, option_and_then, IfSome}
use Rattle.std.proofs.lemmas.Bool.{cases_Bool, false≢true}
use Rattle.std.proofs.lemmas.List.{map-append}
use Rattle.std.proofs.lemmas.Option.{slice_get_within}
use Rattle.pta_base.specs.declared.effect.Effect.{Effect}
use Rattle.pta_base.specs.declared.effect.Effect.TheVariants.{Nothing, GivesArgument, GivesNew, GivesObject, Copies, StoresInto, CallsBack}
use Rattle.c_types.specs.declared.key.ObjectKey.{ObjectKey}
use Rattle.c_types.specs.declared.key.ObjectKey.TheVariants.{Entity as EntityKey, Text as TextKey, Call as CallKey, Library, Star, Function}
use Rattle.c_types.specs.declared.key.ObjectKey.TheVariants.{Varargs as VarargsKey, Outside}
use Rattle.c_types.specs.Trees.{Ctype, Ctypes, MoreTypes, trees_at, PointerTo, FunctionFrom}
use Rattle.core_tree.specs.declared.node.Node.{Node}
use Rattle.core_tree.specs.declared.node.NodeKind.{NodeKind}
use Rattle.core_tree.specs.declared.node.NodeKind.TheVariants.{FunctionName, Decay, CallNode}
use Rattle.core_tree.specs.declared.node.Program.{Program}
use Rattle.core_tree.specs.Typed.{ValueNode, sort_of, sort_at, type_at, trees_in}
use Rattle.core_tree.specs.Range.{named_by}
use Rattle.core_tree.specs.Rows.{Calls, CallRow, RowOf}
use Rattle.c_types.specs.Table.{type_of, types_of}
use Rattle.c_types.specs.declared.term.Form.TheVariants.{Fixed, Variadic, Unspecified}
use Rattle.link_model.specs.Renamed.{renamed, all_renamed}
use Rattle.call_sites.specs.Signatures.{IsSignature, calling_type}
use Rattle.type_rules.specs.Kinds.{IsPointer}
use Rattle.unit_link.specs.Places.{kind_renamed}
use Rattle.sol_model.specs.declared.system.CallSite.{CallSite}
use Rattle.sol_model.proofs.Members.{at_Contains}
use Rattle.lib_summaries.specs.Table.{effects_of}
use Rattle.obj_space.specs.Space.{locations_in}
use Rattle.obj_space.specs.View.{SpaceView}
use Rattle.row_numbers.specs.Around.{AreOwners}
use Rattle.row_numbers.specs.Functions.{functions_of}
use Rattle.row_numbers.specs.Objects.{library_number}
use Rattle.row_numbers.specs.Setting.{row, rest_row, value_rows, Setting}
use Rattle.call_sites.specs.Calls.{is_call, call_if, calls_upto, head_of, rest_of, name_of, name_at, under_decay, decayed_at, ids_of, named_callee, named_library, giver_in, givers_in, is_named, object_by, fresh_by, fresh_in, fresh_of, caller_by, variadic_count, rows_past, argument_rows, IsCallSite}
use Rattle.normal_form.specs.SystemOf.{setting_of}
use Rattle.linked_laws.proofs.system_laws.Compact.{found_at, stands_at}
use Rattle.linked_laws.proofs.system_laws.Calls.{fresh_valid}
use Rattle.twin_report_laws.specs.outcome_laws.twin_programs.One.{Numbers, SameNode}
use Rattle.twin_report_laws.specs.outcome_laws.twin_locations.Same.{key_moved}
use Rattle.twin_report_laws.specs.systems.Systems.{Maps, SameCall}
use Rattle.twin_report_laws.proofs.outcome_laws.twin_words.Sums.{some_one, none_some}
use Rattle.twin_report_laws.proofs.outcome_laws.twin_words.Options.{and_then_some}
use Rattle.twin_report_laws.proofs.outcome_laws.twin_words.Library.{first_below}
use Rattle.twin_report_laws.proofs.outcome_laws.twin_words.Members.{Member, at_member}
use Rattle.twin_report_laws.specs.rows.Paired.{ArePaired}
use Rattle.twin_report_laws.specs.rows.Ready.{IsReady}
use Rattle.twin_report_laws.proofs.rows.Views.{here, over, first_same, all_functions, number_same}
use Rattle.twin_report_laws.proofs.rows.Rows.{same_map, map_map, row_moved, row_location, values_moved}
use Rattle.twin_report_laws.proofs.rows.Types.{take_map}
use Rattle.twin_report_laws.proofs.rows.Owners.{owner_there}
use Rattle.twin_report_laws.proofs.rows.Nodes.{some_at, node_of, is_value, library_same, tags_of, pointer_row, take_member, variadic_same, rest_there}

some_mapped : {X Y : Type 0} (f : X → Y) (o : Option X) → is_some (option_map f o) ≡ is_some o
some_mapped f None = refl
some_mapped f (Some x) = refl

-- ---- lists side by side
pub zip_at : {A B : Type 0} (R : A → B → Type 0) (xs : List A) (ys : List B) (i : ℕ) (y : B) → AllZip R xs ys → slice_get ys i ≡ Some y → (x : A) × (slice_get xs i ≡ Some x) × R x y
zip_at R [] [] i y h at = absurd (none_some at)
zip_at R [] (b ∷ ys) i y h at = absurd h
zip_at R (a ∷ xs) [] i y h at = absurd h
zip_at R (a ∷ xs) (b ∷ ys) zero y h at = (a, refl, subst (R a) (some_one at) h.0)
zip_at R (a ∷ xs) (b ∷ ys) (suc i) y h at = zip_at R xs ys i y h.1 at

pub at_zip : {A B : Type 0} (R : A → B → Type 0) (xs : List A) (ys : List B) (i : ℕ) (x : A) → AllZip R xs ys → slice_get xs i ≡ Some x → (y : B) × (slice_get ys i ≡ Some y) × R x y
at_zip R [] [] i x h at = absurd (none_some at)
at_zip R [] (b ∷ ys) i x h at = absurd h
at_zip R (a ∷ xs) [] i x h at = absurd h
at_zip R (a ∷ xs) (b ∷ ys) zero x h at = (b, refl, subst (λ z. R z b) (some_one at) h.0)
at_zip R (a ∷ xs) (b ∷ ys) (suc i) x h at = at_zip R xs ys i x h.1 at

sifted : {X Y : Type 0} (f : X → Option Y) (xs : List X) → filter_map (λ (found : Option Y). found) (map f xs) ≡ filter_map f xs
sifted f [] = refl
sifted f (x ∷ xs) = ap (cons_option (f x)) (sifted f xs)

-- ---- the calls among nodes
abbrev call_of : List Node → ℕ → Option ℕ
call_of nodes n = call_if n (slice_get nodes n)

call_kind : (kind : NodeKind) → is_call kind ≡ true → kind ≡ CallNode
call_kind CallNode h = refl
call_kind kind h = absurd (false≢true h)

-- the call of some number
pub record IsCallOf (nodes : List Node) (c n : ℕ) : Type 0 where
  pub node : Node
  pub there : slice_get nodes n ≡ Some node
  pub call : node.kind ≡ CallNode
  pub place : c ≡ length (calls_upto nodes n)

call_view : (nodes : List Node) (k n : ℕ) (o : Option Node) → slice_get nodes k ≡ o → call_if k o ≡ Some n → (node : Node) × (slice_get nodes n ≡ Some node) × (node.kind ≡ CallNode) × (k ≡ n)
call_view nodes k n None e h = absurd (none_some h)
call_view nodes k n (Some node) e h = elim (cases_Bool (is_call node.kind)) [
  | inl its ↦
      let same : k ≡ n = some_one (sym (ap (λ (b : Bool). if b then Some k else None) its) ∙ h) in
      (node, ap (slice_get nodes) (sym same) ∙ e, call_kind node.kind its, same)
  | inr isnt ↦ absurd (none_some (sym (ap (λ (b : Bool). if b then Some k else None) isnt) ∙ h))
]

pub call_at : (nodes : List Node) (c n : ℕ) → slice_get (calls_upto nodes (length nodes)) c ≡ Some n → IsCallOf nodes c n
call_at nodes c n at =
    let found = found_at (call_of nodes) (length nodes) c n (ap (λ (cs : List ℕ). slice_get cs c) (sifted (call_of nodes) (range_with_len 0 (length nodes))) ∙ at) in
    let (node, there, call, same) = call_view nodes found.at n (slice_get nodes found.at) refl found.found in
    record {
      node = node;
      there = there;
      call = call;
      place = found.place ∙ (ap (λ (cs : List ℕ). length cs) (sifted (call_of nodes) (range_with_len 0 found.at)) ∙ ap (λ (k : ℕ). length (calls_upto nodes k)) same);
    }

pub at_call : (nodes : List Node) (n : ℕ) (node : Node) → slice_get nodes n ≡ Some node → node.kind ≡ CallNode → slice_get (calls_upto nodes (length nodes)) (length (calls_upto nodes n)) ≡ Some n
at_call nodes n node at call =
    let lt = slice_get_within nodes n node at in
    let is : call_of nodes n ≡ Some n = ap (call_if n) at ∙ ap (λ (kind : NodeKind). if is_call kind then Some n else None) call in
    ap (λ (cs : List ℕ). slice_get cs (length (calls_upto nodes n))) (sym (sifted (call_of nodes) (range_with_len 0 (length nodes))))
    ∙ (ap (λ (cs : List ℕ). slice_get (filter_map (λ (found : Option ℕ). found) (map (call_of nodes) (range_with_len 0 (length nodes)))) (length cs)) (sym (sifted (call_of nodes) (range_with_len 0 n)))
    ∙ stands_at (call_of nodes) (length nodes) n n lt is)

-- ---- the call that a call leads to
abbrev pub call_moved : List Node → List Node → (ℕ → ℕ) → ℕ → ℕ
call_moved nodes other to c = option_map_or (λ n. length (calls_upto other (to n))) (slice_get (calls_upto nodes (length nodes)) c) 0

-- ---- what calls get from library functions
giver_same : (to : Numbers) (n : ℕ) (key : ObjectKey) → giver_in n (key_moved to key) ≡ giver_in n key
giver_same to n (EntityKey e) = refl
giver_same to n (TextKey e) = refl
giver_same to n (CallKey e) = refl
giver_same to n (Library k) = refl
giver_same to n (Star k) = refl
giver_same to n (VarargsKey k) = refl
giver_same to n Outside = refl
giver_same to n (Function k) = refl

givers_from : (to : Numbers) (n : ℕ) (keys : List ObjectKey) → filter_map (λ (entry : ℕ × ObjectKey). giver_in entry.0 entry.1) (enumerate_from n (map (key_moved to) keys)) ≡ filter_map (λ (entry : ℕ × ObjectKey). giver_in entry.0 entry.1) (enumerate_from n keys)
givers_from to n [] = refl
givers_from to n (key ∷ keys) = ap (λ (o : Option (ℕ × ℕ)). cons_option o (filter_map (λ (entry : ℕ × ObjectKey). giver_in entry.0 entry.1) (enumerate_from (n + 1) (map (key_moved to) keys)))) (giver_same to n key) ∙ ap (cons_option (giver_in n key)) (givers_from to (n + 1) keys)

-- the type by which a pointer calls
calling_same : (f : ℕ → ℕ) (t : Ctype) (arguments : Ctypes) → calling_type (renamed f t) (all_renamed f arguments) ≡ renamed f (calling_type t arguments)
calling_same f (PointerTo (FunctionFrom result parameters Unspecified)) arguments = refl
calling_same f (PointerTo (FunctionFrom result parameters Fixed)) arguments = refl
calling_same f (PointerTo (FunctionFrom result parameters Variadic)) arguments = refl
calling_same f (PointerTo t) arguments = refl
calling_same f t arguments = refl

module _ (p q : Program) (to back : Numbers) (h : ArePaired p q to back) (ready : IsReady p) (other_ready : IsReady q) (owners other_owners : List (Option ℕ)) (are : AreOwners (trees_in p) owners) (others : AreOwners (trees_in q) other_owners) where
  abbrev s : SpaceView
  s = here p q to back h

  abbrev z : SpaceView
  z = over p q to back h

  abbrev w : Setting
  w = setting_of p s owners

  abbrev x : Setting
  x = setting_of q z other_owners

  givers_same : givers_in (functions_of (trees_in q) z) ≡ givers_in (functions_of (trees_in p) s)
  givers_same = ap givers_in (all_functions p q to back h) ∙ givers_from to 0 (functions_of (trees_in p) s)

  new_same : (n k : ℕ) (y : Node) → slice_get p.nodes.items n ≡ Some y → (b : Bool) → (if b then z.first (CallKey (to.node n)) else z.first (Star k)) ≡ (if b then s.first (CallKey n) else s.first (Star k))
  new_same n k y at true = first_same p q to back h (CallKey n) (ap CallKey (h.lead.node_back n (slice_get_within p.nodes.items n y at)))
  new_same n k y at false = first_same p q to back h (Star k) refl

  object_same : (n k : ℕ) (y : Node) → slice_get p.nodes.items n ≡ Some y → (named : Option ℕ) (effects : List Effect) → object_by z (to.node n) named k effects ≡ object_by s n named k effects
  object_same n k y at named [] = refl
  object_same n k y at named (GivesNew ∷ rest) = new_same n k y at (is_named named k)
  object_same n k y at named (GivesObject object ∷ rest) = first_same p q to back h (Library object) refl
  object_same n k y at named (Nothing ∷ rest) = object_same n k y at named rest
  object_same n k y at named (GivesArgument a ∷ rest) = object_same n k y at named rest
  object_same n k y at named (Copies a b ∷ rest) = object_same n k y at named rest
  object_same n k y at named (StoresInto a b ∷ rest) = object_same n k y at named rest
  object_same n k y at named (CallsBack a b ∷ rest) = object_same n k y at named rest

  fresh_list : (n : ℕ) (y : Node) → slice_get p.nodes.items n ≡ Some y → (named : Option ℕ) (givers : List (ℕ × ℕ)) → fresh_in z (to.node n) named givers ≡ fresh_in s n named givers
  fresh_list n y at named [] = refl
  fresh_list n y at named (giver ∷ rest) =
      ap (λ (o : Option ℕ). cons_option (option_map (λ location. (giver.0, location)) o) (fresh_in z (to.node n) named rest)) (object_same n giver.1 y at named (effects_of giver.1))
      ∙ ap (cons_option (fresh_by s n named giver)) (fresh_list n y at named rest)

  -- ---- the function that a call names
  name_kind : (f : ℕ → ℕ) (kind : NodeKind) → name_of (kind_renamed f kind) ≡ option_map f (name_of kind)
  name_kind f (FunctionName e) = refl
  name_kind f kind = refl

  decay_kind : (f g : ℕ → ℕ) (kind : NodeKind) (children : List ℕ) → under_decay (kind_renamed f kind) (map g children) ≡ option_map g (under_decay kind children)
  decay_kind f g Decay [] = refl
  decay_kind f g Decay (c ∷ []) = refl
  decay_kind f g Decay (c ∷ d ∷ rest) = refl
  decay_kind f g kind children = refl

  name_moved : (n : ℕ) (y : Node) → slice_get p.nodes.items n ≡ Some y → name_at q.nodes.items (to.node n) ≡ option_map to.entity (name_at p.nodes.items n)
  name_moved n y at =
      let (b, there, same) = h.lead.nodes n y at in
      ap (option_and_then (λ (node : Node). name_of node.kind)) there ∙ (ap name_of same.kind ∙ (name_kind to.entity y.kind ∙ sym (ap (λ (o : Option Node). option_map to.entity (option_and_then (λ (node : Node). name_of node.kind) o)) at)))

  decay_moved : (n : ℕ) (y : Node) → slice_get p.nodes.items n ≡ Some y → decayed_at q.nodes.items (to.node n) ≡ option_map to.node (decayed_at p.nodes.items n)
  decay_moved n y at =
      let (b, there, same) = h.lead.nodes n y at in
      ap (option_and_then (λ (node : Node). under_decay node.kind node.children)) there
      ∙ (ap (λ (kind : NodeKind). under_decay kind b.children) same.kind
      ∙ (ap (under_decay (kind_renamed to.entity y.kind)) same.children
      ∙ (decay_kind to.entity to.node y.kind y.children ∙ sym (ap (λ (o : Option Node). option_map to.node (option_and_then (λ (node : Node). under_decay node.kind node.children) o)) at))))

  -- the child under a decay is a node
  decay_child : (n c : ℕ) (y : Node) → slice_get p.nodes.items n ≡ Some y → under_decay y.kind y.children ≡ Some c → (d : Node) × (slice_get p.nodes.items c ≡ Some d)
  decay_child n c y at is = by y.kind y.children is (ready.children n y at) (slice_get_within p.nodes.items n y at)
    where
      by : (kind : NodeKind) (children : List ℕ) → under_decay kind children ≡ Some c → All (λ c. c < n) children → n < length p.nodes.items → (d : Node) × (slice_get p.nodes.items c ≡ Some d)
      by Decay (k ∷ []) e all lt = (let less = all 0 0 (omega arith) in let same = some_one e in some_at p.nodes.items c (omega (arith, less, lt, same)))
      by Decay [] e all lt = absurd (none_some e)
      by Decay (k ∷ l ∷ rest) e all lt = absurd (none_some e)
      by kind children e all lt = absurd (none_some e)

  callee_moved : (c : ℕ) (y : Node) → slice_get p.nodes.items c ≡ Some y
      → option_and_then (name_at q.nodes.items) (decayed_at q.nodes.items (to.node c)) ≡ option_map to.entity (option_and_then (name_at p.nodes.items) (decayed_at p.nodes.items c))
  callee_moved c y at = ap (option_and_then (name_at q.nodes.items)) (decay_moved c y at) ∙ by (decayed_at p.nodes.items c) refl
    where
      by : (o : Option ℕ) → decayed_at p.nodes.items c ≡ o → option_and_then (name_at q.nodes.items) (option_map to.node o) ≡ option_map to.entity (option_and_then (name_at p.nodes.items) o)
      by None e = refl
      by (Some d) e =
          let under : under_decay y.kind y.children ≡ Some d = sym (ap (option_and_then (λ (node : Node). under_decay node.kind node.children)) at) ∙ e in
          let (k, k_at) = decay_child c d y at under in
          name_moved d k k_at

  library_of_name : (o : Option ℕ) → ((e : ℕ) → o ≡ Some e → e < length p.entities.items) → option_and_then (λ e. option_and_then library_number (slice_get q.entities.items e)) (option_map to.entity o) ≡ option_and_then (λ e. option_and_then library_number (slice_get p.entities.items e)) o
  library_of_name None within = refl
  library_of_name (Some e) within =
      let (a, at) = some_at p.entities.items e (within e refl) in
      let (b, there, same) = h.lead.entities e a at in
      ap (option_and_then library_number) there ∙ (library_same p q to back h ready owners other_owners a b same ∙ sym (ap (option_and_then library_number) at))

  name_within : (o : Option ℕ) (e : ℕ) → option_and_then (name_at p.nodes.items) o ≡ Some e → e < length p.entities.items
  name_within o e is =
      let (d, d_is, named) = and_then_some (name_at p.nodes.items) o e is in
      let (y, at, name) = and_then_some (λ (node : Node). name_of node.kind) (slice_get p.nodes.items d) e named in
      by y.kind name (ready.named d y at)
    where
      by : (kind : NodeKind) → name_of kind ≡ Some e → IfSome (named_by kind) (λ k. k < length p.entities.items) → e < length p.entities.items
      by (FunctionName f) is lt = subst (λ (k : ℕ). k < length p.entities.items) (some_one is) lt
      by kind is lt = absurd (none_some is)

  -- ---- a call and the one that it leads to
  module _ (n : ℕ) (y b : Node) (at : slice_get p.nodes.items n ≡ Some y) (call : y.kind ≡ CallNode) (there : slice_get q.nodes.items (to.node n) ≡ Some b) (same : SameNode p.types q.types to y b) where
    row_is : CallRow (trees_in p) (type_of p.types y.ty.0) y.children
    row_is = subst (λ (kind : NodeKind). RowOf (trees_in p) kind (type_of p.types y.ty.0) y.children) call (ready.rows.rows n y at)

    -- its callee is the value of a pointer
    record HasCallee : Type 0 where
      callee : ℕ
      arguments : List ℕ
      children : y.children ≡ callee ∷ arguments
      value : sort_at (trees_in p) callee ≡ ValueNode
      pointer : IsPointer (type_at (trees_in p) callee)

    calls_pointer : (t r : Ctype) (args : List ℕ) → Calls (trees_in p) t r args → IsPointer t
    calls_pointer (PointerTo to) r args k = tt
    calls_pointer t r args k = absurd k

    has_callee : HasCallee
    has_callee = by y.children refl row_is
      where
        by : (cs : List ℕ) → y.children ≡ cs → CallRow (trees_in p) (type_of p.types y.ty.0) cs → HasCallee
        by [] e k = absurd k
        by (c ∷ args) e k = record { callee = c; arguments = args; children = e; value = k.0; pointer = calls_pointer (type_at (trees_in p) c) (type_of p.types y.ty.0) args k.1 }

    children_over : b.children ≡ to.node has_callee.callee ∷ map to.node has_callee.arguments
    children_over = same.children ∙ ap (map to.node) has_callee.children

    argument_value : (a : ℕ) → Member has_callee.arguments a → sort_at (trees_in p) a ≡ ValueNode
    argument_value a m =
        let (k, k_at) = at_member has_callee.arguments a m in
        ready.values.each n y at call (suc k) a (ap (λ (cs : List ℕ). slice_get cs (suc k)) has_callee.children ∙ k_at)

    direct_same : named_callee (trees_in q) b ≡ option_map to.entity (named_callee (trees_in p) y)
    direct_same =
        let (c, c_at, sort) = node_of p.nodes.items has_callee.callee ValueNode has_callee.value is_value in
        ap (λ (cs : List ℕ). option_and_then (name_at q.nodes.items) (decayed_at q.nodes.items (head_of cs))) children_over
        ∙ (callee_moved has_callee.callee c c_at ∙ sym (ap (λ (cs : List ℕ). option_map to.entity (option_and_then (name_at p.nodes.items) (decayed_at p.nodes.items (head_of cs)))) has_callee.children))

    library_of_call : named_library (trees_in q) b ≡ named_library (trees_in p) y
    library_of_call =
        ap (option_and_then (λ e. option_and_then library_number (slice_get q.entities.items e))) direct_same
        ∙ library_of_name (named_callee (trees_in p) y) (λ e is. name_within (decayed_at p.nodes.items (head_of y.children)) e is)

    fresh_same : fresh_of (trees_in q) z (to.node n) (named_library (trees_in q) b) ≡ fresh_of (trees_in p) s n (named_library (trees_in p) y)
    fresh_same =
        ap (λ (o : Option ℕ). fresh_in z (to.node n) o (givers_in (functions_of (trees_in q) z))) library_of_call
        ∙ (ap (fresh_in z (to.node n) (named_library (trees_in p) y)) givers_same ∙ fresh_list n y at (named_library (trees_in p) y) (givers_in (functions_of (trees_in p) s)))

    caller_same : caller_by x (slice_get other_owners (to.node n)) ≡ caller_by w (slice_get owners n)
    caller_same = ap (caller_by x) (owner_there p q to back h.lead h.again other_ready.trees owners other_owners are others n y at) ∙ by (slice_get owners n) refl
      where
        by : (o : Option (Option ℕ)) → slice_get owners n ≡ o → caller_by x (option_map (option_map to.entity) o) ≡ caller_by w o
        by None e = refl
        by (Some None) e = refl
        by (Some (Some f)) e = (let (a, f_at, around) = are.right n (Some f) e in number_same p q to back h f a f_at)

    values_list : (args : List ℕ) → ((a : ℕ) → Member args a → sort_at (trees_in p) a ≡ ValueNode) → map (value_rows (trees_in q) z) (map to.node args) ≡ map (map (row_moved p q to back h)) (map (value_rows (trees_in p) s) args)
    values_list args each =
        map_map (value_rows (trees_in q) z) to.node args
        ∙ (same_map (λ a. value_rows (trees_in q) z (to.node a)) (λ a. map (row_moved p q to back h) (value_rows (trees_in p) s a)) args
        (λ a m. let (c, c_at, sort) = node_of p.nodes.items a ValueNode (each a m) is_value in values_moved p q to back h a c c_at sort)
        ∙ sym (map_map (map (row_moved p q to back h)) (value_rows (trees_in p) s) args))

    -- the rows of all arguments
    past_values : (o : Option ℕ) → variadic_count (type_at (trees_in p) has_callee.callee) ≡ o
        → rows_past (trees_in q) z (to.node n) o (map to.node has_callee.arguments) ≡ map (map (row_moved p q to back h)) (rows_past (trees_in p) s n o has_callee.arguments)
    past_values None e = values_list has_callee.arguments argument_value
    past_values (Some count) e =
        let front : List ℕ = take count has_callee.arguments in
        ap (λ (cs : List ℕ). map (value_rows (trees_in q) z) cs ++ (rest_row (trees_in q) z (to.node n) ∷ []) ∷ []) (take_map to.node count has_callee.arguments)
        ∙ (ap (λ (lists : List (List ℕ)). lists ++ (rest_row (trees_in q) z (to.node n) ∷ []) ∷ []) (values_list front (λ a m. argument_value a (take_member count has_callee.arguments a m)))
        ∙ (ap (λ (k : ℕ). map (map (row_moved p q to back h)) (map (value_rows (trees_in p) s) front) ++ (k ∷ []) ∷ []) (rest_there p q to back h ready owners other_owners n y has_callee.callee has_callee.arguments count at call has_callee.children e)
        ∙ sym (map-append (map (row_moved p q to back h)) (map (value_rows (trees_in p) s) front) ((rest_row (trees_in p) s n ∷ []) ∷ []))))

    all_values : argument_rows (trees_in q) z (to.node n) (head_of b.children) (rest_of b.children) ≡ map (map (row_moved p q to back h)) (argument_rows (trees_in p) s n (head_of y.children) (rest_of y.children))
    all_values =
        ap (λ (cs : List ℕ). argument_rows (trees_in q) z (to.node n) (head_of cs) (rest_of cs)) children_over
        ∙ (ap (λ (t : Ctype). rows_past (trees_in q) z (to.node n) (variadic_count t) (map to.node has_callee.arguments)) (tags_of p q to back h ready owners other_owners has_callee.callee ValueNode has_callee.value is_value).1
        ∙ (ap (λ (o : Option ℕ). rows_past (trees_in q) z (to.node n) o (map to.node has_callee.arguments)) (variadic_same to.tag (type_at (trees_in p) has_callee.callee))
        ∙ (past_values (variadic_count (type_at (trees_in p) has_callee.callee)) refl
        ∙ sym (ap (λ (cs : List ℕ). map (map (row_moved p q to back h)) (argument_rows (trees_in p) s n (head_of cs) (rest_of cs))) has_callee.children))))

    -- what holds of both calls
    pub record AreSites (maps : Maps) (site over_site : CallSite) : Type 0 where
      pub same_call : SameCall maps site over_site
      pub caller : over_site.caller ≡ site.caller
      pub direct : over_site.direct ≡ site.direct
      pub place : over_site.place ≡ site.place

    pub sites_same : (maps : Maps) → ((r : ℕ) → maps.row r ≡ row_moved p q to back h r) → ((k : ℕ) → maps.function k ≡ k) → (site over_site : CallSite) → IsCallSite w n y site → IsCallSite x (to.node n) b over_site → AreSites maps site over_site
    sites_same maps rows functions site over_site one other = record {
      same_call = record {
        callee = other.callee
            ∙ (ap (λ (cs : List ℕ). row (trees_in q) z (head_of cs)) children_over
            ∙ (pointer_row p q to back h ready owners other_owners has_callee.callee (type_at (trees_in p) has_callee.callee) (has_callee.value, refl) has_callee.pointer
            ∙ (ap (λ (cs : List ℕ). row_moved p q to back h (row (trees_in p) s (head_of cs))) (sym has_callee.children) ∙ (sym (ap (row_moved p q to back h) one.callee) ∙ sym (rows site.callee)))));
        arguments = other.arguments
            ∙ (all_values
            ∙ (sym (ap (map (map (row_moved p q to back h))) one.arguments)
            ∙ same_map (map (row_moved p q to back h)) (map maps.row) site.arguments (λ list m. same_map (row_moved p q to back h) maps.row list (λ r k. sym (rows r)))));
        result = other.result
            ∙ (values_moved p q to back h n y at (ap sort_of call)
            ∙ (sym (ap (map (row_moved p q to back h)) one.result) ∙ same_map (row_moved p q to back h) maps.row site.result (λ r k. sym (rows r))));
        fresh = λ number location has.
            let list : over_site.fresh ≡ site.fresh = other.fresh ∙ (fresh_same ∙ sym one.fresh) in
            let (i, lt, i_at) = at_Contains site.fresh (number, location) has in
            let own = fresh_valid s (λ key l e. first_below (locations_in p) l key e) n (named_library (trees_in p) y) (functions_of (trees_in p) s) i (number, location) (sym (ap (λ (f : List (ℕ × ℕ)). slice_get f i) one.fresh) ∙ i_at) in
            subst (λ (k : ℕ). Contains over_site.fresh (k, maps.row location)) (sym (functions number))
            (subst (λ (k : ℕ). Contains over_site.fresh (number, k)) (sym (rows location ∙ row_location p q to back h location own.1))
            (subst (λ (f : List (ℕ × ℕ)). Contains f (number, location)) (sym list) has));
      };
      caller = other.caller ∙ (caller_same ∙ sym one.caller);
      direct = other.direct ∙ (ap is_some direct_same ∙ (some_mapped to.entity (named_callee (trees_in p) y) ∙ sym one.direct));
      place = other.place ∙ (same.place ∙ sym one.place);
    }

    -- ---- the type by which it calls
    ids_same : (args : List ℕ) → ((a : ℕ) → Member args a → sort_at (trees_in p) a ≡ ValueNode)
        → trees_at (types_of q.types) (ids_of q.nodes.items (map to.node args)) ≡ all_renamed to.tag (trees_at (types_of p.types) (ids_of p.nodes.items args))
    ids_same [] each = refl
    ids_same (a ∷ args) each =
        let (c, c_at, sort) = node_of p.nodes.items a ValueNode (each a (inl refl)) is_value in
        let (d, d_at, like) = h.lead.nodes a c c_at in
        ap (λ (o : Option Node). trees_at (types_of q.types) (cons_option (option_map (λ (k : Node). k.ty) o) (ids_of q.nodes.items (map to.node args)))) d_at
        ∙ (ap (λ (t : Ctype). MoreTypes t (trees_at (types_of q.types) (ids_of q.nodes.items (map to.node args)))) like.type
        ∙ (ap (λ (ts : Ctypes). MoreTypes (renamed to.tag (type_of p.types c.ty.0)) ts) (ids_same args (λ k m. each k (inr m)))
        ∙ sym (ap (λ (o : Option Node). all_renamed to.tag (trees_at (types_of p.types) (cons_option (option_map (λ (k : Node). k.ty) o) (ids_of p.nodes.items args)))) c_at)))

    pub record HasSignatures (site over_site : CallSite) : Type 0 where
      pub type : Ctype
      pub here : IsSignature p.types type site.signature
      pub over : IsSignature q.types (renamed to.tag type) over_site.signature

    pub signature_of : (site over_site : CallSite) → IsCallSite w n y site → IsCallSite x (to.node n) b over_site → HasSignatures site over_site
    signature_of site over_site one other =
        let pointer : Ctype = type_at (trees_in p) (head_of y.children) in
        let arguments : Ctypes = trees_at (types_of p.types) (ids_of p.nodes.items (rest_of y.children)) in
        let heads : type_at (trees_in q) (head_of b.children) ≡ renamed to.tag pointer =
        ap (λ (cs : List ℕ). type_at (trees_in q) (head_of cs)) children_over
        ∙ ((tags_of p q to back h ready owners other_owners has_callee.callee ValueNode has_callee.value is_value).1 ∙ sym (ap (λ (cs : List ℕ). renamed to.tag (type_at (trees_in p) (head_of cs))) has_callee.children)) in
        let rest : trees_at (types_of q.types) (ids_of q.nodes.items (rest_of b.children)) ≡ all_renamed to.tag arguments =
        ap (λ (cs : List ℕ). trees_at (types_of q.types) (ids_of q.nodes.items (rest_of cs))) children_over
        ∙ (ids_same has_callee.arguments argument_value ∙ sym (ap (λ (cs : List ℕ). all_renamed to.tag (trees_at (types_of p.types) (ids_of p.nodes.items (rest_of cs)))) has_callee.children)) in
        record {
          type = calling_type pointer arguments;
          here = one.signature;
          over = subst (λ (t : Ctype). IsSignature q.types t over_site.signature)
              (ap (λ (t : Ctype). calling_type t (trees_at (types_of q.types) (ids_of q.nodes.items (rest_of b.children)))) heads ∙ (ap (calling_type (renamed to.tag pointer)) rest ∙ calling_same to.tag pointer arguments)) other.signature;
        }
