-- The systems of two programs that are one, but for numbers.
use Rattle.std.proofs.Common.{arith, ◌≡◌, ◌∙◌, ◌+◌, ◌<◌, ◌++◌, ℕ, true, List, [], ◌∷◌, map, length, All, Contains, Option, Some, None, refl, sym, ap, subst, inl, inr}
use Rattle.std.specs.Prelude.{◌&&◌, codes}
use Rattle.std.specs.List.{slice_get, range_with_len}
use Rattle.std.specs.Option.{option_map, option_map_or, option_and_then}
use Rattle.std.specs.Str.{bytes_eq}
use Rattle.std.proofs.lemmas.Bool.{false≢true, and_parts}
use Rattle.std.specs.Cmp.Lexicographic.{bytes_decides}
use Rattle.std.proofs.lemmas.Option.{slice_get_within, slice_get-map}
use Rattle.c_types.specs.declared.key.ObjectKey.{ObjectKey}
use Rattle.c_types.specs.declared.key.ObjectKey.TheVariants.{Entity as EntityKey, Library}
use Rattle.core_tree.specs.declared.node.Node.{Node}
use Rattle.core_tree.specs.declared.node.NodeKind.TheVariants.{CallNode}
use Rattle.core_tree.specs.declared.node.Entity.{Entity}
use Rattle.core_tree.specs.declared.node.Linkage.{Linkage}
use Rattle.core_tree.specs.declared.node.Linkage.TheVariants.{External}
use Rattle.core_tree.specs.declared.node.Storage.{Storage}
use Rattle.core_tree.specs.declared.node.Storage.TheVariants.{FunctionBody}
use Rattle.core_tree.specs.Valid.{IsLocal}
use Rattle.link_names.specs.Externals.{IsExternal}
use Rattle.core_tree.specs.declared.node.Program.{Program}
use Rattle.core_tree.specs.Typed.{trees_in}
use Rattle.sol_model.specs.declared.system.System.{System}
use Rattle.sol_model.specs.declared.system.CallSite.{CallSite}
use Rattle.sol_model.specs.declared.system.Function.{Function}
use Rattle.sol_model.specs.declared.system.Constraint.{Constraint}
use Rattle.sol_model.specs.declared.system.Constraint.TheVariants.{Address as AddressForm}
use Rattle.sol_model.specs.Systems.{IsValid}
use Rattle.sol_model.proofs.Members.{at_Contains, Contains-at}
use Rattle.sol_model.proofs.InRange.{field_location}
use Rattle.obj_space.specs.Space.{locations_in}
use Rattle.obj_space.specs.View.{SpaceView}
use Rattle.row_numbers.specs.Functions.{has_body, is_external, plays, keys_in, functions_of, entity_in, is_owned_by, all_parameters, parameters_of, key_type}
use Rattle.row_numbers.specs.declared.functions.Role.TheVariants.{Main}
use Rattle.row_numbers.specs.Setting.{Setting}
use Rattle.call_sites.specs.Calls.{calls_upto, IsCallSite, IsSiteAt}
use Rattle.call_sites.specs.Signatures.{called_type}
use Rattle.normal_form.specs.declared.normal.Assignment.{Assignment}
use Rattle.normal_form.specs.declared.normal.Assignment.TheVariants.{Address, Copy, Load, Store, Field}
use Rattle.normal_form.specs.Assignments.{node_assignments, assignments_at, assignments_by, assignments_of}
use Rattle.normal_form.proofs.Demanding.{demanded as each_demanded}
use Rattle.normal_form.specs.SystemOf.{constraint_of, held_by, library_pair, library_constraints, second_of, argument_constraints, start_constraints, Demands, by_node, by_call, by_library, by_start, setting_of, SystemOf}
use Rattle.unit_link.specs.Places.{kind_renamed}
use Rattle.twin_report_laws.specs.outcome_laws.twin_programs.One.{Numbers, SameNode, LeadsTo}
use Rattle.twin_report_laws.specs.outcome_laws.twin_locations.Same.{key_moved, number_moved}
use Rattle.twin_report_laws.specs.systems.Systems.{Maps, constraint_moved, SystemLeads}
use Rattle.twin_report_laws.proofs.outcome_laws.twin_words.Sums.{some_one, none_some}
use Rattle.twin_report_laws.proofs.outcome_laws.twin_words.Options.{and_then_some}
use Rattle.twin_report_laws.proofs.outcome_laws.twin_words.Members.{Member, member_at, at_member, member_split, member_flat, flat_member, map_member, range_at, at_range}
use Rattle.twin_report_laws.proofs.outcome_laws.twin_words.Library.{first_below}
use Rattle.twin_report_laws.specs.rows.Paired.{ArePaired, flipped}
use Rattle.twin_report_laws.specs.rows.Ready.{IsReady, HasCalled}
use Rattle.twin_report_laws.proofs.rows.Views.{here, over, first_same, entity_round, in_role, role_moved}
use Rattle.twin_report_laws.proofs.rows.Rows.{row_moved, row_location}
use Rattle.twin_report_laws.proofs.rows.Copies.{assignment_moved}
use Rattle.twin_report_laws.proofs.rows.Nodes.{some_at}
use Rattle.twin_report_laws.proofs.rows.Statements.{node_moved}
use Rattle.twin_report_laws.proofs.rows.Calls.{zip_at, at_zip, call_at, at_call, call_moved, AreSites, sites_same, signature_of}
use Rattle.twin_report_laws.proofs.rows.Functions.{parameters_same, parameter_in, AreFunctionsOf, function_there, agree_there, filter_member}
use Rattle.twin_report_laws.proofs.rows.Starts.{entries_moved}
use Rattle.twin_report_laws.proofs.rows.Facts.{ApartTags, subs_there, fields_there, pairs_kept}

pub contains_of : {X : Type 0} (xs : List X) (x : X) → Member xs x → Contains xs x
contains_of xs x m = (let (i, at) = at_member xs x m in Contains-at xs i x at)

pub member_of : {X : Type 0} (xs : List X) (x : X) → Contains xs x → Member xs x
member_of xs x c = (let (i, lt, at) = at_Contains xs x c in member_at xs i x at)

module _ (p q : Program) (to back : Numbers) (h : ArePaired p q to back) where
  abbrev pub maps : Maps
  maps = record {
    row = λ r. row_moved p q to back h r;
    ty = λ n. number_moved to.tag n;
    function = λ k. k;
    call = λ c. call_moved p.nodes.items q.nodes.items to.node c;
  }

  abbrev s : SpaceView
  s = here p q to back h

  abbrev z : SpaceView
  z = over p q to back h

  same_form : (a : Assignment) → constraint_of (assignment_moved (λ r. row_moved p q to back h r) to.tag a) ≡ constraint_moved maps (constraint_of a)
  same_form (Address row location) = refl
  same_form (Copy row from) = refl
  same_form (Load row pointer ty sub) = refl
  same_form (Store pointer from ty sub) = refl
  same_form (Field row from ty member) = refl

  -- ---- what the library and the start demand
  held_fixed : (a b : Option ℕ) → ((l : ℕ) → a ≡ Some l → l < length (locations_in p)) → ((l : ℕ) → b ≡ Some l → l < length (locations_in p)) → (c : Constraint) → Member (held_by a b) c → constraint_moved maps c ≡ c
  held_fixed None b fa fb c m = absurd m
  held_fixed (Some k) None fa fb c m = absurd m
  held_fixed (Some k) (Some l) fa fb c (inl same) =
      ap (constraint_moved maps) (sym same)
      ∙ (ap (λ (n : ℕ). AddressForm n (row_moved p q to back h l)) (row_location p q to back h k (fa k refl)) ∙ (ap (AddressForm k) (row_location p q to back h l (fb l refl)) ∙ same))
  held_fixed (Some k) (Some l) fa fb c (inr none) = absurd none

  below : (key : ObjectKey) (l : ℕ) → s.first key ≡ Some l → l < length (locations_in p)
  below key l e = first_below (locations_in p) l key e

  pair_same : (a b : ℕ) → library_pair z a b ≡ library_pair s a b
  pair_same a b = ap (λ (o : Option ℕ). held_by o (z.first (Library b))) (first_same p q to back h (Library a) refl) ∙ ap (held_by (s.first (Library a))) (first_same p q to back h (Library b) refl)

  library_same : library_constraints z ≡ library_constraints s
  library_same =
      ap (λ l. l ++ library_pair z 4 2 ++ library_pair z 5 2 ++ library_pair z 7 8 ++ library_pair z 9 10) (pair_same 3 2)
      ∙ (ap (λ l. library_pair s 3 2 ++ l ++ library_pair z 5 2 ++ library_pair z 7 8 ++ library_pair z 9 10) (pair_same 4 2)
      ∙ (ap (λ l. library_pair s 3 2 ++ library_pair s 4 2 ++ l ++ library_pair z 7 8 ++ library_pair z 9 10) (pair_same 5 2)
      ∙ (ap (λ l. library_pair s 3 2 ++ library_pair s 4 2 ++ library_pair s 5 2 ++ l ++ library_pair z 9 10) (pair_same 7 8)
      ∙ ap (λ l. library_pair s 3 2 ++ library_pair s 4 2 ++ library_pair s 5 2 ++ library_pair s 7 8 ++ l) (pair_same 9 10))))

  pair_fixed : (a b : ℕ) (c : Constraint) → Member (library_pair s a b) c → constraint_moved maps c ≡ c
  pair_fixed a b c m = held_fixed (s.first (Library a)) (s.first (Library b)) (below (Library a)) (below (Library b)) c m

  library_fixed : (c : Constraint) → Member (library_constraints s) c → constraint_moved maps c ≡ c
  library_fixed c m = elim (member_split (library_pair s 3 2 ++ library_pair s 4 2 ++ library_pair s 5 2 ++ library_pair s 7 8) (library_pair s 9 10) c m) [
    | inr last ↦ pair_fixed 9 10 c last
    | inl more ↦ elim (member_split (library_pair s 3 2 ++ library_pair s 4 2 ++ library_pair s 5 2) (library_pair s 7 8) c more) [
      | inr last ↦ pair_fixed 7 8 c last
      | inl less ↦ elim (member_split (library_pair s 3 2 ++ library_pair s 4 2) (library_pair s 5 2) c less) [
        | inr last ↦ pair_fixed 5 2 c last
        | inl few ↦ elim (member_split (library_pair s 3 2) (library_pair s 4 2) c few) [
          | inl first ↦ pair_fixed 3 2 c first
          | inr last ↦ pair_fixed 4 2 c last
        ]
      ]
    ]
  ]

external_is : (linkage : Linkage) → is_external linkage ≡ true → linkage ≡ External
external_is External e = refl
external_is linkage e = absurd (false≢true e)

body_is : (storage : Storage) → has_body storage ≡ true → storage ≡ FunctionBody
body_is FunctionBody e = refl
body_is storage e = absurd (false≢true e)

record IsMain (x : Entity) : Type 0 where
  external : IsExternal x
  name : x.name ≡ codes "main"

main_view : (x : Entity) → plays Main x ≡ true → IsMain x
main_view x e =
    let (both, name) = and_parts (has_body x.storage && is_external x.linkage) (bytes_eq x.name (codes "main")) e in
    let (body, external) = and_parts (has_body x.storage) (is_external x.linkage) both in
    record {
      external = record { linkage = external_is x.linkage external; lasting = λ local. subst IsLocal (body_is x.storage body) local };
      name = (bytes_decides x.name (codes "main")).0 name;
    }

-- the functions that are called main: one at most
one_main : (r t : Program) (to back : Numbers) → LeadsTo r t to back → (a b : ObjectKey) → Member (keys_in Main r.entities.items) a → Member (keys_in Main r.entities.items) b → a ≡ b
one_main r t to back l a b ma mb =
    let x = in_role r Main a ma in
    let y = in_role r Main b mb in
    let vx = main_view x.entity x.plays in
    let vy = main_view y.entity y.plays in
    let one = l.external x.number y.number x.entity y.entity x.there y.there vx.external vy.external (vx.name ∙ sym vy.name) in
    x.key_is ∙ (ap EntityKey one ∙ sym y.key_is)

module _ (p q : Program) (to back : Numbers) (h : ArePaired p q to back) (ready : IsReady p) where
  second_same : second_of (trees_in q) (over p q to back h) (keys_in Main q.entities.items) ≡ option_map (key_moved to) (second_of (trees_in p) (here p q to back h) (keys_in Main p.entities.items))
  second_same = by (keys_in Main p.entities.items) refl (keys_in Main q.entities.items) refl
    where
      own : (k : ObjectKey) (ks : List ObjectKey) (j : ObjectKey) (js : List ObjectKey) → keys_in Main p.entities.items ≡ k ∷ ks → keys_in Main q.entities.items ≡ j ∷ js
          → second_of (trees_in q) (over p q to back h) (j ∷ js) ≡ option_map (key_moved to) (second_of (trees_in p) (here p q to back h) (k ∷ ks))
      own k ks j js e f =
          let mk : Member (keys_in Main p.entities.items) k = subst (λ l. Member l k) (sym e) (inl refl) in
          let mj : Member (keys_in Main q.entities.items) j = subst (λ l. Member l j) (sym f) (inl refl) in
          let x = in_role p Main k mk in
          let j_is : j ≡ key_moved to k = one_main q p back to h.again j (key_moved to k) mj ((role_moved p q to back h Main).there k mk) in
          let lt = slice_get_within p.entities.items x.number x.entity x.there in
          ap (λ (i : ObjectKey). second_of (trees_in q) (over p q to back h) (i ∷ js)) (j_is ∙ ap (key_moved to) x.key_is)
          ∙ (ap (λ (l : List ObjectKey). slice_get l 1) (parameters_same p q to back h ready x.number lt)
          ∙ (slice_get-map (key_moved to) (parameters_of (trees_in p) (here p q to back h) x.number) 1
          ∙ sym (ap (λ (i : ObjectKey). option_map (key_moved to) (second_of (trees_in p) (here p q to back h) (i ∷ ks))) x.key_is)))

      by : (ks : List ObjectKey) → keys_in Main p.entities.items ≡ ks → (js : List ObjectKey) → keys_in Main q.entities.items ≡ js
          → second_of (trees_in q) (over p q to back h) (keys_in Main q.entities.items) ≡ option_map (key_moved to) (second_of (trees_in p) (here p q to back h) (keys_in Main p.entities.items))
      by [] e [] f = ap (second_of (trees_in q) (over p q to back h)) f ∙ sym (ap (λ l. option_map (key_moved to) (second_of (trees_in p) (here p q to back h) l)) e)
      by [] e (j ∷ js) f =
          let mj : Member (keys_in Main q.entities.items) j = subst (λ l. Member l j) (sym f) (inl refl) in
          absurd (subst (λ l. Member l (key_moved back j)) e ((role_moved q p back to (flipped p q to back h) Main).there j mj))
      by (k ∷ ks) e [] f =
          let mk : Member (keys_in Main p.entities.items) k = subst (λ l. Member l k) (sym e) (inl refl) in
          absurd (subst (λ l. Member l (key_moved to k)) f ((role_moved p q to back h Main).there k mk))
      by (k ∷ ks) e (j ∷ js) f =
          ap (second_of (trees_in q) (over p q to back h)) f ∙ (own k ks j js e f ∙ sym (ap (λ l. option_map (key_moved to) (second_of (trees_in p) (here p q to back h) l)) e))

  -- a second parameter is a parameter
  second_round : (k : ObjectKey) → second_of (trees_in p) (here p q to back h) (keys_in Main p.entities.items) ≡ Some k → key_moved back (key_moved to k) ≡ k
  second_round k is = by (keys_in Main p.entities.items) refl is
    where
      of_main : (main : ObjectKey) (rest : List ObjectKey) → second_of (trees_in p) (here p q to back h) (main ∷ rest) ≡ Some k → key_moved back (key_moved to k) ≡ k
      of_main (EntityKey e) rest f =
          let there = filter_member (λ key. is_owned_by e (entity_in (trees_in p) key)) (all_parameters (trees_in p) (here p q to back h)) k (member_at (parameters_of (trees_in p) (here p q to back h) e) 1 k f) in
          let (l, first, role) = parameter_in p q to back h ready k there in
          subst (λ (i : ObjectKey). key_moved back (key_moved to i) ≡ i) (sym role.key_is) (entity_round p q to back h role.number role.entity role.there)
      of_main main rest f = absurd (none_some f)

      by : (keys : List ObjectKey) → keys_in Main p.entities.items ≡ keys → second_of (trees_in p) (here p q to back h) keys ≡ Some k → key_moved back (key_moved to k) ≡ k
      by [] e f = absurd (none_some f)
      by (main ∷ rest) e f = of_main main rest f

  argument_same : argument_constraints (trees_in q) (over p q to back h) ≡ argument_constraints (trees_in p) (here p q to back h)
  argument_same =
      ap (λ (o : Option ObjectKey). held_by (option_and_then (over p q to back h).first o) ((over p q to back h).first (Library 9))) second_same
      ∙ (ap (λ (o : Option ℕ). held_by o ((over p q to back h).first (Library 9))) (by (second_of (trees_in p) (here p q to back h) (keys_in Main p.entities.items)) (λ k e. second_round k e))
      ∙ ap (held_by (option_and_then (here p q to back h).first (second_of (trees_in p) (here p q to back h) (keys_in Main p.entities.items)))) (first_same p q to back h (Library 9) refl))
    where
      by : (o : Option ObjectKey) → ((k : ObjectKey) → o ≡ Some k → key_moved back (key_moved to k) ≡ k) → option_and_then (over p q to back h).first (option_map (key_moved to) o) ≡ option_and_then (here p q to back h).first o
      by None round = refl
      by (Some k) round = first_same p q to back h k (round k refl)

  argument_fixed : (c : Constraint) → Member (argument_constraints (trees_in p) (here p q to back h)) c → constraint_moved (maps p q to back h) c ≡ c
  argument_fixed c m =
      held_fixed p q to back h (option_and_then (here p q to back h).first (second_of (trees_in p) (here p q to back h) (keys_in Main p.entities.items))) ((here p q to back h).first (Library 9))
      (λ l e. let (k, k_is, first) = and_then_some (here p q to back h).first (second_of (trees_in p) (here p q to back h) (keys_in Main p.entities.items)) l e in below p q to back h k l first) (below p q to back h (Library 9)) c m

  -- what is there at the start is there in the other program
  start_there : (entries : List ℕ) → All (λ e. e < length p.entities.items) entries → (c : Constraint) → Contains (start_constraints (trees_in p) (here p q to back h) entries) c
      → Contains (start_constraints (trees_in q) (over p q to back h) (map to.entity entries)) (constraint_moved (maps p q to back h) c)
  start_there [] within c has =
      let m = member_of (argument_constraints (trees_in p) (here p q to back h)) c has in
      subst (λ (l : List Constraint). Contains l (constraint_moved (maps p q to back h) c)) (sym argument_same)
      (subst (λ (k : Constraint). Contains (argument_constraints (trees_in p) (here p q to back h)) k) (sym (argument_fixed c m)) has)
  start_there (e ∷ rest) within c has =
      let list = start_constraints (trees_in p) (here p q to back h) (e ∷ rest) in
      let moved = constraint_moved (maps p q to back h) in
      subst (λ (l : List Constraint). Contains l (moved c)) (sym (entries_moved p q to back h ready (maps p q to back h) (λ r. refl) e rest within)) (contains_of (map moved list) (moved c) (map_member moved list c (member_of list c has)))

-- ---- all that a system says
module _ (p q : Program) (to back : Numbers) (h : ArePaired p q to back) (ready : IsReady p) (other_ready : IsReady q) (S T : System)
    (of : SystemOf p (here p q to back h) S) (over_of : SystemOf q (over p q to back h) T) where
  abbrev w : Setting
  w = setting_of p (here p q to back h) of.owners

  abbrev x : Setting
  x = setting_of q (over p q to back h) over_of.owners

  -- what a node demands is demanded there
  assignment_there : (a : Assignment) → Contains (assignments_of w) a → Contains (assignments_of x) (assignment_moved (λ r. row_moved p q to back h r) to.tag a)
  assignment_there a has =
      let (n, n_in, own) = member_flat (assignments_at w) (range_with_len 0 (length p.nodes.items)) a (member_of (assignments_of w) a has) in
      let (k, k_at) = at_member (range_with_len 0 (length p.nodes.items)) n n_in in
      let (lt, number) = at_range 0 (length p.nodes.items) k n k_at in
      let (y, at) = some_at p.nodes.items n (omega (arith, lt, number)) in
      let (b, there, same) = h.lead.nodes n y at in
      let moved = node_moved p q to back h ready other_ready of.owners over_of.owners of.around over_of.around n y b at same in
      let mine : Member (node_assignments w n y) a = subst (λ (o : Option Node). Member (assignments_by w n o) a) at own in
      let its : Member (node_assignments x (to.node n) b) (assignment_moved (λ r. row_moved p q to back h r) to.tag a) =
      subst (λ l. Member l (assignment_moved (λ r. row_moved p q to back h r) to.tag a)) (sym moved) (map_member (assignment_moved (λ r. row_moved p q to back h r) to.tag) (node_assignments w n y) a mine) in
      let within = slice_get_within q.nodes.items (to.node n) b there in
      let zero_is : 0 + to.node n ≡ to.node n = omega arith in
      contains_of (assignments_of x) (assignment_moved (λ r. row_moved p q to back h r) to.tag a)
      (flat_member (assignments_at x) (range_with_len 0 (length q.nodes.items)) (to.node n) (assignment_moved (λ r. row_moved p q to back h r) to.tag a)
      (member_at (range_with_len 0 (length q.nodes.items)) (to.node n) (to.node n) (range_at 0 (length q.nodes.items) (to.node n) within ∙ ap (λ (i : ℕ). Some i) zero_is))
      (subst (λ (o : Option Node). Member (assignments_by x (to.node n) o) (assignment_moved (λ r. row_moved p q to back h r) to.tag a)) (sym there) its))

  -- a call, and the one that it leads to
  pub record AreTwinCalls (c : ℕ) (site : CallSite) : Type 0 where
    pub node : ℕ
    pub call : Node
    pub twin : Node
    pub at : slice_get p.nodes.items node ≡ Some call
    pub kind : call.kind ≡ CallNode
    pub there : slice_get q.nodes.items (to.node node) ≡ Some twin
    pub like : SameNode p.types q.types to call twin
    pub number : slice_get (calls_upto p.nodes.items (length p.nodes.items)) c ≡ Some node
    pub over : CallSite
    pub over_at : slice_get T.calls ((maps p q to back h).call c) ≡ Some over
    pub own_site : IsSiteAt w node site
    pub over_site : IsSiteAt x (to.node node) over
    pub same : AreSites p q to back h ready other_ready of.owners over_of.owners of.around over_of.around node call twin at kind there like (maps p q to back h) site over

  pub call_there : (c : ℕ) (site : CallSite) → slice_get S.calls c ≡ Some site → AreTwinCalls c site
  call_there c site site_at =
      let (n, n_at, own) = zip_at (IsSiteAt w) (calls_upto p.nodes.items (length p.nodes.items)) S.calls c site of.calls site_at in
      let call = call_at p.nodes.items c n n_at in
      let (b, there, same) = h.lead.nodes n call.node call.there in
      let kind : b.kind ≡ CallNode = same.kind ∙ ap (kind_renamed to.entity) call.call in
      let d_at = at_call q.nodes.items (to.node n) b there kind in
      let (found, found_at, right) = at_zip (IsSiteAt x) (calls_upto q.nodes.items (length q.nodes.items)) T.calls (length (calls_upto q.nodes.items (to.node n))) (to.node n) over_of.calls d_at in
      let mine : own.node ≡ call.node = some_one (sym own.there ∙ call.there) in
      let its : right.node ≡ b = some_one (sym right.there ∙ there) in
      record {
        node = n;
        call = call.node;
        twin = b;
        at = call.there;
        kind = call.call;
        there = there;
        like = same;
        number = n_at;
        over = found;
        over_at = ap (λ (o : Option ℕ). slice_get T.calls (option_map_or (λ k. length (calls_upto q.nodes.items (to.node k))) o 0)) n_at ∙ found_at;
        own_site = own;
        over_site = right;
        same = sites_same p q to back h ready other_ready of.owners over_of.owners of.around over_of.around n call.node b call.there call.call there same (maps p q to back h) (λ r. refl) (λ k. refl) site found
            (subst (λ (k : Node). IsCallSite w n k site) mine own.right) (subst (λ (k : Node). IsCallSite x (to.node n) k found) its right.right);
      }

  demanded : (c : Constraint) → Demands w (length S.calls) c → Demands x (length T.calls) (constraint_moved (maps p q to back h) c)
  demanded c (by_node {a} has is) = by_node (assignment_there a has) (same_form p q to back h a ∙ ap (constraint_moved (maps p q to back h)) is)
  demanded c (by_call {call} lt is) =
      let (site, site_at) = some_at S.calls call lt in
      let t = call_there call site site_at in
      by_call (slice_get_within T.calls ((maps p q to back h).call call) t.over t.over_at) (ap (constraint_moved (maps p q to back h)) is)
  demanded c (by_library has) =
      let m = member_of (library_constraints (here p q to back h)) c has in
      by_library (subst (λ l. Contains l (constraint_moved (maps p q to back h) c)) (sym (library_same p q to back h))
      (subst (λ (k : Constraint). Contains (library_constraints (here p q to back h)) k) (sym (library_fixed p q to back h c m)) has))
  demanded c (by_start has) =
      by_start (subst (λ (es : List ℕ). Contains (start_constraints (trees_in q) (over p q to back h) es) (constraint_moved (maps p q to back h) c)) (sym h.lead.entries) (start_there p q to back h ready p.entries.items ready.entries c has))

-- the call at a node, by that node
site_is : (r : Program) (v : Setting) (n : ℕ) (y : Node) (site : CallSite) → IsSiteAt v n site → slice_get v.trees.nodes n ≡ Some y → IsCallSite v n y site
site_is r v n y site own at = subst (λ (k : Node). IsCallSite v n k site) (some_one (sym own.there ∙ at)) own.right

-- ---- the system leads to the other one
module _ (p q : Program) (to back : Numbers) (h : ArePaired p q to back) (ready : IsReady p) (other_ready : IsReady q) (S T : System)
    (of : SystemOf p (here p q to back h) S) (over_of : SystemOf q (over p q to back h) T) (valid : IsValid S) (tags_apart : ApartTags p) (over_apart : ApartTags q)
    (called : HasCalled p) where
  abbrev to_maps : Maps
  to_maps = maps p q to back h

  function_over : (n : ℕ) (f : Function) → slice_get S.functions n ≡ Some f → (g : Function) × (slice_get T.functions n ≡ Some g) × AreFunctionsOf p q to back h ready to_maps n f g
  function_over n f at = function_there p q to back h ready to_maps (λ r. refl) S.functions T.functions of.functions over_of.functions n f at

  twin_call : (c : ℕ) (site : CallSite) → slice_get S.calls c ≡ Some site → AreTwinCalls p q to back h ready other_ready S T of over_of c site
  twin_call c site at = call_there p q to back h ready other_ready S T of over_of c site at

  agrees : (n k : ℕ) (c d : CallSite) (f g : Function) → slice_get S.calls n ≡ Some c → slice_get S.functions k ≡ Some f → slice_get T.calls (to_maps.call n) ≡ Some d → slice_get T.functions k ≡ Some g → f.signature ≡ c.signature
      → g.signature ≡ d.signature
  agrees n k c d f g c_at f_at d_at g_at same =
      let t = twin_call n c c_at in
      let (e, e_at, functions) = function_over k f f_at in
      let g_is : e ≡ g = some_one (sym e_at ∙ g_at) in
      let d_is : t.over ≡ d = some_one (sym t.over_at ∙ d_at) in
      let key_in = member_at (functions_of (trees_in p) (here p q to back h)) k functions.key functions.stands in
      let own = signature_of p q to back h ready other_ready of.owners over_of.owners of.around over_of.around t.node t.call t.twin t.at t.kind t.there t.like c t.over (site_is p (setting_of p (here p q to back h) of.owners) t.node t.call c t.own_site t.at) (site_is q (setting_of q (over p q to back h) over_of.owners) (to.node t.node) t.twin t.over t.over_site t.there) in
      subst (λ (a : Function). a.signature ≡ d.signature) g_is
      (subst (λ (a : CallSite). e.signature ≡ a.signature) d_is
      (agree_there p q to back h ready (called_type (key_type (trees_in p) functions.key)) own.type f.signature c.signature e.signature t.over.signature called.room (called.each functions.key (contains_of (functions_of (trees_in p) (here p q to back h)) functions.key key_in)) functions.own_signature own.here functions.over_signature own.over same))

  pub leads : SystemLeads S T to_maps
  leads = record {
    constraints = λ c has. (each_demanded q (over p q to back h) T over_of (constraint_moved to_maps c)).1 (demanded p q to back h ready other_ready S T of over_of c ((each_demanded p (here p q to back h) S of c).0 has));
    functions = λ n f at. let (g, g_at, a) = function_over n f at in (g, g_at, a.same);
    calls = λ n c at. let t = twin_call n c at in (t.over, t.over_at, t.same.same_call);
    agree = agrees;
    subs = λ l ty sub n known f. subs_there p q to back h S T of.types over_of.types valid of.locations over_of.locations tags_apart over_apart l ty sub n known f;
    fields = λ l ty k n f. fields_there p q to back h S T of.types over_of.types valid of.locations over_of.locations tags_apart over_apart (λ a b c d e. field_location S valid a b c d e) l ty k n f;
    pairs = λ d s a b has. pairs_kept p q to back h S T of.types over_of.types valid of.locations over_of.locations tags_apart over_apart d s a b has;
  }
