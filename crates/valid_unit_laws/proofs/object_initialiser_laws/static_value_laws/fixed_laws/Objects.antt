-- The initialisers of named objects that live for the whole run hold fixed values.
use Rattle.std.proofs.Common.{arith, ◌≡◌, ◌<◌, ◌⊎◌, inl, inr, ℕ, zero, suc, ◌==◌, Bool, true, false, ◌&&◌, ◌||◌, not, List, length, slice_get, Option, Some, None, refl, sym, ap, ◌∙◌, subst}
use Rattle.std.specs.Prelude.{option_map, option_and_then, is_none, if◌then◌else◌}
use Rattle.std.proofs.lemmas.Bool.{eqb-true, and_parts}
use Rattle.pta_base.specs.declared.place.Place.{Place}
use Rattle.c_types.specs.Trees.{Ctype}
use Rattle.core_tree.specs.declared.node.Linkage.{Linkage}
use Rattle.core_tree.specs.declared.node.Linkage.TheVariants.{External, Internal, Local}
use Rattle.core_tree.specs.declared.node.Storage.{Storage}
use Rattle.core_tree.specs.declared.node.Storage.TheVariants.{Static, Automatic, FunctionBody, Parameter, Declared}
use Rattle.core_tree.specs.declared.node.NodeKind.TheVariants.{Initialise, Block}
use Rattle.c_grammar.specs.Productions.{p_external, p_rest, p_declaration, p_declarator, p_abstract, p_either, p_init, p_asm_name, p_block}
use Rattle.c_grammar.specs.Reads.{leaf as leaf_production}
use Rattle.c_grammar.specs.Terminals.{contains}
use Rattle.c_grammar.specs.Words.{word_extern, word_static}
use Rattle.c_consts.specs.Core.{Core, Cores, Of}
use Rattle.c_inits.specs.Shapes.{Path}
use Rattle.c_scope.specs.declared.kinds.Declared.{Declared as Declaration}
use Rattle.c_senses.specs.Given.{Given, Fits}
use Rattle.c_senses.specs.Names.{ordinary_at, has_linkage, names_type}
use Rattle.c_senses.specs.Tree.{Source, is_a, is_leaf, is_name, production_at, children_at, parent_of, child_of}
use Rattle.c_senses.specs.World.{World, same_length}
use Rattle.c_senses.specs.Declarators.{is_declarator, is_outermost, outermost_of, specs_of}
use Rattle.c_senses.specs.Sense.{Sense, Nothing, IsCore, IsInitial, IsDeclarator, Derivation, Specified, sense_in}
use Rattle.c_senses.specs.Rows.{AreSenses, world_at}
use Rattle.c_senses.specs.Entities.{keep, first_of, is_linked, linkage_of, is_static_object, is_at_file, is_parameter, is_defined, has_storage, specified_of, declares_function, declaration_of, initialiser_of, initialiser_for, initialised_by, storage_of}
use Rattle.c_senses.specs.Initialised.{is_automatic}
use Rattle.c_senses.specs.Statements.{objects_in, cores_in}
use Rattle.c_senses.specs.Right.{of_internal, is_tentative, is_definition_at, is_declaring, declares_entity, entity_type, declared_as, declared_name, representative, storage_at, body_at, block_for, core_of_sense}
use Rattle.c_senses.specs.Right as right
use Rattle.c_types.specs.Trees.{VoidType}
use Rattle.c_senses.specs.Tree.{place_at}
use Rattle.parsed_tree_laws.proofs.placed_laws.Climbing.{Grown, unfilled}
use Rattle.core_node_laws.specs.standing_laws.Standing.{IsGrown}
use Rattle.core_node_laws.proofs.standing_laws.Climbing.{in_list, parent_is}
use Rattle.parsed_tree_laws.specs.span_laws.Spans.{Spanned}
use Rattle.parsed_tree_laws.specs.grown_parts.Parts.{IsBrought}
use Rattle.declaration_laws.proofs.declared_type_laws.passed.built_unit_laws.run_laws.Times.{known_at, world_of, row_as, told_before}
use Rattle.declaration_laws.specs.name_order.Order.{IsOrdered, IsNameOf, Links, linking}
use Rattle.declaration_laws.specs.name_order.Order as order
use Rattle.declaration_laws.specs.declared_type_laws.declared_leaves.Leaves.{IsNamed, Own, Inner, IsDeclaredBy}
use Rattle.declaration_laws.proofs.declared_type_laws.declared_leaves.Climbing.{leaves_declared}
use Rattle.declaration_laws.proofs.declared_type_laws.plain_names.Later.{Later, known_later, told, initialiser_same}
use Rattle.core_node_laws.proofs.count_laws.once_nodes.Rooted.{IsRestInit, initial_of, found_where}
use Rattle.core_node_laws.proofs.count_laws.once_nodes.Shapes.{Bodiless, leaf_is, asm_is, declarator_shape, block_is}
use Rattle.core_node_laws.proofs.count_laws.count_rows.Giving.{Gives}
use Rattle.declaration_laws.specs.function_laws.passed.definition_laws.initialiser_laws.Initialisers.{InitialisersAreOf}
use Rattle.declaration_laws.specs.function_laws.passed.definition_laws.linkage_laws.Linked.{StandsLinked}
use Rattle.declaration_laws.proofs.function_laws.passed.definition_laws.linkage_laws.Seen.{list_in}
use Rattle.declaration_laws.proofs.function_laws.passed.definition_laws.linkage_laws.Unlinked.{IsInternal, stands_for}
use Rattle.valid_unit_laws.specs.object_initialiser_laws.static_value_laws.fixed_laws.Fixed.{automatic_by, all_fixed, DeclaratorsInitialised}
use Rattle.valid_unit_laws.proofs.object_initialiser_laws.static_value_laws.fixed_laws.Later.{all_later, automatic_later}
use Rattle.valid_unit_laws.proofs.object_initialiser_laws.static_value_laws.fixed_laws.Rows.{FixedIn, InitialFixed, Initialises, row_fixed}

some_one : {X : Type 0} → {x y : X} → ◌≡◌ {A = Option X} (Some x) (Some y) → x ≡ y
some_one h = cc

none_some : {X : Type 0} → {x : X} → ◌≡◌ {A = Option X} None (Some x) → ⊥
none_some h = cc

fits_same : {x y : Sense} → ◌≡◌ {A = Given Sense} (Fits x) (Fits y) → x ≡ y
fits_same e = cc

block_apart : (es : List ℕ) (x y : Place) (t v : Ctype) (m n : Cores) (d : ℕ) (paths : List Path) → ◌≡◌ {A = Core} (Of (Block es) x t m) (Of (Initialise d paths) y v n) → ⊥
block_apart es x y t v m n d paths e = cc

either_form : (s : Source) (c : ℕ) → (is_a s p_declarator c || is_a s p_either c) ≡ true → is_declarator s c ≡ true
either_form s c h = by (is_a s p_declarator c) (is_a s p_abstract c) (is_a s p_either c) h
  where
    by : (a b d : Bool) → (a || d) ≡ true → ((a || b) || d) ≡ true
    by true b d k = refl
    by false true d k = refl
    by false false d k = k

name_in : (s : Source) (m leaf : ℕ) → IsNameOf s m leaf → IsNamed s m leaf
name_in s m leaf (order.Own k named) = Own k named
name_in s m leaf (order.Inner {c = c} k is more) = Inner c k (either_form s c is) (name_in s c leaf more)

no_form : (q : ℕ) → contains linking q ≡ true → ((q == p_declarator || q == p_abstract) || q == p_either) ≡ false
no_form q h = let found = in_list linking q h in by found.0 found.1
  where
    at : (r : ℕ) → ◌≡◌ {A = Option ℕ} (Some r) (Some q) → ((r == p_declarator || r == p_abstract) || r == p_either) ≡ false → ((q == p_declarator || q == p_abstract) || q == p_either) ≡ false
    at r e k = subst (λ (x : ℕ). ((x == p_declarator || x == p_abstract) || x == p_either) ≡ false) (some_one e) k

    by : (j : ℕ) → slice_get linking j ≡ Some q → ((q == p_declarator || q == p_abstract) || q == p_either) ≡ false
    by zero e = at p_external e refl
    by (suc zero) e = at p_rest e refl
    by (suc (suc zero)) e = at p_declaration e refl
    by (suc (suc (suc j))) e = cc

fixed_in_later : (a b : ℕ → Bool) → ((e : ℕ) → a e ≡ false → b e ≡ false) → (c : Core) → FixedIn a c → FixedIn b c
fixed_in_later a b less (Of kind place type values) h = all_later a b less values h

module _ (s : Source) (senses : List Sense) (are : AreSenses s senses) (whole : length senses ≡ length s.nodes) (grown : IsGrown s) (tree : Grown s) (brought : IsBrought s) (ordered : IsOrdered s) (spanned : Spanned s)
    (each : (leaf : ℕ) → is_linked s (sense_in senses) leaf ≡ true → StandsLinked s (sense_in senses) leaf) (own : InitialisersAreOf s) (declarators : DeclaratorsInitialised s) where
  abbrev G : ℕ → Sense
  G = sense_in senses

  abbrev F : ℕ → ℕ → Sense
  F i = known_at s senses i

  no_body : (x : Sense) (c : Core) → x ≡ Nothing → core_of_sense s senses x ≡ Some c → ⊥
  no_body x c e h = none_some (sym (ap (core_of_sense s senses) e) ∙ h)

  bodiless : (x : Sense) (c : Core) → Bodiless x → core_of_sense s senses x ≡ Some c → ⊥
  bodiless (IsCore y) c b h = b
  bodiless (IsInitial y length) c b h = b
  bodiless x c b h = absurd (cc)

  -- what stands in the rest of a declaration and may be a body is an initialiser
  is_initial : (i : ℕ) (c : Core) → i < length senses → IsRestInit s G i → core_of_sense s senses (G i) ≡ Some c → is_a s p_init i ≡ true
  is_initial i c lt (q, is, at) h = by (is_leaf s i) refl (is_a s p_asm_name i) refl (is_a s p_declarator i) refl (is_a s p_init i) refl (spanned.rests q at.0 i is at.1)
    where
      w : World
      w = world_of s senses i

      by : (a : Bool) → is_leaf s i ≡ a → (b : Bool) → is_a s p_asm_name i ≡ b → (d : Bool) → is_a s p_declarator i ≡ d → (e : Bool) → is_a s p_init i ≡ e → (a || (b || (d || e))) ≡ true → e ≡ true
      by true ea b eb d ed e ee all = absurd (no_body (G i) c (sym (fits_same (sym (leaf_is (world_of s senses i) s (F i) i (children_at s i)) ∙ row_as s senses are leaf_production i lt ea))) h)
      by false ea true eb d ed e ee all = absurd (no_body (G i) c (sym (fits_same (sym (asm_is (world_of s senses i) s (F i) i (children_at s i)) ∙ row_as s senses are p_asm_name i lt eb))) h)
      by false ea false eb true ed e ee all = absurd (bodiless (G i) c (subst (λ (g : Given Sense). Gives Bodiless g) (row_as s senses are p_declarator i lt ed) (declarator_shape (world_of s senses i) s (F i) i (children_at s i))) h)
      by false ea false eb false ed true ee all = refl
      by false ea false eb false ed false ee all = cc

  -- the name of a declarator whose sense has a name
  name_same : (r o leaf : ℕ) (ds : List Derivation) → (is_declaring s senses r ≡ true) ⊎ (is_linked s G r ≡ true) → outermost_of s r ≡ Some o → o < length senses → G o ≡ IsDeclarator (Some leaf) ds → leaf ≡ r
  name_same r o leaf ds (inl declares) up lt sense =
      let there = (and_parts (is_name s r) _ declares).1 in
      let at : (elim (G o) as (λ _. Bool) [ IsDeclarator name es ↦ same_length name (Some r) | _ ↦ false ]) ≡ true =
      sym (ap (λ (x : Option ℕ). elim x as (λ _. Bool) [ None ↦ false | Some d ↦ elim (G d) as (λ _. Bool) [ IsDeclarator name es ↦ same_length name (Some r) | _ ↦ false ] ]) up) ∙ there in
      eqb-true leaf r (sym (ap (λ (x : Sense). elim x as (λ _. Bool) [ IsDeclarator name es ↦ same_length name (Some r) | _ ↦ false ]) sense) ∙ at)
  name_same r o leaf ds (inr linked) up lt sense = by (ordinary_at s r) refl linked
    where
      of_links : (m : ℕ) → Links s m r → leaf ≡ r
      of_links m links =
          let is : is_declarator s m ≡ true = either_form s m links.is in
          let outer : is_outermost s m ≡ true =
          ap (λ (b : Bool). b && (elim (parent_of s m) as (λ _. Bool) [ None ↦ true | Some q ↦ not (is_declarator s q) ])) is
          ∙ (ap (λ (x : Option ℕ). elim x as (λ _. Bool) [ None ↦ true | Some q ↦ not (is_declarator s q) ]) (parent_is s grown links.above m (in_list (children_at s links.above) m links.inside)) ∙ ap not (no_form (production_at s links.above) links.part)) in
          let inside : m < length senses = (let a = tree.before links.above m links.inside in let b = tree.within links.above m links.inside in let c = whole in omega (arith, a, b, c)) in
          let by_tree : IsDeclaredBy s senses m r = leaves_declared.by_tree s senses are tree brought m r inside outer (name_in s m r links.named) in
          let same : m ≡ o = some_one (sym by_tree.outermost ∙ up) in
          let both : IsDeclarator (Some r) by_tree.derives ≡ IsDeclarator (Some leaf) ds = sym by_tree.is ∙ (ap G same ∙ sense) in
          sym (some_one (ap (λ (x : Sense). elim x as (λ _. Option ℕ) [ IsDeclarator name es ↦ name | _ ↦ None ]) both))

      by : (x : Option Declaration) → ordinary_at s r ≡ x → (elim x as (λ _. Bool) [ None ↦ false | Some d ↦ has_linkage d ]) ≡ true → leaf ≡ r
      by None at h = cc
      by (Some y) at h = let (m, links) = ordered.linked r y at h in of_links m links

  of_initial : (i : ℕ) (x : Sense) (c : Core) → InitialFixed (world_of s senses i) s (F i) x → core_of_sense s senses x ≡ Some c → FixedIn (is_automatic (world_of s senses i) s (F i)) c
  of_initial i (IsInitial y n) c h e = subst (FixedIn (is_automatic (world_of s senses i) s (F i))) (some_one e) h
  of_initial i x c h e = absurd h

  -- the initialiser of a declared name
  initial_fixed : (r i : ℕ) (c : Core) → (is_declaring s senses r ≡ true) ⊎ (is_linked s G r ≡ true) → is_static_object s G r ≡ true → initialiser_for s G r ≡ Some i → core_of_sense s senses (G i) ≡ Some c → FixedIn (automatic_by s senses) c
  initial_fixed r i c declares static e core = by (outermost_of s r) refl e
    where
      with_outer : (o : ℕ) → outermost_of s r ≡ Some o → initialiser_of s G o ≡ Some i → FixedIn (automatic_by s senses) c
      with_outer o up init =
          let (q, rest, at) = initial_of s G r i e in
          let child : contains (children_at s q) i ≡ true = list_in (children_at s q) at.0 i at.1 in
          let lt : i < length senses = (let a = tree.before q i child in let b = tree.within q i child in let n = whole in omega (arith, a, b, n)) in
          let is : is_a s p_init i ≡ true = is_initial i c lt (q, rest, at) core in
          let parent : parent_of s i ≡ Some q = parent_is s grown q i at in
          let by_it : initialised_by s (F i) i ≡ Some o = own (F i) o i (declarators G r o i up init) (initialiser_same s (F i) G o ∙ init) in
          let h : Initialises (world_of s senses i) s (F i) i o (G i) = row_fixed (world_of s senses i) s (F i) i q o (G i) parent rest by_it (row_as s senses are p_init i lt is) in
          let later : Later (F i) G = known_later s senses i in
          let before : o < i = told_before s senses i o (IsDeclarator (Some h.leaf) h.derives) h.is (λ no. cc) in
          let sense : G o ≡ IsDeclarator (Some h.leaf) h.derives = later o (IsDeclarator (Some h.leaf) h.derives) h.is (λ no. cc) in
          let same : h.leaf ≡ r = name_same r o h.leaf h.derives declares up (omega (arith, before, lt)) sense in
          let static_there : is_static_object s G h.leaf ≡ true = subst (λ (x : ℕ). is_static_object s G x ≡ true) (sym same) static in
          let words : specified_of s (F i) h.leaf ≡ specified_of s G h.leaf = h.known ∙ sym (told s (F i) G later (option_and_then (specs_of s) (outermost_of s h.leaf)) h.words h.known) in
          let static_here : is_static_object s (F i) h.leaf ≡ true =
          ap (λ (x : Option Specified). is_at_file s G h.leaf || ((elim x as (λ _. Bool) [ None ↦ false | Some z ↦ contains z.storage word_static ]) || (elim x as (λ _. Bool) [ None ↦ false | Some z ↦ contains z.storage word_extern ]))) words ∙ static_there in
          fixed_in_later (is_automatic (world_of s senses i) s (F i)) (automatic_by s senses) (λ k no. automatic_later s (F i) G later (world_of s senses i) (world_at s senses (length senses)) k no) c (of_initial i (G i) c (h.fixed static_here) core)

      by : (x : Option ℕ) → outermost_of s r ≡ x → option_and_then (initialiser_of s G) x ≡ Some i → FixedIn (automatic_by s senses) c
      by None up init = cc
      by (Some o) up init = with_outer o up init

  -- ---- what stands for a declared name

  not_function : (r i : ℕ) → is_parameter s G r ≡ false → initialiser_for s G r ≡ Some i → declares_function s G r ≡ false
  not_function r i parameter init = by (declares_function s G r) refl
    where
      first_of_two : (a b : Bool) → (a && b) ≡ true → a ≡ true
      first_of_two true b h = refl
      first_of_two false b h = cc

      named : (o : Option Declaration) → ordinary_at s r ≡ o → (elim o as (λ _. Bool) [ None ↦ false | Some d ↦ d.is_function && not (names_type d) ]) ≡ true → declares_function s G r ≡ true → ⊥
      named None at h function = cc
      named (Some y) at h function = unfilled s senses tree are whole r i y at (first_of_two y.is_function (not (names_type y)) h) init parameter function

      by : (b : Bool) → declares_function s G r ≡ b → b ≡ false
      by false e = refl
      by true e = absurd (named (ordinary_at s r) refl e e)

  stored_static : (leaf : ℕ) → storage_of s G leaf ≡ Static → is_static_object s G leaf ≡ true
  stored_static leaf h = by (is_parameter s G leaf) (declares_function s G leaf) (is_defined s G leaf) (has_storage s G word_extern leaf && is_none (initialiser_for s G leaf)) (is_static_object s G leaf) h
    where
      by : (p x d n t : Bool) → (if p then Parameter else if x then (if d then FunctionBody else Declared) else if n then Declared else if t then Static else Automatic) ≡ Static → t ≡ true
      by true x d n t e = cc
      by false true true n t e = cc
      by false true false n t e = cc
      by false false d true t e = cc
      by false false d false true e = refl
      by false false d false false e = cc

  abbrev chosen : ℕ → Linkage → ℕ
  chosen leaf linkage =
      elim linkage as (λ _. ℕ) [
        | Internal ↦ first_of s G (first_of s G leaf (keep s G (is_tentative s senses) (of_internal s senses leaf))) (keep s G (is_definition_at s senses) (of_internal s senses leaf))
        | _ ↦ leaf
      ]

  abbrev Stands : ℕ → Type 0
  Stands r = ((is_declaring s senses r ≡ true) ⊎ (is_linked s G r ≡ true)) × (is_static_object s G r ≡ true)

  stands : (leaf i : ℕ) → is_declaring s senses leaf ≡ true → storage_at s senses leaf ≡ Static → initialiser_for s G (representative s senses leaf) ≡ Some i → Stands (representative s senses leaf)
  stands leaf i declaring static init = by (linkage_of s G leaf) refl
    where
      plain : (l : Linkage) → linkage_of s G leaf ≡ l → chosen leaf l ≡ leaf → (elim l as (λ _. Storage) [ Internal ↦ (elim (storage_of s G (representative s senses leaf)) as (λ _. Storage) [ Declared ↦ if declares_function s G leaf then Declared else Static | other ↦ other ]) | _ ↦ storage_of s G leaf ]) ≡ storage_of s G leaf → Stands (representative s senses leaf)
      plain l e same stored =
          let one : representative s senses leaf ≡ leaf = ap (chosen leaf) e ∙ same in
          let is : storage_of s G leaf ≡ Static =
          sym stored ∙ (sym (ap (λ (k : Linkage). elim k as (λ _. Storage) [ Internal ↦ (elim (storage_of s G (representative s senses leaf)) as (λ _. Storage) [ Declared ↦ if declares_function s G leaf then Declared else Static | other ↦ other ]) | _ ↦ storage_of s G leaf ]) e) ∙ static) in
          subst Stands (sym one) (inl declaring, stored_static leaf is)

      second : (f a x t : Bool) → f ≡ false → (f || (a || x)) ≡ true → (a || (t || x)) ≡ true
      second true a x t e h = cc
      second false true x t e h = refl
      second false false true true e h = refl
      second false false true false e h = refl
      second false false false t e h = cc

      left : (a b : Bool) → (a && b) ≡ true → a ≡ true
      left true b e = refl
      left false b e = cc

      by : (l : Linkage) → linkage_of s G leaf ≡ l → Stands (representative s senses leaf)
      by External e = plain External e refl refl
      by Local e = plain Local e refl refl
      by Internal e =
          let r : ℕ = representative s senses leaf in
          let internal : IsInternal s senses each r = stands_for s senses each leaf e in
          let linked : is_linked s G r ≡ true = left (is_linked s G r) _ internal in
          let there : StandsLinked s G r = each r linked in
          (inr linked, second (declares_function s G r) (is_at_file s G r) (has_storage s G word_extern r) (has_storage s G word_static r) (not_function r i there.parameter init) there.declared)

  -- a block initialises nothing
  no_block : (b d : ℕ) (paths : List Path) (place : Place) (type : Ctype) (values : Cores) → is_a s p_block b ≡ true → b < length senses → core_of_sense s senses (G b) ≡ Some (Of (Initialise d paths) place type values) → ⊥
  no_block b d paths place type values is lt e =
      let sense : IsCore (Of (Block (objects_in (world_of s senses b) s (F b) (children_at s b))) (place_at s b) VoidType (cores_in (world_of s senses b) s (F b) (children_at s b))) ≡ G b =
      fits_same (sym (block_is (world_of s senses b) s (F b) b (children_at s b)) ∙ row_as s senses are p_block b lt is) in
      block_apart (objects_in (world_of s senses b) s (F b) (children_at s b)) (place_at s b) place VoidType type (cores_in (world_of s senses b) s (F b) (children_at s b)) values d paths (some_one (ap (core_of_sense s senses) sense ∙ e))

  block_inside : (p b : ℕ) → child_of s p_block p ≡ Some b → (is_a s p_block b ≡ true) × (b < length senses)
  block_inside p b e =
      let found = found_where (is_a s p_block) (children_at s p) b e in
      let child : contains (children_at s p) b ≡ true = list_in (children_at s p) found.1.0 b found.1.1 in
      (found.0, (let x = tree.before p b child in let y = tree.within p b child in let n = whole in omega (arith, x, y, n)))

  body_fixed : (leaf d : ℕ) (paths : List Path) (place : Place) (type : Ctype) (values : Cores) → is_declaring s senses leaf ≡ true → storage_at s senses leaf ≡ Static
      → body_at s senses (representative s senses leaf) ≡ Some (Of (Initialise d paths) place type values) → all_fixed (automatic_by s senses) values ≡ true
  body_fixed leaf d paths place type values declaring static body = by (is_defined s G r) (block_for s senses r) refl (initialiser_for s G r) refl body
    where
      r : ℕ
      r = representative s senses leaf

      c : Core
      c = Of (Initialise d paths) place type values

      in_block : (o : Option ℕ) (b : ℕ) → option_and_then (child_of s p_block) o ≡ Some b → (is_a s p_block b ≡ true) × (b < length senses)
      in_block None b e = cc
      in_block (Some p) b e = block_inside p b e

      by : (x : Bool) (o : Option ℕ) → block_for s senses (representative s senses leaf) ≡ o → (k : Option ℕ) → initialiser_for s G (representative s senses leaf) ≡ k
          → (if x then option_and_then (λ b. core_of_sense s senses (G b)) o else option_and_then (λ b. core_of_sense s senses (G b)) k) ≡ Some (Of (Initialise d paths) place type values) → all_fixed (automatic_by s senses) values ≡ true
      by true None block k init e = cc
      by true (Some b) block k init e =
          let there = in_block (declaration_of s G (representative s senses leaf)) b block in
          absurd (no_block b d paths place type values there.0 there.1 e)
      by false o block None init e = cc
      by false o block (Some i) init e =
          let two = stands leaf i declaring static init in
          initial_fixed (representative s senses leaf) i (Of (Initialise d paths) place type values) two.0 two.1 init e

  pub named_fixed : (leaf d : ℕ) (what : right.Declared) (paths : List Path) (place : Place) (type : Ctype) (values : Cores) → declared_name s senses leaf ≡ Some what → what.storage ≡ Static
      → what.body ≡ Some (Of (Initialise d paths) place type values) → all_fixed (automatic_by s senses) values ≡ true
  named_fixed leaf d what paths place type values e static body = by (declares_entity s senses leaf) (entity_type s senses leaf) refl e
    where
      by : (b : Bool) (o : Option Ctype) → declares_entity s senses leaf ≡ b → (if b then option_map (declared_as s senses leaf) o else None) ≡ Some what → all_fixed (automatic_by s senses) values ≡ true
      by false o q e = absurd (none_some e)
      by true None q e = absurd (none_some e)
      by true (Some t) q e =
          let same : declared_as s senses leaf t ≡ what = some_one e in
          body_fixed leaf d paths place type values (and_parts (is_declaring s senses leaf) _ q).0 (ap (λ (x : right.Declared). x.storage) same ∙ static) (ap (λ (x : right.Declared). x.body) same ∙ body)
