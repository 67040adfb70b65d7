-- What is declared with a function's type is stored as a function.
use Rattle.std.proofs.Common.{◌≡◌, ◌<◌, ◌⊎◌, inl, inr, ℕ, Bool, true, false, ◌&&◌, List, length, Option, Some, None, refl, sym, ap, ◌∙◌, subst}
use Rattle.std.specs.Prelude.{is_none, option_map, if◌then◌else◌}
use Rattle.pta_base.specs.declared.kind.Kind.TheVariants.{Operand}
use Rattle.c_types.specs.Trees.{Ctype, ArrayOf, FunctionFrom}
use Rattle.c_grammar.specs.Productions.{p_either, p_parameter, p_specs}
use Rattle.c_grammar.specs.Words.{word_extern}
use Rattle.type_rules.specs.Kinds.{IsFunction}
use Rattle.type_rules.specs.Sizes.{with_one}
use Rattle.core_tree.specs.declared.node.Linkage.{Linkage}
use Rattle.core_tree.specs.declared.node.Linkage.TheVariants.{External, Internal, Local}
use Rattle.core_tree.specs.declared.node.Storage.{Storage}
use Rattle.core_tree.specs.declared.node.Storage.TheVariants.{Static, Automatic, FunctionBody, Parameter as ParameterStorage, Declared as DeclaredStorage}
use Rattle.c_scope.specs.declared.kinds.Declared.{Declared}
use Rattle.c_senses.specs.Tree.{Source, is_a, child_of}
use Rattle.c_senses.specs.World.{World}
use Rattle.c_senses.specs.Declarators.{adjusted, derived, outermost_of, parameter_fits, parameter_of, specified_at, sense_of_child}
use Rattle.c_senses.specs.Entities.{declaration_of, is_parameter, is_typedef, is_linked, is_internal, is_defined, declares_function, has_storage, is_static_object, initialiser_for, length_given_by, with_length, derived_type, specified_of, parameter_type, own_type, storage_of, linkage_of, all_together, types_of}
use Rattle.c_senses.specs.Rows.{AreSenses}
use Rattle.c_senses.specs.Right.{is_declaring, stands_in_declaration, entity_type, internal_type, representative, storage_at, of_internal}
use Rattle.c_senses.specs.Right as right
use Rattle.c_senses.specs.Sense.{Sense, Nothing, IsDeclarator, IsParameter, Parameter, sense_in}
use Rattle.parsed_tree_laws.specs.sense_laws.Sound.{Gives}
use Rattle.parsed_tree_laws.proofs.sense_laws.Giving.{if_given}
use Rattle.core_node_laws.specs.standing_laws.Standing.{IsGrown}
use Rattle.parsed_tree_laws.proofs.placed_laws.Climbing.{Grown}
use Rattle.parsed_tree_laws.specs.grown_parts.Parts.{IsBrought}
use Rattle.core_node_laws.proofs.built_unit_laws.run_laws.Times.{known_at, world_of, row_as, fitted}
use Rattle.declaration_laws.specs.joined_types.Joined.{Below, AllBelow}
use Rattle.declaration_laws.proofs.joined_types.Joining.{types_joined}
use Rattle.valid_unit_laws.proofs.object_size_laws.object_sizes.Sizes.{has_type, no_function}
use Rattle.valid_unit_laws.proofs.object_size_laws.parameter_sizes.Sizes.{sense_within}
use Rattle.valid_unit_laws.proofs.object_size_laws.entity_sizes.Lists.{In}
use Rattle.valid_unit_laws.proofs.object_size_laws.entity_sizes.Known.{Among, LinkedKnown, no_typedef, own_among, stands_among, among_internal}
use Rattle.valid_unit_laws.proofs.object_size_laws.entity_sizes.Placed.{IsPlaced, object_placed}
use Rattle.valid_unit_laws.proofs.object_size_laws.entity_sizes.Types.{below_of, one_is}

some_one : {X : Type 0} → {x y : X} → ◌≡◌ {A = Option X} (Some x) (Some y) → x ≡ y
some_one h = cc

both : (a b : Bool) → (a && b) ≡ true → (a ≡ true) × (b ≡ true)
both true b e = (refl, e)
both false b e = cc

map_some : {A B : Type 0} → (o : Option A) (k : A → B) (y : B) → option_map k o ≡ Some y → (x : A) × (o ≡ Some x) × (k x ≡ y)
map_some None k y e = cc
map_some (Some x) k y e = (x, refl, some_one e)

-- ---- types

adjusted_plain : (t : Ctype) → IsFunction (adjusted t) → ⊥
adjusted_plain (ArrayOf of n) h = h
adjusted_plain (FunctionFrom r ps form) h = h
adjusted_plain t h = h

one_of_function : (t : Ctype) → IsFunction (with_one t) → IsFunction t
one_of_function (FunctionFrom r ps form) h = tt
one_of_function (ArrayOf of None) h = h
one_of_function (ArrayOf of (Some n)) h = h
one_of_function t h = h

below_function : (t whole : Ctype) → IsFunction whole → Below t whole → IsFunction t
below_function (ArrayOf a None) (FunctionFrom q qs f) h b = subst IsFunction (sym b) tt
below_function (FunctionFrom r ps form) (FunctionFrom q qs f) h b = tt
below_function t (FunctionFrom q qs f) h b = subst IsFunction (sym b) tt
below_function t whole h b = absurd h

abbrev IsStored : Storage → Type 0
IsStored x = (x ≡ FunctionBody) ⊎ (x ≡ DeclaredStorage)

-- ---- parameters: their types are adjusted

abbrev IsAdjusted : Sense → Type 0
IsAdjusted x = (y : Parameter) → x ≡ IsParameter y → IsFunction y.type → ⊥

module _ (w : World) (s : Source) (sense : ℕ → Sense) (at : ℕ) where
  parameter_adjusted : (o : Option Ctype) (x : Sense) → Gives IsAdjusted (parameter_of w s sense at o x)
  parameter_adjusted (Some base) (IsDeclarator name ds) = if_given IsAdjusted (parameter_fits w s sense at p) Operand at _ (λ _ y same. (λ h. adjusted_plain (derived ds base) (subst IsFunction (sym (type_of y same)) h)))
    where
      p : Parameter
      p = record { name = name; type = adjusted (derived ds base) }

      type_of : (y : Parameter) → IsParameter (record { name = name; type = adjusted (derived ds base) }) ≡ IsParameter y → adjusted (derived ds base) ≡ y.type
      type_of y same = let one : record { name = name; type = adjusted (derived ds base) } ≡ y = cc in ap (λ (z : Parameter). z.type) one
  parameter_adjusted (Some base) x = tt
  parameter_adjusted None x = tt

module _ (s : Source) (senses : List Sense) (grew : Grown s) (are : AreSenses s senses) (whole : length senses ≡ length s.nodes) where
  abbrev f : ℕ → Sense
  f = sense_in senses

  parameter_plain : (leaf : ℕ) (t : Ctype) → is_parameter s f leaf ≡ true → own_type s f leaf ≡ Some t → IsFunction t → ⊥
  parameter_plain leaf t parameter own h =
      by (declaration_of s f leaf) parameter
      (sym (ap (λ (b : Bool). if b then parameter_type s f (declaration_of s f leaf) else option_map (with_length (length_given_by s f (initialiser_for s f leaf))) (derived_type s f (specified_of s f leaf) (outermost_of s leaf))) parameter) ∙ own)
    where
      of : (q : ℕ) → is_a s p_parameter q ≡ true → (x : Sense) → sense_in senses q ≡ x → (elim x as (λ _. Option Ctype) [ IsParameter y ↦ Some y.type | _ ↦ None ]) ≡ Some t → ⊥
      of q is (IsParameter y) e k =
          let inside : q < length senses = sense_within senses q (λ none. never y (sym e ∙ none)) in
          let W : World = world_of s senses q in
          let F : ℕ → Sense = known_at s senses q in
          let base : Option Ctype = specified_at W s F (child_of s p_specs q) in
          let declarator : Sense = sense_of_child W s F p_either q in
          fitted IsAdjusted (parameter_of W s F q base declarator) (sense_in senses q) (row_as s senses are p_parameter q inside is) (parameter_adjusted W s F q base declarator) y e (subst IsFunction (sym (some_one k)) h)
        where
          never : (y : Parameter) → IsParameter y ≡ Nothing → ⊥
          never y e = cc
      of q is x e k = cc

      by : (o : Option ℕ) → (elim o as (λ _. Bool) [ None ↦ false | Some p ↦ is_a s p_parameter p ]) ≡ true → parameter_type s f o ≡ Some t → ⊥
      by None k e = cc
      by (Some q) k e = of q k (sense_in senses q) refl e

  -- ---- what is declared as a function

  stored_of : (leaf : ℕ) → is_parameter s f leaf ≡ false → declares_function s f leaf ≡ true → storage_of s f leaf ≡ (if is_defined s f leaf then FunctionBody else DeclaredStorage)
  stored_of leaf parameter function = by (is_parameter s f leaf) (declares_function s f leaf) (is_defined s f leaf) parameter function
    where
      by : (p x d : Bool) → p ≡ false → x ≡ true
          → (if p then ParameterStorage else if x then (if d then FunctionBody else DeclaredStorage) else if has_storage s f word_extern leaf && is_none (initialiser_for s f leaf) then DeclaredStorage else if is_static_object s f leaf then Static else Automatic)
          ≡ (if d then FunctionBody else DeclaredStorage)
      by false true d ep ex = refl
      by true x d ep ex = cc
      by false false d ep ex = cc

  is_stored : (x : Storage) (d : Bool) → x ≡ (if d then FunctionBody else DeclaredStorage) → IsStored x
  is_stored x true e = inl e
  is_stored x false e = inr e

  declares : (leaf : ℕ) (t : Ctype) → IsPlaced s senses leaf → is_parameter s f leaf ≡ false → is_typedef s f leaf ≡ false → own_type s f leaf ≡ Some t → IsFunction t → declares_function s f leaf ≡ true
  declares leaf t placed parameter typedefs own h = by (declares_function s f leaf) refl
    where
      by : (b : Bool) → declares_function s f leaf ≡ b → b ≡ true
      by true e = refl
      by false e = absurd (no_function s senses grew are whole leaf placed.0 placed.1 placed.2 placed.3 placed.4 parameter typedefs e t own h)

  module _ (grows : IsGrown s) (brought : IsBrought s) (known : LinkedKnown s senses) (plain : (leaf : ℕ) → is_linked s f leaf ≡ true → is_parameter s f leaf ≡ false) where
    -- ---- names with internal linkage

    linked_of : (leaf : ℕ) → is_internal s f leaf ≡ true → is_linked s f leaf ≡ true
    linked_of leaf h = (both (is_linked s f leaf) _ h).0

    linked_declares : (leaf : ℕ) (t : Ctype) → is_linked s f leaf ≡ true → own_type s f leaf ≡ Some t → IsFunction t → declares_function s f leaf ≡ true
    linked_declares leaf t linked own h = declares leaf t (known.stands leaf linked) (plain leaf linked) (no_typedef s f leaf linked) own h

    -- where all declarations of one together give a function's type, each declares a function
    each_declares : (leaf : ℕ) (T : Ctype) → all_together None (types_of s f (of_internal s senses leaf)) ≡ Some T → IsFunction T → (d : Declared) → In d (of_internal s senses leaf) → declares_function s f d.node ≡ true
    each_declares leaf T all h d i =
        let linked = linked_of d.node (among_internal s senses leaf d i) in
        let st = known.stands d.node linked in
        let own = has_type s senses d.node st.0 st.2 (plain d.node linked) in
        let below : AllBelow (types_of s f (of_internal s senses leaf)) T = types_joined.below (types_of s f (of_internal s senses leaf)) T (known.agree leaf) all in
        linked_declares d.node _ linked own (below_function _ T h (below_of s f (of_internal s senses leaf) T d _ below i own))

    abbrev at_representative : Storage → Bool → Storage
    at_representative x b = elim x as (λ _. Storage) [ DeclaredStorage ↦ if b then DeclaredStorage else Static | other ↦ other ]

    abbrev by_linkage : ℕ → Linkage → Storage
    by_linkage leaf l = elim l as (λ _. Storage) [ Internal ↦ at_representative (storage_of s f (representative s senses leaf)) (declares_function s f leaf) | _ ↦ storage_of s f leaf ]

    module _ (leaf : ℕ) (t : Ctype) (linkage : linkage_of s f leaf ≡ Internal) (internal : is_internal s f leaf ≡ true) (h : IsFunction t) where
      abbrev r : ℕ
      r = representative s senses leaf

      internal_at : storage_at s senses leaf ≡ at_representative (storage_of s f r) (declares_function s f leaf)
      internal_at = ap (by_linkage leaf) linkage

      own : Among (of_internal s senses leaf) leaf
      own = own_among s senses leaf internal

      rep : Among (of_internal s senses leaf) (representative s senses leaf)
      rep = stands_among s senses leaf linkage own

      linked : is_linked s f r ≡ true
      linked = ap (is_linked s f) (sym rep.2) ∙ linked_of rep.0.node (among_internal s senses leaf rep.0 rep.1)

      of_definition : is_defined s f r ≡ true → own_type s f r ≡ Some t → IsStored (storage_at s senses leaf)
      of_definition defined typed =
          let stored : storage_of s f r ≡ FunctionBody = stored_of r (plain r linked) (linked_declares r t linked typed h) ∙ ap (λ (b : Bool). if b then FunctionBody else DeclaredStorage) defined in
          inl (internal_at ∙ ap (λ (x : Storage). at_representative x (declares_function s f leaf)) stored)

      of_together : (x : Ctype) → is_defined s f r ≡ false → all_together None (types_of s f (of_internal s senses leaf)) ≡ Some x → right.with_one s senses x ≡ t → IsStored (storage_at s senses leaf)
      of_together x undefined all one =
          let function : IsFunction x = one_of_function x (subst IsFunction (sym one ∙ one_is s senses x) h) in
          let at_own : declares_function s f leaf ≡ true = ap (declares_function s f) (sym own.2) ∙ each_declares leaf x all function own.0 own.1 in
          let at_rep : declares_function s f r ≡ true = ap (declares_function s f) (sym rep.2) ∙ each_declares leaf x all function rep.0 rep.1 in
          let stored : storage_of s f r ≡ DeclaredStorage = stored_of r (plain r linked) at_rep ∙ ap (λ (b : Bool). if b then FunctionBody else DeclaredStorage) undefined in
          inr (internal_at ∙ (ap (λ (x : Storage). at_representative x (declares_function s f leaf)) stored ∙ ap (λ (b : Bool). if b then DeclaredStorage else Static) at_own))

      internal_stored : internal_type s senses leaf ≡ Some t → IsStored (storage_at s senses leaf)
      internal_stored typed = by (is_defined s f r) refl typed
        where
          by : (x : Bool) → is_defined s f r ≡ x → (if x then own_type s f r else option_map (right.with_one s senses) (all_together None (types_of s f (of_internal s senses leaf)))) ≡ Some t → IsStored (storage_at s senses leaf)
          by true defined k = of_definition defined k
          by false defined k = let m = map_some (all_together None (types_of s f (of_internal s senses leaf))) (right.with_one s senses) t k in of_together m.0 defined m.1 m.2

    -- ---- names that declare entities

    module _ (leaf : ℕ) (t : Ctype) (declaring : is_declaring s senses leaf ≡ true) (standing : stands_in_declaration s senses leaf ≡ true) (typedefs : is_typedef s f leaf ≡ false) (h : IsFunction t) where
      plain_stored : own_type s f leaf ≡ Some t → IsStored (storage_of s f leaf)
      plain_stored own = by (is_parameter s f leaf) refl
        where
          by : (x : Bool) → is_parameter s f leaf ≡ x → IsStored (storage_of s f leaf)
          by true parameter = absurd (parameter_plain leaf t parameter own h)
          by false parameter =
              is_stored (storage_of s f leaf) (is_defined s f leaf)
              (stored_of leaf parameter (declares leaf t (object_placed s senses grows grew brought are leaf declaring standing parameter) parameter typedefs own h))

      abbrev link : Bool → Bool → Linkage
      link x y = if x then Internal else (if y then External else Local)

      abbrev type_by : Linkage → Option Ctype
      type_by l = elim l as (λ _. Option Ctype) [ Internal ↦ internal_type s senses leaf | _ ↦ own_type s f leaf ]

      pub name_stored : entity_type s senses leaf ≡ Some t → (storage_at s senses leaf ≡ FunctionBody) ⊎ (storage_at s senses leaf ≡ DeclaredStorage)
      name_stored typed = by (is_internal s f leaf) refl
        where
          other : (y : Bool) → (type_by (link false y) ≡ own_type s f leaf) × (by_linkage leaf (link false y) ≡ storage_of s f leaf)
          other true = (refl, refl)
          other false = (refl, refl)

          by : (x : Bool) → is_internal s f leaf ≡ x → IsStored (storage_at s senses leaf)
          by true internal =
              let one : linkage_of s f leaf ≡ Internal = ap (λ (x : Bool). link x (is_linked s f leaf)) internal in
              internal_stored leaf t one internal h (sym (ap type_by one) ∙ typed)
          by false internal =
              let one : linkage_of s f leaf ≡ link false (is_linked s f leaf) = ap (λ (x : Bool). link x (is_linked s f leaf)) internal in
              let o = other (is_linked s f leaf) in
              let same : storage_at s senses leaf ≡ storage_of s f leaf = ap (by_linkage leaf) one ∙ o.1 in
              subst IsStored (sym same) (plain_stored (sym (ap type_by one ∙ o.0) ∙ typed))
