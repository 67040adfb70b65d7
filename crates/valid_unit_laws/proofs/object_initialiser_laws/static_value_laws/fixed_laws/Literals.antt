-- The initialisers of compound literals whose objects live for the whole run hold fixed values.
use Rattle.std.proofs.Common.{◌≡◌, inl, inr, ℕ, zero, suc, nat_eq, ◌==◌, Bool, true, false, ◌&&◌, ◌||◌, not, List, [], ◌∷◌, length, Option, Some, None, refl, sym, ap, ◌∙◌, subst}
use Rattle.std.specs.Prelude.{⊤, is_some, option_and_then, if◌then◌else◌}
use Rattle.std.proofs.lemmas.Bool.{eqb-true, both_ways, or_cases}
use Rattle.pta_base.specs.declared.place.Place.{Place}
use Rattle.c_types.specs.Trees.{Ctype}
use Rattle.core_tree.specs.declared.node.Storage.TheVariants.{Static, Automatic}
use Rattle.core_tree.specs.declared.node.NodeKind.{NodeKind}
use Rattle.core_tree.specs.declared.node.NodeKind.TheVariants.{Named, FunctionName, Literal, Initialise}
use Rattle.c_grammar.specs.Productions.{p_external, p_block, p_cast, p_unary}
use Rattle.c_grammar.specs.Words.{sign_left_parenthesis}
use Rattle.c_consts.specs.Core.{Core, Cores, Of, NoCores, MoreCores}
use Rattle.c_inits.specs.Shapes.{Path}
use Rattle.c_scope.specs.declared.kinds.Declared.{Declared as Declaration}
use Rattle.c_senses.specs.Names.{ordinary_at, has_linkage}
use Rattle.c_senses.specs.Tree.{Source, is_a, is_name, has_sign, production_at, children_at, parent_of, first_where, nearest_above, above_within}
use Rattle.c_senses.specs.World.{World, Meaning, Object, Function, TypeName, Tag, Value}
use Rattle.c_senses.specs.Sense.{Sense, IsCore, IsRun, IsInitial, IsDeclarator, sense_in}
use Rattle.c_senses.specs.Rows.{AreSenses, world_at}
use Rattle.c_senses.specs.Entities.{keep, first_of, internal_among, is_internal_of, is_internal, is_linked, entity_of, function_around, defined_name}
use Rattle.c_senses.specs.Initialised.{is_automatic, is_in_body, opening, name_of_declarator}
use Rattle.c_senses.specs.Right.{IsLiteralOf, literal_storage}
use Rattle.c_senses.specs.Right as right
use Rattle.core_node_laws.specs.near_nodes.Holding.{Asks, Holds, AllHold, AreOf, OfSense, MeaningGives, AreFixedIf, RowGives, Closed}
use Rattle.core_node_laws.proofs.near_nodes.All.{near_kept}
use Rattle.core_node_laws.specs.literal_nodes.Holding as lit
use Rattle.declaration_laws.proofs.declared_type_laws.passed.built_unit_laws.unlinked_laws.Inside.{in_body_holds}
use Rattle.declaration_laws.specs.declared_type_laws.passed.built_unit_laws.built_laws.Placed.{IsInBody}
use Rattle.declaration_laws.proofs.declared_type_laws.passed.built_unit_laws.built_laws.Placed.{part_in_body}
use Rattle.declaration_laws.proofs.declared_type_laws.passed.owner_laws.Unnamed.{literal_unnamed}
use Rattle.declaration_laws.specs.name_order.Order.{IsOrdered, IsNameOf, Own, Inner}
use Rattle.declaration_laws.proofs.declared_type_laws.plain_names.Later.{known_later}
use Rattle.declaration_laws.proofs.declared_type_laws.passed.built_unit_laws.run_laws.Times.{known_at, world_of}
use Rattle.declaration_laws.specs.function_laws.passed.definition_laws.Definitions.{is_definition, InDefinition, itself, below, HasDefinition, is_block_part}
use Rattle.declaration_laws.proofs.function_laws.passed.definition_laws.Reading.{reach_down, has_definition}
use Rattle.parsed_tree_laws.specs.family_laws.Families.{Families}
use Rattle.parsed_tree_laws.specs.member_names.Differ.{InOrder}
use Rattle.declaration_laws.specs.function_laws.passed.definition_laws.function_definitions.Defined.{Defines}
use Rattle.core_node_laws.proofs.count_laws.once_nodes.Rooted.{found_where}
use Rattle.valid_unit_laws.specs.object_initialiser_laws.static_value_laws.fixed_laws.Fixed.{automatic_by, all_fixed, LiteralValuesFixed}
use Rattle.valid_unit_laws.proofs.object_initialiser_laws.static_value_laws.fixed_laws.Later.{all_later, automatic_later}

none_some : {X : Type 0} → {x : X} → ◌≡◌ {A = Option X} None (Some x) → ⊥
none_some h = cc

some_one : {X : Type 0} → {x y : X} → ◌≡◌ {A = Option X} (Some x) (Some y) → x ≡ y
some_one h = cc

-- what holds by the one form holds by the other
module _ (asks : Core → Type 0) where
  kind_on : (kind : NodeKind) (place : Place) (type : Ctype) (under : Cores) → Asks asks kind place type under → lit.Asks asks kind place type under
  kind_on (Named e) place type under h = h
  kind_on (FunctionName e) place type under h = h
  kind_on (Literal e) place type under h = h
  kind_on (Initialise e paths) place type under h = h
  kind_on kind place type under h = tt

  mutual
    holds_on : (c : Core) → Holds asks c → lit.Holds asks c
    holds_on (Of kind place type under) h = (kind_on kind place type under h.0, all_on under h.1)

    all_on : (cs : Cores) → AllHold asks cs → lit.AllHold asks cs
    all_on NoCores h = tt
    all_on (MoreCores c rest) h = (holds_on c h.0, all_on rest h.1)

  run_on : (cs : List Core) → AreOf asks cs → lit.AreOf asks cs
  run_on [] h = tt
  run_on (c ∷ cs) h = (holds_on c h.0, run_on cs h.1)

  sense_on : (s : Source) (near : ℕ → Type 0) (x : Sense) → OfSense s near asks x → lit.OfSense asks x
  sense_on s near (IsCore c) h = holds_on c h
  sense_on s near (IsRun cores) h = run_on cores h
  sense_on s near (IsInitial c n) h = holds_on c h
  sense_on s near x h = tt

name_of : (s : Source) (m leaf : ℕ) → IsNameOf s m leaf → is_name s leaf ≡ true
name_of s m leaf (Own k named) = named
name_of s m leaf (Inner {c = c} k is more) = name_of s c leaf more

above_passes : (s : Source) (test : ℕ → Bool) (n : ℕ) (x : Option ℕ) (o : ℕ) → above_within s test n x ≡ Some o → test o ≡ true
above_passes s test zero x o e = cc
above_passes s test (suc n) None o e = cc
above_passes s test (suc n) (Some p) o e = by (test p) refl e (λ f. above_passes s test n (parent_of s p) o f)
  where
    by : (b : Bool) → test p ≡ b → (if b then Some p else above_within s test n (parent_of s p)) ≡ Some o → (above_within s test n (parent_of s p) ≡ Some o → test o ≡ true) → test o ≡ true
    by true is f later = let same : p ≡ o = cc in subst (λ (k : ℕ). test k ≡ true) same is
    by false is f later = later f

module _ (s : Source) (senses : List Sense) (are : AreSenses s senses) (ordered : IsOrdered s) (order : InOrder s) (families : Families s)
    (blocks : (i : ℕ) → is_block_part s i ≡ true → InDefinition s i) (defines : (d : ℕ) → is_definition s d ≡ true → Defines s senses d) where
  abbrev G : ℕ → Sense
  G = sense_in senses

  -- an entity with a name is known by a name
  linked_named : (f : ℕ → Sense) (x : ℕ) → is_linked s f x ≡ true → is_name s x ≡ true
  linked_named f x h = by (ordinary_at s x) refl h
    where
      by : (o : Option Declaration) → ordinary_at s x ≡ o → (elim o as (λ _. Bool) [ None ↦ false | Some d ↦ has_linkage d ]) ≡ true → is_name s x ≡ true
      by None at k = cc
      by (Some d) at k = let (m, links) = ordered.linked x d at k in name_of s m x links.named

  left : (a b : Bool) → (a && b) ≡ true → a ≡ true
  left true b e = refl
  left false b e = cc

  second_of : (a b : Bool) → (a && b) ≡ true → b ≡ true
  second_of true b e = e
  second_of false b e = cc

  first_named : (f : ℕ → Sense) (leaf symbol : ℕ) (ds : List Declaration) → is_name s leaf ≡ true → is_name s (first_of s f leaf (keep s f (is_internal_of s f symbol) ds)) ≡ true
  first_named f leaf symbol [] h = h
  first_named f leaf symbol (d ∷ ds) h = by (is_internal_of s f symbol d) refl (first_named f leaf symbol ds h)
    where
      by : (b : Bool) → is_internal_of s f symbol d ≡ b → is_name s (first_of s f leaf (keep s f (is_internal_of s f symbol) ds)) ≡ true
          → is_name s (first_of s f leaf (if b then d ∷ keep s f (is_internal_of s f symbol) ds else keep s f (is_internal_of s f symbol) ds)) ≡ true
      by true e later = linked_named f d.node (left (is_linked s f d.node) _ (second_of (nat_eq d.symbol symbol) (is_internal s f d.node) e))
      by false e later = later

  entity_named : (f : ℕ → Sense) (leaf : ℕ) → is_name s leaf ≡ true → is_name s (entity_of s f leaf) ≡ true
  entity_named f leaf h = by (is_internal s f leaf) (ordinary_at s leaf)
    where
      among : (o : Option Declaration) → is_name s (first_of s f leaf (internal_among s f s.declared.ordinary o)) ≡ true
      among None = h
      among (Some d) = first_named f leaf d.symbol s.declared.ordinary h

      by : (b : Bool) (o : Option Declaration) → is_name s (if b then first_of s f leaf (internal_among s f s.declared.ordinary o) else leaf) ≡ true
      by true o = among o
      by false o = h

  -- what stands in a block stands in a function
  definition_found : (x : ℕ) → HasDefinition s x → function_around s G x ≡ None → ⊥
  definition_found x h none =
      let there : function_around s G x ≡ Some (defines h.definition h.is).name = ap (option_and_then (defined_name s G)) h.nearest ∙ (defines h.definition h.is).named in
      none_some (sym none ∙ there)

  parts_in : (p q : ℕ) (a : ℕ) → is_a s a p ≡ true → (a == p_external) ≡ false → InDefinition s p → HasDefinition s p
  parts_in p q a is other (itself definition) =
      let external : is_a s p_external p ≡ true = left (is_a s p_external p) _ definition in
      absurd (both_ways (is_a s p_external p) (ap (λ (x : ℕ). x == p_external) (eqb-true (production_at s p) a is) ∙ other) external)
  parts_in p q a is other (below {p = up} child more) = has_definition s order families up p child more

  opening_around : (w : World) (f : ℕ → Sense) (p : ℕ) → (is_a s p_cast p || is_a s p_unary p) ≡ true → InDefinition s p → function_around s G (opening w s f p) ≡ None → ⊥
  opening_around w f p over inside none = by (first_where (has_sign s sign_left_parenthesis) (children_at s p)) refl none
    where
      own : HasDefinition s p
      own = elim (or_cases (is_a s p_cast p) (is_a s p_unary p) over) [ inl h ↦ parts_in p p p_cast h refl inside | inr h ↦ parts_in p p p_unary h refl inside ]

      by : (o : Option ℕ) → first_where (has_sign s sign_left_parenthesis) (children_at s p) ≡ o → function_around s G (elim o as (λ _. ℕ) [ None ↦ p | Some leaf ↦ leaf ]) ≡ None → ⊥
      by None e k = definition_found p own k
      by (Some leaf) e k = let found = found_where (has_sign s sign_left_parenthesis) (children_at s p) leaf e in definition_found leaf (has_definition s order families p leaf found.1 inside) k

  outside : (w v : World) (f g : ℕ → Sense) (at p : ℕ) → parent_of s at ≡ Some p → (is_a s p_cast p || is_a s p_unary p) ≡ true → function_around s G (opening v s g p) ≡ None → is_in_body w s f at ≡ false
  outside w v f g at p parent over none = by (nearest_above s (λ k. is_a s p_block k) at) refl
    where
      by : (o : Option ℕ) → nearest_above s (λ k. is_a s p_block k) at ≡ o → is_some o ≡ false
      by None e = refl
      by (Some b) e =
          let block : is_a s p_block b ≡ true = above_is b e in
          let there = reach_down s order families (λ k. is_a s p_block k) at b e (blocks b (second (is_a s 3 b) (is_a s p_block b) (is_a s 30 b) block)) in
          let same : there.0 ≡ p = some_one (sym there.1 ∙ parent) in
          absurd (opening_around v g p over (subst (InDefinition s) same there.2) none)
        where
          second : (a c d : Bool) → c ≡ true → (a || (c || d)) ≡ true
          second true c d e = refl
          second false true d e = refl
          second false false d e = cc

          above_is : (b : ℕ) → nearest_above s (λ k. is_a s p_block k) at ≡ Some b → is_a s p_block b ≡ true
          above_is b e = above_passes s (λ k. is_a s p_block k) (length s.nodes) (parent_of s at) b e

  -- the initialiser of a literal outside of functions has fixed values
  abbrev AsksStatic : Core → Type 0
  AsksStatic (Of (Initialise d paths) place type values) = is_name s d ≡ false → function_around s G d ≡ None → all_fixed (automatic_by s senses) values ≡ true
  AsksStatic c = ⊤

  Everywhere : ℕ → Type 0
  Everywhere i = ⊤

  everything : Closed s Everywhere
  unfolding Everywhere
  everything = record { parts = λ i c h near. tt; lefts = λ i first rest post are_parts near. tt }

  are_fixed : (w : World) (f : ℕ → Sense) (b : Bool) (cs : Cores) → b ≡ true → AreFixedIf w s f b cs → all_fixed (is_automatic w s f) cs ≡ true
  are_fixed w f b NoCores is h = refl
  are_fixed w f b (MoreCores c rest) is h = ap (λ (v : Bool). v && all_fixed (is_automatic w s f) rest) (h.0 is) ∙ are_fixed w f b rest is h.1

  meaning_asks : (o : Option Meaning) → MeaningGives AsksStatic o
  meaning_asks None = tt
  meaning_asks (Some (Object e t)) = λ place. tt
  meaning_asks (Some (Function e t)) = λ place. tt
  meaning_asks (Some (TypeName t)) = tt
  meaning_asks (Some (Tag tag)) = tt
  meaning_asks (Some (Value n)) = tt

  declarator_named : (w : World) (f : ℕ → Sense) (x : Sense) (leaf : ℕ) → OfSense s Everywhere AsksStatic x → name_of_declarator w s f x ≡ Some leaf → is_name s leaf ≡ true
  declarator_named w f (IsDeclarator (Some own) ds) leaf h e = subst (λ (k : ℕ). is_name s k ≡ true) (some_one e) h.1
  declarator_named w f (IsDeclarator None ds) leaf h e = cc
  declarator_named w f x leaf h e = cc

  gives : (n : ℕ) → ((c : ℕ) → Everywhere c → OfSense s Everywhere AsksStatic (known_at s senses n c)) → RowGives AsksStatic (world_of s senses n) s (known_at s senses n) n (children_at s n)
  unfolding Everywhere
  gives n before = record {
    names = λ leaf has. meaning_asks ((world_of s senses n).meaning leaf);
    lists = λ entity function place at type asked e. tt;
    objects = λ declarator leaf by_it name paths values fixed plain none. absurd (both_ways (is_name s (entity_of s (known_at s senses n) leaf)) plain
        (entity_named (known_at s senses n) leaf (declarator_named (world_of s senses n) (known_at s senses n) (known_at s senses n declarator) leaf (before declarator tt) name)));
    initials = λ p parent paths values over fixed plain none.
        let off : not (is_in_body (world_of s senses n) s (known_at s senses n) n) ≡ true = ap not (outside (world_of s senses n) (world_of s senses n) (known_at s senses n) (known_at s senses n) n p parent over none) in
        all_later (is_automatic (world_of s senses n) s (known_at s senses n)) (automatic_by s senses) (λ e no. automatic_later s (known_at s senses n) G (known_later s senses n) (world_of s senses n) (world_at s senses (length senses)) e no) values
        (are_fixed (world_of s senses n) (known_at s senses n) (not (is_in_body (world_of s senses n) s (known_at s senses n) n)) values off fixed);
    literals = λ p parent type initial over. tt;
    blocks = λ is place under. tt;
    plains = λ c a place under. tt;
    fors = λ is declaration has production c a place under. tt;
  }

  all_asked : (i : ℕ) → lit.OfSense AsksStatic (G i)
  unfolding Everywhere
  all_asked i = sense_on AsksStatic s Everywhere (G i) (near_kept AsksStatic s senses Everywhere are everything (λ n lt near before. gives n before) i tt)

  outside_functions : (b : Bool) → (if b then Automatic else Static) ≡ Static → b ≡ false
  outside_functions true e = cc
  outside_functions false e = refl

  none_is : (o : Option ℕ) → is_some o ≡ false → o ≡ None
  none_is None e = refl
  none_is (Some x) e = cc

  initial_asked : (leaf : ℕ) (paths : List Path) (place : Place) (type : Ctype) (values : Cores) → lit.Holds AsksStatic (Of (Initialise leaf paths) place type values) → is_name s leaf ≡ false → function_around s G leaf ≡ None
      → all_fixed (automatic_by s senses) values ≡ true
  initial_asked leaf paths place type values h plain none = h.0 plain none

  pub literals_fixed : LiteralValuesFixed s senses
  literals_fixed leaf c paths place type values literal static initial =
      let inside : IsInBody s senses c = in_body c literal.1 in
      let part : IsInBody s senses (Of (Initialise leaf paths) place type values) = part_in_body s senses c (Of (Initialise leaf paths) place type values) 0 inside initial in
      initial_asked leaf paths place type values (in_body_holds AsksStatic s senses all_asked (Of (Initialise leaf paths) place type values) part) (literal_unnamed s senses are leaf c literal)
      (none_is (function_around s G leaf) (outside_functions (is_some (function_around s G leaf)) static))
    where
      in_body : (c : Core) → ((d : ℕ) × (what : right.Declared) × (body : Core) × (right.declared_name s senses d ≡ Some what) × (what.body ≡ Some body) × right.Within s senses c body) → IsInBody s senses c
      in_body c (d, what, body, named, is, within) = record { leaf = d; what = what; body = body; declared = named; has = is; within = within }
