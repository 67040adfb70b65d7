-- An object that a block lists has automatic storage in the whole tree.
use Rattle.std.proofs.Common.{arith, ◌≡◌, ◌<◌, ◌&&◌, ◌||◌, not, nat_eq, ℕ, zero, suc, Bool, true, false, List, Option, Some, None, length, refl, sym, ap, ◌∙◌, subst, ◌⊎◌, inl, inr}
use Rattle.std.specs.Prelude.{is_none, option_and_then, if◌then◌else◌}
use Rattle.std.proofs.lemmas.Bool.{eqb-true}
use Rattle.c_grammar.specs.Productions.{p_unit, p_external, p_rest, p_field, p_declaration, p_specs, p_parameter, p_block, p_statement}
use Rattle.c_grammar.specs.Terminals.{contains}
use Rattle.c_grammar.specs.Words.{word_extern, word_static}
use Rattle.core_tree.specs.declared.node.Storage.{Storage}
use Rattle.core_tree.specs.declared.node.Storage.TheVariants.{Static, Automatic, FunctionBody, Parameter, Declared}
use Rattle.core_tree.specs.declared.node.Linkage.{Linkage}
use Rattle.core_tree.specs.declared.node.Linkage.TheVariants.{External, Internal, Local}
use Rattle.c_senses.specs.Names.{ordinary_at, linked_before}
use Rattle.c_senses.specs.Tree.{Source, production_at, children_at, is_a, child_of, parent_of, above_within, nearest_above}
use Rattle.c_senses.specs.World.{World}
use Rattle.c_senses.specs.Sense.{Sense, IsSpecified, Specified, sense_in}
use Rattle.c_senses.specs.Declarators.{is_outermost, outermost_of, specs_of, declaration_around}
use Rattle.c_senses.specs.Entities.{specified, specified_of, has_storage, declaration_of, is_at_file, is_parameter, is_defined, declares_function, is_typedef, is_linked, initialiser_for, is_static_object, storage_of, is_static_at_file, is_without_storage, is_internal, linkage_of, some_such}
use Rattle.c_senses.specs.Rows.{AreSenses}
use Rattle.c_senses.specs.Right.{stands_in_declaration, is_defined_parameter, storage_at, representative}
use Rattle.c_senses.specs.Statements.{is_automatic_object}
use Rattle.declaration_laws.specs.definition_laws.scope_laws.Beneath.{Beneath, part, deeper}
use Rattle.declaration_laws.specs.definition_laws.scope_laws.Scoped.{IsPart}
use Rattle.declaration_laws.proofs.definition_laws.scope_laws.Tree.{further, compare, Order}
use Rattle.core_node_laws.specs.standing_laws.Standing.{IsGrown}
use Rattle.core_node_laws.proofs.standing_laws.Climbing.{parent_holds}
use Rattle.core_node_laws.proofs.standing_laws.Bodies.{found_part}
use Rattle.core_node_laws.proofs.standing_laws.Descending.{F, sense_before}
use Rattle.declaration_laws.proofs.declared_type_laws.owner_laws.Naming.{clash}
use Rattle.declaration_laws.proofs.declared_type_laws.owner_laws.Below.{rooted_of}

none_some : {A : Type 0} → {x : A} → ◌≡◌ {A = Option A} None (Some x) → ⊥
none_some e = cc

some_same : {A : Type 0} → {x y : A} → ◌≡◌ {A = Option A} (Some x) (Some y) → x ≡ y
some_same e = cc

-- what an automatic object isn't
storage_parts : (p f d e t : Bool) → (if p then Parameter else if f then (if d then FunctionBody else Declared) else if e then Declared else if t then Static else Automatic) ≡ Automatic → (p ≡ false) × (f ≡ false) × (t ≡ false)
storage_parts true f d e t h = cc
storage_parts false true true e t h = cc
storage_parts false true false e t h = cc
storage_parts false false d true t h = cc
storage_parts false false d false true h = cc
storage_parts false false d false false h = (refl, refl, refl)

storage_made : (p f d x i t : Bool) → p ≡ false → f ≡ false → x ≡ false → t ≡ false → (if p then Parameter else if f then (if d then FunctionBody else Declared) else if x && i then Declared else if t then Static else Automatic) ≡ Automatic
storage_made false false d false i false ep ef ex et = refl
storage_made true f d x i t ep ef ex et = cc
storage_made false true d x i t ep ef ex et = cc
storage_made false false d true i t ep ef ex et = cc
storage_made false false d false i true ep ef ex et = cc

none_of : (a b c : Bool) → (a || (b || c)) ≡ false → (a ≡ false) × (b ≡ false) × (c ≡ false)
none_of false false false e = (refl, refl, refl)
none_of true b c e = cc
none_of false true c e = cc
none_of false false true e = cc

all_off : (a b c : Bool) → a ≡ false → b ≡ false → c ≡ false → (a || (b || c)) ≡ false
all_off false false false x y z = refl
all_off true b c x y z = cc
all_off false true c x y z = cc
all_off false false true x y z = cc

internal_off : (l file static extern function without some : Bool) → file ≡ false → extern ≡ false → function ≡ false → (l && ((file && static) || ((extern || (function && without)) && some))) ≡ false
internal_off true false static false false without some ef ee eu = refl
internal_off false file static extern function without some ef ee eu = refl
internal_off true true static extern function without some ef ee eu = cc
internal_off true false static true function without some ef ee eu = cc
internal_off true false static false true without some ef ee eu = cc

module _ (s : Source) (grown : IsGrown s) where
  -- above blocks and statements stand blocks, statements, external declarations and the root
  abbrev IsBlockish : ℕ → Type 0
  IsBlockish i = (is_a s p_block i || is_a s p_statement i) ≡ true

  no_two : (x p q : ℕ) → is_a s p x ≡ true → nat_eq p q ≡ false → is_a s q x ≡ false
  no_two x p q is differ = subst (λ (y : ℕ). nat_eq y q ≡ false) (sym (eqb-true (production_at s x) p is)) differ

  abbrev Above : ℕ → Type 0
  Above i = IsBlockish i ⊎ ((is_a s p_external i ≡ true) ⊎ (is_a s p_unit i ≡ true))

  parent_kind : (i c : ℕ) → IsPart s i c → IsBlockish c → Above i
  parent_kind i c r is = by (is_a s p_block c) (is_a s p_statement c) refl refl is
    where
      of_block : (a b : Bool) → is_a s p_external i ≡ a → is_a s p_statement i ≡ b → (a || b) ≡ true → Above i
      of_block true b ea eb h = inr (inl ea)
      of_block false true ea eb h = inl (or_right (is_a s p_block i) eb)
        where
          or_right : (x : Bool) → is_a s p_statement i ≡ true → (x || is_a s p_statement i) ≡ true
          or_right true e = refl
          or_right false e = e
      of_block false false ea eb h = cc

      by : (a b : Bool) → is_a s p_block c ≡ a → is_a s p_statement c ≡ b → (a || b) ≡ true → Above i
      by true b ea eb h = of_block (is_a s p_external i) (is_a s p_statement i) refl refl (grown.nested.blocks i c r ea)
      by false true ea eb h = inl (grown.nested.statements i c r eb)
      by false false ea eb h = cc

  parent_above : (i c : ℕ) → IsPart s i c → Above c → Above i
  parent_above i c r (inl is) = parent_kind i c r is
  parent_above i c r (inr (inl is)) = inr (inr (grown.nested.externals i c r is))
  parent_above i c r (inr (inr is)) = clash (is_a s p_unit c) is (grown.nested.units i c r)

  pub above_blocks : (a n : ℕ) → Beneath (IsPart s) a n → IsBlockish n → Above a
  above_blocks a n b is = climb a n b (inl is)
    where
      climb : (a n : ℕ) → Beneath (IsPart s) a n → Above n → Above a
      climb a n (part r) h = parent_above a n r h
      climb a n (deeper {i = i} c r) h = climb a i c (parent_above i n r h)

  declaration_apart : (d : ℕ) → is_a s p_declaration d ≡ true → Above d → ⊥
  declaration_apart d is (inl h) = by (is_a s p_block d) (is_a s p_statement d) (no_two d p_declaration p_block is refl) (no_two d p_declaration p_statement is refl) h
    where
      by : (a b : Bool) → a ≡ false → b ≡ false → (a || b) ≡ true → ⊥
      by false false x y e = cc
      by true b x y e = cc
      by false true x y e = cc
  declaration_apart d is (inr (inl h)) = clash (is_a s p_external d) h (no_two d p_declaration p_external is refl)
  declaration_apart d is (inr (inr h)) = clash (is_a s p_unit d) h (no_two d p_declaration p_unit is refl)

  -- what is found above a node stands above it
  found_above : (test : ℕ → Bool) (fuel p q c : ℕ) → IsPart s p c → above_within s test fuel (Some p) ≡ Some q → Beneath (IsPart s) q c
  found_above test zero p q c r e = cc
  found_above test (suc fuel) p q c r e = by (test p) (parent_of s p) refl e (λ x h f. found_above test fuel x q p h f)
    where
      by : (b : Bool) (o : Option ℕ) → parent_of s p ≡ o → (if b then Some p else above_within s test fuel (parent_of s p)) ≡ Some q
          → ((x : ℕ) → IsPart s x p → above_within s test fuel (Some x) ≡ Some q → Beneath (IsPart s) q p) → Beneath (IsPart s) q c
      by true o up e more = subst (λ (k : ℕ). Beneath (IsPart s) k c) (some_same e) (part r)
      by false None up e more = absurd (none_some (sym (nothing fuel) ∙ (sym (ap (above_within s test fuel) up) ∙ e)))
        where
          nothing : (fuel : ℕ) → above_within s test fuel None ≡ None
          nothing zero = refl
          nothing (suc fuel) = refl
      by false (Some x) up e more = deeper (more x (parent_holds s grown x p up) (sym (ap (above_within s test fuel) up) ∙ e)) r

  nearest_beneath : (test : ℕ → Bool) (c q : ℕ) → nearest_above s test c ≡ Some q → Beneath (IsPart s) q c
  nearest_beneath test c q e = by (parent_of s c) refl e
    where
      nothing : (fuel : ℕ) → above_within s test fuel None ≡ None
      nothing zero = refl
      nothing (suc fuel) = refl

      by : (o : Option ℕ) → parent_of s c ≡ o → above_within s test (length s.nodes) (parent_of s c) ≡ Some q → Beneath (IsPart s) q c
      by None up e = absurd (none_some (sym (nothing (length s.nodes)) ∙ (sym (ap (above_within s test (length s.nodes)) up) ∙ e)))
      by (Some p) up e = found_above test (length s.nodes) p q c (parent_holds s grown p c up) (sym (ap (above_within s test (length s.nodes)) up) ∙ e)

  around_above : (r d x : ℕ) → declaration_around s r ≡ Some d → IsPart s r x → Beneath (IsPart s) d x
  around_above r d x e h = by (is_a s p_rest r || is_a s p_field r) e
    where
      by : (b : Bool) → (if b then parent_of s r else Some r) ≡ Some d → Beneath (IsPart s) d x
      by true f = deeper (part (parent_holds s grown d r f)) h
      by false f = subst (λ (k : ℕ). Beneath (IsPart s) k x) (some_same f) (part h)

  -- the declarator and the declaration of a name stand above it
  pub record DeclaredIn (sense : ℕ → Sense) (leaf d : ℕ) : Type 0 where
    pub declarator : ℕ
    pub outermost : outermost_of s leaf ≡ Some declarator
    pub around : option_and_then (declaration_around s) (parent_of s declarator) ≡ Some d
    pub above : Beneath (IsPart s) d leaf

  declared_in : (sense : ℕ → Sense) (leaf d : ℕ) → declaration_of s sense leaf ≡ Some d → DeclaredIn sense leaf d
  declared_in sense leaf d e = by (outermost_of s leaf) refl e
    where
      of_parent : (q : ℕ) → outermost_of s leaf ≡ Some q → (o : Option ℕ) → parent_of s q ≡ o → option_and_then (declaration_around s) o ≡ Some d → DeclaredIn sense leaf d
      of_parent q at None up e = cc
      of_parent q at (Some r) up e = record {
        declarator = q;
        outermost = at;
        around = ap (option_and_then (declaration_around s)) up ∙ e;
        above = further (IsPart s) d q leaf (around_above r d q e (parent_holds s grown r q up)) (nearest_beneath (is_outermost s) leaf q at);
      }

      by : (o : Option ℕ) → outermost_of s leaf ≡ o → option_and_then (declaration_around s) (option_and_then (parent_of s) o) ≡ Some d → DeclaredIn sense leaf d
      by None at e = cc
      by (Some q) at e = of_parent q at (parent_of s q) refl e

  module _ (senses : List Sense) (are : AreSenses s senses) (whole : length senses ≡ length s.nodes) (n leaf : ℕ) (is : IsBlockish n) (below : Beneath (IsPart s) n leaf) where
    abbrev f : ℕ → Sense
    f = F s senses grown are whole n

    abbrev g : ℕ → Sense
    g = sense_in senses

    smaller : (a b : ℕ) → Beneath (IsPart s) a b → b < a
    smaller a b (part r) = (rooted_of s grown).before a b r
    smaller a b (deeper {i = i} c r) = let one = smaller a i c in let two = (rooted_of s grown).before i b r in omega (arith, one, two)

    -- a declaration of what stands below a block stands below the block
    declaration_before : (d : ℕ) → is_a s p_declaration d ≡ true → Beneath (IsPart s) d leaf → d < n
    declaration_before d declares up = by (compare (IsPart s) (rooted_of s grown).single d n leaf up below)
      where
        by : Order (IsPart s) d n → d < n
        by (inl same) = absurd (declaration_apart d declares (inl (subst (λ (k : ℕ). IsBlockish k) (sym same) is)))
        by (inr (inl down)) = absurd (declaration_apart d declares (above_blocks d n down is))
        by (inr (inr up)) = smaller n d up

    specs_same : (d : ℕ) → d < n → (o : Option ℕ) → child_of s p_specs d ≡ o → specified s f o ≡ specified s g o
    specs_same d lt None e = refl
    specs_same d lt (Some x) e =
        let found = found_part (is_a s p_specs) (children_at s d) x e in
        let first = grown.first d found.0.0 x found.0.1 in
        let same : f x ≡ g x = sense_before s senses grown are whole n x (omega (arith, lt, first)) in
        ap (λ (y : Sense). elim y as (λ _. Option Specified) [ IsSpecified z ↦ Some z | _ ↦ None ]) same

    specified_same : (d : ℕ) → declaration_of s g leaf ≡ Some d → is_a s p_declaration d ≡ true → specified_of s f leaf ≡ specified_of s g leaf
    specified_same d e declares =
        let own = declared_in g leaf d e in
        let specs : option_and_then (specs_of s) (outermost_of s leaf) ≡ child_of s p_specs d =
        ap (option_and_then (specs_of s)) own.outermost ∙ ap (option_and_then (child_of s p_specs)) own.around in
        ap (specified s f) specs ∙ (specs_same d (declaration_before d declares own.above) (child_of s p_specs d) refl ∙ sym (ap (specified s g) specs))

    has_same : (d word : ℕ) → declaration_of s g leaf ≡ Some d → is_a s p_declaration d ≡ true → has_storage s f word leaf ≡ has_storage s g word leaf
    has_same d word e declares = ap (λ (o : Option Specified). elim o as (λ _. Bool) [ None ↦ false | Some x ↦ contains x.storage word ]) (specified_same d e declares)

    -- the declaration
    declaration_is : stands_in_declaration s senses leaf ≡ true → is_at_file s g leaf ≡ false → is_parameter s g leaf ≡ false → (d : ℕ) × (declaration_of s g leaf ≡ Some d) × (is_a s p_declaration d ≡ true)
    declaration_is stands file parameter = by (declaration_of s g leaf) refl stands file parameter
      where
        pick : (a b c e : Bool) → a ≡ false → c ≡ false → (a || (b || (c && e))) ≡ true → b ≡ true
        pick false true c e x y h = refl
        pick false false false e x y h = cc
        pick true b c e x y h = cc
        pick false false true e x y h = cc

        by : (o : Option ℕ) → declaration_of s g leaf ≡ o → (elim o as (λ _. Bool) [ None ↦ false | Some p ↦ is_a s p_external p || (is_a s p_declaration p || (is_a s p_parameter p && is_defined_parameter s senses leaf)) ]) ≡ true
            → (elim o as (λ _. Bool) [ None ↦ false | Some p ↦ is_a s p_external p ]) ≡ false → (elim o as (λ _. Bool) [ None ↦ false | Some p ↦ is_a s p_parameter p ]) ≡ false
            → (d : ℕ) × (declaration_of s g leaf ≡ Some d) × (is_a s p_declaration d ≡ true)
        by None e h file parameter = cc
        by (Some d) e h file parameter = (d, e, pick (is_a s p_external d) (is_a s p_declaration d) (is_a s p_parameter d) (is_defined_parameter s senses leaf) file parameter h)

    automatic_is : (w : World) → is_automatic_object w s f leaf ≡ true → storage_of s f leaf ≡ Automatic
    automatic_is w h = by (is_typedef s f leaf) (storage_of s f leaf) h
      where
        by : (t : Bool) (x : Storage) → (not t && elim x as (λ _. Bool) [ Automatic ↦ true | _ ↦ false ]) ≡ true → x ≡ Automatic
        by false Automatic h = refl
        by false Static h = cc
        by false FunctionBody h = cc
        by false Parameter h = cc
        by false Declared h = cc
        by true x h = cc

    -- so it has automatic storage
    pub storage_is : (w : World) → is_automatic_object w s f leaf ≡ true → stands_in_declaration s senses leaf ≡ true → storage_at s senses leaf ≡ Automatic
    storage_is w automatic stands = by (linkage_of s g leaf) refl
      where
        parts : (is_parameter s f leaf ≡ false) × (declares_function s f leaf ≡ false) × (is_static_object s f leaf ≡ false)
        parts = storage_parts (is_parameter s f leaf) (declares_function s f leaf) (is_defined s f leaf) (has_storage s f word_extern leaf && is_none (initialiser_for s f leaf)) (is_static_object s f leaf) (automatic_is w automatic)

        words : (is_at_file s f leaf ≡ false) × (has_storage s f word_static leaf ≡ false) × (has_storage s f word_extern leaf ≡ false)
        words = none_of (is_at_file s f leaf) (has_storage s f word_static leaf) (has_storage s f word_extern leaf) parts.2

        own : (d : ℕ) × (declaration_of s g leaf ≡ Some d) × (is_a s p_declaration d ≡ true)
        own = declaration_is stands words.0 parts.0

        static : has_storage s g word_static leaf ≡ false
        static = sym (has_same own.0 word_static own.1 own.2) ∙ words.1

        extern : has_storage s g word_extern leaf ≡ false
        extern = sym (has_same own.0 word_extern own.1 own.2) ∙ words.2

        whole_storage : storage_of s g leaf ≡ Automatic
        whole_storage =
            storage_made (is_parameter s g leaf) (declares_function s g leaf) (is_defined s g leaf) (has_storage s g word_extern leaf) (is_none (initialiser_for s g leaf)) (is_static_object s g leaf) parts.0 parts.1 extern
            (all_off (is_at_file s g leaf) (has_storage s g word_static leaf) (has_storage s g word_extern leaf) words.0 static extern)

        no_internal : is_internal s g leaf ≡ false
        no_internal =
            internal_off (is_linked s g leaf) (is_at_file s g leaf) (has_storage s g word_static leaf) (has_storage s g word_extern leaf) (declares_function s g leaf) (is_without_storage s g leaf)
            (some_such s g (λ d. is_static_at_file s g d.node) (linked_before s (ordinary_at s leaf))) words.0 extern parts.1

        not_internal : (a b : Bool) → a ≡ false → (if a then Internal else (if b then External else Local)) ≡ Internal → ⊥
        not_internal true b e h = cc
        not_internal false true e h = cc
        not_internal false false e h = cc

        by : (l : Linkage) → linkage_of s g leaf ≡ l
            → (elim l as (λ _. Storage) [ Internal ↦ (elim (storage_of s g (representative s senses leaf)) as (λ _. Storage) [ Declared ↦ if declares_function s g leaf then Declared else Static | other ↦ other ]) | _ ↦ storage_of s g leaf ]) ≡ Automatic
        by Internal e = absurd (not_internal (is_internal s g leaf) (is_linked s g leaf) no_internal e)
        by External e = whole_storage
        by Local e = whole_storage
