-- Automatic objects, by their names: what initialises them runs in a function.
use Rattle.std.proofs.Common.{◌≡◌, ℕ, zero, suc, nat_eq, not, ◌&&◌, ◌||◌, Bool, true, false, List, Option, Some, None, length, refl, sym, ap, ◌∙◌, subst, ◌⊎◌, inl, inr}
use Rattle.std.specs.Prelude.{is_none, is_some, option_and_then, option_map, if◌then◌else◌}
use Rattle.std.proofs.lemmas.Bool.{eqb-true}
use Rattle.c_lexer.specs.declared.Tokens.{Tokens}
use Rattle.c_lexer.specs.Cut.{IsTokens}
use Rattle.c_grammar.specs.declared.trees.Tree.{Tree}
use Rattle.c_grammar.specs.Productions.{p_external, p_declaration, p_declarator, p_parameter, p_block, p_statement}
use Rattle.c_grammar.specs.Words.{word_extern, word_static}
use Rattle.c_parser.specs.c_units.Units.{IsUnit}
use Rattle.c_types.specs.Trees.{Ctype}
use Rattle.core_tree.specs.declared.node.NodeKind.TheVariants.{Initialise}
use Rattle.core_tree.specs.declared.node.Linkage.{Linkage}
use Rattle.core_tree.specs.declared.node.Linkage.TheVariants.{External, Internal, Local}
use Rattle.core_tree.specs.declared.node.Storage.{Storage}
use Rattle.core_tree.specs.declared.node.Storage.TheVariants.{Static, Automatic, FunctionBody, Parameter, Declared}
use Rattle.c_consts.specs.Core.{Core}
use Rattle.c_senses.specs.Names.{source_of, numbered}
use Rattle.c_senses.specs.Tree.{Source, is_a, is_name, child_of, children_at, parent_of, above_within}
use Rattle.c_senses.specs.World.{same_length}
use Rattle.c_senses.specs.Sense.{Sense, IsDeclarator, IsInitial, Derivation, sense_in}
use Rattle.c_senses.specs.Rows.{AreSenses}
use Rattle.c_senses.specs.Declarators.{is_outermost, outermost_of}
use Rattle.c_senses.specs.Entities.{keep, first_of, is_typedef, is_defined, is_parameter, is_at_file, is_linked, is_internal, declares_function, has_storage, declaration_of, storage_of, linkage_of, entity_of, initialiser_of, initialiser_for}
use Rattle.c_senses.specs.Right.{Declared as Declares, core_of_sense, block_for, body_at, of_internal, is_definition_at, is_tentative, representative, storage_at, declared_as, declared_name, declares_entity, is_declaring, is_defined_parameter, stands_in_declaration, entity_type}
use Rattle.declaration_laws.specs.function_laws.passed.definition_laws.scope_laws.Beneath.{Beneath, part, deeper}
use Rattle.declaration_laws.specs.function_laws.passed.definition_laws.scope_laws.Scoped.{IsPart}
use Rattle.declaration_laws.specs.function_laws.passed.definition_laws.Definitions.{is_definition, InDefinition, itself, below}
use Rattle.declaration_laws.proofs.function_laws.passed.definition_laws.linkage_laws.Seen.{some_same, no_both, apart, list_in}
use Rattle.declaration_laws.proofs.function_laws.passed.definition_laws.linkage_laws.Linked as linked
use Rattle.declaration_laws.proofs.function_laws.passed.definition_laws.linkage_laws.Reading.{tree_is}
use Rattle.declaration_laws.proofs.function_laws.passed.definition_laws.linkage_laws.Unlinked.{lives, local}
use Rattle.declaration_laws.proofs.declared_type_laws.passed.owner_laws.Whole.{grown_of}
use Rattle.declaration_laws.proofs.function_laws.passed.definition_laws.initialiser_laws.Found.{initialisers_found}
use Rattle.valid_unit_laws.specs.object_initialiser_laws.placed_initialisers.PassedOn.{IsPlaced}
use Rattle.valid_unit_laws.proofs.object_initialiser_laws.placed_initialisers.Whole.{units_place}
use Rattle.valid_unit_laws.specs.object_initialiser_laws.initial_entities.Own.{IsOwnInitial}
use Rattle.valid_unit_laws.proofs.object_initialiser_laws.initial_entities.Rows.{initialisers_own}
use Rattle.declaration_laws.specs.declared_type_laws.passed.owner_laws.held_runs.PassedOn.{IsHeld}
use Rattle.declaration_laws.proofs.declared_type_laws.passed.owner_laws.held_runs.PassedOn.{units_hold_parts}
use Rattle.declaration_laws.specs.declared_type_laws.passed.owner_laws.held_runs.Runs.{BlockWith}
use Rattle.declaration_laws.proofs.declared_type_laws.passed.owner_laws.held_runs.Whole.{climb}
use Rattle.declaration_laws.proofs.declared_type_laws.passed.owner_laws.automatic_runs.Whole.{automatic_runs}
use Rattle.valid_unit_laws.proofs.body_node_laws.own_initials.Trees.{Marks}
use Rattle.valid_unit_laws.proofs.body_node_laws.own_initials.Names.{both}

-- what is found above passes
found_above : (s : Source) (test : ℕ → Bool) (fuel d : ℕ) (o : Option ℕ) → above_within s test fuel o ≡ Some d → test d ≡ true
found_above s test zero d o e = cc
found_above s test (suc fuel) d None e = cc
found_above s test (suc fuel) d (Some p) e = by (test p) refl e (λ f. found_above s test fuel d (parent_of s p) f)
  where
    by : (b : Bool) → test p ≡ b → (if b then Some p else above_within s test fuel (parent_of s p)) ≡ Some d → (above_within s test fuel (parent_of s p) ≡ Some d → test d ≡ true) → test d ≡ true
    by true is e later = ap test (sym (some_same e)) ∙ is
    by false is e later = later e

and_then_some : {A B : Type 0} → (o : Option A) (k : A → Option B) (y : B) → option_and_then k o ≡ Some y → (x : A) × (o ≡ Some x) × (k x ≡ Some y)
and_then_some None k y e = cc
and_then_some (Some x) k y e = (x, refl, e)

-- an automatic name is no parameter's, and isn't declared at file scope
pub not_at_file : (p f d x a w : Bool) → (if p then Parameter else if f then (if d then FunctionBody else Declared) else if x then Declared else if a || w then Static else Automatic) ≡ Automatic → (p ≡ false) × (a ≡ false)
not_at_file true f d x a w e = cc
not_at_file false true true x a w e = cc
not_at_file false true false x a w e = cc
not_at_file false false d true a w e = cc
not_at_file false false d false true w e = cc
not_at_file false false d false false w e = (refl, refl)

not_linked : (a c : Bool) → (if a then Internal else (if c then External else Local)) ≡ Local → c ≡ false
not_linked true c e = cc
not_linked false true e = cc
not_linked false false e = refl

definition_above : (s : Source) (a : ℕ) → InDefinition s a → (p : ℕ) × (is_definition s p ≡ true) × ((p ≡ a) ⊎ Beneath (IsPart s) p a)
definition_above s a (itself h) = (a, h, inl refl)
definition_above s a (below {p = q} child inner) = let found = definition_above s q inner in (found.0, found.1, inr (by found.0 found.2))
  where
    inside : IsPart s q a
    inside = list_in (children_at s q) child.0 a child.1

    by : (p : ℕ) → (p ≡ q) ⊎ Beneath (IsPart s) p q → Beneath (IsPart s) p a
    by p (inl same) = part (subst (λ (k : ℕ). IsPart s k a) (sym same) inside)
    by p (inr b) = deeper b inside

module _ (tokens : Tokens) (unit : ℕ) (tree : Tree) (tag_number : ℕ → ℕ) (senses : List Sense) (cut : IsTokens tokens.text.now tokens.list.items) (read : IsUnit tokens unit tree)
    (are : AreSenses (numbered tag_number (source_of tokens tree)) senses) (whole : length senses ≡ length (numbered tag_number (source_of tokens tree)).nodes)
  where
    abbrev s : Source
    s = numbered tag_number (source_of tokens tree)

    abbrev sense : ℕ → Sense
    sense i = sense_in senses i

    -- the initialiser of a name's declarator
    pub record Initial (r init : ℕ) : Type 0 where
      pub declarator : ℕ
      pub outer : outermost_of s r ≡ Some declarator
      pub of_it : initialiser_of s sense declarator ≡ Some init
      pub place : IsPlaced s declarator init
      pub own : IsOwnInitial s senses init
      pub same : own.declarator ≡ declarator

    pub initial : (r init : ℕ) → initialiser_for s sense r ≡ Some init → Initial r init
    initial r init e =
        let (o, outer, of_it) = and_then_some (outermost_of s r) (initialiser_of s sense) init e in
        let place = units_place tokens unit tree tag_number senses cut read o init (found_above s (is_outermost s) (length s.nodes) o (parent_of s r) outer) of_it in
        let own = initialisers_own tokens unit tree tag_number senses cut read are whole init place.above place.initialiser place.parent place.rest in
        let by_it = initialisers_found tokens unit tree tag_number cut read sense o init place.declarator of_it in
        record { declarator = o; outer = outer; of_it = of_it; place = place; own = own; same = some_same (sym own.by_it ∙ by_it) }

    -- what a declaration runs stands in a function's block
    pub record InFunction (x : Core) : Type 0 where
      pub definition : ℕ
      pub is : is_definition s definition ≡ true
      pub own : BlockWith s senses definition x

    pub held : (a : ℕ) (x : Core) → is_a s p_declaration a ≡ true → IsHeld x (sense a) → InFunction x
    held a x is h = by (definition_above s a ((tree_is tokens unit tree read tag_number).defined a is))
      where
        or_first : (b c : Bool) → b ≡ true → (b || c) ≡ true
        or_first true c e = refl
        or_first false c e = cc

        external : (p : ℕ) → is_definition s p ≡ true → is_a s p_external p ≡ true
        external p found = (both (is_a s p_external p) (is_some (child_of s p_block p)) found).0

        by : (p : ℕ) × (is_definition s p ≡ true) × ((p ≡ a) ⊎ Beneath (IsPart s) p a) → InFunction x
        by (p, found, inl same) = absurd (no_both (is_a s p_external a) (subst (λ (k : ℕ). is_a s p_external k ≡ true) same (external p found)) (apart s a p_declaration p_external is refl))
        by (p, found, inr b) = record {
          definition = p;
          is = found;
          own = climb s senses (grown_of tokens unit tree tag_number cut read) are whole (units_hold_parts tokens unit tree tag_number senses cut read are whole) p (external p found) x a b (or_first (is_a s p_declaration a) (is_a s p_statement a || is_a s p_block a) is) h;
        }

    -- an automatic object, by its name
    pub record IsAutomatic (leaf : ℕ) (object : Declares) : Type 0 where
      pub declares : declares_entity s senses leaf ≡ true
      pub declaring : is_declaring s senses leaf ≡ true
      pub name : is_name s leaf ≡ true
      pub entity : entity_of s sense leaf ≡ leaf
      pub unlinked : is_linked s sense leaf ≡ false
      pub storage : storage_of s sense leaf ≡ Automatic
      pub body : object.body ≡ option_and_then (λ i. core_of_sense s senses (sense i)) (initialiser_for s sense leaf)
      pub declaration : ℕ
      pub declared : declaration_of s sense leaf ≡ Some declaration
      pub is_declaration : is_a s p_declaration declaration ≡ true

    module _ (leaf : ℕ) (object : Declares) (auto : object.storage ≡ Automatic) (declares : declares_entity s senses leaf ≡ true) (t : Ctype) (told : declared_as s senses leaf t ≡ object) where
      stored : storage_at s senses leaf ≡ Automatic
      stored = ap (λ (x : Declares). x.storage) told ∙ auto

      is_local : linkage_of s sense leaf ≡ Local
      is_local = local s senses (λ l h. linked.stands_linked s (tree_is tokens unit tree read tag_number) senses are whole l h) leaf (ap lives stored)

      abbrev chosen : Linkage → ℕ
      chosen linkage =
          elim linkage [
            | Internal ↦ first_of s sense (first_of s sense leaf (keep s sense (is_tentative s senses) (of_internal s senses leaf))) (keep s sense (is_definition_at s senses) (of_internal s senses leaf))
            | _ ↦ leaf
          ]

      own_storage : storage_of s sense leaf ≡ Automatic
      own_storage =
          sym (ap (λ (l : Linkage). elim l as (λ _. Storage) [ Internal ↦ (elim (storage_of s sense (representative s senses leaf)) as (λ _. Storage) [ Declared ↦ if declares_function s sense leaf then Declared else Static | other ↦ other ]) | _ ↦ storage_of s sense leaf ]) is_local)
          ∙ stored

      off : (is_parameter s sense leaf ≡ false) × (is_at_file s sense leaf ≡ false)
      off =
          not_at_file (is_parameter s sense leaf) (declares_function s sense leaf) (is_defined s sense leaf) (has_storage s sense word_extern leaf && is_none (initialiser_for s sense leaf)) (is_at_file s sense leaf)
          (has_storage s sense word_static leaf || has_storage s sense word_extern leaf) own_storage

      plain : is_defined s sense leaf ≡ false
      plain = by (declaration_of s sense leaf) refl
        where
          by : (o : Option ℕ) → declaration_of s sense leaf ≡ o → (elim o as (λ _. Bool) [ None ↦ false | Some p ↦ is_a s p_external p && is_some (child_of s p_block p) ]) ≡ false
          by None h = refl
          by (Some p) h =
              let no : is_a s p_external p ≡ false = sym (ap (λ (o : Option ℕ). elim o as (λ _. Bool) [ None ↦ false | Some q ↦ is_a s p_external q ]) h) ∙ off.1 in
              ap (λ (x : Bool). x && is_some (child_of s p_block p)) no

      own_body : object.body ≡ option_and_then (λ i. core_of_sense s senses (sense i)) (initialiser_for s sense leaf)
      own_body =
          ap (λ (x : Declares). x.body) (sym told)
          ∙ (ap (body_at s senses) (ap chosen is_local) ∙ ap (λ (x : Bool). if x then option_and_then (λ i. core_of_sense s senses (sense i)) (block_for s senses leaf) else option_and_then (λ i. core_of_sense s senses (sense i)) (initialiser_for s sense leaf)) plain)

      parts : (is_declaring s senses leaf ≡ true) × ((stands_in_declaration s senses leaf && (not (is_typedef s sense leaf) && nat_eq (entity_of s sense leaf) leaf)) ≡ true)
      parts = both (is_declaring s senses leaf) _ declares

      more : (stands_in_declaration s senses leaf ≡ true) × ((not (is_typedef s sense leaf) && nat_eq (entity_of s sense leaf) leaf) ≡ true)
      more = both (stands_in_declaration s senses leaf) _ parts.1

      declaration_is : (d : ℕ) × (declaration_of s sense leaf ≡ Some d) × (is_a s p_declaration d ≡ true)
      declaration_is = by (declaration_of s sense leaf) refl more.0 off.1 off.0
        where
          pick : (a b c e : Bool) → a ≡ false → c ≡ false → (a || (b || (c && e))) ≡ true → b ≡ true
          pick false true c e x y h = refl
          pick false false false e x y h = cc
          pick true b c e x y h = cc
          pick false false true e x y h = cc

          by : (o : Option ℕ) → declaration_of s sense leaf ≡ o → (elim o as (λ _. Bool) [ None ↦ false | Some p ↦ is_a s p_external p || (is_a s p_declaration p || (is_a s p_parameter p && is_defined_parameter s senses leaf)) ]) ≡ true
              → (elim o as (λ _. Bool) [ None ↦ false | Some p ↦ is_a s p_external p ]) ≡ false → (elim o as (λ _. Bool) [ None ↦ false | Some p ↦ is_a s p_parameter p ]) ≡ false
              → (d : ℕ) × (declaration_of s sense leaf ≡ Some d) × (is_a s p_declaration d ≡ true)
          by None e h file parameter = cc
          by (Some d) e h file parameter = (d, e, pick (is_a s p_external d) (is_a s p_declaration d) (is_a s p_parameter d) (is_defined_parameter s senses leaf) file parameter h)

      is_automatic : IsAutomatic leaf object
      is_automatic = record {
        declares = declares;
        declaring = parts.0;
        name = (both (is_name s leaf) _ parts.0).0;
        entity = eqb-true (entity_of s sense leaf) leaf (both (not (is_typedef s sense leaf)) _ more.1).1;
        unlinked = not_linked (is_internal s sense leaf) (is_linked s sense leaf) is_local;
        storage = own_storage;
        body = own_body;
        declaration = declaration_is.0;
        declared = declaration_is.1;
        is_declaration = declaration_is.2;
      }

    pub automatic : (leaf : ℕ) (object : Declares) → declared_name s senses leaf ≡ Some object → object.storage ≡ Automatic → IsAutomatic leaf object
    automatic leaf object told auto = pick (declares_entity s senses leaf) refl (entity_type s senses leaf) told
      where
        pick : (a : Bool) → declares_entity s senses leaf ≡ a → (o : Option Ctype) → (if a then option_map (declared_as s senses leaf) o else None) ≡ Some object → IsAutomatic leaf object
        pick false declares o h = cc
        pick true declares None h = cc
        pick true declares (Some t) h = is_automatic leaf object auto declares t (some_same h)

    -- the name in a declarator's sense is the one that it declares
    same_leaf : (d o leaf : ℕ) (ds : List Derivation) → is_declaring s senses d ≡ true → outermost_of s d ≡ Some o → sense o ≡ IsDeclarator (Some leaf) ds → leaf ≡ d
    same_leaf d o leaf ds declares outer named =
        let told : (elim (sense o) as (λ _. Bool) [ IsDeclarator n xs ↦ same_length n (Some d) | _ ↦ false ]) ≡ true =
        sym (ap (λ (x : Option ℕ). elim x as (λ _. Bool) [ None ↦ false | Some y ↦ elim (sense y) as (λ _. Bool) [ IsDeclarator n xs ↦ same_length n (Some d) | _ ↦ false ] ]) outer) ∙ (both (is_name s d) _ declares).1 in
        eqb-true leaf d (sym (ap (λ (x : Sense). elim x as (λ _. Bool) [ IsDeclarator n xs ↦ same_length n (Some d) | _ ↦ false ]) named) ∙ told)

    -- the initialiser of an automatic object
    pub record OwnBody (leaf : ℕ) (x : Core) : Type 0 where
      pub init : ℕ
      pub found : initialiser_for s sense leaf ≡ Some init
      pub length_given : Option ℕ
      pub is : sense init ≡ IsInitial x length_given
      pub marks : Marks leaf x
      pub declarator : (o : ℕ) → outermost_of s leaf ≡ Some o → is_a s p_declarator o ≡ true

    pub initialised : (leaf init : ℕ) (object : Declares) → IsAutomatic leaf object → initialiser_for s sense leaf ≡ Some init → (x : Core) × OwnBody leaf x
    initialised leaf init object a found =
        let i = initial leaf init found in
        let same : i.own.leaf ≡ leaf = same_leaf leaf i.declarator i.own.leaf i.own.derives a.declaring i.outer (ap sense (sym i.same) ∙ i.own.named) in (
          i.own.core,
          record {
            init = init;
            found = found;
            length_given = i.own.length_given;
            is = i.own.is;
            marks = (i.own.paths, i.own.kind ∙ ap (λ (k : ℕ). Initialise k i.own.paths) (ap (entity_of s sense) same ∙ a.entity));
            declarator = λ o h. subst (λ (k : ℕ). is_a s p_declarator k ≡ true) (some_same (sym i.outer ∙ h)) i.place.declarator;
          },
        )

    pub body_of : (leaf : ℕ) (object : Declares) (x : Core) → IsAutomatic leaf object → object.body ≡ Some x → OwnBody leaf x
    body_of leaf object x a body = by (initialiser_for s sense leaf) refl (sym a.body ∙ body)
      where
        by : (o : Option ℕ) → initialiser_for s sense leaf ≡ o → option_and_then (λ i. core_of_sense s senses (sense i)) o ≡ Some x → OwnBody leaf x
        by None found h = cc
        by (Some init) found h =
            let own = initialised leaf init object a found in
            let one : own.1.init ≡ init = some_same (sym own.1.found ∙ found) in
            subst (λ (y : Core). OwnBody leaf y) (some_same (sym (ap (core_of_sense s senses) own.1.is) ∙ (ap (λ (k : ℕ). core_of_sense s senses (sense k)) one ∙ h))) own.1

    -- it stands in a function's block
    pub body_stands : (leaf : ℕ) (object : Declares) (x : Core) → IsAutomatic leaf object → OwnBody leaf x → InFunction x
    body_stands leaf object x a own =
        let run = automatic_runs tokens unit tree tag_number senses cut read are whole leaf own.init x own.length_given a.declares a.storage own.declarator own.found own.is in
        held run.declaration x run.is_declaration run.runs
