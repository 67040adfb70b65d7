-- What an initialiser in the rest of a declaration initialises is declared by a name.
use Rattle.std.proofs.Common.{arith, ◌≡◌, ◌<◌, ℕ, ◌&&◌, ◌||◌, Bool, true, false, List, Option, Some, None, take, length, refl, sym, ap, ◌∙◌, subst, ◌⊎◌, inl, inr}
use Rattle.std.specs.Prelude.{is_some, option_and_then, if◌then◌else◌}
use Rattle.c_lexer.specs.declared.Tokens.{Tokens}
use Rattle.c_lexer.specs.Cut.{IsTokens}
use Rattle.c_grammar.specs.declared.trees.Tree.{Tree}
use Rattle.c_grammar.specs.Terminals.{contains}
use Rattle.c_grammar.specs.Productions.{p_external, p_declaration, p_parameter, p_init, p_specs}
use Rattle.c_parser.specs.c_units.Units.{IsUnit}
use Rattle.c_senses.specs.Names.{source_of, numbered, ordinary_at}
use Rattle.c_senses.specs.Tree.{Source, is_a, child_of, children_at, parent_of}
use Rattle.c_senses.specs.World.{World}
use Rattle.c_senses.specs.Sense.{Sense, IsDeclarator, Specified, Derivation, sense_in}
use Rattle.c_senses.specs.Rows.{AreSenses, world_at}
use Rattle.c_senses.specs.Declarators.{is_outermost, declaration_around, specs_of}
use Rattle.c_senses.specs.Entities.{specified, words_go, is_typedef, is_parameter, is_internal, is_linked, declaration_of, entity_of, first_of, internal_among}
use Rattle.c_senses.specs.Initialised.{name_of_declarator}
use Rattle.c_senses.specs.Right.{is_defined_parameter, stands_in_declaration}
use Rattle.parsed_tree_laws.proofs.family_laws.Reading.{units_families}
use Rattle.parsed_tree_laws.proofs.sign_parts.Reading as signs
use Rattle.parsed_tree_laws.proofs.grown_parts.Reading.{units_bring}
use Rattle.declaration_laws.specs.declared_type_laws.declared_leaves.Leaves.{IsDeclaredBy}
use Rattle.declaration_laws.proofs.declared_type_laws.declared_leaves.Climbing.{leaves_declared}
use Rattle.declaration_laws.proofs.declared_type_laws.known_entities.Known.{entities_known}
use Rattle.declaration_laws.proofs.function_laws.passed.definition_laws.linkage_laws.Seen.{some_same, no_both, apart, node_within, parent_holds}
use Rattle.declaration_laws.proofs.function_laws.passed.definition_laws.linkage_laws.Linked as linked
use Rattle.declaration_laws.proofs.function_laws.passed.definition_laws.linkage_laws.Reading.{tree_is}
use Rattle.declaration_laws.proofs.function_laws.passed.definition_laws.single_initialisers.Apart.{stands_outermost}
use Rattle.declaration_laws.proofs.function_laws.passed.definition_laws.own_initialisers.Standing.{initialisers_stand}
use Rattle.declaration_laws.specs.function_laws.passed.definition_laws.earlier_initialisers.Earlier.{StandsDeclaring}
use Rattle.valid_unit_laws.proofs.object_initialiser_laws.passed.internal_name_laws.internal_types.Asked.{declarator_asked}
use Rattle.valid_unit_laws.proofs.object_initialiser_laws.passed.internal_name_laws.internal_types.Initials.{initialised_words}
use Rattle.valid_unit_laws.proofs.body_node_laws.own_initials.Rests.{Place, beside, above, place_of, rest_in}
use Rattle.core_node_laws.specs.literal_initials.Placed.{IsInitialised}
use Rattle.valid_unit_laws.specs.body_node_laws.parts_named.Named.{IsDeclared}
use Rattle.valid_unit_laws.proofs.body_node_laws.parts_named.Owners.{both}
use Rattle.valid_unit_laws.proofs.body_node_laws.parts_named.Roots.{name_in, seen_declarator}
use Rattle.valid_unit_laws.proofs.body_node_laws.parts_named.Linked.{entity_declared}
use Rattle.valid_unit_laws.proofs.body_node_laws.parts_named.Objects.{plain_declared}

same_name : (w : World) (s : Source) (f : ℕ → Sense) (x : Sense) → name_of_declarator w s f x ≡ name_in x
same_name w s f (IsDeclarator name ds) = refl
same_name w s f x = refl

-- what has specifiers has a declaration around it
around_some : (s : Source) (f : ℕ → Sense) (o : Option ℕ) (x : Specified) → specified s f (option_and_then (child_of s p_specs) o) ≡ Some x → (a : ℕ) × (o ≡ Some a)
around_some s f None x e = cc
around_some s f (Some a) x e = (a, refl)

or_left : (a b : Bool) → a ≡ true → (a || b) ≡ true
or_left true b e = refl
or_left false b e = cc

or_right : (a b : Bool) → b ≡ true → (a || b) ≡ true
or_right true b e = refl
or_right false b e = e

either : (a b : Bool) → (a || b) ≡ true → (a ≡ true) ⊎ (b ≡ true)
either true b e = inl refl
either false b e = inr e

module _ (tokens : Tokens) (unit : ℕ) (tree : Tree) (tag_number : ℕ → ℕ) (senses : List Sense) (cut : IsTokens tokens.text.now tokens.list.items) (read : IsUnit tokens unit tree)
    (are : AreSenses (numbered tag_number (source_of tokens tree)) senses) (whole : length senses ≡ length (numbered tag_number (source_of tokens tree)).nodes)
  where
    abbrev s : Source
    s = numbered tag_number (source_of tokens tree)

    abbrev sense : ℕ → Sense
    sense i = sense_in senses i

    abbrev before : ℕ → ℕ → Sense
    before i = sense_in (take i senses)

    abbrev t : linked.Tree s
    t = tree_is tokens unit tree read tag_number

    module _ (d : ℕ) (i : IsInitialised s senses d) where
      abbrev m : ℕ
      m = i.declarator

      abbrev q : ℕ
      q = i.above

      seen : (ds : List Derivation) × (sense m ≡ IsDeclarator (Some i.leaf) ds) × (m < i.at)
      seen = seen_declarator tokens unit tree tag_number senses cut read are whole i.at m i.leaf (sym (same_name (world_at s (take i.at senses) i.at) s (before i.at) (before i.at m)) ∙ i.named)

      few : m < length senses
      few = let inside = node_within s p_init i.at i.is refl in let lt = seen.2 in omega (arith, inside, lt, whole)

      outer : is_outermost s m ≡ true
      outer = stands_outermost s t (units_families tokens unit tree tag_number cut read) (signs.units_bring tokens unit tree tag_number read) (before i.at) i.at m i.is i.by_it

      told : IsDeclaredBy s senses m i.leaf
      told = leaves_declared.by_sense s senses are t.grown (units_bring tokens unit tree tag_number read) m i.leaf seen.0 few outer seen.1

      entity : entity_of s sense i.leaf ≡ d
      entity = let lt = seen.2 in sym (entities_known tokens unit tree tag_number senses cut read i.leaf m i.at told.outermost (omega (arith, lt))).entity ∙ sym i.same

      -- ---- the declaration

      place : Place s t sense i.at m q
      place = let h = place_of s t sense i.at m i.by_it in subst (λ (k : ℕ). Place s t sense i.at m k) (some_same (sym h.1 ∙ i.parent)) h.2

      declaration : (a : ℕ) × (option_and_then (declaration_around s) (parent_of s m) ≡ Some a)
      declaration =
          around_some s (before m) (option_and_then (declaration_around s) (parent_of s m)) told.words
          (sym (ap (λ (o : Option ℕ). specified s (before m) (option_and_then (specs_of s) o)) told.outermost) ∙ told.told)

      abbrev a : ℕ
      a = declaration.0

      of_leaf : declaration_of s sense i.leaf ≡ Some a
      of_leaf = ap (λ (o : Option ℕ). option_and_then (declaration_around s) (option_and_then (parent_of s) o)) told.outermost ∙ declaration.1

      over : contains (children_at s a) q ≡ true
      over = parent_holds s t.grown a q (rest_in s t sense i.at m q a place i.rest declaration.1)

      which : (is_a s p_external a ≡ true) ⊎ (is_a s p_declaration a ≡ true)
      which = either (is_a s p_external a) (is_a s p_declaration a) (t.nested.rests a q over i.rest)

      stands : stands_in_declaration s senses i.leaf ≡ true
      stands =
          ap (λ (o : Option ℕ). elim o as (λ _. Bool) [ None ↦ false | Some p ↦ is_a s p_external p || (is_a s p_declaration p || (is_a s p_parameter p && is_defined_parameter s senses i.leaf)) ]) of_leaf ∙ by which
        where
          by : (is_a s p_external a ≡ true) ⊎ (is_a s p_declaration a ≡ true) → (is_a s p_external a || (is_a s p_declaration a || (is_a s p_parameter a && is_defined_parameter s senses i.leaf))) ≡ true
          by (inl h) = or_left (is_a s p_external a) _ h
          by (inr h) = or_right (is_a s p_external a) _ (or_left (is_a s p_declaration a) _ h)

      no_parameter : is_parameter s sense i.leaf ≡ false
      no_parameter = ap (λ (o : Option ℕ). elim o as (λ _. Bool) [ None ↦ false | Some p ↦ is_a s p_parameter p ]) of_leaf ∙ by which
        where
          by : (is_a s p_external a ≡ true) ⊎ (is_a s p_declaration a ≡ true) → is_a s p_parameter a ≡ false
          by (inl h) = apart s a p_external p_parameter h refl
          by (inr h) = apart s a p_declaration p_parameter h refl

      -- ---- it is no typedef name

      declaring : StandsDeclaring s m
      declaring = by place
        where
          by : Place s t sense i.at m q → StandsDeclaring s m
          by (beside holds is) = (q, is, holds, inl i.rest)
          by (above b up holds is) = (b, is, holds, inr (t.nested.rests b q up i.rest))

      untyped : is_typedef s sense i.leaf ≡ false
      untyped =
          (initialised_words (world_at s (take m senses) m) s (before m) i.leaf
          (subst (λ (o : Option ℕ). words_go (world_at s (take m senses) m) s (before m) (is_some o) i.leaf ≡ true) (initialisers_stand tokens unit tree tag_number cut read (before i.at) (before m) i.at q m i.is i.parent i.rest i.by_it)
          (declarator_asked s t.grown senses are m i.leaf told few declaring outer).words)).0

      pub declared : IsDeclared s senses d
      declared = by (is_linked s sense i.leaf) refl
        where
          by : (b : Bool) → is_linked s sense i.leaf ≡ b → IsDeclared s senses d
          by true e = subst (IsDeclared s senses) entity (entity_declared tokens unit tree tag_number senses cut read are whole i.leaf e)
          by false e = own (is_internal s sense i.leaf) refl
            where
              own : (b : Bool) → is_internal s sense i.leaf ≡ b → IsDeclared s senses d
              own true on = absurd (no_both (is_linked s sense i.leaf) (both (is_linked s sense i.leaf) _ on).0 e)
              own false off =
                  let h = plain_declared tokens unit tree tag_number senses cut read are whole i.leaf m told stands untyped off no_parameter in
                  subst (IsDeclared s senses) (sym (plain off) ∙ entity) h
                where
                  plain : is_internal s sense i.leaf ≡ false → entity_of s sense i.leaf ≡ i.leaf
                  plain h = ap (λ (b : Bool). if b then first_of s sense i.leaf (internal_among s sense s.declared.ordinary (ordinary_at s i.leaf)) else i.leaf) h
