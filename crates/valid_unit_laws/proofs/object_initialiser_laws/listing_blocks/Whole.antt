-- The block or `for` statement in which an automatic object is declared lists it.
use Rattle.std.proofs.Common.{arith, ◌≡◌, ◌<◌, ◌||◌, ◌&&◌, nat_eq, ℕ, zero, suc, Bool, true, false, List, [], ◌∷◌, Option, Some, None, length, slice_get, refl, sym, ap, ◌∙◌, subst, ◌⊎◌, inl, inr}
use Rattle.std.specs.Prelude.{is_some, option_and_then, if◌then◌else◌}
use Rattle.c_lexer.specs.declared.Tokens.{Tokens}
use Rattle.c_lexer.specs.Cut.{IsTokens}
use Rattle.c_grammar.specs.declared.trees.Tree.{Tree}
use Rattle.c_grammar.specs.Productions.{p_external, p_rest, p_field, p_declaration, p_asm_name, p_declarator, p_abstract, p_either, p_init, p_block, p_statement}
use Rattle.c_grammar.specs.Reads.{leaf}
use Rattle.c_grammar.specs.Words.{word_for}
use Rattle.c_grammar.specs.Terminals.{contains}
use Rattle.c_parser.specs.c_units.Units.{IsUnit}
use Rattle.core_tree.specs.declared.node.NodeKind.TheVariants.{Block}
use Rattle.c_consts.specs.Core.{Core}
use Rattle.c_senses.specs.Names.{source_of, numbered}
use Rattle.c_senses.specs.Tree.{Source, is_a, is_leaf, has_word, place_at, children_at, child_of, parent_of, above_within}
use Rattle.c_senses.specs.Given.{Given, Fits}
use Rattle.c_senses.specs.World.{World}
use Rattle.c_senses.specs.Declarators.{is_declarator, is_outermost, declaration_around}
use Rattle.c_senses.specs.Statements.{statement, objects_declared, objects_in, cores_in, statement_row}
use Rattle.c_senses.specs.Rows.{AreSenses}
use Rattle.c_senses.specs.Sense.{Sense, IsCore, IsDeclarator, Derivation, sense_in}
use Rattle.parsed_tree_laws.specs.family_laws.Families.{IsChild}
use Rattle.parsed_tree_laws.proofs.grown_parts.Reading.{units_bring}
use Rattle.parsed_tree_laws.proofs.span_laws.Whole.{units_are_spanned}
use Rattle.core_node_laws.proofs.near_nodes.Giving.{Gives}
use Rattle.declaration_laws.specs.declared_type_laws.owner_laws.passed.definition_laws.Definitions.{InDefinition, itself, below}
use Rattle.declaration_laws.specs.declared_type_laws.owner_laws.passed.definition_laws.scope_laws.Beneath.{Beneath, part, deeper}
use Rattle.declaration_laws.specs.declared_type_laws.owner_laws.passed.definition_laws.scope_laws.Scoped.{IsPart}
use Rattle.declaration_laws.proofs.declared_type_laws.owner_laws.passed.definition_laws.scope_laws.Tree.{further}
use Rattle.core_node_laws.specs.standing_laws.Standing.{IsGrown}
use Rattle.core_node_laws.proofs.standing_laws.Climbing.{in_list, list_in, child_inside}
use Rattle.core_node_laws.proofs.standing_laws.Descending.{F, W, row_there, same_given, sense_before}
use Rattle.declaration_laws.proofs.declared_type_laws.owner_laws.Whole.{grown_of}
use Rattle.declaration_laws.proofs.declared_type_laws.owner_laws.passed.definition_laws.linkage_laws.Seen.{some_same, none_some, no_both, apart, parent_holds}
use Rattle.declaration_laws.proofs.declared_type_laws.owner_laws.passed.definition_laws.linkage_laws.Linked as linked
use Rattle.declaration_laws.proofs.declared_type_laws.owner_laws.passed.definition_laws.linkage_laws.Reading.{tree_is}
use Rattle.valid_unit_laws.specs.object_initialiser_laws.internal_name_laws.passed.declared_type_laws.declared_leaves.Leaves.{IsNamed, Own, Inner, IsDeclaredBy}
use Rattle.valid_unit_laws.proofs.object_initialiser_laws.internal_name_laws.passed.declared_type_laws.declared_leaves.Climbing.{leaves_declared}
use Rattle.declaration_laws.proofs.declared_type_laws.owner_laws.held_parts.Declarations.{for_declarations}
use Rattle.declaration_laws.proofs.declared_type_laws.owner_laws.run_initialisers.Shapes.{rest_last}
use Rattle.valid_unit_laws.specs.object_initialiser_laws.block_uses.Uses.{OpensOwn, DeclaredIn}
use Rattle.valid_unit_laws.specs.object_initialiser_laws.listing_blocks.Listing.{IsListedBy, ObjectsAreListed}
use Rattle.valid_unit_laws.proofs.object_initialiser_laws.listing_blocks.Parts.{no_field, plain_declarator}
use Rattle.valid_unit_laws.proofs.object_initialiser_laws.listing_blocks.Automatic.{IsAutomatic, automatic_name}
use Rattle.valid_unit_laws.proofs.object_initialiser_laws.listing_blocks.Rows.{in_declaration, in_its_rest, in_block, SenseLists, for_statement}

-- what is found above passes
found_above : (s : Source) (test : ℕ → Bool) (fuel d : ℕ) (o : Option ℕ) → above_within s test fuel o ≡ Some d → test d ≡ true
found_above s test zero d o e = cc
found_above s test (suc fuel) d None e = cc
found_above s test (suc fuel) d (Some p) e = by (test p) refl e (λ f. found_above s test fuel d (parent_of s p) f)
  where
    by : (b : Bool) → test p ≡ b → (if b then Some p else above_within s test fuel (parent_of s p)) ≡ Some d → (above_within s test fuel (parent_of s p) ≡ Some d → test d ≡ true) → test d ≡ true
    by true is e later = ap test (sym (some_same e)) ∙ is
    by false is e later = later e

-- a declarator's sense is one of the list
declarator_within : (xs : List Sense) (m d : ℕ) (ds : List Derivation) → sense_in xs m ≡ IsDeclarator (Some d) ds → m < length xs
declarator_within [] zero d ds e = cc
declarator_within [] (suc m) d ds e = cc
declarator_within (x ∷ xs) zero d ds e = omega arith
declarator_within (x ∷ xs) (suc m) d ds e = let lt = declarator_within xs m d ds e in omega (arith, lt)

and_first : (a b : Bool) → (a && b) ≡ true → a ≡ true
and_first true b e = refl
and_first false b e = cc

module _ (tokens : Tokens) (unit : ℕ) (tree : Tree) (tag_number : ℕ → ℕ) (senses : List Sense) (cut : IsTokens tokens.text.now tokens.list.items) (is : IsUnit tokens unit tree) where
  abbrev s : Source
  s = numbered tag_number (source_of tokens tree)

  abbrev t : linked.Tree s
  t = tree_is tokens unit tree is tag_number

  grown : IsGrown s
  grown = grown_of tokens unit tree tag_number cut is

  module _ (are : AreSenses s senses) (whole : length senses ≡ length s.nodes) (name : ℕ) (auto : IsAutomatic s senses name) where
    outer : is_outermost s auto.declarator ≡ true
    outer = found_above s (is_outermost s) (length s.nodes) auto.declarator (parent_of s name) auto.outermost

    declares : is_declarator s auto.declarator ≡ true
    declares = and_first (is_declarator s auto.declarator) _ outer

    told : IsDeclaredBy s senses auto.declarator name
    told = leaves_declared.by_sense s senses are t.grown (units_bring tokens unit tree tag_number is) auto.declarator name auto.derives (declarator_within senses auto.declarator name auto.derives auto.sensed) outer auto.sensed

    named_below : (m : ℕ) → IsNamed s m name → Beneath (IsPart s) m name
    named_below m (Own child named) = part child
    named_below m (Inner c child inner named) = further (IsPart s) m c name (part child) (named_below c named)

    -- the declarator is a part of the declaration or of its rest
    abbrev Place : Type 0
    Place = IsPart s auto.declaration auto.declarator ⊎ ((r : ℕ) × IsPart s auto.declaration r × (is_a s p_rest r ≡ true) × IsPart s r auto.declarator)

    place : Place
    place = by (parent_of s auto.declarator) refl (sym (ap (λ (q : Option ℕ). option_and_then (declaration_around s) (option_and_then (parent_of s) q)) auto.outermost) ∙ auto.around)
      where
        pick : (p : ℕ) → IsPart s p auto.declarator → (x y : Bool) → is_a s p_rest p ≡ x → is_a s p_field p ≡ y → (if x || y then parent_of s p else Some p) ≡ Some auto.declaration → Place
        pick p child true y ex ey e = inr (p, parent_holds s t.grown auto.declaration p e, ex, child)
        pick p child false true ex ey e = no_field tokens unit tree tag_number is auto.declaration p auto.declares (parent_holds s t.grown auto.declaration p e) ey
        pick p child false false ex ey e = inl (subst (λ (k : ℕ). IsPart s k auto.declarator) (some_same e) child)

        by : (q : Option ℕ) → parent_of s auto.declarator ≡ q → option_and_then (declaration_around s) q ≡ Some auto.declaration → Place
        by None up e = absurd (none_some e)
        by (Some p) up e = pick p (parent_holds s t.grown p auto.declarator up) (is_a s p_rest p) (is_a s p_field p) refl refl e

    plain : is_a s p_declarator auto.declarator ≡ true
    plain = by place
      where
        rest : (c : ℕ) → is_declarator s c ≡ true → (is_leaf s c || (is_a s p_asm_name c || (is_a s p_declarator c || is_a s p_init c))) ≡ true → is_a s p_declarator c ≡ true
        rest c h k = pick (is_leaf s c) (is_a s p_asm_name c) (is_a s p_declarator c) (is_a s p_init c) refl refl refl refl k
          where
            never : {X : Type 0} (q : ℕ) → is_a s q c ≡ true → nat_eq q p_declarator ≡ false → nat_eq q p_abstract ≡ false → nat_eq q p_either ≡ false → X
            never q e x y z = off (is_a s p_declarator c) (is_a s p_abstract c) (is_a s p_either c) (apart s c q p_declarator e x) (apart s c q p_abstract e y) (apart s c q p_either e z) h
              where
                off : {X : Type 0} (a b d : Bool) → a ≡ false → b ≡ false → d ≡ false → (a || b || d) ≡ true → X
                off false false false x y z h = cc
                off true b d x y z h = cc
                off false true d x y z h = cc
                off false false true x y z h = cc

            pick : (a b d e : Bool) → is_leaf s c ≡ a → is_a s p_asm_name c ≡ b → is_a s p_declarator c ≡ d → is_a s p_init c ≡ e → (a || (b || (d || e))) ≡ true → d ≡ true
            pick true b d e ea eb ed ee k = never leaf ea refl refl refl
            pick false true d e ea eb ed ee k = never p_asm_name eb refl refl refl
            pick false false true e ea eb ed ee k = refl
            pick false false false true ea eb ed ee k = never p_init ee refl refl refl
            pick false false false false ea eb ed ee k = cc

        by : Place → is_a s p_declarator auto.declarator ≡ true
        by (inl child) = plain_declarator tokens unit tree tag_number is auto.declaration auto.declarator auto.declares child declares
        by (inr (r, child, is_rest, inner)) = let k = in_list (children_at s r) auto.declarator inner in rest auto.declarator declares ((units_are_spanned tokens unit tree tag_number is).rests r k.0 auto.declarator is_rest k.1)

    -- the declaration lists it, in the row of what it stands in
    module _ (b : ℕ) (child : IsPart s b auto.declaration) where
      abbrev f : ℕ → Sense
      f = F s senses grown are whole b

      abbrev w : World
      w = W s senses grown are whole b

      inside : b < length senses
      inside = let k = in_list (children_at s b) auto.declaration child in let lt = child_inside (slice_get s.nodes b) s.nodes b k.0 auto.declaration refl k.1 in omega (arith, lt, whole)

      declares_it : contains (objects_declared w s f auto.declaration) name ≡ true
      declares_it = by place
        where
          before : auto.declarator < b → f auto.declarator ≡ IsDeclarator (Some name) auto.derives
          before lt = sense_before s senses grown are whole b auto.declarator lt ∙ auto.sensed

          by : Place → contains (objects_declared w s f auto.declaration) name ≡ true
          by (inl part_is) =
              let one = t.grown.before auto.declaration auto.declarator part_is in
              let two = t.grown.before b auto.declaration child in
              in_declaration w s f name auto.declaration auto.declarator auto.derives part_is plain (before (omega (arith, one, two))) (auto.always w b)
          by (inr (r, part_is, is_rest, inner)) =
              let one = t.grown.before r auto.declarator inner in
              let more = t.grown.before auto.declaration r part_is in
              let two = t.grown.before b auto.declaration child in
              let k = in_list (children_at s auto.declaration) r part_is in
              in_its_rest w s f name auto.declaration r auto.declarator auto.derives (rest_last tokens unit tree tag_number is auto.declaration k.0 r auto.declares k.1 is_rest) is_rest inner plain (before (omega (arith, one, more, two))) (auto.always w b)

      declared : DeclaredIn s b name
      declared = record { declaration = auto.declaration; child = child; is = auto.declares; declarator = auto.declarator; place = place; outermost = auto.outermost; declares = declares; named = told.named }

      above : Beneath (IsPart s) b name
      above = by place
        where
          down : Beneath (IsPart s) auto.declarator name
          down = named_below auto.declarator told.named

          by : Place → Beneath (IsPart s) b name
          by (inl part_is) = further (IsPart s) b auto.declarator name (deeper (part child) part_is) down
          by (inr (r, part_is, is_rest, inner)) = further (IsPart s) b auto.declarator name (deeper (deeper (part child) part_is) inner) down

      -- a block
      block_lists : is_a s p_block b ≡ true → (OpensOwn s b ⊎ ((is_a s p_block b ≡ true) × ((p : ℕ) × IsPart s p b × (is_a s p_external p ≡ true)))) → IsListedBy s senses name
      block_lists block stands =
          let core : Core = statement (Block (objects_in w s f (children_at s b))) (place_at s b) (cores_in w s f (children_at s b)) in
          let own : Fits (IsCore core) ≡ Fits (sense_in senses b) = row_there s senses grown are whole b p_block inside block in
          record {
            node = b;
            is = ap (λ (x : Bool). x || is_a s p_statement b) block;
            place = stands;
            declared = declared;
            above = above;
            core = core;
            sensed = sym (same_given (IsCore core) (sense_in senses b) own);
            lists = in_block w s f name (children_at s b) auto.declaration child auto.declares declares_it;
          }

      -- a `for` statement
      for_lists : is_a s p_statement b ≡ true → IsListedBy s senses name
      for_lists kind = by (sense_in senses b) refl row
        where
          k : IsChild s b auto.declaration
          k = in_list (children_at s b) auto.declaration child

          first : (word parenthesis : ℕ) × (rest : List ℕ) × (children_at s b ≡ word ∷ parenthesis ∷ auto.declaration ∷ rest) × (has_word s word_for word ≡ true)
          first = (for_declarations tokens unit tree tag_number is).first b auto.declaration kind k auto.declares

          row : SenseLists w s f name (sense_in senses b)
          row =
              subst (λ (g : Given Sense). Gives (SenseLists w s f name) g) (row_there s senses grown are whole b p_statement inside kind)
              (subst (λ (l : List ℕ). Gives (SenseLists w s f name) (statement_row w s f b l)) (sym first.3) (for_statement w s f name b first.0 first.1 auto.declaration first.2 first.4 auto.declares declares_it))

          or_right : (x y : Bool) → y ≡ true → (x || y) ≡ true
          or_right true y e = refl
          or_right false y e = e

          by : (x : Sense) → sense_in senses b ≡ x → SenseLists w s f name x → IsListedBy s senses name
          by (IsCore core) e h = record {
            node = b;
            is = or_right (is_a s p_block b) (is_a s p_statement b) kind;
            place = inl (inr (kind, (first.0, first.1 ∷ auto.declaration ∷ first.2, first.3, first.4)));
            declared = declared;
            above = above;
            core = core;
            sensed = e;
            lists = h;
          }
          by x e h = absurd h

      -- what it stands in
      in_definition : InDefinition s b → (is_a s p_block b || is_a s p_statement b) ≡ true → IsListedBy s senses name
      in_definition stands kind = pick (is_a s p_block b) (is_a s p_statement b) refl refl kind
        where
          of_block : is_a s p_block b ≡ true → InDefinition s b → IsListedBy s senses name
          of_block block (itself h) = absurd (no_both (is_a s p_external b) (and_first (is_a s p_external b) (is_some (child_of s p_block b)) h) (apart s b p_block p_external block refl))
          of_block block (below {p = a} up more) = by (is_a s p_external a) (is_a s p_statement a) refl refl (t.nested.blocks a b over block)
            where
              over : IsPart s a b
              over = list_in (children_at s a) up.0 b up.1

              by : (x y : Bool) → is_a s p_external a ≡ x → is_a s p_statement a ≡ y → (x || y) ≡ true → IsListedBy s senses name
              by true y ex ey h = block_lists block (inr (block, (a, over, ex)))
              by false true ex ey h = block_lists block (inl (inl (block, (a, over, ey))))
              by false false ex ey h = cc

          pick : (x y : Bool) → is_a s p_block b ≡ x → is_a s p_statement b ≡ y → (x || y) ≡ true → IsListedBy s senses name
          pick true y ex ey h = of_block ex stands
          pick false true ex ey h = for_lists ey
          pick false false ex ey h = cc

    listed : IsListedBy s senses name
    listed = by (t.defined auto.declaration auto.declares)
      where
        by : InDefinition s auto.declaration → IsListedBy s senses name
        by (itself h) = absurd (no_both (is_a s p_external auto.declaration) (and_first (is_a s p_external auto.declaration) (is_some (child_of s p_block auto.declaration)) h) (apart s auto.declaration p_declaration p_external auto.declares refl))
        by (below {p = b} up more) =
            let over = list_in (children_at s b) up.0 auto.declaration up.1 in
            in_definition b over more (t.nested.declarations b auto.declaration over auto.declares)

pub objects_are_listed : ObjectsAreListed
objects_are_listed tokens unit tree tag_number senses cut is are whole name declares auto =
    listed tokens unit tree tag_number senses cut is are whole name (automatic_name (numbered tag_number (source_of tokens tree)) senses name declares auto)
