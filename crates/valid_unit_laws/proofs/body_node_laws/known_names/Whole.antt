-- A name without linkage in the trees of bodies is one that is declared.
use Rattle.std.proofs.Common.{arith, ◌≡◌, ◌<◌, ◌+◌, ◌==◌, ◌||◌, ◌&&◌, not, nat_eq, eq-eqb, ℕ, zero, suc, Bool, true, false, cond, List, [], ◌∷◌, length, take, slice_get, Option, Some, None, refl, sym, ap, ◌∙◌, subst, ◌⊎◌, inl, inr}
use Rattle.std.specs.Prelude.{option_and_then, option_map, is_some, if◌then◌else◌}
use Rattle.std.specs.List.{find, list_any}
use Rattle.std.proofs.lemmas.Bool.{eqb-true}
use Rattle.pta_base.specs.declared.kind.Kind.TheVariants.{Operand}
use Rattle.c_lexer.specs.declared.Tokens.{Tokens}
use Rattle.c_lexer.specs.Cut.{IsTokens}
use Rattle.c_grammar.specs.declared.trees.Tree.{Tree as SyntaxTree}
use Rattle.c_grammar.specs.Productions.{p_external, p_rest, p_declaration, p_specs, p_field, p_parameter, p_declarator, p_abstract, p_either, p_enumerator, p_suffix, p_block, p_statement}
use Rattle.c_grammar.specs.Terminals.{contains}
use Rattle.c_parser.specs.c_units.Units.{IsUnit}
use Rattle.c_mentions.specs.Syntax as syntax
use Rattle.c_mentions.specs.Declarators.{declarator, is_list}
use Rattle.c_mentions.specs.Roles.{list_of, suffix_of}
use Rattle.c_scope.specs.declared.kinds.Declared.{Declared}
use Rattle.c_types.specs.Trees.{Ctype}
use Rattle.core_tree.specs.declared.node.Linkage.{Linkage}
use Rattle.core_tree.specs.declared.node.Linkage.TheVariants.{External, Internal, Local}
use Rattle.core_tree.specs.declared.node.NodeKind.TheVariants.{Named, FunctionName}
use Rattle.c_consts.specs.Core.{Core, kind_of}
use Rattle.c_senses.specs.Names.{source_of, names_of, numbered, ordinary_at, entry_of}
use Rattle.c_senses.specs.Tree.{Source, is_a, is_name, production_at, children_at, child_of, parent_of, paired, first_where}
use Rattle.c_senses.specs.Given.{Given, Fits, given_if}
use Rattle.c_senses.specs.World.{World, same_length}
use Rattle.c_senses.specs.Sense.{Sense, Nothing, IsDeclarator, IsSpecified, IsParameter, Parameter, Specified, sense_in}
use Rattle.c_senses.specs.Rows.{AreSenses, world_at}
use Rattle.c_senses.specs.Declarators.{is_declarator, is_outermost, outermost_of, declaration_around, specs_of, derived, adjusted, parameter_of, parameter_fits, specified_at, sense_of_child, is_defined_list, is_definition}
use Rattle.c_senses.specs.Entities.{is_typedef, is_parameter, is_internal, is_linked, linkage_of, declaration_of, specified, specified_of, derived_type, own_type, length_given_by, parameter_type, first_of, internal_among, initialiser_for, with_length, entity_of}
use Rattle.c_senses.specs.Right.{declared_as, declared_name, declares_entity, is_declaring, is_defined_parameter, stands_in_declaration, entity_type, internal_type}
use Rattle.c_senses.specs.Right as right
use Rattle.core_node_laws.specs.built_unit_laws.built_laws.Placed.{IsInBody}
use Rattle.declaration_laws.specs.declared_type_laws.declared_leaves.Leaves.{IsNamed, Own, Inner, IsDeclaredBy}
use Rattle.declaration_laws.proofs.declared_type_laws.declared_leaves.Climbing.{leaves_declared}
use Rattle.parsed_tree_laws.specs.grown_parts.Parts.{IsBrought}
use Rattle.parsed_tree_laws.proofs.grown_parts.Reading.{units_bring}
use Rattle.declaration_laws.specs.name_order.Order.{declaring, IsNameOf, Declares, Enumerates, Names, Rises, IsOrdered}
use Rattle.declaration_laws.specs.name_order.Order as order
use Rattle.declaration_laws.proofs.name_order.Ordered.{units_ordered}
use Rattle.declaration_laws.specs.function_laws.passed.definition_laws.scope_laws.Beneath.{Beneath}
use Rattle.declaration_laws.specs.function_laws.passed.definition_laws.scope_laws.Scoped.{IsPart}
use Rattle.declaration_laws.proofs.function_laws.passed.definition_laws.parameter_lists.Whole.{parameters_listed}
use Rattle.declaration_laws.proofs.function_laws.passed.definition_laws.linkage_laws.Seen.{nodes, node_has, some_same, none_some, no_both, parent_is, parent_holds, apart, production_is, production_same, children_are}
use Rattle.declaration_laws.proofs.function_laws.passed.definition_laws.linkage_laws.Linked as linked
use Rattle.declaration_laws.proofs.function_laws.passed.definition_laws.linkage_laws.Reading.{tree_is}
use Rattle.declaration_laws.proofs.function_laws.passed.definition_laws.function_definitions.Shapes.{Heads}
use Rattle.declaration_laws.proofs.function_laws.passed.definition_laws.function_definitions.Reading.{heads}
use Rattle.declaration_laws.proofs.function_laws.passed.definition_laws.function_definitions.Defining as defining
use Rattle.declaration_laws.proofs.function_laws.passed.definition_laws.function_definitions.Sensed as sensed
use Rattle.declaration_laws.proofs.function_laws.passed.definition_laws.function_definitions.Mentioned as says
use Rattle.valid_unit_laws.specs.body_node_laws.known_names.Known.{NamesKnown}
use Rattle.valid_unit_laws.proofs.body_node_laws.known_names.Uses.{IsParameterIn, stays}
use Rattle.valid_unit_laws.proofs.body_node_laws.known_names.Lists.{list_defined}
use Rattle.valid_unit_laws.proofs.body_node_laws.known_names.Trees.{IsEntity, always, beside}

both_true : (a b : Bool) → a ≡ true → b ≡ true → (a && b) ≡ true
both_true true true e f = refl
both_true true false e f = cc
both_true false b e f = cc

or_right : (a b : Bool) → b ≡ true → (a || b) ≡ true
or_right true b e = refl
or_right false b e = e

or_left : (a b : Bool) → a ≡ true → (a || b) ≡ true
or_left true b e = refl
or_left false b e = cc

at_index : (list : List ℕ) (x : ℕ) → contains list x ≡ true → (k : ℕ) × (slice_get list k ≡ Some x)
at_index [] x h = cc
at_index (y ∷ list) x h = by (nat_eq y x) refl h (λ more. at_index list x more)
  where
    by : (b : Bool) → nat_eq y x ≡ b → (b || contains list x) ≡ true → (contains list x ≡ true → (k : ℕ) × (slice_get list k ≡ Some x)) → (k : ℕ) × (slice_get (y ∷ list) k ≡ Some x)
    by true e h later = (0, ap Some (eqb-true y x e))
    by false e h later = let m = later h in (suc m.0, m.1)

rises_at : (s : Source) (low high : ℕ) (ds : List Declared) → Rises s low high ds → (leaf : ℕ) (y : Declared) → entry_of ds leaf ≡ Some y → (m : ℕ) × Declares s m leaf
rises_at s low high [] h leaf y e = cc
rises_at s low high (x ∷ ds) h leaf y e = by (nat_eq x.node leaf) refl e (λ f. rises_at s (h.0 + 1) high ds h.3 leaf y f)
  where
    by : (b : Bool) → nat_eq x.node leaf ≡ b → cond b (Some x) (entry_of ds leaf) ≡ Some y → (entry_of ds leaf ≡ Some y → (m : ℕ) × Declares s m leaf) → (m : ℕ) × Declares s m leaf
    by true same f later = (h.0, subst (λ (k : ℕ). Declares s h.0 k) (eqb-true x.node leaf same) h.2)
    by false other f later = later f

form_declares : (s : Source) (m : ℕ) → (is_a s p_declarator m || is_a s p_either m) ≡ true → is_declarator s m ≡ true
form_declares s m h = by (is_a s p_declarator m) (is_a s p_abstract m) (is_a s p_either m) h
  where
    by : (a b c : Bool) → (a || c) ≡ true → (a || b || c) ≡ true
    by true b c k = refl
    by false true c k = refl
    by false false c k = k

name_in : (s : Source) (m leaf : ℕ) → IsNameOf s m leaf → IsNamed s m leaf
name_in s m leaf (order.Own k named) = Own k named
name_in s m leaf (order.Inner {c = c} k is more) = Inner c k (form_declares s c is) (name_in s c leaf more)

named_name : (s : Source) (m leaf : ℕ) → IsNamed s m leaf → is_name s leaf ≡ true
named_name s m leaf (Own child name) = name
named_name s m leaf (Inner c child is more) = named_name s c leaf more

-- what a production in which names are declared is
abbrev pub IsDeclaringPart : Source → ℕ → Type 0
IsDeclaringPart s p = (is_a s p_external p ≡ true) ⊎ ((is_a s p_rest p ≡ true) ⊎ ((is_a s p_declaration p ≡ true) ⊎ (is_a s p_parameter p ≡ true)))

-- ---- small facts

and_false : (a b : Bool) → a ≡ false → (a && b) ≡ false
and_false false b e = refl
and_false true b e = cc

any_found : (test : ℕ → Bool) (xs : List ℕ) → list_any test xs ≡ true → (c : ℕ) × (contains xs c ≡ true) × (test c ≡ true)
any_found test [] e = cc
any_found test (x ∷ xs) e = by (test x) refl e (λ f. any_found test xs f)
  where
    by : (b : Bool) → test x ≡ b → (b || list_any test xs) ≡ true → (list_any test xs ≡ true → (c : ℕ) × (contains xs c ≡ true) × (test c ≡ true)) → (c : ℕ) × (contains (x ∷ xs) c ≡ true) × (test c ≡ true)
    by true is f more = (x, or_left (nat_eq x x) _ (eq-eqb x x refl), is)
    by false is f more = let m = more f in (m.0, or_right (nat_eq x m.0) _ m.1, m.2)

first_some : (test : ℕ → Bool) (xs : List ℕ) (c : ℕ) → contains xs c ≡ true → test c ≡ true → is_some (first_where test xs) ≡ true
first_some test [] c h e = cc
first_some test (x ∷ xs) c h e = by (test x) refl (nat_eq x c) refl h (λ f. first_some test xs c f e)
  where
    by : (b : Bool) → test x ≡ b → (a : Bool) → nat_eq x c ≡ a → (a || contains xs c) ≡ true → (contains xs c ≡ true → is_some (first_where test xs) ≡ true) → is_some (if b then Some x else first_where test xs) ≡ true
    by true is a same f more = refl
    by false is true same f more = absurd (no_both (test x) (ap test (eqb-true x c same) ∙ e) is)
    by false is false same f more = more f

taken : (xs : List Sense) (q c : ℕ) → (sense_in (take q xs) c ≡ Nothing) ⊎ (sense_in (take q xs) c ≡ sense_in xs c)
taken [] zero c = inl refl
taken [] (suc q) c = inl refl
taken (x ∷ xs) zero c = inl refl
taken (x ∷ xs) (suc q) zero = inr refl
taken (x ∷ xs) (suc q) (suc c) = taken xs q c

declaring_one : (s : Source) (p : ℕ) → contains declaring (production_at s p) ≡ true → IsDeclaringPart s p
declaring_one s p h = by (is_a s p_external p) (is_a s p_rest p) (is_a s p_declaration p) (is_a s p_parameter p) refl refl refl refl (swap h)
  where
    one : (q r : ℕ) (b : Bool) → nat_eq r q ≡ b → nat_eq q r ≡ b
    one q r true e = eq-eqb q r (sym (eqb-true r q e))
    one q r false e = turn (nat_eq q r) refl
      where
        turn : (b : Bool) → nat_eq q r ≡ b → b ≡ false
        turn true f = absurd (no_both (nat_eq r q) (eq-eqb r q (sym (eqb-true q r f))) e)
        turn false f = refl

    same : (q : ℕ) → nat_eq q (production_at s p) ≡ is_a s q p
    same q = one q (production_at s p) (nat_eq (production_at s p) q) refl

    swap : contains declaring (production_at s p) ≡ true → (is_a s p_external p || (is_a s p_rest p || (is_a s p_declaration p || (is_a s p_parameter p || false)))) ≡ true
    swap h =
        sym (ap (λ (x : Bool). x || (nat_eq p_rest (production_at s p) || (nat_eq p_declaration (production_at s p) || (nat_eq p_parameter (production_at s p) || false)))) (same p_external)
        ∙ (ap (λ (x : Bool). is_a s p_external p || (x || (nat_eq p_declaration (production_at s p) || (nat_eq p_parameter (production_at s p) || false)))) (same p_rest)
        ∙ (ap (λ (x : Bool). is_a s p_external p || (is_a s p_rest p || (x || (nat_eq p_parameter (production_at s p) || false)))) (same p_declaration)
        ∙ ap (λ (x : Bool). is_a s p_external p || (is_a s p_rest p || (is_a s p_declaration p || (x || false)))) (same p_parameter)))) ∙ h

    by : (a b c d : Bool) → is_a s p_external p ≡ a → is_a s p_rest p ≡ b → is_a s p_declaration p ≡ c → is_a s p_parameter p ≡ d → (a || (b || (c || (d || false)))) ≡ true → IsDeclaringPart s p
    by true b c d e f g h k = inl e
    by false true c d e f g h k = inr (inl f)
    by false false true d e f g h k = inr (inr (inl g))
    by false false false true e f g h k = inr (inr (inr h))
    by false false false false e f g h k = cc

-- what declares names directly is no declarator
no_form : (q : ℕ) → contains declaring q ≡ true → ((q == p_declarator || q == p_abstract) || q == p_either) ≡ false
no_form q h = let found = at_index declaring q h in by found.0 found.1
  where
    at : (r : ℕ) → ◌≡◌ {A = Option ℕ} (Some r) (Some q) → ((r == p_declarator || r == p_abstract) || r == p_either) ≡ false → ((q == p_declarator || q == p_abstract) || q == p_either) ≡ false
    at r e k = subst (λ (x : ℕ). ((x == p_declarator || x == p_abstract) || x == p_either) ≡ false) (some_same e) k

    by : (j : ℕ) → slice_get declaring j ≡ Some q → ((q == p_declarator || q == p_abstract) || q == p_either) ≡ false
    by zero e = at p_external e refl
    by (suc zero) e = at p_rest e refl
    by (suc (suc zero)) e = at p_declaration e refl
    by (suc (suc (suc zero))) e = at p_parameter e refl
    by (suc (suc (suc (suc j)))) e = cc

-- a parameter's row gives a parameter
parameter_told : (w : World) (s : Source) (f : ℕ → Sense) (at : ℕ) (o : Option Ctype) (x y : Sense) → parameter_of w s f at o x ≡ Fits y → (z : Parameter) × (y ≡ IsParameter z)
parameter_told w s f at (Some base) (IsDeclarator name ds) y e = by (parameter_fits w s f at (record { name = name; type = adjusted (derived ds base) })) e
  where
    fits_same : {a b : Sense} → ◌≡◌ {A = Given Sense} (Fits a) (Fits b) → a ≡ b
    fits_same k = cc

    by : (b : Bool) → given_if b Operand at (Fits (IsParameter (record { name = name; type = adjusted (derived ds base) }))) ≡ Fits y → (z : Parameter) × (y ≡ IsParameter z)
    by true k = (_, sym (fits_same k))
    by false k = cc
parameter_told w s f at (Some base) x y e = cc
parameter_told w s f at None x y e = cc

-- ---- by the text

heads_at : (tokens : Tokens) (unit : ℕ) (tree : SyntaxTree) (tag_number : ℕ → ℕ) → IsTokens tokens.text.now tokens.list.items → IsUnit tokens unit tree → (k : ℕ)
    → (is_a (numbered tag_number (source_of tokens tree)) p_external k && is_some (child_of (numbered tag_number (source_of tokens tree)) p_block k)) ≡ true
    → Heads (numbered tag_number (source_of tokens tree)).tokens (nodes (numbered tag_number (source_of tokens tree))) (children_at (numbered tag_number (source_of tokens tree)) k)
unfolding source_of
heads_at tokens unit tree tag_number cut read k h = heads tokens unit tree cut read k h

listed_at : (tokens : Tokens) (unit : ℕ) (tree : SyntaxTree) (tag_number : ℕ → ℕ) → IsTokens tokens.text.now tokens.list.items → IsUnit tokens unit tree → (p : ℕ) → is_a (numbered tag_number (source_of tokens tree)) p_parameter p ≡ true
    → (i : ℕ) × IsPart (numbered tag_number (source_of tokens tree)) i p × (is_a (numbered tag_number (source_of tokens tree)) p_suffix i ≡ true) × (is_list (numbered tag_number (source_of tokens tree)).tokens (nodes (numbered tag_number (source_of tokens tree))) i ≡ true)
unfolding source_of
listed_at tokens unit tree tag_number cut read p is = parameters_listed tokens unit tree tag_number cut read p is

stays_at : (tokens : Tokens) (unit : ℕ) (tree : SyntaxTree) (tag_number : ℕ → ℕ) → IsUnit tokens unit tree → (b leaf at : ℕ) (d : Declared) → IsParameterIn (numbered tag_number (source_of tokens tree)) b leaf
    → ((m : ℕ) → (syntax.production_at (nodes (numbered tag_number (source_of tokens tree))) m == p_external || syntax.production_at (nodes (numbered tag_number (source_of tokens tree))) m == p_declaration) ≡ true
    → list_of (numbered tag_number (source_of tokens tree)).tokens (nodes (numbered tag_number (source_of tokens tree))) m ≡ Some b → ⊥)
    → ordinary_at (numbered tag_number (source_of tokens tree)) leaf ≡ Some d → paired (numbered tag_number (source_of tokens tree)).uses at ≡ Some leaf → Beneath (IsPart (numbered tag_number (source_of tokens tree))) b at
unfolding source_of names_of
stays_at tokens unit tree tag_number read b leaf at d declared no_list ordinary paired_is =
    stays (numbered tag_number (source_of tokens tree)) (tree_is tokens unit tree read tag_number).grown b leaf declared no_list tokens.text.now at d ordinary paired_is

module _ (tokens : Tokens) (unit : ℕ) (tree : SyntaxTree) (tag_number : ℕ → ℕ) (senses : List Sense) (cut : IsTokens tokens.text.now tokens.list.items) (read : IsUnit tokens unit tree)
    (are : AreSenses (numbered tag_number (source_of tokens tree)) senses) (whole : length senses ≡ length (numbered tag_number (source_of tokens tree)).nodes)
  where
    abbrev s : Source
    s = numbered tag_number (source_of tokens tree)

    abbrev sense : ℕ → Sense
    sense i = sense_in senses i

    abbrev t : linked.Tree s
    t = tree_is tokens unit tree read tag_number

    brought : IsBrought s
    brought = units_bring tokens unit tree tag_number read

    abbrev IsDeclared : ℕ → Type 0
    IsDeclared d = (what : right.Declared) × (declared_name s senses d ≡ Some what)

    -- a list that belongs to the name of a definition
    list_told : (k list : ℕ) → (syntax.production_at (nodes s) k == p_external || syntax.production_at (nodes s) k == p_declaration) ≡ true → list_of s.tokens (nodes s) k ≡ Some list → is_defined_list (world_at s senses list) s sense list ≡ true
    unfolding list_of
    list_told k list which told = by (syntax.has_part (nodes s) k p_block) (syntax.first_part (nodes s) k p_declarator) refl refl told
      where
        of_block : (c : ℕ) → contains (syntax.children_at (nodes s) k) c ≡ true → syntax.is_of (nodes s) p_block c ≡ true → is_definition (world_at s senses list) s sense k ≡ true
        of_block c has is =
            let child : contains (children_at s k) c ≡ true = subst (λ (l : List ℕ). contains l c ≡ true) (children_are s k) has in
            let block : is_a s p_block c ≡ true = production_is s p_block c refl is in
            both_true (is_a s p_external k) _ (external (is_a s p_external k) refl (t.nested.blocks k c child block)) (first_some (is_a s p_block) (children_at s k) c child block)
          where
            external : (x : Bool) → is_a s p_external k ≡ x → (is_a s p_external k || is_a s p_statement k) ≡ true → is_a s p_external k ≡ true
            external true e h = e
            external false e h = absurd (pick (syntax.production_at (nodes s) k == p_external) (syntax.production_at (nodes s) k == p_declaration) refl refl which)
              where
                statement : is_a s p_statement k ≡ true
                statement = sym (ap (λ (x : Bool). x || is_a s p_statement k) e) ∙ h

                pick : (x y : Bool) → (syntax.production_at (nodes s) k == p_external) ≡ x → (syntax.production_at (nodes s) k == p_declaration) ≡ y → (x || y) ≡ true → ⊥
                pick true y f g h = no_both (is_a s p_external k) (production_is s p_external k refl f) e
                pick false true f g h = no_both (is_a s p_statement k) statement (apart s k p_declaration p_statement (production_is s p_declaration k refl g) refl)
                pick false false f g h = cc

        in_second : (x y : ℕ) (rest : List ℕ) → contains (x ∷ y ∷ rest) y ≡ true
        in_second x y rest = or_right (nat_eq x y) _ (or_left (nat_eq y y) _ (eq-eqb y y refl))

        of_heads : (defined : is_definition (world_at s senses list) s sense k ≡ true) → (h : Heads s.tokens (nodes s) (children_at s k)) → (c : ℕ) → syntax.first_part (nodes s) k p_declarator ≡ Some c → (declarator s.tokens (nodes s) c).suffix ≡ Some list
            → is_defined_list (world_at s senses list) s sense list ≡ true
        of_heads defined h c first suffix =
            let n = defining.node s t senses are whole k defined h in
            let found : syntax.first_part (nodes s) k p_declarator ≡ Some h.declarator =
            ap (find (λ child. syntax.is_of (nodes s) p_declarator child)) (children_are s k ∙ h.are)
            ∙ (says.find_next (λ child. syntax.is_of (nodes s) p_declarator child) h.specs (h.declarator ∷ h.rest) (says.is_production s.tokens (nodes s) h.specs 6 p_declarator h.before h.before_at h.before_is)
            ∙ says.find_here (λ child. syntax.is_of (nodes s) p_declarator child) h.declarator h.rest (says.is_production s.tokens (nodes s) h.declarator 19 p_declarator n.0 n.1 n.2)) in
            let same : c ≡ h.declarator = some_same (sym first ∙ found) in
            list_defined s senses t.grown are whole (world_at s senses list) h.declarator (defining.outer s t senses are whole k defined h) k list h.is
            (subst (λ (l : List ℕ). contains l h.declarator ≡ true) (sym h.are) (in_second h.specs h.declarator h.rest)) defined (ap (λ (i : ℕ). (declarator s.tokens (nodes s) i).suffix) (sym same) ∙ suffix)

        by : (b : Bool) (o : Option ℕ) → syntax.has_part (nodes s) k p_block ≡ b → syntax.first_part (nodes s) k p_declarator ≡ o → (if b then suffix_of s.tokens (nodes s) o else None) ≡ Some list → is_defined_list (world_at s senses list) s sense list ≡ true
        by false o has first e = absurd (none_some e)
        by true None has first e = absurd (none_some e)
        by true (Some c) has first e =
            let block = any_found (λ child. syntax.is_of (nodes s) p_block child) (syntax.children_at (nodes s) k) has in
            let defined = of_block block.0 block.1 block.2 in
            of_heads defined (heads_at tokens unit tree tag_number cut read k defined) c first e

    module _ (leaf m : ℕ) (unlinked : is_linked s sense leaf ≡ false) (plain : is_typedef s sense leaf ≡ false) (d : IsDeclaredBy s senses m leaf) where
      unshared : is_internal s sense leaf ≡ false
      unshared = and_false (is_linked s sense leaf) _ unlinked

      declaring_it : is_declaring s senses leaf ≡ true
      declaring_it =
          both_true (is_name s leaf) _ (named_name s m leaf d.named)
          (ap (λ (o : Option ℕ). elim o as (λ _. Bool) [ None ↦ false | Some x ↦ elim (sense x) as (λ _. Bool) [ IsDeclarator name ds ↦ same_length name (Some leaf) | _ ↦ false ] ]) d.outermost
          ∙ (ap (λ (y : Sense). elim y as (λ _. Bool) [ IsDeclarator name ds ↦ same_length name (Some leaf) | _ ↦ false ]) d.is ∙ eq-eqb leaf leaf refl))

      told : specified_of s sense leaf ≡ Some d.words
      told = later (option_and_then (specs_of s) (outermost_of s leaf)) d.told
        where
          later : (o : Option ℕ) → specified s (sense_in (take m senses)) o ≡ Some d.words → specified s sense o ≡ Some d.words
          later None h = absurd (none_some h)
          later (Some c) h = by (taken senses m c)
            where
              by : (sense_in (take m senses) c ≡ Nothing) ⊎ (sense_in (take m senses) c ≡ sense c) → specified s sense (Some c) ≡ Some d.words
              by (inl none) = absurd (none_some (sym (ap (λ (y : Sense). elim y as (λ _. Option Specified) [ IsSpecified z ↦ Some z | _ ↦ None ]) none) ∙ h))
              by (inr same) = ap (λ (y : Sense). elim y as (λ _. Option Specified) [ IsSpecified z ↦ Some z | _ ↦ None ]) (sym same) ∙ h

      -- with a type of its own, and standing where names are declared, it is declared
      known_typed : stands_in_declaration s senses leaf ≡ true → (x : Ctype) → own_type s sense leaf ≡ Some x → IsDeclared leaf
      known_typed stands x type =
          let own : entity_of s sense leaf ≡ leaf = ap (λ (b : Bool). if b then first_of s sense leaf (internal_among s sense s.declared.ordinary (ordinary_at s leaf)) else leaf) unshared in
          let declares : declares_entity s senses leaf ≡ true =
          both_true (is_declaring s senses leaf) _ declaring_it (both_true (stands_in_declaration s senses leaf) _ stands (both_true (not (is_typedef s sense leaf)) _ (ap not plain) (eq-eqb (entity_of s sense leaf) leaf own))) in
          let linkage : linkage_of s sense leaf ≡ Local = ap (λ (a : Bool). if a then Internal else (if is_linked s sense leaf then External else Local)) unshared ∙ ap (λ (a : Bool). if a then External else Local) unlinked in (
            declared_as s senses leaf x,
            ap (λ (b : Bool). if b then option_map (declared_as s senses leaf) (entity_type s senses leaf) else None) declares
                ∙ ap (option_map (declared_as s senses leaf)) (ap (λ (l : Linkage). elim l as (λ _. Option Ctype) [ Internal ↦ internal_type s senses leaf | _ ↦ own_type s sense leaf ]) linkage ∙ type),
          )

      object_known : stands_in_declaration s senses leaf ≡ true → is_parameter s sense leaf ≡ false → IsDeclared leaf
      object_known stands off =
          known_typed stands (with_length (length_given_by s sense (initialiser_for s sense leaf)) (derived d.derives d.words.type))
          (ap (λ (b : Bool). if b then right_side else option_map (with_length (length_given_by s sense (initialiser_for s sense leaf))) (derived_type s sense (specified_of s sense leaf) (outermost_of s leaf))) off
          ∙ ap (option_map (with_length (length_given_by s sense (initialiser_for s sense leaf))))
          (ap (λ (o : Option Specified). derived_type s sense o (outermost_of s leaf)) told
          ∙ (ap (derived_type s sense (Some d.words)) d.outermost ∙ ap (λ (y : Sense). elim y as (λ _. Option Ctype) [ IsDeclarator name ds ↦ Some (derived ds d.words.type) | _ ↦ None ]) d.is)))
        where
          right_side : Option Ctype
          right_side = parameter_type s sense (declaration_of s sense leaf)

      -- by the node that the declarator is a part of
      module _ (p : ℕ) (child : contains (children_at s p) m ≡ true) where
        around : declaration_of s sense leaf ≡ declaration_around s p
        around = ap (λ (o : Option ℕ). option_and_then (declaration_around s) (option_and_then (parent_of s) o)) d.outermost ∙ ap (option_and_then (declaration_around s)) (parent_is s t.grown p m child)

        itself : (q : ℕ) → is_a s q p ≡ true → nat_eq q p_rest ≡ false → nat_eq q p_field ≡ false → declaration_of s sense leaf ≡ Some p
        itself q is x y =
            around ∙ (ap (λ (b : Bool). if b || is_a s p_field p then parent_of s p else Some p) (apart s p q p_rest is x) ∙ ap (λ (b : Bool). if b then parent_of s p else Some p) (apart s p q p_field is y))

        stands_at : (q : ℕ) → declaration_of s sense leaf ≡ Some q → (is_a s p_external q || is_a s p_declaration q) ≡ true → IsDeclared leaf
        stands_at q e h = by (is_a s p_external q) (is_a s p_declaration q) refl refl h
          where
            stands : (is_a s p_external q || (is_a s p_declaration q || (is_a s p_parameter q && is_defined_parameter s senses leaf))) ≡ true → is_a s p_parameter q ≡ false → IsDeclared leaf
            stands h off =
                object_known (ap (λ (o : Option ℕ). elim o as (λ _. Bool) [ None ↦ false | Some x ↦ is_a s p_external x || (is_a s p_declaration x || (is_a s p_parameter x && is_defined_parameter s senses leaf)) ]) e ∙ h)
                (ap (λ (o : Option ℕ). elim o as (λ _. Bool) [ None ↦ false | Some x ↦ is_a s p_parameter x ]) e ∙ off)

            by : (x y : Bool) → is_a s p_external q ≡ x → is_a s p_declaration q ≡ y → (x || y) ≡ true → IsDeclared leaf
            by true y f g h = stands (or_left (is_a s p_external q) _ f) (apart s q p_external p_parameter f refl)
            by false true f g h = stands (or_right (is_a s p_external q) _ (or_left (is_a s p_declaration q) _ g)) (apart s q p_declaration p_parameter g refl)
            by false false f g h = cc

        -- the rest of a declaration
        of_rest : is_a s p_rest p ≡ true → IsDeclared leaf
        of_rest rest = by (parent_of s p) refl
          where
            up : declaration_of s sense leaf ≡ parent_of s p
            up = around ∙ ap (λ (b : Bool). if b || is_a s p_field p then parent_of s p else Some p) rest

            specs : specs_of s m ≡ option_and_then (child_of s p_specs) (parent_of s p)
            specs = ap (λ (o : Option ℕ). option_and_then (child_of s p_specs) (option_and_then (declaration_around s) o)) (parent_is s t.grown p m child) ∙ ap (λ (b : Bool). option_and_then (child_of s p_specs) (if b || is_a s p_field p then parent_of s p else Some p)) rest

            by : (o : Option ℕ) → parent_of s p ≡ o → IsDeclared leaf
            by None e =
                absurd (none_some (sym (ap (specified s sense) (ap (option_and_then (specs_of s)) d.outermost ∙ (specs ∙ ap (option_and_then (child_of s p_specs)) e))) ∙ told))
            by (Some q) e = stands_at q (up ∙ e) (t.nested.rests q p (parent_holds s t.grown q p e) rest)

        -- a parameter of a definition
        of_parameter : is_a s p_parameter p ≡ true → (list : ℕ) → contains (children_at s list) p ≡ true → is_defined_list (world_at s senses list) s sense list ≡ true → IsDeclared leaf
        of_parameter is list inside defined =
            let declaration = itself p_parameter is refl refl in
            let defined_is : is_defined_parameter s senses leaf ≡ true =
            ap (λ (o : Option ℕ). elim (option_and_then (parent_of s) o) as (λ _. Bool) [ None ↦ false | Some suffix ↦ is_defined_list (world_at s senses suffix) s sense suffix ]) declaration
            ∙ (ap (λ (o : Option ℕ). elim o as (λ _. Bool) [ None ↦ false | Some suffix ↦ is_defined_list (world_at s senses suffix) s sense suffix ]) (parent_is s t.grown list p inside) ∙ defined) in
            let stands : stands_in_declaration s senses leaf ≡ true =
            ap (λ (o : Option ℕ). elim o as (λ _. Bool) [ None ↦ false | Some x ↦ is_a s p_external x || (is_a s p_declaration x || (is_a s p_parameter x && is_defined_parameter s senses leaf)) ]) declaration
            ∙ or_right (is_a s p_external p) _ (or_right (is_a s p_declaration p) _ (both_true (is_a s p_parameter p) _ is defined_is)) in
            let yes : is_parameter s sense leaf ≡ true = ap (λ (o : Option ℕ). elim o as (λ _. Bool) [ None ↦ false | Some x ↦ is_a s p_parameter x ]) declaration ∙ is in
            let z = parameter_sense is in
            known_typed stands z.0.type
            (ap (λ (b : Bool). if b then parameter_type s sense (declaration_of s sense leaf) else option_map (with_length (length_given_by s sense (initialiser_for s sense leaf))) (derived_type s sense (specified_of s sense leaf) (outermost_of s leaf))) yes
            ∙ (ap (parameter_type s sense) declaration ∙ ap (λ (y : Sense). elim y as (λ _. Option Ctype) [ IsParameter x ↦ Some x.type | _ ↦ None ]) z.1))
          where
            parameter_sense : is_a s p_parameter p ≡ true → (z : Parameter) × (sense p ≡ IsParameter z)
            parameter_sense is =
                let n = node_has s p m child in
                parameter_told (world_at s (take p senses) p) s (sense_in (take p senses)) p (specified_at (world_at s (take p senses) p) s (sense_in (take p senses)) (child_of s p_specs p)) (sense_of_child (world_at s (take p senses) p) s (sense_in (take p senses)) p_either p) (sense p)
                (sensed.row_is s senses t.grown are whole p 23 n.0 n.1 (sym (ap syntax.production_of n.1) ∙ production_same s p_parameter p refl is))

    -- ---- a name in a tree

    ordered : IsOrdered s
    ordered = units_ordered tokens unit tree tag_number cut read

    pub known : (c : Core) (leaf : ℕ) → IsInBody s senses c → (kind_of c ≡ Named leaf) ⊎ (kind_of c ≡ FunctionName leaf) → is_linked s sense leaf ≡ false → IsDeclared leaf
    known c leaf h e unlinked = by (ordinary_at s leaf) refl
      where
        refuted : {X : Type 0} → (IsEntity tokens unit tree tag_number senses cut read are whole leaf → ⊥) → X
        refuted no_entity = absurd (always tokens unit tree tag_number senses cut read are whole c leaf unlinked h e no_entity)

        of_list : (y : Declared) → ordinary_at s leaf ≡ Some y → (m p list : ℕ) → is_typedef s sense leaf ≡ false → (d : IsDeclaredBy s senses m leaf) → is_declarator s m ≡ true → contains (children_at s p) m ≡ true → is_a s p_parameter p ≡ true
            → contains (children_at s list) p ≡ true → is_a s p_suffix list ≡ true → is_list s.tokens (nodes s) list ≡ true → (b : Bool) → is_defined_list (world_at s senses list) s sense list ≡ b → IsDeclared leaf
        of_list y there m p list plain d is child parameter inside suffix opens true defined = of_parameter leaf m unlinked plain d p child parameter list inside defined
        of_list y there m p list plain d is child parameter inside suffix opens false other =
            absurd
            (beside tokens unit tree tag_number senses cut read are whole list suffix c leaf unlinked h e
            (λ at paired_is.
            stays_at tokens unit tree tag_number read list leaf at y
            (record { parameter = p; inside = inside; is = parameter; suffix = suffix; list = opens; declarator = m; child = child; declares = is; named = d.named; outermost = d.outermost })
            (λ k which told. no_both (is_defined_list (world_at s senses list) s sense list) (list_told k list which told) other) there paired_is))

        of_names : (y : Declared) → ordinary_at s leaf ≡ Some y → is_typedef s sense leaf ≡ false → (m : ℕ) → Declares s m leaf → IsDeclared leaf
        of_names y there plain m (Enumerates is inside) =
            refuted (λ entity. no_both (is_a s p_enumerator entity.parent) (subst (λ (k : ℕ). is_a s p_enumerator k ≡ true) (some_same (sym (parent_is s t.grown m leaf inside) ∙ entity.up)) is) entity.no_enumerator)
        of_names y there plain m (Names p is inside part named) =
            let declares = form_declares s m is in
            let outer : is_outermost s m ≡ true =
            ap (λ (b : Bool). b && elim (parent_of s m) as (λ _. Bool) [ None ↦ true | Some q ↦ not (is_declarator s q) ]) declares
            ∙ (ap (λ (o : Option ℕ). elim o as (λ _. Bool) [ None ↦ true | Some q ↦ not (is_declarator s q) ]) (parent_is s t.grown p m inside) ∙ ap not (no_form (production_at s p) part)) in
            let few : m < length senses = (let less = t.grown.before p m inside in let within_it = t.grown.within p m inside in omega (arith, less, within_it, whole)) in
            let d = leaves_declared.by_tree s senses are t.grown brought m leaf few outer (name_in s m leaf named) in
            pick d declares (declaring_one s p part)
          where
            pick : IsDeclaredBy s senses m leaf → is_declarator s m ≡ true → IsDeclaringPart s p → IsDeclared leaf
            pick d declares (inl external) = stands_at leaf m unlinked plain d p inside p (itself leaf m unlinked plain d p inside p_external external refl refl) (or_left (is_a s p_external p) _ external)
            pick d declares (inr (inl rest)) = of_rest leaf m unlinked plain d p inside rest
            pick d declares (inr (inr (inl declaration))) = stands_at leaf m unlinked plain d p inside p (itself leaf m unlinked plain d p inside p_declaration declaration refl refl) (or_right (is_a s p_external p) _ declaration)
            pick d declares (inr (inr (inr parameter))) =
                let l = listed_at tokens unit tree tag_number cut read p parameter in
                of_list y there m p l.0 plain d declares inside parameter l.1 l.2 l.3 (is_defined_list (world_at s senses l.0) s sense l.0) refl

        of_entry : (y : Declared) → ordinary_at s leaf ≡ Some y → (b : Bool) → is_typedef s sense leaf ≡ b → IsDeclared leaf
        of_entry y there true type = refuted (λ entity. no_both (is_typedef s sense leaf) type entity.plain)
        of_entry y there false plain = let m = rises_at s 0 (length s.nodes) s.declared.ordinary ordered.names leaf y there in of_names y there plain m.0 m.1

        by : (o : Option Declared) → ordinary_at s leaf ≡ o → IsDeclared leaf
        by None none = refuted (λ entity. none_some (sym none ∙ entity.there))
        by (Some y) there = of_entry y there (is_typedef s sense leaf) refl

pub names_known : NamesKnown
names_known tokens unit tree tag_number senses cut read are whole c d h e unlinked = known tokens unit tree tag_number senses cut read are whole c d h e unlinked
