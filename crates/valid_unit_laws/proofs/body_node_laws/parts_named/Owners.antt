-- The functions that own what is declared are declared.
use Rattle.std.proofs.Common.{◌≡◌, ◌∙◌, ℕ, zero, suc, not, ◌&&◌, ◌||◌, ◌⊎◌, inl, inr, Bool, true, false, List, [], ◌∷◌, length, slice_get, Option, Some, None, eq-eqb, refl, sym, ap, subst, IsTrue}
use Rattle.std.specs.Prelude.{⊤, is_some, option_and_then, option_map, if◌then◌else◌}
use Rattle.c_lexer.specs.declared.Tokens.{Tokens}
use Rattle.c_lexer.specs.Cut.{IsTokens}
use Rattle.c_grammar.specs.declared.trees.Tree.{Tree}
use Rattle.c_grammar.specs.Productions.{p_external, p_declaration, p_parameter, p_block}
use Rattle.c_scope.specs.declared.kinds.Declared.{Declared as Declaration}
use Rattle.c_scope.specs.declared.kinds.Kind.{Kind}
use Rattle.c_scope.specs.declared.kinds.Kind.TheVariants.{Linked}
use Rattle.c_parser.specs.c_units.Units.{IsUnit}
use Rattle.c_types.specs.Trees.{Ctype, FunctionFrom}
use Rattle.core_tree.specs.declared.node.Linkage.{Linkage}
use Rattle.core_tree.specs.declared.node.Linkage.TheVariants.{External, Internal, Local}
use Rattle.c_senses.specs.Names.{source_of, numbered, ordinary_at, names_type, is_linked_kind, is_typedef_kind}
use Rattle.c_senses.specs.Tree.{Source, is_a, child_of, parent_of, above_within, nearest_above, is_name}
use Rattle.c_senses.specs.Sense.{Sense, sense_in}
use Rattle.c_senses.specs.Rows.{AreSenses}
use Rattle.c_senses.specs.Entities.{first_of, internal_among, is_typedef, is_internal, is_linked, is_defined, linkage_of, entity_of, own_type, all_together, types_of, function_around, defined_name}
use Rattle.c_senses.specs.Right.{of_internal, with_one, representative, declared_as, declared_name, declares_entity, is_declaring, is_defined_parameter, stands_in_declaration, entity_type, internal_type, owner_at}
use Rattle.c_senses.specs.Right as right
use Rattle.declaration_laws.specs.function_laws.passed.definition_laws.Definitions.{is_definition}
use Rattle.declaration_laws.specs.function_laws.passed.definition_laws.function_definitions.Defined.{Defines}
use Rattle.declaration_laws.proofs.function_laws.passed.definition_laws.function_definitions.Reading.{definitions_declare}
use Rattle.declaration_laws.proofs.function_laws.passed.definition_laws.linkage_laws.Seen.{some_same, none_some}
use Rattle.declaration_laws.proofs.function_laws.passed.definition_laws.linkage_laws.Linked as linked
use Rattle.declaration_laws.proofs.function_laws.passed.definition_laws.linkage_laws.Reading.{tree_is}
use Rattle.declaration_laws.proofs.function_laws.passed.definition_laws.linkage_laws.Unlinked.{all_internal}
use Rattle.parsed_tree_laws.proofs.grown_parts.Reading.{units_bring}
use Rattle.declaration_laws.proofs.name_order.Ordered.{units_ordered}
use Rattle.declaration_laws.proofs.declared_type_laws.passed.owner_laws.Whole.{grown_of}
use Rattle.valid_unit_laws.specs.object_initialiser_laws.passed.internal_name_laws.representative_names.Representatives.{IsKnown}
use Rattle.valid_unit_laws.proofs.object_initialiser_laws.passed.internal_name_laws.representative_names.Declaring.{linked_declares}
use Rattle.valid_unit_laws.proofs.object_initialiser_laws.passed.internal_name_laws.representative_names.Standing.{representatives_known}
use Rattle.declaration_laws.proofs.declared_type_laws.passed.owner_laws.internal_laws.Reading.{definitions_known}
use Rattle.unit_finish.specs.declared.unit_parts.declared.Declared.{Declared}
use Rattle.unit_finish.specs.unit_parts.Entities.{numbering_of, is_owner_known}
use Rattle.unit_finish.specs.Walked.{declared_seen}
use Rattle.declaration_laws.specs.declared_type_laws.declared_leaves.Leaves.{IsNamed, Own, Inner}
use Rattle.valid_unit_laws.specs.body_node_laws.parts_named.Named.{AreParts, PartsOwned}
use Rattle.valid_unit_laws.proofs.body_node_laws.parts_named.Listing.{all_of, planted_back, name_there, entry, IsOfName, IsOfLiteral}

-- what names declare
pub named_name : (s : Source) (m leaf : ℕ) → IsNamed s m leaf → is_name s leaf ≡ true
named_name s m leaf (Own child name) = name
named_name s m leaf (Inner c child is more) = named_name s c leaf more

pub both : (a b : Bool) → (a && b) ≡ true → (a ≡ true) × (b ≡ true)
both true true e = (refl, refl)
both true false e = cc
both false b e = cc

or_left : (a b : Bool) → a ≡ true → (a || b) ≡ true
or_left true b e = refl
or_left false b e = cc

or_right : (a b : Bool) → b ≡ true → (a || b) ≡ true
or_right true b e = refl
or_right false b e = e

both_true : (a b : Bool) → a ≡ true → b ≡ true → (a && b) ≡ true
both_true true true e f = refl
both_true true false e f = cc
both_true false b e f = cc

-- what is found above passes
pub found_above : (s : Source) (test : ℕ → Bool) (fuel d : ℕ) (o : Option ℕ) → above_within s test fuel o ≡ Some d → test d ≡ true
found_above s test zero d o e = absurd (none_some e)
found_above s test (suc fuel) d None e = absurd (none_some e)
found_above s test (suc fuel) d (Some p) e = by (test p) refl e (λ f. found_above s test fuel d (parent_of s p) f)
  where
    by : (b : Bool) → test p ≡ b → (if b then Some p else above_within s test fuel (parent_of s p)) ≡ Some d → (above_within s test fuel (parent_of s p) ≡ Some d → test d ≡ true) → test d ≡ true
    by true is e later = ap test (sym (some_same e)) ∙ is
    by false is e later = later e

pub and_then_some : {A B : Type 0} → (o : Option A) (k : A → Option B) (y : B) → option_and_then k o ≡ Some y → (x : A) × (o ≡ Some x) × (k x ≡ Some y)
and_then_some None k y e = absurd (none_some e)
and_then_some (Some x) k y e = (x, refl, e)

pub map_some : {A B : Type 0} → (o : Option A) (k : A → B) (y : B) → option_map k o ≡ Some y → (x : A) × (o ≡ Some x) × (k x ≡ y)
map_some None k y e = absurd (none_some e)
map_some (Some x) k y e = (x, refl, some_same e)

no_local : (a c : Bool) → c ≡ true → (if a then Internal else (if c then External else Local)) ≡ Local → ⊥
no_local true c e k = cc
no_local false true e k = cc
no_local false false e k = cc

pub not_internal : (a c : Bool) → (if a then Internal else (if c then External else Local)) ≡ External → a ≡ false
not_internal true c e = cc
not_internal false c e = refl

pub internal_one : (a c : Bool) → (if a then Internal else (if c then External else Local)) ≡ Internal → a ≡ true
internal_one true c e = refl
internal_one false true e = cc
internal_one false false e = cc

module _ (tokens : Tokens) (unit : ℕ) (tree : Tree) (tag_number : ℕ → ℕ) (senses : List Sense) (cut : IsTokens tokens.text.now tokens.list.items) (read : IsUnit tokens unit tree)
    (are : AreSenses (numbered tag_number (source_of tokens tree)) senses) (whole : length senses ≡ length (numbered tag_number (source_of tokens tree)).nodes)
  where
    abbrev s : Source
    s = numbered tag_number (source_of tokens tree)

    abbrev sense : ℕ → Sense
    sense i = sense_in senses i

    abbrev t : linked.Tree s
    t = tree_is tokens unit tree read tag_number

    abbrev AllInternal : List Declaration → Type 0
    AllInternal [] = ⊤
    AllInternal (d ∷ ds) = (is_internal s sense d.node ≡ true) × AllInternal ds

    -- a name that declares something
    abbrev pub IsDeclared : ℕ → Type 0
    IsDeclared d = (what : right.Declared) × (declared_name s senses d ≡ Some what)

    -- a linked name by which its entity is known declares it
    pub linked_entity : (e : ℕ) → is_linked s sense e ≡ true → entity_of s sense e ≡ e → declares_entity s senses e ≡ true
    linked_entity e is own = by (linked.linked_named s t senses are whole e is)
      where
        by : (y : Declaration) × (ordinary_at s e ≡ Some y) × (y.kind ≡ Linked) × linked.Named s t e y → declares_entity s senses e ≡ true
        by (y, at, kind, n) =
            let declaring = linked_declares s senses are whole (grown_of tokens unit tree tag_number cut read) t.grown (units_bring tokens unit tree tag_number read) (units_ordered tokens unit tree tag_number cut read) e y at (ap is_linked_kind kind) in
            let stands : stands_in_declaration s senses e ≡ true =
            ap (λ (o : Option ℕ). elim o as (λ _. Bool) [ None ↦ false | Some p ↦ is_a s p_external p || (is_a s p_declaration p || (is_a s p_parameter p && is_defined_parameter s senses e)) ]) (linked.declaration_is s t senses are whole e y n) ∙ placed n.at.declaration n.at.is in
            let typed : not (is_typedef s sense e) ≡ true = ap (λ (o : Option Declaration). not (elim o as (λ _. Bool) [ None ↦ false | Some d ↦ names_type d ])) at ∙ ap (λ (k : Kind). not (is_typedef_kind k)) kind in
            both_true (is_declaring s senses e) _ declaring (both_true (stands_in_declaration s senses e) _ stands (both_true (not (is_typedef s sense e)) _ typed (eq-eqb (entity_of s sense e) e own)))
          where
            placed : (p : ℕ) → (is_a s p_external p ≡ true) ⊎ (is_a s p_declaration p ≡ true) → (is_a s p_external p || (is_a s p_declaration p || (is_a s p_parameter p && is_defined_parameter s senses e))) ≡ true
            placed p (inl h) = or_left (is_a s p_external p) _ h
            placed p (inr h) = or_right (is_a s p_external p) _ (or_left (is_a s p_declaration p) _ h)

    pub declared_with : (e : ℕ) (type : Ctype) → is_linked s sense e ≡ true → entity_of s sense e ≡ e → entity_type s senses e ≡ Some type → IsDeclared e
    declared_with e type is own typed = (
      declared_as s senses e type,
      ap (λ (b : Bool). if b then option_map (declared_as s senses e) (entity_type s senses e) else None) (linked_entity e is own) ∙ ap (option_map (declared_as s senses e)) typed,
    )

    abbrev pub typed : ℕ → Linkage → Option Ctype
    typed d linkage = elim linkage [ Internal ↦ internal_type s senses d | _ ↦ own_type s sense d ]

    pub entity_internal : (l : ℕ) → is_internal s sense l ≡ true → is_internal s sense (entity_of s sense l) ≡ true
    entity_internal l own = pick (is_internal s sense l) own
      where
        first : (ds : List Declaration) → AllInternal ds → is_internal s sense (first_of s sense l ds) ≡ true
        first [] a = own
        first (d ∷ ds) a = a.0

        pick : (a : Bool) → a ≡ true → is_internal s sense (if a then first_of s sense l (internal_among s sense s.declared.ordinary (ordinary_at s l)) else l) ≡ true
        pick true e = first (of_internal s senses l) (all_internal s senses (λ m k. linked.stands_linked s t senses are whole m k) l)
        pick false e = own

    -- the name of a definition has an entity that is declared
    module _ (p : ℕ) (definition : is_definition s p ≡ true) (h : Defines s senses p) where
      defined : is_defined s sense h.name ≡ true
      defined = ap (λ (x : Option ℕ). elim x as (λ _. Bool) [ None ↦ false | Some q ↦ is_a s p_external q && is_some (child_of s p_block q) ]) h.declaration ∙ definition

      function_declared : IsDeclared (entity_of s sense h.name)
      function_declared = by (linkage_of s sense h.name) refl
        where
          by : (l : Linkage) → linkage_of s sense h.name ≡ l → IsDeclared (entity_of s sense h.name)
          by Local e = absurd (no_local (is_internal s sense h.name) (is_linked s sense h.name) h.linked e)
          by External e =
              let none = not_internal (is_internal s sense h.name) (is_linked s sense h.name) e in
              let same : entity_of s sense h.name ≡ h.name = ap (λ (a : Bool). if a then first_of s sense h.name (internal_among s sense s.declared.ordinary (ordinary_at s h.name)) else h.name) none in
              subst IsDeclared (sym same) (declared_with h.name (FunctionFrom h.result h.parameters h.form) h.linked same (ap (typed h.name) e ∙ h.type))
          by Internal e =
              let own = internal_one (is_internal s sense h.name) (is_linked s sense h.name) e in
              let d = entity_of s sense h.name in
              let inside = entity_internal h.name own in
              let linkage : linkage_of s sense d ≡ Internal = ap (λ (a : Bool). if a then Internal else (if is_linked s sense d then External else Local)) inside in
              let known : representative s senses d ≡ h.name = definitions_known tokens unit tree tag_number senses cut read are whole p definition h own in
              let one : IsKnown s senses d = representatives_known tokens unit tree tag_number senses cut read are whole d inside in
              declared_with d (FunctionFrom h.result h.parameters h.form) (both (is_linked s sense d) _ inside).0 (sym one.entity ∙ ap (entity_of s sense) known)
              (ap (typed d) linkage
              ∙ (ap (λ (r : ℕ). if is_defined s sense r then own_type s sense r else option_map (with_one s senses) (all_together None (types_of s sense (of_internal s senses d)))) known
              ∙ (ap (λ (a : Bool). if a then own_type s sense h.name else option_map (with_one s senses) (all_together None (types_of s sense (of_internal s senses d)))) defined ∙ h.type)))

    -- so the function around a node is declared
    pub around_declared : (i d : ℕ) → option_map (entity_of s sense) (function_around s sense i) ≡ Some d → IsDeclared d
    around_declared i d e =
        let (z, around, same) = map_some (function_around s sense i) (entity_of s sense) d e in
        let (p, above, named) = and_then_some (nearest_above s (is_definition s) i) (defined_name s sense) z around in
        let is = found_above s (is_definition s) (length s.nodes) p (parent_of s i) above in
        let h = definitions_declare tokens unit tree tag_number senses p cut read are whole is in
        subst IsDeclared (ap (entity_of s sense) (some_same (sym h.named ∙ named)) ∙ same) (function_declared p is h)

    -- the owner that a name's declaration says
    pub owner_declared : (leaf d : ℕ) (what : right.Declared) → declared_name s senses leaf ≡ Some what → what.owner ≡ Some d → IsDeclared d
    owner_declared leaf d what told e = pick (declares_entity s senses leaf) (entity_type s senses leaf) told
      where
        own : (l : Linkage) → (elim l as (λ _. Option ℕ) [ Local ↦ option_map (entity_of s sense) (function_around s sense leaf) | _ ↦ None ]) ≡ Some d → IsDeclared d
        own Local k = around_declared leaf d k
        own External k = absurd (none_some k)
        own Internal k = absurd (none_some k)

        pick : (a : Bool) (o : Option Ctype) → (if a then option_map (declared_as s senses leaf) o else None) ≡ Some what → IsDeclared d
        pick false o k = absurd (none_some k)
        pick true None k = absurd (none_some k)
        pick true (Some type) k = own (linkage_of s sense leaf) (ap (λ (x : right.Declared). x.owner) (some_same k) ∙ e)

module _ (tokens : Tokens) (unit : ℕ) (tree : Tree) (tag_number : ℕ → ℕ) (cut : IsTokens tokens.text.now tokens.list.items) (read : IsUnit tokens unit tree) (p : AreParts (numbered tag_number (source_of tokens tree))) where
  abbrev src : Source
  src = numbered tag_number (source_of tokens tree)

  entry_owner : (x : Declared) (d : ℕ) (k : ℕ) → x.owner ≡ Some d → IsOfName src p k x ⊎ IsOfLiteral src p k x → IsDeclared tokens unit tree tag_number p.senses cut read p.made.are_senses p.made.whole d
  entry_owner x d k e (inl h) =
      owner_declared tokens unit tree tag_number p.senses cut read p.made.are_senses p.made.whole x.leaf d (declared_seen p.walked h.named) h.declares (sym (ap (λ (z : Declared). z.owner) h.is) ∙ e)
  entry_owner x d k e (inr h) =
      around_declared tokens unit tree tag_number p.senses cut read p.made.are_senses p.made.whole h.literal.leaf d (sym (ap (λ (z : Declared). z.owner) h.is) ∙ e)

  owner_known : (k : ℕ) (y : Declared) → slice_get p.planted.list.items k ≡ Some y → is_owner_known (numbering_of p.planted.list.items) y.owner ≡ true
  owner_known k y at = by y.owner refl
    where
      by : (o : Option ℕ) → y.owner ≡ o → is_owner_known (numbering_of p.planted.list.items) o ≡ true
      by None e = refl
      by (Some d) e =
          let (x, there, leaf, owner) = planted_back src p k y at in
          let r = entry_owner x d k (sym owner ∙ e) (entry src p k x there) in
          name_there src p d r.0 r.1

pub parts_owned : PartsOwned
parts_owned tokens unit tree tag_number cut read p =
    all_of (λ (y : Declared). IsTrue (is_owner_known (numbering_of p.planted.list.items) y.owner)) p.planted.list.items (owner_known tokens unit tree tag_number cut read p)
