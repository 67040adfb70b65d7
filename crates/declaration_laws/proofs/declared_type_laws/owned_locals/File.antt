-- A name at file scope is declared with linkage.
use Rattle.std.proofs.Common.{arith, ◌≡◌, ◌<◌, ◌==◌, ◌||◌, ◌&&◌, ℕ, zero, suc, Bool, true, false, List, [], ◌∷◌, Option, Some, None, length, slice_get, eq-eqb, refl, sym, ap, ◌∙◌, subst, ◌⊎◌, inl, inr}
use Rattle.std.specs.Prelude.{option_and_then, if◌then◌else◌}
use Rattle.std.specs.List.{find}
use Rattle.std.proofs.lemmas.Bool.{eqb-true}
use Rattle.c_lexer.specs.declared.Token.{Token}
use Rattle.c_lexer.specs.declared.TokenKind.TheVariants.{End}
use Rattle.c_grammar.specs.Reads.{Node, leaf}
use Rattle.c_grammar.specs.Productions.{p_external, p_rest, p_declaration, p_specs, p_type, p_struct, p_enum, p_field, p_declarator, p_parameter, p_statement, p_primary}
use Rattle.c_grammar.specs.Terminals.{contains}
use Rattle.c_mentions.specs.declared.declarators.Derivation.{Derivation}
use Rattle.c_mentions.specs.declared.mentions.Linkage.{Linkage}
use Rattle.c_mentions.specs.declared.mentions.Linkage.TheVariants as linkage
use Rattle.c_mentions.specs.declared.mentions.Mention.TheVariants as mention
use Rattle.c_mentions.specs.declared.roles.Specifiers.{Specifiers}
use Rattle.c_mentions.specs.declared.roles.Role.{Role}
use Rattle.c_mentions.specs.declared.roles.Role.TheVariants as role
use Rattle.c_mentions.specs.Syntax as syntax
use Rattle.c_mentions.specs.Declarators.{declarator}
use Rattle.c_mentions.specs.Mentions.{linkage_of}
use Rattle.c_mentions.specs.Roles.{handed, in_declaration, in_specs, in_type, in_struct, in_enum, in_statement, specified}
use Rattle.c_mentions.specs.Settings.{Standing, outermost, handed_down, with_scope}
use Rattle.c_mentions.specs.Symbols.{symbol_of}
use Rattle.c_scope.specs.declared.kinds.Kind.{Kind}
use Rattle.c_scope.specs.declared.kinds.Kind.TheVariants.{Linked, Typedef}
use Rattle.c_scope.specs.declared.kinds.Declared.{Declared}
use Rattle.c_scope.specs.Known.{first_scope, kind_of, is_function}
use Rattle.c_scope.specs.Resolves.{bindings}
use Rattle.c_senses.specs.Tree.{Source, children_at, is_a, is_name, parent_of, above_within}
use Rattle.c_senses.specs.Names.{ordinary_at, is_linked_kind, is_typedef_kind, has_linkage, names_type}
use Rattle.c_senses.specs.World.{same_length}
use Rattle.c_senses.specs.Declarators.{is_declarator, is_outermost, outermost_of, declaration_around}
use Rattle.c_senses.specs.Entities.{declaration_of, is_linked, is_typedef}
use Rattle.c_senses.specs.Right.{is_declaring}
use Rattle.c_senses.specs.Rows.{AreSenses}
use Rattle.c_senses.specs.Sense.{Sense, IsDeclarator, sense_in}
use Rattle.declaration_laws.proofs.declared_type_laws.owner_laws.passed.definition_laws.scope_laws.Scopes.{Part}
use Rattle.core_node_laws.specs.count_laws.passed.parsed_tree_laws.grown_parts.Parts.{IsBrought}
use Rattle.declaration_laws.specs.declared_type_laws.declared_leaves.Leaves.{IsDeclaredBy}
use Rattle.declaration_laws.proofs.declared_type_laws.declared_leaves.Climbing.{leaves_declared}
use Rattle.declaration_laws.proofs.declared_type_laws.owner_laws.passed.definition_laws.linkage_laws.Origins.{HasOrigin, origin, mentioned}
use Rattle.declaration_laws.proofs.declared_type_laws.owner_laws.passed.definition_laws.linkage_laws.Seen.{nodes, production_same, children_are, node_within, parent_holds}
use Rattle.declaration_laws.proofs.declared_type_laws.owner_laws.passed.definition_laws.linkage_laws.Roles.{opens}
use Rattle.declaration_laws.proofs.declared_type_laws.owner_laws.passed.definition_laws.linkage_laws.Standings.{HasParent, parents}
use Rattle.declaration_laws.proofs.declared_type_laws.owner_laws.passed.definition_laws.linkage_laws.Chains.{name_reached}
use Rattle.declaration_laws.proofs.declared_type_laws.owner_laws.passed.definition_laws.linkage_laws.Linked.{Tree}
use Rattle.declaration_laws.proofs.declared_type_laws.owner_laws.passed.definition_laws.function_definitions.Found.{comes_out, external_hands, declarator_declares}
use Rattle.declaration_laws.proofs.declared_type_laws.owner_laws.passed.definition_laws.function_definitions.Declaring.{declared_by_outermost}
use Rattle.declaration_laws.proofs.declared_type_laws.seen_onward.Descent.{StandsAt, stands, stands_once, part_node, part_within}
use Rattle.declaration_laws.proofs.declared_type_laws.seen_onward.Openers.{Shaped}
use Rattle.declaration_laws.proofs.declared_type_laws.seen_onward.Around.{placed}
use Rattle.declaration_laws.proofs.declared_type_laws.owned_locals.Forms.{in_external, in_rest, no_field}
use Rattle.declaration_laws.proofs.declared_type_laws.owned_locals.Said.{said_name}

no_both : (b : Bool) → b ≡ true → b ≡ false → ⊥
no_both b e f = let both : true ≡ false = sym e ∙ f in cc

some_same : {A : Type 0} → {x y : A} → ◌≡◌ {A = Option A} (Some x) (Some y) → x ≡ y
some_same e = cc

-- what is found above passes
found_above : (s : Source) (test : ℕ → Bool) (fuel d : ℕ) (o : Option ℕ) → above_within s test fuel o ≡ Some d → test d ≡ true
found_above s test zero d o e = cc
found_above s test (suc fuel) d None e = cc
found_above s test (suc fuel) d (Some p) e = by (test p) refl e (λ f. found_above s test fuel d (parent_of s p) f)
  where
    by : (b : Bool) → test p ≡ b → (if b then Some p else above_within s test fuel (parent_of s p)) ≡ Some d → (above_within s test fuel (parent_of s p) ≡ Some d → test d ≡ true) → test d ≡ true
    by true is e later = ap test (sym (some_same e)) ∙ is
    by false is e later = later e

-- the rest of a declaration hands its own role down
rest_hands : (tokens : List Token) (nodes : List Node) (n : ℕ) (r : Role) → syntax.production_at nodes n ≡ p_rest → handed tokens nodes n r ≡ r
unfolding handed
rest_hands tokens nodes n r is =
    ap (λ (p : ℕ). if p == p_external then in_declaration tokens nodes n else (if p == p_declaration then in_declaration tokens nodes n else if p == p_rest then r else if p == p_parameter then role.Parameter else if p == p_specs then in_specs r else if p == p_type then in_type r else if p == p_primary then role.Name else if p == p_struct then in_struct nodes n r else if p == p_enum then in_enum nodes n else if p == p_statement then in_statement tokens nodes n else role.Elsewhere)) is

kind_two : (x : Specifiers) (function : Bool) → (kind_of (linkage_of x) true function ≡ Typedef) ⊎ (kind_of (linkage_of x) true function ≡ Linked)
kind_two x function = by x.is_typedef x.is_extern
  where
    by : (a b : Bool) → (kind_of (if a then linkage.Typedef else if b then linkage.External else linkage.Object) true function ≡ Typedef) ⊎ (kind_of (if a then linkage.Typedef else if b then linkage.External else linkage.Object) true function ≡ Linked)
    by true b = inl refl
    by false true = inr refl
    by false false = inr refl

same_linkage : (a b p q : ℕ) (l m : Linkage) (u v : Derivation) (x z : Option ℕ) → mention.Declares a p l u x ≡ mention.Declares b q m v z → l ≡ m
same_linkage a b p q l m u v x z e = cc

module _ (s : Source) (tree : Tree s) (shape : Shaped s.tokens (nodes s)) (brought : IsBrought s) where
  abbrev At : ℕ → Standing → Type 0
  At i st = StandsAt s.tokens (nodes s) i st

  abbrev file : ℕ
  file = length (nodes s)

  part_of : (p c : ℕ) → contains (children_at s p) c ≡ true → Part s.tokens (nodes s) p c
  part_of p c e = subst (λ (l : List ℕ). contains l c ≡ true) (sym (children_are s p)) e

  -- a node stands as its parent hands down
  record Handed (p c : ℕ) : Type 0 where
    above : Standing
    stands : At p above
    there : At c (handed_down s.tokens (nodes s) p above)

  handed_by : (p c : ℕ) → contains (children_at s p) c ≡ true → Handed p c
  handed_by p c child = by at.0 at.1 (parents s.tokens (nodes s) c at.0 at.1)
    where
      at : (st : Standing) × At c st
      at = let lt = shape.before p c (part_of p c child) in let whole = part_within s.tokens (nodes s) p c (part_of p c child) in stands s.tokens (nodes s) c (omega (arith, lt, whole))

      by : (st : Standing) → At c st → ((st ≡ outermost (length (nodes s))) × ((k : ℕ) (n : Node) → c < k → slice_get (nodes s) k ≡ Some n → contains n.children c ≡ false)) ⊎ HasParent s.tokens (nodes s) c st → Handed p c
      by st here (inl none) = let n = part_node s.tokens (nodes s) p c (part_of p c child) in absurd (no_both (contains n.0.children c) n.2 (none.1 p n.0 (shape.before p c (part_of p c child)) n.1))
      by st here (inr h) =
          let own : Part s.tokens (nodes s) h.parent c = subst (λ (o : Option Node). contains (syntax.children_of o) c ≡ true) (sym h.there) h.child in
          let same : h.parent ≡ p = shape.single h.parent p c own (part_of p c child) in
          record {
            above = h.above;
            stands = subst (λ (k : ℕ). At k h.above) same h.stands;
            there = subst (λ (x : Standing). At c x) (h.is ∙ ap (λ (k : ℕ). handed_down s.tokens (nodes s) k h.above) same) here;
          }

  -- ---- a declarator of an external declaration

  record AtFile (m : ℕ) : Type 0 where
    standing : Standing
    stands : At m standing
    specifiers : Specifiers
    role_is : standing.role ≡ role.Declaration specifiers
    scopes : standing.scopes ≡ file ∷ []
    form : is_a s p_declarator m ≡ true

  first_child_is : (p c : ℕ) → contains (children_at s p) c ≡ true → (specs : ℕ) × (syntax.first_child (nodes s) p ≡ Some specs)
  first_child_is p c h = by (children_at s p) (children_are s p) h
    where
      by : (l : List ℕ) → syntax.children_at (nodes s) p ≡ l → contains l c ≡ true → (specs : ℕ) × (syntax.first_child (nodes s) p ≡ Some specs)
      by [] e k = cc
      by (x ∷ l) e k = (x, ap syntax.first_of e)

  -- a part of an external declaration
  record Below (p c : ℕ) : Type 0 where
    standing : Standing
    stands : At c standing
    specifiers : Specifiers
    role_is : standing.role ≡ role.Declaration specifiers
    scopes : standing.scopes ≡ file ∷ []

  below : (p c : ℕ) → is_a s p_external p ≡ true → contains (children_at s p) c ≡ true → Below p c
  below p c external child =
      let h = handed_by p c child in
      let production : syntax.production_at (nodes s) p ≡ p_external = production_same s p_external p refl external in
      let first = first_child_is p c child in
      let flat : h.above.scopes ≡ file ∷ [] = (placed s.tokens (nodes s) shape p h.above h.stands).external (eq-eqb (syntax.production_at (nodes s) p) p_external production) in
      record {
        standing = handed_down s.tokens (nodes s) p h.above;
        stands = h.there;
        specifiers = specified s.tokens (nodes s) p first.0;
        role_is = external_hands s.text s.tokens (nodes s) p first.0 h.above.role production first.1;
        scopes = ap (λ (o : Option ℕ). with_scope o h.above.scopes) (opens s.tokens (nodes s) p_external p h.above.role production) ∙ flat;
      }

  direct : (p m : ℕ) → is_a s p_external p ≡ true → contains (children_at s p) m ≡ true → is_declarator s m ≡ true → AtFile m
  direct p m external child form =
      let b = below p m external child in
      record { standing = b.standing; stands = b.stands; specifiers = b.specifiers; role_is = b.role_is; scopes = b.scopes; form = in_external s brought p m external child form }

  through : (p q m : ℕ) → is_a s p_external p ≡ true → contains (children_at s p) q ≡ true → is_a s p_rest q ≡ true → contains (children_at s q) m ≡ true → is_declarator s m ≡ true → AtFile m
  through p q m external child rest inside form =
      let b = below p q external child in
      let h = handed_by q m inside in
      let same : h.above ≡ b.standing = stands_once s.tokens (nodes s) q h.above b.standing h.stands b.stands in
      let production : syntax.production_at (nodes s) q ≡ p_rest = production_same s p_rest q refl rest in
      record {
        standing = handed_down s.tokens (nodes s) q h.above;
        stands = h.there;
        specifiers = b.specifiers;
        role_is = rest_hands s.tokens (nodes s) q h.above.role production ∙ (ap (λ (x : Standing). x.role) same ∙ b.role_is);
        scopes = ap (λ (o : Option ℕ). with_scope o h.above.scopes) (opens s.tokens (nodes s) p_rest q h.above.role production) ∙ (ap (λ (x : Standing). x.scopes) same ∙ b.scopes);
        form = in_rest s brought q m rest inside form;
      }

  -- by its declaration
  at_file : (m p : ℕ) → is_declarator s m ≡ true → option_and_then (declaration_around s) (parent_of s m) ≡ Some p → is_a s p_external p ≡ true → AtFile m
  at_file m p form around external = by (parent_of s m) refl around
    where
      by : (o : Option ℕ) → parent_of s m ≡ o → option_and_then (declaration_around s) o ≡ Some p → AtFile m
      by None e f = cc
      by (Some q) e f = pick (is_a s p_rest q) (is_a s p_field q) refl refl f
        where
          inside : contains (children_at s q) m ≡ true
          inside = parent_holds s tree.grown q m e

          pick : (a b : Bool) → is_a s p_rest q ≡ a → is_a s p_field q ≡ b → (if a || b then parent_of s q else Some q) ≡ Some p → AtFile m
          pick true b x y g = through p q m external (parent_holds s tree.grown p q g) x inside form
          pick false true x y g = absurd (no_both (is_a s p_field q) y (no_field s brought p q external (parent_holds s tree.grown p q g) p_field refl))
          pick false false x y g = direct p m external (subst (λ (k : ℕ). contains (children_at s k) m ≡ true) (some_same g) inside) form

  -- ---- what it declares

  node_no_name : (m : ℕ) → is_a s p_declarator m ≡ true → syntax.is_name s.tokens (nodes s) m ≡ false
  node_no_name m h = ap (λ (p : ℕ). syntax.is_identifier (if p == leaf then syntax.token_kind s.tokens (syntax.token_at (nodes s) m) else End)) (production_same s p_declarator m refl h)

  module _ (senses : List Sense) (are : AreSenses s senses) (whole : length senses ≡ length s.nodes) where
    abbrev f : ℕ → Sense
    f = sense_in senses

    linked_by : (leaf m : ℕ) → IsDeclaredBy s senses m leaf → is_outermost s m ≡ true → AtFile m → is_typedef s f leaf ≡ false → is_linked s f leaf ≡ true
    linked_by name m one outer at plain = finish entry.0 entry.1
      where
        said : (declarator s.tokens (nodes s) m).name ≡ Some name
        said = said_name s tree.grown brought m name one.named at.form

        symbol : ℕ
        symbol = symbol_of s.text s.tokens (syntax.token_at (nodes s) name)

        mentions : mentioned s.text s.tokens (nodes s) m at.standing ≡ mention.Declares name (symbol_of s.text s.tokens (syntax.token_at (nodes s) name)) (linkage_of at.specifiers) (declarator s.tokens (nodes s) m).derivation at.specifiers.type_name
        mentions = declarator_declares s.text s.tokens (nodes s) m name at.standing at.specifiers (production_same s p_declarator m refl at.form) (node_no_name m at.form) at.role_is said

        entry : (y : Declared) × (find (λ (d : Declared). d.node == name) (bindings s.text s.tokens (nodes s)).names ≡ Some y)
        entry = comes_out s.text s.tokens (nodes s) m at.standing name (symbol_of s.text s.tokens (syntax.token_at (nodes s) name)) (linkage_of at.specifiers) (declarator s.tokens (nodes s) m).derivation at.specifiers.type_name at.stands mentions

        finish : (y : Declared) → find (λ (d : Declared). d.node == name) (bindings s.text s.tokens (nodes s)).names ≡ Some y → is_linked s f name ≡ true
        finish y found =
            let there : ordinary_at s name ≡ Some y = subst (λ (ds : List Declared). find (λ (d : Declared). d.node == name) ds ≡ Some y) (sym tree.names) found in
            let o = origin s.text s.tokens (nodes s) name y found in
            let h : HasOrigin s.text s.tokens (nodes s) y = o.0 in
            let reached = name_reached s tree.grown m name outer (inl at.form) (node_within s p_declarator m at.form refl) said in
            let node : h.node ≡ m = declared_by_outermost s tree.grown y m name outer reached h o.1 in
            let standing : h.standing ≡ at.standing = stands_once s.tokens (nodes s) m h.standing at.standing (subst (λ (k : ℕ). StandsAt s.tokens (nodes s) k h.standing) node h.stands) at.stands in
            let told : mention.Declares h.leaf h.symbol h.linkage h.derivation h.type_name ≡ mention.Declares name (symbol_of s.text s.tokens (syntax.token_at (nodes s) name)) (linkage_of at.specifiers) (declarator s.tokens (nodes s) m).derivation at.specifiers.type_name
            = sym h.mentions ∙ (ap (λ (k : ℕ). mentioned s.text s.tokens (nodes s) k h.standing) node ∙ (ap (mentioned s.text s.tokens (nodes s) m) standing ∙ mentions)) in
            let link : h.linkage ≡ linkage_of at.specifiers = same_linkage h.leaf name h.symbol _ h.linkage (linkage_of at.specifiers) h.derivation _ h.type_name _ told in
            let scope : (first_scope (length (nodes s)) h.standing.scopes == length (nodes s)) ≡ true = ap (λ (x : Standing). first_scope (length (nodes s)) x.scopes == length (nodes s)) standing ∙ (ap (λ (l : List ℕ). first_scope (length (nodes s)) l == length (nodes s)) at.scopes ∙ eq-eqb (length (nodes s)) (length (nodes s)) refl) in
            let function : Bool = is_function h.before.functions h.derivation h.type_name in
            let kind : y.kind ≡ kind_of (linkage_of at.specifiers) true (is_function h.before.functions h.derivation h.type_name)
            = ap (λ (d : Declared). d.kind) h.is ∙ (ap (λ (l : Linkage). kind_of l (first_scope (length (nodes s)) h.standing.scopes == length (nodes s)) (is_function h.before.functions h.derivation h.type_name)) link ∙ ap (λ (b : Bool). kind_of (linkage_of at.specifiers) b (is_function h.before.functions h.derivation h.type_name)) scope) in
            ap (λ (x : Option Declared). elim x as (λ _. Bool) [ None ↦ false | Some z ↦ has_linkage z ]) there
            ∙ pick y (kind_two at.specifiers (is_function h.before.functions h.derivation h.type_name)) kind (sym (ap (λ (x : Option Declared). elim x as (λ _. Bool) [ None ↦ false | Some z ↦ names_type z ]) there) ∙ plain)
          where
            pick : (y : Declared) {k : Kind} → (k ≡ Typedef) ⊎ (k ≡ Linked) → y.kind ≡ k → names_type y ≡ false → has_linkage y ≡ true
            pick y (inl type_is) kind no_type = absurd (no_both (is_typedef_kind y.kind) (ap is_typedef_kind (kind ∙ type_is)) no_type)
            pick y (inr linked) kind no_type = ap is_linked_kind (kind ∙ linked)

    -- a name that is declared by an external declaration
    pub file_linked : (leaf p : ℕ) → is_declaring s senses leaf ≡ true → declaration_of s f leaf ≡ Some p → is_a s p_external p ≡ true → is_typedef s f leaf ≡ false → is_linked s f leaf ≡ true
    file_linked name p declares declaration external plain = by (outermost_of s name) refl declares declaration
      where
        both : (a b : Bool) → (a && b) ≡ true → b ≡ true
        both true b e = e
        both false b e = cc

        left : (a b : Bool) → (a && b) ≡ true → a ≡ true
        left true b e = refl
        left false b e = cc

        own : (m : ℕ) → outermost_of s name ≡ Some m → is_outermost s m ≡ true → (x : Sense) → f m ≡ x → (elim x as (λ _. Bool) [ IsDeclarator n ds ↦ same_length n (Some name) | _ ↦ false ]) ≡ true → option_and_then (declaration_around s) (parent_of s m) ≡ Some p → is_linked s f name ≡ true
        own m up outer (IsDeclarator (Some n) ds) sense e around =
            let same : n ≡ name = eqb-true n name e in
            let form : is_declarator s m ≡ true = left (is_declarator s m) _ outer in
            let at = at_file m p form around external in
            let lt : m < length senses = (let inside = node_within s p_declarator m at.form refl in omega (arith, inside, whole)) in
            let one : IsDeclaredBy s senses m name = leaves_declared.by_sense s senses are tree.grown brought m name ds lt outer (sense ∙ ap (λ (k : ℕ). IsDeclarator (Some k) ds) same) in
            linked_by name m one outer at plain
        own m up outer (IsDeclarator None ds) sense e around = cc
        own m up outer x sense e around = cc

        by : (o : Option ℕ) → outermost_of s name ≡ o
            → (is_name s name && (elim o as (λ _. Bool) [ None ↦ false | Some d ↦ elim (f d) as (λ _. Bool) [ IsDeclarator n ds ↦ same_length n (Some name) | _ ↦ false ] ])) ≡ true
            → option_and_then (declaration_around s) (option_and_then (parent_of s) o) ≡ Some p → is_linked s f name ≡ true
        by None up h around = absurd (cc)
        by (Some m) up h around = own m up (outermost_is name m up) (f m) refl (both (is_name s name) _ h) around
          where
            outermost_is : (leaf m : ℕ) → outermost_of s leaf ≡ Some m → is_outermost s m ≡ true
            outermost_is leaf m e = found_above s (is_outermost s) (length s.nodes) m (parent_of s leaf) e
