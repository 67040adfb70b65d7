-- What is stored as a function's body.
use Rattle.std.proofs.Common.{◌≡◌, ◌<◌, ℕ, zero, suc, ◌||◌, ◌&&◌, ◌==◌, nat_eq, Bool, true, false, List, [], ◌∷◌, Option, Some, None, take, length, slice_get, eq-eqb, refl, sym, ap, ◌∙◌, subst, ◌⊎◌, inl, inr}
use Rattle.std.specs.Prelude.{is_none, is_some, option_and_then, option_map, if◌then◌else◌}
use Rattle.std.specs.List.{find}
use Rattle.std.proofs.lemmas.Bool.{eqb-true}
use Rattle.pta_base.specs.declared.place.Place.{Place}
use Rattle.c_types.specs.Trees.{Ctype, VoidType, FunctionFrom}
use Rattle.c_grammar.specs.declared.trees.SyntaxNode.{SyntaxNode}
use Rattle.c_grammar.specs.Productions.{p_external, p_rest, p_field, p_block, p_declarator, p_either}
use Rattle.c_grammar.specs.Terminals.{contains}
use Rattle.c_grammar.specs.Words.{word_extern}
use Rattle.c_grammar.specs.Reads.{Node}
use Rattle.c_mentions.specs.Syntax as syntax
use Rattle.c_mentions.specs.Declarators.{declarator}
use Rattle.c_mentions.specs.Symbols.{symbol_of}
use Rattle.c_mentions.specs.declared.mentions.Linkage.{Linkage as Words}
use Rattle.c_mentions.specs.declared.mentions.Linkage.TheVariants as linkage
use Rattle.c_scope.specs.declared.kinds.Kind.TheVariants.{Plain}
use Rattle.c_scope.specs.declared.kinds.Declared.{Declared as Declaration}
use Rattle.c_scope.specs.Known.{first_scope, kind_of, is_function}
use Rattle.core_tree.specs.declared.node.NodeKind.TheVariants.{Block}
use Rattle.core_tree.specs.declared.node.Linkage.{Linkage}
use Rattle.core_tree.specs.declared.node.Linkage.TheVariants.{External, Internal, Local}
use Rattle.core_tree.specs.declared.node.Storage.{Storage}
use Rattle.core_tree.specs.declared.node.Storage.TheVariants.{Static, Automatic, FunctionBody, Parameter, Declared}
use Rattle.core_tree.specs.Rows.{IsFunction}
use Rattle.c_consts.specs.Core.{Core, Cores, Of}
use Rattle.c_senses.specs.Tree.{Source, production_of, children_at, is_a, child_of, parent_of, above_within, place_at}
use Rattle.c_senses.specs.Names.{ordinary_at, is_linked_kind, has_linkage}
use Rattle.c_senses.specs.Given.{Given, Fits}
use Rattle.c_senses.specs.World.{World, same_length}
use Rattle.c_senses.specs.Declarators.{is_declarator, is_outermost, outermost_of, declaration_around}
use Rattle.c_senses.specs.Entities.{declaration_of, is_defined, is_linked, is_parameter, declares_function, initialiser_for, has_storage, is_static_object, own_type, storage_of, linkage_of, all_together, types_of, first_of, keep}
use Rattle.c_senses.specs.Statements.{objects_in, cores_in, statement}
use Rattle.c_senses.specs.Rows.{AreSenses, row_of, world_at}
use Rattle.c_senses.specs.Sense.{Sense, IsCore, IsDeclarator, sense_in}
use Rattle.c_senses.specs.Right.{Declared as Declares, IsDeclaredAt, is_declaring, declares_entity, declared_as, entity_type, internal_type, representative, core_of_sense, block_for, body_at, of_internal, with_one, is_tentative, is_definition_at}
use Rattle.declaration_laws.specs.definition_laws.Definitions.{is_definition}
use Rattle.parsed_tree_laws.proofs.placed_laws.Climbing.{row_at, found_where}
use Rattle.parsed_tree_laws.proofs.placed_laws.Adding.{All}
use Rattle.declaration_laws.specs.definition_laws.linkage_laws.Linked.{StandsLinked}
use Rattle.declaration_laws.proofs.definition_laws.linkage_laws.Origins.{HasOrigin, origin}
use Rattle.declaration_laws.proofs.definition_laws.linkage_laws.Seen.{nodes, some_same, none_some, no_both, production_is, node_within, apart, parent_holds}
use Rattle.declaration_laws.proofs.definition_laws.linkage_laws.Roles as roles
use Rattle.declaration_laws.proofs.definition_laws.linkage_laws.Chains.{either_is, declaring, name_reached}
use Rattle.declaration_laws.proofs.definition_laws.linkage_laws.Linked.{Tree}
use Rattle.declaration_laws.proofs.definition_laws.linkage_laws.Unlinked.{stands_for}
use Rattle.declaration_laws.specs.definition_laws.function_definitions.Defined.{Defines}
use Rattle.declaration_laws.proofs.definition_laws.function_definitions.Declaring.{outer_is, Declares as declares_role}
use Rattle.declaration_laws.proofs.function_laws.function_bodies.Heads.{Parts, body_part}

found_above : (s : Source) (test : ℕ → Bool) (fuel d : ℕ) (o : Option ℕ) → above_within s test fuel o ≡ Some d → test d ≡ true
found_above s test zero d o e = absurd (none_some e)
found_above s test (suc fuel) d None e = absurd (none_some e)
found_above s test (suc fuel) d (Some p) e = by (test p) refl e (λ f. found_above s test fuel d (parent_of s p) f)
  where
    by : (b : Bool) → test p ≡ b → (if b then Some p else above_within s test fuel (parent_of s p)) ≡ Some d → (above_within s test fuel (parent_of s p) ≡ Some d → test d ≡ true) → test d ≡ true
    by true is e later = ap test (sym (some_same e)) ∙ is
    by false is e later = later e

and_then_some : {A B : Type 0} → (o : Option A) (k : A → Option B) (y : B) → option_and_then k o ≡ Some y → (x : A) × (o ≡ Some x) × (k x ≡ Some y)
and_then_some None k y e = absurd (none_some e)
and_then_some (Some x) k y e = (x, refl, e)

left : (a b : Bool) → (a && b) ≡ true → a ≡ true
left true b e = refl
left false b e = cc

right : (a b : Bool) → (a && b) ≡ true → b ≡ true
right true b e = e
right false b e = cc

member : (k x : ℕ) (ks : List ℕ) → contains (k ∷ ks) x ≡ true → (k ≡ x) ⊎ (contains ks x ≡ true)
member k x ks h = by (nat_eq k x) refl h
  where
    by : (b : Bool) → nat_eq k x ≡ b → (b || contains ks x) ≡ true → (k ≡ x) ⊎ (contains ks x ≡ true)
    by true e f = inl (eqb-true k x e)
    by false e f = inr f

module _ (s : Source) (tree : Tree s) (senses : List Sense) (are : AreSenses s senses) (whole : length senses ≡ length s.nodes) (parts : (q : ℕ) → is_definition s q ≡ true → Parts (nodes s) (children_at s q)) where
  abbrev f : ℕ → Sense
  f i = sense_in senses i

  at_part : (x : ℕ) (ks : List ℕ) → All body_part (nodes s) ks → contains ks x ≡ true → (is_a s 5 x ≡ true) ⊎ (is_a s 29 x ≡ true)
  at_part x [] h c = cc
  at_part x (k ∷ ks) h c = by (member k x ks c) (λ more. at_part x ks h.1 more)
    where
      two : (p : ℕ) → contains (5 ∷ 29 ∷ []) p ≡ true → (p ≡ 5) ⊎ (p ≡ 29)
      two p e = pick (nat_eq 5 p) (nat_eq 29 p) refl refl e
        where
          pick : (a b : Bool) → nat_eq 5 p ≡ a → nat_eq 29 p ≡ b → (a || (b || false)) ≡ true → (p ≡ 5) ⊎ (p ≡ 29)
          pick true b ea eb e = inl (sym (eqb-true 5 p ea))
          pick false true ea eb e = inr (sym (eqb-true 29 p eb))
          pick false false ea eb e = cc

      here : (p : ℕ) → h.0.0.production ≡ p → nat_eq 48 p ≡ false → is_a s p k ≡ true
      here p e other = production_is s p k other (ap (λ (o : Option Node). nat_eq (syntax.production_of o) p) h.0.1 ∙ eq-eqb h.0.0.production p e)

      by : (k ≡ x) ⊎ (contains ks x ≡ true) → (contains ks x ≡ true → (is_a s 5 x ≡ true) ⊎ (is_a s 29 x ≡ true)) → (is_a s 5 x ≡ true) ⊎ (is_a s 29 x ≡ true)
      by (inr more) later = later more
      by (inl same) later = pick (two h.0.0.production h.0.2)
        where
          pick : (h.0.0.production ≡ 5) ⊎ (h.0.0.production ≡ 29) → (is_a s 5 x ≡ true) ⊎ (is_a s 29 x ≡ true)
          pick (inl e) = inl (subst (λ (j : ℕ). is_a s 5 j ≡ true) same (here 5 e refl))
          pick (inr e) = inr (subst (λ (j : ℕ). is_a s 29 j ≡ true) same (here 29 e refl))

  quiet : (i a : ℕ) → is_a s a i ≡ true → nat_eq a 19 ≡ false → nat_eq a 20 ≡ false → nat_eq a 21 ≡ false → is_declarator s i ≡ false
  quiet i a h x y z = by (is_a s 19 i) (is_a s 20 i) (is_a s 21 i) (apart s i a 19 h x) (apart s i a 20 h y) (apart s i a 21 h z)
    where
      by : (a b c : Bool) → a ≡ false → b ≡ false → c ≡ false → (a || b || c) ≡ false
      by true b c e g k = cc
      by false true c e g k = cc
      by false false true e g k = cc
      by false false false e g k = refl

  specs_six : (q : ℕ) (is : is_definition s q ≡ true) → is_a s 6 (parts q is).specs ≡ true
  specs_six q is = let h = parts q is in production_is s 6 h.specs refl (ap (λ (o : Option Node). nat_eq (syntax.production_of o) 6) h.there ∙ eq-eqb h.node.production 6 h.is)

  -- a declarator that is a part of a definition is the one of it
  only_declarator : (q x : ℕ) (is : is_definition s q ≡ true) → contains (children_at s q) x ≡ true → is_declarator s x ≡ true → x ≡ (parts q is).declarator
  only_declarator q x is child declares = by (member h.specs x (h.declarator ∷ h.rest) (subst (λ (l : List ℕ). contains l x ≡ true) h.are child))
    where
      h : Parts (nodes s) (children_at s q)
      h = parts q is

      rest : (is_a s 5 x ≡ true) ⊎ (is_a s 29 x ≡ true) → ⊥
      rest (inl e) = no_both (is_declarator s x) declares (quiet x 5 e refl refl refl)
      rest (inr e) = no_both (is_declarator s x) declares (quiet x 29 e refl refl refl)

      second : (h.declarator ≡ x) ⊎ (contains h.rest x ≡ true) → x ≡ h.declarator
      second (inl e) = sym e
      second (inr e) = absurd (rest (at_part x h.rest h.behind e))

      by : (h.specs ≡ x) ⊎ (contains (h.declarator ∷ h.rest) x ≡ true) → x ≡ h.declarator
      by (inl e) = absurd (no_both (is_declarator s x) declares (quiet x 6 (subst (λ (j : ℕ). is_a s 6 j ≡ true) e (specs_six q is)) refl refl refl))
      by (inr e) = second (member h.declarator x h.rest e)

  -- neither the rest of a declaration nor a field is one
  no_other : (q x : ℕ) (is : is_definition s q ≡ true) → contains (children_at s q) x ≡ true → is_declarator s (parts q is).declarator ≡ true → (a : ℕ) → is_a s a x ≡ true → nat_eq a 6 ≡ false → nat_eq a 5 ≡ false → nat_eq a 29 ≡ false → is_declarator s x ≡ false → ⊥
  no_other q x is child one a is_one six five block none = by (member h.specs x (h.declarator ∷ h.rest) (subst (λ (l : List ℕ). contains l x ≡ true) h.are child))
    where
      h : Parts (nodes s) (children_at s q)
      h = parts q is

      rest : (is_a s 5 x ≡ true) ⊎ (is_a s 29 x ≡ true) → ⊥
      rest (inl e) = no_both (is_a s 5 x) e (apart s x a 5 is_one five)
      rest (inr e) = no_both (is_a s 29 x) e (apart s x a 29 is_one block)

      second : (h.declarator ≡ x) ⊎ (contains h.rest x ≡ true) → ⊥
      second (inl e) = no_both (is_declarator s x) (subst (λ (j : ℕ). is_declarator s j ≡ true) e one) none
      second (inr e) = rest (at_part x h.rest h.behind e)

      by : (h.specs ≡ x) ⊎ (contains (h.declarator ∷ h.rest) x ≡ true) → ⊥
      by (inl e) = no_both (is_a s 6 x) (subst (λ (j : ℕ). is_a s 6 j ≡ true) e (specs_six q is)) (apart s x a 6 is_one six)
      by (inr e) = second (member h.declarator x h.rest e)

  -- a name in a definition stands in its declarator
  head_of : (r q : ℕ) (is : is_definition s q ≡ true) → is_declarator s (parts q is).declarator ≡ true → declaration_of s f r ≡ Some q → outermost_of s r ≡ Some (parts q is).declarator
  head_of r q is one e =
      let a = and_then_some (option_and_then (parent_of s) (outermost_of s r)) (declaration_around s) q e in
      let b = and_then_some (outermost_of s r) (parent_of s) a.0 a.1 in
      let outer : is_outermost s b.0 ≡ true = found_above s (is_outermost s) (length s.nodes) b.0 (parent_of s r) b.1 in
      let declares : is_declarator s b.0 ≡ true = left (is_declarator s b.0) _ outer in
      let same = where_is a.0 b.0 b.2 a.2 declares in
      b.1 ∙ ap (λ (k : ℕ). Some k) same
    where
      where_is : (p x : ℕ) → parent_of s x ≡ Some p → declaration_around s p ≡ Some q → is_declarator s x ≡ true → x ≡ (parts q is).declarator
      where_is p x up around declares = by (is_a s p_rest p) (is_a s p_field p) refl refl around
        where
          by : (a b : Bool) → is_a s p_rest p ≡ a → is_a s p_field p ≡ b → (if a || b then parent_of s p else Some p) ≡ Some q → x ≡ (parts q is).declarator
          by true b rest field k = absurd (no_other q p is (parent_holds s tree.grown q p k) one p_rest rest refl refl refl (quiet p p_rest rest refl refl refl))
          by false true rest field k = absurd (no_other q p is (parent_holds s tree.grown q p k) one p_field field refl refl refl (quiet p p_field field refl refl refl))
          by false false rest field k = only_declarator q x is (subst (λ (j : ℕ). contains (children_at s j) x ≡ true) (some_same k) (parent_holds s tree.grown p x up)) declares

  -- two names of one outermost declarator are one
  abbrev says_name : Sense → ℕ → Bool
  says_name x r = elim x as (λ _. Bool) [ IsDeclarator name ds ↦ same_length name (Some r) | _ ↦ false ]

  one_name : (x : Sense) (a b : ℕ) → says_name x a ≡ true → says_name x b ≡ true → a ≡ b
  one_name (IsDeclarator (Some n) ds) a b h k = sym (eqb-true n a h) ∙ eqb-true n b k
  one_name (IsDeclarator None ds) a b h k = cc
  one_name x a b h k = cc

  said : (r o : ℕ) → is_declaring s senses r ≡ true → outermost_of s r ≡ Some o → says_name (f o) r ≡ true
  said r o h e = sym (ap (λ (x : Option ℕ). elim x as (λ _. Bool) [ None ↦ false | Some y ↦ says_name (f y) r ]) e) ∙ right _ _ h

  -- the name that a linked name's declarator has for the resolution of names
  mentioned_name : (r o : ℕ) → is_linked s f r ≡ true → outermost_of s r ≡ Some o → (declarator s.tokens (nodes s) o).name ≡ Some r
  mentioned_name r o h e = by (ordinary_at s r) refl h
    where
      pick : (y : Declaration) → has_linkage y ≡ true → (h2 : HasOrigin s.text s.tokens (nodes s) y) → y.node ≡ r → (h2.linkage ≡ linkage.Never) ⊎ roles.ByDeclarator s.tokens (nodes s) h2.node h2.standing.role h2.leaf h2.linkage h2.derivation h2.type_name
          → (declarator s.tokens (nodes s) o).name ≡ Some r
      pick y linked h2 node (inl never) =
          let plain : y.kind ≡ Plain = ap (λ (d : Declaration). d.kind) h2.is ∙ ap (λ (l : Words). kind_of l (first_scope (length (nodes s)) h2.standing.scopes == length (nodes s)) (is_function h2.before.functions h2.derivation h2.type_name)) never in
          absurd (let bad : is_linked_kind Plain ≡ true = ap is_linked_kind (sym plain) ∙ linked in cc)
      pick y linked h2 node (inr b) =
          let which = either_is s tree.grown h2.node p_declarator p_either refl refl b.production in
          let outer = outer_is s tree.grown h2.node h2.standing h2.stands (subst declares_role (sym b.role_is) tt) (declaring s tree.grown h2.node which) in
          let name : (declarator s.tokens (nodes s) h2.node).name ≡ Some r = b.name ∙ ap (λ (k : ℕ). Some k) (sym (ap (λ (x : Declaration). x.node) h2.is) ∙ node) in
          let reached = name_reached s tree.grown h2.node r outer which (inside which) name in
          let same : h2.node ≡ o = some_same (sym reached.outermost ∙ e) in
          subst (λ (k : ℕ). (declarator s.tokens (nodes s) k).name ≡ Some r) same name
        where
          inside : (is_a s p_declarator h2.node ≡ true) ⊎ (is_a s p_either h2.node ≡ true) → h2.node < length s.nodes
          inside (inl x) = node_within s p_declarator h2.node x refl
          inside (inr x) = node_within s p_either h2.node x refl

      by : (x : Option Declaration) → ordinary_at s r ≡ x → (elim x as (λ _. Bool) [ None ↦ false | Some z ↦ has_linkage z ]) ≡ true → (declarator s.tokens (nodes s) o).name ≡ Some r
      by None at k = cc
      by (Some y) at k =
          let there = origin s.text s.tokens (nodes s) r y (subst (λ (ds : List Declaration). find (λ (d : Declaration). d.node == r) ds ≡ Some y) tree.names at) in
          pick y k there.0 there.1 (roles.declares s.tokens (nodes s) s.text (symbol_of s.text s.tokens) there.0.node there.0.standing.role there.0.leaf there.0.symbol there.0.linkage there.0.derivation there.0.type_name (_) there.0.mentions)

  module _ (defines : (q : ℕ) → is_definition s q ≡ true → Defines s senses q) (declarators : (q : ℕ) (is : is_definition s q ≡ true) → is_declarator s (parts q is).declarator ≡ true) where
    defined_in : (r : ℕ) → is_defined s f r ≡ true → (q : ℕ) × (is_definition s q ≡ true) × (declaration_of s f r ≡ Some q)
    defined_in r h = by (declaration_of s f r) refl h
      where
        by : (x : Option ℕ) → declaration_of s f r ≡ x → (elim x as (λ _. Bool) [ None ↦ false | Some p ↦ is_a s p_external p && is_some (child_of s p_block p) ]) ≡ true → (q : ℕ) × (is_definition s q ≡ true) × (declaration_of s f r ≡ Some q)
        by None e k = cc
        by (Some p) e k = (p, k, e)

    -- a name that stands in a definition is the definition's name
    pub named_by : (r q : ℕ) (is : is_definition s q ≡ true) → declaration_of s f r ≡ Some q → (is_declaring s senses r ≡ true) ⊎ (is_linked s f r ≡ true) → r ≡ (defines q is).name
    named_by r q is e which = by which
      where
        h : Defines s senses q
        h = defines q is

        own_outer : outermost_of s r ≡ Some (parts q is).declarator
        own_outer = head_of r q is (declarators q is) e

        their_outer : outermost_of s h.name ≡ Some (parts q is).declarator
        their_outer = head_of h.name q is (declarators q is) h.declaration

        by : (is_declaring s senses r ≡ true) ⊎ (is_linked s f r ≡ true) → r ≡ h.name
        by (inl d) = one_name (f (parts q is).declarator) r h.name (said r (parts q is).declarator d own_outer) (said h.name (parts q is).declarator h.declaring their_outer)
        by (inr l) = some_same (sym (mentioned_name r (parts q is).declarator l own_outer) ∙ mentioned_name h.name (parts q is).declarator h.linked their_outer)

    -- ---- what is stored as a body

    own_defined : (r : ℕ) → storage_of s f r ≡ FunctionBody → is_defined s f r ≡ true
    own_defined r e = by (is_parameter s f r) (declares_function s f r) (is_defined s f r) (has_storage s f word_extern r && is_none (initialiser_for s f r)) (is_static_object s f r) e
      where
        by : (p x d n t : Bool) → (if p then Parameter else if x then (if d then FunctionBody else Declared) else if n then Declared else if t then Static else Automatic) ≡ FunctionBody → d ≡ true
        by true x d n t e = cc
        by false true true n t e = refl
        by false true false n t e = cc
        by false false d true t e = cc
        by false false d false true e = cc
        by false false d false false e = cc

    kept_storage : (x : Storage) (function : Bool) → (elim x as (λ _. Storage) [ Declared ↦ if function then Declared else Static | other ↦ other ]) ≡ FunctionBody → x ≡ FunctionBody
    kept_storage Declared true h = cc
    kept_storage Declared false h = cc
    kept_storage x function h = h

    -- the block of a function's definition
    abbrev chosen : ℕ → Linkage → ℕ
    chosen d linkage =
        elim linkage [
          | Internal ↦ first_of s f (first_of s f d (keep s f (is_tentative s senses) (of_internal s senses d))) (keep s f (is_definition_at s senses) (of_internal s senses d))
          | _ ↦ d
        ]

    pub record HasBlock (o : Option Core) : Type 0 where
      pub objects : List ℕ
      pub place : Place
      pub type : Ctype
      pub under : Cores
      pub is : o ≡ Some (Of (Block objects) place type under)

    block_sense : (blk : ℕ) → is_a s p_block blk ≡ true → HasBlock (core_of_sense s senses (f blk))
    block_sense blk h = by (slice_get s.nodes blk) refl h
      where
        told : (w : World) (sense : ℕ → Sense) (p at : ℕ) (children : List ℕ) (y : Sense) → p ≡ 29 → row_of w s sense p at children ≡ Fits y → IsCore (statement (Block (objects_in w s sense children)) (place_at s at) (cores_in w s sense children)) ≡ y
        told w sense p at children y is e = let row : row_of w s sense 29 at children ≡ Fits y = subst (λ (q : ℕ). row_of w s sense q at children ≡ Fits y) is e in fits_same row
          where
            fits_same : {x z : Sense} → ◌≡◌ {A = Given Sense} (Fits x) (Fits z) → x ≡ z
            fits_same e = cc

        by : (o : Option SyntaxNode) → slice_get s.nodes blk ≡ o → nat_eq (production_of o) 29 ≡ true → HasBlock (core_of_sense s senses (f blk))
        by None at e = cc
        by (Some n) at e =
            let w = world_at s (take blk senses) blk in
            let sense = sense_in (take blk senses) in
            let is = told w sense n.production blk n.children.items (f blk) (eqb-true n.production 29 e) (row_at s senses tree.grown are whole blk n at) in
            record { objects = objects_in w s sense n.children.items; place = place_at s blk; type = VoidType; under = cores_in w s sense n.children.items; is = ap (core_of_sense s senses) (sym is) }

    block_there : (r q : ℕ) → is_defined s f r ≡ true → is_definition s q ≡ true → declaration_of s f r ≡ Some q → HasBlock (body_at s senses r)
    block_there r q defined is e =
        subst HasBlock (sym (ap (λ (b : Bool). if b then option_and_then (λ x. core_of_sense s senses (f x)) (block_for s senses r) else option_and_then (λ x. core_of_sense s senses (f x)) (initialiser_for s f r)) defined
        ∙ ap (λ (o : Option ℕ). option_and_then (λ x. core_of_sense s senses (f x)) (option_and_then (child_of s p_block) o)) e)) (by (child_of s p_block q) refl (right (is_a s p_external q) (is_some (child_of s p_block q)) is))
      where
        by : (o : Option ℕ) → child_of s p_block q ≡ o → is_some o ≡ true → HasBlock (option_and_then (λ x. core_of_sense s senses (f x)) o)
        by None at h = cc
        by (Some x) at h = block_sense x (found_where (is_a s p_block) (children_at s q) x at)

    pub record Stored (what : Declares) : Type 0 where
      pub function : IsFunction what.type
      pub body : HasBlock what.body

    pub stored : ((leaf : ℕ) → is_linked s f leaf ≡ true → StandsLinked s f leaf) → (d : ℕ) (what : Declares) → IsDeclaredAt s senses d what → what.storage ≡ FunctionBody → Stored what
    stored each d what (inr (c, literal, is)) e = absurd (by _ (ap (λ (x : Declares). x.storage) (sym is) ∙ e))
      where
        by : (b : Bool) → (if b then Automatic else Static) ≡ FunctionBody → ⊥
        by true h = cc
        by false h = cc
    stored each d what (inl told) e = pick (declares_entity s senses d) refl (entity_type s senses d) refl told
      where
        finish : (t : Ctype) → entity_type s senses d ≡ Some t → declared_as s senses d t ≡ what → (r : ℕ) → representative s senses d ≡ r → is_defined s f r ≡ true → entity_type s senses d ≡ own_type s f r → (is_declaring s senses r ≡ true) ⊎ (is_linked s f r ≡ true) → Stored what
        finish t type same r rep defined own which =
            let q = defined_in r defined in
            let h = defines q.0 q.1 in
            let name = named_by r q.0 q.1 q.2 which in
            let is_type : t ≡ FunctionFrom h.result h.parameters h.form = some_same (sym type ∙ (own ∙ (ap (own_type s f) name ∙ h.type))) in
            record { function = subst IsFunction (sym (ap (λ (x : Declares). x.type) (sym same) ∙ is_type)) tt; body = subst HasBlock (ap (body_at s senses) (sym rep) ∙ ap (λ (x : Declares). x.body) same) (block_there r q.0 defined q.1 q.2) }

        linkage_is : (l : Linkage) → linkage_of s f d ≡ l → is_declaring s senses d ≡ true → (t : Ctype) → entity_type s senses d ≡ Some t → declared_as s senses d t ≡ what
            → (elim l as (λ _. Storage) [ Internal ↦ (elim (storage_of s f (representative s senses d)) as (λ _. Storage) [ Declared ↦ if declares_function s f d then Declared else Static | other ↦ other ]) | _ ↦ storage_of s f d ]) ≡ FunctionBody → Stored what
        linkage_is Internal l declares t type same storage =
            let defined = own_defined (representative s senses d) (kept_storage (storage_of s f (representative s senses d)) (declares_function s f d) storage) in
            finish t type same (representative s senses d) refl defined
            (ap (λ (x : Linkage). elim x as (λ _. Option Ctype) [ Internal ↦ internal_type s senses d | _ ↦ own_type s f d ]) l
            ∙ ap (λ (b : Bool). if b then own_type s f (representative s senses d) else option_map (with_one s senses) (all_together None (types_of s f (of_internal s senses d)))) defined)
            (inr (left (is_linked s f (representative s senses d)) _ (stands_for s senses each d l)))
        linkage_is External l declares t type same storage =
            finish t type same d (ap (chosen d) l) (own_defined d storage) (ap (λ (x : Linkage). elim x as (λ _. Option Ctype) [ Internal ↦ internal_type s senses d | _ ↦ own_type s f d ]) l) (inl declares)
        linkage_is Local l declares t type same storage =
            finish t type same d (ap (chosen d) l) (own_defined d storage) (ap (λ (x : Linkage). elim x as (λ _. Option Ctype) [ Internal ↦ internal_type s senses d | _ ↦ own_type s f d ]) l) (inl declares)

        pick : (a : Bool) → declares_entity s senses d ≡ a → (o : Option Ctype) → entity_type s senses d ≡ o → (if a then option_map (declared_as s senses d) o else None) ≡ Some what → Stored what
        pick false is o type k = absurd (none_some k)
        pick true is None type k = absurd (none_some k)
        pick true is (Some t) type k =
            let same = some_same k in
            linkage_is (linkage_of s f d) refl (left (is_declaring s senses d) _ is) t type same (ap (λ (x : Declares). x.storage) same ∙ e)
