-- What is seen at file scope, each declaration in a block that is seen saw too.
use Rattle.std.proofs.Common.{arith, ◌≡◌, ◌<◌, ◌≤◌, ◌==◌, ◌||◌, ℕ, zero, suc, nat_eq, Bool, true, false, cond, List, [], ◌∷◌, map, get_or, Option, Some, None, length, slice_get, eq-eqb, refl, sym, ap, ◌∙◌, subst, ◌⊎◌, inl, inr}
use Rattle.std.specs.Prelude.{option_and_then, if◌then◌else◌}
use Rattle.std.specs.List.{find}
use Rattle.std.proofs.lemmas.Bool.{eqb-true}
use Rattle.c_grammar.specs.declared.trees.SyntaxNode.{SyntaxNode}
use Rattle.c_grammar.specs.Reads.{Node, node_of, leaf}
use Rattle.c_grammar.specs.Productions.{p_external, p_rest, p_declaration, p_field, p_statement, p_declarator, p_either}
use Rattle.c_grammar.specs.Terminals.{contains}
use Rattle.c_mentions.specs.declared.mentions.Linkage.{Linkage}
use Rattle.c_mentions.specs.declared.mentions.Linkage.TheVariants as linkage
use Rattle.c_mentions.specs.declared.roles.Role.TheVariants as role
use Rattle.c_mentions.specs.Syntax as syntax
use Rattle.c_mentions.specs.Declarators.{declarator}
use Rattle.c_mentions.specs.Settings.{Standing, standings}
use Rattle.c_mentions.specs.Symbols.{symbol_of}
use Rattle.c_scope.specs.declared.kinds.Kind.TheVariants.{Plain}
use Rattle.c_scope.specs.declared.kinds.Declared.{Declared}
use Rattle.c_scope.specs.Known.{first_scope, kind_of, is_function, those_at}
use Rattle.c_senses.specs.Tree.{Source, children_at, is_a, parent_of}
use Rattle.c_senses.specs.Names.{has_linkage, is_linked_kind, all_linked, scopes_at, made_before, linked_along, linked_before}
use Rattle.c_senses.specs.Declarators.{is_outermost, outermost_of, declaration_around}
use Rattle.c_senses.specs.Entities.{declaration_of, is_at_file}
use Rattle.c_senses.specs.Sense.{Sense}
use Rattle.declaration_laws.specs.declared_type_laws.owner_laws.passed.definition_laws.scope_laws.Beneath.{part, deeper}
use Rattle.declaration_laws.specs.declared_type_laws.owner_laws.passed.definition_laws.scope_laws.Scoped.{DeclaredOnce}
use Rattle.declaration_laws.proofs.declared_type_laws.owner_laws.passed.definition_laws.scope_laws.Tree.{further}
use Rattle.declaration_laws.proofs.declared_type_laws.owner_laws.passed.definition_laws.scope_laws.Scopes.{Part, Below, IsOf}
use Rattle.declaration_laws.proofs.declared_type_laws.owner_laws.passed.definition_laws.scope_laws.Knowing.{one_maker, made_below}
use Rattle.declaration_laws.proofs.declared_type_laws.owner_laws.passed.definition_laws.linkage_laws.Origins.{HasOrigin}
use Rattle.declaration_laws.proofs.declared_type_laws.owner_laws.passed.definition_laws.linkage_laws.Seen.{nodes, production_same, children_are, node_within, parent_is}
use Rattle.declaration_laws.proofs.declared_type_laws.owner_laws.passed.definition_laws.linkage_laws.Seen.{apart as differ}
use Rattle.declaration_laws.proofs.declared_type_laws.owner_laws.passed.definition_laws.linkage_laws.Roles as roles
use Rattle.declaration_laws.proofs.declared_type_laws.owner_laws.passed.definition_laws.linkage_laws.Chains.{Declares, Reached, declares, either_is, declaring, name_reached}
use Rattle.declaration_laws.proofs.declared_type_laws.owner_laws.passed.definition_laws.linkage_laws.Scopes.{rests_nest, inner}
use Rattle.declaration_laws.proofs.declared_type_laws.owner_laws.passed.definition_laws.linkage_laws.Linked.{Tree}
use Rattle.declaration_laws.proofs.declared_type_laws.owner_laws.passed.definition_laws.function_definitions.Declaring.{outer_is, Declares as declares_role}
use Rattle.declaration_laws.proofs.declared_type_laws.owner_laws.internal_laws.Sorted as sorted
use Rattle.declaration_laws.specs.declared_type_laws.seen_onward.Seen.{In}
use Rattle.declaration_laws.proofs.declared_type_laws.seen_onward.Lists.{in_those, to_those, all_have, IsSeen, seen, seen_on, seen_first, SameAt, same_along}
use Rattle.declaration_laws.proofs.declared_type_laws.seen_onward.Descent.{StandsAt, stands_within, stands_once, stands}
use Rattle.declaration_laws.proofs.declared_type_laws.seen_onward.Openers.{Shaped, Opens, opens_small, never_again}
use Rattle.declaration_laws.proofs.declared_type_laws.seen_onward.Around.{Innermost, IsOpened, placed, at_file, all_opened, first_inside, one_opener}
use Rattle.declaration_laws.proofs.declared_type_laws.seen_onward.Nested.{IsDeclaration}
use Rattle.declaration_laws.proofs.declared_type_laws.seen_onward.Leaves.{name_stands}
use Rattle.declaration_laws.proofs.declared_type_laws.seen_onward.Made.{comes_from, of_all, made_earlier, same_those}
use Rattle.declaration_laws.specs.declared_type_laws.linked_scopes.Scoped.{AreScoped}
use Rattle.declaration_laws.proofs.declared_type_laws.linked_scopes.Inward.{all_from, Leads, leads}

length_map : (items : List SyntaxNode) → length (map node_of items) ≡ length items
length_map [] = refl
length_map (x ∷ items) = ap suc (length_map items)

some_same : {A : Type 0} → {x y : A} → ◌≡◌ {A = Option A} (Some x) (Some y) → x ≡ y
some_same e = cc

get_mapped : (list : List Standing) (i : ℕ) (st : Standing) → slice_get list i ≡ Some st → get_or (map (λ x. x.scopes) list) i [] ≡ st.scopes
get_mapped [] i st e = cc
get_mapped (x ∷ list) zero st e = let same : x ≡ st = cc in ap (λ (y : Standing). y.scopes) same
get_mapped (x ∷ list) (suc i) st e = get_mapped list i st e

in_at : (ds : List Declared) (d : Declared) → In d ds → (k : ℕ) × (slice_get ds k ≡ Some d)
in_at [] d h = absurd h
in_at (x ∷ xs) d (inl same) = (0, ap (λ (y : Declared). Some y) same)
in_at (x ∷ xs) d (inr h) = let k = in_at xs d h in (suc k.0, k.1)

-- a leaf of some declaration is found
finds : (leaf : ℕ) (ds : List Declared) (d : Declared) → In d ds → d.node ≡ leaf → (y : Declared) × (find (λ (z : Declared). z.node == leaf) ds ≡ Some y) × In y ds × (y.node ≡ leaf)
finds leaf [] d h e = absurd h
finds leaf (x ∷ xs) d h e = by (nat_eq x.node leaf) refl h (λ k. finds leaf xs d k e)
  where
    no_both : (b : Bool) → b ≡ true → b ≡ false → ⊥
    no_both b f g = let both : true ≡ false = sym f ∙ g in cc

    by : (b : Bool) → nat_eq x.node leaf ≡ b → (x ≡ d) ⊎ In d xs → (In d xs → (y : Declared) × (find (λ (z : Declared). z.node == leaf) xs ≡ Some y) × In y xs × (y.node ≡ leaf))
        → (y : Declared) × (cond b (Some x) (find (λ (z : Declared). z.node == leaf) xs) ≡ Some y) × In y (x ∷ xs) × (y.node ≡ leaf)
    by true f h later = (x, refl, inl refl, eqb-true x.node leaf f)
    by false f (inl same) later = absurd (no_both (nat_eq x.node leaf) (eq-eqb x.node leaf (ap (λ (y : Declared). y.node) same ∙ e)) f)
    by false f (inr h) later = let k = later h in (k.0, k.1, inr k.2, k.3)

module _ (s : Source) (tree : Tree s) (shape : Shaped s.tokens (nodes s)) (once : DeclaredOnce s) (scopes_are : s.declared.scopes ≡ map (λ st. st.scopes) (standings s.tokens (nodes s) 0 (nodes s))) where
  abbrev N : List Node
  N = nodes s

  abbrev file : ℕ
  file = length (nodes s)

  abbrev Origin : Declared → Type 0
  Origin d = HasOrigin s.text s.tokens (nodes s) d

  abbrev At : ℕ → Standing → Type 0
  At i st = StandsAt s.tokens (nodes s) i st

  -- ---- where a linked name is declared

  record Site (d : Declared) (h : Origin d) : Type 0 where
    declaration : ℕ
    standing : Standing
    stands : At declaration standing
    is : IsDeclaration s.tokens (nodes s) shape declaration
    which : (is_a s p_external declaration ≡ true) ⊎ (is_a s p_declaration declaration ≡ true)
    declared : (sense : ℕ → Sense) → declaration_of s sense d.node ≡ Some declaration
    scope : d.scope ≡ first_scope file standing.scopes
    leaf : scopes_at s d.node ≡ standing.scopes
    above : (p : ℕ) → Below s.tokens (nodes s) p declaration → Below s.tokens (nodes s) p h.node

  never : (d : Declared) (h : Origin d) → has_linkage d ≡ true → h.linkage ≡ linkage.Never → ⊥
  never d h linked off =
      let plain : d.kind ≡ Plain = ap (λ (x : Declared). x.kind) h.is ∙ ap (λ (l : Linkage). kind_of l (first_scope file h.standing.scopes == file) (is_function h.before.functions h.derivation h.type_name)) off in
      let bad : is_linked_kind Plain ≡ true = ap is_linked_kind (sym plain) ∙ linked in
      cc

  abbrev By : (d : Declared) → Origin d → Type 0
  By d h = roles.ByDeclarator s.tokens (nodes s) h.node h.standing.role h.leaf h.linkage h.derivation h.type_name

  by_declarator : (d : Declared) (h : Origin d) → has_linkage d ≡ true → By d h
  by_declarator d h linked = pick (roles.declares s.tokens (nodes s) s.text (symbol_of s.text s.tokens) h.node h.standing.role h.leaf h.symbol h.linkage h.derivation h.type_name (_) h.mentions)
    where
      pick : (h.linkage ≡ linkage.Never) ⊎ By d h → By d h
      pick (inl off) = absurd (never d h linked off)
      pick (inr b) = b

  leaf_is : (d : Declared) (h : Origin d) → h.leaf ≡ d.node
  leaf_is d h = sym (ap (λ (x : Declared). x.node) h.is)

  no_role : (d : Declared) (h : Origin d) → By d h → h.standing.role ≡ role.Elsewhere → ⊥
  no_role d h b e = let bad : role.Declaration b.specifiers ≡ role.Elsewhere = sym b.role_is ∙ e in cc

  part_of : (p c : ℕ) → contains (children_at s p) c ≡ true → Part s.tokens (nodes s) p c
  part_of p c e = subst (λ (l : List ℕ). contains l c ≡ true) (sym (children_are s p)) e

  is_of : (p i : ℕ) → nat_eq leaf p ≡ false → is_a s p i ≡ true → IsOf s.tokens (nodes s) p i
  is_of p i other e = eq-eqb (syntax.production_at (nodes s) i) p (production_same s p i other e)

  site : (d : Declared) (h : Origin d) → has_linkage d ≡ true → Site d h
  site d h linked =
      let b = by_declarator d h linked in
      let at = declares s tree.grown (rests_nest s tree.grown tree.nested) h.node h.standing b.specifiers h.stands b.role_is in
      let name = b.name ∙ ap (λ (k : ℕ). Some k) (leaf_is d h) in
      let below = made_below s.tokens (nodes s) shape.before shape.single h.node h.standing d.node (inl (b.production, name, no_role d h b)) in
      let leaf = stands s.tokens (nodes s) d.node (within h.node d.node h.standing h.stands below) in
      let own = name_stands s.tokens (nodes s) shape.before shape.single h.node d.node h.standing leaf.0 b.production name h.stands leaf.1 in
      record {
        declaration = at.declaration;
        standing = at.at;
        stands = at.stands;
        is = which at.declaration at.is;
        which = at.is;
        declared = λ sense. declared_in sense at (reached b name).outermost;
        scope = ap (λ (x : Declared). x.scope) h.is ∙ ap (first_scope file) at.scopes;
        leaf = ap (λ (l : List (List ℕ)). get_or l d.node []) scopes_are ∙ (get_mapped (standings s.tokens (nodes s) 0 (nodes s)) d.node leaf.0 leaf.1 ∙ (own ∙ at.scopes));
        above = λ p under. lower p at under;
      }
    where
      form : (b : By d h) → (is_a s p_declarator h.node ≡ true) ⊎ (is_a s p_either h.node ≡ true)
      form b = either_is s tree.grown h.node p_declarator p_either refl refl b.production

      outer : By d h → is_outermost s h.node ≡ true
      outer b = outer_is s tree.grown h.node h.standing h.stands (subst declares_role (sym b.role_is) tt) (declaring s tree.grown h.node (form b))

      reached : (b : By d h) → (name : (declarator s.tokens (nodes s) h.node).name ≡ Some d.node) → Reached s tree.grown h.node d.node (outer b)
      reached b name = name_reached s tree.grown h.node d.node (outer b) (form b) (inside (form b)) name
        where
          inside : (is_a s p_declarator h.node ≡ true) ⊎ (is_a s p_either h.node ≡ true) → h.node < length s.nodes
          inside (inl e) = node_within s p_declarator h.node e refl
          inside (inr e) = node_within s p_either h.node e refl

      declared_in : (sense : ℕ → Sense) {x : _} (at : Declares s tree.grown h.node h.standing x) → outermost_of s d.node ≡ Some h.node → declaration_of s sense d.node ≡ Some at.declaration
      declared_in sense at up =
          ap (λ (o : Option ℕ). option_and_then (declaration_around s) (option_and_then (parent_of s) o)) up ∙ (ap (option_and_then (declaration_around s)) (parent_is s tree.grown at.parent h.node at.child) ∙ by at.around at.is)
        where
          own_around : (i : ℕ) → is_a s p_rest i ≡ false → is_a s p_field i ≡ false → declaration_around s i ≡ Some i
          own_around i rest field = go (is_a s p_rest i) (is_a s p_field i) rest field
            where
              go : (a b : Bool) → a ≡ false → b ≡ false → (if a || b then parent_of s i else Some i) ≡ Some i
              go true b e f = cc
              go false true e f = cc
              go false false e f = refl

          by : (at.parent ≡ at.declaration) ⊎ ((is_a s p_rest at.parent ≡ true) × (contains (children_at s at.declaration) at.parent ≡ true)) → (is_a s p_external at.declaration ≡ true) ⊎ (is_a s p_declaration at.declaration ≡ true) → declaration_around s at.parent ≡ Some at.declaration
          by (inl same) (inl is) = ap (declaration_around s) same ∙ own_around at.declaration (differ s at.declaration p_external p_rest is refl) (differ s at.declaration p_external p_field is refl)
          by (inl same) (inr is) = ap (declaration_around s) same ∙ own_around at.declaration (differ s at.declaration p_declaration p_rest is refl) (differ s at.declaration p_declaration p_field is refl)
          by (inr rest) is = ap (λ (b : Bool). if b || is_a s p_field at.parent then parent_of s at.parent else Some at.parent) rest.0 ∙ parent_is s tree.grown at.declaration at.parent rest.1

      smaller : (a c : ℕ) → Below s.tokens (nodes s) a c → c < a
      smaller a c (part r) = shape.before a c r
      smaller a c (deeper {i = i} u r) = let one = smaller a i u in let two = shape.before i c r in omega (arith, one, two)

      within : (m c : ℕ) (st : Standing) → At m st → Below s.tokens (nodes s) m c → c < file
      within m c st at under = let lt = smaller m c under in let whole = stands_within s.tokens (nodes s) m st at in omega (arith, lt, whole)

      which : (i : ℕ) → (is_a s p_external i ≡ true) ⊎ (is_a s p_declaration i ≡ true) → IsDeclaration s.tokens (nodes s) shape i
      which i (inl e) = inl (is_of p_external i refl e)
      which i (inr e) = inr (is_of p_declaration i refl e)

      lower : (p : ℕ) {x : _} (at : Declares s tree.grown h.node h.standing x) → Below s.tokens (nodes s) p at.declaration → Below s.tokens (nodes s) p h.node
      lower p at under = pick at.around
        where
          pick : (at.parent ≡ at.declaration) ⊎ ((is_a s p_rest at.parent ≡ true) × (contains (children_at s at.declaration) at.parent ≡ true)) → Below s.tokens (nodes s) p h.node
          pick (inl same) = deeper (subst (λ (k : ℕ). Below s.tokens (nodes s) p k) (sym same) under) (part_of at.parent h.node at.child)
          pick (inr rest) = deeper (deeper under (part_of at.declaration at.parent rest.1)) (part_of at.parent h.node at.child)

  -- ---- one entry, and one node, for each leaf

  same_entry : (d e : Declared) → In d s.declared.ordinary → In e s.declared.ordinary → d.node ≡ e.node → d ≡ e
  same_entry d e x y same =
      let i = in_at s.declared.ordinary d x in
      let j = in_at s.declared.ordinary e y in
      let place = once.names i.0 j.0 d e i.1 j.1 same in
      some_same (sym i.1 ∙ (ap (slice_get s.declared.ordinary) place ∙ j.1))

  own_node : (d : Declared) → has_linkage d ≡ true → (h k : Origin d) → h.node ≡ k.node
  own_node d linked h k =
      let b = by_declarator d h linked in
      let c = by_declarator d k linked in
      one_maker s.tokens (nodes s) shape.before shape.single h.node k.node h.standing k.standing d.node h.stands k.stands
      (inl (b.production, b.name ∙ ap (λ (n : ℕ). Some n) (leaf_is d h), no_role d h b)) (inl (c.production, c.name ∙ ap (λ (n : ℕ). Some n) (leaf_is d k), no_role d k c))

  node_same : (d z : Declared) → In d s.declared.ordinary → has_linkage d ≡ true → (h : Origin d) → In z s.declared.ordinary → z.node ≡ d.node → (k : Origin z) → k.node ≡ h.node
  node_same d z there linked h other same k = by d z (same_entry z d other there same) linked h k
    where
      by : (d z : Declared) → z ≡ d → has_linkage d ≡ true → (h : Origin d) (k : Origin z) → k.node ≡ h.node
      by d z e linked h k = subst (λ (y : Declared). (j : Origin y) → j.node ≡ h.node) (sym e) (λ j. own_node d linked j h) k

  -- ---- what is seen

  all : (high : ℕ) × sorted.Sorted s.text s.tokens (nodes s) 0 s.declared.ordinary high
  all = let a = sorted.all_sorted s.text s.tokens (nodes s) in (a.0, subst (λ (ds : List Declared). sorted.Sorted s.text s.tokens (nodes s) 0 ds a.0) (sym tree.names) a.1)

  origin_of : (d : Declared) → In d s.declared.ordinary → Origin d
  origin_of d there = comes_from s.text s.tokens (nodes s) 0 s.declared.ordinary all.0 d all.1 there

  file_is : length (nodes s) ≡ length s.nodes
  file_is = length_map s.nodes

  -- by its declaration
  at_file_by : (sense : ℕ → Sense) (d : Declared) (declaration : ℕ) → declaration_of s sense d.node ≡ Some declaration → is_at_file s sense d.node ≡ is_a s p_external declaration
  at_file_by sense d declaration e = ap (λ (o : Option ℕ). elim o as (λ _. Bool) [ None ↦ false | Some p ↦ is_a s p_external p ]) e

  file_scope : (sense : ℕ → Sense) (x : Declared) → In x s.declared.ordinary → has_linkage x ≡ true → is_at_file s sense x.node ≡ true → (x.scope ≡ length s.nodes) × (scopes_at s x.node ≡ length s.nodes ∷ [])
  file_scope sense x there linked at =
      let h = origin_of x there in
      let sx = site x h linked in
      let external : is_a s p_external sx.declaration ≡ true = sym (at_file_by sense x sx.declaration (sx.declared sense)) ∙ at in
      let scopes : sx.standing.scopes ≡ file ∷ [] = (placed s.tokens (nodes s) shape sx.declaration sx.standing sx.stands).external (is_of p_external sx.declaration refl external) in
      (sx.scope ∙ (ap (first_scope file) scopes ∙ file_is), sx.leaf ∙ (scopes ∙ ap (λ (k : ℕ). k ∷ []) file_is))

  inner_scope : (sense : ℕ → Sense) (x : Declared) → In x s.declared.ordinary → has_linkage x ≡ true → is_at_file s sense x.node ≡ false → x.scope ≡ length s.nodes → ⊥
  inner_scope sense x there linked at own = by sx.which
    where
      h : Origin x
      h = origin_of x there

      sx : Site x h
      sx = site x h linked

      by : (is_a s p_external sx.declaration ≡ true) ⊎ (is_a s p_declaration sx.declaration ≡ true) → ⊥
      by (inl external) = let bad : true ≡ false = sym external ∙ (sym (at_file_by sense x sx.declaration (sx.declared sense)) ∙ at) in cc
      by (inr declaration) =
          inner s tree.grown tree.nested sx.declaration (tree.defined sx.declaration declaration) (ap (λ (b : Bool). b || is_a s p_statement sx.declaration) declaration) sx.standing sx.stands (sym sx.scope ∙ (own ∙ sym file_is))

  outer_seen : (x d e : Declared) → In x s.declared.ordinary → has_linkage x ≡ true → In d (linked_before s (Some x)) → In e (linked_before s (Some x)) → (d.scope ≡ length s.nodes → ⊥) → e.scope ≡ length s.nodes → In e (linked_before s (Some d))
  outer_seen x d e there linked sees also no_file of_file = subst (λ (l : List ℕ). In e (linked_along l d.symbol xs)) (sym sd.leaf) (subst (λ (k : ℕ). In e (linked_along sd.standing.scopes k xs)) (sym of_ys.2) (from_declaration sd.is))
    where
      ys : List Declared
      ys = made_before x.node s.declared.ordinary

      xs : List Declared
      xs = made_before d.node s.declared.ordinary

      told : IsSeen x.symbol (made_before x.node s.declared.ordinary) (scopes_at s x.node) d
      told = seen x.symbol (made_before x.node s.declared.ordinary) (scopes_at s x.node) d sees

      of_ys : In d (made_before x.node s.declared.ordinary) × (d.scope ≡ d.scope) × (d.symbol ≡ x.symbol)
      of_ys = in_those d.scope x.symbol (made_before x.node s.declared.ordinary) d told.there

      d_linked : has_linkage d ≡ true
      d_linked = all_have (those_at d.scope x.symbol (made_before x.node s.declared.ordinary)) d told.linked told.there

      d_there : In d s.declared.ordinary
      d_there = of_all s.text s.tokens (nodes s) x.node s.declared.ordinary d of_ys.0

      hx : Origin x
      hx = origin_of x there

      hd : Origin d
      hd = origin_of d d_there

      sx : Site x hx
      sx = site x hx linked

      sd : Site d hd
      sd = site d hd d_linked

      seen_there : In d (linked_along sx.standing.scopes x.symbol (made_before x.node s.declared.ordinary))
      seen_there = subst (λ (l : List ℕ). In d (linked_along l x.symbol (made_before x.node s.declared.ordinary))) sx.leaf sees

      also_there : In e (linked_along sx.standing.scopes x.symbol (made_before x.node s.declared.ordinary))
      also_there = subst (λ (l : List ℕ). In e (linked_along l x.symbol (made_before x.node s.declared.ordinary))) sx.leaf also

      no_whole : d.scope ≡ file → ⊥
      no_whole f = no_file (f ∙ file_is)

      kept : (scope : ℕ) (z : Declared) → In z (those_at scope x.symbol (made_before d.node s.declared.ordinary)) → In z (those_at scope x.symbol (made_before x.node s.declared.ordinary))
      kept scope z h =
          let k = in_those scope x.symbol (made_before d.node s.declared.ordinary) z h in
          to_those scope x.symbol (made_before x.node s.declared.ordinary) z (made_earlier s.text s.tokens (nodes s) x.node s.declared.ordinary d z of_ys.0 k.0) k.1 k.2

      none_between : (p : ℕ) (o : Opens s.tokens (nodes s) p d.scope) → Below s.tokens (nodes s) p sd.declaration → Below s.tokens (nodes s) p sx.declaration → (scope : ℕ) → IsOpened s.tokens (nodes s) shape p scope → (y : Declared) (h : Origin y) → hd.node ≤ h.node → h.node < hx.node → y.symbol ≡ x.symbol → y.scope ≡ scope → ⊥
      none_between p o under other scope opened y h low high symbol at = by opened
        where
          below : Below s.tokens (nodes s) p h.node
          below = shape.between p hd.node h.node hx.node (sd.above p under) (sx.above p other) low (omega (arith, high))

          first : (r : ℕ) × Opens s.tokens (nodes s) r (first_scope file h.standing.scopes) × ((r ≡ p) ⊎ Below s.tokens (nodes s) p r)
          first = first_inside s.tokens (nodes s) shape p d.scope o h.node h.standing h.stands below

          own : first_scope file h.standing.scopes ≡ scope
          own = sym (ap (λ (z : Declared). z.scope) h.is) ∙ at

          opens : Opens s.tokens (nodes s) first.0 scope
          opens = subst (λ (k : ℕ). Opens s.tokens (nodes s) first.0 k) own first.1

          up : (t : ℕ) → Below s.tokens (nodes s) t p → (first.0 ≡ p) ⊎ Below s.tokens (nodes s) p first.0 → Below s.tokens (nodes s) t first.0
          up t b (inl same) = subst (λ (k : ℕ). Below s.tokens (nodes s) t k) (sym same) b
          up t b (inr lower) = further (Part s.tokens (nodes s)) t p first.0 b lower

          by : IsOpened s.tokens (nodes s) shape p scope → ⊥
          by (inl f) = let lt = opens_small s.tokens (nodes s) shape first.0 scope opens in omega (arith, lt, f)
          by (inr (t, b, outer)) = never_again s.tokens (nodes s) shape t first.0 scope (up t b first.2) outer opens

      one_scope : (p : ℕ) (o : Opens s.tokens (nodes s) p d.scope) → Below s.tokens (nodes s) p sd.declaration → Below s.tokens (nodes s) p sx.declaration → (scope : ℕ) → contains o.standing.scopes scope ≡ true → those_at scope x.symbol (made_before d.node s.declared.ordinary) ≡ those_at scope x.symbol (made_before x.node s.declared.ordinary)
      one_scope p o under other scope has =
          let found = finds x.node s.declared.ordinary x there refl in
          same_those s.text s.tokens (nodes s) x.node d.node hd.node hx.node scope x.symbol (none_between p o under other scope (all_opened s.tokens (nodes s) shape p o.standing o.stands scope has)) 0 s.declared.ordinary all.0 all.1
          found.0 found.1 (λ k. node_same x found.0 there linked hx found.2 found.3 k) (λ z k i n. node_same d z d_there d_linked hd i n k) d refl of_ys.0

      all_scopes : (p : ℕ) (o : Opens s.tokens (nodes s) p d.scope) → Below s.tokens (nodes s) p sd.declaration → Below s.tokens (nodes s) p sx.declaration → (scopes : List ℕ) → ((scope : ℕ) → contains scopes scope ≡ true → contains o.standing.scopes scope ≡ true) → SameAt x.symbol (made_before d.node s.declared.ordinary) (made_before x.node s.declared.ordinary) scopes
      all_scopes p o under other [] h = tt
      all_scopes p o under other (scope ∷ scopes) h = (one_scope p o under other scope (h scope (head scope scopes)), all_scopes p o under other scopes (λ k i. h k (more scope k scopes i)))
        where
          head : (k : ℕ) (ks : List ℕ) → contains (k ∷ ks) k ≡ true
          head k ks = ap (λ (b : Bool). b || contains ks k) (eq-eqb k k refl)

          more : (k j : ℕ) (ks : List ℕ) → contains ks j ≡ true → contains (k ∷ ks) j ≡ true
          more k j ks i = go (nat_eq k j)
            where
              go : (b : Bool) → (b || contains ks j) ≡ true
              go true = refl
              go false = i

      same : (p : ℕ) (o : Opens s.tokens (nodes s) p d.scope) → Below s.tokens (nodes s) p sd.declaration → Below s.tokens (nodes s) p sx.declaration → SameAt x.symbol (made_before d.node s.declared.ordinary) (made_before x.node s.declared.ordinary) o.standing.scopes
      same p o under other = all_scopes p o under other o.standing.scopes (λ scope h. h)

      -- from the declaration of d, which stands in a block
      nested : (n : Innermost s.tokens (nodes s) shape sd.declaration sd.standing) → In e (linked_along sd.standing.scopes x.symbol (made_before d.node s.declared.ordinary))
      nested n = by sx.is
        where
          scope : d.scope ≡ n.scope
          scope = sd.scope ∙ ap (first_scope file) n.is

          opened_by : Opens s.tokens (nodes s) n.opener d.scope
          opened_by = subst (λ (k : ℕ). Opens s.tokens (nodes s) n.opener k) (sym scope) n.opens

          standing_same : (k : ℕ) (f : d.scope ≡ k) (o : Opens s.tokens (nodes s) n.opener k) → (subst (λ (m : ℕ). Opens s.tokens (nodes s) n.opener m) (sym f) o).standing ≡ o.standing
          standing_same k f o = stands_once s.tokens (nodes s) n.opener _ o.standing (subst (λ (m : ℕ). Opens s.tokens (nodes s) n.opener m) (sym f) o).stands o.stands

          first : sd.standing.scopes ≡ d.scope ∷ opened_by.standing.scopes
          first = n.is ∙ (ap (λ (k : ℕ). k ∷ n.opens.standing.scopes) (sym scope) ∙ ap (λ (z : Standing). d.scope ∷ z.scopes) (sym (standing_same n.scope scope n.opens)))

          led : Leads s.tokens (nodes s) shape x.symbol (made_before x.node s.declared.ordinary) sx.declaration sx.standing d → In e (linked_along sd.standing.scopes x.symbol (made_before d.node s.declared.ordinary))
          led r = subst (λ (l : List ℕ). In e (linked_along l x.symbol (made_before d.node s.declared.ordinary))) (sym first) (split back.1)
            where
              one : n.opener ≡ r.opener
              one = one_opener s.tokens (nodes s) shape n.opener r.opener d.scope opened_by r.opens n.block r.block

              standing : opened_by.standing ≡ r.opens.standing
              standing = stands_once s.tokens (nodes s) r.opener opened_by.standing r.opens.standing (subst (λ (k : ℕ). At k opened_by.standing) one opened_by.stands) r.opens.stands

              back : (all_linked (those_at d.scope x.symbol (made_before x.node s.declared.ordinary)) ≡ true) × (In e (linked_along opened_by.standing.scopes x.symbol (made_before x.node s.declared.ordinary)) ⊎ In e (those_at d.scope x.symbol (made_before x.node s.declared.ordinary)))
              back =
                  seen_first x.symbol (made_before x.node s.declared.ordinary) d.scope opened_by.standing.scopes e
                  (subst (λ (z : Standing). In e (linked_along (d.scope ∷ z.scopes) x.symbol (made_before x.node s.declared.ordinary))) (sym standing) (r.back e (of_file ∙ sym file_is) also_there))

              own_linked : all_linked (those_at d.scope x.symbol (made_before d.node s.declared.ordinary)) ≡ true
              own_linked = all_from (those_at d.scope x.symbol (made_before d.node s.declared.ordinary)) (λ z i. all_have (those_at d.scope x.symbol (made_before x.node s.declared.ordinary)) z back.0 (kept d.scope z i))

              split : In e (linked_along opened_by.standing.scopes x.symbol (made_before x.node s.declared.ordinary)) ⊎ In e (those_at d.scope x.symbol (made_before x.node s.declared.ordinary))
                  → In e (linked_along (d.scope ∷ opened_by.standing.scopes) x.symbol (made_before d.node s.declared.ordinary))
              split (inr here) = absurd (no_file (sym (in_those d.scope x.symbol (made_before x.node s.declared.ordinary) e here).1 ∙ of_file))
              split (inl further_out) =
                  let alike = same n.opener opened_by n.below (subst (λ (k : ℕ). Below s.tokens (nodes s) k sx.declaration) (sym one) r.below) in
                  seen_on x.symbol (made_before d.node s.declared.ordinary) d.scope opened_by.standing.scopes e own_linked
                  (subst (In e) (sym (same_along x.symbol (made_before d.node s.declared.ordinary) (made_before x.node s.declared.ordinary) opened_by.standing.scopes alike)) further_out)

          from : (d.scope ≡ file) ⊎ Leads s.tokens (nodes s) shape x.symbol (made_before x.node s.declared.ordinary) sx.declaration sx.standing d → In e (linked_along sd.standing.scopes x.symbol (made_before d.node s.declared.ordinary))
          from (inl f) = absurd (no_whole f)
          from (inr r) = led r

          by : IsDeclaration s.tokens (nodes s) shape sx.declaration → In e (linked_along sd.standing.scopes x.symbol (made_before d.node s.declared.ordinary))
          by (inl external) =
              let scopes : sx.standing.scopes ≡ file ∷ [] = (placed s.tokens (nodes s) shape sx.declaration sx.standing sx.stands).external external in
              absurd (no_whole (in_those file x.symbol (made_before x.node s.declared.ordinary) d (at_file s.tokens (nodes s) shape x.symbol (made_before x.node s.declared.ordinary) d (subst (λ (l : List ℕ). In d (linked_along l x.symbol (made_before x.node s.declared.ordinary))) scopes seen_there))).1)
          by (inr inside) = from (leads s.tokens (nodes s) shape x.symbol (made_before x.node s.declared.ordinary) sx.declaration sx.standing sx.stands (inl inside) d seen_there)

      from_declaration : IsDeclaration s.tokens (nodes s) shape sd.declaration → In e (linked_along sd.standing.scopes x.symbol (made_before d.node s.declared.ordinary))
      from_declaration (inl external) = absurd (no_whole (sd.scope ∙ ap (first_scope file) ((placed s.tokens (nodes s) shape sd.declaration sd.standing sd.stands).external external)))
      from_declaration (inr inside) = by ((placed s.tokens (nodes s) shape sd.declaration sd.standing sd.stands).inside (inl inside))
        where
          by : (sd.standing.scopes ≡ file ∷ []) ⊎ Innermost s.tokens (nodes s) shape sd.declaration sd.standing → In e (linked_along sd.standing.scopes x.symbol (made_before d.node s.declared.ordinary))
          by (inl is) = absurd (no_whole (sd.scope ∙ ap (first_scope file) is))
          by (inr n) = nested n

  pub scoped : AreScoped s
  scoped = record { file = λ sense x i h at. file_scope sense x i h at; inner = λ sense x i h at own. inner_scope sense x i h at own; outer = λ x d e i h sees also no f. outer_seen x d e i h sees also no f }
