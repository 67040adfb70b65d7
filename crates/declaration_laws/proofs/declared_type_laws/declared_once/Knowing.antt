-- What is known of the declarations of a name with linkage, from its declarator on.
use Rattle.std.proofs.Common.{arith, ◌≡◌, ◌<◌, ◌≤◌, ◌+◌, ◌⊎◌, inl, inr, ◌==◌, nat_eq, ℕ, Bool, true, false, ◌&&◌, List, [], ◌∷◌, ◌++◌, length, Option, Some, None, eq-eqb, refl, sym, ap, ◌∙◌, subst}
use Rattle.std.specs.Prelude.{option_map, option_and_then, if◌then◌else◌}
use Rattle.std.specs.List.{find}
use Rattle.std.proofs.lemmas.Bool.{eqb-true}
use Rattle.c_types.specs.Trees.{Ctype}
use Rattle.c_grammar.specs.Productions.{p_external, p_declaration, p_specs, p_declarator, p_either}
use Rattle.c_mentions.specs.declared.mentions.Linkage.{Linkage}
use Rattle.c_mentions.specs.declared.mentions.Linkage.TheVariants as linkage
use Rattle.c_mentions.specs.Symbols.{symbol_of}
use Rattle.c_scope.specs.declared.kinds.Kind.TheVariants.{Plain}
use Rattle.c_scope.specs.declared.kinds.Declared.{Declared}
use Rattle.c_scope.specs.Known.{first_scope, kind_of, is_function}
use Rattle.c_scope.specs.Resolves.{bindings}
use Rattle.c_senses.specs.Tree.{Source, children_at, is_a, first_where}
use Rattle.c_senses.specs.Names.{source_of, numbered, is_linked_kind, has_linkage, made_before, linked_before, ordinary_at, entry_of, scopes_at}
use Rattle.c_senses.specs.Declarators.{is_outermost, outermost_of, specs_of, derived}
use Rattle.c_senses.specs.Entities.{with_length, is_linked, is_parameter, is_internal, is_internal_of, internal_among, keep, types_of, own_type, parameter_type, declaration_of, specified_of, derived_type, length_given_by, initialiser_of, initialiser_for}
use Rattle.c_senses.specs.Sense.{Sense, IsDeclarator, Specified, sense_in}
use Rattle.c_senses.specs.Rows.{AreSenses}
use Rattle.core_node_laws.specs.count_laws.passed.parsed_tree_laws.family_laws.Families.{Families}
use Rattle.core_node_laws.proofs.count_laws.passed.parsed_tree_laws.family_laws.Reading.{units_families}
use Rattle.core_node_laws.specs.count_laws.passed.parsed_tree_laws.member_names.Differ.{InOrder}
use Rattle.core_node_laws.proofs.count_laws.passed.parsed_tree_laws.member_names.Order.{units_in_order}
use Rattle.core_node_laws.specs.count_laws.passed.parsed_tree_laws.grown_parts.Parts.{IsBrought}
use Rattle.core_node_laws.proofs.count_laws.passed.parsed_tree_laws.grown_parts.Reading.{units_bring}
use Rattle.core_node_laws.proofs.built_unit_laws.run_laws.Times.{known_at, known}
use Rattle.core_node_laws.proofs.built_unit_laws.run_laws.Automatic.{specified_later}
use Rattle.declaration_laws.proofs.declared_type_laws.settled_types.PassedOn.{known_later, told}
use Rattle.declaration_laws.specs.name_order.Order.{Declares, Rises, IsOrdered}
use Rattle.declaration_laws.proofs.name_order.Ordered.{units_ordered}
use Rattle.declaration_laws.proofs.declared_type_laws.owner_laws.passed.definition_laws.linkage_laws.Origins.{HasOrigin, origin}
use Rattle.declaration_laws.proofs.declared_type_laws.owner_laws.passed.definition_laws.linkage_laws.Seen.{nodes, some_same, node_within}
use Rattle.declaration_laws.proofs.declared_type_laws.owner_laws.passed.definition_laws.linkage_laws.Roles as roles
use Rattle.declaration_laws.proofs.declared_type_laws.owner_laws.passed.definition_laws.linkage_laws.Chains.{Reached, either_is, declaring, name_reached}
use Rattle.declaration_laws.proofs.declared_type_laws.owner_laws.passed.definition_laws.linkage_laws.Linked.{Tree, stands_linked}
use Rattle.declaration_laws.proofs.declared_type_laws.owner_laws.passed.definition_laws.linkage_laws.Reading.{tree_is}
use Rattle.declaration_laws.proofs.declared_type_laws.owner_laws.internal_laws.PassedOn.{outer_is, declared_by_outermost, Declares as declares_role}
use Rattle.declaration_laws.proofs.declared_type_laws.owner_laws.internal_laws.Sorted as sorted
use Rattle.declaration_laws.proofs.declared_type_laws.owner_laws.internal_laws.Settled.{specs_settled}
use Rattle.declaration_laws.proofs.declared_type_laws.owner_laws.internal_laws.Same as same
use Rattle.declaration_laws.proofs.declared_type_laws.owner_laws.internal_laws.Reading.{only}
use Rattle.declaration_laws.specs.declared_type_laws.declared_leaves.Leaves.{IsDeclaredBy}
use Rattle.declaration_laws.proofs.declared_type_laws.declared_leaves.Climbing.{leaves_declared}
use Rattle.declaration_laws.specs.declared_type_laws.settled_types.PassedOn.{StandsDeclaring}
use Rattle.declaration_laws.specs.declared_type_laws.settled_types.Settled.{AreSettled}
use Rattle.declaration_laws.proofs.declared_type_laws.settled_types.Settling.{types_settled}
use Rattle.declaration_laws.specs.declared_type_laws.declared_once.Once.{DeclaredOnce, IsDeclaredOnce}
use Rattle.declaration_laws.proofs.declared_type_laws.declared_once.Standing.{HasDeclarator, has_declarator, declares_once}

-- ---- lists of declarations

abbrev pub In : Declared → List Declared → Type 0
In d [] = ⊥
In d (x ∷ xs) = (x ≡ d) ⊎ In d xs

in_has : (d : Declared) (ds : List Declared) → In d ds → same.Has d.node ds
in_has d [] h = absurd h
in_has d (x ∷ xs) (inl e) = inl (ap (λ (y : Declared). y.node) e)
in_has d (x ∷ xs) (inr h) = inr (in_has d xs h)

both : (a b : Bool) → (a && b) ≡ true → (a ≡ true) × (b ≡ true)
both true true e = (refl, refl)
both true false e = cc
both false b e = cc

-- some of a list, by two tests that agree on it
pub keep_same : (s : Source) (f g : ℕ → Sense) (test other : Declared → Bool) (ds : List Declared) → ((d : Declared) → In d ds → test d ≡ other d) → keep s f test ds ≡ keep s g other ds
keep_same s f g test other [] h = refl
keep_same s f g test other (d ∷ ds) h =
    ap (λ (b : Bool). if b then d ∷ keep s f test ds else keep s f test ds) (h d (inl refl)) ∙ ap (λ (l : List Declared). if other d then d ∷ l else l) (keep_same s f g test other ds (λ x i. h x (inr i)))

pub kept_in : (s : Source) (f : ℕ → Sense) (test : Declared → Bool) (ds : List Declared) (d : Declared) → In d (keep s f test ds) → In d ds × (test d ≡ true)
kept_in s f test [] d h = absurd h
kept_in s f test (x ∷ xs) d h = by (test x) refl h (λ i. kept_in s f test xs d i)
  where
    by : (b : Bool) → test x ≡ b → In d (if b then x ∷ keep s f test xs else keep s f test xs) → (In d (keep s f test xs) → In d xs × (test d ≡ true)) → In d (x ∷ xs) × (test d ≡ true)
    by true e (inl here) later = (inl here, ap test (sym here) ∙ e)
    by true e (inr more) later = let found = later more in (inr found.0, found.1)
    by false e i later = let found = later i in (inr found.0, found.1)

types_same : (s : Source) (f g : ℕ → Sense) (ds : List Declared) → ((d : Declared) → In d ds → own_type s f d.node ≡ own_type s g d.node) → types_of s f ds ≡ types_of s g ds
types_same s f g [] h = refl
types_same s f g (d ∷ ds) h =
    ap (λ (o : Option Ctype). elim o as (λ _. List Ctype) [ None ↦ types_of s f ds | Some t ↦ t ∷ types_of s f ds ]) (h d (inl refl))
    ∙ ap (λ (l : List Ctype). elim (own_type s g d.node) as (λ _. List Ctype) [ None ↦ l | Some t ↦ t ∷ l ]) (types_same s f g ds (λ x i. h x (inr i)))

-- what is made before the last of those up to a declaration
before_own : (d : Declared) (front back : List Declared) → ((x : Declared) → In x front → x.node ≡ d.node → ⊥) → (made_before d.node (front ++ d ∷ back) ≡ front) × (entry_of (front ++ d ∷ back) d.node ≡ Some d)
before_own d [] back h =
    let own : nat_eq d.node d.node ≡ true = eq-eqb d.node d.node refl in
    (ap (λ (b : Bool). if b then [] else d ∷ made_before d.node back) own, ap (λ (b : Bool). if b then Some d else entry_of back d.node) own)
before_own d (x ∷ front) back h = by (nat_eq x.node d.node) refl (before_own d front back (λ y i. h y (inr i)))
  where
    by : (b : Bool) → nat_eq x.node d.node ≡ b → (made_before d.node (front ++ d ∷ back) ≡ front) × (entry_of (front ++ d ∷ back) d.node ≡ Some d)
        → ((if b then [] else x ∷ made_before d.node (front ++ d ∷ back)) ≡ x ∷ front) × ((if b then Some x else entry_of (front ++ d ∷ back) d.node) ≡ Some d)
    by true e later = absurd (h x (inl refl) (eqb-true x.node d.node e))
    by false e later = (ap (λ (l : List Declared). x ∷ l) later.0, later.1)

-- in order, an earlier declaration is made by an earlier node
module _ (s : Source) where
  last_declares : (low high : ℕ) (front : List Declared) (d : Declared) (back : List Declared) → Rises s low high (front ++ d ∷ back) → (b : ℕ) × (low ≤ b) × Declares s b d.node
  last_declares low high [] d back h = (h.0, h.1, h.2)
  last_declares low high (x ∷ front) d back h =
      let more = last_declares (h.0 + 1) high front d back h.3 in
      let le = more.1 in
      let lower = h.1 in
      (more.0, omega (arith, le, lower), more.2)

  in_order : (low high : ℕ) (front : List Declared) (d : Declared) (back : List Declared) → Rises s low high (front ++ d ∷ back) → (x : Declared) → In x front → (a b : ℕ) × Declares s a x.node × Declares s b d.node × (a < b)
  in_order low high [] d back h x i = absurd i
  in_order low high (y ∷ front) d back h x (inl same) =
      let last = last_declares (h.0 + 1) high front d back h.3 in
      let le = last.1 in
      (h.0, last.0, subst (λ (z : Declared). Declares s h.0 z.node) same h.2, last.2, omega (arith, le))
  in_order low high (y ∷ front) d back h x (inr more) = in_order (h.0 + 1) high front d back h.3 x more

  grow : (a b : ℕ) → a ≤ b → (ds : List Declared) → sorted.BeforeAll s.text s.tokens (nodes s) a ds → sorted.BeforeAll s.text s.tokens (nodes s) b ds
  grow a b le [] h = tt
  grow a b le (d ∷ ds) h = (h.0, (let lt = h.1 in omega (arith, lt, le)), grow a b le ds h.2)

module _ (s : Source) (tree : Tree s) (families : Families s) (order : InOrder s) (only_first : (q : ℕ) (k : ℕ) (ks : List ℕ) → (is_a s p_external q ≡ true) ⊎ (is_a s p_declaration q ≡ true) → children_at s q ≡ k ∷ ks → first_where (is_a s p_specs) ks ≡ None)
    (brought : IsBrought s) (ordered : IsOrdered s) (settled : AreSettled s) (senses : List Sense) (are : AreSenses s senses) (whole : length senses ≡ length s.nodes) where
  abbrev G : ℕ → Sense
  G = sense_in senses

  abbrev F : ℕ → ℕ → Sense
  F n = known_at s senses n

  abbrev ordinary : List Declared
  ordinary = s.declared.ordinary

  settles : (y : Declared) (h : HasOrigin s.text s.tokens (nodes s) y) → has_linkage y ≡ true → (c : ℕ) → option_and_then (specs_of s) (outermost_of s y.node) ≡ Some c → c < h.node
  settles = specs_settled s tree families order only_first

  -- ---- the declarator of a name

  record Outermost (y : Declared) (h : HasOrigin s.text s.tokens (nodes s) y) : Type 0 where
    outer : is_outermost s h.node ≡ true
    reached : Reached s tree.grown h.node y.node outer

  outermost_at : (y : Declared) (h : HasOrigin s.text s.tokens (nodes s) y) → has_linkage y ≡ true → Outermost y h
  outermost_at y h linked = by (roles.declares s.tokens (nodes s) s.text (symbol_of s.text s.tokens) h.node h.standing.role h.leaf h.symbol h.linkage h.derivation h.type_name (_) h.mentions)
    where
      node_is : h.leaf ≡ y.node
      node_is = sym (ap (λ (x : Declared). x.node) h.is)

      inside : (is_a s p_declarator h.node ≡ true) ⊎ (is_a s p_either h.node ≡ true) → h.node < length s.nodes
      inside (inl e) = node_within s p_declarator h.node e refl
      inside (inr e) = node_within s p_either h.node e refl

      by : (h.linkage ≡ linkage.Never) ⊎ roles.ByDeclarator s.tokens (nodes s) h.node h.standing.role h.leaf h.linkage h.derivation h.type_name → Outermost y h
      by (inl never) =
          let plain : y.kind ≡ Plain = ap (λ (d : Declared). d.kind) h.is ∙ ap (λ (l : Linkage). kind_of l (first_scope (length (nodes s)) h.standing.scopes == length (nodes s)) (is_function h.before.functions h.derivation h.type_name)) never in
          absurd (let bad : is_linked_kind Plain ≡ true = ap is_linked_kind (sym plain) ∙ linked in cc)
      by (inr b) =
          let which = either_is s tree.grown h.node p_declarator p_either refl refl b.production in
          let outer = outer_is s tree.grown h.node h.standing h.stands (subst declares_role (sym b.role_is) tt) (declaring s tree.grown h.node which) in
          record { outer = outer; reached = name_reached s tree.grown h.node y.node outer which (inside which) (b.name ∙ ap (λ (k : ℕ). Some k) node_is) }

  -- a name with linkage
  record OfLinked (x : ℕ) : Type 0 where
    entry : Declared
    at : ordinary_at s x ≡ Some entry
    linked : has_linkage entry ≡ true
    came : HasOrigin s.text s.tokens (nodes s) entry
    node_is : entry.node ≡ x
    outer : is_outermost s came.node ≡ true
    reached : Reached s tree.grown came.node x outer
    stands : StandsDeclaring s came.node
    declared : IsDeclaredBy s senses came.node x

  named : (x : ℕ) (y : Declared) → ordinary_at s x ≡ Some y → find (λ (d : Declared). d.node == x) (bindings s.text s.tokens (nodes s)).names ≡ Some y
  named x y e = subst (λ (ds : List Declared). find (λ (d : Declared). d.node == x) ds ≡ Some y) tree.names e

  of_linked : (x : ℕ) → is_linked s G x ≡ true → OfLinked x
  of_linked x h = by (ordinary_at s x) refl h
    where
      of_entry : (y : Declared) → ordinary_at s x ≡ Some y → has_linkage y ≡ true → OfLinked x
      of_entry y e linked =
          let from = origin s.text s.tokens (nodes s) x y (named x y e) in
          let out = outermost_at y from.0 linked in
          let reached : Reached s tree.grown from.0.node x out.outer = subst (λ (k : ℕ). Reached s tree.grown from.0.node k out.outer) from.1 out.reached in
          let one : HasDeclarator s tree.grown brought x = has_declarator s tree.grown brought ordered x y e linked in
          let below = tree.grown.before one.stands.0 one.declarator one.stands.2 in
          let within = tree.grown.within one.stands.0 one.declarator one.stands.2 in
          let short : one.declarator < length senses = omega (arith, below, within, whole) in
          let by_tree : IsDeclaredBy s senses one.declarator x = leaves_declared.by_tree s senses are tree.grown brought one.declarator x short one.outer one.named in
          let same_node : one.declarator ≡ from.0.node = some_same (sym by_tree.outermost ∙ reached.outermost) in
          record {
            entry = y;
            at = e;
            linked = linked;
            came = from.0;
            node_is = from.1;
            outer = out.outer;
            reached = reached;
            stands = subst (StandsDeclaring s) same_node one.stands;
            declared = subst (λ (m : ℕ). IsDeclaredBy s senses m x) same_node by_tree;
          }

      by : (o : Option Declared) → ordinary_at s x ≡ o → (elim o as (λ _. Bool) [ None ↦ false | Some d ↦ has_linkage d ]) ≡ true → OfLinked x
      by None e k = cc
      by (Some y) e k = of_entry y e k

  -- whatever declares that leaf is its declarator
  own_node : (x : ℕ) (o : OfLinked x) (y : Declared) (h : HasOrigin s.text s.tokens (nodes s) y) → y.node ≡ x → h.node ≡ o.came.node
  own_node x o y h e = declared_by_outermost s tree.grown y o.came.node x o.outer o.reached h e

  alone : (front : List Declared) (d : Declared) (back : List Declared) → ordinary ≡ front ++ d ∷ back → is_linked s G d.node ≡ true → (made_before d.node ordinary ≡ front) × (ordinary_at s d.node ≡ Some d)
  alone front d back e linked =
      let o = of_linked d.node linked in
      let one : HasDeclarator s tree.grown brought d.node = has_declarator s tree.grown brought ordered d.node o.entry o.at o.linked in
      let there : Rises s 0 (length s.nodes) (front ++ d ∷ back) = subst (Rises s 0 (length s.nodes)) e ordered.names in
      let none : (x : Declared) → In x front → x.node ≡ d.node → ⊥ = λ x i k.
      let two = in_order s 0 (length s.nodes) front d back there x i in
      let first = declares_once s tree.grown brought d.node two.0 one (subst (Declares s two.0) k two.2) in
      let second = declares_once s tree.grown brought d.node two.1 one two.3 in
      let lt = two.4 in
      omega (arith, first, second, lt) in
      let found = before_own d front back none in
      (ap (made_before d.node) e ∙ found.0, ap (λ (ds : List Declared). entry_of ds d.node) e ∙ found.1)

  -- what is made before it comes from nodes before
  made : (x n : ℕ) (o : OfLinked x) → o.came.node ≤ n → same.Before s n senses settles (made_before x ordinary)
  made x n o le =
      let all = sorted.all_sorted s.text s.tokens (nodes s) in
      let past = (sorted.before_leaf s.text s.tokens (nodes s) x o.came.node 0 all.0 (bindings s.text s.tokens (nodes s)).names o.entry all.1 (named x o.entry o.at) (λ h. own_node x o o.entry h o.node_is)).0 in
      grow s o.came.node n le (made_before x ordinary) (subst (λ (ds : List Declared). sorted.BeforeAll s.text s.tokens (nodes s) o.came.node (made_before x ds)) (sym tree.names) past)

  -- ---- whether it is internal

  internal_known : (x n : ℕ) (o : OfLinked x) → o.came.node ≤ n → is_internal s G x ≡ is_internal s (F n) x
  internal_known x n o le =
      let own : same.Settled s n senses settles x = λ c e.
      let small = settles o.entry o.came o.linked c (ap (λ (k : ℕ). option_and_then (specs_of s) (outermost_of s k)) o.node_is ∙ e) in
      omega (arith, small, le) in
      let before : same.Before s n senses settles (made_before o.entry.node ordinary) = subst (λ (k : ℕ). same.Before s n senses settles (made_before k ordinary)) (sym o.node_is) (made x n o le) in
      same.internal_same s n senses settles x own
      (subst (λ (d : Option Declared). same.AllSettled s n senses settles (linked_before s d)) (sym o.at) (same.along_settled s n senses settles (scopes_at s o.entry.node) o.entry.symbol (made_before o.entry.node ordinary) before))

  -- an earlier declaration has an earlier declarator
  earlier : (x : ℕ) (o : OfLinked x) (d : Declared) → In d (made_before x ordinary) → (p : OfLinked d.node) → p.came.node < o.came.node
  earlier x o d i p =
      let found = same.found_before s o.came.node senses settles x d.node ordinary p.entry (in_has d (made_before x ordinary) i) (made x o.came.node o (omega arith)) p.at in
      let at = own_node d.node p p.entry found.0 p.node_is in
      let lt = found.1 in
      omega (arith, at, lt)

  unlinked : (f : ℕ → Sense) (x : ℕ) → is_linked s G x ≡ false → is_internal s f x ≡ false
  unlinked f x h = and_false (is_linked s f x) _ h
    where
      and_false : (a b : Bool) → a ≡ false → (a && b) ≡ false
      and_false true b e = cc
      and_false false b e = refl

  each_known : (x n : ℕ) (o : OfLinked x) → o.came.node ≤ n → (d : Declared) → In d (made_before x ordinary) → is_internal s (F n) d.node ≡ is_internal s G d.node
  each_known x n o le d i = by (is_linked s G d.node) refl
    where
      by : (b : Bool) → is_linked s G d.node ≡ b → is_internal s (F n) d.node ≡ is_internal s G d.node
      by true h = let p = of_linked d.node h in let lt = earlier x o d i p in sym (internal_known d.node n p (omega (arith, lt, le)))
      by false h = unlinked (F n) d.node h ∙ sym (unlinked G d.node h)

  among_known : (x n : ℕ) (o : OfLinked x) → o.came.node ≤ n → internal_among s (F n) (made_before x ordinary) (ordinary_at s x) ≡ internal_among s G (made_before x ordinary) (ordinary_at s x)
  among_known x n o le = by (ordinary_at s x)
    where
      by : (e : Option Declared) → internal_among s (F n) (made_before x ordinary) e ≡ internal_among s G (made_before x ordinary) e
      by None = refl
      by (Some y) =
          keep_same s (F n) G (is_internal_of s (F n) y.symbol) (is_internal_of s G y.symbol) (made_before x ordinary) (λ d i. ap (λ (b : Bool). (d.symbol == y.symbol) && b) (each_known x n o le d i))

  -- ---- its type

  module _ (x m : ℕ) (one : IsDeclaredBy s senses m x) (linked : is_linked s G x ≡ true) where
    abbrev T : Ctype
    T = derived one.derives one.words.type

    -- where its specifiers and its declarator are known
    own_by : (f : ℕ → Sense) → specified_of s f x ≡ Some one.words → f m ≡ IsDeclarator (Some x) one.derives → own_type s f x ≡ Some (with_length (length_given_by s f (initialiser_of s f m)) (derived one.derives one.words.type))
    own_by f words sense =
        let base : derived_type s f (specified_of s f x) (outermost_of s x) ≡ Some T =
        ap (λ (o : Option Specified). derived_type s f o (outermost_of s x)) words
        ∙ (ap (derived_type s f (Some one.words)) one.outermost ∙ ap (λ (y : Sense). elim y as (λ _. Option Ctype) [ IsDeclarator name ds ↦ Some (derived ds one.words.type) | _ ↦ None ]) sense) in
        let plain : is_parameter s f x ≡ false = (stands_linked s tree senses are whole x linked).parameter in
        let init : initialiser_for s f x ≡ initialiser_of s f m = ap (option_and_then (initialiser_of s f)) one.outermost in
        ap (λ (b : Bool). if b then parameter_type s f (declaration_of s f x) else option_map (with_length (length_given_by s f (initialiser_for s f x))) (derived_type s f (specified_of s f x) (outermost_of s x))) plain
        ∙ (ap (option_map (with_length (length_given_by s f (initialiser_for s f x)))) base ∙ ap (λ (o : Option ℕ). Some (with_length (length_given_by s f o) T)) init)

    own_end : own_type s G x ≡ Some (with_length (length_given_by s G (initialiser_of s G m)) (derived one.derives one.words.type))
    own_end = own_by G (told s (F m) G (known_later s senses m) (option_and_then (specs_of s) (outermost_of s x)) one.words one.told) one.is

    -- at a later declarator it is what it is in the end
    own_known : (k n : ℕ) → StandsDeclaring s m → StandsDeclaring s k → m < k → k ≤ n → own_type s (F n) x ≡ own_type s G x
    own_known k n stands later lt le =
        let own = own_by (F n) (specified_later s senses m n x one.words one.told (omega (arith, lt, le))) (known s senses n m (omega (arith, lt, le)) ∙ one.is) in
        own ∙ sym (settled senses m x k n _ one.outermost stands later lt le own)

  types_known : (x n : ℕ) (o : OfLinked x) → o.came.node ≤ n
      → types_of s (F n) (internal_among s (F n) (made_before x ordinary) (ordinary_at s x)) ≡ types_of s G (internal_among s G (made_before x ordinary) (ordinary_at s x))
  types_known x n o le = ap (types_of s (F n)) (among_known x n o le) ∙ by (ordinary_at s x)
    where
      by : (e : Option Declared) → types_of s (F n) (internal_among s G (made_before x ordinary) e) ≡ types_of s G (internal_among s G (made_before x ordinary) e)
      by None = refl
      by (Some y) =
          types_same s (F n) G (keep s G (is_internal_of s G y.symbol) (made_before x ordinary))
          (λ d i.
          let found = kept_in s G (is_internal_of s G y.symbol) (made_before x ordinary) d i in
          let internal = (both (d.symbol == y.symbol) (is_internal s G d.node) found.1).1 in
          let linked = (both (is_linked s G d.node) _ internal).0 in
          let p = of_linked d.node linked in
          own_known d.node p.came.node p.declared linked o.came.node n p.stands o.stands (earlier x o d found.0 p) le)

  -- by the number of its declarator
  at_declarator : (x m n : ℕ) (o : OfLinked x) → outermost_of s x ≡ Some m → m ≤ n → o.came.node ≤ n
  at_declarator x m n o up le = let same_node : o.came.node ≡ m = some_same (sym o.declared.outermost ∙ up) in omega (arith, same_node, le)

  pub all_known : IsDeclaredOnce s senses
  all_known = record {
    stands = λ x h. let o = of_linked x h in (o.came.node, o.stands, o.outer, o.declared);
    own = λ x m one h. own_end x m one h;
    alone = λ front d back e h. alone front d back e h;
    internal = λ x m n h up le. let o = of_linked x h in sym (internal_known x n o (at_declarator x m n o up le));
    before = λ x m n h up le. let o = of_linked x h in among_known x n o (at_declarator x m n o up le);
    types = λ x m n h up le. let o = of_linked x h in types_known x n o (at_declarator x m n o up le);
  }

pub declared_once : DeclaredOnce
unfolding source_of
declared_once tokens unit tree tag_number senses cut is are whole =
    all_known (numbered tag_number (source_of tokens tree)) (tree_is tokens unit tree is tag_number) (units_families tokens unit tree tag_number cut is) (units_in_order tokens unit tree tag_number is) (λ q k ks which e. only tokens unit tree is q k ks which e)
    (units_bring tokens unit tree tag_number is) (units_ordered tokens unit tree tag_number cut is) (types_settled tokens unit tree tag_number cut is) senses are whole
