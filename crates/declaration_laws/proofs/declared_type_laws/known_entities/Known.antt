-- From where on the entity of a name is known.
use Rattle.std.proofs.Common.{arith, ◌≡◌, ◌<◌, ◌≤◌, ℕ, ◌==◌, ◌&&◌, nat_eq, Bool, true, false, cond, List, [], ◌∷◌, Option, Some, None, take, length, eq-eqb, refl, sym, ap, ◌∙◌, subst, ◌⊎◌, inl, inr}
use Rattle.std.specs.Prelude.{option_and_then, if◌then◌else◌}
use Rattle.std.specs.List.{find}
use Rattle.c_grammar.specs.Productions.{p_external, p_declaration, p_specs, p_declarator, p_either}
use Rattle.c_mentions.specs.declared.mentions.Linkage.{Linkage}
use Rattle.c_mentions.specs.declared.mentions.Linkage.TheVariants as linkage
use Rattle.c_mentions.specs.Symbols.{symbol_of}
use Rattle.c_scope.specs.declared.kinds.Kind.TheVariants.{Plain}
use Rattle.c_scope.specs.declared.kinds.Declared.{Declared}
use Rattle.c_scope.specs.Known.{first_scope, kind_of, is_function}
use Rattle.c_scope.specs.Resolves.{bindings}
use Rattle.c_senses.specs.Tree.{Source, children_at, is_a, first_where}
use Rattle.c_senses.specs.Names.{source_of, numbered, ordinary_at, is_linked_kind, has_linkage, linked_before, made_before, scopes_at}
use Rattle.c_senses.specs.Declarators.{outermost_of, specs_of}
use Rattle.c_senses.specs.Entities.{is_linked, is_internal, is_internal_of, internal_among, keep, first_of, entity_of}
use Rattle.c_senses.specs.Sense.{Sense, sense_in}
use Rattle.core_node_laws.specs.count_laws.passed.parsed_tree_laws.family_laws.Families.{Families}
use Rattle.core_node_laws.proofs.count_laws.passed.parsed_tree_laws.family_laws.Reading.{units_families}
use Rattle.core_node_laws.specs.count_laws.passed.parsed_tree_laws.member_names.Differ.{InOrder}
use Rattle.core_node_laws.proofs.count_laws.passed.parsed_tree_laws.member_names.Order.{units_in_order}
use Rattle.declaration_laws.proofs.declared_type_laws.owner_laws.passed.definition_laws.linkage_laws.Origins.{HasOrigin, origin}
use Rattle.declaration_laws.proofs.declared_type_laws.owner_laws.passed.definition_laws.linkage_laws.Seen.{nodes, some_same, node_within}
use Rattle.declaration_laws.proofs.declared_type_laws.owner_laws.passed.definition_laws.linkage_laws.Roles as roles
use Rattle.declaration_laws.proofs.declared_type_laws.owner_laws.passed.definition_laws.linkage_laws.Chains.{either_is, declaring, name_reached}
use Rattle.declaration_laws.proofs.declared_type_laws.owner_laws.passed.definition_laws.linkage_laws.Linked.{Tree}
use Rattle.declaration_laws.proofs.declared_type_laws.owner_laws.passed.definition_laws.linkage_laws.Reading.{tree_is}
use Rattle.declaration_laws.proofs.declared_type_laws.owner_laws.internal_laws.PassedOn.{outer_is, Declares as declares_role}
use Rattle.declaration_laws.proofs.declared_type_laws.owner_laws.internal_laws.Sorted as sorted
use Rattle.declaration_laws.proofs.declared_type_laws.owner_laws.internal_laws.Settled.{specs_settled}
use Rattle.declaration_laws.proofs.declared_type_laws.owner_laws.internal_laws.Same as same
use Rattle.declaration_laws.proofs.declared_type_laws.owner_laws.internal_laws.Reading.{only}
use Rattle.declaration_laws.specs.declared_type_laws.known_entities.Entities.{IsKnownAt, EntitiesKnown}

-- the first of those that pass is the same for two tests that say the same of one that passes and of all before it
first_same : (s : Source) (f g : ℕ → Sense) (ds : List Declared) (a b : Declared → Bool) (leaf x : ℕ) (y : Declared) → find (λ (d : Declared). d.node == leaf) ds ≡ Some y → a y ≡ true → b y ≡ true
    → ((d : Declared) → same.Has d.node (made_before leaf ds) → a d ≡ b d) → first_of s f x (keep s f a ds) ≡ first_of s g x (keep s g b ds)
first_same s f g [] a b leaf x y e t n each = cc
first_same s f g (d ∷ ds) a b leaf x y e t n each = by (nat_eq d.node leaf) e each (λ k h. first_same s f g ds a b leaf x y k t n h)
  where
    head : (c : Bool) (more : List Declared) → c ≡ true → first_of s f x (if c then d ∷ more else more) ≡ d.node
    head true more e = refl
    head false more e = cc

    skip : (c : Bool) → a d ≡ c → b d ≡ c → first_of s f x (keep s f a ds) ≡ first_of s g x (keep s g b ds) → first_of s f x (if a d then d ∷ keep s f a ds else keep s f a ds) ≡ first_of s g x (if b d then d ∷ keep s g b ds else keep s g b ds)
    skip true k h later = head (a d) (keep s f a ds) k ∙ sym (head (b d) (keep s g b ds) h)
    skip false k h later =
        ap (λ (c : Bool). first_of s f x (if c then d ∷ keep s f a ds else keep s f a ds)) k ∙ (later ∙ ap (λ (c : Bool). first_of s g x (if c then d ∷ keep s g b ds else keep s g b ds)) (sym h))

    by : (c : Bool) → cond c (Some d) (find (λ (z : Declared). z.node == leaf) ds) ≡ Some y → ((z : Declared) → same.Has z.node (if c then [] else d ∷ made_before leaf ds) → a z ≡ b z)
        → (find (λ (z : Declared). z.node == leaf) ds ≡ Some y → ((z : Declared) → same.Has z.node (made_before leaf ds) → a z ≡ b z) → first_of s f x (keep s f a ds) ≡ first_of s g x (keep s g b ds))
        → first_of s f x (keep s f a (d ∷ ds)) ≡ first_of s g x (keep s g b (d ∷ ds))
    by true k h later = let is : d ≡ y = cc in head (a d) (keep s f a ds) (ap a is ∙ t) ∙ sym (head (b d) (keep s g b ds) (ap b is ∙ n))
    by false k h later = skip (b d) (h d (inl refl)) refl (later k (λ z i. h z (inr i)))

module _ (s : Source) (tree : Tree s) (families : Families s) (order : InOrder s) (only_specs : (q : ℕ) (k : ℕ) (ks : List ℕ) → (is_a s p_external q ≡ true) ⊎ (is_a s p_declaration q ≡ true) → children_at s q ≡ k ∷ ks → first_where (is_a s p_specs) ks ≡ None)
    (senses : List Sense) (at : ℕ) where
  abbrev f : ℕ → Sense
  f i = sense_in senses i

  abbrev g : ℕ → Sense
  g = sense_in (take at senses)

  settles : (y : Declared) (h : HasOrigin s.text s.tokens (nodes s) y) → has_linkage y ≡ true → (c : ℕ) → option_and_then (specs_of s) (outermost_of s y.node) ≡ Some c → c < h.node
  settles = specs_settled s tree families order only_specs

  -- the node that declares a linked name is its outermost declarator
  pub declared_at : (y : Declared) (h : HasOrigin s.text s.tokens (nodes s) y) → has_linkage y ≡ true → outermost_of s y.node ≡ Some h.node
  declared_at y h linked = by (roles.declares s.tokens (nodes s) s.text (symbol_of s.text s.tokens) h.node h.standing.role h.leaf h.symbol h.linkage h.derivation h.type_name (_) h.mentions)
    where
      node_is : h.leaf ≡ y.node
      node_is = sym (ap (λ (x : Declared). x.node) h.is)

      by : (h.linkage ≡ linkage.Never) ⊎ roles.ByDeclarator s.tokens (nodes s) h.node h.standing.role h.leaf h.linkage h.derivation h.type_name → outermost_of s y.node ≡ Some h.node
      by (inl never) =
          let plain : y.kind ≡ Plain = ap (λ (d : Declared). d.kind) h.is ∙ ap (λ (l : Linkage). kind_of l (first_scope (length (nodes s)) h.standing.scopes == length (nodes s)) (is_function h.before.functions h.derivation h.type_name)) never in
          absurd (let bad : is_linked_kind Plain ≡ true = ap is_linked_kind (sym plain) ∙ linked in cc)
      by (inr b) =
          let which = either_is s tree.grown h.node p_declarator p_either refl refl b.production in
          let outer = outer_is s tree.grown h.node h.standing h.stands (subst declares_role (sym b.role_is) tt) (declaring s tree.grown h.node which) in
          (name_reached s tree.grown h.node y.node outer which (inside which) (b.name ∙ ap (λ (k : ℕ). Some k) node_is)).outermost
        where
          inside : (is_a s p_declarator h.node ≡ true) ⊎ (is_a s p_either h.node ≡ true) → h.node < length s.nodes
          inside (inl e) = node_within s p_declarator h.node e refl
          inside (inr e) = node_within s p_either h.node e refl

  later : (n : ℕ) (ds : List Declared) → n ≤ at → sorted.BeforeAll s.text s.tokens (nodes s) n ds → same.Before s at senses settles ds
  later n [] le h = tt
  later n (d ∷ ds) le h = (h.0, (let lt = h.1 in omega (arith, lt, le)), later n ds le h.2)

  unlinked : (leaf : ℕ) → is_linked s f leaf ≡ false → is_internal s g leaf ≡ is_internal s f leaf
  unlinked leaf h = by (is_linked s f leaf) _ _ h
    where
      by : (b x y : Bool) → b ≡ false → (b && x) ≡ (b && y)
      by true x y e = cc
      by false x y e = refl

  -- one whose declarations before are made before
  internal_at : (leaf : ℕ) (y : Declared) → ordinary_at s leaf ≡ Some y → y.node ≡ leaf → (h : HasOrigin s.text s.tokens (nodes s) y) → h.node ≤ at → same.Before s at senses settles (made_before leaf s.declared.ordinary) → is_internal s g leaf ≡ is_internal s f leaf
  internal_at leaf y found node h le made = by (has_linkage y) refl
    where
      by : (b : Bool) → has_linkage y ≡ b → is_internal s g leaf ≡ is_internal s f leaf
      by false e = unlinked leaf (ap (λ (o : Option Declared). elim o as (λ _. Bool) [ None ↦ false | Some z ↦ has_linkage z ]) found ∙ e)
      by true e =
          sym (same.internal_same s at senses settles leaf
          (λ c k. let lt = settles y h e c (ap (λ (j : ℕ). option_and_then (specs_of s) (outermost_of s j)) node ∙ k) in omega (arith, lt, le))
          (subst (λ (o : Option Declared). same.AllSettled s at senses settles (linked_before s o)) (sym found)
          (same.along_settled s at senses settles (scopes_at s y.node) y.symbol (made_before y.node s.declared.ordinary) (subst (λ (j : ℕ). same.Before s at senses settles (made_before j s.declared.ordinary)) (sym node) made))))

  earlier_at : (leaf : ℕ) (x : ℕ) → same.Before s at senses settles (made_before leaf s.declared.ordinary) → same.Has x (made_before leaf s.declared.ordinary) → is_internal s g x ≡ is_internal s f x
  earlier_at leaf x made has = by (ordinary_at s x) refl
    where
      by : (o : Option Declared) → ordinary_at s x ≡ o → is_internal s g x ≡ is_internal s f x
      by None e = unlinked x (ap (λ (o : Option Declared). elim o as (λ _. Bool) [ None ↦ false | Some z ↦ has_linkage z ]) e)
      by (Some z) e =
          let there = same.found_before s at senses settles leaf x s.declared.ordinary z has made e in
          internal_at x z e there.2 there.0 (let lt = there.1 in omega (arith, lt)) (same.earlier_before s at senses settles leaf x s.declared.ordinary has made)

  pub known_at : (leaf m : ℕ) → outermost_of s leaf ≡ Some m → m ≤ at → IsKnownAt s senses at leaf
  known_at leaf m outer le = by (ordinary_at s leaf) refl
    where
      plain : is_linked s f leaf ≡ false → IsKnownAt s senses at leaf
      plain h = record { internal = unlinked leaf h; entity = ap (λ (b : Bool). if b then first_of s g leaf (internal_among s g s.declared.ordinary (ordinary_at s leaf)) else leaf) (none g) ∙ sym (ap (λ (b : Bool). if b then first_of s f leaf (internal_among s f s.declared.ordinary (ordinary_at s leaf)) else leaf) (none f)) }
        where
          cut : (b x : Bool) → b ≡ false → (b && x) ≡ false
          cut true x e = cc
          cut false x e = refl

          none : (sense : ℕ → Sense) → is_internal s sense leaf ≡ false
          none sense = cut (is_linked s sense leaf) _ h

      linked : (y : Declared) → ordinary_at s leaf ≡ Some y → has_linkage y ≡ true → IsKnownAt s senses at leaf
      linked y found e = record { internal = same_internal; entity = pick (is_internal s f leaf) refl }
        where
          in_names : find (λ (d : Declared). d.node == leaf) (bindings s.text s.tokens (nodes s)).names ≡ Some y
          in_names = subst (λ (ds : List Declared). find (λ (d : Declared). d.node == leaf) ds ≡ Some y) tree.names found

          there : (h : HasOrigin s.text s.tokens (nodes s) y) × (y.node ≡ leaf)
          there = origin s.text s.tokens (nodes s) leaf y in_names

          own : (h : HasOrigin s.text s.tokens (nodes s) y) → h.node ≡ m
          own h = some_same (sym (declared_at y h e) ∙ (ap (outermost_of s) there.1 ∙ outer))

          made : same.Before s at senses settles (made_before leaf s.declared.ordinary)
          made =
              let all = sorted.all_sorted s.text s.tokens (nodes s) in
              let told = (sorted.before_leaf s.text s.tokens (nodes s) leaf m 0 all.0 (bindings s.text s.tokens (nodes s)).names y all.1 in_names own).0 in
              later m (made_before leaf s.declared.ordinary) le (subst (λ (ds : List Declared). sorted.BeforeAll s.text s.tokens (nodes s) m (made_before leaf ds)) (sym tree.names) told)

          same_internal : is_internal s g leaf ≡ is_internal s f leaf
          same_internal = internal_at leaf y found there.1 there.0 (let is = own there.0 in omega (arith, is, le)) made

          pick : (b : Bool) → is_internal s f leaf ≡ b → entity_of s g leaf ≡ entity_of s f leaf
          pick false k =
              ap (λ (b : Bool). if b then first_of s g leaf (internal_among s g s.declared.ordinary (ordinary_at s leaf)) else leaf) (same_internal ∙ k)
              ∙ sym (ap (λ (b : Bool). if b then first_of s f leaf (internal_among s f s.declared.ordinary (ordinary_at s leaf)) else leaf) k)
          pick true k =
              ap (λ (b : Bool). if b then first_of s g leaf (internal_among s g s.declared.ordinary (ordinary_at s leaf)) else leaf) (same_internal ∙ k)
              ∙ (ap (λ (o : Option Declared). first_of s g leaf (internal_among s g s.declared.ordinary o)) found
              ∙ (first_same s g f s.declared.ordinary (is_internal_of s g y.symbol) (is_internal_of s f y.symbol) leaf leaf y found (passes g (same_internal ∙ k)) (passes f k)
              (λ d has. ap (λ (b : Bool). nat_eq d.symbol y.symbol && b) (earlier_at leaf d.node made has))
              ∙ sym (ap (λ (b : Bool). if b then first_of s f leaf (internal_among s f s.declared.ordinary (ordinary_at s leaf)) else leaf) k
              ∙ ap (λ (o : Option Declared). first_of s f leaf (internal_among s f s.declared.ordinary o)) found)))
            where
              and_of : (a b : Bool) → a ≡ true → b ≡ true → (a && b) ≡ true
              and_of true true e f = refl
              and_of true false e f = cc
              and_of false b e f = cc

              passes : (sense : ℕ → Sense) → is_internal s sense leaf ≡ true → is_internal_of s sense y.symbol y ≡ true
              passes sense h = and_of (nat_eq y.symbol y.symbol) (is_internal s sense y.node) (eq-eqb y.symbol y.symbol refl) (ap (is_internal s sense) there.1 ∙ h)

      by : (o : Option Declared) → ordinary_at s leaf ≡ o → IsKnownAt s senses at leaf
      by None e = plain (ap (λ (o : Option Declared). elim o as (λ _. Bool) [ None ↦ false | Some z ↦ has_linkage z ]) e)
      by (Some y) e = cases (has_linkage y) refl
        where
          cases : (b : Bool) → has_linkage y ≡ b → IsKnownAt s senses at leaf
          cases true k = linked y e k
          cases false k = plain (ap (λ (o : Option Declared). elim o as (λ _. Bool) [ None ↦ false | Some z ↦ has_linkage z ]) e ∙ k)

pub entities_known : EntitiesKnown
unfolding source_of
entities_known tokens unit tree tag_number senses cut is leaf m at outer le =
    let s = numbered tag_number (source_of tokens tree) in
    known_at s (tree_is tokens unit tree is tag_number) (units_families tokens unit tree tag_number cut is) (units_in_order tokens unit tree tag_number is) (λ q k ks which e. only tokens unit tree is q k ks which e) senses at leaf m outer le
