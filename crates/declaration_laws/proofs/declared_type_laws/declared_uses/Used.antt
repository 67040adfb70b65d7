-- A use of an external name has the type of an external declaration of it.
use Rattle.std.proofs.Common.{◌≡◌, ◌==◌, ◌||◌, ◌&&◌, not, ℕ, nat_eq, Bool, true, false, List, [], ◌∷◌, ◌++◌, Option, Some, None, eq-eqb, refl, sym, ap, ◌∙◌, subst, ◌⊎◌, inl, inr}
use Rattle.std.specs.Prelude.{⊤, is_some, option_map, option_and_then, if◌then◌else◌}
use Rattle.std.specs.List.{find}
use Rattle.c_types.specs.declared.term.Form.TheVariants.{Fixed, Variadic, Unspecified}
use Rattle.c_types.specs.Trees.{Ctype, ArrayOf, FunctionFrom}
use Rattle.c_grammar.specs.Productions.{p_external, p_declaration, p_parameter, p_enumerator}
use Rattle.core_tree.specs.declared.node.Linkage.{Linkage}
use Rattle.core_tree.specs.declared.node.Linkage.TheVariants.{External, Internal, Local}
use Rattle.core_tree.specs.declared.node.NodeKind.{NodeKind}
use Rattle.core_tree.specs.declared.node.NodeKind.TheVariants.{Named, FunctionName}
use Rattle.core_tree.specs.Linkages.{IsOfDeclared}
use Rattle.c_consts.specs.Core.{Core, kind_of, ctype_of}
use Rattle.c_mentions.specs.Symbols.{symbol_of}
use Rattle.c_scope.specs.declared.kinds.Kind.{Kind}
use Rattle.c_scope.specs.declared.kinds.Kind.TheVariants.{Linked, Typedef, Plain}
use Rattle.c_scope.specs.declared.kinds.Declared.{Declared}
use Rattle.c_senses.specs.Tree.{Source, is_a, is_name, parent_of, paired, spelling_at}
use Rattle.c_senses.specs.Names.{is_linked_kind, is_typedef_kind, has_linkage, names_type, entry_of, ordinary_at, typing_declarations, linked_before}
use Rattle.c_senses.specs.World.{Meaning, Object, Function, TypeName, Value, same_length}
use Rattle.c_senses.specs.Limits.{is_function_type}
use Rattle.c_senses.specs.Declarators.{outermost_of}
use Rattle.c_senses.specs.Entities.{all_together, together, agree, fuller, is_linked, is_typedef, is_internal, is_internal_of, linkage_of, entity_of, first_of, internal_among, keep, own_type, types_of, type_behind, has_earlier_length, last_of, named_by, initialiser_for, object_or_function, declared_meaning, enumerated, meaning_of, meaning_at}
use Rattle.c_senses.specs.Right as right
use Rattle.c_senses.specs.Sense.{Sense, IsDeclarator, IsValue, sense_in}
use Rattle.core_node_laws.specs.built_unit_laws.passed.core_node_laws.literal_nodes.Holding.{MeaningGives}
use Rattle.core_node_laws.proofs.built_unit_laws.run_laws.Times.{known_at}
use Rattle.declaration_laws.proofs.declared_type_laws.plain_names.Later.{Grown, known_later, own_later, initialiser_for_same}
use Rattle.declaration_laws.proofs.declared_type_laws.plain_names.Fitting.{found_node, own_entity, own_named}
use Rattle.declaration_laws.specs.declared_type_laws.declared_leaves.Leaves.{IsNamed, Own, Inner}
use Rattle.declaration_laws.proofs.declared_type_laws.owner_laws.passed.definition_laws.function_definitions.Declaring.{sign_is}
use Rattle.declaration_laws.proofs.declared_type_laws.owner_laws.passed.definition_laws.linkage_laws.Origins.{origin}
use Rattle.declaration_laws.proofs.declared_type_laws.owner_laws.passed.definition_laws.linkage_laws.Seen.{nodes}
use Rattle.declaration_laws.proofs.declared_type_laws.owner_laws.passed.definition_laws.linkage_laws.Linked as linked
use Rattle.declaration_laws.specs.declared_type_laws.seen_onward.Seen.{In}
use Rattle.declaration_laws.proofs.declared_type_laws.declared_uses.Spelling.{symbol_at, one_spelling}
use Rattle.declaration_laws.proofs.declared_type_laws.declared_uses.Asked.{Text, IsLinked, entry, site}
use Rattle.declaration_laws.proofs.declared_type_laws.declared_uses.Linkage.{seen_linked, stays, none_internal}

some_same : {A : Type 0} → {x y : A} → ◌≡◌ {A = Option A} (Some x) (Some y) → x ≡ y
some_same e = cc

both : (a b : Bool) → (a && b) ≡ true → (a ≡ true) × (b ≡ true)
both true true e = (refl, refl)
both true false e = cc
both false b e = cc

no_both : (b : Bool) → b ≡ true → b ≡ false → ⊥
no_both b e f = let never : true ≡ false = sym e ∙ f in cc

-- ---- lists

found_in : (ds : List Declared) (x : ℕ) (d : Declared) → entry_of ds x ≡ Some d → In d ds
found_in [] x d e = cc
found_in (y ∷ ds) x d e = by (y.node == x) e (λ f. found_in ds x d f)
  where
    by : (b : Bool) → (if b then Some y else entry_of ds x) ≡ Some d → (entry_of ds x ≡ Some d → In d ds) → In d (y ∷ ds)
    by true f later = inl (some_same f)
    by false f later = inr (later f)

in_either : (d : Declared) (xs ys : List Declared) → In d (xs ++ ys) → In d xs ⊎ In d ys
in_either d [] ys h = inr h
in_either d (x ∷ xs) ys (inl same) = inl (inl same)
in_either d (x ∷ xs) ys (inr h) = by (in_either d xs ys h)
  where
    by : In d xs ⊎ In d ys → In d (x ∷ xs) ⊎ In d ys
    by (inl k) = inl (inr k)
    by (inr k) = inr k

-- of two types the one or the other
fuller_one : (a b : Ctype) → (fuller a b ≡ a) ⊎ (fuller a b ≡ b)
fuller_one (FunctionFrom r ps Fixed) (FunctionFrom q qs Unspecified) = inl refl
fuller_one (FunctionFrom r ps Variadic) (FunctionFrom q qs Unspecified) = inl refl
fuller_one (FunctionFrom r ps Unspecified) (FunctionFrom q qs Unspecified) = inr refl
fuller_one (FunctionFrom r ps form) (FunctionFrom q qs Fixed) = inr refl
fuller_one (FunctionFrom r ps form) (FunctionFrom q qs Variadic) = inr refl
fuller_one (ArrayOf a (Some n)) (ArrayOf b None) = inl refl
fuller_one (ArrayOf a None) (ArrayOf b None) = inr refl
fuller_one (ArrayOf a n) (ArrayOf b (Some m)) = inr refl
fuller_one a b = inr refl

together_one : (a b : Ctype) → (together a b ≡ a) ⊎ (together a b ≡ b)
together_one a b = by (agree a b)
  where
    by : (c : Bool) → ((if c then fuller a b else b) ≡ a) ⊎ ((if c then fuller a b else b) ≡ b)
    by true = fuller_one a b
    by false = inr refl

module _ (s : Source) (f : ℕ → Sense) where
  -- types together are one of them
  abbrev IsOne : List Declared → Ctype → Type 0
  IsOne ds t = (d : Declared) × In d ds × (own_type s f d.node ≡ Some t)

  one_more : (a : Ctype) (ds : List Declared) (t : Ctype) → all_together (Some a) (types_of s f ds) ≡ Some t → (a ≡ t) ⊎ IsOne ds t
  one_more a [] t e = inl (some_same e)
  one_more a (x ∷ ds) t e = by (own_type s f x.node) refl e (λ b k. one_more b ds t k)
    where
      later_one : IsOne ds t → IsOne (x ∷ ds) t
      later_one (d, h, k) = (d, inr h, k)

      by : (o : Option Ctype) → own_type s f x.node ≡ o → all_together (Some a) (elim o as (λ _. List Ctype) [ None ↦ types_of s f ds | Some u ↦ u ∷ types_of s f ds ]) ≡ Some t
          → ((b : Ctype) → all_together (Some b) (types_of s f ds) ≡ Some t → (b ≡ t) ⊎ IsOne ds t) → (a ≡ t) ⊎ IsOne (x ∷ ds) t
      by None is k later = pick (later a k)
        where
          pick : (a ≡ t) ⊎ IsOne ds t → (a ≡ t) ⊎ IsOne (x ∷ ds) t
          pick (inl same) = inl same
          pick (inr one) = inr (later_one one)
      by (Some u) is k later = pick (later (together a u) k)
        where
          own : (together a u ≡ a) ⊎ (together a u ≡ u) → together a u ≡ t → (a ≡ t) ⊎ IsOne (x ∷ ds) t
          own (inl left) same = inl (sym left ∙ same)
          own (inr right_one) same = inr (x, inl refl, is ∙ ap (λ (y : Ctype). Some y) (sym right_one ∙ same))

          pick : (together a u ≡ t) ⊎ IsOne ds t → (a ≡ t) ⊎ IsOne (x ∷ ds) t
          pick (inl same) = own (together_one a u) same
          pick (inr one) = inr (later_one one)

  one_of : (ds : List Declared) (t : Ctype) → all_together None (types_of s f ds) ≡ Some t → IsOne ds t
  one_of [] t e = cc
  one_of (x ∷ ds) t e = by (own_type s f x.node) refl e (λ k. one_of ds t k)
    where
      by : (o : Option Ctype) → own_type s f x.node ≡ o → all_together None (elim o as (λ _. List Ctype) [ None ↦ types_of s f ds | Some u ↦ u ∷ types_of s f ds ]) ≡ Some t
          → (all_together None (types_of s f ds) ≡ Some t → IsOne ds t) → IsOne (x ∷ ds) t
      by None is k later = let one = later k in (one.0, inr one.1, one.2)
      by (Some u) is k later = pick (one_more u ds t k)
        where
          pick : (u ≡ t) ⊎ IsOne ds t → IsOne (x ∷ ds) t
          pick (inl same) = (x, inl refl, is ∙ ap (λ (y : Ctype). Some y) same)
          pick (inr one) = (one.0, inr one.1, one.2)

  -- the last of some is one of them
  last_is : (leaf : ℕ) (ds : List Declared) → (last_of s f leaf ds ≡ leaf) ⊎ ((d : Declared) × In d ds × (last_of s f leaf ds ≡ d.node))
  last_is leaf [] = inl refl
  last_is leaf (x ∷ ds) = by (last_is x.node ds)
    where
      by : (last_of s f x.node ds ≡ x.node) ⊎ ((d : Declared) × In d ds × (last_of s f x.node ds ≡ d.node)) → (last_of s f x.node ds ≡ leaf) ⊎ ((d : Declared) × In d (x ∷ ds) × (last_of s f x.node ds ≡ d.node))
      by (inl e) = inr (x, inl refl, e)
      by (inr (d, h, e)) = inr (d, inr h, e)

  -- the first of those that are kept passes
  first_kept : (test : Declared → Bool) (P : ℕ → Type 0) (leaf : ℕ) (ds : List Declared) → P leaf → ((d : Declared) → In d ds → test d ≡ true → P d.node) → P (first_of s f leaf (keep s f test ds))
  first_kept test P leaf [] own each = own
  first_kept test P leaf (x ∷ ds) own each = by (test x) refl (first_kept test P leaf ds own (λ d h. each d (inr h)))
    where
      by : (b : Bool) → test x ≡ b → P (first_of s f leaf (keep s f test ds)) → P (first_of s f leaf (if b then x ∷ keep s f test ds else keep s f test ds))
      by true is later = each x (inl refl) is
      by false is later = later

is_named : (s : Source) (m leaf : ℕ) → IsNamed s m leaf → is_name s leaf ≡ true
is_named s m leaf (Own k name) = name
is_named s m leaf (Inner c k inner more) = is_named s c leaf more

-- ---- what a use of a name is

-- an external declaration of the name of a leaf
pub record HasDeclaration (s : Source) (senses : List Sense) (e : ℕ) (t : Ctype) : Type 0 where
  pub leaf : ℕ
  pub what : right.Declared
  pub declared : right.declared_name s senses leaf ≡ Some what
  pub linkage : what.linkage ≡ External
  pub spelling : what.name ≡ spelling_at s e
  pub type : IsOfDeclared what.type t

abbrev pub IsUsed : Source → List Sense → ℕ → Ctype → Type 0
IsUsed s senses e t = linkage_of s (sense_in senses) e ≡ External → HasDeclaration s senses e t

abbrev pub KindUsed : Source → List Sense → NodeKind → Ctype → Type 0
KindUsed s senses (Named e) t = IsUsed s senses e t
KindUsed s senses (FunctionName e) t = IsUsed s senses e t
KindUsed s senses kind t = ⊤

abbrev pub CoreUsed : Source → List Sense → Core → Type 0
CoreUsed s senses c = KindUsed s senses (kind_of c) (ctype_of c)

module _ (s : Source) (senses : List Sense) (text : Text s senses) where
  abbrev g : ℕ → Sense
  g = sense_in senses

  external_not : (e : ℕ) → linkage_of s g e ≡ External → (is_internal s g e ≡ false) × (is_linked s g e ≡ true)
  external_not e h = by (is_internal s g e) (is_linked s g e) h
    where
      by : (a b : Bool) → (if a then Internal else (if b then External else Local)) ≡ External → (a ≡ false) × (b ≡ true)
      by true b k = absurd (let bad : Internal ≡ External = k in cc)
      by false true k = (refl, refl)
      by false false k = absurd (let bad : Local ≡ External = k in cc)

  linkage_is : (y : Declared) → IsLinked s senses text y → is_internal s g y.node ≡ false → linkage_of s g y.node ≡ External
  linkage_is y l off =
      let on : is_linked s g y.node ≡ true = ap (λ (o : Option Declared). elim o as (λ _. Bool) [ None ↦ false | Some z ↦ has_linkage z ]) (entry s senses text y l.0) ∙ l.1 in
      ap (λ (b : Bool). if b then Internal else (if is_linked s g y.node then External else Local)) off ∙ ap (λ (b : Bool). if b then External else Local) on

  -- ---- what such a declaration declares

  linked_kind : (k : Kind) → is_linked_kind k ≡ true → is_typedef_kind k ≡ false
  linked_kind Linked h = refl
  linked_kind Typedef h = cc
  linked_kind Plain h = cc

  declares : (y : Declared) → IsLinked s senses text y → is_internal s g y.node ≡ false → (u : Ctype) → own_type s g y.node ≡ Some u → right.declared_name s senses y.node ≡ Some (right.declared_as s senses y.node u)
  declares y l off u own =
      ap (λ (b : Bool). if b then option_map (right.declared_as s senses y.node) (right.entity_type s senses y.node) else None) entity
      ∙ ap (option_map (right.declared_as s senses y.node)) (ap (λ (x : Linkage). elim x as (λ _. Option Ctype) [ Internal ↦ right.internal_type s senses y.node | _ ↦ own_type s g y.node ]) (linkage_is y l off) ∙ own)
    where
      all : (a b c d : Bool) → a ≡ true → b ≡ true → c ≡ false → d ≡ true → (a && (b && (not c && d))) ≡ true
      all true true false true e f h k = refl
      all true true false false e f h k = cc
      all true true true d e f h k = cc
      all true false c d e f h k = cc
      all false b c d e f h k = cc

      declaring : right.is_declaring s senses y.node ≡ true
      declaring =
          let at = site s senses text y l in
          ap (λ (b : Bool). b && (elim (outermost_of s y.node) as (λ _. Bool) [ None ↦ false | Some d ↦ elim (g d) as (λ _. Bool) [ IsDeclarator name ds ↦ same_length name (Some y.node) | _ ↦ false ] ])) (is_named s at.at y.node at.declared.named)
          ∙ (ap (λ (o : Option ℕ). elim o as (λ _. Bool) [ None ↦ false | Some d ↦ elim (g d) as (λ _. Bool) [ IsDeclarator name ds ↦ same_length name (Some y.node) | _ ↦ false ] ]) at.declared.outermost
          ∙ (ap (λ (x : Sense). elim x as (λ _. Bool) [ IsDeclarator name ds ↦ same_length name (Some y.node) | _ ↦ false ]) at.declared.is ∙ eq-eqb y.node y.node refl))

      in_declaration : right.stands_in_declaration s senses y.node ≡ true
      in_declaration = by (linked.named s text.tree y.node y (entry s senses text y l.0))
        where
          of_two : (p : ℕ) (x : Bool) → (is_a s p_external p ≡ true) ⊎ (is_a s p_declaration p ≡ true) → (is_a s p_external p || (is_a s p_declaration p || (is_a s p_parameter p && x))) ≡ true
          of_two p x (inl e) = ap (λ (b : Bool). b || (is_a s p_declaration p || (is_a s p_parameter p && x))) e
          of_two p x (inr e) = more (is_a s p_external p) (ap (λ (b : Bool). b || (is_a s p_parameter p && x)) e)
            where
              more : (a : Bool) → (is_a s p_declaration p || (is_a s p_parameter p && x)) ≡ true → (a || (is_a s p_declaration p || (is_a s p_parameter p && x))) ≡ true
              more true k = refl
              more false k = k

          by : (y.kind ≡ Plain) ⊎ linked.Named s text.tree y.node y → right.stands_in_declaration s senses y.node ≡ true
          by (inl plain) = absurd (let bad : is_linked_kind Plain ≡ true = ap is_linked_kind (sym plain) ∙ l.1 in cc)
          by (inr n) =
              ap (λ (o : Option ℕ). elim o as (λ _. Bool) [ None ↦ false | Some p ↦ is_a s p_external p || (is_a s p_declaration p || (is_a s p_parameter p && right.is_defined_parameter s senses y.node)) ])
              (linked.declaration_is s text.tree senses text.are text.whole y.node y n) ∙ of_two n.at.declaration (right.is_defined_parameter s senses y.node) n.at.is

      no_type : is_typedef s g y.node ≡ false
      no_type = ap (λ (o : Option Declared). elim o as (λ _. Bool) [ None ↦ false | Some z ↦ names_type z ]) (entry s senses text y l.0) ∙ linked_kind y.kind l.1

      own_entity_is : entity_of s g y.node ≡ y.node
      own_entity_is = ap (λ (b : Bool). if b then first_of s g y.node (internal_among s g s.declared.ordinary (ordinary_at s y.node)) else y.node) off

      entity : right.declares_entity s senses y.node ≡ true
      entity = all (right.is_declaring s senses y.node) (right.stands_in_declaration s senses y.node) (is_typedef s g y.node) (entity_of s g y.node == y.node) declaring in_declaration no_type (eq-eqb (entity_of s g y.node) y.node own_entity_is)

  -- ---- the symbol of a name

  signed : (y : Declared) → In y s.declared.ordinary → symbol_at s y.node ≡ y.symbol
  signed y there =
      let h = (origin s.text s.tokens (nodes s) y.node y (subst (λ (ds : List Declared). find (λ (d : Declared). d.node == y.node) ds ≡ Some y) text.tree.names (entry s senses text y there))).0 in
      let sign = sign_is s.tokens (nodes s) s.text (symbol_of s.text s.tokens) h.node h.standing.role h.leaf h.symbol h.linkage h.derivation h.type_name (_) h.mentions in
      let node : y.node ≡ h.leaf = ap (λ (z : Declared). z.node) h.is in
      let own : y.symbol ≡ h.symbol = ap (λ (z : Declared). z.symbol) h.is in
      ap (symbol_at s) node ∙ (sym sign ∙ sym own)

  spelled_alike : (y z : Declared) → IsLinked s senses text y → IsLinked s senses text z → y.symbol ≡ z.symbol → spelling_at s y.node ≡ spelling_at s z.node
  spelled_alike y z l m same =
      one_spelling s y.node z.node (is_named s (site s senses text y l).at y.node (site s senses text y l).declared.named) (is_named s (site s senses text z m).at z.node (site s senses text z m).declared.named)
      (signed y l.0 ∙ (same ∙ sym (signed z m.0)))

  -- ---- a use

  grown_of : (t u : Ctype) → Grown t u → IsOfDeclared u t
  grown_of t u (inl same) = inl (sym same)
  grown_of t u (inr (of, n, open_one, sized)) = inr (of, n, sized, open_one)

  -- the declaration that a use names
  abbrev Which : ℕ → Declared → Type 0
  Which i y = (z : Declared) × (named_by s (known_at s senses i) y.node ≡ z.node) × ((z ≡ y) ⊎ (In z (linked_before s (Some y)) × (is_some (initialiser_for s g y.node) ≡ true)))

  used_linked : (i : ℕ) (y : Declared) → IsLinked s senses text y → (t : Ctype) → all_together None (types_of s (known_at s senses i) (linked_before s (Some y) ++ y ∷ [])) ≡ Some t → IsUsed s senses (entity_of s (known_at s senses i) (named_by s (known_at s senses i) y.node)) t
  used_linked i y l t behind external = by_use which
    where
      f : ℕ → Sense
      f = known_at s senses i

      which : Which i y
      which = by (has_earlier_length s (known_at s senses i) y.node) refl
        where
          last : is_some (initialiser_for s g y.node) ≡ true
              → (last_of s (known_at s senses i) y.node (linked_before s (Some y)) ≡ y.node) ⊎ ((d : Declared) × In d (linked_before s (Some y)) × (last_of s (known_at s senses i) y.node (linked_before s (Some y)) ≡ d.node))
              → named_by s (known_at s senses i) y.node ≡ last_of s (known_at s senses i) y.node (linked_before s (Some y)) → Which i y
          last init (inl e) named_is = (y, named_is ∙ e, inl refl)
          last init (inr (d, h, e)) named_is = (d, named_is ∙ e, inr (h, init))

          by : (b : Bool) → has_earlier_length s (known_at s senses i) y.node ≡ b → Which i y
          by false e = (y, ap (λ (b : Bool). if b then last_of s (known_at s senses i) y.node (linked_before s (ordinary_at s y.node)) else y.node) e, inl refl)
          by true e =
              let init : is_some (initialiser_for s g y.node) ≡ true = sym (ap is_some (initialiser_for_same s (known_at s senses i) g y.node)) ∙ (both (is_some (initialiser_for s (known_at s senses i) y.node)) _ e).0 in
              last init (last_is s (known_at s senses i) y.node (linked_before s (Some y)))
              (ap (λ (b : Bool). if b then last_of s (known_at s senses i) y.node (linked_before s (ordinary_at s y.node)) else y.node) e ∙ ap (λ (o : Option Declared). last_of s (known_at s senses i) y.node (linked_before s o)) (entry s senses text y l.0))

      linked_of : (z : Declared) → (z ≡ y) ⊎ (In z (linked_before s (Some y)) × (is_some (initialiser_for s g y.node) ≡ true)) → IsLinked s senses text z × (z.symbol ≡ y.symbol)
      linked_of z (inl same) = (subst (IsLinked s senses text) (sym same) l, ap (λ (x : Declared). x.symbol) same)
      linked_of z (inr (h, init)) = seen_linked s senses text y z h

      typing : (d : Declared) → In d (linked_before s (Some y) ++ y ∷ []) → (d ≡ y) ⊎ In d (linked_before s (Some y))
      typing d h = pick (in_either d (linked_before s (Some y)) (y ∷ []) h)
        where
          pick : In d (linked_before s (Some y)) ⊎ In d (y ∷ []) → (d ≡ y) ⊎ In d (linked_before s (Some y))
          pick (inl k) = inr k
          pick (inr (inl same)) = inl (sym same)
          pick (inr (inr k)) = absurd k

      typing_linked : (d : Declared) → (d ≡ y) ⊎ In d (linked_before s (Some y)) → IsLinked s senses text d × (d.symbol ≡ y.symbol)
      typing_linked d (inl same) = (subst (IsLinked s senses text) (sym same) l, ap (λ (x : Declared). x.symbol) same)
      typing_linked d (inr h) = seen_linked s senses text y d h

      by_use : Which i y → HasDeclaration s senses (entity_of s (known_at s senses i) (named_by s (known_at s senses i) y.node)) t
      by_use (z, named_is, how) = pick (is_internal s (known_at s senses i) z.node) refl
        where
          lz : IsLinked s senses text z × (z.symbol ≡ y.symbol)
          lz = linked_of z how

          entity : entity_of s (known_at s senses i) (named_by s (known_at s senses i) y.node) ≡ entity_of s (known_at s senses i) z.node
          entity = ap (entity_of s (known_at s senses i)) named_is

          -- what is internal by what is known has an internal entity
          kept : is_internal s (known_at s senses i) z.node ≡ true → is_internal s g (entity_of s (known_at s senses i) z.node) ≡ true
          kept e =
              subst (λ (k : ℕ). is_internal s g k ≡ true) (sym (ap (λ (b : Bool). if b then first_of s (known_at s senses i) z.node (internal_among s (known_at s senses i) s.declared.ordinary (ordinary_at s z.node)) else z.node) e ∙ ap (λ (o : Option Declared). first_of s (known_at s senses i) z.node (internal_among s (known_at s senses i) s.declared.ordinary o)) (entry s senses text z lz.0.0)))
              (first_kept s (known_at s senses i) (is_internal_of s (known_at s senses i) z.symbol) (λ k. is_internal s g k ≡ true) z.node s.declared.ordinary (stays s senses text i z lz.0 e)
              (λ d h k. let own = (both (nat_eq d.symbol z.symbol) (is_internal s (known_at s senses i) d.node) k).1 in stays s senses text i d (h, linked_on d h own) own))
            where
              linked_on : (d : Declared) → In d s.declared.ordinary → is_internal s (known_at s senses i) d.node ≡ true → has_linkage d ≡ true
              linked_on d h own = sym (ap (λ (o : Option Declared). elim o as (λ _. Bool) [ None ↦ false | Some x ↦ has_linkage x ]) (entry s senses text d h)) ∙ (both (is_linked s (known_at s senses i) d.node) _ own).0

          pick : (b : Bool) → is_internal s (known_at s senses i) z.node ≡ b → HasDeclaration s senses (entity_of s (known_at s senses i) (named_by s (known_at s senses i) y.node)) t
          pick true e = absurd (no_both (is_internal s g (entity_of s (known_at s senses i) z.node)) (kept e) (subst (λ (k : ℕ). is_internal s g k ≡ false) entity (external_not _ external).0))
          pick false e =
              let own : entity_of s (known_at s senses i) (named_by s (known_at s senses i) y.node) ≡ z.node = entity ∙ ap (λ (b : Bool). if b then first_of s (known_at s senses i) z.node (internal_among s (known_at s senses i) s.declared.ordinary (ordinary_at s z.node)) else z.node) e in
              let off : is_internal s g z.node ≡ false = subst (λ (k : ℕ). is_internal s g k ≡ false) own (external_not _ external).0 in
              let one = one_of s (known_at s senses i) (linked_before s (Some y) ++ y ∷ []) t behind in
              let d : Declared = one.0 in
              let seen_d = typing d one.1 in
              let ld = typing_linked d seen_d in
              let none : is_internal s g d.node ≡ false = none_internal s senses text y z d l how off seen_d in
              let later = own_later s (known_at s senses i) g (known_later s senses i) d.node t one.2 in
              record {
                leaf = d.node;
                what = right.declared_as s senses d.node later.0;
                declared = declares d ld.0 none later.0 later.1;
                linkage = linkage_is d ld.0 none;
                spelling = spelled_alike d z ld.0 lz.0 (ld.1 ∙ sym lz.1) ∙ ap (spelling_at s) (sym own);
                type = grown_of t later.0 later.2;
              }

  used : (i x : ℕ) (t : Ctype) → type_behind s (known_at s senses i) x ≡ Some t → IsUsed s senses (entity_of s (known_at s senses i) (named_by s (known_at s senses i) x)) t
  used i x t behind = by (ordinary_at s x) refl behind
    where
      by : (o : Option Declared) → ordinary_at s x ≡ o → all_together None (types_of s (known_at s senses i) (typing_declarations s o)) ≡ Some t → IsUsed s senses (entity_of s (known_at s senses i) (named_by s (known_at s senses i) x)) t
      by None found e = absurd (cc)
      by (Some y) found e = pick (has_linkage y) refl
        where
          node : y.node ≡ x
          node = found_node s.declared.ordinary x y found

          pick : (b : Bool) → has_linkage y ≡ b → IsUsed s senses (entity_of s (known_at s senses i) (named_by s (known_at s senses i) x)) t
          pick true is =
              subst (λ (k : ℕ). IsUsed s senses (entity_of s (known_at s senses i) (named_by s (known_at s senses i) k)) t) node
              (used_linked i y (found_in s.declared.ordinary x y found, is) t (sym (ap (λ (b : Bool). all_together None (types_of s (known_at s senses i) (if b then linked_before s (Some y) ++ y ∷ [] else y ∷ []))) is) ∙ e))
          pick false is = λ external.
              let unlinked : is_linked s (known_at s senses i) x ≡ false = ap (λ (o : Option Declared). elim o as (λ _. Bool) [ None ↦ false | Some z ↦ has_linkage z ]) found ∙ is in
              let own : entity_of s (known_at s senses i) (named_by s (known_at s senses i) x) ≡ x = ap (entity_of s (known_at s senses i)) (own_named s (known_at s senses i) x unlinked t behind) ∙ own_entity s (known_at s senses i) x unlinked in
              absurd (no_both (is_linked s g x) (subst (λ (k : ℕ). is_linked s g k ≡ true) own (external_not _ external).1) unlinked)

  -- what names mean
  pub meaning_used : (i first : ℕ) → MeaningGives (CoreUsed s senses) (meaning_at s (known_at s senses i) first)
  meaning_used i first = by (paired s.uses first)
    where
      behind : (x : ℕ) (o : Option Ctype) → type_behind s (known_at s senses i) x ≡ o → MeaningGives (CoreUsed s senses) (option_map (object_or_function s (known_at s senses i) (entity_of s (known_at s senses i) (named_by s (known_at s senses i) x))) o)
      behind x None e = tt
      behind x (Some t) e = pick (is_function_type t)
        where
          pick : (b : Bool) → MeaningGives (CoreUsed s senses) (Some (if b then Function (entity_of s (known_at s senses i) (named_by s (known_at s senses i) x)) t else Object (entity_of s (known_at s senses i) (named_by s (known_at s senses i) x)) t))
          pick true = λ place. used i x t e
          pick false = λ place. used i x t e

      no_type : (o : Option Ctype) → MeaningGives (CoreUsed s senses) (option_map TypeName o)
      no_type None = tt
      no_type (Some t) = tt

      by_typedef : (x : ℕ) (b : Bool) → MeaningGives (CoreUsed s senses) (if b then option_map TypeName (own_type s (known_at s senses i) x) else option_map (object_or_function s (known_at s senses i) (entity_of s (known_at s senses i) (named_by s (known_at s senses i) x))) (type_behind s (known_at s senses i) x))
      by_typedef x true = no_type (own_type s (known_at s senses i) x)
      by_typedef x false = behind x (type_behind s (known_at s senses i) x) refl

      value : (y : Sense) → MeaningGives (CoreUsed s senses) (elim y as (λ _. Option Meaning) [ IsValue n ↦ Some (Value n) | _ ↦ None ])
      value (IsValue n) = tt
      value y = tt

      by_enumerator : (x p : ℕ) (b : Bool) → MeaningGives (CoreUsed s senses) (if b then enumerated s (known_at s senses i) p else declared_meaning s (known_at s senses i) x)
      by_enumerator x p true = value (known_at s senses i p)
      by_enumerator x p false = by_typedef x (is_typedef s (known_at s senses i) x)

      by_parent : (x : ℕ) (o : Option ℕ) → MeaningGives (CoreUsed s senses) (elim o as (λ _. Option Meaning) [ None ↦ None | Some p ↦ if is_a s p_enumerator p then enumerated s (known_at s senses i) p else declared_meaning s (known_at s senses i) x ])
      by_parent x None = tt
      by_parent x (Some p) = by_enumerator x p (is_a s p_enumerator p)

      by : (o : Option ℕ) → MeaningGives (CoreUsed s senses) (option_and_then (meaning_of s (known_at s senses i)) o)
      by None = tt
      by (Some x) = by_parent x (parent_of s x)
