-- What the row of a declarator asks of a name with linkage.
use Rattle.std.proofs.Common.{arith, ◌≡◌, ◌<◌, ◌≤◌, ◌==◌, ◌||◌, ◌&&◌, not, ℕ, nat_eq, Bool, true, false, List, Option, Some, None, length, slice_get, refl, sym, ap, ◌∙◌, subst}
use Rattle.std.specs.Prelude.{is_some, if◌then◌else◌}
use Rattle.std.proofs.lemmas.Bool.{eqb-true}
use Rattle.pta_base.specs.declared.kind.Kind.TheVariants.{Operand}
use Rattle.c_types.specs.Trees.{Ctype}
use Rattle.c_grammar.specs.Productions.{p_external, p_rest, p_declaration, p_field, p_parameter, p_declarator, p_abstract, p_either}
use Rattle.c_grammar.specs.Terminals.{contains}
use Rattle.c_scope.specs.declared.kinds.Declared.{Declared}
use Rattle.c_senses.specs.Tree.{Source, production_at, children_at, is_a, parent_of}
use Rattle.c_senses.specs.Names.{has_linkage, ordinary_at}
use Rattle.c_senses.specs.Given.{Given, Fits, given_if}
use Rattle.c_senses.specs.World.{World}
use Rattle.c_senses.specs.Declarators.{is_declarator, is_outermost, outermost_of, derived, adjusted, derivations, name_in}
use Rattle.c_senses.specs.Entities.{initialiser_of, words_go, has_one_linkage, named_row, parameter_named, by_place}
use Rattle.c_senses.specs.Rows.{AreSenses, declarator_row}
use Rattle.c_senses.specs.Sense.{Sense, IsDeclarator, Derivation, sense_in}
use Rattle.declaration_laws.specs.declared_type_laws.owner_laws.passed.definition_laws.scope_laws.Scoped.{DeclaredOnce}
use Rattle.core_node_laws.specs.count_laws.passed.parsed_tree_laws.grown_parts.Parts.{IsBrought}
use Rattle.core_node_laws.proofs.built_unit_laws.run_laws.Times.{known_at, world_of}
use Rattle.declaration_laws.specs.declared_type_laws.declared_leaves.Leaves.{IsNamed, Own, Inner, IsDeclaredBy}
use Rattle.declaration_laws.proofs.declared_type_laws.declared_leaves.Climbing.{leaves_declared}
use Rattle.declaration_laws.proofs.declared_type_laws.declared_leaves.Naming.{row_is}
use Rattle.declaration_laws.proofs.declared_type_laws.owner_laws.passed.definition_laws.function_definitions.Whole.{declarator_gives, declarator_asks}
use Rattle.declaration_laws.specs.name_order.Order.{linking, IsNameOf, Links, IsOrdered}
use Rattle.declaration_laws.specs.name_order.Order as order
use Rattle.declaration_laws.proofs.declared_type_laws.owner_laws.passed.definition_laws.linkage_laws.Origins.{HasOrigin}
use Rattle.declaration_laws.proofs.declared_type_laws.owner_laws.passed.definition_laws.linkage_laws.Seen.{nodes, parent_is}
use Rattle.declaration_laws.proofs.declared_type_laws.owner_laws.passed.definition_laws.linkage_laws.Linked.{Tree}
use Rattle.declaration_laws.specs.declared_type_laws.known_entities.Entities.{IsKnownAt}
use Rattle.declaration_laws.specs.declared_type_laws.seen_onward.Seen.{In, SeesOn}
use Rattle.declaration_laws.proofs.declared_type_laws.seen_onward.Openers.{Shaped}
use Rattle.declaration_laws.proofs.declared_type_laws.seen_onward.Whole.{in_at, finds}

some_same : {A : Type 0} → {x y : A} → ◌≡◌ {A = Option A} (Some x) (Some y) → x ≡ y
some_same e = cc

-- what the text and its senses give
pub record Text (s : Source) (senses : List Sense) : Type 0 where
  pub are : AreSenses s senses
  pub whole : length senses ≡ length s.nodes
  pub tree : Tree s
  pub brought : IsBrought s
  pub ordered : IsOrdered s
  pub once : DeclaredOnce s
  pub sees : SeesOn s
  pub shape : Shaped s.tokens (nodes s)
  pub known : (leaf m at : ℕ) → outermost_of s leaf ≡ Some m → m ≤ at → IsKnownAt s senses at leaf
  pub outer : (y : Declared) (h : HasOrigin s.text s.tokens (nodes s) y) → has_linkage y ≡ true → outermost_of s y.node ≡ Some h.node

-- ---- forms of declarators

either_form : (s : Source) (c : ℕ) → (is_a s p_declarator c || is_a s p_either c) ≡ true → is_declarator s c ≡ true
either_form s c h = by (is_a s p_declarator c) (is_a s p_abstract c) (is_a s p_either c) h
  where
    by : (a b d : Bool) → (a || d) ≡ true → ((a || b) || d) ≡ true
    by true b d k = refl
    by false true d k = refl
    by false false d k = k

named_in : (s : Source) (m leaf : ℕ) → IsNameOf s m leaf → IsNamed s m leaf
named_in s m leaf (order.Own k named) = Own k named
named_in s m leaf (order.Inner {c = c} k is more) = Inner c k (either_form s c is) (named_in s c leaf more)

-- what names with linkage stand in
linking_is : (P : ℕ → Type 0) (q : ℕ) → contains linking q ≡ true → P p_external → P p_rest → P p_declaration → P q
linking_is P q h one two three = by (nat_eq p_external q) (nat_eq p_rest q) (nat_eq p_declaration q) refl refl refl h
  where
    by : (a b c : Bool) → nat_eq p_external q ≡ a → nat_eq p_rest q ≡ b → nat_eq p_declaration q ≡ c → (a || (b || (c || false))) ≡ true → P q
    by true b c e f k h = subst P (eqb-true p_external q e) one
    by false true c e f k h = subst P (eqb-true p_rest q f) two
    by false false true e f k h = subst P (eqb-true p_declaration q k) three
    by false false false e f k h = cc

-- ---- what a row of a name asks

asked_two : (w : World) (s : Source) (f : ℕ → Sense) (at leaf : ℕ) (t : Ctype) (rest : Given Sense) (y : Sense) → named_row w s f at leaf t rest ≡ Fits y
    → (words_go w s f (is_some (initialiser_of s f at)) leaf ≡ true) × (has_one_linkage w s f leaf ≡ true)
asked_two w s f at leaf t rest y e = by (words_go w s f (is_some (initialiser_of s f at)) leaf) _ (has_one_linkage w s f leaf) _ e
  where
    by : (a b c : Bool) (more : Given Sense) → given_if a Operand leaf (given_if b Operand leaf (given_if c Operand leaf more)) ≡ Fits y → (a ≡ true) × (c ≡ true)
    by true true true more e = (refl, refl)
    by true true false more e = cc
    by true false c more e = cc
    by false b c more e = cc

module _ (s : Source) (senses : List Sense) (text : Text s senses) where
  abbrev pub IsLinked : Declared → Type 0
  IsLinked y = In y s.declared.ordinary × (has_linkage y ≡ true)

  pub same_entry : (d e : Declared) → In d s.declared.ordinary → In e s.declared.ordinary → d.node ≡ e.node → d ≡ e
  same_entry d e x y same =
      let i = in_at s.declared.ordinary d x in
      let j = in_at s.declared.ordinary e y in
      let place = text.once.names i.0 j.0 d e i.1 j.1 same in
      some_same (sym i.1 ∙ (ap (slice_get s.declared.ordinary) place ∙ j.1))

  pub entry : (y : Declared) → In y s.declared.ordinary → ordinary_at s y.node ≡ Some y
  entry y there =
      let f = finds y.node s.declared.ordinary y there refl in
      f.1 ∙ ap (λ (z : Declared). Some z) (same_entry f.0 y f.2 there f.3)

  -- its declarator, with what that is asked
  pub record Site (y : Declared) : Type 0 where
    pub at : ℕ
    pub within : at < length senses
    pub declared : IsDeclaredBy s senses at y.node
    pub words : words_go (world_of s senses at) s (known_at s senses at) (is_some (initialiser_of s (known_at s senses at) at)) y.node ≡ true
    pub linkage : has_one_linkage (world_of s senses at) s (known_at s senses at) y.node ≡ true

  pub site : (y : Declared) → IsLinked y → Site y
  site y (there, linked) =
      let l = text.ordered.linked y.node y (entry y there) linked in
      let m : ℕ = l.0 in
      let link : Links s m y.node = l.1 in
      let form : is_declarator s m ≡ true = either_form s m link.is in
      let parent : parent_of s m ≡ Some link.above = parent_is s text.tree.grown link.above m link.inside in
      let outer : is_outermost s m ≡ true = top m link.above form parent link.part in
      let lt : m < length senses = (let one = text.tree.grown.before link.above m link.inside in let two = text.tree.grown.within link.above m link.inside in let same = text.whole in omega (arith, one, two, same)) in
      let one : IsDeclaredBy s senses m y.node = leaves_declared.by_tree s senses text.are text.tree.grown text.brought m y.node lt outer (named_in s m y.node link.named) in
      let row = row_is s senses text.are text.tree.grown text.brought m lt form in
      let asks = asked m y.node lt link.above one outer parent link.part row in
      record { at = m; within = lt; declared = one; words = asks.0; linkage = asks.1 }
    where
      top : (m above : ℕ) → is_declarator s m ≡ true → parent_of s m ≡ Some above → contains linking (production_at s above) ≡ true → is_outermost s m ≡ true
      top m above form parent part =
          ap (λ (b : Bool). b && (elim (parent_of s m) as (λ _. Bool) [ None ↦ true | Some q ↦ not (is_declarator s q) ])) form
          ∙ (ap (λ (o : Option ℕ). elim o as (λ _. Bool) [ None ↦ true | Some q ↦ not (is_declarator s q) ]) parent
          ∙ ap not (linking_is (λ (q : ℕ). ((q == p_declarator || q == p_abstract) || q == p_either) ≡ false) (production_at s above) part refl refl refl))

      declarator_name : (leaf : ℕ) (x : Option ℕ) (ds es : List Derivation) (z : Sense) → IsDeclarator x ds ≡ z → z ≡ IsDeclarator (Some leaf) es → x ≡ Some leaf
      declarator_name leaf x ds es z e h = let same : IsDeclarator x ds ≡ IsDeclarator (Some leaf) es = e ∙ h in cc

      placed : (w : World) (f : ℕ → Sense) (m leaf above : ℕ) (t u : Ctype) (rest : Given Sense) (z : Sense) → parent_of s m ≡ Some above → contains linking (production_at s above) ≡ true
          → by_place w s f m leaf t u rest ≡ Fits z → named_row w s f m leaf t rest ≡ Fits z
      placed w f m leaf above t u rest z parent part e =
          pick (is_a s p_field above) (is_a s p_parameter above) (linking_is (λ (q : ℕ). (q == p_field) ≡ false) (production_at s above) part refl refl refl) (linking_is (λ (q : ℕ). (q == p_parameter) ≡ false) (production_at s above) part refl refl refl)
          (subst (λ (x : Option ℕ). (elim x as (λ _. Given Sense) [ None ↦ rest | Some p ↦ if is_a s p_field p then rest else (if is_a s p_parameter p then parameter_named w s f m leaf u rest else named_row w s f m leaf t rest) ]) ≡ Fits z) parent e)
        where
          pick : (a b : Bool) → a ≡ false → b ≡ false → (if a then rest else (if b then parameter_named w s f m leaf u rest else named_row w s f m leaf t rest)) ≡ Fits z → named_row w s f m leaf t rest ≡ Fits z
          pick true b e h k = cc
          pick false true e h k = cc
          pick false false e h k = k

      asked : (m leaf : ℕ) → m < length senses → (above : ℕ) → IsDeclaredBy s senses m leaf → is_outermost s m ≡ true → parent_of s m ≡ Some above → contains linking (production_at s above) ≡ true
          → declarator_row (world_of s senses m) s (known_at s senses m) m (children_at s m) ≡ Fits (sense_in senses m)
          → (words_go (world_of s senses m) s (known_at s senses m) (is_some (initialiser_of s (known_at s senses m) m)) leaf ≡ true) × (has_one_linkage (world_of s senses m) s (known_at s senses m) leaf ≡ true)
      asked m leaf lt above one outer parent part row =
          let w : World = world_of s senses m in
          let f : ℕ → Sense = known_at s senses m in
          let ds : List Derivation = derivations w s f (children_at s m) in
          let name : name_in w s f (children_at s m) ≡ Some leaf = declarator_name leaf (name_in w s f (children_at s m)) ds one.derives (sense_in senses m) (declarator_gives w s f m (children_at s m) (sense_in senses m) row) one.is in
          let asks = declarator_asks w s f m leaf (children_at s m) (sense_in senses m) outer name row in
          asked_two w s f m leaf (derived ds asks.0) (Fits (IsDeclarator (Some leaf) ds)) (sense_in senses m)
          (placed w f m leaf above (derived ds asks.0) (adjusted (derived ds asks.0)) (Fits (IsDeclarator (Some leaf) ds)) (sense_in senses m) parent part asks.2)
