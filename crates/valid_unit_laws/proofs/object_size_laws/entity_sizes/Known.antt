-- What is known of names with linkage.
use Rattle.std.proofs.Common.{◌≡◌, ◌⊎◌, inl, inr, ℕ, nat_eq, ◌&&◌, ◌||◌, Bool, true, false, List, [], ◌∷◌, Option, Some, None, length, refl, sym, ap, ◌∙◌, subst}
use Rattle.std.proofs.lemmas.Bool.{eqb-true, eq-eqb}
use Rattle.c_lexer.specs.declared.Tokens.{Tokens}
use Rattle.c_lexer.specs.Cut.{IsTokens}
use Rattle.c_grammar.specs.declared.trees.Tree.{Tree}
use Rattle.c_grammar.specs.Productions.{p_external, p_rest, p_declaration, p_field}
use Rattle.c_parser.specs.c_units.Units.{IsUnit}
use Rattle.core_tree.specs.declared.node.Linkage.{Linkage}
use Rattle.core_tree.specs.declared.node.Linkage.TheVariants.{Internal}
use Rattle.c_scope.specs.declared.kinds.Kind.{Kind}
use Rattle.c_scope.specs.declared.kinds.Kind.TheVariants.{Linked, Typedef, Plain}
use Rattle.c_scope.specs.declared.kinds.Declared.{Declared}
use Rattle.c_senses.specs.Names.{source_of, numbered, ordinary_at, is_linked_kind, is_typedef_kind, has_linkage, names_type}
use Rattle.c_senses.specs.Tree.{Source, production_at, is_a, parent_of}
use Rattle.c_senses.specs.Entities.{is_linked, is_typedef, is_internal, is_internal_of, internal_among, linkage_of, keep, first_of, types_of}
use Rattle.c_senses.specs.Rows.{AreSenses}
use Rattle.c_senses.specs.Right.{of_internal, is_tentative, is_definition_at, representative}
use Rattle.c_senses.specs.Sense.{Sense, sense_in}
use Rattle.declaration_laws.specs.joined_types.Joined.{AllAgree}
use Rattle.parsed_tree_laws.proofs.placed_laws.Climbing.{Grown}
use Rattle.declaration_laws.proofs.function_laws.passed.definition_laws.linkage_laws.Seen.{parent_is}
use Rattle.declaration_laws.proofs.function_laws.body_returns.Built.{placed}
use Rattle.declaration_laws.specs.declared_type_laws.declared_leaves.Leaves.{IsDeclaredBy}
use Rattle.declaration_laws.specs.declared_type_laws.agreed_internals.PassedOn.{IsDeclaredOnce}
use Rattle.declaration_laws.proofs.declared_type_laws.agreed_internals.PassedOn.{declared_once}
use Rattle.declaration_laws.specs.declared_type_laws.agreed_internals.Agreeing.{AreAgreed}
use Rattle.declaration_laws.proofs.declared_type_laws.agreed_internals.Agreeing.{internals_agree}
use Rattle.valid_unit_laws.proofs.object_size_laws.entity_sizes.Lists.{In, kept_in, in_kept, found_entry}

-- a name with linkage has a declarator that is no member's, and the declarations of an internal name agree one after another
pub record LinkedKnown (s : Source) (senses : List Sense) : Type 0 where
  pub stands : (leaf : ℕ) → is_linked s (sense_in senses) leaf ≡ true → (m p : ℕ) × IsDeclaredBy s senses m leaf × (parent_of s m ≡ Some p) × (is_a s p_field p ≡ false)
  pub agree : (leaf : ℕ) → AllAgree None (types_of s (sense_in senses) (of_internal s senses leaf))

no_field : (s : Source) (a : ℕ) → (is_a s p_rest a ≡ true) ⊎ ((is_a s p_external a || is_a s p_declaration a) ≡ true) → is_a s p_field a ≡ false
no_field s a (inl h) = subst (λ (q : ℕ). nat_eq q p_field ≡ false) (sym (eqb-true (production_at s a) p_rest h)) refl
no_field s a (inr h) = by (is_a s p_external a) (is_a s p_declaration a) refl refl h
  where
    by : (x y : Bool) → is_a s p_external a ≡ x → is_a s p_declaration a ≡ y → (x || y) ≡ true → is_a s p_field a ≡ false
    by true y e f k = subst (λ (q : ℕ). nat_eq q p_field ≡ false) (sym (eqb-true (production_at s a) p_external e)) refl
    by false true e f k = subst (λ (q : ℕ). nat_eq q p_field ≡ false) (sym (eqb-true (production_at s a) p_declaration f)) refl
    by false false e f k = cc

pub linked_known : (tokens : Tokens) (unit : ℕ) (tree : Tree) (tag_number : ℕ → ℕ) (senses : List Sense) → IsTokens tokens.text.now tokens.list.items → IsUnit tokens unit tree → AreSenses (numbered tag_number (source_of tokens tree)) senses
    → length senses ≡ length (numbered tag_number (source_of tokens tree)).nodes → LinkedKnown (numbered tag_number (source_of tokens tree)) senses
linked_known tokens unit tree tag_number senses cut is are whole =
    let s : Source = numbered tag_number (source_of tokens tree) in
    let grown : Grown s = placed tokens unit tree tag_number is in
    let once : IsDeclaredOnce s senses = declared_once tokens unit tree tag_number senses cut is are whole in
    let agreed : AreAgreed s senses = internals_agree tokens unit tree tag_number senses cut is are whole in
    record {
      stands = λ leaf h. (let st = once.stands leaf h in (st.0, st.1.0, st.3, parent_is s grown st.1.0 st.0 st.1.2, no_field s st.1.0 st.1.3));
      agree = agreed.agree;
    }

-- what has linkage is no typedef name
linked_plain : (k : Kind) → is_linked_kind k ≡ true → is_typedef_kind k ≡ false
linked_plain Linked e = refl
linked_plain Typedef e = cc
linked_plain Plain e = cc

pub no_typedef : (s : Source) (sense : ℕ → Sense) (leaf : ℕ) → is_linked s sense leaf ≡ true → is_typedef s sense leaf ≡ false
no_typedef s sense leaf h = by (ordinary_at s leaf) h
  where
    by : (o : Option Declared) → (elim o as (λ _. Bool) [ None ↦ false | Some d ↦ has_linkage d ]) ≡ true → (elim o as (λ _. Bool) [ None ↦ false | Some d ↦ names_type d ]) ≡ false
    by None k = refl
    by (Some d) k = linked_plain d.kind k

-- some declaration of a list has that leaf
abbrev pub Among : List Declared → ℕ → Type 0
Among ds x = (d : Declared) × In d ds × (d.node ≡ x)

first_among : (s : Source) (sense : ℕ → Sense) (ds part : List Declared) (x : ℕ) → ((d : Declared) → In d part → In d ds) → Among ds x → Among ds (first_of s sense x part)
first_among s sense ds [] x sub own = own
first_among s sense ds (d ∷ part) x sub own = (d, sub d (inl refl), refl)

both : (a b : Bool) → (a && b) ≡ true → (a ≡ true) × (b ≡ true)
both true b e = (refl, e)
both false b e = cc

and_both : (a b : Bool) → a ≡ true → b ≡ true → (a && b) ≡ true
and_both true b e h = h
and_both false b e h = cc

module _ (s : Source) (senses : List Sense) (leaf : ℕ) where
  abbrev f : ℕ → Sense
  f = sense_in senses

  abbrev those : List Declared
  those = of_internal s senses leaf

  -- an internal name's own declaration is one of the name's, and so is the one that stands for it
  pub own_among : is_internal s f leaf ≡ true → Among (of_internal s senses leaf) leaf
  own_among internal = by (ordinary_at s leaf) refl (both (is_linked s f leaf) _ internal).0
    where
      by : (o : Option Declared) → ordinary_at s leaf ≡ o → (elim o as (λ _. Bool) [ None ↦ false | Some d ↦ has_linkage d ]) ≡ true → Among (of_internal s senses leaf) leaf
      by None at k = cc
      by (Some y) at k =
          let found = found_entry leaf s.declared.ordinary y at in
          let passes = and_both (nat_eq y.symbol y.symbol) (is_internal s f y.node) (eq-eqb y.symbol y.symbol refl) (ap (is_internal s f) found.1 ∙ internal) in
          let inside : In y (keep s f (is_internal_of s f y.symbol) s.declared.ordinary) = in_kept s f (is_internal_of s f y.symbol) s.declared.ordinary y found.0 passes in
          (y, subst (λ (ds : List Declared). In y ds) (sym (ap (internal_among s f s.declared.ordinary) at)) inside, found.1)

  pub stands_among : linkage_of s f leaf ≡ Internal → Among (of_internal s senses leaf) leaf → Among (of_internal s senses leaf) (representative s senses leaf)
  stands_among linkage own =
      let tentative : Among (of_internal s senses leaf) (first_of s f leaf (keep s f (is_tentative s senses) (of_internal s senses leaf)))
      = first_among s f (of_internal s senses leaf) (keep s f (is_tentative s senses) (of_internal s senses leaf)) leaf (λ d i. (kept_in s f (is_tentative s senses) (of_internal s senses leaf) d i).0) own in
      let defined = first_among s f (of_internal s senses leaf) (keep s f (is_definition_at s senses) (of_internal s senses leaf)) (first_of s f leaf (keep s f (is_tentative s senses) (of_internal s senses leaf)))
      (λ d i. (kept_in s f (is_definition_at s senses) (of_internal s senses leaf) d i).0) tentative in
      subst (λ (l : Linkage). Among (of_internal s senses leaf) (elim l as (λ _. ℕ) [
        | Internal ↦ first_of s f (first_of s f leaf (keep s f (is_tentative s senses) (of_internal s senses leaf))) (keep s f (is_definition_at s senses) (of_internal s senses leaf))
        | _ ↦ leaf
      ])) (sym linkage) defined

  -- each of them is internal
  pub among_internal : (d : Declared) → In d (of_internal s senses leaf) → is_internal s f d.node ≡ true
  among_internal d i = by (ordinary_at s leaf) i
    where
      by : (o : Option Declared) → In d (internal_among s f s.declared.ordinary o) → is_internal s f d.node ≡ true
      by None k = absurd k
      by (Some y) k = (both (nat_eq d.symbol y.symbol) (is_internal s f d.node) (kept_in s f (is_internal_of s f y.symbol) s.declared.ordinary d k).1).1
