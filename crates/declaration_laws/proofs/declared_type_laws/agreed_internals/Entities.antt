-- The entity of an internal name.
use Rattle.std.proofs.Common.{◌≡◌, ◌≤◌, nat_eq, inl, ℕ, Bool, true, false, ◌&&◌, List, [], ◌∷◌, ◌++◌, slice_get, Option, Some, None, eq-eqb, refl, sym, ap, ◌∙◌, subst}
use Rattle.std.specs.Prelude.{if◌then◌else◌}
use Rattle.std.proofs.lemmas.Bool.{eqb-true}
use Rattle.c_types.specs.Trees.{Ctype}
use Rattle.c_scope.specs.declared.kinds.Declared.{Declared}
use Rattle.c_senses.specs.Tree.{Source}
use Rattle.c_senses.specs.Names.{has_linkage, made_before, ordinary_at}
use Rattle.c_senses.specs.Declarators.{outermost_of}
use Rattle.c_senses.specs.Entities.{is_linked, is_internal, is_internal_of, internal_among, keep, first_of, entity_of, own_type, types_of}
use Rattle.c_senses.specs.Right.{of_internal}
use Rattle.c_senses.specs.Sense.{Sense, sense_in}
use Rattle.core_node_laws.proofs.built_unit_laws.run_laws.Times.{known_at}
use Rattle.declaration_laws.proofs.declared_type_laws.plain_names.Fitting.{found_node}
use Rattle.declaration_laws.specs.declared_type_laws.declared_once.Once.{IsDeclaredOnce}
use Rattle.declaration_laws.proofs.declared_type_laws.declared_once.Knowing.{In, kept_in}
use Rattle.declaration_laws.proofs.declared_type_laws.agreed_internals.Lists.{split_at, found_at, behind_front, in_kept, type_in, first_up_to, first_same}

pub both : (a b : Bool) → (a && b) ≡ true → (a ≡ true) × (b ≡ true)
both true true e = (refl, refl)
both true false e = cc
both false b e = cc

and_of : (a b : Bool) → a ≡ true → b ≡ true → (a && b) ≡ true
and_of true true e f = refl
and_of true false e f = cc
and_of false b e f = cc

module _ (s : Source) (senses : List Sense) (once : IsDeclaredOnce s senses) where
  abbrev G : ℕ → Sense
  G = sense_in senses

  abbrev F : ℕ → ℕ → Sense
  F n = known_at s senses n

  abbrev ordinary : List Declared
  ordinary = s.declared.ordinary

  -- the declaration of an internal name
  pub record OfInternal (leaf : ℕ) : Type 0 where
    pub linked : is_linked s G leaf ≡ true
    pub entry : Declared
    pub at : ordinary_at s leaf ≡ Some entry
    pub node_is : entry.node ≡ leaf
    pub back : List Declared
    pub are : s.declared.ordinary ≡ made_before leaf s.declared.ordinary ++ entry ∷ back

  pub entry_at : (leaf : ℕ) → is_internal s G leaf ≡ true → OfInternal leaf
  entry_at leaf internal = by (ordinary_at s leaf) refl linked
    where
      linked : is_linked s G leaf ≡ true
      linked = (both (is_linked s G leaf) _ internal).0

      by : (o : Option Declared) → ordinary_at s leaf ≡ o → (elim o as (λ _. Bool) [ None ↦ false | Some d ↦ has_linkage d ]) ≡ true → OfInternal leaf
      by None e h = cc
      by (Some y) e h = let found = found_at ordinary leaf y e in record { linked = linked; entry = y; at = e; node_is = found_node ordinary leaf y e; back = found.0; are = found.1 }

  module _ (leaf : ℕ) (internal : is_internal s G leaf ≡ true) (of : OfInternal leaf) where
    abbrev test : (ℕ → Sense) → Declared → Bool
    test f = is_internal_of s f of.entry.symbol

    passes : (f : ℕ → Sense) → is_internal s f leaf ≡ true → test f of.entry ≡ true
    passes f h = and_of (nat_eq of.entry.symbol of.entry.symbol) (is_internal s f of.entry.node) (eq-eqb of.entry.symbol of.entry.symbol refl) (ap (is_internal s f) of.node_is ∙ h)

    among : of_internal s senses leaf ≡ keep s G (test G) ordinary
    among = ap (internal_among s G ordinary) of.at

    -- by the first of its declarations
    first_is : (ds : List Declared) → keep s G (test G) ordinary ≡ ds → (is_internal s G (first_of s G leaf ds) ≡ true) × (of_internal s senses (first_of s G leaf ds) ≡ of_internal s senses leaf)
    first_is [] e = (internal, refl)
    first_is (d ∷ ds) e =
        let found = kept_in s G (test G) ordinary d (subst (In d) (sym e) (inl refl)) in
        let parts = both (nat_eq d.symbol of.entry.symbol) (is_internal s G d.node) found.1 in
        let split = split_at ordinary d found.0 in
        let alone = once.alone split.front d split.back split.are (both (is_linked s G d.node) _ parts.1).0 in
        (parts.1, ap (internal_among s G ordinary) alone.1 ∙ (ap (λ (k : ℕ). keep s G (is_internal_of s G k) ordinary) (eqb-true d.symbol of.entry.symbol parts.0) ∙ sym among))

    entity_at : (f : ℕ → Sense) → is_internal s f leaf ≡ true → entity_of s f leaf ≡ first_of s f leaf (keep s f (test f) ordinary)
    entity_at f h = ap (λ (b : Bool). if b then first_of s f leaf (internal_among s f ordinary (ordinary_at s leaf)) else leaf) h ∙ ap (λ (o : Option Declared). first_of s f leaf (internal_among s f ordinary o)) of.at

    pub entity_is : (is_internal s G (entity_of s G leaf) ≡ true) × (of_internal s senses (entity_of s G leaf) ≡ of_internal s senses leaf)
    entity_is = subst (λ (e : ℕ). (is_internal s G e ≡ true) × (of_internal s senses e ≡ of_internal s senses leaf)) (sym (entity_at G internal)) (first_is (keep s G (test G) ordinary) refl)

    -- it is one of those up to the name's own, which are known at its declarator
    up_to : (f : ℕ → Sense) → is_internal s f leaf ≡ true → entity_of s f leaf ≡ first_of s f leaf (keep s f (test f) (made_before leaf ordinary) ++ of.entry ∷ [])
    up_to f h =
        entity_at f h ∙ (ap (λ (ds : List Declared). first_of s f leaf (keep s f (test f) ds)) of.are ∙ first_up_to s f leaf (test f) (made_before leaf ordinary) of.entry of.back (passes f h))

    pub entity_known : (m n : ℕ) → outermost_of s leaf ≡ Some m → m ≤ n → entity_of s (F n) leaf ≡ entity_of s G leaf
    entity_known m n up le =
        let here : is_internal s (F n) leaf ≡ true = once.internal leaf m n of.linked up le ∙ internal in
        let before : keep s (F n) (test (F n)) (made_before leaf ordinary) ≡ keep s G (test G) (made_before leaf ordinary) =
        sym (ap (internal_among s (F n) (made_before leaf ordinary)) of.at) ∙ (once.before leaf m n of.linked up le ∙ ap (internal_among s G (made_before leaf ordinary)) of.at) in
        up_to (F n) here
        ∙ (ap (λ (ds : List Declared). first_of s (F n) leaf (ds ++ of.entry ∷ [])) before ∙ (first_same s (F n) G leaf (keep s G (test G) (made_before leaf ordinary) ++ of.entry ∷ []) ∙ sym (up_to G internal)))

    pub own_in : (t : Ctype) → own_type s G leaf ≡ Some t → (k : ℕ) × (slice_get (types_of s G (of_internal s senses leaf)) k ≡ Some t)
    own_in t own =
        let there : In of.entry ordinary = subst (In of.entry) (sym of.are) (behind_front (made_before leaf ordinary) of.entry of.back) in
        let kept : In of.entry (keep s G (test G) ordinary) = in_kept s G (test G) ordinary of.entry there (passes G internal) in
        let found = type_in s G (keep s G (test G) ordinary) of.entry t kept (ap (own_type s G) of.node_is ∙ own) in
        (found.0, ap (λ (ds : List Declared). slice_get (types_of s G ds) found.0) among ∙ found.1)
