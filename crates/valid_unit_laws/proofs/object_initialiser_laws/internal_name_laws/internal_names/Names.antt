-- What an internal name means has a type that agrees with its entity's.
use Rattle.std.proofs.Common.{arith, ◌≡◌, ◌<◌, ◌⊎◌, inl, inr, ℕ, Bool, true, false, List, [], ◌∷◌, ◌++◌, length, slice_get, Option, Some, None, refl, sym, ap, ◌∙◌, subst}
use Rattle.std.specs.Prelude.{if◌then◌else◌}
use Rattle.c_types.specs.Trees.{Ctype}
use Rattle.core_tree.specs.Rows.{Agree}
use Rattle.c_scope.specs.declared.kinds.Declared.{Declared}
use Rattle.c_senses.specs.Tree.{Source}
use Rattle.c_senses.specs.Names.{linked_before, typing_declarations, ordinary_at}
use Rattle.c_senses.specs.Limits.{is_function_type}
use Rattle.c_senses.specs.Entities.{is_linked, is_internal, entity_of, own_type, types_of, all_together, type_behind, has_earlier_length, last_of, named_by}
use Rattle.c_senses.specs.Right.{of_internal, with_one}
use Rattle.c_senses.specs.Sense.{Sense, sense_in}
use Rattle.c_senses.specs.Rows.{AreSenses}
use Rattle.parsed_tree_laws.specs.sense_laws.Sound.{AgreesWith}
use Rattle.declaration_laws.specs.function_laws.passed.definition_laws.scope_laws.Scoped.{DeclaredOnce}
use Rattle.parsed_tree_laws.proofs.placed_laws.Climbing.{Grown}
use Rattle.parsed_tree_laws.specs.grown_parts.Parts.{IsBrought}
use Rattle.declaration_laws.specs.name_order.Order.{IsOrdered}
use Rattle.declaration_laws.specs.function_laws.passed.definition_laws.linkage_laws.Linked.{StandsLinked}
use Rattle.declaration_laws.proofs.declared_type_laws.passed.built_unit_laws.run_laws.Times.{known_at}
use Rattle.declaration_laws.specs.declared_type_laws.passed.built_unit_laws.built_rows.Rows.{types_declared}
use Rattle.declaration_laws.proofs.declared_type_laws.plain_names.Later.{known_later, own_later}
use Rattle.declaration_laws.proofs.joined_types.Joining.{types_joined}
use Rattle.declaration_laws.specs.whole_types.Whole.{IsOneOf, AllOneOf}
use Rattle.declaration_laws.proofs.whole_types.Wholes.{types_whole}
use Rattle.declaration_laws.specs.declared_type_laws.declared_once.Once.{IsDeclaredOnce}
use Rattle.declaration_laws.proofs.declared_type_laws.declared_once.Knowing.{In}
use Rattle.valid_unit_laws.specs.object_initialiser_laws.internal_name_laws.internal_types.PassedOn.{AreAgreed}
use Rattle.valid_unit_laws.proofs.object_initialiser_laws.internal_name_laws.internal_types.PassedOn.{OfInternal, entry_at}
use Rattle.declaration_laws.specs.declared_type_laws.linked_scopes.Scoped.{AreScoped}
use Rattle.valid_unit_laws.specs.object_initialiser_laws.internal_name_laws.internal_types.Internal.{IsEntityType}
use Rattle.valid_unit_laws.proofs.object_initialiser_laws.internal_name_laws.internal_types.Belows.{picked_one, below_at, one_below}
use Rattle.valid_unit_laws.proofs.object_initialiser_laws.internal_name_laws.internal_types.Entities.{IsSame, same_name, same_entity}
use Rattle.valid_unit_laws.proofs.object_initialiser_laws.internal_name_laws.internal_names.Lists.{last_is}
use Rattle.valid_unit_laws.proofs.object_initialiser_laws.internal_name_laws.internal_names.Order.{earlier}
use Rattle.valid_unit_laws.proofs.object_initialiser_laws.internal_name_laws.internal_names.Seen.{Entry, row, sees, internal_seen}

some_one : {X : Type 0} → {x y : X} → ◌≡◌ {A = Option X} (Some x) (Some y) → x ≡ y
some_one h = cc

pub in_either : (d : Declared) (xs ys : List Declared) → In d (xs ++ ys) → In d xs ⊎ In d ys
in_either d [] ys h = inr h
in_either d (x ∷ xs) ys (inl same) = inl (inl same)
in_either d (x ∷ xs) ys (inr h) = by (in_either d xs ys h)
  where
    by : In d xs ⊎ In d ys → In d (x ∷ xs) ⊎ In d ys
    by (inl k) = inl (inr k)
    by (inr k) = inr k

-- types of declarations, where each one is one of some
all_one_of : (s : Source) (f : ℕ → Sense) (ts : List Ctype) (ds : List Declared) → ((d : Declared) (t : Ctype) → In d ds → own_type s f d.node ≡ Some t → IsOneOf ts t) → AllOneOf ts (types_of s f ds)
all_one_of s f ts [] each = tt
all_one_of s f ts (d ∷ ds) each = by (own_type s f d.node) refl (all_one_of s f ts ds (λ x t i e. each x t (inr i) e))
  where
    by : (o : Option Ctype) → own_type s f d.node ≡ o → AllOneOf ts (types_of s f ds) → AllOneOf ts (elim o as (λ _. List Ctype) [ None ↦ types_of s f ds | Some t ↦ t ∷ types_of s f ds ])
    by None e later = later
    by (Some t) e later = (each d t (inl refl) e, later)

module _ (s : Source) (tree : Grown s) (brought : IsBrought s) (ordered : IsOrdered s) (names_once : DeclaredOnce s) (scoped : AreScoped s) (senses : List Sense) (are : AreSenses s senses) (whole : length senses ≡ length s.nodes) (once : IsDeclaredOnce s senses)
    (stands : (leaf : ℕ) → is_linked s (sense_in senses) leaf ≡ true → StandsLinked s (sense_in senses) leaf) (agreed : AreAgreed s senses) (typed : (leaf : ℕ) → is_internal s (sense_in senses) leaf ≡ true → IsEntityType s senses leaf) where
  abbrev G : ℕ → Sense
  G = sense_in senses

  abbrev F : ℕ → ℕ → Sense
  F n = known_at s senses n

  module _ (x : Declared) (e : Entry s tree names_once scoped senses are whole once stands x) (internal : is_internal s (sense_in senses) x.node ≡ true) where
    of : OfInternal s senses once x.node
    of = entry_at s senses once x.node internal

    is_entry : of.entry ≡ x
    is_entry = some_one (sym of.at ∙ e.at)

    -- each declaration that is seen, and its own, is of that name
    seen_same : (d : Declared) → In d (linked_before s (Some x)) → IsSame s senses once x.node d.node
    unfolding of
    seen_same d h =
        let sd = sees s tree names_once scoped senses are whole once stands x d h in
        same_name s senses once x.node (entry_at s senses once x.node internal) d sd.entry.there (internal_seen s tree names_once scoped senses are whole once stands x d e internal h) (sd.symbol ∙ ap (λ (y : Declared). y.symbol) (sym is_entry))

    itself : IsSame s senses once x.node x.node
    itself = record { internal = internal; all = refl }

    typing_same : (d : Declared) → In d (linked_before s (Some x) ++ x ∷ []) → IsSame s senses once x.node d.node
    typing_same d h = by (in_either d (linked_before s (Some x)) (x ∷ []) h)
      where
        by : In d (linked_before s (Some x)) ⊎ ((x ≡ d) ⊎ ⊥) → IsSame s senses once x.node d.node
        by (inl k) = seen_same d k
        by (inr (inl same)) = subst (λ (y : Declared). IsSame s senses once x.node y.node) same itself
        by (inr (inr none)) = absurd none

    typing_is : typing_declarations s (ordinary_at s x.node) ≡ linked_before s (Some x) ++ x ∷ []
    typing_is = ap (typing_declarations s) e.at ∙ ap (λ (b : Bool). if b then linked_before s (Some x) ++ x ∷ [] else x ∷ []) e.links

    -- the types that are known of those declarations are among those that they give in the end, but for a length
    known_types : (i : ℕ) → AllOneOf (types_of s G (of_internal s senses x.node)) (types_of s (F i) (linked_before s (Some x) ++ x ∷ []))
    known_types i = all_one_of s (F i) (types_of s G (of_internal s senses x.node)) (linked_before s (Some x) ++ x ∷ []) (λ d u h own. one d u (typing_same d h) own)
      where
        one : (d : Declared) (u : Ctype) → IsSame s senses once x.node d.node → own_type s (F i) d.node ≡ Some u → IsOneOf (types_of s G (of_internal s senses x.node)) u
        one d u same own =
            let later = own_later s (F i) G (known_later s senses i) d.node u own in
            let found = agreed.one_of d.node later.0 same.internal later.1 in
            (found.0, later.0, ap (λ (ds : List Declared). slice_get (types_of s G ds) found.0) (sym same.all) ∙ found.1, later.2)

    known_type : (i : ℕ) (t : Ctype) → type_behind s (F i) x.node ≡ Some t → all_together None (types_of s (F i) (linked_before s (Some x) ++ x ∷ [])) ≡ Some t
    known_type i t told = ap (λ (ds : List Declared). all_together None (types_of s (F i) ds)) (sym typing_is) ∙ told

    type_agrees : (i : ℕ) (t : Ctype) → type_behind s (F i) x.node ≡ Some t → AgreesWith (types_declared s senses (entity_of s G x.node)) t
    type_agrees i t told = subst (λ (o : Option Ctype). AgreesWith o t) (sym k.declared) (by k.which)
      where
        k : IsEntityType s senses x.node
        k = typed x.node internal

        by : (k.type ≡ with_one s senses k.whole) ⊎ ((j : ℕ) × (slice_get (types_of s G (of_internal s senses x.node)) j ≡ Some k.type) × (is_function_type k.type ≡ true)) → Agree t k.type
        by (inl same) =
            subst (Agree t) (sym same)
            (types_whole.agrees s senses (types_of s G (of_internal s senses x.node)) (types_of s (F i) (linked_before s (Some x) ++ x ∷ [])) k.whole t (agreed.agree x.node) k.all (known_types i) (known_type i t told))
        by (inr function) =
            let all = types_joined.below (types_of s G (of_internal s senses x.node)) k.whole (agreed.agree x.node) k.all in
            let one = picked_one (types_of s G (of_internal s senses x.node)) (types_of s (F i) (linked_before s (Some x) ++ x ∷ [])) t (known_types i) (known_type i t told) in
            types_joined.agrees t k.type k.whole (one_below (types_of s G (of_internal s senses x.node)) k.whole t all one) (below_at (types_of s G (of_internal s senses x.node)) k.whole function.0 k.type all function.1)

    -- which entity it has is known where it is used
    entity_is : (i : ℕ) → (row s tree names_once scoped senses are whole once stands x e).declarator < i → entity_of s (F i) (named_by s (F i) x.node) ≡ entity_of s G x.node
    entity_is i lt = by (has_earlier_length s (F i) x.node)
      where
        own : entity_of s (F i) x.node ≡ entity_of s G x.node
        own = let less = lt in agreed.entity_known x.node (row s tree names_once scoped senses are whole once stands x e).declarator i internal (row s tree names_once scoped senses are whole once stands x e).one.outermost (omega (arith, less))

        other : (d : Declared) → In d (linked_before s (Some x)) → entity_of s (F i) d.node ≡ entity_of s G x.node
        other d h =
            let sd = sees s tree names_once scoped senses are whole once stands x d h in
            let rd = row s tree names_once scoped senses are whole once stands d sd.entry in
            let rx = row s tree names_once scoped senses are whole once stands x e in
            let before = earlier s tree brought ordered x.node rx.declarator d.node rd.declarator x d e.at e.links rx.one.outermost sd.entry.at sd.entry.links rd.one.outermost refl refl sd.before in
            let same = seen_same d h in
            let at = agreed.one_of x.node _ internal (once.own x.node rx.declarator rx.one e.linked) in
            let less = lt in
            agreed.entity_known d.node rd.declarator i same.internal rd.one.outermost (omega (arith, before, less)) ∙ same_entity s senses once x.node d.node internal same at.0 _ at.1

        by : (b : Bool) → entity_of s (F i) (if b then last_of s (F i) x.node (linked_before s (ordinary_at s x.node)) else x.node) ≡ entity_of s G x.node
        by false = own
        by true =
            ap (λ (o : Option Declared). entity_of s (F i) (last_of s (F i) x.node (linked_before s o))) e.at
            ∙ last_is s (F i) (λ (k : ℕ). entity_of s (F i) k ≡ entity_of s G x.node) x.node (linked_before s (Some x)) own (λ d h. other d h)

    pub internal_fits : (i : ℕ) → (row s tree names_once scoped senses are whole once stands x e).declarator < i → (t : Ctype) → type_behind s (F i) x.node ≡ Some t → AgreesWith (types_declared s senses (entity_of s (F i) (named_by s (F i) x.node))) t
    internal_fits i lt t told = subst (λ (k : ℕ). AgreesWith (types_declared s senses k) t) (sym (entity_is i lt)) (type_agrees i t told)
