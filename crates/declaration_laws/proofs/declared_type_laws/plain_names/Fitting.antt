-- A name without linkage has the type of its entity.
use Rattle.std.proofs.Common.{◌≡◌, ◌==◌, inl, inr, ℕ, Bool, true, false, ◌&&◌, not, List, [], ◌∷◌, ◌++◌, Option, Some, None, refl, sym, ap, ◌∙◌, subst}
use Rattle.std.specs.Prelude.{⊤, option_map, option_and_then, is_some, if◌then◌else◌}
use Rattle.std.proofs.lemmas.Bool.{eqb-true}
use Rattle.c_types.specs.declared.term.Form.TheVariants.{Fixed, Variadic, Unspecified}
use Rattle.c_types.specs.Trees.{Ctype, VoidType, BoolType, IntegerType, FloatingType, VaListType, PointerTo, ArrayOf, FunctionFrom, StructureOf, UnionOf}
use Rattle.core_tree.specs.Rows.{Agree}
use Rattle.core_tree.specs.declared.node.Linkage.{Linkage}
use Rattle.core_tree.specs.declared.node.Linkage.TheVariants.{External, Internal, Local}
use Rattle.c_grammar.specs.Productions.{p_enumerator}
use Rattle.c_scope.specs.declared.kinds.Declared.{Declared}
use Rattle.c_senses.specs.Tree.{Source, is_a, is_name, parent_of}
use Rattle.c_senses.specs.Names.{has_linkage, entry_of, ordinary_at, typing_declarations, linked_before}
use Rattle.c_senses.specs.World.{Meaning, Object, Function, TypeName, Value}
use Rattle.c_senses.specs.Limits.{is_function_type}
use Rattle.c_senses.specs.Entities.{all_together, is_linked, is_typedef, is_internal, linkage_of, entity_of, first_of, internal_among, own_type, types_of, type_behind, is_open, has_earlier_length, last_of, named_by, initialiser_for, object_or_function, declared_meaning, enumerated, meaning_of}
use Rattle.c_senses.specs.Right as right
use Rattle.c_senses.specs.Sense.{Sense, IsValue, sense_in}
use Rattle.core_node_laws.specs.built_unit_laws.built_rows.PassedOn.{AgreesWith, MeaningFits}
use Rattle.core_node_laws.proofs.built_unit_laws.run_laws.Times.{known_at}
use Rattle.core_node_laws.specs.built_unit_laws.built_rows.Rows.{types_declared, literal_type}
use Rattle.declaration_laws.specs.declared_type_laws.plain_names.Plain.{PlainNamesFit}
use Rattle.declaration_laws.proofs.declared_type_laws.plain_names.Later.{Grown, known_later, own_later}

-- a type agrees with itself, and with itself with a length
pub agree_self : (t : Ctype) → Agree t t
agree_self VoidType = refl
agree_self BoolType = refl
agree_self (IntegerType size rank signed) = refl
agree_self FloatingType = refl
agree_self VaListType = refl
agree_self (PointerTo to) = refl
agree_self (ArrayOf of None) = refl
agree_self (ArrayOf of (Some n)) = refl
agree_self (FunctionFrom r ps Fixed) = refl
agree_self (FunctionFrom r ps Variadic) = refl
agree_self (FunctionFrom r ps Unspecified) = refl
agree_self (StructureOf tag) = refl
agree_self (UnionOf tag) = refl

pub agree_grown : (t u : Ctype) → Grown t u → Agree t u
agree_grown t u (inl same) = subst (λ (x : Ctype). Agree t x) same (agree_self t)
agree_grown t u (inr sized) = subst (λ (x : Ctype). Agree x u) (sym sized.2) (subst (λ (x : Ctype). Agree (ArrayOf sized.0 None) x) (sym sized.3) refl)

pub found_node : (ds : List Declared) (x : ℕ) (d : Declared) → entry_of ds x ≡ Some d → d.node ≡ x
found_node [] x d e = cc
found_node (y ∷ ds) x d e = by (y.node == x) refl e (λ f. found_node ds x d f)
  where
    by : (b : Bool) → (y.node == x) ≡ b → (if b then Some y else entry_of ds x) ≡ Some d → (entry_of ds x ≡ Some d → d.node ≡ x) → d.node ≡ x
    by true same f later = let one : y ≡ d = cc in ap (λ (z : Declared). z.node) (sym one) ∙ eqb-true y.node x same
    by false other f later = later f

abbrev pub SomeFits : (ℕ → Option Ctype) → Option Meaning → Type 0
SomeFits entities None = ⊤
SomeFits entities (Some m) = MeaningFits entities m

module _ (s : Source) (f : ℕ → Sense) where
  pub no_value : (entities : ℕ → Option Ctype) (p : ℕ) → SomeFits entities (enumerated s f p)
  no_value entities p = by (f p)
    where
      by : (y : Sense) → SomeFits entities (elim y as (λ _. Option Meaning) [ IsValue n ↦ Some (Value n) | _ ↦ None ])
      by (IsValue n) = tt
      by y = tt

  no_type : (entities : ℕ → Option Ctype) (o : Option Ctype) → SomeFits entities (option_map TypeName o)
  no_type entities None = tt
  no_type entities (Some t) = tt

  of_object : (entities : ℕ → Option Ctype) (e : ℕ) (t : Ctype) → AgreesWith (entities e) t → MeaningFits entities (object_or_function s f e t)
  of_object entities e t h = by (is_function_type t)
    where
      by : (b : Bool) → MeaningFits entities (if b then Function e t else Object e t)
      by true = h
      by false = h

  -- where the type behind a declaration agrees with its entity's
  pub meaning_fits : (entities : ℕ → Option Ctype) (x : ℕ) → ((t : Ctype) → type_behind s f x ≡ Some t → AgreesWith (entities (entity_of s f (named_by s f x))) t) → SomeFits entities (meaning_of s f x)
  meaning_fits entities x typed = by_parent (parent_of s x)
    where
      behind : (o : Option Ctype) → type_behind s f x ≡ o → SomeFits entities (option_map (object_or_function s f (entity_of s f (named_by s f x))) o)
      behind None e = tt
      behind (Some t) e = of_object entities (entity_of s f (named_by s f x)) t (typed t e)

      by_typedef : (b : Bool) → SomeFits entities (if b then option_map TypeName (own_type s f x) else option_map (object_or_function s f (entity_of s f (named_by s f x))) (type_behind s f x))
      by_typedef true = no_type entities (own_type s f x)
      by_typedef false = behind (type_behind s f x) refl

      by_enumerator : (p : ℕ) (b : Bool) → SomeFits entities (if b then enumerated s f p else declared_meaning s f x)
      by_enumerator p true = no_value entities p
      by_enumerator p false = by_typedef (is_typedef s f x)

      by_parent : (o : Option ℕ) → SomeFits entities (elim o as (λ _. Option Meaning) [ None ↦ None | Some p ↦ if is_a s p_enumerator p then enumerated s f p else declared_meaning s f x ])
      by_parent None = tt
      by_parent (Some p) = by_enumerator p (is_a s p_enumerator p)

  -- a name without linkage has its own type, and is its own entity
  module _ (x : ℕ) (unlinked : is_linked s f x ≡ false) where
    and_false : (a b : Bool) → a ≡ false → (a && b) ≡ false
    and_false true b e = cc
    and_false false b e = refl

    pub not_internal : is_internal s f x ≡ false
    not_internal = and_false (is_linked s f x) _ unlinked

    pub own_entity : entity_of s f x ≡ x
    own_entity = ap (λ (b : Bool). if b then first_of s f x (internal_among s f s.declared.ordinary (ordinary_at s x)) else x) not_internal

    one_type : (o : Option Ctype) → all_together None (elim o as (λ _. List Ctype) [ None ↦ [] | Some t ↦ t ∷ [] ]) ≡ o
    one_type None = refl
    one_type (Some t) = refl

    behind_by : (o : Option Declared) → ordinary_at s x ≡ o → (elim o as (λ _. Bool) [ None ↦ false | Some d ↦ has_linkage d ]) ≡ false → (t : Ctype) → all_together None (types_of s f (typing_declarations s o)) ≡ Some t → own_type s f x ≡ Some t
    behind_by None found never t e = cc
    behind_by (Some d) found never t e =
        let alone : typing_declarations s (Some d) ≡ d ∷ [] = ap (λ (b : Bool). if b then linked_before s (Some d) ++ d ∷ [] else d ∷ []) never in
        let own : own_type s f d.node ≡ Some t = sym (ap (λ (l : List Declared). all_together None (types_of s f l)) alone ∙ one_type (own_type s f d.node)) ∙ e in
        ap (own_type s f) (sym (found_node s.declared.ordinary x d found)) ∙ own

    pub behind_own : (t : Ctype) → type_behind s f x ≡ Some t → own_type s f x ≡ Some t
    behind_own t e = behind_by (ordinary_at s x) refl unlinked t e

    open_not : (b : Bool) → (b && not b) ≡ false
    open_not true = refl
    open_not false = refl

    and_both_false : (a b : Bool) → b ≡ false → (a && b) ≡ false
    and_both_false true b e = e
    and_both_false false b e = refl

    pub own_named : (t : Ctype) → type_behind s f x ≡ Some t → named_by s f x ≡ x
    own_named t e =
        let same : type_behind s f x ≡ own_type s f x = e ∙ sym (behind_own t e) in
        let closed : (is_open s f (own_type s f x) && not (is_open s f (type_behind s f x))) ≡ false =
        ap (λ (o : Option Ctype). is_open s f (own_type s f x) && not (is_open s f o)) same ∙ open_not (is_open s f (own_type s f x)) in
        let none : has_earlier_length s f x ≡ false = and_both_false (is_some (initialiser_for s f x)) _ closed in
        ap (λ (b : Bool). if b then last_of s f x (linked_before s (ordinary_at s x)) else x) none

-- what is declared without linkage has its own type
pub plain_declared : (s : Source) (senses : List Sense) (x : ℕ) → is_linked s (sense_in senses) x ≡ false → is_name s x ≡ true → types_declared s senses x ≡ own_type s (sense_in senses) x
plain_declared s senses x unlinked named =
    let g : ℕ → Sense = sense_in senses in
    let local : linkage_of s g x ≡ Local = ap (λ (b : Bool). if b then Internal else (if is_linked s g x then External else Local)) (not_internal s g x unlinked) ∙ ap (λ (b : Bool). if b then External else Local) unlinked in
    ap (λ (b : Bool). if b then right.entity_type s senses x else literal_type s senses x) named
    ∙ ap (λ (l : Linkage). elim l as (λ _. Option Ctype) [ Internal ↦ right.internal_type s senses x | _ ↦ own_type s g x ]) local

pub plain_fits : (s : Source) (senses : List Sense) (i x : ℕ) → is_linked s (sense_in senses) x ≡ false → is_name s x ≡ true
    → (t : Ctype) → type_behind s (known_at s senses i) x ≡ Some t → AgreesWith (types_declared s senses (entity_of s (known_at s senses i) (named_by s (known_at s senses i) x))) t
plain_fits s senses i x unlinked named t e =
    let f : ℕ → Sense = known_at s senses i in
    let own : own_type s f x ≡ Some t = behind_own s f x unlinked t e in
    let later = own_later s f (sense_in senses) (known_later s senses i) x t own in
    let entity : entity_of s f (named_by s f x) ≡ x = ap (entity_of s f) (own_named s f x unlinked t e) ∙ own_entity s f x unlinked in
    subst (λ (n : ℕ). AgreesWith (types_declared s senses n) t) (sym entity) (subst (λ (o : Option Ctype). AgreesWith o t) (sym (plain_declared s senses x unlinked named ∙ later.1)) (agree_grown t later.0 later.2))

pub plain_names_fit : PlainNamesFit
plain_names_fit s senses i n x m pair unlinked named e =
    let f : ℕ → Sense = known_at s senses i in
    let means : meaning_of s f x ≡ Some m = sym (ap (option_and_then (meaning_of s f)) pair) ∙ e in
    subst (SomeFits (types_declared s senses)) means (meaning_fits s f (types_declared s senses) x (plain_fits s senses i x unlinked named))
