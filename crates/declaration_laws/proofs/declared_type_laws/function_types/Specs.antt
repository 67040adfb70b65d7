-- The type of specifiers that have a name among their types.
use Rattle.std.proofs.Common.{arith, ◌≡◌, ◌<◌, ◌⊎◌, inl, inr, ℕ, ◌&&◌, ◌||◌, nat_eq, Bool, true, false, cond, List, [], ◌∷◌, map, Option, Some, None, length, refl, sym, ap, ◌∙◌, subst, eq-eqb}
use Rattle.std.specs.Prelude.{is_some, option_and_then, if◌then◌else◌}
use Rattle.std.specs.List.{find}
use Rattle.std.proofs.lemmas.Bool.{eqb-true}
use Rattle.pta_base.specs.declared.kind.Kind.TheVariants.{Operand}
use Rattle.c_lexer.specs.declared.TokenKind.{TokenKind}
use Rattle.c_lexer.specs.declared.TokenKind.TheVariants.{Identifier, Keyword}
use Rattle.c_types.specs.Trees.{Ctype, FloatingType, VaListType, StructureOf, UnionOf}
use Rattle.c_grammar.specs.Table.{table, row}
use Rattle.c_grammar.specs.Tree.{makes_node}
use Rattle.c_grammar.specs.Productions.{p_specs, p_type, p_struct, p_enum, p_members}
use Rattle.c_grammar.specs.Reads.{leaf}
use Rattle.c_grammar.specs.Terminals.{contains, own_meaning, own_words}
use Rattle.c_mentions.specs.Syntax as syntax
use Rattle.c_mentions.specs.Roles.{named_type, begins_with_name, name_first}
use Rattle.core_tree.specs.Rows.{int}
use Rattle.c_senses.specs.Tree.{Source, production_at, children_at, is_a, is_leaf, is_name, kind_at, spelling_at, is_identifier, paired, all_where, child_of}
use Rattle.c_senses.specs.Given.{Given, Fits, given_if}
use Rattle.c_senses.specs.World.{World}
use Rattle.c_senses.specs.Tags.{tag_fits, named_tag, aggregate_type, is_union, tag_of, struct_type, struct_row, enum_row, laid, members_in_sense}
use Rattle.c_senses.specs.Limits.{is_small}
use Rattle.c_senses.specs.Specifiers.{is_word_kind, type_leaf, type_row, first_type, specified_type, specs_row, words_fit, storage_words, function_words}
use Rattle.c_senses.specs.Specifiers as specifiers
use Rattle.c_senses.specs.Entities.{meaning_of}
use Rattle.c_senses.specs.Rows.{AreSenses}
use Rattle.c_senses.specs.Sense.{Sense, Nothing, IsType, IsSpecified, Specified, sense_in}
use Rattle.core_node_laws.proofs.count_laws.passed.parsed_tree_laws.placed_laws.Climbing.{Grown}
use Rattle.core_node_laws.specs.count_laws.passed.parsed_tree_laws.grown_parts.Parts.{Brings, IsBrought}
use Rattle.core_node_laws.proofs.count_laws.passed.parsed_tree_laws.grown_parts.Declaring.{AllIn}
use Rattle.core_node_laws.proofs.count_laws.passed.parsed_tree_laws.grown_parts.Allowed.{rows_in, brings_in}
use Rattle.declaration_laws.proofs.declared_type_laws.owner_laws.passed.definition_laws.linkage_laws.Seen.{nodes, children_are}
use Rattle.core_node_laws.proofs.built_unit_laws.run_laws.Times.{known_at, world_of, known, row_as}
use Rattle.declaration_laws.specs.declared_type_laws.function_types.Typed.{IsNamedType}
use Rattle.declaration_laws.proofs.declared_type_laws.function_types.Views.{name_same, part_same}

both : (a b : Bool) → (a && b) ≡ true → (a ≡ true) × (b ≡ true)
both true b e = (refl, e)
both false b e = cc

no_both : (b : Bool) → b ≡ true → b ≡ false → ⊥
no_both b e f = let both : true ≡ false = sym e ∙ f in cc

-- what stands in a type specifier
abbrev type_parts : List ℕ
type_parts = leaf ∷ 12 ∷ 16 ∷ []

abbrev type_rows : List ℕ
type_rows = 78 ∷ 79 ∷ 80 ∷ 81 ∷ 82 ∷ 83 ∷ 84 ∷ 85 ∷ 86 ∷ 87 ∷ 88 ∷ 89 ∷ 90 ∷ 91 ∷ 92 ∷ 93 ∷ 94 ∷ 95 ∷ 96 ∷ 97 ∷ 98 ∷ 99 ∷ 100 ∷ 101 ∷ []

types_in : rows_in type_parts type_rows type_rows ≡ true
unfolding table row makes_node
types_in = refl

type_list : (zs : List ℕ) → Brings 11 0 zs → AllIn type_parts zs
unfolding table row makes_node
type_list zs b = brings_in type_parts type_rows refl types_in 11 0 zs b refl

word_kind : (k : TokenKind) → is_identifier k ≡ true → is_word_kind k ≡ false
word_kind Identifier h = refl
word_kind (Keyword w) h = cc
word_kind k h = cc

named_by : (union : Bool) (tag : ℕ) → IsNamedType (if union then UnionOf tag else StructureOf tag)
named_by true tag = tt
named_by false tag = tt

of_words : (b : Bool) → IsNamedType (if b then FloatingType else VaListType)
of_words true = tt
of_words false = tt

module _ (s : Source) (senses : List Sense) (grown : Grown s) (are : AreSenses s senses) (whole : length senses ≡ length s.nodes) (brought : IsBrought s) (uses_named : (j x : ℕ) → paired s.uses j ≡ Some x → syntax.is_name s.tokens (nodes s) j ≡ true) where
  abbrev f : ℕ → Sense
  f = sense_in senses

  abbrev F : ℕ → ℕ → Sense
  F m = known_at s senses m

  abbrev W : ℕ → World
  W m = world_of s senses m

  fits_same : {x y : Sense} → ◌≡◌ {A = Given Sense} (Fits x) (Fits y) → x ≡ y
  fits_same e = cc

  type_same : {x y : Ctype} → IsType x ≡ IsType y → x ≡ y
  type_same e = cc

  inside : (m k : ℕ) → contains (children_at s m) k ≡ true → k < length senses
  inside m k c = let before = grown.before m k c in let within = grown.within m k c in omega (arith, before, within, whole)

  -- a structure's or an enumeration's specifier
  struct_typed : (c : ℕ) (t : Ctype) → struct_row (W c) s (F c) c ≡ Fits (f c) → f c ≡ IsType t → IsNamedType t
  struct_typed c t e is = by (tag_fits s c) (child_of s p_members c) e
    where
      own : ◌≡◌ {A = Given Sense} (Fits (IsType (aggregate_type s c))) (Fits (f c)) → IsNamedType t
      own h = subst IsNamedType (type_same (fits_same h ∙ is)) (named_by (is_union s c) (tag_of s c))

      listed : (o : Option ℕ) → struct_type (W c) s (F c) c o ≡ Fits (f c) → IsNamedType t
      listed None h = own h
      listed (Some list) h = pick (is_small (Some (laid (W c) (is_union s c) (aggregate_type s c) (members_in_sense (W c) s (F c) (F c list))))) h
        where
          pick : (b : Bool) → given_if b Operand c (Fits (IsType (aggregate_type s c))) ≡ Fits (f c) → IsNamedType t
          pick true k = own k
          pick false k = cc

      by : (b : Bool) (o : Option ℕ) → given_if b Operand (named_tag s c) (struct_type (W c) s (F c) c o) ≡ Fits (f c) → IsNamedType t
      by true o h = listed o h
      by false o h = cc

  enum_typed : (c : ℕ) (t : Ctype) → enum_row (W c) s (F c) c ≡ Fits (f c) → f c ≡ IsType t → IsNamedType t
  enum_typed c t e is = by (tag_fits s c) e
    where
      by : (b : Bool) → given_if b Operand (named_tag s c) (Fits (IsType int)) ≡ Fits (f c) → IsNamedType t
      by true h = subst IsNamedType (type_same (fits_same h ∙ is)) refl
      by false h = cc

  part_typed : (k c : ℕ) (t : Ctype) → is_a s p_type k ≡ true → contains (children_at s k) c ≡ true → is_leaf s c ≡ false → f c ≡ IsType t → IsNamedType t
  part_typed k c t is at no_leaf sense = by (production_at s c) refl (in_all (children_at s k) (type_list _ (subst (λ (q : ℕ). Brings q 0 (map (production_at s) (children_at s k))) (eqb-true (production_at s k) p_type is) (brought k))) at)
    where
      in_all : (ks : List ℕ) → AllIn type_parts (map (production_at s) ks) → contains ks c ≡ true → contains type_parts (production_at s c) ≡ true
      in_all [] h d = cc
      in_all (j ∷ ks) h d = pick (nat_eq j c) refl d (in_all ks h.1)
        where
          pick : (b : Bool) → nat_eq j c ≡ b → (b || contains ks c) ≡ true → (contains ks c ≡ true → contains type_parts (production_at s c) ≡ true) → contains type_parts (production_at s c) ≡ true
          pick true e q later = subst (λ (x : ℕ). contains type_parts (production_at s x) ≡ true) (eqb-true j c e) h.0
          pick false e q later = later q

      by : (p : ℕ) → production_at s c ≡ p → contains type_parts p ≡ true → IsNamedType t
      by p e h = pick (nat_eq leaf p) (nat_eq 12 p) (nat_eq 16 p) refl refl refl h
        where
          pick : (x y z : Bool) → nat_eq leaf p ≡ x → nat_eq 12 p ≡ y → nat_eq 16 p ≡ z → (x || (y || (z || false))) ≡ true → IsNamedType t
          pick true y z ex ey ez q = absurd (no_both (is_leaf s c) (eq-eqb (production_at s c) leaf (e ∙ sym (eqb-true leaf p ex))) no_leaf)
          pick false true z ex ey ez q = struct_typed c t (row_as s senses are p_struct c (inside k c at) (eq-eqb (production_at s c) 12 (e ∙ sym (eqb-true 12 p ey)))) sense
          pick false false true ex ey ez q = enum_typed c t (row_as s senses are p_enum c (inside k c at) (eq-eqb (production_at s c) 16 (e ∙ sym (eqb-true 16 p ez)))) sense
          pick false false false ex ey ez q = cc

  -- a type specifier that doesn't begin with a name
  plain_typed : (k : ℕ) (t : Ctype) → k < length senses → is_a s p_type k ≡ true → begins_with_name s.tokens (nodes s) k ≡ false → f k ≡ IsType t → IsNamedType t
  unfolding begins_with_name
  plain_typed k t lt is none sense =
      by (children_at s k) (λ c d. d) (ap (λ (l : List ℕ). name_first s.tokens (nodes s) (syntax.first_of l)) (sym (children_are s k)) ∙ none) (row_as s senses are p_type k lt is)
    where
      of_meaning : (c : ℕ) → syntax.is_name s.tokens (nodes s) c ≡ false → (o : Option ℕ) → paired s.uses c ≡ o → specifiers.named_type (W k) s (F k) k c (option_and_then (meaning_of s (F k)) o) ≡ Fits (f k) → IsNamedType t
      of_meaning c n None e h = subst IsNamedType (type_same (fits_same h ∙ sense)) (of_words (is_some (own_meaning own_words (spelling_at s c))))
      of_meaning c n (Some x) e h = absurd (no_both (syntax.is_name s.tokens (nodes s) c) (uses_named c x e) n)

      of_word : (c : ℕ) → syntax.is_name s.tokens (nodes s) c ≡ false → (b : Bool) → type_leaf (W k) s (F k) k c b ≡ Fits (f k) → IsNamedType t
      of_word c n true h = let no : Nothing ≡ IsType t = fits_same h ∙ sense in cc
      of_word c n false h = of_meaning c n (paired s.uses c) refl h

      of_leaf : (c : ℕ) → contains (children_at s k) c ≡ true → syntax.is_name s.tokens (nodes s) c ≡ false → (b : Bool) → is_leaf s c ≡ b → (if b then type_leaf (W k) s (F k) k c (is_word_kind (kind_at s c)) else Fits (F k c)) ≡ Fits (f k) → IsNamedType t
      of_leaf c at n true e h = of_word c n (is_word_kind (kind_at s c)) h
      of_leaf c at n false e h = part_typed k c t is at e (sym (known s senses k c (grown.before k c at)) ∙ (fits_same h ∙ sense))

      by : (l : List ℕ) → ((c : ℕ) → contains l c ≡ true → contains (children_at s k) c ≡ true) → name_first s.tokens (nodes s) (syntax.first_of l) ≡ false → type_row (W k) s (F k) k l ≡ Fits (f k) → IsNamedType t
      by [] sub n h = cc
      by (c ∷ rest) sub n h = of_leaf c (sub c (ap (λ (b : Bool). b || contains rest c) (eq-eqb c c refl))) n (is_leaf s c) refl h

  -- one that begins with a name has what that means
  pub named_row : (k n : ℕ) → k < length senses → is_a s p_type k ≡ true → syntax.first_child (nodes s) k ≡ Some n → syntax.is_name s.tokens (nodes s) n ≡ true → specifiers.named_type (W k) s (F k) k n ((W k).meaning n) ≡ Fits (f k)
  named_row k n lt is first name = by (children_at s k) (ap syntax.first_of (sym (children_are s k)) ∙ first) (row_as s senses are p_type k lt is)
    where
      name_is : is_name s n ≡ true
      name_is = sym (name_same s n) ∙ name

      by : (l : List ℕ) → syntax.first_of l ≡ Some n → type_row (W k) s (F k) k l ≡ Fits (f k) → specifiers.named_type (W k) s (F k) k n ((W k).meaning n) ≡ Fits (f k)
      by [] e h = cc
      by (c ∷ rest) e h =
          let same : c ≡ n = cc in
          let parts = both (is_leaf s n) (is_identifier (kind_at s n)) name_is in
          let own = subst (λ (x : ℕ). (if is_leaf s x then type_leaf (W k) s (F k) k x (is_word_kind (kind_at s x)) else Fits (F k x)) ≡ Fits (f k)) same h in
          sym (ap (λ (b : Bool). if b then type_leaf (W k) s (F k) k n (is_word_kind (kind_at s n)) else Fits (F k n)) parts.0 ∙ ap (type_leaf (W k) s (F k) k n) (word_kind (kind_at s n) parts.1)) ∙ own

  -- ---- specifiers

  module _ (c t n : ℕ) (lt : c < length senses) (is : is_a s p_specs c ≡ true) (T : Ctype) (typed : f t ≡ IsType T) where
    first_is : (ks : List ℕ) → ((k : ℕ) → contains ks k ≡ true → contains (children_at s c) k ≡ true) → find (λ child. syntax.is_of (nodes s) p_type child && begins_with_name s.tokens (nodes s) child) ks ≡ Some t
        → (u : Ctype) × (first_type (W c) s (F c) (all_where (is_a s p_type) ks) ≡ Some u) × (IsNamedType u ⊎ (u ≡ T))
    first_is [] sub e = cc
    first_is (k ∷ ks) sub e = by (is_a s p_type k) (begins_with_name s.tokens (nodes s) k) (f k) refl refl refl e (λ g. first_is ks (λ j d. sub j (more (nat_eq k j) (contains ks j) d)) g)
      where
        more : (a b : Bool) → b ≡ true → (a || b) ≡ true
        more true b e = refl
        more false b e = e

        at : contains (children_at s c) k ≡ true
        at = sub k (ap (λ (b : Bool). b || contains ks k) (eq-eqb k k refl))

        before : F c k ≡ f k
        before = known s senses c k (grown.before c k at)

        step : (x : Bool) → is_a s p_type k ≡ x → first_type (W c) s (F c) (all_where (is_a s p_type) (k ∷ ks)) ≡ first_type (W c) s (F c) (if x then k ∷ all_where (is_a s p_type) ks else all_where (is_a s p_type) ks)
        step x ex = ap (λ (b : Bool). first_type (W c) s (F c) (if b then k ∷ all_where (is_a s p_type) ks else all_where (is_a s p_type) ks)) ex

        sensed : (y : Sense) → f k ≡ y → first_type (W c) s (F c) (k ∷ all_where (is_a s p_type) ks) ≡ (elim y as (λ _. Option Ctype) [ IsType u ↦ Some u | _ ↦ first_type (W c) s (F c) (all_where (is_a s p_type) ks) ])
        sensed y ey = ap (λ (z : Sense). elim z as (λ _. Option Ctype) [ IsType u ↦ Some u | _ ↦ first_type (W c) s (F c) (all_where (is_a s p_type) ks) ]) (before ∙ ey)

        by : (x b : Bool) (y : Sense) → is_a s p_type k ≡ x → begins_with_name s.tokens (nodes s) k ≡ b → f k ≡ y
            → cond (syntax.is_of (nodes s) p_type k && begins_with_name s.tokens (nodes s) k) (Some k) (find (λ child. syntax.is_of (nodes s) p_type child && begins_with_name s.tokens (nodes s) child) ks) ≡ Some t
            → (find (λ child. syntax.is_of (nodes s) p_type child && begins_with_name s.tokens (nodes s) child) ks ≡ Some t → (u : Ctype) × (first_type (W c) s (F c) (all_where (is_a s p_type) ks) ≡ Some u) × (IsNamedType u ⊎ (u ≡ T)))
            → (u : Ctype) × (first_type (W c) s (F c) (all_where (is_a s p_type) (k ∷ ks)) ≡ Some u) × (IsNamedType u ⊎ (u ≡ T))
        by false b y ex eb ey g later =
            let off : find (λ child. syntax.is_of (nodes s) p_type child && begins_with_name s.tokens (nodes s) child) ks ≡ Some t =
            sym (ap (λ (z : Bool). cond (z && begins_with_name s.tokens (nodes s) k) (Some k) (find (λ child. syntax.is_of (nodes s) p_type child && begins_with_name s.tokens (nodes s) child) ks)) (part_same s p_type k refl refl ∙ ex)) ∙ g in
            let r = later off in (r.0, step false ex ∙ r.1, r.2)
        by true true y ex eb ey g later =
            let here : Some k ≡ Some t =
            sym (ap (λ (z : Bool). cond (z && begins_with_name s.tokens (nodes s) k) (Some k) (find (λ child. syntax.is_of (nodes s) p_type child && begins_with_name s.tokens (nodes s) child) ks)) (part_same s p_type k refl refl ∙ ex)
            ∙ ap (λ (z : Bool). cond z (Some k) (find (λ child. syntax.is_of (nodes s) p_type child && begins_with_name s.tokens (nodes s) child) ks)) eb) ∙ g in
            let same : k ≡ t = cc in
            (T, step true ex ∙ sensed (IsType T) (ap f same ∙ typed), inr refl)
        by true false (IsType u) ex eb ey g later = (u, step true ex ∙ sensed (IsType u) ey, inl (plain_typed k u (inside c k at) ex eb ey))
        by true false y ex eb ey g later =
            let off : find (λ child. syntax.is_of (nodes s) p_type child && begins_with_name s.tokens (nodes s) child) ks ≡ Some t =
            sym (ap (λ (z : Bool). cond (z && begins_with_name s.tokens (nodes s) k) (Some k) (find (λ child. syntax.is_of (nodes s) p_type child && begins_with_name s.tokens (nodes s) child) ks)) (part_same s p_type k refl refl ∙ ex)
            ∙ ap (λ (z : Bool). cond z (Some k) (find (λ child. syntax.is_of (nodes s) p_type child && begins_with_name s.tokens (nodes s) child) ks)) eb) ∙ g in
            let r = later off in (r.0, step true ex ∙ (sensed y ey ∙ r.1), r.2)

    -- so the type of the specifiers is that of the name, or another specifier's
    pub specified_is : (z : Specified) → f c ≡ IsSpecified z → named_type s.tokens (nodes s) c ≡ Some t → IsNamedType z.type ⊎ (z.type ≡ T)
    unfolding named_type
    specified_is z sense e =
        let r = first_is (children_at s c) (λ k d. d) (ap (find (λ child. syntax.is_of (nodes s) p_type child && begins_with_name s.tokens (nodes s) child)) (sym (children_are s c)) ∙ e) in
        by (words_fit s c (storage_words s (children_at s c)) (function_words s (children_at s c))) r.0 r.1 r.2 (row_as s senses are p_specs c lt is)
      where
        spec_type : {x y : Specified} → IsSpecified x ≡ IsSpecified y → x ≡ y
        spec_type q = cc

        by : (b : Bool) (u : Ctype) → first_type (W c) s (F c) (all_where (is_a s p_type) (children_at s c)) ≡ Some u → IsNamedType u ⊎ (u ≡ T)
            → given_if b Operand c (Fits (IsSpecified (record { storage = storage_words s (children_at s c); functions = function_words s (children_at s c); type = specified_type (W c) s (F c) (all_where (is_a s p_type) (children_at s c)) (first_type (W c) s (F c) (all_where (is_a s p_type) (children_at s c))) }))) ≡ Fits (f c)
            → IsNamedType z.type ⊎ (z.type ≡ T)
        by false u first w h = cc
        by true u first w h =
            let same = spec_type (fits_same h ∙ sense) in
            let type : u ≡ z.type = sym (ap (specified_type (W c) s (F c) (all_where (is_a s p_type) (children_at s c))) first) ∙ ap (λ (q : Specified). q.type) same in
            elim w [ inl named ↦ inl (subst IsNamedType type named) | inr one ↦ inr (sym type ∙ one) ]
