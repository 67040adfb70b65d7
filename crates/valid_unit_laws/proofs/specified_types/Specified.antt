-- A tag's number leads to its first specifier, whose type stands under that number; a term with the same tag has the same keyword.
use Rattle.std.proofs.Common.{arith, ◌≡◌, ◌∙◌, ◌==◌, ◌&&◌, ◌<◌, ◌≤◌, ◌+◌, ℕ, zero, suc, Bool, true, false, Option, Some, None, length, slice_get, refl, sym, ap, subst, inl, inr}
use Rattle.std.specs.Prelude.{if◌then◌else◌}
use Rattle.std.proofs.lemmas.Bool.{eqb-true, eq-eqb}
use Rattle.std.proofs.lemmas.Bool.Decides.{eqb_tells}
use Rattle.std.proofs.lemmas.Option.{slice_get_cases}
use Rattle.c_grammar.specs.Productions.{p_struct}
use Rattle.c_types.specs.declared.term.Term.{Term}
use Rattle.c_types.specs.declared.term.Term.TheVariants.{Void, Bool as BoolTerm, Integer, Floating, VaList, Pointer, Array, Function, Structure, Union}
use Rattle.c_types.specs.Trees.{Ctype, StructureOf, UnionOf, grow}
use Rattle.c_types.specs.Table.{Table, types_of, type_of}
use Rattle.c_types.specs.Made.{IsMade, AreNamed}
use Rattle.type_rules.specs.Kinds.{IsAggregate}
use Rattle.c_inits.specs.Tables.{tagged}
use Rattle.c_senses.specs.Tree.{Source, is_a, first_where, numbers_from}
use Rattle.c_senses.specs.Tags.{is_union, tag_of, tag_declared, aggregate_type}
use Rattle.c_senses.specs.Right.{is_tag}
use Rattle.struct_rows.specs.Built.{HasTagTypes, is_of_tag, first_specifier, union_by, first_is_union}
use Rattle.struct_rows.proofs.Building.{stands_type, stands_below}
use Rattle.c_tags.proofs.tag_numbers.Listing.{any_found}
use Rattle.core_node_laws.specs.built_unit_laws.tag_sizes.Sizes.{IsSpecified, TagsSpecified}
use Rattle.type_rules.proofs.term_types.Grown.{types_grown}
use Rattle.valid_unit_laws.specs.specified_types.Specified.{TypesSpecified}

and_parts : (a b : Bool) → (a && b) ≡ true → (a ≡ true) × (b ≡ true)
and_parts true b h = (refl, h)
and_parts false b h = cc

both : (a b : Bool) → a ≡ true → b ≡ true → (a && b) ≡ true
both a b e f = ap (λ (x : Bool). x && b) e ∙ f

-- ---- the first of a source's nodes that passes

record IsFirst (test : ℕ → Bool) (n : ℕ) (o : Option ℕ) : Type 0 where
  first : ℕ
  is : o ≡ Some first
  below : first < n
  passes : test first ≡ true

first_among : (test : ℕ → Bool) (k n j : ℕ) → k ≤ j → j < k + n → test j ≡ true → IsFirst test (k + n) (first_where test (numbers_from k n))
first_among test k zero j low high h = absurd (omega arith)
first_among test k (suc n) j low high h = by (λ l. first_among test (suc k) n j l (omega (arith, high)) h) (test k) refl
  where
    same_end : suc k + n ≡ k + suc n
    same_end = omega arith

    by : (suc k ≤ j → IsFirst test (suc k + n) (first_where test (numbers_from (suc k) n))) → (b : Bool) → test k ≡ b
        → IsFirst test (k + suc n) (if b then Some k else first_where test (numbers_from (suc k) n))
    by rest true e = record { first = k; is = refl; below = omega arith; passes = e }
    by rest false e =
        let apart : suc k ≤ j = elim (eqb_tells k j) [
          | inl p ↦ let never : test k ≡ true = ap test p.1 ∙ h in absurd (let c : false ≡ true = sym e ∙ never in cc)
          | inr p ↦ omega (arith, low, p.1)
        ] in
        subst (λ (m : ℕ). IsFirst test m (first_where test (numbers_from (suc k) n))) same_end (rest apart)

-- ---- terms of structures and unions

abbrev term_of : Bool → ℕ → Term
term_of true tag = Union tag
term_of false tag = Structure tag

-- a term whose type is a structure or union has its tag
abbrev IsTagTerm : Ctype → Term → Type 0
IsTagTerm x t = (u : Bool) × (tag : ℕ) × (t ≡ term_of u tag) × (x ≡ tagged u tag)

tag_term : (table : Table) (t : Term) → IsAggregate (grow (types_of table) t) → IsTagTerm (grow (types_of table) t) t
tag_term table (Structure tag) h = (false, tag, refl, refl)
tag_term table (Union tag) h = (true, tag, refl, refl)
tag_term table Void h = absurd h
tag_term table BoolTerm h = absurd h
tag_term table (Integer size rank signed) h = absurd h
tag_term table Floating h = absurd h
tag_term table VaList h = absurd h
tag_term table (Pointer to) h = absurd h
tag_term table (Array of n) h = absurd h
tag_term table (Function result parameters form) h = absurd h

is_tagged : (u : Bool) (tag : ℕ) → IsAggregate (tagged u tag)
is_tagged true tag = tt
is_tagged false tag = tt

same_tagged : (u v : Bool) (a b : ℕ) → tagged u a ≡ tagged v b → (u ≡ v) × (a ≡ b)
same_tagged true true a b e = let f : a ≡ b = cc in (refl, f)
same_tagged false false a b e = let f : a ≡ b = cc in (refl, f)
same_tagged true false a b e = cc
same_tagged false true a b e = cc

aggregate_is : (s : Source) (i : ℕ) (u : Bool) → is_union s i ≡ u → aggregate_type s i ≡ tagged u (tag_of s i)
aggregate_is s i true e = ap (λ (b : Bool). if b then UnionOf (tag_of s i) else StructureOf (tag_of s i)) e
aggregate_is s i false e = ap (λ (b : Bool). if b then UnionOf (tag_of s i) else StructureOf (tag_of s i)) e

module _ (s : Source) (table : Table) (types : HasTagTypes s table) (made : IsMade table) (named : AreNamed table) where
  -- no tag has both keywords
  one_keyword : (u v : Bool) (i j tag : ℕ) → slice_get table.terms i ≡ Some (term_of u tag) → slice_get table.terms j ≡ Some (term_of v tag) → u ≡ v
  one_keyword true true i j tag a b = refl
  one_keyword false false i j tag a b = refl
  one_keyword true false i j tag a b = absurd (made.apart.each j i tag b a)
  one_keyword false true i j tag a b = absurd (made.apart.each i j tag a b)

  tag_below : (u : Bool) (i tag : ℕ) → slice_get table.terms i ≡ Some (term_of u tag) → tag < table.tags
  tag_below true i tag e = (named i (Union tag) e).1
  tag_below false i tag e = (named i (Structure tag) e).1

  term_at : (i : ℕ) → i < length table.terms → IsAggregate (type_of table i) → (u : Bool) × (tag : ℕ) × (slice_get table.terms i ≡ Some (term_of u tag)) × (type_of table i ≡ tagged u tag)
  term_at i lt h = elim (slice_get_cases table.terms i).1 [
    | inl p ↦
        let is = types_grown table i p.0 named p.2 in
        let t = tag_term table p.0 (subst IsAggregate is h) in
        (t.0, t.1, p.2 ∙ ap Some t.2, is ∙ t.3)
    | inr past ↦ absurd (let far = past.0 in omega (arith, far, lt))
  ]

  -- the first specifier of a tag
  specifier : (tag : ℕ) → IsFirst (is_of_tag s tag) (0 + length s.nodes) (first_specifier s tag) → (id : ℕ) → (u : Bool) → slice_get table.terms id ≡ Some (term_of u tag) → type_of table id ≡ tagged u tag → IsSpecified s table id
  specifier tag f id u there is =
      let k = f.first in
      let parts = and_parts (is_a s p_struct k) (tag_of s k == tag) f.passes in
      let own : tag_of s k ≡ tag = eqb-true (tag_of s k) tag parts.1 in
      let v : Bool = is_union s k in
      let first : first_is_union s (tag_of s k) ≡ v = ap (λ (n : ℕ). first_is_union s n) own ∙ ap (union_by s) f.is in
      let stands = types.each k parts.0 in
      let below = stands_below table (tag_of s k) (first_is_union s (tag_of s k)) stands in
      let type : type_of table (tag_of s k) ≡ tagged v (tag_of s k) = stands_type table (tag_of s k) (first_is_union s (tag_of s k)) stands ∙ ap (λ (b : Bool). tagged b (tag_of s k)) first in
      let other = term_at (tag_of s k) below (subst IsAggregate (sym type) (is_tagged v (tag_of s k))) in
      let same = same_tagged other.0 v other.1 (tag_of s k) (sym other.3 ∙ type) in
      let other_there : slice_get table.terms (tag_of s k) ≡ Some (term_of v tag) =
      other.2 ∙ (ap (λ (b : Bool). Some (term_of b other.1)) same.0 ∙ ap (λ (n : ℕ). Some (term_of v n)) (same.1 ∙ own)) in
      let keyword : u ≡ v = one_keyword u v id (tag_of s k) tag there other_there in
      record {
        node = k;
        inside = omega (arith, f.below);
        struct = parts.0;
        type = is ∙ (ap (λ (b : Bool). tagged b tag) keyword ∙ (ap (λ (n : ℕ). tagged v n) (sym own) ∙ sym (aggregate_is s k v refl)));
      }

pub types_specified : TypesSpecified
types_specified s table types made named tags id lt aggregate =
    let t = term_at s table types made named id lt aggregate in
    let tag = t.1 in
    let d = tags tag (tag_below s table types made named t.0 id tag t.2) in
    let i = any_found (λ j. is_a s p_struct j && (tag_declared s j == d.0)) (length s.nodes) d.1 in
    let parts = and_parts (is_a s p_struct i.0) (tag_declared s i.0 == d.0) i.2 in
    let own : tag_of s i.0 ≡ tag = ap s.tag_number (eqb-true (tag_declared s i.0) d.0 parts.1) ∙ d.2 in
    let f = first_among (is_of_tag s tag) 0 (length s.nodes) i.0 (omega arith) (omega (arith, i.1)) (both (is_a s p_struct i.0) (tag_of s i.0 == tag) parts.0 (eq-eqb (tag_of s i.0) tag own)) in
    specifier s table types made named tag f id t.0 t.2 t.3
