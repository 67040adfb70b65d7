-- The keyword of a tag in the table of a right unit.
use Rattle.std.proofs.Common.{◌≡◌, ◌∙◌, ◌<◌, ◌&&◌, ◌==◌, ℕ, Bool, true, false, nat_lt, List, Some, length, refl, ap, subst, inl, inr}
use Rattle.std.specs.List.{slice_get}
use Rattle.std.proofs.lemmas.Bool.{cases_Bool, ltb-true, eqb-true, eq-eqb}
use Rattle.c_types.specs.declared.term.Term.{Term}
use Rattle.c_types.specs.declared.term.Term.TheVariants.{Void, Bool as BoolTerm, Integer, Floating, VaList, Pointer, Array, Function, Structure, Union}
use Rattle.c_types.specs.Table.{type_of}
use Rattle.c_types.specs.Made.{IsMade}
use Rattle.c_inits.specs.Tables.{tagged}
use Rattle.c_grammar.specs.Productions.{p_struct}
use Rattle.core_tree.specs.declared.node.Unit.{Unit}
use Rattle.c_senses.specs.Tree.{Source, is_a}
use Rattle.c_senses.specs.World.{same_type}
use Rattle.c_senses.specs.Tags.{tag_of, tag_declared}
use Rattle.c_senses.specs.Right.{Right}
use Rattle.core_nodes.proofs.SameTypes.{type_sound}
use Rattle.struct_rows.specs.Built.{first_is_union, HasTagTypes}
use Rattle.c_tags.proofs.tag_numbers.Listing.{any_found}
use Rattle.link_model.specs.Units.{is_union_of}
use Rattle.link_merge.proofs.Keywords.{any_at, any_some}
use Rattle.linked_laws.proofs.merged_laws.Terms.{union_term, structure_term}
use Rattle.twin_report_laws.specs.outcome_laws.fault_laws.Twins.{has_union}

and_first : (a b : Bool) → (a && b) ≡ true → a ≡ true
and_first true b h = refl
and_first false b h = h

and_second : (a b : Bool) → (a && b) ≡ true → b ≡ true
and_second true b h = h
and_second false b h = cc

stands_union : (tag : ℕ) (t : Term) → is_union_of tag t ≡ true → t ≡ Union tag
stands_union tag (Union other) h = ap Union (eqb-true other tag h)
stands_union tag Void h = cc
stands_union tag BoolTerm h = cc
stands_union tag (Integer size rank signed) h = cc
stands_union tag Floating h = cc
stands_union tag VaList h = cc
stands_union tag (Pointer to) h = cc
stands_union tag (Array of n) h = cc
stands_union tag (Function result parameters form) h = cc
stands_union tag (Structure other) h = cc

module _ (s : Source) (u : Unit) (has : HasTagTypes s u.types) (made : IsMade u.types) where
  -- a tag that stands under its number with a keyword has that keyword alone
  keyword_by : (tag : ℕ) (b : Bool) → tag < length u.types.terms → type_of u.types tag ≡ tagged b tag → has_union u.types tag ≡ b
  keyword_by tag true within is = any_at (is_union_of tag) u.types.terms tag (Union tag) (union_term u.types tag tag within is) (eq-eqb tag tag refl)
  keyword_by tag false within is = elim (cases_Bool (has_union u.types tag)) [
    | inr none ↦ none
    | inl some ↦
        let found = any_some (is_union_of tag) u.types.terms some in
        let union : slice_get u.types.terms found.0 ≡ Some (Union tag) = found.2 ∙ ap Some (stands_union tag found.1 found.3) in
        absurd (made.apart.each tag found.0 tag (structure_term u.types tag tag within is) union)
  ]

  keyword_of : (i : ℕ) → is_a s p_struct i ≡ true → has_union u.types (tag_of s i) ≡ first_is_union s (tag_of s i)
  keyword_of i is =
      let tag = tag_of s i in
      let b = first_is_union s tag in
      let stands : (nat_lt tag (length u.types.terms) && same_type (type_of u.types tag) (tagged b tag)) ≡ true = has.each i is in
      let within : nat_lt tag (length u.types.terms) ≡ true = and_first (nat_lt tag (length u.types.terms)) (same_type (type_of u.types tag) (tagged b tag)) stands in
      let same : same_type (type_of u.types tag) (tagged b tag) ≡ true = and_second (nat_lt tag (length u.types.terms)) (same_type (type_of u.types tag) (tagged b tag)) stands in
      keyword_by tag b (ltb-true tag (length u.types.terms) within) (type_sound (type_of u.types tag) (tagged b tag) same)

  -- the keyword of a tag is that of its first specifier
  pub keyword_is : (name : List ℕ) → Right s name u → (tag : ℕ) → tag < u.types.tags → has_union u.types tag ≡ first_is_union s tag
  keyword_is name right tag less =
      let (d, is, number) = right.no_other_tag tag less in
      let (i, within, passes) = any_found (λ i. is_a s p_struct i && (tag_declared s i == d)) (length s.nodes) is in
      let declared : tag_declared s i ≡ d = eqb-true (tag_declared s i) d (and_second (is_a s p_struct i) (tag_declared s i == d) passes) in
      let own : tag_of s i ≡ tag = ap s.tag_number declared ∙ number in
      subst (λ (k : ℕ). has_union u.types k ≡ first_is_union s k) own (keyword_of i (and_first (is_a s p_struct i) (tag_declared s i == d) passes))
