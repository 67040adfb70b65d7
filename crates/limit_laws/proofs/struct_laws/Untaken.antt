-- Why the row of a structure or union isn't built.
use Rattle.std.proofs.Common.{arith, ◌≡◌, ◌<◌, ℕ, Bool, true, false, ◌&&◌, List, Option, Some, None, length, ◌⊎◌, inl, inr, refl, sym, ap, ◌∙◌}
use Rattle.std.specs.Prelude.{is_none, is_some}
use Rattle.pta_base.specs.declared.kind.Kind.TheVariants.{Operand, NotBuilt}
use Rattle.c_grammar.specs.Productions.{p_struct, p_members}
use Rattle.c_inits.specs.Made.{Part}
use Rattle.c_results.specs.Parts.{parts_in}
use Rattle.c_senses.specs.Given.{Given, Fits, Refuses, given_if}
use Rattle.c_senses.specs.Limits.{is_small}
use Rattle.c_senses.specs.Tree.{Source, is_a, child_of}
use Rattle.c_senses.specs.World.{World, extent}
use Rattle.c_senses.specs.Sense.{Sense, IsType, IsMembers, sense_in}
use Rattle.c_senses.specs.Tags.{is_union, tag_of, tag_fits, named_tag, aggregate_type, laid, members_in_sense, struct_type}
use Rattle.c_senses.specs.Right.{TagsDiffer}
use Rattle.c_senses.specs.Rows.{world_at, AreSenses}
use Rattle.parsed_tree_laws.specs.sense_laws.Senses.{ChildrenFirst}
use Rattle.struct_rows.specs.Built.{agree, first_is_union, list_fits, built_type, built_struct}
use Rattle.struct_rows.specs.Taken.{takes}
use Rattle.limit_laws.specs.struct_laws.Untaken.{IsOtherKeyword, IsUntaken, OnlyUntaken}
use Rattle.limit_laws.proofs.struct_laws.Opening.{tags_open}
use Rattle.limit_laws.proofs.struct_laws.Lists.{lists_made}

fits_not : (x : Sense) (at : ℕ) → Fits x ≡ Refuses NotBuilt at → ⊥
fits_not x at e = cc

operand_not : (n at : ℕ) → ◌≡◌ {A = Given Sense} (Refuses Operand n) (Refuses NotBuilt at) → ⊥
operand_not n at e = cc

small_not : (b : Bool) (x : Sense) (at : ℕ) → given_if b Operand at (Fits x) ≡ Refuses NotBuilt at → ⊥
small_not true x at e = fits_not x at e
small_not false x at e = operand_not at at e

both_true : (a b c : Bool) → a ≡ true → b ≡ true → (a && (b && c)) ≡ false → c ≡ false
both_true a b c e f h = sym (ap (λ (x : Bool). x && (b && c)) e ∙ ap (λ (x : Bool). x && c) f) ∙ h

module _ (s : Source) (senses : List Sense) (at : ℕ) (are : AreSenses s senses) (first : ChildrenFirst s) (differ : TagsDiffer s) (here : at ≡ length senses) (inside : at < length s.nodes) (struct : is_a s p_struct at ≡ true) where
  abbrev w : World
  w = world_at s senses at

  abbrev f : ℕ → Sense
  f = sense_in senses

  module _ (fits : tag_fits s at ≡ true) (list : ℕ) (child : child_of s p_members at ≡ Some list) where
    made : (parts : List Part) × (f list ≡ IsMembers parts)
    made = lists_made s senses at list are first (omega (arith, here)) child

    open_tag : w.members (tag_of s at) ≡ None
    open_tag = tags_open s senses at list at differ (omega (arith, here)) inside struct child fits

    untaken : list_fits w s f at list ≡ false → IsUntaken s senses at
    untaken e = record {
      list = list;
      child = child;
      parts = made.0;
      made = made.1;
      untaken =
          both_true (is_some (parts_in (f list))) (is_none (w.members (tag_of s at))) (takes (extent w) (is_union s at) true made.0)
          (ap (λ (x : Sense). is_some (parts_in x)) made.1) (ap is_none open_tag)
          (ap (λ (x : Sense). is_some (parts_in (f list)) && (is_none (w.members (tag_of s at)) && takes (extent w) (is_union s at) true (members_in_sense w s f x))) (sym made.1) ∙ e);
    }

    by_list : (b : Bool) → list_fits w s f at list ≡ b → given_if b NotBuilt at (struct_type w s f at (Some list)) ≡ Refuses NotBuilt at → IsUntaken s senses at
    by_list false e h = untaken e
    by_list true e h =
        absurd (small_not (is_small (Some (laid w (is_union s at) (aggregate_type s at) (members_in_sense w s f (f list))))) (IsType (aggregate_type s at)) at h)

  by_child : tag_fits s at ≡ true → (o : Option ℕ) → child_of s p_members at ≡ o → built_type w s f at o ≡ Refuses NotBuilt at → IsUntaken s senses at
  by_child fits None child h = absurd (fits_not (IsType (aggregate_type s at)) at h)
  by_child fits (Some list) child h = by_list fits list child (list_fits w s f at list) refl h

  by_word : tag_fits s at ≡ true → (b : Bool) → agree (is_union s at) (first_is_union s (tag_of s at)) ≡ b
      → given_if b NotBuilt at (built_type w s f at (child_of s p_members at)) ≡ Refuses NotBuilt at → IsOtherKeyword s at ⊎ IsUntaken s senses at
  by_word fits false e h = inl (record { fits = fits; other = e })
  by_word fits true e h = inr (by_child fits (child_of s p_members at) refl h)

  by_tag : (b : Bool) → tag_fits s at ≡ b
      → given_if b Operand (named_tag s at) (given_if (agree (is_union s at) (first_is_union s (tag_of s at))) NotBuilt at (built_type w s f at (child_of s p_members at))) ≡ Refuses NotBuilt at
      → IsOtherKeyword s at ⊎ IsUntaken s senses at
  by_tag false e h = absurd (operand_not (named_tag s at) at h)
  by_tag true e h = by_word e (agree (is_union s at) (first_is_union s (tag_of s at))) refl h

  pub reasons : built_struct w s f at ≡ Refuses NotBuilt at → IsOtherKeyword s at ⊎ IsUntaken s senses at
  reasons h = by_tag (tag_fits s at) refl h

pub untaken_only : OnlyUntaken
untaken_only s senses at are first differ here inside struct h = reasons s senses at are first differ here inside struct h
