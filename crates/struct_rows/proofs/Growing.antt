-- How a unit grows by the row of a structure or union.
use Rattle.std.proofs.Common.{arith, ◌≡◌, ℕ, Bool, true, cond, List, [], ◌∷◌, Option, Some, None, refl, sym, ap, ◌∙◌, subst}
use Rattle.c_grammar.specs.Productions.{p_struct, p_members}
use Rattle.core_tree.specs.declared.node.Unit.{Unit}
use Rattle.c_inits.specs.Made.{Part, TagParts}
use Rattle.c_senses.specs.Tree.{Source, is_a, child_of}
use Rattle.c_senses.specs.Sense.{Sense, IsMembers}
use Rattle.c_senses.specs.Tags.{tag_of}
use Rattle.core_nodes.specs.Standing.{Builds}
use Rattle.unit_worlds.specs.Growing as growing
use Rattle.unit_worlds.specs.Growing.{completed_at, Grows}
use Rattle.struct_rows.specs.Completes.{Completes}
use Rattle.struct_rows.specs.Standing.{CompletesBy}
use Rattle.struct_rows.specs.Built.{HasTagTypes}
use Rattle.struct_rows.proofs.Building.{tag_types_on}

pub builds_same : (u : Unit) → Builds u u
builds_same u = record {
  more = omega arith;
  cores = λ i h. refl;
  terms = omega arith;
  types = λ id h. refl;
  tags = refl;
  parts = λ tag. refl;
  extents = λ t. refl;
  entities = refl;
  once = λ h. h;
}

completes_on : (old new : Unit) (tag : ℕ) (ps : List Part) → Completes old new tag ps → growing.Completes old new tag ps
completes_on old new tag ps c = record {
  more = omega (arith, c.nodes);
  cores = λ i h. c.cores i;
  terms = omega (arith, c.terms);
  types = λ id h. c.types id;
  tags = c.tags;
  entities = c.entities;
  was_open = c.was_open;
  members = c.parts_are;
  look = c.look;
  once = λ h. record {
    each = λ i j first second e. h.each i j (omega (arith, first, c.terms)) (omega (arith, second, c.terms)) (sym (c.types i) ∙ (e ∙ c.types j));
  };
}

module _ (s : Source) (sense : ℕ → Sense) (at : ℕ) (old new : Unit) where
  abbrev completed_by : Option ℕ → List TagParts
  completed_by o = elim o [ None ↦ [] | Some list ↦ elim (sense list) [ IsMembers ps ↦ record { tag = tag_of s at; members = ps } ∷ [] | _ ↦ [] ] ]

  completed_is : (o : Option ℕ) → child_of s p_members at ≡ o → is_a s p_struct at ≡ true → completed_at s sense at ≡ completed_by o
  completed_is o e is =
      ap (λ (b : Bool). completed_by (cond b (child_of s p_members at) None)) is ∙ ap completed_by e

  pub grows_alone : is_a s p_struct at ≡ true → child_of s p_members at ≡ None → Builds old new → Grows old new (completed_at s sense at)
  grows_alone is e b = subst (Grows old new) (sym (completed_is None e is)) b

  pub grows_listed : (list number : ℕ) → is_a s p_struct at ≡ true → child_of s p_members at ≡ Some list → number ≡ tag_of s at → CompletesBy old new number (sense list) → Grows old new (completed_at s sense at)
  grows_listed list number is e en c =
      let at_list : completed_by (Some list) ≡ record { tag = tag_of s at; members = c.parts } ∷ [] =
      ap (λ (x : Sense). elim x as (λ y. List TagParts) [ IsMembers ps ↦ record { tag = tag_of s at; members = ps } ∷ [] | _ ↦ [] ]) c.made_are in
      let done : growing.Completes old new (tag_of s at) c.parts = subst (λ (n : ℕ). growing.Completes old new n c.parts) en (completes_on old new number c.parts c.completes) in
      subst (Grows old new) (sym (completed_is (Some list) e is ∙ at_list)) done

-- types of tags stay
pub tag_types_grow : (s : Source) (old new : Unit) (completed : List TagParts) → Grows old new completed → HasTagTypes s old.types → HasTagTypes s new.types
tag_types_grow s old new [] g h = tag_types_on s old.types new.types g.types g.terms h
tag_types_grow s old new (c ∷ rest) g h = tag_types_on s old.types new.types g.types g.terms h
