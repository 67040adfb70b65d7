-- Why it may be said of a specifier whose tag fits that what stands there isn't built.
use Rattle.std.specs.Prelude.{ℕ, ◌≡◌, ◌<◌, true, false, List, Some, length, ◌⊎◌}
use Rattle.pta_base.specs.declared.kind.Kind.TheVariants.{NotBuilt}
use Rattle.c_grammar.specs.Productions.{p_struct, p_members}
use Rattle.c_inits.specs.Made.{Part}
use Rattle.c_senses.specs.Tree.{Source, is_a, child_of}
use Rattle.c_senses.specs.World.{extent}
use Rattle.c_senses.specs.Given.{Refuses}
use Rattle.c_senses.specs.Sense.{Sense, IsMembers, sense_in}
use Rattle.c_senses.specs.Tags.{is_union, tag_of, tag_fits}
use Rattle.c_senses.specs.Right.{TagsDiffer}
use Rattle.c_senses.specs.Rows.{world_at, AreSenses}
use Rattle.parsed_tree_laws.specs.sense_laws.Senses.{ChildrenFirst}
use Rattle.struct_rows.specs.Built.{agree, first_is_union, built_struct}
use Rattle.struct_rows.specs.Taken.{takes}

-- one of the words `struct` and `union`, and the first specifier of its tag has the other
pub record IsOtherKeyword (s : Source) (at : ℕ) : Type 0 where
  pub fits : tag_fits s at ≡ true
  pub other : agree (is_union s at) (first_is_union s (tag_of s at)) ≡ false

-- its members, all of whose rows fit, may not stand in their places
pub record IsUntaken (s : Source) (senses : List Sense) (at : ℕ) : Type 0 where
  pub list : ℕ
  pub child : child_of s p_members at ≡ Some list
  pub parts : List Part
  pub made : sense_in senses list ≡ IsMembers parts
  pub untaken : takes (extent (world_at s senses at)) (is_union s at) true parts ≡ false

-- there is no other reason
abbrev pub OnlyUntaken : Type 0
OnlyUntaken =
    (s : Source) (senses : List Sense) (at : ℕ) → AreSenses s senses → ChildrenFirst s → TagsDiffer s
    → at ≡ length senses → at < length s.nodes → is_a s p_struct at ≡ true
    → built_struct (world_at s senses at) s (sense_in senses) at ≡ Refuses NotBuilt at
    → IsOtherKeyword s at ⊎ IsUntaken s senses at
