-- Specifiers of one tag have one keyword (C11 6.7.2.3p2).
use Rattle.std.specs.Prelude.{ℕ, ◌≡◌, ◌<◌, true, List, length}
use Rattle.pta_base.specs.declared.kind.Kind.TheVariants.{NotBuilt}
use Rattle.c_grammar.specs.Productions.{p_struct}
use Rattle.parsed_tree_laws.specs.family_laws.Families.{Families}
use Rattle.c_senses.specs.Tree.{Source, is_a}
use Rattle.c_senses.specs.Given.{Refuses}
use Rattle.c_senses.specs.Sense.{Sense, sense_in}
use Rattle.c_senses.specs.Right.{TagsDiffer}
use Rattle.c_senses.specs.Rows.{world_at, AreSenses}
use Rattle.parsed_tree_laws.specs.sense_laws.Senses.{ChildrenFirst}
use Rattle.struct_rows.specs.Built.{built_struct}
use Rattle.limit_laws.specs.struct_laws.Untaken.{IsOtherKeyword, IsUntaken}

-- where the rows before a specifier fit, it hasn't another keyword than the first one of its tag
abbrev pub NoOtherKeyword : Type 0
NoOtherKeyword =
    (s : Source) (senses : List Sense) (at : ℕ) → AreSenses s senses → TagsDiffer s → Families s
    → at ≡ length senses → at < length s.nodes → is_a s p_struct at ≡ true → IsOtherKeyword s at → ⊥

-- so there is one reason alone
abbrev pub UntakenAlone : Type 0
UntakenAlone =
    (s : Source) (senses : List Sense) (at : ℕ) → AreSenses s senses → ChildrenFirst s → TagsDiffer s → Families s
    → at ≡ length senses → at < length s.nodes → is_a s p_struct at ≡ true
    → built_struct (world_at s senses at) s (sense_in senses) at ≡ Refuses NotBuilt at → IsUntaken s senses at

-- and that one never comes
abbrev pub NeverUnbuilt : Type 0
NeverUnbuilt =
    (s : Source) (senses : List Sense) (at : ℕ) → AreSenses s senses → ChildrenFirst s → TagsDiffer s → Families s
    → at ≡ length senses → at < length s.nodes → is_a s p_struct at ≡ true
    → built_struct (world_at s senses at) s (sense_in senses) at ≡ Refuses NotBuilt at → ⊥
