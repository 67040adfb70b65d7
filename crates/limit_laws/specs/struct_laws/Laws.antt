-- What the rows before a specifier say of its tag and of its list of members.
use Rattle.std.specs.Prelude.{ℕ, ◌≡◌, ◌<◌, ◌≤◌, true, List, Some, None, length}
use Rattle.c_grammar.specs.Productions.{p_struct, p_members}
use Rattle.c_inits.specs.Made.{Part}
use Rattle.c_senses.specs.Tree.{Source, is_a, child_of}
use Rattle.c_senses.specs.Sense.{Sense, IsMembers, sense_in}
use Rattle.c_senses.specs.Tags.{tag_of, tag_fits}
use Rattle.c_senses.specs.Right.{TagsDiffer}
use Rattle.c_senses.specs.Rows.{world_at, AreSenses}
use Rattle.parsed_tree_laws.specs.sense_laws.Senses.{ChildrenFirst}

-- the tag of a specifier with a list, which fits, has no members before it
abbrev pub TagsStayOpen : Type 0
TagsStayOpen =
    (s : Source) (senses : List Sense) (at list i : ℕ)
    → TagsDiffer s
    → length senses ≤ at
    → at < length s.nodes
    → is_a s p_struct at ≡ true
    → child_of s p_members at ≡ Some list
    → tag_fits s at ≡ true
    → (world_at s senses i).members (tag_of s at) ≡ None

-- a list of members is one
abbrev pub ListsAreMade : Type 0
ListsAreMade =
    (s : Source) (senses : List Sense) (at list : ℕ) → AreSenses s senses → ChildrenFirst s → at ≤ length senses
    → child_of s p_members at ≡ Some list → (parts : List Part) × (sense_in senses list ≡ IsMembers parts)
