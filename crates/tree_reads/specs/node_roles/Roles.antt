-- What nodes are to the tags of a unit.
use Rattle.std.specs.Prelude.{ℕ, ◌≡◌, Bool, ◌&&◌, ◌||◌, List, get_or, if◌then◌else◌}
use Rattle.c_grammar.specs.Productions.{p_struct, p_member, p_enum, p_suffix, p_block}
use Rattle.c_grammar.specs.Words.{sign_left_parenthesis}
use Rattle.c_senses.specs.Tree.{Source, is_a, has_sign, any_where, children_at}
use Rattle.tree_reads.specs.declared.node_roles.roles.Role.{Role}
use Rattle.tree_reads.specs.declared.node_roles.roles.Role.TheVariants.{Structure, Enumeration, Member, Boundary}
use Rattle.tree_reads.specs.declared.node_roles.roles.Role.TheVariants.{Other}

-- a block, or a suffix that is a parameter list
abbrev pub is_boundary : Source → ℕ → Bool
is_boundary s i =
    is_a s p_block i || (is_a s p_suffix i && any_where (has_sign s sign_left_parenthesis) (children_at s i))

-- what a node is, by the four questions
abbrev pub role_by : Bool → Bool → Bool → Bool → Role
role_by structure enumeration member boundary =
    if structure then Structure
    else
    (if enumeration then Enumeration
    else (if member then Member else (if boundary then Boundary else Other)))

abbrev pub role_at : Source → ℕ → Role
role_at s i = role_by (is_a s p_struct i) (is_a s p_enum i) (is_a s p_member i) (is_boundary s i)

-- what each node is, and nothing for another number
abbrev pub AreRoles : Source → List Role → Type 0
AreRoles s roles = (i : ℕ) → get_or roles i Other ≡ role_at s i
