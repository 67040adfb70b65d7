-- The bodies of what is declared.
use Rattle.std.specs.Prelude.{ℕ, List, Option, Some, None, if◌then◌else◌}
use Rattle.c_consts.specs.Core.{Core}
use Rattle.c_senses.specs.Tree.{Source}
use Rattle.c_senses.specs.Sense.{Sense, IsCore, IsInitial, sense_in}
use Rattle.c_senses.specs.Entities.{is_defined, initialiser_for}
use Rattle.c_senses.specs.Right.{block_for}

-- the tree of a block or of an initialiser
abbrev pub core_of : Sense → Option Core
core_of (IsCore c) = Some c
core_of (IsInitial c n) = Some c
core_of x = None

-- the node that makes the body
abbrev pub place_of_body : Source → List Sense → ℕ → Option ℕ
place_of_body s senses leaf =
    if is_defined s (sense_in senses) leaf then block_for s senses leaf
    else initialiser_for s (sense_in senses) leaf
