-- The least place at which an entity is named.
use Rattle.std.specs.Prelude.{ℕ, ◌==◌, ◌&&◌, ◌||◌, Bool, false, nat_lt, List, [], ◌∷◌, Option, Some, None}
use Rattle.std.specs.Prelude.{if◌then◌else◌}
use Rattle.pta_base.specs.declared.place.Place.{Place}
use Rattle.core_tree.specs.declared.node.Node.{Node}
use Rattle.core_tree.specs.declared.node.NodeKind.{NodeKind}
use Rattle.core_tree.specs.declared.node.NodeKind.TheVariants.{Named, FunctionName}

-- the entity that a kind uses by its name
abbrev pub used_by : NodeKind → Option ℕ
used_by (Named e) = Some e
used_by (FunctionName e) = Some e
used_by kind = None

abbrev pub is_use : Option ℕ → ℕ → Bool
is_use None e = false
is_use (Some o) e = o == e

-- places by unit, line and column
abbrev pub is_before : Place → Place → Bool
is_before p q =
    nat_lt p.unit q.unit
    || ((p.unit == q.unit) && (nat_lt p.line q.line || ((p.line == q.line) && nat_lt p.column q.column)))

abbrev pub earlier : Option Place → Place → Option Place
earlier None q = Some q
earlier (Some p) q = if is_before q p then Some q else Some p

-- the least of a place and those of the uses among nodes
abbrev pub least_use : Option Place → ℕ → List Node → Option Place
least_use so_far e [] = so_far
least_use so_far e (x ∷ rest) =
    if is_use (used_by x.kind) e then least_use (earlier so_far x.place) e rest else least_use so_far e rest
