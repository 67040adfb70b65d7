-- Units that gain entities.
use Rattle.std.proofs.Common.{arith, ◌≡◌, ◌∙◌, ℕ, ◌<◌, ◌≤◌, inl, inr, List, [], All, take, length, get_or, slice_get, Option, Some, is_some, refl, sym, ap, subst}
use Rattle.std.proofs.Math.Seq.{take-length}
use Rattle.std.proofs.lemmas.Option.{slice_get_within, slice_get_cases, get_or_from_slice_get}
use Rattle.c_types.specs.Trees.{Ctype}
use Rattle.c_types.specs.Table.{Table, type_of, members_in, extent_in}
use Rattle.c_inits.specs.Made.{Part}
use Rattle.c_consts.specs.Core.{Core}
use Rattle.core_tree.specs.declared.node.Entity.{Entity}
use Rattle.core_tree.specs.declared.node.Node.{Node}
use Rattle.core_tree.specs.declared.node.Unit.{Unit}
use Rattle.core_tree.specs.Typed.{trees_of}
use Rattle.core_tree.specs.Range.{child_in, Under, here, below}
use Rattle.core_nodes.specs.Standing.{core_at, cores_of, cores_grown, no_core, parts_in}
use Rattle.core_nodes.specs.kept_nodes.Keeps.{AllUnder}
use Rattle.carried_trees.specs.Literals.{AreLiterals, IsTree}
use Rattle.carried_trees.specs.Extends.{parts_at, Extends, IsWhole}
use Rattle.c_check.specs.Expressed.{Grows}

pub extends_grows : (a b : Unit) → Extends a b → Grows a b
extends_grows a b e = record {
  more = e.more;
  cores = e.cores;
  terms = e.terms;
  types = e.types;
  tags = e.tags;
  parts = e.parts;
  extents = e.extents;
  entities = ap (take (length a.entities.items)) e.entities ∙ take-length a.entities.items;
}

pub grows_self : (u : Unit) → Grows u u
grows_self u = record {
  more = omega arith;
  cores = λ i h. refl;
  terms = omega arith;
  types = λ id h. refl;
  tags = omega arith;
  parts = λ tag parts h. h;
  extents = λ t e h. h;
  entities = take-length u.entities.items;
}

-- the same nodes and types, with other entities
module _ (u v : Unit) (types : v.types ≡ u.types) (nodes : v.nodes.items ≡ u.nodes.items) where
  core_kept : (i : ℕ) → core_at v i ≡ core_at u i
  unfolding core_at cores_of
  core_kept i = ap (λ (cs : List Core). get_or cs i no_core) (ap (λ (t : Table). cores_grown t [] v.nodes.items) types ∙ ap (λ (ns : List Node). cores_grown u.types [] ns) nodes)

  parts_kept : (tag : ℕ) → parts_at v tag ≡ parts_at u tag
  parts_kept tag = ap (λ (t : Table). parts_in t (members_in t tag)) types

  pub grows_on : (a : Unit) → Extends a u → take (length u.entities.items) v.entities.items ≡ u.entities.items → Grows a v
  grows_on a e kept = record {
    more = let long = ap length nodes in omega (arith, e.more, long);
    cores = λ i h. core_kept i ∙ e.cores i h;
    terms = subst (λ (t : Table). length a.types.terms ≤ length t.terms) (sym types) e.terms;
    types = λ id h. ap (λ (t : Table). type_of t id) types ∙ e.types id h;
    tags = subst (λ (t : Table). a.types.tags ≤ t.tags) (sym types) e.tags;
    parts = λ tag parts h. parts_kept tag ∙ e.parts tag parts h;
    extents = λ t x h. ap (λ (table : Table). extent_in table t) types ∙ e.extents t x h;
    entities = subst (λ (l : List Entity). take (length l) v.entities.items ≡ l) e.entities kept;
  }

  child_kept : (n p k : ℕ) → child_in (slice_get u.nodes.items p) k ≡ Some n → child_in (slice_get v.nodes.items p) k ≡ Some n
  child_kept n p k h = ap (λ (l : List Node). child_in (slice_get l p) k) nodes ∙ h

  under_kept : (top n : ℕ) → Under (trees_of u) top n → Under (trees_of v) top n
  under_kept top n here = here
  under_kept top n (below {parent} {child} under child_of) = below (under_kept top parent under) (child_of.0, child_kept child parent child_of.0 child_of.1)

  pub all_under_kept : (from top : ℕ) → AllUnder u from top → AllUnder v from top
  all_under_kept from top all n ge lt = let long = ap length nodes in under_kept top n (all n ge (omega (arith, lt, long)))

  literals_kept : (core : Core) (from first : ℕ) (list : List (ℕ × ℕ)) → AreLiterals core from first u list → AreLiterals core from first v list
  literals_kept core from first list h = record {
    own = h.own;
    once = h.once;
    nodes = λ k l at. let n = h.nodes k l at in record { behind = n.behind; node = n.node; there = ap (λ (ns : List Node). slice_get ns l.1) nodes ∙ n.there; kind = n.kind };
    rising = h.rising;
  }

  tree_kept : (entity : ℕ → Option ℕ) (tag : ℕ → Option Ctype) (core : Core) (old : Unit) (i : ℕ) (list : List (ℕ × ℕ)) → IsTree entity tag core old u i list → IsTree entity tag core old v i list
  tree_kept entity tag core old i list t = record {
    given = t.given;
    carried = core_kept i ∙ t.carried;
    literals = literals_kept core (length old.nodes.items) (length old.entities.items) list t.literals;
  }

  pub whole_kept : (entity : ℕ → Option ℕ) (tag : ℕ → Option Ctype) (members : ℕ → Option (List Part)) (core : Core) (old : Unit) (i : ℕ) (list : List (ℕ × ℕ)) → IsWhole entity tag members core old u i list → IsWhole entity tag members core old v i list
  whole_kept entity tag members core old i list w = record {
    tree = tree_kept entity tag core old i list w.tree;
    filled = record {
      complete = λ k number is some. ap is_some (parts_kept number) ∙ w.filled.complete k number is some;
      added = λ number parts at. w.filled.added number parts (sym (parts_kept number) ∙ at);
    };
  }

-- the nodes of compound literals are there
all_by : (P : ℕ × ℕ → Type 0) (xs : List (ℕ × ℕ)) → ((k : ℕ) (l : ℕ × ℕ) → slice_get xs k ≡ Some l → P l) → All P xs
all_by P xs f = λ k d lt. elim (slice_get_cases xs k).1 [
  | inl p ↦ subst P (sym (get_or_from_slice_get xs k p.0 d p.2)) (f k p.0 p.2)
  | inr q ↦ absurd (omega (arith, q.0, lt))
]

pub nodes_there : (core : Core) (from first : ℕ) (u : Unit) (list : List (ℕ × ℕ)) → AreLiterals core from first u list → All (λ l. l.1 < length u.nodes.items) list
nodes_there core from first u list h = all_by (λ l. l.1 < length u.nodes.items) list (λ k l at. let n = h.nodes k l at in slice_get_within u.nodes.items l.1 n.node n.there)
