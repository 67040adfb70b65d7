-- Refusals and want of memory on the way down first members, and lemmas for the table.
use Rattle.std.proofs.Common.{◌≡◌, ℕ, Bool, true, false, Option, None, Err, refl, sym, ap, ◌∙◌, subst}
use Rattle.pta_base.specs.declared.kind.Kind.{Kind}
use Rattle.c_types.specs.Trees.{Ctype}
use Rattle.core_tree.specs.declared.node.Unit.{Unit}
use Rattle.c_consts.specs.Core.{Core}
use Rattle.core_nodes.specs.passed.c_senses.Given.{Given, Refuses}
use Rattle.core_nodes.specs.passed.c_senses.World.{World}
use Rattle.core_nodes.specs.passed.c_senses.Conversions.{Target, from_structure, upcast, upcast_or, pointers}
use Rattle.core_nodes.specs.declared.fault.CheckFault.{CheckFault}
use Rattle.core_nodes.specs.declared.fault.CheckFault.TheVariants.{BadOperand, Unsupported, OutOfMemory}
use Rattle.core_nodes.specs.Standing.{Made}
use Rattle.core_nodes.proofs.Growing.{builds_on, knows_on}
use Rattle.c_conversions.specs.Targets.{UpcastMade, IsRefusal}

-- an error of upcasts is want of memory
pub upcast_fails : (u v : Unit) (e : CheckFault) (c : Option Core) (g : Given Core) → UpcastMade u (Err e) c → Made v (Err e) g
upcast_fails u v (BadOperand n) c g h = absurd h
upcast_fails u v (Unsupported k n) c g h = absurd h
upcast_fails u v OutOfMemory c g h = tt

-- a pointer to a structure without a cast, and one that goes down to no such member
pub structure_stays : (w : World) (cast : Bool) (at : ℕ) (v : Core) (from to : Ctype) (kind : Kind) → cast ≡ false → Refuses kind at ≡ from_structure w cast at v from to kind
structure_stays w true at v from to kind e = cc
structure_stays w false at v from to kind e = refl

pub structure_ends : (w : World) (cast : Bool) (at : ℕ) (v : Core) (from to : Ctype) (kind : Kind) → cast ≡ true → upcast w from to v ≡ None → Refuses kind at ≡ from_structure w cast at v from to kind
structure_ends w true at v from to kind e none = sym (ap (upcast_or at kind) none)
structure_ends w false at v from to kind e none = cc

-- what is seen of two targets decides
pub targets_same : (w : World) (cast : Bool) (at : ℕ) (v : Core) (from to : Ctype) (a b x y : Target) (g : Given Core) → a ≡ x → b ≡ y → g ≡ pointers w cast at v from to a b → g ≡ pointers w cast at v from to x y
targets_same w cast at v from to a b x y g ea eb e = e ∙ (ap (λ (t : Target). pointers w cast at v from to t b) ea ∙ ap (λ (t : Target). pointers w cast at v from to x t) eb)

-- what a refusal says of an equal row
pub refusal_made : (u : Unit) (e : CheckFault) (kind : Kind) (at : ℕ) (g : Given Core) → IsRefusal e kind at → Refuses kind at ≡ g → Made u (Err e) g
refusal_made u e kind at g h same = subst (λ (x : Given Core). Made u (Err e) x) same (h.says u)

pub ruleset conversions = (builds_on, knows_on, upcast_fails, refusal_made)
