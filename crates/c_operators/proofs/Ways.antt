-- Steps on the way to a member.
use Rattle.std.proofs.Common.{arith, ◌≡◌, ℕ, suc, ◌+◌, ◌<◌, Bool, true, false, ◌&&◌, not, cond, Option, Some, None, List, ◌∷◌, length, get_or, drop, drop-cons, Ok, Err, refl, sym, ap, ◌∙◌}
use Rattle.pta_base.specs.declared.kind.Kind.TheVariants.{Operand, FlexibleMember, ArrayOfValue}
use Rattle.pta_base.specs.declared.place.Place.{Place}
use Rattle.core_tree.specs.declared.node.Unit.{Unit}
use Rattle.core_tree.specs.declared.node.NodeKind.TheVariants.{Deref}
use Rattle.std.specs.Prelude.{is_some}
use Rattle.c_types.specs.Trees.{Ctype, VoidType, BoolType, IntegerType, FloatingType, VaListType, PointerTo, ArrayOf, FunctionFrom, StructureOf, UnionOf}
use Rattle.c_inits.specs.Made.{Part}
use Rattle.c_consts.specs.Core.{Core, ctype_of, core_sort, over}
use Rattle.c_senses.specs.Given.{Given, Fits, Refuses, given_if, given_some, ◌>>=◌}
use Rattle.c_senses.specs.World.{World, members_of}
use Rattle.c_senses.specs.Conversions.{typed}
use Rattle.c_senses.specs.Objects.{lacks_length, is_array, is_place_sort, member_node, member_step, part_at, along, member_row}
use Rattle.core_nodes.specs.Standing.{core_at, Knows, Made}
use Rattle.core_nodes.specs.declared.fault.CheckFault.{CheckFault}
use Rattle.core_nodes.proofs.Failing.{made_same, fails}
use Rattle.c_operators.specs.c_members.Worlds.{IsWorldOf}
use Rattle.c_operators.specs.c_members.Steps.{member_refusal, unless_refused}
use Rattle.c_operators.specs.Members.{stepped, pointed}

pub world_is : (w : World) (u : Unit) → Knows w u → IsWorldOf w u.types
world_is w u k = record { members = k.members; tags = k.tags }

refused_by : (t : Ctype) (b : Bool) (at : ℕ) (x : Core) → cond (lacks_length t) (Refuses FlexibleMember at) (cond (is_array t && not b) (Refuses ArrayOfValue at) (typed at t (Fits x))) ≡ unless_refused (member_refusal t b) at x
refused_by VoidType b at x = refl
refused_by BoolType b at x = refl
refused_by (IntegerType size rank signed) b at x = refl
refused_by FloatingType b at x = refl
refused_by VaListType b at x = refl
refused_by (PointerTo to) b at x = refl
refused_by (ArrayOf of None) b at x = refl
refused_by (ArrayOf of (Some n)) true at x = refl
refused_by (ArrayOf of (Some n)) false at x = refl
refused_by (FunctionFrom r ps f) b at x = refl
refused_by (StructureOf tag) b at x = refl
refused_by (UnionOf tag) b at x = refl

step_is : (place : Place) (at : ℕ) (c : Core) (k : ℕ) (m : Part) → member_step place at c k m ≡ unless_refused (member_refusal m.type (is_place_sort (core_sort c))) at (member_node place k c m.type (core_sort c))
step_is place at c k m = refused_by m.type (is_place_sort (core_sort c)) at (member_node place k c m.type (core_sort c))

-- a member that is there is stepped to
pub stepped_is : (w : World) (place : Place) (at : ℕ) (c : Core) (k : ℕ) (t : Ctype) (m : Part) → t ≡ ctype_of c → part_at (members_of w t) k ≡ Some m → unless_refused (member_refusal m.type (is_place_sort (core_sort c))) at (member_node place k c m.type (core_sort c)) ≡ stepped w place at c k
stepped_is w place at c k t m et em =
    sym (ap (λ (o : Option Part). given_some o Operand at >>= (λ p. member_step place at c k p)) (ap (λ (x : Ctype). part_at (members_of w x) k) (sym et) ∙ em) ∙ step_is place at c k m)

-- one member more on a way
module _ (w : World) (place : Place) (at : ℕ) (way : List ℕ) (i : ℕ) (within : i < length way) (c : Core) where
  way_here : (stepped w place at c (get_or way i 0) >>= along w place at (drop (i + 1) way)) ≡ along w place at (drop i way) c
  way_here =
      let e : suc i ≡ i + 1 = omega arith in
      let rest : drop i way ≡ get_or way i 0 ∷ drop (i + 1) way = drop-cons way i 0 within ∙ ap (λ (j : ℕ). get_or way i 0 ∷ drop j way) e in
      bind_twice (given_some (part_at (members_of w (ctype_of c)) (get_or way i 0)) Operand at) (λ m. member_step place at c (get_or way i 0) m) (along w place at (drop (i + 1) way)) ∙ sym (ap (λ (r : List ℕ). along w place at r c) rest)
    where
      bind_twice : (g : Given Part) (f : Part → Given Core) (h : Core → Given Core) → ((g >>= f) >>= h) ≡ (g >>= (λ x. f x >>= h))
      bind_twice (Fits x) f h = refl
      bind_twice (Refuses kind node) f h = refl

  pub way_goes_on : (u : Unit) (node : ℕ) → Made u (Ok node) (stepped w place at c (get_or way i 0)) → along w place at (drop i way) c ≡ along w place at (drop (i + 1) way) (core_at u node)
  way_goes_on u node m = sym way_here ∙ ap (λ (g : Given Core). g >>= along w place at (drop (i + 1) way)) m

  pub way_fails : (u : Unit) (fault : CheckFault) → Made u (Err fault) (stepped w place at c (get_or way i 0)) → Made u (Err fault) (along w place at (drop i way) c)
  way_fails u fault m =
      made_same u (Err fault) _ _ way_here (fails u u fault (stepped w place at c (get_or way i 0)) (along w place at (drop (i + 1) way)) m)

-- a member of what a pointer to a complete structure or union points to
pub pointed_is : (w : World) (place : Place) (at : ℕ) (name : List ℕ) (v d : Core) (to : Ctype) → true ≡ is_some (members_of w to) → d ≡ over Deref place to v → member_row w place at name d ≡ pointed w place at name v to
pointed_is w place at name v d to e ed =
    ap (λ (c : Core). member_row w place at name c) ed ∙ ap (λ (b : Bool). given_if b Operand at (member_row w place at name (over Deref place to v))) e
