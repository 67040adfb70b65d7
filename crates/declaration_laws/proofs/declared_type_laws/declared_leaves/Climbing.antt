-- From a name up to its outermost declarator.
use Rattle.std.proofs.Common.{arith, ◌≡◌, ◌<◌, ◌≤◌, ◌+◌, ◌-◌, nat_eq, ℕ, zero, suc, Bool, true, false, ◌&&◌, not, List, length, Option, Some, None, refl, sym, ap, ◌∙◌}
use Rattle.std.specs.Prelude.{option_and_then, if◌then◌else◌}
use Rattle.std.proofs.lemmas.Bool.{eqb-true, eqb-false}
use Rattle.c_types.specs.Trees.{Ctype}
use Rattle.c_grammar.specs.Terminals.{contains}
use Rattle.pta_base.specs.declared.kind.Kind.TheVariants.{Operand}
use Rattle.c_senses.specs.Tree.{Source, children_at, first_where, numbers_from, parent_of, above_within}
use Rattle.c_senses.specs.Given.{Given, Fits, Refuses}
use Rattle.c_senses.specs.World.{World}
use Rattle.c_senses.specs.Declarators.{is_declarator, is_outermost, outermost_of, specs_of, specified_at, base_type, type_fits, derives_well, name_in, derivations, plain_declarator_row}
use Rattle.c_senses.specs.Entities.{specified}
use Rattle.c_senses.specs.Sense.{Sense, IsDeclarator, IsSpecified, Derivation, Specified, sense_in}
use Rattle.c_senses.specs.Rows.{AreSenses, declarator_row, at_its_name}
use Rattle.parsed_tree_laws.specs.sense_laws.Sound.{Gives}
use Rattle.parsed_tree_laws.proofs.sense_laws.Giving.{then_gives, if_given, and_left}
use Rattle.core_node_laws.proofs.count_laws.passed.parsed_tree_laws.placed_laws.Climbing.{Grown}
use Rattle.core_node_laws.specs.built_unit_laws.run_laws.PassedOn.{IsBrought}
use Rattle.core_node_laws.proofs.built_unit_laws.run_laws.Times.{known_at, world_of, fitted}
use Rattle.declaration_laws.specs.declared_type_laws.declared_leaves.Leaves.{IsNamed, Own, Inner, IsDeclaredBy, LeavesDeclared}
use Rattle.declaration_laws.proofs.declared_type_laws.declared_leaves.Naming.{row_is, sense_named, named_sense}

found_first : (test : ℕ → Bool) (from count p : ℕ) → from ≤ p → p < from + count → test p ≡ true → ((q : ℕ) → test q ≡ true → q ≡ p) → first_where test (numbers_from from count) ≡ Some p
found_first test from zero p low high is only = absurd (omega (arith, low, high))
found_first test from (suc count) p low high is only = by (test from) refl (λ less. found_first test (suc from) count p less (omega (arith, high)) is only)
  where
    apart : (b : Bool) → nat_eq from p ≡ b → test from ≡ false → suc from ≤ p
    apart true same e = let none : false ≡ true = sym e ∙ (ap test (eqb-true from p same) ∙ is) in cc
    apart false other e = let differ = eqb-false from p other in omega (arith, low, differ)

    by : (b : Bool) → test from ≡ b → (suc from ≤ p → first_where test (numbers_from (suc from) count) ≡ Some p) → (if b then Some from else first_where test (numbers_from (suc from) count)) ≡ Some p
    by true e later = ap Some (only from e)
    by false e later = later (apart (nat_eq from p) refl e)

module _ (s : Source) (grown : Grown s) where
  parent_is : (p c : ℕ) → contains (children_at s p) c ≡ true → parent_of s c ≡ Some p
  parent_is p c h =
      let inside : p < length s.nodes = grown.within p c h in
      found_first (λ q. contains (children_at s q) c) 0 (length s.nodes) p (omega arith) (omega (arith, inside)) h (λ q e. grown.once q p c e h)

  abbrev Test : ℕ → Bool
  Test = is_outermost s

  -- a declarator within another one isn't outermost
  within_not : (m c : ℕ) → contains (children_at s m) c ≡ true → is_declarator s m ≡ true → is_outermost s c ≡ false
  within_not m c h is = by (is_declarator s c) (ap (λ (o : Option ℕ). elim o as (λ _. Bool) [ None ↦ true | Some p ↦ not (is_declarator s p) ]) (parent_is m c h) ∙ ap not is)
    where
      by : (b : Bool) → (elim (parent_of s c) as (λ _. Bool) [ None ↦ true | Some p ↦ not (is_declarator s p) ]) ≡ false → (b && (elim (parent_of s c) as (λ _. Bool) [ None ↦ true | Some p ↦ not (is_declarator s p) ])) ≡ false
      by true e = e
      by false e = refl

  -- so many levels lead from the name to the declarator
  record Climbs (m leaf : ℕ) : Type 0 where
    levels : ℕ
    few : levels + leaf < m
    reaches : (more : ℕ) → above_within s Test (levels + more) (parent_of s leaf) ≡ above_within s Test more (Some m)

  climbs : (m leaf : ℕ) → IsNamed s m leaf → is_declarator s m ≡ true → Climbs m leaf
  climbs m leaf (Own k named) is =
      let before : leaf < m = grown.before m leaf k in
      record { levels = 0; few = omega (arith, before); reaches = λ more. ap (λ (n : ℕ). above_within s Test n (parent_of s leaf)) (let z : 0 + more ≡ more = omega arith in z) ∙ ap (above_within s Test more) (parent_is m leaf k) }
  climbs m leaf (Inner c k inner named) is =
      let up = climbs c leaf named inner in
      let before : c < m = grown.before m c k in
      let few : up.levels + leaf < c = up.few in
      record {
        levels = suc up.levels;
        few = omega (arith, before, few);
        reaches = λ more.
            ap (λ (n : ℕ). above_within s Test n (parent_of s leaf)) (let z : suc up.levels + more ≡ up.levels + suc more = omega arith in z)
            ∙ (up.reaches (suc more)
            ∙ (ap (λ (b : Bool). if b then Some c else above_within s Test more (parent_of s c)) (within_not m c k is) ∙ ap (above_within s Test more) (parent_is m c k)));
      }

  pub outermost_is : (m leaf : ℕ) → IsNamed s m leaf → m < length s.nodes → is_outermost s m ≡ true → outermost_of s leaf ≡ Some m
  outermost_is m leaf named inside is =
      let up = climbs m leaf named (and_left (is_declarator s m) _ is) in
      let few : up.levels + leaf < m = up.few in
      let rest : ℕ = length s.nodes - suc up.levels in
      ap (λ (n : ℕ). above_within s Test n (parent_of s leaf)) (let z : length s.nodes ≡ up.levels + suc rest = omega (arith, few, inside) in z)
      ∙ (up.reaches (suc rest) ∙ ap (λ (b : Bool). if b then Some m else above_within s Test rest (parent_of s m)) is)

module _ (s : Source) (senses : List Sense) (are : AreSenses s senses) (grown : Grown s) (brought : IsBrought s) where
  -- the specifiers of an outermost declarator are known at it
  told_by : (f : ℕ → Sense) (o : Option ℕ) (w : World) (x : Ctype) → specified_at w s f o ≡ Some x → (z : Specified) × (specified s f o ≡ Some z)
  told_by f None w x e = cc
  told_by f (Some i) w x e = by (f i) e
    where
      by : (y : Sense) → (elim y as (λ _. Option Ctype) [ IsSpecified z ↦ Some z.type | _ ↦ None ]) ≡ Some x → (z : Specified) × ((elim y as (λ _. Option Specified) [ IsSpecified u ↦ Some u | _ ↦ None ]) ≡ Some z)
      by (IsSpecified z) h = (z, refl)
      by y h = cc

  pub told_at : (m : ℕ) → m < length senses → is_outermost s m ≡ true → (z : Specified) × (specified s (known_at s senses m) (specs_of s m) ≡ Some z)
  told_at m lt is =
      let w : World = world_of s senses m in
      let f : ℕ → Sense = known_at s senses m in
      let ds : List Derivation = derivations w s f (children_at s m) in
      let T : Type 0 = (z : Specified) × (specified s f (specs_of s m) ≡ Some z) in
      let from_base : (o : Option Ctype) → base_type w s f m ≡ o → (elim o as (λ _. Bool) [ None ↦ false | Some base ↦ type_fits w s f base ds ]) ≡ true → T = λ o e h. elim o as (λ q. base_type w s f m ≡ q → (elim q as (λ _. Bool) [ None ↦ false | Some base ↦ type_fits w s f base ds ]) ≡ true → T) [
        | None ↦ λ e h. absurd (let g : false ≡ true = h in cc)
        | Some base ↦ λ e h. told_by f (specs_of s m) w base e
      ] e h in
      let well : derives_well w s f m ds ≡ true → T = λ h. from_base (base_type w s f m) refl (sym (ap (λ (b : Bool). if b then (elim (base_type w s f m) as (λ _. Bool) [ None ↦ false | Some base ↦ type_fits w s f base ds ]) else true) is) ∙ h) in
      fitted (λ x. T) (declarator_row w s f m (children_at s m)) (sense_in senses m) (row_is s senses are grown brought m lt (and_left (is_declarator s m) _ is))
      (then_gives (λ x. T) (λ x. T) (plain_declarator_row w s f m (children_at s m)) (λ x. at_its_name w s f m (Fits x) (base_type w s f m) x)
      (if_given (λ x. T) (derives_well w s f m ds) Operand m (Fits (IsDeclarator (name_in w s f (children_at s m)) ds)) (λ h. well h)) (λ x k. always k (at_its_name w s f m (Fits x) (base_type w s f m) x)))
    where
      always : {A B : Type 0} → A → (g : Given B) → Gives (λ x. A) g
      always a (Fits x) = a
      always a (Refuses kind node) = tt

  declared_by : (m leaf : ℕ) (ds : List Derivation) → m < length senses → is_outermost s m ≡ true → IsNamed s m leaf → sense_in senses m ≡ IsDeclarator (Some leaf) ds → IsDeclaredBy s senses m leaf
  declared_by m leaf ds lt is named sense =
      let inside : m < length s.nodes = (let k = are.within in omega (arith, k, lt)) in
      let up : outermost_of s leaf ≡ Some m = outermost_is s grown m leaf named inside is in
      let told = told_at m lt is in
      record { named = named; derives = ds; is = sense; outermost = up; words = told.0; told = ap (λ (o : Option ℕ). specified s (known_at s senses m) (option_and_then (specs_of s) o)) up ∙ told.1 }

pub leaves_declared : LeavesDeclared
leaves_declared = record {
  by_tree = λ s senses are grown brought m leaf lt is named.
      declared_by s senses are grown brought m leaf _ lt is named (named_sense s senses are grown brought m leaf named lt (and_left (is_declarator s m) _ is));
  by_sense = λ s senses are grown brought m leaf ds lt is sense.
      declared_by s senses are grown brought m leaf ds lt is (sense_named s senses are grown brought m leaf ds lt (and_left (is_declarator s m) _ is) sense) sense;
}
