-- Down the first members of structures.
use Rattle.std.proofs.Common.{arith, ◌≡◌, ℕ, zero, suc, ◌+◌, ◌-◌, ◌<◌, Bool, true, false, cond, Option, Some, None, IfSome, length, refl, sym, ap, ◌∙◌}
use Rattle.c_types.specs.Trees.{Ctype, PointerTo}
use Rattle.c_types.specs.Table.{type_of}
use Rattle.c_types.specs.declared.term.TypeId.{TypeId}
use Rattle.core_tree.specs.declared.node.Unit.{Unit}
use Rattle.core_tree.specs.declared.node.NodeKind.TheVariants.{Upcast}
use Rattle.c_consts.specs.Core.{Core, over, place_of}
use Rattle.core_nodes.specs.passed.c_senses.World.{World, same_type}
use Rattle.core_nodes.specs.passed.c_senses.Conversions.{first_member_type, upcast_within, upcast}
use Rattle.core_nodes.specs.Standing.{core_at, IsReady, Builds, Knows}
use Rattle.core_nodes.proofs.Growing.{builds_on, knows_on, same_builds}
use Rattle.c_conversions.specs.Targets.{type_seen}

up_none : (w : World) (d : ℕ) (s : Ctype) (v : Core) → upcast_within w d s None v ≡ None
up_none w zero s v = refl
up_none w (suc d) s v = refl

up_same : (w : World) (d : ℕ) (s t : Ctype) (v : Core) → same_type t s ≡ true → upcast_within w (suc d) s (Some t) v ≡ Some (over Upcast (place_of v) (PointerTo t) v)
up_same w d s t v e =
    ap (λ (b : Bool). cond b (Some (over Upcast (place_of v) (PointerTo t) v)) (upcast_within w d s (first_member_type w t) (over Upcast (place_of v) (PointerTo t) v))) e

up_on : (w : World) (d : ℕ) (s t : Ctype) (v : Core) → same_type t s ≡ false → upcast_within w (suc d) s (Some t) v ≡ upcast_within w d s (first_member_type w t) (over Upcast (place_of v) (PointerTo t) v)
up_on w d s t v e =
    ap (λ (b : Bool). cond b (Some (over Upcast (place_of v) (PointerTo t) v)) (upcast_within w d s (first_member_type w t) (over Upcast (place_of v) (PointerTo t) v))) e

module _ (old : Unit) (from sought : TypeId) (node : ℕ) where
  -- so many steps down, with the next member's type and the pointer so far: what is left is the whole
  pub record Going (now : Unit) (step : ℕ) (next : Option TypeId) (value : ℕ) : Type 0 where
    pub ready : IsReady now
    pub builds : Builds old now
    pub within : value < length now.nodes.items
    pub typed : IfSome next (λ t. t.0 < length now.types.terms)
    pub rest : (w : World) → Knows w old → (d : ℕ) → d + step ≡ suc w.tags
        → upcast_within w d (type_of old.types sought.0) (type_seen now.types next) (core_at now value) ≡ upcast w (type_of old.types from.0) (type_of old.types sought.0) (core_at old node)

  pub going_start : (next : Option TypeId) → IsReady old → node < length old.nodes.items → IfSome next (λ t. t.0 < length old.types.terms) → ((w : World) → Knows w old → type_seen old.types next ≡ first_member_type w (type_of old.types from.0)) → Going old 0 next node
  going_start next ready within typed first = record {
    ready = ready;
    builds = same_builds old old refl refl refl;
    within = within;
    typed = typed;
    rest = λ w k d e.
        let all : d ≡ suc w.tags = omega arith in
        ap (λ (n : ℕ). upcast_within w n (type_of old.types sought.0) (type_seen old.types next) (core_at old node)) all
        ∙ ap (λ (o : Option Ctype). upcast_within w (suc w.tags) (type_of old.types sought.0) o (core_at old node)) (first w k);
  }

  module _ (now : Unit) (step value : ℕ) where
    pub going_none : Going now step None value → step < old.types.tags + 1 → (w : World) → Knows w old → upcast w (type_of old.types from.0) (type_of old.types sought.0) (core_at old node) ≡ None
    going_none going lt w k =
        let same : w.tags ≡ old.types.tags = k.tags in
        let e : (suc w.tags - step) + step ≡ suc w.tags = omega arith in
        sym (going.rest w k (suc w.tags - step) e) ∙ up_none w (suc w.tags - step) (type_of old.types sought.0) (core_at now value)

    pub going_ended : (next : Option TypeId) → Going now step next value → step ≡ old.types.tags + 1 → (w : World) → Knows w old → upcast w (type_of old.types from.0) (type_of old.types sought.0) (core_at old node) ≡ None
    going_ended next going end w k =
        let same : w.tags ≡ old.types.tags = k.tags in
        let e : 0 + step ≡ suc w.tags = omega arith in
        sym (going.rest w k 0 e)

    module _ (t : TypeId) (going : Going now step (Some t) value) (later : Unit) (i : ℕ) (builds : Builds now later) (made : core_at later i ≡ over Upcast (place_of (core_at now value)) (PointerTo (type_of now.types t.0)) (core_at now value)) where
      -- types are still what they were
      member_same : type_of later.types t.0 ≡ type_of now.types t.0
      member_same = builds.types t.0 going.typed

      sought_same : sought.0 < length old.types.terms → type_of later.types sought.0 ≡ type_of old.types sought.0
      sought_same lt = let b = builds_on old now later going.builds builds in b.types sought.0 lt

      tested : sought.0 < length old.types.terms → same_type (type_of now.types t.0) (type_of old.types sought.0) ≡ same_type (type_of later.types t.0) (type_of later.types sought.0)
      tested lt = ap (λ (x : Ctype). same_type x (type_of old.types sought.0)) (sym member_same) ∙ ap (λ (x : Ctype). same_type (type_of later.types t.0) x) (sym (sought_same lt))

      pub going_same : sought.0 < length old.types.terms → step < old.types.tags + 1 → same_type (type_of later.types t.0) (type_of later.types sought.0) ≡ true → (w : World) → Knows w old → upcast w (type_of old.types from.0) (type_of old.types sought.0) (core_at old node) ≡ Some (core_at later i)
      going_same lt below is w k =
          let same : w.tags ≡ old.types.tags = k.tags in
          let e : suc (w.tags - step) + step ≡ suc w.tags = omega arith in
          sym (going.rest w k (suc (w.tags - step)) e) ∙ up_same w (w.tags - step) (type_of old.types sought.0) (type_of now.types t.0) (core_at now value) (tested lt ∙ is) ∙ sym (ap Some made)

      pub going_on : sought.0 < length old.types.terms → same_type (type_of later.types t.0) (type_of later.types sought.0) ≡ false → (next : Option TypeId) → IsReady later → i < length later.nodes.items → IfSome next (λ t. t.0 < length later.types.terms) → ((w : World) → Knows w later → type_seen later.types next ≡ first_member_type w (type_of later.types t.0)) → Going later (step + 1) next i
      going_on lt is next ready within typed first = record {
        ready = ready;
        builds = builds_on old now later going.builds builds;
        within = within;
        typed = typed;
        rest = λ w k d e.
            let e' : suc d + step ≡ suc w.tags = omega arith in
            let s = type_of old.types sought.0 in
            let known = knows_on w now later builds (knows_on w old now going.builds k) in
            ap (λ (o : Option Ctype). upcast_within w d s o (core_at later i)) (first w known ∙ ap (λ (x : Ctype). first_member_type w x) member_same)
            ∙ ap (λ (c : Core). upcast_within w d s (first_member_type w (type_of now.types t.0)) c) made
            ∙ sym (up_on w d s (type_of now.types t.0) (core_at now value) (tested lt ∙ is))
            ∙ going.rest w k (suc d) e';
      }
