-- From the top of a body down to an initialiser.
use Rattle.std.proofs.Common.{◌≡◌, ◌∙◌, ℕ, zero, suc, Bool, true, false, List, Option, Some, None, refl, sym, ap, subst, ◌⊎◌, inl, inr}
use Rattle.std.specs.Prelude.{⊤, option_map, option_and_then, if◌then◌else◌}
use Rattle.c_types.specs.Trees.{Ctype}
use Rattle.core_tree.specs.declared.node.NodeKind.{NodeKind}
use Rattle.core_tree.specs.declared.node.NodeKind.TheVariants.{Literal, Initialise}
use Rattle.core_tree.specs.Rows.{InitialisesEntity}
use Rattle.c_consts.specs.Core.{Core, Cores, Of, NoCores, MoreCores, kind_of, cores_under, core_in}
use Rattle.c_inits.specs.Shapes.{Path}
use Rattle.c_senses.specs.Tree.{Source}
use Rattle.c_senses.specs.Entities.{is_defined, initialiser_for}
use Rattle.c_senses.specs.Right.{Within, Itself, Below, sense_of, declares_entity, entity_type, representative, core_of_sense, block_for, body_at, declared_as, declared_name}
use Rattle.c_senses.specs.Right as right
use Rattle.c_senses.specs.Sense.{Sense, IsCore, IsInitial, sense_in}
use Rattle.core_node_laws.specs.literal_initials.Holding.{Holds, AllHold, OfSense}

some_one : {X : Type 0} → {x y : X} → ◌≡◌ {A = Option X} (Some x) (Some y) → x ≡ y
some_one h = cc

none_some : {X : Type 0} → {x : X} → ◌≡◌ {A = Option X} None (Some x) → ⊥
none_some h = cc

module _ (asks : ℕ → Type 0) where
  abbrev SomeHolds : Option Core → Type 0
  SomeHolds None = ⊤
  SomeHolds (Some c) = Holds asks c

  part_holds : (cs : Cores) (k : ℕ) → AllHold asks cs → SomeHolds (core_in cs k)
  part_holds NoCores k h = tt
  part_holds (MoreCores c rest) zero h = h.0
  part_holds (MoreCores c rest) (suc k) h = part_holds rest k h.1

  some_holds : (o : Option Core) (c : Core) → o ≡ Some c → SomeHolds o → Holds asks c
  some_holds None c e h = absurd (none_some e)
  some_holds (Some x) c e h = subst (λ (y : Core). Holds asks y) (some_one e) h

  if_holds : (b : Bool) (x y : Option Core) → SomeHolds x → SomeHolds y → SomeHolds (if b then x else y)
  if_holds true x y h k = h
  if_holds false x y h k = k

  -- ---- bodies

  module _ (s : Source) (senses : List Sense) (all : (i : ℕ) → OfSense asks (sense_in senses i)) where
    core_holds : (x : Sense) → OfSense asks x → SomeHolds (core_of_sense s senses x)
    core_holds (IsCore c) h = h
    core_holds (IsInitial c n) h = h
    core_holds x h = tt

    found_holds : (o : Option ℕ) → SomeHolds (option_and_then (λ b. core_of_sense s senses (sense_of s senses b)) o)
    found_holds None = tt
    found_holds (Some b) = core_holds (sense_in senses b) (all b)

    body_holds : (i : ℕ) → SomeHolds (body_at s senses i)
    body_holds i = if_holds (is_defined s (sense_of s senses) i) _ _ (found_holds (block_for s senses i)) (found_holds (initialiser_for s (sense_of s senses) i))

    declared_by : (i : ℕ) (b : Bool) (o : Option Ctype) (what : right.Declared) → (if b then option_map (declared_as s senses i) o else None) ≡ Some what → SomeHolds what.body
    declared_by i false o what e = absurd (none_some e)
    declared_by i true None what e = absurd (none_some e)
    declared_by i true (Some t) what e = subst (λ (x : right.Declared). SomeHolds x.body) (some_one e) (body_holds (representative s senses i))

    pub top_holds : (i : ℕ) (what : right.Declared) (body : Core) → declared_name s senses i ≡ Some what → what.body ≡ Some body → Holds asks body
    top_holds i what body told has = some_holds what.body body has (declared_by i (declares_entity s senses i) (entity_type s senses i) what told)

  -- ---- down a tree

  -- a compound literal, with its own initialiser
  record IsOver (c : Core) : Type 0 where
    entity : ℕ
    initial : Core
    kind : kind_of c ≡ Literal entity
    under : cores_under c ≡ MoreCores initial NoCores
    own : InitialisesEntity (kind_of initial) entity
    inside : AllHold asks (cores_under initial)

  parts : (c : Core) → Holds asks c → AllHold asks (cores_under c) ⊎ IsOver c
  parts (Of (Initialise e paths) place type under) h = inl h.1
  parts (Of (Literal e) place type NoCores) h = absurd h.0
  parts (Of (Literal e) place type (MoreCores (Of kind at t under) NoCores)) h = inr (record { entity = e; initial = Of kind at t under; kind = refl; under = refl; own = h.0; inside = h.1.0 })
  parts (Of (Literal e) place type (MoreCores c (MoreCores x rest))) h = absurd h.0
  parts (Of kind place type under) h = inl h.1

  own_asked : (c : Core) (d : ℕ) (paths : List Path) → kind_of c ≡ Initialise d paths → Holds asks c → asks d
  own_asked (Of (Initialise e p) place type under) d paths is h = let same : e ≡ d = cc in subst asks same h.0
  own_asked (Of kind place type under) d paths is h = absurd (cc)

  one_part : (x part : Core) (k : ℕ) → core_in (MoreCores x NoCores) k ≡ Some part → x ≡ part
  one_part x part zero e = some_one e
  one_part x part (suc k) e = cc

  same_entity : (kind : NodeKind) (d e : ℕ) (paths : List Path) → kind ≡ Initialise d paths → InitialisesEntity kind e → d ≡ e
  same_entity (Initialise o p) d e paths is own = let one : o ≡ d = cc in sym one ∙ own
  same_entity kind d e paths is own = absurd own

  module _ (s : Source) (senses : List Sense) (c : Core) (d : ℕ) (paths : List Path) (is : kind_of c ≡ Initialise d paths) where
    -- the fact holds of what is initialised, or it is the object of a literal in the tree
    abbrev pub Found : Core → Type 0
    Found top = asks d ⊎ ((literal : Core) × Within s senses literal top × (kind_of literal ≡ Literal d))

    lower : (top part : Core) (k : ℕ) → core_in (cores_under top) k ≡ Some part → Found part → Found top
    lower top part k at (inl h) = inl h
    lower top part k at (inr (literal, within, kind)) = inr (literal, Below (k, at) within, kind)

    below : (top part : Core) (over : IsOver top) (k : ℕ) → core_in (cores_under top) k ≡ Some part → (d ≡ over.entity) ⊎ Found part → Found top
    below top part over k at (inl same) = inr (top, Itself, over.kind ∙ ap (λ (e : ℕ). Literal e) (sym same))
    below top part over k at (inr more) = lower top part k at more

    first_is : (top part : Core) (over : IsOver top) (k : ℕ) → core_in (cores_under top) k ≡ Some part → over.initial ≡ part
    first_is top part over k at = one_part over.initial part k (sym (ap (λ (cs : Cores). core_in cs k) over.under) ∙ at)

    all_part : (top part : Core) (k : ℕ) → core_in (cores_under top) k ≡ Some part → AllHold asks (cores_under top) → Holds asks part
    all_part top part k at all = some_holds (core_in (cores_under top) k) part at (part_holds (cores_under top) k all)

    -- one step down: the part is so, or it is the initialiser of the literal
    step : (top part : Core) (k : ℕ) (at : core_in (cores_under top) k ≡ Some part) → AllHold asks (cores_under top) ⊎ IsOver top
        → (Holds asks part → Found part) → ((e : ℕ) → InitialisesEntity (kind_of part) e → AllHold asks (cores_under part) → (d ≡ e) ⊎ Found part) → Found top
    step top part k at (inl all) whole inner = lower top part k at (whole (all_part top part k at all))
    step top part k at (inr over) whole inner =
        let same = first_is top part over k at in
        below top part over k at (inner over.entity (subst (λ (x : Core). InitialisesEntity (kind_of x) over.entity) same over.own) (subst (λ (x : Core). AllHold asks (cores_under x)) same over.inside))

    mutual
      pub found : {top : Core} → Within s senses c top → Holds asks top → Found top
      found Itself h = inl (own_asked c d paths is h)
      found {top = top} (Below {part = part} k inside) h = step top part k.0 k.1 (parts top h) (λ own. found inside own) (λ e own under. inner inside e own under)

      inner : {part : Core} → Within s senses c part → (e : ℕ) → InitialisesEntity (kind_of part) e → AllHold asks (cores_under part) → (d ≡ e) ⊎ Found part
      inner Itself e own h = inl (same_entity (kind_of c) d e paths is own)
      inner {part = part} (Below {part = x} k inside) e own h = inr (lower part x k.0 k.1 (found inside (all_part part x k.0 k.1 h)))
