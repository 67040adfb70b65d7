-- A node that lists an entity lists it once.
use Rattle.std.proofs.Common.{arith, ◌≡◌, ◌≤◌, ◌<◌, ℕ, zero, suc, Bool, List, [], ◌∷◌, Option, Some, None, take, length, slice_get, refl, sym, ap, ◌∙◌, subst, ◌⊎◌, inl, inr}
use Rattle.std.specs.Prelude.{⊤}
use Rattle.std.proofs.lemmas.Option.{slice_get_within}
use Rattle.pta_base.specs.declared.place.Place.{Place}
use Rattle.c_types.specs.Trees.{Ctype}
use Rattle.core_tree.specs.declared.node.Unit.{Unit}
use Rattle.core_tree.specs.declared.node.Node.{Node}
use Rattle.core_tree.specs.declared.node.Entity.{Entity}
use Rattle.core_tree.specs.declared.node.NodeKind.{NodeKind}
use Rattle.core_tree.specs.declared.node.NodeKind.TheVariants.{Named, FunctionName, Literal, VarArgs, Initialise, Block, For}
use Rattle.core_tree.specs.Typed.{trees_of}
use Rattle.core_tree.specs.Range.{OncePlaced, entity_at, listed_by, listed_in}
use Rattle.c_consts.specs.Core.{Core, Cores, Of, NoCores, MoreCores, cores_under, core_in}
use Rattle.c_senses.specs.Tree.{Source, children_at}
use Rattle.c_senses.specs.World.{Meaning, Object, Function, TypeName, Tag, Value}
use Rattle.c_senses.specs.Sense.{Sense, IsCore, IsInitial, sense_in}
use Rattle.c_senses.specs.Rows.{AreSenses, world_at}
use Rattle.c_senses.specs.Right.{Numbering, SameEntities, SameKind, SameBody, Declared as Declares, IsDeclaredAt, IsEntityOf, Within, Itself, Below, declared_name, representative, core_of_sense}
use Rattle.parsed_tree_laws.specs.family_laws.Families.{Families}
use Rattle.parsed_tree_laws.proofs.placed_laws.Climbing.{Grown}
use Rattle.parsed_tree_laws.specs.grown_parts.Parts.{IsBrought}
use Rattle.core_node_laws.specs.near_nodes.Holding.{MeaningGives, Asks, Holds, AllHold, OfSense, RowGives, Closed}
use Rattle.core_node_laws.proofs.near_nodes.All.{near_kept}
use Rattle.core_node_laws.specs.standing_laws.Standing.{IsGrown, IsMade}
use Rattle.core_node_laws.proofs.standing_laws.Bodies.{above}
use Rattle.declaration_laws.proofs.declared_type_laws.owner_laws.Walk.{Stood, stood}
use Rattle.core_node_laws.proofs.count_laws.once_nodes.Found.{some_one}
use Rattle.core_node_laws.proofs.count_laws.once_nodes.Rooted.{OfBlock, OfInitial, body_is, body_by}
use Rattle.valid_unit_laws.specs.object_initialiser_laws.listed_declarations.Listed.{AreApart}
use Rattle.valid_unit_laws.proofs.object_initialiser_laws.listed_once.Sums.{occurs, one_place}
use Rattle.valid_unit_laws.proofs.object_initialiser_laws.listed_once.Objects.{declared_once, objects_once}

module _ (s : Source) (senses : List Sense) (are : AreSenses s senses) (families : Families s) (at_once : Grown s) (brought : IsBrought s) (apart : AreApart s senses) (d : ℕ) where
  -- a list has the object once at most
  abbrev pub Once : Core → Type 0
  Once (Of (Block ds) place type under) = occurs ds d ≤ 1
  Once (Of (For ds c a) place type under) = occurs ds d ≤ 1
  Once c = ⊤

  abbrev All : ℕ → Type 0
  All i = ⊤

  closed : Closed s All
  closed = record { parts = λ i c has h. tt; lefts = λ i first rest is e h. tt }

  names_free : (o : Option Meaning) → MeaningGives Once o
  names_free None = tt
  names_free (Some (Object e t)) = λ place. tt
  names_free (Some (Function e t)) = λ place. tt
  names_free (Some (TypeName t)) = tt
  names_free (Some (Tag tag)) = tt
  names_free (Some (Value n)) = tt

  row_once : (n : ℕ) → n < length senses → All n → ((c : ℕ) → All c → OfSense s All Once (sense_in (take n senses) c)) → RowGives Once (world_at s (take n senses) n) s (sense_in (take n senses)) n (children_at s n)
  row_once n lt near each = record {
    names = λ leaf has. names_free _;
    lists = λ entity function place at type asked e. tt;
    objects = λ declarator leaf by named paths values fixed. tt;
    initials = λ q above paths values over fixed. tt;
    literals = λ q above type initial over. tt;
    blocks = λ is place under. objects_once s senses are families at_once brought apart d (world_at s (take n senses) n) n n;
    plains = λ c a place under. omega arith;
    fors = λ is declaration has own c a place under. declared_once s senses are families at_once brought apart d (world_at s (take n senses) n) n declaration own;
  }

  trees_once : (i : ℕ) → OfSense s All Once (sense_in senses i)
  trees_once i = near_kept Once s senses All are closed row_once i tt

  -- ---- bodies

  abbrev pub H : Core → Type 0
  H = Holds Once

  of_sense : (x : Sense) (c : Core) → OfSense s All Once x → core_of_sense s senses x ≡ Some c → H c
  of_sense (IsCore y) c h e = subst H (some_one e) h
  of_sense (IsInitial y n) c h e = subst H (some_one e) h
  of_sense x c h e = cc

  named_held : (leaf : ℕ) (what : Declares) (c : Core) → declared_name s senses leaf ≡ Some what → what.body ≡ Some c → H c
  named_held leaf what c is body = by (body_by s senses (representative s senses leaf) c (sym (body_is s senses leaf what is) ∙ body))
    where
      by : OfBlock s senses (representative s senses leaf) c ⊎ OfInitial s senses (representative s senses leaf) c → H c
      by (inl (defined, (b, block, core))) = of_sense (sense_in senses b) c (trees_once b) core
      by (inr (init, initial, core)) = of_sense (sense_in senses init) c (trees_once init) core

  part_in : (under : Cores) (k : ℕ) (c : Core) → AllHold Once under → core_in under k ≡ Some c → H c
  part_in NoCores k c h e = cc
  part_in (MoreCores x rest) zero c h e = subst H (some_one e) h.0
  part_in (MoreCores x rest) (suc k) c h e = part_in rest k c h.1 e

  first_held : (x c : Core) (k : ℕ) → H x → core_in (cores_under x) k ≡ Some c → H c
  first_held (Of kind place type under) c k h e = part_in under k c h.1 e

  within_held : (c whole : Core) → Within s senses c whole → H whole → H c
  within_held c whole Itself h = h
  within_held c whole (Below {part = part} p inner) h = within_held c part inner (first_held whole part p.0 h p.1)

  declared_held : (leaf : ℕ) (what : Declares) (c : Core) → IsDeclaredAt s senses leaf what → what.body ≡ Some c → H c
  declared_held leaf what c (inl is) body = named_held leaf what c is body
  declared_held leaf what c (inr (x, (kind, (name, other, whole, named, own, within)), is)) body =
      first_held x c 0 (within_held x whole within (named_held name other whole named own)) (sym (ap (λ (y : Declares). y.body) is) ∙ body)

  -- ---- nodes

  module _ (numbering : Numbering) (u : Unit) (grown : IsGrown s) (made : IsMade s senses numbering u) where
    own_entity : (e : ℕ) (entity : Entity) → entity_at (trees_of u) e ≡ Some entity → (leaf : ℕ) × (what : Declares) × IsDeclaredAt s senses leaf what × IsEntityOf numbering u s.unit what entity
    own_entity e entity at =
        let (leaf, what, declared, number) = made.no_other_entity e (slice_get_within u.entities.items e entity at) in
        let (e2, x2, number2, at2, is) = made.each_declared leaf what declared in
        let same_number : e2 ≡ e = some_one (sym number2 ∙ number) in
        let same : x2 ≡ entity = some_one (sym at2 ∙ (ap (λ (k : ℕ). slice_get u.entities.items k) same_number ∙ at)) in
        (leaf, what, declared, subst (λ (x : Entity). IsEntityOf numbering u s.unit what x) same is)

    body_stood : (b leaf : ℕ) (what : Declares) → IsDeclaredAt s senses leaf what → (o : Option Core) → what.body ≡ o → SameBody numbering u o (Some b) → Stood Once numbering u b
    body_stood b leaf what declared None e same = absurd same
    body_stood b leaf what declared (Some c) e same = (c, same, declared_held leaf what c declared e)

    pub node_stood : (n : ℕ) → n < length u.nodes.items → Stood Once numbering u n
    node_stood n lt =
        let up = above s senses numbering u grown made n lt in
        let (leaf, what, declared, own) = own_entity up.number up.entity up.stands in
        stood Once numbering u up.top n up.under (body_stood up.top leaf what declared what.body refl (subst (λ (o : Option ℕ). SameBody numbering u what.body o) up.body own.body))

    module _ (e : ℕ) (one : (x : ℕ) → numbering x ≡ Some e → x ≡ d) where
      place_of : (ds es : List ℕ) (k : ℕ) → SameEntities numbering ds es → slice_get es k ≡ Some e → slice_get ds k ≡ Some d
      place_of [] [] k h at = cc
      place_of (x ∷ ds) (y ∷ es) zero h at = ap Some (one x (h.0 ∙ at))
      place_of (x ∷ ds) (y ∷ es) (suc k) h at = place_of ds es k h.1 at
      place_of [] (y ∷ es) k h at = absurd h
      place_of (x ∷ ds) [] k h at = absurd h

      once_placed : (ds es : List ℕ) → SameEntities numbering ds es → occurs ds d ≤ 1 → OncePlaced es e
      once_placed ds es h le i j at there = one_place ds d le i j (place_of ds es i h at) (place_of ds es j h there)

      of_block : (kind : NodeKind) (es : List ℕ) → SameKind numbering kind (Block es) → occurs (listed_by kind) d ≤ 1 → OncePlaced es e
      of_block (Block ds) es h le = once_placed ds es h le
      of_block (For ds c a) es h le = absurd (let g : For ds c a ≡ Block es = h in cc)
      of_block (Named x) es h le = absurd (let g : Named x ≡ Block es = h in cc)
      of_block (FunctionName x) es h le = absurd (let g : FunctionName x ≡ Block es = h in cc)
      of_block (Literal x) es h le = absurd (let g : Literal x ≡ Block es = h in cc)
      of_block (VarArgs x) es h le = absurd (let g : VarArgs x ≡ Block es = h in cc)
      of_block (Initialise x paths) es h le = absurd (let g : Initialise x paths ≡ Block es = h in cc)
      of_block kind es h le = absurd (let g : kind ≡ Block es = h in cc)

      of_for : (kind : NodeKind) (es : List ℕ) (x y : Bool) → SameKind numbering kind (For es x y) → occurs (listed_by kind) d ≤ 1 → OncePlaced es e
      of_for (For ds c a) es x y h le = once_placed ds es h.0 le
      of_for (Block ds) es x y h le = absurd (let g : Block ds ≡ For es x y = h in cc)
      of_for (Named z) es x y h le = absurd (let g : Named z ≡ For es x y = h in cc)
      of_for (FunctionName z) es x y h le = absurd (let g : FunctionName z ≡ For es x y = h in cc)
      of_for (Literal z) es x y h le = absurd (let g : Literal z ≡ For es x y = h in cc)
      of_for (VarArgs z) es x y h le = absurd (let g : VarArgs z ≡ For es x y = h in cc)
      of_for (Initialise z paths) es x y h le = absurd (let g : Initialise z paths ≡ For es x y = h in cc)
      of_for kind es x y h le = absurd (let g : kind ≡ For es x y = h in cc)

      of_kind : (kind other : NodeKind) → SameKind numbering kind other → occurs (listed_by kind) d ≤ 1 → OncePlaced (listed_by other) e
      of_kind kind (Block es) h le = of_block kind es h le
      of_kind kind (For es x y) h le = of_for kind es x y h le
      of_kind kind other h le = λ i j at there. cc

      few : (kind : NodeKind) (place : Place) (type : Ctype) (children : Cores) → Asks Once kind place type children → occurs (listed_by kind) d ≤ 1
      few (Block ds) place type children h = h
      few (For ds c a) place type children h = h
      few kind place type children h = omega arith

      pub placed_once : (n : ℕ) (node : Node) → slice_get u.nodes.items n ≡ Some node → OncePlaced (listed_in node) e
      placed_once n node there = by (node_stood n (slice_get_within u.nodes.items n node there))
        where
          by : Stood Once numbering u n → OncePlaced (listed_in node) e
          by (Of kind place type children, (x, own, same, place_is, type_is, under_are), hold) =
              let alike : x ≡ node = some_one (sym own ∙ there) in
              subst (λ (y : Node). OncePlaced (listed_by y.kind) e) alike (of_kind kind x.kind same (few kind place type children hold.0))
