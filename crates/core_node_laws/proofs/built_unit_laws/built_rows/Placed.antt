-- The nodes of a built unit stand in their rows.
use Rattle.std.proofs.Common.{inl, inr, ◌&&◌, ◌∙◌, ◌≡◌, ℕ, zero, suc, List, [], ◌∷◌, length, Option, Some, None, refl, sym, ap, subst}
use Rattle.std.specs.Prelude.{option_map, option_and_then, if◌then◌else◌, Bool, true, false, ⊤}
use Rattle.std.proofs.lemmas.Option.{slice_get_within}
use Rattle.c_types.specs.Trees.{Ctype}
use Rattle.core_tree.specs.declared.node.Unit.{Unit}
use Rattle.core_tree.specs.declared.node.Node.{Node}
use Rattle.core_tree.specs.declared.node.NodeKind.{NodeKind}
use Rattle.core_tree.specs.declared.node.NodeKind.TheVariants.{Literal}
use Rattle.core_tree.specs.Typed.{trees_of}
use Rattle.core_tree.specs.Rows.{entity_type}
use Rattle.core_tree.specs.Valid.{InRows, entity_at}
use Rattle.c_consts.specs.Core.{Core, Cores, Of, NoCores, MoreCores, kind_of, ctype_of, cores_under, core_in}
use Rattle.c_initialise.specs.passed.sense_laws.PassedOn.{core_at, cores_at, IsReady}
use Rattle.c_initialise.proofs.passed.sense_laws.PassedOn.{core_is}
use Rattle.c_senses.specs.Tree.{Source, is_name}
use Rattle.c_senses.specs.World.{World}
use Rattle.c_senses.specs.Sense.{Sense, IsCore, IsInitial, sense_in}
use Rattle.c_senses.specs.Entities.{is_defined, initialiser_for}
use Rattle.c_senses.specs.Rows.{world_at}
use Rattle.c_senses.specs.Right.{Numbering, IsDeclaredAt, is_declaring, StandsBy, AllStandBy, Within, Itself, Below, sense_of, declares_entity, entity_type as declared_type, representative, core_of_sense, block_for, body_at, declared_as, declared_name}
use Rattle.c_senses.specs.Right as right
use Rattle.c_initialise.specs.passed.sense_laws.Sound.{Sound, AllSound, RowOver, list_of}
use Rattle.c_initialise.specs.passed.sense_laws.Senses.{SoundSense}
use Rattle.c_initialise.specs.passed.sense_laws.Laws.{Backs}
use Rattle.core_node_laws.proofs.built_unit_laws.align_laws.Fitting.{aligns_fit, asked_aligns_fit}
use Rattle.c_initialise.proofs.passed.sense_laws.All.{senses_sound, asked_sound}
use Rattle.c_initialise.proofs.passed.sense_laws.Standing.{node_stands}
use Rattle.core_node_laws.specs.built_unit_laws.built_laws.PassedOn.{IsBuilt}
use Rattle.core_node_laws.specs.built_unit_laws.built_laws.Placed.{IsInBody, Stands}
use Rattle.core_node_laws.proofs.built_unit_laws.built_laws.Placed.{nodes_stand}
use Rattle.core_node_laws.specs.built_unit_laws.built_rows.Rows.{type_by, types_declared, literal_type, RowsAreRight, RowsAreAsked}
use Rattle.core_node_laws.proofs.built_unit_laws.built_rows.Renaming.{Renames, AllRename, sound_on}

some_one : {X : Type 0} → {x y : X} → ◌≡◌ {A = Option X} (Some x) (Some y) → x ≡ y
some_one h = cc

none_some : {X : Type 0} → {x : X} → ◌≡◌ {A = Option X} None (Some x) → ⊥
none_some h = cc

-- a node that stands by a tree has that tree, with numbers in place of leaves
module _ (w : World) (n : Numbering) (u : Unit) (ready : IsReady u) where
  mutual
    renamed_at : (c : Core) (i : ℕ) → StandsBy n u i c → Renames w n c (core_at u i)
    renamed_at (Of kind place type under) i stands =
        let node : Node = stands.0 in
        subst (λ (x : Core). Renames w n (Of kind place type under) x) (sym (core_is u ready i node stands.1)) (stands.2, sym stands.4, all_renamed under node.children stands.5)

    all_renamed : (cs : Cores) (is : List ℕ) → AllStandBy n u is cs → AllRename w n cs (cores_at u is)
    all_renamed NoCores is h = subst (λ (l : List ℕ). AllRename w n NoCores (cores_at u l)) (sym h) tt
    all_renamed (MoreCores c rest) is h =
        subst (λ (l : List ℕ). AllRename w n (MoreCores c rest) (cores_at u l)) (sym h.2) (renamed_at c h.0 h.3, all_renamed rest h.1 h.4)

-- parts of a sound tree
abbrev SomeSound : World → (ℕ → Option Ctype) → Option Core → Type 0
SomeSound w entities None = ⊤
SomeSound w entities (Some c) = Sound w entities c

module _ (w : World) (entities : ℕ → Option Ctype) where
  part_sound : (cs : Cores) (k : ℕ) → AllSound w entities cs → SomeSound w entities (core_in cs k)
  part_sound NoCores k h = tt
  part_sound (MoreCores c rest) zero h = h.0
  part_sound (MoreCores c rest) (suc k) h = part_sound rest k h.1

  under_sound : (c : Core) → Sound w entities c → AllSound w entities (cores_under c)
  under_sound (Of kind place type under) h = h.3

  some_sound : (o : Option Core) (c : Core) → o ≡ Some c → SomeSound w entities o → Sound w entities c
  some_sound None c e h = absurd (none_some e)
  some_sound (Some x) c e h = subst (λ (y : Core). Sound w entities y) (some_one e) h

  if_sound : (b : Bool) (x y : Option Core) → SomeSound w entities x → SomeSound w entities y → SomeSound w entities (if b then x else y)
  if_sound true x y h k = h
  if_sound false x y h k = k

  module _ (s : Source) (senses : List Sense) (all : (i : ℕ) → SoundSense w entities (sense_in senses i)) where
    core_sound : (x : Sense) → SoundSense w entities x → SomeSound w entities (core_of_sense s senses x)
    core_sound (IsCore c) h = h
    core_sound (IsInitial c n) h = h.0
    core_sound x h = tt

    found_sound : (o : Option ℕ) → SomeSound w entities (option_and_then (λ b. core_of_sense s senses (sense_of s senses b)) o)
    found_sound None = tt
    found_sound (Some b) = core_sound (sense_in senses b) (all b)

    body_sound : (i : ℕ) → SomeSound w entities (body_at s senses i)
    body_sound i = if_sound (is_defined s (sense_of s senses) i) _ _ (found_sound (block_for s senses i)) (found_sound (initialiser_for s (sense_of s senses) i))

    declared_by : (i : ℕ) (b : Bool) (o : Option Ctype) (what : right.Declared) → (if b then option_map (declared_as s senses i) o else None) ≡ Some what → SomeSound w entities what.body
    declared_by i false o what e = absurd (none_some e)
    declared_by i true None what e = absurd (none_some e)
    declared_by i true (Some t) what e = subst (λ (x : right.Declared). SomeSound w entities x.body) (some_one e) (body_sound (representative s senses i))

    within_sound : {c d : Core} → Within s senses c d → Sound w entities d → Sound w entities c
    within_sound Itself h = h
    within_sound (Below {c = c} {part = part} k h) whole =
        within_sound h (some_sound (core_in (cores_under c) k.0) part k.1 (part_sound (cores_under c) k.0 (under_sound c whole)))

    in_body_sound : (c : Core) → IsInBody s senses c → Sound w entities c
    in_body_sound c h =
        within_sound h.within (some_sound h.what.body h.body h.has (declared_by h.leaf (declares_entity s senses h.leaf) (declared_type s senses h.leaf) h.what h.declared))

-- where entities have the types that they had by their leaves, and all senses are sound
rows_by : (s : Source) (name : List ℕ) (u : Unit) (b : IsBuilt s name u) (old : ℕ → Option Ctype) → ((j : ℕ) → SoundSense (world_at s b.senses (length b.senses)) old (sense_in b.senses j))
    → ((d e : ℕ) → b.numbering d ≡ Some e → old d ≡ entity_type (trees_of u) (entity_at (trees_of u) e)) → InRows (trees_of u)
rows_by s name u b old all typed i node at =
    let w : World = world_at s b.senses (length b.senses) in
    let new : ℕ → Option Ctype = λ e. entity_type (trees_of u) (entity_at (trees_of u) e) in
    let stands : Stands s b.senses b.numbering u i = nodes_stand s name u b i (slice_get_within u.nodes.items i node at) in
    let sound : Sound w old stands.tree = in_body_sound w old s b.senses all stands.tree stands.in_body in
    let here : Sound w new (core_at u i) = sound_on w b.numbering old new typed stands.tree (core_at u i) (renamed_at w b.numbering u b.ready stands.tree i stands.by) sound in
    let backs : Backs w new u = record { knows = b.knows; typed = λ e. refl } in
    node_stands w new u b.ready backs i node at here

pub rows_right : RowsAreRight
rows_right s name u b first constants grammar fit =
    let old : ℕ → Option Ctype = type_by u b.numbering in
    rows_by s name u b old (λ j. (senses_sound old s b.senses b.are_senses first constants grammar (aligns_fit old s b.senses b.are_senses first constants grammar fit) j).0)
    (λ d e number. ap (λ (o : Option ℕ). option_and_then (λ x. entity_type (trees_of u) (entity_at (trees_of u) x)) o) number)

-- what is declared has the type that its leaf has by the senses
and_first : (a b : Bool) → (a && b) ≡ true → a ≡ true
and_first true b h = refl
and_first false b h = cc

module _ (s : Source) (senses : List Sense) (w : World) (all : (j : ℕ) → SoundSense w (types_declared s senses) (sense_in senses j)) where
  by_name : (d : ℕ) (b : Bool) → declares_entity s senses d ≡ b → (o : Option Ctype) → declared_type s senses d ≡ o → (what : right.Declared)
      → (if b then option_map (declared_as s senses d) o else None) ≡ Some what → types_declared s senses d ≡ Some what.type
  by_name d false is o typed what e = absurd (none_some e)
  by_name d true is None typed what e = absurd (none_some e)
  by_name d true is (Some t) typed what e =
      let named : is_name s d ≡ true = and_first (is_name s d) _ (and_first (is_declaring s senses d) _ is) in
      let same : t ≡ what.type = ap (λ (x : right.Declared). x.type) (some_one e) in
      ap (λ (b : Bool). if b then declared_type s senses d else literal_type s senses d) named ∙ (typed ∙ ap Some same)

  by_kind : (c : Core) (d : ℕ) → kind_of c ≡ Literal d → Sound w (types_declared s senses) c → types_declared s senses d ≡ Some (ctype_of c)
  by_kind (Of kind place type under) d is h =
      let row : RowOver w (types_declared s senses) (Literal d) type (list_of under) = subst (λ (k : NodeKind). RowOver w (types_declared s senses) k type (list_of under)) is h.0 in
      by_list (list_of under) row
    where
      by_list : (l : List Core) → RowOver w (types_declared s senses) (Literal d) type l → types_declared s senses d ≡ Some type
      by_list [] h = absurd h
      by_list (x ∷ []) h = h.0
      by_list (x ∷ y ∷ l) h = absurd h

  declared_typed : (d : ℕ) (what : right.Declared) → IsDeclaredAt s senses d what → types_declared s senses d ≡ Some what.type
  declared_typed d what (inl named) = by_name d (declares_entity s senses d) refl (declared_type s senses d) refl what named
  declared_typed d what (inr literal) =
      let c : Core = literal.0 in
      let is = literal.1 in
      let stands = is.1 in
      let in_body : IsInBody s senses c = record { leaf = stands.0; what = stands.1; body = stands.2; declared = stands.3; has = stands.4; within = stands.5 } in
      by_kind c d is.0 (in_body_sound w (types_declared s senses) s senses all c in_body) ∙ ap (λ (x : right.Declared). Some x.type) (sym literal.2)

number_typed : (s : Source) (name : List ℕ) (u : Unit) (b : IsBuilt s name u) → ((j : ℕ) → SoundSense (world_at s b.senses (length b.senses)) (types_declared s b.senses) (sense_in b.senses j))
    → (d e : ℕ) → b.numbering d ≡ Some e → types_declared s b.senses d ≡ entity_type (trees_of u) (entity_at (trees_of u) e)
number_typed s name u b all d e number =
    let w : World = world_at s b.senses (length b.senses) in
    let found = b.no_other_entity e (b.numbered d e number) in
    let same : d ≡ found.0 = b.entity_once d found.0 e number found.3 in
    let entered = b.each_declared found.0 found.1 found.2 in
    let one : e ≡ entered.0 = some_one (sym found.3 ∙ entered.2) in
    let at : entity_at (trees_of u) e ≡ Some entered.1 = ap (entity_at (trees_of u)) one ∙ entered.3 in
    ap (types_declared s b.senses) same
    ∙ (declared_typed s b.senses w all found.0 found.1 found.2 ∙ sym (ap (entity_type (trees_of u)) at ∙ ap Some entered.4.type))

pub rows_asked : RowsAreAsked
rows_asked s name u b first constants grammar fit =
    let old : ℕ → Option Ctype = types_declared s b.senses in
    let all : (j : ℕ) → SoundSense (world_at s b.senses (length b.senses)) old (sense_in b.senses j) =
    λ j. (asked_sound old s b.senses b.are_senses first constants grammar (asked_aligns_fit old s b.senses b.are_senses first constants grammar fit) j).0 in
    rows_by s name u b old all (λ d e number. number_typed s name u b all d e number)
