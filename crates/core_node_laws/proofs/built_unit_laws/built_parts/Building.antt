-- That the unit of the parts of a walk is built.
use Rattle.std.proofs.Common.{arith, ◌≡◌, ◌∙◌, ℕ, zero, suc, ◌+◌, ◌<◌, ◌≤◌, ◌⊎◌, inl, inr, true, List, [], ◌∷◌, ◌++◌, length, get_or, map, slice_get, Option, Some, None, refl, sym, ap, subst, All}
use Rattle.std.specs.Prelude.{option_map, option_and_then}
use Rattle.std.proofs.lemmas.List.{length-map}
use Rattle.std.proofs.lemmas.Option.{slice_get-get_or, slice_get_within, get_or_from_slice_get}
use Rattle.c_types.specs.declared.term.TypeId.{TypeId}
use Rattle.c_types.specs.Table.{Table, type_of, members_in, extent_in}
use Rattle.c_inits.specs.Tables.{parts_in}
use Rattle.core_tree.specs.declared.node.Node.{Node}
use Rattle.core_tree.specs.declared.node.Entity.{Entity}
use Rattle.core_tree.specs.declared.node.Unit.{Unit}
use Rattle.core_tree.specs.declared.node.NodeKind.TheVariants.{Literal}
use Rattle.core_tree.specs.Typed.{trees_of}
use Rattle.core_tree.specs.Valid.{IsChild, ChildOnce, child_in, entity_at}
use Rattle.c_consts.specs.Core.{Core, Cores, kind_of, ctype_of, cores_under, core_in}
use Rattle.core_nodes.specs.Standing.{core_at, cores_at, IsReady, Knows}
use Rattle.core_nodes.proofs.Reading.{type_is, kind_is, under_is}
use Rattle.core_nodes.specs.kept_nodes.Marked.{marked, ChildIn}
use Rattle.c_senses.specs.Tree.{Source}
use Rattle.c_senses.specs.Tags.{completed_from, members_under}
use Rattle.c_senses.specs.Rows.{world_at}
use Rattle.c_senses.specs.Sense.{Sense, sense_in}
use Rattle.c_senses.specs.Right.{Numbering, SameOwner, SameBody, IsEntityOf, InitialisesOnce, IsBody, IsLiteralOf, IsDeclaredAt, declared_name, literal_as, KeysRight, is_tag}
use Rattle.c_senses.specs.Right as right
use Rattle.unit_finish.specs.declared.unit_parts.declared.Declared.{Declared}
use Rattle.unit_finish.specs.declared.unit_parts.literals.LiteralAt.{LiteralAt}
use Rattle.unit_finish.specs.unit_parts.Numbered.{numbered_from, new_number, moved}
use Rattle.unit_finish.specs.unit_parts.Renamed.{renamed_node, literals_in}
use Rattle.unit_finish.specs.unit_parts.Entities.{numbering_of, is_owner_known, bodies_of, with_moved_body, entity_from}
use Rattle.unit_finish.specs.planted_nodes.Planted.{IsBodyCopy, IsMoved, IsPlanted}
use Rattle.unit_finish.specs.declared.keeping.Kept.{Kept}
use Rattle.unit_finish.specs.Complete.{IsKept}
use Rattle.unit_finish.specs.Walked.{declared_seen, literal_entry, IsWalked}
use Rattle.core_node_laws.specs.built_unit_laws.built_units.Built.{IsEntered, IsTop, IsAlone, IsBuilt}
use Rattle.core_node_laws.specs.built_unit_laws.built_parts.Parts.{ArePut, PartsAreBuilt}
use Rattle.unit_finish.proofs.Lists.{same_child, kept_from, found, entity_there, entity_back, literal_there, literal_back, body_there, body_back, get_left, get_right, get_either, get_map, map_back}
use Rattle.unit_finish.proofs.Standing.{at_within, number_same, marked_node, within_there, within_top, kept_there, copy_of, stands}

same_owner : (n : Numbering) (o : Option ℕ) → is_owner_known n o ≡ true → SameOwner n o (option_and_then n o)
same_owner n None h = tt
same_owner n (Some d) h = let e = number_same (n d) h in subst (λ (o : Option ℕ). SameOwner n (Some d) o) (sym e) e

option_some : {A : Type 0} (f : ℕ → A) (o : Option ℕ) (y : A) → option_map f o ≡ Some y → (j : ℕ) × (o ≡ Some j) × (f j ≡ y)
option_some f None y e = cc
option_some f (Some j) y e = let same : f j ≡ y = cc in (j, refl, same)

module _ (s : Source) (name : List ℕ) (new : Unit) (c : ArePut s name new) where
  abbrev pub senses : List Sense
  senses = c.senses

  abbrev pub old : Unit
  old = c.walked

  abbrev pub names : List Declared
  names = c.names

  abbrev pub kept : Kept
  kept = c.kept

  abbrev pub list : List Declared
  list = c.list

  abbrev pub walked : IsWalked s c.senses c.walked c.keys c.names
  walked = c.made

  abbrev pub ready : IsReady c.walked
  ready = c.ready

  abbrev pub k : IsKept c.walked.nodes.items c.names c.kept
  k = c.stay

  abbrev pub es : c.list ≡ c.kept.names.items ++ map (literal_entry s c.senses) (literals_in c.kept.nodes.items)
  es = c.declared

  abbrev pub planted : List Declared
  planted = c.planted.list.items

  abbrev pub ps : List Node
  ps = c.planted.nodes.items

  abbrev pub n : Numbering
  n = numbering_of planted

  abbrev pub numbers : List (Option ℕ)
  numbers = numbered_from 0 k.marks

  abbrev pub made : IsPlanted kept.nodes.items list c.planted
  made = c.are_planted

  -- the entries of the list
  pub entry_name : (i : ℕ) (x : Declared) → slice_get names i ≡ Some x → slice_get list i ≡ Some (with_moved_body numbers x)
  entry_name i x at =
      ap (λ (l : List Declared). slice_get l i) es
      ∙ get_left kept.names.items (map (literal_entry s senses) (literals_in kept.nodes.items)) i (with_moved_body numbers x) (ap (λ (l : List Declared). slice_get l i) k.names_are ∙ get_map (with_moved_body numbers) names i x at)

  pub entry_literal : (i : ℕ) (l : LiteralAt) → slice_get (literals_in kept.nodes.items) i ≡ Some l → slice_get list (length kept.names.items + i) ≡ Some (literal_entry s senses l)
  entry_literal i l at =
      ap (λ (l : List Declared). slice_get l (length kept.names.items + i)) es
      ∙ (get_right kept.names.items (map (literal_entry s senses) (literals_in kept.nodes.items)) i ∙ get_map (literal_entry s senses) (literals_in kept.nodes.items) i l at)

  abbrev pub IsNameEntry : Declared → Type 0
  IsNameEntry y = (i : ℕ) × (x : Declared) × (slice_get names i ≡ Some x) × (y ≡ with_moved_body numbers x)

  abbrev pub IsLiteralEntry : Declared → Type 0
  IsLiteralEntry y = (i : ℕ) × (l : LiteralAt) × (slice_get (literals_in kept.nodes.items) i ≡ Some l) × (y ≡ literal_entry s senses l)

  pub entry_cases : (e : ℕ) (y : Declared) → slice_get list e ≡ Some y → IsNameEntry y ⊎ IsLiteralEntry y
  entry_cases e y at =
      elim (get_either kept.names.items (map (literal_entry s senses) (literals_in kept.nodes.items)) e y (sym (ap (λ (l : List Declared). slice_get l e) es) ∙ at)) [
        | inl h ↦ let r = map_back (with_moved_body numbers) names e y (sym (ap (λ (l : List Declared). slice_get l e) k.names_are) ∙ h) in inl (e, r.0, r.1, r.2)
        | inr h ↦ let r = map_back (literal_entry s senses) (literals_in kept.nodes.items) h.0 y h.1 in inr (h.0, r.0, r.1, r.2)
      ]

  -- the same with new bodies
  pub planted_entry : (e : ℕ) (y : Declared) → slice_get list e ≡ Some y → (z : Declared) × (slice_get planted e ≡ Some z) × IsMoved made.origin (length ps) y z
  planted_entry e y at =
      let lt : e < length planted = omega (arith, slice_get_within list e y at, made.long) in
      let there = at_within planted e lt in (there.0, there.1, made.each e y there.0 at there.1)

  pub entry_back : (e : ℕ) (z : Declared) → slice_get planted e ≡ Some z → (y : Declared) × (slice_get list e ≡ Some y) × IsMoved made.origin (length ps) y z
  entry_back e z at =
      let lt : e < length list = omega (arith, slice_get_within planted e z at, made.long) in
      let there = at_within list e lt in (there.0, there.1, made.each e there.0 z there.1 at)

  pub entity_for : (e : ℕ) (z : Declared) → slice_get planted e ≡ Some z → entity_at (trees_of new) e ≡ Some (entity_from s.unit n new.nodes.items e z)
  entity_for e z at = ap (λ (l : List Entity). slice_get l e) c.is_made.entities_are ∙ entity_there s.unit (numbering_of planted) new.nodes.items planted e z at

  pub leaf_is : (y z : Declared) → IsMoved made.origin (length ps) y z → z.leaf ≡ y.leaf
  leaf_is y z m = ap (λ (d : Declared). d.leaf) m.same

  pub number_for : (e : ℕ) (y z : Declared) → slice_get planted e ≡ Some z → IsMoved made.origin (length ps) y z → n y.leaf ≡ Some e
  number_for e y z at m = subst (λ (l : ℕ). n l ≡ Some e) (leaf_is y z m) (c.names_whole.apart e z at)

  owner_known : (e : ℕ) (y z : Declared) → slice_get planted e ≡ Some z → IsMoved made.origin (length ps) y z → is_owner_known n y.owner ≡ true
  owner_known e y z at m =
      let known = subst (λ (x : Declared). is_owner_known (numbering_of planted) x.owner ≡ true) (get_or_from_slice_get planted e z z at) (c.names_whole.owners e z (slice_get_within planted e z at)) in
      subst (λ (o : Option ℕ). is_owner_known n o ≡ true) (ap (λ (d : Declared). d.owner) m.same) known

  owner_is : (e : ℕ) (y z : Declared) → slice_get planted e ≡ Some z → IsMoved made.origin (length ps) y z → SameOwner n y.owner (option_and_then n z.owner)
  owner_is e y z at m = subst (λ (o : Option ℕ). SameOwner n y.owner (option_and_then n o)) (sym (ap (λ (d : Declared). d.owner) m.same)) (same_owner n y.owner (owner_known e y z at m))

  -- the nodes that are kept
  stays_at : (j : ℕ) (x : Node) → marked k.marks j → slice_get old.nodes.items j ≡ Some x → slice_get kept.nodes.items (new_number numbers j) ≡ Some (moved numbers x)
  stays_at j x on at = ap (λ (ns : List Node). slice_get ns (new_number (numbered_from 0 k.marks) j)) k.nodes_are ∙ kept_there s senses old k.marks (bodies_of names) ready k.are_marked j x on at

  -- bodies stand in the unit
  pub marked_body : (i : ℕ) (x : Declared) (j : ℕ) → slice_get names i ≡ Some x → x.body ≡ Some j → marked k.marks j
  marked_body i x j at e =
      let q = body_there names i x j at e in
      subst (λ (b : ℕ). marked k.marks b) (get_or_from_slice_get (bodies_of names) q.0 j 0 q.1) (k.are_marked.tops q.0 (slice_get_within (bodies_of names) q.0 j q.1))

  stands_at : (i j : ℕ) → marked k.marks j → i < length ps → made.origin i ≡ new_number numbers j → right.StandsBy n new i (core_at old j)
  stands_at i j on within from =
      stands s senses old k.marks (bodies_of names) ready k.are_marked kept.nodes.items k.nodes_are ps made.origin made.copies new n c.is_made.types_are c.is_made.nodes_are c.names_whole.known i j on within from

  same_body : (b i : Option ℕ) → ((j : ℕ) → b ≡ Some j → marked k.marks j) → IsBodyCopy made.origin (length ps) (option_map (new_number numbers) b) i → SameBody n new (option_map (core_at old) b) i
  same_body None None on h = tt
  same_body None (Some i) on h = absurd h
  same_body (Some j) None on h = absurd h
  same_body (Some j) (Some i) on h = stands_at i j (on j refl) h.0 h.1

  first_body : (cs : List ℕ) (i : Option ℕ) → ((q : ℕ) → q < length cs → marked k.marks (get_or cs q 0)) → IsBodyCopy made.origin (length ps) (slice_get (map (new_number numbers) cs) 0) i → SameBody n new (core_in (cores_at old cs) 0) i
  first_body [] None on h = tt
  first_body [] (Some i) on h = absurd h
  first_body (d ∷ cs) None on h = absurd h
  first_body (d ∷ cs) (Some i) on h = stands_at i d (on 0 (omega arith)) h.0 h.1

  -- each thing that is declared has its entity
  abbrev HasEntity : ℕ → right.Declared → Type 0
  HasEntity d what = (e : ℕ) × (entity : Entity) × (n d ≡ Some e) × (entity_at (trees_of new) e ≡ Some entity) × IsEntityOf n new s.unit what entity

  -- what is declared is the entity of its number, by what it is made of
  made_entity : (e : ℕ) (y z : Declared) (what : right.Declared) → slice_get planted e ≡ Some z → IsMoved made.origin (length ps) y z → y.name ≡ what.name → y.place ≡ what.place → type_of old.types y.ty.0 ≡ what.type → y.linkage ≡ what.linkage → y.storage ≡ what.storage → y.owner ≡ what.owner → SameBody n new what.body z.body
      → IsEntityOf n new s.unit what (entity_from s.unit n new.nodes.items e z)
  made_entity e y z what there m name_is place_is typed_as linkage_is storage_is owned_by body = record {
    name = ap (λ (d : Declared). d.name) m.same ∙ name_is;
    unit_is = refl;
    place = ap (λ (d : Declared). d.place) m.same ∙ place_is;
    type = ap (λ (t : Table). type_of t z.ty.0) c.is_made.types_are ∙ (ap (λ (d : Declared). type_of old.types d.ty.0) m.same ∙ typed_as);
    linkage = ap (λ (d : Declared). d.linkage) m.same ∙ linkage_is;
    storage = ap (λ (d : Declared). d.storage) m.same ∙ storage_is;
    owner = subst (λ (o : Option ℕ). SameOwner n o (option_and_then n z.owner)) owned_by (owner_is e y z there m);
    body = body;
  }

  name_entity : (i : ℕ) (x z : Declared) → slice_get names i ≡ Some x → slice_get planted i ≡ Some z → IsMoved made.origin (length ps) (with_moved_body numbers x) z → IsEntityOf n new s.unit (declared_seen old x) (entity_from s.unit n new.nodes.items i z)
  name_entity i x z at there m = made_entity i (with_moved_body numbers x) z (declared_seen old x) there m refl refl refl refl refl refl (same_body x.body z.body (λ j e. marked_body i x j at e) m.body)

  seen_is : (i : ℕ) (x : Declared) (what : right.Declared) → slice_get names i ≡ Some x → declared_name s senses x.leaf ≡ Some what → declared_seen old x ≡ what
  seen_is i x what at e = let both : Some (declared_seen old x) ≡ Some what = sym (walked.are_names.each i x at) ∙ e in cc

  named_entity : (d : ℕ) (what : right.Declared) → declared_name s senses d ≡ Some what → HasEntity d what
  named_entity d what h =
      let r = walked.are_names.all d what h in
      let x : Declared = r.1 in
      let y = with_moved_body numbers x in
      let p = planted_entry r.0 y (entry_name r.0 x r.2) in
      let seen = seen_is r.0 x what r.2 (subst (λ (l : ℕ). declared_name s senses l ≡ Some what) (sym r.3) h) in (
        r.0,
        entity_from s.unit n new.nodes.items r.0 p.0,
        subst (λ (l : ℕ). n l ≡ Some r.0) r.3 (number_for r.0 y p.0 p.1 p.2),
        entity_for r.0 p.0 p.1,
        subst (λ (w : right.Declared). IsEntityOf n new s.unit w (entity_from s.unit n new.nodes.items r.0 p.0)) seen (name_entity r.0 x p.0 r.2 p.1 p.2),
      )

  literal_node : (d : ℕ) (t : Core) → kind_of t ≡ Literal d → (m : ℕ) → marked k.marks m → core_at old m ≡ t → HasEntity d (literal_as s senses d t)
  literal_node d t is m on em =
      let there = marked_node s senses old k.marks (bodies_of names) ready k.are_marked m on in
      let x : Node = there.0 in
      let kind : x.kind ≡ Literal d = kind_is old ready m x there.1 ∙ (ap kind_of em ∙ is) in
      let stay : slice_get kept.nodes.items (new_number numbers m) ≡ Some (moved numbers x) = stays_at m x on there.1 in
      let lit = literal_there kept.nodes.items (new_number numbers m) (moved numbers x) d stay kind in
      let l : LiteralAt = record { leaf = d; ty = x.ty; body = slice_get (map (new_number numbers) x.children) 0 } in
      let e = length kept.names.items + lit.0 in
      let y = literal_entry s senses l in
      let p = planted_entry e y (entry_literal lit.0 l lit.1) in
      let under : cores_under t ≡ cores_at old x.children = sym (ap cores_under em) ∙ under_is old ready m x there.1 in
      let body : SameBody n new (core_in (cores_under t) 0) p.0.body = subst (λ (cs : Cores). SameBody n new (core_in cs 0) p.0.body) (sym under) (first_body x.children p.0.body (λ q lt. k.are_marked.closed m x there.1 on q lt) p.2.body) in
      let typed = type_is old ready m x there.1 ∙ ap ctype_of em in (
        e,
        entity_from s.unit n new.nodes.items e p.0,
        number_for e y p.0 p.1 p.2,
        entity_for e p.0 p.1,
        made_entity e y p.0 (literal_as s senses d t) p.1 p.2 refl refl typed refl refl refl body,
      )

  literal_entity : (d : ℕ) (t : Core) → IsLiteralOf s senses d t → HasEntity d (literal_as s senses d t)
  literal_entity d t h =
      let r = walked.are_names.all h.1.0 h.1.1 h.1.3 in
      let x : Declared = r.1 in
      let seen = seen_is r.0 x h.1.1 r.2 (subst (λ (l : ℕ). declared_name s senses l ≡ Some h.1.1) (sym r.3) h.1.3) in
      let b = option_some (core_at old) x.body h.1.2 (ap (λ (w : right.Declared). w.body) seen ∙ h.1.4) in
      let w = within_there s senses old k.marks (bodies_of names) ready k.are_marked t h.1.2 h.1.5 b.0 (marked_body r.0 x b.0 r.2 b.1) b.2 in
      literal_node d t h.0 w.0 w.1 w.2

  pub each_declared : (d : ℕ) (what : right.Declared) → IsDeclaredAt s senses d what → HasEntity d what
  each_declared d what h =
      elim h [
        | inl named ↦ named_entity d what named
        | inr literal ↦ subst (HasEntity d) (sym literal.2) (literal_entity d literal.0 literal.1)
      ]

  -- and there are no others
  abbrev IsDeclaredAs : ℕ → Type 0
  IsDeclaredAs e = (d : ℕ) × (what : right.Declared) × IsDeclaredAt s senses d what × (n d ≡ Some e)

  name_declared : (e : ℕ) (y z : Declared) → slice_get planted e ≡ Some z → IsMoved made.origin (length ps) y z → IsNameEntry y → IsDeclaredAs e
  name_declared e y z at m h =
      let leaf : y.leaf ≡ h.1.leaf = ap (λ (z : Declared). z.leaf) h.3 in
      (h.1.leaf, declared_seen old h.1, inl (walked.are_names.each h.0 h.1 h.2), subst (λ (l : ℕ). n l ≡ Some e) leaf (number_for e y z at m))

  literal_of : (l : LiteralAt) (i : ℕ) → slice_get (literals_in kept.nodes.items) i ≡ Some l → (t : Core) × IsLiteralOf s senses l.leaf t
  literal_of l i at =
      let there = literal_back kept.nodes.items i l at in
      let y : Node = there.1 in
      let from = kept_from (moved numbers) 0 k.marks old.nodes.items there.0 y (sym (ap (λ (ns : List Node). slice_get ns there.0) k.nodes_are) ∙ there.2) in
      let j = from.0 in
      let x : Node = from.1 in
      let kind : kind_of (core_at old j) ≡ Literal l.leaf = sym (kind_is old ready j x from.3) ∙ (sym (ap (λ (z : Node). z.kind) from.5) ∙ there.3.kind) in
      let top = within_top s senses old k.marks (bodies_of names) ready k.are_marked j from.2 in
      let b = get_or (bodies_of names) top.0 0 in
      let owner = body_back names top.0 b (slice_get-get_or (bodies_of names) top.0 0 top.1) in
      let z : Declared = owner.1 in
      (core_at old j, (kind, (z.leaf, declared_seen old z, core_at old b, walked.are_names.each owner.0 z owner.2, ap (option_map (core_at old)) owner.3, top.2)))

  literal_declared : (e : ℕ) (y z : Declared) → slice_get planted e ≡ Some z → IsMoved made.origin (length ps) y z → IsLiteralEntry y → IsDeclaredAs e
  literal_declared e y z at m h =
      let leaf : y.leaf ≡ h.1.leaf = ap (λ (z : Declared). z.leaf) h.3 in
      let lit = literal_of h.1 h.0 h.2 in
      (h.1.leaf, literal_as s senses h.1.leaf lit.0, inr (lit.0, lit.1, refl), subst (λ (l : ℕ). n l ≡ Some e) leaf (number_for e y z at m))

  pub no_other_entity : (e : ℕ) → e < length new.entities.items → IsDeclaredAs e
  no_other_entity e lt =
      let there = entity_back s.unit (numbering_of planted) new.nodes.items 0 planted e (subst (λ (l : List Entity). e < length l) c.is_made.entities_are lt) in
      let back = entry_back e there.0 there.1 in
      elim (entry_cases e back.0 back.1) [
        | inl name ↦ name_declared e back.0 there.0 there.1 back.2 name
        | inr literal ↦ literal_declared e back.0 there.0 there.1 back.2 literal
      ]

  pub entity_once : (a b e : ℕ) → n a ≡ Some e → n b ≡ Some e → a ≡ b
  entity_once a b e ha hb =
      let ra = found planted a e ha in
      let rb = found planted b e hb in
      let both : Some ra.0 ≡ Some rb.0 = sym ra.1 ∙ rb.1 in
      let same : ra.0 ≡ rb.0 = cc in
      sym ra.2 ∙ (ap (λ (x : Declared). x.leaf) same ∙ rb.2)

  -- each node is a body or a child
  pub child_is : (p i : ℕ) → ChildIn ps p i → IsChild (trees_of new) p i
  child_is p i h = (h.0, ap (λ (ns : List Node). child_in (slice_get ns p) h.0) c.is_made.nodes_are ∙ (same_child n ps p h.0 ∙ h.1))

  pub no_other_node : (i : ℕ) → i < length new.nodes.items → IsBody new i ⊎ ((p : ℕ) × IsChild (trees_of new) p i)
  no_other_node i lt =
      let few : i < length ps = omega (arith, subst (λ (ns : List Node). i < length ns) c.is_made.nodes_are lt, length-map ps (renamed_node n)) in
      elim (made.only i few) [
        | inl h ↦ inl (h.0, entity_from s.unit n new.nodes.items h.0 h.1, entity_for h.0 h.1 h.2, h.3)
        | inr h ↦ inr (h.0, child_is h.0 i h.1)
      ]

  -- each node is a copy of a marked one
  first_marked : (cs : List ℕ) (b : ℕ) → ((q : ℕ) → q < length cs → marked k.marks (get_or cs q 0)) → slice_get (map (new_number numbers) cs) 0 ≡ Some b → (j : ℕ) × marked k.marks j × (b ≡ new_number numbers j)
  first_marked [] b on e = cc
  first_marked (d ∷ cs) b on e = let same : new_number numbers d ≡ b = cc in (d, on 0 (omega arith), sym same)

  literal_marked : (y : Declared) (b : ℕ) → IsLiteralEntry y → y.body ≡ Some b → (j : ℕ) × marked k.marks j × (b ≡ new_number numbers j)
  literal_marked y b h e =
      let there = literal_back kept.nodes.items h.0 h.1 h.2 in
      let z : Node = there.1 in
      let from = kept_from (moved numbers) 0 k.marks old.nodes.items there.0 z (sym (ap (λ (ns : List Node). slice_get ns there.0) k.nodes_are) ∙ there.2) in
      let x : Node = from.1 in
      let body : slice_get (map (new_number numbers) x.children) 0 ≡ Some b = sym (ap (λ (m : Node). slice_get m.children 0) from.5) ∙ (sym there.3.body ∙ (sym (ap (λ (d : Declared). d.body) h.3) ∙ e)) in
      first_marked x.children b (λ q lt. k.are_marked.closed from.0 x from.3 from.2 q lt) body

  name_marked : (y : Declared) (b : ℕ) → IsNameEntry y → y.body ≡ Some b → (j : ℕ) × marked k.marks j × (b ≡ new_number numbers j)
  name_marked y b h e =
      let body : option_map (new_number numbers) h.1.body ≡ Some b = sym (ap (λ (d : Declared). d.body) h.3) ∙ e in
      let j = option_some (new_number numbers) h.1.body b body in
      (j.0, marked_body h.0 h.1 j.0 h.2 j.1, sym j.2)

  body_marked : (e : ℕ) (y : Declared) (b : ℕ) → slice_get list e ≡ Some y → y.body ≡ Some b → (j : ℕ) × marked k.marks j × (b ≡ new_number numbers j)
  body_marked e y b at is =
      elim (entry_cases e y at) [
        | inl h ↦ name_marked y b h is
        | inr h ↦ literal_marked y b h is
      ]

  pub body_from : (b i : Option ℕ) (m : ℕ) → IsBodyCopy made.origin (length ps) b i → i ≡ Some m → (d : ℕ) × (b ≡ Some d) × (made.origin m ≡ d)
  body_from None None m h e = cc
  body_from None (Some i) m h e = absurd h
  body_from (Some d) None m h e = absurd h
  body_from (Some d) (Some i) m h e = let same : i ≡ m = cc in (d, refl, subst (λ (o : ℕ). made.origin o ≡ d) same h.1)

  child_marked : (cs ys : List ℕ) (q i : ℕ) → map made.origin ys ≡ map (new_number numbers) cs → ((r : ℕ) → r < length cs → marked k.marks (get_or cs r 0)) → slice_get ys q ≡ Some i → (j : ℕ) × marked k.marks j × (made.origin i ≡ new_number numbers j)
  child_marked [] [] q i e on at = cc
  child_marked [] (y ∷ ys) q i e on at = cc
  child_marked (d ∷ cs) [] q i e on at = cc
  child_marked (d ∷ cs) (y ∷ ys) zero i e on at =
      let same : y ≡ i = cc in
      let first : made.origin y ≡ new_number numbers d = cc in
      (d, on 0 (omega arith), subst (λ (o : ℕ). made.origin o ≡ new_number numbers d) same first)
  child_marked (d ∷ cs) (y ∷ ys) (suc q) i e on at =
      let rest : map made.origin ys ≡ map (new_number numbers) cs = cc in
      child_marked cs ys q i rest (λ r lt. on (suc r) (omega (arith, lt))) at

  child_below : (y : Node) (p q i : ℕ) → slice_get ps p ≡ Some y → slice_get y.children q ≡ Some i → i < p
  child_below y p q i there at =
      let copy = made.copies p y there in
      let few = slice_get_within y.children q i at in
      subst (λ (m : ℕ). m < p) (get_or_from_slice_get y.children q i 0 at) (copy.first q 0 few)

  source_child : (i p q : ℕ) (node : Option Node) → slice_get ps p ≡ node → child_in node q ≡ Some i → ((m : ℕ) → i < m → m < length ps → (j : ℕ) × marked k.marks j × (made.origin m ≡ new_number numbers j))
      → (j : ℕ) × marked k.marks j × (made.origin i ≡ new_number numbers j)
  source_child i p q None at h above = cc
  source_child i p q (Some y) at h above =
      let from = above p (child_below y p q i at h) (slice_get_within ps p y at) in
      let there = marked_node s senses old k.marks (bodies_of names) ready k.are_marked from.0 from.1 in
      let copy = copy_of s senses old k.marks (bodies_of names) ready k.are_marked kept.nodes.items k.nodes_are ps made.origin made.copies p from.0 there.0 y from.1 there.1 at from.2 in
      child_marked there.0.children y.children q i copy.children (λ r few. k.are_marked.closed from.0 there.0 there.1 from.1 r few) h

  source_below : (fuel i : ℕ) → length ps ≤ i + fuel → i < length ps → (j : ℕ) × marked k.marks j × (made.origin i ≡ new_number numbers j)
  source_below zero i le lt = absurd (omega (arith, le, lt))
  source_below (suc fuel) i le lt =
      elim (made.only i lt) [
        | inl h ↦
            let back = entry_back h.0 h.1 h.2 in
            let from = body_from back.0.body h.1.body i back.2.body h.3 in
            let j = body_marked h.0 back.0 from.0 back.1 from.1 in
            (j.0, j.1, from.2 ∙ j.2)
        | inr h ↦ source_child i h.0 h.1.0 (slice_get ps h.0) refl h.1.1 (λ m more inside. source_below fuel m (omega (arith, more, le)) inside)
      ]

  source_of : (i : ℕ) → i < length ps → (j : ℕ) × marked k.marks j × (made.origin i ≡ new_number numbers j)
  source_of i lt = source_below (length ps) i (omega arith) lt

  -- the nodes stand behind their parts, and have types of the table
  type_in : (i : ℕ) (node : Node) → slice_get new.nodes.items i ≡ Some node → node.ty.0 < length new.types.terms
  type_in i node at =
      let back = map_back (renamed_node n) ps i node (sym (ap (λ (ns : List Node). slice_get ns i) c.is_made.nodes_are) ∙ at) in
      let y : Node = back.0 in
      let from = source_of i (slice_get_within ps i y back.1) in
      let there = marked_node s senses old k.marks (bodies_of names) ready k.are_marked from.0 from.1 in
      let copy = copy_of s senses old k.marks (bodies_of names) ready k.are_marked kept.nodes.items k.nodes_are ps made.origin made.copies i from.0 there.0 y from.1 there.1 back.1 from.2 in
      let in_old : y.ty.0 < length old.types.terms = subst (λ (t : TypeId). t.0 < length old.types.terms) (sym copy.type) (ready.types from.0 there.0 there.1) in
      let in_new : y.ty.0 < length new.types.terms = subst (λ (t : Table). y.ty.0 < length t.terms) (sym c.is_made.types_are) in_old in
      subst (λ (x : Node). x.ty.0 < length new.types.terms) (sym back.2) in_new

  pub children_in : (i : ℕ) (node : Node) → slice_get new.nodes.items i ≡ Some node → All (λ c. c < i) node.children
  children_in i node at =
      let back = map_back (renamed_node n) ps i node (sym (ap (λ (ns : List Node). slice_get ns i) c.is_made.nodes_are) ∙ at) in
      let copy = made.copies i back.0 back.1 in
      subst (λ (x : Node). All (λ c. c < i) x.children) (sym back.2) copy.first

  new_ready : IsReady new
  new_ready = record { types = type_in; children = children_in }

  -- a node is the child of one at most
  pub child_back : (a i d : ℕ) → child_in (slice_get new.nodes.items a) i ≡ Some d → child_in (slice_get ps a) i ≡ Some d
  child_back a i d h = sym (ap (λ (ns : List Node). child_in (slice_get ns a) i) c.is_made.nodes_are ∙ same_child n ps a i) ∙ h

  new_child_once : ChildOnce (trees_of new)
  new_child_once a b i j d ha hb = made.child_once a b i j d (child_back a i d ha) (child_back b j d hb)

  -- and a function's body is no child, and no other entity's
  pub item_for : (e : ℕ) (entity : Entity) → entity_at (trees_of new) e ≡ Some entity → (z : Declared) × (slice_get planted e ≡ Some z) × (entity_from s.unit n new.nodes.items e z ≡ entity)
  item_for e entity at =
      let within : e < length new.entities.items = slice_get_within new.entities.items e entity at in
      let there = entity_back s.unit (numbering_of planted) new.nodes.items 0 planted e (subst (λ (l : List Entity). e < length l) c.is_made.entities_are within) in
      let both : Some (entity_from s.unit n new.nodes.items e there.0) ≡ Some entity = sym (entity_for e there.0 there.1) ∙ at in
      let same : entity_from s.unit n new.nodes.items e there.0 ≡ entity = cc in (there.0, there.1, same)

  new_tops : (e : ℕ) (entity : Entity) → entity_at (trees_of new) e ≡ Some entity → IsTop new entity
  new_tops e entity at = λ f b body p node there has.
      let item = item_for e entity at in
      let storage = ap (λ (x : Entity). x.storage) item.2 ∙ f in
      let is = ap (λ (x : Entity). x.body) item.2 ∙ body in
      let child : child_in (slice_get new.nodes.items p) has.0 ≡ Some b = ap (λ (o : Option Node). child_in o has.0) there ∙ has.1 in
      made.tops e item.0 b item.1 storage is p (has.0, child_back p has.0 b child)

  new_alone : (e : ℕ) (entity : Entity) → entity_at (trees_of new) e ≡ Some entity → IsAlone new e entity
  new_alone e entity at = λ f b body d other there same.
      let item = item_for e entity at in
      let second = item_for d other there in
      let storage = ap (λ (x : Entity). x.storage) item.2 ∙ f in
      let is = ap (λ (x : Entity). x.body) item.2 ∙ body in
      let too = ap (λ (x : Entity). x.body) second.2 ∙ same in
      sym (made.alone e item.0 b item.1 storage is d second.0 second.1 too)

  -- what is declared has a type of the table
  literal_typed : (y : Declared) → IsLiteralEntry y → y.ty.0 < length new.types.terms
  literal_typed y h =
      let there = literal_back kept.nodes.items h.0 h.1 h.2 in
      let z : Node = there.1 in
      let from = kept_from (moved numbers) 0 k.marks old.nodes.items there.0 z (sym (ap (λ (ns : List Node). slice_get ns there.0) k.nodes_are) ∙ there.2) in
      let in_old : z.ty.0 < length old.types.terms = subst (λ (x : Node). x.ty.0 < length old.types.terms) (sym from.5) (ready.types from.0 from.1 from.3) in
      let in_new : z.ty.0 < length new.types.terms = subst (λ (t : Table). z.ty.0 < length t.terms) (sym c.is_made.types_are) in_old in
      let literal : h.1.ty.0 < length new.types.terms = subst (λ (ty : TypeId). ty.0 < length new.types.terms) (sym there.3.type) in_new in
      subst (λ (x : Declared). x.ty.0 < length new.types.terms) (sym h.3) literal

  entry_typed : (e : ℕ) (y : Declared) → slice_get list e ≡ Some y → y.ty.0 < length new.types.terms
  entry_typed e y at =
      elim (entry_cases e y at) [
        | inl h ↦ subst (λ (x : Declared). x.ty.0 < length new.types.terms) (sym h.3) (subst (λ (t : Table). h.1.ty.0 < length t.terms) (sym c.is_made.types_are) (walked.are_names.typed h.0 h.1 h.2))
        | inr h ↦ literal_typed y h
      ]

  item_typed : (e : ℕ) (z : Declared) → slice_get planted e ≡ Some z → z.ty.0 < length new.types.terms
  item_typed e z at =
      let back = entry_back e z at in
      subst (λ (t : TypeId). t.0 < length new.types.terms) (sym (ap (λ (d : Declared). d.ty) back.2.same)) (entry_typed e back.0 back.1)

  entered : (e : ℕ) (entity : Entity) → entity_at (trees_of new) e ≡ Some entity → IsEntered new e entity
  entered e entity at =
      let item = item_for e entity at in
      subst (IsEntered new e) item.2 (record { type = item_typed e item.0 item.1; used = refl })

  pub numbered : (d e : ℕ) → n d ≡ Some e → e < length new.entities.items
  numbered d e h =
      let r = found planted d e h in
      slice_get_within new.entities.items e (entity_from s.unit n new.nodes.items e r.0) (entity_for e r.0 r.1)

  known_new : Knows (world_at s senses (length senses)) new
  known_new = record {
    members = λ tag. walked.knows.members tag ∙ ap (λ (t : Table). parts_in t (members_in t tag)) (sym c.is_made.types_are);
    extents = λ t. walked.knows.extents t ∙ ap (λ (x : Table). extent_in x t) (sym c.is_made.types_are);
    tags = walked.knows.tags ∙ ap (λ (t : Table). t.tags) (sym c.is_made.types_are);
  }

  pub is_built : InitialisesOnce new → IsBuilt s name new
  is_built once = record {
    named = c.is_made.named;
    senses = senses;
    are_senses = walked.are_senses;
    whole = walked.whole;
    numbering = n;
    entity_once = entity_once;
    each_declared = each_declared;
    no_other_entity = no_other_entity;
    numbered = numbered;
    entered = entered;
    tag_once = walked.tags.once;
    each_tag = subst (λ (t : Table). (d : ℕ) → is_tag s d ≡ true → s.tag_number d < t.tags) (sym c.is_made.types_are) walked.tags.each;
    no_other_tag = subst (λ (t : Table). (i : ℕ) → i < t.tags → (d : ℕ) × (is_tag s d ≡ true) × (s.tag_number d ≡ i)) (sym c.is_made.types_are) walked.tags.no_other;
    members = subst (λ (t : Table). (d : ℕ) → is_tag s d ≡ true → parts_in t (members_in t (s.tag_number d)) ≡ members_under (completed_from s senses (sense_in senses) 0) (s.tag_number d)) (sym c.is_made.types_are) walked.tags.members;
    keys = subst (KeysRight s (sense_in senses)) (sym c.is_made.tags_are) walked.keys_right;
    one_key_each = ap length c.is_made.tags_are ∙ (walked.one_key_each ∙ ap (λ (t : Table). t.tags) (sym c.is_made.types_are));
    knows = known_new;
    ready = new_ready;
    child_once = new_child_once;
    tops = new_tops;
    alone = new_alone;
    initialises_once = once;
    no_other_node = no_other_node;
  }

pub parts_built : PartsAreBuilt
parts_built s name u put =
    is_built s name u (record {
      senses = put.senses;
      walked = put.walked;
      keys = put.keys;
      names = put.names;
      kept = put.kept;
      list = put.list;
      ready = put.ready;
      made = put.made;
      stay = put.stay;
      declared = put.declared;
      planted = put.planted;
      are_planted = put.are_planted;
      names_whole = put.names_whole;
      is_made = put.is_made;
    }) put.initialises_once
