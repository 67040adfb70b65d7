-- Trees of types in two tables that are one, but for the numbers of tags.
use Rattle.std.proofs.Common.{arith, ◌≡◌, ◌∙◌, ◌+◌, ◌<◌, ℕ, zero, suc, List, [], ◌∷◌, ◌++◌, map, Option, Some, None, is_some, refl, sym, ap}
use Rattle.std.specs.Option.{option_map}
use Rattle.std.proofs.lemmas.List.{map-append}
use Rattle.c_types.specs.declared.term.MemberTerm.{MemberTerm}
use Rattle.c_types.specs.Trees.{Ctype, VoidType, BoolType, IntegerType, FloatingType, VaListType, PointerTo, ArrayOf, FunctionFrom, StructureOf, UnionOf}
use Rattle.c_types.specs.Layout.{Extent, of_members, repeated, structure_of, union_of}
use Rattle.c_types.specs.Table.{Table, type_of, members_in, look_in, extent_in, extents_in}
use Rattle.c_types.specs.Made.{IsMade}
use Rattle.link_model.specs.Renamed.{renamed}
use Rattle.link_model.specs.Partition.{HasTags}
use Rattle.obj_space.specs.Parts.{Part, dotted, behind, members_parts, structure_parts, union_parts, tree_over, structures_within, parts_of}
use Rattle.obj_space.proofs.Trees.{n, any_depth}
use Rattle.twin_report_laws.specs.outcome_laws.twin_programs.One.{SameMembers}

-- a node of the other table's type
abbrev pub part_renamed : (ℕ → ℕ) → Part → Part
part_renamed f part = record { suffix = part.suffix; ty = renamed f part.ty }

behind_renamed : (f : ℕ → ℕ) (prefix : List ℕ) (ps : List Part) → map (behind prefix) (map (part_renamed f) ps) ≡ map (part_renamed f) (map (behind prefix) ps)
behind_renamed f prefix [] = refl
behind_renamed f prefix (part ∷ ps) = ap (λ (rest : List Part). behind prefix (part_renamed f part) ∷ rest) (behind_renamed f prefix ps)

both_repeated : (k : ℕ) (a b : Option Extent) → is_some b ≡ is_some a → is_some (repeated k b) ≡ is_some (repeated k a)
both_repeated k None None h = refl
both_repeated k None (Some e) h = h
both_repeated k (Some e) None h = h
both_repeated k (Some e) (Some d) h = refl

some_members : (g : List Extent → Extent) (o : Option (List Extent)) → is_some (of_members g o) ≡ is_some o
some_members g None = refl
some_members g (Some es) = refl

some_mapped : {X Y : Type 0} (g : X → Y) (o : Option X) → is_some (option_map g o) ≡ is_some o
some_mapped g None = refl
some_mapped g (Some x) = refl

-- two tables whose tags have the same members
module _ (table other : Table) (f : ℕ → ℕ)
    (lists : (tag : ℕ) (ms : List MemberTerm) → tag < table.tags → members_in table tag ≡ Some ms → (ks : List MemberTerm) × (members_in other (f tag) ≡ Some ks) × SameMembers table other f ms ks)
    (none : (tag : ℕ) → tag < table.tags → members_in table tag ≡ None → members_in other (f tag) ≡ None)
    (tags : (id : ℕ) → HasTags table.tags (type_of table id)) where
  members_alike : (tree more : Ctype → List Part) → ((t : Ctype) → HasTags table.tags t → more (renamed f t) ≡ map (part_renamed f) (tree t)) → (k : ℕ) (ms ks : List MemberTerm)
      → SameMembers table other f ms ks → members_parts more other k ks ≡ map (part_renamed f) (members_parts tree table k ms)
  members_alike tree more same k [] [] h = refl
  members_alike tree more same k [] (j ∷ js) h = absurd h
  members_alike tree more same k (m ∷ ms) [] h = absurd h
  members_alike tree more same k (m ∷ ms) (j ∷ js) h =
      let rest : List Part = members_parts more other (k + 1) js in
      let first : map (behind (dotted k j.name)) (more (type_of other j.ty.0)) ≡ map (part_renamed f) (map (behind (dotted k m.name)) (tree (type_of table m.ty.0))) =
      ap (λ (name : Option (List ℕ)). map (behind (dotted k name)) (more (type_of other j.ty.0))) h.0
      ∙ (ap (λ (t : Ctype). map (behind (dotted k m.name)) (more t)) h.2
      ∙ (ap (map (behind (dotted k m.name))) (same (type_of table m.ty.0) (tags m.ty.0)) ∙ behind_renamed f (dotted k m.name) (tree (type_of table m.ty.0)))) in
      ap (λ (ps : List Part). ps ++ rest) first
      ∙ (ap (λ (ps : List Part). map (part_renamed f) (map (behind (dotted k m.name)) (tree (type_of table m.ty.0))) ++ ps) (members_alike tree more same (k + 1) ms js h.3)
      ∙ sym (map-append (part_renamed f) (map (behind (dotted k m.name)) (tree (type_of table m.ty.0))) (members_parts tree table (k + 1) ms)))

  union_alike : (tag : ℕ) → tag < table.tags → union_parts (f tag) (members_in other (f tag)) ≡ map (part_renamed f) (union_parts tag (members_in table tag))
  union_alike tag lt = by (members_in table tag) refl
    where
      by : (o : Option (List MemberTerm)) → members_in table tag ≡ o → union_parts (f tag) (members_in other (f tag)) ≡ map (part_renamed f) (union_parts tag (members_in table tag))
      by None e = ap (union_parts (f tag)) (none tag lt e) ∙ sym (ap (λ (o : Option (List MemberTerm)). map (part_renamed f) (union_parts tag o)) e)
      by (Some ms) e = (let (ks, at, same) = lists tag ms lt e in ap (union_parts (f tag)) at ∙ sym (ap (λ (o : Option (List MemberTerm)). map (part_renamed f) (union_parts tag o)) e))

  tree_alike : (S R : ℕ → List Part) → ((tag : ℕ) → tag < table.tags → R (f tag) ≡ map (part_renamed f) (S tag)) → (t : Ctype) → HasTags table.tags t
      → tree_over R other (renamed f t) ≡ map (part_renamed f) (tree_over S table t)
  tree_alike S R same VoidType has = refl
  tree_alike S R same BoolType has = refl
  tree_alike S R same (IntegerType size rank signed) has = refl
  tree_alike S R same FloatingType has = refl
  tree_alike S R same VaListType has = refl
  tree_alike S R same (PointerTo to) has = refl
  tree_alike S R same (ArrayOf of None) has = refl
  tree_alike S R same (ArrayOf of (Some k)) has = tree_alike S R same of has
  tree_alike S R same (FunctionFrom result parameters form) has = refl
  tree_alike S R same (StructureOf tag) has = same tag has
  tree_alike S R same (UnionOf tag) has = union_alike tag has

  structure_alike : (d tag : ℕ) → tag < table.tags → ((t : Ctype) → HasTags table.tags t → tree_over (structures_within d other) other (renamed f t) ≡ map (part_renamed f) (tree_over (structures_within d table) table t))
      → (o : Option (List MemberTerm)) → members_in table tag ≡ o
      → structure_parts (tree_over (structures_within d other) other) other (f tag) (members_in other (f tag)) ≡ map (part_renamed f) (structure_parts (tree_over (structures_within d table) table) table tag (members_in table tag))
  structure_alike d tag lt same None e =
      ap (structure_parts (tree_over (structures_within d other) other) other (f tag)) (none tag lt e)
      ∙ sym (ap (λ (o : Option (List MemberTerm)). map (part_renamed f) (structure_parts (tree_over (structures_within d table) table) table tag o)) e)
  structure_alike d tag lt same (Some ms) e =
      let (ks, at, like) = lists tag ms lt e in
      ap (structure_parts (tree_over (structures_within d other) other) other (f tag)) at
      ∙ (ap (λ (ps : List Part). record { suffix = []; ty = StructureOf (f tag) } ∷ ps) (members_alike (tree_over (structures_within d table) table) (tree_over (structures_within d other) other) same 0 ms ks like)
      ∙ sym (ap (λ (o : Option (List MemberTerm)). map (part_renamed f) (structure_parts (tree_over (structures_within d table) table) table tag o)) e))

  structures_alike : (d tag : ℕ) → tag < table.tags → structures_within d other (f tag) ≡ map (part_renamed f) (structures_within d table tag)
  structures_alike zero tag lt = refl
  structures_alike (suc d) tag lt =
      structure_alike d tag lt (tree_alike (structures_within d table) (structures_within d other) (λ inner less. structures_alike d inner less)) (members_in table tag) refl

  -- the tree of a type is that of the other table's, but for tags
  pub parts_alike : IsMade table → IsMade other → (t : Ctype) → HasTags table.tags t → parts_of other (renamed f t) ≡ map (part_renamed f) (parts_of table t)
  parts_alike made again t has =
      let d : ℕ = n table made t + n other again (renamed f t) in
      sym (any_depth other again d (renamed f t) (omega arith))
      ∙ (tree_alike (structures_within d table) (structures_within d other) (structures_alike d) t has ∙ ap (map (part_renamed f)) (any_depth table made d t (omega arith)))

  some_same : (tag : ℕ) → tag < table.tags → is_some (members_in other (f tag)) ≡ is_some (members_in table tag)
  some_same tag lt = by (members_in table tag) refl
    where
      by : (o : Option (List MemberTerm)) → members_in table tag ≡ o → is_some (members_in other (f tag)) ≡ is_some (members_in table tag)
      by None e = ap (λ (o : Option (List MemberTerm)). is_some o) (none tag lt e) ∙ sym (ap (λ (o : Option (List MemberTerm)). is_some o) e)
      by (Some ms) e = (let (ks, at, same) = lists tag ms lt e in ap (λ (o : Option (List MemberTerm)). is_some o) at ∙ sym (ap (λ (o : Option (List MemberTerm)). is_some o) e))

  known_same : IsMade table → IsMade other → (tag : ℕ) → tag < table.tags → is_some (look_in other (f tag)) ≡ is_some (look_in table tag)
  known_same made again tag lt =
      ap (λ (o : Option (List Extent)). is_some o) (again.laid (f tag))
      ∙ (some_mapped (extents_in other) (members_in other (f tag)) ∙ (some_same tag lt
      ∙ sym (ap (λ (o : Option (List Extent)). is_some o) (made.laid tag) ∙ some_mapped (extents_in table) (members_in table tag))))

  -- both are complete, or neither is
  pub complete_alike : IsMade table → IsMade other → (t : Ctype) → HasTags table.tags t → is_some (extent_in other (renamed f t)) ≡ is_some (extent_in table t)
  complete_alike made again VoidType has = refl
  complete_alike made again BoolType has = refl
  complete_alike made again (IntegerType size rank signed) has = refl
  complete_alike made again FloatingType has = refl
  complete_alike made again VaListType has = refl
  complete_alike made again (PointerTo to) has = refl
  complete_alike made again (ArrayOf of None) has = refl
  complete_alike made again (ArrayOf of (Some k)) has = both_repeated k (extent_in table of) (extent_in other (renamed f of)) (complete_alike made again of has)
  complete_alike made again (FunctionFrom result parameters form) has = refl
  complete_alike made again (StructureOf tag) has =
      some_members (structure_of (StructureOf (f tag))) (look_in other (f tag)) ∙ (known_same made again tag has ∙ sym (some_members (structure_of (StructureOf tag)) (look_in table tag)))
  complete_alike made again (UnionOf tag) has =
      some_members (union_of (UnionOf (f tag))) (look_in other (f tag)) ∙ (known_same made again tag has ∙ sym (some_members (union_of (UnionOf tag)) (look_in table tag)))
