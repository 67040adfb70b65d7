-- A tag is completed.
use Rattle.std.proofs.Common.{arith, ◌≡◌, ℕ, Bool, true, false, List, [], ◌∷◌, ◌++◌, Option, Some, None, cond, eqb, refl, sym, ap, ◌∙◌, length, map, option_map, ◌==◌}
use Rattle.std.specs.Prelude.{if◌then◌else◌}
use Rattle.std.proofs.lemmas.Bool.Decides.{nat_tests}
use Rattle.c_types.specs.Trees.{Ctype, VoidType, BoolType, IntegerType, FloatingType, VaListType, PointerTo, ArrayOf, FunctionFrom, StructureOf, UnionOf}
use Rattle.c_types.specs.Layout.{Extent, Look, Completed, extent_of, element_extent, member_extent, or_flexible, structure_of, union_of, of_members, repeated, looked_up, laid_out}
use Rattle.c_types.specs.Table.{Table, TagMembers, type_of, members_among, members_in, look_in, extent_in, extents_in, completions}
use Rattle.c_types.specs.Made.{IsMade}
use Rattle.c_types.specs.declared.term.MemberTerm.{MemberTerm}
use Rattle.core_tree.specs.declared.node.Unit.{Unit}
use Rattle.c_inits.specs.Made.{Part}
use Rattle.c_inits.specs.Tables.{tag_parts, parts_in, part_of}
use Rattle.c_senses.specs.World.{World}
use Rattle.c_senses.specs.Tags.{types_of_parts, laid}
use Rattle.core_nodes.specs.Standing.{Knows, IsReady}
use Rattle.core_nodes.proofs.Growing.{core_retyped}
use Rattle.struct_rows.specs.Completes.{with_members, with_extents, with_tag, Completes}

-- members over two looks by which all types take the same
module _ (a b : Look) (same : (t : Ctype) → extent_of a t ≡ extent_of b t) where
  element_same : (t : Ctype) → element_extent a t ≡ element_extent b t
  element_same (ArrayOf of n) = same of
  element_same VoidType = refl
  element_same BoolType = refl
  element_same (IntegerType size rank signed) = refl
  element_same FloatingType = refl
  element_same VaListType = refl
  element_same (PointerTo to) = refl
  element_same (FunctionFrom r ps f) = refl
  element_same (StructureOf tag) = refl
  element_same (UnionOf tag) = refl

  member_same : (t : Ctype) → member_extent a t ≡ member_extent b t
  member_same t = ap (λ (o : Option Extent). or_flexible o (element_extent a t)) (same t) ∙ ap (or_flexible (extent_of b t)) (element_same t)

  pub members_same : (ts : List Ctype) → map (member_extent a) ts ≡ map (member_extent b) ts
  members_same [] = refl
  members_same (t ∷ ts) =
      let first : member_extent a t ≡ member_extent b t = member_same t in
      let rest = members_same ts in
      cc

-- a structure or union more
module _ (a b : Look) (same : (t : Ctype) → extent_of a t ≡ extent_of b t) (tag : ℕ) (parts : List Part) where
  members_of_same : (f : List Extent → Extent) (k : ℕ) → of_members f (a k) ≡ of_members f (b k) → of_members f (with_extents a tag parts k) ≡ of_members f (with_extents b tag parts k)
  members_of_same f k e = elim (tag == k) as (λ t. of_members f (cond t (Some (map (member_extent a) (types_of_parts parts))) (a k)) ≡ of_members f (cond t (Some (map (member_extent b) (types_of_parts parts))) (b k))) [
    | true ↦ ap (λ (es : List Extent). Some (f es)) (members_same a b same (types_of_parts parts))
    | false ↦ e
  ]

  pub extents_more : (t : Ctype) → extent_of (with_extents a tag parts) t ≡ extent_of (with_extents b tag parts) t
  extents_more (ArrayOf of None) = refl
  extents_more (ArrayOf of (Some n)) = ap (repeated n) (extents_more of)
  extents_more (StructureOf k) = members_of_same (structure_of (StructureOf k)) k (same (StructureOf k))
  extents_more (UnionOf k) = members_of_same (union_of (UnionOf k)) k (same (UnionOf k))
  extents_more VoidType = refl
  extents_more BoolType = refl
  extents_more (IntegerType size rank signed) = refl
  extents_more FloatingType = refl
  extents_more VaListType = refl
  extents_more (PointerTo to) = refl
  extents_more (FunctionFrom r ps f) = refl

-- types take the same by looks that are the same
extents_by : (a b : Look) → ((k : ℕ) → a k ≡ b k) → (t : Ctype) → extent_of a t ≡ extent_of b t
extents_by a b same (ArrayOf of None) = refl
extents_by a b same (ArrayOf of (Some n)) = ap (repeated n) (extents_by a b same of)
extents_by a b same (StructureOf k) = ap (of_members (structure_of (StructureOf k))) (same k)
extents_by a b same (UnionOf k) = ap (of_members (union_of (UnionOf k))) (same k)
extents_by a b same VoidType = refl
extents_by a b same BoolType = refl
extents_by a b same (IntegerType size rank signed) = refl
extents_by a b same FloatingType = refl
extents_by a b same VaListType = refl
extents_by a b same (PointerTo to) = refl
extents_by a b same (FunctionFrom r ps f) = refl

-- what a world says of a unit in which a tag is completed
pub knows_completed : (w : World) (old new : Unit) (tag : ℕ) (parts : List Part) → Knows w old → Completes old new tag parts → Knows (with_tag w tag parts) new
knows_completed w old new tag parts k c = record {
  members = λ t. ap (λ (o : Option (List Part)). if tag == t then Some parts else o) (k.members t) ∙ sym (c.parts_are t);
  extents = λ t. extents_more w.look (look_in old.types) k.extents tag parts t ∙ sym (extents_by (look_in new.types) (with_extents (look_in old.types) tag parts) c.look t);
  tags = k.tags ∙ sym c.tags;
}

same_number : (n : ℕ) → eqb n n ≡ true
same_number n = grind (arith, nat_tests)

-- ---- a table in which a tag is completed

laid_more : (done : List (ℕ × List Extent)) (cs : List Completed) (c : Completed) → laid_out done (cs ++ c ∷ []) ≡ laid_out done cs ++ (c.tag, map (member_extent (looked_up (laid_out done cs))) c.types) ∷ []
laid_more done [] c = refl
laid_more done (d ∷ cs) c = laid_more (done ++ (d.tag, map (member_extent (looked_up done)) d.types) ∷ []) cs c

looked_more : (es : List (ℕ × List Extent)) (tag : ℕ) (e : List Extent) (t : ℕ) → looked_up es tag ≡ None → looked_up (es ++ (tag, e) ∷ []) t ≡ cond (eqb tag t) (Some e) (looked_up es t)
looked_more es tag e t h = elim (eqb tag t) as (λ b. eqb tag t ≡ b → looked_up (es ++ (tag, e) ∷ []) t ≡ cond b (Some e) (looked_up es t)) [
  | true ↦ λ same. let at : tag ≡ t = grind (arith, nat_tests, same) in here es (sym (ap (looked_up es) at) ∙ h) same
  | false ↦ λ differ. there es differ
] refl
  where
    here : (xs : List (ℕ × List Extent)) → looked_up xs t ≡ None → eqb tag t ≡ true → looked_up (xs ++ (tag, e) ∷ []) t ≡ Some e
    here [] none same = ap (λ (b : Bool). cond b (Some e) None) same
    here (x ∷ xs) none same = elim (eqb x.0 t) as (λ b. cond b (Some x.1) (looked_up xs t) ≡ None → cond b (Some x.1) (looked_up (xs ++ (tag, e) ∷ []) t) ≡ Some e) [ true ↦ λ k. cc | false ↦ λ k. here xs k same ] none

    there : (xs : List (ℕ × List Extent)) → eqb tag t ≡ false → looked_up (xs ++ (tag, e) ∷ []) t ≡ looked_up xs t
    there [] differ = ap (λ (b : Bool). cond b (Some e) None) differ
    there (x ∷ xs) differ = ap (cond (eqb x.0 t) (Some x.1)) (there xs differ)

among_more : (cs : List TagMembers) (tag : ℕ) (ms : List MemberTerm) (t : ℕ) → members_among cs tag ≡ None → members_among (cs ++ record { tag = tag; members = ms } ∷ []) t ≡ cond (eqb tag t) (Some ms) (members_among cs t)
among_more cs tag ms t h = elim (eqb tag t) as (λ b. eqb tag t ≡ b → members_among (cs ++ record { tag = tag; members = ms } ∷ []) t ≡ cond b (Some ms) (members_among cs t)) [
  | true ↦ λ same. let at : tag ≡ t = grind (arith, nat_tests, same) in here cs (sym (ap (members_among cs) at) ∙ h) same
  | false ↦ λ differ. there cs differ
] refl
  where
    here : (xs : List TagMembers) → members_among xs t ≡ None → eqb tag t ≡ true → members_among (xs ++ record { tag = tag; members = ms } ∷ []) t ≡ Some ms
    here [] none same = ap (λ (b : Bool). cond b (Some ms) None) same
    here (x ∷ xs) none same = elim (eqb x.tag t) as (λ b. cond b (Some x.members) (members_among xs t) ≡ None → cond b (Some x.members) (members_among (xs ++ record { tag = tag; members = ms } ∷ []) t) ≡ Some ms) [ true ↦ λ k. cc | false ↦ λ k. here xs k same ] none

    there : (xs : List TagMembers) → eqb tag t ≡ false → members_among (xs ++ record { tag = tag; members = ms } ∷ []) t ≡ members_among xs t
    there [] differ = ap (λ (b : Bool). cond b (Some ms) None) differ
    there (x ∷ xs) differ = ap (cond (eqb x.tag t) (Some x.members)) (there xs differ)

map_append : {X Y : Type 0} (f : X → Y) (xs ys : List X) → map f (xs ++ ys) ≡ map f xs ++ map f ys
map_append f [] ys = refl
map_append f (x ∷ xs) ys = ap (λ (zs : List _). f x ∷ zs) (map_append f xs ys)

types_listed : (table : Table) (ms : List MemberTerm) → map (λ m. type_of table m.ty.0) ms ≡ types_of_parts (map (part_of table) ms)
types_listed table [] = refl
types_listed table (m ∷ ms) = ap (λ (ts : List Ctype). type_of table m.ty.0 ∷ ts) (types_listed table ms)

abbrev with_completed : Table → ℕ → List MemberTerm → Table
with_completed table tag ms = record table { completed = table.completed ++ record { tag = tag; members = ms } ∷ [] }

module _ (table : Table) (tag : ℕ) (ms : List MemberTerm) (no_members : members_in table tag ≡ None) (no_look : look_in table tag ≡ None) where
  completions_more : completions (with_completed table tag ms) ≡ completions table ++ record { tag = tag; types = map (λ m. type_of table m.ty.0) ms } ∷ []
  completions_more = map_append (λ (c : TagMembers). record { tag = c.tag; types = map (λ (m : MemberTerm). type_of table m.ty.0) c.members }) table.completed (record { tag = tag; members = ms } ∷ [])

  look_more : (t : ℕ) → look_in (with_completed table tag ms) t ≡ with_extents (look_in table) tag (map (part_of table) ms) t
  look_more t =
      let types = map (λ (m : MemberTerm). type_of table m.ty.0) ms in
      ap (λ (cs : List Completed). looked_up (laid_out [] cs) t) completions_more
      ∙ (ap (λ (es : List (ℕ × List Extent)). looked_up es t) (laid_more [] (completions table) (record { tag = tag; types = types }))
      ∙ (looked_more (laid_out [] (completions table)) tag (map (member_extent (look_in table)) types) t no_look
      ∙ ap (λ (ts : List Ctype). cond (eqb tag t) (Some (map (member_extent (look_in table)) ts)) (look_in table t)) (types_listed table ms)))

  parts_more : (t : ℕ) → parts_in (with_completed table tag ms) (members_in (with_completed table tag ms) t) ≡ with_members (λ k. parts_in table (members_in table k)) tag (map (part_of table) ms) t
  parts_more t =
      ap (parts_in table) (among_more table.completed tag ms t no_members)
      ∙ (elim (eqb tag t) as (λ b. parts_in table (cond b (Some ms) (members_in table t)) ≡ cond b (Some (map (part_of table) ms)) (parts_in table (members_in table t))) [ true ↦ refl | false ↦ refl ])

  tags_more : map (tag_parts (with_completed table tag ms)) (with_completed table tag ms).completed ≡ map (tag_parts table) table.completed ++ record { tag = tag; members = map (part_of table) ms } ∷ []
  tags_more = map_append (tag_parts table) table.completed (record { tag = tag; members = ms } ∷ [])

-- what is known behind the call that completes a tag
module _ (old new : Unit) (tag : ℕ) (ms : List MemberTerm) (ready : IsReady old) (nodes : new.nodes ≡ old.nodes) (entities : new.entities ≡ old.entities) (types : new.types ≡ with_completed old.types tag ms) (made : IsMade old.types) (was_open : members_in old.types tag ≡ None) (kept : (t : Ctype) (e : Extent) → extent_in old.types t ≡ Some e → extent_in new.types t ≡ Some e) where
  no_look : look_in old.types tag ≡ None
  no_look = made.laid tag ∙ ap (option_map (extents_in old.types)) was_open

  same_types : (id : ℕ) → type_of new.types id ≡ type_of old.types id
  same_types id = ap (λ (t : Table). type_of t id) types

  pub completes : Completes old new tag (map (part_of old.types) ms)
  completes = record {
    nodes = ap (λ v. length v.items) nodes;
    cores = core_retyped old new ready nodes (λ id h. same_types id);
    terms = ap (λ (t : Table). length t.terms) types;
    types = same_types;
    tags = ap (λ (t : Table). t.tags) types;
    entities = ap (λ v. v.items) entities;
    was_open = was_open;
    parts_are = λ t. ap (λ (x : Table). parts_in x (members_in x t)) types ∙ parts_more old.types tag ms was_open no_look t;
    look = λ t. ap (λ (x : Table). look_in x t) types ∙ look_more old.types tag ms was_open no_look t;
    kept = kept;
    completed = ap (λ (x : Table). map (tag_parts x) x.completed) types ∙ tags_more old.types tag ms was_open no_look;
  }

-- what the completed tag takes
module _ (w : World) (old new : Unit) (tag : ℕ) (parts : List Part) (k : Knows w old) (c : Completes old new tag parts) where
  look_here : look_in new.types tag ≡ Some (map (member_extent w.look) (types_of_parts parts))
  look_here =
      c.look tag
      ∙ (ap (λ (b : Bool). cond b (Some (map (member_extent (look_in old.types)) (types_of_parts parts))) (look_in old.types tag)) (same_number tag)
      ∙ ap Some (sym (members_same w.look (look_in old.types) k.extents (types_of_parts parts))))

  pub laid_structure : extent_in new.types (StructureOf tag) ≡ Some (laid w false (StructureOf tag) parts)
  laid_structure = ap (of_members (structure_of (StructureOf tag))) look_here

  pub laid_union : extent_in new.types (UnionOf tag) ≡ Some (laid w true (UnionOf tag) parts)
  laid_union = ap (of_members (union_of (UnionOf tag))) look_here
