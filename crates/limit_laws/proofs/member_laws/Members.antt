-- The members with which specifiers complete their tags are complete.
use Rattle.std.proofs.Common.{arith, ◌≡◌, ◌==◌, ◌<◌, ◌≤◌, ◌+◌, ℕ, zero, suc, Bool, true, false, ◌&&◌, ◌||◌, not, List, [], ◌∷◌, map, take, length, Option, Some, None, slice_get, refl, sym, ap, ◌∙◌, subst}
use Rattle.std.specs.Prelude.{is_some, if◌then◌else◌}
use Rattle.c_grammar.specs.Productions.{p_struct, p_members}
use Rattle.c_types.specs.declared.term.MemberTerm.{MemberTerm}
use Rattle.c_types.specs.Trees.{Ctype, StructureOf, UnionOf}
use Rattle.c_types.specs.Layout.{Extent}
use Rattle.c_types.specs.Table.{type_of, members_in}
use Rattle.type_rules.specs.Kinds.{IsAggregate}
use Rattle.type_rules.specs.Members.{in_list}
use Rattle.type_rules.specs.Sizes.{IsObject}
use Rattle.core_tree.specs.declared.node.Unit.{Unit}
use Rattle.c_inits.specs.Made.{Part, TagParts}
use Rattle.c_inits.specs.Tables.{part_of, parts_in}
use Rattle.c_senses.specs.Tree.{Source, is_a, child_of, children_at}
use Rattle.c_senses.specs.Given.{Fits}
use Rattle.c_senses.specs.World.{World, extent}
use Rattle.c_senses.specs.Sense.{Sense, IsMembers, sense_in}
use Rattle.c_senses.specs.Tags.{is_union, tag_of, completed_from, members_under}
use Rattle.c_senses.specs.Rows.{world_at, row, AreSenses}
use Rattle.parsed_tree_laws.specs.sense_laws.Laws.{Grows}
use Rattle.parsed_tree_laws.specs.sense_laws.Senses.{ChildrenFirst}
use Rattle.parsed_tree_laws.specs.family_laws.Families.{Families}
use Rattle.limit_laws.specs.struct_laws.PassedOn.{bits_fit, is_none_left, is_flexible, type_fits, takes_member, takes}
use Rattle.limit_laws.proofs.struct_laws.Members.{never_untaken}
use Rattle.limit_laws.proofs.struct_laws.Lists.{found}
use Rattle.core_node_laws.specs.built_unit_laws.built_units.Built.{IsBuilt}
use Rattle.limit_laws.specs.member_laws.Members.{MembersAreComplete}
use Rattle.limit_laws.proofs.member_laws.Growing.{grows_to}

taken_sense : (xs : List Sense) (n k : ℕ) → k < n → sense_in (take n xs) k ≡ sense_in xs k
taken_sense xs zero k h = absurd (omega (arith, h))
taken_sense [] (suc n) k h = refl
taken_sense (x ∷ xs) (suc n) zero h = refl
taken_sense (x ∷ xs) (suc n) (suc k) h = taken_sense xs n k (omega (arith, h))

taken_long : (xs : List Sense) (n : ℕ) → n ≤ length xs → length (take n xs) ≡ n
taken_long xs zero le = refl
taken_long [] (suc n) le = absurd (omega (arith, le))
taken_long (x ∷ xs) (suc n) le = ap suc (taken_long xs n (omega (arith, le)))

get_taken : (xs : List Sense) (n i : ℕ) (x : Sense) → slice_get (take n xs) i ≡ Some x → slice_get xs i ≡ Some x
get_taken xs zero i x e = cc
get_taken [] (suc n) i x e = cc
get_taken (y ∷ xs) (suc n) zero x e = e
get_taken (y ∷ xs) (suc n) (suc i) x e = get_taken xs n i x e

take_take : (xs : List Sense) (n i : ℕ) (x : Sense) → slice_get (take n xs) i ≡ Some x → take i (take n xs) ≡ take i xs
take_take xs zero i x e = cc
take_take [] (suc n) i x e = cc
take_take (y ∷ xs) (suc n) zero x e = refl
take_take (y ∷ xs) (suc n) (suc i) x e = ap (λ (l : List Sense). y ∷ l) (take_take xs n i x e)

are_taken : (s : Source) (senses : List Sense) → AreSenses s senses → (n : ℕ) → n ≤ length senses → AreSenses s (take n senses)
are_taken s senses are n le = record {
  within = (let long = taken_long senses n le in let more = are.within in omega (arith, long, more, le));
  each = λ i node x at is. subst (λ (l : List Sense). row s l i node ≡ Fits x) (sym (take_take senses n i x is)) (are.each i node x at (get_taken senses n i x is));
}

right : (a b : Bool) → (a && b) ≡ true → b ≡ true
right true b e = e
right false b e = cc

left : (a b : Bool) → (a && b) ≡ true → a ≡ true
left true b e = refl
left false b e = cc

-- which specifier completes a tag
record IsCompleted (s : Source) (f : ℕ → Sense) (most tag : ℕ) (parts : List Part) : Type 0 where
  node : ℕ
  below : node < most
  struct : is_a s p_struct node ≡ true
  list : ℕ
  child : child_of s p_members node ≡ Some list
  made : f list ≡ IsMembers parts

module _ (s : Source) (f : ℕ → Sense) (tag : ℕ) (parts : List Part) (most : ℕ) where
  by_tag : (i list : ℕ) (ps : List Part) → i < most → is_a s p_struct i ≡ true → child_of s p_members i ≡ Some list → f list ≡ IsMembers ps → (rest : List TagParts)
      → (members_under rest tag ≡ Some parts → IsCompleted s f most tag parts) → (b : Bool) → (if b then Some ps else members_under rest tag) ≡ Some parts → IsCompleted s f most tag parts
  by_tag i list ps lt struct child made rest later true e = record { node = i; below = lt; struct = struct; list = list; child = child; made = (let same : ps ≡ parts = cc in made ∙ ap IsMembers same) }
  by_tag i list ps lt struct child made rest later false e = later e

  by_sense : (i list : ℕ) → i < most → is_a s p_struct i ≡ true → child_of s p_members i ≡ Some list → (rest : List TagParts) → (members_under rest tag ≡ Some parts → IsCompleted s f most tag parts) → (x : Sense) → f list ≡ x
      → members_under (elim x as (λ _. List TagParts) [ IsMembers ps ↦ record { tag = tag_of s i; members = ps } ∷ rest | _ ↦ rest ]) tag ≡ Some parts → IsCompleted s f most tag parts
  by_sense i list lt struct child rest later (IsMembers ps) made e = by_tag i list ps lt struct child made rest later (tag_of s i == tag) e
  by_sense i list lt struct child rest later x made e = later e

  by_child : (i : ℕ) → i < most → (rest : List TagParts) → (members_under rest tag ≡ Some parts → IsCompleted s f most tag parts) → (b : Bool) → is_a s p_struct i ≡ b → (o : Option ℕ) → child_of s p_members i ≡ o
      → members_under (elim (if b then o else None) as (λ _. List TagParts) [ None ↦ rest | Some list ↦ elim (f list) as (λ _. List TagParts) [ IsMembers ps ↦ record { tag = tag_of s i; members = ps } ∷ rest | _ ↦ rest ] ]) tag ≡ Some parts
      → IsCompleted s f most tag parts
  by_child i lt rest later true struct (Some list) child e = by_sense i list lt struct child rest later (f list) refl e
  by_child i lt rest later true struct None child e = later e
  by_child i lt rest later false struct o child e = later e

  completed_by : (xs : List Sense) (i : ℕ) → i + length xs ≡ most → members_under (completed_from s xs f i) tag ≡ Some parts → IsCompleted s f most tag parts
  completed_by [] i long e = cc
  completed_by (x ∷ xs) i long e =
      by_child i (omega (arith, long)) (completed_from s xs f (suc i)) (completed_by xs (suc i) (omega (arith, long))) (is_a s p_struct i) refl (child_of s p_members i) refl e

-- what is taken is complete, if it is no array
module _ (extents : Ctype → Option Extent) (is_union : Bool) where
  plain : (first last : Bool) (t : Ctype) → IsAggregate t → type_fits extents is_union first last t ≡ true → is_some (extents t) ≡ true
  plain first last t g h = by (is_some (extents t)) refl h
    where
      never : (t : Ctype) → IsAggregate t → is_flexible extents t ≡ true → ⊥
      never (StructureOf tag) g e = cc
      never (UnionOf tag) g e = cc
      never t g e = absurd g

      by : (b : Bool) → is_some (extents t) ≡ b → (b || (not is_union && (not first && (last && is_flexible extents t)))) ≡ true → b ≡ true
      by true e k = refl
      by false e k = absurd (never t g (right last (is_flexible extents t) (right (not first) (last && is_flexible extents t) (right (not is_union) (not first && (last && is_flexible extents t)) k))))

  part_taken : (first : Bool) (parts : List Part) (k : ℕ) (m : Part) → takes extents is_union first parts ≡ true → slice_get parts k ≡ Some m → IsAggregate m.type → is_some (extents m.type) ≡ true
  part_taken first [] k m h e g = cc
  part_taken first (p ∷ rest) zero m h e g =
      let same : p ≡ m = cc in
      let one = left (takes_member extents is_union first (is_none_left rest) p) (takes extents is_union false rest) h in
      let fits : type_fits extents is_union first (is_none_left rest) p.type ≡ true = right (bits_fit p.type p.bits) (type_fits extents is_union first (is_none_left rest) p.type) one in
      plain first (is_none_left rest) m.type g (subst (λ (x : Part). type_fits extents is_union first (is_none_left rest) x.type ≡ true) same fits)
  part_taken first (p ∷ rest) (suc k) m h e g = part_taken false rest k m (right (takes_member extents is_union first (is_none_left rest) p) (takes extents is_union false rest) h) e g

some_extent : (old new : World) → Grows old new → (t : Ctype) (o : Option Extent) → extent old t ≡ o → is_some (extent old t) ≡ true → is_some (extent new t) ≡ true
some_extent old new grows t (Some x) e h = ap is_some (grows.extents t x e)
some_extent old new grows t None e h = let never : false ≡ true = sym (ap is_some e) ∙ h in cc

map_get : {A B : Type 0} (g : A → B) (xs : List A) (k : ℕ) (x : A) → slice_get xs k ≡ Some x → slice_get (map g xs) k ≡ Some (g x)
map_get g [] k x e = cc
map_get g (y ∷ xs) zero x e = let same : y ≡ x = cc in ap (λ z. Some (g z)) same
map_get g (y ∷ xs) (suc k) x e = map_get g xs k x e

module _ (s : Source) (name : List ℕ) (u : Unit) (b : IsBuilt s name u) (first : ChildrenFirst s) (families : Families s) where
  abbrev w : World
  w = world_at s b.senses (length b.senses)

  all_taken : (tag : ℕ) (parts : List Part) (c : IsCompleted s (sense_in b.senses) (length b.senses) tag parts) → takes (extent (world_at s (take c.node b.senses) c.node)) (is_union s c.node) true parts ≡ true
  all_taken tag parts c = by (takes (extent (world_at s (take c.node b.senses) c.node)) (is_union s c.node) true parts) refl
    where
      le : c.node ≤ length b.senses
      le = let below = c.below in omega (arith, below)

      list_before : c.list < c.node
      list_before = let g = found (is_a s p_members) (children_at s c.node) c.list c.child in first c.node g.place c.list g.there

      by : (t : Bool) → takes (extent (world_at s (take c.node b.senses) c.node)) (is_union s c.node) true parts ≡ t → t ≡ true
      by true e = refl
      by false e =
          absurd (never_untaken s (take c.node b.senses) c.node (are_taken s b.senses b.are_senses c.node le) first families (sym (taken_long b.senses c.node le))
          (record { list = c.list; child = c.child; parts = parts; made = taken_sense b.senses c.node c.list list_before ∙ c.made; untaken = e }))

  part_complete : (tag : ℕ) (parts : List Part) (k : ℕ) (m : Part) → w.members tag ≡ Some parts → slice_get parts k ≡ Some m → IsAggregate m.type → IsObject u.types m.type
  part_complete tag parts k m e is g =
      let c = completed_by s (sense_in b.senses) tag parts (length b.senses) b.senses 0 (let whole : 0 + length b.senses ≡ length b.senses = omega arith in whole) e in
      let old : World = world_at s (take c.node b.senses) c.node in
      let there = part_taken (extent old) (is_union s c.node) true parts k m (all_taken tag parts c) is g in
      let le : c.node ≤ length b.senses = (let below = c.below in omega (arith, below)) in
      ap is_some (sym (b.knows.extents m.type)) ∙ some_extent old w (grows_to s first b.senses c.node le) m.type (extent old m.type) refl there

  complete : (tag k : ℕ) (m : MemberTerm) (o : Option (List MemberTerm)) → members_in u.types tag ≡ o → in_list o k ≡ Some m → IsAggregate (type_of u.types m.ty.0) → IsObject u.types (type_of u.types m.ty.0)
  complete tag k m None at e g = cc
  complete tag k m (Some ms) at e g =
      part_complete tag (map (part_of u.types) ms) k (part_of u.types m) (b.knows.members tag ∙ ap (parts_in u.types) at) (map_get (part_of u.types) ms k m e) g

pub members_complete : MembersAreComplete
members_complete s name u b first families tag k m e g = complete s name u b first families tag k m (members_in u.types tag) refl e g
