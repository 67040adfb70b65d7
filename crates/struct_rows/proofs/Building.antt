-- Rows of structures and unions.
use Rattle.std.proofs.Common.{arith, ◌≡◌, ℕ, ◌<◌, ◌≤◌, Bool, true, false, cond, eqb, ◌&&◌, not, List, [], ◌++◌, Option, Some, None, length, refl, sym, ap, ◌∙◌, subst, ◌==◌, ◌⊎◌, inl, inr}
use Rattle.std.specs.Prelude.{is_none, is_some, nat_lt}
use Rattle.std.proofs.Math.Path.{fun_ext}
use Rattle.std.proofs.lemmas.Bool.Decides.{nat_tests}
use Rattle.std.proofs.lemmas.List.{append-nil}
use Rattle.pta_base.specs.declared.kind.Kind.{Kind}
use Rattle.pta_base.specs.declared.kind.Kind.TheVariants.{Operand, NotBuilt}
use Rattle.c_grammar.specs.Productions.{p_struct, p_members}
use Rattle.c_types.specs.Trees.{Ctype, VoidType, BoolType, IntegerType, FloatingType, VaListType, PointerTo, ArrayOf, FunctionFrom, StructureOf, UnionOf}
use Rattle.c_types.specs.Layout.{Extent}
use Rattle.c_types.specs.Table.{Table, type_of, members_in, look_in, extent_in}
use Rattle.c_types.specs.declared.term.MemberTerm.{MemberTerm}
use Rattle.core_tree.specs.declared.node.Unit.{Unit}
use Rattle.c_inits.specs.Made.{Part}
use Rattle.c_inits.specs.Tables.{tagged, parts_in}
use Rattle.c_senses.specs.Tree.{Source, is_a, child_of}
use Rattle.c_senses.specs.World.{World, extent, same_type}
use Rattle.c_senses.specs.Given.{Given, Fits, Refuses, given_if}
use Rattle.c_senses.specs.Sense.{Sense, Nothing, IsCore, IsType, IsSpecified, IsDeclarator, IsDerivation, IsParameter, IsMembers, IsValue, IsRun, IsInitial}
use Rattle.c_senses.specs.Limits.{is_small}
use Rattle.c_senses.specs.Tags.{tag_of, tag_fits, is_union, named_tag, aggregate_type, laid, members_in_sense, struct_type, struct_row}
use Rattle.c_results.specs.Parts as parts
use Rattle.core_nodes.specs.Standing.{Knows}
use Rattle.struct_rows.specs.Taken.{takes}
use Rattle.struct_rows.specs.Completes.{Completes}
use Rattle.struct_rows.specs.Standing.{CompletesBy}
use Rattle.struct_rows.specs.Built.{agree, first_is_union, stands_as, HasTagTypes, may_complete, completed_row, list_fits, built_type, built_struct}
use Rattle.struct_rows.proofs.Completing.{laid_structure, laid_union}

and_first : (a b : Bool) → (a && b) ≡ true → a ≡ true
and_first true b h = refl
and_first false b h = h

and_second : (a b : Bool) → (a && b) ≡ true → b ≡ true
and_second true b h = h
and_second false b h = cc

pub is_not_false : (a : Bool) → not a ≡ false → a ≡ true
is_not_false true h = refl
is_not_false false h = cc

same_number : (n : ℕ) → eqb n n ≡ true
same_number n = grind (arith, nat_tests)

-- ---- where a tag's type stands

same_structure : (t : Ctype) (n : ℕ) → same_type t (StructureOf n) ≡ true → t ≡ StructureOf n
same_structure (StructureOf a) n h = let e : a ≡ n = grind (arith, nat_tests, h) in ap StructureOf e
same_structure (UnionOf a) n h = cc
same_structure VoidType n h = cc
same_structure BoolType n h = cc
same_structure (IntegerType a b c) n h = cc
same_structure FloatingType n h = cc
same_structure VaListType n h = cc
same_structure (PointerTo a) n h = cc
same_structure (ArrayOf a b) n h = cc
same_structure (FunctionFrom a b c) n h = cc

same_union : (t : Ctype) (n : ℕ) → same_type t (UnionOf n) ≡ true → t ≡ UnionOf n
same_union (UnionOf a) n h = let e : a ≡ n = grind (arith, nat_tests, h) in ap UnionOf e
same_union (StructureOf a) n h = cc
same_union VoidType n h = cc
same_union BoolType n h = cc
same_union (IntegerType a b c) n h = cc
same_union FloatingType n h = cc
same_union VaListType n h = cc
same_union (PointerTo a) n h = cc
same_union (ArrayOf a b) n h = cc
same_union (FunctionFrom a b c) n h = cc

same_tagged : (u : Bool) (t : Ctype) (n : ℕ) → same_type t (tagged u n) ≡ true → t ≡ tagged u n
same_tagged true t n h = same_union t n h
same_tagged false t n h = same_structure t n h

tagged_agree : (u v : Bool) (n : ℕ) → same_type (tagged v n) (tagged u n) ≡ agree u v
tagged_agree true true n = same_number n
tagged_agree true false n = refl
tagged_agree false true n = refl
tagged_agree false false n = same_number n

module _ (table : Table) (n : ℕ) where
  pub stands_type : (u : Bool) → stands_as table n u ≡ true → type_of table n ≡ tagged u n
  stands_type u h = same_tagged u (type_of table n) n (and_second (nat_lt n (length table.terms)) (same_type (type_of table n) (tagged u n)) h)

  pub stands_below : (u : Bool) → stands_as table n u ≡ true → n < length table.terms
  stands_below u h =
      let e = and_first (nat_lt n (length table.terms)) (same_type (type_of table n) (tagged u n)) h in
      grind (arith, nat_tests, e)

  -- where it stands as one, it stands as another exactly where both agree
  pub stands_agree : (u v : Bool) → stands_as table n v ≡ true → stands_as table n u ≡ agree u v
  stands_agree u v h =
      ap (λ (b : Bool). b && same_type (type_of table n) (tagged u n)) (and_first (nat_lt n (length table.terms)) (same_type (type_of table n) (tagged v n)) h)
      ∙ (ap (λ (t : Ctype). same_type t (tagged u n)) (stands_type v h) ∙ tagged_agree u v n)

  below_is : n < length table.terms → nat_lt n (length table.terms) ≡ true
  below_is h = grind (arith, nat_tests, h)

  stands_of : (u : Bool) (t : Ctype) → n < length table.terms → type_of table n ≡ t → stands_as table n u ≡ same_type t (tagged u n)
  stands_of u t h e =
      ap (λ (b : Bool). b && same_type (type_of table n) (tagged u n)) (below_is h) ∙ ap (λ (x : Ctype). same_type x (tagged u n)) e

  pub stands_structure : (u : Bool) (tag : ℕ) → n < length table.terms → type_of table n ≡ StructureOf tag → stands_as table n u ≡ (not u && (tag == n))
  stands_structure true tag h e = stands_of true (StructureOf tag) h e
  stands_structure false tag h e = stands_of false (StructureOf tag) h e

  pub stands_union : (u : Bool) (tag : ℕ) → n < length table.terms → type_of table n ≡ UnionOf tag → stands_as table n u ≡ (u && (tag == n))
  stands_union true tag h e = stands_of true (UnionOf tag) h e
  stands_union false tag h e = stands_of false (UnionOf tag) h e

  pub stands_past : (u : Bool) → length table.terms ≤ n → stands_as table n u ≡ false
  stands_past u h =
      let e : nat_lt n (length table.terms) ≡ false = grind (arith, nat_tests, h) in
      ap (λ (b : Bool). b && same_type (type_of table n) (tagged u n)) e

same_itself : (u : Bool) (n : ℕ) → same_type (tagged u n) (tagged u n) ≡ true
same_itself true n = same_number n
same_itself false n = same_number n

pub stands_here : (table : Table) (n : ℕ) (u : Bool) → n < length table.terms → type_of table n ≡ tagged u n → stands_as table n u ≡ true
stands_here table n u h e =
    let there : nat_lt n (length table.terms) ≡ true = grind (arith, nat_tests, h) in
    ap (λ (b : Bool). b && same_type (type_of table n) (tagged u n)) there ∙ (ap (λ (t : Ctype). same_type t (tagged u n)) e ∙ same_itself u n)

-- types of tags stay where types stay
pub tag_types_on : (s : Source) (old new : Table) → ((id : ℕ) → id < length old.terms → type_of new id ≡ type_of old id) → length old.terms ≤ length new.terms → HasTagTypes s old → HasTagTypes s new
tag_types_on s old new same more h = record {
  each = λ i is.
      let n = tag_of s i in
      let u = first_is_union s n in
      let was = h.each i is in
      let below : n < length old.terms = stands_below old n u was in
      stands_here new n u (omega (arith, below, more)) (same n below ∙ stands_type old n u was);
}

-- ---- members that may complete a tag

takes_same : (a b : Ctype → Option Extent) → ((t : Ctype) → a t ≡ b t) → (u : Bool) (ms : List Part) → takes a u true ms ≡ takes b u true ms
takes_same a b same u ms = ap (λ (e : Ctype → Option Extent). takes e u true ms) (fun_ext same)

none_mapped : (table : Table) (o : Option (List MemberTerm)) → is_none (parts_in table o) ≡ is_none o
none_mapped table None = refl
none_mapped table (Some ms) = refl

-- as the table says it
abbrev pub table_takes : Table → ℕ → Bool → List Part → Bool
table_takes table tag u ps = is_none (members_in table tag) && takes (extent_in table) u true ps

pub may_by : (w : World) (old : Unit) → Knows w old → (tag : ℕ) (u : Bool) (ps : List Part) → may_complete w tag u ps ≡ table_takes old.types tag u ps
may_by w old k tag u ps =
    ap (λ (b : Bool). b && takes (extent w) u true ps) (ap is_none (k.members tag) ∙ none_mapped old.types (members_in old.types tag))
    ∙ ap (λ (b : Bool). is_none (members_in old.types tag) && b) (takes_same (extent w) (extent_in old.types) k.extents u ps)

pub takes_open : (table : Table) (tag : ℕ) (u : Bool) (ps : List Part) → table_takes table tag u ps ≡ true → members_in table tag ≡ None
takes_open table tag u ps h = none_is (members_in table tag) (and_first (is_none (members_in table tag)) (takes (extent_in table) u true ps) h)
  where
    none_is : (o : Option (List MemberTerm)) → is_none o ≡ true → o ≡ None
    none_is None h = refl
    none_is (Some ms) h = cc

pub takes_all : (table : Table) (tag : ℕ) (u : Bool) (ps : List Part) → table_takes table tag u ps ≡ true → takes (extent_in table) u true ps ≡ true
takes_all table tag u ps h = and_second (is_none (members_in table tag)) (takes (extent_in table) u true ps) h

-- ---- a tag that is completed

-- a world that says what a unit's types say
own_world : Unit → World
own_world u = record {
  meaning = λ i. None;
  members = λ t. parts_in u.types (members_in u.types t);
  look = look_in u.types;
  fillable = λ t. None;
  tags = u.types.tags;
  may_name = λ e. true;
  may_call = true;
  own_name = None;
  further = λ leaf. None;
}

own_known : (u : Unit) → Knows (own_world u) u
unfolding own_world
own_known u = record { members = λ t. refl; extents = λ t. refl; tags = refl }

module _ (old new : Unit) (tag : ℕ) (u : Bool) (ps : List Part) (stands : stands_as old.types tag u ≡ true) (c : Completes old new tag ps) where
  laid_tag : (w : World) → Knows w old → (v : Bool) → extent_in new.types (tagged v tag) ≡ Some (laid w v (tagged v tag) ps)
  laid_tag w k true = laid_union w old new tag ps k c
  laid_tag w k false = laid_structure w old new tag ps k c

  type_new : type_of new.types tag ≡ tagged u tag
  type_new = c.types tag ∙ stands_type old.types tag u stands

  extent_new : (w : World) → Knows w old → extent_in new.types (type_of new.types tag) ≡ Some (laid w u (tagged u tag) ps)
  extent_new w k = ap (extent_in new.types) type_new ∙ laid_tag w k u

  pub is_complete : is_some (extent_in new.types (type_of new.types tag)) ≡ true
  is_complete = ap is_some (extent_new (own_world old) (own_known old))

  pub known_new : tag < length new.types.terms
  known_new = let h = stands_below old.types tag u stands in subst (λ (n : ℕ). tag < n) (sym c.terms) h

  pub row_done : (w : World) → Knows w old → (at : ℕ) (b : Bool) → table_takes old.types tag u ps ≡ true → b ≡ is_small (extent_in new.types (type_of new.types tag)) → completed_row w at tag u ps ≡ given_if b Operand at (Fits (IsType (type_of new.types tag)))
  row_done w k at b h e =
      ap (λ (x : Bool). given_if x NotBuilt at (given_if (is_small (Some (laid w u (tagged u tag) ps))) Operand at (Fits (IsType (tagged u tag))))) (may_by w old k tag u ps ∙ h)
      ∙ (ap (λ (x : Bool). given_if x Operand at (Fits (IsType (tagged u tag)))) (sym (e ∙ ap is_small (extent_new w k)))
      ∙ ap (λ (t : Ctype). given_if b Operand at (Fits (IsType t))) (sym type_new))

pub row_not : (w : World) (old : Unit) → Knows w old → (at tag : ℕ) (u : Bool) (ps : List Part) → table_takes old.types tag u ps ≡ false → completed_row w at tag u ps ≡ Refuses NotBuilt at
row_not w old k at tag u ps h =
    ap (λ (x : Bool). given_if x NotBuilt at (given_if (is_small (Some (laid w u (tagged u tag) ps))) Operand at (Fits (IsType (tagged u tag))))) (may_by w old k tag u ps ∙ h)

-- ---- what was made for a list

pub made_list : (x : Sense) (ps : List Part) → parts.parts_in x ≡ Some ps → x ≡ IsMembers ps
made_list (IsMembers qs) ps e = let same : qs ≡ ps = cc in ap IsMembers same
made_list Nothing ps e = cc
made_list (IsCore a) ps e = cc
made_list (IsType a) ps e = cc
made_list (IsSpecified a) ps e = cc
made_list (IsDeclarator a b) ps e = cc
made_list (IsDerivation a) ps e = cc
made_list (IsParameter a) ps e = cc
made_list (IsValue a) ps e = cc
made_list (IsRun a) ps e = cc
made_list (IsInitial a b) ps e = cc

no_source : Source
no_source = record { unit = 0; text = []; tokens = []; nodes = []; uses = []; declared = record { ordinary = []; tags = []; scopes = [] }; tag_number = λ n. n }

-- the members that are found are those that were made
pub made_by : (old new : Unit) (number list : ℕ) (sense : ℕ → Sense) (qs ps : List Part) → parts.parts_in (sense list) ≡ Some qs → ((w : World) (s : Source) → ps ≡ members_in_sense w s sense (sense list) ++ []) → Completes old new number ps → CompletesBy old new number (sense list)
made_by old new number list sense qs ps e among done =
    let here : sense list ≡ IsMembers qs = made_list (sense list) qs e in
    let same : ps ≡ qs = among (own_world old) no_source ∙ (append-nil (members_in_sense (own_world old) no_source sense (sense list)) ∙ ap (members_in_sense (own_world old) no_source sense) here) in
    record { parts = ps; made_are = here ∙ ap IsMembers (sym same); completes = done }

module _ (w : World) (s : Source) (sense : ℕ → Sense) where
  pub list_none : (at tag list : ℕ) (u : Bool) → parts.parts_in (sense list) ≡ None → given_if (is_some (parts.parts_in (sense list))) NotBuilt at (completed_row w at tag u (members_in_sense w s sense (sense list))) ≡ Refuses NotBuilt at
  list_none at tag list u e = ap (λ (o : Option (List Part)). given_if (is_some o) NotBuilt at (completed_row w at tag u (members_in_sense w s sense (sense list)))) e

  pub list_some : (at tag list : ℕ) (u : Bool) (qs ps : List Part) → parts.parts_in (sense list) ≡ Some qs → ps ≡ members_in_sense w s sense (sense list) ++ [] → given_if (is_some (parts.parts_in (sense list))) NotBuilt at (completed_row w at tag u (members_in_sense w s sense (sense list))) ≡ completed_row w at tag u ps
  list_some at tag list u qs ps e m =
      ap (λ (o : Option (List Part)). given_if (is_some o) NotBuilt at (completed_row w at tag u (members_in_sense w s sense (sense list)))) e
      ∙ ap (completed_row w at tag u) (sym (m ∙ append-nil (members_in_sense w s sense (sense list))))

-- ---- the row of a specifier

given_both : (a b : Bool) (kind : Kind) (at : ℕ) (g : Given Sense) → given_if (a && b) kind at g ≡ given_if a kind at (given_if b kind at g)
given_both true b kind at g = refl
given_both false b kind at g = refl

aggregate_is : (s : Source) (at : ℕ) → aggregate_type s at ≡ tagged (is_union s at) (tag_of s at)
aggregate_is s at = by (is_union s at)
  where
    by : (b : Bool) → cond b (UnionOf (tag_of s at)) (StructureOf (tag_of s at)) ≡ tagged b (tag_of s at)
    by true = refl
    by false = refl

module _ (w : World) (s : Source) (sense : ℕ → Sense) (at : ℕ) where
  listed_is : (list : ℕ) → built_type w s sense at (Some list) ≡ given_if (is_some (parts.parts_in (sense list))) NotBuilt at (completed_row w at (tag_of s at) (is_union s at) (members_in_sense w s sense (sense list)))
  listed_is list =
      let ps = members_in_sense w s sense (sense list) in
      given_both (is_some (parts.parts_in (sense list))) (may_complete w (tag_of s at) (is_union s at) ps) NotBuilt at (struct_type w s sense at (Some list))
      ∙ ap (λ (t : Ctype). given_if (is_some (parts.parts_in (sense list))) NotBuilt at (given_if (may_complete w (tag_of s at) (is_union s at) ps) NotBuilt at (given_if (is_small (Some (laid w (is_union s at) t ps))) Operand at (Fits (IsType t))))) (aggregate_is s at)

  -- each way through the row
  pub struct_unfit : tag_fits s at ≡ false → built_struct w s sense at ≡ Refuses Operand (named_tag s at)
  struct_unfit e = ap (λ (b : Bool). given_if b Operand (named_tag s at) (given_if (agree (is_union s at) (first_is_union s (tag_of s at))) NotBuilt at (built_type w s sense at (child_of s p_members at)))) e

  fits_on : tag_fits s at ≡ true → built_struct w s sense at ≡ given_if (agree (is_union s at) (first_is_union s (tag_of s at))) NotBuilt at (built_type w s sense at (child_of s p_members at))
  fits_on e = ap (λ (b : Bool). given_if b Operand (named_tag s at) (given_if (agree (is_union s at) (first_is_union s (tag_of s at))) NotBuilt at (built_type w s sense at (child_of s p_members at)))) e

  stands_on : (b : Bool) → tag_fits s at ≡ true → agree (is_union s at) (first_is_union s (tag_of s at)) ≡ b → built_struct w s sense at ≡ given_if b NotBuilt at (built_type w s sense at (child_of s p_members at))
  stands_on b e a = fits_on e ∙ ap (λ (x : Bool). given_if x NotBuilt at (built_type w s sense at (child_of s p_members at))) a

  module _ (table : Table) (types : HasTagTypes s table) (is : is_a s p_struct at ≡ true) where
    agrees : (number : ℕ) (u b : Bool) → number ≡ tag_of s at → u ≡ is_union s at → b ≡ stands_as table number u → agree (is_union s at) (first_is_union s (tag_of s at)) ≡ b
    agrees number u b en eu eb =
        sym (eb ∙ (ap (λ (n : ℕ). stands_as table n u) en ∙ (ap (stands_as table (tag_of s at)) eu ∙ stands_agree table (tag_of s at) (is_union s at) (first_is_union s (tag_of s at)) (types.each at is))))

    pub struct_other : (number : ℕ) (u : Bool) → number ≡ tag_of s at → u ≡ is_union s at → tag_fits s at ≡ true → stands_as table number u ≡ false → built_struct w s sense at ≡ Refuses NotBuilt at
    struct_other number u en eu fits e = stands_on false fits (agrees number u false en eu (sym e))

    pub struct_alone : (number : ℕ) (u : Bool) → number ≡ tag_of s at → u ≡ is_union s at → tag_fits s at ≡ true → stands_as table number u ≡ true → child_of s p_members at ≡ None → built_struct w s sense at ≡ Fits (IsType (type_of table number))
    struct_alone number u en eu fits e child =
        stands_on true fits (agrees number u true en eu (sym e))
        ∙ (ap (built_type w s sense at) child
        ∙ (ap (λ (t : Ctype). Fits (IsType t)) (aggregate_is s at)
        ∙ (ap (λ (n : ℕ). Fits (IsType (tagged (is_union s at) n))) (sym en)
        ∙ (ap (λ (b : Bool). Fits (IsType (tagged b number))) (sym eu)
        ∙ ap (λ (t : Ctype). Fits (IsType t)) (sym (stands_type table number u e))))))

    pub struct_listed : (number list : ℕ) (u : Bool) → number ≡ tag_of s at → u ≡ is_union s at → tag_fits s at ≡ true → stands_as table number u ≡ true → child_of s p_members at ≡ Some list → built_struct w s sense at ≡ given_if (is_some (parts.parts_in (sense list))) NotBuilt at (completed_row w at number u (members_in_sense w s sense (sense list)))
    struct_listed number list u en eu fits e child =
        stands_on true fits (agrees number u true en eu (sym e))
        ∙ (ap (built_type w s sense at) child
        ∙ (listed_is list
        ∙ (ap (λ (n : ℕ). given_if (is_some (parts.parts_in (sense list))) NotBuilt at (completed_row w at n (is_union s at) (members_in_sense w s sense (sense list)))) (sym en)
        ∙ ap (λ (b : Bool). given_if (is_some (parts.parts_in (sense list))) NotBuilt at (completed_row w at number b (members_in_sense w s sense (sense list)))) (sym eu))))

-- ---- the law

part_if : {A : Type 0} (b : Bool) (kind : Kind) (at n : ℕ) (g h : Given A) → (g ≡ h) ⊎ (g ≡ Refuses NotBuilt n) → (given_if b kind at g ≡ given_if b kind at h) ⊎ (given_if b kind at g ≡ Refuses NotBuilt n)
part_if true kind at n g h e = e
part_if false kind at n g h e = inl refl

part_not : {A : Type 0} (b : Bool) (n : ℕ) (g h : Given A) → (g ≡ h) ⊎ (g ≡ Refuses NotBuilt n) → (given_if b NotBuilt n g ≡ h) ⊎ (given_if b NotBuilt n g ≡ Refuses NotBuilt n)
part_not true n g h e = e
part_not false n g h e = inr refl

pub struct_part : (w : World) (s : Source) (sense : ℕ → Sense) (at : ℕ) → (built_struct w s sense at ≡ struct_row w s sense at) ⊎ (built_struct w s sense at ≡ Refuses NotBuilt at)
struct_part w s sense at =
    part_if (tag_fits s at) Operand (named_tag s at) at (given_if (agree (is_union s at) (first_is_union s (tag_of s at))) NotBuilt at (built_type w s sense at (child_of s p_members at))) (struct_type w s sense at (child_of s p_members at))
    (part_not (agree (is_union s at) (first_is_union s (tag_of s at))) at (built_type w s sense at (child_of s p_members at)) (struct_type w s sense at (child_of s p_members at)) (type_part (child_of s p_members at)))
  where
    type_part : (o : Option ℕ) → (built_type w s sense at o ≡ struct_type w s sense at o) ⊎ (built_type w s sense at o ≡ Refuses NotBuilt at)
    type_part None = inl refl
    type_part (Some list) = part_not (list_fits w s sense at list) at (struct_type w s sense at (Some list)) (struct_type w s sense at (Some list)) (inl refl)
