-- What a place that a read or write reaches is: a part of its instance, of a type like the one asked for.
use Rattle.std.proofs.Common.{◌≡◌, ◌∙◌, ℕ, zero, suc, ◌+◌, Bool, true, false, cond, eqb, List, [], ◌∷◌, Option, Some, None, Result, Ok, Err, slice_get, refl, sym, ap, subst, inl, inr}
use Rattle.std.specs.Prelude.{nat_lt}
use Rattle.std.proofs.lemmas.Bool.{false≢true}
use Rattle.std.proofs.lemmas.Bool.Decides.{eqb_tells}
use Rattle.c_types.specs.declared.term.PathStep.{PathStep}
use Rattle.c_types.specs.declared.term.PathStep.TheVariants.{Index, Member}
use Rattle.c_types.specs.Trees.{Ctype, VoidType, BoolType, IntegerType, FloatingType, VaListType, PointerTo, ArrayOf, FunctionFrom, StructureOf, UnionOf}
use Rattle.c_types.specs.Table.{Table}
use Rattle.c_types.specs.Parts.{field_in}
use Rattle.c_types.specs.Paths.{part_type}
use Rattle.obj_space.specs.Parts.{is_collapsed}
use Rattle.obj_space.specs.Spots.{Reached, reached, member_reached, step_by, part_at}
use Rattle.obj_space.proofs.Followed.{step_member}
use Rattle.row_numbers.specs.Kept.{nodes_of, kept_at}
use Rattle.row_numbers.specs.Numbers.{integer_number, type_number}
use Rattle.ref_cells.specs.declared.cells.Reason.{Reason}
use Rattle.ref_cells.specs.declared.cells.Reason.TheVariants.{DeadUse, OutOfRange, Mismatch}
use Rattle.ref_cells.specs.declared.cells.Cell.{Cell}
use Rattle.ref_cells.specs.declared.cells.Cell.TheVariants.{Unset, Number, Null, Pointer, Function}
use Rattle.ref_cells.specs.declared.instance.Instance.{Instance}
use Rattle.ref_cells.specs.Wholes.{whole_of}
use Rattle.ref_cells.specs.Places.{is_out, walk, type_in, type_at_place, is_alike, fitting, reach}
use Rattle.covering_laws.specs.covered_memory.Covered.{row_by, pointer_row}
use Rattle.covering_laws.specs.covered_memory.Demands.{IsFew}
use Rattle.covering_laws.proofs.covered_memory.Parts.{field_some}

some_one : {X : Type 0} → {x y : X} → ◌≡◌ {A = Option X} (Some x) (Some y) → x ≡ y
some_one h = cc

none_some : {X : Type 0} → {x : X} → ◌≡◌ {A = Option X} None (Some x) → ⊥
none_some h = cc

ok_one : {X : Type 0} → {x y : X} → ◌≡◌ {A = Result X Reason} (Ok x) (Ok y) → x ≡ y
ok_one h = cc

err_ok : {X : Type 0} → {r : Reason} → {x : X} → ◌≡◌ {A = Result X Reason} (Err r) (Ok x) → ⊥
err_ok h = cc

module _ (table : Table) where
  -- a step that a walk takes
  pub record Steps (t : Ctype) (node : ℕ) (inside : Bool) (step : PathStep) (s : Ctype) : Type 0 where
    pub part : Reached
    pub part_is : step_by table t node inside step ≡ Some part
    pub ty : part.ty ≡ s

  element_steps : (t : Ctype) (node : ℕ) (inside : Bool) (i : ℕ) (s : Ctype) → part_type table t (Index i) ≡ Some s → Steps t node inside (Index i) s
  element_steps (ArrayOf of (Some n)) node inside i s e = by (nat_lt i n) e
    where
      by : (b : Bool) → cond b (Some of) None ≡ Some s → Steps (ArrayOf of (Some n)) node inside (Index i) s
      by true f = record { part = reached of node inside; part_is = refl; ty = some_one f }
      by false f = absurd (none_some f)
  element_steps (ArrayOf of None) node inside i s e = absurd (none_some e)
  element_steps VoidType node inside i s e = absurd (none_some e)
  element_steps BoolType node inside i s e = absurd (none_some e)
  element_steps (IntegerType size rank signed) node inside i s e = absurd (none_some e)
  element_steps FloatingType node inside i s e = absurd (none_some e)
  element_steps VaListType node inside i s e = absurd (none_some e)
  element_steps (PointerTo to) node inside i s e = absurd (none_some e)
  element_steps (FunctionFrom r ps f) node inside i s e = absurd (none_some e)
  element_steps (StructureOf tag) node inside i s e = absurd (none_some e)
  element_steps (UnionOf tag) node inside i s e = absurd (none_some e)

  member_steps : (t : Ctype) (node : ℕ) (inside : Bool) (k : ℕ) (s : Ctype) → part_type table t (Member k) ≡ Some s → Steps t node inside (Member k) s
  member_steps t node true k s e = record {
    part = reached s node true;
    part_is = step_member table t node true k ∙ ap (λ (w : Option Ctype). member_reached t w (field_in table t k) node true) e;
    ty = refl;
  }
  member_steps t node false k s e =
      let p = field_some table t k s e in
      record {
        part = reached s (node + p.0) (is_collapsed t);
        part_is = step_member table t node false k
            ∙ (ap (λ (w : Option Ctype). member_reached t w (field_in table t k) node false) e ∙ ap (λ (o : Option ℕ). member_reached t (Some s) o node false) p.1);
        ty = refl;
      }

  pub part_steps : (t : Ctype) (node : ℕ) (inside : Bool) (step : PathStep) (s : Ctype) → part_type table t step ≡ Some s → Steps t node inside step s
  part_steps t node inside (Index i) s e = element_steps t node inside i s e
  part_steps t node inside (Member k) s e = member_steps t node inside k s e

  -- what a walk finds is a part of that type
  pub record Walked (o : Option Reached) (path : List PathStep) (found : Ctype) : Type 0 where
    pub part : Reached
    pub part_is : part_at table o path ≡ Some part
    pub ty : part.ty ≡ found

  pub walk_part : (t : Ctype) (node : ℕ) (inside : Bool) (path : List PathStep) (found : Ctype) → walk table (Some t) path ≡ Ok found → Walked (Some (reached t node inside)) path found
  walk_part t node inside [] found e = record { part = reached t node inside; part_is = refl; ty = ok_one e }
  walk_part t node inside (step ∷ rest) found e = by (is_out t step) e (λ s n b. walk_part s n b rest found)
    where
      next : (o : Option Ctype) → part_type table t step ≡ o → walk table o rest ≡ Ok found
          → ((s : Ctype) (n : ℕ) (b : Bool) → walk table (Some s) rest ≡ Ok found → Walked (Some (reached s n b)) rest found) → Walked (Some (reached t node inside)) (step ∷ rest) found
      next None is f rec = absurd (err_ok f)
      next (Some s) is f rec =
          let st = part_steps t node inside step s is in
          let w = rec s st.part.node st.part.inside f in
          record {
            part = w.part;
            part_is = ap (λ (o : Option Reached). part_at table o rest) (st.part_is ∙ ap (λ (u : Ctype). Some (reached u st.part.node st.part.inside)) st.ty) ∙ w.part_is;
            ty = w.ty;
          }

      by : (b : Bool) → cond b (Err OutOfRange) (walk table (part_type table t step) rest) ≡ Ok found
          → ((s : Ctype) (n : ℕ) (b : Bool) → walk table (Some s) rest ≡ Ok found → Walked (Some (reached s n b)) rest found) → Walked (Some (reached t node inside)) (step ∷ rest) found
      by true f rec = absurd (err_ok f)
      by false f rec = next (part_type table t step) refl f rec

  -- what is reached at a place: a part of an instance that has a type
  pub record Reaches (memory : List Instance) (place : Cell) (t found : Ctype) : Type 0 where
    pub i : ℕ
    pub path : List PathStep
    pub past : Bool
    pub place_is : place ≡ Pointer i path past
    pub inst : Instance
    pub inst_is : slice_get memory i ≡ Some inst
    pub whole : Ctype
    pub whole_is : whole_of table inst ≡ Some whole
    pub walked : walk table (Some whole) path ≡ Ok found
    pub part : Reached
    pub part_is : part_at table (Some (reached whole 0 false)) path ≡ Some part
    pub ty : part.ty ≡ found
    pub alike : is_alike found t ≡ true

  fitting_inv : (t found : Ctype) (r : Result Ctype Reason) → fitting t r ≡ Ok found → (r ≡ Ok found) × (is_alike found t ≡ true)
  fitting_inv t found (Err reason) e = absurd (err_ok e)
  fitting_inv t found (Ok f) e = by (is_alike f t) refl e
    where
      by : (b : Bool) → is_alike f t ≡ b → cond b (Ok f) (Err Mismatch) ≡ Ok found → (◌≡◌ {A = Result Ctype Reason} (Ok f) (Ok found)) × (is_alike found t ≡ true)
      by true is g = (g, subst (λ (s : Ctype). is_alike s t ≡ true) (ok_one g) is)
      by false is g = absurd (err_ok g)

  live_inv : (memory : List Instance) (i : ℕ) (path : List PathStep) (past : Bool) (t found : Ctype) (o : Option Instance) → slice_get memory i ≡ o → type_in table o path past ≡ Ok found → is_alike found t ≡ true
      → Reaches memory (Pointer i path past) t found
  live_inv memory i path past t found None is e alike = absurd (err_ok e)
  live_inv memory i path past t found (Some inst) is e alike = by inst.live past e
    where
      typed : (o : Option Ctype) → whole_of table inst ≡ o → walk table o path ≡ Ok found → Reaches memory (Pointer i path past) t found
      typed None none g = absurd (err_ok g)
      typed (Some whole) some g =
          let w = walk_part whole 0 false path found g in
          record { i = i; path = path; past = past; place_is = refl; inst = inst; inst_is = is; whole = whole; whole_is = some; walked = g; part = w.part; part_is = w.part_is; ty = w.ty; alike = alike }

      by : (live gone : Bool) → cond live (cond gone (Err OutOfRange) (walk table (whole_of table inst) path)) (Err DeadUse) ≡ Ok found → Reaches memory (Pointer i path past) t found
      by true true g = absurd (err_ok g)
      by true false g = typed (whole_of table inst) refl g
      by false gone g = absurd (err_ok g)

  pub reach_inv : (memory : List Instance) (place : Cell) (t found : Ctype) → reach table memory place t ≡ Ok found → Reaches memory place t found
  unfolding reach
  reach_inv memory Null t found e = absurd (err_ok e)
  reach_inv memory Unset t found e = absurd (err_ok e)
  reach_inv memory (Number n) t found e = absurd (err_ok e)
  reach_inv memory (Function key) t found e = absurd (err_ok e)
  reach_inv memory (Pointer i path past) t found e =
      let f = fitting_inv t found (type_at_place table memory (Pointer i path past)) e in
      live_inv memory i path past t found (slice_get memory i) refl f.0 f.1

  -- types that a read takes for one another: their numbers and kept nodes are the same, and so are their pointers
  pub record Alike (found t : Ctype) : Type 0 where
    pub number : type_number found ≡ type_number t
    pub kept : (i : ℕ) → kept_at (slice_get (nodes_of table found) i) ≡ kept_at (slice_get (nodes_of table t) i)
    pub parts : (row : ℕ → ℕ) (path : List PathStep) → pointer_row row (part_at table (Some (reached found 0 false)) path) ≡ pointer_row row (part_at table (Some (reached t 0 false)) path)
    pub few : IsFew table t → IsFew table found

  same_alike : (found t : Ctype) → found ≡ t → Alike found t
  same_alike found t e = record {
    number = ap type_number e;
    kept = λ i. ap (λ (s : Ctype). kept_at (slice_get (nodes_of table s) i)) e;
    parts = λ row path. ap (λ (s : Ctype). pointer_row row (part_at table (Some (reached s 0 false)) path)) e;
    few = λ h. subst (IsFew table) (sym e) h;
  }

  -- scalars of one class
  plain_parts : (found t : Ctype) → ((node : ℕ) (inside : Bool) (step : PathStep) → step_by table found node inside step ≡ None) → ((node : ℕ) (inside : Bool) (step : PathStep) → step_by table t node inside step ≡ None)
      → ((k : ℕ) → row_by found k ≡ row_by t k) → (row : ℕ → ℕ) (path : List PathStep)
      → pointer_row row (part_at table (Some (reached found 0 false)) path) ≡ pointer_row row (part_at table (Some (reached t 0 false)) path)
  plain_parts found t a b same row [] = same (row 0)
  plain_parts found t a b same row (step ∷ rest) =
      ap (λ (o : Option Reached). pointer_row row (part_at table o rest)) (a 0 false step) ∙ sym (ap (λ (o : Option Reached). pointer_row row (part_at table o rest)) (b 0 false step))

  integer_step : (size rank : ℕ) (signed : Bool) (node : ℕ) (inside : Bool) (step : PathStep) → step_by table (IntegerType size rank signed) node inside step ≡ None
  integer_step size rank signed node inside (Index i) = refl
  integer_step size rank signed node inside (Member k) = refl

  bool_step : (node : ℕ) (inside : Bool) (step : PathStep) → step_by table BoolType node inside step ≡ None
  bool_step node inside (Index i) = refl
  bool_step node inside (Member k) = refl

  pointer_step : (to : Ctype) (node : ℕ) (inside : Bool) (step : PathStep) → step_by table (PointerTo to) node inside step ≡ None
  pointer_step to node inside (Index i) = refl
  pointer_step to node inside (Member k) = refl

  one_kept : (a b : Ctype) → kept_at (Some a) ≡ kept_at (Some b) → (i : ℕ) → kept_at (slice_get (a ∷ []) i) ≡ kept_at (slice_get (b ∷ []) i)
  one_kept a b e zero = e
  one_kept a b e (suc i) = refl

  tag_same : (a b : ℕ) → eqb a b ≡ true → a ≡ b
  tag_same a b e = elim (eqb_tells a b) [ inl same ↦ same.1 | inr other ↦ absurd (false≢true (sym other.0 ∙ e)) ]

  pub alike_types : (found t : Ctype) → is_alike found t ≡ true → Alike found t
  alike_types BoolType BoolType e = same_alike BoolType BoolType refl
  alike_types BoolType (IntegerType size rank signed) e = record {
    number = sym (ap integer_number (tag_same size 1 e));
    kept = one_kept BoolType (IntegerType size rank signed) refl;
    parts = plain_parts BoolType (IntegerType size rank signed) bool_step (integer_step size rank signed) (λ k. refl);
    few = λ h. h;
  }
  alike_types (IntegerType size rank signed) BoolType e = record {
    number = ap integer_number (tag_same size 1 e);
    kept = one_kept (IntegerType size rank signed) BoolType refl;
    parts = plain_parts (IntegerType size rank signed) BoolType (integer_step size rank signed) bool_step (λ k. refl);
    few = λ h. h;
  }
  alike_types (IntegerType size rank signed) (IntegerType other r g) e = record {
    number = ap integer_number (tag_same size other e);
    kept = one_kept (IntegerType size rank signed) (IntegerType other r g) refl;
    parts = plain_parts (IntegerType size rank signed) (IntegerType other r g) (integer_step size rank signed) (integer_step other r g) (λ k. refl);
    few = λ h. h;
  }
  alike_types (PointerTo a) (PointerTo b) e = record {
    number = refl;
    kept = one_kept (PointerTo a) (PointerTo b) refl;
    parts = plain_parts (PointerTo a) (PointerTo b) (pointer_step a) (pointer_step b) (λ k. refl);
    few = λ h. h;
  }
  alike_types VaListType VaListType e = same_alike VaListType VaListType refl
  alike_types (StructureOf a) (StructureOf b) e = same_alike (StructureOf a) (StructureOf b) (ap (λ (n : ℕ). StructureOf n) (tag_same a b e))
  alike_types (UnionOf a) (UnionOf b) e = same_alike (UnionOf a) (UnionOf b) (ap (λ (n : ℕ). UnionOf n) (tag_same a b e))
  alike_types found t e = absurd (false≢true e)
