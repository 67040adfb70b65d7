-- Cells with a value put under a path of them.
use Rattle.std.proofs.Common.{◌≡◌, Bool, true, false, cond, List, [], ◌∷◌, ◌++◌, Option, Some, None, refl, sym, subst}
use Rattle.c_types.specs.declared.term.PathStep.{PathStep}
use Rattle.c_types.specs.Trees.{Ctype}
use Rattle.c_types.specs.Table.{Table}
use Rattle.c_types.specs.Paths.{part_below}
use Rattle.obj_space.specs.Spots.{Reached, step_from, part_at}
use Rattle.ref_cells.specs.declared.cells.Cell.{Cell}
use Rattle.ref_cells.specs.declared.cells.Cell.TheVariants.{Unset}
use Rattle.ref_cells.specs.Cells.{CellList, step_key, is_below, is_above, under, below, above, prefixed}
use Rattle.ref_cells.specs.Values.{goes_on, filled}
use Rattle.ref_cells.specs.Puts.{put, lost}
use Rattle.ref_mem.specs.Reads.{opened}
use Rattle.covering_laws.specs.covered_memory.Cells.{EachCell}
use Rattle.covering_laws.proofs.covered_memory.Cells.{each_append, each_filter, each_prefixed, each_under, each_change}
use Rattle.covering_laws.proofs.covered_memory.Filled.{each_listed, fills_all}

-- the part at a path that goes on
pub part_along : (table : Table) (o : Option Reached) (path rest : List PathStep) → part_at table o (path ++ rest) ≡ part_at table (part_at table o path) rest
part_along table o [] rest = refl
part_along table o (step ∷ path) rest = part_along table (step_from table o step) path rest

-- what is listed of a member that becomes active points to nothing
only_unset : (P : List PathStep → Cell → Type 0) → ((p : List PathStep) → P p Unset) → (table : Table) (t : Ctype) → EachCell P (filled table false t [])
only_unset P unset table t =
    each_change (λ p c. c ≡ Unset) P (filled table false t []) (λ p c e. subst (P p) (sym e) (unset p))
    (fills_all table (λ o c. c ≡ Unset) (λ o c h. h) (λ o. refl) false (λ o s. refl) t None [] tt tt)

lost_each : (P : List PathStep → Cell → Type 0) → ((p : List PathStep) → P p Unset) → (table : Table) (marked : Bool) (t : Option Ctype) → EachCell P (lost table marked t)
lost_each P unset table false t = tt
lost_each P unset table true None = tt
lost_each P unset table true (Some t) = only_unset P unset table t

-- a value put under a path: each cell that is left is one of the value, or was there before, or points to nothing
pub put_each : (table : Table) (P : List PathStep → Cell → Type 0) (marked : Bool) (t : Option Ctype) (path : List PathStep) (value cells : CellList)
    → ((p : List PathStep) → P p Unset) → EachCell (λ p c. P (path ++ p) c) value → EachCell P cells → EachCell P (put table marked t path value cells)
put_each table P marked t [] value cells unset v h = each_listed P value (unset []) v
put_each table P marked t (step ∷ rest) value cells unset v h =
    by (goes_on t step cells) (λ list g. put_each table (λ p c. P (step ∷ p) c) marked (part_below table t step) rest value list (λ p. unset (step ∷ p)) v g)
  where
    by : (b : Bool) → ((list : CellList) → EachCell (λ p c. P (step ∷ p) c) list → EachCell (λ p c. P (step ∷ p) c) (put table marked (part_below table t step) rest value list))
        → EachCell P (cond b (below step cells ++ prefixed step (put table marked (part_below table t step) rest value (under step cells)) ++ above step cells)
        (prefixed step (put table marked (part_below table t step) rest value (lost table marked (part_below table t step)))))
    by true inner =
        each_append P (below step cells ++ prefixed step (put table marked (part_below table t step) rest value (under step cells))) (above step cells)
        (each_append P (below step cells) (prefixed step (put table marked (part_below table t step) rest value (under step cells)))
        (each_filter P (is_below (step_key step)) cells h)
        (each_prefixed P step (put table marked (part_below table t step) rest value (under step cells))
        (inner (under step cells) (each_under P step cells h))))
        (each_filter P (is_above (step_key step)) cells h)
    by false inner =
        each_prefixed P step (put table marked (part_below table t step) rest value (lost table marked (part_below table t step)))
        (inner (lost table marked (part_below table t step))
        (lost_each (λ p c. P (step ∷ p) c) (λ p. unset (step ∷ p)) table marked (part_below table t step)))

some_one : {X : Type 0} → {x y : X} → ◌≡◌ {A = Option X} (Some x) (Some y) → x ≡ y
some_one h = cc

none_some : {X : Type 0} → {x : X} → ◌≡◌ {A = Option X} None (Some x) → ⊥
none_some h = cc

-- the cells under a path
pub opened_each : (table : Table) (P : List PathStep → Cell → Type 0) (t : Option Ctype) (path : List PathStep) (cells found : CellList)
    → EachCell P cells → opened table t path cells ≡ Some found → EachCell (λ p c. P (path ++ p) c) found
opened_each table P t [] cells found h e = subst (λ (list : CellList). EachCell P list) (some_one e) h
opened_each table P t (step ∷ rest) cells found h e =
    by (goes_on t step cells) e (λ g. opened_each table (λ p c. P (step ∷ p) c) (part_below table t step) rest (under step cells) found (each_under P step cells h) g)
  where
    by : (b : Bool) → cond b (opened table (part_below table t step) rest (under step cells)) None ≡ Some found
        → (opened table (part_below table t step) rest (under step cells) ≡ Some found → EachCell (λ p c. P (step ∷ (rest ++ p)) c) found) → EachCell (λ p c. P (step ∷ (rest ++ p)) c) found
    by true g inner = inner g
    by false g inner = absurd (none_some g)
