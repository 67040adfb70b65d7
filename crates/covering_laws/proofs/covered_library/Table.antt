-- The table: each library function's effect on memory beside what its effects do to sets.
use Rattle.std.proofs.Common.{arith, ◌≡◌, ℕ, zero, suc, ◌<◌, List, [], ◌∷◌, true, Option, Some, None, Result, Ok, Err, slice_get, Contains, refl, sym, subst, false}
use Rattle.pta_base.specs.declared.effect.Effect.{Effect}
use Rattle.pta_base.specs.declared.effect.Effect.TheVariants.{GivesArgument, GivesNew, GivesObject, Copies, StoresInto, CallsBack}
use Rattle.lib_summaries.specs.Table.{Row as Summary, rows as summaries, effects_among, effects_of}
use Rattle.c_types.specs.declared.key.ObjectKey.{ObjectKey}
use Rattle.c_types.specs.declared.key.ObjectKey.TheVariants.{Function as FunctionKey}
use Rattle.c_types.specs.declared.term.TypeId.{TypeId}
use Rattle.c_types.specs.Trees.{Ctype}
use Rattle.c_types.specs.Table.{type_of}
use Rattle.core_tree.specs.declared.node.Node.{Node}
use Rattle.core_tree.specs.declared.node.Program.{Program}
use Rattle.core_tree.specs.Typed.{trees_in}
use Rattle.sol_model.specs.declared.system.System.{System}
use Rattle.sol_model.specs.declared.system.CallSite.{CallSite}
use Rattle.sol_model.specs.declared.system.Function.{Function}
use Rattle.sol_model.specs.Families.{Family}
use Rattle.sol_model.specs.Places.{nodes_of as system_nodes}
use Rattle.sol_model.specs.Rules.{IsTarget}
use Rattle.sol_model.specs.Solutions.{IsClosed}
use Rattle.obj_space.specs.declared.location.Location.{Location}
use Rattle.obj_space.specs.View.{view_of}
use Rattle.row_numbers.specs.Kept.{nodes_of, kept_at}
use Rattle.row_numbers.specs.Numbers.{type_number}
use Rattle.row_numbers.specs.Setting.{Setting}
use Rattle.ref_cells.specs.declared.cells.Reason.{Reason}
use Rattle.ref_cells.specs.declared.cells.Value.{Value}
use Rattle.ref_cells.specs.declared.instance.Instance.{Instance}
use Rattle.ref_elements.specs.declared.outcome.Next.{Next}
use Rattle.ref_elements.specs.Arguments.{argument}
use Rattle.ref_elements.specs.Outcomes.{Effected}
use Rattle.ref_lib.specs.declared.rows.Making.{Making}
use Rattle.ref_lib.specs.declared.rows.Making.TheVariants.{Malloc, Calloc, Realloc, Free, Perhaps, Object, Place, Classes}
use Rattle.ref_lib.specs.declared.rows.Elements.{Elements}
use Rattle.ref_lib.specs.declared.rows.Elements.TheVariants.{CopyBytes, SetBytes, Search, Strtol, Sort, Find}
use Rattle.ref_lib.specs.declared.rows.Texts.{Texts}
use Rattle.ref_lib.specs.declared.rows.Texts.TheVariants.{Length, Compare, ComparePart, CopyText, AddText, CopyPart, Duplicate, Print, PrintPart, Line, Block}
use Rattle.ref_lib.specs.declared.rows.Plain.TheVariants.{Keep}
use Rattle.ref_lib.specs.declared.rows.Row.{Row}
use Rattle.ref_lib.specs.declared.rows.Row.TheVariants.{Makes, Moves, Writes, Answers}
use Rattle.ref_lib.specs.Effects.{rows, makes, moves, spells, row_effect, effect}
use Rattle.call_sites.specs.Calls.{IsCallSite}
use Rattle.normal_form.specs.Facts.{IsFunctionFact}
use Rattle.normal_form.specs.SystemOf.{SystemOf}
use Rattle.covering_laws.specs.covered_memory.Covered.{Sets, MemoryIn}
use Rattle.covering_laws.specs.covered_memory.Demands.{Grounds, IsFew}
use Rattle.covering_laws.proofs.covered_rows.Values.{sets, w'}
use Rattle.covering_laws.proofs.covered_library.Allocation.{IsCovered, malloc_in, calloc_in, free_in}
use Rattle.covering_laws.proofs.covered_library.Answers.{plain_in, object_done, perhaps_done, place_done}
use Rattle.covering_laws.proofs.covered_library.Copying.{copy_row_in}
use Rattle.covering_laws.proofs.covered_library.Setting.{set_row_in}
use Rattle.covering_laws.specs.covered_library.Calls.{Calling, Needs as NeedsOf, Backs as BacksOf}
use Rattle.covering_laws.proofs.covered_library.Turns.{search_row_in, strtol_row_in, sort_row_in, find_row_in}
use Rattle.covering_laws.proofs.covered_library.Texts.{IsBegun, length_row_in, compare_row_in, compare_part_row_in, copy_text_row_in, add_text_row_in, copy_part_row_in, duplicate_row_in, print_row_in, print_part_row_in, line_row_in, block_row_in}
use Rattle.covering_laws.proofs.covered_library.Begun.{begun_here, grown_suits, scalars_here}
use Rattle.covering_laws.proofs.covered_library.Growing.{realloc_row_in, ctype_row_in}

some_one : {X : Type 0} → {x y : X} → ◌≡◌ {A = Option X} (Some x) (Some y) → x ≡ y
some_one h = cc

none_some : {X : Type 0} → {x : X} → ◌≡◌ {A = Option X} None (Some x) → ⊥
none_some h = cc

err_ok : {X : Type 0} → {r : Reason} → {x : X} → ◌≡◌ {A = Result X Reason} (Err r) (Ok x) → ⊥
err_ok h = cc

-- the effects that a row's proof uses are among those listed
abbrev pub Lists : Row → List Effect → Type 0
Lists (Makes Malloc) effects = Contains effects GivesNew
Lists (Makes Calloc) effects = Contains effects GivesNew
Lists (Makes Realloc) effects = Contains effects GivesNew × Contains effects (Copies 0 1)
Lists (Makes Free) effects = Unit {0}
Lists (Makes (Perhaps position)) effects = Contains effects (GivesObject position)
Lists (Makes (Object position)) effects = Contains effects (GivesObject position)
Lists (Makes (Place position)) effects = Contains effects (GivesObject position)
Lists (Makes Classes) effects = Contains effects (GivesObject 7)
Lists (Moves CopyBytes) effects = Contains effects (GivesArgument 1) × Contains effects (Copies 1 2)
Lists (Moves SetBytes) effects = Contains effects (GivesArgument 1)
Lists (Moves Search) effects = Contains effects (GivesArgument 1)
Lists (Moves Strtol) effects = Contains effects (StoresInto 2 1)
Lists (Moves Sort) effects = Contains effects (CallsBack 4 (Some (1, 1)))
Lists (Moves Find) effects = Contains effects (CallsBack 5 (Some (1, 2))) × Contains effects (GivesArgument 2)
Lists (Writes CopyText) effects = Contains effects (GivesArgument 1)
Lists (Writes AddText) effects = Contains effects (GivesArgument 1)
Lists (Writes CopyPart) effects = Contains effects (GivesArgument 1)
Lists (Writes Line) effects = Contains effects (GivesArgument 1)
Lists (Writes Duplicate) effects = Contains effects GivesNew
Lists (Writes row) effects = Unit {0}
Lists (Answers Keep) effects = Contains effects (CallsBack 1 None)
Lists (Answers row) effects = Unit {0}

-- two tables side by side
abbrev pub Fit : List Row → List Summary → Type 0
Fit [] summary = Unit {0}
Fit (row ∷ rest) [] = ⊥
Fit (row ∷ rest) (summary ∷ others) = Lists row summary.effects × Fit rest others

here : {X : Type 0} → {x : X} → (xs : List X) → Contains (x ∷ xs) x
here xs = (0, omega arith, refl)

second : {X : Type 0} → {x : X} → (y : X) (xs : List X) → Contains (y ∷ x ∷ xs) x
second y xs = (1, omega arith, refl)

infixr 10 ◌&◌
◌&◌ : {A B : Type 0} → A → B → A × B
a & b = (a, b)

-- each row's effects are in the summary of its number
tables_fit : Fit rows summaries
unfolding rows summaries
tables_fit =
    -- malloc, calloc, realloc, free, memcpy, memmove, memset, strcpy, strcat, strncpy
    here [] & here [] & (here (Copies 0 1 ∷ []), second GivesNew []) & tt & (here (Copies 1 2 ∷ []), second (GivesArgument 1) []) & (here (Copies 1 2 ∷ []), second (GivesArgument 1) []) & here [] & here [] & here [] & here []
    -- strchr, strrchr, strstr, memchr, strtol, qsort, bsearch, strlen, strcmp, strncmp, memcmp, strdup, getenv, strerror
    & here [] & here [] & here [] & here [] & here [] & here [] & (here (GivesArgument 2 ∷ []), second (CallsBack 5 (Some (1, 2))) []) & tt & tt & tt & tt & here [] & here [] & here []
    -- atexit, exit, abort, printf, fprintf, sprintf, snprintf, puts, putchar, fputs, fputc, fopen, fclose, fgets
    & here [] & tt & tt & tt & tt & tt & tt & tt & tt & tt & tt & here [] & tt & here []
    -- fgetc, getchar, fread, fwrite, fflush, isalpha, isdigit, isalnum, isspace, isupper, islower, toupper, tolower
    & tt & tt & tt & tt & tt & tt & tt & tt & tt & tt & tt & tt & tt
    -- atoi, __errno_location, __ctype_b_loc, __assert_fail
    & tt & here [] & here [] & tt & tt

fit_at : (table : List Row) (summary : List Summary) → Fit table summary → (k : ℕ) (row : Row) → slice_get table k ≡ Some row → Lists row (effects_among summary k)
fit_at [] summary h k row e = absurd (none_some e)
fit_at (x ∷ rest) [] h k row e = absurd h
fit_at (x ∷ rest) (s ∷ others) h zero row e = subst (λ (r : Row). Lists r s.effects) (some_one e) h.0
fit_at (x ∷ rest) (s ∷ others) h (suc k) row e = fit_at rest others h.1 k row e

pub lists_of : (k : ℕ) (row : Row) → slice_get rows k ≡ Some row → Lists row (effects_of k)
unfolding effects_of
lists_of k row e = fit_at rows summaries tables_fit k row e

module _ (p : Program) (space : List Location) (system : System) (is : SystemOf p (view_of space) system) (F : Family) (closed : IsClosed system F) (grounds : Grounds p.types space system)
    (number n : ℕ) (node : Node) (site : CallSite) (at : slice_get system.calls number ≡ Some site) (of_call : IsCallSite (w' p space system is F closed grounds) n node site)
    (target : ℕ) (function : Function) (is_target : IsTarget system F site target function) (library : ℕ) (is_library : function.library ≡ Some library)
    (memory : List Instance) (all : MemoryIn (sets p space system is F closed grounds) memory)
    (few : (id : TypeId) → IsFew p.types (type_of p.types id.0))
    (counts : (id : TypeId) (i : ℕ) → kept_at (slice_get (nodes_of p.types (type_of p.types id.0)) i) ≡ true → i < system_nodes system (type_number (type_of p.types id.0)))
    (key : ObjectKey) (fixed : Option TypeId) (result : Ctype) (args : List Value) (word : ℕ) where
  abbrev g : Sets
  g = sets p space system is F closed grounds

  abbrev w : Setting
  w = w' p space system is F closed grounds

  -- the call
  abbrev here_call : Calling
  here_call = record { sets = g; setting = w; memory = memory; n = n; node = node; site = site; target = target; key = key; fixed = fixed; arguments = args }

  abbrev Needs : Row → Type 0
  Needs row = NeedsOf here_call row

  abbrev Backs : (row : Row) → Needs row → Next → Type 0
  Backs row needs next = BacksOf here_call row needs next

  makes_in : (row : Making) → Lists (Makes row) function.effects → Needs (Makes row) → (e : Effected) → makes p.types memory row key fixed args word ≡ Ok e → IsCovered p space system is F closed grounds number n node site at of_call target function is_target library is_library memory e
  makes_in Malloc l u e h = malloc_in p space system is F closed grounds number n node site at of_call target function is_target library is_library u.0.0 l u.0.1 key u.1.0 u.1.1 memory all word (argument args 0) e h
  makes_in Calloc l u e h = calloc_in p space system is F closed grounds number n node site at of_call target function is_target library is_library u.0.0 l u.0.1 key u.1.0 u.1.1 memory all word (argument args 0) (argument args 1) e h
  makes_in Realloc l u e h =
      realloc_row_in p space system is F closed grounds number n node site at of_call target function is_target library is_library memory all u.1.0 u.1.1 u.0.0 l.0 l.1 u.1.2 u.1.3 u.0.1 few counts key (argument args 0) u.1.4 fixed u.2.0 u.2.1
      (λ i old bytes old_is taken cells. begun_here g system grounds key u.2.0 site.fresh target u.2.1 old.ty (grown_suits g system grounds memory all fixed u.2.0.location.content u.3 i old old_is taken) bytes cells) word (argument args 1) e h
  makes_in Free l u e h = free_in p space system is F closed grounds number n node site at of_call target function is_target library is_library memory all (argument args 0) e h
  makes_in (Perhaps position) l u e h = perhaps_done p space system is F closed grounds number n node site at of_call target function is_target library is_library u.0.0 position l u.0.1 memory all u.1 word e h
  makes_in (Object position) l u e h = object_done p space system is F closed grounds number n node site at of_call target function is_target library is_library u.0.0 position l u.0.1 memory all u.1 e h
  makes_in (Place position) l u e h = place_done p space system is F closed grounds number n node site at of_call target function is_target library is_library u.0.0 position l u.0.1 memory all u.1 e h
  makes_in Classes l u e h = ctype_row_in p space system is F closed grounds number n node site at of_call target function is_target library is_library memory all u.0.0 l u.0.1 u.1 word e h

  moves_in : (row : Elements) → Lists (Moves row) function.effects → (u : Needs (Moves row)) → (e : Effected) → moves p.types memory row result args word ≡ Ok e → IsCovered p space system is F closed grounds number n node site at of_call target function is_target library is_library memory e × Backs (Moves row) u e.outcome.next
  moves_in CopyBytes l u e h =
      (copy_row_in p space system is F closed grounds number n node site at of_call target function is_target library is_library memory all u.1.0 u.2.0 u.1.1 u.2.1 u.0.0 l.0 l.1 u.1.2 u.2.2 u.1.3 u.2.3 u.0.1 few counts u.3 (argument args 0) (argument args 1) (argument args 2) u.1.4 u.2.4 e h, tt)
  moves_in SetBytes l u e h = (set_row_in p space system is F closed grounds number n node site at of_call target function is_target library is_library memory all u.1.0 u.1.1 u.0.0 l u.1.2 u.1.3 u.0.1 (argument args 0) (argument args 1) (argument args 2) u.1.4 e h, tt)
  moves_in Search l u e h = (search_row_in p space system is F closed grounds number n node site at of_call target function is_target library is_library memory all u.1.0 u.1.1 u.0.0 l u.1.2 u.1.3 u.0.1 word (argument args 0) u.1.4 e h, tt)
  moves_in Strtol l u e h = (strtol_row_in p space system is F closed grounds number n node site at of_call target function is_target library is_library memory all u.0.0 u.1.0 u.0.1 u.1.1 l u.0.2 u.1.2 u.0.3 u.1.3 result word (argument args 0) (argument args 1) u.0.4 u.1.4 e h, tt)
  moves_in Sort l u e h = sort_row_in p space system is F closed grounds number n node site at of_call target function is_target library is_library memory all u.0 u.1 u.3 word (argument args 0) (argument args 1) (argument args 2) (argument args 3) u.4 e h
  moves_in Find l u e h =
      find_row_in p space system is F closed grounds number n node site at of_call target function is_target library is_library memory all u.1.0 u.2.0 u.1.1 u.2.1 u.0.0 l.1 u.2.2 u.1.3 u.2.3 u.0.1 word (argument args 0) (argument args 1) (argument args 2) (argument args 3) (argument args 4) u.1.4 u.2.4 e h

  spells_in : (row : Texts) → Lists (Writes row) function.effects → Needs (Writes row) → (e : Effected) → spells p.types memory row key fixed result args word ≡ Ok e → IsCovered p space system is F closed grounds number n node site at of_call target function is_target library is_library memory e
  spells_in Length l u e h = length_row_in p space system is F closed grounds number n node site at of_call target function is_target library is_library memory all result (argument args 0) e h
  spells_in Compare l u e h = compare_row_in p space system is F closed grounds number n node site at of_call target function is_target library is_library memory all result (argument args 0) (argument args 1) e h
  spells_in ComparePart l u e h = compare_part_row_in p space system is F closed grounds number n node site at of_call target function is_target library is_library memory all result (argument args 0) (argument args 1) (argument args 2) e h
  spells_in CopyText l u e h = copy_text_row_in p space system is F closed grounds number n node site at of_call target function is_target library is_library memory all u.1.0 u.1.1 u.0.0 l u.1.2 u.1.3 u.0.1 (argument args 0) u.1.4 (argument args 1) e h
  spells_in AddText l u e h = add_text_row_in p space system is F closed grounds number n node site at of_call target function is_target library is_library memory all u.1.0 u.1.1 u.0.0 l u.1.2 u.1.3 u.0.1 (argument args 0) u.1.4 (argument args 1) e h
  spells_in CopyPart l u e h = copy_part_row_in p space system is F closed grounds number n node site at of_call target function is_target library is_library memory all u.1.0 u.1.1 u.0.0 l u.1.2 u.1.3 u.0.1 (argument args 0) u.1.4 (argument args 1) (argument args 2) e h
  spells_in Duplicate l u e h =
      duplicate_row_in p space system is F closed grounds number n node site at of_call target function is_target library is_library memory all u.0.0 l u.0.1 key fixed
      (λ bytes cells. subst (λ (o : Option TypeId). (b : IsBegun g key o bytes false cells) × Contains {X = ℕ × ℕ} site.fresh (target, b.begins.first)) (sym u.1.1) (scalars_here g key u.1.0 u.1.2 bytes cells site.fresh target u.1.3)) word (argument args 0) e h
  spells_in Print l u e h = print_row_in p space system is F closed grounds number n node site at of_call target function is_target library is_library memory all result word (argument args 0) e h
  spells_in PrintPart l u e h = print_part_row_in p space system is F closed grounds number n node site at of_call target function is_target library is_library memory all result word (argument args 0) (argument args 1) e h
  spells_in Line l u e h = line_row_in p space system is F closed grounds number n node site at of_call target function is_target library is_library memory all u.1.0 u.1.1 u.0.0 l u.1.2 u.1.3 u.0.1 (argument args 0) u.1.4 word (argument args 1) e h
  spells_in Block l u e h = block_row_in p space system is F closed grounds number n node site at of_call target function is_target library is_library memory all result word (argument args 0) (argument args 1) (argument args 2) e h

  -- The effect of any row leaves a covered memory covered, and what it gives and calls back with is covered.
  pub row_in_table : (row : Row) → Lists row function.effects → (u : Needs row) → (e : Effected) → row_effect p.types memory (Some row) key fixed result args word ≡ Ok e → IsCovered p space system is F closed grounds number n node site at of_call target function is_target library is_library memory e × Backs row u e.outcome.next
  row_in_table (Makes row) l u e h = (makes_in row l u e h, tt)
  row_in_table (Moves row) l u e h = moves_in row l u e h
  row_in_table (Writes row) l u e h = (spells_in row l u e h, tt)
  row_in_table (Answers row) l u e h = (plain_in p space system is F closed grounds number n node site at of_call target function is_target library is_library memory all row result args word e h, tt)

-- what a call of the library function of a number leaves, gives and calls back with
module _ (p : Program) (space : List Location) (system : System) (is : SystemOf p (view_of space) system) (F : Family) (closed : IsClosed system F) (grounds : Grounds p.types space system)
    (number n : ℕ) (node : Node) (site : CallSite) (at : slice_get system.calls number ≡ Some site) (of_call : IsCallSite (w' p space system is F closed grounds) n node site)
    (target : ℕ) (function : Function) (is_target : IsTarget system F site target function) (library : ℕ) (fact : IsFunctionFact (trees_in p) (view_of space) target (FunctionKey library) function)
    (memory : List Instance) (all : MemoryIn (sets p space system is F closed grounds) memory)
    (few : (id : TypeId) → IsFew p.types (type_of p.types id.0))
    (counts : (id : TypeId) (i : ℕ) → kept_at (slice_get (nodes_of p.types (type_of p.types id.0)) i) ≡ true → i < system_nodes system (type_number (type_of p.types id.0)))
    (key : ObjectKey) (fixed : Option TypeId) (result : TypeId) (args : List Value) (word : ℕ) where
  abbrev this_call : Calling
  this_call = record {
    sets = sets p space system is F closed grounds;
    setting = w' p space system is F closed grounds;
    memory = memory;
    n = n;
    node = node;
    site = site;
    target = target;
    key = key;
    fixed = fixed;
    arguments = args;
  }

  pub effect_in : (needs : (row : Row) → slice_get rows library ≡ Some row → NeedsOf this_call row) → (e : Effected) → effect p.types memory library key fixed result args word ≡ Ok e
      → (row : Row) × (row_is : slice_get rows library ≡ Some row) × IsCovered p space system is F closed grounds number n node site at of_call target function is_target library fact.library memory e × BacksOf this_call row (needs row row_is) e.outcome.next
  unfolding effect
  effect_in needs e h = by (slice_get rows library) refl h
    where
      by : (o : Option Row) → slice_get rows library ≡ o → row_effect p.types memory o key fixed (type_of p.types result.0) args word ≡ Ok e
          → (row : Row) × (row_is : slice_get rows library ≡ Some row) × IsCovered p space system is F closed grounds number n node site at of_call target function is_target library fact.library memory e × BacksOf this_call row (needs row row_is) e.outcome.next
      by None o_is k = absurd (err_ok k)
      by (Some row) o_is k =
          let r = row_in_table p space system is F closed grounds number n node site at of_call target function is_target library fact.library memory all few counts key fixed (type_of p.types result.0) args word row (subst (Lists row) (sym fact.effects) (lists_of library row o_is)) (needs row o_is) e k in
          (row, o_is, r.0, r.1)
