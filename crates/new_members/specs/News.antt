-- What new members of one row demand.
use Rattle.std.specs.Prelude.{◌≡◌, ◌⊎◌, ℕ, ◌*◌, ◌/◌, ◌%◌, ◌<◌, ◌≤◌, List, take, drop, ◌++◌, Option, Some, IsSome}
use Rattle.std.specs.Prelude.{slice_get, slice_index, Contains}
use Rattle.std.specs.Int.{bit_at}
use Rattle.pta_base.specs.declared.effect.Effect.{Effect}
use Rattle.pta_base.specs.declared.effect.Effect.TheVariants.{Copies, StoresInto, CallsBack}
use Rattle.sol_model.specs.declared.system.System.{System}
use Rattle.sol_model.specs.declared.system.CallSite.{CallSite}
use Rattle.sol_model.specs.declared.system.Function.{Function}
use Rattle.sol_model.specs.declared.system.Constraint.{Constraint}
use Rattle.sol_model.specs.declared.system.Constraint.TheVariants.{Address, Copy, Load, Store, Field, Contents}
use Rattle.sol_model.specs.declared.system.Constraint.TheVariants.{Call}
use Rattle.sol_model.specs.declared.rows.Rows.{Rows}
use Rattle.sol_model.specs.Families.{Family, Has}
use Rattle.sol_model.specs.Places.{field_of}
use Rattle.sol_model.specs.Rules.{argument_row, back_signature, IsInArgument, PairEdge, PassesBack, EffectEdge}
use Rattle.sol_model.specs.Rules.{EffectFact, DemandsEdge, DemandsFact}
use Rattle.edge_book.specs.Edges.{only, Gains}

-- the words of one row have a location
abbrev pub IsIn : List ℕ → ℕ → Type 0
IsIn words location = bit_at (slice_index words (location / 64)) (location % 64) ≡ 1

-- all that words have is in those from one number on and below another, or is a member of a row already
abbrev pub AreAmong : Family → ℕ → List ℕ → ℕ → ℕ → Type 0
AreAmong F row words first end =
    (location : ℕ) → IsIn words location → (location / 64 < first) ⊎ (end ≤ location / 64) → Has F row location

-- the words of a row
abbrev pub words_at : Rows → ℕ → List ℕ
words_at rows row = take rows.width (drop (row * rows.width) rows.words)

-- each fact of a family is one of an older family, or a new member of the row that grew
abbrev pub IsGrown : Family → Family → ℕ → List ℕ → Type 0
IsGrown F G row new = (r location : ℕ) → Has G r location → Has F r location ⊎ ((r ≡ row) × Contains new location)

-- a list got more at its end
abbrev pub Extends : List (ℕ × ℕ) → List (ℕ × ℕ) → Type 0
Extends old new = (more : List (ℕ × ℕ)) × (new ≡ old ++ more)

-- a list of pairs got more: none that a relation doesn't have now, and all that it has now and hadn't before
pub record Renews (old new : List (ℕ × ℕ)) (Before After : ℕ → ℕ → Type 0) : Type 0 where
  pub stays : (a b : ℕ) → Contains old (a, b) → Contains new (a, b)
  pub sound : (a b : ℕ) → Contains new (a, b) → Contains old (a, b) ⊎ After a b
  pub whole : (a b : ℕ) → After a b → Before a b ⊎ Contains new (a, b)

-- some rule demands the fact
abbrev pub IsFact : System → Family → ℕ → ℕ → Type 0
IsFact S F row location =
    (constraint : Constraint) × Contains S.constraints constraint × DemandsFact S F constraint row location

-- the rule of a constraint reads what a row has
abbrev pub Reads : System → Constraint → ℕ → Type 0
Reads S (Address to location) row = ⊥
Reads S (Copy from to) row = ⊥
Reads S (Load pointer to ty sub) row = row ≡ pointer
Reads S (Store pointer from ty sub) row = row ≡ pointer
Reads S (Field from to ty member) row = row ≡ from
Reads S (Contents to from) row = (row ≡ to) ⊎ (row ≡ from)
Reads S (Call number) row =
    (call : CallSite) × (slice_get S.calls number ≡ Some call)
    × ((row ≡ call.callee) ⊎ ((k : ℕ) × (argument_row call k ≡ Some row)))

-- a row, with the number of a constraint whose rule reads it
abbrev pub IsReader : System → ℕ → ℕ → Type 0
IsReader S row number =
    (constraint : Constraint) × (slice_get S.constraints number ≡ Some constraint) × Reads S constraint row

-- copies to one whole object from each of a list
abbrev pub FromEach : System → ℕ → List ℕ → ℕ → ℕ → Type 0
FromEach S to froms a b = (from : ℕ) × Contains froms from × PairEdge S to from a b

-- copies to each whole object of a list from each of another
abbrev pub PairsOf : System → List ℕ → List ℕ → ℕ → ℕ → Type 0
PairsOf S tos froms a b = (to : ℕ) × Contains tos to × FromEach S to froms a b

-- what the call back of the function that a location is passes on
abbrev pub BackEdge : System → CallSite → Option (ℕ × ℕ) → ℕ → ℕ → ℕ → Type 0
BackEdge S call passed location a b =
    (number : ℕ) × (function : Function) × (slice_get S.functions number ≡ Some function)
    × (function.location ≡ location) × (function.signature ≡ back_signature passed)
    × PassesBack call passed function a b

-- an argument has the row that grew, and a new member
abbrev pub IsNewIn : CallSite → ℕ → ℕ → List ℕ → ℕ → Type 0
IsNewIn call k row new location = (argument_row call k ≡ Some row) × Contains new location

-- the edges that an effect demands of a call for the new members of a row
abbrev pub NewEdge : System → Family → CallSite → ℕ → ℕ → List ℕ → Effect → ℕ → ℕ → Type 0
NewEdge S F call number row new (Copies i j) a b =
    ((to : ℕ) × IsNewIn call i row new to
    × ((from : ℕ) × IsInArgument F call number j from × PairEdge S to from a b))
    ⊎ ((to : ℕ) × IsInArgument F call number i to
    × ((from : ℕ) × IsNewIn call j row new from × PairEdge S to from a b))
NewEdge S F call number row new (StoresInto i j) a b = IsNewIn call i row new b × (argument_row call j ≡ Some a)
NewEdge S F call number row new (CallsBack k passed) a b =
    (location : ℕ) × IsNewIn call k row new location × BackEdge S call passed location a b
NewEdge S F call number row new _ a b = ⊥

-- a book got the edges of one kind that it hadn't, at its end
pub record Takes (old new : List (ℕ × ℕ)) (Edge : ℕ → ℕ → Type 0) : Type 0 where
  pub kept : Extends old new
  pub gains : Gains old new Edge

-- a location is a library function of this number that a call may reach by its signature
abbrev pub IsLibraryAt : System → CallSite → ℕ → ℕ → Type 0
IsLibraryAt S call location number = (function : Function) × (slice_get S.functions number ≡ Some function)
    × (function.location ≡ location) × (function.signature ≡ call.signature) × IsSome function.library

-- the edges and the facts that the effects of such a function demand
abbrev pub LibraryEdge : System → Family → CallSite → ℕ → ℕ → ℕ → Type 0
LibraryEdge S F call location a b = (number : ℕ) × IsLibraryAt S call location number
    × ((function : Function) × (slice_get S.functions number ≡ Some function)
    × ((effect : Effect) × Contains function.effects effect × EffectEdge S F call number effect a b))

abbrev pub LibraryFact : System → CallSite → ℕ → ℕ → ℕ → Type 0
LibraryFact S call location a b = (number : ℕ) × IsLibraryAt S call location number
    × ((function : Function) × (slice_get S.functions number ≡ Some function)
    × ((effect : Effect) × Contains function.effects effect × EffectFact call number effect a b))

-- and those edges that they demand for new members of a row
abbrev pub NewLibraryEdge : System → Family → CallSite → ℕ → List ℕ → ℕ → ℕ → ℕ → Type 0
NewLibraryEdge S F call row new location a b = (number : ℕ) × IsLibraryAt S call location number
    × ((function : Function) × (slice_get S.functions number ≡ Some function)
    × ((effect : Effect) × Contains function.effects effect × NewEdge S F call number row new effect a b))

-- the edges that a call demands where its callee's row has one location and no other row has any
abbrev pub EnteredEdge : System → CallSite → ℕ → ℕ → ℕ → ℕ → Type 0
EnteredEdge S call number location a b = DemandsEdge S (only call.callee location) (Call number) a b

-- the new members of a row that may be the one that grew
abbrev pub IsNewOf : ℕ → ℕ → List ℕ → ℕ → Type 0
IsNewOf at row new location = (at ≡ row) × Contains new location

-- the edges and the facts that a call demands for new members of a row
abbrev pub NewCallEdge : System → Family → CallSite → ℕ → ℕ → List ℕ → ℕ → ℕ → Type 0
NewCallEdge S F call number row new a b =
    ((location : ℕ) × IsNewOf call.callee row new location × EnteredEdge S call number location a b)
    ⊎ (((location : ℕ) × IsNewOf call.callee row new location × LibraryEdge S F call location a b)
    ⊎ ((location : ℕ) × Has F call.callee location × NewLibraryEdge S F call row new location a b))

abbrev pub NewCallFact : System → CallSite → ℕ → List ℕ → ℕ → ℕ → Type 0
NewCallFact S call row new a b =
    (location : ℕ) × IsNewOf call.callee row new location × LibraryFact S call location a b

-- the edges that a Load or a Store demands where its pointer's row has one of a list of locations
abbrev pub NewPointerEdge : System → ℕ → List ℕ → Constraint → ℕ → ℕ → Type 0
NewPointerEdge S pointer new constraint a b =
    (location : ℕ) × Contains new location × DemandsEdge S (only pointer location) constraint a b

-- the facts that a Field demands for a list of locations
abbrev pub NewFieldFact : System → ℕ → ℕ → ℕ → List ℕ → ℕ → ℕ → Type 0
NewFieldFact S to ty member new a b =
    (whole : ℕ) × Contains new whole × (field_of S whole ty member ≡ Some b) × (a ≡ to)

-- the edges that a Contents demands for new members of a row
abbrev pub NewContentsEdge : System → Family → ℕ → ℕ → ℕ → List ℕ → ℕ → ℕ → Type 0
NewContentsEdge S F to from row new a b =
    ((d : ℕ) × IsNewOf to row new d × ((s : ℕ) × Has F from s × PairEdge S d s a b))
    ⊎ ((d : ℕ) × Has F to d × ((s : ℕ) × IsNewOf from row new s × PairEdge S d s a b))
