-- A call over what is called and its arguments.
use Rattle.std.proofs.Common.{◌≡◌, ℕ, suc, ◌<◌, Bool, true, List, [], ◌∷◌, length, map, All, Err, refl, sym, ap, ◌∙◌}
use Rattle.std.proofs.lemmas.List.Elements.{All-head, All-tail}
use Rattle.pta_base.specs.declared.kind.Kind.{Kind}
use Rattle.pta_base.specs.declared.kind.Kind.TheVariants.{Operand}
use Rattle.pta_base.specs.declared.place.Place.{Place}
use Rattle.c_types.specs.Trees.{Ctype, Ctypes, grow, VoidType, BoolType, IntegerType, FloatingType, VaListType, PointerTo, ArrayOf, FunctionFrom, StructureOf, UnionOf}
use Rattle.c_types.specs.declared.term.Form.{Form}
use Rattle.c_types.specs.declared.term.Term.{Term}
use Rattle.c_types.specs.declared.term.Term.TheVariants.{Void, Bool as BoolTerm, Integer, Floating, VaList, Pointer, Array, Function, Structure, Union}
use Rattle.core_tree.specs.declared.node.Unit.{Unit}
use Rattle.core_tree.specs.declared.node.NodeKind.{NodeKind}
use Rattle.c_consts.specs.Core.{Core, Cores, Of, MoreCores}
use Rattle.c_senses.specs.Given.{Given, Fits, Refuses, given_if, ◌>>=◌}
use Rattle.c_senses.specs.World.{World}
use Rattle.c_senses.specs.Conversions.{typed}
use Rattle.c_senses.specs.Objects.{one_more, callee_row, takes_so_many, count_of, call_of}
use Rattle.core_nodes.specs.Standing.{core_at, Builds, Made}
use Rattle.core_nodes.specs.declared.fault.CheckFault.{CheckFault}
use Rattle.core_nodes.specs.declared.fault.CheckFault.TheVariants.{BadOperand, Unsupported, OutOfMemory}
use Rattle.value_rows.specs.Calls.{CoresMade, result_in, parameters_in, form_in, call_over, called}

abbrev Equal : (A : Type 0) → A → A → Type 0
Equal A a b = a ≡ b

-- a refusal of one row is one of another
refused_same : (k : Kind) (n : ℕ) (l : Kind) (m : ℕ) → Equal (Given Cores) (Refuses k n) (Refuses l m) → Equal (Given Core) (Refuses k n) (Refuses l m)
refused_same k n l m e = let kinds : k ≡ l = cc in let nodes : n ≡ m = cc in cc

module _ (c : Core) (b : Bool) (at : ℕ) (kind : NodeKind) (place : Place) (t : Ctype) where
  -- where all arguments fit
  pub call_made : (g : Given Cores) (all : Cores) → (g >>= (λ cores. Fits (one_more c cores))) ≡ Fits all → (g >>= (λ cores. given_if b Operand at (Fits (Of kind place t (MoreCores c cores))))) ≡ given_if b Operand at (Fits (Of kind place t all))
  call_made (Fits cores) all e = let same : MoreCores c cores ≡ all = cc in ap (λ (x : Cores). given_if b Operand at (Fits (Of kind place t x))) same
  call_made (Refuses k n) all e = cc

  -- where one doesn't
  pub call_fails : (u v : Unit) (e : CheckFault) (g : Given Cores) → CoresMade u (Err e) (g >>= (λ cores. Fits (one_more c cores))) → Made v (Err e) (g >>= (λ cores. given_if b Operand at (Fits (Of kind place t (MoreCores c cores)))))
  call_fails u v (BadOperand m) (Fits cores) h = let no : Fits (one_more c cores) ≡ Refuses Operand m = h in cc
  call_fails u v (BadOperand m) (Refuses k n) h = refused_same k n Operand m h
  call_fails u v (Unsupported other m) (Fits cores) h = let no : Fits (one_more c cores) ≡ Refuses other m = h in cc
  call_fails u v (Unsupported other m) (Refuses k n) h = refused_same k n other m h
  call_fails u v OutOfMemory g h = tt

-- the arguments stand on as nodes are added
module _ (u v : Unit) (b : Builds u v) where
  pub cores_grown : (is : List ℕ) → All (λ i. i < length u.nodes.items) is → map (λ i. core_at v i) is ≡ map (λ i. core_at u i) is
  cores_grown [] all = refl
  cores_grown (i ∷ is) all =
      let first = b.cores i (All-head (λ i. i < length u.nodes.items) i is all) in
      let rest = cores_grown is (All-tail (λ i. i < length u.nodes.items) i is all) in
      cc

-- what points to no function isn't called
not_called : (w : World) (place : Place) (at : ℕ) (c : Core) (args : List Core) (to : Ctype) → ((r : Ctype) (ps : Ctypes) (form : Form) → to ≡ FunctionFrom r ps form → ⊥) → callee_row w place at c args (PointerTo to) ≡ Refuses Operand at
not_called w place at c args (FunctionFrom r ps form) h = absurd (h r ps form refl)
not_called w place at c args VoidType h = refl
not_called w place at c args BoolType h = refl
not_called w place at c args (IntegerType size rank signed) h = refl
not_called w place at c args FloatingType h = refl
not_called w place at c args VaListType h = refl
not_called w place at c args (PointerTo to) h = refl
not_called w place at c args (ArrayOf of n) h = refl
not_called w place at c args (StructureOf tag) h = refl
not_called w place at c args (UnionOf tag) h = refl

pub callee_refused : (w : World) (place : Place) (at : ℕ) (c : Core) (args : List Core) (t : Ctype) → ((r : Ctype) (ps : Ctypes) (form : Form) → t ≡ PointerTo (FunctionFrom r ps form) → ⊥) → callee_row w place at c args t ≡ Refuses Operand at
callee_refused w place at c args (PointerTo to) h = not_called w place at c args to (λ r ps form e. h r ps form (ap PointerTo e))
callee_refused w place at c args (FunctionFrom r ps form) h = refl
callee_refused w place at c args VoidType h = refl
callee_refused w place at c args BoolType h = refl
callee_refused w place at c args (IntegerType size rank signed) h = refl
callee_refused w place at c args FloatingType h = refl
callee_refused w place at c args VaListType h = refl
callee_refused w place at c args (ArrayOf of n) h = refl
callee_refused w place at c args (StructureOf tag) h = refl
callee_refused w place at c args (UnionOf tag) h = refl

-- a type that isn't refused by itself
pub typed_plain : (at : ℕ) (g : Given Core) (trees : List Ctype) (term : Term) → (term ≡ Floating → ⊥) → typed at (grow trees term) g ≡ g
typed_plain at g trees Floating f = absurd (f refl)
typed_plain at g trees VaList f = refl
typed_plain at g trees Void f = refl
typed_plain at g trees BoolTerm f = refl
typed_plain at g trees (Integer size rank signed) f = refl
typed_plain at g trees (Pointer to) f = refl
typed_plain at g trees (Array of length) f = refl
typed_plain at g trees (Function result parameters form) f = refl
typed_plain at g trees (Structure tag) f = refl
typed_plain at g trees (Union tag) f = refl

length_map : {X Y : Type 0} (f : X → Y) (xs : List X) → length xs ≡ length (map f xs)
length_map f [] = refl
length_map f (x ∷ xs) = ap suc (length_map f xs)

-- where calls may stand, and so many arguments are taken
pub called_is : (w : World) (place : Place) (at : ℕ) (may : Bool) (c : Core) (t : Ctype) (u : Unit) (args : List ℕ) → ((g : Given Core) → typed at (result_in t) g ≡ g) → may ≡ true
    → takes_so_many (form_in t) (count_of (parameters_in t)) (length args) ≡ true → called w place at may c t (map (λ i. core_at u i) args) ≡ call_over w place at c t (map (λ i. core_at u i) args)
called_is w place at may c t u args plain m takes =
    let cores = map (λ i. core_at u i) args in
    let of = call_of w place at c (result_in t) (parameters_in t) (form_in t) cores in
    plain (given_if may Operand at of)
    ∙ ap (λ (b : Bool). given_if b Operand at of) m
    ∙ ap (λ (b : Bool). given_if b Operand at (call_over w place at c t cores)) (ap (takes_so_many (form_in t) (count_of (parameters_in t))) (sym (length_map (λ i. core_at u i) args)) ∙ takes)
