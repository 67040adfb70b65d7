-- What a constraint does where an allocating function's location stands only at its names and at what decays from them.
use Rattle.std.proofs.Common.{arith, ◌≡◌, ◌∙◌, ◌⊎◌, inl, inr, ℕ, ◌-◌, Bool, true, false, cond, List, Option, Some, None, slice_get, refl, sym, ap}
use Rattle.std.specs.Prelude.{nat_lt, unwrap_or}
use Rattle.std.specs.Option.{option_map, option_map_or}
use Rattle.std.proofs.lemmas.Bool.{false≢true}
use Rattle.c_types.specs.declared.key.ObjectKey.{ObjectKey}
use Rattle.c_types.specs.declared.key.ObjectKey.TheVariants.{Entity as EntityKey, Library as LibraryKey, Function as FunctionKey}
use Rattle.lib_summaries.specs.Table.{summary_of}
use Rattle.core_tree.specs.declared.node.Entity.{Entity}
use Rattle.core_tree.specs.declared.node.Linkage.{Linkage}
use Rattle.core_tree.specs.declared.node.Linkage.TheVariants.{External}
use Rattle.core_tree.specs.declared.node.Node.{Node}
use Rattle.core_tree.specs.declared.node.NodeKind.{NodeKind}
use Rattle.core_tree.specs.declared.node.NodeKind.TheVariants.{Decay, CallNode}
use Rattle.core_tree.specs.declared.node.Program.{Program}
use Rattle.core_tree.specs.declared.node.Storage.{Storage}
use Rattle.core_tree.specs.declared.node.Storage.TheVariants.{Declared}
use Rattle.core_tree.specs.Range.{Has, child_in, child_at}
use Rattle.core_tree.specs.Typed.{CoreTrees, trees_in}
use Rattle.sol_model.specs.declared.system.System.{System}
use Rattle.sol_model.specs.declared.system.Constraint.{Constraint}
use Rattle.sol_model.specs.Families.{Family}
use Rattle.sol_model.specs.Rules.{DemandsEdge, DemandsFact}
use Rattle.sol_model.specs.Systems.{IsConstraintValid}
use Rattle.obj_made.specs.Uses.{number_in, entity_number, is_starred}
use Rattle.obj_space.specs.declared.location.Location.{Location}
use Rattle.obj_space.specs.View.{SpaceView, first_from, view_of}
use Rattle.row_numbers.specs.Objects.{is_open, library_number, library_key, entity_key, location_of}
use Rattle.row_numbers.specs.Setting.{Setting, row}
use Rattle.normal_form.specs.SystemOf.{setting_of, SystemOf}
use Rattle.covered_runs.specs.covered_programs.allocation_laws.Spread.{IsRight, AreSpaced}
use Rattle.covered_runs.proofs.covered_programs.allocation_laws.Marks.{none_some, some_one, IsCalled, unstarred, IsName, IsDecay, IsMarked, as_name, as_decay, decay_marked}
use Rattle.covered_runs.proofs.covered_programs.allocation_laws.Firsts.{first_item}
use Rattle.covered_runs.proofs.covered_programs.allocation_laws.Ranges.{IsRowOf, is_special, special_row, marked_special}

-- The library number of an entity.

number_kept : (l : Linkage) (s : Storage) (name : List ℕ) (k : ℕ) → cond (is_open l s) (option_map (λ found. found.number) (summary_of name)) None ≡ Some k → number_in l s name ≡ Some k
number_kept External Declared name k h = h
number_kept l s name k h = absurd (none_some h)

number_back : (l : Linkage) (s : Storage) (name : List ℕ) (k : ℕ) → number_in l s name ≡ Some k → cond (is_open l s) (option_map (λ found. found.number) (summary_of name)) None ≡ Some k
number_back External Declared name k h = h
number_back l s name k h = absurd (none_some h)

pub made_number : (x : Entity) (k : ℕ) → library_number x ≡ Some k → entity_number x ≡ Some k
made_number x k h = number_kept x.linkage x.storage x.name k h

pub row_number : (x : Entity) (k : ℕ) → entity_number x ≡ Some k → library_number x ≡ Some k
row_number x k h = number_back x.linkage x.storage x.name k h

open_declared : (l : Linkage) (s : Storage) → is_open l s ≡ true → s ≡ Declared
open_declared External Declared h = refl
open_declared l s h = absurd (false≢true h)

pub number_declared : (x : Entity) (k : ℕ) → library_number x ≡ Some k → x.storage ≡ Declared
number_declared x k h = by (is_open x.linkage x.storage) refl h
  where
    by : (b : Bool) → is_open x.linkage x.storage ≡ b → cond b (option_map (λ found. found.number) (summary_of x.name)) None ≡ Some k → x.storage ≡ Declared
    by true is g = open_declared x.linkage x.storage is
    by false is g = absurd (none_some g)

entity_function : (e k : ℕ) → EntityKey e ≡ FunctionKey k → ⊥
entity_function e k h = cc

library_function : (n k : ℕ) → LibraryKey n ≡ FunctionKey k → ⊥
library_function n k h = cc

function_once : (n k : ℕ) → FunctionKey n ≡ FunctionKey k → n ≡ k
function_once n k h = cc

pub key_number : (e k : ℕ) (o : Option Entity) → entity_key e o ≡ FunctionKey k → (x : Entity) × (o ≡ Some x) × (library_number x ≡ Some k)
key_number e k None h = absurd (entity_function e k h)
key_number e k (Some x) h = (x, refl, by (library_number x) h)
  where
    by_less : (n : ℕ) (b : Bool) → (let q : ObjectKey = cond b (FunctionKey n) (LibraryKey (n - 52)) in q) ≡ FunctionKey k → n ≡ k
    by_less n true g = function_once n k g
    by_less n false g = absurd (library_function (n - 52) k g)

    by : (o : Option ℕ) → option_map_or library_key o (EntityKey e) ≡ FunctionKey k → o ≡ Some k
    by None g = absurd (entity_function e k g)
    by (Some n) g = ap (λ (m : ℕ). Some m) (by_less n (nat_lt n 55) g)

-- the kinds of nodes that pass no function's name on
abbrev pub is_plain : NodeKind → Bool
is_plain Decay = false
is_plain CallNode = false
is_plain kind = true

module _ (p : Program) (space : List Location) (system : System) (is : SystemOf p (view_of space) system) (right : IsRight p) (spaced : AreSpaced p space) (F : Family) (k L : ℕ) (own : first_from 0 space (FunctionKey k) ≡ Some L) (unused : is_starred p.entities.items p.nodes.items k ≡ false) where
  abbrev pub u : CoreTrees
  u = trees_in p

  abbrev pub s : SpaceView
  s = view_of space

  abbrev pub w : Setting
  w = setting_of p (view_of space) is.owners

  abbrev pub IsSpecial : ℕ → Type 0
  IsSpecial r = is_special (trees_in p) (view_of space) k r ≡ true

  -- what a constraint demands of the function's location stays among the rows that have it
  pub record Keeps (c : Constraint) : Type 0 where
    pub edges : (a b : ℕ) → IsConstraintValid system c → DemandsEdge system F c a b → IsSpecial a → IsSpecial b
    pub facts : (r : ℕ) → DemandsFact system F c r L → IsSpecial r

  -- an object that begins there is the function
  pub key_own : (key : ObjectKey) → first_from 0 space key ≡ Some L → key ≡ FunctionKey k
  key_own key h =
      let a = first_item space key L h in
      let b = first_item space (FunctionKey k) L own in
      sym a.2 ∙ (ap (λ (x : Location). x.key) (some_one (sym a.1 ∙ b.1)) ∙ b.2)

  pub key_or : (key : ObjectKey) → unwrap_or (first_from 0 space key) 0 ≡ L → key ≡ FunctionKey k
  key_or key h = by (first_from 0 space key) refl h
    where
      by : (o : Option ℕ) → first_from 0 space key ≡ o → unwrap_or o 0 ≡ L → key ≡ FunctionKey k
      by None at g = absurd (let less = spaced.after k L own in omega arith)
      by (Some l) at g = key_own key (at ∙ ap (λ (m : ℕ). Some m) g)

  -- an entity whose object begins there is the library's function of that number
  pub entity_own : (e : ℕ) → L ≡ location_of (trees_in p) (view_of space) e → (x : Entity) × (slice_get p.entities.items e ≡ Some x) × (library_number x ≡ Some k)
  entity_own e h = key_number e k (slice_get p.entities.items e) (key_or (entity_key e (slice_get p.entities.items e)) (sym h))

  child_is : (n i v : ℕ) (node : Node) → slice_get p.nodes.items n ≡ Some node → slice_get node.children i ≡ Some v → child_at (trees_in p) n i ≡ Some v
  child_is n i v node at e = ap (λ (o : Option Node). child_in o i) at ∙ e

  -- the parent of a node that has the function passes it on to itself, or calls it
  pub from_child : (n : ℕ) (node : Node) (i v r : ℕ) → slice_get p.nodes.items n ≡ Some node → slice_get node.children i ≡ Some v → IsRowOf (trees_in p) (view_of space) v r → IsSpecial r
      → ((node.kind ≡ Decay) × IsSpecial (row (trees_in p) (view_of space) n)) ⊎ ((node.kind ≡ CallNode) × (i ≡ 0))
  from_child n node i v r at child rows special = by (special_row (trees_in p) (view_of space) right.rows k v r special rows)
    where
      by_name : IsName (trees_in p) k v → IsCalled p.nodes.items v → ((node.kind ≡ Decay) × IsSpecial (row (trees_in p) (view_of space) n)) ⊎ ((node.kind ≡ CallNode) × (i ≡ 0))
      by_name name c =
          let same = right.once n c.callee i 0 v (child_is n i v node at child) (child_is c.callee 0 v c.decay c.decay_there c.under) in
          let node_is : node ≡ c.decay = some_one (sym at ∙ (ap (slice_get p.nodes.items) same.0 ∙ c.decay_there)) in
          let kind : node.kind ≡ Decay = ap (λ (x : Node). x.kind) node_is ∙ c.decay_kind in
          let first : slice_get node.children 0 ≡ Some v = ap (λ (x : Node). slice_get x.children 0) node_is ∙ c.under in
          inl (kind, marked_special (trees_in p) (view_of space) k n node at (decay_marked (trees_in p) k n (record { node = node; there = at; kind = kind; under = v; child = first; name = name })))

      by_decay : IsDecay (trees_in p) k v → ((node.kind ≡ Decay) × IsSpecial (row (trees_in p) (view_of space) n)) ⊎ ((node.kind ≡ CallNode) × (i ≡ 0))
      by_decay d =
          let c = unstarred p.entities.items p.nodes.items k unused d.under d.name.node d.name.there d.name.name in
          let callee = (right.once v c.callee 0 0 d.under (child_is v 0 d.under d.node d.there d.child) (child_is c.callee 0 d.under c.decay c.decay_there c.under)).0 in
          let first : slice_get c.node.children 0 ≡ Some v = c.first ∙ ap (λ (m : ℕ). Some m) (sym callee) in
          let same = right.once n c.call i 0 v (child_is n i v node at child) (child_is c.call 0 v c.node c.there first) in
          let node_is : node ≡ c.node = some_one (sym at ∙ (ap (slice_get p.nodes.items) same.0 ∙ c.there)) in
          inr (ap (λ (x : Node). x.kind) node_is ∙ c.kind, same.1)

      by : IsMarked (trees_in p) k v → ((node.kind ≡ Decay) × IsSpecial (row (trees_in p) (view_of space) n)) ⊎ ((node.kind ≡ CallNode) × (i ≡ 0))
      by (as_name h) = by_name h (unstarred p.entities.items p.nodes.items k unused v h.node h.there h.name)
      by (as_decay h) = by_decay h

  -- no node of another kind has the function
  pub plain_child : (n : ℕ) (node : Node) (v r : ℕ) → slice_get p.nodes.items n ≡ Some node → is_plain node.kind ≡ true → Has node.children v → IsRowOf (trees_in p) (view_of space) v r → IsSpecial r → ⊥
  plain_child n node v r at plain child rows special = elim (from_child n node child.0 v r at child.1 rows special) [
    | inl d ↦ false≢true (ap is_plain (sym d.0) ∙ plain)
    | inr c ↦ false≢true (ap is_plain (sym c.0) ∙ plain)
  ]
