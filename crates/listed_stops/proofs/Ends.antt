-- A call that reaches a library function which ends an object, calls back or keeps a function stands as a bad call.
use Rattle.std.proofs.Common.{arith, ◌≡◌, ◌∙◌, ◌⊎◌, inl, inr, ℕ, zero, suc, ◌+◌, ◌&&◌, ◌||◌, not, Bool, true, false, cond, List, [], ◌∷◌, length, filter_map, Option, Some, None, Err, slice_get, Contains, refl, sym, ap, subst}
use Rattle.std.specs.List.{list_any, range_with_len, cons_option}
use Rattle.std.proofs.lemmas.Bool.{false≢true}
use Rattle.pta_base.specs.declared.effect.Effect.{Effect}
use Rattle.pta_base.specs.declared.effect.Effect.TheVariants.{CallsBack}
use Rattle.c_types.specs.declared.key.ObjectKey.{ObjectKey}
use Rattle.c_types.specs.declared.key.ObjectKey.TheVariants.{Function as FunctionKey}
use Rattle.core_tree.specs.declared.node.Node.{Node}
use Rattle.core_tree.specs.declared.node.NodeKind.{NodeKind}
use Rattle.core_tree.specs.declared.node.NodeKind.TheVariants.{CallNode}
use Rattle.sol_model.specs.declared.system.CallSite.{CallSite}
use Rattle.sol_model.specs.declared.system.Function.{Function}
use Rattle.lib_summaries.specs.Table.{Row as Summary, rows as summaries, name_of, effects_among, effects_of}
use Rattle.call_sites.specs.Calls.{is_call, call_if, calls_upto}
use Rattle.normal_form.specs.Facts.{effects_by}
use Rattle.stop_places.specs.Found.{is_named}
use Rattle.stop_places.specs.Targets.{HasStranger, ReachesEnder, enders}
use Rattle.stop_places.proofs.Finding.{is_named_from}
use Rattle.stop_places.proofs.Pushed.{in_any}
use Rattle.ref_cells.specs.declared.cells.Reason.TheVariants.{BadCall}
use Rattle.ref_cells.specs.declared.cells.Value.{Value}
use Rattle.ref_cells.specs.declared.instance.Instance.{Instance}
use Rattle.ref_lib.specs.declared.rows.Row.{Row}
use Rattle.ref_lib.specs.Effects.{rows}
use Rattle.ref_state.specs.declared.frames.Frame.{Frame}
use Rattle.ref_state.specs.declared.state.State.{State}
use Rattle.ref_frames.specs.Running.{Running}
use Rattle.ref_calls.specs.Library.{library_row}
use Rattle.covering_laws.proofs.covered_rows.Targets.{function_there}
use Rattle.covering_laws.specs.covered_state.World.{World, trees_of, IsCallAt, IsTargetAt}
use Rattle.covering_laws.specs.covered_state.Items.{IsPending, IsPendingBack}
use Rattle.covering_laws.specs.covered_state.State.{at_exit, KeptIn}
use Rattle.listed_stops.proofs.Fair.{not_fair}
use Rattle.listed_stops.proofs.FairTexts.{is_ender}
use Rattle.listed_stops.proofs.FairCalls.{library_fair}

some_one : {X : Type 0} → {x y : X} → ◌≡◌ {A = Option X} (Some x) (Some y) → x ≡ y
some_one h = cc

none_some : {X : Type 0} → {x : X} → ◌≡◌ {A = Option X} None (Some x) → ⊥
none_some h = cc

-- a call node that stands as a bad call
pub record IsBadAt (world : World) (n : ℕ) : Type 0 where
  pub node : Node
  pub there : slice_get (trees_of world).nodes n ≡ Some node
  pub kind : node.kind ≡ CallNode
  pub site : CallSite
  pub site_is : slice_get world.system.calls (length (calls_upto (trees_of world).nodes n)) ≡ Some site
  pub bad : HasStranger world.system world.family site ⊎ ReachesEnder world.system world.family site

-- ---- the number of a call is that of the calls before it
abbrev pub call_of : List Node → ℕ → Option ℕ
call_of nodes j = call_if j (slice_get nodes j)

kind_call : (kind : NodeKind) → is_call kind ≡ true → kind ≡ CallNode
kind_call CallNode e = refl
kind_call kind e = absurd (false≢true e)

call_in : (nodes : List Node) (s m : ℕ) → call_of nodes s ≡ Some m → (node : Node) × (slice_get nodes s ≡ Some node) × (node.kind ≡ CallNode) × (s ≡ m)
call_in nodes s m h = by (slice_get nodes s) refl h
  where
    by : (o : Option Node) → slice_get nodes s ≡ o → call_if s o ≡ Some m → (node : Node) × (slice_get nodes s ≡ Some node) × (node.kind ≡ CallNode) × (s ≡ m)
    by None is g = absurd (none_some g)
    by (Some node) is g = by_kind (is_call node.kind) refl g
      where
        by_kind : (b : Bool) → is_call node.kind ≡ b → (let o : Option ℕ = cond b (Some s) None in o) ≡ Some m → (node : Node) × (slice_get nodes s ≡ Some node) × (node.kind ≡ CallNode) × (s ≡ m)
        by_kind true k g = (node, is, kind_call node.kind k, some_one g)
        by_kind false k g = absurd (none_some g)

pub record IsPlaced (nodes : List Node) (s k n : ℕ) : Type 0 where
  pub node : Node
  pub there : slice_get nodes n ≡ Some node
  pub kind : node.kind ≡ CallNode
  pub before : ℕ
  pub at : n ≡ s + before
  pub count : k ≡ length (filter_map (call_of nodes) (range_with_len s before))

placed : (nodes : List Node) (s c k n : ℕ) → slice_get (filter_map (call_of nodes) (range_with_len s c)) k ≡ Some n → IsPlaced nodes s k n
placed nodes s zero k n h = absurd (none_some h)
placed nodes s (suc c) k n h = by (call_of nodes s) refl k h (λ j g. placed nodes (s + 1) c j n g)
  where
    by : (o : Option ℕ) → call_of nodes s ≡ o → (k : ℕ) → slice_get (cons_option o (filter_map (call_of nodes) (range_with_len (s + 1) c))) k ≡ Some n
        → ((j : ℕ) → slice_get (filter_map (call_of nodes) (range_with_len (s + 1) c)) j ≡ Some n → IsPlaced nodes (s + 1) j n) → IsPlaced nodes s k n
    by None is k g next =
        let p = next k g in
        record {
          node = p.node;
          there = p.there;
          kind = p.kind;
          before = suc p.before;
          at = (let e = p.at in omega arith);
          count = p.count ∙ sym (ap (λ (o : Option ℕ). length (cons_option o (filter_map (call_of nodes) (range_with_len (s + 1) p.before)))) is);
        }
    by (Some m) is zero g next =
        let c = call_in nodes s m is in
        let same : s ≡ n = c.3 ∙ some_one g in
        record { node = c.0; there = subst (λ (j : ℕ). slice_get nodes j ≡ Some c.0) same c.1; kind = c.2; before = 0; at = omega arith; count = refl }
    by (Some m) is (suc k) g next =
        let p = next k g in
        record {
          node = p.node;
          there = p.there;
          kind = p.kind;
          before = suc p.before;
          at = (let e = p.at in omega arith);
          count = ap (λ (j : ℕ). suc j) p.count ∙ sym (ap (λ (o : Option ℕ). length (cons_option o (filter_map (call_of nodes) (range_with_len (s + 1) p.before)))) is);
        }

module _ (world : World) (n call : ℕ) (h : IsCallAt world call n) where
  pub place : IsPlaced (trees_of world).nodes 0 call n
  place = placed (trees_of world).nodes 0 (length (trees_of world).nodes) call n h

  pub number_of_call : call ≡ length (calls_upto (trees_of world).nodes n)
  number_of_call = place.count ∙ ap (λ (j : ℕ). length (calls_upto (trees_of world).nodes j)) (let e = place.at in let same : place.before ≡ n = omega arith in same)

  -- a call that has a stranger or an ender stands as a bad one
  pub bad_at : (site : CallSite) → slice_get world.system.calls call ≡ Some site → HasStranger world.system world.family site ⊎ ReachesEnder world.system world.family site → IsBadAt world n
  bad_at site at bad =
      record { node = place.node; there = place.there; kind = place.kind; site = site; site_is = ap (slice_get world.system.calls) (sym number_of_call) ∙ at; bad = bad }

-- ---- the library's tables
then_named : (a b : Bool) → a ≡ true → (not a || b) ≡ true → b ≡ true
then_named true b is e = e
then_named false b is e = absurd (false≢true is)

first_true : (a b : Bool) → (a && b) ≡ true → a ≡ true
first_true true b e = refl
first_true false b e = absurd (false≢true e)

second_true : (a b : Bool) → (a && b) ≡ true → b ≡ true
second_true true b e = e
second_true false b e = absurd (false≢true e)

-- the functions of these rows have those names
abbrev rows_named : ℕ → List Row → Bool
rows_named m [] = true
rows_named m (row ∷ rest) = (not (is_ender row) || is_named enders m) && rows_named (suc m) rest

all_named : rows_named 0 rows ≡ true
unfolding rows summaries name_of enders
all_named = refl

named_at : (list : List Row) (m k : ℕ) (row : Row) → rows_named m list ≡ true → slice_get list k ≡ Some row → is_ender row ≡ true → is_named enders (m + k) ≡ true
named_at [] m k row all at h = absurd (none_some at)
named_at (x ∷ rest) m zero row all at h =
    (let z : m + 0 ≡ m = omega arith in ap (is_named enders) z)
    ∙ then_named (is_ender x) (is_named enders m) (ap is_ender (some_one at) ∙ h) (first_true (not (is_ender x) || is_named enders m) (rows_named (suc m) rest) all)
named_at (x ∷ rest) m (suc k) row all at h =
    (let z : m + suc k ≡ suc m + k = omega arith in ap (is_named enders) z)
    ∙ named_at rest (suc m) k row (second_true (not (is_ender x) || is_named enders m) (rows_named (suc m) rest) all) at h

from_zero : (k : ℕ) → is_named enders (0 + k) ≡ true → is_named enders k ≡ true
from_zero k h = (let z : k ≡ 0 + k = omega arith in ap (is_named enders) z) ∙ h

row_named : (k : ℕ) (row : Row) → slice_get rows k ≡ Some row → is_ender row ≡ true → is_named enders k ≡ true
row_named k row at h = from_zero k (named_at rows 0 k row all_named at h)

-- so have those that call back
abbrev is_back : Effect → Bool
is_back (CallsBack k passed) = true
is_back effect = false

abbrev backs_named : ℕ → List Summary → Bool
backs_named m [] = true
backs_named m (s ∷ rest) = (not (list_any is_back s.effects) || is_named enders m) && backs_named (suc m) rest

all_backs : backs_named 0 summaries ≡ true
unfolding summaries name_of enders
all_backs = refl

none_in : (e : Effect) → Contains [] e → ⊥
none_in e c = (let lt = c.1 in omega arith)

back_at : (list : List Summary) (m k : ℕ) (e : Effect) → backs_named m list ≡ true → Contains (effects_among list k) e → is_back e ≡ true → is_named enders (m + k) ≡ true
back_at [] m k e all c h = absurd (none_in e c)
back_at (x ∷ rest) m zero e all c h =
    (let z : m + 0 ≡ m = omega arith in ap (is_named enders) z)
    ∙ then_named (list_any is_back x.effects) (is_named enders m) (in_any is_back x.effects e c h) (first_true (not (list_any is_back x.effects) || is_named enders m) (backs_named (suc m) rest) all)
back_at (x ∷ rest) m (suc k) e all c h =
    (let z : m + suc k ≡ suc m + k = omega arith in ap (is_named enders) z)
    ∙ back_at rest (suc m) k e (second_true (not (list_any is_back x.effects) || is_named enders m) (backs_named (suc m) rest) all) c h

back_named : (k j : ℕ) (passed : Option (ℕ × ℕ)) → Contains (effects_of k) (CallsBack j passed) → is_named enders k ≡ true
unfolding effects_of
back_named k j passed c = from_zero k (back_at summaries 0 k (CallsBack j passed) all_backs c refl)

exit_named : is_named enders at_exit ≡ true
unfolding summaries name_of enders
exit_named = refl

-- ---- targets
module _ (world : World) (n : ℕ) where
  ender_bad : (k : ℕ) → IsTargetAt world n (FunctionKey k) → is_named enders k ≡ true → IsBadAt world n
  ender_bad k t named =
      let f = function_there world.program world.space world.system world.is_system t.function (FunctionKey k) t.function_is in
      let library : t.target.1.library ≡ Some k = ap (λ (x : Function). x.library) (some_one (sym t.target.3.known ∙ f.1)) ∙ f.2.library in
      bad_at world n t.call t.call_is t.target.0 t.target.2 (inr (k, (t.function, t.target.1, t.target.3, library), is_named_from enders k named))

  -- a function that a library function calls back, called by a target of the call that calls back
  module _ (memory : List Instance) (k : ℕ) (arguments : List Value) (pending : IsPendingBack world memory n k arguments) where
    caller_back : (key : ObjectKey) → pending.called.caller ≡ key → Contains (effects_by key) (CallsBack pending.called.edge.3 pending.called.edge.4) → IsBadAt world n
    caller_back (FunctionKey j) is c = ender_bad j (subst (IsTargetAt world n) is pending.called.target) (back_named j pending.called.edge.3 pending.called.edge.4 c)
    caller_back key is c = absurd (none_in (CallsBack pending.called.edge.3 pending.called.edge.4) c)

    back_bad : IsBadAt world n
    back_bad =
        let f = function_there world.program world.space world.system world.is_system pending.library pending.called.caller pending.called.library_is in
        let same : pending.called.edge.1 ≡ f.0 = some_one (sym pending.called.edge.6.known ∙ f.1) in
        caller_back pending.called.caller refl
        (subst (λ (list : List Effect). Contains list (CallsBack pending.called.edge.3 pending.called.edge.4)) (ap (λ (x : Function). x.effects) same ∙ f.2.effects) pending.called.edge.8)

  -- a library function that is pending stops with a bad call only where it ends an object, calls back or keeps a function
  pub library_bad : (w : Running) (state : State) (f : Frame) (rest : List Frame) (k : ℕ) (arguments : List Value) (word : ℕ)
      → IsPending world state.memory n k arguments ⊎ IsPendingBack world state.memory n k arguments
      → library_row w state f rest n k arguments word ≡ Err BadCall
      → IsBadAt world n
  library_bad w state f rest k arguments word (inr back) e = back_bad state.memory k arguments back
  library_bad w state f rest k arguments word (inl pending) e = by (slice_get rows k) refl
    where
      fair : ((row : Row) → slice_get rows k ≡ Some row → is_ender row ≡ false) → IsBadAt world n
      fair none = absurd (not_fair (library_row w state f rest n k arguments word) (library_fair w state f rest n k arguments word none) e)

      by_row : (row : Row) → slice_get rows k ≡ Some row → (b : Bool) → is_ender row ≡ b → IsBadAt world n
      by_row row at true h = ender_bad k pending.target (row_named k row at h)
      by_row row at false h = fair (λ other is. ap is_ender (some_one (sym is ∙ at)) ∙ h)

      by : (o : Option Row) → slice_get rows k ≡ o → IsBadAt world n
      by None at = fair (λ row is. absurd (none_some (sym at ∙ is)))
      by (Some row) at = by_row row at (is_ender row) refl

  -- a function that was kept is called at a node that has atexit among its targets
  pub kept_bad : (key : ObjectKey) → KeptIn world key n → IsBadAt world n
  kept_bad key kept = ender_bad at_exit kept.target exit_named
