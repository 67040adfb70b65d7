-- The calls of a system, but for what their arguments are.
use Rattle.std.proofs.Common.{arith, ◌≡◌, ◌∙◌, ℕ, zero, suc, ◌+◌, ◌<◌, ◌≤◌, Bool, true, false, cond, List, [], ◌∷◌, Option, Some, None, length, get_or, slice_get, refl, sym, ap}
use Rattle.std.specs.Prelude.{⊤, ◌≢◌, if◌then◌else◌}
use Rattle.std.specs.List.{AllPairs, filter_map, cons_option, enumerate_from}
use Rattle.std.specs.Option.{option_map}
use Rattle.std.proofs.lemmas.Bool.{false≢true}
use Rattle.std.proofs.lemmas.Option.{slice_get_within}
use Rattle.pta_base.specs.declared.effect.Effect.{Effect}
use Rattle.pta_base.specs.declared.effect.Effect.TheVariants.{GivesNew, GivesObject}
use Rattle.c_types.specs.declared.key.ObjectKey.{ObjectKey}
use Rattle.c_types.specs.declared.key.ObjectKey.TheVariants.{Call as CallKey, Star, Library}
use Rattle.core_tree.specs.declared.node.Node.{Node}
use Rattle.core_tree.specs.declared.node.NodeKind.{NodeKind}
use Rattle.core_tree.specs.declared.node.NodeKind.TheVariants.{CallNode}
use Rattle.lib_summaries.specs.Table.{effects_of}
use Rattle.obj_space.specs.declared.location.Location.{Location}
use Rattle.obj_space.specs.Found.{same_object}
use Rattle.obj_space.specs.View.{SpaceView, first_from}
use Rattle.call_sites.specs.Calls.{is_call, call_if, is_giver, library_of, giver_in, givers_in, is_named, object_by, fresh_by, fresh_in}
use Rattle.linked_laws.proofs.system_laws.Compact.{numbered_at}

some_one : {X : Type 0} → {x y : X} → ◌≡◌ {A = Option X} (Some x) (Some y) → x ≡ y
some_one h = cc

none_some : {X : Type 0} → {x : X} → ◌≡◌ {A = Option X} None (Some x) → ⊥
none_some h = cc

-- where what a filter gives comes from
pub record ComesFrom {X Y : Type 0} (h : X → Option Y) (xs : List X) (y : Y) : Type 0 where
  pub at : ℕ
  pub from : X
  pub there : slice_get xs at ≡ Some from
  pub gives : h from ≡ Some y

comes_later : {X Y : Type 0} (h : X → Option Y) (x : X) (xs : List X) (y : Y) → ComesFrom h xs y → ComesFrom h (x ∷ xs) y
comes_later h x xs y c = record { at = suc c.at; from = c.from; there = c.there; gives = c.gives }

comes_by : {X Y : Type 0} (h : X → Option Y) (x : X) (xs : List X) (ys : List Y) (i : ℕ) (y : Y) (o : Option Y) → h x ≡ o → ((j : ℕ) → slice_get ys j ≡ Some y → ComesFrom h xs y) → slice_get (cons_option o ys) i ≡ Some y → ComesFrom h (x ∷ xs) y
comes_by h x xs ys i y None is rest at = comes_later h x xs y (rest i at)
comes_by h x xs ys zero y (Some z) is rest at = record { at = 0; from = x; there = refl; gives = is ∙ at }
comes_by h x xs ys (suc i) y (Some z) is rest at = comes_later h x xs y (rest i at)

pub comes_from : {X Y : Type 0} (h : X → Option Y) (xs : List X) (i : ℕ) (y : Y) → slice_get (filter_map h xs) i ≡ Some y → ComesFrom h xs y
comes_from h [] i y at = absurd (none_some at)
comes_from h (x ∷ xs) i y at = comes_by h x xs (filter_map h xs) i y (h x) refl (λ j e. comes_from h xs j y e) at

call_is : (kind : NodeKind) → is_call kind ≡ true → kind ≡ CallNode
call_is CallNode e = refl
call_is kind e = absurd (false≢true e)

call_some : (x n : ℕ) (o : Option Node) → call_if x o ≡ Some n → (node : Node) × (o ≡ Some node) × (x ≡ n) × (is_call node.kind ≡ true)
call_some x n None e = absurd (none_some e)
call_some x n (Some node) e = by (is_call node.kind) refl e
  where
    by : (b : Bool) → is_call node.kind ≡ b → cond b (Some x) None ≡ Some n → (other : Node) × (Some node ≡ Some other) × (x ≡ n) × (is_call other.kind ≡ true)
    by true is h = (node, refl, some_one h, is)
    by false is h = absurd (none_some h)

pub call_node : (nodes : List Node) (xs : List ℕ) (i n : ℕ) (node : Node) → slice_get (filter_map (λ (x : ℕ). call_if x (slice_get nodes x)) xs) i ≡ Some n → slice_get nodes n ≡ Some node → node.kind ≡ CallNode
call_node nodes xs i n node at there =
    let c = comes_from (λ (x : ℕ). call_if x (slice_get nodes x)) xs i n at in
    let k = call_some c.from n (slice_get nodes c.from) c.gives in
    let same : k.0 ≡ node = some_one (sym k.1 ∙ (ap (slice_get nodes) k.2 ∙ there)) in
    ap (λ (x : Node). x.kind) (sym same) ∙ call_is k.0.kind k.3

-- numbers that rise
abbrev RiseFrom : ℕ → List (ℕ × ℕ) → Type 0
RiseFrom low [] = ⊤
RiseFrom low (p ∷ ps) = (low ≤ p.0) × RiseFrom (p.0 + 1) ps

rise_lower : (low lower : ℕ) (ps : List (ℕ × ℕ)) → lower ≤ low → RiseFrom low ps → RiseFrom lower ps
rise_lower low lower [] le h = tt
rise_lower low lower (p ∷ ps) le h = (omega (arith, h.0), h.1)

rise_each : (low : ℕ) (ps : List (ℕ × ℕ)) (j : ℕ) (d : ℕ × ℕ) → j < length ps → RiseFrom low ps → low ≤ (get_or ps j d).0
rise_each low [] j d lt h = absurd (omega arith)
rise_each low (p ∷ ps) zero d lt h = h.0
rise_each low (p ∷ ps) (suc j) d lt h = let rest = rise_each (p.0 + 1) ps j d (omega arith) h.1 in omega (arith, rest, h.0)

pub rise_pairs : (low : ℕ) (ps : List (ℕ × ℕ)) → RiseFrom low ps → AllPairs (λ one other. one.0 ≢ other.0) ps
rise_pairs low [] h i j d lt within = absurd (omega arith)
rise_pairs low (p ∷ ps) h i zero d lt within = absurd (omega arith)
rise_pairs low (p ∷ ps) h zero (suc j) d lt within = λ same. let rest = rise_each (p.0 + 1) ps j d (omega arith) h.1 in omega (arith, rest, same)
rise_pairs low (p ∷ ps) h (suc i) (suc j) d lt within = rise_pairs (p.0 + 1) ps h.1 i j d (omega arith) (omega arith)

-- a filter that keeps the numbers of a list keeps their order
kept_by : (low : ℕ) (p : ℕ × ℕ) (o : Option (ℕ × ℕ)) (rest : List (ℕ × ℕ)) → ((q : ℕ × ℕ) → o ≡ Some q → q.0 ≡ p.0) → low ≤ p.0 → RiseFrom (p.0 + 1) rest → RiseFrom low (cons_option o rest)
kept_by low p None rest same le h = rise_lower (p.0 + 1) low rest (omega arith) h
kept_by low p (Some q) rest same le h =
    let e = same q refl in
    (omega (arith, e), rise_lower (p.0 + 1) (q.0 + 1) rest (omega (arith, e)) h)

pub rise_kept : (f : ℕ × ℕ → Option (ℕ × ℕ)) → ((p q : ℕ × ℕ) → f p ≡ Some q → q.0 ≡ p.0) → (low : ℕ) (ps : List (ℕ × ℕ)) → RiseFrom low ps → RiseFrom low (filter_map f ps)
rise_kept f same low [] h = tt
rise_kept f same low (p ∷ ps) h = kept_by low p (f p) (filter_map f ps) (λ q e. same p q e) h.0 (rise_kept f same (p.0 + 1) ps h.1)

giver_number : (n : ℕ) (key : ObjectKey) (q : ℕ × ℕ) → giver_in n key ≡ Some q → q.0 ≡ n
giver_number n key q e = by (is_giver key) e
  where
    by : (b : Bool) → cond b (Some (n, library_of key)) None ≡ Some q → q.0 ≡ n
    by true h = ap (λ (p : ℕ × ℕ). p.0) (sym (some_one h))
    by false h = absurd (none_some h)

givers_by : (n : ℕ) (key : ObjectKey) (o : Option (ℕ × ℕ)) (rest : List (ℕ × ℕ)) → ((q : ℕ × ℕ) → o ≡ Some q → q.0 ≡ n) → RiseFrom (n + 1) rest → RiseFrom n (cons_option o rest)
givers_by n key None rest same h = rise_lower (n + 1) n rest (omega arith) h
givers_by n key (Some q) rest same h =
    let e = same q refl in
    (omega (arith, e), rise_lower (n + 1) (q.0 + 1) rest (omega (arith, e)) h)

givers_rise : (n : ℕ) (keys : List ObjectKey) → RiseFrom n (filter_map (λ (entry : ℕ × ObjectKey). giver_in entry.0 entry.1) (enumerate_from n keys))
givers_rise n [] = tt
givers_rise n (key ∷ rest) = givers_by n key (giver_in n key) _ (λ q e. giver_number n key q e) (givers_rise (n + 1) rest)

fresh_number : (s : SpaceView) (n : ℕ) (named : Option ℕ) (p q : ℕ × ℕ) → fresh_by s n named p ≡ Some q → (q.0 ≡ p.0) × (object_by s n named p.1 (effects_of p.1) ≡ Some q.1)
fresh_number s n named p q e = by (object_by s n named p.1 (effects_of p.1)) e
  where
    by : (o : Option ℕ) → option_map (λ location. (p.0, location)) o ≡ Some q → (q.0 ≡ p.0) × (o ≡ Some q.1)
    by None h = absurd (none_some h)
    by (Some l) h = (let same = some_one h in (ap (λ (r : ℕ × ℕ). r.0) (sym same), ap Some (ap (λ (r : ℕ × ℕ). r.1) same)))

pub fresh_once : (s : SpaceView) (n : ℕ) (named : Option ℕ) (keys : List ObjectKey) → AllPairs (λ one other. one.0 ≢ other.0) (fresh_in s n named (givers_in keys))
fresh_once s n named keys =
    rise_pairs 0 (fresh_in s n named (givers_in keys)) (rise_kept (fresh_by s n named) (λ p q e. (fresh_number s n named p q e).0) 0 (givers_in keys) (givers_rise 0 keys))

-- the first location of an object is a location
first_by : (n : ℕ) (x : Location) (rest : List Location) (key : ObjectKey) (l : ℕ) (b : Bool) → cond b (Some n) (first_from (n + 1) rest key) ≡ Some l → (first_from (n + 1) rest key ≡ Some l → l < (n + 1) + length rest) → l < n + suc (length rest)
first_by n x rest key l true h f = let e = some_one h in omega arith
first_by n x rest key l false h f = let less = f h in omega arith

pub first_below : (n : ℕ) (space : List Location) (key : ObjectKey) (l : ℕ) → first_from n space key ≡ Some l → l < n + length space
first_below n [] key l h = absurd (none_some h)
first_below n (x ∷ rest) key l h = first_by n x rest key l (same_object x.key key) h (first_below (n + 1) rest key l)

module _ (s : SpaceView) (below : (key : ObjectKey) (l : ℕ) → s.first key ≡ Some l → l < s.count) where
  new_by : (n k l : ℕ) (b : Bool) → (if b then s.first (CallKey n) else s.first (Star k)) ≡ Some l → l < s.count
  new_by n k l true h = below (CallKey n) l h
  new_by n k l false h = below (Star k) l h

  object_below : (n : ℕ) (named : Option ℕ) (k : ℕ) (effects : List Effect) (l : ℕ) → object_by s n named k effects ≡ Some l → l < s.count
  object_below n named k [] l h = absurd (none_some h)
  object_below n named k (GivesNew ∷ rest) l h = new_by n k l (is_named named k) h
  object_below n named k (GivesObject object ∷ rest) l h = below (Library object) l h
  object_below n named k (effect ∷ rest) l h = object_below n named k rest l h

  pub fresh_valid : (n : ℕ) (named : Option ℕ) (keys : List ObjectKey) (i : ℕ) (q : ℕ × ℕ) → slice_get (fresh_in s n named (givers_in keys)) i ≡ Some q → (q.0 < length keys) × (q.1 < s.count)
  fresh_valid n named keys i q at =
      let c = comes_from (fresh_by s n named) (givers_in keys) i q at in
      let f = fresh_number s n named c.from q c.gives in
      let g = comes_from (λ (entry : ℕ × ObjectKey). giver_in entry.0 entry.1) (enumerate_from 0 keys) c.at c.from c.there in
      let e = numbered_at 0 keys g.at g.from g.there in
      let number = giver_number g.from.0 g.from.1 c.from g.gives in
      let less = slice_get_within keys g.at g.from.1 e.1 in
      let a = f.0 in
      let b = e.0 in
      (omega arith, object_below n named c.from.1 (effects_of c.from.1) q.1 f.1)
