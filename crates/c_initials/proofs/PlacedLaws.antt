-- The values of items one after another, and rows of designators.
use Rattle.std.proofs.Common.{arith, ◌≡◌, ◌<◌, ◌≤◌, ◌+◌, ℕ, zero, suc, ℤ, refl, ap, sym, ◌∙◌, subst, Bool, true, false, ◌&&◌, Option, Some, List, [], ◌∷◌, ◌++◌, Err, length, All, map, drop, drop-cons, add-one, get_or, eqb, if◌then◌else◌}
use Rattle.std.specs.Prelude.{◌||◌}
use Rattle.std.proofs.lemmas.List.Elements.{All-head, All-tail}
use Rattle.pta_base.specs.declared.kind.Kind.TheVariants.{Operand}
use Rattle.c_types.specs.Trees.{Ctype}
use Rattle.core_tree.specs.declared.node.Unit.{Unit}
use Rattle.c_consts.specs.Core.{Core, Cores, NoCores, MoreCores}
use Rattle.c_grammar.specs.Productions.{p_conditional}
use Rattle.c_grammar.specs.Words.{sign_left_bracket}
use Rattle.c_inits.specs.declared.items.InitItem.{InitItem}
use Rattle.c_inits.specs.Initial.{Placed}
use Rattle.c_inits.specs.Items.{placed_of}
use Rattle.c_senses.specs.Given.{Given, Fits, Refuses, ◌>>=◌, given_some}
use Rattle.c_senses.specs.World.{World}
use Rattle.c_senses.specs.Tree.{Source, child_of, has_sign}
use Rattle.c_senses.specs.Sense.{Sense, Nothing, IsValue}
use Rattle.c_senses.specs.Constants.{constant_in}
use Rattle.c_senses.specs.Initialised.{type_along, placed_core, placed_cores, designator_row}
use Rattle.core_nodes.specs.Standing.{core_at, cores_at, Builds, Made}
use Rattle.core_nodes.specs.declared.fault.CheckFault.{CheckFault}
use Rattle.core_nodes.specs.declared.fault.CheckFault.TheVariants.{BadOperand, Unsupported, OutOfMemory}
use Rattle.core_nodes.proofs.Growing.{knows_on}
use Rattle.c_conversions.specs.Constants.{HasRows, HaveRows}
use Rattle.c_conversions.specs.constant_values.Constants.{ConstantMade, SenseHasRows, HasConstants}
use Rattle.c_results.specs.declared.made.Made.{Made as MadeNode}
use Rattle.c_results.specs.Standing.{IsWithin, Rowed}
use Rattle.c_results.proofs.Keeping.{made_kept}
use Rattle.c_initials.specs.declared.storage.Scope.{Scope}
use Rattle.c_initials.specs.Scope.{IsTold, CoresMade, behind, item_given}

pub or_pointer : (a b : Bool) → false ≡ (a && true) → b ≡ (a || b)
or_pointer true b e = cc
or_pointer false b e = refl

pub told_on : (w : World) (old new : Unit) (scope : Scope) → Builds old new → IsTold w old scope → IsTold w new scope
told_on w old new scope b told = record { knows = knows_on w old new b told.knows; functions = told.functions }

bind_assoc : {A B C : Type 0} (g : Given A) (f : A → Given B) (h : B → Given C) → ((g >>= f) >>= h) ≡ (g >>= (λ x. f x >>= h))
bind_assoc (Fits x) f h = refl
bind_assoc (Refuses kind node) f h = refl

bind_same : {A B : Type 0} (g : Given A) (f h : A → Given B) → ((x : A) → f x ≡ h x) → (g >>= f) ≡ (g >>= h)
bind_same (Fits x) f h e = e x
bind_same (Refuses kind node) f h e = refl

-- results go on having rows
pub constants_kept : (old new : Unit) → Builds old new → (ms : List MadeNode) → All (IsWithin old) ms → All (HasConstants old) ms → All (HasConstants new) ms
constants_kept old new b ms within rows k d lt = subst SenseHasRows (sym (made_kept old new b (get_or ms k d) (within k d lt))) (rows k d lt)

-- nodes that stand go on standing
pub cores_kept : (old new : Unit) → Builds old new → (xs : List ℕ) → All (λ i. i < length old.nodes.items) xs → cores_at new xs ≡ cores_at old xs
cores_kept old new b [] all = refl
cores_kept old new b (x ∷ xs) all =
    let first : core_at new x ≡ core_at old x = b.cores x (All-head (λ (i : ℕ). i < length old.nodes.items) x xs all) in
    let rest : cores_at new xs ≡ cores_at old xs = cores_kept old new b xs (All-tail (λ (i : ℕ). i < length old.nodes.items) x xs all) in
    ap (λ (c : Core). MoreCores c (cores_at new xs)) first ∙ ap (MoreCores (core_at old x)) rest

behind_last : (u : Unit) (xs : List ℕ) (i : ℕ) (more : Cores) → behind (cores_at u (xs ++ i ∷ [])) more ≡ behind (cores_at u xs) (MoreCores (core_at u i) more)
behind_last u [] i more = refl
behind_last u (x ∷ xs) i more = ap (MoreCores (core_at u x)) (behind_last u xs i more)

behind_none : (cs : Cores) → behind cs NoCores ≡ cs
behind_none NoCores = refl
behind_none (MoreCores c rest) = ap (MoreCores c) (behind_none rest)

pub rows_pushed : (u : Unit) (xs : List ℕ) (i : ℕ) → HaveRows (cores_at u xs) → HasRows (core_at u i) → HaveRows (cores_at u (xs ++ i ∷ []))
rows_pushed u [] i all one = (one, tt)
rows_pushed u (x ∷ xs) i all one = (all.0, rows_pushed u xs i all.1 one)

-- one item off those that are left
pub item_off : (items : List InitItem) (k : ℕ) (d : InitItem) → k < length items → map placed_of (drop k items) ≡ placed_of (get_or items k d) ∷ map placed_of (drop (k + 1) items)
item_off items k d lt = ap (map placed_of) (drop-cons items k d lt ∙ ap (λ (j : ℕ). get_or items k d ∷ drop j items) (sym (add-one k)))

module _ (w : World) (s : Source) (sense : ℕ → Sense) (static : Bool) (t : Ctype) where
  abbrev all_given : List Placed → Given Cores
  all_given = placed_cores w s sense static t

  abbrev one_given : Placed → Given Core
  one_given = item_given w s sense static t

  abbrev pub before : Unit → List ℕ → Cores → Given Cores
  before u values more = Fits (behind (cores_at u values) more)

  one_off : (p : Placed) (rest : List Placed) → all_given (p ∷ rest) ≡ (one_given p >>= (λ c. all_given rest >>= (λ more. Fits (MoreCores c more))))
  one_off p rest = sym (bind_assoc (given_some (type_along w (Some t) p.path) Operand p.node) (placed_core w s sense static p) (λ (c : Core). all_given rest >>= (λ more. Fits (MoreCores c more))))

  module _ (whole : Given Cores) (left rest : List Placed) (p : Placed) (u : Unit) (values : List ℕ) (so_far : whole ≡ (all_given left >>= before u values)) (off : left ≡ p ∷ rest) where
    opened : whole ≡ ((one_given p >>= (λ c. all_given rest >>= (λ more. Fits (MoreCores c more)))) >>= before u values)
    opened = so_far ∙ ap (λ (l : List Placed). all_given l >>= before u values) off ∙ ap (λ (g : Given Cores). g >>= before u values) (one_off p rest)

    pub one_more : (new : Unit) (i : ℕ) (more : List ℕ) → one_given p ≡ Fits (core_at new i) → cores_at new values ≡ cores_at u values → more ≡ values ++ i ∷ [] → whole ≡ (all_given rest >>= before new more)
    one_more new i more made kept pushed =
        opened
        ∙ ap (λ (g : Given Core). (g >>= (λ c. all_given rest >>= (λ m. Fits (MoreCores c m)))) >>= before u values) made
        ∙ bind_assoc (all_given rest) (λ (m : Cores). Fits (MoreCores (core_at new i) m)) (before u values)
        ∙ bind_same (all_given rest) (λ (m : Cores). before u values (MoreCores (core_at new i) m)) (before new more)
        (λ m. ap Fits (sym (ap (λ (l : List ℕ). behind (cores_at new l) m) pushed ∙ behind_last new values i m ∙ ap (λ (x : Cores). behind x (MoreCores (core_at new i) m)) kept)))

    pub one_refused : (v x : Unit) (e : CheckFault) → Made v (Err e) (one_given p) → CoresMade x (Err e) whole
    one_refused v x (BadOperand n) h = opened ∙ ap (λ (g : Given Core). (g >>= (λ c. all_given rest >>= (λ m. Fits (MoreCores c m)))) >>= before u values) h
    one_refused v x (Unsupported k n) h = opened ∙ ap (λ (g : Given Core). (g >>= (λ c. all_given rest >>= (λ m. Fits (MoreCores c m)))) >>= before u values) h
    one_refused v x OutOfMemory h = tt

  pub none_left : (whole : Given Cores) (left : List Placed) (u : Unit) (values : List ℕ) → whole ≡ (all_given left >>= before u values) → left ≡ [] → whole ≡ Fits (cores_at u values)
  none_left whole left u values so_far none = so_far ∙ ap (λ (l : List Placed). all_given l >>= before u values) none ∙ ap Fits (behind_none (cores_at u values))

  same_all : (g : Given Cores) → g ≡ (g >>= Fits)
  same_all (Fits x) = refl
  same_all (Refuses kind node) = refl

  pub all_left : (left : List Placed) (u : Unit) → all_given left ≡ (all_given left >>= before u [])
  all_left left u = same_all (all_given left)

-- a designator in brackets
module _ (w : World) (s : Source) (sense : ℕ → Sense) (at : ℕ) where
  pub indexed : (list : List ℕ) (d child : ℕ) → eqb (length list) 0 ≡ false → true ≡ has_sign s sign_left_bracket (get_or list 0 d) → child_of s p_conditional at ≡ Some child
      → designator_row w s sense at list ≡ (constant_in w s at (sense child) >>= (λ n. Fits (IsValue n)))
  indexed [] d child e f h = cc
  indexed (x ∷ xs) d child e f h =
      sym (ap (λ (b : Bool). if b then (given_some (child_of s p_conditional at) Operand at >>= (λ c. constant_in w s at (sense c) >>= (λ n. Fits (IsValue n)))) else Fits Nothing) f)
      ∙ ap (λ (o : Option ℕ). given_some o Operand at >>= (λ c. constant_in w s at (sense c) >>= (λ n. Fits (IsValue n)))) h

pub constant_refused : (u : Unit) (e : CheckFault) (g : Given ℤ) (h : Given Sense) → h ≡ (g >>= (λ n. Fits (IsValue n))) → ConstantMade (Err e) g → Rowed u (Err e) h
constant_refused u (BadOperand n) g h same m = same ∙ ap (λ (x : Given ℤ). x >>= (λ n. Fits (IsValue n))) m
constant_refused u (Unsupported k n) g h same m = same ∙ ap (λ (x : Given ℤ). x >>= (λ n. Fits (IsValue n))) m
constant_refused u OutOfMemory g h same m = absurd m

pub items_past : (xs : List InitItem) (k : ℕ) → length xs ≤ k → map placed_of (drop k xs) ≡ []
items_past [] zero le = refl
items_past [] (suc k) le = refl
items_past (x ∷ xs) zero le = absurd (omega (arith, le))
items_past (x ∷ xs) (suc k) le = items_past xs k (omega (arith, le))
