-- The arguments of a call, one after another.
use Rattle.std.proofs.Common.{arith, ◌≡◌, ℕ, zero, suc, ◌+◌, ◌<◌, ◌≤◌, false, List, [], ◌∷◌, ◌++◌, length, get_or, drop, drop-cons, map, All, Option, Ok, Err, Result, refl, sym, ap, ◌∙◌, subst}
use Rattle.std.proofs.lemmas.List.Elements.{All-nil, All-cons, All-push, All-weaker, All-head, All-tail}
use Rattle.c_types.specs.Trees.{Ctype, Ctypes, NoTypes, MoreTypes}
use Rattle.c_types.specs.Table.{type_of}
use Rattle.c_types.specs.declared.term.TypeId.{TypeId}
use Rattle.core_tree.specs.declared.node.Unit.{Unit}
use Rattle.c_consts.specs.Core.{Core, Cores, NoCores, MoreCores, ctype_of}
use Rattle.c_senses.specs.Given.{Given, Fits, Refuses, ◌>>=◌}
use Rattle.c_senses.specs.World.{World}
use Rattle.c_senses.specs.Conversions.{value_of, conversion, operand_of}
use Rattle.c_senses.specs.Objects.{arguments, further_value, one_more}
use Rattle.core_nodes.specs.Standing.{core_at, cores_at, IsReady, Builds, Made, Knows}
use Rattle.core_nodes.specs.declared.fault.CheckFault.{CheckFault}
use Rattle.core_nodes.specs.declared.fault.CheckFault.TheVariants.{BadOperand, Unsupported, OutOfMemory}
use Rattle.core_nodes.proofs.Growing.{builds_on, same_builds}
use Rattle.c_conversions.specs.Targets.{type_seen}
use Rattle.value_rows.specs.Calls.{parameters_in, other_types, types_after, first_type, argument_of, passed, CoresMade, cores_before}

bind_twice : {A B C : Type 0} (g : Given A) (f : A → Given B) (h : B → Given C) → ((g >>= f) >>= h) ≡ (g >>= (λ x. f x >>= h))
bind_twice (Fits x) f h = refl
bind_twice (Refuses kind node) f h = refl

bind_same : {A B : Type 0} (g : Given A) (f h : A → Given B) → ((x : A) → f x ≡ h x) → (g >>= f) ≡ (g >>= h)
bind_same (Fits x) f h e = e x
bind_same (Refuses kind node) f h e = refl

-- one argument and then the rest
arguments_step : (w : World) (at : ℕ) (ps : Ctypes) (a : Core) (rest : List Core) → arguments w at ps (a ∷ rest) ≡ (argument_of w at a (first_type ps) >>= (λ x. arguments w at (other_types ps) rest >>= (λ more. Fits (one_more x more))))
arguments_step w at NoTypes a rest =
    sym (bind_twice (value_of w at a) (λ v. further_value w at v) (λ x. arguments w at NoTypes rest >>= (λ more. Fits (one_more x more))))
arguments_step w at (MoreTypes t ps) a rest = sym (bind_twice (value_of w at a) (λ v. conversion w false at v t) (λ x. arguments w at ps rest >>= (λ more. Fits (one_more x more))))

after_other : (k : ℕ) (ps : Ctypes) → types_after k (other_types ps) ≡ other_types (types_after k ps)
after_other zero ps = refl
after_other (suc k) ps = after_other k (other_types ps)

after_more : (k : ℕ) (ps : Ctypes) → types_after (k + 1) ps ≡ other_types (types_after k ps)
after_more k ps =
    let e : k + 1 ≡ suc k = omega arith in
    ap (λ (n : ℕ). types_after n ps) e ∙ after_other k ps

-- trees before others
before_nil : (u : Unit) (is : List ℕ) → cores_before u is NoCores ≡ cores_at u is
before_nil u [] = refl
before_nil u (i ∷ is) = ap (MoreCores (core_at u i)) (before_nil u is)

before_more : (u : Unit) (is : List ℕ) (x : ℕ) (more : Cores) → cores_before u (is ++ x ∷ []) more ≡ cores_before u is (MoreCores (core_at u x) more)
before_more u [] x more = refl
before_more u (i ∷ is) x more = ap (MoreCores (core_at u i)) (before_more u is x more)

before_grown : (u v : Unit) → Builds u v → (is : List ℕ) → All (λ i. i < length u.nodes.items) is → (more : Cores) → cores_before v is more ≡ cores_before u is more
before_grown u v b [] all more = refl
before_grown u v b (i ∷ is) all more =
    ap (λ (c : Core). MoreCores c (cores_before v is more)) (b.cores i (All-head (λ i. i < length u.nodes.items) i is all))
    ∙ ap (MoreCores (core_at u i)) (before_grown u v b is (All-tail (λ i. i < length u.nodes.items) i is all) more)

-- a refusal goes before what follows
cores_fail : (u v : Unit) (e : CheckFault) (g : Given Core) (f : Core → Given Cores) → Made u (Err e) g → CoresMade v (Err e) (g >>= f)
cores_fail u v (BadOperand n) g f h = ap (λ (x : Given Core). x >>= f) h
cores_fail u v (Unsupported k n) g f h = ap (λ (x : Given Core). x >>= f) h
cores_fail u v OutOfMemory g f h = tt

cores_same : (v : Unit) (r : Result (List ℕ) CheckFault) (g h : Given Cores) → h ≡ g → CoresMade v r g → CoresMade v r h
cores_same v r g h e m = subst (λ (x : Given Cores). CoresMade v r x) (sym e) m

drop_all : (args : List ℕ) (k : ℕ) → length args ≤ k → drop k args ≡ []
drop_all [] zero h = refl
drop_all [] (suc k) h = refl
drop_all (a ∷ args) zero h = absurd (omega arith)
drop_all (a ∷ args) (suc k) h = drop_all args k (omega arith)

module _ (old : Unit) (at c : ℕ) (function : TypeId) (args : List ℕ) where
  abbrev parameters : Ctypes
  parameters = parameters_in (type_of old.types function.0)

  abbrev cores : List ℕ → List Core
  cores list = map (λ a. core_at old a) list

  -- so many arguments stand behind what is called: what is left is the whole
  pub record Passing (now : Unit) (k : ℕ) (children : List ℕ) : Type 0 where
    pub ready : IsReady now
    pub builds : Builds old now
    pub within : All (λ i. i < length now.nodes.items) children
    pub rest : (w : World) → Knows w old
        → passed w at (core_at old c) (parameters_in (type_of old.types function.0)) (map (λ a. core_at old a) args)
        ≡ (arguments w at (types_after k (parameters_in (type_of old.types function.0))) (map (λ a. core_at old a) (drop k args)) >>= (λ more. Fits (cores_before now children more)))

  pub passing_start : IsReady old → c < length old.nodes.items → Passing old 0 (c ∷ [])
  passing_start ready h = record { ready = ready; builds = same_builds old old refl refl refl; within = All-cons (λ i. i < length old.nodes.items) c [] h (All-nil (λ i. i < length old.nodes.items)); rest = λ w k. refl }

  module _ (now : Unit) (k : ℕ) (children : List ℕ) (going : Passing now k children) where
    pub passing_ends : length args ≤ k → (w : World) → Knows w old → passed w at (core_at old c) parameters (cores args) ≡ Fits (cores_at now children)
    passing_ends h w known =
        going.rest w known
        ∙ ap (λ (list : List ℕ). arguments w at (types_after k parameters) (cores list) >>= (λ more. Fits (cores_before now children more))) (drop_all args k h)
        ∙ ap Fits (before_nil now children)

    module _ (lt : k < length args) (w : World) (known : Knows w old) where
      argument_here : passed w at (core_at old c) parameters (cores args)
          ≡ (argument_of w at (core_at old (get_or args k 0)) (first_type (types_after k parameters)) >>= (λ x. arguments w at (other_types (types_after k parameters)) (cores (drop (k + 1) args)) >>= (λ more. Fits (cores_before now children (one_more x more)))))
      argument_here =
          let e : suc k ≡ k + 1 = omega arith in
          let split : drop k args ≡ get_or args k 0 ∷ drop (k + 1) args = drop-cons args k 0 lt ∙ ap (λ (j : ℕ). get_or args k 0 ∷ drop j args) e in
          let tail = arguments w at (other_types (types_after k parameters)) (cores (drop (k + 1) args)) in
          let one = argument_of w at (core_at old (get_or args k 0)) (first_type (types_after k parameters)) in
          going.rest w known
          ∙ ap (λ (list : List ℕ). arguments w at (types_after k parameters) (cores list) >>= (λ more. Fits (cores_before now children more))) split
          ∙ ap (λ (g : Given Cores). g >>= (λ more. Fits (cores_before now children more))) (arguments_step w at (types_after k parameters) (core_at old (get_or args k 0)) (cores (drop (k + 1) args)))
          ∙ bind_twice one (λ x. tail >>= (λ more. Fits (one_more x more))) (λ more. Fits (cores_before now children more))
          ∙ bind_same one _ _ (λ x. bind_twice tail (λ more. Fits (one_more x more)) (λ more. Fits (cores_before now children more)))

      pub argument_fails : (u v : Unit) (e : CheckFault) → Made u (Err e) (argument_of w at (core_at old (get_or args k 0)) (first_type (types_after k parameters))) → CoresMade v (Err e) (passed w at (core_at old c) parameters (cores args))
      argument_fails u v e m = cores_same v (Err e) _ _ argument_here (cores_fail u v e _ _ m)

      argument_goes : (later : Unit) (x : ℕ) → Builds now later → Made later (Ok x) (argument_of w at (core_at old (get_or args k 0)) (first_type (types_after k parameters)))
          → passed w at (core_at old c) parameters (cores args) ≡ (arguments w at (types_after (k + 1) parameters) (cores (drop (k + 1) args)) >>= (λ more. Fits (cores_before later (children ++ x ∷ []) more)))
      argument_goes later x b m =
          let tail = arguments w at (other_types (types_after k parameters)) (cores (drop (k + 1) args)) in
          argument_here
          ∙ ap (λ (g : Given Core). g >>= (λ y. tail >>= (λ more. Fits (cores_before now children (one_more y more))))) m
          ∙ bind_same tail _ _ (λ more. ap Fits (sym (before_more later children x more ∙ before_grown now later b children going.within (MoreCores (core_at later x) more))))
          ∙ ap (λ (ps : Ctypes). arguments w at ps (cores (drop (k + 1) args)) >>= (λ more. Fits (cores_before later (children ++ x ∷ []) more))) (sym (after_more k parameters))

    pub passing_on : k < length args → (later : Unit) (x : ℕ) → IsReady later → Builds now later → x < length later.nodes.items
        → ((w : World) → Knows w old → Made later (Ok x) (argument_of w at (core_at old (get_or args k 0)) (first_type (types_after k parameters)))) → Passing later (k + 1) (children ++ x ∷ [])
    passing_on lt later x ready b h made = record {
      ready = ready;
      builds = builds_on old now later going.builds b;
      within = All-push (λ i. i < length later.nodes.items) children x (All-weaker (λ i. i < length now.nodes.items) (λ i. i < length later.nodes.items) (λ i small. omega (arith, b.more)) children going.within) h;
      rest = λ w known. argument_goes lt w known later x b (made w known);
    }

    -- what is made for the parameter that is seen now
    pub argument_seen : (w : World) (later : Unit) (r : Result ℕ CheckFault) (parameter : Option TypeId) → get_or args k 0 < length old.nodes.items → function.0 < length old.types.terms
        → type_seen now.types parameter ≡ first_type (types_after k (parameters_in (type_of now.types function.0)))
        → Made later r (argument_of w at (core_at now (get_or args k 0)) (type_seen now.types parameter)) → Made later r (argument_of w at (core_at old (get_or args k 0)) (first_type (types_after k parameters)))
    argument_seen w later r parameter h f seen made =
        let same = going.builds.cores (get_or args k 0) h in
        let typed : type_seen now.types parameter ≡ first_type (types_after k parameters) = seen ∙ ap (λ (t : Ctype). first_type (types_after k (parameters_in t))) (going.builds.types function.0 f) in
        subst (λ (a : Core). Made later r (argument_of w at a (first_type (types_after k parameters)))) same (subst (λ (o : Option Ctype). Made later r (argument_of w at (core_at now (get_or args k 0)) o)) typed made)
