-- Trees that stand in trees, and how many initialisers of one entity they have.
use Rattle.std.proofs.Common.{arith, ◌≡◌, ◌≤◌, ◌+◌, ◌==◌, ℕ, zero, suc, Bool, true, false, List, Some, eq-eqb, refl, sym, ap, ◌∙◌, subst, inl, inr}
use Rattle.std.specs.Prelude.{if◌then◌else◌}
use Rattle.pta_base.specs.declared.place.Place.{Place}
use Rattle.core_tree.specs.declared.node.NodeKind.{NodeKind}
use Rattle.core_tree.specs.declared.node.NodeKind.TheVariants.{Initialise}
use Rattle.c_consts.specs.Core.{Core, Cores, Of, NoCores, MoreCores, kind_of, cores_under, core_in}
use Rattle.c_inits.specs.Shapes.{Path}
use Rattle.c_senses.specs.Tree.{Source}
use Rattle.c_senses.specs.Sense.{Sense}
use Rattle.c_senses.specs.Right.{Within, Itself, Below}
use Rattle.core_node_laws.specs.count_laws.count_rows.Counts.{own_weight, unless_left_out, count_in, count_under}
use Rattle.declaration_laws.specs.declared_type_laws.passed.owner_laws.held_runs.PassedOn.{StandsIn, InSome}
use Rattle.valid_unit_laws.specs.object_initialiser_laws.once_initialised.Once.{initialises}

module _ (s : Source) (senses : List Sense) where
  itself : (x : Core) → StandsIn x x
  itself (Of kind place type under) = inl refl

  in_some : (x part : Core) (cs : Cores) (k : ℕ) → core_in cs k ≡ Some part → StandsIn x part → InSome x cs
  in_some x part NoCores k e h = cc
  in_some x part (MoreCores c rest) zero e h = let same : c ≡ part = cc in inl (subst (λ (y : Core). StandsIn x y) (sym same) h)
  in_some x part (MoreCores c rest) (suc k) e h = inr (in_some x part rest k e h)

  in_under : (x c : Core) → InSome x (cores_under c) → StandsIn x c
  in_under x (Of kind place type under) h = inr h

  pub stands : {x c : Core} → Within s senses x c → StandsIn x c
  stands {x = x} Itself = itself x
  stands {x = x} {c = c} (Below {part = part} k inside) = in_under x c (in_some x part (cores_under c) k.0 k.1 (stands inside))

  mutual
    pub within : (x c : Core) → StandsIn x c → Within s senses x c
    within x (Of kind place type under) (inl e) = subst (λ (y : Core). Within s senses x y) e Itself
    within x (Of kind place type under) (inr h) = let (k, part, at, inside) = within_some x under h in Below (k, at) inside

    within_some : (x : Core) (cs : Cores) → InSome x cs → (k : ℕ) × (part : Core) × (core_in cs k ≡ Some part) × Within s senses x part
    within_some x NoCores h = absurd h
    within_some x (MoreCores c rest) (inl h) = (0, c, refl, within x c h)
    within_some x (MoreCores c rest) (inr h) = let (k, part, at, inside) = within_some x rest h in (suc k, part, at, inside)

  pub further : {x c d : Core} → Within s senses x c → Within s senses c d → Within s senses x d
  further h Itself = h
  further h (Below k inside) = Below k (further h inside)

-- an initialiser of the entity
abbrev pub Marks : ℕ → Core → Type 0
Marks d x = (paths : List Path) × (kind_of x ≡ Initialise d paths)

module _ (d : ℕ) where
  kept : (kind : NodeKind) (k : ℕ) → unless_left_out (initialises d) kind k ≡ k
  kept (Initialise e paths) k = refl
  kept kind k = refl

  weighs : (kind : NodeKind) (place : Place) (paths : List Path) → kind ≡ Initialise d paths → 1 ≤ own_weight (initialises d) kind place
  weighs kind place paths is = subst (λ (k : NodeKind). 1 ≤ own_weight (initialises d) k place) (sym is) (one (d == d) (eq-eqb d d refl))
    where
      one : (b : Bool) → b ≡ true → 1 ≤ (if b then 1 else 0)
      one true e = omega arith
      one false e = cc

  mutual
    pub one_in : (x c : Core) → Marks d x → StandsIn x c → 1 ≤ count_in (initialises d) c
    one_in x (Of kind place type under) m (inl e) =
        let w = weighs kind place m.0 (sym (ap kind_of e) ∙ m.1) in
        let k = kept kind (own_weight (initialises d) kind place + count_under (initialises d) under) in
        omega (arith, w, k)
    one_in x (Of kind place type under) m (inr h) =
        let more = one_some x under m h in
        let k = kept kind (own_weight (initialises d) kind place + count_under (initialises d) under) in
        omega (arith, more, k)

    one_some : (x : Core) (cs : Cores) → Marks d x → InSome x cs → 1 ≤ count_under (initialises d) cs
    one_some x NoCores m h = absurd h
    one_some x (MoreCores c rest) m (inl h) = let a = one_in x c m h in omega (arith, a)
    one_some x (MoreCores c rest) m (inr h) = let a = one_some x rest m h in omega (arith, a)

  mutual
    pub same_in : (x y c : Core) → Marks d x → Marks d y → StandsIn x c → StandsIn y c → count_in (initialises d) c ≤ 1 → x ≡ y
    same_in x y (Of kind place type under) m n (inl e) (inl f) few = e ∙ sym f
    same_in x y (Of kind place type under) m n (inl e) (inr h) few =
        let w = weighs kind place m.0 (sym (ap kind_of e) ∙ m.1) in
        let more = one_some y under n h in
        let k = kept kind (own_weight (initialises d) kind place + count_under (initialises d) under) in
        absurd (omega (arith, w, more, k, few))
    same_in x y (Of kind place type under) m n (inr h) (inl f) few =
        let w = weighs kind place n.0 (sym (ap kind_of f) ∙ n.1) in
        let more = one_some x under m h in
        let k = kept kind (own_weight (initialises d) kind place + count_under (initialises d) under) in
        absurd (omega (arith, w, more, k, few))
    same_in x y (Of kind place type under) m n (inr h) (inr g) few =
        let k = kept kind (own_weight (initialises d) kind place + count_under (initialises d) under) in
        same_some x y under m n h g (omega (arith, k, few))

    same_some : (x y : Core) (cs : Cores) → Marks d x → Marks d y → InSome x cs → InSome y cs → count_under (initialises d) cs ≤ 1 → x ≡ y
    same_some x y NoCores m n h g few = absurd h
    same_some x y (MoreCores c rest) m n (inl h) (inl g) few = same_in x y c m n h g (omega (arith, few))
    same_some x y (MoreCores c rest) m n (inl h) (inr g) few = let a = one_in x c m h in let b = one_some y rest n g in absurd (omega (arith, a, b, few))
    same_some x y (MoreCores c rest) m n (inr h) (inl g) few = let a = one_some x rest m h in let b = one_in y c n g in absurd (omega (arith, a, b, few))
    same_some x y (MoreCores c rest) m n (inr h) (inr g) few = same_some x y rest m n h g (omega (arith, few))
