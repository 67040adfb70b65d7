-- What is demanded in one system is demanded in another one to which it leads.
use Rattle.std.proofs.Common.{◌≡◌, ◌∙◌, ℕ, zero, suc, List, [], ◌∷◌, map, zip, Contains, Option, Some, None, slice_get, refl, sym, ap, subst, inl, inr}
use Rattle.std.specs.Option.{option_and_then}
use Rattle.pta_base.specs.declared.effect.Effect.{Effect}
use Rattle.pta_base.specs.declared.effect.Effect.TheVariants.{Nothing, GivesArgument, GivesNew, GivesObject, Copies, StoresInto, CallsBack}
use Rattle.sol_model.specs.declared.system.System.{System}
use Rattle.sol_model.specs.declared.system.CallSite.{CallSite}
use Rattle.sol_model.specs.declared.system.Function.{Function}
use Rattle.sol_model.specs.declared.system.Constraint.{Constraint}
use Rattle.sol_model.specs.declared.system.Constraint.TheVariants.{Address, Copy, Load, Store, Field, Contents, Call}
use Rattle.sol_model.specs.Families.{Family, Has}
use Rattle.sol_model.specs.Rules.{IsTarget, first_row, argument_row, parameter_row, IsInArgument, AreJoined, back_signature, IsCalledBack, PassesBack, EffectEdge, EffectFact, TargetEdge, TargetFact, DemandsEdge, DemandsFact}
use Rattle.sol_model.specs.Systems.{IsConstraintValid}
use Rattle.sol_model.proofs.Members.{Contains-at, at_Contains, All-at, at_zip, zip_at}
use Rattle.twin_report_laws.specs.systems.Systems.{Maps, constraint_moved, SameFunction, SameCall, SystemLeads, seen_through, ClosedThere}

some_one : {X : Type 0} → {x y : X} → ◌≡◌ {A = Option X} (Some x) (Some y) → x ≡ y
some_one h = cc

none_some : {X : Type 0} → {x : X} → ◌≡◌ {A = Option X} None (Some x) → ⊥
none_some h = cc

mapped_at : {X Y : Type 0} (f : X → Y) (xs : List X) (i : ℕ) (x : X) → slice_get xs i ≡ Some x → slice_get (map f xs) i ≡ Some (f x)
mapped_at f [] i x at = absurd (none_some at)
mapped_at f (y ∷ xs) zero x at = ap (λ z. Some (f z)) (some_one at)
mapped_at f (y ∷ xs) (suc i) x at = mapped_at f xs i x at

first_mapped : (f : ℕ → ℕ) (rows : List ℕ) (row : ℕ) → first_row rows ≡ Some row → first_row (map f rows) ≡ Some (f row)
first_mapped f rows row h = mapped_at f rows 0 row h

first_of_mapped : (f : ℕ → ℕ) (lists : List (List ℕ)) (k row : ℕ) → option_and_then first_row (slice_get lists k) ≡ Some row → option_and_then first_row (slice_get (map (map f) lists) k) ≡ Some (f row)
first_of_mapped f [] k row h = absurd (none_some h)
first_of_mapped f (rows ∷ lists) zero row h = first_mapped f rows row h
first_of_mapped f (rows ∷ lists) (suc k) row h = first_of_mapped f lists k row h

zip_mapped : {X Y V W : Type 0} (f : X → V) (g : Y → W) (xs : List X) (ys : List Y) (z : X × Y) → Contains (zip xs ys) z → Contains (zip (map f xs) (map g ys)) (f z.0, g z.1)
zip_mapped f g xs ys z h =
    let (i, lt, at) = at_Contains (zip xs ys) z h in
    let (x, y) = at_zip xs ys i z.0 z.1 at in
    Contains-at (zip (map f xs) (map g ys)) i (f z.0, g z.1) (zip_at (map f xs) (map g ys) i (f z.0) (g z.1) (mapped_at f xs i z.0 x) (mapped_at g ys i z.1 y))

joined_mapped : (f : ℕ → ℕ) (from to : List (List ℕ)) (a b : ℕ) → AreJoined from to a b → AreJoined (map (map f) from) (map (map f) to) (f a) (f b)
joined_mapped f from to a b h = ((map f h.0.0, map f h.0.1), zip_mapped (map f) (map f) from to h.0 h.1, zip_mapped f f h.0.0 h.0.1 (a, b) h.2)

module _ (S T : System) (m : Maps) (lead : SystemLeads S T m) (F G : Family) (inside : (row location : ℕ) → Has F row location → Has G (m.row row) (m.row location)) where
  -- a row and a location under other names
  has_there : (row location r l : ℕ) → r ≡ m.row row → l ≡ m.row location → Has F row location → Has G r l
  has_there row location r l r_is l_is h =
      subst (λ (n : ℕ). Has G n l) (sym r_is) (subst (λ (n : ℕ). Has G (m.row row) n) (sym l_is) (inside row location h))

  pub target_there : (number : ℕ) (c d : CallSite) (n : ℕ) (f : Function) → slice_get S.calls number ≡ Some c → slice_get T.calls (m.call number) ≡ Some d → SameCall m c d → IsTarget S F c n f
      → (g : Function) × IsTarget T G d (m.function n) g × SameFunction m f g
  target_there number c d n f c_at d_at same t =
      let (g, at, like) = lead.functions n f t.known in (
        g,
        record { known = at; reached = has_there c.callee f.location d.callee g.location same.callee like.location t.reached; agrees = lead.agree number n c d f g c_at t.known d_at at t.agrees },
        like,
      )

  module _ (c d : CallSite) (same : SameCall m c d) where
    argument_there : (k row : ℕ) → argument_row c k ≡ Some row → argument_row d k ≡ Some (m.row row)
    argument_there zero row h = absurd (none_some h)
    argument_there (suc k) row h = ap (λ (lists : List (List ℕ)). option_and_then first_row (slice_get lists k)) same.arguments ∙ first_of_mapped m.row c.arguments k row h

    result_there : (row : ℕ) → first_row c.result ≡ Some row → first_row d.result ≡ Some (m.row row)
    result_there row h = ap first_row same.result ∙ first_mapped m.row c.result row h

    in_argument : (number k location : ℕ) → IsInArgument F c number k location → IsInArgument G d (m.function number) k (m.row location)
    in_argument number zero location h = same.fresh number location h
    in_argument number (suc k) location h = (m.row h.0, argument_there (suc k) h.0 h.1, inside h.0 location h.2)

    signature_there : (passed : Option (ℕ × ℕ)) (f g : Function) → SameFunction m f g → f.signature ≡ back_signature passed → g.signature ≡ back_signature passed
    signature_there None f g like h = like.ends h
    signature_there (Some pair) f g like h = like.compares h

    called_back : (k : ℕ) (passed : Option (ℕ × ℕ)) (number : ℕ) (f : Function) → IsCalledBack S F c k passed number f
        → (g : Function) × IsCalledBack T G d k passed (m.function number) g × SameFunction m f g
    called_back k passed number f h =
        let (g, at, like) = lead.functions number f h.known in
        let (row, row_is, has) = h.reached in (
          g,
          record {
            known = at;
            reached = (m.row row, argument_there k row row_is, has_there row f.location (m.row row) g.location refl like.location has);
            agrees = signature_there passed f g like h.agrees;
          },
          like,
        )

    passes_back : (passed : Option (ℕ × ℕ)) (f g : Function) (a b : ℕ) → SameFunction m f g → PassesBack c passed f a b → PassesBack d passed g (m.row a) (m.row b)
    passes_back None f g a b like h = absurd h
    passes_back (Some pair) f g a b like h = (
      like.library ∙ h.0,
      elim h.1 [
        | inl first ↦ inl (argument_there pair.0 a first.0, parameter 0 first.1)
        | inr second ↦ inr (argument_there pair.1 a second.0, parameter 1 second.1)
      ],
    )
      where
        parameter : (k : ℕ) → parameter_row f k ≡ Some b → parameter_row g k ≡ Some (m.row b)
        parameter k p = ap (λ (lists : List (List ℕ)). option_and_then first_row (slice_get lists k)) like.parameters ∙ first_of_mapped m.row f.parameters k b p

    effect_edge : (number : ℕ) (effect : Effect) (a b : ℕ) → EffectEdge S F c number effect a b → EffectEdge T G d (m.function number) effect (m.row a) (m.row b)
    effect_edge number Nothing a b h = absurd h
    effect_edge number (GivesArgument k) a b h = (argument_there k a h.0, result_there b h.1)
    effect_edge number GivesNew a b h = absurd h
    effect_edge number (GivesObject object) a b h = absurd h
    effect_edge number (Copies i j) a b h =
        (m.row h.0, m.row h.1, in_argument number i h.0 h.2, in_argument number j h.1 h.3, lead.pairs h.0 h.1 b a h.4)
    effect_edge number (StoresInto i j) a b h = (m.row h.0, argument_there i h.0 h.1, inside h.0 b h.2, argument_there j a h.3)
    effect_edge number (CallsBack k passed) a b h =
        let (g, back, like) = called_back k passed h.0 h.1 h.2 in
        (m.function h.0, g, back, passes_back passed h.1 g a b like h.3)

    effect_fact : (number : ℕ) (effect : Effect) (row location : ℕ) → EffectFact c number effect row location → EffectFact d (m.function number) effect (m.row row) (m.row location)
    effect_fact number GivesNew row location h = (result_there row h.0, same.fresh number location h.1)
    effect_fact number (GivesObject object) row location h = (result_there row h.0, same.fresh number location h.1)
    effect_fact number effect row location h = absurd h

    target_edge : (number : ℕ) (f g : Function) (library : Option ℕ) (a b : ℕ) → SameFunction m f g → TargetEdge S F c number f library a b → TargetEdge T G d (m.function number) g library (m.row a) (m.row b)
    target_edge number f g None a b like (inl joined) =
        inl (subst (λ (lists : List (List ℕ)). AreJoined d.arguments lists (m.row a) (m.row b)) (sym like.parameters)
        (subst (λ (lists : List (List ℕ)). AreJoined lists (map (map m.row) f.parameters) (m.row a) (m.row b)) (sym same.arguments) (joined_mapped m.row c.arguments f.parameters a b joined)))
    target_edge number f g None a b like (inr back) =
        inr (subst (λ (rows : List ℕ). Contains (zip rows d.result) (m.row a, m.row b)) (sym like.result)
        (subst (λ (rows : List ℕ). Contains (zip (map m.row f.result) rows) (m.row a, m.row b)) (sym same.result) (zip_mapped m.row m.row f.result c.result (a, b) back)))
    target_edge number f g (Some library) a b like h =
        (h.0, subst (λ (effects : List Effect). Contains effects h.0) (sym like.effects) h.1, effect_edge number h.0 a b h.2)

    target_fact : (number : ℕ) (f g : Function) (library : Option ℕ) (row location : ℕ) → SameFunction m f g → TargetFact c number f library row location
        → TargetFact d (m.function number) g library (m.row row) (m.row location)
    target_fact number f g None row location like h = absurd h
    target_fact number f g (Some library) row location like h =
        (h.0, subst (λ (effects : List Effect). Contains effects h.0) (sym like.effects) h.1, effect_fact number h.0 row location h.2)

  edge_there : (constraint : Constraint) (a b : ℕ) → IsConstraintValid S constraint → DemandsEdge S F constraint a b → DemandsEdge T G (constraint_moved m constraint) (m.row a) (m.row b)
  edge_there (Address row location) a b valid h = absurd h
  edge_there (Copy from to) a b valid h = (ap m.row h.0, ap m.row h.1)
  edge_there (Load pointer to ty sub) a b valid h = (m.row h.0, inside pointer h.0 h.1, lead.subs h.0 ty sub a valid.2 h.2, ap m.row h.3)
  edge_there (Store pointer from ty sub) a b valid h = (m.row h.0, inside pointer h.0 h.1, lead.subs h.0 ty sub b valid.2 h.2, ap m.row h.3)
  edge_there (Field from to ty member) a b valid h = absurd h
  edge_there (Contents to from) a b valid h = (m.row h.0, m.row h.1, inside to h.0 h.2, inside from h.1 h.3, lead.pairs h.0 h.1 b a h.4)
  edge_there (Call number) a b valid h =
      let (d, at, same) = lead.calls number h.0 h.3 in
      let (g, target, like) = target_there number h.0 d h.1 h.2 h.3 at same h.4 in
      (d, m.function h.1, g, at, target, subst (λ (library : Option ℕ). TargetEdge T G d (m.function h.1) g library (m.row a) (m.row b)) (sym like.library) (target_edge h.0 d same h.1 h.2 g (h.2).library a b like h.5))

  fact_there : (constraint : Constraint) (row location : ℕ) → DemandsFact S F constraint row location → DemandsFact T G (constraint_moved m constraint) (m.row row) (m.row location)
  fact_there (Address to what) row location h = (ap m.row h.0, ap m.row h.1)
  fact_there (Copy from to) row location h = absurd h
  fact_there (Load pointer to ty sub) row location h = absurd h
  fact_there (Store pointer from ty sub) row location h = absurd h
  fact_there (Field from to ty member) row location h = (m.row h.0, inside from h.0 h.1, lead.fields h.0 ty member location h.2, ap m.row h.3)
  fact_there (Contents to from) row location h = absurd h
  fact_there (Call number) row location h =
      let (d, at, same) = lead.calls number h.0 h.3 in
      let (g, target, like) = target_there number h.0 d h.1 h.2 h.3 at same h.4 in
      (d, m.function h.1, g, at, target, subst (λ (library : Option ℕ). TargetFact d (m.function h.1) g library (m.row row) (m.row location)) (sym like.library) (target_fact h.0 d same h.1 h.2 g (h.2).library row location like h.5))

pub closed_there : ClosedThere
closed_there S T m G known lead closed constraint there =
    let (i, lt, at) = at_Contains S.constraints constraint there in
    let valid : IsConstraintValid S constraint = All-at (IsConstraintValid S) S.constraints i constraint known.constraints at in
    let met = closed (constraint_moved m constraint) (lead.constraints constraint there) in
    record {
      edges = λ a b edge location has. met.edges (m.row a) (m.row b) (edge_there S T m lead (seen_through m G) G (λ row l h. h) constraint a b valid edge) (m.row location) has;
      facts = λ row location fact. met.facts (m.row row) (m.row location) (fact_there S T m lead (seen_through m G) G (λ row l h. h) constraint row location fact);
    }
