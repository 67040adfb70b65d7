-- What is reached from locations.
use Rattle.std.proofs.Common.{◌≡◌, ◌↔◌, ℕ, zero, suc, ◌+◌, ◌-◌, ◌<◌, ◌≤◌, ◌⊎◌, ◌==◌, Bool, true, false, cond, IsTrue, IsFalse, List, length, get_or, Option, Some, None, slice_get, MatchOption, IfSome, IsSome, refl, sym, ◌∙◌, ap, subst, inl, inr, arith}
use Rattle.std.specs.Option.{option_map_or}
use Rattle.std.proofs.lemmas.Bool.{eq-eqb}
use Rattle.std.proofs.lemmas.Option.{none-some, same_Some, slice_get-get_or, slice_get_cases}
use Rattle.c_types.specs.declared.key.ObjectKey.TheVariants.{Entity as EntityKey}
use Rattle.sol_model.specs.declared.system.System.{System}
use Rattle.sol_model.specs.declared.system.LocationFact.{LocationFact}
use Rattle.sol_model.specs.declared.system.TypeFact.{TypeFact}
use Rattle.sol_model.specs.declared.system.CallSite.{CallSite}
use Rattle.sol_model.specs.declared.system.Function.{Function}
use Rattle.sol_model.specs.Places.{node_from, sub_of, nodes_of}
use Rattle.sol_model.specs.Systems.{IsValid, IsFunctionValid, IsLocation, location_count}
use Rattle.sol_model.proofs.Members.{All-at}
use Rattle.row_numbers.specs.Setting.{Setting}
use Rattle.core_tree.specs.declared.node.Node.{Node}
use Rattle.sol_model.specs.declared.rows.Rows.{Rows}
use Rattle.sol_model.specs.Families.{Family}
use Rattle.mod_ref.specs.declared.access.Access.{Access}
use Rattle.mod_ref.specs.Direct.{IsInBody, NodeTouches, OwnTouches}
use Rattle.mod_ref.specs.Gains.{Gains, In, IsLibraryAt}
use Rattle.mod_ref.proofs.Gaining.{gains_as}
use Rattle.mod_ref.specs.Places.{extent_by, extent_at, IsReached, IsUnder}

-- the nodes of a type, as the list has them
pub nodes_there : (types : List TypeFact) (ty : ℕ) (d : TypeFact) → ty < length types → (get_or types ty d).nodes ≡ option_map_or (λ (f : TypeFact). f.nodes) (slice_get types ty) 0
nodes_there types ty d lt = ap (λ (o : Option TypeFact). option_map_or (λ (f : TypeFact). f.nodes) o 0) (sym (slice_get-get_or types ty d lt))

pub extent_within : (S : System) (location nodes : ℕ) (fact : LocationFact) → IsValid S → slice_get S.locations location ≡ Some fact → fact.collapsed ≡ false → nodes ≡ nodes_of S fact.ty → location + nodes ≤ location_count S
extent_within S location nodes fact valid at single is = let w = (valid.locations location fact at).nodes single in omega arith

-- from a location of the type
sub_same : (S : System) (location ty sub : ℕ) (fact : LocationFact) → slice_get S.locations location ≡ Some fact → fact.collapsed ≡ false → fact.ty ≡ ty → sub_of S location ty sub ≡ Some (location + sub)
sub_same S location ty sub fact at single same =
    ap (λ (o : Option LocationFact). node_from o location ty sub) at
    ∙ (ap (λ (b : Bool). cond b (Some location) (cond (fact.ty == ty) (Some (location + sub)) None)) single
    ∙ ap (λ (b : Bool). cond b (Some (location + sub)) None) (eq-eqb fact.ty ty same))

pub reached_of_type : (S : System) (location ty node : ℕ) (fact : LocationFact) → slice_get S.locations location ≡ Some fact → fact.collapsed ≡ false → fact.ty ≡ ty → IsReached S (Some ty) location node ↔ IsUnder S location node
reached_of_type S location ty node fact at single same =
    let extent : extent_at S location ≡ nodes_of S ty =
    ap (extent_by S) at ∙ (ap (λ (b : Bool). cond b 1 (nodes_of S fact.ty)) single ∙ ap (nodes_of S) same) in (
      λ h. let e : location + h.0 ≡ node = same_Some _ _ (sym (sub_same S location ty h.0 fact at single same) ∙ h.2) in
          let lt = h.1 in
          (omega arith, omega arith),
      λ h. let le = h.0 in
          let lt = h.1 in
          (node - location, (omega arith), sub_same S location ty (node - location) fact at single same ∙ ap Some (omega arith)),
    )

-- the function in whose body a node stands, by the location of the function around it
pub around_found : (w : Setting) (S : System) (n entity location : ℕ) (fact : LocationFact) → IsValid S → slice_get w.owners n ≡ Some (Some entity) → w.space.first (EntityKey entity) ≡ Some location → slice_get S.locations location ≡ Some fact
    → MatchOption fact.function ((f : ℕ) → IsInBody w S f n → ⊥) (λ f. IsInBody w S f n)
around_found w S n entity location fact valid around first at = by fact.function refl
  where
    by : (o : Option ℕ) → fact.function ≡ o → MatchOption o ((f : ℕ) → IsInBody w S f n → ⊥) (λ f. IsInBody w S f n)
    by None none = λ f inside.
        let same : entity ≡ inside.entity = same_Some _ _ (same_Some _ _ (sym around ∙ inside.around)) in
        let place : location ≡ (inside.function).location = same_Some _ _ (sym first ∙ (ap (λ e. w.space.first (EntityKey e)) same ∙ inside.stands)) in
        none-some _ (sym none ∙ ((valid.locations location fact at).own f inside.function inside.known).1 (sym place))
    by (Some f) some = elim ((slice_get_cases S.functions f).1) [
      | inl there ↦ (record {
        entity = entity;
        around = around;
        function = there.0;
        known = there.2;
        stands = first ∙ ap Some (sym (((valid.locations location fact at).own f there.0 there.2).0 some));
      })
      | inr past ↦ absurd (let lt = below f some in let le = past.0 in omega arith)
    ]
      where
        below : (f : ℕ) → fact.function ≡ Some f → f < length S.functions
        below f some = subst (λ (o : Option ℕ). IfSome o (λ number. number < length S.functions)) some (valid.locations location fact at).function

-- a node stands in the body of one function
pub body_one : (w : Setting) (S : System) (n f g : ℕ) → IsValid S → IsInBody w S f n → IsInBody w S g n → f ≡ g
body_one w S n f g valid one other =
    let same : one.entity ≡ other.entity = same_Some _ _ (same_Some _ _ (sym one.around ∙ other.around)) in
    let place : (one.function).location ≡ (other.function).location =
    same_Some _ _ (sym one.stands ∙ (ap (λ e. w.space.first (EntityKey e)) same ∙ other.stands)) in
    let at = All-at (IsFunctionValid S) S.functions f one.function valid.functions one.known in
    elim ((slice_get_cases S.locations (one.function).location).1) [
      | inl there ↦
          (let own = (valid.locations (one.function).location there.0 there.2).own in
          same_Some _ _ (sym ((own f one.function one.known).1 refl) ∙ (own g other.function other.known).1 (sym place)))
      | inr past ↦ absurd (let lt : (one.function).location < length S.locations = at.location in let le = past.0 in omega arith)
    ]

-- ---- library functions at locations
module _ (S : System) (call : CallSite) (location : ℕ) (fact : LocationFact) (valid : IsValid S) (at : slice_get S.locations location ≡ Some fact) where
  -- it is the one that the location knows
  pub library_one : (number other : ℕ) (function : Function) → fact.function ≡ Some number → IsLibraryAt S call location other function → other ≡ number
  library_one number other function some is = same_Some _ _ (sym (((valid.locations location fact at).own other function is.known).1 is.stands) ∙ some)

  pub library_within : (number : ℕ) → fact.function ≡ Some number → number < length S.functions
  library_within number some = subst (λ (o : Option ℕ). IfSome o (λ n. n < length S.functions)) some (valid.locations location fact at).function

  pub library_there : (number : ℕ) → fact.function ≡ Some number → ((function : Function) → slice_get S.functions number ≡ Some function → (function.signature ≡ call.signature) × IsSome function.library)
      → (function : Function) × IsLibraryAt S call location number function
  library_there number some told = elim ((slice_get_cases S.functions number).1) [
    | inl there ↦ (
      there.0,
      record {
        known = there.2;
        stands = ((valid.locations location fact at).own number there.0 there.2).0 some;
        agrees = (told there.0 there.2).0;
        library = (told there.0 there.2).1;
      },
    )
    | inr past ↦ absurd (let lt = library_within number some in let le = past.0 in omega arith)
  ]

  pub library_not : (number : ℕ) → fact.function ≡ Some number → ((function : Function) → slice_get S.functions number ≡ Some function → (function.signature ≡ call.signature) × IsSome function.library → ⊥)
      → (other : ℕ) (function : Function) → IsLibraryAt S call location other function → ⊥
  library_not number some never other function is =
      never function (subst (λ n. slice_get S.functions n ≡ Some function) (library_one number other function some is) is.known) (is.agrees, is.library)

  pub library_none : ((number : ℕ) → fact.function ≡ Some number → ⊥) → (other : ℕ) (function : Function) → IsLibraryAt S call location other function → ⊥
  library_none none other function is = none other (((valid.locations location fact at).own other function is.known).1 is.stands)

-- two at one location are one
pub library_same : (S : System) (call : CallSite) (location a b : ℕ) (f g : Function) → IsValid S → IsLocation S location → IsLibraryAt S call location a f → IsLibraryAt S call location b g → (a ≡ b) × (f ≡ g)
library_same S call location a b f g valid known one other = elim ((slice_get_cases S.locations location).1) [
  | inl there ↦
      (let own = (valid.locations location there.0 there.2).own in
      let same : a ≡ b = same_Some _ _ (sym ((own a f one.known).1 one.stands) ∙ (own b g other.known).1 other.stands) in
      (same, same_Some _ _ (sym one.known ∙ (ap (slice_get S.functions) same ∙ other.known))))
  | inr past ↦ absurd (let lt = known in let le = past.0 in omega arith)
]

-- what a test says where it has no answer
pub match_none : (o : Option ℕ) (None_so : Type 0) (Some_so : ℕ → Type 0) → MatchOption o None_so Some_so → ((n : ℕ) → o ≡ Some n → ⊥) → None_so
match_none None None_so Some_so h never = h
match_none (Some n) None_so Some_so h never = absurd (never n refl)

-- the node of number n, added to the row of the function in whose body it stands
pub own_gains : (w : Setting) (S : System) (F : Family) (access : Access) (n f : ℕ) (old new : Rows) → IsValid S → n < length w.trees.nodes → IsInBody w S f n
    → ((node : Node) → slice_get w.trees.nodes n ≡ Some node → Gains old new (In f (NodeTouches w S F access n node)))
    → Gains old new (OwnTouches w S F access n)
own_gains w S F access n f old new valid lt inside each = elim ((slice_get_cases w.trees.nodes n).1) [
  | inl there ↦
      gains_as old new (In f (NodeTouches w S F access n there.0)) (OwnTouches w S F access n) (each there.0 there.2)
      (λ g l h. record { node = there.0; there = there.2; inside = subst (λ x. IsInBody w S x n) (sym h.0) inside; touches = h.1 })
      (λ g l h. (body_one w S n g f valid h.inside inside, subst (λ (node : Node). NodeTouches w S F access n node l) (same_Some _ _ (sym h.there ∙ there.2)) h.touches))
  | inr past ↦ absurd (let le = past.0 in omega arith)
]
