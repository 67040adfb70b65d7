-- The shapes that are seen at a node are those of types there, and values go within them.
use Rattle.std.proofs.Common.{arith, ◌≡◌, ℕ, suc, ◌+◌, Bool, true, false, cond, eqb, List, [], ◌∷◌, ◌++◌, Option, Some, None, slice_get, refl, sym, ap, ◌∙◌, subst}
use Rattle.std.specs.Prelude.{nat_lt, option_and_then, if◌then◌else◌}
use Rattle.c_types.specs.declared.term.PathStep.{PathStep}
use Rattle.c_types.specs.declared.term.PathStep.TheVariants.{Index, Member}
use Rattle.c_types.specs.Trees.{Ctype, VoidType, BoolType, IntegerType, FloatingType, VaListType, PointerTo, ArrayOf, FunctionFrom, StructureOf, UnionOf}
use Rattle.c_types.specs.Paths.{with_length as sized_type}
use Rattle.core_tree.specs.Typed.{IsInteger}
use Rattle.c_inits.specs.Shapes.{Shape, Fields, Scalar, Field, Path}
use Rattle.c_inits.specs.Made.{Part, TagParts, shape_of, shape_for, with_field, fields_of, looked_up, laid_out}
use Rattle.c_inits.specs.Syntax.{Init}
use Rattle.c_inits.specs.Initial.{Placed, Action, Outcome, Places, NoPlace, initial, is_character, lasting}
use Rattle.c_senses.specs.Tree.{Source}
use Rattle.c_senses.specs.Tags.{completed_from, members_under}
use Rattle.c_senses.specs.World.{World}
use Rattle.c_senses.specs.Objects.{part_at}
use Rattle.c_senses.specs.Entities.{with_length}
use Rattle.c_senses.specs.Initialised.{type_below, type_along, new_length, most_elements, outcome_of}
use Rattle.c_senses.specs.Sense.{Sense, sense_in}
use Rattle.c_senses.specs.Rows.{world_at}
use Rattle.parsed_tree_laws.specs.sense_laws.Sound.{type_of_part, step_type, step_below, type_down, Gives}
use Rattle.parsed_tree_laws.specs.sense_laws.Asked.{PlacedStands, AllStand}
use Rattle.c_initialise.specs.placed_paths.Within.{Members, part_type, step_in, step_under, type_in, AreShapes, Knows, GoesWithin, AllGoWithin, sized}
use Rattle.c_initialise.proofs.placed_paths.Lasting.{shape_is, go_within}
use Rattle.c_initialise.specs.initial_paths.Within.{PathsStand, InitialsWithin}

some_one : {X : Type 0} → {x y : X} → ◌≡◌ {A = Option X} (Some x) (Some y) → x ≡ y
some_one h = cc

-- a type with a shape has a length
has_length : (look : ℕ → Option Fields) (t : Ctype) (shape : Shape) → shape_of look t ≡ Some shape → sized_type t ≡ Some t
has_length look (ArrayOf of None) shape h = cc
has_length look (ArrayOf of (Some n)) shape h = refl
has_length look VoidType shape h = refl
has_length look BoolType shape h = refl
has_length look (IntegerType size rank signed) shape h = refl
has_length look FloatingType shape h = refl
has_length look VaListType shape h = refl
has_length look (PointerTo to) shape h = refl
has_length look (FunctionFrom r ps form) shape h = refl
has_length look (StructureOf tag) shape h = refl
has_length look (UnionOf tag) shape h = refl

-- the members of completed tags
module _ (members : Members) where
  field_shapes : (look : ℕ → Option Fields) → Knows members look → (all : List Part) (m : Part) (k : ℕ) → slice_get all k ≡ Some m → (rest : Fields) → AreShapes members all rest
      → (o : Option Shape) → shape_of look m.type ≡ o → AreShapes members all (with_field m k o rest)
  field_shapes look knows all m k at rest h None e = h
  field_shapes look knows all m k at rest h (Some shape) e = by_name m.name
    where
      own : (name : Option (List ℕ)) → AreShapes members all (Field name k shape rest)
      own name = (m.type, ap (option_and_then (λ (x : Part). sized_type x.type)) at ∙ has_length look m.type shape e, shape_is members look knows m.type shape e, h)

      by_bits : (b : Option ℕ) → AreShapes members all (elim b as (λ _. Fields) [ Some bits ↦ rest | None ↦ Field None k shape rest ])
      by_bits None = own None
      by_bits (Some bits) = h

      by_name : (o : Option (List ℕ)) → AreShapes members all (elim o as (λ _. Fields) [ Some name ↦ Field (Some name) k shape rest | None ↦ elim m.bits as (λ _. Fields) [ Some bits ↦ rest | None ↦ Field None k shape rest ] ])
      by_name None = by_bits m.bits
      by_name (Some name) = own (Some name)

  list_shapes : (look : ℕ → Option Fields) → Knows members look → (all rest : List Part) (k : ℕ) → ((j : ℕ) → slice_get all (k + j) ≡ slice_get rest j) → AreShapes members all (fields_of look k rest)
  list_shapes look knows all [] k same = tt
  list_shapes look knows all (m ∷ rest) k same =
      field_shapes look knows all m k (ap (slice_get all) (let z : k ≡ k + 0 = omega arith in z) ∙ same 0) (fields_of look (suc k) rest)
      (list_shapes look knows all rest (suc k) (λ j. ap (slice_get all) (let z : suc k + j ≡ k + suc j = omega arith in z) ∙ same (suc j))) (shape_of look m.type) refl

  looked_more : (done : List (ℕ × Fields)) (entry : ℕ × Fields) (tag : ℕ)
      → looked_up (done ++ entry ∷ []) tag ≡ (elim (looked_up done tag) as (λ _. Option Fields) [ Some fields ↦ Some fields | None ↦ cond (eqb entry.0 tag) (Some entry.1) None ])
  looked_more [] entry tag = refl
  looked_more (d ∷ done) entry tag = by (eqb d.0 tag) (looked_more done entry tag)
    where
      by : (b : Bool) → looked_up (done ++ entry ∷ []) tag ≡ (elim (looked_up done tag) as (λ _. Option Fields) [ Some fields ↦ Some fields | None ↦ cond (eqb entry.0 tag) (Some entry.1) None ])
          → cond b (Some d.1) (looked_up (done ++ entry ∷ []) tag) ≡ (elim (cond b (Some d.1) (looked_up done tag)) as (λ _. Option Fields) [ Some fields ↦ Some fields | None ↦ cond (eqb entry.0 tag) (Some entry.1) None ])
      by true e = refl
      by false e = e

  -- so far known, and what is left is what the rest says
  abbrev Left : List (ℕ × Fields) → List TagParts → Type 0
  Left done rest = (tag : ℕ) → looked_up done tag ≡ None → members tag ≡ members_under rest tag

  module _ (done : List (ℕ × Fields)) (c : TagParts) (rest : List TagParts) (knows : Knows members (looked_up done)) (left : Left done (c ∷ rest)) where
    entry : ℕ × Fields
    entry = (c.tag, fields_of (looked_up done) 0 c.members)

    shapes : AreShapes members c.members (fields_of (looked_up done) 0 c.members)
    shapes = list_shapes (looked_up done) knows c.members c.members 0 (λ j. ap (slice_get c.members) (let z : 0 + j ≡ j = omega arith in z))

    knows_more : Knows members (looked_up (done ++ entry ∷ []))
    unfolding entry
    knows_more tag fields e = by (looked_up done tag) refl (sym (looked_more done entry tag) ∙ e)
      where
        here : (b : Bool) → eqb c.tag tag ≡ b → looked_up done tag ≡ None → cond b (Some (fields_of (looked_up done) 0 c.members)) None ≡ Some fields → (parts : List Part) × (members tag ≡ Some parts) × AreShapes members parts fields
        here true same none h =
            let is : members tag ≡ Some c.members = left tag none ∙ ap (λ (b : Bool). if b then Some c.members else members_under rest tag) same in
            (c.members, is, subst (AreShapes members c.members) (some_one h) shapes)
        here false other none h = cc

        by : (o : Option Fields) → looked_up done tag ≡ o → (elim o as (λ _. Option Fields) [ Some fields ↦ Some fields | None ↦ cond (eqb c.tag tag) (Some (fields_of (looked_up done) 0 c.members)) None ]) ≡ Some fields
            → (parts : List Part) × (members tag ≡ Some parts) × AreShapes members parts fields
        by None found h = here (eqb c.tag tag) refl found h
        by (Some own) found h = knows tag fields (found ∙ h)

    left_more : Left (done ++ entry ∷ []) rest
    unfolding entry
    left_more tag e = by (looked_up done tag) refl (sym (looked_more done entry tag) ∙ e)
      where
        here : (b : Bool) → eqb c.tag tag ≡ b → looked_up done tag ≡ None → cond b (Some (fields_of (looked_up done) 0 c.members)) None ≡ None → members tag ≡ members_under rest tag
        here true same none h = cc
        here false other none h = left tag none ∙ ap (λ (b : Bool). if b then Some c.members else members_under rest tag) other

        by : (o : Option Fields) → looked_up done tag ≡ o → (elim o as (λ _. Option Fields) [ Some fields ↦ Some fields | None ↦ cond (eqb c.tag tag) (Some (fields_of (looked_up done) 0 c.members)) None ]) ≡ None → members tag ≡ members_under rest tag
        by None found h = here (eqb c.tag tag) refl found h
        by (Some own) found h = cc

  laid_known : (rest : List TagParts) (done : List (ℕ × Fields)) → Knows members (looked_up done) → Left done rest → Knows members (looked_up (laid_out done rest))
  unfolding entry
  laid_known [] done knows left = knows
  laid_known (c ∷ rest) done knows left =
      laid_known rest (done ++ (c.tag, fields_of (looked_up done) 0 c.members) ∷ []) (knows_more done c rest knows left) (left_more done c rest knows left)

module _ (w : World) (s : Source) (sense : ℕ → Sense) where
  -- the paths of both are the same
  same_step : (t : Ctype) (step : PathStep) → step_type w t step ≡ step_in w.members t step
  same_step (ArrayOf of (Some n)) (Index i) = refl
  same_step (StructureOf tag) (Member k) = by (w.members tag)
    where
      by : (o : Option (List Part)) → type_of_part w o k ≡ part_type o k
      by None = refl
      by (Some parts) = refl
  same_step (UnionOf tag) (Member k) = by (w.members tag)
    where
      by : (o : Option (List Part)) → type_of_part w o k ≡ part_type o k
      by None = refl
      by (Some parts) = refl
  same_step t step = refl

  same_below : (o : Option Ctype) (step : PathStep) → step_below w o step ≡ step_under w.members o step
  same_below None step = refl
  same_below (Some t) step = same_step t step

  same_down : (path : Path) (o : Option Ctype) → type_down w o path ≡ type_in w.members o path
  same_down [] o = refl
  same_down (step ∷ path) o = ap (λ (x : Option Ctype). type_down w x path) (same_below o step) ∙ same_down path (step_under w.members o step)

  -- where the type is found within the bounds, it is found without them
  part_found : (o : Option (List Part)) (k : ℕ) (e : Ctype) → part_type o k ≡ Some e → (elim (part_at o k) as (λ _. Option Ctype) [ None ↦ None | Some m ↦ Some m.type ]) ≡ Some e
  part_found None k e h = cc
  part_found (Some parts) k e h = by (slice_get parts k) h
    where
      same_type : (t : Ctype) → sized_type t ≡ Some e → ◌≡◌ {A = Option Ctype} (Some t) (Some e)
      same_type (ArrayOf of None) g = cc
      same_type VoidType g = g
      same_type t g = g

      by : (o : Option Part) → option_and_then (λ m. sized_type m.type) o ≡ Some e → (elim o as (λ _. Option Ctype) [ None ↦ None | Some m ↦ Some m.type ]) ≡ Some e
      by None g = cc
      by (Some m) g = same_type m.type g

  step_found : (t e : Ctype) (step : PathStep) → step_in w.members t step ≡ Some e → type_below w t step ≡ Some e
  step_found (ArrayOf of (Some n)) e (Index i) h = by (nat_lt i n) h
    where
      by : (b : Bool) → (if b then Some of else None) ≡ Some e → ◌≡◌ {A = Option Ctype} (Some of) (Some e)
      by true g = g
      by false g = cc
  step_found (ArrayOf of n) e (Member k) h = cc
  step_found (ArrayOf of None) e (Index i) h = cc
  step_found (StructureOf tag) e (Member k) h = part_found (w.members tag) k e h
  step_found (UnionOf tag) e (Member k) h = part_found (w.members tag) k e h
  step_found t e step h = cc

  none_in : (path : Path) (e : Ctype) → type_in w.members None path ≡ Some e → ⊥
  none_in [] e h = cc
  none_in (step ∷ path) e h = none_in path e h

  along_found : (path : Path) (t e : Ctype) → type_in w.members (Some t) path ≡ Some e → type_along w (Some t) path ≡ Some e
  along_found [] t e h = h
  along_found (step ∷ path) t e h = by (step_in w.members t step) refl h (λ x g. along_found path x e g)
    where
      by : (o : Option Ctype) → step_in w.members t step ≡ o → type_in w.members o path ≡ Some e → ((x : Ctype) → type_in w.members (Some x) path ≡ Some e → type_along w (Some x) path ≡ Some e)
          → type_along w (type_below w t step) path ≡ Some e
      by None is g later = absurd (none_in path e g)
      by (Some x) is g later = ap (λ (o : Option Ctype). type_along w o path) (step_found t x step is) ∙ later x g

  integer_of : (t : Ctype) → is_character (Scalar t) ≡ true → IsInteger t
  integer_of (IntegerType size rank signed) h = tt
  integer_of t h = cc

  placed_stands : (t : Ctype) (p : Placed) → GoesWithin w.members t p → (type : Ctype) → type_along w (Some t) p.path ≡ Some type → PlacedStands w t p type
  placed_stands t p h type e =
      let same : h.0 ≡ type = some_one (sym (along_found p.path t h.0 h.1) ∙ e) in
      (same_down p.path (Some t) ∙ (h.1 ∙ ap Some same), λ c. integer_of type (subst (λ (x : Ctype). is_character (Scalar x) ≡ true) same (h.2 c)))

  all_stand : (t : Ctype) (list : List Placed) → AllGoWithin w.members t list → AllStand w t list
  all_stand t [] h = tt
  all_stand t (p ∷ list) h = (λ type e. placed_stands t p h.0 type e, all_stand t list h.1)

  sized_same : (t : Ctype) (actions : List Action) → sized t actions ≡ with_length (new_length w s sense t actions) t
  sized_same (ArrayOf of None) actions = refl
  sized_same (ArrayOf of (Some n)) actions = refl
  sized_same t actions = refl

  given_stands : Knows w.members w.fillable → (at : ℕ) (t : Ctype) (o : Option Shape) → shape_for w.fillable most_elements t ≡ o → (init : Option Init) → Gives (PathsStand w s sense t) (outcome_of w s sense at o init)
  given_stands knows at t None e init = tt
  given_stands knows at t (Some shape) e None = tt
  given_stands knows at t (Some shape) e (Some init) = by (initial shape init) refl
    where
      by : (outcome : Outcome) → initial shape init ≡ outcome → PathsStand w s sense t outcome
      by (NoPlace node) is = tt
      by (Places actions) is =
          subst (λ (x : Ctype). AllStand w x (lasting [] actions)) (sized_same t actions) (all_stand (sized t actions) (lasting [] actions) (go_within w.members w.fillable knows most_elements t shape init actions e is))

no_tags : (members : Members) → Knows members (looked_up [])
no_tags members tag list e = cc

pub initials_within : InitialsWithin
initials_within s senses n sense at t init =
    let w : World = world_at s senses n in
    let done : List TagParts = completed_from s senses (sense_in senses) 0 in
    let knows : Knows (members_under done) (looked_up (laid_out [] done)) = laid_known (members_under done) done [] (no_tags (members_under done)) (λ tag none. refl) in
    given_stands w s sense knows at t (shape_for w.fillable most_elements t) refl init
