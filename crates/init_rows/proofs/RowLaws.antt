-- Rows of initialisers by their parts.
use Rattle.std.proofs.Common.{◌≡◌, ℕ, refl, ap, sym, ◌∙◌, subst, Bool, true, false, Option, Some, None, option_and_then, Result, Ok, Err, IfOk, ◌&&◌, if◌then◌else◌}
use Rattle.pta_base.specs.declared.kind.Kind.TheVariants.{Operand}
use Rattle.pta_base.specs.declared.place.Place.{Place}
use Rattle.c_types.specs.Trees.{Ctype}
use Rattle.core_tree.specs.declared.node.Unit.{Unit}
use Rattle.c_consts.specs.Core.{Core}
use Rattle.c_grammar.specs.Productions.{p_rest}
use Rattle.c_inits.specs.Made.{shape_for}
use Rattle.c_inits.specs.View as view
use Rattle.c_senses.specs.Given.{Given, Fits, Refuses, ◌>>=◌, given_if, given_some}
use Rattle.c_senses.specs.World.{World}
use Rattle.c_senses.specs.Tree.{Source, is_a, parent_of}
use Rattle.c_senses.specs.Sense.{Sense, Nothing, IsCore, IsType, IsSpecified, IsDeclarator, IsDerivation, IsParameter, IsMembers, IsValue, IsRun, IsInitial}
use Rattle.c_senses.specs.Places.{own_place}
use Rattle.c_senses.specs.Limits.{within_limits}
use Rattle.c_senses.specs.Entities.{internal_agrees, initialised_by, derived_type, specified_of, is_static_object, entity_of, with_length, length_seen}
use Rattle.c_senses.specs.Initialised.{most_elements, seen, outcome_of, made_of, initialised_fits, object_initialiser, with_seen, initialised_as, name_of_declarator, initialised_object, init_in, init_row, Made}
use Rattle.core_nodes.specs.declared.fault.CheckFault.{CheckFault}
use Rattle.core_nodes.specs.declared.fault.CheckFault.TheVariants.{BadOperand, Unsupported, OutOfMemory}
use Rattle.core_nodes.specs.Standing.{core_at}
use Rattle.c_results.specs.declared.made.Made.{Made as MadeNode}
use Rattle.c_results.specs.declared.made.Made.TheVariants.{Initial}
use Rattle.c_results.specs.Standing.{Rowed, sense_made}
use Rattle.name_places.specs.Named.{name_within}
use Rattle.init_rows.specs.declared.objects.Object.{Object}
use Rattle.init_rows.specs.declared.objects.Target.{Target}
use Rattle.init_rows.specs.Objects.{object_given, ObjectGiven, IsTarget, JudgedAs, known_length}
use Rattle.init_rows.specs.Around.{object_at}

bind_assoc : {A B C : Type 0} (g : Given A) (f : A → Given B) (h : B → Given C) → ((g >>= f) >>= h) ≡ (g >>= (λ x. f x >>= h))
bind_assoc (Fits x) f h = refl
bind_assoc (Refuses kind node) f h = refl

module _ (w : World) (s : Source) (sense : ℕ → Sense) where
  -- what is judged of an object that has been made
  abbrev pub judge : ℕ → Ctype → Made w s sense → Given Sense
  judge leaf t made = given_if (initialised_fits w s sense (with_length made.length t) leaf) Operand leaf (Fits (IsInitial made.initial made.length))

  initialiser_is : (at declarator leaf : ℕ) (t : Ctype) → object_initialiser w s sense at declarator leaf t ≡ (object_given w s sense (is_static_object s sense leaf) (entity_of s sense leaf) (own_place s at) t at >>= judge leaf t)
  initialiser_is at declarator leaf t =
      sym (bind_assoc (outcome_of w s sense at (shape_for w.fillable most_elements t) (view.init_at (seen w s sense) s.nodes at))
      (made_of w s sense (is_static_object s sense leaf) (entity_of s sense leaf) (own_place s at) t) (judge leaf t))

  pub by_target : (at declarator leaf : ℕ) (t : Ctype) (target : Target) → IsTarget s sense leaf at target
      → object_initialiser w s sense at declarator leaf t ≡ (object_given w s sense target.is_static target.entity target.place t at >>= judge leaf t)
  by_target at declarator leaf t target is =
      initialiser_is at declarator leaf t
      ∙ (ap (λ (b : Bool). object_given w s sense b (entity_of s sense leaf) (own_place s at) t at >>= judge leaf t) (sym is.static)
      ∙ (ap (λ (e : ℕ). object_given w s sense target.is_static e (own_place s at) t at >>= judge leaf t) (sym is.entity)
      ∙ ap (λ (p : Place). object_given w s sense target.is_static target.entity p t at >>= judge leaf t) (sym is.place)))

  -- a refusal goes on
  pub refused : (u v : Unit) (e : CheckFault) (g : Given (Made w s sense)) (f : Made w s sense → Given Sense) (h : Given Sense) → h ≡ (g >>= f) → ObjectGiven w s sense u (Err e) g → Rowed v (Err e) h
  refused u v (BadOperand k) g f h same made = same ∙ ap (λ (x : Given (Made w s sense)). x >>= f) made
  refused u v (Unsupported kind k) g f h same made = same ∙ ap (λ (x : Given (Made w s sense)). x >>= f) made
  refused u v OutOfMemory g f h same made = tt

  -- what is made of an object is judged in a unit that has grown
  pub judged_row : (u v : Unit) (object : Object) (leaf : ℕ) (t : Ctype) (fits : Bool) (g : Given (Made w s sense)) (h : Given Sense) (r : Result MadeNode CheckFault) → h ≡ (g >>= judge leaf t) → ObjectGiven w s sense u (Ok object) g
      → core_at v object.node ≡ core_at u object.node → fits ≡ initialised_fits w s sense (with_length object.length t) leaf → JudgedAs r object leaf fits → Rowed v r h
  judged_row u v object leaf t fits g h r same made kept judged is =
      let here : h ≡ given_if fits Operand leaf (Fits (IsInitial (core_at v object.node) object.length)) =
      same ∙ (ap (λ (x : Given (Made w s sense)). x >>= judge leaf t) made
      ∙ (ap (λ (b : Bool). given_if b Operand leaf (Fits (IsInitial (core_at u object.node) object.length))) (sym judged)
      ∙ ap (λ (c : Core). given_if fits Operand leaf (Fits (IsInitial c object.length))) (sym kept))) in
      subst (λ (x : Result MadeNode CheckFault). Rowed v x h) (sym is) (by fits here)
    where
      by : (b : Bool) → h ≡ given_if b Operand leaf (Fits (IsInitial (core_at v object.node) object.length)) → Rowed v (if b then Ok (Initial object.node object.length) else Err (BadOperand leaf)) h
      by true e = e
      by false e = e

  -- the name of a declarator
  name_same : (x : Sense) → name_within x ≡ name_of_declarator w s sense x
  name_same Nothing = refl
  name_same (IsCore a) = refl
  name_same (IsType a) = refl
  name_same (IsSpecified a) = refl
  name_same (IsDeclarator a b) = refl
  name_same (IsDerivation a) = refl
  name_same (IsParameter a) = refl
  name_same (IsMembers a) = refl
  name_same (IsValue a) = refl
  name_same (IsRun a) = refl
  name_same (IsInitial a b) = refl

  module _ (at : ℕ) where
    abbrev by_parent : Option ℕ → Given Sense
    by_parent o = elim o [ None ↦ Fits Nothing | Some p ↦ if is_a s p_rest p then init_in w s sense at (initialised_by s sense at) else Fits Nothing ]

    abbrev named_by_parent : Option ℕ → Option ℕ
    named_by_parent o = elim o [ None ↦ None | Some p ↦ if is_a s p_rest p then option_and_then (λ d. name_within (sense d)) (initialised_by s sense at) else None ]

    pub no_parent : None ≡ parent_of s at → init_row w s sense at ≡ Fits Nothing
    no_parent e = ap by_parent (sym e)

    pub no_parent_at : None ≡ parent_of s at → object_at s sense at ≡ None
    no_parent_at e = ap named_by_parent (sym e)

    pub other_parent_at : (p : ℕ) → Some p ≡ parent_of s at → false ≡ is_a s p_rest p → object_at s sense at ≡ None
    other_parent_at p e f = ap named_by_parent (sym e) ∙ ap (λ (b : Bool). if b then option_and_then (λ d. name_within (sense d)) (initialised_by s sense at) else None) (sym f)

    pub other_parent : (p : ℕ) → Some p ≡ parent_of s at → false ≡ is_a s p_rest p → init_row w s sense at ≡ Fits Nothing
    other_parent p e f = ap by_parent (sym e) ∙ ap (λ (b : Bool). if b then init_in w s sense at (initialised_by s sense at) else Fits Nothing) (sym f)

    module _ (p : ℕ) (parent : Some p ≡ parent_of s at) (rest : true ≡ is_a s p_rest p) where
      in_rest : init_row w s sense at ≡ init_in w s sense at (initialised_by s sense at)
      in_rest = ap by_parent (sym parent) ∙ ap (λ (b : Bool). if b then init_in w s sense at (initialised_by s sense at) else Fits Nothing) (sym rest)

      name_in_rest : object_at s sense at ≡ option_and_then (λ d. name_within (sense d)) (initialised_by s sense at)
      name_in_rest = ap named_by_parent (sym parent) ∙ ap (λ (b : Bool). if b then option_and_then (λ d. name_within (sense d)) (initialised_by s sense at) else None) (sym rest)

      pub no_name_at : None ≡ initialised_by s sense at → object_at s sense at ≡ None
      no_name_at e = name_in_rest ∙ ap (option_and_then (λ d. name_within (sense d))) (sym e)

      pub no_declarator : None ≡ initialised_by s sense at → init_row w s sense at ≡ Refuses Operand at
      no_declarator e = in_rest ∙ ap (init_in w s sense at) (sym e)

      module _ (d : ℕ) (by : Some d ≡ initialised_by s sense at) where
        of_declarator : init_row w s sense at ≡ initialised_object w s sense at d (name_within (sense d))
        of_declarator = in_rest ∙ (ap (init_in w s sense at) (sym by) ∙ ap (initialised_object w s sense at d) (sym (name_same (sense d))))

        pub name_at : object_at s sense at ≡ name_within (sense d)
        name_at = name_in_rest ∙ ap (option_and_then (λ d. name_within (sense d))) (sym by)

        pub no_name : None ≡ name_within (sense d) → init_row w s sense at ≡ Refuses Operand at
        no_name e = of_declarator ∙ ap (initialised_object w s sense at d) (sym e)

        module _ (leaf : ℕ) (name : Some leaf ≡ name_within (sense d)) where
          pub of_name : init_row w s sense at ≡ (given_some (derived_type s sense (specified_of s sense leaf) (Some d)) Operand at >>= initialised_as w s sense at d leaf)
          of_name = of_declarator ∙ ap (initialised_object w s sense at d) (sym name)

pub rowed_same : (u : Unit) (r : Result MadeNode CheckFault) (g h : Given Sense) → g ≡ h → Rowed u r h → Rowed u r g
rowed_same u r g h e made = subst (λ (x : Given Sense). Rowed u r x) (sym e) made

-- whether a type agrees, where it is within the limits
pub fits_same : (w : World) (s : Source) (f g : ℕ → Sense) (whole t : Ctype) (leaf : ℕ) (r : Result Bool CheckFault) → f ≡ g → whole ≡ t → true ≡ within_limits w t
    → IfOk r (λ b. b ≡ internal_agrees w s f whole leaf) → IfOk r (λ b. b ≡ initialised_fits w s g t leaf)
fits_same w s f g whole t leaf (Ok b) same is within h =
    h ∙ (ap (λ (x : ℕ → Sense). internal_agrees w s x whole leaf) same ∙ (ap (λ (x : Ctype). internal_agrees w s g x leaf) is ∙ ap (λ (x : Bool). x && internal_agrees w s g t leaf) within))
fits_same w s f g whole t leaf (Err e) same is within h = tt

-- whether an object's type fits, in a unit that has grown
pub fits_before : (w : World) (s : Source) (f g : ℕ → Sense) (t t' : Ctype) (n : Option ℕ) (leaf : ℕ) (b : Bool) → f ≡ g → t ≡ t' → b ≡ initialised_fits w s f (with_length n t) leaf → b ≡ initialised_fits w s g (with_length n t') leaf
fits_before w s f g t t' n leaf b same is h = h ∙ (ap (λ (x : ℕ → Sense). initialised_fits w s x (with_length n t) leaf) same ∙ ap (λ (x : Ctype). initialised_fits w s g (with_length n x) leaf) is)

-- the row of an object, in a unit that has grown
pub row_moved : (w : World) (s : Source) (f g : ℕ → Sense) (t : Ctype) (at declarator leaf : ℕ) (u : Unit) (r : Result MadeNode CheckFault) → f ≡ g → Rowed u r (initialised_as w s f at declarator leaf t) → Rowed u r (initialised_as w s g at declarator leaf t)
row_moved w s f g t at declarator leaf u r same h = subst (λ (x : ℕ → Sense). Rowed u r (initialised_as w s x at declarator leaf t)) same h

-- what a length that is seen makes of an initialiser, and of nothing else
pub seen_initial : (c : Core) (n m : Option ℕ) → IsInitial c (known_length n m) ≡ with_seen n (IsInitial c m)
seen_initial c n None = refl
seen_initial c n (Some k) = refl

pub seen_other : (u : Unit) (m : MadeNode) (n : Option ℕ) → ((node : ℕ) (k : Option ℕ) → m ≡ Initial node k → ⊥) → sense_made u m ≡ with_seen n (sense_made u m)
seen_other u (Initial node k) n h = absurd (h node k refl)
seen_other u m n h = refl

-- the row of an object of a type with the length that is seen, which was made in a unit that has grown
module _ (w : World) (s : Source) (f g : ℕ → Sense) (at declarator leaf : ℕ) (t whole : Ctype) (n : Option ℕ) (same : f ≡ g) (seen_is : n ≡ length_seen s g leaf) (is : whole ≡ with_length n t) where
  as_is : (object_initialiser w s f at declarator leaf whole >>= (λ x. Fits (with_seen n x))) ≡ initialised_as w s g at declarator leaf t
  as_is =
      ap (λ (x : ℕ → Sense). object_initialiser w s x at declarator leaf whole >>= (λ y. Fits (with_seen n y))) same
      ∙ (ap (λ (x : Ctype). object_initialiser w s g at declarator leaf x >>= (λ y. Fits (with_seen n y))) is
      ∙ ap (λ (m : Option ℕ). object_initialiser w s g at declarator leaf (with_length m t) >>= (λ y. Fits (with_seen m y))) seen_is)

  pub seen_row : (u : Unit) (m : MadeNode) (x : Sense) → x ≡ with_seen n (sense_made u m) → object_initialiser w s f at declarator leaf whole ≡ Fits (sense_made u m) → initialised_as w s g at declarator leaf t ≡ Fits x
  seen_row u m x e h = sym as_is ∙ (ap (λ (y : Given Sense). y >>= (λ z. Fits (with_seen n z))) h ∙ ap Fits (sym e))

  pub seen_fault : (u : Unit) (e : CheckFault) → Rowed u (Err e) (object_initialiser w s f at declarator leaf whole) → Rowed u (Err e) (initialised_as w s g at declarator leaf t)
  seen_fault u (BadOperand k) h = sym as_is ∙ ap (λ (y : Given Sense). y >>= (λ z. Fits (with_seen n z))) h
  seen_fault u (Unsupported kind k) h = sym as_is ∙ ap (λ (y : Given Sense). y >>= (λ z. Fits (with_seen n z))) h
  seen_fault u OutOfMemory h = tt

-- an object without a type, and one with a type
module _ (w : World) (s : Source) (sense : ℕ → Sense) (at declarator leaf : ℕ) where
  pub no_type : derived_type s sense (specified_of s sense leaf) (Some declarator) ≡ None → initialised_object w s sense at declarator (Some leaf) ≡ Refuses Operand at
  no_type e = ap (λ (o : Option Ctype). given_some o Operand at >>= initialised_as w s sense at declarator leaf) e

  pub of_type : (t : Ctype) → derived_type s sense (specified_of s sense leaf) (Some declarator) ≡ Some t → initialised_object w s sense at declarator (Some leaf) ≡ initialised_as w s sense at declarator leaf t
  of_type t e = ap (λ (o : Option Ctype). given_some o Operand at >>= initialised_as w s sense at declarator leaf) e
