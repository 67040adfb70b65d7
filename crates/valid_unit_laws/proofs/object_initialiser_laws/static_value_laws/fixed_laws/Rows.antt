-- The row of an object's initialiser makes fixed values where the object lives for the whole run.
use Rattle.std.proofs.Common.{◌≡◌, ℕ, Bool, true, false, ◌&&◌, ◌||◌, not, List, [], ◌∷◌, Option, Some, None, refl, sym, ap, ◌∙◌, subst}
use Rattle.std.specs.Prelude.{⊤, if◌then◌else◌}
use Rattle.pta_base.specs.declared.kind.Kind.TheVariants.{Operand}
use Rattle.pta_base.specs.declared.place.Place.{Place}
use Rattle.c_types.specs.Trees.{Ctype}
use Rattle.c_grammar.specs.Productions.{p_rest}
use Rattle.c_consts.specs.Core.{Core, Cores, Of, MoreCores}
use Rattle.c_inits.specs.Made.{shape_for}
use Rattle.c_inits.specs.Initial.{Outcome, Places, NoPlace, Placed, lasting}
use Rattle.c_inits.specs.View as view
use Rattle.c_senses.specs.Tree.{Source, is_a, parent_of}
use Rattle.c_senses.specs.Given.{Given, Fits, ◌>>=◌, given_some}
use Rattle.c_senses.specs.World.{World}
use Rattle.c_senses.specs.Places.{own_place}
use Rattle.c_senses.specs.Entities.{with_length, length_seen, entity_of, is_static_object, specified_of, derived_type, initialised_by}
use Rattle.c_senses.specs.Initialised.{is_fixed, is_automatic, type_along, fixed_or, placed_core, placed_cores, made_of, new_length, most_elements, seen, outcome_of, initialised_fits, object_initialiser, initialised_as, initialised_object, name_of_declarator, init_in}
use Rattle.c_senses.specs.Sense.{Sense, Nothing, IsDeclarator, IsInitial, Derivation, Specified}
use Rattle.parsed_tree_laws.specs.sense_laws.Sound.{Gives}
use Rattle.parsed_tree_laws.proofs.sense_laws.Giving.{then_gives, if_given, some_given}
use Rattle.parsed_tree_laws.proofs.sense_laws.Types.{anything}
use Rattle.parsed_tree_laws.proofs.sense_laws.Seen.{seen_gives}
use Rattle.valid_unit_laws.specs.object_initialiser_laws.static_value_laws.fixed_laws.Fixed.{all_fixed}

-- the values of what a tree initialises are fixed
abbrev pub FixedIn : (ℕ → Bool) → Core → Type 0
FixedIn automatic (Of kind place type values) = all_fixed automatic values ≡ true

module _ (w : World) (s : Source) (f : ℕ → Sense) where
  abbrev automatic : ℕ → Bool
  automatic = is_automatic w s f

  value_fixed : (static : Bool) (p : Placed) (t : Ctype) → static ≡ true → Gives (λ c. is_fixed automatic c ≡ true) (placed_core w s f static p t)
  value_fixed static p t is =
      then_gives (λ c. ⊤) (λ c. is_fixed automatic c ≡ true) _ (fixed_or w s f static p.node) (anything _)
      (λ c k. if_given (λ x. is_fixed automatic x ≡ true) (not static || is_fixed automatic c) Operand p.node (Fits c) (λ told. passed static (is_fixed automatic c) is told))
    where
      passed : (b x : Bool) → b ≡ true → (not b || x) ≡ true → x ≡ true
      passed true x e h = h
      passed false x e h = cc

  values_fixed : (static : Bool) (t : Ctype) (list : List Placed) → static ≡ true → Gives (λ cs. all_fixed automatic cs ≡ true) (placed_cores w s f static t list)
  values_fixed static t [] is = refl
  values_fixed static t (p ∷ rest) is = by (values_fixed static t rest is)
    where
      P : Cores → Type 0
      P cs = all_fixed automatic cs ≡ true

      by : Gives (λ cs. all_fixed automatic cs ≡ true) (placed_cores w s f static t rest) → Gives (λ cs. all_fixed automatic cs ≡ true) (placed_cores w s f static t (p ∷ rest))
      by later =
          some_given (λ cs. all_fixed automatic cs ≡ true) (type_along w (Some t) p.path) Operand p.node (λ type. placed_core w s f static p type >>= (λ c. placed_cores w s f static t rest >>= (λ more. Fits (MoreCores c more))))
          (λ type told.
          then_gives (λ c. is_fixed automatic c ≡ true) (λ cs. all_fixed automatic cs ≡ true) (placed_core w s f static p type) (λ c. placed_cores w s f static t rest >>= (λ more. Fits (MoreCores c more))) (value_fixed static p type is)
          (λ c h. then_gives (λ cs. all_fixed automatic cs ≡ true) (λ cs. all_fixed automatic cs ≡ true) (placed_cores w s f static t rest) (λ more. Fits (MoreCores c more)) later (λ more k. ap (λ (v : Bool). v && all_fixed automatic more) h ∙ k)))

  made_fixed : (static : Bool) (entity : ℕ) (place : Place) (t : Ctype) (o : Outcome) → static ≡ true → Gives (λ m. FixedIn automatic m.initial) (made_of w s f static entity place t o)
  made_fixed static entity place t (NoPlace node) is = tt
  made_fixed static entity place t (Places actions) is =
      then_gives (λ cs. all_fixed automatic cs ≡ true) (λ m. FixedIn automatic m.initial) (placed_cores w s f static (with_length (new_length w s f t actions) t) (lasting [] actions)) _
      (values_fixed static (with_length (new_length w s f t actions) t) (lasting [] actions) is) (λ values h. h)

  -- an initialiser, with fixed values
  abbrev pub InitialFixed : Sense → Type 0
  InitialFixed (IsInitial c n) = FixedIn automatic c
  InitialFixed x = ⊥

  object_fixed : (at declarator leaf : ℕ) (t : Ctype) → is_static_object s f leaf ≡ true → Gives InitialFixed (object_initialiser w s f at declarator leaf t)
  object_fixed at declarator leaf t is =
      then_gives (λ o. ⊤) InitialFixed (outcome_of w s f at (shape_for w.fillable most_elements t) (view.init_at (seen w s f) s.nodes at)) _ (anything _)
      (λ o k.
      then_gives (λ m. FixedIn automatic m.initial) InitialFixed (made_of w s f (is_static_object s f leaf) (entity_of s f leaf) (own_place s at) t o) _ (made_fixed (is_static_object s f leaf) (entity_of s f leaf) (own_place s at) t o is)
      (λ m h. if_given InitialFixed (initialised_fits w s f (with_length m.length t) leaf) Operand leaf (Fits (IsInitial m.initial m.length)) (λ small. h)))

  as_fixed : (at declarator leaf : ℕ) (t : Ctype) → is_static_object s f leaf ≡ true → Gives InitialFixed (initialised_as w s f at declarator leaf t)
  as_fixed at declarator leaf t is =
      let n : Option ℕ = length_seen s f leaf in
      seen_gives InitialFixed (λ c m k h. h) n (object_initialiser w s f at declarator leaf (with_length n t)) (object_fixed at declarator leaf (with_length n t) is)

  -- an initialiser of a declarator has a name, whose specifiers are known
  pub record Initialises (at declarator : ℕ) (x : Sense) : Type 0 where
    pub leaf : ℕ
    pub derives : List Derivation
    pub is : f declarator ≡ IsDeclarator (Some leaf) derives
    pub words : Specified
    pub known : specified_of s f leaf ≡ Some words
    pub fixed : is_static_object s f leaf ≡ true → InitialFixed x

  initial_of : (at declarator : ℕ) (x : Sense) → init_in w s f at (Some declarator) ≡ Fits x → Initialises at declarator x
  initial_of at declarator x e = by (f declarator) refl e
    where
      typed : (leaf : ℕ) (derives : List Derivation) → f declarator ≡ IsDeclarator (Some leaf) derives → (z : Option Specified) → specified_of s f leaf ≡ z
          → (given_some (derived_type s f z (Some declarator)) Operand at >>= initialised_as w s f at declarator leaf) ≡ Fits x → Initialises at declarator x
      typed leaf derives is None told e = cc
      typed leaf derives is (Some words) told e = record {
        leaf = leaf;
        derives = derives;
        is = is;
        words = words;
        known = told;
        fixed = λ static. subst (λ (g : Given Sense). Gives InitialFixed g) e
            (some_given InitialFixed (derived_type s f (Some words) (Some declarator)) Operand at (initialised_as w s f at declarator leaf) (λ t told. as_fixed at declarator leaf t static));
      }

      by : (y : Sense) → f declarator ≡ y → initialised_object w s f at declarator (name_of_declarator w s f y) ≡ Fits x → Initialises at declarator x
      by (IsDeclarator (Some leaf) derives) is e = typed leaf derives is (specified_of s f leaf) refl e
      by (IsDeclarator None derives) is e = cc
      by y is e = cc

  -- the row of an initialiser in the rest of a declaration
  pub row_fixed : (at p declarator : ℕ) (x : Sense) → parent_of s at ≡ Some p → is_a s p_rest p ≡ true → initialised_by s f at ≡ Some declarator
      → (elim (parent_of s at) as (λ _. Given Sense) [ None ↦ Fits Nothing | Some q ↦ if is_a s p_rest q then init_in w s f at (initialised_by s f at) else Fits Nothing ]) ≡ Fits x → Initialises at declarator x
  row_fixed at p declarator x parent rest by_it e =
      initial_of at declarator x
      (sym (ap (λ (o : Option ℕ). elim o as (λ _. Given Sense) [ None ↦ Fits Nothing | Some q ↦ if is_a s p_rest q then init_in w s f at (initialised_by s f at) else Fits Nothing ]) parent
      ∙ (ap (λ (b : Bool). if b then init_in w s f at (initialised_by s f at) else Fits Nothing) rest ∙ ap (init_in w s f at) by_it))
      ∙ e)
