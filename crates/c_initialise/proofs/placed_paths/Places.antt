-- Where items go, and what an initialiser puts there.
use Rattle.std.proofs.Common.{arith, ◌≡◌, ℕ, zero, suc, ◌+◌, ◌≤◌, min, Bool, true, false, ◌&&◌, cond, List, [], ◌∷◌, ◌++◌, map, Option, Some, None, refl, sym, ap, ◌∙◌, subst}
use Rattle.std.specs.Prelude.{⊤, nat_lt}
use native.Mathlib.Nat.{min-le_right}
use Rattle.std.proofs.lemmas.Bool.{ltb-true}
use Rattle.c_types.specs.declared.term.PathStep.TheVariants.{Index, Member}
use Rattle.c_types.specs.Trees.{Ctype, ArrayOf}
use Rattle.c_inits.specs.Shapes.{Shape, Fields, Scalar, Elements, Structured, Overlaid, NoFields, Field, Path, SubObject, subs}
use Rattle.c_inits.specs.Made.{Part}
use Rattle.c_inits.specs.Syntax.{Designator, AtIndex, AtName, Init, Items, Value, Braces, NoItems, Item, designator_node, init_node}
use Rattle.c_inits.specs.Initial.{Action, Clears, Puts, Outcome, Places, NoPlace, has_name, or_else, moved, named, own, in_unnamed, element, designated, Start, At, Nothing, Described, Found, Missing, farther, and_then, described, parts, start_at, starts, is_character, fits, first_fit, first_of, place, text_size, characters, filled, given, of_value, acts_under, and_rest, joined, at_place, at_start, only_text, is_scalar, is_braced, or_text, initial, listed}
use Rattle.c_initialise.specs.placed_paths.Within.{Members, step_in, type_in, IsShape, AreShapes, GoesWithin}
use Rattle.c_initialise.proofs.placed_paths.Parts.{cond_holds, further, index_in, Sub, AllSub, Steps, structure_steps, union_steps, parts_sub, subs_sub, onward_sub}

and_second : (a b : Bool) → (a && b) ≡ true → b ≡ true
and_second true b h = h
and_second false b h = cc

module _ (members : Members) where
  abbrev SomeSub : Ctype → Option SubObject → Type 0
  SomeSub t None = ⊤
  SomeSub t (Some s) = Sub members t s

  -- designators
  or_sub : (t : Ctype) (a b : Option SubObject) → SomeSub t a → SomeSub t b → SomeSub t (or_else a b)
  or_sub t None b h k = k
  or_sub t (Some s) b h k = h

  moved_sub : (t e : Ctype) (p : Path) (o : Option SubObject) → type_in members (Some t) p ≡ Some e → SomeSub e o → SomeSub t (moved p o)
  moved_sub t e p None same h = tt
  moved_sub t e p (Some s) same h = (h.0, further members t e p s.path same ∙ h.1, h.2)

  mutual
    named_sub : (t : Ctype) (s : Shape) (name : List ℕ) → IsShape members t s → SomeSub t (named s name)
    named_sub t (Structured type fields) name h =
        let steps = structure_steps members t h.0 h.1 h.2 h.3 in or_sub t (own fields name) (in_unnamed fields name) (own_sub t h.1 steps fields name h.4) (unnamed_sub t h.1 steps fields name h.4)
    named_sub t (Overlaid type fields) name h =
        let steps = union_steps members t h.0 h.1 h.2 h.3 in or_sub t (own fields name) (in_unnamed fields name) (own_sub t h.1 steps fields name h.4) (unnamed_sub t h.1 steps fields name h.4)
    named_sub t s name h = tt

    own_sub : (t : Ctype) (parts : List Part) → Steps members t parts → (fields : Fields) (name : List ℕ) → AreShapes members parts fields → SomeSub t (own fields name)
    own_sub t parts steps NoFields name h = tt
    own_sub t parts steps (Field called number shape rest) name h =
        cond_holds (SomeSub t) (has_name called name) (Some (record { path = Member number ∷ []; shape = shape })) (own rest name) (λ e. (h.0, steps number ∙ h.1, h.2)) (λ e. own_sub t parts steps rest name h.3)

    unnamed_sub : (t : Ctype) (parts : List Part) → Steps members t parts → (fields : Fields) (name : List ℕ) → AreShapes members parts fields → SomeSub t (in_unnamed fields name)
    unnamed_sub t parts steps NoFields name h = tt
    unnamed_sub t parts steps (Field None number shape rest) name h =
        or_sub t (moved (Member number ∷ []) (named shape name)) (in_unnamed rest name) (moved_sub t h.0 (Member number ∷ []) (named shape name) (steps number ∙ h.1) (named_sub h.0 shape name h.2))
        (unnamed_sub t parts steps rest name h.3)
    unnamed_sub t parts steps (Field (Some called) number shape rest) name h = unnamed_sub t parts steps rest name h.3

  element_sub : (t : Ctype) (s : Shape) (k : ℕ) → IsShape members t s → SomeSub t (element s k)
  element_sub t (Elements type of length) k h =
      cond_holds (SomeSub t) (nat_lt k length) (Some (record { path = Index k ∷ []; shape = of })) None
      (λ e. (h.0, ap (λ (x : Ctype). step_in members x (Index k)) h.1 ∙ index_in members h.0 length k (ltb-true k length e), h.2)) (λ e. tt)
  element_sub t s k h = tt

  designated_sub : (t : Ctype) (s : Shape) (d : Designator) → IsShape members t s → SomeSub t (designated s d)
  designated_sub t s (AtIndex node k) h = element_sub t s k h
  designated_sub t s (AtName node name) h = named_sub t s name h

  abbrev DescribedFits : Ctype → Described → Type 0
  DescribedFits t (Found path) = (e : Ctype) × (type_in members (Some t) path ≡ Some e)
  DescribedFits t (Missing node) = ⊤

  farther_fits : (t e : Ctype) (p : Path) (d : Described) → type_in members (Some t) p ≡ Some e → DescribedFits e d → DescribedFits t (farther p d)
  farther_fits t e p (Found more) h k = (k.0, further members t e p more h ∙ k.1)
  farther_fits t e p (Missing node) h k = tt

  then_fits : (t : Ctype) (o : Option SubObject) (node : ℕ) (rest : Shape → Described) → SomeSub t o → ((e : Ctype) (s : Shape) → IsShape members e s → DescribedFits e (rest s)) → DescribedFits t (and_then o node rest)
  then_fits t None node rest h k = tt
  then_fits t (Some s) node rest h k = farther_fits t h.0 s.path (rest s.shape) h.1 (k h.0 s.shape h.2)

  described_fits : (ds : List Designator) (t : Ctype) (s : Shape) → IsShape members t s → DescribedFits t (described s ds)
  described_fits [] t s h = (t, refl)
  described_fits (d ∷ ds) t s h = then_fits t (designated s d) (designator_node d) (λ x. described x ds) (designated_sub t s d h) (λ e x k. described_fits ds e x k)

  -- where the search for a place begins
  abbrev StartFits : Ctype → Start → Type 0
  StartFits t (At list) = AllSub members t list
  StartFits t (Nothing node) = ⊤

  abbrev BeforeFits : Ctype → Option Path → Type 0
  BeforeFits t None = ⊤
  BeforeFits t (Some path) = (e : Ctype) × (type_in members (Some t) path ≡ Some e)

  list_parts : (t : Ctype) (s : Shape) → IsShape members t s → AllSub members t (parts s)
  list_parts t (Scalar type) h = ((t, refl, h), tt)
  list_parts t (Elements type of length) h = parts_sub members t (Elements type of length) h
  list_parts t (Structured type fields) h = parts_sub members t (Structured type fields) h
  list_parts t (Overlaid type fields) h = parts_sub members t (Overlaid type fields) h

  start_fits : (t : Ctype) (s : Shape) (d : Described) → IsShape members t s → DescribedFits t d → StartFits t (start_at s d)
  start_fits t s (Found path) h k = onward_sub members subs (λ e x g. subs_sub members e x g) t s path k.0 h k.1
  start_fits t s (Missing node) h k = tt

  starts_fit : (t : Ctype) (s : Shape) (before : Option Path) (ds : List Designator) → IsShape members t s → BeforeFits t before → StartFits t (starts s before ds)
  starts_fit t s None [] h k = list_parts t s h
  starts_fit t s (Some path) [] h k = onward_sub members (λ x. []) (λ e x g. tt) t s path k.0 h k.1
  starts_fit t s before (d ∷ ds) h k = start_fits t s (described s (d ∷ ds)) h (described_fits (d ∷ ds) t s h)

  -- where an initialiser goes
  first_fit_sub : (t : Ctype) (type : Ctype) (text : Bool) (list : List SubObject) → AllSub members t list → SomeSub t (first_fit type text list)
  first_fit_sub t type text [] h = tt
  first_fit_sub t type text (s ∷ rest) h = cond_holds (SomeSub t) (fits type text s.shape) (Some s) (first_fit type text rest) (λ e. h.0) (λ e. first_fit_sub t type text rest h.1)

  first_sub : (t : Ctype) (list : List SubObject) → AllSub members t list → SomeSub t (first_of list)
  first_sub t [] h = tt
  first_sub t (s ∷ rest) h = h.0

  place_sub : (t : Ctype) (init : Init) (list : List SubObject) → AllSub members t list → SomeSub t (place init list)
  place_sub t (Value node type text) list h = first_fit_sub t type text list h
  place_sub t (Braces node items) list h = first_sub t list h

  -- what is put
  abbrev pub AllPut : Ctype → List Action → Type 0
  AllPut t [] = ⊤
  AllPut t (Clears path ∷ rest) = AllPut t rest
  AllPut t (Puts p ∷ rest) = GoesWithin members t p × AllPut t rest

  abbrev pub OutcomePuts : Ctype → Outcome → Type 0
  OutcomePuts t (Places actions) = AllPut t actions
  OutcomePuts t (NoPlace node) = ⊤

  put_append : (t : Ctype) (xs ys : List Action) → AllPut t xs → AllPut t ys → AllPut t (xs ++ ys)
  put_append t [] ys h k = k
  put_append t (Clears path ∷ xs) ys h k = put_append t xs ys h k
  put_append t (Puts p ∷ xs) ys h k = (h.0, put_append t xs ys h.1 k)

  under_put : (t e : Ctype) (path : Path) (xs : List Action) → type_in members (Some t) path ≡ Some e → AllPut e xs → AllPut t (map (acts_under path) xs)
  under_put t e path [] same h = tt
  under_put t e path (Clears p ∷ xs) same h = under_put t e path xs same h
  under_put t e path (Puts p ∷ xs) same h = ((h.0.0, further members t e path p.path same ∙ h.0.1, h.0.2), under_put t e path xs same h.1)

  rest_puts : (t : Ctype) (xs : List Action) (o : Outcome) → AllPut t xs → OutcomePuts t o → OutcomePuts t (and_rest xs o)
  rest_puts t xs (Places more) h k = put_append t xs more h k
  rest_puts t xs (NoPlace node) h k = tt

  joined_puts : (t e : Ctype) (path : Path) (o rest : Outcome) → type_in members (Some t) path ≡ Some e → OutcomePuts e o → OutcomePuts t rest → OutcomePuts t (joined path o rest)
  joined_puts t e path (NoPlace node) rest same h k = tt
  joined_puts t e path (Places xs) rest same h k = rest_puts t (Clears path ∷ map (acts_under path) xs) rest (under_put t e path xs same h) k

  module _ (t : Ctype) (this : Shape → Outcome) (rest : Path → Outcome) (inside : (e : Ctype) (s : Shape) → IsShape members e s → OutcomePuts e (this s)) (later : (path : Path) (e : Ctype) → type_in members (Some t) path ≡ Some e → OutcomePuts t (rest path)) where
    at_place_puts : (node : ℕ) (o : Option SubObject) → SomeSub t o → OutcomePuts t (at_place node o this rest)
    at_place_puts node None h = tt
    at_place_puts node (Some s) h = joined_puts t h.0 s.path (this s.shape) (rest s.path) h.1 (inside h.0 s.shape h.2) (later s.path h.0 h.1)

    at_start_puts : (start : Start) (init : Init) → StartFits t start → OutcomePuts t (at_start start init this rest)
    at_start_puts (Nothing node) init h = tt
    at_start_puts (At list) init h = at_place_puts (init_node init) (place init list) (place_sub t init list h)

  -- values
  characters_put : (e : Ctype) (n node k count : ℕ) → k + count ≤ n → is_character (Scalar e) ≡ true → AllPut (ArrayOf e (Some n)) (characters node k count)
  characters_put e n node k zero le h = tt
  characters_put e n node k (suc more) le h = ((e, index_in members e n k (omega (arith, le)), λ some. h), characters_put e n node (suc k) more (omega (arith, le)) h)

  character_type : (e : Ctype) (of : Shape) → IsShape members e of → is_character of ≡ true → is_character (Scalar e) ≡ true
  character_type e (Scalar type) h k = subst (λ (x : Ctype). is_character (Scalar x) ≡ true) (sym h) k
  character_type e of h k = cc

  filled_puts : (e : Ctype) (node size length : ℕ) → is_character (Scalar e) ≡ true → OutcomePuts (ArrayOf e (Some length)) (filled node size length)
  filled_puts e node size length h =
      cond_holds (OutcomePuts (ArrayOf e (Some length))) (nat_lt (suc length) size) (NoPlace node) (Places (characters node 0 (min size length))) (λ x. tt)
      (λ x. characters_put e length node 0 (min size length) (let le : min size length ≤ length = min-le_right size length in omega (arith, le)) h)

  whole_put : (t : Ctype) (node : ℕ) → AllPut t (Puts (record { path = []; node = node; character = None }) ∷ [])
  whole_put t node = ((t, refl, λ e. cc), tt)

  value_puts : (t : Ctype) (s : Shape) (node : ℕ) (type : Ctype) (text : Bool) → IsShape members t s → OutcomePuts t (of_value s node type text)
  value_puts t (Elements name of length) node type text h =
      cond_holds (OutcomePuts t) (text && is_character of) (filled node (text_size type) length) (NoPlace node)
      (λ e. subst (λ (x : Ctype). OutcomePuts x (filled node (text_size type) length)) (sym h.1) (filled_puts h.0 node (text_size type) length (character_type h.0 of h.2 (and_second text (is_character of) e))))
      (λ e. tt)
  value_puts t (Scalar x) node type text h = whole_put t node
  value_puts t (Structured x list) node type text h = cond_holds (OutcomePuts t) (fits type text (Structured x list)) (given (Structured x list) node type) (NoPlace node) (λ e. whole_put t node) (λ e. tt)
  value_puts t (Overlaid x list) node type text h = cond_holds (OutcomePuts t) (fits type text (Overlaid x list)) (given (Overlaid x list) node type) (NoPlace node) (λ e. whole_put t node) (λ e. tt)

  text_puts : (t : Ctype) (s : Shape) (o : Option (ℕ × Ctype)) (list : Outcome) → IsShape members t s → OutcomePuts t list → OutcomePuts t (or_text s o list)
  text_puts t s None list h k = k
  text_puts t s (Some value) list h k =
      cond_holds (OutcomePuts t) (fits value.1 true s && (cond (is_scalar s) false true)) (of_value s value.0 value.1 true) list (λ e. value_puts t s value.0 value.1 true h) (λ e. k)

  mutual
    pub initial_puts : (init : Init) (t : Ctype) (s : Shape) → IsShape members t s → OutcomePuts t (initial s init)
    initial_puts (Value node type text) t s h = value_puts t s node type text h
    initial_puts (Braces node items) t s h = text_puts t s (only_text items) (listed s None items) h (listed_puts items t s None h tt)

    listed_puts : (items : Items) (t : Ctype) (s : Shape) (before : Option Path) → IsShape members t s → BeforeFits t before → OutcomePuts t (listed s before items)
    listed_puts NoItems t s before h k = tt
    listed_puts (Item designators init rest) t s before h k =
        at_start_puts t (λ x. cond (is_scalar s && is_braced init) (NoPlace (init_node init)) (initial x init)) (λ path. listed s (Some path) rest)
        (λ e x g. cond_holds (OutcomePuts e) (is_scalar s && is_braced init) (NoPlace (init_node init)) (initial x init) (λ b. tt) (λ b. initial_puts init e x g))
        (λ path e g. listed_puts rest t s (Some path) h (e, g)) (starts s before designators) init (starts_fit t s before designators h k)
