-- No path of an initialiser begins past the elements of its array.
use Rattle.std.proofs.Common.{arith, ◌≡◌, ◌≤◌, ℕ, zero, suc, ◌+◌, ◌-◌, max, min, ◌&&◌, cond, eqb, nat_lt, refl, ap, sym, ◌∙◌, subst, List, [], ◌∷◌, ◌++◌, map, Option, Some, None, Bool, true, false}
use Rattle.c_types.specs.Trees.{Ctype}
use Rattle.c_types.specs.declared.term.PathStep.{PathStep}
use Rattle.c_types.specs.declared.term.PathStep.TheVariants.{Index, Member}
use Rattle.c_inits.specs.Shapes.{Shape, Fields, Scalar, Elements, Structured, Overlaid, NoFields, Field, Path, SubObject, whole, inner, subs, within, elements, members, first_member, onward, onward_in, onward_at}
use Rattle.c_inits.specs.Syntax.{Designator, AtIndex, AtName, Init, Items, Value, Braces, NoItems, Item, designator_node, init_node}
use Rattle.c_inits.specs.Initial.{Action, Clears, Puts, Outcome, Places, NoPlace, has_name, or_else, moved, named, own, in_unnamed, element, designated, Start, At, Nothing, Described, Found, Missing, farther, and_then, described, parts, next, start_at, starts, fits, first_fit, place, text_size, characters, given, of_value, acts_under, and_rest, joined, at_place, at_start, only_text, is_scalar, is_braced, or_text, initial, listed, reach, path_of, length_given}

-- the number of elements, where the object is an array
abbrev pub width : Shape → ℕ
width (Elements type of length) = length
width t = 0

-- a sub-object that begins within so many elements, or is the whole and has no more
record IsWithin (n : ℕ) (s : SubObject) : Type 0 where
  begins : reach s.path ≤ n
  all : s.path ≡ [] → width s.shape ≤ n

abbrev AreWithin : ℕ → List SubObject → Type 0
AreWithin n [] = Unit {0}
AreWithin n (s ∷ rest) = IsWithin n s × AreWithin n rest

abbrev MayBeWithin : ℕ → Option SubObject → Type 0
MayBeWithin n None = Unit {0}
MayBeWithin n (Some s) = IsWithin n s

-- a sub-object that is reached by a step at least
record IsStepped (n : ℕ) (s : SubObject) : Type 0 where
  first : PathStep
  more : Path
  is : s.path ≡ first ∷ more
  begins : reach (first ∷ []) ≤ n

abbrev MayBeStepped : ℕ → Option SubObject → Type 0
MayBeStepped n None = Unit {0}
MayBeStepped n (Some s) = IsStepped n s

abbrev Leads : ℕ → Described → Type 0
Leads n (Found path) = reach path ≤ n
Leads n (Missing node) = Unit {0}

abbrev StartsWithin : ℕ → Start → Type 0
StartsWithin n (At list) = AreWithin n list
StartsWithin n (Nothing node) = Unit {0}

abbrev pub Keeps : ℕ → Outcome → Type 0
Keeps n (Places actions) = length_given actions ≤ n
Keeps n (NoPlace node) = Unit {0}

abbrev BeginsBefore : ℕ → Option Path → Type 0
BeginsBefore n None = Unit {0}
BeginsBefore n (Some path) = reach path ≤ n

either_way : {A : Type 0} (P : A → Type 0) (b : Bool) (x y : A) → P x → P y → P (cond b x y)
either_way P true x y p q = p
either_way P false x y p q = q

where_true : {A : Type 0} (P : A → Type 0) (b : Bool) (x y : A) → (b ≡ true → P x) → P y → P (cond b x y)
where_true P true x y p q = p refl
where_true P false x y p q = q

-- a path begins with its first step
first_alone : (step : PathStep) (p q : Path) → reach (step ∷ p) ≡ reach (step ∷ q)
first_alone (Index k) p q = refl
first_alone (Member m) p q = refl

step_within : (n : ℕ) (step : PathStep) (list : List SubObject) → reach (step ∷ []) ≤ n → AreWithin n (within step list)
step_within n step [] h = tt
step_within n step (s ∷ rest) h = (record { begins = subst (λ k. k ≤ n) (first_alone step [] s.path) h; all = λ e. cc }, step_within n step rest h)

both_within : (n : ℕ) (xs ys : List SubObject) → AreWithin n xs → AreWithin n ys → AreWithin n (xs ++ ys)
both_within n [] ys p q = q
both_within n (x ∷ xs) ys p q = (p.0, both_within n xs ys p.1 q)

elements_within : (n k more : ℕ) (of : List SubObject) → k + more ≤ n → AreWithin n (elements k more of)
elements_within n k zero of h = tt
elements_within n k (suc more) of h =
    both_within n (within (Index k) of) (elements (suc k) more of) (step_within n (Index k) of (omega (arith, h))) (elements_within n (suc k) more of (omega (arith, h)))

none_within : (n m : ℕ) (list : List SubObject) → AreWithin n (within (Member m) list)
none_within n m list = let least : 0 ≤ n = omega arith in step_within n (Member m) list least

members_within : (n : ℕ) (rows : Fields) → AreWithin n (members rows)
members_within n NoFields = tt
members_within n (Field name number shape rest) = both_within n (within (Member number) (whole shape ∷ inner shape)) (members rest) (none_within n number (whole shape ∷ inner shape)) (members_within n rest)

first_within : (n : ℕ) (rows : Fields) → AreWithin n (first_member rows)
first_within n NoFields = tt
first_within n (Field name number shape rest) = none_within n number (whole shape ∷ inner shape)

inner_within : (t : Shape) → AreWithin (width t) (inner t)
inner_within (Scalar type) = tt
inner_within (Elements type of length) = elements_within length 0 length (whole of ∷ inner of) (omega arith)
inner_within (Structured type rows) = members_within 0 rows
inner_within (Overlaid type rows) = first_within 0 rows

whole_within : (t : Shape) → IsWithin (width t) (whole t)
whole_within t = record { begins = omega arith; all = λ e. omega arith }

subs_within : (t : Shape) → AreWithin (width t) (subs t)
subs_within t = (whole_within t, inner_within t)

parts_within : (t : Shape) → AreWithin (width t) (parts t)
parts_within (Scalar type) = (whole_within (Scalar type), tt)
parts_within (Elements type of length) = inner_within (Elements type of length)
parts_within (Structured type rows) = inner_within (Structured type rows)
parts_within (Overlaid type rows) = inner_within (Overlaid type rows)

onward_fields : (start : Shape → List SubObject) (rows : Fields) (m : ℕ) (path : Path) → AreWithin 0 (onward_in start rows m path)
onward_fields start NoFields m path = tt
onward_fields start (Field name number shape rest) m path =
    either_way (AreWithin 0) (eqb number m) (within (Member number) (onward start shape path) ++ members rest) (onward_in start rest m path)
    (both_within 0 (within (Member number) (onward start shape path)) (members rest) (none_within 0 number (onward start shape path)) (members_within 0 rest))
    (onward_fields start rest m path)

onward_first : (start : Shape → List SubObject) (rows : Fields) (m : ℕ) (path : Path) → AreWithin 0 (onward_at start rows m path)
onward_first start NoFields m path = tt
onward_first start (Field name number shape rest) m path =
    either_way (AreWithin 0) (eqb number m) (within (Member number) (onward start shape path)) (onward_at start rest m path)
    (none_within 0 number (onward start shape path)) (onward_first start rest m path)

onward_within : (start : Shape → List SubObject) (t : Shape) (path : Path) → AreWithin (width t) (start t) → reach path ≤ width t → AreWithin (width t) (onward start t path)
onward_within start t [] h r = h
onward_within start (Scalar type) (step ∷ path) h r = tt
onward_within start (Elements type of length) (Index k ∷ path) h r =
    both_within length (within (Index k) (onward start of path)) (elements (suc k) (length - suc k) (subs of)) (step_within length (Index k) (onward start of path) r)
    (elements_within length (suc k) (length - suc k) (subs of) (omega (arith, r)))
onward_within start (Elements type of length) (Member m ∷ path) h r = tt
onward_within start (Structured type rows) (Index k ∷ path) h r = tt
onward_within start (Structured type rows) (Member m ∷ path) h r = onward_fields start rows m path
onward_within start (Overlaid type rows) (Index k ∷ path) h r = tt
onward_within start (Overlaid type rows) (Member m ∷ path) h r = onward_first start rows m path

-- designators

else_stepped : (n : ℕ) (o other : Option SubObject) → MayBeStepped n o → MayBeStepped n other → MayBeStepped n (or_else o other)
else_stepped n None other p q = q
else_stepped n (Some s) other p q = p

moved_stepped : (n m : ℕ) (o : Option SubObject) → MayBeStepped n (moved (Member m ∷ []) o)
moved_stepped n m None = tt
moved_stepped n m (Some s) = record { first = Member m; more = s.path; is = refl; begins = omega arith }

own_stepped : (n : ℕ) (rows : Fields) (name : List ℕ) → MayBeStepped n (own rows name)
own_stepped n NoFields name = tt
own_stepped n (Field called number shape rest) name =
    either_way (MayBeStepped n) (has_name called name) (Some (record { path = Member number ∷ []; shape = shape })) (own rest name)
    (record { first = Member number; more = []; is = refl; begins = omega arith }) (own_stepped n rest name)

unnamed_stepped : (n : ℕ) (rows : Fields) (name : List ℕ) → MayBeStepped n (in_unnamed rows name)
unnamed_stepped n NoFields name = tt
unnamed_stepped n (Field None number shape rest) name =
    else_stepped n (moved (Member number ∷ []) (named shape name)) (in_unnamed rest name) (moved_stepped n number (named shape name)) (unnamed_stepped n rest name)
unnamed_stepped n (Field (Some called) number shape rest) name = unnamed_stepped n rest name

named_stepped : (n : ℕ) (t : Shape) (name : List ℕ) → MayBeStepped n (named t name)
named_stepped n (Scalar type) name = tt
named_stepped n (Elements type of length) name = tt
named_stepped n (Structured type rows) name = else_stepped n (own rows name) (in_unnamed rows name) (own_stepped n rows name) (unnamed_stepped n rows name)
named_stepped n (Overlaid type rows) name = else_stepped n (own rows name) (in_unnamed rows name) (own_stepped n rows name) (unnamed_stepped n rows name)

element_stepped : (t : Shape) (k : ℕ) → MayBeStepped (width t) (element t k)
element_stepped (Scalar type) k = tt
element_stepped (Elements type of length) k =
    where_true (MayBeStepped length) (nat_lt k length) (Some (record { path = Index k ∷ []; shape = of })) None
    (λ e. record { first = Index k; more = []; is = refl; begins = grind (arith, e) }) tt
element_stepped (Structured type rows) k = tt
element_stepped (Overlaid type rows) k = tt

designated_stepped : (t : Shape) (d : Designator) → MayBeStepped (width t) (designated t d)
designated_stepped t (AtIndex node k) = element_stepped t k
designated_stepped t (AtName node name) = named_stepped (width t) t name

farther_leads : (n : ℕ) (s : SubObject) (more : Described) → IsStepped n s → Leads n (farther s.path more)
farther_leads n s (Missing node) h = tt
farther_leads n s (Found path) h =
    subst (λ k. k ≤ n) (first_alone h.first [] (h.more ++ path) ∙ ap (λ p. reach (p ++ path)) (sym h.is)) h.begins

then_leads : (n : ℕ) (o : Option SubObject) (node : ℕ) (rest : Shape → Described) → MayBeStepped n o → Leads n (and_then o node rest)
then_leads n None node rest h = tt
then_leads n (Some s) node rest h = farther_leads n s (rest s.shape) h

described_leads : (t : Shape) (ds : List Designator) → Leads (width t) (described t ds)
described_leads t [] = omega arith
described_leads t (d ∷ ds) = then_leads (width t) (designated t d) (designator_node d) (λ s. described s ds) (designated_stepped t d)

next_within : (t : Shape) (before : Option Path) → BeginsBefore (width t) before → AreWithin (width t) (next t before)
next_within t None h = parts_within t
next_within t (Some path) h = onward_within (λ s. []) t path tt h

start_within : (t : Shape) (to : Described) → Leads (width t) to → StartsWithin (width t) (start_at t to)
start_within t (Found path) h = onward_within subs t path (subs_within t) h
start_within t (Missing node) h = tt

starts_within : (t : Shape) (before : Option Path) (ds : List Designator) → BeginsBefore (width t) before → StartsWithin (width t) (starts t before ds)
starts_within t before [] h = next_within t before h
starts_within t before (d ∷ ds) h = start_within t (described t (d ∷ ds)) (described_leads t (d ∷ ds))

-- places

fit_within : (n : ℕ) (type : Ctype) (text : Bool) (list : List SubObject) → AreWithin n list → MayBeWithin n (first_fit type text list)
fit_within n type text [] h = tt
fit_within n type text (s ∷ rest) h = either_way (MayBeWithin n) (fits type text s.shape) (Some s) (first_fit type text rest) h.0 (fit_within n type text rest h.1)

place_within : (n : ℕ) (init : Init) (list : List SubObject) → AreWithin n list → MayBeWithin n (place init list)
place_within n (Value node type text) list h = fit_within n type text list h
place_within n (Braces node items) [] h = tt
place_within n (Braces node items) (s ∷ rest) h = h.0

-- values

characters_keep : (node k count : ℕ) → length_given (characters node k count) ≤ k + count
characters_keep node k zero = omega arith
characters_keep node k (suc more) =
    let later : length_given (characters node (suc k) more) ≤ suc k + more = characters_keep node (suc k) more in
    omega (arith, later)

given_keeps : (t : Shape) (node : ℕ) (type : Ctype) → Keeps (width t) (given t node type)
given_keeps (Scalar own) node type = omega arith
given_keeps (Elements own of length) node type =
    let size : ℕ = text_size type in
    let put : length_given (characters node 0 (min size length)) ≤ 0 + min size length = characters_keep node 0 (min size length) in
    either_way (Keeps length) (nat_lt (suc length) size) (NoPlace node) (Places (characters node 0 (min size length))) tt (omega (arith, put))
given_keeps (Structured own rows) node type = omega arith
given_keeps (Overlaid own rows) node type = omega arith

value_keeps : (t : Shape) (node : ℕ) (type : Ctype) (text : Bool) → Keeps (width t) (of_value t node type text)
value_keeps t node type text = either_way (Keeps (width t)) (fits type text t) (given t node type) (NoPlace node) (given_keeps t node type) tt

-- lists

all_under : (path : Path) (first : PathStep) (n : ℕ) (actions : List Action) → reach (first ∷ path) ≤ n → length_given (map (acts_under (first ∷ path)) actions) ≤ n
all_under path first n [] h = omega arith
all_under path first n (Clears p ∷ rest) h =
    let one : reach (first ∷ path ++ p) ≤ n = subst (λ k. k ≤ n) (first_alone first path (path ++ p)) h in
    let others : length_given (map (acts_under (first ∷ path)) rest) ≤ n = all_under path first n rest h in
    omega (arith, one, others)
all_under path first n (Puts p ∷ rest) h =
    let one : reach (first ∷ path ++ p.path) ≤ n = subst (λ k. k ≤ n) (first_alone first path (path ++ p.path)) h in
    let others : length_given (map (acts_under (first ∷ path)) rest) ≤ n = all_under path first n rest h in
    omega (arith, one, others)

same_under : (actions : List Action) → length_given (map (acts_under []) actions) ≡ length_given actions
same_under [] = refl
same_under (Clears p ∷ rest) = ap (max (reach p)) (same_under rest)
same_under (Puts p ∷ rest) = ap (max (reach p.path)) (same_under rest)

under_keeps : (n : ℕ) (s : SubObject) (actions : List Action) → IsWithin n s → length_given actions ≤ width s.shape → length_given (map (acts_under s.path) actions) ≤ n
under_keeps n s actions h k = by_path s.path refl
  where
    by_path : (path : Path) → s.path ≡ path → length_given (map (acts_under path) actions) ≤ n
    by_path [] e = let least : width s.shape ≤ n = h.all e in let same = same_under actions in omega (arith, k, least, same)
    by_path (first ∷ more) e = all_under more first n actions (subst (λ p. reach p ≤ n) e h.begins)

both_keep : (n : ℕ) (xs ys : List Action) → length_given xs ≤ n → length_given ys ≤ n → length_given (xs ++ ys) ≤ n
both_keep n [] ys p q = q
both_keep n (x ∷ xs) ys p q =
    let one : reach (path_of x) ≤ n = omega (arith, p) in
    let rest : length_given (xs ++ ys) ≤ n = both_keep n xs ys (omega (arith, p)) q in
    omega (arith, one, rest)

rest_keeps : (n : ℕ) (actions : List Action) (rest : Outcome) → length_given actions ≤ n → Keeps n rest → Keeps n (and_rest actions rest)
rest_keeps n actions (Places more) h k = both_keep n actions more h k
rest_keeps n actions (NoPlace node) h k = tt

joined_keeps : (n : ℕ) (s : SubObject) (o rest : Outcome) → IsWithin n s → Keeps (width s.shape) o → Keeps n rest → Keeps n (joined s.path o rest)
joined_keeps n s (NoPlace node) rest h k r = tt
joined_keeps n s (Places actions) rest h k r =
    let first : reach s.path ≤ n = h.begins in
    let own : length_given (map (acts_under s.path) actions) ≤ n = under_keeps n s actions h k in
    rest_keeps n (Clears s.path ∷ map (acts_under s.path) actions) rest (omega (arith, first, own)) r

module _ (n : ℕ) (this : Shape → Outcome) (rest : Path → Outcome) (each : (s : Shape) → Keeps (width s) (this s)) (others : (path : Path) → reach path ≤ n → Keeps n (rest path)) where
  at_place_keeps : (node : ℕ) (o : Option SubObject) → MayBeWithin n o → Keeps n (at_place node o this rest)
  at_place_keeps node None h = tt
  at_place_keeps node (Some s) h = joined_keeps n s (this s.shape) (rest s.path) h (each s.shape) (others s.path h.begins)

  at_start_keeps : (start : Start) (init : Init) → StartsWithin n start → Keeps n (at_start start init this rest)
  at_start_keeps (Nothing node) init h = tt
  at_start_keeps (At list) init h = at_place_keeps (init_node init) (place init list) (place_within n init list h)

text_keeps : (t : Shape) (o : Option (ℕ × Ctype)) (list : Outcome) → Keeps (width t) list → Keeps (width t) (or_text t o list)
text_keeps t None list h = h
text_keeps t (Some value) list h =
    either_way (Keeps (width t)) (fits value.1 true t && (cond (is_scalar t) false true)) (of_value t value.0 value.1 true) list (value_keeps t value.0 value.1 true) h

mutual
  -- an initialiser gives an array no more elements than it has
  pub initial_keeps : (t : Shape) (init : Init) → Keeps (width t) (initial t init)
  initial_keeps t (Value node type text) = value_keeps t node type text
  initial_keeps t (Braces node items) = text_keeps t (only_text items) (listed t None items) (listed_keeps t None items tt)

  listed_keeps : (t : Shape) (before : Option Path) (items : Items) → BeginsBefore (width t) before → Keeps (width t) (listed t before items)
  listed_keeps t before NoItems h = omega arith
  listed_keeps t before (Item ds init rest) h =
      at_start_keeps (width t) (λ s. cond (is_scalar t && is_braced init) (NoPlace (init_node init)) (initial s init)) (λ path. listed t (Some path) rest)
      (λ s. either_way (Keeps (width s)) (is_scalar t && is_braced init) (NoPlace (init_node init)) (initial s init) tt (initial_keeps s init))
      (λ path r. listed_keeps t (Some path) rest r)
      (starts t before ds) init (starts_within t before ds h)
