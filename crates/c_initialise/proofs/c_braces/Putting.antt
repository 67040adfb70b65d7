-- What the items of braced lists initialise.
use Rattle.std.proofs.Common.{arith, ◌≡◌, ◌<◌, ◌==◌, ℕ, zero, suc, ◌+◌, ◌&&◌, cond, refl, ap, sym, ◌∙◌, subst, List, [], ◌∷◌, ◌++◌, append_assoc, map, length, slice_get, Option, Some, None, Bool, true, false, All, if◌then◌else◌, slice_index_or, Vec, Global, IfSome, not, is_some, get_or, drop, drop-cons, add-one}
use Rattle.std.specs.Option.{option_map}
use Rattle.std.proofs.lemmas.List.{map-append, map_push}
use Rattle.std.proofs.lemmas.List.Elements.{All-head}
use Rattle.c_types.specs.Trees.{Ctype}
use Rattle.c_types.specs.Table.{Table, type_of}
use Rattle.c_inits.specs.declared.cursor.Expression.{Expression}
use Rattle.c_inits.specs.declared.designators.Designator.{Designator as DesignatorTerm}
use Rattle.c_types.specs.declared.term.PathStep.{PathStep}
use Rattle.c_inits.specs.declared.items.InitAction.{InitAction}
use Rattle.c_inits.specs.declared.items.InitAction.TheVariants.{Clears as ClearsPath}
use Rattle.c_inits.specs.Items.{action_of}
use Rattle.c_inits.specs.Shapes.{Shape, Path, SubObject}
use Rattle.c_inits.specs.Syntax.{Init, Items, Value, Braces, NoItems, Item, Designator, init_node}
use Rattle.c_inits.specs.Initial.{Placed, lasting, Outcome, Places, NoPlace, Action, Clears, Puts, acts_under, and_rest, joined, at_place, at_start, Start, At, Nothing, starts, place, only_text, or_text, of_value, fits, is_scalar, is_braced, initial, listed}
use Rattle.c_inits.specs.Designated.{designator_of}
use Rattle.c_inits.specs.Places.{placing, OnPlace, NoWhere, or_nowhere}
use Rattle.c_inits.specs.Filling.{Gives}
use Rattle.c_inits.proofs.Onward.{chosen, chosen_not}
use Rattle.c_initialise.specs.declared.c_braces.tree.InitNode.{InitNode}
use Rattle.c_initialise.specs.declared.c_braces.tree.InitNode.TheVariants.{Value as ValueNode, Braces as BracesNode}
use Rattle.c_initialise.specs.declared.c_braces.tree.InitEntry.{InitEntry}
use Rattle.c_initialise.specs.c_braces.Tree.{items_over, init_over, init_at, AreInits, IsBefore, head_node, head_value, string_of, only_in}
use Rattle.c_initialise.specs.c_braces.Given.{within_list, ItemGives}
use Rattle.c_initialise.proofs.c_braces.Inits.{init_is}

-- the type of an expression in place of its number
abbrev pub typed : Table → ℕ × Expression → ℕ × Ctype
typed table p = (p.0, type_of table p.1.ty.0)

text_one : (node : ℕ) (t : Ctype) (text : Bool) → only_text (Item [] (Value node t text) NoItems) ≡ (if text then Some (node, t) else None)
text_one node t true = refl
text_one node t false = refl

text_value : (table : Table) (node : ℕ) (e : Expression) (text : Bool) → (if text then Some (node, type_of table e.ty.0) else None) ≡ option_map (typed table) (if text then Some (node, e) else None)
text_value table node e true = refl
text_value table node e false = refl

never : (n : ℕ) → (suc n == 0) ≡ false
never n = grind arith

only_one : (table : Table) (f : ℕ → Init) (ds : List DesignatorTerm) (n : InitNode) →
    only_text (Item (map designator_of ds) (init_over table f n) NoItems) ≡ option_map (typed table) (if length ds == 0 then string_of (Some n) else None)
only_one table f [] (ValueNode node value) = text_one node (type_of table value.ty.0) value.text ∙ text_value table node value value.text
only_one table f [] (BracesNode node items) = refl
only_one table f (d ∷ ds) (ValueNode node value) = ap (λ b. option_map (typed table) (if b then string_of (Some (ValueNode node value)) else None)) (sym (never (length ds)))
only_one table f (d ∷ ds) (BracesNode node items) = ap (λ b. option_map (typed table) (if b then string_of (Some (BracesNode node items)) else None)) (sym (never (length ds)))

not_alone : (ds : List Designator) (init : Init) (more : List Designator) (next : Init) (rest : Items) → only_text (Item ds init (Item more next rest)) ≡ None
not_alone [] (Value node type true) more next rest = refl
not_alone [] (Value node type false) more next rest = refl
not_alone [] (Braces node items) more next rest = refl
not_alone (d ∷ ds) init more next rest = refl

pub there : {A : Type 0} (xs : List A) (i : ℕ) → i < length xs → (x : A) × (slice_get xs i ≡ Some x)
there [] i lt = absurd (omega (arith, lt))
there (x ∷ xs) zero lt = (x, refl)
there (x ∷ xs) (suc i) lt = there xs i (omega (arith, lt))

-- the only item of a list, where it is a string
pub only_is : (table : Table) (nodes : List InitNode) (items : List InitEntry) → AreInits table nodes → All (λ e. e.init < length nodes) items →
    only_text (items_over (init_at table nodes) items) ≡ option_map (typed table) (only_in nodes items)
only_is table nodes [] all within = refl
only_is table nodes (e ∷ []) all within =
    let lt : e.init < length nodes = All-head (λ e. e.init < length nodes) e [] within in
    let found : (n : InitNode) × (slice_get nodes e.init ≡ Some n) = there nodes e.init lt in
    ap (λ x. only_text (Item (map designator_of e.designators.items) x NoItems)) (init_is table nodes e.init found.0 all found.1)
    ∙ only_one table (init_at table nodes) e.designators.items found.0
    ∙ ap (λ (o : Option InitNode). option_map (typed table) (if length e.designators.items == 0 then string_of o else None)) (sym found.1)
only_is table nodes (e ∷ g ∷ rest) all within =
    not_alone (map designator_of e.designators.items) (init_at table nodes e.init) (map designator_of g.designators.items) (init_at table nodes g.init) (items_over (init_at table nodes) rest)

-- a string that is found is one, and its type is the table's
if_text : (node : ℕ) (e : Expression) (text : Bool) (p : ℕ × Expression) → (if text then Some (node, e) else None) ≡ Some p → (text ≡ true) × (e ≡ p.1)
if_text node e true p h = (refl, cc)
if_text node e false p h = cc

string_is : (table : Table) (n : InitNode) (i : ℕ) (p : ℕ × Expression) → IsBefore table i n → string_of (Some n) ≡ Some p → (p.1.text ≡ true) × (p.1.ty.0 < length table.terms)
string_is table (ValueNode node value) i p b h =
    let both : (value.text ≡ true) × (value ≡ p.1) = if_text node value value.text p h in
    (subst (λ (e : Expression). e.text ≡ true) both.1 both.0, subst (λ (e : Expression). e.ty.0 < length table.terms) both.1 b)
string_is table (BracesNode node items) i p b h = cc

if_alone : (test : Bool) (o : Option (ℕ × Expression)) (p : ℕ × Expression) → (if test then o else None) ≡ Some p → o ≡ Some p
if_alone true o p h = h
if_alone false o p h = cc

pub only_string_is : (table : Table) (nodes : List InitNode) (items : List InitEntry) (p : ℕ × Expression) → AreInits table nodes → All (λ e. e.init < length nodes) items →
    only_in nodes items ≡ Some p → (p.1.text ≡ true) × (p.1.ty.0 < length table.terms)
only_string_is table nodes [] p all within h = cc
only_string_is table nodes (e ∷ []) p all within h =
    let lt : e.init < length nodes = All-head (λ e. e.init < length nodes) e [] within in
    let found : (n : InitNode) × (slice_get nodes e.init ≡ Some n) = there nodes e.init lt in
    string_is table found.0 e.init p (all.each e.init found.0 found.1)
    (ap string_of (sym found.1) ∙ if_alone (length e.designators.items == 0) (string_of (slice_get nodes e.init)) p h)
only_string_is table nodes (e ∷ g ∷ rest) p all within h = cc

-- an object that such a string fills, or not
pub text_fills : (s : Shape) (node : ℕ) (type : Ctype) (text fit scalar : Bool) (list : Outcome) → text ≡ true → fit ≡ fits type text s → fit ≡ true → scalar ≡ is_scalar s → scalar ≡ false →
    or_text s (Some (node, type)) list ≡ of_value s node type text
text_fills s node type true fit scalar list e f g h k =
    chosen (fits type true s && (cond (is_scalar s) false true)) (of_value s node type true) list
    (ap (λ b. b && (cond (is_scalar s) false true)) (sym f ∙ g) ∙ ap (λ b. cond b false true) (sym h ∙ k))
text_fills s node type false fit scalar list e f g h k = cc

pub text_unfit : (s : Shape) (node : ℕ) (type : Ctype) (text fit : Bool) (list : Outcome) → text ≡ true → fit ≡ fits type text s → fit ≡ false → or_text s (Some (node, type)) list ≡ list
text_unfit s node type true fit list e f g =
    chosen_not (fits type true s && (cond (is_scalar s) false true)) (of_value s node type true) list (ap (λ b. b && (cond (is_scalar s) false true)) (sym f ∙ g))
text_unfit s node type false fit list e f g = cc

and_no : (b : Bool) → (b && false) ≡ false
and_no true = refl
and_no false = refl

pub text_scalar : (s : Shape) (node : ℕ) (type : Ctype) (scalar : Bool) (list : Outcome) → scalar ≡ is_scalar s → scalar ≡ true → or_text s (Some (node, type)) list ≡ list
text_scalar s node type scalar list h k =
    chosen_not (fits type true s && (cond (is_scalar s) false true)) (of_value s node type true) list
    (ap (λ b. fits type true s && (cond b false true)) (sym h ∙ k) ∙ and_no (fits type true s))

-- paths that go on
pub under_under : (p q : Path) (actions : List Action) → map (acts_under p) (map (acts_under q) actions) ≡ map (acts_under (p ++ q)) actions
under_under p q [] = refl
under_under p q (Clears r ∷ rest) = ap (λ x. Clears x ∷ map (acts_under p) (map (acts_under q) rest)) (sym (append_assoc p q r)) ∙ ap (λ l. Clears ((p ++ q) ++ r) ∷ l) (under_under p q rest)
under_under p q (Puts r ∷ rest) =
    ap (λ x. Puts (record r { path = x }) ∷ map (acts_under p) (map (acts_under q) rest)) (sym (append_assoc p q r.path)) ∙ ap (λ l. Puts (record r { path = (p ++ q) ++ r.path }) ∷ l) (under_under p q rest)

pub rest_rest : (a b : List Action) (x : Outcome) → and_rest a (and_rest b x) ≡ and_rest (a ++ b) x
rest_rest a b (Places more) = ap Places (sym (append_assoc a b more))
rest_rest a b (NoPlace node) = refl

-- an item that has a place, or none
place_is : (table : Table) (f : ℕ → Init) (n : InitNode) (subs : List SubObject) → or_nowhere (head_node n) (place (init_over table f n) subs) ≡ placing table (head_node n) (head_value n) (At subs)
place_is table f (ValueNode node value) subs = refl
place_is table f (BracesNode node items) subs = refl

pub node_is : (table : Table) (f : ℕ → Init) (n : InitNode) → init_node (init_over table f n) ≡ head_node n
node_is table f (ValueNode node value) = refl
node_is table f (BracesNode node items) = refl

found_there : (node : ℕ) (o : Option SubObject) (s : SubObject) → or_nowhere node o ≡ OnPlace s → o ≡ Some s
found_there node None s h = cc
found_there node (Some x) s h = let same : x ≡ s = cc in ap Some same

found_nowhere : (node : ℕ) (o : Option SubObject) (bad : ℕ) → or_nowhere node o ≡ NoWhere bad → (o ≡ None) × (node ≡ bad)
found_nowhere node None bad h = (refl, cc)
found_nowhere node (Some x) bad h = cc

module _ (table : Table) (f : ℕ → Init) (n : InitNode) (this : Shape → Outcome) (rest : Path → Outcome) where
  pub on_place : (start : Start) (s : SubObject) → placing table (head_node n) (head_value n) start ≡ OnPlace s → at_start start (init_over table f n) this rest ≡ joined s.path (this s.shape) (rest s.path)
  on_place (Nothing bad) s h = cc
  on_place (At subs) s h =
      let e : place (init_over table f n) subs ≡ Some s = found_there (head_node n) (place (init_over table f n) subs) s (place_is table f n subs ∙ h) in
      ap (λ o. at_place (init_node (init_over table f n)) o this rest) e

  pub no_place : (start : Start) (bad : ℕ) → placing table (head_node n) (head_value n) start ≡ NoWhere bad → at_start start (init_over table f n) this rest ≡ NoPlace bad
  no_place (Nothing other) bad h = let same : other ≡ bad = cc in ap NoPlace same
  no_place (At subs) bad h =
      let e : (place (init_over table f n) subs ≡ None) × (head_node n ≡ bad) = found_nowhere (head_node n) (place (init_over table f n) subs) bad (place_is table f n subs ∙ h) in
      ap (λ o. at_place (init_node (init_over table f n)) o this rest) e.0 ∙ ap NoPlace (node_is table f n ∙ e.1)

-- the initialiser in a position, where it is an expression or a braced list
pub value_there : (table : Table) (nodes : List InitNode) (i : ℕ) (n : InitNode) (t : Shape) (node : ℕ) (value : Expression) → AreInits table nodes → slice_get nodes i ≡ Some n → n ≡ ValueNode node value →
    of_value t node (type_of table value.ty.0) value.text ≡ initial t (init_at table nodes i)
value_there table nodes i n t node value all at e = sym (ap (initial t) (init_is table nodes i n all at ∙ ap (init_over table (init_at table nodes)) e))

pub value_known : (table : Table) (nodes : List InitNode) (i : ℕ) (n : InitNode) (node : ℕ) (value : Expression) → AreInits table nodes → slice_get nodes i ≡ Some n → n ≡ ValueNode node value → value.ty.0 < length table.terms
value_known table nodes i n node value all at e = subst (λ (x : InitNode). IsBefore table i x) e (all.each i n at)

pub head_known : (table : Table) (nodes : List InitNode) (i : ℕ) (n : InitNode) (value : Expression) → AreInits table nodes → slice_get nodes i ≡ Some n → Some value ≡ head_value n → value.ty.0 < length table.terms
head_known table nodes i (ValueNode node own) value all at e = let same : own ≡ value = cc in subst (λ (x : Expression). x.ty.0 < length table.terms) same (all.each i (ValueNode node own) at)
head_known table nodes i (BracesNode node items) value all at e = cc

-- within a scalar's braces no braces stand
braced_is : (table : Table) (f : ℕ → Init) (n : InitNode) → head_value n ≡ None → is_braced (init_over table f n) ≡ true
braced_is table f (ValueNode node value) e = cc
braced_is table f (BracesNode node items) e = refl

value_is : (table : Table) (f : ℕ → Init) (n : InitNode) (value : Expression) → head_value n ≡ Some value → is_braced (init_over table f n) ≡ false
value_is table f (ValueNode node own) value e = refl
value_is table f (BracesNode node items) value e = cc

-- an item's own initialiser was put at the item's place
pub item_put : (t : Shape) (start : Start) (init : Init) (s : Shape) (after path whole : Path) (old now new : List Action) (bad : Option ℕ) →
    ((rest : Path → Outcome) → at_start start init (within_list t init) rest ≡ joined after (initial s init) (rest after)) →
    whole ≡ path ++ after → now ≡ old ++ Clears whole ∷ [] → Gives (initial s init) whole now new bad → ItemGives t start init after path old new bad
item_put t start init s after path whole old now new None at w e (actions, is, put) = (
  Clears after ∷ map (acts_under after) actions,
  (λ rest. at rest ∙ ap (λ o. joined after o (rest after)) is),
  put ∙ ap (λ l. l ++ map (acts_under whole) actions) e ∙ append_assoc old (Clears whole ∷ []) (map (acts_under whole) actions)
      ∙ ap (λ q. old ++ Clears q ∷ map (acts_under q) actions) w
      ∙ ap (λ l. old ++ Clears (path ++ after) ∷ l) (sym (under_under path after actions)),
)
item_put t start init s after path whole old now new (Some bad) at w e is = λ rest. at rest ∙ ap (λ o. joined after o (rest after)) is

-- one more item of a list
pub more_items : (t : Shape) (before : Option Path) (ds : List Designator) (init : Init) (rest : Items) (whole : Outcome) (so_far : List Action) (after path : Path) (first old new : List Action) →
    whole ≡ and_rest so_far (listed t before (Item ds init rest)) → old ≡ first ++ map (acts_under path) so_far →
    ItemGives t (starts t before ds) init after path old new None →
    (actions : List Action) × (whole ≡ and_rest actions (listed t (Some after) rest)) × (new ≡ first ++ map (acts_under path) actions)
more_items t before ds init rest whole so_far after path first old new e p (actions, is, put) = (
  so_far ++ actions,
  e ∙ ap (and_rest so_far) (is (λ q. listed t (Some q) rest)) ∙ rest_rest so_far actions (listed t (Some after) rest),
  put ∙ ap (λ l. l ++ map (acts_under path) actions) p ∙ append_assoc first (map (acts_under path) so_far) (map (acts_under path) actions)
      ∙ ap (λ l. first ++ l) (sym (map-append (acts_under path) so_far actions)),
)

pub no_more : (t : Shape) (before : Option Path) (ds : List Designator) (init : Init) (rest : Items) (whole : Outcome) (so_far : List Action) (after path : Path) (old new : List Action) (bad : ℕ) →
    whole ≡ and_rest so_far (listed t before (Item ds init rest)) → ItemGives t (starts t before ds) init after path old new (Some bad) → whole ≡ NoPlace bad
no_more t before ds init rest whole so_far after path old new bad e is = e ∙ ap (and_rest so_far) (is (λ q. listed t (Some q) rest))

module _ (table : Table) (nodes : List InitNode) (items : List InitEntry) (all : AreInits table nodes) (within : All (λ e. e.init < length nodes) items) (s : Shape) (list : Outcome) where
  pub text_none : only_in nodes items ≡ None → or_text s (only_text (items_over (init_at table nodes) items)) list ≡ list
  text_none h = ap (λ o. or_text s o list) (only_is table nodes items all within ∙ ap (option_map (typed table)) h)

  pub text_some : (p : ℕ × Expression) → only_in nodes items ≡ Some p → or_text s (only_text (items_over (init_at table nodes) items)) list ≡ or_text s (Some (p.0, type_of table p.1.ty.0)) list
  text_some p h = ap (λ o. or_text s o list) (only_is table nodes items all within ∙ ap (option_map (typed table)) h)

pub braces_there : (table : Table) (nodes : List InitNode) (i : ℕ) (n : InitNode) (t : Shape) (node : ℕ) (items : Vec InitEntry Global) → AreInits table nodes → slice_get nodes i ≡ Some n → n ≡ BracesNode node items →
    initial t (init_at table nodes i) ≡ or_text t (only_text (items_over (init_at table nodes) items.items)) (listed t None (items_over (init_at table nodes) items.items))
braces_there table nodes i n t node items all at e = ap (initial t) (init_is table nodes i n all at ∙ ap (init_over table (init_at table nodes)) e)

pub items_before : (table : Table) (nodes : List InitNode) (i : ℕ) (n : InitNode) (node : ℕ) (items : Vec InitEntry Global) → AreInits table nodes → slice_get nodes i ≡ Some n → n ≡ BracesNode node items → All (λ e. e.init < i) items.items
items_before table nodes i n node items all at e = subst (λ (x : InitNode). IsBefore table i x) e (all.each i n at)

pub items_known : (i n : ℕ) (items : List InitEntry) → i < n → All (λ e. e.init < i) items → All (λ e. e.init < n) items
items_known i n items lt h = λ k d b. let g : (slice_index_or items k d).init < i = h k d b in omega (arith, lt, g)

pub gives_at : (a b : Outcome) (path : Path) (old new : List Action) (bad : Option ℕ) → a ≡ b → Gives a path old new bad → Gives b path old new bad
gives_at a b path old new bad e h = subst (λ (o : Outcome). Gives o path old new bad) e h

pub value_in : (table : Table) (nodes : List InitNode) (i : ℕ) (n : InitNode) (o : Option Expression) → AreInits table nodes → slice_get nodes i ≡ Some n → o ≡ head_value n → IfSome o (λ e. e.ty.0 < length table.terms)
value_in table nodes i n None all at e = tt
value_in table nodes i n (Some value) all at e = head_known table nodes i n value all at e

and_flip : (a b : Bool) → (a && b) ≡ (b && a)
and_flip true true = refl
and_flip true false = refl
and_flip false true = refl
and_flip false false = refl

braced_none : (table : Table) (f : ℕ → Init) (n : InitNode) → is_braced (init_over table f n) ≡ not (is_some (head_value n))
braced_none table f (ValueNode node value) = refl
braced_none table f (BracesNode node items) = refl

module _ (table : Table) (nodes : List InitNode) (i : ℕ) (n : InitNode) (all : AreInits table nodes) (at : slice_get nodes i ≡ Some n) (node : ℕ) (value : Option Expression) (e : node ≡ head_node n) (v : value ≡ head_value n) where
  same_placing : (start : Start) → placing table (head_node n) (head_value n) start ≡ placing table node value start
  same_placing start = ap (λ m. placing table m (head_value n) start) (sym e) ∙ ap (λ o. placing table node o start) (sym v)

  pub item_nowhere : (start : Start) (bad : ℕ) (this : Shape → Outcome) (rest : Path → Outcome) → placing table node value start ≡ NoWhere bad → at_start start (init_at table nodes i) this rest ≡ NoPlace bad
  item_nowhere start bad this rest h =
      ap (λ x. at_start start x this rest) (init_is table nodes i n all at) ∙ no_place table (init_at table nodes) n this rest start bad (same_placing start ∙ h)

  pub item_placed : (start : Start) (s : SubObject) (this : Shape → Outcome) (rest : Path → Outcome) → placing table node value start ≡ OnPlace s → at_start start (init_at table nodes i) this rest ≡ joined s.path (this s.shape) (rest s.path)
  item_placed start s this rest h =
      ap (λ x. at_start start x this rest) (init_is table nodes i n all at) ∙ on_place table (init_at table nodes) n this rest start s (same_placing start ∙ h)

  braces_test : (t : Shape) (test : Bool) → test ≡ (not (is_some value) && is_scalar t) → (is_scalar t && is_braced (init_at table nodes i)) ≡ test
  braces_test t test h =
      ap (λ x. is_scalar t && is_braced x) (init_is table nodes i n all at) ∙ ap (λ b. is_scalar t && b) (braced_none table (init_at table nodes) n ∙ ap (λ o. not (is_some o)) (sym v))
      ∙ and_flip (is_scalar t) (not (is_some value)) ∙ sym h

  pub braces_out : (t s : Shape) (test : Bool) → test ≡ (not (is_some value) && is_scalar t) → test ≡ true → within_list t (init_at table nodes i) s ≡ NoPlace node
  braces_out t s test h k =
      chosen (is_scalar t && is_braced (init_at table nodes i)) _ _ (braces_test t test h ∙ k)
      ∙ ap NoPlace (ap init_node (init_is table nodes i n all at) ∙ node_is table (init_at table nodes) n ∙ sym e)

  pub braces_in : (t s : Shape) (test : Bool) → test ≡ (not (is_some value) && is_scalar t) → test ≡ false → within_list t (init_at table nodes i) s ≡ initial s (init_at table nodes i)
  braces_in t s test h k = chosen_not (is_scalar t && is_braced (init_at table nodes i)) _ _ (braces_test t test h ∙ k)

pub cleared_put : (old new : List InitAction) (cleared : Vec PathStep Global) (whole : Path) → new ≡ old ++ ClearsPath cleared ∷ [] → cleared.items ≡ whole → map action_of new ≡ map action_of old ++ Clears whole ∷ []
cleared_put old new cleared whole e w = ap (map action_of) e ∙ map_push action_of old (ClearsPath cleared) ∙ ap (λ p. map action_of old ++ Clears p ∷ []) w

pub one_more : (f : ℕ → Init) (items : List InitEntry) (k : ℕ) (entry : InitEntry) → k < length items → entry ≡ get_or items k entry →
    items_over f (drop k items) ≡ Item (map designator_of entry.designators.items) (f entry.init) (items_over f (drop (k + 1) items))
one_more f items k entry lt e =
    ap (items_over f) (drop-cons items k entry lt) ∙ ap (λ (x : InitEntry). items_over f (x ∷ drop (suc k) items)) (sym e)
    ∙ ap (λ j. items_over f (entry ∷ drop j items)) (sym (add-one k))

pub under_nothing : (actions : List Action) → map (acts_under []) actions ≡ actions
under_nothing [] = refl
under_nothing (Clears p ∷ rest) = ap (λ l. Clears p ∷ l) (under_nothing rest)
under_nothing (Puts p ∷ rest) = ap (λ l. Puts p ∷ l) (under_nothing rest)

-- what an initialiser alone puts is its outcome's actions
pub items_last : (outcome : Outcome) (items : List Placed) (old new : List Action) → old ≡ [] → Gives outcome [] old new None → items ≡ lasting [] new →
    (actions : List Action) × (outcome ≡ Places actions) × (items ≡ lasting [] actions)
items_last outcome items old new e (actions, is, put) h = (actions, is, h ∙ ap (lasting []) (put ∙ ap (λ l. l ++ map (acts_under []) actions) e ∙ under_nothing actions))
