-- Each value of an initialiser goes to one place of the object, or as characters of a string.
use Rattle.std.proofs.Common.{arith, ℕ, zero, suc, ◌+◌, ◌≤◌, ◌&&◌, Bool, true, false, cond, min, List, [], ◌∷◌, ◌++◌, map, Option, Some, None}
use Rattle.std.specs.Prelude.{⊤, nat_lt}
use Rattle.c_types.specs.Trees.{Ctype}
use Rattle.c_inits.specs.Shapes.{Shape, Scalar, Elements, Structured, Overlaid, Path, SubObject}
use Rattle.c_inits.specs.Syntax.{Init, Items, Value, Braces, NoItems, Item, init_node}
use Rattle.c_inits.specs.Initial.{Placed, Action, Clears, Puts, Outcome, Places, NoPlace, Start, At, Nothing, fits, place, text_size, characters, given, of_value, acts_under, and_rest, joined, at_place, at_start, starts, only_text, is_scalar, is_braced, or_text, initial, listed, is_under, cleared, lasting}
use Rattle.core_node_laws.specs.count_laws.count_rows.Counts.{init_total, items_total}

module _ (e : ℕ → ℕ) where
  -- a value counts, and a character of a string doesn't
  abbrev pub of_placed : Option ℕ → ℕ → ℕ
  of_placed None node = e node
  of_placed (Some k) node = 0

  abbrev pub placed_total : List Placed → ℕ
  placed_total [] = 0
  placed_total (p ∷ rest) = of_placed p.character p.node + placed_total rest

  abbrev pub puts_total : List Action → ℕ
  puts_total [] = 0
  puts_total (Clears path ∷ rest) = puts_total rest
  puts_total (Puts p ∷ rest) = of_placed p.character p.node + puts_total rest

  abbrev pub OutMost : ℕ → Outcome → Type 0
  OutMost k (Places actions) = puts_total actions ≤ k
  OutMost k (NoPlace node) = ⊤

  puts_both : (a b : List Action) → puts_total (a ++ b) ≤ puts_total a + puts_total b
  puts_both [] b = omega arith
  puts_both (Clears path ∷ a) b = puts_both a b
  puts_both (Puts p ∷ a) b = let h = puts_both a b in omega (arith, h)

  puts_under : (path : Path) (a : List Action) → puts_total (map (acts_under path) a) ≤ puts_total a
  puts_under path [] = omega arith
  puts_under path (Clears other ∷ a) = puts_under path a
  puts_under path (Puts p ∷ a) = let h = puts_under path a in omega (arith, h)

  characters_none : (node k more : ℕ) → puts_total (characters node k more) ≤ 0
  characters_none node k zero = omega arith
  characters_none node k (suc more) = let h = characters_none node (suc k) more in omega (arith, h)

  out_if : (k : ℕ) (b : Bool) (x y : Outcome) → OutMost k x → OutMost k y → OutMost k (cond b x y)
  out_if k true x y h g = h
  out_if k false x y h g = g

  given_out : (t : Shape) (node : ℕ) (type : Ctype) → OutMost (e node) (given t node type)
  given_out (Elements t of length) node type =
      let h = characters_none node 0 (min (text_size type) length) in
      out_if (e node) (nat_lt (suc length) (text_size type)) (NoPlace node) (Places (characters node 0 (min (text_size type) length))) tt (omega (arith, h))
  given_out (Scalar type') node type = omega arith
  given_out (Structured t list) node type = omega arith
  given_out (Overlaid t list) node type = omega arith

  value_out : (t : Shape) (node : ℕ) (type : Ctype) (text : Bool) → OutMost (e node) (of_value t node type text)
  value_out t node type text = out_if (e node) (fits type text t) (given t node type) (NoPlace node) (given_out t node type) tt

  rest_out : (k l : ℕ) (actions : List Action) (o : Outcome) → puts_total actions ≤ k → OutMost l o → OutMost (k + l) (and_rest actions o)
  rest_out k l actions (Places more) h g = let both = puts_both actions more in omega (arith, h, g, both)
  rest_out k l actions (NoPlace node) h g = tt

  joined_out : (k l : ℕ) (path : Path) (a b : Outcome) → OutMost k a → OutMost l b → OutMost (k + l) (joined path a b)
  joined_out k l path (NoPlace node) b h g = tt
  joined_out k l path (Places actions) b h g = let less = puts_under path actions in rest_out k l (Clears path ∷ map (acts_under path) actions) b (omega (arith, h, less)) g

  place_out : (k l node : ℕ) (o : Option SubObject) (this : Shape → Outcome) (rest : Path → Outcome) → ((s : Shape) → OutMost k (this s)) → ((p : Path) → OutMost l (rest p)) → OutMost (k + l) (at_place node o this rest)
  place_out k l node None this rest h g = tt
  place_out k l node (Some s) this rest h g = joined_out k l s.path (this s.shape) (rest s.path) (h s.shape) (g s.path)

  start_out : (k l : ℕ) (st : Start) (init : Init) (this : Shape → Outcome) (rest : Path → Outcome) → ((s : Shape) → OutMost k (this s)) → ((p : Path) → OutMost l (rest p)) → OutMost (k + l) (at_start st init this rest)
  start_out k l (Nothing node) init this rest h g = tt
  start_out k l (At subs) init this rest h g = place_out k l (init_node init) (place init subs) this rest h g

  text_out : (t : Shape) (items : Items) (list : Outcome) → OutMost (items_total e items) list → OutMost (items_total e items) (or_text t (only_text items) list)
  text_out t (Item [] (Value node type true) NoItems) list h = out_if (e node + 0) _ (of_value t node type true) list (by (of_value t node type true) (value_out t node type true)) h
    where
      by : (o : Outcome) → OutMost (e node) o → OutMost (e node + 0) o
      by (Places actions) h = omega (arith, h)
      by (NoPlace x) h = tt
  text_out t items list h = h

  mutual
    pub initial_out : (t : Shape) (init : Init) → OutMost (init_total e init) (initial t init)
    initial_out t (Value node type text) = value_out t node type text
    initial_out t (Braces node items) = text_out t items (listed t None items) (listed_out t None items)

    listed_out : (t : Shape) (before : Option Path) (items : Items) → OutMost (items_total e items) (listed t before items)
    listed_out t before NoItems = omega arith
    listed_out t before (Item designators init rest) =
        start_out (init_total e init) (items_total e rest) (starts t before designators) init (λ s. cond (is_scalar t && is_braced init) (NoPlace (init_node init)) (initial s init)) (λ path. listed t (Some path) rest)
        (λ s. out_if (init_total e init) (is_scalar t && is_braced init) (NoPlace (init_node init)) (initial s init) tt (initial_out s init)) (λ path. listed_out t (Some path) rest)

  cleared_less : (path : Path) (list : List Placed) → placed_total (cleared path list) ≤ placed_total list
  cleared_less path [] = omega arith
  cleared_less path (p ∷ rest) = by (is_under path p.path) (cleared_less path rest)
    where
      by : (b : Bool) → placed_total (cleared path rest) ≤ placed_total rest → placed_total (cond b (cleared path rest) (p ∷ cleared path rest)) ≤ placed_total (p ∷ rest)
      by true h = omega (arith, h)
      by false h = omega (arith, h)

  placed_both : (a b : List Placed) → placed_total (a ++ b) ≤ placed_total a + placed_total b
  placed_both [] b = omega arith
  placed_both (p ∷ a) b = let h = placed_both a b in omega (arith, h)

  pub lasting_less : (so_far : List Placed) (actions : List Action) → placed_total (lasting so_far actions) ≤ placed_total so_far + puts_total actions
  lasting_less so_far [] = omega arith
  lasting_less so_far (Clears path ∷ rest) = let h = lasting_less (cleared path so_far) rest in let k = cleared_less path so_far in omega (arith, h, k)
  lasting_less so_far (Puts p ∷ rest) = let h = lasting_less (so_far ++ p ∷ []) rest in let k = placed_both so_far (p ∷ []) in omega (arith, h, k)
