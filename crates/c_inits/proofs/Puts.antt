-- What is put into an object.
use Rattle.std.proofs.Common.{arith, ◌≡◌, ℕ, zero, suc, ◌+◌, min, nat_lt, refl, ap, sym, ◌∙◌, List, [], ◌∷◌, ◌++◌, append_assoc, map, Some, None, Bool, true, false, Vec, Global}
use Rattle.std.proofs.lemmas.List.{map_push}
use Rattle.c_types.specs.declared.term.PathStep.{PathStep}
use Rattle.c_types.specs.declared.term.PathStep.TheVariants.{Index}
use Rattle.c_types.specs.Trees.{Ctype}
use Rattle.c_inits.specs.declared.items.InitAction.{InitAction}
use Rattle.c_inits.specs.declared.items.InitAction.TheVariants.{Puts as PutsItem}
use Rattle.c_inits.specs.Shapes.{Shape, Path, Scalar, Elements, Structured, Overlaid}
use Rattle.c_inits.specs.Initial.{Puts, Places, NoPlace, acts_under, characters, filled, fits, given, of_value, text_size}
use Rattle.c_inits.specs.Items.{action_of}
use Rattle.c_inits.specs.Filling.{whole_put, elements_in}
use Rattle.c_inits.proofs.Onward.{chosen, chosen_not}

-- one character more
char_more : (node j n m : ℕ) → m ≡ j + n → characters node j (suc n) ≡ characters node j n ++ Puts (record { path = Index m ∷ []; node = node; character = Some m }) ∷ []
char_more node j zero m e = let same : j ≡ m = omega (arith, e) in ap (λ i. Puts (record { path = Index i ∷ []; node = node; character = Some i }) ∷ []) same
char_more node j (suc n) m e = ap (λ l. Puts (record { path = Index j ∷ []; node = node; character = Some j }) ∷ l) (char_more node (suc j) n m (omega (arith, e)))

pub next_character : (old now new : List InitAction) (path : Path) (node k : ℕ) (element : Vec PathStep Global) → map action_of now ≡ map action_of old ++ map (acts_under path) (characters node 0 k) →
    new ≡ now ++ PutsItem (record { path = element; node = node; character = Some k }) ∷ [] → element.items ≡ path ++ Index k ∷ [] →
    map action_of new ≡ map action_of old ++ map (acts_under path) (characters node 0 (k + 1))
next_character old now new path node k element so_far e at =
    let next : k + 1 ≡ suc k = omega arith in
    ap (map action_of) e ∙ map_push action_of now (PutsItem (record { path = element; node = node; character = Some k }))
    ∙ ap (λ l. l ++ Puts (record { path = element.items; node = node; character = Some k }) ∷ []) so_far
    ∙ append_assoc (map action_of old) (map (acts_under path) (characters node 0 k)) (Puts (record { path = element.items; node = node; character = Some k }) ∷ [])
    ∙ ap (λ p. map action_of old ++ (map (acts_under path) (characters node 0 k) ++ Puts (record { path = p; node = node; character = Some k }) ∷ [])) at
    ∙ ap (λ l. map action_of old ++ l)
    (sym (map_push (acts_under path) (characters node 0 k) (Puts (record { path = Index k ∷ []; node = node; character = Some k })))
    ∙ ap (map (acts_under path)) (sym (char_more node 0 k k (omega arith)) ∙ ap (characters node 0) (sym next)))

-- a string that has room
pub text_fits : (node size count : ℕ) (long : Bool) (n : ℕ) → long ≡ nat_lt (suc count) size → long ≡ false → n ≡ min size count → filled node size count ≡ Places (characters node 0 n)
text_fits node size count long n e f h = chosen_not (nat_lt (suc count) size) _ _ (sym e ∙ f) ∙ ap (λ i. Places (characters node 0 i)) (sym h)

pub text_long : (node size count : ℕ) (long : Bool) → long ≡ nat_lt (suc count) size → long ≡ true → filled node size count ≡ NoPlace node
text_long node size count long e t = chosen (nat_lt (suc count) size) _ _ (sym e ∙ t)

-- an expression that fits an object
given_text : (s : Shape) (node count : ℕ) (type : Ctype) → elements_in s ≡ Some count → given s node type ≡ filled node (text_size type) count
given_text (Elements t of length) node count type e = let same : length ≡ count = cc in ap (filled node (text_size type)) same
given_text (Scalar t) node count type e = cc
given_text (Structured t list) node count type e = cc
given_text (Overlaid t list) node count type e = cc

given_whole : (s : Shape) (node : ℕ) (type : Ctype) → elements_in s ≡ None → given s node type ≡ Places (whole_put node)
given_whole (Elements t of length) node type e = cc
given_whole (Scalar t) node type e = refl
given_whole (Structured t list) node type e = refl
given_whole (Overlaid t list) node type e = refl

module _ (s : Shape) (node : ℕ) (type : Ctype) (text fit : Bool) (e : fit ≡ fits type text s) (f : fit ≡ true) where
  pub value_text : (count size : ℕ) → Some count ≡ elements_in s → size ≡ text_size type → of_value s node type text ≡ filled node size count
  value_text count size h g = chosen (fits type text s) _ _ (sym e ∙ f) ∙ given_text s node count type (sym h) ∙ ap (λ n. filled node n count) (sym g)

  pub value_whole : None ≡ elements_in s → of_value s node type text ≡ Places (whole_put node)
  value_whole h = chosen (fits type text s) _ _ (sym e ∙ f) ∙ given_whole s node type (sym h)

pub value_unfit : (s : Shape) (node : ℕ) (type : Ctype) (text fit : Bool) → fit ≡ fits type text s → fit ≡ false → of_value s node type text ≡ NoPlace node
value_unfit s node type text fit e f = chosen_not (fits type text s) _ _ (sym e ∙ f)
