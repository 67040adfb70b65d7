-- The length that actions give.
use Rattle.std.proofs.Common.{◌≡◌, ◌≤◌, ◌<◌, ℕ, suc, ◌+◌, max, ap, sym, ◌∙◌, subst, List, [], ◌++◌, map, length, drop, drop-cons, add-one, get_or, Option, None}
use Rattle.c_inits.specs.declared.items.InitAction.{InitAction}
use Rattle.c_inits.specs.Initial.{Action, Outcome, Places, Placed, lasting, acts_under, reach, path_of, length_given, initial}
use Rattle.c_inits.specs.Items.{action_of}
use Rattle.c_inits.specs.Shapes.{Shape}
use Rattle.c_inits.specs.Syntax.{Init}
use Rattle.c_inits.specs.Filling.{Gives}
use Rattle.c_types.specs.Trees.{Ctype}
use Rattle.c_initialise.specs.c_braces.Initialised.{new_length}
use Rattle.c_initialise.proofs.c_braces.Wide.{width, Keeps, initial_keeps}
use Rattle.c_initialise.proofs.c_braces.Putting.{under_nothing}

-- one action off the rest
pub one_off : (actions : List InitAction) (k : ℕ) (a : InitAction) → k < length actions → a ≡ get_or actions k a →
    length_given (map action_of (drop k actions)) ≡ max (reach (path_of (action_of a))) (length_given (map action_of (drop (k + 1) actions)))
one_off actions k a lt e =
    ap (λ l. length_given (map action_of l)) (drop-cons actions k a lt)
    ∙ ap (λ (x : InitAction). max (reach (path_of (action_of x))) (length_given (map action_of (drop (suc k) actions)))) (sym e)
    ∙ ap (λ j. max (reach (path_of (action_of a))) (length_given (map action_of (drop j actions)))) (sym (add-one k))

-- what an initialiser alone put gives no more elements than its object has
pub put_below : (t : Shape) (init : Init) (old new : List Action) → old ≡ [] → Gives (initial t init) [] old new None → length_given new ≤ width t
put_below t init old new e (actions, is, put) =
    let same : new ≡ actions = put ∙ ap (λ l. l ++ map (acts_under []) actions) e ∙ under_nothing actions in
    let keeps : Keeps (width t) (Places actions) = subst (Keeps (width t)) is (initial_keeps t init) in
    subst (λ l. length_given l ≤ width t) (sym same) keeps

-- the items that last, and the length, are those of the outcome's own actions
pub all_given : (t : Ctype) (outcome : Outcome) (items : List Placed) (given : Option ℕ) (old new : List Action) → old ≡ [] → Gives outcome [] old new None → items ≡ lasting [] new → given ≡ new_length t new →
    (actions : List Action) × (outcome ≡ Places actions) × (items ≡ lasting [] actions) × (given ≡ new_length t actions)
all_given t outcome items given old new e (actions, is, put) last long =
    let same : new ≡ actions = put ∙ ap (λ l. l ++ map (acts_under []) actions) e ∙ under_nothing actions in
    (actions, is, last ∙ ap (lasting []) same, long ∙ ap (new_length t) same)
