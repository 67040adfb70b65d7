-- The items that last, from the last action back to the first.
use Rattle.std.proofs.Common.{◌≡◌, Bool, true, false, ◌||◌, ◌&&◌, cond, refl, ap, sym, ◌∙◌, List, [], ◌∷◌, ◌++◌, append_assoc, append-nil, map, reverse, Vec, Global, if◌then◌else◌}
use Rattle.std.specs.BTreeSet.{BTreeSet}
use Rattle.std.proofs.lemmas.List.{map_push, reverse-append, reverse-reverse}
use Rattle.c_types.specs.declared.term.PathStep.{PathStep}
use Rattle.c_types.specs.declared.term.PathStep.TheVariants.{Index, Member}
use Rattle.c_inits.specs.declared.items.InitItem.{InitItem}
use Rattle.c_inits.specs.declared.items.InitAction.{InitAction}
use Rattle.c_inits.specs.declared.items.InitAction.TheVariants.{Clears as ClearsPath, Puts as PutsItem}
use Rattle.c_inits.specs.declared.items.StepKey.{StepKey}
use Rattle.c_inits.specs.Shapes.{Path}
use Rattle.c_inits.specs.Initial.{Placed, Action, Clears, Puts, lasting, cleared, is_under, same_path, same_step}
use Rattle.c_inits.specs.Items.{placed_of, action_of, key_step, key_path, has_prefix, same_key, same_step_key, knows, clears_key, left_of}
use Rattle.c_inits.proofs.Keys.{prefix_same, prefix_map, prefix_or, prefix_none}

reverse_cons : {A : Type 0} (x : A) (xs : List A) → reverse (x ∷ xs) ≡ reverse xs ++ x ∷ []
reverse_cons x xs = reverse-append (x ∷ []) xs

map_reverse : {A B : Type 0} (f : A → B) (xs : List A) → map f (reverse xs) ≡ reverse (map f xs)
map_reverse f [] = refl
map_reverse f (x ∷ xs) = ap (map f) (reverse_cons x xs) ∙ map_push f (reverse xs) x ∙ ap (λ l. l ++ f x ∷ []) (map_reverse f xs) ∙ sym (reverse_cons (f x) (map f xs))

-- some action clears that very path
abbrev pub clears : List Action → Path → Bool
clears [] p = false
clears (Clears q ∷ rest) p = same_path q p || clears rest p
clears (Puts i ∷ rest) p = clears rest p

-- some action clears that path or a beginning of it
abbrev pub covers : List Action → Path → Bool
covers [] p = false
covers (Clears q ∷ rest) p = is_under q p || covers rest p
covers (Puts i ∷ rest) p = covers rest p

-- the items that no later action takes away
abbrev pub survivors : List Action → List Placed
survivors [] = []
survivors (Clears q ∷ rest) = survivors rest
survivors (Puts i ∷ rest) = cond (covers rest i.path) (survivors rest) (i ∷ survivors rest)

abbrev uncovered : List Action → List Placed → List Placed
uncovered actions [] = []
uncovered actions (i ∷ is) = cond (covers actions i.path) (uncovered actions is) (i ∷ uncovered actions is)

all_stay : (is : List Placed) → uncovered [] is ≡ is
all_stay [] = refl
all_stay (i ∷ is) = ap (λ l. i ∷ l) (all_stay is)

after_clear : (q : Path) (rest : List Action) (is : List Placed) → uncovered rest (cleared q is) ≡ uncovered (Clears q ∷ rest) is
after_clear q rest [] = refl
after_clear q rest (i ∷ is) = pick (is_under q i.path) (covers rest i.path) (after_clear q rest is)
  where
    pick : (a b : Bool) → uncovered rest (cleared q is) ≡ uncovered (Clears q ∷ rest) is
        → uncovered rest (cond a (cleared q is) (i ∷ cleared q is)) ≡ cond (a || covers rest i.path) (uncovered (Clears q ∷ rest) is) (i ∷ uncovered (Clears q ∷ rest) is)
    pick true b e = e
    pick false b e = ap (λ l. cond (covers rest i.path) l (i ∷ l)) e

after_put : (rest : List Action) (is : List Placed) (i : Placed) → uncovered rest (is ++ i ∷ []) ≡ uncovered rest is ++ cond (covers rest i.path) [] (i ∷ [])
after_put rest [] i = refl
after_put rest (j ∷ is) i = pick (covers rest j.path) (after_put rest is i)
  where
    pick : (b : Bool) → uncovered rest (is ++ i ∷ []) ≡ uncovered rest is ++ cond (covers rest i.path) [] (i ∷ [])
        → cond b (uncovered rest (is ++ i ∷ [])) (j ∷ uncovered rest (is ++ i ∷ [])) ≡ cond b (uncovered rest is) (j ∷ uncovered rest is) ++ cond (covers rest i.path) [] (i ∷ [])
    pick true e = e
    pick false e = ap (λ l. j ∷ l) e

lasting_after : (is : List Placed) (actions : List Action) → lasting is actions ≡ uncovered actions is ++ survivors actions
lasting_after is [] = sym (append-nil (uncovered [] is) ∙ all_stay is)
lasting_after is (Clears q ∷ rest) = lasting_after (cleared q is) rest ∙ ap (λ l. l ++ survivors rest) (after_clear q rest is)
lasting_after is (Puts i ∷ rest) =
    lasting_after (is ++ i ∷ []) rest ∙ ap (λ l. l ++ survivors rest) (after_put rest is i)
    ∙ append_assoc (uncovered rest is) (cond (covers rest i.path) [] (i ∷ [])) (survivors rest)
    ∙ ap (λ l. uncovered rest is ++ l) (pick (covers rest i.path))
  where
    pick : (b : Bool) → cond b [] (i ∷ []) ++ survivors rest ≡ cond b (survivors rest) (i ∷ survivors rest)
    pick true = refl
    pick false = refl

pub lasting_is : (actions : List Action) → lasting [] actions ≡ survivors actions
lasting_is actions = lasting_after [] actions

-- a path is covered where a beginning of it is cleared
under_prefix : (q p : Path) → is_under q p ≡ has_prefix (λ r. same_path q r) p
under_prefix [] [] = refl
under_prefix [] (s ∷ p) = refl
under_prefix (a ∷ q) [] = refl
under_prefix (a ∷ q) (s ∷ p) = pick (same_step a s) (under_prefix q p)
  where
    pick : (b : Bool) → is_under q p ≡ has_prefix (λ r. same_path q r) p → (b && is_under q p) ≡ has_prefix (λ r. b && same_path q r) p
    pick true e = e
    pick false e = sym (prefix_none p)

pub covers_prefix : (actions : List Action) (p : Path) → covers actions p ≡ has_prefix (clears actions) p
covers_prefix [] p = sym (prefix_none p)
covers_prefix (Clears q ∷ rest) p =
    ap (λ b. b || covers rest p) (under_prefix q p) ∙ ap (λ b. has_prefix (λ r. same_path q r) p || b) (covers_prefix rest p)
    ∙ sym (prefix_or (λ r. same_path q r) (clears rest) p)
covers_prefix (Puts i ∷ rest) p = covers_prefix rest p

-- keys are the same where paths are
step_keys : (a b : PathStep) → same_step_key (key_step a) (key_step b) ≡ same_step a b
step_keys (Index a) (Index b) = refl
step_keys (Member a) (Member b) = refl
step_keys (Index a) (Member b) = refl
step_keys (Member a) (Index b) = refl

keys_same : (a b : Path) → same_key (key_path a) (key_path b) ≡ same_path a b
keys_same [] [] = refl
keys_same [] (y ∷ b) = refl
keys_same (x ∷ a) [] = refl
keys_same (x ∷ a) (y ∷ b) = ap (λ t. t && same_key (key_path a) (key_path b)) (step_keys x y) ∙ ap (λ t. same_step x y && t) (keys_same a b)

-- what a set of keys knows after actions
abbrev pub Knows : BTreeSet (Vec StepKey Global) → List Action → Type 0
Knows set actions = (p : Path) → knows set (key_path p) ≡ clears actions p

pub knows_more : (old new : BTreeSet (Vec StepKey Global)) (a : InitAction) (actions : List Action) → ((p : List StepKey) → knows new p ≡ (clears_key a p || knows old p)) → Knows old actions →
    Knows new (action_of a ∷ actions)
knows_more old new (ClearsPath path) actions more h p =
    more (key_path p) ∙ ap (λ b. b || knows old (key_path p)) (keys_same path.items p) ∙ ap (λ b. same_path path.items p || b) (h p)
knows_more old new (PutsItem item) actions more h p = more (key_path p) ∙ h p

gone : (set : BTreeSet (Vec StepKey Global)) (actions : List Action) → Knows set actions → (path : Path) → has_prefix (knows set) (key_path path) ≡ covers actions path
gone set actions h path =
    prefix_map (knows set) key_step path ∙ prefix_same (λ p. knows set (key_path p)) (clears actions) path h ∙ sym (covers_prefix actions path)

-- the survivors so far, backwards
pub left_more : (set : BTreeSet (Vec StepKey Global)) (a : InitAction) (actions : List Action) (old new : List InitItem) → Knows set actions →
    new ≡ old ++ left_of (has_prefix (knows set)) a → map placed_of old ≡ reverse (survivors actions) → map placed_of new ≡ reverse (survivors (action_of a ∷ actions))
left_more set (ClearsPath path) actions old new h e so_far = ap (map placed_of) (e ∙ append-nil old) ∙ so_far
left_more set (PutsItem item) actions old new h e so_far = by (has_prefix (knows set) (key_path item.path.items)) (gone set actions h item.path.items) e
  where
    by : (b : Bool) → b ≡ covers actions item.path.items → new ≡ old ++ (if b then [] else item ∷ []) → map placed_of new ≡ reverse (cond (covers actions item.path.items) (survivors actions) (placed_of item ∷ survivors actions))
    by true t e = ap (map placed_of) (e ∙ append-nil old) ∙ so_far ∙ ap (λ c. reverse (cond c (survivors actions) (placed_of item ∷ survivors actions))) t
    by false t e =
        ap (map placed_of) e ∙ map_push placed_of old item ∙ ap (λ l. l ++ placed_of item ∷ []) so_far ∙ sym (reverse_cons (placed_of item) (survivors actions))
        ∙ ap (λ c. reverse (cond c (survivors actions) (placed_of item ∷ survivors actions))) t

-- all actions are taken in
pub all_left : (done all : List InitAction) (items : List InitItem) → done ≡ all → map placed_of items ≡ reverse (survivors (map action_of done)) → map placed_of (reverse items) ≡ lasting [] (map action_of all)
all_left done all items e h =
    map_reverse placed_of items ∙ ap reverse h ∙ reverse-reverse (survivors (map action_of done)) ∙ sym (lasting_is (map action_of done)) ∙ ap (λ l. lasting [] (map action_of l)) e
