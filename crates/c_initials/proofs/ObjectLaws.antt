-- The node that initialises an object.
use Rattle.std.proofs.Common.{◌≡◌, ◌<◌, ◌≤◌, ◌+◌, ℕ, refl, ap, sym, ◌∙◌, subst, Bool, Option, Some, None, if◌then◌else◌, List, [], ◌∷◌, ◌++◌, append_assoc, Result, Ok, Err, IfOk, length, map, drop, get_or}
use Rattle.pta_base.specs.declared.place.Place.{Place}
use Rattle.c_types.specs.Trees.{Ctype, VoidType, BoolType, IntegerType, FloatingType, VaListType, PointerTo, ArrayOf, FunctionFrom, StructureOf, UnionOf}
use Rattle.core_tree.specs.declared.node.Unit.{Unit}
use Rattle.core_tree.specs.declared.node.NodeKind.TheVariants.{Initialise}
use Rattle.c_consts.specs.Core.{Core, Cores, Of}
use Rattle.c_inits.specs.Shapes.{Path}
use Rattle.c_inits.specs.declared.items.InitItem.{InitItem}
use Rattle.c_inits.specs.Initial.{Placed, Outcome, lasting, length_given}
use Rattle.c_inits.specs.Items.{placed_of}
use Rattle.c_senses.specs.Given.{Given, Fits, Refuses, ◌>>=◌}
use Rattle.c_senses.specs.World.{World}
use Rattle.c_senses.specs.Tree.{Source}
use Rattle.c_senses.specs.Sense.{Sense, sense_in}
use Rattle.c_senses.specs.Initialised.{paths_of, placed_cores, initialise_core, new_length, made_of, Made}
use Rattle.c_senses.specs.Entities.{with_length}
use Rattle.c_senses.specs.Limits.{lacks_a_length}
use Rattle.c_inits.specs.Tables.{lacks_length}
use Rattle.c_initialise.specs.declared.c_braces.items.Initialised.{Initialised}
use Rattle.c_initialise.specs.c_braces.Initialised.{IsGiven}
use Rattle.core_nodes.specs.Standing.{core_at, Made as CoreMade}
use Rattle.core_nodes.specs.declared.fault.CheckFault.{CheckFault}
use Rattle.core_nodes.specs.declared.fault.CheckFault.TheVariants.{BadOperand, Unsupported, OutOfMemory}
use Rattle.core_nodes.proofs.Failing.{made_same, fits_core}
use Rattle.c_conversions.specs.Constants.{HasRows, HaveRows}
use Rattle.c_initials.specs.Scope.{CoresMade, ObjectMade, initialised}
use Rattle.c_initials.proofs.PlacedLaws.{item_off, items_past}

no_more : {A : Type 0} (xs : List A) → xs ++ [] ≡ xs
no_more [] = refl
no_more (x ∷ xs) = ap (λ l. x ∷ l) (no_more xs)

module _ (w : World) (s : Source) (sense : ℕ → Sense) where
  -- one path off those that are left
  pub path_off : (items : List InitItem) (k : ℕ) (item : InitItem) (paths more : List Path) (path : Path) → k < length items → item ≡ get_or items k item → path ≡ item.path.items → more ≡ paths ++ path ∷ []
      → paths_of w s sense (map placed_of items) ≡ paths ++ paths_of w s sense (map placed_of (drop k items)) → paths_of w s sense (map placed_of items) ≡ more ++ paths_of w s sense (map placed_of (drop (k + 1) items))
  path_off items k item paths more path lt is at pushed so_far =
      let rest = map placed_of (drop (k + 1) items) in
      so_far
      ∙ ap (λ (l : List Placed). paths ++ paths_of w s sense l) (item_off items k item lt ∙ ap (λ (x : InitItem). placed_of x ∷ rest) (sym is))
      ∙ ap (λ (p : Path). paths ++ (p ∷ paths_of w s sense rest)) (sym at)
      ∙ sym (append_assoc paths (path ∷ []) (paths_of w s sense rest))
      ∙ ap (λ (l : List Path). l ++ paths_of w s sense rest) (sym pushed)

  pub paths_end : (items : List InitItem) (k : ℕ) (paths : List Path) → length items ≤ k → paths_of w s sense (map placed_of items) ≡ paths ++ paths_of w s sense (map placed_of (drop k items)) → paths ≡ paths_of w s sense (map placed_of items)
  paths_end items k paths le so_far = sym (so_far ∙ ap (λ (l : List Placed). paths ++ paths_of w s sense l) (items_past items k le) ∙ no_more paths)

  -- the node over the values
  pub node_made : (static : Bool) (entity : ℕ) (place : Place) (t void : Ctype) (items : List Placed) (values under : Cores) (paths : List Path) (u : Unit) (r : Result ℕ CheckFault)
      → placed_cores w s sense static t items ≡ Fits values → paths ≡ paths_of w s sense items → void ≡ VoidType → under ≡ values
      → CoreMade u r (Fits (Of (Initialise entity paths) place void under)) → CoreMade u r (initialised w s sense static entity place t items)
  node_made static entity place t void items values under paths u r placed e v same made =
      made_same u r (Fits (Of (Initialise entity paths) place void under)) (initialised w s sense static entity place t items)
      (ap (λ (ps : List Path). Fits (Of (Initialise entity ps) place void under)) e
      ∙ ap (λ (q : Ctype). Fits (Of (Initialise entity (paths_of w s sense items)) place q under)) v
      ∙ ap (λ (cs : Cores). Fits (Of (Initialise entity (paths_of w s sense items)) place VoidType cs)) same
      ∙ sym (ap (λ (g : Given Cores). g >>= (λ vs. Fits (initialise_core w s sense entity place items vs))) placed))
      made

pub node_rows : (u : Unit) (r : Result ℕ CheckFault) (entity : ℕ) (paths : List Path) (place : Place) (t : Ctype) (values : Cores) → CoreMade u r (Fits (Of (Initialise entity paths) place t values)) → HaveRows values → IfOk r (λ i. HasRows (core_at u i))
node_rows u (Ok i) entity paths place t values made rows = subst HasRows (sym (fits_core u i (Of (Initialise entity paths) place t values) made)) (tt, rows)
node_rows u (Err e) entity paths place t values made rows = tt

pub cores_refused : (u v : Unit) (e : CheckFault) (g : Given Cores) (f : Cores → Given Core) → CoresMade u (Err e) g → CoreMade v (Err e) (g >>= f)
cores_refused u v (BadOperand n) g f h = ap (λ (x : Given Cores). x >>= f) h
cores_refused u v (Unsupported k n) g f h = ap (λ (x : Given Cores). x >>= f) h
cores_refused u v OutOfMemory g f h = tt

-- what is given of an outcome
bind_assoc : {A B C : Type 0} (g : Given A) (f : A → Given B) (h : B → Given C) → ((g >>= f) >>= h) ≡ (g >>= (λ x. f x >>= h))
bind_assoc (Fits x) f h = refl
bind_assoc (Refuses kind node) f h = refl

same_lack : (t : Ctype) → lacks_length t ≡ lacks_a_length t
same_lack (ArrayOf of None) = refl
same_lack (ArrayOf of (Some n)) = refl
same_lack VoidType = refl
same_lack BoolType = refl
same_lack (IntegerType size rank signed) = refl
same_lack FloatingType = refl
same_lack VaListType = refl
same_lack (PointerTo to) = refl
same_lack (FunctionFrom r ps f) = refl
same_lack (StructureOf tag) = refl
same_lack (UnionOf tag) = refl

module _ (w : World) (s : Source) (sense : ℕ → Sense) (static : Bool) (entity : ℕ) (place : Place) (t : Ctype) where
  abbrev with_node : Option ℕ → Core → Given (Made w s sense)
  with_node n c = Fits (record { initial = c; length = n })

  abbrev whole_of : Option ℕ → List Placed → Given (Made w s sense)
  whole_of n items = placed_cores w s sense static (with_length n t) items >>= (λ values. Fits (record { initial = initialise_core w s sense entity place items values; length = n }))

  object_is : (outcome : Outcome) (given : Initialised) → IsGiven t outcome given → made_of w s sense static entity place t outcome ≡ (initialised w s sense static entity place (with_length given.length t) (map placed_of given.items.items) >>= with_node given.length)
  object_is outcome given is =
      let actions = is.0 in
      let length_is : given.length ≡ new_length w s sense t actions = is.3 ∙ ap (λ (b : Bool). if b then Some (length_given actions) else None) (same_lack t) in
      ap (made_of w s sense static entity place t) is.1
      ∙ ap (λ (n : Option ℕ). whole_of n (lasting [] actions)) (sym length_is)
      ∙ ap (whole_of given.length) (sym is.2)
      ∙ sym (bind_assoc (placed_cores w s sense static (with_length given.length t) (map placed_of given.items.items))
      (λ (values : Cores). Fits (initialise_core w s sense entity place (map placed_of given.items.items) values)) (with_node given.length))

  by_result : (u : Unit) (r : Result ℕ CheckFault) (n : Option ℕ) (g : Given Core) → CoreMade u r g → ObjectMade w s sense u r n (g >>= with_node n)
  by_result u (Ok i) n g made = ap (λ (x : Given Core). x >>= with_node n) made
  by_result u (Err (BadOperand k)) n g made = ap (λ (x : Given Core). x >>= with_node n) made
  by_result u (Err (Unsupported kind k)) n g made = ap (λ (x : Given Core). x >>= with_node n) made
  by_result u (Err OutOfMemory) n g made = tt

  pub object_as : (outcome : Outcome) (given : Initialised) (u : Unit) (r : Result ℕ CheckFault) (whole : Ctype) (list : List Sense) → IsGiven t outcome given → whole ≡ with_length given.length t → sense_in list ≡ sense
      → CoreMade u r (initialised w s (sense_in list) static entity place whole (map placed_of given.items.items)) → ObjectMade w s sense u r given.length (made_of w s sense static entity place t outcome)
  object_as outcome given u r whole list is e same made =
      subst (λ (g : Given (Made w s sense)). ObjectMade w s sense u r given.length g) (sym (object_is outcome given is))
      (by_result u r given.length (initialised w s sense static entity place (with_length given.length t) (map placed_of given.items.items))
      (made_same u r _ _ (ap (λ (f : ℕ → Sense). initialised w s f static entity place whole (map placed_of given.items.items)) same
      ∙ ap (λ (q : Ctype). initialised w s sense static entity place q (map placed_of given.items.items)) e) made))
