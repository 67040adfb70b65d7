-- Items stay stacked: when a value goes to the item below, when an operand is taken, and when a way up is begun anew.
use Rattle.std.proofs.Common.{arith, ◌≡◌, ◌∙◌, inl, inr, ◌⊎◌, ℕ, zero, suc, ◌+◌, Bool, true, false, cond, eqb, if◌then◌else◌, List, [], ◌∷◌, ◌++◌, take, drop, remove, Option, Some, None, slice_get, refl, sym, ap, subst}
use Rattle.std.proofs.lemmas.Bool.{false≢true}
use Rattle.std.proofs.lemmas.Bool.Decides.{eqb_tells}
use Rattle.core_tree.specs.declared.node.Node.{Node}
use Rattle.core_tree.specs.declared.node.NodeKind.TheVariants.{Choose, Convert}
use Rattle.core_tree.specs.Rows.{Has}
use Rattle.core_tree.specs.Range.{child_in, ChildOnce}
use Rattle.core_tree.specs.Typed.{CoreTrees, ValueNode, sort_of}
use Rattle.core_tree.specs.Valid.{InRows}
use Rattle.ref_cells.specs.declared.cells.Value.{Value}
use Rattle.ref_state.specs.declared.items.Item.{Item}
use Rattle.ref_state.specs.declared.items.Item.TheVariants.{Do, Wait, Library, Result as Returned}
use Rattle.ref_state.specs.Items.{deliver, taken_from, operand_taken}
use Rattle.ref_blocks.specs.declared.ways.Link.{Link}
use Rattle.ref_blocks.specs.Ways.{parent_of, above_in, kind_in, kind_at, children_at, is_label}
use Rattle.ref_blocks.specs.Loops.{left_behind}
use Rattle.ref_blocks.specs.Jumps.{items_to, waits_to}
use Rattle.covering_laws.specs.covered_state.Items.{Each}
use Rattle.covering_laws.proofs.covered_state.Stays.{each_append}
use Rattle.covered_runs.proofs.covered_steps.Steps.{cons_none, each_take, each_drop, each_at}
use Rattle.covered_runs.specs.covered_steps.covered_statements.Stacked.{item_node, IsBranch, ChoiceWaits, WaitStands, waits_next, GivesTo, GivesBelow, OnParent, NodeStands, StandsOn, Stacked}
use Rattle.covered_runs.proofs.covered_steps.covered_statements.Plain.{is_plain, plain_sort, plain_above}
use Rattle.covered_runs.proofs.covered_steps.covered_statements.Ways.{has_all, each_left_behind, parent_has, has_child, Meets, above_found, above_none}

none_some : {X : Type 0} → {x : X} → ◌≡◌ {A = Option X} None (Some x) → ⊥
none_some h = cc

some_one : {X : Type 0} → {x y : X} → ◌≡◌ {A = Option X} (Some x) (Some y) → x ≡ y
some_one h = cc

none_cons : {c : ℕ} → {left : List ℕ} → ◌≡◌ {A = List ℕ} [] (c ∷ left) → ⊥
none_cons h = cc

cons_first : {a b : ℕ} → {xs ys : List ℕ} → ◌≡◌ {A = List ℕ} (a ∷ xs) (b ∷ ys) → a ≡ b
cons_first h = cc

cons_rest : {a b : ℕ} → {xs ys : List ℕ} → ◌≡◌ {A = List ℕ} (a ∷ xs) (b ∷ ys) → xs ≡ ys
cons_rest h = cc

drop_one : {X : Type 0} (x : X) (xs : List X) (k : ℕ) → drop (1 + k) (x ∷ xs) ≡ drop k xs
drop_one x xs k = ap (λ (m : ℕ). drop m (x ∷ xs)) (let z : 1 + k ≡ suc k = omega arith in z)

-- the one operand of a node
one_taken : (c : ℕ) (left : List ℕ) (i x : ℕ) → left ≡ [] → slice_get (c ∷ left) i ≡ Some x → (x ≡ c) × (remove (c ∷ left) i ≡ [])
one_taken c left zero x none at = (sym (some_one at), none)
one_taken c left (suc j) x none at = absurd (none_some (subst (λ (xs : List ℕ). slice_get xs j ≡ Some x) none at))

module _ (nodes : List Node) where
  abbrev IsPlain : ℕ → Type 0
  IsPlain n = is_plain (kind_at nodes n) ≡ true

  pub choose_plain : (n : ℕ) → IsPlain n → kind_at nodes n ≡ Choose → ⊥
  choose_plain n plain is = false≢true (sym (ap is_plain is) ∙ plain)

  pub convert_plain : (n : ℕ) → IsPlain n → kind_at nodes n ≡ Convert → ⊥
  convert_plain n plain is = false≢true (sym (ap is_plain is) ∙ plain)

  -- A plain statement gives nothing and takes nothing.
  pub plain_wait : (n : ℕ) (left : List ℕ) (values : List (ℕ × Value)) → IsPlain n → Each (Has (children_at nodes n)) left → WaitStands nodes n left values
  plain_wait n left values plain h = record { left_in = h; choice = λ is. absurd (choose_plain n plain is); conversion = λ is. absurd (convert_plain n plain is) }

  pub plain_gives : (m : ℕ) (left : List ℕ) (values : List (ℕ × Value)) (x : ℕ) → IsPlain m → GivesTo nodes m left values x
  plain_gives m left values x plain = record { choice = λ is. absurd (choose_plain m plain is); conversion = λ is. absurd (convert_plain m plain is) }

  pub plain_stands : (x : ℕ) (items : List Item) → IsPlain x → GivesBelow nodes x items → NodeStands nodes x items
  plain_stands x items plain h = record { gives = h; parent = λ value. absurd (plain_sort (kind_at nodes x) plain value) }

module _ (nodes : List Node) (pend : ℕ → ℕ → List Value → List Item → Type 0) where
  -- A value goes to the item below.
  given_stands : (m : ℕ) (left : List ℕ) (values : List (ℕ × Value)) (n : ℕ) (v : Value) → GivesTo nodes m left values n → WaitStands nodes m left values → WaitStands nodes m left (values ++ (n, v) ∷ [])
  given_stands m left values n v g h = record {
    left_in = h.left_in;
    choice = λ is. more is (h.choice is);
    conversion = λ is. inl (g.conversion is).1;
  }
    where
      more : kind_at nodes m ≡ Choose → ChoiceWaits (children_at nodes m) left values → ChoiceWaits (children_at nodes m) left (values ++ (n, v) ∷ [])
      more is (inl all) = inl all
      more is (inr (inl two)) = inr (inl two)
      more is (inr (inr none)) =
          inr (inr (none.0, each_append (λ e. IsBranch (children_at nodes m) e.0) values ((n, v) ∷ []) none.1 (g.choice is none.0, tt)))

  pub deliver_stacked : (n : ℕ) (v : Value) (items : List Item) → GivesBelow nodes n items → Stacked nodes pend items → Stacked nodes pend (deliver n v items)
  deliver_stacked n v [] gives h = tt
  deliver_stacked n v (Wait m left values ∷ rest) gives h = (given_stands m left values n v gives h.0, h.1, h.2)
  deliver_stacked n v (Do m ∷ rest) gives h = h
  deliver_stacked n v (Library m function arguments ∷ rest) gives h = h
  deliver_stacked n v (Returned r ∷ rest) gives h = h

  -- what an item's node gives may go to the item below
  pub item_gives : (item : Item) (items : List Item) (n : ℕ) → item_node item ≡ Some n → StandsOn nodes item items → GivesBelow nodes n items
  item_gives (Do m) items n is h = subst (λ (k : ℕ). GivesBelow nodes k items) (some_one is) h.gives
  item_gives (Wait m left values) items n is h = subst (λ (k : ℕ). GivesBelow nodes k items) (some_one is) h.gives
  item_gives (Library m function arguments) items n is h = subst (λ (k : ℕ). GivesBelow nodes k items) (some_one is) (by items h)
    where
      by : (xs : List Item) → (waits_next xs ≡ true → NodeStands nodes m xs) → GivesBelow nodes m xs
      by [] g = tt
      by (Do k ∷ rest) g = tt
      by (Library k f a ∷ rest) g = tt
      by (Returned v ∷ rest) g = tt
      by (Wait k left values ∷ rest) g = (g refl).gives
  item_gives (Returned v) items n is h = absurd (none_some is)

  -- An operand is taken.
  module _ (n c : ℕ) (left : List ℕ) (values : List (ℕ × Value)) (items : List Item) (i : ℕ) (stacked : Stacked nodes pend (Wait n (c ∷ left) values ∷ items))
      (choice : kind_at nodes n ≡ Choose → (i ≡ 0) × ((p : ℕ) × (a : ℕ) × (b : ℕ) × (children_at nodes n ≡ p ∷ a ∷ b ∷ []) × ((c ∷ left ≡ a ∷ b ∷ []) → ⊥)))
      (single : kind_at nodes n ≡ Convert → (v : ℕ) × (children_at nodes n ≡ v ∷ [])) where
    abbrev children : List ℕ
    children = children_at nodes n

    two_left : kind_at nodes n ≡ Choose → ChoiceWaits children (c ∷ left) values → (remove (c ∷ left) i ≡ drop 1 children) × ((drop 1 children ≡ []) → ⊥)
    two_left is (inl all) =
        let h = choice is in
        (ap (remove (c ∷ left)) h.0 ∙ ap (drop 1) all, λ none. none_cons (sym none ∙ ap (drop 1) h.1.3))
    two_left is (inr (inl two)) = let h = choice is in absurd (h.1.4 (two ∙ ap (drop 1) h.1.3))
    two_left is (inr (inr none)) = absurd (cons_none none.0)

    one_left : (x : ℕ) → slice_get (c ∷ left) i ≡ Some x → kind_at nodes n ≡ Convert → ((c ∷ left) ≡ []) ⊎ (((c ∷ left) ≡ children) × (values ≡ []))
        → (children ≡ x ∷ []) × (remove (c ∷ left) i ≡ []) × (values ≡ [])
    one_left x at is (inl none) = absurd (cons_none none)
    one_left x at is (inr both) =
        let s = single is in
        let all : c ∷ left ≡ s.0 ∷ [] = both.0 ∙ s.1 in
        let t = one_taken c left i x (cons_rest all) at in
        (s.1 ∙ ap (λ (y : ℕ). y ∷ []) (sym (t.0 ∙ cons_first all)), t.1, both.1)

    fewer : Each (Has children) (remove (c ∷ left) i)
    fewer =
        each_append (Has children) (take i (c ∷ left)) (drop (suc i) (c ∷ left)) (each_take (Has children) i (c ∷ left) stacked.0.left_in)
        (each_drop (Has children) (suc i) (c ∷ left) stacked.0.left_in)

    taken : (o : Option ℕ) → slice_get (c ∷ left) i ≡ o → Stacked nodes pend (taken_from i (Wait n (c ∷ left) values) items o)
    taken None at = stacked
    taken (Some x) at = (
      tt,
      record {
        gives = record {
          choice = λ is none. (let t = two_left is (stacked.0.choice is) in absurd (t.1 (sym t.0 ∙ none)));
          conversion = λ is. one_left x at is (stacked.0.conversion is);
        };
        parent = λ value. each_at (Has children) (c ∷ left) i x at stacked.0.left_in;
      },
      (
        record {
          left_in = fewer;
          choice = λ is. inr (inl (two_left is (stacked.0.choice is)).0);
          conversion = λ is. inl (one_left x at is (stacked.0.conversion is)).1;
        },
        stacked.1,
        stacked.2,
      ),
    )

    pub taken_stacked : Stacked nodes pend (operand_taken i (Wait n (c ∷ left) values ∷ items))
    taken_stacked = taken (slice_get (c ∷ left) i) refl

  -- What stands below the item of a plain statement.
  pub tail_stands : (a : ℕ) (items : List Item) → is_plain (kind_at nodes a) ≡ true → Stacked nodes pend items → NodeStands nodes a (drop (items_to a items) items) × Stacked nodes pend (drop (items_to a items) items)
  tail_stands a [] plain h = (plain_stands nodes a [] plain tt, tt)
  tail_stands a (Do m ∷ rest) plain h =
      subst (λ (xs : List Item). NodeStands nodes a xs × Stacked nodes pend xs) (sym (drop_one (Do m) rest (items_to a rest))) (tail_stands a rest plain h.2)
  tail_stands a (Library m function arguments ∷ rest) plain h =
      subst (λ (xs : List Item). NodeStands nodes a xs × Stacked nodes pend xs) (sym (drop_one (Library m function arguments) rest (items_to a rest))) (tail_stands a rest plain h.2)
  tail_stands a (Returned v ∷ rest) plain h =
      subst (λ (xs : List Item). NodeStands nodes a xs × Stacked nodes pend xs) (sym (drop_one (Returned v) rest (items_to a rest))) (tail_stands a rest plain h.2)
  tail_stands a (Wait m left values ∷ rest) plain h = by (eqb m a) same (tail_stands a rest plain h.2)
    where
      same : eqb m a ≡ true → m ≡ a
      same e = elim (eqb_tells m a) [ inl is ↦ is.1 | inr other ↦ absurd (false≢true (sym other.0 ∙ e)) ]

      by : (b : Bool) → (b ≡ true → m ≡ a) → NodeStands nodes a (drop (items_to a rest) rest) × Stacked nodes pend (drop (items_to a rest) rest)
          → (let k : ℕ = cond b 1 (1 + items_to a rest) in NodeStands nodes a (drop k (Wait m left values ∷ rest)) × Stacked nodes pend (drop k (Wait m left values ∷ rest)))
      by true is more = (subst (λ (k : ℕ). NodeStands nodes k rest) (is refl) h.1, h.2)
      by false is more = subst (λ (xs : List Item). NodeStands nodes a xs × Stacked nodes pend xs) (sym (drop_one (Wait m left values) rest (items_to a rest))) more

-- A conversion waits for its one operand right below it, and has nothing yet.
pub conversion_below : (u : CoreTrees) → ChildOnce u → (n m : ℕ) (node : Node) (items : List Item) → sort_of (kind_at u.nodes n) ≡ ValueNode → NodeStands u.nodes n items → slice_get u.nodes m ≡ Some node → node.kind ≡ Convert
    → node.children ≡ n ∷ [] → (rest : List Item) × (items ≡ Wait m [] [] ∷ rest)
conversion_below u once n m node items value stands there kind children = by items stands.gives (stands.parent value)
  where
    by : (xs : List Item) → GivesBelow u.nodes n xs → OnParent u.nodes n xs → (rest : List Item) × (xs ≡ Wait m [] [] ∷ rest)
    by [] gives parent = absurd parent
    by (Do k ∷ rest) gives parent = absurd parent
    by (Library k function arguments ∷ rest) gives parent = absurd parent
    by (Returned v ∷ rest) gives parent = absurd parent
    by (Wait k left values ∷ rest) gives parent =
        let child = has_child u k n parent in
        let same : k ≡ m = (once k m child.0 0 n child.1 (ap (λ (o : Option Node). child_in o 0) there ∙ ap (λ (cs : List ℕ). slice_get cs 0) children)).0 in
        let nothing_yet = gives.conversion (ap (kind_at u.nodes) same ∙ (ap kind_in there ∙ kind)) in
        (rest, ap (λ (j : ℕ). Wait j left values ∷ rest) same ∙ (ap (λ (l : List ℕ). Wait m l values ∷ rest) nothing_yet.1 ∙ ap (λ (vs : List (ℕ × Value)). Wait m [] vs ∷ rest) nothing_yet.2))

-- what stands on the node above it stands on one that waits
pub parent_waits : (nodes : List Node) (x : ℕ) (items : List Item) → OnParent nodes x items → waits_next items ≡ true
parent_waits nodes x [] h = absurd h
parent_waits nodes x (Do k ∷ rest) h = absurd h
parent_waits nodes x (Library k function arguments ∷ rest) h = absurd h
parent_waits nodes x (Returned v ∷ rest) h = absurd h
parent_waits nodes x (Wait k left values ∷ rest) h = refl

-- A call of the program's waits for a library function in its place.
pub pended_stacked : (nodes : List Node) (pend : ℕ → ℕ → List Value → List Item → Type 0) (n function : ℕ) (left : List ℕ) (values : List (ℕ × Value)) (arguments : List Value) (items : List Item) → sort_of (kind_at nodes n) ≡ ValueNode
    → Stacked nodes pend (Wait n left values ∷ items) → (waits_next items ≡ true → pend n function arguments items) → Stacked nodes pend (Library n function arguments ∷ items)
pended_stacked nodes pend n function left values arguments items value h pending = (pending (parent_waits nodes n items (h.1.parent value)), (λ waits. h.1), h.2)

-- the items on a way that begins with this node, by whether it is a label and whether it is the last one
abbrev way_items : List Node → ℕ → ℕ → List Item → List Item → Bool → Bool → List Item
way_items nodes p x more tail label last =
    ((if label then [] else Wait p (left_behind (kind_at nodes p) (children_at nodes p) x) [] ∷ []) ++ (if last then [] else more)) ++ tail

abbrev OnTop : List Node → (ℕ → ℕ → List Value → List Item → Type 0) → ℕ → List Item → Type 0
OnTop nodes pend y items = NodeStands nodes y items × Stacked nodes pend items

module _ (u : CoreTrees) (rows : InRows u) (pend : ℕ → ℕ → List Value → List Item → Type 0) (a : ℕ) (tail : List Item) (open_node : is_label (kind_at u.nodes a) ≡ false) (stands : NodeStands u.nodes a tail) (stacked : Stacked u.nodes pend tail) where
  -- the same further up
  abbrev Ups : ℕ → Type 0
  Ups fuel =
      (p z : ℕ) → is_plain (kind_at u.nodes z) ≡ true → is_plain (kind_at u.nodes p) ≡ true → Meets a (above_in u.nodes fuel p) → OnTop u.nodes pend z (waits_to u.nodes a (above_in u.nodes fuel p) ++ tail)

  -- The items on a way up from a plain statement to one that is no label.
  pub way_stacked : (fuel x y : ℕ) → is_plain (kind_at u.nodes y) ≡ true → is_plain (kind_at u.nodes x) ≡ true → Meets a (above_in u.nodes fuel x)
      → NodeStands u.nodes y (waits_to u.nodes a (above_in u.nodes fuel x) ++ tail) × Stacked u.nodes pend (waits_to u.nodes a (above_in u.nodes fuel x) ++ tail)
  way_stacked zero x y above plain meets = absurd meets
  way_stacked (suc fuel) x y above plain meets = by (parent_of u.nodes x) refl (λ p z own plain_p m. way_stacked fuel p z own plain_p m)
    where
      at : (p : ℕ) (label last : Bool) → is_label (kind_at u.nodes p) ≡ label → eqb p a ≡ last → OnTop u.nodes pend y (way_items u.nodes p x (waits_to u.nodes a (above_in u.nodes fuel p)) tail label last)
          → OnTop u.nodes pend y (way_items u.nodes p x (waits_to u.nodes a (above_in u.nodes fuel p)) tail (is_label (kind_at u.nodes p)) (eqb p a))
      at p label last e g h =
          subst (λ (b : Bool). OnTop u.nodes pend y (way_items u.nodes p x (waits_to u.nodes a (above_in u.nodes fuel p)) tail b (eqb p a))) (sym e)
          (subst (λ (b : Bool). OnTop u.nodes pend y (way_items u.nodes p x (waits_to u.nodes a (above_in u.nodes fuel p)) tail label b)) (sym g) h)

      rest_of : (p : ℕ) → parent_of u.nodes x ≡ Some p → (p ≡ a → ⊥) → Meets a (above_in u.nodes fuel p)
      rest_of p is other = elim (subst (Meets a) (above_found u.nodes fuel x p is) meets) [ inl same ↦ absurd (other same) | inr more ↦ more ]

      waits : (p : ℕ) → is_plain (kind_at u.nodes p) ≡ true → WaitStands u.nodes p (left_behind (kind_at u.nodes p) (children_at u.nodes p) x) []
      waits p plain_p =
          plain_wait u.nodes p (left_behind (kind_at u.nodes p) (children_at u.nodes p) x) [] plain_p
          (each_left_behind (Has (children_at u.nodes p)) (kind_at u.nodes p) (children_at u.nodes p) x (has_all (children_at u.nodes p)))

      on : (p : ℕ) (items : List Item) → is_plain (kind_at u.nodes p) ≡ true → NodeStands u.nodes y (Wait p (left_behind (kind_at u.nodes p) (children_at u.nodes p) x) [] ∷ items)
      on p items plain_p =
          plain_stands u.nodes y (Wait p (left_behind (kind_at u.nodes p) (children_at u.nodes p) x) [] ∷ items) above
          (plain_gives u.nodes p (left_behind (kind_at u.nodes p) (children_at u.nodes p) x) [] y plain_p)

      go : (p : ℕ) → is_plain (kind_at u.nodes p) ≡ true → parent_of u.nodes x ≡ Some p → Ups fuel → (label : Bool) → is_label (kind_at u.nodes p) ≡ label → ((eqb p a ≡ true) × (p ≡ a)) ⊎ ((eqb p a ≡ false) × (p ≡ a → ⊥))
          → OnTop u.nodes pend y (way_items u.nodes p x (waits_to u.nodes a (above_in u.nodes fuel p)) tail (is_label (kind_at u.nodes p)) (eqb p a))
      go p plain_p is next true e (inl here) = absurd (false≢true (sym open_node ∙ (ap (λ (k : ℕ). is_label (kind_at u.nodes k)) (sym here.1) ∙ e)))
      go p plain_p is next true e (inr other) = at p true false e other.0 (next p y above plain_p (rest_of p is other.1))
      go p plain_p is next false e (inl here) = at p false true e here.0 (on p tail plain_p, (waits p plain_p, subst (λ (k : ℕ). NodeStands u.nodes k tail) (sym here.1) stands, stacked))
      go p plain_p is next false e (inr other) =
          let more = next p p plain_p plain_p (rest_of p is other.1) in
          at p false false e other.0 (on p (waits_to u.nodes a (above_in u.nodes fuel p) ++ tail) plain_p, (waits p plain_p, more.0, more.1))

      by : (o : Option ℕ) → parent_of u.nodes x ≡ o → Ups fuel → OnTop u.nodes pend y (waits_to u.nodes a (above_in u.nodes (suc fuel) x) ++ tail)
      by None is next = absurd (subst (Meets a) (above_none u.nodes fuel x is) meets)
      by (Some p) is next =
          subst (λ (links : List Link). OnTop u.nodes pend y (waits_to u.nodes a links ++ tail)) (sym (above_found u.nodes fuel x p is))
          (go p (plain_above u rows p x plain (parent_has u.nodes x p is)) is next (is_label (kind_at u.nodes p)) refl (eqb_tells p a))
