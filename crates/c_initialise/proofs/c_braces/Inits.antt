-- An initialiser of a list, over those before it.
use Rattle.std.proofs.Common.{arith, ◌≡◌, ◌<◌, ℕ, zero, suc, ◌+◌, List, [], ◌∷◌, ◌++◌, refl, ap, sym, ◌∙◌, subst, map, length, length-append, get_or, slice_get, Some, All}
use Rattle.std.proofs.lemmas.List.Elements.{All-head, All-tail}
use Rattle.c_types.specs.Table.{Table}
use Rattle.c_initialise.specs.declared.c_braces.tree.InitNode.{InitNode}
use Rattle.c_initialise.specs.declared.c_braces.tree.InitNode.TheVariants.{Value as ValueNode, Braces as BracesNode}
use Rattle.c_initialise.specs.declared.c_braces.tree.InitEntry.{InitEntry}
use Rattle.c_inits.specs.Syntax.{Init, Braces, Item}
use Rattle.c_inits.specs.Designated.{designator_of}
use Rattle.c_initialise.specs.c_braces.Tree.{no_init, items_over, init_over, inits_of, init_at, IsBefore, AreInits}

-- what is read before the end of a list stays
read_left : (xs ys : List Init) (i : ℕ) → i < length xs → get_or (xs ++ ys) i no_init ≡ get_or xs i no_init
read_left [] ys i lt = absurd (omega (arith, lt))
read_left (x ∷ xs) ys zero lt = refl
read_left (x ∷ xs) ys (suc i) lt = read_left xs ys i (omega (arith, lt))

read_last : (xs : List Init) (y : Init) → get_or (xs ++ y ∷ []) (length xs) no_init ≡ y
read_last [] y = refl
read_last (x ∷ xs) y = read_last xs y

pub read_done : (table : Table) (done : List Init) (nodes : List InitNode) (i : ℕ) → i < length done → get_or (inits_of table done nodes) i no_init ≡ get_or done i no_init
read_done table done [] i lt = refl
read_done table done (n ∷ rest) i lt =
    let more : i < length (done ++ init_over table (λ j. get_or done j no_init) n ∷ []) = omega (arith, lt, length-append done (init_over table (λ j. get_or done j no_init) n ∷ [])) in
    read_done table (done ++ init_over table (λ j. get_or done j no_init) n ∷ []) rest i more ∙ read_left done (init_over table (λ j. get_or done j no_init) n ∷ []) i lt

-- items over initialisers that are the same before a position
pub items_same : (f g : ℕ → Init) (i : ℕ) (es : List InitEntry) → ((j : ℕ) → j < i → f j ≡ g j) → ((k : ℕ) (e : InitEntry) → slice_get es k ≡ Some e → e.init < i) → items_over f es ≡ items_over g es
items_same f g i [] h b = refl
items_same f g i (e ∷ es) h b =
    ap (λ x. Item (map designator_of e.designators.items) x (items_over f es)) (h e.init (b 0 e refl))
    ∙ ap (λ r. Item (map designator_of e.designators.items) (g e.init) r) (items_same f g i es h (λ k x at. b (suc k) x at))

abbrev EntriesBefore : ℕ → InitNode → Type 0
EntriesBefore i (ValueNode node value) = Unit {0}
EntriesBefore i (BracesNode node items) = (k : ℕ) (e : InitEntry) → slice_get items.items k ≡ Some e → e.init < i

over_same : (table : Table) (f g : ℕ → Init) (i : ℕ) (n : InitNode) → ((j : ℕ) → j < i → f j ≡ g j) → EntriesBefore i n → init_over table f n ≡ init_over table g n
over_same table f g i (ValueNode node value) h b = refl
over_same table f g i (BracesNode node items) h b = ap (λ l. Braces node l) (items_same f g i items.items h b)

at_rest : (table : Table) (done : List Init) (nodes : List InitNode) (k : ℕ) (n : InitNode) → slice_get nodes k ≡ Some n → EntriesBefore (length done + k) n →
    get_or (inits_of table done nodes) (length done + k) no_init ≡ init_over table (λ j. get_or (inits_of table done nodes) j no_init) n
at_rest table done [] k n at b = cc
at_rest table done (m ∷ rest) zero n at b =
    let same : m ≡ n = cc in
    let end : length done + 0 ≡ length done = omega arith in
    let long : length done < length (done ++ init_over table (λ j. get_or done j no_init) m ∷ []) = omega (arith, length-append done (init_over table (λ j. get_or done j no_init) m ∷ [])) in
    let whole : List Init = inits_of table (done ++ init_over table (λ j. get_or done j no_init) m ∷ []) rest in
    ap (λ i. get_or whole i no_init) end
    ∙ read_done table (done ++ init_over table (λ j. get_or done j no_init) m ∷ []) rest (length done) long
    ∙ read_last done (init_over table (λ j. get_or done j no_init) m)
    ∙ ap (λ x. init_over table (λ j. get_or done j no_init) x) same
    ∙ over_same table (λ j. get_or done j no_init) (λ j. get_or whole j no_init) (length done) n (λ j lt. sym (read_done table done (m ∷ rest) j lt)) (subst (λ i. EntriesBefore i n) end b)
at_rest table done (m ∷ rest) (suc k) n at b =
    let next : length done + suc k ≡ length (done ++ init_over table (λ j. get_or done j no_init) m ∷ []) + k = omega (arith, length-append done (init_over table (λ j. get_or done j no_init) m ∷ [])) in
    ap (λ i. get_or (inits_of table done (m ∷ rest)) i no_init) next
    ∙ at_rest table (done ++ init_over table (λ j. get_or done j no_init) m ∷ []) rest k n at (subst (λ i. EntriesBefore i n) next b)

pub all_at : {X : Type 0} (P : X → Type 0) (xs : List X) → All P xs → (k : ℕ) (x : X) → slice_get xs k ≡ Some x → P x
all_at P [] h k x at = cc
all_at P (y ∷ ys) h zero x at = let r : y ≡ x = cc in subst P r (All-head P y ys h)
all_at P (y ∷ ys) h (suc k) x at = all_at P ys (All-tail P y ys h) k x at

entries_before : (table : Table) (i : ℕ) (n : InitNode) → IsBefore table i n → EntriesBefore i n
entries_before table i (ValueNode node value) h = tt
entries_before table i (BracesNode node items) h = λ k e at. all_at (λ x. x.init < i) items.items h k e at

pub init_is : (table : Table) (nodes : List InitNode) (i : ℕ) (n : InitNode) → AreInits table nodes → slice_get nodes i ≡ Some n → init_at table nodes i ≡ init_over table (init_at table nodes) n
unfolding init_at
init_is table nodes i n all at =
    let zero_more : 0 + i ≡ i = omega arith in
    ap (λ j. get_or (inits_of table [] nodes) j no_init) (sym zero_more)
    ∙ at_rest table [] nodes i n at (subst (λ j. EntriesBefore j n) (sym zero_more) (entries_before table i n (all.each i n at)))
