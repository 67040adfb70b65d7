-- Where a statement's tree has one mark, one node of a unit is marked beneath the statement's.
use Rattle.std.proofs.Common.{arith, ◌≡◌, ◌≤◌, ◌+◌, ℕ, zero, suc, Bool, true, false, ◌&&◌, not, cond, List, [], ◌∷◌, Option, Some, slice_get, refl, sym, ap, ◌∙◌, subst, ◌⊎◌, inl, inr}
use Rattle.c_types.specs.Table.{type_of}
use Rattle.core_tree.specs.declared.node.Unit.{Unit}
use Rattle.core_tree.specs.declared.node.Node.{Node}
use Rattle.core_tree.specs.declared.node.NodeKind.{NodeKind}
use Rattle.core_tree.specs.declared.node.NodeKind.TheVariants.{Named, FunctionName, Literal, Initialise, Block, For, Switch, Case, Default, Label, Goto}
use Rattle.core_tree.specs.Typed.{trees_of}
use Rattle.core_tree.specs.Rows.{Has}
use Rattle.core_tree.specs.Range.{Under, here, below, IsChild}
use Rattle.core_tree.specs.Valid.{InRows}
use Rattle.core_tree.proofs.Climb.{child_has, has_child, parent_node}
use Rattle.c_consts.specs.Core.{Core, Cores, Of, NoCores, MoreCores}
use Rattle.core_nodes.specs.passed.c_senses.Right.{Numbering, StandsBy, AllStandBy}
use Rattle.core_node_laws.proofs.standing_laws.Kept.{opens}
use Rattle.core_node_laws.proofs.standing_laws.Rows.{acts, acts_in, still_shut, shut}
use Rattle.core_node_laws.proofs.standing_laws.Walking.{Blind, same_test}
use Rattle.core_node_laws.specs.marked_trees.Marked.{is_mark}
use Rattle.core_node_laws.proofs.marked_trees.Marks.{number, Weight, IsPlain, weight_of, marking, goes_in, marks, marks_all}

-- down from a node, through none that stops
pub data Way (u : Unit) (stops : NodeKind → Bool) : ℕ → ℕ → Type 0 where
  itself : {b : ℕ} → Way u stops b b
  through : {b c m : ℕ} {node : Node} → slice_get u.nodes.items b ≡ Some node → stops node.kind ≡ false → Has node.children c → Way u stops c m → Way u stops b m

-- one node more
pub longer : (u : Unit) (stops : NodeKind → Bool) (b p m : ℕ) (node : Node) → Way u stops b p → slice_get u.nodes.items p ≡ Some node → stops node.kind ≡ false → Has node.children m → Way u stops b m
longer u stops b p m node itself at goes has = through at goes has itself
longer u stops b p m node (through e f h way) at goes has = through e f h (longer u stops _ p m node way at goes has)

pub every_way : (u : Unit) (stops : NodeKind → Bool) → ((kind : NodeKind) → stops kind ≡ false) → (b m : ℕ) → Under (trees_of u) b m → Way u stops b m
every_way u stops free b m here = itself
every_way u stops free b m (below {parent = p} up child) =
    let node = parent_node (trees_of u) p m child in
    longer u stops b p m node.0 (every_way u stops free b p up) node.1 (free node.0.kind) (child_has (trees_of u) p m node.0 node.1 child)

pub child_under : (u : Unit) (p m a : ℕ) → IsChild (trees_of u) p m → Under (trees_of u) m a → Under (trees_of u) p a
child_under u p m a child here = below here child
child_under u p m a child (below {parent = q} up part) = below (child_under u p m q child up) part

-- from a node down to what stands under it, where what stops between them is that node alone
pub first_ways : (u : Unit) (stops : NodeKind → Bool) (s a : ℕ) (node : Node) → slice_get u.nodes.items s ≡ Some node
    → ((n : ℕ) (other : Node) → slice_get u.nodes.items n ≡ Some other → stops other.kind ≡ true → Under (trees_of u) s n → Under (trees_of u) n a → n ≡ s) → (p : ℕ) → Under (trees_of u) s p → Under (trees_of u) p a
    → (p ≡ s) ⊎ ((c : ℕ) × Has node.children c × Way u stops c p)
first_ways u stops s a node at only p here rest = inl refl
first_ways u stops s a node at only m (below {parent = p} up child) rest =
    let more = child_under u p m a child rest in
    by (first_ways u stops s a node at only p up more)
  where
    first : p ≡ s → (m ≡ s) ⊎ ((c : ℕ) × Has node.children c × Way u stops c m)
    first same = inr (m, child_has (trees_of u) s m node at (subst (λ (x : ℕ). IsChild (trees_of u) x m) same child), itself)

    further : (other : Node) → slice_get u.nodes.items p ≡ Some other → (b : Bool) → stops other.kind ≡ b → (c : ℕ) × Has node.children c × Way u stops c p → (m ≡ s) ⊎ ((c : ℕ) × Has node.children c × Way u stops c m)
    further other there true e way = first (only p other there e up (child_under u p m a child rest))
    further other there false e way = inr (way.0, way.1, longer u stops way.0 p m other way.2 there e (child_has (trees_of u) p m other there child))

    by : (p ≡ s) ⊎ ((c : ℕ) × Has node.children c × Way u stops c p) → (m ≡ s) ⊎ ((c : ℕ) × Has node.children c × Way u stops c m)
    by (inl same) = first same
    by (inr way) = let other = parent_node (trees_of u) p m child in further other.0 other.1 (stops other.0.kind) refl way

blind_opens : Blind opens
blind_opens (Named e) = refl
blind_opens (FunctionName e) = refl
blind_opens (Literal e) = refl
blind_opens (Initialise e paths) = refl
blind_opens (Block es) = refl
blind_opens (For es c a) = refl
blind_opens kind = refl

mark_acts : (kind : NodeKind) → is_mark kind ≡ true → acts kind ≡ true
mark_acts (Case n) e = refl
mark_acts Default e = refl
mark_acts (Label name) e = refl
mark_acts Switch e = refl
mark_acts (Goto name) e = refl
mark_acts kind e = cc

both_true : (a b : Bool) → a ≡ true → b ≡ false → (a && not b) ≡ true
both_true true false ea eb = refl
both_true true true ea eb = cc
both_true false b ea eb = cc

module _
    (marked : NodeKind → Bool) (stops : NodeKind → Bool) (plain : IsPlain (marking marked)) (blind_marked : Blind marked) (blind_stops : Blind stops) (n : Numbering) (u : Unit) (rows : InRows (trees_of u))
  where
    abbrev W : ℕ → ℕ → Type 0
    W b x = Way u stops b x

    abbrev pub Marked : ℕ → Type 0
    Marked x = (node : Node) × (slice_get u.nodes.items x ≡ Some node) × (marked node.kind ≡ true)

    marked_acts : (kind : NodeKind) → marked kind ≡ true → acts kind ≡ true
    marked_acts kind e = by (is_mark kind) refl
      where
        by : (b : Bool) → is_mark kind ≡ b → acts kind ≡ true
        by true f = mark_acts kind f
        by false f = let value : number (marked kind) ≡ 0 = plain kind NoCores f in let one : number (marked kind) ≡ 1 = ap number e in absurd (omega (arith, value, one))

    -- nothing beneath what is no statement is marked
    still_way : (b x : ℕ) → W b x → acts_in (slice_get u.nodes.items b) ≡ false → acts_in (slice_get u.nodes.items x) ≡ false
    still_way b x itself still = still
    still_way b x (through {c = c} {node = node} at goes has way) still =
        let quiet = still_shut node.kind (sym (ap acts_in at) ∙ still) in
        still_way c x way (shut (trees_of u) node.kind (type_of u.types node.ty.0) node.children (rows b node at) quiet has.0 c has.1)

    opened : (b c x : ℕ) (node : Node) → slice_get u.nodes.items b ≡ Some node → Has node.children c → W c x → Marked x → opens node.kind ≡ true
    opened b c x node at has way mark = by (opens node.kind) refl
      where
        by : (o : Bool) → opens node.kind ≡ o → opens node.kind ≡ true
        by true e = e
        by false e =
            let still = still_way c x way (shut (trees_of u) node.kind (type_of u.types node.ty.0) node.children (rows b node at) e has.0 c has.1) in
            let act = ap acts_in mark.1 ∙ marked_acts mark.0.kind mark.2 in
            let never : true ≡ false = sym act ∙ still in
            cc

    same_node : (a b : Node) → ◌≡◌ {A = Option Node} (Some a) (Some b) → a ≡ b
    same_node a b e = cc

    mutual
      pub some_mark : (c : Core) (b x : ℕ) → StandsBy n u b c → W b x → Marked x → 1 ≤ marks (marking marked) stops c
      some_mark (Of kind place type under) b x (node, at, same, place_is, type_is, parts) itself mark =
          let one = same_node node mark.0 (sym at ∙ mark.1) in
          let own : marked kind ≡ true = same_test marked blind_marked n kind node.kind same ∙ (ap (λ (y : Node). marked y.kind) one ∙ mark.2) in
          let value : number (marked kind) ≡ 1 = ap number own in
          omega (arith, value)
      some_mark (Of kind place type under) b x (node, at, same, place_is, type_is, parts) (through {c = c} {node = other} there goes has way) mark =
          let one = same_node other node (sym there ∙ at) in
          let child : Has node.children c = subst (λ (y : Node). Has y.children c) one has in
          let enter : goes_in (marking marked) stops kind ≡ true =
          both_true (opens kind) (stops kind) (same_test opens blind_opens n kind node.kind same ∙ opened b c x node at child way mark) (same_test stops blind_stops n kind node.kind same ∙ (ap (λ (y : Node). stops y.kind) (sym one) ∙ goes)) in
          let inner = some_marks under node.children c x parts child.0 child.1 way mark in
          let value : cond (goes_in (marking marked) stops kind) (marks_all (marking marked) stops under) 0 ≡ marks_all (marking marked) stops under = ap (λ (y : Bool). cond y (marks_all (marking marked) stops under) 0) enter in
          omega (arith, inner, value)

      some_marks : (under : Cores) (is : List ℕ) (c x : ℕ) → AllStandBy n u is under → (k : ℕ) → slice_get is k ≡ Some c → W c x → Marked x → 1 ≤ marks_all (marking marked) stops under
      some_marks NoCores is c x stand k e way mark = let none : slice_get [] k ≡ Some c = subst (λ (l : List ℕ). slice_get l k ≡ Some c) stand e in cc
      some_marks (MoreCores core rest) is c x (i, more, same, own, others) k e way mark =
          by k (subst (λ (l : List ℕ). slice_get l k ≡ Some c) same e) (λ w. some_mark core i x own w mark) (λ j f. some_marks rest more c x others j f way mark)
        where
          by : (k : ℕ) → slice_get (i ∷ more) k ≡ Some c → (W i x → 1 ≤ marks (marking marked) stops core) → ((j : ℕ) → slice_get more j ≡ Some c → 1 ≤ marks_all (marking marked) stops rest) → 1 ≤ marks_all (marking marked) stops (MoreCores core rest)
          by zero f first later = let is_it : c ≡ i = cc in let one = first (subst (λ (y : ℕ). W y x) is_it way) in omega (arith, one)
          by (suc k) f first later = let more_marks = later k f in omega (arith, more_marks)

    mutual
      pub one_mark : (c : Core) (b x y : ℕ) → StandsBy n u b c → marks (marking marked) stops c ≤ 1 → W b x → W b y → Marked x → Marked y → x ≡ y
      one_mark (Of kind place type under) b x y (node, at, same, place_is, type_is, parts) few itself itself mx my = refl
      one_mark (Of kind place type under) b x y (node, at, same, place_is, type_is, parts) few itself (through {c = d} {node = other} there goes has way) mx my =
          let first = same_node node mx.0 (sym at ∙ mx.1) in
          let own : marked kind ≡ true = same_test marked blind_marked n kind node.kind same ∙ (ap (λ (z : Node). marked z.kind) first ∙ mx.2) in
          let one = same_node other node (sym there ∙ at) in
          let child : Has node.children d = subst (λ (z : Node). Has z.children d) one has in
          let enter : goes_in (marking marked) stops kind ≡ true =
          both_true (opens kind) (stops kind) (same_test opens blind_opens n kind node.kind same ∙ opened b d y node at child way my) (same_test stops blind_stops n kind node.kind same ∙ (ap (λ (z : Node). stops z.kind) (sym one) ∙ goes)) in
          let inner = some_marks under node.children d y parts child.0 child.1 way my in
          let value : cond (goes_in (marking marked) stops kind) (marks_all (marking marked) stops under) 0 ≡ marks_all (marking marked) stops under = ap (λ (z : Bool). cond z (marks_all (marking marked) stops under) 0) enter in
          let here : number (marked kind) ≡ 1 = ap number own in
          absurd (omega (arith, inner, value, here, few))
      one_mark (Of kind place type under) b x y (node, at, same, place_is, type_is, parts) few (through {c = d} {node = other} there goes has way) itself mx my =
          let first = same_node node my.0 (sym at ∙ my.1) in
          let own : marked kind ≡ true = same_test marked blind_marked n kind node.kind same ∙ (ap (λ (z : Node). marked z.kind) first ∙ my.2) in
          let one = same_node other node (sym there ∙ at) in
          let child : Has node.children d = subst (λ (z : Node). Has z.children d) one has in
          let enter : goes_in (marking marked) stops kind ≡ true =
          both_true (opens kind) (stops kind) (same_test opens blind_opens n kind node.kind same ∙ opened b d x node at child way mx) (same_test stops blind_stops n kind node.kind same ∙ (ap (λ (z : Node). stops z.kind) (sym one) ∙ goes)) in
          let inner = some_marks under node.children d x parts child.0 child.1 way mx in
          let value : cond (goes_in (marking marked) stops kind) (marks_all (marking marked) stops under) 0 ≡ marks_all (marking marked) stops under = ap (λ (z : Bool). cond z (marks_all (marking marked) stops under) 0) enter in
          let here : number (marked kind) ≡ 1 = ap number own in
          absurd (omega (arith, inner, value, here, few))
      one_mark (Of kind place type under) b x y (node, at, same, place_is, type_is, parts) few (through {c = d} {node = other} there goes has way) (through {c = e} {node = third} there2 goes2 has2 way2) mx my =
          let one = same_node other node (sym there ∙ at) in
          let two = same_node third node (sym there2 ∙ at) in
          let child : Has node.children d = subst (λ (z : Node). Has z.children d) one has in
          let child2 : Has node.children e = subst (λ (z : Node). Has z.children e) two has2 in
          let enter : goes_in (marking marked) stops kind ≡ true =
          both_true (opens kind) (stops kind) (same_test opens blind_opens n kind node.kind same ∙ opened b d x node at child way mx) (same_test stops blind_stops n kind node.kind same ∙ (ap (λ (z : Node). stops z.kind) (sym one) ∙ goes)) in
          let value : cond (goes_in (marking marked) stops kind) (marks_all (marking marked) stops under) 0 ≡ marks_all (marking marked) stops under = ap (λ (z : Bool). cond z (marks_all (marking marked) stops under) 0) enter in
          one_of_all under node.children d e x y parts (omega (arith, few, value)) child.0 child2.0 child.1 child2.1 way way2 mx my

      pub one_of_all : (under : Cores) (is : List ℕ) (d e x y : ℕ) → AllStandBy n u is under → marks_all (marking marked) stops under ≤ 1 → (j k : ℕ) → slice_get is j ≡ Some d → slice_get is k ≡ Some e → W d x → W e y → Marked x → Marked y → x ≡ y
      one_of_all NoCores is d e x y stand few j k ej ek wx wy mx my = let none : slice_get [] j ≡ Some d = subst (λ (l : List ℕ). slice_get l j ≡ Some d) stand ej in cc
      one_of_all (MoreCores core rest) is d e x y (i, more, same, own, others) few j k ej ek wx wy mx my =
          by j k (subst (λ (l : List ℕ). slice_get l j ≡ Some d) same ej) (subst (λ (l : List ℕ). slice_get l k ≡ Some e) same ek) (λ le vx vy. one_mark core i x y own le vx vy mx my) (λ le j k f g. one_of_all rest more d e x y others le j k f g wx wy mx my)
        where
          by : (j k : ℕ) → slice_get (i ∷ more) j ≡ Some d → slice_get (i ∷ more) k ≡ Some e → (marks (marking marked) stops core ≤ 1 → W i x → W i y → x ≡ y)
              → (marks_all (marking marked) stops rest ≤ 1 → (j k : ℕ) → slice_get more j ≡ Some d → slice_get more k ≡ Some e → x ≡ y) → x ≡ y
          by zero zero f g first later = let is_d : d ≡ i = cc in let is_e : e ≡ i = cc in first (omega (arith, few)) (subst (λ (z : ℕ). W z x) is_d wx) (subst (λ (z : ℕ). W z y) is_e wy)
          by (suc j) (suc k) f g first later = later (omega (arith, few)) j k f g
          by zero (suc k) f g first later =
              let is_d : d ≡ i = cc in
              let one = some_mark core i x own (subst (λ (z : ℕ). W z x) is_d wx) mx in
              let two = some_marks rest more e y others k g wy my in
              absurd (omega (arith, one, two, few))
          by (suc j) zero f g first later =
              let is_e : e ≡ i = cc in
              let one = some_mark core i y own (subst (λ (z : ℕ). W z y) is_e wy) my in
              let two = some_marks rest more d x others j f wx mx in
              absurd (omega (arith, one, two, few))

-- ---- where something is marked

module _ (marked : NodeKind → Bool) (stops : NodeKind → Bool) (blind_marked : Blind marked) (n : Numbering) (u : Unit) where
  -- a node that is marked, under another one
  pub record SomeUnder (b : ℕ) : Type 0 where
    pub place : ℕ
    pub node : Node
    pub there : slice_get u.nodes.items place ≡ Some node
    pub mark : marked node.kind ≡ true
    pub beneath : Under (trees_of u) b place

  one_of_two : (a b : ℕ) → 1 ≤ a + b → (1 ≤ a) ⊎ (1 ≤ b)
  one_of_two zero b h = inr (omega (arith, h))
  one_of_two (suc a) b h = inl (omega arith)

  mutual
    pub node_found : (c : Core) (b : ℕ) → StandsBy n u b c → 1 ≤ marks (marking marked) stops c → SomeUnder b
    node_found (Of kind place type under) b (node, at, same, place_is, type_is, parts) h =
        by (marked kind) refl (goes_in (marking marked) stops kind) (λ k. among_found under node.children b node at parts (λ c has. has) k)
      where
        own : marked kind ≡ true → SomeUnder b
        own e = record { place = b; node = node; there = at; mark = sym (same_test marked blind_marked n kind node.kind same) ∙ e; beneath = here }

        deeper : (a g : Bool) → marked kind ≡ a → goes_in (marking marked) stops kind ≡ g → a ≡ false → 1 ≤ number a + cond g (marks_all (marking marked) stops under) 0 → (1 ≤ marks_all (marking marked) stops under → SomeUnder b) → SomeUnder b
        deeper false true ea eg e h later = later (omega (arith, h))
        deeper false false ea eg e h later = absurd (omega (arith, h))
        deeper true g ea eg e h later = cc

        by : (a : Bool) → marked kind ≡ a → (g : Bool) → (1 ≤ marks_all (marking marked) stops under → SomeUnder b) → SomeUnder b
        by true e g later = own e
        by false e g later = deeper (marked kind) (goes_in (marking marked) stops kind) refl refl e h later

    among_found : (under : Cores) (is : List ℕ) (b : ℕ) (node : Node) → slice_get u.nodes.items b ≡ Some node → AllStandBy n u is under → ((c : ℕ) → Has is c → Has node.children c) → 1 ≤ marks_all (marking marked) stops under → SomeUnder b
    among_found NoCores is b node at stand within h = absurd (omega (arith, h))
    among_found (MoreCores core rest) is b node at (i, more, same, own, others) within h =
        by (one_of_two (marks (marking marked) stops core) (marks_all (marking marked) stops rest) h) (λ k. node_found core i own k)
        (λ k. among_found rest more b node at others (λ c has. within c (subst (λ (l : List ℕ). Has l c) (sym same) (suc has.0, has.1))) k)
      where
        by : (1 ≤ marks (marking marked) stops core) ⊎ (1 ≤ marks_all (marking marked) stops rest) → (1 ≤ marks (marking marked) stops core → SomeUnder i) → (1 ≤ marks_all (marking marked) stops rest → SomeUnder b) → SomeUnder b
        by (inl k) first later =
            let got = first k in
            let child = has_child (trees_of u) b i node at (within i (subst (λ (l : List ℕ). Has l i) (sym same) (0, refl))) in
            record { place = got.place; node = got.node; there = got.there; mark = got.mark; beneath = child_under u b i got.place child got.beneath }
        by (inr k) first later = later k

-- ---- where nothing weighs anything

module _ (weight : Weight) (stops : NodeKind → Bool) (blind_stops : Blind stops) (n : Numbering) (u : Unit) (rows : InRows (trees_of u)) where
  sum_none : (a b : ℕ) → a + b ≡ 0 → (a ≡ 0) × (b ≡ 0)
  sum_none a b e = (omega (arith, e), omega (arith, e))

  same_other : (a b : Node) → ◌≡◌ {A = Option Node} (Some a) (Some b) → a ≡ b
  same_other a b e = cc

  quiet_way : (b x : ℕ) → Way u stops b x → acts_in (slice_get u.nodes.items b) ≡ false → acts_in (slice_get u.nodes.items x) ≡ false
  quiet_way b x itself still = still
  quiet_way b x (through {c = c} {node = node} at goes has way) still =
      let quiet = still_shut node.kind (sym (ap acts_in at) ∙ still) in
      quiet_way c x way (shut (trees_of u) node.kind (type_of u.types node.ty.0) node.children (rows b node at) quiet has.0 c has.1)

  opens_for : (b c x : ℕ) (node : Node) → slice_get u.nodes.items b ≡ Some node → Has node.children c → Way u stops c x → acts_in (slice_get u.nodes.items x) ≡ true → opens node.kind ≡ true
  opens_for b c x node at has way act = by (opens node.kind) refl
    where
      by : (o : Bool) → opens node.kind ≡ o → opens node.kind ≡ true
      by true e = e
      by false e =
          let still = quiet_way c x way (shut (trees_of u) node.kind (type_of u.types node.ty.0) node.children (rows b node at) e has.0 c has.1) in
          let never : true ≡ false = sym act ∙ still in
          cc

  abbrev pub Free : ℕ → Type 0
  Free x = (d : Core) × StandsBy n u x d × (weight_of weight d ≡ 0)

  mutual
    pub free_at : (c : Core) (b x : ℕ) → StandsBy n u b c → marks weight stops c ≡ 0 → Way u stops b x → acts_in (slice_get u.nodes.items x) ≡ true → Free x
    free_at (Of kind place type under) b x stand none itself act = (Of kind place type under, stand, (sum_none (weight kind under) (cond (goes_in weight stops kind) (marks_all weight stops under) 0) none).0)
    free_at (Of kind place type under) b x (node, at, same, place_is, type_is, parts) none (through {c = c} {node = other} there goes has way) act =
        let one = same_other other node (sym there ∙ at) in
        let child : Has node.children c = subst (λ (y : Node). Has y.children c) one has in
        let enter : goes_in weight stops kind ≡ true =
        both_true (opens kind) (stops kind) (same_test opens blind_opens n kind node.kind same ∙ opens_for b c x node at child way act) (same_test stops blind_stops n kind node.kind same ∙ (ap (λ (y : Node). stops y.kind) (sym one) ∙ goes)) in
        let value : cond (goes_in weight stops kind) (marks_all weight stops under) 0 ≡ marks_all weight stops under = ap (λ (y : Bool). cond y (marks_all weight stops under) 0) enter in
        let rest = (sum_none (weight kind under) (cond (goes_in weight stops kind) (marks_all weight stops under) 0) none).1 in
        free_among under node.children c x parts (omega (arith, rest, value)) child.0 child.1 way act

    free_among : (under : Cores) (is : List ℕ) (c x : ℕ) → AllStandBy n u is under → marks_all weight stops under ≡ 0 → (k : ℕ) → slice_get is k ≡ Some c → Way u stops c x → acts_in (slice_get u.nodes.items x) ≡ true → Free x
    free_among NoCores is c x stand none k e way act = let never : slice_get [] k ≡ Some c = subst (λ (l : List ℕ). slice_get l k ≡ Some c) stand e in cc
    free_among (MoreCores core rest) is c x (i, more, same, own, others) none k e way act =
        let parts = sum_none (marks weight stops core) (marks_all weight stops rest) none in
        by k (subst (λ (l : List ℕ). slice_get l k ≡ Some c) same e) (λ w. free_at core i x own parts.0 w act) (λ j f. free_among rest more c x others parts.1 j f way act)
      where
        by : (k : ℕ) → slice_get (i ∷ more) k ≡ Some c → (Way u stops i x → Free x) → ((j : ℕ) → slice_get more j ≡ Some c → Free x) → Free x
        by zero f first later = let is_it : c ≡ i = cc in first (subst (λ (y : ℕ). Way u stops y x) is_it way)
        by (suc k) f first later = later k f
