-- The Initialise of a name that is no automatic object stands under no other node.
use Rattle.std.proofs.Common.{arith, ◌≡◌, ◌<◌, ◌≤◌, ◌+◌, ◌==◌, ℕ, zero, suc, nat_eq, ◌&&◌, Bool, true, false, List, [], ◌∷◌, Option, Some, None, take, length, slice_get, eq-eqb, refl, sym, ap, ◌∙◌, subst, ◌⊎◌, inl, inr}
use Rattle.std.specs.Prelude.{if◌then◌else◌}
use Rattle.std.proofs.lemmas.Bool.{eqb-true, eqb-false}
use Rattle.std.proofs.lemmas.Option.{slice_get_within}
use Rattle.c_lexer.specs.declared.Tokens.{Tokens}
use Rattle.c_lexer.specs.Cut.{IsTokens}
use Rattle.c_grammar.specs.declared.trees.Tree.{Tree}
use Rattle.c_grammar.specs.Productions.{p_external, p_rest, p_init, p_items}
use Rattle.c_parser.specs.c_units.Units.{IsUnit}
use Rattle.core_tree.specs.declared.node.Unit.{Unit}
use Rattle.core_tree.specs.declared.node.Node.{Node}
use Rattle.core_tree.specs.declared.node.NodeKind.{NodeKind}
use Rattle.core_tree.specs.declared.node.NodeKind.TheVariants.{Initialise}
use Rattle.core_tree.specs.declared.node.Storage.{Storage}
use Rattle.core_tree.specs.declared.node.Storage.TheVariants.{Static, Automatic, FunctionBody, Parameter, Declared as DeclaredStorage}
use Rattle.core_tree.specs.Typed.{trees_of}
use Rattle.core_tree.specs.Range.{entity_at}
use Rattle.core_tree.specs.Rows.{Initialises}
use Rattle.c_consts.specs.Core.{Core, Of, kind_of}
use Rattle.c_inits.specs.Shapes.{Path}
use Rattle.c_senses.specs.Names.{source_of, numbered}
use Rattle.c_senses.specs.Tree.{Source, is_a, is_name, children_at, parent_of}
use Rattle.c_senses.specs.World.{World}
use Rattle.c_senses.specs.Sense.{Sense, IsDeclarator, IsInitial, sense_in}
use Rattle.c_senses.specs.Rows.{AreSenses, world_at}
use Rattle.c_senses.specs.Entities.{entity_of, initialised_by}
use Rattle.c_senses.specs.Initialised.{name_of_declarator, opening}
use Rattle.c_senses.specs.Statements.{runs_initialiser}
use Rattle.c_senses.specs.Right.{Numbering, StandsBy, Declared, declared_name, is_declaring}
use Rattle.parsed_tree_laws.specs.family_laws.Families.{IsChild}
use Rattle.parsed_tree_laws.proofs.family_laws.Reading.{units_families}
use Rattle.parsed_tree_laws.proofs.span_laws.Whole.{units_are_spanned}
use Rattle.core_node_laws.proofs.standing_laws.Climbing.{in_list}
use Rattle.core_node_laws.proofs.standing_laws.Descending.{sense_before, child_before}
use Rattle.declaration_laws.proofs.declared_type_laws.passed.owner_laws.Whole.{grown_of}
use Rattle.declaration_laws.proofs.function_laws.passed.definition_laws.linkage_laws.Seen.{some_same, no_both, apart, parent_is, parent_holds, list_in, node_within}
use Rattle.declaration_laws.proofs.function_laws.passed.definition_laws.linkage_laws.Reading.{tree_is}
use Rattle.core_node_laws.specs.count_laws.count_rows.Counts.{Count, own_weight, count_in}
use Rattle.core_node_laws.specs.count_laws.count_rows.Covers.{IsIn, stays}
use Rattle.core_node_laws.specs.count_laws.Counting.{sum_below, bodies, seen_at, world_of}
use Rattle.core_node_laws.specs.count_laws.Counting as counts
use Rattle.core_node_laws.proofs.count_laws.Main.{counting}
use Rattle.core_node_laws.proofs.count_laws.once_nodes.Found.{some_one, Found, top, one_found, two_found}
use Rattle.valid_unit_laws.specs.object_initialiser_laws.once_initialised.Once.{initialises}
use Rattle.valid_unit_laws.proofs.body_node_laws.own_initials.Names.{both, opening_differs}
use Rattle.valid_unit_laws.proofs.body_node_laws.own_initials.Rests.{name_in}
use Rattle.valid_unit_laws.proofs.body_node_laws.own_initials.Roots.{root_counts}
use Rattle.valid_unit_laws.specs.body_node_laws.parts_initialise.Initialise.{IsRaised, IsBodyOf, NamesInitialise}
use Rattle.valid_unit_laws.proofs.body_node_laws.parts_initialise.Stored.{BlockAt, StaysAt, stands_for}
use Rattle.valid_unit_laws.proofs.body_node_laws.parts_initialise.Sums.{total, lists_more}
use Rattle.valid_unit_laws.proofs.body_node_laws.parts_initialise.Kept.{Makes, Kept, kept}
use Rattle.valid_unit_laws.proofs.body_node_laws.parts_initialise.Forest.{node_initialises, whole_in, one, one_has, pick_rest, Top, Rooted, rooted, top_within, marked, root_is}
use Rattle.valid_unit_laws.proofs.body_node_laws.parts_initialise.Whole.{stands_initialises, block_apart, leaf_of, same_leaf, automatic_body}

abbrev one_if : Bool → ℕ
one_if b = if b then 1 else 0

less_if : (a b : Bool) → (a ≡ true → b ≡ true) → one_if a ≤ one_if b
less_if true b h = by b (h refl)
  where
    by : (b : Bool) → b ≡ true → 1 ≤ one_if b
    by true e = omega arith
    by false e = cc
less_if false b h = omega arith

none_of : (b : Bool) → b ≡ false → one_if b ≤ 0
none_of true e = cc
none_of false e = omega arith

is_one : (b : Bool) → 1 ≤ one_if b → b ≡ true
is_one true h = refl
is_one false h = absurd (omega (arith, h))

both_true : (a b : Bool) → a ≡ true → b ≡ true → (a && b) ≡ true
both_true true true e f = refl
both_true true false e f = cc
both_true false b e f = cc

-- the initialisers among some nodes that stay
module _ (k : ℕ) (w : World) (s : Source) (f : ℕ → Sense) (g : ℕ → ℕ) where
  each_stays : (list : List ℕ) → ((c : ℕ) → IsIn list c → g c ≤ one k w s f (f c) (runs_initialiser w s f c)) → total g list ≤ stays (initialises k) w s f list
  each_stays [] le = omega arith
  each_stays (c ∷ rest) le = let a = le c (0, refl) in let b = each_stays rest (λ x at. le x (suc at.0, at.1)) in omega (arith, a, b)

  more_stays : (list : List ℕ) (j a : ℕ) → ((c : ℕ) → IsIn list c → g c ≤ one k w s f (f c) (runs_initialiser w s f c)) → slice_get list j ≡ Some a → g a + 1 ≤ one k w s f (f a) (runs_initialiser w s f a)
      → total g list + 1 ≤ stays (initialises k) w s f list
  more_stays [] j a le at more = cc
  more_stays (c ∷ rest) zero a le at more =
      let h : g c + 1 ≤ one k w s f (f c) (runs_initialiser w s f c) = subst (λ (x : ℕ). g x + 1 ≤ one k w s f (f x) (runs_initialiser w s f x)) (sym (some_one at)) more in
      let b = each_stays rest (λ x at. le x (suc at.0, at.1)) in
      omega (arith, h, b)
  more_stays (c ∷ rest) (suc j) a le at more = let h = le c (0, refl) in let b = more_stays rest j a (λ x at. le x (suc at.0, at.1)) at more in omega (arith, h, b)

none_in : (g : ℕ → ℕ) (list : List ℕ) → ((c : ℕ) → IsIn list c → g c ≤ 0) → total g list ≤ 0
none_in g [] le = omega arith
none_in g (c ∷ rest) le = let a = le c (0, refl) in let b = none_in g rest (λ x at. le x (suc at.0, at.1)) in omega (arith, a, b)

module _ (tokens : Tokens) (unit : ℕ) (tree : Tree) (tag_number : ℕ → ℕ) (senses : List Sense) (cut : IsTokens tokens.text.now tokens.list.items) (read : IsUnit tokens unit tree)
    (are : AreSenses (numbered tag_number (source_of tokens tree)) senses) (whole : length senses ≡ length (numbered tag_number (source_of tokens tree)).nodes) (m : Numbering) (u : Unit)
    (raised : IsRaised (numbered tag_number (source_of tokens tree)) senses m u)
  where
    abbrev s : Source
    s = numbered tag_number (source_of tokens tree)

    abbrev sense : ℕ → Sense
    sense i = sense_in senses i

    module _ (k e : ℕ) (what : Declared) (told : declared_name s senses k ≡ Some what) (lasts : what.storage ≡ Automatic → ⊥) (number : m k ≡ Some e) where
      abbrev n : Count
      n = initialises k

      abbrev D : ℕ → ℕ
      D = bodies (initialises k) s senses

      abbrev F : ℕ → ℕ → Sense
      F i = seen_at (initialises k) s senses i

      -- ---- which rows make one
      abbrev named_so : ℕ → Option ℕ → Bool
      named_so i None = false
      named_so i (Some l) = entity_of s (F i) l == k

      abbrev declared_so : ℕ → Option ℕ → Bool
      declared_so i None = false
      declared_so i (Some d) = named_so i (name_of_declarator (world_of (initialises k) s senses i) s (F i) (F i d))

      abbrev found : ℕ → Bool
      found i = is_a s p_init i && declared_so i (initialised_by s (F i) i)

      abbrev bound : ℕ → ℕ
      bound i = one_if (found i)

      same_name : (i : ℕ) (x : Sense) → name_of_declarator (world_of (initialises k) s senses i) s (F i) x ≡ name_in x
      same_name i (IsDeclarator name ds) = refl
      same_name i x = refl

      makes : (i : ℕ) → found i ≡ true → Makes tokens unit tree tag_number senses cut read are whole k i
      makes i h = let parts = both (is_a s p_init i) (declared_so i (initialised_by s (F i) i)) h in by parts.0 (initialised_by s (F i) i) refl parts.1
        where
          by_name : is_a s p_init i ≡ true → (d : ℕ) → initialised_by s (F i) i ≡ Some d → (o : Option ℕ) → name_of_declarator (world_of (initialises k) s senses i) s (F i) (F i d) ≡ o → named_so i o ≡ true → Makes tokens unit tree tag_number senses cut read are whole k i
          by_name is d at None e g = cc
          by_name is d at (Some l) e g = record { declarator = d; leaf = l; is = is; by_it = at; named = sym (same_name i (F i d)) ∙ e; entity = eqb-true (entity_of s (F i) l) k g }

          by : is_a s p_init i ≡ true → (o : Option ℕ) → initialised_by s (F i) i ≡ o → declared_so i o ≡ true → Makes tokens unit tree tag_number senses cut read are whole k i
          by is None e g = cc
          by is (Some d) e g = by_name is d e (name_of_declarator (world_of (initialises k) s senses i) s (F i) (F i d)) refl g

      found_is : (i d l : ℕ) → is_a s p_init i ≡ true → initialised_by s (F i) i ≡ Some d → name_of_declarator (world_of (initialises k) s senses i) s (F i) (F i d) ≡ Some l → (entity_of s (F i) l == k) ≡ true → found i ≡ true
      found_is i d l is by_it named e = both_true (is_a s p_init i) (declared_so i (initialised_by s (F i) i)) is (ap (declared_so i) by_it ∙ (ap (named_so i) named ∙ e))

      name : is_name s k ≡ true
      name =
          let f = stands_for tokens unit tree tag_number senses cut read are whole k what told in
          (both (is_name s k) _ (both (is_declaring s senses k) _ f.known_entity).0).0

      made : counts.Makes (initialises k) s senses bound
      made = record {
        texts = λ i first rest bytes is e there. omega arith;
        calls = λ i first rest is e there. omega arith;
        objects = λ i declarator l paths is by_it named. less_if (entity_of s (F i) l == k) (found i) (λ e. found_is i declarator l is by_it named e);
        literals = λ i p paths is parent kind typed. let none = none_of (opening (world_of (initialises k) s senses i) s (F i) p == k) (opening_differs s k name p kind) in omega (arith, none);
        blocks = λ i is. omega arith;
        loops = λ i word parenthesis rest c a is e. omega arith;
      }

      law : sum_below D (length s.nodes) ≤ sum_below bound (length s.nodes)
      law = counting (initialises k) s senses bound (units_are_spanned tokens unit tree tag_number read) (units_families tokens unit tree tag_number cut read) are whole made

      -- ---- each stays
      stays_so : (i : ℕ) → found i ≡ true → Kept tokens unit tree tag_number senses cut read are whole k i
      stays_so i h = kept tokens unit tree tag_number senses cut read are whole k what told lasts i (makes i h)

      held : (i : ℕ) → i < length s.nodes → 1 ≤ bound i → (q : ℕ) × (q < length s.nodes) × IsIn (children_at s q) i
      held i lt h =
          let x = stays_so i (is_one (found i) h) in
          (x.above, node_within s p_rest x.above x.rest refl, in_list (children_at s x.above) i (parent_holds s (tree_is tokens unit tree read tag_number).grown x.above i x.parent))

      parent_at : (q c : ℕ) → IsIn (children_at s q) c → parent_of s c ≡ Some q
      parent_at q c at = parent_is s (tree_is tokens unit tree read tag_number).grown q c (list_in (children_at s q) at.0 c at.1)

      before : (q c : ℕ) → IsChild s q c → F q c ≡ sense c
      before q c at = let grown = grown_of tokens unit tree tag_number cut read in sense_before s senses grown are whole q c (child_before s senses grown are whole q c at)

      counted : (c : Core) (paths : List Path) → kind_of c ≡ Initialise k paths → 1 ≤ count_in n c
      counted (Of kind place type under) paths is = let h = weighs kind is in let same = whole_in k (Of kind place type under) in omega (arith, h, same)
        where
          weighs : (x : NodeKind) → x ≡ Initialise k paths → 1 ≤ own_weight n x place
          weighs x e = subst (λ (y : NodeKind). 1 ≤ own_weight n y place) (sym e) (by (k == k) (eq-eqb k k refl))
            where
              by : (b : Bool) → b ≡ true → 1 ≤ one_if b
              by true e = omega arith
              by false e = cc

      each : (q c : ℕ) → IsIn (children_at s q) c → bound c ≤ one k (world_at s (take q senses) q) s (F q) (F q c) (runs_initialiser (world_at s (take q senses) q) s (F q) c)
      each q c at = by (found c) refl
        where
          by : (b : Bool) → found c ≡ b → one_if b ≤ one k (world_at s (take q senses) q) s (F q) (F q c) (runs_initialiser (world_at s (take q senses) q) s (F q) c)
          by false h = omega arith
          by true h =
              let x = stays_so c h in
              let same : x.above ≡ q = some_same (sym x.parent ∙ parent_at q c at) in
              let off : runs_initialiser (world_at s (take q senses) q) s (F q) c ≡ false = subst (λ (z : ℕ). runs_initialiser (world_at s (take z senses) z) s (sense_in (take z senses)) c ≡ false) same x.stays in
              let has = one_has k (world_at s (take q senses) q) s (F q) (F q c) x.core x.length_given (runs_initialiser (world_at s (take q senses) q) s (F q) c) (before q c at ∙ x.sensed) off in
              let some = counted x.core x.paths x.kind in
              omega (arith, has, some)

      no_rest : (q : ℕ) → is_a s p_rest q ≡ false → total bound (children_at s q) ≤ 0
      no_rest q off = none_in bound (children_at s q) (λ c at. by c at (found c) refl)
        where
          by : (c : ℕ) → IsIn (children_at s q) c → (b : Bool) → found c ≡ b → one_if b ≤ 0
          by c at false h = omega arith
          by c at true h =
              let x = stays_so c h in
              let same : x.above ≡ q = some_same (sym x.parent ∙ parent_at q c at) in
              absurd (no_both (is_a s p_rest q) (subst (λ (z : ℕ). is_a s p_rest z ≡ true) same x.rest) off)

      rest_is : (q : ℕ) → is_a s p_rest q ≡ true → D q ≡ stays n (world_at s (take q senses) q) s (F q) (children_at s q)
      rest_is q is = pick_rest (is_a s p_init q) (is_a s p_items q) (is_a s p_rest q) _ _ _ (apart s q p_rest p_init is refl) (apart s q p_rest p_items is refl) is

      all_less : (q : ℕ) → total bound (children_at s q) ≤ D q
      all_less q = by (is_a s p_rest q) refl
        where
          by : (b : Bool) → is_a s p_rest q ≡ b → total bound (children_at s q) ≤ D q
          by false off = let none = no_rest q off in omega (arith, none)
          by true is = let h = each_stays k (world_at s (take q senses) q) s (F q) bound (children_at s q) (each q) in let same = rest_is q is in omega (arith, h, same)

      -- ---- a node inside a root
      module _ (x : ℕ) (node : Node) (paths : List Path) (at : slice_get u.nodes.items x ≡ Some node) (is : node.kind ≡ Initialise e paths) (r i : ℕ) (c own : Core)
          (a : Top tokens unit tree tag_number senses cut read are whole m u raised r i c) (inside : Found n m u r c x own) (differ : x ≡ r → ⊥)
        where
          there : 1 ≤ count_in n c
          there =
              let h = one_found n m u node a.stands inside at (marked tokens unit tree tag_number senses cut read are whole m u raised k e number node paths is) in
              let same = whole_in k c in
              omega (arith, h, same)

          two : (others : List Path) → kind_of c ≡ Initialise k others → 2 ≤ count_in n c
          two others kind =
              let (root, more, root_at, root_is) = stands_initialises m u r k e c others a.stands kind number in
              let h = two_found n m u node root a.stands inside top at root_at (marked tokens unit tree tag_number senses cut read are whole m u raised k e number node paths is)
              (marked tokens unit tree tag_number senses cut read are whole m u raised k e number root more root_is) differ in
              let same = whole_in k c in
              omega (arith, h, same)

          strict : BlockAt tokens unit tree tag_number senses cut read are whole a.d i c ⊎ StaysAt tokens unit tree tag_number senses cut read are whole a.d i c → total bound (children_at s i) + 1 ≤ D i
          strict (inl b) =
              let none = no_rest i (apart s i p_external p_rest b.block.external refl) in
              let own = root_counts tokens unit tree tag_number senses cut read are whole k i c (inl b.block) in
              let some = there in
              omega (arith, none, own, some)
          strict (inr b) =
              let same = rest_is i b.stays.rest in
              let init = b.stays.init in
              let has = one_has k (world_at s (take i senses) i) s (F i) (F i init) c b.stays.length_given (runs_initialiser (world_at s (take i senses) i) s (F i) init) (before i init b.stays.inside ∙ b.stays.is) b.stays.off in
              let more = more_stays k (world_at s (take i senses) i) s (F i) bound (children_at s i) b.stays.inside.0 init (each i) b.stays.inside.1 (by init b.stays.is has (found init) refl) in
              omega (arith, same, more)
            where
              by : (init : ℕ) {l : Option ℕ} → sense init ≡ IsInitial c l → count_in n c ≤ one k (world_at s (take i senses) i) s (F i) (F i init) (runs_initialiser (world_at s (take i senses) i) s (F i) init) → (t : Bool) → found init ≡ t
                  → one_if t + 1 ≤ one k (world_at s (take i senses) i) s (F i) (F i init) (runs_initialiser (world_at s (take i senses) i) s (F i) init)
              by init told_is has false h = let some = there in omega (arith, some, has)
              by init {l = l} told_is has true h =
                  let y = stays_so init h in
                  let both_are : IsInitial y.core y.length_given ≡ IsInitial c l = sym y.sensed ∙ told_is in
                  let core : y.core ≡ c = cc in
                  let twice = two y.paths (ap kind_of (sym core) ∙ y.kind) in
                  omega (arith, twice, has)

          pub never : ⊥
          never =
              let more = lists_more bound (children_at s) (length s.nodes) held D i all_less (top_within tokens unit tree tag_number senses cut read are whole m u raised k r i c a) (strict a.root) in
              let all = law in
              omega (arith, more, all)

      -- so it is its entity's body
      pub lasting_body : (x : ℕ) → Initialises (trees_of u) x e → IsBodyOf u x e
      lasting_body x h = by (nat_eq x a.r) refl
        where
          found_node : (node : Node) × (paths : List Path) × (slice_get u.nodes.items x ≡ Some node) × (node.kind ≡ Initialise e paths)
          found_node = node_initialises (slice_get u.nodes.items x) e h

          a : Rooted tokens unit tree tag_number senses cut read are whole m u raised k x
          a = rooted tokens unit tree tag_number senses cut read are whole m u raised k x (slice_get_within u.nodes.items x found_node.0 found_node.2)

          root : x ≡ a.r → BlockAt tokens unit tree tag_number senses cut read are whole a.is.d a.i a.c ⊎ StaysAt tokens unit tree tag_number senses cut read are whole a.is.d a.i a.c → IsBodyOf u x e
          root same (inl b) = absurd (block_apart tokens unit tree tag_number senses cut read are whole m u raised a.i x e a.c found_node.1 found_node.0 b.block (subst (λ (z : ℕ). StandsBy m u z a.c) (sym same) a.is.stands) found_node.2 found_node.3)
          root same (inr b) =
              let (others, kind) = leaf_of tokens unit tree tag_number senses cut read are whole m u raised x e k a.c found_node.0 found_node.1 (subst (λ (z : ℕ). StandsBy m u z a.c) (sym same) a.is.stands) found_node.2 found_node.3 number in
              let leaf : k ≡ a.is.d = same_leaf (sym kind ∙ b.kind) in
              let entity : a.is.e ≡ e = some_one (sym a.is.number ∙ (ap m (sym leaf) ∙ number)) in
              (a.is.entity, ap (entity_at (trees_of u)) (sym entity) ∙ a.is.there, a.is.own ∙ ap (λ (z : ℕ). Some z) (sym same))

          by : (t : Bool) → nat_eq x a.r ≡ t → IsBodyOf u x e
          by true same = root (eqb-true x a.r same) a.is.root
          by false other = absurd (never x found_node.0 found_node.1 found_node.2 found_node.3 a.r a.i a.c a.own a.is a.found (eqb-false x a.r other))

pub names_initialise : NamesInitialise
names_initialise tokens unit tree tag_number senses cut read are whole m u raised i e d what h number named = by what.storage refl
  where
    by : (x : Storage) → what.storage ≡ x → IsBodyOf u i e
    by Automatic is = automatic_body tokens unit tree tag_number senses cut read are whole m u raised i e d what h number named is
    by Static is = lasting_body tokens unit tree tag_number senses cut read are whole m u raised d e what named (λ auto. (let both_are : Static ≡ Automatic = sym is ∙ auto in cc)) number i h
    by FunctionBody is = lasting_body tokens unit tree tag_number senses cut read are whole m u raised d e what named (λ auto. (let both_are : FunctionBody ≡ Automatic = sym is ∙ auto in cc)) number i h
    by Parameter is = lasting_body tokens unit tree tag_number senses cut read are whole m u raised d e what named (λ auto. (let both_are : Parameter ≡ Automatic = sym is ∙ auto in cc)) number i h
    by DeclaredStorage is = lasting_body tokens unit tree tag_number senses cut read are whole m u raised d e what named (λ auto. (let both_are : DeclaredStorage ≡ Automatic = sym is ∙ auto in cc)) number i h
