-- What initialises a name with linkage in a body initialises an entity that is declared.
use Rattle.std.proofs.Common.{arith, ◌≡◌, ◌≤◌, ◌<◌, ◌+◌, ◌==◌, ℕ, zero, suc, nat_eq, eq-eqb, ◌&&◌, Bool, true, false, List, Option, Some, None, length, refl, sym, ap, ◌∙◌, subst}
use Rattle.std.specs.Prelude.{if◌then◌else◌}
use Rattle.std.proofs.lemmas.Bool.{eqb-true}
use Rattle.c_lexer.specs.declared.Tokens.{Tokens}
use Rattle.c_lexer.specs.Cut.{IsTokens}
use Rattle.c_grammar.specs.declared.trees.Tree.{Tree}
use Rattle.c_grammar.specs.Productions.{p_init}
use Rattle.c_parser.specs.c_units.Units.{IsUnit}
use Rattle.core_tree.specs.declared.node.NodeKind.{NodeKind}
use Rattle.core_tree.specs.declared.node.NodeKind.TheVariants.{Initialise}
use Rattle.c_consts.specs.Core.{Core, Cores, Of, NoCores, MoreCores, kind_of, cores_under, core_in}
use Rattle.c_inits.specs.Shapes.{Path}
use Rattle.c_senses.specs.Names.{source_of, numbered, ordinary_at}
use Rattle.c_senses.specs.Tree.{Source, is_a, is_name}
use Rattle.c_senses.specs.Sense.{Sense, IsDeclarator, Derivation, sense_in}
use Rattle.c_senses.specs.Rows.{AreSenses}
use Rattle.c_senses.specs.Entities.{initialised_by, entity_of, is_linked, is_internal, internal_among, first_of}
use Rattle.c_senses.specs.Initialised.{name_of_declarator, opening}
use Rattle.c_senses.specs.Right.{Within, Itself, Below}
use Rattle.parsed_tree_laws.proofs.family_laws.Reading.{units_families}
use Rattle.parsed_tree_laws.proofs.span_laws.Whole.{units_are_spanned}
use Rattle.core_node_laws.specs.count_laws.count_rows.Counts.{own_weight, unless_left_out, count_in, count_under}
use Rattle.core_node_laws.specs.count_laws.Counting.{sum_below, seen_at, world_of, Makes}
use Rattle.core_node_laws.proofs.count_laws.Main.{counting}
use Rattle.valid_unit_laws.specs.object_initialiser_laws.once_initialised.Once.{initialises}
use Rattle.valid_unit_laws.proofs.object_initialiser_laws.once_initialised.Whole.{opening_differs}
use Rattle.declaration_laws.proofs.function_laws.passed.definition_laws.single_initialisers.Apart.{stands_outermost}
use Rattle.parsed_tree_laws.proofs.sign_parts.Reading as signs
use Rattle.parsed_tree_laws.proofs.grown_parts.Reading.{units_bring}
use Rattle.declaration_laws.proofs.declared_type_laws.declared_leaves.Climbing.{leaves_declared}
use Rattle.declaration_laws.proofs.declared_type_laws.known_entities.Known.{entities_known}
use Rattle.declaration_laws.proofs.function_laws.passed.definition_laws.linkage_laws.Seen.{no_both, node_within}
use Rattle.declaration_laws.proofs.function_laws.passed.definition_laws.linkage_laws.Linked as linked
use Rattle.declaration_laws.proofs.function_laws.passed.definition_laws.linkage_laws.Reading.{tree_is}
use Rattle.valid_unit_laws.specs.body_node_laws.parts_named.Named.{IsDeclared}
use Rattle.valid_unit_laws.proofs.body_node_laws.parts_named.Owners.{both}
use Rattle.valid_unit_laws.proofs.body_node_laws.parts_named.Roots.{name_in, seen_declarator, IsRoot, root_sum}
use Rattle.valid_unit_laws.proofs.body_node_laws.parts_named.Linked.{entity_declared}

-- ---- in trees

module _ (d : ℕ) where
  kept : (kind : NodeKind) (k : ℕ) → unless_left_out (initialises d) kind k ≡ k
  kept (Initialise e paths) k = refl
  kept kind k = refl

  one_of : (c : Core) (paths : List Path) → kind_of c ≡ Initialise d paths → 1 ≤ count_in (initialises d) c
  one_of (Of kind place type under) paths is =
      let w = weighs (d == d) (eq-eqb d d refl) in
      let h : own_weight (initialises d) kind place ≡ (if d == d then 1 else 0) = ap (λ (k : NodeKind). own_weight (initialises d) k place) is in
      let k = kept kind (own_weight (initialises d) kind place + count_under (initialises d) under) in
      omega (arith, w, h, k)
    where
      weighs : (b : Bool) → b ≡ true → 1 ≤ (if b then 1 else 0)
      weighs true e = omega arith
      weighs false e = cc

  part_of : (cs : Cores) (k : ℕ) (part : Core) → core_in cs k ≡ Some part → count_in (initialises d) part ≤ count_under (initialises d) cs
  part_of NoCores k part e = cc
  part_of (MoreCores c rest) zero part e = let same : c ≡ part = cc in let own : count_in (initialises d) c ≡ count_in (initialises d) part = ap (count_in (initialises d)) same in omega (arith, own)
  part_of (MoreCores c rest) (suc k) part e = let h = part_of rest k part e in omega (arith, h)

  under_of : (c : Core) → count_under (initialises d) (cores_under c) ≤ count_in (initialises d) c
  under_of (Of kind place type under) = let k = kept kind (own_weight (initialises d) kind place + count_under (initialises d) under) in omega (arith, k)

  within_of : (s : Source) (senses : List Sense) {c top : Core} → Within s senses c top → count_in (initialises d) c ≤ count_in (initialises d) top
  within_of s senses Itself = omega arith
  within_of s senses {top = top} (Below {part = part} p inside) =
      let h = within_of s senses inside in
      let k = part_of (cores_under top) p.0 part p.1 in
      let own = under_of top in
      omega (arith, h, k, own)

-- a sum that isn't zero
some_counts : (f : ℕ → ℕ) (k : ℕ) → 1 ≤ sum_below f k → (i : ℕ) × (i < k) × (1 ≤ f i)
some_counts f zero h = absurd (omega (arith, h))
some_counts f (suc k) h = by (nat_eq (f k) 0) refl (some_counts f k)
  where
    by : (b : Bool) → nat_eq (f k) 0 ≡ b → (1 ≤ sum_below f k → (i : ℕ) × (i < k) × (1 ≤ f i)) → (i : ℕ) × (i < suc k) × (1 ≤ f i)
    by true e later = let none = eqb-true (f k) 0 e in let (i, lt, one) = later (omega (arith, h, none)) in (i, omega (arith, lt), one)
    by false e later = (k, omega arith, positive (f k) e)
      where
        positive : (x : ℕ) → nat_eq x 0 ≡ false → 1 ≤ x
        positive zero e = cc
        positive (suc x) e = omega arith

abbrev one_if : Bool → ℕ
one_if b = if b then 1 else 0

is_one : (b : Bool) → 1 ≤ one_if b → b ≡ true
is_one true h = refl
is_one false h = absurd (omega (arith, h))

less_if : (a b : Bool) → (a ≡ true → b ≡ true) → one_if a ≤ one_if b
less_if true b h = by b (h refl)
  where
    by : (b : Bool) → b ≡ true → 1 ≤ one_if b
    by true e = omega arith
    by false e = cc
less_if false b h = omega arith

both_true : (a b : Bool) → a ≡ true → b ≡ true → (a && b) ≡ true
both_true true b h k = k
both_true false b h k = cc

module _ (s : Source) (senses : List Sense) (d : ℕ) where
  abbrev F : ℕ → ℕ → Sense
  F i = seen_at (initialises d) s senses i

  -- an initialiser of the entity
  abbrev named_so : ℕ → Option ℕ → Bool
  named_so i None = false
  named_so i (Some l) = entity_of s (F i) l == d

  abbrev declared_so : ℕ → Option ℕ → Bool
  declared_so i None = false
  declared_so i (Some m) = named_so i (name_of_declarator (world_of (initialises d) s senses i) s (F i) (F i m))

  abbrev found : ℕ → Bool
  found i = is_a s p_init i && declared_so i (initialised_by s (F i) i)

  record Found (i : ℕ) : Type 0 where
    declarator : ℕ
    leaf_of : ℕ
    is : is_a s p_init i ≡ true
    by_it : initialised_by s (F i) i ≡ Some declarator
    named : name_in (F i declarator) ≡ Some leaf_of
    entity : entity_of s (F i) leaf_of ≡ d

  same_name : (i : ℕ) (x : Sense) → name_of_declarator (world_of (initialises d) s senses i) s (F i) x ≡ name_in x
  same_name i (IsDeclarator name ds) = refl
  same_name i x = refl

  found_one : (i : ℕ) → found i ≡ true → Found i
  found_one i h = let parts = both (is_a s p_init i) (declared_so i (initialised_by s (F i) i)) h in by parts.0 (initialised_by s (F i) i) refl parts.1
    where
      by_name : is_a s p_init i ≡ true → (m : ℕ) → initialised_by s (F i) i ≡ Some m → (o : Option ℕ) → name_of_declarator (world_of (initialises d) s senses i) s (F i) (F i m) ≡ o → named_so i o ≡ true → Found i
      by_name is m at None e g = cc
      by_name is m at (Some l) e g = record { declarator = m; leaf_of = l; is = is; by_it = at; named = sym (same_name i (F i m)) ∙ e; entity = eqb-true (entity_of s (F i) l) d g }

      by : is_a s p_init i ≡ true → (o : Option ℕ) → initialised_by s (F i) i ≡ o → declared_so i o ≡ true → Found i
      by is None e g = cc
      by is (Some m) e g = by_name is m e (name_of_declarator (world_of (initialises d) s senses i) s (F i) (F i m)) refl g

  found_is : (i m l : ℕ) → is_a s p_init i ≡ true → initialised_by s (F i) i ≡ Some m → name_of_declarator (world_of (initialises d) s senses i) s (F i) (F i m) ≡ Some l → (entity_of s (F i) l == d) ≡ true → found i ≡ true
  found_is i m l is by_it named e =
      both_true (is_a s p_init i) (declared_so i (initialised_by s (F i) i)) is (ap (declared_so i) by_it ∙ (ap (named_so i) named ∙ e))

  made : is_name s d ≡ true → Makes (initialises d) s senses (λ i. one_if (found i))
  made name = record {
    texts = λ i first rest bytes is e there. omega arith;
    calls = λ i first rest is e there. omega arith;
    objects = λ i declarator l paths is by_it named. less_if (entity_of s (F i) l == d) (found i) (λ e. found_is i declarator l is by_it named e);
    literals = λ i p paths is parent kind typed. let none = none_of (opening (world_of (initialises d) s senses i) s (F i) p == d) (opening_differs s d name p kind) in omega (arith, none);
    blocks = λ i is. omega arith;
    loops = λ i word parenthesis rest c a is e. omega arith;
  }
    where
      none_of : (b : Bool) → b ≡ false → one_if b ≤ 0
      none_of true e = cc
      none_of false e = omega arith

module _ (tokens : Tokens) (unit : ℕ) (tree : Tree) (tag_number : ℕ → ℕ) (senses : List Sense) (cut : IsTokens tokens.text.now tokens.list.items) (read : IsUnit tokens unit tree)
    (are : AreSenses (numbered tag_number (source_of tokens tree)) senses) (whole : length senses ≡ length (numbered tag_number (source_of tokens tree)).nodes)
  where
    abbrev src : Source
    src = numbered tag_number (source_of tokens tree)

    abbrev t : linked.Tree src
    t = tree_is tokens unit tree read tag_number

    -- the name of the declarator whose initialiser it is
    of_found : (d i : ℕ) → is_linked src (sense_in senses) d ≡ true → Found src senses d i → IsDeclared src senses d
    of_found d i is f = by (is_linked src (sense_in senses) f.leaf_of) refl
      where
        seen : (ds : List Derivation) × (sense_in senses f.declarator ≡ IsDeclarator (Some f.leaf_of) ds) × (f.declarator < i)
        seen = seen_declarator tokens unit tree tag_number senses cut read are whole i f.declarator f.leaf_of f.named

        few : f.declarator < length senses
        few = let inside = node_within src p_init i f.is refl in let lt = seen.2 in omega (arith, inside, lt, whole)

        entity : entity_of src (sense_in senses) f.leaf_of ≡ d
        entity =
            let outer = stands_outermost src t (units_families tokens unit tree tag_number cut read) (signs.units_bring tokens unit tree tag_number read) (F src senses d i) i f.declarator f.is f.by_it in
            let told = leaves_declared.by_sense src senses are t.grown (units_bring tokens unit tree tag_number read) f.declarator f.leaf_of seen.0 few outer seen.1 in
            let lt = seen.2 in
            sym (entities_known tokens unit tree tag_number senses cut read f.leaf_of f.declarator i told.outermost (omega (arith, lt))).entity ∙ f.entity

        by : (b : Bool) → is_linked src (sense_in senses) f.leaf_of ≡ b → IsDeclared src senses d
        by true e = subst (IsDeclared src senses) entity (entity_declared tokens unit tree tag_number senses cut read are whole f.leaf_of e)
        by false e =
            absurd (no_both (is_linked src (sense_in senses) d) is (subst (λ (k : ℕ). is_linked src (sense_in senses) k ≡ false) (sym (own f.leaf_of e) ∙ entity) e))
          where
            own : (l : ℕ) → is_linked src (sense_in senses) l ≡ false → entity_of src (sense_in senses) l ≡ l
            own l off = pick (is_internal src (sense_in senses) l) refl
              where
                pick : (b : Bool) → is_internal src (sense_in senses) l ≡ b → entity_of src (sense_in senses) l ≡ l
                pick true on = absurd (no_both (is_linked src (sense_in senses) l) (both (is_linked src (sense_in senses) l) _ on).0 off)
                pick false on = ap (λ (a : Bool). if a then first_of src (sense_in senses) l (internal_among src (sense_in senses) src.declared.ordinary (ordinary_at src l)) else l) on

    pub initials_declared : (d key : ℕ) (c top : Core) (paths : List Path) → is_linked src (sense_in senses) d ≡ true → is_name src d ≡ true → kind_of c ≡ Initialise d paths → Within src senses c top → IsRoot tokens unit tree tag_number senses cut read are whole key top
        → IsDeclared src senses d
    initials_declared d key c top paths is name kind inside root =
        let one = one_of d c paths kind in
        let more = within_of d src senses inside in
        let sum = root_sum tokens unit tree tag_number senses cut read are whole (initialises d) key top root in
        let law = counting (initialises d) src senses (λ i. one_if (found src senses d i)) (units_are_spanned tokens unit tree tag_number read) (units_families tokens unit tree tag_number cut read) are whole (made src senses d name) in
        let (i, lt, counts) = some_counts (λ i. one_if (found src senses d i)) (length src.nodes) (omega (arith, one, more, sum, law)) in
        of_found d i is (found_one src senses d i (is_one (found src senses d i) counts))
