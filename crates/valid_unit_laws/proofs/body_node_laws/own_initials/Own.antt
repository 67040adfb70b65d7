-- What initialises an automatic object is the object's own body, which stands in a function's.
use Rattle.std.proofs.Common.{arith, ◌≡◌, ◌<◌, ◌≤◌, ℕ, zero, suc, nat_eq, Bool, true, false, List, Option, Some, None, length, refl, sym, ap, ◌∙◌, subst, inl}
use Rattle.std.specs.Prelude.{◌==◌, option_and_then, if◌then◌else◌}
use Rattle.std.proofs.lemmas.Bool.{eqb-true, eqb-false}
use Rattle.c_lexer.specs.declared.Tokens.{Tokens}
use Rattle.c_lexer.specs.Cut.{IsTokens}
use Rattle.c_grammar.specs.declared.trees.Tree.{Tree}
use Rattle.c_grammar.specs.Productions.{p_init}
use Rattle.c_parser.specs.c_units.Units.{IsUnit}
use Rattle.c_consts.specs.Core.{Core}
use Rattle.c_senses.specs.Names.{source_of, numbered}
use Rattle.c_senses.specs.Tree.{Source, is_a, parent_of}
use Rattle.c_senses.specs.Sense.{Sense, IsDeclarator, sense_in}
use Rattle.c_senses.specs.Rows.{AreSenses}
use Rattle.c_senses.specs.Declarators.{declaration_around, outermost_of}
use Rattle.c_senses.specs.Entities.{entity_of, initialiser_of, initialiser_for, initialised_by}
use Rattle.c_senses.specs.Initialised.{name_of_declarator, opening}
use Rattle.c_senses.specs.Right.{Declared, core_of_sense, Within}
use Rattle.parsed_tree_laws.proofs.family_laws.Reading.{units_families}
use Rattle.parsed_tree_laws.proofs.span_laws.Whole.{units_are_spanned}
use Rattle.parsed_tree_laws.proofs.grown_parts.Reading.{units_bring}
use Rattle.parsed_tree_laws.proofs.sign_parts.Reading as signs
use Rattle.declaration_laws.proofs.declared_type_laws.declared_leaves.Climbing.{leaves_declared}
use Rattle.declaration_laws.proofs.function_laws.passed.definition_laws.linkage_laws.Seen.{none_some}
use Rattle.declaration_laws.proofs.function_laws.passed.definition_laws.linkage_laws.Linked as linked
use Rattle.declaration_laws.proofs.function_laws.passed.definition_laws.linkage_laws.Reading.{tree_is}
use Rattle.declaration_laws.proofs.function_laws.passed.definition_laws.own_initialisers.Standing.{initialisers_stand}
use Rattle.declaration_laws.proofs.function_laws.passed.definition_laws.single_initialisers.Apart.{stands_outermost}
use Rattle.core_node_laws.specs.count_laws.Counting.{sum_below, bodies, seen_at, world_of, Makes}
use Rattle.core_node_laws.proofs.count_laws.Main.{counting}
use Rattle.valid_unit_laws.specs.object_initialiser_laws.once_initialised.Once.{initialises}
use Rattle.valid_unit_laws.proofs.object_initialiser_laws.once_initialised.Whole.{initialised_once}
use Rattle.valid_unit_laws.specs.body_node_laws.own_initials.Own.{InitialisesOwn, UnitsInitialiseOwn}
use Rattle.valid_unit_laws.proofs.body_node_laws.own_initials.Trees.{Marks, stands, within, further, one_in, same_in}
use Rattle.valid_unit_laws.proofs.body_node_laws.own_initials.Names.{opening_differs, own_name}
use Rattle.valid_unit_laws.proofs.body_node_laws.own_initials.Rests.{name_in, seen_later, place_of, stands_in_rest}
use Rattle.valid_unit_laws.proofs.body_node_laws.own_initials.Automatic.{IsAutomatic, automatic, OwnBody, initialised, body_of, body_stands}
use Rattle.valid_unit_laws.proofs.body_node_laws.own_initials.Functions.{function_of}
use Rattle.valid_unit_laws.proofs.body_node_laws.own_initials.Roots.{IsRoot, one_below, two_below, root_counts, root_within, same_root, Rooted, InBlock, in_block, body_rooted}

zero_sum : (k : ℕ) → sum_below (λ i. 0) k ≤ 0
zero_sum zero = omega arith
zero_sum (suc k) = let h = zero_sum k in omega (arith, h)

none_if : (b : Bool) → (b ≡ true → ⊥) → (if b then 1 else 0) ≤ 0
none_if true h = absurd (h refl)
none_if false h = omega arith

module _ (tokens : Tokens) (unit : ℕ) (tree : Tree) (tag_number : ℕ → ℕ) (senses : List Sense) (cut : IsTokens tokens.text.now tokens.list.items) (read : IsUnit tokens unit tree)
    (are : AreSenses (numbered tag_number (source_of tokens tree)) senses) (whole : length senses ≡ length (numbered tag_number (source_of tokens tree)).nodes)
  where
    abbrev s : Source
    s = numbered tag_number (source_of tokens tree)

    abbrev sense : ℕ → Sense
    sense i = sense_in senses i

    abbrev t : linked.Tree s
    t = tree_is tokens unit tree read tag_number

    module _ (leaf : ℕ) (object : Declared) (a : IsAutomatic tokens unit tree tag_number senses cut read are whole leaf object) where
      abbrev D : ℕ → ℕ
      D = bodies (initialises leaf) s senses

      abbrev F : ℕ → ℕ → Sense
      F i = seen_at (initialises leaf) s senses i

      same_name : (i : ℕ) (x : Sense) → name_of_declarator (world_of (initialises leaf) s senses i) s (F i) x ≡ name_in x
      same_name i (IsDeclarator name ds) = refl
      same_name i x = refl

      -- a row that makes an initialiser of the object is that of the initialiser of its name
      made_by : (i m l : ℕ) → is_a s p_init i ≡ true → initialised_by s (F i) i ≡ Some m → name_in (F i m) ≡ Some l → entity_of s (F i) l ≡ leaf → initialiser_for s sense leaf ≡ Some i
      made_by i m l is by_it named entity =
          let same = own_name s (F i) leaf a.unlinked l entity in
          let (ds, told, lt) = seen_later senses i m l named in
          let outer = stands_outermost s t (units_families tokens unit tree tag_number cut read) (signs.units_bring tokens unit tree tag_number read) (F i) i m is by_it in
          let by_sense = leaves_declared.by_sense s senses are t.grown (units_bring tokens unit tree tag_number read) m l ds lt outer told in
          let outermost : outermost_of s leaf ≡ Some m = ap (outermost_of s) (sym same) ∙ by_sense.outermost in
          let around : option_and_then (declaration_around s) (parent_of s m) ≡ Some a.declaration = sym (ap (λ (o : Option ℕ). option_and_then (declaration_around s) (option_and_then (parent_of s) o)) outermost) ∙ a.declared in
          let place = place_of s t (F i) i m by_it in
          let rest = stands_in_rest s t (F i) i m (signs.units_bring tokens unit tree tag_number read) place.0 a.declaration is place.1 place.2 around a.is_declaration in
          ap (option_and_then (initialiser_of s sense)) outermost ∙ initialisers_stand tokens unit tree tag_number cut read (F i) sense i place.0 m is place.1 rest by_it

      -- without one there is no initialiser of the object
      module _ (none : initialiser_for s sense leaf ≡ None) where
        made : Makes (initialises leaf) s senses (λ i. 0)
        made = record {
          texts = λ i first rest bytes is e there. omega arith;
          calls = λ i first rest is e there. omega arith;
          objects = λ i declarator l paths is by_it named.
              none_if (entity_of s (F i) l == leaf) (λ e. none_some (sym none ∙ made_by i declarator l is by_it (sym (same_name i (F i declarator)) ∙ named) (eqb-true (entity_of s (F i) l) leaf e)));
          literals = λ i p paths is parent kind typed. let no = none_of (opening (world_of (initialises leaf) s senses i) s (F i) p == leaf) (opening_differs s leaf a.name p kind) in omega (arith, no);
          blocks = λ i is. omega arith;
          loops = λ i word parenthesis rest c b is e. omega arith;
        }
          where
            none_of : (b : Bool) → b ≡ false → (if b then 1 else 0) ≤ 0
            none_of true e = cc
            none_of false e = omega arith

        no_bodies : sum_below D (length s.nodes) ≤ 0
        no_bodies =
            let law = counting (initialises leaf) s senses (λ i. 0) (units_are_spanned tokens unit tree tag_number read) (units_families tokens unit tree tag_number cut read) are whole made in
            let none_there = zero_sum (length s.nodes) in
            omega (arith, law, none_there)

      few : sum_below D (length s.nodes) ≤ 1
      few = initialised_once tokens unit tree tag_number senses cut read are whole leaf a.name a.unlinked

      module _ (x : Core) (marks : Marks leaf x) (r : Rooted tokens unit tree tag_number senses cut read are whole x) where
        counts : 1 ≤ D r.node
        counts =
            let one = one_in leaf x r.core marks (stands s senses r.inside) in
            let root = root_counts tokens unit tree tag_number senses cut read are whole leaf r.node r.core r.root in
            omega (arith, one, root)

        lt : r.node < length s.nodes
        lt = root_within tokens unit tree tag_number senses cut read are whole r.node r.core r.root

        no_none : initialiser_for s sense leaf ≡ None → ⊥
        no_none none = let own = counts in let one = one_below D (length s.nodes) r.node lt in let all = no_bodies none in absurd (omega (arith, own, one, all))

        -- what stands in a body and initialises the object is what initialises it in a function's block
        same_body : (y : Core) → Marks leaf y → InBlock tokens unit tree tag_number senses cut read are whole y → x ≡ y
        same_body y other b = by (nat_eq b.node r.node) refl
          where
            by : (e : Bool) → nat_eq b.node r.node ≡ e → x ≡ y
            by true e =
                let one : b.node ≡ r.node = eqb-true b.node r.node e in
                let same = same_root tokens unit tree tag_number senses cut read are whole b.node b.core r.core b.root (subst (λ (k : ℕ). IsRoot tokens unit tree tag_number senses cut read are whole k r.core) (sym one) r.root) in
                let root = root_counts tokens unit tree tag_number senses cut read are whole leaf r.node r.core r.root in
                let below = one_below D (length s.nodes) r.node lt in
                let all = few in
                same_in leaf x y r.core marks other (stands s senses r.inside) (stands s senses (subst (λ (c : Core). Within s senses y c) same b.inside)) (omega (arith, root, below, all))
            by false e =
                let own = counts in
                let one = one_in leaf y b.core other (stands s senses b.inside) in
                let root = root_counts tokens unit tree tag_number senses cut read are whole leaf b.node b.core (inl b.root) in
                let two = two_below D (length s.nodes) b.node r.node (root_within tokens unit tree tag_number senses cut read are whole b.node b.core (inl b.root)) lt (eqb-false b.node r.node e) in
                let all = few in
                absurd (omega (arith, own, one, root, two, all))

        own : object.body ≡ Some x
        own = by (initialiser_for s sense leaf) refl
          where
            by : (o : Option ℕ) → initialiser_for s sense leaf ≡ o → object.body ≡ Some x
            by None found = absurd (no_none found)
            by (Some init) found = of_own (initialised tokens unit tree tag_number senses cut read are whole leaf init object a found)
              where
                of_own : (y : Core) × OwnBody tokens unit tree tag_number senses cut read are whole leaf y → object.body ≡ Some x
                of_own (y, o) =
                    let block = in_block tokens unit tree tag_number senses cut read are whole y (body_stands tokens unit tree tag_number senses cut read are whole leaf object y a o) in
                    a.body ∙ (ap (option_and_then (λ i. core_of_sense s senses (sense i))) o.found ∙ (ap (core_of_sense s senses) o.is ∙ ap (λ (c : Core). Some c) (sym (same_body y o.marks block))))

    owns : InitialisesOwn s senses
    owns = record {
      own = λ d leaf what object c x paths told body inside kind named auto.
          let a = automatic tokens unit tree tag_number senses cut read are whole leaf object named auto in
          let r = body_rooted tokens unit tree tag_number senses cut read are whole d what c told body in
          own leaf object a x (paths, kind) (record { node = r.node; core = r.core; root = r.root; inside = further s senses inside r.inside });
      initialises = λ leaf object x named auto body.
          let a = automatic tokens unit tree tag_number senses cut read are whole leaf object named auto in
          (body_of tokens unit tree tag_number senses cut read are whole leaf object x a body).marks;
      stands = λ leaf object x named auto body.
          let a = automatic tokens unit tree tag_number senses cut read are whole leaf object named auto in
          let f = body_stands tokens unit tree tag_number senses cut read are whole leaf object x a (body_of tokens unit tree tag_number senses cut read are whole leaf object x a body) in
          let g = function_of tokens unit tree tag_number senses cut read are whole f.definition f.own.block f.own.core f.is f.own.part f.own.is_block f.own.sensed in
          record { function = g.function; what = g.what; block = f.own.core; declares = g.declares; storage = g.storage; body = g.body; within = within s senses x f.own.core f.own.stands };
    }

pub units_initialise_own : UnitsInitialiseOwn
units_initialise_own tokens unit tree tag_number senses cut read are whole = owns tokens unit tree tag_number senses cut read are whole
