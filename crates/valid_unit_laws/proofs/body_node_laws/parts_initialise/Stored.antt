-- The bodies of names that are no automatic objects: a function's block, or an initialiser that doesn't run where it stands.
use Rattle.std.proofs.Common.{arith, ◌≡◌, ◌<◌, ℕ, zero, suc, not, ◌&&◌, ◌||◌, Bool, true, false, List, Option, Some, None, take, length, refl, sym, ap, ◌∙◌, subst, ◌⊎◌, inl, inr}
use Rattle.std.specs.Prelude.{is_none, option_and_then, option_map, if◌then◌else◌}
use Rattle.std.proofs.lemmas.Bool.{eqb-true}
use Rattle.c_lexer.specs.declared.Tokens.{Tokens}
use Rattle.c_lexer.specs.Cut.{IsTokens}
use Rattle.c_grammar.specs.declared.trees.Tree.{Tree}
use Rattle.c_grammar.specs.Terminals.{contains}
use Rattle.c_grammar.specs.Words.{word_extern, word_static}
use Rattle.c_parser.specs.c_units.Units.{IsUnit}
use Rattle.c_types.specs.Trees.{Ctype}
use Rattle.core_tree.specs.declared.node.NodeKind.TheVariants.{Initialise}
use Rattle.core_tree.specs.declared.node.Linkage.{Linkage}
use Rattle.core_tree.specs.declared.node.Linkage.TheVariants.{External, Internal, Local}
use Rattle.core_tree.specs.declared.node.Storage.{Storage}
use Rattle.core_tree.specs.declared.node.Storage.TheVariants.{Static, Automatic, FunctionBody, Parameter, Declared}
use Rattle.c_consts.specs.Core.{Core, kind_of}
use Rattle.c_inits.specs.Shapes.{Path}
use Rattle.c_senses.specs.Names.{source_of, numbered}
use Rattle.c_senses.specs.Tree.{Source, is_name, children_at, parent_of, above_within}
use Rattle.c_senses.specs.World.{World, same_length}
use Rattle.c_senses.specs.Sense.{Sense, Nothing, IsDeclarator, IsInitial, IsSpecified, Specified, Derivation, sense_in}
use Rattle.c_senses.specs.Rows.{AreSenses, world_at}
use Rattle.c_senses.specs.Declarators.{is_outermost, outermost_of, specs_of}
use Rattle.c_senses.specs.Entities.{keep, first_of, is_typedef, is_defined, is_parameter, is_at_file, is_internal, is_linked, is_static_object, declares_function, specified, specified_of, has_storage, storage_of, linkage_of, entity_of, initialiser_for, initialised_by}
use Rattle.c_senses.specs.Statements.{is_automatic_object, runs_initialiser}
use Rattle.c_senses.specs.Right.{Declared as Declares, core_of_sense, block_for, of_internal, is_definition_at, is_tentative, representative, storage_at, declared_as, declared_name, declares_entity, is_declaring, stands_in_declaration, entity_type}
use Rattle.core_node_laws.proofs.count_laws.once_nodes.Rooted.{OfBlock, OfInitial, body_is, body_by, block_in}
use Rattle.core_node_laws.proofs.standing_laws.Climbing.{in_list}
use Rattle.declaration_laws.proofs.function_laws.passed.definition_laws.linkage_laws.Seen.{some_same, parent_holds}
use Rattle.declaration_laws.proofs.function_laws.passed.definition_laws.linkage_laws.Reading.{tree_is}
use Rattle.parsed_tree_laws.proofs.grown_parts.Reading.{units_bring}
use Rattle.declaration_laws.proofs.declared_type_laws.declared_leaves.Climbing.{leaves_declared}
use Rattle.core_node_laws.proofs.built_unit_laws.run_laws.Times.{known_at, known, told_before}
use Rattle.valid_unit_laws.proofs.object_initialiser_laws.passed.internal_name_laws.representative_names.Standing.{representatives_known}
use Rattle.valid_unit_laws.proofs.body_node_laws.own_initials.Names.{both}
use Rattle.valid_unit_laws.proofs.body_node_laws.own_initials.Rests.{name_in, seen_later}
use Rattle.valid_unit_laws.proofs.body_node_laws.own_initials.Automatic.{Initial, initial}
use Rattle.valid_unit_laws.proofs.body_node_laws.own_initials.Roots.{IsBlock, Stays}

-- what is found above passes
pub found_above : (s : Source) (test : ℕ → Bool) (fuel d : ℕ) (o : Option ℕ) → above_within s test fuel o ≡ Some d → test d ≡ true
found_above s test zero d o e = cc
found_above s test (suc fuel) d None e = cc
found_above s test (suc fuel) d (Some p) e = by (test p) refl e (λ f. found_above s test fuel d (parent_of s p) f)
  where
    by : (b : Bool) → test p ≡ b → (if b then Some p else above_within s test fuel (parent_of s p)) ≡ Some d → (above_within s test fuel (parent_of s p) ≡ Some d → test d ≡ true) → test d ≡ true
    by true is e later = ap test (sym (some_same e)) ∙ is
    by false is e later = later e

-- which name an initialiser that runs is of
pub runs_for : (w : World) (s : Source) (f : ℕ → Sense) (init m : ℕ) → initialised_by s f init ≡ Some m → runs_initialiser w s f init ≡ true → (l : ℕ) × (name_in (f m) ≡ Some l) × (is_automatic_object w s f l ≡ true)
runs_for w s f init m by_it runs =
    by (f m) (sym (ap (λ (o : Option ℕ). elim (option_and_then (λ d. elim (f d) as (λ _. Option ℕ) [ IsDeclarator name ds ↦ name | _ ↦ None ]) o) as (λ _. Bool) [ None ↦ false | Some leaf ↦ is_automatic_object w s f leaf ]) by_it) ∙ runs)
  where
    named : (o : Option ℕ) → (elim o as (λ _. Bool) [ None ↦ false | Some leaf ↦ is_automatic_object w s f leaf ]) ≡ true → (l : ℕ) × (o ≡ Some l) × (is_automatic_object w s f l ≡ true)
    named None e = cc
    named (Some l) e = (l, refl, e)

    by : (y : Sense) → (elim (elim y as (λ _. Option ℕ) [ IsDeclarator name ds ↦ name | _ ↦ None ]) as (λ _. Bool) [ None ↦ false | Some leaf ↦ is_automatic_object w s f leaf ]) ≡ true → (l : ℕ) × (name_in y ≡ Some l) × (is_automatic_object w s f l ≡ true)
    by (IsDeclarator name ds) e = named name e
    by y e = cc

-- the name in a declarator's sense is the one that it declares
pub same_leaf : (s : Source) (senses : List Sense) (d o leaf : ℕ) (ds : List Derivation) → is_declaring s senses d ≡ true → outermost_of s d ≡ Some o → sense_in senses o ≡ IsDeclarator (Some leaf) ds → leaf ≡ d
same_leaf s senses d o leaf ds declares outer named =
    let told : (elim (sense_in senses o) as (λ _. Bool) [ IsDeclarator n xs ↦ same_length n (Some d) | _ ↦ false ]) ≡ true =
    sym (ap (λ (x : Option ℕ). elim x as (λ _. Bool) [ None ↦ false | Some y ↦ elim (sense_in senses y) as (λ _. Bool) [ IsDeclarator n xs ↦ same_length n (Some d) | _ ↦ false ] ]) outer) ∙ (both (is_name s d) _ declares).1 in
    eqb-true leaf d (sym (ap (λ (x : Sense). elim x as (λ _. Bool) [ IsDeclarator n xs ↦ same_length n (Some d) | _ ↦ false ]) named) ∙ told)

storage_parts : (p f d e t : Bool) → (if p then Parameter else if f then (if d then FunctionBody else Declared) else if e then Declared else if t then Static else Automatic) ≡ Automatic → (p ≡ false) × (f ≡ false) × (t ≡ false)
storage_parts true f d e t h = cc
storage_parts false true true e t h = cc
storage_parts false true false e t h = cc
storage_parts false false d true t h = cc
storage_parts false false d false true h = cc
storage_parts false false d false false h = (refl, refl, refl)

storage_made : (p f d x i t : Bool) → p ≡ false → f ≡ false → x ≡ false → t ≡ false → (if p then Parameter else if f then (if d then FunctionBody else Declared) else if x && i then Declared else if t then Static else Automatic) ≡ Automatic
storage_made false false d false i false ep ef ex et = refl
storage_made true f d x i t ep ef ex et = cc
storage_made false true d x i t ep ef ex et = cc
storage_made false false d true i t ep ef ex et = cc
storage_made false false d false i true ep ef ex et = cc

none_of : (a b c : Bool) → (a || (b || c)) ≡ false → (a ≡ false) × (b ≡ false) × (c ≡ false)
none_of false false false e = (refl, refl, refl)
none_of true b c e = cc
none_of false true c e = cc
none_of false false true e = cc

all_off : (a b c : Bool) → a ≡ false → b ≡ false → c ≡ false → (a || (b || c)) ≡ false
all_off false false false x y z = refl
all_off true b c x y z = cc
all_off false true c x y z = cc
all_off false false true x y z = cc

automatic_storage : (x : Storage) → (elim x as (λ _. Bool) [ Automatic ↦ true | _ ↦ false ]) ≡ true → x ≡ Automatic
automatic_storage Automatic e = refl
automatic_storage x e = cc

internal_linkage : (i l : Bool) → (if i then Internal else (if l then External else Local)) ≡ Internal → i ≡ true
internal_linkage true l e = refl
internal_linkage false true e = cc
internal_linkage false false e = cc

module _ (s : Source) (senses : List Sense) where
  abbrev all : ℕ → Sense
  all = sense_in senses

  -- specifiers that are told at a node are the same from there on
  later_words : (o : Option ℕ) (m q : ℕ) (x : Specified) → m < q → specified s (known_at s senses m) o ≡ Some x → (specified s (known_at s senses q) o ≡ Some x) × (specified s all o ≡ Some x)
  later_words None m q x lt e = cc
  later_words (Some c) m q x lt e = by (known_at s senses m c) refl e
    where
      by : (y : Sense) → known_at s senses m c ≡ y → (elim y as (λ _. Option Specified) [ IsSpecified z ↦ Some z | _ ↦ None ]) ≡ Some x → (specified s (known_at s senses q) (Some c) ≡ Some x) × (specified s all (Some c) ≡ Some x)
      by (IsSpecified z) told f =
          let before = told_before s senses m c (IsSpecified z) told (λ no. cc) in
          let last : all c ≡ IsSpecified z = sym (known s senses m c before) ∙ told in
          let there : known_at s senses q c ≡ IsSpecified z = known s senses q c (omega (arith, before, lt)) ∙ last in
          let read : (y : Sense) → y ≡ IsSpecified z → (elim y as (λ _. Option Specified) [ IsSpecified w ↦ Some w | _ ↦ None ]) ≡ Some x = λ y is. ap (λ (y : Sense). elim y as (λ _. Option Specified) [ IsSpecified w ↦ Some w | _ ↦ None ]) is ∙ f in
          (read (known_at s senses q c) there, read (all c) last)
      by y told f = cc

  -- so is the storage of an object that is automatic there
  pub automatic_later : (w : World) (q m leaf : ℕ) (x : Specified) → m < q → specified_of s (known_at s senses m) leaf ≡ Some x → is_automatic_object w s (known_at s senses q) leaf ≡ true → storage_of s all leaf ≡ Automatic
  automatic_later w q m leaf x lt told h =
      let words = later_words (option_and_then (specs_of s) (outermost_of s leaf)) m q x lt told in
      let word : (k : ℕ) → has_storage s all k leaf ≡ has_storage s (known_at s senses q) k leaf = λ k. ap (λ (o : Option Specified). elim o as (λ _. Bool) [ None ↦ false | Some y ↦ contains y.storage k ]) (words.1 ∙ sym words.0) in
      let stored = automatic_storage (storage_of s (known_at s senses q) leaf) (both (not (is_typedef s (known_at s senses q) leaf)) _ h).1 in
      let parts = storage_parts (is_parameter s all leaf) (declares_function s all leaf) (is_defined s all leaf) (has_storage s (known_at s senses q) word_extern leaf && is_none (initialiser_for s all leaf)) (is_static_object s (known_at s senses q) leaf) stored in
      let off = none_of (is_at_file s all leaf) (has_storage s (known_at s senses q) word_static leaf) (has_storage s (known_at s senses q) word_extern leaf) parts.2 in
      let static = word word_static ∙ off.1 in
      let extern = word word_extern ∙ off.2 in
      storage_made (is_parameter s all leaf) (declares_function s all leaf) (is_defined s all leaf) (has_storage s all word_extern leaf) (is_none (initialiser_for s all leaf)) (is_static_object s all leaf) parts.0 parts.1 extern
      (all_off (is_at_file s all leaf) (has_storage s all word_static leaf) (has_storage s all word_extern leaf) off.0 static extern)

module _ (tokens : Tokens) (unit : ℕ) (tree : Tree) (tag_number : ℕ → ℕ) (senses : List Sense) (cut : IsTokens tokens.text.now tokens.list.items) (read : IsUnit tokens unit tree)
    (are : AreSenses (numbered tag_number (source_of tokens tree)) senses) (whole : length senses ≡ length (numbered tag_number (source_of tokens tree)).nodes)
  where
    abbrev s : Source
    s = numbered tag_number (source_of tokens tree)

    abbrev sense : ℕ → Sense
    sense i = sense_in senses i

    abbrev chosen : ℕ → Linkage → ℕ
    chosen d linkage =
        elim linkage [
          | Internal ↦ first_of s sense (first_of s sense d (keep s sense (is_tentative s senses) (of_internal s senses d))) (keep s sense (is_definition_at s senses) (of_internal s senses d))
          | _ ↦ d
        ]

    abbrev stored_by : ℕ → ℕ → Linkage → Storage
    stored_by d r linkage = elim linkage as (λ _. Storage) [ Internal ↦ (elim (storage_of s sense r) as (λ _. Storage) [ Declared ↦ if declares_function s sense d then Declared else Static | other ↦ other ]) | _ ↦ storage_of s sense d ]

    -- what stands for a name
    pub record StandsFor (d : ℕ) (what : Declares) : Type 0 where
      pub declares : is_declaring s senses (representative s senses d) ≡ true
      pub entity : entity_of s sense (representative s senses d) ≡ d
      pub storage : storage_of s sense (representative s senses d) ≡ Automatic → what.storage ≡ Automatic
      pub known_entity : declares_entity s senses d ≡ true

    pub stands_for : (d : ℕ) (what : Declares) → declared_name s senses d ≡ Some what → StandsFor d what
    stands_for d what told = pick (declares_entity s senses d) refl (entity_type s senses d) told
      where
        by : (declares : declares_entity s senses d ≡ true) → storage_at s senses d ≡ what.storage → (l : Linkage) → linkage_of s sense d ≡ l → StandsFor d what
        by declares stored Internal e =
            let known = representatives_known tokens unit tree tag_number senses cut read are whole d (internal_linkage (is_internal s sense d) (is_linked s sense d) e) in
            let parts = both (is_declaring s senses d) _ declares in
            let more = both (stands_in_declaration s senses d) _ parts.1 in
            let own : entity_of s sense d ≡ d = eqb-true (entity_of s sense d) d (both (not (is_typedef s sense d)) _ more.1).1 in
            record {
              declares = known.declares;
              entity = known.entity ∙ own;
              storage = λ auto. sym stored ∙ (ap (stored_by d (representative s senses d)) e ∙ ap (λ (x : Storage). elim x as (λ _. Storage) [ Declared ↦ if declares_function s sense d then Declared else Static | other ↦ other ]) auto);
              known_entity = declares;
            }
        by declares stored External e =
            let own : representative s senses d ≡ d = ap (chosen d) e in
            let parts = both (is_declaring s senses d) _ declares in
            let more = both (stands_in_declaration s senses d) _ parts.1 in
            record {
              declares = subst (λ (k : ℕ). is_declaring s senses k ≡ true) (sym own) parts.0;
              entity = ap (entity_of s sense) own ∙ eqb-true (entity_of s sense d) d (both (not (is_typedef s sense d)) _ more.1).1;
              storage = λ auto. sym stored ∙ (ap (stored_by d (representative s senses d)) e ∙ subst (λ (k : ℕ). storage_of s sense k ≡ Automatic) own auto);
              known_entity = declares;
            }
        by declares stored Local e =
            let own : representative s senses d ≡ d = ap (chosen d) e in
            let parts = both (is_declaring s senses d) _ declares in
            let more = both (stands_in_declaration s senses d) _ parts.1 in
            record {
              declares = subst (λ (k : ℕ). is_declaring s senses k ≡ true) (sym own) parts.0;
              entity = ap (entity_of s sense) own ∙ eqb-true (entity_of s sense d) d (both (not (is_typedef s sense d)) _ more.1).1;
              storage = λ auto. sym stored ∙ (ap (stored_by d (representative s senses d)) e ∙ subst (λ (k : ℕ). storage_of s sense k ≡ Automatic) own auto);
              known_entity = declares;
            }

        pick : (a : Bool) → declares_entity s senses d ≡ a → (o : Option Ctype) → (if a then option_map (declared_as s senses d) o else None) ≡ Some what → StandsFor d what
        pick false declares o e = cc
        pick true declares None e = cc
        pick true declares (Some t) e = let is : declared_as s senses d t ≡ what = some_same e in by declares (ap (λ (x : Declares). x.storage) is) (linkage_of s sense d) refl

    -- an initialiser that runs is an automatic object's
    runs_automatic : (r init : ℕ) (i : Initial tokens unit tree tag_number senses cut read are whole r init) → is_declaring s senses r ≡ true → runs_initialiser (world_at s (take i.place.above senses) i.place.above) s (known_at s senses i.place.above) init ≡ true
        → storage_of s sense r ≡ Automatic
    runs_automatic r init i declares runs =
        let q = i.place.above in
        let m = i.own.declarator in
        let (l, named, auto) = runs_for (world_at s (take q senses) q) s (known_at s senses q) init m i.own.by_it runs in
        let before = told_before s senses q m (known_at s senses q m) refl (λ none. no_name (known_at s senses q m) l named none) in
        let (ds, last, lt) = seen_later senses q m l named in
        let outermost : is_outermost s m ≡ true = found_above s (is_outermost s) (length s.nodes) m _ (i.outer ∙ ap (λ (k : ℕ). Some k) (sym i.same)) in
        let by_it = leaves_declared.by_sense s senses are (tree_is tokens unit tree read tag_number).grown (units_bring tokens unit tree tag_number read) m l ds lt outermost last in
        let same : l ≡ r = same_leaf s senses r i.declarator l ds declares i.outer (ap sense (sym i.same) ∙ last) in
        subst (λ (k : ℕ). storage_of s sense k ≡ Automatic) same (automatic_later s senses (world_at s (take q senses) q) q m l by_it.words before by_it.told auto)
      where
        no_name : (x : Sense) (l : ℕ) → name_in x ≡ Some l → x ≡ Nothing → ⊥
        no_name Nothing l e none = cc
        no_name x l e none = cc

    -- a function's block
    pub record BlockAt (d i : ℕ) (c : Core) : Type 0 where
      pub block : IsBlock tokens unit tree tag_number senses cut read are whole i c
      pub defined : is_defined s sense (representative s senses d) ≡ true
      pub is_for : block_for s senses (representative s senses d) ≡ Some block.block
      pub declares : declares_entity s senses d ≡ true

    -- an initialiser that stays
    pub record StaysAt (d i : ℕ) (c : Core) : Type 0 where
      pub stays : Stays tokens unit tree tag_number senses cut read are whole i c
      pub paths : List Path
      pub kind : kind_of c ≡ Initialise d paths

    pub lasting_root : (d : ℕ) (what : Declares) (c : Core) → declared_name s senses d ≡ Some what → what.body ≡ Some c → (what.storage ≡ Automatic → ⊥) → (i : ℕ) × (BlockAt d i c ⊎ StaysAt d i c)
    lasting_root d what c told body lasts = by (body_by s senses (representative s senses d) c (sym (body_is s senses d what told) ∙ body))
      where
        f : StandsFor d what
        f = stands_for d what told

        stays : (init : ℕ) (i : Initial tokens unit tree tag_number senses cut read are whole (representative s senses d) init) → i.own.core ≡ c
            → (b : Bool) → runs_initialiser (world_at s (take i.place.above senses) i.place.above) s (known_at s senses i.place.above) init ≡ b → (q : ℕ) × (BlockAt d q c ⊎ StaysAt d q c)
        stays init i same true runs = absurd (lasts (f.storage (runs_automatic (representative s senses d) init i f.declares runs)))
        stays init i same false off =
            let leaf : i.own.leaf ≡ representative s senses d = same_leaf s senses (representative s senses d) i.declarator i.own.leaf i.own.derives f.declares i.outer (ap sense (sym i.same) ∙ i.own.named) in (
              i.place.above,
              inr (record {
                stays = record {
                  rest = i.place.rest;
                  init = init;
                  inside = in_list (children_at s i.place.above) init (parent_holds s (tree_is tokens unit tree read tag_number).grown i.place.above init i.place.parent);
                  length_given = i.own.length_given;
                  is = i.own.is ∙ ap (λ (x : Core). IsInitial x i.own.length_given) same;
                  off = off;
                };
                paths = i.own.paths;
                kind = ap kind_of (sym same) ∙ (i.own.kind ∙ ap (λ (k : ℕ). Initialise k i.own.paths) (ap (entity_of s sense) leaf ∙ f.entity));
              }),
            )

        by : OfBlock s senses (representative s senses d) c ⊎ OfInitial s senses (representative s senses d) c → (i : ℕ) × (BlockAt d i c ⊎ StaysAt d i c)
        by (inl (defined, (b, block, core))) =
            let (p, external, child) = block_in s senses (representative s senses d) b defined block in
            (p, inl (record { block = record { block = b; external = external; child = child; core = core }; defined = defined; is_for = block; declares = f.known_entity }))
        by (inr (init, found, core)) =
            let i = initial tokens unit tree tag_number senses cut read are whole (representative s senses d) init found in
            let same : i.own.core ≡ c = some_same (sym (ap (core_of_sense s senses) i.own.is) ∙ core) in
            stays init i same (runs_initialiser (world_at s (take i.place.above senses) i.place.above) s (known_at s senses i.place.above) init) refl
