-- An internal name in a body is the first that declares its entity.
use Rattle.std.proofs.Common.{arith, ◌≡◌, ◌∙◌, ◌<◌, ◌≤◌, ℕ, zero, suc, nat_eq, eq-eqb, not, ◌&&◌, ◌||◌, ◌⊎◌, inl, inr, Bool, true, false, List, [], ◌∷◌, length, take, Option, Some, None, refl, sym, ap, subst}
use Rattle.std.specs.Prelude.{⊤, option_and_then, option_map, if◌then◌else◌}
use Rattle.std.proofs.lemmas.Bool.{eqb-true}
use Rattle.c_lexer.specs.declared.Tokens.{Tokens}
use Rattle.c_lexer.specs.Cut.{IsTokens}
use Rattle.c_grammar.specs.declared.trees.Tree.{Tree}
use Rattle.c_grammar.specs.Terminals.{contains}
use Rattle.c_grammar.specs.Productions.{p_primary, p_enumerator, p_init, p_cast, p_unary}
use Rattle.c_parser.specs.c_units.Units.{IsUnit}
use Rattle.c_types.specs.Trees.{Ctype}
use Rattle.core_tree.specs.declared.node.NodeKind.TheVariants.{Named, FunctionName}
use Rattle.c_consts.specs.Core.{Core, Cores, Of, NoCores, MoreCores, kind_of, core_in}
use Rattle.c_scope.specs.declared.kinds.Declared.{Declared}
use Rattle.c_senses.specs.Given.{Given, Fits, Refuses}
use Rattle.c_senses.specs.Names.{source_of, numbered, ordinary_at, linked_before, has_linkage}
use Rattle.c_senses.specs.Tree.{Source, is_a, children_at, paired, parent_of}
use Rattle.c_senses.specs.World.{World, Meaning, Object, Function, TypeName, Tag, Value}
use Rattle.c_senses.specs.Sense.{Sense, IsCore, IsValue, IsDeclarator, IsInitial, sense_in}
use Rattle.c_senses.specs.Rows.{AreSenses, world_at}
use Rattle.c_senses.specs.Declarators.{outermost_of}
use Rattle.c_senses.specs.Limits.{is_function_type}
use Rattle.c_senses.specs.Entities.{with_length, length_seen, is_linked, is_internal, is_typedef, entity_of, named_by, has_earlier_length, last_of, type_behind, own_type, object_or_function, declared_meaning, enumerated, meaning_of, initialised_by}
use Rattle.c_senses.specs.Initialised.{name_of_declarator, opening}
use Rattle.c_inits.specs.Initial.{Outcome, Places, NoPlace}
use Rattle.c_senses.specs.Right.{core_of_sense, representative, declared_name, IsPart, Within, Itself, Below}
use Rattle.c_senses.specs.Right as right
use Rattle.parsed_tree_laws.specs.sense_laws.Sound.{Sound, AllSound, AgreesWith, Gives, NamedOver, FunctionNameOver, list_of, MeaningFits, IsVariadicOf}
use Rattle.parsed_tree_laws.specs.sense_laws.Senses.{SoundSense}
use Rattle.parsed_tree_laws.specs.sense_laws.Asked.{FirstFits, OutcomeStands}
use Rattle.parsed_tree_laws.proofs.sense_laws.All.{asked_sound}
use Rattle.core_node_laws.specs.built_unit_laws.align_laws.Aligns.{AskedElseFit}
use Rattle.core_node_laws.proofs.built_unit_laws.align_laws.Fitting.{asked_aligns_fit}
use Rattle.parsed_tree_laws.proofs.sense_laws.parsed_laws.Constants.{constants_fit}
use Rattle.parsed_tree_laws.proofs.sense_laws.statement_laws.Grammar.{statements_parsed}
use Rattle.core_node_laws.specs.standing_laws.Standing.{IsGrown}
use Rattle.core_node_laws.specs.built_unit_laws.built_rows.Rows.{types_declared}
use Rattle.valid_unit_laws.specs.object_initialiser_laws.passed.internal_name_laws.initialised_rows.PassedOn.{TypesFit}
use Rattle.valid_unit_laws.proofs.object_initialiser_laws.passed.internal_name_laws.initialised_rows.PassedOn.{asked_fit}
use Rattle.valid_unit_laws.proofs.object_initialiser_laws.passed.internal_name_laws.initialised_rows.PassedOn.{types_fit, tree_grown}
use Rattle.valid_unit_laws.proofs.object_initialiser_laws.passed.internal_name_laws.initialised_rows.Owning.{linked_fit}
use Rattle.valid_unit_laws.proofs.object_initialiser_laws.passed.internal_name_laws.internal_names.Reading.{internals_fit}
use Rattle.valid_unit_laws.proofs.object_initialiser_laws.passed.internal_name_laws.internal_names.Order.{used, earlier}
use Rattle.valid_unit_laws.proofs.object_initialiser_laws.passed.internal_name_laws.internal_names.Seen.{Entry, entry, row, sees}
use Rattle.valid_unit_laws.proofs.object_initialiser_laws.passed.internal_name_laws.internal_names.Lists.{last_is}
use Rattle.valid_unit_laws.specs.object_initialiser_laws.passed.internal_name_laws.internal_names.PassedOn.{AreScoped}
use Rattle.valid_unit_laws.proofs.object_initialiser_laws.passed.internal_name_laws.internal_names.PassedOn.{linked_scoped}
use Rattle.declaration_laws.proofs.declared_type_laws.agreed_internals.PassedOn.{In}
use Rattle.declaration_laws.proofs.declared_type_laws.agreed_internals.Lists.{found_at, behind_front}
use Rattle.declaration_laws.proofs.declared_type_laws.plain_names.Fitting.{found_node, own_named, own_entity}
use Rattle.declaration_laws.proofs.function_laws.passed.definition_laws.own_initialisers.Standing.{initialisers_stand}
use Rattle.declaration_laws.specs.function_laws.passed.definition_laws.scope_laws.Scoped.{DeclaredOnce}
use Rattle.declaration_laws.proofs.function_laws.passed.definition_laws.scope_laws.Whole.{names_declared_once}
use Rattle.declaration_laws.proofs.declared_type_laws.known_entities.Known.{entities_known}
use Rattle.declaration_laws.proofs.declared_type_laws.known_entities.Further.{further_found}
use Rattle.declaration_laws.proofs.declared_type_laws.passed.owner_laws.Whole.{grown_of}
use Rattle.core_node_laws.proofs.count_laws.once_nodes.Rooted.{OfBlock, OfInitial, body_is, body_by}
use Rattle.valid_unit_laws.proofs.object_initialiser_laws.once_initialised.Whole.{opening_differs}
use Rattle.core_node_laws.specs.built_unit_laws.built_laws.Placed.{IsInBody}
use Rattle.parsed_tree_laws.proofs.family_laws.Reading.{units_families}
use Rattle.declaration_laws.proofs.function_laws.passed.definition_laws.single_initialisers.Apart.{stands_outermost}
use Rattle.parsed_tree_laws.proofs.sign_parts.Reading as signs
use Rattle.parsed_tree_laws.proofs.grown_parts.Reading.{units_bring}
use Rattle.declaration_laws.proofs.name_order.Ordered.{units_ordered}
use Rattle.declaration_laws.proofs.declared_type_laws.declared_leaves.Climbing.{leaves_declared}
use Rattle.declaration_laws.proofs.function_laws.passed.definition_laws.linkage_laws.Seen.{some_same, no_both, node_within}
use Rattle.declaration_laws.proofs.function_laws.passed.definition_laws.linkage_laws.Linked as linked
use Rattle.declaration_laws.proofs.function_laws.passed.definition_laws.linkage_laws.Reading.{tree_is}
use Rattle.valid_unit_laws.proofs.body_node_laws.parts_named.Owners.{both}
use Rattle.valid_unit_laws.proofs.body_node_laws.parts_named.Roots.{name_in, seen_declarator}
use Rattle.valid_unit_laws.proofs.body_node_laws.parts_named.Linked.{once, entity_again, linked_name}

module _ (tokens : Tokens) (unit : ℕ) (tree : Tree) (tag_number : ℕ → ℕ) (senses : List Sense) (cut : IsTokens tokens.text.now tokens.list.items) (read : IsUnit tokens unit tree)
    (are : AreSenses (numbered tag_number (source_of tokens tree)) senses) (whole : length senses ≡ length (numbered tag_number (source_of tokens tree)).nodes)
  where
    abbrev s : Source
    s = numbered tag_number (source_of tokens tree)

    abbrev sense : ℕ → Sense
    sense i = sense_in senses i

    abbrev t : linked.Tree s
    t = tree_is tokens unit tree read tag_number

    abbrev F : ℕ → ℕ → Sense
    F i = sense_in (take i senses)

    abbrev W : ℕ → World
    W i = world_at s (take i senses) i

    -- what is internal is the first that declares its entity
    abbrev Passes : ℕ → Type 0
    Passes e = is_internal s sense e ≡ true → entity_of s sense e ≡ e

    -- the types of all that is so
    abbrev types : ℕ → Option Ctype
    types = types_declared s senses

    abbrev E : ℕ → Option Ctype
    E d = if is_internal s sense d && not (nat_eq (entity_of s sense d) d) then None else types d

    passing : (e : ℕ) → Passes e → E e ≡ types e
    passing e h = by (is_internal s sense e) refl
      where
        by : (b : Bool) → is_internal s sense e ≡ b → E e ≡ types e
        by false off = ap (λ (a : Bool). if a && not (nat_eq (entity_of s sense e) e) then None else types e) off
        by true on =
            ap (λ (a : Bool). if a && not (nat_eq (entity_of s sense e) e) then None else types e) on
            ∙ ap (λ (a : Bool). if not a then None else types e) (eq-eqb (entity_of s sense e) e (h on))

    passes_of : (e : ℕ) (x : Ctype) → AgreesWith (E e) x → Passes e
    passes_of e x h on = by (nat_eq (entity_of s sense e) e) refl
      where
        by : (b : Bool) → nat_eq (entity_of s sense e) e ≡ b → entity_of s sense e ≡ e
        by true same = eqb-true (entity_of s sense e) e same
        by false differ =
            let none : E e ≡ None = ap (λ (a : Bool). if a && not (nat_eq (entity_of s sense e) e) then None else types e) on ∙ ap (λ (a : Bool). if not a then None else types e) differ in
            absurd (subst (λ (o : Option Ctype). AgreesWith o x) none h)

    -- names that are known at a node
    known_passes : (l m i : ℕ) → outermost_of s l ≡ Some m → m ≤ i → Passes (entity_of s (F i) l)
    known_passes l m i outer le on =
        let same = (entities_known tokens unit tree tag_number senses cut read l m i outer le).entity in
        ap (entity_of s sense) same ∙ (entity_again tokens unit tree tag_number senses cut read are whole l ∙ sym same)

    plain_passes : (l i : ℕ) → is_linked s sense l ≡ false → Passes (entity_of s (F i) l)
    plain_passes l i off on =
        let same = own_entity s (F i) l off in
        absurd (no_both (is_linked s sense l) (both (is_linked s sense l) _ (subst (λ (k : ℕ). is_internal s sense k ≡ true) same on)).0 off)

    -- ---- uses

    names_once : DeclaredOnce s
    names_once = names_declared_once tokens tree tag_number (record { before = t.grown.before; single = t.grown.once; externals = t.nested.externals; units = t.nested.units })

    scoped : AreScoped s
    scoped = linked_scoped tokens unit tree tag_number cut read

    abbrev IsEntry : Declared → Type 0
    IsEntry d = Entry s t.grown names_once scoped senses are whole (once tokens unit tree tag_number senses cut read are whole) (λ k h. linked.stands_linked s t senses are whole k h) d

    module _ (i first : ℕ) (primary : is_a s p_primary i ≡ true) (inside : contains (children_at s i) first ≡ true) where
      -- of a name with linkage
      linked_use : (d : Declared) → IsEntry d → paired s.uses first ≡ Some d.node → Passes (entity_of s (F i) (named_by s (F i) d.node))
      linked_use d e pair = by (has_earlier_length s (F i) d.node) refl
        where
          r : (m : ℕ) × (outermost_of s d.node ≡ Some m)
          r = let x = row s t.grown names_once scoped senses are whole (once tokens unit tree tag_number senses cut read are whole) (λ k h. linked.stands_linked s t senses are whole k h) d e in (x.declarator, x.one.outermost)

          before : r.0 < i
          before = used s t.grown (units_bring tokens unit tree tag_number read) (units_ordered tokens unit tree tag_number cut read) d.node r.0 i first d e.at e.links r.1 pair primary inside

          earlier_one : (z : Declared) → In z (linked_before s (Some d)) → Passes (entity_of s (F i) z.node)
          earlier_one z h =
              let x = sees s t.grown names_once scoped senses are whole (once tokens unit tree tag_number senses cut read are whole) (λ k g. linked.stands_linked s t senses are whole k g) d z h in
              let y = row s t.grown names_once scoped senses are whole (once tokens unit tree tag_number senses cut read are whole) (λ k g. linked.stands_linked s t senses are whole k g) z x.entry in
              let lt = earlier s t.grown (units_bring tokens unit tree tag_number read) (units_ordered tokens unit tree tag_number cut read) d.node r.0 z.node y.declarator d z e.at e.links r.1 x.entry.at x.entry.links y.one.outermost refl refl x.before in
              let own = before in
              known_passes z.node y.declarator i y.one.outermost (omega (arith, lt, own))

          own_one : Passes (entity_of s (F i) d.node)
          own_one = let lt = before in known_passes d.node r.0 i r.1 (omega (arith, lt))

          by : (b : Bool) → has_earlier_length s (F i) d.node ≡ b → Passes (entity_of s (F i) (named_by s (F i) d.node))
          by false h = subst (λ (k : ℕ). Passes (entity_of s (F i) k)) (sym (ap (λ (a : Bool). if a then last_of s (F i) d.node (linked_before s (ordinary_at s d.node)) else d.node) h)) own_one
          by true h =
              subst (λ (k : ℕ). Passes (entity_of s (F i) k))
              (sym (ap (λ (a : Bool). if a then last_of s (F i) d.node (linked_before s (ordinary_at s d.node)) else d.node) h ∙ ap (λ (o : Option Declared). last_of s (F i) d.node (linked_before s o)) e.at))
              (last_is s (F i) (λ k. Passes (entity_of s (F i) k)) d.node (linked_before s (Some d)) own_one earlier_one)

      use_passes : (x : ℕ) (y : Ctype) → paired s.uses first ≡ Some x → type_behind s (F i) x ≡ Some y → Passes (entity_of s (F i) (named_by s (F i) x))
      use_passes x y pair behind = by (is_linked s sense x) refl
        where
          named : (o : Option Declared) → ordinary_at s x ≡ o → (elim o as (λ _. Bool) [ None ↦ false | Some d ↦ has_linkage d ]) ≡ true → Passes (entity_of s (F i) (named_by s (F i) x))
          named None at h = cc
          named (Some d) at h =
              let found = found_at s.declared.ordinary x d at in
              let node = found_node s.declared.ordinary x d at in
              let e = entry s t.grown names_once scoped senses are whole (once tokens unit tree tag_number senses cut read are whole) (λ k g. linked.stands_linked s t senses are whole k g) d (subst (In d) (sym found.1) (behind_front _ d found.0)) h in
              subst (λ (k : ℕ). Passes (entity_of s (F i) (named_by s (F i) k))) node (linked_use d e (pair ∙ ap (λ (k : ℕ). Some k) (sym node)))

          by : (b : Bool) → is_linked s sense x ≡ b → Passes (entity_of s (F i) (named_by s (F i) x))
          by true h = named (ordinary_at s x) refl h
          by false h = subst (λ (k : ℕ). Passes (entity_of s (F i) k)) (sym (own_named s (F i) x h y behind)) (plain_passes x i h)

      abbrev MeaningPasses : Option Meaning → Type 0
      MeaningPasses (Some (Object e y)) = Passes e
      MeaningPasses (Some (Function e y)) = Passes e
      MeaningPasses o = ⊤

      meaning_passes : (x : ℕ) → paired s.uses first ≡ Some x → MeaningPasses (meaning_of s (F i) x)
      meaning_passes x pair = by (parent_of s x)
        where
          values : (y : Sense) → MeaningPasses (elim y as (λ _. Option Meaning) [ IsValue k ↦ Some (Value k) | _ ↦ None ])
          values (IsValue k) = tt
          values y = tt

          of_type : (o : Option Ctype) → MeaningPasses (option_map TypeName o)
          of_type None = tt
          of_type (Some y) = tt

          of_object : (o : Option Ctype) → type_behind s (F i) x ≡ o → MeaningPasses (option_map (object_or_function s (F i) (entity_of s (F i) (named_by s (F i) x))) o)
          of_object None e = tt
          of_object (Some y) e = pick (is_function_type y)
            where
              pick : (b : Bool) → MeaningPasses (Some (if b then Function (entity_of s (F i) (named_by s (F i) x)) y else Object (entity_of s (F i) (named_by s (F i) x)) y))
              pick true = use_passes x y pair e
              pick false = use_passes x y pair e

          of_name : (b : Bool) → MeaningPasses (if b then option_map TypeName (own_type s (F i) x) else option_map (object_or_function s (F i) (entity_of s (F i) (named_by s (F i) x))) (type_behind s (F i) x))
          of_name true = of_type (own_type s (F i) x)
          of_name false = of_object (type_behind s (F i) x) refl

          of_parent : (q : ℕ) (b : Bool) → MeaningPasses (if b then enumerated s (F i) q else declared_meaning s (F i) x)
          of_parent q true = values (F i q)
          of_parent q false = of_name (is_typedef s (F i) x)

          by : (o : Option ℕ) → MeaningPasses (elim o as (λ _. Option Meaning) [ None ↦ None | Some q ↦ if is_a s p_enumerator q then enumerated s (F i) q else declared_meaning s (F i) x ])
          by None = tt
          by (Some q) = of_parent q (is_a s p_enumerator q)

      first_passes : MeaningPasses ((W i).meaning first)
      first_passes = by (paired s.uses first) refl
        where
          by : (o : Option ℕ) → paired s.uses first ≡ o → MeaningPasses (option_and_then (meaning_of s (F i)) o)
          by None pair = tt
          by (Some x) pair = meaning_passes x pair

      changed : (m : Meaning) → MeaningPasses (Some m) → MeaningFits types m → MeaningFits E m
      changed (Object e y) h k = subst (λ (o : Option Ctype). AgreesWith o y) (sym (passing e h)) k
      changed (Function e y) h k = subst (λ (o : Option Ctype). AgreesWith o y) (sym (passing e h)) k
      changed (TypeName y) h k = tt
      changed (Tag tag) h k = tt
      changed (Value n) h k = tt

    -- ---- rows

    grown : IsGrown s
    grown = grown_of tokens unit tree tag_number cut read

    fit : TypesFit s senses
    fit =
        let at = tree_grown tokens unit tree tag_number read in
        let names = linked_fit s senses are grown at (units_bring tokens unit tree tag_number read) (initialisers_stand tokens unit tree tag_number cut read) (internals_fit tokens unit tree tag_number senses cut read are whole) in
        types_fit s senses are grown at (units_bring tokens unit tree tag_number read) (units_ordered tokens unit tree tag_number cut read) names

    asked : AskedElseFit types s senses
    asked = asked_fit s senses are grown (units_bring tokens unit tree tag_number read) fit

    restands : (w : World) (f : ℕ → Sense) (e : ℕ) (y : Ctype) (g : Given Outcome) → E e ≡ types e → Gives (OutcomeStands w types s f e y) g → Gives (OutcomeStands w E s f e y) g
    restands w f e y (Refuses kind node) same h = tt
    restands w f e y (Fits (NoPlace node)) same h = tt
    restands w f e y (Fits (Places actions)) same h = (same ∙ h.0, h.1)

    object_passes : (i m leaf : ℕ) → is_a s p_init i ≡ true → initialised_by s (F i) i ≡ Some m → name_in (F i m) ≡ Some leaf → Passes (entity_of s (F i) leaf)
    object_passes i m leaf is by_it named =
        let (ds, later, lt) = seen_declarator tokens unit tree tag_number senses cut read are whole i m leaf named in
        let few : m < length senses = (let inside = node_within s p_init i is refl in omega (arith, inside, lt, whole)) in
        let outer = stands_outermost s t (units_families tokens unit tree tag_number cut read) (signs.units_bring tokens unit tree tag_number read) (F i) i m is by_it in
        let told = leaves_declared.by_sense s senses are t.grown (units_bring tokens unit tree tag_number read) m leaf ds few outer later in
        known_passes leaf m i told.outermost (omega (arith, lt))

    same_name : (w : World) (f : ℕ → Sense) (y : Sense) → name_of_declarator w s f y ≡ name_in y
    same_name w f (IsDeclarator name ds) = refl
    same_name w f y = refl

    opening_passes : (w : World) (f : ℕ → Sense) (p : ℕ) → (is_a s p_cast p || is_a s p_unary p) ≡ true → Passes (opening w s f p)
    opening_passes w f p over on =
        let name = linked_name tokens unit tree tag_number senses cut read are whole (opening w s f p) (both (is_linked s sense (opening w s f p)) _ on).0 in
        let differ : nat_eq (opening w s f p) (opening w s f p) ≡ false = opening_differs s (opening w s f p) name p over in
        absurd (no_both (nat_eq (opening w s f p) (opening w s f p)) (eq-eqb (opening w s f p) (opening w s f p) refl) differ)

    asked_so : AskedElseFit E s senses
    asked_so = record {
      names = λ i lt primary. firsts i primary (children_at s i) refl (fit.names i lt primary);
      further = λ i lt primary leaf function found.
          let x = further_found tokens unit tree tag_number senses cut read are whole i leaf function found in
          let passes = subst Passes x.known (known_passes x.defines.name x.defines.declarator i x.defines.outermost (let before = x.before in omega (arith, before))) in
          subst IsVariadicOf (sym (passing function passes)) (fit.further i lt primary leaf function found);
      runs = asked.runs;
      initials = λ i lt.
          record {
            objects = λ p declarator leaf y is parent rest by_it named typed.
                restands (W i) (F i) (entity_of s (F i) leaf) (with_length (length_seen s (F i) leaf) y) _ (passing (entity_of s (F i) leaf) (object_passes i declarator leaf is by_it (sym (same_name (W i) (F i) (F i declarator)) ∙ named))) ((asked.initials i lt).objects p declarator leaf y is parent rest by_it named typed);
            literals = λ p name y is parent over named typed.
                restands (W i) (F i) (opening (W i) s (F i) p) y _ (passing (opening (W i) s (F i) p) (opening_passes (W i) (F i) p over)) ((asked.initials i lt).literals p name y is parent over named typed);
          };
    }
      where
        firsts : (i : ℕ) → is_a s p_primary i ≡ true → (children : List ℕ) → children_at s i ≡ children → FirstFits (W i) types children → FirstFits (W i) E children
        firsts i primary [] e h = tt
        firsts i primary (first ∷ rest) e h = λ m means.
            (let inside : contains (children_at s i) first ≡ true = ap (λ (l : List ℕ). contains l first) e ∙ ap (λ (b : Bool). b || contains rest first) (eq-eqb first first refl) in
            changed i first primary inside m (subst (MeaningPasses i first primary inside) means (first_passes i first primary inside)) (h m means))

    abbrev w : World
    w = world_at s senses (length senses)

    sound : (i : ℕ) → SoundSense w E (sense i)
    sound i =
        let constants = constants_fit tokens tree tag_number cut in
        let statements = statements_parsed tokens unit tree tag_number read in
        (asked_sound E s senses are grown.first constants statements (asked_aligns_fit E s senses are grown.first constants statements asked_so) i).0

    -- ---- in bodies

    part_in : (under : Cores) (k : ℕ) (c : Core) → AllSound w E under → core_in under k ≡ Some c → Sound w E c
    part_in NoCores k c h e = cc
    part_in (MoreCores x rest) zero c h e = subst (Sound w E) (let same : x ≡ c = cc in same) h.0
    part_in (MoreCores x rest) (suc k) c h e = part_in rest k c h.1 e

    part_sound : (part c : Core) → Sound w E c → IsPart s senses part c → Sound w E part
    part_sound part (Of kind place type under) h p = part_in under p.0 part h.3 p.1

    within_sound : (c body : Core) → Within s senses c body → Sound w E body → Sound w E c
    within_sound c body Itself h = h
    within_sound c body (Below {part = part} p inner) h = within_sound c part inner (part_sound part body h p)

    of_sense : (y : Sense) (c : Core) → SoundSense w E y → core_of_sense s senses y ≡ Some c → Sound w E c
    of_sense (IsCore x) c h e = subst (Sound w E) (some_same e) h
    of_sense (IsInitial x k) c h e = subst (Sound w E) (some_same e) h.0
    of_sense y c h e = cc

    body_sound : (d : ℕ) (what : right.Declared) (c : Core) → declared_name s senses d ≡ Some what → what.body ≡ Some c → Sound w E c
    body_sound d what c told body = by (body_by s senses (representative s senses d) c (sym (body_is s senses d what told) ∙ body))
      where
        by : OfBlock s senses (representative s senses d) c ⊎ OfInitial s senses (representative s senses d) c → Sound w E c
        by (inl (defined, (b, block, core))) = of_sense (sense b) c (sound b) core
        by (inr (init, found, core)) = of_sense (sense init) c (sound init) core

    pub internals_first : (c : Core) (d : ℕ) → IsInBody s senses c → (kind_of c ≡ Named d) ⊎ (kind_of c ≡ FunctionName d) → is_internal s sense d ≡ true → entity_of s sense d ≡ d
    internals_first c d h e = by c e (within_sound c h.body h.within (body_sound h.leaf h.what h.body h.declared h.has))
      where
        of_named : (x : ℕ) (y : Ctype) (under : List Core) → NamedOver (E x) y under → Passes x
        of_named x y [] k = passes_of x y k.0
        of_named x y (z ∷ more) k = absurd k

        of_function : (x : ℕ) (y : Ctype) (under : List Core) → FunctionNameOver (E x) y under → Passes x
        of_function x y [] k = passes_of x y k.0
        of_function x y (z ∷ more) k = absurd k

        by : (c : Core) → (kind_of c ≡ Named d) ⊎ (kind_of c ≡ FunctionName d) → Sound w E c → Passes d
        by (Of (Named x) place type under) (inl e) held = let same : x ≡ d = cc in subst Passes same (of_named x type (list_of under) held.0)
        by (Of (FunctionName x) place type under) (inr e) held = let same : x ≡ d = cc in subst Passes same (of_function x type (list_of under) held.0)
        by (Of (Named x) place type under) (inr e) held = cc
        by (Of (FunctionName x) place type under) (inl e) held = cc
        by (Of kind place type under) (inl e) held = cc
        by (Of kind place type under) (inr e) held = cc
