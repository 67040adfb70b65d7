-- The trees of bodies are free of a name where no use of it stands near them.
use Rattle.std.proofs.Common.{◌≡◌, ◌<◌, ◌==◌, ◌||◌, ℕ, zero, suc, Bool, true, false, List, ◌∷◌, length, take, Option, Some, None, refl, sym, ap, ◌∙◌, subst, ◌⊎◌, inl, inr}
use Rattle.std.specs.Prelude.{⊤, option_and_then, option_map, if◌then◌else◌}
use Rattle.std.proofs.lemmas.Bool.{eqb-true}
use Rattle.c_lexer.specs.declared.Tokens.{Tokens}
use Rattle.c_lexer.specs.Cut.{IsTokens}
use Rattle.c_grammar.specs.declared.trees.Tree.{Tree as SyntaxTree}
use Rattle.c_grammar.specs.Productions.{p_unit, p_external, p_rest, p_declaration, p_enumerator, p_suffix, p_block, p_statement, p_post}
use Rattle.c_parser.specs.c_units.Units.{IsUnit}
use Rattle.c_scope.specs.declared.kinds.Declared.{Declared}
use Rattle.c_types.specs.Trees.{Ctype}
use Rattle.core_tree.specs.declared.node.NodeKind.TheVariants.{Named, FunctionName}
use Rattle.c_consts.specs.Core.{Core, Cores, Of, NoCores, MoreCores, kind_of, core_in}
use Rattle.c_senses.specs.Names.{source_of, numbered, ordinary_at, typing_declarations}
use Rattle.c_senses.specs.Tree.{Source, is_a, production_at, children_at, parent_of, paired, left_of, above_within}
use Rattle.c_senses.specs.World.{Meaning, Object, Function, TypeName, Value}
use Rattle.c_senses.specs.Limits.{is_function_type}
use Rattle.c_senses.specs.Sense.{Sense, IsCore, IsInitial, IsValue, sense_in}
use Rattle.c_senses.specs.Rows.{AreSenses, world_at}
use Rattle.c_senses.specs.Declarators.{is_outermost, outermost_of}
use Rattle.c_senses.specs.Entities.{is_typedef, is_linked, own_type, entity_of, named_by, type_behind, types_of, all_together, object_or_function, enumerated, declared_meaning, meaning_of, meaning_at, initialiser_of}
use Rattle.c_senses.specs.Right.{core_of_sense, declared_name, representative, block_for, IsPart as IsTreePart, Within, Itself, Below}
use Rattle.c_senses.specs.Right as right
use Rattle.core_node_laws.specs.near_nodes.Holding.{Holds, AllHold, OfSense, MeaningGives, RowGives}
use Rattle.core_node_laws.specs.parted_nodes.Parted.{Parted}
use Rattle.core_node_laws.proofs.parted_nodes.All.{near_kept}
use Rattle.parsed_tree_laws.proofs.span_laws.Lefts.{units_have_lefts}
use Rattle.core_node_laws.proofs.standing_laws.Climbing.{list_in}
use Rattle.declaration_laws.specs.function_laws.passed.definition_laws.scope_laws.Beneath.{Beneath, part, deeper}
use Rattle.declaration_laws.specs.function_laws.passed.definition_laws.scope_laws.Scoped.{IsPart, Rooted, DeclaredOnce}
use Rattle.declaration_laws.proofs.function_laws.passed.definition_laws.scope_laws.Whole.{names_declared_once}
use Rattle.declaration_laws.proofs.declared_type_laws.passed.owner_laws.Naming.{own_leaf}
use Rattle.core_node_laws.proofs.count_laws.once_nodes.Rooted.{OfBlock, OfInitial, body_is, body_by, block_in, found_where}
use Rattle.core_node_laws.specs.built_unit_laws.built_laws.Placed.{IsInBody}
use Rattle.declaration_laws.proofs.function_laws.passed.definition_laws.linkage_laws.Seen.{some_same, none_some, no_both, parent_holds}
use Rattle.declaration_laws.proofs.function_laws.passed.definition_laws.linkage_laws.Linked as linked
use Rattle.declaration_laws.proofs.function_laws.passed.definition_laws.linkage_laws.Reading.{tree_is}
use Rattle.valid_unit_laws.proofs.object_initialiser_laws.placed_initialisers.Whole.{units_place}

found_above : (s : Source) (test : ℕ → Bool) (fuel d : ℕ) (o : Option ℕ) → above_within s test fuel o ≡ Some d → test d ≡ true
found_above s test zero d o e = absurd (none_some e)
found_above s test (suc fuel) d None e = absurd (none_some e)
found_above s test (suc fuel) d (Some p) e = by (test p) refl e (λ f. found_above s test fuel d (parent_of s p) f)
  where
    by : (b : Bool) → test p ≡ b → (if b then Some p else above_within s test fuel (parent_of s p)) ≡ Some d → (above_within s test fuel (parent_of s p) ≡ Some d → test d ≡ true) → test d ≡ true
    by true is e later = ap test (sym (some_same e)) ∙ is
    by false is e later = later e

and_then_some : {A B : Type 0} → (o : Option A) (k : A → Option B) (y : B) → option_and_then k o ≡ Some y → (x : A) × (o ≡ Some x) × (k x ≡ Some y)
and_then_some None k y e = absurd (none_some e)
and_then_some (Some x) k y e = (x, refl, e)

-- what does not name an entity
abbrev pub IsFree : ℕ → Core → Type 0
IsFree d (Of (Named x) place type under) = x ≡ d → ⊥
IsFree d (Of (FunctionName x) place type under) = x ≡ d → ⊥
IsFree d c = ⊤

module _ (tokens : Tokens) (unit : ℕ) (tree : SyntaxTree) (tag_number : ℕ → ℕ) (senses : List Sense) (cut : IsTokens tokens.text.now tokens.list.items) (read : IsUnit tokens unit tree)
    (are : AreSenses (numbered tag_number (source_of tokens tree)) senses) (whole : length senses ≡ length (numbered tag_number (source_of tokens tree)).nodes)
  where
    abbrev s : Source
    s = numbered tag_number (source_of tokens tree)

    abbrev sense : ℕ → Sense
    sense i = sense_in senses i

    abbrev t : linked.Tree s
    t = tree_is tokens unit tree read tag_number

    rooted : Rooted s
    rooted = record { before = t.grown.before; single = t.grown.once; externals = t.nested.externals; units = t.nested.units }

    once : DeclaredOnce s
    once = names_declared_once tokens tree tag_number rooted

    -- what a use of a name as an entity says of its leaf
    pub record IsEntity (d : ℕ) : Type 0 where
      pub entry : Declared
      pub there : ordinary_at s d ≡ Some entry
      pub plain : is_typedef s sense d ≡ false
      pub parent : ℕ
      pub up : parent_of s d ≡ Some parent
      pub no_enumerator : is_a s p_enumerator parent ≡ false

    module _ (d : ℕ) (unlinked : is_linked s sense d ≡ false) (near : ℕ → Type 0) (closed : Parted s near) (no : (at : ℕ) → near at → paired s.uses at ≡ Some d → IsEntity d → ⊥) where
      module _ (f : ℕ → Sense) where
        type_some : (l : ℕ) (x : Ctype) → type_behind s f l ≡ Some x → (y : Declared) × (ordinary_at s l ≡ Some y)
        type_some l x e = by (ordinary_at s l) refl e
          where
            by : (o : Option Declared) → ordinary_at s l ≡ o → all_together None (types_of s f (typing_declarations s o)) ≡ Some x → (y : Declared) × (ordinary_at s l ≡ Some y)
            by None at e = cc
            by (Some y) at e = (y, at)

        no_entity : (at l q : ℕ) (x : Ctype) → near at → paired s.uses at ≡ Some l → type_behind s f l ≡ Some x → is_typedef s f l ≡ false → parent_of s l ≡ Some q → is_a s p_enumerator q ≡ false → entity_of s f (named_by s f l) ≡ d → ⊥
        no_entity at l q x here paired_is typed plain up off same =
            let own_unlinked : is_linked s f (entity_of s f (named_by s f l)) ≡ false = subst (λ (k : ℕ). is_linked s f k ≡ false) (sym same) unlinked in
            let name : l ≡ d = sym (own_leaf s f once l own_unlinked).0 ∙ same in
            let y = type_some l x typed in
            no at here (paired_is ∙ ap (λ (k : ℕ). Some k) name)
            (record {
              entry = y.0;
              there = subst (λ (k : ℕ). ordinary_at s k ≡ Some y.0) name y.1;
              plain = subst (λ (k : ℕ). is_typedef s f k ≡ false) name plain;
              parent = q;
              up = subst (λ (k : ℕ). parent_of s k ≡ Some q) name up;
              no_enumerator = off;
            })

        module _ (at l q : ℕ) (here : near at) (paired_is : paired s.uses at ≡ Some l) (up : parent_of s l ≡ Some q) (off : is_a s p_enumerator q ≡ false) where
          object_gives : (o : Option Ctype) → type_behind s f l ≡ o → is_typedef s f l ≡ false → MeaningGives (IsFree d) (option_map (object_or_function s f (entity_of s f (named_by s f l))) o)
          object_gives None typed plain = tt
          object_gives (Some x) typed plain = by (is_function_type x)
            where
              by : (z : Bool) → MeaningGives (IsFree d) (Some (if z then Function (entity_of s f (named_by s f l)) x else Object (entity_of s f (named_by s f l)) x))
              by true = λ place same. no_entity at l q x here paired_is typed plain up off same
              by false = λ place same. no_entity at l q x here paired_is typed plain up off same

          declared_gives : MeaningGives (IsFree d) (declared_meaning s f l)
          declared_gives = by (is_typedef s f l) refl
            where
              types : (o : Option Ctype) → MeaningGives (IsFree d) (option_map TypeName o)
              types None = tt
              types (Some x) = tt

              by : (z : Bool) → is_typedef s f l ≡ z → MeaningGives (IsFree d) (if z then option_map TypeName (own_type s f l) else option_map (object_or_function s f (entity_of s f (named_by s f l))) (type_behind s f l))
              by true e = types (own_type s f l)
              by false e = object_gives (type_behind s f l) refl e

        meaning_gives : (at l : ℕ) → near at → paired s.uses at ≡ Some l → MeaningGives (IsFree d) (meaning_of s f l)
        meaning_gives at l here paired_is = by (parent_of s l) refl
          where
            values : (x : Sense) → MeaningGives (IsFree d) (elim x as (λ _. Option Meaning) [ IsValue n ↦ Some (Value n) | _ ↦ None ])
            values (IsValue n) = tt
            values x = tt

            pick : (q : ℕ) → parent_of s l ≡ Some q → (z : Bool) → is_a s p_enumerator q ≡ z → MeaningGives (IsFree d) (if z then enumerated s f q else declared_meaning s f l)
            pick q up true e = values (f q)
            pick q up false e = declared_gives at l q here paired_is up e

            by : (o : Option ℕ) → parent_of s l ≡ o → MeaningGives (IsFree d) (elim o as (λ _. Option Meaning) [ None ↦ None | Some q ↦ if is_a s p_enumerator q then enumerated s f q else declared_meaning s f l ])
            by None e = tt
            by (Some q) e = pick q e (is_a s p_enumerator q) refl

        use_gives : (at : ℕ) → near at → MeaningGives (IsFree d) (meaning_at s f at)
        use_gives at here = by (paired s.uses at) refl
          where
            by : (o : Option ℕ) → paired s.uses at ≡ o → MeaningGives (IsFree d) (option_and_then (meaning_of s f) o)
            by None e = tt
            by (Some l) e = meaning_gives at l here e

      row_free : (n : ℕ) → n < length senses → is_a s p_suffix n ≡ false → near n → ((c : ℕ) → near c → OfSense s near (IsFree d) (sense_in (take n senses) c)) → RowGives (IsFree d) (world_at s (take n senses) n) s (sense_in (take n senses)) n (children_at s n)
      row_free n lt off here each = record {
        names = λ c has. use_gives (sense_in (take n senses)) c (closed.parts n c has off here);
        lists = λ entity function place at type asked e. tt;
        objects = λ declarator l by_it named paths values fixed. tt;
        initials = λ q above paths values over fixed. tt;
        literals = λ q above type initial over. tt;
        blocks = λ is_one place under. tt;
        plains = λ c a place under. tt;
        fors = λ is_statement e has is_one c a place under. tt;
      }

      free : (i : ℕ) → near i → OfSense s near (IsFree d) (sense i)
      free i here = near_kept (IsFree d) s senses near are closed row_free i here

      part_in : (under : Cores) (k : ℕ) (c : Core) → AllHold (IsFree d) under → core_in under k ≡ Some c → Holds (IsFree d) c
      part_in NoCores k c h e = cc
      part_in (MoreCores x rest) zero c h e = subst (Holds (IsFree d)) (let same : x ≡ c = cc in same) h.0
      part_in (MoreCores x rest) (suc k) c h e = part_in rest k c h.1 e

      part_held : (one c : Core) → Holds (IsFree d) c → IsTreePart s senses one c → Holds (IsFree d) one
      part_held one (Of kind place type under) h p = part_in under p.0 one h.1 p.1

      within_held : (c body : Core) → Within s senses c body → Holds (IsFree d) body → Holds (IsFree d) c
      within_held c body Itself h = h
      within_held c body (Below {part = one} p inner) h = within_held c one inner (part_held one body h p)

      of_sense : (y : Sense) (c : Core) → OfSense s near (IsFree d) y → core_of_sense s senses y ≡ Some c → Holds (IsFree d) c
      of_sense (IsCore x) c h e = subst (Holds (IsFree d)) (some_same e) h
      of_sense (IsInitial x k) c h e = subst (Holds (IsFree d)) (some_same e) h
      of_sense y c h e = cc

      module _ (blocks : (p b : ℕ) → is_a s p_external p ≡ true → IsPart s p b → is_a s p_block b ≡ true → near b) (inits : (p i : ℕ) → is_a s p_rest p ≡ true → IsPart s p i → near i) where
        body_held : (e : ℕ) (what : right.Declared) (c : Core) → declared_name s senses e ≡ Some what → what.body ≡ Some c → Holds (IsFree d) c
        body_held e what c told body = by (body_by s senses (representative s senses e) c (sym (body_is s senses e what told) ∙ body))
          where
            by : OfBlock s senses (representative s senses e) c ⊎ OfInitial s senses (representative s senses e) c → Holds (IsFree d) c
            by (inl (defined, (b, block, core))) =
                let (p, external, child) = block_in s senses (representative s senses e) b defined block in
                let found = found_where (is_a s p_block) (children_at s p) b child in
                of_sense (sense b) c (free b (blocks p b external (list_in (children_at s p) found.1.0 b found.1.1) found.0)) core
            by (inr (init, found, core)) =
                let outer = and_then_some (outermost_of s (representative s senses e)) (initialiser_of s sense) init found in
                let outermost = found_above s (is_outermost s) (length s.nodes) outer.0 (parent_of s (representative s senses e)) outer.1 in
                let place = units_place tokens unit tree tag_number senses cut read outer.0 init outermost outer.2 in
                of_sense (sense init) c (free init (inits place.above init place.rest (parent_holds s t.grown place.above init place.parent))) core

        -- no tree in a body names it
        pub not_named : (c : Core) → IsInBody s senses c → (kind_of c ≡ Named d) ⊎ (kind_of c ≡ FunctionName d) → ⊥
        not_named c h e = by c e (within_held c h.body h.within (body_held h.leaf h.what h.body h.declared h.has))
          where
            by : (c : Core) → (kind_of c ≡ Named d) ⊎ (kind_of c ≡ FunctionName d) → Holds (IsFree d) c → ⊥
            by (Of (Named x) place type under) (inl e) held = held.0 (let same : x ≡ d = cc in same)
            by (Of (FunctionName x) place type under) (inr e) held = held.0 (let same : x ≡ d = cc in same)
            by (Of (Named x) place type under) (inr e) held = cc
            by (Of (FunctionName x) place type under) (inl e) held = cc
            by (Of kind place type under) (inl e) held = cc
            by (Of kind place type under) (inr e) held = cc

    -- ---- near everywhere

    pub always : (c : Core) (d : ℕ) → is_linked s sense d ≡ false → IsInBody s senses c → (kind_of c ≡ Named d) ⊎ (kind_of c ≡ FunctionName d) → (IsEntity d → ⊥) → ⊥
    always c d unlinked h e refuted =
        not_named d unlinked (λ i. ⊤) (record { parts = λ i k has off here. tt; lefts = λ i first rest post same here. tt }) (λ at here paired_is entity. refuted entity) (λ p b external child block. tt) (λ p i rest child. tt) c h e

    -- ---- near where no list of parameters stands above

    module _ (b : ℕ) (suffix : is_a s p_suffix b ≡ true) where
      abbrev Off : ℕ → Type 0
      Off i = ((q : ℕ) × IsPart s q i) × (Beneath (IsPart s) b i → ⊥)

      up_one : (i c : ℕ) → IsPart s i c → Beneath (IsPart s) b c → (b ≡ i) ⊎ Beneath (IsPart s) b i
      up_one i c r (part q) = inl (t.grown.once b i c q r)
      up_one i c r (deeper {i = j} e q) = inr (subst (λ (k : ℕ). Beneath (IsPart s) b k) (t.grown.once j i c q r) e)

      abbrev quiet : ℕ → Bool
      quiet q = q == p_unit || (q == p_external || (q == p_rest || (q == p_declaration || (q == p_block || q == p_statement))))

      abbrev Quiet : ℕ → Type 0
      Quiet i = quiet (production_at s i) ≡ true

      of_production : (i p : ℕ) → is_a s p i ≡ true → quiet p ≡ true → Quiet i
      of_production i p is h = subst (λ (q : ℕ). quiet q ≡ true) (sym (eqb-true (production_at s i) p is)) h

      two : (i p q : ℕ) → (is_a s p i || is_a s q i) ≡ true → quiet p ≡ true → quiet q ≡ true → Quiet i
      two i p q h k l = by (is_a s p i) (is_a s q i) refl refl h
        where
          by : (x y : Bool) → is_a s p i ≡ x → is_a s q i ≡ y → (x || y) ≡ true → Quiet i
          by true y e f g = of_production i p e k
          by false true e f g = of_production i q f l
          by false false e f g = cc

      above : (i c : ℕ) → IsPart s i c → Quiet c → Quiet i
      above i c r h =
          by (is_a s p_unit c) (is_a s p_external c) (is_a s p_rest c) (is_a s p_declaration c) (is_a s p_block c) (is_a s p_statement c) refl refl refl refl refl refl h
        where
          by : (u v w x y z : Bool) → is_a s p_unit c ≡ u → is_a s p_external c ≡ v → is_a s p_rest c ≡ w → is_a s p_declaration c ≡ x → is_a s p_block c ≡ y → is_a s p_statement c ≡ z → (u || (v || (w || (x || (y || z))))) ≡ true → Quiet i
          by true v w x y z eu ev ew ex ey ez h = absurd (no_both (is_a s p_unit c) eu (t.nested.units i c r))
          by false true w x y z eu ev ew ex ey ez h = of_production i p_unit (t.nested.externals i c r ev) refl
          by false false true x y z eu ev ew ex ey ez h = two i p_external p_declaration (t.nested.rests i c r ew) refl refl
          by false false false true y z eu ev ew ex ey ez h = two i p_block p_statement (t.nested.declarations i c r ex) refl refl
          by false false false false true z eu ev ew ex ey ez h = two i p_external p_statement (t.nested.blocks i c r ey) refl refl
          by false false false false false true eu ev ew ex ey ez h = two i p_block p_statement (t.nested.statements i c r ez) refl refl
          by false false false false false false eu ev ew ex ey ez h = cc

      never : Quiet b → ⊥
      never h = let no : quiet p_suffix ≡ true = subst (λ (q : ℕ). quiet q ≡ true) (eqb-true (production_at s b) p_suffix suffix) h in cc

      not_above : (c : ℕ) → Beneath (IsPart s) b c → Quiet c → ⊥
      not_above c (part r) h = never (above b c r h)
      not_above c (deeper {i = i} e r) h = not_above i e (above i c r h)

      off_closed : Parted s Off
      off_closed = record {
        parts = λ i c has off here. parts i c (list_in (children_at s i) has.0 c has.1) off here.1;
        lefts = λ i first rest post e here. left i first rest here.0.0 here.0.1 post e here.1;
      }
        where
          parts : (i c : ℕ) → IsPart s i c → is_a s p_suffix i ≡ false → (Beneath (IsPart s) b i → ⊥) → Off c
          parts i c r off free = ((i, r), λ down. by (up_one i c r down))
            where
              by : (b ≡ i) ⊎ Beneath (IsPart s) b i → ⊥
              by (inl same) = no_both (is_a s p_suffix i) (subst (λ (k : ℕ). is_a s p_suffix k ≡ true) same suffix) off
              by (inr down) = free down

          left : (i first : ℕ) (rest : List ℕ) (q : ℕ) → IsPart s q i → is_a s p_post i ≡ true → children_at s i ≡ first ∷ rest → (Beneath (IsPart s) b i → ⊥) → Off (left_of s first)
          left i first rest q r post e free = ((q, own), λ down. by (up_one q (left_of s first) own down))
            where
              own : IsPart s q (left_of s first)
              own = units_have_lefts tokens unit tree tag_number read i first q rest post e r

              by : (b ≡ q) ⊎ Beneath (IsPart s) b q → ⊥
              by (inl same) = free (part (subst (λ (k : ℕ). IsPart s k i) (sym same) r))
              by (inr down) = free (deeper down r)

      pub beside : (c : Core) (d : ℕ) → is_linked s sense d ≡ false → IsInBody s senses c → (kind_of c ≡ Named d) ⊎ (kind_of c ≡ FunctionName d) → ((at : ℕ) → paired s.uses at ≡ Some d → Beneath (IsPart s) b at) → ⊥
      beside c d unlinked h e stay =
          not_named d unlinked Off off_closed (λ at here paired_is entity. here.1 (stay at paired_is)) (λ p i external child block. ((p, child), λ down. not_above i down (of_production i p_block block refl)))
          (λ p i rest child. ((p, child), λ down. by p rest (up_one p i child down))) c h e
        where
          by : (p : ℕ) → is_a s p_rest p ≡ true → (b ≡ p) ⊎ Beneath (IsPart s) b p → ⊥
          by p rest (inl same) = never (subst Quiet (sym same) (of_production p p_rest rest refl))
          by p rest (inr down) = not_above p down (of_production p p_rest rest refl)
