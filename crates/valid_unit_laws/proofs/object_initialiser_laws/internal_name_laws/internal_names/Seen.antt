-- All declarations that are seen where an internal name is declared are of that name.
use Rattle.std.proofs.Common.{arith, ◌≡◌, ◌⊎◌, inl, inr, nat_eq, ℕ, Bool, true, false, ◌&&◌, ◌||◌, not, List, [], ◌∷◌, ◌++◌, length, slice_get, Option, Some, None, eq-eqb, refl, sym, ap, ◌∙◌, subst}
use Rattle.std.specs.Prelude.{option_and_then, is_some, if◌then◌else◌}
use Rattle.c_grammar.specs.Words.{word_extern, word_static}
use Rattle.c_grammar.specs.Terminals.{contains}
use Rattle.c_scope.specs.declared.kinds.Declared.{Declared}
use Rattle.c_scope.specs.Known.{those_at}
use Rattle.c_senses.specs.Tree.{Source}
use Rattle.c_senses.specs.Names.{has_linkage, made_before, linked_along, linked_before, before_in_scope, scopes_at, ordinary_at}
use Rattle.c_senses.specs.World.{World}
use Rattle.c_senses.specs.Declarators.{is_outermost, outermost_of, specs_of}
use Rattle.c_senses.specs.Entities.{is_linked, is_internal, is_internal_of, internal_among, keep, some_such, is_at_file, is_typedef, is_defined, has_storage, declares_function, is_without_storage, takes_over, is_static_at_file, specified_of, initialiser_of, has_function_words, is_in_for, words_go, has_one_linkage, same_internal}
use Rattle.c_senses.specs.Sense.{Sense, Specified, sense_in}
use Rattle.c_senses.specs.Rows.{AreSenses}
use Rattle.declaration_laws.specs.function_laws.passed.definition_laws.scope_laws.Scoped.{DeclaredOnce}
use Rattle.parsed_tree_laws.proofs.placed_laws.Climbing.{Grown}
use Rattle.declaration_laws.specs.function_laws.passed.definition_laws.linkage_laws.Linked.{StandsLinked}
use Rattle.declaration_laws.proofs.declared_type_laws.passed.built_unit_laws.run_laws.Times.{known_at, world_of}
use Rattle.declaration_laws.proofs.declared_type_laws.plain_names.Later.{known_later, told}
use Rattle.declaration_laws.specs.declared_type_laws.declared_leaves.Leaves.{IsDeclaredBy}
use Rattle.declaration_laws.specs.function_laws.passed.definition_laws.earlier_initialisers.Earlier.{StandsDeclaring}
use Rattle.declaration_laws.specs.declared_type_laws.seen_onward.Seen as spec
use Rattle.declaration_laws.proofs.declared_type_laws.seen_onward.Lists.{in_those, to_those, seen_first, IsSeen, seen, all_have}
use Rattle.declaration_laws.specs.declared_type_laws.declared_once.Once.{IsDeclaredOnce}
use Rattle.declaration_laws.proofs.declared_type_laws.declared_once.Knowing.{In, kept_in}
use Rattle.valid_unit_laws.proofs.object_initialiser_laws.internal_name_laws.internal_types.PassedOn.{SplitAt, split_at, behind_front, in_kept}
use Rattle.declaration_laws.specs.declared_type_laws.linked_scopes.Scoped.{AreScoped}
use Rattle.valid_unit_laws.proofs.object_initialiser_laws.internal_name_laws.internal_types.Asked.{declarator_asked}
use Rattle.valid_unit_laws.proofs.object_initialiser_laws.internal_name_laws.internal_names.Lists.{to_seen, from_seen, in_at, finds, either_side, append_behind, such, such_true, same_linkage}

some_one : {X : Type 0} → {x y : X} → ◌≡◌ {A = Option X} (Some x) (Some y) → x ≡ y
some_one h = cc

both : (a b : Bool) → (a && b) ≡ true → (a ≡ true) × (b ≡ true)
both true true e = (refl, refl)
both true false e = cc
both false b e = cc

and_of : (a b : Bool) → a ≡ true → b ≡ true → (a && b) ≡ true
and_of true true e f = refl
and_of true false e f = cc
and_of false b e f = cc

no_both : (b : Bool) → b ≡ true → b ≡ false → ⊥
no_both b e f = let bad : true ≡ false = sym e ∙ f in cc

or_either : (a b : Bool) → (a || b) ≡ true → (a ≡ true) ⊎ (b ≡ true)
or_either true b e = inl refl
or_either false b e = inr e

or_first : (a b : Bool) → a ≡ true → (a || b) ≡ true
or_first true b e = refl
or_first false b e = cc

or_then : (a b : Bool) → b ≡ true → (a || b) ≡ true
or_then true b e = refl
or_then false b e = e

same_bools : (a b : Bool) → (a ≡ true → b ≡ true) → (b ≡ true → a ≡ true) → a ≡ b
same_bools true b h k = sym (h refl)
same_bools false true h k = k refl
same_bools false false h k = refl

-- a function that is declared in a block has no word but `extern`
block_words : (function_words typedefs function initialised file extern defined without a : Bool)
    → (not (function_words && (typedefs || not function)) && (not (initialised && (typedefs || (function || (not file && extern)))) && (not (function && (not file && not (without || extern))) && (not (typedefs && defined) && a)))) ≡ true
    → function ≡ true → file ≡ false → extern ≡ false → without ≡ true
block_words w t true i false false d true a h e f g = refl
block_words w t true i false false d false a h e f g = absurd (no_both _ h (last (not (w && (t || false))) (not (i && (t || true))) (not (t && d) && a)))
  where
    last : (x y z : Bool) → (x && (y && (false && z))) ≡ false
    last true true z = refl
    last true false z = refl
    last false y z = refl
block_words w t false i file x d o a h e f g = cc
block_words w t true i true x d o a h e f g = cc
block_words w t true i false true d o a h e f g = cc

module _ (s : Source) (tree : Grown s) (names_once : DeclaredOnce s) (scoped : AreScoped s) (senses : List Sense) (are : AreSenses s senses) (whole : length senses ≡ length s.nodes) (once : IsDeclaredOnce s senses)
    (stands : (leaf : ℕ) → is_linked s (sense_in senses) leaf ≡ true → StandsLinked s (sense_in senses) leaf) where
  abbrev G : ℕ → Sense
  G = sense_in senses

  abbrev F : ℕ → ℕ → Sense
  F n = known_at s senses n

  abbrev W : ℕ → World
  W n = world_of s senses n

  abbrev ordinary : List Declared
  ordinary = s.declared.ordinary

  -- ---- a declaration of a name with linkage

  pub record Entry (d : Declared) : Type 0 where
    pub there : In d s.declared.ordinary
    pub links : has_linkage d ≡ true
    pub at : ordinary_at s d.node ≡ Some d
    pub linked : is_linked s (sense_in senses) d.node ≡ true

  pub entry : (d : Declared) → In d s.declared.ordinary → has_linkage d ≡ true → Entry d
  entry d there links =
      let found = finds d.node ordinary d there refl in
      let i = in_at ordinary d there in
      let j = in_at ordinary found.0 found.2 in
      let place = names_once.names i.0 j.0 d found.0 i.1 j.1 (sym found.3) in
      let same : found.0 ≡ d = sym (some_one (sym i.1 ∙ (ap (slice_get ordinary) place ∙ j.1))) in
      let at : ordinary_at s d.node ≡ Some d = found.1 ∙ ap Some same in
      record { there = there; links = links; at = at; linked = ap (λ (o : Option Declared). elim o as (λ _. Bool) [ None ↦ false | Some y ↦ has_linkage y ]) at ∙ links }

  -- its declarator, and what the row of that asks
  pub record Row (d : Declared) : Type 0 where
    pub declarator : ℕ
    pub declares : StandsDeclaring s declarator
    pub outer : is_outermost s declarator ≡ true
    pub one : IsDeclaredBy s senses declarator d.node
    pub words : words_go (world_of s senses declarator) s (known_at s senses declarator) (is_some (initialiser_of s (known_at s senses declarator) declarator)) d.node ≡ true
    pub linkage : has_one_linkage (world_of s senses declarator) s (known_at s senses declarator) d.node ≡ true

  pub row : (d : Declared) → Entry d → Row d
  row d e =
      let st = once.stands d.node e.linked in
      let below = tree.before st.1.0 st.0 st.1.2 in
      let within = tree.within st.1.0 st.0 st.1.2 in
      let asked = declarator_asked s tree senses are st.0 d.node st.3 (omega (arith, below, within, whole)) st.1 st.2 in
      record { declarator = st.0; declares = st.1; outer = st.2; one = st.3; words = asked.words; linkage = asked.linkage }

  -- ---- one linkage in a scope

  -- what is known of earlier declarations of its name at its declarator
  known_before : (x d : Declared) (e : Entry x) (r : Row x) → In d (made_before x.node s.declared.ordinary) → d.symbol ≡ x.symbol → is_internal s (F r.declarator) d.node ≡ is_internal s G d.node
  known_before x d e r i symbol =
      same_bools (is_internal s (F r.declarator) d.node) (is_internal s G d.node)
      (λ h. (both (nat_eq d.symbol x.symbol) (is_internal s G d.node) (kept_in s G (is_internal_of s G x.symbol) (made_before x.node ordinary) d (subst (In d) before (in_kept s (F r.declarator) (is_internal_of s (F r.declarator) x.symbol) (made_before x.node ordinary) d i (and_of (nat_eq d.symbol x.symbol) (is_internal s (F r.declarator) d.node) (eq-eqb d.symbol x.symbol symbol) h)))).1).1)
      (λ h. (both (nat_eq d.symbol x.symbol) (is_internal s (F r.declarator) d.node) (kept_in s (F r.declarator) (is_internal_of s (F r.declarator) x.symbol) (made_before x.node ordinary) d (subst (In d) (sym before) (in_kept s G (is_internal_of s G x.symbol) (made_before x.node ordinary) d i (and_of (nat_eq d.symbol x.symbol) (is_internal s G d.node) (eq-eqb d.symbol x.symbol symbol) h)))).1).1)
    where
      before : keep s (F r.declarator) (is_internal_of s (F r.declarator) x.symbol) (made_before x.node s.declared.ordinary) ≡ keep s G (is_internal_of s G x.symbol) (made_before x.node s.declared.ordinary)
      before =
          sym (ap (internal_among s (F r.declarator) (made_before x.node s.declared.ordinary)) e.at)
          ∙ (once.before x.node r.declarator r.declarator e.linked r.one.outermost (omega arith) ∙ ap (internal_among s G (made_before x.node s.declared.ordinary)) e.at)

  pub one_linkage : (x d : Declared) → Entry x → In d (those_at x.scope x.symbol (made_before x.node s.declared.ordinary)) → is_internal s G d.node ≡ is_internal s G x.node
  one_linkage x d e i =
      let r = row x e in
      let m = r.declarator in
      let at = in_those x.scope x.symbol (made_before x.node ordinary) d (to_seen d (those_at x.scope x.symbol (made_before x.node ordinary)) i) in
      let here : is_internal s (F m) x.node ≡ is_internal s G x.node = once.internal x.node m m e.linked r.one.outermost (omega arith) in
      let asked : same_internal (W m) s (F m) (is_internal s (F m) x.node) (before_in_scope s (ordinary_at s x.node)) ≡ true = second (is_linked s (F m) x.node) _ e.linked r.linkage in
      let list : same_internal (W m) s (F m) (is_internal s (F m) x.node) (those_at x.scope x.symbol (made_before x.node ordinary)) ≡ true = ap (λ (o : Option Declared). same_internal (W m) s (F m) (is_internal s (F m) x.node) (before_in_scope s o)) (sym e.at) ∙ asked in
      sym (known_before x d e r (from_seen d (made_before x.node ordinary) at.0) at.2) ∙ (same_linkage (W m) s (F m) (is_internal s (F m) x.node) (those_at x.scope x.symbol (made_before x.node ordinary)) d list i ∙ here)
    where
      second : (a b : Bool) → a ≡ true → (not a || b) ≡ true → b ≡ true
      second true b e h = h
      second false b e h = cc

  -- two declarations of a name in a scope have one linkage
  pair_linkage : (a b : Declared) → Entry a → Entry b → a.scope ≡ b.scope → a.symbol ≡ b.symbol → is_internal s G a.node ≡ is_internal s G b.node
  pair_linkage a b e f scope symbol = by (either_side split.front a split.back b (subst (In b) split.are f.there))
    where
      split : SplitAt s.declared.ordinary a
      split = split_at s.declared.ordinary a e.there

      alone_a : made_before a.node s.declared.ordinary ≡ split.front
      alone_a = (once.alone split.front a split.back split.are e.linked).0

      behind : In b split.back → is_internal s G a.node ≡ is_internal s G b.node
      behind h =
          let more = split_at split.back b h in
          let all : s.declared.ordinary ≡ (split.front ++ a ∷ more.front) ++ b ∷ more.back = split.are ∙ (ap (λ (l : List Declared). split.front ++ a ∷ l) more.are ∙ append_behind split.front a more.front b more.back) in
          let alone_b = (once.alone (split.front ++ a ∷ more.front) b more.back all f.linked).0 in
          let before : In a (made_before b.node s.declared.ordinary) = subst (In a) (sym alone_b) (behind_front split.front a more.front) in
          one_linkage b a f (from_seen a (those_at b.scope b.symbol (made_before b.node s.declared.ordinary)) (to_those b.scope b.symbol (made_before b.node s.declared.ordinary) a (to_seen a (made_before b.node s.declared.ordinary) before) scope symbol))

      by : In b split.front ⊎ ((a ≡ b) ⊎ In b split.back) → is_internal s G a.node ≡ is_internal s G b.node
      by (inl h) =
          let before : In b (made_before a.node s.declared.ordinary) = subst (In b) (sym alone_a) h in
          sym (one_linkage a b e (from_seen b (those_at a.scope a.symbol (made_before a.node s.declared.ordinary)) (to_those a.scope a.symbol (made_before a.node s.declared.ordinary) b (to_seen b (made_before a.node s.declared.ordinary) before) (sym scope) (sym symbol))))
      by (inr (inl same)) = ap (λ (y : Declared). is_internal s G y.node) same
      by (inr (inr h)) = behind h

  -- ---- what is seen

  pub record Sees (x d : Declared) : Type 0 where
    pub entry : Entry d
    pub symbol : d.symbol ≡ x.symbol
    pub before : In d (made_before x.node s.declared.ordinary)

  pub sees : (x d : Declared) → In d (linked_before s (Some x)) → Sees x d
  sees x d h =
      let told : IsSeen x.symbol (made_before x.node ordinary) (scopes_at s x.node) d = seen x.symbol (made_before x.node ordinary) (scopes_at s x.node) d (to_seen d (linked_before s (Some x)) h) in
      let of = in_those d.scope x.symbol (made_before x.node ordinary) d told.there in
      let before : In d (made_before x.node ordinary) = from_seen d (made_before x.node ordinary) of.0 in
      record { entry = entry d (of_all ordinary before) (all_have (those_at d.scope x.symbol (made_before x.node ordinary)) d told.linked told.there); symbol = of.2; before = before }
    where
      of_all : (ds : List Declared) → In d (made_before x.node ds) → In d ds
      of_all [] h = absurd h
      of_all (y ∷ ds) h = by (nat_eq y.node x.node) h (λ k. of_all ds k)
        where
          by : (b : Bool) → In d (if b then [] else y ∷ made_before x.node ds) → (In d (made_before x.node ds) → In d ds) → In d (y ∷ ds)
          by true h later = absurd h
          by false (inl same) later = inl same
          by false (inr h) later = inr (later h)

  -- at file scope only what is there is seen
  pub at_file : (x d : Declared) → Entry x → is_at_file s G x.node ≡ true → In d (linked_before s (Some x)) → In d (those_at x.scope x.symbol (made_before x.node s.declared.ordinary))
  at_file x d e at h =
      let where_is = scoped.file G x (to_seen x ordinary e.there) e.links at in
      let flat = subst (λ (l : List ℕ). In d (linked_along l x.symbol (made_before x.node ordinary))) where_is.1 h in
      by where_is.0 (seen_first x.symbol (made_before x.node ordinary) (length s.nodes) [] d (to_seen d (linked_along (length s.nodes ∷ []) x.symbol (made_before x.node ordinary)) flat)).1
    where
      by : x.scope ≡ length s.nodes → spec.In d (linked_along [] x.symbol (made_before x.node s.declared.ordinary)) ⊎ spec.In d (those_at (length s.nodes) x.symbol (made_before x.node s.declared.ordinary)) → In d (those_at x.scope x.symbol (made_before x.node s.declared.ordinary))
      by scope (inl none) = absurd none
      by scope (inr here) = subst (λ (k : ℕ). In d (those_at k x.symbol (made_before x.node s.declared.ordinary))) (sym scope) (from_seen d (those_at (length s.nodes) x.symbol (made_before x.node s.declared.ordinary)) here)

  -- a declaration in a block takes over what it sees
  takes : (d : Declared) → Entry d → is_at_file s G d.node ≡ false → takes_over s G d.node ≡ true
  takes d e inner = by (has_storage s G word_extern d.node) refl
    where
      r : Row d
      r = row d e

      words_same : specified_of s (F r.declarator) d.node ≡ specified_of s G d.node
      words_same = r.one.told ∙ sym (told s (F r.declarator) G (known_later s senses r.declarator) (option_and_then (specs_of s) (outermost_of s d.node)) r.one.words r.one.told)

      function : has_storage s G word_extern d.node ≡ false → declares_function s G d.node ≡ true
      function none = pick (declares_function s G d.node) (is_at_file s G d.node) (has_storage s G word_extern d.node) (stands d.node e.linked).declared inner none
        where
          pick : (a b c : Bool) → (a || (b || c)) ≡ true → b ≡ false → c ≡ false → a ≡ true
          pick true b c h e f = refl
          pick false true c h e f = cc
          pick false false true h e f = cc
          pick false false false h e f = cc

      by : (b : Bool) → has_storage s G word_extern d.node ≡ b → takes_over s G d.node ≡ true
      by true extern = or_first (has_storage s G word_extern d.node) _ extern
      by false none =
          let m = r.declarator in
          let f = F m in
          let none_here : has_storage s f word_extern d.node ≡ false = ap (λ (o : Option Specified). elim o as (λ _. Bool) [ None ↦ false | Some x ↦ contains x.storage word_extern ]) words_same ∙ none in
          let without : is_without_storage s f d.node ≡ true =
          block_words (has_function_words (W m) s f d.node) (is_typedef s f d.node) (declares_function s f d.node) (is_some (initialiser_of s f m)) (is_at_file s f d.node) (has_storage s f word_extern d.node) (is_defined s f d.node) (is_without_storage s f d.node)
          (not (is_in_for (W m) s f d.node && (is_typedef s f d.node || (declares_function s f d.node || (has_storage s f word_static d.node || has_storage s f word_extern d.node))))) r.words (function none) inner none_here in
          let without_g : is_without_storage s G d.node ≡ true = ap (λ (o : Option Specified). elim o as (λ _. Bool) [ None ↦ true | Some x ↦ elim x.storage as (λ _. Bool) [ [] ↦ true | word ∷ rest ↦ false ] ]) (sym words_same) ∙ without in
          or_then (has_storage s G word_extern d.node) (declares_function s G d.node && is_without_storage s G d.node) (and_of (declares_function s G d.node) (is_without_storage s G d.node) (function none) without_g)

  -- what an internal name sees is internal
  pub internal_seen : (x d : Declared) → Entry x → is_internal s G x.node ≡ true → In d (linked_before s (Some x)) → is_internal s G d.node ≡ true
  internal_seen x d e internal h = by (is_at_file s G x.node) refl
    where
      sd : Sees x d
      sd = sees x d h

      found : is_at_file s G x.node ≡ false → (y : Declared) × In y (linked_before s (Some x)) × (is_static_at_file s G y.node ≡ true)
      found inner =
          let parts = both (is_linked s G x.node) _ internal in
          pick (or_either (is_static_at_file s G x.node) _ parts.1)
        where
          pick : (is_static_at_file s G x.node ≡ true) ⊎ ((takes_over s G x.node && some_such s G (λ y. is_static_at_file s G y.node) (linked_before s (ordinary_at s x.node))) ≡ true)
              → (y : Declared) × In y (linked_before s (Some x)) × (is_static_at_file s G y.node ≡ true)
          pick (inl static) = absurd (no_both (is_at_file s G x.node) (both (is_at_file s G x.node) (has_storage s G word_static x.node) static).0 inner)
          pick (inr takes) =
              such s G (λ y. is_static_at_file s G y.node) (linked_before s (Some x))
              (ap (λ (o : Option Declared). some_such s G (λ y. is_static_at_file s G y.node) (linked_before s o)) (sym e.at) ∙ (both (takes_over s G x.node) (some_such s G (λ y. is_static_at_file s G y.node) (linked_before s (ordinary_at s x.node))) takes).1)

      by_static : (y : Declared) → In y (linked_before s (Some x)) → is_static_at_file s G y.node ≡ true → is_internal s G d.node ≡ true
      by_static y there static = pick (is_at_file s G d.node) refl
        where
          sy : Sees x y
          sy = sees x y there

          file_y : is_at_file s G y.node ≡ true
          file_y = (both (is_at_file s G y.node) (has_storage s G word_static y.node) static).0

          scope_y : y.scope ≡ length s.nodes
          scope_y = (scoped.file G y (to_seen y s.declared.ordinary sy.entry.there) sy.entry.links file_y).0

          internal_y : is_internal s G y.node ≡ true
          internal_y = and_of (is_linked s G y.node) _ sy.entry.linked (or_first (is_static_at_file s G y.node) (takes_over s G y.node && some_such s G (λ z. is_static_at_file s G z.node) (linked_before s (ordinary_at s y.node))) static)

          pick : (b : Bool) → is_at_file s G d.node ≡ b → is_internal s G d.node ≡ true
          pick true file =
              let scope_d : d.scope ≡ length s.nodes = (scoped.file G d (to_seen d s.declared.ordinary sd.entry.there) sd.entry.links file).0 in
              pair_linkage d y sd.entry sy.entry (scope_d ∙ sym scope_y) (sd.symbol ∙ sym sy.symbol) ∙ internal_y
          pick false inner =
              let saw = scoped.outer x d y (to_seen x s.declared.ordinary e.there) e.links (to_seen d (linked_before s (Some x)) h) (to_seen y (linked_before s (Some x)) there) (λ own. scoped.inner G d (to_seen d s.declared.ordinary sd.entry.there) sd.entry.links inner own) scope_y in
              let some : some_such s G (λ z. is_static_at_file s G z.node) (linked_before s (Some d)) ≡ true = such_true s G (λ z. is_static_at_file s G z.node) (linked_before s (Some d)) y (from_seen y (linked_before s (Some d)) saw) static in
              let some_at : some_such s G (λ z. is_static_at_file s G z.node) (linked_before s (ordinary_at s d.node)) ≡ true = ap (λ (o : Option Declared). some_such s G (λ z. is_static_at_file s G z.node) (linked_before s o)) sd.entry.at ∙ some in
              and_of (is_linked s G d.node) _ sd.entry.linked (or_then (is_static_at_file s G d.node) (takes_over s G d.node && some_such s G (λ z. is_static_at_file s G z.node) (linked_before s (ordinary_at s d.node)))
              (and_of (takes_over s G d.node) (some_such s G (λ z. is_static_at_file s G z.node) (linked_before s (ordinary_at s d.node))) (takes d sd.entry inner) some_at))

      by : (b : Bool) → is_at_file s G x.node ≡ b → is_internal s G d.node ≡ true
      by true file = one_linkage x d e (at_file x d e file h) ∙ internal
      by false inner = let y = found inner in by_static y.0 y.1 y.2
