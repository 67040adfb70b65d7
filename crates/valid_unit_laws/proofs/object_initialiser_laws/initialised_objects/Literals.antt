-- Compound literals' own objects.
use Rattle.std.proofs.Common.{◌≡◌, ◌<◌, ◌==◌, ℕ, zero, suc, Bool, true, false, ◌&&◌, ◌||◌, not, List, length, Option, Some, None, refl, sym, ap, ◌∙◌, subst}
use Rattle.std.specs.Prelude.{⊤, option_and_then, option_map, if◌then◌else◌}
use Rattle.pta_base.specs.declared.kind.Kind.TheVariants.{Operand}
use Rattle.c_types.specs.Trees.{Ctype, FloatingType}
use Rattle.c_grammar.specs.Productions.{p_type_name, p_items, p_cast, p_unary}
use Rattle.core_tree.specs.declared.node.NodeKind.{NodeKind}
use Rattle.core_tree.specs.declared.node.NodeKind.TheVariants.{Literal}
use Rattle.core_tree.specs.Rows.{IsFunction}
use Rattle.c_consts.specs.Core.{Core, Cores, Of, NoCores, MoreCores, kind_of, ctype_of, core_in}
use Rattle.c_inits.specs.Made.{shape_for}
use Rattle.c_inits.specs.View as view
use Rattle.c_senses.specs.Tree.{Source, is_a, is_name, first_where, all_nodes, child_of, parent_of, place_at}
use Rattle.c_senses.specs.Given.{Given, Fits, Refuses, ◌>>=◌}
use Rattle.c_senses.specs.World.{World}
use Rattle.c_senses.specs.Names.{source_of, numbered}
use Rattle.c_senses.specs.Conversions.{typed}
use Rattle.c_senses.specs.Limits.{within_limits}
use Rattle.c_senses.specs.Entities.{with_length, is_in_static, is_defined, initialiser_for}
use Rattle.c_senses.specs.Initialised.{most_elements, seen, outcome_of, opening, brace, braced, made_of, is_in_body, literal_of, literal_core, literal_type, literal_in}
use Rattle.c_senses.specs.Sense.{Sense, Nothing, IsCore, IsInitial, fits, sense_in}
use Rattle.c_senses.specs.Right.{IsLiteralOf, Declared, Within, Itself, Below, IsPart, declared_name, declares_entity, declared_as, entity_type, representative, body_at, block_for, core_of_sense}
use Rattle.c_senses.specs.Rows.{AreSenses, world_at}
use Rattle.parsed_tree_laws.specs.sense_laws.Sound.{Gives, Sound, AllSound, RowOver, list_of}
use Rattle.parsed_tree_laws.specs.sense_laws.Senses.{SoundSense}
use Rattle.parsed_tree_laws.proofs.sense_laws.All.{asked_sound}
use Rattle.parsed_tree_laws.proofs.sense_laws.Giving.{then_gives, if_given, and_left, and_right}
use Rattle.parsed_tree_laws.proofs.sense_laws.Types.{anything}
use Rattle.core_node_laws.specs.built_unit_laws.align_laws.Aligns.{AskedElseFit}
use Rattle.core_node_laws.proofs.built_unit_laws.align_laws.Fitting.{asked_aligns_fit}
use Rattle.parsed_tree_laws.proofs.sense_laws.parsed_laws.Constants.{constants_fit}
use Rattle.parsed_tree_laws.proofs.placed_laws.Climbing.{found_where}
use Rattle.core_node_laws.specs.standing_laws.Standing.{IsGrown}
use Rattle.parsed_tree_laws.proofs.grown_parts.Reading.{units_bring}
use Rattle.core_node_laws.proofs.built_unit_laws.run_laws.Times.{known_at, world_of, row_as, fitted}
use Rattle.core_node_laws.specs.built_unit_laws.built_rows.Rows.{parenthesis_of, is_list_of, core_type_of, types_declared}
use Rattle.core_node_laws.specs.built_unit_laws.built_rows.Rows as rows
use Rattle.valid_unit_laws.proofs.object_initialiser_laws.initial_entities.PassedOn.{grown, asked_fit}
use Rattle.declaration_laws.proofs.declared_type_laws.owner_laws.Unnamed.{literal_unnamed}
use Rattle.valid_unit_laws.specs.object_initialiser_laws.initialised_objects.Initialised.{IsOwnLiteral, LiteralsOwn}
use Rattle.valid_unit_laws.proofs.object_initialiser_laws.initialised_objects.Shapes.{function_below, outcome_object, has_sense}

some_one : {X : Type 0} → {x y : X} → ◌≡◌ {A = Option X} (Some x) (Some y) → x ≡ y
some_one h = cc

none_some : {X : Type 0} → {x : X} → ◌≡◌ {A = Option X} None (Some x) → ⊥
none_some h = cc

-- what the row of a list makes has no function's type
module _ (w : World) (s : Source) (sense : ℕ → Sense) where
  abbrev IsObjectCore : Core → Type 0
  IsObjectCore c = IsFunction (ctype_of c) → ⊥

  abbrev IsObjectSense : Sense → Type 0
  IsObjectSense x = (t : Ctype) → core_type_of x ≡ Some t → IsFunction t → ⊥

  as_object : (g : Given Core) → Gives IsObjectCore g → Gives IsObjectSense (g >>= fits)
  as_object (Fits c) h = λ t e function. h (subst IsFunction (sym (some_one e)) function)
  as_object (Refuses kind node) h = tt

  as_typed : (at : ℕ) (t : Ctype) (g : Given Core) → Gives IsObjectCore g → Gives IsObjectCore (typed at t g)
  as_typed at FloatingType g h = tt
  as_typed at t g h = h

  literal_gives : (at p : ℕ) (t : Ctype) → Gives IsObjectCore (literal_of w s sense at p t)
  literal_gives at p t =
      then_gives (λ o. IsFunction t → ⊥) IsObjectCore (outcome_of w s sense (brace w s sense p) (shape_for w.fillable most_elements t) (braced w s sense (brace w s sense p) (view.items_at (seen w s sense) s.nodes at))) _
      (outcome_object w s sense (brace w s sense p) w.fillable most_elements t (braced w s sense (brace w s sense p) (view.items_at (seen w s sense) s.nodes at)))
      (λ o object.
      then_gives (λ m. ⊤) IsObjectCore (made_of w s sense (not (is_in_body w s sense at)) (opening w s sense p) (place_at s (brace w s sense p)) t o) _ (anything _)
      (λ m k.
      if_given IsObjectCore (within_limits w (with_length m.length t) && not (is_in_body w s sense at && is_in_static s sense at)) Operand (opening w s sense p) (Fits (literal_core w s sense p t m))
      (λ small. λ function. object (function_below m.length t function))))

  in_gives : (at p : ℕ) (o : Option ℕ) → Gives IsObjectSense (literal_in w s sense at p o)
  in_gives at p None = tt
  in_gives at p (Some name) =
      as_object (literal_type w s sense at (sense name) >>= (λ type. typed (opening w s sense p) type (literal_of w s sense at p type)))
      (then_gives (λ t. ⊤) IsObjectCore (literal_type w s sense at (sense name)) (λ type. typed (opening w s sense p) type (literal_of w s sense at p type)) (anything _)
      (λ type k. as_typed (opening w s sense p) type (literal_of w s sense at p type) (literal_gives at p type)))

module _ (s : Source) (senses : List Sense) (are : AreSenses s senses) (sound : (i : ℕ) → SoundSense (world_at s senses (length senses)) (types_declared s senses) (sense_in senses i)) where
  abbrev w : World
  w = world_at s senses (length senses)

  abbrev types : ℕ → Option Ctype
  types = types_declared s senses

  abbrev S : Core → Type 0
  S = Sound w types

  -- ---- the list of a literal

  list_object : (i p : ℕ) → is_a s p_items i ≡ true → parent_of s i ≡ Some p → (is_a s p_cast p || is_a s p_unary p) ≡ true → i < length senses → IsObjectSense w s (sense_in senses) (sense_in senses i)
  list_object i p is parent over lt =
      let here : World = world_of s senses i in
      let f : ℕ → Sense = known_at s senses i in
      let made : Given Sense = literal_in here s f i p (child_of s p_type_name p) in
      let step : (elim (parent_of s i) as (λ _. Given Sense) [ None ↦ Fits Nothing | Some q ↦ if is_a s p_cast q || is_a s p_unary q then literal_in here s f i q (child_of s p_type_name q) else Fits Nothing ]) ≡ made =
      ap (λ (o : Option ℕ). elim o as (λ _. Given Sense) [ None ↦ Fits Nothing | Some q ↦ if is_a s p_cast q || is_a s p_unary q then literal_in here s f i q (child_of s p_type_name q) else Fits Nothing ]) parent
      ∙ ap (λ (b : Bool). if b then made else Fits Nothing) over in
      fitted (IsObjectSense here s f) made (sense_in senses i) (sym step ∙ row_as s senses are p_items i lt is) (in_gives here s f i p (child_of s p_type_name p))

  made_sense : (i : ℕ) (t : Ctype) → core_type_of (sense_in senses i) ≡ Some t → i < length senses
  made_sense i t e = by (sense_in senses i) refl e
    where
      by : (x : Sense) → sense_in senses i ≡ x → core_type_of x ≡ Some t → i < length senses
      by (IsCore c) is e = has_sense s senses i (IsCore c) is (λ no. cc)
      by x is e = cc

  listed : (leaf i : ℕ) (t : Ctype) → is_list_of s leaf i ≡ true → core_type_of (sense_in senses i) ≡ Some t → IsFunction t → ⊥
  listed leaf i t list e = by (parent_of s i) refl (and_right (is_a s p_items i) _ list)
    where
      by : (o : Option ℕ) → parent_of s i ≡ o → (elim o as (λ _. Bool) [ None ↦ false | Some q ↦ (is_a s p_cast q || is_a s p_unary q) && (parenthesis_of s q == leaf) ]) ≡ true → IsFunction t → ⊥
      by None parent h = cc
      by (Some q) parent h = list_object i q (and_left (is_a s p_items i) _ list) parent (and_left (is_a s p_cast q || is_a s p_unary q) (parenthesis_of s q == leaf) h) (made_sense i t e) t e

  typed_object : (leaf : ℕ) (t : Ctype) → is_name s leaf ≡ false → types leaf ≡ Some t → IsFunction t → ⊥
  typed_object leaf t unnamed e =
      by (first_where (is_list_of s leaf) (all_nodes s)) refl (sym (ap (λ (b : Bool). if b then entity_type s senses leaf else rows.literal_type s senses leaf) unnamed) ∙ e)
    where
      by : (o : Option ℕ) → first_where (is_list_of s leaf) (all_nodes s) ≡ o → option_and_then (λ i. core_type_of (sense_in senses i)) o ≡ Some t → IsFunction t → ⊥
      by None at k = absurd (none_some k)
      by (Some i) at k = listed leaf i t (found_where (is_list_of s leaf) (all_nodes s) i at) k

  -- ---- in trees

  part_in : (under : Cores) (k : ℕ) (c : Core) → AllSound w types under → core_in under k ≡ Some c → S c
  part_in NoCores k c h e = cc
  part_in (MoreCores x rest) zero c h e = subst S (some_one e) h.0
  part_in (MoreCores x rest) (suc k) c h e = part_in rest k c h.1 e

  part_sound : (part whole : Core) → S whole → IsPart s senses part whole → S part
  part_sound part (Of kind place type under) h p = part_in under p.0 part h.3 p.1

  within_sound : (c whole : Core) → Within s senses c whole → S whole → S c
  within_sound c whole Itself h = h
  within_sound c whole (Below {part = part} p inner) h = within_sound c part inner (part_sound part whole h p)

  of_sense : (x : Sense) (c : Core) → SoundSense w types x → core_of_sense s senses x ≡ Some c → S c
  of_sense (IsCore y) c h e = subst S (some_one e) h
  of_sense (IsInitial y n) c h e = subst S (some_one e) h.0
  of_sense x c h e = cc

  body_sound : (r : ℕ) (c : Core) → body_at s senses r ≡ Some c → S c
  body_sound r c e = by (is_defined s (sense_in senses) r) (block_for s senses r) (initialiser_for s (sense_in senses) r) e
    where
      at : (o : Option ℕ) → option_and_then (λ b. core_of_sense s senses (sense_in senses b)) o ≡ Some c → S c
      at None e = absurd (none_some e)
      at (Some b) e = of_sense (sense_in senses b) c (sound b) e

      by : (d : Bool) (block init : Option ℕ) → (if d then option_and_then (λ b. core_of_sense s senses (sense_in senses b)) block else option_and_then (λ b. core_of_sense s senses (sense_in senses b)) init) ≡ Some c → S c
      by true block init e = at block e
      by false block init e = at init e

  declared_body : (d : ℕ) (what : Declared) (c : Core) → declared_name s senses d ≡ Some what → what.body ≡ Some c → S c
  declared_body d what c e body = by (declares_entity s senses d) (entity_type s senses d) e
    where
      by : (b : Bool) (t : Option Ctype) → (if b then option_map (declared_as s senses d) t else None) ≡ Some what → S c
      by false t e = absurd (none_some e)
      by true None e = absurd (none_some e)
      by true (Some t) e =
          let same : declared_as s senses d t ≡ what = some_one e in
          body_sound (representative s senses d) c (ap (λ (x : Declared). x.body) same ∙ body)

  -- the row of a literal
  of_literal : (leaf : ℕ) (c : Core) → S c → kind_of c ≡ Literal leaf → is_name s leaf ≡ false → IsOwnLiteral leaf c
  of_literal leaf (Of kind place type under) h e unnamed = by under (subst (λ (k : NodeKind). RowOver w types k type (list_of under)) e h.0)
    where
      by : (cs : Cores) → RowOver w types (Literal leaf) type (list_of cs) → IsOwnLiteral leaf (Of kind place type cs)
      by NoCores h = absurd h
      by (MoreCores x NoCores) h = record { initial = x; first = refl; initialises = h.1; object = typed_object leaf type unnamed h.0 }
      by (MoreCores x (MoreCores y rest)) h = absurd h

  pub own_literal : (leaf : ℕ) (c : Core) → IsLiteralOf s senses leaf c → IsOwnLiteral leaf c
  own_literal leaf c literal =
      let (kind, (d, what, body, named, is, within)) = literal in
      of_literal leaf c (within_sound c body within (declared_body d what body named is)) kind (literal_unnamed s senses are leaf c literal)

pub literals_own : LiteralsOwn
literals_own tokens unit tree tag_number senses cut is are fit leaf c literal =
    let s : Source = numbered tag_number (source_of tokens tree) in
    let grew : IsGrown s = grown tokens unit tree tag_number cut is in
    let asked : AskedElseFit (types_declared s senses) s senses = asked_fit s senses are grew (units_bring tokens unit tree tag_number is) fit in
    let all = asked_aligns_fit (types_declared s senses) s senses are grew.first (constants_fit tokens tree tag_number cut) grew.statements asked in
    own_literal s senses are (λ i. (asked_sound (types_declared s senses) s senses are grew.first (constants_fit tokens tree tag_number cut) grew.statements all i).0) leaf c literal
