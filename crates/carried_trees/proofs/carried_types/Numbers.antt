-- Types carried one after another.
use Rattle.std.proofs.Common.{arith, ◌≡◌, ◌∙◌, ℕ, ◌+◌, ◌<◌, ◌≤◌, Bool, false, ◌&&◌, inl, inr, List, [], ◌∷◌, ◌++◌, All, length, length-append, get_or, map, Option, Some, None, refl, sym, ap}
use Rattle.std.proofs.lemmas.Bool.Decides.{eqb_tells}
use Rattle.std.proofs.lemmas.List.{get_or_append_left}
use Rattle.std.proofs.lemmas.List.Elements.{All-head, All-tail, All-cons}
use Rattle.std.proofs.Math.Seq.{get_or-append_seam}
use Rattle.std.specs.Option.{option_map, is_some}
use Rattle.c_types.specs.declared.term.Term.{Term}
use Rattle.c_types.specs.declared.term.Term.TheVariants.{Void, Bool as BoolTerm, Integer, Floating, VaList, Pointer, Array, Function, Structure, Union}
use Rattle.c_types.specs.declared.term.TypeId.{TypeId}
use Rattle.c_types.specs.Trees.{Ctype, Ctypes, VoidType, PointerTo, ArrayOf, FunctionFrom, tree_at, trees_at, grow}
use Rattle.c_types.specs.Table.{Table, types_of, type_of, IsAfter}
use Rattle.carried_trees.specs.carried_types.Types.{or_void, carried_type, carried_types, is_given_type, are_given_types}
use Rattle.carried_trees.specs.carried_types.Terms.{IsGrown, id_in, moved_term, type_or, term_type, tag_type, all_in, is_given_term, AreTypes, IsIdIn, AreTagIds}

module _ (old new : Table) (tag : ℕ → Option Ctype) (count : ℕ) (ids : List ℕ) (given : List Bool) (h : AreTypes tag old count ids given new) where
  ids_carried : (ps : List TypeId) → All (λ id. id.0 < count) ps → trees_at (types_of new) (map (id_in ids) ps) ≡ carried_types tag (trees_at (types_of old) ps)
  ids_carried [] all = refl
  ids_carried (p ∷ ps) all =
      let first : tree_at (types_of new) (get_or ids p.0 0) ≡ carried_type tag (tree_at (types_of old) p.0) = h.types p.0 (All-head (λ (id : TypeId). id.0 < count) p ps all) in
      let rest : trees_at (types_of new) (map (id_in ids) ps) ≡ carried_types tag (trees_at (types_of old) ps) = ids_carried ps (All-tail (λ (id : TypeId). id.0 < count) p ps all) in
      cc

  ids_given : (ps : List TypeId) → All (λ id. id.0 < count) ps → all_in given ps ≡ are_given_types tag (trees_at (types_of old) ps)
  ids_given [] all = refl
  ids_given (p ∷ ps) all =
      let first : get_or given p.0 false ≡ is_given_type tag (tree_at (types_of old) p.0) = h.given_are p.0 (All-head (λ (id : TypeId). id.0 < count) p ps all) in
      let rest : all_in given ps ≡ are_given_types tag (trees_at (types_of old) ps) = ids_given ps (All-tail (λ (id : TypeId). id.0 < count) p ps all) in
      ap (λ (b : Bool). b && all_in given ps) first ∙ ap (λ (b : Bool). is_given_type tag (tree_at (types_of old) p.0) && b) rest

module _ (table new : Table) (more : (id : ℕ) → id < length table.terms → type_of new id ≡ type_of table id) where
  tag_carried : (o : Option ℕ) → IsIdIn table o → type_or new VoidType o ≡ or_void (option_map (λ (id : ℕ). type_of table id) o)
  tag_carried None h = refl
  tag_carried (Some id) h = more id h

tag_given : (table : Table) (o : Option ℕ) → is_some o ≡ is_some (option_map (λ (id : ℕ). type_of table id) o)
tag_given table None = refl
tag_given table (Some id) = refl

-- the type of a term is that of the other table, carried
module _ (table old new : Table) (tags : List (Option ℕ)) (in_table : AreTagIds tags table) (more : (id : ℕ) → id < length table.terms → type_of new id ≡ type_of table id) (count : ℕ) (ids : List ℕ) (given : List Bool) (h : AreTypes (tag_type table tags) old count ids given new) where
  pub term_carried : (term : Term) → IsAfter count term → term_type new ids tags term ≡ carried_type (tag_type table tags) (grow (types_of old) term)
  term_carried Void after = refl
  term_carried BoolTerm after = refl
  term_carried (Integer size rank signed) after = refl
  term_carried Floating after = refl
  term_carried VaList after = refl
  term_carried (Pointer to) after = ap PointerTo (h.types to.0 after)
  term_carried (Array of n) after = ap (λ (t : Ctype). ArrayOf t n) (h.types of.0 after)
  term_carried (Function result parameters form) after =
      let first : tree_at (types_of new) (get_or ids result.0 0) ≡ carried_type (tag_type table tags) (tree_at (types_of old) result.0) = h.types result.0 after.0 in
      let rest : trees_at (types_of new) (map (id_in ids) parameters) ≡ carried_types (tag_type table tags) (trees_at (types_of old) parameters) = ids_carried old new (tag_type table tags) count ids given h parameters after.1 in
      ap (λ (t : Ctype). FunctionFrom t (trees_at (types_of new) (map (id_in ids) parameters)) form) first
      ∙ ap (λ (ts : Ctypes). FunctionFrom (carried_type (tag_type table tags) (tree_at (types_of old) result.0)) ts form) rest
  term_carried (Structure k) after = tag_carried table new more (get_or tags k None) (in_table k)
  term_carried (Union k) after = tag_carried table new more (get_or tags k None) (in_table k)

  pub term_given : (term : Term) → IsAfter count term → is_given_term given tags term ≡ is_given_type (tag_type table tags) (grow (types_of old) term)
  term_given Void after = refl
  term_given BoolTerm after = refl
  term_given (Integer size rank signed) after = refl
  term_given Floating after = refl
  term_given VaList after = refl
  term_given (Pointer to) after = h.given_are to.0 after
  term_given (Array of n) after = h.given_are of.0 after
  term_given (Function result parameters form) after =
      let first : get_or given result.0 false ≡ is_given_type (tag_type table tags) (tree_at (types_of old) result.0) = h.given_are result.0 after.0 in
      let rest : all_in given parameters ≡ are_given_types (tag_type table tags) (trees_at (types_of old) parameters) = ids_given old new (tag_type table tags) count ids given h parameters after.1 in
      ap (λ (b : Bool). b && all_in given parameters) first ∙ ap (λ (b : Bool). is_given_type (tag_type table tags) (tree_at (types_of old) result.0) && b) rest
  term_given (Structure k) after = tag_given table (get_or tags k None)
  term_given (Union k) after = tag_given table (get_or tags k None)

-- one type more
module _ (tag : ℕ → Option Ctype) (old new newer : Table) (count : ℕ) (ids ids' : List ℕ) (given given' : List Bool) (h : AreTypes tag old count ids given new) (long : length new.terms ≤ length newer.terms) (more : (id : ℕ) → id < length new.terms → type_of newer id ≡ type_of new id) (id : ℕ) (flag : Bool) (e : ids' ≡ ids ++ id ∷ []) (f : given' ≡ given ++ flag ∷ []) where
  id_kept : (j : ℕ) → j < count → get_or ids' j 0 ≡ get_or ids j 0
  id_kept j lt = ap (λ (l : List ℕ). get_or l j 0) e ∙ get_or_append_left ids (id ∷ []) 0 j (omega (arith, lt, h.long))

  id_last : get_or ids' count 0 ≡ id
  id_last = ap (λ (l : List ℕ). get_or l count 0) e ∙ (ap (λ (j : ℕ). get_or (ids ++ id ∷ []) j 0) (sym h.long) ∙ get_or-append_seam ids id [] 0)

  flag_kept : (j : ℕ) → j < count → get_or given' j false ≡ get_or given j false
  flag_kept j lt = ap (λ (l : List Bool). get_or l j false) f ∙ get_or_append_left given (flag ∷ []) false j (omega (arith, lt, h.flags))

  flag_last : get_or given' count false ≡ flag
  flag_last = ap (λ (l : List Bool). get_or l count false) f ∙ (ap (λ (j : ℕ). get_or (given ++ flag ∷ []) j false) (sym h.flags) ∙ get_or-append_seam given flag [] false)

  pub types_more : id < length newer.terms → type_of newer id ≡ carried_type tag (type_of old count) → flag ≡ is_given_type tag (type_of old count) → AreTypes tag old (count + 1) ids' given' newer
  types_more within carried is_given = record {
    long = let l : length (ids ++ id ∷ []) ≡ length ids + 1 = length-append ids (id ∷ []) in ap length e ∙ omega (arith, l, h.long);
    flags = let l : length (given ++ flag ∷ []) ≡ length given + 1 = length-append given (flag ∷ []) in ap length f ∙ omega (arith, l, h.flags);
    within = λ j lt. elim (eqb_tells j count) [
      | inl p ↦ let n : get_or ids' j 0 ≡ id = ap (λ (i : ℕ). get_or ids' i 0) p.1 ∙ id_last in omega (arith, n, within)
      | inr p ↦ let few : j < count = omega (arith, lt, p.1) in let n = id_kept j few in let w = h.within j few in omega (arith, n, w, long)
    ];
    types = λ j lt. elim (eqb_tells j count) [
      | inl p ↦ ap (λ (i : ℕ). type_of newer (get_or ids' i 0)) p.1 ∙ (ap (λ (i : ℕ). type_of newer i) id_last ∙ (carried ∙ ap (λ (i : ℕ). carried_type tag (type_of old i)) (sym p.1)))
      | inr p ↦
          let few : j < count = omega (arith, lt, p.1) in
          ap (λ (i : ℕ). type_of newer i) (id_kept j few) ∙ (more (get_or ids j 0) (h.within j few) ∙ h.types j few)
    ];
    given_are = λ j lt. elim (eqb_tells j count) [
      | inl p ↦ ap (λ (i : ℕ). get_or given' i false) p.1 ∙ (flag_last ∙ (is_given ∙ ap (λ (i : ℕ). is_given_type tag (type_of old i)) (sym p.1)))
      | inr p ↦ let few : j < count = omega (arith, lt, p.1) in flag_kept j few ∙ h.given_are j few
    ];
  }

pub grown_on : (a b c : Table) → IsGrown a b → IsGrown b c → IsGrown a c
grown_on a b c p q = record {
  terms = omega (arith, p.terms, q.terms);
  types = λ id h. q.types id (omega (arith, p.terms)) ∙ p.types id h;
  tags = q.tags ∙ p.tags;
  completed = q.completed ∙ p.completed;
  extents = λ t. q.extents t ∙ p.extents t;
  once = λ h. q.once (p.once h);
}

-- a term over the numbers of types that are there
module _ (ids : List ℕ) (n : ℕ) (h : (j : ℕ) → j < length ids → get_or ids j 0 < n) where
  ids_after : (ps : List TypeId) → All (λ id. id.0 < length ids) ps → All (λ id. id.0 < n) (map (id_in ids) ps)
  ids_after [] all = λ k d lt. absurd (omega arith)
  ids_after (p ∷ ps) all =
      All-cons (λ (id : TypeId). id.0 < n) (id_in ids p) (map (id_in ids) ps) (h p.0 (All-head (λ (id : TypeId). id.0 < length ids) p ps all)) (ids_after ps (All-tail (λ (id : TypeId). id.0 < length ids) p ps all))

  pub moved_after : (term : Term) → IsAfter (length ids) term → IsAfter n (moved_term ids term)
  moved_after Void after = tt
  moved_after BoolTerm after = tt
  moved_after (Integer size rank signed) after = tt
  moved_after Floating after = tt
  moved_after VaList after = tt
  moved_after (Pointer to) after = h to.0 after
  moved_after (Array of k) after = h of.0 after
  moved_after (Function result parameters form) after = (h result.0 after.0, ids_after parameters after.1)
  moved_after (Structure k) after = tt
  moved_after (Union k) after = tt
