-- What is missing of a tree is what is untold of it.
use Rattle.std.proofs.Common.{arith, ◌≡◌, ◌∙◌, ℕ, ◌+◌, Bool, true, false, inl, inr, List, length, get_or, Option, Some, None, Result, Ok, Err, IfOk, MatchBool, refl, sym, ap, subst}
use Rattle.std.proofs.Math.Path.{fun_ext}
use Rattle.std.proofs.lemmas.Bool.{false≢true}
use Rattle.std.proofs.lemmas.List.{length-map, take_all}
use Rattle.std.specs.Option.{is_some, option_map}
use Rattle.pta_base.specs.declared.kind.Kind.{Kind}
use Rattle.pta_base.specs.declared.kind.Kind.TheVariants.{Operand}
use Rattle.c_types.specs.Trees.{Ctype, VoidType}
use Rattle.core_tree.specs.declared.node.Unit.{Unit}
use Rattle.c_consts.specs.Core.{Core}
use Rattle.core_nodes.specs.declared.fault.CheckFault.{CheckFault}
use Rattle.core_nodes.specs.declared.fault.CheckFault.TheVariants.{BadOperand, Unsupported, OutOfMemory}
use Rattle.core_nodes.specs.Standing.{core_at}
use Rattle.c_senses.specs.Tree.{Source}
use Rattle.c_senses.specs.Names.{numbered}
use Rattle.c_senses.specs.Rows.{AreSenses}
use Rattle.c_senses.specs.Sense.{Sense, IsCore, sense_in}
use Rattle.parsed_tree_laws.proofs.reading_laws.source_laws.Reading.{same_begin, not_beyond}
use Rattle.c_results.specs.declared.made.Made.{Made}
use Rattle.c_results.specs.Standing.{sense_made, senses_made}
use Rattle.c_results.specs.Parts.{core_in}
use Rattle.c_tags.specs.tag_numbers.Ordered.{AreInOrder}
use Rattle.unit_walk.specs.Walked.{AreDense}
use Rattle.unit_walk.specs.Stopping.{IsWalkedTo, RefusedWithin, RefusedEarly}
use Rattle.tree_reads.specs.leaf_maps.Numbers.{number_at}
use Rattle.carried_trees.specs.Literals.{has_literal}
use Rattle.carried_trees.specs.Extends.{IsMissing}
use Rattle.carried_trees.specs.Told as tree
use Rattle.carried_trees.specs.Told.{marked}
use Rattle.carried_trees.proofs.Telling.{core_same, parts_same}
use Rattle.c_check.specs.declared.known_tags.known.Meaning.{Meaning}
use Rattle.c_check.specs.known_tags.Known.{entity_known}
use Rattle.c_check.specs.known_tags.Own.{AreFirsts, AreTypesGiven}
use Rattle.c_check.specs.Expressed.{HasTree, IsUnknown, members_behind}
use Rattle.c_check.specs.Told.{AreMarked, IsUntold, IsTold, NoneUnknown}
use Rattle.c_check.proofs.Answering.{core_is, sense_there, members_there}

some_one : {X : Type 0} → {x y : X} → ◌≡◌ {A = Option X} (Some x) (Some y) → x ≡ y
some_one e = cc

none_some : {X : Type 0} → {x : X} → ◌≡◌ {A = Option X} None (Some x) → ⊥
none_some e = cc

-- the senses of as many nodes are one list
one_senses : (s : Source) (xs ys : List Sense) → AreSenses s xs → AreSenses s ys → length xs ≡ length ys → xs ≡ ys
one_senses s xs ys a b e = sym (same_begin s xs ys a b (omega (arith, e))) ∙ take_all (length xs) ys (omega (arith, e))

has_mark : (o : Option ℕ) → is_some o ≡ is_some (option_map (λ (id : ℕ). VoidType) o)
has_mark None = refl
has_mark (Some id) = refl

module _ (s : Source) (node : ℕ) (walked : Unit) (rs : List Made) (w : IsWalkedTo s (node + 1) walked rs) (list : List (ℕ × Meaning)) (old : Unit) where
  senses_same : (t : HasTree s node list old) → t.sense.senses ≡ senses_made walked rs
  senses_same t =
      let long : length (senses_made walked rs) ≡ node + 1 = length-map rs (sense_made walked) ∙ w.long in
      one_senses s t.sense.senses (senses_made walked rs) t.sense.are w.made.senses (t.sense.long ∙ sym long)

  core_there : (t : HasTree s node list old) → core_in (sense_in (senses_made walked rs) node) ≡ Some t.core
  core_there t = ap core_in (ap (λ (l : List Sense). sense_in l node) (sym (senses_same t)) ∙ t.sense.last)

  -- a node that stands for no tree names nothing
  pub no_core : core_in (sense_in (senses_made walked rs) node) ≡ None → NoneUnknown s node list old
  unfolding NoneUnknown
  no_core e = λ unknown. none_some (sym e ∙ core_there unknown.tree)

  module _ (top : ℕ) (at : core_in (sense_in (senses_made walked rs) node) ≡ Some (core_at walked top)) (marks : List (Option ℕ)) (flags : List Bool) (m : AreMarked s node list old marks flags) (entities : List (ℕ × ℕ)) (names : (leaf : ℕ) → number_at entities leaf ≡ entity_known list leaf) where
    untold_of : (type : ℕ → Option Ctype) (first : ℕ → ℕ) → AreFirsts s first → AreTypesGiven s first node list old.types type
        → IsMissing (number_at entities) type (members_behind s (senses_made walked rs)) (core_at walked top) old → tree.IsUntold (number_at entities) marks flags (core_at walked top) walked.types
    untold_of type first firsts given missing =
        let core = core_at walked top in
        let same = λ (k : ℕ). m.marked first type firsts given k ∙ has_mark (get_or marks k None) in
        elim missing [
          | inl h ↦ inl (sym (core_same type (marked marks) same (number_at entities) (has_literal core) core) ∙ h)
          | inr h ↦
              inr (record {
                own = h.own;
                flag = (m.flagged first type firsts given h.own).1 (record { number = h.number; is = h.is; incomplete = h.was_open });
                list = h.list;
                list_is = sym (members_there s node walked rs w h.own) ∙ h.list_is;
                lacks = sym (parts_same type (marked marks) same h.list) ∙ h.lacks;
              })
        ]

    missing_of : tree.IsUntold (number_at entities) marks flags (core_at walked top) walked.types → IsMissing (number_at entities) m.type (members_behind s (senses_made walked rs)) (core_at walked top) old
    missing_of untold =
        let core = core_at walked top in
        let same = λ (k : ℕ). m.marked m.first m.type m.firsts m.given k ∙ has_mark (get_or marks k None) in
        elim untold [
          | inl h ↦ inl (core_same m.type (marked marks) same (number_at entities) (has_literal core) core ∙ h)
          | inr h ↦
              let here = (m.flagged m.first m.type m.firsts m.given h.own).0 h.flag in
              inr (record {
                own = h.own;
                number = here.number;
                is = here.is;
                was_open = here.incomplete;
                list = h.list;
                list_is = members_there s node walked rs w h.own ∙ h.list_is;
                lacks = parts_same m.type (marked marks) same h.list ∙ h.lacks;
              })
        ]

    pub untold_there : IsUnknown s node list old → tree.IsUntold (number_at entities) marks flags (core_at walked top) walked.types
    untold_there u =
        let t = u.tree in
        let core : t.core ≡ core_at walked top = some_one (sym (core_there t) ∙ at) in
        let behind : IsMissing (entity_known list) t.type (members_behind s (senses_made walked rs)) t.core old =
        subst (λ (l : List Sense). IsMissing (entity_known list) t.type (members_behind s l) t.core old) (senses_same t) u.missing in
        let there : IsMissing (entity_known list) t.type (members_behind s (senses_made walked rs)) (core_at walked top) old =
        subst (λ (c : Core). IsMissing (entity_known list) t.type (members_behind s (senses_made walked rs)) c old) core behind in
        untold_of t.type t.first t.firsts t.tags (subst (λ (f : ℕ → Option ℕ). IsMissing f t.type (members_behind s (senses_made walked rs)) (core_at walked top) old) (sym (fun_ext names)) there)

    pub unknown_of : tree.IsUntold (number_at entities) marks flags (core_at walked top) walked.types → IsUnknown s node list old
    unfolding sense_there
    unknown_of untold = record {
      tree = record {
        core = core_at walked top;
        sense = sense_there s node walked rs w (IsCore (core_at walked top)) (core_is (sense_in (senses_made walked rs) node) (core_at walked top) at);
        first = m.first;
        firsts = m.firsts;
        type = m.type;
        tags = m.given;
      };
      missing = subst (λ (f : ℕ → Option ℕ). IsMissing f m.type (members_behind s (senses_made walked rs)) (core_at walked top) old) (fun_ext names) (missing_of untold);
    }

    pub told_answer : (r : Result Bool CheckFault) → IfOk r (λ (told : Bool). MatchBool told (tree.IsUntold (number_at entities) marks flags (core_at walked top) walked.types → ⊥) (tree.IsUntold (number_at entities) marks flags (core_at walked top) walked.types))
        → IfOk r (λ (told : Bool). MatchBool told (NoneUnknown s node list old) (IsUnknown s node list old))
    unfolding NoneUnknown
    told_answer (Ok true) h = λ unknown. h (untold_there unknown)
    told_answer (Ok false) h = unknown_of h
    told_answer (Err fault) h = tt

-- numbers in the order of first specifiers are one numbering
same_numbers : (s : Source) (f g : ℕ → ℕ) → AreInOrder (numbered f s) → AreInOrder (numbered g s) → numbered f s ≡ numbered g s
same_numbers s f g a b = let same : f ≡ g = λ i d. (a.each d ∙ sym (b.each d)) i in ap (λ (h : ℕ → ℕ). numbered h s) same

module _ (s0 s : Source) (f : ℕ → ℕ) (same : s ≡ numbered f s0) (dense : AreDense s) (node : ℕ) (list : List (ℕ × Meaning)) (old : Unit) where
  -- what is told with some such numbers is told with all
  unknown_there : IsUntold s0 node list old → IsUnknown s node list old
  unknown_there u =
      let there : AreInOrder (numbered f s0) = subst AreInOrder same dense.ordered in
      subst (λ (x : Source). IsUnknown x node list old) (same_numbers s0 u.tag_number f u.dense.ordered there ∙ sym same) u.unknown

  pub none_there : IsTold s0 node list old → NoneUnknown s node list old
  unfolding IsTold NoneUnknown
  none_there told = λ unknown. told (record { tag_number = f; dense = subst AreDense same dense; unknown = subst (λ (x : Source). IsUnknown x node list old) same unknown })

  pub told_when : (r : Result Bool CheckFault) → IfOk r (λ (told : Bool). MatchBool told (NoneUnknown s node list old) (IsUnknown s node list old)) → IfOk r (λ (told : Bool). MatchBool told (IsTold s0 node list old) (IsUntold s0 node list old))
  unfolding IsTold NoneUnknown
  told_when (Ok true) h = λ untold. h (unknown_there untold)
  told_when (Ok false) h = record { tag_number = f; dense = subst AreDense same dense; unknown = subst (λ (x : Source). IsUnknown x node list old) same h }
  told_when (Err fault) h = tt

-- before a node whose row refuses there is none to tell
refused_told : (s0 : Source) (f : ℕ → ℕ) (dense : AreDense (numbered f s0)) (node : ℕ) (kind : Kind) (named : ℕ) → RefusedWithin (numbered f s0) (node + 1) kind named → (list : List (ℕ × Meaning)) (old : Unit) → IsUntold s0 node list old → ⊥
refused_told s0 f dense node kind named refused list old untold =
    let u : IsUnknown (numbered f s0) node list old = subst (λ (x : Source). IsUnknown x node list old) (same_numbers s0 untold.tag_number f untold.dense.ordered dense.ordered) untold.unknown in
    let long = u.tree.sense.long in
    let early = refused.early in
    not_beyond (numbered f s0) u.tree.sense.senses kind named u.tree.sense.are refused.refused (omega (arith, long, early))

early_told : (s0 : Source) (node : ℕ) (fault : CheckFault) → (fault ≡ OutOfMemory → ⊥) → RefusedEarly s0 (node + 1) fault → (list : List (ℕ × Meaning)) (old : Unit) → IsUntold s0 node list old → ⊥
early_told s0 node (BadOperand named) row h list old = refused_told s0 h.tag_number h.dense node Operand named h.refused list old
early_told s0 node (Unsupported kind named) row h list old = refused_told s0 h.tag_number h.dense node kind named h.refused list old
early_told s0 node OutOfMemory row h list old = absurd (row refl)

pub early_when : (s0 : Source) (node : ℕ) (fault : CheckFault) → RefusedEarly s0 (node + 1) fault → (list : List (ℕ × Meaning)) (old : Unit) (r : Result Bool CheckFault) → IfOk r (λ (told : Bool). told ≡ true) → IfOk r (λ (told : Bool). fault ≡ OutOfMemory → ⊥)
    → IfOk r (λ (told : Bool). MatchBool told (IsTold s0 node list old) (IsUntold s0 node list old))
unfolding IsTold
early_when s0 node fault h list old (Ok true) is row = early_told s0 node fault row h list old
early_when s0 node fault h list old (Ok false) is row = absurd (false≢true is)
early_when s0 node fault h list old (Err e) is row = tt
