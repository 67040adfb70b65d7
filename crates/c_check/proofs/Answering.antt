-- What is answered of an expression.
use Rattle.std.proofs.Common.{arith, ◌≡◌, ◌∙◌, ℕ, zero, suc, ◌+◌, ◌<◌, ◌≤◌, Bool, true, false, inl, inr, List, [], ◌∷◌, ◌++◌, map, length, get_or, Option, Some, None, IsSome, Result, Ok, Err, IfOk, IfErr, refl, sym, ap, subst}
use Rattle.std.proofs.Math.Path.{fun_ext}
use Rattle.std.proofs.lemmas.Bool.{cases_lt}
use Rattle.std.proofs.lemmas.List.{length-map}
use Rattle.std.specs.Option.{option_map}
use Rattle.std.specs.Prelude.{slice_index}
use Rattle.c_types.specs.Trees.{Ctype}
use Rattle.c_types.specs.Table.{Table, type_of, members_in}
use Rattle.c_inits.specs.Made.{Part}
use Rattle.c_inits.specs.Tables.{tagged}
use Rattle.core_tree.specs.declared.node.Entity.{Entity}
use Rattle.core_tree.specs.declared.node.Unit.{Unit}
use Rattle.c_consts.specs.Core.{Core}
use Rattle.core_nodes.specs.declared.fault.CheckFault.{CheckFault}
use Rattle.core_nodes.specs.declared.fault.CheckFault.TheVariants.{BadOperand, Unsupported, OutOfMemory}
use Rattle.core_nodes.specs.Standing.{core_at, parts_in}
use Rattle.c_senses.specs.Tree.{Source}
use Rattle.c_senses.specs.Names.{numbered}
use Rattle.c_senses.specs.Sense.{Sense, IsCore, sense_in}
use Rattle.c_senses.specs.Tags.{tag_declared, tags_below, is_union}
use Rattle.c_results.specs.declared.made.Made.{Made}
use Rattle.c_results.specs.Standing.{sense_made, senses_made}
use Rattle.c_results.specs.Parts.{core_in}
use Rattle.c_tags.specs.declared.tag_numbers.tags.Tags.{Tags}
use Rattle.c_tags.specs.tag_numbers.Known.{AreTags}
use Rattle.refusal_laws.specs.Refusals.{IsOtherFault, RowsAreBuilt}
use Rattle.unit_walk.specs.Walked.{AreDense}
use Rattle.unit_walk.specs.Stopping.{IsWalkedTo, RefusedEarly}
use Rattle.carried_trees.specs.carried_types.Terms.{IsIdIn, tag_type}
use Rattle.carried_trees.specs.carried_types.Members.{AreTagged, tag_named}
use Rattle.carried_trees.specs.Carried.{is_given_core}
use Rattle.carried_trees.specs.Literals.{has_literal}
use Rattle.carried_trees.specs.Extends.{Extends, SameParts, AreFilled, IsMissing, IsWhole}
use Rattle.carried_trees.proofs.Extending.{filled_between, lacks_first, tree_on}
use Rattle.tree_reads.specs.leaf_maps.Numbers.{number_at}
use Rattle.c_check.specs.declared.known_tags.known.Meaning.{Meaning}
use Rattle.c_check.specs.known_tags.Known.{entity_known, tag_known, IsTagType}
use Rattle.c_check.specs.known_tags.Given.{IsIdOf}
use Rattle.c_check.specs.known_tags.Own.{AreFirsts, AreTypesGiven, IsOpened, IsTypeGiven, is_own_first, own_number, own_pairs}
use Rattle.c_check.specs.known_tags.Values.{own_values}
use Rattle.c_check.specs.literal_entities.Entities.{literal_entity}
use Rattle.c_check.specs.Expressed.{HasSense, HasTree, IsCarried, IsUnknown, HasNoTree, Answers, AreOwn, Expressed, IsAnswer, members_behind}

-- the type of a tag by the number of the type
pub type_by : (table : Table) (is_union : Bool) (known id : Option ℕ) → IsIdOf table is_union known id → IsIdIn table id → IsTagType table is_union known (option_map (λ (i : ℕ). type_of table i) id)
type_by table is_union None id h few = ap (option_map (λ (i : ℕ). type_of table i)) h
type_by table is_union (Some tag) None h few = h
type_by table is_union (Some tag) (Some id) h few = (h, record { id = id; few = few; is = h })

module _ (s : Source) (first : ℕ → ℕ) (node : ℕ) (list : List (ℕ × Meaning)) (old new : Table) (kept : (id : ℕ) → id < length old.terms → type_of new id ≡ type_of old id) where
  id_kept : (o : Option ℕ) → IsIdIn old o → option_map (λ (i : ℕ). type_of new i) o ≡ option_map (λ (i : ℕ). type_of old i) o
  id_kept None h = refl
  id_kept (Some i) h = ap Some (kept i h)

  given_by : (own : Bool) (t : Ctype) (is_union : Bool) (known before id : Option ℕ) → IsIdOf old is_union known before → IsIdIn old before → IsOpened own new t before id → IsTypeGiven own t old is_union known (option_map (λ (i : ℕ). type_of new i) id)
  given_by true t is_union known before id typed within h = ap (option_map (λ (i : ℕ). type_of new i)) h.1 ∙ ap Some h.2
  given_by false t is_union known before id typed within h =
      subst (λ (o : Option Ctype). IsTagType old is_union known o) (sym (ap (option_map (λ (i : ℕ). type_of new i)) h ∙ id_kept before within)) (type_by old is_union known before typed within)

  -- a type that is given is that of a tag
  tagged_named : (is_union : Bool) (k : ℕ) → IsSome (tag_named (tagged is_union k))
  tagged_named true k = refl
  tagged_named false k = refl

  some_one : {X : Type 0} → {x y : X} → ◌≡◌ {A = Option X} (Some x) (Some y) → x ≡ y
  some_one e = cc

  named_by : (own : Bool) (is_union : Bool) (number : ℕ) (known : Option ℕ) (o : Option Ctype) → IsTypeGiven own (tagged is_union number) old is_union known o → (t : Ctype) → o ≡ Some t → IsSome (tag_named t)
  named_by true is_union number known o h t e = subst (λ (x : Ctype). IsSome (tag_named x)) (some_one (sym h ∙ e)) (tagged_named is_union number)
  named_by false is_union number None o h t e = cc
  named_by false is_union number (Some k) None h t e = cc
  named_by false is_union number (Some k) (Some x) h t e = subst (λ (y : Ctype). IsSome (tag_named y)) (some_one e) (subst (λ (y : Ctype). IsSome (tag_named y)) (sym h.0) (tagged_named is_union k))

  module _ (count : ℕ) (below : count ≡ tags_below s) (ids : List (Option ℕ)) (pairs : List (ℕ × Meaning)) (own : AreOwn s first node list count old new ids pairs) where
    past_none : (xs : List (Option ℕ)) (k : ℕ) → length xs ≤ k → get_or xs k None ≡ None
    past_none [] k h = refl
    past_none (x ∷ xs) zero h = absurd (omega arith)
    past_none (x ∷ xs) (suc k) h = past_none xs k (omega arith)

    pub types_given : AreTypesGiven s first node list old (tag_type new ids)
    types_given = record {
      each = λ k lt.
          let few : k < count = subst (λ (n : ℕ). k < n) (sym below) lt in
          given_by (is_own_first s node list (first k)) (tagged (is_union s (first k)) (own_number s first node list old.tags k)) (is_union s (first k)) (tag_known list (tag_declared s (first k))) (get_or own.known k None) (get_or ids k None) (own.typed k few) (own.within k) (own.opened.each k few);
      past = λ k le. ap (option_map (λ (i : ℕ). type_of new i)) (past_none ids k (omega (arith, le, below, own.long)));
    }

    pub tags_tagged : AreTagged (tag_type new ids)
    tags_tagged k t e = elim (cases_lt k count) [
      | inl few ↦ named_by (is_own_first s node list (first k)) (is_union s (first k)) (own_number s first node list old.tags k) (tag_known list (tag_declared s (first k))) (tag_type new ids k) (types_given.each k (subst (λ (n : ℕ). k < n) below few)) t e
      | inr past ↦ absurd (none_some (sym (ap (option_map (λ (i : ℕ). type_of new i)) (past_none ids k (omega (arith, past, own.long)))) ∙ e))
    ]
      where
        none_some : {x : Ctype} → ◌≡◌ {A = Option Ctype} None (Some x) → ⊥
        none_some h = cc

pub firsts_there : (s : Source) (t : Tags) → AreTags s t → AreFirsts s (slice_index t.firsts.items)
firsts_there s t are = record {
  specifiers = λ k lt. (are.firsts_are k (subst (λ (n : ℕ). k < n) (sym are.count) lt)).0;
  numbers = λ k lt. (are.firsts_are k (subst (λ (n : ℕ). k < n) (sym are.count) lt)).1;
  least = are.least;
}

pub core_is : (x : Sense) (c : Core) → core_in x ≡ Some c → x ≡ IsCore c
core_is (IsCore d) c e = let same : d ≡ c = cc in ap IsCore same
core_is x c e = cc

module _ (s : Source) (node : ℕ) (walked : Unit) (rs : List Made) (w : IsWalkedTo s (node + 1) walked rs) where
  unfoldable pub sense_there : (x : Sense) → sense_in (senses_made walked rs) node ≡ x → HasSense s node x
  sense_there x e = record { senses = senses_made walked rs; are = w.made.senses; long = length-map rs (sense_made walked) ∙ w.long; last = e }

  pub no_tree : core_in (sense_in (senses_made walked rs) node) ≡ None → HasNoTree s node
  no_tree e = record { sense = sense_in (senses_made walked rs) node; has = sense_there (sense_in (senses_made walked rs) node) refl; none = e }

  -- what the world says of members is what the unit's table says
  pub members_there : (k : ℕ) → members_behind s (senses_made walked rs) k ≡ parts_in walked.types (members_in walked.types k)
  members_there k = w.made.knows.members k

  module _ (top : ℕ) (at : core_in (sense_in (senses_made walked rs) node) ≡ Some (core_at walked top)) (t : Tags) (are : AreTags s t) (list : List (ℕ × Meaning)) (old mid : Unit) (extends : Extends old mid) (same : SameParts old mid) (ids : List (Option ℕ)) (pairs : List (ℕ × Meaning)) (own : AreOwn s (slice_index t.firsts.items) node list t.count old.types mid.types ids pairs) (entities : List (ℕ × ℕ)) (named : (leaf : ℕ) → number_at entities leaf ≡ entity_known list leaf) where
    tree_there : HasTree s node list old
    tree_there = record {
      core = core_at walked top;
      sense = sense_there (IsCore (core_at walked top)) (core_is (sense_in (senses_made walked rs) node) (core_at walked top) at);
      first = slice_index t.firsts.items;
      firsts = firsts_there s t are;
      type = tag_type mid.types ids;
      tags = types_given s (slice_index t.firsts.items) node list old.types mid.types extends.types t.count are.count ids pairs own;
    }

    same_names : number_at entities ≡ entity_known list
    same_names = fun_ext named

    pairs_there : pairs ≡ own_pairs s (slice_index t.firsts.items) node list old.types.tags (tags_below s)
    pairs_there = own.opened.pairs_are ∙ ap (λ (n : ℕ). own_pairs s (slice_index t.firsts.items) node list old.types.tags n) are.count

    filled_there : (new : Unit) (members : ℕ → Option (List Part)) → AreFilled (tag_type mid.types ids) members mid new → AreFilled (tag_type mid.types ids) members old new
    filled_there new members h = filled_between (tag_type mid.types ids) members old mid new new same h (λ tag. refl)

    whole_there : (new : Unit) (i : ℕ) (literals : List (ℕ × ℕ)) → mid.nodes.items ≡ old.nodes.items → mid.entities.items ≡ old.entities.items
        → IsWhole (number_at entities) (tag_type mid.types ids) (members_behind s (senses_made walked rs)) (core_at walked top) mid new i literals → IsWhole (entity_known list) (tag_type mid.types ids) (members_behind s (senses_made walked rs)) (core_at walked top) old new i literals
    whole_there new i literals nodes made h =
        let there = subst (λ (f : ℕ → Option ℕ). IsWhole f (tag_type mid.types ids) (members_behind s (senses_made walked rs)) (core_at walked top) mid new i literals) same_names h in
        record {
          tree = tree_on (entity_known list) (tag_type mid.types ids) (core_at walked top) mid old new i literals nodes made there.tree;
          filled = filled_there new (members_behind s (senses_made walked rs)) there.filled;
        }

    pub carried_there : (new : Unit) (i : ℕ) (literals : List (ℕ × ℕ)) (owner : Option ℕ) (all : List (ℕ × Meaning)) → mid.nodes.items ≡ old.nodes.items → all ≡ pairs ++ own_values s (sense_in (senses_made walked rs)) node list node → mid.types.tags ≡ old.types.tags + length pairs
        → new.types.tags ≡ mid.types.tags → new.entities.items ≡ mid.entities.items ++ map (literal_entity s (senses_made walked rs) owner new.nodes.items) literals
        → IsWhole (number_at entities) (tag_type mid.types ids) (members_behind s (senses_made walked rs)) (core_at walked top) mid new i literals → IsCarried s node list (list ++ all) owner old new i
    unfolding tree_there sense_there
    carried_there new i literals owner all nodes all_are numbers kept gained h = record {
      tree = tree_there;
      literals = literals;
      whole = whole_there new i literals nodes extends.entities h;
      entities = gained ∙ ap (λ (l : List Entity). l ++ map (literal_entity s (senses_made walked rs) owner new.nodes.items) literals) extends.entities;
      known = ap (λ (l : List (ℕ × Meaning)). list ++ l) (all_are ∙ ap (λ (l : List (ℕ × Meaning)). l ++ own_values s (sense_in (senses_made walked rs)) node list node) pairs_there);
      numbers = kept ∙ (numbers ∙ ap (λ (l : List (ℕ × Meaning)). old.types.tags + length l) pairs_there);
    }

    missing_there : IsMissing (number_at entities) (tag_type mid.types ids) (members_behind s (senses_made walked rs)) (core_at walked top) mid → IsMissing (entity_known list) (tag_type mid.types ids) (members_behind s (senses_made walked rs)) (core_at walked top) old
    missing_there (inl h) = inl (subst (λ (f : ℕ → Option ℕ). is_given_core f (has_literal (core_at walked top)) (tag_type mid.types ids) (core_at walked top) ≡ false) same_names h)
    missing_there (inr h) = inr (lacks_first (tag_type mid.types ids) (members_behind s (senses_made walked rs)) old mid same h)

    pub unknown_there : IsMissing (number_at entities) (tag_type mid.types ids) (members_behind s (senses_made walked rs)) (core_at walked top) mid → IsUnknown s node list old
    unfolding tree_there sense_there
    unknown_there h = record { tree = tree_there; missing = missing_there h }

-- of a source whose tags are numbered
module _ (s0 s : Source) (tag_number : ℕ → ℕ) (same : s ≡ numbered tag_number s0) (dense : AreDense s) (node : ℕ) (list more : List (ℕ × Meaning)) (owner : Option ℕ) (old new : Unit) where
  expressed : (result : Result ℕ CheckFault) → Answers s node list more owner old new result → Expressed s0 node list more owner old new result
  expressed result h = record {
    tag_number = tag_number;
    dense = subst AreDense same dense;
    answer = subst (λ (x : Source). Answers x node list more owner old new result) same h;
  }

  pub answered : (result : Result ℕ CheckFault) → Answers s node list more owner old new result → IsAnswer s0 node list more owner old new result
  answered (Ok i) h = expressed (Ok i) h
  answered (Err (BadOperand named)) h = expressed (Err (BadOperand named)) h
  answered (Err (Unsupported kind named)) h = expressed (Err (Unsupported kind named)) h
  answered (Err OutOfMemory) h = tt

-- refused on the way
pub refused_early : (s : Source) (node : ℕ) (list more : List (ℕ × Meaning)) (owner : Option ℕ) (old new : Unit) (fault : CheckFault) → RefusedEarly s (node + 1) fault → IsAnswer s node list more owner old new (Err fault)
refused_early s node list more owner old new (BadOperand named) h = record { tag_number = h.tag_number; dense = h.dense; answer = inl h.refused }
refused_early s node list more owner old new (Unsupported kind named) h = record { tag_number = h.tag_number; dense = h.dense; answer = h.refused }
refused_early s node list more owner old new OutOfMemory h = tt

pub memory_answers : (s : Source) (node : ℕ) (list more : List (ℕ × Meaning)) (owner : Option ℕ) (old new : Unit) (fault : CheckFault) → fault ≡ OutOfMemory → Answers s node list more owner old new (Err fault)
memory_answers s node list more owner old new fault e = subst (λ (f : CheckFault). Answers s node list more owner old new (Err f)) (sym e) tt

-- no refusal says that something isn't built
module _ (rows : RowsAreBuilt) where
  pub built_answer : (s : Source) (node : ℕ) (list more : List (ℕ × Meaning)) (owner : Option ℕ) (old new : Unit) (result : Result ℕ CheckFault) → Answers s node list more owner old new result → IfErr result IsOtherFault
  built_answer s node list more owner old new (Ok i) h = tt
  built_answer s node list more owner old new (Err (BadOperand named)) h = tt
  built_answer s node list more owner old new (Err (Unsupported kind named)) h = rows.never s kind named h.refused
  built_answer s node list more owner old new (Err OutOfMemory) h = tt

  pub built_early : (s : Source) (end : ℕ) (fault : CheckFault) → RefusedEarly s end fault → IsOtherFault fault
  built_early s end (BadOperand named) h = tt
  built_early s end (Unsupported kind named) h = rows.never (numbered h.tag_number s) kind named h.refused.refused
  built_early s end OutOfMemory h = tt

-- by two clauses of one answer
pub both_ok : {X : Type 0} (r : Result X CheckFault) (A B C : X → Type 0) → ((x : X) → A x → B x → C x) → IfOk r A → IfOk r B → IfOk r C
both_ok (Ok x) A B C f a b = f x a b
both_ok (Err e) A B C f a b = a
