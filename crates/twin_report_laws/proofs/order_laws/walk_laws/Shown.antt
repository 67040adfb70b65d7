-- The calls of a program's nodes, and the tags that nodes complete.
use Rattle.std.proofs.Common.{arith, ◌≡◌, ◌∙◌, ◌↔◌, ℕ, zero, suc, ◌+◌, ◌<◌, Bool, true, false, List, [], ◌∷◌, map, length, Option, Some, None, slice_get, refl, sym, ap, subst}
use Rattle.std.specs.Prelude.{if◌then◌else◌}
use Rattle.std.specs.List.{cons_option, filter_map, range_with_len}
use Rattle.std.specs.Ordering.{nat_cmp}
use Rattle.std.proofs.lemmas.Bool.{false≢true}
use Rattle.std.proofs.lemmas.Option.{none-some, same_Some}
use Rattle.c_grammar.specs.Productions.{p_struct, p_members}
use Rattle.core_tree.specs.declared.node.Node.{Node}
use Rattle.core_tree.specs.declared.node.NodeKind.{NodeKind}
use Rattle.core_tree.specs.declared.node.NodeKind.TheVariants.{CallNode}
use Rattle.call_sites.specs.Calls.{is_call, call_if}
use Rattle.c_inits.specs.Made.{Part, TagParts}
use Rattle.c_senses.specs.Tree.{Source, is_a, child_of}
use Rattle.c_senses.specs.Sense.{Sense, IsMembers}
use Rattle.c_senses.specs.Tags.{tag_of, completed_from}
use Rattle.twin_report_laws.specs.order_laws.walk_laws.Ordered.{IsShown}
use Rattle.twin_report_laws.specs.order_laws.walk_laws.Shown.{IsCallAt, CallsNumbered, CompletesAt, TagsCompleted}
use Rattle.twin_report_laws.proofs.order_laws.walk_laws.Picked.{entry, picked, picked_is}

-- ---- calls
call_is : (k : NodeKind) → is_call k ≡ true → k ≡ CallNode
call_is CallNode h = refl
call_is k h = absurd (false≢true h)

abbrev node_if : Option Node → Option Node
node_if None = None
node_if (Some node) = if is_call node.kind then Some node else None

abbrev number : ℕ × Node → ℕ
number e = e.0

module _ (nodes : List Node) where
  abbrev call_at : ℕ → Option Node
  call_at n = node_if (slice_get nodes n)

  one_call : (a : ℕ) (rest : List (ℕ × Node)) (o : Option Node) → cons_option (call_if a o) (map number rest) ≡ map number (entry (node_if o) a rest)
  one_call a rest None = refl
  one_call a rest (Some node) = by (is_call node.kind)
    where
      by : (b : Bool) → cons_option (if b then Some a else None) (map number rest) ≡ map number (entry (if b then Some node else None) a rest)
      by true = refl
      by false = refl

  calls_walk : (a n : ℕ) → filter_map (λ (k : ℕ). call_if k (slice_get nodes k)) (range_with_len a n) ≡ map number (picked call_at a n)
  calls_walk a zero = refl
  calls_walk a (suc n) = ap (cons_option (call_if a (slice_get nodes a))) (calls_walk (a + 1) n) ∙ one_call a (picked call_at (a + 1) n) (slice_get nodes a)

  call_there : (o : Option Node) (node : Node) → node_if o ≡ Some node → (o ≡ Some node) × (node.kind ≡ CallNode)
  call_there None node h = absurd (none-some node h)
  call_there (Some other) node h = by (is_call other.kind) refl h
    where
      by : (b : Bool) → is_call other.kind ≡ b → (if b then Some other else None) ≡ Some node → (Some other ≡ Some node) × (node.kind ≡ CallNode)
      by true is at = (at, ap (λ (x : Node). x.kind) (sym (same_Some other node at)) ∙ call_is other.kind is)
      by false is at = absurd (none-some node at)

  there_call : (n : ℕ) (node : Node) → slice_get nodes n ≡ Some node → node.kind ≡ CallNode → call_at n ≡ Some node
  there_call n node at kind = ap node_if at ∙ ap (λ (k : NodeKind). if is_call k then Some node else None) kind

pub calls_numbered : CallsNumbered
calls_numbered nodes count list =
    subst (λ (walk : List ℕ). (list ≡ walk) ↔ IsShown nat_cmp (λ (call : ℕ × Node). (call.0 < count) × IsCallAt nodes call) number list) (sym (calls_walk nodes 0 count))
    (picked_is (call_at nodes) count (λ (call : ℕ × Node). (call.0 < count) × IsCallAt nodes call)
    (λ e. ((λ h. (h.0, there_call nodes e.0 e.1 h.1.0 h.1.1)), λ h. (h.0, call_there nodes (slice_get nodes e.0) e.1 h.1))) number list)

-- ---- completed tags
abbrev parts : ℕ × TagParts → TagParts
parts e = e.1

abbrev tag_parts : ℕ → List Part → TagParts
tag_parts tag members = record { tag = tag; members = members }

abbrev of_members : ℕ → Sense → Option TagParts
of_members tag (IsMembers members) = Some (tag_parts tag members)
of_members tag x = None

module _ (s : Source) (sense : ℕ → Sense) where
  abbrev of_list : ℕ → Option ℕ → Option TagParts
  of_list i None = None
  of_list i (Some list) = of_members (tag_of s i) (sense list)

  abbrev list_of : ℕ → Option ℕ
  list_of i = if is_a s p_struct i then child_of s p_members i else None

  abbrev completed_at : ℕ → Option TagParts
  completed_at i = of_list i (list_of i)

  one_sense : (i : ℕ) (rest : List (ℕ × TagParts)) (x : Sense)
      → elim x as (λ _. List TagParts) [ IsMembers members ↦ tag_parts (tag_of s i) members ∷ map parts rest | _ ↦ map parts rest ] ≡ map parts (entry (of_members (tag_of s i) x) i rest)
  one_sense i rest (IsMembers members) = refl
  one_sense i rest x = refl

  one_tag : (i : ℕ) (rest : List (ℕ × TagParts)) (o : Option ℕ)
      → elim o as (λ _. List TagParts) [ None ↦ map parts rest | Some list ↦ elim (sense list) as (λ _. List TagParts) [ IsMembers members ↦ tag_parts (tag_of s i) members ∷ map parts rest | _ ↦ map parts rest ] ]
      ≡ map parts (entry (of_list i o) i rest)
  one_tag i rest None = refl
  one_tag i rest (Some list) = one_sense i rest (sense list)

  tags_walk : (i : ℕ) (senses : List Sense) → completed_from s senses sense i ≡ map parts (picked completed_at i (length senses))
  tags_walk i [] = refl
  tags_walk i (x ∷ rest) =
      let next : suc i ≡ i + 1 = omega arith in
      let later : completed_from s rest sense (suc i) ≡ map parts (picked completed_at (i + 1) (length rest)) =
      ap (completed_from s rest sense) next ∙ tags_walk (i + 1) rest in
      ap (λ (l : List TagParts). elim (list_of i) as (λ _. List TagParts) [ None ↦ l | Some list ↦ elim (sense list) as (λ _. List TagParts) [ IsMembers members ↦ tag_parts (tag_of s i) members ∷ l | _ ↦ l ] ]) later
      ∙ one_tag i (picked completed_at (i + 1) (length rest)) (list_of i)

  record Found (i : ℕ) (c : TagParts) (list : ℕ) : Type 0 where
    members : sense list ≡ IsMembers c.members
    tag : c.tag ≡ tag_of s i

  of_sense : (i : ℕ) (c : TagParts) (list : ℕ) (x : Sense) → sense list ≡ x → of_members (tag_of s i) x ≡ Some c → Found i c list
  of_sense i c list (IsMembers members) is h =
      let same : tag_parts (tag_of s i) members ≡ c = same_Some (tag_parts (tag_of s i) members) c h in
      record { members = is ∙ ap (λ (d : TagParts). IsMembers d.members) same; tag = sym (ap (λ (d : TagParts). d.tag) same) }
  of_sense i c list x is h = absurd (none-some c h)

  completes : (i : ℕ) (c : TagParts) → completed_at i ≡ Some c → CompletesAt s sense i c
  completes i c h = by (is_a s p_struct i) refl (child_of s p_members i) refl h
    where
      by : (b : Bool) → is_a s p_struct i ≡ b → (o : Option ℕ) → child_of s p_members i ≡ o → of_list i (if b then o else None) ≡ Some c → CompletesAt s sense i c
      by false is o list_is h = absurd (none-some c h)
      by true is None list_is h = absurd (none-some c h)
      by true is (Some list) list_is h =
          let f = of_sense i c list (sense list) refl h in
          record { specifier = is; list = list; list_is = list_is; members = f.members; tag = f.tag }

  completed : (i : ℕ) (c : TagParts) → CompletesAt s sense i c → completed_at i ≡ Some c
  completed i c at =
      ap (λ (b : Bool). of_list i (if b then child_of s p_members i else None)) at.specifier
      ∙ (ap (of_list i) at.list_is ∙ (ap (of_members (tag_of s i)) at.members ∙ ap (λ (t : ℕ). Some (tag_parts t c.members)) (sym at.tag)))

pub tags_completed : TagsCompleted
tags_completed s senses sense list =
    subst (λ (walk : List TagParts). (list ≡ walk) ↔ IsShown nat_cmp (λ (at : ℕ × TagParts). (at.0 < length senses) × CompletesAt s sense at.0 at.1) parts list) (sym (tags_walk s sense 0 senses))
    (picked_is (completed_at s sense) (length senses) (λ (at : ℕ × TagParts). (at.0 < length senses) × CompletesAt s sense at.0 at.1)
    (λ e. ((λ h. (h.0, completed s sense e.0 e.1 h.1)), λ h. (h.0, completes s sense e.0 e.1 h.1))) parts list)
