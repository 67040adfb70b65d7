-- The leaf of a compound literal has no linkage.
use Rattle.std.proofs.Common.{◌≡◌, ℕ, zero, suc, Bool, true, false, List, Option, Some, None, refl, sym, ap, ◌∙◌, subst, inl, inr}
use Rattle.std.specs.Prelude.{option_and_then, option_map, if◌then◌else◌}
use Rattle.c_lexer.specs.declared.Tokens.{Tokens}
use Rattle.c_grammar.specs.declared.trees.Tree.{Tree}
use Rattle.c_types.specs.Trees.{Ctype}
use Rattle.core_tree.specs.declared.node.NodeKind.{NodeKind}
use Rattle.core_tree.specs.declared.node.NodeKind.TheVariants.{Literal}
use Rattle.c_consts.specs.Core.{Core, Cores, Of, NoCores, MoreCores, kind_of, core_in, cores_under}
use Rattle.c_scope.specs.declared.kinds.Declared.{Declared as Declaration}
use Rattle.c_senses.specs.Names.{source_of, numbered, ordinary_at, has_linkage}
use Rattle.c_senses.specs.Tree.{Source, is_name}
use Rattle.c_senses.specs.Entities.{is_defined, is_linked, initialiser_for}
use Rattle.c_senses.specs.Right.{IsDeclaredAt, Declared, Within, Itself, Below, IsPart, IsLiteralOf, declared_name, declares_entity, declared_as, entity_type, representative, body_at, block_for, core_of_sense}
use Rattle.c_senses.specs.Rows.{AreSenses}
use Rattle.c_senses.specs.Sense.{Sense, IsCore, IsInitial, sense_in}
use Rattle.core_node_laws.specs.literal_nodes.Holding.{Asks, Holds, AllHold, OfSense}
use Rattle.core_node_laws.specs.literal_nodes.Unnamed.{IsUnnamed}
use Rattle.core_node_laws.proofs.literal_nodes.Unnamed.{unnamed}
use Rattle.declaration_laws.specs.definition_laws.scope_laws.Scoped.{Rooted}
use Rattle.declaration_laws.proofs.definition_laws.scope_laws.Whole.{linked_names}
use Rattle.declaration_laws.proofs.declared_type_laws.owner_laws.Naming.{clash, entry_in}

module _ (s : Source) (senses : List Sense) (are : AreSenses s senses) where
  abbrev pub H : Core → Type 0
  H = Holds (IsUnnamed s)

  part_in : (under : Cores) (k : ℕ) (c : Core) → AllHold (IsUnnamed s) under → core_in under k ≡ Some c → H c
  part_in NoCores k c h e = cc
  part_in (MoreCores x rest) zero c h e = subst H (let same : x ≡ c = cc in same) h.0
  part_in (MoreCores x rest) (suc k) c h e = part_in rest k c h.1 e

  part_held : (part whole : Core) → H whole → IsPart s senses part whole → H part
  part_held part (Of kind place type under) h p = part_in under p.0 part h.1 p.1

  within_held : (c whole : Core) → Within s senses c whole → H whole → H c
  within_held c whole Itself h = h
  within_held c whole (Below {part = part} p inner) h = within_held c part inner (part_held part whole h p)

  of_sense : (x : Sense) (c : Core) → OfSense (IsUnnamed s) x → core_of_sense s senses x ≡ Some c → H c
  of_sense (IsCore y) c h e = subst H (let same : y ≡ c = cc in same) h
  of_sense (IsInitial y n) c h e = subst H (let same : y ≡ c = cc in same) h
  of_sense x c h e = cc

  body_held : (r : ℕ) (c : Core) → body_at s senses r ≡ Some c → H c
  body_held r c e = by (is_defined s (sense_in senses) r) (block_for s senses r) (initialiser_for s (sense_in senses) r) e
    where
      at : (o : Option ℕ) → option_and_then (λ b. core_of_sense s senses (sense_in senses b)) o ≡ Some c → H c
      at None e = cc
      at (Some b) e = of_sense (sense_in senses b) c (unnamed s senses are b) e

      by : (d : Bool) (block init : Option ℕ) → (if d then option_and_then (λ b. core_of_sense s senses (sense_in senses b)) block else option_and_then (λ b. core_of_sense s senses (sense_in senses b)) init) ≡ Some c → H c
      by true block init e = at block e
      by false block init e = at init e

  declared_body : (d : ℕ) (what : Declared) (c : Core) → declared_name s senses d ≡ Some what → what.body ≡ Some c → H c
  declared_body d what c e body = by (declares_entity s senses d) (entity_type s senses d) e
    where
      by : (b : Bool) (t : Option Ctype) → (if b then option_map (declared_as s senses d) t else None) ≡ Some what → H c
      by false t e = cc
      by true None e = cc
      by true (Some t) e =
          let same : declared_as s senses d t ≡ what = cc in
          body_held (representative s senses d) c (ap (λ (x : Declared). x.body) same ∙ body)

  unnamed_kind : (c : Core) (leaf : ℕ) → H c → kind_of c ≡ Literal leaf → is_name s leaf ≡ false
  unnamed_kind (Of kind place type under) leaf h e = (subst (λ (k : NodeKind). Asks (IsUnnamed s) k place type under) e h.0)

  -- the body of what is declared, whether by a name or by a literal
  pub declared_held : (leaf : ℕ) (what : Declared) (c : Core) → IsDeclaredAt s senses leaf what → what.body ≡ Some c → H c
  declared_held leaf what c (inl is) body = declared_body leaf what c is body
  declared_held leaf what c (inr (x, (kind, (d, other, whole, named, own, within)), is)) body =
      let held : H x = within_held x whole within (declared_body d other whole named own) in
      of_first x c held (sym (ap (λ (y : Declared). y.body) is) ∙ body)
    where
      of_first : (x c : Core) → H x → core_in (cores_under x) 0 ≡ Some c → H c
      of_first (Of kind place type under) c h e = part_in under 0 c h.1 e

  pub literal_unnamed : (leaf : ℕ) (c : Core) → IsLiteralOf s senses leaf c → is_name s leaf ≡ false
  literal_unnamed leaf c (kind, (d, what, body, named, is, within)) = unnamed_kind c leaf (within_held c body within (declared_body d what body named is)) kind

module _ (tokens : Tokens) (tree : Tree) (tag_number : ℕ → ℕ) (rooted : Rooted (numbered tag_number (source_of tokens tree))) where
  abbrev src : Source
  src = numbered tag_number (source_of tokens tree)

  pub literal_unlinked : (senses : List Sense) → AreSenses src senses → (leaf : ℕ) (c : Core) → IsLiteralOf src senses leaf c → is_linked src (sense_in senses) leaf ≡ false
  literal_unlinked senses are leaf c literal = by (ordinary_at src leaf) refl
    where
      linked_is : (d : Declaration) → ordinary_at src leaf ≡ Some d → (b : Bool) → has_linkage d ≡ b → b ≡ false
      linked_is d at false e = refl
      linked_is d at true e =
          let own = entry_in src.declared.ordinary leaf d at in
          clash _ (subst (λ (k : ℕ). is_name src k ≡ true) own.1 (linked_names tokens tree tag_number rooted own.0.0 d own.0.1 e)) (literal_unnamed src senses are leaf c literal)

      by : (o : Option Declaration) → ordinary_at src leaf ≡ o → (elim o as (λ _. Bool) [ None ↦ false | Some z ↦ has_linkage z ]) ≡ false
      by None at = refl
      by (Some d) at = linked_is d at (has_linkage d) refl
