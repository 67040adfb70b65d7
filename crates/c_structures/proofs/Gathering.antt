-- Members one after another, and where they stand.
use Rattle.std.proofs.Common.{◌≡◌, ℕ, ◌+◌, ◌<◌, ◌≤◌, Bool, true, false, cond, ◌&&◌, ◌||◌, not, List, [], ◌∷◌, ◌++◌, Option, Some, None, length, get_or, drop, append_assoc, refl, sym, ap, ◌∙◌}
use Rattle.std.specs.Prelude.{option_and_then}
use Rattle.std.proofs.lemmas.List.{drop_more, append-nil}
use Rattle.pta_base.specs.declared.kind.Kind.TheVariants.{Operand}
use Rattle.c_types.specs.Trees.{Ctype}
use Rattle.c_grammar.specs.Productions.{p_specs, p_field}
use Rattle.c_inits.specs.Made.{Part}
use Rattle.c_senses.specs.Tree.{Source, is_a, any_where, child_of, parent_of, last_where, last_or}
use Rattle.c_senses.specs.World.{World}
use Rattle.c_senses.specs.Given.{Given, Fits, given_if}
use Rattle.c_senses.specs.Limits.{ends_flexible}
use Rattle.c_senses.specs.Sense.{Sense, IsMembers, IsType}
use Rattle.c_senses.specs.Tags.{members_in_sense, members_among, type_in_sense, untagged_in, is_in_union, unnamed_member, member_specs, member_declaration, in_union, is_last_in, is_last_field, declares_members}
use Rattle.c_results.specs.Parts.{parts_in, type_in}
use Rattle.c_declarators.proofs.Specifying.{drop_past}
use Rattle.c_structures.specs.Members.{parts_or, last_declaration}

pub nothing_more : (xs : List Part) (o : Option (List Part)) → o ≡ None → xs ≡ xs ++ parts_or o
nothing_more xs o e = sym (ap (λ (x : Option (List Part)). xs ++ parts_or x) e ∙ append-nil xs)

last_assoc : (a b c : Option ℕ) → last_or (last_or a b) c ≡ last_or a (last_or b c)
last_assoc None b c = refl
last_assoc (Some x) b c = refl

pub last_more : (test : ℕ → Bool) (list : List ℕ) (i : ℕ) (now next : Option ℕ) → i < length list → next ≡ last_or (cond (test (get_or list i 0)) (Some (get_or list i 0)) None) now → last_or (last_where test (drop (i + 1) list)) next ≡ last_or (last_where test (drop i list)) now
last_more test list i now next h e =
    let x = get_or list i 0 in
    let here : Option ℕ = cond (test x) (Some x) None in
    let later = last_where test (drop (i + 1) list) in
    ap (last_or later) e
    ∙ (sym (last_assoc later here now) ∙ sym (ap (λ (xs : List ℕ). last_or (last_where test xs) now) (drop_more list i 0 h)))

module _ (w : World) (s : Source) (sense : ℕ → Sense) where
  in_sense : (x : Sense) → members_in_sense w s sense x ≡ parts_or (parts_in x)
  in_sense (IsMembers parts) = refl
  in_sense x = refl

  pub members_more : (list : List ℕ) (i : ℕ) (now next : List Part) → i < length list → next ≡ now ++ parts_or (parts_in (sense (get_or list i 0))) → next ++ members_among w s sense (drop (i + 1) list) ≡ now ++ members_among w s sense (drop i list)
  members_more list i now next h e =
      let c = get_or list i 0 in
      let later = members_among w s sense (drop (i + 1) list) in
      ap (λ (xs : List Part). xs ++ later) e
      ∙ (append_assoc now (parts_or (parts_in (sense c))) later
      ∙ (sym (ap (λ (xs : List Part). now ++ (xs ++ later)) (in_sense (sense c)))
      ∙ sym (ap (λ (xs : List ℕ). now ++ members_among w s sense xs) (drop_more list i 0 h))))

  pub members_all : (list : List ℕ) (i : ℕ) (now : List Part) → length list ≤ i → now ++ members_among w s sense (drop i list) ≡ members_among w s sense list → now ≡ members_among w s sense list
  members_all list i now h e =
      sym (ap (λ (xs : List ℕ). now ++ members_among w s sense xs) (drop_past list i h) ∙ append-nil now) ∙ e

  -- the type of an untagged structure or union
  in_type : (x : Sense) → type_in_sense w s sense x ≡ type_in x
  in_type (IsType t) = refl
  in_type x = refl

  abbrev typed_at : Option ℕ → Option Ctype
  typed_at o = option_and_then (λ i. type_in_sense w s sense (sense i)) o

  pub untagged_some : (specs c : ℕ) (o : Option Ctype) → Some c ≡ untagged_in w s sense specs → type_in (sense c) ≡ o → typed_at (untagged_in w s sense specs) ≡ o
  untagged_some specs c o e h = sym (ap typed_at e) ∙ (in_type (sense c) ∙ h)

  pub untagged_none : (specs : ℕ) → None ≡ untagged_in w s sense specs → typed_at (untagged_in w s sense specs) ≡ None
  untagged_none specs e = sym (ap typed_at e)

  -- specifiers alone
  abbrev one_part : Ctype → Given Sense
  one_part t = Fits (IsMembers (record { name = None; type = t; bits = None } ∷ []))

  pub unnamed_some : (at : ℕ) (o : Option Ctype) (t : Ctype) (b : Bool) → o ≡ Some t → b ≡ (is_in_union w s sense at || not (ends_flexible w t)) → unnamed_member w s sense at o ≡ given_if b Operand at (one_part t)
  unnamed_some at o t b e h =
      ap (unnamed_member w s sense at) e ∙ sym (ap (λ (x : Bool). given_if x Operand at (one_part t)) h)

  pub unnamed_none : (at : ℕ) (o : Option Ctype) → o ≡ None → unnamed_member w s sense at o ≡ Fits (IsMembers [])
  unnamed_none at o e = ap (unnamed_member w s sense at) e

  -- a declaration of members
  pub declared_none : (at : ℕ) (children : List ℕ) → None ≡ child_of s p_specs at → member_declaration w s sense at children ≡ Fits (IsMembers [])
  declared_none at children e = sym (ap (member_specs w s sense at children) e)

  abbrev chosen : ℕ → List ℕ → ℕ → Bool → Given Sense
  chosen at children specs b = cond b (Fits (IsMembers (members_among w s sense children))) (unnamed_member w s sense at (typed_at (untagged_in w s sense specs)))

  pub declared_fields : (at specs : ℕ) (children : List ℕ) → Some specs ≡ child_of s p_specs at → true ≡ any_where (is_a s p_field) children → Fits (IsMembers (members_among w s sense children)) ≡ member_declaration w s sense at children
  declared_fields at specs children e h = ap (chosen at children specs) h ∙ ap (member_specs w s sense at children) e

  pub declared_alone : (at specs : ℕ) (children : List ℕ) → Some specs ≡ child_of s p_specs at → false ≡ any_where (is_a s p_field) children → unnamed_member w s sense at (typed_at (untagged_in w s sense specs)) ≡ member_declaration w s sense at children
  declared_alone at specs children e h = ap (chosen at children specs) h ∙ ap (member_specs w s sense at children) e

  -- where a field stands
  pub in_union_some : (i m : ℕ) (b : Bool) → Some m ≡ parent_of s i → b ≡ is_in_union w s sense m → b ≡ in_union w s sense i
  in_union_some i m b up e = e ∙ ap (λ (o : Option ℕ). elim o [ None ↦ false | Some member ↦ is_in_union w s sense member ]) up

  last_elim : (o : Option ℕ) (m : ℕ) → last_declaration w s sense o m ≡ (elim o [ None ↦ false | Some list ↦ is_last_in w s sense (declares_members w s sense) list m ])
  last_elim None m = refl
  last_elim (Some list) m = refl

  pub last_some : (i m : ℕ) (a b : Bool) → Some m ≡ parent_of s i → a ≡ is_last_in w s sense (is_a s p_field) m i → b ≡ last_declaration w s sense (parent_of s m) m → (a && b) ≡ is_last_field w s sense i
  last_some i m a b up ea eb =
      ap (λ (x : Bool). x && b) ea
      ∙ (ap (λ (x : Bool). is_last_in w s sense (is_a s p_field) m i && x) (eb ∙ last_elim (parent_of s m) m)
      ∙ ap (λ (o : Option ℕ). elim o [ None ↦ false | Some q ↦ is_last_in w s sense (is_a s p_field) q i && (elim (parent_of s q) [ None ↦ false | Some list ↦ is_last_in w s sense (declares_members w s sense) list q ]) ]) up)
