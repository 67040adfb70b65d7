-- What can be initialised in a world with one tag more.
use Rattle.std.proofs.Common.{◌≡◌, ℕ, List, [], ◌∷◌, ◌++◌, refl, ap, sym, ◌∙◌, subst, Option, Some, None, map, Bool, true, false, cond, eqb, length, append-nil}
use Rattle.std.proofs.Math.Path.{fun_ext}
use Rattle.c_types.specs.Trees.{Ctype}
use Rattle.c_types.specs.Layout.{member_extent}
use Rattle.c_types.specs.Table.{Table, look_in}
use Rattle.c_types.specs.Made.{IsMade}
use Rattle.core_tree.specs.declared.node.Unit.{Unit}
use Rattle.c_inits.specs.Shapes.{Fields}
use Rattle.c_inits.specs.Made.{Part, TagParts, Look, looked_up, laid_out, fields_of}
use Rattle.c_inits.specs.Tables.{tag_parts, fillable}
use Rattle.c_inits.proofs.Fillable.{either_of}
use Rattle.c_senses.specs.Tree.{Source}
use Rattle.c_senses.specs.Sense.{Sense, sense_in}
use Rattle.c_senses.specs.Tags.{types_of_parts, completed_from}
use Rattle.c_senses.specs.Rows.{world_over}
use Rattle.unit_worlds.specs.Growing.{Completes, Grows, completed_at}
use Rattle.unit_worlds.proofs.Entries.{AreFew, few_at, completed_more}
use Rattle.c_initials.specs.Filling.{Fills}
use Rattle.c_initials.proofs.FillingLaws.{fills_on}
use Rattle.unit_walk.specs.filling_laws.Laws.{FillsFirst, FillsOn}
use Rattle.unit_walk.proofs.filling_laws.Tables.{IsOneMore, fillable_more}

last_fields : (xs : List (ℕ × Fields)) (t : ℕ) (fs : Fields) (tag : ℕ) → looked_up (xs ++ (t, fs) ∷ []) tag ≡ either_of (looked_up xs tag) (cond (eqb t tag) (Some fs) None)
last_fields [] t fs tag = refl
last_fields (x ∷ xs) t fs tag = pick (eqb x.0 tag) (last_fields xs t fs tag)
  where
    pick : (b : Bool) → looked_up (xs ++ (t, fs) ∷ []) tag ≡ either_of (looked_up xs tag) (cond (eqb t tag) (Some fs) None)
        → cond b (Some x.1) (looked_up (xs ++ (t, fs) ∷ []) tag) ≡ either_of (cond b (Some x.1) (looked_up xs tag)) (cond (eqb t tag) (Some fs) None)
    pick true e = refl
    pick false e = e

laid_append : (done : List (ℕ × Fields)) (a b : List TagParts) → laid_out done (a ++ b) ≡ laid_out (laid_out done a) b
laid_append done [] b = refl
laid_append done (c ∷ a) b = laid_append (done ++ (c.tag, fields_of (looked_up done) 0 c.members) ∷ []) a b

types_are : (parts : List Part) → types_of_parts parts ≡ map (λ (p : Part). p.type) parts
types_are [] = refl
types_are (p ∷ rest) = ap (λ (l : List Ctype). p.type ∷ l) (types_are rest)

one_more_of : (old new : Unit) (tag : ℕ) (parts : List Part) → Completes old new tag parts → IsOneMore old.types new.types tag parts
one_more_of old new tag parts h = record {
  open_before = h.was_open;
  members = h.members;
  look = λ t. h.look t ∙ ap (λ (l : List Ctype). cond (eqb tag t) (Some (map (member_extent (look_in old.types)) l)) (look_in old.types t)) (types_are parts);
}

module _ (s : Source) (done : List TagParts) (old new : Unit) (made_old : IsMade old.types) (made_new : IsMade new.types) (xs ys : List Sense) (f g : ℕ → Sense) (i j : ℕ) (k : Fills (world_over s xs f done i) old) where
  abbrev world_look : Look
  world_look = looked_up (laid_out [] done)

  same_look : world_look ≡ fillable old.types
  same_look = fun_ext k.fillable

  grown : (c : TagParts) (t : ℕ) → looked_up (laid_out [] (done ++ c ∷ [])) t ≡ either_of (fillable old.types t) (cond (eqb c.tag t) (Some (fields_of (fillable old.types) 0 c.members)) None)
  grown c t =
      ap (λ (l : List (ℕ × Fields)). looked_up l t) (laid_append [] done (c ∷ []))
      ∙ last_fields (laid_out [] done) c.tag (fields_of world_look 0 c.members) t
      ∙ ap (λ (look : Look). either_of (look t) (cond (eqb c.tag t) (Some (fields_of look 0 c.members)) None)) same_look

  fills_completed : (c : TagParts) → Completes old new c.tag c.members → Fills (world_over s ys g (done ++ c ∷ []) j) new
  fills_completed c h = record {
    fillable = λ t. grown c t ∙ fillable_more old.types new.types made_old made_new c.tag c.members (one_more_of old new c.tag c.members h) t;
  }

  pub fills_by : (es : List TagParts) → AreFew s es → Grows old new es → Fills (world_over s ys g (done ++ es) j) new
  unfolding AreFew
  fills_by [] few b =
      let on = fills_on (world_over s xs f done i) old new b made_old made_new k in
      subst (λ (l : List TagParts). Fills (world_over s ys g l j) new) (sym (append-nil done)) (record { fillable = on.fillable })
  fills_by (c ∷ []) few h = fills_completed c h
  fills_by (c ∷ d ∷ rest) few h = absurd few

pub fills_one : FillsOn
fills_one s first senses x old new i j made_old made_new grows k =
    let done : List TagParts = completed_from s senses (sense_in senses) 0 in
    subst (λ (l : List TagParts). Fills (world_over s (senses ++ x ∷ []) (sense_in (senses ++ x ∷ [])) l j) new) (sym (completed_more s first senses x))
    (fills_by s done old new made_old made_new senses (senses ++ x ∷ []) (sense_in senses) (sense_in (senses ++ x ∷ [])) i j k (completed_at s (sense_in senses) (length senses)) (few_at s (sense_in senses) (length senses)) grows)

none_complete : (table : Table) (t : ℕ) → table.completed ≡ [] → ◌≡◌ {A = Option Fields} None (fillable table t)
unfolding fillable
none_complete table t e = sym (ap (λ cs. looked_up (laid_out [] (map (tag_parts table) cs)) t) e)

pub fills_first : FillsFirst
fills_first s u i e = record { fillable = λ t. none_complete u.types t e }
