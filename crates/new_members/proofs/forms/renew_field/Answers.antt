use Rattle.std.proofs.Common.{◌≡◌, ℕ, ◌+◌, List, get_or, Some, Vec, Global, sym, ap, ◌∙◌, subst, arith}
use Rattle.std.proofs.lemmas.Option.{slice_get-get_or, same_Some, none-some}
use Rattle.sol_model.specs.declared.system.System.{System}
use Rattle.sol_model.specs.Places.{field_of}
use Rattle.edge_book.specs.Edges.{Gains}
use Rattle.edge_book.proofs.Gaining.{gains_same, gains_none}
use Rattle.new_members.specs.News.{NewFieldFact}
use Rattle.new_members.proofs.Through.{Through, OfAll, through_none, through_next, through_all}
use Rattle.new_members.proofs.forms.renew_field.Goals as goal
use Rattle.new_members.proofs.forms.renew_field.Goals.{in-Some+in_ok-put, in_default}

abbrev At : System → ℕ → ℕ → ℕ → ℕ → ℕ → ℕ → Type 0
At S to ty member whole a b = (field_of S whole ty member ≡ Some b) × (a ≡ to)

pub loop-whole-init : goal.loop-whole-init
loop-whole-init c = through_none c.args.new.now (At c.args.system.now c.args.to c.args.ty c.args.member) c.args.facts.now.items

pub loop-whole-preserved : goal.loop-whole-preserved
loop-whole-preserved c =
    let new = c.args.new.now in
    let i : ℕ = c.loop-whole.whole-index in
    let whole : ℕ = get_or new i 0 in
    let E = At c.args.system.now c.args.to c.args.ty c.args.member in
    let old = c.args.facts.now.items in
    let mid = c.loop-whole.facts.items in
    let at = slice_get-get_or new i 0 c.loop-whole-test.true in
    let P : List (ℕ × ℕ) → Type 0 = λ xs. Gains old xs (Through new E (i + 1)) in
    elim c.match-field_of.branch [
      | in-Some+in_ok-put w ↦ subst P (sym (ap (λ (v : Vec (ℕ × ℕ) Global). v.items) w.facts-is))
          (through_next new E old mid w.put.new.pairs.items i whole c.loop-whole.invariant at
          (gains_same mid w.put.new.pairs.items (λ a b. (a ≡ c.args.to) × (b ≡ w.in-Some.node)) (E whole)
          (λ a b h. (sym c.field_of.ensures.value ∙ w.in-Some.is ∙ ap Some (sym h.1), h.0))
          (λ a b h. (h.1, same_Some b w.in-Some.node (sym h.0 ∙ sym c.field_of.ensures.value ∙ w.in-Some.is)))
          w.in_ok-put.ensures))
      | in_default w ↦ subst P (sym (ap (λ (v : Vec (ℕ × ℕ) Global). v.items) w.facts-is))
          (through_next new E old mid mid i whole c.loop-whole.invariant at
          (gains_none mid (E whole) (λ a b h. none-some b (sym w.in_default.is ∙ c.field_of.ensures.value ∙ h.0))))
    ]

pub returns : goal.returns
returns c =
    let new = c.args.new.now in
    let n = c.loop-whole-test.false in
    let E = At c.args.system.now c.args.to c.args.ty c.args.member in
    gains_same c.args.facts.now.items c.loop-whole.facts.items (OfAll {X = ℕ} new E) (NewFieldFact c.args.system.now c.args.to c.args.ty c.args.member new) (λ a b h. (h.0, h.1, h.2.0, h.2.1)) (λ a b h. (h.0, h.1, (h.2, h.3)))
    (through_all {X = ℕ} new E c.args.facts.now.items c.loop-whole.facts.items c.loop-whole.whole-index (omega arith) c.loop-whole.invariant)
