use Rattle.std.proofs.Common.{◌≡◌, ℕ, ◌+◌, ◌≤◌, Bool, true, false, Option, Some, None, refl, sym, ap, subst, ◌∙◌, arith}
use Rattle.pta_base.specs.declared.kind.Kind.{Kind}
use Rattle.c_grammar.specs.Tree.{nests}
use Rattle.c_grammar.specs.Refusals.{refusal}
use Rattle.c_grammar.specs.Reads.{Walks, Opens, deep, refused, first, second}
use Rattle.c_parser.specs.declared.reader.Own.{Own}
use Rattle.c_grammar.specs.Notes.{noted}
use Rattle.c_parser.specs.Parse.{state}
use Rattle.c_parser.specs.Levels.{is_run}
use Rattle.c_parser.specs.Leads.{kept, ended}
use Rattle.c_parser.proofs.Leads.{opens_own, opens_helper, alone_ended, kept_own}
use Rattle.c_parser.proofs.Chains.{run_parts}
use Rattle.c_parser.proofs.reader.open.Goals as goal
use Rattle.c_parser.proofs.reader.open.Goals.{then-makes_node, else-makes_node}

pub returns-then-deeper-gt-MOST_NESTED : goal.returns-then-deeper-gt-MOST_NESTED
returns-then-deeper-gt-MOST_NESTED c = λ scopes nodes sees. let e : c.nests.result ≡ nests c.args.production = c.nests.ensures.is in deep (omega arith)

pub returns-in-Some : goal.returns-in-Some
returns-in-Some c = λ scopes nodes sees.
    let i = c.args.input in
    let s = state c.args.ahead.place scopes nodes c.args.own.now in
    let n : c.nests.result ≡ nests c.args.production = c.nests.ensures.is in
    let a = sees.0 in
    let b = sees.1 in
    let e : refusal c.args.production (first i.text.now i.tokens.now s) (second i.text.now i.tokens.now s) ≡ Some c.in-Some.kind = cc in
    refused (omega arith) e

no_run : (q : ℕ) (b : Bool) → is_run q q ≡ b → b ≡ false
no_run q false e = refl
no_run q true e = let p = run_parts q q e in absurd (omega (arith, p.1))

pub returns : goal.returns
returns c = λ scopes nodes sees y z w h.
    let i = c.args.input in
    let s = state c.args.ahead.place scopes nodes c.args.own.now in
    let n : c.nests.result ≡ nests c.args.production = c.nests.ensures.is in
    let a = sees.0 in
    let b = sees.1 in
    let e : ◌≡◌ {A = Option Kind} (refusal c.args.production (first i.text.now i.tokens.now s) (second i.text.now i.tokens.now s)) None = cc in
    let d : c.saturating_add-deeper.result ≡ c.args.depth + nests c.args.production = omega arith in
    let q = c.args.production in
    let place = c.args.ahead.place in
    let own = c.args.own.now in
    let new = c.if-makes_node.own in
    let outer = c.if-makes_node.outer in
    let fits : c.args.depth + nests q ≤ 256 = omega arith in
    let walks = subst (λ n. Walks i.text.now i.tokens.now q 0 n (state place scopes nodes new) y) d w in
    let given = alone_ended i.text.now i.tokens.now q q c.saturating_add-deeper.result place (kept outer) y z (no_run q (is_run q q) refl) h in
    elim c.if-makes_node.branch [
      | then-makes_node v ↦
          let inner = v.own-is ∙ v.replace.ensures.after in
          let kept_is = kept_own outer own (v.outer-is ∙ ap (λ (o : Own). Some o) v.replace.ensures.value) in
          let o = opens_own i.text.now i.tokens.now q c.args.depth place scopes nodes own new fits e (sym c.makes_node.ensures ∙ v.if-makes_node.true)
          (ap (λ (o : Own). o.children.items) inner ∙ v.new.ensures.items) (ap (λ (o : Own). noted o.notes) inner ∙ v.begin.ensures) y walks in
          subst (λ x. Opens i.text.now i.tokens.now q c.args.depth s x) (sym (given ∙ ap (λ k. ended q place k y) kept_is)) o
      | else-makes_node v ↦
          let same : new ≡ own = v.own-is in
          let o = opens_helper i.text.now i.tokens.now q c.args.depth place scopes nodes own fits e (sym c.makes_node.ensures ∙ v.if-makes_node.false) y
          (subst (λ (o : Own). Walks i.text.now i.tokens.now q 0 (c.args.depth + nests q) (state place scopes nodes o) y) same walks) in
          subst (λ x. Opens i.text.now i.tokens.now q c.args.depth s x) (sym (given ∙ ap (λ k. ended q place (kept k) y) v.outer-is)) o
    ]
