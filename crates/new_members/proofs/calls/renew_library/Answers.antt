use Rattle.std.proofs.Common.{◌≡◌, ℕ, Contains, sym, ◌∙◌, subst₂}
use Rattle.std.proofs.lemmas.Option.{same_Some, none-some, slice_get_within}
use Rattle.pta_base.specs.declared.effect.Effect.{Effect}
use Rattle.edge_book.specs.Edges.{Gains}
use Rattle.edge_book.proofs.Gaining.{gains_same, gains_none}
use Rattle.sol_model.specs.declared.system.Function.{Function}
use Rattle.sol_model.specs.Families.{members}
use Rattle.new_members.specs.News.{NewEdge, NewLibraryEdge}
use Rattle.new_members.proofs.Answering.{on_ok, one_function}
use Rattle.new_members.proofs.calls.renew_library.Goals as goal

pub returns-in_default : goal.returns-in_default
returns-in_default c = gains_none c.args.pairs.now.items (NewLibraryEdge c.args.system.now (members c.args.rows.now) c.args.call.now c.args.news.now.row c.args.news.now.new.now c.args.location)
    (λ a b d. none-some d.0 (sym c.in_default.is ∙ (c.library_at.ensures.value d.0).0 d.1))

pub function_at-function-requires-clause-known : goal.function_at-function-requires-clause-known
function_at-function-requires-clause-known c = let is = (c.library_at.ensures.value c.in-Some.number).1 c.in-Some.is in slice_get_within c.args.system.now.functions c.in-Some.number is.0 is.1

pub returns : goal.returns
returns c =
    let S = c.args.system.now in
    let call = c.args.call.now in
    let G = members c.args.rows.now in
    let number : ℕ = c.in-Some.number in
    let function : Function = c.function_at-function.result.now in
    let old = c.args.pairs.now.items in
    let new = c.renew_edges.new.pairs.items in
    let E = NewLibraryEdge S G call c.args.news.now.row c.args.news.now.new.now c.args.location in
    let T : ℕ → Function → ℕ → ℕ → Type 0 = λ n f a b. (effect : Effect) × Contains f.effects effect × NewEdge S G call n c.args.news.now.row c.args.news.now.new.now effect a b in
    on_ok c.renew_edges.result (Gains old new (T number function)) (Gains old new E)
    (gains_same old new (T number function) E
    (λ a b h. (number, (c.library_at.ensures.value number).1 c.in-Some.is, (function, c.function_at-function.ensures.value, h)))
    (λ a b d.
    let same : d.0 ≡ number = same_Some d.0 number (sym ((c.library_at.ensures.value d.0).0 d.1) ∙ c.in-Some.is) in
    let one : d.2.0 ≡ function = one_function S d.0 number d.2.0 function d.2.1 c.function_at-function.ensures.value same in
    subst₂ (λ (n : ℕ) (f : Function). T n f a b) same one d.2.2))
    c.renew_edges.ensures
