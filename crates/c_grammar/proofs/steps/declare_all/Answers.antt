use Rattle.std.proofs.Common.{◌≡◌, ℕ, ◌+◌, ◌<◌, List, [], ◌∷◌, ◌++◌, length, take, get_or, map, refl, sym, ap, ◌∙◌}
use Rattle.std.proofs.lemmas.List.{take_more, map-append}
use Rattle.c_grammar.specs.Log.{seen}
use Rattle.c_grammar.specs.Names.{Names, Declaration, declared, all_declared}
use Rattle.c_grammar.proofs.steps.declare_all.Goals as goal

all_declared-append : (names : Names) (ds : List Declaration) (d : Declaration) → all_declared names (ds ++ d ∷ []) ≡ declared (all_declared names ds) d
all_declared-append names [] d = refl
all_declared-append names (e ∷ ds) d = all_declared-append (declared names e) ds d

declared_next : {X : Type 0} (f : X → Declaration) → (names now new : Names) (xs : List X) (i : ℕ) (d : X) → i < length xs → now ≡ all_declared names (map f (take i xs)) → new ≡ declared now (f (get_or xs i d)) → new ≡ all_declared names (map f (take (i + 1) xs))
declared_next f names now new xs i d l e g =
    g ∙ (ap (λ n. declared n (f (get_or xs i d))) e
    ∙ (sym (all_declared-append names (map f (take i xs)) (f (get_or xs i d)))
    ∙ ap (λ ds. all_declared names ds) (sym (map-append f (take i xs) (get_or xs i d ∷ [])) ∙ ap (λ ys. map f ys) (sym (take_more xs i d l)))))

pub loop-declared-preserved : goal.loop-declared-preserved
loop-declared-preserved c =
    let d = c.declared-item.result in
    let pair : ◌≡◌ {A = Declaration} (c.name.result.now, c.is_type.result) (seen d) = cc in
    declared_next seen c.args.scopes.now c.loop-declared.scopes c.declare.new.self c.args.scope.now c.loop-declared.declared-index d c.loop-declared-test.true c.loop-declared.invariant
    (c.in_ok-declare.ensures.ok ∙ ap (λ x. declared c.loop-declared.scopes x) (pair ∙ ap seen c.declared-item.is))
