use Rattle.std.proofs.Common.{◌≡◌, None, List, [], ◌∷◌, length, ap, sym, ◌∙◌, arith}
use Rattle.c_scope.specs.declared.kinds.Declared.{Declared}
use Rattle.c_senses.specs.Entities.{type_behind, own_type, all_together, types_of}
use Rattle.tree_reads.specs.Sources.{source_in}
use Rattle.c_meanings.specs.Later.{later}
use Rattle.c_meanings.proofs.Meant.{single, type_of_one, meant_type, meant_other, named_plain, named_own}
use Rattle.c_meanings.proofs.Tests.{some_of}
use Rattle.c_meanings.proofs.meanings.meant_by.Goals as goal

pub returns-then-is_type-clause-meant : goal.returns-then-is_type-clause-meant
returns-then-is_type-clause-meant c = λ u uses more.
    let s = source_in c.args.syntax.now uses in
    let F = later u c.args.results.now more in
    meant_type s F c.args.leaf c.args.is_type (c.requires.is_type uses F) c.if-is_type.true

pub returns-then-by-leaf-clause-meant : goal.returns-then-by-leaf-clause-meant
returns-then-by-leaf-clause-meant c = λ u uses more.
    let s = source_in c.args.syntax.now uses in
    let F = later u c.args.results.now more in
    let leaf = c.args.leaf in
    let items = c.in-Some.list.items in
    let d = c.index.result.now in
    let thin = some_of _ _ _ c.in-Some.is c.in_ok-list.ensures.thin u uses more in
    let one : length items ≡ 1 = omega (arith, c.len.ensures, c.if-len-ne1.false) in
    let same : items ≡ d ∷ [] = single items d one ∙ ap (λ (x : Declared). x ∷ []) (sym c.index.ensures) in
    let behind : type_behind s F leaf ≡ own_type s F d.node = sym thin.together ∙ (ap (λ (l : List Declared). all_together None (types_of s F l)) same ∙ type_of_one s F d) in
    meant_other s F leaf d.node c.args.is_type (c.requires.is_type uses F) c.if-is_type.false behind (named_own s F leaf (behind ∙ ap (own_type s F) c.if-by-leaf.true))

pub returns-clause-meant : goal.returns-clause-meant
returns-clause-meant c = λ u uses more.
    let s = source_in c.args.syntax.now uses in
    let F = later u c.args.results.now more in
    let leaf = c.args.leaf in
    let items = c.in-Some.list.items in
    let d = c.index.result.now in
    let thin = some_of _ _ _ c.in-Some.is c.in_ok-list.ensures.thin u uses more in
    let one : length items ≡ 1 = omega (arith, c.len.ensures, c.if-len-ne1.false) in
    let same : items ≡ d ∷ [] = single items d one ∙ ap (λ (x : Declared). x ∷ []) (sym c.index.ensures) in
    let behind : type_behind s F leaf ≡ own_type s F d.node = sym thin.together ∙ (ap (λ (l : List Declared). all_together None (types_of s F l)) same ∙ type_of_one s F d) in
    meant_other s F leaf d.node c.args.is_type (c.requires.is_type uses F) c.if-is_type.false behind (named_plain s F leaf (sym (c.has_initialiser.ensures uses F) ∙ c.if-has_initialiser.false))
