use Rattle.std.proofs.Common.{◌≡◌, ℕ, List, refl, ap, sym, ◌∙◌, subst}
use Rattle.c_lexer.specs.declared.Tokens.{Tokens}
use Rattle.c_grammar.specs.declared.trees.Tree.{Tree}
use Rattle.c_senses.specs.Names.{names_of, source_with}
use Rattle.tree_reads.specs.declared.syntax.Syntax.{Syntax}
use Rattle.tree_reads.specs.Sources.{source_in}
use Rattle.tree_reads.specs.declared.node_roles.roles.Role.{Role}
use Rattle.tree_reads.specs.node_roles.Roles.{AreRoles}
use Rattle.c_tags.specs.tag_numbers.Firsts.{Declares}
use Rattle.c_tags.proofs.tag_numbers.tags.number_tags.Goals as goal

-- the nodes are the same ones
roles_there : (new old : Syntax) (uses : List (ℕ × ℕ)) (roles : List Role) → new.tokens.now ≡ old.tokens.now → new.tree.now ≡ old.tree.now → AreRoles (source_in old uses) roles → AreRoles (source_in new uses) roles
roles_there new old uses roles tokens tree are =
    subst (λ (t : Tokens). AreRoles (source_with t new.tree.now uses) roles) (sym tokens) (subst (λ (t : Tree). AreRoles (source_with old.tokens.now t uses) roles) (sym tree) are)

pub returns-clause-tags : goal.returns-clause-tags
unfolding names_of
returns-clause-tags c =
    let uses = c.args.bound.now.uses.items in
    let s = source_in c.in_ok-syntax.syntax uses in
    let tags : s.declared.tags ≡ c.args.bound.now.tags.items =
    ap (λ (t : Tokens). (names_of t.text.now t.list.items c.in_ok-syntax.syntax.tree.now.nodes.items).tags) c.in_ok-syntax.ensures.tokens
    ∙ (ap (λ (t : Tree). (names_of c.args.syntax.tokens.now.text.now c.args.syntax.tokens.now.list.items t.nodes.items).tags) c.in_ok-syntax.ensures.tree
    ∙ sym c.requires.tags) in
    let declares : Declares s c.in_ok-declaring.declaring = c.in_ok-declaring.ensures s refl tags in
    let roles = roles_there c.in_ok-syntax.syntax c.args.syntax uses c.in_ok-roles.roles.items c.in_ok-syntax.ensures.tokens c.in_ok-syntax.ensures.tree (c.in_ok-roles.ensures uses) in
    c.in_ok-tags.ensures uses (subst (AreRoles s) (sym c.as_slice-2.ensures.value) roles) declares
    (c.in_ok-syntax.ensures.numbers uses (subst (AreRoles s) (sym c.as_slice.ensures.value) roles) declares)

pub returns-clause-ordered : goal.returns-clause-ordered
unfolding names_of
returns-clause-ordered c =
    let uses = c.args.bound.now.uses.items in
    let s = source_in c.in_ok-syntax.syntax uses in
    let tags : s.declared.tags ≡ c.args.bound.now.tags.items =
    ap (λ (t : Tokens). (names_of t.text.now t.list.items c.in_ok-syntax.syntax.tree.now.nodes.items).tags) c.in_ok-syntax.ensures.tokens
    ∙ (ap (λ (t : Tree). (names_of c.args.syntax.tokens.now.text.now c.args.syntax.tokens.now.list.items t.nodes.items).tags) c.in_ok-syntax.ensures.tree
    ∙ sym c.requires.tags) in
    let declares : Declares s c.in_ok-declaring.declaring = c.in_ok-declaring.ensures s refl tags in
    let roles = roles_there c.in_ok-syntax.syntax c.args.syntax uses c.in_ok-roles.roles.items c.in_ok-syntax.ensures.tokens c.in_ok-syntax.ensures.tree (c.in_ok-roles.ensures uses) in
    (c.in_ok-syntax.ensures.numbers uses (subst (AreRoles s) (sym c.as_slice.ensures.value) roles) declares).ordered
