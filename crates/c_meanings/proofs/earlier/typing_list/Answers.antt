use Rattle.std.proofs.Common.{◌≡◌, ℕ, ◌<◌, Option, Some, None, List, [], ◌∷◌, ◌++◌, length, sym, ap, subst, ◌∙◌, arith}
use Rattle.c_types.specs.Trees.{Ctype}
use Rattle.c_scope.specs.declared.kinds.Declared.{Declared}
use Rattle.c_senses.specs.Names.{typing_declarations, ordinary_at}
use Rattle.c_senses.specs.Sense.{sense_in}
use Rattle.c_senses.specs.Entities.{all_together, types_of, own_type}
use Rattle.c_results.specs.Standing.{senses_made}
use Rattle.name_chains.specs.declared.links.Link.{Link}
use Rattle.name_chains.specs.Links.{listed, IsLinkOf, BeforeIs}
use Rattle.name_chains.proofs.Linked.{listed-none, listed-step}
use Rattle.tree_reads.specs.Sources.{source_read, source_in}
use Rattle.c_meanings.specs.Known.{nodes_in}
use Rattle.c_meanings.specs.Joined.{with_own}
use Rattle.c_meanings.proofs.Lists.{types_more}
use Rattle.c_meanings.proofs.earlier.typing_list.Goals as goal

link_within : (links : List Link) (i : ℕ) (o : Option ℕ) → BeforeIs i o → i < length links → IsLinkOf links o
link_within links i None h l = tt
link_within links i (Some j) h l = omega (arith, h, l)

pub returns-in_default-clause-gives : goal.returns-in_default-clause-gives
returns-in_default-clause-gives c = λ u uses.
    let s = source_in c.args.syntax.now uses in
    let sense = sense_in (senses_made u c.args.results.now) in
    let links = c.args.names.now.chains.links.items in
    let those : listed links None ≡ typing_declarations s (ordinary_at s c.args.leaf) =
    subst (λ (o : Option ℕ). listed links o ≡ typing_declarations s (ordinary_at s c.args.leaf)) c.in_default.is (c.typing_link.ensures.list s (nodes_in c.args.syntax.now) c.requires.names.chained.chains) in
    ap (λ (ds : List Declared). all_together None (types_of s sense ds)) (c.new.ensures.items ∙ (sym (listed-none links) ∙ those))

pub link_at-own-requires : goal.link_at-own-requires
link_at-own-requires c =
    subst (λ (o : Option ℕ). IsLinkOf c.args.names.now.chains.links.items o) c.in-Some.is (c.typing_link.ensures.link (source_read c.args.syntax.now) (nodes_in c.args.syntax.now) c.requires.names.chained.chains)

pub typing_before-requires-clause-last : goal.typing_before-requires-clause-last
typing_before-requires-clause-last c =
    let links = c.args.names.now.chains.links.items in
    let chains = c.requires.names.chained.chains in
    let within : IsLinkOf links (Some c.in-Some.place) = subst (λ (o : Option ℕ). IsLinkOf links o) c.in-Some.is (c.typing_link.ensures.link (source_read c.args.syntax.now) (nodes_in c.args.syntax.now) chains) in
    link_within links c.in-Some.place c.link_at-own.result.before (chains.links.each c.in-Some.place c.link_at-own.result c.link_at-own.ensures) within

pub returns-clause-gives : goal.returns-clause-gives
returns-clause-gives c = λ u uses.
    let s = source_in c.args.syntax.now uses in
    let sense = sense_in (senses_made u c.args.results.now) in
    let links = c.args.names.now.chains.links.items in
    let chains = c.requires.names.chained.chains in
    let place = c.in-Some.place in
    let own = c.link_at-own.result in
    let those : listed links (Some place) ≡ typing_declarations s (ordinary_at s c.args.leaf) =
    subst (λ (o : Option ℕ). listed links o ≡ typing_declarations s (ordinary_at s c.args.leaf)) c.in-Some.is (c.typing_link.ensures.list s (nodes_in c.args.syntax.now) chains) in
    let step : listed links (Some place) ≡ listed links own.before ++ own.declared ∷ [] = listed-step links place own c.link_at-own.ensures chains.links in
    ap (λ (ds : List Declared). all_together None (types_of s sense ds)) c.in_ok-push.ensures.items
    ∙ (types_more s sense None c.in_ok-list.list.items own.declared
    ∙ (ap (λ (o : Option Ctype). with_own o (own_type s sense own.declared.node)) (c.in_ok-list.ensures.gives u uses)
    ∙ (sym (types_more s sense None (listed links own.before) own.declared)
    ∙ ap (λ (ds : List Declared). all_together None (types_of s sense ds)) (sym step ∙ those))))
