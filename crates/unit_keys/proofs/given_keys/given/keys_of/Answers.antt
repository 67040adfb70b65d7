use Rattle.std.proofs.Common.{◌≡◌, ◌∙◌, ℕ, List, Bool, length, refl, sym, ap, subst}
use Rattle.c_senses.specs.Names.{names_of}
use Rattle.c_senses.specs.Tree.{Source}
use Rattle.c_senses.specs.Sense.{Sense, sense_in}
use Rattle.c_results.specs.Standing.{senses_made}
use Rattle.tree_reads.specs.Sources.{source_in}
use Rattle.tree_reads.specs.node_roles.Roles.{AreRoles}
use Rattle.unit_keys.specs.given_keys.Declares.{Declares}
use Rattle.unit_keys.specs.given_keys.Flags.{AreFlags}
use Rattle.unit_keys.proofs.given_keys.Rightly.{tag_inside, keys_right}
use Rattle.unit_keys.proofs.given_keys.given.keys_of.Goals as goal

pub given_keys-requires-clause-flags : goal.given_keys-requires-clause-flags
unfolding names_of
given_keys-requires-clause-flags c =
    let uses = c.args.bound.now.uses.items in
    let s : Source = source_in c.args.numbered.now.syntax uses in
    let tags : s.declared.tags ≡ c.args.bound.now.tags.items = sym c.requires.bound.tags in
    let declares : Declares s c.in_ok-declaring.declaring = c.in_ok-declaring.ensures s refl tags in
    let roles : AreRoles s c.as_slice.result.now = subst (AreRoles s) (sym c.as_slice.ensures.value) (c.in_ok-roles.ensures uses) in
    let are : AreFlags s c.in_ok-flags.flags.items = c.in_ok-flags.ensures uses roles declares in
    ap length c.as_slice-3.ensures.value ∙ are.long

pub returns-clause-right : goal.returns-clause-right
unfolding names_of
returns-clause-right c = λ u.
    let uses = c.args.bound.now.uses.items in
    let s : Source = source_in c.args.numbered.now.syntax uses in
    let sense : ℕ → Sense = sense_in (senses_made u c.args.results.now) in
    let tags : s.declared.tags ≡ c.args.bound.now.tags.items = sym c.requires.bound.tags in
    let declares : Declares s c.in_ok-declaring.declaring = c.in_ok-declaring.ensures s refl tags in
    let roles : AreRoles s c.as_slice.result.now = subst (AreRoles s) (sym c.as_slice.ensures.value) (c.in_ok-roles.ensures uses) in
    let are : AreFlags s c.in_ok-flags.flags.items = c.in_ok-flags.ensures uses roles declares in
    keys_right s sense c.in_ok-list.list.items (λ d tag. tag_inside s c.in_ok-flags.flags.items d are tag)
    (c.in_ok-list.ensures.given uses sense (subst (λ (l : List Bool). AreFlags s l) (sym c.as_slice-3.ensures.value) are) (record { below = c.requires.tags.below; differ = c.requires.tags.differ })
    (c.in_ok-keys.ensures u uses (subst (AreRoles s) (sym c.as_slice-2.ensures.value) (c.in_ok-roles.ensures uses))))
