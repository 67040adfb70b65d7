use Rattle.std.proofs.Common.{◌≡◌, ℕ, List, Option, [], ◌∷◌, ◌++◌, Some, length, sym, ap, subst, ◌∙◌, arith, true, refl, slice_get, length-append, ◌+◌}
use Rattle.c_scope.specs.declared.kinds.Declared.{Declared}
use Rattle.c_senses.specs.World.{or_else}
use Rattle.c_senses.specs.Names.{linked_along, has_linkage}
use Rattle.tree_reads.specs.leaf_maps.Numbers.{number_at}
use Rattle.name_chains.specs.declared.links.Link.{Link}
use Rattle.name_chains.specs.declared.building.Seen.{Seen}
use Rattle.name_chains.specs.Links.{listed, IsLinkOf, Adds, TypedBy, HaveLeaves}
use Rattle.name_chains.specs.Chains.{Says}
use Rattle.name_chains.specs.Seen.{IsSeen, base_of, typed_with}
use Rattle.name_chains.proofs.Linked.{added_list, added_link, adds_on, adds_none}
use Rattle.name_chains.proofs.Chained.{says_kept}
use Rattle.name_chains.proofs.Seeing.{nodes_push, seen_push, places_push, typed_base, base_linked}
use Rattle.name_chains.proofs.building.note.Goals as goal

pub returns-clause-stands : goal.returns-clause-stands
returns-clause-stands c = λ n around ds at lt h.
    let d = c.args.declared in
    let own = c.args.chains.now.own.items in
    let own' = c.take_in.new.own.items in
    let first = c.args.chains.now.links.items in
    let second = c.linked_along.new.links.items in
    let third = c.push_link.new.links.items in
    let last = c.take_in.new.links.items in
    let list : c.as_slice.result.now ≡ own = c.as_slice.ensures.value in
    let scopes = c.args.scopes.now in
    let one = c.in_ok-linked.ensures.grows.adds in
    let two = c.in_ok-typing.ensures.adds in
    let three = c.in_ok-in_scope.ensures.links in
    let more : Adds own own' = c.in_ok-in_scope.ensures.own in
    let kept : Adds second last = adds_on second third last two three in
    let whole : Adds first last = adds_on first second last one kept in
    let begun : Adds first third = adds_on first second third one two in
    let said : Says c.as_slice.result.now first c.args.places.now ds = subst (λ (l : List Link). Says l first c.args.places.now ds) (sym list) h.says in
    let seen : listed second c.in_ok-linked.linked ≡ linked_along scopes d.symbol ds = c.in_ok-linked.ensures.list ds said in
    let based : listed third c.in_ok-typing.typing ≡ listed second (base_of d c.in_ok-linked.linked) ++ d ∷ [] =
    c.in_ok-typing.ensures.list ∙ ap (λ (o : Option ℕ). listed second o ++ d ∷ []) c.base_of.ensures in
    let typed : listed third c.in_ok-typing.typing ≡ typed_with (linked_along scopes d.symbol ds) d =
    typed_base second third d c.in_ok-linked.linked c.in_ok-typing.typing (linked_along scopes d.symbol ds) seen based in
    let linked_is = c.in_ok-linked.ensures.last in
    let third_is : IsLinkOf third c.in_ok-linked.linked = added_link second third two c.in_ok-linked.linked linked_is in
    let typed_by : has_linkage d ≡ true → TypedBy third d c.in_ok-linked.linked c.in_ok-typing.typing =
    λ e. based ∙ ap (λ (l : List Declared). l ++ d ∷ []) (base_linked second d c.in_ok-linked.linked e ∙ sym (added_list second third two c.in_ok-linked.linked linked_is)) in
    let says : Says own third c.args.places.now ds = says_kept own own first third (adds_none own c.requires.own) begun c.args.places.now ds c.requires.within h.says in
    let new : Seen = record { declared = d; linked = c.in_ok-linked.linked; typing = c.in_ok-typing.typing; in_scope = c.in_ok-in_scope.in_scope } in
    let here : IsSeen scopes ds d own' last new = record {
      declared = refl;
      linked_is = added_link third last three c.in_ok-linked.linked third_is;
      linked = added_list second last kept c.in_ok-linked.linked linked_is ∙ seen;
      typing_is = added_link third last three c.in_ok-typing.typing c.in_ok-typing.ensures.last;
      typing = added_list third last three c.in_ok-typing.typing c.in_ok-typing.ensures.last ∙ typed;
      in_scope_is = c.in_ok-in_scope.ensures.before;
      in_scope = c.in_ok-in_scope.ensures.list ds says;
    } in
    let there : IsSeen (around d.node) ds d own' last new = subst (λ (l : List ℕ). IsSeen l ds d own' last new) (sym at) here in
    let leaves : HaveLeaves n c.as_slice.result.now = subst (HaveLeaves n) (sym list) h.chains.own_leaves in
    let position : c.in_ok-position.position ≡ length ds = omega (arith, h.chains.count) in
    let placed : number_at c.add.new.self d.node ≡ or_else (number_at c.args.chains.now.positions d.node) (Some (length ds)) =
    c.in_ok-add.ensures.here ∙ ap (λ (m : ℕ). or_else (number_at c.args.chains.now.positions d.node) (Some m)) position in
    record {
      chains = record {
        own = more.backward;
        links = three.backward;
        own_leaves = c.in_ok-in_scope.ensures.own_leaves n h.chains.own_leaves lt;
        leaves = c.in_ok-in_scope.ensures.leaves n (c.in_ok-typing.ensures.leaves n (c.in_ok-linked.ensures.grows.leaves n leaves h.chains.leaves) lt) lt;
        nodes = nodes_push n ds d h.chains.nodes lt;
        count = ap length c.in_ok-push.ensures.items
            ∙ (length-append c.args.chains.now.seen.items (new ∷ []) ∙ (ap (λ (m : ℕ). m + 1) h.chains.count ∙ sym (length-append ds (d ∷ []))));
        places = places_push c.args.chains.now.positions c.add.new.self ds d h.chains.places placed c.in_ok-add.ensures.others;
        seen = λ k e x ek xk. seen_push n around ds d own own' first last c.args.chains.now.seen.items new more whole h.chains.count h.chains.seen there k e x ek
            (subst (λ (l : List Seen). slice_get l k ≡ Some x) c.in_ok-push.ensures.items xk);
      };
      says = c.in_ok-in_scope.ensures.says ds typed_by says;
    }
