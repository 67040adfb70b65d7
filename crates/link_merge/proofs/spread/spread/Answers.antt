use Rattle.std.proofs.Common.{◌≡◌, ◌<◌, ◌∷◌, [], ℕ, List, Option, Some, All, length, map, get_or, take, sym, ap, subst, ◌∙◌, arith}
use Rattle.unit_link.specs.link_program.Alike.{AreAlike}
use Rattle.link_merge.specs.Keys.{keys_of}
use Rattle.link_merge.specs.Parted.{lists_of, AreParted}
use Rattle.link_merge.proofs.Begun.{begun_many, begun_within, begun_itself}
use Rattle.link_merge.proofs.spread.spread.Goals as goal

pub parted-requires-clause-within : goal.parted-requires-clause-within
parted-requires-clause-within c =
    subst (λ (xs : List ℕ). All (λ l. l < length xs) xs) (sym (c.as_slice.ensures.value ∙ c.in_ok-first.ensures)) (begun_within c.args.leaders.now c.args.firsts.now c.requires.lead c.requires.within)

pub parted-requires-clause-itself : goal.parted-requires-clause-itself
parted-requires-clause-itself c =
    subst (λ (xs : List ℕ). (x : ℕ) → x < length xs → get_or xs (get_or xs x 0) 0 ≡ get_or xs x 0) (sym (c.as_slice.ensures.value ∙ c.in_ok-first.ensures)) (begun_itself c.args.leaders.now c.args.firsts.now c.requires.lead c.requires.within c.requires.itself)

pub first_part-of_tags-requires : goal.first_part-of_tags-requires
first_part-of_tags-requires c =
    let many = begun_many c.args.leaders.now c.args.firsts.now in
    let first = ap length (c.as_slice.ensures.value ∙ c.in_ok-first.ensures) in
    let all = c.in_ok-class.ensures.all in
    let seen = ap length c.as_slice-3.ensures.value in
    omega arith

pub returns : goal.returns
returns c =
    let leaders = c.args.leaders.now in
    let class = c.in_ok-class.class.items in
    let keys = ap keys_of c.as_slice-4.ensures.value ∙ (c.in_ok-keys.ensures ∙ ap (λ (xs : List ℕ). map (λ n. Some (n ∷ [])) xs) (c.first_part-of_tags.ensures ∙ ap (λ (xs : List ℕ). take (length leaders) xs) c.as_slice-3.ensures.value)) in
    record {
      class = class;
      parted = subst (λ (xs : List ℕ). AreParted xs (lists_of c.args.kids.now) class) (c.as_slice.ensures.value ∙ c.in_ok-first.ensures) c.in_ok-class.ensures;
      alike = subst (λ (ks : List (Option (List ℕ))). AreAlike ks c.in_ok-list.list.items) keys c.in_ok-list.ensures.alike;
    }
